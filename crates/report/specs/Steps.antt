-- What the steps of judging do: the calls that judge a rule, what is read of their answers, and what the board shows after them.
use Rattle.std.specs.Prelude.{⊤, ◌≡◌, ℕ, zero, suc, ◌+◌, ◌<◌, ◌≤◌, true, List, [], ◌∷◌, ◌++◌, length, replicate, Some, None, Ok, Err, vec_items, Option, Result, Vec}
use Rattle.std.specs.declared.alloc.Global.{Global}
use Rattle.std.specs.Option.{option_to_list}
use Rattle.game.specs.Structure.{Structure}
use Rattle.refusal.specs.declared.Refusal.{Refusal}
use Rattle.book.specs.declared.rules.RuleField.{RuleField}
use Rattle.book.specs.Told.{rule_count}
use Rattle.atl.specs.declared.Shown.{Shown}
use Rattle.table.specs.declared.types.Table.{Table}
use Rattle.table.specs.Standing.{Standing, Stack, settled}
use Rattle.table.specs.Answers.{copy_answer, buffer_after}
use Rattle.table.specs.Shows.{Shows}
use Rattle.calls.specs.declared.types.Call.{Call}
use Rattle.calls.specs.declared.types.Call.TheVariants.{Write, Round, Ask, Tell}
use Rattle.calls.specs.declared.types.Answer.{Answer}
use Rattle.calls.specs.declared.types.Answer.TheVariants.{Refused, Number, Marked, Says, Told, Choice, Copied}
use Rattle.calls.specs.Histories.{History, stack, Answered}
use Rattle.listing.specs.declared.Row.{Row}
use Rattle.listing.specs.Text.{rows_text}
use Rattle.report.specs.declared.types.Report.{Report}
use Rattle.report.specs.declared.types.Stopped.{Stopped}
use Rattle.report.specs.declared.types.Stopped.TheVariants.{RefusedAt, NoMemory}
use Rattle.report.specs.Judging.{judged_on, judged, rule_number, judgement}
use Rattle.report.specs.Printed.{Prints, declines, marks_shown, lines, played}

-- The calls that judge rule n: it is written, given as many rounds as any rule may need, and then asked at each state.
abbrev pub asks : (n states : ℕ) → List Call
asks n zero = []
asks n (suc q) = asks n q ++ (Ask n q ∷ [])

abbrev pub script : (states n : ℕ) → RuleField → List Call
script states n x = ((Write x.kind x.group x.r x.s ∷ replicate (states + 1) (Round n)) ++ (Tell n ∷ [])) ++ asks n states

-- What an answer says.
abbrev pub refusal_in : Answer → Option Refusal
refusal_in (Refused e) = Some e
refusal_in (Number n) = None
refusal_in (Marked c) = None
refusal_in (Says v) = None
refusal_in (Told k b) = None
refusal_in (Choice c) = None
refusal_in (Copied n) = None

abbrev pub shown_in : Answer → Option Shown
shown_in (Refused e) = None
shown_in (Number n) = None
shown_in (Marked c) = None
shown_in (Says v) = Some v
shown_in (Told k b) = None
shown_in (Choice c) = None
shown_in (Copied n) = None

-- the rounds that it tells, else those told before
abbrev pub rounds_in : ℕ → Answer → ℕ
rounds_in before (Refused e) = before
rounds_in before (Number n) = before
rounds_in before (Marked c) = before
rounds_in before (Says v) = before
rounds_in before (Told k b) = k
rounds_in before (Choice c) = before
rounds_in before (Copied n) = before

-- whether the first call was refused
abbrev pub first_refused : List Answer → Option Refusal
first_refused [] = None
first_refused (a ∷ all) = refusal_in a

-- all that is shown, and the rounds told last
abbrev pub all_shown : List Answer → List Shown
all_shown [] = []
all_shown (a ∷ all) = option_to_list (shown_in a) ++ all_shown all

abbrev pub last_told : ℕ → List Answer → ℕ
last_told before [] = before
last_told before (a ∷ all) = last_told (rounds_in before a) all

-- the row shows what the rule x on the rules below it says
pub record RowRight (m : Structure) (x : Standing) (below : Stack) (row : Row) : Type 0 where
  pub rounds : row.rounds ≡ x.rounds
  pub marks : vec_items row.marks ≡ marks_shown m x below m.states

-- Calls on a new board led to what stands, and every rule of it is settled.
pub record Led (m : Structure) (st : Stack) : Type 0 where
  pub calls : History
  pub answered : Answered m calls
  pub is : stack calls ≡ st
  pub all_settled : (n : ℕ) → n < length st → settled m st n ≡ true

-- and the table shows it
pub record Reached (m : Structure) (st : Stack) (t : Table) : Type 0 where
  pub led : Led m st
  pub shows : Shows m st t

-- the rule f was judged on st: it stands as x, with its row; or it was refused under its number
abbrev pub RuleJudged : Structure → RuleField → Stack → Table → Result Row Stopped → Type 0
RuleJudged m f st t' (Ok row) = (x : Standing) × (judged_on m f st ≡ Ok (x ∷ st)) × Reached m (x ∷ st) t' × RowRight m x st row
RuleJudged m f st t' (Err (RefusedAt n e)) = (n ≡ length st) × (judged_on m f st ≡ Err e)
RuleJudged m f st t' (Err (NoMemory e)) = ⊤

-- whatever stands, if it is settled
abbrev pub JudgesRule : Structure → RuleField → (n : ℕ) → (t t' : Table) → Result Row Stopped → Type 0
JudgesRule m f n t t' r = (st : Stack) → Reached m st t → length st ≡ n → RuleJudged m f st t' r

-- The first n rules that the bytes tell are judged, and the rows show what each says.
pub record RowsSoFar (m : Structure) (bs : List ℕ) (rows : List Row) (n : ℕ) (t : Table) : Type 0 where
  pub within : n ≤ rule_count bs
  pub stands : Stack
  pub judged_is : judged m (rule_number bs) n ≡ Ok stands
  pub height : length stands ≡ n
  pub reached : Reached m stands t
  pub many : length rows ≡ n
  pub text : rows_text 0 rows ≡ lines m stands

-- all rules that the bytes tell were judged: their rows, or the first that was refused
pub record RowsRight (m : Structure) (bs : List ℕ) (t : Table) (rows : List Row) : Type 0 where
  pub stands : Stack
  pub judged_is : judgement m bs ≡ Ok stands
  pub reached : Reached m stands t
  pub text : rows_text 0 rows ≡ lines m stands

abbrev pub AllJudged : Structure → List ℕ → Table → Result (Vec Row Global) Stopped → Type 0
AllJudged m bs t (Ok rows) = RowsRight m bs t (vec_items rows)
AllJudged m bs t (Err (RefusedAt n e)) = judgement m bs ≡ Err (n, e)
AllJudged m bs t (Err (NoMemory e)) = ⊤

-- the line of the rule that was refused; want of memory has none
abbrev pub DeclinesStopped : Stopped → Report → Type 0
DeclinesStopped (RefusedAt n e) report = Prints (declines (n, e)) report
DeclinesStopped (NoMemory e) report = ⊥

-- A copy of rule n's playbook, whatever stands: why it was refused, if it was, and what is in the buffer then.
abbrev pub refusal_if : Result ℕ Refusal → Option Refusal
refusal_if (Ok c) = None
refusal_if (Err e) = Some e

abbrev pub Copies : Structure → (n : ℕ) → Table → (b b' : List ℕ) → Option Refusal → Type 0
Copies m n t b b' o = (st : Stack) → Reached m st t → (o ≡ refusal_if (copy_answer m n 0 (length b) st)) × (b' ≡ buffer_after m n 0 st b)

-- and what is printed of it
abbrev pub Books : Structure → (n : ℕ) → Table → Report → Type 0
Books m n t report = (st : Stack) → Reached m st t → Prints (played m n (Ok st)) report
