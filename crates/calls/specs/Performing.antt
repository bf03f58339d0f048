-- What performing calls does to a board and a buffer.
use Rattle.std.specs.Prelude.{◌≡◌, ℕ, List, length, take, Ok, Err, Result}
use Rattle.game.specs.Structure.{Structure}
use Rattle.refusal.specs.declared.Refusal.{Refusal}
use Rattle.table.specs.declared.types.Table.{Table}
use Rattle.table.specs.Standing.{Stack}
use Rattle.table.specs.Shows.{Shows}
use Rattle.calls.specs.declared.types.Call.{Call}
use Rattle.calls.specs.declared.types.Answer.{Answer}
use Rattle.calls.specs.declared.types.Answer.TheVariants.{Refused}
use Rattle.calls.specs.Histories.{answer, after, left_in, History, stack, Answered, history, answers, left_after}
use Rattle.calls.specs.Law.{Law}

-- One call, whatever stands: table t and buffer b become t' and b', and the answer is a. A refusal leaves both as they were.
pub record DoesCall (m : Structure) (c : Call) (t t' : Table) (b b' : List ℕ) (a : Answer) : Type 0 where
  pub answers : (st : Stack) → Shows m st t → a ≡ answer m st (length b) c
  pub shows : (st : Stack) → Shows m st t → Shows m (after c a st) t'
  pub buffer : (st : Stack) → Shows m st t → b' ≡ left_in m st c b
  pub refused : (e : Refusal) → a ≡ Refused e → (t' ≡ t) × (b' ≡ b)

-- The calls of a list after the history h, each on what the earlier ones left: the answers are `all`, and table and buffer are t' and b' in the end.
pub record Performed (m : Structure) (h : History) (calls : List Call) (b : List ℕ) (t' : Table) (b' : List ℕ) (all : List Answer) : Type 0 where
  pub answers : all ≡ answers m h (length b) calls
  pub shows : Shows m (stack (history m h (length b) calls)) t'
  pub buffer : b' ≡ left_after m h (length b) calls b
  pub answered : Answered m (history m h (length b) calls)
  -- at each point of the list
  pub law : (k : ℕ) → Law m (history m h (length b) (take k calls))

-- whatever calls came before, if the table shows what stands after them
abbrev pub Performs : Structure → List Call → (t t' : Table) → (b b' : List ℕ) → List Answer → Type 0
Performs m calls t t' b b' all = (h : History) → Answered m h → Shows m (stack h) t → Performed m h calls b t' b' all

-- want of memory leaves board and buffer as they were
abbrev pub PerformsOrLeaves : {V E : Type 0} → (V → List Answer) → Structure → List Call → (t t' : Table) → (b b' : List ℕ) → Result V E → Type 0
PerformsOrLeaves items m calls t t' b b' (Ok v) = Performs m calls t t' b b' (items v)
PerformsOrLeaves items m calls t t' b b' (Err e) = (t' ≡ t) × (b' ≡ b)
