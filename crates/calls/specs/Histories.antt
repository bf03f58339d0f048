-- Calls with their answers, and what stands after them: read from the game and the calls alone.
use Rattle.std.specs.Prelude.{◌≡◌, ℕ, Bool, true, false, cond, ◌&&◌, List, [], ◌∷◌, Some, None, Ok, Err, Option, Result, ◌==◌}
use Rattle.game.specs.Structure.{Structure}
use Rattle.refusal.specs.declared.Refusal.{Refusal}
use Rattle.atl.specs.declared.Kind.{Kind}
use Rattle.atl.specs.Kinds.{kind_of}
use Rattle.table.specs.Standing.{Standing, Stack, one_more, advanced}
use Rattle.table.specs.Answers.{nothing, fresh, write_answer, erase_answer, erase_after, round_answer, ask_answer, tell_answer, play_answer, copy_answer, buffer_after}
use Rattle.calls.specs.declared.types.Call.{Call}
use Rattle.calls.specs.declared.types.Call.TheVariants.{Write, Round, Erase, Ask, Tell, Play, Copy}
use Rattle.calls.specs.declared.types.Answer.{Answer}
use Rattle.calls.specs.declared.types.Answer.TheVariants.{Refused, Number, Marked, Says, Told, Choice, Copied}

-- What a call answers where the rules st stand, over a buffer of so many bytes: the first cause to refuse it, or what it gives.
abbrev pub given : {A : Type 0} → (A → Answer) → Result A Refusal → Answer
given f (Ok a) = f a
given f (Err e) = Refused e

-- a call that was taken is answered with what it gives
abbrev pub answered : Result Answer Refusal → Answer
answered = given (λ a. a)

abbrev pub told : ℕ × Bool → Answer
told p = Told p.0 p.1

abbrev pub answer : Structure → Stack → (size : ℕ) → Call → Answer
answer m st size (Write kind A r s) = given Number (write_answer m kind A r s st)
answer m st size (Round n) = given Marked (round_answer m n st)
answer m st size Erase = given Number (erase_answer st)
answer m st size (Ask n q) = given Says (ask_answer m n q st)
answer m st size (Tell n) = given told (tell_answer m n st)
answer m st size (Play n q) = given Choice (play_answer m n q st)
answer m st size (Copy n place) = given Copied (copy_answer m n place size st)

-- what the call leaves in the buffer
abbrev pub left_in : Structure → Stack → Call → List ℕ → List ℕ
left_in m st (Write kind A r s) buffer = buffer
left_in m st (Round n) buffer = buffer
left_in m st Erase buffer = buffer
left_in m st (Ask n q) buffer = buffer
left_in m st (Tell n) buffer = buffer
left_in m st (Play n q) buffer = buffer
left_in m st (Copy n place) buffer = buffer_after m n place st buffer

-- A call with the length of its buffer and its answer. A history has the newest first.
pub record Event : Type 0 where
  pub call : Call
  pub size : ℕ
  pub answer : Answer

abbrev pub History : Type 0
History = List Event

-- What stands after a history: an accepted write puts a rule on top, an erase takes the top away, a round is one more for its rule.
abbrev pub accepted : Answer → Bool
accepted (Refused e) = false
accepted (Number n) = true
accepted (Marked c) = true
accepted (Says v) = true
accepted (Told k b) = true
accepted (Choice c) = true
accepted (Copied n) = true

abbrev pub put : Option Kind → (A r s : ℕ) → Stack → Stack
put None A r s st = st
put (Some f) A r s st = fresh f A r s ∷ st

abbrev pub effect : Call → Stack → Stack
effect (Write kind A r s) st = put (kind_of kind) A r s st
effect (Round n) st = advanced n st
effect Erase st = erase_after st
effect (Ask n q) st = st
effect (Tell n) st = st
effect (Play n q) st = st
effect (Copy n place) st = st

abbrev pub after : Call → Answer → Stack → Stack
after c a st = cond (accepted a) (effect c st) st

abbrev pub stack : History → Stack
stack [] = nothing
stack (e ∷ h) = after e.call e.answer (stack h)

-- The same by numbers: n stands if the last write or erase that answered n is a write, with what that write took and the rounds accepted since.
abbrev pub answers_number : Answer → ℕ → Bool
answers_number (Refused e) n = false
answers_number (Number k) n = k == n
answers_number (Marked c) n = false
answers_number (Says v) n = false
answers_number (Told k b) n = false
answers_number (Choice c) n = false
answers_number (Copied k) n = false

abbrev pub written : Option Kind → (A r s : ℕ) → Option Standing
written None A r s = None
written (Some f) A r s = Some (fresh f A r s)

abbrev pub round_more : Option Standing → Option Standing
round_more None = None
round_more (Some x) = Some (one_more x)

abbrev pub becomes : Call → Answer → ℕ → Option Standing → Option Standing
becomes (Write kind A r s) a n before = cond (answers_number a n) (written (kind_of kind) A r s) before
becomes Erase a n before = cond (answers_number a n) None before
becomes (Round j) a n before = cond (accepted a && j == n) (round_more before) before
becomes (Ask j q) a n before = before
becomes (Tell j) a n before = before
becomes (Play j q) a n before = before
becomes (Copy j place) a n before = before

abbrev pub stands : History → ℕ → Option Standing
stands [] n = None
stands (e ∷ h) n = becomes e.call e.answer n (stands h n)

-- each call of the history was answered as it had to be, on what the earlier ones left
abbrev pub Answered : Structure → History → Type 0
Answered m [] = Unit {0}
Answered m (e ∷ h) = (e.answer ≡ answer m (stack h) e.size e.call) × Answered m h

-- A list of calls after a history, each on what the earlier ones left: the longer history, the answers, and what is left in the buffer.
abbrev pub then : Structure → History → (size : ℕ) → Call → History
then m h size c = record { call = c; size = size; answer = answer m (stack h) size c } ∷ h

abbrev pub history : Structure → History → (size : ℕ) → List Call → History
history m h size [] = h
history m h size (c ∷ cs) = history m (then m h size c) size cs

abbrev pub answers : Structure → History → (size : ℕ) → List Call → List Answer
answers m h size [] = []
answers m h size (c ∷ cs) = answer m (stack h) size c ∷ answers m (then m h size c) size cs

abbrev pub left_after : Structure → History → (size : ℕ) → List Call → List ℕ → List ℕ
left_after m h size [] buffer = buffer
left_after m h size (c ∷ cs) buffer = left_after m (then m h size c) size cs (left_in m (stack h) c buffer)
