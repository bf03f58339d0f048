-- The law: what the answers mean after any history of calls.
use Rattle.std.specs.Prelude.{◌≡◌, ℕ, ◌+◌, ◌<◌, ◌≤◌, true, List, length, Some, None, Option}
use Rattle.game.specs.Structure.{Structure}
use Rattle.game.specs.Bound.{bound}
use Rattle.refusal.specs.declared.Refusal.{Refusal}
use Rattle.atl.specs.declared.Kind.TheVariants.{Strategic}
use Rattle.atl.specs.declared.Modality.TheVariants.{Can}
use Rattle.atl.specs.declared.Temporal.{Temporal}
use Rattle.atl.specs.declared.Verdict.TheVariants.{Yes, No}
use Rattle.atl.specs.Rules.{rule}
use Rattle.atl.specs.Binding.{PlainParts}
use Rattle.table.specs.Standing.{Standing, Stack, found, settled}
use Rattle.board.specs.Truth.{formula, ExactlyWhen, Asked, IsBook, SettledRight}
use Rattle.calls.specs.declared.types.Call.{Call}
use Rattle.calls.specs.declared.types.Answer.TheVariants.{Refused}
use Rattle.calls.specs.Histories.{History, stack, stands, answer, left_in, then, Answered}

-- Rule n of st over the game m, and rule i of st' over m with the group A bound to f.
pub record SameBound (m : Structure) (A : ℕ) (f : ℕ → ℕ) (st : Stack) (n : ℕ) (st' : Stack) (i : ℕ) (x : Standing) : Type 0 where
  pub few : x.rounds ≤ m.states + 1
  pub enough : x.rounds ≡ m.states + 1 → settled (bound m A f) st' i ≡ true
  pub yes : settled (bound m A f) st' i ≡ true → (q : ℕ) → q < m.states → ExactlyWhen (Asked (bound m A f) st' i q Yes) (Asked m st n q Yes)
  pub no : settled (bound m A f) st' i ≡ true → (q : ℕ) → q < m.states → ExactlyWhen (Asked (bound m A f) st' i q No) (Asked m st n q No)

-- rule n, which is x on the rules below it, and is settled
pub record SettledLaw (m : Structure) (st : Stack) (n : ℕ) (x : Standing) (below : Stack) : Type 0 where
  -- its verdicts and its playbook are right
  pub right : SettledRight m st n x below
  -- a group bound to a playbook f of its rule: wherever, after any calls over that game, the same rule stands for nobody
  pub binding : (o : Temporal) → x.kind ≡ Strategic Can o → (f : ℕ → ℕ) → IsBook m st n f → PlainParts o (formula below x.r) (formula below x.s)
      → (h : History) → Answered (bound m x.group f) h
      → (i : ℕ) (y : Standing) (low : Stack) → found (stack h) i ≡ Some (y, low) → formula (stack h) i ≡ rule (Strategic Can o) 0 0 (formula below x.r) (formula below x.s)
      → SameBound m x.group f st n (stack h) i y

-- the rule without what is below it
abbrev pub the_rule : Option (Standing × Stack) → Option Standing
the_rule None = None
the_rule (Some p) = Some p.0

pub record Law (m : Structure) (h : History) : Type 0 where
  -- the rules of the stack are those that stand by their numbers
  pub numbers : (n : ℕ) → the_rule (found (stack h) n) ≡ stands h n
  -- a refused call leaves what stands and its buffer as they were
  pub refused : (c : Call) (buffer : List ℕ) (e : Refusal) → answer m (stack h) (length buffer) c ≡ Refused e
      → (stack (then m h (length buffer) c) ≡ stack h) × (left_in m (stack h) c buffer ≡ buffer)
  -- N + 1 rounds are enough
  pub few : (n : ℕ) (x : Standing) (below : Stack) → found (stack h) n ≡ Some (x, below) → x.rounds ≤ m.states + 1
  pub enough : (n : ℕ) (x : Standing) (below : Stack) → found (stack h) n ≡ Some (x, below) → x.rounds ≡ m.states + 1 → settled m (stack h) n ≡ true
  -- what a settled rule says
  pub means : (n : ℕ) (x : Standing) (below : Stack) → found (stack h) n ≡ Some (x, below) → settled m (stack h) n ≡ true → SettledLaw m (stack h) n x below
