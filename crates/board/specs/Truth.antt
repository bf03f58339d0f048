-- What the answers for a settled rule mean, in the subject's words.
use Rattle.std.specs.Prelude.{◌≡◌, ℕ, ◌+◌, ◌*◌, ◌<◌, true, cond, List, [], ◌∷◌, length, take, drop, Some, Ok, ◌==◌}
use Rattle.game.specs.Structure.{Structure}
use Rattle.atl.specs.declared.Kind.{Kind}
use Rattle.atl.specs.declared.Kind.TheVariants.{Label, Not, Or, Strategic}
use Rattle.atl.specs.declared.Modality.TheVariants.{Can, Despite}
use Rattle.atl.specs.declared.Temporal.{Temporal}
use Rattle.atl.specs.declared.Temporal.TheVariants.{Until}
use Rattle.atl.specs.declared.Verdict.{Verdict}
use Rattle.atl.specs.declared.Verdict.TheVariants.{Yes, No}
use Rattle.atl.specs.Strategy.{Run, Goal, Strategy, Outcome, MeetsUntilWithin, SomeStrategyForces, SomeRememberingForces, EachStrategyAllows}
use Rattle.atl.specs.Rules.{Formula, Satisfies, goal, rule}
use Rattle.atl.specs.Rules.Formula.{label, neg, or}
use Rattle.table.specs.declared.types.Table.{Table}
use Rattle.table.specs.Standing.{Standing, Stack, found, settled}
use Rattle.table.specs.Answers.{ask_answer, play_answer, copy_answer, buffer_after, four_bytes}
use Rattle.table.specs.Shows.{Shows}

-- what rule n says, its parts followed down; a number that does not stand says nothing that matters
abbrev pub formula : Stack → ℕ → Formula
formula [] n = label 0
formula (x ∷ below) n =
    cond (n == length below)
    (rule x.kind x.group x.r (formula below x.r) (formula below x.s))
    (formula below n)

abbrev pub ExactlyWhen : Type 0 → Type 0 → Type 0
ExactlyWhen P Q = (P → Q) × (Q → P)

-- The verdicts. Y and N: ask answers yes, and no.

-- label, not, or
pub record Truth (m : Structure) (φ : Formula) (q : ℕ) (Y N : Type 0) : Type 0 where
  pub yes : ExactlyWhen Y (Satisfies m φ q)
  pub no : ExactlyWhen N (Satisfies m φ q → ⊥)

-- can: a yes says that some strategy forces the goal, a no that not even one that remembers does
pub record Ability (m : Structure) (A : ℕ) (G : Goal) (q : ℕ) (Y N : Type 0) : Type 0 where
  pub yes : ExactlyWhen Y (SomeStrategyForces m A G q)
  pub no : ExactlyWhen N (SomeRememberingForces m A G q → ⊥)

-- despite
pub record Possibility (m : Structure) (A : ℕ) (G : Goal) (q : ℕ) (Y N : Type 0) : Type 0 where
  pub yes : ExactlyWhen Y (EachStrategyAllows m A G q)
  pub no : ExactlyWhen N (EachStrategyAllows m A G q → ⊥)

-- a rule of the kind with the group A, the label l and the parts r and s
abbrev pub Means : Structure → Kind → (A l : ℕ) → (r s : Formula) → (q : ℕ) → (Y N : Type 0) → Type 0
Means m Label A l r s q Y N = Truth m (label l) q Y N
Means m Not A l r s q Y N = Truth m (neg r) q Y N
Means m Or A l r s q Y N = Truth m (or r s) q Y N
Means m (Strategic Can o) A l r s q Y N = Ability m A (goal o (Satisfies m r) (Satisfies m s)) q Y N
Means m (Strategic Despite o) A l r s q Y N = Possibility m A (goal o (Satisfies m r) (Satisfies m s)) q Y N

module _ (m : Structure) (st : Stack) (n : ℕ) where
  -- ask of rule n answers the verdict with the number k; with some number
  abbrev pub ShowsNumber : ℕ → Verdict → ℕ → Type 0
  ShowsNumber q v k = ask_answer m n q st ≡ Ok (record { verdict = v; number = k })

  abbrev pub Asked : ℕ → Verdict → Type 0
  Asked q v = (k : ℕ) × ShowsNumber q v k

  -- f is the playbook of rule n, as play answers it
  abbrev pub IsBook : (ℕ → ℕ) → Type 0
  IsBook f = (q : ℕ) → q < m.states → play_answer m n q st ≡ Ok (f q)

  -- and as copy writes it: wherever a copy of rule n is accepted, each state has the four bytes of its choice
  abbrev pub IsCopied : (ℕ → ℕ) → Type 0
  IsCopied f = (place c : ℕ) (buffer : List ℕ) → copy_answer m n place (length buffer) st ≡ Ok c
      → (q : ℕ) → q < m.states → take 4 (drop (place + 4 * q) (buffer_after m n place st buffer)) ≡ four_bytes (f q)

-- a playbook f of the can-rule n, for the group A with the parts r and s
pub record BookRight (m : Structure) (st : Stack) (n A : ℕ) (o : Temporal) (r s : Formula) (f : ℕ → ℕ) : Type 0 where
  pub is_strategy : Strategy m A f
  -- from each yes all its outcomes meet the goal
  pub forces : (q : ℕ) → q < m.states → Asked m st n q Yes
      → (ρ : Run) → Outcome m A f q ρ → goal o (Satisfies m r) (Satisfies m s) ρ
  -- from an until's yes of number k within k steps
  pub in_time : o ≡ Until → (q k : ℕ) → q < m.states → ShowsNumber m st n q Yes k
      → (ρ : Run) → Outcome m A f q ρ → MeetsUntilWithin k (Satisfies m r) (Satisfies m s) ρ
  pub copied : IsCopied m st n f

-- rule n, which is x on the rules below it, and is settled
pub record SettledRight (m : Structure) (st : Stack) (n : ℕ) (x : Standing) (below : Stack) : Type 0 where
  pub says : formula st n ≡ rule x.kind x.group x.r (formula below x.r) (formula below x.s)
  pub verdicts : (q : ℕ) → q < m.states → Means m x.kind x.group x.r (formula below x.r) (formula below x.s) q (Asked m st n q Yes) (Asked m st n q No)
  -- a can-rule has a playbook
  pub has_book : (o : Temporal) → x.kind ≡ Strategic Can o → (f : ℕ → ℕ) × IsBook m st n f
  pub books : (o : Temporal) → x.kind ≡ Strategic Can o → (f : ℕ → ℕ) → IsBook m st n f → BookRight m st n x.group o (formula below x.r) (formula below x.s) f

-- whatever stands, what is answered for rule n is right once it is settled
abbrev pub TrueOf : Structure → Table → ℕ → Type 0
TrueOf m t n = (st : Stack) → Shows m st t → (x : Standing) (below : Stack) → found st n ≡ Some (x, below) → settled m st n ≡ true → SettledRight m st n x below
