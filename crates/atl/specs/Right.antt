-- The rounds are right: a settled rule answers yes where it is true, no elsewhere, and its playbook is a strategy for it.
use Rattle.std.specs.Prelude.{◌≡◌, ℕ, ◌<◌, Bool, true, Decides}
use Rattle.game.specs.Structure.{Structure, Limits}
use Rattle.atl.specs.declared.Kind.{Kind}
use Rattle.atl.specs.declared.Kind.TheVariants.{Label, Not, Or, Strategic}
use Rattle.atl.specs.declared.Modality.TheVariants.{Can, Despite}
use Rattle.atl.specs.declared.Temporal.{Temporal}
use Rattle.atl.specs.declared.Temporal.TheVariants.{Next, Until, Unless}
use Rattle.atl.specs.declared.Mark.TheVariants.{Yes}
use Rattle.atl.specs.Rounds.{is_yes, marks}
use Rattle.atl.specs.Strategy.{Run, Strategy, Outcome, MeetsUntilWithin, Misses, SomeStrategyForces, SomeRememberingForces, EachStrategyAllows, EachRememberingAllows}
use Rattle.atl.specs.Rules.{Formula, Satisfies, goal, rule}
use Rattle.atl.specs.Verdict.{is_no, Settled, final, yes, no, verdict}
use Rattle.atl.specs.Playbook.{playbook}

-- R is where r is true
abbrev pub Knows : Structure → Formula → (ℕ → Bool) → Type 0
Knows m r R = (q : ℕ) → q < m.states → Decides (R q) (Satisfies m r q)

-- each part that a rule of the kind has is known
abbrev pub KnowsParts : Structure → Kind → (r s : Formula) → (R S : ℕ → Bool) → Type 0
KnowsParts m Label r s R S = Unit {0}
KnowsParts m Not r s R S = Knows m r R
KnowsParts m Or r s R S = Knows m r R × Knows m s S
KnowsParts m (Strategic w Next) r s R S = Knows m r R
KnowsParts m (Strategic w Until) r s R S = Knows m r R × Knows m s S
KnowsParts m (Strategic w Unless) r s R S = Knows m r R × Knows m s S

-- What a rule of kind f, settled by round k, answers at the state q.
pub record RuleRight (m : Structure) (f : Kind) (A l : ℕ) (r s : Formula) (R S : ℕ → Bool) (k q : ℕ) : Type 0 where
  pub yes_right : Decides (yes m f A l R S k q) (Satisfies m (rule f A l r s) q)
  pub no_right : Decides (no m f A l R S k q) (Satisfies m (rule f A l r s) q → ⊥)

abbrev pub EveryRuleRight : Type 0
EveryRuleRight = (m : Structure) → Limits m → (f : Kind) (A l : ℕ) (r s : Formula) (R S : ℕ → Bool) (k : ℕ)
    → KnowsParts m f r s R S → Settled m f A l R S k
    → (q : ℕ) → q < m.states → RuleRight m f A l r s R S k q

-- a mark that some round has given is right already, settled or not
pub record MarkRight (m : Structure) (f : Kind) (A l : ℕ) (r s : Formula) (R S : ℕ → Bool) (k q : ℕ) : Type 0 where
  pub yes_right : is_yes (marks m f A l R S k q) ≡ true → Satisfies m (rule f A l r s) q
  pub no_right : is_no (marks m f A l R S k q) ≡ true → Satisfies m (rule f A l r s) q → ⊥

abbrev pub EveryMarkRight : Type 0
EveryMarkRight = (m : Structure) → Limits m → (f : Kind) (A l : ℕ) (r s : Formula) (R S : ℕ → Bool) (k : ℕ)
    → KnowsParts m f r s R S
    → (q : ℕ) → q < m.states → MarkRight m f A l r s R S k q

-- where a can-rule says yes, some strategy that looks at the state alone is enough; where it says no, not even one that remembers is
pub record CanRight (m : Structure) (A l : ℕ) (o : Temporal) (r s : Formula) (R S : ℕ → Bool) (k q : ℕ) : Type 0 where
  pub yes_right : Decides (yes m (Strategic Can o) A l R S k q) (SomeStrategyForces m A (goal o (Satisfies m r) (Satisfies m s)) q)
  pub no_right : Decides (no m (Strategic Can o) A l R S k q) (SomeRememberingForces m A (goal o (Satisfies m r) (Satisfies m s)) q → ⊥)
  -- there each strategy has an outcome that misses the goal
  pub missed : no m (Strategic Can o) A l R S k q ≡ true → EachRememberingAllows m A (Misses (goal o (Satisfies m r) (Satisfies m s))) q

-- where a despite-rule says yes, no strategy rules the goal out, not even one that remembers; where it says no, one that looks at the state alone does
pub record DespiteRight (m : Structure) (A l : ℕ) (o : Temporal) (r s : Formula) (R S : ℕ → Bool) (k q : ℕ) : Type 0 where
  pub yes_right : Decides (yes m (Strategic Despite o) A l R S k q) (EachRememberingAllows m A (goal o (Satisfies m r) (Satisfies m s)) q)
  pub no_right : Decides (no m (Strategic Despite o) A l R S k q) (EachStrategyAllows m A (goal o (Satisfies m r) (Satisfies m s)) q → ⊥)
  -- there some strategy has only outcomes that miss the goal
  pub missed : no m (Strategic Despite o) A l R S k q ≡ true → SomeStrategyForces m A (Misses (goal o (Satisfies m r) (Satisfies m s))) q

abbrev pub EveryCanRight : Type 0
EveryCanRight = (m : Structure) → Limits m → (o : Temporal) (A l : ℕ) (r s : Formula) (R S : ℕ → Bool) (k : ℕ)
    → KnowsParts m (Strategic Can o) r s R S → Settled m (Strategic Can o) A l R S k
    → (q : ℕ) → q < m.states → CanRight m A l o r s R S k q

abbrev pub EveryDespiteRight : Type 0
EveryDespiteRight = (m : Structure) → Limits m → (o : Temporal) (A l : ℕ) (r s : Formula) (R S : ℕ → Bool) (k : ℕ)
    → KnowsParts m (Strategic Despite o) r s R S → Settled m (Strategic Despite o) A l R S k
    → (q : ℕ) → q < m.states → DespiteRight m A l o r s R S k q

-- g plays the playbook of a can-rule that round k has settled
abbrev pub PlaysBook : (m : Structure) (A l : ℕ) (o : Temporal) (R S : ℕ → Bool) (k : ℕ) (g : ℕ → ℕ) → Type 0
PlaysBook m A l o R S k g = (q : ℕ) → q < m.states → g q ≡ playbook m A (final m (Strategic Can o) A l R S k) R S o q

pub record PlaybookRight (m : Structure) (A l : ℕ) (o : Temporal) (r s : Formula) (R S : ℕ → Bool) (k : ℕ) (g : ℕ → ℕ) : Type 0 where
  pub is_strategy : Strategy m A g
  -- every outcome from a yes meets the goal
  pub forces : (q : ℕ) → q < m.states → yes m (Strategic Can o) A l R S k q ≡ true
      → (ρ : Run) → Outcome m A g q ρ → goal o (Satisfies m r) (Satisfies m s) ρ
  -- from an until's yes of number j, within j steps
  pub in_time : o ≡ Until → (q j : ℕ) → q < m.states → final m (Strategic Can o) A l R S k q ≡ Yes j
      → (ρ : Run) → Outcome m A g q ρ → MeetsUntilWithin j (Satisfies m r) (Satisfies m s) ρ

abbrev pub EveryPlaybookRight : Type 0
EveryPlaybookRight = (m : Structure) → Limits m → (o : Temporal) (A l : ℕ) (r s : Formula) (R S : ℕ → Bool) (k : ℕ)
    → KnowsParts m (Strategic Can o) r s R S → Settled m (Strategic Can o) A l R S k
    → (g : ℕ → ℕ) → PlaysBook m A l o R S k g → PlaybookRight m A l o r s R S k g

-- a rule of any depth, through the rounds of all its parts
abbrev pub EveryVerdictRight : Type 0
EveryVerdictRight = (m : Structure) → Limits m → (r : Formula) → Knows m r (verdict m r)
