-- A group bound to the playbook of its rule reaches as much as it could.
use Rattle.std.specs.Prelude.{◌≡◌, ℕ, suc, ◌<◌, ◌≤◌, Bool}
use Rattle.game.specs.Structure.{Structure, Limits}
use Rattle.game.specs.Bound.{bound, BoundKeepsLimits}
use Rattle.atl.specs.declared.Kind.TheVariants.{Strategic}
use Rattle.atl.specs.declared.Modality.TheVariants.{Can}
use Rattle.atl.specs.declared.Temporal.{Temporal}
use Rattle.atl.specs.declared.Temporal.TheVariants.{Next, Until, Unless}
use Rattle.atl.specs.Strategy.{Step, Strategy}
use Rattle.atl.specs.Rules.{Formula}
use Rattle.atl.specs.Rules.Formula.{label, neg, or, next, until, unless}
use Rattle.atl.specs.Verdict.{Settled, yes, no}
use Rattle.atl.specs.Right.{KnowsParts, PlaysBook}

-- a rule of labels, not and or
abbrev pub Plain : Formula → Type 0
Plain (label l) = Unit {0}
Plain (neg r) = Plain r
Plain (or r s) = Plain r × Plain s
Plain (next w A r) = ⊥
Plain (until w A r s) = ⊥
Plain (unless w A r s) = ⊥

-- the parts of a rule are plain, as far as it has them
abbrev pub PlainParts : Temporal → (r s : Formula) → Type 0
PlainParts Next r s = Plain r
PlainParts Until r s = Plain r × Plain s
PlainParts Unless r s = Plain r × Plain s

-- The same rule in two games: for the group A in m, settled by round k, and for nobody in m with A bound to g, settled by round j.
pub record BindingRight : Type 0 where
  -- the bound game is within the limits
  pub limits : BoundKeepsLimits
  -- where nobody chooses, its steps are those of the entries that are choices
  pub steps : (m : Structure) → Limits m → (A : ℕ) (g : ℕ → ℕ) → Strategy m A g
      → (q t : ℕ) → q < m.states → (Step (bound m A g) 0 q 0 t → Step m A q (g q) t) × (Step m A q (g q) t → Step (bound m A g) 0 q 0 t)
  -- a rule settles there as soon
  pub settles : (m : Structure) → Limits m → (o : Temporal) (A i : ℕ) (R' S' : ℕ → Bool) (g : ℕ → ℕ)
      → (j : ℕ) × (j ≤ suc m.states) × Settled (bound m A g) (Strategic Can o) 0 i R' S' j
  -- and if g plays the playbook, and the parts are plain, with the same answers
  pub same : (m : Structure) → Limits m → (o : Temporal) (A l i : ℕ) (r s : Formula) (R S R' S' : ℕ → Bool) (k j : ℕ) (g : ℕ → ℕ)
      → PlainParts o r s → PlaysBook m A l o R S k g
      → KnowsParts m (Strategic Can o) r s R S → Settled m (Strategic Can o) A l R S k
      → KnowsParts (bound m A g) (Strategic Can o) r s R' S' → Settled (bound m A g) (Strategic Can o) 0 i R' S' j
      → (q : ℕ) → q < m.states
      → (yes (bound m A g) (Strategic Can o) 0 i R' S' j q ≡ yes m (Strategic Can o) A l R S k q) × (no (bound m A g) (Strategic Can o) 0 i R' S' j q ≡ no m (Strategic Can o) A l R S k q)
