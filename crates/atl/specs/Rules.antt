-- What a rule says, and where it is true: read from the game and the rule alone.
use Rattle.std.specs.Prelude.{◌≡◌, ℕ, ◌/◌, ◌%◌, ◌^◌, ◌⊎◌}
use Rattle.game.specs.Structure.{Structure}
use Rattle.atl.specs.declared.Kind.{Kind}
use Rattle.atl.specs.declared.Kind.TheVariants.{Label, Not, Or, Strategic}
use Rattle.atl.specs.declared.Modality.{Modality}
use Rattle.atl.specs.declared.Modality.TheVariants.{Can, Despite}
use Rattle.atl.specs.declared.Temporal.{Temporal}
use Rattle.atl.specs.declared.Temporal.TheVariants.{Next, Until, Unless}
use Rattle.atl.specs.Strategy.{Set, Goal, MeetsNext, MeetsUntil, MeetsUnless, SomeStrategyForces, EachStrategyAllows}

pub data Formula : Type 0 where
  label : (l : ℕ) → Formula
  neg : (r : Formula) → Formula
  or : (r s : Formula) → Formula
  next : (w : Modality) (A : ℕ) (r : Formula) → Formula
  until unless : (w : Modality) (A : ℕ) (r s : Formula) → Formula

-- what the runs of a strategic rule are to meet, from the states R and S that satisfy its parts; a next has no second part
abbrev pub goal : Temporal → Set → Set → Goal
goal Next R S = MeetsNext R
goal Until R S = MeetsUntil R S
goal Unless R S = MeetsUnless R S

-- can: the group has a strategy for the goal; despite: no strategy of the group rules the goal out
abbrev pub Strategically : Modality → Structure → (A : ℕ) → Goal → Set
Strategically Can m A G = SomeStrategyForces m A G
Strategically Despite m A G = EachStrategyAllows m A G

abbrev pub Satisfies : Structure → Formula → Set
Satisfies m (label l) q = m.labels q / 2 ^ l % 2 ≡ 1
Satisfies m (neg r) q = Satisfies m r q → ⊥
Satisfies m (or r s) q = Satisfies m r q ⊎ Satisfies m s q
Satisfies m (next w A r) q = Strategically w m A (MeetsNext (Satisfies m r)) q
Satisfies m (until w A r s) q = Strategically w m A (MeetsUntil (Satisfies m r) (Satisfies m s)) q
Satisfies m (unless w A r s) q = Strategically w m A (MeetsUnless (Satisfies m r) (Satisfies m s)) q

-- the rule of a kind with the group A, the label l and the parts r and s; each kind reads what it needs
abbrev pub rule : Kind → (A l : ℕ) → (r s : Formula) → Formula
rule Label A l r s = label l
rule Not A l r s = neg r
rule Or A l r s = or r s
rule (Strategic w Next) A l r s = next w A r
rule (Strategic w Until) A l r s = until w A r s
rule (Strategic w Unless) A l r s = unless w A r s
