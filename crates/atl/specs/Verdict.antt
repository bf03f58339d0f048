-- What the rounds come to.
use Rattle.std.specs.Prelude.{◌≡◌, ℕ, suc, Bool, true, false}
use Rattle.game.specs.Structure.{Structure}
use Rattle.atl.specs.declared.Kind.{Kind}
use Rattle.atl.specs.declared.Kind.TheVariants.{Label, Not, Or, Strategic}
use Rattle.atl.specs.declared.Temporal.TheVariants.{Next, Until, Unless}
use Rattle.atl.specs.declared.Mark.{Mark}
use Rattle.atl.specs.declared.Mark.TheVariants.{Open, Yes, No}
use Rattle.atl.specs.Rounds.{is_yes, marks, settles, closed}
use Rattle.atl.specs.Rules.{Formula}
use Rattle.atl.specs.Rules.Formula.{label, neg, or, next, until, unless}

abbrev pub is_no : Mark → Bool
is_no Open = false
is_no (Yes n) = false
is_no (No n) = true

-- A rule of kind f with the group A and the label l; R and S are the yes states of its parts.
module _ (m : Structure) (f : Kind) (A l : ℕ) (R S : ℕ → Bool) where
  -- round k settles it
  abbrev pub Settled : ℕ → Type 0
  Settled k = settles m.states f (marks m f A l R S) k ≡ true

  -- its mark of a state where k rounds settle it
  abbrev pub final : ℕ → ℕ → Mark
  final k q = closed f true (marks m f A l R S k q)

  abbrev pub yes : ℕ → ℕ → Bool
  yes k q = is_yes (final k q)

  abbrev pub no : ℕ → ℕ → Bool
  no k q = is_no (final k q)

-- in place of a part that a rule lacks
abbrev pub nowhere : ℕ → Bool
nowhere q = false

-- where a rule of any depth is yes once it and all its parts are settled, which one round more than there are states is enough for
abbrev pub verdict : Structure → Formula → ℕ → Bool
verdict m (label l) = yes m Label 0 l nowhere nowhere (suc m.states)
verdict m (neg r) = yes m Not 0 0 (verdict m r) nowhere (suc m.states)
verdict m (or r s) = yes m Or 0 0 (verdict m r) (verdict m s) (suc m.states)
verdict m (next w A r) = yes m (Strategic w Next) A 0 (verdict m r) nowhere (suc m.states)
verdict m (until w A r s) = yes m (Strategic w Until) A 0 (verdict m r) (verdict m s) (suc m.states)
verdict m (unless w A r s) = yes m (Strategic w Unless) A 0 (verdict m r) (verdict m s) (suc m.states)
