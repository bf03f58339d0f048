-- What the kinds of rules ask of a group and of their parts.
use Rattle.std.specs.Prelude.{ℕ, ◌^◌, Bool, true, false, cond, not, ◌&&◌, ◌||◌, ◌==◌, nat_le, nat_lt}
use Rattle.atl.specs.declared.Kind.{Kind}
use Rattle.atl.specs.declared.Kind.TheVariants.{Label, Not, Or, Strategic}
use Rattle.atl.specs.declared.Temporal.TheVariants.{Next, Until, Unless}

-- whether r is the number of a rule: in every kind but label, whose r is a label
abbrev pub uses_r : Kind → Bool
uses_r Label = false
uses_r Not = true
uses_r Or = true
uses_r (Strategic w o) = true

-- whether s is the number of a rule; where it is not, s is 0
abbrev pub uses_s : Kind → Bool
uses_s Label = false
uses_s Not = false
uses_s Or = true
uses_s (Strategic w Next) = false
uses_s (Strategic w Until) = true
uses_s (Strategic w Unless) = true

abbrev pub has_group : Kind → Bool
has_group Label = false
has_group Not = false
has_group Or = false
has_group (Strategic w o) = true

-- the group names a missing player, or is not 0 in a kind that has none
abbrev pub bad_group : (players : ℕ) → Kind → ℕ → Bool
bad_group players f A = cond (has_group f) (nat_le (2 ^ players) A) (not (A == 0))

-- a label above 15, a part that does not stand, an unused s that is not 0
abbrev pub bad_part : (stands : ℕ → Bool) → Kind → (r s : ℕ) → Bool
bad_part stands f r s = cond (uses_r f) (not (stands r)) (nat_lt 15 r) || cond (uses_s f) (not (stands s)) (not (s == 0))

-- a part has yet to settle
abbrev pub waits : (done : ℕ → Bool) → Kind → (r s : ℕ) → Bool
waits done f r s = (uses_r f && not (done r)) || (uses_s f && not (done s))
