-- The number of each kind of rule.
use Rattle.std.specs.Prelude.{ℕ, cond, Some, None, Option, Result, ◌==◌}
use Rattle.std.specs.Option.{ok_or}
use Rattle.atl.specs.declared.Kind.{Kind}
use Rattle.atl.specs.declared.Kind.TheVariants.{Label, Not, Or, Strategic}
use Rattle.atl.specs.declared.Modality.TheVariants.{Can, Despite}
use Rattle.atl.specs.declared.UnknownKind.{UnknownKind}
use Rattle.atl.specs.declared.Temporal.TheVariants.{Next, Until, Unless}

abbrev pub kind_of : ℕ → Option Kind
kind_of n =
    cond (n == 0) (Some Label) (
    cond (n == 1) (Some Not) (
    cond (n == 2) (Some Or) (
    cond (n == 3) (Some (Strategic Can Next)) (
    cond (n == 4) (Some (Strategic Can Until)) (
    cond (n == 5) (Some (Strategic Can Unless)) (
    cond (n == 6) (Some (Strategic Despite Next)) (
    cond (n == 7) (Some (Strategic Despite Until)) (
    cond (n == 8) (Some (Strategic Despite Unless)) None))))))))

-- the same as the conversion answers it: a number that no kind has is handed back
abbrev pub numbered_kind : ℕ → Result Kind UnknownKind
numbered_kind n = ok_or (kind_of n) (record { 0 = n })
