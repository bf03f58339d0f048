-- A field: a tag, two bytes of length, the highest first, and that many bytes of value.
use Rattle.std.specs.Prelude.{ℕ, zero, suc, ◌+◌, ◌*◌, ◌<◌, ◌≤◌, List, [], ◌∷◌, length, take, drop, slice_index}
use Rattle.book.specs.declared.fault.Cause.TheVariants.{Cut, Ended}
use Rattle.book.specs.Faults.{fault}
use Rattle.book.specs.Tests.{Tests}

-- of the field at p: its value's length, where it ends, and its value
abbrev pub size : List ℕ → ℕ → ℕ
size bs p = slice_index bs (p + 1) * 256 + slice_index bs (p + 2)

abbrev pub after : List ℕ → ℕ → ℕ
after bs p = p + 3 + size bs p

abbrev pub value : List ℕ → ℕ → List ℕ
value bs p = take (size bs p) (drop (p + 3) bs)

-- the field at p is whole
abbrev pub field_tests : List ℕ → ℕ → Tests
field_tests bs p = (after bs p ≤ length bs, fault Cut p) ∷ []

-- and the book goes on to it, where a field is due
abbrev pub due_tests : List ℕ → ℕ → Tests
due_tests bs p = (p < length bs, fault Ended (length bs)) ∷ field_tests bs p

-- where the field stands that is k fields after the one at p
abbrev pub spot : List ℕ → ℕ → ℕ → ℕ
spot bs p zero = p
spot bs p (suc k) = after bs (spot bs p k)
