-- What an iterator over numbers has left.
use Rattle.std.specs.Prelude.{ℕ, ◌^◌, ◌<◌, List, [], ◌∷◌, Option, Some}
use Rattle.search.specs.declared.numbers.Numbers.{Numbers}
use Rattle.search.specs.declared.numbers.Place.{Place}
use Rattle.search.specs.declared.numbers.Place.TheVariants.{At, After}
use Rattle.game.specs.Lists.{from, following}

-- the number that comes next
abbrev pub coming : ℕ → ℕ → Place → Option ℕ
coming n h (At v) = Some v
coming n h (After v) = following n h v

abbrev pub numbers_left : Numbers → List ℕ
numbers_left s = from s.players s.highest (coming s.players s.highest s.place)

-- each number is of six digits at most
abbrev pub Short : List ℕ → Type 0
Short [] = Unit {0}
Short (x ∷ xs) = (x < 2 ^ 24) × Short xs
