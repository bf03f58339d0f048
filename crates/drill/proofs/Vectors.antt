-- The highest vector of a state, as the code has it.
use Rattle.std.proofs.Common.{◌≡◌, ℕ, ◌+◌, ◌*◌, Bool, true, false, cond, leb, refl}
use Rattle.game.specs.Lists.{highest}
use Rattle.drill.specs.Meaning.{counts, most}

pub most_is : (T s : ℕ) → most T s ≡ highest (λ a. counts T a s) 0 2
unfolding highest
most_is T s = by (leb s T)
  where
    by : (b : Bool) → cond b 0x22 0x11 ≡ (0 * 16 + cond b 2 1) * 16 + cond b 2 1
    by true = refl
    by false = refl
