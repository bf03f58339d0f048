-- A number made digit by digit from the top fits its type.
use Rattle.std.proofs.Common.{ℕ, suc, ◌+◌, ◌*◌, ◌^◌, ◌<◌, ◌≤◌, arith}
use native.Mathlib.Nat.{pow-succ'}

-- one digit more
pub digit_more : (n x y : ℕ) → x < 16 ^ n → y ≤ 15 → x * 16 + y < 16 ^ suc n
digit_more n x y h l = omega (arith, pow-succ' 16 n)
