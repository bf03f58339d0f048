-- The entry's moves in the members' places, as the program puts them there.
use Rattle.std.proofs.Common.{◌≡◌, ℕ, zero, suc, ◌+◌, ◌-◌, ◌*◌, ◌/◌, ◌%◌, ◌^◌, ◌<◌, ◌≤◌, min, Bool, true, false, cond, eqb, refl, ap, ◌∙◌, arith}
use native.Mathlib.Nat.{pow-succ'}
use Rattle.std.proofs.lemmas.Bool.Decides.{nat_tests}
use Rattle.game.specs.Structure.{Structure, Limits}
use Rattle.game.specs.Lists.{member, own, other, highest}
use Rattle.game.specs.Bound.{left, legal, placed}
use Rattle.game.proofs.Walk.{highest_mod, highest_div}
use Rattle.game.proofs.Division.{own_digits, other_digits}
use Rattle.game.proofs.Highest.{below_most}
use Rattle.binding.proofs.Digits.{digit_more}

-- one player's digit: the limit d, the entry's move e, its own v
abbrev pub replaced : (d e v : ℕ) → ℕ
replaced d e v = cond (eqb d 0) v (legal d e)

replaced_small : (d e v : ℕ) → d ≤ 15 → v ≤ 15 → replaced d e v ≤ 15
replaced_small d e v h k = grind (arith, nat_tests)

pub placed_none : (n h e v : ℕ) → n ≡ 0 → 0 ≡ placed n h e v
unfolding placed
placed_none n h e v z = rw z refl

pub placed_more : (n h e v : ℕ) → (n ≡ 0 → ⊥) → placed (n - 1) (h / 16) (e / 16) (v / 16) * 16 + replaced (h % 16) (e % 16) (v % 16) ≡ placed n h e v
unfolding placed
placed_more zero h e v z = absurd (z refl)
placed_more (suc n) h e v z = let k : suc n - 1 ≡ n = omega arith in rw k refl

replaced_none : (d e v : ℕ) → d ≡ 0 → replaced d e v ≡ v
replaced_none d e v z = rw z refl

-- no longer than there are players
placed_below : (n h e v : ℕ) → placed n h e v < 16 ^ n
unfolding placed
placed_below zero h e v = omega arith
placed_below (suc n) h e v = digit_more n _ _ (placed_below n (h / 16) (e / 16) (v / 16)) (replaced_small (h % 16) (e % 16) (v % 16) (omega arith) (omega arith))

-- no longer than the limits and the vector
placed_fits : (k n h e v : ℕ) → h < 16 ^ k → v < 16 ^ k → placed n h e v < 16 ^ k
unfolding placed
placed_fits k zero h e v l m = omega arith
placed_fits zero (suc n) h e v l m = omega (arith, placed_fits zero n (h / 16) (e / 16) (v / 16) (omega arith) (omega arith), replaced_none (h % 16) (e % 16) (v % 16) (omega arith))
placed_fits (suc k) (suc n) h e v l m =
    digit_more k _ _ (placed_fits k n (h / 16) (e / 16) (v / 16) (omega (arith, pow-succ' 16 k)) (omega (arith, pow-succ' 16 k))) (replaced_small (h % 16) (e % 16) (v % 16) (omega arith) (omega arith))

-- the sum that makes the number does not wrap
pub placed_room : (n h e v x y : ℕ) → h < 2 ^ 32 → v < 2 ^ 32 → x ≡ placed (n - 1) (h / 16) (e / 16) (v / 16) → y ≡ replaced (h % 16) (e % 16) (v % 16) → (x < 2 ^ 28) × (y ≤ 15)
placed_room n h e v x y l m f g = (
  omega (arith, f, placed_fits 7 (n - 1) (h / 16) (e / 16) (v / 16) (omega arith) (omega arith)),
  rw g (replaced_small (h % 16) (e % 16) (v % 16) (omega arith) (omega arith)),
)

-- of six players at most it takes 24 bits, whatever the limits and the vector
pub placed_room_of_six : (n h e v x y : ℕ) → (n ≡ 0 → ⊥) → n ≤ 6 → x ≡ placed (n - 1) (h / 16) (e / 16) (v / 16) → y ≡ replaced (h % 16) (e % 16) (v % 16) → (x < 2 ^ 20) × (y ≤ 15)
placed_room_of_six n h e v x y z l f g = (
  below_most (n - 1) 5 x (omega arith) (rw f (placed_below (n - 1) (h / 16) (e / 16) (v / 16))),
  rw g (replaced_small (h % 16) (e % 16) (v % 16) (omega arith) (omega arith)),
)

-- what is left to the players: the entry 0 gives each member move 1
module _ (m : Structure) (A q : ℕ) where
  left_digit : (a : ℕ) → replaced (own m A q a) 0 (other m A q a) ≡ left m A q a
  left_digit a = go (member a A) (m.moves a q)
    where
      go : (b : Bool) (k : ℕ) → replaced (cond b k 0) 0 (cond b 0 k) ≡ cond b (min 1 k) k
      go true k = grind (arith, nat_tests)
      go false k = refl

  module _ (L : Limits m) where
    left_from : (a n : ℕ) → placed n (highest (own m A q) a n) 0 (highest (other m A q) a n) ≡ highest (left m A q) a n
    unfolding placed highest
    left_from a zero = refl
    left_from a (suc n) =
        let o = own_digits m A q L in
        let r = other_digits m A q L in
        rw (highest_mod (own m A q) a n o, highest_mod (other m A q) a n r, highest_div (own m A q) a n o, highest_div (other m A q) a n r, left_from (suc a) n, left_digit (suc a))
        refl

    -- as the program has it
    pub left_placed : (n h k r : ℕ) → n ≡ m.players → h ≡ highest (own m A q) 0 m.players → k ≡ highest (other m A q) 0 m.players → r ≡ placed n h 0 k → r ≡ highest (left m A q) 0 m.players
    left_placed n h k r e f g i = i ∙ ap (λ x. placed x h 0 k) e ∙ ap (λ x. placed m.players x 0 k) f ∙ ap (placed m.players (highest (own m A q) 0 m.players) 0) g ∙ left_from 0 m.players
