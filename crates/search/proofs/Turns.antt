-- One digit of the lowest number and of the next one, and that neither is longer than the highest.
use Rattle.std.proofs.Common.{◌≡◌, ℕ, zero, suc, ◌+◌, ◌-◌, ◌*◌, ◌/◌, ◌%◌, ◌^◌, ◌<◌, ◌≤◌, min, Some, None, Option, List, [], ◌∷◌, length, ltb, sym, refl, ap, ◌∙◌, subst, arith}
use native.Mathlib.Nat.{pow-succ'}
use Rattle.std.specs.Iterator.{YieldsFirst}
use Rattle.std.proofs.lemmas.Bool.{ltb-true, lt-ltb, le-ltb, cond-true, cond-false, cond_both}
use Rattle.game.specs.Lists.{least, lift, lowest, following, from}
use Rattle.game.proofs.Walk.{Fits, lift_fits, rest_from}
use Rattle.search.specs.declared.numbers.Numbers.{Numbers}
use Rattle.search.specs.Left.{coming, numbers_left}

pub lowest_none : (n h : ℕ) → n ≡ 0 → 0 ≡ lowest n h
unfolding lowest
lowest_none n h e = rw e refl

pub lowest_turn : (n h x k : ℕ) → (n ≡ 0 → ⊥) → x ≡ lowest (n - 1) (h / 16) → k ≡ min (h % 16) 1 → x * 16 + k ≡ lowest n h
unfolding lowest least
lowest_turn zero h x k z e f = absurd (z refl)
lowest_turn (suc n) h x k z e f = let i : suc n - 1 ≡ n = omega arith in omega (arith, e ∙ ap (λ m. lowest m (h / 16)) i)

pub following_none : (n h v : ℕ) → n ≡ 0 → None ≡ following n h v
unfolding following
following_none n h v e = rw e refl

pub following_low : (n h v : ℕ) → (n ≡ 0 → ⊥) → v % 16 < h % 16 → Some (v + 1) ≡ following n h v
unfolding following
following_low zero h v z l = absurd (z refl)
following_low (suc n) h v z l = sym (cond-true _ _ _ (lt-ltb (v % 16) (h % 16) l))

following_high : (n h v : ℕ) {o p : Option ℕ} → (n ≡ 0 → ⊥) → h % 16 ≤ v % 16 → o ≡ following (n - 1) (h / 16) (v / 16) → o ≡ p → lift (h % 16) p ≡ following n h v
unfolding following
following_high zero h v z l e f = absurd (z refl)
following_high (suc n) h v z l e f =
    let i : suc n - 1 ≡ n = omega arith in
    ap (lift (h % 16)) (sym f ∙ e ∙ ap (λ m. following m (h / 16) (v / 16)) i) ∙ sym (cond-false _ _ _ (le-ltb (v % 16) (h % 16) l))

pub following_last : (n h v : ℕ) (o : Option ℕ) → (n ≡ 0 → ⊥) → h % 16 ≤ v % 16 → o ≡ following (n - 1) (h / 16) (v / 16) → o ≡ None → None ≡ following n h v
unfolding lift
following_last n h v o z l e f = following_high n h v z l e f

pub following_more : (n h v : ℕ) (o : Option ℕ) (w k : ℕ) → (n ≡ 0 → ⊥) → h % 16 ≤ v % 16 → o ≡ following (n - 1) (h / 16) (v / 16) → o ≡ Some w → k ≡ min (h % 16) 1 → Some (w * 16 + k) ≡ following n h v
unfolding lift least
following_more n h v o w k z l e f i = ap Some (omega arith) ∙ following_high n h v z l e f

-- length
lowest_fits : (k n h : ℕ) → h < 16 ^ k → lowest n h < 16 ^ k
unfolding lowest least
lowest_fits k zero h l = omega arith
lowest_fits zero (suc n) h l = omega (arith, lowest_fits zero n (h / 16) (omega arith))
lowest_fits (suc k) (suc n) h l = omega (arith, lowest_fits k n (h / 16) (omega (arith, pow-succ' 16 k)), pow-succ' 16 k)

lift_zero : (d : ℕ) (o : Option ℕ) → d ≡ 0 → Fits 0 o → Fits 0 (lift d o)
unfolding lift least
lift_zero d None e f = tt
lift_zero d (Some w) e f = omega arith

following_fits : (k n h v : ℕ) → h < 16 ^ k → v < 16 ^ k → Fits k (following n h v)
unfolding following
following_fits k zero h v l m = tt
following_fits zero (suc n) h v l m =
    cond_both (ltb (v % 16) (h % 16)) (Some (v + 1)) (lift (h % 16) (following n (h / 16) (v / 16))) (Fits 0)
    (λ e. omega (arith, ltb-true (v % 16) (h % 16) e))
    (λ e. lift_zero (h % 16) (following n (h / 16) (v / 16)) (omega arith) (following_fits zero n (h / 16) (v / 16) (omega arith) (omega arith)))
following_fits (suc k) (suc n) h v l m =
    cond_both (ltb (v % 16) (h % 16)) (Some (v + 1)) (lift (h % 16) (following n (h / 16) (v / 16))) (Fits (suc k))
    (λ e. omega (arith, ltb-true (v % 16) (h % 16) e, pow-succ' 16 k))
    (λ e. lift_fits k (h % 16) (following n (h / 16) (v / 16)) (following_fits k n (h / 16) (v / 16) (omega (arith, pow-succ' 16 k)) (omega (arith, pow-succ' 16 k))))

-- there is room for one digit more in 32 bits
pub lowest_room : (n h x : ℕ) → h < 2 ^ 32 → x ≡ lowest n (h / 16) → x < 2 ^ 28
lowest_room n h x l e = omega (arith, lowest_fits 7 n (h / 16) (omega arith))

pub following_room : (n h v x : ℕ) → h < 2 ^ 32 → v < 2 ^ 32 → Some x ≡ following n (h / 16) (v / 16) → x < 2 ^ 28
following_room n h v x l m e = let f : Fits 7 (Some x) = subst (Fits 7) (sym e) (following_fits 7 n (h / 16) (v / 16) (omega arith) (omega arith)) in omega arith

-- the iterator
pub left_none : (s : Numbers) {r : Option ℕ} → coming s.players s.highest s.place ≡ None → r ≡ None → YieldsFirst numbers_left s r s
unfolding from
left_none s e f = let h : numbers_left s ≡ [] = ap (from s.players s.highest) e in subst (λ r. YieldsFirst numbers_left s r s) (sym f) (h, h)

pub left_some : (s : Numbers) {v : ℕ} → coming s.players s.highest s.place ≡ Some v → numbers_left s ≡ v ∷ from s.players s.highest (following s.players s.highest v)
unfolding from
left_some s {v} e = ap (from s.players s.highest) e ∙ ap (λ xs. v ∷ xs) (rest_from s.players s.highest v)

pub progress : {xs ys : List ℕ} {v : ℕ} → xs ≡ v ∷ ys → length ys < length xs
progress e = omega (arith, ap length e)
