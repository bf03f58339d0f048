-- The test of a number against limits passes exactly for the numbers under them.
use Rattle.std.proofs.Common.{◌≡◌, ℕ, zero, suc, ◌+◌, ◌-◌, ◌/◌, ◌%◌, ◌<◌, min, Bool, true, false, ◌&&◌, eqb, leb, Decides, refl, ap, ◌∙◌, arith}
use Rattle.std.proofs.lemmas.Bool.{and_left, and_from, and_parts, le-leb, leb-true, eqb-true, eq-eqb}
use Rattle.game.specs.Lists.{highest, under}
use Rattle.game.proofs.Walk.{Digits, highest_mod, highest_div}
use Rattle.game.proofs.Members.{Box}

-- as the loop goes
pub under_not : (n h v : ℕ) → 0 < n → (leb (min 1 (h % 16)) (v % 16) && leb (v % 16) (h % 16)) ≡ false → under n h v ≡ false
unfolding under
under_not zero h v l k = absurd (omega arith)
under_not (suc n) h v l k = and_left _ _ k

pub under_more : (t : Bool) (p i h v : ℕ) → i < p → (leb (min 1 (h % 16)) (v % 16) && leb (v % 16) (h % 16)) ≡ true → t ≡ under (p - i) h v → t ≡ under (p - (i + 1)) (h / 16) (v / 16)
unfolding under
under_more t p i h v l k e =
    let s : p - i ≡ suc (p - (i + 1)) = omega arith in
    e ∙ ap (λ n. under n h v) s ∙ ap (λ b. b && under (p - (i + 1)) (h / 16) (v / 16)) k

pub under_none : (n h v : ℕ) → n ≡ 0 → under n h v ≡ eqb v 0
unfolding under
under_none n h v e = rw e refl

-- the test and the digits
module _ (d : ℕ → ℕ) (digits : Digits d) where
  pub under_box : (a n v : ℕ) → under n (highest d a n) v ≡ true → Box d a n v
  unfolding under
  under_box a zero v e = eqb-true v 0 e
  under_box a (suc n) v e =
      let p = and_parts _ _ (rw (highest_mod d a n digits, highest_div d a n digits) at e) in
      let q = and_parts _ _ p.0 in
      (record { low = leb-true _ _ q.0; high = leb-true _ _ q.1 }, under_box (suc a) n (v / 16) p.1)

  pub box_under : (a n v : ℕ) → Box d a n v → under n (highest d a n) v ≡ true
  unfolding under
  box_under a zero v b = eq-eqb v 0 b
  box_under a (suc n) v b =
      rw (highest_mod d a n digits, highest_div d a n digits)
      (and_from _ _ (and_from _ _ (le-leb _ _ b.0.low) (le-leb _ _ b.0.high)) (box_under (suc a) n (v / 16) b.1))

  pub decides_under : (a n v : ℕ) → Decides (under n (highest d a n) v) (Box d a n v)
  decides_under a n v = (under_box a n v, box_under a n v)
