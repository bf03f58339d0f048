-- Counts packed four bits a player, and a vector's place, as the loops over the players find them.
use Rattle.std.proofs.Common.{◌≡◌, ℕ, zero, suc, ◌+◌, ◌-◌, ◌*◌, ◌/◌, ◌%◌, ◌^◌, ◌<◌, ◌≤◌, true, false, leb, List, sym, refl, ap, ap₂, ◌∙◌, subst, le_trans, mul_assoc, mul-le-mul, pow-suc, arith, lit<, pow-add}
use native.Mathlib.Nat.{pow-succ', pow-le-pow_right, div-div-eq-div-mul}
use Rattle.std.proofs.lemmas.Bool.{le-leb, lt-leb, cond-true, cond-false}
use Rattle.game.specs.Lists.{highest}
use Rattle.game.specs.Structure.{product}
use Rattle.game.proofs.Walk.{Digits, highest_mod, highest_div, highest_below}
use Rattle.book.specs.Filed.{count_at, moves_at, place}

-- one more player, above those so far
highest_last : (d : ℕ → ℕ) (a n : ℕ) → highest d a (suc n) ≡ highest d a n + d (suc (a + n)) * 16 ^ n
unfolding highest
highest_last d a zero = let e : a + 0 ≡ a = omega arith in rw e (omega arith)
highest_last d a (suc n) =
    let e : suc a + n ≡ a + suc n = omega arith in
    let ih : highest d (suc a) (suc n) ≡ highest d (suc a) n + d (suc (a + suc n)) * 16 ^ n = highest_last d (suc a) n ∙ ap (λ k. highest d (suc a) n + d (suc k) * 16 ^ n) e in
    let p : d (suc (a + suc n)) * 16 ^ suc n ≡ d (suc (a + suc n)) * 16 ^ n * 16 = ap (λ x. d (suc (a + suc n)) * x) (pow-suc 16 n) ∙ sym (mul_assoc (d (suc (a + suc n))) (16 ^ n) 16) in
    omega arith

pub highest_same : (d e : ℕ → ℕ) (a n : ℕ) → ((b : ℕ) → a < b → b ≤ a + n → d b ≡ e b) → highest d a n ≡ highest e a n
unfolding highest
highest_same d e a zero h = refl
highest_same d e a (suc n) h =
    ap (λ x. x * 16 + d (suc a)) (highest_same d e (suc a) n (λ b l u. h b (omega arith) (omega arith)))
    ∙ ap (λ x. highest e (suc a) n * 16 + x) (h (suc a) (omega arith) (omega arith))

-- the digit of one player
pub highest_digit : (d : ℕ → ℕ) → Digits d → (a n k : ℕ) → k < n → highest d a n / 16 ^ k % 16 ≡ d (suc (a + k))
highest_digit d h a zero k l = absurd (omega arith)
highest_digit d h a (suc n) zero l = let e : a + 0 ≡ a = omega arith in let o : highest d a (suc n) / 1 ≡ highest d a (suc n) = omega arith in rw (e, o) (highest_mod d a n h)
highest_digit d h a (suc n) (suc k) l =
    let e : suc a + k ≡ a + suc k = omega arith in
    rw (pow-succ' 16 k, ← div-div-eq-div-mul (highest d a (suc n)) 16 (16 ^ k), highest_div d a n h) (highest_digit d h (suc a) n k (omega arith) ∙ ap (λ x. d (suc x)) e)

pub pow_four : (k : ℕ) → 2 ^ (4 * k) ≡ 16 ^ k
pow_four zero = refl
pow_four (suc k) = let e : 4 * suc k ≡ 4 + 4 * k = omega arith in rw (e, pow-add 2 4 (4 * k), pow_four k, pow-succ' 16 k) refl

pub player_digit : (d : ℕ → ℕ) → Digits d → (n a m : ℕ) → m ≡ highest d 0 n → 1 ≤ a → a ≤ n → m / 16 ^ (a - 1) % 16 ≡ d a
player_digit d h n a m e l u =
    let s : suc (0 + (a - 1)) ≡ a = omega arith in
    rw e (highest_digit d h 0 n (a - 1) (omega arith) ∙ ap d s)

abbrev one : ℕ → ℕ
one a = 1

-- of P players those above i are packed: their counts d in one number; a 1 for each; and their product
pub record Packs (d : ℕ → ℕ) (P i most ones all : ℕ) : Type 0 where
  pub packed : most ≡ highest d i (P - i)
  pub plain : ones ≡ highest one i (P - i)
  pub multiplied : all * product d i ≡ product d P
  pub small : all ≤ 15 ^ (P - i)

pub packs_none : (d : ℕ → ℕ) (P : ℕ) → Packs d P P 0 0 1
unfolding highest
packs_none d P = let z : P - P ≡ 0 = omega arith in record { packed = rw z refl; plain = rw z refl; multiplied = omega arith; small = rw z (omega arith) }

highest_first : (d : ℕ → ℕ) (i n m : ℕ) → n ≡ suc m → highest d i n ≡ highest d (suc i) m * 16 + d (suc i)
unfolding highest
highest_first d i n m e = ap (highest d i) e

module _ (d : ℕ → ℕ) (P i j most ones all k : ℕ) (e : i ≡ suc j) (l : i ≤ P) (u : k ≤ 15) (h : Packs d P i most ones all) where
  pub packs_more : k ≡ d (suc j) → Packs d P j (most * 16 + k) (ones * 16 + 1) (all * k)
  packs_more c =
      let q : P - j ≡ suc (P - i) = omega arith in
      let one_less : (f : ℕ → ℕ) → highest f j (P - j) ≡ highest f i (P - i) * 16 + f (suc j) = λ f. highest_first f j (P - j) (P - i) q ∙ ap (λ x. highest f x (P - i) * 16 + f (suc j)) (sym e) in
      let times : product d i ≡ k * product d j = ap (product d) e ∙ ap (λ x. x * product d j) (sym c) in
      record {
        packed = omega (arith, one_less d, h.packed, c);
        plain = omega (arith, one_less one, h.plain);
        multiplied = mul_assoc all k (product d j) ∙ (ap (λ x. all * x) (sym times) ∙ h.multiplied);
        small = rw (q, pow-suc 15 (P - i)) (mul-le-mul h.small u);
      }

  -- what the turn for one more player needs of its numbers
  pub packs_room : Digits d → P ≤ 6 → (most < 16 ^ 5) × (ones < 16 ^ 5) × (all * k ≤ 15 ^ 5 * 15)
  packs_room digits six =
      let n : P - i ≤ 5 = omega arith in
      let w : 16 ^ (P - i) ≤ 16 ^ 5 = pow-le-pow_right (lit< tt) n in
      let f : 15 ^ (P - i) ≤ 15 ^ 5 = pow-le-pow_right (lit< tt) n in
      let m : highest d i (P - i) < 16 ^ (P - i) = highest_below d i (P - i) digits in
      let o : highest one i (P - i) < 16 ^ (P - i) = highest_below one i (P - i) (λ _. omega arith) in
      (omega (arith, h.packed), omega (arith, h.plain), mul-le-mul (le_trans h.small f) u)

-- all the players are packed
module _ (bs : List ℕ) (p P most ones all : ℕ) (h : Packs (count_at bs p) P 0 most ones all) where
  whole : P - 0 ≡ P
  whole = omega arith

  made : all ≡ product (count_at bs p) P
  made = omega (arith, h.multiplied)

  pub packed_few : all ≤ 4096 → most ≡ highest (moves_at bs P p) 0 P
  packed_few l =
      let t : leb (product (count_at bs p) P) 4096 ≡ true = le-leb _ _ (subst (λ x. x ≤ 4096) made l) in
      h.packed ∙ (ap (highest (count_at bs p) 0) whole ∙ highest_same (count_at bs p) (moves_at bs P p) 0 P (λ b _ _. sym (cond-true (leb (product (count_at bs p) P) 4096) (count_at bs p b) 1 t)))

  pub packed_ones : 4096 < all → ones ≡ highest (moves_at bs P p) 0 P
  packed_ones l =
      let f : leb (product (count_at bs p) P) 4096 ≡ false = lt-leb _ _ (subst (λ x. 4096 < x) made l) in
      h.plain ∙ (ap (highest one 0) whole ∙ highest_same one (moves_at bs P p) 0 P (λ b _ _. sym (cond-false (leb (product (count_at bs p) P) 4096) (count_at bs p b) 1 f)))

-- the place among the vectors of the players above i of n
pub record Placed (n h v i sum : ℕ) : Type 0 where
  pub is : sum ≡ place (n - i) (h / 16 ^ i) (v / 16 ^ i)
  pub low : sum < 15 ^ (n - i)

pub placed_none : (n h v : ℕ) → Placed n h v n 0
unfolding place
placed_none n h v = let z : n - n ≡ 0 = omega arith in record { is = rw z refl; low = rw z (omega arith) }

place_more : (n m h v : ℕ) → n ≡ suc m → place n h v ≡ v % 16 - 1 + h % 16 * place m (h / 16) (v / 16)
unfolding place
place_more n m h v e = ap (λ k. place k h v) e

shifted : (x i j : ℕ) → i ≡ suc j → x / 16 ^ i ≡ x / 16 ^ j / 16
shifted x i j e = ap (λ k. x / 16 ^ k) e ∙ (ap (λ k. x / k) (pow-suc 16 j) ∙ sym (div-div-eq-div-mul x (16 ^ j) 16))

-- m is the digit of the highest for the next player
module _ (n h v i j sum m : ℕ) (e : i ≡ suc j) (l : i ≤ n) (f : m ≡ h / 16 ^ j % 16) (p : Placed n h v i sum) where
  turn_low : m * sum ≤ 15 * (15 ^ (n - i) - 1)
  turn_low = let a : m ≤ 15 = omega arith in let s : sum ≤ 15 ^ (n - i) - 1 = omega (arith, p.low) in mul-le-mul a s

  pub placed_more : (b : ℕ) → b ≡ v / 16 ^ j % 16 - 1 → Placed n h v j (b + m * sum)
  placed_more b c =
      let q : n - j ≡ suc (n - i) = omega arith in
      record {
        is =
            ap (λ x. x + m * sum) c
            ∙ (ap (λ x. v / 16 ^ j % 16 - 1 + x * sum) f
            ∙ (ap (λ x. v / 16 ^ j % 16 - 1 + h / 16 ^ j % 16 * x) (p.is ∙ ap₂ (place (n - i)) (shifted h i j e) (shifted v i j e))
            ∙ sym (place_more (n - j) (n - i) (h / 16 ^ j) (v / 16 ^ j) q)));
        low = rw (q, pow-suc 15 (n - i)) (omega (arith, turn_low, p.low));
      }

  pub placed_room : n ≤ 6 → m * sum ≤ 15 * 15 ^ 5
  placed_room s =
      let k : n - i ≤ 5 = omega arith in
      let f : 15 ^ (n - i) ≤ 15 ^ 5 = pow-le-pow_right (lit< tt) k in
      omega (arith, turn_low)

module _ (n h v sum : ℕ) (p : Placed n h v 0 sum) where
  pub placed_end : sum ≡ place n h v
  placed_end =
      let z : n - 0 ≡ n = omega arith in
      let a : h / 16 ^ 0 ≡ h = omega arith in
      let b : v / 16 ^ 0 ≡ v = omega arith in
      p.is ∙ (ap (λ k. place k (h / 16 ^ 0) (v / 16 ^ 0)) z ∙ ap₂ (place n) a b)

  pub placed_near : n ≤ 6 → sum < 2 ^ 24
  placed_near s =
      let k : n - 0 ≤ 6 = omega arith in
      let f : 15 ^ (n - 0) ≤ 15 ^ 6 = pow-le-pow_right (lit< tt) k in
      omega (arith, p.low)
