-- Limits in two parts: what is under the one plus what is under the other.
use Rattle.std.proofs.Common.{◌≡◌, ℕ, zero, suc, ◌+◌, ◌*◌, ◌/◌, ◌%◌, min, ◌⊎◌, sym, refl, ap, ◌∙◌, subst, ap₂, inl, inr, ⊎_elim, arith}
use lib.Bits.{bit_or, or_zero_l, or_zero_r}
use Rattle.std.proofs.lemmas.Nat.{or_mod, or_shr}
use Rattle.game.specs.Lists.{lowest, highest, from, Elem}
use Rattle.game.proofs.Walk.{Digits, numbers_from}
use Rattle.game.proofs.Members.{Digit, Box, elem_numbers}

-- each player is in one of the two parts of d
abbrev pub Parts : (ℕ → ℕ) → (ℕ → ℕ) → (ℕ → ℕ) → Type 0
Parts d e f = (x : ℕ) → ((e x ≡ 0) × (f x ≡ d x)) ⊎ ((f x ≡ 0) × (e x ≡ d x))

-- the digits of v that e has
unfoldable pub pick : (ℕ → ℕ) → ℕ → ℕ → ℕ → ℕ
pick e a zero v = 0
pick e a (suc n) v = pick e (suc a) n (v / 16) * 16 + min (e (suc a)) (v % 16)

-- one digit
digit_joins : (d e f x y : ℕ) → ((e ≡ 0) × (f ≡ d)) ⊎ ((f ≡ 0) × (e ≡ d)) → Digit e x → Digit f y → Digit d (x + y)
digit_joins d e f x y p h k = record { low = omega arith; high = omega arith }

digit_picked : (d e x : ℕ) → (e ≡ 0) ⊎ (e ≡ d) → Digit d x → Digit e (min e x)
digit_picked d e x p h = record { low = omega arith; high = omega arith }

digit_once : (d e f x y z w : ℕ) → ((e ≡ 0) × (f ≡ d)) ⊎ ((f ≡ 0) × (e ≡ d)) → Digit e x → Digit f y → Digit e z → Digit f w → x + y ≡ z + w → x ≡ z
digit_once d e f x y z w p h k i j s = omega arith

none : (e x : ℕ) → e ≡ 0 → Digit e x → x ≡ 0
none e x z h = omega arith

digit_or : (d e f x y : ℕ) → ((e ≡ 0) × (f ≡ d)) ⊎ ((f ≡ 0) × (e ≡ d)) → Digit e x → Digit f y → bit_or x y ≡ x + y
digit_or d e f x y (inl z) h k = let i : x ≡ 0 = none e x z.0 h in rw i (omega (arith, or_zero_l y))
digit_or d e f x y (inr z) h k = let i : y ≡ 0 = none f y z.0 k in rw i (omega (arith, or_zero_r x))

module _ (d e f : ℕ → ℕ) (digits : Digits d) (parts : Parts d e f) where
  sums : (a c r : ℕ) → Digit (e a) (c % 16) → Digit (f a) (r % 16) → ((c + r) % 16 ≡ c % 16 + r % 16) × ((c + r) / 16 ≡ c / 16 + r / 16)
  sums a c r h k = let s = (digit_joins (d a) (e a) (f a) (c % 16) (r % 16) (parts a) h k).high in (omega (arith, digits a), omega (arith, digits a))

  pub box_joins : (a n c r : ℕ) → Box e a n c → Box f a n r → Box d a n (c + r)
  box_joins a zero c r h k = omega arith
  box_joins a (suc n) c r h k =
      let s = sums (suc a) c r h.0 k.0 in (
        subst (Digit (d (suc a))) (sym s.0) (digit_joins (d (suc a)) (e (suc a)) (f (suc a)) (c % 16) (r % 16) (parts (suc a)) h.0 k.0),
        subst (Box d (suc a) n) (sym s.1) (box_joins (suc a) n (c / 16) (r / 16) h.1 k.1),
      )

  -- no bit is in both
  pub box_or : (a n c r : ℕ) → Box e a n c → Box f a n r → bit_or c r ≡ c + r
  box_or a zero c r h k = ap₂ bit_or h k ∙ sym (ap₂ ◌+◌ h k)
  box_or a (suc n) c r h k =
      let low : bit_or c r % 16 ≡ c % 16 + r % 16 = or_mod c r 4 ∙ digit_or (d (suc a)) (e (suc a)) (f (suc a)) (c % 16) (r % 16) (parts (suc a)) h.0 k.0 in
      let high : bit_or c r / 16 ≡ c / 16 + r / 16 = or_shr c r 4 ∙ box_or (suc a) n (c / 16) (r / 16) h.1 k.1 in
      omega arith

  pub box_once : (a n c r c' r' : ℕ) → Box e a n c → Box f a n r → Box e a n c' → Box f a n r' → c + r ≡ c' + r' → c ≡ c'
  box_once a zero c r c' r' h k i j s = omega arith
  box_once a (suc n) c r c' r' h k i j s =
      let p = sums (suc a) c r h.0 k.0 in
      let q = sums (suc a) c' r' i.0 j.0 in
      let low : c % 16 ≡ c' % 16 = digit_once (d (suc a)) (e (suc a)) (f (suc a)) (c % 16) (r % 16) (c' % 16) (r' % 16) (parts (suc a)) h.0 k.0 i.0 j.0 (sym p.0 ∙ ap (λ x. x % 16) s ∙ q.0) in
      let high : c / 16 ≡ c' / 16 = box_once (suc a) n (c / 16) (r / 16) (c' / 16) (r' / 16) h.1 k.1 i.1 j.1 (sym p.1 ∙ ap (λ x. x / 16) s ∙ q.1) in
      omega arith

  pub picked : (a n v : ℕ) → Box d a n v → Box e a n (pick e a n v) × Box f a n (pick f a n v) × (v ≡ pick e a n v + pick f a n v)
  unfolding pick
  picked a zero v h = (refl, refl, omega arith)
  picked a (suc n) v h =
      let r = picked (suc a) n (v / 16) h.1 in
      let x = pick e (suc a) n (v / 16) in
      let y = pick f (suc a) n (v / 16) in
      let p = parts (suc a) in
      let de = digit_picked (d (suc a)) (e (suc a)) (v % 16) (⊎_elim (λ z. inl z.0) (λ z. inr z.1) p) h.0 in
      let df = digit_picked (d (suc a)) (f (suc a)) (v % 16) (⊎_elim (λ z. inr z.1) (λ z. inl z.0) p) h.0 in
      let e1 : min (e (suc a)) (v % 16) ≡ (x * 16 + min (e (suc a)) (v % 16)) % 16 = omega arith in
      let e2 : x ≡ (x * 16 + min (e (suc a)) (v % 16)) / 16 = omega arith in
      let f1 : min (f (suc a)) (v % 16) ≡ (y * 16 + min (f (suc a)) (v % 16)) % 16 = omega arith in
      let f2 : y ≡ (y * 16 + min (f (suc a)) (v % 16)) / 16 = omega arith in
      let top = h.0.high in (
        (subst (Digit (e (suc a))) e1 de, subst (Box e (suc a) n) e2 r.0),
        (subst (Digit (f (suc a))) f1 df, subst (Box f (suc a) n) f2 r.1),
        omega (arith, r.2),
      )

pub box_lowest : (d : ℕ → ℕ) (a n : ℕ) → Digits d → Box d a n (lowest n (highest d a n))
unfolding from
box_lowest d a n h = elem_numbers d a n (lowest n (highest d a n)) h (subst (Elem (lowest n (highest d a n))) (sym (numbers_from d a n h)) (inl refl))
