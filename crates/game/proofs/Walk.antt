-- Stepping through the numbers under limits gives the list of them numbers.
use Rattle.std.proofs.Common.{◌≡◌, ℕ, zero, suc, ◌+◌, ◌-◌, ◌*◌, ◌/◌, ◌%◌, ◌^◌, ◌<◌, ◌≤◌, min, cond, ltb, ◌⊎◌, ◌∷◌, ◌++◌, Some, None, Option, sym, refl, ap, ◌∙◌, inl, inr, arith}
use native.Mathlib.Nat.{pow-succ'}
use Rattle.std.proofs.lemmas.Bool.{ltb-true, cases_lt, lt-ltb, le-ltb, cond-true, cond-false, cond_both}
use Rattle.game.specs.Lists.{above, least, spread, numbers, rest, from, highest, lowest, lift, following}

-- every limit is one digit
abbrev pub Digits : (ℕ → ℕ) → Type 0
Digits d = (a : ℕ) → d a ≤ 15

least_mod : (d w : ℕ) → d ≤ 15 → least d w % 16 ≡ min 1 d
unfolding least
least_mod d w h = omega arith

least_div : (d w : ℕ) → d ≤ 15 → least d w / 16 ≡ w
unfolding least
least_div d w h = omega arith

pub highest_mod : (d : ℕ → ℕ) (a n : ℕ) → Digits d → highest d a (suc n) % 16 ≡ d (suc a)
unfolding highest
highest_mod d a n h = omega (arith, h (suc a))

pub highest_div : (d : ℕ → ℕ) (a n : ℕ) → Digits d → highest d a (suc n) / 16 ≡ highest d (suc a) n
unfolding highest
highest_div d a n h = omega (arith, h (suc a))

-- the list of the digits above v, and so on
above_first : (v n k : ℕ) → n ≡ suc k → above v n ≡ suc v ∷ above (suc v) k
unfolding above
above_first v n k e = rw e refl

-- what comes after the least with a digit more
rest_least : (n h w : ℕ) → rest (suc n) h (least (h % 16) w) ≡ above (least (h % 16) w) (h % 16 - 1) ++ spread (h % 16) (rest n (h / 16) w)
unfolding rest
rest_least n h w =
    let l : h % 16 ≤ 15 = omega arith in
    let e : h % 16 - least (h % 16) w % 16 ≡ h % 16 - 1 = omega (arith, least_mod (h % 16) w l) in
    rw (e, least_div (h % 16) w l) refl

spread_from : (n h : ℕ) (o : Option ℕ) → spread (h % 16) (from n (h / 16) o) ≡ from (suc n) h (lift (h % 16) o)
unfolding spread from lift
spread_from n h None = refl
spread_from n h (Some w) = ap (λ xs. least (h % 16) w ∷ xs) (sym (rest_least n h w))

pub numbers_from : (d : ℕ → ℕ) (a n : ℕ) → Digits d → numbers d a n ≡ from n (highest d a n) (Some (lowest n (highest d a n)))
unfolding numbers from lowest rest lift
numbers_from d a zero h = refl
numbers_from d a (suc n) h =
    let k = highest d a (suc n) in
    let here : spread (d (suc a)) (numbers d (suc a) n) ≡ spread (k % 16) (from n (k / 16) (Some (lowest n (k / 16)))) =
    rw (highest_mod d a n h, highest_div d a n h) (ap (spread (d (suc a))) (numbers_from d (suc a) n h)) in
    here ∙ spread_from n k (Some (lowest n (k / 16)))

rest_low : (n h v : ℕ) → v % 16 < h % 16 → rest (suc n) h v ≡ (v + 1) ∷ rest (suc n) h (v + 1)
unfolding rest
rest_low n h v l =
    let e : h % 16 - v % 16 ≡ suc (h % 16 - (v + 1) % 16) = omega arith in
    let f : (v + 1) / 16 ≡ v / 16 = omega arith in
    let g : suc v ≡ v + 1 = omega arith in
    rw (above_first v (h % 16 - v % 16) (h % 16 - (v + 1) % 16) e, g, f) refl

rest_high : (n h v : ℕ) → h % 16 ≤ v % 16 → rest (suc n) h v ≡ spread (h % 16) (rest n (h / 16) (v / 16))
unfolding rest above
rest_high n h v l = let e : h % 16 - v % 16 ≡ 0 = omega arith in rw e refl

pub rest_from : (n h v : ℕ) → rest n h v ≡ from n h (following n h v)
unfolding rest following from
rest_from zero h v = refl
rest_from (suc n) h v = go (rest_from n (h / 16) (v / 16)) (cases_lt (v % 16) (h % 16))
  where
    o : Option ℕ
    o = following n (h / 16) (v / 16)

    go : rest n (h / 16) (v / 16) ≡ from n (h / 16) o → (v % 16 < h % 16) ⊎ (h % 16 ≤ v % 16) → rest (suc n) h v ≡ from (suc n) h (cond (ltb (v % 16) (h % 16)) (Some (v + 1)) (lift (h % 16) o))
    go r (inl l) = rest_low n h v l ∙ ap (from (suc n) h) (sym (cond-true (ltb (v % 16) (h % 16)) (Some (v + 1)) (lift (h % 16) o) (lt-ltb (v % 16) (h % 16) l)))
    go r (inr l) =
        rest_high n h v l
        ∙ ap (spread (h % 16)) r
        ∙ spread_from n h o
        ∙ ap (from (suc n) h) (sym (cond-false (ltb (v % 16) (h % 16)) (Some (v + 1)) (lift (h % 16) o) (le-ltb (v % 16) (h % 16) l)))

-- sizes
pub highest_below : (d : ℕ → ℕ) (a n : ℕ) → Digits d → highest d a n < 16 ^ n
unfolding highest
highest_below d a zero h = omega arith
highest_below d a (suc n) h = omega (arith, highest_below d (suc a) n h, h (suc a), pow-succ' 16 n)

pub lowest_below : (n h : ℕ) → lowest n h < 16 ^ n
unfolding lowest least
lowest_below zero h = omega arith
lowest_below (suc n) h = omega (arith, lowest_below n (h / 16), pow-succ' 16 n)

-- None, or a number of n digits
abbrev pub Fits : ℕ → Option ℕ → Type 0
Fits n None = Unit {0}
Fits n (Some v) = v < 16 ^ n

pub lift_fits : (n d : ℕ) (o : Option ℕ) → Fits n o → Fits (suc n) (lift d o)
unfolding lift least
lift_fits n d None f = tt
lift_fits n d (Some w) f = omega (arith, pow-succ' 16 n)

pub following_below : (n h v : ℕ) → v < 16 ^ n → Fits n (following n h v)
unfolding following
following_below zero h v l = tt
following_below (suc n) h v l =
    cond_both (ltb (v % 16) (h % 16)) (Some (v + 1)) (lift (h % 16) (following n (h / 16) (v / 16))) (Fits (suc n))
    (λ e. omega (arith, ltb-true (v % 16) (h % 16) e, pow-succ' 16 n))
    (λ e. lift_fits n (h % 16) (following n (h / 16) (v / 16)) (following_below n (h / 16) (v / 16) (omega (arith, pow-succ' 16 n))))

pub highest_more : (d : ℕ → ℕ) (a p : ℕ) → 0 < a → a ≤ p → highest d (a - 1) (p - (a - 1)) ≡ highest d a (p - a) * 16 + d a
unfolding highest
highest_more d a p l k =
    let e : p - (a - 1) ≡ suc (p - a) = omega arith in
    let f : suc (a - 1) ≡ a = omega arith in
    rw (e, f) refl
