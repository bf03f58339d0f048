-- Which numbers the list of numbers under limits has, and in what order.
use Rattle.std.proofs.Common.{◌≡◌, ℕ, zero, suc, ◌+◌, ◌-◌, ◌*◌, ◌/◌, ◌%◌, ◌^◌, ◌<◌, ◌≤◌, min, ◌⊎◌, List, [], ◌∷◌, ◌++◌, sym, ap, ◌∙◌, subst, inl, inr, ⊎_elim, arith}
use native.Mathlib.Nat.{pow-succ', div-div-eq-div-mul}
use Rattle.std.proofs.lemmas.Bool.{cases_eq}
use Rattle.game.specs.Lists.{above, least, spread, numbers, Elem, Climbs, Ascending}
use Rattle.game.proofs.Walk.{Digits}

-- one digit x under the limit d
pub record Digit (d x : ℕ) : Type 0 where
  pub low : min 1 d ≤ x
  pub high : x ≤ d

-- v has n digits, one under each of the n limits after a
abbrev pub Box : (ℕ → ℕ) → ℕ → ℕ → ℕ → Type 0
Box d a zero v = v ≡ 0
Box d a (suc n) v = Digit (d (suc a)) (v % 16) × Box d (suc a) n (v / 16)

-- membership
elem_left : (v : ℕ) (xs ys : List ℕ) → Elem v xs → Elem v (xs ++ ys)
elem_left v [] ys e = absurd e
elem_left v (x ∷ xs) ys (inl e) = inl e
elem_left v (x ∷ xs) ys (inr e) = inr (elem_left v xs ys e)

elem_right : (v : ℕ) (xs ys : List ℕ) → Elem v ys → Elem v (xs ++ ys)
elem_right v [] ys e = e
elem_right v (x ∷ xs) ys e = inr (elem_right v xs ys e)

elem_cases : (v : ℕ) (xs ys : List ℕ) → Elem v (xs ++ ys) → Elem v xs ⊎ Elem v ys
elem_cases v [] ys e = inr e
elem_cases v (x ∷ xs) ys (inl e) = inl (inl e)
elem_cases v (x ∷ xs) ys (inr e) = ⊎_elim (λ k. inl (inr k)) inr (elem_cases v xs ys e)

above_elem : (u n v : ℕ) → u < v → v ≤ u + n → Elem v (above u n)
unfolding above
above_elem u zero v l k = absurd (omega arith)
above_elem u (suc n) v l k = ⊎_elim inl (λ ne. inr (above_elem (suc u) n v (omega arith) (omega arith))) (cases_eq v (suc u))

elem_above : (u n v : ℕ) → Elem v (above u n) → (u < v) × (v ≤ u + n)
unfolding above
elem_above u zero v e = absurd e
elem_above u (suc n) v (inl e) = (omega arith, omega arith)
elem_above u (suc n) v (inr e) = let h = elem_above (suc u) n v e in (omega arith, omega arith)

spread_elem : (d v : ℕ) (ws : List ℕ) → Elem (v / 16) ws → Digit d (v % 16) → Elem v (spread d ws)
unfolding spread least
spread_elem d v [] e h = absurd e
spread_elem d v (w ∷ ws) (inl e) h =
    elem_left v (least d w ∷ above (least d w) (d - 1)) (spread d ws) (⊎_elim inl (λ ne. inr (above_elem (least d w) (d - 1) v (omega arith) (omega arith))) (cases_eq v (least d w)))
spread_elem d v (w ∷ ws) (inr e) h = elem_right v (least d w ∷ above (least d w) (d - 1)) (spread d ws) (spread_elem d v ws e h)

elem_spread : (d v : ℕ) (ws : List ℕ) → d ≤ 15 → Elem v (spread d ws) → Elem (v / 16) ws × Digit d (v % 16)
unfolding spread least
elem_spread d v [] l e = absurd e
elem_spread d v (w ∷ ws) l e =
    ⊎_elim
    (λ k. here (⊎_elim (λ z. (omega arith, omega arith)) (λ z. let h = elem_above (least d w) (d - 1) v z in (omega arith, omega arith)) k))
    (λ k. let h = elem_spread d v ws l k in (inr h.0, h.1))
    (elem_cases v (least d w ∷ above (least d w) (d - 1)) (spread d ws) e)
  where
    here : (least d w ≤ v) × (v ≤ least d w + (d - 1)) → Elem (v / 16) (w ∷ ws) × Digit d (v % 16)
    here h = (inl (omega arith), record { low = omega arith; high = omega arith })

pub numbers_elem : (d : ℕ → ℕ) (a n v : ℕ) → Box d a n v → Elem v (numbers d a n)
unfolding numbers
numbers_elem d a zero v b = inl b
numbers_elem d a (suc n) v b = spread_elem (d (suc a)) v (numbers d (suc a) n) (numbers_elem d (suc a) n (v / 16) b.1) b.0

pub elem_numbers : (d : ℕ → ℕ) (a n v : ℕ) → Digits d → Elem v (numbers d a n) → Box d a n v
unfolding numbers
elem_numbers d a zero v h (inl e) = e
elem_numbers d a zero v h (inr e) = absurd e
elem_numbers d a (suc n) v h e =
    let k = elem_spread (d (suc a)) v (numbers d (suc a) n) (h (suc a)) e in (k.1, elem_numbers d (suc a) n (v / 16) h k.0)

-- order
climbs_weaker : (b c : ℕ) (xs : List ℕ) → b ≤ c → Climbs c xs → Climbs b xs
climbs_weaker b c [] l h = tt
climbs_weaker b c (x ∷ xs) l h = (omega arith, h.1)

climbs_above : (u n : ℕ) (ys : List ℕ) → Climbs (u + n) ys → Climbs u (above u n ++ ys)
unfolding above
climbs_above u zero ys h = climbs_weaker u (u + 0) ys (omega arith) h
climbs_above u (suc n) ys h = (omega arith, climbs_above (suc u) n ys (climbs_weaker (suc u + n) (u + suc n) ys (omega arith) h))

climbs_spread : (d b : ℕ) (ws : List ℕ) → d ≤ 15 → Climbs b ws → Climbs (b * 16 + 15) (spread d ws)
unfolding spread least
climbs_spread d b [] l h = tt
climbs_spread d b (w ∷ ws) l h = (
  omega arith,
  climbs_above (least d w) (d - 1) (spread d ws) (climbs_weaker (least d w + (d - 1)) (w * 16 + 15) (spread d ws) (omega arith) (climbs_spread d w ws l h.1)),
)

ascending_spread : (d : ℕ) (ws : List ℕ) → d ≤ 15 → Ascending ws → Ascending (spread d ws)
unfolding spread least
ascending_spread d [] l h = tt
ascending_spread d (w ∷ ws) l h =
    climbs_above (least d w) (d - 1) (spread d ws) (climbs_weaker (least d w + (d - 1)) (w * 16 + 15) (spread d ws) (omega arith) (climbs_spread d w ws l h))

pub numbers_ascending : (d : ℕ → ℕ) (a n : ℕ) → Digits d → Ascending (numbers d a n)
unfolding numbers
numbers_ascending d a zero h = tt
numbers_ascending d a (suc n) h = ascending_spread (d (suc a)) (numbers d (suc a) n) (h (suc a)) (numbers_ascending d (suc a) n h)

-- the digits of a number one by one
shift : (v k j : ℕ) → j ≡ suc k → v / 16 / 16 ^ k ≡ v / 16 ^ j
shift v k j e = div-div-eq-div-mul v 16 (16 ^ k) ∙ ap (λ x. v / x) (sym (pow-succ' 16 k)) ∙ ap (λ x. v / 16 ^ x) (sym e)

abbrev pub Each : (ℕ → ℕ) → ℕ → ℕ → ℕ → Type 0
Each d a n v = (b : ℕ) → a < b → b ≤ a + n → Digit (d b) (v / 16 ^ (b - suc a) % 16)

pub box_each : (d : ℕ → ℕ) (a n v : ℕ) → Box d a n v → Each d a n v
box_each d a zero v h b l k = absurd (omega arith)
box_each d a (suc n) v h b l k =
    ⊎_elim
    (λ e. subst (λ x. Digit (d x) (v / 16 ^ (x - suc a) % 16)) (sym e) (here (suc a - suc a) (omega arith)))
    (λ ne. subst (λ x. Digit (d b) (x % 16)) (shift v (b - suc (suc a)) (b - suc a) (omega arith)) (box_each d (suc a) n (v / 16) h.1 b (omega arith) (omega arith)))
    (cases_eq b (suc a))
  where
    here : (z : ℕ) → z ≡ 0 → Digit (d (suc a)) (v / 16 ^ z % 16)
    here z e = let f : v ≡ v / 1 = omega arith in rw e (subst (λ x. Digit (d (suc a)) (x % 16)) f h.0)

pub box_below : (d : ℕ → ℕ) (a n v : ℕ) → Box d a n v → v < 16 ^ n
box_below d a zero v h = omega arith
box_below d a (suc n) v h = omega (arith, box_below d (suc a) n (v / 16) h.1, pow-succ' 16 n)

pub each_box : (d : ℕ → ℕ) (a n v : ℕ) → v < 16 ^ n → Each d a n v → Box d a n v
each_box d a zero v l h = omega arith
each_box d a (suc n) v l h = (
  here (suc a - suc a) (omega arith) (h (suc a) (omega arith) (omega arith)),
  each_box d (suc a) n (v / 16) (omega (arith, pow-succ' 16 n)) (λ b p q. subst (λ x. Digit (d b) (x % 16)) (sym (shift v (b - suc (suc a)) (b - suc a) (omega arith))) (h b (omega arith) (omega arith))),
)
  where
    here : (z : ℕ) → z ≡ 0 → Digit (d (suc a)) (v / 16 ^ z % 16) → Digit (d (suc a)) (v % 16)
    here z e g = let f : v / 1 ≡ v = omega arith in subst (λ x. Digit (d (suc a)) (x % 16)) f (rw e at g)
