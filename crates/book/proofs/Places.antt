-- The vectors of counts as an ascending list, and the place of each in it.
use Rattle.std.proofs.Common.{◌≡◌, ℕ, zero, suc, ◌+◌, ◌-◌, ◌*◌, ◌/◌, ◌%◌, ◌<◌, ◌≤◌, true, false, eqb, ◌⊎◌, List, [], ◌∷◌, length, get_or, sym, refl, ap, ◌∙◌, subst, inl, inr, mod-lt, mul_assoc, mul_comm, add-mul, div-add-mod', arith, length-append}
use Rattle.std.proofs.lemmas.Nat.{div_below}
use Rattle.std.proofs.lemmas.List.{get_or_append_left, get_or-append-add}
use Rattle.std.proofs.lemmas.Bool.{cases_Bool, eqb-true, eqb-false}
use Rattle.game.specs.Lists.{above, least, spread, numbers, highest, Elem}
use Rattle.game.specs.Structure.{product}
use Rattle.game.proofs.Members.{Box, numbers_elem}
use Rattle.game.proofs.Walk.{Digits, highest_mod, highest_div}
use Rattle.book.specs.Described.{index}
use Rattle.book.specs.Filed.{place}

above_length : (u n : ℕ) → length (above u n) ≡ n
unfolding above
above_length u zero = refl
above_length u (suc n) = ap suc (above_length (suc u) n)

above_at : (u n i : ℕ) → i < n → get_or (above u n) i 0 ≡ u + 1 + i
unfolding above
above_at u zero i l = absurd (omega arith)
above_at u (suc n) zero l = omega arith
above_at u (suc n) (suc i) l = above_at (suc u) n i (omega arith) ∙ omega arith

-- the digits that are put below one number
block_length : (k w : ℕ) → 1 ≤ k → length (least k w ∷ above (least k w) (k - 1)) ≡ k
block_length k w l = omega (arith, above_length (least k w) (k - 1))

block_at : (k w r : ℕ) → 1 ≤ k → r < k → get_or (least k w ∷ above (least k w) (k - 1)) r 0 ≡ w * 16 + 1 + r
unfolding least
block_at k w zero l u = omega arith
block_at k w (suc r) l u = above_at (least k w) (k - 1) r (omega arith) ∙ omega arith

spread_length : (k : ℕ) (ws : List ℕ) → 1 ≤ k → length (spread k ws) ≡ length ws * k
unfolding spread
spread_length k [] l = omega arith
spread_length k (w ∷ ws) l =
    length-append (least k w ∷ above (least k w) (k - 1)) (spread k ws) ∙ omega (arith, block_length k w l, spread_length k ws l, add-mul 1 (length ws) k)

spread_at : (k : ℕ) (ws : List ℕ) (i r : ℕ) → 1 ≤ k → i < length ws → r < k → get_or (spread k ws) (i * k + r) 0 ≡ get_or ws i 0 * 16 + 1 + r
unfolding spread
spread_at k [] i r l h u = absurd (omega arith)
spread_at k (w ∷ ws) zero r l h u =
    let e : 0 * k + r ≡ r = omega arith in
    let b : r < length (least k w ∷ above (least k w) (k - 1)) = omega (arith, block_length k w l) in
    rw e (get_or_append_left (least k w ∷ above (least k w) (k - 1)) (spread k ws) 0 r b ∙ block_at k w r l u)
spread_at k (w ∷ ws) (suc i) r l h u =
    let e : suc i * k + r ≡ length (least k w ∷ above (least k w) (k - 1)) + (i * k + r) = omega (arith, block_length k w l, add-mul 1 i k) in
    rw e (get_or-append-add (least k w ∷ above (least k w) (k - 1)) (spread k ws) (i * k + r) 0 ∙ spread_at k ws i r l (omega arith) u)

numbers_same : (d e : ℕ → ℕ) (a n : ℕ) → ((b : ℕ) → a < b → b ≤ a + n → d b ≡ e b) → numbers d a n ≡ numbers e a n
unfolding numbers
numbers_same d e a zero h = refl
numbers_same d e a (suc n) h =
    ap (spread (d (suc a))) (numbers_same d e (suc a) n (λ b l u. h b (omega arith) (omega arith)))
    ∙ ap (λ k. spread k (numbers e (suc a) n)) (h (suc a) (omega arith) (omega arith))

-- the product of the counts of the n players after a
abbrev product_after : (ℕ → ℕ) → ℕ → ℕ → ℕ
product_after d a zero = 1
product_after d a (suc n) = product_after d (suc a) n * d (suc a)

product_last : (d : ℕ → ℕ) (a n : ℕ) → product_after d a (suc n) ≡ d (suc (a + n)) * product_after d a n
product_last d a zero = let e : a + 0 ≡ a = omega arith in rw e (omega arith)
product_last d a (suc n) =
    let e : suc a + n ≡ a + suc n = omega arith in
    ap (λ x. x * d (suc a)) (product_last d (suc a) n ∙ ap (λ k. d (suc k) * product_after d (suc a) n) e) ∙ mul_assoc (d (suc (a + suc n))) (product_after d (suc a) n) (d (suc a))

product_all : (d : ℕ → ℕ) (n : ℕ) → product_after d 0 n ≡ product d n
product_all d zero = refl
product_all d (suc n) = let e : 0 + n ≡ n = omega arith in product_last d 0 n ∙ (ap (λ k. d (suc k) * product_after d 0 n) e ∙ ap (λ x. d (suc n) * x) (product_all d n))

-- v stands at its index
abbrev Found : ℕ → List ℕ → ℕ → Type 0
Found v xs i = (i < length xs) × (get_or xs i 0 ≡ v)

index_found : (v : ℕ) (xs : List ℕ) → Elem v xs → Found v xs (index v xs)
index_found v [] h = absurd h
index_found v (x ∷ xs) h = go (λ k. index_found v xs k) h (cases_Bool (eqb v x))
  where
    go : (Elem v xs → Found v xs (index v xs)) → (v ≡ x) ⊎ Elem v xs → (eqb v x ≡ true) ⊎ (eqb v x ≡ false) → Found v (x ∷ xs) (index v (x ∷ xs))
    go ih h (inl t) = rw t (omega arith, sym (eqb-true v x t))
    go ih (inl e) (inr f) = absurd (eqb-false v x f e)
    go ih (inr k) (inr f) = rw f (omega (arith, (ih k).0), (ih k).1)

module _ (d : ℕ → ℕ) (low : (a : ℕ) → 1 ≤ d a) (digits : Digits d) where
  numbers_length : (a n : ℕ) → length (numbers d a n) ≡ product_after d a n
  unfolding numbers
  numbers_length a zero = refl
  numbers_length a (suc n) = spread_length (d (suc a)) (numbers d (suc a) n) (low (suc a)) ∙ ap (λ x. x * d (suc a)) (numbers_length (suc a) n)

  vectors_many : (n : ℕ) → length (numbers d 0 n) ≡ product d n
  vectors_many n = numbers_length 0 n ∙ product_all d n

  vector_place : (a n j : ℕ) → j < length (numbers d a n) → place n (highest d a n) (get_or (numbers d a n) j 0) ≡ j
  unfolding numbers place
  vector_place a zero j l = omega arith
  vector_place a (suc n) j l =
      let k : ℕ = d (suc a) in
      let ws : List ℕ = numbers d (suc a) n in
      let some : 1 ≤ d (suc a) = low (suc a) in
      let fifteen : d (suc a) ≤ 15 = digits (suc a) in
      let r : j % d (suc a) < d (suc a) = mod-lt j some in
      let whole : j / d (suc a) * d (suc a) + j % d (suc a) ≡ j = div-add-mod' j (d (suc a)) in
      let i : j / d (suc a) < length ws = div_below j (d (suc a)) (length ws) some (omega (arith, spread_length (d (suc a)) ws some)) in
      let w : ℕ = get_or ws (j / d (suc a)) 0 in
      let v : get_or (spread (d (suc a)) ws) j 0 ≡ w * 16 + 1 + j % d (suc a) = ap (λ x. get_or (spread (d (suc a)) ws) x 0) (sym whole) ∙ spread_at (d (suc a)) ws (j / d (suc a)) (j % d (suc a)) some i r in
      let m : (w * 16 + 1 + j % d (suc a)) % 16 ≡ 1 + j % d (suc a) = omega arith in
      let q : (w * 16 + 1 + j % d (suc a)) / 16 ≡ w = omega arith in
      rw (v, m, q, highest_mod d a n digits, highest_div d a n digits, vector_place (suc a) n (j / d (suc a)) i)
      (omega (arith, mul_comm (d (suc a)) (j / d (suc a))))

  -- the place of a vector is its index
  pub index_place : (n v : ℕ) → Box d 0 n v → (index v (numbers d 0 n) < product d n) × (place n (highest d 0 n) v ≡ index v (numbers d 0 n))
  index_place n v b =
      let f = index_found v (numbers d 0 n) (numbers_elem d 0 n v b) in
      (subst (λ k. index v (numbers d 0 n) < k) (vectors_many n) f.0, ap (place n (highest d 0 n)) (sym f.1) ∙ vector_place 0 n (index v (numbers d 0 n)) f.0)

pub vectors_same : (d e : ℕ → ℕ) (n : ℕ) → ((b : ℕ) → 1 ≤ b → b ≤ n → d b ≡ e b) → numbers d 0 n ≡ numbers e 0 n
vectors_same d e n h = numbers_same d e 0 n (λ b l u. h b l (omega arith))
