-- The steps of the tests of a state.
use Rattle.std.proofs.Common.{◌≡◌, ℕ, ◌+◌, ◌-◌, ◌*◌, ◌^◌, ◌<◌, ◌≤◌, List, length, get_or, take, drop, Ok, Err, Result, ap, ap₂, sym, ◌∙◌, subst, inr, le_trans, mul-le-mul, mul_comm, add-one, arith, lit<, length-take}
use Rattle.std.proofs.lemmas.List.{get_or-take, get_or-drop}
use native.Mathlib.Nat.{pow-succ', pow-le-pow_right}
use Rattle.book.specs.declared.fault.Fault.{Fault}
use Rattle.book.specs.declared.field.Field.{Field}
use Rattle.book.specs.Tests.{Passes, Fails, Judged, Anything, each}
use Rattle.book.specs.Records.{state_tests, vectors_tests, length_test, count_tests, next_tests, product_in, count_in}
use Rattle.book.proofs.Judging.{passes-++, fails_left, fails_right}

-- a byte of a part of the value
module _ (v : List ℕ) (first n i : ℕ) (l : i < length (take n (drop first v))) where
  pub part_below : i < n
  part_below = let h = simp length-take at l in omega arith

  pub part_read : get_or (take n (drop first v)) i 0 ≡ get_or v (first + i) 0
  part_read = get_or-take n (drop first v) i 0 part_below ∙ get_or-drop first v i 0

-- one more count
pub count_is : (v : List ℕ) (i : ℕ) → count_in v (i + 1) ≡ get_or v (2 + i) 0
count_is v i = let e : 1 + (i + 1) ≡ 2 + i = omega arith in ap (λ k. get_or v k 0) e

pub product_more : (v : List ℕ) (i n m : ℕ) → m ≡ count_in v (i + 1) → n ≡ product_in i v → n * m ≡ product_in (i + 1) v
product_more v i n m f e = mul_comm n m ∙ (ap₂ (λ x y. x * y) (f ∙ ap (count_in v) (add-one i)) e ∙ sym (ap (λ k. product_in k v) (add-one i)))

pub power_more : (m n i : ℕ) → m ≤ 15 → n ≤ 15 ^ i → m * n ≤ 15 ^ (i + 1)
power_more m n i h k = rw (add-one, pow-succ') (mul-le-mul h k)

pub power_fits : (m n i : ℕ) → m ≤ 15 → n ≤ 15 ^ i → i < 6 → m * n ≤ 15 ^ 6
power_fits m n i h k l =
    let s : i + 1 ≤ 6 = omega arith in
    le_trans (power_more m n i h k) (pow-le-pow_right (lit< tt) s)

-- the field x of a state, whose tag and least length are right
module _ (P N : ℕ) (x : Field) (tag : x.tag ≡ 2) (least : 2 + P ≤ length x.value.now) where
  pub bad_count : (f : Fault) → Fails (each P (count_tests x.value.now x.at)) f → Fails (state_tests P N x.tag x.value.now x.at) f
  bad_count f e = inr (tag, inr (least, fails_left (each P (count_tests x.value.now x.at)) _ f e))

  -- the rest of the tests gives the verdict
  module _ (counts : Passes (each P (count_tests x.value.now x.at))) where
    pub bad_vectors : (f : Fault) → Fails (vectors_tests P N x.value.now x.at) f → Fails (state_tests P N x.tag x.value.now x.at) f
    bad_vectors f e = inr (tag, inr (least, fails_right (each P (count_tests x.value.now x.at)) _ f counts e))

    pub good_vectors : (r : Result (Unit {0}) Fault) → Judged (vectors_tests P N x.value.now x.at) r Anything → Judged (state_tests P N x.tag x.value.now x.at) r Anything
    good_vectors (Ok u) j = ((tag, (least, passes-++ (each P (count_tests x.value.now x.at)) _ counts j.0)), tt)
    good_vectors (Err f) j = bad_vectors f j

-- the same, once the product is small enough
module _ (P N : ℕ) (v : List ℕ) (p : ℕ) (few : product_in P v ≤ 4096) where
  pub length_fails : (n : ℕ) → n ≡ 2 + P + product_in P v → (f : Fault) → Fails (length_test n v p) f → Fails (vectors_tests P N v p) f
  length_fails n e f h = inr (few, fails_left (length_test (2 + P + product_in P v) v p) _ f (subst (λ k. Fails (length_test k v p) f) e h))

  pub nexts_judged : length v ≡ 2 + P + product_in P v → (r : Result (Unit {0}) Fault) → Judged (each (length v - (2 + P)) (next_tests P N v p)) r Anything → Judged (vectors_tests P N v p) r Anything
  nexts_judged exact (Ok u) j = let e : length v - (2 + P) ≡ product_in P v = omega arith in ((few, (exact, subst (λ k. Passes (each k (next_tests P N v p))) e j.0)), tt)
  nexts_judged exact (Err f) j = let e : length v - (2 + P) ≡ product_in P v = omega arith in inr (few, inr (exact, subst (λ k. Fails (each k (next_tests P N v p)) f) e j))
