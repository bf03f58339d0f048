-- A loop over the numbers of a side goes through the list of them.
use Rattle.std.proofs.Common.{◌≡◌, ℕ, ◌^◌, ◌<◌, ◌≤◌, Bool, true, false, cond, ◌&&◌, List, [], ◌∷◌, Some, inl, inr, refl, sym, ap, ◌∙◌, subst}
use Rattle.std.specs.List.{list_all, find}
use Rattle.game.specs.Lists.{numbers, from, highest, lowest, Elem}
use Rattle.game.proofs.Walk.{Digits, numbers_from}
use Rattle.game.proofs.Members.{elem_numbers, box_below}
use Rattle.game.proofs.Highest.{below_most}
use Rattle.search.specs.Left.{Short}

short : (xs : List ℕ) → ((x : ℕ) → Elem x xs → x < 2 ^ 24) → Short xs
short [] h = tt
short (x ∷ xs) h = (h x (inl refl), short xs (λ y e. h y (inr e)))

-- all numbers of a side, as the program has them
pub all_under : (d : ℕ → ℕ) {n p h : ℕ} {xs : List ℕ} → Digits d → n ≤ 6 → p ≡ n → h ≡ highest d 0 n → xs ≡ from p h (Some (lowest p h)) → (xs ≡ numbers d 0 n) × Short xs
all_under d {n} {p} {h} {xs} k b e f s =
    let t : xs ≡ numbers d 0 n = s ∙ ap (λ m. from m h (Some (lowest m h))) e ∙ ap (λ x. from n x (Some (lowest n x))) f ∙ sym (numbers_from d 0 n k) in
    (t, subst Short (sym t) (short (numbers d 0 n) (λ x i. below_most n 6 x b (box_below d 0 n x (elem_numbers d 0 n x k i)))))

-- where the first number decides
pub find_hit : (f : ℕ → Bool) {xs ys : List ℕ} {v : ℕ} → xs ≡ v ∷ ys → f v ≡ true → find f xs ≡ Some v
find_hit f {xs} {ys} {v} l e = ap (find f) l ∙ ap (λ b. cond b (Some v) (find f ys)) e

pub all_fail : (f : ℕ → Bool) {xs ys : List ℕ} {v : ℕ} → xs ≡ v ∷ ys → f v ≡ false → list_all f xs ≡ false
all_fail f {xs} {ys} {v} l e = ap (list_all f) l ∙ ap (λ b. b && list_all f ys) e
