-- A rule's line, one mark further.
use Rattle.std.proofs.Common.{◌≡◌, ℕ, suc, ◌+◌, ◌<◌, ◌≤◌, List, [], ◌∷◌, ◌++◌, length, get_or, take, vec_items, codes, sym, ap, ◌∙◌, ap₂, append_assoc, append-nil, arith, length-take}
use Rattle.std.proofs.lemmas.List.{take_more, take_all}
use Rattle.atl.specs.declared.Shown.{Shown}
use Rattle.listing.specs.declared.Row.{Row}
use Rattle.listing.specs.Text.{mark_text, marks_text, rule_text, rows_text}

marks_push : (xs : List Shown) (x : Shown) → marks_text (xs ++ (x ∷ [])) ≡ marks_text xs ++ (codes " " ++ mark_text x)
marks_push [] x = append-nil (codes " " ++ mark_text x)
marks_push (y ∷ ys) x = ap (λ (bs : List ℕ). (codes " " ++ mark_text y) ++ bs) (marks_push ys x) ∙ simp append_assoc

pub line_more : (xs : List Shown) (i : ℕ) (d : Shown) (head a b : List ℕ) → i < length xs → a ≡ head ++ marks_text (take i xs) → b ≡ a ++ (codes " " ++ mark_text (get_or xs i d)) → b ≡ head ++ marks_text (take (i + 1) xs)
line_more xs i d head a b l e f =
    f ∙ ap (λ (bs : List ℕ). bs ++ (codes " " ++ mark_text (get_or xs i d))) e
    ∙ append_assoc head (marks_text (take i xs)) (codes " " ++ mark_text (get_or xs i d))
    ∙ ap (λ (bs : List ℕ). head ++ bs) (sym (ap marks_text (take_more xs i d l) ∙ marks_push (take i xs) (get_or xs i d)))

pub line_all : (xs : List Shown) (i : ℕ) (head a b : List ℕ) → length xs ≤ i → a ≡ head ++ marks_text (take i xs) → b ≡ a ++ codes "\n" → b ≡ head ++ (marks_text xs ++ codes "\n")
line_all xs i head a b l e f = f ∙ ap (λ (bs : List ℕ). bs ++ codes "\n") (e ∙ ap (λ (ys : List Shown). head ++ marks_text ys) (take_all i xs l)) ∙ append_assoc head (marks_text xs) (codes "\n")

-- The listing, one rule further.
abbrev pub row_text : ℕ → Row → List ℕ
row_text n x = rule_text n x.rounds (vec_items x.marks)

pub rows_push : (n k : ℕ) (xs : List Row) (x : Row) → k ≡ n + length xs → rows_text n (xs ++ (x ∷ [])) ≡ rows_text n xs ++ row_text k x
rows_push n k [] x e = let f : k ≡ n = omega arith in append-nil (row_text n x) ∙ ap (λ i. row_text i x) (sym f)
rows_push n k (y ∷ ys) x e = ap (λ (bs : List ℕ). row_text n y ++ bs) (rows_push (suc n) k ys x (omega arith)) ∙ sym (append_assoc (row_text n y) (rows_text (suc n) ys) (row_text k x))

pub rows_more : (xs : List Row) (i : ℕ) (x : Row) (marks : List Shown) (head a b line : List ℕ) → i < length xs → x ≡ get_or xs i x → marks ≡ vec_items x.marks → a ≡ head ++ rows_text 0 (take i xs) → b ≡ a ++ line → line ≡ rule_text i x.rounds marks
    → b ≡ head ++ rows_text 0 (take (i + 1) xs)
rows_more xs i x marks head a b line l here m e f g =
    let k : i ≡ 0 + length (take i xs) = simp length-take (omega arith) in
    f ∙ ap₂ (λ (u v : List ℕ). u ++ v) e (g ∙ ap (rule_text i x.rounds) m)
    ∙ append_assoc head (rows_text 0 (take i xs)) (row_text i x)
    ∙ ap (λ (bs : List ℕ). head ++ bs) (sym (ap (rows_text 0) (take_more xs i x l ∙ ap (λ (y : Row). take i xs ++ (y ∷ [])) (sym here)) ∙ rows_push 0 i (take i xs) x k))

pub rows_all : (xs : List Row) (i : ℕ) (head head' a : List ℕ) → length xs ≤ i → head ≡ head' → a ≡ head ++ rows_text 0 (take i xs) → a ≡ head' ++ rows_text 0 xs
rows_all xs i head head' a l h e = e ∙ ap₂ (λ (u : List ℕ) (ys : List Row). u ++ rows_text 0 ys) h (take_all i xs l)
