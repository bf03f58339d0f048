-- The playbook of a rule, as it is copied and printed.
use Rattle.std.proofs.Common.{◌≡◌, ℕ, zero, suc, ◌+◌, ◌*◌, ◌≤◌, true, false, cond, ltb, leb, List, ◌++◌, length, take, drop, Some, None, Ok, Err, Option, Result, sym, refl, ap, ◌∙◌, ap₂, ⊎_elim, append-nil, arith}
use Rattle.std.proofs.lemmas.List.{drop_all}
use Rattle.std.proofs.lemmas.Bool.{lt-ltb, le-leb, ltb-false, cases_Bool, cond-true, cond-false}
use Rattle.game.specs.Structure.{Structure}
use Rattle.refusal.specs.declared.Refusal.{Refusal}
use Rattle.refusal.specs.declared.Refusal.TheVariants.{NoRoom, NoState}
use Rattle.table.specs.declared.types.Table.{Table}
use Rattle.table.specs.Standing.{Standing, Stack, found}
use Rattle.table.specs.Answers.{book_of, choice_in, play_of, size_in, copy_of, book_bytes, written_in, buffer_of}
use Rattle.table.proofs.Stacks.{missing}
use Rattle.report.specs.Printed.{playbook, declines, choice_bytes, play_bytes, booked, played}
use Rattle.report.specs.Steps.{Reached, refusal_if, Copies}

-- A number that no byte holds names no rule, and nor does 255.
byte_found : (st : Stack) (n : ℕ) → length st ≤ 32 → found st (cond (ltb n 256) n 255) ≡ found st n
byte_found st n l = ⊎_elim
    (λ (b : ltb n 256 ≡ true). ap (found st) (cond-true _ n 255 b))
    (λ (b : ltb n 256 ≡ false). ap (found st) (cond-false _ n 255 b) ∙ missing st 255 (omega arith) ∙ sym (missing st n (omega (arith, ltb-false n 256 b))))
    (cases_Bool (ltb n 256))

module _ (m : Structure) (st : Stack) (n : ℕ) where
  -- the choices that play answers are those of the book
  plays : (p : Standing × Stack) (book : ℕ → ℕ) → found st n ≡ Some p → book_of m p ≡ Ok book → (k : ℕ) → k ≤ m.states → book_bytes book k ≡ play_bytes m st n k
  plays p book is e zero l = refl
  plays p book is e (suc k) l = ap₂ (λ (u v : List ℕ). u ++ v) (plays p book is e k (omega arith))
      (sym (ap choice_bytes (ap (λ (o : Option (Standing × Stack)). play_of m o k) is ∙ cond-true _ (choice_in m k (book_of m p)) (Err NoState) (lt-ltb k m.states (omega arith)) ∙ ap (choice_in m k) e)))

  module _ (b : List ℕ) (size : length b ≡ 4 * m.states) where
    room : leb (0 + 4 * m.states) (length b) ≡ true
    room = le-leb (0 + 4 * m.states) (length b) (omega arith)

    whole : (xs : List ℕ) → take 0 b ++ (xs ++ drop (0 + 4 * m.states) b) ≡ xs
    whole xs = ap (λ (l : List ℕ). xs ++ l) (drop_all (0 + 4 * m.states) b (omega arith)) ∙ append-nil xs

    -- by the book of the rule
    copied_by : (p : Standing × Stack) → found st n ≡ Some p → (y : Result (ℕ → ℕ) Refusal) → book_of m p ≡ y → refusal_if (size_in m 0 (length b) y) ≡ None
        → playbook (written_in m 0 b y) ≡ booked m st n (size_in m 0 (length b) y)
    copied_by p is (Ok book) e i =
        ap playbook (cond-true _ (take 0 b ++ (book_bytes book m.states ++ drop (0 + 4 * m.states) b)) b room ∙ whole (book_bytes book m.states) ∙ plays p book is e m.states (omega arith))
        ∙ ap (booked m st n) (sym (cond-true _ (Ok (4 * m.states)) (Err NoRoom) room))
    copied_by p is (Err d) e i = absurd (let z : ◌≡◌ {A = ℕ} 0 1 = cc in omega arith)

    copied : (o : Option (Standing × Stack)) → found st n ≡ o → refusal_if (copy_of m o 0 (length b)) ≡ None → playbook (buffer_of m o 0 b) ≡ booked m st n (copy_of m o 0 (length b))
    copied None is i = absurd (let z : ◌≡◌ {A = ℕ} 0 1 = cc in omega arith)
    copied (Some p) is i = copied_by p is (book_of m p) refl i

  refused : (r : Result ℕ Refusal) (e : Refusal) → Some e ≡ refusal_if r → declines (n, e) ≡ booked m st n r
  refused (Ok c) e i = absurd (let z : ◌≡◌ {A = ℕ} 0 1 = cc in omega arith)
  refused (Err d) e i = let z : e ≡ d = cc in ap (λ (x : Refusal). declines (n, x)) z

module _ (m : Structure) (n k : ℕ) (byte : k ≡ cond (ltb n 256) n 255) (t : Table) (b b' : List ℕ) (size : length b ≡ 4 * m.states) where
  here : (st : Stack) → Reached m st t → found st k ≡ found st n
  here st R = ap (found st) byte ∙ byte_found st n R.shows.most

  pub book_refused : (e : Refusal) → Copies m k t b b' (Some e) → (st : Stack) → Reached m st t → declines (n, e) ≡ played m n (Ok st)
  book_refused e c st R =
      refused m st n (copy_of m (found st k) 0 (length b)) e (c st R).0
      ∙ ap₂ (λ (o : Option (Standing × Stack)) (s : ℕ). booked m st n (copy_of m o 0 s)) (here st R) size

  pub book_copied : Copies m k t b b' None → (st : Stack) → Reached m st t → playbook b' ≡ played m n (Ok st)
  book_copied c st R =
      ap playbook ((c st R).1 ∙ ap (λ (o : Option (Standing × Stack)). buffer_of m o 0 b) (here st R))
      ∙ copied m st n b size (found st n) refl (ap (λ (o : Option (Standing × Stack)). refusal_if (copy_of m o 0 (length b))) (sym (here st R)) ∙ sym (c st R).0)
      ∙ ap (λ (s : ℕ). booked m st n (copy_of m (found st n) 0 s)) size
