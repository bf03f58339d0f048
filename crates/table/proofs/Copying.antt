-- The bytes of a playbook, and the buffer that they are copied into.
use Rattle.std.proofs.Common.{◌≡◌, ℕ, zero, suc, ◌+◌, ◌*◌, ◌<◌, ◌≤◌, List, ◌++◌, length, take, drop, Ok, Err, Result, sym, refl, ap, ◌∙◌, ap₂, add-one, arith}
use borrow.Rule.Slice.PartMut.{put_mid}
use Rattle.std.proofs.lemmas.List.{take_all, drop-drop}
use Rattle.std.proofs.lemmas.Slice.{take-put_mid}
use Rattle.std.proofs.lemmas.Bool.{le-leb, lt-leb, cond-true, cond-false}
use Rattle.game.specs.Structure.{Structure, Limits}
use Rattle.refusal.specs.declared.Refusal.{Refusal}
use Rattle.refusal.specs.declared.Refusal.TheVariants.{NoRule, NoRoom}
use Rattle.atl.specs.declared.Temporal.{Temporal}
use Rattle.table.specs.declared.types.Parts.{Parts}
use Rattle.table.specs.declared.types.Table.{Table}
use Rattle.table.specs.Standing.{Stack}
use Rattle.table.specs.Answers.{book_of, size_in, copy_of, copy_answer, four_bytes, book_bytes, written_in, buffer_of, buffer_after}
use Rattle.table.specs.Shows.{rule_at, Shows}
use Rattle.table.specs.Steps.{PartsOf}
use Rattle.table.specs.Books.{choice_of, book_in}
use Rattle.table.proofs.Calls.{At, at, gone}
use Rattle.table.proofs.Books.{booked, book, book_is, choice_is}

-- one choice more
pub bytes_more : (f : ℕ → ℕ) (i at k c : ℕ) (xs ys zs : List ℕ) → at ≡ i * 4 → at ≤ length xs → take (4 * i) xs ≡ book_bytes f i → ys ≡ zs → zs ≡ four_bytes c → c ≡ f i → take (4 * (i + 1)) (put_mid at k xs ys) ≡ book_bytes f (i + 1)
bytes_more f i at k c xs ys zs p l e g h j =
    let w : ys ≡ four_bytes (f i) = g ∙ h ∙ ap four_bytes j in
    let n : 4 * (i + 1) ≡ at + length ys = omega (arith, ap length w) in
    let m : at ≡ 4 * i = omega arith in
    take-put_mid at k xs ys (4 * (i + 1)) n l ∙ ap₂ (λ (a b : List ℕ). a ++ b) (ap (λ x. take x xs) m ∙ e) w ∙ sym (ap (book_bytes f) (add-one i))

pub bytes_all : (f : ℕ → ℕ) (i n : ℕ) (xs : List ℕ) → i ≡ n → length xs ≡ 4 * n → take (4 * i) xs ≡ book_bytes f i → xs ≡ book_bytes f n
bytes_all f i n xs e l h = sym (take_all (4 * i) xs (omega arith)) ∙ h ∙ ap (book_bytes f) e

bytes_same : (f g : ℕ → ℕ) (n : ℕ) → ((q : ℕ) → q < n → f q ≡ g q) → book_bytes f n ≡ book_bytes g n
bytes_same f g zero h = refl
bytes_same f g (suc n) h = ap₂ (λ (a : List ℕ) (c : ℕ). a ++ four_bytes c) (bytes_same f g n (λ q l. h q (omega arith))) (h n (omega arith))

-- The answers of copy, and the buffer after each.
module _ (m : Structure) (L : Limits m) (t : Table) (st : Stack) (p : Shows m st t) (n place : ℕ) (xs : List ℕ) where
  pub gone_answer : t.count ≤ n → Err NoRule ≡ copy_answer m n place (length xs) st
  gone_answer e = sym (ap (λ o. copy_of m o place (length xs)) (gone m t st p n e))

  pub gone_buffer : t.count ≤ n → xs ≡ buffer_after m n place st xs
  gone_buffer e = sym (ap (λ o. buffer_of m o place xs) (gone m t st p n e))

  module _ (up : n < t.count) (r : Result Temporal Refusal) (h : book_in (rule_at t.rules n) ≡ r) where
    abbrev f : At m t st p n
    f = at m t st p n up

    book_as_found : book_of m (f.rule, f.below) ≡ booked (book m L t st p n f) r
    book_as_found = book_is m L t st p n f ∙ ap (booked (book m L t st p n f)) h

    pub answer_by : size_in m place (length xs) (booked (book m L t st p n f) r) ≡ copy_answer m n place (length xs) st
    answer_by = sym (ap (λ o. copy_of m o place (length xs)) f.is ∙ ap (size_in m place (length xs)) book_as_found)

    pub buffer_by : written_in m place xs (booked (book m L t st p n f) r) ≡ buffer_after m n place st xs
    buffer_by = sym (ap (λ o. buffer_of m o place xs) f.is ∙ ap (written_in m place xs) book_as_found)

  module _ (up : n < t.count) (o : Temporal) (h : book_in (rule_at t.rules n) ≡ Ok o) where
    pub no_room : length xs < place + 4 * m.states → Err NoRoom ≡ copy_answer m n place (length xs) st
    no_room l = sym (cond-false _ _ _ (lt-leb (place + 4 * m.states) (length xs) l)) ∙ answer_by up (Ok o) h

    pub no_room_buffer : length xs < place + 4 * m.states → xs ≡ buffer_after m n place st xs
    no_room_buffer l = sym (cond-false _ _ _ (lt-leb (place + 4 * m.states) (length xs) l)) ∙ buffer_by up (Ok o) h

    pub copied : (size : ℕ) → size ≡ 4 * m.states → place + 4 * m.states ≤ length xs → Ok size ≡ copy_answer m n place (length xs) st
    copied size e l = ap Ok e ∙ sym (cond-true _ _ _ (le-leb (place + 4 * m.states) (length xs) l)) ∙ answer_by up (Ok o) h

    pub copied_buffer : (k : ℕ) (ys : List ℕ) → k ≡ 4 * m.states → place + 4 * m.states ≤ length xs → (parts : Parts) → PartsOf t (rule_at t.rules n) parts → ys ≡ book_bytes (choice_of m (rule_at t.rules n) parts o) m.states → put_mid place k xs ys ≡ buffer_after m n place st xs
    copied_buffer k ys e l parts are c =
        ap₂ (λ (a b : List ℕ). take place xs ++ (a ++ b))
        (c ∙ bytes_same (choice_of m (rule_at t.rules n) parts o) (book m L t st p n (at m t st p n up) o) m.states (choice_is m L t st p n (at m t st p n up) parts are o h))
        (dropped place k (place + 4 * m.states) xs (omega arith))
        ∙ sym (cond-true _ _ _ (le-leb (place + 4 * m.states) (length xs) l)) ∙ buffer_by up (Ok o) h
      where
        dropped : (a k b : ℕ) (xs : List ℕ) → b ≡ a + k → drop k (drop a xs) ≡ drop b xs
        dropped a k b xs e = drop-drop k a xs ∙ ap (λ x. drop x xs) (sym e)
