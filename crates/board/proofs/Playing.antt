-- The playbook of a settled can-rule.
use Rattle.std.proofs.Common.{◌≡◌, ℕ, zero, suc, ◌+◌, ◌*◌, ◌<◌, ◌≤◌, Bool, true, false, cond, leb, List, ◌++◌, length, take, drop, Some, Ok, Err, Option, sym, refl, ap, ◌∙◌, subst, ⊎_elim, append_assoc, arith, length-append}
use mathlib.Core.Path.{fun_ext}
use Rattle.std.proofs.lemmas.List.{drop-drop, drop_at, take_at, length-take-le}
use Rattle.std.proofs.lemmas.Bool.{cases_lt, lt-ltb, leb-true, cond-true}
use Rattle.game.specs.Structure.{Structure, Limits}
use Rattle.refusal.specs.declared.Refusal.TheVariants.{NoRoom}
use Rattle.atl.specs.declared.Kind.{Kind}
use Rattle.atl.specs.declared.Kind.TheVariants.{Strategic}
use Rattle.atl.specs.declared.Modality.TheVariants.{Can}
use Rattle.atl.specs.declared.Temporal.{Temporal}
use Rattle.atl.specs.declared.Mark.{Mark}
use Rattle.atl.specs.Rounds.{is_yes}
use Rattle.atl.specs.Playbook.{playbook}
use Rattle.atl.specs.Right.{PlaysBook, PlaybookRight}
use Rattle.atl.proofs.Plays.{playbook_right}
use Rattle.table.specs.declared.types.Rule.{Rule}
use Rattle.table.specs.Shows.{AllRight}
use Rattle.table.specs.Standing.{Standing, Stack, found, settled_of, mark_of, yes_states, settled}
use Rattle.table.specs.Answers.{book_of, choice_in, play_of, play_answer, size_in, copy_of, four_bytes, book_bytes, written_in, buffer_of, buffer_after}
use Rattle.table.proofs.Taking.{err_ok}
use Rattle.board.specs.Truth.{formula, IsBook, IsCopied, BookRight, SettledRight}
use Rattle.board.proofs.Knowing.{mark_final, Here, here}
use Rattle.board.proofs.Asking.{ok_ok, shown_number, ask_is, asked_yes, rule_means}

-- The bytes of a playbook in a buffer.
length_book : (book : ℕ → ℕ) (n : ℕ) → length (book_bytes book n) ≡ 4 * n
length_book book zero = refl
length_book book (suc n) = length-append (book_bytes book n) (four_bytes (book n)) ∙ (let e = length_book book n in omega arith)

bytes_at : (book : ℕ → ℕ) (n : ℕ) (rest : List ℕ) (q : ℕ) → q < n → take 4 (drop (4 * q) (book_bytes book n ++ rest)) ≡ four_bytes (book q)
bytes_at book zero rest q l = absurd (omega arith)
bytes_at book (suc n) rest q l =
    ap (λ (z : List ℕ). take 4 (drop (4 * q) z)) (append_assoc (book_bytes book n) (four_bytes (book n)) rest)
    ∙ ⊎_elim
    (λ (b : q < n). bytes_at book n (four_bytes (book n) ++ rest) q b)
    (λ (b : n ≤ q).
    let e : n ≡ q = omega arith in
    let e' : length (book_bytes book n) ≡ 4 * q = length_book book n ∙ ap (λ i. 4 * i) e in
    ap (take 4) (drop_at (book_bytes book n) (four_bytes (book n) ++ rest) (4 * q) e') ∙ take_at (four_bytes (book n)) rest 4 refl ∙ ap (λ i. four_bytes (book i)) e)
    (cases_lt q n)

written_at : (place : ℕ) (buffer : List ℕ) (book : ℕ → ℕ) (n : ℕ) (rest : List ℕ) (q : ℕ) → place ≤ length buffer → q < n
    → take 4 (drop (place + 4 * q) (take place buffer ++ (book_bytes book n ++ rest))) ≡ four_bytes (book q)
written_at place buffer book n rest q b l =
    ap (take 4) (sym (drop-drop (4 * q) place (take place buffer ++ (book_bytes book n ++ rest))) ∙ ap (drop (4 * q)) (drop_at (take place buffer) (book_bytes book n ++ rest) place (length-take-le place buffer b)))
    ∙ bytes_at book n rest q l

fits : (b : Bool) (c c' : ℕ) → cond b (Ok c) (Err NoRoom) ≡ Ok c' → b ≡ true
fits true c c' e = refl
fits false c c' e = err_ok e

abbrev pub can_rule : Temporal → (A i j k : ℕ) → Standing
can_rule o A i j k = record { kind = Strategic Can o; group = A; r = i; s = j; rounds = k }

module _ (m : Structure) (L : Limits m) (st : Stack) (n : ℕ) (o : Temporal) (A i j k : ℕ) (low : Stack)
    (is : found st n ≡ Some (can_rule o A i j k, low)) (w : Here m L st n (can_rule o A i j k) low) (d : settled_of m (can_rule o A i j k) (yes_states m low) ≡ true) where
  abbrev pub x : Standing
  x = can_rule o A i j k

  abbrev pub R : ℕ → Bool
  R = yes_states m low i

  abbrev pub S : ℕ → Bool
  S = yes_states m low j

  abbrev book : ℕ → ℕ
  book = playbook m A (mark_of m x (yes_states m low)) R S o

  book_is : book_of m (x, low) ≡ Ok book
  book_is = cond-true _ _ _ d

  play_is : (q : ℕ) → q < m.states → play_answer m n q st ≡ Ok (book q)
  play_is q l = ap (λ (p : Option (Standing × Stack)). play_of m p q) is ∙ cond-true _ _ _ (lt-ltb q m.states l) ∙ ap (choice_in m q) book_is

  pub can_has_book : (f : ℕ → ℕ) × IsBook m st n f
  can_has_book = (book, play_is)

  module _ (f : ℕ → ℕ) (b : IsBook m st n f) where
    book_same : (q : ℕ) → q < m.states → f q ≡ book q
    book_same q l = ok_ok (sym (b q l) ∙ play_is q l)

    pub plays : PlaysBook m A i o R S k f
    plays q l = book_same q l ∙ ap (λ (M : ℕ → Mark). playbook m A M R S o q) (fun_ext (mark_final m L x low d))

    right : PlaybookRight m A i o (formula low i) (formula low j) R S k f
    right = playbook_right m L o A i (formula low i) (formula low j) R S k (w.parts d) d f plays

    copied : IsCopied m st n f
    copied place c buffer e q l =
        let room = fits (leb (place + 4 * m.states) (length buffer)) (4 * m.states) c (sym (ap (λ (p : Option (Standing × Stack)). copy_of m p place (length buffer)) is ∙ ap (size_in m place (length buffer)) book_is) ∙ e) in
        let left : buffer_after m n place st buffer ≡ take place buffer ++ (book_bytes book m.states ++ drop (place + 4 * m.states) buffer) =
        ap (λ (p : Option (Standing × Stack)). buffer_of m p place buffer) is ∙ ap (written_in m place buffer) book_is ∙ cond-true _ _ _ room in
        ap (λ (z : List ℕ). take 4 (drop (place + 4 * q) z)) left
        ∙ written_at place buffer book m.states (drop (place + 4 * m.states) buffer) q (omega (arith, leb-true (place + 4 * m.states) (length buffer) room)) l
        ∙ ap four_bytes (sym (book_same q l))

    pub can_book : BookRight m st n A o (formula low i) (formula low j) f
    can_book = record {
      is_strategy = right.is_strategy;
      forces = λ q l y. right.forces q l (ap is_yes (sym (mark_final m L x low d q)) ∙ (asked_yes m st n x low is q l).0 y);
      in_time = λ e q t l y. right.in_time e q t l (sym (mark_final m L x low d q) ∙ shown_number _ t (sym (ask_is m st n x low is q l) ∙ y));
      copied = copied;
    }

-- a rule by its kind
pub with_kind : (P : Standing → Type 0) (y : Standing) (f : Kind) → y.kind ≡ f → P (record { kind = f; group = y.group; r = y.r; s = y.s; rounds = y.rounds }) → P y
with_kind P y f e p = subst (λ (g : Kind). P (record { kind = g; group = y.group; r = y.r; s = y.s; rounds = y.rounds })) (sym e) p

module _ (m : Structure) (L : Limits m) (st : Stack) (n : ℕ) (low : Stack) (o : Temporal) where
  pub has_book : (y : Standing) → y.kind ≡ Strategic Can o → found st n ≡ Some (y, low) → Here m L st n y low → settled_of m y (yes_states m low) ≡ true → (f : ℕ → ℕ) × IsBook m st n f
  has_book y e = with_kind (λ (z : Standing). found st n ≡ Some (z, low) → Here m L st n z low → settled_of m z (yes_states m low) ≡ true → (f : ℕ → ℕ) × IsBook m st n f) y (Strategic Can o) e
      (can_has_book m L st n o y.group y.r y.s y.rounds low)

  pub books : (y : Standing) → y.kind ≡ Strategic Can o → found st n ≡ Some (y, low) → Here m L st n y low → settled_of m y (yes_states m low) ≡ true → (f : ℕ → ℕ) → IsBook m st n f → BookRight m st n y.group o (formula low y.r) (formula low y.s) f
  books y e = with_kind (λ (z : Standing). found st n ≡ Some (z, low) → Here m L st n z low → settled_of m z (yes_states m low) ≡ true → (f : ℕ → ℕ) → IsBook m st n f → BookRight m st n z.group o (formula low z.r) (formula low z.s) f) y (Strategic Can o) e
      (can_book m L st n o y.group y.r y.s y.rounds low)

-- all that is answered for a settled rule
pub settled_right : (m : Structure) (L : Limits m) (rules : List Rule) (st : Stack) → AllRight m rules st → (n : ℕ) (x : Standing) (low : Stack) → found st n ≡ Some (x, low) → settled m st n ≡ true → SettledRight m st n x low
settled_right m L rules st a n x low is e =
    let w = here m L rules st a n x low is in
    let d = sym w.settled_is ∙ e in
    record {
      says = w.says;
      verdicts = rule_means m L st n x low is w d;
      has_book = λ o k. has_book m L st n low o x k is w d;
      books = λ o k. books m L st n low o x k is w d;
    }
