-- The law holds after every history.
use Rattle.std.proofs.Common.{◌≡◌, ℕ, ◌+◌, ◌*◌, Bool, true, false, cond, eqb, leb, List, [], ◌∷◌, length, Some, None, Ok, Err, Option, Result, sym, refl, ap, ◌∙◌, subst, ap₂, ⊎_elim, arith}
use Rattle.std.proofs.lemmas.Bool.{cases_eq, eq-eqb, ne_eqb, cond-true, cond-false}
use Rattle.game.specs.Structure.{Structure, Limits}
use Rattle.refusal.specs.declared.Refusal.{Refusal}
use Rattle.refusal.specs.declared.Refusal.TheVariants.{NoRoom}
use Rattle.atl.specs.declared.Kind.{Kind}
use Rattle.atl.specs.Kinds.{kind_of}
use Rattle.atl.specs.Verdict.{Settled}
use Rattle.atl.proofs.Right.{enough}
use Rattle.table.specs.Standing.{Standing, Stack, found, yes_states, one_more, advanced}
use Rattle.table.specs.Answers.{taken, number_if, fresh, erase_answer, book_of, size_in, copy_of, written_in, buffer_of}
use Rattle.table.proofs.Stacks.{top, under, missing, length_advanced}
use Rattle.calls.specs.declared.types.Call.{Call}
use Rattle.calls.specs.declared.types.Call.TheVariants.{Write, Round, Erase, Ask, Tell, Play, Copy}
use Rattle.calls.specs.declared.types.Answer.{Answer}
use Rattle.calls.specs.declared.types.Answer.TheVariants.{Refused, Number, Marked, Copied}
use Rattle.calls.specs.Histories.{given, answer, left_in, put, after, written, round_more, becomes, History, stack, stands, Answered}
use Rattle.calls.specs.Law.{the_rule, Law}
use Rattle.calls.proofs.Possible.{kind_taken, possible}
use Rattle.board.proofs.Knowing.{Here, here, few_of}
use Rattle.board.proofs.Playing.{settled_right}
use Rattle.calls.proofs.Books.{bound_same}

-- What stands, by its number.
abbrev at : Stack → ℕ → Option Standing
at st n = the_rule (found st n)

pushed_at : (st : Stack) (kind A r s n : ℕ) (f : Kind) → kind_of kind ≡ Some f → at (fresh f A r s ∷ st) n ≡ becomes (Write kind A r s) (Number (length st)) n (at st n)
pushed_at st kind A r s n f e = ⊎_elim
    (λ (i : n ≡ length st). ap the_rule (top st n _ _ i) ∙ sym (cond-true _ _ _ (eq-eqb (length st) n (sym i)) ∙ ap (λ (k : Option Kind). written k A r s) e))
    (λ (i : n ≡ length st → ⊥). ap the_rule (under st n _ _ i) ∙ sym (cond-false _ _ _ (ne_eqb (length st) n (λ j. i (sym j)))))
    (cases_eq n (length st))

popped_at : (x : Standing) (low : Stack) (n : ℕ) → at low n ≡ becomes Erase (Number (length low)) n (at (x ∷ low) n)
popped_at x low n = ⊎_elim
    (λ (i : n ≡ length low). ap the_rule (missing low n (omega arith)) ∙ sym (cond-true _ _ _ (eq-eqb (length low) n (sym i))))
    (λ (i : n ≡ length low → ⊥). sym (cond-false _ _ _ (ne_eqb (length low) n (λ j. i (sym j))) ∙ ap the_rule (under low n _ _ i)))
    (cases_eq n (length low))

advanced_at : (j : ℕ) (st : Stack) (n : ℕ) → at (advanced j st) n ≡ cond (eqb j n) (round_more (at st n)) (at st n)
advanced_at j [] n = either (eqb j n)
  where
    either : (b : Bool) → ◌≡◌ {A = Option Standing} None (cond b None None)
    either true = refl
    either false = refl
advanced_at j (x ∷ low) n = ⊎_elim
    (λ (i : j ≡ length low).
    ap (λ (st : Stack). at st n) (top low j (one_more x ∷ low) (x ∷ advanced j low) i)
    ∙ ⊎_elim
    (λ (k : n ≡ length low). ap the_rule (top low n _ _ k) ∙ sym (cond-true _ _ _ (eq-eqb j n (i ∙ sym k)) ∙ ap (λ (p : Option (Standing × Stack)). round_more (the_rule p)) (top low n _ _ k)))
    (λ (k : n ≡ length low → ⊥). ap the_rule (under low n _ _ k) ∙ sym (cond-false _ _ _ (ne_eqb j n (λ e. k (sym e ∙ i))) ∙ ap the_rule (under low n _ _ k)))
    (cases_eq n (length low)))
    (λ (i : j ≡ length low → ⊥).
    let e = length_advanced j low in
    ap (λ (st : Stack). at st n) (under low j (one_more x ∷ low) (x ∷ advanced j low) i)
    ∙ ⊎_elim
    (λ (k : n ≡ length low). ap the_rule (top (advanced j low) n _ _ (k ∙ sym e)) ∙ sym (cond-false _ _ _ (ne_eqb j n (λ z. i (z ∙ k))) ∙ ap the_rule (top low n _ _ k)))
    (λ (k : n ≡ length low → ⊥).
    ap the_rule (under (advanced j low) n _ _ (λ z. k (z ∙ e))) ∙ advanced_at j low n
    ∙ sym (ap (λ (p : Option (Standing × Stack)). cond (eqb j n) (round_more (the_rule p)) (the_rule p)) (under low n _ _ k)))
    (cases_eq n (length low)))
    (cases_eq j (length low))

module _ (m : Structure) (size n : ℕ) where
  written_at : (st : Stack) (kind A r s : ℕ) (x : Result Kind Refusal) → taken m.players (length st) kind A r s ≡ x
      → at (after (Write kind A r s) (given Number (number_if (length st) x)) st) n ≡ becomes (Write kind A r s) (given Number (number_if (length st) x)) n (at st n)
  written_at st kind A r s (Ok f) e =
      let k = kind_taken m.players (length st) kind A r s f e in
      ap (λ (o : Option Kind). at (put o A r s st) n) k ∙ pushed_at st kind A r s n f k
  written_at st kind A r s (Err x) e = refl

  erased_at : (st : Stack) → at (after Erase (given Number (erase_answer st)) st) n ≡ becomes Erase (given Number (erase_answer st)) n (at st n)
  erased_at [] = refl
  erased_at (x ∷ low) = popped_at x low n

  rounded_at : (st : Stack) (j : ℕ) (x : Result ℕ Refusal) → at (after (Round j) (given Marked x) st) n ≡ becomes (Round j) (given Marked x) n (at st n)
  rounded_at st j (Ok c) = advanced_at j st n
  rounded_at st j (Err e) = refl

  same_at : (st : Stack) (b : Bool) → at (cond b st st) n ≡ at st n
  same_at st true = refl
  same_at st false = refl

  call_at : (st : Stack) (c : Call) → at (after c (answer m st size c) st) n ≡ becomes c (answer m st size c) n (at st n)
  call_at st (Write kind A r s) = written_at st kind A r s _ refl
  call_at st (Round j) = rounded_at st j _
  call_at st Erase = erased_at st
  call_at st (Ask j q) = same_at st _
  call_at st (Tell j) = same_at st _
  call_at st (Play j q) = same_at st _
  call_at st (Copy j place) = same_at st _

numbers : (m : Structure) (h : History) → Answered m h → (n : ℕ) → at (stack h) n ≡ stands h n
numbers m [] a n = refl
numbers m (e ∷ h) a n =
    ap (λ (b : Answer). at (after e.call b (stack h)) n) a.0
    ∙ call_at m e.size n (stack h) e.call
    ∙ ap₂ (λ (b : Answer) (x : Option Standing). becomes e.call b n x) (sym a.0) (numbers m h a.1 n)

-- A refused copy writes nothing.
taken_refused : (c : ℕ) (e : Refusal) → Copied c ≡ Refused e → ⊥
taken_refused c e i = let z : ◌≡◌ {A = ℕ} 0 1 = cc in omega arith

module _ (m : Structure) (place : ℕ) (buffer : List ℕ) (e : Refusal) where
  no_room : (b : Bool) (c : ℕ) (wrote : List ℕ) → given Copied (cond b (Ok c) (Err NoRoom)) ≡ Refused e → cond b wrote buffer ≡ buffer
  no_room true c wrote i = absurd (taken_refused c e i)
  no_room false c wrote i = refl

  no_book : (b : Result (ℕ → ℕ) Refusal) → given Copied (size_in m place (length buffer) b) ≡ Refused e → written_in m place buffer b ≡ buffer
  no_book (Ok book) i = no_room (leb (place + 4 * m.states) (length buffer)) (4 * m.states) _ i
  no_book (Err x) i = refl

  no_copy : (p : Option (Standing × Stack)) → given Copied (copy_of m p place (length buffer)) ≡ Refused e → buffer_of m p place buffer ≡ buffer
  no_copy None i = refl
  no_copy (Some p) i = no_book (book_of m p) i

pub buffer_kept : (m : Structure) (st : Stack) (c : Call) (buffer : List ℕ) (e : Refusal) → answer m st (length buffer) c ≡ Refused e → left_in m st c buffer ≡ buffer
buffer_kept m st (Write kind A r s) buffer e i = refl
buffer_kept m st (Round n) buffer e i = refl
buffer_kept m st Erase buffer e i = refl
buffer_kept m st (Ask n q) buffer e i = refl
buffer_kept m st (Tell n) buffer e i = refl
buffer_kept m st (Play n q) buffer e i = refl
buffer_kept m st (Copy n place) buffer e i = no_copy m place buffer e (found st n) i

pub law : (m : Structure) → Limits m → (h : History) → Answered m h → Law m h
law m L h a = record {
  numbers = numbers m h a;
  refused = λ c buffer e i. (ap (λ (b : Answer). after c b (stack h)) i, buffer_kept m (stack h) c buffer e i);
  few = λ n x low is. few_of m L x low (at_n n x low is).orderly;
  enough = λ n x low is e. (at_n n x low is).settled_is ∙ subst (Settled m x.kind x.group x.r (yes_states m low x.r) (yes_states m low x.s)) (sym e) (enough m.states m L refl x.kind x.group x.r (yes_states m low x.r) (yes_states m low x.s));
  means = λ n x low is e.
      let w = at_n n x low is in
      let d = sym w.settled_is ∙ e in
      record {
        right = let p = possible m L h a in settled_right m L p.rules (stack h) p.right n x low is e;
        binding = λ o k. bound_same m L (stack h) n low o x k is w d;
      };
}
  where
    at_n : (n : ℕ) (x : Standing) (low : Stack) → found (stack h) n ≡ Some (x, low) → Here m L (stack h) n x low
    at_n n x low is = let p = possible m L h a in here m L p.rules (stack h) p.right n x low is
