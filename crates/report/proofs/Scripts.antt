-- The calls that judge a rule: what stands after them, and what their answers say.
use Rattle.std.proofs.Common.{◌≡◌, ℕ, zero, suc, ◌+◌, ◌<◌, ◌≤◌, Bool, true, false, cond, List, [], ◌∷◌, ◌++◌, length, replicate, Some, Ok, Err, Option, Result, sym, refl, ap, ◌∙◌, subst, ap₂, ⊎_elim, arith}
use Rattle.std.proofs.lemmas.Bool.{lt-ltb, cond-true, cond-false, cases_Bool}
use Rattle.std.specs.Option.{option_to_list}
use Rattle.game.specs.Structure.{Structure}
use Rattle.refusal.specs.declared.Refusal.{Refusal}
use Rattle.refusal.specs.declared.Refusal.TheVariants.{PartUnsettled, AlreadySettled}
use Rattle.atl.specs.declared.Shown.{Shown}
use Rattle.atl.specs.Rounds.{shown, newly, tally}
use Rattle.table.specs.Parts.{waits}
use Rattle.table.specs.Standing.{Standing, Stack, found, marks_of, mark_of, yes_states, settled, advanced}
use Rattle.table.specs.Answers.{round_of, round_answer, advanced_if, round_after, ask_of, ask_answer}
use Rattle.table.proofs.Stacks.{top}
use Rattle.calls.specs.declared.types.Call.{Call}
use Rattle.calls.specs.declared.types.Call.TheVariants.{Round, Ask}
use Rattle.calls.specs.declared.types.Answer.{Answer}
use Rattle.calls.specs.declared.types.Answer.TheVariants.{Marked, Says}
use Rattle.calls.specs.Histories.{given, answer, History, stack, then, history, answers}
use Rattle.calls.proofs.Possible.{after_next}
use Rattle.report.specs.Judging.{first_from, with_rounds, settled_at}
use Rattle.report.specs.Printed.{marks_shown}
use Rattle.report.specs.Steps.{asks, shown_in, rounds_in, all_shown, last_told}
use Rattle.report.proofs.Loops.{shown_push, told_push}

-- The first number that passes.
pub first_stays : (p : ℕ → Bool) (tries k : ℕ) → p k ≡ true → first_from p tries k ≡ k
first_stays p zero k e = refl
first_stays p (suc tries) k e = cond-true (p k) _ _ e

pub first_passes : (p : ℕ → Bool) (tries k : ℕ) → p (k + tries) ≡ true → p (first_from p tries k) ≡ true
first_passes p zero k e = let z : k + 0 ≡ k = omega arith in subst (λ i. p i ≡ true) z e
first_passes p (suc tries) k e = ⊎_elim
    (λ (b : p k ≡ true). ap p (cond-true (p k) _ _ b) ∙ b)
    (λ (b : p k ≡ false). ap p (cond-false (p k) _ _ b) ∙ first_passes p tries (suc k) (let z : k + suc tries ≡ suc k + tries = omega arith in subst (λ i. p i ≡ true) z e))
    (cases_Bool (p k))

module _ (m : Structure) (size : ℕ) where
  -- One list of calls after another.
  pub history_join : (h : History) (xs ys : List Call) → history m h size (xs ++ ys) ≡ history m (history m h size xs) size ys
  history_join h [] ys = refl
  history_join h (x ∷ xs) ys = history_join (then m h size x) xs ys

  pub answers_join : (h : History) (xs ys : List Call) → answers m h size (xs ++ ys) ≡ answers m h size xs ++ answers m (history m h size xs) size ys
  answers_join h [] ys = refl
  answers_join h (x ∷ xs) ys = ap (λ (l : List Answer). answer m (stack h) size x ∷ l) (answers_join (then m h size x) xs ys)

  -- Rounds of the highest rule, whose parts are settled.
  module _ (x : Standing) (below : Stack) (ready : waits (settled m below) x.kind x.r x.s ≡ false) (n : ℕ) (is : n ≡ length below) where
    abbrev at : ℕ → Stack
    at k = with_rounds x k ∷ below

    due : (k : ℕ) → round_answer m n (at k) ≡ cond (settled_at m x below k) (Err AlreadySettled) (Ok (tally (newly (marks_of m x (yes_states m below)) k) m.states))
    due k = ap (round_of m) (top below n (Some (with_rounds x k, below)) (found below n) is) ∙ cond-false _ (Err PartUnsettled) _ ready

    one_round : (k : ℕ) → round_after m n (at k) ≡ cond (settled_at m x below k) (at k) (at (suc k))
    one_round k = ⊎_elim
        (λ (b : settled_at m x below k ≡ true).
        ap (λ (a : Result ℕ Refusal). advanced_if m a n (at k)) (due k ∙ cond-true _ _ _ b) ∙ sym (cond-true _ (at k) (at (suc k)) b))
        (λ (b : settled_at m x below k ≡ false).
        ap (λ (a : Result ℕ Refusal). advanced_if m a n (at k)) (due k ∙ cond-false _ _ _ b) ∙ top below n (at (suc k)) (with_rounds x k ∷ advanced n below) is ∙ sym (cond-false _ (at k) (at (suc k)) b))
        (cases_Bool (settled_at m x below k))

    pub rounds_settle : (tries k : ℕ) (h : History) → stack h ≡ at k → stack (history m h size (replicate tries (Round n))) ≡ at (first_from (settled_at m x below) tries k)
    rounds_settle zero k h e = e
    rounds_settle (suc tries) k h e =
        let goes : stack (then m h size (Round n)) ≡ cond (settled_at m x below k) (at k) (at (suc k)) = after_next m (stack h) size (Round n) ∙ ap (round_after m n) e ∙ one_round k in
        ⊎_elim
        (λ (b : settled_at m x below k ≡ true).
        rounds_settle tries k (then m h size (Round n)) (goes ∙ cond-true _ _ _ b) ∙ ap at (first_stays (settled_at m x below) tries k b ∙ sym (cond-true (settled_at m x below k) _ _ b)))
        (λ (b : settled_at m x below k ≡ false).
        rounds_settle tries (suc k) (then m h size (Round n)) (goes ∙ cond-false _ _ _ b) ∙ ap at (sym (cond-false (settled_at m x below k) _ _ b)))
        (cases_Bool (settled_at m x below k))

  -- Rounds show nothing.
  marked_shows : (r : Result ℕ Refusal) → option_to_list (shown_in (given Marked r)) ≡ []
  marked_shows (Ok c) = refl
  marked_shows (Err e) = refl

  pub rounds_show : (n tries : ℕ) (h : History) → all_shown (answers m h size (replicate tries (Round n))) ≡ []
  rounds_show n zero h = refl
  rounds_show n (suc tries) h = ap₂ (λ (u v : List Shown). u ++ v) (marked_shows (round_answer m n (stack h))) (rounds_show n tries (then m h size (Round n)))

  -- Questions leave what stands, show the marks and tell no rounds.
  pub asks_leave : (n k : ℕ) (h : History) → stack (history m h size (asks n k)) ≡ stack h
  asks_leave n zero h = refl
  asks_leave n (suc q) h = ap stack (history_join h (asks n q) (Ask n q ∷ [])) ∙ after_next m (stack (history m h size (asks n q))) size (Ask n q) ∙ asks_leave n q h

  says_tells : (k : ℕ) (r : Result Shown Refusal) → rounds_in k (given Says r) ≡ k
  says_tells k (Ok c) = refl
  says_tells k (Err e) = refl

  module _ (x : Standing) (below : Stack) (n : ℕ) (is : n ≡ length below) where
    ask_top : (q : ℕ) → q < m.states → ask_answer m n q (x ∷ below) ≡ Ok (shown (mark_of m x (yes_states m below) q))
    ask_top q l = ap (λ (o : Option (Standing × Stack)). ask_of m o q) (top below n (Some (x, below)) (found below n) is) ∙ cond-true _ _ _ (lt-ltb q m.states l)

    pub asks_show : (k : ℕ) → k ≤ m.states → (h : History) → stack h ≡ x ∷ below → all_shown (answers m h size (asks n k)) ≡ marks_shown m x below k
    asks_show zero l h e = refl
    asks_show (suc q) l h e =
        ap all_shown (answers_join h (asks n q) (Ask n q ∷ []))
        ∙ shown_push (answers m h size (asks n q)) _
        ∙ ap₂ (λ (u : List Shown) (v : Result Shown Refusal). u ++ option_to_list (shown_in (given Says v))) (asks_show q (omega arith) h e)
        (ap (ask_answer m n q) (asks_leave n q h ∙ e) ∙ ask_top q (omega arith))

  pub asks_tell : (n q k : ℕ) (h : History) → last_told k (answers m h size (asks n q)) ≡ k
  asks_tell n zero k h = refl
  asks_tell n (suc q) k h =
      ap (last_told k) (answers_join h (asks n q) (Ask n q ∷ []))
      ∙ told_push k (answers m h size (asks n q)) _
      ∙ says_tells _ (ask_answer m n q (stack (history m h size (asks n q))))
      ∙ asks_tell n q k h
