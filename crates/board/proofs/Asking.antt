-- What ask answers of a rule, and what that means.
use Rattle.std.proofs.Common.{◌≡◌, ℕ, ◌<◌, Bool, true, false, not, Some, Ok, Decides, Option, Result, sym, refl, ap, ◌∙◌, subst, true≢false, arith}
use Rattle.std.proofs.lemmas.Bool.{lt-ltb, cond-true, not-true, not_from_false}
use Rattle.game.specs.Structure.{Structure, Limits}
use Rattle.refusal.specs.declared.Refusal.{Refusal}
use Rattle.atl.specs.declared.Kind.{Kind}
use Rattle.atl.specs.declared.Kind.TheVariants.{Label, Not, Or, Strategic}
use Rattle.atl.specs.declared.Modality.TheVariants.{Can, Despite}
use Rattle.atl.specs.declared.Temporal.TheVariants.{Next, Until, Unless}
use Rattle.atl.specs.declared.Mark.{Mark}
use Rattle.atl.specs.declared.Mark.TheVariants.{Open, Yes, No}
use Rattle.atl.specs.declared.Verdict.{Verdict}
use Rattle.atl.specs.declared.Verdict.TheVariants as verdict
use Rattle.atl.specs.declared.Shown.{Shown}
use Rattle.atl.specs.Rounds.{is_yes, shown}
use Rattle.atl.specs.Rules.{Formula}
use Rattle.atl.specs.Verdict.{is_no, Settled, yes, no}
use Rattle.atl.specs.Right.{KnowsParts}
use Rattle.atl.proofs.Right.{closed_no, rule_right, can_right}
use Rattle.table.specs.Standing.{Standing, Stack, found, marks_of, settled_of, mark_of, yes_states}
use Rattle.table.specs.Answers.{ask_of, ask_answer}
use Rattle.board.specs.Truth.{formula, ExactlyWhen, Means, Asked}
use Rattle.board.proofs.Knowing.{Here, mark_final}

pub ok_ok : {A : Type 0} {a b : A} → ◌≡◌ {A = Result A Refusal} (Ok a) (Ok b) → a ≡ b
ok_ok e = cc

-- an answer with the verdict v
abbrev With : Result Shown Refusal → Verdict → Type 0
With a v = (k : ℕ) × (a ≡ Ok (record { verdict = v; number = k }))

same_verdict : (u : Shown) (v : Verdict) (k : ℕ) → ◌≡◌ {A = Result Shown Refusal} (Ok u) (Ok (record { verdict = v; number = k })) → u.verdict ≡ v
same_verdict u v k e = ap (λ (z : Shown). z.verdict) (ok_ok e)

open_yes : verdict.Open ≡ verdict.Yes → ⊥
open_yes e = let z : ◌≡◌ {A = ℕ} 0 1 = cc in omega arith

open_no : verdict.Open ≡ verdict.No → ⊥
open_no e = let z : ◌≡◌ {A = ℕ} 0 1 = cc in omega arith

no_yes : verdict.No ≡ verdict.Yes → ⊥
no_yes e = let z : ◌≡◌ {A = ℕ} 0 1 = cc in omega arith

shown_yes : (v : Mark) → ExactlyWhen (With (Ok (shown v)) verdict.Yes) (is_yes v ≡ true)
shown_yes Open = (λ p. absurd (open_yes (same_verdict (shown Open) verdict.Yes p.0 p.1)), λ e. absurd (true≢false (sym e)))
shown_yes (Yes k) = (λ p. refl, λ e. (k, refl))
shown_yes (No k) = (λ p. absurd (no_yes (same_verdict (shown (No k)) verdict.Yes p.0 p.1)), λ e. absurd (true≢false (sym e)))

shown_no : (v : Mark) → ExactlyWhen (With (Ok (shown v)) verdict.No) (is_no v ≡ true)
shown_no Open = (λ p. absurd (open_no (same_verdict (shown Open) verdict.No p.0 p.1)), λ e. absurd (true≢false (sym e)))
shown_no (Yes k) = (λ p. absurd (no_yes (sym (same_verdict (shown (Yes k)) verdict.No p.0 p.1))), λ e. absurd (true≢false (sym e)))
shown_no (No k) = (λ p. refl, λ e. (k, refl))

pub shown_number : (v : Mark) (k : ℕ) → ◌≡◌ {A = Result Shown Refusal} (Ok (shown v)) (Ok (record { verdict = verdict.Yes; number = k })) → v ≡ Yes k
shown_number Open k e = absurd (open_yes (same_verdict (shown Open) verdict.Yes k e))
shown_number (Yes j) k e = ap Yes (ap (λ (z : Shown). z.number) (ok_ok e))
shown_number (No j) k e = absurd (no_yes (same_verdict (shown (No j)) verdict.Yes k e))

module _ (m : Structure) (st : Stack) (n : ℕ) (x : Standing) (low : Stack) (is : found st n ≡ Some (x, low)) (q : ℕ) (l : q < m.states) where
  pub ask_is : ask_answer m n q st ≡ Ok (shown (mark_of m x (yes_states m low) q))
  ask_is = ap (λ (o : Option (Standing × Stack)). ask_of m o q) is ∙ cond-true _ _ _ (lt-ltb q m.states l)

  pub asked_yes : ExactlyWhen (Asked m st n q verdict.Yes) (is_yes (mark_of m x (yes_states m low) q) ≡ true)
  asked_yes = subst (λ (a : Result Shown Refusal). ExactlyWhen (With a verdict.Yes) (is_yes (mark_of m x (yes_states m low) q) ≡ true)) (sym ask_is) (shown_yes (mark_of m x (yes_states m low) q))

  pub asked_no : ExactlyWhen (Asked m st n q verdict.No) (is_no (mark_of m x (yes_states m low) q) ≡ true)
  asked_no = subst (λ (a : Result Shown Refusal). ExactlyWhen (With a verdict.No) (is_no (mark_of m x (yes_states m low) q) ≡ true)) (sym ask_is) (shown_no (mark_of m x (yes_states m low) q))

-- a settled rule says yes at its yes states, and no at the others
module _ (m : Structure) (L : Limits m) (st : Stack) (n : ℕ) (x : Standing) (low : Stack) (is : found st n ≡ Some (x, low)) (w : Here m L st n x low) (d : settled_of m x (yes_states m low) ≡ true) (q : ℕ) (l : q < m.states) where
  pub says_yes : ExactlyWhen (Asked m st n q verdict.Yes) (yes_states m st n q ≡ true)
  says_yes = let e = asked_yes m st n x low is q l in (λ y. w.yes_is q ∙ e.0 y, λ b. e.1 (sym (w.yes_is q) ∙ b))

  no_is : is_no (mark_of m x (yes_states m low) q) ≡ not (yes_states m st n q)
  no_is = ap is_no (mark_final m L x low d q) ∙ closed_no x.kind (marks_of m x (yes_states m low) x.rounds q) ∙ ap not (sym (w.yes_is q ∙ ap is_yes (mark_final m L x low d q)))

  pub says_no : ExactlyWhen (Asked m st n q verdict.No) (yes_states m st n q ≡ false)
  says_no = let e = asked_no m st n x low is q l in (λ y. not-true (yes_states m st n q) (sym no_is ∙ e.0 y), λ b. e.1 (no_is ∙ not_from_false (yes_states m st n q) b))

-- The verdicts of a rule that round k has settled.
through : {Y P : Type 0} (b : Bool) → ExactlyWhen Y (b ≡ true) → Decides b P → ExactlyWhen Y P
through b e d = (λ y. d.0 (e.0 y), λ p. e.1 (d.1 p))

module _ (m : Structure) (L : Limits m) (A l : ℕ) (r s : Formula) (R S : ℕ → Bool) (k q : ℕ) (in_m : q < m.states) (Y N : Type 0) where
  pub means : (f : Kind) → KnowsParts m f r s R S → Settled m f A l R S k → ExactlyWhen Y (yes m f A l R S k q ≡ true) → ExactlyWhen N (no m f A l R S k q ≡ true) → Means m f A l r s q Y N
  means Label p d y n = let w = rule_right m L Label A l r s R S k p d q in_m in record { yes = through _ y w.yes_right; no = through _ n w.no_right }
  means Not p d y n = let w = rule_right m L Not A l r s R S k p d q in_m in record { yes = through _ y w.yes_right; no = through _ n w.no_right }
  means Or p d y n = let w = rule_right m L Or A l r s R S k p d q in_m in record { yes = through _ y w.yes_right; no = through _ n w.no_right }
  means (Strategic Can o) p d y n = let w = can_right m L o A l r s R S k p d q in_m in record { yes = through _ y w.yes_right; no = through _ n w.no_right }
  means (Strategic Despite Next) p d y n = let w = rule_right m L (Strategic Despite Next) A l r s R S k p d q in_m in record { yes = through _ y w.yes_right; no = through _ n w.no_right }
  means (Strategic Despite Until) p d y n = let w = rule_right m L (Strategic Despite Until) A l r s R S k p d q in_m in record { yes = through _ y w.yes_right; no = through _ n w.no_right }
  means (Strategic Despite Unless) p d y n = let w = rule_right m L (Strategic Despite Unless) A l r s R S k p d q in_m in record { yes = through _ y w.yes_right; no = through _ n w.no_right }

pub rule_means : (m : Structure) (L : Limits m) (st : Stack) (n : ℕ) (x : Standing) (low : Stack) → found st n ≡ Some (x, low) → Here m L st n x low → settled_of m x (yes_states m low) ≡ true
    → (q : ℕ) → q < m.states → Means m x.kind x.group x.r (formula low x.r) (formula low x.s) q (Asked m st n q verdict.Yes) (Asked m st n q verdict.No)
rule_means m L st n x low is w d q l =
    means m L x.group x.r (formula low x.r) (formula low x.s) (yes_states m low x.r) (yes_states m low x.s) x.rounds q l (Asked m st n q verdict.Yes) (Asked m st n q verdict.No) x.kind (w.parts d) d
    (subst (λ (v : Mark). ExactlyWhen (Asked m st n q verdict.Yes) (is_yes v ≡ true)) (mark_final m L x low d q) (asked_yes m st n x low is q l))
    (subst (λ (v : Mark). ExactlyWhen (Asked m st n q verdict.No) (is_no v ≡ true)) (mark_final m L x low d q) (asked_no m st n x low is q l))
