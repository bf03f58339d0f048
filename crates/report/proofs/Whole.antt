-- From bytes to what is printed.
use Rattle.std.proofs.Common.{◌≡◌, ℕ, zero, suc, ◌*◌, ◌<◌, ltb, List, length, Some, None, sym, refl, ap, ◌∙◌, subst, inl, inr, arith}
use Rattle.std.proofs.lemmas.Bool.{lt-ltb, cond-true}
use Rattle.game.specs.Structure.{Structure, Limits}
use Rattle.drill.specs.Limited.{drill_limits}
use Rattle.drill.specs.Meaning.{drill, Limit}
use Rattle.book.specs.declared.fault.Fault.{Fault}
use Rattle.book.specs.declared.filed.FiledBook.{FiledBook}
use Rattle.book.specs.declared.rules.RuleField.{RuleField}
use Rattle.book.specs.Tests.{Passes, Fails, OneVerdict}
use Rattle.book.specs.Layout.{book_tests, list_tests}
use Rattle.book.specs.Content.{Content, Holds, HoldsRules}
use Rattle.book.specs.Described.{described}
use Rattle.book.specs.declared.rules.Rules.{Rules}
use Rattle.book.specs.Readers.{game_in, limits_in, told, told_in}
use Rattle.book.specs.Reading.{Files, OneContent, ListsRules, OneList}
use Rattle.book.specs.Told.{rule_count, rule_in, rule_told, Tells}
use Rattle.report.specs.declared.types.Report.{Report}
use Rattle.report.specs.Judging.{judged, judgement, rule_number, then_judged}
use Rattle.report.specs.Printed.{Prints, listed}
use Rattle.report.specs.Whole.{rule_of, judged_by, RightBy, Show, faulty, OfBook, OfDrill}
use Rattle.report.proofs.Right.{judged_right}

-- judging looks at no rule but the first n
judged_same : (m : Structure) (f g : ℕ → RuleField) (n : ℕ) → ((k : ℕ) → k < n → f k ≡ g k) → judged m f n ≡ judged m g n
judged_same m f g zero e = refl
judged_same m f g (suc n) e =
    ap (λ x. then_judged m n x (judged m f n)) (e n (omega arith)) ∙ ap (then_judged m n (g n)) (judged_same m f g n (λ k l. e k (omega arith)))

-- the rules that bytes tell, one by one
told_rule : (bs : List ℕ) (rs : List RuleField) → Tells bs rs → (k : ℕ) → k < length rs → rule_number bs k ≡ rule_of rs k
told_rule bs rs t k l =
    let e : rule_told bs k ≡ Some (rule_number bs k) = cond-true (ltb k (rule_count bs)) (Some (rule_in bs (7 * k))) None (lt-ltb k (rule_count bs) (omega (arith, t.many))) in
    let f : Some (rule_number bs k) ≡ Some (rule_of rs k) = sym e ∙ t.each k l in
    cc

judgement_by : (m : Structure) (bs : List ℕ) (rs : List RuleField) → Tells bs rs → judgement m bs ≡ judged_by m rs
judgement_by m bs rs t = ap (judged m (rule_number bs)) t.many ∙ judged_same m (rule_number bs) (rule_of rs) (length rs) (told_rule bs rs t)

right_by : (m : Structure) → Limits m → (rs : List RuleField) → RightBy m rs
right_by m L rs = judged_right m L (rule_of rs) (length rs)

-- a session book
module _ (bs : List ℕ) (show : Show) (report : Report) (one : OneVerdict (book_tests bs)) where
  pub of_sound_book : (b : FiledBook) (t : List ℕ) → Passes (book_tests bs) → Files bs b → OneContent bs → t ≡ told_in b → Prints (show (game_in b) (judgement (game_in b) t)) report → OfBook bs show report
  of_sound_book b t passes (c, (holds, (means, tells))) only e p = record {
    either = inl (c, holds);
    sound = λ d h. subst PrintedAt (only c d holds h) here;
    right = λ d h. subst RightAt (only c d holds h) (right_by (described c) (subst Limits means (limits_in b)) c.rules);
    fault = λ f fails. absurd (one.refused f fails passes);
  }
    where
      PrintedAt : Content → Type 0
      PrintedAt d = Prints (show (described d) (judged_by (described d) d.rules)) report

      RightAt : Content → Type 0
      RightAt d = RightBy (described d) d.rules

      here : PrintedAt c
      here = p ∙ ap (λ m. show m (judgement m t)) means ∙ ap (show (described c)) (ap (judgement (described c)) e ∙ judgement_by (described c) (told_in b) c.rules tells)

  pub of_faulty_book : (f : Fault) → Fails (book_tests bs) f → ((c : Content) → Holds bs c → ⊥) → Prints (faulty f) report → OfBook bs show report
  of_faulty_book f fails none p = record {
    either = inr (f, fails);
    sound = λ c h. absurd (none c h);
    right = λ c h. absurd (none c h);
    fault = λ g also. subst (λ x. Prints (faulty x) report) (one.same f g fails also) p;
  }

-- a drill with its rules
module _ (T : ℕ) (limit : Limit T) (bs : List ℕ) (report : Report) (one : OneVerdict (list_tests bs)) where
  pub of_sound_rules : (r : Rules) → Passes (list_tests bs) → ListsRules bs r → OneList bs → Prints (listed (drill T) (judgement (drill T) (told r))) report → OfDrill T bs report
  of_sound_rules r passes (rs, (holds, tells)) only p = record {
    refused = λ no. absurd (no limit);
    either = λ _. inl (rs, holds);
    sound = λ _ ss h. subst (λ x. Prints (listed (drill T) (judged_by (drill T) x)) report) (only rs ss holds h) (p ∙ ap (listed (drill T)) (judgement_by (drill T) (told r) rs tells));
    right = λ _ ss h. right_by (drill T) (drill_limits T limit.1) ss;
    fault = λ _ f fails. absurd (one.refused f fails passes);
  }

  pub of_faulty_rules : (f : Fault) → Fails (list_tests bs) f → ((rs : List RuleField) → HoldsRules bs rs → ⊥) → Prints (faulty f) report → OfDrill T bs report
  of_faulty_rules f fails none p = record {
    refused = λ no. absurd (no limit);
    either = λ _. inr (f, fails);
    sound = λ _ rs h. absurd (none rs h);
    right = λ _ rs h. absurd (none rs h);
    fault = λ _ g also. subst (λ x. Prints (faulty x) report) (one.same f g fails also) p;
  }
