use Rattle.std.proofs.Common.{◌++◌, vec_items, Option, sym, ap, ◌∙◌, append-nil}
use Rattle.std.specs.Option.{option_to_list}
use Rattle.atl.specs.declared.Shown.{Shown}
use Rattle.std.proofs.lemmas.List.{take_all}
use Rattle.refusal.specs.declared.Refusal.TheVariants.{Full}
use Rattle.calls.specs.declared.types.Answer.TheVariants.{Refused}
use Rattle.report.specs.Steps.{all_shown}
use Rattle.report.proofs.Loops.{shown_more}
use Rattle.report.proofs.reading.marks.Goals as goal
use Rattle.report.proofs.reading.marks.Goals.{in-Some+in_ok-push, in_default}

pub loop-answer-preserved : goal.loop-answer-preserved
loop-answer-preserved c =
    let further = shown_more c.args.answers.now c.loop-answer.answer-index (Refused Full) c.loop-answer-test.true c.shown_of.result (vec_items c.loop-answer.marks) (vec_items c.match-shown_of.marks) c.shown_of.ensures c.loop-answer.invariant in
    elim c.match-shown_of.branch [
      | in-Some+in_ok-push w ↦ further (ap vec_items w.marks-is ∙ w.in_ok-push.ensures.items ∙ ap (λ (o : Option Shown). vec_items c.loop-answer.marks ++ option_to_list o) (sym w.in-Some.is))
      | in_default w ↦ further (ap vec_items w.marks-is ∙ sym (append-nil (vec_items c.loop-answer.marks)) ∙ ap (λ (o : Option Shown). vec_items c.loop-answer.marks ++ option_to_list o) (sym w.in_default.is))
    ]

pub returns : goal.returns
returns c = c.loop-answer.invariant ∙ ap all_shown (take_all c.loop-answer.answer-index c.args.answers.now c.loop-answer-test.false)
