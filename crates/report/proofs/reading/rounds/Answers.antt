use Rattle.std.proofs.Common.{ap, ◌∙◌}
use Rattle.std.proofs.lemmas.List.{take_all}
use Rattle.refusal.specs.declared.Refusal.TheVariants.{Full}
use Rattle.calls.specs.declared.types.Answer.TheVariants.{Refused}
use Rattle.report.specs.Steps.{last_told}
use Rattle.report.proofs.Loops.{told_more}
use Rattle.report.proofs.reading.rounds.Goals as goal

pub loop-answer-preserved : goal.loop-answer-preserved
loop-answer-preserved c = told_more c.args.answers.now c.loop-answer.answer-index (Refused Full) c.loop-answer-test.true c.loop-answer.rounds c.rounds_of-rounds.result c.loop-answer.invariant c.rounds_of-rounds.ensures

pub returns : goal.returns
returns c = c.loop-answer.invariant ∙ ap (last_told 0) (take_all c.loop-answer.answer-index c.args.answers.now c.loop-answer-test.false)
