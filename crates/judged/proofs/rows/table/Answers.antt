use Rattle.std.proofs.Common.{ap, ◌∙◌}
use Rattle.std.proofs.lemmas.List.{take_all}
use Rattle.calls.specs.declared.types.Call.TheVariants.{Write}
use Rattle.judged.specs.Lines.{judging_from}
use Rattle.judged.proofs.Tables.{judging_more}
use Rattle.judged.proofs.rows.table.Goals as goal

pub loop-rule-preserved : goal.loop-rule-preserved
loop-rule-preserved c = judging_more c.args.states c.args.rows.now c.loop-rule.rule (Write 0 0 0 0, 0) c.loop-rule-test.true c.loop-rule.invariant c.in_ok-one.ensures

pub returns : goal.returns
returns c = c.loop-rule.invariant ∙ ap (judging_from 0 c.args.states) (take_all c.loop-rule.rule c.args.rows.now c.loop-rule-test.false)
