use Rattle.std.proofs.Common.{◌+◌, arith, length-drop}
use Rattle.std.proofs.lemmas.List.{take_all}
use Rattle.std.proofs.lemmas.Result.{err_from_is_err_and}
use Rattle.book.proofs.Walks.{step, rule_more, rule_stop, rules_end}
use Rattle.book.proofs.book.BookReader.rules.Goals as goal

pub loop-self-preserved : goal.loop-self-preserved
loop-self-preserved c =
    let j = c.in_ok-rule.ensures in
    let i = c.loop-self.invariant in (
      i.0 + 1,
      step c.args.self.now.records.fields.bytes.now c.args.self.now.records.fields.at i.0 c.loop-self.self.records.fields i.1 c.rule.new.self.fields j.1,
      rule_more c.args.self.now.records.fields.bytes.now c.args.self.now.records.fields.at i.0 c.loop-self.self.records.fields i.1 i.2 j.0,
    )

pub returns-in_err-rule : goal.returns-in_err-rule
returns-in_err-rule c =
    let p = err_from_is_err_and c.from_residual.result c.from_residual.ensures.1 in
    let i = c.loop-self.invariant in
    rw (p.1, p.2) (rule_stop c.args.self.now.records.fields.bytes.now c.args.self.now.records.fields.at i.0 c.loop-self.self.records.fields i.1 i.2 _ c.loop-self-test.ensures c.in_err-rule.ensures)

pub returns : goal.returns
returns c =
    let i = c.loop-self.invariant in
    (rules_end c.args.self.now.records.fields.bytes.now c.args.self.now.records.fields.at i.0 c.loop-self.self.records.fields i.1 i.2 (omega (arith, c.loop-self-test.ensures)), take_all _ _ (omega (arith, length-drop c.args.self.now.records.fields.at c.args.self.now.records.fields.bytes.now)))
