use Rattle.std.proofs.Common.{sym, ◌∙◌, subst}
use Rattle.table.specs.Shows.{Few}
use Rattle.table.proofs.Calls.{tells_of, few_rounds}
use Rattle.table.proofs.types.Table.tell.Goals as goal

pub returns : goal.returns
returns c =
    let t = c.args.self.now in
    record {
      answer = λ m st p. c.progress.ensures ∙ tells_of m t st p c.args.rule;
      few = λ m st p. subst (Few m.states) (sym (c.progress.ensures ∙ tells_of m t st p c.args.rule)) (few_rounds m t st p c.args.rule);
    }
