use Rattle.std.proofs.Common.{IfOk, subst}
use Rattle.book.specs.Readers.{told}
use Rattle.report.specs.Judging.{judgement}
use Rattle.report.specs.Printed.{Prints, played}
use Rattle.report.proofs.Right.{right_of}
use Rattle.report.proofs.report.playbook.Goals as goal

pub returns : goal.returns
returns g c = record {
  played = subst (λ (x : g.row.G.Denot). IfOk c.judged_book-report.result (Prints (played (g.G.Game.meaning x) c.args.rule (judgement (g.G.Game.meaning x) (told c.args.rules))))) c.new-judging.ensures.game c.judged_book-report.ensures;
  right = right_of (g.G.Game.meaning c.args.game) (g.G.Game.limits c.args.game) (told c.args.rules);
}
