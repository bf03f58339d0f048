use Rattle.std.proofs.Common.{IfOk, sym, ap, ◌∙◌, subst}
use Rattle.std.proofs.lemmas.Result.{IfOk-weaker}
use Rattle.book.specs.Readers.{told}
use Rattle.report.specs.Judging.{judgement}
use Rattle.report.specs.Printed.{Prints, played}
use Rattle.report.specs.Steps.{AllJudged, Books, DeclinesStopped}
use Rattle.report.proofs.Rows.{stopped_plays}
use Rattle.report.proofs.judging.Judging.judged_book.Goals as goal

pub returns-in-Err : goal.returns-in-Err
returns-in-Err g c =
    let m = g.G.Game.meaning c.args.self.now.board.game in
    let bs = told c.args.rules in
    IfOk-weaker c.stopped.result (DeclinesStopped c.in-Err.why) (Prints (played m c.args.rule (judgement m bs)))
    (stopped_plays m bs c.rules.new.self.board.table c.args.rule c.in-Err.why c.in-Err.ensures.judged) c.stopped.ensures

pub returns : goal.returns
returns g c =
    let m = g.G.Game.meaning c.args.self.now.board.game in
    let bs = told c.args.rules in
    let t = c.rules.new.self.board.table in
    let here = subst (AllJudged m bs t) c.in_default.is c.rules.ensures.judged in
    IfOk-weaker c.book.result (Books m c.args.rule t) (Prints (played m c.args.rule (judgement m bs)))
    (λ report b. b here.stands here.reached ∙ ap (played m c.args.rule) (sym here.judged_is))
    (subst (λ (x : g.row.G.Denot). IfOk c.book.result (Books (g.G.Game.meaning x) c.args.rule t)) c.rules.ensures.game c.book.ensures)
