use Rattle.std.proofs.Common.{Ok, Err, string_bytes, rules, subst}
use Rattle.std.proofs.lemmas.Result.{IfOk-from_err, IfOk-weaker}
use Rattle.book.specs.Readers.{told}
use Rattle.report.specs.Judging.{judgement}
use Rattle.report.specs.Printed.{Prints, listed}
use Rattle.report.specs.Steps.{AllJudged, DeclinesStopped}
use Rattle.report.proofs.Right.{right_of}
use Rattle.report.proofs.Rows.{prints_rows, stopped_lists}
use Rattle.report.proofs.report.list.Goals as goal

pub returns-in_err-text-in-Ok : goal.returns-in_err-text-in-Ok
returns-in_err-text-in-Ok g c = record {
  listed = IfOk-from_err c.from_residual.result _ c.from_residual.ensures.0;
  right = right_of (g.G.Game.meaning c.args.game) (g.G.Game.limits c.args.game) (told c.args.rules);
}

pub returns-in-Ok : goal.returns-in-Ok
returns-in-Ok g c = record {
  listed = prints_rows g.G.Game.meaning c.new-judging.result.board.game c.args.game (told c.args.rules) c.rules-judged.new.self.board.table c.in-Ok.rows c.as_slice.result.now (string_bytes c.in_ok-text-in-Ok.text) c.players-players.result c.states-states.result.0 c.states-states.result.1
      c.new-judging.ensures.game c.in-Ok.ensures.judged c.as_slice.ensures.value c.in_ok-text-in-Ok.ensures c.players-players.ensures c.states-states.ensures.0 c.states-states.ensures.1;
  right = right_of (g.G.Game.meaning c.args.game) (g.G.Game.limits c.args.game) (told c.args.rules);
}

pub returns : goal.returns
returns g c =
    let m = g.G.Game.meaning c.args.game in
    let bs = told c.args.rules in
    record {
      listed = IfOk-weaker c.stopped.result (DeclinesStopped c.in-Err.why) (Prints (listed m (judgement m bs)))
          (stopped_lists m bs c.rules-judged.new.self.board.table c.in-Err.why (subst (λ (x : g.row.G.Denot). AllJudged (g.G.Game.meaning x) bs c.rules-judged.new.self.board.table (Err c.in-Err.why)) c.new-judging.ensures.game c.in-Err.ensures.judged)) c.stopped.ensures;
      right = right_of m (g.G.Game.limits c.args.game) bs;
    }
