use Rattle.std.proofs.Common.{refl, arith}
use Rattle.std.proofs.lemmas.Result.{err_from_is_err_and}
use Rattle.table.proofs.Calls.{does_round, does_refused_round, tested, stepped}
use Rattle.table.proofs.types.Table.round.Goals as goal

pub returns-in_err-parts : goal.returns-in_err-parts
returns-in_err-parts g c =
    let p = err_from_is_err_and c.from_residual.result c.from_residual.ensures.1 in
    rw (p.1, p.2) (does_refused_round (g.G.Game.meaning c.args.game.now) c.args.self.now c.args.rule _ c.in_err-parts.ensures)

pub returns : goal.returns
returns g c =
    let m = g.G.Game.meaning c.args.game.now in
    let t = tested c.args.self.now c.args.rule c.in_ok-parts.ensures.0 in
    does_round m (g.G.Game.limits c.args.game.now) c.args.self.now _ c.args.rule c.round.result t
    (λ long. stepped m c.args.self.now _ c.args.rule c.round.result c.round.new.self c.in_ok-parts.parts (omega (arith, long, t.low, c.args.self.now.ok)) refl refl c.in_ok-parts.ensures.1 c.round.ensures)
