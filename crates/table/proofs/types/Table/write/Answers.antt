use Rattle.std.proofs.Common.{◌≡◌, ℕ, subst}
use Rattle.table.specs.Answers.{taken, number_if}
use Rattle.table.specs.Steps.{Wrote}
use Rattle.table.proofs.Calls.{does_write}
use Rattle.table.proofs.types.Table.write.Goals as goal

pub returns : goal.returns
returns g c =
    let m = g.G.Game.meaning c.args.game.now in
    let t = c.args.self.now in
    does_write m (g.G.Game.limits c.args.game.now) t c.enter.new.self c.args.kind c.args.group c.args.r c.args.s c.enter.result
    (subst (λ (n : ℕ). c.enter.result ≡ number_if t.count (taken n t.count c.args.kind c.args.group c.args.r c.args.s)) c.players-players.ensures c.enter.ensures.answer)
    (subst (λ (n : ℕ). Wrote t c.enter.new.self c.args.group c.args.r c.args.s (taken n t.count c.args.kind c.args.group c.args.r c.args.s)) c.players-players.ensures c.enter.ensures.table)
