use Rattle.std.proofs.Common.{ℕ, ap, ◌∙◌}
use Rattle.table.specs.Steps.{ask_table}
use Rattle.table.proofs.Calls.{asks}
use Rattle.table.proofs.types.Table.ask.Goals as goal

pub returns : goal.returns
returns g c = λ st p.
    c.read.ensures
    ∙ ap (λ (n : ℕ). ask_table n c.args.self.now c.args.rule c.args.state) c.states-states.ensures.0
    ∙ asks (g.G.Game.meaning c.args.game.now) c.args.self.now st p c.args.rule c.args.state
