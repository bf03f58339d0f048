use Rattle.std.proofs.Common.{sym}
use Rattle.table.proofs.Books.{until_choice, unless_choice}
use Rattle.table.proofs.types.Rule.choice.Goals as goal

pub returns-in-Yes-Until : goal.returns-in-Yes-Until
returns-in-Yes-Until g c = λ l.
    until_choice (g.G.Game.meaning c.args.game.now) (g.G.Game.limits c.args.game.now) c.args.self.now c.args.parts.now c.args.state l c.args.temporal c.in-Yes-Until.number c.kept_to-in-Yes-Until.result c.yes_states_below.result
    c.in-Yes-Until.is-0 c.in-Yes-Until.is-1 c.if-number-gt0.true c.yes_states_below.ensures c.kept_to-in-Yes-Until.ensures

pub returns-in-Yes-Unless : goal.returns-in-Yes-Unless
returns-in-Yes-Unless g c = λ l.
    unless_choice (g.G.Game.meaning c.args.game.now) (g.G.Game.limits c.args.game.now) c.args.self.now c.args.parts.now c.args.state l c.args.temporal c.in-Yes-Unless.field-0-0 c.kept_to-in-Yes-Unless.result c.yes_states.result
    c.in-Yes-Unless.is-0 c.in-Yes-Unless.is-1 (sym c.if-not-has.ensures) c.yes_states.ensures c.kept_to-in-Yes-Unless.ensures
