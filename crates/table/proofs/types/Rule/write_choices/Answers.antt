use Rattle.std.proofs.Common.{◌∙◌, arith}
use Rattle.table.specs.Books.{choice_of}
use Rattle.table.proofs.Copying.{bytes_more, bytes_all}
use Rattle.table.proofs.types.Rule.write_choices.Goals as goal

pub loop-state-preserved : goal.loop-state-preserved
loop-state-preserved g c =
    bytes_more (choice_of (g.G.Game.meaning c.args.game.now) c.args.self.now c.args.parts.now c.args.temporal) c.loop-state.state c.place_of-at.result _ c.choice-choice.result c.loop-state.bytes c.copy_from_slice.new.self c.to_be_bytes.result
    c.place_of-at.ensures (omega (arith, c.requires, c.loop-state.auto.bytes, c.states-states.ensures.0)) c.loop-state.invariant c.copy_from_slice.ensures.after c.to_be_bytes.ensures (c.choice-choice.ensures (omega (arith, c.states-states.ensures.0)))

pub returns : goal.returns
returns g c =
    let m = g.G.Game.meaning c.args.game.now in
    bytes_all (choice_of m c.args.self.now c.args.parts.now c.args.temporal) c.loop-state.state m.states c.loop-state.bytes (omega (arith, c.states-states.ensures.0)) (c.loop-state.auto.bytes ∙ c.requires) c.loop-state.invariant

pub overflow_cast-state : goal.overflow_cast-state
overflow_cast-state g c = omega (arith, c.states-states.ensures.0, (g.G.Game.limits c.args.game.now).many)
