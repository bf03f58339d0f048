use Rattle.std.proofs.Common.{sym, ◌∙◌}
use Rattle.game.proofs.Highest.{own_turn, other_turn}
use Rattle.game.proofs.Division.{divided}
use Rattle.game.proofs.sides.Sides.at.Goals as goal
use Rattle.game.proofs.sides.Sides.at.Goals.{then-is_member, else-is_member}

pub loop-player-preserved : goal.loop-player-preserved
loop-player-preserved g c =
    elim c.if-is_member.branch [
      | then-is_member w ↦ rw (w.choice-is, w.reply-is) (own_turn (g.G.Game.limits c.args.game.now) c.players-players.ensures c.loop-player-test.true c.loop-player.auto.player c.moves-moves.ensures c.loop-player.invariant (sym c.is_member.ensures ∙ w.if-is_member.true))
      | else-is_member w ↦ rw (w.choice-is, w.reply-is) (other_turn (g.G.Game.limits c.args.game.now) c.players-players.ensures c.loop-player-test.true c.loop-player.auto.player c.moves-moves.ensures c.loop-player.invariant (sym c.is_member.ensures ∙ w.if-is_member.false))
    ]

pub returns-clause-divided : goal.returns-clause-divided
returns-clause-divided g c = divided (g.G.Game.meaning c.args.game.now) c.args.group c.args.state (g.G.Game.limits c.args.game.now)
