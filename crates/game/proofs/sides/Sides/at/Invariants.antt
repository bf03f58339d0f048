use Rattle.game.proofs.Highest.{Passed}
use Rattle.game.proofs.sides.Sides.at.Given as goal

-- the digits of the players that the loop has passed
abbrev pub invariant-loop-player : goal.invariant-loop-player
invariant-loop-player g l = Passed (g.G.Game.meaning l.game) l.group l.state l.player l.players l.choice l.reply
