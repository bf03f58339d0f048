use Rattle.std.proofs.Common.{refl}
use Rattle.table.proofs.Calls.{shows_nothing}
use Rattle.board.proofs.Board.new.Goals as goal

pub returns : goal.returns
returns g c = record { game = refl; shows = shows_nothing (g.G.Game.meaning c.args.game) c.empty.result c.empty.ensures.count c.empty.ensures.long }
