use Rattle.board.proofs.Playing.{settled_right}
use Rattle.board.proofs.Board.play.Goals as goal

pub returns : goal.returns
returns g c =
    record {
      answer = c.play.ensures;
      truth = λ st p. settled_right (g.G.Game.meaning c.args.self.now.game) (g.G.Game.limits c.args.self.now.game) c.args.self.now.table.rules st p.rules c.args.rule;
    }
