use Rattle.std.proofs.Common.{arith}
use Rattle.binding.proofs.Firsts.{kept, begun, follows_lawful}
use Rattle.binding.proofs.at_first.Goals as goal

pub returns : goal.returns
returns g c =
    let m = g.G.Game.meaning c.args.game.now in
    let L = g.G.Game.limits c.args.game.now in
    let k = begun m L c.args.group c.players-players.result _ c.all_first.result c.same.result.choices c.players-players.ensures (kept c.players-players.result c.args.group (omega (arith, c.players-players.ensures, L.six))) c.all_first.ensures c.same.ensures in
    record { group = k.0; entries = k.1; first = k.2; follows = follows_lawful m L _ }
