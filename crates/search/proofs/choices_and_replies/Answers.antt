use Rattle.game.specs.Lists.{own, other}
use Rattle.game.proofs.Division.{own_digits, other_digits}
use Rattle.search.proofs.Loops.{all_under}
use Rattle.search.proofs.choices_and_replies.Goals as goal

pub returns : goal.returns
returns g c =
    let m = g.G.Game.meaning c.args.game.now in
    let L = g.G.Game.limits c.args.game.now in
    let s = c.at-sides.ensures in
    let k = all_under (own m c.args.group c.args.state) (own_digits m c.args.group c.args.state L) L.six s.players s.choice c.under.ensures in
    let r = all_under (other m c.args.group c.args.state) (other_digits m c.args.group c.args.state L) L.six s.players s.reply c.under-2.ensures in
    record { choices = k.0; replies = r.0; short_choices = k.1; short_replies = r.1 }
