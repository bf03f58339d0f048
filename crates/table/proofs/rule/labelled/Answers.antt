use Rattle.std.proofs.Common.{◌∙◌}
use Rattle.std.proofs.lemmas.Bool.{le-ltb}
use Rattle.table.proofs.Labels.{no_such_label}
use Rattle.table.proofs.rule.labelled.Goals as goal

pub returns-else-label-lt16 : goal.returns-else-label-lt16
returns-else-label-lt16 g c = le-ltb c.args.label 16 c.if-label-lt16.false ∙ no_such_label (g.G.Game.meaning c.args.game.now) (g.G.Game.limits c.args.game.now) c.args.label c.args.state c.if-label-lt16.false
