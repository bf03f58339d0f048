use Rattle.std.proofs.Common.{Bool, cond, not, nat_le, ◌==◌, ◌^◌, ap, ◌∙◌, arith}
use Rattle.std.proofs.lemmas.Bool.{le-ltb}
use Rattle.table.proofs.Labels.{no_such_member}
use Rattle.table.proofs.types.Rule.lacks_group.Goals as goal

pub returns-else-players-lt8 : goal.returns-else-players-lt8
returns-else-players-lt8 c =
    le-ltb c.args.players 8 c.if-players-lt8.false
    ∙ no_such_member c.args.self.now.group c.args.players (omega arith) c.if-players-lt8.false
    ∙ ap (λ (b : Bool). cond b (nat_le (2 ^ c.args.players) c.args.self.now.group) (not (c.args.self.now.group == 0))) c.if-has_group.ensures
