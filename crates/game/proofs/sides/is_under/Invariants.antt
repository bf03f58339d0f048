use Rattle.std.proofs.Common.{◌≡◌, ◌-◌}
use Rattle.game.specs.Lists.{under}
use Rattle.game.proofs.sides.is_under.Given as goal

-- what is left of the number decides
abbrev pub invariant-loop : goal.invariant-loop
invariant-loop l = under l.players l.most l.number ≡ under (l.players - l.counter) l.limits l.rest
