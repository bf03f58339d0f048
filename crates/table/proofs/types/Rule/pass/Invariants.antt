use Rattle.std.proofs.Common.{◌≤◌}
use Rattle.table.specs.Steps.{Passed}
use Rattle.table.proofs.types.Rule.pass.Given as goal

abbrev pub invariant-loop-state : goal.invariant-loop-state
invariant-loop-state g l = Passed (g.G.Game.meaning l.game) l.initial.self l.sets l.state l.self l.marked × (l.marked ≤ l.state)
