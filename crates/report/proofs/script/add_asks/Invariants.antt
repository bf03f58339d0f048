use Rattle.std.proofs.Common.{◌≡◌, ◌++◌, vec_items}
use Rattle.report.specs.Steps.{asks}
use Rattle.report.proofs.script.add_asks.Given as goal

abbrev pub invariant-loop-state : goal.invariant-loop-state
invariant-loop-state l = vec_items l.calls ≡ vec_items l.initial.calls ++ asks l.rule l.state
