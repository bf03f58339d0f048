use Rattle.std.proofs.Common.{◌≡◌, take, vec_items}
use Rattle.judged.proofs.rows.table.Given as goal
use Rattle.judged.specs.Lines.{judging_from}

abbrev pub invariant-loop-rule : goal.invariant-loop-rule
invariant-loop-rule l = vec_items l.calls ≡ judging_from 0 l.states (take l.rule l.rows)
