use Rattle.std.proofs.Common.{◌≡◌, ◌++◌, vec_items}
use Rattle.judged.proofs.rows.rounds.Given as goal
use Rattle.judged.specs.Lines.{rounds_of}

abbrev pub invariant-loop-k : goal.invariant-loop-k
invariant-loop-k l = vec_items l.calls ≡ vec_items l.initial.calls ++ rounds_of l.rule l._k
