use Rattle.std.proofs.Common.{◌≡◌, length}
use Rattle.crosscheck.proofs.second.Second.kept.Given as goal

abbrev pub invariant-loop-place : goal.invariant-loop-place
invariant-loop-place l = length l.kept.items ≡ l.place
