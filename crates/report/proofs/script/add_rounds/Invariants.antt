use Rattle.std.proofs.Common.{◌≡◌, ◌++◌, replicate, vec_items}
use Rattle.calls.specs.declared.types.Call.TheVariants.{Round}
use Rattle.report.proofs.script.add_rounds.Given as goal

abbrev pub invariant-loop-round : goal.invariant-loop-round
invariant-loop-round l = vec_items l.calls ≡ vec_items l.initial.calls ++ replicate l._round (Round l.rule)
