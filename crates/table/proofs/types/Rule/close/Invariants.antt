use Rattle.std.proofs.Common.{◌≡◌, ℕ, ◌<◌, ◌≤◌, true, get_or}
use Rattle.atl.specs.declared.Mark.TheVariants.{Open}
use Rattle.atl.specs.Rounds.{closed}
use Rattle.table.proofs.types.Rule.close.Given as goal

abbrev pub invariant-loop-mark : goal.invariant-loop-mark
invariant-loop-mark l = record {
  marks : (q : ℕ) → q < l.mark-index → get_or l.mark-items q Open ≡ closed l.kind true (get_or l.initial.mark-items q Open);
  rest : (q : ℕ) → l.mark-index ≤ q → get_or l.mark-items q Open ≡ get_or l.initial.mark-items q Open;
}
