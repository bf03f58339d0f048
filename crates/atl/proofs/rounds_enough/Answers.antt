use Rattle.std.proofs.Common.{sym, subst}
use Rattle.atl.proofs.rounds_enough.Goals as goal
use Rattle.atl.specs.Settling.{Enough}
use Rattle.atl.proofs.Bringing.{strategy_runs}
use Rattle.atl.proofs.Settle.{settling}
use Rattle.atl.proofs.Right.{enough, rule_right, mark_right, can_right, despite_right, verdict_right}
use Rattle.atl.proofs.Plays.{playbook_right, every_first_move}
use Rattle.atl.proofs.Binding.{binding_right}

pub returns : goal.returns
returns c = record {
  count = c.one_more.ensures;
  enough = subst (Enough c.args.states) (sym c.one_more.ensures) (enough c.args.states);
  settling = settling;
  rules = rule_right;
  marks = mark_right;
  can = can_right;
  despite = despite_right;
  runs = strategy_runs;
  firsts = every_first_move;
  playbooks = playbook_right;
  verdicts = verdict_right;
  binding = binding_right;
}
