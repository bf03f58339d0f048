use Rattle.std.proofs.Common.{◌≡◌, ◌++◌, vec_items, sym, ap, ◌∙◌, append-nil, arith}
use Rattle.report.specs.Steps.{asks}
use Rattle.report.proofs.Loops.{asks_more}
use Rattle.report.proofs.script.add_asks.Goals as goal

pub loop-state-init : goal.loop-state-init
loop-state-init c = sym (append-nil (vec_items c.args.calls.now))

pub loop-state-preserved : goal.loop-state-preserved
loop-state-preserved c = asks_more c.args.rule c.loop-state.state (vec_items c.args.calls.now) (vec_items c.loop-state.calls) (vec_items c.push.new.self) c.loop-state.invariant c.in_ok-push.ensures.items

pub returns : goal.returns
returns c =
    let e : c.loop-state.state ≡ c.args.states = omega arith in
    c.loop-state.invariant ∙ ap (λ k. vec_items c.args.calls.now ++ asks c.args.rule k) e
