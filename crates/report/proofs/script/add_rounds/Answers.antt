use Rattle.std.proofs.Common.{◌≡◌, ◌+◌, ◌++◌, replicate, vec_items, sym, ap, ◌∙◌, append-nil, arith}
use Rattle.calls.specs.declared.types.Call.TheVariants.{Round}
use Rattle.report.proofs.Loops.{rounds_more}
use Rattle.report.proofs.script.add_rounds.Goals as goal

pub loop-round-init : goal.loop-round-init
loop-round-init c = sym (append-nil (vec_items c.args.calls.now))

pub loop-round-preserved : goal.loop-round-preserved
loop-round-preserved c = rounds_more c.args.rule c.loop-round._round (vec_items c.args.calls.now) (vec_items c.loop-round.calls) (vec_items c.push.new.self) c.loop-round.invariant c.in_ok-push.ensures.items

pub returns : goal.returns
returns c =
    let e : c.loop-round._round ≡ c.args.states + 1 = omega arith in
    c.loop-round.invariant ∙ ap (λ k. vec_items c.args.calls.now ++ replicate k (Round c.args.rule)) e
