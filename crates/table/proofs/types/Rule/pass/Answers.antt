use Rattle.std.proofs.Common.{◌≡◌, ℕ, ◌≤◌, Bool, true, false, cond, length, subst, rules, arith}
use Rattle.table.specs.Steps.{Passed}
use Rattle.table.proofs.Passing.{passed_none, passed_more}
use Rattle.table.proofs.types.Rule.pass.Goals as goal

pub loop-state-init : goal.loop-state-init
loop-state-init g c = (passed_none (g.G.Game.meaning c.args.game.now) c.args.self.now c.args.sets.now, omega arith)

one_at_most : (b : Bool) (k : ℕ) → k ≡ cond b 1 0 → k ≤ 1
one_at_most true k e = omega arith
one_at_most false k e = omega arith

pub loop-state-preserved : goal.loop-state-preserved
loop-state-preserved g c =
    let m = g.G.Game.meaning c.args.game.now in
    let many = (g.G.Game.limits c.args.game.now).many in (
      (let p = c.loop-state.invariant.0 in
          let long : length c.args.self.now.marks ≡ 256 = search rules in
          passed_more m c.args.self.now c.args.sets.now c.loop-state.state c.loop-state.self c.loop-state.marked c.newly-marked.result c.new_mark-new.result (omega (arith, long, p.kept.long, many, c.states-states.ensures.0)) p c.new_mark-new.ensures c.newly-marked.ensures),
      omega (arith, one_at_most _ c.newly-marked.result c.newly-marked.ensures, c.loop-state.invariant.1),
    )

pub overflow_add-marked : goal.overflow_add-marked
overflow_add-marked g c = omega (arith, one_at_most _ c.newly-marked.result c.newly-marked.ensures, c.loop-state.invariant.1, (g.G.Game.limits c.args.game.now).many, c.states-states.ensures.0)

pub returns : goal.returns
returns g c =
    let e : c.loop-state.state ≡ (g.G.Game.meaning c.args.game.now).states = omega (arith, c.states-states.ensures.0) in
    subst (λ n. Passed (g.G.Game.meaning c.args.game.now) c.args.self.now c.args.sets.now n c.loop-state.self c.loop-state.marked) e c.loop-state.invariant.0
