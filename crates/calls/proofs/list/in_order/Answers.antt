use Rattle.std.proofs.Common.{◌+◌, get_or, vec_items, refl, ap, ◌∙◌, subst, arith}
use Rattle.calls.specs.declared.types.Call.TheVariants.{Write}
use Rattle.calls.specs.Performing.{DoesCall}
use Rattle.calls.proofs.Performing.{performs_none, performs_more, performs_all}
use Rattle.calls.proofs.list.in_order.Goals as goal

pub loop-each-init : goal.loop-each-init
loop-each-init g c =
    let x = c.args.board.now.game in
    (refl, c.requires.no_length, c.requires.room, performs_none (g.G.Game.meaning x) (g.G.Game.limits x) c.args.board.now.table c.args.buffer.now (vec_items c.args.answers.now) c.requires.none)

pub loop-each-preserved : goal.loop-each-preserved
loop-each-preserved g c =
    let x = c.args.board.now.game in
    let m = g.G.Game.meaning x in
    let inv = c.loop-each.invariant in
    let here = get_or c.args.calls.now c.loop-each.each-index (Write 0 0 0 0) in (
      c.call-answer.ensures.game ∙ inv.0,
      c.push_reserved.ensures.len ∙ ap (λ n. n + 1) inv.1,
      omega (arith, inv.2, c.push_reserved.ensures.capacity),
      performs_more m (g.G.Game.limits x) c.args.calls.now c.loop-each.each-index (Write 0 0 0 0) c.args.board.now.table c.loop-each.board.table c.call-answer.new.board.table
          c.args.buffer.now c.loop-each.buffer c.call-answer.new.buffer (vec_items c.loop-each.answers) (vec_items c.push_reserved.new.self) c.call-answer.result
          c.loop-each-test.true inv.3
          (subst (λ y. DoesCall (g.G.Game.meaning y) here c.loop-each.board.table c.call-answer.new.board.table c.loop-each.buffer c.call-answer.new.buffer c.call-answer.result) inv.0 c.call-answer.ensures.does)
          c.loop-each.auto.buffer
          c.push_reserved.ensures.items,
    )

pub returns : goal.returns
returns g c =
    let inv = c.loop-each.invariant in
    record {
      game = inv.0;
      performs = performs_all (g.G.Game.meaning c.args.board.now.game) c.args.calls.now c.loop-each.each-index c.args.board.now.table c.loop-each.board.table c.args.buffer.now c.loop-each.buffer (vec_items c.loop-each.answers) c.loop-each-test.false inv.3;
    }
