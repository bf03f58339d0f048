use Rattle.std.proofs.Common.{◌-◌, ◌*◌, ◌^◌, ◌≤◌, subst, arith}
use Rattle.book.proofs.Packed.{Placed, placed_none, placed_room, placed_more, placed_end, placed_near}
use Rattle.book.proofs.filed.place.Goals as goal

pub loop-k-init : goal.loop-k-init
loop-k-init c = placed_none c.args.players c.args.most c.args.vector

room : (c : goal.After-digit-in-loop-k) → c.digit-in-loop-k.result * c.loop-k.place ≤ 15 * 15 ^ 5
room c =
    placed_room c.args.players c.args.most c.args.vector c.loop-k.k (c.loop-k.k - 1) c.loop-k.place c.digit-in-loop-k.result (omega arith) c.loop-k.auto.k c.digit-in-loop-k.ensures c.loop-k.invariant c.requires

pub overflow_mul-place : goal.overflow_mul-place
overflow_mul-place c = omega (arith, room c)

pub overflow_add-place : goal.overflow_add-place
overflow_add-place c = omega (arith, room c)

pub loop-k-preserved : goal.loop-k-preserved
loop-k-preserved c =
    placed_more c.args.players c.args.most c.args.vector c.loop-k.k (c.loop-k.k - 1) c.loop-k.place c.digit-in-loop-k.result (omega arith) c.loop-k.auto.k c.digit-in-loop-k.ensures c.loop-k.invariant (c.max-before.result - 1) (omega arith)

pub returns : goal.returns
returns c =
    let p = subst (λ i. Placed c.args.players c.args.most c.args.vector i c.loop-k.place) (omega arith) c.loop-k.invariant in
    record { is = placed_end c.args.players c.args.most c.args.vector c.loop-k.place p; near = placed_near c.args.players c.args.most c.args.vector c.loop-k.place p c.requires }
