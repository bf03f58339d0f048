use Rattle.std.proofs.Common.{◌≡◌, ◌+◌, ◌-◌, ◌*◌, ◌^◌, ◌≤◌, get_or, take, drop, inl, ap, sym, subst, arith, rules, ◌∙◌, mul_comm}
use Rattle.book.specs.declared.fault.Cause.TheVariants.{OutOfRange}
use Rattle.book.specs.Faults.{fault}
use Rattle.book.specs.Records.{Within, count_tests, count_in}
use Rattle.book.proofs.Judging.{each_stop, each_more}
use Rattle.book.proofs.States.{part_below, part_read, count_is, product_more, power_more, power_fits}
use Rattle.book.proofs.record.counts.Goals as goal

pub returns-then-not-contains : goal.returns-then-not-contains
returns-then-not-contains c =
    let v = c.args.field.value.now in
    let l = part_below v 2 (2 + c.from-players.result - 2) c.loop-i.i c.loop-i-test.true in
    let n : Within 1 15 (get_or (take (2 + c.from-players.result - 2) (drop 2 v)) c.loop-i.i 0) → ⊥ = search rules in
    each_stop c.args.heading.players c.loop-i.i (count_tests v c.args.field.at) c.out_of_range.result (omega arith) c.loop-i.invariant.0 (inl (subst (λ x. Within 1 15 x → ⊥) (part_read v 2 (2 + c.from-players.result - 2) c.loop-i.i c.loop-i-test.true ∙ sym (count_is v c.loop-i.i)) n, c.out_of_range.ensures ∙ ap (fault OutOfRange) (omega arith)))

within : (c : goal.After-from-product) → Within 1 15 c.from-product.result
within c = search rules

pub overflow_mul-product : goal.overflow_mul-product
overflow_mul-product c =
    let l = part_below c.args.field.value.now 2 (2 + c.from-players.result - 2) c.loop-i.i c.loop-i-test.true in
    let h : c.loop-i.product * c.from-product.result ≤ 15 ^ 6 = rw mul_comm (power_fits c.from-product.result c.loop-i.product c.loop-i.i (within c).1 c.loop-i.invariant.2 (omega arith)) in
    omega arith

pub loop-i-preserved : goal.loop-i-preserved
loop-i-preserved c =
    let v = c.args.field.value.now in
    let e : c.from-product.result ≡ count_in v (c.loop-i.i + 1) = c.from-product.ensures ∙ (part_read v 2 (2 + c.from-players.result - 2) c.loop-i.i c.loop-i-test.true ∙ sym (count_is v c.loop-i.i)) in
    (each_more c.loop-i.i (count_tests v c.args.field.at) c.loop-i.invariant.0 (subst (Within 1 15) e (within c), tt), product_more v c.loop-i.i c.loop-i.product c.from-product.result e c.loop-i.invariant.1, rw mul_comm (power_more c.from-product.result c.loop-i.product c.loop-i.i (within c).1 c.loop-i.invariant.2))
