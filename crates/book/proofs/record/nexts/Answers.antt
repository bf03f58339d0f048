use Rattle.std.proofs.Common.{◌≡◌, ℕ, ap, get_or, ◌+◌, ◌-◌, length, inl, ◌∙◌, arith, subst, length-take, length-drop}
use Rattle.book.specs.Tests.{Passes, each}
use Rattle.book.specs.declared.fault.Cause.TheVariants.{OutOfRange}
use Rattle.book.specs.Faults.{fault}
use Rattle.book.specs.Records.{next_tests}
use Rattle.book.proofs.Judging.{each_stop, each_more}
use Rattle.book.proofs.States.{part_below, part_read}
use Rattle.book.proofs.record.nexts.Goals as goal

pub returns-then-from-heading : goal.returns-then-from-heading
returns-then-from-heading c =
    let v = c.args.field.value.now in
    let first : ℕ = 2 + c.from-first.result in
    let l = part_below v first (length v - first) c.loop-j.j c.loop-j-test.true in
    let e = part_read v first (length v - first) c.loop-j.j c.loop-j-test.true in
    let s : first ≡ 2 + c.args.heading.players = omega arith in
    each_stop (length v - (2 + c.args.heading.players)) c.loop-j.j (next_tests c.args.heading.players c.args.heading.states v c.args.field.at) c.out_of_range.result (omega arith) c.loop-j.invariant
    (inl (λ w. absurd (omega (arith, c.from.ensures, e, ap (λ k. get_or v (k + c.loop-j.j) 0) s)), c.out_of_range.ensures ∙ ap (fault OutOfRange) (omega arith)))

pub returns : goal.returns
returns c =
    let v = c.args.field.value.now in
    let low = simp (length-take, length-drop) at c.loop-j-test.false in
    let high = simp (length-take, length-drop) at c.loop-j.auto.j-end in
    let e : c.loop-j.j ≡ length v - (2 + c.args.heading.players) = omega arith in
    (subst (λ k. Passes (each k (next_tests c.args.heading.players c.args.heading.states v c.args.field.at))) e c.loop-j.invariant, tt)

pub loop-j-preserved : goal.loop-j-preserved
loop-j-preserved c =
    let v = c.args.field.value.now in
    let first : ℕ = 2 + c.from-first.result in
    let e = part_read v first (length v - first) c.loop-j.j c.loop-j-test.true in
    let s : first ≡ 2 + c.args.heading.players = omega arith in
    each_more c.loop-j.j (next_tests c.args.heading.players c.args.heading.states v c.args.field.at) c.loop-j.invariant (omega (arith, c.from.ensures, e, ap (λ k. get_or v (k + c.loop-j.j) 0) s), tt)
