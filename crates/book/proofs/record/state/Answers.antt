use Rattle.std.proofs.Common.{inl, arith, rules}
use Rattle.std.proofs.lemmas.Result.{err_from_is_err_and}
use Rattle.book.proofs.States.{bad_count, bad_vectors, good_vectors, length_fails, nexts_judged}
use Rattle.book.proofs.record.state.Goals as goal

pub returns-in_err-product : goal.returns-in_err-product
returns-in_err-product c =
    let p = err_from_is_err_and c.from_residual-in_err-product.result c.from_residual-in_err-product.ensures.1 in
    rw (p.1, p.2) (bad_count c.args.heading.players c.args.heading.states c.args.field (search rules) (omega arith) _ c.in_err-product.ensures)

pub returns-then-product-gt4096 : goal.returns-then-product-gt4096
returns-then-product-gt4096 c =
    let j = c.in_ok-product.ensures in
    bad_vectors c.args.heading.players c.args.heading.states c.args.field (search rules) (omega arith) j.0 _ (inl (omega (arith, j.1), search rules))

pub returns-in_err-sized : goal.returns-in_err-sized
returns-in_err-sized c =
    let j = c.in_ok-product.ensures in
    let p = err_from_is_err_and c.from_residual-in_err-sized.result c.from_residual-in_err-sized.ensures.1 in
    rw (p.1, p.2)
    (bad_vectors c.args.heading.players c.args.heading.states c.args.field (search rules) (omega arith) j.0 _
    (length_fails c.args.heading.players c.args.heading.states c.args.field.value.now c.args.field.at (omega (arith, j.1)) _ (omega (arith, j.1)) _ c.in_err-sized.ensures))

pub returns : goal.returns
returns c =
    let j = c.in_ok-product.ensures in
    good_vectors c.args.heading.players c.args.heading.states c.args.field (search rules) (omega arith) j.0 c.nexts.result
    (nexts_judged c.args.heading.players c.args.heading.states c.args.field.value.now c.args.field.at (omega (arith, j.1)) (omega (arith, j.1, c.in_ok-sized.ensures.0.0)) c.nexts.result c.nexts.ensures)
