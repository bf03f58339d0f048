use Rattle.std.proofs.Common.{arith}
use Rattle.std.proofs.lemmas.Result.{err_from_is_err_and}
use Rattle.book.proofs.Walks.{step, state_more, state_stop}
use Rattle.book.proofs.book.BookReader.states.Goals as goal

pub returns-in_err-state : goal.returns-in_err-state
returns-in_err-state c =
    let p = err_from_is_err_and c.from_residual.result c.from_residual.ensures.1 in
    let i = c.loop-k.invariant in
    rw (p.1, p.2) (state_stop c.args.self.now.records.fields.bytes.now c.args.self.now.records.fields.at c.loop-k._k c.loop-k.self.records.fields i.0 c.args.heading.players c.args.heading.states i.1 c.args.heading.states _ (omega arith) c.in_err-state.ensures)

pub loop-k-preserved : goal.loop-k-preserved
loop-k-preserved c =
    let j = c.in_ok-state.ensures in
    let i = c.loop-k.invariant in (
      step c.args.self.now.records.fields.bytes.now c.args.self.now.records.fields.at c.loop-k._k c.loop-k.self.records.fields i.0 c.state.new.self.fields j.1,
      state_more c.args.self.now.records.fields.bytes.now c.args.self.now.records.fields.at c.loop-k._k c.loop-k.self.records.fields i.0 c.args.heading.players c.args.heading.states i.1 j.0,
    )
