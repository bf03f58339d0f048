use Rattle.std.proofs.Common.{◌≡◌, ◌*◌, length, drop, ap, ◌∙◌, subst, arith}
use Rattle.std.proofs.lemmas.Result.{IfOk-weaker}
use Rattle.std.proofs.lemmas.List.{take_at}
use Rattle.report.specs.Printed.{Prints, playbook, declines}
use Rattle.report.specs.Steps.{Copies, Books}
use Rattle.report.proofs.Books.{book_refused, book_copied}
use Rattle.report.proofs.judging.Judging.book.Goals as goal

pub returns-in-Some : goal.returns-in-Some
returns-in-Some g c =
    let m = g.G.Game.meaning c.args.self.now.board.game in
    let t = c.args.self.now.board.table in
    let b = c.as_mut_slice.result.now in
    let size : length b ≡ 4 * m.states = omega (arith, c.as_mut_slice.ensures.len, c.in_ok-buffer.ensures.len, c.args.self.now.ok) in
    let said = subst (Copies m c.byte_of.result t b c.copy.new.buffer) c.in-Some.is c.in_ok-refusal.ensures in
    IfOk-weaker c.declined.result (Prints (declines (c.args.rule, c.in-Some.refusal))) (Books m c.args.rule t) (λ x p st R. p ∙ book_refused m c.args.rule c.byte_of.result c.byte_of.ensures t b c.copy.new.buffer size c.in-Some.refusal said st R) c.declined.ensures

pub returns-in-None : goal.returns-in-None
returns-in-None g c =
    let m = g.G.Game.meaning c.args.self.now.board.game in
    let t = c.args.self.now.board.table in
    let b = c.as_mut_slice.result.now in
    let size : length b ≡ 4 * m.states = omega (arith, c.as_mut_slice.ensures.len, c.in_ok-buffer.ensures.len, c.args.self.now.ok) in
    let said = subst (Copies m c.byte_of.result t b c.copy.new.buffer) c.in-None.is c.in_ok-refusal.ensures in
    let whole : length c.copy.new.buffer ≡ c.in_ok-buffer.buffer.len = omega (arith, c.copy.auto.buffer, c.as_mut_slice.ensures.len) in
    λ st R.
    ap playbook (take_at c.copy.new.buffer (drop (length c.copy.new.buffer) c.in_ok-buffer.buffer.items) c.in_ok-buffer.buffer.len whole)
    ∙ book_copied m c.args.rule c.byte_of.result c.byte_of.ensures t b c.copy.new.buffer size said st R
