use Rattle.std.proofs.Common.{◌+◌, ◌*◌, ◌<◌, ◌≤◌, length, Err, sym, ap, ◌∙◌, subst, arith}
use Rattle.std.proofs.lemmas.Bool.{leb-true, leb-false}
use Rattle.std.proofs.lemmas.Result.{err_from_is_err_and}
use Rattle.table.specs.declared.types.Rule.{Rule}
use Rattle.table.specs.Answers.{book_bytes}
use Rattle.table.specs.Steps.{PartsOf}
use Rattle.table.specs.Books.{choice_of, book_in}
use Rattle.table.proofs.Copying.{gone_answer, gone_buffer, answer_by, buffer_by, no_room, no_room_buffer, copied, copied_buffer}
use Rattle.table.proofs.types.Table.copy.Goals as goal

pub returns-in_err-rule-clause-answer : goal.returns-in_err-rule-clause-answer
returns-in_err-rule-clause-answer g c = λ st p.
    let e = err_from_is_err_and c.from_residual.result c.from_residual.ensures.1 in
    rw (e.1, e.2, c.in_err-rule.ensures.1) (gone_answer (g.G.Game.meaning c.args.game.now) (g.G.Game.limits c.args.game.now) c.args.self.now st p c.args.rule c.args.place c.args.buffer.now c.in_err-rule.ensures.0)

pub returns-in_err-rule-clause-buffer : goal.returns-in_err-rule-clause-buffer
returns-in_err-rule-clause-buffer g c = λ st p.
    gone_buffer (g.G.Game.meaning c.args.game.now) (g.G.Game.limits c.args.game.now) c.args.self.now st p c.args.rule c.args.place c.args.buffer.now c.in_err-rule.ensures.0

pub returns-in_err-temporal-clause-answer : goal.returns-in_err-temporal-clause-answer
returns-in_err-temporal-clause-answer g c = λ st p.
    let e = err_from_is_err_and c.from_residual-in_err-temporal.result c.from_residual-in_err-temporal.ensures.1 in
    rw (e.1, e.2) (answer_by (g.G.Game.meaning c.args.game.now) (g.G.Game.limits c.args.game.now) c.args.self.now st p c.args.rule c.args.place c.args.buffer.now c.in_ok-rule.ensures.0 (Err c.in_err-temporal.field-0.0) (ap book_in (sym c.in_ok-rule.ensures.1) ∙ sym c.in_err-temporal.ensures))

pub returns-in_err-temporal-clause-buffer : goal.returns-in_err-temporal-clause-buffer
returns-in_err-temporal-clause-buffer g c = λ st p.
    buffer_by (g.G.Game.meaning c.args.game.now) (g.G.Game.limits c.args.game.now) c.args.self.now st p c.args.rule c.args.place c.args.buffer.now c.in_ok-rule.ensures.0 (Err c.in_err-temporal.field-0.0) (ap book_in (sym c.in_ok-rule.ensures.1) ∙ sym c.in_err-temporal.ensures)

pub returns-then-not-has_room-clause-answer : goal.returns-then-not-has_room-clause-answer
returns-then-not-has_room-clause-answer g c = λ st p.
    let m = g.G.Game.meaning c.args.game.now in
    let none : length c.args.buffer.now < c.args.place + 4 * m.states = omega (arith, leb-false _ _ (sym c.if-not-has_room.ensures), c.states-states.ensures.0) in
    no_room m (g.G.Game.limits c.args.game.now) c.args.self.now st p c.args.rule c.args.place c.args.buffer.now c.in_ok-rule.ensures.0 c.in_ok-temporal.temporal (ap book_in (sym c.in_ok-rule.ensures.1) ∙ sym c.in_ok-temporal.ensures) none

pub returns-then-not-has_room-clause-buffer : goal.returns-then-not-has_room-clause-buffer
returns-then-not-has_room-clause-buffer g c = λ st p.
    let m = g.G.Game.meaning c.args.game.now in
    let none : length c.args.buffer.now < c.args.place + 4 * m.states = omega (arith, leb-false _ _ (sym c.if-not-has_room.ensures), c.states-states.ensures.0) in
    no_room_buffer m (g.G.Game.limits c.args.game.now) c.args.self.now st p c.args.rule c.args.place c.args.buffer.now c.in_ok-rule.ensures.0 c.in_ok-temporal.temporal (ap book_in (sym c.in_ok-rule.ensures.1) ∙ sym c.in_ok-temporal.ensures) none

pub returns-clause-answer : goal.returns-clause-answer
returns-clause-answer g c = λ st p.
    let m = g.G.Game.meaning c.args.game.now in
    let room : c.args.place + 4 * m.states ≤ length c.args.buffer.now = omega (arith, leb-true _ _ (sym c.if-not-has_room.ensures), c.states-states.ensures.0) in
    copied m (g.G.Game.limits c.args.game.now) c.args.self.now st p c.args.rule c.args.place c.args.buffer.now c.in_ok-rule.ensures.0 c.in_ok-temporal.temporal (ap book_in (sym c.in_ok-rule.ensures.1) ∙ sym c.in_ok-temporal.ensures) _ (omega (arith, c.states-states.ensures.0)) room

pub returns-clause-buffer : goal.returns-clause-buffer
returns-clause-buffer g c = λ st p.
    let m = g.G.Game.meaning c.args.game.now in
    let here = c.in_ok-rule.ensures.1 in
    let room : c.args.place + 4 * m.states ≤ length c.args.buffer.now = omega (arith, leb-true _ _ (sym c.if-not-has_room.ensures), c.states-states.ensures.0) in
    copied_buffer m (g.G.Game.limits c.args.game.now) c.args.self.now st p c.args.rule c.args.place c.args.buffer.now c.in_ok-rule.ensures.0 c.in_ok-temporal.temporal (ap book_in (sym here) ∙ sym c.in_ok-temporal.ensures) _ c.write_choices.new.bytes (omega (arith, c.states-states.ensures.0)) room
    c.parts-parts.result (subst (λ (y : Rule). PartsOf c.args.self.now y c.parts-parts.result) here c.parts-parts.ensures)
    (c.write_choices.ensures ∙ ap (λ (y : Rule). book_bytes (choice_of m y c.parts-parts.result c.in_ok-temporal.temporal) m.states) here)
