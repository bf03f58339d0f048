use Rattle.std.proofs.Common.{◌<◌, ◌≤◌, sym, ap, ◌∙◌, subst}
use Rattle.std.proofs.lemmas.Bool.{ltb-true, ltb-false}
use Rattle.std.proofs.lemmas.Result.{err_from_is_err_and}
use Rattle.table.specs.declared.types.Rule.{Rule}
use Rattle.table.specs.Steps.{PartsOf}
use Rattle.table.specs.Books.{choice_of, book_in}
use Rattle.table.proofs.Books.{no_rule, no_state, play_refused, plays}
use Rattle.table.proofs.types.Table.play.Goals as goal

pub returns-in_err-rule : goal.returns-in_err-rule
returns-in_err-rule g c = λ st p.
    let e = err_from_is_err_and c.from_residual.result c.from_residual.ensures.1 in
    rw (e.1, e.2, c.in_err-rule.ensures.1) (no_rule (g.G.Game.meaning c.args.game.now) (g.G.Game.limits c.args.game.now) c.args.self.now st p c.args.rule c.args.state c.in_err-rule.ensures.0)

pub returns-then-not-has_state : goal.returns-then-not-has_state
returns-then-not-has_state g c = λ st p.
    let no : (g.G.Game.meaning c.args.game.now).states ≤ c.args.state = ltb-false c.args.state (g.G.Game.meaning c.args.game.now).states (sym c.has_state.ensures ∙ c.if-not-has_state.true) in
    no_state (g.G.Game.meaning c.args.game.now) (g.G.Game.limits c.args.game.now) c.args.self.now st p c.args.rule c.args.state c.in_ok-rule.ensures.0 no

pub returns-in_err-temporal : goal.returns-in_err-temporal
returns-in_err-temporal g c = λ st p.
    let e = err_from_is_err_and c.from_residual-in_err-temporal.result c.from_residual-in_err-temporal.ensures.1 in
    rw (e.1, e.2) (play_refused (g.G.Game.meaning c.args.game.now) (g.G.Game.limits c.args.game.now) c.args.self.now st p c.args.rule c.args.state c.in_ok-rule.ensures.0 _ (ltb-true c.args.state (g.G.Game.meaning c.args.game.now).states (sym c.has_state.ensures ∙ c.if-not-has_state.false)) (ap book_in (sym c.in_ok-rule.ensures.1) ∙ sym c.in_err-temporal.ensures))

pub returns : goal.returns
returns g c = λ st p.
    let m = g.G.Game.meaning c.args.game.now in
    let l : c.args.state < m.states = ltb-true c.args.state m.states (sym c.has_state.ensures ∙ c.if-not-has_state.false) in
    let here = c.in_ok-rule.ensures.1 in
    plays m (g.G.Game.limits c.args.game.now) c.args.self.now st p c.args.rule c.args.state c.in_ok-rule.ensures.0 c.parts-parts.result
    (subst (λ (y : Rule). PartsOf c.args.self.now y c.parts-parts.result) here c.parts-parts.ensures) c.in_ok-temporal.temporal c.choice.result l
    (ap book_in (sym here) ∙ sym c.in_ok-temporal.ensures)
    (c.choice.ensures l ∙ ap (λ (y : Rule). choice_of m y c.parts-parts.result c.in_ok-temporal.temporal c.args.state) here)
