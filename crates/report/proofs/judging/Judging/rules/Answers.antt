use Rattle.std.proofs.Common.{◌≡◌, ℕ, ◌+◌, [], ◌∷◌, ◌++◌, length, Some, Ok, Err, vec_items, vec_len, sym, refl, ap, ◌∙◌, arith, append_assoc, length-append}
use Rattle.book.specs.Readers.{told, left}
use Rattle.book.specs.Told.{rule_told}
use Rattle.report.proofs.Rows.{carried, so_far_none, so_far_more, so_far_stopped, so_far_all, so_far_small, told_next, told_all, same_stop}
use Rattle.report.proofs.judging.Judging.rules.Goals as goal

pub loop-rule-init : goal.loop-rule-init
loop-rule-init g c = (
  refl,
  so_far_none (g.G.Game.meaning c.args.self.now.board.game) (told c.args.rules) c.args.self.now.board.table (vec_items c.new-rows.result) (vec_len c.new-rows.result) c.requires c.new-rows.ensures.items c.new-rows.ensures.len,
  c.new-rows.ensures.len,
  refl,
  refl,
)

pub overflow_cast-rule : goal.overflow_cast-rule
overflow_cast-rule g c =
    let inv = c.loop-rule.invariant in
    let l = so_far_small (g.G.Game.meaning c.args.self.now.board.game) (told c.args.rules) c.loop-rule.self.board.table (vec_items c.loop-rule.rows) (vec_len c.loop-rule.rows) inv.1 in
    omega (arith, l, inv.2)

pub loop-rule-preserved : goal.loop-rule-preserved
loop-rule-preserved g c =
    let bs = told c.args.rules in
    let inv = c.loop-rule.invariant in
    let here = ap (λ l. c.loop-rule.yielded ++ l) (sym c.in-Some.ensures.steps) ∙ inv.4 in (
      c.rule.ensures.game ∙ inv.0,
      so_far_more (g.G.Game.meaning c.args.self.now.board.game) bs c.loop-rule.self.board.table c.rule.new.self.board.table (vec_items c.loop-rule.rows) (vec_len c.loop-rule.rows) inv.1 c.in-Some.field
          (told_next bs (left c.iter-field-items.result) c.iter-field-items.ensures c.loop-rule.yielded (vec_len c.loop-rule.rows) (inv.3 ∙ sym inv.2) c.in-Some.field (left c.next.new.self) here)
          c.in_ok-row.row (vec_items c.push.new.self) (vec_len c.push.new.self)
          (carried g.G.Game.meaning c.loop-rule.self.board.game c.args.self.now.board.game c.in-Some.field c.loop-rule.rule (vec_len c.loop-rule.rows) c.loop-rule.self.board.table c.rule.new.self.board.table c.rule.result (Ok c.in_ok-row.row) inv.0 (sym inv.2) c.in_ok-row.was c.rule.ensures.judges)
          c.in_ok-push.ensures.items c.in_ok-push.ensures.len,
      c.in_ok-push.ensures.len ∙ ap (λ n. n + 1) inv.2,
      length-append c.loop-rule.yielded (c.in-Some.field ∷ []) ∙ ap (λ n. n + 1) inv.3,
      append_assoc c.loop-rule.yielded (c.in-Some.field ∷ []) (left c.next.new.self) ∙ here,
    )

pub returns-in_err-row : goal.returns-in_err-row
returns-in_err-row g c =
    let bs = told c.args.rules in
    let m = g.G.Game.meaning c.args.self.now.board.game in
    let inv = c.loop-rule.invariant in
    let here = ap (λ l. c.loop-rule.yielded ++ l) (sym c.in-Some.ensures.steps) ∙ inv.4 in
    record {
      game = c.rule.ensures.game ∙ inv.0;
      judged = same_stop m bs c.rule.new.self.board.table c.from_residual.result c.in_err-row.field-0.0 c.from_residual.ensures.1
          (so_far_stopped m bs c.loop-rule.self.board.table c.rule.new.self.board.table (vec_items c.loop-rule.rows) (vec_len c.loop-rule.rows) inv.1 c.in-Some.field
          (told_next bs (left c.iter-field-items.result) c.iter-field-items.ensures c.loop-rule.yielded (vec_len c.loop-rule.rows) (inv.3 ∙ sym inv.2) c.in-Some.field (left c.next.new.self) here)
          c.in_err-row.field-0.0
          (carried g.G.Game.meaning c.loop-rule.self.board.game c.args.self.now.board.game c.in-Some.field c.loop-rule.rule (vec_len c.loop-rule.rows) c.loop-rule.self.board.table c.rule.new.self.board.table c.rule.result (Err c.in_err-row.field-0.0) inv.0 (sym inv.2) c.in_err-row.was c.rule.ensures.judges));
    }

pub returns : goal.returns
returns g c =
    let inv = c.loop-rule.invariant in
    record {
      game = inv.0;
      judged = so_far_all (g.G.Game.meaning c.args.self.now.board.game) (told c.args.rules) c.loop-rule.self.board.table (vec_items c.loop-rule.rows) (vec_len c.loop-rule.rows) inv.1
          (told_all (told c.args.rules) (left c.iter-field-items.result) c.iter-field-items.ensures c.loop-rule.yielded (vec_len c.loop-rule.rows) (inv.3 ∙ sym inv.2) (left c.loop-rule.field-iterator) inv.4 c.in-None.ensures.steps.0);
    }
