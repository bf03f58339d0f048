use Rattle.std.proofs.Common.{◌≡◌, vec_items, sym, ap, ◌∙◌}
use Rattle.report.specs.Steps.{script, first_refused, last_told, all_shown}
use Rattle.report.proofs.Judged.{rule_refused, rule_taken}
use Rattle.report.proofs.judging.Judging.rule.Goals as goal

pub returns-in-Some : goal.returns-in-Some
returns-in-Some g c =
    let x = c.args.self.now.board.game in
    let m = g.G.Game.meaning x in
    let calls : c.as_slice.result.now ≡ script m.states c.args.rule c.args.field = c.as_slice.ensures.value ∙ c.in_ok-calls.ensures ∙ ap (λ n. script n c.args.rule c.args.field) c.args.self.now.ok in
    record {
      game = c.perform.ensures.game;
      judges = rule_refused m (g.G.Game.limits x) c.args.field c.args.rule c.args.self.now.board.table c.perform.new.board.table c.as_slice.result.now _ c.perform.new.buffer (vec_items c.in_ok-answers.answers)
          calls c.in_ok-answers.ensures.performs c.in-Some.refusal
          (ap first_refused (sym c.as_slice-2.ensures.value) ∙ sym c.refused.ensures ∙ c.in-Some.is);
    }

pub returns : goal.returns
returns g c =
    let x = c.args.self.now.board.game in
    let m = g.G.Game.meaning x in
    let calls : c.as_slice.result.now ≡ script m.states c.args.rule c.args.field = c.as_slice.ensures.value ∙ c.in_ok-calls.ensures ∙ ap (λ n. script n c.args.rule c.args.field) c.args.self.now.ok in
    record {
      game = c.perform.ensures.game;
      judges = rule_taken m (g.G.Game.limits x) c.args.field c.args.rule c.args.self.now.board.table c.perform.new.board.table c.as_slice.result.now _ c.perform.new.buffer (vec_items c.in_ok-answers.answers)
          calls c.in_ok-answers.ensures.performs (record { rounds = c.rounds-rounds.result; marks = c.in_ok-marks.marks })
          (ap first_refused (sym c.as_slice-2.ensures.value) ∙ sym c.refused.ensures ∙ c.in_default.is)
          (c.rounds-rounds.ensures ∙ ap (last_told 0) c.as_slice-4.ensures.value)
          (c.in_ok-marks.ensures ∙ ap all_shown c.as_slice-3.ensures.value);
    }
