use Rattle.std.proofs.Common.{◌≡◌, ℕ, ◌<◌, Bool, false, sym, ap, ◌∙◌, subst}
use Rattle.std.specs.List.{list_all, list_any}
use Rattle.game.specs.Structure.{Structure, Limits}
use Rattle.game.specs.Serving.{set_of, leads, answers, all_answered}
use Rattle.game.specs.Reading.{Answering}
use Rattle.game.proofs.Reading.{reads_answering}
use Rattle.search.proofs.Loops.{all_fail}
use Rattle.search.proofs.answering.Goals as goal

-- the answer and what it says of the game
both : (m : Structure) → Limits m → (A q : ℕ) (I : ℕ → Bool) {r : Bool} → r ≡ all_answered m A q I → record { value : r ≡ all_answered m A q I; plain : q < m.states → Answering m A q I r }
both m L A q I e = record { value = e; plain = λ l. subst (Answering m A q I) (sym e) (reads_answering m A q I L l) }

pub returns-in-choices : goal.returns-in-choices
returns-in-choices g c =
    let m = g.G.Game.meaning c.args.game.now in
    let unanswered : answers m c.args.group c.args.state (set_of c.args.inside.now) c.in-Some.choice ≡ false =
    c.loop-reply.invariant.decides ∙ ap (list_any (leads m c.args.state (set_of c.args.inside.now) c.in-Some.choice)) c.in-None-reply.ensures.steps.0 in
    both m (g.G.Game.limits c.args.game.now) c.args.group c.args.state (set_of c.args.inside.now) (sym (c.choices.invariant.decides ∙ all_fail (answers m c.args.group c.args.state (set_of c.args.inside.now)) c.in-Some.ensures.steps unanswered))

pub returns : goal.returns
returns g c =
    let m = g.G.Game.meaning c.args.game.now in
    both m (g.G.Game.limits c.args.game.now) c.args.group c.args.state (set_of c.args.inside.now) (sym (c.choices.invariant.decides ∙ ap (list_all (answers m c.args.group c.args.state (set_of c.args.inside.now))) c.in-None.ensures.steps.0))
