use Rattle.std.proofs.Common.{◌≡◌, ℕ, ◌<◌, Bool, true, Option, sym, ap, ◌∙◌, subst}
use Rattle.std.specs.List.{list_all, find}
use Rattle.game.specs.Structure.{Structure, Limits}
use Rattle.game.specs.Serving.{set_of, leads, serves, first_serving}
use Rattle.game.specs.Reading.{Serving}
use Rattle.game.proofs.Reading.{reads_serving}
use Rattle.search.proofs.Loops.{find_hit}
use Rattle.search.proofs.serving.Goals as goal

-- the answer and what it says of the game
both : (m : Structure) → Limits m → (A q : ℕ) (I : ℕ → Bool) {r : Option ℕ} → r ≡ first_serving m A q I → record { value : r ≡ first_serving m A q I; plain : q < m.states → Serving m A q I r }
both m L A q I e = record { value = e; plain = λ l. subst (Serving m A q I) (sym e) (reads_serving m A q I L l) }

pub returns-in-None-reply : goal.returns-in-None-reply
returns-in-None-reply g c =
    let m = g.G.Game.meaning c.args.game.now in
    let all_in : serves m c.args.group c.args.state (set_of c.args.inside.now) c.in-Some.choice ≡ true =
    c.loop-reply.invariant.decides ∙ ap (list_all (leads m c.args.state (set_of c.args.inside.now) c.in-Some.choice)) c.in-None-reply.ensures.steps.0 in
    both m (g.G.Game.limits c.args.game.now) c.args.group c.args.state (set_of c.args.inside.now) (sym (c.choices.invariant.decides ∙ find_hit (serves m c.args.group c.args.state (set_of c.args.inside.now)) c.in-Some.ensures.steps all_in))

pub returns-in-None : goal.returns-in-None
returns-in-None g c =
    let m = g.G.Game.meaning c.args.game.now in
    both m (g.G.Game.limits c.args.game.now) c.args.group c.args.state (set_of c.args.inside.now) (c.choices.invariant.none ∙ sym (c.choices.invariant.decides ∙ ap (find (serves m c.args.group c.args.state (set_of c.args.inside.now))) c.in-None.ensures.steps.0))
