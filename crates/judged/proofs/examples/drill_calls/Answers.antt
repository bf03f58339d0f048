use Rattle.std.proofs.Common.{rules, ◌≡◌, ◌≤◌, ◌++◌, length, vec_items, IfOk, sym, ap, ◌∙◌, subst, refl, lit≤}
use Rattle.std.proofs.lemmas.Result.{IfOk-weaker}
use Rattle.std.proofs.lemmas.Iterator.{YieldsList-from_map, YieldsList-from_range}
use Rattle.std.proofs.lemmas.Iterator.Consumers.{YieldsList-at}
use Rattle.std.proofs.lemmas.Iterator.Adapters.{items_from_extend}
use Rattle.calls.specs.declared.types.Call.TheVariants.{Play}
use Rattle.judged.specs.Lines.{judging_from, plays_of}
use Rattle.judged.specs.Drilled.{drill_calls}
use Rattle.judged.proofs.examples.drill_calls.Goals as goal

pub table-requires : goal.table-requires
table-requires c = subst (λ rows. length rows ≤ 32) (sym c.drill_rows.ensures) (lit≤ tt)

pub returns : goal.returns
unfolding drill_calls
returns c =
    let added = items_from_extend c.extend.result c.extend.ensures.ran
    (YieldsList-from_map _ (λ q. Play 6 q) (YieldsList-at c.map.ensures.source (YieldsList-from_range 0 4 4 refl refl)) c.map.ensures.closure (λ x r q k. search rules)) in
    let items = IfOk-weaker c.extend.result _ (λ _. vec_items c.extend.new.self ≡ vec_items c.in_ok-calls.calls ++ plays_of 6 4) (λ u e. e.0) added in
    subst (λ r. IfOk r (λ _. vec_items c.extend.new.self ≡ vec_items c.in_ok-calls.calls ++ plays_of 6 4)) c.in_ok-extend.was items
    ∙ ap (λ l. l ++ plays_of 6 4) (c.in_ok-calls.ensures ∙ ap (judging_from 0 4) c.drill_rows.ensures)
