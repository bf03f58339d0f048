use Rattle.std.proofs.Common.{rules, ◌≡◌, ◌-◌, List, [], ◌∷◌, ◌++◌, map, vec_items, Ok, Err, refl, append_assoc, arith}
use Rattle.std.specs.List.{range_with_len}
use Rattle.std.proofs.lemmas.Result.{IfOk-weaker}
use Rattle.std.proofs.lemmas.Slice.{pushed}
use Rattle.std.proofs.lemmas.Iterator.{YieldsList-from_map, YieldsList-from_range}
use Rattle.std.proofs.lemmas.Iterator.Consumers.{YieldsList-at}
use Rattle.std.proofs.lemmas.Iterator.Adapters.{items_from_extend}
use Rattle.calls.specs.declared.types.Call.{Call}
use Rattle.calls.specs.declared.types.Call.TheVariants.{Ask, Tell}
use Rattle.judged.specs.Lines.{rounds_of, asks_of}
use Rattle.judged.proofs.rows.one.Goals as goal

in_turn : (a rs qs : List Call) (w t : Call) {b c d e : List Call} → b ≡ a ++ (w ∷ []) → c ≡ b ++ rs → d ≡ c ++ (t ∷ []) → e ≡ d ++ qs → e ≡ a ++ (w ∷ (rs ++ (t ∷ qs)))
in_turn a rs qs w t p q r s = rw (s, r, q, p) (simp append_assoc)

pub returns : goal.returns
returns c =
    let asked = items_from_extend c.extend.result c.extend.ensures.ran
    (YieldsList-from_map _ (λ q. Ask c.args.rule q) (YieldsList-at c.map.ensures.source (YieldsList-from_range 0 c.args.states c.args.states refl (omega arith))) c.map.ensures.closure (λ x r q k. search rules)) in
    IfOk-weaker c.extend.result _ _ (λ u e.
    in_turn (vec_items c.args.calls.now) (rounds_of c.args.rule c.args.times) (asks_of c.args.rule c.args.states) c.args.write (Tell c.args.rule)
    (pushed (c.args.write ∷ []) refl c.in_ok-push.was c.push.ensures.items)
    c.in_ok-rounds.ensures
    (pushed (Tell c.args.rule ∷ []) refl c.in_ok-push-2.was c.push-2.ensures.items) e.0) asked
