-- The judged examples come out by computation.
use Rattle.std.proofs.Common.{◌≡◌, ℕ, ◌<◌, ◌≤◌, cond, ◌&&◌, ltb, [], get_or, None, Option, refl, ap, ◌∙◌, ⊎_elim, lit<, lit≤, rules}
use mathlib.Core.Path.{fun_ext}
use Rattle.std.proofs.lemmas.Bool.{cases_lt, le-ltb}
use Rattle.game.specs.Structure.{Structure}
use Rattle.game.specs.Bound.{bound, left, placed}
use Rattle.game.specs.Lists.{own, above, least, spread, numbers, highest, lowest, under}
use Rattle.game.specs.Serving.{leads, serves, answers, first_serving, all_answered}
use Rattle.drill.specs.Meaning.{drill}
use Rattle.book.specs.Content.{Holds}
use Rattle.book.specs.Described.{described}
use Rattle.calls.specs.Histories.{answers as answers_to}
use Rattle.judged.specs.Drilled.{drill_book, drill_calls, drill_answers, FollowsBook, bound_drill, bound_calls, bound_answers}
use Rattle.judged.specs.Meeting.{meeting_bytes, meeting, meeting_calls, meeting_answers}
use Rattle.judged.specs.Judged.{JudgedExamples}

pub drilled : answers_to (drill 1) [] 0 drill_calls ≡ drill_answers
unfolding drill_calls drill_answers above least spread numbers highest lowest under leads serves answers first_serving all_answered
drilled = refl

pub met : answers_to (described meeting) [] 0 meeting_calls ≡ meeting_answers
unfolding meeting_calls meeting_answers above least spread numbers highest lowest under leads serves answers first_serving all_answered
met = refl

-- entries count only at the states
bound_same : (m : Structure) (A : ℕ) (f g : ℕ → ℕ) → ((q : ℕ) → q < m.states → f q ≡ g q) → bound m A f ≡ bound m A g
bound_same m A f g e =
    ap (λ (n : ℕ → ℕ → Option ℕ). record { players = m.players; states = m.states; start = m.start; moves = λ a q. left m A q a; labels = m.labels; next = n })
    (fun_ext (λ q. fun_ext (λ v. next_same q v)))
  where
    next_same : (q v : ℕ) → (bound m A f).next q v ≡ (bound m A g).next q v
    next_same q v =
        ⊎_elim
        (λ (l : q < m.states). ap (λ x. cond (ltb q m.states && under m.players (highest (left m A q) 0 m.players) v) (m.next q (placed m.players (highest (own m A q) 0 m.players) x v)) None) (e q l))
        (λ (l : m.states ≤ q). rw (le-ltb q m.states l))
        (cases_lt q m.states)

entries : ℕ → ℕ
entries q = get_or drill_book q 0

bound_entries : answers_to (bound_drill entries) [] 0 bound_calls ≡ bound_answers
unfolding bound_calls bound_answers entries placed above least spread numbers highest lowest under leads serves answers first_serving all_answered
bound_entries = refl

pub bound_to_book : (f : ℕ → ℕ) → FollowsBook f → answers_to (bound_drill f) [] 0 bound_calls ≡ bound_answers
unfolding entries
bound_to_book f h =
    ap (λ m. answers_to m [] 0 bound_calls) (bound_same (drill 1) 3 f entries h) ∙ bound_entries

pub held : Holds meeting_bytes meeting
held = record {
  fits = record {
    players_fit = (lit≤ tt, lit≤ tt);
    states_fit = (lit≤ tt, lit≤ tt);
    started = lit< tt;
    each_state = search rules;
    each_rule = search rules;
    short = lit≤ tt;
  };
  bytes = refl;
}

pub judged_examples : JudgedExamples
judged_examples = record { drilled = drilled; bound = bound_to_book; held = held; met = met }
