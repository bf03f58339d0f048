-- A rule judged on what stands.
use Rattle.std.proofs.Common.{◌≡◌, ℕ, ◌+◌, ◌<◌, Bool, true, false, List, [], ◌∷◌, ◌++◌, length, replicate, Some, None, Ok, Err, vec_items, Option, Result, sym, refl, ap, ◌∙◌, subst, ap₂, ⊎_elim, arith}
use Rattle.std.proofs.lemmas.Bool.{cases_eq}
use Rattle.std.specs.Option.{option_to_list}
use Rattle.game.specs.Structure.{Structure, Limits}
use Rattle.refusal.specs.declared.Refusal.{Refusal}
use Rattle.book.specs.declared.rules.RuleField.{RuleField}
use Rattle.atl.specs.declared.Kind.{Kind}
use Rattle.atl.specs.declared.Shown.{Shown}
use Rattle.atl.proofs.Right.{enough}
use Rattle.table.specs.declared.types.Table.{Table}
use Rattle.table.specs.Parts.{waits}
use Rattle.table.specs.Standing.{Standing, Stack, found, yes_states, settled}
use Rattle.table.specs.Answers.{taken, number_if, fresh, pushed_if, tell_of, tell_answer}
use Rattle.table.specs.Shows.{Shows}
use Rattle.table.proofs.Taking.{taken_tells}
use Rattle.table.proofs.Stacks.{top, under}
use Rattle.table.proofs.Advancing.{waits_not}
use Rattle.calls.specs.declared.types.Call.{Call}
use Rattle.calls.specs.declared.types.Call.TheVariants.{Write, Round, Tell}
use Rattle.calls.specs.declared.types.Answer.{Answer}
use Rattle.calls.specs.declared.types.Answer.TheVariants.{Number}
use Rattle.calls.specs.Histories.{given, told, answer, History, stack, Answered, then, history, answers}
use Rattle.calls.specs.Performing.{Performed, Performs}
use Rattle.calls.proofs.Possible.{after_next}
use Rattle.listing.specs.declared.Row.{Row}
use Rattle.report.specs.declared.types.Stopped.TheVariants.{RefusedAt}
use Rattle.report.specs.Judging.{first_from, with_rounds, settled_at, judged_if, judged_on}
use Rattle.report.specs.Printed.{marks_shown}
use Rattle.report.specs.Steps.{asks, script, refusal_in, shown_in, rounds_in, first_refused, all_shown, last_told, Reached, RuleJudged, JudgesRule}
use Rattle.report.proofs.Loops.{shown_join, told_join}
use Rattle.report.proofs.Scripts.{first_passes, history_join, answers_join, rounds_settle, rounds_show, asks_leave, asks_show, asks_tell}

-- A write and a tell show nothing.
number_shows : (r : Result ℕ Refusal) → option_to_list (shown_in (given Number r)) ≡ []
number_shows (Ok n) = refl
number_shows (Err e) = refl

told_shows : (r : Result (ℕ × Bool) Refusal) → option_to_list (shown_in (given told r)) ≡ []
told_shows (Ok p) = refl
told_shows (Err e) = refl

module _ (m : Structure) (size : ℕ) (x : RuleField) (n : ℕ) (h : History) where
  abbrev pub takes : Result Kind Refusal
  takes = taken m.players (length (stack h)) x.kind x.group x.r x.s

  abbrev pub judges : Result Kind Refusal → Result Stack Refusal
  judges y = judged_if m (number_if (length (stack h)) y) (pushed_if y x.group x.r x.s (stack h))

  abbrev refusal : Result Kind Refusal → Option Refusal
  refusal y = refusal_in (given Number (number_if (length (stack h)) y))

  -- the first answer tells whether the rule was taken
  refused_by : (y : Result Kind Refusal) (e : Refusal) → refusal y ≡ Some e → judges y ≡ Err e
  refused_by (Ok f) e i = absurd (let z : ◌≡◌ {A = ℕ} 0 1 = cc in omega arith)
  refused_by (Err d) e i = let z : d ≡ e = cc in ap Err z

  taken_by : (y : Result Kind Refusal) → refusal y ≡ None → (f : Kind) × (y ≡ Ok f)
  taken_by (Ok f) i = (f, refl)
  taken_by (Err d) i = absurd (let z : ◌≡◌ {A = ℕ} 0 1 = cc in omega arith)

  pub refuses : (e : Refusal) → first_refused (answers m h size (script m.states n x)) ≡ Some e → judged_on m x (stack h) ≡ Err e
  refuses e i = refused_by takes e i

  pub accepts : first_refused (answers m h size (script m.states n x)) ≡ None → (f : Kind) × (takes ≡ Ok f)
  accepts i = taken_by takes i

  -- a rule that was taken
  module _ (L : Limits m) (height : n ≡ length (stack h)) (all : (i : ℕ) → i < length (stack h) → settled m (stack h) i ≡ true) (f : Kind) (taken_is : takes ≡ Ok f) where
    abbrev pub rule : Standing
    rule = fresh f x.group x.r x.s

    abbrev pub needed : ℕ
    needed = first_from (settled_at m rule (stack h)) (m.states + 1) 0

    abbrev pub final : Stack
    final = with_rounds rule needed ∷ stack h

    pub judged_is : judged_on m x (stack h) ≡ Ok final
    judged_is = ap judges taken_is

    ready : waits (settled m (stack h)) f x.r x.s ≡ false
    ready =
        let d = taken_tells m.players (length (stack h)) x.kind x.group x.r x.s f taken_is in
        waits_not (settled m (stack h)) f x.r x.s (λ u. all x.r (d.part_r u)) (λ u. all x.s (d.part_s u))

    abbrev wrote : History
    wrote = then m h size (Write x.kind x.group x.r x.s)

    abbrev rounded : History
    rounded = history m wrote size (replicate (m.states + 1) (Round n))

    abbrev telling : History
    telling = then m rounded size (Tell n)

    wrote_is : stack wrote ≡ rule ∷ stack h
    wrote_is = after_next m (stack h) size (Write x.kind x.group x.r x.s) ∙ ap (λ (y : Result Kind Refusal). pushed_if y x.group x.r x.s (stack h)) taken_is

    rounded_is : stack rounded ≡ final
    rounded_is = rounds_settle m size rule (stack h) ready n height (m.states + 1) 0 wrote wrote_is

    telling_is : stack telling ≡ final
    telling_is = after_next m (stack rounded) size (Tell n) ∙ rounded_is

    -- the whole list
    abbrev begin : List Call
    begin = Write x.kind x.group x.r x.s ∷ replicate (m.states + 1) (Round n)

    run : history m h size (script m.states n x) ≡ history m telling size (asks n m.states)
    run = history_join m size h (begin ++ (Tell n ∷ [])) (asks n m.states) ∙ ap (λ (g : History). history m g size (asks n m.states)) (history_join m size h begin (Tell n ∷ []))

    pub stands : stack (history m h size (script m.states n x)) ≡ final
    stands = ap stack run ∙ asks_leave m size n m.states telling ∙ telling_is

    said : answers m h size (script m.states n x) ≡ (answers m h size begin ++ (answer m (stack rounded) size (Tell n) ∷ [])) ++ answers m telling size (asks n m.states)
    said =
        answers_join m size h (begin ++ (Tell n ∷ [])) (asks n m.states)
        ∙ ap₂ (λ (u : List Answer) (g : History). u ++ answers m g size (asks n m.states)) (answers_join m size h begin (Tell n ∷ [])) (history_join m size h begin (Tell n ∷ []))

    pub shows_marks : all_shown (answers m h size (script m.states n x)) ≡ marks_shown m (with_rounds rule needed) (stack h) m.states
    shows_marks =
        ap all_shown said
        ∙ shown_join (answers m h size begin ++ (answer m (stack rounded) size (Tell n) ∷ [])) (answers m telling size (asks n m.states))
        ∙ ap₂ (λ (u v : List Shown). u ++ v)
        (shown_join (answers m h size begin) (answer m (stack rounded) size (Tell n) ∷ []) ∙ ap₂ (λ (u v : List Shown). u ++ (v ++ [])) quiet (told_shows (tell_answer m n (stack rounded))))
        (asks_show m size (with_rounds rule needed) (stack h) n height m.states (omega arith) telling telling_is)
      where
        quiet : all_shown (answers m h size begin) ≡ []
        quiet = ap₂ (λ (u v : List Shown). u ++ v) (number_shows (number_if (length (stack h)) takes)) (rounds_show m size n (m.states + 1) wrote)

    tells_top : tell_answer m n final ≡ Ok (needed, settled_at m rule (stack h) needed)
    tells_top = ap (tell_of m) (top (stack h) n (Some (with_rounds rule needed, stack h)) (found (stack h) n) height)

    pub tells_rounds : last_told 0 (answers m h size (script m.states n x)) ≡ needed
    tells_rounds =
        ap (last_told 0) said
        ∙ told_join 0 (answers m h size begin ++ (answer m (stack rounded) size (Tell n) ∷ [])) (answers m telling size (asks n m.states))
        ∙ asks_tell m size n m.states _ telling
        ∙ told_join 0 (answers m h size begin) (answer m (stack rounded) size (Tell n) ∷ [])
        ∙ ap (λ (r : Result (ℕ × Bool) Refusal). rounds_in (last_told 0 (answers m h size begin)) (given told r)) (ap (tell_answer m n) rounded_is ∙ tells_top)

    -- every rule is settled
    top_settled : settled_at m rule (stack h) needed ≡ true
    top_settled = first_passes (settled_at m rule (stack h)) (m.states + 1) 0
        (let z : m.states + 1 ≡ 0 + (m.states + 1) = omega arith in
        subst (λ k. settled_at m rule (stack h) k ≡ true) z (enough m.states m L refl f x.group x.r (yes_states m (stack h) x.r) (yes_states m (stack h) x.s)))

    pub all_settled : (i : ℕ) → i < length final → settled m final i ≡ true
    all_settled i l = ⊎_elim
        (λ (e : i ≡ length (stack h)). top (stack h) i _ _ e ∙ top_settled)
        (λ (d : i ≡ length (stack h) → ⊥). under (stack h) i _ _ d ∙ all i (omega (arith, (λ (e : i ≡ length (stack h)). d e))))
        (cases_eq i (length (stack h)))

-- What the calls of a rule, performed on the board, make of it.
module _ (m : Structure) (L : Limits m) (x : RuleField) (n : ℕ) (t t' : Table) (calls : List Call) (b b' : List ℕ) (all : List Answer) (is_script : calls ≡ script m.states n x) (p : Performs m calls t t' b b' all) where
  performed_on : (st : Stack) → Reached m st t → (h : History) × (stack h ≡ st) × Answered m h × Performed m h (script m.states n x) b t' b' all
  performed_on st R =
      let l = R.led in
      (l.calls, l.is, l.answered, subst (λ (cs : List Call). Performed m l.calls cs b t' b' all) is_script (p l.calls l.answered (subst (λ (s : Stack). Shows m s t) (sym l.is) R.shows)))

  pub rule_refused : (e : Refusal) → first_refused all ≡ Some e → JudgesRule m x n t t' (Err (RefusedAt n e))
  rule_refused e i st R height =
      let w = performed_on st R in
      (sym height, subst (λ (s : Stack). judged_on m x s ≡ Err e) w.1 (refuses m (length b) x n w.0 e (ap first_refused (sym w.3.answers) ∙ i)))

  pub rule_taken : (row : Row) → first_refused all ≡ None → row.rounds ≡ last_told 0 all → vec_items row.marks ≡ all_shown all → JudgesRule m x n t t' (Ok row)
  rule_taken row i er em st R height =
      let w = performed_on st R in
      let h = w.0 in
      let d = w.3 in
      let up : n ≡ length (stack h) = sym height ∙ ap length (sym w.1) in
      let settled_all : (i : ℕ) → i < length (stack h) → settled m (stack h) i ≡ true = subst (λ (s : Stack). (i : ℕ) → i < length s → settled m s i ≡ true) (sym w.1) R.led.all_settled in
      let k = accepts m (length b) x n h (ap first_refused (sym d.answers) ∙ i) in
      let f = k.0 in
      subst (λ (s : Stack). RuleJudged m x s t' (Ok row)) w.1 (
        with_rounds (rule m (length b) x n h L up settled_all f k.1) (needed m (length b) x n h L up settled_all f k.1),
        judged_is m (length b) x n h L up settled_all f k.1,
        record {
          led = record { calls = history m h (length b) (script m.states n x); answered = d.answered; is = stands m (length b) x n h L up settled_all f k.1; all_settled = all_settled m (length b) x n h L up settled_all f k.1 };
          shows = subst (λ (s : Stack). Shows m s t') (stands m (length b) x n h L up settled_all f k.1) d.shows;
        },
        record { rounds = er ∙ ap (last_told 0) d.answers ∙ tells_rounds m (length b) x n h L up settled_all f k.1; marks = em ∙ ap all_shown d.answers ∙ shows_marks m (length b) x n h L up settled_all f k.1 },
      )
