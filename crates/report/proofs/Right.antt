-- Every rule that stands once all are judged is settled and right.
use Rattle.std.proofs.Common.{◌≡◌, ℕ, zero, suc, ◌<◌, Bool, true, List, ◌∷◌, length, Some, Ok, Err, Option, Result, sym, refl, ap, ◌∙◌, subst, ⊎_elim, arith}
use Rattle.std.proofs.lemmas.Bool.{lt-ltb, cond-true, cases_eq}
use Rattle.game.specs.Structure.{Structure, Limits}
use Rattle.refusal.specs.declared.Refusal.{Refusal}
use Rattle.book.specs.declared.rules.RuleField.{RuleField}
use Rattle.book.specs.Told.{rule_count}
use Rattle.atl.specs.declared.Kind.{Kind}
use Rattle.table.specs.Standing.{Standing, Stack, found, settled}
use Rattle.table.specs.Answers.{nothing, write_answer, ask_of, tell_of}
use Rattle.table.proofs.Stacks.{top, under}
use Rattle.calls.specs.Histories.{History, stack, Answered, history}
use Rattle.calls.proofs.Possible.{kind_taken, possible}
use Rattle.calls.proofs.Lawful.{law}
use Rattle.calls.proofs.Performing.{answered_all}
use Rattle.board.proofs.Knowing.{here}
use Rattle.report.specs.Judging.{with_rounds, judged_if, judged_on, Judgement, at_rule, then_judged, judged, rule_number}
use Rattle.report.specs.Right.{StandsAs, RuleRight, AllStand, FirstRefused, JudgedRight, RightOf}
use Rattle.report.specs.Steps.{script, Led}
use Rattle.report.proofs.Judged.{takes, judges, rule, needed, stands, all_settled}
use Rattle.report.proofs.Rows.{led_nothing}

same_ok : {A E : Type 0} {a b : A} → ◌≡◌ {A = Result A E} (Ok a) (Ok b) → a ≡ b
same_ok e = cc

same_err : {A E : Type 0} {a b : E} → ◌≡◌ {A = Result A E} (Err a) (Err b) → a ≡ b
same_err e = cc

not_ok : {A E X : Type 0} {a : A} {d : E} → ◌≡◌ {A = Result A E} (Err d) (Ok a) → X
not_ok e = absurd (let z : ◌≡◌ {A = ℕ} 0 1 = cc in omega arith)

same_found : {a b : Standing × Stack} → ◌≡◌ {A = Option (Standing × Stack)} (Some a) (Some b) → a ≡ b
same_found e = cc

module _ (m : Structure) (L : Limits m) where
  abbrev SettledAll : Stack → Type 0
  SettledAll st = (i : ℕ) → i < length st → settled m st i ≡ true

  -- The rule f, judged on st, stands as x.
  record Next (f : RuleField) (st st' : Stack) : Type 0 where
    x : Standing
    is : st' ≡ x ∷ st
    told : StandsAs f x
    led : Led m st'

  taken_next : (f : RuleField) (h : History) → Answered m h → SettledAll (stack h) → (y : Result Kind Refusal) → takes m 0 f (length (stack h)) h ≡ y
      → (st : Stack) → judges m 0 f (length (stack h)) h y ≡ Ok st → Next f (stack h) st
  taken_next f h a all (Err d) i st e = not_ok e
  taken_next f h a all (Ok k) i st e =
      let n = length (stack h) in
      record {
        x = with_rounds (rule m 0 f n h L refl all k i) (needed m 0 f n h L refl all k i);
        is = sym (same_ok e);
        told = record { kind = kind_taken m.players n f.kind f.group f.r f.s k i; group = refl; r = refl; s = refl };
        led = subst (Led m) (same_ok e) (record {
          calls = history m h 0 (script m.states n f);
          answered = answered_all m 0 h (script m.states n f) a;
          is = stands m 0 f n h L refl all k i;
          all_settled = all_settled m 0 f n h L refl all k i;
        });
      }

  judged_next : (f : RuleField) (st : Stack) → Led m st → (st' : Stack) → judged_on m f st ≡ Ok st' → Next f st st'
  judged_next f st l st' e =
      subst (λ (s : Stack). Next f s st') l.is
      (taken_next f l.calls l.answered (subst SettledAll (sym l.is) l.all_settled) _ refl st' (ap (judged_on m f) l.is ∙ e))

  -- The first n rules, all of which stand.
  record SoFar (told : ℕ → RuleField) (n : ℕ) (st : Stack) : Type 0 where
    led : Led m st
    many : length st ≡ n
    each : (k : ℕ) (x : Standing) (below : Stack) → found st k ≡ Some (x, below) → StandsAs (told k) x

  so_far_next : (told : ℕ → RuleField) (n : ℕ) (st st' : Stack) → SoFar told n st → Next (told n) st st' → SoFar told (suc n) st'
  so_far_next told n st st' s w = record {
    led = w.led;
    many = ap length w.is ∙ ap suc s.many;
    each = λ k y below is. ⊎_elim
        (λ (e : k ≡ length st).
        let i = same_found (sym (top st k (Some (w.x, st)) (found st k) e) ∙ ap (λ (z : Stack). found z k) (sym w.is) ∙ is) in
        subst (λ (z : Standing × Stack). StandsAs (told k) z.0) i (subst (λ j. StandsAs (told j) w.x) (sym (e ∙ s.many)) w.told))
        (λ (d : k ≡ length st → ⊥). s.each k y below (sym (under st k (Some (w.x, st)) (found st k) d) ∙ ap (λ (z : Stack). found z k) (sym w.is) ∙ is))
        (cases_eq k (length st));
  }

  so_far_nothing : (told : ℕ → RuleField) → SoFar told 0 nothing
  so_far_nothing told = record { led = led_nothing m; many = refl; each = λ k x below is. absurd (let z : ◌≡◌ {A = ℕ} 0 1 = cc in omega arith) }

  so_far : (told : ℕ → RuleField) (n : ℕ) (st : Stack) → judged m told n ≡ Ok st → SoFar told n st
  so_far told zero st e = subst (SoFar told 0) (same_ok e) (so_far_nothing told)
  so_far told (suc n) st e = by (judged m told n) (λ low i. so_far told n low i) e
    where
      kept : (r : Result Stack Refusal) → at_rule n r ≡ Ok st → r ≡ Ok st
      kept (Ok s) i = ap Ok (same_ok i)
      kept (Err d) i = not_ok i

      by : (j : Judgement) → ((low : Stack) → j ≡ Ok low → SoFar told n low) → then_judged m n (told n) j ≡ Ok st → SoFar told (suc n) st
      by (Ok low) s k = so_far_next told n low st (s low refl) (judged_next (told n) low (s low refl).led st (kept (judged_on m (told n) low) k))
      by (Err p) s k = not_ok k

  -- What stands after calls, each rule settled, is right.
  history_right : (h : History) → Answered m h → SettledAll (stack h) → (f : RuleField) (n : ℕ) (x : Standing) (low : Stack) → StandsAs f x → found (stack h) n ≡ Some (x, low) → RuleRight m f (stack h) n x low
  history_right h a all f n x low told is =
      let p = possible m L h a in
      let w = here m L p.rules (stack h) p.right n x low is in
      let d = all n w.up in
      record {
        told = told;
        is_settled = d;
        not_before = w.orderly.going;
        rounds = ap (tell_of m) is ∙ ap (λ (b : Bool). Ok (x.rounds, b)) (sym w.settled_is ∙ d);
        marks = λ q l. ap (λ (o : Option (Standing × Stack)). ask_of m o q) is ∙ cond-true _ _ _ (lt-ltb q m.states l);
        right = ((law m L h a).means n x low is d).right;
      }

  all_stand : (told : ℕ → RuleField) (n : ℕ) (st : Stack) → judged m told n ≡ Ok st → AllStand m told n st
  all_stand told n st e =
      let s = so_far told n st e in
      let l = s.led in
      record {
        many = s.many;
        each = λ k x below is.
            subst (λ (z : Stack). found z k ≡ Some (x, below) → RuleRight m (told k) z k x below) l.is
            (history_right l.calls l.answered (subst SettledAll (sym l.is) l.all_settled) (told k) k x below (s.each k x below is)) is;
      }

  -- The first rule that is refused.
  refused_if : (r : Result ℕ Refusal) (st : Stack) (e : Refusal) → judged_if m r st ≡ Err e → r ≡ Err e
  refused_if (Ok n) st e i = not_ok (sym i)
  refused_if (Err d) st e i = ap Err (same_err i)

  one_more : (told : ℕ → RuleField) (n k : ℕ) (e : Refusal) → FirstRefused m told n k e → FirstRefused m told (suc n) k e
  one_more told n k e r = record { within = omega (arith, r.within); before = r.before; stand = r.stand; refused = r.refused }

  first_refused : (told : ℕ → RuleField) (n : ℕ) (p : ℕ × Refusal) → judged m told n ≡ Err p → FirstRefused m told n p.0 p.1
  first_refused told zero p e = not_ok (sym e)
  first_refused told (suc n) p e = by (judged m told n) refl (λ q i. first_refused told n q i) e
    where
      at_n : (low : Stack) → judged m told n ≡ Ok low → (r : Result Stack Refusal) → judged_on m (told n) low ≡ r → at_rule n r ≡ Err p → FirstRefused m told (suc n) p.0 p.1
      at_n low i (Ok s) j k = not_ok (sym k)
      at_n low i (Err d) j k = subst (λ (q : ℕ × Refusal). FirstRefused m told (suc n) q.0 q.1) (same_err k) (record {
        within = omega arith;
        before = low;
        stand = all_stand told n low i;
        refused = refused_if (write_answer m (told n).kind (told n).group (told n).r (told n).s low) _ d j;
      })

      by : (j : Judgement) → judged m told n ≡ j → ((q : ℕ × Refusal) → j ≡ Err q → FirstRefused m told n q.0 q.1) → then_judged m n (told n) j ≡ Err p → FirstRefused m told (suc n) p.0 p.1
      by (Ok low) i r k = at_n low i (judged_on m (told n) low) refl k
      by (Err q) i r k = one_more told n p.0 p.1 (r p k)

  pub judged_right : (told : ℕ → RuleField) (n : ℕ) → JudgedRight m told n (judged m told n)
  judged_right told n = by (judged m told n) refl
    where
      by : (j : Judgement) → judged m told n ≡ j → JudgedRight m told n j
      by (Ok st) e = all_stand told n st e
      by (Err p) e = first_refused told n p e

  pub right_of : (bs : List ℕ) → RightOf m bs
  right_of bs = judged_right (rule_number bs) (rule_count bs)
