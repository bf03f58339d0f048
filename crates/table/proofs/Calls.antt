-- What the calls on the table do to what stands.
use Rattle.std.proofs.Common.{◌≡◌, ℕ, zero, suc, ◌+◌, ◌-◌, ◌<◌, ◌≤◌, Bool, true, false, cond, not, ◌&&◌, ◌||◌, ltb, List, [], ◌∷◌, length, get_or, set, Some, None, Ok, Err, Option, Result, sym, refl, ap, ◌∙◌, subst, ap₂, inl, ⊎_elim, add-one, arith, length-set, get_or-set_same}
use lib.ListN.{get_or-replicate}
use Rattle.std.proofs.lemmas.Bool.{eq-eqb, ne_eqb, lt-ltb, ltb-true, ltb-false, cond-true, cond-false, cases_lt, cases_Bool}
use Rattle.game.specs.Structure.{Structure, Limits}
use Rattle.game.specs.Serving.{set_of}
use Rattle.refusal.specs.declared.Refusal.{Refusal}
use Rattle.refusal.specs.declared.Refusal.TheVariants.{NoRule, NoState, PartUnsettled, AlreadySettled}
use Rattle.atl.specs.declared.Kind.{Kind}
use Rattle.atl.specs.declared.Mark.{Mark}
use Rattle.atl.specs.declared.Mark.TheVariants.{Open}
use Rattle.atl.specs.Rounds.{is_yes, shown, newly, tally, closed}
use Rattle.atl.proofs.Quiet.{quiet_comes}
use Rattle.table.specs.declared.types.Parts.{Parts}
use Rattle.table.specs.declared.types.Rule.{Rule}
use Rattle.table.specs.declared.types.Table.{Table}
use Rattle.table.specs.Parts.{uses_r, uses_s, waits}
use Rattle.table.specs.Standing.{Standing, Stack, found, marks_of, settled_of, yes_states, settled, one_more, advanced}
use Rattle.table.specs.Answers.{taken, number_if, fresh, pushed_if, write_answer, write_after, erase_answer, erase_after, round_of, round_answer, advanced_if, round_after, ask_of, ask_answer, tell_of, tell_answer}
use Rattle.table.specs.Shows.{rule_at, condition_of, Right, Orderly, AllRight, Shows, Does, Few}
use Rattle.table.specs.Steps.{rounds_in, is_settled, ask_table, tell_table, fresh_rule, Wrote, erase_table, Erased, settled_in, due_rule, due_table, YesArray, PartsOf, Worked, Stepped}
use Rattle.table.proofs.Taking.{taken_tells, past, err_ok, err_err}
use Rattle.table.proofs.Marking.{open_first}
use Rattle.table.proofs.Stacks.{Found, find, missing, length_advanced}
use Rattle.table.proofs.Advancing.{untouched, advance, fresh_settles}
use Rattle.table.proofs.Rounding.{rounds_of, small, counts_is, orderly_next, right_next}

-- an empty table shows that nothing stands
pub shows_nothing : (m : Structure) (t : Table) → t.count ≡ 0 → length t.rules ≡ 32 → Shows m [] t
shows_nothing m t c l = record { long = l; most = omega arith; count = c; rules = tt }

same_rule : (rules : List Rule) (n : ℕ) (y : Rule) → n < length rules → rule_at (set rules n y) n ≡ y
same_rule rules n y l = rw get_or-set_same

found_low : (st : Stack) (n : ℕ) (x : Standing) (below : Stack) → found st n ≡ Some (x, below) → n < length st
found_low st n x below e = ⊎_elim
    (λ (l : n < length st). l)
    (λ (l : length st ≤ n). absurd (let z : ◌≡◌ {A = ℕ} 0 1 = cc (missing st n l, e) in omega arith))
    (cases_lt n (length st))

-- Writing.
module _ (m : Structure) (L : Limits m) (t t' : Table) (kind A r s : ℕ) where
  fresh_right : (st : Stack) (f : Kind) → Right m st (fresh f A r s) (fresh_rule f A r s)
  fresh_right st f = record {
    kind = refl;
    group = refl;
    r = refl;
    s = refl;
    condition = refl;
    long = refl;
    marks = λ q l. get_or-replicate 256 q Open Open (omega (arith, L.many)) ∙ sym (ap (closed f false) (open_first m f A r (yes_states m st r) (yes_states m st s) q));
  }

  pushed : (st : Stack) → Shows m st t → (x : Result Kind Refusal) → taken m.players t.count kind A r s ≡ x → Wrote t t' A r s x → Shows m (pushed_if x A r s st) t'
  pushed st p (Err e) h w = subst (Shows m st) (sym w) p
  pushed st p (Ok f) h w =
      let d = taken_tells m.players t.count kind A r s f h in
      let room : t.count < 32 = omega (arith, d.room, p.count, p.most) in
      let y = fresh_rule f A r s in
      record {
        long = ap length w.1 ∙ rw length-set p.long;
        most = omega (arith, p.count);
        count = w.0 ∙ add-one t.count ∙ ap suc p.count;
        rules = subst (λ (l : List Rule). AllRight m l (fresh f A r s ∷ st)) (sym w.1) (
          record { part_r = λ u. omega (arith, d.part_r u, p.count); part_s = λ u. omega (arith, d.part_s u, p.count); ready = inl refl; going = λ j b. absurd (omega arith) },
          subst (λ i. Right m st (fresh f A r s) (rule_at (set t.rules t.count y) i)) p.count (subst (Right m st (fresh f A r s)) (sym (same_rule t.rules t.count y (omega (arith, p.long)))) (fresh_right st f)),
          untouched m t.rules t.count y st (omega (arith, p.count)) p.rules,
        );
      }

  kept_if : (x : Result Kind Refusal) → Wrote t t' A r s x → (e : Refusal) → number_if t.count x ≡ Err e → t' ≡ t
  kept_if (Ok f) w e h = err_ok (sym h)
  kept_if (Err e) w e' h = w

  pub does_write : (a : Result ℕ Refusal) → a ≡ number_if t.count (taken m.players t.count kind A r s) → Wrote t t' A r s (taken m.players t.count kind A r s) → Does m (write_answer m kind A r s) (write_after m kind A r s) t t' a
  does_write a e w = record {
    answers = λ st p. e ∙ ap (λ (n : ℕ). number_if n (taken m.players n kind A r s)) p.count;
    shows = λ st p. subst (λ (n : ℕ). Shows m (pushed_if (taken m.players n kind A r s) A r s st) t') p.count (pushed st p _ refl w);
    refused = λ x h. kept_if _ w x (sym e ∙ h);
  }

-- Erasing.
module _ (m : Structure) (t t' : Table) where
  erased : (st : Stack) → t.count ≡ length st → erase_table t.count ≡ erase_answer st
  erased [] c = cond-true _ _ _ (eq-eqb t.count 0 c)
  erased (x ∷ below) c = cond-false _ _ _ (ne_eqb t.count 0 (λ e. omega arith)) ∙ ap Ok (let k : t.count - 1 ≡ length below = omega arith in k)

  popped : (st : Stack) → Shows m st t → (a : Result ℕ Refusal) → Erased t t' a → Shows m (erase_after st) t'
  popped [] p (Ok n) w = absurd (omega (arith, w.0, p.count))
  popped [] p (Err e) w = subst (Shows m []) (sym w.1) p
  popped (x ∷ below) p (Err e) w = absurd (omega (arith, w.0, p.count))
  popped (x ∷ below) p (Ok n) w = record {
    long = ap length w.2 ∙ p.long;
    most = omega (arith, p.most);
    count = omega (arith, w.0, w.1, p.count);
    rules = subst (λ (l : List Rule). AllRight m l below) (sym w.2) p.rules.2;
  }

  same_if : (a : Result ℕ Refusal) → Erased t t' a → (e : Refusal) → a ≡ Err e → t' ≡ t
  same_if (Ok n) w e h = err_ok (sym h)
  same_if (Err e) w e' h = w.1

  pub does_erase : (a : Result ℕ Refusal) → a ≡ erase_table t.count → Erased t t' a → Does m erase_answer erase_after t t' a
  does_erase a e w = record {
    answers = λ st p. e ∙ erased st p.count;
    shows = λ st p. popped st p a w;
    refused = same_if a w;
  }

-- What the table says of a condition.
is_settled_of : (k : ℕ) (b : Bool) → (k ≡ 0 → b ≡ false) → is_settled (condition_of k b) ≡ b
is_settled_of zero b z = sym (z refl)
is_settled_of (suc k) true z = refl
is_settled_of (suc k) false z = refl

-- what a round that is due tells of the table
pub record Tested (t : Table) (n : ℕ) : Type 0 where
  pub low : n < t.count
  pub ready : waits (settled_in t) (rule_at t.rules n).kind (rule_at t.rules n).r (rule_at t.rules n).s ≡ false
  pub unsettled : is_settled (rule_at t.rules n).condition ≡ false

pub tested : (t : Table) (n : ℕ) → due_table t n ≡ Ok tt → Tested t n
tested t n h = ⊎_elim
    (λ (b : ltb n t.count ≡ true).
    let w = waits (settled_in t) (rule_at t.rules n).kind (rule_at t.rules n).r (rule_at t.rules n).s in
    let q = past w PartUnsettled _ tt (sym (cond-true _ _ (Err NoRule) b) ∙ h) in
    record { low = ltb-true n t.count b; ready = q.0; unsettled = (past (is_settled (rule_at t.rules n).condition) AlreadySettled (Ok tt) tt q.1).0 })
    (λ (b : ltb n t.count ≡ false). err_ok (sym (cond-false _ (due_rule (settled_in t) (rule_at t.rules n)) (Err NoRule) b) ∙ h))
    (cases_Bool (ltb n t.count))

module _ (m : Structure) (t : Table) (st : Stack) (p : Shows m st t) where
  -- the rule n that stands
  abbrev pub At : ℕ → Type 0
  At n = Found m t.rules st n

  pub at : (n : ℕ) → n < t.count → At n
  at n l = find m t.rules st p.rules n (omega (arith, p.count))

  pub gone : (n : ℕ) → t.count ≤ n → found st n ≡ None
  gone n l = missing st n (omega (arith, p.count))

  unsettled_first : (x : Standing) (below : Stack) → x.rounds ≡ 0 → settled_of m x (yes_states m below) ≡ false
  unsettled_first x below e = fresh_settles m.states x.kind (marks_of m x (yes_states m below)) x.rounds e

  pub rule_settled : (n : ℕ) (f : At n) → is_settled (rule_at t.rules n).condition ≡ settled_of m f.rule (yes_states m f.below)
  rule_settled n f = ap is_settled f.right.condition ∙ is_settled_of f.rule.rounds _ (unsettled_first f.rule f.below)

  pub rule_rounds : (n : ℕ) (f : At n) → rounds_in (rule_at t.rules n).condition ≡ f.rule.rounds
  rule_rounds n f = ap rounds_in f.right.condition ∙ rounds_of f.rule.rounds _

  -- a call on rule n: what the table gives, case by case
  by_number : {X : Type 0} (n : ℕ) (here gone_here : X) (answer : Option (Standing × Stack) → X) → ((f : At n) → here ≡ answer (Some (f.rule, f.below))) → gone_here ≡ answer None → cond (ltb n t.count) here gone_here ≡ answer (found st n)
  by_number n here gone_here answer h g = ⊎_elim
      (λ (e : ltb n t.count ≡ true). let f = at n (ltb-true n t.count e) in cond-true _ here gone_here e ∙ h f ∙ ap answer (sym f.is))
      (λ (e : ltb n t.count ≡ false). cond-false _ here gone_here e ∙ g ∙ ap answer (sym (gone n (ltb-false n t.count e))))
      (cases_Bool (ltb n t.count))

  pub asks : (n q : ℕ) → ask_table m.states t n q ≡ ask_answer m n q st
  asks n q = by_number n _ _ (λ o. ask_of m o q) (λ f. one f.rule f.below f.right) refl
    where
      one : (x : Standing) (below : Stack) → Right m below x (rule_at t.rules n) → cond (ltb q m.states) (Ok (shown (get_or (rule_at t.rules n).marks q Open))) (Err NoState) ≡ ask_of m (Some (x, below)) q
      one x below r = ⊎_elim
          (λ (e : ltb q m.states ≡ true). cond-true _ _ _ e ∙ ap (λ (v : Mark). Ok (shown v)) (r.marks q (ltb-true q m.states e)) ∙ sym (cond-true _ _ _ e))
          (λ (e : ltb q m.states ≡ false). cond-false _ _ _ e ∙ sym (cond-false _ _ _ e))
          (cases_Bool (ltb q m.states))

  pub tells_of : (n : ℕ) → tell_table t n ≡ tell_answer m n st
  tells_of n = by_number n _ _ (tell_of m) (λ f. ap₂ (λ (k : ℕ) (b : Bool). Ok (k, b)) (rule_rounds n f) (rule_settled n f)) refl

  -- Few rounds.
  few_of : (x : Standing) (below : Stack) → Orderly m below x → x.rounds ≤ m.states + 1
  few_of x below o = by x.rounds refl
    where
      by : (k : ℕ) → x.rounds ≡ k → x.rounds ≤ m.states + 1
      by zero e = omega arith
      by (suc k) e = omega (arith, quiet_comes m x.group x.r (yes_states m below x.r) (yes_states m below x.s) m.states k x.kind (λ j l b. o.going j (omega arith)))

  pub few_rounds : (n : ℕ) → Few m.states (tell_answer m n st)
  few_rounds n = ⊎_elim
      (λ (e : ltb n t.count ≡ true). let f = at n (ltb-true n t.count e) in subst (λ (o : Option (Standing × Stack)). Few m.states (tell_of m o)) (sym f.is) (few_of f.rule f.below f.orderly))
      (λ (e : ltb n t.count ≡ false). subst (λ (o : Option (Standing × Stack)). Few m.states (tell_of m o)) (sym (gone n (ltb-false n t.count e))) tt)
      (cases_Bool (ltb n t.count))

  -- Rounds. The rules below rule n, as the table has them.
  module _ (n : ℕ) (f : At n) where
    low : (i : ℕ) → i < n → i < t.count
    low i l = omega (arith, p.count, found_low st n f.rule f.below f.is)

    settled_low_is : (i : ℕ) → i < n → settled_in t i ≡ settled m f.below i
    settled_low_is i l =
        let g = at i (low i l) in
        ap (λ (b : Bool). b && is_settled (rule_at t.rules i).condition) (lt-ltb i t.count (low i l)) ∙ rule_settled i g ∙ sym g.settled_is ∙ f.settled_low i l

    used : (u a b : Bool) → (u ≡ true → a ≡ b) → (u && not a) ≡ (u && not b)
    used true a b h = ap not (h refl)
    used false a b h = refl

    waits_is : waits (settled_in t) (rule_at t.rules n).kind (rule_at t.rules n).r (rule_at t.rules n).s ≡ waits (settled m f.below) f.rule.kind f.rule.r f.rule.s
    waits_is =
        let x = f.rule in
        ap (λ (k : Kind). waits (settled_in t) k (rule_at t.rules n).r (rule_at t.rules n).s) f.right.kind
        ∙ ap₂ (λ r s. waits (settled_in t) x.kind r s) f.right.r f.right.s
        ∙ ap₂ (λ a b. a || b)
        (used (uses_r x.kind) (settled_in t x.r) (settled m f.below x.r) (λ u. settled_low_is x.r (omega (arith, f.orderly.part_r u, f.height))))
        (used (uses_s x.kind) (settled_in t x.s) (settled m f.below x.s) (λ u. settled_low_is x.s (omega (arith, f.orderly.part_s u, f.height))))

    -- the yes states of a part
    pub part_states : (ys : List Bool) (i j : ℕ) → i ≡ j → j < n → m.states ≤ 256 → YesArray t i ys → (q : ℕ) → q < m.states → set_of ys q ≡ yes_states m f.below j q
    part_states ys i j e l many a q b =
        let g = find m t.rules f.below f.rest j (omega (arith, f.height)) in
        a (omega (arith, low j l)) q (omega arith) ∙ ap (λ k. is_yes (get_or (rule_at t.rules k).marks q Open)) e ∙ ap is_yes (g.right.marks q b) ∙ sym (g.yes_is q)

  abbrev count_of : Standing → Stack → ℕ
  count_of x below = tally (newly (marks_of m x (yes_states m below)) x.rounds) m.states

  refused_by : (w d : Bool) (a : Unit {0}) (c : ℕ) (e : Refusal) → cond w (Err PartUnsettled) (cond d (Err AlreadySettled) (Ok a)) ≡ Err e → cond w (Err PartUnsettled) (cond d (Err AlreadySettled) (Ok c)) ≡ Err e
  refused_by true d a c e h = err_err h
  refused_by false true a c e h = err_err h
  refused_by false false a c e h = err_ok (sym h)

  -- both sides test the same
  round_tests : (n : ℕ) (f : At n) → round_of m (Some (f.rule, f.below)) ≡ cond (waits (settled_in t) (rule_at t.rules n).kind (rule_at t.rules n).r (rule_at t.rules n).s) (Err PartUnsettled) (cond (is_settled (rule_at t.rules n).condition) (Err AlreadySettled) (Ok (count_of f.rule f.below)))
  round_tests n f = ap₂ (λ (w d : Bool). cond w (Err PartUnsettled) (cond d (Err AlreadySettled) (Ok (count_of f.rule f.below)))) (sym (waits_is n f)) (sym (rule_settled n f))

  pub round_refused : (n : ℕ) (e : Refusal) → due_table t n ≡ Err e → round_answer m n st ≡ Err e
  round_refused n e h = ⊎_elim
      (λ (b : ltb n t.count ≡ true).
      let f = at n (ltb-true n t.count b) in
      ap (round_of m) f.is ∙ round_tests n f ∙ refused_by (waits (settled_in t) (rule_at t.rules n).kind (rule_at t.rules n).r (rule_at t.rules n).s) (is_settled (rule_at t.rules n).condition) tt (count_of f.rule f.below) e (sym (cond-true _ _ (Err NoRule) b) ∙ h))
      (λ (b : ltb n t.count ≡ false). ap (round_of m) (gone n (ltb-false n t.count b)) ∙ err_err (sym (cond-false _ (due_rule (settled_in t) (rule_at t.rules n)) (Err NoRule) b) ∙ h))
      (cases_Bool (ltb n t.count))

  -- a round that is due
  pub record Due (n : ℕ) : Type 0 where
    pub at_n : At n
    pub ready : waits (settled m at_n.below) at_n.rule.kind at_n.rule.r at_n.rule.s ≡ false
    pub unsettled : settled_of m at_n.rule (yes_states m at_n.below) ≡ false
    pub answer : round_answer m n st ≡ Ok (count_of at_n.rule at_n.below)

  pub due : (n : ℕ) → Tested t n → Due n
  due n d =
      let f = at n d.low in
      record {
        at_n = f;
        ready = sym (waits_is n f) ∙ d.ready;
        unsettled = sym (rule_settled n f) ∙ d.unsettled;
        answer = ap (round_of m) f.is ∙ round_tests n f ∙ cond-false _ _ _ d.ready ∙ cond-false _ _ _ d.unsettled;
      }

  module _ (L : Limits m) (t' : Table) (n c : ℕ) (d : Due n) (s : Stepped m t t' n c) where
    abbrev f : At n
    f = d.at_n

    is_r : uses_r f.rule.kind ≡ true → (q : ℕ) → q < m.states → set_of s.parts.r q ≡ yes_states m f.below f.rule.r q
    is_r u = part_states n f s.parts.r (rule_at t.rules n).r f.rule.r f.right.r (omega (arith, f.orderly.part_r u, f.height)) L.many s.parts_are.r

    is_s : uses_s f.rule.kind ≡ true → (q : ℕ) → q < m.states → set_of s.parts.s q ≡ yes_states m f.below f.rule.s q
    is_s u = part_states n f s.parts.s (rule_at t.rules n).s f.rule.s f.right.s (omega (arith, f.orderly.part_s u, f.height)) L.many s.parts_are.s

    worked : Worked m (rule_at t.rules n) s.parts (rule_at t'.rules n) c
    worked = s.worked (small m L f.below f.rule (rule_at t.rules n) f.orderly f.right d.ready d.unsettled s.parts is_r is_s)

    pub counted : c ≡ count_of f.rule f.below
    counted = counts_is m L f.below f.rule (rule_at t.rules n) f.orderly f.right d.ready d.unsettled s.parts is_r is_s (rule_at t'.rules n) c worked

    pub shows_next : Shows m (advanced n st) t'
    shows_next = record {
      long = ap length s.rules ∙ rw length-set p.long;
      most = omega (arith, length_advanced n st, p.most);
      count = s.count ∙ p.count ∙ sym (length_advanced n st);
      rules = subst (λ (l : List Rule). AllRight m l (advanced n st)) (sym s.rules)
          (advance m t.rules n (rule_at t'.rules n) (omega (arith, p.long, p.most, found_low st n f.rule f.below f.is)) st p.rules (f.settled_is ∙ d.unsettled) next);
    }
      where
        next : (x : Standing) (below : Stack) → found st n ≡ Some (x, below) → Orderly m below (one_more x) × Right m below (one_more x) (rule_at t'.rules n)
        next x below e =
            let same : (f.rule, f.below) ≡ (x, below) = same_found (sym f.is ∙ e) in
            subst (λ (z : Standing × Stack). Orderly m z.1 (one_more z.0) × Right m z.1 (one_more z.0) (rule_at t'.rules n)) same (
              orderly_next m L f.below f.rule (rule_at t.rules n) f.orderly f.right d.ready d.unsettled s.parts is_r is_s (rule_at t'.rules n) c worked,
              right_next m L f.below f.rule (rule_at t.rules n) f.orderly f.right d.ready d.unsettled s.parts is_r is_s (rule_at t'.rules n) c worked,
            )
          where
            same_found : {a b : Standing × Stack} → ◌≡◌ {A = Option (Standing × Stack)} (Some a) (Some b) → a ≡ b
            same_found h = cc

pub does_refused_round : (m : Structure) (t : Table) (n : ℕ) (e : Refusal) → due_table t n ≡ Err e → Does m (round_answer m n) (round_after m n) t t (Err e)
does_refused_round m t n e h = record {
  answers = λ st p. sym (round_refused m t st p n e h);
  shows = λ st p. subst (λ (a : Result ℕ Refusal). Shows m (advanced_if m a n st) t) (sym (round_refused m t st p n e h)) p;
  refused = λ x q. refl;
}

pub does_round : (m : Structure) → Limits m → (t t' : Table) (n c : ℕ) → Tested t n → (length t.rules ≡ 32 → Stepped m t t' n c) → Does m (round_answer m n) (round_after m n) t t' (Ok c)
does_round m L t t' n c h s = record {
  answers = λ st p. let d = due m t st p n h in ap Ok (counted m t st p L t' n c d (s p.long)) ∙ sym d.answer;
  shows = λ st p. let d = due m t st p n h in subst (λ (a : Result ℕ Refusal). Shows m (advanced_if m a n st) t') (sym d.answer) (shows_next m t st p L t' n c d (s p.long));
  refused = λ x q. err_ok (sym q);
}

-- what the round of a rule does to the table
pub stepped : (m : Structure) (t t' : Table) (n c : ℕ) (y' : Rule) (parts : Parts) → n < length t.rules → t'.count ≡ t.count → t'.rules ≡ set t.rules n y' → PartsOf t (rule_at t.rules n) parts
    → (rounds_in (rule_at t.rules n).condition < 65535 → Worked m (rule_at t.rules n) parts y' c) → Stepped m t t' n c
stepped m t t' n c y' parts l ec er are w =
    let e : rule_at t'.rules n ≡ y' = ap (λ (z : List Rule). rule_at z n) er ∙ same_rule t.rules n y' l in
    record {
      count = ec;
      rules = er ∙ ap (set t.rules n) (sym e);
      parts = parts;
      parts_are = are;
      worked = λ h. subst (λ (y : Rule). Worked m (rule_at t.rules n) parts y c) (sym e) (w h);
    }
