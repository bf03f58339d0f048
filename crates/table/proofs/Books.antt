-- The playbook by the table is the playbook by what stands.
use Rattle.std.proofs.Common.{◌≡◌, ℕ, ◌<◌, ◌≤◌, Bool, true, false, cond, eqb, List, Ok, Err, Result, sym, refl, ap, ◌∙◌, ap₂, arith}
use Rattle.std.proofs.lemmas.Bool.{lt-ltb, le-ltb, ne_eqb, cond-true, cond-false}
use Rattle.game.specs.Structure.{Structure, Limits}
use Rattle.game.specs.Serving.{set_of}
use Rattle.refusal.specs.declared.Refusal.{Refusal}
use Rattle.refusal.specs.declared.Refusal.TheVariants.{NotSettled, NoRule, NoState}
use Rattle.atl.specs.declared.Kind.{Kind}
use Rattle.atl.specs.declared.Kind.TheVariants.{Label, Not, Or, Strategic}
use Rattle.atl.specs.declared.Modality.TheVariants.{Can, Despite}
use Rattle.atl.specs.declared.Temporal.{Temporal}
use Rattle.atl.specs.declared.Temporal.TheVariants.{Next, Until, Unless}
use Rattle.atl.specs.declared.Mark.{Mark}
use Rattle.atl.specs.declared.Mark.TheVariants.{Yes}
use Rattle.atl.specs.Playbook.{all_first, or_else, keep_to, yes_states as marked_yes, yes_states_below, play_at, playbook}
use Rattle.atl.proofs.Steps.{serving_local}
use Rattle.atl.proofs.Plays.{playbook_local}
use Rattle.table.specs.declared.types.Parts.{Parts}
use Rattle.table.specs.declared.types.Rule.{Rule}
use Rattle.table.specs.declared.types.Table.{Table}
use Rattle.table.specs.Parts.{uses_r, uses_s}
use Rattle.table.specs.Standing.{Stack, mark_of, yes_states}
use Rattle.table.specs.Answers.{book_as, book_of, choice_in, play_of, play_answer}
use Rattle.table.specs.Shows.{rule_at, Shows}
use Rattle.table.specs.Steps.{is_settled, YesMarks, PartsOf}
use Rattle.table.specs.Books.{marks_in, Below, choice_of, temporal_of, book_in}
use Rattle.table.proofs.Taking.{err_ok}
use Rattle.table.proofs.Calls.{At, at, gone, rule_settled, part_states}

-- a playbook for each temporal word, for the word that a rule has
abbrev pub booked : (Temporal → ℕ → ℕ) → Result Temporal Refusal → Result (ℕ → ℕ) Refusal
booked g (Ok o) = Ok (g o)
booked g (Err e) = Err e

book_kind : (m : Structure) (f : Kind) (A : ℕ) (M : ℕ → Mark) (R S : ℕ → Bool) → book_as m f A M R S ≡ booked (playbook m A M R S) (temporal_of f)
book_kind m Label A M R S = refl
book_kind m Not A M R S = refl
book_kind m Or A M R S = refl
book_kind m (Strategic Can o) A M R S = refl
book_kind m (Strategic Despite o) A M R S = refl

kind_is : (f : Kind) (o : Temporal) → temporal_of f ≡ Ok o → f ≡ Strategic Can o
kind_is Label o e = err_ok e
kind_is Not o e = err_ok e
kind_is Or o e = err_ok e
kind_is (Strategic Can o) o' e = let z : o ≡ o' = cc in ap (Strategic Can) z
kind_is (Strategic Despite o) o' e = err_ok e

booked_if : (b : Bool) (g : Temporal → ℕ → ℕ) (r : Result Temporal Refusal) → cond b (booked g r) (Err NotSettled) ≡ booked g (cond b r (Err NotSettled))
booked_if true g r = refl
booked_if false g r = refl

settled_ok : (b : Bool) (r : Result Temporal Refusal) (o : Temporal) → cond b r (Err NotSettled) ≡ Ok o → r ≡ Ok o
settled_ok true r o e = e
settled_ok false r o e = err_ok e

module _ (m : Structure) (L : Limits m) (t : Table) (st : Stack) (p : Shows m st t) (n : ℕ) (f : At m t st p n) where
  abbrev M : ℕ → Mark
  M = mark_of m f.rule (yes_states m f.below)

  abbrev R : ℕ → Bool
  R = yes_states m f.below f.rule.r

  abbrev S : ℕ → Bool
  S = yes_states m f.below f.rule.s

  abbrev pub book : Temporal → ℕ → ℕ
  book = playbook m f.rule.group M R S

  pub book_is : book_of m (f.rule, f.below) ≡ booked book (book_in (rule_at t.rules n))
  book_is =
      ap₂ (λ (b : Bool) (r : Result (ℕ → ℕ) Refusal). cond b r (Err NotSettled)) (sym (rule_settled m t st p n f)) (ap (λ (k : Kind). book_as m k f.rule.group M R S) (sym f.right.kind) ∙ book_kind m (rule_at t.rules n).kind f.rule.group M R S)
      ∙ booked_if (is_settled (rule_at t.rules n).condition) book (temporal_of (rule_at t.rules n).kind)

  module _ (parts : Parts) (are : PartsOf t (rule_at t.rules n) parts) (o : Temporal) (e : book_in (rule_at t.rules n) ≡ Ok o) where
    strategic : f.rule.kind ≡ Strategic Can o
    strategic = sym f.right.kind ∙ kind_is (rule_at t.rules n).kind o (settled_ok (is_settled (rule_at t.rules n).condition) (temporal_of (rule_at t.rules n).kind) o e)

    states_r : (q : ℕ) → q < m.states → set_of parts.r q ≡ yes_states m f.below f.rule.r q
    states_r = part_states m t st p n f parts.r (rule_at t.rules n).r f.rule.r f.right.r (omega (arith, f.orderly.part_r (ap uses_r strategic), f.height)) L.many are.r

    states_s : uses_s (Strategic Can o) ≡ true → (q : ℕ) → q < m.states → set_of parts.s q ≡ yes_states m f.below f.rule.s q
    states_s u = part_states m t st p n f parts.s (rule_at t.rules n).s f.rule.s f.right.s (omega (arith, f.orderly.part_s (ap uses_s strategic ∙ u), f.height)) L.many are.s

    marks_same : (q : ℕ) → q < m.states → marks_in (rule_at t.rules n) q ≡ mark_of m f.rule (yes_states m f.below) q
    marks_same q l = f.right.marks q l

    by_word : (o' : Temporal) → o ≡ o' → (q : ℕ) → q < m.states → playbook m f.rule.group (marks_in (rule_at t.rules n)) (set_of parts.r) (set_of parts.s) o' q ≡ book o' q
    by_word Next i q l = playbook_local m L f.rule.group q l (marks_in (rule_at t.rules n)) _ (set_of parts.r) _ (set_of parts.s) (set_of parts.s) marks_same states_r (λ t b. refl) Next
    by_word Until i q l = playbook_local m L f.rule.group q l (marks_in (rule_at t.rules n)) _ (set_of parts.r) _ (set_of parts.s) _ marks_same states_r (states_s (ap (λ (w : Temporal). uses_s (Strategic Can w)) i)) Until
    by_word Unless i q l = playbook_local m L f.rule.group q l (marks_in (rule_at t.rules n)) _ (set_of parts.r) _ (set_of parts.s) _ marks_same states_r (states_s (ap (λ (w : Temporal). uses_s (Strategic Can w)) i)) Unless

    pub choice_is : (q : ℕ) → q < m.states → choice_of m (rule_at t.rules n) parts o q ≡ book o q
    choice_is q l = ap (λ (A : ℕ). playbook m A (marks_in (rule_at t.rules n)) (set_of parts.r) (set_of parts.s) o q) f.right.group ∙ by_word o refl q l

-- the choice at a yes, as the code finds it
module _ (m : Structure) (L : Limits m) (y : Rule) (parts : Parts) (q : ℕ) (l : q < m.states) where
  keep_same : (X Y : ℕ → Bool) → ((t : ℕ) → t < m.states → X t ≡ Y t) → keep_to m y.group q X ≡ keep_to m y.group q Y
  keep_same X Y e = ap (or_else (all_first m y.group q)) (serving_local m L y.group q l X Y e)

  pub until_choice : (o : Temporal) (k c : ℕ) (xs : List Bool) → marks_in y q ≡ Yes k → o ≡ Until → 0 < k → Below y k xs → c ≡ keep_to m y.group q (set_of xs) → c ≡ choice_of m y parts o q
  until_choice o k c xs e i b x h =
      h ∙ keep_same (set_of xs) (yes_states_below (marks_in y) k) (λ t d. x t (omega (arith, L.many)))
      ∙ sym (cond-false (eqb k 0) (all_first m y.group q) (keep_to m y.group q (yes_states_below (marks_in y) k)) (ne_eqb k 0 (λ z. omega arith)))
      ∙ sym (ap₂ (λ (w : Temporal) (v : Mark). play_at m y.group (marks_in y) (set_of parts.r) (set_of parts.s) w q v) i e)

  pub unless_choice : (o : Temporal) (k c : ℕ) (xs : List Bool) → marks_in y q ≡ Yes k → o ≡ Unless → set_of parts.s q ≡ false → YesMarks y xs → c ≡ keep_to m y.group q (set_of xs) → c ≡ choice_of m y parts o q
  unless_choice o k c xs e i b x h =
      h ∙ keep_same (set_of xs) (marked_yes (marks_in y)) (λ t d. x t (omega (arith, L.many)))
      ∙ sym (cond-false (set_of parts.s q) (all_first m y.group q) (keep_to m y.group q (marked_yes (marks_in y))) b)
      ∙ sym (ap₂ (λ (w : Temporal) (v : Mark). play_at m y.group (marks_in y) (set_of parts.r) (set_of parts.s) w q v) i e)

-- the answers of play
module _ (m : Structure) (L : Limits m) (t : Table) (st : Stack) (p : Shows m st t) (n q : ℕ) where
  module _ (up : n < t.count) where
    abbrev f : At m t st p n
    f = at m t st p n up

    pub play_refused : (e : Refusal) → q < m.states → book_in (rule_at t.rules n) ≡ Err e → Err e ≡ play_answer m n q st
    play_refused e l h = sym (ap (λ o. play_of m o q) f.is ∙ cond-true _ _ _ (lt-ltb q m.states l) ∙ ap (choice_in m q) (book_is m L t st p n f ∙ ap (booked (book m L t st p n f)) h))

    pub no_state : m.states ≤ q → Err NoState ≡ play_answer m n q st
    no_state l = sym (ap (λ o. play_of m o q) f.is ∙ cond-false _ _ _ (le-ltb q m.states l))

    pub plays : (parts : Parts) → PartsOf t (rule_at t.rules n) parts → (o : Temporal) (c : ℕ) → q < m.states → book_in (rule_at t.rules n) ≡ Ok o
        → c ≡ choice_of m (rule_at t.rules n) parts o q → Ok c ≡ play_answer m n q st
    plays parts are o c l h e =
        ap Ok (e ∙ choice_is m L t st p n f parts are o h q l)
        ∙ sym (ap (λ o. play_of m o q) f.is ∙ cond-true _ _ _ (lt-ltb q m.states l) ∙ ap (choice_in m q) (book_is m L t st p n f ∙ ap (booked (book m L t st p n f)) h))

  pub no_rule : t.count ≤ n → Err NoRule ≡ play_answer m n q st
  no_rule e = sym (ap (λ o. play_of m o q) (gone m t st p n e))
