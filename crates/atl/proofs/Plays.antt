-- The playbook of a settled can-rule is a strategy for it.
use Rattle.std.proofs.Common.{◌≡◌, ℕ, zero, suc, ◌<◌, Bool, true, false, cond, not, ◌&&◌, eqb, is_some, Some, None, Option, sym, refl, ap, ◌∙◌, subst, ap₂, le_refl, arith}
use mathlib.Core.Path.{fun_ext}
use Rattle.std.proofs.lemmas.Bool.{false≢true, both_ways, cond-true, cond-false, ne_eqb}
use Rattle.game.specs.Structure.{Structure, Limits, Choice}
use Rattle.game.specs.Lists.{own}
use Rattle.game.specs.Serving.{first_serving}
use Rattle.game.specs.Reading.{EveryReply, Serving}
use Rattle.game.proofs.Joins.{box_lowest}
use Rattle.game.proofs.Division.{divided, box_choice, own_digits}
use Rattle.game.proofs.Bounding.{first_move}
use Rattle.game.proofs.Reading.{reads_serving}
use Rattle.atl.specs.declared.Kind.TheVariants.{Strategic}
use Rattle.atl.specs.declared.Modality.TheVariants.{Can}
use Rattle.atl.specs.declared.Temporal.{Temporal}
use Rattle.atl.specs.declared.Temporal.TheVariants.{Next, Until, Unless}
use Rattle.atl.specs.declared.Mark.{Mark}
use Rattle.atl.specs.declared.Mark.TheVariants.{Open, Yes, No}
use Rattle.atl.specs.Rounds.{is_yes, closed, holds, until_marks}
use Rattle.atl.specs.Strategy.{Run, Outcome, Strategy, MeetsUntilWithin}
use Rattle.atl.specs.Rules.{Formula, Satisfies}
use Rattle.atl.specs.Verdict.{Settled, final, yes}
use Rattle.atl.specs.Playbook.{all_first, or_else, keep_to, yes_below, yes_states, yes_states_below, play_at, playbook, EveryFirstMove}
use Rattle.atl.specs.Right.{KnowsParts, PlaysBook, EveryPlaybookRight}
use Rattle.atl.proofs.Attractor.{Inside, Obeys, toward, Good, good, reach}
use Rattle.atl.proofs.Dual.{dual, flip, without, neither, V, unless_flip, unless_yes}
use Rattle.atl.proofs.Steps.{serving_local}
use Rattle.atl.proofs.Bringing.{Serves, serves_obeys, inside}
use Rattle.atl.proofs.Right.{aim, run_right, goal_there}

-- closing an until changes no yes
closed_below : (n : ℕ) (x : Mark) → yes_below n (closed (Strategic Can Until) true x) ≡ yes_below n x
closed_below n Open = refl
closed_below n (Yes k) = refl
closed_below n (No k) = refl

module _ (m : Structure) (L : Limits m) (A p : ℕ) (in_m : p < m.states) where
  pub all_first_choice : Choice m A p (all_first m A p)
  all_first_choice = box_choice m A p L in_m _ (box_lowest (own m A p) 0 m.players (own_digits m A p L))

  -- c is a choice that keeps to I if any does
  abbrev pub Keeps : (ℕ → Bool) → ℕ → Type 0
  Keeps I c = Serves m (holds m Can A) true A p I c

  keeps_to : (I : ℕ → Bool) → Keeps I (keep_to m A p I)
  keeps_to I = go (first_serving m A p I) (reads_serving m A p I L in_m)
    where
      go : (o : Option ℕ) → Serving m A p I o → Choice m A p (or_else (all_first m A p) o) × (is_some o ≡ true → EveryReply m A p I true (or_else (all_first m A p) o))
      go None h = (all_first_choice, λ e. absurd (false≢true e))
      go (Some c) h = (h.0, λ e. h.1)

  -- where all is allowed, so is the first
  keeps_all : Keeps (λ t. true) (all_first m A p)
  keeps_all = (all_first_choice, λ e r h. let l = (divided m A p L in_m).leads (all_first m A p) r all_first_choice h in (l.0, l.1, refl))

  keeps_as : (I J : ℕ → Bool) (c d : ℕ) → Keeps J d → ((t : ℕ) → I t ≡ J t) → c ≡ d → Keeps I c
  keeps_as I J c d h e f = subst (Keeps I) (sym f) (subst (λ X. Keeps X d) (sym (fun_ext e)) h)

  module _ (l : ℕ) (R S : ℕ → Bool) (k : ℕ) where
    abbrev book : (o : Temporal) → Mark → ℕ
    book o = play_at m A (final m (Strategic Can o) A l R S k) R S o p

    next_keeps : (b : Bool) → holds m Can A p R ≡ b → Keeps R (book Next (closed (Strategic Can Next) true (cond b (Yes 0) (No 0))))
    next_keeps true e = keeps_to R
    next_keeps false e = (all_first_choice, λ h. absurd (both_ways _ e h))

    until_keeps : (x : Mark) → Keeps (λ t. toward x (until_marks (holds m Can A) R S k t)) (book Until (closed (Strategic Can Until) true x))
    until_keeps Open = keeps_all
    until_keeps (Yes zero) = keeps_all
    until_keeps (Yes (suc j)) =
        let I = yes_states_below (final m (Strategic Can Until) A l R S k) (suc j) in
        keeps_as (λ t. yes_below (suc j) (until_marks (holds m Can A) R S k t)) I _ (keep_to m A p I) (keeps_to I) (λ t. sym (closed_below (suc j) (until_marks (holds m Can A) R S k t)))
        (cond-false _ (all_first m A p) (keep_to m A p I) (ne_eqb (suc j) 0 (λ e. omega arith)))
    until_keeps (No n) = keeps_all

    unless_keeps : (x : Mark) → Good (dual (holds m Can A)) (without S) (neither R S) k p x → (s : Bool) → S p ≡ s
        → Keeps (λ t. not (cond (not s && not (is_yes x)) (is_yes (V (holds m Can A) R S k t)) false)) (book Unless (closed (Strategic Can Unless) true (flip x)))
    unless_keeps Open g true e = keeps_as (λ t. true) (λ t. true) _ (all_first m A p) keeps_all (λ t. refl) (cond-true (S p) _ _ e)
    unless_keeps Open g false e =
        let I = yes_states (final m (Strategic Can Unless) A l R S k) in
        keeps_as (λ t. not (is_yes (V (holds m Can A) R S k t))) I _ (keep_to m A p I) (keeps_to I) (λ t. sym (unless_yes (holds m Can A) R S Can k t)) (cond-false (S p) (all_first m A p) _ e)
    unless_keeps (Yes n) g true e = keeps_all
    unless_keeps (Yes n) g false e = keeps_all
    unless_keeps (No n) g s e = absurd g

  pub book_keeps : (l : ℕ) (R S : ℕ → Bool) (o : Temporal) (k : ℕ) → Settled m (Strategic Can o) A l R S k → Keeps (aim (holds m Can A) R S o k true p) (playbook m A (final m (Strategic Can o) A l R S k) R S o p)
  book_keeps l R S Next zero d = absurd (false≢true d)
  book_keeps l R S Next (suc k) d = next_keeps l R S (suc k) (holds m Can A p R) refl
  book_keeps l R S Until k d = until_keeps l R S k (until_marks (holds m Can A) R S k p)
  book_keeps l R S Unless k d =
      let hold = holds m Can A in
      keeps_as (aim (holds m Can A) R S Unless k true p) (aim (holds m Can A) R S Unless k true p) _ _
      (unless_keeps l R S k (V hold R S k p) (good (dual hold) (without S) (neither R S) k p) (S p) refl)
      (λ t. refl)
      (ap (λ x. book l R S k Unless (closed (Strategic Can Unless) true x)) (unless_flip hold R S k p))

-- the playbook looks at the states alone
module _ (m : Structure) (L : Limits m) (A q : ℕ) (in_m : q < m.states) (M M' : ℕ → Mark) (R R' S S' : ℕ → Bool)
    (same_M : (t : ℕ) → t < m.states → M t ≡ M' t) (same_R : (t : ℕ) → t < m.states → R t ≡ R' t) (same_S : (t : ℕ) → t < m.states → S t ≡ S' t) where
  keep_local : (X Y : ℕ → Bool) → ((t : ℕ) → t < m.states → X t ≡ Y t) → keep_to m A q X ≡ keep_to m A q Y
  keep_local X Y e = ap (or_else (all_first m A q)) (serving_local m L A q in_m X Y e)

  play_local : (o : Temporal) (x : Mark) → play_at m A M R S o q x ≡ play_at m A M' R' S' o q x
  play_local o Open = refl
  play_local Next (Yes n) = keep_local R R' same_R
  play_local Until (Yes n) = ap (cond (eqb n 0) (all_first m A q)) (keep_local (yes_states_below M n) (yes_states_below M' n) (λ t l. ap (yes_below n) (same_M t l)))
  play_local Unless (Yes n) = ap₂ (λ b c. cond b (all_first m A q) c) (same_S q in_m) (keep_local (yes_states M) (yes_states M') (λ t l. ap is_yes (same_M t l)))
  play_local o (No n) = refl

  pub playbook_local : (o : Temporal) → playbook m A M R S o q ≡ playbook m A M' R' S' o q
  playbook_local o = ap (play_at m A M R S o q) (same_M q in_m) ∙ play_local o (M' q)

-- the mark of an until is the one that its rounds gave
until_number : (x : Mark) (j : ℕ) → closed (Strategic Can Until) true x ≡ Yes j → x ≡ Yes j
until_number Open j e = absurd (let z : ◌≡◌ {A = ℕ} 0 1 = cc in omega arith)
until_number (Yes n) j e = e
until_number (No n) j e = absurd (let z : ◌≡◌ {A = ℕ} 0 1 = cc in omega arith)

module _ (m : Structure) (L : Limits m) (o : Temporal) (A l : ℕ) (r s : Formula) (R S : ℕ → Bool) (k : ℕ) (d : Settled m (Strategic Can o) A l R S k) (g : ℕ → ℕ) (plays : PlaysBook m A l o R S k g) where
  serves : (p : ℕ) → p < m.states → Serves m (holds m Can A) true A p (aim (holds m Can A) R S o k true p) (g p)
  serves p b = subst (Keeps m L A p b (aim (holds m Can A) R S o k true p)) (sym (plays p b)) (book_keeps m L A p b l R S o k d)

  pub book_strategy : Strategy m A g
  book_strategy p b = (serves p b).0

  module _ (q : ℕ) (in_m : q < m.states) (ρ : Run) (out : Outcome m A g q ρ) where
    stays_in : Inside m.states ρ
    stays_in = inside m L A g q ρ in_m book_strategy out

    obeys : Obeys (holds m Can A) true (aim (holds m Can A) R S o k true) ρ
    obeys = serves_obeys m L A (holds m Can A) true (aim (holds m Can A) R S o k true) g serves q ρ stays_in out

in_time : (m : Structure) (L : Limits m) (o : Temporal) (A l : ℕ) (r s : Formula) (R S : ℕ → Bool) (k : ℕ) → KnowsParts m (Strategic Can o) r s R S → (d : Settled m (Strategic Can o) A l R S k) (g : ℕ → ℕ) (plays : PlaysBook m A l o R S k g)
    → o ≡ Until → (q j : ℕ) → q < m.states → final m (Strategic Can o) A l R S k q ≡ Yes j → (ρ : Run) → Outcome m A g q ρ → MeetsUntilWithin j (Satisfies m r) (Satisfies m s) ρ
in_time m L Next A l r s R S k parts d g plays e q j in_m n ρ out = absurd (let z : ◌≡◌ {A = ℕ} 0 1 = cc in omega arith)
in_time m L Until A l r s R S k parts d g plays e q j in_m n ρ out =
    let hold = holds m Can A in
    let b = stays_in m L Until A l r s R S k d g plays q in_m ρ out in
    let u = reach hold R S k j ρ (obeys m L Until A l r s R S k d g plays q in_m ρ out) j (le_refl j) (ap (until_marks hold R S k) out.from ∙ until_number _ j n) in
    (u.0, u.1, (parts.1 (ρ u.0) (b u.0)).0 u.2, λ i h. (parts.0 (ρ i) (b i)).0 (u.3 i h))
in_time m L Unless A l r s R S k parts d g plays e q j in_m n ρ out = absurd (let z : ◌≡◌ {A = ℕ} 0 1 = cc in omega arith)

pub playbook_right : EveryPlaybookRight
playbook_right m L o A l r s R S k parts d g plays = record {
  is_strategy = book_strategy m L o A l r s R S k d g plays;
  forces = λ q in_m e ρ out.
      let b = stays_in m L o A l r s R S k d g plays q in_m ρ out in
      goal_there m Can r s R S ρ b o parts (run_right m L Can A l R S o k d true ρ b (ap (yes m (Strategic Can o) A l R S k) out.from ∙ e) (obeys m L o A l r s R S k d g plays q in_m ρ out));
  in_time = in_time m L o A l r s R S k parts d g plays;
}

pub every_first_move : EveryFirstMove
every_first_move m L A = record { is_strategy = λ q l. all_first_choice m L A q l; one = λ q a l p i. first_move m L A q l a p i }
