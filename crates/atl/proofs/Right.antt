-- The answers of a settled rule are right.
use Rattle.std.proofs.Common.{◌≡◌, ℕ, zero, suc, ◌+◌, ◌<◌, Bool, true, false, not, List, [], ◌∷◌, Decides, sym, refl, ap, ◌∙◌, subst, inl, inr, ⊎_elim, arith}
use Rattle.std.proofs.lemmas.Bool.{cases_lt, both_ways, eqb-true, not-true, false≢true}
use Rattle.std.proofs.lemmas.Bool.Decides.{Decides-at, Decides-not, Decides-eqb, Decides-or}
use Rattle.game.specs.Structure.{Structure, Limits}
use Rattle.atl.specs.declared.Kind.{Kind}
use Rattle.atl.specs.declared.Kind.TheVariants.{Label, Not, Or, Strategic}
use Rattle.atl.specs.declared.Modality.{Modality}
use Rattle.atl.specs.declared.Modality.TheVariants.{Can, Despite}
use Rattle.atl.specs.declared.Temporal.{Temporal}
use Rattle.atl.specs.declared.Temporal.TheVariants.{Next, Until, Unless}
use Rattle.atl.specs.declared.Mark.{Mark}
use Rattle.atl.specs.declared.Mark.TheVariants.{Open, Yes, No}
use Rattle.atl.specs.Rounds.{Power, is_open, is_yes, once, closed, until_marks, marks, holds, tally, labelled}
use Rattle.atl.specs.Strategy.{Run, Set, Goal, Outcome, Remembered, Misses, SomeStrategyForces, SomeRememberingForces, EachStrategyAllows, EachRememberingAllows}
use Rattle.atl.specs.Rules.{Formula, Satisfies, Strategically, goal, rule}
use Rattle.atl.specs.Rules.Formula.{label, neg, or, next, until, unless}
use Rattle.atl.specs.Verdict.{Settled, yes, is_no, verdict, nowhere}
use Rattle.atl.specs.Settling.{Enough}
use Rattle.atl.specs.Right.{KnowsParts, EveryRuleRight, EveryMarkRight, CanRight, EveryCanRight, DespiteRight, EveryDespiteRight, EveryVerdictRight}
use Rattle.atl.proofs.Attractor.{IsTrue, Meets, Inside, Obeys, until_aim, until_run}
use Rattle.atl.proofs.Dual.{dual, without, neither, newly_flip, unless_yes, unless_aim, unless_run, not_not}
use Rattle.atl.proofs.Steps.{local, fair}
use Rattle.atl.proofs.Bringing.{Comes, comes}
use Rattle.atl.proofs.Settle.{silent_quiet, quiet_next, dual_local, dual_fair, settling}

-- marks that a round decides, and those of an until
pub once_yes : (f : Kind) (b : Bool) (k : ℕ) → is_yes (closed f true (once b (suc k))) ≡ b
once_yes f true k = refl
once_yes f false k = refl

pub until_yes : (w : Modality) (x : Mark) → is_yes (closed (Strategic w Until) true x) ≡ is_yes x
until_yes w Open = refl
until_yes w (Yes n) = refl
until_yes w (No n) = refl

-- a settled rule says yes or no
pub closed_no : (f : Kind) (x : Mark) → is_no (closed f true x) ≡ not (is_yes (closed f true x))
closed_no Label Open = refl
closed_no Not Open = refl
closed_no Or Open = refl
closed_no (Strategic w Next) Open = refl
closed_no (Strategic w Until) Open = refl
closed_no (Strategic w Unless) Open = refl
closed_no f (Yes n) = refl
closed_no f (No n) = refl

-- a goal over sets that agree along the run
goal_same : (o : Temporal) (R R' S S' : Set) (ρ : Run) → ((i : ℕ) → R (ρ i) → R' (ρ i)) → ((i : ℕ) → S (ρ i) → S' (ρ i)) → goal o R S ρ → goal o R' S' ρ
goal_same Next R R' S S' ρ f g h = f 1 h
goal_same Until R R' S S' ρ f g h = (h.0, g h.0 h.1, λ i l. f i (h.2 i l))
goal_same Unless R R' S S' ρ f g h = λ i. ⊎_elim (λ r. inl (f i r)) (λ x. inr (⊎_elim (λ s. inl (g i s)) (λ y. inr (y.0, y.1, g y.0 y.2)) x)) (h i)

module _ (m : Structure) (w : Modality) (r s : Formula) (R S : ℕ → Bool) (ρ : Run) (b : Inside m.states ρ) where
  pub goal_there : (o : Temporal) → KnowsParts m (Strategic w o) r s R S → goal o (IsTrue R) (IsTrue S) ρ → goal o (Satisfies m r) (Satisfies m s) ρ
  goal_there Next k h = (k (ρ 1) (b 1)).0 h
  goal_there Until k h = goal_same Until (IsTrue R) (Satisfies m r) (IsTrue S) (Satisfies m s) ρ (λ i. (k.0 (ρ i) (b i)).0) (λ i. (k.1 (ρ i) (b i)).0) h
  goal_there Unless k h = goal_same Unless (IsTrue R) (Satisfies m r) (IsTrue S) (Satisfies m s) ρ (λ i. (k.0 (ρ i) (b i)).0) (λ i. (k.1 (ρ i) (b i)).0) h

  goal_back : (o : Temporal) → KnowsParts m (Strategic w o) r s R S → goal o (Satisfies m r) (Satisfies m s) ρ → goal o (IsTrue R) (IsTrue S) ρ
  goal_back Next k h = (k (ρ 1) (b 1)).1 h
  goal_back Until k h = goal_same Until (Satisfies m r) (IsTrue R) (Satisfies m s) (IsTrue S) ρ (λ i. (k.0 (ρ i) (b i)).1) (λ i. (k.1 (ρ i) (b i)).1) h
  goal_back Unless k h = goal_same Unless (Satisfies m r) (IsTrue R) (Satisfies m s) (IsTrue S) ρ (λ i. (k.0 (ρ i) (b i)).1) (λ i. (k.1 (ρ i) (b i)).1) h

  meets_there : (o : Temporal) → KnowsParts m (Strategic w o) r s R S → (a : Bool) → Meets a (goal o (IsTrue R) (IsTrue S)) ρ → Meets a (goal o (Satisfies m r) (Satisfies m s)) ρ
  meets_there o k true h = goal_there o k h
  meets_there o k false h = λ g. h (goal_back o k g)

-- where the runs are to lead when a rule answers a
abbrev pub aim : Power → (R S : ℕ → Bool) → Temporal → ℕ → Bool → ℕ → ℕ → Bool
aim hold R S Next k a q t = R t
aim hold R S Until k a q t = until_aim hold R S k a q t
aim hold R S Unless k a q t = unless_aim hold R S k a q t

module _ (m : Structure) (L : Limits m) (w : Modality) (A l : ℕ) (R S : ℕ → Bool) where
  next_run : (a : Bool) (ρ : Run) → R (ρ 1) ≡ a → Meets a (goal Next (IsTrue R) (IsTrue S)) ρ
  next_run true ρ e = e
  next_run false ρ e = both_ways (R (ρ 1)) e

  -- a run that obeys the aim meets the goal, or does not, as the rule answers at its first state
  pub run_right : (o : Temporal) (k : ℕ) → Settled m (Strategic w o) A l R S k → (a : Bool) (ρ : Run) → Inside m.states ρ → yes m (Strategic w o) A l R S k (ρ 0) ≡ a → Obeys (holds m w A) a (aim (holds m w A) R S o k a) ρ
      → Meets a (goal o (IsTrue R) (IsTrue S)) ρ
  run_right Next zero d a ρ b e f = absurd (false≢true d)
  run_right Next (suc k) d a ρ b e f = next_run a ρ (f 0 (sym (once_yes (Strategic w Next) (holds m w A (ρ 0) R) k) ∙ e))
  run_right Until zero d a ρ b e f = absurd (false≢true d)
  run_right Until (suc k) d a ρ b e f =
      let hold = holds m w A in
      until_run hold R S m.states k (quiet_next hold R S m.states (local m L w A) (fair m L w A) k (silent_quiet hold R S m.states k (eqb-true _ 0 d))) a ρ b f (sym (until_yes w (until_marks hold R S (suc k) (ρ 0))) ∙ e)
  run_right Unless zero d a ρ b e f = absurd (false≢true d)
  run_right Unless (suc k) d a ρ b e f =
      let hold = holds m w A in
      let quiet = silent_quiet (dual hold) (without S) (neither R S) m.states k (sym (ap (λ p. tally p m.states) (newly_flip hold R S k)) ∙ eqb-true _ 0 d) in
      unless_run R S ρ hold m.states k
      (quiet_next (dual hold) (without S) (neither R S) m.states (dual_local m.states hold (local m L w A)) (dual_fair m.states hold (fair m L w A)) k quiet)
      a b f (sym (not_not _) ∙ ap not (sym (unless_yes hold R S w (suc k) (ρ 0)) ∙ e))

  -- so one side brings about the goal where the rule says yes, and the other its opposite where it says no
  pub answer_comes : (r s : Formula) (o : Temporal) (k : ℕ) → KnowsParts m (Strategic w o) r s R S → Settled m (Strategic w o) A l R S k → (q : ℕ) → q < m.states → (a : Bool) → yes m (Strategic w o) A l R S k q ≡ a
      → Comes m w A a (Meets a (goal o (Satisfies m r) (Satisfies m s))) q
  answer_comes r s o k parts d q in_m a e =
      comes m L A w a (aim (holds m w A) R S o k a) (Meets a (goal o (Satisfies m r) (Satisfies m s))) q in_m
      (λ ρ from b f. meets_there m w r s R S ρ b o parts a (run_right o k d a ρ b (ap (yes m (Strategic w o) A l R S k) from ∙ e) f))

-- a strategy that makes no use of its memory
abbrev by_head : (ℕ → ℕ) → List ℕ → ℕ
by_head f [] = 0
by_head f (q ∷ before) = f q

module _ (m : Structure) (A : ℕ) (G : Goal) (q : ℕ) where
  outcome_of : (f : ℕ → ℕ) (ρ : Run) → Remembered m A (by_head f) q ρ → Outcome m A f q ρ
  outcome_of f ρ o = record { from = o.from; steps = elim [ zero ↦ o.steps 0 | suc i ↦ o.steps (suc i) ] }

  remember : SomeStrategyForces m A G q → SomeRememberingForces m A G q
  remember s = (by_head s.0, λ p before b. s.1 p b, λ ρ o. s.2 ρ (outcome_of s.0 ρ o))

  forget : EachRememberingAllows m A G q → EachStrategyAllows m A G q
  forget h f s = let r = h (by_head f) (λ p before b. s p b) in (r.0, outcome_of f r.0 r.1, r.2)

  not_both : EachRememberingAllows m A (Misses G) q → SomeRememberingForces m A G q → ⊥
  not_both h s = let r = h s.0 s.1 in r.2 (s.2 r.0 r.1)

  not_allowed : SomeStrategyForces m A (Misses G) q → EachStrategyAllows m A G q → ⊥
  not_allowed s h = let r = h s.0 s.1 in s.2 r.0 r.1 r.2

decided : (b : Bool) (P : Type 0) → (b ≡ true → P) → (b ≡ false → P → ⊥) → Decides b P
decided true P f g = (f, λ p. refl)
decided false P f g = (f, λ p. absurd (g refl p))

no_decided : (f : Kind) (x : Mark) (P : Type 0) → Decides (is_yes (closed f true x)) P → Decides (is_no (closed f true x)) (P → ⊥)
no_decided f x P d = Decides-at (is_no (closed f true x)) _ (closed_no f x) (Decides-not _ d)

no_not_yes : (f : Kind) (x : Mark) → is_no (closed f true x) ≡ true → is_yes (closed f true x) ≡ false
no_not_yes f x e = not-true _ (sym (closed_no f x) ∙ e)

module _ (m : Structure) (L : Limits m) (o : Temporal) (A l : ℕ) (r s : Formula) (R S : ℕ → Bool) (k q : ℕ) (in_m : q < m.states) where
  abbrev G : Goal
  G = goal o (Satisfies m r) (Satisfies m s)

  module _ (parts : KnowsParts m (Strategic Can o) r s R S) (d : Settled m (Strategic Can o) A l R S k) where
    a_yes : yes m (Strategic Can o) A l R S k q ≡ true → SomeStrategyForces m A G q
    a_yes e = answer_comes m L Can A l R S r s o k parts d q in_m true e

    a_miss : yes m (Strategic Can o) A l R S k q ≡ false → EachRememberingAllows m A (Misses G) q
    a_miss e = answer_comes m L Can A l R S r s o k parts d q in_m false e

    a_no : yes m (Strategic Can o) A l R S k q ≡ false → SomeRememberingForces m A G q → ⊥
    a_no e = not_both m A G q (a_miss e)

    pub can_decides : Decides (yes m (Strategic Can o) A l R S k q) (SomeStrategyForces m A G q)
    can_decides = decided (yes m (Strategic Can o) A l R S k q) _ a_yes (λ e c. a_no e (remember m A G q c))

    can_remembering : Decides (yes m (Strategic Can o) A l R S k q) (SomeRememberingForces m A G q)
    can_remembering = decided (yes m (Strategic Can o) A l R S k q) _ (λ e. remember m A G q (a_yes e)) a_no

    can_here : CanRight m A l o r s R S k q
    can_here = record {
      yes_right = can_decides;
      no_right = no_decided (Strategic Can o) (marks m (Strategic Can o) A l R S k q) _ can_remembering;
      missed = λ e. a_miss (no_not_yes (Strategic Can o) (marks m (Strategic Can o) A l R S k q) e);
    }

  module _ (parts : KnowsParts m (Strategic Despite o) r s R S) (d : Settled m (Strategic Despite o) A l R S k) where
    d_yes : yes m (Strategic Despite o) A l R S k q ≡ true → EachRememberingAllows m A G q
    d_yes e = answer_comes m L Despite A l R S r s o k parts d q in_m true e

    d_miss : yes m (Strategic Despite o) A l R S k q ≡ false → SomeStrategyForces m A (Misses G) q
    d_miss e = answer_comes m L Despite A l R S r s o k parts d q in_m false e

    d_no : yes m (Strategic Despite o) A l R S k q ≡ false → EachStrategyAllows m A G q → ⊥
    d_no e = not_allowed m A G q (d_miss e)

    despite_decides : Decides (yes m (Strategic Despite o) A l R S k q) (EachStrategyAllows m A G q)
    despite_decides = decided (yes m (Strategic Despite o) A l R S k q) _ (λ e. forget m A G q (d_yes e)) d_no

    despite_here : DespiteRight m A l o r s R S k q
    despite_here = record {
      yes_right = decided (yes m (Strategic Despite o) A l R S k q) _ d_yes (λ e h. d_no e (forget m A G q h));
      no_right = no_decided (Strategic Despite o) (marks m (Strategic Despite o) A l R S k q) _ despite_decides;
      missed = λ e. d_miss (no_not_yes (Strategic Despite o) (marks m (Strategic Despite o) A l R S k q) e);
    }

pub can_right : EveryCanRight
can_right m L o A l r s R S k parts d q in_m = can_here m L o A l r s R S k q in_m parts d

pub despite_right : EveryDespiteRight
despite_right m L o A l r s R S k parts d q in_m = despite_here m L o A l r s R S k q in_m parts d

-- a strategic rule, by its word
strategic_decides : (m : Structure) → Limits m → (w : Modality) (o : Temporal) (A l : ℕ) (r s : Formula) (R S : ℕ → Bool) (k : ℕ) → KnowsParts m (Strategic w o) r s R S → Settled m (Strategic w o) A l R S k
    → (q : ℕ) → q < m.states → Decides (yes m (Strategic w o) A l R S k q) (Strategically w m A (goal o (Satisfies m r) (Satisfies m s)) q)
strategic_decides m L Can o A l r s R S k parts d q in_m = can_decides m L o A l r s R S k q in_m parts d
strategic_decides m L Despite o A l r s R S k parts d q in_m = despite_decides m L o A l r s R S k q in_m parts d

pub rule_decides : (m : Structure) → Limits m → (f : Kind) (A l : ℕ) (r s : Formula) (R S : ℕ → Bool) (k : ℕ) → KnowsParts m f r s R S → Settled m f A l R S k
    → (q : ℕ) → q < m.states → Decides (yes m f A l R S k q) (Satisfies m (rule f A l r s) q)
rule_decides m L f A l r s R S zero parts d q in_m = absurd (false≢true d)
rule_decides m L Label A l r s R S (suc k) parts d q in_m = Decides-at _ _ (once_yes Label (labelled m l q) k) (Decides-eqb _ 1)
rule_decides m L Not A l r s R S (suc k) parts d q in_m = Decides-at _ _ (once_yes Not _ k) (Decides-not (R q) (parts q in_m))
rule_decides m L Or A l r s R S (suc k) parts d q in_m = Decides-at _ _ (once_yes Or _ k) (Decides-or (R q) (S q) (parts.0 q in_m) (parts.1 q in_m))
rule_decides m L (Strategic w Next) A l r s R S (suc k) parts d q in_m = strategic_decides m L w Next A l r s R S (suc k) parts d q in_m
rule_decides m L (Strategic w Until) A l r s R S (suc k) parts d q in_m = strategic_decides m L w Until A l r s R S (suc k) parts d q in_m
rule_decides m L (Strategic w Unless) A l r s R S (suc k) parts d q in_m = strategic_decides m L w Unless A l r s R S (suc k) parts d q in_m

pub rule_right : EveryRuleRight
rule_right m L f A l r s R S k parts d q in_m =
    let e = rule_decides m L f A l r s R S k parts d q in_m in
    record { yes_right = e; no_right = no_decided f (marks m f A l R S k q) _ e }

-- a rule is settled after one round more than there are states
pub settled_last : (m : Structure) → Limits m → (f : Kind) (A l : ℕ) (R S : ℕ → Bool) → Settled m f A l R S (suc m.states)
settled_last m L f A l R S = let c = settling m L f A l R S in (c.lasts c.comes.0 (suc m.states) c.comes.2 c.comes.1).0

-- the mark that a round gives is the one after the last round
module _ (m : Structure) (L : Limits m) (f : Kind) (A l : ℕ) (R S : ℕ → Bool) (k q : ℕ) (in_m : q < m.states) where
  last_mark : is_open (marks m f A l R S k q) ≡ false → marks m f A l R S (suc m.states) q ≡ marks m f A l R S k q
  last_mark e =
      let c = settling m L f A l R S in
      ⊎_elim
      (λ h. c.kept k (suc m.states) q (omega arith) e)
      (λ h. sym ((c.lasts (suc m.states) k (settled_last m L f A l R S) h).1 q in_m))
      (cases_lt k (suc m.states))

  last_yes : (x : Mark) → is_yes x ≡ true → (is_open x ≡ false) × (is_yes (closed f true x) ≡ true)
  last_yes Open e = absurd (false≢true e)
  last_yes (Yes n) e = (refl, refl)
  last_yes (No n) e = absurd (false≢true e)

  last_no : (x : Mark) → is_no x ≡ true → (is_open x ≡ false) × (is_no (closed f true x) ≡ true)
  last_no Open e = absurd (false≢true e)
  last_no (Yes n) e = absurd (false≢true e)
  last_no (No n) e = (refl, refl)

pub mark_right : EveryMarkRight
mark_right m L f A l r s R S k parts q in_m =
    let e = rule_right m L f A l r s R S (suc m.states) parts (settled_last m L f A l R S) q in_m in
    let x = marks m f A l R S k q in
    record {
      yes_right = λ h. let p = last_yes m L f A l R S k q in_m x h in e.yes_right.0 (ap (λ y. is_yes (closed f true y)) (last_mark m L f A l R S k q in_m p.0) ∙ p.1);
      no_right = λ h. let p = last_no m L f A l R S k q in_m x h in e.no_right.0 (ap (λ y. is_no (closed f true y)) (last_mark m L f A l R S k q in_m p.0) ∙ p.1);
    }

pub enough : (n : ℕ) → Enough n (n + 1)
enough n m L e f A l R S = let i : suc m.states ≡ n + 1 = omega arith in subst (Settled m f A l R S) i (settled_last m L f A l R S)

pub verdict_right : EveryVerdictRight
verdict_right m L (label l) = rule_decides m L Label 0 l (label l) (label l) nowhere nowhere (suc m.states) tt (settled_last m L Label 0 l nowhere nowhere)
verdict_right m L (neg r) = rule_decides m L Not 0 0 r r (verdict m r) nowhere (suc m.states) (verdict_right m L r) (settled_last m L Not 0 0 (verdict m r) nowhere)
verdict_right m L (or r s) = rule_decides m L Or 0 0 r s (verdict m r) (verdict m s) (suc m.states) (verdict_right m L r, verdict_right m L s) (settled_last m L Or 0 0 (verdict m r) (verdict m s))
verdict_right m L (next w A r) = rule_decides m L (Strategic w Next) A 0 r r (verdict m r) nowhere (suc m.states) (verdict_right m L r) (settled_last m L (Strategic w Next) A 0 (verdict m r) nowhere)
verdict_right m L (until w A r s) = rule_decides m L (Strategic w Until) A 0 r s (verdict m r) (verdict m s) (suc m.states) (verdict_right m L r, verdict_right m L s) (settled_last m L (Strategic w Until) A 0 (verdict m r) (verdict m s))
verdict_right m L (unless w A r s) = rule_decides m L (Strategic w Unless) A 0 r s (verdict m r) (verdict m s) (suc m.states) (verdict_right m L r, verdict_right m L s) (settled_last m L (Strategic w Unless) A 0 (verdict m r) (verdict m s))
