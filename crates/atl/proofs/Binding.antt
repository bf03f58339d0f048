-- The rule of a bound group.
use Rattle.std.proofs.Common.{◌≡◌, ℕ, ◌<◌, true, not, ◌⊎◌, Decides, sym, refl, ap, ◌∙◌, subst, ap₂}
use mathlib.Core.Path.{fun_ext}
use Rattle.std.proofs.lemmas.Bool.Decides.{same_from_decides, Decides-like}
use Rattle.game.specs.Structure.{Structure, Limits, Choice}
use Rattle.game.specs.Bound.{bound}
use Rattle.game.proofs.Division.{divided}
use Rattle.game.proofs.Bounding.{bound_limits, step_there, step_back, nobody_chooses}
use Rattle.atl.specs.declared.Kind.{Kind}
use Rattle.atl.specs.declared.Kind.TheVariants.{Strategic}
use Rattle.atl.specs.declared.Mark.{Mark}
use Rattle.atl.specs.declared.Modality.TheVariants.{Can}
use Rattle.atl.specs.declared.Temporal.{Temporal}
use Rattle.atl.specs.declared.Temporal.TheVariants.{Next, Until, Unless}
use Rattle.atl.specs.Rounds.{is_yes, closed, marks}
use Rattle.atl.specs.Strategy.{Run, Goal, Set, Step, Strategy, Outcome, MeetsNext, SomeStrategyForces}
use Rattle.atl.specs.Rules.{Formula, Satisfies, goal}
use Rattle.atl.specs.Rules.Formula.{label, neg, or, next, until, unless}
use Rattle.atl.specs.Verdict.{yes, is_no}
use Rattle.atl.specs.Playbook.{all_first}
use Rattle.atl.specs.Binding.{Plain, PlainParts, BindingRight}
use Rattle.atl.proofs.Bringing.{inside}
use Rattle.atl.proofs.Settle.{settling}
use Rattle.atl.proofs.Right.{can_right, closed_no}
use Rattle.atl.proofs.Plays.{all_first_choice, playbook_right}

-- a plain rule is true at the same states
module _ (m : Structure) (A : ℕ) (g : ℕ → ℕ) where
  plain_at : (r : Formula) → Plain r → (q : ℕ) → ◌≡◌ {A = Type 0} (Satisfies (bound m A g) r q) (Satisfies m r q)
  plain_at (label l) p q = refl
  plain_at (neg r) p q = ap (λ X. X → ⊥) (plain_at r p q)
  plain_at (or r s) p q = ap₂ (λ X Y. X ⊎ Y) (plain_at r p.0 q) (plain_at s p.1 q)
  plain_at (next w B r) p q = absurd p
  plain_at (until w B r s) p q = absurd p
  plain_at (unless w B r s) p q = absurd p

  plain_same : (r : Formula) → Plain r → ◌≡◌ {A = Set} (Satisfies (bound m A g) r) (Satisfies m r)
  plain_same r p = fun_ext (plain_at r p)

  goal_same : (o : Temporal) (r s : Formula) → PlainParts o r s → ◌≡◌ {A = Goal} (goal o (Satisfies (bound m A g) r) (Satisfies (bound m A g) s)) (goal o (Satisfies m r) (Satisfies m s))
  goal_same Next r s p = ap MeetsNext (plain_same r p)
  goal_same Until r s p = ap₂ (goal Until) (plain_same r p.0) (plain_same s p.1)
  goal_same Unless r s p = ap₂ (goal Unless) (plain_same r p.0) (plain_same s p.1)

-- nobody's outcomes in the bound game are the outcomes of g
module _ (m : Structure) (L : Limits m) (A : ℕ) (g : ℕ → ℕ) (is : Strategy m A g) (h : ℕ → ℕ) (idle : Strategy (bound m A g) 0 h) (q : ℕ) (in_m : q < m.states) (ρ : Run) where
  outcome_there : Outcome (bound m A g) 0 h q ρ → Outcome m A g q ρ
  outcome_there o = record {
    from = o.from;
    steps = λ i.
        let b = inside (bound m A g) (bound_limits m A g L) 0 h q ρ in_m idle o i in
        let s = o.steps i in
        let y = step_there m L A g (ρ i) b (is (ρ i) b) (h (ρ i)) (idle (ρ i) b) s.0 s.1 in
        (y.0, y.1, sym y.2 ∙ s.2);
  }

  outcome_back : Outcome m A g q ρ → Outcome (bound m A g) 0 h q ρ
  outcome_back o = record {
    from = o.from;
    steps = λ i.
        let b = inside m L A g q ρ in_m is o i in
        let s = o.steps i in
        let x = step_back m L A g (ρ i) b (is (ρ i) b) (h (ρ i)) (idle (ρ i) b) s.0 s.1 in
        (x.0, x.1, x.2 ∙ s.2);
  }

module _ (m : Structure) (L : Limits m) (A : ℕ) (g : ℕ → ℕ) (is : Strategy m A g) (G : Goal) (q : ℕ) (in_m : q < m.states) where
  forces_there : SomeStrategyForces (bound m A g) 0 G q → SomeStrategyForces m A G q
  forces_there c = (g, is, λ ρ out. c.2 ρ (outcome_back m L A g is c.0 c.1 q in_m ρ out))

  forces_back : ((ρ : Run) → Outcome m A g q ρ → G ρ) → SomeStrategyForces (bound m A g) 0 G q
  forces_back f =
      let idle : Strategy (bound m A g) 0 (all_first (bound m A g) 0) = λ p b. all_first_choice (bound m A g) (bound_limits m A g L) 0 p b in
      (all_first (bound m A g) 0, idle, λ ρ out. f ρ (outcome_there m L A g is (all_first (bound m A g) 0) idle q in_m ρ out))

-- nobody's choice is 0
idle_choice : (m : Structure) → Limits m → (q : ℕ) → q < m.states → Choice m 0 q 0
idle_choice m L q in_m = let c = (divided m 0 q L in_m).some_choice in subst (Choice m 0 q) (nobody_chooses m q c.0 c.1) c.1

steps : (m : Structure) → Limits m → (A : ℕ) (g : ℕ → ℕ) → Strategy m A g → (q t : ℕ) → q < m.states → (Step (bound m A g) 0 q 0 t → Step m A q (g q) t) × (Step m A q (g q) t → Step (bound m A g) 0 q 0 t)
steps m L A g is q t in_m =
    let idle = idle_choice (bound m A g) (bound_limits m A g L) q in_m in (
      λ s. let y = step_there m L A g q in_m (is q in_m) 0 idle s.0 s.1 in (y.0, y.1, sym y.2 ∙ s.2),
      λ s. let x = step_back m L A g q in_m (is q in_m) 0 idle s.0 s.1 in (x.0, x.1, x.2 ∙ s.2),
    )

-- the no states follow from the yes states
same_no : (f : Kind) (x y : Mark) → is_yes (closed f true x) ≡ is_yes (closed f true y) → is_no (closed f true x) ≡ is_no (closed f true y)
same_no f x y e = closed_no f x ∙ ap not e ∙ sym (closed_no f y)

pub binding_right : BindingRight
binding_right = record {
  limits = bound_limits;
  steps = steps;
  settles = λ m L o A i R' S' g. (settling (bound m A g) (bound_limits m A g L) (Strategic Can o) 0 i R' S').comes;
  same = λ m L o A l i r s R S R' S' k j g plain plays parts d parts' d' q in_m.
      let G = goal o (Satisfies m r) (Satisfies m s) in
      let book = playbook_right m L o A l r s R S k parts d g plays in
      let answer = yes (bound m A g) (Strategic Can o) 0 i R' S' j q in
      let free = (can_right m L o A l r s R S k parts d q in_m).yes_right in
      let tied : Decides answer (SomeStrategyForces (bound m A g) 0 G q) =
      subst (λ X. Decides answer (SomeStrategyForces (bound m A g) 0 X q)) (goal_same m A g o r s plain) (can_right (bound m A g) (bound_limits m A g L) o 0 i r s R' S' j parts' d' q in_m).yes_right in
      let e =
      same_from_decides answer (yes m (Strategic Can o) A l R S k q)
      (Decides-like answer (forces_there m L A g book.is_strategy G q in_m) (λ c. forces_back m L A g book.is_strategy G q in_m (book.forces q in_m (free.1 c))) tied)
      free in
      (e, same_no (Strategic Can o) (marks (bound m A g) (Strategic Can o) 0 i R' S' j q) (marks m (Strategic Can o) A l R S k q) e);
}
