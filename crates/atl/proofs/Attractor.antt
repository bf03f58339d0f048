-- The rounds of an until over any power, and what they say of one run.
use Rattle.std.proofs.Common.{◌≡◌, ℕ, zero, suc, ◌<◌, ◌≤◌, Bool, true, false, cond, not, ◌&&◌, ◌⊎◌, sym, refl, ap, ◌∙◌, subst, inl, inr, ⊎_elim, suc-le-suc, zero-le, le_refl, le_of_suc-le-suc, arith}
use mathlib.Core.Path.{fun_ext}
use Rattle.std.proofs.lemmas.Bool.{cases_Bool, and_parts, and_from, both_ways, cases_lt, le-ltb, lt-ltb, ltb-true, not_from_false, true≢false, false≢true}
use Rattle.atl.specs.declared.Mark.{Mark}
use Rattle.atl.specs.declared.Mark.TheVariants.{Open, Yes, No}
use Rattle.atl.specs.Rounds.{Power, is_open, is_yes, until_marks}
use Rattle.atl.specs.Strategy.{Run, Goal, MeetsUntil, MeetsUntilWithin}
use Rattle.atl.specs.Playbook.{yes_below}

abbrev pub IsTrue : (ℕ → Bool) → ℕ → Type 0
IsTrue X q = X q ≡ true

-- the run meets the goal, or does not
abbrev pub Meets : Bool → Goal → Goal
Meets true G ρ = G ρ
Meets false G ρ = G ρ → ⊥

abbrev pub Inside : ℕ → Run → Type 0
Inside n ρ = (i : ℕ) → ρ i < n

-- T names an aim for each state. Wherever the power answers a for the aim, the next state is where the aim is a.
abbrev pub Obeys : Power → Bool → (ℕ → ℕ → Bool) → Run → Type 0
Obeys hold a T ρ = (i : ℕ) → hold (ρ i) (T (ρ i)) ≡ a → T (ρ i) (ρ (suc i)) ≡ a

-- round k + 1 marks none of the first n states
abbrev pub Quiet : ℕ → (ℕ → ℕ → Mark) → ℕ → Type 0
Quiet n M k = (q : ℕ) → q < n → M (suc k) q ≡ M k q

-- a yes leads to a yes of lower number; nothing is asked of any other state
abbrev pub toward : Mark → Mark → Bool
toward Open x = true
toward (Yes zero) x = true
toward (Yes (suc n)) x = yes_below (suc n) x
toward (No n) x = true

is_open_eq : (x : Mark) → is_open x ≡ true → x ≡ Open
is_open_eq Open h = refl
is_open_eq (Yes j) h = absurd (false≢true h)
is_open_eq (No j) h = absurd (false≢true h)

pub is_yes_eq : (x : Mark) → is_yes x ≡ true → (j : ℕ) × (x ≡ Yes j)
is_yes_eq Open h = absurd (false≢true h)
is_yes_eq (Yes j) h = (j, refl)
is_yes_eq (No j) h = absurd (false≢true h)

below_true : (j : ℕ) (x : Mark) → yes_below j x ≡ true → (i : ℕ) × (i < j) × (x ≡ Yes i)
below_true j Open h = absurd (false≢true h)
below_true j (Yes i) h = (i, ltb-true i j h, refl)
below_true j (No i) h = absurd (false≢true h)

module _ (hold : Power) (R S : ℕ → Bool) where
  abbrev M : ℕ → ℕ → Mark
  M = until_marks hold R S

  -- why a state has its number
  abbrev Reason : ℕ → ℕ → Type 0
  Reason zero q = S q ≡ true
  Reason (suc j) q = (R q ≡ true) × (hold q (λ t. is_yes (M (suc j) t)) ≡ true)

  -- what the mark x of q after k rounds says
  abbrev pub Good : ℕ → ℕ → Mark → Type 0
  Good k q Open = Unit {0}
  Good k q (Yes j) = (j < k) × Reason j q
  Good k q (No j) = ⊥

  good_more : (k q : ℕ) (x : Mark) → Good k q x → Good (suc k) q x
  good_more k q Open g = tt
  good_more k q (Yes j) g = (omega (arith, g.0), g.1)
  good_more k q (No j) g = g

  pub good : (k q : ℕ) → Good k q (M k q)
  good zero q = tt
  good (suc zero) q = ⊎_elim (λ e. rw e (omega arith, e)) (λ e. rw e tt) (cases_Bool (S q))
  good (suc (suc k)) q =
      let g = good_more (suc k) q (M (suc k) q) (good (suc k) q) in
      ⊎_elim
      (λ e. rw e (omega arith, and_parts (R q) (hold q (λ t. is_yes (M (suc k) t))) (and_parts (is_open (M (suc k) q)) _ e).1))
      (λ e. rw e g)
      (cases_Bool (is_open (M (suc k) q) && (R q && hold q (λ t. is_yes (M (suc k) t)))))

  -- a round keeps the mark of a state, or gives it its own number
  pub step_cases : (k q : ℕ) → (M (suc k) q ≡ M k q) ⊎ ((M (suc k) q ≡ Yes k) × (M k q ≡ Open))
  step_cases zero q = ⊎_elim (λ e. inr (rw e, refl)) (λ e. inl (rw e)) (cases_Bool (S q))
  step_cases (suc k) q =
      ⊎_elim
      (λ e. inr (rw e, is_open_eq (M (suc k) q) (and_parts (is_open (M (suc k) q)) _ e).0))
      (λ e. inl (rw e))
      (cases_Bool (is_open (M (suc k) q) && (R q && hold q (λ t. is_yes (M (suc k) t)))))

  all_below : (k q : ℕ) (x : Mark) → Good k q x → yes_below k x ≡ is_yes x
  all_below k q Open g = refl
  all_below k q (Yes j) g = lt-ltb j k g.0
  all_below k q (No j) g = refl

  -- the yes states after j rounds are those of number below j
  below : (j k t : ℕ) → j ≤ k → yes_below j (M k t) ≡ is_yes (M j t)
  below j zero t h = let e : 0 ≡ j = omega arith in subst (λ n. false ≡ is_yes (M n t)) e refl
  below j (suc k) t h =
      ⊎_elim
      (λ l.
      ⊎_elim
      (λ e. rw e (below j k t (le_of_suc-le-suc l)))
      (λ e. rw e.0 (le-ltb k j (le_of_suc-le-suc l) ∙ ap (yes_below j) (sym e.1) ∙ below j k t (le_of_suc-le-suc l)))
      (step_cases k t))
      (λ l. let e : suc k ≡ j = omega arith in subst (λ n. yes_below n (M (suc k) t) ≡ is_yes (M n t)) e (all_below (suc k) t (M (suc k) t) (good (suc k) t)))
      (cases_lt j (suc k))

  unmarked : (k q : ℕ) → is_yes (M (suc k) q) ≡ false → S q ≡ false
  unmarked zero q h = ⊎_elim (λ e. absurd (true≢false (rw e at h))) (λ e. e) (cases_Bool (S q))
  unmarked (suc k) q h =
      ⊎_elim
      (λ e. unmarked k q (ap is_yes (sym e) ∙ h))
      (λ e. absurd (true≢false (ap is_yes (sym e.0) ∙ h)))
      (step_cases (suc k) q)

  open_from : (k q : ℕ) (x : Mark) → Good k q x → is_yes x ≡ false → is_open x ≡ true
  open_from k q Open g h = refl
  open_from k q (Yes j) g h = absurd (true≢false h)
  open_from k q (No j) g h = absurd g

  took : (o r h : Bool) (x y : Mark) → o ≡ true → r ≡ true → h ≡ true → cond (o && (r && h)) y x ≡ y
  took o r h x y a b c = rw (a, b, c)

  -- what a quiet round leaves open lacks the power
  pub refused : (k q : ℕ) → M (suc (suc k)) q ≡ M (suc k) q → is_yes (M (suc k) q) ≡ false → R q ≡ true → hold q (λ t. is_yes (M (suc k) t)) ≡ false
  refused k q same h r =
      ⊎_elim
      (λ e.
      absurd (true≢false (ap is_yes (sym (took (is_open (M (suc k) q)) (R q) _ (M (suc k) q) (Yes (suc k)) (open_from (suc k) q (M (suc k) q) (good (suc k) q) h) r e) ∙ same) ∙ h)))
      (λ e. e)
      (cases_Bool (hold q (λ t. is_yes (M (suc k) t))))

  abbrev pub until_aim : ℕ → Bool → ℕ → ℕ → Bool
  until_aim k true q t = toward (M k q) (M k t)
  until_aim k false q t = cond (R q && not (is_yes (M k q))) (is_yes (M k t)) false

  -- a yes of number j arrives within j steps
  pub reach : (k b : ℕ) (ρ : Run) → Obeys hold true (until_aim k true) ρ → (j : ℕ) → j ≤ b → M k (ρ 0) ≡ Yes j → MeetsUntilWithin b (IsTrue R) (IsTrue S) ρ
  reach k b ρ f zero h e = (0, zero-le, (subst (Good k (ρ 0)) e (good k (ρ 0))).1, λ i l. absurd (omega arith))
  reach k zero ρ f (suc j) h e = absurd (omega arith)
  reach k (suc b) ρ f (suc j) h e =
      let g = subst (Good k (ρ 0)) e (good k (ρ 0)) in
      let same : until_aim k true (ρ 0) ≡ (λ t. is_yes (M (suc j) t)) = fun_ext (λ t. ap (λ x. toward x (M k t)) e ∙ below (suc j) k t (omega (arith, g.0))) in
      let t = f 0 (ap (hold (ρ 0)) same ∙ g.1.1) in
      let i = below_true (suc j) (M k (ρ 1)) (ap (λ x. toward x (M k (ρ 1))) (sym e) ∙ t) in
      let r = reach k b (λ i. ρ (suc i)) (λ i. f (suc i)) i.0 (omega (arith, i.1)) i.2 in
      (suc r.0, omega (arith, r.1), r.2, elim [ zero ↦ λ l. g.1.0 | suc i ↦ λ l. r.3 i (le_of_suc-le-suc l) ])

  -- a state that a quiet round leaves open never arrives
  avoid : (n k : ℕ) → Quiet n M (suc k) → (c : ℕ) (ρ : Run) → Inside n ρ → Obeys hold false (until_aim (suc k) false) ρ → is_yes (M (suc k) (ρ 0)) ≡ false → S (ρ c) ≡ true → ((i : ℕ) → i < c → R (ρ i) ≡ true) → ⊥
  avoid n k quiet zero ρ b d o s r = both_ways (S (ρ 0)) (unmarked k (ρ 0) o) s
  avoid n k quiet (suc c) ρ b d o s r =
      let r0 = r 0 (suc-le-suc zero-le) in
      let on : (R (ρ 0) && not (is_yes (M (suc k) (ρ 0)))) ≡ true = and_from _ _ r0 (not_from_false _ o) in
      let same : until_aim (suc k) false (ρ 0) ≡ (λ t. is_yes (M (suc k) t)) = fun_ext (λ t. ap (λ x. cond x (is_yes (M (suc k) t)) false) on) in
      avoid n k quiet c (λ i. ρ (suc i)) (λ i. b (suc i)) (λ i. d (suc i))
      (ap (λ X. X (ρ 1)) (sym same) ∙ d 0 (ap (hold (ρ 0)) same ∙ refused k (ρ 0) (quiet (ρ 0) (b 0)) o r0))
      s
      (λ i l. r (suc i) (suc-le-suc l))

  pub until_run : (n k : ℕ) → Quiet n M (suc k) → (a : Bool) (ρ : Run) → Inside n ρ → Obeys hold a (until_aim (suc k) a) ρ → is_yes (M (suc k) (ρ 0)) ≡ a → Meets a (MeetsUntil (IsTrue R) (IsTrue S)) ρ
  until_run n k quiet true ρ b f e =
      let y = is_yes_eq (M (suc k) (ρ 0)) e in
      let u = reach (suc k) y.0 ρ f y.0 (le_refl y.0) y.1 in
      (u.0, u.2, u.3)
  until_run n k quiet false ρ b f e = λ u. avoid n k quiet u.0 ρ b f e u.1 u.2
