-- An unless is what an until of the other side leaves.
use Rattle.std.proofs.Common.{◌≡◌, ℕ, zero, suc, ◌<◌, Bool, true, false, cond, not, ◌&&◌, ◌⊎◌, sym, refl, ap, ◌∙◌, inl, inr, ⊎_elim, arith}
use mathlib.Core.Path.{fun_ext}
use Rattle.std.proofs.lemmas.Bool.{cases_Bool, and_parts, and_from, both_ways, cases_lt, not-true, not_from_false}
use Rattle.atl.specs.declared.Kind.TheVariants.{Strategic}
use Rattle.atl.specs.declared.Modality.{Modality}
use Rattle.atl.specs.declared.Temporal.TheVariants.{Unless}
use Rattle.atl.specs.declared.Mark.{Mark}
use Rattle.atl.specs.declared.Mark.TheVariants.{Open, Yes, No}
use Rattle.atl.specs.Rounds.{Power, is_open, is_yes, closed, until_marks, unless_marks, newly}
use Rattle.atl.specs.Strategy.{Run, MeetsUntil, MeetsUnless}
use Rattle.atl.proofs.Attractor.{IsTrue, Meets, Inside, Obeys, Quiet, Good, good, until_aim, until_run}

-- the power of those who would rather not
abbrev pub dual : Power → Power
dual hold q X = not (hold q (λ t. not (X t)))

abbrev pub flip : Mark → Mark
flip Open = Open
flip (Yes n) = No n
flip (No n) = Yes n

-- the parts of the until that an unless fails by
abbrev pub without : (ℕ → Bool) → ℕ → Bool
without S q = not (S q)

abbrev pub neither : (ℕ → Bool) → (ℕ → Bool) → ℕ → Bool
neither R S q = not (R q) && not (S q)

pub not_not : (b : Bool) → not (not b) ≡ b
not_not true = refl
not_not false = refl

flip_flip : (x : Mark) → flip (flip x) ≡ x
flip_flip Open = refl
flip_flip (Yes n) = refl
flip_flip (No n) = refl

is_open_flip : (x : Mark) → is_open (flip x) ≡ is_open x
is_open_flip Open = refl
is_open_flip (Yes n) = refl
is_open_flip (No n) = refl

flip_cond : (c : Bool) (x y : Mark) → cond c (flip x) (flip y) ≡ flip (cond c x y)
flip_cond true x y = refl
flip_cond false x y = refl

same_step : (s a b : Bool) (u v : Mark) (n : ℕ) → u ≡ flip v → a ≡ b → cond (is_open u && (s && a)) (No n) u ≡ flip (cond (is_open v && (s && b)) (Yes n) v)
same_step s a b u v n e p = rw (e, p, is_open_flip v) (flip_cond (is_open v && (s && b)) (Yes n) v)

pub obeys_dual : (hold : Power) (a : Bool) (T : ℕ → ℕ → Bool) (ρ : Run) → Obeys hold (not a) (λ q t. not (T q t)) ρ → Obeys (dual hold) a T ρ
obeys_dual hold a T ρ f i e = sym (not_not (T (ρ i) (ρ (suc i)))) ∙ ap not (f i (sym (not_not _) ∙ ap not e)) ∙ not_not a

module _ (hold : Power) (R S : ℕ → Bool) where
  abbrev pub V : ℕ → ℕ → Mark
  V = until_marks (dual hold) (without S) (neither R S)

  abbrev U : ℕ → ℕ → Mark
  U = unless_marks hold R S

  abbrev Fine : ℕ → ℕ → Mark → Type 0
  Fine = Good (dual hold) (without S) (neither R S)

  open_not_yes : (k q : ℕ) (x : Mark) → Fine k q x → is_open (flip x) ≡ not (is_yes x)
  open_not_yes k q Open g = refl
  open_not_yes k q (Yes n) g = refl
  open_not_yes k q (No n) g = absurd g

  pub unless_flip : (k q : ℕ) → U k q ≡ flip (V k q)
  unless_flip zero q = refl
  unless_flip (suc zero) q = flip_cond (not (R q) && not (S q)) (Yes 0) Open
  unless_flip (suc (suc k)) q =
      same_step (not (S q)) _ _ (U (suc k) q) (V (suc k) q) (suc k) (unless_flip (suc k) q)
      (ap (λ X. not (hold q X)) (fun_ext (λ t. ap is_open (unless_flip (suc k) t) ∙ open_not_yes (suc k) t (V (suc k) t) (good (dual hold) (without S) (neither R S) (suc k) t))))

  pub newly_flip : (k : ℕ) → newly U k ≡ newly V k
  newly_flip k = fun_ext (λ q. rw (unless_flip k q, unless_flip (suc k) q, is_open_flip (V k q), is_open_flip (V (suc k) q)))

  closed_flip : (w : Modality) (k q : ℕ) (x : Mark) → Fine k q x → is_yes (closed (Strategic w Unless) true (flip x)) ≡ not (is_yes x)
  closed_flip w k q Open g = refl
  closed_flip w k q (Yes n) g = refl
  closed_flip w k q (No n) g = absurd g

  -- a yes of the unless is no yes of the until
  pub unless_yes : (w : Modality) (k q : ℕ) → is_yes (closed (Strategic w Unless) true (U k q)) ≡ not (is_yes (V k q))
  unless_yes w k q = ap (λ x. is_yes (closed (Strategic w Unless) true x)) (unless_flip k q) ∙ closed_flip w k q (V k q) (good (dual hold) (without S) (neither R S) k q)

  abbrev pub unless_aim : ℕ → Bool → ℕ → ℕ → Bool
  unless_aim k a q t = not (until_aim (dual hold) (without S) (neither R S) k (not a) q t)

module _ (R S : ℕ → Bool) (ρ : Run) where
  earlier : (i : ℕ) → ((j : ℕ) × (j < i) × (S (ρ j) ≡ true)) ⊎ ((j : ℕ) → j < i → not (S (ρ j)) ≡ true)
  earlier zero = inr (λ j l. absurd (omega arith))
  earlier (suc i) =
      ⊎_elim
      (λ f. inl (f.0, omega (arith, f.1), f.2))
      (λ none.
      ⊎_elim
      (λ e. inl (i, omega arith, e))
      (λ e. inr (λ j l. ⊎_elim (λ b. none j b) (λ b. let p : j ≡ i = omega arith in rw p (not_from_false (S (ρ i)) e)) (cases_lt j i)))
      (cases_Bool (S (ρ i))))
      (earlier i)

  unless_from : (MeetsUntil (IsTrue (without S)) (IsTrue (neither R S)) ρ → ⊥) → MeetsUnless (IsTrue R) (IsTrue S) ρ
  unless_from never i =
      ⊎_elim inl
      (λ r.
      ⊎_elim (λ s. inr (inl s))
      (λ s.
      ⊎_elim (λ f. inr (inr f))
      (λ none. absurd (never (i, and_from (not (R (ρ i))) (not (S (ρ i))) (not_from_false (R (ρ i)) r) (not_from_false (S (ρ i)) s), none)))
      (earlier i))
      (cases_Bool (S (ρ i))))
      (cases_Bool (R (ρ i)))

  unless_not : MeetsUntil (IsTrue (without S)) (IsTrue (neither R S)) ρ → MeetsUnless (IsTrue R) (IsTrue S) ρ → ⊥
  unless_not u h =
      let k = u.0 in
      let s = and_parts (not (R (ρ k))) (not (S (ρ k))) u.1 in
      ⊎_elim
      (λ r. both_ways (R (ρ k)) (not-true (R (ρ k)) s.0) r)
      (⊎_elim
      (λ t. both_ways (S (ρ k)) (not-true (S (ρ k)) s.1) t)
      (λ f. both_ways (S (ρ f.0)) (not-true (S (ρ f.0)) (u.2 f.0 f.1)) f.2))
      (h k)

  pub unless_run : (hold : Power) (n k : ℕ) → Quiet n (V hold R S) (suc k) → (a : Bool) → Inside n ρ → Obeys hold a (unless_aim hold R S (suc k) a) ρ → is_yes (V hold R S (suc k) (ρ 0)) ≡ not a → Meets a (MeetsUnless (IsTrue R) (IsTrue S)) ρ
  unless_run hold n k quiet true b f e =
      unless_from (until_run (dual hold) (without S) (neither R S) n k quiet false ρ b (obeys_dual hold false (until_aim (dual hold) (without S) (neither R S) (suc k) false) ρ f) e)
  unless_run hold n k quiet false b f e =
      unless_not (until_run (dual hold) (without S) (neither R S) n k quiet true ρ b (obeys_dual hold true (until_aim (dual hold) (without S) (neither R S) (suc k) true) ρ f) e)
