-- From what obedient runs meet to what strategies force and allow.
use Rattle.std.proofs.Common.{◌≡◌, ℕ, zero, suc, ◌<◌, ◌≤◌, Bool, true, false, ◌⊎◌, List, [], ◌∷◌, sym, refl, ap, subst, inl, inr, ⊎_elim, arith}
use Rattle.std.proofs.lemmas.Bool.{cases_lt, true≢false, false≢true}
use Rattle.game.specs.Structure.{Structure, Limits, Choice}
use Rattle.game.specs.Reading.{EveryReply}
use Rattle.game.proofs.Division.{divided}
use Rattle.atl.specs.declared.Modality.{Modality}
use Rattle.atl.specs.declared.Modality.TheVariants.{Can, Despite}
use Rattle.atl.specs.Rounds.{Power, holds}
use Rattle.atl.specs.Strategy.{Run, Goal, Set, Step, Strategy, Outcome, so_far, Remembering, Remembered, SomeStrategyForces, EachRememberingAllows, EveryStrategyRuns}
use Rattle.atl.proofs.Attractor.{Inside, Obeys}
use Rattle.atl.proofs.Steps.{GroupBrings, OthersBring, Brought, brought, stays, step_into, some_step, reply_step}

same_or_not : (b a : Bool) → (b ≡ a) ⊎ (b ≡ a → ⊥)
same_or_not true true = inl refl
same_or_not true false = inr true≢false
same_or_not false true = inr false≢true
same_or_not false false = inl refl

-- one function for a choice at each state
chosen : (n : ℕ) (P : ℕ → ℕ → Type 0) → ((q : ℕ) → q < n → (c : ℕ) × P q c) → (f : ℕ → ℕ) × ((q : ℕ) → q < n → P q (f q))
chosen n P h = (λ q. at q (cases_lt q n), λ q l. right q l (cases_lt q n))
  where
    at : (q : ℕ) → (q < n) ⊎ (n ≤ q) → ℕ
    at q (inl l) = (h q l).0
    at q (inr l) = 0

    right : (q : ℕ) → q < n → (s : (q < n) ⊎ (n ≤ q)) → P q (at q s)
    right q l (inl k) = (h q k).1
    right q l (inr k) = absurd (omega arith)

-- who brings about a goal when a rule answers a
abbrev pub Comes : Structure → Modality → (A : ℕ) → Bool → Goal → Set
Comes m Can A true G = SomeStrategyForces m A G
Comes m Can A false G = EachRememberingAllows m A G
Comes m Despite A true G = EachRememberingAllows m A G
Comes m Despite A false G = SomeStrategyForces m A G

-- a choice at q that obeys: where the power answers a for I, all its replies lead where I is a
abbrev pub Serves : Structure → Power → Bool → (A q : ℕ) → (I : ℕ → Bool) → ℕ → Type 0
Serves m hold a A q I c = Choice m A q c × (hold q I ≡ a → EveryReply m A q I a c)

module _ (m : Structure) (L : Limits m) (A : ℕ) where
  -- the runs of a strategy stay among the states
  pub inside : (f : ℕ → ℕ) (q : ℕ) (ρ : Run) → q < m.states → Strategy m A f → Outcome m A f q ρ → Inside m.states ρ
  inside f q ρ l s o zero = subst (λ n. n < m.states) (sym o.from) l
  inside f q ρ l s o (suc i) = let b = inside f q ρ l s o i in stays m L A (ρ i) b (f (ρ i)) (ρ (suc i)) (s (ρ i) b) (o.steps i)

  module _ (hold : Power) (a : Bool) (T : ℕ → ℕ → Bool) where
    pub serves_obeys : (f : ℕ → ℕ) → ((p : ℕ) → p < m.states → Serves m hold a A p (T p) (f p)) → (q : ℕ) (ρ : Run) → Inside m.states ρ → Outcome m A f q ρ → Obeys hold a T ρ
    serves_obeys f s q ρ b o i e = step_into m L A (ρ i) (b i) (T (ρ i)) a (f (ρ i)) (ρ (suc i)) ((s (ρ i) (b i)).1 e) (o.steps i)

    module _ (G : Goal) (q : ℕ) (l : q < m.states) (meets : (ρ : Run) → ρ 0 ≡ q → Inside m.states ρ → Obeys hold a T ρ → G ρ) where
      forced : ((p : ℕ) → p < m.states → hold p (T p) ≡ a → GroupBrings m A p (T p) a) → SomeStrategyForces m A G q
      forced bring =
          let f = chosen m.states (λ p. Serves m hold a A p (T p)) (λ p b. ⊎_elim
          (λ e. let g = bring p b e in (g.0, (g.1, λ e. g.2)))
          (λ ne. let c = (divided m A p L b).some_choice in (c.0, (c.1, λ e. absurd (ne e))))
          (same_or_not (hold p (T p)) a)) in
          let s : Strategy m A f.0 = λ p b. (f.1 p b).0 in
          (f.0, s, λ ρ o. let b = inside f.0 q ρ l s o in meets ρ o.from b (serves_obeys f.0 f.1 q ρ b o))

      module _ (bring : (p : ℕ) → p < m.states → hold p (T p) ≡ a → OthersBring m A p (T p) a) (F : List ℕ → ℕ) (rem : Remembering m A F) where
        -- the state where a run stands, with those before it
        abbrev At : Type 0
        At = (s : ℕ) × (before : List ℕ) × (s < m.states)

        answer : (x : At) → (t : ℕ) × Step m A x.0 (F (x.0 ∷ x.1)) t × (hold x.0 (T x.0) ≡ a → T x.0 t ≡ a)
        answer x =
            let c = F (x.0 ∷ x.1) in
            let h = rem x.0 x.1 x.2 in
            ⊎_elim
            (λ e. let r = reply_step m L A x.0 x.2 (T x.0) a c (bring x.0 x.2 e c h) in (r.0, r.1, λ e. r.2))
            (λ ne. let s = some_step m L A x.0 x.2 c h in (s.0, s.1, λ e. absurd (ne e)))
            (same_or_not (hold x.0 (T x.0)) a)

        abbrev run_at : ℕ → At
        run_at zero = (q, [], l)
        run_at (suc i) =
            let x = run_at i in
            let n = answer x in
            (n.0, x.0 ∷ x.1, stays m L A x.0 x.2 (F (x.0 ∷ x.1)) n.0 (rem x.0 x.1 x.2) n.1)

        abbrev run : Run
        run i = (run_at i).0

        so_far_run : (i : ℕ) → so_far run i ≡ (run_at i).0 ∷ (run_at i).1
        so_far_run zero = refl
        so_far_run (suc i) = ap (λ xs. run (suc i) ∷ xs) (so_far_run i)

        allowed : (ρ : Run) × Remembered m A F q ρ × G ρ
        allowed = (
          run,
          record { from = refl; steps = λ i. subst (λ xs. Step m A (run i) (F xs) (run (suc i))) (sym (so_far_run i)) (answer (run_at i)).1 },
          meets run refl (λ i. (run_at i).2) (λ i. (answer (run_at i)).2),
        )

  -- for each aim, one side brings about what all obedient runs meet
  pub comes : (w : Modality) (a : Bool) (T : ℕ → ℕ → Bool) (G : Goal) (q : ℕ) → q < m.states → ((ρ : Run) → ρ 0 ≡ q → Inside m.states ρ → Obeys (holds m w A) a T ρ → G ρ) → Comes m w A a G q
  comes Can true T G q l meets = forced (holds m Can A) true T G q l meets (λ p b e. subst (Brought m Can A p (T p)) e (brought m L A p b Can (T p)))
  comes Can false T G q l meets = allowed (holds m Can A) false T G q l meets (λ p b e. subst (Brought m Can A p (T p)) e (brought m L A p b Can (T p)))
  comes Despite true T G q l meets = allowed (holds m Despite A) true T G q l meets (λ p b e. subst (Brought m Despite A p (T p)) e (brought m L A p b Despite (T p)))
  comes Despite false T G q l meets = forced (holds m Despite A) false T G q l meets (λ p b e. subst (Brought m Despite A p (T p)) e (brought m L A p b Despite (T p)))

pub strategy_runs : EveryStrategyRuns
strategy_runs m L A q l F rem =
    let r = comes m L A Can false (λ q t. false) (λ ρ. Unit {0}) q l (λ ρ e b f. tt) F rem in
    (r.0, r.1)
