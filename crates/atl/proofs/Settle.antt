-- A rule settles, and stays as it then is.
use Rattle.std.proofs.Common.{◌≡◌, ℕ, zero, suc, ◌+◌, ◌<◌, ◌≤◌, Bool, true, false, cond, not, ◌&&◌, ◌⊎◌, sym, refl, ap, ◌∙◌, subst, inl, inr, ⊎_elim, arith}
use Rattle.std.proofs.lemmas.Bool.{cases_Bool, cases_lt, both_ways, eq-eqb, eqb-true, and_from, false≢true}
use Rattle.game.specs.Structure.{Structure, Limits}
use Rattle.atl.specs.declared.Kind.{Kind}
use Rattle.atl.specs.declared.Kind.TheVariants.{Label, Not, Or, Strategic}
use Rattle.atl.specs.declared.Modality.{Modality}
use Rattle.atl.specs.declared.Temporal.TheVariants.{Next, Until, Unless}
use Rattle.atl.specs.declared.Mark.{Mark}
use Rattle.atl.specs.declared.Mark.TheVariants.{Open, Yes}
use Rattle.atl.specs.Rounds.{Power, is_open, is_yes, once, until_marks, unless_marks, marks, holds, tally, newly, settles}
use Rattle.atl.specs.Settling.{EveryRuleSettles}
use Rattle.atl.proofs.Quiet.{Lasting, lasting, quiet_comes}
use Rattle.atl.proofs.Attractor.{Quiet, Good, good, step_cases, refused}
use Rattle.atl.proofs.Dual.{dual, flip, without, neither, unless_flip, newly_flip, not_not}
use Rattle.atl.proofs.Steps.{Local, Fair, local, fair}

tally_zero : (p : ℕ → Bool) (n : ℕ) → tally p n ≡ 0 → (q : ℕ) → q < n → p q ≡ false
tally_zero p zero e q l = absurd (omega arith)
tally_zero p (suc n) e q l = go (p n) refl e (tally_zero p n)
  where
    go : (b : Bool) → p n ≡ b → cond b 1 0 + tally p n ≡ 0 → (tally p n ≡ 0 → (q : ℕ) → q < n → p q ≡ false) → p q ≡ false
    go true h e rest = absurd (omega arith)
    go false h e rest = ⊎_elim (λ b. rest (omega arith) q b) (λ b. let i : q ≡ n = omega arith in rw i h) (cases_lt q n)

zero_tally : (p : ℕ → Bool) (n : ℕ) → ((q : ℕ) → q < n → p q ≡ false) → tally p n ≡ 0
zero_tally p zero h = refl
zero_tally p (suc n) h = let e = h n (omega arith) in rw e (omega (arith, zero_tally p n (λ q l. h q (omega arith))))

-- until
module _ (hold : Power) (R S : ℕ → Bool) (n : ℕ) where
  abbrev M : ℕ → ℕ → Mark
  M = until_marks hold R S

  pub silent_quiet : (k : ℕ) → tally (newly M k) n ≡ 0 → Quiet n M k
  silent_quiet k e q l =
      ⊎_elim (λ s. s)
      (λ s. absurd (both_ways (newly M k q) (tally_zero (newly M k) n e q l) (and_from _ _ (ap is_open s.1) (ap (λ x. not (is_open x)) s.0))))
      (step_cases hold R S k q)

  quiet_silent : (k : ℕ) → Quiet n M k → tally (newly M k) n ≡ 0
  quiet_silent k h = zero_tally (newly M k) n (λ q l. rw (h q l) (never (is_open (M k q))))
    where
      never : (b : Bool) → (b && not b) ≡ false
      never true = refl
      never false = refl

  module _ (loc : Local n hold) (fair : Fair n hold) where
    -- nothing changes after a quiet round
    unmoved : (k q : ℕ) → q < n → M (suc (suc k)) q ≡ Yes (suc k) → hold q (λ t. is_yes (M (suc k) t)) ≡ false → ⊥
    unmoved k q l e h = both_ways _ h (subst (Good hold R S (suc (suc k)) q) e (good hold R S (suc (suc k)) q)).1.1

    pub quiet_next : (k : ℕ) → Quiet n M k → Quiet n M (suc k)
    quiet_next zero quiet q l =
        ⊎_elim (λ s. s)
        (λ s. absurd (unmoved 0 q l s.0 (loc q l _ (λ t. false) (λ t b. ap is_yes (quiet t b)) ∙ fair q l false)))
        (step_cases hold R S 1 q)
    quiet_next (suc k) quiet q l =
        ⊎_elim (λ s. s)
        (λ (s : (M (suc (suc (suc k))) q ≡ Yes (suc (suc k))) × (M (suc (suc k)) q ≡ Open)).
        let r = (subst (Good hold R S (suc (suc (suc k))) q) s.0 (good hold R S (suc (suc (suc k))) q)).1.0 in
        absurd (unmoved (suc k) q l s.0 (loc q l _ (λ t. is_yes (M (suc k) t)) (λ t b. ap is_yes (quiet t b)) ∙ refused hold R S k q (quiet q l) (ap is_yes (sym (quiet q l) ∙ s.1)) r)))
        (step_cases hold R S (suc (suc k)) q)

    quiet_on : (j k : ℕ) → Quiet n M j → j ≤ k → Quiet n M k × ((q : ℕ) → q < n → M k q ≡ M j q)
    quiet_on j zero h l = let e : j ≡ 0 = omega arith in (subst (Quiet n M) e h, λ q b. ap (λ x. M x q) (sym e))
    quiet_on j (suc k) h l =
        ⊎_elim
        (λ b. let r = quiet_on j k h (omega arith) in (quiet_next k r.0, λ q c. r.0 q c ∙ r.1 q c))
        (λ b. let e : j ≡ suc k = omega arith in (subst (Quiet n M) e h, λ q c. ap (λ x. M x q) (sym e)))
        (cases_lt j (suc k))

    -- what is settled stays so
    silent_on : (j k : ℕ) → tally (newly M j) n ≡ 0 → j ≤ k → (tally (newly M k) n ≡ 0) × ((q : ℕ) → q < n → M (suc k) q ≡ M (suc j) q)
    silent_on j k e l =
        let h = silent_quiet j e in
        let r = quiet_on j k h l in
        (quiet_silent k r.0, λ q b. r.0 q b ∙ r.1 q b ∙ sym (h q b))

pub dual_local : (n : ℕ) (hold : Power) → Local n hold → Local n (dual hold)
dual_local n hold loc q b X Y h = ap not (loc q b (λ t. not (X t)) (λ t. not (Y t)) (λ t c. ap not (h t c)))

pub dual_fair : (n : ℕ) (hold : Power) → Fair n hold → Fair n (dual hold)
dual_fair n hold fair q b c = ap not (fair q b (not c)) ∙ not_not c

abbrev Lasts : ℕ → Kind → (ℕ → ℕ → Mark) → Type 0
Lasts n f M = (j k : ℕ) → settles n f M j ≡ true → j ≤ k → (settles n f M k ≡ true) × ((q : ℕ) → q < n → M k q ≡ M j q)

until_lasts : (n : ℕ) (w : Modality) (hold : Power) (R S : ℕ → Bool) → Local n hold → Fair n hold → Lasts n (Strategic w Until) (until_marks hold R S)
until_lasts n w hold R S loc fair zero k e l = absurd (false≢true e)
until_lasts n w hold R S loc fair (suc j) zero e l = absurd (omega arith)
until_lasts n w hold R S loc fair (suc j) (suc k) e l = let r = silent_on hold R S n loc fair j k (eqb-true _ 0 e) (omega arith) in (eq-eqb _ 0 r.0, r.1)

unless_lasts : (n : ℕ) (w : Modality) (hold : Power) (R S : ℕ → Bool) → Local n hold → Fair n hold → Lasts n (Strategic w Unless) (unless_marks hold R S)
unless_lasts n w hold R S loc fair zero k e l = absurd (false≢true e)
unless_lasts n w hold R S loc fair (suc j) zero e l = absurd (omega arith)
unless_lasts n w hold R S loc fair (suc j) (suc k) e l =
    let r = silent_on (dual hold) (without S) (neither R S) n (dual_local n hold loc) (dual_fair n hold fair) j k (sym (ap (λ p. tally p n) (newly_flip hold R S j)) ∙ eqb-true _ 0 e) (omega arith) in
    (eq-eqb _ 0 (ap (λ p. tally p n) (newly_flip hold R S k) ∙ r.0), λ q b. unless_flip hold R S (suc k) q ∙ ap flip (r.1 q b) ∙ sym (unless_flip hold R S (suc j) q))

once_lasts : (n : ℕ) (f : Kind) (b : ℕ → Bool) → ((M : ℕ → ℕ → Mark) (k : ℕ) → settles n f M (suc k) ≡ true) → Lasts n f (λ k q. once (b q) k)
once_lasts n f b h zero k e l = absurd (false≢true e)
once_lasts n f b h (suc j) zero e l = absurd (omega arith)
once_lasts n f b h (suc j) (suc k) e l = (h (λ k q. once (b q) k) k, λ q c. refl)

pub lasts : (m : Structure) → Limits m → (f : Kind) (A l : ℕ) (R S : ℕ → Bool) → Lasts m.states f (marks m f A l R S)
lasts m L Label A l R S = once_lasts m.states Label _ (λ M k. refl)
lasts m L Not A l R S = once_lasts m.states Not _ (λ M k. refl)
lasts m L Or A l R S = once_lasts m.states Or _ (λ M k. refl)
lasts m L (Strategic w Next) A l R S = once_lasts m.states (Strategic w Next) _ (λ M k. refl)
lasts m L (Strategic w Until) A l R S = until_lasts m.states w (holds m w A) R S (local m L w A) (fair m L w A)
lasts m L (Strategic w Unless) A l R S = unless_lasts m.states w (holds m w A) R S (local m L w A) (fair m L w A)

kept : (M : ℕ → ℕ → Mark) → Lasting M → (j k q : ℕ) → j ≤ k → is_open (M j q) ≡ false → M k q ≡ M j q
kept M h j zero q l e = let i : 0 ≡ j = omega arith in ap (λ x. M x q) i
kept M h j (suc k) q l e =
    ⊎_elim
    (λ b. let r = kept M h j k q (omega arith) e in h k q (ap is_open r ∙ e) ∙ r)
    (λ b. let i : suc k ≡ j = omega arith in ap (λ x. M x q) i)
    (cases_lt j (suc k))

-- the first of k rounds that passes, or none does
search_up : (s : ℕ → Bool) (k : ℕ) → ((j : ℕ) × (j ≤ k) × (s j ≡ true)) ⊎ ((j : ℕ) → 1 ≤ j → j ≤ k → s j ≡ false)
search_up s zero = inr (λ j a b. absurd (omega arith))
search_up s (suc k) = ⊎_elim
    (λ r. inl (r.0, omega (arith, r.1), r.2))
    (λ none. ⊎_elim
    (λ e. inl (suc k, omega arith, e))
    (λ e. inr (λ j a b. ⊎_elim (λ c. none j a (omega arith)) (λ c. let p : j ≡ suc k = omega arith in rw p e) (cases_lt j (suc k))))
    (cases_Bool (s (suc k))))
    (search_up s k)

pub settling : EveryRuleSettles
settling m L f A l R S = record {
  kept = kept (marks m f A l R S) (lasting m f A l R S);
  few = λ k. quiet_comes m A l R S m.states k f;
  comes = ⊎_elim (λ r. r) (λ busy. absurd (omega (arith, quiet_comes m A l R S m.states (suc m.states) f busy))) (search_up (settles m.states f (marks m f A l R S)) (suc m.states));
  lasts = lasts m L f A l R S;
}
