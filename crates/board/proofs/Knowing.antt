-- A settled rule is yes where its formula is true.
use Rattle.std.proofs.Common.{◌≡◌, ℕ, zero, suc, ◌+◌, ◌<◌, ◌≤◌, Bool, true, false, List, [], ◌∷◌, length, Some, Decides, Option, sym, refl, ap, ◌∙◌, subst, ⊎_elim, true≢false, arith}
use Rattle.std.proofs.lemmas.Bool.{cases_eq}
use Rattle.game.specs.Structure.{Structure, Limits}
use Rattle.atl.specs.declared.Kind.{Kind}
use Rattle.atl.specs.declared.Kind.TheVariants.{Label, Not, Or, Strategic}
use Rattle.atl.specs.declared.Temporal.TheVariants.{Next, Until, Unless}
use Rattle.atl.specs.declared.Mark.{Mark}
use Rattle.atl.specs.Rounds.{is_yes, closed}
use Rattle.atl.specs.Rules.{Formula, Satisfies, rule}
use Rattle.atl.specs.Verdict.{final}
use Rattle.atl.specs.Right.{Knows, KnowsParts}
use Rattle.atl.proofs.Quiet.{quiet_comes}
use Rattle.atl.proofs.Right.{rule_decides}
use Rattle.table.specs.declared.types.Rule.{Rule}
use Rattle.table.specs.Parts.{uses_r, uses_s, waits}
use Rattle.table.specs.Standing.{Standing, Stack, found, marks_of, settled_of, mark_of, yes_states, settled}
use Rattle.table.specs.Shows.{Orderly, AllRight}
use Rattle.table.proofs.Marking.{done_r, done_s}
use Rattle.table.proofs.Stacks.{top, under}
use Rattle.table.proofs.Advancing.{fresh_settles}
use Rattle.board.specs.Truth.{formula}

pub knows_parts : (m : Structure) (f : Kind) (r s : Formula) (R S : ℕ → Bool) → (uses_r f ≡ true → Knows m r R) → (uses_s f ≡ true → Knows m s S) → KnowsParts m f r s R S
knows_parts m Label r s R S k l = tt
knows_parts m Not r s R S k l = k refl
knows_parts m Or r s R S k l = (k refl, l refl)
knows_parts m (Strategic w Next) r s R S k l = k refl
knows_parts m (Strategic w Until) r s R S k l = (k refl, l refl)
knows_parts m (Strategic w Unless) r s R S k l = (k refl, l refl)

module _ (m : Structure) (L : Limits m) where
  -- the parts of a rule that has had a round
  parts_known : (x : Standing) (low : Stack) → Orderly m low x → settled_of m x (yes_states m low) ≡ true
      → ((i : ℕ) → settled m low i ≡ true → Knows m (formula low i) (yes_states m low i))
      → KnowsParts m x.kind (formula low x.r) (formula low x.s) (yes_states m low x.r) (yes_states m low x.s)
  parts_known x low o d k = ⊎_elim
      (λ (e : x.rounds ≡ 0). absurd (true≢false (sym d ∙ fresh_settles m.states x.kind (marks_of m x (yes_states m low)) x.rounds e)))
      (λ (w : waits (settled m low) x.kind x.r x.s ≡ false).
      knows_parts m x.kind _ _ _ _
      (λ u. k x.r (done_r (settled m low) x.kind x.r x.s w u))
      (λ u. k x.s (done_s (settled m low) x.kind x.r x.s w u)))
      o.ready

  -- a settled rule has its final marks
  pub mark_final : (x : Standing) (low : Stack) → settled_of m x (yes_states m low) ≡ true → (q : ℕ)
      → mark_of m x (yes_states m low) q ≡ final m x.kind x.group x.r (yes_states m low x.r) (yes_states m low x.s) x.rounds q
  mark_final x low d q = ap (λ (b : Bool). closed x.kind b (marks_of m x (yes_states m low) x.rounds q)) d

  rule_known : (x : Standing) (low : Stack) → settled_of m x (yes_states m low) ≡ true
      → KnowsParts m x.kind (formula low x.r) (formula low x.s) (yes_states m low x.r) (yes_states m low x.s)
      → (q : ℕ) → q < m.states → Decides (is_yes (mark_of m x (yes_states m low) q)) (Satisfies m (rule x.kind x.group x.r (formula low x.r) (formula low x.s)) q)
  rule_known x low d parts q l =
      subst (λ (v : Mark). Decides (is_yes v) (Satisfies m (rule x.kind x.group x.r (formula low x.r) (formula low x.s)) q)) (sym (mark_final x low d q))
      (rule_decides m L x.kind x.group x.r (formula low x.r) (formula low x.s) (yes_states m low x.r) (yes_states m low x.s) x.rounds parts d q l)

  pub knows : (rules : List Rule) (st : Stack) → AllRight m rules st → (n : ℕ) → settled m st n ≡ true → Knows m (formula st n) (yes_states m st n)
  knows rules [] a n e = absurd (true≢false (sym e))
  knows rules (x ∷ low) a n e = λ q l. ⊎_elim
      (λ (i : n ≡ length low).
      let d = sym (top low n _ _ i) ∙ e in
      subst (λ (b : Bool). Decides b (Satisfies m (formula (x ∷ low) n) q)) (sym (top low n _ _ i))
      (subst (λ (φ : Formula). Decides (is_yes (mark_of m x (yes_states m low) q)) (Satisfies m φ q)) (sym (top low n _ _ i))
      (rule_known x low d (parts_known x low a.0 d (knows rules low a.2)) q l)))
      (λ (i : n ≡ length low → ⊥).
      subst (λ (b : Bool). Decides b (Satisfies m (formula (x ∷ low) n) q)) (sym (under low n _ _ i))
      (subst (λ (φ : Formula). Decides (yes_states m low n q) (Satisfies m φ q)) (sym (under low n _ _ i))
      (knows rules low a.2 n (sym (under low n _ _ i) ∙ e) q l)))
      (cases_eq n (length low))

  -- the rule n of a stack, with what is known of it
  pub record Here (st : Stack) (n : ℕ) (x : Standing) (low : Stack) : Type 0 where
    pub up : n < length st
    pub orderly : Orderly m low x
    pub yes_is : (q : ℕ) → yes_states m st n q ≡ is_yes (mark_of m x (yes_states m low) q)
    pub settled_is : settled m st n ≡ settled_of m x (yes_states m low)
    pub says : formula st n ≡ rule x.kind x.group x.r (formula low x.r) (formula low x.s)
    -- once it is settled
    pub parts : settled_of m x (yes_states m low) ≡ true → KnowsParts m x.kind (formula low x.r) (formula low x.s) (yes_states m low x.r) (yes_states m low x.s)

  pub here : (rules : List Rule) (st : Stack) → AllRight m rules st → (n : ℕ) (x : Standing) (low : Stack) → found st n ≡ Some (x, low) → Here st n x low
  here rules [] a n x low e = absurd (let z : ◌≡◌ {A = ℕ} 0 1 = cc in omega arith)
  here rules (y ∷ ys) a n x low e = ⊎_elim
      (λ (i : n ≡ length ys).
      let same : (y, ys) ≡ (x, low) = some_some (sym (top ys n _ _ i) ∙ e) in
      subst (λ (z : Standing × Stack). Here (y ∷ ys) n z.0 z.1) same (record {
        up = omega arith;
        orderly = a.0;
        yes_is = λ q. top ys n _ _ i;
        settled_is = top ys n _ _ i;
        says = top ys n _ _ i;
        parts = λ d. parts_known y ys a.0 d (knows rules ys a.2);
      }))
      (λ (i : n ≡ length ys → ⊥).
      let b = here rules ys a.2 n x low (sym (under ys n _ _ i) ∙ e) in
      record {
        up = omega (arith, b.up);
        orderly = b.orderly;
        yes_is = λ q. under ys n _ _ i ∙ b.yes_is q;
        settled_is = under ys n _ _ i ∙ b.settled_is;
        says = under ys n _ _ i ∙ b.says;
        parts = b.parts;
      })
      (cases_eq n (length ys))
    where
      some_some : {a b : Standing × Stack} → ◌≡◌ {A = Option (Standing × Stack)} (Some a) (Some b) → a ≡ b
      some_some h = cc

  -- at most one round more than there are states
  pub few_of : (x : Standing) (low : Stack) → Orderly m low x → x.rounds ≤ m.states + 1
  few_of x low o = by x.rounds refl
    where
      by : (k : ℕ) → x.rounds ≡ k → x.rounds ≤ m.states + 1
      by zero e = omega arith
      by (suc k) e = omega (arith, quiet_comes m x.group x.r (yes_states m low x.r) (yes_states m low x.s) m.states k x.kind (λ j l b. o.going j (omega arith)))
