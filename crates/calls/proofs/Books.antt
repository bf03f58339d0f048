-- A group bound to the playbook of its rule.
use Rattle.std.proofs.Common.{◌≡◌, ℕ, suc, ◌<◌, Bool, true, Some, Decides, sym, refl, ap, ◌∙◌, subst}
use Rattle.std.proofs.lemmas.Bool.Decides.{same_from_decides}
use Rattle.game.specs.Structure.{Structure, Limits}
use Rattle.game.specs.Bound.{bound}
use Rattle.atl.specs.declared.Kind.TheVariants.{Strategic}
use Rattle.atl.specs.declared.Modality.TheVariants.{Can}
use Rattle.atl.specs.declared.Temporal.{Temporal}
use Rattle.atl.specs.Rounds.{is_yes}
use Rattle.atl.specs.Rules.{Formula, Satisfies, rule}
use Rattle.atl.specs.Verdict.{Settled, verdict as verdict_of}
use Rattle.atl.specs.Right.{KnowsParts}
use Rattle.atl.specs.Binding.{PlainParts}
use Rattle.atl.proofs.Right.{rule_decides, settled_last, enough, verdict_right}
use Rattle.atl.proofs.Binding.{binding_right}
use Rattle.table.specs.Standing.{Standing, Stack, found, settled_of, yes_states, settled}
use Rattle.board.specs.Truth.{formula, IsBook}
use Rattle.board.proofs.Knowing.{knows_parts, mark_final, knows, Here, here, few_of}
use Rattle.board.proofs.Asking.{says_yes, says_no}
use Rattle.board.proofs.Playing.{can_rule, plays, with_kind}
use Rattle.calls.specs.Histories.{History, stack, Answered}
use Rattle.calls.specs.Law.{SameBound}
use Rattle.calls.proofs.Possible.{Possible, possible}

module _ (m : Structure) (L : Limits m) (st : Stack) (n : ℕ) (o : Temporal) (A i j k : ℕ) (low : Stack)
    (is : found st n ≡ Some (can_rule o A i j k, low)) (w : Here m L st n (can_rule o A i j k) low) (d : settled_of m (can_rule o A i j k) (yes_states m low) ≡ true) where
  abbrev x : Standing
  x = can_rule o A i j k

  abbrev R : ℕ → Bool
  R = yes_states m low i

  abbrev S : ℕ → Bool
  S = yes_states m low j

  module _ (f : ℕ → ℕ) (b : IsBook m st n f) where
    -- the group bound to the playbook
    module _ (plain : PlainParts o (formula low i) (formula low j)) (h : History) (a : Answered (bound m A f) h) (n' : ℕ) (x' : Standing) (low' : Stack) (is' : found (stack h) n' ≡ Some (x', low'))
        (φ : formula (stack h) n' ≡ rule (Strategic Can o) 0 0 (formula low i) (formula low j)) where
      abbrev m' : Structure
      m' = bound m A f

      L' : Limits m'
      L' = binding_right.limits m A f L

      p' : Possible m' (stack h)
      p' = possible m' L' h a

      w' : Here m' L' (stack h) n' x' low'
      w' = here m' L' p'.rules (stack h) p'.right n' x' low' is'

      same : settled m' (stack h) n' ≡ true → (q : ℕ) → q < m.states → yes_states m' (stack h) n' q ≡ yes_states m st n q
      same e q l =
          let r = formula low i in
          let s = formula low j in
          let R' = verdict_of m' r in
          let S' = verdict_of m' s in
          let parts : KnowsParts m' (Strategic Can o) r s R' S' = knows_parts m' (Strategic Can o) r s R' S' (λ u. verdict_right m' L' r) (λ u. verdict_right m' L' s) in
          let end : Settled m' (Strategic Can o) 0 0 R' S' (suc m.states) = settled_last m' L' (Strategic Can o) 0 0 R' S' in
          let there : Decides (yes_states m' (stack h) n' q) (Satisfies m' (rule (Strategic Can o) 0 0 r s) q) = subst (λ (ψ : Formula). Decides (yes_states m' (stack h) n' q) (Satisfies m' ψ q)) φ (knows m' L' p'.rules (stack h) p'.right n' e q l) in
          same_from_decides _ _ there (rule_decides m' L' (Strategic Can o) 0 0 r s R' S' (suc m.states) parts end q l)
          ∙ (binding_right.same m L o A i 0 r s R S R' S' k (suc m.states) f plain (plays m L st n o A i j k low is w d f b) (w.parts d) d parts end q l).0
          ∙ sym (w.yes_is q ∙ ap is_yes (mark_final m L x low d q))

      pub binds : SameBound m A f st n (stack h) n' x'
      binds = record {
        few = few_of m' L' x' low' w'.orderly;
        enough = λ e. w'.settled_is ∙ subst (Settled m' x'.kind x'.group x'.r (yes_states m' low' x'.r) (yes_states m' low' x'.s)) (sym e) (enough m.states m' L' refl x'.kind x'.group x'.r (yes_states m' low' x'.r) (yes_states m' low' x'.s));
        yes = λ e q l.
            let here_yes = says_yes m L st n x low is w d q l in
            let there_yes = says_yes m' L' (stack h) n' x' low' is' w' (sym w'.settled_is ∙ e) q l in
            (λ y. here_yes.1 (sym (same e q l) ∙ there_yes.0 y), λ y. there_yes.1 (same e q l ∙ here_yes.0 y));
        no = λ e q l.
            let here_no = says_no m L st n x low is w d q l in
            let there_no = says_no m' L' (stack h) n' x' low' is' w' (sym w'.settled_is ∙ e) q l in
            (λ y. here_no.1 (sym (same e q l) ∙ there_no.0 y), λ y. there_no.1 (same e q l ∙ here_no.0 y));
      }

-- a can-rule by its kind
pub bound_same : (m : Structure) (L : Limits m) (st : Stack) (n : ℕ) (low : Stack) (o : Temporal) (y : Standing) → y.kind ≡ Strategic Can o → found st n ≡ Some (y, low) → Here m L st n y low → settled_of m y (yes_states m low) ≡ true
    → (f : ℕ → ℕ) → IsBook m st n f → PlainParts o (formula low y.r) (formula low y.s) → (h : History) → Answered (bound m y.group f) h
    → (i : ℕ) (z : Standing) (below : Stack) → found (stack h) i ≡ Some (z, below) → formula (stack h) i ≡ rule (Strategic Can o) 0 0 (formula low y.r) (formula low y.s)
    → SameBound m y.group f st n (stack h) i z
bound_same m L st n low o y e =
    with_kind
    (λ (y : Standing). found st n ≡ Some (y, low) → Here m L st n y low → settled_of m y (yes_states m low) ≡ true
    → (f : ℕ → ℕ) → IsBook m st n f → PlainParts o (formula low y.r) (formula low y.s) → (h : History) → Answered (bound m y.group f) h
    → (i : ℕ) (z : Standing) (below : Stack) → found (stack h) i ≡ Some (z, below) → formula (stack h) i ≡ rule (Strategic Can o) 0 0 (formula low y.r) (formula low y.s)
    → SameBound m y.group f st n (stack h) i z)
    y (Strategic Can o) e (binds m L st n o y.group y.r y.s y.rounds low)
