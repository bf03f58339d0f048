-- Looking rules up on a stack, and what a change leaves as it was.
use Rattle.std.proofs.Common.{◌≡◌, ℕ, suc, ◌<◌, ◌≤◌, true, cond, eqb, List, [], ◌∷◌, length, Some, None, sym, refl, ap, ◌∙◌, subst, ⊎_elim, true≢false, arith}
use mathlib.Core.Path.{fun_ext}
use Rattle.std.proofs.lemmas.Bool.{cases_eq, eq-eqb, ne_eqb, cond-true, cond-false}
use Rattle.game.specs.Structure.{Structure}
use Rattle.atl.specs.Rounds.{is_yes}
use Rattle.table.specs.declared.types.Rule.{Rule}
use Rattle.table.specs.Standing.{Standing, Stack, found, settled_of, mark_of, yes_states, settled, one_more, advanced}
use Rattle.table.specs.Shows.{rule_at, Right, Orderly, AllRight}

-- the top of a stack, and what is under it
module _ {A : Type 0} (below : Stack) (n : ℕ) (a b : A) where
  pub top : n ≡ length below → cond (eqb n (length below)) a b ≡ a
  top e = cond-true (eqb n (length below)) a b (eq-eqb n (length below) e)

  pub under : (n ≡ length below → ⊥) → cond (eqb n (length below)) a b ≡ b
  under d = cond-false (eqb n (length below)) a b (ne_eqb n (length below) d)

-- rule n of a stack that the table shows
pub record Found (m : Structure) (rules : List Rule) (st : Stack) (n : ℕ) : Type 0 where
  pub rule : Standing
  pub below : Stack
  pub is : found st n ≡ Some (rule, below)
  pub height : length below ≡ n
  pub orderly : Orderly m below rule
  pub right : Right m below rule (rule_at rules n)
  pub rest : AllRight m rules below
  pub yes_is : (q : ℕ) → yes_states m st n q ≡ is_yes (mark_of m rule (yes_states m below) q)
  pub settled_is : settled m st n ≡ settled_of m rule (yes_states m below)
  pub yes_low : (p : ℕ) → p < n → yes_states m st p ≡ yes_states m below p
  pub settled_low : (p : ℕ) → p < n → settled m st p ≡ settled m below p

pub find : (m : Structure) (rules : List Rule) (st : Stack) → AllRight m rules st → (n : ℕ) → n < length st → Found m rules st n
find m rules [] a n l = absurd (omega arith)
find m rules (x ∷ below) a n l =
    ⊎_elim
    (λ (e : n ≡ length below). record {
      rule = x;
      below = below;
      is = top below n _ _ e;
      height = sym e;
      orderly = a.0;
      right = subst (λ i. Right m below x (rule_at rules i)) (sym e) a.1;
      rest = a.2;
      yes_is = λ q. top below n _ _ e;
      settled_is = top below n _ _ e;
      yes_low = λ p d. fun_ext (λ q. under below p _ _ (λ i. omega arith));
      settled_low = λ p d. under below p _ _ (λ i. omega arith);
    })
    (λ (d : n ≡ length below → ⊥).
    let f = find m rules below a.2 n (omega (arith, (λ (e : n ≡ length below). d e))) in
    record {
      rule = f.rule;
      below = f.below;
      is = under below n _ _ d ∙ f.is;
      height = f.height;
      orderly = f.orderly;
      right = f.right;
      rest = f.rest;
      yes_is = λ q. under below n _ _ d ∙ f.yes_is q;
      settled_is = under below n _ _ d ∙ f.settled_is;
      yes_low = λ p b. fun_ext (λ q. under below p _ _ (λ i. omega (arith, f.height))) ∙ f.yes_low p b;
      settled_low = λ p b. under below p _ _ (λ i. omega (arith, f.height)) ∙ f.settled_low p b;
    })
    (cases_eq n (length below))

pub missing : (st : Stack) (n : ℕ) → length st ≤ n → found st n ≡ None
missing [] n l = refl
missing (x ∷ below) n l = under below n _ _ (λ e. omega arith) ∙ missing below n (omega arith)

pub settled_stands : (m : Structure) (st : Stack) (n : ℕ) → settled m st n ≡ true → n < length st
settled_stands m [] n e = absurd (true≢false (sym e))
settled_stands m (x ∷ below) n e =
    ⊎_elim
    (λ (i : n ≡ length below). omega arith)
    (λ (d : n ≡ length below → ⊥). omega (arith, settled_stands m below n (sym (under below n _ _ d) ∙ e)))
    (cases_eq n (length below))

pub length_advanced : (n : ℕ) (st : Stack) → length (advanced n st) ≡ length st
length_advanced n [] = refl
length_advanced n (x ∷ below) =
    ⊎_elim
    (λ (e : n ≡ length below). ap length (top below n (one_more x ∷ below) (x ∷ advanced n below) e))
    (λ (d : n ≡ length below → ⊥). ap length (under below n (one_more x ∷ below) (x ∷ advanced n below) d) ∙ ap suc (length_advanced n below))
    (cases_eq n (length below))
