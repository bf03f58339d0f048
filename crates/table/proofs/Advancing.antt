-- One more round of one rule leaves the others right: such a rule is fresh, or its parts are settled and hence another rule.
use Rattle.std.proofs.Common.{◌≡◌, ℕ, zero, suc, ◌<◌, ◌≤◌, Bool, true, false, not, ◌&&◌, ◌≢◌, ◌⊎◌, List, [], ◌∷◌, length, set, Some, sym, refl, ap, ◌∙◌, subst, ap₂, inl, inr, ⊎_elim, true≢false, arith, get_or-set_other, get_or-set_same}
use mathlib.Core.Path.{fun_ext}
use Rattle.std.proofs.lemmas.Bool.{cases_eq, or_from, not_from_true}
use Rattle.game.specs.Structure.{Structure}
use Rattle.atl.specs.declared.Kind.{Kind}
use Rattle.atl.specs.declared.Mark.{Mark}
use Rattle.atl.specs.Rounds.{settles, closed, is_yes}
use Rattle.table.specs.declared.types.Rule.{Rule}
use Rattle.table.specs.Parts.{uses_r, uses_s, waits}
use Rattle.table.specs.Standing.{Standing, Stack, found, marks_of, settled_of, mark_of, yes_states, settled, one_more, advanced}
use Rattle.table.specs.Shows.{rule_at, condition_of, Right, Orderly, AllRight}
use Rattle.table.proofs.Marking.{marks_same, done_r, done_s, open_first}
use Rattle.table.proofs.Stacks.{top, under, length_advanced}

-- a part that has settled is not waited for
done_waits : (u d : Bool) → (u ≡ true → d ≡ true) → (u && not d) ≡ false
done_waits true d h = not_from_true d (h refl)
done_waits false d h = refl

pub waits_not : (done : ℕ → Bool) (f : Kind) (r s : ℕ) → (uses_r f ≡ true → done r ≡ true) → (uses_s f ≡ true → done s ≡ true) → waits done f r s ≡ false
waits_not done f r s h k = or_from _ _ (done_waits (uses_r f) (done r) h) (done_waits (uses_s f) (done s) k)

-- a fresh rule is not settled
pub fresh_settles : (n : ℕ) (f : Kind) (M : ℕ → ℕ → Mark) (k : ℕ) → k ≡ 0 → settles n f M k ≡ false
fresh_settles n f M zero e = refl
fresh_settles n f M (suc k) e = absurd (omega arith)

-- A rule over two views of the rules below it, which agree where it looks or do not matter since it is fresh.
module _ (m : Structure) (x : Standing) (Y Y' : ℕ → ℕ → Bool) (h : (x.rounds ≡ 0) ⊎ (marks_of m x Y ≡ marks_of m x Y')) where
  pub same_settled : settled_of m x Y ≡ settled_of m x Y'
  same_settled = ⊎_elim
      (λ (e : x.rounds ≡ 0). fresh_settles m.states x.kind (marks_of m x Y) x.rounds e ∙ sym (fresh_settles m.states x.kind (marks_of m x Y') x.rounds e))
      (λ (e : marks_of m x Y ≡ marks_of m x Y'). ap (λ (M : ℕ → ℕ → Mark). settles m.states x.kind M x.rounds) e)
      h

  same_marks : (q : ℕ) → marks_of m x Y x.rounds q ≡ marks_of m x Y' x.rounds q
  same_marks q = ⊎_elim
      (λ (e : x.rounds ≡ 0). rw e (open_first m x.kind x.group x.r (Y x.r) (Y x.s) q ∙ sym (open_first m x.kind x.group x.r (Y' x.r) (Y' x.s) q)))
      (λ (e : marks_of m x Y ≡ marks_of m x Y'). ap (λ (M : ℕ → ℕ → Mark). M x.rounds q) e)
      h

  pub same_mark : (q : ℕ) → mark_of m x Y q ≡ mark_of m x Y' q
  same_mark q = ap₂ (λ (b : Bool) (v : Mark). closed x.kind b v) same_settled (same_marks q)

  pub same_going : (j : ℕ) → j < x.rounds → settles m.states x.kind (marks_of m x Y) j ≡ settles m.states x.kind (marks_of m x Y') j
  same_going j l = ⊎_elim
      (λ (e : x.rounds ≡ 0). absurd (omega arith))
      (λ (e : marks_of m x Y ≡ marks_of m x Y'). ap (λ (M : ℕ → ℕ → Mark). settles m.states x.kind M j) e)
      h

module _ (m : Structure) (rules : List Rule) (n : ℕ) where
  -- the settled rules of the stack stay as they are
  abbrev KeptSettled : Stack → Type 0
  KeptSettled st = (p : ℕ) → settled m st p ≡ true → (yes_states m (advanced n st) p ≡ yes_states m st p) × (settled m (advanced n st) p ≡ true)

  -- what is below x changes nothing for x
  below_same : (x : Standing) (below : Stack) → Orderly m below x → KeptSettled below → (x.rounds ≡ 0) ⊎ (marks_of m x (yes_states m below) ≡ marks_of m x (yes_states m (advanced n below)))
  below_same x below o k = ⊎_elim inl
      (λ (w : waits (settled m below) x.kind x.r x.s ≡ false).
      inr (marks_same m x.kind x.group x.r _ _ _ _
      (λ u. sym (k x.r (done_r (settled m below) x.kind x.r x.s w u)).0)
      (λ u. sym (k x.s (done_s (settled m below) x.kind x.r x.s w u)).0)))
      o.ready

  kept_settled : (st : Stack) → AllRight m rules st → settled m st n ≡ false → KeptSettled st
  kept_settled [] a u p e = absurd (true≢false (sym e))
  kept_settled (x ∷ below) a u p e = ⊎_elim
      (λ (i : n ≡ length below).
      let d : p ≡ length below → ⊥ = λ j. true≢false (sym e ∙ ap (settled m (x ∷ below)) (j ∙ sym i) ∙ u) in
      subst (λ (st : Stack). (yes_states m st p ≡ yes_states m (x ∷ below) p) × (settled m st p ≡ true)) (sym (top below n (one_more x ∷ below) (x ∷ advanced n below) i))
      (fun_ext (λ q. under below p _ _ d ∙ sym (under below p _ _ d)), under below p _ _ d ∙ sym (under below p _ _ d) ∙ e))
      (λ (i : n ≡ length below → ⊥).
      let k = kept_settled below a.2 (sym (under below n _ _ i) ∙ u) in
      subst (λ (st : Stack). (yes_states m st p ≡ yes_states m (x ∷ below) p) × (settled m st p ≡ true)) (sym (under below n (one_more x ∷ below) (x ∷ advanced n below) i))
      (⊎_elim
      (λ (j : p ≡ length below).
      let j' : p ≡ length (advanced n below) = j ∙ sym (length_advanced n below) in
      let s = below_same x below a.0 k in (
        fun_ext (λ q. top (advanced n below) p _ _ j' ∙ ap is_yes (sym (same_mark m x (yes_states m below) (yes_states m (advanced n below)) s q)) ∙ sym (top below p _ _ j)),
        top (advanced n below) p _ _ j' ∙ sym (same_settled m x (yes_states m below) (yes_states m (advanced n below)) s) ∙ sym (top below p _ _ j) ∙ e,
      ))
      (λ (j : p ≡ length below → ⊥).
      let j' : p ≡ length (advanced n below) → ⊥ = λ i. j (i ∙ length_advanced n below) in
      let h = k p (sym (under below p _ _ j) ∙ e) in
      (fun_ext (λ q. under (advanced n below) p _ _ j' ∙ ap (λ (f : ℕ → Bool). f q) h.0 ∙ sym (under below p _ _ j)), under (advanced n below) p _ _ j' ∙ h.1))
      (cases_eq p (length below))))
      (cases_eq n (length below))

  -- the records of the lower rules are not touched
  pub untouched : (y : Rule) (st : Stack) → length st ≤ n → AllRight m rules st → AllRight m (set rules n y) st
  untouched y [] l a = tt
  untouched y (x ∷ below) l a = (a.0, subst (Right m below x) (sym (other_rule y (length below) (λ e. omega arith))) a.1, untouched y below (omega arith) a.2)
    where
      other_rule : (y : Rule) (i : ℕ) → (i ≡ n → ⊥) → rule_at (set rules n y) i ≡ rule_at rules i
      other_rule y i d = let ne : i ≢ n = d in rw get_or-set_other

  pub advance : (y : Rule) → n < length rules → (st : Stack) → AllRight m rules st → settled m st n ≡ false
      → ((x : Standing) (below : Stack) → found st n ≡ Some (x, below) → Orderly m below (one_more x) × Right m below (one_more x) y)
      → AllRight m (set rules n y) (advanced n st)
  advance y l [] a u new = tt
  advance y l (x ∷ below) a u new = ⊎_elim
      (λ (i : n ≡ length below).
      let r = new x below (top below n _ _ i) in
      subst (λ (st : Stack). AllRight m (set rules n y) st) (sym (top below n (one_more x ∷ below) (x ∷ advanced n below) i))
      (r.0, subst (λ j. Right m below (one_more x) (rule_at (set rules n y) j)) i (subst (Right m below (one_more x)) (sym same_rule) r.1), untouched y below (omega arith) a.2))
      (λ (i : n ≡ length below → ⊥).
      let u' : settled m below n ≡ false = sym (under below n _ _ i) ∙ u in
      let k = kept_settled below a.2 u' in
      let s = below_same x below a.0 k in
      let Y = yes_states m below in
      let Y' = yes_states m (advanced n below) in
      let e : length (advanced n below) ≡ length below = length_advanced n below in
      subst (λ (st : Stack). AllRight m (set rules n y) st) (sym (under below n (one_more x ∷ below) (x ∷ advanced n below) i)) (
        record {
          part_r = λ b. omega (arith, a.0.part_r b, e);
          part_s = λ b. omega (arith, a.0.part_s b, e);
          ready = ⊎_elim inl (λ (w : waits (settled m below) x.kind x.r x.s ≡ false). inr (waits_not (settled m (advanced n below)) x.kind x.r x.s
              (λ b. (k x.r (done_r (settled m below) x.kind x.r x.s w b)).1)
              (λ b. (k x.s (done_s (settled m below) x.kind x.r x.s w b)).1))) a.0.ready;
          going = λ j b. sym (same_going m x Y Y' s j b) ∙ a.0.going j b;
        },
        subst (Right m (advanced n below) x) (sym (other_rule (length (advanced n below)) (λ j. i (sym j ∙ e)) ∙ ap (rule_at rules) e))
            (record {
              kind = a.1.kind;
              group = a.1.group;
              r = a.1.r;
              s = a.1.s;
              condition = a.1.condition ∙ ap (condition_of x.rounds) (same_settled m x Y Y' s);
              long = a.1.long;
              marks = λ q b. a.1.marks q b ∙ same_mark m x Y Y' s q;
            }),
        advance y l below a.2 u' (λ z b e. new z b (under below n _ _ i ∙ e)),
      ))
      (cases_eq n (length below))
    where
      same_rule : rule_at (set rules n y) n ≡ y
      same_rule = rw get_or-set_same

      other_rule : (i : ℕ) → (i ≡ n → ⊥) → rule_at (set rules n y) i ≡ rule_at rules i
      other_rule i d = let ne : i ≢ n = d in rw get_or-set_other
