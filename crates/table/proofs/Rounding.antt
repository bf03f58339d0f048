-- A round that is due takes a rule from the marks of its rounds so far to those of the next.
use Rattle.std.proofs.Common.{◌≡◌, ℕ, zero, suc, ◌+◌, ◌<◌, ◌≤◌, Bool, true, false, cond, not, ◌&&◌, ◌||◌, eqb, get_or, refl, ap, ◌∙◌, subst, ap₂, inr, ⊎_elim, arith}
use Rattle.std.proofs.lemmas.Bool.{cases_lt}
use Rattle.game.specs.Structure.{Structure, Limits}
use Rattle.game.specs.Serving.{set_of}
use Rattle.atl.specs.declared.Kind.{Kind}
use Rattle.atl.specs.declared.Mark.{Mark}
use Rattle.atl.specs.declared.Mark.TheVariants.{Open}
use Rattle.atl.specs.Rounds.{is_open, tally, newly, settles, one_round, closed}
use Rattle.atl.proofs.Quiet.{quiet_comes}
use Rattle.atl.proofs.Steps.{local}
use Rattle.table.specs.declared.types.Parts.{Parts}
use Rattle.table.specs.declared.types.Rule.{Rule}
use Rattle.table.specs.declared.types.Sets.{Sets}
use Rattle.table.specs.Parts.{uses_r, uses_s, waits}
use Rattle.table.specs.Standing.{Standing, Stack, marks_of, settled_of, yes_states, settled, one_more}
use Rattle.table.specs.Shows.{condition_of, Right, Orderly}
use Rattle.table.specs.Steps.{rounds_in, aimed, new_mark, gets_marked, Worked}
use Rattle.table.proofs.Marking.{Agrees, one_step}
use Rattle.table.proofs.Passing.{by_fields, unclosed}

pub rounds_of : (k : ℕ) (b : Bool) → rounds_in (condition_of k b) ≡ k
rounds_of zero b = refl
rounds_of (suc k) true = refl
rounds_of (suc k) false = refl

tally_same : (p p' : ℕ → Bool) (n : ℕ) → ((q : ℕ) → q < n → p q ≡ p' q) → tally p n ≡ tally p' n
tally_same p p' zero h = refl
tally_same p p' (suc n) h = ap₂ (λ (b : Bool) (k : ℕ). cond b 1 0 + k) (h n (omega arith)) (tally_same p p' n (λ q l. h q (omega arith)))

-- the rounds before a rule is settled are at most as many as the states
pub few_before : (m : Structure) (below : Stack) (x : Standing) → Orderly m below x → settled_of m x (yes_states m below) ≡ false → x.rounds ≤ m.states
few_before m below x o u =
    quiet_comes m x.group x.r (yes_states m below x.r) (yes_states m below x.s) m.states x.rounds x.kind
    (λ j l b. ⊎_elim
    (λ (d : j < x.rounds). o.going j d)
    (λ (d : x.rounds ≤ j). let e : x.rounds ≡ j = omega arith in subst (λ i. settles m.states x.kind (marks_of m x (yes_states m below)) i ≡ false) e u)
    (cases_lt j x.rounds))

module _ (m : Structure) (L : Limits m) (below : Stack) (x : Standing) (y : Rule) (o : Orderly m below x) (r : Right m below x y)
    (ready : waits (settled m below) x.kind x.r x.s ≡ false) (u : settled_of m x (yes_states m below) ≡ false)
    (parts : Parts)
    (is_r : uses_r x.kind ≡ true → (q : ℕ) → q < m.states → set_of parts.r q ≡ yes_states m below x.r q)
    (is_s : uses_s x.kind ≡ true → (q : ℕ) → q < m.states → set_of parts.s q ≡ yes_states m below x.s q) where
  abbrev M : ℕ → ℕ → Mark
  M = marks_of m x (yes_states m below)

  condition_is : y.condition ≡ condition_of x.rounds false
  condition_is = r.condition ∙ ap (condition_of x.rounds) u

  rounds_is : rounds_in y.condition ≡ x.rounds
  rounds_is = ap rounds_in condition_is ∙ rounds_of x.rounds false

  mark_is : (q : ℕ) → q < m.states → get_or y.marks q Open ≡ M x.rounds q
  mark_is q l = r.marks q l ∙ ap (λ (b : Bool). closed x.kind b (M x.rounds q)) u ∙ unclosed x.kind (M x.rounds q)

  pub small : rounds_in y.condition < 65535
  small = omega (arith, rounds_is, few_before m below x o u, L.many)

  module _ (y' : Rule) (c : ℕ) (w : Worked m y parts y' c) where
    abbrev sets : Sets
    sets = record { parts = parts; aim = w.aim }

    aim_is : (t : ℕ) → t < m.states → set_of w.aim t ≡ aimed x.kind (M x.rounds t)
    aim_is t l = w.aims t (omega (arith, L.many)) ∙ ap₂ (λ (f : Kind) (v : Mark). aimed f v) r.kind (mark_is t l)

    agrees : (q : ℕ) → q < m.states → Agrees m x.kind x.group x.r (yes_states m below x.r) (yes_states m below x.s) x.rounds q (set_of parts.r) (set_of parts.s) (set_of w.aim)
    agrees q l = record {
      at_r = λ b. is_r b q l;
      at_s = λ b. is_s b q l;
      hold_r = λ b v. local m L v x.group q l (set_of parts.r) (yes_states m below x.r) (is_r b);
      hold_aim = λ v. local m L v x.group q l (set_of w.aim) (λ t. aimed x.kind (M x.rounds t)) aim_is;
    }

    new_is : (q : ℕ) → q < m.states → new_mark m y sets q (get_or y.marks q Open) ≡ M (suc x.rounds) q
    new_is q l =
        by_fields m (set_of parts.r) (set_of parts.s) (set_of w.aim) q condition_is r.kind r.group r.r (mark_is q l)
        ∙ one_step m x.kind x.group x.r m.states x.rounds q (yes_states m below x.r) (yes_states m below x.s) (set_of parts.r) (set_of parts.s) (set_of w.aim) (agrees q l) u

    pub counts_is : c ≡ tally (newly M x.rounds) m.states
    counts_is = w.rounded.counts ∙ tally_same (gets_marked m y sets) (newly M x.rounds) m.states (λ q l. ap₂ (λ (a b : Mark). is_open a && not (is_open b)) (mark_is q l) (new_is q l))

    done_is : (one_round y.kind || eqb c 0) ≡ settled_of m (one_more x) (yes_states m below)
    done_is = ap₂ (λ (f : Kind) (n : ℕ). one_round f || eqb n 0) r.kind counts_is

    pub orderly_next : Orderly m below (one_more x)
    orderly_next = record {
      part_r = o.part_r;
      part_s = o.part_s;
      ready = inr ready;
      going = λ j l. ⊎_elim
          (λ (d : j < x.rounds). o.going j d)
          (λ (d : x.rounds ≤ j). let e : x.rounds ≡ j = omega arith in subst (λ i. settles m.states x.kind M i ≡ false) e u)
          (cases_lt j x.rounds);
    }

    pub right_next : Right m below (one_more x) y'
    right_next =
        let a = w.rounded in
        record {
          kind = a.kept.kind ∙ r.kind;
          group = a.kept.group ∙ r.group;
          r = a.kept.r ∙ r.r;
          s = a.kept.s ∙ r.s;
          condition = a.condition ∙ ap₂ (λ (k : ℕ) (b : Bool). condition_of (suc k) b) rounds_is done_is;
          long = a.kept.long ∙ r.long;
          marks = λ q l. a.marks q l ∙ ap₂ (λ (f : Kind) (b : Bool). closed f b (new_mark m y sets q (get_or y.marks q Open))) r.kind done_is ∙ ap (closed x.kind (settled_of m (one_more x) (yes_states m below))) (new_is q l);
        }
