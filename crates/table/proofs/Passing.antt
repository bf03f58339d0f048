-- A pass over the states, one state further.
use Rattle.std.proofs.Common.{◌≡◌, ℕ, suc, ◌+◌, ◌<◌, Bool, true, false, cond, not, ◌&&◌, ◌||◌, eqb, ◌≢◌, List, length, get_or, set, sym, refl, ap, ◌∙◌, subst, ⊎_elim, add-one, arith, length-set, get_or-set_other, get_or-set_same}
use Rattle.std.proofs.lemmas.Bool.{cases_eq}
use Rattle.game.specs.Structure.{Structure}
use Rattle.game.specs.Serving.{set_of}
use Rattle.atl.specs.declared.Kind.{Kind}
use Rattle.atl.specs.declared.Mark.{Mark}
use Rattle.atl.specs.declared.Mark.TheVariants.{Open, Yes, No}
use Rattle.atl.specs.Rounds.{is_open, closed, tally, one_round}
use Rattle.table.specs.declared.types.Condition.{Condition}
use Rattle.table.specs.declared.types.Rule.{Rule}
use Rattle.table.specs.declared.types.Sets.{Sets}
use Rattle.table.specs.Shows.{condition_of}
use Rattle.table.specs.Steps.{rounds_in, is_settled, proposed, new_mark, gets_marked, Kept, Passed, Closed, Rounded}

-- one place of a list set, below n + 1 and from n + 1 on
module _ (xs : List Mark) (n : ℕ) (v : Mark) (l : n < length xs) where
  pub set_here : (q : ℕ) → n ≡ q → get_or (set xs n v) q Open ≡ v
  set_here q e = subst (λ i. get_or (set xs n v) i Open ≡ v) e (rw get_or-set_same)

  pub set_there : (q : ℕ) → (n ≡ q → ⊥) → get_or (set xs n v) q Open ≡ get_or xs q Open
  set_there q d = let ne : q ≢ n = λ e. d (sym e) in rw get_or-set_other

-- y with the mark of one state set
abbrev pub remarked : Rule → ℕ → Mark → Rule
remarked y q v = record { kind = y.kind; group = y.group; r = y.r; s = y.s; marks = set y.marks q v; condition = y.condition }

kept_remarked : (y y' : Rule) (q : ℕ) (v : Mark) → Kept y y' → Kept y (remarked y' q v)
kept_remarked y y' q v k = record { kind = k.kind; group = k.group; r = k.r; s = k.s; long = rw length-set k.long }

pub kept_refl : (y : Rule) → Kept y y
kept_refl y = record { kind = refl; group = refl; r = refl; s = refl; long = refl }

pub tally_more : (p : ℕ → Bool) (n c k : ℕ) → c ≡ tally p n → k ≡ cond (p n) 1 0 → c + k ≡ tally p (n + 1)
tally_more p n c k e f = rw add-one (omega (arith, e, f))

pub by_fields : (m : Structure) (R S X : ℕ → Bool) (q : ℕ) {c c' : Condition} {f f' : Kind} {A A' l l' : ℕ} {x x' : Mark} → c ≡ c' → f ≡ f' → A ≡ A' → l ≡ l' → x ≡ x'
    → cond (is_open x) (proposed m c f A l R S X q) x ≡ cond (is_open x') (proposed m c' f' A' l' R S X q) x'
by_fields m R S X q {c} {c'} {f} {f'} {A} {A'} {l} {l'} {x} {x'} ec ef eA el ex =
    ap (λ (z : Condition). by z f A l x) ec ∙ ap (λ (z : Kind). by c' z A l x) ef ∙ ap (λ z. by c' f' z l x) eA ∙ ap (λ z. by c' f' A' z x) el ∙ ap (λ (z : Mark). by c' f' A' l' z) ex
  where
    by : Condition → Kind → ℕ → ℕ → Mark → Mark
    by c f A l x = cond (is_open x) (proposed m c f A l R S X q) x

module _ (m : Structure) (y : Rule) (sets : Sets) where
  -- what a pass marks depends on what write took and on the condition alone
  same_new : (y' : Rule) → Kept y y' → y'.condition ≡ y.condition → (q : ℕ) (x : Mark) → new_mark m y' sets q x ≡ new_mark m y sets q x
  same_new y' k e q x = by_fields m (set_of sets.parts.r) (set_of sets.parts.s) (set_of sets.aim) q {x = x} e k.kind k.group k.r refl

  pub passed_none : Passed m y sets 0 y 0
  passed_none = record { kept = kept_refl y; condition = refl; passed = λ q l. absurd (omega arith); rest = λ q l. refl; counts = refl }

  pub passed_more : (n : ℕ) (y' : Rule) (c k : ℕ) (v : Mark) → n < length y'.marks → Passed m y sets n y' c
      → v ≡ new_mark m y' sets n (get_or y'.marks n Open) → k ≡ cond (is_open (get_or y'.marks n Open) && not (is_open v)) 1 0
      → Passed m y sets (n + 1) (remarked y' n v) (c + k)
  passed_more n y' c k v l p e f =
      let old : get_or y'.marks n Open ≡ get_or y.marks n Open = p.rest n (omega arith) in
      let new : v ≡ new_mark m y sets n (get_or y.marks n Open) = e ∙ same_new y' p.kept p.condition n (get_or y'.marks n Open) ∙ ap (new_mark m y sets n) old in
      record {
        kept = kept_remarked y y' n v p.kept;
        condition = p.condition;
        passed = λ q b. ⊎_elim
            (λ (i : n ≡ q). set_here y'.marks n v l q i ∙ new ∙ ap (λ (j : ℕ). new_mark m y sets j (get_or y.marks j Open)) i)
            (λ (i : n ≡ q → ⊥). set_there y'.marks n v l q i ∙ p.passed q (omega arith))
            (cases_eq n q);
        rest = λ q b. set_there y'.marks n v l q (λ i. omega arith) ∙ p.rest q (omega arith);
        counts = tally_more (gets_marked m y sets) n c k p.counts (f ∙ ap (λ (x : Mark). cond (is_open x && not (is_open v)) 1 0) old ∙ ap (λ (x : Mark). cond (is_open (get_or y.marks n Open) && not (is_open x)) 1 0) new);
      }

-- the whole round: a pass, then closed if it settles the rule
settled_when : (k : ℕ) (b : Bool) → is_settled (condition_of (suc k) b) ≡ b
settled_when k true = refl
settled_when k false = refl

pub unclosed : (f : Kind) (x : Mark) → closed f false x ≡ x
unclosed f Open = refl
unclosed f (Yes k) = refl
unclosed f (No k) = refl

-- y with another condition
abbrev pub moved : Rule → Condition → Rule
moved y c = record { kind = y.kind; group = y.group; r = y.r; s = y.s; marks = y.marks; condition = c }

-- the new condition, by the rule before the pass
pub moved_is : (m : Structure) (y y' : Rule) (sets : Sets) (n c : ℕ) (d : Condition) → Passed m y sets n y' c → rounds_in y.condition < 65535
    → (rounds_in y'.condition < 65535 → d ≡ condition_of (suc (rounds_in y'.condition)) (one_round y'.kind || eqb c 0))
    → d ≡ condition_of (suc (rounds_in y.condition)) (one_round y.kind || eqb c 0)
moved_is m y y' sets n c d p small e =
    e (subst (λ (x : Condition). rounds_in x < 65535) (sym p.condition) small)
    ∙ ap (λ (x : Condition). condition_of (suc (rounds_in x)) (one_round y'.kind || eqb c 0)) p.condition
    ∙ ap (λ (f : Kind). condition_of (suc (rounds_in y.condition)) (one_round f || eqb c 0)) p.kept.kind

module _ (m : Structure) (y y' : Rule) (sets : Sets) (c : ℕ) (d : Condition) (p : Passed m y sets m.states y' c)
    (e : d ≡ condition_of (suc (rounds_in y.condition)) (one_round y.kind || eqb c 0)) where
  abbrev done : Bool
  done = one_round y.kind || eqb c 0

  done_is : is_settled d ≡ done
  done_is = ap is_settled e ∙ settled_when (rounds_in y.condition) done

  pub rounded_on : is_settled d ≡ false → Rounded m y sets (moved y' d) c
  rounded_on f = record {
    kept = record { kind = p.kept.kind; group = p.kept.group; r = p.kept.r; s = p.kept.s; long = p.kept.long };
    condition = e;
    marks = λ q l. p.passed q l ∙ sym (unclosed y.kind (new_mark m y sets q (get_or y.marks q Open))) ∙ ap (λ (b : Bool). closed y.kind b (new_mark m y sets q (get_or y.marks q Open))) (sym f ∙ done_is);
    counts = p.counts;
  }

  pub rounded_closed : is_settled d ≡ true → (y'' : Rule) → Closed m.states (moved y' d) y'' → Rounded m y sets y'' c
  rounded_closed f y'' k = record {
    kept = record { kind = k.kept.kind ∙ p.kept.kind; group = k.kept.group ∙ p.kept.group; r = k.kept.r ∙ p.kept.r; s = k.kept.s ∙ p.kept.s; long = k.kept.long ∙ p.kept.long };
    condition = k.condition ∙ e;
    marks = λ q l. k.marks q l ∙ ap (λ (g : Kind). closed g true (get_or y'.marks q Open)) p.kept.kind ∙ ap (closed y.kind true) (p.passed q l) ∙ ap (λ (b : Bool). closed y.kind b (new_mark m y sets q (get_or y.marks q Open))) (sym f ∙ done_is);
    counts = p.counts;
  }
