-- What a write that is taken tells: there is room, and the parts stand.
use Rattle.std.proofs.Common.{◌≡◌, ℕ, ◌<◌, Bool, true, false, cond, not, eqb, ltb, Some, None, Ok, Err, Option, Result, sym, refl, ap, ◌∙◌, subst, arith}
use Rattle.std.proofs.lemmas.Bool.{ltb-true, eqb-false, cond-true, not-false, or_parts}
use Rattle.refusal.specs.declared.Refusal.{Refusal}
use Rattle.refusal.specs.declared.Refusal.TheVariants.{Full, NoGroup, NoPart}
use Rattle.atl.specs.declared.Kind.{Kind}
use Rattle.atl.specs.Kinds.{kind_of}
use Rattle.table.specs.Parts.{uses_r, uses_s, bad_group, bad_part}
use Rattle.table.specs.Answers.{below, taken_as, taken}

pub record Taken (height : ℕ) (f : Kind) (r s : ℕ) : Type 0 where
  pub room : height ≡ 32 → ⊥
  pub part_r : uses_r f ≡ true → r < height
  pub part_s : uses_s f ≡ true → s < height

-- a test that failed, in front of what is Ok
pub err_ok : {A X : Type 0} {e : Refusal} {a : A} → ◌≡◌ {A = Result A Refusal} (Err e) (Ok a) → X
err_ok q = absurd (let z : ◌≡◌ {A = ℕ} 0 1 = cc in omega arith)

pub err_err : {A B : Type 0} {e e' : Refusal} → ◌≡◌ {A = Result A Refusal} (Err e) (Err e') → ◌≡◌ {A = Result B Refusal} (Err e) (Err e')
err_err {e = e} {e' = e'} q = let z : e ≡ e' = cc in ap Err z

pub past : {A : Type 0} (b : Bool) (e : Refusal) (x : Result A Refusal) (a : A) → cond b (Err e) x ≡ Ok a → (b ≡ false) × (x ≡ Ok a)
past true e x a q = err_ok q
past false e x a q = (refl, q)

-- a part in use stands
stands_below : (u : Bool) (height n : ℕ) (x : Bool) → cond u (not (below height n)) x ≡ false → u ≡ true → n < height
stands_below u height n x e t = ltb-true n height (not-false (ltb n height) (sym (cond-true u (not (below height n)) x t) ∙ e))

taken_some : (players height : ℕ) (o : Option Kind) (A r s : ℕ) (f : Kind) → taken_as players height o A r s ≡ Ok f → bad_part (below height) f r s ≡ false
taken_some players height None A r s f e = err_ok e
taken_some players height (Some g) A r s f e =
    let p = past (bad_group players g A) NoGroup _ f e in
    let q = past (bad_part (below height) g r s) NoPart (Ok g) f p.1 in
    let same : g ≡ f = ok_ok g f q.1 in
    subst (λ (k : Kind). bad_part (below height) k r s ≡ false) same q.0
  where
    ok_ok : (a b : Kind) → ◌≡◌ {A = Result Kind Refusal} (Ok a) (Ok b) → a ≡ b
    ok_ok a b e = cc

pub taken_tells : (players height kind A r s : ℕ) (f : Kind) → taken players height kind A r s ≡ Ok f → Taken height f r s
taken_tells players height kind A r s f e =
    let p = past (eqb height 32) Full _ f e in
    let q = or_parts _ _ (taken_some players height (kind_of kind) A r s f p.1) in
    record { room = eqb-false height 32 p.0; part_r = stands_below (uses_r f) height r _ q.0; part_s = stands_below (uses_s f) height s _ q.1 }
