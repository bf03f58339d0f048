-- One round of one rule: what the code marks is what the next round marks.
use Rattle.std.proofs.Common.{◌≡◌, ℕ, zero, suc, Bool, true, false, cond, not, ◌&&◌, ◌||◌, sym, refl, ap, ◌∙◌, ap₂, true≢false}
use Rattle.std.proofs.lemmas.Bool.{or_parts, not-false}
use Rattle.game.specs.Structure.{Structure}
use Rattle.atl.specs.declared.Kind.{Kind}
use Rattle.atl.specs.declared.Kind.TheVariants.{Label, Not, Or, Strategic}
use Rattle.atl.specs.declared.Modality.{Modality}
use Rattle.atl.specs.declared.Temporal.TheVariants.{Next, Until, Unless}
use Rattle.atl.specs.declared.Mark.{Mark}
use Rattle.atl.specs.declared.Mark.TheVariants.{Open, Yes, No}
use Rattle.atl.specs.Rounds.{holds, is_open, is_yes, once, until_marks, unless_marks, marks, settles}
use Rattle.table.specs.Parts.{uses_r, uses_s, waits}
use Rattle.table.specs.Shows.{condition_of}
use Rattle.table.specs.Steps.{aimed, proposed}

-- a rule looks only at the parts that it uses
pub marks_same : (m : Structure) (f : Kind) (A l : ℕ) (R S R' S' : ℕ → Bool) → (uses_r f ≡ true → R ≡ R') → (uses_s f ≡ true → S ≡ S') → marks m f A l R S ≡ marks m f A l R' S'
marks_same m Label A l R S R' S' r s = refl
marks_same m Not A l R S R' S' r s = ap (λ (X : ℕ → Bool). λ (k q : ℕ). once (not (X q)) k) (r refl)
marks_same m Or A l R S R' S' r s = ap₂ (λ (X Y : ℕ → Bool). λ (k q : ℕ). once (X q || Y q) k) (r refl) (s refl)
marks_same m (Strategic w Next) A l R S R' S' r s = ap (λ (X : ℕ → Bool). λ (k q : ℕ). once (holds m w A q X) k) (r refl)
marks_same m (Strategic w Until) A l R S R' S' r s = ap₂ (λ (X Y : ℕ → Bool). λ (k q : ℕ). until_marks (holds m w A) X Y k q) (r refl) (s refl)
marks_same m (Strategic w Unless) A l R S R' S' r s = ap₂ (λ (X Y : ℕ → Bool). λ (k q : ℕ). unless_marks (holds m w A) X Y k q) (r refl) (s refl)

-- a rule that waits for nothing has its parts settled
used_done : (u d : Bool) → (u && not d) ≡ false → u ≡ true → d ≡ true
used_done true d e t = not-false d e
used_done false d e t = absurd (true≢false (sym t))

module _ (done : ℕ → Bool) (f : Kind) (r s : ℕ) (w : waits done f r s ≡ false) where
  pub done_r : uses_r f ≡ true → done r ≡ true
  done_r = used_done (uses_r f) (done r) (or_parts (uses_r f && not (done r)) (uses_s f && not (done s)) w).0

  pub done_s : uses_s f ≡ true → done s ≡ true
  done_s = used_done (uses_s f) (done s) (or_parts (uses_r f && not (done r)) (uses_s f && not (done s)) w).1

-- no mark at first
pub open_first : (m : Structure) (f : Kind) (A l : ℕ) (R S : ℕ → Bool) (q : ℕ) → marks m f A l R S 0 q ≡ Open
open_first m Label A l R S q = refl
open_first m Not A l R S q = refl
open_first m Or A l R S q = refl
open_first m (Strategic w Next) A l R S q = refl
open_first m (Strategic w Until) A l R S q = refl
open_first m (Strategic w Unless) A l R S q = refl

-- what a state with this mark gets, once the proposal is x where it is open
later : (x y : Mark) (b : Bool) → cond (is_open x) (cond b y Open) x ≡ cond (is_open x && b) y x
later Open y true = refl
later Open y false = refl
later (Yes k) y b = refl
later (No k) y b = refl

-- R', S' and X agree with the yes states of the parts and with what the round aims at, as far as the state q can tell
pub record Agrees (m : Structure) (f : Kind) (A l : ℕ) (R S : ℕ → Bool) (k q : ℕ) (R' S' X : ℕ → Bool) : Type 0 where
  pub at_r : uses_r f ≡ true → R' q ≡ R q
  pub at_s : uses_s f ≡ true → S' q ≡ S q
  pub hold_r : uses_r f ≡ true → (w : Modality) → holds m w A q R' ≡ holds m w A q R
  pub hold_aim : (w : Modality) → holds m w A q X ≡ holds m w A q (λ t. aimed f (marks m f A l R S k t))

pub one_step : (m : Structure) (f : Kind) (A l n k q : ℕ) (R S R' S' X : ℕ → Bool) → Agrees m f A l R S k q R' S' X → settles n f (marks m f A l R S) k ≡ false
    → cond (is_open (marks m f A l R S k q)) (proposed m (condition_of k false) f A l R' S' X q) (marks m f A l R S k q) ≡ marks m f A l R S (suc k) q
one_step m Label A l n zero q R S R' S' X a u = refl
one_step m Label A l n (suc k) q R S R' S' X a u = absurd (true≢false u)
one_step m Not A l n zero q R S R' S' X a u = ap (λ b. once (not b) 1) (a.at_r refl)
one_step m Not A l n (suc k) q R S R' S' X a u = absurd (true≢false u)
one_step m Or A l n zero q R S R' S' X a u = ap₂ (λ b c. once (b || c) 1) (a.at_r refl) (a.at_s refl)
one_step m Or A l n (suc k) q R S R' S' X a u = absurd (true≢false u)
one_step m (Strategic w Next) A l n zero q R S R' S' X a u = ap (λ b. once b 1) (a.hold_r refl w)
one_step m (Strategic w Next) A l n (suc k) q R S R' S' X a u = absurd (true≢false u)
one_step m (Strategic w Until) A l n zero q R S R' S' X a u = ap (λ b. cond b (Yes 0) Open) (a.at_s refl)
one_step m (Strategic w Until) A l n (suc k) q R S R' S' X a u =
    let M = until_marks (holds m w A) R S (suc k) q in
    ap₂ (λ b c. cond (is_open M) (cond (b && c) (Yes (suc k)) Open) M) (a.at_r refl) (a.hold_aim w)
    ∙ later M (Yes (suc k)) (R q && holds m w A q (λ t. is_yes (until_marks (holds m w A) R S (suc k) t)))
one_step m (Strategic w Unless) A l n zero q R S R' S' X a u = ap₂ (λ b c. cond (not b && not c) (No 0) Open) (a.at_r refl) (a.at_s refl)
one_step m (Strategic w Unless) A l n (suc k) q R S R' S' X a u =
    let M = unless_marks (holds m w A) R S (suc k) q in
    ap₂ (λ b c. cond (is_open M) (cond (not b && not c) (No (suc k)) Open) M) (a.at_s refl) (a.hold_aim w)
    ∙ later M (No (suc k)) (not (S q) && not (holds m w A q (λ t. is_open (unless_marks (holds m w A) R S (suc k) t))))
