-- What an array's from_fn makes, where the closure is a function of the index.
use Rattle.std.proofs.Common.{◌≡◌, ℕ, zero, suc, ◌+◌, ◌<◌, ◌≤◌, List, get_or, refl, ◌∙◌, ⊎_elim, arith}
use Rattle.std.proofs.lemmas.Bool.{cases_eq}
use Rattle.std.specs.Array.{IsFromFnResultFrom, IsFromFnResult}
use Rattle.std.specs.Iterator.{ActsAs}
use denote.Param.Members.{Mut}

module _ {F A : Type 0} (g : Mut F (ℕ × Unit {0}) A) (f : F) (v : ℕ → A) (acts : ActsAs g f v) where
  filled_from : (xs : List A) (i n : ℕ) (p : F) → p ≡ f → IsFromFnResultFrom g p xs i n → (k : ℕ) (d : A) → i ≤ k → k < i + n → get_or xs k d ≡ v k
  filled_from xs i zero p same m k d low high = absurd (omega arith)
  filled_from xs i (suc n) p same m k d low high =
      let c = acts i m.1 m.0 (rw same at m.3) in
      ⊎_elim
      (λ (at : i ≡ k). rw (← at) (m.2.1 d ∙ c.1))
      (λ (past : i ≡ k → ⊥). filled_from xs (i + 1) n m.0 c.0 m.4 k d (omega arith) (omega arith))
      (cases_eq i k)

  pub filled : (xs : List A) (n : ℕ) → IsFromFnResult g f xs n → (k : ℕ) (d : A) → k < n → get_or xs k d ≡ v k
  filled xs n m k d l = filled_from xs 0 n f refl m.each k d (omega arith) (omega arith)
