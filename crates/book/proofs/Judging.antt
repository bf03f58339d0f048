-- Tests one after another: what passes, and where the first fails.
use Rattle.std.proofs.Common.{◌≡◌, ℕ, zero, suc, ◌+◌, ◌<◌, ◌≤◌, ◌⊎◌, [], ◌∷◌, ◌++◌, sym, ◌∙◌, subst, inl, inr, add-one, arith}
use Rattle.std.proofs.lemmas.Bool.{cases_lt}
use Rattle.book.specs.declared.fault.Fault.{Fault}
use Rattle.book.specs.Tests.{Tests, Passes, Fails, each, If}

pub passes-++ : (xs ys : Tests) → Passes xs → Passes ys → Passes (xs ++ ys)
passes-++ [] ys p q = q
passes-++ (x ∷ xs) ys p q = (p.0, passes-++ xs ys p.1 q)

pub passes_left : (xs ys : Tests) → Passes (xs ++ ys) → Passes xs
passes_left [] ys p = tt
passes_left (x ∷ xs) ys p = (p.0, passes_left xs ys p.1)

pub passes_right : (xs ys : Tests) → Passes (xs ++ ys) → Passes ys
passes_right [] ys p = p
passes_right (x ∷ xs) ys p = passes_right xs ys p.1

pub fails_left : (xs ys : Tests) (f : Fault) → Fails xs f → Fails (xs ++ ys) f
fails_left [] ys f e = absurd e
fails_left (x ∷ xs) ys f (inl a) = inl a
fails_left (x ∷ xs) ys f (inr b) = inr (b.0, fails_left xs ys f b.1)

pub fails_right : (xs ys : Tests) (f : Fault) → Passes xs → Fails ys f → Fails (xs ++ ys) f
fails_right [] ys f p e = e
fails_right (x ∷ xs) ys f p e = inr (p.0, fails_right xs ys f p.1 e)

pub each_more : (n : ℕ) (f : ℕ → Tests) → Passes (each n f) → Passes (f n) → Passes (each (n + 1) f)
each_more n f p q = rw add-one (passes-++ (each n f) (f n) p q)

pub each_stop : (n i : ℕ) (f : ℕ → Tests) (e : Fault) → i < n → Passes (each i f) → Fails (f i) e → Fails (each n f) e
each_stop zero i f e h p q = absurd (omega arith)
each_stop (suc n) i f e h p q = go (λ l. each_stop n i f e l p q) (cases_lt i n)
  where
    go : (i < n → Fails (each n f) e) → (i < n) ⊎ (n ≤ i) → Fails (each n f ++ f n) e
    go ih (inl l) = fails_left (each n f) (f n) e (ih l)
    go ih (inr g) =
        let s : i ≡ n = omega arith in
        fails_right (each n f) (f n) e (subst (λ k. Passes (each k f)) s p) (subst (λ k. Fails (f k) e) s q)

pub each_at : (n i : ℕ) (f : ℕ → Tests) → i < n → Passes (each n f) → Passes (f i)
each_at zero i f h p = absurd (omega arith)
each_at (suc n) i f h p = go (λ l. each_at n i f l (passes_left (each n f) (f n) p)) (cases_lt i n)
  where
    go : (i < n → Passes (f i)) → (i < n) ⊎ (n ≤ i) → Passes (f i)
    go ih (inl l) = ih l
    go ih (inr g) =
        let s : n ≡ i = omega arith in subst (λ k. Passes (f k)) s (passes_right (each n f) (f n) p)

pub each_all : (n : ℕ) (f : ℕ → Tests) → ((i : ℕ) → i < n → Passes (f i)) → Passes (each n f)
each_all zero f h = tt
each_all (suc n) f h = passes-++ (each n f) (f n) (each_all n f (λ i l. h i (omega arith))) (h n (omega arith))

-- a list that is passed has no first fault, and no other has two
pub not_both : (xs : Tests) (f : Fault) → Passes xs → Fails xs f → ⊥
not_both [] f p e = e
not_both (x ∷ xs) f p (inl a) = a.0 p.0
not_both (x ∷ xs) f p (inr b) = not_both xs f p.1 b.1

pub one_fault : (xs : Tests) (f g : Fault) → Fails xs f → Fails xs g → f ≡ g
one_fault [] f g p q = absurd p
one_fault (x ∷ xs) f g (inl a) (inl b) = a.1 ∙ sym b.1
one_fault (x ∷ xs) f g (inl a) (inr b) = absurd (a.0 b.0)
one_fault (x ∷ xs) f g (inr a) (inl b) = absurd (b.0 a.0)
one_fault (x ∷ xs) f g (inr a) (inr b) = one_fault xs f g a.1 b.1

pub if_passes : (C : Type 0) (ts : Tests) → (C → Passes ts) → Passes (If C ts)
if_passes C [] h = tt
if_passes C (t ∷ ts) h = (λ c. (h c).0, if_passes C ts (λ c. (h c).1))

pub if_fails : (C : Type 0) (ts : Tests) (f : Fault) → C → Fails ts f → Fails (If C ts) f
if_fails C [] f c e = e
if_fails C (t ∷ ts) f c (inl a) = inl (λ h. a.0 (h c), a.1)
if_fails C (t ∷ ts) f c (inr b) = inr (λ _. b.0, if_fails C ts f c b.1)

pub passes_if : (C : Type 0) (ts : Tests) → C → Passes (If C ts) → Passes ts
passes_if C [] c h = tt
passes_if C (t ∷ ts) c h = (h.0 c, passes_if C ts c h.1)
