-- The walk of a reader over the fields.
use Rattle.std.proofs.Common.{◌≡◌, ℕ, zero, suc, ◌+◌, ◌*◌, ◌<◌, ◌≤◌, ◌⊎◌, List, length, sym, ap, ◌∙◌, subst, inl, inr, add-one, arith}
use Rattle.std.proofs.lemmas.Bool.{cases_lt}
use Rattle.book.specs.declared.fault.Fault.{Fault}
use Rattle.book.specs.declared.field.FieldReader.{FieldReader}
use Rattle.book.specs.Tests.{Passes, Fails, each}
use Rattle.book.specs.Fields.{after, spot}
use Rattle.book.specs.Layout.{state_at, rule_at, states_tests, rules_tests, all_rules}
use Rattle.book.specs.Readers.{bytes_of, Stands, Passed}
use Rattle.book.proofs.Judging.{each_more, each_stop, each_all, each_at, if_passes, if_fails}

pub spot_grows : (bs : List ℕ) (p k : ℕ) → p + 3 * k ≤ spot bs p k
spot_grows bs p zero = omega arith
spot_grows bs p (suc k) = omega (arith, spot_grows bs p k)

pub spot_later : (bs : List ℕ) (p i k : ℕ) → i ≤ k → spot bs p i ≤ spot bs p k
spot_later bs p i zero h = let e : i ≡ 0 = omega arith in rw e (omega arith)
spot_later bs p i (suc k) h = go (λ l. spot_later bs p i k l) (cases_lt i (suc k))
  where
    go : (i ≤ k → spot bs p i ≤ spot bs p k) → (i < suc k) ⊎ (suc k ≤ i) → spot bs p i ≤ spot bs p (suc k)
    go ih (inl l) = let g : spot bs p i ≤ spot bs p k = ih (omega arith) in omega arith
    go ih (inr g) = let e : i ≡ suc k = omega arith in rw e (omega arith)

pub spot_more : (bs : List ℕ) (p k at next : ℕ) → at ≡ spot bs p k → next ≡ after bs at → next ≡ spot bs p (k + 1)
spot_more bs p k at next e h = h ∙ (ap (after bs) e ∙ sym (ap (spot bs p) (add-one k)))

-- what holds where a reader stands
module _ (bs : List ℕ) (p : ℕ) (r : FieldReader) (h : Stands bs p r) where
  pub here : (T : List ℕ → ℕ → Type 0) → T (bytes_of r) r.at → T bs p
  here T t = subst (T bs) h.place (subst (λ x. T x r.at) h.over t)

  -- another reader stands where r does, after k fields more
  pub further : (k : ℕ) (s : FieldReader) → Stands (bytes_of r) (spot (bytes_of r) r.at k) s → Stands bs (spot bs p k) s
  further k s g = here (λ x n. Stands x (spot x n k) s) g

-- a reader that began at p has passed k fields
module _ (bs : List ℕ) (p k : ℕ) (r : FieldReader) (h : Stands bs (spot bs p k) r) where
  pub step : (s : FieldReader) → Passed r s → Stands bs (spot bs p (k + 1)) s
  step s g = subst (λ x. Stands bs (spot bs p x) s) (sym (add-one k)) (further bs (spot bs p k) r h 1 s g)

  module _ (P N : ℕ) (done : Passes (each k (states_tests P N bs p))) where
    pub state_more : Passes (state_at P N (bytes_of r) r.at) → Passes (each (k + 1) (states_tests P N bs p))
    state_more g = each_more k (states_tests P N bs p) done (here bs (spot bs p k) r h (λ x n. Passes (state_at P N x n)) g)

    pub state_stop : (n : ℕ) (f : Fault) → k < n → Fails (state_at P N (bytes_of r) r.at) f → Fails (each n (states_tests P N bs p)) f
    state_stop n f l g = each_stop n k (states_tests P N bs p) f l done (here bs (spot bs p k) r h (λ x m. Fails (state_at P N x m) f) g)

  module _ (done : Passes (each k (rules_tests bs p))) where
    pub rule_more : Passes (rule_at (bytes_of r) r.at) → Passes (each (k + 1) (rules_tests bs p))
    rule_more g =
        each_more k (rules_tests bs p) done (if_passes (spot bs p k < length bs) (rule_at bs (spot bs p k)) (λ _. here bs (spot bs p k) r h (λ x n. Passes (rule_at x n)) g))

    pub rule_stop : (f : Fault) → r.at < length (bytes_of r) → Fails (rule_at (bytes_of r) r.at) f → Fails (all_rules bs p) f
    rule_stop f l g =
        let l' : spot bs p k < length bs = here bs (spot bs p k) r h (λ x n. n < length x) l in
        each_stop (length bs) k (rules_tests bs p) f (omega (arith, spot_grows bs p k)) done
        (if_fails (spot bs p k < length bs) (rule_at bs (spot bs p k)) f l' (here bs (spot bs p k) r h (λ x n. Fails (rule_at x n) f) g))

    pub rules_end : length (bytes_of r) ≤ r.at → Passes (all_rules bs p)
    rules_end l = each_all (length bs) (rules_tests bs p) (λ i _. go i (cases_lt i k))
      where
        go : (i : ℕ) → (i < k) ⊎ (k ≤ i) → Passes (rules_tests bs p i)
        go i (inl s) = each_at k i (rules_tests bs p) s done
        go i (inr s) =
            if_passes (spot bs p i < length bs) (rule_at bs (spot bs p i)) (λ c.
            absurd (omega (arith, spot_later bs p k i s, here bs (spot bs p k) r h (λ x n. length x ≤ n) l)))
