-- The tests of a whole book, from what its parts were read as.
use Rattle.std.proofs.Common.{ℕ, List, drop, subst}
use Rattle.book.specs.declared.fault.Fault.{Fault}
use Rattle.book.specs.declared.field.FieldReader.{FieldReader}
use Rattle.book.specs.declared.heading.Heading.{Heading}
use Rattle.book.specs.declared.rules.Rules.{Rules}
use Rattle.book.specs.Tests.{Tests, Passes, Fails, each}
use Rattle.book.specs.Fields.{value, spot}
use Rattle.book.specs.Layout.{heading_at, states_tests, all_states, all_rules, players_in, states_from, rules_from, parts_tests}
use Rattle.book.specs.Readers.{bytes_of, Stands, Heads, Headed, Over}
use Rattle.book.proofs.Judging.{passes-++, fails_left, fails_right}
use Rattle.book.proofs.Walks.{here, further}

-- the reader went from the heading to the states
module _ (bs : List ℕ) (r s : FieldReader) (h : Heading) (began : Stands bs 0 r) (headed : Headed r s h) where
  pub heads : Heads (value bs 0) h
  heads = here bs 0 r began (λ x n. Heads (value x n) h) headed.heads

  at_states : Stands bs (states_from bs) s
  at_states = further bs 0 r began 1 s headed.passed

  pub states_here : (T : Tests → Type 0) → T (each h.states (states_tests h.players h.states (bytes_of s) s.at)) → T (all_states bs)
  states_here T t =
      subst (λ N. T (each N (states_tests (players_in bs) N bs (states_from bs)))) heads.states
      (subst (λ P. T (each h.states (states_tests P h.states bs (states_from bs)))) heads.players
      (here bs (states_from bs) s at_states (λ x n. T (each h.states (states_tests h.players h.states x n))) t))

  -- and from there to the rules
  module _ (t : FieldReader) (over : Stands (bytes_of s) (spot (bytes_of s) s.at h.states) t) where
    at_rules : Stands bs (rules_from bs) t
    at_rules = subst (λ N. Stands bs (spot bs (states_from bs) N) t) heads.states (further bs (states_from bs) s at_states h.states t over)

    pub rules_here : (T : Tests → Type 0) → T (all_rules (bytes_of t) t.at) → T (all_rules bs (rules_from bs))
    rules_here T x = here bs (rules_from bs) t at_rules (λ y n. T (all_rules y n)) x

    pub rules_over : (u : Rules) → Over (drop t.at (bytes_of t)) u → Over (drop (rules_from bs) bs) u
    rules_over u o = here bs (rules_from bs) t at_rules (λ y n. Over (drop n y) u) o

-- the verdict on the parts together
module _ (bs : List ℕ) (heading : Passes (heading_at bs 0)) where
  pub bad_states : (f : Fault) → Fails (all_states bs) f → Fails (parts_tests bs) f
  bad_states f e = fails_right (heading_at bs 0) _ f heading (fails_left (all_states bs) _ f e)

  module _ (states : Passes (all_states bs)) where
    pub bad_rules : (f : Fault) → Fails (all_rules bs (rules_from bs)) f → Fails (parts_tests bs) f
    bad_rules f e = fails_right (heading_at bs 0) _ f heading (fails_right (all_states bs) _ f states e)

    pub good_book : Passes (all_rules bs (rules_from bs)) → Passes (parts_tests bs)
    good_book h = passes-++ (heading_at bs 0) _ heading (passes-++ (all_states bs) _ states h)
