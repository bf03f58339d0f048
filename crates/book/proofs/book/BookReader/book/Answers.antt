use Rattle.std.proofs.Common.{refl, rules}
use Rattle.std.proofs.lemmas.Result.{err_from_is_err_and}
use Rattle.book.specs.Tests.{Passes, Fails}
use Rattle.book.specs.Layout.{heading_at}
use Rattle.book.specs.Readers.{Stands}
use Rattle.book.proofs.Walks.{here}
use Rattle.book.proofs.Books.{heads, states_here, rules_here, rules_over, bad_states, bad_rules, good_book}
use Rattle.book.proofs.book.BookReader.book.Goals as goal

pub returns-in_err-states : goal.returns-in_err-states
returns-in_err-states c =
    let p = err_from_is_err_and c.from_residual-in_err-states.result c.from_residual-in_err-states.ensures.1 in
    let bs = c.args.self.now.records.fields.bytes.now in
    let r = c.args.self.now.records.fields in
    let s = c.heading.new.self.fields in
    let z : Stands bs 0 r = record { over = refl; place = c.requires } in
    let h = c.in_ok-heading.ensures in
    let f = c.in_err-states.field-0.0 in
    rw (p.1, p.2)
    (bad_states bs (here bs 0 r z (λ x n. Passes (heading_at x n)) h.0) f
    (states_here bs r s c.in_ok-heading.heading z h.1 (λ ts. Fails ts f) c.in_err-states.ensures))

pub returns-in_err-rules : goal.returns-in_err-rules
returns-in_err-rules c =
    let p = err_from_is_err_and c.from_residual-in_err-rules.result c.from_residual-in_err-rules.ensures.1 in
    let bs = c.args.self.now.records.fields.bytes.now in
    let r = c.args.self.now.records.fields in
    let s = c.heading.new.self.fields in
    let t = c.states.new.self.records.fields in
    let z : Stands bs 0 r = record { over = refl; place = c.requires } in
    let h = c.in_ok-heading.ensures in
    let j = c.in_ok-states.ensures in
    let f = c.in_err-rules.field-0.0 in
    rw (p.1, p.2)
    (bad_rules bs (here bs 0 r z (λ x n. Passes (heading_at x n)) h.0) (states_here bs r s c.in_ok-heading.heading z h.1 Passes j.0) f
    (rules_here bs r s c.in_ok-heading.heading z h.1 t j.1 (λ ts. Fails ts f) c.in_err-rules.ensures))

pub returns : goal.returns
returns c =
    let bs = c.args.self.now.records.fields.bytes.now in
    let r = c.args.self.now.records.fields in
    let s = c.heading.new.self.fields in
    let t = c.states.new.self.records.fields in
    let z : Stands bs 0 r = record { over = refl; place = c.requires } in
    let h = c.in_ok-heading.ensures in
    let j = c.in_ok-states.ensures in
    let k = c.in_ok-rules.ensures in
    let said = heads bs r s c.in_ok-heading.heading z h.1 in (
      good_book bs (here bs 0 r z (λ x n. Passes (heading_at x n)) h.0) (states_here bs r s c.in_ok-heading.heading z h.1 Passes j.0)
          (rules_here bs r s c.in_ok-heading.heading z h.1 t j.1 Passes k.0),
      record {
        bytes = search rules;
        players = said.players;
        states = said.states;
        start = said.start;
        rules = rules_over bs r s c.in_ok-heading.heading z h.1 t j.1 c.in_ok-rules.rules k.1;
      },
    )
