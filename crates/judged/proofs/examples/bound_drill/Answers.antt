use Rattle.std.proofs.Common.{set, ap, ◌∙◌, lit<}
use Rattle.binding.specs.Entries.{first_moves}
use Rattle.judged.proofs.Bindings.{sends_0, sends_1, rests_2, rests_3, follows}
use Rattle.judged.proofs.examples.bound_drill.Goals as goal

pub bind-requires : goal.bind-requires
bind-requires c = record { state = lit< tt; choice = sends_0; limit = ap (λ g. g.limit) c.new-binding.ensures.game ∙ c.drill.ensures; group = c.new-binding.ensures.group }

pub bind-requires-2 : goal.bind-requires-2
bind-requires-2 c = record { state = lit< tt; choice = sends_1; limit = c.bind.ensures.limit; group = c.bind.ensures.group }

pub bind-requires-3 : goal.bind-requires-3
bind-requires-3 c = record { state = lit< tt; choice = rests_2; limit = c.bind-2.ensures.limit; group = c.bind-2.ensures.group }

pub bind-requires-4 : goal.bind-requires-4
bind-requires-4 c = record { state = lit< tt; choice = rests_3; limit = c.bind-3.ensures.limit; group = c.bind-3.ensures.group }

pub returns : goal.returns
returns c = record {
  limit = c.bind-4.ensures.limit;
  group = c.bind-4.ensures.group;
  entries = follows (first_moves 2 3) c.bind-4.new.binding.entries.choices (
      c.bind-4.ensures.entries
      ∙ ap (λ l. set l 3 17) (c.bind-3.ensures.entries
      ∙ ap (λ l. set l 2 17) (c.bind-2.ensures.entries
      ∙ ap (λ l. set l 1 34) (c.bind.ensures.entries
      ∙ ap (λ l. set l 0 34) c.new-binding.ensures.entries))));
}
