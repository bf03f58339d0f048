use Rattle.std.proofs.Common.{ap, ◌∙◌, subst}
use Rattle.drill.specs.Meaning.{drill}
use Rattle.binding.specs.Entries.{Judged}
use Rattle.judged.proofs.Bindings.{taken}
use Rattle.judged.proofs.examples.bind.Goals as goal

pub returns : goal.returns
returns c =
    let limit = c.requires.limit in
    let group = c.requires.group in
    let there = c.args.binding.now in
    let answer = subst (λ T. Judged (drill T) 3 c.args.state c.args.choice c.set.result) limit (subst (λ A. Judged (drill there.game.limit) A c.args.state c.args.choice c.set.result) group c.set.ensures.answer) in
    record {
      limit = ap (λ g. g.limit) c.set.ensures.game ∙ limit;
      group = c.set.ensures.group ∙ group;
      entries = taken (drill 1) 3 c.args.state c.args.choice there.entries.choices c.set.new.self.entries.choices c.set.result c.requires.state c.requires.choice answer c.set.ensures.entries;
    }
