use Rattle.std.proofs.Common.{false, rules}
use Rattle.game.specs.Serving.{set_of}
use Rattle.atl.specs.Playbook.{yes_below}
use Rattle.table.specs.Books.{marks_in}
use Rattle.table.proofs.Filling.{filled}
use Rattle.table.proofs.types.Rule.yes_states_below.Goals as goal

pub returns : goal.returns
unfolding set_of
returns c = λ q l. filled _ _ (λ k. yes_below c.args.number (marks_in c.args.self.now k)) (λ k x f h. search rules) _ _ c.from_fn.ensures.items q false l
