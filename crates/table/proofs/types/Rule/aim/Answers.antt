use Rattle.std.proofs.Common.{false, get_or, rules}
use Rattle.game.specs.Serving.{set_of}
use Rattle.atl.specs.declared.Mark.TheVariants.{Open}
use Rattle.table.specs.Steps.{aimed}
use Rattle.table.proofs.Filling.{filled}
use Rattle.table.proofs.types.Rule.aim.Goals as goal

pub returns : goal.returns
unfolding set_of
returns c = λ q l. filled _ _ (λ k. aimed c.args.self.now.kind (get_or c.args.self.now.marks k Open)) (λ k x f h. search rules) _ _ c.from_fn.ensures.items q false l
