use Rattle.table.proofs.Calls.{does_erase}
use Rattle.table.proofs.types.Table.erase.Goals as goal

pub returns : goal.returns
returns c = λ m. does_erase m c.args.self.now c.pop.new.self c.pop.result c.pop.ensures.answer c.pop.ensures.table
