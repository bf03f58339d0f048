use Rattle.report.proofs.types.StoppedFromAllocError.from.Goals as goal

pub returns : goal.returns
returns c = tt
