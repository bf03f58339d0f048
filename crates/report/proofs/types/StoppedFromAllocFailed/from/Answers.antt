use Rattle.report.proofs.types.StoppedFromAllocFailed.from.Goals as goal

pub returns : goal.returns
returns g c = tt
