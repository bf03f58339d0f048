-- Why judging stopped.
use Rattle.std.specs.Prelude.{⊤}
use Rattle.report.specs.declared.types.Stopped.{Stopped}
use Rattle.report.specs.declared.types.Stopped.TheVariants.{RefusedAt, NoMemory}

abbrev pub IsNoMemory : Stopped → Type 0
IsNoMemory (RefusedAt n e) = ⊥
IsNoMemory (NoMemory e) = ⊤
