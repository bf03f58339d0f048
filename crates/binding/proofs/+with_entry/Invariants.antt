use Rattle.binding.proofs.+with_entry.Given as goal

abbrev pub decreases-with_entry : goal.decreases-with_entry
decreases-with_entry l = l.players
