use Rattle.binding.proofs.+all_first.Given as goal

abbrev pub decreases-all_first : goal.decreases-all_first
decreases-all_first l = l.players
