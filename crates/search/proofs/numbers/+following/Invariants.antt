use Rattle.search.proofs.numbers.+following.Given as goal

abbrev pub decreases-following : goal.decreases-following
decreases-following l = l.players
