use Rattle.ec_shown.proofs.call.+more_paths.Given as goal

abbrev pub decreases-more_paths : goal.decreases-more_paths
decreases-more_paths l = l.most
