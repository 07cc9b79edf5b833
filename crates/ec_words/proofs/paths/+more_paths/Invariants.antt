use Rattle.ec_words.proofs.paths.+more_paths.Given as goal

abbrev pub decreases-more_paths : goal.decreases-more_paths
decreases-more_paths l = l.most
