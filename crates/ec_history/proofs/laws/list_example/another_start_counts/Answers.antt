use Rattle.ec_history.proofs.laws.list_example.another_start_counts.Goals as goal

pub returns-clause-unfit : goal.returns-clause-unfit
returns-clause-unfit c h = h 2
