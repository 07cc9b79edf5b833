use Rattle.ec_machine_laws.proofs.Wanting.{all-news, no-news}
use Rattle.ec_machine_laws.proofs.rounds.told_holders_are_no_news.Goals as goal

pub returns-clause-all : goal.returns-clause-all
returns-clause-all c = all-news

pub returns-clause-none : goal.returns-clause-none
returns-clause-none c = no-news
