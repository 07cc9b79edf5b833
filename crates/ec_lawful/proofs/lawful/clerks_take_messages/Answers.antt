use Rattle.ec_lawful.proofs.Taken.{messages-done, messages-stand}
use Rattle.ec_lawful.proofs.lawful.clerks_take_messages.Goals as goal

pub returns-clause-stand : goal.returns-clause-stand
returns-clause-stand z g whole c b k runs at-start m p q = messages-stand g whole c b k runs at-start m p q

pub returns-clause-done : goal.returns-clause-done
returns-clause-done z g whole c b k runs at-start tries m p q = messages-done g whole c b k runs at-start tries m p q
