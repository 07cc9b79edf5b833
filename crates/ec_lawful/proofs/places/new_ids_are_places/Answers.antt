use Rattle.ec_lawful.proofs.News.{ids-new}
use Rattle.ec_lawful.proofs.PlacesServe.{disk-there, fronts-there, kept-there}
use Rattle.ec_lawful.proofs.places.new_ids_are_places.Goals as goal

pub returns-clause-new : goal.returns-clause-new
returns-clause-new z = ids-new

pub returns-clause-places : goal.returns-clause-places
returns-clause-places z g top fresh formed above = (fronts-there g top fresh formed above, disk-there g top fresh formed above, kept-there g top fresh formed above)
