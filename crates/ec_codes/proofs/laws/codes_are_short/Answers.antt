use Rattle.ec_codes.specs.LengthLaws.{update_long, file_long, dir_long}
use Rattle.ec_codes.proofs.laws.codes_are_short.Goals as goal

pub returns-clause-update : goal.returns-clause-update
returns-clause-update c = update_long

pub returns-clause-file : goal.returns-clause-file
returns-clause-file c = file_long

pub returns-clause-directory : goal.returns-clause-directory
returns-clause-directory c = dir_long
