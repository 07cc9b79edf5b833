use Rattle.std.proofs.Common.{arith}
use Rattle.ec_volume.specs.Volume.{formatted, Fits}
use Rattle.ec_history.specs.Legal.{IsLegal}
use Rattle.ec_history.proofs.OfLaws.ForPlacing.Objects.{fits-tried}
use Rattle.ec_history.specs.OfLaws.Example.{two_files, writes}
use Rattle.ec_history.specs.OfLaws.Bases.{AreAtLines}
use Rattle.ec_history.specs.OfLaws.FormedExample.{building}
use Rattle.ec_history.proofs.OfLaws.ForFormed.Formatted.{formatted-formed, formatted-reached}
use Rattle.ec_history.proofs.OfLaws.ForFormed.KeptFormed.{kept-formed, kept-held}
use Rattle.ec_history.proofs.OfLaws.ForFormed.Laws.{kept-reached, call-sound, call-fits}
use Rattle.ec_history.proofs.OfLaws.ForFormed.Keeping.{whole}
use Rattle.ec_history.proofs.OfLaws.ForFormed.Bases.{base-formatted, base-files}
use Rattle.ec_history.proofs.OfLaws.ForFormed.Ring.{base-ring, ring-unreached}
use Rattle.ec_history.proofs.laws.formed_example.formed_premises_can_be_met.Goals as goal

pub returns-clause-built : goal.returns-clause-built
returns-clause-built c =
    let fits : Fits formatted building = fits-tried formatted building tt in
    (kept-formed formatted building formatted-formed tt fits, kept-reached formatted building formatted-formed formatted-reached tt fits)

pub returns-clause-bases : goal.returns-clause-bases
returns-clause-bases c = (base-formatted, base-files)

pub returns-clause-ring : goal.returns-clause-ring
returns-clause-ring c = (base-ring, ring-unreached)

pub returns-clause-kept : goal.returns-clause-kept
returns-clause-kept c =
    let lines : AreAtLines writes = record { from_one = (omega arith, (omega arith, tt)); apart = tt; bounded = tt } in
    let legal : IsLegal two_files 1024 writes = search in
    whole kept-formed kept-reached call-sound call-fits kept-held two_files base-files 1024 writes lines legal
