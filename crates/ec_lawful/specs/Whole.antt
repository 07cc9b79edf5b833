-- All facts of a system, taken together.
use Rattle.ec_coherence.specs.System.{System}
use Rattle.ec_coherence.specs.CommitLaws.{AllAgree}
use Rattle.ec_lawful.specs.OfClerkSteps.Calls.{CallsAgree}
use Rattle.ec_lawful.specs.OfClerkSteps.Waits.{AreAtRest}
use Rattle.ec_lawful.specs.OfClerkSteps.Orderly.{OrderlyAgree}
use Rattle.ec_lawful.specs.OfClerkSteps.Names.{NamesAgree}
use Rattle.ec_lawful.specs.OfClerkSteps.Cuts.{CutsAgree}
use Rattle.ec_lawful.specs.OfClerkSteps.Counts.{CountsAgree}
use Rattle.ec_lawful.specs.OfClerkSteps.Zeros.{ZerosAgree}
use Rattle.ec_lawful.specs.OfClerkSteps.Frees.{FreesAgree, FullsAgree}
use Rattle.ec_lawful.specs.Doubts.{DoubtAgrees}
use Rattle.ec_lawful.specs.HeadlineLaws.{TellsAll}
use Rattle.ec_lawful.specs.Fresh.{FreshAgrees}

-- The lines tell what became of each operation, each front of them is lawful, and new objects have new ids.
pub record ShowsAll (g : System) : Type 0 where
  pub tells : TellsAll g
  pub fresh : FreshAgrees g

pub record Whole (g : System) : Type 0 where
  -- sessions, tokens, logs, images, the history and what lines show
  pub all : AllAgree g
  -- calls under way: each waits, and has its line
  pub calls : CallsAgree g
  pub rest : AreAtRest g
  -- each start's clerk by itself
  pub orderly : OrderlyAgree g
  -- ids: what is kept or seen names ids that were given out, no id is 0, and those in store are of no object
  pub names : NamesAgree g
  pub zeros : ZerosAgree g
  pub frees : FreesAgree g
  -- starts that are cut off, or that don't run
  pub cuts : CutsAgree g
  pub counts : CountsAgree g
  -- refusals for want of room, and a record in doubt
  pub fulls : FullsAgree g
  pub doubts : DoubtAgrees g
  -- lines
  pub shows : ShowsAll g
