-- The run of a mounted clerk over one link.
use Rattle.std.specs.Prelude.{◌≡◌, ℕ, List, [], ◌∷◌, ◌++◌, map, Option, None}
use Rattle.ec_protocol.specs.Clerk.{start}
use Rattle.ec_protocol.specs.declared.clerk.Clerk.{Clerk}
use Rattle.ec_protocol.specs.declared.clerk.Out.{Out}
use Rattle.ec_link.specs.Links.{Heard}
use Rattle.ec_outs.specs.Outs.{encoded, sends}
use Rattle.ec_clerknode.specs.declared.step.Step.{Step}
use Rattle.ec_clerknode.specs.Run.{IsRun, AreSaid, heard_by, said_by}
use Rattle.ec_base.specs.Lists.{Tells}
use Rattle.ec_mount.specs.Run.{NetSeen}

-- The same where one link came back: without an exchange it's said so.
pub record RanAlone (id boot : ℕ) (before after : NetSeen) (steps : List Step) : Type 0 where
  pub clerk : Clerk
  pub outs : List Out
  pub starts : start id boot ≡ record { clerk = clerk; outs = outs; spent = None }
  pub run : IsRun clerk steps
  pub whole : AreSaid steps
  pub given : Option (List Heard)
  pub got : Option (List (List ℕ))
  pub ended : after.ended ≡ before.ended ++ (given, got) ∷ []
  pub heard : Tells given (heard_by steps)
  pub sent : Tells got (map encoded (sends outs) ++ said_by steps)
