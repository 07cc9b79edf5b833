-- The lines of a run over a script with leases, and the run.
use Rattle.std.specs.Prelude.{ℕ, List, [], ◌∷◌}
use Rattle.ec_history.specs.declared.shown.Shown.{Shown}
use Rattle.ec_protocol.specs.Drill.{Fates}
use Rattle.ec_protocol.specs.declared.world.World.{World}
use Rattle.ec_lease_machine.specs.Drill.{LeaseRan, LeaseRead, bound, close, run_from}
use Rattle.ec_lease_machine.specs.Leases.{opened_leases}
use Rattle.ec_lease_machine.specs.declared.world.LeaseShown.{LeaseShown}
use Rattle.ec_lease_machine.specs.declared.world.LeaseShown.TheVariants.{Line, Held}

-- the lines but those that say that a session doesn't end yet
abbrev pub unheld : List LeaseShown → List Shown
unheld [] = []
unheld (Line s ∷ ss) = s ∷ unheld ss
unheld (Held c m ∷ ss) = unheld ss

-- a run over a script, and its close
abbrev pub lease_run : ℕ → ℕ → List LeaseRead → List Fates → World → LeaseRan
lease_run l e ls fs w = let ran = run_from (bound ls) 1 ls fs (opened_leases l e w) in close ran.ending ran
