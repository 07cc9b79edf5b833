-- No public clause cites this module: it says what the private steps at the end of a run do.
use Rattle.std.specs.Prelude.{◌≡◌, ⊤, ℕ, Bool, true, false, List, ◌++◌, map, Option, Result, Ok, Err}
use Rattle.std.specs.Io.KnownBytes.{Appends}
use Rattle.ec_protocol.specs.Drill.{Ending, Done, BadLine, IsSpent, last_line, status}
use Rattle.ec_protocol.specs.declared.world.WorldFault.TheVariants as world_fault
use Rattle.ec_lease_machine.specs.OfWords.Text.{lease_texts}
use Rattle.ec_lease_machine.specs.Drill.{LeaseRan, close, joined_lease}
use Rattle.ec_lease_machine.specs.declared.world.LeaseFault.{LeaseFault}
use Rattle.ec_lease_machine.specs.declared.world.LeaseFault.TheVariants as fault
use Rattle.ec_lease_machine.specs.declared.world.LeaseShown.{LeaseShown}
use Rattle.ec_lease_machine.specs.declared.world.LeaseShown.TheVariants.{Line}
use Rattle.ec_lease_machine.specs.declared.world.LeaseWorld.{LeaseWorld}
use Rattle.ec_lease.specs.OfDrill.Steps.{ran_to}
use Rattle.ec_lease.specs.OfDrill.Writing.{CutFront}
use Rattle.ec_lease.specs.declared.drill.status.Status.{Status}
use Rattle.ec_lease.specs.declared.drill.status.Status.TheVariants as own
use Rattle.ec_lease.specs.declared.drill.running.Ending.{Ending as OwnEnding}
use Rattle.ec_lease.specs.declared.drill.running.Ending.TheVariants as ends
use Rattle.ec_lease.specs.declared.drill.writing.Cut.{Cut}
use Rattle.ec_lease.specs.declared.drill.writing.Cut.TheVariants as cut

-- a counter is spent
abbrev pub is_spent : Ending → Bool
is_spent (IsSpent n) = true
is_spent _ = false

-- what a last restart that isn't carried out makes of the end
abbrev pub restart_end : LeaseFault → Result OwnEnding Cut
restart_end (fault.World (world_fault.Spent n)) = Ok (ends.Spent n)
restart_end (fault.World world_fault.DiskFailed) = Err cut.Disk
restart_end _ = Err cut.NoMemory

-- the run behind its last restart
abbrev pub closed : LeaseWorld → Ending → List (List LeaseShown) → LeaseRan
closed x e pieces = close e (ran_to x e pieces)

-- all its lines
abbrev pub lines_in : LeaseRan → List LeaseShown
lines_in r = joined_lease r.pieces ++ map Line (last_line r.ending)

-- The last restart was carried out, if there is one, and its lines written. The machine's run came to the world `z`, which is that of the code, but where the restart would have spent a counter.
pub record Restarted (x y : LeaseWorld) (e end : Ending) (held now : Option (List ℕ)) : Type 0 where
  pub z : LeaseWorld
  pub more : List (List LeaseShown)
  pub is : (pieces : List (List LeaseShown)) → closed x e pieces ≡ ran_to z end (pieces ++ more)
  pub same : is_spent end ≡ false → z ≡ y
  pub bytes : Appends held now (lease_texts (joined_lease more))

-- what follows of a run's pieces to its end, cut off there
abbrev pub EndCut : LeaseWorld → Ending → Cut → Option (List ℕ) → Option (List ℕ) → ℕ → ℕ → ℕ → ℕ → Type 0
EndCut x e c held now writes later faults faults_after =
    (rest : List LeaseShown) × ((pieces : List (List LeaseShown)) → lines_in (closed x e pieces) ≡ joined_lease pieces ++ rest) × CutFront c ⊤ rest held now writes later faults faults_after

-- the numbers of the statuses of runs that end by themselves
abbrev pub Numbers : Status → ℕ → Type 0
Numbers own.Done n = n ≡ 0
Numbers own.BadLine n = n ≡ 3
Numbers own.Limit n = n ≡ 11
Numbers own.Spent n = n ≡ 15
Numbers _ n = ⊥

-- the last line was written
pub record LastTold (e : Ending) (st : Status) (held now : Option (List ℕ)) : Type 0 where
  pub bytes : Appends held now (lease_texts (map Line (last_line e)))
  pub number : Numbers st (status e)

-- All lines behind the pieces were written.
pub record LeaseClosed (x y : LeaseWorld) (e : Ending) (st : Status) (held now : Option (List ℕ)) : Type 0 where
  pub shown : List LeaseShown
  pub lines : (pieces : List (List LeaseShown)) → lines_in (closed x e pieces) ≡ joined_lease pieces ++ shown
  pub number : (pieces : List (List LeaseShown)) → Numbers st (status (closed x e pieces).ending)
  pub same : (pieces : List (List LeaseShown)) → (status (closed x e pieces).ending ≡ 15 → ⊥) → (closed x e pieces).world ≡ y
  pub bytes : Appends held now (lease_texts shown)
