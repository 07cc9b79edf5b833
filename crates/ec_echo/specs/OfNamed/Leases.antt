-- What the program does with a script with leases, and what is promised of the lines that it wrote but those that say that a session doesn't end yet: what is of a
-- drill's lines, and that they stand in one legal history in the order in which they were printed.
use Rattle.std.specs.Prelude.{◌≡◌, ◌≤◌, ◌⊎◌, ℕ, List, [], ◌++◌, codes, length, map}
use Rattle.std.specs.Io.KnownBytes.{Appends}
use Rattle.ec_volume.specs.Volume.{Images, images}
use Rattle.ec_durable.specs.Durable.{formatted}
use Rattle.ec_history.specs.History.{Base}
use Rattle.ec_history.specs.Legal.{IsLegal}
use Rattle.ec_history.specs.Placing.{EachLine}
use Rattle.ec_history.specs.OfLaws.OfPrinted.Printed.{printed}
use Rattle.ec_history.specs.declared.shown.Shown.{Shown}
use Rattle.ec_protocol.specs.Drill.{Read}
use Rattle.ec_protocol.specs.Drill as drill
use Rattle.ec_protocol.specs.declared.script.Line.TheVariants.{Comment}
use Rattle.ec_lawful.specs.Headline.{AreLawful, IsGreatest, placed_on}
use Rattle.ec_lease_machine.specs.Drill.{LeaseRead, reads}
use Rattle.ec_lease_machine.specs.OfLeaseWorlds.Lines.{unheld}
use Rattle.ec_lease_machine.specs.OfWords.Text.{lease_text, lease_texts}
use Rattle.ec_lease_machine.specs.declared.script.LeaseLine.TheVariants.{Drill}
use Rattle.ec_lease_machine.specs.declared.world.LeaseShown.{LeaseShown}
use Rattle.ec_lease_machine.specs.declared.world.LeaseShown.TheVariants.{Line}
use Rattle.ec_lease.specs.OfDrill.Drill.{GivesReads, LeaseDrilled}
use Rattle.ec_lease.specs.OfDrill.Script.{lease_objects}
use Rattle.ec_lease.specs.declared.drill.status.Status as leased
use Rattle.ec_drill.specs.Cuts.{IsCutFront}
use Rattle.ec_drill.specs.Drill.{Outside}
use Rattle.ec_drill.specs.Fates.{IsKnown}
use Rattle.ec_drill.specs.Seen.{Stream, Store}
use Rattle.ec_echo.specs.Echo.{leasing}
use Rattle.ec_echo.specs.Statuses.{code, of_leases}
use Rattle.ec_echo.specs.Words.{IsOfLeases}
use Rattle.ec_echo.specs.OfNamed.Forms.{outside}
use Rattle.ec_echo.specs.OfNamed.Runs.{AreOwn, AreStored, EndAsAsked, IsUncut}
use Rattle.ec_echo.specs.OfNamed.Seen.{IsNew}
use Rattle.ec_echo.specs.OfNamed.Told.{EndsEarly, OnFronts}

-- P holds of how long Leases run, and by how much clocks differ at most, where the words ask for it
abbrev pub OnLeases : List (List ℕ) → (ℕ → ℕ → Type 0) → Type 0
OnLeases words P = (l e : ℕ) → IsOfLeases (codes "leases") words l e → P l e

-- a drill by the machine with leases, line by line: each status by its causes, with what was written and what stands on the disk
abbrev pub DoesLeases : ℕ → Outside → ℕ → ℕ → Type 0
DoesLeases result w l e = (end : leased.Status) × (result ≡ code (of_leases end)) × LeaseDrilled l e end (leasing w)

-- a line as one of a drill's scripts: one of clocks and leases, or one that doesn't fit, stands as a comment
abbrev pub as_read : LeaseRead → Read
as_read (reads (Drill l) column) = drill.reads l column
as_read _ = drill.reads Comment 0

-- These lines were written, then at most one that says why the drill ended early, and then, with status 5 or 9 alone, perhaps a part of one.
pub record WroteLeases (result : ℕ) (sink : Stream) (told : List LeaseShown) : Type 0 where
  pub why : List Shown
  pub at_most_one : length why ≤ 1
  pub says : EachLine EndsEarly why
  pub part : List ℕ
  pub in_part : (part ≡ []) ⊎ ((s : LeaseShown) × IsCutFront (lease_text s) part)
  pub whole : (result ≡ 5 → ⊥) → (result ≡ 9 → ⊥) → part ≡ []
  pub bytes : Appends sink.bytes sink.bytes_after (lease_texts (told ++ map Line why) ++ part)

-- whole lines were written, and with status 5 or 9 perhaps a part of one more
abbrev pub LeaseBytes : ℕ → Stream → ℕ → ℕ → Type 0
LeaseBytes result sink l e = (told : List LeaseShown) × WroteLeases result sink told

-- P holds of the script as a drill's, of the volume with which the drill began, of at most so many objects, of the lines written without `held`, and of the line that
-- says why it ended early.
pub record HoldsOfLeases (e result : ℕ) (source sink : Stream) (store : Store) (P : List Read → Base → ℕ → List Shown → List Shown → Type 0) : Type 0 where
  pub reads : List LeaseRead
  pub gave : GivesReads e (leasing (outside source sink store)) reads
  -- on a new disk it's the formatted one
  pub volume : Images
  pub limit : ℕ
  pub new : IsNew store → (volume ≡ images (formatted lease_objects).volume) × (limit ≡ lease_objects)
  -- a new object has the id that is the greatest one of the volume plus the place of its call's line
  pub top : ℕ
  pub greatest : IsGreatest volume top
  pub told : List LeaseShown
  pub wrote : WroteLeases result sink told
  pub holds : P (map as_read reads) (placed_on volume top) limit (unheld told) wrote.why

-- So it is where the disk tells its content, or made no stop; or no line of a run was written.
abbrev pub OfLeases : (List Read → Base → ℕ → List Shown → List Shown → Type 0) → ℕ → Stream → Stream → Store → ℕ → ℕ → Type 0
OfLeases P result source sink store l e = IsKnown store.tells store.counts.stops store.counts_after.stops → ∥ WroteLeases result sink [] ⊎ HoldsOfLeases e result source sink store P ∥₁

-- each front of the lines is legal in the order in which they were printed: no answer of an ended session stands behind its end
abbrev pub LeaseHistory : ℕ → Stream → Stream → Store → ℕ → ℕ → Type 0
LeaseHistory = OfLeases (λ reads. OnFronts (λ base limit lines. IsLegal base limit (printed lines)))

-- and all that is promised of each front of a drill's lines holds of it
abbrev pub LeaseLines : ℕ → Stream → Stream → Store → ℕ → ℕ → Type 0
LeaseLines = OfLeases (λ reads. OnFronts AreLawful)

-- each call in them is that of its line in the script
abbrev pub LeaseCalls : ℕ → Stream → Stream → Store → ℕ → ℕ → Type 0
LeaseCalls = OfLeases AreOwn

-- no session ends but by a crash or an end of the script
abbrev pub LeaseSessions : ℕ → Stream → Stream → Store → ℕ → ℕ → Type 0
LeaseSessions = OfLeases EndAsAsked

-- the disk stands behind the run for a volume of the shape that durable lines leave, where no fault of the sink or the disk, want of memory or spent counter ended it
abbrev pub LeaseStores : ℕ → Stream → Stream → Store → ℕ → ℕ → Type 0
LeaseStores result source sink store l e = IsUncut result → (result ≡ 15 → ⊥) → OfLeases (AreStored store) result source sink store l e
