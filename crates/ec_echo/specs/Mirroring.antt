-- What the program does over two disks: all that it does over one, over a mirror of both.
use Rattle.std.specs.Prelude.{◌≡◌, ◌⊎◌, ◌≤◌, ℕ, List, [], ◌∷◌, ◌++◌, codes, None, true, false}
use Rattle.std.specs.Fmt.{decimal}
use Rattle.ec_base.specs.Outside.{Rose}
use Rattle.ec_disk.specs.Disk.{View, Counts}
use Rattle.ec_disk.specs.Effects.{IsSynced, Rests}
use Rattle.ec_drill.specs.Seen.{Stream, Store}
use Rattle.ec_half.specs.Headers.{IsNoHalf, MayBeHalf}
use Rattle.ec_half.specs.declared.fault.MirrorFault.{MirrorFault}
use Rattle.ec_half.specs.declared.fault.MirrorFault.TheVariants as fault
use Rattle.ec_machine_laws.specs.OfNodeLaws.Claims.{ClaimsComeFirst}
use Rattle.ec_mirror.specs.Joins.{content_of}
use Rattle.ec_mirror.specs.Disks.{StandsOver, Standing}
use Rattle.ec_echo.specs.DiskUse.{uses_disk}
use Rattle.ec_echo.specs.Echo.{Links}
use Rattle.ec_echo.specs.Written.{TellsText}
use Rattle.ec_echo.specs.Soak.{TellsNothing}
use Rattle.ec_echo.specs.Statuses.{code}
use Rattle.ec_echo.specs.Words.{Spells}
use Rattle.ec_echo.specs.declared.command.Command.{Command}
use Rattle.ec_echo.specs.declared.status.Status.{Status}
use Rattle.ec_echo.specs.declared.status.Status.TheVariants as status
use Rattle.ec_echo.specs.OfNamed.Forms.{OnDrill, OnCheck, OnMake, OnSoak, OnServe, OnMount, OnMounts, Asks, DoesDrill, DoesCheck, DoesMake, DoesServe, DoesMount, DoesMounts, TouchesNothing, IsAlone, outside}
use Rattle.ec_echo.specs.OfNamed.Leases.{DoesLeases, LeaseBytes, LeaseCalls, LeaseHistory, LeaseLines, LeaseSessions, LeaseStores, OnLeases}
use Rattle.ec_echo.specs.OfNamed.PlainLeases.{LeaseComplete}
use Rattle.ec_echo.specs.OfNamed.Promises.{History, LinesInPlace, PlainReplies, ExactReports, LawfulLosses, Fsync, Room}
use Rattle.ec_echo.specs.OfNamed.Runs.{Together, OwnCalls, Sessions, Spent, Complete, WriteBehind, Stores, Causes}
use Rattle.ec_echo.specs.OfNamed.Seen.{store}
use Rattle.ec_echo.specs.OfNamed.Soaks.{DoesSoak}
use Rattle.ec_echo.specs.OfNamed.States.{StatesInOrder, DiskOfCut}
use Rattle.ec_echo.specs.OfNamed.Told.{WroteLines}

-- What is promised of the lines of a drill, by the names of the program's clauses.
pub record LinesPromised (words : List (List ℕ)) (result : ℕ) (source sink : Stream) (store : Store) : Type 0 where
  pub history : OnDrill words (History result sink store)
  pub lines : OnDrill words (LinesInPlace result sink store)
  pub replies : OnDrill words (PlainReplies result sink store)
  pub reports : OnDrill words (ExactReports result sink store)
  pub losses : OnDrill words (LawfulLosses result sink store)
  pub fsync : OnDrill words (Fsync result sink store)
  pub room : OnDrill words (Room result sink store)
  pub bytes : OnDrill words (WroteLines result sink)
  pub own_calls : OnDrill words (OwnCalls result source sink store)
  pub sessions : OnDrill words (Sessions result source sink store)
  pub spent : OnDrill words (Spent result source sink store)
  pub together : OnDrill words (Together result source sink store)
  pub complete : OnDrill words (Complete result source sink store)
  pub write_behind : OnDrill words (WriteBehind result source sink store)
  pub disk : OnDrill words (Stores result source sink store)
  pub statuses : OnDrill words (Causes result source sink store)

-- And of those of a drill with leases.
pub record LeasesPromised (words : List (List ℕ)) (result : ℕ) (source sink : Stream) (store : Store) : Type 0 where
  pub lease_history : OnLeases words (LeaseHistory result source sink store)
  pub lease_lines : OnLeases words (LeaseLines result source sink store)
  pub lease_calls : OnLeases words (LeaseCalls result source sink store)
  pub lease_sessions : OnLeases words (LeaseSessions result source sink store)
  pub lease_disk : OnLeases words (LeaseStores result source sink store)
  pub lease_complete : OnLeases words (LeaseComplete result source sink store)
  pub lease_bytes : OnLeases words (LeaseBytes result sink)

-- What is promised of each form of words.
pub record FormsPromised (boot : ℕ) (words : List (List ℕ)) (result : ℕ) (source sink : Stream) (store : Store) (n : Links) : Type 0 where
  pub usage : Asks words result
  pub untouched : TouchesNothing words (outside source sink store) n
  pub alone : IsAlone words n
  pub drill : OnDrill words (DoesDrill result (outside source sink store))
  pub states : OnDrill words (StatesInOrder result (outside source sink store))
  pub disk_cut : OnDrill words (DiskOfCut result (outside source sink store))
  pub claims : ClaimsComeFirst
  pub check : OnCheck words (DoesCheck result (outside source sink store))
  pub make : OnMake words (DoesMake result (outside source sink store))
  pub soak : OnSoak words (DoesSoak result source sink store)
  pub serve : OnServe words (DoesServe result (outside source sink store) n)
  pub mount : OnMount words (DoesMount boot result (outside source sink store) n)
  pub mounts : OnMounts words (DoesMounts boot words result (outside source sink store) n)
  pub leases : OnLeases words (DoesLeases result (outside source sink store))

-- all that the program promises over one disk
pub record Promised (boot : ℕ) (words : List (List ℕ)) (result : ℕ) (source sink : Stream) (store : Store) (n : Links) : Type 0 where
  pub lines : LinesPromised words result source sink store
  pub leases : LeasesPromised words result source sink store
  pub forms : FormsPromised boot words result source sink store n

-- what the words ask for uses a disk, or it doesn't
abbrev pub UsesDisk : List (List ℕ) → Type 0
UsesDisk words = (c : Command) × Spells words c × (uses_disk c ≡ true)

abbrev pub UsesNone : List (List ℕ) → Type 0
UsesNone words = (c : Command) → Spells words c → uses_disk c ≡ false

-- a type of disks as a clause sees it
pub record Kind (D : Type 0) : Type 1 where
  pub tells : Type 0
  pub view : D → View
  pub counts : D → Counts

-- the line that tells which disk is no half of a mirror, and the place that shows it
abbrev pub mirror_text : ℕ → ℕ → List ℕ
mirror_text which place = codes "mirror bad " ++ decimal which ++ codes " " ++ decimal place ++ 10 ∷ []

-- Each fault of the opening has its status. A disk that is no half of a mirror is told by a line.
abbrev pub TellsFault : MirrorFault → Status → Stream → Type 0
TellsFault (fault.BadMirror which place) result sink = TellsText (mirror_text which place) status.BadDisk result sink.bytes sink.bytes_after sink.faults sink.faults_after
TellsFault fault.DiskFailed result sink = TellsNothing status.DiskFault result sink.bytes sink.bytes_after
TellsFault fault.DiskStopped result sink = TellsNothing status.NoMemory result sink.bytes sink.bytes_after
TellsFault fault.NoMemory result sink = TellsNothing status.NoMemory result sink.bytes sink.bytes_after

-- Two disks became no mirror, and nothing else was touched. The first one is tested first. Where one is bad, nothing was written to either, and neither is armed. The program ends for a disk's failure only where the first or the second one has failed.
pub record Refused {A B : Type 0} (a : Kind A) (b : Kind B) (result : ℕ) (source sink : Stream) (n : Links) (first first_after : A) (second second_after : B) : Type 0 where
  pub why : MirrorFault
  pub st : Status
  pub result_is : result ≡ code st
  pub told : TellsFault why st sink
  pub which : (k place : ℕ) → why ≡ fault.BadMirror k place → (k ≡ 1) ⊎ (k ≡ 2)
  pub bad_first : (place : ℕ) → why ≡ fault.BadMirror 1 place → a.tells → IsNoHalf (a.view first).gives place
  pub bad_second : (place : ℕ) → why ≡ fault.BadMirror 2 place → b.tells → IsNoHalf (b.view second).gives place
  pub first_is_good : (place : ℕ) → why ≡ fault.BadMirror 2 place → a.tells → MayBeHalf (a.view first).gives
  pub first_rests : (k place : ℕ) → why ≡ fault.BadMirror k place → a.tells → Rests (a.view first) (a.view first_after)
  pub second_rests : (k place : ℕ) → why ≡ fault.BadMirror k place → b.tells → Rests (b.view second) (b.view second_after)
  pub first_unarmed : (k place : ℕ) → why ≡ fault.BadMirror k place → (a.counts first_after).armed ≡ None
  pub second_unarmed : (k place : ℕ) → why ≡ fault.BadMirror k place → (b.counts second_after).armed ≡ None
  pub disk_failed : result ≡ 6 → Rose (a.counts first).faults (a.counts first_after).faults ⊎ Rose (b.counts second).faults (b.counts second_after).faults
  pub source_rests : source.bytes_after ≡ source.bytes
  pub links_rest : n.later ≡ n.before

-- A mirror that was opened over two disks: it gives the content with the greater generation, the first one's in a tie, with zeros up to the other one's length, and all of it is synced.
pub record Opened {A B M : Type 0} (a : Kind A) (b : Kind B) (mirror : Kind M) (first : A) (second : B) (opened : M) : Type 0 where
  pub first_is_good : a.tells → MayBeHalf (a.view first).gives
  pub second_is_good : b.tells → MayBeHalf (b.view second).gives
  pub gives : a.tells → b.tells → (mirror.view opened).gives ≡ content_of (a.view first).gives (b.view second).gives
  pub synced : a.tells → b.tells → IsSynced (mirror.view opened)
  pub counts : mirror.counts opened ≡ record { calls = 0; faults = 0; stops = 0; armed = None }

-- The program was run over a mirror, with all that it promises over one disk. At the end the mirror is over the same two disks, which had failed so often before, and it stands to them as told.
pub record RanMirrored {A B M : Type 0} (a : Kind A) (b : Kind B) (mirror : Kind M) (boot : ℕ) (words : List (List ℕ)) (result : ℕ) (source sink : Stream) (n : Links) (opened : M) (first_before second_before : ℕ) (first_after : A) (second_after : B) : Type 0 where
  pub ended : M
  pub promised : Promised boot words result source sink (store mirror.tells mirror.view mirror.counts opened ended) n
  pub standing : Standing
  pub over : StandsOver (a.tells × b.tells) standing (mirror.counts ended).faults first_before second_before (mirror.view ended) (a.view first_after) (b.view second_after) (a.counts first_after) (b.counts second_after)

-- So it was over a mirror that was opened. Where it ended for a disk's failure, both disks have failed, or one of them alone.
pub record Mirrored {A B M : Type 0} (a : Kind A) (b : Kind B) (mirror : Kind M) (boot : ℕ) (words : List (List ℕ)) (result : ℕ) (source sink : Stream) (n : Links) (first first_after : A) (second second_after : B) : Type 0 where
  pub opened : M
  pub opens : Opened a b mirror first second opened
  pub ran : RanMirrored a b mirror boot words result source sink n opened (a.counts first).faults (b.counts second).faults first_after second_after
  pub disk_failed : result ≡ 6 → Rose (a.counts first).faults (a.counts first_after).faults ⊎ Rose (b.counts second).faults (b.counts second_after).faults
  pub both_failed : result ≡ 6 → ran.standing.failed_alone ≡ false → Rose (a.counts first).faults (a.counts first_after).faults × Rose (b.counts second).faults (b.counts second_after).faults
