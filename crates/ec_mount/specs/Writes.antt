-- No public clause cites this module: it says how texts are written.
use Rattle.std.specs.Prelude.{◌≡◌, ◌+◌, ℕ, List, [], ◌++◌, Option, Result, Ok, Err}
use Rattle.std.specs.Io.KnownBytes.{Appends}
use Rattle.ec_history.specs.declared.shown.LimitName.TheVariants as limit
use Rattle.ec_history.specs.declared.shown.Shown.TheVariants as shown
use Rattle.ec_streams.specs.Writes.{WriteFailed}
use Rattle.ec_streams.specs.declared.streams.WriteFault.{WriteFault}
use Rattle.ec_streams.specs.declared.streams.WriteFault.TheVariants as write
use Rattle.ec_words.specs.OfText.Lines.{shown_text}
use Rattle.ec_outs.specs.Outs.{Reply}
use Rattle.ec_clerknode.specs.declared.fault.NodeFault.{NodeFault}
use Rattle.ec_clerknode.specs.declared.fault.NodeFault.TheVariants as fault
use Rattle.ec_mount.specs.Mount.{WroteFront}
use Rattle.ec_mount.specs.Run.{place_in}
use Rattle.ec_mount.specs.Script.{most_bytes}
use Rattle.ec_mount.specs.Shown.{came_text, end_text, old_boot_text, peer_text}
use Rattle.ec_mount.specs.Work.{Given}
use Rattle.ec_mount.specs.declared.script.Row.{Row}
use Rattle.ec_mount.specs.declared.script.Unread.{Unread}
use Rattle.ec_mount.specs.declared.script.Unread.TheVariants as unread
use Rattle.ec_mount.specs.declared.status.Status.{Status}
use Rattle.ec_mount.specs.declared.status.Status.TheVariants as status

-- the text was written; or a front of it, and why no more
abbrev pub Wrote : {A : Type 0} → List ℕ → Option (List ℕ) → Option (List ℕ) → ℕ → ℕ → Result A WriteFault → Type 0
Wrote text held now before later (Ok done) = Appends held now text
Wrote text held now before later (Err f) = WroteFront text held now × WriteFailed before later f

-- the status of a mount that was to end with this one, and whose text was to be written
abbrev pub ended_by : {A : Type 0} → Status → Result A WriteFault → Status
ended_by st (Ok done) = st
ended_by st (Err write.Failed) = status.SinkFault
ended_by st (Err write.NoMemory) = status.NoMemory

abbrev pub WroteAs : List ℕ → Status → Status → Option (List ℕ) → Option (List ℕ) → ℕ → ℕ → Type 0
WroteAs text st result held now before later = (r : Result (Unit {0}) WriteFault) × (result ≡ ended_by st r) × Wrote text held now before later r

-- nothing was written
abbrev pub Silent : Status → Status → Option (List ℕ) → Option (List ℕ) → Type 0
Silent st result held now = (result ≡ st) × (now ≡ held)

-- what is told where there are no rows
abbrev pub RefusesRows : Unread → Status → Option (List ℕ) → Option (List ℕ) → ℕ → ℕ → Type 0
RefusesRows unread.Bytes result held now before later = WroteAs (shown_text (shown.Limit limit.Bytes (most_bytes + 1))) status.Limit result held now before later
RefusesRows (unread.Lines n) result held now before later = WroteAs (shown_text (shown.Limit limit.Lines n)) status.Limit result held now before later
RefusesRows (unread.Bad n column) result held now before later = WroteAs (shown_text (shown.Bad n column)) status.BadLine result held now before later
RefusesRows unread.Source result held now before later = Silent status.SourceFault result held now
RefusesRows unread.NoMemory result held now before later = Silent status.NoMemory result held now

-- what is told of the clerk's run
abbrev pub TellsEnd : List ℕ → Result Reply NodeFault → Status → Option (List ℕ) → Option (List ℕ) → ℕ → ℕ → Type 0
TellsEnd came (Ok last) result held now before later = WroteAs (came ++ end_text last) status.Done result held now before later
TellsEnd came (Err fault.Net) result held now before later = WroteAs (came ++ []) status.NetFault result held now before later
TellsEnd came (Err (fault.Peer why)) result held now before later = WroteAs (came ++ peer_text (place_in why)) status.PeerFault result held now before later
TellsEnd came (Err (fault.Long n)) result held now before later = WroteAs (came ++ peer_text 0) status.PeerFault result held now before later
TellsEnd came (Err (fault.OldBoot age)) result held now before later = WroteAs (old_boot_text age) status.OldBoot result held now before later
TellsEnd came (Err (fault.Spent c)) result held now before later = WroteAs (came ++ shown_text (shown.Spent c)) status.Spent result held now before later
TellsEnd came (Err fault.NoMemory) result held now before later = Silent status.NoMemory result held now

abbrev pub TellsWork : List Row → Given → Status → Option (List ℕ) → Option (List ℕ) → ℕ → ℕ → Type 0
TellsWork rows r result held now before later = TellsEnd (came_text rows r.0 r.1) r.2 result held now before later
