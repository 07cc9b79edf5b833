-- What a mount does with its source, its sink and its net.
use Rattle.std.specs.Prelude.{◌≡◌, ◌<◌, ◌≤◌, ◌⊎◌, ◌+◌, ℕ, List, [], ◌++◌, length, Option, None}
use Rattle.std.specs.Io.KnownBytes.{Consumes, Appends}
use Rattle.ec_base.specs.Outside.{Rose}
use Rattle.ec_base.specs.declared.counter.Counter.{Counter}
use Rattle.ec_base.specs.declared.ids.Age.{Age}
use Rattle.ec_history.specs.declared.shown.LimitName.{LimitName}
use Rattle.ec_history.specs.declared.shown.LimitName.TheVariants as limit
use Rattle.ec_history.specs.declared.shown.Shown.TheVariants as shown
use Rattle.ec_plain.specs.declared.call.Call.{Call}
use Rattle.ec_script.specs.Lines.{lines_of}
use Rattle.ec_words.specs.OfText.Lines.{shown_text}
use Rattle.ec_outs.specs.Outs.{Reply}
use Rattle.ec_clerknode.specs.declared.fault.NodeFault.{NodeFault}
use Rattle.ec_clerknode.specs.declared.fault.NodeFault.TheVariants as fault
use Rattle.ec_clerknode.specs.declared.step.Step.{Step}
use Rattle.ec_clerknode.specs.Run.{old_boot, told_by}
use Rattle.ec_mount.specs.Script.{most_bytes, most_lines, IsScript, GivesRows, IsBadAt, lanes_of}
use Rattle.ec_mount.specs.Shown.{came_text, mount_text, old_boot_text, peer_text}
use Rattle.ec_mount.specs.Run.{NetSeen, Ran, Holds, Has, Met, Lost, Spends, IsPeerFault}
use Rattle.ec_mount.specs.declared.script.Row.{Row}
use Rattle.ec_mount.specs.declared.status.Status.{Status}
use Rattle.ec_mount.specs.declared.status.Status.TheVariants as status

-- A source, a sink and a net, before and after: the bytes left and held, where told, the counts of faults, and what the net shows.
pub record Outside : Type 0 where
  pub left : Option (List ℕ)
  pub left_after : Option (List ℕ)
  pub reads : ℕ
  pub reads_after : ℕ
  pub held : Option (List ℕ)
  pub held_after : Option (List ℕ)
  pub writes : ℕ
  pub writes_after : ℕ
  pub net : NetSeen
  pub net_after : NetSeen

-- What one run of the clerk holds was written: each row with its answer, lane by lane, what was told lost, and the answer to the last sync. No greater
-- age of the clerk was told.
pub record Answers (id boot : ℕ) (w : Outside) (text : List ℕ) : Type 0 where
  pub rows : List Row
  pub given : GivesRows w.left w.left_after rows
  pub steps : List Step
  pub ran : Ran id boot w.net w.net_after steps
  pub old_boot : old_boot steps ≡ None
  pub all : List (List Reply)
  pub last : Reply
  pub holds : Holds 0 (lanes_of rows) steps all last
  pub is : text ≡ mount_text rows all (told_by steps) last

-- a line that is no line of a lane
pub record TellsBadLine (w : Outside) (text : List ℕ) : Type 0 where
  pub script : List ℕ
  pub given : IsScript w.left w.left_after script
  pub few_lines : length (lines_of script) ≤ most_lines
  pub line : ℕ
  pub column : ℕ
  pub bad : IsBadAt (lines_of script) line column
  pub net : w.net_after ≡ w.net
  pub is : text ≡ shown_text (shown.Bad line column)

-- The source has too much: more bytes than the limit, of which one more than the limit was read, or too many lines.
abbrev pub IsOver : Outside → LimitName → ℕ → Type 0
IsOver w limit.Bytes n = (n ≡ most_bytes + 1) × (bytes : List ℕ) × Consumes w.left w.left_after bytes × (length bytes ≡ n)
IsOver w limit.Lines n = (script : List ℕ) × IsScript w.left w.left_after script × (n ≡ length (lines_of script)) × (most_lines < n)
IsOver w limit.Pending n = ⊥

-- the clerk took an OldBoot of its own age, with this greatest age
pub record TellsOldBoot (id boot : ℕ) (w : Outside) (text : List ℕ) : Type 0 where
  pub steps : List Step
  pub ran : Ran id boot w.net w.net_after steps
  pub age : Age
  pub told : Has (fault.OldBoot age) steps
  pub is : text ≡ old_boot_text age

-- The answers that came before a fault were written, each with its row as where all came, then what was told lost, and then this last line.
abbrev pub TellsCame : (List (List Call) → List (List Reply) → List (List ℕ) → Type 0) → Outside → List ℕ → List ℕ → Type 0
TellsCame Why w line text = (rows : List Row) × GivesRows w.left w.left_after rows × ((all : List (List Reply)) × (told : List (List ℕ)) × Why (lanes_of rows) all told × (text ≡ came_text rows all told ++ line))

-- the link gave what is no message
abbrev pub TellsPeer : ℕ → ℕ → Outside → List ℕ → Type 0
TellsPeer id boot w text = (f : NodeFault) × (place : ℕ) × IsPeerFault f place × TellsCame (λ lanes all told. Met id boot lanes w.net w.net_after f all told) w (peer_text place) text

-- the script was read whole
abbrev pub HasRows : Outside → Type 0
HasRows w = (rows : List Row) × GivesRows w.left w.left_after rows

-- Why a mount ends so, and the text that it writes.
abbrev pub Ends : ℕ → ℕ → Status → Outside → List ℕ → Type 0
Ends id boot status.Done w text = Answers id boot w text
Ends id boot status.BadLine w text = TellsBadLine w text
Ends id boot status.SourceFault w text = Rose w.reads w.reads_after × (w.net_after ≡ w.net) × (text ≡ [])
Ends id boot status.NetFault w text = TellsCame (λ lanes all told. Lost id boot lanes w.net w.net_after all told) w [] text
Ends id boot status.Limit w text = (name : LimitName) × (n : ℕ) × IsOver w name n × (w.net_after ≡ w.net) × (text ≡ shown_text (shown.Limit name n))
Ends id boot status.OldBoot w text = HasRows w × TellsOldBoot id boot w text
Ends id boot status.PeerFault w text = TellsPeer id boot w text
Ends id boot status.Spent w text = (c : Counter) × TellsCame (λ lanes all told. Spends id boot lanes w.net w.net_after c all told) w (shown_text (shown.Spent c)) text
Ends id boot status.StartFault w text = HasRows w × (w.net_after ≡ w.net) × (text ≡ [])
Ends id boot _ w text = ⊥

-- a front of the text was written, not the whole
pub record WroteFront (text : List ℕ) (held now : Option (List ℕ)) : Type 0 where
  pub front : List ℕ
  pub rest : List ℕ
  pub whole : front ++ rest ≡ text
  pub short : 0 < length rest
  pub bytes : Appends held now front

-- the text with which the mount was to end was written in part
abbrev pub EndsInPart : ℕ → ℕ → Outside → Type 0
EndsInPart id boot w = (st : Status) × (text : List ℕ) × Ends id boot st w text × WroteFront text w.held w.held_after

-- Each status, by its causes, with what was written.
abbrev pub Mounts : ℕ → ℕ → Status → Outside → Type 0
Mounts id boot status.SinkFault w = Rose w.writes w.writes_after × EndsInPart id boot w
Mounts id boot status.NoMemory w = EndsInPart id boot w ⊎ (w.held_after ≡ w.held)
Mounts id boot st w = (text : List ℕ) × Ends id boot st w text × Appends w.held w.held_after text

-- No thread could be started exactly with its status: how often one couldn't be, before and after.
abbrev pub StartsAs : Status → ℕ → ℕ → Type 0
StartsAs status.StartFault before later = later ≡ before + 1
StartsAs st before later = later ≡ before
