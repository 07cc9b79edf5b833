-- What a mount of several volumes does with its source, its sink and its net.
use Rattle.std.specs.Prelude.{◌≡◌, ◌≤◌, ◌⊎◌, ℕ, List, [], ◌∷◌, ◌++◌, length, map, Some}
use Rattle.std.specs.Io.KnownBytes.{Appends}
use Rattle.ec_base.specs.Outside.{Rose}
use Rattle.ec_base.specs.declared.counter.Counter.{Counter}
use Rattle.ec_base.specs.declared.ids.Age.{Age}
use Rattle.ec_history.specs.declared.shown.LimitName.{LimitName}
use Rattle.ec_history.specs.declared.shown.Shown.TheVariants as shown
use Rattle.ec_plain.specs.Walk.{Path}
use Rattle.ec_script.specs.Lines.{lines_of}
use Rattle.ec_words.specs.OfText.Lines.{shown_text}
use Rattle.ec_outs.specs.Outs.{Reply}
use Rattle.ec_clerknode.specs.declared.fault.NodeFault.{NodeFault}
use Rattle.ec_clerknode.specs.declared.step.Step.{Step}
use Rattle.ec_clerknode.specs.Run.{told_by}
use Rattle.ec_mount.specs.Script.{most_lines, IsScript}
use Rattle.ec_mount.specs.Shown.{old_boot_text, peer_text}
use Rattle.ec_mount.specs.Run.{NetSeen, IsPeerFault}
use Rattle.ec_mount.specs.Mount.{Outside, IsOver, WroteFront}
use Rattle.ec_mount.specs.declared.status.Status.{Status}
use Rattle.ec_mount.specs.declared.status.Status.TheVariants as status
use Rattle.ec_mount_table.specs.Rows.{GivesRows, IsBadAt, AreSeen, calls_at, replies_at, reply_in}
use Rattle.ec_mount_table.specs.Runs.{RanAll, AreNew, Each, HoldsToEnd, MetOne, LostOne, SpendsOne, first_boot}
use Rattle.ec_mount_table.specs.Shown.{came_text, mounts_text}
use Rattle.ec_mount_table.specs.declared.script.Row.{Row}
use Rattle.ec_mount_table.specs.declared.seen.Seen.{Seen}
use Rattle.ec_plain.specs.declared.call.Call.TheVariants.{Sync}

-- The clerk of each volume ran, and holds just the calls that the rows ask of it, in order and each once, with the answers that the rows met, then a sync with its last answer, and then a goodbye.
-- None was told of a greater age.
pub record HoldsAll (id boot : ℕ) (table : List Path) (before after : NetSeen) (rows : List Row) (mets : List Seen) (told : List (List (List ℕ))) (lasts : List Reply) : Type 0 where
  pub seen : AreSeen table rows mets
  pub runs : List (List Step)
  pub many : length runs ≡ length table
  pub ran : RanAll id boot (length table) before after runs
  pub new : AreNew runs
  pub holds : Each runs (λ place steps. HoldsToEnd (calls_at table place rows mets ++ Sync ∷ []) steps (replies_at place mets ++ reply_in lasts place))
  pub told_is : told ≡ map told_by runs

-- the script was read whole
abbrev pub HasRows : Outside → Type 0
HasRows w = (rows : List Row) × GivesRows w.left w.left_after rows

-- What the runs of the clerks hold was written: each row with its answer, what was told lost, and the answers to the last syncs.
abbrev pub Answers : ℕ → ℕ → List Path → Outside → List ℕ → Type 0
Answers id boot table w text = (rows : List Row) × GivesRows w.left w.left_after rows
    × ((mets : List Seen) × (told : List (List (List ℕ))) × (lasts : List Reply) × HoldsAll id boot table w.net w.net_after rows mets told lasts × (text ≡ mounts_text table rows mets told lasts))

-- a line that is no call
pub record TellsBadLine (w : Outside) (text : List ℕ) : Type 0 where
  pub script : List ℕ
  pub given : IsScript w.left w.left_after script
  pub few_lines : length (lines_of script) ≤ most_lines
  pub line : ℕ
  pub column : ℕ
  pub bad : IsBadAt (lines_of script) line column
  pub net : w.net_after ≡ w.net
  pub is : text ≡ shown_text (shown.Bad line column)

-- The clerk of one volume took an OldBoot of its own age: the first one that did tells this greatest age. It goes before any other fault.
pub record TellsOldBoot (id boot : ℕ) (table : List Path) (w : Outside) (text : List ℕ) : Type 0 where
  pub runs : List (List Step)
  pub ran : RanAll id boot (length table) w.net w.net_after runs
  pub age : Age
  pub told : first_boot runs ≡ Some age
  pub is : text ≡ old_boot_text age

-- the answers that came before a fault were written, then what was told lost, and then this last line
abbrev pub TellsCame : (List Row → List Seen → List Reply → List (List (List ℕ)) → Type 0) → List Path → Outside → List ℕ → List ℕ → Type 0
TellsCame Why table w line text = (rows : List Row) × GivesRows w.left w.left_after rows
    × ((mets : List Seen) × (replies : List Reply) × (told : List (List (List ℕ))) × Why rows mets replies told × (text ≡ came_text table rows mets replies told ++ line))

abbrev pub TellsPeer : ℕ → ℕ → List Path → Outside → List ℕ → Type 0
TellsPeer id boot table w text =
    (f : NodeFault) × (place : ℕ) × IsPeerFault f place × TellsCame (λ rows mets replies told. MetOne id boot table rows w.net w.net_after f mets replies told) table w (peer_text place) text

-- Why calls over these volumes end so, and the text that is written.
abbrev pub Ends : ℕ → ℕ → List Path → Status → Outside → List ℕ → Type 0
Ends id boot table status.Done w text = Answers id boot table w text
Ends id boot table status.BadLine w text = TellsBadLine w text
Ends id boot table status.SourceFault w text = Rose w.reads w.reads_after × (w.net_after ≡ w.net) × (text ≡ [])
Ends id boot table status.NetFault w text = TellsCame (λ rows mets replies told. LostOne id boot table rows w.net w.net_after mets replies told) table w [] text
Ends id boot table status.Limit w text = (name : LimitName) × (n : ℕ) × IsOver w name n × (w.net_after ≡ w.net) × (text ≡ shown_text (shown.Limit name n))
Ends id boot table status.OldBoot w text = HasRows w × TellsOldBoot id boot table w text
Ends id boot table status.PeerFault w text = TellsPeer id boot table w text
Ends id boot table status.Spent w text = (c : Counter) × TellsCame (λ rows mets replies told. SpendsOne id boot table rows w.net w.net_after c mets replies told) table w (shown_text (shown.Spent c)) text
Ends id boot table status.StartFault w text = HasRows w × (w.net_after ≡ w.net) × (text ≡ [])
Ends id boot table _ w text = ⊥

-- the text with which it was to end was written in part
abbrev pub EndsInPart : ℕ → ℕ → List Path → Outside → Type 0
EndsInPart id boot table w = (st : Status) × (text : List ℕ) × Ends id boot table st w text × WroteFront text w.held w.held_after

-- Each status, by its causes, with what was written.
abbrev pub MountsAll : ℕ → ℕ → List Path → Status → Outside → Type 0
MountsAll id boot table status.SinkFault w = Rose w.writes w.writes_after × EndsInPart id boot table w
MountsAll id boot table status.NoMemory w = EndsInPart id boot table w ⊎ (w.held_after ≡ w.held)
MountsAll id boot table st w = (text : List ℕ) × Ends id boot table st w text × Appends w.held w.held_after text
