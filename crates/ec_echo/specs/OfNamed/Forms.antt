-- What the words ask for, and what each form of them does.
use Rattle.std.specs.Prelude.{◌≡◌, ◌⊎◌, ◌-◌, ◌^◌, ℕ, false, List, codes}
use Rattle.ec_drill.specs.Drill.{Outside, Drilled, IsDiskUntouched}
use Rattle.ec_drill.specs.declared.status.Status as drilled
use Rattle.ec_link.specs.Nets.{Ended}
use Rattle.ec_mount.specs.Mount.{Mounts, StartsAs}
use Rattle.ec_mount.specs.declared.status.Status as mounted
use Rattle.ec_mount_words.specs.Mounts.{SpellsMounts}
use Rattle.ec_echo.specs.Check.{Judged}
use Rattle.ec_echo.specs.Greeting.{Greets}
use Rattle.ec_echo.specs.NetUse.{uses_net}
use Rattle.ec_echo.specs.Serving.{Served}
use Rattle.ec_echo.specs.Mounting.{MountsTable}
use Rattle.ec_echo.specs.Echo.{Made, IsSourceUntouched, IsUntouched, Links, serving, mounting}
use Rattle.ec_echo.specs.Statuses.{code, of_drill, of_mount}
use Rattle.ec_echo.specs.Words.{IsNumbered, IsOfVolume, IsAddressed, IsOfClerk, Spells}
use Rattle.ec_echo.specs.declared.command.Command.{Command}
use Rattle.ec_echo.specs.declared.status.Status.{Status}
use Rattle.ec_drill.specs.Seen.{Stream, Store}

abbrev pub outside : Stream → Stream → Store → Outside
outside source sink store = record { source = source; sink = sink; store = store }

-- a net and who starts threads
abbrev pub links : {A B : Type 0} → (A → ℕ) → (A → ℕ) → (A → List Ended) → (B → ℕ) → A → A → B → B → Links
links faults bad ended starts old new was now = record {
  before = record { faults = faults old; bad = bad old; ended = ended old; starts = starts was };
  later = record { faults = faults new; bad = bad new; ended = ended new; starts = starts now };
}

-- Words are a list of lists of bytes.

-- P holds of the number in the words, where they ask for a drill; and so for each form
abbrev pub OnDrill : List (List ℕ) → (ℕ → Type 0) → Type 0
OnDrill words P = (most : ℕ) → IsOfVolume (codes "drill") words most → P most

abbrev pub OnCheck : List (List ℕ) → (ℕ → Type 0) → Type 0
OnCheck words P = (most : ℕ) → IsOfVolume (codes "check") words most → P most

abbrev pub OnMake : List (List ℕ) → (ℕ → Type 0) → Type 0
OnMake words P = (n : ℕ) → IsNumbered (codes "make") 0 (2 ^ 32 - 1) words n → P n

abbrev pub OnSoak : List (List ℕ) → (ℕ → Type 0) → Type 0
OnSoak words P = (n : ℕ) → IsNumbered (codes "soak") 0 (2 ^ 32 - 1) words n → P n

abbrev pub OnServe : List (List ℕ) → (ℕ → Type 0) → Type 0
OnServe words P = (n : ℕ) → IsAddressed (codes "serve") 1 1000000 words n → P n

abbrev pub OnMount : List (List ℕ) → (ℕ → Type 0) → Type 0
OnMount words P = (c : ℕ) → IsOfClerk (codes "mount") words c → P c

abbrev pub OnMounts : List (List ℕ) → (ℕ → Type 0) → Type 0
OnMounts words P = (c : ℕ) → SpellsMounts words c → P c

-- the words have no form, and the status is 2; or they have one, and it's another
abbrev pub Asks : List (List ℕ) → ℕ → Type 0
Asks words result = ((result ≡ 2) × ((c : Command) → Spells words c → ⊥)) ⊎ ((result ≡ 2 → ⊥) × (c : Command) × Spells words c)

-- a drill by the machine, line by line: each status by its causes, with what was written and what stands on the disk
abbrev pub DoesDrill : ℕ → Outside → ℕ → Type 0
DoesDrill result w most = (end : drilled.Status) × (result ≡ code (of_drill end)) × Drilled most end w

-- a transcript is judged, and the disk isn't touched
abbrev pub DoesCheck : ℕ → Outside → ℕ → Type 0
DoesCheck result w most = (st : Status) × (result ≡ code st) × Judged most st w.source w.sink × IsDiskUntouched w

-- the script of this number is written
abbrev pub DoesMake : ℕ → Outside → ℕ → Type 0
DoesMake result w n = (st : Status) × (result ≡ code st) × Made n st w.sink.bytes w.sink.bytes_after w.sink.faults w.sink.faults_after × IsSourceUntouched w × IsDiskUntouched w

-- so many links are served
abbrev pub DoesServe : ℕ → Outside → Links → ℕ → Type 0
DoesServe result w n count = (st : Status) × (result ≡ code st) × Served count st w.sink.bytes w.sink.bytes_after w.sink.faults w.sink.faults_after (serving w n) × IsSourceUntouched w

-- the script of lanes is run by this clerk, which greets with the boot that was given; a thread that couldn't be started has its status
abbrev pub DoesMount : ℕ → ℕ → Outside → Links → ℕ → Type 0
DoesMount boot result w n c = (end : mounted.Status) × (result ≡ code (of_mount end)) × Mounts c boot end (mounting w n) × Greets c boot end (mounting w n).net (mounting w n).net_after × IsDiskUntouched w × StartsAs end n.before.starts n.later.starts

-- the calls of the source are carried out over the volumes of these words by this clerk: each status by its causes, with what was written
abbrev pub DoesMounts : ℕ → List (List ℕ) → ℕ → Outside → Links → ℕ → Type 0
DoesMounts boot words result w n c = (end : mounted.Status) × (result ≡ code (of_mount end)) × MountsTable boot words c end w n

-- words of no form touch nothing
abbrev pub TouchesNothing : List (List ℕ) → Outside → Links → Type 0
TouchesNothing words w n = ((c : Command) → Spells words c → ⊥) → IsUntouched w × (n.later ≡ n.before)

-- the net and who starts threads are left as they were by words whose command doesn't use them
abbrev pub IsAlone : List (List ℕ) → Links → Type 0
IsAlone words n = ((c : Command) → Spells words c → uses_net c ≡ false) → n.later ≡ n.before
