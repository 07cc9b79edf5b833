-- A script of calls over several volumes: its rows, what each met, and what each volume is asked.
use Rattle.std.specs.Prelude.{◌≡◌, ◌==◌, ◌+◌, ◌≤◌, ℕ, zero, suc, if◌then◌else◌, List, [], ◌∷◌, ◌++◌, length, Option, Some, None}
use Rattle.ec_plain.specs.Walk.{Path}
use Rattle.ec_plain.specs.declared.call.Call.{Call}
use Rattle.ec_plain.specs.declared.call.Call.TheVariants.{Sync}
use Rattle.ec_script.specs.Grammar.{IsOutside}
use Rattle.ec_script.specs.Lines.{lines_of}
use Rattle.ec_script.specs.declared.line.LineFault.TheVariants as line
use Rattle.ec_words.specs.Calls.{SpellsCall}
use Rattle.ec_words.specs.Words.{words_of}
use Rattle.ec_outs.specs.Outs.{Reply}
use Rattle.ec_mount.specs.Script.{most_lines, IsScript}
use Rattle.ec_mount_words.specs.OfRoute.Calls.{paths_of, call_below}
use Rattle.ec_mount_words.specs.OfRoute.Routes.{path_at, IsRoute}
use Rattle.ec_mount_words.specs.declared.route.routes.Route.{Route}
use Rattle.ec_mount_words.specs.declared.route.routes.Route.TheVariants as route
use Rattle.ec_mount_table.specs.declared.script.Row.{Row}
use Rattle.ec_mount_table.specs.declared.seen.Seen.{Seen}
use Rattle.ec_mount_table.specs.declared.seen.Seen.TheVariants as seen

-- each line, from this number on, is a call, and these are its rows
abbrev pub AreRows : ℕ → List (List ℕ) → List Row → Type 0
AreRows n [] [] = Unit {0}
AreRows n (bytes ∷ rest) (row ∷ rows) = (row.line ≡ n) × SpellsCall (words_of bytes) row.call × AreRows (n + 1) rest rows
AreRows n _ _ = ⊥

-- a script within the limits, of these rows
pub record GivesRows (left left_after : Option (List ℕ)) (rows : List Row) : Type 0 where
  pub script : List ℕ
  pub is_script : IsScript left left_after script
  pub few_lines : length (lines_of script) ≤ most_lines
  pub read : AreRows 1 (lines_of script) rows

-- the line of this number is no call, from this column on, and those before it are
pub record IsBadAt (lines : List (List ℕ)) (n column : ℕ) : Type 0 where
  pub before : List (List ℕ)
  pub rows : List Row
  pub bytes : List ℕ
  pub rest : List (List ℕ)
  pub whole : before ++ bytes ∷ rest ≡ lines
  pub read : AreRows 1 before rows
  pub number : n ≡ length before + 1
  pub outside : IsOutside SpellsCall bytes (line.At column)

-- where a call goes: a sync to all volumes, any other by its paths
abbrev pub IsTarget : List Path → Call → Option Route → Type 0
IsTarget table call None = call ≡ Sync
IsTarget table call (Some to) = (call ≡ Sync → ⊥) × IsRoute table (paths_of call) to

-- where a row went that met this
abbrev pub target : Seen → Option Route
target (seen.To place reply) = Some (route.To place)
target (seen.NoVolume number) = Some (route.NoVolume number)
target seen.CrossVolume = Some route.CrossVolume
target (seen.All replies) = None

-- rows, and what each of them met
abbrev pub AreSeen : List Path → List Row → List Seen → Type 0
AreSeen table [] [] = Unit {0}
AreSeen table (row ∷ rows) (met ∷ mets) = IsTarget table row.call (target met) × AreSeen table rows mets
AreSeen table _ _ = ⊥

-- what a call that goes there asks of the volume at this place
abbrev pub asked_of : List Path → ℕ → Call → Option Route → List Call
asked_of table place call None = Sync ∷ []
asked_of table place call (Some (route.To to)) = if to == place then call_below (length (path_at table place)) call ∷ [] else []
asked_of table place call (Some (route.NoVolume number)) = []
asked_of table place call (Some route.CrossVolume) = []

-- what all rows ask of it, in order
abbrev pub calls_at : List Path → ℕ → List Row → List Seen → List Call
calls_at table place (row ∷ rows) (met ∷ mets) = asked_of table place row.call (target met) ++ calls_at table place rows mets
calls_at table place _ _ = []

-- the reply at this place, if there is one
abbrev pub reply_in : List Reply → ℕ → List Reply
reply_in [] place = []
reply_in (reply ∷ replies) zero = reply ∷ []
reply_in (reply ∷ replies) (suc place) = reply_in replies place

-- what the volume at this place replied
abbrev pub reply_of : ℕ → Seen → List Reply
reply_of place (seen.To to reply) = if to == place then reply ∷ [] else []
reply_of place (seen.NoVolume number) = []
reply_of place seen.CrossVolume = []
reply_of place (seen.All replies) = reply_in replies.items place

abbrev pub replies_at : ℕ → List Seen → List Reply
replies_at place [] = []
replies_at place (met ∷ mets) = reply_of place met ++ replies_at place mets

-- where the call behind the rows that were made goes: that of the next row, or the last sync
abbrev pub IsNext : List Path → List Row → Option Route → Type 0
IsNext table [] to = to ≡ None
IsNext table (row ∷ rows) to = IsTarget table row.call to

abbrev pub next_at : List Path → ℕ → List Row → Option Route → List Call
next_at table place [] to = Sync ∷ []
next_at table place (row ∷ rows) to = asked_of table place row.call to

-- answers that came to a call that met a fault: those of a sync, before the first volume that met one
abbrev pub IsPartOf : Option Route → List Reply → Type 0
IsPartOf None replies = Unit {0}
IsPartOf (Some to) replies = replies ≡ []

-- they are shown where it's the call of a row
abbrev pub IsPart : List Row → Option Route → List Reply → Type 0
IsPart (row ∷ rows) to replies = IsPartOf to replies
IsPart [] to replies = replies ≡ []
