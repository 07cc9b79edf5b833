-- How a transcript's lines stand in a history. It reads the lines alone.
use Rattle.std.specs.Prelude.{◌≡◌, ◌==◌, ◌+◌, ℕ, T, Bool, true, false, not, ◌&&◌, ◌||◌, if◌then◌else◌, List, [], ◌∷◌, ◌++◌, length, Option, None, Some, is_none, is_some, ⊤}
use Rattle.std.specs.List.{filter, list_all}
use Rattle.std.specs.Bool.{OnTrue}
use Rattle.ec_volume.specs.Update.{member, listed}
use Rattle.ec_volume.specs.Image.{is_id}
use Rattle.ec_history.specs.History.{History}
use Rattle.ec_plain.specs.declared.call.Call.{Call}
use Rattle.ec_plain.specs.declared.call.Call.TheVariants as call
use Rattle.ec_plain.specs.declared.call.Reply.TheVariants as reply
use Rattle.ec_plain.specs.declared.call.Refusal.TheVariants as no
use Rattle.ec_history.specs.declared.entry.Answer.{Answer}
use Rattle.ec_history.specs.declared.entry.Answer.TheVariants as answer
use Rattle.ec_history.specs.declared.entry.Entry.TheVariants as entry
use Rattle.ec_history.specs.declared.shown.Shown.{Shown}
use Rattle.ec_history.specs.declared.shown.Shown.TheVariants.{Waits, Answered, Durable, Ended, Unseen, Told, Crashed}
use Rattle.ec_history.specs.declared.watch.Watch.{Watch}
use Rattle.ec_base.specs.Options.{or_zero}

-- Whether the answer shows that its start has a session: all do but those that need no token.
abbrev pub shows : Call → Answer → Bool
shows call.Sync a = false
shows _ (answer.Reply (reply.Refused no.Root)) = false
shows _ _ = true

-- What the lines so far show of one clerk is a `Watch`.
abbrev pub unwatched : Watch
unwatched = record { starts = 0; running = false; open_start = None; undurable = []; early = []; untold = None; crashed = false }

-- a call line of a clerk that isn't running begins its next start
abbrev pub begun : Watch → Watch
begun w = if w.running then w else record w { starts = w.starts + 1; running = true }

abbrev pub or_else : Option ℕ → ℕ → Option ℕ
or_else (Some b) c = Some b
or_else None c = Some c

-- An operation belongs to its start whatever answer it stands on: to the loss that isn't told yet; to the open session; or to the one that comes.
abbrev pub answered : Watch → Bool → Option ℕ → Watch
answered w shown op =
    elim w.untold [
      | Some ns ↦ record w { untold = Some (ns ++ listed op) }
      | None ↦
          if shown then record w { open_start = or_else w.open_start w.starts; undurable = w.early ++ (w.undurable ++ listed op); early = [] }
          else if is_id w.starts w.open_start then record w { undurable = w.undurable ++ listed op }
          else record w { early = w.early ++ listed op }
    ]

-- the start to which an ended line belongs now: the open one, else the running one, unless that was ended and not told yet
abbrev pub owner : Watch → Option ℕ
owner w = elim w.open_start [ Some b ↦ Some b | None ↦ if w.running && is_none w.untold then Some w.starts else None ]

-- whether this start is the running one
abbrev pub is_running : Watch → Option ℕ → Bool
is_running w b = w.running && is_id w.starts b

-- what an ended line loses now: the operations of that start that no durable line named
abbrev pub to_lose : Watch → List ℕ
to_lose w = if is_some w.open_start then w.undurable else w.early

-- a session ends that loses these: that of the running start, which is still to be told, or that of an earlier one
abbrev pub ended : Watch → List ℕ → Watch
ended w ns =
    if is_running w (owner w) then record w { open_start = None; undurable = []; early = []; untold = Some ns }
    else record w { open_start = None; undurable = [] }

abbrev pub watch_next : ℕ → Watch → Shown → Watch
watch_next c w (Waits l d cl) = if c == d then begun w else w
watch_next c w (Answered l d cl a op) = if c == d then answered (begun w) (shows cl a) op else w
watch_next c w (Durable d ns) = if c == d then record w { undurable = filter (λ n. not (member n ns)) w.undurable } else w
watch_next c w (Ended d ns) = if c == d then ended w ns else w
watch_next c w (Told d ns) = if c == d then record w { untold = None } else w
watch_next c w (Crashed d) = if c == d then record w { running = false; early = []; untold = None; crashed = true } else w
watch_next c w _ = w

abbrev pub watch_from : ℕ → Watch → List Shown → Watch
watch_from c w [] = w
watch_from c w (s ∷ ss) = watch_from c (watch_next c w s) ss

abbrev pub watch : ℕ → List Shown → Watch
watch c ss = watch_from c unwatched ss

-- Which lines may stand behind these.

abbrev pub Agrees : ℕ → ℕ → Call → Shown → Type 0
Agrees l c cl (Waits k d dl) = OnTrue (k == l) ((d ≡ c) × (dl ≡ cl))
Agrees l c cl (Answered k d dl a op) = OnTrue (k == l) ((d ≡ c) × (dl ≡ cl))
Agrees l c cl _ = ⊤

abbrev pub Unanswered : ℕ → Shown → Type 0
Unanswered l (Answered k d dl a op) = (k == l) ≡ false
Unanswered l _ = ⊤

abbrev pub EachLine : (Shown → Type 0) → List Shown → Type 0
EachLine P [] = ⊤
EachLine P (s ∷ ss) = P s × EachLine P ss

-- a start shows a session only where no earlier start is open
abbrev pub may_show : Watch → Bool
may_show w = is_some w.untold || (is_none w.open_start || is_id w.starts w.open_start)

-- Lists of operations are compared as sets: each number of one is in the other.
abbrev pub same_numbers : List ℕ → List ℕ → Bool
same_numbers ns ms = list_all (λ n. member n ms) ns && list_all (λ m. member m ns) ms

-- A durable line names operations of the open session; where none is open there are none to name.
abbrev pub MayFollow : List Shown → Shown → Type 0
MayFollow past (Waits l c cl) = EachLine (Agrees l c cl) past
MayFollow past (Answered l c cl a op) = EachLine (Agrees l c cl) past × EachLine (Unanswered l) past × T (not (shows cl a) || may_show (begun (watch c past)))
MayFollow past (Durable c ns) = T (list_all (λ n. member n (watch c past).undurable) ns)
MayFollow past (Ended c ns) = T (is_some (owner (watch c past))) × T (same_numbers ns (to_lose (watch c past)))
MayFollow past (Unseen c) = ((watch c past).crashed ≡ true) × ((watch c past).open_start ≡ None)
MayFollow past (Told c ns) = T (elim (watch c past).untold [ Some ms ↦ same_numbers ns ms | None ↦ false ])
MayFollow past _ = ⊤

abbrev pub ArePlaceable : List Shown → List Shown → Type 0
ArePlaceable past [] = ⊤
ArePlaceable past (s ∷ ss) = MayFollow past s × ArePlaceable (past ++ s ∷ []) ss

-- The place of the last line among these that gives an entry of the start, or 0.

abbrev pub gives_entry : ℕ → ℕ → Watch → Shown → Bool
gives_entry c b w (Answered l d cl a op) = (c == d) && (b == (begun w).starts)
gives_entry c b w (Ended d ns) = (c == d) && is_id b (owner w)
gives_entry c b w _ = false

abbrev pub last_place : ℕ → ℕ → Watch → ℕ → ℕ → List Shown → ℕ
last_place c b w p found [] = found
last_place c b w p found (s ∷ ss) = last_place c b (watch_next c w s) (p + 1) (if gives_entry c b w s then p else found) ss

abbrev pub is_numbered : ℕ → Shown → Bool
is_numbered l (Waits k c cl) = k == l
is_numbered l (Answered k c cl a op) = k == l
is_numbered l _ = false

-- the lines before the first one of this number
abbrev pub before_line : ℕ → List Shown → List Shown
before_line l [] = []
before_line l (s ∷ ss) = if is_numbered l s then [] else s ∷ before_line l ss

-- The entries of the lines.

abbrev pub call_entry : List Shown → Shown → History
call_entry past (Answered l c cl a op) =
    let b = (begun (watch c past)).starts in
    (length past + 1, entry.Call c b l (last_place c b unwatched 1 0 (before_line l past)) cl a op) ∷ []
call_entry past _ = []

abbrev pub is_call_of : ℕ → Shown → Bool
is_call_of c (Answered l d cl a op) = c == d
is_call_of c _ = false

-- the running start of the clerk ends here, or is told
abbrev pub is_end_of : ℕ → Shown → Bool
is_end_of c (Told d ns) = c == d
is_end_of c (Crashed d) = c == d
is_end_of c _ = false

-- the clerk's answers up to the told line, the crash or the end
abbrev pub late : ℕ → List Shown → List Shown → History
late c past [] = []
late c past (s ∷ ss) = if is_end_of c s then [] else (if is_call_of c s then call_entry past s else []) ++ late c (past ++ s ∷ []) ss

abbrev pub ops_in : History → List ℕ
ops_in [] = []
ops_in ((p, entry.Call c b l begun cl a op) ∷ h) = listed op ++ ops_in h
ops_in ((p, entry.Loss c b ns) ∷ h) = ops_in h

-- what one line gives: an answer its call, unless it stands with a loss above it; an ended line the late answers and the loss
abbrev pub line_entries : List Shown → Shown → List Shown → History
line_entries past (Answered l c cl a op) rest = if is_some (watch c past).untold then [] else call_entry past (Answered l c cl a op)
line_entries past (Ended c ns) rest =
    let w = watch c past in
    let calls = if is_running w (owner w) then late c (past ++ Ended c ns ∷ []) rest else [] in
    calls ++ (length past + 1, entry.Loss c (or_zero (owner w)) (ns ++ ops_in calls)) ∷ []
line_entries past _ rest = []

abbrev pub place_from : List Shown → List Shown → History
place_from past [] = []
place_from past (s ∷ rest) = line_entries past s rest ++ place_from (past ++ s ∷ []) rest

abbrev pub place : List Shown → History
place ss = place_from [] ss
