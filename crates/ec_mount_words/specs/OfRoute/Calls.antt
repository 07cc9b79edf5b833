-- The paths of a call, the call as its volume sees it, and its answer as the caller sees it.
use Rattle.std.specs.Prelude.{◌+◌, ◌-◌, ◌^◌, ℕ, min, List, [], ◌∷◌, drop, map}
use Rattle.ec_plain.specs.Walk.{Path}
use Rattle.ec_plain.specs.declared.call.Call.{Call}
use Rattle.ec_plain.specs.declared.call.Call.TheVariants as call
use Rattle.ec_plain.specs.declared.call.Refusal.{Refusal}
use Rattle.ec_plain.specs.declared.call.Refusal.TheVariants as no
use Rattle.ec_plain.specs.declared.call.Reply.TheVariants as reply
use Rattle.ec_history.specs.declared.entry.Answer.{Answer}
use Rattle.ec_history.specs.declared.entry.Answer.TheVariants as answer

abbrev pub paths_of : Call → List Path
paths_of (call.Mkdir p) = p ∷ []
paths_of (call.Create p) = p ∷ []
paths_of (call.Write p at bytes) = p ∷ []
paths_of (call.SetLen p len) = p ∷ []
paths_of (call.Read p at count) = p ∷ []
paths_of (call.Chmod p mode) = p ∷ []
paths_of (call.Touch p stamp) = p ∷ []
paths_of (call.Stat p) = p ∷ []
paths_of (call.List p) = p ∷ []
paths_of (call.Remove p) = p ∷ []
paths_of (call.Rmdir p) = p ∷ []
paths_of (call.Rename p q) = p ∷ q ∷ []
paths_of (call.Fsync p) = p ∷ []
paths_of (call.Forder ps) = ps
paths_of call.Sync = []
paths_of (call.Chown p owner) = p ∷ []

-- the call with the rest of each path behind so many names
abbrev pub call_below : ℕ → Call → Call
call_below k (call.Mkdir p) = call.Mkdir (drop k p)
call_below k (call.Create p) = call.Create (drop k p)
call_below k (call.Write p at bytes) = call.Write (drop k p) at bytes
call_below k (call.SetLen p len) = call.SetLen (drop k p) len
call_below k (call.Read p at count) = call.Read (drop k p) at count
call_below k (call.Chmod p mode) = call.Chmod (drop k p) mode
call_below k (call.Touch p stamp) = call.Touch (drop k p) stamp
call_below k (call.Stat p) = call.Stat (drop k p)
call_below k (call.List p) = call.List (drop k p)
call_below k (call.Remove p) = call.Remove (drop k p)
call_below k (call.Rmdir p) = call.Rmdir (drop k p)
call_below k (call.Rename p q) = call.Rename (drop k p) (drop k q)
call_below k (call.Fsync p) = call.Fsync (drop k p)
call_below k (call.Forder ps) = call.Forder (map (drop k) ps)
call_below k call.Sync = call.Sync
call_below k (call.Chown p owner) = call.Chown (drop k p) owner

-- The place of a name behind so many more names, in a byte. It stops at the last one, which no place of a path comes near.
abbrev pub place_below : ℕ → ℕ → ℕ
place_below k place = min (place + k) (2 ^ 8 - 1)

abbrev pub raised_refusal : ℕ → Refusal → Refusal
raised_refusal k (no.NotFound place) = no.NotFound (place_below k place)
raised_refusal k (no.NotDir place) = no.NotDir (place_below k place)
raised_refusal k no.IsDir = no.IsDir
raised_refusal k no.Exists = no.Exists
raised_refusal k no.NotEmpty = no.NotEmpty
raised_refusal k no.TooLong = no.TooLong
raised_refusal k no.DirFull = no.DirFull
raised_refusal k no.Root = no.Root
raised_refusal k no.Loop = no.Loop

-- the answer of a volume whose mount path has so many names
abbrev pub raised : ℕ → Answer → Answer
raised k (answer.Reply (reply.Refused refusal)) = answer.Reply (reply.Refused (raised_refusal k refusal))
raised k other = other
