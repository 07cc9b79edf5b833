-- What a transcript line can show: numbers, names and lists within their ranges.
use Rattle.std.specs.Prelude.{◌≡◌, ◌≤◌, ◌<◌, ◌^◌, ℕ, Option, None, Some, List, [], ◌∷◌, length, ⊤}
use Rattle.ec_base.specs.Limits.{clerk_count, max_path_names}
use Rattle.ec_base.specs.Names.{IsName}
use Rattle.ec_plain.specs.Bounds.{max_read_bytes}
use Rattle.ec_plain.specs.Walk.{Path}
use Rattle.ec_plain.specs.declared.call.Call.{Call}
use Rattle.ec_plain.specs.declared.call.Call.TheVariants as call
use Rattle.ec_plain.specs.declared.call.Refusal.{Refusal}
use Rattle.ec_plain.specs.declared.call.Refusal.TheVariants as refusal
use Rattle.ec_plain.specs.declared.call.Reply.{Reply}
use Rattle.ec_plain.specs.declared.call.Reply.TheVariants as reply
use Rattle.ec_history.specs.declared.entry.Answer.{Answer}
use Rattle.ec_history.specs.declared.entry.Answer.TheVariants as answer
use Rattle.ec_history.specs.declared.shown.Shown.{Shown}
use Rattle.ec_history.specs.declared.shown.Shown.TheVariants as shown
use Rattle.ec_volume.specs.Limits.{max_mode, max_write_bytes, max_ordered}

abbrev pub AreBytes : List ℕ → Type 0
AreBytes [] = ⊤
AreBytes (b ∷ bs) = (b < 2 ^ 8) × AreBytes bs

abbrev pub AreNames : List (List ℕ) → Type 0
AreNames [] = ⊤
AreNames (name ∷ names) = (IsName name × AreBytes name) × AreNames names

abbrev pub IsPathOf : Path → Type 0
IsPathOf p = (length p ≤ max_path_names) × AreNames p

abbrev pub ArePaths : List Path → Type 0
ArePaths [] = ⊤
ArePaths (p ∷ ps) = IsPathOf p × ArePaths ps

-- operations in strictly rising order
abbrev pub RiseFrom : ℕ → List ℕ → Type 0
RiseFrom last [] = ⊤
RiseFrom last (op ∷ ops) = ((last < op) × (op < 2 ^ 64)) × RiseFrom op ops

abbrev pub IsRising : List ℕ → Type 0
IsRising [] = ⊤
IsRising (op ∷ ops) = (op < 2 ^ 64) × RiseFrom op ops

abbrev pub ShowableCall : Call → Type 0
ShowableCall (call.Mkdir p) = IsPathOf p
ShowableCall (call.Create p) = IsPathOf p
ShowableCall (call.Write p at bytes) = (IsPathOf p × (at < 2 ^ 32)) × (AreBytes bytes × ((1 ≤ length bytes) × (length bytes ≤ max_write_bytes)))
ShowableCall (call.SetLen p len) = IsPathOf p × (len < 2 ^ 32)
ShowableCall (call.Read p at count) = (IsPathOf p × (at < 2 ^ 32)) × (count ≤ max_read_bytes)
ShowableCall (call.Chmod p mode) = IsPathOf p × (mode ≤ max_mode)
ShowableCall (call.Touch p stamp) = IsPathOf p × (stamp < 2 ^ 64)
ShowableCall (call.Stat p) = IsPathOf p
ShowableCall (call.List p) = IsPathOf p
ShowableCall (call.Remove p) = IsPathOf p
ShowableCall (call.Rmdir p) = IsPathOf p
ShowableCall (call.Rename p q) = IsPathOf p × IsPathOf q
ShowableCall (call.Fsync p) = IsPathOf p
ShowableCall (call.Forder ps) = ((1 ≤ length ps) × (length ps ≤ max_ordered)) × ArePaths ps
ShowableCall call.Sync = ⊤
ShowableCall (call.Chown p owner) = IsPathOf p × (owner < 2 ^ 32)

abbrev pub ShowableRefusal : Refusal → Type 0
ShowableRefusal (refusal.NotFound i) = i < 2 ^ 8
ShowableRefusal (refusal.NotDir i) = i < 2 ^ 8
ShowableRefusal refusal.IsDir = ⊤
ShowableRefusal refusal.Exists = ⊤
ShowableRefusal refusal.NotEmpty = ⊤
ShowableRefusal refusal.TooLong = ⊤
ShowableRefusal refusal.DirFull = ⊤
ShowableRefusal refusal.Root = ⊤
ShowableRefusal refusal.Loop = ⊤

abbrev pub ShowableReply : Reply → Type 0
ShowableReply reply.Ok = ⊤
ShowableReply (reply.Data bytes) = AreBytes bytes × (length bytes < 2 ^ 64)
ShowableReply (reply.Stat k mode stamp owner size) = ((mode ≤ max_mode) × (stamp < 2 ^ 64)) × ((owner < 2 ^ 32) × (size < 2 ^ 32))
ShowableReply (reply.Names names) = AreNames names × (length names < 2 ^ 64)
ShowableReply (reply.Refused why) = ShowableRefusal why

abbrev pub ShowableAnswer : Answer → Type 0
ShowableAnswer (answer.Reply r) = ShowableReply r
ShowableAnswer (answer.NoRoom live reserved) = (live < 2 ^ 32) × (reserved < 2 ^ 32)
ShowableAnswer (answer.Lost ops) = IsRising ops

-- Only `ok` names an operation.
abbrev pub ShowableAnswered : Answer → Option ℕ → Type 0
ShowableAnswered a None = ShowableAnswer a
ShowableAnswered a (Some op) = (a ≡ answer.Reply reply.Ok) × (op < 2 ^ 64)

abbrev pub IsShowable : Shown → Type 0
IsShowable (shown.Waits n c a) = ((n < 2 ^ 32) × (c < clerk_count)) × ShowableCall a
IsShowable (shown.Answered n c a answer op) = (((n < 2 ^ 32) × (c < clerk_count)) × ShowableCall a) × ShowableAnswered answer op
IsShowable (shown.Durable c ops) = (c < clerk_count) × IsRising ops
IsShowable (shown.Ended c ops) = (c < clerk_count) × IsRising ops
IsShowable (shown.Unseen c) = c < clerk_count
IsShowable (shown.Told c ops) = (c < clerk_count) × IsRising ops
IsShowable (shown.Crashed c) = c < clerk_count
IsShowable shown.Stopped = ⊤
IsShowable shown.Started = ⊤
IsShowable shown.Nothing = ⊤
IsShowable shown.Unsettled = ⊤
IsShowable (shown.Bad line column) = (line < 2 ^ 32) × (column < 2 ^ 32)
IsShowable (shown.DiskBad place) = place < 2 ^ 64
IsShowable (shown.Limit name n) = n < 2 ^ 64
IsShowable (shown.Spent counter) = ⊤
