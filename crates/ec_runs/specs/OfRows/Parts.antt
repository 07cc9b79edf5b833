-- Parts that several transcripts share.
use Rattle.std.specs.Prelude.{◌+◌, ◌/◌, ◌%◌, ◌++◌, ltb, cond, ℕ, zero, suc, List, [], ◌∷◌, Option, None, Some, codes}
use Rattle.ec_volume.specs.declared.image.Kind.TheVariants as kind
use Rattle.ec_plain.specs.Walk.{Path}
use Rattle.ec_plain.specs.declared.call.Call.{Call}
use Rattle.ec_plain.specs.declared.call.Call.TheVariants as call
use Rattle.ec_plain.specs.declared.call.Reply.TheVariants as reply
use Rattle.ec_history.specs.declared.entry.Answer.{Answer}
use Rattle.ec_history.specs.declared.entry.Answer.TheVariants as answer
use Rattle.ec_history.specs.declared.shown.Shown.{Shown}
use Rattle.ec_history.specs.declared.shown.Shown.TheVariants.{Waits, Answered, Durable, Ended, Crashed}
use Rattle.ec_runs.specs.OfRows.Clerks.{A, B}

-- a call that waits, and has this answer with no line between
abbrev pub awaited : ℕ → ℕ → Call → Answer → Option ℕ → List Shown
awaited line clerk next given op =
    Waits line clerk next
    ∷ Answered line clerk next given op
    ∷ []

-- the first call, which is done
abbrev pub first_call : Call → List Shown
first_call first = awaited 1 A first (answer.Reply reply.Ok) (Some 1)

-- a call on this line that makes these operations durable
abbrev pub flushed : ℕ → Call → List ℕ → List Shown
flushed line next made_durable =
    Waits line A next
    ∷ Durable A made_durable
    ∷ Answered line A next (answer.Reply reply.Ok) None
    ∷ []

-- a crash, and the loss of these operations
abbrev pub crashed : List ℕ → List Shown
crashed lost =
    Crashed A
    ∷ Ended A lost
    ∷ []

-- a file of this name, which another clerk counts in the root
abbrev pub counted_file : List ℕ → List Shown
counted_file name =
    first_call (call.Create (name ∷ []))
    ++ Waits 2 B (call.Stat [])
    ∷ Durable A (1 ∷ [])
    ∷ Answered 2 B (call.Stat []) (answer.Reply (reply.Stat kind.Dir 493 0 0 1)) None
    ∷ []

-- two files of these names and bytes, which are synced
abbrev pub synced_files : List ℕ → List ℕ → List ℕ → List ℕ → List Shown
synced_files one its_bytes other other_bytes =
    first_call (call.Create (one ∷ []))
    ++ Answered 2 A (call.Write (one ∷ []) 0 its_bytes) (answer.Reply reply.Ok) (Some 2)
    ∷ Answered 3 A (call.Create (other ∷ [])) (answer.Reply reply.Ok) (Some 3)
    ∷ Answered 4 A (call.Write (other ∷ []) 0 other_bytes) (answer.Reply reply.Ok) (Some 4)
    ∷ flushed 5 call.Sync (1 ∷ 2 ∷ 3 ∷ 4 ∷ [])

-- three directories, which are synced
abbrev pub synced_directories : List Shown
synced_directories =
    first_call (call.Mkdir (codes "a" ∷ []))
    ++ Answered 2 A (call.Mkdir (codes "b" ∷ [])) (answer.Reply reply.Ok) (Some 2)
    ∷ Answered 3 A (call.Mkdir (codes "c" ∷ [])) (answer.Reply reply.Ok) (Some 3)
    ∷ flushed 4 call.Sync (1 ∷ 2 ∷ 3 ∷ [])

-- a file of these bytes, which is synced and then overwritten twice, the second time from here on
abbrev pub overwritten_file : List ℕ → List ℕ → ℕ → List ℕ → List Shown
overwritten_file bytes first at second =
    first_call (call.Create (codes "f" ∷ []))
    ++ Answered 2 A (call.Write (codes "f" ∷ []) 0 bytes) (answer.Reply reply.Ok) (Some 2)
    ∷ flushed 3 call.Sync (1 ∷ 2 ∷ [])
    ++ Answered 4 A (call.Write (codes "f" ∷ []) 0 first) (answer.Reply reply.Ok) (Some 3)
    ∷ Answered 5 A (call.Write (codes "f" ∷ []) at second) (answer.Reply reply.Ok) (Some 4)
    ∷ []

-- two files, of which the first is fsynced
abbrev pub fsynced_first : List Shown
fsynced_first =
    first_call (call.Create (codes "a" ∷ []))
    ++ Answered 2 A (call.Create (codes "b" ∷ [])) (answer.Reply reply.Ok) (Some 2)
    ∷ Answered 3 A (call.Write (codes "a" ∷ []) 0 (codes "x")) (answer.Reply reply.Ok) (Some 3)
    ∷ flushed 4 (call.Fsync (codes "a" ∷ [])) (1 ∷ 3 ∷ [])

-- so many numbers, from this one on
abbrev pub numbers_from : ℕ → ℕ → List ℕ
numbers_from zero n = []
numbers_from (suc k) n = n ∷ numbers_from k (n + 1)

-- this letter, and a number below 1000 in decimal
abbrev pub lettered : List ℕ → ℕ → List ℕ
lettered letter n = letter ++ cond (ltb n 100) [] ((48 + n / 100) ∷ []) ++ cond (ltb n 10) [] ((48 + n / 10 % 10) ∷ []) ++ (48 + n % 10) ∷ []

-- so many new files below this directory, from the Nth one fN and this line on
abbrev pub made_from : Path → ℕ → ℕ → ℕ → List Shown
made_from above zero n line = []
made_from above (suc k) n line =
    Answered line A (call.Create (above ++ lettered (codes "f") n ∷ [])) (answer.Reply reply.Ok) (Some line)
    ∷ made_from above k (n + 1) (line + 1)
