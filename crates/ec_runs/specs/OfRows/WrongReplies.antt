-- Transcripts that end with an answer, right or not.
use Rattle.std.specs.Prelude.{◌++◌, ℕ, List, [], ◌∷◌, Option, None, Some, codes}
use Rattle.ec_volume.specs.declared.image.Kind.TheVariants as kind
use Rattle.ec_plain.specs.declared.call.Call.{Call}
use Rattle.ec_plain.specs.declared.call.Call.TheVariants as call
use Rattle.ec_plain.specs.declared.call.Reply.{Reply}
use Rattle.ec_plain.specs.declared.call.Reply.TheVariants as reply
use Rattle.ec_history.specs.declared.entry.Answer.{Answer}
use Rattle.ec_history.specs.declared.entry.Answer.TheVariants as answer
use Rattle.ec_history.specs.declared.shown.Shown.{Shown}
use Rattle.ec_history.specs.declared.shown.Shown.TheVariants.{Waits, Answered, Durable, Ended, Told, Crashed}
use Rattle.ec_runs.specs.OfRows.Clerks.{A, B}
use Rattle.ec_runs.specs.OfRows.Parts.{first_call, awaited, flushed, counted_file}

-- a start asks for the file that the start before it lost
abbrev pub stat_of_lost : Reply → List Shown
stat_of_lost given =
    first_call (call.Create (codes "f" ∷ []))
    ++ Crashed A
    ∷ Waits 3 A (call.Stat (codes "f" ∷ []))
    ∷ Ended A (1 ∷ [])
    ∷ Answered 3 A (call.Stat (codes "f" ∷ [])) (answer.Reply given) None
    ∷ []

-- a clerk reads a file that another one has written over
abbrev pub read_behind_write : List ℕ → List Shown
read_behind_write bytes =
    first_call (call.Create (codes "f" ∷ []))
    ++ Answered 2 A (call.Write (codes "f" ∷ []) 0 (codes "one")) (answer.Reply reply.Ok) (Some 2)
    ∷ Waits 3 B (call.Write (codes "f" ∷ []) 0 (codes "two"))
    ∷ Durable A (1 ∷ 2 ∷ [])
    ∷ Answered 3 B (call.Write (codes "f" ∷ []) 0 (codes "two")) (answer.Reply reply.Ok) (Some 1)
    ∷ Waits 4 A (call.Read (codes "f" ∷ []) 0 9)
    ∷ Durable B (1 ∷ [])
    ∷ Answered 4 A (call.Read (codes "f" ∷ []) 0 9) (answer.Reply (reply.Data bytes)) None
    ∷ []

-- a file is lost, and its clerk is told
abbrev told_of_create : List Shown
told_of_create =
    first_call (call.Create (codes "f" ∷ []))
    ++ Ended A (1 ∷ [])
    ∷ Told A (1 ∷ [])
    ∷ []

-- the call behind a loss of which the clerk was told
abbrev pub told_of_loss : Call → Answer → List Shown
told_of_loss next given =
    told_of_create
    ++ Waits 3 A (call.List [])
    ∷ Answered 3 A next given None
    ∷ []

-- a second sync behind the report of a loss
abbrev pub second_sync : Answer → List Shown
second_sync given =
    told_of_create
    ++ Answered 3 A call.Sync (answer.Lost (1 ∷ [])) None
    ∷ Answered 4 A call.Sync given None
    ∷ []

-- a second call on an object behind the report of its loss
abbrev pub reported_loss : Answer → List Shown
reported_loss given =
    told_of_create
    ++ awaited 3 A (call.List []) (answer.Lost (1 ∷ [])) None
    ++ Answered 4 A (call.List []) given None
    ∷ []

-- two operations on two files are lost, and a call reports on one file
abbrev pub two_lost : List ℕ → List Shown
two_lost reported =
    first_call (call.Create (codes "f" ∷ []))
    ++ Answered 2 A (call.Create (codes "g" ∷ [])) (answer.Reply reply.Ok) (Some 2)
    ∷ flushed 3 call.Sync (1 ∷ 2 ∷ [])
    ++ Answered 4 A (call.Chmod (codes "f" ∷ []) 384) (answer.Reply reply.Ok) (Some 3)
    ∷ Answered 5 A (call.Chmod (codes "g" ∷ []) 384) (answer.Reply reply.Ok) (Some 4)
    ∷ Ended A (3 ∷ 4 ∷ [])
    ∷ Told A (3 ∷ 4 ∷ [])
    ∷ awaited 6 A (call.Stat (codes "f" ∷ [])) (answer.Lost reported) None

-- a second operation of this number, if any
abbrev pub numbered_write : Option ℕ → List Shown
numbered_write op =
    first_call (call.Create (codes "f" ∷ []))
    ++ Answered 2 A (call.Write (codes "f" ∷ []) 0 (codes "hi")) (answer.Reply reply.Ok) op
    ∷ []

-- the first operation of a second start has this number
abbrev pub next_start_create : ℕ → List Shown
next_start_create op =
    first_call (call.Create (codes "f" ∷ []))
    ++ Crashed A
    ∷ Waits 3 A (call.Create (codes "g" ∷ []))
    ∷ Ended A (1 ∷ [])
    ∷ Answered 3 A (call.Create (codes "g" ∷ [])) (answer.Reply reply.Ok) (Some op)
    ∷ []

-- the first answer of a start, where the one before it crashed and was not told of its loss
abbrev pub list_of_next_start : Answer → List Shown
list_of_next_start given =
    first_call (call.Create (codes "f" ∷ []))
    ++ Ended A (1 ∷ [])
    ∷ Crashed A
    ∷ awaited 4 A (call.List []) given None

-- a call without update, and an operation of this number, if any
abbrev pub numbered_stat : Option ℕ → List Shown
numbered_stat op =
    first_call (call.Create (codes "f" ∷ []))
    ++ Answered 2 A (call.Stat (codes "f" ∷ [])) (answer.Reply (reply.Stat kind.File 420 0 0 0)) op
    ∷ []

-- no room for a call, with two objects and so many ids reserved
abbrev pub noroom_behind_create : Call → ℕ → List Shown
noroom_behind_create next reserved =
    counted_file (codes "a")
    ++ Answered 3 B next (answer.NoRoom 2 reserved) None
    ∷ []
