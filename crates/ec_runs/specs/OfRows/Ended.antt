-- Transcripts in which sessions end.
use Rattle.std.specs.Prelude.{◌++◌, List, [], ◌∷◌, None, Some, codes}
use Rattle.ec_volume.specs.declared.image.Kind.TheVariants as kind
use Rattle.ec_plain.specs.declared.call.Call.TheVariants as call
use Rattle.ec_plain.specs.declared.call.Reply.TheVariants as reply
use Rattle.ec_plain.specs.declared.call.Refusal.TheVariants as no
use Rattle.ec_history.specs.declared.entry.Answer.TheVariants as answer
use Rattle.ec_history.specs.declared.shown.Shown.{Shown}
use Rattle.ec_history.specs.declared.shown.Shown.TheVariants.{Waits, Answered, Durable, Ended, Unseen, Told, Crashed, Stopped, Started}
use Rattle.ec_runs.specs.OfRows.Clerks.{A, B}
use Rattle.ec_runs.specs.OfRows.Parts.{first_call, awaited, flushed, synced_files, numbers_from, made_from}
use Rattle.ec_runs.specs.OfRows.WrongReplies.{stat_of_lost}

-- a start sees that the create of the one before it is lost
abbrev pub lost_create : List Shown
lost_create = stat_of_lost (reply.Refused (no.NotFound 1))

-- a start sees that the create and the write of the one before it are lost
abbrev pub lost_write : List Shown
lost_write =
    first_call (call.Create (codes "f" ∷ []))
    ++ Answered 2 A (call.Write (codes "f" ∷ []) 0 (codes "hi")) (answer.Reply reply.Ok) (Some 2)
    ∷ Crashed A
    ∷ Waits 4 A (call.Read (codes "f" ∷ []) 0 9)
    ∷ Ended A (1 ∷ 2 ∷ [])
    ∷ Answered 4 A (call.Read (codes "f" ∷ []) 0 9) (answer.Reply (reply.Refused (no.NotFound 1))) None
    ∷ []

-- a session ends while its clerk is cut off and answers
abbrev pub late_read : List Shown
late_read =
    first_call (call.Create (codes "f" ∷ []))
    ++ Answered 2 A (call.Write (codes "f" ∷ []) 0 (codes "one")) (answer.Reply reply.Ok) (Some 2)
    ∷ flushed 3 call.Sync (1 ∷ 2 ∷ [])
    ++ Answered 5 A (call.Write (codes "f" ∷ []) 0 (codes "two")) (answer.Reply reply.Ok) (Some 3)
    ∷ Answered 6 A (call.Touch (codes "f" ∷ []) 7) (answer.Reply reply.Ok) (Some 4)
    ∷ Ended A (3 ∷ 4 ∷ [])
    ∷ awaited 8 B (call.Write (codes "f" ∷ []) 0 (codes "six")) (answer.Reply reply.Ok) (Some 1)
    ++ Answered 9 A (call.Read (codes "f" ∷ []) 0 9) (answer.Reply (reply.Data (codes "two"))) None
    ∷ Told A (3 ∷ 4 ∷ [])
    ∷ Waits 11 A (call.Stat (codes "f" ∷ []))
    ∷ Durable B (1 ∷ [])
    ∷ Answered 11 A (call.Stat (codes "f" ∷ [])) (answer.Lost (3 ∷ 4 ∷ [])) None
    ∷ Answered 12 A (call.Stat (codes "f" ∷ [])) (answer.Reply (reply.Stat kind.File 420 0 0 3)) None
    ∷ []

-- the session of a clerk that is cut off ends behind a restart
abbrev pub ended_behind_restart : List Shown
ended_behind_restart =
    first_call (call.Create (codes "f" ∷ []))
    ++ flushed 2 call.Sync (1 ∷ [])
    ++ awaited 3 B (call.Write (codes "f" ∷ []) 0 (codes "x")) (answer.Reply reply.Ok) (Some 1)
    ++ Stopped
    ∷ Started
    ∷ Waits 7 A (call.Stat (codes "f" ∷ []))
    ∷ Ended B (1 ∷ [])
    ∷ Answered 7 A (call.Stat (codes "f" ∷ [])) (answer.Reply (reply.Stat kind.File 420 0 0 0)) None
    ∷ Told B (1 ∷ [])
    ∷ awaited 10 B (call.Stat (codes "f" ∷ [])) (answer.Lost (1 ∷ [])) None

-- a rename is lost, and reported on each of its operands
abbrev pub lost_rename : List Shown
lost_rename =
    synced_files (codes "f") (codes "old") (codes "g") (codes "new")
    ++ Answered 6 A (call.Rename (codes "g" ∷ []) (codes "f" ∷ [])) (answer.Reply reply.Ok) (Some 5)
    ∷ Ended A (5 ∷ [])
    ∷ Told A (5 ∷ [])
    ∷ awaited 8 A (call.List []) (answer.Lost (5 ∷ [])) None
    ++ awaited 9 A (call.Read (codes "f" ∷ []) 0 9) (answer.Lost (5 ∷ [])) None
    ++ Answered 10 A (call.Read (codes "f" ∷ []) 0 9) (answer.Reply (reply.Data (codes "old"))) None
    ∷ awaited 11 A (call.Read (codes "g" ∷ []) 0 9) (answer.Lost (5 ∷ [])) None
    ++ Answered 12 A (call.Read (codes "g" ∷ []) 0 9) (answer.Reply (reply.Data (codes "new"))) None
    ∷ []

-- a restart finds that a session ended
abbrev pub found_at_restart : List Shown
found_at_restart =
    first_call (call.Create (codes "f" ∷ []))
    ++ Stopped
    ∷ Ended A (1 ∷ [])
    ∷ Started
    ∷ Told A (1 ∷ [])
    ∷ awaited 5 A (call.Stat (codes "f" ∷ [])) (answer.Lost (1 ∷ [])) None
    ++ Answered 6 A (call.Stat (codes "f" ∷ [])) (answer.Reply (reply.Refused (no.NotFound 1))) None
    ∷ []

-- an answer of a second start, whose session has ended
abbrev pub second_start : List Shown
second_start =
    first_call (call.Create (codes "f" ∷ []))
    ++ Crashed A
    ∷ Waits 4 A (call.Stat [])
    ∷ Ended A (1 ∷ [])
    ∷ Ended A []
    ∷ awaited 9 B (call.Create (codes "g" ∷ [])) (answer.Reply reply.Ok) (Some 1)
    ++ Answered 4 A (call.Stat []) (answer.Reply (reply.Stat kind.Dir 493 0 0 0)) None
    ∷ []

-- a session ends before the first answer
abbrev pub ended_before_answer : List Shown
ended_before_answer =
    Waits 2 A (call.Stat [])
    ∷ Ended A []
    ∷ Told A []
    ∷ Answered 2 A (call.Stat []) (answer.Reply (reply.Stat kind.Dir 493 0 0 0)) None
    ∷ []

-- the session of a start ends that crashed before it showed one
abbrev pub unseen_start : List Shown
unseen_start =
    Waits 2 A (call.Stat [])
    ∷ Crashed A
    ∷ Waits 6 A (call.Stat [])
    ∷ Unseen A
    ∷ Answered 6 A (call.Stat []) (answer.Reply (reply.Stat kind.Dir 493 0 0 0)) None
    ∷ []

-- the ids reserved for one clerk leave none for another one
abbrev pub reserved_ids : List Shown
reserved_ids =
    first_call (call.Create (codes "a" ∷ []))
    ++ Waits 2 B (call.Create (codes "b" ∷ []))
    ∷ Durable A (1 ∷ [])
    ∷ Answered 2 B (call.Create (codes "b" ∷ [])) (answer.NoRoom 2 15) None
    ∷ awaited 3 B (call.Create (codes "c" ∷ [])) (answer.NoRoom 2 15) None
    ++ Ended A []
    ∷ Told A []
    ∷ awaited 5 B (call.Create (codes "d" ∷ [])) (answer.Reply reply.Ok) (Some 1)

-- the ids that one clerk used leave none for it
abbrev pub used_ids : List Shown
used_ids =
    Waits 1 A (call.Create (codes "f1" ∷ []))
    ∷ made_from [] 16 1 1
    ++ awaited 17 A (call.Create (codes "f17" ∷ [])) (answer.NoRoom 1 16) None
    ++ flushed 18 call.Sync (numbers_from 16 1)
    ++ awaited 19 A (call.Create (codes "f18" ∷ [])) (answer.NoRoom 17 0) None
