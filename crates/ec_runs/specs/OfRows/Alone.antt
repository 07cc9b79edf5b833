-- Transcripts of one clerk.
use Rattle.std.specs.Prelude.{◌++◌, List, [], ◌∷◌, None, Some, codes}
use Rattle.ec_volume.specs.declared.image.Kind.TheVariants as kind
use Rattle.ec_plain.specs.declared.call.Call.TheVariants as call
use Rattle.ec_plain.specs.declared.call.Reply.TheVariants as reply
use Rattle.ec_plain.specs.declared.call.Refusal.TheVariants as no
use Rattle.ec_history.specs.declared.entry.Answer.TheVariants as answer
use Rattle.ec_history.specs.declared.shown.Shown.{Shown}
use Rattle.ec_history.specs.declared.shown.Shown.TheVariants.{Waits, Answered, Durable, Stopped, Started, Bad}
use Rattle.ec_runs.specs.OfRows.Clerks.{A}
use Rattle.ec_runs.specs.OfRows.Parts.{first_call, flushed, synced_files}

-- a clerk reads what it wrote
abbrev pub own_write : List Shown
own_write =
    first_call (call.Create (codes "f" ∷ []))
    ++ Answered 2 A (call.Write (codes "f" ∷ []) 0 (codes "hi")) (answer.Reply reply.Ok) (Some 2)
    ∷ Answered 3 A (call.Read (codes "f" ∷ []) 0 9) (answer.Reply (reply.Data (codes "hi"))) None
    ∷ []

-- the last line of the script is outside the grammar
abbrev pub malformed_line : List Shown
malformed_line =
    first_call (call.Create (codes "f" ∷ []))
    ++ Answered 2 A (call.Stat (codes "f" ∷ [])) (answer.Reply (reply.Stat kind.File 420 0 0 0)) None
    ∷ Bad 3 12
    ∷ []

-- each refusal that a few calls meet
abbrev pub refusals : List Shown
refusals =
    first_call (call.Create (codes "f" ∷ []))
    ++ Answered 2 A (call.Mkdir (codes "d" ∷ [])) (answer.Reply reply.Ok) (Some 2)
    ∷ Answered 3 A (call.Create (codes "d" ∷ codes "x" ∷ [])) (answer.Reply reply.Ok) (Some 3)
    ∷ Answered 4 A (call.Stat (codes "f" ∷ codes "x" ∷ [])) (answer.Reply (reply.Refused (no.NotDir 1))) None
    ∷ Answered 5 A (call.Create (codes "f" ∷ [])) (answer.Reply (reply.Refused no.Exists)) None
    ∷ Answered 6 A (call.Remove (codes "d" ∷ [])) (answer.Reply (reply.Refused no.IsDir)) None
    ∷ Answered 7 A (call.Rmdir (codes "f" ∷ [])) (answer.Reply (reply.Refused (no.NotDir 1))) None
    ∷ Answered 8 A (call.Rmdir (codes "d" ∷ [])) (answer.Reply (reply.Refused no.NotEmpty)) None
    ∷ Answered 9 A (call.List (codes "f" ∷ [])) (answer.Reply (reply.Refused (no.NotDir 1))) None
    ∷ Answered 10 A (call.Rename (codes "f" ∷ []) (codes "f" ∷ [])) (answer.Reply reply.Ok) None
    ∷ Answered 11 A (call.Rename (codes "f" ∷ []) (codes "d" ∷ [])) (answer.Reply (reply.Refused no.IsDir)) None
    ∷ Answered 12 A (call.Rename (codes "d" ∷ []) (codes "f" ∷ [])) (answer.Reply (reply.Refused (no.NotDir 1))) None
    ∷ Answered 13 A (call.Read [] 0 1) (answer.Reply (reply.Refused no.IsDir)) None
    ∷ Answered 14 A (call.Remove []) (answer.Reply (reply.Refused no.Root)) None
    ∷ Answered 15 A (call.Stat (codes "d" ∷ codes "y" ∷ [])) (answer.Reply (reply.Refused (no.NotFound 2))) None
    ∷ Answered 16 A (call.List (codes "d" ∷ [])) (answer.Reply (reply.Names (codes "x" ∷ []))) None
    ∷ []

-- a directory takes the place of an empty one
abbrev pub replaced_directory : List Shown
replaced_directory =
    first_call (call.Mkdir (codes "d" ∷ []))
    ++ Answered 2 A (call.Mkdir (codes "e" ∷ [])) (answer.Reply reply.Ok) (Some 2)
    ∷ Answered 3 A (call.Rename (codes "d" ∷ []) (codes "e" ∷ [])) (answer.Reply reply.Ok) (Some 3)
    ∷ Answered 4 A (call.List []) (answer.Reply (reply.Names (codes "e" ∷ []))) None
    ∷ []

-- a file gets an owner
abbrev pub chowned_file : List Shown
chowned_file =
    first_call (call.Create (codes "f" ∷ []))
    ++ Answered 2 A (call.Chown (codes "f" ∷ []) 7) (answer.Reply reply.Ok) (Some 2)
    ∷ Answered 3 A (call.Stat (codes "f" ∷ [])) (answer.Reply (reply.Stat kind.File 420 0 7 0)) None
    ∷ []

-- a write of the last byte that a file may have
abbrev pub farthest_byte : List Shown
farthest_byte =
    first_call (call.Create (codes "f" ∷ []))
    ++ Answered 2 A (call.Write (codes "f" ∷ []) 65535 (codes "x")) (answer.Reply reply.Ok) (Some 2)
    ∷ Answered 3 A (call.Write (codes "f" ∷ []) 65535 (codes "xy")) (answer.Reply (reply.Refused no.TooLong)) None
    ∷ Answered 4 A (call.Stat (codes "f" ∷ [])) (answer.Reply (reply.Stat kind.File 420 0 0 65536)) None
    ∷ Answered 5 A (call.Read (codes "f" ∷ []) 65536 0) (answer.Reply (reply.Data [])) None
    ∷ []

-- a directory is not moved below itself
abbrev pub refused_loop : List Shown
refused_loop =
    first_call (call.Mkdir (codes "a" ∷ []))
    ++ Answered 2 A (call.Mkdir (codes "b" ∷ [])) (answer.Reply reply.Ok) (Some 2)
    ∷ Answered 3 A (call.Rename (codes "a" ∷ []) (codes "b" ∷ codes "a" ∷ [])) (answer.Reply reply.Ok) (Some 3)
    ∷ Answered 4 A (call.Rename (codes "b" ∷ []) (codes "b" ∷ codes "a" ∷ codes "b" ∷ [])) (answer.Reply (reply.Refused no.Loop)) None
    ∷ Answered 5 A (call.Create (codes "b" ∷ codes "a" ∷ codes "f" ∷ [])) (answer.Reply reply.Ok) (Some 4)
    ∷ Answered 6 A (call.Stat (codes "a" ∷ [])) (answer.Reply (reply.Refused (no.NotFound 1))) None
    ∷ []

-- a file's move becomes durable without an earlier operation on the root
abbrev pub moved_file : List Shown
moved_file =
    first_call (call.Mkdir (codes "a" ∷ []))
    ++ Answered 2 A (call.Mkdir (codes "b" ∷ [])) (answer.Reply reply.Ok) (Some 2)
    ∷ Answered 3 A (call.Create (codes "a" ∷ codes "f" ∷ [])) (answer.Reply reply.Ok) (Some 3)
    ∷ flushed 4 call.Sync (1 ∷ 2 ∷ 3 ∷ [])
    ++ Answered 5 A (call.Create (codes "x" ∷ [])) (answer.Reply reply.Ok) (Some 4)
    ∷ Answered 6 A (call.Rename (codes "a" ∷ codes "f" ∷ []) (codes "b" ∷ codes "f" ∷ [])) (answer.Reply reply.Ok) (Some 5)
    ∷ Durable A (5 ∷ [])
    ∷ []

-- two files tied by an operation between their writes
abbrev pub tied_files : List Shown
tied_files =
    synced_files (codes "a") (codes "x") (codes "b") (codes "x")
    ++ Answered 6 A (call.Write (codes "a" ∷ []) 0 (codes "y")) (answer.Reply reply.Ok) (Some 5)
    ∷ Answered 7 A (call.Forder ((codes "a" ∷ []) ∷ (codes "b" ∷ []) ∷ [])) (answer.Reply reply.Ok) (Some 6)
    ∷ Answered 8 A (call.Write (codes "b" ∷ []) 0 (codes "y")) (answer.Reply reply.Ok) (Some 7)
    ∷ flushed 9 (call.Fsync (codes "b" ∷ [])) (5 ∷ 6 ∷ 7 ∷ [])

-- the same without that operation
abbrev pub untied_files : List Shown
untied_files =
    synced_files (codes "a") (codes "x") (codes "b") (codes "x")
    ++ Answered 6 A (call.Write (codes "a" ∷ []) 0 (codes "y")) (answer.Reply reply.Ok) (Some 5)
    ∷ Answered 7 A (call.Write (codes "b" ∷ []) 0 (codes "y")) (answer.Reply reply.Ok) (Some 6)
    ∷ flushed 8 (call.Fsync (codes "b" ∷ [])) (6 ∷ [])

-- an fsync of a new file, with these lines before its answer
abbrev fsynced_over : List Shown → List Shown
fsynced_over between =
    first_call (call.Create (codes "f" ∷ []))
    ++ Waits 3 A (call.Fsync (codes "f" ∷ []))
    ∷ between
    ++ Answered 3 A (call.Fsync (codes "f" ∷ [])) (answer.Reply reply.Ok) None
    ∷ []

-- a stop before the record of an fsync was whole
abbrev pub closed_gate : List Shown
closed_gate = fsynced_over (Stopped ∷ Started ∷ Durable A (1 ∷ []) ∷ [])

-- a stop behind the record of an fsync
abbrev pub stop_behind_open_gate : List Shown
stop_behind_open_gate = fsynced_over (Stopped ∷ Durable A (1 ∷ []) ∷ Started ∷ [])

-- two stops, without a loss
abbrev pub two_stops : List Shown
two_stops =
    first_call (call.Create (codes "f" ∷ []))
    ++ Stopped
    ∷ Stopped
    ∷ Started
    ∷ Answered 6 A (call.Stat (codes "f" ∷ [])) (answer.Reply (reply.Stat kind.File 420 0 0 0)) None
    ∷ []

-- a batch that travelled twice
abbrev pub repeated_batch : List Shown
repeated_batch =
    fsynced_over (Durable A (1 ∷ []) ∷ [])
    ++ Answered 8 A (call.Stat (codes "f" ∷ [])) (answer.Reply (reply.Stat kind.File 420 0 0 0)) None
    ∷ []
