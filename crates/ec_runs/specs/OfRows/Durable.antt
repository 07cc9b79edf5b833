-- Transcripts in which some operations become durable before others.
use Rattle.std.specs.Prelude.{◌++◌, List, [], ◌∷◌, None, Some, codes}
use Rattle.ec_volume.specs.declared.image.Kind.TheVariants as kind
use Rattle.ec_plain.specs.declared.call.Call.TheVariants as call
use Rattle.ec_plain.specs.declared.call.Reply.TheVariants as reply
use Rattle.ec_plain.specs.declared.call.Refusal.TheVariants as no
use Rattle.ec_history.specs.declared.entry.Answer.TheVariants as answer
use Rattle.ec_history.specs.declared.shown.Shown.{Shown}
use Rattle.ec_history.specs.declared.shown.Shown.TheVariants.{Waits, Answered, Durable, Ended, Crashed, Stopped, Started}
use Rattle.ec_runs.specs.OfRows.Clerks.{A, B}
use Rattle.ec_runs.specs.OfRows.Parts.{first_call, awaited, crashed, counted_file, synced_directories, overwritten_file, fsynced_first}

-- an fsync of one file, and the create of another one is lost
abbrev pub fsynced_file : List Shown
fsynced_file = fsynced_first ++ crashed (2 ∷ [])

-- the same, and the next start sees it
abbrev pub seen_by_next_start : List Shown
seen_by_next_start =
    fsynced_first
    ++ Crashed A
    ∷ Waits 6 A (call.Read (codes "b" ∷ []) 0 1)
    ∷ Ended A (2 ∷ [])
    ∷ Answered 6 A (call.Read (codes "b" ∷ []) 0 1) (answer.Reply (reply.Refused (no.NotFound 1))) None
    ∷ []

-- a read of another clerk makes the write durable, and the clerk then answers from what it holds
abbrev pub recalled_write : List Shown
recalled_write =
    first_call (call.Create (codes "f" ∷ []))
    ++ Answered 2 A (call.Write (codes "f" ∷ []) 0 (codes "hi")) (answer.Reply reply.Ok) (Some 2)
    ∷ Answered 3 A (call.Create (codes "g" ∷ [])) (answer.Reply reply.Ok) (Some 3)
    ∷ Waits 4 B (call.Read (codes "f" ∷ []) 0 9)
    ∷ Durable A (1 ∷ 3 ∷ [])
    ∷ Durable A (2 ∷ [])
    ∷ Answered 4 B (call.Read (codes "f" ∷ []) 0 9) (answer.Reply (reply.Data (codes "hi"))) None
    ∷ Answered 6 A (call.Read (codes "f" ∷ []) 0 9) (answer.Reply (reply.Data (codes "hi"))) None
    ∷ Answered 7 A (call.Write (codes "g" ∷ []) 0 (codes "x")) (answer.Reply reply.Ok) (Some 4)
    ∷ []

-- of two overwrites of one file the later one is kept
abbrev pub disjoint_overwrites : List Shown
disjoint_overwrites =
    overwritten_file (codes "aabb") (codes "cc") 2 (codes "dd")
    ++ Durable A (4 ∷ [])
    ∷ Crashed A
    ∷ Waits 8 A (call.Read (codes "f" ∷ []) 0 9)
    ∷ Ended A (3 ∷ [])
    ∷ Answered 8 A (call.Read (codes "f" ∷ []) 0 9) (answer.Reply (reply.Data (codes "aadd"))) None
    ∷ []

-- two overwrites of bytes that meet become durable together
abbrev pub meeting_overwrites : List Shown
meeting_overwrites =
    overwritten_file (codes "aabb") (codes "cc") 1 (codes "dd")
    ++ Durable A (3 ∷ 4 ∷ [])
    ∷ Crashed A
    ∷ Waits 8 A (call.Read (codes "f" ∷ []) 0 9)
    ∷ Ended A []
    ∷ Answered 8 A (call.Read (codes "f" ∷ []) 0 9) (answer.Reply (reply.Data (codes "cddb"))) None
    ∷ []

-- two moves of directories that rest on each other
abbrev pub moved_directories : List Shown
moved_directories =
    synced_directories
    ++ Answered 5 A (call.Rename (codes "a" ∷ []) (codes "b" ∷ codes "a" ∷ [])) (answer.Reply reply.Ok) (Some 4)
    ∷ Answered 6 A (call.Rename (codes "b" ∷ []) (codes "c" ∷ codes "b" ∷ [])) (answer.Reply reply.Ok) (Some 5)
    ∷ Durable A (4 ∷ 5 ∷ [])
    ∷ Crashed A
    ∷ Waits 9 A (call.List (codes "c" ∷ codes "b" ∷ []))
    ∷ Ended A []
    ∷ Answered 9 A (call.List (codes "c" ∷ codes "b" ∷ [])) (answer.Reply (reply.Names (codes "a" ∷ []))) None
    ∷ []

-- a read waits for a write of another clerk
abbrev pub late_grant : List Shown
late_grant =
    awaited 1 B (call.Create (codes "f" ∷ [])) (answer.Reply reply.Ok) (Some 1)
    ++ Waits 2 B call.Sync
    ∷ Durable B (1 ∷ [])
    ∷ Answered 2 B call.Sync (answer.Reply reply.Ok) None
    ∷ awaited 3 A (call.Stat []) (answer.Reply (reply.Stat kind.Dir 493 0 0 1)) None
    ++ Waits 5 A (call.Read (codes "f" ∷ []) 0 1)
    ∷ awaited 7 B (call.Write (codes "f" ∷ []) 0 (codes "x")) (answer.Reply reply.Ok) (Some 2)
    ++ Waits 11 A (call.Read (codes "f" ∷ []) 0 1)
    ∷ Durable B (2 ∷ [])
    ∷ Answered 5 A (call.Read (codes "f" ∷ []) 0 1) (answer.Reply (reply.Data (codes "x"))) None
    ∷ Answered 11 A (call.Read (codes "f" ∷ []) 0 1) (answer.Reply (reply.Data (codes "x"))) None
    ∷ []

-- two clerks go on behind a restart
abbrev pub claimed_tokens : List Shown
claimed_tokens =
    counted_file (codes "f")
    ++ Stopped
    ∷ Started
    ∷ awaited 5 B (call.Read (codes "f" ∷ []) 0 1) (answer.Reply (reply.Data [])) None
    ++ awaited 6 A (call.Write (codes "f" ∷ []) 0 (codes "x")) (answer.Reply reply.Ok) (Some 2)
    ++ Waits 9 B (call.Read (codes "f" ∷ []) 0 1)
    ∷ Durable A (2 ∷ [])
    ∷ Answered 9 B (call.Read (codes "f" ∷ []) 0 1) (answer.Reply (reply.Data (codes "x"))) None
    ∷ []
