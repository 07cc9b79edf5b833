-- Transcripts with a loss, right or not.
use Rattle.std.specs.Prelude.{◌++◌, ℕ, List, [], ◌∷◌, None, Some, codes}
use Rattle.ec_volume.specs.declared.image.Kind.TheVariants as kind
use Rattle.ec_plain.specs.declared.call.Call.{Call}
use Rattle.ec_plain.specs.declared.call.Call.TheVariants as call
use Rattle.ec_plain.specs.declared.call.Reply.TheVariants as reply
use Rattle.ec_history.specs.declared.entry.Answer.{Answer}
use Rattle.ec_history.specs.declared.entry.Answer.TheVariants as answer
use Rattle.ec_history.specs.declared.shown.Shown.{Shown}
use Rattle.ec_history.specs.declared.shown.Shown.TheVariants.{Waits, Answered, Durable, Ended, Told, Crashed}
use Rattle.ec_runs.specs.OfRows.Clerks.{A, B}
use Rattle.ec_runs.specs.OfRows.Parts.{first_call, awaited, flushed, crashed, counted_file, synced_directories, overwritten_file, fsynced_first}

-- an fsync of one of two files, and a loss
abbrev pub fsynced_write : List ℕ → List Shown
fsynced_write lost = fsynced_first ++ crashed lost

-- an fsync behind these lines, and a loss
abbrev pub answered_fsync : List Shown → List ℕ → List Shown
answered_fsync made_durable lost =
    first_call (call.Create (codes "f" ∷ []))
    ++ made_durable
    ++ Answered 2 A (call.Fsync (codes "f" ∷ [])) (answer.Reply reply.Ok) None
    ∷ crashed lost

-- a sync behind these lines, and a loss
abbrev pub answered_sync : List Shown → List ℕ → List Shown
answered_sync made_durable lost =
    first_call (call.Create (codes "f" ∷ []))
    ++ Answered 2 A (call.Create (codes "g" ∷ [])) (answer.Reply reply.Ok) (Some 2)
    ∷ made_durable
    ++ Answered 3 A call.Sync (answer.Reply reply.Ok) None
    ∷ crashed lost

-- a create and a write, of which these become durable and those are lost
abbrev pub written_file : List ℕ → List ℕ → List Shown
written_file kept lost =
    first_call (call.Create (codes "f" ∷ []))
    ++ Answered 2 A (call.Write (codes "f" ∷ []) 0 (codes "hi")) (answer.Reply reply.Ok) (Some 2)
    ∷ Durable A kept
    ∷ crashed lost

-- two files tied by an operation between their writes, of which these become durable and those are lost
abbrev pub tied_writes : List ℕ → List ℕ → List Shown
tied_writes kept lost =
    first_call (call.Create (codes "a" ∷ []))
    ++ Answered 2 A (call.Create (codes "b" ∷ [])) (answer.Reply reply.Ok) (Some 2)
    ∷ flushed 3 call.Sync (1 ∷ 2 ∷ [])
    ++ Answered 4 A (call.Write (codes "a" ∷ []) 0 (codes "x")) (answer.Reply reply.Ok) (Some 3)
    ∷ Answered 5 A (call.Forder ((codes "a" ∷ []) ∷ (codes "b" ∷ []) ∷ [])) (answer.Reply reply.Ok) (Some 4)
    ∷ Answered 6 A (call.Write (codes "b" ∷ []) 0 (codes "y")) (answer.Reply reply.Ok) (Some 5)
    ∷ Durable A kept
    ∷ crashed lost

-- two overwrites of one byte, of which one becomes durable and one is lost
abbrev pub overwritten_byte : List ℕ → List ℕ → List Shown
overwritten_byte kept lost = overwritten_file (codes "a") (codes "b") 0 (codes "c") ++ Durable A kept ∷ crashed lost

-- a directory moves below another one, which itself moved before; of these operations some become durable and some are lost
abbrev pub moved_below : List ℕ → List ℕ → List Shown
moved_below kept lost =
    synced_directories
    ++ Answered 5 A (call.Rename (codes "b" ∷ []) (codes "c" ∷ codes "b" ∷ [])) (answer.Reply reply.Ok) (Some 4)
    ∷ Answered 6 A (call.Rename (codes "a" ∷ []) (codes "c" ∷ codes "b" ∷ codes "a" ∷ [])) (answer.Reply reply.Ok) (Some 5)
    ∷ Durable A kept
    ∷ crashed lost

-- another clerk sees a new file behind these lines, and then comes a loss
abbrev pub seen_create : List Shown → List ℕ → List Shown
seen_create made_durable lost =
    first_call (call.Create (codes "f" ∷ []))
    ++ Waits 2 B (call.Stat (codes "f" ∷ []))
    ∷ made_durable
    ++ Answered 2 B (call.Stat (codes "f" ∷ [])) (answer.Reply (reply.Stat kind.File 420 0 0 0)) None
    ∷ crashed lost

-- another clerk calls before a write is lost
abbrev pub seen_write : Call → Answer → List Shown
seen_write next given =
    counted_file (codes "f")
    ++ awaited 3 A (call.Write (codes "f" ∷ []) 0 (codes "x")) (answer.Reply reply.Ok) (Some 2)
    ++ Answered 4 B next given None
    ∷ crashed (2 ∷ [])

-- an fsync that waits, with these lines before and behind its begin, and a loss
abbrev pub fsync_begun : List Shown → List Shown → List Shown
fsync_begun before behind =
    first_call (call.Create (codes "f" ∷ []))
    ++ before
    ++ Waits 2 A (call.Fsync (codes "f" ∷ []))
    ∷ behind
    ++ Durable A (1 ∷ [])
    ∷ Answered 2 A (call.Fsync (codes "f" ∷ [])) (answer.Reply reply.Ok) None
    ∷ crashed (2 ∷ [])

-- an fsync of a second start, whose operation has the number of a durable one of the first start, behind these lines
abbrev pub fsync_of_second_start : List Shown → List Shown
fsync_of_second_start made_durable =
    first_call (call.Create (codes "f" ∷ []))
    ++ flushed 2 call.Sync (1 ∷ [])
    ++ Crashed A
    ∷ Waits 4 A (call.Create (codes "g" ∷ []))
    ∷ Ended A []
    ∷ Answered 4 A (call.Create (codes "g" ∷ [])) (answer.Reply reply.Ok) (Some 1)
    ∷ Waits 5 A (call.Fsync (codes "g" ∷ []))
    ∷ made_durable
    ++ Answered 5 A (call.Fsync (codes "g" ∷ [])) (answer.Reply reply.Ok) None
    ∷ []

-- an fsync of a file whose last write is ordered behind lost operations, with these lines before its answer
abbrev pub fsync_over_lost : List Shown → List Shown
fsync_over_lost made_durable =
    first_call (call.Create (codes "f" ∷ []))
    ++ flushed 2 call.Sync (1 ∷ [])
    ++ Answered 3 A (call.Create (codes "g" ∷ [])) (answer.Reply reply.Ok) (Some 2)
    ∷ Answered 4 A (call.Forder ((codes "f" ∷ []) ∷ (codes "g" ∷ []) ∷ [])) (answer.Reply reply.Ok) (Some 3)
    ∷ Ended A (2 ∷ 3 ∷ [])
    ∷ Told A (2 ∷ 3 ∷ [])
    ∷ awaited 5 A (call.Stat (codes "f" ∷ [])) (answer.Lost (2 ∷ 3 ∷ [])) None
    ++ awaited 6 A (call.Write (codes "f" ∷ []) 0 (codes "x")) (answer.Reply reply.Ok) (Some 4)
    ++ Waits 7 A (call.Fsync (codes "f" ∷ []))
    ∷ made_durable
    ++ Answered 7 A (call.Fsync (codes "f" ∷ [])) (answer.Reply reply.Ok) None
    ∷ []

-- two creates, and a loss
abbrev pub two_creates : List ℕ → List Shown
two_creates lost =
    first_call (call.Create (codes "f" ∷ []))
    ++ Answered 2 A (call.Create (codes "g" ∷ [])) (answer.Reply reply.Ok) (Some 2)
    ∷ crashed lost

-- two ends of sessions, with these lines between them
abbrev pub two_ends : List Shown → List Shown
two_ends between =
    first_call (call.Create (codes "f" ∷ []))
    ++ Ended A (1 ∷ [])
    ∷ between
    ++ Ended A []
    ∷ []
