-- Transcripts whose lines fit together or do not.
use Rattle.std.specs.Prelude.{◌++◌, ℕ, List, [], ◌∷◌, None, Some, codes}
use Rattle.ec_volume.specs.declared.image.Kind.TheVariants as kind
use Rattle.ec_plain.specs.declared.call.Call.{Call}
use Rattle.ec_plain.specs.declared.call.Call.TheVariants as call
use Rattle.ec_plain.specs.declared.call.Reply.TheVariants as reply
use Rattle.ec_history.specs.declared.entry.Answer.{Answer}
use Rattle.ec_history.specs.declared.entry.Answer.TheVariants as answer
use Rattle.ec_history.specs.declared.shown.Shown.{Shown}
use Rattle.ec_history.specs.declared.shown.Shown.TheVariants.{Waits, Answered, Durable, Ended, Unseen, Told, Crashed}
use Rattle.ec_runs.specs.OfRows.Clerks.{A}
use Rattle.ec_runs.specs.OfRows.Parts.{first_call, awaited, flushed}

-- told, behind the loss of two operations
abbrev pub two_lost_creates : List ℕ → List Shown
two_lost_creates told =
    first_call (call.Create (codes "f" ∷ []))
    ++ Answered 2 A (call.Create (codes "g" ∷ [])) (answer.Reply reply.Ok) (Some 2)
    ∷ Ended A (1 ∷ 2 ∷ [])
    ∷ Told A told
    ∷ []

-- told, behind a write of a clerk that did not know that its session had ended
abbrev pub late_write : List ℕ → List Shown
late_write told =
    first_call (call.Create (codes "f" ∷ []))
    ++ Ended A (1 ∷ [])
    ∷ Answered 2 A (call.Write (codes "f" ∷ []) 0 (codes "hi")) (answer.Reply reply.Ok) (Some 2)
    ∷ Told A told
    ∷ []

-- a second answer
abbrev pub answered_line : ℕ → List ℕ → List Shown
answered_line number name =
    first_call (call.Create (codes "f" ∷ []))
    ++ Waits 2 A (call.Create (codes "g" ∷ []))
    ∷ Answered number A (call.Create (name ∷ [])) (answer.Reply reply.Ok) (Some 2)
    ∷ []

-- the first answer of a second start, behind these lines
abbrev pub next_start : List Shown → List Shown
next_start between =
    first_call (call.Create (codes "f" ∷ []))
    ++ flushed 2 (call.Fsync (codes "f" ∷ [])) (1 ∷ [])
    ++ Crashed A
    ∷ Waits 4 A (call.Stat [])
    ∷ between
    ++ Answered 4 A (call.Stat []) (answer.Reply (reply.Stat kind.Dir 493 0 0 1)) None
    ∷ []

-- the first answer of a second start, while the session of the first one is open
abbrev pub second_start_begins : Call → Answer → List Shown
second_start_begins next given =
    first_call (call.Create (codes "f" ∷ []))
    ++ Crashed A
    ∷ Answered 3 A next given None
    ∷ []

-- a line waits twice
abbrev pub second_waits : List ℕ → List Shown
second_waits name =
    Waits 1 A (call.Create (codes "f" ∷ []))
    ∷ Waits 1 A (call.Create (name ∷ []))
    ∷ []

-- told, behind these lines
abbrev pub told_behind : List Shown → List Shown
told_behind between =
    first_call (call.Create (codes "f" ∷ []))
    ++ between
    ++ Told A (1 ∷ [])
    ∷ []

-- a second durable line
abbrev pub two_durable_lines : List ℕ → List Shown
two_durable_lines second =
    first_call (call.Create (codes "f" ∷ []))
    ++ Answered 2 A (call.Create (codes "g" ∷ [])) (answer.Reply reply.Ok) (Some 2)
    ∷ Durable A (1 ∷ [])
    ∷ Durable A second
    ∷ []

-- a durable line of this clerk
abbrev pub durable_of : ℕ → List ℕ → List Shown
durable_of clerk named =
    first_call (call.Create (codes "f" ∷ []))
    ++ Durable clerk named
    ∷ []

-- the operations have the numbers 2 and 1, and are lost and told
abbrev pub two_numbers : List ℕ → List ℕ → List Shown
two_numbers lost told =
    awaited 1 A (call.Create (codes "f" ∷ [])) (answer.Reply reply.Ok) (Some 2)
    ++ Answered 2 A (call.Create (codes "g" ∷ [])) (answer.Reply reply.Ok) (Some 1)
    ∷ Ended A lost
    ∷ Told A told
    ∷ []

-- a sync has an operation before the session is shown
abbrev pub early_operation : List ℕ → List Shown
early_operation lost =
    Answered 1 A call.Sync (answer.Reply reply.Ok) (Some 1)
    ∷ Answered 2 A (call.Create (codes "f" ∷ [])) (answer.Reply reply.Ok) (Some 2)
    ∷ Ended A lost
    ∷ []

-- a session ends that was never shown, of a start with an operation
abbrev pub unshown_operation : List ℕ → List Shown
unshown_operation lost =
    Answered 1 A call.Sync (answer.Reply reply.Ok) (Some 1)
    ∷ Ended A lost
    ∷ []

-- a sync has an operation in an open session
abbrev pub operation_of_sync : List ℕ → List Shown
operation_of_sync lost =
    first_call (call.Create (codes "f" ∷ []))
    ++ Answered 2 A call.Sync (answer.Reply reply.Ok) (Some 2)
    ∷ Ended A lost
    ∷ []

-- the next start has an operation while the session of the first one is open
abbrev pub operation_of_next_start : List ℕ → List ℕ → List Shown
operation_of_next_start first next =
    first_call (call.Create (codes "f" ∷ []))
    ++ Crashed A
    ∷ Answered 3 A call.Sync (answer.Reply reply.Ok) (Some 1)
    ∷ Ended A first
    ∷ Answered 4 A (call.Create (codes "g" ∷ [])) (answer.Reply reply.Ok) (Some 2)
    ∷ Ended A next
    ∷ []

-- an unseen session, behind an answer and these lines
abbrev pub unseen_session : Call → List Shown → List Shown
unseen_session next between =
    Answered 1 A next (answer.Reply reply.Ok) None
    ∷ between
    ++ Unseen A
    ∷ []
