-- The histories of some transcripts.
use Rattle.std.specs.Prelude.{[], ◌∷◌, None, Some, codes}
use Rattle.ec_volume.specs.declared.image.Kind.TheVariants as kind
use Rattle.ec_plain.specs.declared.call.Call.TheVariants as call
use Rattle.ec_plain.specs.declared.call.Reply.TheVariants as reply
use Rattle.ec_history.specs.declared.entry.Answer.TheVariants as answer
use Rattle.ec_history.specs.declared.entry.Entry.TheVariants as entry
use Rattle.ec_history.specs.History.{History}
use Rattle.ec_runs.specs.OfRows.Clerks.{A, B}

-- the late read stands before the loss and before the other clerk's write
abbrev pub late_read_placed : History
late_read_placed =
    (2, entry.Call A 1 1 0 (call.Create (codes "f" ∷ [])) (answer.Reply reply.Ok) (Some 1))
    ∷ (3, entry.Call A 1 2 2 (call.Write (codes "f" ∷ []) 0 (codes "one")) (answer.Reply reply.Ok) (Some 2))
    ∷ (6, entry.Call A 1 3 3 call.Sync (answer.Reply reply.Ok) None)
    ∷ (7, entry.Call A 1 5 6 (call.Write (codes "f" ∷ []) 0 (codes "two")) (answer.Reply reply.Ok) (Some 3))
    ∷ (8, entry.Call A 1 6 7 (call.Touch (codes "f" ∷ []) 7) (answer.Reply reply.Ok) (Some 4))
    ∷ (12, entry.Call A 1 9 9 (call.Read (codes "f" ∷ []) 0 9) (answer.Reply (reply.Data (codes "two"))) None)
    ∷ (9, entry.Loss A 1 (3 ∷ 4 ∷ []))
    ∷ (11, entry.Call B 1 8 0 (call.Write (codes "f" ∷ []) 0 (codes "six")) (answer.Reply reply.Ok) (Some 1))
    ∷ (16, entry.Call A 1 11 12 (call.Stat (codes "f" ∷ [])) (answer.Lost (3 ∷ 4 ∷ [])) None)
    ∷ (17, entry.Call A 1 12 16 (call.Stat (codes "f" ∷ [])) (answer.Reply (reply.Stat kind.File 420 0 0 3)) None)
    ∷ []

-- the answer of the second start stands before that start's loss, and the first start's loss before both
abbrev pub second_start_placed : History
second_start_placed =
    (2, entry.Call A 1 1 0 (call.Create (codes "f" ∷ [])) (answer.Reply reply.Ok) (Some 1))
    ∷ (5, entry.Loss A 1 (1 ∷ []))
    ∷ (9, entry.Call A 2 4 0 (call.Stat []) (answer.Reply (reply.Stat kind.Dir 493 0 0 0)) None)
    ∷ (6, entry.Loss A 2 [])
    ∷ (8, entry.Call B 1 9 0 (call.Create (codes "g" ∷ [])) (answer.Reply reply.Ok) (Some 1))
    ∷ []

-- the late write belongs to the loss
abbrev pub late_write_placed : History
late_write_placed =
    (2, entry.Call A 1 1 0 (call.Create (codes "f" ∷ [])) (answer.Reply reply.Ok) (Some 1))
    ∷ (4, entry.Call A 1 2 3 (call.Write (codes "f" ∷ []) 0 (codes "hi")) (answer.Reply reply.Ok) (Some 2))
    ∷ (3, entry.Loss A 1 (1 ∷ 2 ∷ []))
    ∷ []
