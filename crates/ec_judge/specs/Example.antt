-- Short histories, each of which breaks one rule.
use Rattle.std.specs.Prelude.{ℕ, List, [], ◌∷◌, Option, None, Some}
use Rattle.ec_plain.specs.declared.call.Call.{Call}
use Rattle.ec_plain.specs.declared.call.Call.TheVariants as call
use Rattle.ec_plain.specs.declared.call.Reply.TheVariants as reply
use Rattle.ec_history.specs.History.{History}
use Rattle.ec_history.specs.declared.entry.Answer.{Answer}
use Rattle.ec_history.specs.declared.entry.Answer.TheVariants as answer
use Rattle.ec_history.specs.declared.entry.Entry.{Entry}
use Rattle.ec_history.specs.declared.entry.Entry.TheVariants as entry

-- the path of the file f
abbrev pub f : List (List ℕ)
f = (102 ∷ []) ∷ []

abbrev pub making_entry : Option ℕ → ℕ × Entry
making_entry op = (1, entry.Call 0 1 1 0 (call.Create f) (answer.Reply reply.Ok) op)

-- a call of a clerk's start on the second line
abbrev pub then_calls : ℕ → ℕ → Call → Answer → Option ℕ → ℕ × Entry
then_calls c b cl a op = (2, entry.Call c b 2 1 cl a op)

-- the file is lost, on this line
abbrev pub loses : ℕ → ℕ × Entry
loses p = (p, entry.Loss 0 1 (1 ∷ []))

abbrev pub writes : Call
writes = call.Write f 0 (120 ∷ [])

abbrev pub wrong_number : History
wrong_number = making_entry (Some 2) ∷ []

abbrev pub silent_call : History
silent_call = making_entry (Some 1) ∷ loses 2 ∷ (3, entry.Call 0 1 3 2 (call.List []) (answer.Reply (reply.Names [])) None) ∷ []

abbrev pub false_noroom : ℕ → History
false_noroom reserved = (1, entry.Call 0 1 1 0 (call.Create f) (answer.NoRoom 1 reserved) None) ∷ []

abbrev pub wrong_reply : History
wrong_reply = making_entry (Some 1) ∷ then_calls 0 1 (call.Stat f) (answer.Reply reply.Ok) None ∷ []

abbrev pub lost_before_issued : History
lost_before_issued = loses 1 ∷ []

abbrev pub lost_synced : History
lost_synced = making_entry (Some 1) ∷ then_calls 0 1 call.Sync (answer.Reply reply.Ok) None ∷ loses 3 ∷ []

abbrev pub lost_seen : History
lost_seen = making_entry (Some 1) ∷ then_calls 1 1 (call.List []) (answer.Reply (reply.Names ((102 ∷ []) ∷ []))) None ∷ loses 3 ∷ []

abbrev pub lost_needed : History
lost_needed = making_entry (Some 1) ∷ then_calls 0 1 writes (answer.Reply reply.Ok) (Some 2) ∷ loses 3 ∷ []

-- the clerk's next start wrote the file
abbrev pub lost_written : History
lost_written = making_entry (Some 1) ∷ then_calls 0 2 writes (answer.Reply reply.Ok) (Some 1) ∷ loses 3 ∷ []
