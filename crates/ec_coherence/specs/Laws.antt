-- What is proved of the server's steps, as contracts name it.
use Rattle.std.specs.Prelude.{◌≡◌, ◌+◌, ℕ, T, not, false, ◌∷◌, None, Some}
use Rattle.ec_base.specs.Tables.{Table, at}
use Rattle.ec_base.specs.declared.ids.Hold.{Hold}
use Rattle.ec_volume.specs.Update.{member}
use Rattle.ec_wire.specs.Messages.{is_sound}
use Rattle.ec_wire.specs.declared.msg.Msg.{Msg}
use Rattle.ec_wire.specs.declared.msg.Msg.TheVariants.{Want, Back, Claim}
use Rattle.ec_sessions.specs.declared.slot.Slot.{Slot}
use Rattle.ec_durable.specs.Durable.{slot}
use Rattle.ec_sessions.specs.OfTokens.Tokens as tokens
use Rattle.ec_protocol.specs.Server.{Serving, serve, start, want, back, note, tell, tell_ended, record_ids, is_last_number}
use Rattle.ec_coherence.specs.System.{System, Ghost, is_open}
use Rattle.ec_coherence.specs.Sessions as sessions
use Rattle.ec_coherence.specs.Sessions.{IsOf}
use Rattle.ec_coherence.specs.Log as log
use Rattle.ec_coherence.specs.Tokens.{Fits, Side, Wanted, tables_of, view}
use Rattle.ec_coherence.specs.Invariant.{Invariant}
use Rattle.ec_coherence.specs.Steps.{serving_in, Under, Stood}

-- the wants are served
abbrev pub ServeStands : Type 0
ServeStands = (g : System) (γ : Ghost) (t : Serving) → Under g t γ → t.spent ≡ None → Stood g (serve t)

-- a stopped server starts
abbrev pub StartStands : Type 0
StartStands = (g : System) → Invariant g → g.server ≡ None → g.unshown ≡ None → Stood g (start g.durable)

-- a token is given back, of a session that has claimed
abbrev pub BackStands : Type 0
BackStands = (g : System) (γ : Ghost) (t : Serving) → Under g t γ → (s x : ℕ) → T (member s t.server.claimed) → (e n : ℕ) (h : Hold)
    → Fits (view (serving_in t γ g)) (Back s e x n h) → e ≡ t.server.durable.epoch → Under g (back s x n h t) γ

-- a want of such a session is answered or noted
abbrev pub WantStands : Type 0
WantStands = (g : System) (γ : Ghost) (t : Serving) → Under g t γ → (s x : ℕ) → T (member s t.server.claimed) → (c e l : ℕ) (h : Hold)
    → IsOf (serving_in t γ g) c s → Fits (view (serving_in t γ g)) (Want s e x h l) → e ≡ t.server.durable.epoch → Under g (want c s x h l t) γ

-- a message goes out of which each family of facts holds
abbrev pub SaidStands : Type 0
SaidStands = (g : System) (γ : Ghost) (t : Serving) → Under g t γ → (c : ℕ) (m : Msg) → sessions.Fits (serving_in t γ g) c m → T (is_sound m)
    → Fits (view (serving_in t γ g)) m → log.Fits (serving_in t γ g) m → Under g (tell c m t) γ

-- a want that may be granted is noted
abbrev pub NoteStands : Type 0
NoteStands = (g : System) (γ : Ghost) (t : Serving) → Under g t γ → (s x : ℕ) → T (member s t.server.claimed) → (h : Hold)
    → Wanted (view (serving_in t γ g)) (tables_of t.server) s x h → Under g (note s x h t) γ

-- a claim without a clash is recorded, of an open session that hasn't claimed
abbrev pub ClaimStands : Type 0
ClaimStands = (g : System) (γ : Ghost) (t : Serving) → Under g t γ → (s e : ℕ) (l : Table Hold) → Fits (view (serving_in t γ g)) (Claim s e l)
    → T (is_sound (Claim s e l)) → e ≡ t.server.durable.epoch → T (is_open (serving_in t γ g) s) → T (not (member s t.server.claimed))
    → tokens.first_clash t.server.tokens s l ≡ None
    → Under g (record t { server = record (t.server) { tokens = tokens.claimed s l t.server.tokens; claimed = s ∷ t.server.claimed } }) γ

-- the last ids of a session that has claimed, which its clerk didn't take, are recorded in this epoch
abbrev pub RecordedIdsStand : Type 0
RecordedIdsStand = (g : System) (γ : Ghost) (t : Serving) → Under g t γ → (s : ℕ) (k : Side) → T (member s t.server.claimed)
    → (view (serving_in t γ g)).clerk s ≡ Some k → k.got + 1 ≡ γ.grants s → at s t.server.recorded ≡ None → is_last_number t ≡ false
    → Under g (record_ids s (γ.first s) t) γ

-- a clerk is told that its last session has ended
abbrev pub ToldEndStands : Type 0
ToldEndStands = (g : System) (γ : Ghost) (t : Serving) → Under g t γ → (c : ℕ) (sl : Slot) → slot t.server.durable c ≡ Some sl → T (not sl.is_open)
    → Under g (tell_ended c sl t) γ
