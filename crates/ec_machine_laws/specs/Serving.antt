-- A server's step with one want at most, by its parts.
use Rattle.std.specs.Prelude.{◌≡◌, ◌==◌, ◌+◌, ℕ, true, false, List, [], ◌∷◌, ◌++◌, map, Option, None, Some, nat_lt, ⊤}
use Rattle.ec_base.specs.Tables.{put}
use Rattle.ec_base.specs.declared.ids.Hold.{Hold}
use Rattle.ec_volume.specs.Volume.{images}
use Rattle.ec_sessions.specs.Limits.{ids_per_grant}
use Rattle.ec_sessions.specs.Slots.{run}
use Rattle.ec_sessions.specs.declared.slot.Slot.{Slot}
use Rattle.ec_sessions.specs.OfTokens.Tokens.{Holder, granted, lowered}
use Rattle.ec_sessions.specs.declared.tokens.token.Token.{Token}
use Rattle.ec_sessions.specs.OfRecall.Due.{recall_to, told_of}
use Rattle.ec_sessions.specs.declared.recall.want.Want.{Want}
use Rattle.ec_wire.specs.declared.msg.Msg.{Msg}
use Rattle.ec_wire.specs.declared.msg.Msg.TheVariants.{Grant, Recall}
use Rattle.ec_durable.specs.declared.state.Durable.{Durable}
use Rattle.ec_protocol.specs.Server.{Serving, with_server, with_ids, clerk_of, epoch, slot_of, has_claimed}
use Rattle.ec_protocol.specs.declared.server.Server.{Server}

-- the server's wants are these
abbrev pub with_wants : List Want → Serving → Serving
with_wants ws t = with_server (λ s. record s { recalls = ws }) t

-- a session's want of which nobody was told
abbrev pub new_want : ℕ → ℕ → Hold → Want
new_want ss x h = record { session = ss; obj = x; hold = h; told = [] }

-- the same want, where these holders were told
abbrev pub telling : List Holder → Want → Want
telling gs w = record w { told = map told_of gs }

-- the recalls of these holders for a want, each for the holder's clerk
abbrev pub recalls_of : Serving → Want → List Holder → List (ℕ × Msg)
recalls_of t w gs = map (λ g. (clerk_of g.0 t, Recall g.0 (epoch t) w.obj g.2 (recall_to w.hold))) gs

-- a token of the next number is recorded and sent, with the object's image
abbrev pub granting : ℕ → ℕ → Hold → Serving → Serving
granting ss x h t =
    let n = t.server.number + 1 in
    record t {
      server = record (t.server) { number = n; tokens = granted ss x h n t.server.tokens };
      sent = t.sent ++ (clerk_of ss t, Grant ss (epoch t) x n h (images t.server.durable.volume x)) ∷ [];
    }

-- the session's token on the object is lowered
abbrev pub lowering : ℕ → ℕ → Hold → ℕ → Server → Server
lowering ss x to n s = record s { tokens = lowered ss x to n s.tokens }

-- Sixteen ids from the first one on are granted: their tokens for writing are recorded, with the next number.
abbrev pub giving_ids : ℕ → ℕ → Durable → Server → Server
giving_ids ss first d s =
    let n = s.number + 1 in
    record s { durable = d; number = n; tokens = with_ids ss n (run first ids_per_grant) s.tokens; recorded = put ss n s.recorded }

-- the clerk's slot is open with this session, which has claimed in this epoch
pub record IsAtWork (c ss e : ℕ) (sl : Slot) (t : Serving) : Type 0 where
  pub slot : slot_of c t ≡ Some sl
  pub session : (sl.session == ss) ≡ true
  pub is_open : sl.is_open ≡ true
  pub epoch : (e == epoch t) ≡ true
  pub claimed : has_claimed ss t.server ≡ true

-- no token of this session, or one that the clerk knows of
abbrev pub IsKnown : Option Token → ℕ → Type 0
IsKnown None last = ⊤
IsKnown (Some k) last = nat_lt last k.number ≡ false
