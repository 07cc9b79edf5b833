-- What is proved of the records that a server commits, as contracts name it: a batch under way steps and a session can end, and behind both the facts on logs,
-- batches, ids and images hold. Behind a server's whole function with its messages, those on sessions and tokens hold too.
use Rattle.std.specs.Prelude.{◌≡◌, ◌<◌, ℕ, T, false, nat_le, None, not, List, [], ◌∷◌, ◌++◌, Option, Some, Ok}
use Rattle.ec_base.specs.Tables.{at, keys}
use Rattle.ec_base.specs.Ages.{is_older}
use Rattle.ec_base.specs.Limits.{last_counter}
use Rattle.ec_base.specs.declared.ids.Age.{Age}
use Rattle.ec_volume.specs.Update.{member}
use Rattle.ec_volume.specs.declared.update.Update.{Update}
use Rattle.ec_sessions.specs.Windows.{has}
use Rattle.ec_sessions.specs.declared.slot.Slot.{Slot}
use Rattle.ec_wire.specs.declared.msg.Msg.TheVariants.{Flush, Kept, Ended}
use Rattle.ec_durable.specs.Durable.{is_full, slot, step}
use Rattle.ec_durable.specs.declared.state.Durable.{Durable}
use Rattle.ec_durable.specs.declared.record.Record.TheVariants as record_of
use Rattle.ec_log.specs.Log.{batch}
use Rattle.ec_protocol.specs.Server.{Serving, finish, flush, grant_ids, ids_are_spent, is_last_number, open_new}
use Rattle.ec_protocol.specs.declared.clerk.Clerk.{Clerk}
use Rattle.ec_protocol.specs.declared.server.Server.{Server}
use Rattle.ec_coherence.specs.System.{System, Ghost, clerk_in}
use Rattle.ec_coherence.specs.Sessions.{SessionsAgree, IsReached}
use Rattle.ec_coherence.specs.Tokens.{TokensAgree, view}
use Rattle.ec_coherence.specs.Log as log
use Rattle.ec_coherence.specs.Log.{LogsAgree}
use Rattle.ec_coherence.specs.Images.{ImagesAgree}
use Rattle.ec_coherence.specs.Steps.{end_session, give_ids, keep_batch, open_session, serving_in, Under}

-- The facts that these laws rest on.
pub record BatchFacts (g : System) : Type 0 where
  pub sessions : SessionsAgree g
  pub tokens : TokensAgree (view g)
  pub logs : LogsAgree g
  pub images : ImagesAgree g

-- a Flush of an open session that isn't marked steps: no batch ends a session
abbrev pub FlushesStep : Type 0
FlushesStep = (g : System) → BatchFacts g → (c s e b : ℕ) (ops : List (ℕ × Update)) → log.Fits g (Flush s e b ops)
    → (sl : Slot) (k : Clerk) → slot g.durable c ≡ Some sl → sl.session ≡ s → T sl.is_open → clerk_in g s ≡ Some k → T (not (has sl.window b))
    → (d : Durable) × (step (record_of.Batch c s b ops) g.durable ≡ Ok d)

-- the system behind a committed batch, of which the clerk is told
abbrev pub behind_batch : System → Durable → Option Server → ℕ → ℕ → ℕ → ℕ → Slot → List (ℕ × Update) → System
behind_batch g d v c s b e sl ops = record g { durable = d; server = v; pool = g.pool ++ (c, Kept s e b) ∷ []; ghost = keep_batch c (sl.age).boot (keys ops) g.ghost }

-- behind it logs and images agree
abbrev pub BatchesKeep : Type 0
BatchesKeep = (g : System) → BatchFacts g → (c s : ℕ) (sl : Slot) (k : Clerk) → slot g.durable c ≡ Some sl → sl.session ≡ s → T sl.is_open → clerk_in g s ≡ Some k
    → (b : ℕ) (ns : List ℕ) → at b k.log.batches ≡ Some ns → T (not (has sl.window b)) → (v : Option Server) (e : ℕ) (d : Durable)
    → step (record_of.Batch c s b (batch b k.log)) g.durable ≡ Ok d
    → LogsAgree (behind_batch g d v c s b e sl (batch b k.log)) × ImagesAgree (behind_batch g d v c s b e sl (batch b k.log))

-- the system behind the end of a session, of which the clerk is told
abbrev pub behind_end : System → Durable → Option Server → ℕ → ℕ → ℕ → ℕ → System
behind_end g d v c s low mask = record g { durable = d; server = v; pool = g.pool ++ (c, Ended s low mask) ∷ []; ghost = end_session g s g.ghost }

-- an open session can end, and behind its end logs and images agree
abbrev pub EndsKeep : Type 0
EndsKeep = (g : System) → BatchFacts g → (c s : ℕ) (sl : Slot) → slot g.durable c ≡ Some sl → sl.session ≡ s → T sl.is_open → (v : Option Server) (low mask : ℕ)
    → (d : Durable) × (step (record_of.End c s) g.durable ≡ Ok d) × LogsAgree (behind_end g d v c s low mask) × ImagesAgree (behind_end g d v c s low mask)

-- The server's functions, with the record that they commit and the messages that they send.

-- the clerk's open session ends
abbrev pub FinishKeeps : Type 0
FinishKeeps = (g : System) (γ : Ghost) (t : Serving) → Under g t γ → (c : ℕ) (sl : Slot) → slot t.server.durable c ≡ Some sl → T sl.is_open
    → BatchFacts (serving_in (finish c sl t) (end_session (serving_in t γ g) sl.session γ) g)

-- a batch under way that isn't marked comes, of a session that has claimed
abbrev pub FlushKeeps : Type 0
FlushKeeps = (g : System) (γ : Ghost) (t : Serving) → Under g t γ → (c : ℕ) (sl : Slot) (k : Clerk) → slot t.server.durable c ≡ Some sl → T sl.is_open
    → clerk_in (serving_in t γ g) sl.session ≡ Some k → T (member sl.session t.server.claimed) → (b : ℕ) (ns : List ℕ) → at b k.log.batches ≡ Some ns → T (not (has sl.window b))
    → BatchFacts (serving_in (flush c sl.session b (batch b k.log) sl t) (keep_batch c (sl.age).boot (keys (batch b k.log)) γ) g)

-- a clerk without an open session greets with a greater age, and there is a number for its session
abbrev pub OpenKeeps : Type 0
OpenKeeps = (g : System) (γ : Ghost) (t : Serving) → Under g t γ → (c : ℕ) (age : Age) → c < 16
    → ((sl : Slot) → slot t.server.durable c ≡ Some sl → T (not sl.is_open)) → ((sl : Slot) → slot t.server.durable c ≡ Some sl → T (is_older sl.age age))
    → IsReached (serving_in t γ g) c age → nat_le last_counter t.server.durable.next_session ≡ false
    → BatchFacts (serving_in (open_new c age None t) (open_session c age t.server.durable.next_session γ) g)

-- or one with an open session does, which ends by the same record
abbrev pub OpenOverKeeps : Type 0
OpenOverKeeps = (g : System) (γ : Ghost) (t : Serving) → Under g t γ → (c : ℕ) (sl : Slot) → slot t.server.durable c ≡ Some sl → T sl.is_open
    → (age : Age) → c < 16 → T (is_older sl.age age) → IsReached (serving_in t γ g) c age → nat_le last_counter t.server.durable.next_session ≡ false
    → BatchFacts (serving_in (open_new c age (Some sl.session) t) (open_session c age t.server.durable.next_session (end_session (serving_in t γ g) sl.session γ)) g)

-- a session that has claimed, and whose clerk took all ids that it was given, is given sixteen more, where there is room
abbrev pub GiveKeeps : Type 0
GiveKeeps = (g : System) (γ : Ghost) (t : Serving) → Under g t γ → (c : ℕ) (sl : Slot) → slot t.server.durable c ≡ Some sl → T sl.is_open
    → (k : Clerk) → clerk_in (serving_in t γ g) sl.session ≡ Some k → T (member sl.session t.server.claimed) → T (γ.taken sl.session) → k.got ≡ sl.grants
    → (ask : ℕ) → is_full t.server.durable ≡ false → ids_are_spent sl.grants t ≡ false → is_last_number t ≡ false
    → BatchFacts (serving_in (grant_ids c sl.session sl.grants ask t) (give_ids sl.session t.server.durable.next_id γ) g)
