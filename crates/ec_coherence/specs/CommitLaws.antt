-- What is proved of a server's functions that commit a record, as contracts name it: the whole invariant stands behind them, with what the lines show.
use Rattle.std.specs.Prelude.{◌≡◌, ◌<◌, ◌⊎◌, ℕ, T, false, nat_le, not, List, [], ◌∷◌, ◌++◌, Contains, Option, None, Some, is_some, ⊤}
use Rattle.ec_base.specs.Ages.{is_older}
use Rattle.ec_base.specs.Limits.{last_counter}
use Rattle.ec_base.specs.Tables.{at, keys}
use Rattle.ec_base.specs.declared.ids.Age.{Age}
use Rattle.ec_history.specs.declared.shown.Shown.TheVariants as show
use Rattle.ec_volume.specs.Update.{member}
use Rattle.ec_sessions.specs.Windows.{has}
use Rattle.ec_sessions.specs.declared.slot.Slot.{Slot}
use Rattle.ec_durable.specs.Durable.{is_full, slot}
use Rattle.ec_durable.specs.declared.state.Durable.{Durable}
use Rattle.ec_wire.specs.declared.msg.Msg.{Msg}
use Rattle.ec_wire.specs.declared.msg.Msg.TheVariants.{Hello, Want, Back, Flush, Room, Claim}
use Rattle.ec_log.specs.Log.{batch}
use Rattle.ec_protocol.specs.Server.{Serving, flush, grant_ids, ids_are_spent, is_last_number, open_new, take}
use Rattle.ec_protocol.specs.declared.clerk.Clerk.{Clerk}
use Rattle.ec_protocol.specs.declared.server.Server.{Server}
use Rattle.ec_coherence.specs.System.{System, Ghost, clerk_in}
use Rattle.ec_coherence.specs.Sessions.{IsReached}
use Rattle.ec_coherence.specs.Invariant.{Invariant}
use Rattle.ec_coherence.specs.Steps.{give_ids, keep_batch, open_session, serving_in, Under}
use Rattle.ec_coherence.specs.Opening.{opening}
use Rattle.ec_coherence.specs.Starts.{StartsAgree}
use Rattle.ec_coherence.specs.Watches.{FirstsAgree, WatchesAgree}

-- A step under way stands, the lines show what they are to show, ids are in their range, and starts are of this run.
abbrev pub StepStands : System → Serving → Ghost → Type 0
StepStands g t γ = Under g t γ × WatchesAgree (serving_in t γ g) × FirstsAgree γ × StartsAgree (serving_in t γ g)

-- all these facts of a state
abbrev pub AllAgree : System → Type 0
AllAgree g = Invariant g × WatchesAgree g × FirstsAgree g.ghost × StartsAgree g

-- what the lines are to show they show before anything happened, and all starts are still to come
abbrev pub OpeningShows : Type 0
OpeningShows = (most : ℕ) → WatchesAgree (opening most) × FirstsAgree (opening most).ghost × StartsAgree (opening most)

-- a change of the server that leaves the slots, with messages that are sent, leaves that
abbrev pub LinesStand : Type 0
LinesStand = (g : System) (d : Durable) (v : Option Server) (p : List (ℕ × Msg)) → d.sessions ≡ (g.durable).sessions → WatchesAgree g → WatchesAgree (record g { durable = d; server = v; pool = p })

-- a session that has claimed, and whose clerk took all ids that it was given, is given sixteen more, where there is room
abbrev pub GiveStands : Type 0
GiveStands = (g : System) (γ : Ghost) (t : Serving) → StepStands g t γ → t.rec ≡ None → (c : ℕ) (sl : Slot) → slot t.server.durable c ≡ Some sl → T sl.is_open
    → (k : Clerk) → clerk_in (serving_in t γ g) sl.session ≡ Some k → T (member sl.session t.server.claimed) → T (γ.taken sl.session) → k.got ≡ sl.grants
    → (ask : ℕ) → is_full t.server.durable ≡ false → ids_are_spent sl.grants t ≡ false → is_last_number t ≡ false
    → StepStands g (grant_ids c sl.session sl.grants ask t) (give_ids sl.session t.server.durable.next_id γ)

-- a clerk without an open session greets with a greater age, and there is a number for its session
abbrev pub OpenStands : Type 0
OpenStands = (g : System) (γ : Ghost) (t : Serving) → StepStands g t γ → t.rec ≡ None → (c : ℕ) (age : Age) → c < 16
    → ((sl : Slot) → slot t.server.durable c ≡ Some sl → T (not sl.is_open)) → ((sl : Slot) → slot t.server.durable c ≡ Some sl → T (is_older sl.age age))
    → IsReached (serving_in t γ g) c age → g.first_boot c < age.boot → nat_le last_counter t.server.durable.next_session ≡ false
    → StepStands g (open_new c age None t) (open_session c age t.server.durable.next_session γ)

-- a batch is kept, and a line says so
abbrev pub show_batch : ℕ → ℕ → List ℕ → Ghost → Ghost
show_batch c b ns γ = record (keep_batch c b ns γ) { shown = γ.shown ++ show.Durable c ns ∷ [] }

-- a batch under way that isn't marked comes, of a session that has claimed
abbrev pub FlushStands : Type 0
FlushStands = (g : System) (γ : Ghost) (t : Serving) → StepStands g t γ → t.rec ≡ None → (c : ℕ) (sl : Slot) (k : Clerk) → slot t.server.durable c ≡ Some sl → T sl.is_open
    → clerk_in (serving_in t γ g) sl.session ≡ Some k → T (member sl.session t.server.claimed) → (b : ℕ) (ns : List ℕ) → at b k.log.batches ≡ Some ns → T (not (has sl.window b))
    → StepStands g (flush c sl.session b (batch b k.log) sl t) (show_batch c (sl.age).boot (keys (batch b k.log)) γ)

-- Whole messages.

-- The step that a server makes of a message stands, unless it's refused because a counter is spent.
abbrev pub TakesStep : System → ℕ → Msg → Server → Type 0
TakesStep g c m v = T (is_some (take c m v).spent) ⊎ ((γ : Ghost) × StepStands g (take c m v) γ)

-- a running server takes a message that was sent
abbrev pub TakesEach : (Msg → Type 0) → Type 0
TakesEach P = (g : System) (v : Server) → AllAgree g → g.server ≡ Some v → (c : ℕ) (m : Msg) → P m → Contains g.pool (c, m) → TakesStep g c m v

-- a want, a token given back, and a batch
abbrev pub IsWant : Msg → Type 0
IsWant (Want s e x h l) = ⊤
IsWant _ = ⊥

abbrev pub IsBack : Msg → Type 0
IsBack (Back s e x n h) = ⊤
IsBack _ = ⊥

abbrev pub IsFlush : Msg → Type 0
IsFlush (Flush s e b ops) = ⊤
IsFlush _ = ⊥

-- a claim: it never ends its session
abbrev pub IsClaim : Msg → Type 0
IsClaim (Claim s e l) = ⊤
IsClaim _ = ⊥

-- a greeting, where no session is open in whose place a new one would come
abbrev pub TakesHellos : Type 0
TakesHellos = (g : System) (v : Server) → AllAgree g → g.server ≡ Some v → (c from : ℕ) (age : Age)
    → ((sl : Slot) → slot v.durable c ≡ Some sl → T sl.is_open → is_older sl.age age ≡ false) → Contains g.pool (c, Hello from age) → TakesStep g c (Hello from age) v

-- an asking for ids
abbrev pub IsRoom : Msg → Type 0
IsRoom (Room s e got ask) = ⊤
IsRoom _ = ⊥
