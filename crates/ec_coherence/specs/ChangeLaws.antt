-- What is proved of one change of a clerk or of the server, as contracts name it: behind it the facts on logs, batches, ids and images hold.
use Rattle.std.specs.Prelude.{◌≡◌, ◌≢◌, ◌+◌, ℕ, T, true, false, not, List, [], ◌∷◌, ◌++◌, Option, None, Some, is_some}
use Rattle.ec_base.specs.Tables.{Table, at}
use Rattle.ec_base.specs.declared.ids.Age.{Age}
use Rattle.ec_volume.specs.Update.{has_operand, operands}
use Rattle.ec_volume.specs.Volume.{image_next}
use Rattle.ec_volume.specs.declared.update.Update.{Update}
use Rattle.ec_plain.specs.declared.call.Call.{Call}
use Rattle.ec_history.specs.History.{Each, Op}
use Rattle.ec_sessions.specs.Slots.{new_slot, run, with_ids}
use Rattle.ec_sessions.specs.Windows.{has}
use Rattle.ec_sessions.specs.declared.slot.Slot.{Slot}
use Rattle.ec_wire.specs.declared.msg.Msg.{Msg}
use Rattle.ec_wire.specs.declared.msg.Msg.TheVariants.{Flush}
use Rattle.ec_durable.specs.Durable.{slot, made}
use Rattle.ec_durable.specs.declared.state.Durable.{Durable}
use Rattle.ec_cache.specs.Cache as cache
use Rattle.ec_cache.specs.declared.state.CacheState.{CacheState}
use Rattle.ec_cache.specs.declared.state.Held.{Held}
use Rattle.ec_log.specs.Log.{after_pick, batch, batches_are_spent, issue, kept, pick}
use Rattle.ec_log.specs.declared.state.Asked.{Asked}
use Rattle.ec_log.specs.declared.state.Pick.TheVariants.{Batch}
use Rattle.ec_protocol.specs.Clerk.{first_id, suits, with_update}
use Rattle.ec_protocol.specs.declared.clerk.Clerk.{Clerk}
use Rattle.ec_protocol.specs.declared.server.Server.{Server}
use Rattle.ec_coherence.specs.System.{System, at_session, clerk_in, is_of, is_open, seen, undurable, with_start}
use Rattle.ec_coherence.specs.Tokens.{IsWrite, RoomFits, side, view}
use Rattle.ec_coherence.specs.Log as log
use Rattle.ec_coherence.specs.Log.{IdsAgree, LogsAgree, OfOpen}
use Rattle.ec_coherence.specs.Images.{ImagesAgree}
use Rattle.ec_coherence.specs.BatchLaws.{BatchFacts}
use Rattle.ec_coherence.specs.Steps.{give_ids, open_session}

abbrev pub LogsAndImages : System → Type 0
LogsAndImages h = LogsAgree h × ImagesAgree h

-- the start of the clerk c that opened the session s with this age is this one
pub record IsStart (g : System) (c s : ℕ) (age : Age) (k : Clerk) : Type 0 where
  pub owns : g.ghost.owner s ≡ Some (c, age)
  pub stands : g.clerks c age.boot ≡ Some k

-- and it's in the session
pub record IsInIt (g : System) (c s : ℕ) (age : Age) (k : Clerk) : Type 0 where
  pub start : IsStart g c s age k
  pub session : k.session ≡ Some s

abbrev pub Calls : Type 0
Calls = Table (Table (ℕ × Call))

-- the start becomes this, with these calls under way, and sends these messages
abbrev pub with_clerk : System → ℕ → ℕ → Clerk → Calls → List (ℕ × Msg) → System
with_clerk g c b k calls ms = record g { clerks = with_start c b k g.clerks; calls = calls; pool = g.pool ++ ms }

-- Of a clerk's log.

-- a batch that the server's window has is passed
abbrev pub BatchesPass : Type 0
BatchesPass = (g : System) → BatchFacts g → (c s : ℕ) (age : Age) (k : Clerk) → IsInIt g c s age k → (calls : Calls) (b : ℕ) → OfOpen g s (λ sl. T (has sl.window b))
    → LogsAndImages (with_clerk g c age.boot (record k { log = kept b k.log }) calls [])

-- a new batch is picked, and its Flush goes out
abbrev pub BatchesAreSent : Type 0
BatchesAreSent = (g : System) → BatchFacts g → (c s : ℕ) (age : Age) (k : Clerk) → IsInIt g c s age k → (calls : Calls) (a : Asked) (b : ℕ) (ns : List ℕ)
    → pick a k.log ≡ Batch b ns → batches_are_spent k.log ≡ false → (e : ℕ)
    → LogsAndImages (with_clerk g c age.boot (record k { log = after_pick (Batch b ns) k.log }) calls ((c, Flush s e b (batch b (after_pick (Batch b ns) k.log))) ∷ []))

-- the Flush of a batch under way goes out again
abbrev pub BatchesAreSentAgain : Type 0
BatchesAreSentAgain = (g : System) → BatchFacts g → (c s : ℕ) (age : Age) (k : Clerk) → IsInIt g c s age k → (calls : Calls) (b e : ℕ) → T (is_some (at b k.log.batches))
    → LogsAndImages (with_clerk g c age.boot (record k { log = k.log }) calls ((c, Flush s e b (batch b k.log)) ∷ []))

-- Of answers with an update.

-- the operation that the start issues next
abbrev pub next_op : ℕ → ℕ → Clerk → ℕ → Update → Op
next_op c b k place u = record { clerk = c; boot = b; number = k.log.next; place = place; update = u }

abbrev pub with_answer : Update → List ℕ → Clerk → Clerk
with_answer u used k = let m = with_update u k in record m { cache = cache.all_used used m.cache }

-- in an open session: Write tokens are held on the operands, where the update fits, and a new object has the clerk's first id
abbrev pub OperationsAreKept : Type 0
OperationsAreKept = (g : System) → BatchFacts g → (c s : ℕ) (age : Age) (k : Clerk) → IsInIt g c s age k → (sl : Slot) → slot g.durable c ≡ Some sl → sl.session ≡ s → T sl.is_open
    → (u : Update) (used : List ℕ) (place : ℕ) (calls : Calls) → T (suits u k.cache) → ((x : ℕ) → T (has_operand x u) → IsWrite (at x k.cache.held))
    → ((x : ℕ) → made u ≡ Some x → first_id k.ids ≡ Some x)
    → LogsAndImages (record g { clerks = with_start c age.boot (with_answer u used k) g.clerks; calls = calls; ghost = record (g.ghost) { kept = g.ghost.kept ++ next_op c age.boot k place u ∷ [] } })

-- in a session that has ended: what its clerk sees gets the operation, and nobody else
abbrev pub LateOperationsAreSeen : Type 0
LateOperationsAreSeen = (g : System) → BatchFacts g → (c s : ℕ) (age : Age) (k : Clerk) → IsInIt g c s age k → (ks : List Op) → g.ghost.frozen s ≡ Some ks
    → (u : Update) (m : CacheState) (ids : List ℕ) (place : ℕ) (calls : Calls)
    → ((x : ℕ) (o : Held) → at x m.held ≡ Some o → (p : Held) × (at x k.cache.held ≡ Some p) × (o.image ≡ image_next x p.image u))
    → LogsAndImages (record g {
      clerks = with_start c age.boot (record k { log = issue u k.log; cache = m; ids = ids }) g.clerks;
      calls = calls;
      ghost = record (g.ghost) { frozen = at_session s (Some (ks ++ next_op c age.boot k place u ∷ [])) g.ghost.frozen };
    })

-- Of sessions.

-- the server opens a session for a clerk without an open one
abbrev pub SessionsOpen : Type 0
SessionsOpen = (g : System) → BatchFacts g → (c s : ℕ) (age : Age) → g.ghost.owner s ≡ None → ((sl : Slot) → slot g.durable c ≡ Some sl → T (not sl.is_open))
    → (d : Durable) → slot d c ≡ Some (new_slot age s) → ((j : ℕ) → j ≢ c → slot d j ≡ slot g.durable j) → d.volume ≡ (g.durable).volume → d.next_id ≡ (g.durable).next_id
    → (v : Option Server) (ms : List (ℕ × Msg))
    → let h = record g { durable = d; server = v; pool = g.pool ++ ms; ghost = open_session c age s g.ghost } in Each (λ m. log.Fits h m.1) ms → LogsAndImages h

-- its clerk takes it
abbrev pub SessionsAreTaken : Type 0
SessionsAreTaken = (g : System) → BatchFacts g → (c s : ℕ) (age : Age) (k : Clerk) → IsStart g c s age k → k.session ≡ None → T (not (g.ghost.taken s))
    → (e : ℕ) (calls : Calls) (ms : List (ℕ × Msg))
    → let h = record g {
      clerks = with_start c age.boot (record k { session = Some s; epoch = e }) g.clerks;
      calls = calls;
      pool = g.pool ++ ms;
      ghost = record (g.ghost) { taken = at_session s true g.ghost.taken };
    } in Each (λ m. log.Fits h m.1) ms → LogsAndImages h

-- and leaves it, where it isn't open
abbrev pub SessionsAreLeft : Type 0
SessionsAreLeft = (g : System) → BatchFacts g → (c s : ℕ) (age : Age) (k : Clerk) → IsInIt g c s age k → T (not (is_open g s)) → (now : Clerk) → now.session ≡ None → now.log.next ≡ k.log.next
    → (calls : Calls) (ms : List (ℕ × Msg)) → let h = with_clerk g c age.boot now calls ms in Each (λ m. log.Fits h m.1) ms → LogsAndImages h

-- Of ids.

-- the server gives sixteen ids to a session whose clerk took all before
abbrev pub IdsAreGiven : Type 0
IdsAreGiven = (g : System) → BatchFacts g → (c s : ℕ) (sl : Slot) → slot g.durable c ≡ Some sl → sl.session ≡ s → T sl.is_open → T (g.ghost.taken s)
    → ((k : Clerk) → clerk_in g s ≡ Some k → k.got ≡ sl.grants) → (d : Durable) → d.volume ≡ (g.durable).volume → d.next_id ≡ (g.durable).next_id + 16
    → ((j : ℕ) → j ≢ c → slot d j ≡ slot g.durable j)
    → slot d c ≡ Some (record sl { grants = sl.grants + 1; last_first = Some ((g.durable).next_id); unspent = with_ids ((g.durable).next_id) sl.unspent })
    → (v : Option Server) (ms : List (ℕ × Msg))
    → let h = record g { durable = d; server = v; pool = g.pool ++ ms; ghost = give_ids s (g.durable).next_id g.ghost } in Each (λ m. log.Fits h m.1) ms → LogsAndImages h

-- the clerk takes them, with tokens on them
abbrev pub IdsAreTaken : Type 0
IdsAreTaken = (g : System) → BatchFacts g → (c s : ℕ) (age : Age) (k : Clerk) → IsInIt g c s age k → (calls : Calls) (first : ℕ) (m : CacheState) → k.got + 1 ≡ g.ghost.grants s → first ≡ g.ghost.first s
    → ((x : ℕ) → IsWrite (at x k.cache.held) → IsWrite (at x m.held)) → ((x : ℕ) (o : Held) → at x m.held ≡ Some o → o.image ≡ seen g s x)
    → LogsAndImages (with_clerk g c age.boot (record k { got = k.got + 1; asking = None; ids = k.ids ++ run first 16; cache = m }) calls [])

-- Of what is held.

-- What a clerk holds may change so: Write tokens on what isn't durable stay, its ids stay reserved, and each image is the one to be seen.
pub record MayHold (g : System) (s : ℕ) (k now : Clerk) : Type 0 where
  pub writes : (o : Op) → T (not (g.ghost.is_durable o)) → T (is_of (g.ghost.owner s) o) → Each (λ x. IsWrite (at x k.cache.held)) (operands o.update) → Each (λ x. IsWrite (at x now.cache.held)) (operands o.update)
  pub ids : OfOpen g s (λ sl. IdsAgree k sl (g.ghost.grants s) (g.ghost.first s) (undurable g.ghost s) → IdsAgree now sl (g.ghost.grants s) (g.ghost.first s) (undurable g.ghost s))
  pub rooms : (e got : ℕ) → OfOpen g s (λ sl. got ≡ sl.grants → RoomFits (view g) s e got (side k) → k.ids ≡ [] → now.ids ≡ [])
  pub got : OfOpen g s (λ sl. now.got + 1 ≡ sl.grants → k.got + 1 ≡ sl.grants)
  pub images : (x : ℕ) (o : Held) → at x now.cache.held ≡ Some o → o.image ≡ seen g s x

abbrev pub HeldMayChange : Type 0
HeldMayChange = (g : System) → BatchFacts g → (c s : ℕ) (age : Age) (k now : Clerk) → IsInIt g c s age k → now.session ≡ Some s → now.log ≡ k.log → (calls : Calls) (ms : List (ℕ × Msg))
    → MayHold g s k now → let h = with_clerk g c age.boot now calls ms in Each (λ m. log.Fits h m.1) ms → LogsAndImages h
