-- What holds of the server and of each clerk while a script without faults settles.
use Rattle.std.specs.Prelude.{◌≡◌, ◌≤◌, ◌<◌, ◌+◌, ℕ, suc, T, Bool, true, false, not, ◌||◌, List, [], ◌∷◌, ◌++◌, length, nat_lt, Option, None, Some, is_none, is_some}
use Rattle.std.specs.Ordering.{nat_cmp}
use Rattle.std.specs.FinMap.{is_sorted}
use Rattle.ec_base.specs.Tables.{Table, at}
use Rattle.ec_base.specs.declared.ids.Hold.{Hold}
use Rattle.ec_volume.specs.Update.{member}
use Rattle.ec_history.specs.History.{Each}
use Rattle.ec_sessions.specs.declared.slot.Slot.{Slot}
use Rattle.ec_sessions.specs.OfTokens.Tokens.{token}
use Rattle.ec_sessions.specs.OfTokens.SoundTokens.{IsSound}
use Rattle.ec_sessions.specs.declared.tokens.token.Token.{Token}
use Rattle.ec_durable.specs.Durable.{slot}
use Rattle.ec_cache.specs.Cache.{empty, last}
use Rattle.ec_cache.specs.declared.state.Held.{Held}
use Rattle.ec_cache.specs.declared.state.CacheState.{CacheState}
use Rattle.ec_log.specs.Log as log
use Rattle.ec_log.specs.declared.state.Asked.{Asked}
use Rattle.ec_log.specs.declared.state.LogState.{LogState}
use Rattle.ec_protocol.specs.Clerk.{max_tokens}
use Rattle.ec_protocol.specs.Server.{all_claimed, clerk_from, has_claimed}
use Rattle.ec_protocol.specs.declared.clerk.Clerk.{Clerk}
use Rattle.ec_protocol.specs.declared.clerk.Wanted.{Wanted}
use Rattle.ec_protocol.specs.declared.server.Server.{Server}

-- The server.

-- the clerk whose session this is
abbrev pub session_clerk : Server → ℕ → ℕ
session_clerk v s = clerk_from 0 s v.durable.sessions

-- Sessions and tokens are in order: each open session has claimed and its clerk runs, and only those have tokens.
pub record IsOrderly (v : Server) (clerks : Table Clerk) : Type 0 where
  pub sixteen : length v.durable.sessions ≡ 16
  pub rising : T (is_sorted nat_cmp clerks)
  pub sound : IsSound v.tokens
  pub claimed : all_claimed v ≡ true
  pub run : (c : ℕ) (sl : Slot) → slot v.durable c ≡ Some sl → sl.is_open ≡ true → T (is_some (at c clerks))
  -- a slot's session is of no other slot, and was opened before the next one
  pub own : (c : ℕ) (sl : Slot) → slot v.durable c ≡ Some sl → session_clerk v sl.session ≡ c
  pub earlier : (c : ℕ) (sl : Slot) → slot v.durable c ≡ Some sl → sl.session < v.durable.next_session
  pub holders : (s x : ℕ) (t : Token) → token v.tokens s x ≡ Some t → (c : ℕ) × (sl : Slot) × (slot v.durable c ≡ Some sl) × (sl.session ≡ s) × (sl.is_open ≡ true)

-- One clerk in its session.

-- the token that the clerk holds, as the server records it
abbrev pub token_of : Option Held → Option Token
token_of None = None
token_of (Some h) = Some (record { hold = h.hold; number = h.number })

-- the server and the clerk in the session have the same token on the object, or both none
abbrev pub Same : Server → ℕ → Clerk → ℕ → Type 0
Same v s k x = token v.tokens s x ≡ token_of (at x k.cache.held)

-- so it is for all objects but these
abbrev pub SameBut : List ℕ → Server → ℕ → Clerk → Type 0
SameBut xs v s k = (x : ℕ) → T (not (member x xs)) → Same v s k x

-- The clerk is in the session of its slot, which is open, and in the server's epoch. It owes nothing. What it holds has the last number that it
-- knows, and the server gave that number out.
pub record IsIn (v : Server) (c : ℕ) (sl : Slot) (k : Clerk) : Type 0 where
  pub there : slot v.durable c ≡ Some sl
  pub is_open : sl.is_open ≡ true
  pub session : k.session ≡ Some sl.session
  pub epoch : k.epoch ≡ v.durable.epoch
  pub claimed : has_claimed sl.session v ≡ true
  pub unowed : k.owed ≡ []
  pub numbers : (x : ℕ) (h : Held) → at x k.cache.held ≡ Some h → h.number ≡ last x k.cache
  pub lasts : (x : ℕ) → last x k.cache ≤ v.number
  pub capacity : k.cache.capacity ≡ max_tokens
  pub room : length k.cache.held ≤ max_tokens

-- a want that was sent and answered by a token: the clerk knows a later number
abbrev pub WantIsAnswered : CacheState → Wanted → Type 0
WantIsAnswered k w = w.last < last w.obj k

-- the server's window has all of the clerk's batches but the last so many
abbrev pub Lacks : ℕ → Slot → LogState → Type 0
Lacks n sl l = (sl.window.low + suc n ≡ l.next_batch) × (sl.window.mask ≡ 0)

-- no token is recalled, and no batch is under way
pub record IsFree (k : Clerk) : Type 0 where
  pub recalls : k.recalls ≡ []
  pub limits : k.cache.limits ≡ []
  pub batches : k.log.batches ≡ []

-- Nothing is under way between the clerk and the server, which have the same tokens, but perhaps on these objects.
pub record IsIdleBut (xs : List ℕ) (v : Server) (c : ℕ) (sl : Slot) (k : Clerk) : Type 0 where
  pub inside : IsIn v c sl k
  pub free : IsFree k
  pub waiting : k.waiting ≡ []
  pub pushes : k.pushes ≡ []
  pub asking : k.asking ≡ None
  pub window : Lacks 0 sl k.log
  pub grants : sl.grants ≡ k.got
  pub answered : Each (WantIsAnswered k.cache) k.wanted
  pub same : SameBut xs v sl.session k

-- A start that has no session yet, and nothing else.
pub record StartIsNew (k : Clerk) : Type 0 where
  pub session : k.session ≡ None
  pub cache : k.cache ≡ empty max_tokens
  pub log : k.log ≡ log.empty
  pub owed : k.owed ≡ []
  pub recalls : k.recalls ≡ []
  pub wanted : k.wanted ≡ []
  pub ids : k.ids ≡ []
  pub got : k.got ≡ 0
  pub asking : k.asking ≡ None

-- Batches.

-- once this batch is kept, nothing that is asked for is undurable
abbrev pub is_last : Asked → ℕ → LogState → Bool
is_last a b l = is_none (log.first a (log.kept b l))

-- This batch alone is under way, the last one that began.
pub record IsSending (l : LogState) (b : ℕ) : Type 0 where
  pub numbers : List ℕ
  pub alone : l.batches ≡ (b, numbers) ∷ []
  pub next : l.next_batch ≡ b + 1
