-- Tokens, licences, epochs and numbers: what holds of the server's tables, of the clerks' caches and of the messages between them.
use Rattle.std.specs.Prelude.{◌≡◌, ◌≢◌, ◌≤◌, ◌<◌, ◌⊎◌, ◌==◌, ◌+◌, ℕ, zero, suc, T, Bool, false, not, ◌&&◌, nat_lt, nat_le, List, [], ◌∷◌, Option, None, Some, is_some, ⊤}
use Rattle.ec_base.specs.Tables.{Table, at, at_or}
use Rattle.ec_base.specs.declared.ids.Hold.{Hold}
use Rattle.ec_base.specs.declared.ids.Hold.TheVariants.{Free, Write}
use Rattle.ec_volume.specs.Update.{member}
use Rattle.ec_volume.specs.declared.image.Image.{Image}
use Rattle.ec_volume.specs.declared.image.Image.TheVariants.{Gone}
use Rattle.ec_history.specs.History.{Each}
use Rattle.ec_base.specs.Holds.{rank, clash, is_write}
use Rattle.ec_sessions.specs.OfTokens.Tokens as tokens
use Rattle.ec_sessions.specs.OfTokens.SoundTokens as sound_tokens
use Rattle.ec_sessions.specs.declared.tokens.token.Token.{Token}
use Rattle.ec_sessions.specs.OfRecall.Wants.{is_of}
use Rattle.ec_sessions.specs.declared.recall.want.Want as want
use Rattle.ec_wire.specs.Messages.{is_held_mode}
use Rattle.ec_wire.specs.declared.msg.Msg.{Msg}
use Rattle.ec_wire.specs.declared.msg.Msg.TheVariants.{Want, Back, Flush, Room, Claim, Bye, Opened, Grant, Recall, Ids, Restarted}
use Rattle.ec_cache.specs.Cache.{last, mode}
use Rattle.ec_cache.specs.declared.state.CacheState.{CacheState}
use Rattle.ec_cache.specs.declared.state.Held.{Held}
use Rattle.ec_protocol.specs.declared.server.Server.{Server}
use Rattle.ec_protocol.specs.declared.clerk.Clerk.{Clerk}
use Rattle.ec_protocol.specs.declared.clerk.Recalled.{Recalled}
use Rattle.ec_coherence.specs.System.{System, Eff, eff_from, clerk_in, is_open, seen}

-- What these facts read.

-- of the server, while it runs
pub record Tables : Type 0 where
  pub tokens : tokens.Tokens
  pub recalls : List want.Want
  pub claimed : List ℕ
  pub number : ℕ
  pub recorded : Table ℕ

-- of a clerk
pub record Side : Type 0 where
  pub epoch : ℕ
  pub got : ℕ
  pub cache : CacheState
  pub recalls : List Recalled

pub record View : Type 0 where
  pub tables : Option Tables
  pub epoch : ℕ
  -- the next id, as messages know it and as tokens do
  pub next_id : ℕ
  pub next_token : ℕ
  pub is_open : ℕ → Bool
  pub taken : ℕ → Bool
  pub old : ℕ → ℕ → Option Eff
  pub grants : ℕ → ℕ
  pub first : ℕ → ℕ
  -- of each session the clerk that is in it, and the images that are to be seen
  pub clerk : ℕ → Option Side
  pub seen : ℕ → ℕ → Image
  pub pool : List (ℕ × Msg)

abbrev pub tables_of : Server → Tables
tables_of v = record { tokens = v.tokens; recalls = v.recalls; claimed = v.claimed; number = v.number; recorded = v.recorded }

abbrev pub tables_in : Option Server → Option Tables
tables_in None = None
tables_in (Some v) = Some (tables_of v)

abbrev pub side : Clerk → Side
side k = record { epoch = k.epoch; got = k.got; cache = k.cache; recalls = k.recalls }

abbrev pub side_in : Option Clerk → Option Side
side_in None = None
side_in (Some k) = Some (side k)

abbrev pub view : System → View
view g =
    record {
      tables = tables_in g.server;
      epoch = g.durable.epoch;
      next_id = g.durable.next_id;
      next_token = g.durable.next_id;
      is_open = λ s. is_open g s;
      taken = g.ghost.taken;
      old = g.ghost.old;
      grants = g.ghost.grants;
      first = g.ghost.first;
      clerk = λ s. side_in (clerk_in g s);
      seen = λ s x. seen g s x;
      pool = g.pool;
    }

-- of the server's tables where it runs
abbrev pub WhileUp : Option Tables → (Tables → Type 0) → Type 0
WhileUp None P = ⊤
WhileUp (Some v) P = P v

-- of the clerk in the session, where there is one
abbrev pub InSession : View → ℕ → (Side → Type 0) → Type 0
InSession w s P = (k : Side) → w.clerk s ≡ Some k → P k

-- Effective tokens.

abbrev pub eff_of : Option Tables → ℕ → (ℕ → ℕ → Option Eff) → ℕ → ℕ → Option Eff
eff_of None e old s x = old s x
eff_of (Some v) e old s x = eff_from (member s v.claimed) (tokens.token v.tokens s x) e (old s x)

abbrev pub eff : View → ℕ → ℕ → Option Eff
eff w s x = eff_of w.tables w.epoch w.old s x

abbrev pub eff_hold : Option Eff → Hold
eff_hold None = Free
eff_hold (Some f) = f.hold

-- Ids that were given to a session and that its clerk didn't take yet.

abbrev pub in_sixteen : ℕ → ℕ → Bool
in_sixteen first x = nat_le first x && nat_lt x (first + 16)

abbrev pub is_untaken : ℕ → ℕ → Option Side → ℕ → Bool
is_untaken grants first None x = false
is_untaken grants first (Some k) x = (k.got + 1 == grants) && in_sixteen first x

abbrev pub is_hidden : View → ℕ → ℕ → Bool
is_hidden w s x = is_untaken (w.grants s) (w.first s) (w.clerk s) x

-- the object's id was given out, and is no such id
abbrev pub Names : View → ℕ → Type 0
Names w x = (x < w.next_id) × ((s : ℕ) → T (not (is_hidden w s x)))

-- Facts about one row: what a session's clerk has of an object, its effective token, and the image to be seen.

-- no conflict
abbrev pub Apart : Option Eff → Option Eff → Type 0
Apart e f = T (not (clash (eff_hold e) (eff_hold f)))

-- an effective token allows what is held; it was recorded in the clerk's epoch, or before and not claimed yet. Of what is held the number is the last one.
abbrev pub Allows : ℕ → ℕ → Held → Eff → Type 0
Allows epoch n h f = (rank h.hold ≤ rank f.hold) × (h.number ≡ n)
    × (((f.epoch ≡ epoch) × (h.number ≤ f.number) × (h.number < f.number → T (not (is_write h.hold)))) ⊎ ((f.epoch < epoch) × (h.number ≡ 0)))

abbrev pub Below : ℕ → ℕ → Option Held → Option Eff → Type 0
Below epoch n None f = ⊤
Below epoch n (Some h) None = ⊥
Below epoch n (Some h) (Some f) = Allows epoch n h f

abbrev pub IsWrite : Option Held → Type 0
IsWrite None = ⊥
IsWrite (Some h) = T (is_write h.hold)

-- a Grant above the last number is the effective token, with the image to be seen
abbrev pub GrantFits : ℕ → ℕ → ℕ → Hold → Image → Option Held → Option Eff → Image → ℕ → Type 0
GrantFits epoch e n h i held f image l = e ≡ epoch → l < n → (f ≡ Some (record { hold = h; number = n; epoch = e })) × (i ≡ image) × ¬ (IsWrite held)

-- what a Back says was true, and less is held since
abbrev pub HeldAtMost : Option Held → ℕ → Hold → Type 0
HeldAtMost None n h = ⊤
HeldAtMost (Some k) n h = (n ≤ k.number) × (n ≡ k.number → rank k.hold ≤ rank h)

abbrev pub BackFits : ℕ → ℕ → ℕ → Hold → Option Held → ℕ → Type 0
BackFits epoch e n h held l = e ≡ epoch → (n ≤ l) × HeldAtMost held n h

-- a Want was sent below the mode wanted, and what is held at its number is below it
abbrev pub HeldBelow : Option Held → ℕ → Hold → Type 0
HeldBelow None n h = ⊤
HeldBelow (Some k) n h = k.number ≤ n → rank k.hold < rank h

abbrev pub WantFits : ℕ → ℕ → Hold → ℕ → Option Held → ℕ → Type 0
WantFits epoch e h n held l = e ≡ epoch → (n ≤ l) × HeldBelow held n h

-- of a noted want, the clerk knows the recorded token and holds less than is wanted
abbrev pub LacksMode : Option Held → ℕ → Hold → Type 0
LacksMode None n h = ⊤
LacksMode (Some k) n h = (k.number ≡ n) × (rank k.hold < rank h)

abbrev pub NotedFits : Hold → Option Token → Option Held → ℕ → Type 0
NotedFits h None held l = held ≡ None
NotedFits h (Some t) held l = (t.number ≤ l) × LacksMode held t.number h

-- sixteen ids that go to the clerk are its own Write tokens, new to it, and of no live object
abbrev pub IdFits : ℕ → ℕ → Option Held → Option Eff → Image → ℕ → Type 0
IdFits e n held f image l = (f ≡ Some (record { hold = Write; number = n; epoch = e })) × (held ≡ None) × (l < n) × (image ≡ Gone)

abbrev pub IdsFit : View → ℕ → ℕ → ℕ → ℕ → ℕ → Side → Type 0
IdsFit w s e got n first k = e ≡ k.epoch → got ≡ k.got → (x : ℕ) → T (in_sixteen first x) → IdFits e n (at x k.cache.held) (eff w s x) (w.seen s x) (last x k.cache)

-- what is claimed lies between what is held and what is effective
abbrev pub ClaimFits : View → ℕ → ℕ → Table Hold → Side → Type 0
ClaimFits w s e l k = (k.epoch ≡ e) × ((x : ℕ) → (rank (mode x k.cache) ≤ rank (at_or Free x l)) × (rank (at_or Free x l) ≤ rank (eff_hold (eff w s x))))

-- ids that the server hasn't recorded in this epoch weren't taken by a clerk that asks for them
abbrev pub RoomFits : View → ℕ → ℕ → ℕ → Side → Type 0
RoomFits w s e got k = (got ≤ k.got) × (e ≡ w.epoch → T (w.is_open s) → WhileUp w.tables (λ v. at s v.recorded ≡ None → got + 1 ≡ w.grants s → got ≡ k.got))

-- Facts about one message.

-- a session's message is of a session that was taken, and of an epoch that its clerk has reached
abbrev pub Passed : View → ℕ → ℕ → Type 0
Passed w s e = T (w.taken s) × (e ≤ w.epoch) × InSession w s (λ k. e ≤ k.epoch)

-- a token of this epoch goes to a session that has claimed, with a number given out
abbrev pub OfNow : View → ℕ → ℕ → ℕ → Type 0
OfNow w s e n = e ≡ w.epoch → T (w.is_open s) → WhileUp w.tables (λ v. T (member s v.claimed) × (n ≤ v.number))

abbrev pub Fits : View → Msg → Type 0
Fits w (Want s e x h n) =
    Passed w s e × T (is_held_mode h) × Names w x × InSession w s (λ k. WantFits k.epoch e h n (at x k.cache.held) (last x k.cache))
Fits w (Back s e x n h) = Passed w s e × Names w x × InSession w s (λ k. BackFits k.epoch e n h (at x k.cache.held) (last x k.cache))
Fits w (Flush s e b ops) = Passed w s e
Fits w (Room s e got ask) = Passed w s e × InSession w s (RoomFits w s e got)
Fits w (Claim s e l) =
    Passed w s e × (e ≡ w.epoch → T (w.is_open s) → WhileUp w.tables (λ v. T (not (member s v.claimed)) → InSession w s (ClaimFits w s e l)))
    × Each (λ c. Names w c.0) l
Fits w (Bye s e) = Passed w s e
Fits w (Opened age s e) = (e ≤ w.epoch) × WhileUp w.tables (λ v. T (member s v.claimed) → T (not (w.taken s)) → e ≡ w.epoch)
Fits w (Grant s e x n h i) =
    Passed w s e × OfNow w s e n × T (is_held_mode h) × Names w x
    × InSession w s (λ k. GrantFits k.epoch e n h i (at x k.cache.held) (eff w s x) (w.seen s x) (last x k.cache))
Fits w (Recall s e x n h) = Passed w s e × Names w x
Fits w (Ids s e got n first) =
    Passed w s e × OfNow w s e n × (e ≡ w.epoch → T (w.is_open s) → WhileUp w.tables (λ v. T (is_some (at s v.recorded)))) × (got < w.grants s)
    × (got + 1 ≡ w.grants s → first ≡ w.first s) × InSession w s (IdsFit w s e got n first)
Fits w (Restarted s e) = e ≤ w.epoch
Fits w _ = ⊤

-- Facts about the server's tables.

abbrev pub IsEarlier : ℕ → Option Eff → Type 0
IsEarlier e None = ⊤
IsEarlier e (Some f) = f.epoch < e

-- a want that may be granted
abbrev pub Wanted : View → Tables → ℕ → ℕ → Hold → Type 0
Wanted w v s x h =
    T (member s v.claimed) × T (w.taken s) × T (is_held_mode h) × Names w x
    × InSession w s (λ k. NotedFits h (tokens.token v.tokens s x) (at x k.cache.held) (last x k.cache))

abbrev pub Noted : View → Tables → want.Want → Type 0
Noted w v q = Wanted w v q.session q.obj q.hold

-- no two wants are of one session for one object
abbrev pub WantsAreDistinct : List want.Want → Type 0
WantsAreDistinct [] = ⊤
WantsAreDistinct (q ∷ qs) = Each (λ r. T (not (is_of q.session q.obj r))) qs × WantsAreDistinct qs

pub record TablesAgree (w : View) (v : Tables) : Type 0 where
  -- no two recorded tokens conflict, and none is Free
  pub sound : sound_tokens.IsSound v.tokens
  -- a session that has claimed is open, and its clerk is in this epoch; another one has nothing recorded
  pub are_open : (s : ℕ) → T (member s v.claimed) → T (w.is_open s)
  pub epochs : (s : ℕ) → T (member s v.claimed) → InSession w s (λ k. k.epoch ≡ w.epoch)
  pub others : (s x : ℕ) → T (not (member s v.claimed)) → (tokens.token v.tokens s x ≡ None) × (T (w.is_open s) → IsEarlier w.epoch (w.old s x))
  -- each want that is noted may be granted, and a session has one for an object
  pub wants : Each (Noted w v) v.recalls
  pub apart : WantsAreDistinct v.recalls
  -- each recorded number was given out
  pub numbers : (s x : ℕ) (t : Token) → tokens.token v.tokens s x ≡ Some t → t.number ≤ v.number
  -- the last ids, as they were recorded in this epoch, may go out again
  pub recorded : (s n : ℕ) → at s v.recorded ≡ Some n →
      T (member s v.claimed) × (n ≤ v.number) × ((got : ℕ) → got + 1 ≡ w.grants s → InSession w s (IdsFit w s w.epoch got n (w.first s)))
  pub unrecorded : (s x : ℕ) → T (member s v.claimed) → at s v.recorded ≡ None → T (is_hidden w s x) → tokens.token v.tokens s x ≡ None

-- All of it.
pub record TokensAgree (w : View) : Type 0 where
  -- no token is Free
  pub held : (s x : ℕ) (f : Eff) → eff w s x ≡ Some f → T (is_held_mode f.hold)
  pub holds : (s x : ℕ) → InSession w s (λ k. (h : Held) → at x k.cache.held ≡ Some h → T (is_held_mode h.hold))
  -- tokens are of sessions that were taken, on objects with ids given out
  pub known : (s x : ℕ) (f : Eff) → eff w s x ≡ Some f → (x < w.next_token) × T (w.taken s) × (f.epoch ≤ w.epoch)
  pub next : w.next_id ≤ w.next_token
  -- effective tokens of two open sessions don't conflict
  pub exclusive : (s t x : ℕ) → s ≢ t → T (w.is_open s) → T (w.is_open t) → Apart (eff w s x) (eff w t x)
  -- what a clerk holds is allowed by its effective token
  pub below : (s x : ℕ) → InSession w s (λ k. Below k.epoch (last x k.cache) (at x k.cache.held) (eff w s x))
  -- a session's clerk took all ids but the last sixteen
  pub got : (s : ℕ) → InSession w s (λ k. (k.epoch ≤ w.epoch) × T (w.taken s) × (k.got ≤ w.grants s) × (w.grants s ≤ k.got + 1))
  pub given : (s : ℕ) → suc zero ≤ w.grants s → (w.first s + 16 ≤ w.next_id) × T (w.taken s)
  -- hidden ids are nobody's, and of no live object
  pub alone : (s x : ℕ) → T (is_hidden w s x) → ((t : ℕ) → t ≢ s → (eff w t x ≡ None) × T (not (is_hidden w t x)))
      × InSession w s (λ k. (at x k.cache.held ≡ None) × (last x k.cache ≡ 0)) × (w.seen s x ≡ Gone)
  -- of an id that wasn't given out, no number is known
  pub lasts : (s x : ℕ) → InSession w s (λ k. w.next_id ≤ x → last x k.cache ≡ 0)
  -- no recall is about one
  pub recalled : (s : ℕ) → InSession w s (λ k. Each (λ r. Names w r.obj) k.recalls)
  -- the clerk that took an open session is in it
  pub present : (s : ℕ) → T (w.is_open s) → T (w.taken s) → T (is_some (w.clerk s))
  pub messages : Each (λ m. Fits w m.1) w.pool
  pub tables : WhileUp w.tables (TablesAgree w)
