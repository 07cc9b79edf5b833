-- The phases of a line that settles: which messages are under way, and what holds then.
use Rattle.std.specs.Prelude.{◌≡◌, ◌≢◌, ◌≤◌, ◌<◌, ◌⊎◌, ◌==◌, ◌+◌, ℕ, T, Bool, true, false, not, ◌&&◌, ◌||◌, List, [], ◌∷◌, ◌++◌, map, filter, length, Option, None, Some, Contains, ⊤}
use Rattle.std.specs.List.{list_any}
use Rattle.ec_base.specs.Tables.{Table, at}
use Rattle.ec_base.specs.Holds.{is_below}
use Rattle.ec_base.specs.declared.ids.Age.{Age}
use Rattle.ec_base.specs.declared.ids.Hold.{Hold}
use Rattle.ec_base.specs.declared.ids.Hold.TheVariants.{Free, Read, Write}
use Rattle.ec_volume.specs.Update.{member}
use Rattle.ec_volume.specs.Volume.{images}
use Rattle.ec_history.specs.History.{Each}
use Rattle.ec_plain.specs.declared.call.Call.{Call}
use Rattle.ec_order.specs.Order.{Issued}
use Rattle.ec_sessions.specs.Limits.{ids_per_grant}
use Rattle.ec_sessions.specs.Slots.{is_greater, is_open, run}
use Rattle.ec_sessions.specs.declared.slot.Slot.{Slot}
use Rattle.ec_sessions.specs.OfTokens.Tokens.{Holder, conflicts, token}
use Rattle.ec_sessions.specs.declared.tokens.token.Token.{Token}
use Rattle.ec_sessions.specs.OfRecall.Due.{recall_to, told_of}
use Rattle.ec_sessions.specs.declared.recall.want.Want as noted
use Rattle.ec_wire.specs.declared.msg.Msg.{Msg}
use Rattle.ec_wire.specs.declared.msg.Msg.TheVariants as msg
use Rattle.ec_durable.specs.Durable.{slot}
use Rattle.ec_cache.specs.Cache.{last, mode}
use Rattle.ec_cache.specs.declared.state.Held.{Held}
use Rattle.ec_log.specs.Log as log
use Rattle.ec_log.specs.declared.state.Asked.{Asked}
use Rattle.ec_log.specs.declared.state.Asked.TheVariants.{Object}
use Rattle.ec_cache.specs.declared.resolve.verdict.Verdict.TheVariants.{Need, NeedIds}
use Rattle.ec_protocol.specs.Clerk.{verdict, wanted}
use Rattle.ec_protocol.specs.Server.{has_claimed}
use Rattle.ec_protocol.specs.declared.clerk.Clerk.{Clerk}
use Rattle.ec_protocol.specs.declared.clerk.Recalled.{Recalled}
use Rattle.ec_protocol.specs.declared.clerk.Wanted.{Wanted}
use Rattle.ec_quiet.specs.Facts.{WantIsAnswered, IsFree, IsIdleBut, IsIn, StartIsNew as IsNew, IsOrderly, IsSending, Lacks, Same, SameBut, session_clerk as clerk_of, is_last, token_of}
use Rattle.ec_quiet.specs.Scenes.{Mail, Scene}
use Rattle.ec_quiet.specs.Works.{HasTask, NothingWaits as IsDone, Task, Calls, Pushes, Work, asked, is_saving}

-- Which messages are under way. In brackets: for a line's clerk A, or for one of its conflicting holders C.
pub data Phase : Type 0 where
  -- A's start greets; its session is opened; it claims nothing, and perhaps wants a token
  Greets : Age → Phase
  Opens : Age → Phase
  Claims : Option (ℕ × Hold) → Phase
  -- A wants a token that is above its last number on the object
  Wants : ℕ → Hold → ℕ → Phase
  -- A's want is noted: these holders are recalled, and then those give back
  Recalls : ℕ → Hold → List Holder → List Holder → Phase
  -- the one holder has to make a batch durable first, and perhaps a further one
  Flushes : ℕ → Hold → Holder → ℕ → Issued → Bool → Phase
  Keeps : ℕ → Hold → Holder → ℕ → Bool → Phase
  -- A is granted a token of this number
  Grants : ℕ → Hold → ℕ → Phase
  -- A asks for ids, perhaps once more in this line; it's given them, or there is no room
  Asks : Bool → ℕ → ℕ → Phase
  Gives : ℕ → ℕ → ℕ → Phase
  Refuses : Bool → ℕ → ℕ → ℕ → Phase
  -- A makes a batch durable, and perhaps a further one
  Saves : ℕ → Issued → Bool → Phase
  Saved : ℕ → Bool → Phase
  -- A has what it needs
  Ends : Phase

-- The messages of a phase.

abbrev pub want_of : Work → ℕ → ℕ → Hold → ℕ → ℕ × Msg
want_of j e x h n = (j.clerk, msg.Want j.session e x h n)

abbrev pub first_want : Work → ℕ → Option (ℕ × Hold) → Mail
first_want j e None = []
first_want j e (Some p) = want_of j e p.0 p.1 0 ∷ []

abbrev pub recall_of : Scene → ℕ → Hold → Holder → ℕ × Msg
recall_of sc x h r = (clerk_of sc.server r.0, msg.Recall r.0 sc.server.durable.epoch x r.2 (recall_to h))

abbrev pub back_of : Scene → ℕ → Hold → Holder → ℕ × Msg
back_of sc x h r = (clerk_of sc.server r.0, msg.Back r.0 sc.server.durable.epoch x r.2 (recall_to h))

abbrev pub messages_in : Work → Scene → ℕ → Phase → Mail
messages_in j sc e (Greets age) = (j.clerk, msg.Hello j.clerk age) ∷ []
messages_in j sc e (Opens age) = (j.clerk, msg.Opened age j.session e) ∷ []
messages_in j sc e (Claims o) = (j.clerk, msg.Claim j.session e []) ∷ first_want j e o
messages_in j sc e (Wants x h n) = want_of j e x h n ∷ []
messages_in j sc e (Recalls x h rs bs) = map (recall_of sc x h) rs ++ map (back_of sc x h) bs
messages_in j sc e (Flushes x h r b ops rest) = (clerk_of sc.server r.0, msg.Flush r.0 e b ops) ∷ []
messages_in j sc e (Keeps x h r b rest) = (clerk_of sc.server r.0, msg.Kept r.0 e b) ∷ []
messages_in j sc e (Grants x h n) = (j.clerk, msg.Grant j.session e x n h (images sc.server.durable.volume x)) ∷ []
messages_in j sc e (Asks again got ask) = (j.clerk, msg.Room j.session e got ask) ∷ []
messages_in j sc e (Gives got n first) = (j.clerk, msg.Ids j.session e got n first) ∷ []
messages_in j sc e (Refuses again ask live reserved) = (j.clerk, msg.NoRoom j.session e ask live reserved) ∷ []
messages_in j sc e (Saves b ops rest) = (j.clerk, msg.Flush j.session e b ops) ∷ []
messages_in j sc e (Saved b rest) = (j.clerk, msg.Kept j.session e b) ∷ []
messages_in j sc e Ends = []

abbrev pub messages : Work → Scene → Phase → Mail
messages j sc p = messages_in j sc sc.server.durable.epoch p

-- Beside them, tokens that A had too many of may be on their way back.

abbrev pub is_back_message : Msg → Bool
is_back_message (msg.Back s e x n h) = true
is_back_message _ = false

abbrev pub is_back : Work → ℕ × Msg → Bool
is_back j m = (m.0 == j.clerk) && is_back_message m.1

abbrev pub backs : Work → Mail → Mail
backs j ms = filter (is_back j) ms

abbrev pub main : Work → Mail → Mail
main j ms = filter (λ m. not (is_back j m)) ms

-- What it gives back isn't held any more, unless by a later number, which it knows.
pub record IsGivenBack (j : Work) (e : ℕ) (k : Clerk) (m : Msg) : Type 0 where
  pub obj : ℕ
  pub number : ℕ
  pub is : m ≡ msg.Back j.session e obj number Free
  pub known : number ≤ last obj k.cache
  pub held : (h : Held) → at obj k.cache.held ≡ Some h → number < h.number

-- Such a token is still recorded; it was there before the line began, or isn't of a touched object.
pub record IsLeaving (j : Work) (sc : Scene) (k : Clerk) (x : ℕ) : Type 0 where
  pub number : ℕ
  pub hold : Hold
  pub sent : Contains sc.mail (j.clerk, msg.Back j.session sc.server.durable.epoch x number Free)
  pub recorded : token sc.server.tokens j.session x ≡ Some (record { hold = hold; number = number })
  pub gone : at x k.cache.held ≡ None
  pub old : (number ≤ j.number) ⊎ (member x j.touched ≡ false)

-- Its tokens stand in the order of use: those from before the line, and then those on touched objects and on new ids.
pub record IsAged (j : Work) (k : Clerk) : Type 0 where
  pub olds : Table Held
  pub news : Table Held
  pub whole : k.cache.held ≡ olds ++ news
  pub old : Each {A = ℕ × Held} (λ e. (e.1).number ≤ j.number) olds
  pub fresh : Each {A = ℕ × Held} (λ e. T (member e.0 j.touched || member e.0 k.ids)) news

-- What holds in a phase.

-- A is in its session, and no token of it is recalled. On all objects but these it has the same tokens as the server, but for those that it gives back.
pub record IsWorking (xs : List ℕ) (j : Work) (sc : Scene) (sl : Slot) (k : Clerk) : Type 0 where
  pub there : at j.clerk sc.clerks ≡ Some k
  pub inside : IsIn sc.server j.clerk sl k
  pub session : sl.session ≡ j.session
  pub recalls : k.recalls ≡ []
  pub limits : k.cache.limits ≡ []
  pub same : (x : ℕ) → T (not (member x xs)) → Same sc.server j.session k x ⊎ IsLeaving j sc k x
  pub given_back : Each {A = ℕ × Msg} (λ m. IsGivenBack j sc.server.durable.epoch k m.1) (backs j sc.mail)

-- it lacks a token, and asks for nothing else
pub record IsWanting (xs : List ℕ) (j : Work) (sc : Scene) (x : ℕ) (h : Hold) (n : ℕ) : Type 0 where
  pub slot : Slot
  pub clerk : Clerk
  pub working : IsWorking xs j sc slot clerk
  pub task : HasTask j.task clerk
  pub asking : clerk.asking ≡ None
  pub batches : clerk.log.batches ≡ []
  pub window : Lacks 0 slot clerk.log
  pub grants : slot.grants ≡ clerk.got
  pub aged : IsAged j clerk
  -- the object is touched, the last number on it was told, and this want is the only one that isn't answered
  pub touched : T (member x j.touched)
  pub number : last x clerk.cache ≡ n
  pub below : T (is_below (mode x clerk.cache) h)
  pub earlier : List Wanted
  pub wants : clerk.wanted ≡ wanted x h clerk ∷ earlier
  pub answered : Each (WantIsAnswered clerk.cache) earlier

-- it asked for ids, and has none; so its call makes an object, and saves nothing
pub record IsAsking (xs : List ℕ) (j : Work) (sc : Scene) (again : Bool) (ask : ℕ) : Type 0 where
  pub slot : Slot
  pub clerk : Clerk
  pub working : IsWorking xs j sc slot clerk
  pub task : HasTask j.task clerk
  pub asking : clerk.asking ≡ Some ask
  pub ids : clerk.ids ≡ []
  pub makes : is_saving j.task ≡ false
  pub batches : clerk.log.batches ≡ []
  pub window : Lacks 0 slot clerk.log
  pub answered : Each (WantIsAnswered clerk.cache) clerk.wanted
  pub aged : IsAged j clerk
  -- unless it may ask once more, it lacks nothing but ids
  pub lacks : (call : Call) → j.task ≡ Calls call → again ≡ false → (xs : List ℕ) × (verdict call clerk ≡ NeedIds xs)

-- its batch of this number is under way, and the server has all but the last so many
pub record IsSaving (n : ℕ) (j : Work) (sc : Scene) (b : ℕ) (rest : Bool) : Type 0 where
  pub slot : Slot
  pub clerk : Clerk
  pub working : IsWorking [] j sc slot clerk
  pub task : HasTask j.task clerk
  pub asking : clerk.asking ≡ None
  pub sending : IsSending clerk.log b
  pub window : Lacks n slot clerk.log
  pub grants : slot.grants ≡ clerk.got
  pub answered : Each (WantIsAnswered clerk.cache) clerk.wanted
  pub aged : IsAged j clerk
  -- where no further one follows, all that's asked for is durable then
  pub last : rest ≡ false → (a : Asked) × (asked j.task clerk ≡ Some a) × (is_last a b clerk.log ≡ true)

-- The holder C of the one token that conflicts answers a recall once its batch is durable; the server has all but the last so many.
pub record IsRecalled (n : ℕ) (sc : Scene) (x : ℕ) (h : Hold) (r : Holder) (b : ℕ) (rest : Bool) : Type 0 where
  pub slot : Slot
  pub clerk : Clerk
  pub there : at (clerk_of sc.server r.0) sc.clerks ≡ Some clerk
  pub inside : IsIn sc.server (clerk_of sc.server r.0) slot clerk
  pub session : slot.session ≡ r.0
  pub waiting : clerk.waiting ≡ []
  pub pushes : clerk.pushes ≡ []
  pub asking : clerk.asking ≡ None
  pub recalls : clerk.recalls ≡ record { obj = x; number = r.2; to = recall_to h } ∷ []
  pub limits : clerk.cache.limits ≡ (x, recall_to h) ∷ []
  pub sending : IsSending clerk.log b
  pub window : Lacks n slot clerk.log
  pub grants : slot.grants ≡ clerk.got
  pub answered : Each (WantIsAnswered clerk.cache) clerk.wanted
  pub same : SameBut [] sc.server r.0 clerk
  pub writes : r.1 ≡ Write
  pub last : rest ≡ false → is_last (Object x) b clerk.log ≡ true

-- what a holder has once it gave back: a reader's token of the same number, or none
abbrev pub lowered_to : Hold → ℕ → Option Token
lowered_to Free n = None
lowered_to Read n = Some (record { hold = Read; number = n })
lowered_to Write n = Some (record { hold = Write; number = n })

abbrev pub HasGivenBack : Scene → ℕ → Hold → Holder → Type 0
HasGivenBack sc x h r = (k : Clerk) × (at (clerk_of sc.server r.0) sc.clerks ≡ Some k) × (token_of (at x k.cache.held) ≡ lowered_to (recall_to h) r.2) × (r.2 ≤ last x k.cache)

-- A's want is noted, and just these holders conflict with it, all of which were told
pub record IsNoted (j : Work) (sc : Scene) (x : ℕ) (h : Hold) (cs : List Holder) : Type 0 where
  pub last : ℕ
  pub wanting : IsWanting [] j sc x h last
  pub recalls : sc.server.recalls ≡ record { session = j.session; obj = x; hold = h; told = map told_of cs } ∷ []
  pub conflicts : conflicts sc.server.tokens j.session x h ≡ cs
  pub some : cs ≢ []

abbrev pub Lacking : Work → Clerk → Type 0
Lacking j k = HasTask j.task k × (cl : Call) × (x : ℕ) × (h : Hold) × (j.task ≡ Calls cl) × (verdict cl k ≡ Need x h) × T (member x j.touched)

-- A has no session yet; its task may be done
pub record IsStarting (j : Work) (sc : Scene) (age : Age) : Type 0 where
  pub clerk : Clerk
  pub there : at j.clerk sc.clerks ≡ Some clerk
  pub new : IsNew clerk
  pub age_is : clerk.age ≡ age
  -- its task is done, or its call lacks a token
  pub task : IsDone clerk ⊎ Lacking j clerk
  pub tokenless : (x : ℕ) → token sc.server.tokens j.session x ≡ None
  pub none_back : backs j sc.mail ≡ []
  pub aged : sc.server.number ≡ j.number

-- nothing waits
pub record HasEnded (j : Work) (sc : Scene) : Type 0 where
  pub slot : Slot
  pub clerk : Clerk
  pub working : IsWorking [] j sc slot clerk
  pub done : IsDone clerk
  pub asking : clerk.asking ≡ None
  pub batches : clerk.log.batches ≡ []
  pub window : Lacks 0 slot clerk.log
  pub grants : slot.grants ≡ clerk.got
  pub answered : Each (WantIsAnswered clerk.cache) clerk.wanted

abbrev pub NoneNoted : Scene → Type 0
NoneNoted sc = sc.server.recalls ≡ []

abbrev pub ClaimFacts : Work → Scene → Option (ℕ × Hold) → Type 0
ClaimFacts j sc None = HasEnded j sc
ClaimFacts j sc (Some p) = IsWanting [] j sc p.0 p.1 0

abbrev pub Facts : Work → Scene → Phase → Type 0
Facts j sc (Greets age) = NoneNoted sc × IsStarting j sc age × (is_open (slot sc.server.durable j.clerk) ≡ false) × (is_greater (slot sc.server.durable j.clerk) age ≡ true) × (j.session ≡ sc.server.durable.next_session)
Facts j sc (Opens age) = NoneNoted sc × IsStarting j sc age
    × (sl : Slot) × (slot sc.server.durable j.clerk ≡ Some sl) × (sl.is_open ≡ true) × (sl.session ≡ j.session) × (sl.grants ≡ 0) × Lacks 0 sl log.empty × (has_claimed j.session sc.server ≡ true)
Facts j sc (Claims o) = NoneNoted sc × ClaimFacts j sc o
Facts j sc (Wants x h n) = NoneNoted sc × IsWanting [] j sc x h n
Facts j sc (Recalls x h rs bs) = IsNoted j sc x h (bs ++ rs) × Each (HasGivenBack sc x h) bs
Facts j sc (Flushes x h r b ops rest) = IsNoted j sc x h (r ∷ []) × (q : IsRecalled 1 sc x h r b rest) × (ops ≡ log.batch b q.clerk.log)
Facts j sc (Keeps x h r b rest) = IsNoted j sc x h (r ∷ []) × IsRecalled 0 sc x h r b rest
Facts j sc (Grants x h n) = NoneNoted sc × (token sc.server.tokens j.session x ≡ Some (record { hold = h; number = n })) × (l : ℕ) × IsWanting (x ∷ []) j sc x h l × (l < n) × (j.number < n)
Facts j sc (Asks again got ask) = NoneNoted sc × (q : IsAsking [] j sc again ask) × (got ≡ q.clerk.got) × (q.slot.grants ≡ got)
Facts j sc (Gives got n first) = NoneNoted sc × (ask : ℕ) × (again : Bool) × (q : IsAsking (run first ids_per_grant) j sc again ask) × (got ≡ q.clerk.got) × (q.slot.grants ≡ got + 1)
    × Each (λ x. (token sc.server.tokens j.session x ≡ Some (record { hold = Write; number = n })) × (last x q.clerk.cache < n)) (run first ids_per_grant)
Facts j sc (Refuses again ask live reserved) = NoneNoted sc × (q : IsAsking [] j sc again ask) × (q.slot.grants ≡ q.clerk.got)
Facts j sc (Saves b ops rest) = NoneNoted sc × (q : IsSaving 1 j sc b rest) × (ops ≡ log.batch b q.clerk.log)
Facts j sc (Saved b rest) = NoneNoted sc × IsSaving 0 j sc b rest
Facts j sc Ends = NoneNoted sc × HasEnded j sc

-- The other clerks are idle, but one that makes a batch durable first; and on the wanted object one that gives back has less than is recorded.

abbrev pub is_busy : Scene → Phase → ℕ → Bool
is_busy sc (Flushes x h r b ops rest) c = clerk_of sc.server r.0 == c
is_busy sc (Keeps x h r b rest) c = clerk_of sc.server r.0 == c
is_busy sc _ c = false

abbrev pub excepted : Scene → Phase → ℕ → List ℕ
excepted sc (Recalls x h rs bs) c = elim (list_any (λ r. clerk_of sc.server r.0 == c) bs) [ true ↦ x ∷ [] | false ↦ [] ]
excepted sc _ c = []

-- The line's work is in this phase.
pub record InPhase (j : Work) (sc : Scene) (p : Phase) : Type 0 where
  pub clerk : j.clerk < 16
  -- numbers of tokens only rise
  pub number : j.number ≤ sc.server.number
  pub main_is : main j sc.mail ≡ messages j sc p
  pub orderly : IsOrderly sc.server sc.clerks
  pub others : (c : ℕ) (k : Clerk) → (c == j.clerk) ≡ false → is_busy sc p c ≡ false → at c sc.clerks ≡ Some k → (sl : Slot) × IsIdleBut (excepted sc p c) sc.server c sl k
  pub facts : Facts j sc p
