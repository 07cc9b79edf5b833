-- What the machine sees of the code's clerk.
use Rattle.std.specs.Prelude.{◌≡◌, ◌<◌, ◌+◌, ℕ, Bool, true, false, nat_lt, nat_le, List, [], ◌∷◌, ◌++◌, length, take, drop, Option, None, Some, reverse}
use Rattle.ec_base.specs.declared.ids.Hold.{Hold}
use Rattle.ec_base.specs.declared.ids.Hold.TheVariants.{Free}
use Rattle.ec_wire.specs.declared.msg.Msg.{Msg}
use Rattle.ec_wire.specs.declared.msg.Msg.TheVariants.{Back, Bye}
use Rattle.ec_base.specs.declared.counter.Counter.{Counter}
use Rattle.ec_volume.specs.declared.image.Image.{Image}
use Rattle.ec_sessions.specs.Limits.{last_grants}
use Rattle.ec_cache.specs.Cache as cached
use Rattle.ec_log.specs.Log as logs
use Rattle.ec_volume.specs.declared.update.Update.{Update}
use Rattle.ec_plain.specs.declared.call.Call.{Call}
use Rattle.ec_plain.specs.declared.call.Reply.{Reply}
use Rattle.ec_plain.specs.declared.call.Outcome.{Outcome}
use Rattle.ec_log.specs.declared.state.Pick.{Pick}
use Rattle.ec_log.specs.declared.state.Pick.TheVariants as pick_of
use Rattle.ec_protocol.specs.declared.clerk.Clerk.{Clerk}
use Rattle.ec_protocol.specs.declared.clerk.Waiting.{Waiting}
use Rattle.ec_protocol.specs.declared.clerk.Out.{Out}
use Rattle.ec_protocol.specs.Clerk as machine
use Rattle.ec_doing.specs.declared.doing.Doing.{Doing}
use Rattle.ec_doing.specs.declared.doing.Tried.{Tried}
use Rattle.ec_doing.specs.declared.doing.Tried.TheVariants.{Waits, Answered}

-- the clerk, with these calls waiting
abbrev pub clerk_with : List Waiting → Doing → Clerk
clerk_with ws d =
    record {
      id = d.id;
      age = d.age;
      session = d.session;
      epoch = d.epoch;
      cache = d.cache;
      log = d.ledger.log;
      owed = d.ledger.owed;
      recalls = d.recalls.items;
      pushes = d.pushes.items;
      wanted = reverse d.wanted.items;
      ids = d.ids.items;
      got = d.got;
      asking = d.asking;
      asks = d.asks;
      waiting = ws;
      calls = d.calls;
    }

abbrev pub doing_of : List Waiting → Doing → machine.Doing
doing_of ws d = record { clerk = clerk_with ws d; outs = d.outs.items; spent = None }

-- the code did what the function does, whatever calls wait
abbrev pub Does : (machine.Doing → machine.Doing) → Doing → Doing → Type 0
Does f old new = (ws : List Waiting) → f (doing_of ws old) ≡ doing_of ws new

-- the code's answer to a try
abbrev pub tried : Tried → machine.Doing → machine.Tried
tried Waits d = machine.Waits d
tried Answered d = machine.Answered d

abbrev pub Tries : (machine.Doing → machine.Tried) → Tried → Doing → Doing → Type 0
Tries f answer old new = (ws : List Waiting) → f (doing_of ws old) ≡ tried answer (doing_of ws new)

-- the update can be issued, and nothing was done yet
abbrev pub HasRoom : Update → Doing → Doing → Type 0
HasRoom u old new = (new ≡ old) × (machine.suits u new.cache ≡ true) × (logs.is_full new.ledger.log ≡ false)

-- the code did what a call does whose update waits
abbrev pub LacksRoom : Update → Doing → Doing → Type 0
LacksRoom u old new = (ws : List Waiting) (w : Waiting) (o : Outcome) → machine.issue_if_room w o u (doing_of ws old) ≡ machine.Waits (doing_of ws new)

-- a batch that is under way goes out
abbrev pub send_if_batch : Pick → machine.Doing → machine.Doing
send_if_batch (pick_of.Batch b ns) d = machine.send_batch b d
send_if_batch _ d = d

abbrev pub waiting_of : ℕ → Call → ℕ → Waiting
waiting_of n c b = record { no = n; call = c; begun = b }

abbrev pub outcome_of : Reply → Option Update → List ℕ → Outcome
outcome_of r u xs = record { reply = r; update = u; touched = xs }

-- a token goes back, of which this mode is left
abbrev pub send_back : ℕ → ℕ → Hold → machine.Doing → machine.Doing
send_back x n to d = machine.send (Back (machine.session d) (machine.epoch d) x n to) d

-- these tokens go back, each by its number
abbrev pub send_numbers : List (ℕ × ℕ) → machine.Doing → machine.Doing
send_numbers [] d = d
send_numbers (e ∷ es) d = send_numbers es (send_back e.0 e.1 Free d)

-- the first of the calls that is answered has the place, and is answered; or all were tried
abbrev pub IsFirstAnswered : List Waiting → Option ℕ → Doing → Doing → Type 0
IsFirstAnswered calls None old new = (ws before : List Waiting) → machine.try_each before calls (doing_of ws old) ≡ machine.Waits (doing_of ws new)
IsFirstAnswered calls (Some n) old new =
    (n < length calls)
    × ((ws before : List Waiting) → machine.try_each before calls (doing_of ws old) ≡ machine.Answered (doing_of (before ++ take n calls ++ drop (n + 1) calls) new))

-- a token is taken; one whose number isn't new is passed over
abbrev pub take_grant : ℕ → ℕ → Hold → Image → machine.Doing → machine.Doing
take_grant x n h i d = machine.with_cache (cached.take x h n i) d

-- the count of grants may rise
abbrev pub is_room_left : Doing → Bool
is_room_left d = nat_lt d.got last_grants

-- the step was taken, and these came out
abbrev pub EndsWith : machine.Doing → Clerk → List Out → Type 0
EndsWith d k outs = d ≡ record { clerk = k; outs = outs; spent = None }

-- in a session recalls are answered, and pushes asked for
abbrev pub serve : machine.Doing → machine.Doing
serve d = elim (machine.has_session d.clerk) [ true ↦ machine.ask_pushes (machine.answer_recalls d) | false ↦ d ]

-- an operation of this session is kept; of an earlier one nothing is left to do
abbrev pub keep_if_own : ℕ → machine.Doing → machine.Doing
keep_if_own n d = elim (nat_le d.clerk.log.first n) [ true ↦ machine.keep_push n d | false ↦ d ]

-- in a session what is held and what is outstanding is sent
abbrev pub claim_all : machine.Doing → machine.Doing
claim_all d = elim (machine.has_session d.clerk) [ true ↦ machine.send_outstanding (machine.claim d) | false ↦ machine.hello d ]

abbrev pub part : machine.Doing → machine.Doing
part d = elim (machine.has_session d.clerk) [ true ↦ machine.send (Bye (machine.session d) (machine.epoch d)) d | false ↦ d ]

-- a batch of the session is durable
abbrev pub take_kept : ℕ → ℕ → machine.Doing → machine.Doing
take_kept s b d = elim (machine.is_session s d.clerk.session) [ true ↦ machine.with_log (logs.kept b) d | false ↦ d ]

-- a step begins
abbrev pub BeginsStep : Doing → Doing → Type 0
BeginsStep old new = (ws : List Waiting) → doing_of ws new ≡ machine.doing (clerk_with ws old)

-- these came out of it, and the rest stays
abbrev pub Yields : List Out → Doing → Doing → Type 0
Yields outs old new = (ws : List Waiting) → EndsWith (doing_of ws old) (clerk_with ws new) outs

-- the counter that the message would pass
abbrev pub Spends : Msg → Counter → Doing → Type 0
Spends m c d = (ws : List Waiting) → (machine.taken m (machine.doing (clerk_with ws d))).spent ≡ Some c

-- an epoch above its own one is entered
abbrev pub enter_if_later : ℕ → machine.Doing → machine.Doing
enter_if_later e d = elim (nat_lt (machine.epoch d) e) [ true ↦ machine.with_clerk (machine.enter_epoch e) d | false ↦ d ]
