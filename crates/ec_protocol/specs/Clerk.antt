-- The clerk: what a call, a message, a push, a flush, a resend and a bye make of it.
use Rattle.std.specs.Prelude.{◌==◌, ◌+◌, ◌-◌, ℕ, zero, suc, Bool, true, false, not, ◌&&◌, ◌||◌, nat_lt}
use Rattle.std.specs.Prelude.{nat_le, List, [], ◌∷◌, ◌++◌, map, drop, length, Option, None, Some, is_none, is_some}
use Rattle.std.specs.List.{list_any, list_all}
use Rattle.ec_base.specs.Tables.{at, keys, or_else}
use Rattle.ec_base.specs.declared.counter.Counter.{Counter}
use Rattle.ec_base.specs.declared.counter.Counter.TheVariants as counter
use Rattle.ec_base.specs.declared.ids.Age.{Age}
use Rattle.ec_base.specs.declared.ids.Hold.{Hold}
use Rattle.ec_base.specs.declared.ids.Hold.TheVariants.{Free, Write}
use Rattle.ec_base.specs.Limits.{last_counter}
use Rattle.ec_volume.specs.Update.{operands, fits, is_sound, is_make}
use Rattle.ec_volume.specs.declared.image.Image.TheVariants as image
use Rattle.ec_volume.specs.declared.update.Update.{Update}
use Rattle.ec_plain.specs.declared.call.Call.{Call}
use Rattle.ec_plain.specs.declared.call.Call.TheVariants as call
use Rattle.ec_plain.specs.declared.call.Reply.{Reply}
use Rattle.ec_plain.specs.declared.call.Reply.TheVariants as reply
use Rattle.ec_plain.specs.declared.call.Outcome.{Outcome}
use Rattle.ec_order.specs.Order.{Issued}
use Rattle.ec_history.specs.declared.entry.Answer.{Answer}
use Rattle.ec_history.specs.declared.entry.Answer.TheVariants as answer
use Rattle.ec_sessions.specs.Limits.{ids_per_grant, last_grants, last_round}
use Rattle.ec_sessions.specs.Slots.{run}
use Rattle.ec_sessions.specs.declared.window.Window.{Window}
use Rattle.ec_base.specs.Holds.{rank, is_write, is_below, weaker}
use Rattle.ec_wire.specs.declared.msg.Msg.{Msg}
use Rattle.ec_wire.specs.declared.msg.Msg.TheVariants.{Hello, Want, Back, Flush, Room, Claim, Bye, Opened}
use Rattle.ec_wire.specs.declared.msg.Msg.TheVariants.{Grant, Recall, Kept, Ids, NoRoom, Ended, Restarted, OldBoot}
use Rattle.ec_cache.specs.Cache as cache
use Rattle.ec_cache.specs.declared.state.CacheState.{CacheState}
use Rattle.ec_cache.specs.declared.state.Held.{Held}
use Rattle.ec_log.specs.Log as log
use Rattle.ec_log.specs.declared.state.Asked.{Asked}
use Rattle.ec_log.specs.declared.state.Asked.TheVariants.{Object, Op, All}
use Rattle.ec_log.specs.declared.state.Pick.{Pick}
use Rattle.ec_log.specs.declared.state.Pick.TheVariants as pick_of
use Rattle.ec_log.specs.declared.state.LogState.{LogState}
use Rattle.ec_cache.specs.OfReport.Report.{owe, clear}
use Rattle.ec_cache.specs.OfResolve.Resolve.{evaluate}
use Rattle.ec_cache.specs.declared.resolve.verdict.Verdict.{Verdict}
use Rattle.ec_cache.specs.declared.resolve.verdict.Verdict.TheVariants.{Need, Lost, NeedIds, Done}
use Rattle.ec_protocol.specs.declared.clerk.Clerk.{Clerk}
use Rattle.ec_protocol.specs.declared.clerk.Waiting.{Waiting}
use Rattle.ec_protocol.specs.declared.clerk.Recalled.{Recalled}
use Rattle.ec_protocol.specs.declared.clerk.Wanted.{Wanted}
use Rattle.ec_protocol.specs.declared.clerk.Out.{Out}
use Rattle.ec_protocol.specs.declared.clerk.Out.TheVariants as out
use Rattle.ec_protocol.specs.Server.{first_spent}

-- A step under way: the clerk, what came out so far, and the first counter that would pass its limit. Where there is one, the step is refused
-- with it, and changes nothing.
pub record Doing : Type 0 where
  pub clerk : Clerk
  pub outs : List Out
  pub spent : Option Counter

abbrev pub doing : Clerk → Doing
doing k = record { clerk = k; outs = []; spent = None }

abbrev pub emit : Out → Doing → Doing
emit o d = record d { outs = d.outs ++ o ∷ [] }

abbrev pub send : Msg → Doing → Doing
send m d = emit (out.Send m) d

abbrev pub spend : Counter → Doing → Doing
spend n d = record d { spent = first_spent d.spent n }

abbrev pub with_clerk : (Clerk → Clerk) → Doing → Doing
with_clerk f d = record d { clerk = f d.clerk }

abbrev pub with_cache : (CacheState → CacheState) → Doing → Doing
with_cache f d = with_clerk (λ k. record k { cache = f k.cache }) d

abbrev pub with_log : (LogState → LogState) → Doing → Doing
with_log f d = with_clerk (λ k. record k { log = f k.log }) d

-- Sessions.

abbrev pub has_session : Clerk → Bool
has_session k = is_some k.session

abbrev pub is_session : ℕ → Option ℕ → Bool
is_session s None = false
is_session s (Some t) = s == t

-- the number of its session
abbrev pub session : Doing → ℕ
session d = or_else 0 d.clerk.session

abbrev pub epoch : Doing → ℕ
epoch d = d.clerk.epoch

abbrev pub hello : Doing → Doing
hello d = send (Hello d.clerk.id d.clerk.age) d

-- Asking for closures: an asked closure is picked once.

abbrev pub is_settled : Asked → Clerk → Bool
is_settled a k = is_none (log.first a k.log)

abbrev pub send_batch : ℕ → Doing → Doing
send_batch b d = send (Flush (session d) (epoch d) b (log.batch b d.clerk.log)) d

abbrev pub send_picked : Pick → Doing → Doing
send_picked (pick_of.Batch b ns) d =
    elim (log.batches_are_spent d.clerk.log) [
      | true ↦ spend counter.Batch d
      | false ↦ send_batch b (with_log (log.after_pick (pick_of.Batch b ns)) d)
    ]
send_picked _ d = d

abbrev pub ask_for : Asked → Doing → Doing
ask_for a d = send_picked (log.pick a d.clerk.log) d

-- Recalls: one is answered where no undurable operation has the object.

abbrev pub under_recall : ℕ → Clerk → Bool
under_recall x k = list_any (λ r. r.obj == x) k.recalls

-- the mode that is left: Free where the number isn't the held one
abbrev pub left_of : Recalled → Option Held → Hold
left_of r None = Free
left_of r (Some h) = elim (h.number == r.number) [ true ↦ weaker r.to h.hold | false ↦ Free ]

abbrev pub lower_held : ℕ → Hold → Option Held → CacheState → CacheState
lower_held x to None k = k
lower_held x to (Some h) k = cache.lower x to k

abbrev pub give_back : Recalled → Doing → Doing
give_back r d =
    let h = at r.obj d.clerk.cache.held in
    let to = left_of r h in
    let e = with_cache (λ k. cache.passed r.obj r.number (lower_held r.obj to h k)) d in
    send (Back (session e) (epoch e) r.obj r.number to) e

abbrev pub is_ready : Recalled → Clerk → Bool
is_ready r k = not (is_write (cache.mode r.obj k.cache)) || is_settled (Object r.obj) k

abbrev pub keep_recall : Recalled → Doing → Doing
keep_recall r d = with_clerk (λ k. record k { recalls = k.recalls ++ r ∷ [] }) d

abbrev pub try_recalls : List Recalled → Doing → Doing
try_recalls [] d = d
try_recalls (r ∷ rs) d = try_recalls rs (elim (is_ready r d.clerk) [ true ↦ give_back r d | false ↦ keep_recall r (ask_for (Object r.obj) d) ])

abbrev pub answer_recalls : Doing → Doing
answer_recalls d = try_recalls d.clerk.recalls (with_clerk (λ k. record k { recalls = [] }) d)

-- Pushes: a pushed closure is asked for until it's durable.

abbrev pub keep_push : ℕ → Doing → Doing
keep_push n d = with_clerk (λ k. record k { pushes = k.pushes ++ n ∷ [] }) d

abbrev pub try_pushes : List ℕ → Doing → Doing
try_pushes [] d = d
try_pushes (n ∷ ns) d = try_pushes ns (elim (is_settled (Op n) d.clerk) [ true ↦ d | false ↦ ask_for (Op n) (keep_push n d) ])

abbrev pub ask_pushes : Doing → Doing
ask_pushes d = try_pushes d.clerk.pushes (with_clerk (λ k. record k { pushes = [] }) d)

-- Wants: one goes out only where the whole mode is below it, and not for an object under recall.

abbrev pub same_hold : Hold → Hold → Bool
same_hold g h = rank g == rank h

abbrev pub is_wanted : Wanted → Wanted → Bool
is_wanted v w = (v.obj == w.obj) && same_hold v.hold w.hold && (v.last == w.last)

abbrev pub may_want : ℕ → Hold → Clerk → Bool
may_want x h k = has_session k && not (under_recall x k) && is_below (cache.mode x k.cache) h

abbrev pub wanted : ℕ → Hold → Clerk → Wanted
wanted x h k = record { obj = x; hold = h; last = cache.last x k.cache }

abbrev pub send_want : ℕ → Hold → Doing → Doing
send_want x h d =
    let w = wanted x h d.clerk in
    send (Want (session d) (epoch d) x h w.last) (with_clerk (λ k. record k { wanted = w ∷ k.wanted }) d)

-- once for each object, mode, last number and epoch
abbrev pub want : ℕ → Hold → Doing → Doing
want x h d = elim (may_want x h d.clerk && not (list_any (is_wanted (wanted x h d.clerk)) d.clerk.wanted)) [ true ↦ send_want x h d | false ↦ d ]

-- Rooms: ids are asked for once, until the answer.

abbrev pub send_room : ℕ → Doing → Doing
send_room n d = send (Room (session d) (epoch d) d.clerk.got n) d

abbrev pub ask_anew : Doing → Doing
ask_anew d =
    elim (nat_le last_counter d.clerk.asks) [
      | true ↦ spend counter.Ask d
      | false ↦ send_room (d.clerk.asks + 1) (with_clerk (λ k. record k { asking = Some (k.asks + 1); asks = k.asks + 1 }) d)
    ]

abbrev pub ask_room : Doing → Doing
ask_room d = elim (has_session d.clerk && is_none d.clerk.asking) [ true ↦ ask_anew d | false ↦ d ]

-- One waiting call is tried.

pub data Tried : Type 0 where
  Waits : Doing → Tried
  Answered : Doing → Tried

abbrev pub first_id : List ℕ → Option ℕ
first_id [] = None
first_id (x ∷ xs) = Some x

abbrev pub verdict : Call → Clerk → Verdict
verdict c k = evaluate k.cache k.owed c (first_id k.ids)

-- its answer comes out, and the touched objects are used
abbrev pub answer_with : Waiting → Answer → Option ℕ → List ℕ → Doing → Tried
answer_with w a op xs d = Answered (emit (out.Answer w.no a op) (with_cache (cache.all_used xs) d))

abbrev pub last_number : List ℕ → Option ℕ
last_number [] = None
last_number (x ∷ []) = Some x
last_number (x ∷ y ∷ xs) = last_number (y ∷ xs)

abbrev pub is_ok : Reply → Bool
is_ok reply.Ok = true
is_ok _ = false

abbrev pub on_object : Option ℕ → Option Asked
on_object None = None
on_object (Some x) = Some (Object x)

-- what an fsync waits for, on the object that its path reached, and a sync
abbrev pub awaited : Call → Outcome → Option Asked
awaited (call.Fsync p) o = elim (is_ok o.reply) [ true ↦ on_object (last_number o.touched) | false ↦ None ]
awaited call.Sync o = Some All
awaited _ o = None

-- an operation issued before the call began isn't durable
abbrev pub is_owing : ℕ → Option ℕ → Bool
is_owing begun None = false
is_owing begun (Some n) = nat_le n begun

abbrev pub await : Waiting → Outcome → Option Asked → Doing → Tried
await w o None d = answer_with w (answer.Reply o.reply) None o.touched d
await w o (Some a) d =
    elim (is_owing w.begun (log.first a d.clerk.log)) [
      | true ↦ Waits (ask_for a d)
      | false ↦ answer_with w (answer.Reply o.reply) None o.touched d
    ]

-- the update is sound and fits the images held
abbrev pub suits : Update → CacheState → Bool
suits u k = is_sound u && list_all (λ x. fits u x (cache.images_held k x)) (operands u)

abbrev pub less_id : Update → List ℕ → List ℕ
less_id u ids = elim (is_make u) [ true ↦ drop 1 ids | false ↦ ids ]

abbrev pub with_update : Update → Clerk → Clerk
with_update u k = record k { log = log.issue u k.log; cache = cache.change u (operands u) k.cache; ids = less_id u k.ids }

abbrev pub issue : Waiting → Outcome → Update → Doing → Tried
issue w o u d =
    elim (log.ops_are_spent d.clerk.log) [
      | true ↦ Waits (spend counter.Op d)
      | false ↦ answer_with w (answer.Reply o.reply) (Some d.clerk.log.next) o.touched (with_clerk (with_update u) d)
    ]

-- where too many operations are undurable, all are asked for
abbrev pub issue_if_room : Waiting → Outcome → Update → Doing → Tried
issue_if_room w o u d =
    elim (suits u d.clerk.cache) [
      | false ↦ Waits d
      | true ↦ elim (log.is_full d.clerk.log) [ true ↦ Waits (ask_for All d) | false ↦ issue w o u d ]
    ]

abbrev pub settle_outcome : Waiting → Outcome → Option Update → Doing → Tried
settle_outcome w o None d = await w o (awaited w.call o) d
settle_outcome w o (Some u) d = issue_if_room w o u d

-- the one thing that the call lacks is asked for
abbrev pub try_verdict : Waiting → Verdict → Doing → Tried
try_verdict w (Need x h) d = Waits (want x h d)
try_verdict w (NeedIds xs) d = Waits (ask_room d)
try_verdict w (Lost ns xs) d = answer_with w (answer.Lost ns) None xs (with_clerk (λ k. record k { owed = clear xs k.owed }) d)
try_verdict w (Done o) d = settle_outcome w o o.update d

abbrev pub try : Waiting → Doing → Tried
try w d = try_verdict w (verdict w.call d.clerk) d

-- The waiting calls are tried in order; after an answer again from the first.

-- the first of these calls that is answered leaves; those before it were tried
abbrev pub try_each : List Waiting → List Waiting → Doing → Tried
try_each before [] d = Waits d
try_each before (w ∷ ws) d =
    elim (try w d) [
      | Waits e ↦ try_each (before ++ w ∷ []) ws e
      | Answered e ↦ Answered (with_clerk (λ k. record k { waiting = before ++ ws }) e)
    ]

abbrev pub try_rounds : ℕ → Doing → Doing
try_rounds zero d = d
try_rounds (suc n) d = elim (try_each [] d.clerk.waiting d) [ Waits e ↦ e | Answered e ↦ try_rounds n e ]

-- each round but the last one answers a call
abbrev pub try_all : Doing → Doing
try_all d = try_rounds (suc (length d.clerk.waiting)) d

-- Tokens beyond the capacity go back, but those on objects with undurable operations.

abbrev pub on_objects : Issued → List ℕ
on_objects [] = []
on_objects (op ∷ ops) = operands op.1 ++ on_objects ops

abbrev pub send_backs : List (ℕ × Held) → Doing → Doing
send_backs [] d = d
send_backs (e ∷ es) d = send_backs es (send (Back (session d) (epoch d) e.0 (e.1).number Free) d)

abbrev pub evict_unpinned : List ℕ → Doing → Doing
evict_unpinned pinned d = send_backs (cache.evicted pinned d.clerk.cache) (with_cache (cache.evict pinned) d)

abbrev pub evict : Doing → Doing
evict d = elim (nat_le (length d.clerk.cache.held) d.clerk.cache.capacity) [ true ↦ d | false ↦ evict_unpinned (on_objects d.clerk.log.undurable) d ]

-- The end of each step.

abbrev pub settle : Doing → Doing
settle d = evict (try_all (elim (has_session d.clerk) [ true ↦ ask_pushes (answer_recalls d) | false ↦ d ]))

-- What is outstanding: the wants that waiting calls need, the room and the batches under way.

abbrev pub is_need : ℕ → Hold → ℕ × Hold → Bool
is_need x h p = (p.0 == x) && same_hold p.1 h

-- each object and mode once
abbrev pub resend_want : ℕ → Hold → List (ℕ × Hold) → Doing → Doing
resend_want x h sent d = elim (may_want x h d.clerk && not (list_any (is_need x h) sent)) [ true ↦ send_want x h d | false ↦ d ]

abbrev pub need_of : Verdict → List (ℕ × Hold)
need_of (Need x h) = (x, h) ∷ []
need_of _ = []

abbrev pub resend_needs : List (ℕ × Hold) → List (ℕ × Hold) → Doing → Doing
resend_needs sent [] d = d
resend_needs sent (p ∷ ps) d = resend_needs (p ∷ sent) ps (resend_want p.0 p.1 sent d)

abbrev pub needs : List Waiting → Clerk → List (ℕ × Hold)
needs [] k = []
needs (w ∷ ws) k = need_of (verdict w.call k) ++ needs ws k

abbrev pub resend_room : Option ℕ → Doing → Doing
resend_room None d = d
resend_room (Some n) d = send_room n d

abbrev pub resend_batches : List ℕ → Doing → Doing
resend_batches [] d = d
resend_batches (b ∷ bs) d = resend_batches bs (send_batch b d)

abbrev pub send_outstanding : Doing → Doing
send_outstanding d =
    let e = resend_needs [] (needs d.clerk.waiting d.clerk) d in
    resend_batches (keys e.clerk.log.batches) (resend_room e.clerk.asking e)

abbrev pub claim : Doing → Doing
claim d = send (Claim (session d) (epoch d) (cache.tokens d.clerk.cache)) d

-- Messages.

abbrev pub same_age : Age → Age → Bool
same_age a b = (a.boot == b.boot) && (a.round == b.round)

abbrev pub in_session : ℕ → ℕ → (Doing → Doing) → Doing → Doing
in_session s e f d = elim (is_session s d.clerk.session && (e == epoch d)) [ true ↦ f d | false ↦ d ]

-- without a session it greets again
abbrev pub or_hello : ℕ → (Doing → Doing) → Doing → Doing
or_hello s f d = elim (has_session d.clerk) [ false ↦ hello d | true ↦ elim (is_session s d.clerk.session) [ true ↦ f d | false ↦ d ] ]

-- the first Opened of its own age; it claims nothing
abbrev pub take_opened : Age → ℕ → ℕ → Doing → Doing
take_opened age s e d =
    elim (not (has_session d.clerk) && same_age age d.clerk.age) [
      | true ↦ send (Claim s e []) (with_clerk (λ k. record k { session = Some s; epoch = e }) d)
      | false ↦ d
    ]

abbrev pub mark_recall : ℕ → Hold → CacheState → CacheState
mark_recall x to k = elim (at x k.held) [ None ↦ k | Some h ↦ cache.limit x to k ]

abbrev pub take_recall : ℕ → ℕ → Hold → Doing → Doing
take_recall x n to d =
    elim (nat_lt n (cache.last x d.clerk.cache)) [
      | true ↦ d
      | false ↦ keep_recall (record { obj = x; number = n; to = to }) (with_cache (mark_recall x to) d)
    ]

-- Write tokens on new ids
abbrev pub take_each : ℕ → List ℕ → CacheState → CacheState
take_each n [] k = k
take_each n (x ∷ xs) k = take_each n xs (cache.take x Write n image.Gone k)

abbrev pub add_ids : ℕ → ℕ → Clerk → Clerk
add_ids n first k = record k { got = k.got + 1; asking = None; ids = k.ids ++ run first ids_per_grant; cache = take_each n (run first ids_per_grant) k.cache }

abbrev pub take_ids : ℕ → ℕ → ℕ → Doing → Doing
take_ids got n first d =
    elim (got == d.clerk.got) [
      | false ↦ d
      | true ↦ elim (nat_le last_grants got) [ true ↦ spend counter.Id d | false ↦ with_clerk (add_ids n first) d ]
    ]

-- what a call touched that lacks an id
abbrev pub idless : Verdict → Option (List ℕ)
idless (NeedIds xs) = Some xs
idless _ = None

-- it's answered with the two numbers, and the objects that it touched are used
abbrev pub refuse_make : ℕ → ℕ → ℕ → List ℕ → Doing → Doing
refuse_make live reserved n xs d = emit (out.Answer n (answer.NoRoom live reserved) None) (with_cache (cache.all_used xs) d)

abbrev pub keep_call : Waiting → Doing → Doing
keep_call w d = with_clerk (λ k. record k { waiting = k.waiting ++ w ∷ [] }) d

-- each such call is answered, and the others go on waiting
abbrev pub refuse_makes : ℕ → ℕ → List Waiting → Doing → Doing
refuse_makes live reserved [] d = d
refuse_makes live reserved (w ∷ ws) d =
    refuse_makes live reserved ws (elim (idless (verdict w.call d.clerk)) [
      | Some xs ↦ refuse_make live reserved w.no xs d
      | None ↦ keep_call w d
    ])

abbrev pub take_no_room : ℕ → ℕ → ℕ → Doing → Doing
take_no_room ask live reserved d =
    elim (is_session ask d.clerk.asking) [
      | true ↦ refuse_makes live reserved d.clerk.waiting (with_clerk (λ k. record k { asking = None; waiting = [] }) d)
      | false ↦ d
    ]

-- in a new epoch recalls and numbers are forgotten
abbrev pub enter_epoch : ℕ → Clerk → Clerk
enter_epoch e k = record k { epoch = e; cache = cache.new_epoch k.cache; recalls = []; wanted = [] }

abbrev pub take_restarted : ℕ → Doing → Doing
take_restarted e d =
    elim (nat_lt e (epoch d)) [
      | true ↦ d
      | false ↦ send_outstanding (claim (elim (nat_lt (epoch d) e) [ true ↦ with_clerk (enter_epoch e) d | false ↦ d ]))
    ]

abbrev pub with_operands : Issued → List (ℕ × List ℕ)
with_operands ops = map (λ op. (op.0, operands op.1)) ops

abbrev pub no_session : Clerk → Clerk
no_session k =
    record k {
      session = None;
      epoch = 0;
      cache = cache.empty k.cache.capacity;
      recalls = [];
      pushes = [];
      wanted = [];
      ids = [];
      got = 0;
      asking = None;
    }

-- the session is over: these operations are lost and owed, and the round rises
abbrev pub lose : Issued → Clerk → Clerk
lose ops k =
    record (no_session k) { log = log.end k.log; owed = owe (with_operands ops) k.owed; age = record (k.age) { round = k.age.round + 1 } }

abbrev pub take_ended : Window → Doing → Doing
take_ended w d =
    let ops = log.lost w d.clerk.log in
    elim (nat_le last_round d.clerk.age.round) [
      | true ↦ spend counter.Round d
      | false ↦ hello (emit (out.Told (keys ops)) (with_clerk (lose ops) d))
    ]

abbrev pub take_old_boot : Age → Age → Doing → Doing
take_old_boot asked greatest d = elim (same_age asked d.clerk.age) [ true ↦ emit (out.OldBoot greatest) d | false ↦ d ]

-- what a message does; all else is passed over
abbrev pub taken : Msg → Doing → Doing
taken (Opened age s e) d = take_opened age s e d
taken (Grant s e x n h i) d = in_session s e (with_cache (cache.take x h n i)) d
taken (Recall s e x n to) d = in_session s e (take_recall x n to) d
taken (Kept s e b) d = elim (is_session s d.clerk.session) [ true ↦ with_log (log.kept b) d | false ↦ d ]
taken (Ids s e got n first) d = in_session s e (take_ids got n first) d
taken (NoRoom s e ask live reserved) d = take_no_room ask live reserved d
taken (Ended s low mask) d = or_hello s (take_ended (record { low = low; mask = mask })) d
taken (Restarted s e) d = or_hello s (take_restarted e) d
taken (OldBoot asked greatest) d = take_old_boot asked greatest d
taken _ d = d

-- The steps of a clerk.

-- so many tokens a clerk keeps
abbrev pub max_tokens : ℕ
max_tokens = 4096

abbrev pub new_clerk : ℕ → ℕ → Clerk
new_clerk c boot =
    record {
      id = c;
      age = record { boot = boot; round = 0 };
      session = None;
      epoch = 0;
      cache = cache.empty max_tokens;
      log = log.empty;
      owed = [];
      recalls = [];
      pushes = [];
      wanted = [];
      ids = [];
      got = 0;
      asking = None;
      asks = 0;
      waiting = [];
      calls = 0;
    }

abbrev pub start : ℕ → ℕ → Doing
start c boot =
    let d = doing (new_clerk c boot) in
    elim (nat_lt last_counter boot) [ true ↦ spend counter.Boot d | false ↦ hello d ]

abbrev pub add_call : Call → Clerk → Clerk
add_call c k =
    record k { calls = k.calls + 1; waiting = k.waiting ++ record { no = k.calls + 1; call = c; begun = k.log.next - 1 } ∷ [] }

abbrev pub begin : Call → Clerk → Doing
begin c k =
    elim (nat_le last_counter k.calls) [ true ↦ spend counter.CallNo (doing k) | false ↦ settle (doing (add_call c k)) ]

abbrev pub take : Msg → Clerk → Doing
take m k = settle (taken m (doing k))

-- this start issued the operation
abbrev pub has_issued : ℕ → Clerk → Bool
has_issued n k = nat_le 1 n && nat_lt n k.log.next

-- an operation of this session; of an earlier one nothing is left to do
abbrev pub push : ℕ → Clerk → Doing
push n k = settle (elim (nat_le k.log.first n) [ true ↦ keep_push n (doing k) | false ↦ doing k ])

abbrev pub resend : Clerk → Doing
resend k = elim (has_session k) [ true ↦ send_outstanding (claim (doing k)) | false ↦ hello (doing k) ]

abbrev pub bye : Clerk → Doing
bye k = elim (has_session k) [ true ↦ send (Bye (session (doing k)) k.epoch) (doing k) | false ↦ doing k ]

-- one pick, which isn't asked again
abbrev pub flush : Asked → Clerk → Doing
flush a k = ask_for a (doing k)

abbrev pub floor : Clerk → ℕ
floor k = log.floor k.log
