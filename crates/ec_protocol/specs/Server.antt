-- The server: what a message, an administrator's end and a start make of it.
use Rattle.std.specs.Prelude.{◌==◌, ◌+◌, ℕ, zero, suc, Bool, true, false, not, ◌&&◌, ◌||◌, nat_lt, nat_le}
use Rattle.std.specs.Prelude.{List, [], ◌∷◌, ◌++◌, length, filter, Option, None, Some, is_none, is_some, Ok, Err}
use Rattle.std.specs.List.{list_any, list_all}
use Rattle.ec_base.specs.Tables.{at, at_or, put, without}
use Rattle.ec_base.specs.declared.counter.Counter.{Counter}
use Rattle.ec_base.specs.declared.counter.Counter.TheVariants as counter
use Rattle.ec_base.specs.declared.ids.Age.{Age}
use Rattle.ec_base.specs.declared.ids.Hold.{Hold}
use Rattle.ec_base.specs.declared.ids.Hold.TheVariants.{Write}
use Rattle.ec_base.specs.Limits.{last_counter}
use Rattle.ec_volume.specs.Update.{member, operands}
use Rattle.ec_volume.specs.Volume.{images}
use Rattle.ec_volume.specs.declared.update.Update.{Update}
use Rattle.ec_sessions.specs.Limits.{ids_per_grant, last_first_id, last_grants}
use Rattle.ec_sessions.specs.Slots.{Slots, greeting, run}
use Rattle.ec_sessions.specs.Windows.{has}
use Rattle.ec_sessions.specs.declared.slot.Slot.{Slot}
use Rattle.ec_sessions.specs.declared.slot.Greeting.{Greeting}
use Rattle.ec_sessions.specs.declared.slot.Greeting.TheVariants as greeted
use Rattle.ec_base.specs.Holds.{is_write}
use Rattle.ec_sessions.specs.OfTokens.Tokens.{Tokens, token, mode, granted, fits_back, lowered, is_clear, first_clash, claimed as with_claim}
use Rattle.ec_sessions.specs.OfRecall.Wants.{noted}
use Rattle.ec_sessions.specs.OfRecall.Due.{actions, wants_after}
use Rattle.ec_sessions.specs.declared.recall.want.Action.{Action}
use Rattle.ec_sessions.specs.declared.recall.want.Action.TheVariants as action
use Rattle.ec_wire.specs.declared.msg.Msg.{Msg}
use Rattle.ec_wire.specs.declared.msg.Msg.TheVariants.{Hello, Want, Back, Flush, Room, Claim, Bye, Opened}
use Rattle.ec_wire.specs.declared.msg.Msg.TheVariants.{Grant, Recall, Kept, Ids, NoRoom, Ended, Restarted, OldBoot}
use Rattle.ec_durable.specs.Durable.{step, slot, live, reserved, is_full}
use Rattle.ec_durable.specs.declared.state.Durable.{Durable}
use Rattle.ec_durable.specs.declared.record.Record.{Record}
use Rattle.ec_durable.specs.declared.record.Record.TheVariants as record_of
use Rattle.ec_protocol.specs.declared.server.Server.{Server}

-- A step under way: the server, the messages sent so far with their clerks, the record that was committed, if any, and the first counter that
-- would pass its limit. Where there is one, the step is refused with it, and changes nothing.
pub record Serving : Type 0 where
  pub server : Server
  pub sent : List (ℕ × Msg)
  pub rec : Option Record
  pub spent : Option Counter

abbrev pub serving : Server → Serving
serving s = record { server = s; sent = []; rec = None; spent = None }

abbrev pub tell : ℕ → Msg → Serving → Serving
tell c m t = record t { sent = t.sent ++ (c, m) ∷ [] }

abbrev pub with_server : (Server → Server) → Serving → Serving
with_server f t = record t { server = f t.server }

abbrev pub first_spent : Option Counter → Counter → Option Counter
first_spent None n = Some n
first_spent (Some m) n = Some m

abbrev pub spend : Counter → Serving → Serving
spend n t = record t { spent = first_spent t.spent n }

-- the record is committed, and f goes on; where the record is refused, g does
abbrev pub commit : Record → (Serving → Serving) → (Serving → Serving) → Serving → Serving
commit r f g t =
    elim (step r t.server.durable) [
      | Ok d ↦ f (record t { server = record (t.server) { durable = d }; rec = Some r })
      | Err fault ↦ g t
    ]

abbrev pub stay : Serving → Serving
stay t = t

abbrev pub epoch : Serving → ℕ
epoch t = t.server.durable.epoch

abbrev pub slot_of : ℕ → Serving → Option Slot
slot_of c t = slot t.server.durable c

abbrev pub has_claimed : ℕ → Server → Bool
has_claimed ss s = member ss s.claimed

-- Token numbers.

abbrev pub is_last_number : Serving → Bool
is_last_number t = nat_le last_counter t.server.number

abbrev pub next_number : Serving → Serving
next_number t =
    elim (is_last_number t) [ true ↦ spend counter.Number t | false ↦ with_server (λ s. record s { number = s.number + 1 }) t ]

-- Ends of sessions.

-- an ended session loses its tokens and its wants
abbrev pub forget : ℕ → Server → Server
forget ss s =
    record s {
      tokens = without ss s.tokens;
      recalls = filter (λ w. not (w.session == ss)) s.recalls;
      claimed = filter (λ t. not (t == ss)) s.claimed;
      recorded = without ss s.recorded;
    }

abbrev pub tell_ended : ℕ → Slot → Serving → Serving
tell_ended c sl t = tell c (Ended sl.session sl.window.low sl.window.mask) t

-- the clerk's open session ends
abbrev pub finish : ℕ → Slot → Serving → Serving
finish c sl t = commit (record_of.End c sl.session) (λ u. tell_ended c sl (with_server (forget sl.session) u)) stay t

-- Hello.

abbrev pub forget_old : Option ℕ → Server → Server
forget_old None s = s
forget_old (Some ss) s = forget ss s

abbrev pub add_claimed : ℕ → Server → Server
add_claimed ss s = record s { claimed = ss ∷ s.claimed }

-- the session is open: it has claimed, and the old one has ended, if there is one
abbrev pub tell_opened : ℕ → Age → ℕ → Option ℕ → Serving → Serving
tell_opened c age ss old t = tell c (Opened age ss (epoch t)) (with_server (λ s. add_claimed ss (forget_old old s)) t)

-- a new session
abbrev pub open_new : ℕ → Age → Option ℕ → Serving → Serving
open_new c age old t =
    let ss = t.server.durable.next_session in
    elim (nat_le last_counter ss) [
      | true ↦ spend counter.Session t
      | false ↦ commit (record_of.Open c age ss) (tell_opened c age ss old) stay t
    ]

abbrev pub greet : ℕ → Age → Greeting → Serving → Serving
greet c age (greeted.Greater old) t = open_new c age old t
greet c age (greeted.Same ss) t = tell c (Opened age ss (epoch t)) t
greet c age (greeted.Ended ss w) t = tell c (Ended ss w.low w.mask) (tell c (Opened age ss (epoch t)) t)
greet c age (greeted.OldBoot greatest) t = tell c (OldBoot age greatest) t

abbrev pub hello : ℕ → ℕ → Age → Serving → Serving
hello c from age t = elim (c == from) [ true ↦ greet c age (greeting (slot_of c t) age) t | false ↦ t ]

-- Wants and tokens given back.

-- a grant, with the object's image now
abbrev pub send_grant : ℕ → ℕ → ℕ → Hold → ℕ → Serving → Serving
send_grant c ss x h n t = tell c (Grant ss (epoch t) x n h (images t.server.durable.volume x)) t

abbrev pub note : ℕ → ℕ → Hold → Serving → Serving
note ss x h t = with_server (λ s. record s { recalls = noted ss x h s.recalls }) t

-- a token above the clerk's last one is sent again; else the want is noted
abbrev pub want : ℕ → ℕ → ℕ → Hold → ℕ → Serving → Serving
want c ss x h last t =
    elim (token t.server.tokens ss x) [
      | None ↦ note ss x h t
      | Some k ↦ elim (nat_lt last k.number) [ true ↦ send_grant c ss x k.hold k.number t | false ↦ note ss x h t ]
    ]

abbrev pub back : ℕ → ℕ → ℕ → Hold → Serving → Serving
back ss x n h t =
    elim (fits_back (token t.server.tokens ss x) n h) [
      | true ↦ with_server (λ s. record s { tokens = lowered ss x h n s.tokens }) t
      | false ↦ t
    ]

-- Batches.

-- the session has a Write token on each operand
abbrev pub may_write : Tokens → ℕ → List (ℕ × Update) → Bool
may_write ts ss ops = list_all (λ op. list_all (λ x. is_write (mode (token ts ss x))) (operands op.1)) ops

-- a batch that the window has is answered; another one is committed, and ends the session where it can't be
abbrev pub flush : ℕ → ℕ → ℕ → List (ℕ × Update) → Slot → Serving → Serving
flush c ss b ops sl t =
    elim (has sl.window b) [
      | true ↦ tell c (Kept ss (epoch t) b) t
      | false ↦ elim (may_write t.server.tokens ss ops) [
        | true ↦ commit (record_of.Batch c ss b ops) (λ u. tell c (Kept ss (epoch u) b) u) (finish c sl) t
        | false ↦ finish c sl t
      ]
    ]

-- Ids.

-- Write tokens of the number n on the ids, but where one conflicts
abbrev pub with_ids : ℕ → ℕ → List ℕ → Tokens → Tokens
with_ids ss n [] ts = ts
with_ids ss n (x ∷ xs) ts = with_ids ss n xs (elim (is_clear ts ss x Write) [ true ↦ granted ss x Write n ts | false ↦ ts ])

-- the tokens of sixteen ids are recorded, with one new number
abbrev pub record_ids : ℕ → ℕ → Serving → Serving
record_ids ss first t =
    with_server (λ s. record s { tokens = with_ids ss s.number (run first ids_per_grant) s.tokens; recorded = put ss s.number s.recorded }) (next_number t)

abbrev pub send_ids : ℕ → ℕ → ℕ → ℕ → Serving → Serving
send_ids c ss got first t = tell c (Ids ss (epoch t) got (at_or 0 ss t.server.recorded) first) t

-- the next ids, or their numbers of grants, would pass a limit
abbrev pub ids_are_spent : ℕ → Serving → Bool
ids_are_spent got t = nat_lt last_first_id t.server.durable.next_id || nat_le last_grants got

abbrev pub grant_ids : ℕ → ℕ → ℕ → ℕ → Serving → Serving
grant_ids c ss got ask t =
    let first = t.server.durable.next_id in
    elim (is_full t.server.durable) [
      | true ↦ tell c (NoRoom ss (epoch t) ask (live t.server.durable) (reserved t.server.durable)) t
      | false ↦ elim (ids_are_spent got t) [
        | true ↦ spend counter.Id t
        | false ↦ commit (record_of.Ids c ss got first) (λ u. send_ids c ss got first (record_ids ss first u)) stay t
      ]
    ]

-- the last ids go out again; their tokens are recorded at the first such sending in an epoch
abbrev pub resend_ids : ℕ → ℕ → ℕ → Option ℕ → Serving → Serving
resend_ids c ss got None t = t
resend_ids c ss got (Some first) t =
    send_ids c ss got first (elim (is_some (at ss t.server.recorded)) [ true ↦ t | false ↦ record_ids ss first t ])

abbrev pub room : ℕ → ℕ → ℕ → ℕ → Slot → Serving → Serving
room c ss got ask sl t =
    elim (got == sl.grants) [
      | true ↦ grant_ids c ss got ask t
      | false ↦ elim (got + 1 == sl.grants) [ true ↦ resend_ids c ss got sl.last_first t | false ↦ t ]
    ]

-- Claims.

-- the first claim in this epoch is recorded, and ends the session where it clashes
abbrev pub claim : ℕ → ℕ → List (ℕ × Hold) → Slot → Serving → Serving
claim c ss list sl t =
    elim (has_claimed ss t.server) [
      | true ↦ t
      | false ↦ elim (is_none (first_clash t.server.tokens ss list)) [
        | true ↦ with_server (λ s. record s { tokens = with_claim ss list s.tokens; claimed = ss ∷ s.claimed }) t
        | false ↦ finish c sl t
      ]
    ]

-- Messages.

-- A message whose session isn't the clerk's last one is passed over. One of an ended session is answered with its end, and one of another epoch,
-- or of a session that is still to claim, with this epoch. Claims and byes need no claim.
abbrev pub in_session : ℕ → ℕ → ℕ → Bool → (Slot → Serving → Serving) → Serving → Serving
in_session c ss e needs_no_claim f t =
    elim (slot_of c t) [
      | None ↦ t
      | Some sl ↦ elim (sl.session == ss) [
        | false ↦ t
        | true ↦ elim sl.is_open [
          | false ↦ tell_ended c sl t
          | true ↦ elim ((e == epoch t) && (needs_no_claim || has_claimed ss t.server)) [
            | false ↦ tell c (Restarted ss (epoch t)) t
            | true ↦ f sl t
          ]
        ]
      ]
    ]

-- what a message of the clerk c does; a kind that isn't for the server is passed over
abbrev pub taken : ℕ → Msg → Serving → Serving
taken c (Hello from age) t = hello c from age t
taken c (Want ss e x h last) t = in_session c ss e false (λ sl. want c ss x h last) t
taken c (Back ss e x n h) t = in_session c ss e false (λ sl. back ss x n h) t
taken c (Flush ss e b ops) t = in_session c ss e false (flush c ss b ops) t
taken c (Room ss e got ask) t = in_session c ss e false (room c ss got ask) t
taken c (Claim ss e list) t = in_session c ss e true (claim c ss list) t
taken c (Bye ss e) t = in_session c ss e true (finish c) t
taken c _ t = t

-- Wants are served after each step, where every open session has claimed.

-- the clerk whose last session this is
abbrev pub clerk_from : ℕ → ℕ → Slots → ℕ
clerk_from c ss [] = c
clerk_from c ss (None ∷ slots) = clerk_from (c + 1) ss slots
clerk_from c ss (Some sl ∷ slots) = elim (sl.session == ss) [ true ↦ c | false ↦ clerk_from (c + 1) ss slots ]

abbrev pub clerk_of : ℕ → Serving → ℕ
clerk_of ss t = clerk_from 0 ss t.server.durable.sessions

-- a token of the next number is recorded and sent
abbrev pub grant : ℕ → ℕ → Hold → Serving → Serving
grant ss x h t =
    let u = next_number t in
    let n = u.server.number in
    send_grant (clerk_of ss u) ss x h n (with_server (λ s. record s { tokens = granted ss x h n s.tokens }) u)

abbrev pub act : Action → Serving → Serving
act (action.Grant ss x h) t = grant ss x h t
act (action.Recall ss x n h) t = tell (clerk_of ss t) (Recall ss (epoch t) x n h) t

abbrev pub act_all : List Action → Serving → Serving
act_all [] t = t
act_all (a ∷ more) t = act_all more (act a t)

abbrev pub is_grant : Action → Bool
is_grant (action.Grant ss x h) = true
is_grant (action.Recall ss x n h) = false

-- what is due is done, again and again until it grants nothing, at most so many times
abbrev pub serve_rounds : ℕ → Serving → Serving
serve_rounds zero t = t
serve_rounds (suc k) t =
    let due = actions t.server.tokens t.server.recalls in
    let u = act_all due (with_server (λ s. record s { recalls = wants_after s.tokens s.recalls }) t) in
    elim (list_any is_grant due) [ true ↦ serve_rounds k u | false ↦ u ]

abbrev pub is_claimed : Server → Option Slot → Bool
is_claimed s None = true
is_claimed s (Some sl) = not sl.is_open || has_claimed sl.session s

abbrev pub all_claimed : Server → Bool
all_claimed s = list_all (is_claimed s) s.durable.sessions

-- each round but the last one serves a want
abbrev pub serve : Serving → Serving
serve t = elim (all_claimed t.server) [ true ↦ serve_rounds (suc (length t.server.recalls)) t | false ↦ t ]

-- The steps of a server.

abbrev pub take : ℕ → Msg → Server → Serving
take c m s = serve (taken c m (serving s))

abbrev pub end_open : ℕ → Option Slot → Serving → Serving
end_open c None t = t
end_open c (Some sl) t = elim sl.is_open [ true ↦ finish c sl t | false ↦ t ]

-- the administrator's end
abbrev pub end : ℕ → Server → Serving
end c s = serve (end_open c (slot s.durable c) (serving s))

abbrev pub new_server : Durable → Server
new_server d = record { durable = d; tokens = []; recalls = []; claimed = []; number = 0; recorded = [] }

-- what a clerk is told at a start
abbrev pub tell_start : ℕ → Serving → Option Slot → Serving
tell_start c t None = tell c (Restarted 0 (epoch t)) t
tell_start c t (Some sl) = elim sl.is_open [ true ↦ tell c (Restarted sl.session (epoch t)) t | false ↦ tell_ended c sl t ]

abbrev pub tell_all : ℕ → Slots → Serving → Serving
tell_all c [] t = t
tell_all c (sl ∷ slots) t = tell_all (c + 1) slots (tell_start c t sl)

-- a start: the epoch rises, and each clerk is told, in their order
abbrev pub start : Durable → Serving
start d =
    let t = serving (new_server d) in
    elim (nat_le last_counter d.epoch) [
      | true ↦ spend counter.Epoch t
      | false ↦ commit (record_of.Epoch (d.epoch + 1)) (λ u. tell_all 0 u.server.durable.sessions u) stay t
    ]
