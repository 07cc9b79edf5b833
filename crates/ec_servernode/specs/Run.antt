-- A server run: a list of steps from a server and its outboxes.
use Rattle.std.specs.Prelude.{◌≡◌, ◌==◌, ℕ, Bool, true, cond, nat_lt, List, [], ◌∷◌, ◌++◌, length, drop, Option, Some, None, Ok}
use Rattle.ec_wire.specs.declared.msg.Msg.{Msg}
use Rattle.ec_wire.specs.Codes.{said}
use Rattle.ec_wire.specs.Messages.{is_sound}
use Rattle.ec_durable.specs.declared.record.Record.{Record}
use Rattle.ec_protocol.specs.declared.server.Server.{Server}
use Rattle.ec_protocol.specs.declared.server.Served.{Served}
use Rattle.ec_protocol.specs.Server.{Serving}
use Rattle.ec_lock.specs.Steps.{of}
use Rattle.ec_servernode.specs.declared.step.Halt.{Halt}
use Rattle.ec_servernode.specs.declared.step.Halt.TheVariants as halt
use Rattle.ec_servernode.specs.declared.step.Deed.{Deed}
use Rattle.ec_servernode.specs.declared.step.Deed.TheVariants.{Took, Gave, Refused, Halted, Ended, HaltedEnd, Broke}
use Rattle.ec_servernode.specs.declared.step.Step.{Step}
use Rattle.ec_servernode.specs.declared.caller.Caller.{Caller}
use Rattle.ec_servernode.specs.Callers.{hello_in, accepted, refusal_in, posted, nobody, behind, refusal_sent, IsRefusal}
use Rattle.ec_servernode.specs.Folded.{message_taken, session_ended}
use Rattle.ec_link.specs.Happenings.{each}
use Rattle.ec_base.specs.Lists.{first_of}

abbrev pub number_of : Step → Option ℕ
number_of s = Some s.pass

-- Whose message it is.

-- a Hello tells its clerk, where it isn't refused
abbrev pub hello_of : Deed → Option ℕ
hello_of (Took c bytes m served) = accepted (refusal_in served.value.sent) (hello_in m.value)
hello_of _ = None

-- the other end of a link behind a deed of the link's pass
abbrev pub caller_after : Caller → Deed → Caller
caller_after k (Took c bytes m served) = behind (accepted (refusal_in served.value.sent) (hello_in m.value)) (refusal_in served.value.sent) k
caller_after k (Refused m) = refusal_sent k
caller_after k _ = k

abbrev pub caller_from : Caller → List Step → Caller
caller_from k [] = k
caller_from k (s ∷ ss) = caller_from (caller_after k s.deed) ss

-- the other end of the link that has this pass beside it, by what was taken and sent with its number
abbrev pub caller_by : ℕ → List Step → Caller
caller_by pass steps = caller_from nobody (of number_of pass steps)

-- its clerk: that of the last Hello that wasn't refused, and A before the first one
abbrev pub clerk_by : ℕ → List Step → ℕ
clerk_by pass steps = (caller_by pass steps).clerk

abbrev pub or_else : Option ℕ → ℕ → ℕ
or_else None c = c
or_else (Some d) c = d

-- the clerk of a message from a link of the clerk c
abbrev pub sender : Msg → ℕ → ℕ
sender m c = or_else (hello_in m) c

-- Outboxes.

-- whose the clerk's outbox is behind a step
abbrev pub owner_now : ℕ → Option ℕ → ℕ → Option ℕ → Option ℕ
owner_now c None pass o = o
owner_now c (Some d) pass o = cond (d == c) (Some pass) o

abbrev pub owner_after : ℕ → Option ℕ → Step → Option ℕ
owner_after c o s = owner_now c (hello_of s.deed) s.pass o

abbrev pub owner_from : ℕ → Option ℕ → List Step → Option ℕ
owner_from c o [] = o
owner_from c o (s ∷ ss) = owner_from c (owner_after c o s) ss

-- the pass of the clerk's last Hello that wasn't refused, to which its outbox belongs
abbrev pub owner : ℕ → List Step → Option ℕ
owner c steps = owner_from c None steps

-- before the first Hello an outbox belongs to any pass
abbrev pub is_for : ℕ → Option ℕ → Bool
is_for pass None = true
is_for pass (Some p) = p == pass

-- an outbox holds so many messages
abbrev pub most_messages : ℕ
most_messages = 4096

-- A message goes last. One that has no room is dropped.
abbrev pub put : List Msg → Msg → List Msg
put q m = cond (nat_lt (length q) most_messages) (q ++ m ∷ []) q

abbrev pub put_all : List Msg → List Msg → List Msg
put_all q [] = q
put_all q (m ∷ ms) = put_all (put q m) ms

-- the messages to this clerk
abbrev pub for_clerk : ℕ → List (ℕ × Msg) → List Msg
for_clerk c [] = []
for_clerk c (x ∷ xs) = cond (x.0 == c) (x.1 ∷ for_clerk c xs) (for_clerk c xs)

-- the clerk's outbox behind a step
abbrev pub box_after : ℕ → List Msg → Deed → List Msg
box_after c q (Took d bytes m served) = put_all q (for_clerk c (posted served.value.sent))
box_after c q (Gave d m) = cond (d == c) (drop 1 q) q
box_after c q (Ended d served) = put_all q (for_clerk c served.value.sent)
box_after c q _ = q

abbrev pub box_from : ℕ → List Msg → List Step → List Msg
box_from c q [] = q
box_from c q (s ∷ ss) = box_from c (box_after c q s.deed) ss

-- The server.

abbrev pub after : Server → Deed → Server
after s (Took c bytes m served) = (message_taken c m.value s).server
after s (Ended c served) = (session_ended c s).server
after s _ = s

-- the server to which the steps lead
abbrev pub leads : Server → List Step → Server
leads s [] = s
leads s (x ∷ xs) = leads (after s x.deed) xs

abbrev pub record_of : Option Record → List Record
record_of None = []
record_of (Some r) = r ∷ []

abbrev pub records_of : Deed → List Record
records_of (Took c bytes m served) = record_of served.value.rec
records_of (Ended c served) = record_of served.value.rec
records_of _ = []

-- the records that were committed
abbrev pub records : List Step → List Record
records = each (λ s. records_of s.deed)

abbrev pub halts_of : Deed → List Halt
halts_of (Halted c bytes m h) = h ∷ []
halts_of (HaltedEnd c h) = h ∷ []
halts_of _ = []

-- the fault of the disk or spent counter that stands in the list
abbrev pub halted : List Step → Option Halt
halted steps = first_of (each (λ s. halts_of s.deed) steps)

-- what came of the machine's step, which spends nothing
abbrev pub Came : Serving → Served → Type 0
Came done served = (done.sent ≡ served.sent) × (done.rec ≡ served.rec) × (done.spent ≡ None)

-- a spent counter is the machine's
abbrev pub Halts : Halt → Serving → Type 0
Halts halt.DiskFailed done = Unit {0}
Halts halt.DiskStopped done = Unit {0}
Halts (halt.Spent n) done = done.spent ≡ Some n

-- A message is what its body says, sound, and comes from the link's clerk. A refusal goes first to the link whose Hello it answers. Else what is sent stands first in the outbox of the
-- link's clerk, which belongs to this pass or to any.
abbrev pub IsDeed : Server → (ℕ → List Msg) → ℕ → List Step → Deed → Type 0
IsDeed s boxes pass before (Took c bytes m served) = (said bytes.value.items ≡ Ok m.value) × (c ≡ sender m.value (clerk_by pass before)) × Came (message_taken c m.value (leads s before)) served.value × (is_sound m.value ≡ true)
IsDeed s boxes pass before (Gave c m) = ((caller_by pass before).refusal ≡ None) × (c ≡ clerk_by pass before) × (is_for pass (owner c before) ≡ true) × (first_of (box_from c (boxes c) before) ≡ Some m.value)
IsDeed s boxes pass before (Refused m) = IsRefusal (caller_by pass before).refusal m.value
IsDeed s boxes pass before (Halted c bytes m h) = (said bytes.value.items ≡ Ok m.value) × (c ≡ sender m.value (clerk_by pass before)) × Halts h (message_taken c m.value (leads s before))
IsDeed s boxes pass before (Ended c served) = Came (session_ended c (leads s before)) served.value
IsDeed s boxes pass before (HaltedEnd c h) = Halts h (session_ended c (leads s before))
IsDeed s boxes pass before Broke = Unit {0}

-- the step comes behind these, among which is no halt
abbrev pub IsStep : Server → (ℕ → List Msg) → List Step → Step → Type 0
IsStep s boxes before x = (halted before ≡ None) × IsDeed s boxes x.pass before x.deed

abbrev pub IsRun : Server → (ℕ → List Msg) → List Step → Type 0
IsRun s boxes steps = (before : List Step) (x : Step) (rest : List Step) → before ++ x ∷ rest ≡ steps → IsStep s boxes before x
