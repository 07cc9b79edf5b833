-- Clocks stay in all steps of the machine but a tick.
use Rattle.std.proofs.Common.{◌≡◌, ◌+◌, ◌&&◌, ℕ, Bool, true, false, not, List, [], ◌∷◌, ◌++◌, Option, None, Some, Result, Ok, Err, refl, subst, ◌∙◌, arith}
use Rattle.std.specs.Prelude.{OnOk}
use Rattle.ec_base.specs.Tables.{Table, at_or, put}
use Rattle.ec_plain.specs.declared.call.Call.{Call}
use Rattle.ec_volume.specs.Update.{member}
use Rattle.ec_sessions.specs.Slots.{Slots}
use Rattle.ec_protocol.specs.Clerk.{is_session}
use Rattle.ec_protocol.specs.Resumes.{open_in, open_session, resume, session, wait}
use Rattle.ec_protocol.specs.World.{Moving}
use Rattle.ec_protocol.specs.World as world
use Rattle.ec_protocol.specs.declared.server.Server.{Server}
use Rattle.ec_protocol.specs.declared.world.WorldFault.{WorldFault}
use Rattle.ec_lease_machine.specs.Leases.{LeaseMoving, begin_each, begin_queued, grant, hand, is_held, lease, may_receive, moved, note_open, note_slot, note_slots, nothing, queue, receive, renew_each, renew_in}
use Rattle.ec_lease_machine.specs.declared.world.Lease.{Lease}
use Rattle.ec_lease_machine.specs.declared.world.LeaseFault.{LeaseFault}
use Rattle.ec_lease_machine.specs.declared.world.LeaseWorld.{LeaseWorld as State}
use Rattle.ec_lease.specs.Worlds.{under_way, leased, ClocksGoOn}
use Rattle.ec_lease.specs.declared.world.LeaseWorld.{LeaseWorld}
use Rattle.ec_lease.proofs.Parts.{begin_by, begin_more, begun, hand_by, moved_by, note_by, queued_by, renew_by}

pub stays : (x y : State) → y.now ≡ x.now → y.most ≡ x.most → ClocksGoOn 0 x y
stays x y now most = record { now = omega (arith, now); most = most }

pub still : (x y z : State) → ClocksGoOn 0 x y → ClocksGoOn 0 y z → ClocksGoOn 0 x z
still x y z one two = record { now = omega (arith, one.now, two.now); most = two.most ∙ one.most }

abbrev Queues : Type 0
Queues = Table (List (ℕ × Call))

-- where the step so far is so
pub clock_of : {A : Type 0} (r : Result A LeaseFault) (by : ℕ) (x : State) (m : LeaseMoving) (y : LeaseWorld) → OnOk r (m ≡ under_way y) → ClocksGoOn by x m.world → OnOk r (ClocksGoOn by x (leased y))
clock_of (Ok a) by x m y is h = subst (λ (n : LeaseMoving). ClocksGoOn by x n.world) is h
clock_of (Err f) by x m y is h = tt

-- where it's another state that is so
pub still_clock : {A : Type 0} (r : Result A LeaseFault) (x s : State) (y : LeaseWorld) → OnOk r (s ≡ leased y) → ClocksGoOn 0 x s → OnOk r (ClocksGoOn 0 x (leased y))
still_clock (Ok a) x s y is h = subst (λ (z : State). ClocksGoOn 0 x z) is h
still_clock (Err f) x s y is h = tt

moved_clock : (r : Moving) (x : State) (o : Option WorldFault) → ClocksGoOn 0 x (moved_by r x o).world
moved_clock r x None = stays x (moved_by r x None).world refl refl
moved_clock r x (Some f) = stays x x refl refl

pub moved_stays : (r : Moving) (x : State) → ClocksGoOn 0 x (moved r x).world
moved_stays r x = moved_clock r x r.fault

pub queue_stays : (c line : ℕ) (cl : Call) (x : State) → ClocksGoOn 0 x (queue c line cl x).world
queue_stays c line cl x =
    let one : Queues = put c (at_or [] c x.queued ++ (line, cl) ∷ []) x.queued in
    let h = moved_stays (wait c line cl x.world) (record x { queued = one }) in
    record { now = h.now; most = h.most }

pub nothing_stays : (x : State) → ClocksGoOn 0 x (nothing x).world
nothing_stays x = moved_stays (world.nothing x.world) x

-- Queued calls.

more_clock : (c : ℕ) (qs : List (ℕ × Call)) (n : LeaseMoving) (o : Option LeaseFault) → ClocksGoOn 0 n.world (begin_each c qs n).world → ClocksGoOn 0 n.world (begin_more c qs n o).world
more_clock c qs n None h = h
more_clock c qs n (Some f) h = stays n.world n.world refl refl

each_clock : (c : ℕ) (q : ℕ × Call) (qs : List (ℕ × Call)) (m : LeaseMoving) (held : Bool) → ClocksGoOn 0 m.world (begin_more c qs (begun c q m) (begun c q m).fault).world → ClocksGoOn 0 m.world (begin_by c q qs m held).world
each_clock c q qs m true h = stays m.world (begin_by c q qs m true).world refl refl
each_clock c q qs m false h = h

pub each_stays : (c : ℕ) (qs : List (ℕ × Call)) (m : LeaseMoving) → ClocksGoOn 0 m.world (begin_each c qs m).world
each_stays c [] m = stays m.world (begin_each c [] m).world refl refl
each_stays c (q ∷ qs) m =
    let n = begun c q m in
    let more = more_clock c qs n n.fault (each_stays c qs n) in
    each_clock c q qs m (is_held c m.world) (still m.world n.world (begin_more c qs n n.fault).world (moved_stays (resume c q.0 q.1 m.world.world) m.world) more)

queued_clock : (c : ℕ) (cs : List ℕ) (m : LeaseMoving) (o : Option LeaseFault) → ClocksGoOn 0 m.world (begin_queued cs (begin_each c (at_or [] c m.world.queued) m)).world → ClocksGoOn 0 m.world (queued_by c cs m o).world
queued_clock c cs m None h = h
queued_clock c cs m (Some f) h = stays m.world m.world refl refl

pub queued_stays : (cs : List ℕ) (m : LeaseMoving) → ClocksGoOn 0 m.world (begin_queued cs m).world
queued_stays [] m = stays m.world m.world refl refl
queued_stays (c ∷ cs) m =
    let n = begin_each c (at_or [] c m.world.queued) m in
    queued_clock c cs m m.fault (still m.world n.world (begin_queued cs n).world (each_stays c (at_or [] c m.world.queued) m) (queued_stays cs n))

-- Leases.

renew_clock : (c s : ℕ) (x : State) (may : Bool) → ClocksGoOn 0 x (renew_by c s x may)
renew_clock c s x true = stays x (renew_by c s x true) refl refl
renew_clock c s x false = stays x x refl refl

renew_in_stays : (c : ℕ) (o : Option ℕ) (x : State) → ClocksGoOn 0 x (renew_in c o x)
renew_in_stays c None x = stays x x refl refl
renew_in_stays c (Some s) x = renew_clock c s x ((not (member c x.world.cut) && is_session s (open_session c x.world)) && may_receive c (lease s x) x)

pub renew_stays : (cs : List ℕ) (x : State) → ClocksGoOn 0 x (renew_each cs x)
renew_stays [] x = stays x x refl refl
renew_stays (c ∷ cs) x =
    let y = renew_in c (session c x.world) x in
    still x y (renew_each cs y) (renew_in_stays c (session c x.world) x) (renew_stays cs y)

note_clock : (c : ℕ) (x : State) (o : Option ℕ) → ClocksGoOn 0 x (note_by c x o)
note_clock c x None = stays x x refl refl
note_clock c x (Some s) = stays x (note_by c x (Some s)) refl refl

slots_stay : (c : ℕ) (slots : Slots) (x : State) → ClocksGoOn 0 x (note_slots c slots x)
slots_stay c [] x = stays x x refl refl
slots_stay c (sl ∷ slots) x =
    let y = note_slot c sl x in
    still x y (note_slots (c + 1) slots y) (note_clock c x (open_in sl)) (slots_stay (c + 1) slots y)

pub open_stays : (v : Option Server) (x : State) → ClocksGoOn 0 x (note_open v x)
open_stays None x = stays x x refl refl
open_stays (Some v) x = slots_stay 0 v.durable.sessions x

pub grant_stays : (c : ℕ) (o : Option ℕ) (x : State) → ClocksGoOn 0 x (grant c o x).world
grant_stays c None x = nothing_stays x
grant_stays c (Some s) x = stays x (grant c (Some s) x).world refl refl

hand_clock : (c : ℕ) (a : Lease) (x : State) (may : Bool) → ClocksGoOn 0 x (hand_by c a x may).world
hand_clock c a x true = stays x (receive c a x) refl refl
hand_clock c a x false = nothing_stays x

pub hand_stays : (c : ℕ) (o : Option Lease) (x : State) → ClocksGoOn 0 x (hand c o x).world
hand_stays c None x = stays x x refl refl
hand_stays c (Some a) x = hand_clock c a x (may_receive c a x)
