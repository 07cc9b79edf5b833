-- Steps of the clerks that run, and those of the ones that don't.
use Rattle.std.proofs.Common.{◌≡◌, ◌+◌, ℕ, Bool, false, List, [], Option, Some, sym, ap, ◌∙◌}
use Rattle.ec_base.specs.Tables.{Table, at, put}
use Rattle.ec_plain.specs.declared.call.Call.{Call}
use Rattle.ec_wire.specs.declared.msg.Msg.{Msg}
use Rattle.ec_protocol.specs.OfPool.Pools.{Pooled, with_pool}
use Rattle.ec_protocol.specs.declared.clerk.Clerk.{Clerk}
use Rattle.ec_protocol.specs.declared.clerk.Out.{Out}
use Rattle.ec_protocol.specs.declared.world.Sent.{Sent}
use Rattle.ec_protocol.specs.declared.world.World.{World}
use Rattle.ec_protocol.specs.Clerk.{Doing}
use Rattle.ec_protocol.specs.Clerk as clerk
use Rattle.ec_protocol.specs.World as machine
use Rattle.ec_protocol.specs.World.{Fate, Moving, moving, come_out, clerk_does, is_for_server, settled, to_clerk, deliver, call}
use Rattle.ec_world.specs.Calls.{call_begun}
use Rattle.ec_clerk.specs.OfRunning.Running.{Steps, StaysAbsent, StartsRunning}
use Rattle.ec_world.specs.Sending.{IsFor}
use Rattle.ec_world.proofs.Calls.{does_is, call_runs, call_on_is, start_is, with_boot}
use Rattle.ec_world.proofs.Pooled.{deliver_clerk}

abbrev pub with_clerks : Table Clerk → World → World
with_clerks cs w = record w { clerks = cs }

-- a step of a clerk that runs
stepped : (f : Clerk → Doing) (c : ℕ) (outs : List Out) (cs : Table Clerk) (w : World) (s : Steps f c w.clerks cs outs) → clerk_does c (f s.before) (moving w) ≡ come_out c outs (moving (with_clerks cs w))
stepped f c outs cs w s =
    let on : Table Clerk → Moving = λ t. come_out c outs (moving (with_clerks t w)) in
    does_is c (f s.before) s.after outs w s.does ∙ ap on (sym s.put_is)

-- Calls.

pub called : (c line n : ℕ) (cl : Call) (outs : List Out) (cs : Table Clerk) (w : World) (s : Steps (clerk.begin cl) c w.clerks cs outs) → n ≡ s.before.calls + 1 → call c line cl w ≡ call_begun c n line cl [] outs (moving (with_clerks cs w))
called c line n cl outs cs w s number =
    let on : Table Clerk → Moving = λ t. call_begun c (s.before.calls + 1) line cl [] outs (moving (with_clerks t w)) in
    let by : ℕ → Moving = λ m. call_begun c m line cl [] outs (moving (with_clerks cs w)) in
    call_runs c line cl s.before w s.runs ∙ call_on_is c line cl [] outs s.before s.after w s.does ∙ ap on (sym s.put_is) ∙ ap by (sym number)

pub started : (c line b n : ℕ) (cl : Call) (before outs : List Out) (cs : Table Clerk) (w : World) → b ≡ machine.boot c w + 1 → StartsRunning cl c b w.clerks cs n before outs → machine.start_and_call c line cl w ≡ call_begun c n line cl before outs (moving (record w { clerks = cs; boots = put c b w.boots }))
started c line b n cl before outs cs w next s =
    let on : ℕ → Table Clerk → Moving = λ m t. call_begun c m line cl before outs (moving (record w { clerks = t; boots = put c b w.boots })) in
    start_is c line b cl before s.first w next s.starts
    ∙ call_on_is c line cl before outs s.first s.joins.after (with_boot c b w) s.joins.does
    ∙ ap (on (s.first.calls + 1)) (sym s.joins.put_is)
    ∙ ap (λ (m : ℕ). on m cs) (sym s.joins.number_is)

-- Messages.

pub is_for_clerk : (n : ℕ) (s : Sent) (b : Bool) (pool : Table Sent) → IsFor b n pool → at n pool ≡ Some s → is_for_server s ≡ b
is_for_clerk n s b pool f is = let same : s ≡ f.message = cc in ap is_for_server same ∙ f.is_for

pub delivered : (fate : Fate) (n : ℕ) (s : Sent) (msg : Msg) (outs : List Out) (cs : Table Clerk) (p : Pooled) (w : World) → IsFor false n w.pool → at n w.pool ≡ Some s → msg ≡ s.msg → Steps (clerk.take msg) s.clerk w.clerks cs outs → settled n w ≡ with_pool p w → deliver fate n w ≡ come_out s.clerk outs (moving (with_pool p (with_clerks cs w)))
delivered fate n s msg outs cs p w f is copy steps settles =
    let to : Msg → Option Clerk → World → Moving = λ x o u. to_clerk s.clerk x o u in
    let on : World → Moving = λ u. come_out s.clerk outs (moving (with_clerks cs u)) in
    deliver_clerk fate n s w is (is_for_clerk n s false w.pool f is)
    ∙ ap (λ (x : Msg). to x (at s.clerk w.clerks) (settled n w)) (sym copy)
    ∙ ap (λ (o : Option Clerk). to msg o (settled n w)) steps.runs
    ∙ stepped (clerk.take msg) s.clerk outs cs (settled n w) steps
    ∙ ap on settles

pub vanished : (fate : Fate) (n : ℕ) (s : Sent) (cs : Table Clerk) (p : Pooled) (w : World) → IsFor false n w.pool → at n w.pool ≡ Some s → StaysAbsent s.clerk w.clerks cs → settled n w ≡ with_pool p w → deliver fate n w ≡ moving (with_pool p (with_clerks cs w))
vanished fate n s cs p w f is stays settles =
    let on : Table Clerk → Moving = λ t. moving (with_pool p (with_clerks t w)) in
    deliver_clerk fate n s w is (is_for_clerk n s false w.pool f is)
    ∙ ap (λ (o : Option Clerk). to_clerk s.clerk s.msg o (settled n w)) stays.absent
    ∙ ap moving settles
    ∙ ap on (sym stays.same)
