-- Sessions of a world, and calls that begin behind their line.
use Rattle.std.proofs.Common.{◌≡◌, ◌+◌, ℕ, true, false, List, Option, None, Some, Result, Ok, Err, Vec, refl, sym, ap, subst, ◌∙◌}
use Rattle.std.specs.Prelude.{IfOk, IfErr, OnOk}
use Rattle.ec_base.specs.Tables.{Table, at}
use Rattle.ec_plain.specs.declared.call.Call.{Call}
use Rattle.ec_history.specs.declared.shown.Shown.{Shown}
use Rattle.ec_protocol.specs.Clerk as clerk
use Rattle.ec_protocol.specs.Clerk.{Doing}
use Rattle.ec_protocol.specs.World.{Moving, add_call, clerk_does, come_out, fails, moving}
use Rattle.ec_protocol.specs.declared.clerk.Clerk.{Clerk}
use Rattle.ec_protocol.specs.declared.clerk.Out.{Out}
use Rattle.ec_protocol.specs.declared.world.World.{World as State}
use Rattle.ec_protocol.specs.declared.world.WorldFault.{WorldFault}
use Rattle.ec_protocol.specs.declared.world.WorldFault.TheVariants as fault
use Rattle.ec_protocol.specs.Resumes.{resume, resume_on, session}
use Rattle.ec_clerk.specs.OfRunning.Faults.{of_step}
use Rattle.ec_clerk.specs.OfRunning.Running.{Steps, session_in}
use Rattle.ec_clerk.specs.declared.running.fault.StepFault.{StepFault}
use Rattle.ec_clerk.specs.declared.running.fault.StepFault.TheVariants as step
use Rattle.ec_world.specs.Leases.{BeginsNot, QueuesNot}
use Rattle.ec_world.specs.StepEnds.{under}
use Rattle.ec_world.specs.Worlds.{view_of}
use Rattle.ec_world.specs.declared.world.World.{World}
use Rattle.ec_world.proofs.ClerkSteps.{with_clerks}
use Rattle.ec_world.proofs.Stepped.{Answers, Faults}

pub session_is : (c : ℕ) (w : State) → session_in (at c w.clerks) ≡ session c w
session_is c w = go (at c w.clerks)
  where
    go : (o : Option Clerk) → session_in o ≡ elim o [ None ↦ None | Some k ↦ k.session ]
    go None = refl
    go (Some k) = refl

-- a queued call of a running clerk begins
pub resumed : (c line n : ℕ) (cl : Call) (outs : List Out) (cs : Table Clerk) (w : State) (s : Steps (clerk.begin cl) c w.clerks cs outs) → n ≡ s.before.calls + 1 → resume c line cl w ≡ come_out c outs (moving (add_call c n line cl (with_clerks cs w)))
resumed c line n cl outs cs w s number =
    let on : Doing → Moving = λ d. elim d.spent [ Some x ↦ fails (fault.Spent x) w | None ↦ clerk_does c d (moving (add_call c (s.before.calls + 1) line cl w)) ] in
    let by : ℕ → Table Clerk → Moving = λ m t. come_out c outs (moving (add_call c m line cl (with_clerks t w))) in
    ap (λ (o : Option Clerk). resume_on c line cl o w) s.runs ∙ ap on s.does ∙ ap (by (s.before.calls + 1)) (sym s.put_is) ∙ ap (λ (m : ℕ). by m cs) (sym number)

-- what a world answers once it has begun or not

pub queued_ok : {A G : Type 0} (done : Result A StepFault) (answer : Result (Vec Shown G) WorldFault) (m : Moving) (w end : World) → OnOk done (m ≡ under w) → Answers done answer w.piece.items → view_of end ≡ view_of w → IfOk answer (λ lines. m ≡ record { world = view_of end; shown = lines.items; fault = None })
queued_ok (Ok x) (Ok s) m w end begun is same =
    let at_end : State → Moving = λ v. record { world = v; shown = w.piece.items; fault = None } in
    let with_lines : List Shown → Moving = λ ls. record { world = view_of end; shown = ls; fault = None } in
    begun ∙ ap at_end (sym same) ∙ ap with_lines (sym is.1)
queued_ok (Ok x) (Err f) m w end begun is same = tt
queued_ok (Err f) (Ok s) m w end begun is same = let wrong : false ≡ true = is.0 in cc
queued_ok (Err f) (Err g) m w end begun is same = tt

queues_not : (why : StepFault) (m : Moving) (old now end : State) → end ≡ now → BeginsNot why m old now → QueuesNot (of_step why) m old end
queues_not (step.Spent n) m old now end same h = (h.0, same ∙ h.1)
queues_not step.NoMemory m old now end same h = tt
queues_not step.DiskFailed m old now end same h = absurd h
queues_not step.NoSuchOp m old now end same h = absurd h
queues_not step.NoSuchMsg m old now end same h = absurd h

pub queued_err : {A G : Type 0} (done : Result A StepFault) (answer : Result (Vec Shown G) WorldFault) (m : Moving) (old : State) (w end : World) → IfErr done (λ why. BeginsNot why m old (view_of w)) → Faults done answer → view_of end ≡ view_of w → IfErr answer (λ fault. QueuesNot fault m old (view_of end))
queued_err (Ok x) (Ok s) m old w end h is same = tt
queued_err (Ok x) (Err f) m old w end h is same = absurd is
queued_err (Err f) (Ok s) m old w end h is same = tt
queued_err (Err why) (Err f) m old w end h is same = subst (λ g. QueuesNot g m old (view_of end)) (sym is) (queues_not why m old (view_of w) (view_of end) same h)
