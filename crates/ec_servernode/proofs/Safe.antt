-- A server run from a safe server.
use Rattle.std.proofs.Common.{◌≡◌, refl, sym, ap, subst, ◌∙◌, ℕ, T, Bool, true, List, [], ◌∷◌, ◌++◌, Option, Some, None, append_assoc, append-nil}
use Rattle.std.specs.Prelude.{Result, Ok, Err}
use Rattle.ec_wire.specs.declared.msg.Msg.{Msg}
use Rattle.ec_durable.specs.Durable.{steps}
use Rattle.ec_durable.specs.declared.record.Record.{Record}
use Rattle.ec_durable.specs.declared.record.RecordFault.{RecordFault}
use Rattle.ec_durable.specs.declared.state.Durable.{Durable}
use Rattle.ec_protocol.specs.Server.{Serving, take, end}
use Rattle.ec_protocol.specs.declared.server.Server.{Server}
use Rattle.ec_machine_laws.specs.OfAppliedOnce.SafeServers.{IsSafe, IsSafeBehind}
use Rattle.ec_machine_laws.proofs.OfAppliedOnce.Once.{once}
use Rattle.ec_machine_laws.proofs.OfAppliedOnce.Steps.{take-safe, end-safe, steps-append}
use Rattle.ec_machine_laws.proofs.OfAppliedOnce.Walk.{Led, take-goes, end-goes}
use Rattle.ec_servernode.specs.declared.state.Node.{Node}
use Rattle.ec_servernode.specs.declared.step.Deed.{Deed}
use Rattle.ec_servernode.specs.declared.step.Deed.TheVariants.{Took, Gave, Refused, Halted, Ended, HaltedEnd, Broke}
use Rattle.ec_servernode.specs.declared.step.Step.{Step}
use Rattle.ec_servernode.specs.Folded.{message_taken, session_ended as ended}
use Rattle.ec_servernode.specs.Node.{state_of, queue_at}
use Rattle.ec_servernode.specs.Run.{IsRun, IsDeed, leads, after, records, records_of, record_of}
use Rattle.ec_servernode.specs.Safe.{StaysSafe}
use Rattle.ec_servernode.proofs.Runs.{leads-push}
use Rattle.ec_link.proofs.HappeningsLemmas.{each-push}

record Safely (s : Server) (ss : List Step) : Type 0 where
  safe : IsSafe (leads s ss)
  stepped : steps (records ss) s.durable ≡ Ok (leads s ss).durable

taken-is : (c : ℕ) (m : Msg) (s : Server) → message_taken c m s ≡ take c m s
unfolding message_taken
taken-is c m s = refl

ended-is : (c : ℕ) (s : Server) → ended c s ≡ end c s
unfolding ended
ended-is c s = refl

stepped : (o : Option Record) (d e : Durable) → Led o d e → steps (record_of o) d ≡ Ok e
stepped None d e r = ap (λ (z : Durable). Ok z) (sym r)
stepped (Some k) d e r = ap (λ (z : Result Durable RecordFault). elim z as (λ y. Result Durable RecordFault) [ Err fault ↦ Err fault | Ok m ↦ Ok m ]) r.0

on-deed : (s : Server) (boxes : ℕ → List Msg) (pass : ℕ) (before : List Step) (x : Deed) → IsDeed s boxes pass before x → IsSafe (leads s before)
    → IsSafe (after (leads s before) x) × (steps (records_of x) (leads s before).durable ≡ Ok (after (leads s before) x).durable)
on-deed s boxes pass before (Gave c m) deed h = (h, refl)
on-deed s boxes pass before (Refused m) deed h = (h, refl)
on-deed s boxes pass before (Halted c bytes m halt) deed h = (h, refl)
on-deed s boxes pass before (HaltedEnd c halt) deed h = (h, refl)
on-deed s boxes pass before Broke deed h = (h, refl)
on-deed s boxes pass before (Ended c served) deed h =
    let v = leads s before in
    let goes = end-goes c v (record { sound = h.tokens; held = h.wants }) in
    let is : end c v ≡ ended c v = sym (ended-is c v) in (
      subst (λ (t : Serving). IsSafe t.server) is (end-safe c v h),
      subst (λ (o : Option Record). steps (record_of o) v.durable ≡ Ok (ended c v).server.durable) deed.1
          (subst (λ (t : Serving). steps (record_of t.rec) v.durable ≡ Ok t.server.durable) is (stepped (end c v).rec v.durable (end c v).server.durable goes.1)),
    )
on-deed s boxes pass before (Took c bytes m served) deed h =
    let v = leads s before in
    let sound : T _ = subst T (sym deed.3) tt in
    let goes = take-goes c m.value v sound (record { sound = h.tokens; held = h.wants }) in
    let is : take c m.value v ≡ message_taken c m.value v = sym (taken-is c m.value v) in (
      subst (λ (t : Serving). IsSafe t.server) is (take-safe c m.value v sound h),
      subst (λ (o : Option Record). steps (record_of o) v.durable ≡ Ok (message_taken c m.value v).server.durable) deed.2.1
          (subst (λ (t : Serving). steps (record_of t.rec) v.durable ≡ Ok t.server.durable) is (stepped (take c m.value v).rec v.durable (take c m.value v).server.durable goes.1)),
    )

one-more : (s : Server) (boxes : ℕ → List Msg) (before : List Step) (x : Step) → IsDeed s boxes x.pass before x.deed → Safely s before → Safely s (before ++ x ∷ [])
one-more s boxes before x deed so =
    let d = on-deed s boxes x.pass before x.deed deed so.safe in
    record {
      safe = subst IsSafe (sym (leads-push s before x)) d.0;
      stepped = ap (λ rs. steps rs s.durable) (each-push (λ (y : Step). records_of y.deed) before x)
          ∙ (steps-append (records before) (records_of x.deed) s.durable (leads s before).durable _ so.stepped d.1 ∙ ap (λ (z : Server). Ok z.durable) (sym (leads-push s before x)));
    }

on-all : (s : Server) (boxes : ℕ → List Msg) (ss before rest : List Step) → before ++ rest ≡ ss → IsRun s boxes ss → Safely s before → Safely s ss
on-all s boxes ss before [] is run so = subst (Safely s) (sym (append-nil before) ∙ is) so
on-all s boxes ss before (x ∷ rest) is run so = on-all s boxes ss (before ++ x ∷ []) rest (append_assoc before (x ∷ []) rest ∙ is) run (one-more s boxes before x (run before x rest is).1 so)

module _ {K : Type 0} (kept : K → Durable) where
  pub runs-safe : (first : Node K) (steps : List Step) → IsRun (state_of kept first) (queue_at first.boxes.items) steps → StaysSafe kept first steps
  runs-safe first ss run h =
      let s = state_of kept first in
      let so = on-all s (queue_at first.boxes.items) ss [] ss refl run (record { safe = h; stepped = refl }) in
      record { safe = so.safe; stepped = so.stepped; once = once (records ss) s.durable (leads s ss).durable h.formed.order so.stepped }
