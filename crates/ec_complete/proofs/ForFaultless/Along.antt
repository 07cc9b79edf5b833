-- What holds along a line, from its first step to its end: the world is then ready for the next line.
use Rattle.std.proofs.Common.{◌≡◌, refl, sym, ap, ◌∙◌, subst, arith, ◌≤◌, ◌+◌, ◌-◌, ◌*◌, ℕ, T, Bool, true, false, List, [], ◌∷◌, ◌++◌, inl, inr, ◌⊎◌, length}
use Rattle.std.specs.Prelude.{Option, None, Some}
use Rattle.ec_base.specs.Tables.{Table, at, at_or, once}
use Rattle.ec_volume.specs.Update.{member}
use Rattle.ec_volume.specs.Volume.{Images}
use Rattle.ec_wire.specs.declared.msg.Msg.{Msg}
use Rattle.ec_durable.specs.WellFormed.{IsInOrder}
use Rattle.ec_protocol.specs.Clerk as clerk
use Rattle.ec_protocol.specs.Drill.{line_happens, onward, reads, settle}
use Rattle.ec_protocol.specs.World.{Moving, boot, deliver, due, forget, pending, runs}
use Rattle.ec_protocol.specs.declared.clerk.Clerk.{Clerk}
use Rattle.ec_protocol.specs.declared.script.Line.{Line}
use Rattle.ec_protocol.specs.declared.script.Line.TheVariants as line
use Rattle.ec_protocol.specs.declared.server.Server.{Server}
use Rattle.ec_protocol.specs.declared.world.Event.TheVariants as event
use Rattle.ec_protocol.specs.declared.world.World.{World}
use Rattle.ec_protocol.specs.declared.world.WorldFault.{WorldFault}
use Rattle.ec_coherence.specs.System.{System}
use Rattle.ec_coherence.proofs.ForServer.Tables.{same_some}
use Rattle.ec_lawful.specs.Calls.{AreOf}
use Rattle.ec_lawful.specs.DrillRuns.{IsFit}
use Rattle.ec_lawful.specs.Steps as steps
use Rattle.ec_lawful.proofs.ForWhole.Frames.{forgotten-stands}
use Rattle.ec_lawful.specs.Runs.{OfRun}
use Rattle.ec_quiet.specs.Measure.{sum}
use Rattle.ec_quiet.specs.Quiet.{IsIdle}
use Rattle.ec_quiet.specs.Scenes as scenes
use Rattle.ec_quiet.specs.Scenes.{IsScene, Mail, Scene, delivered, is_for_server, taken_by}
use Rattle.ec_quiet.specs.Works.{Work}
use Rattle.ec_quiet.specs.Bounds.{IsFirstPhase}
use Rattle.ec_quiet.specs.SettlingScenes.{Reaches, here, on}
use Rattle.ec_quiet.specs.OfDeliveries.Runs.{HasEnded, HasSettled}
use Rattle.ec_complete.specs.Begins.{bound_for, most_sent}
use Rattle.ec_complete.specs.Complete.{IsFaultless}
use Rattle.ec_complete.proofs.ForLines.Numbers.{Below, later}
use Rattle.ec_complete.specs.Worlds.{IsCounted, IsEarly, LineIsKnown, Outset}
use Rattle.ec_complete.specs.Goes.{LineGoesOn, GoesThrough, IsWorkOf}
use Rattle.ec_complete.specs.Ready.{IsReady, calls_of, line_sends}
use Rattle.ec_complete.proofs.ForFaultless.Boots.{delivery-alike, first-rises}
use Rattle.ec_complete.proofs.ForFaultless.Counts.{calls-then, counted-more, own-made}
use Rattle.ec_complete.proofs.ForFaultless.First.{IsStepped, named-now}
use Rattle.ec_complete.proofs.ForFaultless.Idle as idle
use Rattle.ec_complete.proofs.ForFaultless.Laws.{calls-tell, deliveries-hold, deliveries-keep, deliveries-tell, ends-keep, events-hold, lines-stay-known, messages-count, nothing-due, pushes-tell, servers-count}
use Rattle.ec_complete.proofs.ForFaultless.Settles as starts
use Rattle.ec_complete.proofs.ForFaultless.Settles.{counts, shows}
use Rattle.ec_base.proofs.Options.{none_some}
use Rattle.ec_quiet.proofs.Settled.{stops}

-- a step that meets no fault
module _ (m : Moving) (n : ℕ) (fine : (deliver runs n m.world).fault ≡ None) where
  abbrev behind : Moving
  behind = record { world = (deliver runs n m.world).world; shown = m.shown ++ (deliver runs n m.world).shown; fault = None }

  onward-is : onward m (deliver runs n m.world) ≡ behind
  onward-is = ap (λ o. elim o as (λ z. Moving) [ Some f ↦ record m { fault = Some f } | None ↦ behind ]) fine

-- messages aren't taken back
more : (w : World) (n : ℕ) → w.sent ≤ (deliver runs n w).world.sent
more w n = go w.server refl
  where
    go : (o : Option Server) → w.server ≡ o → w.sent ≤ (deliver runs n w).world.sent
    go None e = (servers-count 0 0 w n (λ v f. absurd (none_some (sym e ∙ f)))).1
    go (Some u) e = (servers-count u.number u.durable.next_session w n
        (λ v f. (omega (arith, ap (λ (x : Server). x.number) (same_some (sym e ∙ f))), omega (arith, ap (λ (x : Server). x.durable.next_session) (same_some (sym e ∙ f)))))).1

-- A delivery in a line whose work is known.
module _ (outset : Outset) (names : List ℕ) (number : ℕ) (j : Work) (r : Moving) (known : LineIsKnown outset j number r) where
  abbrev z : Scene
  z = known.scene

  -- the clerks have names, and made few calls
  abbrev pub AreTame : Table Clerk → Type 0
  AreTame es = (sum calls_of es ≤ number) × ((a : ℕ) (b : Clerk) → at a es ≡ Some b → T (member a names))

  takes : (c : ℕ) (m : Msg) (rest : Mail) (o : Option Clerk) → at c z.clerks ≡ o → AreTame z.clerks → AreTame (taken_by c m rest o z).clerks
  takes c m rest None e t = t
  takes c m rest (Some k) e t =
      let count = known.counted.clerks c k (ap (at c) known.stands.clerks ∙ e) in
      let as-many = (messages-count k.calls r.world.sent m k (own-made number r.world.sent k count)).made in (
        omega (arith, calls-then c (clerk.take m k).clerk z.clerks known.comes.orderly.rising k 0 e (omega (arith, as-many)), t.0),
        named-now names z c (clerk.take m k).clerk (t.1 c k e) t.1,
      )

  delivers : (t : ℕ × Msg) (rest : Mail) → AreTame z.clerks → AreTame (delivered t.0 t.1 rest z).clerks
  delivers t rest h = go (is_for_server t.1)
    where
      go : (b : Bool) → AreTame (elim b as (λ y. Scene) [ true ↦ scenes.served t.0 t.1 rest z | false ↦ taken_by t.0 t.1 rest (at t.0 z.clerks) z ]).clerks
      go true = h
      go false = takes t.0 t.1 rest (at t.0 z.clerks) refl h

  module _ (n : ℕ) (is-due : due r.world ≡ Some n) (fine : (deliver runs n r.world).fault ≡ None) where
    goes : (ms : Mail) → z.mail ≡ ms → AreTame z.clerks → AreTame (deliver runs n r.world).world.clerks
    goes [] e h = absurd (none_some (sym (nothing-due r.world z known.stands e) ∙ is-due))
    goes (t ∷ rest) e h =
        let d = deliveries-keep r.world z t.0 t.1 rest known.stands e in
        let same : d.0 ≡ n = same_some (sym d.1 ∙ is-due) in
        let then : IsScene (deliver runs n r.world).world (delivered t.0 t.1 rest z) =
        subst (λ y. IsScene (deliver runs y r.world).world (delivered t.0 t.1 rest z)) same (d.2 (subst (λ y. (deliver runs y r.world).fault ≡ None) (sym same) fine)) in
        subst AreTame (sym then.clerks) (delivers t rest h)

    pub tame-then : AreTame r.world.clerks → AreTame (deliver runs n r.world).world.clerks
    tame-then h = goes z.mail refl (subst AreTame known.stands.clerks h)

module _ (outset : Outset) (v : Images) (most : ℕ) (names : List ℕ) (number : ℕ) (w : World) (q : IsReady outset v most names number w) (few : number ≤ 65536) (first : 1 ≤ number) (sixteen : length (once names) ≤ 16)
    (l : Line) (column : ℕ) (faultless : IsFaultless l) (fit : IsFit (reads l column)) (step : IsStepped outset v most names number l w q (line_happens runs number l w)) where
  abbrev m : Moving
  m = line_happens runs number l w

  abbrev k : ℕ
  k = length (once names)

  abbrev r : Moving
  r = settle (bound_for k) [] m

  abbrev F : System → Type 0
  F = OfRun v most

  abbrev Tame : World → Type 0
  Tame u = (sum calls_of u.clerks ≤ number) × ((a : ℕ) (b : Clerk) → at a u.clerks ≡ Some b → T (member a names))

  -- all facts hold, the lines are of the calls so far, and each clerk started once at most in the line
  record IsAlong (u : World) : Type 0 where
    holds : steps.HoldsIn F u
    of : AreOf (Below (number + 1)) u
    boots : (a : ℕ) → boot a u ≤ boot a w + 1

  of-all : AreOf (Below (number + 1)) w
  of-all = record { calls = λ c n k cl e. absurd (none_some (sym ((idle.its-quiet outset v most names number w q).1 c n) ∙ e)); shown = later number w.shown q.shown }

  begins : IsAlong m.world
  begins = go l step.fine faultless fit
    where
      go : (l : Line) → (line_happens runs number l w).fault ≡ None → IsFaultless l → IsFit (reads l column) → IsAlong (line_happens runs number l w).world
      go line.Comment f a b = record { holds = idle.holds outset v most names number w q; of = of-all; boots = first-rises number w line.Comment a }
      go (line.Call c cl) f a b = record {
        holds = events-hold v most (event.Call c number cl) w (idle.holds outset v most names number w q) (idle.is-new outset v most names number w q, b.0, b.1) f;
        of = calls-tell (Below (number + 1)) c number cl w of-all (omega arith) f;
        boots = first-rises number w (line.Call c cl) a;
      }
      go (line.Push c i) f a b = record {
        holds = events-hold v most (event.Push c i) w (idle.holds outset v most names number w q) tt f;
        of = pushes-tell (Below (number + 1)) c i w of-all f;
        boots = first-rises number w (line.Push c i) a;
      }
      go (line.Cut c) f a b = absurd a
      go (line.Uncut c) f a b = absurd a
      go (line.Drop c i j) f a b = absurd a
      go (line.Repeat c i j) f a b = absurd a
      go (line.Deliver c i j) f a b = absurd a
      go (line.Resend c) f a b = absurd a
      go (line.Crash c) f a b = absurd a
      go (line.End c) f a b = absurd a
      go line.Stop f a b = absurd a
      go (line.Arm i ch) f a b = absurd a
      go line.Restart f a b = absurd a

  along : (u : Moving) → Reaches m u → IsAlong u.world
  along u here = begins
  along _ (on u i reached is-due fine) =
      let a = along u reached in
      subst (λ (x : Moving). IsAlong x.world) (sym (onward-is u i fine)) (record {
        holds = deliveries-hold v most i u.world a.holds fine;
        of = deliveries-tell (Below (number + 1)) i u.world a.of fine;
        boots = λ c. omega (arith, ap (at_or 0 c) (delivery-alike i u.world), a.boots c);
      })

  -- The world behind the line.

  from : m.world.sent ≤ line_sends * number + pending m.world
  from = omega (arith, counts number w l faultless, q.sent, idle.none-pending outset v most names number w q)

  ends : (r.fault ≡ None → HasSettled (bound_for k) m r) × ((f : WorldFault) → r.fault ≡ Some f → HasEnded most_sent m r)
  ends = starts.settles-or-ends outset number k few sixteen m (line_sends * number) step.fine (shows number w l faultless) from (omega (arith, few)) step.started

  less : number ≡ (number + 1) - 1
  less = omega arith

  abbrev Next : World → Type 0
  Next u = IsReady outset v most names (number + 1) (forget u)

  ready : (u : World) (z : Scene) → IsScene u z → IsIdle z → IsInOrder z.server.durable → IsCounted outset number u z → IsAlong u → Tame u → u.sent ≤ line_sends * (number + 1) → Next u
  ready u z i idle-z order counted a tame sent = record {
    scene = z;
    stands = (ends-keep u z i idle-z.mail).1;
    idle = idle-z;
    system = a.holds.0;
    facts = a.holds.1;
    in_system = forgotten-stands u a.holds.0 a.holds.2;
    order = order;
    counted = subst (λ n. IsCounted outset n (forget u) z) less (record { server = counted.server; clerks = counted.clerks; ids = counted.ids });
    shown = a.of.shown;
    sent = sent;
    calls = omega (arith, subst (λ cs. sum calls_of cs ≤ number) i.clerks tame.0);
    named = λ c b e. tame.1 c b (ap (at c) i.clerks ∙ e);
    boots = λ c. omega (arith, a.boots c, q.boots c);
  }

  -- The line settled.
  module _ (settled : HasSettled (bound_for k) m r) where
    sent-on : r.world.sent ≤ line_sends * (number + 1)
    sent-on = omega (arith, starts.sent-behind outset number k few sixteen m (line_sends * number) step.fine (shows number w l faultless) from (omega (arith, few)) step.started r settled)

    few-sent : r.world.sent ≤ most_sent
    few-sent = omega (arith, sent-on, few)

    -- where the line's work is known
    module _ (j : Work) (known : LineIsKnown outset j number m) where
      walks : (u : Moving) → Reaches m u → u.world.sent ≤ most_sent → Tame u.world
      walks u here le = (step.calls, step.named)
      walks _ (on u i reached is-due fine) le =
          let less : u.world.sent ≤ most_sent = at-most u i fine (more u.world i) le in
          subst (λ (x : Moving). Tame x.world) (sym (onward-is u i fine)) (tame-then outset names number j u (lines-stay-known outset j number m u known few reached less) i is-due fine (walks u reached less))
        where
          at-most : (u : Moving) (n : ℕ) → (deliver runs n u.world).fault ≡ None → u.world.sent ≤ (deliver runs n u.world).world.sent → (onward u (deliver runs n u.world)).world.sent ≤ most_sent → u.world.sent ≤ most_sent
          at-most u n f more l = let same = ap (λ (x : Moving). x.world.sent) (onward-is u n f) in omega (arith, more, l, same)

      end : LineIsKnown outset j number r
      end = lines-stay-known outset j number m r known few settled.reached few-sent

      servers : settled.scene.server ≡ end.scene.server
      servers = same_some (sym settled.stands.server ∙ end.stands.server)

      same : settled.scene ≡ end.scene
      same = (λ y. record { server = servers y; clerks = (sym settled.stands.clerks ∙ end.stands.clerks) y; mail = (sym settled.stands.mail ∙ end.stands.mail) y })

      next-known : Next r.world
      next-known = ready r.world end.scene end.stands (subst IsIdle same settled.idle) end.facts.order end.counted (along r settled.reached) (walks r settled.reached few-sent) sent-on

    -- where nothing was done
    next-idle : IsScene m.world q.scene → Next r.world
    next-idle i = subst (λ (x : Moving). Next x.world) (sym stopped) (ready m.world q.scene i q.idle q.order counted begins (step.calls, step.named) (subst (λ (x : Moving). x.world.sent ≤ line_sends * (number + 1)) stopped sent-on))
      where
        stopped : r ≡ m
        stopped = stops (bound_for k) m (nothing-due m.world q.scene i q.idle.mail)

        counted : IsCounted outset number m.world q.scene
        counted = counted-more outset (number - 1) number w m.world q.scene (omega arith) (omega (arith, counts number w l faultless, idle.none-pending outset v most names number w q))
            (i.server ∙ sym q.stands.server) (i.clerks ∙ sym q.stands.clerks) q.counted

    next : ((j : Work) × IsWorkOf l w q.scene q.system j × (k : LineIsKnown outset j number m) × IsFirstPhase k.phase) ⊎ IsScene m.world q.scene → Next r.world
    next (inl (j, of, known, first)) = next-known j known
    next (inr i) = next-idle i

  pub goes-on : LineGoesOn outset v most names number l w q
  goes-on = record { new = idle.is-new outset v most names number w q; fine = step.fine; known = step.known; started = step.started; ends = ends.0; ended = ends.1; next = λ settled. next settled step.known }

  -- where counters were far below their limits
  pub goes-through : IsEarly outset → GoesThrough outset v most names number l w q
  goes-through early =
      let settled : HasSettled (bound_for k) m r = starts.settles outset number k few sixteen m (line_sends * number) step.fine (shows number w l faultless) from (omega (arith, few)) early step.started in
      record {
        goes = goes-on;
        begun = starts.begins outset number k few sixteen m (line_sends * number) step.fine (shows number w l faultless) from (omega (arith, few)) early step.started;
        settled = settled;
        next = next settled step.known;
      }
