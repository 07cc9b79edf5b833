-- Refusals for want of room, in a system: each message that was sent, and each line, tells counts that are within the number of objects. All steps of nodes keep it.
use Rattle.std.proofs.Common.{◌≡◌, refl, sym, ap, subst, ◌∙◌, inl, inr, ◌⊎◌, ◌<◌, ◌≤◌, ◌+◌, ℕ, T, Bool, true, false, not, ◌&&◌, ◌||◌, List, [], ◌∷◌, ◌++◌, Option, Some, None}
use Rattle.std.specs.Prelude.{Contains, Ok, Err, Result, is_some, length, nat_le, ⊤}
use Rattle.std.specs.List.{list_all, list_any}
use Rattle.ec_base.specs.Tables.{Table, keys}
use Rattle.ec_base.specs.declared.counter.Counter.{Counter}
use Rattle.ec_volume.specs.Update.{is_sound as is_sound_update}
use Rattle.ec_volume.specs.Volume.{Images, images}
use Rattle.ec_volume.specs.declared.image.Image.TheVariants.{Gone}
use Rattle.ec_volume.specs.declared.update.Update.{Update}
use Rattle.ec_plain.specs.declared.call.Call.{Call}
use Rattle.ec_history.specs.History.{Each}
use Rattle.ec_history.specs.Placing.{EachLine, watch}
use Rattle.ec_history.specs.declared.entry.Answer.{Answer}
use Rattle.ec_history.specs.declared.entry.Answer.TheVariants as answer
use Rattle.ec_history.specs.declared.shown.Shown.{Shown}
use Rattle.ec_history.specs.declared.shown.Shown.TheVariants as show
use Rattle.ec_sessions.specs.declared.slot.Slot.{Slot}
use Rattle.ec_wire.specs.Messages.{is_sound}
use Rattle.ec_wire.specs.declared.msg.Msg.{Msg}
use Rattle.ec_wire.specs.declared.msg.Msg.TheVariants as msg
use Rattle.ec_durable.specs.Durable.{slot, step}
use Rattle.ec_durable.specs.Steps.{AreSound, AreSoundOps}
use Rattle.ec_durable.specs.WellFormed.{IsInOrder, WellFormed}
use Rattle.ec_durable.specs.declared.record.Record.{Record}
use Rattle.ec_durable.specs.declared.record.Record.TheVariants as record_of
use Rattle.ec_durable.specs.declared.state.Durable.{Durable}
use Rattle.ec_durable.proofs.Kept.{step_kept}
use Rattle.ec_protocol.specs.Clerk.{Doing, begin, push, resend, start as start_clerk, take as take_message}
use Rattle.ec_protocol.specs.Server.{Serving, end, new_server, start, take}
use Rattle.ec_protocol.specs.World.{clerks, end_each, is_answer_to, new_world, open_world, stepped}
use Rattle.ec_protocol.specs.declared.clerk.Clerk.{Clerk}
use Rattle.ec_protocol.specs.declared.clerk.Out.{Out}
use Rattle.ec_protocol.specs.declared.clerk.Out.TheVariants as out
use Rattle.ec_protocol.specs.declared.server.Server.{Server}
use Rattle.ec_protocol.specs.declared.world.World.{World}
use Rattle.ec_machine_laws.proofs.OfAppliedOnce.Walk.{Good, Going, Led, end-goes, new-good, start-goes, take-goes, sound-ops}
use Rattle.ec_machine_laws.specs.OfNodeLaws.Rooms.{PassesOn, RefusesNone, TellsCounts, counts_in}
use Rattle.ec_machine_laws.proofs.OfNodeLaws.Answered.{begin-own, push-own, resend-own, start-own, takes-pass}
use Rattle.ec_machine_laws.proofs.OfNodeLaws.Refused.{ends-refuse-none, starts-refuse-none, takes-count}
use Rattle.ec_coherence.specs.System.{System, Ghost}
use Rattle.ec_coherence.specs.Steps.{Stands, call_of, doing_in, end_lines, less_call, out_lines, record_lines, runs, sends, serving_in}
use Rattle.ec_coherence.specs.StandLaws.{crashed, lined, stopped}
use Rattle.ec_coherence.specs.Stops.{RunsOn}
use Rattle.ec_coherence.specs.CommitLaws.{AllAgree}
use Rattle.ec_coherence.proofs.ForCommits.Needs.{each-of}
use Rattle.ec_coherence.proofs.ForServer.Tables.{same_some}
use Rattle.ec_lawful.proofs.OfClerkSteps.ForJoins.Steps.{step-most}
use Rattle.ec_lawful.specs.Doubts.{ComesFrom, DoubtAgrees, doubted}
use Rattle.ec_lawful.specs.Founds.{Makes, bare, found_ghost, started_in, with_found}
use Rattle.ec_lawful.specs.Olds.{opened_in, opened_state}
use Rattle.ec_lawful.specs.Runs.{OfRun}
use Rattle.ec_lawful.specs.Steps.{HoldsIn, StepIsDone, LineIsNew, IsServed, StepsKeep, clerk_begun, calling, in_call}
use Rattle.ec_lawful.specs.Ties.{called, waiting}
use Rattle.ec_lawful.proofs.Clerks.{clerks-keep-all}
use Rattle.ec_lawful.proofs.ForWhole.Founds.{found-shown, steps-so}
use Rattle.ec_lawful.proofs.ForWhole.Halts.{doubted-whole, found-whole, start-leaves, stopped-line-whole, up-whole}
use Rattle.ec_lawful.proofs.ForWhole.Keeps.{doubts-hold, restarts-hold}
use Rattle.ec_lawful.proofs.ForWhole.Opens.{world-stands}
use Rattle.ec_lawful.proofs.ForWhole.OpensWhole.{opened-whole}
use Rattle.ec_lawful.proofs.Runs.{keep}
use Rattle.ec_drill.specs.OfPromise.OfRooms.Rooms.{IsWithinRoom}
use Rattle.ec_base.proofs.Options.{none_some}
use Rattle.ec_history.proofs.HistoryLemmas.{each-more}
use Rattle.ec_lawful.proofs.CallsShown.{each-line}
use Rattle.ec_history.proofs.OfLaws.ForPlacing.BasesAlike.{each-map}

-- Lists.

-- Records.

flush-ops : (s e b : ℕ) (ops : List (ℕ × Update)) → T (is_sound (msg.Flush s e b ops)) → AreSoundOps ops
flush-ops s e b ops h = sound-ops ops (last _ (list_all (λ op. is_sound_update op.1) ops) h)
  where
    last : (x w : Bool) → T (x && w) → T w
    last true w h = h
    last false w h = absurd h

-- a record that comes from a message is sound
comes-sound : (g : System) → Each {A = ℕ × Msg} (λ m. T (is_sound m.1)) g.pool → (r : Record) → ComesFrom g r → AreSound r
comes-sound g sound (record_of.Batch c s b ops) from = flush-ops s from.0 b ops (each-of (λ m. T (is_sound m.1)) g.pool (c, msg.Flush s from.0 b ops) sound from.1)
comes-sound g sound (record_of.Open c age s) from = tt
comes-sound g sound (record_of.End c s) from = tt
comes-sound g sound (record_of.Ids c s got first) from = tt
comes-sound g sound (record_of.Epoch e) from = absurd from

led-order : (o : Option Record) (d e : Durable) → IsInOrder d → Led o d e → IsInOrder e
led-order None d e i l = subst IsInOrder (sym l) i
led-order (Some r) d e i l = step_kept r d e i l.1 l.0

-- another epoch
epoch-order : (d : Durable) (e : ℕ) → IsInOrder d → IsInOrder (record d { epoch = e })
epoch-order d e o = record { images = o.images; most = o.most; ids = o.ids; below = o.below; few = o.few; slots = o.slots; numbers = o.numbers; numbered = o.numbered; next = o.next }

module _ (most : ℕ) where
  -- Messages and lines.

  abbrev IsWithin : Msg → Type 0
  IsWithin (msg.NoRoom s e ask live reserved) = live + reserved ≤ most
  IsWithin _ = ⊤

  abbrev Within : ℕ × Msg → Type 0
  Within m = IsWithin m.1

  counts-within : (d : Durable) → d.max_objects ≡ most → (m : ℕ × Msg) → TellsCounts d m.1 → Within m
  counts-within d q (c, msg.NoRoom s e ask live reserved) h = subst (λ n. live + reserved ≤ n) q h.2
  counts-within d q (c, _) h = tt

  none-within : (m : ℕ × Msg) → RefusesNone m.1 → Within m
  none-within (c, msg.NoRoom s e ask live reserved) h = absurd h
  none-within (c, _) h = tt

  counts-fit : (m : Msg) → IsWithin m → (l r : ℕ) → counts_in m ≡ Some (l, r) → l + r ≤ most
  counts-fit (msg.NoRoom s e ask live reserved) h l r q = subst (λ (x : ℕ × ℕ). x.0 + x.1 ≤ most) (same_some q) h
  counts-fit _ h l r q = absurd (none_some q)

  no-counts : (l r : ℕ) → ◌≡◌ {A = Option (ℕ × ℕ)} None (Some (l, r)) → l + r ≤ most
  no-counts l r q = absurd (none_some q)

  abbrev W : Shown → Type 0
  W = IsWithinRoom most

  ended-line : (g : System) (c : ℕ) (z : Bool) → W (elim z as (λ y. Shown) [ true ↦ show.Ended c ((watch c g.ghost.shown).undurable) | false ↦ show.Unseen c ])
  ended-line g c true = tt
  ended-line g c false = tt

  end-within : (g : System) (c : ℕ) (o : Option Slot) → EachLine W (end_lines g c o)
  end-within g c None = tt
  end-within g c (Some sl) = go sl.is_open
    where
      go : (z : Bool) → EachLine W (elim z as (λ y. List Shown) [
        | true ↦ (elim (is_some ((watch c g.ghost.shown).open_start) || runs g c (sl.age).boot) as (λ y. Shown) [ true ↦ show.Ended c ((watch c g.ghost.shown).undurable) | false ↦ show.Unseen c ]) ∷ []
        | false ↦ []
      ])
      go true = (ended-line g c (is_some ((watch c g.ghost.shown).open_start) || runs g c (sl.age).boot), tt)
      go false = tt

  -- a record's lines refuse nothing
  record-within : (g : System) (o : Option Record) → EachLine W (record_lines g o)
  record-within g None = tt
  record-within g (Some (record_of.Batch c s b ops)) = (tt, tt)
  record-within g (Some (record_of.Open c age s)) = end-within g c (slot g.durable c)
  record-within g (Some (record_of.End c s)) = end-within g c (slot g.durable c)
  record-within g (Some (record_of.Ids c s got x)) = tt
  record-within g (Some (record_of.Epoch e)) = tt

  -- What comes out of a clerk.

  answer-within : (counts : Option (ℕ × ℕ)) → ((l r : ℕ) → counts ≡ Some (l, r) → l + r ≤ most) → (n l c : ℕ) (cl : Call) (a : Answer) (op : Option ℕ) → PassesOn counts (out.Answer n a op) → W (show.Answered l c cl a op)
  answer-within counts fit n l c cl (answer.NoRoom live reserved) op p = fit live reserved p
  answer-within counts fit n l c cl _ op p = tt

  sends-within : (counts : Option (ℕ × ℕ)) (c : ℕ) (os : List Out) → Each (PassesOn counts) os → Each {A = ℕ × Msg} Within (sends c os)
  sends-within counts c [] p = tt
  sends-within counts c (out.Send m ∷ os) p = (none-within (c, m) p.0, sends-within counts c os p.1)
  sends-within counts c (out.Told ns ∷ os) p = sends-within counts c os p.1
  sends-within counts c (out.Answer n a op ∷ os) p = sends-within counts c os p.1
  sends-within counts c (out.OldBoot a ∷ os) p = sends-within counts c os p.1

  outs-within : (counts : Option (ℕ × ℕ)) → ((l r : ℕ) → counts ≡ Some (l, r) → l + r ≤ most) → (c : ℕ) (os : List Out) (calls : Table (Table (ℕ × Call))) → Each (PassesOn counts) os → EachLine W (out_lines c os calls)
  outs-within counts fit c [] calls p = tt
  outs-within counts fit c (out.Send m ∷ os) calls p = outs-within counts fit c os calls p.1
  outs-within counts fit c (out.Told ns ∷ os) calls p = (tt, outs-within counts fit c os calls p.1)
  outs-within counts fit c (out.OldBoot a ∷ os) calls p = outs-within counts fit c os calls p.1
  outs-within counts fit c (out.Answer n a op ∷ os) calls p = go (call_of c n calls) (λ more. outs-within counts fit c os more p.1)
    where
      go : (o : Option (ℕ × Call)) → ((more : Table (Table (ℕ × Call))) → EachLine W (out_lines c os more))
          → EachLine W (elim o as (λ z. List Shown) [ None ↦ out_lines c os calls | Some l ↦ show.Answered l.0 c l.1 a op ∷ out_lines c os (less_call c n calls) ])
      go None f = f calls
      go (Some l) f = (answer-within counts fit n l.0 c l.1 a op p.0, f (less_call c n calls))

  -- The system.

  pub record HasRoom (g : System) : Type 0 where
    pub order : IsInOrder g.durable
    pub doubt : (r : Record) → g.unshown ≡ Some r → AreSound r
    pub good : (v : Server) → g.server ≡ Some v → Good v
    pub pool : Each {A = ℕ × Msg} Within g.pool
    pub lines : EachLine W g.ghost.shown

  -- a line that refuses nothing
  lined-room : (g : System) (s : Shown) → W s → HasRoom g → HasRoom (lined g s)
  lined-room g s w h = record { order = h.order; doubt = h.doubt; good = h.good; pool = h.pool; lines = each-line W g.ghost.shown (s ∷ []) h.lines (w, tt) }

  in-call-room : (g : System) (c l : ℕ) (cl : Call) (k : Clerk) → HasRoom g → HasRoom (in_call c l cl k g)
  in-call-room g c l cl k h = go (list_any (is_answer_to (k.calls + 1)) (begin cl k).outs)
    where
      there : HasRoom (called c (k.calls + 1) l cl g)
      there = record { order = h.order; doubt = h.doubt; good = h.good; pool = h.pool; lines = h.lines }

      go : (z : Bool) → HasRoom (waiting c l cl z (called c (k.calls + 1) l cl g))
      go true = there
      go false = lined-room (called c (k.calls + 1) l cl g) (show.Waits l c cl) tt there

  module _ (v : Images) where
    abbrev F : System → Type 0
    F = OfRun v most

    abbrev pub K : System → Type 0
    K g = F g × HasRoom g

    steps : StepsKeep F
    steps = keep clerks-keep-all v most

    agrees : (g : System) → K g → AllAgree g × DoubtAgrees g
    agrees g k = ((k.0.whole).all, (k.0.whole).doubts)

    same-durable : (g : System) (u : Server) → K g → g.server ≡ Some u → u.durable ≡ g.durable
    same-durable g u k up = (subst (RunsOn g) up (((k.0.whole).all).0).stops.runs).0

    sound : (g : System) → K g → Each {A = ℕ × Msg} (λ m. T (is_sound m.1)) g.pool
    sound g k = (((k.0.whole).all).0).sessions.sound

    -- The server.

    served-room : (g : System) (u : Server) → K g → g.server ≡ Some u → (t : Serving) → Going u.durable t → Each {A = ℕ × Msg} Within t.sent → IsServed F g t → IsServed K g t
    served-room g u k up t going sent (inl s) = inl s
    served-room g u k up t going sent (inr (γ, st, f)) = inr (
      γ,
      st,
      (
        f,
        record {
          order = led-order t.rec u.durable t.server.durable (subst IsInOrder (sym (same-durable g u k up)) k.1.order) going.1;
          doubt = k.1.doubt;
          good = λ x q. subst Good (same_some q) going.0;
          pool = each-more {A = ℕ × Msg} Within g.pool t.sent k.1.pool sent;
          lines = subst (EachLine W) (sym (st.0).shown) (each-line W g.ghost.shown (record_lines g t.rec) k.1.lines (record-within g t.rec));
        },
      ),
    )

    takes-room : (g : System) (u : Server) → K g → g.server ≡ Some u → (c : ℕ) (m : Msg) → Contains g.pool (c, m) → IsServed K g (take c m u)
    takes-room g u k up c m p =
        let same = same-durable g u k up in
        served-room g u k up (take c m u) (take-goes c m u (each-of {A = ℕ × Msg} (λ x. T (is_sound x.1)) g.pool (c, m) (sound g k) p) (k.1.good u up))
        (each-map {A = ℕ × Msg} (λ x. TellsCounts u.durable x.1) Within (counts-within u.durable (ap (λ d. d.max_objects) same ∙ k.0.most_is)) (take c m u).sent (takes-count c m u (subst IsInOrder (sym same) k.1.order)))
        (steps.takes g u k.0 up c m p)

    ends-room : (g : System) (u : Server) → K g → g.server ≡ Some u → (c : ℕ) → IsServed K g (end c u)
    ends-room g u k up c =
        served-room g u k up (end c u) (end-goes c u (k.1.good u up))
        (each-map {A = ℕ × Msg} (λ x. RefusesNone x.1) Within none-within (end c u).sent (ends-refuse-none c u))
        (steps.ends g u k.0 up c)

    stops-room : (g : System) (u : Server) → K g → g.server ≡ Some u → K (stopped g)
    stops-room g u k up = (
      steps.stops g u k.0 up,
      record {
        order = k.1.order;
        doubt = k.1.doubt;
        good = λ x q. absurd (none_some q);
        pool = k.1.pool;
        lines = each-line W g.ghost.shown (show.Stopped ∷ []) k.1.lines (tt, tt);
      },
    )

    -- Behind a stop with a record in doubt, and behind a restart.

    doubts-room : (g : System) (u : Server) → K g → g.server ≡ Some u → (r : Record) → ComesFrom g r → AllAgree (doubted g r) → K (doubted g r)
    doubts-room g u k up r from now = (
      record { whole = doubted-whole g k.0.whole u up r from now; origin = k.0.origin; most_is = k.0.most_is },
      record {
        order = k.1.order;
        doubt = λ q is. subst AreSound (same_some is) (comes-sound g (sound g k) r from);
        good = λ x q. absurd (none_some q);
        pool = k.1.pool;
        lines = each-line W g.ghost.shown (show.Stopped ∷ []) k.1.lines (tt, tt);
      },
    )

    stopped-line-room : (g : System) → K g → K (lined g show.Stopped)
    stopped-line-room g k = (record { whole = stopped-line-whole g k.0.whole; origin = k.0.origin; most_is = k.0.most_is }, lined-room g show.Stopped tt k.1)

    finds-room : (g : System) → K g → g.server ≡ None → (r : Record) → g.unshown ≡ Some r → Makes (bare g) r (found_ghost g r) → AllAgree (with_found g r) → K (with_found g r)
    finds-room g k down r doubt makes now =
        let ok = steps-so g (k.0.whole).all (k.0.whole).doubts down r doubt in (
          record { whole = found-whole g k.0.whole down r doubt now; origin = k.0.origin; most_is = step-most r g.durable (stepped r g.durable) ok ∙ k.0.most_is },
          record {
            order = step_kept r g.durable (stepped r g.durable) k.1.order (k.1.doubt r doubt) ok;
            doubt = λ q is. absurd (none_some is);
            good = k.1.good;
            pool = k.1.pool;
            lines = subst (EachLine W) (sym (found-shown g r)) (each-line W g.ghost.shown (record_lines g (Some r)) k.1.lines (record-within g (Some r)));
          },
        )

    starts-room : (g : System) → K g → g.server ≡ None → g.unshown ≡ None → (e : ℕ) → AllAgree (started_in g (start (record (g.durable) { epoch = e }))) → K (started_in g (start (record (g.durable) { epoch = e })))
    starts-room g k down sure e now =
        let d = record (g.durable) { epoch = e } in
        let t = start d in (
          record { whole = up-whole g k.0.whole down sure e now; origin = k.0.origin; most_is = ap (λ y. y.max_objects) (start-leaves d) ∙ k.0.most_is },
          record {
            order = subst IsInOrder (sym (start-leaves d)) (epoch-order d t.server.durable.epoch (epoch-order g.durable e k.1.order));
            doubt = k.1.doubt;
            good = λ x q. subst Good (same_some q) (start-goes d).0;
            pool = each-more {A = ℕ × Msg} Within g.pool t.sent k.1.pool (each-map {A = ℕ × Msg} (λ x. RefusesNone x.1) Within none-within t.sent (starts-refuse-none d));
            lines = each-line W g.ghost.shown (show.Started ∷ []) k.1.lines (tt, tt);
          },
        )

    -- Clerks.

    done-room : (h : System) (c b : ℕ) (d : Doing) → HasRoom h → (counts : Option (ℕ × ℕ)) → ((l r : ℕ) → counts ≡ Some (l, r) → l + r ≤ most) → Each (PassesOn counts) d.outs → StepIsDone F h c b d → StepIsDone K h c b d
    done-room h c b d r counts fit outs (inl s) = inl s
    done-room h c b d r counts fit outs (inr (γ, shown, f)) = inr (
      γ,
      shown,
      (
        f,
        record {
          order = r.order;
          doubt = r.doubt;
          good = r.good;
          pool = each-more {A = ℕ × Msg} Within h.pool (sends c d.outs) r.pool (sends-within counts c d.outs outs);
          lines = subst (EachLine W) (sym shown) (each-line W h.ghost.shown (out_lines c d.outs h.calls) r.lines (outs-within counts fit c d.outs h.calls outs));
        },
      ),
    )

    messages-room : (g : System) (c b : ℕ) (k : Clerk) → K g → g.running c ≡ Some b → g.clerks c b ≡ Some k → (m : Msg) → Contains g.pool (c, m) → StepIsDone K g c b (take_message m k)
    messages-room g c b k r run there m p =
        done-room g c b (take_message m k) r.1 (counts_in m) (counts-fit m (each-of {A = ℕ × Msg} Within g.pool (c, m) r.1.pool p)) (takes-pass m k) (steps.messages g c b k r.0 run there m p)

    begun-room : (g : System) (c : ℕ) → HasRoom g → HasRoom (clerk_begun c g)
    begun-room g c h = record { order = h.order; doubt = h.doubt; good = h.good; pool = h.pool; lines = h.lines }

    pub room-kept : StepsKeep K
    room-kept = record {
      agrees = λ g k. (k.0.whole).all;
      takes = λ g u k up c m p. takes-room g u k up c m p;
      ends = λ g u k up c. ends-room g u k up c;
      stops = stops-room;
      doubts = λ w g k st u up t is r q n. doubts-hold K agrees stops-room doubts-room w g k st u up t is r q n;
      restarts = λ w g k st down spare fate. restarts-hold K agrees stopped-line-room finds-room starts-room w g k st down spare fate;
      messages = λ g c b k r run there m p. messages-room g c b k r run there m p;
      pushes = λ g c b k r run there n. done-room g c b (push n k) r.1 None no-counts (push-own None n k) (steps.pushes g c b k r.0 run there n);
      resends = λ g c b k r run there. done-room g c b (resend k) r.1 None no-counts (resend-own None k) (steps.resends g c b k r.0 run there);
      calls = λ g c b k r run there l cl new bounded. done-room (in_call c l cl k g) c b (begin cl k) (in-call-room g c l cl k r.1) None no-counts (begin-own None cl k) (steps.calls g c b k r.0 run there l cl new bounded);
      starts = λ g c r idle within l cl new bounded spare. (
          let d = start_clerk c (g.boots c + 1) in
          done-room (in_call c l cl d.clerk (clerk_begun c g)) c (g.boots c + 1) (calling cl d.outs d.clerk) (in-call-room (clerk_begun c g) c l cl d.clerk (begun-room g c r.1)) None no-counts
          (each-more (PassesOn None) d.outs (begin cl d.clerk).outs (start-own None c (g.boots c + 1)) (begin-own None cl d.clerk)) (steps.starts g c r.0 idle within l cl new bounded spare));
      crashes = λ g k c. (steps.crashes g k.0 c, record { order = k.1.order; doubt = k.1.doubt; good = k.1.good; pool = k.1.pool; lines = each-line W g.ghost.shown (show.Crashed c ∷ []) k.1.lines (tt, tt) });
      nothing = λ g k. (steps.nothing g k.0, lined-room g show.Nothing tt k.1);
      unsettled = λ g k. (steps.unsettled g k.0, lined-room g show.Unsettled tt k.1);
    }

-- The opening: sessions of earlier runs end.

ends-order : (cs : List ℕ) (t : Serving) (rs : List Record) → Good t.server → IsInOrder t.server.durable → IsInOrder ((end_each cs t rs).0).server.durable
ends-order [] t rs g o = o
ends-order (c ∷ cs) t rs g o = go (end c t.server).rec (end-goes c t.server g) (ends-order cs)
  where
    next : Going t.server.durable (end c t.server) → IsInOrder (end c t.server).server.durable
    next i = led-order (end c t.server).rec t.server.durable (end c t.server).server.durable o i.1

    go : (z : Option Record) → Going t.server.durable (end c t.server) → ((u : Serving) (qs : List Record) → Good u.server → IsInOrder u.server.durable → IsInOrder ((end_each cs u qs).0).server.durable)
        → IsInOrder ((elim z as (λ y. Serving × List Record) [ None ↦ end_each cs t rs | Some r ↦ end_each cs (end c t.server) (rs ++ r ∷ []) ]).0).server.durable
    go None i more = more t rs g o
    go (Some r) i more = more (end c t.server) (rs ++ r ∷ []) i.0 (next i)

ok-same : {x y : World} → ◌≡◌ {A = Result World Counter} (Ok x) (Ok y) → x ≡ y
ok-same {x = x} p = ap (λ (r : Result World Counter). elim r as (λ z. World) [ Ok y ↦ y | Err n ↦ x ]) p

err-ok : {n : Counter} {y : World} → ◌≡◌ {A = Result World Counter} (Err n) (Ok y) → ⊥
err-ok p = subst (λ (r : Result World Counter). T (elim r as (λ z. Bool) [ Ok y ↦ false | Err n ↦ true ])) p tt

opened-order : (d : Durable) → IsInOrder d → (w : World) → open_world d ≡ Ok w → IsInOrder w.durable
opened-order d o w q = go (start d).spent q
  where
    t : Serving
    t = start d

    rs : List Record
    rs = record_of.Epoch t.server.durable.epoch ∷ []

    there : IsInOrder ((end_each clerks t rs).0).server.durable
    there = ends-order clerks t rs (start-goes d).0 (led-order t.rec d t.server.durable o (start-goes d).1)

    go : (z : Option Counter) → elim z as (λ y. Result World Counter) [ Some n ↦ Err n | None ↦ Ok (new_world ((end_each clerks t rs).0).server (end_each clerks t rs).1) ] ≡ Ok w → IsInOrder w.durable
    go (Some n) p = absurd (err-ok p)
    go None p = subst (λ (x : World). IsInOrder x.durable) (ok-same p) there

module _ (d : Durable) (wf : WellFormed d) (sixteen : length d.sessions ≡ 16) (gone : images d.volume 0 ≡ Gone) (w : World) (q : open_world d ≡ Ok w) where
  stands : Stands w (opened_in d)
  stands = world-stands d sixteen w q

  pub opened-room : HoldsIn (K d.max_objects (images d.volume)) w
  opened-room = (
    opened_in d,
    (
      record { whole = opened-whole d wf sixteen gone; origin = refl; most_is = refl },
      record {
        order = subst IsInOrder (stands.up tt) (opened-order d wf.order w q);
        doubt = λ r is. absurd (none_some is);
        good = λ x is. subst Good (same_some is) (new-good (opened_state d));
        pool = tt;
        lines = tt;
      },
    ),
    stands,
  )
