-- What each event of a world adds: the lines that it shows, and whose calls they are.
use Rattle.std.proofs.Common.{◌≡◌, refl, sym, ap, subst, ◌∙◌, ◌+◌, ℕ, Bool, true, false, not, ◌==◌, ◌||◌, cond, List, [], ◌∷◌, ◌++◌, Option, Some, None, append-nil, append_assoc}
use Rattle.std.specs.Prelude.{is_some}
use Rattle.std.specs.List.{filter, list_any}
use Rattle.ec_base.specs.Tables.{at, at_or, or_else, put, without}
use Rattle.ec_base.specs.declared.counter.Counter.{Counter}
use Rattle.ec_plain.specs.declared.call.Call.{Call}
use Rattle.ec_history.specs.Placing.{EachLine, watch}
use Rattle.ec_history.specs.declared.shown.Shown.{Shown}
use Rattle.ec_history.specs.declared.shown.Shown.TheVariants as show
use Rattle.ec_sessions.specs.Slots.{is_open}
use Rattle.ec_volume.specs.Update.{member}
use Rattle.ec_durable.specs.Durable.{slot}
use Rattle.ec_durable.specs.declared.record.Record.{Record}
use Rattle.ec_durable.specs.declared.record.Record.TheVariants as record_of
use Rattle.ec_protocol.specs.Clerk.{Doing, begin, has_issued, push, resend, start, take as take_message}
use Rattle.ec_protocol.specs.Server.{Serving}
use Rattle.ec_protocol.specs.Server as server
use Rattle.ec_protocol.specs.World as world
use Rattle.ec_protocol.specs.World.{Fate, runs, stops_with, stops_without, Moving, moving}
use Rattle.ec_protocol.specs.declared.clerk.Clerk.{Clerk}
use Rattle.ec_protocol.specs.declared.clerk.Out.{Out}
use Rattle.ec_protocol.specs.declared.clerk.Out.TheVariants as out
use Rattle.ec_protocol.specs.declared.server.Server.{Server}
use Rattle.ec_protocol.specs.declared.world.Event.{Event}
use Rattle.ec_protocol.specs.declared.world.Event.TheVariants as event
use Rattle.ec_protocol.specs.declared.world.Noted.{Noted}
use Rattle.ec_protocol.specs.declared.world.Noted.TheVariants as noted_of
use Rattle.ec_protocol.specs.declared.world.Sent.{Sent}
use Rattle.ec_protocol.specs.declared.world.World.{World}
use Rattle.ec_protocol.specs.declared.world.WorldFault.{WorldFault}
use Rattle.ec_protocol.specs.declared.world.WorldFault.TheVariants as fault
use Rattle.ec_coherence.specs.Steps.{call_of, calls_after, less_call, out_lines}
use Rattle.ec_protocol.specs.Resumes.{resume, resume_on, wait}
use Rattle.ec_coherence.proofs.ForServer.Tables.{at-put, at-without, same_some}
use Rattle.ec_lawful.specs.Calls.{AreOf, EachCall, IsOf}
use Rattle.ec_lawful.proofs.ForWhole.Outs.{Calls, came-out}
use Rattle.ec_lawful.proofs.ForWhole.Pool.{Sends, sends-all}
use Rattle.ec_lease_machine.specs.OfQueues.Adds.{AddsCalls, MayBe}
use Rattle.ec_base.proofs.Options.{none_some}
use Rattle.ec_base.proofs.Numbers.{equal}
use Rattle.ec_lawful.proofs.CallsShown.{each-line}

module _ (P : ℕ → ℕ → Call → Type 0) where
  -- Calls under way: one comes, one goes, a clerk's all go.
  put-calls : (c n l : ℕ) (cl : Call) (calls : Calls) → EachCall P calls → P l c cl → EachCall P (put c (put n (l, cl) (at_or [] c calls)) calls)
  put-calls c n l cl calls e p d m k dl q = go (d == c) refl (sym (ap (λ o. at m (or_else [] o)) (at-put d c (put n (l, cl) (at_or [] c calls)) calls)) ∙ q)
    where
      go : (b : Bool) → (d == c) ≡ b → at m (or_else [] (cond b (Some (put n (l, cl) (at_or [] c calls))) (at d calls))) ≡ Some (k, dl) → P k d dl
      go false x q = e d m k dl q
      go true x q = subst (λ y. P k y dl) (sym (equal d c x)) (own (m == n) (sym (at-put m n (l, cl) (at_or [] c calls)) ∙ q))
        where
          own : (b : Bool) → cond b (Some (l, cl)) (at m (at_or [] c calls)) ≡ Some (k, dl) → P k c dl
          own true q = let z = same_some q in subst (λ y. P y c dl) (ap (λ y. y.0) z) (subst (λ y. P l c y) (ap (λ y. y.1) z) p)
          own false q = e c m k dl q

  less-calls : (c n : ℕ) (calls : Calls) → EachCall P calls → EachCall P (less_call c n calls)
  less-calls c n calls e d m k dl q = go (d == c) refl (sym (ap (λ o. at m (or_else [] o)) (at-put d c (without n (at_or [] c calls)) calls)) ∙ q)
    where
      go : (b : Bool) → (d == c) ≡ b → at m (or_else [] (cond b (Some (without n (at_or [] c calls))) (at d calls))) ≡ Some (k, dl) → P k d dl
      go false x q = e d m k dl q
      go true x q = subst (λ y. P k y dl) (sym (equal d c x)) (own (m == n) (sym (at-without m n (at_or [] c calls)) ∙ q))
        where
          own : (b : Bool) → cond b None (at m (at_or [] c calls)) ≡ Some (k, dl) → P k c dl
          own true q = absurd (none_some q)
          own false q = e c m k dl q

  none-calls : (c : ℕ) (calls : Calls) → EachCall P calls → EachCall P (without c calls)
  none-calls c calls e d m k dl q = go (d == c) (sym (ap (λ o. at m (or_else [] o)) (at-without d c calls)) ∙ q)
    where
      go : (b : Bool) → at m (or_else [] (cond b None (at d calls))) ≡ Some (k, dl) → P k d dl
      go false q = e d m k dl q
      go true q = absurd (none_some q)

  -- what comes out of a clerk
  out-calls : (c : ℕ) (os : List Out) (calls : Calls) → EachCall P calls → EachLine (IsOf P) (out_lines c os calls) × EachCall P (calls_after c os calls)
  out-calls c [] calls e = (tt, e)
  out-calls c (out.Send m ∷ os) calls e = out-calls c os calls e
  out-calls c (out.Told ns ∷ os) calls e = let r = out-calls c os calls e in ((tt, r.0), r.1)
  out-calls c (out.OldBoot a ∷ os) calls e = out-calls c os calls e
  out-calls c (out.Answer n a op ∷ os) calls e = go (call_of c n calls) (e c n) (λ x f. out-calls c os x f)
    where
      go : (o : Option (ℕ × Call)) → ((l : ℕ) (cl : Call) → o ≡ Some (l, cl) → P l c cl) → ((x : Calls) → EachCall P x → EachLine (IsOf P) (out_lines c os x) × EachCall P (calls_after c os x))
          → EachLine (IsOf P) (elim o as (λ z. List Shown) [ None ↦ out_lines c os calls | Some l ↦ show.Answered l.0 c l.1 a op ∷ out_lines c os (less_call c n calls) ])
          × EachCall P (calls_after c os (elim o as (λ z. Calls) [ None ↦ calls | Some l ↦ less_call c n calls ]))
      go None p more = more calls e
      go (Some l) p more = let r = more (less_call c n calls) (less-calls c n calls e) in ((p l.0 l.1 refl, r.0), r.1)

  -- Steps from a world.

  module _ (w : World) (a : EachCall P w.calls) where
    -- nothing of it changed
    pub quiet-adds : (v : World) → v.calls ≡ w.calls → v.shown ≡ w.shown → AddsCalls P w (moving v)
    quiet-adds v q r = record { lines = r ∙ sym (append-nil w.shown); calls = subst (EachCall P) (sym q) a; piece = tt }

    fails-adds : (f : WorldFault) → AddsCalls P w (world.fails f w)
    fails-adds f = record { lines = sym (append-nil w.shown); calls = a; piece = tt }

  -- a line more
  pub line-adds : (w : World) (m : Moving) → AddsCalls P w m → (s : Shown) → IsOf P s → AddsCalls P w (world.show_line s m)
  line-adds w m t s p = record {
    lines = ap (λ x. x ++ s ∷ []) t.lines ∙ append_assoc w.shown m.shown (s ∷ []);
    calls = t.calls;
    piece = each-line (IsOf P) m.shown (s ∷ []) t.piece (p, tt);
  }

  -- a change of what isn't a line or a call
  with-adds : (w : World) (m : Moving) → AddsCalls P w m → (f : World → World) → (f m.world).calls ≡ m.world.calls → (f m.world).shown ≡ m.world.shown → AddsCalls P w (world.with_world f m)
  with-adds w m t f q r = record { lines = r ∙ t.lines; calls = subst (EachCall P) (sym q) t.calls; piece = t.piece }

  pub nothing-adds : (w : World) → EachCall P w.calls → AddsCalls P w (world.nothing w)
  nothing-adds w a = line-adds w (moving w) (quiet-adds w a w refl refl) show.Nothing tt

  -- what comes out of a clerk's step
  out-adds : (w : World) (c : ℕ) (os : List Out) (m : Moving) → AddsCalls P w m → AddsCalls P w (world.come_out c os m)
  out-adds w c os m t =
      let r = came-out c os m in
      let e = out-calls c os m.world.calls t.calls in
      record {
        lines = r.lines ∙ ap (λ x. x ++ out_lines c os m.world.calls) t.lines ∙ append_assoc w.shown m.shown (out_lines c os m.world.calls) ∙ ap (λ x. w.shown ++ x) (sym r.piece);
        calls = subst (EachCall P) (sym r.calls) e.1;
        piece = subst (EachLine (IsOf P)) (sym r.piece) (each-line (IsOf P) m.shown (out_lines c os m.world.calls) t.piece e.0);
      }

  done-adds : (w : World) (c : ℕ) (d : Doing) (m : Moving) → AddsCalls P w m → (world.clerk_does c d m).fault ≡ None → AddsCalls P w (world.clerk_does c d m)
  done-adds w c d m t f = go d.spent f
    where
      go : (o : Option Counter) → (elim o as (λ z. Moving) [ Some n ↦ world.fails (fault.Spent n) m.world | None ↦ world.come_out c d.outs (world.with_world (λ x. record x { clerks = put c d.clerk x.clerks }) m) ]).fault ≡ None
          → AddsCalls P w (elim o as (λ z. Moving) [ Some n ↦ world.fails (fault.Spent n) m.world | None ↦ world.come_out c d.outs (world.with_world (λ x. record x { clerks = put c d.clerk x.clerks }) m) ])
      go (Some n) f = absurd (none_some (sym f))
      go None f = out-adds w c d.outs (world.with_world (λ x. record x { clerks = put c d.clerk x.clerks }) m) (with-adds w m t (λ x. record x { clerks = put c d.clerk x.clerks }) refl refl)

  -- the server's
  noted-adds : (w : World) (o : Option Noted) (m : Moving) → AddsCalls P w m → AddsCalls P w (world.show_noted o m)
  noted-adds w None m t = t
  noted-adds w (Some (noted_of.Durable c ns)) m t = line-adds w m t (show.Durable c ns) tt
  noted-adds w (Some (noted_of.Ended c b)) m t = line-adds w m t (world.show_ended c b m.world) (go (is_some (watch c m.world.shown).open_start || world.is_running c b m.world))
    where
      go : (z : Bool) → IsOf P (elim z as (λ y. Shown) [ true ↦ show.Ended c ((watch c m.world.shown).undurable) | false ↦ show.Unseen c ])
      go true = tt
      go false = tt

  goes-adds : (w : World) (t : Serving) (m : Moving) → AddsCalls P w m → AddsCalls P w (world.with_world (world.go_on t) m)
  goes-adds w t m a =
      let k : Sends (record (m.world) { server = Some t.server; durable = t.server.durable }) (world.go_on t m.world) t.sent = sends-all t.sent (record (m.world) { server = Some t.server; durable = t.server.durable }) in
      with-adds w m a (world.go_on t) k.calls k.shown

  committed-adds : (w v : World) (fate : Fate) (r : Record) (t : Serving) → AddsCalls P w (moving v) → AddsCalls P w (world.committed fate r t v)
  committed-adds w v runs r t a = goes-adds w t (world.show_noted (world.noted v.durable r) (moving (record v { records = v.records ++ r ∷ [] })))
      (noted-adds w (world.noted v.durable r) (moving (record v { records = v.records ++ r ∷ [] })) (with-adds w (moving v) a (λ x. record x { records = x.records ++ r ∷ [] }) refl refl))
  committed-adds w v stops_without r t a = line-adds w (moving (world.stop v)) (with-adds w (moving v) a world.stop refl refl) show.Stopped tt
  committed-adds w v stops_with r t a = line-adds w (moving (world.on_disk r (record (world.stop v) { unshown = world.noted v.durable r })))
      (with-adds w (moving v) a (λ x. world.on_disk r (record (world.stop x) { unshown = world.noted x.durable r })) refl refl) show.Stopped tt

  served-adds : (w v : World) (fate : Fate) (t : Serving) → AddsCalls P w (moving v) → (world.served fate t v).fault ≡ None → AddsCalls P w (world.served fate t v)
  served-adds w v fate t a f = go t.spent f
    where
      by : (o : Option Record) → AddsCalls P w (world.served_record fate o t v)
      by None = goes-adds w t (moving v) a
      by (Some r) = committed-adds w v fate r t a

      go : (o : Option Counter) → (elim o as (λ z. Moving) [ Some n ↦ world.fails (fault.Spent n) v | None ↦ world.served_record fate t.rec t v ]).fault ≡ None
          → AddsCalls P w (elim o as (λ z. Moving) [ Some n ↦ world.fails (fault.Spent n) v | None ↦ world.served_record fate t.rec t v ])
      go (Some n) f = absurd (none_some (sym f))
      go None f = by t.rec

  pub restart-adds : (fate : Fate) (w : World) → EachCall P w.calls → (world.restart fate w).fault ≡ None → AddsCalls P w (world.restart fate w)
  restart-adds fate w a f = go (server.start w.durable).spent f
    where
      by : (φ : Fate) (t : Serving) → AddsCalls P w (world.restarted φ t w)
      by runs t =
          let m = world.show_line show.Started (world.show_noted w.unshown (moving w)) in
          let b = line-adds w (world.show_noted w.unshown (moving w)) (noted-adds w w.unshown (moving w) (quiet-adds w a w refl refl)) show.Started tt in
          let x = record (m.world) { unshown = None; records = m.world.records ++ record_of.Epoch t.server.durable.epoch ∷ [] } in
          let k : Sends (record x { server = Some t.server; durable = t.server.durable }) (world.go_on t x) t.sent = sends-all t.sent (record x { server = Some t.server; durable = t.server.durable }) in
          with-adds w m b (world.come_up t) k.calls k.shown
      by stops_without t = line-adds w (moving w) (quiet-adds w a w refl refl) show.Stopped tt
      by stops_with t = line-adds w (moving (world.on_disk (record_of.Epoch t.server.durable.epoch) w)) (quiet-adds w a (world.on_disk (record_of.Epoch t.server.durable.epoch) w) refl refl) show.Stopped tt

      go : (o : Option Counter) → (elim o as (λ z. Moving) [ Some n ↦ world.fails (fault.Spent n) w | None ↦ world.restarted fate (server.start w.durable) w ]).fault ≡ None
          → AddsCalls P w (elim o as (λ z. Moving) [ Some n ↦ world.fails (fault.Spent n) w | None ↦ world.restarted fate (server.start w.durable) w ])
      go (Some n) f = absurd (none_some (sym f))
      go None f = by fate (server.start w.durable)

  -- Calls.

  call-on-adds : (w v : World) (c l : ℕ) (cl : Call) (before : List Out) (k : Clerk) → AddsCalls P w (moving v) → P l c cl → (world.call_on c l cl before k v).fault ≡ None → AddsCalls P w (world.call_on c l cl before k v)
  call-on-adds w v c l cl before k t p f = go (begin cl k).spent f
    where
      added : AddsCalls P w (moving (world.add_call c (k.calls + 1) l cl v))
      added = record { lines = t.lines; calls = put-calls c (k.calls + 1) l cl v.calls t.calls p; piece = t.piece }

      waits : (b : Bool) → AddsCalls P w (elim b as (λ z. Moving) [ true ↦ moving (world.add_call c (k.calls + 1) l cl v) | false ↦ world.show_line (show.Waits l c cl) (moving (world.add_call c (k.calls + 1) l cl v)) ])
      waits true = added
      waits false = line-adds w (moving (world.add_call c (k.calls + 1) l cl v)) added (show.Waits l c cl) p

      go : (o : Option Counter) → (elim o as (λ z. Moving) [
        | Some s ↦ world.fails (fault.Spent s) v
        | None ↦ world.clerk_does c (record (begin cl k) { outs = before ++ (begin cl k).outs }) (world.show_waits c (k.calls + 1) l cl (begin cl k).outs (moving (world.add_call c (k.calls + 1) l cl v)))
      ]).fault ≡ None → AddsCalls P w (elim o as (λ z. Moving) [
        | Some s ↦ world.fails (fault.Spent s) v
        | None ↦ world.clerk_does c (record (begin cl k) { outs = before ++ (begin cl k).outs }) (world.show_waits c (k.calls + 1) l cl (begin cl k).outs (moving (world.add_call c (k.calls + 1) l cl v)))
      ])
      go (Some s) f = absurd (none_some (sym f))
      go None f = done-adds w c (record (begin cl k) { outs = before ++ (begin cl k).outs }) (world.show_waits c (k.calls + 1) l cl (begin cl k).outs (moving (world.add_call c (k.calls + 1) l cl v)))
          (waits (list_any (world.is_answer_to (k.calls + 1)) (begin cl k).outs)) f

  call-adds : (w : World) → EachCall P w.calls → (c l : ℕ) (cl : Call) → P l c cl → (world.call c l cl w).fault ≡ None → AddsCalls P w (world.call c l cl w)
  call-adds w a c l cl p f = go (at c w.clerks) f
    where
      starts : (o : Option Counter) → (elim o as (λ z. Moving) [ Some n ↦ world.fails (fault.Spent n) w | None ↦ world.call_on c l cl (start c (world.boot c w + 1)).outs (start c (world.boot c w + 1)).clerk (record w { boots = put c (world.boot c w + 1) w.boots }) ]).fault ≡ None
          → AddsCalls P w (elim o as (λ z. Moving) [ Some n ↦ world.fails (fault.Spent n) w | None ↦ world.call_on c l cl (start c (world.boot c w + 1)).outs (start c (world.boot c w + 1)).clerk (record w { boots = put c (world.boot c w + 1) w.boots }) ])
      starts (Some n) f = absurd (none_some (sym f))
      starts None f = call-on-adds w (record w { boots = put c (world.boot c w + 1) w.boots }) c l cl (start c (world.boot c w + 1)).outs (start c (world.boot c w + 1)).clerk (quiet-adds w a (record w { boots = put c (world.boot c w + 1) w.boots }) refl refl) p f

      go : (o : Option Clerk) → (elim o as (λ z. Moving) [ Some k ↦ world.call_on c l cl [] k w | None ↦ world.start_and_call c l cl w ]).fault ≡ None → AddsCalls P w (elim o as (λ z. Moving) [ Some k ↦ world.call_on c l cl [] k w | None ↦ world.start_and_call c l cl w ])
      go (Some k) f = call-on-adds w w c l cl [] k (quiet-adds w a w refl refl) p f
      go None f = starts (start c (world.boot c w + 1)).spent f

  -- a line that a call waits before it begins, and that it begins behind it
  pub wait-adds : (w : World) → EachCall P w.calls → (c l : ℕ) (cl : Call) → P l c cl → AddsCalls P w (wait c l cl w)
  wait-adds w a c l cl p = line-adds w (moving w) (quiet-adds w a w refl refl) (show.Waits l c cl) p

  pub resume-adds : (w : World) → EachCall P w.calls → (c l : ℕ) (cl : Call) → P l c cl → (resume c l cl w).fault ≡ None → AddsCalls P w (resume c l cl w)
  resume-adds w a c l cl p f = go (at c w.clerks) f
    where
      added : (k : Clerk) → AddsCalls P w (moving (world.add_call c (k.calls + 1) l cl w))
      added k = record { lines = sym (append-nil w.shown); calls = put-calls c (k.calls + 1) l cl w.calls a p; piece = tt }

      by : (k : Clerk) (o : Option Counter) → (elim o as (λ z. Moving) [ Some n ↦ world.fails (fault.Spent n) w | None ↦ world.clerk_does c (begin cl k) (moving (world.add_call c (k.calls + 1) l cl w)) ]).fault ≡ None
          → AddsCalls P w (elim o as (λ z. Moving) [ Some n ↦ world.fails (fault.Spent n) w | None ↦ world.clerk_does c (begin cl k) (moving (world.add_call c (k.calls + 1) l cl w)) ])
      by k (Some n) f = absurd (none_some (sym f))
      by k None f = done-adds w c (begin cl k) (moving (world.add_call c (k.calls + 1) l cl w)) (added k) f

      go : (o : Option Clerk) → (resume_on c l cl o w).fault ≡ None → AddsCalls P w (resume_on c l cl o w)
      go None f = quiet-adds w a w refl refl
      go (Some k) f = by k (begin cl k).spent f

  -- Each event.

  choose : (w : World) (b : Bool) (m n : Moving) → AddsCalls P w m → AddsCalls P w n → AddsCalls P w (elim b as (λ z. Moving) [ true ↦ m | false ↦ n ])
  choose w true m n x y = x
  choose w false m n x y = y

  kept-adds : (n : ℕ) (m : Moving) (w : World) → AddsCalls P w m → (world.kept_or n m w).fault ≡ None → AddsCalls P w (world.kept_or n m w)
  kept-adds n m w t f = go (at n w.pool) f
    where
      go : (o : Option Sent) → (elim o as (λ z. Moving) [ None ↦ world.fails fault.NoSuchMsg w | Some s ↦ m ]).fault ≡ None → AddsCalls P w (elim o as (λ z. Moving) [ None ↦ world.fails fault.NoSuchMsg w | Some s ↦ m ])
      go None f = absurd (none_some (sym f))
      go (Some s) f = t

  pub deliver-adds : (fate : Fate) (n : ℕ) (w : World) → EachCall P w.calls → (world.deliver fate n w).fault ≡ None → AddsCalls P w (world.deliver fate n w)
  deliver-adds fate n w a f = go (at n w.pool) f
    where
      to-clerk : (s : Sent) (o : Option Clerk) → (world.to_clerk s.clerk s.msg o (world.settled n w)).fault ≡ None → AddsCalls P w (world.to_clerk s.clerk s.msg o (world.settled n w))
      to-clerk s None f = quiet-adds w a (world.settled n w) refl refl
      to-clerk s (Some k) f = done-adds w s.clerk (take_message s.msg k) (moving (world.settled n w)) (quiet-adds w a (world.settled n w) refl refl) f

      to-server : (s : Sent) (o : Option Server) → (world.to_server fate n s o w).fault ≡ None → AddsCalls P w (world.to_server fate n s o w)
      to-server s None f = nothing-adds w a
      to-server s (Some v) f = served-adds w (world.settled n w) fate (server.take s.clerk s.msg v) (quiet-adds w a (world.settled n w) refl refl) f

      to : (s : Sent) (b : Bool) → (elim b as (λ z. Moving) [ true ↦ world.to_server fate n s w.server w | false ↦ world.to_clerk s.clerk s.msg (at s.clerk w.clerks) (world.settled n w) ]).fault ≡ None
          → AddsCalls P w (elim b as (λ z. Moving) [ true ↦ world.to_server fate n s w.server w | false ↦ world.to_clerk s.clerk s.msg (at s.clerk w.clerks) (world.settled n w) ])
      to s true f = to-server s w.server f
      to s false f = to-clerk s (at s.clerk w.clerks) f

      go : (o : Option Sent) → (elim o as (λ z. Moving) [ None ↦ world.fails fault.NoSuchMsg w | Some s ↦ world.deliver_to fate n s w ]).fault ≡ None → AddsCalls P w (elim o as (λ z. Moving) [ None ↦ world.fails fault.NoSuchMsg w | Some s ↦ world.deliver_to fate n s w ])
      go None f = absurd (none_some (sym f))
      go (Some s) f = to s (world.is_for_server s) f

  push-adds : (w : World) → EachCall P w.calls → (c n : ℕ) (o : Option Clerk) → (world.push c n o w).fault ≡ None → AddsCalls P w (world.push c n o w)
  push-adds w a c n None f = absurd (none_some (sym f))
  push-adds w a c n (Some k) f = go (has_issued n k) f
    where
      may : (b : Bool) → (elim b as (λ z. Moving) [ true ↦ world.clerk_does c (push n k) (moving w) | false ↦ world.nothing w ]).fault ≡ None → AddsCalls P w (elim b as (λ z. Moving) [ true ↦ world.clerk_does c (push n k) (moving w) | false ↦ world.nothing w ])
      may true f = done-adds w c (push n k) (moving w) (quiet-adds w a w refl refl) f
      may false f = nothing-adds w a

      go : (b : Bool) → (elim b as (λ z. Moving) [ false ↦ world.fails fault.NoSuchOp w | true ↦ elim (world.is_undurable c n w) as (λ z. Moving) [ true ↦ world.clerk_does c (push n k) (moving w) | false ↦ world.nothing w ] ]).fault ≡ None
          → AddsCalls P w (elim b as (λ z. Moving) [ false ↦ world.fails fault.NoSuchOp w | true ↦ elim (world.is_undurable c n w) as (λ z. Moving) [ true ↦ world.clerk_does c (push n k) (moving w) | false ↦ world.nothing w ] ])
      go false f = absurd (none_some (sym f))
      go true f = may (world.is_undurable c n w) f

  end-adds : (fate : Fate) (w : World) → EachCall P w.calls → (c : ℕ) (o : Option Server) → (world.end fate c o w).fault ≡ None → AddsCalls P w (world.end fate c o w)
  end-adds fate w a c None f = nothing-adds w a
  end-adds fate w a c (Some v) f = go (is_open (slot v.durable c)) f
    where
      go : (b : Bool) → (elim b as (λ z. Moving) [ true ↦ world.served fate (server.end c v) w | false ↦ world.nothing w ]).fault ≡ None → AddsCalls P w (elim b as (λ z. Moving) [ true ↦ world.served fate (server.end c v) w | false ↦ world.nothing w ])
      go true f = served-adds w w fate (server.end c v) (quiet-adds w a w refl refl) f
      go false f = nothing-adds w a

  resend-adds : (w : World) → EachCall P w.calls → (c : ℕ) (o : Option Clerk) → (world.resend c o w).fault ≡ None → AddsCalls P w (world.resend c o w)
  resend-adds w a c None f = nothing-adds w a
  resend-adds w a c (Some k) f = done-adds w c (resend k) (moving w) (quiet-adds w a w refl refl) f

  crash-adds : (w : World) → EachCall P w.calls → (c : ℕ) (o : Option Clerk) → AddsCalls P w (world.crash c o w)
  crash-adds w a c None = nothing-adds w a
  crash-adds w a c (Some k) = line-adds w (moving (record w { clerks = without c w.clerks; calls = without c w.calls }))
      (record { lines = sym (append-nil w.shown); calls = none-calls c w.calls a; piece = tt }) (show.Crashed c) tt

  stop-adds : (w : World) → EachCall P w.calls → (o : Option Server) → AddsCalls P w (world.stop_server o w)
  stop-adds w a None = nothing-adds w a
  stop-adds w a (Some v) = line-adds w (moving (world.stop w)) (quiet-adds w a (world.stop w) refl refl) show.Stopped tt

  up-adds : (fate : Fate) (w : World) → EachCall P w.calls → (o : Option Server) → (world.restart_server fate o w).fault ≡ None → AddsCalls P w (world.restart_server fate o w)
  up-adds fate w a (Some v) f = nothing-adds w a
  up-adds fate w a None f = restart-adds fate w a f

  pub event-adds : (fate : Fate) (e : Event) (w : World) → EachCall P w.calls → MayBe P e → (world.happen fate e w).fault ≡ None → AddsCalls P w (world.happen fate e w)
  event-adds fate (event.Call c l cl) w a p f = call-adds w a c l cl p f
  event-adds fate (event.Push c n) w a p f = push-adds w a c n (at c w.clerks) f
  event-adds fate (event.Resend c) w a p f = resend-adds w a c (at c w.clerks) f
  event-adds fate (event.Cut c) w a p f = choose w (member c w.cut) (world.nothing w) (moving (record w { cut = c ∷ w.cut })) (nothing-adds w a) (quiet-adds w a (record w { cut = c ∷ w.cut }) refl refl)
  event-adds fate (event.Uncut c) w a p f =
      let v = record w { cut = filter (λ d. not (d == c)) w.cut } in
      choose w (member c w.cut) (moving v) (world.nothing w) (quiet-adds w a v refl refl) (nothing-adds w a)
  event-adds fate (event.Drop n) w a p f = kept-adds n (elim (world.is_pending n w) as (λ z. Moving) [ true ↦ moving (world.settled n w) | false ↦ world.nothing w ]) w
      (choose w (world.is_pending n w) (moving (world.settled n w)) (world.nothing w) (quiet-adds w a (world.settled n w) refl refl) (nothing-adds w a)) f
  event-adds fate (event.Repeat n) w a p f =
      let v = record w { pending = elim (world.is_pending n w) as (λ z. List ℕ) [ true ↦ w.pending | false ↦ world.among n w.pending ] } in
      kept-adds n (moving v) w (quiet-adds w a v refl refl) f
  event-adds fate (event.Deliver n) w a p f = deliver-adds fate n w a f
  event-adds fate (event.Crash c) w a p f = crash-adds w a c (at c w.clerks)
  event-adds fate (event.End c) w a p f = end-adds fate w a c w.server f
  event-adds fate event.Stop w a p f = stop-adds w a w.server
  event-adds fate (event.Arm n ch) w a p f = quiet-adds w a (record w { choice = ch }) refl refl
  event-adds fate event.Restart w a p f = up-adds fate w a w.server f

  -- What this makes of all lines and calls.
  pub adds-of : (w : World) (m : Moving) → AreOf P w → AddsCalls P w m → AreOf P m.world
  adds-of w m a t = record { calls = t.calls; shown = subst (EachLine (IsOf P)) (sym t.lines) (each-line (IsOf P) w.shown m.shown a.shown t.piece) }
