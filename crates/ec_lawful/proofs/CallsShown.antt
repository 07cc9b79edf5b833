-- The lines that a world shows in each event, and whose calls they are.
use Rattle.std.proofs.Common.{◌≡◌, refl, sym, ap, subst, ◌∙◌, inl, inr, ◌⊎◌, ◌+◌, ℕ, T, Bool, true, false, not, ◌==◌, ◌&&◌, ◌||◌, cond, List, [], ◌∷◌, ◌++◌, Option, Some, None, append-nil, append_assoc}
use Rattle.std.specs.Prelude.{is_some, ⊤}
use Rattle.std.specs.List.{filter, list_any}
use Rattle.ec_base.specs.Tables.{Table, at, at_or, or_else, put, without, keys}
use Rattle.ec_base.specs.declared.counter.Counter.{Counter}
use Rattle.ec_plain.specs.declared.call.Call.{Call}
use Rattle.ec_history.specs.Placing.{EachLine, watch}
use Rattle.ec_history.specs.declared.shown.Shown.{Shown}
use Rattle.ec_history.specs.declared.shown.Shown.TheVariants as show
use Rattle.ec_sessions.specs.Slots.{is_open}
use Rattle.ec_volume.specs.Update.{member}
use Rattle.ec_durable.specs.Durable.{slot}
use Rattle.ec_durable.specs.declared.record.Record.{Record}
use Rattle.ec_durable.specs.declared.record.Record.TheVariants as record_of
use Rattle.ec_protocol.specs.Clerk.{Doing, begin, has_issued, push, resend, start, take as take_message}
use Rattle.ec_protocol.specs.Server.{Serving}
use Rattle.ec_protocol.specs.Server as server
use Rattle.ec_protocol.specs.World as world
use Rattle.ec_protocol.specs.World.{Fate, runs, stops_with, stops_without, Moving, moving}
use Rattle.ec_protocol.specs.declared.clerk.Clerk.{Clerk}
use Rattle.ec_protocol.specs.declared.clerk.Out.{Out}
use Rattle.ec_protocol.specs.declared.clerk.Out.TheVariants as out
use Rattle.ec_protocol.specs.declared.server.Server.{Server}
use Rattle.ec_protocol.specs.declared.world.Event.{Event}
use Rattle.ec_protocol.specs.declared.world.Event.TheVariants as event
use Rattle.ec_protocol.specs.declared.world.Noted.{Noted}
use Rattle.ec_protocol.specs.declared.world.Noted.TheVariants as noted_of
use Rattle.ec_protocol.specs.declared.world.Sent.{Sent}
use Rattle.ec_protocol.specs.declared.world.World.{World}
use Rattle.ec_protocol.specs.declared.world.WorldFault.{WorldFault}
use Rattle.ec_protocol.specs.declared.world.WorldFault.TheVariants as fault
use Rattle.ec_coherence.specs.Steps.{call_of, calls_after, less_call, out_lines}
use Rattle.ec_coherence.proofs.ForServer.Tables.{at-put, at-without, same_some}
use Rattle.ec_lawful.specs.Calls.{AreOf, EachCall, IsOf, TellsLines}
use Rattle.ec_lawful.proofs.ForWhole.Outs.{Calls, Came, came-out}
use Rattle.ec_lawful.proofs.ForWhole.Pool.{Sends, sends-all}
use Rattle.ec_base.proofs.Options.{none_some}
use Rattle.ec_base.proofs.Numbers.{equal}

pub each-line : (Q : Shown → Type 0) (xs ys : List Shown) → EachLine Q xs → EachLine Q ys → EachLine Q (xs ++ ys)
each-line Q [] ys a b = b
each-line Q (x ∷ xs) ys a b = (a.0, each-line Q xs ys a.1 b)

module _ (P : ℕ → ℕ → Call → Type 0) where
  -- Calls under way: one comes, one goes, a clerk's all go.
  put-calls : (c n l : ℕ) (cl : Call) (calls : Calls) → EachCall P calls → P l c cl → EachCall P (put c (put n (l, cl) (at_or [] c calls)) calls)
  put-calls c n l cl calls e p d m k dl q = go (d == c) refl (sym (ap (λ o. at m (or_else [] o)) (at-put d c (put n (l, cl) (at_or [] c calls)) calls)) ∙ q)
    where
      go : (b : Bool) → (d == c) ≡ b → at m (or_else [] (cond b (Some (put n (l, cl) (at_or [] c calls))) (at d calls))) ≡ Some (k, dl) → P k d dl
      go false x q = e d m k dl q
      go true x q = subst (λ y. P k y dl) (sym (equal d c x)) (own (m == n) (sym (at-put m n (l, cl) (at_or [] c calls)) ∙ q))
        where
          own : (b : Bool) → cond b (Some (l, cl)) (at m (at_or [] c calls)) ≡ Some (k, dl) → P k c dl
          own true q = let z = same_some q in subst (λ y. P y c dl) (ap (λ y. y.0) z) (subst (λ y. P l c y) (ap (λ y. y.1) z) p)
          own false q = e c m k dl q

  less-calls : (c n : ℕ) (calls : Calls) → EachCall P calls → EachCall P (less_call c n calls)
  less-calls c n calls e d m k dl q = go (d == c) refl (sym (ap (λ o. at m (or_else [] o)) (at-put d c (without n (at_or [] c calls)) calls)) ∙ q)
    where
      go : (b : Bool) → (d == c) ≡ b → at m (or_else [] (cond b (Some (without n (at_or [] c calls))) (at d calls))) ≡ Some (k, dl) → P k d dl
      go false x q = e d m k dl q
      go true x q = subst (λ y. P k y dl) (sym (equal d c x)) (own (m == n) (sym (at-without m n (at_or [] c calls)) ∙ q))
        where
          own : (b : Bool) → cond b None (at m (at_or [] c calls)) ≡ Some (k, dl) → P k c dl
          own true q = absurd (none_some q)
          own false q = e c m k dl q

  none-calls : (c : ℕ) (calls : Calls) → EachCall P calls → EachCall P (without c calls)
  none-calls c calls e d m k dl q = go (d == c) (sym (ap (λ o. at m (or_else [] o)) (at-without d c calls)) ∙ q)
    where
      go : (b : Bool) → at m (or_else [] (cond b None (at d calls))) ≡ Some (k, dl) → P k d dl
      go false q = e d m k dl q
      go true q = absurd (none_some q)

  -- what comes out of a clerk
  out-calls : (c : ℕ) (os : List Out) (calls : Calls) → EachCall P calls → EachLine (IsOf P) (out_lines c os calls) × EachCall P (calls_after c os calls)
  out-calls c [] calls e = (tt, e)
  out-calls c (out.Send m ∷ os) calls e = out-calls c os calls e
  out-calls c (out.Told ns ∷ os) calls e = let r = out-calls c os calls e in ((tt, r.0), r.1)
  out-calls c (out.OldBoot a ∷ os) calls e = out-calls c os calls e
  out-calls c (out.Answer n a op ∷ os) calls e = go (call_of c n calls) (e c n) (λ x f. out-calls c os x f)
    where
      go : (o : Option (ℕ × Call)) → ((l : ℕ) (cl : Call) → o ≡ Some (l, cl) → P l c cl) → ((x : Calls) → EachCall P x → EachLine (IsOf P) (out_lines c os x) × EachCall P (calls_after c os x))
          → EachLine (IsOf P) (elim o as (λ z. List Shown) [ None ↦ out_lines c os calls | Some l ↦ show.Answered l.0 c l.1 a op ∷ out_lines c os (less_call c n calls) ])
          × EachCall P (calls_after c os (elim o as (λ z. Calls) [ None ↦ calls | Some l ↦ less_call c n calls ]))
      go None p more = more calls e
      go (Some l) p more = let r = more (less_call c n calls) (less-calls c n calls e) in ((p l.0 l.1 refl, r.0), r.1)

  -- Steps from a world.

  module _ (w : World) (a : AreOf P w) where
    -- nothing of it changed
    pub quiet-tells : (v : World) → v.calls ≡ w.calls → v.shown ≡ w.shown → TellsLines P w (moving v)
    quiet-tells v q r = record { lines = r ∙ sym (append-nil w.shown); of = record { calls = subst (EachCall P) (sym q) a.calls; shown = subst (EachLine (IsOf P)) (sym r) a.shown } }

    fails-tells : (f : WorldFault) → TellsLines P w (world.fails f w)
    fails-tells f = record { lines = sym (append-nil w.shown); of = a }

  -- a line more
  pub line-tells : (w : World) (m : Moving) → TellsLines P w m → (s : Shown) → IsOf P s → TellsLines P w (world.show_line s m)
  line-tells w m t s p = record {
    lines = ap (λ x. x ++ s ∷ []) t.lines ∙ append_assoc w.shown m.shown (s ∷ []);
    of = record { calls = t.of.calls; shown = each-line (IsOf P) m.world.shown (s ∷ []) t.of.shown (p, tt) };
  }

  -- a change of what isn't a line or a call
  with-tells : (w : World) (m : Moving) → TellsLines P w m → (f : World → World) → (f m.world).calls ≡ m.world.calls → (f m.world).shown ≡ m.world.shown → TellsLines P w (world.with_world f m)
  with-tells w m t f q r = record { lines = r ∙ t.lines; of = record { calls = subst (EachCall P) (sym q) t.of.calls; shown = subst (EachLine (IsOf P)) (sym r) t.of.shown } }

  nothing-tells : (w : World) → AreOf P w → TellsLines P w (world.nothing w)
  nothing-tells w a = line-tells w (moving w) (quiet-tells w a w refl refl) show.Nothing tt

  -- what comes out of a clerk's step
  out-tells : (w : World) (c : ℕ) (os : List Out) (m : Moving) → TellsLines P w m → TellsLines P w (world.come_out c os m)
  out-tells w c os m t =
      let r = came-out c os m in
      let e = out-calls c os m.world.calls t.of.calls in
      record {
        lines = r.lines ∙ ap (λ x. x ++ out_lines c os m.world.calls) t.lines ∙ append_assoc w.shown m.shown (out_lines c os m.world.calls) ∙ ap (λ x. w.shown ++ x) (sym r.piece);
        of = record { calls = subst (EachCall P) (sym r.calls) e.1; shown = subst (EachLine (IsOf P)) (sym r.lines) (each-line (IsOf P) m.world.shown (out_lines c os m.world.calls) t.of.shown e.0) };
      }

  done-tells : (w : World) (c : ℕ) (d : Doing) (m : Moving) → TellsLines P w m → (world.clerk_does c d m).fault ≡ None → TellsLines P w (world.clerk_does c d m)
  done-tells w c d m t f = go d.spent f
    where
      go : (o : Option Counter) → (elim o as (λ z. Moving) [ Some n ↦ world.fails (fault.Spent n) m.world | None ↦ world.come_out c d.outs (world.with_world (λ x. record x { clerks = put c d.clerk x.clerks }) m) ]).fault ≡ None
          → TellsLines P w (elim o as (λ z. Moving) [ Some n ↦ world.fails (fault.Spent n) m.world | None ↦ world.come_out c d.outs (world.with_world (λ x. record x { clerks = put c d.clerk x.clerks }) m) ])
      go (Some n) f = absurd (none_some (sym f))
      go None f = out-tells w c d.outs (world.with_world (λ x. record x { clerks = put c d.clerk x.clerks }) m) (with-tells w m t (λ x. record x { clerks = put c d.clerk x.clerks }) refl refl)

  -- the server's
  noted-tells : (w : World) (o : Option Noted) (m : Moving) → TellsLines P w m → TellsLines P w (world.show_noted o m)
  noted-tells w None m t = t
  noted-tells w (Some (noted_of.Durable c ns)) m t = line-tells w m t (show.Durable c ns) tt
  noted-tells w (Some (noted_of.Ended c b)) m t = line-tells w m t (world.show_ended c b m.world) (go (is_some (watch c m.world.shown).open_start || world.is_running c b m.world))
    where
      go : (z : Bool) → IsOf P (elim z as (λ y. Shown) [ true ↦ show.Ended c ((watch c m.world.shown).undurable) | false ↦ show.Unseen c ])
      go true = tt
      go false = tt

  goes-tells : (w : World) (t : Serving) (m : Moving) → TellsLines P w m → TellsLines P w (world.with_world (world.go_on t) m)
  goes-tells w t m a =
      let k : Sends (record (m.world) { server = Some t.server; durable = t.server.durable }) (world.go_on t m.world) t.sent = sends-all t.sent (record (m.world) { server = Some t.server; durable = t.server.durable }) in
      with-tells w m a (world.go_on t) k.calls k.shown

  committed-tells : (w v : World) (fate : Fate) (r : Record) (t : Serving) → TellsLines P w (moving v) → TellsLines P w (world.committed fate r t v)
  committed-tells w v runs r t a = goes-tells w t (world.show_noted (world.noted v.durable r) (moving (record v { records = v.records ++ r ∷ [] })))
      (noted-tells w (world.noted v.durable r) (moving (record v { records = v.records ++ r ∷ [] })) (with-tells w (moving v) a (λ x. record x { records = x.records ++ r ∷ [] }) refl refl))
  committed-tells w v stops_without r t a = line-tells w (moving (world.stop v)) (with-tells w (moving v) a world.stop refl refl) show.Stopped tt
  committed-tells w v stops_with r t a = line-tells w (moving (world.on_disk r (record (world.stop v) { unshown = world.noted v.durable r })))
      (with-tells w (moving v) a (λ x. world.on_disk r (record (world.stop x) { unshown = world.noted x.durable r })) refl refl) show.Stopped tt

  served-tells : (w v : World) (fate : Fate) (t : Serving) → TellsLines P w (moving v) → (world.served fate t v).fault ≡ None → TellsLines P w (world.served fate t v)
  served-tells w v fate t a f = go t.spent f
    where
      by : (o : Option Record) → TellsLines P w (world.served_record fate o t v)
      by None = goes-tells w t (moving v) a
      by (Some r) = committed-tells w v fate r t a

      go : (o : Option Counter) → (elim o as (λ z. Moving) [ Some n ↦ world.fails (fault.Spent n) v | None ↦ world.served_record fate t.rec t v ]).fault ≡ None
          → TellsLines P w (elim o as (λ z. Moving) [ Some n ↦ world.fails (fault.Spent n) v | None ↦ world.served_record fate t.rec t v ])
      go (Some n) f = absurd (none_some (sym f))
      go None f = by t.rec

  pub restart-tells : (fate : Fate) (w : World) → AreOf P w → (world.restart fate w).fault ≡ None → TellsLines P w (world.restart fate w)
  restart-tells fate w a f = go (server.start w.durable).spent f
    where
      by : (φ : Fate) (t : Serving) → TellsLines P w (world.restarted φ t w)
      by runs t =
          let m = world.show_line show.Started (world.show_noted w.unshown (moving w)) in
          let b = line-tells w (world.show_noted w.unshown (moving w)) (noted-tells w w.unshown (moving w) (quiet-tells w a w refl refl)) show.Started tt in
          let x = record (m.world) { unshown = None; records = m.world.records ++ record_of.Epoch t.server.durable.epoch ∷ [] } in
          let k : Sends (record x { server = Some t.server; durable = t.server.durable }) (world.go_on t x) t.sent = sends-all t.sent (record x { server = Some t.server; durable = t.server.durable }) in
          with-tells w m b (world.come_up t) k.calls k.shown
      by stops_without t = line-tells w (moving w) (quiet-tells w a w refl refl) show.Stopped tt
      by stops_with t = line-tells w (moving (world.on_disk (record_of.Epoch t.server.durable.epoch) w)) (quiet-tells w a (world.on_disk (record_of.Epoch t.server.durable.epoch) w) refl refl) show.Stopped tt

      go : (o : Option Counter) → (elim o as (λ z. Moving) [ Some n ↦ world.fails (fault.Spent n) w | None ↦ world.restarted fate (server.start w.durable) w ]).fault ≡ None
          → TellsLines P w (elim o as (λ z. Moving) [ Some n ↦ world.fails (fault.Spent n) w | None ↦ world.restarted fate (server.start w.durable) w ])
      go (Some n) f = absurd (none_some (sym f))
      go None f = by fate (server.start w.durable)

  -- Calls.

  call-on-tells : (w v : World) (c l : ℕ) (cl : Call) (before : List Out) (k : Clerk) → TellsLines P w (moving v) → P l c cl → (world.call_on c l cl before k v).fault ≡ None → TellsLines P w (world.call_on c l cl before k v)
  call-on-tells w v c l cl before k t p f = go (begin cl k).spent f
    where
      added : TellsLines P w (moving (world.add_call c (k.calls + 1) l cl v))
      added = record { lines = t.lines; of = record { calls = put-calls c (k.calls + 1) l cl v.calls t.of.calls p; shown = t.of.shown } }

      waits : (b : Bool) → TellsLines P w (elim b as (λ z. Moving) [ true ↦ moving (world.add_call c (k.calls + 1) l cl v) | false ↦ world.show_line (show.Waits l c cl) (moving (world.add_call c (k.calls + 1) l cl v)) ])
      waits true = added
      waits false = line-tells w (moving (world.add_call c (k.calls + 1) l cl v)) added (show.Waits l c cl) p

      go : (o : Option Counter) → (elim o as (λ z. Moving) [
        | Some s ↦ world.fails (fault.Spent s) v
        | None ↦ world.clerk_does c (record (begin cl k) { outs = before ++ (begin cl k).outs }) (world.show_waits c (k.calls + 1) l cl (begin cl k).outs (moving (world.add_call c (k.calls + 1) l cl v)))
      ]).fault ≡ None → TellsLines P w (elim o as (λ z. Moving) [
        | Some s ↦ world.fails (fault.Spent s) v
        | None ↦ world.clerk_does c (record (begin cl k) { outs = before ++ (begin cl k).outs }) (world.show_waits c (k.calls + 1) l cl (begin cl k).outs (moving (world.add_call c (k.calls + 1) l cl v)))
      ])
      go (Some s) f = absurd (none_some (sym f))
      go None f = done-tells w c (record (begin cl k) { outs = before ++ (begin cl k).outs }) (world.show_waits c (k.calls + 1) l cl (begin cl k).outs (moving (world.add_call c (k.calls + 1) l cl v)))
          (waits (list_any (world.is_answer_to (k.calls + 1)) (begin cl k).outs)) f

  call-tells : (w : World) → AreOf P w → (c l : ℕ) (cl : Call) → P l c cl → (world.call c l cl w).fault ≡ None → TellsLines P w (world.call c l cl w)
  call-tells w a c l cl p f = go (at c w.clerks) f
    where
      starts : (o : Option Counter) → (elim o as (λ z. Moving) [ Some n ↦ world.fails (fault.Spent n) w | None ↦ world.call_on c l cl (start c (world.boot c w + 1)).outs (start c (world.boot c w + 1)).clerk (record w { boots = put c (world.boot c w + 1) w.boots }) ]).fault ≡ None
          → TellsLines P w (elim o as (λ z. Moving) [ Some n ↦ world.fails (fault.Spent n) w | None ↦ world.call_on c l cl (start c (world.boot c w + 1)).outs (start c (world.boot c w + 1)).clerk (record w { boots = put c (world.boot c w + 1) w.boots }) ])
      starts (Some n) f = absurd (none_some (sym f))
      starts None f = call-on-tells w (record w { boots = put c (world.boot c w + 1) w.boots }) c l cl (start c (world.boot c w + 1)).outs (start c (world.boot c w + 1)).clerk (quiet-tells w a (record w { boots = put c (world.boot c w + 1) w.boots }) refl refl) p f

      go : (o : Option Clerk) → (elim o as (λ z. Moving) [ Some k ↦ world.call_on c l cl [] k w | None ↦ world.start_and_call c l cl w ]).fault ≡ None → TellsLines P w (elim o as (λ z. Moving) [ Some k ↦ world.call_on c l cl [] k w | None ↦ world.start_and_call c l cl w ])
      go (Some k) f = call-on-tells w w c l cl [] k (quiet-tells w a w refl refl) p f
      go None f = starts (start c (world.boot c w + 1)).spent f

  -- Each event.

  abbrev pub MayBe : Event → Type 0
  MayBe (event.Call c l cl) = P l c cl
  MayBe _ = ⊤

  choose : (w : World) (b : Bool) (m n : Moving) → TellsLines P w m → TellsLines P w n → TellsLines P w (elim b as (λ z. Moving) [ true ↦ m | false ↦ n ])
  choose w true m n x y = x
  choose w false m n x y = y

  kept-tells : (n : ℕ) (m : Moving) (w : World) → TellsLines P w m → (world.kept_or n m w).fault ≡ None → TellsLines P w (world.kept_or n m w)
  kept-tells n m w t f = go (at n w.pool) f
    where
      go : (o : Option Sent) → (elim o as (λ z. Moving) [ None ↦ world.fails fault.NoSuchMsg w | Some s ↦ m ]).fault ≡ None → TellsLines P w (elim o as (λ z. Moving) [ None ↦ world.fails fault.NoSuchMsg w | Some s ↦ m ])
      go None f = absurd (none_some (sym f))
      go (Some s) f = t

  pub deliver-tells : (fate : Fate) (n : ℕ) (w : World) → AreOf P w → (world.deliver fate n w).fault ≡ None → TellsLines P w (world.deliver fate n w)
  deliver-tells fate n w a f = go (at n w.pool) f
    where
      to-clerk : (s : Sent) (o : Option Clerk) → (world.to_clerk s.clerk s.msg o (world.settled n w)).fault ≡ None → TellsLines P w (world.to_clerk s.clerk s.msg o (world.settled n w))
      to-clerk s None f = quiet-tells w a (world.settled n w) refl refl
      to-clerk s (Some k) f = done-tells w s.clerk (take_message s.msg k) (moving (world.settled n w)) (quiet-tells w a (world.settled n w) refl refl) f

      to-server : (s : Sent) (o : Option Server) → (world.to_server fate n s o w).fault ≡ None → TellsLines P w (world.to_server fate n s o w)
      to-server s None f = nothing-tells w a
      to-server s (Some v) f = served-tells w (world.settled n w) fate (server.take s.clerk s.msg v) (quiet-tells w a (world.settled n w) refl refl) f

      to : (s : Sent) (b : Bool) → (elim b as (λ z. Moving) [ true ↦ world.to_server fate n s w.server w | false ↦ world.to_clerk s.clerk s.msg (at s.clerk w.clerks) (world.settled n w) ]).fault ≡ None
          → TellsLines P w (elim b as (λ z. Moving) [ true ↦ world.to_server fate n s w.server w | false ↦ world.to_clerk s.clerk s.msg (at s.clerk w.clerks) (world.settled n w) ])
      to s true f = to-server s w.server f
      to s false f = to-clerk s (at s.clerk w.clerks) f

      go : (o : Option Sent) → (elim o as (λ z. Moving) [ None ↦ world.fails fault.NoSuchMsg w | Some s ↦ world.deliver_to fate n s w ]).fault ≡ None → TellsLines P w (elim o as (λ z. Moving) [ None ↦ world.fails fault.NoSuchMsg w | Some s ↦ world.deliver_to fate n s w ])
      go None f = absurd (none_some (sym f))
      go (Some s) f = to s (world.is_for_server s) f

  push-tells : (w : World) → AreOf P w → (c n : ℕ) (o : Option Clerk) → (world.push c n o w).fault ≡ None → TellsLines P w (world.push c n o w)
  push-tells w a c n None f = absurd (none_some (sym f))
  push-tells w a c n (Some k) f = go (has_issued n k) f
    where
      may : (b : Bool) → (elim b as (λ z. Moving) [ true ↦ world.clerk_does c (push n k) (moving w) | false ↦ world.nothing w ]).fault ≡ None → TellsLines P w (elim b as (λ z. Moving) [ true ↦ world.clerk_does c (push n k) (moving w) | false ↦ world.nothing w ])
      may true f = done-tells w c (push n k) (moving w) (quiet-tells w a w refl refl) f
      may false f = nothing-tells w a

      go : (b : Bool) → (elim b as (λ z. Moving) [ false ↦ world.fails fault.NoSuchOp w | true ↦ elim (world.is_undurable c n w) as (λ z. Moving) [ true ↦ world.clerk_does c (push n k) (moving w) | false ↦ world.nothing w ] ]).fault ≡ None
          → TellsLines P w (elim b as (λ z. Moving) [ false ↦ world.fails fault.NoSuchOp w | true ↦ elim (world.is_undurable c n w) as (λ z. Moving) [ true ↦ world.clerk_does c (push n k) (moving w) | false ↦ world.nothing w ] ])
      go false f = absurd (none_some (sym f))
      go true f = may (world.is_undurable c n w) f

  end-tells : (fate : Fate) (w : World) → AreOf P w → (c : ℕ) (o : Option Server) → (world.end fate c o w).fault ≡ None → TellsLines P w (world.end fate c o w)
  end-tells fate w a c None f = nothing-tells w a
  end-tells fate w a c (Some v) f = go (is_open (slot v.durable c)) f
    where
      go : (b : Bool) → (elim b as (λ z. Moving) [ true ↦ world.served fate (server.end c v) w | false ↦ world.nothing w ]).fault ≡ None → TellsLines P w (elim b as (λ z. Moving) [ true ↦ world.served fate (server.end c v) w | false ↦ world.nothing w ])
      go true f = served-tells w w fate (server.end c v) (quiet-tells w a w refl refl) f
      go false f = nothing-tells w a

  resend-tells : (w : World) → AreOf P w → (c : ℕ) (o : Option Clerk) → (world.resend c o w).fault ≡ None → TellsLines P w (world.resend c o w)
  resend-tells w a c None f = nothing-tells w a
  resend-tells w a c (Some k) f = done-tells w c (resend k) (moving w) (quiet-tells w a w refl refl) f

  crash-tells : (w : World) → AreOf P w → (c : ℕ) (o : Option Clerk) → TellsLines P w (world.crash c o w)
  crash-tells w a c None = nothing-tells w a
  crash-tells w a c (Some k) = line-tells w (moving (record w { clerks = without c w.clerks; calls = without c w.calls }))
      (record { lines = sym (append-nil w.shown); of = record { calls = none-calls c w.calls a.calls; shown = a.shown } }) (show.Crashed c) tt

  stop-tells : (w : World) → AreOf P w → (o : Option Server) → TellsLines P w (world.stop_server o w)
  stop-tells w a None = nothing-tells w a
  stop-tells w a (Some v) = line-tells w (moving (world.stop w)) (quiet-tells w a (world.stop w) refl refl) show.Stopped tt

  up-tells : (fate : Fate) (w : World) → AreOf P w → (o : Option Server) → (world.restart_server fate o w).fault ≡ None → TellsLines P w (world.restart_server fate o w)
  up-tells fate w a (Some v) f = nothing-tells w a
  up-tells fate w a None f = restart-tells fate w a f

  pub event-tells : (fate : Fate) (e : Event) (w : World) → AreOf P w → MayBe e → (world.happen fate e w).fault ≡ None → TellsLines P w (world.happen fate e w)
  event-tells fate (event.Call c l cl) w a p f = call-tells w a c l cl p f
  event-tells fate (event.Push c n) w a p f = push-tells w a c n (at c w.clerks) f
  event-tells fate (event.Resend c) w a p f = resend-tells w a c (at c w.clerks) f
  event-tells fate (event.Cut c) w a p f = choose w (member c w.cut) (world.nothing w) (moving (record w { cut = c ∷ w.cut })) (nothing-tells w a) (quiet-tells w a (record w { cut = c ∷ w.cut }) refl refl)
  event-tells fate (event.Uncut c) w a p f =
      let v = record w { cut = filter (λ d. not (d == c)) w.cut } in
      choose w (member c w.cut) (moving v) (world.nothing w) (quiet-tells w a v refl refl) (nothing-tells w a)
  event-tells fate (event.Drop n) w a p f = kept-tells n (elim (world.is_pending n w) as (λ z. Moving) [ true ↦ moving (world.settled n w) | false ↦ world.nothing w ]) w
      (choose w (world.is_pending n w) (moving (world.settled n w)) (world.nothing w) (quiet-tells w a (world.settled n w) refl refl) (nothing-tells w a)) f
  event-tells fate (event.Repeat n) w a p f =
      let v = record w { pending = elim (world.is_pending n w) as (λ z. List ℕ) [ true ↦ w.pending | false ↦ world.among n w.pending ] } in
      kept-tells n (moving v) w (quiet-tells w a v refl refl) f
  event-tells fate (event.Deliver n) w a p f = deliver-tells fate n w a f
  event-tells fate (event.Crash c) w a p f = crash-tells w a c (at c w.clerks)
  event-tells fate (event.End c) w a p f = end-tells fate w a c w.server f
  event-tells fate event.Stop w a p f = stop-tells w a w.server
  event-tells fate (event.Arm n ch) w a p f = quiet-tells w a (record w { choice = ch }) refl refl
  event-tells fate event.Restart w a p f = up-tells fate w a w.server f
