-- What a line's steps show of calls, where each answer that is shown keeps what is known of the calls under way and of those that were answered.
use Rattle.std.proofs.Common.{◌≡◌, refl, sym, ap, ◌∙◌, subst, arith, ◌+◌, ℕ, Bool, true, false, List, [], ◌∷◌, ◌++◌}
use Rattle.std.specs.Prelude.{Option, None, Some, is_some, ◌||◌}
use Rattle.std.specs.List.{list_any}
use Rattle.ec_base.specs.Tables.{Table, at, at_or, put, without}
use Rattle.ec_base.specs.declared.counter.Counter.{Counter}
use Rattle.ec_plain.specs.declared.call.Call.{Call}
use Rattle.ec_history.specs.Placing.{watch}
use Rattle.ec_history.specs.declared.entry.Answer.{Answer}
use Rattle.ec_history.specs.declared.shown.Shown.{Shown}
use Rattle.ec_history.specs.declared.shown.Shown.TheVariants as show
use Rattle.ec_wire.specs.declared.msg.Msg.{Msg}
use Rattle.ec_durable.specs.declared.record.Record.{Record}
use Rattle.ec_protocol.specs.Clerk as clerk
use Rattle.ec_protocol.specs.Clerk.{Doing, begin, start}
use Rattle.ec_protocol.specs.Drill.{onward}
use Rattle.ec_protocol.specs.Server as server
use Rattle.ec_protocol.specs.Server.{Serving}
use Rattle.ec_protocol.specs.World.{Moving, add_call, boot, call, call_of, call_on, clerk_does, come_out, deliver, deliver_to, fails, go_on, is_answer_to, is_for_server, is_running, is_undurable, less_call, moving, noted, nothing, push, runs, send, send_all, served, served_record, settled, show_answer, show_ended, show_line, show_noted, show_waits, start_and_call, to_clerk, to_server, with_world}
use Rattle.ec_protocol.specs.declared.clerk.Clerk.{Clerk}
use Rattle.ec_protocol.specs.declared.clerk.Out.{Out}
use Rattle.ec_protocol.specs.declared.clerk.Out.TheVariants as out
use Rattle.ec_protocol.specs.declared.server.Server.{Server}
use Rattle.ec_protocol.specs.declared.world.Noted.{Noted}
use Rattle.ec_protocol.specs.declared.world.Noted.TheVariants as noted_of
use Rattle.ec_protocol.specs.declared.world.Sent.{Sent}
use Rattle.ec_protocol.specs.declared.world.World.{World}
use Rattle.ec_protocol.specs.declared.world.WorldFault.TheVariants as fault
use Rattle.ec_quiet.specs.SettlingScenes.{Reaches, here, on}
use Rattle.ec_machine_laws.specs.Answers.{Asking}
use Rattle.ec_machine_laws.specs.PlainLines.{answered_in, asked_in}
use Rattle.ec_base.proofs.Lists.{regroup, no-more}

-- Lists.

pub asked-both : (ss ts : List Shown) → asked_in (ss ++ ts) ≡ asked_in ss ++ asked_in ts
asked-both [] ts = refl
asked-both (s ∷ ss) ts = ap (λ l. answered_in s ++ l) (asked-both ss ts) ∙ sym (regroup (answered_in s) (asked_in ss) (asked_in ts))

abbrev pub CallTable : Type 0
CallTable = Table (Table (ℕ × Call))

sent-calls : (ss : List (ℕ × Msg)) (w : World) → (send_all ss w).calls ≡ w.calls
sent-calls [] w = refl
sent-calls (s ∷ ss) w = sent-calls ss (send s.0 s.1 w)

-- S is known of the calls under way, and of those that were answered.
module _ (S : CallTable → List Asking → Type 0)
    (answers : (calls : CallTable) (asked : List Asking) (c n : ℕ) (q : ℕ × Call) → S calls asked → at n (at_or [] c calls) ≡ Some q → S (put c (without n (at_or [] c calls)) calls) (asked ++ (q.0, c, q.1) ∷ [])) where
  -- behind those that were answered before
  abbrev pub Of : List Asking → Moving → Type 0
  Of xs m = S m.world.calls (xs ++ asked_in m.shown)

  -- a line that answers nothing
  silent : (xs : List Asking) (s : Shown) (m : Moving) → answered_in s ≡ [] → Of xs m → Of xs (show_line s m)
  silent xs s m e p = subst (S m.world.calls) (ap (λ l. xs ++ l) (sym (asked-both m.shown (s ∷ []) ∙ ap (λ l. asked_in m.shown ++ (l ++ [])) e ∙ no-more (asked_in m.shown)))) p

  shows : (xs : List Asking) (c n : ℕ) (a : Answer) (op : Option ℕ) (m : Moving) → Of xs m → Of xs (show_answer c n a op m)
  shows xs c n a op m p = go (call_of c n m.world) refl
    where
      go : (o : Option (ℕ × Call)) → call_of c n m.world ≡ o → Of xs (elim o as (λ z. Moving) [ None ↦ m | Some l ↦ with_world (less_call c n) (show_line (show.Answered l.0 c l.1 a op) m) ])
      go None e = p
      go (Some l) e = subst (S (less_call c n m.world).calls) (regroup xs (asked_in m.shown) ((l.0, c, l.1) ∷ []) ∙ ap (λ z. xs ++ z) (sym (asked-both m.shown (show.Answered l.0 c l.1 a op ∷ []))))
          (answers m.world.calls (xs ++ asked_in m.shown) c n l p e)

  outs : (xs : List Asking) (c : ℕ) (os : List Out) (m : Moving) → Of xs m → Of xs (come_out c os m)
  outs xs c [] m p = p
  outs xs c (out.Send x ∷ os) m p = outs xs c os (with_world (send c x) m) p
  outs xs c (out.Told ns ∷ os) m p = outs xs c os (show_line (show.Told c ns) m) (silent xs (show.Told c ns) m refl p)
  outs xs c (out.Answer n a op ∷ os) m p = outs xs c os (show_answer c n a op m) (shows xs c n a op m p)
  outs xs c (out.OldBoot a ∷ os) m p = outs xs c os m p

  -- a clerk's step, which is refused where it spends a counter
  does : (xs : List Asking) (c : ℕ) (d : Doing) (w : World) → Of xs (moving w) → Of xs (clerk_does c d (moving w))
  does xs c d w p = go d.spent
    where
      go : (s : Option Counter) → Of xs (elim s as (λ z. Moving) [ Some n ↦ fails (fault.Spent n) w | None ↦ come_out c d.outs (with_world (λ w. record w { clerks = put c d.clerk w.clerks }) (moving w)) ])
      go (Some n) = p
      go None = outs xs c d.outs (with_world (λ w. record w { clerks = put c d.clerk w.clerks }) (moving w)) p

  -- Deliveries.

  ended : (c b : ℕ) (w : World) → answered_in (show_ended c b w) ≡ []
  ended c b w = go (is_some (watch c w.shown).open_start || is_running c b w)
    where
      go : (z : Bool) → answered_in (elim z as (λ z. Shown) [ true ↦ show.Ended c (watch c w.shown).undurable | false ↦ show.Unseen c ]) ≡ []
      go true = refl
      go false = refl

  notes : (xs : List Asking) (o : Option Noted) (m : Moving) → Of xs m → Of xs (show_noted o m)
  notes xs None m p = p
  notes xs (Some (noted_of.Durable c ns)) m p = silent xs (show.Durable c ns) m refl p
  notes xs (Some (noted_of.Ended c b)) m p = silent xs (show_ended c b m.world) m (ended c b m.world) p

  goes : (xs : List Asking) (t : Serving) (m : Moving) → Of xs m → Of xs (with_world (go_on t) m)
  goes xs t m p = subst (λ z. S z (xs ++ asked_in m.shown)) (sym (sent-calls t.sent (record (m.world) { server = Some t.server; durable = t.server.durable }))) p

  records : (xs : List Asking) (t : Serving) (w : World) (r : Option Record) → Of xs (moving w) → Of xs (served_record runs r t w)
  records xs t w None p = goes xs t (moving w) p
  records xs t w (Some r) p = goes xs t (show_noted (noted w.durable r) (moving (record w { records = w.records ++ r ∷ [] }))) (notes xs (noted w.durable r) (moving (record w { records = w.records ++ r ∷ [] })) p)

  serves : (xs : List Asking) (t : Serving) (w : World) → Of xs (moving w) → Of xs (served runs t w)
  serves xs t w p = go t.spent
    where
      go : (s : Option Counter) → Of xs (elim s as (λ z. Moving) [ Some n ↦ fails (fault.Spent n) w | None ↦ served_record runs t.rec t w ])
      go (Some n) = p
      go None = records xs t w t.rec p

  to-one : (xs : List Asking) (n : ℕ) (s : Sent) (w : World) (o : Option Server) → Of xs (moving w) → Of xs (to_server runs n s o w)
  to-one xs n s w None p = silent xs show.Nothing (moving w) refl p
  to-one xs n s w (Some v) p = serves xs (server.take s.clerk s.msg v) (settled n w) p

  to-other : (xs : List Asking) (c : ℕ) (m : Msg) (w : World) (o : Option Clerk) → Of xs (moving w) → Of xs (to_clerk c m o w)
  to-other xs c m w None p = p
  to-other xs c m w (Some k) p = does xs c (clerk.take m k) w p

  delivers : (xs : List Asking) (n : ℕ) (w : World) → Of xs (moving w) → Of xs (deliver runs n w)
  delivers xs n w p = go (at n w.pool)
    where
      by-side : (s : Sent) (b : Bool) → Of xs (elim b as (λ z. Moving) [ true ↦ to_server runs n s w.server w | false ↦ to_clerk s.clerk s.msg (at s.clerk w.clerks) (settled n w) ])
      by-side s true = to-one xs n s w w.server p
      by-side s false = to-other xs s.clerk s.msg (settled n w) (at s.clerk w.clerks) p

      go : (o : Option Sent) → Of xs (elim o as (λ z. Moving) [ None ↦ fails fault.NoSuchMsg w | Some s ↦ deliver_to runs n s w ])
      go None = p
      go (Some s) = by-side s (is_for_server s)

  onward-of : (m d : Moving) → d.fault ≡ None → Of (asked_in m.shown) d → Of [] (onward m d)
  onward-of m d f p = subst (Of []) (sym (ap (λ o. elim o as (λ z. Moving) [ Some e ↦ record m { fault = Some e } | None ↦ record { world = d.world; shown = m.shown ++ d.shown; fault = None } ]) f))
      (subst (S d.world.calls) (sym (asked-both m.shown d.shown)) p)

  pub reaches : (m r : Moving) → Of [] m → Reaches m r → Of [] r
  reaches m r p here = p
  reaches m _ p (on r n reached is-due fine) =
      onward-of r (deliver runs n r.world) fine (delivers (asked_in r.shown) n r.world (subst (S r.world.calls) (sym (no-more (asked_in r.shown))) (reaches m r p reached)))

  -- The first step.

  pub pushes : (c n : ℕ) (k : Clerk) (w : World) → S w.calls [] → Of [] (push c n (Some k) w)
  pushes c n k w p = go (clerk.has_issued n k) (is_undurable c n w)
    where
      go : (a b : Bool) → Of [] (elim a as (λ z. Moving) [ false ↦ fails fault.NoSuchOp w | true ↦ elim b as (λ z. Moving) [ true ↦ clerk_does c (clerk.push n k) (moving w) | false ↦ nothing w ] ])
      go false b = p
      go true true = does [] c (clerk.push n k) w p
      go true false = silent [] show.Nothing (moving w) refl p

  module _ (c l : ℕ) (cl : Call) where
    calls-on : (before : List Out) (k : Clerk) (w : World) → S (add_call c (k.calls + 1) l cl w).calls [] → (call_on c l cl before k w).fault ≡ None → Of [] (call_on c l cl before k w)
    calls-on before k w p f = go (begin cl k).spent refl f
      where
        waits : (b : Bool) → Of [] (elim b as (λ z. Moving) [ true ↦ moving (add_call c (k.calls + 1) l cl w) | false ↦ show_line (show.Waits l c cl) (moving (add_call c (k.calls + 1) l cl w)) ])
        waits true = p
        waits false = silent [] (show.Waits l c cl) (moving (add_call c (k.calls + 1) l cl w)) refl p

        shown : Of [] (show_waits c (k.calls + 1) l cl (begin cl k).outs (moving (add_call c (k.calls + 1) l cl w)))
        shown = waits (list_any (is_answer_to (k.calls + 1)) (begin cl k).outs)

        done : (s : Option Counter) → s ≡ None → Of [] (elim s as (λ z. Moving) [
          | Some n ↦ fails (fault.Spent n) (show_waits c (k.calls + 1) l cl (begin cl k).outs (moving (add_call c (k.calls + 1) l cl w))).world
          | None ↦ come_out c (before ++ (begin cl k).outs) (with_world (λ w. record w { clerks = put c (begin cl k).clerk w.clerks }) (show_waits c (k.calls + 1) l cl (begin cl k).outs (moving (add_call c (k.calls + 1) l cl w))))
        ])
        done (Some n) e = absurd (grind (arith, e))
        done None e = outs [] c (before ++ (begin cl k).outs) (with_world (λ w. record w { clerks = put c (begin cl k).clerk w.clerks }) (show_waits c (k.calls + 1) l cl (begin cl k).outs (moving (add_call c (k.calls + 1) l cl w)))) shown

        go : (s : Option Counter) → (begin cl k).spent ≡ s
            → (elim s as (λ z. Moving) [ Some n ↦ fails (fault.Spent n) w | None ↦ clerk_does c (record (begin cl k) { outs = before ++ (begin cl k).outs }) (show_waits c (k.calls + 1) l cl (begin cl k).outs (moving (add_call c (k.calls + 1) l cl w))) ]).fault ≡ None
            → Of [] (elim s as (λ z. Moving) [ Some n ↦ fails (fault.Spent n) w | None ↦ clerk_does c (record (begin cl k) { outs = before ++ (begin cl k).outs }) (show_waits c (k.calls + 1) l cl (begin cl k).outs (moving (add_call c (k.calls + 1) l cl w))) ])
        go (Some n) e f = absurd (grind (arith, f))
        go None e f = done (begin cl k).spent e

    starts-on : (w : World) → ((n : ℕ) → S (add_call c n l cl w).calls []) → (start_and_call c l cl w).fault ≡ None → Of [] (start_and_call c l cl w)
    starts-on w p f = go (start c (boot c w + 1)).spent f
      where
        go : (s : Option Counter)
            → (elim s as (λ z. Moving) [ Some n ↦ fails (fault.Spent n) w | None ↦ call_on c l cl (start c (boot c w + 1)).outs (start c (boot c w + 1)).clerk (record w { boots = put c (boot c w + 1) w.boots }) ]).fault ≡ None
            → Of [] (elim s as (λ z. Moving) [ Some n ↦ fails (fault.Spent n) w | None ↦ call_on c l cl (start c (boot c w + 1)).outs (start c (boot c w + 1)).clerk (record w { boots = put c (boot c w + 1) w.boots }) ])
        go (Some n) f = absurd (grind (arith, f))
        go None f = calls-on (start c (boot c w + 1)).outs (start c (boot c w + 1)).clerk (record w { boots = put c (boot c w + 1) w.boots }) (p ((start c (boot c w + 1)).clerk.calls + 1)) f

    pub calls : (w : World) → ((n : ℕ) → S (add_call c n l cl w).calls []) → (call c l cl w).fault ≡ None → Of [] (call c l cl w)
    calls w p f = go (at c w.clerks) f
      where
        go : (o : Option Clerk) → (elim o as (λ z. Moving) [ Some k ↦ call_on c l cl [] k w | None ↦ start_and_call c l cl w ]).fault ≡ None → Of [] (elim o as (λ z. Moving) [ Some k ↦ call_on c l cl [] k w | None ↦ start_and_call c l cl w ])
        go (Some k) f = calls-on [] k w (p (k.calls + 1)) f
        go None f = starts-on w p f
