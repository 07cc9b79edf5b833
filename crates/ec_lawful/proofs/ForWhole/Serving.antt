-- A server's step, in the world: its record is shown, and its messages are sent.
use Rattle.std.proofs.Common.{◌≡◌, refl, sym, ap, subst, ◌∙◌, ◌≤◌, ℕ, T, Bool, true, false, ◌==◌, ◌&&◌, ◌||◌, List, [], ◌∷◌, ◌++◌, Option, Some, None, append-nil, arith}
use Rattle.std.specs.Prelude.{Contains, is_some}
use Rattle.ec_base.specs.Tables.{at, at_or, keys}
use Rattle.ec_wire.specs.declared.msg.Msg.{Msg}
use Rattle.ec_history.specs.Placing.{watch}
use Rattle.ec_history.specs.declared.shown.Shown.{Shown}
use Rattle.ec_history.specs.declared.shown.Shown.TheVariants as show
use Rattle.ec_sessions.specs.Slots as slots
use Rattle.ec_sessions.specs.declared.slot.Slot.{Slot}
use Rattle.ec_durable.specs.Durable.{slot}
use Rattle.ec_durable.specs.declared.record.Record.{Record}
use Rattle.ec_durable.specs.declared.record.Record.TheVariants as record_of
use Rattle.ec_durable.specs.declared.state.Durable.{Durable}
use Rattle.ec_protocol.specs.Server.{Serving}
use Rattle.ec_protocol.specs.World.{Moving, boot, committed, ended_in, fails, go_on, is_running, moving, noted, runs, send_all, served, served_record, show_ended, show_line, show_noted, with_world}
use Rattle.ec_protocol.specs.declared.clerk.Clerk.{Clerk}
use Rattle.ec_protocol.specs.declared.server.Server.{Server}
use Rattle.ec_protocol.specs.declared.world.Noted.{Noted}
use Rattle.ec_protocol.specs.declared.world.Noted.TheVariants as noted_of
use Rattle.ec_protocol.specs.declared.world.World.{World}
use Rattle.ec_protocol.specs.declared.world.WorldFault.TheVariants as fault
use Rattle.ec_coherence.specs.System.{System, Ghost}
use Rattle.ec_coherence.specs.Stops.{RunsOn}
use Rattle.ec_coherence.specs.Steps as steps
use Rattle.ec_coherence.specs.Steps.{Stands, Under, end_lines, ended_line, found, record_lines, running_clerk, serving_in, to_show}
use Rattle.ec_coherence.specs.CommitLaws.{AllAgree}
use Rattle.ec_lawful.proofs.ForWhole.Pool.{Pooled, Sends, sends-all}
use Rattle.ec_lawful.proofs.ForWhole.Standing.{pooled-of}
use Rattle.ec_base.proofs.Bools.{same_tests}

-- A record's lines are those of the system.
module _ (w : World) (g : System) (st : Stands w g) (all : AllAgree g) where
  -- a clerk runs in both
  some-of : (c : ℕ) (o : Option ℕ) → g.running c ≡ o → is_some (elim o as (λ z. Option Clerk) [ None ↦ None | Some b ↦ g.clerks c b ]) ≡ is_some o
  some-of c None q = refl
  some-of c (Some b) q = go (g.clerks c b) ((all.0).sessions.running c b q).1
    where
      go : (o : Option Clerk) → T (is_some o) → is_some o ≡ true
      go None t = absurd t
      go (Some k) t = refl

  same-runs : (c b : ℕ) → is_running c b w ≡ steps.runs g c b
  same-runs c b = ap (λ x. is_some x && (b == boot c w)) (st.clerks c) ∙ ap (λ x. x && (b == boot c w)) (some-of c (g.running c) refl) ∙ ap (λ x. is_some (g.running c) && (b == x)) (st.boots c)

  -- what a record shows
  abbrev Shows : Option Noted → List Shown → Type 0
  Shows o ls = (m : Moving) → m.world.shown ≡ w.shown → m.world.clerks ≡ w.clerks → m.world.boots ≡ w.boots
      → ((show_noted o m).world ≡ record (m.world) { shown = m.world.shown ++ ls }) × ((show_noted o m).shown ≡ m.shown ++ ls) × ((show_noted o m).fault ≡ m.fault)

  shows-none : Shows None []
  shows-none m p q r = (ap (λ x. record (m.world) { shown = x }) (sym (append-nil m.world.shown)), sym (append-nil m.shown), refl)

  same-line : (c b : ℕ) (v : World) → v.shown ≡ w.shown → v.clerks ≡ w.clerks → v.boots ≡ w.boots → show_ended c b v ≡ ended_line g c b
  same-line c b v p q r =
      ap (λ x. elim (is_some (watch c x).open_start || (is_some (at c v.clerks) && (b == at_or 0 c v.boots))) as (λ z. Shown) [ true ↦ show.Ended c ((watch c x).undurable) | false ↦ show.Unseen c ]) (p ∙ st.shown)
      ∙ ap (λ x. elim (is_some (watch c g.ghost.shown).open_start || (is_some (at c x) && (b == at_or 0 c v.boots))) as (λ z. Shown) [ true ↦ show.Ended c ((watch c g.ghost.shown).undurable) | false ↦ show.Unseen c ]) q
      ∙ ap (λ x. elim (is_some (watch c g.ghost.shown).open_start || (is_some (at c w.clerks) && (b == at_or 0 c x))) as (λ z. Shown) [ true ↦ show.Ended c ((watch c g.ghost.shown).undurable) | false ↦ show.Unseen c ]) r
      ∙ ap (λ x. elim (is_some (watch c g.ghost.shown).open_start || x) as (λ z. Shown) [ true ↦ show.Ended c ((watch c g.ghost.shown).undurable) | false ↦ show.Unseen c ]) (same-runs c b)

  shows-end : (c : ℕ) (o : Option Slot) → Shows (ended_in c o) (end_lines g c o)
  shows-end c None = shows-none
  shows-end c (Some sl) = go sl.is_open
    where
      go : (b : Bool) → Shows (elim b as (λ z. Option Noted) [ true ↦ Some (noted_of.Ended c (sl.age).boot) | false ↦ None ]) (elim b as (λ z. List Shown) [ true ↦ ended_line g c (sl.age).boot ∷ [] | false ↦ [] ])
      go false = shows-none
      go true = λ m p q r.
          let e = same-line c (sl.age).boot m.world p q r in
          (ap (λ x. record (m.world) { shown = m.world.shown ++ x ∷ [] }) e, ap (λ x. m.shown ++ x ∷ []) e, refl)

  pub shows-record : (r : Record) → Shows (noted g.durable r) (record_lines g (Some r))
  shows-record (record_of.Batch c s b ops) = λ m p q r. (refl, refl, refl)
  shows-record (record_of.Open c age s) = shows-end c (slot g.durable c)
  shows-record (record_of.End c s) = shows-end c (slot g.durable c)
  shows-record (record_of.Ids c s got x) = shows-none
  shows-record (record_of.Epoch e) = shows-none

  -- The whole step, of a running server.
  module _ (v : Server) (up : g.server ≡ Some v) (t : Serving) (γ : Ghost) (u : Under g t γ) (unspent : t.spent ≡ None) where
    on : (w.durable ≡ g.durable) × (g.unshown ≡ None)
    on = (st.up (subst (λ x. T (is_some x)) (sym up) tt), (subst (RunsOn g) up (all.0).stops.runs).1)

    abbrev h : System
    h = serving_in t γ g

    -- the world behind lines, which then sends
    goes : (x : World) → x.clerks ≡ w.clerks → x.boots ≡ w.boots → x.calls ≡ w.calls → x.unshown ≡ w.unshown → x.pool ≡ w.pool → x.shown ≡ γ.shown → Stands (go_on t x) h
    goes x p q r s y z =
        let k : Sends (record x { server = Some t.server; durable = t.server.durable }) (go_on t x) t.sent = sends-all t.sent (record x { server = Some t.server; durable = t.server.durable }) in
        record {
          server = k.server;
          durable = k.durable ∙ ap (λ e. record (t.server.durable) { epoch = e.epoch }) (sym k.durable) ∙ ap (λ o. record (found o t.server.durable) { epoch = (go_on t x).durable.epoch }) (sym on.1);
          epoch = subst (λ e. t.server.durable.epoch ≤ e.epoch) (sym k.durable) (omega arith);
          up = λ i. k.durable;
          unshown = k.unshown ∙ s ∙ st.unshown ∙ ap (to_show g.durable) on.1 ∙ ap (to_show t.server.durable) (sym on.1);
          clerks = λ c. ap (at c) (k.clerks ∙ p) ∙ st.clerks c;
          boots = λ c. ap (at_or 0 c) (k.boots ∙ q) ∙ st.boots c;
          calls = k.calls ∙ r ∙ st.calls;
          pool = k.pool g.pool (subst (λ ps. (n c i : ℕ) (m : Msg) → at n ps ≡ Some (record { clerk = c; nth = i; msg = m }) → Contains g.pool (c, m)) (sym y) (pooled-of w g st));
          shown = k.shown ∙ z;
        }

    by-record : (o : Option Record) → t.rec ≡ o → Stands (served_record runs o t w).world h
    by-record None q = goes w refl refl refl refl refl (st.shown ∙ sym (u.shown ∙ ap (λ x. g.ghost.shown ++ record_lines g x) q ∙ append-nil g.ghost.shown))
    by-record (Some r) q =
        let m : Moving = moving (record w { records = w.records ++ r ∷ [] }) in
        let e = subst (λ d. Shows (noted d r) (record_lines g (Some r))) (sym on.0) (shows-record r) m refl refl refl in
        subst (λ x. Stands (go_on t x) h) (sym e.0) (goes (record (m.world) { shown = m.world.shown ++ record_lines g (Some r) }) refl refl refl refl refl
        (ap (λ x. x ++ record_lines g (Some r)) st.shown ∙ sym (u.shown ∙ ap (λ x. g.ghost.shown ++ record_lines g x) q)))

    pub served-stands : Stands (served runs t w).world h
    served-stands = subst (λ x. Stands x.world h) (sym (ap (λ o. elim o as (λ z. Moving) [ Some n ↦ fails (fault.Spent n) w | None ↦ served_record runs t.rec t w ]) unspent)) (by-record t.rec refl)
