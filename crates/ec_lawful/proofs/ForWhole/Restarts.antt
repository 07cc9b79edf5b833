-- All facts behind a restart: the record in doubt is shown, the line of the start follows, and the server starts above all epochs on the disk.
use Rattle.std.proofs.Common.{◌≡◌, refl, sym, ap, subst, ◌∙◌, inl, inr, ◌⊎◌, arith, ℕ, Bool, true, false, T, ◌+◌, ◌^◌, ◌<◌, ◌≤◌, List, [], ◌∷◌, ◌++◌, Option, Some, None, append-nil}
use Rattle.std.specs.Prelude.{◌==◌, is_some, nat_le, Result, Ok, Err}
use Rattle.ec_volume.specs.declared.update.Update.{Update}
use Rattle.ec_history.specs.declared.shown.Shown.TheVariants.{Started}
use Rattle.ec_sessions.specs.Slots.{Slots, slot_at}
use Rattle.ec_sessions.specs.declared.slot.Slot.{Slot}
use Rattle.ec_wire.specs.declared.msg.Msg.TheVariants.{Ended, Restarted}
use Rattle.ec_durable.specs.Durable.{batch_step, carried_out, has_batch, is_beyond, is_session, low, marked, op_fault, operations, slot, step}
use Rattle.ec_durable.specs.declared.state.Durable.{Durable}
use Rattle.ec_durable.specs.declared.record.Record.{Record}
use Rattle.ec_durable.specs.declared.record.Record.TheVariants as record_of
use Rattle.ec_durable.specs.declared.record.RecordFault.{RecordFault}
use Rattle.ec_durable.specs.declared.record.RecordFault.TheVariants as fault
use Rattle.ec_protocol.specs.World.{stepped}
use Rattle.ec_protocol.specs.Server.{Serving, epoch, start, tell, tell_all, tell_ended, tell_start}
use Rattle.ec_coherence.specs.System.{System}
use Rattle.ec_coherence.specs.Invariant.{Invariant}
use Rattle.ec_coherence.specs.Steps.{found, serving_in, Under}
use Rattle.ec_coherence.proofs.ForServer.Lists.{each-more}
use Rattle.ec_coherence.proofs.ForServer.Replies.{tell-all-stands}
use Rattle.ec_coherence.specs.CommitLaws.{AllAgree}
use Rattle.ec_coherence.specs.Starts.{Greets}
use Rattle.ec_coherence.proofs.ForCommits.Starting.{AreQuiet}
use Rattle.ec_coherence.proofs.ForCommits.Watched.{watches-read}
use Rattle.ec_coherence.specs.StandLaws.{lined}
use Rattle.ec_coherence.proofs.Lines.{started-stands}
use Rattle.ec_lawful.specs.Doubts.{ComesFrom, ComesFromAny, DoubtAgrees}
use Rattle.ec_lawful.specs.Founds.{bare, found_state, shown_in, started_in, with_found}
use Rattle.ec_lawful.proofs.ForWhole.Dressed.{dressed}
use Rattle.ec_lawful.proofs.ForWhole.Founds.{ends-of, founds-stand, gives-of, may, opens-of, stepped-is, not-ok, same-ok}
use Rattle.ec_lawful.proofs.ForWhole.Opens.{all-same, start-is, start-spent}
use Rattle.ec_lawful.proofs.ForWhole.Ups as ups
use Rattle.ec_lawful.proofs.ForWhole.Ups.{bare-all}
use Rattle.ec_base.proofs.Numbers.{same-self as same}

-- What a start says is no greeting.
module _ (g : System) where
  one-quiet : (c : ℕ) (t : Serving) (o : Option Slot) → AreQuiet g t.sent → AreQuiet g (tell_start c t o).sent
  one-quiet c t None q = each-more (λ m. Greets g m.0 m.1) t.sent ((c, Restarted 0 (epoch t)) ∷ []) q (tt, tt)
  one-quiet c t (Some sl) q = go sl.is_open
    where
      go : (b : Bool) → AreQuiet g (elim b as (λ z. Serving) [ true ↦ tell c (Restarted sl.session (epoch t)) t | false ↦ tell_ended c sl t ]).sent
      go true = each-more (λ m. Greets g m.0 m.1) t.sent ((c, Restarted sl.session (epoch t)) ∷ []) q (tt, tt)
      go false = each-more (λ m. Greets g m.0 m.1) t.sent ((c, Ended sl.session sl.window.low sl.window.mask) ∷ []) q (tt, tt)

  all-quiet : (c : ℕ) (slots : Slots) (t : Serving) → AreQuiet g t.sent → AreQuiet g (tell_all c slots t).sent
  all-quiet c [] t q = q
  all-quiet c (o ∷ slots) t q = all-quiet (c + 1) slots (tell_start c t o) (one-quiet c t o q)

-- A start in this epoch or a later one.
module _ (g : System) (all : AllAgree g) (down : g.server ≡ None) (sure : g.unshown ≡ None) (e : ℕ) (reached : g.durable.epoch ≤ e) where
  -- the line is shown, and the epoch is that on the disk
  abbrev shows : System
  shows = lined (bare g) Started

  shows-all : AllAgree shows
  shows-all = started-stands (bare g) (bare-all g all down)

  abbrev raised : System
  raised = dressed shows e None None g.ghost.old g.pool

  raised-all : AllAgree raised
  raised-all = ups.raised-all shows shows-all e reached

  next : e < e + 1
  next = omega arith

  abbrev begun : Serving
  begun = record { server = ups.first raised raised-all (e + 1) next; sent = []; rec = Some (record_of.Epoch (e + 1)); spent = None }

  begun-stands : Under raised begun raised.ghost
  begun-stands = record {
    committed = ap (λ b. elim b as (λ z. Result Durable RecordFault) [ false ↦ Err fault.BadNumber | true ↦ Ok begun.server.durable ]) (same (e + 1));
    shown = sym (append-nil raised.ghost.shown);
    invariant = subst (λ p. Invariant (record (ups.up raised raised-all (e + 1) next) { pool = p })) (sym (append-nil g.pool)) (ups.up-all raised raised-all (e + 1) next).0;
  }

  abbrev told : Serving
  told = tell_all 0 g.durable.sessions begun

  told-all : AllAgree (serving_in told raised.ghost raised)
  told-all = (
    (tell-all-stands raised raised.ghost g.durable.sessions 0 begun begun-stands (λ k. ap (slot_at g.durable.sessions) (none k))).invariant,
    watches-read raised told.server.durable (Some told.server) (g.pool ++ told.sent) (all-same (λ t. t.server.durable.sessions) (λ t c m. refl) 0 g.durable.sessions begun) raised-all.1,
    raised-all.2,
    (let a = raised-all.3 in record {
      owned = a.owned;
      started = a.started;
      greets = each-more (λ m. Greets raised m.0 m.1) g.pool told.sent a.greets (all-quiet raised 0 g.durable.sessions begun tt);
      above = a.above;
      alike = a.alike;
    }),
  )
    where
      none : (k : ℕ) → 0 + k ≡ k
      none k = omega arith

  abbrev state : Durable
  state = record (g.durable) { epoch = e }

  pub start-up : T (is_some (start state).spent) ⊎ AllAgree (started_in g (start state))
  start-up = go (nat_le (2 ^ 62) e) refl
    where
      go : (b : Bool) → nat_le (2 ^ 62) e ≡ b → T (is_some (start state).spent) ⊎ AllAgree (started_in g (start state))
      go true p = inl (start-spent state (all.0).sessions.sixteen p)
      go false p = inr (subst (λ u. AllAgree (record (started_in g (start state)) { unshown = u })) (sym sure) (subst (λ t. AllAgree (record (started_in g t) { unshown = None })) (sym (start-is state (all.0).sessions.sixteen p)) told-all))

-- A record leaves the epoch, but one that raises it.

same-epoch : (c : ℕ) (ops : List (ℕ × Update)) (d now : Durable) → operations c ops d ≡ Ok now → now.epoch ≡ d.epoch
same-epoch c [] d now e = ap (λ z. z.epoch) (sym (same-ok e))
same-epoch c (op ∷ ops) d now e = go (op_fault c op.0 op.1 d) e (λ q. same-epoch c ops (carried_out c op.1 d) now q)
  where
    go : (f : Option RecordFault) → (elim f as (λ z. Result Durable RecordFault) [ Some fault ↦ Err fault | None ↦ operations c ops (carried_out c op.1 d) ]) ≡ Ok now → (operations c ops (carried_out c op.1 d) ≡ Ok now → now.epoch ≡ d.epoch) → now.epoch ≡ d.epoch
    go None q h = h q
    go (Some f) q h = not-ok q

batch-epoch : (c b : ℕ) (ops : List (ℕ × Update)) (d now : Durable) → batch_step c b ops d ≡ Ok now → now.epoch ≡ d.epoch
batch-epoch c b ops d now e = go (operations c ops d) refl e
  where
    go : (r : Result Durable RecordFault) → operations c ops d ≡ r → (elim r as (λ z. Result Durable RecordFault) [ Err fault ↦ Err fault | Ok m ↦ Ok (marked c b m) ]) ≡ Ok now → now.epoch ≡ d.epoch
    go (Ok m) p q = ap (λ z. z.epoch) (sym (same-ok q)) ∙ same-epoch c ops d m p
    go (Err f) p q = not-ok q

batch-stays : (c s b : ℕ) (ops : List (ℕ × Update)) (d now : Durable) → step (record_of.Batch c s b ops) d ≡ Ok now → now.epoch ≡ d.epoch
batch-stays c s b ops d now e = go (is_session s (slot d c)) (has_batch b (slot d c)) (is_beyond b (slot d c)) e
  where
    go : (x y z : Bool) → (elim x as (λ z. Result Durable RecordFault) [
      | false ↦ Err fault.NoSession
      | true ↦ elim y as (λ z. Result Durable RecordFault) [
        | true ↦ Err (fault.Done b)
        | false ↦ elim z as (λ z. Result Durable RecordFault) [ true ↦ Err (fault.Beyond (low (slot d c))) | false ↦ batch_step c b ops d ]
      ]
    ]) ≡ Ok now → now.epoch ≡ d.epoch
    go false y z q = not-ok q
    go true true z q = not-ok q
    go true false true q = not-ok q
    go true false false q = batch-epoch c b ops d now q

epoch-stays : (g : System) (r : Record) → ComesFrom g r → (d now : Durable) → step r d ≡ Ok now → now.epoch ≡ d.epoch
epoch-stays g (record_of.Batch c s b ops) p d now e = batch-stays c s b ops d now e
epoch-stays g (record_of.Open c age s) p d now e = ap (λ z. z.epoch) (opens-of d now c s age e).2
epoch-stays g (record_of.End c s) p d now e = ap (λ z. z.epoch) (ends-of d now c s e).1
epoch-stays g (record_of.Ids c s got first) p d now e = ap (λ z. z.epoch) (gives-of d now c s got first e).2
epoch-stays g (record_of.Epoch n) p d now e = absurd p

-- and none lowers it
pub epoch-rises : (r : Record) (d : Durable) → d.epoch ≤ (stepped r d).epoch
epoch-rises r d = go (step r d) refl
  where
    equal-low : (a b : ℕ) → b ≡ a → a ≤ b
    equal-low a b e = omega (arith, e)

    raises : (n : ℕ) (now : Durable) → step (record_of.Epoch n) d ≡ Ok now → d.epoch ≤ now.epoch
    raises n now e = by (n == d.epoch + 1) refl e
      where
        above : (a b : ℕ) → (a == b + 1) ≡ true → b ≤ a
        above a b e = grind arith

        by : (z : Bool) → (n == d.epoch + 1) ≡ z → (elim z as (λ y. Result Durable RecordFault) [ false ↦ Err fault.BadNumber | true ↦ Ok (record d { epoch = n }) ]) ≡ Ok now → d.epoch ≤ now.epoch
        by true p q = subst (λ y. d.epoch ≤ y.epoch) (same-ok q) (above n d.epoch p)
        by false p q = not-ok q

    of : (q : Record) (now : Durable) → step q d ≡ Ok now → d.epoch ≤ now.epoch
    of (record_of.Batch c s b ops) now e = equal-low d.epoch now.epoch (batch-stays c s b ops d now e)
    of (record_of.Open c age s) now e = equal-low d.epoch now.epoch (ap (λ z. z.epoch) (opens-of d now c s age e).2)
    of (record_of.End c s) now e = equal-low d.epoch now.epoch (ap (λ z. z.epoch) (ends-of d now c s e).1)
    of (record_of.Ids c s got first) now e = equal-low d.epoch now.epoch (ap (λ z. z.epoch) (gives-of d now c s got first e).2)
    of (record_of.Epoch n) now e = raises n now e

    go : (z : Result Durable RecordFault) → step r d ≡ z → d.epoch ≤ (elim z as (λ y. Durable) [ Ok e ↦ e | Err f ↦ d ]).epoch
    go (Ok now) p = of r now p
    go (Err f) p = omega arith

-- The restart.

module _ (g : System) (all : AllAgree g) (from : DoubtAgrees g) (down : g.server ≡ None) (e : ℕ) (reached : g.durable.epoch ≤ e) where
  abbrev over : Option Record → Durable
  over o = record (found o g.durable) { epoch = e }

  pub restart-stands : T (is_some (start (found_state g e)).spent) ⊎ AllAgree (started_in (shown_in g g.unshown) (start (found_state g e)))
  restart-stands = go g.unshown refl
    where
      go : (o : Option Record) → g.unshown ≡ o → T (is_some (start (over o)).spent) ⊎ AllAgree (started_in (shown_in g o) (start (over o)))
      go None p = start-up g all down p e reached
      go (Some r) p =
          let m = may g all from down r p in
          let stays : (with_found g r).durable.epoch ≡ g.durable.epoch = ap (λ d. d.epoch) (stepped-is g all from down r p) ∙ epoch-stays g r (subst (ComesFromAny g) p from) g.durable m.0 m.1 in
          start-up (with_found g r) (founds-stand g all from down r p) down refl e (subst (λ n. n ≤ e) (sym stays) reached)
