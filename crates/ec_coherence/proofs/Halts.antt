-- All facts behind a stop of the server, and behind the start of a stopped one: it tells each clerk, and the slots stay.
use Rattle.std.proofs.Common.{◌≡◌, refl, sym, ap, subst, ◌∙◌, inl, inr, ◌⊎◌, arith, ◌+◌, ◌^◌, ℕ, Bool, true, false, T, [], ◌∷◌, ◌++◌, Option, Some, None, append-nil}
use Rattle.std.specs.Prelude.{◌==◌, is_some, nat_le, Ok, Err, Result}
use Rattle.ec_base.specs.declared.counter.Counter.TheVariants as counter
use Rattle.ec_sessions.specs.Slots.{Slots, slot_at}
use Rattle.ec_sessions.specs.declared.slot.Slot.{Slot}
use Rattle.ec_wire.specs.declared.msg.Msg.TheVariants.{Ended, Restarted}
use Rattle.ec_durable.specs.declared.state.Durable.{Durable}
use Rattle.ec_durable.specs.declared.record.Record.TheVariants as record_of
use Rattle.ec_durable.specs.declared.record.RecordFault.{RecordFault}
use Rattle.ec_durable.specs.declared.record.RecordFault.TheVariants.{BadNumber}
use Rattle.ec_protocol.specs.Server.{Serving, epoch, new_server, serving, start, tell, tell_all, tell_ended, tell_start}
use Rattle.ec_protocol.specs.declared.server.Server.{Server}
use Rattle.ec_coherence.specs.System.{System, Ghost}
use Rattle.ec_coherence.specs.Tokens.{TokensAgree, eff, eff_of, tables_in, tables_of, view}
use Rattle.ec_coherence.specs.Invariant.{Invariant}
use Rattle.ec_coherence.specs.Stops.{MayStep}
use Rattle.ec_coherence.specs.Steps.{Under}
use Rattle.ec_coherence.proofs.ForServer.Lists.{each-more}
use Rattle.ec_coherence.proofs.ForServer.Replies.{tell-all-stands}
use Rattle.ec_coherence.proofs.ForServer.Restart.{started-agrees, stopped-agrees}
use Rattle.ec_coherence.specs.CommitLaws.{AllAgree, StepStands}
use Rattle.ec_coherence.specs.Starts.{Greets}
use Rattle.ec_coherence.proofs.ForCommits.Starting.{AreQuiet}
use Rattle.ec_coherence.proofs.ForCommits.Watched.{watches-read}
use Rattle.ec_coherence.specs.StandLaws.{stopped}
use Rattle.ec_coherence.proofs.Lines.{stopped-line-stands}
use Rattle.ec_coherence.proofs.Served as frame
use Rattle.ec_base.proofs.Numbers.{same-self as same}

-- A running server stops.
module _ (g : System) (all : AllAgree g) (v : Server) (up : g.server ≡ Some v) where
  halted : AllAgree (frame.served g all g.durable.epoch None (λ s x. eff (view g) s x))
  halted = frame.served-all g all g.durable.epoch None (λ s x. eff (view g) s x)
      (subst (λ z. TokensAgree (record (view g) { tables = None; old = λ t x. eff (record (view g) { tables = tables_in z }) t x })) (sym up)
      (stopped-agrees (view g) (tables_of v) (subst (λ z. TokensAgree (record (view g) { tables = tables_in z })) up (all.0).tokens)))
      (λ s x. refl) tt (all.0).stops.doubt

  pub halts-stand : AllAgree (stopped g)
  halts-stand = stopped-line-stands (frame.served g all g.durable.epoch None (λ s x. eff (view g) s x)) halted

-- What a start says is no greeting, and leaves the server.
module _ (g : System) where
  one-quiet : (c : ℕ) (t : Serving) (o : Option Slot) → AreQuiet g t.sent → AreQuiet g (tell_start c t o).sent
  one-quiet c t None q = each-more (λ m. Greets g m.0 m.1) t.sent ((c, Restarted 0 (epoch t)) ∷ []) q (tt, tt)
  one-quiet c t (Some sl) q = go sl.is_open
    where
      go : (b : Bool) → AreQuiet g (elim b as (λ z. Serving) [ true ↦ tell c (Restarted sl.session (epoch t)) t | false ↦ tell_ended c sl t ]).sent
      go true = each-more (λ m. Greets g m.0 m.1) t.sent ((c, Restarted sl.session (epoch t)) ∷ []) q (tt, tt)
      go false = each-more (λ m. Greets g m.0 m.1) t.sent ((c, Ended sl.session sl.window.low sl.window.mask) ∷ []) q (tt, tt)

  all-quiet : (c : ℕ) (slots : Slots) (t : Serving) → AreQuiet g t.sent → AreQuiet g (tell_all c slots t).sent
  all-quiet c [] t q = q
  all-quiet c (o ∷ slots) t q = all-quiet (c + 1) slots (tell_start c t o) (one-quiet c t o q)

  one-server : (c : ℕ) (t : Serving) (o : Option Slot) → (tell_start c t o).server ≡ t.server
  one-server c t None = refl
  one-server c t (Some sl) = go sl.is_open
    where
      go : (b : Bool) → (elim b as (λ z. Serving) [ true ↦ tell c (Restarted sl.session (epoch t)) t | false ↦ tell_ended c sl t ]).server ≡ t.server
      go true = refl
      go false = refl

  all-server : (c : ℕ) (slots : Slots) (t : Serving) → (tell_all c slots t).server ≡ t.server
  all-server c [] t = refl
  all-server c (o ∷ slots) t = all-server (c + 1) slots (tell_start c t o) ∙ one-server c t o

-- A stopped server starts.
module _ (g : System) (all : AllAgree g) (down : g.server ≡ None) (sure : g.unshown ≡ None) where
  abbrev next : ℕ
  next = g.durable.epoch + 1

  abbrev first : Server
  first = new_server (record (g.durable) { epoch = next })

  abbrev begun : Serving
  begun = record { server = first; sent = []; rec = Some (record_of.Epoch next); spent = None }

  up-all : AllAgree (frame.served g all next (Some first) g.ghost.old)
  up-all = frame.served-all g all next (Some first) g.ghost.old
      (started-agrees (view g) next (subst (λ z. TokensAgree (record (view g) { tables = tables_in z })) down (all.0).tokens) (omega arith))
      (λ s x. sym (ap (λ z. eff_of (tables_in z) g.durable.epoch g.ghost.old s x) down)) (refl, sure)
      (subst (λ r. MayStep (frame.served g all next (Some first) g.ghost.old) r) (sym sure) tt)

  begun-stands : Under g begun g.ghost
  begun-stands = record {
    committed = ap (λ b. elim b as (λ z. Result Durable RecordFault) [ false ↦ Err BadNumber | true ↦ Ok (record (g.durable) { epoch = next }) ]) (same next);
    shown = sym (append-nil g.ghost.shown);
    invariant = subst (λ p. Invariant (record (frame.served g all next (Some first) g.ghost.old) { pool = p })) (sym (append-nil g.pool)) up-all.0;
  }

  abbrev told : Serving
  told = tell_all 0 g.durable.sessions begun

  told-stands : StepStands g told g.ghost
  told-stands = (
    tell-all-stands g g.ghost g.durable.sessions 0 begun begun-stands (λ k. ap (λ z. slot_at g.durable.sessions z) (none k)),
    watches-read g told.server.durable (Some told.server) (g.pool ++ told.sent) (ap (λ v. v.durable.sessions) (all-server g 0 g.durable.sessions begun)) all.1,
    all.2,
    record {
      owned = (all.3).owned;
      started = (all.3).started;
      greets = each-more (λ m. Greets g m.0 m.1) g.pool told.sent (all.3).greets (all-quiet g 0 g.durable.sessions begun tt);
      above = (all.3).above;
      alike = (all.3).alike;
    },
  )
    where
      none : (k : ℕ) → 0 + k ≡ k
      none k = omega arith

  abbrev by_record : Result Durable RecordFault → Serving
  by_record r =
      elim r as (λ z. Serving) [
        | Ok d ↦ tell_all 0 d.sessions (record (serving (new_server g.durable)) { server = record (new_server g.durable) { durable = d }; rec = Some (record_of.Epoch next) })
        | Err f ↦ serving (new_server g.durable)
      ]

  abbrev by_epoch : Bool → Serving
  by_epoch b =
      elim b as (λ z. Serving) [
        | true ↦ record (serving (new_server g.durable)) { spent = Some counter.Epoch }
        | false ↦ by_record (elim (next == next) as (λ z. Result Durable RecordFault) [ false ↦ Err BadNumber | true ↦ Ok (record (g.durable) { epoch = next }) ])
      ]

  abbrev Starts : Serving → Type 0
  Starts f = T (is_some f.spent) ⊎ ((γ : Ghost) × StepStands g f γ)

  pub start-stands : Starts (start g.durable)
  start-stands = go (nat_le (2 ^ 62) g.durable.epoch)
    where
      go : (b : Bool) → Starts (by_epoch b)
      go true = inl tt
      go false = subst (λ r. Starts (by_record r)) (sym (ap (λ b. elim b as (λ z. Result Durable RecordFault) [ false ↦ Err BadNumber | true ↦ Ok (record (g.durable) { epoch = next }) ]) (same next))) (inr (g.ghost, told-stands))
