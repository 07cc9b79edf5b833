-- All facts behind a new session in the place of an open one: the old one ends first, and then the new one opens, by one record.
use Rattle.std.proofs.Common.{◌≡◌, refl, sym, ap, subst, ◌∙◌, ℕ, true, false, not, ◌&&◌, ◌+◌, ◌<◌, cond, T, List, [], ◌∷◌, ◌++◌, Some, None}
use Rattle.std.specs.Prelude.{nat_le, nat_lt, Result, Ok, Err}
use Rattle.std.proofs.lemmas.List.{append_assoc}
use Rattle.ec_base.specs.Ages.{is_older}
use Rattle.ec_base.specs.Limits.{last_counter}
use Rattle.ec_base.specs.declared.counter.Counter.TheVariants as counter
use Rattle.ec_base.specs.declared.ids.Age.{Age}
use Rattle.ec_sessions.specs.Slots.{Slots, is_greater, new_slot, with_slot}
use Rattle.ec_sessions.specs.declared.slot.Slot.{Slot}
use Rattle.ec_wire.specs.declared.msg.Msg.{Msg}
use Rattle.ec_wire.specs.declared.msg.Msg.TheVariants.{Opened}
use Rattle.ec_durable.specs.Durable.{is_next_session, slot, step}
use Rattle.ec_durable.specs.declared.state.Durable.{Durable}
use Rattle.ec_durable.specs.declared.record.Record.TheVariants as record_of
use Rattle.ec_durable.specs.declared.record.RecordFault.{RecordFault}
use Rattle.ec_durable.specs.declared.record.RecordFault.TheVariants.{BadAge, BadNumber}
use Rattle.ec_protocol.specs.Server.{Serving, forget, open_new, serving, spend, tell_opened}
use Rattle.ec_coherence.specs.System.{System, Ghost}
use Rattle.ec_coherence.specs.Sessions.{IsReached}
use Rattle.ec_coherence.specs.Steps.{open_session, serving_in}
use Rattle.ec_coherence.proofs.ForBatches.Finish as finishing
use Rattle.ec_coherence.proofs.ForBatches.OpenAgrees as opening
use Rattle.ec_coherence.proofs.ForServer.Tables.{same_some}
use Rattle.ec_coherence.specs.CommitLaws.{AllAgree, StepStands}
use Rattle.ec_coherence.proofs.ForCommits.Given.{before-record}
use Rattle.ec_coherence.proofs.ForCommits.SessionCommits.{open-stands, open-starts, open-watches}
use Rattle.ec_coherence.proofs.ForCommits.Taking.{begins}
use Rattle.ec_coherence.specs.Ends.{show_end}
use Rattle.ec_coherence.proofs.Finishes as finishes
use Rattle.ec_base.proofs.Numbers.{same-self as same, below}
use Rattle.ec_coherence.proofs.ForBatches.OpenOver.{twice}
use Rattle.ec_base.proofs.Bools.{is-true}

module _ (g : System) (γ : Ghost) (t : Serving) (st : StepStands g t γ) (none : t.rec ≡ None) (c : ℕ) (sl : Slot) (in_slot : slot t.server.durable c ≡ Some sl) (opened : T sl.is_open)
    (age : Age) (within : c < 16) (greater : T (is_older sl.age age)) (reached : IsReached (serving_in t γ g) c age) (above : g.first_boot c < age.boot) (small : nat_le last_counter t.server.durable.next_session ≡ false) where
  abbrev here : System
  here = serving_in t γ g

  abbrev s : ℕ
  s = t.server.durable.next_session

  -- the old session ended, and the step begins anew

  abbrev between : Serving
  between = finishes.sending g γ t st none c sl in_slot opened t.sent

  abbrev γ-between : Ghost
  γ-between = show_end here c sl

  abbrev midst : System
  midst = serving_in between γ-between g

  all : AllAgree midst
  all = finishes.between-all g γ t st none c sl in_slot opened

  abbrev anew : Serving
  anew = serving between.server

  begun : StepStands midst anew γ-between
  begun = begins midst between.server all refl

  is-closed : (so : Slot) → slot between.server.durable c ≡ Some so → record sl { is_open = false; unspent = [] } ≡ so
  is-closed so p = same_some (sym (finishing.slot-now g γ t st.0 c sl in_slot opened c ∙ ap (λ z. cond z (Some (record sl { is_open = false; unspent = [] })) (slot t.server.durable c)) (same c)) ∙ p)

  idle : (so : Slot) → slot between.server.durable c ≡ Some so → T (not so.is_open)
  idle so p = subst (λ z. T (not z.is_open)) (is-closed so p) tt

  older : (so : Slot) → slot between.server.durable c ≡ Some so → T (is_older so.age age)
  older so p = subst (λ z. T (is_older z.age age)) (is-closed so p) greater

  abbrev γ' : Ghost
  γ' = open_session c age s γ-between

  -- it opens the new one
  opens : StepStands midst (open_new c age None anew) γ'
  opens = (
    open-stands midst γ-between anew begun.0 refl c age within idle older reached small,
    open-watches midst γ-between anew begun.0 refl c age within idle older reached small begun.1,
    begun.2,
    open-starts midst γ-between anew begun.0 refl c age within idle older reached small above begun.3,
  )

  -- which is what the one record comes to

  abbrev over : Slots → List (ℕ × Msg) → Serving
  over l ms =
      record t {
        server = record (forget sl.session t.server) {
          durable = record (t.server.durable) { next_session = s + 1; sessions = l };
          claimed = s ∷ (forget sl.session t.server).claimed;
        };
        sent = ms;
        rec = Some (record_of.Open c age s);
      }

  abbrev message : List (ℕ × Msg)
  message = (c, Opened age s t.server.durable.epoch) ∷ []

  abbrev done : Serving
  done = over (with_slot c (Some (new_slot age s)) t.server.durable.sessions) (t.sent ++ message)

  abbrev system : Slots → List (ℕ × Msg) → System
  system l p =
      let d = record (t.server.durable) { next_session = s + 1; sessions = l } in
      record g {
        durable = d;
        server = Some (record (forget sl.session t.server) { durable = d; claimed = s ∷ (forget sl.session t.server).claimed });
        pool = p;
        ghost = γ';
      }

  opens-all : AllAgree (serving_in (open_new c age None anew) γ' midst)
  opens-all = ((opens.0).invariant, opens.1, opens.2, opens.3)

  behind-both : AllAgree (system (with_slot c (Some (new_slot age s)) (with_slot c (Some (record sl { is_open = false; unspent = [] })) t.server.durable.sessions)) ((g.pool ++ t.sent) ++ message))
  behind-both = subst (λ z. AllAgree (serving_in z γ' midst)) (opening.open-is midst γ-between anew begun.0 c age within idle older reached small) opens-all

  over-all : AllAgree (serving_in done γ' g)
  over-all = subst (λ p. AllAgree (system (with_slot c (Some (new_slot age s)) t.server.durable.sessions) p)) (append_assoc g.pool t.sent message)
      (subst (λ l. AllAgree (system l ((g.pool ++ t.sent) ++ message))) (twice t.server.durable.sessions c (Some (record sl { is_open = false; unspent = [] })) (Some (new_slot age s))) behind-both)

  abbrev d : Durable
  d = done.server.durable

  steps : step (record_of.Open c age s) t.server.durable ≡ Ok d
  steps = ap (λ b. elim b as (λ z. Result Durable RecordFault) [
    | false ↦ Err BadAge
    | true ↦ elim (is_next_session s t.server.durable) as (λ z. Result Durable RecordFault) [ false ↦ Err BadNumber | true ↦ Ok d ]
  ]) (ap (λ o. is_greater o age) in_slot ∙ is-true (is_older sl.age age) greater) ∙ ap (λ b. elim b as (λ z. Result Durable RecordFault) [ false ↦ Err BadNumber | true ↦ Ok d ]) next
    where
      next : is_next_session s t.server.durable ≡ true
      next = ap (λ z. z && nat_lt s last_counter) (same s) ∙ below last_counter s small

  open-is : open_new c age (Some sl.session) t ≡ done
  open-is = ap (λ b. elim b as (λ z. Serving) [
    | true ↦ spend counter.Session t
    | false ↦ elim (step (record_of.Open c age s) t.server.durable) as (λ z. Serving) [ Ok e ↦ tell_opened c age s (Some sl.session) (record t { server = record (t.server) { durable = e }; rec = Some (record_of.Open c age s) }) | Err f ↦ t ]
  ]) small ∙ ap (λ r. elim r as (λ z. Serving) [ Ok e ↦ tell_opened c age s (Some sl.session) (record t { server = record (t.server) { durable = e }; rec = Some (record_of.Open c age s) }) | Err f ↦ t ]) steps

  done-stands : StepStands g done γ'
  done-stands = (
    record { committed = subst (λ e. step (record_of.Open c age s) e ≡ Ok d) (before-record g γ t st.0 none) steps; shown = finishes.lines-are g γ t st none c sl in_slot opened; invariant = over-all.0 },
    over-all.1,
    over-all.2,
    over-all.3,
  )

  pub over-stands : StepStands g (open_new c age (Some sl.session) t) γ'
  over-stands = subst (λ z. StepStands g z γ') (sym open-is) done-stands

  pub over-spends : (open_new c age (Some sl.session) t).spent ≡ t.spent
  over-spends = ap (λ z. z.spent) open-is
