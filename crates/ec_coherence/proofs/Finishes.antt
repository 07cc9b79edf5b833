-- All facts behind the end of a session that the server commits.
use Rattle.std.proofs.Common.{◌≡◌, refl, sym, ap, subst, ◌∙◌, arith, ℕ, Bool, true, false, not, ◌==◌, ◌&&◌, ◌||◌, cond, T, List, [], ◌∷◌, ◌++◌, Option, Some, None, append-nil}
use Rattle.std.specs.Prelude.{◌<◌, is_some, Result, Ok, Err}
use Rattle.std.specs.List.{filter}
use Rattle.std.proofs.lemmas.Bool.{true≢false}
use Rattle.ec_base.specs.declared.ids.Age.{Age}
use Rattle.ec_volume.specs.Update.{member}
use Rattle.ec_volume.specs.Volume.{Fits}
use Rattle.ec_history.specs.History.{Op, updates}
use Rattle.ec_history.specs.Placing.{watch}
use Rattle.ec_history.specs.declared.shown.Shown.{Shown}
use Rattle.ec_history.specs.declared.shown.Shown.TheVariants as show
use Rattle.ec_sessions.specs.Slots.{with_slot, ended}
use Rattle.ec_sessions.specs.declared.slot.Slot.{Slot}
use Rattle.ec_sessions.specs.OfTokens.Tokens as tokens
use Rattle.ec_wire.specs.declared.msg.Msg.{Msg}
use Rattle.ec_wire.specs.declared.msg.Msg.TheVariants.{Ended}
use Rattle.ec_durable.specs.Durable.{is_session, slot, step}
use Rattle.ec_durable.specs.declared.state.Durable.{Durable}
use Rattle.ec_durable.specs.declared.record.Record.TheVariants as record_of
use Rattle.ec_durable.specs.declared.record.RecordFault.{RecordFault}
use Rattle.ec_durable.specs.declared.record.RecordFault.TheVariants.{NoSession}
use Rattle.ec_protocol.specs.Server.{Serving, finish, tell_ended}
use Rattle.ec_coherence.specs.System.{System, Ghost, Eff, eff_from, is_of}
use Rattle.ec_coherence.specs.Tokens.{eff, view}
use Rattle.ec_coherence.specs.BatchLaws.{BatchFacts}
use Rattle.ec_coherence.specs.Steps.{end_lines, end_session, ended_line, runs, serving_in, Under}
use Rattle.ec_coherence.proofs.ForBatches.Finish as finishing
use Rattle.ec_coherence.proofs.ForBatches.FinishAgrees as finished
use Rattle.ec_coherence.proofs.ForServer.Lists.{each-fewer}
use Rattle.ec_coherence.proofs.ForServer.Tables.{differ, same_some}
use Rattle.ec_coherence.specs.CommitLaws.{AllAgree, StepStands as Stands}
use Rattle.ec_coherence.specs.Starts.{IsOfStart}
use Rattle.ec_coherence.proofs.ForCommits.Given.{before-lines, before-record, ended-unclaimed}
use Rattle.ec_coherence.proofs.ForCommits.Shown.{lines-agree}
use Rattle.ec_coherence.proofs.ForCommits.Starting.{AreQuiet, quiet-so-far, quiet-with, starts-behind}
use Rattle.ec_coherence.proofs.ForCommits.Stopping.{stops-behind}
use Rattle.ec_coherence.specs.Ends.{show_end}
use Rattle.ec_coherence.proofs.EndsShown as gone
use Rattle.ec_coherence.proofs.Its as its
use Rattle.ec_base.proofs.Numbers.{same-self as same}
use Rattle.ec_base.proofs.Options.{none_some}
use Rattle.ec_base.proofs.Bools.{is-true}

-- a session that is taken out isn't there, and none comes
out : (s : ℕ) (us : List ℕ) → member s (filter (λ u. not (u == s)) us) ≡ false
out s [] = refl
out s (u ∷ us) = go (u == s) refl (out s us)
  where
    flip : (m n : ℕ) → (m == n) ≡ (n == m)
    flip m n = grind arith

    go : (b : Bool) → (u == s) ≡ b → member s (filter (λ u. not (u == s)) us) ≡ false → member s (cond (not b) (u ∷ filter (λ u. not (u == s)) us) (filter (λ u. not (u == s)) us)) ≡ false
    go true e r = r
    go false e r = ap (λ z. z || member s (filter (λ u. not (u == s)) us)) (flip s u ∙ e) ∙ r

fewer : (r s : ℕ) (us : List ℕ) → member r us ≡ false → member r (filter (λ u. not (u == s)) us) ≡ false
fewer r s [] e = refl
fewer r s (u ∷ us) e = go (u == s) (r == u) refl e (fewer r s us)
  where
    go : (b a : Bool) → (r == u) ≡ a → (a || member r us) ≡ false → (member r us ≡ false → member r (filter (λ u. not (u == s)) us) ≡ false)
        → member r (cond (not b) (u ∷ filter (λ u. not (u == s)) us) (filter (λ u. not (u == s)) us)) ≡ false
    go b true p e f = absurd (true≢false e)
    go true false p e f = f e
    go false false p e f = ap (λ z. z || member r (filter (λ u. not (u == s)) us)) p ∙ f e

module _ (g : System) (γ : Ghost) (t : Serving) (st : Stands g t γ) (none : t.rec ≡ None) (c : ℕ) (sl : Slot) (in_slot : slot t.server.durable c ≡ Some sl) (opened : T sl.is_open) where
  abbrev here : System
  here = serving_in t γ g

  abbrev u : Under g t γ
  u = st.0

  abbrev s : ℕ
  s = sl.session

  abbrev b : ℕ
  b = (sl.age).boot

  abbrev pub d' : Durable
  d' = finishing.d' g γ t u c sl in_slot opened

  abbrev pub step' : Serving
  step' = finishing.ended_step g γ t u c sl in_slot opened

  abbrev γ' : Ghost
  γ' = end_session here s γ

  abbrev pub γ'' : Ghost
  γ'' = show_end here c sl

  -- it's committed with any messages
  abbrev pub sending : List (ℕ × Msg) → Serving
  sending ms = record step' { sent = ms }

  slot-own : slot d' c ≡ Some (finishing.sm g γ t u c sl in_slot opened)
  slot-own = finishing.slot-now g γ t u c sl in_slot opened c ∙ ap (λ z. cond z (Some (finishing.sm g γ t u c sl in_slot opened)) (slot t.server.durable c)) (same c)

  closed : (so : Slot) → slot d' c ≡ Some so → T so.is_open → ⊥
  closed so p o = subst (λ m. T m.is_open) (sym (same_some (sym slot-own ∙ p))) o

  own-tokens : (ms : List (ℕ × Msg)) (x : ℕ) → eff (view (serving_in (sending ms) γ' g)) s x ≡ eff (view here) s x
  own-tokens ms x = ap (λ z. eff_from z (tokens.token step'.server.tokens s x) t.server.durable.epoch (γ'.old s x)) (out s t.server.claimed)
      ∙ ap (λ z. elim z as (λ y. Option Eff) [ true ↦ eff (view here) s x | false ↦ γ.old s x ]) (same s)

  cut-tokens : (ms : List (ℕ × Msg)) (r : ℕ) (ks : List Op) → γ.frozen r ≡ Some ks → (x : ℕ) → eff (view (serving_in (sending ms) γ' g)) r x ≡ eff (view here) r x
  cut-tokens ms r ks f x =
      let none-claimed = ended-unclaimed g γ t u.invariant r ks f in
      let other : (r == s) ≡ false = differ r s (λ e. absurd (none_some (sym (u.invariant.images.unfrozen s (its.open-now here u.invariant st.1 st.3 c sl in_slot opened)) ∙ ap γ.frozen (sym e) ∙ f))) in
      ap (λ z. eff_from z (tokens.token step'.server.tokens r x) t.server.durable.epoch (γ'.old r x)) (fewer r s t.server.claimed none-claimed)
      ∙ ap (λ z. elim z as (λ y. Option Eff) [ true ↦ eff (view here) r x | false ↦ γ.old r x ]) other
      ∙ sym (ap (λ z. eff_from z (tokens.token t.server.tokens r x) t.server.durable.epoch (γ.old r x)) none-claimed)

  pub steps : step (record_of.End c s) t.server.durable ≡ Ok d'
  steps = ap (λ o. elim (is_session s o) as (λ z. Result Durable RecordFault) [
    | false ↦ Err NoSession
    | true ↦ Ok (record (t.server.durable) { sessions = with_slot c (ended o) t.server.durable.sessions })
  ]) in_slot ∙ ap (λ b. elim b as (λ z. Result Durable RecordFault) [
    | false ↦ Err NoSession
    | true ↦ Ok (record (t.server.durable) { sessions = with_slot c (ended (Some sl)) t.server.durable.sessions })
  ]) (both sl.is_open s opened) ∙ ap (λ b. Ok (record (t.server.durable) { sessions = with_slot c (Some (cond b (record sl { is_open = false; unspent = [] }) sl)) t.server.durable.sessions })) (is-true sl.is_open opened)
    where
      both : (a : Bool) (n : ℕ) → T a → (a && (n == n)) ≡ true
      both true n o = same n
      both false n o = absurd o

  -- Its line.

  same-shown : γ.shown ≡ g.ghost.shown
  same-shown = before-lines g γ t u none ∙ append-nil g.ghost.shown

  same-line : ended_line here c b ≡ ended_line g c b
  same-line = ap (λ ss. elim (is_some ((watch c ss).open_start) || runs g c b) as (λ y. Shown) [ true ↦ show.Ended c ((watch c ss).undurable) | false ↦ show.Unseen c ]) same-shown

  pub lines-are : γ''.shown ≡ g.ghost.shown ++ end_lines g c (slot g.durable c)
  lines-are = ap (λ ss. ss ++ ended_line here c b ∷ []) same-shown ∙ ap (λ l. g.ghost.shown ++ l ∷ []) same-line ∙ ap (λ ls. g.ghost.shown ++ ls) (sym (ap (λ d. end_lines g c (slot d c)) (sym (before-record g γ t u none))
      ∙ ap (end_lines g c) in_slot ∙ ap (λ z. elim z as (λ y. List Shown) [ true ↦ ended_line g c b ∷ [] | false ↦ [] ]) (is-true sl.is_open opened)))

  -- its session is frozen now, and the others as before
  owned-still : (r d : ℕ) (a : Age) → γ''.owner r ≡ Some (d, a) → IsOfStart g (γ''.frozen r) d a
  owned-still r d a p = let f = (st.3).owned r d a p in ((λ z. f.0 (go (r == s) z)), f.1)
    where
      go : (z : Bool) → elim z as (λ y. Option (List Op)) [ true ↦ Some γ.kept | false ↦ γ.frozen r ] ≡ None → γ.frozen r ≡ None
      go true e = absurd (none_some (sym e))
      go false e = e

  -- All facts, with the messages that are sent.
  module _ (ms : List (ℕ × Msg)) (agrees : BatchFacts (serving_in (sending ms) γ' g)) (quiet : AreQuiet g ms) where
    lined : BatchFacts (serving_in (sending ms) γ'' g)
    lined = lines-agree (serving_in (sending ms) γ' g) γ''.shown γ''.history γ.fresh agrees

    fits : Fits g.origin (updates γ'.kept)
    fits = agrees.images.fits

    pub ended-all : AllAgree (serving_in (sending ms) γ'' g)
    ended-all =
        let shows = gone.end-shows here u.invariant st.1 st.3 c sl in_slot opened d' (Some step'.server) (g.pool ++ ms) (finished.others g γ t u c sl in_slot opened) closed (own-tokens ms) (cut-tokens ms) refl fits in (
          record { sessions = lined.sessions; tokens = lined.tokens; logs = lined.logs; images = lined.images; events = shows.0; stops = stops-behind g γ γ'' t (sending ms) u lined.images },
          shows.1,
          (λ r l. st.2 r l),
          starts-behind g γ t st.3 γ'' (sending ms) quiet owned-still (each-fewer (λ o. g.first_boot o.clerk < o.boot) (λ k. not (is_of (γ.owner s) k && not (γ.is_durable k))) γ.kept (st.3).above) (st.3).alike,
        )

  -- before the message is sent
  pub between-all : AllAgree (serving_in (sending t.sent) γ'' g)
  between-all = ended-all t.sent (record {
    sessions = finishing.ended-sessions g γ t u c sl in_slot opened;
    tokens = finishing.ended-tokens g γ t u c sl in_slot opened;
    logs = finished.between-logs g γ t u c sl in_slot opened;
    images = finished.between-images g γ t u c sl in_slot opened;
  }) (quiet-so-far g γ t st.3)

  abbrev pub told : Serving
  told = tell_ended c sl step'

  told-all : AllAgree (serving_in told γ'' g)
  told-all = ended-all told.sent (subst (λ z. BatchFacts (serving_in z γ' g)) (finishing.finish-is g γ t u c sl in_slot opened) (finished.finish-agrees g γ t u c sl in_slot opened))
      (quiet-with g γ t st.3 c (Ended sl.session sl.window.low sl.window.mask) tt)

  told-stands : Stands g told γ''
  told-stands = (
    record { committed = subst (λ d. step (record_of.End c s) d ≡ Ok d') (before-record g γ t u none) steps; shown = lines-are; invariant = told-all.0 },
    told-all.1,
    told-all.2,
    told-all.3,
  )

  pub finish-stands : Stands g (finish c sl t) γ''
  finish-stands = subst (λ z. Stands g z γ'') (sym (finishing.finish-is g γ t u c sl in_slot opened)) told-stands

  pub finish-spends : (finish c sl t).spent ≡ t.spent
  finish-spends = ap (λ z. z.spent) (finishing.finish-is g γ t u c sl in_slot opened)
