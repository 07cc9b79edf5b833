-- Where no session ended, each clerk that is in a session is in the one that the server has open.
use Rattle.std.proofs.Common.{◌≡◌, refl, sym, ap, subst, ◌∙◌, inl, inr, ◌<◌, ◌≤◌, ℕ, T, Bool, true, false, List, Option, Some, None}
use Rattle.std.specs.Prelude.{is_some}
use Rattle.ec_base.specs.Tables.{at}
use Rattle.ec_history.specs.Placing.{watch}
use Rattle.ec_history.specs.History.{Op}
use Rattle.ec_sessions.specs.declared.slot.Slot.{Slot}
use Rattle.ec_durable.specs.Durable.{slot}
use Rattle.ec_protocol.specs.Resumes.{open_in, open_session, session}
use Rattle.ec_protocol.specs.declared.clerk.Clerk.{Clerk}
use Rattle.ec_protocol.specs.declared.server.Server.{Server}
use Rattle.ec_protocol.specs.declared.world.World.{World}
use Rattle.ec_coherence.specs.System.{System, is_open}
use Rattle.ec_coherence.specs.Steps.{Stands}
use Rattle.ec_coherence.specs.Stops.{RunsOn}
use Rattle.ec_coherence.specs.CommitLaws.{AllAgree}
use Rattle.ec_coherence.proofs.ForBatches.OpenSlots.{owner-slot}
use Rattle.ec_coherence.proofs.ForServer.Tables.{same_some}
use Rattle.ec_lawful.specs.Asked.{ended_by}
use Rattle.ec_lawful.proofs.Events.{runs-in}
use Rattle.ec_base.proofs.Options.{none_some, some-at}
use Rattle.ec_lease_machine.proofs.OfPlain.Untold.{unended-told}

module _ (w : World) (g : System) (all : AllAgree g) (st : Stands w g) (untold : (c : ℕ) → ended_by c w.shown ≤ 0) where
  -- a clerk that runs isn't cut off
  told : (c : ℕ) → (watch c g.ghost.shown).untold ≡ None
  told c = ap (λ ss. (watch c ss).untold) (sym st.shown) ∙ unended-told c w.shown (untold c)

  module _ (c b s : ℕ) (k : Clerk) (run : g.running c ≡ Some b) (there : g.clerks c b ≡ Some k) (within : k.session ≡ Some s) where
    owner : g.ghost.owner s ≡ Some (c, k.age)
    owner = ((all.0).sessions.in_session c b s k there within).0

    here : (sl : Slot) × (slot g.durable c ≡ Some sl) × (sl.session ≡ s)
    here = (all.0).sessions.current c b s k run there within

    -- where some slot has the session open, it's the clerk's own
    own : T (is_open g s) → T here.0.is_open
    own o =
        let its = owner-slot g (all.0).sessions s o in
        let same : its.0 ≡ c = ap (λ p. p.0) (same_some (sym its.3 ∙ owner)) in
        subst (λ sl. T sl.is_open) (same_some (sym (its.2).0 ∙ ap (slot g.durable) same ∙ here.1)) (its.2).2

    unfrozen : (o : Option (List Op)) → g.ghost.frozen s ≡ o → T (is_some o) → ⊥
    unfrozen None q t = t
    unfrozen (Some ks) q t = none_some (sym (told c) ∙ ((all.0).events.cuts c b s k ks run there owner q).untold)

    opens : T here.0.is_open
    opens = elim ((all.0).images.cut_off s (subst (λ o. T (is_some o)) (sym owner) tt)) [ inl o ↦ own o | inr f ↦ absurd (unfrozen (g.ghost.frozen s) refl f) ]

    pub open-here : open_in (slot g.durable c) ≡ Some s
    open-here = ap open_in here.1 ∙ by here.0.is_open opens ∙ ap Some here.2
      where
        by : (z : Bool) → T z → elim z as (λ y. Option ℕ) [ true ↦ Some here.0.session | false ↦ None ] ≡ Some here.0.session
        by true t = refl
        by false t = absurd t

  -- so the running server has it
  served : (v : Server) → w.server ≡ Some v → v.durable ≡ g.durable
  served v q = (subst (RunsOn g) (sym st.server ∙ q) (all.0).stops.runs).0

  pub sessions-open : T (is_some w.server) → (c s : ℕ) → session c w ≡ Some s → open_session c w ≡ Some s
  sessions-open up c s q = by (at c w.clerks) refl q
    where
      v : (u : Server) × (w.server ≡ Some u)
      v = some-at w.server up

      by : (o : Option Clerk) → at c w.clerks ≡ o → elim o as (λ z. Option ℕ) [ None ↦ None | Some k ↦ k.session ] ≡ Some s → open_session c w ≡ Some s
      by None p e = absurd (none_some e)
      by (Some k) p e =
          let r = runs-in w g st c k p in
          ap (λ o. elim o as (λ z. Option ℕ) [ None ↦ None | Some u ↦ open_in (slot u.durable c) ]) v.1 ∙ ap (λ d. open_in (slot d c)) (served v.0 v.1) ∙ open-here c r.0 s k r.1 r.2 e

  -- each of the sixteen
  pub in-sixteen : (c s : ℕ) → session c w ≡ Some s → c < 16
  in-sixteen c s q = by (at c w.clerks) refl q
    where
      by : (o : Option Clerk) → at c w.clerks ≡ o → elim o as (λ z. Option ℕ) [ None ↦ None | Some k ↦ k.session ] ≡ Some s → c < 16
      by None p e = absurd (none_some e)
      by (Some k) p e = let r = runs-in w g st c k p in ((all.0).sessions.starts c r.0 k r.2).3
