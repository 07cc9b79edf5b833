-- What clerks hold under their licences, where all facts hold.
use Rattle.std.proofs.Common.{◌≡◌, ◌≢◌, refl, sym, ap, subst, ◌∙◌, ◌<◌, ◌≤◌, ℕ, T, not, Option, Some, None}
use Rattle.std.specs.Prelude.{Ok, Err}
use Rattle.ec_base.specs.Holds.{clash, rank}
use Rattle.ec_base.specs.Tables.{at}
use Rattle.ec_base.specs.declared.ids.Hold.{Hold}
use Rattle.ec_volume.specs.Volume.{after}
use Rattle.ec_history.specs.History.{kept, updates}
use Rattle.ec_history.specs.Placing.{place}
use Rattle.ec_sessions.specs.declared.slot.Slot.{Slot}
use Rattle.ec_durable.specs.Durable.{slot}
use Rattle.ec_durable.specs.declared.state.Durable.{Durable}
use Rattle.ec_durable.specs.declared.record.Record.{Record}
use Rattle.ec_cache.specs.declared.state.Held.{Held}
use Rattle.ec_protocol.specs.declared.clerk.Clerk.{Clerk}
use Rattle.ec_protocol.specs.declared.world.World.{World}
use Rattle.ec_coherence.specs.System.{System, base_of, clerk_in, is_open, seen_ops}
use Rattle.ec_coherence.specs.Steps.{Stands, found}
use Rattle.ec_coherence.specs.Stops.{MayStep}
use Rattle.ec_coherence.specs.Tokens.{eff, eff_hold, view}
use Rattle.ec_coherence.proofs.ForBatches.ClerkIn.{was-in}
use Rattle.ec_coherence.proofs.ForServer.SlotLaws.{open-at}
use Rattle.ec_coherence.proofs.ForServer.Tables.{clash-below, clash-turn, same_some}
use Rattle.ec_coherence.specs.CommitLaws.{AllAgree}
use Rattle.ec_coherence.proofs.ForCommits.Answering.{shown-updates}
use Rattle.ec_coherence.proofs.ForCommits.Touching.{token-of}
use Rattle.ec_lawful.specs.Coherent.{HasLicence, HoldsToken, left_by}
use Rattle.ec_lawful.proofs.OpenSlots.{open-before}
use Rattle.ec_base.proofs.Options.{none_some}

-- two weaker modes don't conflict either
weaker-apart : (a b e f : Hold) → rank a ≤ rank e → rank b ≤ rank f → T (not (clash e f)) → T (not (clash a b))
weaker-apart a b e f p q n =
    subst (λ z. T (not z)) (clash-turn b a) (clash-below b f a q (subst (λ z. T (not z)) (clash-turn a f) (clash-below a e f p n)))

module _ (g : System) (all : AllAgree g) (w : World) (st : Stands w g) where
  -- A licence is of a session that is open, whose clerk is in it.
  record InSession (c : ℕ) (k : Clerk) : Type 0 where
    session : ℕ
    opened : T (is_open g session)
    owner : g.ghost.owner session ≡ Some (c, k.age)
    there : clerk_in g session ≡ Some k

  running-in : (c : ℕ) (k : Clerk) → at c w.clerks ≡ Some k → (b : ℕ) × (g.running c ≡ Some b) × (g.clerks c b ≡ Some k)
  running-in c k q = go (g.running c) refl (sym (st.clerks c) ∙ q)
    where
      go : (o : Option ℕ) → g.running c ≡ o → elim o as (λ z. Option Clerk) [ None ↦ None | Some b ↦ g.clerks c b ] ≡ Some k → (b : ℕ) × (g.running c ≡ Some b) × (g.clerks c b ≡ Some k)
      go None e p = absurd (none_some p)
      go (Some b) e p = (b, e, p)

  -- a session that is open on the disk is open, whatever record is in doubt
  open-still : (c : ℕ) (sl sm : Slot) → slot g.durable c ≡ Some sl → sl.session < g.durable.next_session → slot w.durable c ≡ Some sm → T sm.is_open → sm.session ≡ sl.session → T sl.is_open
  open-still c sl sm p l q t e = go g.unshown (all.0).stops.doubt (sym (ap (λ d. slot d c) st.durable) ∙ q)
    where
      go : (o : Option Record) → MayStep g o → slot (found o g.durable) c ≡ Some sm → T sl.is_open
      go None may r = subst (λ z. T z.is_open) (same_some (sym r ∙ p)) t
      go (Some r) may s =
          open-before r g.durable may.0 may.1 c sl sm p l (ap (λ d. slot d c) (sym (ap (λ z. elim z as (λ y. Durable) [ Ok d ↦ d | Err f ↦ g.durable ]) may.1)) ∙ s) t e

  in-session : (c : ℕ) (k : Clerk) → HasLicence w c k → InSession c k
  in-session c k l =
      let run = running-in c k l.runs in
      let s = l.slot_of.session in
      let its = (all.0).sessions.in_session c run.0 s k run.2 l.in_session in
      let now = (all.0).sessions.current c run.0 s k run.1 run.2 l.in_session in
      let known = (all.0).sessions.slots c now.0 now.1 in
      record {
        session = s;
        opened = open-at g.durable.sessions c s now.0 now.1 (open-still c now.0 l.slot_of now.1 known.1 l.in_slot l.is_open (sym now.2)) now.2;
        owner = its.0;
        there = was-in g.ghost.owner g.clerks c s k.age k k its.0 (subst (λ b. g.clerks c b ≡ Some k) (sym ((all.0).sessions.starts c run.0 k run.2).1) run.2) l.in_session l.in_session;
      }

  -- what is held is allowed by the session's token
  allowed : (c x : ℕ) (h : Held) (o : HoldsToken w c x h) → rank h.hold ≤ rank (eff_hold (eff (view g) (in-session c o.clerk o.licence).session x))
  allowed c x h o = let i = in-session c o.clerk o.licence in token-of g (all.0).tokens i.session x o.clerk i.there h o.held

  pub no-conflict : (c d x : ℕ) (h k : Held) → c ≢ d → HoldsToken w c x h → HoldsToken w d x k → T (not (clash h.hold k.hold))
  no-conflict c d x h k n a b =
      let i = in-session c a.clerk a.licence in
      let j = in-session d b.clerk b.licence in
      weaker-apart h.hold k.hold (eff_hold (eff (view g) i.session x)) (eff_hold (eff (view g) j.session x)) (allowed c x h a) (allowed d x k b)
      ((all.0).tokens.exclusive i.session j.session x (λ e. n (ap (λ o. o.0) (same_some (sym i.owner ∙ ap g.ghost.owner e ∙ j.owner)))) i.opened j.opened)

  -- the operations that the shown lines keep
  same-updates : updates (kept (base_of g) (place w.shown)) ≡ updates g.ghost.kept
  same-updates = ap (λ ss. updates (kept (base_of g) (place ss))) st.shown ∙ ap (λ h. updates (kept (base_of g) h)) (all.0).events.placed ∙ ap updates (all.0).events.keeps ∙ shown-updates g g.ghost.kept

  pub held-image : (c x : ℕ) (h : Held) → HoldsToken w c x h → h.image ≡ left_by (base_of g) (kept (base_of g) (place w.shown)) x
  held-image c x h o =
      let i = in-session c o.clerk o.licence in
      (all.0).images.licences i.session x o.clerk i.there h o.held ∙ ap (λ z. after g.origin (updates (seen_ops z g.ghost.kept)) x) ((all.0).images.unfrozen i.session i.opened) ∙ ap (λ us. after g.origin us x) (sym same-updates)
