-- What is known of a cut-off start is still known where its session's slot, its operations and its lines stay.
use Rattle.std.proofs.Common.{◌≡◌, refl, sym, ap, subst, ◌∙◌, ℕ, Bool, true, false, not, ◌&&◌, T, List, Some}
use Rattle.std.specs.List.{filter}
use Rattle.ec_history.specs.History.{Each, Op, numbers}
use Rattle.ec_history.specs.Placing.{watch}
use Rattle.ec_sessions.specs.declared.slot.Slot.{Slot}
use Rattle.ec_sessions.specs.declared.window.Window.{Window}
use Rattle.ec_durable.specs.Durable.{slot}
use Rattle.ec_log.specs.declared.state.LogState.{LogState}
use Rattle.ec_protocol.specs.declared.clerk.Clerk.{Clerk}
use Rattle.ec_coherence.specs.System.{System, is_of}
use Rattle.ec_coherence.specs.Log.{Knows}
use Rattle.ec_coherence.proofs.ForServer.Lists.{each-always, each-both, each-part, each-turn, filter-alike}
use Rattle.ec_lawful.specs.OfClerkSteps.Cuts.{CutKnows, lost_of}

-- which of these operations are durable is all that is read of it
pub knows-durable : (l : LogState) (w : Window) (os : List Op) (dur now : Op → Bool) → Each (λ o. now o ≡ dur o) os → Knows l w os dur → Knows l w os now
knows-durable l w os dur now same kn = record {
  known = kn.known;
  durable = kn.durable;
  agrees = each-turn (λ o. (now o ≡ dur o) × (dur o ≡ kn.durable o.number)) (λ o. now o ≡ kn.durable o.number) os (λ o e. e.0 ∙ e.1) (each-both (λ o. now o ≡ dur o) (λ o. dur o ≡ kn.durable o.number) os same kn.agrees);
  sure = kn.sure;
  rest = kn.rest;
  tells = kn.tells;
  log = kn.log;
  window = kn.window;
  later = kn.later;
  marks = kn.marks;
  limit = kn.limit;
}

module _ (g h : System) (c s : ℕ) (k now : Clerk) (ks : List Op) (log : (sl : Slot) → slot g.durable c ≡ Some sl → (os : List Op) (dur : Op → Bool) → Knows k.log sl.window os dur → Knows now.log sl.window os dur) (slots : slot h.durable c ≡ slot g.durable c) (owner : h.ghost.owner s ≡ g.ghost.owner s)
    (durable : (o : Op) → T (is_of (g.ghost.owner s) o) → h.ghost.is_durable o ≡ g.ghost.is_durable o) (untold : (watch c h.ghost.shown).untold ≡ (watch c g.ghost.shown).untold) where
  same-lost : lost_of h.ghost s ks ≡ lost_of g.ghost s ks
  same-lost = ap (λ o. filter (λ k. is_of o k && not (h.ghost.is_durable k)) ks) owner
      ∙ filter-alike (λ k. is_of (g.ghost.owner s) k && not (h.ghost.is_durable k)) (λ k. is_of (g.ghost.owner s) k && not (g.ghost.is_durable k)) ks
      (each-always (λ k. (is_of (g.ghost.owner s) k && not (h.ghost.is_durable k)) ≡ (is_of (g.ghost.owner s) k && not (g.ghost.is_durable k))) ks (λ o. go (is_of (g.ghost.owner s) o) (h.ghost.is_durable o) (g.ghost.is_durable o) (durable o)))
    where
      go : (z x y : Bool) → (T z → x ≡ y) → (z && not x) ≡ (z && not y)
      go true x y f = ap not (f tt)
      go false x y f = refl

  pub keeps-knowing : CutKnows g c s k ks → CutKnows h c s now ks
  keeps-knowing q = record {
    knows = λ sl p. subst (λ o. Knows now.log sl.window (filter (is_of o) ks) h.ghost.is_durable) (sym owner)
        (knows-durable now.log sl.window (filter (is_of (g.ghost.owner s)) ks) g.ghost.is_durable h.ghost.is_durable
        (each-part (λ o. h.ghost.is_durable o ≡ g.ghost.is_durable o) (is_of (g.ghost.owner s)) ks (each-always (λ o. T (is_of (g.ghost.owner s) o) → h.ghost.is_durable o ≡ g.ghost.is_durable o) ks durable))
        (log sl (sym slots ∙ p) (filter (is_of (g.ghost.owner s)) ks) g.ghost.is_durable (q.knows sl (sym slots ∙ p))));
    untold = untold ∙ q.untold ∙ ap (λ os. Some (numbers os)) (sym same-lost);
  }
