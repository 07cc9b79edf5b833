-- Behind its tries a step ends with all facts.
use Rattle.std.proofs.Common.{◌≡◌, refl, sym, ap, ◌∙◌, inl, ℕ, ◌==◌, T, List, [], ◌∷◌}
use Rattle.std.specs.Prelude.{Option, None, Some}
use Rattle.ec_base.specs.Tables.{at}
use Rattle.ec_volume.specs.Update.{member}
use Rattle.ec_volume.specs.declared.image.Image.TheVariants.{Gone}
use Rattle.ec_history.specs.History.{Each}
use Rattle.ec_cache.specs.Cache.{held_image, images_held}
use Rattle.ec_cache.specs.declared.state.Held.{Held}
use Rattle.ec_protocol.specs.Clerk.{Doing, evict, first_id}
use Rattle.ec_coherence.specs.System.{System, Ghost, clerk_in, seen, seen_ops}
use Rattle.ec_coherence.specs.Steps.{doing_in, out_lines, sends}
use Rattle.ec_coherence.proofs.ForServer.Lists.{each-both}
use Rattle.ec_coherence.proofs.ForServer.Tables.{same_some}
use Rattle.ec_lawful.specs.OfClerkSteps.Waits.{HasLine, NoneReady, does_wait}
use Rattle.ec_lawful.proofs.OfClerkSteps.ForCalls.RestsBehind.{rests-behind}
use Rattle.ec_lawful.proofs.OfClerkSteps.ForCalls.Resting.{evicts-rest}
use Rattle.ec_lawful.proofs.OfClerkSteps.ForJoins.Going.{steps-keep-counts}
use Rattle.ec_lawful.proofs.ForWhole.From.{doubts-stay}
use Rattle.ec_lawful.proofs.OfClerkSteps.ForDoings.Calling.{order-agrees}
use Rattle.ec_lawful.proofs.OfClerkSteps.ForDoings.Moving as moving
use Rattle.ec_lawful.proofs.OfClerkSteps.ForNames.Storing.{same-image}
use Rattle.ec_lawful.specs.OfClerkSteps.Frees.{FullsAgree}
use Rattle.ec_lawful.specs.OfClerkSteps.Trying.{IsTrying}
use Rattle.std.proofs.lemmas.List.Elements.{Contains-append_left}
use Rattle.ec_lawful.specs.Whole.{Whole}
use Rattle.ec_lawful.specs.SettleLaws.{Beside, IsLined}
use Rattle.ec_lawful.proofs.ForBegins.Carrying.{in-hand}
use Rattle.ec_lawful.proofs.ForBegins.Readying.{evicts-lined, nothing}
use Rattle.ec_base.proofs.Numbers.{same-self as same}
use Rattle.ec_base.proofs.Bools.{or_first, holds-true as holds}

module _ (g : System) (c b : ℕ) (d : Doing) (γ : Ghost) (t : IsTrying g c b d γ) where
  -- the id that its next object would have is of none that it holds
  free-gone : (x : ℕ) → first_id d.clerk.ids ≡ Some x → images_held d.clerk.cache x ≡ Gone
  free-gone x e = by d.clerk.session refl
    where
      is-first : (ids : List ℕ) → first_id ids ≡ Some x → T (member x ids)
      is-first [] p = absurd (cc)
      is-first (y ∷ ids) p = or_first (x == y) _ (holds (x == y) (ap (λ z. x == z) (same_some p) ∙ same x))

      by : (o : Option ℕ) → d.clerk.session ≡ o → images_held d.clerk.cache x ≡ Gone
      by None p = ap (λ k. images_held k x) (nothing g c b d γ t p).cache
      by (Some s) p =
          let h = in-hand g c b s d γ t p in
          let there = moving.there g c b s d γ h.under_way in
          let q = (t.frees).unused s x d.clerk there (inl (is-first d.clerk.ids e)) in
          go s there (sym (same-image x (g.origin x) (seen_ops (γ.frozen s) γ.kept) q.0) ∙ refl) q.1 (at x d.clerk.cache.held) refl
        where
          go : (s : ℕ) → clerk_in (doing_in c b d γ g) s ≡ Some d.clerk → g.origin x ≡ seen (doing_in c b d γ g) s x → g.origin x ≡ Gone → (o : Option Held) → at x d.clerk.cache.held ≡ o → held_image o ≡ Gone
          go s there same_seen gone None f = refl
          go s there same_seen gone (Some o) f = (((t.stands).0).invariant).images.licences s x d.clerk there o f ∙ sym same_seen ∙ gone

module _ (g : System) (c b : ℕ) (γ : Ghost) (beside : Beside g c) where
  -- where all calls of the clerk wait, and no recall is ready
  pub ends-whole : (e : Doing) → IsLined g c b e γ → NoneReady e.clerk → Each (λ w. T (does_wait w e.clerk)) e.clerk.waiting → FullsAgree (doing_in c b e γ g) → Whole (doing_in c b e γ g)
  ends-whole e l none waits fulls =
      let t = l.trying in
      let st = t.stands in
      record {
        all = ((st.0).invariant, st.1, st.2, st.3);
        calls = t.calls;
        rest = rests-behind g c b e γ (out_lines c e.outs g.calls) (st.0).runs (st.0).shown beside.others (record { calls = each-both (λ w. T (does_wait w e.clerk)) (HasLine (doing_in c b e γ g) c) e.clerk.waiting waits l.lines; recalls = none });
        orderly = order-agrees g c b e γ beside.orderly t.orderly;
        names = t.names;
        zeros = t.zeros;
        frees = t.frees;
        cuts = t.cuts;
        counts = steps-keep-counts g c b e γ st.0 beside.counts;
        fulls = fulls;
        doubts = doubts-stay g (doing_in c b e γ g) refl (λ m q. Contains-append_left g.pool (sends c e.outs) m q) beside.doubts;
        shows = l.shows;
      }

  -- behind the tries the tokens that are too many go back
  pub steps-end : (d : Doing) → IsLined g c b d γ → NoneReady d.clerk → Each (λ w. T (does_wait w d.clerk)) d.clerk.waiting → FullsAgree (doing_in c b (evict d) γ g) → Whole (doing_in c b (evict d) γ g)
  steps-end d l none waits fulls =
      let rest = evicts-rest d (free-gone g c b d γ l.trying) waits none in
      ends-whole (evict d) (evicts-lined g c b d γ l) rest.1 rest.0 fulls
