-- What calls can come upon is named, and stays so behind a step of a clerk.
use Rattle.std.proofs.Common.{◌≡◌, refl, sym, ap, subst, ◌∙◌, inl, inr, ℕ, Bool, true, false, ◌&&◌, ◌==◌, T, List, [], ◌∷◌}
use Rattle.std.specs.Prelude.{Option, None, Some}
use Rattle.ec_base.specs.Tables.{at, or_else}
use Rattle.ec_base.specs.declared.ids.Age.{Age}
use Rattle.ec_volume.specs.Update.{operands, root}
use Rattle.ec_volume.specs.declared.update.Update.{Update}
use Rattle.ec_history.specs.History.{Each, Op}
use Rattle.ec_history.proofs.OfLaws.ForPlacing.Touching.{plain-touches}
use Rattle.ec_plain.specs.Plain.{plain}
use Rattle.ec_plain.specs.declared.call.Call.{Call}
use Rattle.ec_plain.specs.declared.call.Outcome.{Outcome}
use Rattle.ec_cache.specs.Cache.{held_image, images_held}
use Rattle.ec_cache.specs.declared.state.Held.{Held}
use Rattle.ec_cache.specs.OfResolve.Agreement.{IsFirst}
use Rattle.ec_cache.specs.declared.resolve.verdict.Verdict.{Verdict}
use Rattle.ec_cache.specs.declared.resolve.verdict.Verdict.TheVariants.{Need, Lost, NeedIds, Done}
use Rattle.ec_cache.proofs.OfResolve.Verdicts.{done-says, need-says}
use Rattle.ec_wire.specs.Messages.{is_held_mode}
use Rattle.ec_protocol.specs.Clerk.{Doing, first_id, need_of, verdict, is_session}
use Rattle.ec_protocol.specs.declared.clerk.Clerk.{Clerk}
use Rattle.ec_coherence.specs.System.{System, Ghost, clerk_in, clerk_of, if_in, seen, seen_ops, with_start}
use Rattle.ec_coherence.specs.Steps.{doing_in}
use Rattle.ec_coherence.specs.Tokens.{Names, view}
use Rattle.ec_coherence.specs.Images.{ImagesAgree}
use Rattle.ec_coherence.proofs.ForClerk.Acting.{IsIn, view-is}
use Rattle.ec_coherence.proofs.ForClerk.Goes.{names-act}
use Rattle.ec_coherence.proofs.ForServer.Lists.{each-at, each-back, each-both, each-member, each-turn}
use Rattle.ec_coherence.proofs.ForCommits.Needs.{asks-held}
use Rattle.ec_coherence.proofs.ForServer.Tables.{same_some}
use Rattle.ec_lawful.specs.OfClerkSteps.Names.{AreOnNamed, NamesAgree}
use Rattle.ec_lawful.proofs.OfClerkSteps.ForDoings.Entries.{Of, after-in}
use Rattle.ec_lawful.proofs.OfClerkSteps.ForDoings.Touched.{touched-on}
use Rattle.ec_base.proofs.Numbers.{same-self as same, equal}

-- What a verdict needs.

module _ (P : ℕ → Type 0) (is-root : P root) (cl : Call) (k : Clerk) (names : (x : ℕ) → Of P (images_held k.cache x)) (ids : Each P k.ids) where
  -- the id that a new object may have
  abbrev id : ℕ
  id = or_else root (first_id k.ids)

  id-named : P id
  id-named = go k.ids ids
    where
      go : (xs : List ℕ) → Each P xs → P (or_else root (first_id xs))
      go [] h = is-root
      go (x ∷ xs) h = h.0

  abbrev out : Outcome
  out = plain (images_held k.cache) cl id

  touched : Each P out.touched
  touched = touched-on P (images_held k.cache) is-root names cl id id-named

  written : (u : Update) → out.update ≡ Some u → Each P (operands u)
  written u e = each-member P (operands u) (λ x m. each-at P x out.touched touched (plain-touches (images_held k.cache) cl id u e x m))

  first-of : (p : ℕ → Bool) (x : ℕ) (xs : List ℕ) → IsFirst p x xs → Each P xs → P x
  first-of p x xs f h = (each-back P f.front (x ∷ f.back) (subst (Each P) f.whole h)).0

  pub verdict-named : Each (λ q. P q.0) (need_of (verdict cl k))
  verdict-named = go (verdict cl k) refl
    where
      go : (w : Verdict) → verdict cl k ≡ w → Each (λ q. P q.0) (need_of w)
      go (Need x h) e = (
        elim (need-says k.cache k.owed cl (first_id k.ids) x h e (images_held k.cache) (record { images = λ o t. refl; unmade = λ o t. refl }) id (λ y p. ap (or_else root) p)) [
          | inl r ↦ first-of _ x out.touched r.1 touched
          | inr w ↦ first-of _ x (operands (w.1).update) (w.1).first (written (w.1).update (w.1).issued)
        ],
        tt,
      )
      go (Lost ns xs) e = tt
      go (NeedIds xs) e = tt
      go (Done o) e = tt

  -- the operands of what is issued are named
  pub done-named : (o : Outcome) → verdict cl k ≡ Done o → (u : Update) → o.update ≡ Some u → Each P (operands u)
  done-named o e u q =
      written u (ap (λ z. z.update) (done-says k.cache k.owed cl (first_id k.ids) o e (images_held k.cache) (record { images = λ x t. refl; unmade = λ x t. refl }) id (λ y p. ap (or_else root) p)) ∙ q)

-- What is seen has such entries.

module _ (g : System) (na : NamesAgree g) where
  pub seen-named : (s x : ℕ) → Of (Names (view g)) (seen g s x)
  seen-named s x = go (g.ghost.frozen s) refl
    where
      go : (o : Option (List Op)) → g.ghost.frozen s ≡ o → Of (Names (view g)) (Rattle.ec_volume.specs.Volume.after g.origin (Rattle.ec_history.specs.History.updates (seen_ops o g.ghost.kept)) x)
      go None e = after-in (Names (view g)) g.ghost.kept x (g.origin x) na.kept (na.origin x)
      go (Some ks) e = after-in (Names (view g)) ks x (g.origin x) (na.frozen s ks e) (na.origin x)

  module _ (im : ImagesAgree g) (s : ℕ) (k : Clerk) (there : clerk_in g s ≡ Some k) where
    pub held-named : (x : ℕ) → Of (Names (view g)) (images_held k.cache x)
    held-named x = go (at x k.cache.held) refl
      where
        go : (o : Option Held) → at x k.cache.held ≡ o → Of (Names (view g)) (held_image o)
        go None e = tt
        go (Some h) e = subst (Of (Names (view g))) (sym (im.licences s x k there h e)) (seen-named s x)

    -- each need is of a mode that can be held, and named
    pub needs-named : (cl : Call) → Each (λ q. T (is_held_mode q.1) × Names (view g) q.0) (need_of (verdict cl k))
    needs-named cl = each-both (λ q. T (is_held_mode q.1)) (λ q. Names (view g) q.0) (need_of (verdict cl k)) (asks-held k.cache k.owed cl (first_id k.ids))
        (verdict-named (Names (view g)) na.root cl k held-named (na.ids s k there))

-- Behind a step of a clerk in a session.

module _ (g : System) (c b s : ℕ) (γ : Ghost) (d e : Doing) (in-d : IsIn g γ c b s d.clerk) (in-e : IsIn g γ c b s e.clerk) where
  abbrev was : System
  was = doing_in c b d γ g

  abbrev now : System
  now = doing_in c b e γ g

  -- it's in no other session
  in-other : (t : ℕ) → (t == s) ≡ false → clerk_in now t ≡ clerk_in was t
  in-other t q = by (γ.owner t)
    where
      none : (k : Clerk) → k.session ≡ Some s → if_in t (Some k) ≡ None
      none k p = ap (λ z. elim (is_session t z) as (λ y. Option Clerk) [ true ↦ Some k | false ↦ None ]) p ∙ ap (λ z. elim z as (λ y. Option Clerk) [ true ↦ Some k | false ↦ None ]) q

      by : (o : Option (ℕ × Age)) → clerk_of t o (with_start c b e.clerk g.clerks) ≡ clerk_of t o (with_start c b d.clerk g.clerks)
      by None = refl
      by (Some o) = go ((o.0 == c) && ((o.1).boot == b))
        where
          go : (z : Bool) → if_in t (elim z as (λ y. Option Clerk) [ true ↦ Some e.clerk | false ↦ g.clerks o.0 (o.1).boot ]) ≡ if_in t (elim z as (λ y. Option Clerk) [ true ↦ Some d.clerk | false ↦ g.clerks o.0 (o.1).boot ])
          go true = none e.clerk in-e.session ∙ sym (none d.clerk in-d.session)
          go false = refl

  in-own : clerk_in now s ≡ Some e.clerk
  in-own = ap (λ o. clerk_of s o (with_start c b e.clerk g.clerks)) in-e.owner ∙ ap (if_in s) (at-start (g.clerks c (in-e.age).boot)) ∙ ap (λ z. elim (is_session s z) as (λ y. Option Clerk) [ true ↦ Some e.clerk | false ↦ None ]) in-e.session
      ∙ ap (λ z. elim z as (λ y. Option Clerk) [ true ↦ Some e.clerk | false ↦ None ]) (same s)
    where
      at-start : (k : Option Clerk) → elim ((c == c) && ((in-e.age).boot == b)) as (λ y. Option Clerk) [ true ↦ Some e.clerk | false ↦ k ] ≡ Some e.clerk
      at-start k = ap (λ z. elim z as (λ y. Option Clerk) [ true ↦ Some e.clerk | false ↦ k ]) (both (c == c) ((in-e.age).boot == b) (same c) (ap (λ z. z == b) in-e.boot ∙ same b))
        where
          both : (x y : Bool) → x ≡ true → y ≡ true → (x && y) ≡ true
          both x y p q = cc

  -- where what is named stays so, and its ids are
  pub names-stay : ((x : ℕ) → Names (view was) x → Names (view now) x) → (Each (Names (view was)) d.clerk.ids → Each (Names (view now)) e.clerk.ids) → clerk_in was s ≡ Some d.clerk → NamesAgree was → NamesAgree now
  names-stay more ids there na = record {
    root = more root na.root;
    origin = λ x. each-turn (λ z. Names (view was) z.1) (λ z. Names (view now) z.1) (Rattle.ec_volume.specs.Image.entries_of (g.origin x)) (λ z f. more z.1 f) (na.origin x);
    kept = all γ.kept na.kept;
    frozen = λ t ks p. all ks (na.frozen t ks p);
    ids = λ t k p. by t k p (t == s) refl;
  }
    where
      all : (os : List Op) → AreOnNamed was os → AreOnNamed now os
      all os h = each-turn (λ o. Each (Names (view was)) (operands o.update)) (λ o. Each (Names (view now)) (operands o.update)) os (λ o f. each-turn (Names (view was)) (Names (view now)) (operands o.update) more f) h

      by : (t : ℕ) (k : Clerk) → clerk_in now t ≡ Some k → (z : Bool) → (t == s) ≡ z → Each (Names (view now)) k.ids
      by t k p true q = subst (λ m. Each (Names (view now)) m.ids) (same_some (sym in-own ∙ ap (clerk_in now) (sym (equal t s q)) ∙ p)) (ids (na.ids s d.clerk there))
      by t k p false q = each-turn (Names (view was)) (Names (view now)) k.ids more (na.ids t k (sym (in-other t q) ∙ p))

  -- where it took no ids, and has no new ones
  pub names-kept : e.clerk.got ≡ d.clerk.got → (Each (Names (view was)) d.clerk.ids → Each (Names (view was)) e.clerk.ids) → clerk_in was s ≡ Some d.clerk → NamesAgree was → NamesAgree now
  names-kept same_got ids there na = names-stay more (λ h. each-turn (Names (view was)) (Names (view now)) e.clerk.ids more (ids h)) there na
    where
      more : (x : ℕ) → Names (view was) x → Names (view now) x
      more x f = subst (λ v. Names v x) (sym (view-is g c b s e γ in-e)) (names-act (view (record g { ghost = γ })) c s d e same_got x (subst (λ v. Names v x) (view-is g c b s d γ in-d) f))
