-- A clerk answers recalls: it lowers its token, where nothing undurable has the object, and says so.
use Rattle.std.proofs.Common.{◌≡◌, refl, sym, ap, subst, ◌∙◌, inl, inr, ℕ, Bool, true, false, not, ◌||◌, ◌==◌, cond, T, List, [], ◌∷◌, ◌++◌}
use Rattle.std.specs.Prelude.{Option, None, Some, is_none}
use Rattle.ec_base.specs.Holds.{is_free, is_write, weaker}
use Rattle.ec_base.specs.Tables.{at, without}
use Rattle.ec_base.specs.declared.ids.Hold.{Hold}
use Rattle.ec_base.specs.declared.ids.Hold.TheVariants.{Free, Read, Write}
use Rattle.ec_volume.specs.Update.{has_operand, member, operands}
use Rattle.ec_history.specs.History.{Each, Op}
use Rattle.ec_order.specs.Order.{Holds}
use Rattle.ec_wire.specs.Messages.{is_lowered_mode}
use Rattle.ec_wire.specs.declared.msg.Msg.TheVariants.{Back}
use Rattle.ec_cache.specs.Cache as cache
use Rattle.ec_cache.specs.Cache.{held_mode, mode}
use Rattle.ec_cache.specs.declared.state.CacheState.{CacheState}
use Rattle.ec_cache.specs.declared.state.Held.{Held}
use Rattle.ec_log.specs.Log.{first}
use Rattle.ec_log.specs.declared.state.Asked.TheVariants as asked
use Rattle.ec_protocol.specs.Clerk.{Doing, answer_recalls, ask_for, epoch, give_back, is_ready, is_settled, keep_recall, left_of, lower_held, session, try_recalls}
use Rattle.ec_protocol.specs.declared.clerk.Clerk.{Clerk}
use Rattle.ec_protocol.specs.declared.clerk.Recalled.{Recalled}
use Rattle.ec_coherence.specs.System.{System, Ghost, is_of, is_open}
use Rattle.ec_coherence.specs.Tokens.{IsWrite, Names, side, side_in, view}
use Rattle.ec_coherence.specs.Steps.{doing_in}
use Rattle.ec_coherence.specs.ChangeLaws.{LogsAndImages, with_clerk}
use Rattle.ec_coherence.proofs.ForClerk.Caches.{at-lowered, at_most}
use Rattle.ec_coherence.proofs.ForClerk.GiveBack.{goes-back}
use Rattle.ec_coherence.proofs.ForClerk.Keyed.{keyed-lowered}
use Rattle.ec_coherence.proofs.ForServer.Lists.{each-always, each-at, each-member, each-more, each-turn, either_way}
use Rattle.ec_coherence.proofs.ForServer.Tables.{at-without, fails, same_some}
use Rattle.ec_coherence.proofs.ForClerk.TakeRecall.{clear-agrees, keep-agrees}
use Rattle.ec_coherence.specs.StandLaws.{IsUnderWay}
use Rattle.ec_lawful.specs.OfClerkSteps.DoingLaws.{IsInHand}
use Rattle.ec_lawful.proofs.OfClerkSteps.ForDoings.CacheLogs as kept
use Rattle.ec_lawful.proofs.OfClerkSteps.ForDoings.Hand as hand
use Rattle.ec_lawful.proofs.OfClerkSteps.ForDoings.Moving as moving
use Rattle.ec_lawful.proofs.OfClerkSteps.ForDoings.Undurable.{left-held, settled-apart}
use Rattle.ec_base.proofs.Numbers.{equal}
use Rattle.ec_base.proofs.Bools.{not-both as no_both, no-longer as is-false}

-- the mode that is left is a lowered one
left-lowered : (r : Recalled) (o : Option Held) → T (is_lowered_mode r.to) → T (is_lowered_mode (left_of r o))
left-lowered r None t = tt
left-lowered r (Some h) t = go (h.number == r.number)
  where
    weak : (a b : Hold) → T (is_lowered_mode a) → T (is_lowered_mode (weaker a b))
    weak Free Free l = tt
    weak Free Read l = tt
    weak Free Write l = tt
    weak Read Free l = tt
    weak Read Read l = tt
    weak Read Write l = tt
    weak Write b l = absurd l

    go : (z : Bool) → T (is_lowered_mode (elim z as (λ y. Hold) [ true ↦ weaker r.to h.hold | false ↦ Free ]))
    go true = weak r.to h.hold t
    go false = tt

-- What is held behind it.

-- elsewhere the same
off-lowered : (y x : ℕ) (to : Hold) (o : Option Held) (k : CacheState) → (y == x) ≡ false → at y (lower_held x to o k).held ≡ at y k.held
off-lowered y x to None k e = refl
off-lowered y x to (Some h) k e = go (is_free to)
  where
    go : (z : Bool) → at y (cond z (without x k.held) (cache.lowered x to k.held)) ≡ at y k.held
    go true = at-without y x k.held ∙ ap (λ z. cond z None (at y k.held)) e
    go false = at-lowered y x to k.held ∙ ap (λ z. cond z (at_most to (at y k.held)) (at y k.held)) e

-- and there the same image, where anything is
on-lowered : (y x : ℕ) (to : Hold) (o : Option Held) (k : CacheState) → (y == x) ≡ true → (h : Held) → at y (lower_held x to o k).held ≡ Some h → (p : Held) × (at y k.held ≡ Some p) × (h.image ≡ p.image)
on-lowered y x to None k e h q = (h, q, refl)
on-lowered y x to (Some d) k e h q = go (is_free to) q
  where
    none : {A : Type 0} → ◌≡◌ {A = Option Held} None (Some h) → A
    none p = absurd (Rattle.ec_base.proofs.Options.none_some p)

    most : (o : Option Held) → at_most to o ≡ Some h → (p : Held) × (o ≡ Some p) × (h.image ≡ p.image)
    most None p = none p
    most (Some p) r = (p, refl, ap (λ z. z.image) (sym (same_some r)))

    go : (z : Bool) → at y (cond z (without x k.held) (cache.lowered x to k.held)) ≡ Some h → (p : Held) × (at y k.held ≡ Some p) × (h.image ≡ p.image)
    go true r = none (sym (at-without y x k.held ∙ ap (λ z. cond z None (at y k.held)) e) ∙ r)
    go false r = most (at y k.held) (sym (at-lowered y x to k.held ∙ ap (λ z. cond z (at_most to (at y k.held)) (at y k.held)) e) ∙ r)

module _ (g : System) (c b s : ℕ) (d : Doing) (γ : Ghost) (h : IsInHand g c b s d γ) (r : Recalled) (lowered : T (is_lowered_mode r.to)) (names : Names (view (doing_in c b d γ g)) r.obj) where
  abbrev u : IsUnderWay g c b s d γ
  u = h.under_way

  abbrev here : System
  here = doing_in c b d γ g

  abbrev k : CacheState
  k = d.clerk.cache

  abbrev to : Hold
  to = left_of r (at r.obj k.held)

  abbrev now : Clerk
  now = record (d.clerk) { cache = cache.passed r.obj r.number (lower_held r.obj to (at r.obj k.held) k) }

  -- it's ready: no operation that may be lost has the object, unless it isn't held for writing
  module _ (ready : is_ready r d.clerk ≡ true) where
    no-settled : (n : ℕ) (w : Rattle.ec_volume.specs.declared.update.Update.Update) → Holds d.clerk.log.undurable n w → IsWrite (at r.obj k.held) → has_operand r.obj w ≡ false
    no-settled n w p i = go (is_write (mode r.obj k)) (is_settled (asked.Object r.obj) d.clerk) refl refl ready
      where
        write : (o : Option Held) → IsWrite o → is_write (held_mode o) ≡ true
        write None i = absurd i
        write (Some o) i = Rattle.ec_base.proofs.Bools.is-true (is_write o.hold) i

        none : (o : Option ℕ) → is_none o ≡ true → o ≡ None
        none None e = refl
        none (Some z) e = absurd (cc)

        go : (a z : Bool) → is_write (mode r.obj k) ≡ a → is_settled (asked.Object r.obj) d.clerk ≡ z → (not a || z) ≡ true → has_operand r.obj w ≡ false
        go true true e f q = settled-apart r.obj d.clerk.log n w p (none (first (asked.Object r.obj) d.clerk.log) f)
        go true false e f q = absurd (cc)
        go false z e f q = absurd (let y = write (at r.obj k.held) i in let x : false ≡ true = sym e ∙ y in cc)

    stays : (o : Op) → Holds d.clerk.log.undurable o.number o.update → Each (λ x. IsWrite (at x k.held)) (operands o.update) → Each (λ x. IsWrite (at x now.cache.held)) (operands o.update)
    stays o p w = each-member (λ x. IsWrite (at x now.cache.held)) (operands o.update) (λ x m. by x m (each-at (λ x. IsWrite (at x k.held)) x (operands o.update) w m) (x == r.obj) refl)
      where
        by : (x : ℕ) → T (member x (operands o.update)) → IsWrite (at x k.held) → (z : Bool) → (x == r.obj) ≡ z → IsWrite (at x now.cache.held)
        by x m i false e = subst IsWrite (sym (off-lowered x r.obj to (at r.obj k.held) k e)) i
        by x m i true e = absurd (no_both (has_operand r.obj o.update) (subst (λ z. T (has_operand z o.update)) (equal x r.obj e) m) (fails (has_operand r.obj o.update) (no-settled o.number o.update p (subst (λ z. IsWrite (at z k.held)) (equal x r.obj e) i))))

    all : Rattle.ec_coherence.specs.CommitLaws.AllAgree here
    all = moving.all g c b s d γ u

    all-stay : Each (kept.Stays here (all.0).logs (all.0).images c s u.age d.clerk now (moving.its g c b s d γ u) refl refl refl refl here.calls ((c, Back (session d) (epoch d) r.obj r.number to) ∷ [])) γ.kept
    all-stay = elim (either_way (is_open here s)) [
      | inl o ↦ each-turn (λ x. T (is_of (γ.owner s) x) → T (not (γ.is_durable x)) → Holds d.clerk.log.undurable x.number x.update) _ γ.kept (λ x f n i p w. stays x (f i n) w)
          (left-held here (all.0).sessions (all.0).logs s d.clerk (moving.there g c b s d γ u) o)
      | inr o ↦ each-always _ γ.kept (λ x n i p w. absurd (no_both (is_open here s) p o))
    ]

    both : LogsAndImages (with_clerk here c (u.age).boot now here.calls ((c, Back (session d) (epoch d) r.obj r.number to) ∷ []))
    both = kept.held-both here (all.0).logs (all.0).images c s u.age d.clerk now (moving.its g c b s d γ u) refl refl refl refl here.calls ((c, Back (session d) (epoch d) r.obj r.number to) ∷ []) all-stay
        (λ x o e. let q = image x o e in q.2 ∙ (all.0).images.licences s x d.clerk (moving.there g c b s d γ u) q.0 q.1) (tt, tt)
      where
        image : (x : ℕ) (o : Held) → at x now.cache.held ≡ Some o → (p : Held) × (at x k.held ≡ Some p) × (o.image ≡ p.image)
        image x o e = go (x == r.obj) refl
          where
            go : (z : Bool) → (x == r.obj) ≡ z → (p : Held) × (at x k.held ≡ Some p) × (o.image ≡ p.image)
            go true q = on-lowered x r.obj to (at r.obj k.held) k q o e
            go false q = (o, sym (off-lowered x r.obj to (at r.obj k.held) k q) ∙ e, refl)

    pub gives-back : IsInHand g c b s (give_back r d) γ
    gives-back = hand.still g c b s d γ h (give_back r d)
        (moving.does g c b s d γ u now (record { id = refl; age = refl; session = refl; owed = refl; next = refl }) (Back (session d) (epoch d) r.obj r.number to ∷ [])
        ((moving.mine g c b s d γ u, left-lowered r (at r.obj k.held) lowered, tt), tt)
        (goes-back (view (record g { ghost = γ })) c s d r d (moving.goes g c b s d γ u) (hand.name-acting g c b s d γ h r.obj names)).agree both)
        (keyed-lowered k (hand.keyed g c b s d γ h) r.obj to (at r.obj k.held)) (hand.trim g c b s d γ h) refl (λ i. i)

  -- it's kept
  pub keeps : IsInHand g c b s (keep_recall r d) γ
  keeps = hand.still g c b s d γ h (keep_recall r d)
      (moving.changes g c b s d γ u (record (d.clerk) { recalls = d.clerk.recalls ++ r ∷ [] }) (record { id = refl; age = refl; session = refl; owed = refl; next = refl })
      (keep-agrees (view (record g { ghost = γ })) c s r d (moving.goes g c b s d γ u).agree (hand.name-acting g c b s d γ h r.obj names))
      (let all = moving.all g c b s d γ u in let now : Clerk = record (d.clerk) { recalls = d.clerk.recalls ++ r ∷ [] } in let its = moving.its g c b s d γ u in
      kept.held-both here (all.0).logs (all.0).images c s u.age d.clerk now its refl refl refl refl here.calls []
      (kept.all-stay here (all.0).logs (all.0).images c s u.age d.clerk now its refl refl refl refl here.calls [] (λ x w. w))
      (λ x o e. (all.0).images.licences s x d.clerk (moving.there g c b s d γ u) o e) tt))
      (hand.keyed g c b s d γ h) (let t = hand.trim g c b s d γ h in (each-more (λ q. T (is_lowered_mode q.to)) d.clerk.recalls (r ∷ []) t.0 (lowered, tt), t.1, t.2)) refl (λ i. i)

-- All recalls are tried.

module _ (g : System) (c b s : ℕ) (γ : Ghost) where
  abbrev InHand : Doing → Type 0
  InHand d = IsInHand g c b s d γ

  -- a recall of a named object, down or back
  abbrev Fit : Doing → Recalled → Type 0
  Fit d r = T (is_lowered_mode r.to) × Names (view (doing_in c b d γ g)) r.obj

  fit-on : (d e : Doing) → InHand d → InHand e → e.clerk.got ≡ d.clerk.got → (rs : List Recalled) → Each (Fit d) rs → Each (Fit e) rs
  fit-on d e h i p rs f = each-turn (Fit d) (Fit e) rs (λ r q. (q.0, hand.name-on g c b s d γ h e i p r.obj q.1)) f

  tries : (rs : List Recalled) (d : Doing) → InHand d → Each (Fit d) rs → InHand (try_recalls rs d)
  tries [] d h f = h
  tries (r ∷ rs) d h f = go (is_ready r d.clerk) refl (λ e i p. tries rs e i (fit-on d e h i p rs f.1))
    where
      go : (z : Bool) → is_ready r d.clerk ≡ z → ((e : Doing) → InHand e → e.clerk.got ≡ d.clerk.got → InHand (try_recalls rs e)) → InHand (try_recalls rs (elim z as (λ y. Doing) [ true ↦ give_back r d | false ↦ keep_recall r (ask_for (asked.Object r.obj) d) ]))
      go true q more = more (give_back r d) (gives-back g c b s d γ h r f.0.0 f.0.1 q) refl
      go false q more =
          let e = ask_for (asked.Object r.obj) d in
          let i : InHand e = hand.asks g c b s d γ h (asked.Object r.obj) in
          let p : e.clerk.got ≡ d.clerk.got = hand.ask-clerk (λ k. k.got ≡ d.clerk.got) d (asked.Object r.obj) (λ l. refl) in
          more (keep_recall r e) (keeps g c b s e γ i r f.0.0 (hand.name-on g c b s d γ h e i p r.obj f.0.1)) p

  -- all recalls are put aside
  cleared : (d : Doing) → InHand d → InHand (record d { clerk = record (d.clerk) { recalls = [] } })
  cleared d h =
      let u = h.under_way in
      let all = moving.all g c b s d γ u in
      let now : Clerk = record (d.clerk) { recalls = [] } in
      let its = moving.its g c b s d γ u in
      let here = doing_in c b d γ g in
      hand.still g c b s d γ h (record d { clerk = now })
      (moving.changes g c b s d γ u now (record { id = refl; age = refl; session = refl; owed = refl; next = refl }) (clear-agrees (view (record g { ghost = γ })) c s d (moving.goes g c b s d γ u).agree)
      (kept.held-both here (all.0).logs (all.0).images c s u.age d.clerk now its refl refl refl refl here.calls []
      (kept.all-stay here (all.0).logs (all.0).images c s u.age d.clerk now its refl refl refl refl here.calls [] (λ x w. w))
      (λ x o e. (all.0).images.licences s x d.clerk (moving.there g c b s d γ u) o e) tt))
      (hand.keyed g c b s d γ h) (let t = hand.trim g c b s d γ h in (tt, t.1, t.2)) refl (λ i. i)

  pub answers : (d : Doing) → InHand d → InHand (answer_recalls d)
  answers d h =
      let u = h.under_way in
      let e : Doing = record d { clerk = record (d.clerk) { recalls = [] } } in
      tries d.clerk.recalls e (cleared d h) (fit-on d e h (cleared d h) refl d.clerk.recalls
      (Rattle.ec_coherence.proofs.ForServer.Lists.each-both (λ r. T (is_lowered_mode r.to)) (λ r. Names (view (doing_in c b d γ g)) r.obj) d.clerk.recalls (h.orderly).recalls
      (((moving.all g c b s d γ u).0).tokens.recalled s (side d.clerk) (ap side_in (moving.there g c b s d γ u)))))
