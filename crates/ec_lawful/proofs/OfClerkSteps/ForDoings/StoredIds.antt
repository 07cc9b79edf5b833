-- Ids in store stay apart where they are taken.
use Rattle.std.proofs.Common.{◌≡◌, refl, sym, ap, subst, ◌∙◌, inl, inr, ◌⊎◌, arith, ◌≤◌, ◌<◌, ◌+◌, ℕ, Bool, true, false, not, ◌==◌, T, List, [], ◌∷◌, ◌++◌}
use Rattle.std.specs.Prelude.{Some, nat_le}
use Rattle.ec_base.specs.declared.counter.Counter.TheVariants as counter
use Rattle.ec_volume.specs.Update.{distinct, member}
use Rattle.ec_sessions.specs.Limits.{last_grants}
use Rattle.ec_sessions.specs.Slots.{run}
use Rattle.ec_wire.specs.declared.msg.Msg.{Msg}
use Rattle.ec_wire.specs.declared.msg.Msg.TheVariants.{Ids}
use Rattle.ec_protocol.specs.Clerk.{Doing, add_ids, spend, take_ids, taken, with_clerk}
use Rattle.ec_protocol.specs.declared.clerk.Clerk.{Clerk}
use Rattle.ec_coherence.specs.System.{System, Ghost, clerk_in}
use Rattle.ec_coherence.specs.Clerks.{acting}
use Rattle.ec_coherence.specs.Tokens.{Fits, Names, in_sixteen, is_hidden, is_untaken, side, side_in, view}
use Rattle.ec_coherence.specs.Steps.{calls_after, doing_in, sends}
use Rattle.ec_coherence.proofs.ForClerk.Acting.{is-in, view-is}
use Rattle.ec_coherence.proofs.ForBatches.GivenIds.{run-distinct, run-in}
use Rattle.ec_coherence.proofs.ForBatches.Ids.{in-either}
use Rattle.ec_coherence.proofs.ForServer.Lists.{each-at}
use Rattle.ec_coherence.proofs.ForServer.Tables.{same_some}
use Rattle.ec_coherence.proofs.ForClerk.TakeGrant.{by-session}
use Rattle.ec_lawful.specs.OfClerkSteps.DoingLaws.{IsIds, IsInHand}
use Rattle.ec_lawful.proofs.OfClerkSteps.ForDoings.Moving as moving
use Rattle.ec_lawful.specs.OfClerkSteps.Frees.{FreesAgree}
use Rattle.ec_lawful.proofs.OfClerkSteps.ForDoings.FreesStored.{in-step, one-keeps, stills-keep}
use Rattle.ec_base.proofs.Bools.{left as and_first, not-both as no_both, and-both as and_both, or-right as or_next, right as and_next, or_first, is-true, holds-true as holds}
use Rattle.ec_base.proofs.Numbers.{same-self as same, equal}

off : (b : Bool) → (T b → ⊥) → T (not b)
off true f = absurd (f tt)
off false f = tt

both-distinct : (xs ys : List ℕ) → T (distinct xs) → T (distinct ys) → ((x : ℕ) → T (member x xs) → T (member x ys) → ⊥) → T (distinct (xs ++ ys))
both-distinct [] ys d e f = e
both-distinct (x ∷ xs) ys d e f = and_both (not (member x (xs ++ ys))) (distinct (xs ++ ys))
    (off (member x (xs ++ ys)) (λ m. elim (in-either x xs ys m) [
      | inl a ↦ no_both (member x xs) a (and_first (not (member x xs)) _ d)
      | inr a ↦ f x (or_first (x == x) (member x xs) (holds (x == x) (same x))) a
    ]))
    (both-distinct xs ys (and_next (not (member x xs)) (distinct xs) d) e (λ y m. f y (or_next (y == x) (member y xs) m)))

pub within : (x f : ℕ) → f ≤ x → x < f + 16 → T (in_sixteen f x)
within x f a b = grind arith

module _ (g : System) (c b s : ℕ) (d : Doing) (γ : Ghost) (h : IsInHand g c b s d γ) (fa : FreesAgree (doing_in c b d γ g)) where
  abbrev here : System
  here = doing_in c b d γ g

  there : clerk_in here s ≡ Some d.clerk
  there = moving.there g c b s d γ h.under_way

  module _ (n first : ℕ) (given : d.clerk.got + 1 ≡ γ.grants s) (is-first : first ≡ γ.first s) where
    abbrev e : Doing
    e = with_clerk (add_ids n first) d

    -- the sixteen were in store
    was-hidden : (x : ℕ) → T (member x (run first 16)) → T (is_hidden (view here) s x)
    was-hidden x m = let r = run-in x first 16 m in
        subst (λ o. T (is_untaken (γ.grants s) (γ.first s) (side_in o) x)) (sym there)
        (and_both (d.clerk.got + 1 == γ.grants s) (in_sixteen (γ.first s) x) (holds (d.clerk.got + 1 == γ.grants s) (ap (λ z. z == γ.grants s) given ∙ same (γ.grants s))) (subst (λ z. T (in_sixteen z x)) is-first (within x first r.0 r.1)))

    -- and are none of those that it has
    apart : (x : ℕ) → T (member x d.clerk.ids) → T (member x (run first 16)) → ⊥
    apart x i m = no_both (is_hidden (view here) s x) (was-hidden x m) ((each-at (Names (view here)) x d.clerk.ids ((h.names).ids s d.clerk there) i).1 s)

    -- now none is
    none-left : (x : ℕ) → T (is_untaken (γ.grants s) (γ.first s) (Some (side e.clerk)) x) → ⊥
    none-left x t = absurd (let q = equal (d.clerk.got + 1 + 1) (γ.grants s) (is-true (d.clerk.got + 1 + 1 == γ.grants s) (and_first (d.clerk.got + 1 + 1 == γ.grants s) (in_sixteen (γ.first s) x) t)) in let z = given in omega arith)

    stored : (t : ℕ) (m : Clerk) → e.clerk ≡ m → e.clerk.session ≡ Some t → (x : ℕ) → T (member x m.ids) ⊎ T (is_untaken (γ.grants t) (γ.first t) (Some (side m)) x) → T (member x d.clerk.ids) ⊎ T (is_hidden (view here) t x)
    stored t m p q x w =
        let same_session : s ≡ t = same_some (sym (h.under_way).session ∙ q) in
        elim w [
          | inl i ↦ elim (in-either x d.clerk.ids (run first 16) (subst (λ z. T (member x z.ids)) (sym p) i)) [ inl a ↦ inl a | inr a ↦ inr (subst (λ z. T (is_hidden (view here) z x)) same_session (was-hidden x a)) ]
          | inr i ↦ absurd (none-left x (subst (λ z. T (is_untaken (γ.grants z) (γ.first z) (Some (side e.clerk)) x)) (sym same_session) (subst (λ z. T (is_untaken (γ.grants t) (γ.first t) (Some (side z)) x)) (sym p) i)))
        ]

    takes-them : FreesAgree (doing_in c b e γ g)
    takes-them = in-step g c b d γ fa e γ (one-keeps here fa c b e.clerk here.running here.boots (calls_after c e.outs g.calls) (g.pool ++ sends c e.outs) γ refl refl refl refl refl (λ t m p q r path. inl (
      d.clerk,
      subst (λ z. clerk_in here z ≡ Some d.clerk) (same_some (sym (h.under_way).session ∙ q)) there,
      (λ x w. stored t m p q x (elim w [ inl i ↦ inl i | inr i ↦ inr (subst (λ o. T (is_untaken (γ.grants t) (γ.first t) (side_in o) x)) r i) ])),
      λ i. subst (λ z. T (distinct z.ids)) p (both-distinct d.clerk.ids (run first 16) i (run-distinct first 16) apart),
    )))

  pub ids-keep-frees : (m : Msg) → IsIds m → Fits (view here) m → FreesAgree (doing_in c b (taken m d) γ g)
  ids-keep-frees (Ids t a got n first) w f = by-session (λ z. FreesAgree (doing_in c b z γ g)) d s t a (take_ids got n first) (h.under_way).session fa (λ p q. turn p q (got == d.clerk.got) refl)
    where
      now : Fits (acting (view (record g { ghost = γ })) c s d) (Ids t a got n first)
      now = subst (λ v. Fits v (Ids t a got n first)) (view-is g c b s d γ (moving.own g c b s d γ h.under_way)) f

      turn : t ≡ s → a ≡ d.clerk.epoch → (z : Bool) → (got == d.clerk.got) ≡ z → FreesAgree (doing_in c b (elim z as (λ y. Doing) [ false ↦ d | true ↦ elim (nat_le last_grants got) as (λ y. Doing) [ true ↦ spend counter.Id d | false ↦ with_clerk (add_ids n first) d ] ]) γ g)
      turn p q false r = fa
      turn p q true r = room (nat_le last_grants got)
        where
          own : Fits (acting (view (record g { ghost = γ })) c s d) (Ids s d.clerk.epoch d.clerk.got n first)
          own = subst (λ z. Fits (acting (view (record g { ghost = γ })) c s d) (Ids s d.clerk.epoch z n first)) (equal got d.clerk.got r)
              (subst (λ z. Fits (acting (view (record g { ghost = γ })) c s d) (Ids s z got n first)) q (subst (λ z. Fits (acting (view (record g { ghost = γ })) c s d) (Ids z a got n first)) p now))

          given : d.clerk.got + 1 ≡ γ.grants s
          given = let x = own.3 in let z = ((moving.goes g c b s d γ h.under_way).agree.got s (side d.clerk) (is-in (view (record g { ghost = γ })) c s d)).3 in omega arith

          room : (z : Bool) → FreesAgree (doing_in c b (elim z as (λ y. Doing) [ true ↦ spend counter.Id d | false ↦ with_clerk (add_ids n first) d ]) γ g)
          room true = stills-keep g c b d γ fa (spend counter.Id d) γ refl refl refl refl refl (inl (refl, refl, refl))
          room false = takes-them n first given (own.4 given)
  ids-keep-frees _ w f = absurd w
