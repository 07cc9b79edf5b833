-- Ids are taken: Write tokens on sixteen new objects, which are named now.
use Rattle.std.proofs.Common.{◌≡◌, refl, sym, ap, subst, ◌∙◌, inl, ◌⊎◌, arith, ◌<◌, ◌+◌, ℕ, Bool, true, false, not, ◌&&◌, ◌==◌, cond, T}
use Rattle.std.specs.Prelude.{Option, Some, nat_le}
use Rattle.ec_base.specs.Tables.{at}
use Rattle.ec_base.specs.declared.counter.Counter.TheVariants as counter
use Rattle.ec_base.specs.declared.ids.Hold.TheVariants.{Write}
use Rattle.ec_volume.specs.Update.{member}
use Rattle.ec_volume.specs.declared.image.Image.TheVariants as image
use Rattle.ec_sessions.specs.Limits.{last_grants}
use Rattle.ec_sessions.specs.Slots.{run}
use Rattle.ec_wire.specs.declared.msg.Msg.TheVariants.{Ids}
use Rattle.ec_cache.specs.Cache as cache
use Rattle.ec_cache.specs.declared.state.CacheState.{CacheState}
use Rattle.ec_cache.specs.declared.state.Held.{Held}
use Rattle.ec_protocol.specs.Clerk.{Doing, add_ids, spend, take_each, take_ids, taken, with_clerk}
use Rattle.ec_coherence.specs.Clerks.{acting}
use Rattle.ec_coherence.specs.System.{System, Ghost, seen}
use Rattle.ec_coherence.specs.Tokens.{Fits, IsWrite, Names, TokensAgree, View, in_sixteen, is_hidden, is_untaken, side, view}
use Rattle.ec_coherence.specs.Steps.{doing_in}
use Rattle.ec_coherence.proofs.ForClerk.Acting.{is-in, view-is}
use Rattle.ec_coherence.proofs.ForBatches.GivenIds.{run-in}
use Rattle.ec_coherence.proofs.ForClerk.Keyed.{keyed-each}
use Rattle.ec_coherence.proofs.ForServer.Lists.{each-member, each-more, each-turn}
use Rattle.ec_coherence.proofs.ForServer.Tables.{differs, same_some}
use Rattle.ec_coherence.proofs.ForClerk.TakeGrant.{by-session}
use Rattle.ec_coherence.proofs.ForClerk.TakeIds.{ids-agree, taken-each}
use Rattle.ec_coherence.proofs.ForBatches.TakenIds.{taken-images, taken-logs}
use Rattle.ec_coherence.specs.StandLaws.{IsUnderWay}
use Rattle.ec_coherence.specs.CommitLaws.{AllAgree}
use Rattle.ec_lawful.specs.OfClerkSteps.DoingLaws.{IsInHand}
use Rattle.ec_lawful.proofs.OfClerkSteps.ForDoings.Hand as hand
use Rattle.ec_lawful.proofs.OfClerkSteps.ForDoings.Moving as moving
use Rattle.ec_lawful.proofs.OfClerkSteps.ForDoings.Naming.{names-stay}
use Rattle.ec_base.proofs.Numbers.{equal}
use Rattle.ec_lawful.proofs.OfClerkSteps.ForDoings.StoredIds.{within}

-- a new token
abbrev fresh : ℕ → Held
fresh n = record { hold = Write; number = n; image = image.Gone }

module _ (g : System) (c b s : ℕ) (d : Doing) (γ : Ghost) (h : IsInHand g c b s d γ) where
  abbrev u : IsUnderWay g c b s d γ
  u = h.under_way

  abbrev here : System
  here = doing_in c b d γ g

  abbrev w : View
  w = view (record g { ghost = γ })

  abbrev k : CacheState
  k = d.clerk.cache

  all : AllAgree here
  all = moving.all g c b s d γ u

  agree : TokensAgree (acting w c s d)
  agree = (moving.goes g c b s d γ u).agree

  module _ (n first : ℕ) (fits : Fits (acting w c s d) (Ids s d.clerk.epoch d.clerk.got n first)) where
    abbrev e : Doing
    e = with_clerk (add_ids n first) d

    given : d.clerk.got + 1 ≡ γ.grants s
    given = let a = fits.3 in let z = (agree.got s (side d.clerk) (is-in w c s d)).3 in omega arith

    is-first : first ≡ γ.first s
    is-first = fits.4 given

    -- each of the sixteen is new
    new-row : (x : ℕ) → T (member x (run first 16)) → (cache.last x k < n) × (seen here s x ≡ image.Gone)
    new-row x m = let r = run-in x first 16 m in let q = fits.5 (side d.clerk) (is-in w c s d) refl refl x (within x first r.0 r.1) in (q.2, q.3)

    found : (y : ℕ) → at y (take_each n (run first 16) k).held ≡ cond (member y (run first 16)) (Some (fresh n)) (at y k.held)
    found y = (taken-each n (run first 16) k (each-member (λ x. (cache.last x k < n) ⊎ ((at x k.held ≡ Some (fresh n)) × (cache.last x k ≡ n))) (run first 16) (λ x m. inl (new-row x m).0)) y).0

    writes : (y : ℕ) → IsWrite (at y k.held) → IsWrite (at y (take_each n (run first 16) k).held)
    writes y v = subst IsWrite (sym (found y)) (go (member y (run first 16)))
      where
        go : (z : Bool) → IsWrite (cond z (Some (fresh n)) (at y k.held))
        go true = tt
        go false = v

    to-see : (y : ℕ) (o : Held) → at y (take_each n (run first 16) k).held ≡ Some o → o.image ≡ seen here s y
    to-see y o p = go (member y (run first 16)) refl (sym (found y) ∙ p)
      where
        go : (z : Bool) → member y (run first 16) ≡ z → cond z (Some (fresh n)) (at y k.held) ≡ Some o → o.image ≡ seen here s y
        go true q r = ap (λ z. z.image) (sym (same_some r)) ∙ sym (new-row y (Rattle.ec_base.proofs.Bools.holds-true (member y (run first 16)) q)).1
        go false q r = (all.0).images.licences s y d.clerk (moving.there g c b s d γ u) o r

    taking : IsUnderWay g c b s e γ
    taking =
        let its = moving.its g c b s d γ u in
        moving.changes g c b s d γ u (add_ids n first d.clerk) (record { id = refl; age = refl; session = refl; owed = refl; next = refl }) (ids-agree w c s n first d agree fits) (
          taken-logs here (all.0).tokens (all.0).logs (all.0).images c s u.age d.clerk u.owns (its.start).stands u.session here.calls first (take_each n (run first 16) k) given is-first writes to-see,
          taken-images here (all.0).tokens (all.0).logs (all.0).images c s u.age d.clerk u.owns (its.start).stands u.session here.calls first (take_each n (run first 16) k) given is-first writes to-see,
        )

    -- Names: of this session no id is in store any more.

    none-left : (x : ℕ) → T (not (is_untaken (γ.grants s) (γ.first s) (Some (side e.clerk)) x))
    none-left x = off (d.clerk.got + 1 + 1 == γ.grants s) refl
      where
        off : (z : Bool) → (d.clerk.got + 1 + 1 == γ.grants s) ≡ z → T (not (z && in_sixteen (γ.first s) x))
        off true p = absurd (let a = equal (d.clerk.got + 1 + 1) (γ.grants s) p in let z = given in omega arith)
        off false p = tt

    -- of the others what was
    named-now : (x : ℕ) → x < w.next_id → ((t : ℕ) → (t == s) ≡ false → T (not (is_hidden (acting w c s d) t x))) → Names (view (doing_in c b e γ g)) x
    named-now x l f = subst (λ v. Names v x) (sym (view-is g c b s e γ (moving.own g c b s e γ taking))) (l, λ t. go t (t == s) refl (f t))
      where
        hidden-as : (t : ℕ) → (z : Bool) → Bool
        hidden-as t z = is_untaken (γ.grants t) (γ.first t) (elim z as (λ y. Option Rattle.ec_coherence.specs.Tokens.Side) [ true ↦ Some (side e.clerk) | false ↦ w.clerk t ]) x

        was-as : (t : ℕ) → (z : Bool) → Bool
        was-as t z = is_untaken (γ.grants t) (γ.first t) (elim z as (λ y. Option Rattle.ec_coherence.specs.Tokens.Side) [ true ↦ Some (side d.clerk) | false ↦ w.clerk t ]) x

        go : (t : ℕ) (z : Bool) → (t == s) ≡ z → (z ≡ false → T (not (was-as t z))) → T (not (hidden-as t z))
        go t true q r = subst (λ y. T (not (is_untaken (γ.grants y) (γ.first y) (Some (side e.clerk)) x))) (sym (equal t s q)) (none-left x)
        go t false q r = r refl

    more : (x : ℕ) → Names (view here) x → Names (view (doing_in c b e γ g)) x
    more x f = let q : Names (acting w c s d) x = hand.name-acting g c b s d γ h x f in named-now x q.0 (λ t z. q.1 t)

    new-named : (x : ℕ) → T (member x (run first 16)) → Names (view (doing_in c b e γ g)) x
    new-named x m =
        let r = run-in x first 16 m in
        let a = (agree.given s (let z = given in omega arith)).0 in
        named-now x (let z = is-first in omega arith) (λ t q. ((agree.alone s x hidden).0 t (differs t s q)).1)
      where
        mine : (z y : Bool) → z ≡ true → T y → T (z && y)
        mine true y p f = f
        mine false y p f = absurd (cc)

        hidden : T (is_hidden (acting w c s d) s x)
        hidden = let r = run-in x first 16 m in
            subst (λ o. T (is_untaken (γ.grants s) (γ.first s) o x)) (sym (is-in w c s d))
            (mine (d.clerk.got + 1 == γ.grants s) (in_sixteen (γ.first s) x) (ap (λ z. z == γ.grants s) given ∙ Rattle.ec_base.proofs.Numbers.same-self (γ.grants s)) (subst (λ z. T (in_sixteen z x)) is-first (within x first r.0 r.1)))

    takes-them : IsInHand g c b s e γ
    takes-them = record {
      under_way = taking;
      orderly = let m = hand.trim g c b s d γ h in hand.order-of e.clerk (keyed-each n (run first 16) k (hand.keyed g c b s d γ h)) (m.0, (λ t. absurd t), m.2);
      names = names-stay g c b s γ d e (moving.own g c b s d γ u) (moving.own g c b s e γ taking) more (λ f. each-more (Names (view (doing_in c b e γ g))) d.clerk.ids (run first 16) (each-turn (Names (view here)) (Names (view (doing_in c b e γ g))) d.clerk.ids more f)
          (each-member (Names (view (doing_in c b e γ g))) (run first 16) new-named)) (moving.there g c b s d γ u) h.names;
    }

  spent : IsInHand g c b s (spend counter.Id d) γ
  spent = hand.still g c b s d γ h (spend counter.Id d) (moving.spends g c b s d γ u counter.Id) (hand.keyed g c b s d γ h) (hand.trim g c b s d γ h) refl (λ i. i)

  pub takes-ids : (t a got n first : ℕ) → Fits (view here) (Ids t a got n first) → IsInHand g c b s (taken (Ids t a got n first) d) γ
  takes-ids t a got n first f = by-session (λ z. IsInHand g c b s z γ) d s t a (take_ids got n first) u.session h (λ p q. turn p q (got == d.clerk.got) refl)
    where
      now : Fits (acting w c s d) (Ids t a got n first)
      now = subst (λ v. Fits v (Ids t a got n first)) (view-is g c b s d γ (moving.own g c b s d γ u)) f

      turn : t ≡ s → a ≡ d.clerk.epoch → (z : Bool) → (got == d.clerk.got) ≡ z → IsInHand g c b s (elim z as (λ y. Doing) [ false ↦ d | true ↦ elim (nat_le last_grants got) as (λ y. Doing) [ true ↦ spend counter.Id d | false ↦ with_clerk (add_ids n first) d ] ]) γ
      turn p q false r = h
      turn p q true r = room (nat_le last_grants got)
        where
          room : (z : Bool) → IsInHand g c b s (elim z as (λ y. Doing) [ true ↦ spend counter.Id d | false ↦ with_clerk (add_ids n first) d ]) γ
          room true = spent
          room false = takes-them n first (subst (λ z. Fits (acting w c s d) (Ids s d.clerk.epoch z n first)) (equal got d.clerk.got r)
              (subst (λ z. Fits (acting w c s d) (Ids s z got n first)) q (subst (λ z. Fits (acting w c s d) (Ids z a got n first)) p now)))
