-- What the server says without a change: replies to stale messages, greetings, and what is told at a start. The whole invariant stands.
use Rattle.std.proofs.Common.{◌≡◌, refl, sym, ap, subst, ◌∙◌, arith, ℕ, suc, Bool, true, false, not, ◌&&◌, ◌||◌, ◌+◌, T, [], ◌∷◌}
use Rattle.std.specs.Prelude.{◌==◌, Option, None, Some, nat_lt}
use Rattle.ec_base.specs.declared.ids.Age.{Age}
use Rattle.ec_base.specs.Ages.{is_older}
use Rattle.ec_sessions.specs.Slots.{Slots, slot_at}
use Rattle.ec_sessions.specs.declared.slot.Slot.{Slot}
use Rattle.ec_wire.specs.declared.msg.Msg.TheVariants.{Opened, Ended, Restarted, OldBoot}
use Rattle.ec_durable.specs.Durable.{slot}
use Rattle.ec_protocol.specs.declared.server.Server.{Server}
use Rattle.ec_protocol.specs.Server.{Serving, tell, tell_ended, tell_start, tell_all}
use Rattle.ec_coherence.specs.System.{System, Ghost, is_open}
use Rattle.ec_coherence.specs.Steps.{serving_in, Under}
use Rattle.ec_coherence.proofs.ForServer.Frames.{tell-stands}
use Rattle.ec_coherence.proofs.ForServer.SlotLaws.{open-of}
use Rattle.ec_coherence.proofs.ForServer.Tables.{same_some}
use Rattle.ec_base.proofs.Bools.{not-both as refutes, holds-true as holds}

module _ (g : System) (γ : Ghost) (t : Serving) (u : Under g t γ) (c : ℕ) where
  -- this epoch, to a clerk
  pub restarted-stands : (s : ℕ) → Under g (tell c (Restarted s t.server.durable.epoch) t) γ
  restarted-stands s = tell-stands g γ t c (Restarted s t.server.durable.epoch) u tt tt (omega arith) tt

  pub old-boot-stands : (a b : Age) → Under g (tell c (OldBoot a b) t) γ
  old-boot-stands a b = tell-stands g γ t c (OldBoot a b) u tt tt tt tt

  module _ (sl : Slot) (in_slot : slot t.server.durable c ≡ Some sl) where
    owner : γ.owner sl.session ≡ Some (c, sl.age)
    owner = (u.invariant.sessions.slots c sl in_slot).2

    -- the slot's session isn't open where the slot isn't
    shut : T (not sl.is_open) → T (not (is_open (serving_in t γ g) sl.session))
    shut n = go (is_open (serving_in t γ g) sl.session) refl
      where
        go : (b : Bool) → is_open (serving_in t γ g) sl.session ≡ b → T (not b)
        go true e =
            let r = open-of t.server.durable.sessions sl.session (holds (is_open (serving_in t γ g) sl.session) e) in
            let p : Some (r.0, (r.1).age) ≡ Some (c, sl.age) = sym (u.invariant.sessions.slots r.0 r.1 r.2).2 ∙ ap γ.owner r.4 ∙ owner in
            let at_c : r.0 ≡ c = ap (λ z. z.0) (same_some p) in
            let it : r.1 ≡ sl = same_some (sym r.2 ∙ ap (slot t.server.durable) at_c ∙ in_slot) in
            absurd (refutes sl.is_open (subst (λ z. T z.is_open) it r.3) n)
        go false e = tt

    -- the end of a session that has ended
    pub tell-ended-stands : T (not sl.is_open) → Under g (tell_ended c sl t) γ
    tell-ended-stands n = tell-stands g γ t c (Ended sl.session sl.window.low sl.window.mask) u ((u.invariant.sessions.slots c sl in_slot).1, shut n, λ so p e. window so (sym in_slot ∙ p)) tt tt tt
      where
        window : (so : Slot) → Some sl ≡ Some so → (so.window.low ≡ sl.window.low) × (so.window.mask ≡ sl.window.mask)
        window so e = let q = same_some e in (ap (λ z. z.window.low) (sym q), ap (λ z. z.window.mask) (sym q))

    -- a greeting with the slot's own age is answered again
    pub opened-again-stands : (age : Age) → is_older sl.age age ≡ false → is_older age sl.age ≡ false → Under g (tell c (Opened age sl.session t.server.durable.epoch) t) γ
    opened-again-stands age p q = tell-stands g γ t c (Opened age sl.session t.server.durable.epoch) u (owner ∙ ap (λ a. Some (c, a)) (sym age-is)) tt (omega arith, λ a b. refl) tt
      where
        boots : (i j k l : ℕ) → (nat_lt i j || ((i == j) && nat_lt k l)) ≡ false → (nat_lt j i || ((j == i) && nat_lt l k)) ≡ false → i ≡ j
        boots i j k l p q = grind arith

        rounds : (i j k l : ℕ) → (nat_lt i j || ((i == j) && nat_lt k l)) ≡ false → (nat_lt j i || ((j == i) && nat_lt l k)) ≡ false → k ≡ l
        rounds i j k l p q = grind arith

        boot-is : age.boot ≡ (sl.age).boot
        boot-is = sym (boots (sl.age).boot age.boot (sl.age).round age.round p q)

        round-is : age.round ≡ (sl.age).round
        round-is = sym (rounds (sl.age).boot age.boot (sl.age).round age.round p q)

        age-is : age ≡ sl.age
        age-is = λ i. record { boot = boot-is i; round = round-is i }

-- What each clerk is told at a start.

tell-start-stands : (g : System) (γ : Ghost) (t : Serving) (c : ℕ) (o : Option Slot) → Under g t γ → slot t.server.durable c ≡ o → Under g (tell_start c t o) γ
tell-start-stands g γ t c None u p = restarted-stands g γ t u c 0
tell-start-stands g γ t c (Some sl) u p = go sl.is_open refl
  where
    go : (b : Bool) → sl.is_open ≡ b → Under g (elim b as (λ z. Serving) [ true ↦ tell c (Restarted sl.session t.server.durable.epoch) t | false ↦ tell_ended c sl t ]) γ
    go true e = restarted-stands g γ t u c sl.session
    go false e = tell-ended-stands g γ t u c sl p (subst (λ b. T (not b)) (sym e) tt)

-- telling changes no server
start-server : (t : Serving) (c : ℕ) (o : Option Slot) → (tell_start c t o).server ≡ t.server
start-server t c None = refl
start-server t c (Some sl) = go sl.is_open
  where
    go : (b : Bool) → (elim b as (λ z. Serving) [ true ↦ tell c (Restarted sl.session t.server.durable.epoch) t | false ↦ tell_ended c sl t ]).server ≡ t.server
    go true = refl
    go false = refl

pub tell-all-stands : (g : System) (γ : Ghost) (slots : Slots) (c : ℕ) (t : Serving) → Under g t γ → ((i : ℕ) → slot t.server.durable (c + i) ≡ slot_at slots i) → Under g (tell_all c slots t) γ
tell-all-stands g γ [] c t u k = u
tell-all-stands g γ (o ∷ slots) c t u k =
    tell-all-stands g γ slots (c + 1) (tell_start c t o) (tell-start-stands g γ t c o u (ap (slot t.server.durable) here ∙ k 0)) (λ i. moved (λ v. slot v.durable ((c + 1) + i)) ∙ ap (slot t.server.durable) (next i) ∙ k (suc i))
  where
    moved : {A : Type 0} (F : Server → A) → F (tell_start c t o).server ≡ F t.server
    moved F = ap F (start-server t c o)

    here : c ≡ c + 0
    here = omega arith

    next : (i : ℕ) → (c + 1) + i ≡ c + suc i
    next i = omega arith
