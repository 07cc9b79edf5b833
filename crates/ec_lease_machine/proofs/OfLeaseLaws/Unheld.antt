-- A clerk that isn't held is in a session that is open, or whose end is in doubt, and so has nothing untold.
use Rattle.std.proofs.Common.{◌≡◌, refl, sym, ap, subst, ◌∙◌, arith, ◌≤◌, ◌<◌, ◌+◌, ℕ, T, Bool, true, false, not, ◌==◌, Option, Some, None}
use Rattle.std.specs.Prelude.{nat_le, Ok, Err}
use Rattle.ec_base.specs.Tables.{at}
use Rattle.ec_base.specs.declared.ids.Age.{Age}
use Rattle.ec_history.specs.Placing.{watch}
use Rattle.ec_sessions.specs.declared.slot.Slot.{Slot}
use Rattle.ec_durable.specs.Durable.{slot}
use Rattle.ec_durable.specs.declared.state.Durable.{Durable}
use Rattle.ec_durable.specs.declared.record.Record.{Record}
use Rattle.ec_protocol.specs.World.{stepped}
use Rattle.ec_protocol.specs.declared.clerk.Clerk.{Clerk}
use Rattle.ec_coherence.specs.System.{System}
use Rattle.ec_coherence.specs.Steps.{Stands, found}
use Rattle.ec_coherence.specs.CommitLaws.{AllAgree}
use Rattle.ec_coherence.specs.Stops.{MayStep}
use Rattle.ec_coherence.proofs.ForServer.Tables.{same_some}
use Rattle.ec_lawful.specs.Doubts.{ComesFromAny, DoubtAgrees}
use Rattle.ec_lease_machine.specs.Leases.{has_run_out, is_held, moment_in, skew}
use Rattle.ec_protocol.specs.Resumes.{session}
use Rattle.ec_lease_machine.specs.declared.world.Lease.{Lease}
use Rattle.ec_lease_machine.specs.declared.world.LeaseWorld.{LeaseWorld}
use Rattle.ec_lease_machine.specs.OfLeaseLaws.Agrees.{LeasesAgree}
use Rattle.ec_lease_machine.specs.OfLeaseLaws.Timely.{HasSession}
use Rattle.ec_lease_machine.proofs.OfLeaseLaws.Open.{stays, told}
use Rattle.ec_base.proofs.Options.{none_some}
use Rattle.ec_base.proofs.Numbers.{equal}
use Rattle.ec_lawful.proofs.Events.{runs-in}

pair-is : (c d : ℕ) (a b : Age) → ◌≡◌ {A = Option (ℕ × Age)} (Some (c, a)) (Some (d, b)) → a ≡ b
pair-is c d a b q = ap (λ z. z.1) (same_some q)

module _ (g : System) (all : AllAgree g) (doubt : DoubtAgrees g) (x : LeaseWorld) (st : Stands x.world g) (a : LeasesAgree x) (c s : ℕ) where
  -- its Lease runs
  runs-on : (o : Option Lease) → at c x.leases ≡ o → has_run_out c (moment_in s o) x ≡ false → (b : Lease) × (at c x.leases ≡ Some b) × (b.session ≡ s) × (x.now + skew c x < b.moment + x.most)
  runs-on None q f = absurd (apart f)
    where
      apart : true ≡ false → ⊥
      apart e = cc
  runs-on (Some b) q f = by (b.session == s) refl f
    where
      by : (z : Bool) → (b.session == s) ≡ z → has_run_out c (elim z as (λ y. Option ℕ) [ true ↦ Some b.moment | false ↦ None ]) x ≡ false → (b : Lease) × (at c x.leases ≡ Some b) × (b.session ≡ s) × (x.now + skew c x < b.moment + x.most)
      by true e f = (b, q, equal b.session s e, below (b.moment + x.most) (x.now + skew c x) f)
        where
          below : (m n : ℕ) → nat_le m n ≡ false → n < m
          below m n e = grind (arith, e)
      by false e f = absurd (apart f)
        where
          apart : true ≡ false → ⊥
          apart e = cc

  early : (m n k e : ℕ) → n + k < m + e → m + e ≤ n → ⊥
  early m n k e p q = omega (arith, p, q)

  module _ (k : Clerk) (b : ℕ) (run : g.running c ≡ Some b) (there : g.clerks c b ≡ Some k) (within : k.session ≡ Some s) where
    here : (sl : Slot) × (slot g.durable c ≡ Some sl) × (sl.session ≡ s)
    here = (all.0).sessions.current c b s k run there within

    age-is : here.0.age ≡ k.age
    age-is =
        let mine = ((all.0).sessions.slots c here.0 here.1).2 in
        let its = ((all.0).sessions.in_session c b s k there within).0 in
        pair-is c c here.0.age k.age (sym mine ∙ ap g.ghost.owner here.2 ∙ its)

    has : HasSession g.durable c s k.age here.0.is_open
    has = record { slot_of = here.0; in_slot = here.1; is_open = refl; session = here.2; age_is = age-is }

    -- one that ended has ended on the disk
    on-disk : here.0.is_open ≡ false → (o : Option Record) → g.unshown ≡ o → HasSession (found o g.durable) c s k.age here.0.is_open
    on-disk e None q = has
    on-disk e (Some r) q =
        let d = subst (MayStep g) q (all.0).stops.doubt in
        let now : stepped r g.durable ≡ d.0 = ap (λ y. elim y as (λ z. Durable) [ Ok v ↦ v | Err f ↦ g.durable ]) d.1 in
        subst (λ v. HasSession v c s k.age here.0.is_open) (sym now)
        (stays g all c b s k run there here.0.is_open has r d.0 (subst (ComesFromAny g) q doubt) (λ p. absurd (apart (sym p ∙ e))) d.1)
      where
        apart : true ≡ false → ⊥
        apart e = cc

    uncut : is_held c x ≡ false → session c x.world ≡ Some s → (z : Bool) → here.0.is_open ≡ z → (watch c g.ghost.shown).untold ≡ None
    uncut f q true e = told g all c b s k run there here.0.is_open has e
    uncut f q false e =
        let l = runs-on (at c x.leases) refl (sym (ap (λ o. elim o as (λ z. Bool) [ None ↦ false | Some t ↦ has_run_out c (moment_in t (at c x.leases)) x ]) q) ∙ f) in
        let d = on-disk e g.unshown refl in
        let in-slot : slot x.world.durable c ≡ Some d.slot_of = ap (λ v. slot v c) st.durable ∙ d.in_slot in
        absurd (early l.0.moment x.now (skew c x) x.most l.3 (a.past c d.slot_of in-slot (subst (λ z. T (not z)) (sym (d.is_open ∙ e)) tt) l.0 (a.received c l.0 l.1) (l.2 ∙ sym d.session)))

  pub unheld-told : session c x.world ≡ Some s → is_held c x ≡ false → (watch c x.world.shown).untold ≡ None
  unheld-told q f = by (at c x.world.clerks) refl q
    where
      by : (o : Option Clerk) → at c x.world.clerks ≡ o → elim o as (λ z. Option ℕ) [ None ↦ None | Some k ↦ k.session ] ≡ Some s → (watch c x.world.shown).untold ≡ None
      by None p e = absurd (none_some e)
      by (Some k) p e =
          let r = runs-in x.world g st c k p in
          ap (λ ss. (watch c ss).untold) st.shown ∙ uncut k r.0 r.1 r.2 e f q (here k r.0 r.1 r.2 e).0.is_open refl
