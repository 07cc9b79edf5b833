-- A clerk in its open session sees all that is kept, and what it has left is nobody else's.
use Rattle.std.proofs.Common.{◌≡◌, refl, sym, ap, subst, ◌∙◌, ℕ, false, not, ◌==◌, ◌||◌, T, List, [], ◌∷◌, Some, None}
use Rattle.ec_base.specs.declared.ids.Age.{Age}
use Rattle.ec_volume.specs.Update.{has_operand, member, operands}
use Rattle.ec_volume.specs.Volume.{after}
use Rattle.ec_history.specs.History.{Each, updates}
use Rattle.ec_sessions.specs.declared.slot.Slot.{Slot}
use Rattle.ec_durable.specs.Durable.{slot}
use Rattle.ec_protocol.specs.Clerk.{first_id}
use Rattle.ec_protocol.specs.declared.clerk.Clerk.{Clerk}
use Rattle.ec_coherence.specs.System.{System, clerk_in, is_open, seen_ops}
use Rattle.ec_coherence.specs.Events.{IsUncut, cut_in}
use Rattle.ec_coherence.specs.ChangeLaws.{IsInIt}
use Rattle.ec_coherence.proofs.ForBatches.ClerkIn.{was-in}
use Rattle.ec_coherence.proofs.ForBatches.OpenSlots.{open-at}
use Rattle.ec_coherence.proofs.ForServer.Tables.{each-map, same_some}
use Rattle.ec_coherence.specs.CommitLaws.{AllAgree}
use Rattle.ec_coherence.specs.Answers.{IsLive, Sees, id_of}
use Rattle.ec_coherence.specs.Comes.{DurableAreMarked}
use Rattle.ec_lawful.specs.OfClerkSteps.Zeros.{ZerosAgree}
use Rattle.ec_lawful.proofs.OfClerkSteps.Free.{free-gone, free-unused}
use Rattle.ec_lawful.proofs.OfClerkSteps.Unmade.{Leaves}
use Rattle.ec_base.proofs.Numbers.{same-self as same}
use Rattle.ec_base.proofs.Bools.{not-both as no_both}

-- the session is open in the clerk's slot
pub record IsSlot (g : System) (c s : ℕ) (age : Age) : Type 0 where
  pub slot_of : Slot
  pub here : slot g.durable c ≡ Some slot_of
  pub of : slot_of.session ≡ s
  pub opened : T slot_of.is_open
  pub aged : slot_of.age ≡ age

module _ (g : System) (all : AllAgree g) (c s : ℕ) (age : Age) (k : Clerk) (in-it : IsInIt g c s age k) where
  pub owns : g.ghost.owner s ≡ Some (c, age)
  owns = (in-it.start).owns

  pub stands : g.clerks c age.boot ≡ Some k
  stands = (in-it.start).stands

  pub own-age : k.age ≡ age
  own-age = ap (λ z. z.1) (same_some (sym (((all.0).sessions).in_session c age.boot s k stands in-it.session).0 ∙ owns))

  pub there : clerk_in g s ≡ Some k
  there = was-in g.ghost.owner g.clerks c s age k k owns stands in-it.session in-it.session

  pub its-slot : T (is_open g s) → IsSlot g c s age
  its-slot o =
      let q = open-at s (g.durable).sessions o in
      let owner : g.ghost.owner s ≡ Some (q.0, (q.1).age) = ap g.ghost.owner (sym (q.2).1) ∙ (((all.0).sessions).slots q.0 q.1 (q.2).0).2 in
      let same : (q.0, (q.1).age) ≡ (c, age) = same_some (sym owner ∙ owns) in
      record { slot_of = q.1; here = subst (λ j. slot g.durable j ≡ Some q.1) (ap (λ z. z.0) same) (q.2).0; of = (q.2).1; opened = (q.2).2; aged = ap (λ z. z.1) same }

  pub uncut : g.ghost.frozen s ≡ None → IsUncut g c k
  uncut n t q = ap g.ghost.frozen (((all.0).sessions).once t s (c, k.age) q (owns ∙ ap (λ a. Some (c, a)) (sym own-age))) ∙ n

  module _ (zeros : ZerosAgree g) (o : T (is_open g s)) where
    unfrozen : g.ghost.frozen s ≡ None
    unfrozen = ((all.0).images).unfrozen s o

    pub live : IsLive g c k
    live = record { uncut = uncut unfrozen; sees_all = ap (cut_in g) in-it.session ∙ unfrozen }

    pub sees : Sees g k
    sees = record {
      images = λ x h e. ((all.0).images).licences s x k there h e ∙ ap (λ z. after g.origin (updates (seen_ops z g.ghost.kept)) x) (sym (ap (cut_in g) in-it.session));
      free = λ x m. ap (λ z. after g.origin (updates (seen_ops z g.ghost.kept)) x) (live.sees_all) ∙ (let l = its-slot o in free-gone g (all.0).logs (all.0).images c s l.slot_of k l.here l.of l.opened there x m);
      no_zero = (zeros.clerks c age.boot k stands).owed;
    }

    -- its next id is no operand of another's operation
    hidden : (xs : List ℕ) → k.ids ≡ xs → Each (λ j. (j.clerk == c) ≡ false → T (not (g.ghost.is_durable j)) → T (member (id_of (first_id xs)) (operands j.update)) → ⊥) g.ghost.kept
    hidden [] e = each-map (λ j. T (not (has_operand 0 j.update))) (λ j. (j.clerk == c) ≡ false → T (not (g.ghost.is_durable j)) → T (member 0 (operands j.update)) → ⊥) g.ghost.kept (λ j f n d m. no_both (has_operand 0 j.update) m f) zeros.kept
    hidden (x ∷ xs) e =
        let l = its-slot o in
        each-map (Leaves g.ghost.is_durable x) (λ j. (j.clerk == c) ≡ false → T (not (g.ghost.is_durable j)) → T (member x (operands j.update)) → ⊥) g.ghost.kept (λ j f n d m. no_both (has_operand x j.update) m (f d))
        (free-unused g (all.0).logs (all.0).images c s l.slot_of k l.here l.of l.opened there x (subst (λ z. T (member x z)) (sym e) (subst (λ b. T (b || member x xs)) (sym (same x)) tt)))

    pub marked : DurableAreMarked g c k
    marked = record {
      alike = (all.3).alike;
      above = (all.3).above;
      opened = λ t p q u. ((all.3).owned t p.0 p.1 q).0 (((all.0).images).unfrozen t u);
      invisible = hidden k.ids refl;
    }
