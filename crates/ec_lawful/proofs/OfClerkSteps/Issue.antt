-- The operands of what a clerk issues are held, named, and no ids that anybody has left.
use Rattle.std.proofs.Common.{◌≡◌, ◌≢◌, refl, sym, ap, subst, ◌∙◌, inl, inr, ◌⊎◌, ℕ, Bool, true, false, not, ◌==◌, ◌||◌, T, List, [], ◌∷◌, ◌++◌, Option, Some, None, arith}
use Rattle.std.specs.Prelude.{drop, is_some}
use Rattle.ec_base.specs.Tables.{at}
use Rattle.ec_base.specs.declared.ids.Age.{Age}
use Rattle.ec_volume.specs.Update.{distinct, fits, has_operand, is_make, listed, member, operands}
use Rattle.ec_volume.specs.declared.image.Image.TheVariants.{Gone}
use Rattle.ec_volume.specs.declared.update.Update.{Update}
use Rattle.ec_volume.specs.declared.update.Update.TheVariants.{Make, Drop, Move, Put, Len, Mode, Stamp, Order, Shift, Owner}
use Rattle.ec_plain.specs.declared.call.Call.{Call}
use Rattle.ec_plain.specs.declared.call.Outcome.{Outcome}
use Rattle.ec_cache.specs.declared.state.Held.{Held}
use Rattle.ec_history.specs.History.{Each, updates}
use Rattle.ec_durable.specs.Durable.{made}
use Rattle.ec_cache.specs.declared.resolve.verdict.Verdict.TheVariants.{Done}
use Rattle.ec_protocol.specs.Clerk.{first_id, less_id, suits, verdict}
use Rattle.ec_protocol.specs.declared.clerk.Clerk.{Clerk}
use Rattle.ec_coherence.specs.System.{System, clerk_in, is_open, seen_ops, undurable}
use Rattle.ec_coherence.specs.Tokens.{IsWrite, Names, is_hidden, side, side_in, view}
use Rattle.ec_coherence.specs.Log.{made_by}
use Rattle.ec_coherence.specs.ChangeLaws.{IsInIt}
use Rattle.ec_coherence.proofs.ForClerk.CacheChange.{suits-held}
use Rattle.ec_coherence.proofs.ForBatches.ClerkIn.{owned}
use Rattle.ec_coherence.proofs.ForBatches.Ids.{in-front}
use Rattle.ec_coherence.proofs.ForServer.Lists.{each-at, each-member, either_way}
use Rattle.ec_coherence.proofs.ForBatches.OpenSlots.{open-at}
use Rattle.ec_coherence.proofs.ForClerk.SendClaim.{held-names}
use Rattle.ec_coherence.proofs.ForServer.Tables.{same_some}
use Rattle.ec_coherence.specs.CommitLaws.{AllAgree}
use Rattle.ec_lawful.specs.OfClerkSteps.Frees.{FreesAgree}
use Rattle.ec_lawful.specs.OfClerkSteps.Zeros.{LeaveOut}
use Rattle.ec_lawful.proofs.OfClerkSteps.Live.{its-slot, there}
use Rattle.ec_lawful.proofs.OfClerkSteps.SameStores.{in-left}
use Rattle.ec_lawful.proofs.OfClerkSteps.Turned.{makes-first, writes-all}
use Rattle.ec_lawful.proofs.OfClerkSteps.Unmade.{fits-gone}
use Rattle.ec_lawful.proofs.OfClerkSteps.Zeroless.{left-out}
use Rattle.ec_base.proofs.Bools.{left as and_first, not-both as no_both, is-true}
use Rattle.ec_base.proofs.Numbers.{same-self as same, equal}
use Rattle.ec_base.proofs.Options.{none_some}

made-is : (x : ℕ) (o : Option ℕ) → T (member x (listed o)) → o ≡ Some x
made-is x None m = absurd m
made-is x (Some y) m = ap Some (sym (equal x y (is-true (x == y) (or-none (x == y) m))))
  where
    or-none : (b : Bool) → T (b || false) → T b
    or-none true t = t
    or-none false t = t

makes-one : (u : Update) (x : ℕ) → made u ≡ Some x → is_make u ≡ true
makes-one (Make dir name obj k) x e = refl
makes-one (Drop dir name obj k) x e = absurd (none_some e)
makes-one (Move dir from to obj k victim) x e = absurd (none_some e)
makes-one (Put obj offset bytes inside) x e = absurd (none_some e)
makes-one (Len obj len) x e = absurd (none_some e)
makes-one (Mode obj mode) x e = absurd (none_some e)
makes-one (Stamp obj stamp) x e = absurd (none_some e)
makes-one (Order objs) x e = absurd (none_some e)
makes-one (Shift dir from into to obj k victim up) x e = absurd (none_some e)
makes-one (Owner obj owner) x e = absurd (none_some e)

-- the first of distinct ids isn't left
pub first-gone : (x : ℕ) (ids : List ℕ) → first_id ids ≡ Some x → T (distinct ids) → T (member x (drop 1 ids)) → ⊥
first-gone x [] e d m = m
first-gone x (y ∷ ys) e d m = no_both (member y ys) (subst (λ z. T (member z ys)) (sym (same_some e)) m) (and_first (not (member y ys)) (distinct ys) d)

pub first-in : (x : ℕ) (ids : List ℕ) → first_id ids ≡ Some x → T (member x ids)
first-in x [] e = absurd (none_some e)
first-in x (y ∷ ys) e = subst (λ z. T ((z == y) || member z ys)) (same_some e) (subst (λ b. T (b || member y ys)) (sym (same y)) tt)

pub held-of : (o : Option Held) → IsWrite o → (h : Held) × (o ≡ Some h)
held-of None w = absurd w
held-of (Some h) w = (h, refl)

module _ (g : System) (all : AllAgree g) (c s : ℕ) (age : Age) (k : Clerk) (in-it : IsInIt g c s age k) (frees : FreesAgree g) (cl : Call) (o : Outcome) (e : verdict cl k ≡ Done o) (u : Update) (q : o.update ≡ Some u) (suit : T (suits u k.cache)) where
  its : clerk_in g s ≡ Some k
  its = there g all c s age k in-it

  held : (x : ℕ) → T (has_operand x u) → (h : Held) × (at x k.cache.held ≡ Some h)
  held x m = held-of (at x k.cache.held) (writes-all cl k o e u q x m)

  -- an operand that is of no object yet is made, and has the clerk's first id
  made-here : (x : ℕ) → T (has_operand x u) → LeaveOut x (seen_ops (g.ghost.frozen s) g.ghost.kept) → g.origin x ≡ Gone → made u ≡ Some x
  made-here x m left gone =
      let h = suits-held u k.cache suit (writes-all cl k o e u q) x m in
      let image : (h.0).image ≡ Gone = ((all.0).images).licences s x k its h.0 h.1 ∙ left-out x (g.origin x) (seen_ops (g.ghost.frozen s) g.ghost.kept) left ∙ gone in
      made-is x (made u) (fits-gone u x m (subst (λ i. T (fits u x i)) image h.3))

  -- it's none that the clerk has left
  pub own-left : (x : ℕ) → T (member x (less_id u k.ids)) ⊎ T (is_hidden (view g) s x) → T (not (has_operand x u))
  own-left x i = elim (either_way (has_operand x u)) [ inr n ↦ n | inl m ↦ absurd (no i m) ]
    where
      no : T (member x (less_id u k.ids)) ⊎ T (is_hidden (view g) s x) → T (has_operand x u) → ⊥
      no (inr z) m = none_some (sym ((((all.0).tokens).alone s x z).1 (side k) (ap side_in its)).0 ∙ (held x m).1)
      no (inl z) m =
          let f = frees.unused s x k its (inl (in-left x u k.ids z)) in
          let is = made-here x m f.0 f.1 in
          first-gone x k.ids (makes-first cl k o e u q x is) (frees.once s k its)
          (subst (λ b. T (member x (elim b as (λ y. List ℕ) [ true ↦ drop 1 k.ids | false ↦ k.ids ]))) (makes-one u x is) z)

  -- nor one of another open session's clerk
  pub others-left : T (is_open g s) → (t x : ℕ) (m : Clerk) → s ≢ t → clerk_in g t ≡ Some m → g.ghost.frozen t ≡ None → T (member x m.ids) ⊎ T (is_hidden (view g) t x) → T (not (has_operand x u))
  others-left its-open t x m d there-t unfrozen i = elim (either_way (has_operand x u)) [ inr n ↦ n | inl z ↦ absurd (no i z) ]
    where
      open-t : T (is_open g t)
      open-t = elim (((all.0).images).cut_off t (owned t (g.ghost.owner t) g.clerks m there-t)) [ inl z ↦ z | inr z ↦ absurd (subst (λ y. T (is_some y)) unfrozen z) ]

      no : T (member x m.ids) ⊎ T (is_hidden (view g) t x) → T (has_operand x u) → ⊥
      no (inr z) y =
          let h = held x y in
          no_both (is_hidden (view g) t x) z ((held-names (view g) s (side k) (all.0).tokens (ap side_in its) (omega arith) x h.0 h.1).1 t)
      no (inl z) y =
          let f = frees.unused t x m there-t (inl z) in
          let left : LeaveOut x (seen_ops (g.ghost.frozen s) g.ghost.kept) = subst (λ v. LeaveOut x (seen_ops v g.ghost.kept)) (unfrozen ∙ sym (((all.0).images).unfrozen s its-open)) f.0 in
          let mine : T (member x k.ids) = first-in x k.ids (makes-first cl k o e u q x (made-here x y left f.1)) in
          let l = its-slot g all c s age k in-it its-open in
          let r = open-at t (g.durable).sessions open-t in
          let my-ids = (((all.0).logs).logs s c l.slot_of l.here l.of l.opened k its).ids in
          let their-ids = (((all.0).logs).logs t r.0 r.1 (r.2).0 (r.2).1 (r.2).2 m there-t).ids in
          no_both (member x (r.1).unspent)
          (each-at (λ v. T (member v (r.1).unspent)) x (m.ids ++ made_by (updates (undurable g.ghost t))) their-ids.free (in-front x m.ids (made_by (updates (undurable g.ghost t))) z))
          (((all.0).logs).apart s t x d c l.slot_of l.here l.of l.opened r.0 r.1 (r.2).0 (r.2).1 (r.2).2
          (each-at (λ v. T (member v (l.slot_of).unspent)) x (k.ids ++ made_by (updates (undurable g.ghost s))) my-ids.free (in-front x k.ids (made_by (updates (undurable g.ghost s))) mine)))

  -- all are named
  pub op-named : Each (Names (view g)) (operands u)
  op-named = each-member (Names (view g)) (operands u) (λ x m. let h = held x m in held-names (view g) s (side k) (all.0).tokens (ap side_in its) (omega arith) x h.0 h.1)
