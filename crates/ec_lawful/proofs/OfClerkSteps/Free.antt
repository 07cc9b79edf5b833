-- The ids that a clerk of an open session has left are operands of no operation that isn't durable, and of no object.
use Rattle.std.proofs.Common.{◌≡◌, refl, sym, subst, ◌∙◌, inl, inr, ℕ, Bool, true, false, not, ◌==◌, ◌&&◌, T, List, [], ◌∷◌, ◌++◌, Some}
use Rattle.std.specs.List.{filter}
use Rattle.std.proofs.lemmas.Bool.{cases_eq}
use Rattle.ec_volume.specs.Image.{is_gone}
use Rattle.ec_volume.specs.Update.{distinct, listed, member}
use Rattle.ec_volume.specs.Volume.{after, images}
use Rattle.ec_volume.specs.declared.image.Image.TheVariants.{Gone}
use Rattle.ec_history.specs.History.{Each, Op, updates}
use Rattle.ec_sessions.specs.declared.slot.Slot.{Slot}
use Rattle.ec_durable.specs.Durable.{made, slot}
use Rattle.ec_protocol.specs.declared.clerk.Clerk.{Clerk}
use Rattle.ec_coherence.specs.System.{System, clerk_in, is_of, undurable}
use Rattle.ec_coherence.specs.Log.{HasWrites, IdsAgree, LogsAgree, made_by}
use Rattle.ec_coherence.specs.Images.{ImagesAgree}
use Rattle.ec_coherence.proofs.ForBatches.Carried.{gone-is}
use Rattle.ec_coherence.proofs.ForBatches.Ending.{untouched-after}
use Rattle.ec_coherence.proofs.ForBatches.Ids.{in-back, in-front}
use Rattle.ec_coherence.proofs.ForServer.Lists.{each-at, filter-no, filter-yes, or_else}
use Rattle.ec_coherence.proofs.ForBatches.OpenSlots.{open-at}
use Rattle.ec_lawful.proofs.OfClerkSteps.Unmade.{IsMadeIn, Leaves, unmade}
use Rattle.ec_base.proofs.Bools.{left as and_first, not-both as no_both, and-both as and_both, right as and_next, is-true}
use Rattle.ec_base.proofs.Numbers.{equal}

-- what one of these operations makes, which passes the test
in-makes : (test : Op → Bool) (x : ℕ) (front back : List Op) (o : Op) → T (test o) → T (member x (listed (made o.update))) → T (member x (made_by (updates (filter test (front ++ o ∷ back)))))
in-makes test x [] back o t m = subst (λ z. T (member x (made_by (updates z)))) (sym (filter-yes test o back (is-true (test o) t))) (in-front x (listed (made o.update)) (made_by (updates (filter test back))) m)
in-makes test x (f ∷ fs) back o t m = go (test f) refl (in-makes test x fs back o t m)
  where
    rest : List Op
    rest = fs ++ o ∷ back

    go : (b : Bool) → test f ≡ b → T (member x (made_by (updates (filter test (fs ++ o ∷ back))))) → T (member x (made_by (updates (filter test (f ∷ fs ++ o ∷ back)))))
    go true e r = subst (λ z. T (member x (made_by (updates z)))) (sym (filter-yes test f (fs ++ o ∷ back) e)) (in-back x (listed (made f.update)) (made_by (updates (filter test (fs ++ o ∷ back)))) r)
    go false e r = subst (λ z. T (member x (made_by (updates z)))) (sym (filter-no test f (fs ++ o ∷ back) e)) r

in-both : (x : ℕ) (xs ys : List ℕ) → T (distinct (xs ++ ys)) → T (member x xs) → T (member x ys) → ⊥
in-both x [] ys d m n = m
in-both x (y ∷ xs) ys d m n = elim (or_else (x == y) (member x xs) m) [
  | inl e ↦ no_both (member y (xs ++ ys)) (subst (λ z. T (member z (xs ++ ys))) (equal x y (is-true (x == y) e)) (in-back x xs ys n)) (and_first (not (member y (xs ++ ys))) (distinct (xs ++ ys)) d)
  | inr r ↦ in-both x xs ys (and_next (not (member y (xs ++ ys))) (distinct (xs ++ ys)) d) r n
]

module _ (g : System) (lo : LogsAgree g) (im : ImagesAgree g) (c s : ℕ) (sl : Slot) (k : Clerk) (here : slot g.durable c ≡ Some sl) (of : sl.session ≡ s) (opened : T sl.is_open) (there : clerk_in g s ≡ Some k)
    (x : ℕ) (free : T (member x k.ids)) where
  abbrev dur : Op → Bool
  dur = g.ghost.is_durable

  abbrev Writes : Op → Type 0
  Writes o = T (not (dur o)) → HasWrites g o

  ids : IdsAgree k sl (g.ghost.grants s) (g.ghost.first s) (undurable g.ghost s)
  ids = (lo.logs s c sl here of opened k there).ids

  in-store : T (member x sl.unspent)
  in-store = each-at (λ y. T (member y sl.unspent)) x (k.ids ++ made_by (updates (undurable g.ghost s))) ids.free (in-front x k.ids (made_by (updates (undurable g.ghost s))) free)

  gone-there : after g.origin (updates (filter dur g.ghost.kept)) x ≡ Gone
  gone-there = sym (im.server x) ∙ gone-is (images (g.durable).volume x) (is-true (is_gone (images (g.durable).volume x)) (lo.unspent s x c sl here of opened in-store).1)

  made-in : (t : ℕ) (m : IsMadeIn dur x Writes g.ghost.kept) → T (is_of (g.ghost.owner t) m.op) → T (member x (made_by (updates (undurable g.ghost t))))
  made-in t m own = subst (λ z. T (member x (made_by (updates (filter (λ o. is_of (g.ghost.owner t) o && not (dur o)) z))))) (sym m.whole)
      (in-makes (λ o. is_of (g.ghost.owner t) o && not (dur o)) x m.front m.back m.op (and_both (is_of (g.ghost.owner t) m.op) (not (dur m.op)) own m.pending) m.makes)

  impossible : IsMadeIn dur x Writes g.ghost.kept → ⊥
  impossible m =
      let w = m.fact m.pending in
      let q = open-at w.session (g.durable).sessions w.is_open in
      let its = made-in w.session m w.own in
      elim (cases_eq s w.session) [
        | inl e ↦ in-both x k.ids (made_by (updates (undurable g.ghost s))) ids.distinct_ids free (subst (λ t. T (member x (made_by (updates (undurable g.ghost t))))) (sym e) its)
        | inr n ↦
            let others = (lo.logs w.session q.0 q.1 (q.2).0 (q.2).1 (q.2).2 w.clerk w.in_place).ids in
            no_both (member x (q.1).unspent)
            (each-at (λ y. T (member y (q.1).unspent)) x ((w.clerk).ids ++ made_by (updates (undurable g.ghost w.session))) others.free (in-back x (w.clerk).ids (made_by (updates (undurable g.ghost w.session))) its))
            (lo.apart s w.session x n c sl here of opened q.0 q.1 (q.2).0 (q.2).1 (q.2).2 in-store)
      ]

  pub free-unused : Each (Leaves dur x) g.ghost.kept
  free-unused = elim (unmade dur x Writes g.ghost.kept (g.origin x) lo.writes lo.closed (im.fits x) gone-there) [ inl f ↦ f | inr m ↦ absurd (impossible m) ]

  pub free-gone : after g.origin (updates g.ghost.kept) x ≡ Gone
  free-gone = sym (untouched-after dur x (g.origin x) g.ghost.kept free-unused) ∙ gone-there
