-- What an end loses may be lost: it is kept so far, nothing of it is covered, and no other clerk touched it.
use Rattle.std.proofs.Common.{◌≡◌, refl, sym, ap, subst, ◌∙◌, ℕ, T, Bool, true, false, not, ◌==◌, ◌&&◌, ◌||◌, cond, map, List, [], ◌∷◌, Some}
use Rattle.std.specs.List.{filter, list_any, list_all}
use Rattle.std.proofs.lemmas.Bool.{and_parts}
use Rattle.ec_base.specs.declared.ids.Age.{Age}
use Rattle.ec_volume.specs.Update.{member}
use Rattle.ec_volume.specs.Volume.{Fits}
use Rattle.ec_history.specs.History.{History, Op, Each, Covers, kept, numbers, updates, of_start, is_one_of, without}
use Rattle.ec_history.specs.Legal.{IsLawful, is_closed}
use Rattle.ec_history.specs.declared.entry.Entry.{Entry}
use Rattle.ec_coherence.specs.System.{System, base_of, is_of, is_open, undurable}
use Rattle.ec_coherence.specs.Events.{EventsAgree, shown_boot, shown_op}
use Rattle.ec_coherence.proofs.ForServer.Tables.{each-map}
use Rattle.ec_coherence.proofs.ForCommits.Appended.{throughout-in}
use Rattle.ec_base.proofs.Numbers.{same-self as same, equal}
use Rattle.ec_base.proofs.Bools.{not-both as refutes, or-right}

module _ (g : System) (ev : EventsAgree g) (s : ℕ) (o : ℕ × Age) (w : g.ghost.owner s ≡ Some o) (p : T (is_open g s)) where
  abbrev sb : ℕ
  sb = shown_boot g o.0 (o.1).boot

  abbrev lost : List ℕ
  lost = numbers (undurable g.ghost s)

  abbrev pending : Op → Bool
  pending y = is_of (g.ghost.owner s) y && not (g.ghost.is_durable y)

  -- what is lost is of the session's start, and not durable
  record IsPending (j : Op) : Type 0 where
    clerk : o.0 ≡ j.clerk
    boot : (o.1).boot ≡ j.boot
    still : T (not (g.ghost.is_durable j))

  is-pending : (j : Op) → pending j ≡ true → IsPending j
  is-pending j e =
      let both = and_parts (is_of (g.ghost.owner s) j) (not (g.ghost.is_durable j)) e in
      let own = and_parts (o.0 == j.clerk) ((o.1).boot == j.boot) (ap (λ z. is_of z j) (sym w) ∙ both.0) in
      record { clerk = equal o.0 j.clerk own.0; boot = equal (o.1).boot j.boot own.1; still = subst T (sym both.1) tt }

  all-pending : (ys : List Op) → Each IsPending (filter pending ys)
  all-pending [] = tt
  all-pending (y ∷ ys) = go (pending y) refl (all-pending ys)
    where
      go : (b : Bool) → pending y ≡ b → Each IsPending (filter pending ys) → Each IsPending (cond b (y ∷ filter pending ys) (filter pending ys))
      go true e r = (is-pending y e, r)
      go false e r = r

  abbrev IsThere : List Op → ℕ → Type 0
  IsThere ks n = T (list_any (is_one_of o.0 sb (n ∷ [])) ks)

  at-itself : (j : Op) → IsPending j → T (is_one_of o.0 sb (j.number ∷ []) (shown_op g j))
  at-itself j h =
      subst (λ d. T (((o.0 == d) && (sb == shown_boot g d j.boot)) && member j.number (j.number ∷ []))) h.clerk
      (subst (λ f. T (((o.0 == o.0) && (sb == shown_boot g o.0 f)) && member j.number (j.number ∷ []))) h.boot
      (subst (λ z. T ((z && (sb == sb)) && member j.number (j.number ∷ []))) (sym (same o.0))
      (subst (λ z. T (z && member j.number (j.number ∷ []))) (sym (same sb)) (subst (λ z. T (z || false)) (sym (same j.number)) tt))))

  or-left : (a b : Bool) → T a → T (a || b)
  or-left true b t = tt
  or-left false b t = absurd t

  there : (ys : List Op) → Each (λ n. IsThere (map (shown_op g) ys) n) (numbers (filter pending ys))
  there [] = tt
  there (y ∷ ys) = go (pending y) refl (each-map (IsThere (map (shown_op g) ys)) (IsThere (map (shown_op g) (y ∷ ys))) (numbers (filter pending ys))
      (λ n t. or-right (is_one_of o.0 sb (n ∷ []) (shown_op g y)) (list_any (is_one_of o.0 sb (n ∷ [])) (map (shown_op g) ys)) t) (there ys))
    where
      go : (b : Bool) → pending y ≡ b → Each (IsThere (map (shown_op g) (y ∷ ys))) (numbers (filter pending ys)) → Each (IsThere (map (shown_op g) (y ∷ ys))) (numbers (cond b (y ∷ filter pending ys) (filter pending ys)))
      go true e r = (or-left (is_one_of o.0 sb (y.number ∷ []) (shown_op g y)) (list_any (is_one_of o.0 sb (y.number ∷ [])) (map (shown_op g) ys)) (at-itself y (is-pending y e)), r)
      go false e r = r

  all-there : (ks : List Op) (ns : List ℕ) → Each (IsThere ks) ns → T (list_all (λ n. list_any (is_one_of o.0 sb (n ∷ [])) ks) ns)
  all-there ks [] h = tt
  all-there ks (n ∷ ns) h = go (list_any (is_one_of o.0 sb (n ∷ [])) ks) h.0 (all-there ks ns h.1)
    where
      go : (b : Bool) → T b → T (list_all (λ n. list_any (is_one_of o.0 sb (n ∷ [])) ks) ns) → T (b && list_all (λ n. list_any (is_one_of o.0 sb (n ∷ [])) ks) ns)
      go true t r = r
      go false t r = absurd t

  none-covered : (h : History) (e : ℕ × Entry) → ((j : Op) → Covers (base_of g) h e j.clerk (shown_boot g j.clerk j.boot) j.number → T (g.ghost.is_durable j))
      → (ys : List Op) → Each IsPending ys → Each (λ n. ¬ (Covers (base_of g) h e o.0 sb n)) (numbers ys)
  none-covered h e f [] a = tt
  none-covered h e f (y ∷ ys) a = (
    (λ v. refutes (g.ghost.is_durable y) (f y (subst (λ d. Covers (base_of g) h e d (shown_boot g d y.boot) y.number) (a.0).clerk (subst (λ b. Covers (base_of g) h e o.0 (shown_boot g o.0 b) y.number) (a.0).boot v))) (a.0).still),
    none-covered h e f ys a.1,
  )

  -- with C3 and V3 as premises
  pub end-lawful : T (is_closed (is_one_of o.0 sb lost) (filter (of_start o.0 sb) (kept (base_of g) g.ghost.history))) → Fits g.origin (updates (without o.0 sb lost (kept (base_of g) g.ghost.history)))
      → IsLawful (base_of g) g.ghost.history o.0 sb lost
  end-lawful closed fits = record {
    kept_so_far = subst (λ ks. T (list_all (λ n. list_any (is_one_of o.0 sb (n ∷ [])) ks) lost)) (sym ev.keeps) (all-there (map (shown_op g) g.ghost.kept) lost (there g.ghost.kept));
    uncovered = throughout-in g.ghost.history _ (λ h e. Each (λ n. ¬ (Covers (base_of g) h e o.0 sb n)) lost) (λ h rest e u f. none-covered h e f (undurable g.ghost s) (all-pending g.ghost.kept)) [] g.ghost.history refl ev.covered;
    untouched = ev.untouched s o w p;
    closed = closed;
    fits = fits;
  }
