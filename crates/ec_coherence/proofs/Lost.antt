-- What the end of a session loses, in the words of the history: it may be lost, and what is left is what is kept behind the end.
use Rattle.std.proofs.Common.{◌≡◌, refl, sym, ap, subst, ◌∙◌, arith, ◌<◌, ◌-◌, ℕ, Bool, true, false, not, ◌==◌, ◌&&◌, ◌||◌, cond, map, T, List, [], ◌∷◌, Some}
use Rattle.std.specs.Prelude.{⊤}
use Rattle.std.specs.List.{filter, list_all}
use Rattle.ec_base.specs.declared.ids.Age.{Age}
use Rattle.ec_volume.specs.Update.{member}
use Rattle.ec_volume.specs.Volume.{Fits}
use Rattle.ec_volume.specs.declared.update.Update.{Update}
use Rattle.ec_order.specs.Order as order
use Rattle.ec_history.specs.History.{Op, Each, kept, numbers, updates, of_start, is_one_of, without}
use Rattle.ec_history.specs.Legal.{IsLawful, is_closed}
use Rattle.ec_history.proofs.OfLaws.ForPlacing.Parts.{needs-part}
use Rattle.ec_history.proofs.OfLaws.ForPlacing.Removed.{removal-rest}
use Rattle.ec_coherence.specs.System.{System, base_of, is_of, is_open, undurable}
use Rattle.ec_coherence.specs.Events.{EventsAgree, shown_boot, shown_op}
use Rattle.ec_coherence.specs.Log.{LogsAgree}
use Rattle.ec_coherence.proofs.ForServer.Lists.{each-always, each-part, each-turn, filter-alike, filter-map}
use Rattle.ec_coherence.proofs.ForServer.Tables.{differs}
use Rattle.ec_coherence.proofs.ForCommits.EndsLawful.{end-lawful}
use Rattle.ec_coherence.specs.Starts.{AreAlike}
use Rattle.ec_base.proofs.Bools.{left as and_first, and-both as and_both, same_tests, or-right as or_next, right as and_next, is-true}
use Rattle.ec_base.proofs.Numbers.{same-self as same, equal}
use Rattle.ec_base.proofs.Lists.{map_twice as map-two}

-- Lists.

abbrev pub Found : (Op → Bool) → (Op → Type 0) → ℕ → Type 0
Found p P n = (j : Op) × T (p j) × (n ≡ j.number) × P j

-- each number of a part is one of an operation that passes
pub of-part : (p : Op → Bool) (P : Op → Type 0) (n : ℕ) (ks : List Op) → Each P ks → T (member n (numbers (filter p ks))) → Found p P n
of-part p P n [] h m = absurd m
of-part p P n (k ∷ ks) h m = go (p k) refl m (of-part p P n ks h.1)
  where
    first : (b : Bool) → (n == k.number) ≡ b → T (p k) → T (b || member n (numbers (filter p ks))) → (T (member n (numbers (filter p ks))) → Found p P n) → Found p P n
    first true e t m r = (k, t, equal n k.number e, h.0)
    first false e t m r = r m

    go : (b : Bool) → p k ≡ b → T (member n (numbers (cond b (k ∷ filter p ks) (filter p ks)))) → (T (member n (numbers (filter p ks))) → Found p P n) → Found p P n
    go true e m r = first (n == k.number) refl (subst T (sym e) tt) m r
    go false e m r = r m

-- the number of each that passes is there
pub in-part : (p : Op → Bool) (ks : List Op) → Each (λ k. T (p k) → T (member k.number (numbers (filter p ks)))) ks
in-part p [] = tt
in-part p (k ∷ ks) = (own (p k), each-turn (λ j. T (p j) → T (member j.number (numbers (filter p ks)))) (λ j. T (p j) → T (member j.number (numbers (filter p (k ∷ ks))))) ks (λ j f t. more (p k) j.number (f t)) (in-part p ks))
  where
    own : (b : Bool) → T b → T (member k.number (numbers (cond b (k ∷ filter p ks) (filter p ks))))
    own true t = subst (λ z. T (z || member k.number (numbers (filter p ks)))) (sym (same k.number)) tt
    own false t = absurd t

    more : (b : Bool) (n : ℕ) → T (member n (numbers (filter p ks))) → T (member n (numbers (cond b (k ∷ filter p ks) (filter p ks))))
    more true n t = or_next (n == k.number) (member n (numbers (filter p ks))) t
    more false n t = t

-- whether a set is closed is read off the updates alone
module _ (f : Op → Op) (same_update : (k : Op) → (f k).update ≡ k.update) (inside outside : Op → Bool) where
  all-same : (u : Update) (ks : List Op) → Each (λ k. inside (f k) ≡ outside k) ks → list_all (λ j. inside j || not (order.before u j.update)) (map f ks) ≡ list_all (λ j. outside j || not (order.before u j.update)) ks
  all-same u [] h = refl
  all-same u (k ∷ ks) h = ap (λ z. (z || not (order.before u (f k).update)) && list_all (λ j. inside j || not (order.before u j.update)) (map f ks)) h.0
      ∙ ap (λ v. (outside k || not (order.before u v)) && list_all (λ j. inside j || not (order.before u j.update)) (map f ks)) (same_update k)
      ∙ ap (λ z. (outside k || not (order.before u k.update)) && z) (all-same u ks h.1)

  pub closed-same : (ks : List Op) → Each (λ k. inside (f k) ≡ outside k) ks → is_closed inside (map f ks) ≡ is_closed outside ks
  closed-same [] h = refl
  closed-same (k ∷ ks) h = ap (λ z. (not z || list_all (λ j. inside j || not (order.before (f k).update j.update)) (map f ks)) && is_closed inside (map f ks)) h.0
      ∙ ap (λ v. (not (outside k) || list_all (λ j. inside j || not (order.before v j.update)) (map f ks)) && is_closed inside (map f ks)) (same_update k)
      ∙ ap (λ z. (not (outside k) || z) && is_closed inside (map f ks)) (all-same k.update ks h.1)
      ∙ ap (λ z. (not (outside k) || list_all (λ j. outside j || not (order.before k.update j.update)) ks) && z) (closed-same ks h.1)

-- Boots are told apart as they are shown.
pub minus-same : (f x b : ℕ) → f < b → ((b - f) == (x - f)) ≡ (b == x)
minus-same f x b l = go (b == x) refl
  where
    apart : (f x b : ℕ) → f < b → b - f ≡ x - f → b ≡ x
    apart f x b l e = omega (arith, l, e)

    go : (z : Bool) → (b == x) ≡ z → ((b - f) == (x - f)) ≡ z
    go true e = ap (λ y. b - f == y - f) (sym (equal b x e)) ∙ same (b - f)
    go false e = by ((b - f) == (x - f)) refl
      where
        by : (y : Bool) → ((b - f) == (x - f)) ≡ y → y ≡ false
        by false p = refl
        by true p = absurd (differs b x e (apart f x b l (equal (b - f) (x - f) p)))

module _ (g : System) (ev : EventsAgree g) (alike : AreAlike g.ghost) (s c : ℕ) (age : Age) (owner-is : g.ghost.owner s ≡ Some (c, age)) (above : g.first_boot c < age.boot) where
  abbrev sb : ℕ
  sb = shown_boot g c age.boot

  abbrev pub pending : Op → Bool
  pending k = is_of (g.ghost.owner s) k && not (g.ghost.is_durable k)

  abbrev ns : List ℕ
  ns = numbers (undurable g.ghost s)

  abbrev pub left : Op → Bool
  left k = not (pending k)

  pub same-start : (k : Op) → of_start c sb (shown_op g k) ≡ of_start c age.boot k
  same-start k = go (c == k.clerk) refl
    where
      go : (z : Bool) → (c == k.clerk) ≡ z → (z && (sb == shown_boot g k.clerk k.boot)) ≡ (z && (age.boot == k.boot))
      go false e = refl
      go true e = ap (λ d. sb == shown_boot g d k.boot) (sym (equal c k.clerk e)) ∙ minus-same (g.first_boot c) k.boot age.boot above

  -- the start, and that it isn't durable
  pub of-pending : (k : Op) → T (pending k) → T (of_start c age.boot k) × T (not (g.ghost.is_durable k))
  of-pending k t = (subst (λ o. T (is_of o k)) owner-is (and_first (is_of (g.ghost.owner s) k) _ t), and_next (is_of (g.ghost.owner s) k) _ t)

  pub is-pending : (k : Op) → T (of_start c age.boot k) → T (not (g.ghost.is_durable k)) → T (pending k)
  is-pending k t n = and_both (is_of (g.ghost.owner s) k) (not (g.ghost.is_durable k)) (subst (λ o. T (is_of o k)) (sym owner-is) t) n

  -- two operations of one start
  pub same-clerks : (j k : Op) → T (of_start c age.boot j) → T (of_start c age.boot k) → (j.clerk ≡ k.clerk) × (j.boot ≡ k.boot)
  same-clerks j k t u = (
    sym (equal c j.clerk (is-true (c == j.clerk) (and_first (c == j.clerk) _ t))) ∙ equal c k.clerk (is-true (c == k.clerk) (and_first (c == k.clerk) _ u)),
    sym (equal age.boot j.boot (is-true (age.boot == j.boot) (and_next (c == j.clerk) _ t))) ∙ equal age.boot k.boot (is-true (age.boot == k.boot) (and_next (c == k.clerk) _ u)),
  )

  -- what is named is what is pending
  pub named : Each (λ k. is_one_of c sb ns (shown_op g k) ≡ pending k) g.ghost.kept
  named = each-turn (λ k. T (pending k) → T (member k.number ns)) (λ k. is_one_of c sb ns (shown_op g k) ≡ pending k) g.ghost.kept one (in-part pending g.ghost.kept)
    where
      one : (k : Op) → (T (pending k) → T (member k.number ns)) → is_one_of c sb ns (shown_op g k) ≡ pending k
      one k f = same_tests (is_one_of c sb ns (shown_op g k)) (pending k) there back
        where
          there : T (is_one_of c sb ns (shown_op g k)) → T (pending k)
          there t =
              let mine = subst T (same-start k) (and_first (of_start c sb (shown_op g k)) (member k.number ns) t) in
              let j = of-part pending (λ z. ⊤) k.number g.ghost.kept (each-always (λ z. ⊤) g.ghost.kept (λ z. tt)) (and_next (of_start c sb (shown_op g k)) (member k.number ns) t) in
              let its = of-pending j.0 j.1 in
              let two = same-clerks j.0 k its.0 mine in
              is-pending k mine (subst (λ z. T (not z)) (alike j.0 k two.0 two.1 (sym j.2)) its.1)

          back : T (pending k) → T (is_one_of c sb ns (shown_op g k))
          back t = and_both (of_start c sb (shown_op g k)) (member k.number ns) (subst T (sym (same-start k)) (of-pending k t).0) (f t)

  -- what is left of the history's operations
  pub left-now : without c sb ns (kept (base_of g) g.ghost.history) ≡ map (shown_op g) (filter left g.ghost.kept)
  left-now = ap (without c sb ns) ev.keeps ∙ filter-map (λ k. not (is_one_of c sb ns k)) (shown_op g) g.ghost.kept
      ∙ ap (map (shown_op g)) (filter-alike (λ k. not (is_one_of c sb ns (shown_op g k))) left g.ghost.kept (each-turn (λ k. is_one_of c sb ns (shown_op g k) ≡ pending k) (λ k. not (is_one_of c sb ns (shown_op g k)) ≡ left k) g.ghost.kept (λ k e. ap not e) named))

  -- none outside is ordered after one that is lost
  abbrev mine : List Op
  mine = filter (of_start c age.boot) g.ghost.kept

  mine-shown : filter (of_start c sb) (kept (base_of g) g.ghost.history) ≡ map (shown_op g) mine
  mine-shown = ap (filter (of_start c sb)) ev.keeps ∙ filter-map (of_start c sb) (shown_op g) g.ghost.kept
      ∙ ap (map (shown_op g)) (filter-alike (λ k. of_start c sb (shown_op g k)) (of_start c age.boot) g.ghost.kept (each-always (λ k. of_start c sb (shown_op g k) ≡ of_start c age.boot k) g.ghost.kept same-start))

  mine-named : Each (λ k. is_one_of c sb ns (shown_op g k) ≡ not (g.ghost.is_durable k)) mine
  mine-named = each-part (λ k. is_one_of c sb ns (shown_op g k) ≡ not (g.ghost.is_durable k)) (of_start c age.boot) g.ghost.kept
      (each-turn (λ k. is_one_of c sb ns (shown_op g k) ≡ pending k) (λ k. T (of_start c age.boot k) → is_one_of c sb ns (shown_op g k) ≡ not (g.ghost.is_durable k)) g.ghost.kept
      (λ k e t. e ∙ ap (λ o. is_of o k && not (g.ghost.is_durable k)) owner-is ∙ ap (λ z. z && not (g.ghost.is_durable k)) (is-true (of_start c age.boot k) t)) named)

  closed-now : LogsAgree g → T (is_closed (is_one_of c sb ns) (filter (of_start c sb) (kept (base_of g) g.ghost.history)))
  closed-now lo = subst T (sym (ap (is_closed (is_one_of c sb ns)) mine-shown ∙ closed-same (shown_op g) (λ k. refl) (is_one_of c sb ns) (λ k. not (g.ghost.is_durable k)) mine mine-named))
      (removal-rest g.ghost.is_durable mine (needs-part (λ o. o.update) g.ghost.is_durable (of_start c age.boot) g.ghost.kept lo.closed))

  pub lawful : LogsAgree g → T (is_open g s) → Fits g.origin (updates (filter left g.ghost.kept)) → IsLawful (base_of g) g.ghost.history c sb ns
  lawful lo open-now fits = end-lawful g ev s (c, age) owner-is open-now (closed-now lo)
      (subst (λ ks. Fits g.origin (updates ks)) (sym left-now) (subst (Fits g.origin) (sym (map-two (λ k. k.update) (shown_op g) (filter left g.ghost.kept))) fits))
