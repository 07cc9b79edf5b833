-- Operations of a start as they are, and as they are shown.
use Rattle.std.proofs.Common.{◌≡◌, refl, ap, ◌∙◌, inl, inr, arith, ℕ, Bool, true, false, ◌&&◌, ◌==◌, ◌-◌, cond, List, [], ◌∷◌, map, filter}
use Rattle.std.proofs.lemmas.Bool.{and_parts, eq-eqb, eqb-true}
use Rattle.ec_order.specs.Order.{Holds}
use Rattle.ec_history.specs.History.{Op, of_issue, of_start}
use Rattle.ec_machine_laws.specs.Needs.{IsPart}
use Rattle.ec_coherence.specs.Events.{shown_boot, shown_op}
use Rattle.ec_coherence.specs.Log.{numbered}
use Rattle.ec_coherence.specs.System.{System}

-- A start's operations, as they are and as they are shown.
module _ (g : System) (c b : ℕ) where
  shown-same : (o : Op) → of_start c b o ≡ true → of_start c (shown_boot g c b) (shown_op g o) ≡ true
  shown-same o e =
      let two = and_parts (c == o.clerk) (b == o.boot) e in
      both (c == o.clerk) (shown_boot g c b == shown_boot g o.clerk o.boot) two.0
      (eq-eqb (shown_boot g c b) (shown_boot g o.clerk o.boot) (ap (λ z. shown_boot g z b) (eqb-true c o.clerk two.0) ∙ ap (shown_boot g o.clerk) (eqb-true b o.boot two.1)))
    where
      both : (y z : Bool) → y ≡ true → z ≡ true → (y && z) ≡ true
      both true true e f = refl
      both true false e f = absurd (grind (arith, f))
      both false z e f = absurd (grind (arith, e))

  pub shown-part : (ks : List Op) → IsPart (numbered (filter (of_start c b) ks)) (of_issue c (shown_boot g c b) (map (shown_op g) ks))
  shown-part [] n u h = h
  shown-part (k ∷ ks) n u h = go (of_start c b k) (of_start c (shown_boot g c b) (shown_op g k)) (shown-same k) (shown-part ks n u) h
    where
      go : (y z : Bool) → (y ≡ true → z ≡ true) → (Holds (numbered (filter (of_start c b) ks)) n u → Holds (of_issue c (shown_boot g c b) (map (shown_op g) ks)) n u)
          → Holds (numbered (cond y (k ∷ filter (of_start c b) ks) (filter (of_start c b) ks))) n u
          → Holds (map (λ (o : Op). (o.number, o.update)) (cond z (shown_op g k ∷ filter (of_start c (shown_boot g c b)) (map (shown_op g) ks)) (filter (of_start c (shown_boot g c b)) (map (shown_op g) ks)))) n u
      go true true f r (inl e) = inl e
      go true true f r (inr h) = inr (r h)
      go true false f r h = absurd (grind (arith, f refl))
      go false true f r h = inr (r h)
      go false false f r h = r h
