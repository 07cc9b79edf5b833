-- The ids of a volume's list are those of its live objects, each once.
use Rattle.std.proofs.Common.{◌≡◌, ℕ, suc, ◌≤◌, ◌<◌, Bool, true, false, not, if◌then◌else◌, [], ◌∷◌, length, T, refl, sym, ap, subst, ◌∙◌, arith, inl, inr}
use Rattle.std.specs.List.{list_all}
use Rattle.std.specs.Ordering.{nat_cmp, is_lt}
use Rattle.std.specs.FinMap.{is_sorted}
use Rattle.std.specs.FinMap.Entries.{below_all}
use Rattle.std.proofs.lemmas.Bool.{cases_eq, cases_Bool, ne_eqb, eq-eqb}
use Rattle.ec_base.specs.SortedLaws.{first, second}
use Rattle.ec_base.specs.Tables.{Table, keys}
use Rattle.ec_volume.specs.Image.{is_gone}
use Rattle.ec_volume.specs.Volume.{images}
use Rattle.ec_volume.specs.Held.{IsVolume, is_held}
use Rattle.ec_volume.specs.declared.image.Image.{Image}
use Rattle.ec_volume.proofs.Held.{held_live}
use Rattle.ec_sessions.specs.WindowMarks.{times}
use Rattle.ec_durable.proofs.Counts.{here, there}
use Rattle.ec_base.proofs.Bools.{as_one, is-true as is_true, lower-tested}

opposite : (b : Bool) → b ≡ true → b ≡ false → ⊥
opposite true t f = subst T f tt
opposite false t f = subst T (sym t) tt

elsewhere : (e : ℕ × Image) (es : Table Image) (id : ℕ) → (e.0 ≡ id → ⊥) → images (e ∷ es) id ≡ images es id
elsewhere e es id n = ap (λ b. if b then e.1 else images es id) (ne_eqb id e.0 (λ s. n (sym s)))

right_here : (e : ℕ × Image) (es : Table Image) (id : ℕ) → e.0 ≡ id → images (e ∷ es) id ≡ e.1
right_here e es id s = ap (λ b. if b then e.1 else images es id) (eq-eqb id e.0 (sym s))

live_here : (es : Table Image) (id : ℕ) → is_gone (images es id) ≡ false → 1 ≤ times id (keys es)
live_here [] id h = absurd (opposite true refl h)
live_here (e ∷ es) id h =
    elim (cases_eq e.0 id) [
      | inl s ↦ omega (arith, here id e.0 (keys es) s)
      | inr n ↦ omega (arith, there id e.0 (keys es) n, live_here es id (sym (ap is_gone (elsewhere e es id n)) ∙ h))
    ]

gone_nowhere : (es : Table Image) (id : ℕ) → T (list_all (λ e. is_held e.1) es) → is_gone (images es id) ≡ true → times id (keys es) ≤ 0
gone_nowhere [] id h g = omega arith
gone_nowhere (e ∷ es) id h g =
    elim (cases_eq e.0 id) [
      | inl s ↦ absurd (opposite (is_gone e.1) (sym (ap is_gone (right_here e es id s)) ∙ g) (held_live e.1 (is_true _ (first (is_held e.1) _ h))))
      | inr n ↦ omega (arith, there id e.0 (keys es) n, gone_nowhere es id (second (is_held e.1) _ h) (sym (ap is_gone (elsewhere e es id n)) ∙ g))
    ]

above : (k : ℕ) (es : Table Image) → T (below_all nat_cmp k es) → times k (keys es) ≤ 0
above k [] h = omega arith
above k (e ∷ es) h =
    let less : k < e.0 = lower-tested k e.0 (first (is_lt (nat_cmp k e.0)) (below_all nat_cmp k es) h) in
    omega (arith, there k e.0 (keys es) (λ s. absurd (omega (arith, less, s))), above k es (second (is_lt (nat_cmp k e.0)) (below_all nat_cmp k es) h))

keys_once : (es : Table Image) → T (is_sorted nat_cmp es) → (id : ℕ) → times id (keys es) ≤ 1
keys_once [] h id = omega arith
keys_once (e ∷ es) h id =
    elim (cases_eq e.0 id) [
      | inl s ↦ omega (arith, here id e.0 (keys es) s, subst (λ k. times k (keys es) ≤ 0) s (above e.0 es (first (below_all nat_cmp e.0 es) (is_sorted nat_cmp es) h)))
      | inr n ↦ omega (arith, there id e.0 (keys es) n, keys_once es (second (below_all nat_cmp e.0 es) (is_sorted nat_cmp es) h) id)
    ]

pub live_count : (es : Table Image) → IsVolume es → (id : ℕ) → times id (keys es) ≡ as_one (not (is_gone (images es id)))
live_count es v id =
    elim (cases_Bool (is_gone (images es id))) [
      | inl g ↦ omega (arith, gone_nowhere es id v.held g, ap (λ b. as_one (not b)) g)
      | inr l ↦ omega (arith, live_here es id l, keys_once es v.sorted id, ap (λ b. as_one (not b)) l)
    ]

pub keys_length : (es : Table Image) → length (keys es) ≡ length es
keys_length [] = refl
keys_length (e ∷ es) = ap suc (keys_length es)
