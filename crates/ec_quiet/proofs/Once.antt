-- Tokens that stand once, each found at its object.
use Rattle.std.proofs.Common.{◌≡◌, refl, sym, ap, ◌∙◌, arith, ℕ, T, Bool, true, false, not, ◌||◌, cond, [], ◌∷◌}
use Rattle.std.specs.Prelude.{Some, ◌==◌}
use Rattle.std.specs.Cmp.{unsigned_ties}
use Rattle.std.proofs.lemmas.Bool.{eq-eqb}
use Rattle.ec_base.specs.Tables.{Table, at, keys}
use Rattle.ec_history.specs.History.{Each}
use Rattle.ec_volume.specs.Update.{distinct, member}
use Rattle.ec_cache.specs.declared.state.Held.{Held}
use Rattle.ec_base.proofs.Bools.{left, right, no-longer}

pub found-once : (es : Table Held) → T (distinct (keys es)) → Each {A = ℕ × Held} (λ e. at e.0 es ≡ Some e.1) es
found-once [] t = tt
found-once (e ∷ es) t = (here, later es (no-longer (member e.0 (keys es)) (left (not (member e.0 (keys es))) (distinct (keys es)) t)) (found-once es (right (not (member e.0 (keys es))) (distinct (keys es)) t)))
  where
    here : at e.0 (e ∷ es) ≡ Some e.1
    here = ap (λ b. cond b (Some e.1) (at e.0 es)) (sym (unsigned_ties e.0 e.0) ∙ eq-eqb e.0 e.0 refl)

    apart : (x : ℕ) (b : Bool) → (e.0 == x) ≡ b → b ≡ false → (x == e.0) ≡ false
    apart x b q f = turned e.0 x (q ∙ f)
      where
        turned : (a c : ℕ) → (a == c) ≡ false → (c == a) ≡ false
        turned a c q = grind (arith, q)

    neither : (a b : Bool) → (a || b) ≡ false → (a ≡ false) × (b ≡ false)
    neither true b f = absurd (grind (arith, f))
    neither false b f = (refl, f)

    later : (fs : Table Held) → member e.0 (keys fs) ≡ false → Each {A = ℕ × Held} (λ f. at f.0 es ≡ Some f.1) fs → Each {A = ℕ × Held} (λ f. at f.0 (e ∷ es) ≡ Some f.1) fs
    later [] m a = tt
    later (f ∷ fs) m a =
        let n = neither (e.0 == f.0) (member e.0 (keys fs)) m in
        (ap (λ b. cond b (Some e.1) (at f.0 es)) (sym (unsigned_ties f.0 e.0) ∙ apart f.0 (e.0 == f.0) refl n.0) ∙ a.0, later fs n.1 a.1)
