-- Rows have one value, and one first word that doesn't fit.
use Rattle.std.proofs.Common.{◌≡◌, ℕ, suc, ◌<◌, ◌≤◌, List, [], ◌∷◌, ◌++◌, take, drop, refl, sym, ap, subst, ◌∙◌, append_assoc, arith}
use Rattle.std.proofs.lemmas.List.{take-take, take-append-drop}
use Rattle.ec_words.specs.Rows.{Word, ◌▸◌, End, Begins, FirstUnfit}

pub row_once : {V X : Type 0} (P : Word → V → Type 0) (G : List Word → X → Type 0) → ((w : Word) (u v : V) → P w u → P w v → u ≡ v) → ((ws : List Word) (x y : X) → G ws x → G ws y → x ≡ y) → (ws : List Word) (x y : V × X) → (P ▸ G) ws x → (P ▸ G) ws y → x ≡ y
row_once P G one rest [] x y g h = absurd g
row_once P G one rest (w ∷ ws) x y g h = ap (λ v. (v, x.1)) (one w x.0 y.0 g.0 h.0) ∙ ap (λ r. (y.0, r)) (rest ws x.1 y.1 g.1 h.1)

pub end_once : (ws : List Word) (x y : Unit {0}) → End ws x → End ws y → x ≡ y
end_once ws x y g h = refl

fewer_begin : {X : Type 0} (G : List Word → X → Type 0) (ws : List Word) (j k : ℕ) → j ≤ k → Begins G (take k ws) → Begins G (take j ws)
fewer_begin G ws j k le b =
    let e : take j ws ++ drop j (take k ws) ≡ take k ws = ap (λ t. t ++ drop j (take k ws)) (sym (take-take j k ws le)) ∙ take-append-drop j (take k ws) in
    (drop j (take k ws) ++ b.0, (b.1.0, subst (λ t. G t b.1.0) (ap (λ t. t ++ b.0) (sym e) ∙ append_assoc (take j ws) (drop j (take k ws)) b.0) b.1.1))

not_before : {X : Type 0} (G : List Word → X → Type 0) (ws : List Word) (j k : ℕ) → FirstUnfit G ws j → FirstUnfit G ws k → j < k → ⊥
not_before G ws j k u v lt = u.stops (omega (arith, v.within)) (fewer_begin G ws (suc j) k (omega arith) v.begins)

pub unfit_once : {X : Type 0} (G : List Word → X → Type 0) (ws : List Word) (j k : ℕ) → FirstUnfit G ws j → FirstUnfit G ws k → j ≡ k
unfit_once G ws j k u v = omega (arith, not_before G ws j k u v, not_before G ws k j v u)
