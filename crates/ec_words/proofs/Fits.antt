-- The first word that doesn't fit, behind words that do.
use Rattle.std.proofs.Common.{◌≡◌, ℕ, suc, List, [], ◌∷◌, ◌++◌, take, refl, arith}
use Rattle.ec_words.specs.Rows.{Word, ◌▸◌, Begins, FirstUnfit}

pub unfit_none : {X : Type 0} (G : List Word → X → Type 0) → Begins G [] → ((x : X) → G [] x → ⊥) → FirstUnfit G [] 0
unfit_none G b n = record { within = omega arith; begins = b; stops = λ lt. absurd (omega arith); none = n }

pub unfit_first : {X : Type 0} (G : List Word → X → Type 0) (w : Word) (ws : List Word) → Begins G [] → ((rest : List Word) (x : X) → G (w ∷ rest) x → ⊥) → FirstUnfit G (w ∷ ws) 0
unfit_first G w ws b n = record { within = omega arith; begins = b; stops = λ lt g. n g.0 g.1.0 g.1.1; none = n ws }

-- what doesn't fit in H behind a word that fits doesn't fit in G
pub behind : {X Y : Type 0} (H : List Word → X → Type 0) (G : List Word → Y → Type 0) (w : Word) (f : X → Y) → ((ws : List Word) (x : X) → H ws x → G (w ∷ ws) (f x)) → ((ws : List Word) (y : Y) → G (w ∷ ws) y → (x : X) × H ws x) → (ws : List Word) (k : ℕ) → FirstUnfit H ws k → FirstUnfit G (w ∷ ws) (suc k)
behind H G w f up down ws k u = record {
  within = omega (arith, u.within);
  begins = (u.begins.0, (f u.begins.1.0, up (take k ws ++ u.begins.0) u.begins.1.0 u.begins.1.1));
  stops = λ lt b. u.stops (omega (arith, lt)) (b.0, down (take (suc k) ws ++ b.0) b.1.0 b.1.1);
  none = λ y g. let d = down ws y g in u.none d.0 d.1;
}

-- rows that have the same words
pub alike : {X Y : Type 0} (H : List Word → X → Type 0) (G : List Word → Y → Type 0) (f : X → Y) → ((ws : List Word) (x : X) → H ws x → G ws (f x)) → ((ws : List Word) (y : Y) → G ws y → (x : X) × H ws x) → (ws : List Word) (k : ℕ) → FirstUnfit H ws k → FirstUnfit G ws k
alike H G f up down ws k u = record {
  within = u.within;
  begins = (u.begins.0, (f u.begins.1.0, up (take k ws ++ u.begins.0) u.begins.1.0 u.begins.1.1));
  stops = λ lt b. u.stops lt (b.0, down (take (suc k) ws ++ b.0) b.1.0 b.1.1);
  none = λ y g. let d = down ws y g in u.none d.0 d.1;
}

pub first_lacks : {V X : Type 0} (P : Word → V → Type 0) (G : List Word → X → Type 0) (ws : List Word) → Begins (P ▸ G) [] → ((w : Word) (rest : List Word) (v : V) → ws ≡ w ∷ rest → P w v → ⊥) → FirstUnfit (P ▸ G) ws 0
first_lacks P G [] b l = unfit_none (P ▸ G) b (λ x g. g)
first_lacks P G (w ∷ ws) b l = unfit_first (P ▸ G) w ws b (λ rest x g. l w ws x.0 refl g.0)
