-- What words that lack or have a value are refused for.
use Rattle.std.proofs.Common.{◌≡◌, ℕ, suc, zero, List, [], ◌∷◌, refl, sym, subst, Result, MatchResult}
use Rattle.std.specs.Result.{IsErrAnd}
use Rattle.std.proofs.lemmas.Result.{err_from_is_err_and}
use Rattle.ec_words.specs.declared.cursor.Misfit.{Misfit}
use Rattle.ec_words.specs.declared.cursor.Misfit.TheVariants as misfit
use Rattle.ec_words.specs.Rows.{Word, ◌▸◌, End, Begins, FirstUnfit}
use Rattle.ec_words.specs.Rows.{Last, UpTo, ◌⊳◌, ◌makes◌}
use Rattle.ec_words.specs.RowsLeft.{joined_len, Lacks, IsMisfit, Example}
use Rattle.ec_words.proofs.Fits.{unfit_none, unfit_first, behind, alike, first_lacks}

-- a `?` at this fault returns it
pub returned : {X : Type 0} (G : List Word → X → Type 0) (ws : List Word) (r : Result X Misfit) (e : Misfit) → IsErrAnd r (λ y. y ≡ e) → IsMisfit G ws e → MatchResult r (G ws) (IsMisfit G ws)
returned G ws r e is q = let p = err_from_is_err_and r is in rw (p.1, p.2) q

-- a `?` at this fault, whatever the value may be
pub failed : {X : Type 0} (Q : X → Type 0) (R : Misfit → Type 0) (r : Result X Misfit) (e : Misfit) → IsErrAnd r (λ y. y ≡ e) → R e → MatchResult r Q R
failed Q R r e is q = let p = err_from_is_err_and r is in rw (p.1, p.2) q

pub same_words : {X Y : Type 0} (H : List Word → X → Type 0) (G : List Word → Y → Type 0) (f : X → Y) → ((ws : List Word) (x : X) → H ws x → G ws (f x)) → ((ws : List Word) (y : Y) → G ws y → (x : X) × H ws x) → (ws : List Word) (e : Misfit) → IsMisfit H ws e → IsMisfit G ws e
same_words H G f up down ws misfit.NoMemory r = tt
same_words H G f up down ws (misfit.Unfit n) r = (r.0, (alike H G f up down ws r.0 r.1.0, r.1.1))

pub made : {X Y : Type 0} (G : List Word → X → Type 0) (f : X → Y) (ws : List Word) (e : Misfit) → IsMisfit G ws e → IsMisfit (G makes f) ws e
made G f ws e r = same_words G (G makes f) f (λ ws x g. (x, (g, refl))) (λ ws y g. (g.0, g.1.0)) ws e r

pub one_behind : {X Y : Type 0} (H : List Word → X → Type 0) (G : List Word → Y → Type 0) (w : Word) (f : X → Y) → ((ws : List Word) (x : X) → H ws x → G (w ∷ ws) (f x)) → ((ws : List Word) (y : Y) → G (w ∷ ws) y → (x : X) × H ws x) → (ws rest : List Word) (e : Misfit) → ws ≡ w ∷ rest → IsMisfit H rest e → IsMisfit G ws e
one_behind H G w f up down ws rest misfit.NoMemory is r = tt
one_behind H G w f up down ws rest (misfit.Unfit n) is r = subst (λ d. IsMisfit G d (misfit.Unfit n)) (sym is) (suc r.0, (behind H G w f up down rest r.0 r.1.0, r.1.1))

-- the first word of a row

pub row_lacks : {V X : Type 0} (P : Word → V → Type 0) (G : List Word → X → Type 0) (ws : List Word) (e : Misfit) → Begins (P ▸ G) [] → Lacks P ws e → IsMisfit (P ▸ G) ws e
row_lacks P G ws misfit.NoMemory b l = tt
row_lacks P G ws (misfit.Unfit n) b l = (0, (first_lacks P G ws b l.1, l.0))

pub row_has : {V X : Type 0} (P : Word → V → Type 0) (G : List Word → X → Type 0) (ws : List Word) (w : Word) (rest : List Word) (v : V) (e : Misfit) → ws ≡ w ∷ rest → P w v → IsMisfit G rest e → IsMisfit (P ▸ G) ws e
row_has P G ws w rest v e is p r = one_behind G (P ▸ G) w (λ x. (v, x)) (λ ws x g. (p, g)) (λ ws y g. (y.1, g.1)) ws rest e is r

-- the only word

last_up : {V : Type 0} (P : Word → V → Type 0) (ws : List Word) (x : V × Unit {0}) → (P ▸ End) ws x → Last P ws x.0
last_up P [] x g = g
last_up P (w ∷ ws) x g = g

last_down : {V : Type 0} (P : Word → V → Type 0) (ws : List Word) (v : V) → Last P ws v → (x : V × Unit {0}) × (P ▸ End) ws x
last_down P [] v g = absurd g
last_down P (w ∷ ws) v g = ((v, tt), g)

pub begins_last : {V : Type 0} (P : Word → V → Type 0) → Example P → Begins (Last P) []
begins_last P e = (e.0 ∷ [], (e.1.0, (e.1.1, refl)))

begins_end : {V : Type 0} (P : Word → V → Type 0) → Example P → Begins (P ▸ End) []
begins_end P e = (e.0 ∷ [], ((e.1.0, tt), (e.1.1, refl)))

pub begins_row : {V X : Type 0} (P : Word → V → Type 0) (G : List Word → X → Type 0) → Example P → Begins G [] → Begins (P ▸ G) []
begins_row P G e b = (e.0 ∷ b.0, ((e.1.0, b.1.0), (e.1.1, b.1.1)))

pub last_lacks : {V : Type 0} (P : Word → V → Type 0) (ws : List Word) (e : Misfit) → Example P → Lacks P ws e → IsMisfit (Last P) ws e
last_lacks P ws e x l = same_words (P ▸ End) (Last P) (λ y. y.0) (last_up P) (last_down P) ws e (row_lacks P End ws e (begins_end P x) l)

pub last_has : {V : Type 0} (P : Word → V → Type 0) (ws : List Word) (w : Word) (rest : List Word) (v : V) (e : Misfit) → ws ≡ w ∷ rest → P w v → IsMisfit End rest e → IsMisfit (Last P) ws e
last_has P ws w rest v e is p r = same_words (P ▸ End) (Last P) (λ y. y.0) (last_up P) (last_down P) ws e (row_has P End ws w rest v e is p r)

pub last_is : {V : Type 0} (P : Word → V → Type 0) (ws : List Word) (w : Word) (rest : List Word) (v : V) → ws ≡ w ∷ rest → P w v → rest ≡ [] → Last P ws v
last_is P ws w rest v is p e = subst (λ d. Last P d v) (sym is) (p, e)

pub row_is : {V X : Type 0} (P : Word → V → Type 0) (G : List Word → X → Type 0) (ws : List Word) (w : Word) (rest : List Word) (v : V) (x : X) → ws ≡ w ∷ rest → P w v → G rest x → (P ▸ G) ws (v, x)
row_is P G ws w rest v x is p g = subst (λ d. (P ▸ G) d (v, x)) (sym is) (p, g)

-- words too many
pub too_many : (ws : List Word) (w : Word) (rest : List Word) → ws ≡ w ∷ rest → IsMisfit End ws (misfit.Unfit (joined_len ws))
too_many ws w rest is = (0, (subst (λ d. FirstUnfit End d 0) (sym is) (unfit_first End w rest ([], (tt, refl)) (λ rest x g. cc)), refl))

-- a first word that decides what follows

pub choice_lacks : {V X : Type 0} (P : Word → V → Type 0) (F : V → List Word → X → Type 0) (ws : List Word) (e : Misfit) → Begins (P ⊳ F) [] → Lacks P ws e → IsMisfit (P ⊳ F) ws e
choice_lacks P F ws misfit.NoMemory b l = tt
choice_lacks P F [] (misfit.Unfit n) b l = (0, (unfit_none (P ⊳ F) b (λ x g. g), l.0))
choice_lacks P F (w ∷ ws) (misfit.Unfit n) b l = (0, (unfit_first (P ⊳ F) w ws b (λ rest x g. l.1 w ws g.0 refl g.1.0), l.0))

pub choice_has : {V X : Type 0} (P : Word → V → Type 0) (F : V → List Word → X → Type 0) (ws : List Word) (w : Word) (rest : List Word) (v : V) (e : Misfit) → ((u : V) → P w u → u ≡ v) → ws ≡ w ∷ rest → P w v → IsMisfit (F v) rest e → IsMisfit (P ⊳ F) ws e
choice_has P F ws w rest v e one is p r = one_behind (F v) (P ⊳ F) w (λ x. x) (λ ws x g. (v, (p, g))) (λ ws y g. (y, subst (λ u. F u ws y) (one g.0 g.1.0) g.1.1)) ws rest e is r

pub choice_is : {V X : Type 0} (P : Word → V → Type 0) (F : V → List Word → X → Type 0) (ws : List Word) (w : Word) (rest : List Word) (v : V) (x : X) → ws ≡ w ∷ rest → P w v → F v rest x → (P ⊳ F) ws x
choice_is P F ws w rest v x is p g = subst (λ d. (P ⊳ F) d x) (sym is) (v, (p, g))

-- at most so many words

pub up_to_none : {V : Type 0} (P : Word → V → Type 0) (n : ℕ) (ws : List Word) → ws ≡ [] → UpTo P n ws []
up_to_none P zero ws is = (is, refl)
up_to_none P (suc n) ws is = subst (λ d. UpTo P (suc n) d []) (sym is) refl

pub up_to_full : {V : Type 0} (P : Word → V → Type 0) (n : ℕ) (ws : List Word) (e : Misfit) → n ≡ 0 → IsMisfit End ws e → IsMisfit (UpTo P n) ws e
up_to_full P n ws e z r = subst (λ m. IsMisfit (UpTo P m) ws e) (sym z) (same_words End (UpTo P 0) (λ u. []) (λ ws x g. (g, refl)) (λ ws y g. (tt, g.0)) ws e r)

up_to_stuck : {V : Type 0} (P : Word → V → Type 0) (n : ℕ) (w : Word) (ws : List Word) → ((v : V) → P w v → ⊥) → (rest : List Word) (vs : List V) → UpTo P (suc n) (w ∷ rest) vs → ⊥
up_to_stuck P n w ws l rest [] g = g
up_to_stuck P n w ws l rest (v ∷ vs) g = l v g.0

up_to_first : {V : Type 0} (P : Word → V → Type 0) (n : ℕ) (ws : List Word) (e : Misfit) → (ws ≡ [] → ⊥) → Lacks P ws e → IsMisfit (UpTo P (suc n)) ws e
up_to_first P n ws misfit.NoMemory some l = tt
up_to_first P n [] (misfit.Unfit m) some l = absurd (some refl)
up_to_first P n (w ∷ ws) (misfit.Unfit m) some l = (0, (unfit_first (UpTo P (suc n)) w ws ([], ([], refl)) (up_to_stuck P n w ws (λ v p. l.1 w ws v refl p)), l.0))

pub up_to_lacks : {V : Type 0} (P : Word → V → Type 0) (n m : ℕ) (ws : List Word) (e : Misfit) → n ≡ suc m → (ws ≡ [] → ⊥) → Lacks P ws e → IsMisfit (UpTo P n) ws e
up_to_lacks P n m ws e is some l = subst (λ k. IsMisfit (UpTo P k) ws e) (sym is) (up_to_first P m ws e some l)

up_to_down : {V : Type 0} (P : Word → V → Type 0) (n : ℕ) (w : Word) (ws : List Word) (vs : List V) → UpTo P (suc n) (w ∷ ws) vs → (us : List V) × UpTo P n ws us
up_to_down P n w ws [] g = absurd g
up_to_down P n w ws (v ∷ vs) g = (vs, g.1)

pub up_to_has : {V : Type 0} (P : Word → V → Type 0) (n m : ℕ) (ws : List Word) (w : Word) (rest : List Word) (v : V) (e : Misfit) → n ≡ suc m → ws ≡ w ∷ rest → P w v → IsMisfit (UpTo P m) rest e → IsMisfit (UpTo P n) ws e
up_to_has P n m ws w rest v e k is p r = subst (λ k. IsMisfit (UpTo P k) ws e) (sym k) (one_behind (UpTo P m) (UpTo P (suc m)) w (λ vs. v ∷ vs) (λ ws x g. (p, g)) (up_to_down P m w) ws rest e is r)

pub up_to_is : {V : Type 0} (P : Word → V → Type 0) (n m : ℕ) (ws : List Word) (w : Word) (rest : List Word) (v : V) (vs : List V) → n ≡ suc m → ws ≡ w ∷ rest → P w v → UpTo P m rest vs → UpTo P n ws (v ∷ vs)
up_to_is P n m ws w rest v vs k is p g = subst (λ k. UpTo P k ws (v ∷ vs)) (sym k) (subst (λ d. UpTo P (suc m) d (v ∷ vs)) (sym is) (p, g))

pub begins_up_to : {V : Type 0} (P : Word → V → Type 0) (n : ℕ) → Begins (UpTo P n) []
begins_up_to P n = ([], ([], up_to_none P n [] refl))

over : {V : Type 0} (P : Word → V → Type 0) (ws : List Word) → (ws ≡ [] → ⊥) → IsMisfit End ws (misfit.Unfit (joined_len ws))
over P [] some = absurd (some refl)
over P (w ∷ ws) some = too_many (w ∷ ws) w ws refl

pub up_to_over : {V : Type 0} (P : Word → V → Type 0) (n m : ℕ) (ws : List Word) → n ≡ 0 → (ws ≡ [] → ⊥) → m ≡ joined_len ws → IsMisfit (UpTo P n) ws (misfit.Unfit m)
up_to_over P n m ws z some is = up_to_full P n ws (misfit.Unfit m) z (subst (λ k. IsMisfit End ws (misfit.Unfit k)) (sym is) (over P ws some))

-- what a choice asks for, by what was chosen

pub asked : {V X : Type 0} (A : V → List Word → X → Type 0) (v u : V) (ws : List Word) (r : Result X Misfit) (e : Misfit) → v ≡ u → IsErrAnd r (λ y. y ≡ e) → IsMisfit (A u) ws e → MatchResult r (A v ws) (IsMisfit (A v) ws)
asked A v u ws r e is p q = subst (λ a. MatchResult r (A a ws) (IsMisfit (A a) ws)) (sym is) (returned (A u) ws r e p q)

pub asked_is : {V X : Type 0} (A : V → List Word → X → Type 0) (v u : V) (ws : List Word) (x : X) → v ≡ u → A u ws x → A v ws x
asked_is A v u ws x is g = subst (λ a. A a ws x) (sym is) g
