-- What stands behind a word or a mark, and what may stand at the end.
use Rattle.std.proofs.Common.{◌≡◌, ℕ, List, [], ◌∷◌, Option, Some, None, Result, MatchResult, refl, sym, ap, subst, ◌∙◌}
use Rattle.ec_words.specs.declared.cursor.Misfit.{Misfit}
use Rattle.ec_words.specs.declared.cursor.Misfit.TheVariants as misfit
use Rattle.ec_words.specs.Rows.{Word, Last, ◌⊳◌, Begins, FirstUnfit}
use Rattle.ec_words.specs.RowsLeft.{Lacks, IsMisfit, Example, joined_len}
use Rattle.ec_words.proofs.Fits.{unfit_none, unfit_first}
use Rattle.ec_shown.specs.Rows.{Marked, Tail}
use Rattle.ec_shown.specs.LackedMarks.{LacksMark}
use Rattle.ec_script.proofs.Heads.{first_is}
use Rattle.ec_words.proofs.Misfits.{one_behind}

nothing : (w : Word) (ws : List Word) → [] ≡ w ∷ ws → ⊥
nothing w ws e = cc

pub begins_choice : {V X : Type 0} (P : Word → V → Type 0) (F : V → List Word → X → Type 0) (e : Example P) → Begins (F e.1.0) [] → Begins (P ⊳ F) []
begins_choice P F e b = (e.0 ∷ b.0, (b.1.0, (e.1.0, (e.1.1, b.1.1))))

pub begins_tail : {V : Type 0} (mark : Word) (P : Word → V → Type 0) → Begins (Tail mark P) []
begins_tail mark P = ([], (None, refl))

tail_down : {V : Type 0} (mark : Word) (P : Word → V → Type 0) (w : Word) (ws : List Word) (o : Option V) → Tail mark P (w ∷ ws) o → (v : V) × Last P ws v
tail_down mark P w ws None g = absurd g
tail_down mark P w ws (Some v) g = (v, g.1)

pub tail_has : {V : Type 0} (mark : Word) (P : Word → V → Type 0) (ws : List Word) (w : Word) (rest : List Word) (e : Misfit) → ws ≡ w ∷ rest → w ≡ mark → IsMisfit (Last P) rest e → IsMisfit (Tail mark P) ws e
tail_has mark P ws w rest e is m r = one_behind (Last P) (Tail mark P) w (λ v. Some v) (λ ws x g. (m, g)) (tail_down mark P w) ws rest e is r

pub both_same : {A B C : Type 0} (f : A → B → C) (a x : A) (b y : B) → a ≡ x → b ≡ y → f a b ≡ f x y
both_same f a x b y e g = ap (λ u. f u b) e ∙ ap (λ v. f x v) g

-- what was found out for one choice
pub chosen : {V X : Type 0} (A : V → List Word → X → Type 0) (v u : V) (ws : List Word) (r : Result X Misfit) → v ≡ u → MatchResult r (A u ws) (IsMisfit (A u) ws) → MatchResult r (A v ws) (IsMisfit (A v) ws)
chosen A v u ws r is g = subst (λ a. MatchResult r (A a ws) (IsMisfit (A a) ws)) (sym is) g

-- a mark before others

pub begins_marked : {X : Type 0} (mark : Word) (G : List Word → X → Type 0) → Begins G [] → Begins (Marked mark G) []
begins_marked mark G b = (mark ∷ b.0, (b.1.0, (refl, b.1.1)))

pub marked_lacks : {X : Type 0} (mark : Word) (G : List Word → X → Type 0) (ws : List Word) (e : Misfit) → Begins (Marked mark G) [] → LacksMark mark ws e → IsMisfit (Marked mark G) ws e
marked_lacks mark G ws misfit.NoMemory b l = tt
marked_lacks mark G [] (misfit.Unfit n) b l = (0, (unfit_none (Marked mark G) b (λ x g. g), l.0))
marked_lacks mark G (w ∷ ws) (misfit.Unfit n) b l = (0, (unfit_first (Marked mark G) w ws b (λ rest x g. l.1 ws (ap (λ v. v ∷ ws) g.0)), l.0))

pub marked_has : {X : Type 0} (mark : Word) (G : List Word → X → Type 0) (ws rest : List Word) (e : Misfit) → ws ≡ mark ∷ rest → IsMisfit G rest e → IsMisfit (Marked mark G) ws e
marked_has mark G ws rest e is r = one_behind G (Marked mark G) mark (λ x. x) (λ ws x g. (refl, g)) (λ ws y g. (y, g.1)) ws rest e is r

pub marked_is : {X : Type 0} (mark : Word) (G : List Word → X → Type 0) (ws rest : List Word) (x : X) → ws ≡ mark ∷ rest → G rest x → Marked mark G ws x
marked_is mark G ws rest x is g = subst (λ d. Marked mark G d x) (sym is) (refl, g)

-- no such mark
pub mark_missing : (mark : Word) (ws : List Word) → ws ≡ [] → LacksMark mark ws (misfit.Unfit 0)
mark_missing mark ws is = subst (λ d. LacksMark mark d (misfit.Unfit 0)) (sym is) (refl, λ rest e. nothing mark rest e)

pub mark_other : (mark : Word) (ws : List Word) (w : Word) (others : List Word) (n : ℕ) → ws ≡ w ∷ others → (w ≡ mark → ⊥) → n ≡ joined_len ws → LacksMark mark ws (misfit.Unfit n)
mark_other mark ws w others n is not len = (len, λ rest e. not (first_is w mark others rest (sym is ∙ e)))

-- what may stand at the end

pub tail_none : {V : Type 0} (mark : Word) (P : Word → V → Type 0) (ws : List Word) → ws ≡ [] → Tail mark P ws None
tail_none mark P ws is = subst (λ d. Tail mark P d None) (sym is) refl

tail_stuck : {V : Type 0} (mark : Word) (P : Word → V → Type 0) (w : Word) → (w ≡ mark → ⊥) → (rest : List Word) (o : Option V) → Tail mark P (w ∷ rest) o → ⊥
tail_stuck mark P w not rest None g = g
tail_stuck mark P w not rest (Some v) g = not g.0

pub tail_other : {V : Type 0} (mark : Word) (P : Word → V → Type 0) (ws : List Word) (w : Word) (rest : List Word) (n : ℕ) → ws ≡ w ∷ rest → (w ≡ mark → ⊥) → n ≡ joined_len ws → IsMisfit (Tail mark P) ws (misfit.Unfit n)
tail_other mark P ws w rest n is not len = (0, (subst (λ d. FirstUnfit (Tail mark P) d 0) (sym is) (unfit_first (Tail mark P) w rest (begins_tail mark P) (tail_stuck mark P w not)), len))

pub tail_is : {V : Type 0} (mark : Word) (P : Word → V → Type 0) (ws : List Word) (w : Word) (rest : List Word) (v : V) → ws ≡ w ∷ rest → w ≡ mark → Last P rest v → Tail mark P ws (Some v)
tail_is mark P ws w rest v is m g = subst (λ d. Tail mark P d (Some v)) (sym is) (m, g)

-- a word for which no value stands
pub nothing_first : {V : Type 0} (P : Word → V → Type 0) (ws : List Word) → ws ≡ [] → Lacks P ws (misfit.Unfit 0)
nothing_first P ws is = subst (λ d. Lacks P d (misfit.Unfit 0)) (sym is) (refl, λ w rest v e p. nothing w rest e)

pub other_first : {V : Type 0} (P : Word → V → Type 0) (ws : List Word) (w : Word) (others : List Word) (n : ℕ) → ws ≡ w ∷ others → ((v : V) → P w v → ⊥) → n ≡ joined_len ws → Lacks P ws (misfit.Unfit n)
other_first P ws w others n is not len = (len, λ u rest v e p. not v (subst (λ d. P d v) (sym (first_is w u others rest (sym is ∙ e))) p))
