-- The paths of a `forder`, up to `->`.
use Rattle.std.proofs.Common.{◌≡◌, ℕ, zero, suc, List, [], ◌∷◌, Option, Some, None, refl, sym, ap, subst, ◌∙◌}
use Rattle.std.specs.Prelude.{codes, MatchOption}
use Rattle.ec_base.specs.Names.{path_fault}
use Rattle.ec_plain.specs.Walk.{Path}
use Rattle.ec_words.specs.declared.cursor.Misfit.{Misfit}
use Rattle.ec_words.specs.declared.cursor.Misfit.TheVariants as misfit
use Rattle.ec_words.specs.Rows.{Word, ◌⊳◌, FirstUnfit}
use Rattle.ec_words.specs.RowsLeft.{IsMisfit, joined_len}
use Rattle.ec_words.proofs.Fits.{unfit_none, unfit_first}
use Rattle.ec_shown.specs.declared.answer.Outcome.{Outcome}
use Rattle.ec_shown.specs.Spelling.{written_of, IsPathShown, IsSaid}
use Rattle.ec_shown.specs.Answers.{Tells}
use Rattle.ec_shown.specs.Calls.{Paths, PathsThen}
use Rattle.ec_shown.proofs.Said.{no_paths}
use Rattle.ec_words.proofs.Misfits.{one_behind}

rooted : (bytes : List ℕ) → Some (codes "->") ≡ Some bytes → path_fault bytes ≡ None → ⊥
rooted bytes e f = let s : codes "->" ≡ bytes = cc in let g : path_fault (codes "->") ≡ None = subst (λ b. path_fault b ≡ None) (sym s) f in cc

-- `->` is no path
pub no_path : (w : Word) (p : Path) → w ≡ codes "->" → IsPathShown w p → ⊥
no_path w p e g = rooted g.0 (sym (ap written_of e) ∙ g.1.0) g.1.1.0

-- what was found out of a word
abbrev pub FoundPath : Word → Option Path → Type 0
FoundPath w o = MatchOption o ((p : Path) → IsPathShown w p → ⊥) (λ p. IsPathShown w p)

pub paths_missing : (n : ℕ) (ws : List Word) → ws ≡ [] → IsMisfit (Paths n) ws (misfit.Unfit 0)
paths_missing n ws is = subst (λ d. IsMisfit (Paths n) d (misfit.Unfit 0)) (sym is) (0, (unfit_none (Paths n) (no_paths n) (λ x g. g), refl))

arrow_down : (n : ℕ) (w : Word) → w ≡ codes "->" → (ws : List Word) (ps : List Path) (o : Outcome) → PathsThen n (w ∷ ws) ps o → (u : Outcome) × (IsSaid ⊳ Tells) ws u
arrow_down n w e ws [] o g = (o, g.1)
arrow_down zero w e ws (p ∷ ps) o g = absurd g
arrow_down (suc n) w e ws (p ∷ ps) o g = absurd (no_path w p e g.0)

pub paths_end : (n : ℕ) (ws : List Word) (w : Word) (rest : List Word) (e : Misfit) → ws ≡ w ∷ rest → w ≡ codes "->" → IsMisfit (IsSaid ⊳ Tells) rest e → IsMisfit (Paths n) ws e
paths_end n ws w rest e is m r = one_behind (IsSaid ⊳ Tells) (Paths n) w (λ o. ([], o)) (λ ws x g. (m, g)) (λ ws y g. arrow_down n w m ws y.0 y.1 g) ws rest e is r

pub paths_done : (n : ℕ) (ws : List Word) (w : Word) (rest : List Word) (o : Outcome) → ws ≡ w ∷ rest → w ≡ codes "->" → (IsSaid ⊳ Tells) rest o → Paths n ws ([], o)
paths_done n ws w rest o is m g = subst (λ d. Paths n d ([], o)) (sym is) (m, g)

none_over : (w : Word) → (w ≡ codes "->" → ⊥) → (rest : List Word) (ps : List Path) (o : Outcome) → PathsThen zero (w ∷ rest) ps o → ⊥
none_over w not rest [] o g = not g.0
none_over w not rest (p ∷ ps) o g = g

pub paths_over : (n m : ℕ) (ws : List Word) (w : Word) (rest : List Word) → n ≡ 0 → ws ≡ w ∷ rest → (w ≡ codes "->" → ⊥) → m ≡ joined_len ws → IsMisfit (Paths n) ws (misfit.Unfit m)
paths_over n m ws w rest z is not len = subst (λ k. IsMisfit (Paths k) ws (misfit.Unfit m)) (sym z) (0, (subst (λ d. FirstUnfit (Paths 0) d 0) (sym is) (unfit_first (Paths 0) w rest (no_paths 0) (λ rest x g. none_over w not rest x.0 x.1 g)), len))

none_other : (n : ℕ) (w : Word) → (w ≡ codes "->" → ⊥) → ((p : Path) → IsPathShown w p → ⊥) → (rest : List Word) (ps : List Path) (o : Outcome) → PathsThen n (w ∷ rest) ps o → ⊥
none_other n w not path rest [] o g = not g.0
none_other zero w not path rest (p ∷ ps) o g = g
none_other (suc n) w not path rest (p ∷ ps) o g = path p g.0

pub paths_other : (n m : ℕ) (ws : List Word) (w : Word) (rest : List Word) → ws ≡ w ∷ rest → (w ≡ codes "->" → ⊥) → ((p : Path) → IsPathShown w p → ⊥) → m ≡ joined_len ws → IsMisfit (Paths n) ws (misfit.Unfit m)
paths_other n m ws w rest is not path len = (0, (subst (λ d. FirstUnfit (Paths n) d 0) (sym is) (unfit_first (Paths n) w rest (no_paths n) (λ rest x g. none_other n w not path rest x.0 x.1 g)), len))

path_down : (n : ℕ) (w : Word) → (w ≡ codes "->" → ⊥) → (ws : List Word) (ps : List Path) (o : Outcome) → PathsThen (suc n) (w ∷ ws) ps o → (x : List Path × Outcome) × Paths n ws x
path_down n w not ws [] o g = absurd (not g.0)
path_down n w not ws (p ∷ ps) o g = ((ps, o), g.1)

pub paths_has : (n m : ℕ) (ws : List Word) (w : Word) (rest : List Word) (p : Path) (e : Misfit) → n ≡ suc m → ws ≡ w ∷ rest → (w ≡ codes "->" → ⊥) → IsPathShown w p → IsMisfit (Paths m) rest e → IsMisfit (Paths n) ws e
paths_has n m ws w rest p e k is not q r = subst (λ j. IsMisfit (Paths j) ws e) (sym k) (one_behind (Paths m) (Paths (suc m)) w (λ x. (p ∷ x.0, x.1)) (λ ws x g. (q, g)) (λ ws y g. path_down m w not ws y.0 y.1 g) ws rest e is r)

pub paths_is : (n m : ℕ) (ws : List Word) (w : Word) (rest : List Word) (p : Path) (ps : List Path) (o : Outcome) → n ≡ suc m → ws ≡ w ∷ rest → IsPathShown w p → Paths m rest (ps, o) → Paths n ws (p ∷ ps, o)
paths_is n m ws w rest p ps o k is q g = subst (λ j. Paths j ws (p ∷ ps, o)) (sym k) (subst (λ d. Paths (suc m) d (p ∷ ps, o)) (sym is) (q, g))
