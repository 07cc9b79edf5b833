-- A number within bounds, and words that lack a first one.
use Rattle.std.proofs.Common.{◌≡◌, ◌≤◌, ℕ, List, [], ◌∷◌, refl, sym, ap, subst, ◌∙◌, arith}
use Rattle.std.specs.Fmt.{decimal}
use Rattle.ec_words.specs.declared.cursor.Misfit.TheVariants as misfit
use Rattle.ec_words.specs.Rows.{Word}
use Rattle.ec_words.specs.RowsLeft.{Example, Lacks, joined_len}
use Rattle.ec_script.proofs.Heads.{first_is}
use Rattle.ec_words.specs.Spelling.{IsNumberIn}

pub a_number_in : (least most : ℕ) → least ≤ most → Example (IsNumberIn least most)
a_number_in least most le = (decimal least, (least, (refl, (omega arith, le))))

pub lacks_none : {V : Type 0} (P : Word → V → Type 0) (ws : List Word) → ws ≡ [] → Lacks P ws (misfit.Unfit 0)
lacks_none P ws e = (sym (ap joined_len e), λ w rest v is p. let d : w ∷ rest ≡ [] = sym is ∙ e in absurd cc)

pub lacks_word : {V : Type 0} (P : Word → V → Type 0) (ws : List Word) (w : Word) (rest : List Word) (n : ℕ) → ws ≡ w ∷ rest → n ≡ joined_len ws → ((v : V) → P w v → ⊥) → Lacks P ws (misfit.Unfit n)
lacks_word P ws w rest n is len lacks = (len, λ v others x e p. lacks x (subst (λ u. P u x) (first_is v w others rest (sym e ∙ is)) p))
