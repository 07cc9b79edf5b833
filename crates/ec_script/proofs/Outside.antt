-- The column of a line whose words are refused.
use Rattle.std.proofs.Common.{◌≡◌, inl, inr, ℕ, List, sym, subst}
use Rattle.ec_words.specs.declared.cursor.Misfit.{Misfit}
use Rattle.ec_words.specs.declared.cursor.Misfit.TheVariants as misfit
use Rattle.ec_words.specs.Words.{words_of}
use Rattle.ec_words.specs.Rows.{Word}
use Rattle.ec_words.specs.RowsLeft.{IsMisfit}
use Rattle.ec_words.proofs.Columns.{placed}
use Rattle.ec_script.specs.declared.line.Line.{Line}
use Rattle.ec_script.specs.declared.line.LineFault.{LineFault}
use Rattle.ec_script.specs.Grammar.{IsComment}
use Rattle.ec_script.specs.Grammar.{Spells, IsLine, IsFault, IsOutside}
use Rattle.ec_script.specs.LineFaults.{fault_at}

refused_at : {X : Type 0} (G : List Word → X → Type 0) (bytes : List ℕ) (m : Misfit) → IsMisfit G (words_of bytes) m → IsOutside G bytes (fault_at bytes m)
refused_at G bytes misfit.NoMemory r = tt
refused_at G bytes (misfit.Unfit n) r = placed G bytes n r

pub outside : {X : Type 0} (G : List Word → X → Type 0) (bytes : List ℕ) (ws : List Word) (m : Misfit) (f : LineFault) → ws ≡ words_of bytes → IsMisfit G ws m → f ≡ fault_at bytes m → IsOutside G bytes f
outside G bytes ws m f e r is = subst (IsOutside G bytes) (sym is) (refused_at G bytes m (subst (λ d. IsMisfit G d m) e r))

no_line : (bytes : List ℕ) (m : Misfit) → (IsComment bytes → ⊥) → IsMisfit Spells (words_of bytes) m → IsFault bytes (fault_at bytes m)
no_line bytes misfit.NoMemory not r = tt
no_line bytes (misfit.Unfit n) not r = ((λ l g. elim g [ inl c ↦ not c.0 | inr s ↦ r.1.0.none l s ]), refused_at Spells bytes (misfit.Unfit n) r)

pub faulty : (bytes : List ℕ) (ws : List Word) (m : Misfit) (f : LineFault) → (IsComment bytes → ⊥) → ws ≡ words_of bytes → IsMisfit Spells ws m → f ≡ fault_at bytes m → IsFault bytes f
faulty bytes ws m f not e r is = subst (IsFault bytes) (sym is) (no_line bytes m not (subst (λ d. IsMisfit Spells d m) e r))

pub spelled_line : (bytes : List ℕ) (ws : List Word) (l : Line) → ws ≡ words_of bytes → Spells ws l → IsLine bytes l
spelled_line bytes ws l e g = inr (subst (λ d. Spells d l) e g)
