-- Lines of scripts with leases, by what their words spell.
use Rattle.std.proofs.Common.{◌≡◌, inl, inr, ℕ, List, [], ◌∷◌, refl, sym, ap, subst, Result, Ok, Err, MatchResult}
use Rattle.ec_words.specs.Words.{words_of}
use Rattle.ec_words.specs.Rows.{Word}
use Rattle.ec_words.specs.RowsLeft.{IsMisfit}
use Rattle.ec_words.specs.declared.cursor.Misfit.{Misfit}
use Rattle.ec_words.specs.declared.cursor.Misfit.TheVariants as misfit
use Rattle.ec_words.proofs.Columns.{placed}
use Rattle.ec_script.specs.Grammar.{IsComment, IsFault, IsLine, IsOutside, Spells}
use Rattle.ec_script.specs.LineFaults.{fault_at}
use Rattle.ec_script.specs.declared.line.Line.{Line}
use Rattle.ec_script.specs.declared.line.Line.TheVariants.{Comment}
use Rattle.ec_script.specs.declared.line.LineFault.{LineFault}
use Rattle.ec_script.specs.declared.line.LineFault.TheVariants as fault
use Rattle.ec_lease_machine.specs.OfWords.First.{NoClockIn}
use Rattle.ec_lease_machine.specs.OfWords.Grammar.{ClockSays, IsClockWord, IsLeaseFault, IsLeaseLine, SpellsLease}
use Rattle.ec_lease_machine.specs.declared.words.line.LeaseLine.{LeaseLine}
use Rattle.ec_lease_machine.specs.declared.words.line.LeaseLine.TheVariants as line
use Rattle.ec_lease_machine.specs.declared.words.name.ClockWord.{ClockWord}
use Rattle.ec_lease_machine.proofs.OfWords.Heads.{behind_clock, drill_spells, spells_drill, unfit_lease}
use Rattle.ec_lease_machine.proofs.OfWords.Comments.{comment_or_clock}

-- a line that begins with a word of clocks and leases

clock_reads : (most : ℕ) (bytes : List ℕ) (w : Word) (rest : List Word) (x : ClockWord) (r : Result LeaseLine Misfit) → words_of bytes ≡ w ∷ rest → IsClockWord w x → MatchResult r (ClockSays most x rest) (IsMisfit (ClockSays most x) rest) → MatchResult r (SpellsLease most (words_of bytes)) (IsMisfit (SpellsLease most) (words_of bytes))
clock_reads most bytes w rest x r is e g = behind_clock most (words_of bytes) w rest x r is e g

pub clock_line : (most : ℕ) (bytes : List ℕ) (w : Word) (rest : List Word) (x : ClockWord) (l : LeaseLine) → words_of bytes ≡ w ∷ rest → IsClockWord w x → ClockSays most x rest l → IsLeaseLine most bytes l
clock_line most bytes w rest x l is e g = inr (clock_reads most bytes w rest x (Ok l) is e g)

fault_of : (most : ℕ) (bytes : List ℕ) (m : Misfit) → (IsComment bytes → ⊥) → IsMisfit (SpellsLease most) (words_of bytes) m → IsLeaseFault most bytes (fault_at bytes m)
fault_of most bytes misfit.NoMemory not r = tt
fault_of most bytes (misfit.Unfit n) not r = ((λ l g. elim g [ inl c ↦ not c.0 | inr s ↦ r.1.0.none l s ]), placed (SpellsLease most) bytes n r)

pub clock_fault : (most : ℕ) (bytes : List ℕ) (w : Word) (rest : List Word) (x : ClockWord) (m : Misfit) (f : LineFault) → words_of bytes ≡ w ∷ rest → IsClockWord w x → IsMisfit (ClockSays most x) rest m → f ≡ fault_at bytes m → IsLeaseFault most bytes f
clock_fault most bytes w rest x m f is e r same =
    subst (IsLeaseFault most bytes) (sym same) (fault_of most bytes m (comment_or_clock bytes w rest x is e) (clock_reads most bytes w rest x (Err m) is e r))

-- any other line

pub drill_line : (most : ℕ) (bytes : List ℕ) (l : Line) → IsLine bytes l → IsLeaseLine most bytes (line.Drill l)
drill_line most bytes l (inl g) = inl (g.0, ap line.Drill g.1)
drill_line most bytes l (inr g) = inr (drill_spells most (words_of bytes) l g)

spells_no : (most : ℕ) (ws : List Word) (m : LeaseLine) → NoClockIn ws → SpellsLease most ws m → (d : Line) × Spells ws d
spells_no most [] m lacks g = absurd g
spells_no most (w ∷ ws) m lacks g = spells_drill most w ws m (λ x e. lacks w ws x refl e) g

no_lease : (most : ℕ) (bytes : List ℕ) → NoClockIn (words_of bytes) → ((l : Line) → IsLine bytes l → ⊥) → (m : LeaseLine) → IsLeaseLine most bytes m → ⊥
no_lease most bytes lacks none m (inl g) = none Comment (inl (g.0, refl))
no_lease most bytes lacks none m (inr g) = let d = spells_no most (words_of bytes) m lacks g in none d.0 (inr d.1)

pub drill_fault : (most : ℕ) (bytes : List ℕ) (f : LineFault) → NoClockIn (words_of bytes) → IsFault bytes f → IsLeaseFault most bytes f
drill_fault most bytes (fault.At column) lacks g = (no_lease most bytes lacks g.0, (g.1.0, (unfit_lease most (words_of bytes) g.1.0 lacks g.1.1.0, g.1.1.1)))
drill_fault most bytes fault.NoMemory lacks g = tt
