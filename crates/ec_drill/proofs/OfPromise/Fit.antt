-- A script that was read is one that a run may begin on: its calls are of clerks that there are, and within their bounds.
use Rattle.std.proofs.Common.{ℕ, List, [], ◌∷◌, subst, sym, inl, inr}
use Rattle.ec_words.specs.Words.{words_of}
use Rattle.ec_words.specs.Rows.{Word}
use Rattle.ec_words.specs.declared.name.Keyword.{Keyword}
use Rattle.ec_words.specs.declared.name.Keyword.TheVariants as keyword
use Rattle.ec_words.proofs.Bounded.{call_bounded}
use Rattle.ec_script.specs.Grammar.{IsLine, Spells, Says}
use Rattle.ec_script.specs.declared.line.Line.{Line}
use Rattle.ec_protocol.specs.Drill.{Read, reads, unfit}
use Rattle.ec_drill.specs.Script.{IsRead, AreRead, machine_line}
use Rattle.ec_lawful.specs.DrillRuns.{IsFit, AreFit}

-- a line of the script
abbrev IsOne : ℕ → Line → Type 0
IsOne column l = IsFit (reads (machine_line l) column)

-- behind a keyword no call stands
behind_keyword : (column : ℕ) (k : Keyword) (ws : List Word) (l : Line) → Says k ws l → IsOne column l
behind_keyword column keyword.Push ws l is = subst (IsOne column) is.1.1 tt
behind_keyword column keyword.Cut ws l is = subst (IsOne column) is.1.1 tt
behind_keyword column keyword.Uncut ws l is = subst (IsOne column) is.1.1 tt
behind_keyword column keyword.Drop ws l is = subst (IsOne column) is.1.1 tt
behind_keyword column keyword.Repeat ws l is = subst (IsOne column) is.1.1 tt
behind_keyword column keyword.Deliver ws l is = subst (IsOne column) is.1.1 tt
behind_keyword column keyword.Resend ws l is = subst (IsOne column) is.1.1 tt
behind_keyword column keyword.Crash ws l is = subst (IsOne column) is.1.1 tt
behind_keyword column keyword.End ws l is = subst (IsOne column) is.1.1 tt
behind_keyword column keyword.Stop ws l is = subst (IsOne column) is.1.1 tt
behind_keyword column keyword.Arm ws l is = subst (IsOne column) is.1.1 tt
behind_keyword column keyword.Restart ws l is = subst (IsOne column) is.1.1 tt

spelled : (column : ℕ) (ws : List Word) (l : Line) → Spells ws l → IsOne column l
spelled column [] l is = absurd is
spelled column (w ∷ ws) l (inl c, (head, begun)) = subst (IsOne column) begun.1.1 (head.1, call_bounded ws begun.0 begun.1.0)
spelled column (w ∷ ws) l (inr k, (head, says)) = behind_keyword column k ws l says

one_line : (column : ℕ) (bytes : List ℕ) (l : Line) → IsLine bytes l → IsOne column l
one_line column bytes l (inl comment) = subst (IsOne column) (sym comment.1) tt
one_line column bytes l (inr is) = spelled column (words_of bytes) l is

fit_read : (bytes : List ℕ) (r : Read) → IsRead bytes r → IsFit r
fit_read bytes (reads l column) is = subst (λ m. IsFit (reads m column)) (sym is.2) (one_line column bytes is.0 is.1)
fit_read bytes (unfit column) is = tt

pub fit_script : (bs : List (List ℕ)) (rs : List Read) → AreRead bs rs → AreFit rs
fit_script [] [] are = tt
fit_script [] (r ∷ rs) are = absurd are
fit_script (b ∷ bs) [] are = absurd are
fit_script (b ∷ bs) (r ∷ rs) are = (fit_read b r are.0, fit_script bs rs are.1)
