-- Lines that are read one behind the other, and the bounds of what they tell.
use Rattle.std.proofs.Common.{◌≡◌, ◌≤◌, ℕ, suc, List, [], ◌∷◌, ◌++◌, Option, map, length, refl, sym, ap, subst, ◌∙◌, append_assoc, append-nil, arith}
use Rattle.std.proofs.lemmas.List.{length-map}
use Rattle.ec_script.specs.Lines.{lines_of}
use Rattle.ec_lease_machine.proofs.OfWords.Cases.{line-cases}
use Rattle.ec_lease_machine.specs.OfWords.Grammar.{IsLeaseLine}
use Rattle.ec_lease_machine.specs.declared.words.line.LeaseLine.{LeaseLine}
use Rattle.ec_lease_machine.specs.Drill.{LeaseRead, reads, unfit}
use Rattle.ec_lease.specs.OfDrill.Script.{AreRead, IsRead, machine_lease, most_lines}
use Rattle.ec_lease.specs.OfDrill.Lines.{AreTimed, IsTimed, read_of}
use Rattle.ec_lease.specs.OfDrill.Starts.{GivesScript}
use Rattle.ec_lease.specs.declared.drill.script.ScriptLine.{ScriptLine}

-- Reading.

one-read : (e : ℕ) (bs : List (List ℕ)) (ls : List ScriptLine) (b : List ℕ) (l : ScriptLine) → AreRead e bs (map read_of ls) → IsRead e b (read_of l) → AreRead e (bs ++ b ∷ []) (map read_of (ls ++ l ∷ []))
one-read e [] [] b l h k = (k, tt)
one-read e [] (m ∷ ls) b l h k = absurd h
one-read e (c ∷ bs) [] b l h k = absurd h
one-read e (c ∷ bs) (m ∷ ls) b l h k = (h.0, one-read e bs ls b l h.1 k)

-- one line more
pub read_one : (e : ℕ) (script : List ℕ) (done : List (List ℕ)) (ahead next b : List ℕ) (ls ms : List ScriptLine) (l : ScriptLine) → lines_of script ≡ done ++ lines_of ahead → AreRead e done (map read_of ls)
    → lines_of ahead ≡ b ∷ lines_of next → IsRead e b (read_of l) → ms ≡ ls ++ l ∷ [] → (done : List (List ℕ)) × (lines_of script ≡ done ++ lines_of next) × AreRead e done (map read_of ms)
read_one e script done ahead next b ls ms l all are f is shown = (
  done ++ b ∷ [],
  all ∙ ap (λ bs. done ++ bs) f ∙ sym (append_assoc done (b ∷ []) (lines_of next)),
  subst (λ (m : List ScriptLine). AreRead e (done ++ b ∷ []) (map read_of m)) (sym shown) (one-read e done ls b l are is),
)

pub read_all : (e : ℕ) (script ahead : List ℕ) (done : List (List ℕ)) (ls : List ScriptLine) → lines_of script ≡ done ++ lines_of ahead → ahead ≡ [] → AreRead e done (map read_of ls) → AreRead e (lines_of script) (map read_of ls)
read_all e script ahead done ls all none h = subst (λ (bs : List (List ℕ)). AreRead e bs (map read_of ls)) (sym (all ∙ ap (λ b. done ++ lines_of b) none ∙ append-nil done)) h

pub as-many : (e : ℕ) (bs : List (List ℕ)) (rs : List LeaseRead) → AreRead e bs rs → length rs ≡ length bs
as-many e [] [] are = refl
as-many e [] (r ∷ rs) are = absurd are
as-many e (b ∷ bs) [] are = absurd are
as-many e (b ∷ bs) (r ∷ rs) are = ap suc (as-many e bs rs are.1)

pub few_lines : (e : ℕ) (left left_after : Option (List ℕ)) (ls : List ScriptLine) → GivesScript e left left_after (map read_of ls) → length ls ≤ most_lines
few_lines e left left_after ls g = omega (arith, as-many e (lines_of g.script) (map read_of ls) g.read, length-map ls read_of, g.few_lines)

-- Bounds.

timed_line : (e : ℕ) (bytes : List ℕ) (l : LeaseLine) → IsLeaseLine e bytes l → IsTimed e (machine_lease l)
timed_line e bytes l is = line-cases (λ k. IsTimed e (machine_lease k)) e (λ x bs at. tt) (λ n low high. (low, high)) (λ c s le. le) (λ c. tt) (λ c n. tt) bytes l is

pub all_timed : (e : ℕ) (bs : List (List ℕ)) (rs : List LeaseRead) → AreRead e bs rs → AreTimed e rs
all_timed e [] [] are = tt
all_timed e [] (r ∷ rs) are = absurd are
all_timed e (b ∷ bs) [] are = absurd are
all_timed e (b ∷ bs) (reads l column ∷ rs) (h, are) = (subst (IsTimed e) (sym h.2) (timed_line e b h.0 h.1), all_timed e bs rs are)
all_timed e (b ∷ bs) (unfit column ∷ rs) (h, are) = all_timed e bs rs are
