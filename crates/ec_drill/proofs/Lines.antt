-- Lines that are read one behind the other.
use Rattle.std.proofs.Common.{◌≡◌, ℕ, List, [], ◌∷◌, ◌++◌, map, sym, ap, subst, ◌∙◌, append_assoc, append-nil}
use Rattle.ec_script.specs.Lines.{lines_of}
use Rattle.ec_drill.specs.Script.{AreRead, IsRead}
use Rattle.ec_drill.specs.Lines.{read_of}
use Rattle.ec_drill.specs.declared.script.ScriptLine.{ScriptLine}

pub read-push : (bs : List (List ℕ)) (ls : List ScriptLine) (b : List ℕ) (l : ScriptLine) → AreRead bs (map read_of ls) → IsRead b (read_of l) → AreRead (bs ++ b ∷ []) (map read_of (ls ++ l ∷ []))
read-push [] [] b l h k = (k, tt)
read-push [] (m ∷ ls) b l h k = absurd h
read-push (c ∷ bs) [] b l h k = absurd h
read-push (c ∷ bs) (m ∷ ls) b l h k = (h.0, read-push bs ls b l h.1 k)

pub next_lines : (all done : List (List ℕ)) (b : List ℕ) (more ahead : List (List ℕ)) → all ≡ done ++ ahead → ahead ≡ b ∷ more → all ≡ (done ++ b ∷ []) ++ more
next_lines all done b more ahead e f = e ∙ ap (λ l. done ++ l) f ∙ sym (append_assoc done (b ∷ []) more)

pub all_read : (script ahead : List ℕ) (done : List (List ℕ)) (ls : List ScriptLine) → lines_of script ≡ done ++ lines_of ahead → ahead ≡ [] → AreRead done (map read_of ls) → AreRead (lines_of script) (map read_of ls)
all_read script ahead done ls e none h = subst (λ (bs : List (List ℕ)). AreRead bs (map read_of ls)) (sym (e ∙ ap (λ b. done ++ lines_of b) none ∙ append-nil done)) h

-- one line more
pub line_read : (script : List ℕ) (done : List (List ℕ)) (ahead next b : List ℕ) (ls ms : List ScriptLine) (l : ScriptLine) → lines_of script ≡ done ++ lines_of ahead → AreRead done (map read_of ls)
    → lines_of ahead ≡ b ∷ lines_of next → IsRead b (read_of l) → ms ≡ ls ++ l ∷ [] → (done : List (List ℕ)) × (lines_of script ≡ done ++ lines_of next) × AreRead done (map read_of ms)
line_read script done ahead next b ls ms l e are f is shown = (
  done ++ b ∷ [],
  next_lines (lines_of script) done b (lines_of next) (lines_of ahead) e f,
  subst (λ (m : List ScriptLine). AreRead (done ++ b ∷ []) (map read_of m)) (sym shown) (read-push done ls b l are is),
)
