-- A call that words spell has from one to eight paths, or is a sync.
use Rattle.std.proofs.Common.{◌≡◌, ◌+◌, ◌≤◌, ℕ, zero, suc, List, [], ◌∷◌, length, sym, ap, subst, arith}
use Rattle.ec_plain.specs.Walk.{Path}
use Rattle.ec_plain.specs.declared.call.Call.{Call}
use Rattle.ec_words.specs.declared.name.Verb.{Verb}
use Rattle.ec_words.specs.declared.name.Verb.TheVariants as verb
use Rattle.ec_words.specs.Rows.{Word, UpTo, ◌▸◌}
use Rattle.ec_words.specs.Spelling.{IsPathText}
use Rattle.ec_words.specs.Calls.{Asks, SpellsCall}
use Rattle.ec_words.specs.Words.{words_of}
use Rattle.ec_mount_words.specs.OfRoute.Calls.{paths_of}
use Rattle.ec_mount_words.specs.OfRoute.Conditions.{AreOrdered}
use Rattle.ec_mount_table.specs.Rows.{AreRows}
use Rattle.ec_mount_table.specs.Runs.{Each}
use Rattle.ec_mount_table.specs.Going.{IsOrdered}
use Rattle.ec_mount_table.specs.declared.script.Row.{Row}
use Rattle.ec_mounts.proofs.Seats.{IsNothing, some_is}

few_up : {V : Type 0} (P : Word → V → Type 0) (n : ℕ) (ws : List Word) (vs : List V) → UpTo P n ws vs → length vs ≤ n
few_up P zero ws vs u = omega (arith, ap length u.1)
few_up P (suc n) [] vs u = omega (arith, ap length u)
few_up P (suc n) (w ∷ ws) [] u = absurd u
few_up P (suc n) (w ∷ ws) (v ∷ vs) u = omega (arith, few_up P n ws vs u.1)

one_path : (c : Call) (p : Path) → paths_of c ≡ p ∷ [] → AreOrdered (paths_of c)
one_path c p e = subst AreOrdered (sym e) (omega arith, omega arith)

two_paths : (c : Call) (p q : Path) → paths_of c ≡ p ∷ q ∷ [] → AreOrdered (paths_of c)
two_paths c p q e = subst AreOrdered (sym e) (omega arith, omega arith)

pair_rest : {V X : Type 0} (P : Word → V → Type 0) (G : List Word → X → Type 0) (ws : List Word) (x : V × X) → (P ▸ G) ws x → (rest : List Word) × G rest (x.1)
pair_rest P G [] x h = absurd h
pair_rest P G (w ∷ ws) x h = (ws, h.1)

asked_ordered : (v : Verb) (ws : List Word) (c : Call) → Asks v ws c → IsOrdered c
asked_ordered verb.Mkdir ws c a not = one_path c a.0 (ap paths_of (sym a.1.1))
asked_ordered verb.Create ws c a not = one_path c a.0 (ap paths_of (sym a.1.1))
asked_ordered verb.Write ws c a not = one_path c a.0.0 (ap paths_of (sym a.1.1))
asked_ordered verb.SetLen ws c a not = one_path c a.0.0 (ap paths_of (sym a.1.1))
asked_ordered verb.Read ws c a not = one_path c a.0.0 (ap paths_of (sym a.1.1))
asked_ordered verb.Chmod ws c a not = one_path c a.0.0 (ap paths_of (sym a.1.1))
asked_ordered verb.Touch ws c a not = one_path c a.0.0 (ap paths_of (sym a.1.1))
asked_ordered verb.Stat ws c a not = one_path c a.0 (ap paths_of (sym a.1.1))
asked_ordered verb.List ws c a not = one_path c a.0 (ap paths_of (sym a.1.1))
asked_ordered verb.Remove ws c a not = one_path c a.0 (ap paths_of (sym a.1.1))
asked_ordered verb.Rmdir ws c a not = one_path c a.0 (ap paths_of (sym a.1.1))
asked_ordered verb.Rename ws c a not = two_paths c a.0.0 a.0.1 (ap paths_of (sym a.1.1))
asked_ordered verb.Fsync ws c a not = one_path c a.0 (ap paths_of (sym a.1.1))
asked_ordered verb.Forder ws c a not =
    let more = pair_rest IsPathText (UpTo IsPathText 7) ws a.0 a.1.0 in
    let few = few_up IsPathText 7 more.0 a.0.1 more.1 in
    subst (λ k. AreOrdered (paths_of k)) a.1.1 (omega arith, omega (arith, few))
asked_ordered verb.Sync ws c a not = absurd (not (sym a.1.1))
asked_ordered verb.Chown ws c a not = one_path c a.0.0 (ap paths_of (sym a.1.1))

spelled_ordered : (ws : List Word) (c : Call) → SpellsCall ws c → IsOrdered c
spelled_ordered [] c s = absurd s
spelled_ordered (w ∷ ws) c s = asked_ordered s.0 ws c s.1.1

pub rows_ordered : (n : ℕ) (lines : List (List ℕ)) (rows : List Row) → AreRows n lines rows → Each rows (λ place row. IsOrdered row.call)
rows_ordered n [] [] are i row e = absurd (subst IsNothing e tt)
rows_ordered n [] (r ∷ rows) are i row e = absurd are
rows_ordered n (bytes ∷ rest) [] are i row e = absurd (subst IsNothing e tt)
rows_ordered n (bytes ∷ rest) (r ∷ rows) are zero row e = subst (λ x. IsOrdered x.call) (some_is e) (spelled_ordered (words_of bytes) r.call are.1)
rows_ordered n (bytes ∷ rest) (r ∷ rows) are (suc i) row e = rows_ordered (n + 1) rest rows are.2 i row e
