-- Rows that are read one behind the other.
use Rattle.std.proofs.Common.{◌≡◌, ◌+◌, ℕ, List, [], ◌∷◌, ◌++◌, length, sym, ap, ◌∙◌, subst, arith, append_assoc, length-append}
use Rattle.ec_words.specs.Calls.{SpellsCall}
use Rattle.ec_words.specs.Words.{words_of}
use Rattle.ec_mount_table.specs.Rows.{AreRows}
use Rattle.ec_mount_table.specs.declared.script.Row.{Row}

rows_push : (n : ℕ) (done : List (List ℕ)) (rows : List Row) (bytes : List ℕ) (row : Row) → AreRows n done rows → row.line ≡ length done + n → SpellsCall (words_of bytes) row.call → AreRows n (done ++ bytes ∷ []) (rows ++ row ∷ [])
rows_push n [] [] bytes row a e is = (omega (arith, e), is, tt)
rows_push n [] (r ∷ rows) bytes row a e is = absurd a
rows_push n (b ∷ done) [] bytes row a e is = absurd a
rows_push n (b ∷ done) (r ∷ rows) bytes row a e is = (a.0, a.1, rows_push (n + 1) done rows bytes row a.2 (omega (arith, e)) is)

-- These lines were read, and those are left.
pub record Reading (lines ahead : List (List ℕ)) (rows : List Row) (number : ℕ) : Type 0 where
  pub done : List (List ℕ)
  pub whole : lines ≡ done ++ ahead
  pub read : AreRows 1 done rows
  pub number_is : number ≡ length done + 1

module _ (lines ahead next : List (List ℕ)) (bytes : List ℕ) (rows : List Row) (number : ℕ) (r : Reading lines ahead rows number) (split : ahead ≡ bytes ∷ next) where
  pub reads : (row : Row) (more : List Row) → row.line ≡ number → SpellsCall (words_of bytes) row.call → more ≡ rows ++ row ∷ [] → Reading lines next more (number + 1)
  reads row more e is longer = record {
    done = r.done ++ bytes ∷ [];
    whole = r.whole ∙ (ap (λ l. r.done ++ l) split ∙ sym (append_assoc r.done (bytes ∷ []) next));
    read = subst (AreRows 1 (r.done ++ bytes ∷ [])) (sym longer) (rows_push 1 r.done rows bytes row r.read (e ∙ r.number_is) is);
    number_is = omega (arith, r.number_is, length-append r.done (bytes ∷ []));
  }
