-- Notes of what happened to the operations of a start.
use Rattle.std.proofs.Common.{◌≡◌, refl, sym, ap, subst, ◌∙◌, ◌<◌, ◌≤◌, arith, ℕ, cond, List, [], ◌∷◌, ◌++◌}
use Rattle.std.specs.Prelude.{reverse}
use Rattle.std.specs.List.{list_any}
use Rattle.std.specs.declared.alloc.Global.{Global}
use Rattle.std.specs.declared.boxed.Box.{Box}
use Rattle.std.proofs.lemmas.List.{reverse-append}
use Rattle.ec_order.specs.Order.{needs}
use Rattle.ec_volume.specs.declared.update.Update.{Update}
use Rattle.ec_pending.specs.declared.asked.Asked.{Asked}
use Rattle.ec_pending.specs.declared.asked.Asked.TheVariants as asks
use Rattle.ec_pending.specs.declared.issue.Issue.{Issue}
use Rattle.ec_pending.specs.declared.note.Note.{Note}
use Rattle.ec_pending.specs.declared.note.Note.TheVariants as note
use Rattle.ec_pending.specs.Pending.{is_asked, rest, picked_out}
use Rattle.ec_pending.specs.Deferred.{behind_notes, next_of, above_next, AreAbove}

-- one note more
pub behind-more : (ns : List Note) (n : Note) (is : List Issue) → behind_notes (ns ++ n ∷ []) is ≡ next_of n (behind_notes ns is)
behind-more [] n is = refl
behind-more (m ∷ ns) n is = behind-more ns n (next_of m is)

pub above-issued : (count k n p : ℕ) (u : Box Update Global) (ns : List Note) → count < n → AreAbove count k ns → AreAbove n k (ns ++ note.Issue n p u ∷ [])
above-issued count k n p u [] l a = (omega (arith, l, a), omega arith)
above-issued count k n p u (m ∷ ns) l a = (a.0, above-issued count (above_next k m) n p u ns l a.1)

pub above-asked : (count k : ℕ) (a : Asked) (ns : List Note) → AreAbove count k ns → AreAbove count k (ns ++ note.Cover a ∷ [])
above-asked count k a [] h = (tt, h)
above-asked count k a (m ∷ ns) h = (h.0, above-asked count (above_next k m) a ns h.1)

pub above-raised : (count n k : ℕ) (ns : List Note) → count < n → AreAbove count k ns → AreAbove n k ns
above-raised count n k [] l a = omega (arith, l, a)
above-raised count n k (m ∷ ns) l a = (a.0, above-raised count n (above_next k m) ns l a.1)

-- so many were issued at least
pub up-to : (count k : ℕ) (ns : List Note) → AreAbove count k ns → k ≤ count
up-to count k [] a = a
up-to count k (note.Issue m q v ∷ ns) a = let b = up-to count m ns a.1 in omega (arith, a.0, b)
up-to count k (note.Cover c ∷ ns) a = up-to count k ns a.1

abbrev pub pair : ℕ → List Issue → ℕ × List Issue
pair n is = (n, is)

pub with-rest : (v : ℕ × List Issue) (is : List Issue) → is ≡ v.1 → v ≡ pair v.0 is
with-rest v is e = ap (pair v.0) (sym e)

none-taken : (is : List Issue) → picked_out (is_asked asks.Nothing) is ≡ []
none-taken [] = refl
none-taken (i ∷ is) = ap (λ l. cond (list_any (λ j. needs i.update j.update) l) (i ∷ l) l) (none-taken is)

-- where nothing is asked all stay
pub all-stay : (is : List Issue) → rest (is_asked asks.Nothing) is ≡ is
all-stay [] = refl
all-stay (i ∷ is) = ap (λ l. cond (list_any (λ j. needs i.update j.update) l) (rest (is_asked asks.Nothing) is) (i ∷ rest (is_asked asks.Nothing) is)) (none-taken is) ∙ ap (λ l. i ∷ l) (all-stay is)

-- the last one comes first
pub last-first : (all left : List Note) (n : Note) → all ≡ left ++ n ∷ [] → reverse all ≡ n ∷ reverse left
last-first all left n e = ap reverse e ∙ reverse-append left (n ∷ [])

pub issued-below : (count op : ℕ) (is : List Issue) (v : ℕ × List Issue) → pair count is ≡ v → v.0 < op → count < op
issued-below count op is v e l = subst (λ (w : ℕ × List Issue). w.0 < op) (sym e) l
