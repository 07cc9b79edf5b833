-- A line of a script with leases, by what it begins with.
use Rattle.std.proofs.Common.{◌≡◌, ◌≤◌, ◌*◌, ℕ, List, [], ◌∷◌, refl, sym, subst, inl, inr}
use Rattle.ec_words.specs.Rows.{Word, Last}
use Rattle.ec_words.specs.Spelling.{IsNumberIn}
use Rattle.ec_words.specs.Words.{words_of}
use Rattle.ec_script.specs.Grammar.{IsLine, Spells}
use Rattle.ec_script.specs.declared.line.Line.{Line}
use Rattle.ec_script.specs.declared.line.Line.TheVariants.{Comment}
use Rattle.ec_lease_machine.specs.OfWords.Grammar.{IsLeaseLine, SpellsLease, most_ticks}
use Rattle.ec_lease_machine.specs.declared.words.line.LeaseLine.{LeaseLine}
use Rattle.ec_lease_machine.specs.declared.words.line.LeaseLine.TheVariants as line
use Rattle.ec_lease_machine.specs.declared.words.name.ClockWord.TheVariants as clock

last-within : (least most n : ℕ) (ws : List Word) → Last (IsNumberIn least most) ws n → (least ≤ n) × (n ≤ most)
last-within least most n [] h = absurd h
last-within least most n (w ∷ ws) h = h.0.1

module _ (P : LeaseLine → Type 0) (most : ℕ) (drill : (l : Line) (bytes : List ℕ) → IsLine bytes l → P (line.Drill l)) (tick : (n : ℕ) → 1 ≤ n → n ≤ most_ticks → P (line.Tick n)) (skew : (c s : ℕ) → s ≤ 2 * most → P (line.Skew c s)) (grant : (c : ℕ) → P (line.Grant c)) (hand : (c n : ℕ) → P (line.Hand c n)) where
  spelled : (bytes : List ℕ) (ws : List Word) → words_of bytes ≡ ws → (l : LeaseLine) → SpellsLease most ws l → P l
  spelled bytes [] at l is = absurd is
  spelled bytes (w ∷ ws) at l (inl head, (is, (x, (begun, made)))) = subst P made (drill x bytes (inr (subst (λ (vs : List Word). Spells vs x) (sym at) (head, (is, begun)))))
  spelled bytes (w ∷ ws) at l (inr clock.Tick, (is, (n, (last, made)))) = subst P made (tick n (last-within 1 most_ticks n ws last).0 (last-within 1 most_ticks n ws last).1)
  spelled bytes (w ∷ []) at l (inr clock.Skew, (is, (x, (row, made)))) = absurd row
  spelled bytes (w ∷ v ∷ ws) at l (inr clock.Skew, (is, (x, (row, made)))) = subst P made (skew x.0 x.1 (last-within 0 (2 * most) x.1 ws row.1).1)
  spelled bytes (w ∷ ws) at l (inr clock.Grant, (is, (c, (last, made)))) = subst P made (grant c)
  spelled bytes (w ∷ ws) at l (inr clock.Hand, (is, (x, (row, made)))) = subst P made (hand x.0 x.1)

  -- so it is of each line of the grammar
  pub line-cases : (bytes : List ℕ) (l : LeaseLine) → IsLeaseLine most bytes l → P l
  line-cases bytes l (inl comment) = subst P (sym comment.1) (drill Comment bytes (inl (comment.0, refl)))
  line-cases bytes l (inr is) = spelled bytes (words_of bytes) refl l is
