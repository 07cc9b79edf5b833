-- At most sixteen clerks are named in a script whose calls are of sixteen clerks, and whose pushes name operations that were issued.
use Rattle.std.proofs.Common.{◌≡◌, refl, sym, ap, ◌∙◌, subst, arith, ◌≤◌, ◌<◌, ◌+◌, ℕ, suc, T, Bool, true, false, not, ◌==◌, ◌||◌, cond, List, [], ◌∷◌, ◌++◌, length}
use Rattle.std.specs.List.{filter}
use Rattle.std.proofs.lemmas.Bool.{eqb-true}
use Rattle.ec_base.specs.Tables.{once}
use Rattle.ec_history.specs.History.{Each}
use Rattle.ec_volume.specs.Update.{member}
use Rattle.ec_volume.specs.Volume.{Images}
use Rattle.ec_machine_laws.proofs.Once.{AreOnce, fewer}
use Rattle.ec_protocol.specs.Drill.{Read, clerk_in, named_in, reads, unfit}
use Rattle.ec_protocol.specs.declared.script.Line.{Line}
use Rattle.ec_protocol.specs.declared.script.Line.TheVariants as line
use Rattle.ec_lawful.specs.Drills.{lines_in}
use Rattle.ec_lawful.specs.DrillRuns.{AreFit, IsFit}
use Rattle.ec_machine_laws.specs.Answers.{none_yet}
use Rattle.ec_complete.specs.Complete.{IsFaultless, IsFaultlessRead}
use Rattle.ec_complete.proofs.Full.{below-in, numbers, numbers-long}
use Rattle.ec_complete.specs.PlainScripts.{ArePushed, IsPushed, behind_line}
use Rattle.ec_complete.proofs.Folding.{behind_lines, caller_in, callers, callers-more, fold-more, issuers-call}

-- A list without repetitions has none.

filter-in : (x y : ℕ) (xs : List ℕ) → T (member y (filter (λ m. not (m == x)) xs)) → T (member y xs) × ((y == x) ≡ false)
filter-in x y [] m = absurd m
filter-in x y (z ∷ zs) m = go (z == x) refl m (filter-in x y zs)
  where
    later : (a b : Bool) → T b → T (a || b)
    later true b t = tt
    later false b t = t

    here : (a : Bool) → (y == z) ≡ a → (z == x) ≡ false → T (a || member y (filter (λ m. not (m == x)) zs)) → (T (member y (filter (λ m. not (m == x)) zs)) → T (member y zs) × ((y == x) ≡ false)) → T (a || member y zs) × ((y == x) ≡ false)
    here true e f m r = (tt, ap (λ w. w == x) (eqb-true y z e) ∙ f)
    here false e f m r = r m

    go : (b : Bool) → (z == x) ≡ b → T (member y (cond (not b) (z ∷ filter (λ m. not (m == x)) zs) (filter (λ m. not (m == x)) zs)))
        → (T (member y (filter (λ m. not (m == x)) zs)) → T (member y zs) × ((y == x) ≡ false)) → T ((y == z) || member y zs) × ((y == x) ≡ false)
    go true e m r = let q = r m in (later (y == z) (member y zs) q.0, q.1)
    go false e m r = here (y == z) refl e m r

filter-once : (x : ℕ) (xs : List ℕ) → AreOnce xs → AreOnce (filter (λ m. not (m == x)) xs)
filter-once x [] o = tt
filter-once x (z ∷ zs) o = go (z == x) (filter-once x zs o.1)
  where
    go : (b : Bool) → AreOnce (filter (λ m. not (m == x)) zs) → AreOnce (cond (not b) (z ∷ filter (λ m. not (m == x)) zs) (filter (λ m. not (m == x)) zs))
    go true r = r
    go false r = (λ y m. o.0 y (filter-in x y zs m).0, r)

once-is : (xs : List ℕ) → AreOnce (once xs)
once-is [] = tt
once-is (x ∷ xs) = (λ y m. (filter-in x y (once xs) m).1, filter-once x (once xs) (once-is xs))

once-from : (y : ℕ) (xs : List ℕ) → T (member y (once xs)) → T (member y xs)
once-from y [] m = m
once-from y (x ∷ xs) m = go (y == x) m (once-from y xs)
  where
    go : (b : Bool) → T (b || member y (filter (λ m. not (m == x)) (once xs))) → (T (member y (once xs)) → T (member y xs)) → T (b || member y xs)
    go true m r = tt
    go false m r = r (filter-in x y (once xs) m).0

-- Clerks.

abbrev AreSmall : List ℕ → Type 0
AreSmall cs = (c : ℕ) → T (member c cs) → c < 16

small-one : (c : ℕ) → c < 16 → AreSmall (c ∷ [])
small-one c l d m = go (d == c) refl m
  where
    go : (b : Bool) → (d == c) ≡ b → T (b || false) → d < 16
    go true e m = subst (λ z. z < 16) (sym (eqb-true d c e)) l
    go false e m = absurd m

small-both : (cs ds : List ℕ) → AreSmall cs → AreSmall ds → AreSmall (cs ++ ds)
small-both [] ds a b = b
small-both (c ∷ cs) ds a b = λ d m. go d (d == c) m (a d) (small-both cs ds (λ e n. a e (later (e == c) (member e cs) n)) b d)
  where
    later : (x y : Bool) → T y → T (x || y)
    later true y t = tt
    later false y t = t

    go : (d : ℕ) (x : Bool) → T (x || member d (cs ++ ds)) → (T (x || member d cs) → d < 16) → (T (member d (cs ++ ds)) → d < 16) → d < 16
    go d true m f r = f tt
    go d false m f r = r m

none-small : AreSmall []
none-small c m = absurd m

module _ (v : Images) where
  -- of one line
  line-small : (l : Line) (column : ℕ) (past : List Line) → IsFaultless l → IsFit (reads l column) → AreSmall (callers past) → IsPushed (behind_lines v 1 1 past none_yet) l → AreSmall (clerk_in l) × AreSmall (caller_in l)
  line-small line.Comment column past a b c p = (none-small, none-small)
  line-small (line.Call c cl) column past a b s p = (small-one c b.0, small-one c b.0)
  line-small (line.Push c n) column past a b s p = (small-one c (s c (issuers-call v 1 c 1 past none_yet refl (omega (arith, p.0, p.1)))), none-small)
  line-small (line.Cut c) column past a b s p = absurd a
  line-small (line.Uncut c) column past a b s p = absurd a
  line-small (line.Drop c k i) column past a b s p = absurd a
  line-small (line.Repeat c k i) column past a b s p = absurd a
  line-small (line.Deliver c k i) column past a b s p = absurd a
  line-small (line.Resend c) column past a b s p = absurd a
  line-small (line.Crash c) column past a b s p = absurd a
  line-small (line.End c) column past a b s p = absurd a
  line-small line.Stop column past a b s p = absurd a
  line-small (line.Arm i k) column past a b s p = absurd a
  line-small line.Restart column past a b s p = absurd a

  names-small : (ls : List Read) (past : List Line) → Each IsFaultlessRead ls → AreFit ls → AreSmall (callers past) → ArePushed v 1 (1 + length past) (behind_lines v 1 1 past none_yet) (lines_in ls) → AreSmall (named_in ls)
  names-small [] past a b s p = none-small
  names-small (unfit column ∷ ls) past a b s p = absurd a.0
  names-small (reads l column ∷ ls) past a b s p =
      let one = line-small l column past a.0 b.0 s p.0 in
      small-both (clerk_in l) (named_in ls) one.0
      (names-small ls (past ++ l ∷ []) a.1 b.1 (subst AreSmall (sym (callers-more past l)) (small-both (caller_in l) (callers past) one.1 s))
      (subst (λ t. ArePushed v 1 (1 + length (past ++ l ∷ [])) t (lines_in ls)) (sym (fold-more v 1 1 past l none_yet)) (subst (λ n. ArePushed v 1 n (behind_line v 1 (1 + length past) l (behind_lines v 1 1 past none_yet)) (lines_in ls)) (next past l) p.1)))
    where
      next : (past : List Line) (l : Line) → 1 + length past + 1 ≡ 1 + length (past ++ l ∷ [])
      next past l = omega (arith, Rattle.std.proofs.Common.length-append past (l ∷ []))

  pub names-few : (ls : List Read) → Each IsFaultlessRead ls → AreFit ls → ArePushed v 1 1 none_yet (lines_in ls) → length (once (named_in ls)) ≤ 16
  names-few ls a b p = omega (arith, fewer (once (named_in ls)) (numbers 16) (once-is (named_in ls)) (λ x m. below-in 16 x (names-small ls [] a b none-small p x (once-from x (named_in ls) m))), numbers-long 16)
