-- The fold over lines is that over their calls, with the numbers of their lines as ids.
use Rattle.std.proofs.Common.{◌≡◌, refl, sym, ap, ◌∙◌, subst, arith, ◌≤◌, ◌<◌, ◌+◌, ℕ, zero, suc, T, Bool, true, false, ◌==◌, ◌||◌, cond, List, [], ◌∷◌, ◌++◌, length}
use Rattle.std.specs.Prelude.{Option, None, Some}
use Rattle.std.proofs.lemmas.Bool.{eq-eqb}
use Rattle.ec_volume.specs.Update.{member}
use Rattle.ec_volume.specs.Volume.{Images}
use Rattle.ec_volume.specs.declared.update.Update.{Update}
use Rattle.ec_lawful.specs.Creates.{creates}
use Rattle.ec_protocol.specs.declared.script.Line.{Line}
use Rattle.ec_protocol.specs.declared.script.Line.TheVariants as line
use Rattle.ec_machine_laws.specs.Answers.{Asking, Plainly, after_call, asked_from, asking_in, outcome_on}
use Rattle.ec_complete.specs.Ids.{AreAbove, behind_calls}
use Rattle.ec_complete.specs.ScriptRooms.{sum_below}
use Rattle.ec_complete.proofs.Sums.{once-below, sum-both, sum-less}
use Rattle.ec_complete.specs.PlainScripts.{behind_line, makes, makes_one}
use Rattle.ec_base.specs.Bools.{one_if}
use Rattle.ec_base.proofs.Lists.{regroup, no-more}
use Rattle.ec_log.proofs.OfChains.Chained.{member-left}

-- Lines and calls.

-- behind these lines, of which the first one has this number
abbrev pub behind_lines : Images → ℕ → ℕ → List Line → Plainly → Plainly
behind_lines v top number [] s = s
behind_lines v top number (l ∷ ls) s = behind_lines v top (number + 1) ls (behind_line v top number l s)

abbrev pub ids_in : ℕ → ℕ → Line → List ℕ
ids_in top number (line.Call c cl) = (top + number) ∷ []
ids_in top number _ = []

abbrev pub ids_of : ℕ → ℕ → List Line → List ℕ
ids_of top number [] = []
ids_of top number (l ∷ ls) = ids_in top number l ++ ids_of top (number + 1) ls

pub lines-are-calls : (v : Images) (top number : ℕ) (ls : List Line) (s : Plainly) → behind_lines v top number ls s ≡ behind_calls v s (ids_of top number ls) (asked_from number ls)
lines-are-calls v top number [] s = refl
lines-are-calls v top number (line.Call c cl ∷ ls) s = lines-are-calls v top (number + 1) ls (behind_line v top number (line.Call c cl) s)
lines-are-calls v top number (line.Comment ∷ ls) s = lines-are-calls v top (number + 1) ls s
lines-are-calls v top number (line.Push c n ∷ ls) s = lines-are-calls v top (number + 1) ls s
lines-are-calls v top number (line.Cut c ∷ ls) s = lines-are-calls v top (number + 1) ls s
lines-are-calls v top number (line.Uncut c ∷ ls) s = lines-are-calls v top (number + 1) ls s
lines-are-calls v top number (line.Drop c k n ∷ ls) s = lines-are-calls v top (number + 1) ls s
lines-are-calls v top number (line.Repeat c k n ∷ ls) s = lines-are-calls v top (number + 1) ls s
lines-are-calls v top number (line.Deliver c k n ∷ ls) s = lines-are-calls v top (number + 1) ls s
lines-are-calls v top number (line.Resend c ∷ ls) s = lines-are-calls v top (number + 1) ls s
lines-are-calls v top number (line.Crash c ∷ ls) s = lines-are-calls v top (number + 1) ls s
lines-are-calls v top number (line.End c ∷ ls) s = lines-are-calls v top (number + 1) ls s
lines-are-calls v top number (line.Stop ∷ ls) s = lines-are-calls v top (number + 1) ls s
lines-are-calls v top number (line.Arm n k ∷ ls) s = lines-are-calls v top (number + 1) ls s
lines-are-calls v top number (line.Restart ∷ ls) s = lines-are-calls v top (number + 1) ls s

-- such ids rise, and there is one for each call
abbrev Rises : ℕ → ℕ → List ℕ → List Asking → Type 0
Rises top n ids qs = AreAbove n ids × (length ids ≡ length qs)

rises-on : (top n number : ℕ) (l : Line) (ls : List Line) → n < top + number → ((m : ℕ) → m < top + (number + 1) → Rises top m (ids_of top (number + 1) ls) (asked_from (number + 1) ls))
    → Rises top n (ids_of top number (l ∷ ls)) (asked_from number (l ∷ ls))
rises-on top n number (line.Call c cl) ls l r = let q = r (top + number) (omega arith) in ((l, q.0), ap suc q.1)
rises-on top n number line.Comment ls l r = r n (omega (arith, l))
rises-on top n number (line.Push c i) ls l r = r n (omega (arith, l))
rises-on top n number (line.Cut c) ls l r = r n (omega (arith, l))
rises-on top n number (line.Uncut c) ls l r = r n (omega (arith, l))
rises-on top n number (line.Drop c k i) ls l r = r n (omega (arith, l))
rises-on top n number (line.Repeat c k i) ls l r = r n (omega (arith, l))
rises-on top n number (line.Deliver c k i) ls l r = r n (omega (arith, l))
rises-on top n number (line.Resend c) ls l r = r n (omega (arith, l))
rises-on top n number (line.Crash c) ls l r = r n (omega (arith, l))
rises-on top n number (line.End c) ls l r = r n (omega (arith, l))
rises-on top n number line.Stop ls l r = r n (omega (arith, l))
rises-on top n number (line.Arm i k) ls l r = r n (omega (arith, l))
rises-on top n number line.Restart ls l r = r n (omega (arith, l))

pub numbers-rise : (top n number : ℕ) (ls : List Line) → n < top + number → AreAbove n (ids_of top number ls) × (length (ids_of top number ls) ≡ length (asked_from number ls))
numbers-rise top n number [] l = (tt, refl)
numbers-rise top n number (x ∷ ls) l = rises-on top n number x ls l (λ m k. numbers-rise top m (number + 1) ls k)

-- One more line.

same-number : (a b : ℕ) → a + 1 + b ≡ a + suc b
same-number a b = omega arith

pub fold-more : (v : Images) (top number : ℕ) (ls : List Line) (l : Line) (s : Plainly) → behind_lines v top number (ls ++ l ∷ []) s ≡ behind_line v top (number + length ls) l (behind_lines v top number ls s)
fold-more v top number [] l s = ap (λ n. behind_line v top n l s) (none number)
  where
    none : (n : ℕ) → n ≡ n + 0
    none n = omega arith
fold-more v top number (x ∷ ls) l s =
    fold-more v top (number + 1) ls l (behind_line v top number x s) ∙ ap (λ n. behind_line v top n l (behind_lines v top (number + 1) ls (behind_line v top number x s))) (same-number number (length ls))

pub asked-more : (number : ℕ) (ls : List Line) (l : Line) → asked_from number (ls ++ l ∷ []) ≡ asked_from number ls ++ asking_in (number + length ls) l
asked-more number [] l = no-more (asking_in number l) ∙ ap (λ n. asking_in n l) (none number)
  where
    none : (n : ℕ) → n ≡ n + 0
    none n = omega arith
asked-more number (x ∷ ls) l =
    ap (λ qs. asking_in number x ++ qs) (asked-more (number + 1) ls l ∙ ap (λ n. asked_from (number + 1) ls ++ asking_in n l) (same-number number (length ls))) ∙ sym (regroup (asking_in number x) (asked_from (number + 1) ls) (asking_in (number + suc (length ls)) l))

-- Members.

pub in-back : (d : ℕ) (xs ys : List ℕ) → T (member d ys) → T (member d (xs ++ ys))
in-back d [] ys m = m
in-back d (x ∷ xs) ys m = later (d == x) (member d (xs ++ ys)) (in-back d xs ys m)
  where
    later : (a b : Bool) → T b → T (a || b)
    later true b m = tt
    later false b m = m

-- Clerks that called.

abbrev pub caller_in : Line → List ℕ
caller_in (line.Call c cl) = c ∷ []
caller_in _ = []

-- those of the lines, the last one first
abbrev pub callers : List Line → List ℕ
callers [] = []
callers (l ∷ ls) = callers ls ++ caller_in l

pub callers-more : (ls : List Line) (l : Line) → callers (ls ++ l ∷ []) ≡ caller_in l ++ callers ls
callers-more [] l = sym (no-more (caller_in l))
callers-more (x ∷ ls) l = ap (λ cs. cs ++ caller_in x) (callers-more ls l) ∙ regroup (caller_in l) (callers ls) (caller_in x)

-- who issued operations called
module _ (v : Images) (top : ℕ) where
  grown : (s : Plainly) (c d : ℕ) (u : Option Update) → (d == c) ≡ false → (after_call s c u).issued d ≡ s.issued d
  grown s c d None e = refl
  grown s c d (Some u) e = ap (λ b. elim b as (λ z. ℕ) [ true ↦ s.issued d + 1 | false ↦ s.issued d ]) e

  called-on : (d number : ℕ) (l : Line) (ls : List Line) (s : Plainly) → ((t : Plainly) → t.issued d ≡ 0 → 1 ≤ (behind_lines v top (number + 1) ls t).issued d → T (member d (callers ls)))
      → s.issued d ≡ 0 → 1 ≤ (behind_lines v top number (l ∷ ls) s).issued d → T (member d (callers (l ∷ ls)))
  called-on d number (line.Call c cl) ls s r none some = go (d == c) refl
    where
      go : (b : Bool) → (d == c) ≡ b → T (member d (callers ls ++ c ∷ []))
      go true e = in-back d (callers ls) (c ∷ []) (subst (λ b. T (b || false)) (sym e) tt)
      go false e = member-left d (callers ls) (c ∷ []) (r (behind_line v top number (line.Call c cl) s) (grown s c d (outcome_on v s cl (top + number)).update e ∙ none) some)
  called-on d number line.Comment ls s r none some = member-left d (callers ls) [] (r s none some)
  called-on d number (line.Push c i) ls s r none some = member-left d (callers ls) [] (r s none some)
  called-on d number (line.Cut c) ls s r none some = member-left d (callers ls) [] (r s none some)
  called-on d number (line.Uncut c) ls s r none some = member-left d (callers ls) [] (r s none some)
  called-on d number (line.Drop c k i) ls s r none some = member-left d (callers ls) [] (r s none some)
  called-on d number (line.Repeat c k i) ls s r none some = member-left d (callers ls) [] (r s none some)
  called-on d number (line.Deliver c k i) ls s r none some = member-left d (callers ls) [] (r s none some)
  called-on d number (line.Resend c) ls s r none some = member-left d (callers ls) [] (r s none some)
  called-on d number (line.Crash c) ls s r none some = member-left d (callers ls) [] (r s none some)
  called-on d number (line.End c) ls s r none some = member-left d (callers ls) [] (r s none some)
  called-on d number line.Stop ls s r none some = member-left d (callers ls) [] (r s none some)
  called-on d number (line.Arm i k) ls s r none some = member-left d (callers ls) [] (r s none some)
  called-on d number line.Restart ls s r none some = member-left d (callers ls) [] (r s none some)

  pub issuers-call : (d number : ℕ) (ls : List Line) (s : Plainly) → s.issued d ≡ 0 → 1 ≤ (behind_lines v top number ls s).issued d → T (member d (callers ls))
  issuers-call d number [] s none some = absurd (omega (arith, none, some))
  issuers-call d number (l ∷ ls) s none some = called-on d number l ls s (λ t e f. issuers-call d (number + 1) ls t e f) none some

-- Makes, by their clerks.

abbrev pub makes_line : ℕ → Line → ℕ
makes_line c (line.Call d cl) = cond (c == d) (one_if (creates cl)) 0
makes_line c _ = 0

abbrev pub makes_by : List Line → ℕ → ℕ
makes_by [] c = 0
makes_by (l ∷ ls) c = makes_line c l + makes_by ls c

none-below : (n : ℕ) → sum_below n (λ c. 0) ≤ 0
none-below zero = omega arith
none-below (suc n) = omega (arith, none-below n)

line-once : (l : Line) → sum_below 16 (λ c. makes_line c l) ≤ makes_one l
line-once (line.Call d cl) = go (creates cl)
  where
    by-cond : (b : Bool) → cond b 1 0 ≤ one_if b
    by-cond true = omega arith
    by-cond false = omega arith

    by-none : (b : Bool) → cond b 0 0 ≤ 0
    by-none true = omega arith
    by-none false = omega arith

    through : (a b c : ℕ) → a ≤ b → b ≤ c → a ≤ c
    through a b c e f = omega (arith, e, f)

    go : (b : Bool) → sum_below 16 (λ c. cond (c == d) (one_if b) 0) ≤ one_if b
    go true = through (sum_below 16 (λ c. cond (c == d) 1 0)) (sum_below 16 (λ c. one_if (c == d))) 1 (sum-less 16 (λ c. cond (c == d) 1 0) (λ c. one_if (c == d)) (λ c. by-cond (c == d))) (once-below 16 d)
    go false = through (sum_below 16 (λ c. cond (c == d) 0 0)) (sum_below 16 (λ c. 0)) 0 (sum-less 16 (λ c. cond (c == d) 0 0) (λ c. 0) (λ c. by-none (c == d))) (none-below 16)
line-once line.Comment = none-below 16
line-once (line.Push c i) = none-below 16
line-once (line.Cut c) = none-below 16
line-once (line.Uncut c) = none-below 16
line-once (line.Drop c k i) = none-below 16
line-once (line.Repeat c k i) = none-below 16
line-once (line.Deliver c k i) = none-below 16
line-once (line.Resend c) = none-below 16
line-once (line.Crash c) = none-below 16
line-once (line.End c) = none-below 16
line-once line.Stop = none-below 16
line-once (line.Arm i k) = none-below 16
line-once line.Restart = none-below 16

pub makes-sum : (ls : List Line) → sum_below 16 (λ c. makes_by ls c) ≤ makes ls
makes-sum [] = none-below 16
makes-sum (l ∷ ls) = together (sum_below 16 (λ c. makes_line c l + makes_by ls c)) (sum_below 16 (λ c. makes_line c l)) (sum_below 16 (λ c. makes_by ls c)) (makes_one l) (makes ls) (sum-both 16 (λ c. makes_line c l) (λ c. makes_by ls c)) (line-once l) (makes-sum ls)
  where
    together : (s a b x y : ℕ) → s ≡ a + b → a ≤ x → b ≤ y → s ≤ x + y
    together s a b x y e f g = omega (arith, e, f, g)

pub makes-both : (ls ks : List Line) → makes (ls ++ ks) ≡ makes ls + makes ks
makes-both [] ks = omega arith
makes-both (l ∷ ls) ks = omega (arith, makes-both ls ks)

pub makes-more : (ls : List Line) (l : Line) (c : ℕ) → makes_by (ls ++ l ∷ []) c ≡ makes_by ls c + makes_line c l
makes-more [] l c = omega arith
makes-more (x ∷ ls) l c = omega (arith, makes-more ls l c)

pub own-make : (c : ℕ) (cl : _) → makes_line c (line.Call c cl) ≡ one_if (creates cl)
own-make c cl = ap (λ b. cond b (one_if (creates cl)) 0) (eq-eqb c c refl)
