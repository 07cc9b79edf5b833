-- Where no line may end a session none does.
use Rattle.std.proofs.Common.{◌≡◌, refl, ap, ◌∙◌, subst, arith, ◌≤◌, ℕ, zero, suc, Bool, true, false, cond, List, [], ◌∷◌, length, take}
use Rattle.std.specs.List.{filter}
use Rattle.std.proofs.lemmas.Bool.{eq-eqb}
use Rattle.ec_history.specs.History.{Each}
use Rattle.ec_history.specs.Placing.{EachLine}
use Rattle.ec_history.specs.declared.shown.Shown.{Shown}
use Rattle.ec_history.specs.declared.shown.Shown.TheVariants as show
use Rattle.ec_protocol.specs.declared.script.Line.{Line}
use Rattle.ec_protocol.specs.declared.script.Line.TheVariants as line
use Rattle.ec_lawful.specs.Headline.{AreEndsAsked, Lines, Pieces, ends, joined, may_end}
use Rattle.ec_complete.specs.Complete.{IsFaultless}
use Rattle.ec_complete.proofs.ForLines.Plainness.{NoEnd}
use Rattle.ec_base.proofs.Lists.{all-taken}

may-end-none : (c : ℕ) (l : Line) → IsFaultless l → may_end c l ≡ false
may-end-none c line.Comment s = refl
may-end-none c (line.Call d cl) s = refl
may-end-none c (line.Push d n) s = refl
may-end-none c (line.Cut d) s = absurd s
may-end-none c (line.Uncut d) s = absurd s
may-end-none c (line.Drop d k n) s = absurd s
may-end-none c (line.Repeat d k n) s = absurd s
may-end-none c (line.Deliver d k n) s = absurd s
may-end-none c (line.Resend d) s = absurd s
may-end-none c (line.Crash d) s = absurd s
may-end-none c (line.End d) s = absurd s
may-end-none c line.Stop s = absurd s
may-end-none c (line.Arm n k) s = absurd s
may-end-none c line.Restart s = absurd s

none-asked : (c k : ℕ) (ls : Lines) → Each IsFaultless ls → length (filter (may_end c) (take k ls)) ≡ 0
none-asked c zero ls a = refl
none-asked c (suc k) [] a = refl
none-asked c (suc k) (l ∷ ls) a = ap (λ b. length (cond b (l ∷ filter (may_end c) (take k ls)) (filter (may_end c) (take k ls)))) (may-end-none c l a.0) ∙ none-asked c k ls a.1

-- lines of which none ends a session, whichever clerk it is
abbrev NoneEnds : List Shown → Type 0
NoneEnds ss = (c : ℕ) → length (filter (ends c) ss) ≡ 0

later : (s : Shown) (ss : List Shown) → NoneEnds (s ∷ ss) → NoneEnds ss
later s ss f c = go (ends c s) (f c)
  where
    go : (b : Bool) → length (cond b (s ∷ filter (ends c) ss) (filter (ends c) ss)) ≡ 0 → length (filter (ends c) ss) ≡ 0
    go true e = absurd (omega (arith, e))
    go false e = e

own-end : (s : Shown) (ss : List Shown) (c : ℕ) → NoneEnds (s ∷ ss) → ends c s ≡ true → ⊥
own-end s ss c f e = go (ends c s) e (f c)
  where
    go : (b : Bool) → b ≡ true → length (cond b (s ∷ filter (ends c) ss) (filter (ends c) ss)) ≡ 0 → ⊥
    go true e p = omega (arith, p)
    go false e p = grind (arith, e)

first-one : (s : Shown) (ss : List Shown) → NoneEnds (s ∷ ss) → NoEnd s
first-one (show.Ended d ns) ss f = own-end (show.Ended d ns) ss d f (eq-eqb d d refl)
first-one (show.Unseen d) ss f = own-end (show.Unseen d) ss d f (eq-eqb d d refl)
first-one (show.Waits l c cl) ss f = tt
first-one (show.Answered l c cl a op) ss f = tt
first-one (show.Durable c ns) ss f = tt
first-one (show.Told c ns) ss f = tt
first-one (show.Crashed c) ss f = tt
first-one show.Stopped ss f = tt
first-one show.Started ss f = tt
first-one show.Nothing ss f = tt
first-one show.Unsettled ss f = tt
first-one (show.Bad n m) ss f = tt
first-one (show.DiskBad n) ss f = tt
first-one (show.Limit name n) ss f = tt
first-one (show.Spent n) ss f = tt

each-one : (ss : List Shown) → NoneEnds ss → EachLine NoEnd ss
each-one [] f = tt
each-one (s ∷ ss) f = (first-one s ss f, each-one ss (later s ss f))

pub no-ends : (lines : Lines) (pieces : Pieces) → Each IsFaultless lines → AreEndsAsked lines pieces → EachLine NoEnd (joined pieces)
no-ends lines pieces faultless asked = each-one (joined pieces) (λ c. none c)
  where
    none : (c : ℕ) → length (filter (ends c) (joined pieces)) ≡ 0
    none c = omega (arith, subst (λ ps. length (filter (ends c) (joined ps)) ≤ length (filter (may_end c) (take (length pieces) lines))) (all-taken pieces) (asked c (length pieces) (omega arith)), none-asked c (length pieces) lines faultless)
