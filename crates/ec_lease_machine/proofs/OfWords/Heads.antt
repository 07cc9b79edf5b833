-- A line of a script with leases begins with one thing: a word of clocks and leases, or what a line of a drill begins with.
use Rattle.std.proofs.Common.{◌≡◌, inl, inr, ℕ, ◌+◌, ◌*◌, ◌<◌, ◌≤◌, suc, Bool, true, false, List, [], ◌∷◌, ◌++◌, length, take, refl, sym, ap, subst, ◌∙◌, arith, Result, Ok, Err, MatchResult}
use Rattle.std.specs.Prelude.{codes, eqb, ◌||◌}
use Rattle.ec_words.specs.declared.cursor.Misfit.{Misfit}
use Rattle.ec_words.specs.declared.name.Keyword.{Keyword}
use Rattle.ec_words.specs.declared.name.Keyword.TheVariants as keyword
use Rattle.ec_words.specs.Rows.{Word, Begins, FirstUnfit}
use Rattle.ec_words.specs.RowsLeft.{IsMisfit}
use Rattle.ec_words.specs.Spelling.{IsClerk, keyword_name}
use Rattle.ec_words.proofs.Misfits.{choice_has, choice_is}
use Rattle.ec_words.proofs.Named.{hash}
use Rattle.ec_script.specs.Grammar.{Head, IsHead, Spells}
use Rattle.ec_script.specs.declared.line.Line.{Line}
use Rattle.ec_lease_machine.specs.OfWords.First.{NoClockIn}
use Rattle.ec_lease_machine.specs.OfWords.Grammar.{ClockSays, IsClockWord, IsLeaseHead, LeaseBegun, LeaseHead, SpellsLease, clock_name}
use Rattle.ec_lease_machine.specs.declared.words.line.LeaseLine.{LeaseLine}
use Rattle.ec_lease_machine.specs.declared.words.line.LeaseLine.TheVariants as line
use Rattle.ec_lease_machine.specs.declared.words.name.ClockWord.{ClockWord}
use Rattle.ec_lease_machine.specs.declared.words.name.ClockWord.TheVariants as clock
use Rattle.ec_lease_machine.proofs.OfWords.Clocks.{clock_long, clock_once}

-- no keyword and no clerk is a word of clocks and leases

abbrev is_clock : ℕ → Bool
is_clock n = eqb n (hash (codes "tick")) || eqb n (hash (codes "skew")) || eqb n (hash (codes "grant")) || eqb n (hash (codes "hand"))

clock_is : (x : ClockWord) → is_clock (hash (clock_name x)) ≡ true
clock_is clock.Tick = refl
clock_is clock.Skew = refl
clock_is clock.Grant = refl
clock_is clock.Hand = refl

keyword_is : (k : Keyword) → is_clock (hash (keyword_name k)) ≡ false
keyword_is keyword.Push = refl
keyword_is keyword.Cut = refl
keyword_is keyword.Uncut = refl
keyword_is keyword.Drop = refl
keyword_is keyword.Repeat = refl
keyword_is keyword.Deliver = refl
keyword_is keyword.Resend = refl
keyword_is keyword.Crash = refl
keyword_is keyword.End = refl
keyword_is keyword.Stop = refl
keyword_is keyword.Arm = refl
keyword_is keyword.Restart = refl

true_false : (b : Bool) → b ≡ true → b ≡ false → ⊥
true_false true e f = let g : true ≡ false = f in absurd cc
true_false false e f = let g : false ≡ true = e in absurd cc

head_or_clock : (w : Word) (h : Head) (x : ClockWord) → IsHead w h → IsClockWord w x → ⊥
head_or_clock w (inl c) x g e = let one : 1 ≡ length (clock_name x) = ap length (sym g.0 ∙ e) in omega (arith, clock_long x, one)
head_or_clock w (inr k) x g e = true_false (is_clock (hash w)) (ap (λ v. is_clock (hash v)) e ∙ clock_is x) (ap (λ v. is_clock (hash v)) g ∙ keyword_is k)

clock_head : (w : Word) (x : ClockWord) → IsClockWord w x → (u : LeaseHead) → IsLeaseHead w u → u ≡ inr x
clock_head w x e (inl h) g = absurd (head_or_clock w h x g e)
clock_head w x e (inr y) g = ap inr (clock_once w y x g e)

-- what stands behind such a word
pub behind_clock : (most : ℕ) (ws : List Word) (w : Word) (rest : List Word) (x : ClockWord) (r : Result LeaseLine Misfit) → ws ≡ w ∷ rest → IsClockWord w x → MatchResult r (ClockSays most x rest) (IsMisfit (ClockSays most x) rest) → MatchResult r (SpellsLease most ws) (IsMisfit (SpellsLease most) ws)
behind_clock most ws w rest x (Ok l) is e g = choice_is IsLeaseHead (LeaseBegun most) ws w rest (inr x) l is e g
behind_clock most ws w rest x (Err m) is e g = choice_has IsLeaseHead (LeaseBegun most) ws w rest (inr x) m (clock_head w x e) is e g

-- the other lines are those of drills

pub drill_spells : (most : ℕ) (ws : List Word) (l : Line) → Spells ws l → SpellsLease most ws (line.Drill l)
drill_spells most [] l g = absurd g
drill_spells most (w ∷ ws) l g = (inl g.0, (g.1.0, (l, (g.1.1, refl))))

pub spells_drill : (most : ℕ) (w : Word) (ws : List Word) (l : LeaseLine) → ((x : ClockWord) → IsClockWord w x → ⊥) → SpellsLease most (w ∷ ws) l → (d : Line) × Spells (w ∷ ws) d
spells_drill most w ws l lacks (inl h, g) = (g.1.0, (h, (g.0, g.1.1.0)))
spells_drill most w ws l lacks (inr x, g) = absurd (lacks x g.0)

pub unfit_lease : (most : ℕ) (ws : List Word) (k : ℕ) → NoClockIn ws → FirstUnfit Spells ws k → FirstUnfit (SpellsLease most) ws k
unfit_lease most [] k lacks u = record {
  within = u.within;
  begins = (u.begins.0, (line.Drill u.begins.1.0, drill_spells most (take k [] ++ u.begins.0) u.begins.1.0 u.begins.1.1));
  stops = λ lt b. absurd (omega (arith, lt));
  none = λ y g. g;
}
unfit_lease most (w ∷ ws) k lacks u = record {
  within = u.within;
  begins = (u.begins.0, (line.Drill u.begins.1.0, drill_spells most (take k (w ∷ ws) ++ u.begins.0) u.begins.1.0 u.begins.1.1));
  stops = λ lt b. let d = spells_drill most w (take k ws ++ b.0) b.1.0 (λ x e. lacks w ws x refl e) b.1.1 in u.stops lt (b.0, d);
  none = λ y g. let d = spells_drill most w ws y (λ x e. lacks w ws x refl e) g in u.none d.0 d.1;
}
