-- Words that lines of clocks and leases begin with stand for one thing each.
use Rattle.std.proofs.Common.{◌≡◌, ◌+◌, ◌*◌, ◌≤◌, ℕ, [], ◌∷◌, length, refl, sym, ap, ◌∙◌, arith}
use Rattle.std.specs.Prelude.{codes, eqb, if◌then◌else◌}
use Rattle.ec_words.specs.Rows.{Word}
use Rattle.ec_words.proofs.Named.{hash}
use Rattle.ec_lease_machine.specs.OfWords.Grammar.{clock_name}
use Rattle.ec_lease_machine.specs.declared.words.name.ClockWord.{ClockWord}
use Rattle.ec_lease_machine.specs.declared.words.name.ClockWord.TheVariants as clock

abbrev clock_hashed : ℕ → ClockWord
clock_hashed n = if eqb n (hash (codes "tick")) then clock.Tick else if eqb n (hash (codes "skew")) then clock.Skew else if eqb n (hash (codes "grant")) then clock.Grant else clock.Hand

clock_back : (x : ClockWord) → clock_hashed (hash (clock_name x)) ≡ x
clock_back clock.Tick = refl
clock_back clock.Skew = refl
clock_back clock.Grant = refl
clock_back clock.Hand = refl

pub clock_once : (w : Word) (x y : ClockWord) → w ≡ clock_name x → w ≡ clock_name y → x ≡ y
clock_once w x y e f = sym (clock_back x) ∙ ap (λ v. clock_hashed (hash v)) (sym e ∙ f) ∙ clock_back y

pub no_clock : (w : Word) → (w ≡ codes "tick" → ⊥) → (w ≡ codes "skew" → ⊥) → (w ≡ codes "grant" → ⊥) → (w ≡ codes "hand" → ⊥) → (x : ClockWord) → w ≡ clock_name x → ⊥
no_clock w h0 h1 h2 h3 clock.Tick e = h0 e
no_clock w h0 h1 h2 h3 clock.Skew e = h1 e
no_clock w h0 h1 h2 h3 clock.Grant e = h2 e
no_clock w h0 h1 h2 h3 clock.Hand e = h3 e

pub clock_long : (k : ClockWord) → 2 ≤ length (clock_name k)
clock_long clock.Tick = omega arith
clock_long clock.Skew = omega arith
clock_long clock.Grant = omega arith
clock_long clock.Hand = omega arith
