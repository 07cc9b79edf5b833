-- What functions that read and write by a format do with bytes.
use Rattle.std.specs.Prelude.{◌≡◌, ◌+◌, ℕ, true, List, ◌++◌, length, drop, Result, Ok, Err, MatchResult}
use Rattle.ec_codes.specs.declared.fault.CodeFault.{CodeFault}
use Rattle.ec_codes.specs.declared.fault.CodeFault.TheVariants.{Short, Field, NoMemory}
use Rattle.ec_codes.specs.Formats.{Read, Format, text}

-- What bytes spell, and what readers answer.

-- these bytes stand at the place
abbrev pub StandsAt : List ℕ → ℕ → List ℕ → Type 0
StandsAt bytes at text = (rest : List ℕ) × (drop at bytes ≡ text ++ rest)

-- the bytes at the place spell the value, up to the next place
pub record Spells {A : Type 0} (F : Format A) (bytes : List ℕ) (at : ℕ) (x : A) (next : ℕ) : Type 0 where
  pub fits : F.fits x ≡ true
  pub stands : StandsAt bytes at (F.spell x)
  pub behind : next ≡ at + length (F.spell x)

-- what a function answered is what reading gives, unless memory ran out
abbrev pub Fails : {A : Type 0} → CodeFault → Read A → Type 0
Fails NoMemory read = Unit {0}
Fails (Short p) read = read ≡ Err (Short p)
Fails (Field p) read = read ≡ Err (Field p)

abbrev pub Gives : {X A : Type 0} → (X → A × ℕ) → Result X CodeFault → Read A → Type 0
Gives view (Ok x) read = read ≡ Ok (view x)
Gives view (Err e) read = Fails e read

-- new is old with the bytes of the value at its end, and the value has these as its spelling
abbrev pub Writes : {A : Type 0} → Format A → A → List ℕ → List ℕ → Type 0
Writes F x old new = (new ≡ old ++ F.spell x) × (F.fits x ≡ true)

-- new begins with old
abbrev pub KeepsFront : List ℕ → List ℕ → Type 0
KeepsFront old new = (rest : List ℕ) × (new ≡ old ++ rest)

-- the bytes of the value stand at the end, as its spelling, unless memory ran out; what was there stays in front
abbrev pub Puts : {A T E : Type 0} → Format A → A → List ℕ → Result T E → List ℕ → Type 0
Puts F x old result new = MatchResult result (λ _. Writes F x old new) (λ _. KeepsFront old new)
