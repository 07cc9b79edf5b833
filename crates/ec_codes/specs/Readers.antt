-- What a reader over the input answers, and where it stands then.
use Rattle.std.specs.Prelude.{◌≡◌, ℕ, Result, Ok, Err, List}
use Rattle.ec_codes.specs.declared.fault.CodeFault.{CodeFault}
use Rattle.ec_codes.specs.declared.reader.Reader.{Reader}
use Rattle.ec_codes.specs.Formats.{Read}
use Rattle.ec_codes.specs.Spelling.{Fails}

-- the value that the bytes at its place spell, with the reader behind it, or the fault, unless memory ran out
abbrev pub Reads : {X A : Type 0} → (X → A) → (List ℕ → ℕ → Read A) → Reader → Result X CodeFault → Reader → Type 0
Reads view read old (Ok x) new = (read old.bytes.now old.at ≡ Ok (view x, new.at)) × (new.bytes.now ≡ old.bytes.now)
Reads view read old (Err e) new = Fails e (read old.bytes.now old.at)
