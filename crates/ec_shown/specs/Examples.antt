-- A word of each kind.
use Rattle.std.specs.Prelude.{◌≡◌, codes, refl, [], true, None, Some, if◌then◌else◌}
use Rattle.std.specs.Str.{is_utf8, IsAscii}
use Rattle.std.proofs.Common.{sym, subst, arith}
use Rattle.std.proofs.lemmas.Fmt.{decimal_digit, IsAscii-decimal}
use Rattle.std.proofs.lemmas.Str.{IsUtf8-from_ascii, is_utf8-from_IsUtf8}
use Rattle.ec_base.specs.Names.{IsName}
use Rattle.ec_base.specs.declared.name.NameFault.TheVariants as fault
use Rattle.ec_words.specs.RowsLeft.{Example}
use Rattle.ec_shown.specs.declared.name.Said.TheVariants as said
use Rattle.ec_shown.specs.declared.name.Why.TheVariants as why
use Rattle.ec_shown.specs.Spelling.{IsPlace, IsOwner, IsSaid, IsWhy, IsPathShown, IsWritten, IsNameText}

pub a_place : Example IsPlace
a_place = (codes "1", (1, (sym (decimal_digit 1 (omega arith)), (omega arith, omega arith))))

pub an_owner : Example IsOwner
an_owner = (codes "1", (1, (sym (decimal_digit 1 (omega arith)), (omega arith, omega arith))))

pub a_said : Example IsSaid
a_said = (codes "ok", (said.Ok, refl))

pub a_why : Example IsWhy
a_why = (codes "Loop", (why.Loop, refl))

pub a_written : Example IsWritten
a_written = (codes "x", (codes "x", (refl, (omega arith, omega arith))))

zero_text : is_utf8 (codes "0") ≡ true
zero_text = is_utf8-from_IsUtf8 (codes "0") (IsUtf8-from_ascii (codes "0") (subst IsAscii (decimal_digit 0 (omega arith)) (IsAscii-decimal 0 (omega arith))))

zero_name : IsName (codes "0")
zero_name = subst (λ b. (if b then None else Some fault.NotUtf8) ≡ None) (sym zero_text) refl

pub a_name : Example IsNameText
a_name = (codes "0", (codes "0", (refl, zero_name)))

pub a_path : Example IsPathShown
a_path = (codes "/", ([], (codes "/", (refl, (refl, refl)))))
