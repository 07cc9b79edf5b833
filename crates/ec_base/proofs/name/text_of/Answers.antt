use Rattle.std.proofs.Common.{◌≡◌, ℕ, List, length, Bool, true, false, cond, None, Some, refl, arith}
use Rattle.std.specs.Prelude.{eqb, ltb}
use Rattle.std.specs.List.{position}
use Rattle.std.specs.Str.{is_utf8, IsUtf8}
use Rattle.std.proofs.lemmas.Str.{IsUtf8-from_is_utf8, is_utf8-from_IsUtf8}
use Rattle.ec_base.specs.Limits.{max_name_bytes}
use Rattle.ec_base.specs.Names.{is_bad, is_dots, name_fault}
use Rattle.ec_base.specs.declared.name.NameFault.TheVariants as fault
use Rattle.ec_base.proofs.name.text_of.Goals as goal

never : (b : Bool) → (b ≡ true → ⊥) → b ≡ false
never true h = absurd (h refl)
never false h = refl

-- what is left when no other fault is there
left : (bytes : List ℕ) (text : Bool) → false ≡ eqb (length bytes) 0 → false ≡ ltb max_name_bytes (length bytes) → None ≡ position is_bad bytes → false ≡ is_dots bytes → is_utf8 bytes ≡ text → name_fault bytes ≡ cond text None (Some fault.NotUtf8)
left bytes text some few good name utf = cc

pub returns-in-Ok : goal.returns-in-Ok
returns-in-Ok c =
    let text : is_utf8 c.args.bytes.now ≡ true = is_utf8-from_IsUtf8 c.args.bytes.now c.in-Ok.ensures.cases.1 in
    (c.in-Ok.ensures.cases.0, left c.args.bytes.now true (c.if-is_empty.ensures) (grind (arith, c.if-bytes-gt-MAX_NAME_BYTES.false)) (cc) (c.if-is_dots.ensures) text)

pub returns-in-Err : goal.returns-in-Err
returns-in-Err c =
    let other : is_utf8 c.args.bytes.now ≡ false = never (is_utf8 c.args.bytes.now) (λ yes. c.in-Err.ensures.cases.0 (IsUtf8-from_is_utf8 c.args.bytes.now yes)) in
    left c.args.bytes.now false (c.if-is_empty.ensures) (grind (arith, c.if-bytes-gt-MAX_NAME_BYTES.false)) (cc) (c.if-is_dots.ensures) other
