use Rattle.std.proofs.Common.{◌≡◌, ◌∙◌, true, false, sym, arith}
use Rattle.std.specs.Str.{is_utf8}
use Rattle.std.proofs.lemmas.Str.{IsUtf8-from_is_utf8, is_utf8-from_IsUtf8}
use Rattle.ec_mount_words.proofs.Names.{never, left, not_none}
use Rattle.ec_mount_words.proofs.paths.is_name.Goals as goal

pub returns-in-Ok : goal.returns-in-Ok
returns-in-Ok c =
    let text : is_utf8 c.args.bytes.now ≡ true = is_utf8-from_IsUtf8 c.args.bytes.now c.in-Ok.ensures.cases.1 in
    left c.args.bytes.now true (c.if-is_empty.ensures) (grind (arith, c.if-bytes-gt-MAX_NAME_BYTES.false)) (sym c.if-has_bad.ensures) (c.if-is_dots.ensures) text

pub returns-in-Err : goal.returns-in-Err
returns-in-Err c =
    let other : is_utf8 c.args.bytes.now ≡ false = never (is_utf8 c.args.bytes.now) (λ yes. c.in-Err.ensures.cases.0 (IsUtf8-from_is_utf8 c.args.bytes.now yes)) in
    λ is. not_none (sym (left c.args.bytes.now false (c.if-is_empty.ensures) (grind (arith, c.if-bytes-gt-MAX_NAME_BYTES.false)) (sym c.if-has_bad.ensures) (c.if-is_dots.ensures) other) ∙ is)
