use Rattle.std.proofs.Common.{◌≡◌, sym, subst, ◌∙◌, arith, Ok}
use Rattle.std.specs.Str.{IsUtf8}
use Rattle.std.specs.Fmt.{decimal}
use Rattle.std.proofs.lemmas.Str.{IsUtf8-from_ascii}
use Rattle.std.proofs.lemmas.Fmt.{IsAscii-decimal, parse-decimal}
use Rattle.ec_words.proofs.number.parsed.Goals as goal

pub returns-in-Ok : goal.returns-in-Ok
returns-in-Ok c = λ n is.
    let e : c.parse.result ≡ Ok n = parse-decimal 64 n c.in-Ok.text.now c.parse.result (omega (arith, is.1.1)) (omega (arith, is.1.1)) (c.in-Ok.ensures.cases.0 ∙ is.0) c.parse.ensures.value.0 in
    rw e at c.ok.ensures.value

pub returns-in-Err : goal.returns-in-Err
returns-in-Err c = λ n is. absurd (c.in-Err.ensures.cases.0 (subst (λ bs. IsUtf8 bs) (sym is.0) (IsUtf8-from_ascii (decimal n) (IsAscii-decimal n (omega (arith, is.1.1))))))
