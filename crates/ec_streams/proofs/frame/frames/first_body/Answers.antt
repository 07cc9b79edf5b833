use Rattle.std.proofs.Common.{◌+◌, take, drop, arith}
use Rattle.std.proofs.lemmas.Result.{err_from_is_err_and}
use Rattle.ec_streams.specs.OfFrame.FrameLaws.{begins, begins_long, none_in_part, none_in_short}
use Rattle.ec_streams.proofs.frame.frames.first_body.Goals as goal

pub returns-in_default-clause-none : goal.returns-in_default-clause-none
returns-in_default-clause-none c = none_in_short c.args.bytes.now c.in_default.ensures

pub returns-then-body_length-gt-MAX_BODY_BYTES-clause-err : goal.returns-then-body_length-gt-MAX_BODY_BYTES-clause-err
returns-then-body_length-gt-MAX_BODY_BYTES-clause-err c = begins_long _ _ c.in-Some.ensures.1 (omega arith) (omega arith)

pub returns-then-rest-body_length-clause-none : goal.returns-then-rest-body_length-clause-none
returns-then-rest-body_length-clause-none c = none_in_part _ _ c.in-Some.ensures.1 (omega arith) (omega (arith, c.in-Some.ensures.0))

pub returns-in_err-body-clause-err : goal.returns-in_err-body-clause-err
returns-in_err-body-clause-err c =
    let p = err_from_is_err_and c.from_residual.result c.from_residual.ensures.1 in
    rw (p.1, p.2) (
      take c.in-Some.length (drop 4 c.args.bytes.now),
      drop (4 + c.in-Some.length) c.args.bytes.now,
      begins c.args.bytes.now c.in-Some.length c.in-Some.ensures.1 (omega arith) (omega (arith, c.in-Some.ensures.0)),
    )
