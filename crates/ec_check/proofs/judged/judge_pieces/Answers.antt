use Rattle.std.proofs.Common.{◌≡◌, ◌≤◌, ◌+◌, sym, subst, rules, arith, length}
use Rattle.ec_legal.specs.Tried.{IsTried, Stops}
use Rattle.ec_legal.proofs.Tried.{tried-more, stops-more}
use Rattle.ec_check.proofs.Faults.{first-fault}
use Rattle.ec_check.proofs.Pieces.{piece-fits, taken, taken-fault, behind-ss, no-bytes, read-all}
use Rattle.ec_check.proofs.judged.judge_pieces.Goals as goal
use Rattle.ec_base.proofs.Results.{taken-ok}

pub take_in-requires : goal.take_in-requires
take_in-requires g c =
    let h = c.pieces.invariant.0 in
    let few : length c.pieces.shown.items + length c.pieces.rest.now ≤ 16777216 = omega (arith, h.few, c.requires.few) in
    record { few = piece-fits c.pieces.rest.now c.cut.result.0.now c.cut.result.1.now c.pieces.shown.items c.read_beside-read.result.0 few c.cut.ensures.bytes c.read_beside-read.ensures.fault }

pub returns-in-Err-clause-fault : goal.returns-in-Err-clause-fault
returns-in-Err-clause-fault g c =
    taken-fault c.args.bytes.now c.pieces.rest.now c.cut.result.0.now c.cut.result.1.now c.pieces.shown.items c.read_beside-read.result.0 c.in-Err.fault c.cut.ensures.lines c.pieces.invariant.0 c.read_beside-read.ensures.fault
    (rw c.in-Err.is at c.take_in.ensures.fault)

pub stopped-requires-clause-stops : goal.stopped-requires-clause-stops
stopped-requires-clause-stops g c k l =
    let ss = c.pieces.shown.items in
    let same : c.deref.result.now ≡ ss = search rules in
    let all = taken-ok c.take_in.result c.in_default.not-Err c.take_in.ensures.all in
    let read = taken-ok c.take_in.result c.in_default.not-Err c.take_in.ensures.read in
    let more = behind-ss (λ v. v.items) ss c.take_in.new.lines.items c.read_beside-read.result.0 all read in
    let a = c.read_beside-read.new.trial.ahead in
    let here = subst (λ ts. Stops c.args.most a ts c.in-Err-judged.stop) same (rw c.in-Err-judged.is at c.read_beside-read.ensures.stop) in
    (c.args.most, subst (λ ts. Stops c.args.most a ts c.in-Err-judged.stop) (sym more.1) (stops-more c.args.most a ss more.0 c.in-Err-judged.stop here))

pub returns-in-Err-judged-clause-judged : goal.returns-in-Err-judged-clause-judged
returns-in-Err-judged-clause-judged g c =
    let ss = c.pieces.shown.items in
    let same : c.deref.result.now ≡ ss = search rules in
    let all = taken-ok c.take_in.result c.in_default.not-Err c.take_in.ensures.all in
    let read = taken-ok c.take_in.result c.in_default.not-Err c.take_in.ensures.read in
    let more = behind-ss (λ v. v.items) ss c.take_in.new.lines.items c.read_beside-read.result.0 all read in
    let a = c.read_beside-read.new.trial.ahead in
    let here = subst (λ ts. Stops c.args.most a ts c.in-Err-judged.stop) same (rw c.in-Err-judged.is at c.read_beside-read.ensures.stop) in
    let stops = subst (λ ts. Stops c.args.most a ts c.in-Err-judged.stop) (sym more.1) (stops-more c.args.most a ss more.0 c.in-Err-judged.stop here) in
    c.stopped.ensures.judged c.args.bytes.now c.args.most stops
    (taken (λ v. v.items) c.args.bytes.now c.pieces.rest.now c.cut.result.0.now c.cut.result.1.now c.pieces.shown.items c.take_in.new.lines.items c.read_beside-read.result.0 c.cut.ensures.lines c.cut.ensures.bytes c.pieces.invariant.0 c.read_beside-read.ensures.read all read)

pub returns-in-Err-judged-clause-fault : goal.returns-in-Err-judged-clause-fault
returns-in-Err-judged-clause-fault g c =
    let all = taken-ok c.take_in.result c.in_default.not-Err c.take_in.ensures.all in
    let read = taken-ok c.take_in.result c.in_default.not-Err c.take_in.ensures.read in
    c.stopped.ensures.fault c.args.bytes.now
    (taken (λ v. v.items) c.args.bytes.now c.pieces.rest.now c.cut.result.0.now c.cut.result.1.now c.pieces.shown.items c.take_in.new.lines.items c.read_beside-read.result.0 c.cut.ensures.lines c.cut.ensures.bytes c.pieces.invariant.0 c.read_beside-read.ensures.read all read)

pub pieces-preserved : goal.pieces-preserved
pieces-preserved g c =
    let ss = c.pieces.shown.items in
    let most = c.args.most in
    let trial = c.read_beside-read.new.trial in
    let same : c.deref.result.now ≡ ss = search rules in
    let all = taken-ok c.take_in.result c.in_default.not-Err c.take_in.ensures.all in
    let read = taken-ok c.take_in.result c.in_default.not-Err c.take_in.ensures.read in
    let more = behind-ss (λ v. v.items) ss c.take_in.new.lines.items c.read_beside-read.result.0 all read in
    let tried = subst (IsTried most trial) same (taken-ok c.read_beside-read.result.1 c.in_default-judged.not-Err c.read_beside-read.ensures.tried) in (
      taken (λ v. v.items) c.args.bytes.now c.pieces.rest.now c.cut.result.0.now c.cut.result.1.now ss c.take_in.new.lines.items c.read_beside-read.result.0 c.cut.ensures.lines c.cut.ensures.bytes c.pieces.invariant.0 c.read_beside-read.ensures.read all read,
      subst (IsTried most trial) (sym more.1) (tried-more most trial ss more.0 tried),
    )

pub returns-in-Err-At-clause-judged : goal.returns-in-Err-At-clause-judged
returns-in-Err-At-clause-judged g c =
    let ss = c.pieces.shown.items in
    let same : c.deref-2.result.now ≡ ss = search rules in
    let none = no-bytes c.pieces.rest.now c.pieces-test.ensures in
    let fault = rw (same, c.in-Err-At.field-0-is) at c.in-Err-At.ensures.fault in
    record {
      shown = ss;
      lines = read-all c.args.bytes.now c.pieces.rest.now ss none c.pieces.invariant.0;
      verdict = first-fault c.args.most ss c.in-Err-At.line c.in-Err-At.rule fault;
    }
