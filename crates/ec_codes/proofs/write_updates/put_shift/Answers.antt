use Rattle.std.proofs.Common.{◌∷◌, []}
use Rattle.std.proofs.lemmas.Result.{MatchResult-weaker}
use Rattle.ec_volume.specs.Update.{listed}
use Rattle.ec_codes.proofs.Written.{and_on, seven_on}
use Rattle.ec_codes.proofs.ShiftWritten.{shift_written}
use Rattle.ec_codes.proofs.write_updates.put_shift.Goals as goal

pub returns : goal.returns
returns c =
    let old = c.args.out.now.items in
    let one = c.put_id.new.out.items in
    let two = c.put_id-2.new.out.items in
    let three = c.put_id-3.new.out.items in
    let four = c.put_kind.new.out.items in
    let five = c.put_victim.new.out.items in
    let six = c.put_name.new.out.items in
    let seven = c.put_name-2.new.out.items in
    let new = c.put_way.new.out.items in
    let w0 = c.in_ok-put_id.ensures in
    let w1 = c.in_ok-put_id-2.ensures in
    let w2 = c.in_ok-put_id-3.ensures in
    let w3 = c.in_ok-put_kind.ensures in
    let w4 = c.in_ok-put_victim.ensures in
    let w5 = c.in_ok-put_name.ensures in
    let w6 = c.in_ok-put_name-2.ensures in
    MatchResult-weaker c.put_way.result c.put_way.ensures
    (λ t f. shift_written c.args.dir c.args.into c.args.moved.now.obj c.args.moved.now.kind c.args.moved.now.victim c.args.moved.now.from.now c.args.moved.now.to.now c.args.up.now
    old one two three four five six seven new c.requires.apart w0 w1 w2 w3 w4 w5 w6 (f (c.args.into ∷ c.args.moved.now.obj ∷ listed c.args.moved.now.victim) c.requires.way))
    (λ e k. and_on old seven new (seven_on old one two three four five six seven (_, w0.0) (_, w1.0) (_, w2.0) (_, w3.0) (_, w4.0) (_, w5.0) (_, w6.0)) k)
