use Rattle.std.proofs.Common.{rules, ◌≡◌, arith, subst}
use Rattle.ec_disk.specs.Disk.{part}
use Rattle.ec_half.specs.Headers.{word, IsFound}
use Rattle.ec_half.specs.declared.header.Generation.{Generation}
use Rattle.ec_half.proofs.Headers.{found, too_great, place_is, generation_of}
use Rattle.ec_half.proofs.header.generation_in.Goals as goal

pub returns-then-found-gt-MOST-clause-bad : goal.returns-then-found-gt-MOST-clause-bad
returns-then-found-gt-MOST-clause-bad c place is =
    let here : part c.args.bytes.now 0 8 ≡ word = search rules in
    too_great c.args.bytes.now place c.number_at-first.result c.number_at-second.result c.in-Some.found (place_is 1024 place is) here c.number_at-first.ensures c.number_at-second.ensures
    (c.newest.ensures.newest c.in-Some.found c.in-Some.is) (omega (arith, c.if-found-gt-MOST.true))

pub returns-clause-found : goal.returns-clause-found
returns-clause-found c g is =
    let here : part c.args.bytes.now 0 8 ≡ word = search rules in
    subst (λ (x : Generation). IsFound c.args.bytes.now x) (generation_of c.in-Some.found g is)
    (found c.args.bytes.now c.number_at-first.result c.number_at-second.result c.in-Some.found here c.number_at-first.ensures c.number_at-second.ensures
    (c.newest.ensures.newest c.in-Some.found c.in-Some.is) (omega (arith, c.if-found-gt-MOST.false)))
