use Rattle.std.proofs.Common.{rules, arith, ◌∙◌}
use Rattle.std.proofs.lemmas.List.{take-replicate}
use Rattle.ec_half.specs.Contents.{content_behind}
use Rattle.ec_half.proofs.Fills.{filled-none, filled-piece, filled-end, filled-short}
use Rattle.ec_half.proofs.copying.lengthen.Goals as goal

pub returns-then-to-from-clause-filled : goal.returns-then-to-from-clause-filled
returns-then-to-from-clause-filled g c done told long is = filled-short (content_behind (g.D.Disk.view c.args.half.now.disk.now)).gives c.args.from c.args.to is c.if-to-from.true

pub pieces-init : goal.pieces-init
pieces-init g c = record {
  from = search rules;
  same_disk = search rules;
  may_stop = search rules;
  generation = search rules;
  most = search rules;
  have = λ told have. have;
  begun = search rules;
  within = omega (arith, c.if-to-from.false);
  header = λ told long. long;
  zeros = λ told long is. filled-none (content_behind (g.D.Disk.view c.args.half.now.disk.now)).gives c.args.from is;
}

pub pieces-preserved : goal.pieces-preserved
pieces-preserved g c = record {
  from = search rules;
  same_disk = search rules;
  may_stop = search rules;
  generation = search rules;
  most = search rules;
  have = λ told have. c.write.ensures.have told (c.pieces.invariant.have told have);
  begun = omega (arith, c.pieces.invariant.begun);
  within = omega (arith, c.pieces-test.true, c.min-count.ensures);
  header = λ told long. c.write.ensures.header told c.in-Done.is (c.pieces.invariant.header told long);
  zeros = λ told long is.
      filled-piece (content_behind (g.D.Disk.view c.args.half.now.disk.now)).gives (content_behind (g.D.Disk.view c.pieces.half.disk.now)).gives (content_behind (g.D.Disk.view c.write.new.self.disk.now)).gives _ c.pieces.at c.min-count.result
      (take-replicate c.min-count.result 4096 0 (omega (arith, c.min-count.ensures))) (omega (arith, is, c.pieces.invariant.begun)) (c.pieces.invariant.zeros told long is) (c.write.ensures.written told c.in-Done.is (c.pieces.invariant.header told long));
}

pub returns-clause-filled : goal.returns-clause-filled
returns-clause-filled g c done told long is =
    (c.sync.ensures.stays told).gives
    ∙ filled-end (content_behind (g.D.Disk.view c.args.half.now.disk.now)).gives (content_behind (g.D.Disk.view c.pieces.half.disk.now)).gives c.pieces.at c.args.to (c.pieces.invariant.zeros told long is) c.pieces.invariant.within c.pieces-test.false

pub returns-in_default-clause-have : goal.returns-in_default-clause-have
returns-in_default-clause-have g c told have = c.write.ensures.have told (c.pieces.invariant.have told have)

pub returns-clause-have : goal.returns-clause-have
returns-clause-have g c told have = c.sync.ensures.have told (c.pieces.invariant.have told have)
