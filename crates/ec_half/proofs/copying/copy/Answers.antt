use Rattle.std.proofs.Common.{rules, arith}
use Rattle.ec_half.specs.Contents.{content_behind, rested-then}
use Rattle.ec_half.proofs.Copies.{copied-piece, copied-whole}
use Rattle.ec_half.proofs.copying.copy.Goals as goal

pub returns-in_default-clause-source_rests : goal.returns-in_default-clause-source_rests
returns-in_default-clause-source_rests g c told = rested-then _ _ _ (c.pieces.invariant.source_rests told) (c.read.ensures.rests told)

pub returns-in_default-write-clause-source_rests : goal.returns-in_default-write-clause-source_rests
returns-in_default-write-clause-source_rests g c told = rested-then _ _ _ (c.pieces.invariant.source_rests told) (c.read.ensures.rests told)

pub pieces-preserved : goal.pieces-preserved
pieces-preserved g c = record {
  source_from = search rules;
  other_from = search rules;
  source_disk = search rules;
  other_disk = search rules;
  source_stop = search rules;
  other_stop = search rules;
  source_keeps = search rules;
  source_generation = search rules;
  other_generation = search rules;
  source_most = search rules;
  other_most = search rules;
  other_keeps = search rules;
  source_rests = λ told. rested-then _ _ _ (c.pieces.invariant.source_rests told) (c.read.ensures.rests told);
  source_known = search rules;
  source_have = λ told have. c.read.ensures.have told (c.pieces.invariant.source_have told have);
  other_have = λ told have. c.write.ensures.have told (c.pieces.invariant.other_have told have);
  other_header = λ told long. c.write.ensures.header told c.in-Done-write.is (c.pieces.invariant.other_header told long);
  copied = λ source other long is fits.
      copied-piece c.pieces.at c.min-count.result _ c.read.new.into (content_behind (g.S.Disk.view c.args.source.now.disk.now)).gives (content_behind (g.S.Disk.view c.pieces.source.disk.now)).gives (content_behind (g.O.Disk.view c.pieces.other.disk.now)).gives
      (content_behind (g.O.Disk.view c.write.new.self.disk.now)).gives (c.pieces.invariant.copied source other long is fits) (c.pieces.invariant.source_rests source).gives (search rules) (search rules) (omega (arith, is, c.pieces-test.true, c.min-count.ensures))
      (c.read.ensures.bytes source c.in-Done.is) (c.write.ensures.written other c.in-Done-write.is (c.pieces.invariant.other_header other long));
}

pub returns-clause-copied : goal.returns-clause-copied
returns-clause-copied g c done source other long is fits =
    copied-whole c.pieces.at (content_behind (g.S.Disk.view c.args.source.now.disk.now)).gives (content_behind (g.O.Disk.view c.pieces.other.disk.now)).gives (c.pieces.invariant.copied source other long is fits) (omega (arith, is, c.pieces-test.false))
