use Rattle.std.proofs.Common.{rules, ◌≡◌}
use Rattle.ec_disk.specs.declared.disk.DiskAnswer.TheVariants as said
use Rattle.ec_half.proofs.Halves.{begun-header, begun-content}
use Rattle.ec_half.proofs.header.begin.Goals as goal

pub returns-clause-header : goal.returns-clause-header
returns-clause-header g c is told =
    let written : c.write_at-answer.result ≡ said.Done = search rules in
    c.write_shut.ensures.long is told
    (begun-header _ (g.D.Disk.view c.args.disk.now) (g.D.Disk.view c.write_at-answer.new.self) (g.D.Disk.view c.sync-answer.new.self) (search rules) (c.write_at-answer.ensures.written told written) (c.sync-answer.ensures.rests told).gives)

pub returns-clause-content : goal.returns-clause-content
returns-clause-content g c is told less =
    let written : c.write_at-answer.result ≡ said.Done = search rules in
    begun-content _ (g.D.Disk.view c.args.disk.now) (g.D.Disk.view c.write_at-answer.new.self) (g.D.Disk.view c.sync-answer.new.self) (g.D.Disk.view c.write_shut.new.disk) (search rules) less (c.write_at-answer.ensures.written told written)
    (c.sync-answer.ensures.rests told).gives
    (c.write_shut.ensures.content is told
    (begun-header _ (g.D.Disk.view c.args.disk.now) (g.D.Disk.view c.write_at-answer.new.self) (g.D.Disk.view c.sync-answer.new.self) (search rules) (c.write_at-answer.ensures.written told written) (c.sync-answer.ensures.rests told).gives))
