use Rattle.std.proofs.Common.{length}
use Rattle.ec_disk.specs.Effects.{InRange}
use Rattle.ec_disk.specs.Runs.{run_begun, and_wrote, and_rests}
use Rattle.ec_half.proofs.slots.device.write_synced.Goals as goal

pub returns-then-ne-clause-ran : goal.returns-then-ne-clause-ran
returns-then-ne-clause-ran g c told =
    let W = InRange c.args.at (length c.args.piece.now) in
    let old = g.D.Disk.view c.args.disk.now in
    and_wrote W W (λ i at. at) old old (g.D.Disk.view c.write_at-answer.new.self) (run_begun W old (g.met.D.Disk.only_now told c.args.disk.now)) (c.write_at-answer.ensures.wrote told)

pub returns-clause-ran : goal.returns-clause-ran
returns-clause-ran g c told =
    let W = InRange c.args.at (length c.args.piece.now) in
    let old = g.D.Disk.view c.args.disk.now in
    let mid = g.D.Disk.view c.write_at-answer.new.self in
    and_rests W old mid (g.D.Disk.view c.sync.new.self) (and_wrote W W (λ i at. at) old old mid (run_begun W old (g.met.D.Disk.only_now told c.args.disk.now)) (c.write_at-answer.ensures.wrote told)) (c.sync.ensures.rests told)
