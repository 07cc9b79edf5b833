use Rattle.std.proofs.Common.{sym, subst, ap, ◌∙◌, length}
use Rattle.ec_disk.specs.Effects.{Wrote, InRange}
use Rattle.ec_disk.specs.Past.{Shot, shot_of, view_of}
use Rattle.ec_disk.specs.PastLaws.{wrote, gives-written, synced-written}
use Rattle.ec_disk.proofs.memory.MemDiskDisk.write_at.Goals as goal

pub returns-in-Ok-clause-wrote : goal.returns-in-Ok-clause-wrote
returns-in-Ok-clause-wrote c told =
    let log = c.args.self.now.log.items in
    subst (λ l. Wrote (InRange c.args.at (length c.args.piece.now)) (view_of log) (view_of l)) (sym c.in-Ok.ensures.ok) (wrote log c.args.at c.args.piece.now)

pub returns-in-Ok-2-clause-wrote : goal.returns-in-Ok-2-clause-wrote
returns-in-Ok-2-clause-wrote c told =
    let log = c.args.self.now.log.items in
    subst (λ l. Wrote (InRange c.args.at (length c.args.piece.now)) (view_of log) (view_of l)) (sym c.in-Ok.ensures.ok) (wrote log c.args.at c.args.piece.now)

pub returns-in-Ok-2-clause-written : goal.returns-in-Ok-2-clause-written
returns-in-Ok-2-clause-written c told done = ap (λ l. Shot.now (shot_of l)) c.in-Ok.ensures.ok ∙ gives-written c.args.self.now.log.items c.args.at c.args.piece.now

pub returns-in-Ok-clause-kept : goal.returns-in-Ok-clause-kept
returns-in-Ok-clause-kept c told = ap (λ l. Shot.synced (shot_of l)) c.in-Ok.ensures.ok ∙ synced-written c.args.self.now.log.items c.args.at c.args.piece.now

pub returns-in-Ok-2-clause-kept : goal.returns-in-Ok-2-clause-kept
returns-in-Ok-2-clause-kept c told = ap (λ l. Shot.synced (shot_of l)) c.in-Ok.ensures.ok ∙ synced-written c.args.self.now.log.items c.args.at c.args.piece.now

pub returns-in-Ok-clause-stopped : goal.returns-in-Ok-clause-stopped
returns-in-Ok-clause-stopped c told stopped = ap (λ l. Shot.now (shot_of l)) c.in-Ok.ensures.ok ∙ gives-written c.args.self.now.log.items c.args.at c.args.piece.now

pub returns-in-Ok-2-clause-stopped : goal.returns-in-Ok-2-clause-stopped
returns-in-Ok-2-clause-stopped c told stopped = ap (λ l. Shot.now (shot_of l)) c.in-Ok.ensures.ok ∙ gives-written c.args.self.now.log.items c.args.at c.args.piece.now
