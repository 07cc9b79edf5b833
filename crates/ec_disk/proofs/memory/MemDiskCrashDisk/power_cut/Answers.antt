use Rattle.std.proofs.Common.{sym, subst, ap, ◌∙◌}
use Rattle.ec_disk.specs.Effects.{Cut, IsSynced}
use Rattle.ec_disk.specs.Past.{Shot, shot_of, view_of}
use Rattle.ec_disk.specs.PastLaws.{cuts, leaves, cut-synced}
use Rattle.ec_disk.proofs.memory.MemDiskCrashDisk.power_cut.Goals as goal

pub returns-in-Ok-clause-cut : goal.returns-in-Ok-clause-cut
returns-in-Ok-clause-cut c told = subst (λ l. Cut (view_of c.args.self.now.log.items) (view_of l)) (sym c.in-Ok.ensures.ok) (cuts c.args.self.now.log.items c.args.choice)

pub returns-in-Ok-clause-synced : goal.returns-in-Ok-clause-synced
returns-in-Ok-clause-synced c told done = subst (λ l. IsSynced (view_of l)) (sym c.in-Ok.ensures.ok) (cut-synced c.args.self.now.log.items c.args.choice)

pub returns-in-Ok-clause-leaves : goal.returns-in-Ok-clause-leaves
returns-in-Ok-clause-leaves c told done = ap (λ l. Shot.now (shot_of l)) c.in-Ok.ensures.ok ∙ leaves c.args.self.now.log.items c.args.choice
