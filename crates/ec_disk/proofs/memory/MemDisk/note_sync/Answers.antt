use Rattle.std.proofs.Common.{rules, ap, sym}
use Rattle.ec_disk.specs.Past.{clean}
use Rattle.ec_disk.specs.declared.memory.Step.TheVariants as step
use Rattle.ec_disk.proofs.MemoryLaws.{kept-clean}
use Rattle.ec_disk.proofs.memory.MemDisk.note_sync.Goals as goal

pub invariant_of-self-2 : goal.invariant_of-self-2
invariant_of-self-2 c =
    let was = c.args.self.now in
    let kept = kept-clean c.clear.new.self.items c.len-self.result was.image.items was.log.items c.push.new.self.items step.Sync c.in_ok-push.ensures.items (ap clean (sym was.image_is)) c.clear.ensures.items (search rules) in
    record { image_is = kept.now_is; restores = kept.restores }
