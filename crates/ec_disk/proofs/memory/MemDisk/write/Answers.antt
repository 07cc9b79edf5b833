use Rattle.std.proofs.Common.{rules, refl}
use Rattle.ec_disk.specs.declared.undo.Undo.{Undo}
use Rattle.ec_disk.proofs.MemoryLaws.{Kept, kept-write}
use Rattle.ec_disk.proofs.memory.MemDisk.write.Goals as goal

pub invariant_of-self-2 : goal.invariant_of-self-2
invariant_of-self-2 c =
    let was = c.args.self.now in
    let undo : Undo = record { at = c.args.at; old = c.of-old.result } in
    let before : Kept was.undos.items was.synced_len was.image.items was.log.items = record { now_is = was.image_is; restores = was.restores } in
    let kept = kept-write was.undos.items c.push.new.self.items was.synced_len was.image.items c.overwrite.new.image.items c.in_ok-bytes_at.field-0.items c.args.piece.now was.log.items c.push-2.new.self.items c.args.at undo before refl
    c.of-old.ensures (search rules) (search rules) (search rules) (search rules) (search rules) in
    record { image_is = kept.now_is; restores = kept.restores }
