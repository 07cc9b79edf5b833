use Rattle.std.proofs.Common.{rules, ◌∙◌, ap, sym, subst, List, ℕ}
use Rattle.ec_disk.specs.Choices.{cut}
use Rattle.ec_disk.specs.Past.{clean, shot_of}
use Rattle.ec_disk.specs.Undo.{Restores}
use Rattle.ec_disk.specs.declared.undo.Undo.{Undo}
use Rattle.ec_disk.specs.declared.memory.Step.TheVariants as step
use Rattle.ec_disk.proofs.MemoryLaws.{kept-clean}
use Rattle.ec_disk.proofs.memory.MemDisk.cut.Goals as goal

pub invariant_of-self-2 : goal.invariant_of-self-2
invariant_of-self-2 c =
    let was = c.args.self.now in
    let synced = (shot_of was.log.items).synced in
    let restores = subst (λ (us : List Undo). Restores us was.synced_len c.deref.result.now synced) (sym c.deref-2.ensures.value)
    (subst (λ (l : List ℕ). Restores was.undos.items was.synced_len l synced) (sym c.deref.ensures.value) was.restores) in
    let next = c.in_ok-next.ensures synced restores ∙ ap (λ (l : List ℕ). cut c.args.choice l synced) (c.deref.ensures.value ∙ was.image_is) in
    let kept = kept-clean c.clear.new.self.items c.len-self.result c.in_ok-next.next.items was.log.items c.push.new.self.items (step.Cut c.args.choice) c.in_ok-push.ensures.items
    (ap clean (sym next)) c.clear.ensures.items (search rules) in
    record { image_is = kept.now_is; restores = kept.restores }
