use Rattle.std.proofs.Common.{◌≡◌, ◌≤◌, length, take}
use Rattle.ec_disk.specs.Undo.{undone}
use Rattle.ec_disk.proofs.undo.put_back.Given as goal

abbrev pub invariant-undos : goal.invariant-undos
invariant-undos l =
    (undone (take l.left l.undos) l.image.items ≡ undone l.undos l.fn.image.items) × (length (undone (take l.left l.undos) l.image.items) ≡ length l.image.items) × (l.left ≤ length l.undos)

abbrev pub decreases-undos : goal.decreases-undos
decreases-undos l = l.left
