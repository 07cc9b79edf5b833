use Rattle.std.proofs.Common.{map, ap, List, ℕ}
use Rattle.std.specs.Prelude.{Vec}
use Rattle.std.specs.declared.alloc.Global.{Global}
use Rattle.ec_mount_table.proofs.ending.joined_with.Goals as goal

pub returns : goal.returns
returns c = (ap (map (λ (w : Vec (List ℕ) Global). w.items)) c.in-Ok.ensures.items, c.or_boot.ensures, c.or_fault.ensures)
