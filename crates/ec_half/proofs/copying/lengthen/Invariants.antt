use Rattle.std.proofs.Common.{◌≡◌, ◌≤◌, ◌-◌, length}
use Rattle.ec_half.specs.OfSlots.Contents.{filled}
use Rattle.ec_half.specs.Contents.{content_behind, HasHeader}
use Rattle.ec_half.specs.Headers.{AllHave}
use Rattle.ec_half.proofs.copying.lengthen.Given as goal

abbrev pub invariant-pieces : goal.invariant-pieces
invariant-pieces g l = record {
  from : l.half.from ≡ l.fn.half.from;
  same_disk : l.half.disk.ghost_name ≡ l.fn.half.disk.ghost_name;
  may_stop : l.half.may_stop ≡ l.fn.half.may_stop;
  generation : l.half.generation ≡ l.fn.half.generation;
  most : l.half.most ≡ l.fn.half.most;
  have : g.D.Disk.tells → AllHave (g.D.Disk.view l.fn.half.disk.now) l.fn.half.generation → AllHave (g.D.Disk.view l.half.disk.now) l.half.generation;
  begun : l.from ≤ l.at;
  within : l.at ≤ l.to;
  header : g.D.Disk.tells → HasHeader (g.D.Disk.view l.fn.half.disk.now) → HasHeader (g.D.Disk.view l.half.disk.now);
  zeros : g.D.Disk.tells → HasHeader (g.D.Disk.view l.fn.half.disk.now) → l.from ≡ length (content_behind (g.D.Disk.view l.fn.half.disk.now)).gives → (content_behind (g.D.Disk.view l.half.disk.now)).gives ≡ filled (content_behind (g.D.Disk.view l.fn.half.disk.now)).gives l.at;
}

abbrev pub decreases-pieces : goal.decreases-pieces
decreases-pieces g l = l.to - l.at
