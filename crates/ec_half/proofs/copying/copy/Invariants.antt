use Rattle.std.proofs.Common.{◌≡◌, ◌≤◌, ◌-◌, true, length}
use Rattle.ec_half.specs.Contents.{content_behind, HasHeader, Rested}
use Rattle.ec_half.specs.Headers.{AllHave}
use Rattle.ec_half.proofs.Copies.{IsCopied}
use Rattle.ec_half.proofs.copying.copy.Given as goal

abbrev pub invariant-pieces : goal.invariant-pieces
invariant-pieces g l = record {
  source_from : l.source.from ≡ l.fn.source.from;
  other_from : l.other.from ≡ l.fn.other.from;
  source_disk : l.source.disk.ghost_name ≡ l.fn.source.disk.ghost_name;
  other_disk : l.other.disk.ghost_name ≡ l.fn.other.disk.ghost_name;
  source_stop : l.source.may_stop ≡ l.fn.source.may_stop;
  other_stop : l.other.may_stop ≡ l.fn.other.may_stop;
  source_keeps : l.fn.source.has_failed ≡ true → l.source.has_failed ≡ true;
  source_generation : l.source.generation ≡ l.fn.source.generation;
  other_generation : l.other.generation ≡ l.fn.other.generation;
  source_most : l.source.most ≡ l.fn.source.most;
  other_most : l.other.most ≡ l.fn.other.most;
  other_keeps : l.fn.other.has_failed ≡ true → l.other.has_failed ≡ true;
  source_rests : g.S.Disk.tells → Rested (content_behind (g.S.Disk.view l.fn.source.disk.now)) (content_behind (g.S.Disk.view l.source.disk.now));
  source_known : l.source.len ≡ l.fn.source.len;
  source_have : g.S.Disk.tells → AllHave (g.S.Disk.view l.fn.source.disk.now) l.fn.source.generation → AllHave (g.S.Disk.view l.source.disk.now) l.source.generation;
  other_have : g.O.Disk.tells → AllHave (g.O.Disk.view l.fn.other.disk.now) l.fn.other.generation → AllHave (g.O.Disk.view l.other.disk.now) l.other.generation;
  other_header : g.O.Disk.tells → HasHeader (g.O.Disk.view l.fn.other.disk.now) → HasHeader (g.O.Disk.view l.other.disk.now);
  copied : g.S.Disk.tells → g.O.Disk.tells → HasHeader (g.O.Disk.view l.fn.other.disk.now) → l.len ≡ length (content_behind (g.S.Disk.view l.fn.source.disk.now)).gives → length (content_behind (g.O.Disk.view l.fn.other.disk.now)).gives ≤ l.len → IsCopied l.at (content_behind (g.S.Disk.view l.fn.source.disk.now)).gives (content_behind (g.O.Disk.view l.other.disk.now)).gives;
}

abbrev pub decreases-pieces : goal.decreases-pieces
decreases-pieces g l = l.len - l.at
