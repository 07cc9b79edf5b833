use Rattle.std.proofs.Common.{◌≡◌, ◌++◌}
use Rattle.std.specs.Vec.Iter.{into_iter_items}
use Rattle.indexmap.specs.IndexMap.{IsUnique, values}
use Rattle.ec_sessions.specs.OfRecall.Keys.{IsKeyed, same_key}
use Rattle.ec_sessions.proofs.recall.recalls.keyed.Given as goal

abbrev pub invariant-loop-want : goal.invariant-loop-want
invariant-loop-want l = record {
  wants : values l.map ++ into_iter_items l.want-iterator ≡ l.fn.wants.items;
  keyed : IsKeyed l.map.entries;
  unique : IsUnique same_key l.map;
}
