use Rattle.std.proofs.Common.{◌≡◌, map, take}
use Rattle.std.specs.String.{string_bytes}
use Rattle.ec_mount_words.specs.Mounts.{mount_path}
use Rattle.ec_mount_table.proofs.mounting.table_of.Given as goal

abbrev pub invariant-words : goal.invariant-words
invariant-words l = l.table.items ≡ map mount_path (map string_bytes (take l.word-index l.words))
