-- How many bytes a code has at most.
use Rattle.std.specs.Prelude.{ℕ, ◌+◌, ◌*◌, List, length}
use Rattle.ec_base.specs.Limits.{max_name_bytes}
use Rattle.ec_volume.specs.Limits.{max_write_bytes}
use Rattle.ec_codes.specs.Images.{max_file_bytes, max_entries}

-- of an update: that of a write has form, obj, place, inside and length before its bytes
abbrev pub max_update_code : ℕ
max_update_code = 12 + max_write_bytes

-- of a file's image: kind, mode, stamp, owner and length before the bytes
abbrev pub max_file_code : ℕ
max_file_code = 19 + max_file_bytes

-- of a directory's image: kind, mode, stamp, owner and count before the entries, each with its name and its id
abbrev pub max_dir_code : ℕ
max_dir_code = 16 + max_entries * (1 + max_name_bytes + 4)
