-- The limits of files, directories, modes and updates, and the modes of new objects.
use Rattle.std.specs.Prelude.{ℕ, ◌-◌}
use Rattle.ec_base.specs.Limits.{max_path_names}

abbrev pub max_file_bytes : ℕ
max_file_bytes = 65536

-- of a directory
abbrev pub max_entries : ℕ
max_entries = 128

-- twelve bits
abbrev pub max_mode : ℕ
max_mode = 4095

abbrev pub max_write_bytes : ℕ
max_write_bytes = 4096

-- objects that one operation orders
abbrev pub max_ordered : ℕ
max_ordered = 8

-- directories above the one that a directory moves into
abbrev pub max_above : ℕ
max_above = max_path_names - 1

-- of a new file: 0644
abbrev pub file_mode : ℕ
file_mode = 420

-- of a new directory: 0755
abbrev pub dir_mode : ℕ
dir_mode = 493
