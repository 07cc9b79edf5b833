-- What an image shows, and images with one part changed.
use Rattle.std.specs.Prelude.{◌==◌, ◌+◌, ◌-◌, ℕ, Bool, true, false, ◌&&◌, List, [], ◌++◌, length, take, drop, replicate, Option, None, Some, is_none}
use Rattle.ec_volume.specs.Limits.{file_mode, dir_mode}
use Rattle.ec_volume.specs.Entries.{Entries, entry}
use Rattle.ec_volume.specs.declared.image.Kind.{Kind}
use Rattle.ec_volume.specs.declared.image.Kind.TheVariants as kind
use Rattle.ec_volume.specs.declared.image.Image.{Image}
use Rattle.ec_volume.specs.declared.image.Image.TheVariants.{Gone, File, Dir}

abbrev pub is_gone : Image → Bool
is_gone Gone = true
is_gone _ = false

abbrev pub is_file : Image → Bool
is_file (File m s w bs) = true
is_file _ = false

abbrev pub is_dir : Image → Bool
is_dir (Dir m s w es) = true
is_dir _ = false

abbrev pub is_kind : Kind → Image → Bool
is_kind kind.File i = is_file i
is_kind kind.Dir i = is_dir i

abbrev pub entries_of : Image → Entries
entries_of (Dir m s w es) = es
entries_of _ = []

abbrev pub bytes_of : Image → List ℕ
bytes_of (File m s w bs) = bs
bytes_of _ = []

-- What the tests of updates ask.

abbrev pub is_id : ℕ → Option ℕ → Bool
is_id o None = false
is_id o (Some p) = o == p

-- a directory without this name
abbrev pub lacks : List ℕ → Image → Bool
lacks n i = is_dir i && is_none (entry (entries_of i) n)

-- a directory whose entry of this name is o
abbrev pub gives : List ℕ → ℕ → Image → Bool
gives n o i = is_dir i && is_id o (entry (entries_of i) n)

-- of the kind, and empty where a directory
abbrev pub is_bare : Kind → Image → Bool
is_bare k i = is_kind k i && (length (entries_of i) == 0)

-- a directory in which the name is the victim's, or no entry where there is none
abbrev pub yields : List ℕ → Option ℕ → Image → Bool
yields n None i = lacks n i
yields n (Some o) i = gives n o i

-- Images with one part changed.

-- the first n bytes, with zeros behind the end
abbrev pub resized : ℕ → List ℕ → List ℕ
resized n bs = take n bs ++ replicate (n - length bs) 0

-- new bytes at a place
abbrev pub overwritten : ℕ → List ℕ → List ℕ → List ℕ
overwritten at new bs = resized at bs ++ new ++ drop (at + length new) bs

abbrev pub with_bytes : (List ℕ → List ℕ) → Image → Image
with_bytes f (File m s w bs) = File m s w (f bs)
with_bytes f Gone = Gone
with_bytes f (Dir m s w es) = Dir m s w es

abbrev pub with_entries : (Entries → Entries) → Image → Image
with_entries f (Dir m s w es) = Dir m s w (f es)
with_entries f Gone = Gone
with_entries f (File m s w bs) = File m s w bs

abbrev pub with_mode : ℕ → Image → Image
with_mode m Gone = Gone
with_mode m (File _ s w bs) = File m s w bs
with_mode m (Dir _ s w es) = Dir m s w es

abbrev pub with_stamp : ℕ → Image → Image
with_stamp s Gone = Gone
with_stamp s (File m _ w bs) = File m s w bs
with_stamp s (Dir m _ w es) = Dir m s w es

abbrev pub with_owner : ℕ → Image → Image
with_owner w Gone = Gone
with_owner w (File m s _ bs) = File m s w bs
with_owner w (Dir m s _ es) = Dir m s w es

-- a new file has the mode 0644, a new directory 0755; both have stamp and owner 0
abbrev pub new_object : Kind → Image
new_object kind.File = File file_mode 0 0 []
new_object kind.Dir = Dir dir_mode 0 0 []
