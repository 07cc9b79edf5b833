-- What a call comes to on one plain volume.
use Rattle.std.specs.Prelude.{◌==◌, ◌+◌, ◌-◌, ℕ, Bool, true, false, not, ◌&&◌, if◌then◌else◌, nat_lt, nat_le, List, [], ◌∷◌, ◌++◌, map, length, take, drop, Option, None, Some, is_some}
use Rattle.ec_volume.specs.Limits.{max_file_bytes, max_entries}
use Rattle.ec_volume.specs.Entries.{Entries, entry}
use Rattle.ec_volume.specs.Image.{entries_of, bytes_of, is_gone, is_dir}
use Rattle.ec_volume.specs.Update.{Above, member}
use Rattle.ec_volume.specs.Volume.{Images}
use Rattle.ec_volume.specs.declared.image.Kind.{Kind}
use Rattle.ec_volume.specs.declared.image.Kind.TheVariants as kind
use Rattle.ec_volume.specs.declared.image.Image.{Image}
use Rattle.ec_volume.specs.declared.image.Image.TheVariants.{Gone, File, Dir}
use Rattle.ec_volume.specs.declared.update.Update.{Update}
use Rattle.ec_volume.specs.declared.update.Update.TheVariants.{Make, Drop, Move, Put, Len, Mode, Stamp, Order, Shift, Owner}
use Rattle.ec_plain.specs.Walk.{Path, Walk, At, Not, walk, parent_of, last_of, same_path}
use Rattle.ec_plain.specs.declared.call.Call.{Call}
use Rattle.ec_plain.specs.declared.call.Call.TheVariants as call
use Rattle.ec_plain.specs.declared.call.Reply.{Reply}
use Rattle.ec_plain.specs.declared.call.Reply.TheVariants as reply
use Rattle.ec_plain.specs.declared.call.Refusal.{Refusal}
use Rattle.ec_plain.specs.declared.call.Refusal.TheVariants as no
use Rattle.ec_plain.specs.declared.call.Outcome.{Outcome}

-- Outcomes.

abbrev pub answers : Reply → List ℕ → Outcome
answers r read = record { reply = r; update = None; touched = read }

abbrev pub refuses : Refusal → List ℕ → Outcome
refuses f read = answers (reply.Refused f) read

abbrev pub issues : Update → List ℕ → Outcome
issues u read = record { reply = reply.Ok; update = Some u; touched = read }

-- What comes once the walk has reached an object; else its refusal. f is given the object and what was read.
abbrev pub on_reached : Walk → (ℕ → List ℕ → Outcome) → Outcome
on_reached walked f = elim walked.to [ At obj ↦ f obj walked.read | Not r ↦ refuses r walked.read ]

-- The same for the parent, which has to be a directory. f is given its id, its entries and what was read.
abbrev pub on_parent : Images → Path → (ℕ → Entries → List ℕ → Outcome) → Outcome
on_parent volume path f =
    on_reached (walk volume (parent_of path)) λ dir read.
    if is_dir (volume dir) then f dir (entries_of (volume dir)) read else refuses (no.NotDir (length path - 1)) read

-- The same for the object that the path reaches, below its parent. f is given the parent, its entries, the object and what was read.
abbrev pub on_entry : Images → Path → (ℕ → Entries → ℕ → List ℕ → Outcome) → Outcome
on_entry volume path f =
    on_parent volume path λ dir entries read.
    elim (entry entries (last_of path)) [
      | None ↦ refuses (no.NotFound (length path)) read
      | Some obj ↦ if is_gone (volume obj) then refuses (no.NotFound (length path)) (read ++ obj ∷ []) else f dir entries obj (read ++ obj ∷ [])
    ]

-- New objects.

-- one of this name in the directory
abbrev pub make_in : Kind → List ℕ → ℕ → ℕ → Entries → List ℕ → Outcome
make_in k name fresh dir entries read =
    if is_some (entry entries name) then refuses no.Exists read
    else if nat_le max_entries (length entries) then refuses no.DirFull read
    else issues (Make dir name fresh k) (read ++ fresh ∷ [])

abbrev pub plain_make : Images → Kind → Path → ℕ → Outcome
plain_make volume k [] fresh = refuses no.Root []
plain_make volume k (name ∷ names) fresh = on_parent volume (name ∷ names) (make_in k (last_of (name ∷ names)) fresh)

-- Removals.

-- the object goes from the directory
abbrev pub drop_in : Images → Kind → Path → ℕ → Entries → ℕ → List ℕ → Outcome
drop_in volume kind.File path dir entries obj read =
    if is_dir (volume obj) then refuses no.IsDir read
    else issues (Drop dir (last_of path) obj kind.File) read
drop_in volume kind.Dir path dir entries obj read =
    if not (is_dir (volume obj)) then refuses (no.NotDir (length path)) read
    else if nat_lt 0 (length (entries_of (volume obj))) then refuses no.NotEmpty read
    else issues (Drop dir (last_of path) obj kind.Dir) read

abbrev pub plain_drop : Images → Kind → Path → Outcome
plain_drop volume k [] = refuses no.Root []
plain_drop volume k (name ∷ names) = on_entry volume (name ∷ names) (drop_in volume k (name ∷ names))

-- Renames.

abbrev pub kind_of : Image → Kind
kind_of (Dir m s w es) = kind.Dir
kind_of _ = kind.File

-- A file may take the place of a file, and a directory that of an empty directory; k names led there.
abbrev pub blocked : Kind → Image → ℕ → Option Refusal
blocked kind.File (Dir m s w es) k = Some no.IsDir
blocked kind.Dir (File m s w bs) k = Some (no.NotDir k)
blocked kind.Dir (Dir m s w es) k = if nat_lt 0 (length es) then Some no.NotEmpty else None
blocked _ _ k = None

-- directories, each with the name that leads on from it
abbrev pub with_names : List ℕ → List (List ℕ) → Above
with_names (dir ∷ dirs) (name ∷ names) = (dir, name) ∷ with_names dirs names
with_names _ _ = []

-- The directories above the one that this walk of names read last: of a directory that moves, all from the root on.
abbrev pub above : Kind → List ℕ → Path → Above
above kind.File passed names = []
above kind.Dir passed names = with_names passed names

-- the object of the directory gets a new name there or in another one, in the place of the victim, if any; `up` leads to the other one
abbrev pub renames : ℕ → List ℕ → ℕ → List ℕ → ℕ → Kind → Option ℕ → Above → List ℕ → Outcome
renames dir from into to obj k victim up read = if dir == into then issues (Move dir from to obj k victim) read else issues (Shift dir from into to obj k victim up) read

-- the object of the directory moves to the target path, whose parent `into` has these entries; the walk there passed some objects, and all those in `read` were read
abbrev pub move_into : Images → Path → Path → ℕ → ℕ → ℕ → Entries → List ℕ → List ℕ → Outcome
move_into volume path target dir obj into entries passed read =
    let k = kind_of (volume obj) in
    let up = above k passed (parent_of target) in
    elim (entry entries (last_of target)) [
      | None ↦ if not (dir == into) && nat_le max_entries (length entries) then refuses no.DirFull read else renames dir (last_of path) into (last_of target) obj k None up read
      | Some victim ↦ elim (blocked k (volume victim) (length target)) [
        | Some r ↦ refuses r (read ++ victim ∷ [])
        | None ↦ renames dir (last_of path) into (last_of target) obj k (Some victim) up (read ++ victim ∷ [])
      ]
    ]

-- no directory moves into itself or below itself
abbrev pub loops : Images → ℕ → List ℕ → Bool
loops volume obj passed = is_dir (volume obj) && member obj passed

-- the rest of the rename, where the walk of the first path read these objects
abbrev pub rename_in : Images → Path → Path → ℕ → Entries → ℕ → List ℕ → Outcome
rename_in volume path target dir entries obj read =
    if same_path path target then answers reply.Ok read
    else
    let walked = walk volume (parent_of target) in
    elim walked.to [
      | Not r ↦ refuses r (read ++ walked.read)
      | At into ↦
          if not (is_dir (volume into)) then refuses (no.NotDir (length target - 1)) (read ++ walked.read)
          else if loops volume obj walked.read then refuses no.Loop (read ++ walked.read)
          else move_into volume path target dir obj into (entries_of (volume into)) walked.read (read ++ walked.read)
    ]

abbrev pub plain_rename : Images → Path → Path → Outcome
plain_rename volume (name ∷ names) (other ∷ others) = on_entry volume (name ∷ names) (rename_in volume (name ∷ names) (other ∷ others))
plain_rename volume _ _ = refuses no.Root []

-- The objects of the paths, each once, or the first refusal; and what was read.

abbrev pub once_more : ℕ → List ℕ → List ℕ
once_more obj objs = if member obj objs then objs else objs ++ obj ∷ []

abbrev pub plain_forder : Images → List Path → List ℕ → List ℕ → Outcome
plain_forder volume [] objs read = issues (Order objs) read
plain_forder volume (path ∷ paths) objs read =
    let walked = walk volume path in
    elim walked.to [ At obj ↦ plain_forder volume paths (once_more obj objs) (read ++ walked.read) | Not r ↦ refuses r (read ++ walked.read) ]

-- What is done at the object that a walk reached.

abbrev pub stat_of : Image → Reply
stat_of (File m s w bs) = reply.Stat kind.File m s w (length bs)
stat_of (Dir m s w es) = reply.Stat kind.Dir m s w (length es)
stat_of Gone = reply.Stat kind.File 0 0 0 0

abbrev pub write_in : Images → ℕ → List ℕ → ℕ → List ℕ → Outcome
write_in volume at bytes obj read =
    if is_dir (volume obj) then refuses no.IsDir read
    else if nat_lt max_file_bytes (at + length bytes) then refuses no.TooLong read
    else issues (Put obj at bytes (nat_le (at + length bytes) (length (bytes_of (volume obj))))) read

abbrev pub len_in : Images → ℕ → ℕ → List ℕ → Outcome
len_in volume len obj read =
    if is_dir (volume obj) then refuses no.IsDir read
    else if nat_lt max_file_bytes len then refuses no.TooLong read
    else issues (Len obj len) read

abbrev pub read_in : Images → ℕ → ℕ → ℕ → List ℕ → Outcome
read_in volume at count obj read =
    if is_dir (volume obj) then refuses no.IsDir read
    else answers (reply.Data (take count (drop at (bytes_of (volume obj))))) read

abbrev pub list_in : Images → Path → ℕ → List ℕ → Outcome
list_in volume path obj read =
    if is_dir (volume obj) then answers (reply.Names (map (λ e. e.0) (entries_of (volume obj)))) read
    else refuses (no.NotDir (length path)) read

-- The outcome of a call on a volume, where a new object is to have the fresh id.
abbrev pub plain : Images → Call → ℕ → Outcome
plain volume (call.Mkdir path) fresh = plain_make volume kind.Dir path fresh
plain volume (call.Create path) fresh = plain_make volume kind.File path fresh
plain volume (call.Write path at bytes) fresh = on_reached (walk volume path) (write_in volume at bytes)
plain volume (call.SetLen path len) fresh = on_reached (walk volume path) (len_in volume len)
plain volume (call.Read path at count) fresh = on_reached (walk volume path) (read_in volume at count)
plain volume (call.Chmod path mode) fresh = on_reached (walk volume path) λ obj read. issues (Mode obj mode) read
plain volume (call.Touch path stamp) fresh = on_reached (walk volume path) λ obj read. issues (Stamp obj stamp) read
plain volume (call.Stat path) fresh = on_reached (walk volume path) λ obj read. answers (stat_of (volume obj)) read
plain volume (call.List path) fresh = on_reached (walk volume path) (list_in volume path)
plain volume (call.Remove path) fresh = plain_drop volume kind.File path
plain volume (call.Rmdir path) fresh = plain_drop volume kind.Dir path
plain volume (call.Rename path target) fresh = plain_rename volume path target
plain volume (call.Fsync path) fresh = on_reached (walk volume path) λ obj read. answers reply.Ok read
plain volume (call.Forder paths) fresh = plain_forder volume paths [] []
plain volume call.Sync fresh = answers reply.Ok []
plain volume (call.Chown path owner) fresh = on_reached (walk volume path) λ obj read. issues (Owner obj owner) read

abbrev pub is_sync : Call → Bool
is_sync call.Sync = true
is_sync _ = false
