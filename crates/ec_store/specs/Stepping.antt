-- A batch is carried out on a state in place: what it's tried on first, and what may be left of the state.
use Rattle.std.specs.Prelude.{◌≡◌, ◌⊎◌, ℕ, Bool, false, List, [], ◌∷◌, Option, None, Some, Result, Ok}
use Rattle.std.specs.List.{filter, list_all}
use Rattle.ec_base.specs.Tables.{Table}
use Rattle.ec_volume.specs.Update.{member, fits}
use Rattle.ec_volume.specs.Volume.{Images}
use Rattle.ec_volume.specs.Held.{changed}
use Rattle.ec_volume.specs.declared.image.Image.{Image}
use Rattle.ec_volume.specs.declared.update.Update.{Update}
use Rattle.ec_volume.specs.declared.update.Update.TheVariants.{Put, Mode, Stamp, Owner}
use Rattle.ec_durable.specs.declared.state.Durable.{Durable}
use Rattle.ec_durable.specs.declared.record.Record.{Record}
use Rattle.ec_durable.specs.declared.record.Record.TheVariants.{Batch}
use Rattle.ec_durable.specs.declared.record.RecordFault.{RecordFault}
use Rattle.ec_durable.specs.Durable.{formatted, step}

-- the images of these objects
abbrev pub picked : List ℕ → Table Image → Table Image
picked ids es = filter (λ e. member e.0 ids) es

-- the volume behind the updates of these operations
abbrev pub behind : List (ℕ × Update) → Table Image → Table Image
behind [] es = es
behind (op ∷ ops) es = behind ops (changed op.1 es)

-- a batch of these operations, and the same one without them
abbrev pub IsBatchOf : List (ℕ × Update) → Record → Record → Type 0
IsBatchOf ops r empty = (c : ℕ) × (s : ℕ) × (b : ℕ) × (r ≡ Batch c s b ops) × (empty ≡ Batch c s b [])

-- the object of an update that keeps the object's kind, and shortens no file
abbrev pub grown : Update → Option ℕ
grown (Put obj at bytes inside) = Some obj
grown (Mode obj mode) = Some obj
grown (Stamp obj stamp) = Some obj
grown (Owner obj owner) = Some obj
grown _ = None

-- such an update, which fits the volume
abbrev pub fits_ahead : Images → Update → Bool
fits_ahead v u = elim (grown u) [ None ↦ false | Some o ↦ fits u o (v o) ]

-- Each update is such a one: it fits behind those in front of it too.
abbrev pub all_fit_ahead : Images → List (ℕ × Update) → Bool
all_fit_ahead v ops = list_all (λ op. fits_ahead v op.1) ops

-- the state with this volume
abbrev pub with_volume : Table Image → Durable → Durable
with_volume es d = record d { volume = es }

-- what a record makes of the state where its volume is this one
abbrev pub tried : Record → Table Image → Durable → Result Durable RecordFault
tried r part d = step r (with_volume part d)

-- the state that such a trial leaves, with the volume behind the operations
abbrev pub IsTried : Record → Table Image → List (ℕ × Update) → Durable → Durable → Type 0
IsTried r part ops d new = (e : Durable) × (tried r part d ≡ Ok e) × (new ≡ with_volume (behind ops d.volume) e)

-- the same state, or a formatted one with the same limit
abbrev pub IsSpare : Durable → Durable → Type 0
IsSpare d e = (e ≡ d) ⊎ (e ≡ formatted d.max_objects)
