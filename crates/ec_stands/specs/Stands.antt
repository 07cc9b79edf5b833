-- What an image of a disk stands for: the state of the selected side's checkpoint behind that side's records; or its first bad place.
use Rattle.std.specs.Prelude.{◌≡◌, ◌⊎◌, ◌<◌, ◌≤◌, ◌+◌, ℕ, min, List, [], ◌∷◌, ◌++◌, length, Ok, Err}
use Rattle.std.specs.Int.{w32, from_be_bytes}
use Rattle.ec_disk.specs.Disk.{byte, part}
use Rattle.ec_journal.specs.Records.{records, Front, HasBodies, RunsPast}
use Rattle.ec_volume.specs.declared.image.Image.{Image}
use Rattle.ec_codes.specs.Formats.{Format, then_by}
use Rattle.ec_codes.specs.Fields.{id}
use Rattle.ec_codes.specs.Images.{image_code, old_image_code}
use Rattle.ec_codes.specs.declared.fault.CodeFault.{CodeFault}
use Rattle.ec_codes.specs.declared.fault.CodeFault.TheVariants.{Short, Field, NoMemory}
use Rattle.ec_durable.specs.declared.state.Durable.{Durable}
use Rattle.ec_durable.specs.declared.record.Record.{Record}
use Rattle.ec_durable.specs.declared.record.RecordFault.{RecordFault}
use Rattle.ec_durable.specs.Durable.{step}
use Rattle.ec_durable.specs.Codes.{said}
use Rattle.ec_durable.specs.WellFormed.{WellFormed, least_max_objects, most_max_objects}
use Rattle.ec_stands.specs.OfTable.Codes.{table_code, described}
use Rattle.ec_stands.specs.declared.table.table.Table.{Table}
use Rattle.ec_stands.specs.declared.table.table.Version.{Version}
use Rattle.ec_stands.specs.declared.table.table.Version.TheVariants.{One, Two}
use Rattle.ec_journal.specs.declared.layout.side.Side.{Side}
use Rattle.ec_journal.specs.OfLayout.Places.{journal_at, table_at, slot_at, side_of, journal_bytes, table_bytes, slot_bytes}
use Rattle.ec_journal.specs.OfLayout.Head.{first_word, form}

-- What is read of an image.

abbrev pub side_in : List ℕ → Side
side_in image = side_of (byte image 12)

-- the place of the selected side's journal
abbrev pub journal_in : List ℕ → ℕ
journal_in image = journal_at (side_in image)

abbrev pub most_in : List ℕ → ℕ
most_in image = from_be_bytes w32 (part image 8 4)

-- the bytes where the selected side's table stands
abbrev pub table_part : List ℕ → List ℕ
table_part image = part image (table_at (side_in image)) table_bytes

abbrev pub slot_part : List ℕ → ℕ → List ℕ
slot_part image k = part image (slot_at k) slot_bytes

-- an object's id and its image; what stands behind it in its slot isn't read
abbrev pub slot_code : Version → Format (ℕ × Image)
slot_code One = then_by id (λ o. old_image_code)
slot_code Two = then_by id (λ o. image_code)

-- The first word, a number of objects within its limits, and the form of the layout.
pub record HasGoodHead (image : List ℕ) (most : ℕ) : Type 0 where
  pub long : 16 ≤ length image
  pub word : part image 0 8 ≡ first_word
  pub most_is : most_in image ≡ most
  pub least : least_max_objects ≤ most
  pub limit : most ≤ most_max_objects
  pub form_is : part image 13 3 ≡ form

-- the selected side's table, of a volume of so many objects at most
abbrev pub HasTable : List ℕ → ℕ → Version → Table → Type 0
HasTable image most v t = (next : ℕ) × ((table_code most).read (table_part image) 0 ≡ Ok ((v, t), next))

-- the object's image stands in the slot that the table names for it
abbrev pub HasImage : Version → List ℕ → ℕ × ℕ → ℕ × Image → Type 0
HasImage v image p e = (next : ℕ) × (e.0 ≡ p.0) × ((slot_code v).read (slot_part image p.1) 0 ≡ Ok (e, next))

abbrev pub HasImages : Version → List ℕ → List (ℕ × ℕ) → List (ℕ × Image) → Type 0
HasImages v image [] [] = Unit {0}
HasImages v image (p ∷ places) (e ∷ es) = HasImage v image p e × HasImages v image places es
HasImages v image _ _ = ⊥

-- the state of a table and of the images in its slots
abbrev pub state_of : ℕ → Table → List (ℕ × Image) → Durable
state_of most t es = record { volume = es; sessions = t.slots; next_id = t.next_id; next_session = t.next_session; epoch = t.epoch; max_objects = most }

-- The selected side's table and the slots that it names hold a well-formed state.
pub record HasCheckpoint (image : List ℕ) (v : Version) (places : List (ℕ × ℕ)) (base : Durable) : Type 0 where
  pub head : HasGoodHead image base.max_objects
  pub table : HasTable image base.max_objects v (described base places)
  pub images : HasImages v image places base.volume
  pub formed : WellFormed base

-- one state behind another by the records of these bodies, each of which steps
abbrev pub StepsTo : List (List ℕ) → Durable → Durable → Type 0
StepsTo [] d e = d ≡ e
StepsTo (body ∷ bodies) d e = (r : Record) × (mid : Durable) × (said body ≡ Ok r) × (step r d ≡ Ok mid) × StepsTo bodies mid e

-- An image stands for the state behind the records of its selected side.
pub record StandsFor (image : List ℕ) (state : Durable) : Type 0 where
  pub version : Version
  pub places : List (ℕ × ℕ)
  pub base : Durable
  pub checkpoint : HasCheckpoint image version places base
  pub bodies : List (List ℕ)
  pub journal : HasBodies image (journal_in image) journal_bytes bodies
  pub steps : StepsTo bodies base state

-- The first bad place.

-- where a fault in a part of an image shows; that of an image which ends too early shows at its end
abbrev pub fault_at : List ℕ → ℕ → CodeFault → ℕ
fault_at image at (Short p) = min (length image) (at + p)
fault_at image at (Field p) = at + p
fault_at image at NoMemory = at

-- A named slot has no object's image, or that of another object.
pub data IsBadImage (v : Version) (image : List ℕ) (p : ℕ × ℕ) (place : ℕ) : Type 0 where
  no_image : (fault : CodeFault) → (slot_code v).read (slot_part image p.1) 0 ≡ Err fault → place ≡ fault_at image (slot_at p.1) fault → IsBadImage v image p place
  another_image : (e : ℕ × Image) (next : ℕ) → (slot_code v).read (slot_part image p.1) 0 ≡ Ok (e, next) → (e.0 ≡ p.0 → ⊥) → place ≡ slot_at p.1 → IsBadImage v image p place

-- the first of the named slots that is bad
abbrev pub HasBadImage : Version → List ℕ → List (ℕ × ℕ) → ℕ → Type 0
HasBadImage v image [] place = ⊥
HasBadImage v image (p ∷ places) place = IsBadImage v image p place ⊎ ((e : ℕ × Image) × HasImage v image p e × HasBadImage v image places place)

-- A body is no record, or that of one which the state refuses.
pub data IsRefused (body : List ℕ) (d : Durable) : Type 0 where
  no_record : (fault : CodeFault) → said body ≡ Err fault → IsRefused body d
  no_step : (r : Record) (fault : RecordFault) → said body ≡ Ok r → step r d ≡ Err fault → IsRefused body d

-- a record more stands behind these, whole
abbrev pub GoesOn : List ℕ → List (List ℕ) → List ℕ → Type 0
GoesOn image before body = Front image (journal_in image) (before ++ body ∷ []) × (length (records (before ++ body ∷ [])) < journal_bytes)

-- Behind records that step, one doesn't, or runs past the journal. The place is its gate.
pub record HasBadRecord (image : List ℕ) (base : Durable) (place : ℕ) : Type 0 where
  pub before : List (List ℕ)
  pub mid : Durable
  pub steps : StepsTo before base mid
  pub gate : place ≡ journal_in image + length (records before)
  pub bad : ((body : List ℕ) × GoesOn image before body × IsRefused body mid) ⊎ RunsPast image (journal_in image) journal_bytes before

-- An image stands for no state, and this is the first place that shows it.
pub data IsBadAt (image : List ℕ) (place : ℕ) : Type 0 where
  short_head : length image < 16 → place ≡ 0 → IsBadAt image place
  other_word : 16 ≤ length image → (part image 0 8 ≡ first_word → ⊥) → place ≡ 0 → IsBadAt image place
  other_most : 16 ≤ length image → part image 0 8 ≡ first_word → (least_max_objects ≤ most_in image → most_in image ≤ most_max_objects → ⊥) → place ≡ 8 → IsBadAt image place
  other_form : 16 ≤ length image → part image 0 8 ≡ first_word → least_max_objects ≤ most_in image → most_in image ≤ most_max_objects → (part image 13 3 ≡ form → ⊥) → place ≡ 13 → IsBadAt image place
  bad_table : (fault : CodeFault) → HasGoodHead image (most_in image) → (table_code (most_in image)).read (table_part image) 0 ≡ Err fault → place ≡ fault_at image (table_at (side_in image)) fault → IsBadAt image place
  bad_slot : (v : Version) (t : Table) → HasGoodHead image (most_in image) → HasTable image (most_in image) v t → HasBadImage v image t.places place → IsBadAt image place
  ill_formed : (v : Version) (t : Table) (es : List (ℕ × Image)) → HasGoodHead image (most_in image) → HasTable image (most_in image) v t → HasImages v image t.places es → (WellFormed (state_of (most_in image) t es) → ⊥) → place ≡ table_at (side_in image) → IsBadAt image place
  bad_record : (v : Version) (places : List (ℕ × ℕ)) (base : Durable) → HasCheckpoint image v places base → HasBadRecord image base place → IsBadAt image place
