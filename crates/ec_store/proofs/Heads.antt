-- What a head, and what a slot shows.
use Rattle.std.proofs.Common.{◌≡◌, ◌⊎◌, ℕ, ◌+◌, ◌<◌, ◌≤◌, true, false, List, length, get_or, take, drop, Result, Ok, Err, refl, sym, ap, subst, ◌∙◌, arith, inl, inr, ⊎_elim}
use Rattle.std.specs.Int.{w32, to_be_bytes}
use Rattle.std.proofs.lemmas.Bool.{cases_lt}
use Rattle.std.proofs.lemmas.Nat.{be_bytes_4}
use Rattle.std.proofs.lemmas.List.{length-drop, length-take, drop-take, take-take, get_or_past}
use Rattle.ec_disk.specs.Disk.{part}
use Rattle.ec_disk.specs.Images.{byte-part}
use Rattle.ec_volume.specs.declared.image.Image.{Image}
use Rattle.ec_codes.specs.Formats.{Read}
use Rattle.ec_codes.specs.Spelling.{Spells, StandsAt, Fails}
use Rattle.ec_codes.specs.declared.fault.CodeFault.{CodeFault}
use Rattle.ec_codes.specs.declared.fault.CodeFault.TheVariants.{Short, Field, NoMemory}
use Rattle.ec_stands.specs.declared.table.table.Version.{Version}
use Rattle.ec_journal.specs.declared.layout.reading.Head.{Head}
use Rattle.ec_journal.specs.OfLayout.Reading.{IsHead}
use Rattle.ec_journal.specs.OfLayout.Places.{slot_at}
use Rattle.ec_stands.specs.Stands.{slot_code, slot_part, side_in, HasGoodHead, IsBadImage, IsBadAt}
use Rattle.ec_stands.specs.Checkpoints.{IsSpelled}
use Rattle.ec_stands.specs.Stands.{short_head, other_word, other_most, other_form, no_image, another_image}
use Rattle.ec_store.specs.Reading.{place_of}
use Rattle.ec_store.specs.declared.fault.StoreFault.{StoreFault}
use Rattle.ec_store.specs.declared.fault.StoreFault.TheVariants.{BadDisk}
use Rattle.ec_store.proofs.Parts.{head_in, place_is}

pub same_fault : {T : Type 0} (a b : StoreFault) → ◌≡◌ {A = Result T StoreFault} (Err a) (Err b) → a ≡ b
same_fault a b e = cc

pub same_place : {T : Type 0} (a b : ℕ) → ◌≡◌ {A = Result T StoreFault} (Err (BadDisk a)) (Err (BadDisk b)) → b ≡ a
same_place a b e = cc

-- a part of a part of bytes
four_of : (bytes : List ℕ) → length bytes ≡ 16 → length (part bytes 8 4) ≡ 4
four_of bytes long = omega (arith, length-take 4 (drop 8 bytes), length-drop 8 bytes, long)

module _ (image : List ℕ) (len : ℕ) (len_is : len ≡ length image) where
  pub short_bad : (p : ℕ) → len < 16 → ◌≡◌ {A = Result Head StoreFault} (Err (BadDisk 0)) (Err (BadDisk p)) → IsBadAt image p
  short_bad p lt same = short_head (omega (arith, len_is, lt)) (same_place 0 p same)

  module _ (long : 16 ≤ len) (bytes : List ℕ) (head : Head) (is : bytes ≡ part image 0 16) (read : IsHead bytes head) where
    h : IsHead image head
    h = head_in image bytes head is read

    inside : 16 ≤ length image
    inside = omega (arith, len_is, long)

    pub word_bad : (p : ℕ) → head.has_first_word ≡ false → ◌≡◌ {A = Result Head StoreFault} (Err (BadDisk 0)) (Err (BadDisk p)) → IsBadAt image p
    word_bad p off same = other_word inside (h.other_word off) (same_place 0 p same)

    pub most_bad : (p : ℕ) → head.has_first_word ≡ true → (head.max_objects < 32) ⊎ (1024 < head.max_objects) → ◌≡◌ {A = Result Head StoreFault} (Err (BadDisk 8)) (Err (BadDisk p)) → IsBadAt image p
    most_bad p word out same =
        other_most inside (h.word word) (λ least limit. ⊎_elim (λ lt. absurd (omega (arith, h.most, least, lt))) (λ gt. absurd (omega (arith, h.most, limit, gt))) out) (same_place 8 p same)

    pub form_bad : (p : ℕ) → head.has_first_word ≡ true → 32 ≤ head.max_objects → head.max_objects ≤ 1024 → head.has_form ≡ false → ◌≡◌ {A = Result Head StoreFault} (Err (BadDisk 13)) (Err (BadDisk p)) → IsBadAt image p
    form_bad p word least limit off same = other_form inside (h.word word) (omega (arith, h.most, least)) (omega (arith, h.most, limit)) (h.other_form off) (same_place 13 p same)

    pub good_head : head.has_first_word ≡ true → 32 ≤ head.max_objects → head.max_objects ≤ 1024 → head.has_form ≡ true → HasGoodHead image head.max_objects
    good_head word least limit form = record { long = inside; word = h.word word; most_is = sym h.most; least = least; limit = limit; form_is = h.form_is form }

    pub most_stands : part bytes 8 4 ≡ to_be_bytes w32 head.max_objects → part image 8 4 ≡ to_be_bytes w32 head.max_objects
    most_stands spelled = sym most_part ∙ ap (λ (b : List ℕ). part b 8 4) (sym is) ∙ spelled
      where
        most_part : part (part image 0 16) 8 4 ≡ part image 8 4
        most_part = ap (λ (l : List ℕ). take 4 l) (drop-take 8 8 image) ∙ take-take 4 8 (drop 8 image) (omega arith)

    pub side_stands : head.side ≡ side_in image
    side_stands = h.side_is

-- the number of a head is spelled in it
pub most_spelled : (bytes : List ℕ) (head : Head) → length bytes ≡ 16 → ((i : ℕ) → get_or bytes i 0 < 256) → IsHead bytes head → part bytes 8 4 ≡ to_be_bytes w32 head.max_objects
most_spelled bytes head size small read = sym (be_bytes_4 (part bytes 8 4) head.max_objects (four_of bytes size) small_part read.most)
  where
    small_part : (i : ℕ) → get_or (part bytes 8 4) i 0 < 256
    small_part i = elim (cases_lt i 4) [
      | inl lt ↦ subst (λ b. b < 256) (sym (byte-part bytes 8 4 i lt)) (small (8 + i))
      | inr past ↦ subst (λ b. b < 256) (sym (get_or_past (part bytes 8 4) i 0 (omega (arith, four_of bytes size, past)))) (omega arith)
    ]

-- Faults of codes.

pub fails_read : {A : Type 0} (f : CodeFault) (r : Read A) → (f ≡ NoMemory → ⊥) → Fails f r → r ≡ Err f
fails_read NoMemory r other h = absurd (other refl)
fails_read (Short p) r other h = h
fails_read (Field p) r other h = h

-- A slot.

module _ (v : Version) (image bytes : List ℕ) (p : ℕ × ℕ) (is : bytes ≡ slot_part image p.1) where
  pub object_spelled : (e : ℕ × Image) (next : ℕ) → Spells (slot_code v) bytes 0 e next → e.0 ≡ p.0 → IsSpelled v image p e
  object_spelled e next spells same = (same, spells.fits, subst (λ b. StandsAt b 0 ((slot_code v).spell e)) is spells.stands)

  pub another_bad : (e : ℕ × Image) (next place : ℕ) → (slot_code v).read bytes 0 ≡ Ok (e, next) → (e.0 ≡ p.0 → ⊥) → place ≡ slot_at p.1 → IsBadImage v image p place
  another_bad e next place read other at = another_image e next (ap (λ (b : List ℕ). (slot_code v).read b 0) (sym is) ∙ read) other at

  pub no_object : (len place : ℕ) (f : CodeFault) → len ≡ length image → (f ≡ NoMemory → ⊥) → Fails f ((slot_code v).read bytes 0) → place ≡ place_of len (slot_at p.1) f → IsBadImage v image p place
  no_object len place f len_is other fails at =
      no_image f (ap (λ (b : List ℕ). (slot_code v).read b 0) (sym is) ∙ fails_read f ((slot_code v).read bytes 0) other fails) (at ∙ place_is image len (slot_at p.1) f len_is)
