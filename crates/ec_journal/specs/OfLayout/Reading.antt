-- What the first 16 bytes of a disk tell.
use Rattle.std.specs.Prelude.{◌≡◌, ◌≢◌, ◌<◌, ◌+◌, ◌^◌, ◌++◌, ◌∷◌, [], ℕ, List, Bool, true, false}
use Rattle.std.specs.Int.{w32, to_be_bytes, from_be_bytes}
use Rattle.std.proofs.Common.{◌∙◌, ap, refl, arith}
use Rattle.std.proofs.lemmas.Nat.{from_be_bytes-to_be_bytes_4}
use Rattle.ec_disk.specs.Disk.{byte, part}
use Rattle.ec_disk.specs.Images.{byte-part}
use Rattle.ec_journal.specs.Laws.{part-split}
use Rattle.ec_journal.specs.declared.layout.reading.Head.{Head}
use Rattle.ec_journal.specs.OfLayout.Places.{side_of}
use Rattle.ec_journal.specs.OfLayout.Layout.{Layout, Lies}
use Rattle.ec_journal.specs.OfLayout.Head.{first_word, form}

-- the head of an image
pub record IsHead (image : List ℕ) (head : Head) : Type 0 where
  pub word : head.has_first_word ≡ true → part image 0 8 ≡ first_word
  pub other_word : head.has_first_word ≡ false → part image 0 8 ≢ first_word
  pub most : head.max_objects ≡ from_be_bytes w32 (part image 8 4)
  pub side_is : head.side ≡ side_of (byte image 12)
  pub form_is : head.has_form ≡ true → part image 13 3 ≡ form
  pub other_form : head.has_form ≡ false → part image 13 3 ≢ form

-- a layout with the first word, this many objects at most, and the form
pub record HasHead (objects : ℕ) (l : Layout) : Type 0 where
  pub front_is : l.front ≡ first_word ++ to_be_bytes w32 objects
  pub back_is : l.back ≡ form

pub record TellsHead (objects : ℕ) (l : Layout) (head : Head) : Type 0 where
  pub word : head.has_first_word ≡ true
  pub most : head.max_objects ≡ objects
  pub side_is : head.side ≡ l.side
  pub form_is : head.has_form ≡ true

-- where a layout lies, its head is read
pub head_tells : (image : List ℕ) (l : Layout) (objects : ℕ) (head : Head) → objects < 2 ^ 32 → Lies image l → HasHead objects l → IsHead image head → TellsHead objects l head
head_tells image l objects head small lies has is =
    let whole : part image 0 (8 + 4) ≡ first_word ++ to_be_bytes w32 objects = lies.front_is ∙ has.front_is in
    let both = part-split image 0 8 4 first_word (to_be_bytes w32 objects) refl whole in
    record {
      word = either head.has_first_word (λ no. absurd (is.other_word no both.0));
      most = is.most ∙ ap (λ (x : List ℕ). from_be_bytes w32 x) both.1 ∙ from_be_bytes-to_be_bytes_4 objects small;
      side_is = is.side_is ∙ lies.side_is;
      form_is = either head.has_form (λ no. absurd (is.other_form no (lies.back_is ∙ has.back_is)));
    }
  where
    either : (b : Bool) → (b ≡ false → b ≡ true) → b ≡ true
    either true other = refl
    either false other = other refl

-- a number of four bytes, byte by byte
pub number_of_four : (image : List ℕ) (at : ℕ) → from_be_bytes w32 (byte image at ∷ byte image (at + 1) ∷ byte image (at + 2) ∷ byte image (at + 3) ∷ []) ≡ from_be_bytes w32 (part image at 4)
number_of_four image at = omega (arith, zeroth, byte-part image at 4 1 (omega arith), byte-part image at 4 2 (omega arith), byte-part image at 4 3 (omega arith))
  where
    none : (n : ℕ) → n + 0 ≡ n
    none n = omega arith

    zeroth : byte (part image at 4) 0 ≡ byte image at
    zeroth = byte-part image at 4 0 (omega arith) ∙ ap (λ (k : ℕ). byte image k) (none at)
