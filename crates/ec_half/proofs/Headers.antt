-- What is read of a header is what stands there.
use Rattle.std.proofs.Common.{Result, Ok, Err, ◌≡◌, ◌+◌, ◌≤◌, ◌<◌, ⊎_elim, refl, ℕ, List, length, Option, None, sym, subst, ◌∙◌, ap, arith}
use Rattle.std.proofs.lemmas.List.{ext_get_or}
use Rattle.std.specs.Int.{w64, from_be_bytes}
use Rattle.ec_disk.specs.Disk.{View, byte, part}
use Rattle.ec_disk.specs.Images.{length-part, byte-part}
use Rattle.ec_half.specs.declared.slots.slot.Slot.{Slot}
use Rattle.ec_half.specs.declared.slots.slot.Slot.TheVariants as slot
use Rattle.ec_half.specs.OfSlots.Slots.{gate_in, number_in, other, place_of}
use Rattle.ec_half.specs.declared.fault.MirrorFault.{MirrorFault}
use Rattle.ec_half.specs.declared.fault.MirrorFault.TheVariants as fault
use Rattle.ec_half.specs.declared.header.Found.{Found}
use Rattle.ec_half.specs.declared.header.Generation.{Generation}
use Rattle.ec_half.specs.Headers.{word, most_generation, ShowsHeader, of_slot, IsNewest, IsFound, IsBad, NoWord, NoGate, TooGreat, IsNoHalf}
use Rattle.ec_base.proofs.Bools.{bool_cases}
use Rattle.ec_base.proofs.Numbers.{none_more}

shown_of : (image : List ℕ) (a b : Option ℕ) (s : Slot) → ShowsHeader image 512 a → ShowsHeader image 1024 b → ShowsHeader image (place_of s) (of_slot a b s)
shown_of image a b slot.First first second = first
shown_of image a b slot.Second first second = second

pub found : (image : List ℕ) (a b : Option ℕ) (g : Generation) → part image 0 8 ≡ word → ShowsHeader image 512 a → ShowsHeader image 1024 b → IsNewest a b g → g.number ≤ most_generation → IsFound image g
found image a b g is first second newest small =
    let here = shown_of image a b g.slot first second in
    let there = shown_of image a b (other g.slot) first second in
    record {
      word_is = is;
      is_open = here.is_open g.number newest.there;
      number_is = here.number_is g.number newest.there;
      other_less = λ opened.
          let less = newest.other_less opened in
          subst (λ (k : ℕ). k ≤ g.number) (sym (there.number_is less.0 less.1)) less.2;
      other_shut = λ shut gate. there.shut (newest.other_shut shut) gate;
      small = small;
    }

-- no gate is open
pub no_gate : (image : List ℕ) (place : ℕ) → place ≡ 512 → part image 0 8 ≡ word → ShowsHeader image 512 None → ShowsHeader image 1024 None → IsBad image place
no_gate image place at is first second = NoGate at is (first.shut refl) (second.shut refl)

pub too_great : (image : List ℕ) (place : ℕ) (a b : Option ℕ) (g : Generation) → place ≡ 1024 → part image 0 8 ≡ word → ShowsHeader image 512 a → ShowsHeader image 1024 b → IsNewest a b g → most_generation < g.number → IsBad image place
too_great image place a b g at is first second newest great =
    let here = shown_of image a b g.slot first second in
    let there = shown_of image a b (other g.slot) first second in
    TooGreat at is g.number record {
      holder = g.slot;
      is_open = here.is_open g.number newest.there;
      number_is = here.number_is g.number newest.there;
      other_less = λ gate. ⊎_elim
          (λ opened.
          let less = newest.other_less opened in
          subst (λ (k : ℕ). k ≤ g.number) (sym (there.number_is less.0 less.1)) less.2)
          (λ shut. absurd (there.shut (newest.other_shut shut) gate))
          (bool_cases g.is_open);
    } great

-- what is read of an image is what stands there
module _ (x : List ℕ) (long : 1033 ≤ length x) where
  abbrev front : List ℕ
  front = part x 0 1033

  front_len : length front ≡ 1033
  front_len = length-part x 0 1033 long

  part_front : (at n : ℕ) → at + n ≤ 1033 → part front at n ≡ part x at n
  part_front at n le =
      ext_get_or 0 (part front at n) (part x at n)
      (length-part front at n (omega (arith, le, front_len)) ∙ sym (length-part x at n (omega (arith, le, long))))
      (λ i lt. each i (omega (arith, lt, length-part front at n (omega (arith, le, front_len)))))
    where
      each : (i : ℕ) → i < n → byte (part front at n) i ≡ byte (part x at n) i
      each i lt = byte-part front at n i lt ∙ byte-part x 0 1033 (at + i) (omega (arith, lt, le)) ∙ ap (λ (k : ℕ). byte x k) (none_more (at + i)) ∙ sym (byte-part x at n i lt)

  byte_front : (at : ℕ) → at < 1033 → byte front at ≡ byte x at
  byte_front at lt = byte-part x 0 1033 at lt ∙ ap (λ (k : ℕ). byte x k) (none_more at)

  gate_front : (s : Slot) → gate_in front s ≡ gate_in x s
  gate_front slot.First = byte_front 512 (omega arith)
  gate_front slot.Second = byte_front 1024 (omega arith)

  number_front : (s : Slot) → number_in front s ≡ number_in x s
  number_front slot.First = ap (λ (l : List ℕ). from_be_bytes w64 l) (part_front 513 8 (omega arith))
  number_front slot.Second = ap (λ (l : List ℕ). from_be_bytes w64 l) (part_front 1025 8 (omega arith))

  word_front : part front 0 8 ≡ part x 0 8
  word_front = part_front 0 8 (omega arith)

  pub found_whole : (g : Generation) → IsFound front g → IsFound x g
  found_whole g is = record {
    word_is = sym word_front ∙ is.word_is;
    is_open = sym (gate_front g.slot) ∙ is.is_open;
    number_is = sym (number_front g.slot) ∙ is.number_is;
    other_less = λ opened. subst (λ (k : ℕ). k ≤ g.number) (number_front (other g.slot)) (is.other_less opened);
    other_shut = λ shut gate. is.other_shut shut (gate_front (other g.slot) ∙ gate);
    small = is.small;
  }

  pub bad_whole : (place : ℕ) → IsBad front place → IsBad x place
  bad_whole place (NoWord at other_word) = NoWord at (λ e. other_word (word_front ∙ e))
  bad_whole place (NoGate at is first second) = NoGate at (sym word_front ∙ is) (λ e. first (gate_front slot.First ∙ e)) (λ e. second (gate_front slot.Second ∙ e))
  bad_whole place (TooGreat at is number has great) = TooGreat at (sym word_front ∙ is) number record {
    holder = has.holder;
    is_open = sym (gate_front has.holder) ∙ has.is_open;
    number_is = sym (number_front has.holder) ∙ has.number_is;
    other_less = λ gate. subst (λ (k : ℕ). k ≤ number) (number_front (other has.holder)) (has.other_less (gate_front (other has.holder) ∙ gate));
  } great

-- what an answer has in it
pub place_is : (a b : ℕ) → ◌≡◌ {A = Result Generation ℕ} (Err a) (Err b) → b ≡ a
place_is a b e = cc

pub generation_of : (a b : Generation) → ◌≡◌ {A = Result Generation ℕ} (Ok a) (Ok b) → a ≡ b
generation_of a b e = cc

pub which_is : (j k a b : ℕ) → ◌≡◌ {A = Result Found MirrorFault} (Err (fault.BadMirror j a)) (Err (fault.BadMirror k b)) → k ≡ j
which_is j k a b e = cc

pub bad_place_is : (j k a b : ℕ) → ◌≡◌ {A = Result Found MirrorFault} (Err (fault.BadMirror j a)) (Err (fault.BadMirror k b)) → a ≡ b
bad_place_is j k a b e = cc

-- what was read of a disk that is longer than a header
module _ (old mid : View) (bytes : List ℕ) (n : ℕ) (is : n ≡ length old.gives) (more : 4096 < n) (same : mid.gives ≡ old.gives) (read : bytes ≡ part mid.gives 0 1033) where
  read_is : bytes ≡ part old.gives 0 1033
  read_is = read ∙ ap (λ (l : List ℕ). part l 0 1033) same

  pub found_read : (g : Generation) → IsFound bytes g → IsFound old.gives g
  found_read g has = found_whole old.gives (omega (arith, is, more)) g (subst (λ (l : List ℕ). IsFound l g) read_is has)

  pub bad_read : (place : ℕ) → IsBad bytes place → IsNoHalf old.gives place
  bad_read place bad = record { long = omega (arith, is, more); bad = bad_whole old.gives (omega (arith, is, more)) place (subst (λ (l : List ℕ). IsBad l place) read_is bad) }
