-- Parts of images that are read, and objects that are read one by one.
use Rattle.std.proofs.Common.{◌≡◌, ℕ, zero, suc, ◌+◌, ◌-◌, ◌<◌, ◌≤◌, true, List, [], ◌∷◌, ◌++◌, length, get_or, take, drop, refl, sym, ap, subst, ◌∙◌, arith, inl, inr}
use Rattle.std.specs.Prelude.{min}
use Rattle.std.specs.Int.{w32, from_be_bytes}
use Rattle.std.specs.List.{list_all}
use Rattle.std.proofs.lemmas.Bool.{cases_lt, and_parts, and_from}
use Rattle.std.proofs.lemmas.List.{take_all, take_more, take-take, drop-take, length-drop, length-take}
use Rattle.ec_base.specs.Tables.{keys}
use Rattle.ec_disk.specs.Disk.{part}
use Rattle.ec_disk.specs.Images.{byte-part}
use Rattle.ec_volume.specs.declared.image.Image.{Image}
use Rattle.ec_codes.specs.declared.fault.CodeFault.{CodeFault}
use Rattle.ec_codes.specs.declared.fault.CodeFault.TheVariants.{Short, Field, NoMemory}
use Rattle.ec_codes.specs.SoundImages.{is_sound_image}
use Rattle.ec_stands.specs.OfTable.Codes.{ids_in}
use Rattle.ec_stands.specs.declared.table.table.Version.{Version}
use Rattle.ec_journal.specs.declared.layout.reading.Head.{Head}
use Rattle.ec_journal.specs.OfLayout.Reading.{IsHead}
use Rattle.ec_journal.specs.OfLayout.Places.{side_of}
use Rattle.ec_stands.specs.Stands.{slot_code, slot_part, HasImage, IsBadImage, HasBadImage, fault_at}
use Rattle.ec_stands.specs.Checkpoints.{IsSpelled, AreSpelled}
use Rattle.ec_stands.specs.Laws.{slot_is}
use Rattle.ec_store.specs.Reading.{place_of}

-- Parts.

none_of : (xs : List ℕ) → length xs ≡ 0 → xs ≡ []
none_of [] h = refl
none_of (x ∷ xs) h = absurd (omega (arith, h))

pub past_part : (image : List ℕ) (at size : ℕ) → length image ≤ at → part image at size ≡ []
past_part image at size le = none_of (part image at size) (omega (arith, length-take size (drop at image), length-drop at image, le))

pub short_part : (image : List ℕ) (at size : ℕ) → part image at (min size (length image - at)) ≡ part image at size
short_part image at size = elim (cases_lt size (length image - at)) [
  | inl lt ↦ ap (λ (n : ℕ). part image at n) (omega (arith, lt))
  | inr le ↦
      ap (λ (n : ℕ). part image at n) (omega (arith, le))
      ∙ take_all (length image - at) (drop at image) (omega (arith, length-drop at image))
      ∙ sym (take_all size (drop at image) (omega (arith, length-drop at image, le)))
]

-- The head.

pub head_in : (image bytes : List ℕ) (head : Head) → bytes ≡ part image 0 16 → IsHead bytes head → IsHead image head
head_in image bytes head is read =
    let h = subst (λ bs. IsHead bs head) is read in
    record {
      word = λ t. sym word ∙ h.word t;
      other_word = λ t w. h.other_word t (word ∙ w);
      most = h.most ∙ ap (λ (x : List ℕ). from_be_bytes w32 x) most;
      side_is = h.side_is ∙ ap side_of (byte-part image 0 16 12 (omega arith));
      form_is = λ t. sym back ∙ h.form_is t;
      other_form = λ t w. h.other_form t (back ∙ w);
    }
  where
    word : part (part image 0 16) 0 8 ≡ part image 0 8
    word = take-take 8 16 image (omega arith)

    most : part (part image 0 16) 8 4 ≡ part image 8 4
    most = ap (λ (l : List ℕ). take 4 l) (drop-take 8 8 image) ∙ take-take 4 8 (drop 8 image) (omega arith)

    back : part (part image 0 16) 13 3 ≡ part image 13 3
    back = ap (λ (l : List ℕ). take 3 l) (drop-take 13 3 image) ∙ take-take 3 3 (drop 13 image) (omega arith)

-- Faults.

pub place_is : (image : List ℕ) (len at : ℕ) (f : CodeFault) → len ≡ length image → place_of len at f ≡ fault_at image at f
place_is image len at (Short p) is = ap (λ (n : ℕ). min n (at + p)) is
place_is image len at (Field p) is = refl
place_is image len at NoMemory is = refl

-- Objects.

pub has_image : (v : Version) (image : List ℕ) (p : ℕ × ℕ) (e : ℕ × Image) → IsSpelled v image p e → HasImage v image p e
has_image v image p e is = (0 + length ((slot_code v).spell e), is.0, (slot_is v).again (slot_part image p.1) 0 e is.1 is.2)

spelled_push : (v : Version) (image : List ℕ) (places : List (ℕ × ℕ)) (es : List (ℕ × Image)) (p : ℕ × ℕ) (e : ℕ × Image) → AreSpelled v image places es → IsSpelled v image p e → AreSpelled v image (places ++ p ∷ []) (es ++ e ∷ [])
spelled_push v image [] [] p e are is = (is, tt)
spelled_push v image [] (f ∷ es) p e are is = absurd are
spelled_push v image (q ∷ places) [] p e are is = absurd are
spelled_push v image (q ∷ places) (f ∷ es) p e are is = (are.0, spelled_push v image places es p e are.1 is)

pub spelled_more : (v : Version) (image : List ℕ) (places : List (ℕ × ℕ)) (i : ℕ) (x : ℕ × ℕ) (old new : List (ℕ × Image)) (e : ℕ × Image) → i < length places → x ≡ get_or places i x → new ≡ old ++ e ∷ []
    → AreSpelled v image (take i places) old → IsSpelled v image x e → AreSpelled v image (take (i + 1) places) new
spelled_more v image places i x old new e lt is made are spelled =
    subst (AreSpelled v image (take (i + 1) places)) (sym made)
    (subst (λ ps. AreSpelled v image ps (old ++ e ∷ [])) (ap (λ (y : ℕ × ℕ). take i places ++ y ∷ []) is ∙ sym (take_more places i x lt)) (spelled_push v image (take i places) old x e are spelled))

keys_push : {A : Type 0} (xs : List (ℕ × A)) (x : ℕ × A) → keys (xs ++ x ∷ []) ≡ keys xs ++ x.0 ∷ []
keys_push [] x = refl
keys_push (y ∷ xs) x = ap (λ (l : List ℕ). y.0 ∷ l) (keys_push xs x)

pub ids_more : (places : List (ℕ × ℕ)) (i : ℕ) (x : ℕ × ℕ) (old new : List (ℕ × Image)) (e : ℕ × Image) → i < length places → x ≡ get_or places i x → new ≡ old ++ e ∷ []
    → keys old ≡ ids_in (take i places) → e.0 ≡ x.0 → keys new ≡ ids_in (take (i + 1) places)
ids_more places i x old new e lt is made so_far same =
    ap (λ (l : List (ℕ × Image)). keys l) made ∙ keys_push old e
    ∙ ap (λ (l : List ℕ). l ++ e.0 ∷ []) so_far
    ∙ ap (λ (n : ℕ). ids_in (take i places) ++ n ∷ []) same
    ∙ sym (keys_push (take i places) x)
    ∙ ap (λ (l : List (ℕ × ℕ)). ids_in l) (ap (λ (y : ℕ × ℕ). take i places ++ y ∷ []) is ∙ sym (take_more places i x lt))

pub bad_at : (v : Version) (image : List ℕ) (places : List (ℕ × ℕ)) (i : ℕ) (x : ℕ × ℕ) (es : List (ℕ × Image)) (place : ℕ) → i < length places → x ≡ get_or places i x → AreSpelled v image (take i places) es → IsBadImage v image x place → HasBadImage v image places place
bad_at v image [] i x es place lt is are bad = absurd (omega (arith, lt))
bad_at v image (p ∷ places) zero x es place lt is are bad = inl (subst (λ y. IsBadImage v image y place) is bad)
bad_at v image (p ∷ places) (suc i) x [] place lt is are bad = absurd are
bad_at v image (p ∷ places) (suc i) x (e ∷ es) place lt is are bad = inr (e, has_image v image p e are.0, bad_at v image places i x es place (omega (arith, lt)) is are.1 bad)

sound_push : (es : List (ℕ × Image)) (e : ℕ × Image) → list_all (λ x. is_sound_image x.1) es ≡ true → is_sound_image e.1 ≡ true → list_all (λ x. is_sound_image x.1) (es ++ e ∷ []) ≡ true
sound_push [] e all one = and_from (is_sound_image e.1) true one refl
sound_push (x ∷ es) e all one =
    let parts = and_parts (is_sound_image x.1) (list_all (λ y. is_sound_image y.1) es) all in
    and_from (is_sound_image x.1) (list_all (λ y. is_sound_image y.1) (es ++ e ∷ [])) parts.0 (sound_push es e parts.1 one)

pub sound_more : (old new : List (ℕ × Image)) (e : ℕ × Image) → new ≡ old ++ e ∷ [] → list_all (λ x. is_sound_image x.1) old ≡ true → is_sound_image e.1 ≡ true → list_all (λ x. is_sound_image x.1) new ≡ true
sound_more old new e made all one = ap (λ (l : List (ℕ × Image)). list_all (λ x. is_sound_image x.1) l) made ∙ sound_push old e all one
