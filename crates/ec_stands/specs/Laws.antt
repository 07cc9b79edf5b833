-- An image stands for at most one state, and for none where it has a bad place. A checkpoint's layout stands for the state behind its records.
use Rattle.std.specs.Prelude.{◌≡◌, ◌⊎◌, ◌<◌, ◌≤◌, ◌+◌, ◌-◌, ◌^◌, ◌&&◌, ℕ, T, nat_le, List, [], ◌∷◌, ◌++◌, length, take, drop, true, false, Bool, Result, Ok, Err}
use Rattle.std.specs.Int.{w32, to_be_bytes, from_be_bytes}
use Rattle.std.proofs.Common.{inl, inr, ⊎_elim, refl, sym, ◌∙◌, ap, subst, arith, length-append, append_assoc}
use Rattle.std.proofs.lemmas.Bool.{leb-true}
use Rattle.std.proofs.lemmas.List.{append-nil, length-take, length-drop}
use Rattle.std.proofs.lemmas.Nat.{from_be_bytes-to_be_bytes_4}
use Rattle.ec_base.specs.SortedLaws.{first, second}
use Rattle.ec_disk.specs.Disk.{byte, part}
use Rattle.ec_disk.specs.Images.{part-add}
use Rattle.ec_journal.specs.Records.{open_gate, records, Front, HasBodies, RunsPast}
use Rattle.ec_journal.specs.Laws.{part-split, head, fronts, next, bodies-unique, whole-or-past}
use Rattle.ec_volume.specs.declared.image.Image.{Image}
use Rattle.ec_codes.specs.Formats.{Format}
use Rattle.ec_codes.specs.Spelling.{StandsAt}
use Rattle.ec_codes.specs.FormatLaws.{IsFormat, ok_is, then_is}
use Rattle.ec_codes.specs.FieldLaws.{id-is}
use Rattle.ec_codes.specs.ImageLaws.{image-is, old_image-is}
use Rattle.ec_codes.specs.Fields.{id, word}
use Rattle.ec_codes.specs.Images.{image_code, old_image_code}
use Rattle.ec_codes.specs.declared.fault.CodeFault.{CodeFault}
use Rattle.ec_durable.specs.declared.state.Durable.{Durable}
use Rattle.ec_durable.specs.declared.record.Record.{Record}
use Rattle.ec_durable.specs.declared.record.RecordFault.{RecordFault}
use Rattle.ec_durable.specs.Durable.{step}
use Rattle.ec_durable.specs.Codes.{said}
use Rattle.ec_durable.specs.WellFormed.{WellFormed, least_max_objects, most_max_objects}
use Rattle.ec_stands.specs.OfTable.Codes.{table_code, old_table, state_code, described}
use Rattle.ec_stands.specs.OfTable.CodeLaws.{table_is}
use Rattle.ec_stands.specs.declared.table.table.Table.{Table}
use Rattle.ec_stands.specs.declared.table.table.Version.{Version}
use Rattle.ec_stands.specs.declared.table.table.Version.TheVariants.{One, Two}
use Rattle.ec_journal.specs.OfLayout.Places.{journal_at, table_at, slot_at, side_of, journal_bytes, table_bytes, slot_bytes}
use Rattle.ec_journal.specs.OfLayout.Layout.{Layout, Lies, HasSlots}
use Rattle.ec_journal.specs.OfLayout.Head.{first_word, form}
use Rattle.ec_stands.specs.Stands.{side_in, journal_in, most_in, table_part, slot_part, slot_code, HasGoodHead, HasTable, HasImage, HasImages, state_of, HasCheckpoint, StepsTo, StandsFor, IsBadImage, HasBadImage, IsRefused, GoesOn, HasBadRecord, IsBadAt}
use Rattle.ec_stands.specs.Checkpoints.{AreSlotsIn, IsCheckpointIn, IsCheckpoint, AreSpelled, slots_in, IsReadBack, layout_in}
use Rattle.ec_stands.specs.Stands.{no_image, another_image, no_record, no_step, short_head, other_word, other_most, other_form, bad_table, bad_slot, ill_formed, bad_record}

-- What is read is one thing.

said_ok : (r s : Record) → ◌≡◌ {A = Result Record CodeFault} (Ok r) (Ok s) → r ≡ s
said_ok r s e = cc

said_clash : (r : Record) (f : CodeFault) → ◌≡◌ {A = Result Record CodeFault} (Ok r) (Err f) → ⊥
said_clash r f e = cc

step_ok : (d e : Durable) → ◌≡◌ {A = Result Durable RecordFault} (Ok d) (Ok e) → d ≡ e
step_ok d e is = cc

step_clash : (d : Durable) (f : RecordFault) → ◌≡◌ {A = Result Durable RecordFault} (Ok d) (Err f) → ⊥
step_clash d f e = cc

pub read_clash : {A : Type 0} (x : A) (f : CodeFault) → ◌≡◌ {A = Result A CodeFault} (Ok x) (Err f) → ⊥
read_clash x f e = cc

pub one_table : (image : List ℕ) (most : ℕ) (v w : Version) (t u : Table) → HasTable image most v t → HasTable image most w u → (v ≡ w) × (t ≡ u)
one_table image most v w t u one other =
    let e = ok_is ((v, t), one.0) ((w, u), other.0) (sym one.1 ∙ other.1) in
    (ap (λ (x : (Version × Table) × ℕ). x.0.0) e, ap (λ (x : (Version × Table) × ℕ). x.0.1) e)

pub one_image : (v : Version) (image : List ℕ) (p : ℕ × ℕ) (e f : ℕ × Image) → HasImage v image p e → HasImage v image p f → e ≡ f
one_image v image p e f one other = ap (λ (x : (ℕ × Image) × ℕ). x.0) (ok_is (e, one.0) (f, other.0) (sym one.2 ∙ other.2))

pub one_volume : (v : Version) (image : List ℕ) (places : List (ℕ × ℕ)) (es fs : List (ℕ × Image)) → HasImages v image places es → HasImages v image places fs → es ≡ fs
one_volume v image [] [] [] one other = refl
one_volume v image [] [] (f ∷ fs) one other = absurd other
one_volume v image [] (e ∷ es) fs one other = absurd one
one_volume v image (p ∷ places) [] fs one other = absurd one
one_volume v image (p ∷ places) (e ∷ es) [] one other = absurd other
one_volume v image (p ∷ places) (e ∷ es) (f ∷ fs) one other =
    ap (λ (x : ℕ × Image). x ∷ es) (one_image v image p e f one.0 other.0) ∙ ap (λ (xs : List (ℕ × Image)). f ∷ xs) (one_volume v image places es fs one.1 other.1)

pub one_end : (bodies : List (List ℕ)) (d a b : Durable) → StepsTo bodies d a → StepsTo bodies d b → a ≡ b
one_end [] d a b one other = sym one ∙ other
one_end (body ∷ bodies) d a b one other =
    let same : one.0 ≡ other.0 = said_ok one.0 other.0 (sym one.2 ∙ other.2) in
    let mids : one.1 ≡ other.1 = step_ok one.1 other.1 (sym one.3 ∙ ap (λ (r : Record). step r d) same ∙ other.3) in
    one_end bodies one.1 a b one.4 (subst (λ m. StepsTo bodies m b) (sym mids) other.4)

pub steps_split : (before after : List (List ℕ)) (d e : Durable) → StepsTo (before ++ after) d e → (mid : Durable) × StepsTo before d mid × StepsTo after mid e
steps_split [] after d e steps = (d, refl, steps)
steps_split (body ∷ before) after d e steps =
    let rest = steps_split before after steps.1 e steps.4 in
    (rest.0, (steps.0, steps.1, steps.2, steps.3, rest.1), rest.2)

pub steps_join : (before after : List (List ℕ)) (d mid e : Durable) → StepsTo before d mid → StepsTo after mid e → StepsTo (before ++ after) d e
steps_join [] after d mid e one other = subst (λ m. StepsTo after m e) (sym one) other
steps_join (body ∷ before) after d mid e one other = (one.0, one.1, one.2, one.3, steps_join before after one.1 mid e one.4 other)

-- one record more
pub steps_more : (bodies : List (List ℕ)) (body : List ℕ) (r : Record) (d e f : Durable) → StepsTo bodies d e → said body ≡ Ok r → step r e ≡ Ok f → StepsTo (bodies ++ body ∷ []) d f
steps_more bodies body r d e f steps is next_is = steps_join bodies (body ∷ []) d e f steps (r, f, is, next_is, refl)

-- a checkpoint has one state
pub record SameCheckpoint (v w : Version) (places others : List (ℕ × ℕ)) (base base2 : Durable) : Type 0 where
  pub versions : v ≡ w
  pub places_are : places ≡ others
  pub bases : base ≡ base2

state_same : (m n : ℕ) (t u : Table) (es fs : List (ℕ × Image)) → m ≡ n → t ≡ u → es ≡ fs → state_of m t es ≡ state_of n u fs
state_same m n t u es fs p q r = ap (λ (x : ℕ). state_of x t es) p ∙ ap (λ (x : Table). state_of n x es) q ∙ ap (λ (x : List (ℕ × Image)). state_of n u x) r

pub one_checkpoint : (image : List ℕ) (v w : Version) (places others : List (ℕ × ℕ)) (base base2 : Durable) → HasCheckpoint image v places base → HasCheckpoint image w others base2 → SameCheckpoint v w places others base base2
one_checkpoint image v w places others base base2 one other =
    let mosts : base2.max_objects ≡ base.max_objects = sym other.head.most_is ∙ one.head.most_is in
    let tables = one_table image base.max_objects v w (described base places) (described base2 others) one.table (subst (λ m. HasTable image m w (described base2 others)) mosts other.table) in
    let named : places ≡ others = ap (λ (t : Table). t.places) tables.1 in
    let images = one_volume v image places base.volume base2.volume one.images (subst (λ ps. HasImages v image ps base2.volume) (sym named) (subst (λ x. HasImages x image others base2.volume) (sym tables.0) other.images)) in
    record { versions = tables.0; places_are = named; bases = state_same base.max_objects base2.max_objects (described base places) (described base2 others) base.volume base2.volume (sym mosts) tables.1 images }

pub one_state : (image : List ℕ) (a b : Durable) → StandsFor image a → StandsFor image b → a ≡ b
one_state image a b one other =
    let same = one_checkpoint image one.version other.version one.places other.places one.base other.base one.checkpoint other.checkpoint in
    let bodies = bodies-unique image (journal_in image) 2097152 one.bodies other.bodies one.journal other.journal in
    one_end one.bodies one.base a b one.steps (subst (λ d. StepsTo one.bodies d b) (sym same.bases) (subst (λ bs. StepsTo bs other.base b) (sym bodies) other.steps))

-- Bad places.

pub no_bad_image : (v : Version) (image : List ℕ) (places : List (ℕ × ℕ)) (es : List (ℕ × Image)) (place : ℕ) → HasImages v image places es → HasBadImage v image places place → ⊥
no_bad_image v image [] es place has is = is
no_bad_image v image (p ∷ places) [] place has is = has
no_bad_image v image (p ∷ places) (e ∷ es) place has (inl is) = here is
  where
    here : IsBadImage v image p place → ⊥
    here (no_image fault read at) = read_clash (e, has.0.0) fault (sym has.0.2 ∙ read)
    here (another_image f next read other at) =
        let same = ok_is (e, has.0.0) (f, next) (sym has.0.2 ∙ read) in
        other (ap (λ (x : (ℕ × Image) × ℕ). x.0.0) (sym same) ∙ has.0.1)
no_bad_image v image (p ∷ places) (e ∷ es) place has (inr later) = no_bad_image v image places es place has.1 later.2

pub refused_stops : (body : List ℕ) (after : List (List ℕ)) (d e : Durable) → IsRefused body d → StepsTo (body ∷ after) d e → ⊥
refused_stops body after d e (no_record fault read) steps = said_clash steps.0 fault (sym steps.2 ∙ read)
refused_stops body after d e (no_step r fault read refuses) steps =
    step_clash steps.1 fault (sym steps.3 ∙ ap (λ (x : Record). step x d) (said_ok steps.0 r (sym steps.2 ∙ read)) ∙ refuses)

-- where the whole records go on to one, it's among those that the journal has
among : (image : List ℕ) (at size : ℕ) (bodies before : List (List ℕ)) (body : List ℕ) → HasBodies image at size bodies → Front image at (before ++ body ∷ []) → (rest : List (List ℕ)) × (bodies ≡ (before ++ body ∷ []) ++ rest)
among image at size bodies before body has front =
    let both = fronts image at bodies (before ++ body ∷ []) has.front front in
    ⊎_elim (λ is. longer both.0 is) (λ is. (both.0, is)) both.1
  where
    longer : (rest : List (List ℕ)) → before ++ body ∷ [] ≡ bodies ++ rest → (rest : List (List ℕ)) × (bodies ≡ (before ++ body ∷ []) ++ rest)
    longer [] is = ([], sym (is ∙ append-nil bodies) ∙ sym (append-nil (before ++ body ∷ [])))
    longer (y ∷ rest) is = absurd (has.shut (head image (at + length (records bodies)) y rest (next image at bodies y rest (subst (λ l. Front image at l) is front))).gate)

no_bad_record : (image : List ℕ) (base state : Durable) (bodies : List (List ℕ)) (place : ℕ) → HasBodies image (journal_in image) journal_bytes bodies → StepsTo bodies base state → HasBadRecord image base place → ⊥
no_bad_record image base state bodies place has steps is = ⊎_elim refused (λ past. whole-or-past image (journal_in image) 2097152 bodies is.before has past) is.bad
  where
    refused : ((body : List ℕ) × GoesOn image is.before body × IsRefused body is.mid) → ⊥
    refused it =
        let more = among image (journal_in image) 2097152 bodies is.before it.0 has it.1.0 in
        let whole = subst (λ bs. StepsTo bs base state) (more.1 ∙ append_assoc is.before (it.0 ∷ []) more.0) steps in
        let parts = steps_split is.before (it.0 ∷ more.0) base state whole in
        refused_stops it.0 more.0 is.mid state it.2 (subst (λ d. StepsTo (it.0 ∷ more.0) d state) (one_end is.before base parts.0 is.mid parts.1 is.steps) parts.2)

pub not_both : (image : List ℕ) (state : Durable) (place : ℕ) → StandsFor image state → IsBadAt image place → ⊥
not_both image state place stands (short_head lt at) = omega (arith, lt, stands.checkpoint.head.long)
not_both image state place stands (other_word long other at) = other stands.checkpoint.head.word
not_both image state place stands (other_most long word out at) =
    let h = stands.checkpoint.head in
    out (subst (λ m. least_max_objects ≤ m) (sym h.most_is) h.least) (subst (λ m. m ≤ most_max_objects) (sym h.most_is) h.limit)
not_both image state place stands (other_form long word least limit other at) = other stands.checkpoint.head.form_is
not_both image state place stands (bad_table fault h read at) =
    let c = stands.checkpoint in
    let has = subst (λ m. HasTable image m stands.version (described stands.base stands.places)) (sym c.head.most_is) c.table in
    read_clash ((stands.version, described stands.base stands.places), has.0) fault (sym has.1 ∙ read)
not_both image state place stands (bad_slot v t h table is) =
    let c = stands.checkpoint in
    let same = one_table image (most_in image) stands.version v (described stands.base stands.places) t (subst (λ m. HasTable image m stands.version (described stands.base stands.places)) (sym c.head.most_is) c.table) table in
    no_bad_image stands.version image stands.places stands.base.volume place c.images
    (subst (λ x. HasBadImage x image stands.places place) (sym same.0) (subst (λ (u : Table). HasBadImage v image u.places place) (sym same.1) is))
not_both image state place stands (ill_formed v t es h table images ill at) =
    let c = stands.checkpoint in
    let same = one_table image (most_in image) stands.version v (described stands.base stands.places) t (subst (λ m. HasTable image m stands.version (described stands.base stands.places)) (sym c.head.most_is) c.table) table in
    let volumes = one_volume stands.version image stands.places stands.base.volume es c.images
    (subst (λ x. HasImages x image stands.places es) (sym same.0) (subst (λ (u : Table). HasImages v image u.places es) (sym same.1) images)) in
    ill (subst WellFormed (state_same stands.base.max_objects (most_in image) (described stands.base stands.places) t stands.base.volume es (sym c.head.most_is) same.1 volumes) c.formed)
not_both image state place stands (bad_record v places base c is) =
    let same = one_checkpoint image stands.version v stands.places places stands.base base stands.checkpoint c in
    no_bad_record image base state stands.bodies place stands.journal (subst (λ d. StepsTo stands.bodies d state) same.bases stands.steps) is

-- A checkpoint's layout.

pub slot_is : (v : Version) → IsFormat (slot_code v)
slot_is One = then_is id (λ o. old_image_code) id-is (λ o. old_image-is)
slot_is Two = then_is id (λ o. image_code) id-is (λ o. image-is)

-- a part that begins with these bytes
stands_in : (image : List ℕ) (at n : ℕ) (xs : List ℕ) → length xs ≤ n → part image at (length xs) ≡ xs → StandsAt (part image at n) 0 xs
stands_in image at n xs le is =
    let whole : length xs + (n - length xs) ≡ n = omega arith in (
      part image (at + length xs) (n - length xs),
      ap (λ (k : ℕ). part image at k) (sym whole) ∙ part-add image at (length xs) (n - length xs) ∙ ap (λ (ys : List ℕ). ys ++ part image (at + length xs) (n - length xs)) is,
    )

have_images : (v : Version) (image : List ℕ) (slots : List (ℕ × List ℕ)) (places : List (ℕ × ℕ)) (es : List (ℕ × Image)) → HasSlots image slots → AreSlotsIn v slots places es → HasImages v image places es
have_images v image [] [] [] has are = tt
have_images v image [] [] (e ∷ es) has are = absurd are
have_images v image [] (p ∷ places) es has are = absurd are
have_images v image (s ∷ slots) [] es has are = absurd are
have_images v image (s ∷ slots) (p ∷ places) [] has are = absurd are
have_images v image (s ∷ slots) (p ∷ places) (e ∷ es) has are =
    let number : s.0 ≡ p.1 = ap (λ (x : ℕ × List ℕ). x.0) are.0 in
    let bytes : s.1 ≡ (slot_code v).spell e = ap (λ (x : ℕ × List ℕ). x.1) are.0 in
    let at = subst (λ xs. StandsAt (slot_part image p.1) 0 xs) bytes (subst (λ k. StandsAt (slot_part image k) 0 s.1) number (stands_in image (slot_at s.0) 65600 s.1 has.0 has.2)) in
    ((0 + length ((slot_code v).spell e), are.1, (slot_is v).again (slot_part image p.1) 0 e are.2 at), have_images v image slots places es has.3 are.3)

-- an image with this layout has the checkpoint
pub lies_checkpoint : (v : Version) (image : List ℕ) (l : Layout) (base : Durable) (places : List (ℕ × ℕ)) → Lies image l → IsCheckpointIn v l base places → HasCheckpoint image v places base
lies_checkpoint v image l base places lies is =
    let m = base.max_objects in
    let least : 32 ≤ m = leb-true 32 m (told (nat_le 32 m) (first (nat_le 32 m) (nat_le m 1024) is.formed.order.most)) in
    let limit : m ≤ 1024 = leb-true m 1024 (told (nat_le m 1024) (second (nat_le 32 m) (nat_le m 1024) is.formed.order.most)) in
    let whole : part image 0 (8 + 4) ≡ first_word ++ to_be_bytes w32 m = lies.front_is ∙ is.front_is in
    let both = part-split image 0 8 4 first_word (to_be_bytes w32 m) refl whole in
    let spelled = (table_code m).spell (v, described base places) in
    let at = subst (λ xs. StandsAt (table_part image) 0 xs) is.table_is (subst (λ s. StandsAt (part image (table_at s) 65536) 0 l.table) (sym lies.side_is) (stands_in image (table_at l.side) 65536 l.table lies.has_side.small lies.has_side.table_is)) in
    record {
      head = record {
        long = omega (arith, lies.has_side.inside);
        word = both.0;
        most_is = ap (λ (x : List ℕ). from_be_bytes w32 x) both.1 ∙ from_be_bytes-to_be_bytes_4 m (omega (arith, limit));
        least = least;
        limit = limit;
        form_is = lies.back_is ∙ is.back_is;
      };
      table = (0 + length spelled, (table_is m).again (table_part image) 0 (v, described base places) is.table_fits at);
      images = have_images v image l.slots places base.volume lies.has_slots is.slots_are;
      formed = is.formed;
    }
  where
    told : (b : Bool) → T b → b ≡ true
    told true h = refl
    told false h = absurd h

pub lies_stands_in : (v : Version) (image : List ℕ) (l : Layout) (base state : Durable) (places : List (ℕ × ℕ)) → Lies image l → IsCheckpointIn v l base places → StepsTo l.bodies base state → StandsFor image state
lies_stands_in v image l base state places lies is steps = record {
  version = v;
  places = places;
  base = base;
  checkpoint = lies_checkpoint v image l base places lies is;
  bodies = l.bodies;
  journal = subst (λ s. HasBodies image (journal_at s) 2097152 l.bodies) (sym lies.side_is) lies.has_side.journal;
  steps = steps;
}

pub lies_stands : (image : List ℕ) (l : Layout) (base state : Durable) (places : List (ℕ × ℕ)) → Lies image l → IsCheckpoint l base places → StepsTo l.bodies base state → StandsFor image state
lies_stands image l base state places lies is steps = lies_stands_in Two image l base state places lies is steps

-- The layout of what is read back.

-- bytes at the beginning of a part stand there in the image
stands_part : (image : List ℕ) (at n : ℕ) (xs : List ℕ) → 0 < length xs → StandsAt (part image at n) 0 xs → (length xs ≤ n) × (at + length xs ≤ length image) × (part image at (length xs) ≡ xs)
stands_part image at n xs some is =
    let len : length (part image at n) ≡ length xs + length is.0 = ap length is.1 ∙ length-append xs is.0 in
    let small : length xs ≤ n = omega (arith, len, length-take n (drop at image)) in
    let inside : at + length xs ≤ length image = omega (arith, some, len, length-take n (drop at image), length-drop at image) in
    let whole : length xs + (n - length xs) ≡ n = omega (arith, small) in
    (small, inside, (part-split image at (length xs) (n - length xs) xs is.0 refl (ap (λ (k : ℕ). part image at k) whole ∙ is.1)).0)

-- each spelling has a byte
slot_some : (v : Version) (e : ℕ × Image) → 0 < length ((slot_code v).spell e)
unfolding id
slot_some One e = omega (arith, length-append (id.spell e.0) (old_image_code.spell e.1))
slot_some Two e = omega (arith, length-append (id.spell e.0) (image_code.spell e.1))

table_some : (most : ℕ) (v : Version) (t : Table) → 0 < length ((table_code most).spell (v, t))
unfolding table_code old_table word
table_some most One t = omega (arith, length-append (word.spell (length ((state_code most).spell t))) ((state_code most).spell t))
table_some most Two t = omega arith

spelled_slots : (v : Version) (image : List ℕ) (places : List (ℕ × ℕ)) (es : List (ℕ × Image)) → AreSpelled v image places es → HasSlots image (slots_in v places es) × AreSlotsIn v (slots_in v places es) places es
spelled_slots v image [] [] are = (tt, tt)
spelled_slots v image [] (e ∷ es) are = absurd are
spelled_slots v image (p ∷ places) [] are = absurd are
spelled_slots v image (p ∷ places) (e ∷ es) are =
    let here = stands_part image (slot_at p.1) 65600 ((slot_code v).spell e) (slot_some v e) are.0.2 in
    let later = spelled_slots v image places es are.1 in
    ((here.0, here.1, here.2, later.0), (refl, are.0.0, are.0.1, later.1))

-- the image has this layout, and it is that of the state's checkpoint
pub read_back_lies : (image : List ℕ) (v : Version) (places : List (ℕ × ℕ)) (base : Durable) (bodies : List (List ℕ)) → IsReadBack image v places base bodies
    → Lies image (layout_in image v places base bodies) × IsCheckpointIn v (layout_in image v places base bodies) base places
read_back_lies image v places base bodies is =
    let table = (table_code base.max_objects).spell (v, described base places) in
    let at_table = stands_part image (table_at (side_in image)) 65536 table (table_some base.max_objects v (described base places)) is.table_stands in
    let slots = spelled_slots v image places base.volume is.images in (
      record {
        front_is = part-add image 0 8 4 ∙ ap (λ (xs : List ℕ). xs ++ part image 8 4) is.head.word ∙ ap (λ (xs : List ℕ). first_word ++ xs) is.most_stands;
        side_is = refl;
        back_is = is.head.form_is;
        has_side = record { small = at_table.0; inside = at_table.1; table_is = at_table.2; journal = is.journal };
        has_slots = slots.0;
      },
      record { front_is = refl; back_is = refl; table_is = refl; table_fits = is.table_fits; slots_are = slots.1; formed = is.formed },
    )

-- the table that is read back ends behind the journal
pub behind_journal : (image : List ℕ) (most : ℕ) (v : Version) (t : Table) → StandsAt (table_part image) 0 ((table_code most).spell (v, t)) → journal_in image + 2097152 ≤ length image
behind_journal image most v t is = omega (arith, (stands_part image (table_at (side_in image)) 65536 ((table_code most).spell (v, t)) (table_some most v t) is).1)
