-- What is read of an image, and what a store holds then.
use Rattle.std.proofs.Common.{◌≡◌, ℕ, ◌+◌, ◌<◌, ◌≤◌, Bool, true, false, cond, List, [], ◌∷◌, ◌++◌, length, Option, None, Some, Err, refl, sym, ap, subst, ◌∙◌, arith, inl, inr, append_assoc, length-append}
use Rattle.std.specs.Prelude.{unwrap_or}
use Rattle.std.specs.Int.{w32, to_be_bytes}
use Rattle.ec_base.specs.Tables.{at}
use Rattle.ec_disk.specs.Disk.{View, part}
use Rattle.ec_disk.specs.Effects.{IsSynced}
use Rattle.ec_volume.specs.Update.{member}
use Rattle.ec_volume.specs.Volume.{images}
use Rattle.ec_volume.specs.declared.image.Image.{Image}
use Rattle.ec_volume.specs.declared.image.Image.TheVariants.{Gone}
use Rattle.ec_volume.proofs.Held.{images_find}
use Rattle.ec_codes.specs.Spelling.{StandsAt}
use Rattle.ec_codes.specs.declared.fault.CodeFault.{CodeFault}
use Rattle.ec_durable.specs.declared.state.Durable.{Durable}
use Rattle.ec_durable.specs.WellFormed.{WellFormed}
use Rattle.ec_journal.specs.Records.{records, Front, HasBodies, RunsPast}
use Rattle.ec_journal.specs.Laws.{records-append}
use Rattle.ec_journal.specs.Journal.{IsFound}
use Rattle.ec_journal.specs.declared.read.Found.{Found}
use Rattle.ec_stands.specs.OfTable.Codes.{table_code, described, numbers_in}
use Rattle.ec_stands.specs.OfTable.CodeLaws.{table_is}
use Rattle.ec_stands.specs.declared.table.table.Table.{Table}
use Rattle.ec_stands.specs.declared.table.table.Version.{Version}
use Rattle.ec_stands.specs.declared.table.table.Version.TheVariants.{Two}
use Rattle.ec_journal.specs.OfLayout.Places.{journal_at, table_at}
use Rattle.ec_journal.specs.OfLayout.Layout.{Lies, IsFree, IsAmong}
use Rattle.ec_journal.specs.OfLayout.Selected.{IsSelected, IsOn}
use Rattle.ec_journal.specs.declared.layout.side.Side.{Side}
use Rattle.ec_journal.specs.declared.layout.selected.Selected.{Selected}
use Rattle.ec_stands.specs.Stands.{side_in, journal_in, most_in, table_part, slot_code, HasGoodHead, HasTable, HasImages, HasBadImage, state_of, HasCheckpoint, StepsTo, StandsFor, IsBadAt, fault_at}
use Rattle.ec_stands.specs.Checkpoints.{AreSlotsIn, AreSpelled, IsReadBack, layout_in}
use Rattle.ec_stands.specs.Stands.{bad_table, bad_slot, ill_formed, bad_record}
use Rattle.ec_stands.specs.Laws.{read_back_lies, behind_journal, lies_stands_in}
use Rattle.ec_stands.specs.FirstPlace.{front_of}
use Rattle.ec_store.specs.Replay.{Spares, IsUntouched, HasRefused}
use Rattle.ec_store.specs.Opening.{IsRead, IsOpened}
use Rattle.ec_store.specs.Store.{HoldsIn, StoreHolds}
use Rattle.ec_store.specs.declared.opening.Opened.{Opened}
use Rattle.ec_store.proofs.Members.{member_none, left_kept, keeps_left}
use Rattle.ec_store.proofs.Placing.{place_stands}
use Rattle.ec_store.proofs.Parts.{has_image}

-- The table and the slots.

good_most : (image : List ℕ) (most : ℕ) → HasGoodHead image most → HasGoodHead image (most_in image)
good_most image most good = subst (λ m. HasGoodHead image m) (sym good.most_is) good

module _ (image : List ℕ) (most : ℕ) (good : HasGoodHead image most) where
  pub table_bad : (s : Side) (place : ℕ) → s ≡ side_in image → ((f : CodeFault) × ((table_code most).read (part image (table_at s) 65536) 0 ≡ Err f) × (place ≡ fault_at image (table_at s) f)) → IsBadAt image place
  table_bad s place side bad =
      let b = subst (λ t. (f : CodeFault) × ((table_code most).read (part image (table_at t) 65536) 0 ≡ Err f) × (place ≡ fault_at image (table_at t) f)) side bad in
      bad_table b.0 (good_most image most good) (subst (λ m. (table_code m).read (table_part image) 0 ≡ Err b.0) (sym good.most_is) b.1) b.2

  module _ (v : Version) (t : Table) (fits : (table_code most).fits (v, t) ≡ true) (stands : StandsAt (table_part image) 0 ((table_code most).spell (v, t))) where
    has_table : HasTable image most v t
    has_table = (0 + length ((table_code most).spell (v, t)), (table_is most).again (table_part image) 0 (v, t) fits stands)

    has_table_in : HasTable image (most_in image) v t
    has_table_in = subst (λ m. HasTable image m v t) (sym good.most_is) has_table

    pub slots_bad : (place : ℕ) → HasBadImage v image t.places place → IsBadAt image place
    slots_bad place bad = bad_slot v t (good_most image most good) has_table_in bad

    pub have_read : (places : List (ℕ × ℕ)) (es : List (ℕ × Image)) → AreSpelled v image places es → HasImages v image places es
    have_read [] [] are = tt
    have_read [] (e ∷ es) are = absurd are
    have_read (p ∷ places) [] are = absurd are
    have_read (p ∷ places) (e ∷ es) are = (has_image v image p e are.0, have_read places es are.1)

    pub state_bad : (es : List (ℕ × Image)) (s : Side) → s ≡ side_in image → AreSpelled v image t.places es → (WellFormed (state_of most t es) → ⊥) → IsBadAt image (table_at s)
    state_bad es s side are ill =
        ill_formed v t es (good_most image most good) has_table_in (have_read t.places es are) (subst (λ m. WellFormed (state_of m t es) → ⊥) (sym good.most_is) ill) (ap (λ (x : Side). table_at x) side)

    pub is_read : (version : Version) (places : List (ℕ × ℕ)) (state : Durable) (es : List (ℕ × Image)) → version ≡ v → places ≡ t.places → state ≡ state_of most t es → part image 8 4 ≡ to_be_bytes w32 most → AreSpelled v image t.places es → IsRead image version places state
    is_read version places state es v_is places_are state_is most_stands are =
        subst (λ x. IsRead image x places state) (sym v_is)
        (subst (λ x. IsRead image v x state) (sym places_are)
        (subst (λ x. IsRead image v t.places x) (sym state_is) (record { head = good; most_stands = most_stands; table_fits = fits; table_stands = stands; images = are })))

-- The journal.

module _ (image : List ℕ) (s : Side) (side : s ≡ side_in image) (found : Found) (is : IsFound image (journal_at s) 2097152 found) where
  found_front : Front image (journal_in image) found.bodies
  found_front = subst (λ t. Front image (journal_at t) found.bodies) side (by found.is_whole refl)
    where
      by : (b : Bool) → found.is_whole ≡ b → Front image (journal_at s) found.bodies
      by true whole = (is.whole whole).front
      by false past = (is.past past).front

  pub found_short : length (records found.bodies) < 2097152
  found_short = by found.is_whole refl
    where
      by : (b : Bool) → found.is_whole ≡ b → length (records found.bodies) < 2097152
      by true whole = (is.whole whole).room
      by false past = (is.past past).gate_inside

  module _ (v : Version) (places : List (ℕ × ℕ)) (base : Durable) (read : IsRead image v places base) (formed : WellFormed base) where
    has_checkpoint : HasCheckpoint image v places base
    has_checkpoint = record {
      head = read.head;
      table = has_table image base.max_objects read.head v (described base places) read.table_fits read.table_stands;
      images = have_read image base.max_objects read.head v (described base places) read.table_fits read.table_stands places base.volume read.images;
      formed = formed;
    }

    -- a record that is refused
    pub record_bad : (place : ℕ) → HasRefused (journal_at s) base found.bodies place → IsBadAt image place
    record_bad place bad =
        let split : found.bodies ≡ (bad.before ++ bad.body ∷ []) ++ bad.rest = bad.split ∙ sym (append_assoc bad.before (bad.body ∷ []) bad.rest) in
        let total : length (records found.bodies) ≡ length (records (bad.before ++ bad.body ∷ [])) + length (records bad.rest) =
        ap (λ (l : List (List ℕ)). length (records l)) split ∙ ap (λ (l : List ℕ). length l) (records-append (bad.before ++ bad.body ∷ []) bad.rest) ∙ length-append (records (bad.before ++ bad.body ∷ [])) (records bad.rest) in
        bad_record v places base has_checkpoint (record {
          before = bad.before;
          mid = bad.mid;
          steps = bad.steps;
          gate = bad.gate ∙ ap (λ (t : Side). journal_at t + length (records bad.before)) side;
          bad = inl (bad.body, (front_of image (journal_in image) (bad.before ++ bad.body ∷ []) bad.rest (subst (λ l. Front image (journal_in image) l) split found_front), omega (arith, total, found_short)), bad.refused);
        })

    -- a record that runs past the journal
    pub past_bad : (state : Durable) → StepsTo found.bodies base state → found.is_whole ≡ false → IsBadAt image (journal_at s + found.end)
    past_bad state steps past =
        bad_record v places base has_checkpoint (record {
          before = found.bodies;
          mid = state;
          steps = steps;
          gate = ap (λ (n : ℕ). journal_at s + n) is.end ∙ ap (λ (t : Side). journal_at t + length (records found.bodies)) side;
          bad = inr (subst (λ t. RunsPast image (journal_at t) 2097152 found.bodies) side (is.past past));
        })

    pub read_back : found.is_whole ≡ true → IsReadBack image v places base found.bodies
    read_back whole = record {
      head = read.head;
      most_stands = read.most_stands;
      table_fits = read.table_fits;
      table_stands = read.table_stands;
      images = read.images;
      formed = formed;
      journal = subst (λ t. HasBodies image (journal_at t) 2097152 found.bodies) side (is.whole whole);
    }

-- the journal is inside the image
pub journal_inside : (image : List ℕ) (v : Version) (places : List (ℕ × ℕ)) (base : Durable) (s : Side) → s ≡ side_in image → IsRead image v places base → journal_at s + 2097152 ≤ length image
journal_inside image v places base s side read = subst (λ t. journal_at t + 2097152 ≤ length image) (sym side) (behind_journal image base.max_objects v (described base places) read.table_stands)

-- The store.

numbers_free : (v : Version) (k : ℕ) (slots : List (ℕ × List ℕ)) (places : List (ℕ × ℕ)) (es : List (ℕ × Image)) → AreSlotsIn v slots places es → member k (numbers_in places) ≡ false → IsFree k slots
numbers_free v k [] places es are out = tt
numbers_free v k (t ∷ slots) [] es are out = absurd are
numbers_free v k (t ∷ slots) (p ∷ places) [] are out = absurd are
numbers_free v k (t ∷ slots) (p ∷ places) (e ∷ es) are out =
    let parts = member_none k p.1 (numbers_in places) out in
    (λ same. parts.0 (same ∙ ap (λ (x : ℕ × List ℕ). x.0) are.0), numbers_free v k slots places es are.3 parts.1)

module _ (now : View) (synced : IsSynced now) (v : Version) (places : List (ℕ × ℕ)) (base : Durable) (bodies : List (List ℕ)) (read : IsReadBack now.gives v places base bodies) (state : Durable) (steps : StepsTo bodies base state) (formed : WellFormed state)
    (selected : Selected) (is : IsSelected (side_in now.gives) (length (records bodies)) selected) where
  on : IsOn now selected (layout_in now.gives v places base bodies)
  on = record {
    side = is.side;
    journal = record { place = is.place; size = is.size; ends = is.ends };
    laid = λ c left. subst (λ image. Lies image (layout_in now.gives v places base bodies)) (sym (synced c left)) (read_back_lies now.gives v places base bodies read).0;
  }

  -- no image of an older version is kept
  pub holds_none : (v ≡ Two → ⊥) → HoldsIn v now selected (numbers_in places) [] state
  holds_none older = record {
    layout = layout_in now.gives v places base bodies;
    base = base;
    places = places;
    on = on;
    checkpoint = (read_back_lies now.gives v places base bodies read).1;
    steps = steps;
    formed = formed;
    keeps = record {
      numbers = λ k out. numbers_free v k (layout_in now.gives v places base bodies).slots places base.volume (read_back_lies now.gives v places base bodies read).1.slots_are out;
      stand = λ o s found live. absurd (nothing s found);
    };
    rest = λ two. absurd (older two);
  }
    where
      nothing : (s : ℕ) → ◌≡◌ {A = Option ℕ} None (Some s) → ⊥
      nothing s h = cc

-- the images that no record changed are kept
pub opened_holds : (now : View) → IsSynced now → (places : List (ℕ × ℕ)) (base : Durable) (bodies : List (List ℕ)) (read : IsReadBack now.gives Two places base bodies) (state : Durable) → StepsTo bodies base state → WellFormed state
    → (selected : Selected) → IsSelected (side_in now.gives) (length (records bodies)) selected → (ids : List ℕ) → Spares ids base state → ((o : ℕ) → IsUntouched o bodies → member o ids ≡ false) → (kept : List (ℕ × ℕ)) → ((o : ℕ) → at o kept ≡ cond (member o ids) None (at o places)) → StoreHolds now selected (numbers_in places) kept state
opened_holds now synced places base bodies read state steps formed selected is ids spares touches kept left = record {
  layout = layout_in now.gives Two places base bodies;
  base = base;
  places = places;
  on = on now synced Two places base bodies read state steps formed selected is;
  checkpoint = (read_back_lies now.gives Two places base bodies read).1;
  steps = steps;
  formed = formed;
  keeps = record {
    numbers = λ k out. numbers_free Two k (layout_in now.gives Two places base bodies).slots places base.volume (read_back_lies now.gives Two places base bodies read).1.slots_are out;
    stand = λ o s found live.
        let was = left_kept o s (member o ids) (at o kept) (at o places) (left o) found in
        let it = place_stands (layout_in now.gives Two places base bodies).slots places base.volume (read_back_lies now.gives Two places base bodies read).1.slots_are o s was.0 in
        let same : it.0 ≡ images state.volume o = sym (images_find base.volume o ∙ ap (λ (f : Option Image). unwrap_or f Gone) it.1) ∙ sym (spares o was.1) in
        subst (λ (v : Image). IsAmong (s, (slot_code Two).spell (o, v)) (layout_in now.gives Two places base bodies).slots × ((slot_code Two).fits (o, v) ≡ true)) same (it.2, it.3);
  };
  rest = λ two o s found un. keeps_left s (member o ids) (at o kept) (at o places) (left o) found (touches o un);
}

-- what is read back stands for the state
pub opened_stands : (image : List ℕ) (opened : Opened) → IsOpened image opened → StandsFor image opened.state
opened_stands image opened is =
    let both = read_back_lies image opened.version opened.places.items is.base is.bodies is.read in
    lies_stands_in opened.version image (layout_in image opened.version opened.places.items is.base is.bodies) is.base opened.state opened.places.items both.0 both.1 is.steps
