-- What a disk holds behind an append and behind a checkpoint.
use Rattle.std.proofs.Common.{◌≡◌, ◌⊎◌, ℕ, ◌+◌, ◌*◌, ◌≤◌, true, false, cond, List, [], ◌∷◌, ◌++◌, length, get_or, Option, None, Some, Ok, refl, sym, ap, subst, ◌∙◌, arith, inl, inr, ⊎_elim}
use Rattle.std.specs.Prelude.{nat_le, unwrap_or}
use Rattle.std.specs.Int.{w32, to_be_bytes}
use Rattle.std.specs.List.{All}
use Rattle.std.proofs.Math.Logic.{∥∥₁_map}
use Rattle.std.proofs.lemmas.Bool.{leb-true}
use Rattle.std.proofs.lemmas.Option.{slice_get-get_or}
use Rattle.ec_base.specs.SortedLaws.{second}
use Rattle.ec_base.specs.Tables.{at}
use Rattle.ec_disk.specs.Disk.{View}
use Rattle.ec_disk.specs.Effects.{LeavesOnly}
use Rattle.ec_volume.specs.Image.{is_gone}
use Rattle.ec_volume.specs.Update.{member}
use Rattle.ec_volume.specs.Volume.{images}
use Rattle.ec_volume.specs.Volume as volume
use Rattle.ec_volume.specs.declared.image.Image.{Image}
use Rattle.ec_volume.specs.declared.image.Image.TheVariants.{Gone}
use Rattle.ec_volume.proofs.Held.{images_find}
use Rattle.ec_codes.specs.Formats.{rows_fit}
use Rattle.ec_sessions.specs.Slots.{all_unspent}
use Rattle.ec_durable.specs.declared.state.Durable.{Durable}
use Rattle.ec_durable.specs.declared.record.Record.{Record}
use Rattle.ec_durable.specs.Durable.{step}
use Rattle.ec_durable.specs.Steps.{AreSound}
use Rattle.ec_durable.specs.Codes.{record_code, said}
use Rattle.ec_durable.specs.CodeLaws.{said_again}
use Rattle.ec_durable.specs.WellFormed.{IsInOrder}
use Rattle.ec_stands.proofs.Volumes.{step_well}
use Rattle.ec_stands.specs.OfTable.Codes.{table_code, described, numbers_in, place_after}
use Rattle.ec_stands.specs.declared.table.table.Version.{Version}
use Rattle.ec_stands.specs.declared.table.table.Version.TheVariants.{Two}
use Rattle.ec_journal.specs.OfLayout.Sides.{other}
use Rattle.ec_journal.specs.declared.layout.side.Side.{Side}
use Rattle.ec_journal.specs.declared.layout.side.Side.TheVariants as side
use Rattle.ec_journal.specs.OfLayout.Layout.{Layout, Lies, Follows, IsAmong}
use Rattle.ec_journal.specs.OfLayout.Appends.{with_body, LeavesBody}
use Rattle.ec_journal.specs.OfLayout.Selected.{IsOn, side_now}
use Rattle.ec_journal.specs.OfLayout.Free.{free_below}
use Rattle.ec_journal.specs.OfLayout.Head.{first_word}
use Rattle.ec_journal.specs.OfLayout.FreeLaws.{free_enough}
use Rattle.ec_journal.specs.OfLayout.Pieces.{AreApart}
use Rattle.ec_journal.specs.declared.layout.selected.Selected.{Selected}
use Rattle.ec_stands.specs.Stands.{slot_code, StepsTo, StandsFor}
use Rattle.ec_stands.specs.Checkpoints.{IsCheckpoint}
use Rattle.ec_stands.specs.Laws.{lies_stands, lies_stands_in, steps_more}
use Rattle.ec_store.specs.Places.{ArePlaces, AreSpare, IsPlaced, placed, pieces, touched}
use Rattle.ec_store.specs.Store.{StoreHolds, HoldsIn, StandsForEither}
use Rattle.ec_store.proofs.Members.{free_member, free_distinct, left_kept, keeps_left}
use Rattle.ec_store.proofs.Replaying.{untouched_parts}
use Rattle.ec_store.proofs.Images.{step_images, step_most, image_at}
use Rattle.ec_store.proofs.Placing.{rows_all, pieces_apart, pieces_are_free, slots_of, StandsIn, new_slots, new_among, new_numbers, place_stands, are_places, length_placed}
use Rattle.ec_base.proofs.Bools.{is-true as told}

pub leaves_map : (P Q : List ℕ → Type 0) (old new : View) → ((c : List ℕ) → P c → Q c) → LeavesOnly old new P → LeavesOnly old new Q
leaves_map P Q old new f leaves = record {
  later = leaves.later;
  each = λ c left. f c (leaves.each c left);
  before = λ t c le left. ⊎_elim (λ was. inl was) (λ p. inr (f c p)) (leaves.before t c le left);
}

-- a disk that isn't called
pub leaves_none : (P : List ℕ → Type 0) (now : View) → ((c : List ℕ) → now.left_since now.moment c → now.may_leave c) → ((c : List ℕ) → now.may_leave c → P c) → LeavesOnly now now P
leaves_none P now only all = record { later = omega arith; each = λ c left. all c (only c left); before = λ t c le left. inl left }

pub held_stands : (now : View) (selected : Selected) (named : List ℕ) (kept : List (ℕ × ℕ)) (d : Durable) → StoreHolds now selected named kept d → (c : List ℕ) → now.may_leave c → StandsFor c d
held_stands now selected named kept d h c left = lies_stands c h.layout h.base d h.places (h.on.laid c left) h.checkpoint h.steps

-- an image with the layout of such a disk
pub held_lies : (now : View) (selected : Selected) (named : List ℕ) (kept : List (ℕ × ℕ)) (d : Durable) → StoreHolds now selected named kept d → (image : List ℕ) → ((l : Layout) → IsOn now selected l → Lies image l) → StandsFor image d
held_lies now selected named kept d h image lies = lies_stands image h.layout h.base d h.places (lies h.layout h.on) h.checkpoint h.steps

with_more : (l : Layout) (body : List ℕ) (base : Durable) (places : List (ℕ × ℕ)) → IsCheckpoint l base places → IsCheckpoint (with_body body l) base places
with_more l body base places is = record { front_is = is.front_is; back_is = is.back_is; table_is = is.table_is; table_fits = is.table_fits; slots_are = is.slots_are; formed = is.formed }

-- an append of a record that steps
module _ (r : Record) (body : List ℕ) (fits : record_code.fits r ≡ true) (spelled : body ≡ record_code.spell r) (sound : AreSound r) (d e : Durable) (stepped : step r d ≡ Ok e) where
  body_is : said body ≡ Ok r
  body_is = ap (λ (x : List ℕ). said x) spelled ∙ said_again r fits

  module _ (old new : View) (selected : Selected) (named : List ℕ) (kept : List (ℕ × ℕ)) (h : StoreHolds old selected named kept d) where
    pub append_leaves : ((l : Layout) → IsOn old selected l → LeavesOnly old new (LeavesBody l body)) → LeavesOnly old new (StandsForEither r d)
    append_leaves leaves = leaves_map (LeavesBody h.layout body) (StandsForEither r d) old new either (leaves h.layout h.on)
      where
        either : (c : List ℕ) → LeavesBody h.layout body c → StandsForEither r d c
        either c (inl lies) = inl (lies_stands c h.layout h.base d h.places lies h.checkpoint h.steps)
        either c (inr lies) =
            inr (e, stepped, lies_stands c (with_body body h.layout) h.base e h.places lies (with_more h.layout body h.base h.places h.checkpoint) (steps_more h.layout.bodies body r h.base d e h.steps body_is stepped))

    -- an image with the record behind the others
    pub append_given : (image : List ℕ) → ((l : Layout) → IsOn old selected l → Lies image (with_body body l)) → StandsFor image e
    append_given image lies = lies_stands image (with_body body h.layout) h.base e h.places (lies h.layout h.on) (with_more h.layout body h.base h.places h.checkpoint) (steps_more h.layout.bodies body r h.base d e h.steps body_is stepped)

    pub append_holds : (later : Selected) (fewer : List (ℕ × ℕ)) → ((l : Layout) → IsOn old selected l → IsOn new later (with_body body l))
        → ((o : ℕ) → at o fewer ≡ cond (member o (touched r)) None (at o kept)) → StoreHolds new later named fewer e
    append_holds later fewer on left = record {
      layout = with_body body h.layout;
      base = h.base;
      places = h.places;
      on = on h.layout h.on;
      checkpoint = with_more h.layout body h.base h.places h.checkpoint;
      steps = steps_more h.layout.bodies body r h.base d e h.steps body_is stepped;
      formed = step_well r d e h.formed sound stepped;
      keeps = record {
        numbers = h.keeps.numbers;
        stand = λ o s found live.
            let was = left_kept o s (member o (touched r)) (at o fewer) (at o kept) (left o) found in
            let same = step_images r d e o sound was.1 stepped in
            let old_one = h.keeps.stand o s was.0 (ap is_gone (sym same) ∙ live) in
            subst (λ i. IsAmong (s, (slot_code Two).spell (o, i)) h.layout.slots × ((slot_code Two).fits (o, i) ≡ true)) (sym same) old_one;
      };
      rest = λ two o s found un.
          let parts = untouched_parts o h.layout.bodies (body ∷ []) un in
          keeps_left s (member o (touched r)) (at o fewer) (at o kept) (left o) (h.rest refl o s found parts.0) (parts.1.0 r body_is);
    }

-- the limit of objects stays
pub steps_most : (bodies : List (List ℕ)) (d e : Durable) → StepsTo bodies d e → e.max_objects ≡ d.max_objects
steps_most [] d e is = ap (λ (x : Durable). x.max_objects) (sym is)
steps_most (body ∷ bodies) d e is = steps_most bodies is.1 e is.4 ∙ step_most is.0 d is.1 is.3

other_twice : (s : Side) → s ≡ other (other s)
other_twice side.Even = refl
other_twice side.Odd = refl

-- free slots may be written, and there are enough
pub spare_slots : (most : ℕ) (named : List ℕ) → AreSpare most named (free_below (2 * most) named)
spare_slots most named = record { each = λ n is. free_member (2 * most) n named is; once = free_distinct (2 * most) named }

pub enough_slots : (most n : ℕ) (named : List ℕ) → length named ≤ most → n ≤ most → n ≤ length (free_below (2 * most) named)
enough_slots most n named few le = omega (arith, free_enough (2 * most) named)

pub most_limit : (d : Durable) → IsInOrder d → d.max_objects ≤ 1024
most_limit d is = leb-true d.max_objects 1024 (told (nat_le d.max_objects 1024) (second (nat_le 32 d.max_objects) (nat_le d.max_objects 1024) is.most))

pub few_objects : (d : Durable) → IsInOrder d → length d.volume + length (all_unspent d.sessions) ≤ d.max_objects
few_objects d is = leb-true (length d.volume + length (all_unspent d.sessions)) d.max_objects (told (nat_le (length d.volume + length (all_unspent d.sessions)) d.max_objects) is.few)

-- A checkpoint of the state d, with the images that are kept of those before.
module _ (d : Durable) (named : List ℕ) (kept : List (ℕ × ℕ)) (order : IsInOrder d) (are : ArePlaces d.max_objects named kept) (each : All (IsPlaced kept) d.volume) where
  abbrev free : List ℕ
  free = free_below (2 * d.max_objects) named

  abbrev new_places : List (ℕ × ℕ)
  new_places = placed kept d.volume free

  long : length d.volume ≤ length free
  long = enough_slots d.max_objects (length d.volume) named are.few (omega (arith, few_objects d order))

  pub plan_rows : rows_fit (place_after d.max_objects) [] (placed kept d.volume (free_below (2 * d.max_objects) named)) ≡ true
  plan_rows = rows_all d.max_objects (most_limit d order) named kept are d.volume free order.images.sorted each long (spare_slots d.max_objects named)

  pub plan_apart : AreApart (pieces kept d.volume (free_below (2 * d.max_objects) named))
  plan_apart = pieces_apart d.max_objects (most_limit d order) named kept are d.volume free each long (spare_slots d.max_objects named)

  pub plan_places : ArePlaces d.max_objects (numbers_in (placed kept d.volume (free_below (2 * d.max_objects) named))) (placed kept d.volume (free_below (2 * d.max_objects) named))
  plan_places = are_places d.max_objects new_places plan_rows (omega (arith, length_placed kept d.volume free, few_objects d order))

  pub plan_few : length (placed kept d.volume (free_below (2 * d.max_objects) named)) + length (all_unspent d.sessions) ≤ 1024
  plan_few = omega (arith, length_placed kept d.volume free, few_objects d order, most_limit d order)

  module _ (v : Version) (table : List ℕ) (spelled : table ≡ (table_code d.max_objects).spell (Two, described d new_places)) (fits : (table_code d.max_objects).fits (Two, described d new_places) ≡ true)
      (old : View) (selected : Selected) (wider : List (ℕ × ℕ)) (fewer : (o s : ℕ) → at o kept ≡ Some s → at o wider ≡ Some s) (h : HoldsIn v old selected named wider d) where
    abbrev pub turned : Layout
    turned = record { front = h.layout.front; back = h.layout.back; side = other (side_now selected); table = table; slots = slots_of new_places d.volume; bodies = [] }

    stand : All (StandsIn h.layout.slots kept) d.volume
    stand i e lt s found =
        let x = get_or d.volume i e in
        let is = image_at d.volume i x order.images (slice_get-get_or d.volume i e lt) in
        subst (λ (v : Image). IsAmong (s, (slot_code Two).spell (x.0, v)) h.layout.slots × ((slot_code Two).fits (x.0, v) ≡ true)) is.0
        (h.keeps.stand x.0 s (fewer x.0 s found) (ap is_gone is.0 ∙ is.1))

    pub turn_follows : Follows (other (side_now selected)) table (pieces kept d.volume (free_below (2 * d.max_objects) named)) h.layout turned
    turn_follows = record {
      front_stays = refl;
      back_stays = refl;
      turns = sym h.on.side ∙ other_twice (side_now selected);
      picked = refl;
      has_table = refl;
      empty = refl;
      named = new_among h.layout.slots kept d.volume free stand;
      free = pieces_are_free d.max_objects (most_limit d order) named kept are h.layout.slots h.keeps.numbers d.volume free long (spare_slots d.max_objects named);
    }

    turn_checkpoint : IsCheckpoint turned d new_places
    turn_checkpoint = record {
      front_is = h.checkpoint.front_is ∙ ap (λ (m : ℕ). first_word ++ to_be_bytes w32 m) (sym (steps_most h.layout.bodies h.base d h.steps));
      back_is = h.checkpoint.back_is;
      table_is = spelled;
      table_fits = fits;
      slots_are = new_slots h.layout.slots kept d.volume free stand each;
      formed = h.formed;
    }

    -- whatever a crash leaves stands for the same state
    pub turn_leaves : (new : View) → LeavesOnly old new (λ image. Lies image h.layout ⊎ Lies image turned) → LeavesOnly old new (λ image. StandsFor image d)
    turn_leaves new leaves = leaves_map (λ image. Lies image h.layout ⊎ Lies image turned) (λ image. StandsFor image d) old new (λ c. ⊎_elim (before c) (after c)) leaves
      where
        before : (c : List ℕ) → Lies c h.layout → StandsFor c d
        before c lies = lies_stands_in v c h.layout h.base d h.places lies h.checkpoint h.steps

        after : (c : List ℕ) → Lies c turned → StandsFor c d
        after c lies = lies_stands c turned d d new_places lies turn_checkpoint refl

    pub turn_holds : (new : View) (later : Selected) → IsOn new later turned → StoreHolds new later (numbers_in (placed kept d.volume (free_below (2 * d.max_objects) named))) (placed kept d.volume (free_below (2 * d.max_objects) named)) d
    turn_holds new later on = record {
      layout = turned;
      base = d;
      places = new_places;
      on = on;
      checkpoint = turn_checkpoint;
      steps = refl;
      formed = h.formed;
      keeps = record {
        numbers = λ k out. new_numbers k new_places d.volume out;
        stand = λ o s found live.
            let it = place_stands (slots_of new_places d.volume) new_places d.volume (new_slots h.layout.slots kept d.volume free stand each) o s found in
            let same : it.0 ≡ images d.volume o = sym (images_find d.volume o ∙ ap (λ (f : Option Image). unwrap_or f Gone) it.1) in
            subst (λ (v : Image). IsAmong (s, (slot_code Two).spell (o, v)) (slots_of new_places d.volume) × ((slot_code Two).fits (o, v) ≡ true)) same (it.2, it.3);
      };
      rest = λ two o s found un. found;
    }

-- What a store keeps of itself.

pub fewer_places : (most : ℕ) (named : List ℕ) (kept fewer : List (ℕ × ℕ)) → ArePlaces most named kept → ((o s : ℕ) → at o fewer ≡ Some s → at o kept ≡ Some s) → ArePlaces most named fewer
fewer_places most named kept fewer are less = record {
  below = are.below;
  few = are.few;
  among = λ o s found. are.among o s (less o s found);
  apart = λ o p s one other. are.apart o p s (less o s one) (less p s other);
  ids = λ o s found. are.ids o s (less o s found);
}

pub still_formed : (r : Record) (d e : Durable) → IsInOrder d → ∥ volume.WellFormed (images d.volume) ∥₁ → AreSound r → step r d ≡ Ok e → ∥ volume.WellFormed (images e.volume) ∥₁
still_formed r d e order formed sound is = ∥∥₁_map formed (λ w. (step_well r d e (record { volume = w; order = order }) sound is).volume)
