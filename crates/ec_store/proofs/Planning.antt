-- What a disk holds while a checkpoint is written, and behind it.
use Rattle.std.proofs.Common.{◌≡◌, ◌⊎◌, ℕ, ◌*◌, ◌≤◌, true, cond, List, [], ◌∷◌, ◌++◌, length, drop, get_or, Option, None, Some, Result, Ok, Err, refl, sym, ap, subst, ◌∙◌, arith, inl}
use Rattle.std.specs.Prelude.{IfOk, unwrap_or}
use Rattle.std.specs.Int.{w32, to_be_bytes}
use Rattle.std.specs.List.{All}
use Rattle.ec_volume.specs.Volume.{images}
use Rattle.ec_volume.specs.declared.image.Image.{Image}
use Rattle.ec_volume.specs.declared.image.Image.TheVariants.{Gone}
use Rattle.ec_volume.proofs.Held.{images_find}
use Rattle.ec_durable.specs.WellFormed.{WellFormed}
use Rattle.ec_journal.specs.OfLayout.Head.{first_word, form}
use Rattle.ec_journal.specs.OfLayout.Layout.{IsFree, IsAmong}
use Rattle.ec_journal.specs.declared.layout.side.Side.TheVariants as side
use Rattle.ec_stands.specs.Stands.{slot_code, StandsFor}
use Rattle.ec_stands.specs.Checkpoints.{AreSlots, IsCheckpoint}
use Rattle.ec_stands.specs.Laws.{lies_stands, lies_stands_in}
use Rattle.ec_store.proofs.Placing.{slots_of, StandsIn, new_slots, new_numbers, place_stands}
use Rattle.ec_base.specs.declared.list.NoMemory.{NoMemory}
use Rattle.ec_volume.specs.Update.{member}
use Rattle.ec_base.specs.Tables.{at}
use Rattle.ec_disk.specs.Disk.{View}
use Rattle.ec_disk.specs.Effects.{LeavesOnly}
use Rattle.ec_durable.specs.declared.state.Durable.{Durable}
use Rattle.ec_durable.specs.declared.record.Record.{Record}
use Rattle.ec_durable.specs.WellFormed.{IsInOrder}
use Rattle.ec_stands.specs.OfTable.Codes.{table_code, described, numbers_in}
use Rattle.ec_stands.specs.declared.table.table.Version.{Version}
use Rattle.ec_stands.specs.declared.table.table.Version.TheVariants.{Two}
use Rattle.ec_journal.specs.OfLayout.Sides.{other}
use Rattle.ec_journal.specs.OfLayout.Layout.{Layout, Lies, Follows}
use Rattle.ec_journal.specs.OfLayout.Selected.{IsOn, side_now}
use Rattle.ec_journal.specs.OfLayout.Free.{free_below}
use Rattle.ec_journal.specs.OfLayout.Pieces.{AreApart, pieces_of}
use Rattle.ec_journal.specs.declared.layout.selected.Selected.{Selected}
use Rattle.ec_store.specs.Places.{ArePlaces, placed, pieces}
use Rattle.ec_store.specs.Plan.{IsPlan, PlansFor}
use Rattle.ec_store.specs.Store.{StoreHolds, HoldsIn, StandsForEither}
use Rattle.ec_store.specs.declared.plan.Plan.{Plan}
use Rattle.ec_store.proofs.Holding.{plan_apart, plan_places, turned, turn_follows, turn_leaves, turn_holds, leaves_map}

module _ (d : Durable) (named : List ℕ) (kept : List (ℕ × ℕ)) (order : IsInOrder d) (are : ArePlaces d.max_objects named kept) (plan : Plan) (is : IsPlan d.max_objects named kept d.volume plan) where
  pub pieces_stand_apart : AreApart (pieces_of plan.pieces.items)
  pieces_stand_apart = subst AreApart (sym is.pieces_are) (plan_apart d named kept order are is.each)

  pub new_places_are : ArePlaces d.max_objects plan.named.items plan.kept
  new_places_are =
      subst (λ ns. ArePlaces d.max_objects ns plan.kept) (sym is.numbers)
      (subst (λ ps. ArePlaces d.max_objects (numbers_in ps) ps) (sym is.places) (plan_places d named kept order are is.each))

  module _ (v : Version) (spelled : plan.table.items ≡ (table_code d.max_objects).spell (Two, described d plan.kept)) (fits : (table_code d.max_objects).fits (Two, described d plan.kept) ≡ true)
      (old : View) (selected : Selected) (wider : List (ℕ × ℕ)) (fewer : (o s : ℕ) → at o kept ≡ Some s → at o wider ≡ Some s) (h : HoldsIn v old selected named wider d) where
    abbrev made : List (ℕ × ℕ)
    made = placed kept d.volume (free_below (2 * d.max_objects) named)

    spelled_made : plan.table.items ≡ (table_code d.max_objects).spell (Two, described d made)
    spelled_made = spelled ∙ ap (λ (ps : List (ℕ × ℕ)). (table_code d.max_objects).spell (Two, described d ps)) is.places

    fits_made : (table_code d.max_objects).fits (Two, described d made) ≡ true
    fits_made = ap (λ (ps : List (ℕ × ℕ)). (table_code d.max_objects).fits (Two, described d ps)) (sym is.places) ∙ fits

    after : Layout
    after = turned d named kept order are is.each v plan.table.items spelled_made fits_made old selected wider fewer h

    follows : Follows (other (side_now selected)) plan.table.items (pieces_of plan.pieces.items) h.layout after
    unfolding after
    follows = subst (λ ps. Follows (other (side_now selected)) plan.table.items ps h.layout after) (sym is.pieces_are) (turn_follows d named kept order are is.each v plan.table.items spelled_made fits_made old selected wider fewer h)

    pub plan_leaves : (new : View) → ((l m : Layout) → Follows (other (side_now selected)) plan.table.items (pieces_of plan.pieces.items) l m → IsOn old selected l → LeavesOnly old new (λ image. Lies image l ⊎ Lies image m)) → LeavesOnly old new (λ image. StandsFor image d)
    unfolding after
    plan_leaves new leaves = turn_leaves d named kept order are is.each v plan.table.items spelled_made fits_made old selected wider fewer h new (leaves h.layout after follows h.on)

    -- an image with the layout from before
    pub plan_lies : (image : List ℕ) → ((l m : Layout) → Follows (other (side_now selected)) plan.table.items (pieces_of plan.pieces.items) l m → IsOn old selected l → Lies image l) → StandsFor image d
    unfolding after
    plan_lies image lies = lies_stands_in v image h.layout h.base d h.places (lies h.layout after follows h.on) h.checkpoint h.steps

    -- or for the state behind a record
    pub plan_leaves_either : (r : Record) (new : View) → ((l m : Layout) → Follows (other (side_now selected)) plan.table.items (pieces_of plan.pieces.items) l m → IsOn old selected l → LeavesOnly old new (λ image. Lies image l ⊎ Lies image m)) → LeavesOnly old new (StandsForEither r d)
    plan_leaves_either r new leaves = leaves_map (λ image. StandsFor image d) (StandsForEither r d) old new (λ c is. inl is) (plan_leaves new leaves)

    pub plan_holds : (new : View) (later : Selected) → ((l m : Layout) → Follows (other (side_now selected)) plan.table.items (pieces_of plan.pieces.items) l m → IsOn old selected l → IsOn new later m) → StoreHolds new later plan.named.items plan.kept d
    unfolding after
    plan_holds new later on =
        subst (λ ns. StoreHolds new later ns plan.kept d) (sym is.numbers)
        (subst (λ ps. StoreHolds new later (numbers_in ps) ps d) (sym is.places) (turn_holds d named kept order are is.each v plan.table.items spelled_made fits_made old selected wider fewer h new later (on h.layout after follows h.on)))

-- the parts of a plan, put together
pub plans : (state : Durable) (named : List ℕ) (wider kept : List (ℕ × ℕ)) (ids : List ℕ) → ((o : ℕ) → at o kept ≡ cond (member o ids) None (at o wider)) → (r : Result Plan NoMemory) → IfOk r (λ p. IsPlan state.max_objects named kept state.volume p)
    → IfOk r (λ p. p.table.items ≡ (table_code state.max_objects).spell (Two, described state p.kept)) → IfOk r (λ p. (table_code state.max_objects).fits (Two, described state p.kept) ≡ true) → IfOk r (λ p. length p.table.items ≤ 65536)
    → IfOk r (λ p. PlansFor state named wider ids p)
plans state named wider kept ids left (Ok p) is spelled fits short = record { kept = kept; left = left; is = is; spelled = spelled; fits = fits; short = short }
plans state named wider kept ids left (Err e) is spelled fits short = tt

-- A formatted disk: each slot that the table names was written.

all_new : (es : List (ℕ × Image)) (free : List ℕ) → slots_of (placed [] es free) es ≡ pieces [] es free
all_new [] free = refl
all_new (e ∷ es) free = ap (λ (xs : List (ℕ × List ℕ)). (get_or free 0 0, (slot_code Two).spell e) ∷ xs) (all_new es (drop 1 free))

pub no_places : (most : ℕ) → ArePlaces most [] []
no_places most = record {
  below = λ n is. absurd (never n is);
  few = omega arith;
  among = λ o s found. absurd (nothing o s found);
  apart = λ o p s one other. absurd (nothing o s one);
  ids = λ o s found. absurd (nothing o s found);
}
  where
    never : (n : ℕ) → member n [] ≡ true → ⊥
    never n h = cc

    nothing : (o s : ℕ) → at o [] ≡ Some s → ⊥
    nothing o s h = cc

module _ (d : Durable) (formed : WellFormed d) (plan : Plan) (is : IsPlan d.max_objects [] [] d.volume plan) (spelled : plan.table.items ≡ (table_code d.max_objects).spell (Two, described d plan.kept))
    (fits : (table_code d.max_objects).fits (Two, described d plan.kept) ≡ true) where
  abbrev fresh_free : List ℕ
  fresh_free = free_below (2 * d.max_objects) []

  abbrev pub fresh : Layout
  fresh = record { front = first_word ++ to_be_bytes w32 d.max_objects; back = form; side = side.Even; table = plan.table.items; slots = pieces_of plan.pieces.items; bodies = [] }

  nothing_kept : All (StandsIn [] []) d.volume
  nothing_kept i e lt s found = absurd (nothing s found)
    where
      nothing : (s : ℕ) → at (get_or d.volume i e).0 [] ≡ Some s → ⊥
      nothing s h = cc

  slots_are : AreSlots (pieces_of plan.pieces.items) plan.kept d.volume
  slots_are =
      subst (λ ss. AreSlots ss plan.kept d.volume) (all_new d.volume fresh_free ∙ sym is.pieces_are)
      (subst (λ ps. AreSlots (slots_of (placed [] d.volume fresh_free) d.volume) ps d.volume) (sym is.places) (new_slots [] [] d.volume fresh_free nothing_kept is.each))

  fresh_checkpoint : IsCheckpoint fresh d plan.kept
  fresh_checkpoint = record { front_is = refl; back_is = refl; table_is = spelled; table_fits = fits; slots_are = slots_are; formed = formed }

  pub fresh_stands : (image : List ℕ) → Lies image fresh → StandsFor image d
  fresh_stands image lies = lies_stands image fresh d d plan.kept lies fresh_checkpoint refl

  pub fresh_holds : (new : View) (selected : Selected) → IsOn new selected fresh → StoreHolds new selected plan.named.items plan.kept d
  fresh_holds new selected on = record {
    layout = fresh;
    base = d;
    places = plan.kept;
    on = on;
    checkpoint = fresh_checkpoint;
    steps = refl;
    formed = formed;
    keeps = record {
      numbers = λ k out.
          subst (IsFree k) (all_new d.volume fresh_free ∙ sym is.pieces_are)
          (new_numbers k (placed [] d.volume fresh_free) d.volume (ap (λ (ps : List (ℕ × ℕ)). member k (numbers_in ps)) (sym is.places) ∙ ap (λ (ns : List ℕ). member k ns) (sym is.numbers) ∙ out));
      stand = λ o s found live.
          let it = place_stands (pieces_of plan.pieces.items) plan.kept d.volume slots_are o s found in
          let same : it.0 ≡ images d.volume o = sym (images_find d.volume o ∙ ap (λ (f : Option Image). unwrap_or f Gone) it.1) in
          subst (λ (v : Image). IsAmong (s, (slot_code Two).spell (o, v)) (pieces_of plan.pieces.items) × ((slot_code Two).fits (o, v) ≡ true)) same (it.2, it.3);
    };
    rest = λ two o s found un. found;
  }
