-- A disk of an older version, that is brought to the one that is written.
use Rattle.std.proofs.Common.{◌≡◌, ◌⊎◌, ℕ, true, List, [], length, Some, sym, subst}
use Rattle.ec_base.specs.Tables.{at}
use Rattle.ec_disk.specs.Disk.{View}
use Rattle.ec_disk.specs.Effects.{IsSynced, LeavesOnly}
use Rattle.ec_durable.specs.WellFormed.{WellFormed}
use Rattle.ec_journal.specs.Records.{records}
use Rattle.ec_stands.specs.OfTable.Codes.{table_code, described, numbers_in}
use Rattle.ec_stands.specs.declared.table.table.Version.{Version}
use Rattle.ec_stands.specs.declared.table.table.Version.TheVariants.{One, Two}
use Rattle.ec_journal.specs.OfLayout.Sides.{other}
use Rattle.ec_journal.specs.OfLayout.Layout.{Layout, Lies, Follows}
use Rattle.ec_journal.specs.OfLayout.Selected.{IsSelected, IsOn, side_now}
use Rattle.ec_journal.specs.OfLayout.Pieces.{AreApart, pieces_of}
use Rattle.ec_journal.specs.declared.layout.selected.Selected.{Selected}
use Rattle.ec_stands.specs.Stands.{StandsFor}
use Rattle.ec_store.specs.Places.{ArePlaces}
use Rattle.ec_store.specs.Plan.{IsPlan}
use Rattle.ec_store.specs.Opening.{IsOpened}
use Rattle.ec_store.specs.Store.{StoreHolds, HoldsIn}
use Rattle.ec_store.specs.declared.opening.Opened.{Opened}
use Rattle.ec_store.specs.declared.plan.Plan.{Plan}
use Rattle.ec_store.proofs.Holding.{leaves_none, fewer_places}
use Rattle.ec_store.proofs.Planning.{pieces_stand_apart, new_places_are, plan_leaves, plan_holds}
use Rattle.ec_store.proofs.ReadBack.{holds_none, opened_stands}

pub not_two : (v : Version) → v ≡ One → v ≡ Two → ⊥
not_two One one two = absurd cc
not_two Two one two = absurd cc

-- no image is kept
pub none_kept : (most : ℕ) (named : List ℕ) (places : List (ℕ × ℕ)) → ArePlaces most named places → ArePlaces most named []
none_kept most named places are = fewer_places most named places [] are (λ o s found. absurd (nothing o s found))
  where
    nothing : (o s : ℕ) → at o [] ≡ Some s → ⊥
    nothing o s h = cc

-- what was read still stands, where nothing was written
pub none_renewed : (now : View) (opened : Opened) → IsSynced now → IsOpened now.gives opened → ((c : List ℕ) → now.left_since now.moment c → now.may_leave c) → LeavesOnly now now (λ image. StandsFor image opened.state)
none_renewed now opened synced is only =
    leaves_none (λ image. StandsFor image opened.state) now only (λ c left. subst (λ image. StandsFor image opened.state) (sym (synced c left)) (opened_stands now.gives opened is))

-- The checkpoint that is written, with the slots that the older one names.
module _ (opened : Opened) (named : List ℕ) (named_is : named ≡ numbers_in opened.places.items) (formed : WellFormed opened.state) (places : ArePlaces opened.state.max_objects (numbers_in opened.places.items) opened.places.items)
    (plan : Plan) (is : IsPlan opened.state.max_objects named [] opened.state.volume plan) where
  free_places : ArePlaces opened.state.max_objects named []
  free_places = subst (λ ns. ArePlaces opened.state.max_objects ns []) (sym named_is) (none_kept opened.state.max_objects (numbers_in opened.places.items) opened.places.items places)

  pub renewed_apart : AreApart (pieces_of plan.pieces.items)
  renewed_apart = pieces_stand_apart opened.state named [] formed.order free_places plan is

  pub renewed_places : ArePlaces opened.state.max_objects plan.named.items plan.kept
  renewed_places = new_places_are opened.state named [] formed.order free_places plan is

  module _ (spelled : plan.table.items ≡ (table_code opened.state.max_objects).spell (Two, described opened.state plan.kept)) (fits : (table_code opened.state.max_objects).fits (Two, described opened.state plan.kept) ≡ true)
      (older : opened.version ≡ Two → ⊥) (old : View) (synced : IsSynced old) (read : IsOpened old.gives opened) (selected : Selected) (at_side : IsSelected opened.side opened.end selected) where
    old_held : HoldsIn opened.version old selected named [] opened.state
    old_held =
        subst (λ ns. HoldsIn opened.version old selected ns [] opened.state) (sym named_is)
        (holds_none old synced opened.version opened.places.items read.base read.bodies read.read opened.state read.steps formed selected
        (subst (λ s. IsSelected s (length (records read.bodies)) selected) read.side (subst (λ n. IsSelected opened.side n selected) read.ends at_side)) older)

    pub renewed_leaves : (new : View) → ((l m : Layout) → Follows (other (side_now selected)) plan.table.items (pieces_of plan.pieces.items) l m → IsOn old selected l → LeavesOnly old new (λ image. Lies image l ⊎ Lies image m)) → LeavesOnly old new (λ image. StandsFor image opened.state)
    renewed_leaves new leaves = plan_leaves opened.state named [] formed.order free_places plan is opened.version spelled fits old selected [] (λ o s found. found) old_held new leaves

    pub renewed_holds : (new : View) (later : Selected) → ((l m : Layout) → Follows (other (side_now selected)) plan.table.items (pieces_of plan.pieces.items) l m → IsOn old selected l → IsOn new later m) → StoreHolds new later plan.named.items plan.kept opened.state
    renewed_holds new later on = plan_holds opened.state named [] formed.order free_places plan is opened.version spelled fits old selected [] (λ o s found. found) old_held new later on
