-- What a store that is opened holds.
use Rattle.std.proofs.Common.{◌≡◌, ℕ, cond, List, length, None, Result, Ok, Err, sym, subst, ◌∙◌, inl, inr, ⊎_elim}
use Rattle.std.specs.Prelude.{IfOk}
use Rattle.ec_base.specs.Tables.{at}
use Rattle.ec_disk.specs.Disk.{View}
use Rattle.ec_disk.specs.Effects.{Rests, IsSynced, LeavesOnly}
use Rattle.ec_disk.specs.Runs.{leaves_then}
use Rattle.ec_volume.specs.Update.{member}
use Rattle.ec_durable.specs.declared.state.Durable.{Durable}
use Rattle.ec_durable.specs.WellFormed.{WellFormed}
use Rattle.ec_journal.specs.Records.{records}
use Rattle.ec_stands.specs.OfTable.Codes.{numbers_in}
use Rattle.ec_stands.specs.declared.table.table.Version.TheVariants.{One, Two}
use Rattle.ec_journal.specs.OfLayout.Selected.{IsSelected}
use Rattle.ec_stands.specs.Stands.{StandsFor}
use Rattle.ec_stands.specs.Checkpoints.{IsReadBack}
use Rattle.ec_store.specs.Opening.{IsOpened, IsOlder, WasLeftOrStands, IsSameOrStands}
use Rattle.ec_store.specs.declared.fault.StoreFault.{StoreFault}
use Rattle.ec_store.specs.Store.{StoreHolds, IsHeld, view_of}
use Rattle.ec_store.specs.declared.opening.Opened.{Opened}
use Rattle.ec_store.specs.declared.store.Store.{Store}
use Rattle.ec_store.proofs.Holding.{leaves_map, leaves_none}
use Rattle.ec_store.proofs.ReadBack.{opened_stands, opened_holds}
use Rattle.ec_store.proofs.Resting.{rests_leave}

pub still_stands : (before image : List ℕ) (opened : Opened) (state : Durable) → image ≡ before → IsOpened image opened → state ≡ opened.state → StandsFor before state
still_stands before image opened state same is state_is =
    subst (λ i. StandsFor i state) same (subst (λ d. StandsFor image d) (sym state_is) (opened_stands image opened is))

pub is_held : (now : View) (image : List ℕ) (opened : Opened) (store : Store) → IsSynced now → now.gives ≡ image → opened.version ≡ Two → WellFormed opened.state → IsOpened image opened → store.state ≡ opened.state
    → (store.named.items ≡ numbers_in opened.places.items) × IsSelected opened.side opened.end store.selected
    → ((o : ℕ) → at o store.kept ≡ cond (member o opened.ids.items) None (at o opened.places.items)) → IsHeld now store
is_held now image opened store synced same two formed is state_is parts kept =
    let here : IsOpened now.gives opened = subst (λ i. IsOpened i opened) (sym same) is in
    subst (λ d. StoreHolds now store.selected store.named.items store.kept d) (sym state_is)
    (subst (λ ns. StoreHolds now store.selected ns store.kept opened.state) (sym parts.0)
    (opened_holds now synced opened.places.items here.base here.bodies (subst (λ v. IsReadBack now.gives v opened.places.items here.base here.bodies) two here.read) opened.state here.steps formed store.selected
    (subst (λ s. IsSelected s (length (records here.bodies)) store.selected) here.side (subst (λ n. IsSelected opened.side n store.selected) here.ends parts.1)) opened.ids.items here.spares here.touches store.kept kept))

-- where nothing was written
pub rests_open : (old new : View) → Rests old new → ((c : List ℕ) → old.left_since old.moment c → old.may_leave c) → LeavesOnly old new (WasLeftOrStands old)
rests_open old new rests only = rests_leave (WasLeftOrStands old) old new rests only (λ c left. inl left)

-- Behind a sync.

pub same_leaves : (old new : View) → IsSynced old → Rests old new → ((c : List ℕ) → old.left_since old.moment c → old.may_leave c) → LeavesOnly old new (IsSameOrStands old.gives)
same_leaves old new synced rests only = rests_leave (IsSameOrStands old.gives) old new rests only (λ c left. inl (synced c left))

pub none_leaves : (now : View) (before : List ℕ) → IsSynced now → now.gives ≡ before → ((c : List ℕ) → now.left_since now.moment c → now.may_leave c) → LeavesOnly now now (IsSameOrStands before)
none_leaves now before synced same only = leaves_none (IsSameOrStands before) now only (λ c left. inl (synced c left ∙ same))

-- what was read, and then written in another version
pub renewed_opens : (old mid new : View) (opened : Opened) → IsSynced old → Rests old mid → ((c : List ℕ) → old.left_since old.moment c → old.may_leave c) → IsOpened old.gives opened → LeavesOnly mid new (λ image. StandsFor image opened.state) → LeavesOnly old new (IsSameOrStands old.gives)
renewed_opens old mid new opened synced rests only is leaves =
    leaves_then (IsSameOrStands old.gives) old mid new (same_leaves old mid synced rests only)
    (leaves_map (λ image. StandsFor image opened.state) (IsSameOrStands old.gives) mid new (λ c stands. inr (opened.state, opened_stands old.gives opened is, stands)) leaves)

pub opened_there : (old mid : View) (opened : Opened) → Rests old mid → IsOpened old.gives opened → IsOpened mid.gives opened
opened_there old mid opened rests is = subst (λ image. IsOpened image opened) (sym rests.gives) is

-- the sync, and all that came behind it
pub open_leaves : (old mid new : View) → old.may_leave old.gives → ((c : List ℕ) → old.left_since old.moment c → old.may_leave c) → Rests old mid → LeavesOnly mid new (IsSameOrStands mid.gives) → LeavesOnly old new (WasLeftOrStands old)
open_leaves old mid new given only rests leaves =
    leaves_then (WasLeftOrStands old) old mid new (rests_open old mid rests only) (leaves_map (IsSameOrStands mid.gives) (WasLeftOrStands old) mid new left_or_stands leaves)
  where
    left_or_stands : (c : List ℕ) → IsSameOrStands mid.gives c → WasLeftOrStands old c
    left_or_stands c is = ⊎_elim (λ e. inl (subst old.may_leave (sym (e ∙ rests.gives)) given)) (λ s. inr (s.0, subst (λ image. StandsFor image s.0) rests.gives s.1, s.2)) is

pub stood_before : (r : Result Store StoreFault) (Tells : Type 0) (here before : List ℕ) → (Tells → here ≡ before) → IfOk r (λ store. Tells → StandsFor here (view_of store)) → IfOk r (λ store. Tells → StandsFor before (view_of store))
stood_before (Ok store) Tells here before same stands = λ told. subst (λ image. StandsFor image store.state) (same told) (stands told)
stood_before (Err e) Tells here before same stands = tt

-- Where nothing is brought to another version.

pub is_older : (image : List ℕ) (opened : Opened) → opened.version ≡ One → IsOpened image opened → IsOlder image
is_older image opened one is = (opened.places.items, is.base, is.bodies, subst (λ v. IsReadBack image v opened.places.items is.base is.bodies) one is.read)
