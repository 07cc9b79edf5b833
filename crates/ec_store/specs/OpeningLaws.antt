-- Where each image that a crash might have left stood for one of some states, each one that it might leave since the disk is opened does.
use Rattle.std.specs.Prelude.{ℕ, List}
use Rattle.std.proofs.Common.{inl, inr, ⊎_elim, subst}
use Rattle.ec_disk.specs.Disk.{View}
use Rattle.ec_disk.specs.Effects.{LeavesOnly}
use Rattle.ec_durable.specs.declared.state.Durable.{Durable}
use Rattle.ec_stands.specs.Stands.{StandsFor}
use Rattle.ec_stands.specs.Laws.{one_state}
use Rattle.ec_store.specs.Opening.{WasLeftOrStands, StandsForOne}

-- where it might stand for one of some states, it does so for the one that is read
pub good_state : (Good : Durable → Type 0) (image : List ℕ) (state : Durable) → StandsForOne Good image → StandsFor image state → Good state
good_state Good image state one stands = subst Good (one_state image one.0 state one.2 stands) one.1

pub opening_leaves : (Good : Durable → Type 0) (old new : View) → old.may_leave old.gives → ((image : List ℕ) → old.may_leave image → StandsForOne Good image) → LeavesOnly old new (WasLeftOrStands old) → LeavesOnly old new (StandsForOne Good)
opening_leaves Good old new given all leaves = record {
  later = leaves.later;
  each = λ c left. one c (leaves.each c left);
  before = λ t c le left. ⊎_elim (λ was. inl was) (λ is. inr (one c is)) (leaves.before t c le left);
}
  where
    one : (c : List ℕ) → WasLeftOrStands old c → StandsForOne Good c
    one c is = ⊎_elim (all c) (λ same. (same.0, good_state Good old.gives same.0 (all old.gives given) same.1, same.2)) is
