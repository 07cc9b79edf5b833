-- A disk that is asked for its length, and then opened.
use Rattle.std.proofs.Common.{◌≡◌, ℕ, List, Result, Ok, Err, subst, arith, inl, inr, ⊎_elim}
use Rattle.std.specs.Prelude.{IfOk}
use Rattle.ec_disk.specs.Disk.{View}
use Rattle.ec_disk.specs.Effects.{Rests, LeavesOnly}
use Rattle.ec_stands.specs.Stands.{StandsFor}
use Rattle.ec_store.specs.Opening.{WasLeftOrStands}
use Rattle.ec_store.specs.Store.{view_of}
use Rattle.ec_store.specs.declared.fault.StoreFault.{StoreFault}
use Rattle.ec_store.specs.declared.store.Store.{Store}

-- a call that writes nothing
pub rests_leave : (old mid : View) → ((c : List ℕ) → old.left_since old.moment c → old.may_leave c) → Rests old mid → LeavesOnly old mid (WasLeftOrStands old)
rests_leave old mid only rests = record {
  later = rests.time.later;
  each = λ c left. ⊎_elim (λ was. inl (only c was)) (λ now. inl (rests.crash c now)) (rests.time.nothing_else old.moment c (omega arith) left);
  before = λ t c le left. ⊎_elim (λ was. inl was) (λ now. inr (inl (rests.crash c now))) (rests.time.nothing_else t c le left);
}

-- one before an opening
pub rests_open : (old mid new : View) → ((c : List ℕ) → old.left_since old.moment c → old.may_leave c) → Rests old mid → LeavesOnly mid new (WasLeftOrStands mid) → LeavesOnly old new (WasLeftOrStands old)
rests_open old mid new only rests leaves = record {
  later = omega (arith, rests.time.later, leaves.later);
  each = λ c left.
      ⊎_elim (λ was. ⊎_elim (λ before. inl (only c before)) (λ now. inl (rests.crash c now)) (rests.time.nothing_else old.moment c (omega arith) was)) (λ is. moved c is)
      (leaves.before old.moment c rests.time.later left);
  before = λ t c le left.
      ⊎_elim (λ was. ⊎_elim (λ before. inl before) (λ now. inr (inl (rests.crash c now))) (rests.time.nothing_else t c le was)) (λ is. inr (moved c is))
      (leaves.before t c (omega (arith, le, rests.time.later)) left);
}
  where
    moved : (c : List ℕ) → WasLeftOrStands mid c → WasLeftOrStands old c
    moved c is = ⊎_elim (λ was. inl (rests.crash c was)) (λ same. inr (same.0, subst (λ (xs : List ℕ). StandsFor xs same.0) rests.gives same.1, same.2)) is

-- what was opened stood there before
pub stood_there : (r : Result Store StoreFault) (Tells Full : Type 0) (here before : List ℕ) → (Tells → here ≡ before) → IfOk r (λ store. Tells → StandsFor here (view_of store)) → IfOk r (λ store. Tells → Full → StandsFor before (view_of store))
stood_there (Ok store) Tells Full here before same stands = λ told full. subst (λ (image : List ℕ). StandsFor image (view_of store)) (same told) (stands told)
stood_there (Err e) Tells Full here before same stands = tt
