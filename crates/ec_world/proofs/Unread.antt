-- Why a disk isn't opened, and what is counted then.
use Rattle.std.proofs.Common.{◌≡◌, ℕ, List, length, Result, Ok, Err, refl, sym, ap, subst, ◌∙◌, inr, arith}
use Rattle.std.specs.Prelude.{◌≤◌, IfOk, IfErr}
use Rattle.ec_base.specs.declared.counter.Counter.{Counter}
use Rattle.ec_disk.specs.Counting.{counted_both}
use Rattle.ec_disk.specs.Disk.{Counts}
use Rattle.ec_disk.specs.Effects.{Counted}
use Rattle.ec_durable.specs.Durable.{formatted}
use Rattle.ec_protocol.specs.declared.world.WorldFault.{WorldFault}
use Rattle.ec_protocol.specs.declared.world.WorldFault.TheVariants as fault
use Rattle.ec_stands.specs.Stands.{StandsFor, IsBadAt}
use Rattle.ec_store.specs.Store.{view_of}
use Rattle.ec_store.specs.declared.fault.StoreFault.{StoreFault}
use Rattle.ec_store.specs.declared.fault.StoreFault.TheVariants as store
use Rattle.ec_store.specs.declared.store.Store.{Store}
use Rattle.ec_world.specs.Opening.{Unread, opening_fault}
use Rattle.ec_world.specs.Steps.{IsWhole, Opens}

pub unread : (f : StoreFault) (g : WorldFault) (tells : Type 0) (gives now : List ℕ) → g ≡ opening_fault f → ((place : ℕ) → f ≡ store.BadDisk place → tells → (length gives ≡ 0 → ⊥) × IsBadAt gives place × (now ≡ gives)) → Unread g tells gives now
unread f g tells gives now is bad = subst (λ (x : WorldFault). Unread x tells gives now) (sym is) (by f bad)
  where
    by : (f : StoreFault) → ((place : ℕ) → f ≡ store.BadDisk place → tells → (length gives ≡ 0 → ⊥) × IsBadAt gives place × (now ≡ gives)) → Unread (opening_fault f) tells gives now
    by (store.BadDisk place) bad = bad place refl
    by store.DiskFailed bad = tt
    by store.DiskStopped bad = tt
    by (store.Refused r) bad = tt
    by store.NoMemory bad = tt

-- a call that writes nothing went before
pub unread_from : (g : WorldFault) (tells : Type 0) (old mid now : List ℕ) → (tells → mid ≡ old) → Unread g tells mid now → Unread g tells old now
unread_from (fault.BadDisk place) tells old mid now same h = λ told. subst (λ (x : List ℕ). (length x ≡ 0 → ⊥) × IsBadAt x place × (now ≡ x)) (same told) (h told)
unread_from (fault.Spent n) tells old mid now same h = absurd h
unread_from fault.NoSuchOp tells old mid now same h = absurd h
unread_from fault.NoSuchMsg tells old mid now same h = absurd h
unread_from fault.DiskFailed tells old mid now same h = tt
unread_from fault.NoMemory tells old mid now same h = tt

pub unread_in : (r : Result Store WorldFault) (tells : Type 0) (old mid now : List ℕ) → (tells → mid ≡ old) → IfErr r (λ g. Unread g tells mid now) → IfErr r (λ g. Unread g tells old now)
unread_in (Ok s) tells old mid now same h = tt
unread_in (Err g) tells old mid now same h = unread_from g tells old mid now same h

pub opens_empty : (r : Result Store WorldFault) (tells : Type 0) (gives : List ℕ) (most : ℕ) → (tells → length gives ≡ 0) → IfOk r (λ s. view_of s ≡ formatted most) → IfOk r (λ s. IsWhole (view_of s)) → IfOk r (λ s. Opens tells gives most (view_of s))
opens_empty (Ok s) tells gives most empty h whole = record { whole = whole; empty = λ told none. h; stands = λ told full. absurd (full (empty told)) }
opens_empty (Err g) tells gives most empty h whole = tt

pub opens_full : (r : Result Store WorldFault) (tells : Type 0) (gives mid : List ℕ) (most : ℕ) → (tells → mid ≡ gives) → (tells → length gives ≡ 0 → ⊥) → IfOk r (λ s. tells → StandsFor mid (view_of s)) → IfOk r (λ s. IsWhole (view_of s)) → IfOk r (λ s. Opens tells gives most (view_of s))
opens_full (Ok s) tells gives mid most same full h whole = record { whole = whole; empty = λ told none. absurd (full told none); stands = λ told some. subst (λ (x : List ℕ). StandsFor x (view_of s)) (same told) (h told) }
opens_full (Err g) tells gives mid most same full h whole = tt

-- Counts.

pub counted_as : (a b : Counts) (F S H : Type 0) → Counted a b F S → (H → F) → Counted a b H ⊥
counted_as a b F S H c to = record {
  faults_later = c.faults_later;
  stops_later = c.stops_later;
  failed = λ h. c.failed (to h);
  stopped = λ k. absurd k;
  armed = λ k. absurd k;
  not_rearmed = c.not_rearmed;
  stays = c.stays;
  over = λ k. absurd k;
}

pub counted_none : (a : Counts) (H : Type 0) → (H → ⊥) → Counted a a H ⊥
counted_none a H never = record {
  faults_later = same a.faults;
  stops_later = same a.stops;
  failed = λ h. absurd (never h);
  stopped = λ k. absurd k;
  armed = λ k. absurd k;
  not_rearmed = λ some. some;
  stays = λ over. over;
  over = λ k. absurd k;
}
  where
    same : (n : ℕ) → n ≤ n
    same n = omega arith

pub counted_two : (a b c : Counts) (F S H T : Type 0) → Counted a b F S → Counted b c H T → Counted a c H ⊥
counted_two a b c F S H T first second = counted_both a b c F S H T H ⊥ first second (λ h. inr h) (λ k. absurd k)

pub same_err : (T E : Type 0) (a b : E) → ◌≡◌ {A = Result T E} (Err a) (Err b) → a ≡ b
same_err T E a b e = cc

pub ok_err : (T E : Type 0) (x : T) (e : E) → ◌≡◌ {A = Result T E} (Ok x) (Err e) → ⊥
ok_err T E x e is = cc

pub wants_not_fails : (T : Type 0) → ◌≡◌ {A = Result T WorldFault} (Err fault.NoMemory) (Err fault.DiskFailed) → ⊥
wants_not_fails T is = cc

pub spends_not_fails : (T : Type 0) (n : Counter) → ◌≡◌ {A = Result T WorldFault} (Err (fault.Spent n)) (Err fault.DiskFailed) → ⊥
spends_not_fails T n is = cc

bad_not : (place : ℕ) → fault.BadDisk place ≡ fault.DiskFailed → ⊥
bad_not place is = cc

wants_not : fault.NoMemory ≡ fault.DiskFailed → ⊥
wants_not is = cc

-- the disk failed only where the store's call answered so
pub failed_err : (f : StoreFault) (g : WorldFault) → g ≡ opening_fault f → ◌≡◌ {A = Result Store WorldFault} (Err g) (Err fault.DiskFailed) → ◌≡◌ {A = Result Store StoreFault} (Err f) (Err store.DiskFailed)
failed_err f g is e = ap Err (by f (sym is ∙ same_err Store WorldFault g fault.DiskFailed e))
  where
    by : (f : StoreFault) → opening_fault f ≡ fault.DiskFailed → f ≡ store.DiskFailed
    by (store.BadDisk place) e = absurd (bad_not place e)
    by store.DiskFailed e = refl
    by store.DiskStopped e = absurd (wants_not e)
    by (store.Refused r) e = absurd (wants_not e)
    by store.NoMemory e = absurd (wants_not e)
