-- One clerk after another.
use Rattle.std.proofs.Common.{◌≡◌, ◌+◌, ◌-◌, ◌<◌, ℕ, Bool, true, false, cond, List, [], ◌∷◌, ◌++◌, Some, refl, sym, ap, ◌∙◌, append_assoc, append-nil}
use Rattle.std.specs.Prelude.{filter}
use Rattle.ec_sessions.specs.Slots.{run}
use Rattle.ec_protocol.specs.Resumes.{session}
use Rattle.ec_protocol.specs.declared.world.WorldFault.TheVariants as world_fault
use Rattle.ec_lease_machine.specs.Leases.{LeaseMoving, begin_queued, renew_each, renew_in}
use Rattle.ec_lease_machine.specs.declared.world.LeaseFault.{LeaseFault}
use Rattle.ec_lease_machine.specs.declared.world.LeaseFault.TheVariants as fault
use Rattle.ec_lease_machine.specs.declared.world.LeaseWorld.{LeaseWorld as State}
use Rattle.ec_world.proofs.Ends.{run_on}
use Rattle.ec_lease.specs.Queued.{begin_from}
use Rattle.ec_lease.specs.Steps.{QueuesNot}
use Rattle.ec_lease.specs.Worlds.{ended_with, under_way}
use Rattle.ec_lease.specs.declared.world.LeaseWorld.{LeaseWorld}
use Rattle.ec_lease.proofs.Parts.{queued_by}

pub begins_next : (n : ℕ) (x y : LeaseWorld) (q : LeaseMoving) → n < 16 → begin_from n 0 x ≡ under_way y → begin_queued (run n (16 - n)) (under_way x) ≡ q → begin_queued (run (n + 1) (16 - (n + 1))) (under_way y) ≡ q
begins_next n x y q within one is =
    let rest = run (n + 1) (16 - (n + 1)) in
    ap (begin_queued rest) (sym one) ∙ sym (ap (λ cs. begin_queued cs (under_way x)) (run_on n within)) ∙ is

-- what follows a fault leaves it

pub stay_ended : (cs : List ℕ) (m : LeaseMoving) (f : LeaseFault) → m.fault ≡ Some f → begin_queued cs m ≡ m
stay_ended [] m f is = refl
stay_ended (c ∷ cs) m f is = ap (queued_by c cs m) is

stops_at : (f : LeaseFault) (c : ℕ) (cs : List ℕ) (x y : LeaseWorld) (q : LeaseMoving) → begin_queued (c ∷ cs) (under_way x) ≡ q → QueuesNot f (begin_from c 0 x) (ended_with f y) → QueuesNot f q (ended_with f y)
stops_at (fault.World (world_fault.Spent k)) c cs x y q is h = sym is ∙ ap (begin_queued cs) h ∙ stay_ended cs (ended_with (fault.World (world_fault.Spent k)) y) (fault.World (world_fault.Spent k)) refl
stops_at (fault.World (world_fault.BadDisk k)) c cs x y q is h = h
stops_at (fault.World world_fault.DiskFailed) c cs x y q is h = h
stops_at (fault.World world_fault.NoSuchOp) c cs x y q is h = h
stops_at (fault.World world_fault.NoSuchMsg) c cs x y q is h = h
stops_at (fault.World world_fault.NoMemory) c cs x y q is h = h
stops_at fault.NoSuchLease c cs x y q is h = h
stops_at fault.NoMemory c cs x y q is h = h

pub begins_not : (f : LeaseFault) (n : ℕ) (x y : LeaseWorld) (q : LeaseMoving) → n < 16 → begin_queued (run n (16 - n)) (under_way x) ≡ q → QueuesNot f (begin_from n 0 x) (ended_with f y) → QueuesNot f q (ended_with f y)
begins_not f n x y q within is h = stops_at f n (run (n + 1) (16 - (n + 1))) x y q (sym (ap (λ cs. begin_queued cs (under_way x)) (run_on n within)) ∙ is) h

pub renews_next : (n : ℕ) (x y q : State) → n < 16 → renew_in n (session n x.world) x ≡ y → renew_each (run n (16 - n)) x ≡ q → renew_each (run (n + 1) (16 - (n + 1))) y ≡ q
renews_next n x y q within one is =
    let rest = run (n + 1) (16 - (n + 1)) in
    ap (renew_each rest) (sym one) ∙ sym (ap (λ cs. renew_each cs x) (run_on n within)) ∙ is

-- those of whom something holds

one_of : (p : ℕ → Bool) (n : ℕ) (rest held : List ℕ) (b : Bool) → (held ++ cond b (n ∷ []) []) ++ filter p rest ≡ held ++ cond b (n ∷ filter p rest) (filter p rest)
one_of p n rest held true = append_assoc held (n ∷ []) (filter p rest)
one_of p n rest held false = ap (λ xs. xs ++ filter p rest) (append-nil held)

pub held_next : (p : ℕ → Bool) (n : ℕ) (held more q : List ℕ) → n < 16 → more ≡ held ++ filter p (n ∷ []) → held ++ filter p (run n (16 - n)) ≡ q → more ++ filter p (run (n + 1) (16 - (n + 1))) ≡ q
held_next p n held more q within one is =
    let rest = run (n + 1) (16 - (n + 1)) in
    ap (λ xs. xs ++ filter p rest) one ∙ one_of p n rest held (p n) ∙ sym (ap (λ cs. held ++ filter p cs) (run_on n within)) ∙ is
