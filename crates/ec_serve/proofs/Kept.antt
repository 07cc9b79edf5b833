-- What a server's run makes of a store and its disk, both lent to its keeper.
use Rattle.std.proofs.Common.{◌≡◌, ◌<◌, ◌≤◌, ℕ, List, Ok, refl, ◌∙◌}
use Rattle.ec_disk.specs.Disk.{View, Counts}
use Rattle.ec_disk.specs.Effects.{Called, Turned}
use Rattle.ec_durable.specs.Codes.{record_code}
use Rattle.ec_durable.specs.Durable.{step}
use Rattle.ec_durable.specs.declared.state.Durable.{Durable}
use Rattle.ec_durable.specs.declared.record.Record.{Record}
use Rattle.ec_journal.specs.Journal.{need_of}
use Rattle.ec_marking.specs.OfKeeper.Keeps.{KeepsRecord, LeavesRecord}
use Rattle.ec_marking.specs.declared.keeper.keeper.DiskKeeper.{DiskKeeper}
use Rattle.ec_journal.specs.OfLayout.Selected.{free_now}
use Rattle.ec_protocol.specs.Server.{start}
use Rattle.ec_servernode.specs.Node.{ChainInDoubt}
use Rattle.ec_servernode.specs.Run.{record_of}
use Rattle.ec_stands.specs.Laws.{lies_stands}
use Rattle.ec_stands.specs.Stands.{StandsFor}
use Rattle.ec_store.specs.Store.{IsHeld, view_of}
use Rattle.ec_store.specs.declared.store.Store.{Store}
use Rattle.ec_serve.specs.Serve.{HoldsState, Outer, AllBack, Spends, RanOn, boxes_of}
use Rattle.ec_serve.specs.ServerRuns.{RanWhole, EndsAs, EndsBy, ServesOn}
use Rattle.ec_serve.specs.declared.ending.Ending.{Ending}
use Rattle.ec_serve.specs.declared.ending.Ending.TheVariants as ending
use Rattle.ec_serve.proofs.Keepers.{chain_keeps, doubt_keeps, chain_folds}

-- what a read gives of a disk that holds a store, and whatever a crash leaves of it, stands for the store's state
pub holds_state : (now : View) (s : Store) → now.may_leave now.gives → IsHeld now s → HoldsState now (view_of s)
holds_state now s given h = record {
  gives = lies_stands now.gives h.layout h.base (view_of s) h.places (h.on.laid now.gives given) h.checkpoint h.steps;
  crash = λ image left. lies_stands image h.layout h.base (view_of s) h.places (h.on.laid image left) h.checkpoint h.steps;
}

-- what is lent is lent on, whatever is done by the keeper
abbrev pub SameLent : {D : Type 0} → DiskKeeper D → DiskKeeper D → Type 0
SameLent old new = (new.store.ghost_name ≡ old.store.ghost_name) × (new.disk.ghost_name ≡ old.disk.ghost_name)

module _ {D : Type 0} (tells : Type 0) (view : D → View) (counts : D → Counts) (did breaks : DiskKeeper D → Record → DiskKeeper D → Type 0) where
  -- a record that was committed steps the state, and the disk holds it then
  abbrev pub Steps : Type 0
  Steps = (a b : DiskKeeper D) (r : Record) → did a r b → SameLent a b × (step r (view_of a.store.now) ≡ Ok (view_of b.store.now)) × (tells → IsHeld (view a.disk.now) a.store.now → IsHeld (view b.disk.now) b.store.now)

  pub same_lent : (rs : List Record) (old new : DiskKeeper D) → ChainInDoubt did breaks rs old new → Steps → ((a b : DiskKeeper D) (r : Record) → breaks a r b → SameLent a b) → SameLent old new
  same_lent rs old new c steps broken = doubt_keeps did breaks (λ (k : DiskKeeper D). SameLent old k) (λ a b r d p. onward a b p (steps a b r d).0) (λ a b r d p. onward a b p (broken a b r d)) rs old new c (refl, refl)
    where
      onward : (a b : DiskKeeper D) → SameLent old a → SameLent a b → SameLent old b
      onward a b p q = (q.0 ∙ p.0, q.1 ∙ p.1)

  abbrev pub ran_on : (old new : DiskKeeper D) → RanWhole (λ (k : DiskKeeper D). view_of k.store.now) (λ (k : DiskKeeper D). counts k.disk.now) did breaks (start (view_of old.store.now)).server (boxes_of (start (view_of old.store.now)).sent) (record_of (start (view_of old.store.now)).rec) old new
      → Steps → (tells → (view new.disk.now).may_leave (view new.disk.now).gives) → (tells → IsHeld (view old.disk.now) old.store.now) → RanOn (view_of old.store.now) tells (view new.disk.now)
  ran_on old new w steps given held = record {
    run = w.run;
    is_run = w.is_run;
    up = w.up;
    final = view_of new.store.now;
    folded = chain_folds did breaks (λ (k : DiskKeeper D). view_of k.store.now) (λ a b r d. (steps a b r d).1) _ old new w.chain;
    disk = λ told. holds_state (view new.disk.now) new.store.now (given told) (chain_keeps did breaks (λ (k : DiskKeeper D). IsHeld (view k.disk.now) k.store.now) (λ a b r d p. (steps a b r d).2 told p) _ old new w.chain (held told));
  }

  pub served_on : (old new : DiskKeeper D) (count : ℕ) (e : Ending) (disk : View) (links later : Outer) → EndsBy (λ (k : DiskKeeper D). view_of k.store.now) (λ (k : DiskKeeper D). counts k.disk.now) did breaks count e old new links later
      → Steps → (tells → (view new.disk.now).may_leave (view new.disk.now).gives) → (tells → IsHeld (view old.disk.now) old.store.now)
      → ServesOn (view_of old.store.now) count e (record { tells = tells; disk = disk; disk_after = view new.disk.now; counts = counts old.disk.now; counts_after = counts new.disk.now; links = links; links_after = later })
  served_on old new count e disk links later ends steps given held = by e ends.1
    where
      d : Durable
      d = view_of old.store.now

      Old : Ending → Type 0
      Old e = EndsAs ((ran : RanWhole (λ (k : DiskKeeper D). view_of k.store.now) (λ (k : DiskKeeper D). counts k.disk.now) did breaks (start d).server (boxes_of (start d).sent) (record_of (start d).rec) old new) × AllBack count ran.run links later) (λ n. Spends d n) (counts old.disk.now).faults (counts new.disk.now).faults links later e

      New : Ending → Type 0
      New e = EndsAs ((ran : RanOn d tells (view new.disk.now)) × AllBack count ran.run links later) (λ n. Spends d n) (counts old.disk.now).faults (counts new.disk.now).faults links later e

      by : (e : Ending) → Old e → New e
      by ending.Done w = (ran_on old new w.0 steps given held, w.1)
      by ending.DiskFailed w = w
      by (ending.BadDisk place) w = w
      by ending.NetFailed w = w
      by ending.NoMemory w = w
      by ending.NotStarted w = w
      by (ending.Spent n) w = w

-- The keeper over a store and its disk.
module _ {D : Type 0} (tells : Type 0) (view : D → View) (counts : D → Counts) where
  abbrev pub disk_did : DiskKeeper D → Record → DiskKeeper D → Type 0
  disk_did old r new =
      (new.store.ghost_name ≡ old.store.ghost_name) × (new.disk.ghost_name ≡ old.disk.ghost_name)
      × (step r (view_of old.store.now) ≡ Ok (view_of new.store.now))
      × (tells → IsHeld (view old.disk.now) old.store.now → KeepsRecord r old.store.now new.store.now (view old.disk.now) (view new.disk.now))
      × (need_of (record_code.spell r) ≤ free_now old.store.now.selected → Called 4 (counts old.disk.now) (counts new.disk.now))
      × ((turns : ℕ) × Turned turns (counts old.disk.now).armed (counts new.disk.now).armed (Unit {0}) ⊥
      × (need_of (record_code.spell r) ≤ free_now old.store.now.selected → turns ≡ 4) × (free_now old.store.now.selected < need_of (record_code.spell r) → 9 ≤ turns))

  abbrev pub disk_broke : DiskKeeper D → Record → DiskKeeper D → Type 0
  disk_broke old r new =
      (new.store.ghost_name ≡ old.store.ghost_name) × (new.disk.ghost_name ≡ old.disk.ghost_name)
      × (tells → IsHeld (view old.disk.now) old.store.now → LeavesRecord r old.store.now (view old.disk.now) (view new.disk.now))
      × ((turns : ℕ) × Turned turns (counts old.disk.now).armed (counts new.disk.now).armed ⊥ ⊥ × (need_of (record_code.spell r) ≤ free_now old.store.now.selected → turns ≤ 4))
      × (tells → IsHeld (view old.disk.now) old.store.now → StandsFor (view new.disk.now).synced (view_of old.store.now))

  disk_steps : Steps tells view counts disk_did disk_broke
  disk_steps a b r d = ((d.0, d.1), d.2, λ told held. (d.3 told held).held)

  disk_breaks : (a b : DiskKeeper D) (r : Record) → disk_broke a r b → SameLent a b
  disk_breaks a b r d = (d.0, d.1)

  -- a server by this keeper, from its start, ends so
  abbrev pub EndsAt : ℕ → Ending → DiskKeeper D → DiskKeeper D → Outer → Outer → Type 0
  EndsAt count e old new links later = EndsBy (λ (k : DiskKeeper D). view_of k.store.now) (λ (k : DiskKeeper D). counts k.disk.now) disk_did disk_broke count e old new links later

  pub kept_same : (count : ℕ) (e : Ending) (old new : DiskKeeper D) (links later : Outer) → EndsAt count e old new links later → SameLent old new
  kept_same count e old new links later ends = same_lent tells view counts disk_did disk_broke ends.0.records old new ends.0.doubt disk_steps disk_breaks

  pub kept_serves : (count : ℕ) (e : Ending) (old new : DiskKeeper D) (links later : Outer) → EndsAt count e old new links later → (tells → (view new.disk.now).may_leave (view new.disk.now).gives) → (tells → IsHeld (view old.disk.now) old.store.now)
      → ServesOn (view_of old.store.now) count e (record { tells = tells; disk = view old.disk.now; disk_after = view new.disk.now; counts = counts old.disk.now; counts_after = counts new.disk.now; links = links; links_after = later })
  kept_serves count e old new links later ends given held = served_on tells view counts disk_did disk_broke old new count e (view old.disk.now) links later ends disk_steps given held
