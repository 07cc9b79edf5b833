-- Calls of a disk, one behind the other, up to a sync.
use Rattle.std.specs.Prelude.{◌≡◌, ◌⊎◌, ℕ, List, [], ◌∷◌, ◌++◌}
use Rattle.std.proofs.Common.{refl, sym, subst}
use Rattle.ec_disk.specs.Calls.{Call, Sync}
use Rattle.ec_disk.specs.Disk.{View}
use Rattle.ec_disk.specs.Effects.{LeavesOnly}
use Rattle.ec_disk.specs.declared.disk.DiskAnswer.{DiskAnswer}
use Rattle.ec_disk.specs.declared.disk.DiskAnswer.TheVariants.{Done, Failed, Stopped, NoMemory}

-- a call that is no sync, or a sync that wasn't done
abbrev pub IsUnsynced : Call → Type 0
IsUnsynced (Sync Done) = ⊥
IsUnsynced _ = Unit {0}

-- one disk behind another by these calls, none of which is a sync that was done
abbrev pub Unsynced : {D : Type 0} → (D → Call → D → Type 0) → List Call → D → D → Type 0
Unsynced does [] old new = old ≡ new
Unsynced {D} does (call ∷ calls) old new = (mid : D) × does old call mid × IsUnsynced call × Unsynced does calls mid new

-- one disk behind another without a sync that was done
abbrev pub NoSync : {D : Type 0} → (D → Call → D → Type 0) → D → D → Type 0
NoSync does old new = (calls : List Call) × Unsynced does calls old new

-- One disk behind another by a sync that was done, and none in front of it.
pub record FirstSync {D : Type 0} (does : D → Call → D → Type 0) (old new : D) : Type 0 where
  pub before : D
  pub none_before : NoSync does old before
  pub synced : does before (Sync Done) new

-- a run's first sync, if there was one, since which a crash leaves good images only
abbrev pub LeavesSinceSync : {D : Type 0} → (D → Call → D → Type 0) → (D → View) → (List ℕ → Type 0) → D → D → Type 0
LeavesSinceSync {D} does view Good old new = NoSync does old new ⊎ ((first : D) × FirstSync does old first × LeavesOnly (view first) (view new) Good)

-- A run that begins with a sync. Where it isn't done there is no other call; else a crash since then leaves good images only.
pub record SyncsFirst {D : Type 0} (does : D → Call → D → Type 0) (view : D → View) (Good : List ℕ → Type 0) (old new : D) : Type 0 where
  pub answer : DiskAnswer
  pub first : D
  pub syncs : does old (Sync answer) first
  pub ends : (answer ≡ Done → ⊥) → new ≡ first
  pub leaves : answer ≡ Done → LeavesOnly (view first) (view new) Good

-- no call
pub no_sync_yet : {D : Type 0} (does : D → Call → D → Type 0) (now : D) → NoSync does now now
no_sync_yet does now = ([], refl)

unsynced_more : {D : Type 0} (does : D → Call → D → Type 0) (calls : List Call) (call : Call) (old mid new : D) → Unsynced does calls old mid → does mid call new → IsUnsynced call → Unsynced does (calls ++ call ∷ []) old new
unsynced_more {D} does [] call old mid new run it is = (new, subst (λ (d : D). does d call new) (sym run) it, is, refl)
unsynced_more does (c ∷ calls) call old mid new run it is = (run.0, run.1, run.2, unsynced_more does calls call run.0 mid new run.3 it is)

-- a call more
pub no_sync_more : {D : Type 0} (does : D → Call → D → Type 0) (call : Call) (old mid new : D) → NoSync does old mid → does mid call new → IsUnsynced call → NoSync does old new
no_sync_more does call old mid new run it is = (run.0 ++ call ∷ [], unsynced_more does run.0 call old mid new run.1 it is)

-- a sync more, that wasn't done
pub no_sync_failed : {D : Type 0} (does : D → Call → D → Type 0) (answer : DiskAnswer) (old mid new : D) → NoSync does old mid → does mid (Sync answer) new → (answer ≡ Done → ⊥) → NoSync does old new
no_sync_failed does Done old mid new run it other = absurd (other refl)
no_sync_failed does Failed old mid new run it other = no_sync_more does (Sync Failed) old mid new run it tt
no_sync_failed does Stopped old mid new run it other = no_sync_more does (Sync Stopped) old mid new run it tt
no_sync_failed does NoMemory old mid new run it other = no_sync_more does (Sync NoMemory) old mid new run it tt

-- a first sync
pub first_sync : {D : Type 0} (does : D → Call → D → Type 0) (answer : DiskAnswer) (old mid new : D) → NoSync does old mid → does mid (Sync answer) new → answer ≡ Done → FirstSync does old new
first_sync does answer old mid new run it is = record { before = mid; none_before = run; synced = subst (λ (a : DiskAnswer). does mid (Sync a) new) is it }
