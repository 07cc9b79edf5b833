-- What becomes of the content that two disks show as one, from what becomes of each.
use Rattle.std.specs.Prelude.{◌≡◌, ◌⊎◌, ℕ, List}
use Rattle.std.proofs.Common.{inl, inr, ⊎_elim, refl, sym, subst, ◌∙◌}
use Rattle.ec_disk.specs.Effects.{Loose}
use Rattle.ec_disk.specs.Runs.{loose-same, loose-then}
use Rattle.ec_disk.specs.declared.disk.DiskAnswer.{DiskAnswer}
use Rattle.ec_disk.specs.declared.disk.DiskAnswer.TheVariants as said
use Rattle.ec_disk.specs.declared.disk.DiskLen.{DiskLen}
use Rattle.ec_disk.specs.declared.disk.DiskLen.TheVariants as len
use Rattle.ec_half.specs.Contents.{Content, Rested, Stays, Fewer, Loosened, AllSynced, stays-then}
use Rattle.ec_mirror.specs.Joins.{lead}
use Rattle.ec_mirror.specs.Moments.{shown-given}
use Rattle.ec_mirror.specs.Shown.{LeftOf, shown, IsSaved, Syncs}
use Rattle.ec_mirror.specs.declared.kept.Kept.{Kept}
use Rattle.ec_mirror.specs.declared.kept.Kept.TheVariants as left

-- one disk rests, or may sync
pub rested-of : (kept : Kept) (a b c d : Content) (saved : List ℕ) → Rested a c → Rested b d → Rested (shown kept a b saved) (shown kept c d saved)
rested-of left.Both a b c d saved first second = record { gives = first.gives; synced = refl; crash = λ x l. ⊎_elim (λ h. inl (⊎_elim (λ p. inl (first.crash x p)) (λ q. inr (second.crash x q)) h)) (λ s. inr s) l }
rested-of left.Leaving a b c d saved first second = record { gives = second.gives; synced = refl; crash = λ x l. ⊎_elim (λ h. inl (⊎_elim (λ p. inl (first.crash x p)) (λ q. inr (second.crash x q)) h)) (λ s. inr s) l }
rested-of left.First a b c d saved first second = record { gives = first.gives; synced = refl; crash = λ x l. ⊎_elim (λ h. inl (first.crash x h)) (λ s. inr s) l }
rested-of left.Second a b c d saved first second = record { gives = second.gives; synced = refl; crash = λ x l. ⊎_elim (λ h. inl (second.crash x h)) (λ s. inr s) l }

pub stays-of : (kept : Kept) (a b c d : Content) (saved : List ℕ) → Stays a c → Stays b d → Stays (shown kept a b saved) (shown kept c d saved)
stays-of left.Both a b c d saved first second = record { gives = first.gives; crash = λ x l. ⊎_elim (λ h. inl (⊎_elim (λ p. inl (first.crash x p)) (λ q. inr (second.crash x q)) h)) (λ s. inr s) l }
stays-of left.Leaving a b c d saved first second = record { gives = second.gives; crash = λ x l. ⊎_elim (λ h. inl (⊎_elim (λ p. inl (first.crash x p)) (λ q. inr (second.crash x q)) h)) (λ s. inr s) l }
stays-of left.First a b c d saved first second = record { gives = first.gives; crash = λ x l. ⊎_elim (λ h. inl (first.crash x h)) (λ s. inr s) l }
stays-of left.Second a b c d saved first second = record { gives = second.gives; crash = λ x l. ⊎_elim (λ h. inl (second.crash x h)) (λ s. inr s) l }

pub stays-rested : (old new : Content) → Rested old new → Stays old new
stays-rested old new rested = record { gives = rested.gives; crash = rested.crash }

pub stays-same : (now : Content) → Stays now now
stays-same now = record { gives = refl; crash = λ c l. l }

pub fewer-same : (now : Content) → Fewer now now
fewer-same now = record { crash = λ c l. l }

pub fewer-stays : (old new : Content) → Stays old new → Fewer old new
fewer-stays old new kept = record { crash = kept.crash }

pub fewer-then : (a b c : Content) → Fewer a b → Fewer b c → Fewer a c
fewer-then a b c first second = record { crash = λ x l. first.crash x (second.crash x l) }

-- each disk's images only get fewer
pub fewer-of : (kept : Kept) (a b c d : Content) (saved : List ℕ) → Fewer a c → Fewer b d → Fewer (shown kept a b saved) (shown kept c d saved)
fewer-of left.Both a b c d saved first second = record { crash = λ x l. ⊎_elim (λ h. inl (⊎_elim (λ p. inl (first.crash x p)) (λ q. inr (second.crash x q)) h)) (λ s. inr s) l }
fewer-of left.Leaving a b c d saved first second = record { crash = λ x l. ⊎_elim (λ h. inl (⊎_elim (λ p. inl (first.crash x p)) (λ q. inr (second.crash x q)) h)) (λ s. inr s) l }
fewer-of left.First a b c d saved first second = record { crash = λ x l. ⊎_elim (λ h. inl (first.crash x h)) (λ s. inr s) l }
fewer-of left.Second a b c d saved first second = record { crash = λ x l. ⊎_elim (λ h. inl (second.crash x h)) (λ s. inr s) l }

-- the first disk of two is left alone, and then dropped; or the second one is
pub leaving-fewer : (a b : Content) (saved : List ℕ) → Fewer (shown left.Both a b saved) (shown left.Leaving a b saved)
leaving-fewer a b saved = record { crash = λ x l. l }

pub second-fewer : (a b c d : Content) (saved : List ℕ) → Fewer b d → Fewer (shown left.Both a b saved) (shown left.Second c d saved)
second-fewer a b c d saved second = record { crash = λ x l. ⊎_elim (λ h. inl (inr (second.crash x h))) (λ s. inr s) l }

pub first-fewer : (a b c d : Content) (saved : List ℕ) → Fewer a c → Fewer (shown left.Both a b saved) (shown left.First c d saved)
first-fewer a b c d saved first = record { crash = λ x l. ⊎_elim (λ h. inl (inl (first.crash x h))) (λ s. inr s) l }

-- writes on each disk
pub loosened-of : (W : ℕ → Type 0) (kept : Kept) (a b c d : Content) (saved : List ℕ) → Loosened W a c → Loosened W b d → Loosened W (shown kept a b saved) (shown kept c d saved)
loosened-of W kept a b c d saved first second = record { synced = refl; crash = λ x l. ⊎_elim (by kept x) (λ s. (x, inr s, loose-same W x)) l }
  where
    by : (k : Kept) (x : List ℕ) → LeftOf k c d x → (before : List ℕ) × (shown k a b saved).may_leave before × Loose W before x
    by left.Both x (inl l) = let w = first.crash x l in (w.0, inl (inl w.1), w.2)
    by left.Both x (inr r) = let w = second.crash x r in (w.0, inl (inr w.1), w.2)
    by left.Leaving x (inl l) = let w = first.crash x l in (w.0, inl (inl w.1), w.2)
    by left.Leaving x (inr r) = let w = second.crash x r in (w.0, inl (inr w.1), w.2)
    by left.First x l = let w = first.crash x l in (w.0, inl w.1, w.2)
    by left.Second x r = let w = second.crash x r in (w.0, inl w.1, w.2)

pub loosened-fewer : (W : ℕ → Type 0) (a b c : Content) → Loosened W a b → Fewer b c → c.synced ≡ b.synced → Loosened W a c
loosened-fewer W a b c loosened fewer same = record { synced = same ∙ loosened.synced; crash = λ x l. loosened.crash x (fewer.crash x l) }

pub fewer-loosened : (W : ℕ → Type 0) (a b c : Content) → Fewer a b → b.synced ≡ a.synced → Loosened W b c → Loosened W a c
fewer-loosened W a b c fewer same loosened = record {
  synced = loosened.synced ∙ same;
  crash = λ x l. let w = loosened.crash x l in (w.0, fewer.crash w.0 w.1, w.2);
}

-- behind a sync that is done on each disk that isn't dropped
pub synced-of : (told : Type 0) (kept : Kept) (a b : Content) → told → (kept ≡ left.Leaving → ⊥) → (kept ≡ left.Both → a.gives ≡ b.gives) → IsSaved told kept a b → AllSynced (shown kept a b (lead kept a b).gives)
synced-of told left.Both a b is stands alike saved = record { only = λ c l. ⊎_elim (λ h. ⊎_elim (λ p. (saved.first_synced is (λ e. cc)).only c p) (λ q. (saved.second_synced is (λ e. cc)).only c q ∙ sym (alike refl)) h) (λ s. s) l }
synced-of told left.Leaving a b is stands alike saved = absurd (stands refl)
synced-of told left.First a b is stands alike saved = record { only = λ c l. ⊎_elim (λ h. (saved.first_synced is (λ e. cc)).only c h) (λ s. s) l }
synced-of told left.Second a b is stands alike saved = record { only = λ c l. ⊎_elim (λ h. (saved.second_synced is (λ e. cc)).only c h) (λ s. s) l }

-- what is synced is saved: nothing else may be left than before
pub saved-fewer : (kept : Kept) (a b : Content) (saved : List ℕ) → a.may_leave a.gives → b.may_leave b.gives → Fewer (shown kept a b saved) (shown kept a b (lead kept a b).gives)
saved-fewer kept a b saved first second = record { crash = λ c l. ⊎_elim (λ h. inl h) (λ s. subst (λ (x : List ℕ). (shown kept a b saved).may_leave x) (sym s) (shown-given kept a b saved first second)) l }

-- a disk was dropped
pub rested-dropped : (old new : Content) → Fewer old new → new.synced ≡ old.synced → new.gives ≡ old.gives → Rested old new
rested-dropped old new fewer synced gives = record { gives = gives; synced = synced; crash = fewer.crash }

pub stays-dropped : (old new : Content) → Fewer old new → new.gives ≡ old.gives → Stays old new
stays-dropped old new fewer gives = record { gives = gives; crash = fewer.crash }

-- a sync behind what stays
pub syncs-behind : (answer : DiskAnswer) (a b c : Content) → Stays a b → b.synced ≡ a.synced → Syncs answer b c → Syncs answer a c
syncs-behind answer a b c first same syncs = record {
  stays = stays-then a b c first syncs.stays;
  all_synced = syncs.all_synced;
  saved = syncs.saved;
  unsaved = λ out. syncs.unsaved out ∙ same;
}

-- one that isn't done
pub syncs-stays : (answer : DiskAnswer) (a b : Content) → (answer ≡ said.Done → ⊥) → Stays a b → b.synced ≡ a.synced → Syncs answer a b
syncs-stays answer a b out first same = record {
  stays = first;
  all_synced = λ done. absurd (out done);
  saved = λ done. absurd (out done);
  unsaved = λ no. same;
}

-- what the disk that is read has synced
pub lead-saved : (kept : Kept) (a b : Content) (saved : List ℕ) → (kept ≡ left.Leaving → ⊥) → ((kept ≡ left.Second → ⊥) → a.synced ≡ saved) → ((kept ≡ left.First → ⊥) → b.synced ≡ saved) → (lead kept a b).synced ≡ saved
lead-saved left.Both a b saved stands first second = first (λ e. cc)
lead-saved left.Leaving a b saved stands first second = absurd (stands refl)
lead-saved left.First a b saved stands first second = first (λ e. cc)
lead-saved left.Second a b saved stands first second = second (λ e. cc)

pub loosened-then : (W : ℕ → Type 0) (a b c d : Content) → Loosened W a b → Fewer b c → c.synced ≡ b.synced → Loosened W c d → Loosened W a d
loosened-then W a b c d first fewer same second = record {
  synced = second.synced ∙ same ∙ first.synced;
  crash = λ x l. let w = second.crash x l in let v = first.crash w.0 (fewer.crash w.0 w.1) in (v.0, v.1, loose-then W v.0 w.0 x v.2 w.2);
}

pub memory-not-done : said.NoMemory ≡ said.Done → ⊥
memory-not-done e = cc

pub len-is : (n m : ℕ) → ◌≡◌ {A = DiskLen} (len.Len m) (len.Len n) → n ≡ m
len-is n m e = cc

-- what is synced is what was read
pub fewer-synced : (old new : Content) → AllSynced new → new.gives ≡ old.gives → old.may_leave old.gives → Fewer old new
fewer-synced old new synced same given = record { crash = λ c l. subst (λ (x : List ℕ). old.may_leave x) (sym (synced.only c l ∙ same)) given }
