-- What stands behind the header of a mirror's disk.
use Rattle.std.specs.Prelude.{◌≡◌, ◌+◌, ◌≤◌, ℕ, List, length}
use Rattle.std.proofs.Common.{arith, ◌∙◌, ap, refl, sym, subst}
use Rattle.ec_disk.specs.Disk.{View}
use Rattle.ec_disk.specs.Effects.{Loose, InRange, After, IsSynced, Rests, Wrote}
use Rattle.ec_disk.specs.Runs.{loose-same}
use Rattle.ec_half.specs.OfSlots.Contents.{content, byte-content, length-content}
use Rattle.ec_half.specs.OfSlots.Slots.{header_bytes}

-- a disk's content at one moment: what a read gives, what was synced, and what a crash may leave
pub record Content : Type 1 where
  pub gives : List ℕ
  pub synced : List ℕ
  pub may_leave : List ℕ → Type 0

abbrev pub content_behind : View → Content
content_behind now = record { gives = content now.gives; synced = content now.synced; may_leave = λ c. (image : List ℕ) × now.may_leave image × (c ≡ content image) }

-- the header is there, whatever a crash leaves
abbrev pub IsLong : View → Type 0
IsLong now = (image : List ℕ) → now.may_leave image → header_bytes ≤ length image

-- the header is there
abbrev pub HasHeader : View → Type 0
HasHeader now = header_bytes ≤ length now.gives

-- a call that writes nothing there
pub record Rested (old new : Content) : Type 0 where
  pub gives : new.gives ≡ old.gives
  pub synced : new.synced ≡ old.synced
  pub crash : (c : List ℕ) → new.may_leave c → old.may_leave c

-- the same, which may sync
pub record Stays (old new : Content) : Type 0 where
  pub gives : new.gives ≡ old.gives
  pub crash : (c : List ℕ) → new.may_leave c → old.may_leave c

-- a crash may leave less than it might have before
pub record Fewer (old new : Content) : Type 0 where
  pub crash : (c : List ℕ) → new.may_leave c → old.may_leave c

-- writes at these places alone
pub record Loosened (Places : ℕ → Type 0) (old new : Content) : Type 0 where
  pub synced : new.synced ≡ old.synced
  pub crash : (c : List ℕ) → new.may_leave c → (before : List ℕ) × old.may_leave before × Loose Places before c

-- a crash leaves what a read gives and nothing else
pub record AllSynced (now : Content) : Type 0 where
  pub only : (c : List ℕ) → now.may_leave c → c ≡ now.gives

pub rested-same : (now : Content) → Rested now now
rested-same now = record { gives = refl; synced = refl; crash = λ c left. left }

pub loosened-same : (W : ℕ → Type 0) (now : Content) → Loosened W now now
loosened-same W now = record { synced = refl; crash = λ c left. (c, left, loose-same W c) }

pub rested-then : (a b c : Content) → Rested a b → Rested b c → Rested a c
rested-then a b c first second = record { gives = second.gives ∙ first.gives; synced = second.synced ∙ first.synced; crash = λ image left. first.crash image (second.crash image left) }

pub stays-then : (a b c : Content) → Stays a b → Stays b c → Stays a c
stays-then a b c first second = record { gives = second.gives ∙ first.gives; crash = λ image left. first.crash image (second.crash image left) }

pub stays-rested : (a b c : Content) → Stays a b → Rested b c → Stays a c
stays-rested a b c first second = record { gives = second.gives ∙ first.gives; crash = λ image left. first.crash image (second.crash image left) }

-- what is synced stays so
pub synced-rested : (old new : Content) → AllSynced old → Rested old new → AllSynced new
synced-rested old new synced rests = record { only = λ c left. synced.only c (rests.crash c left) ∙ sym rests.gives }

pub synced-stays : (old new : Content) → AllSynced old → Stays old new → AllSynced new
synced-stays old new synced stays = record { only = λ c left. synced.only c (stays.crash c left) ∙ sym stays.gives }

pub saved-rested : (old new : Content) → old.synced ≡ old.gives → Rested old new → new.synced ≡ new.gives
saved-rested old new saved rests = rests.synced ∙ saved ∙ sym rests.gives

pub behind-rests : (old new : View) → Rests old new → new.synced ≡ old.synced → Rested (content_behind old) (content_behind new)
behind-rests old new rests kept = record { gives = ap content rests.gives; synced = ap content kept; crash = λ c left. (left.0, rests.crash left.0 left.1, left.2) }

pub behind-stays : (old new : View) → Rests old new → Stays (content_behind old) (content_behind new)
behind-stays old new rests = record { gives = ap content rests.gives; crash = λ c left. (left.0, rests.crash left.0 left.1, left.2) }

-- a crash in a write behind the header, seen from the content
pub behind-loose : (at n : ℕ) (x c : List ℕ) → Loose (InRange (at + 4096) n) x c → Loose (InRange at n) (content x) (content c)
behind-loose at n x c loose = record {
  no_shorter = omega (arith, length-content x, length-content c, loose.no_shorter);
  outside = λ i lt out.
      byte-content c i
      ∙ loose.outside (4096 + i) (omega (arith, lt, length-content x)) (λ r. out (omega (arith, r.0), omega (arith, r.1)))
      ∙ sym (byte-content x i);
}

pub behind-wrote : (at n : ℕ) (old new : View) → Wrote (InRange (at + 4096) n) old new → new.synced ≡ old.synced → Loosened (InRange at n) (content_behind old) (content_behind new)
behind-wrote at n old new wrote kept = record { synced = ap content kept; crash = from }
  where
    from : (c : List ℕ) → (content_behind new).may_leave c → (before : List ℕ) × (content_behind old).may_leave before × Loose (InRange at n) before c
    from c left =
        let after = wrote.crash left.0 left.1 in
        (content after.0, (after.0, after.1, refl), subst (λ (l : List ℕ). Loose (InRange at n) (content after.0) l) (sym left.2) (behind-loose at n after.0 left.0 after.2))

-- a disk that is synced, with the content that it had
pub behind-raised : (old new : View) → content new.gives ≡ content old.gives → IsSynced new → old.may_leave old.gives → Stays (content_behind old) (content_behind new)
behind-raised old new same synced given = record { gives = same; crash = λ c left. (old.gives, given, left.2 ∙ ap content (synced left.0 left.1) ∙ same) }

pub behind-synced : (now : View) → IsSynced now → AllSynced (content_behind now)
behind-synced now synced = record { only = λ c left. left.2 ∙ ap content (synced left.0 left.1) }

pub long-fewer : (old new : View) → IsLong old → ((image : List ℕ) → new.may_leave image → old.may_leave image) → IsLong new
long-fewer old new long fewer image left = long image (fewer image left)

pub long-after : (W : ℕ → Type 0) (old new : View) → IsLong old → ((image : List ℕ) → new.may_leave image → After old W image) → IsLong new
long-after W old new long from image left =
    let after = from image left in
    omega (arith, long after.0 after.1, after.2.no_shorter)

-- A half of a mirror: the header is there, and the content has this length.
pub record IsHalf (now : View) (len : ℕ) : Type 0 where
  pub long : IsLong now
  pub len_is : length (content now.gives) ≡ len

-- what is read now is as long as a header and so much more
pub record HasLength (now : View) (len : ℕ) : Type 0 where
  pub long : header_bytes ≤ length now.gives
  pub len_is : length (content now.gives) ≡ len
