-- How many calls of a disk there were.
use Rattle.std.proofs.Common.{◌≡◌, ℕ, ◌+◌, ◌-◌, ◌≤◌, [], Option, Some, None, refl, ap, subst, arith}
use Rattle.ec_base.specs.Outside.{one_more}
use Rattle.ec_disk.specs.Disk.{View, Counts, after_calls}
use Rattle.ec_disk.specs.Effects.{Called}
use Rattle.ec_disk.specs.Calls.{Call}
use Rattle.ec_disk.specs.Counting.{called_both, turned_none, turned_for}
use Rattle.ec_disk.specs.Choices.{Saves}
use Rattle.ec_disk.specs.declared.disk.DiskAnswer.{DiskAnswer}
use Rattle.ec_disk.specs.declared.disk.DiskAnswer.TheVariants.{Done, Failed, Stopped, NoMemory}
use Rattle.ec_journal.specs.Ends.{DidAll, EndsBy, TurnedUpTo, did_both, ends_later, turns_later}

none_called : (armed : Option ℕ) → armed ≡ after_calls 0 armed
none_called None = refl
none_called (Some left) = ap (λ (k : ℕ). Some k) (less left)
  where
    less : (n : ℕ) → n ≡ n - 0
    less n = omega arith

pub no_call : (a : Counts) → Called 0 a a
no_call a = record { numbered = refl; armed = none_called a.armed }

pub one_call : (n m : ℕ) (a b c : Counts) → n + 1 ≡ m → Called n a b → c.calls ≡ one_more b.calls → c.armed ≡ after_calls 1 b.armed → Called m a c
one_call n m a b c is so_far numbered armed = subst (λ (k : ℕ). Called k a c) is (called_both n 1 a b c so_far (record { numbered = numbered; armed = armed }))

pub both_called : (n k m : ℕ) (a b c : Counts) → n + k ≡ m → Called n a b → Called k b c → Called m a c
both_called n k m a b c is first second = subst (λ (j : ℕ). Called j a c) is (called_both n k a b c first second)

-- Calls that were done, and the one that ended them.

module _ {D : Type 0} (does : D → Call → D → Type 0) where
  pub did_none : (now : D) → DidAll does 0 now now
  did_none now = ([], refl, refl)

  pub did_then : (m n k : ℕ) (old mid new : D) → m + n ≡ k → DidAll does m old mid → DidAll does n mid new → DidAll does k old new
  did_then m n k old mid new is first second = subst (λ (j : ℕ). DidAll does j old new) is (did_both does m n old mid new first second)

  -- where more calls were to come
  pub ends_within : (answer : DiskAnswer) (m n : ℕ) (old new : D) → m ≤ n → EndsBy does answer m old new → EndsBy does answer n old new
  ends_within answer m n old new le is = record { calls = is.calls; fewer = omega (arith, is.fewer, le); before = is.before; did = is.did; last = is.last; is = is.is; ends = is.ends }

  pub ends_then : (answer : DiskAnswer) (m n k : ℕ) (old mid new : D) → m + n ≤ k → DidAll does m old mid → EndsBy does answer n mid new → EndsBy does answer k old new
  ends_then answer m n k old mid new le did is = ends_within answer (m + n) k old new le (ends_later does answer m n old mid new did is)

-- Turns of an armed disk.

pub turns_none : (a : Option ℕ) (G : Type 0) → TurnedUpTo 0 a a G ⊥
turns_none a G = record { turns = 0; few = omega arith; all = λ g. refl; turned = turned_none a G }

pub turns_then : (m n k : ℕ) (a b c : Option ℕ) (G H S T : Type 0) → m + n ≡ k → TurnedUpTo m a b G S → G → TurnedUpTo n b c H T → TurnedUpTo k a c H T
turns_then m n k a b c G H S T is first done second = subst (λ (j : ℕ). TurnedUpTo j a c H T) is (turns_later m n a b c G H S T first done second)

-- turns that end where more were to come
pub turns_within : (m n : ℕ) (a b : Option ℕ) (G H S T : Type 0) → m ≤ n → TurnedUpTo m a b G S → (H → ⊥) → (T → S) → TurnedUpTo n a b H T
turns_within m n a b G H S T le is ends stops = record {
  turns = is.turns;
  few = omega (arith, is.few, le);
  all = λ h. absurd (ends h);
  turned = turned_for is.turns a b G H S T (λ h. absurd (ends h)) stops is.turned;
}

-- What a sync leaves synced.

pub saves_done : (answer : DiskAnswer) (old new : View) → answer ≡ Done → Saves answer old new → new.synced ≡ new.gives
saves_done answer old new is saves = subst (λ (a : DiskAnswer). Saves a old new) is saves

pub saves_not : (answer : DiskAnswer) (old new : View) → (answer ≡ Done → ⊥) → Saves answer old new → new.synced ≡ old.synced
saves_not Done old new other saves = absurd (other refl)
saves_not Failed old new other saves = saves
saves_not Stopped old new other saves = saves
saves_not NoMemory old new other saves = saves
