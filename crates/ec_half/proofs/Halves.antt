-- What calls make of a half of a mirror.
use Rattle.std.proofs.Common.{◌≡◌, ◌+◌, ◌*◌, ◌-◌, ◌≤◌, ◌<◌, ℕ, List, [], length, Option, Some, None, arith, ◌∙◌, ap, refl, sym, subst}
use Rattle.std.specs.Prelude.{max, SomeIff, IfSome, ◌%◌, ◌==◌, if◌then◌else◌}
use Rattle.std.proofs.lemmas.Bool.Decides.{nat_tests}
use Rattle.ec_base.specs.Outside.{Rose, one_more}
use Rattle.std.proofs.Math.Nat.{mul-add-mod_self_left}
use Rattle.std.proofs.Math.ListN.{drop_of_length-le}
use Rattle.std.proofs.lemmas.List.{ext_get_or}
use Rattle.std.proofs.lemmas.List.FromFn.{length-map-range_with_len, get_or-map-range_with_len}
use Rattle.ec_disk.specs.Choices.{cut, Saves}
use Rattle.ec_disk.specs.Disk.{View, byte, part}
use Rattle.ec_disk.specs.Effects.{InRange, IsSynced, Cut, Rests, Wrote, written}
use Rattle.ec_disk.specs.Images.{length-written}
use Rattle.ec_disk.specs.Undo.{torn, torn_byte}
use Rattle.ec_disk.specs.declared.disk.DiskAnswer.{DiskAnswer}
use Rattle.ec_disk.specs.declared.disk.DiskAnswer.TheVariants as said
use Rattle.ec_disk.specs.declared.disk.DiskLen.{DiskLen}
use Rattle.ec_disk.specs.declared.disk.DiskLen.TheVariants as len
use Rattle.ec_disk.specs.declared.disk.Choice.{Choice}
use Rattle.ec_disk.specs.declared.disk.Choice.TheVariants as choice
use Rattle.ec_half.specs.OfSlots.Contents.{content, content-written, part-content, length-content, byte-content}
use Rattle.ec_half.specs.Contents.{IsHalf, HasHeader, HasLength, Rested, Stays, Fewer, Loosened, content_behind, behind-wrote, behind-raised, long-fewer, long-after}
use Rattle.ec_base.proofs.Options.{none-number}

one_more-rises : (a b : ℕ) → a ≤ b → one_more a ≤ one_more b
one_more-rises a b le = grind (arith, nat_tests, le)

pub rose-since : (a b c : ℕ) → a ≤ b → Rose b c → Rose a c
rose-since a b c le rose = omega (arith, one_more-rises a b le, rose)

pub half-rests : (n : ℕ) (old new : View) → IsHalf old n → Rests old new → IsHalf new n
half-rests n old new half rests = record { long = long-fewer old new half.long rests.crash; len_is = ap (λ (l : List ℕ). length (content l)) rests.gives ∙ half.len_is }

pub half-wrote : (at m : ℕ) (piece : List ℕ) (old new : View) → IsHalf old m → old.may_leave old.gives → Wrote (InRange (at + 4096) (length piece)) old new → new.gives ≡ written (at + 4096) piece old.gives → IsHalf new (max m (at + length piece))
half-wrote at m piece old new half given wrote is = record {
  long = long-after (InRange (at + 4096) (length piece)) old new half.long wrote.crash;
  len_is =
      ap (λ (l : List ℕ). length l) (ap content is ∙ content-written at piece old.gives (half.long old.gives given))
      ∙ length-written at piece (content old.gives)
      ∙ size (length (content old.gives)) m (at + length piece) half.len_is;
}
  where
    size : (l n e : ℕ) → l ≡ n → e + (l - e) ≡ max n e
    size l n e same = omega (arith, same)

pub half-raised : (old new : View) (len : ℕ) → HasLength old len → 4096 ≤ length new.gives → content new.gives ≡ content old.gives → IsSynced new → IsHalf new len
half-raised old new len has long same synced = record {
  long = λ image left. subst (λ (l : List ℕ). 4096 ≤ length l) (sym (synced image left)) long;
  len_is = ap (λ (l : List ℕ). length l) same ∙ has.len_is;
}

pub half-length : (now : View) (len : ℕ) → IsHalf now len → now.may_leave now.gives → HasLength now len
half-length now len half given = record { long = half.long now.gives given; len_is = half.len_is }

pub half-inside : (n at count : ℕ) (now : View) → IsHalf now n → now.may_leave now.gives → at + count ≤ n → (at + 4096) + count ≤ length now.gives
half-inside n at count now half given le = omega (arith, half.long now.gives given, half.len_is, length-content now.gives, le)

pub half-grown : (at m n end place : ℕ) (piece : List ℕ) (old new : View) → place ≡ at + 4096 → end ≡ at + length piece → n ≡ max m end → IsHalf old m → old.may_leave old.gives → Wrote (InRange place (length piece)) old new → new.gives ≡ written place piece old.gives → IsHalf new n
half-grown at m n end place piece old new there ends is half given wrote done =
    subst (λ (k : ℕ). IsHalf new k) (sym (is ∙ ap (λ (k : ℕ). max m k) ends))
    (half-wrote at m piece old new half given (subst (λ (k : ℕ). Wrote (InRange k (length piece)) old new) there wrote) (done ∙ ap (λ (k : ℕ). written k piece old.gives) there))

pub length-known : (n : ℕ) (old new : View) → n ≡ length old.gives → new.gives ≡ old.gives → 4096 ≤ n → HasLength new (n - 4096)
length-known n old new is same le = record {
  long = omega (arith, le, is, ap (λ (l : List ℕ). length l) same);
  len_is = omega (arith, length-content new.gives, is, ap (λ (l : List ℕ). length l) same);
}

some_same : (a b : ℕ) → ◌≡◌ {A = Option ℕ} (Some a) (Some b) → b ≡ a
some_same a b e = cc

-- what a sum that was checked is
pub some_is : (r : Option ℕ) (P : Type 0) (v x : ℕ) → SomeIff r P v → r ≡ Some x → x ≡ v
some_is None P v x iff is = absurd (none-number x is)
some_is (Some y) P v x iff is = some_same y x is ∙ iff.1

pub if_some : (r : Option ℕ) (P : Type 0) (v : ℕ) (Q : ℕ → Type 0) → SomeIff r P v → Q v → IfSome r Q
if_some None P v Q iff q = tt
if_some (Some x) P v Q iff q = subst Q (sym iff.1) q

pub half-of : (now : View) (m n : ℕ) → ◌≡◌ {A = Option ℕ} (Some m) (Some n) → IsHalf now m → IsHalf now n
half-of now m n is half = subst (λ (k : ℕ). IsHalf now k) (sym (some_same m n is)) half

-- what is read at a place of the disk is read of the content
pub read-behind : (at place n : ℕ) (bytes : List ℕ) (now : View) → place ≡ at + 4096 → bytes ≡ part now.gives place n → bytes ≡ part (content_behind now).gives at n
read-behind at place n bytes now there is = is ∙ ap (λ (k : ℕ). part now.gives k n) there ∙ part-content now.gives at n

pub written-behind : (at place : ℕ) (piece : List ℕ) (old new : View) → place ≡ at + 4096 → HasHeader old → new.gives ≡ written place piece old.gives → (content_behind new).gives ≡ written at piece (content_behind old).gives
written-behind at place piece old new there long is = ap content (is ∙ ap (λ (k : ℕ). written k piece old.gives) there) ∙ content-written at piece old.gives long

pub header-stays : (place : ℕ) (piece : List ℕ) (old new : View) → HasHeader old → new.gives ≡ written place piece old.gives → HasHeader new
header-stays place piece old new long is = omega (arith, long, length-written place piece old.gives, ap (λ (l : List ℕ). length l) is)

pub loosened-behind : (at place n : ℕ) (old new : View) → place ≡ at + 4096 → Wrote (InRange place n) old new → new.synced ≡ old.synced → Loosened (InRange at n) (content_behind old) (content_behind new)
loosened-behind at place n old new there wrote kept = behind-wrote at n old new (subst (λ (k : ℕ). Wrote (InRange k n) old new) there wrote) kept

none_is : (v : Option ℕ) (m : ℕ) → v ≡ None → v ≡ Some m → ⊥
none_is v m none some = none-number m (sym none ∙ some)

pub known-more : (old new : Option ℕ) (n end place : ℕ) → ((m : ℕ) → old ≡ Some m → new ≡ Some (max m end)) → end ≡ place → old ≡ Some n → new ≡ Some (max n place)
known-more old new n end place grows there is = subst (λ (k : ℕ). new ≡ Some (max n k)) there (grows n is)

pub saves-done : (a : DiskAnswer) (old new : View) → a ≡ said.Done → Saves a old new → (content_behind new).synced ≡ (content_behind new).gives
saves-done a old new is saves = ap content (subst (λ (x : DiskAnswer). Saves x old new) is saves)

pub saves-not : (a : DiskAnswer) (old new : View) → (a ≡ said.Done → ⊥) → Saves a old new → (content_behind new).synced ≡ (content_behind old).synced
saves-not said.Done old new not saves = absurd (not refl)
saves-not said.Failed old new not saves = ap content saves
saves-not said.Stopped old new not saves = ap content saves
saves-not said.NoMemory old new not saves = ap content saves

-- where a crash leaves what a read gives, that was synced
pub synced-gives : (now : View) → IsSynced now → now.may_leave now.synced → (content_behind now).synced ≡ (content_behind now).gives
synced-gives now synced given = ap content (synced now.synced given)

pub length-behind : (n len : ℕ) (now : View) → n ≡ length now.gives → len ≡ n - 4096 → len ≡ length (content_behind now).gives
length-behind n len now is less = omega (arith, is, less, length-content now.gives)

pub raised-behind : (old mid new : View) → Rested (content_behind old) (content_behind mid) → content new.gives ≡ content mid.gives → IsSynced new → mid.may_leave mid.gives → Stays (content_behind old) (content_behind new)
raised-behind old mid new rested same synced given =
    let stays = behind-raised mid new same synced given in
    record { gives = stays.gives ∙ rested.gives; crash = λ c left. rested.crash c (stays.crash c left) }

pub fewer-behind : (old new : View) → Cut old new → Fewer (content_behind old) (content_behind new)
fewer-behind old new cuts = record { crash = λ c left. (left.0, cuts.crash left.0 left.1, left.2) }

-- a power cut, seen from the content
even : (i : ℕ) → (0 + (4096 + i)) % 2 ≡ (0 + i) % 2
even i = ap (λ (k : ℕ). k % 2) (front i) ∙ mul-add-mod_self_left 2 2048 i ∙ ap (λ (k : ℕ). k % 2) (back i)
  where
    front : (k : ℕ) → 0 + (4096 + k) ≡ 2 * 2048 + k
    front k = omega arith

    back : (k : ℕ) → k ≡ 0 + k
    back k = omega arith

content-torn : (now synced : List ℕ) → content (torn 0 now synced) ≡ torn 0 (content now) (content synced)
content-torn now synced =
    ext_get_or 0 (content whole) (torn 0 (content now) (content synced)) size (λ i lt. each i (omega (arith, lt, length-content whole, whole_len)))
  where
    whole : List ℕ
    whole = torn 0 now synced

    whole_len : length whole ≡ length now
    whole_len = length-map-range_with_len (torn_byte 0 now synced) 0 (length now)

    size : length (content whole) ≡ length (torn 0 (content now) (content synced))
    size = omega (arith, length-content whole, whole_len, length-content now, length-map-range_with_len (torn_byte 0 (content now) (content synced)) 0 (length (content now)))

    by_place : (a b : ℕ) (i j : ℕ) (x y : ℕ) → i % 2 ≡ j % 2 → a ≡ x → b ≡ y → (if i % 2 == 0 then a else b) ≡ (if j % 2 == 0 then x else y)
    by_place a b i j x y same first second =
        ap (λ (k : ℕ). if k == 0 then a else b) same
        ∙ ap (λ (k : ℕ). if j % 2 == 0 then k else b) first
        ∙ ap (λ (k : ℕ). if j % 2 == 0 then x else k) second

    each : (i : ℕ) → 4096 + i < length now → byte (content whole) i ≡ byte (torn 0 (content now) (content synced)) i
    each i lt =
        byte-content whole i
        ∙ get_or-map-range_with_len (torn_byte 0 now synced) 0 (length now) (4096 + i) (4096 + i) 0 lt (omega arith)
        ∙ by_place (byte now (4096 + i)) (byte synced (4096 + i)) (0 + (4096 + i)) (0 + i) (byte (content now) i) (byte (content synced) i) (even i) (sym (byte-content now i)) (sym (byte-content synced i))
        ∙ sym (get_or-map-range_with_len (torn_byte 0 (content now) (content synced)) 0 (length (content now)) i i 0 (omega (arith, lt, length-content now)) (omega arith))

pub content-cut : (c : Choice) (now synced : List ℕ) → content (cut c now synced) ≡ cut c (content now) (content synced)
content-cut choice.Old now synced = refl
content-cut choice.New now synced = refl
content-cut choice.Torn now synced = content-torn now synced

pub left-behind : (c : Choice) (old new : View) → new.gives ≡ cut c old.gives old.synced → (content_behind new).gives ≡ cut c (content_behind old).gives (content_behind old).synced
left-behind c old new is = ap content is ∙ content-cut c old.gives old.synced

len_is : (a b : ℕ) → ◌≡◌ {A = DiskLen} (len.Len a) (len.Len b) → b ≡ a
len_is a b e = cc

pub told-length : (asked less n : ℕ) (now : View) → asked ≡ length now.gives → less ≡ asked - 4096 → ◌≡◌ {A = DiskLen} (len.Len less) (len.Len n) → n ≡ length (content_behind now).gives
told-length asked less n now is minus same = len_is less n same ∙ length-behind asked less now is minus

-- a header that was written, and synced
pub begun-header : (bytes : List ℕ) (old mid now : View) → length bytes ≡ 4096 → mid.gives ≡ written 0 bytes old.gives → now.gives ≡ mid.gives → HasHeader now
begun-header bytes old mid now size is same = omega (arith, size, length-written 0 bytes old.gives, ap (λ (l : List ℕ). length l) (same ∙ is))

nothing : (x : List ℕ) → length x ≤ 4096 → content x ≡ []
nothing x le = drop_of_length-le x le

-- it has no content, as before
pub begun-content : (bytes : List ℕ) (old mid now new : View) → length bytes ≡ 4096 → length old.gives ≤ 4096 → mid.gives ≡ written 0 bytes old.gives → now.gives ≡ mid.gives → content new.gives ≡ content now.gives → content new.gives ≡ content old.gives
begun-content bytes old mid now new size less is same still =
    still ∙ nothing now.gives (omega (arith, size, less, length-written 0 bytes old.gives, ap (λ (l : List ℕ). length l) (same ∙ is))) ∙ sym (nothing old.gives less)

pub header-rests : (old new : View) → Rests old new → HasHeader old → HasHeader new
header-rests old new rests long = omega (arith, long, ap (λ (l : List ℕ). length l) rests.gives)
