-- What an opening finds on two disks, and how they are joined.
use Rattle.std.proofs.Common.{◌≡◌, ◌≤◌, ◌<◌, ℕ, List, length, Bool, true, false, refl, sym, ◌∙◌, ap, arith}
use Rattle.std.specs.Prelude.{max}
use Rattle.std.proofs.lemmas.Bool.Decides.{nat_tests}
use Rattle.ec_half.specs.Headers.{IsFound, number_of}
use Rattle.ec_half.specs.declared.header.Generation.{Generation}
use Rattle.ec_half.specs.OfSlots.Contents.{filled}
use Rattle.ec_half.specs.OfSlots.SlotLaws.{generation_is}
use Rattle.ec_half.specs.OfSlots.Slots.{HoldsGeneration, generation}
use Rattle.ec_half.proofs.Fills.{length-filled}

either : (b : Bool) (P N : Type 0) → (b ≡ true → N) → (b ≡ false → P → ⊥) → P → N
either true P N if_open if_shut p = if_open refl
either false P N if_open if_shut p = absurd (if_shut refl p)

found-holds : (image : List ℕ) (g : Generation) → 4096 < length image → IsFound image g → HoldsGeneration image g.slot g.number
found-holds image g long found = record {
  long = omega (arith, long);
  is_open = found.is_open;
  number_is = found.number_is;
  other_less = λ open_too. either g.is_open _ _ found.other_less found.other_shut open_too;
}

pub number-empty : (image : List ℕ) → length image ≤ 4096 → number_of image ≡ 1
number-empty image le = grind (arith, nat_tests, le)

long-number : (image : List ℕ) → 4096 < length image → number_of image ≡ generation image
long-number image long = grind (arith, nat_tests, long)

pub number-half : (image : List ℕ) (g : Generation) → 4096 < length image → IsFound image g → number_of image ≡ g.number
number-half image g long found = long-number image long ∙ generation_is image g.slot g.number (found-holds image g long found)

pub filled-joined : (first second third fourth other : List ℕ) (n : ℕ) → second ≡ first → third ≡ filled second n → fourth ≡ third → n ≡ length other → fourth ≡ filled first (length other)
filled-joined first second third fourth other n same more still is = still ∙ more ∙ ap (λ (l : List ℕ). filled l n) same ∙ ap (λ (k : ℕ). filled first k) is

pub known-length : (first second : List ℕ) (n : ℕ) → n ≡ length first → second ≡ first → n ≡ length second
known-length first second n is same = is ∙ ap (λ (l : List ℕ). length l) (sym same)

pub length-joined : (second third : List ℕ) (m n most : ℕ) → m ≡ length second → third ≡ filled second n → most ≡ max m n → most ≡ length third
length-joined second third m n most is more size = omega (arith, is, size, ap (λ (l : List ℕ). length l) more, length-filled second n)

pub fits-joined : (first second : List ℕ) (m n most : ℕ) → n ≡ length first → second ≡ first → most ≡ max m n → length second ≤ most
fits-joined first second m n most is same size = omega (arith, is, size, ap (λ (l : List ℕ). length l) same)
