-- A raise of the generation by the slots.
use Rattle.std.proofs.Common.{◌≡◌, ◌+◌, ℕ, Bool, true, List, arith, sym, subst}
use Rattle.ec_disk.specs.Disk.{View}
use Rattle.ec_disk.specs.Effects.{InRange, LeavesOnly, Wrote}
use Rattle.ec_half.specs.Headers.{AllHave}
use Rattle.ec_half.specs.OfSlots.Slots.{AreReady, HoldsEither, other}
use Rattle.ec_half.specs.declared.header.Generation.{Generation}
use Rattle.ec_half.specs.declared.slots.slot.Slot.{Slot}
use Rattle.ec_half.proofs.OfSlots.Raising.{behind-slots}

pub ready-for : (now : View) (g : Generation) (spare : Slot) (is_open : Bool) → spare ≡ other g.slot → g.is_open ≡ is_open → AllHave now g → AreReady now spare is_open g.number
ready-for now g spare is_open there is have =
    subst (λ (s : Slot). AreReady now s is_open g.number) (sym there) (subst (λ (b : Bool). AreReady now (other g.slot) b g.number) is have)

pub leaves-for : (old new : View) (present number : ℕ) (spare s : Slot) → spare ≡ s → LeavesOnly old new (HoldsEither spare present number) → LeavesOnly old new (HoldsEither s present number)
leaves-for old new present number spare s there leaves = subst (λ (k : Slot). LeavesOnly old new (HoldsEither k present number)) there leaves

pub raised-for : (new : View) (number : ℕ) (spare s : Slot) → spare ≡ s → AreReady new (other spare) true number → AreReady new (other s) true number
raised-for new number spare s there ready = subst (λ (k : Slot). AreReady new (other k) true number) there ready

-- calls behind the header
pub have-fewer : (old new : View) (g : Generation) → AllHave old g → ((image : List ℕ) → new.may_leave image → old.may_leave image) → AllHave new g
have-fewer old new g have fewer image left = have image (fewer image left)

pub have-wrote : (at place n : ℕ) (old new : View) (g : Generation) → place ≡ at + 4096 → Wrote (InRange place n) old new → AllHave old g → AllHave new g
have-wrote at place n old new g there wrote have image left =
    let after = wrote.crash image left in
    behind-slots (other g.slot) g.is_open g.number (InRange place n) after.0 image (have after.0 after.1) after.2 (λ i r. omega (arith, there, r.0))
