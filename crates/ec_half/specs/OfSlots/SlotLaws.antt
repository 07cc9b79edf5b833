-- What the slots say of an image's generation, and what a write to the header leaves of the content.
use Rattle.std.specs.Prelude.{◌≡◌, ◌+◌, ◌≤◌, ℕ, List, length, max}
use Rattle.std.proofs.Common.{inl, inr, arith, ◌∙◌, sym}
use Rattle.std.proofs.lemmas.Bool.{cases_eq}
use Rattle.std.proofs.lemmas.Bool.Decides.{nat_tests}
use Rattle.std.proofs.lemmas.List.{ext_get_or}
use Rattle.ec_disk.specs.Effects.{written}
use Rattle.ec_disk.specs.Images.{length-written, byte-written_out}
use Rattle.ec_half.specs.OfSlots.Contents.{content, length-content, byte-content}
use Rattle.ec_half.specs.declared.slots.slot.Slot.{Slot}
use Rattle.ec_half.specs.declared.slots.slot.Slot.TheVariants as slot
use Rattle.ec_half.specs.OfSlots.Slots.{gate_in, number_in, shown_in, open_gate, generation, HoldsGeneration}

-- a write to the header
pub content-header : (at : ℕ) (piece x : List ℕ) → at + length piece ≤ 4096 → 4096 ≤ length x → content (written at piece x) ≡ content x
content-header at piece x inside long =
    ext_get_or 0 (content (written at piece x)) (content x)
    (omega (arith, length-content (written at piece x), length-content x, length-written at piece x, inside, long))
    (λ i lt. byte-content (written at piece x) i ∙ byte-written_out at piece x (4096 + i) (λ r. omega (arith, r.1, inside)) ∙ sym (byte-content x i))

shown_open : (image : List ℕ) (s : Slot) → gate_in image s ≡ open_gate → shown_in image s ≡ number_in image s
shown_open image s is = grind (arith, nat_tests, is)

shown_shut : (image : List ℕ) (s : Slot) → (gate_in image s ≡ open_gate → ⊥) → shown_in image s ≡ 0
shown_shut image s shut = grind (arith, nat_tests, shut)

shown_less : (image : List ℕ) (s : Slot) (n : ℕ) → (gate_in image s ≡ open_gate → number_in image s ≤ n) → shown_in image s ≤ n
shown_less image s n less = elim (cases_eq (gate_in image s) open_gate) [
  | inl is ↦ omega (arith, shown_open image s is, less is)
  | inr shut ↦ omega (arith, shown_shut image s shut)
]

first_greater : (a b n : ℕ) → a ≡ n → b ≤ n → max a b ≡ n
first_greater a b n is le = grind (arith, nat_tests, is, le)

second_greater : (a b n : ℕ) → a ≤ n → b ≡ n → max a b ≡ n
second_greater a b n le is = grind (arith, nat_tests, is, le)

-- what a slot holds is the image's generation
pub generation_is : (image : List ℕ) (s : Slot) (n : ℕ) → HoldsGeneration image s n → generation image ≡ n
generation_is image slot.First n holds =
    first_greater (shown_in image slot.First) (shown_in image slot.Second) n (shown_open image slot.First holds.is_open ∙ holds.number_is) (shown_less image slot.Second n holds.other_less)
generation_is image slot.Second n holds =
    second_greater (shown_in image slot.First) (shown_in image slot.Second) n (shown_less image slot.First n holds.other_less) (shown_open image slot.Second holds.is_open ∙ holds.number_is)
