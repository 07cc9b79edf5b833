-- What a raise of the generation leaves at each moment.
use Rattle.std.proofs.Common.{◌≡◌, inl, inr, ℕ, ◌+◌, ◌<◌, ◌≤◌, ◌^◌, List, [], ◌∷◌, Bool, true, false, length, refl, sym, ◌∙◌, ap, subst, arith}
use Rattle.std.specs.Int.{w64, to_be_bytes, from_be_bytes}
use Rattle.std.proofs.lemmas.Bool.{cases_eq}
use Rattle.std.proofs.lemmas.Nat.{from_be_bytes-to_be_bytes_8}
use Rattle.ec_disk.specs.Disk.{View, byte, part}
use Rattle.ec_disk.specs.Effects.{written, Loose, InRange, After, IsSynced, LeavesOnly}
use Rattle.ec_disk.specs.Images.{part-loose, part-written, byte-written, length-written}
use Rattle.ec_disk.specs.Runs.{Ran, leaves_only, leaves_then, ran_within}
use Rattle.ec_half.specs.OfSlots.Contents.{content}
use Rattle.ec_half.specs.OfSlots.SlotLaws.{content-header}
use Rattle.ec_half.specs.declared.slots.slot.Slot.{Slot}
use Rattle.ec_half.specs.declared.slots.slot.Slot.TheVariants as slot
use Rattle.ec_half.specs.OfSlots.Slots.{place_of, other, number_in, gate_in, open_gate, HoldsGeneration, SlotIsReady, AreReady, HoldsEither}

back : (s : Slot) → other (other s) ≡ s
back slot.First = refl
back slot.Second = refl

-- the slots are apart, and stand in the header
apart : (s : Slot) (i : ℕ) → place_of s ≤ i → i < place_of s + 9 → InRange (place_of (other s)) 9 i → ⊥
apart slot.First i from to r = omega (arith, from, to, r.0)
apart slot.Second i from to r = omega (arith, from, to, r.1)

inside : (s : Slot) → place_of s + 9 ≤ 4096
inside slot.First = omega arith
inside slot.Second = omega arith

-- a slot that isn't written
gate_stays : (s : Slot) (W : ℕ → Type 0) (x c : List ℕ) → 4096 ≤ length x → Loose W x c → (W (place_of s) → ⊥) → gate_in c s ≡ gate_in x s
gate_stays s W x c long loose out = loose.outside (place_of s) (omega (arith, long, inside s)) out

number_stays : (s : Slot) (W : ℕ → Type 0) (x c : List ℕ) → 4096 ≤ length x → Loose W x c → ((i : ℕ) → place_of s + 1 ≤ i → i < place_of s + 9 → W i → ⊥) → number_in c s ≡ number_in x s
number_stays s W x c long loose out =
    ap (λ (l : List ℕ). from_be_bytes w64 l) (part-loose W x c (place_of s + 1) 8 loose (omega (arith, long, inside s)) (λ i from to. out i from (omega (arith, to))))

-- writes behind the header
pub behind-slots : (s : Slot) (is_open : Bool) (present : ℕ) (W : ℕ → Type 0) (x c : List ℕ) → SlotIsReady x s is_open present → Loose W x c → ((i : ℕ) → W i → 4096 ≤ i) → SlotIsReady c s is_open present
behind-slots s is_open present W x c ready loose behind = record {
  long = omega (arith, ready.long, loose.no_shorter);
  present_open = gate_stays (other s) W x c ready.long loose (λ w. omega (arith, behind (place_of (other s)) w, inside (other s))) ∙ ready.present_open;
  present_is = number_stays (other s) W x c ready.long loose (λ i from to w. omega (arith, behind i w, to, inside (other s))) ∙ ready.present_is;
  spare_less = λ is. subst (λ (k : ℕ). k ≤ present) (sym (number_stays s W x c ready.long loose (λ i from to w. omega (arith, behind i w, to, inside s)))) (ready.spare_less is);
  spare_shut = λ is gate. ready.spare_shut is (sym (gate_stays s W x c ready.long loose (λ w. omega (arith, behind (place_of s) w, inside s))) ∙ gate);
}

module _ (spare : Slot) (present : ℕ) where
  abbrev p : ℕ
  p = place_of spare

  abbrev q : Slot
  q = other spare

  -- places of the spare slot alone
  abbrev Within : (ℕ → Type 0) → Type 0
  Within W = (i : ℕ) → W i → InRange p 9 i

  away : (W : ℕ → Type 0) → Within W → (i : ℕ) → place_of q ≤ i → i < place_of q + 9 → W i → ⊥
  away W within i from to w = apart q i from to (subst (λ (s : Slot). InRange (place_of s) 9 i) (sym (back spare)) (within i w))

  -- the present slot stands behind such writes
  present_holds : (W : ℕ → Type 0) (x c : List ℕ) (is_open : Bool) → SlotIsReady x spare is_open present → Loose W x c → Within W → (gate_in c spare ≡ open_gate → number_in c spare ≤ present) → HoldsGeneration c q present
  present_holds W x c is_open ready loose within less = record {
    long = omega (arith, ready.long, loose.no_shorter);
    is_open = gate_stays q W x c ready.long loose (λ w. away W within (place_of q) (omega arith) (omega arith) w) ∙ ready.present_open;
    number_is = number_stays q W x c ready.long loose (λ i from to w. away W within i (omega (arith, from)) to w) ∙ ready.present_is;
    other_less = λ is. subst (λ (s : Slot). number_in c s ≤ present) (sym (back spare)) (less (subst (λ (s : Slot). gate_in c s ≡ open_gate) (back spare) is));
  }

  still_ready : (W : ℕ → Type 0) (x c : List ℕ) (is_open : Bool) → SlotIsReady x spare is_open present → Loose W x c → Within W → (gate_in c spare ≡ open_gate → ⊥) → SlotIsReady c spare false present
  still_ready W x c is_open ready loose within shut =
      let holds = present_holds W x c is_open ready loose within (λ is. absurd (shut is)) in
      record { long = holds.long; present_open = holds.is_open; present_is = holds.number_is; spare_less = λ is. absurd (grind (arith, is)); spare_shut = λ is. shut }

  -- An open gate is shut: its number stands, and is no greater.
  module _ (old mid : View) (ready : AreReady old spare true present) (ran : Ran (InRange p 1) old mid) where
    gate_only : Within (InRange p 1)
    gate_only i r = (r.0, omega (arith, r.1))

    shutting : (c : List ℕ) → After old (InRange p 1) c → HoldsGeneration c q present
    shutting c after =
        present_holds (InRange p 1) after.0 c true (ready after.0 after.1) after.2 gate_only
        (λ is. omega (arith, number_stays spare (InRange p 1) after.0 c (ready after.0 after.1).long after.2 (λ i from to r. omega (arith, from, r.1)), (ready after.0 after.1).spare_less refl))

    pub shutting_leaves : (next : ℕ) → LeavesOnly old mid (HoldsEither spare present next)
    shutting_leaves next = leaves_only (InRange p 1) (HoldsEither spare present next) old mid ran (λ c after. inl (shutting c after))

    pub is_shut : (b : ℕ) → (b ≡ open_gate → ⊥) → mid.gives ≡ written p (b ∷ []) old.gives → mid.may_leave mid.gives → IsSynced mid → AreReady mid spare false present
    is_shut b shut is given synced c left =
        let after = ran.crash mid.gives given in
        subst (λ (image : List ℕ). SlotIsReady image spare false present) (sym (synced c left))
        (still_ready (InRange p 1) after.0 mid.gives true (ready after.0 after.1) after.2 gate_only
        (λ open_now. shut (sym (byte-written p b old.gives) ∙ ap (λ (image : List ℕ). byte image p) (sym is) ∙ open_now)))

  -- A number is written behind a shut gate.
  module _ (next : ℕ) (short : next < 2 ^ 64) (rises : present ≤ next) (old mid : View) (ready : AreReady old spare false present) (ran : Ran (InRange (p + 1) 8) old mid) where
    behind_gate : Within (InRange (p + 1) 8)
    behind_gate i r = (omega (arith, r.0), omega (arith, r.1))

    stays_shut : (c : List ℕ) (after : After old (InRange (p + 1) 8) c) → gate_in c spare ≡ open_gate → ⊥
    stays_shut c after is =
        (ready after.0 after.1).spare_shut refl (sym (gate_stays spare (InRange (p + 1) 8) after.0 c (ready after.0 after.1).long after.2 (λ r. omega (arith, r.0))) ∙ is)

    numbering : (c : List ℕ) → After old (InRange (p + 1) 8) c → HoldsGeneration c q present
    numbering c after = present_holds (InRange (p + 1) 8) after.0 c false (ready after.0 after.1) after.2 behind_gate (λ is. absurd (stays_shut c after is))

    pub numbering_leaves : LeavesOnly old mid (HoldsEither spare present next)
    numbering_leaves = leaves_only (InRange (p + 1) 8) (HoldsEither spare present next) old mid ran (λ c after. inl (numbering c after))

    module _ (is : mid.gives ≡ written (p + 1) (to_be_bytes w64 next) old.gives) (given : mid.may_leave mid.gives) (synced : IsSynced mid) where
      numbered : number_in mid.gives spare ≡ next
      numbered = ap (λ (image : List ℕ). from_be_bytes w64 (part image (p + 1) 8)) is ∙ ap (λ (l : List ℕ). from_be_bytes w64 l) (part-written (p + 1) (to_be_bytes w64 next) old.gives) ∙ from_be_bytes-to_be_bytes_8 next short

      ready_mid : SlotIsReady mid.gives spare false present
      ready_mid =
          let after = ran.crash mid.gives given in
          still_ready (InRange (p + 1) 8) after.0 mid.gives false (ready after.0 after.1) after.2 behind_gate (stays_shut mid.gives after)

      -- The gate opens over it.
      module _ (new : View) (opens : Ran (InRange p 1) mid new) where
        loose : (c : List ℕ) → After mid (InRange p 1) c → Loose (InRange p 1) mid.gives c
        loose c after = subst (λ (x : List ℕ). Loose (InRange p 1) x c) (synced after.0 after.1) after.2

        gate_alone : Within (InRange p 1)
        gate_alone i r = (r.0, omega (arith, r.1))

        number_now : (c : List ℕ) → After mid (InRange p 1) c → number_in c spare ≡ next
        number_now c after = number_stays spare (InRange p 1) mid.gives c ready_mid.long (loose c after) (λ i from to r. omega (arith, from, r.1)) ∙ numbered

        present_number : (c : List ℕ) → After mid (InRange p 1) c → number_in c q ≡ present
        present_number c after = number_stays q (InRange p 1) mid.gives c ready_mid.long (loose c after) (λ i from to w. away (InRange p 1) gate_alone i (omega (arith, from)) to w) ∙ ready_mid.present_is

        next_holds : (c : List ℕ) → After mid (InRange p 1) c → gate_in c spare ≡ open_gate → HoldsGeneration c spare next
        next_holds c after is_open = record {
          long = omega (arith, ready_mid.long, (loose c after).no_shorter);
          is_open = is_open;
          number_is = number_now c after;
          other_less = λ there. omega (arith, present_number c after, rises);
        }

        opening : (c : List ℕ) → After mid (InRange p 1) c → HoldsEither spare present next c
        opening c after = elim (cases_eq (gate_in c spare) open_gate) [
          | inl is_open ↦ inr (next_holds c after is_open)
          | inr shut ↦ inl (present_holds (InRange p 1) mid.gives c false ready_mid (loose c after) gate_alone (λ is_open. absurd (shut is_open)))
        ]

        pub opening_leaves : LeavesOnly old new (HoldsEither spare present next)
        opening_leaves = leaves_then (HoldsEither spare present next) old mid new numbering_leaves (leaves_only (InRange p 1) (HoldsEither spare present next) mid new opens opening)

        pub is_raised : new.gives ≡ written p (open_gate ∷ []) mid.gives → new.may_leave new.gives → IsSynced new → AreReady new q true next
        is_raised wrote new_given new_synced c left =
            let after = opens.crash new.gives new_given in
            let holds = next_holds new.gives after (ap (λ (image : List ℕ). byte image p) wrote ∙ byte-written p open_gate mid.gives) in
            subst (λ (image : List ℕ). SlotIsReady image q true next) (sym (new_synced c left))
            record {
              long = holds.long;
              present_open = subst (λ (s : Slot). gate_in new.gives s ≡ open_gate) (sym (back spare)) holds.is_open;
              present_is = subst (λ (s : Slot). number_in new.gives s ≡ next) (sym (back spare)) holds.number_is;
              spare_less = λ is. omega (arith, present_number new.gives after, rises);
              spare_shut = λ is. absurd (grind (arith, is));
            }

-- both writes are in the slot
pub number_ran : (p : ℕ) (old mid : View) → Ran (InRange (p + 1) 8) old mid → Ran (InRange p 9) old mid
number_ran p old mid ran = ran_within (InRange (p + 1) 8) (InRange p 9) (λ i r. (omega (arith, r.0), omega (arith, r.1))) old mid ran

pub gate_ran : (p : ℕ) (old mid : View) → Ran (InRange p 1) old mid → Ran (InRange p 9) old mid
gate_ran p old mid ran = ran_within (InRange p 1) (InRange p 9) (λ i r. (r.0, omega (arith, r.1))) old mid ran

-- the same by the place and the bytes that the code has
pub number_there : (spare : Slot) (next at : ℕ) (bytes : List ℕ) → at ≡ place_of spare → bytes ≡ to_be_bytes w64 next → (old mid : View) → Ran (InRange (at + 1) (length bytes)) old mid → Ran (InRange (place_of spare + 1) 8) old mid
number_there spare next at bytes there spelled old mid ran =
    subst (λ (k : ℕ). Ran (InRange (k + 1) 8) old mid) there (subst (λ (l : List ℕ). Ran (InRange (at + 1) (length l)) old mid) spelled ran)

pub gate_there : (spare : Slot) (at : ℕ) → at ≡ place_of spare → (old mid : View) → Ran (InRange at 1) old mid → Ran (InRange (place_of spare) 1) old mid
gate_there spare at there old mid ran = subst (λ (k : ℕ). Ran (InRange k 1) old mid) there ran

pub number_written : (spare : Slot) (next at : ℕ) (bytes old new : List ℕ) → at ≡ place_of spare → bytes ≡ to_be_bytes w64 next → new ≡ written (at + 1) bytes old → new ≡ written (place_of spare + 1) (to_be_bytes w64 next) old
number_written spare next at bytes old new there spelled is = is ∙ ap (λ (l : List ℕ). written (at + 1) l old) spelled ∙ ap (λ (k : ℕ). written (k + 1) (to_be_bytes w64 next) old) there

pub gate_written : (spare : Slot) (at b : ℕ) (old new : List ℕ) → at ≡ place_of spare → new ≡ written at (b ∷ []) old → new ≡ written (place_of spare) (b ∷ []) old
gate_written spare at b old new there is = is ∙ ap (λ (k : ℕ). written k (b ∷ []) old) there

-- a gate or a number that is written leaves the content
module _ (spare : Slot) where
  pub gate_leaves : (b : ℕ) (old new : List ℕ) → 4096 ≤ length old → new ≡ written (place_of spare) (b ∷ []) old → content new ≡ content old
  gate_leaves b old new long is = ap content is ∙ content-header (place_of spare) (b ∷ []) old (omega (arith, inside spare)) long

  pub number_leaves : (next : ℕ) (old new : List ℕ) → 4096 ≤ length old → new ≡ written (place_of spare + 1) (to_be_bytes w64 next) old → content new ≡ content old
  number_leaves next old new long is = ap content is ∙ content-header (place_of spare + 1) (to_be_bytes w64 next) old (omega (arith, inside spare, eight)) long
    where
      eight : length (to_be_bytes w64 next) ≡ 8
      eight = refl

pub written_long : (at : ℕ) (bytes old new : List ℕ) → 4096 ≤ length old → new ≡ written at bytes old → 4096 ≤ length new
written_long at bytes old new long is = omega (arith, long, length-written at bytes old, ap (λ (l : List ℕ). length l) is)
