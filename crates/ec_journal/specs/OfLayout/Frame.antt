-- What writes elsewhere leave alone, and what the select byte picks.
use Rattle.std.specs.Prelude.{◌≡◌, ◌⊎◌, ◌<◌, ◌≤◌, ◌+◌, ℕ, List, [], ◌∷◌, length}
use Rattle.std.proofs.Common.{inl, inr, ⊎_elim, arith, ◌∙◌, ap, sym, subst, refl}
use Rattle.ec_disk.specs.Disk.{View, byte, part}
use Rattle.ec_disk.specs.Effects.{Loose, InRange, After, IsSynced, LeavesOnly}
use Rattle.ec_disk.specs.Images.{part-loose}
use Rattle.ec_disk.specs.Runs.{Ran, leaves_only, leaves_then}
use Rattle.ec_journal.specs.Records.{HasBodies, records}
use Rattle.ec_journal.specs.declared.layout.side.Side.{Side}
use Rattle.ec_journal.specs.declared.layout.side.Side.TheVariants as side
use Rattle.ec_journal.specs.OfLayout.Places.{journal_at, table_at, slot_at, side_of}
use Rattle.ec_journal.specs.OfLayout.Sides.{select_byte, other}
use Rattle.ec_journal.specs.OfLayout.Layout.{Layout, Lies, IsLaid, HasSide, HasSlots, IsFree, AreFree, IsAmong, AreAmong, Follows}
use Rattle.ec_journal.specs.OfLayout.Pieces.{InSlots, InSide, InPieces}

-- Places.

pub behind_head : (s : Side) → 4096 ≤ journal_at s
behind_head side.Even = omega arith
behind_head side.Odd = omega arith

pub before_slots : (s : Side) → journal_at s + 2162688 ≤ 4329472
before_slots side.Even = omega arith
before_slots side.Odd = omega arith

pub sides_apart : (s : Side) (i : ℕ) → InSide (other s) i → InSide s i → ⊥
sides_apart side.Even i here there = omega (arith, here.0, here.1, there.0, there.1)
sides_apart side.Odd i here there = omega (arith, here.0, here.1, there.0, there.1)

pub one_or_other : (s t : Side) → (s ≡ t) ⊎ (s ≡ other t)
one_or_other side.Even side.Even = inl refl
one_or_other side.Even side.Odd = inr refl
one_or_other side.Odd side.Even = inr refl
one_or_other side.Odd side.Odd = inl refl

other_twice : (s : Side) → other (other s) ≡ s
other_twice side.Even = refl
other_twice side.Odd = refl

pub picks : (s : Side) → side_of (select_byte s) ≡ s
picks side.Even = refl
picks side.Odd = refl

in_slots : (pieces slots : List (ℕ × List ℕ)) (i : ℕ) → AreFree pieces slots → InSlots pieces i → (k : ℕ) × IsFree k slots × (slot_at k ≤ i) × (i < slot_at k + 65600)
in_slots [] slots i free is = absurd is
in_slots (p ∷ pieces) slots i free (inl here) = (p.0, free.0, here.0, here.1)
in_slots (p ∷ pieces) slots i free (inr later) = in_slots pieces slots i free.1 later

slots_behind : (pieces : List (ℕ × List ℕ)) (i : ℕ) → InSlots pieces i → 4329472 ≤ i
slots_behind [] i is = absurd is
slots_behind (p ∷ pieces) i (inl here) = omega (arith, here.0)
slots_behind (p ∷ pieces) i (inr later) = slots_behind pieces i later

pub pieces_behind : (to : Side) (pieces : List (ℕ × List ℕ)) (i : ℕ) → InPieces to pieces i → 4096 ≤ i
pieces_behind to pieces i (inl here) = omega (arith, here.0, behind_head to)
pieces_behind to pieces i (inr later) = omega (arith, slots_behind pieces i later)

-- What isn't written stays.

pub slots_loose : (W : ℕ → Type 0) (d c : List ℕ) (slots : List (ℕ × List ℕ)) → HasSlots d slots → Loose W d c → ((k i : ℕ) → (IsFree k slots → ⊥) → slot_at k ≤ i → i < slot_at k + 65600 → W i → ⊥) → HasSlots c slots
slots_loose W d c [] has loose out = has
slots_loose W d c (s ∷ slots) has loose out = (
  has.0,
  omega (arith, has.1, loose.no_shorter),
  part-loose W d c (slot_at s.0) (length s.1) loose has.1 (λ i low high. out s.0 i (λ free. free.0 refl) low (omega (arith, high, has.0))) ∙ has.2,
  slots_loose W d c slots has.3 loose (λ k i used. out k i (λ free. used free.1)),
)

pub bodies_loose : (W : ℕ → Type 0) (d c : List ℕ) (at size : ℕ) (bodies : List (List ℕ)) → HasBodies d at size bodies → Loose W d c → ((i : ℕ) → at ≤ i → i < at + size → W i → ⊥) → HasBodies c at size bodies
bodies_loose W d c at size bodies has loose out = record {
  inside = omega (arith, has.inside, loose.no_shorter);
  room = has.room;
  front = record {
    short = has.front.short;
    stands = part-loose W d c at (length (records bodies)) loose (omega (arith, has.inside, has.room)) (λ i le lt. out i le (omega (arith, lt, has.room))) ∙ has.front.stands;
  };
  shut = λ is. has.shut (sym (loose.outside (at + length (records bodies)) (omega (arith, has.inside, has.room)) (out (at + length (records bodies)) (omega arith) (omega (arith, has.room)))) ∙ is);
}

table_loose : (W : ℕ → Type 0) (d c : List ℕ) (at : Side) (table : List ℕ) → length table ≤ 65536 → table_at at + length table ≤ length d → part d (table_at at) (length table) ≡ table → Loose W d c
    → ((i : ℕ) → table_at at ≤ i → i < table_at at + 65536 → W i → ⊥) → part c (table_at at) (length table) ≡ table
table_loose W d c at table small inside is loose out = part-loose W d c (table_at at) (length table) loose inside (λ i low high. out i low (omega (arith, high, small))) ∙ is

pub side_loose : (W : ℕ → Type 0) (d c : List ℕ) (at : Side) (table : List ℕ) (bodies : List (List ℕ)) → HasSide d at table bodies → Loose W d c → ((i : ℕ) → InSide at i → W i → ⊥) → HasSide c at table bodies
side_loose W d c at table bodies has loose out = record {
  small = has.small;
  inside = omega (arith, has.inside, loose.no_shorter);
  table_is = table_loose W d c at table has.small has.inside has.table_is loose (λ i low high. out i (omega (arith, low), omega (arith, high)));
  journal = bodies_loose W d c (journal_at at) 2097152 bodies has.journal loose (λ i low high. out i (low, omega (arith, high)));
}

-- writes elsewhere than in the first 16 bytes, the side that is picked, and the named slots
pub lies_loose : (W : ℕ → Type 0) (d c : List ℕ) (l : Layout) → Lies d l → Loose W d c → ((i : ℕ) → i < 16 → W i → ⊥) → ((i : ℕ) → InSide l.side i → W i → ⊥)
    → ((k i : ℕ) → (IsFree k l.slots → ⊥) → slot_at k ≤ i → i < slot_at k + 65600 → W i → ⊥) → Lies c l
lies_loose W d c l lies loose head here slot =
    let long : 4096 ≤ length d = omega (arith, lies.has_side.inside) in
    record {
      front_is = part-loose W d c 0 12 loose (omega (arith, long)) (λ i low high. head i (omega (arith, high))) ∙ lies.front_is;
      side_is = ap side_of (loose.outside 12 (omega (arith, long)) (head 12 (omega arith))) ∙ lies.side_is;
      back_is = part-loose W d c 13 3 loose (omega (arith, long)) (λ i low high. head i (omega (arith, high))) ∙ lies.back_is;
      has_side = side_loose W d c l.side l.table l.bodies lies.has_side loose here;
      has_slots = slots_loose W d c l.slots lies.has_slots loose slot;
    }

-- A checkpoint.

module _ (to : Side) (table : List ℕ) (pieces : List (ℕ × List ℕ)) (l m : Layout) (follows : Follows to table pieces l m) where
  -- up to its first sync it leaves the picked layout alone
  pub checkpoint_loose : (d c : List ℕ) → Lies d l → Loose (InPieces to pieces) d c → Lies c l
  checkpoint_loose d c lies loose = lies_loose (InPieces to pieces) d c l lies loose head here slot
    where
      head : (i : ℕ) → i < 16 → InPieces to pieces i → ⊥
      head i lt is = omega (arith, lt, pieces_behind to pieces i is)

      here : (i : ℕ) → InSide l.side i → InPieces to pieces i → ⊥
      here i at (inl is) = sides_apart to i (subst (λ s. InSide s i) follows.turns at) is
      here i at (inr is) = omega (arith, at.1, before_slots l.side, slots_behind pieces i is)

      slot : (k i : ℕ) → (IsFree k l.slots → ⊥) → slot_at k ≤ i → i < slot_at k + 65600 → InPieces to pieces i → ⊥
      slot k i used low high (inl is) = omega (arith, low, is.1, before_slots to)
      slot k i used low high (inr is) =
          let at = in_slots pieces l.slots i follows.free is in
          let same : at.0 ≡ k = omega (arith, low, high, at.2, at.3) in
          used (subst (λ n. IsFree n l.slots) same at.1)

  one_has : (image : List ℕ) (slots : List (ℕ × List ℕ)) (s : ℕ × List ℕ) → HasSlots image slots → IsAmong s slots → HasSlots image (s ∷ [])
  one_has image [] s has is = absurd is
  one_has image (t ∷ slots) s has (inl is) = subst (λ u. HasSlots image (u ∷ [])) (sym is) (has.0, has.1, has.2, tt {0})
  one_has image (t ∷ slots) s has (inr is) = one_has image slots s has.3 is

  all_have : (image : List ℕ) (kept slots : List (ℕ × List ℕ)) → HasSlots image kept → HasSlots image pieces → AreAmong slots kept pieces → HasSlots image slots
  all_have image kept [] old new among = tt {0}
  all_have image kept (s ∷ slots) old new among =
      let one = ⊎_elim (one_has image kept s old) (one_has image pieces s new) among.0 in
      (one.0, one.1, one.2, all_have image kept slots old new among.1)

  -- the old layout is picked, and the other side is written
  pub record Prepared (image : List ℕ) : Type 0 where
    pub lies : Lies image l
    pub side_stands : HasSide image to table []
    pub slots_stand : HasSlots image pieces

  not_at_select : (i : ℕ) → 13 ≤ i → InRange 12 1 i → ⊥
  not_at_select i le r = omega (arith, le, r.1)

  slots_stay : (d c : List ℕ) (slots : List (ℕ × List ℕ)) → HasSlots d slots → Loose (InRange 12 1) d c → HasSlots c slots
  slots_stay d c slots has loose = slots_loose (InRange 12 1) d c slots has loose (λ k i used low high. not_at_select i (omega (arith, low)))

  side_stays : (d c : List ℕ) (at : Side) (t : List ℕ) (bodies : List (List ℕ)) → HasSide d at t bodies → Loose (InRange 12 1) d c → HasSide c at t bodies
  side_stays d c at t bodies has loose = side_loose (InRange 12 1) d c at t bodies has loose (λ i here. not_at_select i (omega (arith, here.0, behind_head at)))

  front_stays : (d c : List ℕ) → 4096 ≤ length d → Loose (InRange 12 1) d c → part c 0 12 ≡ part d 0 12
  front_stays d c long loose = part-loose (InRange 12 1) d c 0 12 loose (omega (arith, long)) (λ i low high r. omega (arith, high, r.0))

  back_stays : (d c : List ℕ) → 4096 ≤ length d → Loose (InRange 12 1) d c → part c 13 3 ≡ part d 13 3
  back_stays d c long loose = part-loose (InRange 12 1) d c 13 3 loose (omega (arith, long)) (λ i low high. not_at_select i low)

  -- the select byte picks the other side
  pub turned : (d c : List ℕ) → Prepared d → Loose (InRange 12 1) d c → side_of (byte c 12) ≡ to → Lies c m
  turned d c ready loose goes =
      let long : 4096 ≤ length d = omega (arith, ready.lies.has_side.inside) in
      record {
        front_is = front_stays d c long loose ∙ ready.lies.front_is ∙ sym follows.front_stays;
        side_is = goes ∙ sym follows.picked;
        back_is = back_stays d c long loose ∙ ready.lies.back_is ∙ sym follows.back_stays;
        has_side = has (sym follows.picked) (sym follows.has_table) (sym follows.empty) (side_stays d c to table [] ready.side_stands loose);
        has_slots = all_have c l.slots m.slots (slots_stay d c l.slots ready.lies.has_slots loose) (slots_stay d c pieces ready.slots_stand loose) follows.named;
      }
    where
      has : {s t : Side} {x y : List ℕ} {xs ys : List (List ℕ)} → s ≡ t → x ≡ y → xs ≡ ys → HasSide c s x xs → HasSide c t y ys
      has {s = s} {t = t} {x = x} {y = y} {xs = xs} {ys = ys} p q r h =
          subst (λ u. HasSide c u y ys) p (subst (λ u. HasSide c s u ys) q (subst (λ u. HasSide c s x u) r h))

  -- whatever the select byte becomes, one of the two is picked
  pub either_picked : (d c : List ℕ) → Prepared d → Loose (InRange 12 1) d c → Lies c l ⊎ Lies c m
  either_picked d c ready loose = ⊎_elim (λ goes. inr (turned d c ready loose goes)) (λ stays. inl (same (stays ∙ sym follows.turns))) (one_or_other (side_of (byte c 12)) to)
    where
      same : side_of (byte c 12) ≡ l.side → Lies c l
      same stays =
          let long : 4096 ≤ length d = omega (arith, ready.lies.has_side.inside) in
          record {
            front_is = front_stays d c long loose ∙ ready.lies.front_is;
            side_is = stays;
            back_is = back_stays d c long loose ∙ ready.lies.back_is;
            has_side = side_stays d c l.side l.table l.bodies ready.lies.has_side loose;
            has_slots = slots_stay d c l.slots ready.lies.has_slots loose;
          }

  abbrev Either : List ℕ → Type 0
  Either image = Lies image l ⊎ Lies image m

  -- the two halves of a checkpoint over a disk
  module _ (old mid : View) (laid : IsLaid old l) (first : Ran (InPieces to pieces) old mid) where
    pub prepare_leaves : LeavesOnly old mid Either
    prepare_leaves = leaves_only (InPieces to pieces) Either old mid first (λ c after. inl (checkpoint_loose after.0 c (laid after.0 after.1) after.2))

    -- what the first half may leave has the old layout
    pub prepare_keeps : (c : List ℕ) → mid.may_leave c → Lies c l
    prepare_keeps c left =
        let after = first.crash c left in
        checkpoint_loose after.0 c (laid after.0 after.1) after.2

    module _ (given : mid.may_leave mid.gives) (synced : IsSynced mid) (side_has : HasSide mid.gives to table []) (slots_have : HasSlots mid.gives pieces) (new : View) (second : Ran (InRange 12 1) mid new) where
      ready : Prepared mid.gives
      ready =
          let after = first.crash mid.gives given in
          record { lies = checkpoint_loose after.0 mid.gives (laid after.0 after.1) after.2; side_stands = side_has; slots_stand = slots_have }

      loose : (c : List ℕ) → After mid (InRange 12 1) c → Loose (InRange 12 1) mid.gives c
      loose c after = subst (λ d. Loose (InRange 12 1) d c) (synced after.0 after.1) after.2

      pub checkpoint_leaves : LeavesOnly old new Either
      checkpoint_leaves = leaves_then Either old mid new prepare_leaves (leaves_only (InRange 12 1) Either mid new second (λ c after. either_picked mid.gives c ready (loose c after)))

      pub checkpoint_done : IsSynced new → new.may_leave new.gives → byte new.gives 12 ≡ select_byte to → IsLaid new m
      checkpoint_done now_synced now_given picked c left =
          subst (λ image. Lies image m) (sym (now_synced c left)) (turned mid.gives new.gives ready (loose new.gives (second.crash new.gives now_given)) (ap side_of picked ∙ picks to))
