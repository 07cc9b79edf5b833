-- How a format writes the first 16 bytes of a disk.
use Rattle.std.specs.Prelude.{◌≡◌, ◌<◌, ◌≤◌, ℕ, List, [], ◌∷◌, ◌++◌, length}
use Rattle.std.specs.Int.{w32, to_be_bytes}
use Rattle.std.proofs.Common.{arith, ◌∙◌, ap, sym, subst, refl}
use Rattle.std.proofs.lemmas.List.{get_or_past}
use Rattle.ec_disk.specs.Disk.{View, byte, part}
use Rattle.ec_disk.specs.Effects.{written, Loose, InRange, After, IsSynced, LeavesOnly}
use Rattle.ec_disk.specs.Images.{part-loose, part-written, part-add, byte-part}
use Rattle.ec_disk.specs.Runs.{Ran, leaves_only, leaves_then}
use Rattle.ec_journal.specs.Laws.{part-split}
use Rattle.ec_journal.specs.declared.layout.side.Side.TheVariants as side
use Rattle.ec_journal.specs.OfLayout.Places.{side_of}
use Rattle.ec_journal.specs.OfLayout.Layout.{Layout, Lies, IsLaid, HasSide, HasSlots}
use Rattle.ec_journal.specs.OfLayout.Frame.{behind_head, slots_loose, side_loose}
use Rattle.ec_journal.specs.OfLayout.Head.{first_word, form}

-- what a format writes behind the first word: the most objects, the select byte and the form
abbrev pub second_word : ℕ → List ℕ
second_word most = to_be_bytes w32 most ++ 0 ∷ form

-- A layout on the even side with this head.
pub record IsHeaded (most : ℕ) (l : Layout) : Type 0 where
  pub front_is : l.front ≡ first_word ++ to_be_bytes w32 most
  pub back_is : l.back ≡ form
  pub even : l.side ≡ side.Even

-- an image has this layout, where its first word is the right one
abbrev pub LiesIfWhole : Layout → List ℕ → Type 0
LiesIfWhole l image = part image 0 8 ≡ first_word → Lies image l

-- Before a format writes the head: the rest of the layout stands there synced, and another first word.
pub record AwaitsHead (now : View) (l : Layout) : Type 0 where
  pub synced : IsSynced now
  pub other_word : part now.gives 0 8 ≡ first_word → ⊥
  pub side_stands : HasSide now.gives l.side l.table l.bodies
  pub slots_stand : HasSlots now.gives l.slots

module _ (most : ℕ) (l : Layout) (headed : IsHeaded most l) where
  in_head : (W : ℕ → Type 0) → ((i : ℕ) → W i → i < 16) → (d c : List ℕ) → HasSide d l.side l.table l.bodies → HasSlots d l.slots → Loose W d c → HasSide c l.side l.table l.bodies × HasSlots c l.slots
  in_head W low d c has slots loose = (
    side_loose W d c l.side l.table l.bodies has loose (λ i here w. omega (arith, here.0, behind_head l.side, low i w)),
    slots_loose W d c l.slots slots loose (λ k i used from to w. omega (arith, from, low i w)),
  )

  -- the second word with the rest: the layout, once the first word is right
  whole : (d c : List ℕ) → part d 8 8 ≡ second_word most → HasSide d l.side l.table l.bodies → HasSlots d l.slots → Loose (InRange 0 8) d c → LiesIfWhole l c
  whole d c second has slots loose word =
      let long : 4096 ≤ length d = omega (arith, has.inside) in
      let rest = in_head (InRange 0 8) (λ i r. omega (arith, r.1)) d c has slots loose in
      let stays : part c 8 8 ≡ second_word most = part-loose (InRange 0 8) d c 8 8 loose (omega (arith, long)) (λ i from to r. omega (arith, from, r.1)) ∙ second in
      let first = part-split c 8 4 4 (to_be_bytes w32 most) (0 ∷ form) refl stays in
      let last = part-split c 12 1 3 (0 ∷ []) form refl first.1 in
      record {
        front_is = part-add c 0 8 4 ∙ ap (λ (x : List ℕ). x ++ part c 8 4) word ∙ ap (λ (x : List ℕ). first_word ++ x) first.0 ∙ sym headed.front_is;
        side_is = ap side_of (sym (byte-part c 12 1 0 (omega arith)) ∙ ap (λ (x : List ℕ). byte x 0) last.0) ∙ sym headed.even;
        back_is = last.1 ∙ sym headed.back_is;
        has_side = rest.0;
        has_slots = rest.1;
      }

  module _ (old mid : View) (awaits : AwaitsHead old l) (first : Ran (InRange 8 8) old mid) where
    loose : (c : List ℕ) → After old (InRange 8 8) c → Loose (InRange 8 8) old.gives c
    loose c after = subst (λ d. Loose (InRange 8 8) d c) (awaits.synced after.0 after.1) after.2

    still_other : (c : List ℕ) → After old (InRange 8 8) c → part c 0 8 ≡ first_word → ⊥
    still_other c after is =
        awaits.other_word (sym (part-loose (InRange 8 8) old.gives c 0 8 (loose c after) (omega (arith, awaits.side_stands.inside)) (λ i from to r. omega (arith, to, r.0))) ∙ is)

    pub second_word_leaves : LeavesOnly old mid (LiesIfWhole l)
    second_word_leaves = leaves_only (InRange 8 8) (LiesIfWhole l) old mid first (λ c after is. absurd (still_other c after is))

    module _ (given : mid.may_leave mid.gives) (synced : IsSynced mid) (wrote : mid.gives ≡ written 8 (second_word most) old.gives) (new : View) (second : Ran (InRange 0 8) mid new) where
      each_leaves : (c : List ℕ) → After mid (InRange 0 8) c → LiesIfWhole l c
      each_leaves c after =
          let rest = in_head (InRange 8 8) (λ i r. omega (arith, r.1)) old.gives mid.gives awaits.side_stands awaits.slots_stand (loose mid.gives (first.crash mid.gives given)) in
          whole mid.gives c (ap (λ (image : List ℕ). part image 8 8) wrote ∙ part-written 8 (second_word most) old.gives) rest.0 rest.1
          (subst (λ d. Loose (InRange 0 8) d c) (synced after.0 after.1) after.2)

      pub head_leaves : LeavesOnly old new (LiesIfWhole l)
      head_leaves = leaves_then (LiesIfWhole l) old mid new second_word_leaves (leaves_only (InRange 0 8) (LiesIfWhole l) mid new second each_leaves)

      pub head_done : IsSynced new → new.may_leave new.gives → new.gives ≡ written 0 first_word mid.gives → IsLaid new l
      head_done now_synced now_given is c left =
          subst (λ image. Lies image l) (sym (now_synced c left)) (each_leaves new.gives (second.crash new.gives now_given) (ap (λ (image : List ℕ). part image 0 8) is ∙ part-written 0 first_word mid.gives))

-- An empty disk awaits the head, once the rest of the layout is written and synced.
pub empty_awaits : (old new : View) (l : Layout) → length old.gives ≡ 0 → ((i : ℕ) → i < 4096 → byte new.gives i ≡ byte old.gives i) → IsSynced new → HasSide new.gives l.side l.table l.bodies → HasSlots new.gives l.slots → AwaitsHead new l
empty_awaits old new l empty front synced side_has slots_have = record {
  synced = synced;
  other_word = λ is. omega (arith, sym (byte-part new.gives 0 8 0 (omega arith)) ∙ ap (λ (x : List ℕ). byte x 0) is, front 0 (omega arith), get_or_past old.gives 0 0 (omega (arith, empty)));
  side_stands = side_has;
  slots_stand = slots_have;
}
