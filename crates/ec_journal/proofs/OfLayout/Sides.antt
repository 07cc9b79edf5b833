-- A side whose table and first gate are written behind the slots.
use Rattle.std.specs.Prelude.{◌≡◌, ◌<◌, ◌≤◌, ◌+◌, ℕ, List, [], ◌∷◌, length}
use Rattle.std.proofs.Common.{inl, inr, arith, ◌∙◌, ap, sym, subst, refl}
use Rattle.ec_disk.specs.Disk.{View, byte, part}
use Rattle.ec_disk.specs.Effects.{written, Loose, InRange, Wrote}
use Rattle.ec_disk.specs.Images.{part-loose, part-written, byte-written, byte-written_out, written-loose, length-written}
use Rattle.ec_disk.specs.Runs.{Ran, and_wrote, ran_within}
use Rattle.ec_journal.specs.declared.layout.side.Side.{Side}
use Rattle.ec_journal.specs.OfLayout.Places.{journal_at, table_at}
use Rattle.ec_journal.specs.OfLayout.Layout.{HasSide, HasSlots}
use Rattle.ec_journal.specs.OfLayout.Pieces.{InSlots, InPieces}
use Rattle.ec_journal.specs.OfLayout.Frame.{behind_head, before_slots, slots_loose}

module _ (at : Side) (table : List ℕ) (small : length table ≤ 65536) (d e f : List ℕ) (first : e ≡ written (table_at at) table d) (second : f ≡ written (journal_at at) (0 ∷ []) e) where
  first_loose : Loose (InRange (table_at at) (length table)) d e
  first_loose = subst (λ image. Loose (InRange (table_at at) (length table)) d image) (sym first) (written-loose (table_at at) table d)

  second_loose : Loose (InRange (journal_at at) 1) e f
  second_loose = subst (λ image. Loose (InRange (journal_at at) 1) e image) (sym second) (written-loose (journal_at at) (0 ∷ []) e)

  table_inside : table_at at + length table ≤ length e
  table_inside = subst (λ image. table_at at + length table ≤ length image) (sym first) (omega (arith, length-written (table_at at) table d))

  table_stands : part e (table_at at) (length table) ≡ table
  table_stands = subst (λ image. part image (table_at at) (length table) ≡ table) (sym first) (part-written (table_at at) table d)

  gate : byte f (journal_at at + 0) ≡ 0
  gate = ap (λ (k : ℕ). byte f k) (none (journal_at at)) ∙ ap (λ (image : List ℕ). byte image (journal_at at)) second ∙ byte-written (journal_at at) 0 e
    where
      none : (n : ℕ) → n + 0 ≡ n
      none n = omega arith

  pub side_stands : HasSide f at table []
  side_stands = record {
    small = small;
    inside = omega (arith, table_inside, second_loose.no_shorter);
    table_is = part-loose (InRange (journal_at at) 1) e f (table_at at) (length table) second_loose table_inside (λ i low high r. omega (arith, low, r.1)) ∙ table_stands;
    journal = record {
      inside = omega (arith, table_inside, second_loose.no_shorter);
      room = omega arith;
      front = record { short = λ k body none. absurd (omega (arith, none)); stands = refl };
      shut = λ is. omega (arith, sym gate ∙ is);
    };
  }

  pub slots_stand : (slots : List (ℕ × List ℕ)) → HasSlots d slots → HasSlots f slots
  slots_stand slots has =
      slots_loose (InRange (journal_at at) 1) e f slots
      (slots_loose (InRange (table_at at) (length table)) d e slots has first_loose (λ k i used low high r. omega (arith, low, r.1, small, before_slots at)))
      second_loose (λ k i used low high r. omega (arith, low, r.1, before_slots at))

  pub front_stays : (i : ℕ) → i < 4096 → byte f i ≡ byte d i
  front_stays i lt =
      ap (λ (image : List ℕ). byte image i) second
      ∙ byte-written_out (journal_at at) (0 ∷ []) e i (λ r. absurd (omega (arith, lt, r.0, behind_head at)))
      ∙ ap (λ (image : List ℕ). byte image i) first
      ∙ byte-written_out (table_at at) table d i (λ r. absurd (omega (arith, lt, r.0, behind_head at)))

pub side_ran : (at : Side) (table : List ℕ) (pieces : List (ℕ × List ℕ)) (old slots mid new : View) → length table ≤ 65536 → Ran (InSlots pieces) old slots → Wrote (InRange (table_at at) (length table)) slots mid → Wrote (InRange (journal_at at) 1) mid new → Ran (InPieces at pieces) old new
side_ran at table pieces old slots mid new small ran first second =
    and_wrote (InRange (journal_at at) 1) (InPieces at pieces) (λ i r. inl (r.0, omega (arith, r.1))) old mid new
    (and_wrote (InRange (table_at at) (length table)) (InPieces at pieces) (λ i r. inl (omega (arith, r.0), omega (arith, r.1, small))) old slots mid
    (ran_within (InSlots pieces) (InPieces at pieces) (λ i is. inr is) old slots ran) first)
    second
