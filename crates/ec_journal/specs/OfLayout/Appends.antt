-- What an append to the picked side's journal makes of a layout.
use Rattle.std.specs.Prelude.{◌≡◌, ◌⊎◌, ◌<◌, ◌≤◌, ◌+◌, ℕ, List, [], ◌∷◌, ◌++◌, length}
use Rattle.std.proofs.Common.{inl, inr, ⊎_elim, arith, ◌∙◌, ap, sym, subst}
use Rattle.ec_disk.specs.Disk.{View}
use Rattle.ec_disk.specs.Effects.{After, LeavesOnly}
use Rattle.ec_disk.specs.Images.{part-loose}
use Rattle.ec_disk.specs.Runs.{Ran}
use Rattle.ec_journal.specs.Records.{HasBodies, records}
use Rattle.ec_journal.specs.Journal.{place_of, size_of, end_of, IsOn, HasEither, Adds, LeavesEither, LeavesOld, StopsIn, FromGate}
use Rattle.ec_journal.specs.declared.journal.Journal.{Journal}
use Rattle.ec_journal.specs.OfLayout.Places.{journal_at, table_at, side_of, journal_bytes}
use Rattle.ec_journal.specs.OfLayout.Layout.{Layout, Lies, IsLaid}
use Rattle.ec_journal.specs.OfLayout.Frame.{behind_head, before_slots, slots_loose}

-- the layout with one record more
abbrev pub with_body : List ℕ → Layout → Layout
with_body body l = record l { bodies = l.bodies ++ body ∷ [] }

-- A value for the journal of a layout's picked side.
pub record IsJournalOf (l : Layout) (journal : Journal) : Type 0 where
  pub place : place_of journal ≡ journal_at l.side
  pub size : size_of journal ≡ journal_bytes
  pub ends : end_of journal ≡ length (records l.bodies)

-- How an append that stopped in the turn with this number, of four, left a disk with this layout. Up to the second one each image that a crash may leave has it;
-- from the third one on a read gives it with the record.
pub record StopsWith (turn : ℕ) (now : View) (l : Layout) (body : List ℕ) : Type 0 where
  pub early : turn ≤ 2 → IsLaid now l
  pub late : 3 ≤ turn → Lies now.gives (with_body body l)

-- what a crash may leave of a layout when a record is added
abbrev pub LeavesBody : Layout → List ℕ → List ℕ → Type 0
LeavesBody l body image = Lies image l ⊎ Lies image (with_body body l)

module _ (old new : View) (l : Layout) (journal later : Journal) (body : List ℕ) (of : IsJournalOf l journal) (laid : IsLaid old l) (ran : Ran (FromGate journal) old new) where
  has : (bodies : List (List ℕ)) (c : List ℕ) → HasBodies c (place_of journal) (size_of journal) bodies → HasBodies c (journal_at l.side) 2097152 bodies
  has bodies c is = subst (λ k. HasBodies c k 2097152 bodies) of.place (subst (λ n. HasBodies c (place_of journal) n bodies) of.size is)

  pub on : IsOn old journal l.bodies
  on = record {
    ends = of.ends;
    each = λ c left. subst (λ n. HasBodies c (place_of journal) n l.bodies) (sym of.size) (subst (λ k. HasBodies c k 2097152 l.bodies) (sym of.place) (laid c left).has_side.journal);
  }

  inside : (i : ℕ) → FromGate journal i → (journal_at l.side ≤ i) × (i < journal_at l.side + 2097152)
  inside i is = (omega (arith, is.0, of.place), omega (arith, is.1, of.place, of.size))

  -- all but the records stays
  stays : (bodies : List (List ℕ)) (c : List ℕ) → After old (FromGate journal) c → HasBodies c (journal_at l.side) 2097152 bodies → Lies c (record l { bodies = bodies })
  stays bodies c after stands =
      let d = after.0 in
      let lies = laid d after.1 in
      let loose = after.2 in
      let long : 4096 ≤ length d = omega (arith, lies.has_side.inside) in
      record {
        front_is = part-loose (FromGate journal) d c 0 12 loose (omega (arith, long)) (λ i low high is. omega (arith, high, (inside i is).0, behind_head l.side)) ∙ lies.front_is;
        side_is = ap side_of (loose.outside 12 (omega (arith, long)) (λ is. omega (arith, (inside 12 is).0, behind_head l.side))) ∙ lies.side_is;
        back_is = part-loose (FromGate journal) d c 13 3 loose (omega (arith, long)) (λ i low high is. omega (arith, high, (inside i is).0, behind_head l.side)) ∙ lies.back_is;
        has_side = record {
          small = lies.has_side.small;
          inside = omega (arith, lies.has_side.inside, loose.no_shorter);
          table_is = part-loose (FromGate journal) d c (table_at l.side) (length l.table) loose lies.has_side.inside (λ i low high is. omega (arith, low, (inside i is).1)) ∙ lies.has_side.table_is;
          journal = stands;
        };
        has_slots = slots_loose (FromGate journal) d c l.slots lies.has_slots loose (λ k i used low high is. omega (arith, low, (inside i is).1, before_slots l.side));
      }

  either : (c : List ℕ) → After old (FromGate journal) c → HasEither journal l.bodies body c → LeavesBody l body c
  either c after is = ⊎_elim (λ h. inl (stays l.bodies c after (has l.bodies c h))) (λ h. inr (stays (l.bodies ++ body ∷ []) c after (has (l.bodies ++ body ∷ []) c h))) is

  -- at any moment
  pub append_leaves : LeavesEither old new journal body → LeavesOnly old new (LeavesBody l body)
  append_leaves leaves =
      let only = leaves l.bodies on in
      record {
        later = only.later;
        each = λ c left. either c (ran.each c left) (only.each c left);
        before = λ t c le left. ⊎_elim (λ was. inl was) (λ is. ⊎_elim (λ was. inl was) (λ after. inr (either c after is)) (ran.before t c le left)) (only.before t c le left);
      }

  -- what was synced before it was there
  pub append_keeps : LeavesOld old new journal → new.may_leave new.synced → Lies new.synced l
  append_keeps keeps given = stays l.bodies new.synced (ran.crash new.synced given) (has l.bodies new.synced (keeps l.bodies on))

  -- stopped in a turn
  pub append_stops : (turn : ℕ) → StopsIn turn old new journal body → new.may_leave new.gives → StopsWith turn new l body
  append_stops turn stops given = record {
    early = λ first image left. stays l.bodies image (ran.crash image left) (has l.bodies image (stops.early first l.bodies on image left));
    late = λ third. stays (l.bodies ++ body ∷ []) new.gives (ran.crash new.gives given) (has (l.bodies ++ body ∷ []) new.gives (stops.late third l.bodies on));
  }

  -- at `Ok`
  pub append_done : Adds old new journal later body → place_of later ≡ place_of journal → size_of later ≡ size_of journal → IsLaid new (with_body body l)
  append_done adds place size c left =
      let is = (adds l.bodies on).each c left in
      stays (l.bodies ++ body ∷ []) c (ran.crash c left)
      (has (l.bodies ++ body ∷ []) c (subst (λ n. HasBodies c (place_of journal) n (l.bodies ++ body ∷ [])) size (subst (λ k. HasBodies c k (size_of later) (l.bodies ++ body ∷ [])) place is)))

  pub append_journal : Adds old new journal later body → place_of later ≡ place_of journal → size_of later ≡ size_of journal → IsJournalOf (with_body body l) later
  append_journal adds place size = record { place = place ∙ of.place; size = size ∙ of.size; ends = (adds l.bodies on).ends }
