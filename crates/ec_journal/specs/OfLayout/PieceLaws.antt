-- Slots that are written one after the other stay.
use Rattle.std.specs.Prelude.{◌≡◌, ◌≢◌, ◌<◌, ◌≤◌, ◌+◌, ℕ, List, [], ◌∷◌, ◌++◌, length, take, drop, get_or, Vec}
use Rattle.std.proofs.Common.{inl, inr, arith, ◌∙◌, ap, sym, subst, take-append-drop}
use Rattle.std.proofs.lemmas.List.{drop_more, take_more, map-append}
use Rattle.std.specs.declared.alloc.Global.{Global}
use Rattle.ec_disk.specs.Disk.{View, part}
use Rattle.ec_disk.specs.Effects.{written, Loose, InRange, Wrote}
use Rattle.ec_disk.specs.Images.{part-written, part-loose, written-loose, length-written}
use Rattle.ec_disk.specs.Runs.{Ran, and_wrote}
use Rattle.ec_journal.specs.OfLayout.Places.{slot_at}
use Rattle.ec_journal.specs.OfLayout.Layout.{IsFree, HasSlots}
use Rattle.ec_journal.specs.OfLayout.Pieces.{pieces_of, AreApart, InSlots}

-- a slot of the list, by a split of the list
pub in-slots : (before after : List (ℕ × List ℕ)) (s : ℕ × List ℕ) (i : ℕ) → length s.1 ≤ 65600 → InRange (slot_at s.0) (length s.1) i → InSlots (before ++ s ∷ after) i
in-slots [] after s i small r = inl (r.0, omega (arith, r.1, small))
in-slots (b ∷ before) after s i small r = inr (in-slots before after s i small r)

pub apart-at : (before after : List (ℕ × List ℕ)) (s : ℕ × List ℕ) → AreApart (before ++ s ∷ after) → (s.0 < 2048) × (length s.1 ≤ 65600)
apart-at [] after s apart = (apart.0, apart.1)
apart-at (b ∷ before) after s apart = apart-at before after s apart.3

not-free : (before after : List (ℕ × List ℕ)) (s : ℕ × List ℕ) (k : ℕ) → IsFree k (before ++ s ∷ after) → k ≢ s.0
not-free [] after s k free = free.0
not-free (b ∷ before) after s k free = not-free before after s k free.1

-- one slot more
pub slots-more : (before after : List (ℕ × List ℕ)) (s : ℕ × List ℕ) (old new : List ℕ) → AreApart (before ++ s ∷ after) → HasSlots old before → Loose (InRange (slot_at s.0) (length s.1)) old new
    → part new (slot_at s.0) (length s.1) ≡ s.1 → slot_at s.0 + length s.1 ≤ length new → HasSlots new (before ++ s ∷ [])
slots-more [] after s old new apart has loose is inside = (apart.1, inside, is, tt {0})
slots-more (b ∷ before) after s old new apart has loose is inside = (
  has.0,
  omega (arith, has.1, loose.no_shorter),
  part-loose (InRange (slot_at s.0) (length s.1)) old new (slot_at b.0) (length b.1) loose has.1 (λ i low high r. other (not-free before after s b.0 apart.2) i low high r) ∙ has.2,
  slots-more before after s old new apart.3 has.3 loose is inside,
)
  where
    other : b.0 ≢ s.0 → (i : ℕ) → slot_at b.0 ≤ i → i < slot_at b.0 + length b.1 → InRange (slot_at s.0) (length s.1) i → ⊥
    other apart_from i low high r = apart_from (omega (arith, low, high, has.0, r.0, r.1, (apart-at (b ∷ before) after s apart).1))

-- the list at one of its pieces
pub split-at : (ps : List (ℕ × Vec ℕ Global)) (i : ℕ) (x : ℕ × Vec ℕ Global) → i < length ps → x ≡ get_or ps i x → pieces_of ps ≡ pieces_of (take i ps) ++ (x.0, x.1.items) ∷ pieces_of (drop (i + 1) ps)
split-at ps i x lt is =
    ap pieces_of (sym (take-append-drop i ps) ∙ ap (λ (l : List (ℕ × Vec ℕ Global)). take i ps ++ l) (drop_more ps i x lt ∙ ap (λ (y : ℕ × Vec ℕ Global). y ∷ drop (i + 1) ps) (sym is)))
    ∙ map-append (λ (p : ℕ × Vec ℕ Global). (p.0, p.1.items)) (take i ps) (x ∷ drop (i + 1) ps)

pub more-at : (ps : List (ℕ × Vec ℕ Global)) (i : ℕ) (x : ℕ × Vec ℕ Global) → i < length ps → x ≡ get_or ps i x → pieces_of (take (i + 1) ps) ≡ pieces_of (take i ps) ++ (x.0, x.1.items) ∷ []
more-at ps i x lt is =
    ap pieces_of (take_more ps i x lt ∙ ap (λ (y : ℕ × Vec ℕ Global). take i ps ++ y ∷ []) (sym is)) ∙ map-append (λ (p : ℕ × Vec ℕ Global). (p.0, p.1.items)) (take i ps) (x ∷ [])

module _ (ps : List (ℕ × Vec ℕ Global)) (apart : AreApart (pieces_of ps)) (i : ℕ) (x : ℕ × Vec ℕ Global) (lt : i < length ps) (is : x ≡ get_or ps i x) where
  apart-here : AreApart (pieces_of (take i ps) ++ (x.0, x.1.items) ∷ pieces_of (drop (i + 1) ps))
  apart-here = subst AreApart (split-at ps i x lt is) apart

  pub small-at : (x.0 < 2048) × (length x.1.items ≤ 65600)
  small-at = apart-at (pieces_of (take i ps)) (pieces_of (drop (i + 1) ps)) (x.0, x.1.items) apart-here

  -- the write of this piece
  pub ran-more : (old mid new : View) → Ran (InSlots (pieces_of ps)) old mid → Wrote (InRange (slot_at x.0) (length x.1.items)) mid new → Ran (InSlots (pieces_of ps)) old new
  ran-more old mid new so_far wrote =
      and_wrote (InRange (slot_at x.0) (length x.1.items)) (InSlots (pieces_of ps))
      (λ k r. subst (λ l. InSlots l k) (sym (split-at ps i x lt is)) (in-slots (pieces_of (take i ps)) (pieces_of (drop (i + 1) ps)) (x.0, x.1.items) k small-at.1 r)) old mid new so_far wrote

  pub has-more : (mid new : List ℕ) → HasSlots mid (pieces_of (take i ps)) → new ≡ written (slot_at x.0) x.1.items mid → HasSlots new (pieces_of (take (i + 1) ps))
  has-more mid new has made =
      subst (HasSlots new) (sym (more-at ps i x lt is))
      (slots-more (pieces_of (take i ps)) (pieces_of (drop (i + 1) ps)) (x.0, x.1.items) mid new apart-here has
      (subst (λ l. Loose (InRange (slot_at x.0) (length x.1.items)) mid l) (sym made) (written-loose (slot_at x.0) x.1.items mid))
      (subst (λ l. part l (slot_at x.0) (length x.1.items) ≡ x.1.items) (sym made) (part-written (slot_at x.0) x.1.items mid))
      (subst (λ l. slot_at x.0 + length x.1.items ≤ length l) (sym made) (omega (arith, length-written (slot_at x.0) x.1.items mid))))
