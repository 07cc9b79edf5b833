-- An image has at most one first bad place.
use Rattle.std.specs.Prelude.{◌≡◌, ◌⊎◌, ◌<◌, ◌≤◌, ◌+◌, ℕ, List, [], ◌∷◌, ◌++◌, length, Result, Ok, Err}
use Rattle.std.specs.List.{All}
use Rattle.std.proofs.Common.{inl, inr, ⊎_elim, refl, sym, ◌∙◌, ap, subst, arith, length-append}
use Rattle.std.proofs.lemmas.List.{append-nil}
use Rattle.std.proofs.lemmas.List.Elements.{All-head, All-tail, All-cons}
use Rattle.ec_disk.specs.Disk.{part}
use Rattle.ec_journal.specs.Records.{IsShort, records, Front, RunsPast}
use Rattle.ec_journal.specs.Laws.{records-append, length-records, part-split, head, fronts, next}
use Rattle.ec_volume.specs.declared.image.Image.{Image}
use Rattle.ec_codes.specs.declared.fault.CodeFault.{CodeFault}
use Rattle.ec_durable.specs.declared.state.Durable.{Durable}
use Rattle.ec_durable.specs.WellFormed.{WellFormed, least_max_objects, most_max_objects}
use Rattle.ec_stands.specs.OfTable.Codes.{table_code, described}
use Rattle.ec_stands.specs.declared.table.table.Table.{Table}
use Rattle.ec_stands.specs.declared.table.table.Version.{Version}
use Rattle.ec_journal.specs.OfLayout.Places.{table_at, slot_at}
use Rattle.ec_journal.specs.OfLayout.Head.{first_word, form}
use Rattle.ec_stands.specs.Stands.{side_in, journal_in, most_in, table_part, fault_at, HasGoodHead, HasTable, HasImages, state_of, StepsTo, IsBadImage, HasBadImage, IsRefused, GoesOn, HasBadRecord, IsBadAt}
use Rattle.ec_stands.specs.Stands.{no_image, another_image, short_head, other_word, other_most, other_form, bad_table, bad_slot, ill_formed, bad_record}
use Rattle.ec_stands.specs.Laws.{read_clash, one_table, one_volume, one_end, steps_split, no_bad_image, refused_stops}

-- Stages, each of which has its place: an image's first bad place is that of the first stage that it doesn't pass.

-- a stage that isn't passed, or is passed and those behind it aren't
abbrev Stage : Type 0 → ℕ → ℕ → Type 0 → Type 0
Stage Good at place Rest = ((Good → ⊥) × (place ≡ at)) ⊎ (Good × Rest)

same_stage : (Good : Type 0) (at a b : ℕ) (R S : Type 0) → (R → S → a ≡ b) → Stage Good at a R → Stage Good at b S → a ≡ b
same_stage Good at a b R S rest (inl x) (inl y) = x.1 ∙ sym y.1
same_stage Good at a b R S rest (inl x) (inr y) = absurd (x.0 y.0)
same_stage Good at a b R S rest (inr x) (inl y) = absurd (y.0 x.0)
same_stage Good at a b R S rest (inr x) (inr y) = rest x.1 y.1

-- Slots.

same_fault : {A : Type 0} (f g : CodeFault) → ◌≡◌ {A = Result A CodeFault} (Err f) (Err g) → f ≡ g
same_fault f g e = cc

one_bad_image : (v : Version) (image : List ℕ) (p : ℕ × ℕ) (a b : ℕ) → IsBadImage v image p a → IsBadImage v image p b → a ≡ b
one_bad_image v image p a b (no_image f read at) (no_image g read2 at2) = at ∙ ap (λ (x : CodeFault). fault_at image (slot_at p.1) x) (same_fault f g (sym read ∙ read2)) ∙ sym at2
one_bad_image v image p a b (no_image f read at) (another_image e next read2 other at2) = absurd (read_clash (e, next) f (sym read2 ∙ read))
one_bad_image v image p a b (another_image e next read other at) (no_image f read2 at2) = absurd (read_clash (e, next) f (sym read ∙ read2))
one_bad_image v image p a b (another_image e next read other at) (another_image f next2 read2 other2 at2) = at ∙ sym at2

one_bad_slot : (v : Version) (image : List ℕ) (places : List (ℕ × ℕ)) (a b : ℕ) → HasBadImage v image places a → HasBadImage v image places b → a ≡ b
one_bad_slot v image [] a b one other = absurd one
one_bad_slot v image (p ∷ places) a b (inl x) (inl y) = one_bad_image v image p a b x y
one_bad_slot v image (p ∷ places) a b (inl x) (inr y) = absurd (no_bad_image v image (p ∷ []) (y.0 ∷ []) a (y.1, tt) (inl x))
one_bad_slot v image (p ∷ places) a b (inr x) (inl y) = absurd (no_bad_image v image (p ∷ []) (x.0 ∷ []) b (x.1, tt) (inl y))
one_bad_slot v image (p ∷ places) a b (inr x) (inr y) = one_bad_slot v image places a b x.2 y.2

-- Records.

short_front : (xs ys : List (List ℕ)) → All IsShort (xs ++ ys) → All IsShort xs
short_front [] ys all = λ i d lt. absurd (omega (arith, lt))
short_front (x ∷ xs) ys all = All-cons IsShort x xs (All-head IsShort x (xs ++ ys) all) (short_front xs ys (All-tail IsShort x (xs ++ ys) all))

length-both : (xs ys : List (List ℕ)) → length (records (xs ++ ys)) ≡ length (records xs) + length (records ys)
length-both xs ys = ap (λ (l : List ℕ). length l) (records-append xs ys) ∙ length-append (records xs) (records ys)

-- the first ones of a row of records
pub front_of : (image : List ℕ) (place : ℕ) (xs ys : List (List ℕ)) → Front image place (xs ++ ys) → Front image place xs
front_of image place xs ys front = record {
  short = short_front xs ys front.short;
  stands = (part-split image place (length (records xs)) (length (records ys)) (records xs) (records ys) refl (ap (λ (n : ℕ). part image place n) (sym (length-both xs ys)) ∙ front.stands ∙ records-append xs ys)).0;
}

module _ (image : List ℕ) (base : Durable) where
  before_stands : (a : ℕ) (x : HasBadRecord image base a) → Front image (journal_in image) x.before × (length (records x.before) < 2097152)
  before_stands a x = ⊎_elim refused (λ past. (past.front, past.gate_inside)) x.bad
    where
      refused : ((body : List ℕ) × GoesOn image x.before body × IsRefused body x.mid) → Front image (journal_in image) x.before × (length (records x.before) < 2097152)
      refused it = (front_of image (journal_in image) x.before (it.0 ∷ []) it.1.0, omega (arith, it.1.1, length-both x.before (it.0 ∷ [])))

  heads : (x y : List ℕ) (xs ys : List (List ℕ)) → x ∷ xs ≡ y ∷ ys → x ≡ y
  heads x y xs ys e = cc

  -- behind the record that is bad there is none that steps
  no_more : (a b : ℕ) (x : HasBadRecord image base a) (y : HasBadRecord image base b) (body : List ℕ) (rest : List (List ℕ)) → y.before ≡ x.before ++ body ∷ rest → ⊥
  no_more a b x y body rest is = ⊎_elim refused past x.bad
    where
      place : ℕ
      place = journal_in image + length (records x.before)

      behind : Front image (journal_in image + length (records x.before)) (body ∷ rest)
      behind = next image (journal_in image) x.before body rest (subst (λ l. Front image (journal_in image) l) is (before_stands b y).0)

      refused : ((other : List ℕ) × GoesOn image x.before other × IsRefused other x.mid) → ⊥
      refused it =
          let both = fronts image (journal_in image + length (records x.before)) (it.0 ∷ []) (body ∷ rest) (next image (journal_in image) x.before it.0 [] it.1.0) behind in
          let same : body ≡ it.0 = ⊎_elim (λ e. heads body it.0 rest both.0 e) (λ e. sym (heads it.0 body [] (rest ++ both.0) e)) both.1 in
          let parts = steps_split x.before (body ∷ rest) base y.mid (subst (λ bs. StepsTo bs base y.mid) is y.steps) in
          let steps = subst (λ d. StepsTo (body ∷ rest) d y.mid) (one_end x.before base parts.0 x.mid parts.1 x.steps) parts.2 in
          refused_stops body rest x.mid y.mid (subst (λ l. IsRefused l x.mid) (sym same) it.2) steps

      past : RunsPast image (journal_in image) 2097152 x.before → ⊥
      past it =
          let one = head image (journal_in image + length (records x.before)) body rest behind in
          let long = ap (λ (l : List (List ℕ)). length (records l)) is ∙ length-both x.before (body ∷ rest) in
          ⊎_elim (λ short. omega (arith, short, long, length-records body rest, (before_stands b y).1)) (λ over. omega (arith, over, long, length-records body rest, (before_stands b y).1, one.len)) it.past

  one_bad_record : (a b : ℕ) → HasBadRecord image base a → HasBadRecord image base b → a ≡ b
  one_bad_record a b x y =
      let both = fronts image (journal_in image) x.before y.before (before_stands a x).0 (before_stands b y).0 in
      let same : x.before ≡ y.before = ⊎_elim (λ is. sym (longer a b x y both.0 is)) (λ is. longer b a y x both.0 is) both.1 in
      x.gate ∙ ap (λ (l : List (List ℕ)). journal_in image + length (records l)) same ∙ sym y.gate
    where
      longer : (a b : ℕ) (x : HasBadRecord image base a) (y : HasBadRecord image base b) (rest : List (List ℕ)) → y.before ≡ x.before ++ rest → y.before ≡ x.before
      longer a b x y [] is = is ∙ append-nil x.before
      longer a b x y (body ∷ rest) is = absurd (no_more a b x y body rest is)

-- All of an image, in the order in which it's read.
module _ (image : List ℕ) where
  abbrev HasWord : Type 0
  HasWord = part image 0 8 ≡ first_word

  abbrev HasMost : Type 0
  HasMost = (least_max_objects ≤ most_in image) × (most_in image ≤ most_max_objects)

  abbrev HasForm : Type 0
  HasForm = part image 13 3 ≡ form

  abbrev InState : Version → Table → ℕ → Type 0
  InState v t place = (es : List (ℕ × Image)) × HasImages v image t.places es × Stage (WellFormed (state_of (most_in image) t es)) (table_at (side_in image)) place (HasBadRecord image (state_of (most_in image) t es) place)

  abbrev InTable : ℕ → Type 0
  InTable place = (fault : CodeFault) × ((table_code (most_in image)).read (table_part image) 0 ≡ Err fault) × (place ≡ fault_at image (table_at (side_in image)) fault)

  abbrev BehindTable : ℕ → Type 0
  BehindTable place = (v : Version) × (t : Table) × HasTable image (most_in image) v t × (HasBadImage v image t.places place ⊎ InState v t place)

  abbrev BehindHead : ℕ → Type 0
  BehindHead place = InTable place ⊎ BehindTable place

  abbrev InForm : ℕ → Type 0
  InForm place = Stage HasForm 13 place (BehindHead place)

  abbrev InMost : ℕ → Type 0
  InMost place = Stage HasMost 8 place (InForm place)

  abbrev InWord : ℕ → Type 0
  InWord place = Stage HasWord 0 place (InMost place)

  abbrev InImage : ℕ → Type 0
  InImage place = Stage (16 ≤ length image) 0 place (InWord place)

  behind_head : (place : ℕ) → HasGoodHead image (most_in image) → BehindHead place → InImage place
  behind_head place h rest = inr (h.long, inr (h.word, inr ((h.least, h.limit), inr (h.form_is, rest))))

  in_image : (place : ℕ) → IsBadAt image place → InImage place
  in_image place (short_head lt at) = inl (λ long. omega (arith, lt, long), at)
  in_image place (other_word long other at) = inr (long, inl (other, at))
  in_image place (other_most long word out at) = inr (long, inr (word, inl (λ both. out both.0 both.1, at)))
  in_image place (other_form long word least limit other at) = inr (long, inr (word, inr ((least, limit), inl (other, at))))
  in_image place (bad_table fault h read at) = behind_head place h (inl (fault, read, at))
  in_image place (bad_slot v t h table is) = behind_head place h (inr (v, t, table, inl is))
  in_image place (ill_formed v t es h table images ill at) = behind_head place h (inr (v, t, table, inr (es, images, inl (ill, at))))
  in_image place (bad_record v places base c is) =
      let t = described base places in
      behind_head place (subst (λ k. HasGoodHead image k) (sym c.head.most_is) c.head)
      (inr (
        v,
        t,
        subst (λ k. HasTable image k v t) (sym c.head.most_is) c.table,
        inr (
          base.volume,
          c.images,
          inr (subst (λ k. WellFormed (state_of k t base.volume)) (sym c.head.most_is) c.formed, subst (λ k. HasBadRecord image (state_of k t base.volume) place) (sym c.head.most_is) is),
        ),
      ))

  same_state : (v : Version) (t : Table) (a b : ℕ) → InState v t a → InState v t b → a ≡ b
  same_state v t a b x y =
      let most = most_in image in
      let es : x.0 ≡ y.0 = one_volume v image t.places x.0 y.0 x.1 y.1 in
      same_stage (WellFormed (state_of most t x.0)) (table_at (side_in image)) a b (HasBadRecord image (state_of most t x.0) a) (HasBadRecord image (state_of most t x.0) b) (one_bad_record image (state_of most t x.0) a b) x.2
      (subst (λ (e : List (ℕ × Image)). Stage (WellFormed (state_of most t e)) (table_at (side_in image)) b (HasBadRecord image (state_of most t e) b)) (sym es) y.2)

  same_slots : (v : Version) (t : Table) (a b : ℕ) → HasBadImage v image t.places a ⊎ InState v t a → HasBadImage v image t.places b ⊎ InState v t b → a ≡ b
  same_slots v t a b (inl x) (inl y) = one_bad_slot v image t.places a b x y
  same_slots v t a b (inl x) (inr y) = absurd (no_bad_image v image t.places y.0 a y.1 x)
  same_slots v t a b (inr x) (inl y) = absurd (no_bad_image v image t.places x.0 b x.1 y)
  same_slots v t a b (inr x) (inr y) = same_state v t a b x y

  same_behind : (a b : ℕ) → BehindHead a → BehindHead b → a ≡ b
  same_behind a b (inl x) (inl y) = x.2 ∙ ap (λ (f : CodeFault). fault_at image (table_at (side_in image)) f) (same_fault x.0 y.0 (sym x.1 ∙ y.1)) ∙ sym y.2
  same_behind a b (inl x) (inr y) = absurd (read_clash ((y.0, y.1), y.2.0) x.0 (sym y.2.1 ∙ x.1))
  same_behind a b (inr x) (inl y) = absurd (read_clash ((x.0, x.1), x.2.0) y.0 (sym x.2.1 ∙ y.1))
  same_behind a b (inr x) (inr y) =
      let same = one_table image (most_in image) x.0 y.0 x.1 y.1 x.2 y.2 in
      same_slots x.0 x.1 a b x.3
      (subst (λ v. HasBadImage v image x.1.places b ⊎ InState v x.1 b) (sym same.0) (subst (λ (t : Table). HasBadImage y.0 image t.places b ⊎ InState y.0 t b) (sym same.1) y.3))

  pub one_first_place : (a b : ℕ) → IsBadAt image a → IsBadAt image b → a ≡ b
  one_first_place a b x y =
      same_stage (16 ≤ length image) 0 a b (InWord a) (InWord b)
      (same_stage HasWord 0 a b (InMost a) (InMost b)
      (same_stage HasMost 8 a b (InForm a) (InForm b) (same_stage HasForm 13 a b (BehindHead a) (BehindHead b) (same_behind a b)))) (in_image a x) (in_image b y)
