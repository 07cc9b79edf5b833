-- What a checkpoint writes, and where the images stand then.
use Rattle.std.proofs.Common.{◌≡◌, ℕ, ◌+◌, ◌*◌, ◌^◌, ◌<◌, ◌≤◌, Bool, true, false, cond, List, [], ◌∷◌, ◌++◌, length, take, drop, get_or, Option, None, Some, refl, sym, ap, subst, ◌∙◌, arith, inl, inr, ⊎_elim, length-append, append_assoc}
use Rattle.std.specs.Prelude.{◌&&◌, T, not, nat_lt, slice_get}
use Rattle.std.specs.List.{All}
use Rattle.std.specs.Ordering.{nat_cmp, is_lt}
use Rattle.std.specs.FinMap.Entries.{is_sorted, below_all}
use Rattle.std.proofs.lemmas.Bool.{cases_Bool, lt-ltb, ltb-true, and_parts, and_from}
use Rattle.std.proofs.lemmas.List.{map-append, drop_more}
use Rattle.std.proofs.lemmas.Option.{get_or_from_slice_get, slice_get_within}
use Rattle.std.proofs.lemmas.List.Elements.{All-head, All-tail, All-more}
use Rattle.ec_base.specs.Tables.{at, keys}
use Rattle.ec_base.specs.SortedLaws.{first, second, both}
use Rattle.std.proofs.lemmas.Bool.Decides.{eqb_tells}
use Rattle.ec_volume.specs.Image.{is_gone}
use Rattle.ec_volume.specs.Volume.{images}
use Rattle.ec_volume.specs.Update.{member}
use Rattle.ec_volume.specs.declared.image.Image.{Image}
use Rattle.ec_volume.specs.declared.image.Image.TheVariants.{Gone, File, Dir}
use Rattle.ec_codes.specs.Images.{image_code, image_form}
use Rattle.ec_codes.specs.LengthLaws.{file_long, dir_long}
use Rattle.ec_codes.specs.Formats.{rows_fit}
use Rattle.ec_codes.specs.Fields.{id, word}
use Rattle.ec_stands.specs.OfTable.Codes.{last_row, is_behind, is_above, id_above, ids_in, numbers_in, is_free, place_after}
use Rattle.ec_stands.specs.declared.table.table.Version.TheVariants.{Two}
use Rattle.ec_journal.specs.OfLayout.Layout.{IsFree, AreFree, IsAmong, AreAmong}
use Rattle.ec_journal.specs.OfLayout.Pieces.{AreApart}
use Rattle.ec_stands.specs.Stands.{slot_code}
use Rattle.ec_stands.specs.Checkpoints.{AreSlots}
use Rattle.ec_store.specs.Places.{ArePlaces, AreSpare, IsPlaced, slot_of, rest_of, piece_of, placed, pieces}
use Rattle.ec_store.proofs.Members.{clash, member_cases, member_none, member_here, member_later, member_push, member_of_push, member_before, distinct_parts, at_cases, at_here, at_later, less_is}

-- What a table asks of a place.

pub last_push : {A : Type 0} (xs : List A) (x : A) → last_row (xs ++ x ∷ []) ≡ Some x
last_push [] x = refl
last_push (y ∷ []) x = refl
last_push (y ∷ z ∷ xs) x = last_push (z ∷ xs) x

pub ids_push : (before : List (ℕ × ℕ)) (p : ℕ × ℕ) → ids_in (before ++ p ∷ []) ≡ ids_in before ++ p.0 ∷ []
ids_push before p = map-append (λ (q : ℕ × ℕ). q.0) before (p ∷ [])

numbers_push : (before : List (ℕ × ℕ)) (p : ℕ × ℕ) → numbers_in (before ++ p ∷ []) ≡ numbers_in before ++ p.1 ∷ []
numbers_push before p = map-append (λ (q : ℕ × ℕ). q.1) before (p ∷ [])

above_push : (before : List (ℕ × ℕ)) (p : ℕ × ℕ) (n : ℕ) → p.0 < n → is_above (ids_in (before ++ p ∷ [])) n ≡ true
above_push before p n lt = ap (λ (os : List ℕ). is_above os n) (ids_push before p) ∙ ap (λ (l : Option ℕ). is_behind l n) (last_push (ids_in before) p.0) ∙ lt-ltb p.0 n lt

place_fits : (most : ℕ) (before : List (ℕ × ℕ)) (o s : ℕ) → most ≤ 1024 → id.fits o ≡ true → is_above (ids_in before) o ≡ true → s < 2 * most → member s (numbers_in before) ≡ false → (place_after most before).fits (o, s) ≡ true
unfolding place_after id_above word
place_fits most before o s limit fits above below out =
    and_from (id.fits o && is_above (ids_in before) o) _ (and_from (id.fits o) (is_above (ids_in before) o) fits above)
    (and_from (nat_lt s (2 ^ 32)) (is_free most (numbers_in before) s) (lt-ltb s (2 ^ 32) (omega (arith, limit, below))) (and_from (nat_lt s (2 * most)) (not (member s (numbers_in before))) (lt-ltb s (2 * most) below) (ap not out)))

place_parts : (most : ℕ) (before : List (ℕ × ℕ)) (p : ℕ × ℕ) → (place_after most before).fits p ≡ true → (p.1 < 2 * most) × (member p.1 (numbers_in before) ≡ false)
unfolding place_after id_above
place_parts most before p fits =
    let a = and_parts (id.fits p.0 && is_above (ids_in before) p.0) (word.fits p.1 && is_free most (numbers_in before) p.1) fits in
    let b = and_parts (word.fits p.1) (is_free most (numbers_in before) p.1) a.1 in
    let c = and_parts (nat_lt p.1 (2 * most)) (not (member p.1 (numbers_in before))) b.1 in
    (ltb-true p.1 (2 * most) c.0, unsaid (member p.1 (numbers_in before)) c.1)
  where
    unsaid : (b : Bool) → not b ≡ true → b ≡ false
    unsaid true h = absurd cc
    unsaid false h = refl

place_id : (most : ℕ) (before : List (ℕ × ℕ)) (p : ℕ × ℕ) → (place_after most before).fits p ≡ true → id.fits p.0 ≡ true
unfolding place_after id_above
place_id most before p fits =
    (and_parts (id.fits p.0) (is_above (ids_in before) p.0) (and_parts (id.fits p.0 && is_above (ids_in before) p.0) (word.fits p.1 && is_free most (numbers_in before) p.1) fits).0).0

-- what stands in a table's places
module _ (most : ℕ) where
  row_facts : (before xs : List (ℕ × ℕ)) → rows_fit (place_after most) before xs ≡ true → (n : ℕ) → member n (numbers_in xs) ≡ true → (n < 2 * most) × (member n (numbers_in before) ≡ false)
  row_facts before [] fits n is = absurd cc
  row_facts before (x ∷ xs) fits n is =
      let parts = and_parts ((place_after most before).fits x) (rows_fit (place_after most) (before ++ x ∷ []) xs) fits in
      let here = place_parts most before x parts.0 in
      ⊎_elim
      (λ same. (subst (λ m. m < 2 * most) (sym same) here.0, ap (λ (m : ℕ). member m (numbers_in before)) same ∙ here.1))
      (λ later.
      let rec = row_facts (before ++ x ∷ []) xs parts.1 n later in
      (rec.0, ⊎_elim (λ is_in. clash (member n (numbers_in (before ++ x ∷ []))) (ap (λ (ns : List ℕ). member n ns) (numbers_push before x) ∙ member_before n x.1 (numbers_in before) is_in) rec.1) (λ no. no) (cases_Bool (member n (numbers_in before)))))
      (member_cases n x.1 (numbers_in xs) is)

  pub at_number : (o s : ℕ) (xs : List (ℕ × ℕ)) → at o xs ≡ Some s → member s (numbers_in xs) ≡ true
  at_number o s [] found = absurd cc
  at_number o s (x ∷ xs) found = ⊎_elim (λ here. member_here s x.1 (numbers_in xs) (sym here.1)) (λ later. member_later s x.1 (numbers_in xs) (at_number o s xs later.1)) (at_cases o x xs s found)

  rows_apart : (before xs : List (ℕ × ℕ)) → rows_fit (place_after most) before xs ≡ true → (o p s : ℕ) → at o xs ≡ Some s → at p xs ≡ Some s → o ≡ p
  rows_apart before [] fits o p s one other = absurd cc
  rows_apart before (x ∷ xs) fits o p s one other =
      let parts = and_parts ((place_after most before).fits x) (rows_fit (place_after most) (before ++ x ∷ []) xs) fits in
      let fresh = λ (q : ℕ) (e : x.1 ≡ s) (found : at q xs ≡ Some s). clash {A = o ≡ p} (member s (numbers_in (before ++ x ∷ []))) (ap (λ (ns : List ℕ). member s ns) (numbers_push before x) ∙ member_of_push s x.1 (numbers_in before) (sym e)) (row_facts (before ++ x ∷ []) xs parts.1 s (at_number q s xs found)).1 in
      elim (at_cases o x xs s one) [
        | inl a ↦ elim (at_cases p x xs s other) [
          | inl b ↦ a.0 ∙ sym b.0
          | inr b ↦ fresh p a.1 b.1
        ]
        | inr a ↦ elim (at_cases p x xs s other) [
          | inl b ↦ fresh o b.1 a.1
          | inr b ↦ rows_apart (before ++ x ∷ []) xs parts.1 o p s a.1 b.1
        ]
      ]

  row_ids : (before xs : List (ℕ × ℕ)) → rows_fit (place_after most) before xs ≡ true → (o s : ℕ) → at o xs ≡ Some s → id.fits o ≡ true
  row_ids before [] fits o s found = absurd cc
  row_ids before (x ∷ xs) fits o s found =
      let parts = and_parts ((place_after most before).fits x) (rows_fit (place_after most) (before ++ x ∷ []) xs) fits in
      ⊎_elim (λ here. ap (λ (n : ℕ). id.fits n) here.0 ∙ place_id most before x parts.0) (λ later. row_ids (before ++ x ∷ []) xs parts.1 o s later.1) (at_cases o x xs s found)

  length_numbers : (xs : List (ℕ × ℕ)) → length (numbers_in xs) ≡ length xs
  length_numbers [] = refl
  length_numbers (x ∷ xs) = omega (arith, length_numbers xs)

  pub are_places : (xs : List (ℕ × ℕ)) → rows_fit (place_after most) [] xs ≡ true → length xs ≤ most → ArePlaces most (numbers_in xs) xs
  are_places xs fits few = record {
    below = λ n is. (row_facts [] xs fits n is).0;
    few = omega (arith, length_numbers xs, few);
    among = λ o s found. at_number o s xs found;
    apart = rows_apart [] xs fits;
    ids = row_ids [] xs fits;
  }

module _ (most : ℕ) (limit : most ≤ 1024) (named : List ℕ) (kept : List (ℕ × ℕ)) (are : ArePlaces most named kept) where
  abbrev pub HeadAbove : List (ℕ × ℕ) → List (ℕ × Image) → Type 0
  HeadAbove before [] = Unit {0}
  HeadAbove before (e ∷ es) = is_above (ids_in before) e.0 ≡ true

  -- places so far, and what is left of the objects and of the free slots
  pub record IsReady (before : List (ℕ × ℕ)) (es : List (ℕ × Image)) (free : List ℕ) : Type 0 where
    pub above : HeadAbove before es
    pub sorted : T (is_sorted nat_cmp es)
    pub each : All (IsPlaced kept) es
    pub long : length es ≤ length free
    pub spare : AreSpare most named free
    pub apart : (n : ℕ) → member n (numbers_in before) ≡ true → (member n free ≡ false) × ((o : ℕ) → member o (keys es) ≡ true → at o kept ≡ Some n → ⊥)

  next_above : (before : List (ℕ × ℕ)) (p : ℕ × ℕ) (es : List (ℕ × Image)) → T (below_all nat_cmp p.0 es) → HeadAbove (before ++ p ∷ []) es
  next_above before p [] below = tt
  next_above before p (e ∷ es) below = above_push before p e.0 (less_is p.0 e.0 (first (is_lt (nat_cmp p.0 e.0)) (below_all nat_cmp p.0 es) below))

  not_below : (o k : ℕ) (es : List (ℕ × Image)) → T (below_all nat_cmp k es) → member o (keys es) ≡ true → k < o
  not_below o k [] below is = absurd cc
  not_below o k (e ∷ es) below is = ⊎_elim (λ same. subst (λ m. k < m) (sym same) (less_is k e.0 (first (is_lt (nat_cmp k e.0)) (below_all nat_cmp k es) below))) (λ later. not_below o k es (second (is_lt (nat_cmp k e.0)) (below_all nat_cmp k es) below) later) (member_cases o e.0 (keys es) is)

  out_of_named : (n : ℕ) (free : List ℕ) → AreSpare most named free → member n named ≡ true → member n free ≡ false
  out_of_named n free spare is = ⊎_elim (λ yes. clash (member n named) is (spare.each n yes).1) (λ no. no) (cases_Bool (member n free))

  step : (before : List (ℕ × ℕ)) (e : ℕ × Image) (es : List (ℕ × Image)) (free : List ℕ) (x : Option ℕ) → at e.0 kept ≡ x → IsReady before (e ∷ es) free → ((place_after most before).fits (e.0, slot_of x free) ≡ true) × IsReady (before ++ (e.0, slot_of x free) ∷ []) es (rest_of x free)
  step before e es free (Some s) is ready =
      let below = first (below_all nat_cmp e.0 es) (is_sorted nat_cmp es) ready.sorted in
      let out : member s (numbers_in before) ≡ false = ⊎_elim (λ yes. absurd ((ready.apart s yes).1 e.0 (member_here e.0 e.0 (keys es) refl) is)) (λ no. no) (cases_Bool (member s (numbers_in before))) in (
        place_fits most before e.0 s limit (are.ids e.0 s is) ready.above (are.below s (are.among e.0 s is)) out,
        record {
          above = next_above before (e.0, s) es below;
          sorted = second (below_all nat_cmp e.0 es) (is_sorted nat_cmp es) ready.sorted;
          each = All-tail (IsPlaced kept) e es ready.each;
          long = omega (arith, ready.long);
          spare = ready.spare;
          apart = λ n n_is. ⊎_elim
              (λ old. ((ready.apart n old).0, λ o among. (ready.apart n old).1 o (member_later o e.0 (keys es) among)))
              (λ same. (out_of_named n free ready.spare (ap (λ (m : ℕ). member m named) same ∙ are.among e.0 s is), λ o among found. omega (arith, not_below o e.0 es below among, are.apart o e.0 s (found ∙ ap (λ (m : ℕ). Some m) same) is)))
              (member_push n s (numbers_in before) (ap (λ (ns : List ℕ). member n ns) (sym (numbers_push before (e.0, s))) ∙ n_is));
        },
      )
  step before e es [] None is ready = absurd (omega (arith, ready.long))
  step before e es (f ∷ free) None is ready =
      let below = first (below_all nat_cmp e.0 es) (is_sorted nat_cmp es) ready.sorted in
      let here = ready.spare.each f (member_here f f free refl) in
      let once = distinct_parts f free ready.spare.once in
      let out : member f (numbers_in before) ≡ false = ⊎_elim (λ yes. clash (member f (f ∷ free)) (member_here f f free refl) (ready.apart f yes).0) (λ no. no) (cases_Bool (member f (numbers_in before))) in (
        place_fits most before e.0 f limit (and_parts (id.fits e.0) (image_code.fits e.1) (All-head (IsPlaced kept) e es ready.each is).0).0 ready.above here.0 out,
        record {
          above = next_above before (e.0, f) es below;
          sorted = second (below_all nat_cmp e.0 es) (is_sorted nat_cmp es) ready.sorted;
          each = All-tail (IsPlaced kept) e es ready.each;
          long = omega (arith, ready.long);
          spare = record { each = λ n n_is. ready.spare.each n (member_later n f free n_is); once = once.1 };
          apart = λ n n_is. ⊎_elim
              (λ old. ((member_none n f free (ready.apart n old).0).1, λ o among. (ready.apart n old).1 o (member_later o e.0 (keys es) among)))
              (λ same. (ap (λ (m : ℕ). member m free) same ∙ once.0, λ o among found. clash (member f named) (are.among o f (found ∙ ap (λ (m : ℕ). Some m) same)) here.1))
              (member_push n f (numbers_in before) (ap (λ (ns : List ℕ). member n ns) (sym (numbers_push before (e.0, f))) ∙ n_is));
        },
      )

  pub rows : (before : List (ℕ × ℕ)) (es : List (ℕ × Image)) (free : List ℕ) → IsReady before es free → rows_fit (place_after most) before (placed kept es free) ≡ true
  rows before [] free ready = refl
  rows before (e ∷ es) free ready =
      let next = step before e es free (at e.0 kept) refl ready in
      and_from ((place_after most before).fits (e.0, slot_of (at e.0 kept) free)) (rows_fit (place_after most) (before ++ (e.0, slot_of (at e.0 kept) free) ∷ []) (placed kept es (rest_of (at e.0 kept) free))) next.0
      (rows (before ++ (e.0, slot_of (at e.0 kept) free) ∷ []) es (rest_of (at e.0 kept) free) next.1)

  first_above : (es : List (ℕ × Image)) → HeadAbove [] es
  first_above [] = tt
  first_above (e ∷ es) = refl

  pub rows_all : (es : List (ℕ × Image)) (free : List ℕ) → T (is_sorted nat_cmp es) → All (IsPlaced kept) es → length es ≤ length free → AreSpare most named free → rows_fit (place_after most) [] (placed kept es free) ≡ true
  rows_all es free sorted each long spare = rows [] es free (record { above = first_above es; sorted = sorted; each = each; long = long; spare = spare; apart = λ n is. absurd (never n is) })
    where
      never : (n : ℕ) → member n [] ≡ true → ⊥
      never n is = cc

  -- the pieces

  rest_spare : (free : List ℕ) (x : Option ℕ) → AreSpare most named free → AreSpare most named (rest_of x free)
  rest_spare free (Some s) spare = spare
  rest_spare [] None spare = spare
  rest_spare (f ∷ free) None spare = record { each = λ n is. spare.each n (member_later n f free is); once = (distinct_parts f free spare.once).1 }

  pieces_free : (k : ℕ) (es : List (ℕ × Image)) (free : List ℕ) → length es ≤ length free → member k free ≡ false → IsFree k (pieces kept es free)
  pieces_free k [] free long out = tt
  pieces_free k (e ∷ es) free long out = by (at e.0 kept) free long out (λ rest l o. pieces_free k es rest l o)
    where
      by : (x : Option ℕ) (free : List ℕ) → length (e ∷ es) ≤ length free → member k free ≡ false → ((rest : List ℕ) → length es ≤ length rest → member k rest ≡ false → IsFree k (pieces kept es rest)) → IsFree k (piece_of x free e ++ pieces kept es (rest_of x free))
      by (Some s) free long out rec = rec free (omega (arith, long)) out
      by None [] long out rec = absurd (omega (arith, long))
      by None (f ∷ free) long out rec = ((member_none k f free out).0, rec free (omega (arith, long)) (member_none k f free out).1)

  pub pieces_apart : (es : List (ℕ × Image)) (free : List ℕ) → All (IsPlaced kept) es → length es ≤ length free → AreSpare most named free → AreApart (pieces kept es free)
  pieces_apart [] free each long spare = tt
  pieces_apart (e ∷ es) free each long spare = by (at e.0 kept) refl free long spare (λ rest l s. pieces_apart es rest (All-tail (IsPlaced kept) e es each) l s)
    where
      by : (x : Option ℕ) → at e.0 kept ≡ x → (free : List ℕ) → length (e ∷ es) ≤ length free → AreSpare most named free → ((rest : List ℕ) → length es ≤ length rest → AreSpare most named rest → AreApart (pieces kept es rest)) → AreApart (piece_of x free e ++ pieces kept es (rest_of x free))
      by (Some s) is free long spare rec = rec free (omega (arith, long)) spare
      by None is [] long spare rec = absurd (omega (arith, long))
      by None is (f ∷ free) long spare rec = (
        omega (arith, limit, (spare.each f (member_here f f free refl)).0),
        (All-head (IsPlaced kept) e es each is).1,
        pieces_free f es free (omega (arith, long)) (distinct_parts f free spare.once).0,
        rec free (omega (arith, long)) (rest_spare (f ∷ free) None spare),
      )

  pub pieces_are_free : (slots : List (ℕ × List ℕ)) → ((k : ℕ) → member k named ≡ false → IsFree k slots) → (es : List (ℕ × Image)) (free : List ℕ) → length es ≤ length free → AreSpare most named free → AreFree (pieces kept es free) slots
  pieces_are_free slots numbers [] free long spare = tt
  pieces_are_free slots numbers (e ∷ es) free long spare = by (at e.0 kept) free long spare (λ rest l s. pieces_are_free slots numbers es rest l s)
    where
      by : (x : Option ℕ) (free : List ℕ) → length (e ∷ es) ≤ length free → AreSpare most named free → ((rest : List ℕ) → length es ≤ length rest → AreSpare most named rest → AreFree (pieces kept es rest) slots) → AreFree (piece_of x free e ++ pieces kept es (rest_of x free)) slots
      by (Some s) free long spare rec = rec free (omega (arith, long)) spare
      by None [] long spare rec = absurd (omega (arith, long))
      by None (f ∷ free) long spare rec = (numbers f (spare.each f (member_here f f free refl)).1, rec free (omega (arith, long)) (rest_spare (f ∷ free) None spare))

-- The slots that the new table names.

abbrev pub slots_of : List (ℕ × ℕ) → List (ℕ × Image) → List (ℕ × List ℕ)
slots_of [] es = []
slots_of (p ∷ places) [] = []
slots_of (p ∷ places) (e ∷ es) = (p.1, (slot_code Two).spell e) ∷ slots_of places es

-- the object's image is in its slot, where it's kept
abbrev pub StandsIn : List (ℕ × List ℕ) → List (ℕ × ℕ) → ℕ × Image → Type 0
StandsIn slots kept e = (s : ℕ) → at e.0 kept ≡ Some s → IsAmong (s, (slot_code Two).spell e) slots × ((slot_code Two).fits e ≡ true)

more_among : (new slots : List (ℕ × List ℕ)) (p : ℕ × List ℕ) (ps : List (ℕ × List ℕ)) → AreAmong new slots ps → AreAmong new slots (p ∷ ps)
more_among [] slots p ps among = tt
more_among (s ∷ new) slots p ps among = (⊎_elim (λ old. inl old) (λ it. inr (inr it)) among.0, more_among new slots p ps among.1)

module _ (slots : List (ℕ × List ℕ)) (kept : List (ℕ × ℕ)) where
  pub new_slots : (es : List (ℕ × Image)) (free : List ℕ) → All (StandsIn slots kept) es → All (IsPlaced kept) es → AreSlots (slots_of (placed kept es free) es) (placed kept es free) es
  new_slots [] free stand each = tt
  new_slots (e ∷ es) free stand each = (refl, refl, fits (at e.0 kept) refl, new_slots es (rest_of (at e.0 kept) free) (All-tail (StandsIn slots kept) e es stand) (All-tail (IsPlaced kept) e es each))
    where
      fits : (x : Option ℕ) → at e.0 kept ≡ x → (slot_code Two).fits e ≡ true
      fits (Some s) is = (All-head (StandsIn slots kept) e es stand s is).1
      fits None is = (All-head (IsPlaced kept) e es each is).0

  pub new_among : (es : List (ℕ × Image)) (free : List ℕ) → All (StandsIn slots kept) es → AreAmong (slots_of (placed kept es free) es) slots (pieces kept es free)
  new_among [] free stand = tt
  new_among (e ∷ es) free stand = by (at e.0 kept) refl (new_among es (rest_of (at e.0 kept) free) (All-tail (StandsIn slots kept) e es stand))
    where
      by : (x : Option ℕ) → at e.0 kept ≡ x → AreAmong (slots_of (placed kept es (rest_of (at e.0 kept) free)) es) slots (pieces kept es (rest_of (at e.0 kept) free))
          → AreAmong ((slot_of (at e.0 kept) free, (slot_code Two).spell e) ∷ slots_of (placed kept es (rest_of (at e.0 kept) free)) es) slots (piece_of (at e.0 kept) free e ++ pieces kept es (rest_of (at e.0 kept) free))
      by (Some s) is rec =
          let same = sym is in
          subst (λ x. AreAmong ((slot_of x free, (slot_code Two).spell e) ∷ slots_of (placed kept es (rest_of (at e.0 kept) free)) es) slots (piece_of x free e ++ pieces kept es (rest_of (at e.0 kept) free))) same
          (inl (All-head (StandsIn slots kept) e es stand s is).0, rec)
      by None is rec =
          subst (λ x. AreAmong ((slot_of x free, (slot_code Two).spell e) ∷ slots_of (placed kept es (rest_of (at e.0 kept) free)) es) slots (piece_of x free e ++ pieces kept es (rest_of (at e.0 kept) free))) (sym is)
          (inr (inl refl), more_among (slots_of (placed kept es (rest_of (at e.0 kept) free)) es) slots (get_or free 0 0, (slot_code Two).spell e) (pieces kept es (rest_of (at e.0 kept) free)) rec)

-- what a new table names
pub new_numbers : (k : ℕ) (places : List (ℕ × ℕ)) (es : List (ℕ × Image)) → member k (numbers_in places) ≡ false → IsFree k (slots_of places es)
new_numbers k [] es out = tt
new_numbers k (p ∷ places) [] out = tt
new_numbers k (p ∷ places) (e ∷ es) out = ((member_none k p.1 (numbers_in places) out).0, new_numbers k places es (member_none k p.1 (numbers_in places) out).1)

-- each place has its object's image
pub place_stands : (slots : List (ℕ × List ℕ)) (places : List (ℕ × ℕ)) (es : List (ℕ × Image)) → AreSlots slots places es → (o s : ℕ) → at o places ≡ Some s
    → (i : Image) × (at o es ≡ Some i) × IsAmong (s, (slot_code Two).spell (o, i)) slots × ((slot_code Two).fits (o, i) ≡ true)
place_stands [] [] [] are o s found = absurd cc
place_stands [] [] (e ∷ es) are o s found = absurd are
place_stands [] (p ∷ places) es are o s found = absurd are
place_stands (t ∷ slots) [] es are o s found = absurd are
place_stands (t ∷ slots) (p ∷ places) [] are o s found = absurd are
place_stands (t ∷ slots) (p ∷ places) (e ∷ es) are o s found =
    elim (at_cases o p places s found) [
      | inl here ↦
          let same : o ≡ e.0 = here.0 ∙ sym are.1 in (
            e.1,
            at_here o e es same,
            inl (ap (λ (n : ℕ). (n, (slot_code Two).spell (o, e.1))) (sym here.1) ∙ ap (λ (n : ℕ). (p.1, (slot_code Two).spell (n, e.1))) same ∙ sym are.0),
            ap (λ (n : ℕ). (slot_code Two).fits (n, e.1)) same ∙ are.2,
          )
      | inr later ↦
          let rec = place_stands slots places es are.3 o s later.1 in
          (rec.0, at_later o e es (λ same. later.0 (same ∙ are.1)) ∙ rec.1, inr rec.2, rec.3)
    ]

-- by rising ids
pub placed_sorted : (kept : List (ℕ × ℕ)) (es : List (ℕ × Image)) (free : List ℕ) → T (is_sorted nat_cmp es) → T (is_sorted nat_cmp (placed kept es free))
placed_sorted kept [] free sorted = tt
placed_sorted kept (e ∷ es) free sorted =
    both (below_all nat_cmp e.0 (placed kept es (rest_of (at e.0 kept) free))) (is_sorted nat_cmp (placed kept es (rest_of (at e.0 kept) free)))
    (below e.0 es (rest_of (at e.0 kept) free) (first (below_all nat_cmp e.0 es) (is_sorted nat_cmp es) sorted)) (placed_sorted kept es (rest_of (at e.0 kept) free) (second (below_all nat_cmp e.0 es) (is_sorted nat_cmp es) sorted))
  where
    below : (k : ℕ) (fs : List (ℕ × Image)) (rest : List ℕ) → T (below_all nat_cmp k fs) → T (below_all nat_cmp k (placed kept fs rest))
    below k [] rest h = tt
    below k (f ∷ fs) rest h = both (is_lt (nat_cmp k f.0)) (below_all nat_cmp k (placed kept fs (rest_of (at f.0 kept) rest))) (first (is_lt (nat_cmp k f.0)) (below_all nat_cmp k fs) h) (below k fs (rest_of (at f.0 kept) rest) (second (is_lt (nat_cmp k f.0)) (below_all nat_cmp k fs) h))

pub length_placed : (kept : List (ℕ × ℕ)) (es : List (ℕ × Image)) (free : List ℕ) → length (placed kept es free) ≡ length es
length_placed kept [] free = refl
length_placed kept (e ∷ es) free = omega (arith, length_placed kept es (rest_of (at e.0 kept) free))

-- The bytes of a slot.

gone_one : length (image_code.spell Gone) ≡ 1
unfolding image_code image_form
gone_one = refl

slot_short : (o : ℕ) (i : Image) → (slot_code Two).fits (o, i) ≡ true → length ((slot_code Two).spell (o, i)) ≤ 65600
unfolding id
slot_short o Gone fits = omega (arith, length-append (id.spell o) (image_code.spell Gone), gone_one)
slot_short o (File m s w bs) fits = omega (arith, length-append (id.spell o) (image_code.spell (File m s w bs)), file_long m s w bs (and_parts (id.fits o) (image_code.fits (File m s w bs)) fits).1)
slot_short o (Dir m s w es) fits = omega (arith, length-append (id.spell o) (image_code.spell (Dir m s w es)), dir_long m s w es (and_parts (id.fits o) (image_code.fits (Dir m s w es)) fits).1)

pub bytes_short : (bytes : List ℕ) (o : ℕ) (i : Image) → bytes ≡ (slot_code Two).spell (o, i) → (slot_code Two).fits (o, i) ≡ true → length bytes ≤ 65600
bytes_short bytes o i is fits = subst (λ (x : List ℕ). length x ≤ 65600) (sym is) (slot_short o i fits)

-- One object more.

rest_at : (vol : List (ℕ × Image)) (i : ℕ) (e : ℕ × Image) → slice_get vol i ≡ Some e → drop i vol ≡ e ∷ drop (i + 1) vol
rest_at vol i e is = drop_more vol i e (slice_get_within vol i e is) ∙ ap (λ (x : ℕ × Image). x ∷ drop (i + 1) vol) (get_or_from_slice_get vol i e e is)

pub places_more : (kept : List (ℕ × ℕ)) (vol : List (ℕ × Image)) (i : ℕ) (e : ℕ × Image) (old new all : List (ℕ × ℕ)) (f g : List ℕ) (x : Option ℕ) → x ≡ at e.0 kept → slice_get vol i ≡ Some e → new ≡ old ++ (e.0, slot_of x f) ∷ [] → g ≡ rest_of x f
    → old ++ placed kept (drop i vol) f ≡ all → new ++ placed kept (drop (i + 1) vol) g ≡ all
places_more kept vol i e old new all f g x is here made left so_far =
    ap (λ (ps : List (ℕ × ℕ)). ps ++ placed kept (drop (i + 1) vol) g) (made ∙ ap (λ (y : Option ℕ). old ++ (e.0, slot_of y f) ∷ []) is)
    ∙ append_assoc old ((e.0, slot_of (at e.0 kept) f) ∷ []) (placed kept (drop (i + 1) vol) g)
    ∙ ap (λ (fs : List ℕ). old ++ ((e.0, slot_of (at e.0 kept) f) ∷ placed kept (drop (i + 1) vol) fs)) (left ∙ ap (λ (y : Option ℕ). rest_of y f) is)
    ∙ ap (λ (es : List (ℕ × Image)). old ++ placed kept es f) (sym (rest_at vol i e here))
    ∙ so_far

pub pieces_more : (kept : List (ℕ × ℕ)) (vol : List (ℕ × Image)) (i : ℕ) (e : ℕ × Image) (old new all : List (ℕ × List ℕ)) (f g : List ℕ) (x : Option ℕ) → x ≡ at e.0 kept → slice_get vol i ≡ Some e → new ≡ old ++ piece_of x f e → g ≡ rest_of x f
    → old ++ pieces kept (drop i vol) f ≡ all → new ++ pieces kept (drop (i + 1) vol) g ≡ all
pieces_more kept vol i e old new all f g x is here made left so_far =
    ap (λ (ps : List (ℕ × List ℕ)). ps ++ pieces kept (drop (i + 1) vol) g) (made ∙ ap (λ (y : Option ℕ). old ++ piece_of y f e) is)
    ∙ append_assoc old (piece_of (at e.0 kept) f e) (pieces kept (drop (i + 1) vol) g)
    ∙ ap (λ (fs : List ℕ). old ++ (piece_of (at e.0 kept) f e ++ pieces kept (drop (i + 1) vol) fs)) (left ∙ ap (λ (y : Option ℕ). rest_of y f) is)
    ∙ ap (λ (es : List (ℕ × Image)). old ++ pieces kept es f) (sym (rest_at vol i e here))
    ∙ so_far

pub each_more : (kept : List (ℕ × ℕ)) (vol : List (ℕ × Image)) (i : ℕ) (e : ℕ × Image) (x : Option ℕ) → x ≡ at e.0 kept → slice_get vol i ≡ Some e → (x ≡ None → ((slot_code Two).fits e ≡ true) × (length ((slot_code Two).spell e) ≤ 65600))
    → All (IsPlaced kept) (take i vol) → All (IsPlaced kept) (take (i + 1) vol)
each_more kept vol i e x is here fits so_far =
    All-more (IsPlaced kept) vol i e (slice_get_within vol i e here) so_far (subst (IsPlaced kept) (sym (get_or_from_slice_get vol i e e here)) (λ none. fits (is ∙ none)))

-- a live object that is kept stays in its slot
pub placed_keeps : (kept : List (ℕ × ℕ)) (es : List (ℕ × Image)) (free : List ℕ) (o s : ℕ) → at o kept ≡ Some s → is_gone (images es o) ≡ false → at o (placed kept es free) ≡ Some s
placed_keeps kept [] free o s found live = absurd cc
placed_keeps kept (e ∷ es) free o s found live =
    elim (eqb_tells o e.0) [
      | inl here ↦ at_here o (e.0, slot_of (at e.0 kept) free) (placed kept es (rest_of (at e.0 kept) free)) here.1 ∙ ap (λ (x : Option ℕ). Some (slot_of x free)) (ap (λ (n : ℕ). at n kept) (sym here.1) ∙ found)
      | inr differs ↦
          at_later o (e.0, slot_of (at e.0 kept) free) (placed kept es (rest_of (at e.0 kept) free)) differs.1
          ∙ placed_keeps kept es (rest_of (at e.0 kept) free) o s found (ap (λ (b : Bool). is_gone (cond b e.1 (images es o))) (sym differs.0) ∙ live)
    ]
