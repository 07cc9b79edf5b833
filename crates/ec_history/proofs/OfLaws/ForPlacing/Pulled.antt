-- Operations that come before others which they don't need.
use Rattle.std.proofs.Common.{◌≡◌, refl, sym, ap, subst, ◌∙◌, inl, inr, ℕ, T, Bool, true, false, not, ◌&&◌, ◌||◌, cond, List, [], ◌∷◌, ◌++◌}
use Rattle.std.specs.Prelude.{⊤, ◌==◌, map, length}
use Rattle.std.proofs.lemmas.Bool.{cases_Bool, and_parts, and_from, or_parts, or_left, not-false, not-true, true≢false}
use Rattle.std.specs.List.{filter, list_all}
use Rattle.ec_volume.specs.Update.{operands, has_operand, member, fits, effect}
use Rattle.ec_volume.specs.Volume.{Images, image_next, image_after, after, fits_in_turn, Fits}
use Rattle.ec_volume.specs.declared.image.Image.{Image}
use Rattle.ec_volume.specs.declared.update.Update.{Update}
use Rattle.ec_volume.specs.declared.update.Update.TheVariants.{Put}
use Rattle.ec_order.specs.Order.{is_overwrite, share, before, meet, under, needs}
use Rattle.ec_history.specs.OfLaws.Needs.{holds_needed}
use Rattle.ec_history.proofs.OfLaws.ForPlacing.Objects.{common}
use Rattle.ec_history.proofs.OfLaws.ForPlacing.Overwriting.{effects-commute, still-fits, either-order}
use Rattle.ec_base.proofs.Bools.{on as holds, is-true}
use Rattle.ec_volume.proofs.Fitting.{turns_joined as fits-append}

-- What an update with an operand of another one says of it, where it isn't before it: both are overwrites.
pub both-overwrite : (o : ℕ) (a d : Update) → has_operand o a ≡ true → has_operand o d ≡ true → before a d ≡ false → (is_overwrite a ≡ true) × (is_overwrite d ≡ true)
both-overwrite o a d ha hd e =
    let s : share a d ≡ true = common o (operands a) (operands d) ha hd in
    let n : not (is_overwrite a && is_overwrite d) ≡ false = ap (λ b. b && not (is_overwrite a && is_overwrite d)) (sym s) ∙ e in
    and_parts (is_overwrite a) (is_overwrite d) (not-false (is_overwrite a && is_overwrite d) n)

pub needs-common : (o : ℕ) (a d : Update) → has_operand o a ≡ true → has_operand o d ≡ true → needs a d ≡ (not (is_overwrite a && is_overwrite d) || under a d)
needs-common o a d ha hd = ap (λ s. (s && not (is_overwrite a && is_overwrite d)) || under a d) (common o (operands a) (operands d) ha hd)

under-shares : (a d : Update) → under a d ≡ true → share a d ≡ true
under-shares (Put o m xs true) (Put p n ys true) e =
    or_left (member o (p ∷ [])) false (or_left (o == p) false (and_parts (o == p) (meet m (length xs) n (length ys)) e).0)
under-shares a d e = absurd (true≢false (sym e))

pub needs-strangers : (a d : Update) → share a d ≡ false → needs a d ≡ false
needs-strangers a d e =
    ap (λ s. (s && not (is_overwrite a && is_overwrite d)) || under a d) e
    ∙ elim (cases_Bool (under a d)) [ inl u ↦ absurd (true≢false (sym (under-shares a d u) ∙ e)) | inr u ↦ u ]

-- Lists that come to the same at an object.
module _ (o : ℕ) where
  abbrev pub Same : Image → List Update → List Update → Type 0
  Same i us ws = (image_after o i us ≡ image_after o i ws) × (fits_in_turn o i us ≡ fits_in_turn o i ws)

  same-next : (i : Image) (u : Update) (us ws : List Update) → Same (image_next o i u) us ws → Same i (u ∷ us) (u ∷ ws)
  same-next i u us ws s = (s.0, ap (λ b. (not (has_operand o u) || fits u o i) && b) s.1)

  same-both : (i : Image) (us vs ws : List Update) → Same i us vs → Same i vs ws → Same i us ws
  same-both i us vs ws s t = (s.0 ∙ t.0, s.1 ∙ t.1)

  same-by : (i : Image) (us ws : List Update) → us ≡ ws → Same i us ws
  same-by i us ws e = (ap (image_after o i) e, ap (fits_in_turn o i) e)

  abbrev Unneeded : Update → Update → Type 0
  Unneeded a d = has_operand o a ≡ true → has_operand o d ≡ true → needs a d ≡ false

  swap : (i : Image) (a d : Update) (us : List Update) → Unneeded a d → Same i (a ∷ d ∷ us) (d ∷ a ∷ us)
  swap i a d us n = (ap (λ j. image_after o j us) (images (has_operand o a) (has_operand o d) (λ ha hd. (facts ha hd).0)), turns)
    where
      facts : has_operand o a ≡ true → has_operand o d ≡ true
          → (effect d o (effect a o i) ≡ effect a o (effect d o i)) × (fits a o i ≡ true → fits d o (effect a o i) ≡ fits d o i) × (fits d o i ≡ true → fits a o (effect d o i) ≡ fits a o i)
      facts ha hd =
          let parts = or_parts (before a d) (under a d) (n ha hd) in
          let (x, y) = both-overwrite o a d ha hd parts.0 in
          (sym (effects-commute o i a d x y ha hd parts.1), still-fits o i a d x y, still-fits o i d a y x)

      images : (p q : Bool) → (p ≡ true → q ≡ true → effect d o (effect a o i) ≡ effect a o (effect d o i))
          → cond q (effect d o (cond p (effect a o i) i)) (cond p (effect a o i) i) ≡ cond p (effect a o (cond q (effect d o i) i)) (cond q (effect d o i) i)
      images true true f = f refl refl
      images true false f = refl
      images false true f = refl
      images false false f = refl

      in-turn : (p q rest : Bool) → (p ≡ true → q ≡ true → (fits a o i ≡ true → fits d o (effect a o i) ≡ fits d o i) × (fits d o i ≡ true → fits a o (effect d o i) ≡ fits a o i))
          → ((not p || fits a o i) && ((not q || fits d o (cond p (effect a o i) i)) && rest)) ≡ ((not q || fits d o i) && ((not p || fits a o (cond q (effect d o i) i)) && rest))
      in-turn true true rest f = either-order (fits a o i) (fits d o i) (fits a o (effect d o i)) (fits d o (effect a o i)) rest (f refl refl).0 (f refl refl).1
      in-turn true false rest f = refl
      in-turn false true rest f = refl
      in-turn false false rest f = refl

      turns : fits_in_turn o i (a ∷ d ∷ us) ≡ fits_in_turn o i (d ∷ a ∷ us)
      turns =
          in-turn (has_operand o a) (has_operand o d) (fits_in_turn o (image_next o (image_next o i a) d) us) (λ ha hd. ((facts ha hd).1, (facts ha hd).2))
          ∙ ap (λ j. (not (has_operand o d) || fits d o i) && ((not (has_operand o a) || fits a o (image_next o i d)) && fits_in_turn o j us)) (images (has_operand o a) (has_operand o d) (λ ha hd. (facts ha hd).0))

module _ {A : Type 0} (update : A → Update) (inside : A → Bool) where
  abbrev front : List A → List Update
  front xs = map update (filter inside xs)

  abbrev back : List A → List Update
  back xs = map update (filter (λ x. not (inside x)) xs)

  pub needed-part : (q : A → Bool) (xs : List A) → holds_needed update inside xs ≡ true → holds_needed update inside (filter q xs) ≡ true
  needed-part q [] h = refl
  needed-part q (x ∷ xs) h =
      let parts = and_parts (inside x || list_all (λ y. not (inside y && needs (update x) (update y))) xs) (holds_needed update inside xs) h in
      elim (cases_Bool (q x)) [
        | inl e ↦
            ap (λ b. holds_needed update inside (cond b (x ∷ filter q xs) (filter q xs))) e
            ∙ and_from (inside x || list_all (λ y. not (inside y && needs (update x) (update y))) (filter q xs)) (holds_needed update inside (filter q xs)) (first (inside x) parts.0) (needed-part q xs parts.1)
        | inr e ↦ ap (λ b. holds_needed update inside (cond b (x ∷ filter q xs) (filter q xs))) e ∙ needed-part q xs parts.1
      ]
    where
      all-part : (p : A → Bool) (ys : List A) → list_all p ys ≡ true → list_all p (filter q ys) ≡ true
      all-part p [] k = refl
      all-part p (y ∷ ys) k =
          let parts = and_parts (p y) (list_all p ys) k in
          cond-all (q y) (and_from (p y) (list_all p (filter q ys)) parts.0 (all-part p ys parts.1)) (all-part p ys parts.1)
        where
          cond-all : (b : Bool) → (p y && list_all p (filter q ys)) ≡ true → list_all p (filter q ys) ≡ true → list_all p (cond b (y ∷ filter q ys) (filter q ys)) ≡ true
          cond-all true k l = k
          cond-all false k l = l

      first : (b : Bool) → (b || list_all (λ y. not (inside y && needs (update x) (update y))) xs) ≡ true → (b || list_all (λ y. not (inside y && needs (update x) (update y))) (filter q xs)) ≡ true
      first true k = refl
      first false k = all-part (λ y. not (inside y && needs (update x) (update y))) xs k

  module _ (o : ℕ) where
    abbrev On : A → Bool
    On x = has_operand o (update x)

    -- none of these inside needs a at the object
    abbrev Clear : Update → List A → Type 0
    Clear a [] = ⊤
    Clear a (y ∷ ys) = (inside y ≡ true → Unneeded o a (update y)) × Clear a ys

    clear-from : (x : A) (ys : List A) → (has_operand o (update x) ≡ true → list_all (λ y. not (inside y && needs (update x) (update y))) (filter On ys) ≡ true) → Clear (update x) ys
    clear-from x [] h = tt
    clear-from x (y ∷ ys) h = elim (cases_Bool (On y)) [
      | inl e ↦
          let both : has_operand o (update x) ≡ true → (not (inside y && needs (update x) (update y)) ≡ true) × (list_all (λ y. not (inside y && needs (update x) (update y))) (filter On ys) ≡ true) =
          λ k. and_parts (not (inside y && needs (update x) (update y))) (list_all (λ y. not (inside y && needs (update x) (update y))) (filter On ys))
          (ap (λ b. list_all (λ y. not (inside y && needs (update x) (update y))) (cond b (y ∷ filter On ys) (filter On ys))) (sym e) ∙ h k) in
          (λ i k l. ap (λ b. b && needs (update x) (update y)) (sym i) ∙ not-true (inside y && needs (update x) (update y)) (both k).0, clear-from x ys (λ k. (both k).1))
      | inr e ↦ (
        λ i k l. absurd (true≢false (sym l ∙ e)),
        clear-from x ys (λ k. ap (λ b. list_all (λ y. not (inside y && needs (update x) (update y))) (cond b (y ∷ filter On ys) (filter On ys))) (sym e) ∙ h k),
      )
    ]

    carry : (i : Image) (a : Update) (ys : List A) (ws : List Update) → Clear a ys → Same o i (a ∷ (front ys ++ ws)) (front ys ++ a ∷ ws)
    carry i a [] ws c = (refl, refl)
    carry i a (y ∷ ys) ws c = elim (cases_Bool (inside y)) [
      | inl e ↦
          let here : front (y ∷ ys) ≡ update y ∷ front ys = ap (λ b. map update (cond b (y ∷ filter inside ys) (filter inside ys))) e in
          same-both o i (a ∷ (front (y ∷ ys) ++ ws)) (a ∷ update y ∷ (front ys ++ ws)) (front (y ∷ ys) ++ a ∷ ws) (same-by o i (a ∷ (front (y ∷ ys) ++ ws)) (a ∷ update y ∷ (front ys ++ ws)) (ap (λ us. a ∷ (us ++ ws)) here))
          (same-both o i (a ∷ update y ∷ (front ys ++ ws)) (update y ∷ a ∷ (front ys ++ ws)) (front (y ∷ ys) ++ a ∷ ws) (swap o i a (update y) (front ys ++ ws) (c.0 e))
          (same-both o i (update y ∷ a ∷ (front ys ++ ws)) (update y ∷ (front ys ++ a ∷ ws)) (front (y ∷ ys) ++ a ∷ ws) (same-next o i (update y) (a ∷ (front ys ++ ws)) (front ys ++ a ∷ ws) (carry (image_next o i (update y)) a ys ws c.1))
          (same-by o i (update y ∷ (front ys ++ a ∷ ws)) (front (y ∷ ys) ++ a ∷ ws) (ap (λ us. us ++ a ∷ ws) (sym here)))))
      | inr e ↦
          let here : front (y ∷ ys) ≡ front ys = ap (λ b. map update (cond b (y ∷ filter inside ys) (filter inside ys))) e in
          same-both o i (a ∷ (front (y ∷ ys) ++ ws)) (a ∷ (front ys ++ ws)) (front (y ∷ ys) ++ a ∷ ws) (same-by o i (a ∷ (front (y ∷ ys) ++ ws)) (a ∷ (front ys ++ ws)) (ap (λ us. a ∷ (us ++ ws)) here))
          (same-both o i (a ∷ (front ys ++ ws)) (front ys ++ a ∷ ws) (front (y ∷ ys) ++ a ∷ ws) (carry i a ys ws c.1)
          (same-by o i (front ys ++ a ∷ ws) (front (y ∷ ys) ++ a ∷ ws) (ap (λ us. us ++ a ∷ ws) (sym here))))
    ]

    -- what the premise says of the first operation and of the others
    split-needed : (x : A) (xs : List A) → holds_needed update inside (filter On (x ∷ xs)) ≡ true → (inside x ≡ false → Clear (update x) xs) × (holds_needed update inside (filter On xs) ≡ true)
    split-needed x xs h = elim (cases_Bool (On x)) [
      | inl e ↦
          let parts = and_parts (inside x || list_all (λ y. not (inside y && needs (update x) (update y))) (filter On xs)) (holds_needed update inside (filter On xs))
          (ap (λ b. holds_needed update inside (cond b (x ∷ filter On xs) (filter On xs))) (sym e) ∙ h) in
          (λ n. clear-from x xs (λ k. ap (λ b. b || list_all (λ y. not (inside y && needs (update x) (update y))) (filter On xs)) (sym n) ∙ parts.0), parts.1)
      | inr e ↦
          (λ n. clear-from x xs (λ k. absurd (true≢false (sym k ∙ e))), ap (λ b. holds_needed update inside (cond b (x ∷ filter On xs) (filter On xs))) (sym e) ∙ h)
    ]

    pulled : (i : Image) (xs : List A) → holds_needed update inside (filter On xs) ≡ true → Same o i (front xs ++ back xs) (map update xs)
    pulled i [] h = (refl, refl)
    pulled i (x ∷ xs) h =
        let parts = split-needed x xs h in
        let rest : Same o (image_next o i (update x)) (front xs ++ back xs) (map update xs) = pulled (image_next o i (update x)) xs parts.1 in
        let next : Same o i (update x ∷ (front xs ++ back xs)) (update x ∷ map update xs) = same-next o i (update x) (front xs ++ back xs) (map update xs) rest in
        elim (cases_Bool (inside x)) [
          | inl e ↦
              same-both o i (front (x ∷ xs) ++ back (x ∷ xs)) (update x ∷ (front xs ++ back xs)) (update x ∷ map update xs)
              (same-by o i (front (x ∷ xs) ++ back (x ∷ xs)) (update x ∷ (front xs ++ back xs))
              (ap (λ b. map update (cond b (x ∷ filter inside xs) (filter inside xs)) ++ map update (cond (not b) (x ∷ filter (λ y. not (inside y)) xs) (filter (λ y. not (inside y)) xs))) e)) next
          | inr e ↦
              same-both o i (front (x ∷ xs) ++ back (x ∷ xs)) (front xs ++ update x ∷ back xs) (update x ∷ map update xs)
              (same-by o i (front (x ∷ xs) ++ back (x ∷ xs)) (front xs ++ update x ∷ back xs)
              (ap (λ b. map update (cond b (x ∷ filter inside xs) (filter inside xs)) ++ map update (cond (not b) (x ∷ filter (λ y. not (inside y)) xs) (filter (λ y. not (inside y)) xs))) e))
              (same-both o i (front xs ++ update x ∷ back xs) (update x ∷ (front xs ++ back xs)) (update x ∷ map update xs)
              (let c = carry i (update x) xs (back xs) (parts.0 e) in (sym c.0, sym c.1)) next)
        ]

-- The laws, at one object and of a volume.
module _ {A : Type 0} (update : A → Update) where
  abbrev first : (A → Bool) → List A → List Update
  first inside xs = map update (filter inside xs)

  abbrev later : (A → Bool) → List A → List Update
  later inside xs = map update (filter (λ x. not (inside x)) xs)

  pub pulled-after : (o : ℕ) (i : Image) (inside : A → Bool) (xs : List A) → T (holds_needed update inside (filter (λ x. has_operand o (update x)) xs)) → image_after o i (first inside xs ++ later inside xs) ≡ image_after o i (map update xs)
  pulled-after o i inside xs h = (pulled update inside o i xs (is-true _ h)).0

  pub pulled-fits : (o : ℕ) (i : Image) (inside : A → Bool) (xs : List A) → T (holds_needed update inside (filter (λ x. has_operand o (update x)) xs)) → fits_in_turn o i (first inside xs ++ later inside xs) ≡ fits_in_turn o i (map update xs)
  pulled-fits o i inside xs h = (pulled update inside o i xs (is-true _ h)).1

  pub pulled-alone : (o : ℕ) (i : Image) (inside : A → Bool) (xs : List A) → T (holds_needed update inside (filter (λ x. has_operand o (update x)) xs)) → T (fits_in_turn o i (map update xs)) → T (fits_in_turn o i (first inside xs))
  pulled-alone o i inside xs h f =
      let whole : (fits_in_turn o i (first inside xs) && fits_in_turn o (image_after o i (first inside xs)) (later inside xs)) ≡ true = sym (fits-append o i (first inside xs) (later inside xs)) ∙ pulled-fits o i inside xs h ∙ is-true _ f in
      holds (and_parts (fits_in_turn o i (first inside xs)) (fits_in_turn o (image_after o i (first inside xs)) (later inside xs)) whole).0

  at-object : (o : ℕ) (inside : A → Bool) (xs : List A) → T (holds_needed update inside xs) → T (holds_needed update inside (filter (λ x. has_operand o (update x)) xs))
  at-object o inside xs h = holds (needed-part update inside (λ x. has_operand o (update x)) xs (is-true _ h))

  pub pulled-volume : (base : Images) (inside : A → Bool) (xs : List A) → T (holds_needed update inside xs) → after base (first inside xs ++ later inside xs) ≡ after base (map update xs)
  pulled-volume base inside xs h = λ t o. pulled-after o (base o) inside xs (at-object o inside xs h) t

  pub pulled-fit : (base : Images) (inside : A → Bool) (xs : List A) → T (holds_needed update inside xs) → Fits base (map update xs) → Fits base (first inside xs ++ later inside xs)
  pulled-fit base inside xs h f o = subst T (sym (pulled-fits o (base o) inside xs (at-object o inside xs h))) (f o)

  pub pulled-fit_alone : (base : Images) (inside : A → Bool) (xs : List A) → T (holds_needed update inside xs) → Fits base (map update xs) → Fits base (first inside xs)
  pulled-fit_alone base inside xs h f o = pulled-alone o (base o) inside xs (at-object o inside xs h) (f o)

-- A set, and then others.
module _ {A : Type 0} (p q : A → Bool) where
  inside-either : (xs : List A) → filter p (filter (λ x. p x || q x) xs) ≡ filter p xs
  inside-either [] = refl
  inside-either (x ∷ xs) = go (p x) (q x) refl (inside-either xs)
    where
      go : (a b : Bool) → p x ≡ a → filter p (filter (λ x. p x || q x) xs) ≡ filter p xs → filter p (cond (a || b) (x ∷ filter (λ x. p x || q x) xs) (filter (λ x. p x || q x) xs)) ≡ cond a (x ∷ filter p xs) (filter p xs)
      go true b e r = ap (λ c. cond c (x ∷ filter p (filter (λ x. p x || q x) xs)) (filter p (filter (λ x. p x || q x) xs))) e ∙ ap (λ ys. x ∷ ys) r
      go false true e r = ap (λ c. cond c (x ∷ filter p (filter (λ x. p x || q x) xs)) (filter p (filter (λ x. p x || q x) xs))) e ∙ r
      go false false e r = r

  outside-either : (xs : List A) → filter (λ x. not (p x)) (filter (λ x. p x || q x) xs) ≡ filter (λ x. not (p x) && q x) xs
  outside-either [] = refl
  outside-either (x ∷ xs) = go (p x) (q x) refl (outside-either xs)
    where
      go : (a b : Bool) → p x ≡ a → filter (λ x. not (p x)) (filter (λ x. p x || q x) xs) ≡ filter (λ x. not (p x) && q x) xs
          → filter (λ x. not (p x)) (cond (a || b) (x ∷ filter (λ x. p x || q x) xs) (filter (λ x. p x || q x) xs)) ≡ cond (not a && b) (x ∷ filter (λ x. not (p x) && q x) xs) (filter (λ x. not (p x) && q x) xs)
      go true b e r = ap (λ c. cond (not c) (x ∷ filter (λ x. not (p x)) (filter (λ x. p x || q x) xs)) (filter (λ x. not (p x)) (filter (λ x. p x || q x) xs))) e ∙ r
      go false true e r = ap (λ c. cond (not c) (x ∷ filter (λ x. not (p x)) (filter (λ x. p x || q x) xs)) (filter (λ x. not (p x)) (filter (λ x. p x || q x) xs))) e ∙ ap (λ ys. x ∷ ys) r
      go false false e r = r

module _ {A : Type 0} (update : A → Update) (base : Images) (inside next : A → Bool) (xs : List A) where
  abbrev either : List A
  either = filter (λ x. inside x || next x) xs

  two-parts : map update (filter inside either) ++ map update (filter (λ x. not (inside x)) either) ≡ map update (filter inside xs) ++ map update (filter (λ x. not (inside x) && next x) xs)
  two-parts = ap (λ ys. map update ys ++ map update (filter (λ x. not (inside x)) either)) (inside-either inside next xs) ∙ ap (λ ys. map update (filter inside xs) ++ map update ys) (outside-either inside next xs)

  either-needed : T (holds_needed update inside xs) → T (holds_needed update inside either)
  either-needed h = holds (needed-part update inside (λ x. inside x || next x) xs (is-true _ h))

  pub next-after : T (holds_needed update inside xs) → after base (map update (filter inside xs) ++ map update (filter (λ x. not (inside x) && next x) xs)) ≡ after base (map update (filter (λ x. inside x || next x) xs))
  next-after h = sym (ap (after base) two-parts) ∙ pulled-volume update base inside either (either-needed h)

  pub next-fits : T (holds_needed update inside xs) → T (holds_needed update (λ x. inside x || next x) xs) → Fits base (map update xs) → Fits base (map update (filter inside xs) ++ map update (filter (λ x. not (inside x) && next x) xs))
  next-fits h k f = subst (Fits base) two-parts (pulled-fit update base inside either (either-needed h) (pulled-fit_alone update base (λ x. inside x || next x) xs k f))
