-- What is left where operations are lost.
use Rattle.std.proofs.Common.{◌≡◌, refl, sym, ap, subst, ◌∙◌, inl, inr, ℕ, T, Bool, true, false, not, ◌&&◌, ◌||◌, cond, List, [], ◌∷◌, length}
use Rattle.std.proofs.lemmas.Bool.{cases_Bool, not-true, and_parts, and_from}
use Rattle.std.specs.List.{list_all, filter}
use Rattle.ec_volume.specs.Image.{is_file, bytes_of}
use Rattle.ec_volume.specs.Update.{has_operand, fits, effect}
use Rattle.ec_volume.specs.Volume.{Images, fits_in_turn, Fits}
use Rattle.ec_volume.specs.declared.image.Image.{Image}
use Rattle.ec_volume.specs.declared.update.Update.{Update}
use Rattle.ec_order.specs.Order.{is_overwrite, before, under, needs}
use Rattle.ec_history.specs.History.{Op, updates}
use Rattle.ec_history.specs.Legal.{is_closed}
use Rattle.ec_history.specs.OfLaws.Needs.{holds_needed}
use Rattle.ec_history.proofs.OfLaws.ForPlacing.Objects.{fits-yes, fits-no, projection-fits}
use Rattle.ec_history.proofs.OfLaws.ForPlacing.Overwriting.{overwrite-by, overwrite-kind, overwrite-length}
use Rattle.ec_history.proofs.OfLaws.ForPlacing.Pulled.{both-overwrite}
use Rattle.ec_base.proofs.Bools.{both, first, right, on as holds, is-true}
use Rattle.ec_base.proofs.Lists.{filter-swap}

pub off : {b : Bool} → b ≡ false → T b → ⊥
off e t = subst T e t

-- One more update, at an operand and elsewhere.
module _ (o : ℕ) (i : Image) (u : Update) (us : List Update) where
  put-yes : has_operand o u ≡ true → T (fits u o i) → T (fits_in_turn o (effect u o i) us) → T (fits_in_turn o i (u ∷ us))
  put-yes e f r = subst T (sym (fits-yes o i u us e)) (both (fits u o i) (fits_in_turn o (effect u o i) us) f r)

  put-no : has_operand o u ≡ false → T (fits_in_turn o i us) → T (fits_in_turn o i (u ∷ us))
  put-no e r = subst T (sym (fits-no o i u us e)) r

  get-yes : has_operand o u ≡ true → T (fits_in_turn o i (u ∷ us)) → T (fits u o i) × T (fits_in_turn o (effect u o i) us)
  get-yes e h =
      let k : T (fits u o i && fits_in_turn o (effect u o i) us) = subst T (fits-yes o i u us e) h in
      (first (fits u o i) (fits_in_turn o (effect u o i) us) k, right (fits u o i) (fits_in_turn o (effect u o i) us) k)

  get-no : has_operand o u ≡ false → T (fits_in_turn o i (u ∷ us)) → T (fits_in_turn o i us)
  get-no e h = subst T (fits-no o i u us e) h

-- both are files or neither, and of one length
record Alike (i j : Image) : Type 0 where
  kind : is_file i ≡ is_file j
  size : length (bytes_of i) ≡ length (bytes_of j)

module _ (u : Update) (o : ℕ) (w : is_overwrite u ≡ true) where
  ow-fits : (i j : Image) → Alike i j → T (fits u o i) → T (fits u o j)
  ow-fits i j a f = subst T (overwrite-by o i j u w a.kind a.size) f

  ow-left : (i j : Image) → Alike i j → T (fits u o i) → Alike (effect u o i) j
  ow-left i j a f = record { kind = overwrite-kind o i u w ∙ a.kind; size = overwrite-length o i u w f ∙ a.size }

  ow-both : (i j : Image) → Alike i j → T (fits u o i) → Alike (effect u o i) (effect u o j)
  ow-both i j a f = record {
    kind = overwrite-kind o i u w ∙ a.kind ∙ sym (overwrite-kind o j u w);
    size = overwrite-length o i u w f ∙ a.size ∙ sym (overwrite-length o j u w (ow-fits i j a f));
  }

  ow-start : (i : Image) → T (fits u o i) → Alike (effect u o i) i
  ow-start i f = ow-left i i (record { kind = refl; size = refl }) f

kept-behind : (o : ℕ) (l k : Update) → has_operand o l ≡ true → has_operand o k ≡ true → T (not (before l k)) → (is_overwrite l ≡ true) × (is_overwrite k ≡ true)
kept-behind o l k hl hk h = both-overwrite o l k hl hk (not-true (before l k) (is-true _ h))

-- Lists of operations of which some are lost.
module _ (lost : Op → Bool) (o : ℕ) where
  abbrev rest : List Op → List Update
  rest ks = updates (filter (λ k. not (lost k)) ks)

  rest-lost : (k : Op) (ks : List Op) → lost k ≡ true → rest (k ∷ ks) ≡ rest ks
  rest-lost k ks e = ap (λ b. updates (cond (not b) (k ∷ filter (λ j. not (lost j)) ks) (filter (λ j. not (lost j)) ks))) e

  rest-kept : (k : Op) (ks : List Op) → lost k ≡ false → rest (k ∷ ks) ≡ k.update ∷ rest ks
  rest-kept k ks e = ap (λ b. updates (cond (not b) (k ∷ filter (λ j. not (lost j)) ks) (filter (λ j. not (lost j)) ks))) e

  -- none that is left is ordered after l
  abbrev Behind : Update → List Op → Bool
  Behind l ks = list_all (λ j. lost j || not (before l j.update)) ks

  behind-kept : (l : Update) (k : Op) (ks : List Op) → lost k ≡ false → T (Behind l (k ∷ ks)) → T (not (before l k.update))
  behind-kept l k ks e h = subst (λ b. T (b || not (before l k.update))) e (first _ _ h)

  closed-lost : (k : Op) (ks : List Op) → lost k ≡ true → T (is_closed lost (k ∷ ks)) → T (Behind k.update ks)
  closed-lost k ks e h = subst (λ b. T (not b || Behind k.update ks)) e (first _ _ h)

  -- Behind a lost operation on o that is no overwrite nothing on o is kept.
  none-left : (l : Update) → has_operand o l ≡ true → is_overwrite l ≡ false → (i : Image) (ks : List Op) → T (Behind l ks) → T (fits_in_turn o i (rest ks))
  none-left l hl wl i [] h = tt
  none-left l hl wl i (k ∷ ks) h =
      let more : T (fits_in_turn o i (rest ks)) = none-left l hl wl i ks (right _ _ h) in
      elim (cases_Bool (lost k)) [
        | inl e ↦ subst (λ us. T (fits_in_turn o i us)) (sym (rest-lost k ks e)) more
        | inr e ↦ subst (λ us. T (fits_in_turn o i us)) (sym (rest-kept k ks e)) (elim (cases_Bool (has_operand o k.update)) [
          | inl hk ↦ absurd (off wl (holds (kept-behind o l k.update hl hk (behind-kept l k ks e h)).0))
          | inr hk ↦ put-no o i k.update (rest ks) hk more
        ])
      ]

  -- Behind a lost overwrite on o only overwrites are kept there, up to a lost operation that is none.
  overwrites-left : (l : Update) → has_operand o l ≡ true → (i j : Image) (ks : List Op) → Alike i j → T (Behind l ks) → T (is_closed lost ks) → T (fits_in_turn o i (updates ks)) → T (fits_in_turn o j (rest ks))
  overwrites-left l hl i j [] a h c f = tt
  overwrites-left l hl i j (k ∷ ks) a h c f =
      elim (cases_Bool (has_operand o k.update)) [
        | inl hk ↦
            let here = get-yes o i k.update (updates ks) hk f in
            elim (cases_Bool (lost k)) [
              | inl e ↦ subst (λ us. T (fits_in_turn o j us)) (sym (rest-lost k ks e)) (elim (cases_Bool (is_overwrite k.update)) [
                | inl w ↦ overwrites-left l hl (effect k.update o i) j ks (ow-left k.update o w i j a here.0) (right _ _ h) (right _ _ c) here.1
                | inr w ↦ none-left k.update hk w j ks (closed-lost k ks e c)
              ])
              | inr e ↦
                  let w : is_overwrite k.update ≡ true = (kept-behind o l k.update hl hk (behind-kept l k ks e h)).1 in
                  subst (λ us. T (fits_in_turn o j us)) (sym (rest-kept k ks e))
                  (put-yes o j k.update (rest ks) hk (ow-fits k.update o w i j a here.0)
                  (overwrites-left l hl (effect k.update o i) (effect k.update o j) ks (ow-both k.update o w i j a here.0) (right _ _ h) (right _ _ c) here.1))
            ]
        | inr hk ↦
            let more : T (fits_in_turn o j (rest ks)) = overwrites-left l hl i j ks a (right _ _ h) (right _ _ c) (get-no o i k.update (updates ks) hk f) in
            elim (cases_Bool (lost k)) [
              | inl e ↦ subst (λ us. T (fits_in_turn o j us)) (sym (rest-lost k ks e)) more
              | inr e ↦ subst (λ us. T (fits_in_turn o j us)) (sym (rest-kept k ks e)) (put-no o j k.update (rest ks) hk more)
            ]
      ]

  removal-at : (i : Image) (ks : List Op) → T (is_closed lost ks) → T (fits_in_turn o i (updates ks)) → T (fits_in_turn o i (rest ks))
  removal-at i [] c f = tt
  removal-at i (k ∷ ks) c f =
      elim (cases_Bool (has_operand o k.update)) [
        | inl hk ↦
            let here = get-yes o i k.update (updates ks) hk f in
            elim (cases_Bool (lost k)) [
              | inl e ↦ subst (λ us. T (fits_in_turn o i us)) (sym (rest-lost k ks e)) (elim (cases_Bool (is_overwrite k.update)) [
                | inl w ↦ overwrites-left k.update hk (effect k.update o i) i ks (ow-start k.update o w i here.0) (closed-lost k ks e c) (right _ _ c) here.1
                | inr w ↦ none-left k.update hk w i ks (closed-lost k ks e c)
              ])
              | inr e ↦ subst (λ us. T (fits_in_turn o i us)) (sym (rest-kept k ks e)) (put-yes o i k.update (rest ks) hk here.0 (removal-at (effect k.update o i) ks (right _ _ c) here.1))
            ]
        | inr hk ↦
            let more : T (fits_in_turn o i (rest ks)) = removal-at i ks (right _ _ c) (get-no o i k.update (updates ks) hk f) in
            elim (cases_Bool (lost k)) [
              | inl e ↦ subst (λ us. T (fits_in_turn o i us)) (sym (rest-lost k ks e)) more
              | inr e ↦ subst (λ us. T (fits_in_turn o i us)) (sym (rest-kept k ks e)) (put-no o i k.update (rest ks) hk more)
            ]
      ]

-- of a volume
pub removal : (base : Images) (lost : Op → Bool) (ks : List Op) → T (is_closed lost ks) → Fits base (updates ks) → Fits base (updates (filter (λ k. not (lost k)) ks))
removal base lost ks c f o = removal-at lost o (base o) ks c (f o)

updates-on : (o : ℕ) (ks : List Op) → filter (has_operand o) (updates ks) ≡ updates (filter (λ k. has_operand o k.update) ks)
updates-on o [] = refl
updates-on o (k ∷ ks) = go (has_operand o k.update) (updates-on o ks)
  where
    go : (b : Bool) → filter (has_operand o) (updates ks) ≡ updates (filter (λ j. has_operand o j.update) ks) → cond b (k.update ∷ filter (has_operand o) (updates ks)) (filter (has_operand o) (updates ks)) ≡ updates (cond b (k ∷ filter (λ j. has_operand o j.update) ks) (filter (λ j. has_operand o j.update) ks))
    go true r = ap (λ us. k.update ∷ us) r
    go false r = r

projected : (o : ℕ) (i : Image) (ks : List Op) → fits_in_turn o i (updates (filter (λ k. has_operand o k.update) ks)) ≡ fits_in_turn o i (updates ks)
projected o i ks = ap (fits_in_turn o i) (sym (updates-on o ks)) ∙ projection-fits o i (updates ks)

pub removal-on : (o : ℕ) (i : Image) (lost : Op → Bool) (ks : List Op) → T (is_closed lost (filter (λ k. has_operand o k.update) ks)) → T (fits_in_turn o i (updates ks)) → T (fits_in_turn o i (updates (filter (λ k. not (lost k)) ks)))
removal-on o i lost ks c f =
    let here : T (fits_in_turn o i (updates (filter (λ k. not (lost k)) (filter (λ k. has_operand o k.update) ks)))) = removal-at lost o i (filter (λ k. has_operand o k.update) ks) c (subst T (sym (projected o i ks)) f) in
    subst T (ap (λ js. fits_in_turn o i (updates js)) (filter-swap (λ k. not (lost k)) (λ k. has_operand o k.update) ks) ∙ projected o i (filter (λ k. not (lost k)) ks)) here

-- What holds its needs leaves a closed rest.
module _ (inside : Op → Bool) where
  one-rest : (i b u : Bool) → not (i && (b || u)) ≡ true → (not i || not b) ≡ true
  one-rest true true u e = e
  one-rest true false u e = refl
  one-rest false b u e = refl

  all-rest : (a : Update) (ks : List Op) → list_all (λ y. not (inside y && needs a y.update)) ks ≡ true → list_all (λ j. not (inside j) || not (before a j.update)) ks ≡ true
  all-rest a [] h = refl
  all-rest a (k ∷ ks) h =
      let parts = and_parts (not (inside k && needs a k.update)) (list_all (λ y. not (inside y && needs a y.update)) ks) h in
      and_from (not (inside k) || not (before a k.update)) (list_all (λ j. not (inside j) || not (before a j.update)) ks) (one-rest (inside k) (before a k.update) (under a k.update) parts.0) (all-rest a ks parts.1)

  rest-closed : (ks : List Op) → holds_needed (λ k. k.update) inside ks ≡ true → is_closed (λ k. not (inside k)) ks ≡ true
  rest-closed [] h = refl
  rest-closed (k ∷ ks) h =
      let parts = and_parts (inside k || list_all (λ y. not (inside y && needs k.update y.update)) ks) (holds_needed (λ k. k.update) inside ks) h in
      and_from (not (not (inside k)) || list_all (λ j. not (inside j) || not (before k.update j.update)) ks) (is_closed (λ j. not (inside j)) ks) (go (inside k) parts.0) (rest-closed ks parts.1)
    where
      go : (b : Bool) → (b || list_all (λ y. not (inside y && needs k.update y.update)) ks) ≡ true → (not (not b) || list_all (λ j. not (inside j) || not (before k.update j.update)) ks) ≡ true
      go true h = refl
      go false h = all-rest k.update ks h

pub removal-rest : (inside : Op → Bool) (ks : List Op) → T (holds_needed (λ k. k.update) inside ks) → T (is_closed (λ k. not (inside k)) ks)
removal-rest inside ks h = holds (rest-closed inside ks (is-true _ h))
