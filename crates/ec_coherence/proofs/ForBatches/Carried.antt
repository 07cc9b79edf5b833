-- Operations on the durable state: where they are taken, and what they leave.
use Rattle.std.proofs.Common.{◌≡◌, ◌≢◌, refl, sym, ap, subst, ◌∙◌, inl, inr, ◌⊎◌, arith, ℕ, Bool, true, false, not, ◌&&◌, ◌||◌, cond, T, ◌<◌, List, [], ◌∷◌, ◌++◌, length}
use Rattle.std.specs.Prelude.{◌==◌, map, Option, None, Some, Result, Ok, Err}
use Rattle.std.proofs.lemmas.List.{get_or-set_same, get_or-set_other, get_or_past}
use Rattle.std.proofs.lemmas.Bool.{cases_Bool, ltb-true, ltb-false}
use Rattle.std.specs.Prelude.{nat_lt}
use Rattle.ec_base.specs.Tables.{Table}
use Rattle.ec_volume.specs.Image.{is_gone}
use Rattle.ec_volume.specs.Update.{operands, member, has_operand, fits, effect, first_unfit, distinct, is_sound, listed}
use Rattle.ec_volume.specs.Volume.{Images, images, image_next, image_after, after, fits_in_turn, Fits}
use Rattle.ec_volume.specs.declared.image.Image.{Image}
use Rattle.ec_volume.specs.declared.image.Image.TheVariants.{Gone, File, Dir}
use Rattle.ec_volume.specs.declared.update.Update.{Update}
use Rattle.ec_volume.proofs.Held.{images-put, images-without}
use Rattle.ec_history.specs.History.{Each}
use Rattle.ec_sessions.specs.Slots as slots
use Rattle.ec_sessions.specs.declared.slot.Slot.{Slot}
use Rattle.ec_volume.specs.Held.{with_image, changed_at, changed}
use Rattle.ec_durable.specs.Durable.{carried_out, operations, op_fault, unreserved, made, spent, slot, with_slot}
use Rattle.ec_durable.specs.declared.state.Durable.{Durable}
use Rattle.ec_durable.specs.declared.record.RecordFault.{RecordFault}
use Rattle.ec_coherence.specs.Log.{made_by}
use Rattle.ec_coherence.proofs.ForServer.Lists.{or_else, each-at, each-member}
use Rattle.ec_base.proofs.Bools.{left as and_first, not-both as no_both, and-both as and_both, or-right as or_next, right as and_next, or_first, no-longer as is-false, is-true, holds-true as holds}
use Rattle.ec_base.proofs.Numbers.{same-self as same, equal}
use Rattle.ec_base.proofs.Options.{none_some}

-- One update.

pub gone-is : (i : Image) → is_gone i ≡ true → i ≡ Gone
gone-is Gone e = refl
gone-is (File m s w bs) e = absurd (cc)
gone-is (Dir m s w es) e = absurd (cc)

images-with : (o : ℕ) (i : Image) (v : Table Image) (x : ℕ) → images (with_image o i v) x ≡ cond (x == o) i (images v x)
images-with o i v x = go (is_gone i) refl
  where
    go : (b : Bool) → is_gone i ≡ b → images (with_image o i v) x ≡ cond (x == o) i (images v x)
    go true e = ap (λ b. images (cond b (Rattle.ec_base.specs.Tables.without o v) (Rattle.ec_base.specs.Tables.put o i v)) x) e ∙ images-without o v x ∙ ap (λ j. cond (x == o) j (images v x)) (sym (gone-is i e))
    go false e = ap (λ b. images (cond b (Rattle.ec_base.specs.Tables.without o v) (Rattle.ec_base.specs.Tables.put o i v)) x) e ∙ images-put o i v x

images-changed_at : (u : Update) (os : List ℕ) (v : Table Image) (x : ℕ) → T (distinct os) → images (changed_at u os v) x ≡ cond (member x os) (effect u x (images v x)) (images v x)
images-changed_at u [] v x d = refl
images-changed_at u (o ∷ os) v x d =
    images-changed_at u os w x (and_next (not (member o os)) (distinct os) d) ∙ go (x == o) refl
  where
    w : Table Image
    w = with_image o (effect u o (images v o)) v

    go : (b : Bool) → (x == o) ≡ b → cond (member x os) (effect u x (images w x)) (images w x) ≡ cond (b || member x os) (effect u x (images v x)) (images v x)
    go true e = ap (λ c. cond c (effect u x (images w x)) (images w x)) (ap (λ y. member y os) (equal x o e) ∙ is-false (member o os) (and_first (not (member o os)) (distinct os) d))
        ∙ images-with o (effect u o (images v o)) v x ∙ ap (λ c. cond c (effect u o (images v o)) (images v x)) e ∙ ap (λ y. effect u y (images v y)) (sym (equal x o e))
    go false e = ap (λ i. cond (member x os) (effect u x i) i) (images-with o (effect u o (images v o)) v x ∙ ap (λ c. cond c (effect u o (images v o)) (images v x)) e)

pub images-changed : (u : Update) (v : Table Image) (x : ℕ) → T (is_sound u) → images (changed u v) x ≡ image_next x (images v x) u
images-changed u v x d = images-changed_at u (operands u) v x (and_first (distinct (operands u)) _ d)

none-unfit : (u : Update) (v : Images) (os : List ℕ) → ((o : ℕ) → T (member o os) → T (fits u o (v o))) → first_unfit u v os ≡ None
none-unfit u v [] f = refl
none-unfit u v (o ∷ os) f = ap (λ b. cond b (first_unfit u v os) (Some o)) (is-true (fits u o (v o)) (f o (or_first (o == o) (member o os) (holds (o == o) (same o))))) ∙ none-unfit u v os (λ p m. f p (or_next (p == o) (member p os) m))

fits-here : (v : Images) (u : Update) (us : List Update) → Fits v (u ∷ us) → (o : ℕ) → T (has_operand o u) → T (fits u o (v o))
fits-here v u us f o m = go (has_operand o u) (fits u o (v o)) m (and_first (not (has_operand o u) || fits u o (v o)) _ (f o))
  where
    go : (a b : Bool) → T a → T (not a || b) → T b
    go true b t h = h
    go false b t h = absurd t

-- Slots.

slot-there : (d : Durable) (c : ℕ) (sl : Slot) → slot d c ≡ Some sl → c < length d.sessions
slot-there d c sl e = go (cases_Bool (nat_lt c (length d.sessions)))
  where
    go : (nat_lt c (length d.sessions) ≡ true) ⊎ (nat_lt c (length d.sessions) ≡ false) → c < length d.sessions
    go (inl h) = ltb-true c (length d.sessions) h
    go (inr h) = absurd (none_some (sym (get_or_past d.sessions c None (ltb-false c (length d.sessions) h)) ∙ e))

pub slot-same : (d : Durable) (c : ℕ) (sl : Slot) (v : Option Slot) → slot d c ≡ Some sl → slot (with_slot c v d) c ≡ v
slot-same d c sl v e = get_or-set_same d.sessions c v None (slot-there d c sl e)

pub slot-other : (d : Durable) (c j : ℕ) (v : Option Slot) → j ≢ c → slot (with_slot c v d) j ≡ slot d j
slot-other d c j v n = get_or-set_other d.sessions c j v None n

-- Ids.

is-in : (x : ℕ) (xs : List ℕ) → slots.is_in x xs ≡ member x xs
is-in x [] = refl
is-in x (y ∷ ys) = ap (λ b. b || slots.is_in x ys) (turn x y) ∙ ap (λ b. (x == y) || b) (is-in x ys)
  where
    turn : (x y : ℕ) → (y == x) ≡ (x == y)
    turn x y = grind arith

pub still-in : (x o : ℕ) (xs : List ℕ) → T (member x xs) → x ≢ o → T (member x (slots.without o xs))
still-in x o [] m n = absurd m
still-in x o (y ∷ ys) m n = go (y == o) refl (λ k. still-in x o ys k n)
  where
    go : (b : Bool) → (y == o) ≡ b → (T (member x ys) → T (member x (slots.without o ys))) → T (member x (cond b ys (y ∷ slots.without o ys)))
    go true e f = elim (or_else (x == y) (member x ys) m) [ inl h ↦ absurd (n (equal x y (is-true (x == y) h) ∙ equal y o e)) | inr h ↦ h ]
    go false e f = elim (or_else (x == y) (member x ys) m) [ inl h ↦ or_first (x == y) _ h | inr h ↦ or_next (x == y) _ (f h) ]

pub was-in : (x o : ℕ) (xs : List ℕ) → T (member x (slots.without o xs)) → T (member x xs)
was-in x o [] m = absurd m
was-in x o (y ∷ ys) m = go (y == o) m (λ k. was-in x o ys k)
  where
    go : (b : Bool) → T (member x (cond b ys (y ∷ slots.without o ys))) → (T (member x (slots.without o ys)) → T (member x ys)) → T ((x == y) || member x ys)
    go true h f = or_next (x == y) _ h
    go false h f = elim (or_else (x == y) (member x (slots.without o ys)) h) [ inl k ↦ or_first (x == y) _ k | inr k ↦ or_next (x == y) _ (f k) ]

pub not-in : (o : ℕ) (xs : List ℕ) → T (distinct xs) → T (not (member o (slots.without o xs)))
not-in o [] d = tt
not-in o (y ∷ ys) d = go (y == o) refl (not-in o ys (and_next (not (member y ys)) (distinct ys) d))
  where
    go : (b : Bool) → (y == o) ≡ b → T (not (member o (slots.without o ys))) → T (not (member o (cond b ys (y ∷ slots.without o ys))))
    go true e h = subst (λ z. T (not (member z ys))) (equal y o e) (and_first (not (member y ys)) (distinct ys) d)
    go false e h = subst (λ b. T (not (b || member o (slots.without o ys)))) (sym (turn o y e)) h
      where
        turn : (o y : ℕ) → (y == o) ≡ false → (o == y) ≡ false
        turn o y e = grind arith

pub less_distinct : (o : ℕ) (xs : List ℕ) → T (distinct xs) → T (distinct (slots.without o xs))
less_distinct o [] d = tt
less_distinct o (y ∷ ys) d = go (y == o) (less_distinct o ys (and_next (not (member y ys)) (distinct ys) d))
  where
    away : (b : Bool) → (T (member y (slots.without o ys)) → T (member y ys)) → T (not (member y ys)) → T (not (member y (slots.without o ys)))
    away b f n = turn (member y (slots.without o ys)) (member y ys) f n
      where
        turn : (a b : Bool) → (T a → T b) → T (not b) → T (not a)
        turn true true f n = n
        turn true false f n = f tt
        turn false b f n = tt

    go : (b : Bool) → T (distinct (slots.without o ys)) → T (distinct (cond b ys (y ∷ slots.without o ys)))
    go true h = and_next (not (member y ys)) (distinct ys) d
    go false h = and_both (not (member y (slots.without o ys))) (distinct (slots.without o ys)) (away true (was-in y o ys) (and_first (not (member y ys)) (distinct ys) d)) h

-- the ids without these
abbrev pub less : List ℕ → List ℕ → List ℕ
less [] xs = xs
less (o ∷ os) xs = less os (slots.without o xs)

-- Several.

abbrev pub all_carried : ℕ → List (ℕ × Update) → Durable → Durable
all_carried c [] d = d
all_carried c (op ∷ ops) d = all_carried c ops (carried_out c op.1 d)

abbrev pub updates_in : List (ℕ × Update) → List Update
updates_in ops = map (λ op. op.1) ops

abbrev with_ids : Slot → List ℕ → Slot
with_ids sl xs = record sl { unspent = xs }

-- what these operations leave
pub record Carries (c : ℕ) (ops : List (ℕ × Update)) (d : Durable) (sl : Slot) : Type 0 where
  pub taken : operations c ops d ≡ Ok (all_carried c ops d)
  pub volume : (x : ℕ) → images (all_carried c ops d).volume x ≡ after (images d.volume) (updates_in ops) x
  pub own : slot (all_carried c ops d) c ≡ Some (record sl { unspent = less (made_by (updates_in ops)) sl.unspent })
  pub others : (j : ℕ) → j ≢ c → slot (all_carried c ops d) j ≡ slot d j
  pub next_id : (all_carried c ops d).next_id ≡ d.next_id
  pub next_session : (all_carried c ops d).next_session ≡ d.next_session
  pub epoch : (all_carried c ops d).epoch ≡ d.epoch
  pub most : (all_carried c ops d).max_objects ≡ d.max_objects

module _ (c : ℕ) (u : Update) (d : Durable) (sl : Slot) (here : slot d c ≡ Some sl) (opened : T sl.is_open) where
  abbrev spent_ids : Option ℕ → List ℕ
  spent_ids o = less (listed o) sl.unspent

  spent-is : (o : Option ℕ) → spent o (slot d c) ≡ Some (record sl { unspent = spent_ids o })
  spent-is None = here
  spent-is (Some o) = ap (slots.spent o) here ∙ ap (λ b. Some (cond b (record sl { unspent = slots.without o sl.unspent }) sl)) (is-true sl.is_open opened)

  own-next : slot (carried_out c u d) c ≡ Some (record sl { unspent = spent_ids (made u) })
  own-next = slot-same (record d { volume = changed u d.volume }) c sl (spent (made u) (slot d c)) here ∙ spent-is (made u)

  all-reserved : (o : Option ℕ) → Each (λ x. T (member x sl.unspent)) (listed o) → unreserved o (slot d c) ≡ None
  all-reserved None h = refl
  all-reserved (Some o) h = ap (λ z. cond (slots.is_reserved z o) None (Some o)) here
      ∙ ap (λ b. cond b None (Some o)) (is-true (sl.is_open && slots.is_in o sl.unspent) (and_both sl.is_open (slots.is_in o sl.unspent) opened (subst T (sym (is-in o sl.unspent)) h.0)))

  no-fault : (n : ℕ) → Each (λ x. T (member x sl.unspent)) (listed (made u)) → ((o : ℕ) → T (has_operand o u) → T (fits u o (images d.volume o))) → op_fault c n u d ≡ None
  no-fault n h f = ap (λ z. by z) (all-reserved (made u) h) ∙ ap (λ z. elim z as (λ w. Option RecordFault) [ Some o ↦ Some (Rattle.ec_durable.specs.declared.record.RecordFault.TheVariants.Unfit n o) | None ↦ None ]) (none-unfit u (images d.volume) (operands u) f)
    where
      by : Option ℕ → Option RecordFault
      by z = elim z as (λ w. Option RecordFault) [
        | Some o ↦ Some (Rattle.ec_durable.specs.declared.record.RecordFault.TheVariants.NotReserved n o)
        | None ↦ elim (first_unfit u (images d.volume) (operands u)) as (λ w. Option RecordFault) [ Some o ↦ Some (Rattle.ec_durable.specs.declared.record.RecordFault.TheVariants.Unfit n o) | None ↦ None ]
      ]

more-each : (P : ℕ → Type 0) (o : Option ℕ) (xs : List ℕ) → Each P (listed o ++ xs) → Each P (listed o)
more-each P None xs h = tt
more-each P (Some o) xs h = (h.0, tt)

-- the other ids are still there
left-in : (o : Option ℕ) (xs us : List ℕ) → T (distinct (listed o ++ xs)) → Each (λ x. T (member x us)) (listed o ++ xs) → Each (λ x. T (member x (less (listed o) us))) xs
left-in None xs us d h = h
left-in (Some o) xs us d h = each-member (λ x. T (member x (slots.without o us))) xs (λ x m. still-in x o us (each-at (λ y. T (member y us)) x xs h.1 m) (λ e. absurd (no_both (member o xs) (subst (λ z. T (member z xs)) e m) (and_first (not (member o xs)) (distinct xs) d))))

left-distinct : (o : Option ℕ) (xs : List ℕ) → T (distinct (listed o ++ xs)) → T (distinct xs)
left-distinct None xs d = d
left-distinct (Some o) xs d = and_next (not (member o xs)) (distinct xs) d

less-listed : (o : Option ℕ) (xs us : List ℕ) → less xs (less (listed o) us) ≡ less (listed o ++ xs) us
less-listed None xs us = refl
less-listed (Some o) xs us = refl

pub all-carry : (c : ℕ) (ops : List (ℕ × Update)) (d : Durable) (sl : Slot) → slot d c ≡ Some sl → T sl.is_open → Fits (images d.volume) (updates_in ops) → Each (λ op. T (is_sound op.1)) ops
    → T (distinct (made_by (updates_in ops))) → Each (λ x. T (member x sl.unspent)) (made_by (updates_in ops)) → Carries c ops d sl
all-carry c [] d sl here opened f s dis h = record { taken = refl; volume = λ x. refl; own = here; others = λ j n. refl; next_id = refl; next_session = refl; epoch = refl; most = refl }
all-carry c (op ∷ ops) d sl here opened f s dis h =
    let e : Durable = carried_out c op.1 d in
    let sm : Slot = record sl { unspent = less (listed (made op.1)) sl.unspent } in
    let vol : (x : ℕ) → images e.volume x ≡ image_next x (images d.volume x) op.1 = λ x. images-changed op.1 d.volume x s.0 in
    let fit : Fits (images e.volume) (updates_in ops) = λ x. subst (λ i. T (fits_in_turn x i (updates_in ops))) (sym (vol x)) (and_next (not (has_operand x op.1) || fits op.1 x (images d.volume x)) _ (f x)) in
    let r : Carries c ops e sm = all-carry c ops e sm (own-next c op.1 d sl here opened) opened fit s.1 (left-distinct (made op.1) (made_by (updates_in ops)) dis) (left-in (made op.1) (made_by (updates_in ops)) sl.unspent dis h) in
    record {
      taken = ap (λ z. elim z as (λ w. Result Durable RecordFault) [ Some fault ↦ Err fault | None ↦ operations c ops e ])
          (no-fault c op.1 d sl here opened op.0 (more-each (λ x. T (member x sl.unspent)) (made op.1) (made_by (updates_in ops)) h) (fits-here (images d.volume) op.1 (updates_in ops) f)) ∙ r.taken;
      volume = λ x. r.volume x ∙ ap (λ i. image_after x i (updates_in ops)) (vol x);
      own = r.own ∙ ap (λ xs. Some (record sl { unspent = xs })) (less-listed (made op.1) (made_by (updates_in ops)) sl.unspent);
      others = λ j n. r.others j n ∙ slot-other (record d { volume = changed op.1 d.volume }) c j (spent (made op.1) (slot d c)) n;
      next_id = r.next_id;
      next_session = r.next_session;
      epoch = r.epoch;
      most = r.most;
    }
