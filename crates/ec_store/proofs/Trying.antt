-- A batch steps a state with the images of its operands alone as it steps the whole one.
use Rattle.std.proofs.Common.{◌≡◌, ◌==◌, ◌&&◌, ℕ, Bool, true, false, cond, List, [], ◌∷◌, ◌++◌, Option, None, Some, Result, Ok, Err, refl, sym, ap, subst, ◌∙◌, ⊎_elim, T}
use Rattle.std.specs.Prelude.{nat_le, OnOk, OnErr, IfErr}
use Rattle.std.specs.List.{flat_map, list_all}
use Rattle.std.proofs.lemmas.Bool.{eqb-true, leb-true}
use Rattle.std.proofs.lemmas.List.Folds.{list_any-append}
use Rattle.std.specs.Ordering.{nat_cmp}
use Rattle.std.specs.FinMap.Entries.{is_sorted-where_key}
use Rattle.ec_base.specs.SortedLaws.{first, second}
use Rattle.ec_base.specs.Tables.{Table}
use Rattle.ec_volume.specs.Update.{member, operands, is_sound, first_unfit, fits}
use Rattle.ec_volume.specs.Volume.{images, Images, image_next, WellFormed}
use Rattle.ec_volume.specs.Held.{IsVolume, is_held, changed}
use Rattle.ec_volume.specs.declared.image.Image.{Image}
use Rattle.ec_volume.specs.declared.update.Update.{Update}
use Rattle.ec_volume.proofs.Changed.{changed_images}
use Rattle.ec_durable.specs.declared.state.Durable.{Durable}
use Rattle.ec_durable.specs.declared.record.Record.{Record}
use Rattle.ec_durable.specs.declared.record.Record.TheVariants.{Batch}
use Rattle.ec_durable.specs.declared.record.RecordFault.{RecordFault}
use Rattle.ec_durable.specs.declared.record.RecordFault.TheVariants.{NoSession, Done, Beyond, Unfit, NotReserved, BadAge, BadNumber, NoRoom, NoMemory}
use Rattle.ec_durable.specs.WellFormed.{IsInOrder}
use Rattle.ec_durable.specs.Durable.{formatted, step, slot, is_session, has_batch, is_beyond, low, marked, operations, op_fault, carried_out, unreserved, made}
use Rattle.ec_durable.specs.Steps.{AreSoundOps, RefusesRecord}
use Rattle.ec_store.specs.Places.{ArePlaces}
use Rattle.ec_store.specs.Stepping.{picked, behind, all_fit_ahead, with_volume, tried, IsBatchOf, IsSpare, IsTried}
use Rattle.ec_store.proofs.Ahead.{operations_ahead}
use Rattle.ec_durable.proofs.Batches.{not_Ok}
use Rattle.ec_stands.proofs.Volumes.{formatted_well}
use Rattle.ec_store.proofs.Members.{member_here, member_later}
use Rattle.ec_base.proofs.Bools.{or_left, or_right, is-true as told}

-- two volumes have the same images of these objects
abbrev pub Agree : List ℕ → Table Image → Table Image → Type 0
Agree ids a b = (o : ℕ) → member o ids ≡ true → images a o ≡ images b o

-- A result of the one is a result of the other, whose volume is then this one.
abbrev pub Same : Table Image → Result Durable RecordFault → Result Durable RecordFault → Type 0
Same es (Err f) r = r ≡ Err f
Same es (Ok e) r = r ≡ Ok (with_volume es e)

-- Faults.

first_same : (u : Update) (v w : Images) (os : List ℕ) → ((o : ℕ) → member o os ≡ true → v o ≡ w o) → first_unfit u v os ≡ first_unfit u w os
first_same u v w [] same = refl
first_same u v w (o ∷ os) same =
    let here : v o ≡ w o = same o (member_here o o os refl) in
    let rest : first_unfit u v os ≡ first_unfit u w os = first_same u v w os (λ p in_it. same p (member_later p o os in_it)) in
    ap (λ i. cond (fits u o i) (first_unfit u v os) (Some o)) here ∙ ap (λ r. cond (fits u o (w o)) r (Some o)) rest

fault_same : (c n : ℕ) (u : Update) (es : Table Image) (d : Durable) → Agree (operands u) es d.volume → op_fault c n u (with_volume es d) ≡ op_fault c n u d
fault_same c n u es d agree =
    ap (λ (x : Option ℕ). elim (unreserved (made u) (slot d c)) as (λ z. Option RecordFault) [ Some o ↦ Some (NotReserved n o) | None ↦ elim x as (λ z. Option RecordFault) [ Some o ↦ Some (Unfit n o) | None ↦ None ] ])
    (first_same u (images es) (images d.volume) (operands u) agree)

-- Operations.

agree_first : (u : Update) (ids : List ℕ) (a b : Table Image) → Agree (operands u ++ ids) a b → Agree (operands u) a b
agree_first u ids a b agree o h = agree o (list_any-append (λ p. o == p) (operands u) ids ∙ or_left (member o (operands u)) (member o ids) h)

agree_next : (u : Update) (ids : List ℕ) (a b : Table Image) → T (is_sound u) → Agree (operands u ++ ids) a b → Agree ids (changed u a) (changed u b)
agree_next u ids a b sound agree o h =
    changed_images u a sound o ∙ ap (λ i. image_next o i u) (agree o (list_any-append (λ p. o == p) (operands u) ids ∙ or_right (member o (operands u)) (member o ids) h)) ∙ sym (changed_images u b sound o)

operations_same : (c : ℕ) (ops : List (ℕ × Update)) (es : Table Image) (d : Durable) → AreSoundOps ops → Agree (flat_map (λ op. operands op.1) ops) es d.volume → Same (behind ops d.volume) (operations c ops (with_volume es d)) (operations c ops d)
operations_same c [] es d sound agree = refl
operations_same c (op ∷ ops) es d sound agree =
    let ids = flat_map (λ op. operands op.1) ops in
    let rest = operations_same c ops (changed op.1 es) (carried_out c op.1 d) sound.1 (agree_next op.1 ids es d.volume sound.0 agree) in
    subst (λ (f : Option RecordFault). Same (behind (op ∷ ops) d.volume) (elim f as (λ z. Result Durable RecordFault) [ Some fault ↦ Err fault | None ↦ operations c ops (carried_out c op.1 (with_volume es d)) ]) (operations c (op ∷ ops) d))
    (sym (fault_same c op.0 op.1 es d (agree_first op.1 ids es d.volume agree)))
    (go (op_fault c op.0 op.1 d) rest)
  where
    go : (f : Option RecordFault) → Same (behind ops (changed op.1 d.volume)) (operations c ops (carried_out c op.1 (with_volume es d))) (operations c ops (carried_out c op.1 d))
        → Same (behind ops (changed op.1 d.volume)) (elim f as (λ z. Result Durable RecordFault) [ Some fault ↦ Err fault | None ↦ operations c ops (carried_out c op.1 (with_volume es d)) ]) (elim f as (λ z. Result Durable RecordFault) [ Some fault ↦ Err fault | None ↦ operations c ops (carried_out c op.1 d) ])
    go (Some fault) rest = refl
    go None rest = rest

-- Batches of one session and number: what holds of their operations holds of them.
step_same : (c s b : ℕ) (some ops : List (ℕ × Update)) (part es : Table Image) (d : Durable) → Same es (operations c some (with_volume part d)) (operations c ops d) → Same es (tried (Batch c s b some) part d) (step (Batch c s b ops) d)
step_same c s b some ops part es d = go (is_session s (slot d c)) (has_batch b (slot d c)) (is_beyond b (slot d c)) (operations c some (with_volume part d)) (operations c ops d)
  where
    go : (x y z : Bool) (p q : Result Durable RecordFault) → Same es p q
        → Same es
        (elim x as (λ w. Result Durable RecordFault) [
          | false ↦ Err NoSession
          | true ↦ elim y as (λ w. Result Durable RecordFault) [
            | true ↦ Err (Done b)
            | false ↦ elim z as (λ w. Result Durable RecordFault) [
              | true ↦ Err (Beyond (low (slot d c)))
              | false ↦ elim p as (λ w. Result Durable RecordFault) [ Err fault ↦ Err fault | Ok m ↦ Ok (marked c b m) ]
            ]
          ]
        ])
        (elim x as (λ w. Result Durable RecordFault) [
          | false ↦ Err NoSession
          | true ↦ elim y as (λ w. Result Durable RecordFault) [
            | true ↦ Err (Done b)
            | false ↦ elim z as (λ w. Result Durable RecordFault) [
              | true ↦ Err (Beyond (low (slot d c)))
              | false ↦ elim q as (λ w. Result Durable RecordFault) [ Err fault ↦ Err fault | Ok m ↦ Ok (marked c b m) ]
            ]
          ]
        ])
    go false y z p q h = refl
    go true true z p q h = refl
    go true false true p q h = refl
    go true false false (Err f) q h = ap (λ (r : Result Durable RecordFault). elim r as (λ w. Result Durable RecordFault) [ Err fault ↦ Err fault | Ok m ↦ Ok (marked c b m) ]) h
    go true false false (Ok m) q h = ap (λ (r : Result Durable RecordFault). elim r as (λ w. Result Durable RecordFault) [ Err fault ↦ Err fault | Ok m ↦ Ok (marked c b m) ]) h

-- What is picked.

pub picked_agrees : (ids : List ℕ) (es : Table Image) → Agree ids (picked ids es) es
picked_agrees ids [] o h = refl
picked_agrees ids (e ∷ es) o h = go (o == e.0) (member e.0 ids) refl refl (picked_agrees ids es o h)
  where
    go : (x y : Bool) → (o == e.0) ≡ x → member e.0 ids ≡ y → images (picked ids es) o ≡ images es o
        → images (cond y (e ∷ picked ids es) (picked ids es)) o ≡ cond x e.1 (images es o)
    go true true p q rest = ap (λ b. cond b e.1 (images (picked ids es) o)) p
    go false true p q rest = ap (λ b. cond b e.1 (images (picked ids es) o)) p ∙ rest
    go false false p q rest = rest
    go true false p q rest = absurd (let same : member o ids ≡ false = ap (λ k. member k ids) (eqb-true o e.0 p) ∙ q in let t : true ≡ false = sym h ∙ same in cc)

held_picked : (ids : List ℕ) (es : Table Image) → T (list_all (λ e. is_held e.1) es) → T (list_all (λ e. is_held e.1) (picked ids es))
held_picked ids [] h = tt
held_picked ids (e ∷ es) h = go (member e.0 ids) (is_held e.1) refl h (held_picked ids es)
  where
    go : (y x : Bool) → is_held e.1 ≡ x → T (x && list_all (λ e. is_held e.1) es) → (T (list_all (λ e. is_held e.1) es) → T (list_all (λ e. is_held e.1) (picked ids es)))
        → T (list_all (λ e. is_held e.1) (cond y (e ∷ picked ids es) (picked ids es)))
    go true true p t rest = subst (λ b. T (b && list_all (λ e. is_held e.1) (picked ids es))) (sym p) (rest t)
    go false true p t rest = rest t
    go true false p t rest = absurd t
    go false false p t rest = absurd t

pub picked_volume : (ids : List ℕ) (es : Table Image) → IsVolume es → IsVolume (picked ids es)
picked_volume ids es v = record { sorted = is_sorted-where_key nat_cmp (λ o. member o ids) es v.sorted; held = held_picked ids es v.held }

-- A batch behind its trial.

module _ (c s b : ℕ) (ops : List (ℕ × Update)) (d : Durable) (sound : AreSoundOps ops) where
  -- on the images of its operands
  pub picked_same : Same (behind ops d.volume) (tried (Batch c s b ops) (picked (flat_map (λ op. operands op.1) ops) d.volume) d) (step (Batch c s b ops) d)
  picked_same =
      let part = picked (flat_map (λ op. operands op.1) ops) d.volume in
      step_same c s b ops ops part (behind ops d.volume) d (operations_same c ops part d sound (picked_agrees (flat_map (λ op. operands op.1) ops) d.volume))

  -- on any images, without its operations
  pub ahead_same : (part : Table Image) → all_fit_ahead (images d.volume) ops ≡ true → Same (behind ops d.volume) (tried (Batch c s b []) part d) (step (Batch c s b ops) d)
  ahead_same part fit = step_same c s b [] ops part (behind ops d.volume) d (operations_ahead c ops d sound fit)

module _ (t r : Record) (part : Table Image) (ops : List (ℕ × Update)) (d : Durable) (same : Same (behind ops d.volume) (tried t part d) (step r d)) where
  pub tried_steps : (new : Durable) → IsTried t part ops d new → step r d ≡ Ok new
  tried_steps new is = subst (λ (x : Result Durable RecordFault). Same (behind ops d.volume) x (step r d)) is.1 same ∙ ap Ok (sym is.2)

  tried_fault : (f : RecordFault) → tried t part d ≡ Err f → step r d ≡ Err f
  tried_fault f is = subst (λ (x : Result Durable RecordFault). Same (behind ops d.volume) x (step r d)) is same

  -- what it refuses its trial refuses
  pub fault_tried : (f : RecordFault) → step r d ≡ Err f → tried t part d ≡ Err f
  fault_tried f is = go (tried t part d) same
    where
      go : (x : Result Durable RecordFault) → Same (behind ops d.volume) x (step r d) → x ≡ Err f
      go (Err g) h = sym h ∙ is
      go (Ok e) h = absurd (not_Ok (sym is ∙ h))

  pub tried_refuses : (f : RecordFault) → RefusesRecord f (tried t part d) → RefusesRecord f (step r d)
  tried_refuses NoMemory is = tt
  tried_refuses NoSession is = tried_fault NoSession is
  tried_refuses (Done n) is = tried_fault (Done n) is
  tried_refuses (Beyond n) is = tried_fault (Beyond n) is
  tried_refuses (Unfit n o) is = tried_fault (Unfit n o) is
  tried_refuses (NotReserved n o) is = tried_fault (NotReserved n o) is
  tried_refuses BadAge is = tried_fault BadAge is
  tried_refuses BadNumber is = tried_fault BadNumber is
  tried_refuses (NoRoom n o) is = tried_fault (NoRoom n o) is

  pub ok_tried : {A : Type 0} (x : Result A RecordFault) (new : Durable) → OnOk x (IsTried t part ops d new) → OnOk x (step r d ≡ Ok new)
  ok_tried (Ok a) new h = tried_steps new h
  ok_tried (Err f) new h = tt

  pub refused_tried : {A : Type 0} (x : Result A RecordFault) → IfErr x (λ f. RefusesRecord f (tried t part d)) → IfErr x (λ f. RefusesRecord f (step r d))
  refused_tried (Ok a) h = tt
  refused_tried (Err f) h = tried_refuses f h

  pub unchanged_tried : {A : Type 0} (x : Result A RecordFault) (new : Durable) → OnErr x ((f : RecordFault) → tried t part d ≡ Err f → new ≡ d) → OnErr x ((f : RecordFault) → step r d ≡ Err f → new ≡ d)
  unchanged_tried (Ok a) new h = tt
  unchanged_tried (Err g) new h = λ f is. h f (fault_tried f is)

module _ (ops : List (ℕ × Update)) (r empty : Record) (d : Durable) (part : Table Image) (sound : AreSoundOps ops) (is : IsBatchOf ops r empty) where
  pub ahead_is : all_fit_ahead (images d.volume) ops ≡ true → Same (behind ops d.volume) (tried empty part d) (step r d)
  ahead_is fit =
      subst (λ q. Same (behind ops d.volume) (tried q part d) (step r d)) (sym is.4)
      (subst (λ q. Same (behind ops d.volume) (tried (Batch is.0 is.1 is.2 []) part d) (step q d)) (sym is.3) (ahead_same is.0 is.1 is.2 ops d sound part fit))

  pub picked_is : part ≡ picked (flat_map (λ op. operands op.1) ops) d.volume → Same (behind ops d.volume) (tried r part d) (step r d)
  picked_is same =
      subst (λ es. Same (behind ops d.volume) (tried r es d) (step r d)) (sym same)
      (subst (λ q. Same (behind ops d.volume) (tried q (picked (flat_map (λ op. operands op.1) ops) d.volume) d) (step q d)) (sym is.3) (picked_same is.0 is.1 is.2 ops d sound))

-- What may be left of a store's state is one for a store too.
module _ (named : List ℕ) (kept : List (ℕ × ℕ)) where
  abbrev pub IsStores : Durable → Type 0
  IsStores d = ∥ WellFormed (images d.volume) ∥₁ × IsInOrder d × ArePlaces d.max_objects named kept

  spare_is : (d : Durable) → IsStores d → IsStores (formatted d.max_objects)
  spare_is d is =
      let m = d.max_objects in
      let most = is.1.most in
      let well = formatted_well m (leb-true 32 m (told (nat_le 32 m) (first (nat_le 32 m) (nat_le m 1024) most))) (leb-true m 1024 (told (nat_le m 1024) (second (nat_le 32 m) (nat_le m 1024) most))) in
      (∣ well.volume ∣₁, well.order, is.2)

  pub left_is : (d e : Durable) → IsStores d → IsSpare d e → IsStores e
  left_is d e is left = ⊎_elim (λ same. subst IsStores (sym same) is) (λ spare. subst IsStores (sym spare) (spare_is d is)) left
