-- Updates that keep their object's kind and shorten no file fit behind one another, if each fits at first.
use Rattle.std.proofs.Common.{◌≡◌, ◌≤◌, ◌+◌, ◌-◌, ℕ, Bool, true, false, cond, not, ◌&&◌, ◌||◌, List, [], ◌∷◌, ◌++◌, length, take, drop, replicate, Option, None, Some, Result, Ok, Err, refl, ap, ◌∙◌, arith, T, length-append, length-take, length-drop}
use Rattle.std.proofs.lemmas.List.{length-replicate}
use Rattle.std.specs.Prelude.{nat_le, is_some}
use Rattle.std.proofs.lemmas.Bool.{leb-true, le-leb}
use Rattle.ec_base.specs.Tables.{Table}
use Rattle.ec_volume.specs.Image.{is_gone, is_file, bytes_of, resized, overwritten}
use Rattle.ec_volume.specs.Update.{is_sound, fits, effect, first_unfit, has_operand}
use Rattle.ec_volume.specs.Volume.{images, image_next}
use Rattle.ec_volume.specs.Held.{changed}
use Rattle.ec_volume.specs.declared.image.Image.{Image}
use Rattle.ec_volume.specs.declared.image.Image.TheVariants.{Gone, File, Dir}
use Rattle.ec_volume.specs.declared.update.Update.{Update}
use Rattle.ec_volume.specs.declared.update.Update.TheVariants.{Make, Drop, Move, Put, Len, Mode, Stamp, Order, Shift, Owner}
use Rattle.ec_volume.proofs.Changed.{changed_images}
use Rattle.ec_durable.specs.declared.state.Durable.{Durable}
use Rattle.ec_durable.specs.declared.record.RecordFault.{RecordFault}
use Rattle.ec_durable.specs.declared.record.RecordFault.TheVariants.{Unfit}
use Rattle.ec_durable.specs.Durable.{operations, op_fault, carried_out}
use Rattle.ec_durable.specs.Steps.{AreSoundOps}
use Rattle.ec_durable.proofs.StepLemmas.{with_slot-same}
use Rattle.ec_store.specs.Stepping.{grown, fits_ahead, all_fit_ahead, with_volume, behind}

both_of : (a b : Bool) → (a && b) ≡ true → (a ≡ true) × (b ≡ true)
both_of true b h = (refl, h)
both_of false b h = absurd (let t : false ≡ true = h in cc)

and_of : (a b : Bool) → a ≡ true → b ≡ true → (a && b) ≡ true
and_of true b h k = k
and_of false b h k = h

none_grown : {P : Type 0} (p : ℕ) → None ≡ Some p → P
none_grown p h = absurd (let t : false ≡ true = ap is_some h in cc)

-- the same kind, and a file that is no shorter
record Grows (i j : Image) : Type 0 where
  file : is_file i ≡ true → is_file j ≡ true
  live : not (is_gone i) ≡ true → not (is_gone j) ≡ true
  longer : length (bytes_of i) ≤ length (bytes_of j)

grows_same : (i : Image) → Grows i i
grows_same i = record { file = λ h. h; live = λ h. h; longer = omega arith }

no_shorter : (at : ℕ) (new bs : List ℕ) → length bs ≤ length (overwritten at new bs)
no_shorter at new bs =
    let whole = length-append (resized at bs ++ new) (drop (at + length new) bs) in
    let front = length-append (resized at bs) new in
    let filled = length-append (take at bs) (replicate (at - length bs) 0) in
    omega (arith, whole, front, filled, length-take at bs, length-replicate {A = ℕ} (at - length bs) 0, length-drop (at + length new) bs)

grows : (u : Update) (p o : ℕ) (i : Image) → grown u ≡ Some p → Grows i (effect u o i)
grows (Put obj at bs inside) p o Gone h = grows_same Gone
grows (Put obj at bs inside) p o (File m s w xs) h = record { file = λ k. refl; live = λ k. refl; longer = no_shorter at bs xs }
grows (Put obj at bs inside) p o (Dir m s w es) h = grows_same (Dir m s w es)
grows (Mode obj mode) p o Gone h = grows_same Gone
grows (Mode obj mode) p o (File m s w xs) h = record { file = λ k. refl; live = λ k. refl; longer = omega arith }
grows (Mode obj mode) p o (Dir m s w es) h = record { file = λ k. k; live = λ k. refl; longer = omega arith }
grows (Stamp obj stamp) p o Gone h = grows_same Gone
grows (Stamp obj stamp) p o (File m s w xs) h = record { file = λ k. refl; live = λ k. refl; longer = omega arith }
grows (Stamp obj stamp) p o (Dir m s w es) h = record { file = λ k. k; live = λ k. refl; longer = omega arith }
grows (Owner obj owner) p o Gone h = grows_same Gone
grows (Owner obj owner) p o (File m s w xs) h = record { file = λ k. refl; live = λ k. refl; longer = omega arith }
grows (Owner obj owner) p o (Dir m s w es) h = record { file = λ k. k; live = λ k. refl; longer = omega arith }
grows (Make dir name obj k) p o i h = none_grown p h
grows (Drop dir name obj k) p o i h = none_grown p h
grows (Move dir from to obj k victim) p o i h = none_grown p h
grows (Len obj len) p o i h = none_grown p h
grows (Order objs) p o i h = none_grown p h
grows (Shift dir from into to obj k victim up) p o i h = none_grown p h

still_fits : (u : Update) (p o : ℕ) (i j : Image) → grown u ≡ Some p → Grows i j → fits u o i ≡ true → fits u o j ≡ true
still_fits (Put obj at bs inside) p o i j h g f =
    let parts = both_of _ _ f in
    and_of _ _ (g.file parts.0) (inner inside parts.1)
  where
    inner : (b : Bool) → (not b || nat_le (at + length bs) (length (bytes_of i))) ≡ true → (not b || nat_le (at + length bs) (length (bytes_of j))) ≡ true
    inner false k = refl
    inner true k = le-leb _ _ (omega (arith, leb-true _ _ k, g.longer))
still_fits (Mode obj mode) p o i j h g f = g.live f
still_fits (Stamp obj stamp) p o i j h g f = g.live f
still_fits (Owner obj owner) p o i j h g f = g.live f
still_fits (Make dir name obj k) p o i j h g f = none_grown p h
still_fits (Drop dir name obj k) p o i j h g f = none_grown p h
still_fits (Move dir from to obj k victim) p o i j h g f = none_grown p h
still_fits (Len obj len) p o i j h g f = none_grown p h
still_fits (Order objs) p o i j h g f = none_grown p h
still_fits (Shift dir from into to obj k victim up) p o i j h g f = none_grown p h

grows_next : (u : Update) (p o : ℕ) (i : Image) → grown u ≡ Some p → Grows i (image_next o i u)
grows_next u p o i h = go (has_operand o u)
  where
    go : (b : Bool) → Grows i (cond b (effect u o i) i)
    go true = grows u p o i h
    go false = grows_same i

-- Behind an update that fits so, the others still do.

abbrev At : Update → Table Image → Option ℕ → Bool
At w es x = elim x as (λ z. Bool) [ None ↦ false | Some o ↦ fits w o (images es o) ]

next_fits : (u w : Update) (p : ℕ) (es : Table Image) → T (is_sound u) → grown u ≡ Some p → fits_ahead (images es) w ≡ true → fits_ahead (images (changed u es)) w ≡ true
next_fits u w p es sound h f = go (grown w) refl f
  where
    go : (x : Option ℕ) → grown w ≡ x → At w es x ≡ true → At w (changed u es) x ≡ true
    go None is k = k
    go (Some o) is k = ap (λ i. fits w o i) (changed_images u es sound o) ∙ still_fits w o o (images es o) (image_next o (images es o) u) is (grows_next u p o (images es o) h) k

next_fit : (u : Update) (p : ℕ) (es : Table Image) (ops : List (ℕ × Update)) → T (is_sound u) → grown u ≡ Some p → all_fit_ahead (images es) ops ≡ true → all_fit_ahead (images (changed u es)) ops ≡ true
next_fit u p es [] sound h f = refl
next_fit u p es (op ∷ ops) sound h f =
    let parts = both_of _ _ f in
    and_of _ _ (next_fits u op.1 p es sound h parts.0) (next_fit u p es ops sound h parts.1)

-- One operation.

fitting : (u : Update) (o n : ℕ) (es : Table Image) → fits u o (images es o) ≡ true → elim (first_unfit u (images es) (o ∷ [])) as (λ z. Option RecordFault) [ Some p ↦ Some (Unfit n p) | None ↦ None ] ≡ None
fitting u o n es f = ap (λ b. elim (cond b None (Some o)) as (λ z. Option RecordFault) [ Some p ↦ Some (Unfit n p) | None ↦ None ]) f

no_fault : (c n : ℕ) (u : Update) (d : Durable) → fits_ahead (images d.volume) u ≡ true → op_fault c n u d ≡ None
no_fault c n (Put obj at bs inside) d f = fitting (Put obj at bs inside) obj n d.volume f
no_fault c n (Mode obj mode) d f = fitting (Mode obj mode) obj n d.volume f
no_fault c n (Stamp obj stamp) d f = fitting (Stamp obj stamp) obj n d.volume f
no_fault c n (Owner obj owner) d f = fitting (Owner obj owner) obj n d.volume f
no_fault c n (Make dir name obj k) d f = absurd (let t : false ≡ true = f in cc)
no_fault c n (Drop dir name obj k) d f = absurd (let t : false ≡ true = f in cc)
no_fault c n (Move dir from to obj k victim) d f = absurd (let t : false ≡ true = f in cc)
no_fault c n (Len obj len) d f = absurd (let t : false ≡ true = f in cc)
no_fault c n (Order objs) d f = absurd (let t : false ≡ true = f in cc)
no_fault c n (Shift dir from into to obj k victim up) d f = absurd (let t : false ≡ true = f in cc)

same_sessions : (c : ℕ) (u : Update) (d : Durable) → fits_ahead (images d.volume) u ≡ true → carried_out c u d ≡ with_volume (changed u d.volume) d
same_sessions c (Put obj at bs inside) d f = ap (λ ss. record d { volume = changed (Put obj at bs inside) d.volume; sessions = ss }) (with_slot-same c d.sessions)
same_sessions c (Mode obj mode) d f = ap (λ ss. record d { volume = changed (Mode obj mode) d.volume; sessions = ss }) (with_slot-same c d.sessions)
same_sessions c (Stamp obj stamp) d f = ap (λ ss. record d { volume = changed (Stamp obj stamp) d.volume; sessions = ss }) (with_slot-same c d.sessions)
same_sessions c (Owner obj owner) d f = ap (λ ss. record d { volume = changed (Owner obj owner) d.volume; sessions = ss }) (with_slot-same c d.sessions)
same_sessions c (Make dir name obj k) d f = absurd (let t : false ≡ true = f in cc)
same_sessions c (Drop dir name obj k) d f = absurd (let t : false ≡ true = f in cc)
same_sessions c (Move dir from to obj k victim) d f = absurd (let t : false ≡ true = f in cc)
same_sessions c (Len obj len) d f = absurd (let t : false ≡ true = f in cc)
same_sessions c (Order objs) d f = absurd (let t : false ≡ true = f in cc)
same_sessions c (Shift dir from into to obj k victim up) d f = absurd (let t : false ≡ true = f in cc)

one_grown : (u : Update) (es : Table Image) → fits_ahead (images es) u ≡ true → (p : ℕ) × (grown u ≡ Some p)
one_grown u es f = go (grown u) refl f
  where
    go : (x : Option ℕ) → grown u ≡ x → At u es x ≡ true → (p : ℕ) × (grown u ≡ Some p)
    go None is k = absurd (let t : false ≡ true = k in cc)
    go (Some p) is k = (p, is)

-- All of them.
pub operations_ahead : (c : ℕ) (ops : List (ℕ × Update)) (d : Durable) → AreSoundOps ops → all_fit_ahead (images d.volume) ops ≡ true → operations c ops d ≡ Ok (with_volume (behind ops d.volume) d)
operations_ahead c [] d sound f = refl
operations_ahead c (op ∷ ops) d sound f =
    let parts = both_of _ _ f in
    let is = one_grown op.1 d.volume parts.0 in
    ap (λ (x : Option RecordFault). elim x as (λ z. Result Durable RecordFault) [ Some fault ↦ Err fault | None ↦ operations c ops (carried_out c op.1 d) ]) (no_fault c op.0 op.1 d parts.0)
    ∙ ap (operations c ops) (same_sessions c op.1 d parts.0)
    ∙ operations_ahead c ops (with_volume (changed op.1 d.volume) d) sound.1 (next_fit op.1 is.0 d.volume ops sound.0 is.1 parts.1)
