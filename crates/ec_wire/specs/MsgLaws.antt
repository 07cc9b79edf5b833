-- Which messages have a code: the sound ones, with fields in the ranges of their types.
use Rattle.std.proofs.Common.{◌≡◌, ℕ, Bool, true, false, ◌&&◌, List, [], ◌∷◌, map, length, Option, Some, None, Result, Ok, Err, refl, sym, ap, ◌∙◌}
use Rattle.std.specs.Prelude.{nat_lt, nat_le, IfOk, T}
use Rattle.std.specs.List.{list_all}
use Rattle.std.proofs.lemmas.Bool.{and_parts, and_from}
use Rattle.ec_base.specs.Tables.{keys}
use Rattle.ec_base.specs.Holds.{rank}
use Rattle.ec_base.specs.declared.ids.Hold.{Hold}
use Rattle.ec_base.specs.declared.ids.Hold.TheVariants as hold
use Rattle.ec_volume.specs.Update.{is_sound as is_sound_update}
use Rattle.ec_volume.specs.declared.image.Image.{Image}
use Rattle.ec_volume.specs.declared.image.Image.TheVariants.{Gone, File, Dir}
use Rattle.ec_volume.specs.declared.update.Update.{Update}
use Rattle.ec_codes.specs.Formats.{byte, such, rows_fit}
use Rattle.ec_codes.specs.Fields.{word, long, id}
use Rattle.ec_codes.specs.Updates.{update_code}
use Rattle.ec_codes.specs.Images.{image_code}
use Rattle.ec_codes.specs.SoundLaws.{fits_sound}
use Rattle.ec_codes.specs.EntryLaws.{fits_held}
use Rattle.ec_wire.specs.declared.fault.WireFault.{WireFault}
use Rattle.ec_wire.specs.declared.msg.Msg.{Msg}
use Rattle.ec_wire.specs.declared.msg.Msg.TheVariants.{Hello, Want, Back, Flush, Room, Claim, Bye, Opened, Grant, Recall, Kept, Ids, NoRoom, Ended, Restarted, OldBoot}
use Rattle.ec_wire.specs.Messages.{is_held_mode, is_lowered_mode, is_sound_image, rises, is_sound}
use Rattle.ec_wire.specs.RowLaws.{is_row, rows_rise, rises_all}
use Rattle.ec_wire.specs.Codes.{held_field, lowered_field, is_first, first_field, op_after, is_op_count, ops_field, token_after, tokens_field, msg_form, msg_code, want_fields, back_fields, flush_fields, claim_fields, grant_fields, recall_fields, ids_fields}

held_sound : (h : Hold) → held_field.fits h ≡ true → is_held_mode h ≡ true
unfolding held_field
held_sound h f = (and_parts (byte.fits (rank h)) (is_held_mode h) f).1

lowered_sound : (h : Hold) → lowered_field.fits h ≡ true → is_lowered_mode h ≡ true
unfolding lowered_field
lowered_sound h f = (and_parts (byte.fits (rank h)) (is_lowered_mode h) f).1

first_sound : (x : ℕ) → first_field.fits x ≡ true → is_first x ≡ true
unfolding first_field
first_sound x f = (and_parts (id.fits x) (is_first x) f).1

updates_sound : (ops : List (ℕ × Update)) → list_all (is_row long update_code) ops ≡ true → list_all (λ op. is_sound_update op.1) ops ≡ true
updates_sound [] h = refl
updates_sound (e ∷ es) h =
    let a = and_parts (is_row long update_code e) _ h in
    and_from _ _ (fits_sound e.1 (and_parts (long.fits e.0) (update_code.fits e.1) a.0).1) (updates_sound es a.1)

modes_sound : (tokens : List (ℕ × Hold)) → list_all (is_row id held_field) tokens ≡ true → list_all (λ t. is_held_mode t.1) tokens ≡ true
modes_sound [] h = refl
modes_sound (e ∷ es) h =
    let a = and_parts (is_row id held_field e) _ h in
    and_from _ _ (held_sound e.1 (and_parts (id.fits e.0) (held_field.fits e.1) a.0).1) (modes_sound es a.1)

ops_sound : (ops : List (ℕ × Update)) → ops_field.fits ops ≡ true → (nat_le 1 (length ops) && nat_le (length ops) 64 && rises (keys ops) && list_all (λ op. is_sound_update op.1) ops) ≡ true
unfolding ops_field op_after
ops_sound ops h =
    let a = and_parts ((such is_op_count byte).fits (length ops)) _ h in
    let b = and_parts (list_all (is_row long update_code) ops) _ (sym (rows_rise long update_code [] ops) ∙ a.1) in
    and_from _ _ (and_from _ _ (and_parts (byte.fits (length ops)) (is_op_count (length ops)) a.0).1 (sym (rises_all (keys ops)) ∙ b.1)) (updates_sound ops b.0)

tokens_sound : (tokens : List (ℕ × Hold)) → tokens_field.fits tokens ≡ true → (rises (keys tokens) && list_all (λ t. is_held_mode t.1) tokens) ≡ true
unfolding tokens_field token_after
tokens_sound tokens h =
    let a = and_parts (word.fits (length tokens)) _ h in
    let b = and_parts (list_all (is_row id held_field) tokens) _ (sym (rows_rise id held_field [] tokens) ∙ a.1) in
    and_from _ _ (sym (rises_all (keys tokens)) ∙ b.1) (modes_sound tokens b.0)

image_sound : (i : Image) → image_code.fits i ≡ true → is_sound_image i ≡ true
image_sound Gone f = refl
image_sound (File m s w bs) f = let h = fits_held (File m s w bs) f in and_from _ _ h.0 h.1
image_sound (Dir m s w es) f = let h = fits_held (Dir m s w es) f in and_from _ _ h.0 h.1

pub fits_sound_msg : (m : Msg) → msg_code.fits m ≡ true → is_sound m ≡ true
unfolding msg_code msg_form want_fields back_fields flush_fields claim_fields grant_fields recall_fields ids_fields
fits_sound_msg (Hello c age) f = refl
fits_sound_msg (Want s e x h last) f =
    let a = and_parts (long.fits s) _ f in
    let b = and_parts (long.fits e) _ a.1 in
    let c = and_parts (id.fits x) _ b.1 in
    held_sound h (and_parts (held_field.fits h) _ c.1).0
fits_sound_msg (Back s e x n h) f =
    let a = and_parts (long.fits s) _ f in
    let b = and_parts (long.fits e) _ a.1 in
    let c = and_parts (id.fits x) _ b.1 in
    lowered_sound h (and_parts (long.fits n) _ c.1).1
fits_sound_msg (Flush s e b ops) f =
    let p = and_parts (long.fits s) _ f in
    let q = and_parts (long.fits e) _ p.1 in
    ops_sound ops (and_parts (long.fits b) _ q.1).1
fits_sound_msg (Room s e got ask) f = refl
fits_sound_msg (Claim s e tokens) f =
    let a = and_parts (long.fits s) _ f in
    tokens_sound tokens (and_parts (long.fits e) _ a.1).1
fits_sound_msg (Bye s e) f = refl
fits_sound_msg (Opened age s e) f = refl
fits_sound_msg (Grant s e x n h image) f =
    let a = and_parts (long.fits s) _ f in
    let b = and_parts (long.fits e) _ a.1 in
    let c = and_parts (id.fits x) _ b.1 in
    let d = and_parts (long.fits n) _ c.1 in
    let g = and_parts (held_field.fits h) _ d.1 in
    and_from _ _ (held_sound h g.0) (image_sound image g.1)
fits_sound_msg (Recall s e x n h) f =
    let a = and_parts (long.fits s) _ f in
    let b = and_parts (long.fits e) _ a.1 in
    let c = and_parts (id.fits x) _ b.1 in
    lowered_sound h (and_parts (long.fits n) _ c.1).1
fits_sound_msg (Kept s e b) f = refl
fits_sound_msg (Ids s e got n x) f =
    let a = and_parts (long.fits s) _ f in
    let b = and_parts (long.fits e) _ a.1 in
    let c = and_parts (word.fits got) _ b.1 in
    first_sound x (and_parts (long.fits n) _ c.1).1
fits_sound_msg (NoRoom s e ask live reserved) f = refl
fits_sound_msg (Ended s low mask) f = refl
fits_sound_msg (Restarted s e) f = refl
fits_sound_msg (OldBoot asked greatest) f = refl

pub found_sound : (bytes : List ℕ) (r : Result Msg WireFault) → IfOk r (λ m. (msg_code.fits m ≡ true) × (bytes ≡ msg_code.spell m)) → IfOk r (λ m. is_sound m ≡ true)
found_sound bytes (Ok m) h = fits_sound_msg m h.0
found_sound bytes (Err e) h = tt

-- What is sound has a code.

pub ops_fit : (ops : List (ℕ × Update)) → list_all (is_row long update_code) ops ≡ true → rises (keys ops) ≡ true → rows_fit op_after [] ops ≡ true
unfolding op_after
ops_fit ops f r = rows_rise long update_code [] ops ∙ and_from _ _ f (rises_all (keys ops) ∙ r)

held_fits : (h : Hold) → is_held_mode h ≡ true → held_field.fits h ≡ true
unfolding held_field
held_fits hold.Free h = absurd cc
held_fits hold.Read h = refl
held_fits hold.Write h = refl

tokens_each : (tokens : List (ℕ × Hold)) → list_all (λ t. id.fits t.0) tokens ≡ true → list_all (λ t. is_held_mode t.1) tokens ≡ true → list_all (is_row id held_field) tokens ≡ true
tokens_each [] f h = refl
tokens_each (e ∷ es) f h =
    let a = and_parts (id.fits e.0) _ f in
    let b = and_parts (is_held_mode e.1) _ h in
    and_from _ _ (and_from _ _ a.0 (held_fits e.1 b.0)) (tokens_each es a.1 b.1)

pub tokens_fit : (tokens : List (ℕ × Hold)) → list_all (λ t. id.fits t.0) tokens ≡ true → list_all (λ t. is_held_mode t.1) tokens ≡ true → rises (keys tokens) ≡ true → rows_fit token_after [] tokens ≡ true
unfolding token_after
tokens_fit tokens f h r = rows_rise id held_field [] tokens ∙ and_from _ _ (tokens_each tokens f h) (rises_all (keys tokens) ∙ r)
