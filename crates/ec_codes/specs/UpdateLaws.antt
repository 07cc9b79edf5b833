-- The laws of the codes of updates.
use Rattle.std.proofs.Common.{◌≡◌, ℕ, Bool, true, false, cond, eqb, List, [], ◌∷◌, ◌++◌, Option, Some, None, refl, sym, ap, ◌∙◌, arith}
use Rattle.std.proofs.lemmas.Bool.{eqb-true}
use Rattle.std.specs.Prelude.{not, nat_le}
use Rattle.ec_volume.specs.Entries.{same_name}
use Rattle.ec_volume.specs.Update.{Above, ids_of, listed}
use Rattle.ec_volume.specs.declared.image.Kind.{Kind}
use Rattle.ec_volume.specs.declared.update.Update.{Update}
use Rattle.ec_volume.specs.declared.update.Update.TheVariants.{Make, Drop, Move, Put, Len, Mode, Stamp, Order, Shift, Owner}
use Rattle.std.specs.Int.{w16, w32, w64}
use Rattle.ec_codes.specs.Formats.{Format, byte, number, such, then_by, text, list, variant, nothing, tagged}
use Rattle.ec_codes.specs.FormatLaws.{IsFormat, byte-is, number16-is, number32-is, number64-is, such_is, then_is, text_is, list_is, variant_is, nothing_is, choice_is, tagged_is}
use Rattle.ec_codes.specs.Fields.{id, id_but, kind_field, flag, victim_but, name}
use Rattle.ec_codes.specs.FieldLaws.{id-is, id_but_is, kind-is, flag-is, victim_but_is, mode_field-is, name-is}
use Rattle.ec_codes.specs.Updates.{entry_fields, move_fields, is_put_length, put_fields, len_fields, mode_fields, stamp_fields, owner_fields, is_order_count, order_fields, is_way_count, begins_well, step_fields, step_spell, way_fields, shift_fields, tag, is_tag, made, dropped, moved, put, resized, with_mode, stamped, ordered, shifted, owned, to_make, to_drop, to_move, to_put, to_len, to_mode, to_stamp, to_order, to_shift, to_owner, form, update_code}
use Rattle.ec_base.specs.SmallLaws.{same_some}

-- The fields.

entry-is : IsFormat entry_fields
unfolding entry_fields
entry-is = then_is id _ id-is (λ dir. then_is (id_but (dir ∷ [])) _ (id_but_is (dir ∷ [])) (λ obj. then_is kind_field _ kind-is (λ k. name-is)))

move-is : IsFormat move_fields
unfolding move_fields
move-is =
    then_is id _ id-is (λ dir. then_is (id_but (dir ∷ [])) _ (id_but_is (dir ∷ [])) (λ obj. then_is kind_field _ kind-is (λ k.
    then_is (victim_but (dir ∷ obj ∷ [])) _ (victim_but_is (dir ∷ obj ∷ [])) (λ victim. then_is name _ name-is (λ from. such_is (λ to. not (same_name from to)) name name-is)))))

put-is : IsFormat put_fields
unfolding put_fields
put-is =
    then_is id _ id-is (λ obj. then_is (number w32) _ number32-is (λ at. then_is flag _ flag-is (λ inside.
    text_is (such (is_put_length at) (number w16)) (λ n. omega arith) (such_is (is_put_length at) (number w16) number16-is))))

len-is : IsFormat len_fields
unfolding len_fields
len-is = then_is id _ id-is (λ obj. such_is (λ n. nat_le n 65536) (number w32) number32-is)

mode-is : IsFormat mode_fields
unfolding mode_fields
mode-is = then_is id _ id-is (λ obj. mode_field-is)

stamp-is : IsFormat stamp_fields
unfolding stamp_fields
stamp-is = then_is id _ id-is (λ obj. number64-is)

owner-is : IsFormat owner_fields
unfolding owner_fields
owner-is = then_is id _ id-is (λ obj. number32-is)

order-is : IsFormat order_fields
unfolding order_fields
order-is = list_is (such is_order_count byte) id.spell id_but (such_is is_order_count byte byte-is) id_but_is (λ before o. refl)

step_is : (os : List ℕ) (before : Above) → IsFormat (step_fields os before)
unfolding step_fields
step_is os before = then_is (such (begins_well before) (id_but (os ++ ids_of before))) _ (such_is (begins_well before) (id_but (os ++ ids_of before)) (id_but_is (os ++ ids_of before))) (λ dir. name-is)

step_spelled : (os : List ℕ) (before : Above) (e : ℕ × List ℕ) → (step_fields os before).spell e ≡ step_spell e
unfolding step_fields step_spell
step_spelled os before e = refl

way_is : (k : Kind) (into : ℕ) (os : List ℕ) → IsFormat (way_fields k into os)
unfolding way_fields
way_is k into os = list_is (such (is_way_count k into) byte) step_spell (step_fields os) (such_is (is_way_count k into) byte byte-is) (step_is os) (step_spelled os)

shift-is : IsFormat shift_fields
unfolding shift_fields
shift-is =
    then_is id _ id-is (λ dir. then_is (id_but (dir ∷ [])) _ (id_but_is (dir ∷ [])) (λ into. then_is (id_but (dir ∷ into ∷ [])) _ (id_but_is (dir ∷ into ∷ [])) (λ obj. then_is kind_field _ kind-is (λ k.
    then_is (victim_but (dir ∷ into ∷ obj ∷ [])) _ (victim_but_is (dir ∷ into ∷ obj ∷ [])) (λ victim. then_is name _ name-is (λ from. then_is name _ name-is (λ to. way_is k into (into ∷ obj ∷ listed victim))))))))

-- The forms.

abbrev IsTagged : ℕ → Format Update → Type 0
IsTagged t F = (u : Update) → F.fits u ≡ true → tag u ≡ t

choose : (t k : ℕ) (F G : Format Update) (b : Bool) → (b ≡ true → t ≡ k) → IsTagged k F → IsTagged t G → IsTagged t (cond b F G)
choose t k F G true e f g u h = f u h ∙ sym (e refl)
choose t k F G false e f g u h = g u h

tagged_or : (t k : ℕ) (F G : Format Update) → IsTagged k F → IsTagged t G → IsTagged t (cond (eqb t k) F G)
tagged_or t k F G f g = choose t k F G (eqb t k) (eqb-true t k) f g

made_back : (u : Update) (x : (ℕ × (ℕ × (Kind × List ℕ)))) → made u ≡ Some x → to_make x ≡ u
made_back (Make dir n obj k) x e = ap to_make (sym (same_some _ x e))
made_back _ x e = absurd cc

in_made : IsTagged 1 (variant made to_make entry_fields)
in_made (Make dir n obj k) h = refl
in_made _ h = absurd cc

dropped_back : (u : Update) (x : (ℕ × (ℕ × (Kind × List ℕ)))) → dropped u ≡ Some x → to_drop x ≡ u
dropped_back (Drop dir n obj k) x e = ap to_drop (sym (same_some _ x e))
dropped_back _ x e = absurd cc

in_dropped : IsTagged 2 (variant dropped to_drop entry_fields)
in_dropped (Drop dir n obj k) h = refl
in_dropped _ h = absurd cc

moved_back : (u : Update) (x : (ℕ × (ℕ × (Kind × (Option ℕ × (List ℕ × List ℕ)))))) → moved u ≡ Some x → to_move x ≡ u
moved_back (Move dir from to obj k victim) x e = ap to_move (sym (same_some _ x e))
moved_back _ x e = absurd cc

in_moved : IsTagged 3 (variant moved to_move move_fields)
in_moved (Move dir from to obj k victim) h = refl
in_moved _ h = absurd cc

put_back : (u : Update) (x : (ℕ × (ℕ × (Bool × List ℕ)))) → put u ≡ Some x → to_put x ≡ u
put_back (Put obj at bytes inside) x e = ap to_put (sym (same_some _ x e))
put_back _ x e = absurd cc

in_put : IsTagged 4 (variant put to_put put_fields)
in_put (Put obj at bytes inside) h = refl
in_put _ h = absurd cc

resized_back : (u : Update) (x : (ℕ × ℕ)) → resized u ≡ Some x → to_len x ≡ u
resized_back (Len obj len) x e = ap to_len (sym (same_some _ x e))
resized_back _ x e = absurd cc

in_resized : IsTagged 5 (variant resized to_len len_fields)
in_resized (Len obj len) h = refl
in_resized _ h = absurd cc

with_mode_back : (u : Update) (x : (ℕ × ℕ)) → with_mode u ≡ Some x → to_mode x ≡ u
with_mode_back (Mode obj mode) x e = ap to_mode (sym (same_some _ x e))
with_mode_back _ x e = absurd cc

in_with_mode : IsTagged 6 (variant with_mode to_mode mode_fields)
in_with_mode (Mode obj mode) h = refl
in_with_mode _ h = absurd cc

stamped_back : (u : Update) (x : (ℕ × ℕ)) → stamped u ≡ Some x → to_stamp x ≡ u
stamped_back (Stamp obj stamp) x e = ap to_stamp (sym (same_some _ x e))
stamped_back _ x e = absurd cc

in_stamped : IsTagged 7 (variant stamped to_stamp stamp_fields)
in_stamped (Stamp obj stamp) h = refl
in_stamped _ h = absurd cc

ordered_back : (u : Update) (x : (List ℕ)) → ordered u ≡ Some x → to_order x ≡ u
ordered_back (Order objs) x e = ap to_order (sym (same_some _ x e))
ordered_back _ x e = absurd cc

in_ordered : IsTagged 8 (variant ordered to_order order_fields)
in_ordered (Order objs) h = refl
in_ordered _ h = absurd cc

shifted_back : (u : Update) (x : (ℕ × (ℕ × (ℕ × (Kind × (Option ℕ × (List ℕ × (List ℕ × Above)))))))) → shifted u ≡ Some x → to_shift x ≡ u
shifted_back (Shift dir from into to obj k victim up) x e = ap to_shift (sym (same_some _ x e))
shifted_back _ x e = absurd cc

in_shifted : IsTagged 9 (variant shifted to_shift shift_fields)
in_shifted (Shift dir from into to obj k victim up) h = refl
in_shifted _ h = absurd cc

owned_back : (u : Update) (x : (ℕ × ℕ)) → owned u ≡ Some x → to_owner x ≡ u
owned_back (Owner obj owner) x e = ap to_owner (sym (same_some _ x e))
owned_back _ x e = absurd cc

in_owned : IsTagged 10 (variant owned to_owner owner_fields)
in_owned (Owner obj owner) h = refl
in_owned _ h = absurd cc

in_nothing : (t : ℕ) → IsTagged t nothing
in_nothing t u h = absurd cc

form_is : (t : ℕ) → IsFormat (form t)
unfolding form
form_is t =
    choice_is (eqb t 1) (variant made to_make entry_fields) _ (variant_is made to_make entry_fields entry-is (λ x. refl) made_back) (
    choice_is (eqb t 2) (variant dropped to_drop entry_fields) _ (variant_is dropped to_drop entry_fields entry-is (λ x. refl) dropped_back) (
    choice_is (eqb t 3) (variant moved to_move move_fields) _ (variant_is moved to_move move_fields move-is (λ x. refl) moved_back) (
    choice_is (eqb t 4) (variant put to_put put_fields) _ (variant_is put to_put put_fields put-is (λ x. refl) put_back) (
    choice_is (eqb t 5) (variant resized to_len len_fields) _ (variant_is resized to_len len_fields len-is (λ x. refl) resized_back) (
    choice_is (eqb t 6) (variant with_mode to_mode mode_fields) _ (variant_is with_mode to_mode mode_fields mode-is (λ x. refl) with_mode_back) (
    choice_is (eqb t 7) (variant stamped to_stamp stamp_fields) _ (variant_is stamped to_stamp stamp_fields stamp-is (λ x. refl) stamped_back) (
    choice_is (eqb t 8) (variant ordered to_order order_fields) _ (variant_is ordered to_order order_fields order-is (λ x. refl) ordered_back) (
    choice_is (eqb t 9) (variant shifted to_shift shift_fields) _ (variant_is shifted to_shift shift_fields shift-is (λ x. refl) shifted_back) (
    choice_is (eqb t 10) (variant owned to_owner owner_fields) _ (variant_is owned to_owner owner_fields owner-is (λ x. refl) owned_back) (
    nothing_is))))))))))

form_tags : (t : ℕ) → IsTagged t (form t)
unfolding form
form_tags t =
    tagged_or t 1 (variant made to_make entry_fields) _ in_made (
    tagged_or t 2 (variant dropped to_drop entry_fields) _ in_dropped (
    tagged_or t 3 (variant moved to_move move_fields) _ in_moved (
    tagged_or t 4 (variant put to_put put_fields) _ in_put (
    tagged_or t 5 (variant resized to_len len_fields) _ in_resized (
    tagged_or t 6 (variant with_mode to_mode mode_fields) _ in_with_mode (
    tagged_or t 7 (variant stamped to_stamp stamp_fields) _ in_stamped (
    tagged_or t 8 (variant ordered to_order order_fields) _ in_ordered (
    tagged_or t 9 (variant shifted to_shift shift_fields) _ in_shifted (
    tagged_or t 10 (variant owned to_owner owner_fields) _ in_owned (
    in_nothing t))))))))))

pub update-is : IsFormat update_code
unfolding update_code
update-is = tagged_is is_tag tag form form_is form_tags
