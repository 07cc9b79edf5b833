-- The laws of the codes of messages.
use Rattle.std.proofs.Common.{◌≡◌, ℕ, zero, suc, ◌+◌, ◌≤◌, ◌<◌, Bool, true, false, cond, ◌&&◌, ltb, eqb, inl, inr, List, [], ◌∷◌, ◌++◌, length, get_or, drop, Option, Some, Result, Ok, Err, refl, sym, ap, subst, ◌∙◌, arith}
use Rattle.std.specs.Prelude.{nat_lt, nat_le, IfOk}
use Rattle.std.proofs.lemmas.Bool.{eqb-true, ltb-true, ltb-false, lt-ltb, le-ltb, and_parts, and_from}
use Rattle.ec_base.specs.Holds.{rank}
use Rattle.ec_base.specs.Limits.{clerk_count}
use Rattle.ec_base.specs.declared.ids.Age.{Age}
use Rattle.ec_base.specs.declared.ids.Hold.{Hold}
use Rattle.ec_base.specs.declared.ids.Hold.TheVariants as hold
use Rattle.ec_volume.specs.declared.image.Image.{Image}
use Rattle.ec_volume.specs.declared.update.Update.{Update}
use Rattle.ec_codes.specs.Formats.{Read, Format, byte, such, then_by, standing, list, variant, nothing, tagged}
use Rattle.ec_codes.specs.Spelling.{StandsAt, Spells}
use Rattle.ec_codes.specs.FormatLaws.{AreBytes, IsFormat, byte-is, such_is, then_is, standing_is, list_is, variant_is, nothing_is, choice_is, tagged_is, ok_is}
use Rattle.ec_codes.specs.Fields.{word, long, id}
use Rattle.ec_codes.specs.FieldLaws.{word-is, long-is, id-is, two_of}
use Rattle.ec_codes.specs.Updates.{update_code}
use Rattle.ec_codes.specs.UpdateLaws.{update-is}
use Rattle.ec_codes.specs.Images.{image_code}
use Rattle.ec_codes.specs.ImageLaws.{image-is}
use Rattle.ec_wire.specs.declared.msg.Msg.{Msg}
use Rattle.ec_wire.specs.declared.msg.Msg.TheVariants.{Hello, Want, Back, Flush, Room, Claim, Bye, Opened, Grant, Recall, Kept, Ids, NoRoom, Ended, Restarted, OldBoot}
use Rattle.ec_wire.specs.Messages.{is_held_mode, is_lowered_mode}
use Rattle.ec_wire.specs.Codes.{clerk_field, age_field, held_of, held_field, lowered_of, lowered_field, is_first, first_field, last_of, is_over, row_after, row_spell, op_after, op_spell, is_op_count, ops_field, token_after, token_spell, tokens_field, msg_byte, is_kind_byte, msg_form, msg_code}
use Rattle.ec_wire.specs.Codes.{hello_fields, want_fields, back_fields, flush_fields, room_fields, claim_fields, bye_fields, opened_fields, grant_fields, recall_fields, kept_fields, ids_fields, no_room_fields, ended_fields, restarted_fields, old_boot_fields}
use Rattle.ec_wire.specs.Codes.{hello_parts, want_parts, back_parts, flush_parts, room_parts, claim_parts, bye_parts, opened_parts, grant_parts, recall_parts, kept_parts, ids_parts, no_room_parts, ended_parts, restarted_parts, old_boot_parts}
use Rattle.ec_wire.specs.Codes.{to_hello, to_want, to_back, to_flush, to_room, to_claim, to_bye, to_opened, to_grant, to_recall, to_kept, to_ids, to_no_room, to_ended, to_restarted, to_old_boot}
use Rattle.ec_base.specs.SmallLaws.{same_some}
use Rattle.ec_codes.specs.Clerks.{age_of, age_parts}

-- The fields.

clerk-is : IsFormat clerk_field
unfolding clerk_field
clerk-is = such_is (λ n. nat_lt n clerk_count) byte byte-is

age-is : IsFormat age_field
unfolding age_field
age-is = standing_is age_parts (λ a. true) age_of (then_by long (λ boot. word)) (then_is long _ long-is (λ boot. word-is)) (λ a h. refl) (λ p a e. (ap age_parts (sym (same_some _ a e)), refl))

held_back : (h : Hold) → is_held_mode h ≡ true → held_of (rank h) ≡ Some h
held_back hold.Free e = absurd cc
held_back hold.Read e = refl
held_back hold.Write e = refl

held-is : IsFormat held_field
unfolding held_field
held-is = standing_is rank is_held_mode held_of byte byte-is held_back
    (λ n h e. elim (two_of (eqb n 1) (eqb n 2) hold.Read hold.Write h e) [
      | inl p ↦ (sym (eqb-true n 1 p.0 ∙ ap rank p.1), ap is_held_mode (sym p.1))
      | inr p ↦ (sym (eqb-true n 2 p.0 ∙ ap rank p.1), ap is_held_mode (sym p.1))
    ])

lowered_back : (h : Hold) → is_lowered_mode h ≡ true → lowered_of (rank h) ≡ Some h
lowered_back hold.Free e = refl
lowered_back hold.Read e = refl
lowered_back hold.Write e = absurd cc

lowered-is : IsFormat lowered_field
unfolding lowered_field
lowered-is = standing_is rank is_lowered_mode lowered_of byte byte-is lowered_back
    (λ n h e. elim (two_of (eqb n 0) (eqb n 1) hold.Free hold.Read h e) [
      | inl p ↦ (sym (eqb-true n 0 p.0 ∙ ap rank p.1), ap is_lowered_mode (sym p.1))
      | inr p ↦ (sym (eqb-true n 1 p.0 ∙ ap rank p.1), ap is_lowered_mode (sym p.1))
    ])

first-is : IsFormat first_field
unfolding first_field
first-is = such_is is_first id id-is

row_is : {X : Type 0} (K : Format ℕ) (V : Format X) → IsFormat K → IsFormat V → (before : List (ℕ × X)) → IsFormat (row_after K V before)
row_is K V k v before = then_is (such (is_over (last_of before)) K) _ (such_is (is_over (last_of before)) K k) (λ n. v)

op_is : (before : List (ℕ × Update)) → IsFormat (op_after before)
unfolding op_after
op_is before = row_is long update_code long-is update-is before

op_spelled : (before : List (ℕ × Update)) (e : ℕ × Update) → (op_after before).spell e ≡ op_spell e
unfolding op_after op_spell
op_spelled before e = refl

ops-is : IsFormat ops_field
unfolding ops_field
ops-is = list_is (such is_op_count byte) op_spell op_after (such_is is_op_count byte byte-is) op_is op_spelled

token_is : (before : List (ℕ × Hold)) → IsFormat (token_after before)
unfolding token_after
token_is before = row_is id held_field id-is held-is before

token_spelled : (before : List (ℕ × Hold)) (e : ℕ × Hold) → (token_after before).spell e ≡ token_spell e
unfolding token_after token_spell
token_spelled before e = refl

tokens-is : IsFormat tokens_field
unfolding tokens_field
tokens-is = list_is word token_spell token_after word-is token_is token_spelled

-- The kinds.

hello-is : IsFormat hello_fields
unfolding hello_fields
hello-is = then_is clerk_field _ clerk-is (λ c. age-is)

want-is : IsFormat want_fields
unfolding want_fields
want-is = then_is long _ long-is (λ s. then_is long _ long-is (λ e. then_is id _ id-is (λ x. then_is held_field _ held-is (λ h. long-is))))

back-is : IsFormat back_fields
unfolding back_fields
back-is = then_is long _ long-is (λ s. then_is long _ long-is (λ e. then_is id _ id-is (λ x. then_is long _ long-is (λ n. lowered-is))))

flush-is : IsFormat flush_fields
unfolding flush_fields
flush-is = then_is long _ long-is (λ s. then_is long _ long-is (λ e. then_is long _ long-is (λ b. ops-is)))

room-is : IsFormat room_fields
unfolding room_fields
room-is = then_is long _ long-is (λ s. then_is long _ long-is (λ e. then_is word _ word-is (λ got. long-is)))

claim-is : IsFormat claim_fields
unfolding claim_fields
claim-is = then_is long _ long-is (λ s. then_is long _ long-is (λ e. tokens-is))

bye-is : IsFormat bye_fields
unfolding bye_fields
bye-is = then_is long _ long-is (λ s. long-is)

opened-is : IsFormat opened_fields
unfolding opened_fields
opened-is = then_is age_field _ age-is (λ age. then_is long _ long-is (λ s. long-is))

grant-is : IsFormat grant_fields
unfolding grant_fields
grant-is = then_is long _ long-is (λ s. then_is long _ long-is (λ e. then_is id _ id-is (λ x. then_is long _ long-is (λ n. then_is held_field _ held-is (λ h. image-is)))))

recall-is : IsFormat recall_fields
unfolding recall_fields
recall-is = then_is long _ long-is (λ s. then_is long _ long-is (λ e. then_is id _ id-is (λ x. then_is long _ long-is (λ n. lowered-is))))

kept-is : IsFormat kept_fields
unfolding kept_fields
kept-is = then_is long _ long-is (λ s. then_is long _ long-is (λ e. long-is))

ids-is : IsFormat ids_fields
unfolding ids_fields
ids-is = then_is long _ long-is (λ s. then_is long _ long-is (λ e. then_is word _ word-is (λ got. then_is long _ long-is (λ n. first-is))))

no_room-is : IsFormat no_room_fields
unfolding no_room_fields
no_room-is = then_is long _ long-is (λ s. then_is long _ long-is (λ e. then_is long _ long-is (λ ask. then_is word _ word-is (λ live. word-is))))

ended-is : IsFormat ended_fields
unfolding ended_fields
ended-is = then_is long _ long-is (λ s. then_is long _ long-is (λ low. byte-is))

restarted-is : IsFormat restarted_fields
unfolding restarted_fields
restarted-is = then_is long _ long-is (λ s. long-is)

old_boot-is : IsFormat old_boot_fields
unfolding old_boot_fields
old_boot-is = then_is age_field _ age-is (λ asked. age-is)

abbrev IsMessageTagged : ℕ → Format Msg → Type 0
IsMessageTagged b F = (m : Msg) → F.fits m ≡ true → msg_byte m ≡ b

choose : (t k : ℕ) (F G : Format Msg) (b : Bool) → (b ≡ true → t ≡ k) → IsMessageTagged k F → IsMessageTagged t G → IsMessageTagged t (cond b F G)
choose t k F G true e f g m h = f m h ∙ sym (e refl)
choose t k F G false e f g m h = g m h

msg_tagged_or : (t k : ℕ) (F G : Format Msg) → IsMessageTagged k F → IsMessageTagged t G → IsMessageTagged t (cond (eqb t k) F G)
msg_tagged_or t k F G f g = choose t k F G (eqb t k) (eqb-true t k) f g

msg_in_nothing : (t : ℕ) → IsMessageTagged t nothing
msg_in_nothing t m h = absurd cc

hello_back : (m : Msg) (x : (ℕ × Age)) → hello_parts m ≡ Some x → to_hello x ≡ m
hello_back (Hello c age) parts same = ap to_hello (sym (same_some _ parts same))
hello_back _ x e = absurd cc

in_hello : IsMessageTagged 8 (variant hello_parts to_hello hello_fields)
in_hello (Hello c age) fits = refl
in_hello _ h = absurd cc

want_back : (m : Msg) (x : (ℕ × (ℕ × (ℕ × (Hold × ℕ))))) → want_parts m ≡ Some x → to_want x ≡ m
want_back (Want s e x h last) parts same = ap to_want (sym (same_some _ parts same))
want_back _ x e = absurd cc

in_want : IsMessageTagged 2 (variant want_parts to_want want_fields)
in_want (Want s e x h last) fits = refl
in_want _ h = absurd cc

back_back : (m : Msg) (x : (ℕ × (ℕ × (ℕ × (ℕ × Hold))))) → back_parts m ≡ Some x → to_back x ≡ m
back_back (Back s e x n h) parts same = ap to_back (sym (same_some _ parts same))
back_back _ x e = absurd cc

in_back : IsMessageTagged 3 (variant back_parts to_back back_fields)
in_back (Back s e x n h) fits = refl
in_back _ h = absurd cc

flush_back : (m : Msg) (x : (ℕ × (ℕ × (ℕ × List (ℕ × Update))))) → flush_parts m ≡ Some x → to_flush x ≡ m
flush_back (Flush s e b ops) parts same = ap to_flush (sym (same_some _ parts same))
flush_back _ x e = absurd cc

in_flush : IsMessageTagged 4 (variant flush_parts to_flush flush_fields)
in_flush (Flush s e b ops) fits = refl
in_flush _ h = absurd cc

room_back : (m : Msg) (x : (ℕ × (ℕ × (ℕ × ℕ)))) → room_parts m ≡ Some x → to_room x ≡ m
room_back (Room s e got ask) parts same = ap to_room (sym (same_some _ parts same))
room_back _ x e = absurd cc

in_room : IsMessageTagged 5 (variant room_parts to_room room_fields)
in_room (Room s e got ask) fits = refl
in_room _ h = absurd cc

claim_back : (m : Msg) (x : (ℕ × (ℕ × List (ℕ × Hold)))) → claim_parts m ≡ Some x → to_claim x ≡ m
claim_back (Claim s e tokens) parts same = ap to_claim (sym (same_some _ parts same))
claim_back _ x e = absurd cc

in_claim : IsMessageTagged 6 (variant claim_parts to_claim claim_fields)
in_claim (Claim s e tokens) fits = refl
in_claim _ h = absurd cc

bye_back : (m : Msg) (x : (ℕ × ℕ)) → bye_parts m ≡ Some x → to_bye x ≡ m
bye_back (Bye s e) parts same = ap to_bye (sym (same_some _ parts same))
bye_back _ x e = absurd cc

in_bye : IsMessageTagged 7 (variant bye_parts to_bye bye_fields)
in_bye (Bye s e) fits = refl
in_bye _ h = absurd cc

opened_back : (m : Msg) (x : (Age × (ℕ × ℕ))) → opened_parts m ≡ Some x → to_opened x ≡ m
opened_back (Opened age s e) parts same = ap to_opened (sym (same_some _ parts same))
opened_back _ x e = absurd cc

in_opened : IsMessageTagged 65 (variant opened_parts to_opened opened_fields)
in_opened (Opened age s e) fits = refl
in_opened _ h = absurd cc

grant_back : (m : Msg) (x : (ℕ × (ℕ × (ℕ × (ℕ × (Hold × Image)))))) → grant_parts m ≡ Some x → to_grant x ≡ m
grant_back (Grant s e x n h image) parts same = ap to_grant (sym (same_some _ parts same))
grant_back _ x e = absurd cc

in_grant : IsMessageTagged 66 (variant grant_parts to_grant grant_fields)
in_grant (Grant s e x n h image) fits = refl
in_grant _ h = absurd cc

recall_back : (m : Msg) (x : (ℕ × (ℕ × (ℕ × (ℕ × Hold))))) → recall_parts m ≡ Some x → to_recall x ≡ m
recall_back (Recall s e x n h) parts same = ap to_recall (sym (same_some _ parts same))
recall_back _ x e = absurd cc

in_recall : IsMessageTagged 67 (variant recall_parts to_recall recall_fields)
in_recall (Recall s e x n h) fits = refl
in_recall _ h = absurd cc

kept_back : (m : Msg) (x : (ℕ × (ℕ × ℕ))) → kept_parts m ≡ Some x → to_kept x ≡ m
kept_back (Kept s e b) parts same = ap to_kept (sym (same_some _ parts same))
kept_back _ x e = absurd cc

in_kept : IsMessageTagged 68 (variant kept_parts to_kept kept_fields)
in_kept (Kept s e b) fits = refl
in_kept _ h = absurd cc

ids_back : (m : Msg) (x : (ℕ × (ℕ × (ℕ × (ℕ × ℕ))))) → ids_parts m ≡ Some x → to_ids x ≡ m
ids_back (Ids s e got n x) parts same = ap to_ids (sym (same_some _ parts same))
ids_back _ x e = absurd cc

in_ids : IsMessageTagged 69 (variant ids_parts to_ids ids_fields)
in_ids (Ids s e got n x) fits = refl
in_ids _ h = absurd cc

no_room_back : (m : Msg) (x : (ℕ × (ℕ × (ℕ × (ℕ × ℕ))))) → no_room_parts m ≡ Some x → to_no_room x ≡ m
no_room_back (NoRoom s e ask live reserved) parts same = ap to_no_room (sym (same_some _ parts same))
no_room_back _ x e = absurd cc

in_no_room : IsMessageTagged 70 (variant no_room_parts to_no_room no_room_fields)
in_no_room (NoRoom s e ask live reserved) fits = refl
in_no_room _ h = absurd cc

ended_back : (m : Msg) (x : (ℕ × (ℕ × ℕ))) → ended_parts m ≡ Some x → to_ended x ≡ m
ended_back (Ended s low mask) parts same = ap to_ended (sym (same_some _ parts same))
ended_back _ x e = absurd cc

in_ended : IsMessageTagged 71 (variant ended_parts to_ended ended_fields)
in_ended (Ended s low mask) fits = refl
in_ended _ h = absurd cc

restarted_back : (m : Msg) (x : (ℕ × ℕ)) → restarted_parts m ≡ Some x → to_restarted x ≡ m
restarted_back (Restarted s e) parts same = ap to_restarted (sym (same_some _ parts same))
restarted_back _ x e = absurd cc

in_restarted : IsMessageTagged 72 (variant restarted_parts to_restarted restarted_fields)
in_restarted (Restarted s e) fits = refl
in_restarted _ h = absurd cc

old_boot_back : (m : Msg) (x : (Age × Age)) → old_boot_parts m ≡ Some x → to_old_boot x ≡ m
old_boot_back (OldBoot asked greatest) parts same = ap to_old_boot (sym (same_some _ parts same))
old_boot_back _ x e = absurd cc

in_old_boot : IsMessageTagged 73 (variant old_boot_parts to_old_boot old_boot_fields)
in_old_boot (OldBoot asked greatest) fits = refl
in_old_boot _ h = absurd cc

pub msg_form_is : (b : ℕ) → IsFormat (msg_form b)
unfolding msg_form
msg_form_is b =
    choice_is (eqb b 8) (variant hello_parts to_hello hello_fields) _ (variant_is hello_parts to_hello hello_fields hello-is (λ x. refl) hello_back) (
    choice_is (eqb b 2) (variant want_parts to_want want_fields) _ (variant_is want_parts to_want want_fields want-is (λ x. refl) want_back) (
    choice_is (eqb b 3) (variant back_parts to_back back_fields) _ (variant_is back_parts to_back back_fields back-is (λ x. refl) back_back) (
    choice_is (eqb b 4) (variant flush_parts to_flush flush_fields) _ (variant_is flush_parts to_flush flush_fields flush-is (λ x. refl) flush_back) (
    choice_is (eqb b 5) (variant room_parts to_room room_fields) _ (variant_is room_parts to_room room_fields room-is (λ x. refl) room_back) (
    choice_is (eqb b 6) (variant claim_parts to_claim claim_fields) _ (variant_is claim_parts to_claim claim_fields claim-is (λ x. refl) claim_back) (
    choice_is (eqb b 7) (variant bye_parts to_bye bye_fields) _ (variant_is bye_parts to_bye bye_fields bye-is (λ x. refl) bye_back) (
    choice_is (eqb b 65) (variant opened_parts to_opened opened_fields) _ (variant_is opened_parts to_opened opened_fields opened-is (λ x. refl) opened_back) (
    choice_is (eqb b 66) (variant grant_parts to_grant grant_fields) _ (variant_is grant_parts to_grant grant_fields grant-is (λ x. refl) grant_back) (
    choice_is (eqb b 67) (variant recall_parts to_recall recall_fields) _ (variant_is recall_parts to_recall recall_fields recall-is (λ x. refl) recall_back) (
    choice_is (eqb b 68) (variant kept_parts to_kept kept_fields) _ (variant_is kept_parts to_kept kept_fields kept-is (λ x. refl) kept_back) (
    choice_is (eqb b 69) (variant ids_parts to_ids ids_fields) _ (variant_is ids_parts to_ids ids_fields ids-is (λ x. refl) ids_back) (
    choice_is (eqb b 70) (variant no_room_parts to_no_room no_room_fields) _ (variant_is no_room_parts to_no_room no_room_fields no_room-is (λ x. refl) no_room_back) (
    choice_is (eqb b 71) (variant ended_parts to_ended ended_fields) _ (variant_is ended_parts to_ended ended_fields ended-is (λ x. refl) ended_back) (
    choice_is (eqb b 72) (variant restarted_parts to_restarted restarted_fields) _ (variant_is restarted_parts to_restarted restarted_fields restarted-is (λ x. refl) restarted_back) (
    choice_is (eqb b 73) (variant old_boot_parts to_old_boot old_boot_fields) _ (variant_is old_boot_parts to_old_boot old_boot_fields old_boot-is (λ x. refl) old_boot_back) (
    nothing_is))))))))))))))))

pub msg_form_tags : (b : ℕ) → IsMessageTagged b (msg_form b)
unfolding msg_form
msg_form_tags b =
    msg_tagged_or b 8 (variant hello_parts to_hello hello_fields) _ in_hello (
    msg_tagged_or b 2 (variant want_parts to_want want_fields) _ in_want (
    msg_tagged_or b 3 (variant back_parts to_back back_fields) _ in_back (
    msg_tagged_or b 4 (variant flush_parts to_flush flush_fields) _ in_flush (
    msg_tagged_or b 5 (variant room_parts to_room room_fields) _ in_room (
    msg_tagged_or b 6 (variant claim_parts to_claim claim_fields) _ in_claim (
    msg_tagged_or b 7 (variant bye_parts to_bye bye_fields) _ in_bye (
    msg_tagged_or b 65 (variant opened_parts to_opened opened_fields) _ in_opened (
    msg_tagged_or b 66 (variant grant_parts to_grant grant_fields) _ in_grant (
    msg_tagged_or b 67 (variant recall_parts to_recall recall_fields) _ in_recall (
    msg_tagged_or b 68 (variant kept_parts to_kept kept_fields) _ in_kept (
    msg_tagged_or b 69 (variant ids_parts to_ids ids_fields) _ in_ids (
    msg_tagged_or b 70 (variant no_room_parts to_no_room no_room_fields) _ in_no_room (
    msg_tagged_or b 71 (variant ended_parts to_ended ended_fields) _ in_ended (
    msg_tagged_or b 72 (variant restarted_parts to_restarted restarted_fields) _ in_restarted (
    msg_tagged_or b 73 (variant old_boot_parts to_old_boot old_boot_fields) _ in_old_boot (
    msg_in_nothing b))))))))))))))))

pub msg-is : IsFormat msg_code
unfolding msg_code
msg-is = tagged_is is_kind_byte msg_byte msg_form msg_form_is msg_form_tags
