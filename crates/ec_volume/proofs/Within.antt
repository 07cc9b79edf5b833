-- Updates that fit keep images within the limits.
use Rattle.std.proofs.Common.{◌≡◌, ℕ, suc, ◌+◌, ◌-◌, ◌≤◌, ◌<◌, List, ◌++◌, length, drop, Option, None, Some, Bool, true, false, cond, refl, sym, ap, subst, ◌∙◌, arith}
use Rattle.std.specs.Prelude.{◌==◌, ◌&&◌, ◌||◌, if◌then◌else◌, not, nat_le, nat_lt, T, is_some}
use Rattle.std.specs.Cmp.Lexicographic.{nat_list_cmp_total}
use Rattle.std.specs.FinMap.{is_sorted}
use Rattle.std.specs.FinMap.Entries.{is_sorted-put, is_sorted-where_key, length-put, length_without}
use Rattle.std.proofs.lemmas.Bool.{leb-true, le-leb}
use Rattle.std.proofs.lemmas.List.{length-append, length-take, length-drop, length-replicate}
use Rattle.ec_volume.specs.Entries.{Entries, by_bytes, same_name, entry, with_entry, without_entry}
use Rattle.ec_volume.specs.Image.{is_gone, is_id, lacks, gives, is_bare, is_kind, yields, resized, overwritten, with_bytes, with_entries, with_mode, with_stamp, with_owner, new_object, entries_of}
use Rattle.ec_volume.specs.Update.{is_sound, is_within, fits, effect, has_room, leads, operands, distinct}
use Rattle.ec_volume.specs.Held.{is_held}
use Rattle.ec_volume.specs.declared.image.Kind.{Kind}
use Rattle.ec_volume.specs.declared.image.Kind.TheVariants as kind
use Rattle.ec_volume.specs.declared.image.Image.{Image}
use Rattle.ec_volume.specs.declared.image.Image.TheVariants.{Gone, File, Dir}
use Rattle.ec_volume.specs.declared.update.Update.{Update}
use Rattle.ec_volume.specs.declared.update.Update.TheVariants as update
use Rattle.ec_base.proofs.Bools.{is-true, holds-true, first-of, right-tested}

both : (a b : Bool) → a ≡ true → b ≡ true → (a && b) ≡ true
both a b p q = rw (p, q)

-- Directories.

record Fine (m : ℕ) (es : Entries) : Type 0 where
  mode : m ≤ 4095
  few : length es ≤ 128
  sorted : T (is_sorted by_bytes es)

fine : (m s w : ℕ) (es : Entries) → is_held (Dir m s w es) ≡ true → Fine m es
fine m s w es h = record {
  mode = leb-true _ _ (first-of _ _ (first-of _ _ h));
  few = leb-true _ _ (right-tested _ _ (first-of _ _ h));
  sorted = holds-true _ (right-tested _ _ h);
}

held : (m s w : ℕ) (es : Entries) → Fine m es → is_held (Dir m s w es) ≡ true
held m s w es f = both _ _ (both _ _ (le-leb _ _ f.mode) (le-leb _ _ f.few)) (is-true _ f.sorted)

longer : (es : Entries) (n : List ℕ) (o : ℕ) → T (is_sorted by_bytes es) → length (with_entry es n o) ≤ length es + 1
longer es n o h = subst (λ k. k ≤ length es + 1) (sym (length-put by_bytes nat_list_cmp_total n o es h)) (elim (is_some (entry es n)) as (λ b. cond b (length es) (length es + 1) ≤ length es + 1) [ true ↦ omega arith | false ↦ omega arith ])

as_long : (es : Entries) (n : List ℕ) (o : ℕ) → T (is_sorted by_bytes es) → is_some (entry es n) ≡ true → length (with_entry es n o) ≡ length es
as_long es n o h e = length-put by_bytes nat_list_cmp_total n o es h ∙ ap (λ b. cond b (length es) (length es + 1)) e

shorter : (es : Entries) (n : List ℕ) → T (is_sorted by_bytes es) → length (without_entry es n) ≤ length es
shorter es n h = let k : cond (is_some (entry es n)) 1 0 + length (without_entry es n) ≡ length es = length_without by_bytes nat_list_cmp_total n es h in omega arith

one_less : (es : Entries) (n : List ℕ) → T (is_sorted by_bytes es) → is_some (entry es n) ≡ true → length (without_entry es n) + 1 ≡ length es
one_less es n h e =
    let k : cond (is_some (entry es n)) 1 0 + length (without_entry es n) ≡ length es = length_without by_bytes nat_list_cmp_total n es h in
    let l : 1 + length (without_entry es n) ≡ length es = rw e at k in
    omega arith

is_id_some : (o : ℕ) (f : Option ℕ) → is_id o f ≡ true → is_some f ≡ true
is_id_some o None e = cc
is_id_some o (Some p) e = refl

put_held : (m s w : ℕ) (es : Entries) (n : List ℕ) (o : ℕ) → Fine m es → length (with_entry es n o) ≤ 128 → is_held (Dir m s w (with_entry es n o)) ≡ true
put_held m s w es n o f few = held m s w _ (record { mode = f.mode; few = few; sorted = is_sorted-put by_bytes nat_list_cmp_total n o es f.sorted })

without_held : (n : List ℕ) (i : Image) → is_held i ≡ true → is_held (with_entries (λ es. without_entry es n) i) ≡ true
without_held n Gone h = h
without_held n (File m s w bs) h = h
without_held n (Dir m s w es) h =
    let f = fine m s w es h in
    let k : length (without_entry es n) ≤ length es = shorter es n f.sorted in
    held m s w _ (record { mode = f.mode; few = omega (arith, f.few, k); sorted = is_sorted-where_key by_bytes _ es f.sorted })

make_held : (n : List ℕ) (o : ℕ) (i : Image) → (lacks n i && nat_lt (length (entries_of i)) 128) ≡ true → is_held i ≡ true → is_held (with_entries (λ es. with_entry es n o) i) ≡ true
make_held n o Gone e h = h
make_held n o (File m s w bs) e h = h
make_held n o (Dir m s w es) e h =
    let f = fine m s w es h in
    let k : length (with_entry es n o) ≤ length es + 1 = longer es n o f.sorted in
    let room : length es < 128 = leb-true (suc (length es)) 128 (right-tested (lacks n (Dir m s w es)) (nat_lt (length es) 128) e) in
    put_held m s w es n o f (omega arith)

move_held : (from to : List ℕ) (o p : ℕ) (i : Image) → gives from o i ≡ true → is_held i ≡ true → is_held (with_entries (λ es. with_entry (without_entry es from) to p) i) ≡ true
move_held from to o p Gone e h = h
move_held from to o p (File m s w bs) e h = h
move_held from to o p (Dir m s w es) e h =
    let f = fine m s w es h in
    let left_over = is_sorted-where_key by_bytes (λ n. not (same_name from n)) es f.sorted in
    let k : length (without_entry es from) + 1 ≡ length es = one_less es from f.sorted (is_id_some o (entry es from) e) in
    let l : length (with_entry (without_entry es from) to p) ≤ length (without_entry es from) + 1 = longer (without_entry es from) to p left_over in
    let few : length es ≤ 128 = f.few in
    let k2 : length (without_entry es from) ≤ 128 = omega arith in
    put_held m s w (without_entry es from) to p (record { mode = f.mode; few = k2; sorted = left_over }) (omega arith)

shift_held : (to : List ℕ) (victim : Option ℕ) (p : ℕ) (i : Image) → (yields to victim i && has_room victim i) ≡ true → is_held i ≡ true → is_held (with_entries (λ es. with_entry es to p) i) ≡ true
shift_held to None p i e h = make_held to p i e h
shift_held to (Some t) p Gone e h = h
shift_held to (Some t) p (File m s w bs) e h = h
shift_held to (Some t) p (Dir m s w es) e h =
    let f = fine m s w es h in
    let k : length (with_entry es to p) ≡ length es = as_long es to p f.sorted (is_id_some t (entry es to) (first-of (is_id t (entry es to)) true e)) in
    let few : length es ≤ 128 = f.few in
    put_held m s w es to p f (omega arith)

-- Files.

file_held : (m s w : ℕ) (bs : List ℕ) → m ≤ 4095 → length bs ≤ 65536 → is_held (File m s w bs) ≡ true
file_held m s w bs p q = both _ _ (le-leb _ _ p) (le-leb _ _ q)

resized_len : (n : ℕ) (bs : List ℕ) → length (resized n bs) ≡ n
resized_len n bs = simp (length-append, length-take, length-replicate) (omega arith)

overwritten_len : (at : ℕ) (new bs : List ℕ) → length (overwritten at new bs) ≡ at + length new + (length bs - (at + length new))
overwritten_len at new bs =
    length-append (resized at bs ++ new) (drop (at + length new) bs)
    ∙ ap (λ n. n + length (drop (at + length new) bs)) (length-append (resized at bs) new ∙ ap (λ n. n + length new) (resized_len at bs))
    ∙ ap (λ n. at + length new + n) (length-drop (at + length new) bs)

put_bytes_held : (at : ℕ) (new : List ℕ) (i : Image) → at + length new ≤ 65536 → is_held i ≡ true → is_held (with_bytes (overwritten at new) i) ≡ true
put_bytes_held at new Gone e h = h
put_bytes_held at new (Dir m s w es) e h = h
put_bytes_held at new (File m s w bs) e h =
    let few : length bs ≤ 65536 = leb-true (length bs) 65536 (right-tested (nat_le m 4095) (nat_le (length bs) 65536) h) in
    let k : length (overwritten at new bs) ≡ at + length new + (length bs - (at + length new)) = overwritten_len at new bs in
    file_held m s w _ (leb-true _ _ (first-of _ _ h)) (omega arith)

len_held : (n : ℕ) (i : Image) → n ≤ 65536 → is_held i ≡ true → is_held (with_bytes (resized n) i) ≡ true
len_held n Gone e h = h
len_held n (Dir m s w es) e h = h
len_held n (File m s w bs) e h = file_held m s w _ (leb-true _ _ (first-of _ _ h)) (rw (resized_len n bs) e)

mode_held : (n : ℕ) (i : Image) → n ≤ 4095 → is_held i ≡ true → is_held (with_mode n i) ≡ true
mode_held n Gone e h = h
mode_held n (File m s w bs) e h = file_held n s w bs e (leb-true _ _ (right-tested _ _ h))
mode_held n (Dir m s w es) e h = let f = fine m s w es h in held n s w es (record { mode = e; few = f.few; sorted = f.sorted })

stamp_held : (n : ℕ) (i : Image) → is_held i ≡ true → is_held (with_stamp n i) ≡ true
stamp_held n Gone h = h
stamp_held n (File m s w bs) h = h
stamp_held n (Dir m s w es) h = h

owner_held : (n : ℕ) (i : Image) → is_held i ≡ true → is_held (with_owner n i) ≡ true
owner_held n Gone h = h
owner_held n (File m s w bs) h = h
owner_held n (Dir m s w es) h = h

pub new_held : (k : Kind) → is_held (new_object k) ≡ true
new_held kind.File = refl
new_held kind.Dir = refl

-- What each form makes of an operand.

not_gone : (P : Type 0) → is_gone Gone ≡ false → P
not_gone P e = absurd (let t : true ≡ false = e in cc)

make_case : (b : Bool) (n : List ℕ) (o : ℕ) (k : Kind) (i : Image) → (if b then (lacks n i && nat_lt (length (entries_of i)) 128) else is_gone i) ≡ true → is_held i ≡ true
    → is_held (if b then with_entries (λ es. with_entry es n o) i else new_object k) ≡ true
make_case true n o k i f h = make_held n o i f h
make_case false n o k i f h = new_held k

drop_case : (b : Bool) (n : List ℕ) (i : Image) → is_held i ≡ true → is_gone (if b then with_entries (λ es. without_entry es n) i else Gone) ≡ false
    → is_held (if b then with_entries (λ es. without_entry es n) i else Gone) ≡ true
drop_case true n i h g = without_held n i h
drop_case false n i h g = not_gone _ g

move_case : (a b x y : Bool) (from to : List ℕ) (o : ℕ) (i : Image) → (if a then (gives from o i && x) else y) ≡ true → is_held i ≡ true
    → is_gone (if a then with_entries (λ es. with_entry (without_entry es from) to o) i else (if b then i else Gone)) ≡ false
    → is_held (if a then with_entries (λ es. with_entry (without_entry es from) to o) i else (if b then i else Gone)) ≡ true
move_case true b x y from to o i f h g = move_held from to o o i (first-of _ _ f) h
move_case false true x y from to o i f h g = h
move_case false false x y from to o i f h g = not_gone _ g

shift_case : (a b c x y : Bool) (from to : List ℕ) (victim : Option ℕ) (o : ℕ) (i : Image) → (if a then x else if b then (yields to victim i && has_room victim i) else y) ≡ true → is_held i ≡ true
    → is_gone (if a then with_entries (λ es. without_entry es from) i else if b then with_entries (λ es. with_entry es to o) i else if c then Gone else i) ≡ false
    → is_held (if a then with_entries (λ es. without_entry es from) i else if b then with_entries (λ es. with_entry es to o) i else if c then Gone else i) ≡ true
shift_case true b c x y from to victim o i f h g = without_held from i h
shift_case false true c x y from to victim o i f h g = shift_held to victim o i f h
shift_case false false true x y from to victim o i f h g = not_gone _ g
shift_case false false false x y from to victim o i f h g = h

within : (u : Update) → T (is_sound u) → is_within u ≡ true
within u s = right-tested (distinct (operands u)) (is_within u) (is-true (is_sound u) s)

pub effect_held : (u : Update) (o : ℕ) (i : Image) → T (is_sound u) → fits u o i ≡ true → is_held i ≡ true → is_gone (effect u o i) ≡ false → is_held (effect u o i) ≡ true
effect_held (update.Make dir name obj k) o i s f h g = make_case (o == dir) name obj k i f h
effect_held (update.Drop dir name obj k) o i s f h g = drop_case (o == dir) name i h g
effect_held (update.Move dir from to obj k victim) o i s f h g = move_case (o == dir) (o == obj) (yields to victim i) (if o == obj then is_kind k i else is_bare k i) from to obj i f h g
effect_held (update.Put obj at bytes inside) o i s f h g =
    put_bytes_held at bytes i (leb-true (at + length bytes) 65536 (right-tested (nat_le 1 (length bytes) && nat_le (length bytes) 4096) (nat_le (at + length bytes) 65536) (within (update.Put obj at bytes inside) s))) h
effect_held (update.Len obj len) o i s f h g = len_held len i (leb-true len 65536 (within (update.Len obj len) s)) h
effect_held (update.Mode obj mode) o i s f h g = mode_held mode i (leb-true mode 4095 (within (update.Mode obj mode) s)) h
effect_held (update.Stamp obj stamp) o i s f h g = stamp_held stamp i h
effect_held (update.Order objs) o i s f h g = h
effect_held (update.Shift dir from into to obj k victim up) o i s f h g =
    shift_case (o == dir) (o == into) (is_id o victim) (gives from obj i) (if o == obj then is_kind k i else (not (is_id o victim) || is_bare k i)) from to victim obj i (right-tested (leads up into o i) _ f) h g
effect_held (update.Owner obj owner) o i s f h g = owner_held owner i h
