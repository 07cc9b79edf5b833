-- The root and the ids in all entries are the live ones, each once, exactly where the volume is well formed.
use Rattle.std.proofs.Common.{◌≡◌, ◌≢◌, ◌==◌, ℕ, zero, suc, ◌+◌, ◌<◌, ◌≤◌, Bool, true, false, not, cond, if◌then◌else◌, ◌&&◌, List, [], ◌∷◌, ◌++◌, Option, None, Some, T, refl, sym, ap, subst, ◌∙◌, arith, inl, inr}
use Rattle.std.specs.Prelude.{nat_le, slice_get, length}
use Rattle.std.specs.List.{list_all}
use Rattle.std.specs.Ordering.{nat_cmp, is_eq}
use Rattle.std.specs.Cmp.Lexicographic.{nat_list_cmp_total}
use Rattle.std.specs.FinMap.{is_sorted, nat_cmp-IsAntisymmetric, slice_cmp-IsAntisymmetric}
use Rattle.std.specs.FinMap.Entries.{below_all}
use Rattle.std.specs.declared.cmp.Ordering.{Ordering}
use Rattle.std.specs.declared.cmp.Ordering.TheVariants.{Less, Equal, Greater}
use Rattle.std.proofs.lemmas.Bool.{and_parts, cases_Bool, cases_eq, cases_lt, eqb-true, eqb-false, eq-eqb, ne_eqb}
use Rattle.ec_base.specs.SortedLaws.{first, second, both, found_at, none_below}
use Rattle.ec_base.specs.Tables.{keys}
use Rattle.ec_volume.specs.Entries.{Entries, by_bytes, entry}
use Rattle.ec_volume.specs.Held.{IsVolume, is_held}
use Rattle.ec_volume.specs.Image.{is_gone, is_dir, entries_of}
use Rattle.ec_volume.specs.Update.{root, distinct}
use Rattle.ec_volume.specs.Volume.{images, Names}
use Rattle.ec_volume.specs.Volume as volume
use Rattle.ec_volume.specs.declared.image.Image.{Image}
use Rattle.ec_volume.specs.declared.image.Image.TheVariants.{Gone, File, Dir}
use Rattle.ec_volume.proofs.Held.{image_held}
use Rattle.ec_codes.specs.Images.{ids_under}
use Rattle.ec_codes.specs.SoundImages.{is_sound_image}
use Rattle.ec_sessions.specs.WindowMarks.{times}
use Rattle.ec_sessions.specs.IdLaws.{times-append}
use Rattle.ec_durable.proofs.Counts.{here, there, more, once_apart, apart_once}
use Rattle.ec_durable.proofs.Live.{live_count}
use Rattle.ec_durable.specs.OfWellFormed.WellFormed.{named_ids, AreNamedOnce, IsTree}
use Rattle.ec_base.proofs.Bools.{no-longer, as_one, is-true as is_true, holds-true as told}

opposite : (b : Bool) → b ≡ true → b ≡ false → ⊥
opposite true t f = absurd cc
opposite false t f = absurd cc

one_at_most : (b : Bool) → as_one b ≤ 1
one_at_most true = omega arith
one_at_most false = omega arith

-- Entries.

same_name-is : (m n : List ℕ) → is_eq (by_bytes m n) ≡ true → m ≡ n
same_name-is m n h = slice_cmp-IsAntisymmetric nat_cmp-IsAntisymmetric m n (equal (by_bytes m n) h)
  where
    equal : (r : Ordering) → is_eq r ≡ true → r ≡ Equal
    equal Less h = absurd cc
    equal Equal h = refl
    equal Greater h = absurd cc

entry_times : (es : Entries) (n : List ℕ) (o : ℕ) → entry es n ≡ Some o → 1 ≤ times o (ids_under es)
entry_times [] n o is = absurd cc
entry_times (e ∷ es) n o is = go (is_eq (by_bytes n e.0)) is (entry_times es n o)
  where
    go : (b : Bool) → cond b (Some e.1) (entry es n) ≡ Some o → (entry es n ≡ Some o → 1 ≤ times o (ids_under es)) → 1 ≤ times o (e.1 ∷ ids_under es)
    go true p rec = omega (arith, here o e.1 (ids_under es) (some_is e.1 o p))
      where
        some_is : (x y : ℕ) → ◌≡◌ {A = Option ℕ} (Some x) (Some y) → x ≡ y
        some_is x y h = cc
    go false p rec = omega (arith, rec p, more o e.1 (ids_under es))

entry_once : (es : Entries) (m n : List ℕ) (o : ℕ) → times o (ids_under es) ≤ 1 → entry es m ≡ Some o → entry es n ≡ Some o → m ≡ n
entry_once [] m n o once p q = absurd cc
entry_once (e ∷ es) m n o once p q = go (is_eq (by_bytes m e.0)) refl p (is_eq (by_bytes n e.0)) refl q (λ h k. entry_once es m n o (omega (arith, once, more o e.1 (ids_under es))) h k)
  where
    some_is : (x y : ℕ) → ◌≡◌ {A = Option ℕ} (Some x) (Some y) → x ≡ y
    some_is x y h = cc

    go : (a : Bool) → is_eq (by_bytes m e.0) ≡ a → cond a (Some e.1) (entry es m) ≡ Some o → (b : Bool) → is_eq (by_bytes n e.0) ≡ b → cond b (Some e.1) (entry es n) ≡ Some o → (entry es m ≡ Some o → entry es n ≡ Some o → m ≡ n) → m ≡ n
    go true a h true b k rec = same_name-is m e.0 a ∙ sym (same_name-is n e.0 b)
    go true a h false b k rec = absurd (omega (arith, once, here o e.1 (ids_under es) (some_is e.1 o h), entry_times es n o k))
    go false a h true b k rec = absurd (omega (arith, once, here o e.1 (ids_under es) (some_is e.1 o k), entry_times es m o h))
    go false a h false b k rec = rec h k

entry_at : (es : Entries) (o : ℕ) → 1 ≤ times o (ids_under es) → (i : ℕ) × (n : List ℕ) × (slice_get es i ≡ Some (n, o))
entry_at [] o h = absurd (omega (arith, h))
entry_at (e ∷ es) o h = elim (cases_eq e.1 o) [
  | inl s ↦ (0, e.0, ap (λ (x : ℕ). Some (e.0, x)) s)
  | inr d ↦ let rec = entry_at es o (omega (arith, h, there o e.1 (ids_under es) d)) in (suc rec.0, rec.1, rec.2)
]

entry_find : (es : Entries) (o : ℕ) → T (is_sorted by_bytes es) → 1 ≤ times o (ids_under es) → (n : List ℕ) × (entry es n ≡ Some o)
entry_find es o sorted h = let it = entry_at es o h in (it.1, found_at by_bytes nat_list_cmp_total es it.0 (it.1, o) sorted it.2)

-- an id that stands in one entry alone is counted once
counted_once : (es : Entries) (o : ℕ) → T (is_sorted by_bytes es) → ((i j : ℕ) (m n : List ℕ) → slice_get es i ≡ Some (m, o) → slice_get es j ≡ Some (n, o) → m ≡ n) → times o (ids_under es) ≤ 1
counted_once [] o s once = omega arith
counted_once (e ∷ es) o s once = elim (cases_eq e.1 o) [
  | inr d ↦ let rest = counted_once es o (second _ _ s) (λ i j m n p q. once (suc i) (suc j) m n p q) in omega (arith, rest, there o e.1 (ids_under es) d)
  | inl is ↦ elim (cases_lt 0 (times o (ids_under es))) [
    | inr none ↦ omega (arith, none, here o e.1 (ids_under es) is)
    | inl some ↦
        let it = entry_at es o (omega (arith, some)) in
        let same : e.0 ≡ it.1 = once 0 (suc it.0) e.0 it.1 (ap (λ (x : ℕ). Some (e.0, x)) is) it.2 in
        let found : entry es it.1 ≡ Some o = found_at by_bytes nat_list_cmp_total es it.0 (it.1, o) (second _ _ s) it.2 in
        let there : entry es e.0 ≡ Some o = subst (λ n. entry es n ≡ Some o) (sym same) found in
        let missing : entry es e.0 ≡ None = none_below by_bytes e.0 es (first _ _ s) in
        absurd (some_none (sym there ∙ missing))
  ]
]
  where
    some_none : ◌≡◌ {A = Option ℕ} (Some o) None → ⊥
    some_none h = cc

-- Images.

held_sorted : (i : Image) → is_held i ≡ true → T (is_sorted by_bytes (entries_of i))
held_sorted Gone h = tt
held_sorted (File m s w bs) h = tt
held_sorted (Dir m s w es) h = told (is_sorted by_bytes es) (and_parts (nat_le m 4095 && nat_le (length es) 128) (is_sorted by_bytes es) h).1

sound_once : (i : Image) (o : ℕ) → is_sound_image i ≡ true → times o (ids_under (entries_of i)) ≤ 1
sound_once Gone o h = omega arith
sound_once (File m s w bs) o h = omega arith
sound_once (Dir m s w es) o h = once_apart (ids_under es) (told (distinct (ids_under es)) (and_parts (nat_le m 4095 && nat_le (length es) 128) (distinct (ids_under es)) h).1) o

named_live : (i : Image) (n : List ℕ) (o : ℕ) → entry (entries_of i) n ≡ Some o → is_gone i ≡ false
named_live Gone n o h = absurd cc
named_live (File m s w bs) n o h = refl
named_live (Dir m s w es) n o h = refl

dir_live : (i : Image) → is_dir i ≡ true → is_gone i ≡ false
dir_live Gone h = absurd cc
dir_live (File m s w bs) h = refl
dir_live (Dir m s w es) h = refl

right_here : (e : ℕ × Image) (es : List (ℕ × Image)) → images (e ∷ es) e.0 ≡ e.1
right_here e es = ap (λ (b : Bool). if b then e.1 else images es e.0) (eq-eqb e.0 e.0 refl)

elsewhere : (e : ℕ × Image) (es : List (ℕ × Image)) (d : ℕ) → (d ≡ e.0 → ⊥) → images (e ∷ es) d ≡ images es d
elsewhere e es d n = ap (λ (b : Bool). if b then e.1 else images es d) (ne_eqb d e.0 n)

rest_of : (e : ℕ × Image) (es : List (ℕ × Image)) → IsVolume (e ∷ es) → IsVolume es
rest_of e es v = record { sorted = second (below_all nat_cmp e.0 es) (is_sorted nat_cmp es) v.sorted; held = second (is_held e.1) (list_all (λ x. is_held x.1) es) v.held }

key_live : (es : List (ℕ × Image)) (o : ℕ) → IsVolume es → is_gone (images es o) ≡ false → times o (keys es) ≡ 1
key_live es o v live = live_count es v o ∙ ap (λ (b : Bool). as_one (not b)) live

key_once : (es : List (ℕ × Image)) (o : ℕ) → IsVolume es → times o (keys es) ≤ 1
key_once es o v = omega (arith, live_count es v o, one_at_most (not (is_gone (images es o))))

names_key : (es : List (ℕ × Image)) (d : ℕ) (n : List ℕ) (o : ℕ) → IsVolume es → Names (images es) d n o → times d (keys es) ≡ 1
names_key es d n o v names = key_live es d v (named_live (images es d) n o names)

-- a name in a later directory
names_later : (e : ℕ × Image) (es : List (ℕ × Image)) (d : ℕ) (n : List ℕ) (o : ℕ) → IsVolume (e ∷ es) → Names (images es) d n o → (d ≡ e.0 → ⊥) × Names (images (e ∷ es)) d n o
names_later e es d n o v names =
    let apart : d ≡ e.0 → ⊥ = λ s. absurd (omega (arith, names_key es d n o (rest_of e es v) names, here d e.0 (keys es) (sym s), key_once (e ∷ es) d v)) in
    (apart, subst (λ i. entry (entries_of i) n ≡ Some o) (sym (elsewhere e es d apart)) names)

-- Names and ids in entries.

named_times : (es : List (ℕ × Image)) (d : ℕ) (n : List ℕ) (o : ℕ) → Names (images es) d n o → 1 ≤ times o (named_ids es)
named_times [] d n o names = absurd cc
named_times (e ∷ es) d n o names = go (d == e.0) names (named_times es d n o)
  where
    go : (b : Bool) → entry (entries_of (if b then e.1 else images es d)) n ≡ Some o → (Names (images es) d n o → 1 ≤ times o (named_ids es)) → 1 ≤ times o (ids_under (entries_of e.1) ++ named_ids es)
    go true p rec = omega (arith, entry_times (entries_of e.1) n o p, times-append o (ids_under (entries_of e.1)) (named_ids es))
    go false p rec = omega (arith, rec p, times-append o (ids_under (entries_of e.1)) (named_ids es))

named_find : (es : List (ℕ × Image)) (o : ℕ) → IsVolume es → 1 ≤ times o (named_ids es) → (d : ℕ) × (n : List ℕ) × Names (images es) d n o
named_find [] o v h = absurd (omega (arith, h))
named_find (e ∷ es) o v h = elim (cases_lt 0 (times o (ids_under (entries_of e.1)))) [
  | inl lt ↦
      let it = entry_find (entries_of e.1) o (held_sorted e.1 (is_true (is_held e.1) (first (is_held e.1) (list_all (λ x. is_held x.1) es) v.held))) (omega (arith, lt)) in
      (e.0, it.0, subst (λ i. entry (entries_of i) it.0 ≡ Some o) (sym (right_here e es)) it.1)
  | inr le ↦
      let rec = named_find es o (rest_of e es v) (omega (arith, h, le, times-append o (ids_under (entries_of e.1)) (named_ids es))) in
      (rec.0, rec.1, (names_later e es rec.0 rec.1 o v rec.2).1)
]

once_named : (es : List (ℕ × Image)) (o d f : ℕ) (m n : List ℕ) → times o (named_ids es) ≤ 1 → Names (images es) d m o → Names (images es) f n o → (d ≡ f) × (m ≡ n)
once_named [] o d f m n once p q = absurd cc
once_named (e ∷ es) o d f m n once p q = go (d == e.0) refl p (f == e.0) refl q (once_named es o d f m n)
  where
    sum : times o (ids_under (entries_of e.1)) + times o (named_ids es) ≤ 1
    sum = omega (arith, once, times-append o (ids_under (entries_of e.1)) (named_ids es))

    go : (a : Bool) → (d == e.0) ≡ a → entry (entries_of (if a then e.1 else images es d)) m ≡ Some o → (b : Bool) → (f == e.0) ≡ b → entry (entries_of (if b then e.1 else images es f)) n ≡ Some o
        → (times o (named_ids es) ≤ 1 → Names (images es) d m o → Names (images es) f n o → (d ≡ f) × (m ≡ n)) → (d ≡ f) × (m ≡ n)
    go true a h true b k rec = (eqb-true d e.0 a ∙ sym (eqb-true f e.0 b), entry_once (entries_of e.1) m n o (omega (arith, sum)) h k)
    go true a h false b k rec = absurd (omega (arith, sum, entry_times (entries_of e.1) m o h, named_times es f n o k))
    go false a h true b k rec = absurd (omega (arith, sum, entry_times (entries_of e.1) n o k, named_times es d m o h))
    go false a h false b k rec = rec (omega (arith, sum)) h k

-- where each id of an image stands in one entry alone, no id stands twice
held_sound : (i : Image) → is_held i ≡ true → ((o : ℕ) (m n : List ℕ) → entry (entries_of i) m ≡ Some o → entry (entries_of i) n ≡ Some o → m ≡ n) → is_sound_image i ≡ true
held_sound Gone h once = refl
held_sound (File m s w bs) h once = h
held_sound (Dir m s w es) h once =
    let parts = and_parts (nat_le m 4095 && nat_le (length es) 128) (is_sorted by_bytes es) h in
    let sorted = told (is_sorted by_bytes es) parts.1 in
    let found : (i o : ℕ) (n : List ℕ) → slice_get es i ≡ Some (n, o) → entry es n ≡ Some o = λ i o n is. found_at by_bytes nat_list_cmp_total es i (n, o) sorted is in
    let apart = apart_once (ids_under es) (λ o. counted_once es o sorted (λ i j m n p q. once o m n (found i o m p) (found j o n q))) in
    both_true (nat_le m 4095 && nat_le (length es) 128) (distinct (ids_under es)) parts.0 (is_true (distinct (ids_under es)) apart)
  where
    both_true : (a b : Bool) → a ≡ true → b ≡ true → (a && b) ≡ true
    both_true true b p q = q
    both_true false b p q = absurd cc

all_sound : (es : List (ℕ × Image)) → IsVolume es → ((o d : ℕ) (m n : List ℕ) → Names (images es) d m o → Names (images es) d n o → m ≡ n) → list_all (λ e. is_sound_image e.1) es ≡ true
all_sound [] v once = refl
all_sound (e ∷ es) v once =
    let here : (n : List ℕ) (o : ℕ) → entry (entries_of e.1) n ≡ Some o → Names (images (e ∷ es)) e.0 n o = λ n o p. subst (λ i. entry (entries_of i) n ≡ Some o) (sym (right_here e es)) p in
    let one = held_sound e.1 (is_true (is_held e.1) (first (is_held e.1) (list_all (λ x. is_held x.1) es) v.held)) (λ o m n p q. once o e.0 m n (here m o p) (here n o q)) in
    let rest = all_sound es (rest_of e es v) (λ o d m n p q. once o d m n (names_later e es d m o v p).1 (names_later e es d n o v q).1) in
    both_true (is_sound_image e.1) (list_all (λ x. is_sound_image x.1) es) one rest
  where
    both_true : (a b : Bool) → a ≡ true → b ≡ true → (a && b) ≡ true
    both_true true b p q = q
    both_true false b p q = absurd cc

-- where no id stands in two directories
named_once : (es : List (ℕ × Image)) (o : ℕ) → IsVolume es → list_all (λ e. is_sound_image e.1) es ≡ true → ((d f : ℕ) (m n : List ℕ) → Names (images es) d m o → Names (images es) f n o → d ≡ f) → times o (named_ids es) ≤ 1
named_once [] o v sound once = omega arith
named_once (e ∷ es) o v sound once =
    let parts = and_parts (is_sound_image e.1) (list_all (λ x. is_sound_image x.1) es) sound in
    let later = named_once es o (rest_of e es v) parts.1 (λ d f m n p q. once d f m n (names_later e es d m o v p).1 (names_later e es f n o v q).1) in
    elim (cases_lt 0 (times o (ids_under (entries_of e.1)))) [
      | inr le ↦ omega (arith, le, later, times-append o (ids_under (entries_of e.1)) (named_ids es))
      | inl lt ↦ elim (cases_lt 0 (times o (named_ids es))) [
        | inr none ↦ omega (arith, none, sound_once e.1 o parts.0, times-append o (ids_under (entries_of e.1)) (named_ids es))
        | inl some ↦
            let one = entry_find (entries_of e.1) o (held_sorted e.1 (is_true (is_held e.1) (first (is_held e.1) (list_all (λ x. is_held x.1) es) v.held))) (omega (arith, lt)) in
            let two = named_find es o (rest_of e es v) (omega (arith, some)) in
            let far = names_later e es two.0 two.1 o v two.2 in
            absurd (far.0 (once two.0 e.0 two.1 one.0 far.1 (subst (λ i. entry (entries_of i) one.0 ≡ Some o) (sym (right_here e es)) one.1)))
      ]
    ]

-- The tree.

with_root : (n : ℕ) (es : List (ℕ × Image)) → times n (named_ids es ++ root ∷ []) ≡ times n (named_ids es) + times n (root ∷ [])
with_root n es = times-append n (named_ids es) (root ∷ [])

entries_sorted : (i : Image) → (is_gone i ≡ false → is_held i ≡ true) → T (is_sorted by_bytes (entries_of i))
entries_sorted Gone h = tt
entries_sorted (File m s w bs) h = tt
entries_sorted (Dir m s w es) h = held_sorted (Dir m s w es) (h refl)

lives : (b : Bool) → b ≡ false → T (not b)
lives true h = absurd cc
lives false h = tt

pub tree_formed : (es : List (ℕ × Image)) → T (is_sorted nat_cmp es) → IsTree es → volume.WellFormed (images es) × IsVolume es
tree_formed es sorted tree = (formed, v)
  where
    v : IsVolume es
    v = record { sorted = sorted; held = told (list_all (λ e. is_held e.1) es) tree.held }

    once : (o : ℕ) → times o (named_ids es) ≤ 1
    once o = omega (arith, with_root o es, tree.named o, key_once es o v)

    live_named : (o : ℕ) → 1 ≤ times o (named_ids es) → is_gone (images es o) ≡ false
    live_named o h = elim (cases_Bool (is_gone (images es o))) [
      | inl gone ↦ absurd (omega (arith, h, with_root o es, tree.named o, live_count es v o ∙ ap (λ (b : Bool). as_one (not b)) gone))
      | inr live ↦ live
    ]

    formed : volume.WellFormed (images es)
    formed = record {
      maps = λ d. entries_sorted (images es d) (λ live. image_held es d v live);
      root_is_dir = told (is_dir (images es root)) tree.root_is_dir;
      root_unnamed = λ d n names. omega (arith, named_times es d n root names, with_root root es, here root root [] refl, tree.named root, key_once es root v);
      named = λ o live other.
          named_find es o v (omega (arith, with_root o es, there o root [] (λ s. other (sym s)), tree.named o, key_live es o v (no-longer (is_gone (images es o)) live)));
      once = λ o d f m n p q. once_named es o d f m n (once o) p q;
      live = λ o d n names. lives (is_gone (images es o)) (live_named o (named_times es d n o names));
    }

pub formed_tree : (es : List (ℕ × Image)) → volume.WellFormed (images es) → IsVolume es → IsTree es
formed_tree es w v = record {
  root_is_dir = is_true (is_dir (images es root)) w.root_is_dir;
  held = is_true (list_all (λ e. is_held e.1) es) v.held;
  named = λ n. elim (cases_eq root n) [ inl s ↦ at_root n s | inr d ↦ other n d ];
}
  where
    sound : list_all (λ e. is_sound_image e.1) es ≡ true
    sound = all_sound es v (λ o d m n p q. (w.once o d d m n p q).1)

    at_root : (n : ℕ) → root ≡ n → times n (named_ids es ++ root ∷ []) ≡ times n (keys es)
    at_root n s =
        let none : times n (named_ids es) ≤ 0 = elim (cases_lt 0 (times n (named_ids es))) [
          | inl lt ↦ let it = named_find es n v (omega (arith, lt)) in absurd (w.root_unnamed it.0 it.1 (subst (λ o. Names (images es) it.0 it.1 o) (sym s) it.2))
          | inr le ↦ le
        ] in
        omega (arith, none, with_root n es, here n root [] s, key_live es n v (subst (λ o. is_gone (images es o) ≡ false) s (dir_live (images es root) (is_true (is_dir (images es root)) w.root_is_dir))))

    other : (n : ℕ) → (root ≡ n → ⊥) → times n (named_ids es ++ root ∷ []) ≡ times n (keys es)
    other n d = elim (cases_Bool (is_gone (images es n))) [
      | inl gone ↦
          let none : times n (named_ids es) ≤ 0 = elim (cases_lt 0 (times n (named_ids es))) [
            | inl lt ↦ let it = named_find es n v (omega (arith, lt)) in absurd (opposite (is_gone (images es n)) gone (no-longer (is_gone (images es n)) (w.live n it.0 it.1 it.2)))
            | inr le ↦ le
          ] in
          omega (arith, none, with_root n es, there n root [] d, live_count es v n ∙ ap (λ (b : Bool). as_one (not b)) gone)
      | inr live ↦
          let names = w.named n (lives (is_gone (images es n)) live) (λ s. d (sym s)) in
          omega (arith, named_times es names.0 names.1 n names.2, named_once es n v sound (λ e f m k p q. (w.once n e f m k p q).0), with_root n es, there n root [] d, key_live es n v live)
    ]

-- Of a volume.

pub volume_formed : (es : List (ℕ × Image)) → IsVolume es → is_dir (images es root) ≡ true → AreNamedOnce es → volume.WellFormed (images es)
volume_formed es v is named = (tree_formed es v.sorted (record { root_is_dir = is; held = is_true (list_all (λ e. is_held e.1) es) v.held; named = named })).0

pub formed_named : (es : List (ℕ × Image)) → IsVolume es → volume.WellFormed (images es) → AreNamedOnce es
formed_named es v w = (formed_tree es w v).named
