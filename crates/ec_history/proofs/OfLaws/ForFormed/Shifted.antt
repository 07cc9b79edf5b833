-- A Shift that is sound and fits.
use Rattle.std.proofs.Common.{◌≡◌, refl, sym, ap, subst, ◌∙◌, inl, inr, ℕ, T, Bool, true, false, not, ◌==◌, ◌&&◌, ◌||◌, cond, List, [], ◌∷◌, ◌++◌, Option, Some, None}
use Rattle.std.proofs.lemmas.Bool.{cases_Bool, eqb-true, true≢false}
use Rattle.std.specs.List.{filter}
use Rattle.std.specs.FinMap.{is_sorted}
use Rattle.ec_volume.specs.Entries.{Entries, by_bytes, same_name, entry, with_entry, without_entry}
use Rattle.ec_volume.specs.Image.{is_gone, is_dir, is_id, is_kind, is_bare, gives, yields, entries_of, with_entries}
use Rattle.ec_volume.specs.Update.{Above, ids_of, root, distinct, member, listed, leads, has_room, operands, is_sound, is_within}
use Rattle.ec_volume.specs.Volume.{Images, Names, after, Fits, WellFormed}
use Rattle.ec_volume.specs.declared.image.Image.{Image}
use Rattle.ec_volume.specs.declared.image.Image.TheVariants.{Gone, File, Dir}
use Rattle.ec_volume.specs.declared.image.Kind.{Kind}
use Rattle.ec_volume.specs.declared.update.Update.TheVariants.{Shift}
use Rattle.ec_history.proofs.OfLaws.ForFormed.Apart.{apart, member-first, member-next, distinct-rest, victim-member, gives-is, gives-dir, yields-is, yields-dir}
use Rattle.ec_history.proofs.OfLaws.ForFormed.Carried.{carried}
use Rattle.ec_history.proofs.OfLaws.ForFormed.Change.{Change, New, Stay}
use Rattle.ec_history.proofs.OfLaws.ForFormed.Entries.{id-is, id-from, found-with, found-without, sorted-with, sorted-without, entries-with, dir-with, gone-with, entries-bare}
use Rattle.ec_base.proofs.Numbers.{same-self as same_number}
use Rattle.ec_base.proofs.Bools.{first as left, right, on as holds}

-- The image of an object, by whether it is the first directory (a), the second one (b), the object that moves (c), another operand (m) and the victim (e).
module _ (dir : ℕ) (from : List ℕ) (into : ℕ) (to : List ℕ) (obj : ℕ) (k : Kind) (victim : Option ℕ) where
  abbrev takes : Entries → Entries
  takes es = without_entry es from

  abbrev adds : Entries → Entries
  adds es = with_entry es to obj

  abbrev image : (a b c m e : Bool) → Image → Image
  image a b c m e i = cond (a || (b || (c || m))) (cond a (with_entries takes i) (cond b (with_entries adds i) (cond e Gone i))) i

  abbrev part_fits : (a b c e : Bool) → Image → Bool
  part_fits a b c e i = cond a (gives from obj i) (cond b (yields to victim i && has_room victim i) (cond c (is_kind k i) (not e || is_bare k i)))

  abbrev does_fit : (a b c m e l : Bool) → Image → Bool
  does_fit a b c m e l i = (not (a || (b || (c || m))) || (l && part_fits a b c e i)) && true

  taken : (b c m e l : Bool) (i : Image) → T (does_fit true b c m e l i) → T (gives from obj i)
  taken b c m e l i h = right l (gives from obj i) (left (l && gives from obj i) true h)

  added : (c m e l : Bool) (i : Image) → T (does_fit false true c m e l i) → T (yields to victim i)
  added c m e l i h = left (yields to victim i) (has_room victim i) (right l (yields to victim i && has_room victim i) (left (l && (yields to victim i && has_room victim i)) true h))

  bare : (l : Bool) (i : Image) → T (does_fit false false false true true l i) → T (is_bare k i)
  bare l i h = right l (is_bare k i) (left (l && is_bare k i) true h)

  found : (a b c m e l : Bool) (i : Image) → (a ≡ true → b ≡ false) → (e ≡ true → c ≡ false) → T (does_fit a b c m e l i) → (n : List ℕ)
      → entry (entries_of (image a b c m e i)) n ≡ cond (b && same_name n to) (Some obj) (cond (a && same_name n from) None (entry (entries_of i) n))
  found true true c m e l i x y h n = absurd (true≢false (x refl))
  found true false c m e l i x y h n = ap (λ es. entry es n) (entries-with takes i (gives-dir from obj i (taken false c m e l i h))) ∙ found-without (entries_of i) from n
  found false true c m e l i x y h n = ap (λ es. entry es n) (entries-with adds i (yields-dir to victim i (added c m e l i h))) ∙ found-with (entries_of i) to obj n
  found false false true m true l i x y h n = absurd (true≢false (y refl))
  found false false true m false l i x y h n = refl
  found false false false true true l i x y h n = ap (λ es. entry es n) (sym (entries-bare k i (bare l i h)))
  found false false false true false l i x y h n = refl
  found false false false false e l i x y h n = refl

  sorted-by : (g : Entries → Entries) → ((es : Entries) → T (is_sorted by_bytes es) → T (is_sorted by_bytes (g es))) → (i : Image) → T (is_sorted by_bytes (entries_of i)) → T (is_sorted by_bytes (entries_of (with_entries g i)))
  sorted-by g s Gone t = t
  sorted-by g s (File m r w bs) t = t
  sorted-by g s (Dir m r w es) t = s es t

  sorted : (a b c m e : Bool) (i : Image) → T (is_sorted by_bytes (entries_of i)) → T (is_sorted by_bytes (entries_of (image a b c m e i)))
  sorted true b c m e i t = sorted-by takes (λ es s. sorted-without es from s) i t
  sorted false true c m e i t = sorted-by adds (λ es s. sorted-with es to obj s) i t
  sorted false false true m true i t = tt
  sorted false false true m false i t = t
  sorted false false false true true i t = tt
  sorted false false false true false i t = t
  sorted false false false false e i t = t

  gone-same : (a b c m e : Bool) (i : Image) → e ≡ false → is_gone (image a b c m e i) ≡ is_gone i
  gone-same true b c m e i x = gone-with takes i
  gone-same false true c m e i x = gone-with adds i
  gone-same false false c m true i x = absurd (true≢false x)
  gone-same false false true m false i x = refl
  gone-same false false false true false i x = refl
  gone-same false false false false false i x = refl

  dir-same : (a b c m e : Bool) (i : Image) → e ≡ false → is_dir (image a b c m e i) ≡ is_dir i
  dir-same true b c m e i x = dir-with takes i
  dir-same false true c m e i x = dir-with adds i
  dir-same false false c m true i x = absurd (true≢false x)
  dir-same false false true m false i x = refl
  dir-same false false false true false i x = refl
  dir-same false false false false false i x = refl

  goes : (a b c m e : Bool) (i : Image) → a ≡ false → b ≡ false → m ≡ true → e ≡ true → T (is_gone (image a b c m e i))
  goes true b c m e i x y z t = absurd (true≢false x)
  goes false true c m e i x y z t = absurd (true≢false y)
  goes false false c m false i x y z t = absurd (true≢false (sym t))
  goes false false true m true i x y z t = tt
  goes false false false true true i x y z t = tt
  goes false false false false true i x y z t = absurd (true≢false (sym z))

  first_fits : (a b c m e l : Bool) (i : Image) → T (does_fit a b c m e l i) → a ≡ true → T (gives from obj i)
  first_fits true b c m e l i h x = taken b c m e l i h
  first_fits false b c m e l i h x = absurd (true≢false (sym x))

  second_fits : (a b c m e l : Bool) (i : Image) → T (does_fit a b c m e l i) → a ≡ false → b ≡ true → T (yields to victim i)
  second_fits true b c m e l i h x y = absurd (true≢false x)
  second_fits false true c m e l i h x y = added c m e l i h
  second_fits false false c m e l i h x y = absurd (true≢false (sym y))

  module _ (up : Above) (v : Images) (f : WellFormed v) (sound : T (is_sound (Shift dir from into to obj k victim up))) (fits : Fits v (Shift dir from into to obj k victim up ∷ [])) where
    abbrev w : Images
    w = after v (Shift dir from into to obj k victim up ∷ [])

    abbrev others : List ℕ
    others = listed victim ++ filter (λ o. not (o == dir)) (ids_of up)

    apart-all : T (distinct (dir ∷ into ∷ obj ∷ others))
    apart-all = left (distinct (operands (Shift dir from into to obj k victim up))) (is_within (Shift dir from into to obj k victim up)) sound

    apart-into : T (distinct (into ∷ obj ∷ others))
    apart-into = distinct-rest dir (into ∷ obj ∷ others) apart-all

    apart-obj : T (distinct (obj ∷ others))
    apart-obj = distinct-rest into (obj ∷ others) apart-into

    into-not-dir : (into == dir) ≡ false
    into-not-dir = apart dir into (into ∷ obj ∷ others) apart-all (member-first into (obj ∷ others))

    dir-not-into : (d : ℕ) → (d == dir) ≡ true → (d == into) ≡ false
    dir-not-into d e = elim (cases_Bool (d == into)) [
      | inr g ↦ g
      | inl g ↦ absurd (true≢false (sym e ∙ subst (λ x. (x == dir) ≡ false) (sym (eqb-true d into g)) into-not-dir))
    ]

    victim-other : (o : ℕ) → victim ≡ Some o → member o others ≡ true
    victim-other o e = victim-member o victim (filter (λ p. not (p == dir)) (ids_of up)) e

    victim-not-obj : (o : ℕ) → is_id o victim ≡ true → (o == obj) ≡ false
    victim-not-obj o e = apart obj o others apart-obj (victim-other o (id-is o victim (holds e)))

    named : Names v dir from obj
    named =
        gives-is from obj (v dir)
        (first_fits (dir == dir) (dir == into) (dir == obj) (member dir others) (is_id dir victim) (leads up into dir (v dir)) (v dir) (fits dir) (same_number dir))

    named-to : entry (entries_of (v into)) to ≡ victim
    named-to =
        yields-is to victim (v into)
        (second_fits (into == dir) (into == into) (into == obj) (member into others) (is_id into victim) (leads up into into (v into)) (v into) (fits into) into-not-dir (same_number into))

    not-victim : (o : ℕ) → (victim ≡ Some o → ⊥) → is_id o victim ≡ false
    not-victim o h = elim (cases_Bool (is_id o victim)) [ inl e ↦ absurd (h (id-is o victim (holds e))) | inr e ↦ e ]

    victim-gone : (o : ℕ) → victim ≡ Some o → T (is_gone (w o))
    victim-gone o e =
        let m : member o others ≡ true = victim-other o e in
        goes (o == dir) (o == into) (o == obj) (member o others) (is_id o victim) (v o)
        (apart dir o (into ∷ obj ∷ others) apart-all (member-next o into (obj ∷ others) (member-next o obj others m)))
        (apart into o (obj ∷ others) apart-into (member-next o obj others m)) m (id-from o victim e)

    obj-stays : victim ≡ Some obj → ⊥
    obj-stays e = true≢false (sym (same_number obj) ∙ victim-not-obj obj (id-from obj victim e))

    alive : (o : ℕ) → (victim ≡ Some o → ⊥) → is_gone (w o) ≡ is_gone (v o)
    alive o h = gone-same (o == dir) (o == into) (o == obj) (member o others) (is_id o victim) (v o) (not-victim o h)

    pub shift-changed : Change v w (New (Shift dir from into to obj k victim up)) (Stay (Shift dir from into to obj k victim up))
    shift-changed = carried v w dir from into to obj victim f
        (record {
          maps = λ d. sorted (d == dir) (d == into) (d == obj) (member d others) (is_id d victim) (v d) (f.maps d);
          found = λ d n. found (d == dir) (d == into) (d == obj) (member d others) (is_id d victim) (leads up into d (v d)) (v d) (dir-not-into d) (victim-not-obj d) (fits d) n;
          named = named;
          named_to = named-to;
          same_root = λ h. dir-same (root == dir) (root == into) (root == obj) (member root others) (is_id root victim) (v root) (not-victim root h);
          alive = alive;
          victim_gone = victim-gone;
          stays = obj-stays;
        })
