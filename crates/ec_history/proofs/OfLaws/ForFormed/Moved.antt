-- A Move that is sound and fits.
use Rattle.std.proofs.Common.{◌≡◌, refl, sym, ap, ◌∙◌, inl, inr, ℕ, T, Bool, true, false, not, ◌==◌, ◌&&◌, ◌||◌, cond, List, [], ◌∷◌, Option, Some, None}
use Rattle.std.proofs.lemmas.Bool.{cases_Bool, true≢false}
use Rattle.std.specs.FinMap.{is_sorted}
use Rattle.ec_volume.specs.Entries.{Entries, by_bytes, same_name, entry, with_entry, without_entry}
use Rattle.ec_volume.specs.Image.{is_gone, is_dir, is_kind, is_bare, gives, yields, entries_of, with_entries}
use Rattle.ec_volume.specs.Update.{root, distinct, member, listed, is_sound, is_within}
use Rattle.ec_volume.specs.Volume.{Images, Names, after, Fits, WellFormed}
use Rattle.ec_volume.specs.declared.image.Image.{Image}
use Rattle.ec_volume.specs.declared.image.Image.TheVariants.{Gone, File, Dir}
use Rattle.ec_volume.specs.declared.image.Kind.{Kind}
use Rattle.ec_volume.specs.declared.update.Update.TheVariants.{Move}
use Rattle.ec_history.proofs.OfLaws.ForFormed.Apart.{apart, member-next, distinct-rest, victim-listed, listed-victim, gives-is, yields-is}
use Rattle.ec_history.proofs.OfLaws.ForFormed.Carried.{carried}
use Rattle.ec_history.proofs.OfLaws.ForFormed.Change.{Change, New, Stay}
use Rattle.ec_history.proofs.OfLaws.ForFormed.Entries.{found-with, found-without, sorted-with, sorted-without, dir-with, gone-with, entries-bare}
use Rattle.ec_base.proofs.Numbers.{same-self as same_number}
use Rattle.ec_base.proofs.Bools.{first as left, right}

-- The image of an object, by whether it is the directory, the object that moves and the victim.
module _ (dir : ℕ) (from to : List ℕ) (obj : ℕ) (k : Kind) (victim : Option ℕ) where
  abbrev moves : Entries → Entries
  moves es = with_entry (without_entry es from) to obj

  abbrev image : Bool → Bool → Bool → Image → Image
  image a b c i = cond (a || (b || c)) (cond a (with_entries moves i) (cond b i Gone)) i

  abbrev does_fit : Bool → Bool → Bool → Image → Bool
  does_fit a b c i = (not (a || (b || c)) || cond a (gives from obj i && yields to victim i) (cond b (is_kind k i) (is_bare k i))) && true

  found : (a b c : Bool) (i : Image) → T (does_fit a b c i) → (n : List ℕ)
      → entry (entries_of (image a b c i)) n ≡ cond (a && same_name n to) (Some obj) (cond (a && same_name n from) None (entry (entries_of i) n))
  found true b c Gone h n = absurd h
  found true b c (File m s w bs) h n = absurd h
  found true b c (Dir m s w es) h n = found-with (without_entry es from) to obj n ∙ ap (λ x. cond (same_name n to) (Some obj) x) (found-without es from n)
  found false true c i h n = refl
  found false false true i h n = ap (λ es. entry es n) (sym (entries-bare k i (left (is_bare k i) true h)))
  found false false false i h n = refl

  sorted : (a b c : Bool) (i : Image) → T (is_sorted by_bytes (entries_of i)) → T (is_sorted by_bytes (entries_of (image a b c i)))
  sorted true b c Gone t = t
  sorted true b c (File m s w bs) t = t
  sorted true b c (Dir m s w es) t = sorted-with (without_entry es from) to obj (sorted-without es from t)
  sorted false true c i t = t
  sorted false false true i t = tt
  sorted false false false i t = t

  gone-same : (a b c : Bool) (i : Image) → c ≡ false → is_gone (image a b c i) ≡ is_gone i
  gone-same true b c i e = gone-with moves i
  gone-same false true c i e = refl
  gone-same false false true i e = absurd (true≢false e)
  gone-same false false false i e = refl

  dir-same : (a b c : Bool) (i : Image) → c ≡ false → is_dir (image a b c i) ≡ is_dir i
  dir-same true b c i e = dir-with moves i
  dir-same false true c i e = refl
  dir-same false false true i e = absurd (true≢false e)
  dir-same false false false i e = refl

  goes : (a b c : Bool) (i : Image) → a ≡ false → b ≡ false → c ≡ true → T (is_gone (image a b c i))
  goes true b c i x y z = absurd (true≢false x)
  goes false true c i x y z = absurd (true≢false y)
  goes false false true i x y z = tt
  goes false false false i x y z = absurd (true≢false (sym z))

  both_fit : (a b c : Bool) (i : Image) → T (does_fit a b c i) → a ≡ true → T (gives from obj i && yields to victim i)
  both_fit true b c i h e = left (gives from obj i && yields to victim i) true h
  both_fit false b c i h e = absurd (true≢false (sym e))

  module _ (v : Images) (f : WellFormed v) (sound : T (is_sound (Move dir from to obj k victim))) (fits : Fits v (Move dir from to obj k victim ∷ [])) where
    abbrev w : Images
    w = after v (Move dir from to obj k victim ∷ [])

    apart-all : T (distinct (dir ∷ obj ∷ listed victim))
    apart-all = left (distinct (dir ∷ obj ∷ listed victim)) (is_within (Move dir from to obj k victim)) sound

    at-dir : T (gives from obj (v dir) && yields to victim (v dir))
    at-dir = both_fit (dir == dir) (dir == obj) (member dir (listed victim)) (v dir) (fits dir) (same_number dir)

    named : Names v dir from obj
    named = gives-is from obj (v dir) (left (gives from obj (v dir)) (yields to victim (v dir)) at-dir)

    named-to : entry (entries_of (v dir)) to ≡ victim
    named-to = yields-is to victim (v dir) (right (gives from obj (v dir)) (yields to victim (v dir)) at-dir)

    not-victim : (o : ℕ) → (victim ≡ Some o → ⊥) → member o (listed victim) ≡ false
    not-victim o h = elim (cases_Bool (member o (listed victim))) [ inl e ↦ absurd (h (listed-victim o victim e)) | inr e ↦ e ]

    victim-gone : (o : ℕ) → victim ≡ Some o → T (is_gone (w o))
    victim-gone o e =
        let m : member o (listed victim) ≡ true = victim-listed o victim e in
        goes (o == dir) (o == obj) (member o (listed victim)) (v o)
        (apart dir o (obj ∷ listed victim) apart-all (member-next o obj (listed victim) m))
        (apart obj o (listed victim) (distinct-rest dir (obj ∷ listed victim) apart-all) m) m

    obj-stays : victim ≡ Some obj → ⊥
    obj-stays e = true≢false (sym (same_number obj) ∙ apart obj obj (listed victim) (distinct-rest dir (obj ∷ listed victim) apart-all) (victim-listed obj victim e))

    alive : (o : ℕ) → (victim ≡ Some o → ⊥) → is_gone (w o) ≡ is_gone (v o)
    alive o h = gone-same (o == dir) (o == obj) (member o (listed victim)) (v o) (not-victim o h)

    pub move-changed : Change v w (New (Move dir from to obj k victim)) (Stay (Move dir from to obj k victim))
    move-changed = carried v w dir from dir to obj victim f
        (record {
          maps = λ d. sorted (d == dir) (d == obj) (member d (listed victim)) (v d) (f.maps d);
          found = λ d n. found (d == dir) (d == obj) (member d (listed victim)) (v d) (fits d) n;
          named = named;
          named_to = named-to;
          same_root = λ h. dir-same (root == dir) (root == obj) (member root (listed victim)) (v root) (not-victim root h);
          alive = alive;
          victim_gone = victim-gone;
          stays = obj-stays;
        })
