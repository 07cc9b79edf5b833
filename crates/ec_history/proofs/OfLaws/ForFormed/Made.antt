-- A Make that is sound and fits.
use Rattle.std.proofs.Common.{◌≡◌, refl, sym, ap, subst, ◌∙◌, inl, inr, ℕ, T, Bool, true, false, not, ◌==◌, ◌&&◌, ◌||◌, cond, List, [], ◌∷◌, Some, None}
use Rattle.std.specs.Prelude.{is_none, length, nat_lt}
use Rattle.std.proofs.lemmas.Bool.{cases_Bool, and_parts, eqb-true, eqb-false, ne_eqb, true≢false}
use Rattle.std.specs.FinMap.{is_sorted}
use Rattle.ec_volume.specs.Entries.{Entries, by_bytes, same_name, entry, with_entry}
use Rattle.ec_volume.specs.Image.{is_gone, is_dir, lacks, entries_of, with_entries, new_object}
use Rattle.ec_volume.specs.Update.{root, distinct, is_sound}
use Rattle.ec_volume.specs.Volume.{Images, after, Fits, WellFormed}
use Rattle.ec_volume.specs.declared.image.Image.{Image}
use Rattle.ec_volume.specs.declared.image.Image.TheVariants.{Gone, File, Dir}
use Rattle.ec_volume.specs.declared.image.Kind.{Kind}
use Rattle.ec_volume.specs.declared.update.Update.TheVariants.{Make}
use Rattle.ec_history.proofs.OfLaws.ForFormed.Apart.{apart, member-first}
use Rattle.ec_history.proofs.OfLaws.ForFormed.Change.{Change, IsLive, New, Stay}
use Rattle.ec_history.proofs.OfLaws.ForFormed.Edited.{edited}
use Rattle.ec_history.proofs.OfLaws.ForFormed.Entries.{at, at-is, at-from, found-with, sorted-with, no_entry, none-is, dir-with, gone-with, entries-gone, entries-new, live-new, dir-live}
use Rattle.ec_base.proofs.Numbers.{same-self as same_number}
use Rattle.ec_base.proofs.Bools.{not-both, first as left, right}

-- The image of an object, by whether it is the directory and whether it is the new object.
module _ (dir obj : ℕ) (name : List ℕ) (k : Kind) where
  abbrev adds : Entries → Entries
  adds es = with_entry es name obj

  abbrev image : Bool → Bool → Image → Image
  image a b i = cond (a || (b || false)) (cond a (with_entries adds i) (new_object k)) i

  abbrev does_fit : Bool → Bool → Image → Bool
  does_fit a b i = (not (a || (b || false)) || cond a (lacks name i && nat_lt (length (entries_of i)) 128) (is_gone i)) && true

  found : (a b : Bool) (i : Image) → T (does_fit a b i) → (n : List ℕ) → entry (entries_of (image a b i)) n ≡ cond (a && same_name n name) (Some obj) (entry (entries_of i) n)
  found true b Gone h n = absurd h
  found true b (File m s w bs) h n = absurd h
  found true b (Dir m s w es) h n = found-with es name obj n
  found false true i h n = ap (λ es. entry es n) (entries-new k ∙ sym (entries-gone i (left (is_gone i) true h)))
  found false false i h n = refl

  sorted : (a b : Bool) (i : Image) → T (is_sorted by_bytes (entries_of i)) → T (is_sorted by_bytes (entries_of (image a b i)))
  sorted true b Gone s = s
  sorted true b (File m s w bs) t = t
  sorted true b (Dir m s w es) t = sorted-with es name obj t
  sorted false true i s = subst (λ es. T (is_sorted by_bytes es)) (sym (entries-new k)) tt
  sorted false false i s = s

  gone-same : (a b : Bool) (i : Image) → b ≡ false → is_gone (image a b i) ≡ is_gone i
  gone-same true b i e = gone-with adds i
  gone-same false true i e = absurd (true≢false e)
  gone-same false false i e = refl

  dir-same : (a b : Bool) (i : Image) → b ≡ false → is_dir (image a b i) ≡ is_dir i
  dir-same true b i e = dir-with adds i
  dir-same false true i e = absurd (true≢false e)
  dir-same false false i e = refl

  new-image : (a b : Bool) (i : Image) → a ≡ false → b ≡ true → IsLive (image a b i)
  new-image true b i e g = absurd (true≢false e)
  new-image false true i e g = live-new k
  new-image false false i e g = absurd (true≢false (sym g))

  was-gone : (a b : Bool) (i : Image) → T (does_fit a b i) → a ≡ false → b ≡ true → T (is_gone i)
  was-gone true b i h e g = absurd (true≢false e)
  was-gone false true i h e g = left (is_gone i) true h
  was-gone false false i h e g = absurd (true≢false (sym g))

  was-free : (a b : Bool) (i : Image) → T (does_fit a b i) → a ≡ true → entry (entries_of i) name ≡ None
  was-free true b i h e =
      let l : T (lacks name i) = left (lacks name i) (nat_lt (length (entries_of i)) 128) (left (lacks name i && nat_lt (length (entries_of i)) 128) true h) in
      none-is (entry (entries_of i) name) (right (is_dir i) (is_none (entry (entries_of i) name)) l)
  was-free false b i h e = absurd (true≢false (sym e))

  module _ (v : Images) (f : WellFormed v) (sound : T (is_sound (Make dir name obj k))) (fits : Fits v (Make dir name obj k ∷ [])) where
    abbrev w : Images
    w = after v (Make dir name obj k ∷ [])

    apart-obj : (obj == dir) ≡ false
    apart-obj = apart dir obj (obj ∷ []) (left (distinct (dir ∷ obj ∷ [])) true sound) (member-first obj [])

    obj-gone : T (is_gone (v obj))
    obj-gone = was-gone (obj == dir) (obj == obj) (v obj) (fits obj) apart-obj (same_number obj)

    root-not : root ≡ obj → ⊥
    root-not e = not-both (is_gone (v obj)) obj-gone (subst (λ x. IsLive (v x)) e (dir-live (v root) f.root_is_dir))

    pub make-changed : Change v w (New (Make dir name obj k)) (Stay (Make dir name obj k))
    make-changed = edited v w (New (Make dir name obj k)) (Stay (Make dir name obj k)) obj (at dir name) (λ d n. false)
        (record {
          maps = λ d. sorted (d == dir) (d == obj) (v d) (f.maps d);
          root_is_dir = subst T (sym (dir-same (root == dir) (root == obj) (v root) (ne_eqb root obj root-not))) f.root_is_dir;
          found = λ d n. found (d == dir) (d == obj) (v d) (fits d) n;
          new = λ d n e. let p = at-is dir name d n e in (p.0, p.1, refl);
          new_is = λ d n o h. (at-from dir name d n h.0 h.1, h.2);
          one = λ d e m n o r x y. (x.0 ∙ sym y.0, x.1 ∙ sym y.1);
          kept = λ d n o t c h e. not-both (is_gone (v obj)) obj-gone (subst (λ x. IsLive (v x)) e (f.live o d n h));
          put_out = λ d n o t h s.
              no_entry o (sym (was-free (d == dir) (d == obj) (v d) (fits d) ((and_parts (d == dir) (same_name n name) t).0))
              ∙ subst (λ m. entry (entries_of (v d)) m ≡ Some o) ((at-is dir name d n t).1) h);
          cut_out = λ d n o c h s. true≢false (sym c);
          away = λ d n o x s. s x.2;
          no_root = λ d n x. root-not x.2;
          new_live = λ d n o x. subst (λ y. IsLive (w y)) (sym x.2) (new-image (obj == dir) (obj == obj) (v obj) apart-obj (same_number obj));
          live_up = λ o l s. subst (λ b. T (not b)) (sym (gone-same (o == dir) (o == obj) (v o) (ne_eqb o obj s))) l;
          live_down = λ o l. elim (cases_Bool (o == obj)) [
            | inl e ↦ inl (dir, name, (refl, refl, eqb-true o obj e))
            | inr e ↦ inr (subst (λ b. T (not b)) (gone-same (o == dir) (o == obj) (v o) e) l, eqb-false o obj e)
          ];
        })
