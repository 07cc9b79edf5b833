-- A Drop that is sound and fits.
use Rattle.std.proofs.Common.{◌≡◌, refl, sym, ap, subst, ◌∙◌, inl, inr, ℕ, T, Bool, true, false, not, ◌==◌, ◌&&◌, ◌||◌, cond, List, [], ◌∷◌, Some, None}
use Rattle.std.proofs.lemmas.Bool.{cases_Bool, eqb-true, eqb-false, ne_eqb, true≢false}
use Rattle.std.specs.FinMap.{is_sorted}
use Rattle.ec_volume.specs.Entries.{Entries, by_bytes, same_name, entry, without_entry}
use Rattle.ec_volume.specs.Image.{is_gone, is_dir, is_bare, gives, entries_of, with_entries}
use Rattle.ec_volume.specs.Update.{root, distinct, is_sound}
use Rattle.ec_volume.specs.Volume.{Images, Names, after, Fits, WellFormed}
use Rattle.ec_volume.specs.declared.image.Image.{Image}
use Rattle.ec_volume.specs.declared.image.Image.TheVariants.{Gone, File, Dir}
use Rattle.ec_volume.specs.declared.image.Kind.{Kind}
use Rattle.ec_volume.specs.declared.update.Update.TheVariants.{Drop}
use Rattle.ec_history.proofs.OfLaws.ForFormed.Apart.{apart, member-first, gives-is}
use Rattle.ec_history.proofs.OfLaws.ForFormed.Change.{Change, New, Stay}
use Rattle.ec_history.proofs.OfLaws.ForFormed.Edited.{edited}
use Rattle.ec_history.proofs.OfLaws.ForFormed.Entries.{at, at-is, at-from, found-without, sorted-without, dir-with, gone-with, entries-bare}
use Rattle.ec_base.proofs.Numbers.{same-self as same_number}
use Rattle.ec_base.proofs.Bools.{not-both, first as left}
use Rattle.ec_base.proofs.Options.{one_entry}

-- The image of an object, by whether it is the directory and whether it is the object that goes.
module _ (dir obj : ℕ) (name : List ℕ) (k : Kind) where
  abbrev drops : Entries → Entries
  drops es = without_entry es name

  abbrev image : Bool → Bool → Image → Image
  image a b i = cond (a || (b || false)) (cond a (with_entries drops i) Gone) i

  abbrev does_fit : Bool → Bool → Image → Bool
  does_fit a b i = (not (a || (b || false)) || cond a (gives name obj i) (is_bare k i)) && true

  found : (a b : Bool) (i : Image) → T (does_fit a b i) → (n : List ℕ) → entry (entries_of (image a b i)) n ≡ cond (a && same_name n name) None (entry (entries_of i) n)
  found true b Gone h n = absurd h
  found true b (File m s w bs) h n = absurd h
  found true b (Dir m s w es) h n = found-without es name n
  found false true i h n = ap (λ es. entry es n) (sym (entries-bare k i (left (is_bare k i) true h)))
  found false false i h n = refl

  sorted : (a b : Bool) (i : Image) → T (is_sorted by_bytes (entries_of i)) → T (is_sorted by_bytes (entries_of (image a b i)))
  sorted true b Gone t = t
  sorted true b (File m s w bs) t = t
  sorted true b (Dir m s w es) t = sorted-without es name t
  sorted false true i t = tt
  sorted false false i t = t

  gone-same : (a b : Bool) (i : Image) → b ≡ false → is_gone (image a b i) ≡ is_gone i
  gone-same true b i e = gone-with drops i
  gone-same false true i e = absurd (true≢false e)
  gone-same false false i e = refl

  dir-same : (a b : Bool) (i : Image) → b ≡ false → is_dir (image a b i) ≡ is_dir i
  dir-same true b i e = dir-with drops i
  dir-same false true i e = absurd (true≢false e)
  dir-same false false i e = refl

  goes : (a b : Bool) (i : Image) → a ≡ false → b ≡ true → T (is_gone (image a b i))
  goes true b i e g = absurd (true≢false e)
  goes false true i e g = tt
  goes false false i e g = absurd (true≢false (sym g))

  had : (a b : Bool) (i : Image) → T (does_fit a b i) → a ≡ true → entry (entries_of i) name ≡ Some obj
  had true b i h e = gives-is name obj i (left (gives name obj i) true h)
  had false b i h e = absurd (true≢false (sym e))

  module _ (v : Images) (f : WellFormed v) (sound : T (is_sound (Drop dir name obj k))) (fits : Fits v (Drop dir name obj k ∷ [])) where
    abbrev w : Images
    w = after v (Drop dir name obj k ∷ [])

    apart-obj : (obj == dir) ≡ false
    apart-obj = apart dir obj (obj ∷ []) (left (distinct (dir ∷ obj ∷ [])) true sound) (member-first obj [])

    named : Names v dir name obj
    named = had (dir == dir) (dir == obj) (v dir) (fits dir) (same_number dir)

    root-not : root ≡ obj → ⊥
    root-not e = f.root_unnamed dir name (subst (λ x. Names v dir name x) (sym e) named)

    obj-gone : (o : ℕ) → o ≡ obj → T (is_gone (w o))
    obj-gone o e = subst (λ x. T (is_gone (w x))) (sym e) (goes (obj == dir) (obj == obj) (v obj) apart-obj (same_number obj))

    pub drop-changed : Change v w (New (Drop dir name obj k)) (Stay (Drop dir name obj k))
    drop-changed = edited v w (New (Drop dir name obj k)) (Stay (Drop dir name obj k)) obj (λ d n. false) (at dir name)
        (record {
          maps = λ d. sorted (d == dir) (d == obj) (v d) (f.maps d);
          root_is_dir = subst T (sym (dir-same (root == dir) (root == obj) (v root) (ne_eqb root obj root-not))) f.root_is_dir;
          found = λ d n. found (d == dir) (d == obj) (v d) (fits d) n;
          new = λ d n e. true≢false (sym e);
          new_is = λ d n o h. absurd h;
          one = λ d e m n o r x y. absurd x;
          kept = λ d n o t c h e. let p = f.once obj d dir n name (subst (λ x. Names v d n x) e h) named in true≢false (sym (at-from dir name d n p.0 p.1) ∙ c);
          put_out = λ d n o t h s. true≢false (sym t);
          cut_out = λ d n o c h s.
              let p = at-is dir name d n c in
              s (one_entry o obj (sym (subst (λ m. Names v dir m o) p.1 (subst (λ x. Names v x n o) p.0 h)) ∙ named));
          away = λ d n o x s. x;
          no_root = λ d n x. x;
          new_live = λ d n o x. absurd x;
          live_up = λ o l s. subst (λ b. T (not b)) (sym (gone-same (o == dir) (o == obj) (v o) (ne_eqb o obj s))) l;
          live_down = λ o l. elim (cases_Bool (o == obj)) [
            | inl e ↦ absurd (not-both (is_gone (w o)) (obj-gone o (eqb-true o obj e)) l)
            | inr e ↦ inr (subst (λ b. T (not b)) (gone-same (o == dir) (o == obj) (v o) e) l, eqb-false o obj e)
          ];
        })
