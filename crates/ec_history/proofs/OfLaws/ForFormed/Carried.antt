-- An object's entry goes, and another one comes for it, in the place of the victim's, if any.
use Rattle.std.proofs.Common.{◌≡◌, ◌≢◌, refl, sym, subst, ◌∙◌, inl, inr, ℕ, T, not, ◌==◌, cond, List, Option, Some, None}
use Rattle.std.proofs.lemmas.Bool.{cases_Bool, eqb-true, eqb-false, true≢false}
use Rattle.std.specs.FinMap.{is_sorted}
use Rattle.ec_volume.specs.Entries.{by_bytes, entry}
use Rattle.ec_volume.specs.Image.{is_gone, is_dir, entries_of}
use Rattle.ec_volume.specs.Update.{root}
use Rattle.ec_volume.specs.Volume.{Images, Names, WellFormed}
use Rattle.ec_history.proofs.OfLaws.ForFormed.Change.{Change, IsLive}
use Rattle.ec_history.proofs.OfLaws.ForFormed.Edited.{edited}
use Rattle.ec_history.proofs.OfLaws.ForFormed.Entries.{at, at-is, at-from}
use Rattle.ec_base.proofs.Bools.{not-both}
use Rattle.ec_base.proofs.Options.{one_entry}

module _ (v w : Images) (dir : ℕ) (from : List ℕ) (into : ℕ) (to : List ℕ) (obj : ℕ) (victim : Option ℕ) where
  -- the new entry, and the objects whose entries stay
  abbrev pub Comes : ℕ → List ℕ → ℕ → Type 0
  Comes d n o = (d ≡ into) × (n ≡ to) × (o ≡ obj)

  abbrev pub Rests : ℕ → Type 0
  Rests o = (o ≢ obj) × (victim ≡ Some o → ⊥)

  pub record Carry : Type 0 where
    pub maps : (d : ℕ) → T (is_sorted by_bytes (entries_of (w d)))
    pub found : (d : ℕ) (n : List ℕ) → entry (entries_of (w d)) n ≡ cond (at into to d n) (Some obj) (cond (at dir from d n) None (entry (entries_of (v d)) n))
    pub named : Names v dir from obj
    pub named_to : entry (entries_of (v into)) to ≡ victim
    pub same_root : (victim ≡ Some root → ⊥) → is_dir (w root) ≡ is_dir (v root)
    pub alive : (o : ℕ) → (victim ≡ Some o → ⊥) → is_gone (w o) ≡ is_gone (v o)
    pub victim_gone : (o : ℕ) → victim ≡ Some o → T (is_gone (w o))
    pub stays : victim ≡ Some obj → ⊥

  pub carried : WellFormed v → Carry → Change v w Comes Rests
  carried f c = edited v w Comes Rests obj (at into to) (at dir from)
      (record {
        maps = c.maps;
        root_is_dir = subst T (sym (c.same_root (λ e. f.root_unnamed into to (c.named_to ∙ e)))) f.root_is_dir;
        found = c.found;
        new = λ d n e. let p = at-is into to d n e in (p.0, p.1, refl);
        new_is = λ d n o h. (at-from into to d n h.0 h.1, h.2);
        one = λ d e m n o r x y. (x.0 ∙ sym y.0, x.1 ∙ sym y.1);
        kept = λ d n o t q h. (
          λ e. let p = f.once obj d dir n from (subst (λ x. Names v d n x) e h) c.named in true≢false (sym (at-from dir from d n p.0 p.1) ∙ q),
          λ e. let p = f.once o d into n to h (c.named_to ∙ e) in true≢false (sym (at-from into to d n p.0 p.1) ∙ t),
        );
        put_out = λ d n o t h s.
            let p = at-is into to d n t in
            s.1 (sym c.named_to ∙ subst (λ m. Names v into m o) p.1 (subst (λ x. Names v x n o) p.0 h));
        cut_out = λ d n o q h s.
            let p = at-is dir from d n q in
            s.0 (one_entry o obj (sym (subst (λ m. Names v dir m o) p.1 (subst (λ x. Names v x n o) p.0 h)) ∙ c.named));
        away = λ d n o x s. s.0 x.2;
        no_root = λ d n x. f.root_unnamed dir from (subst (λ y. Names v dir from y) (sym x.2) c.named);
        new_live = λ d n o x. subst (λ y. IsLive (w y)) (sym x.2) (subst (λ b. T (not b)) (sym (c.alive obj c.stays)) (f.live obj dir from c.named));
        live_up = λ o l s. subst (λ b. T (not b)) (sym (c.alive o s.1)) l;
        live_down = λ o l. elim (cases_Bool (o == obj)) [
          | inl e ↦ inl (into, to, (refl, refl, eqb-true o obj e))
          | inr e ↦
              let other : victim ≡ Some o → ⊥ = λ g. not-both (is_gone (w o)) (c.victim_gone o g) l in
              inr (subst (λ b. T (not b)) (c.alive o other) l, (eqb-false o obj e, other))
        ];
      })
