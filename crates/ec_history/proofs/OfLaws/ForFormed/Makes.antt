-- What holds of the update of each outcome that a call can come to.
use Rattle.std.proofs.Common.{◌≡◌, refl, subst, ℕ, Bool, true, false, cond, List, [], ◌∷◌, ◌++◌, ◌-◌, Option, Some, None}
use Rattle.std.specs.Prelude.{length}
use Rattle.ec_volume.specs.Entries.{Entries, entry}
use Rattle.ec_volume.specs.Image.{is_gone, is_dir, entries_of}
use Rattle.ec_volume.specs.Volume.{Images, Names}
use Rattle.ec_volume.specs.declared.update.Update.{Update}
use Rattle.ec_plain.specs.Walk.{Path, Reached, At, Not, walk, parent_of, last_of}
use Rattle.ec_plain.specs.Plain.{answers, refuses, issues, on_reached, on_parent, on_entry}
use Rattle.ec_plain.specs.declared.call.Reply.{Reply}
use Rattle.ec_plain.specs.declared.call.Refusal.{Refusal}
use Rattle.ec_plain.specs.declared.call.Refusal.TheVariants as no
use Rattle.ec_plain.specs.declared.call.Outcome.{Outcome}

abbrev pub Makes : (Update → Type 0) → Outcome → Type 0
Makes P out = (u : Update) → out.update ≡ Some u → P u

module _ (P : Update → Type 0) where
  pub answers-makes : (r : Reply) (os : List ℕ) → Makes P (answers r os)
  answers-makes r os u e = absurd (none e)
    where
      none : ◌≡◌ {A = Option Update} None (Some u) → ⊥
      none e = cc

  pub refuses-makes : (r : Refusal) (os : List ℕ) → Makes P (refuses r os)
  refuses-makes r os u e = absurd (none e)
    where
      none : ◌≡◌ {A = Option Update} None (Some u) → ⊥
      none e = cc

  pub issues-makes : (w : Update) (os : List ℕ) → P w → Makes P (issues w os)
  issues-makes w os h u e = subst P (alike e) h
    where
      alike : Some w ≡ Some u → w ≡ u
      alike e = cc

  -- by cases, with what the test says
  pub cond-makes : (b : Bool) (x y : Outcome) → (b ≡ true → Makes P x) → (b ≡ false → Makes P y) → Makes P (cond b x y)
  cond-makes true x y p q = p refl
  cond-makes false x y p q = q refl

  module _ (v : Images) where
    pub reached-makes : (p : Path) (f : ℕ → List ℕ → Outcome) → ((o : ℕ) → (walk v p).to ≡ At o → Makes P (f o (walk v p).read)) → Makes P (on_reached (walk v p) f)
    reached-makes p f h = go (walk v p).to h
      where
        go : (r : Reached) → ((o : ℕ) → r ≡ At o → Makes P (f o (walk v p).read)) → Makes P (elim r [ At o ↦ f o (walk v p).read | Not x ↦ refuses x (walk v p).read ])
        go (At o) k = k o refl
        go (Not x) k = refuses-makes x (walk v p).read

    pub parent-makes : (p : Path) (f : ℕ → Entries → List ℕ → Outcome)
        → ((d : ℕ) → (walk v (parent_of p)).to ≡ At d → is_dir (v d) ≡ true → Makes P (f d (entries_of (v d)) (walk v (parent_of p)).read)) → Makes P (on_parent v p f)
    parent-makes p f h =
        reached-makes (parent_of p) (λ d os. cond (is_dir (v d)) (f d (entries_of (v d)) os) (refuses (no.NotDir (length p - 1)) os))
        (λ d at. cond-makes (is_dir (v d)) (f d (entries_of (v d)) (walk v (parent_of p)).read) (refuses (no.NotDir (length p - 1)) (walk v (parent_of p)).read)
        (h d at) (λ e. refuses-makes (no.NotDir (length p - 1)) (walk v (parent_of p)).read))

    found : (p : Path) (f : ℕ → Entries → ℕ → List ℕ → Outcome) → ℕ → Entries → List ℕ → Option ℕ → Outcome
    found p f d es os None = refuses (no.NotFound (length p)) os
    found p f d es os (Some o) = cond (is_gone (v o)) (refuses (no.NotFound (length p)) (os ++ o ∷ [])) (f d es o (os ++ o ∷ []))

    pub entry-makes : (p : Path) (f : ℕ → Entries → ℕ → List ℕ → Outcome)
        → ((d o : ℕ) (os : List ℕ) → (walk v (parent_of p)).to ≡ At d → is_dir (v d) ≡ true → Names v d (last_of p) o → is_gone (v o) ≡ false → Makes P (f d (entries_of (v d)) o os)) → Makes P (on_entry v p f)
    unfolding found
    entry-makes p f h = parent-makes p (λ d es os. found p f d es os (entry es (last_of p))) (λ d at e. go d (walk v (parent_of p)).read at e (entry (entries_of (v d)) (last_of p)) refl)
      where
        go : (d : ℕ) (os : List ℕ) → (walk v (parent_of p)).to ≡ At d → is_dir (v d) ≡ true → (x : Option ℕ) → entry (entries_of (v d)) (last_of p) ≡ x → Makes P (found p f d (entries_of (v d)) os x)
        go d os at e None g = refuses-makes (no.NotFound (length p)) os
        go d os at e (Some o) g =
            cond-makes (is_gone (v o)) (refuses (no.NotFound (length p)) (os ++ o ∷ [])) (f d (entries_of (v d)) o (os ++ o ∷ []))
            (λ l. refuses-makes (no.NotFound (length p)) (os ++ o ∷ [])) (λ l. h d o (os ++ o ∷ []) at e g l)
