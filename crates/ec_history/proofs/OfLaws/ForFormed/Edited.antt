-- A volume whose entries are those of another one but for a new one and for some that went.
use Rattle.std.proofs.Common.{◌≡◌, sym, ap, subst, ◌∙◌, inl, inr, ◌⊎◌, ℕ, T, Bool, true, false, cond, List, Option, Some, None}
use Rattle.std.proofs.lemmas.Bool.{cases_Bool}
use Rattle.std.specs.FinMap.{is_sorted}
use Rattle.ec_volume.specs.Entries.{by_bytes, entry}
use Rattle.ec_volume.specs.Image.{is_dir, entries_of}
use Rattle.ec_volume.specs.Update.{root}
use Rattle.ec_volume.specs.Volume.{Images, Names}
use Rattle.ec_history.proofs.OfLaws.ForFormed.Change.{Change, IsLive}
use Rattle.ec_history.proofs.OfLaws.ForFormed.Entries.{no_entry}
use Rattle.ec_base.proofs.Options.{one_entry}

-- The object obj stands in the entries that p tells, those that q tells went, the others are v's.
pub record Edit (v w : Images) (New : ℕ → List ℕ → ℕ → Type 0) (Stay : ℕ → Type 0) (obj : ℕ) (p q : ℕ → List ℕ → Bool) : Type 0 where
  pub maps : (d : ℕ) → T (is_sorted by_bytes (entries_of (w d)))
  pub root_is_dir : T (is_dir (w root))
  pub found : (d : ℕ) (n : List ℕ) → entry (entries_of (w d)) n ≡ cond (p d n) (Some obj) (cond (q d n) None (entry (entries_of (v d)) n))
  pub new : (d : ℕ) (n : List ℕ) → p d n ≡ true → New d n obj
  pub new_is : (d : ℕ) (n : List ℕ) (o : ℕ) → New d n o → (p d n ≡ true) × (o ≡ obj)
  pub one : (d e : ℕ) (m n : List ℕ) (o r : ℕ) → New d m o → New e n r → (d ≡ e) × (m ≡ n)
  pub kept : (d : ℕ) (n : List ℕ) (o : ℕ) → p d n ≡ false → q d n ≡ false → Names v d n o → Stay o
  pub put_out : (d : ℕ) (n : List ℕ) (o : ℕ) → p d n ≡ true → Names v d n o → Stay o → ⊥
  pub cut_out : (d : ℕ) (n : List ℕ) (o : ℕ) → q d n ≡ true → Names v d n o → Stay o → ⊥
  pub away : (d : ℕ) (n : List ℕ) (o : ℕ) → New d n o → Stay o → ⊥
  pub no_root : (d : ℕ) (n : List ℕ) → New d n root → ⊥
  pub new_live : (d : ℕ) (n : List ℕ) (o : ℕ) → New d n o → IsLive (w o)
  pub live_up : (o : ℕ) → IsLive (v o) → Stay o → IsLive (w o)
  pub live_down : (o : ℕ) → IsLive (w o) → ((d : ℕ) × (n : List ℕ) × New d n o) ⊎ (IsLive (v o) × Stay o)

pub edited : (v w : Images) (New : ℕ → List ℕ → ℕ → Type 0) (Stay : ℕ → Type 0) (obj : ℕ) (p q : ℕ → List ℕ → Bool) → Edit v w New Stay obj p q → Change v w New Stay
edited v w New Stay obj p q e =
    record {
      maps = e.maps;
      root_is_dir = e.root_is_dir;
      split = split;
      there = λ d n o h. let (t, s) = e.new_is d n o h in e.found d n ∙ (λ x. cond (t x) (Some obj) (rest d n)) ∙ ap Some (sym s);
      stays = λ d n o h s. elim (cases_Bool (p d n)) [
        | inl t ↦ absurd (e.put_out d n o t h s)
        | inr t ↦ elim (cases_Bool (q d n)) [
          | inl c ↦ absurd (e.cut_out d n o c h s)
          | inr c ↦ e.found d n ∙ (λ x. cond (t x) (Some obj) (cond (c x) None (entry (entries_of (v d)) n))) ∙ h
        ]
      ];
      one = e.one;
      away = e.away;
      no_root = e.no_root;
      new_live = e.new_live;
      live_up = e.live_up;
      live_down = e.live_down;
    }
  where
    rest : ℕ → List ℕ → Option ℕ
    rest d n = cond (q d n) None (entry (entries_of (v d)) n)

    split : (d : ℕ) (n : List ℕ) (o : ℕ) → Names w d n o → New d n o ⊎ (Names v d n o × Stay o)
    split d n o h = elim (cases_Bool (p d n)) [
      | inl t ↦
          let same : obj ≡ o = one_entry obj o ((λ x. cond (sym t x) (Some obj) (rest d n)) ∙ sym (e.found d n) ∙ h) in
          inl (subst (New d n) same (e.new d n t))
      | inr t ↦ elim (cases_Bool (q d n)) [
        | inl c ↦ no_entry o ((λ x. cond (sym t x) (Some obj) (cond (sym c x) None (entry (entries_of (v d)) n))) ∙ sym (e.found d n) ∙ h)
        | inr c ↦
            let old : Names v d n o = (λ x. cond (sym t x) (Some obj) (cond (sym c x) None (entry (entries_of (v d)) n))) ∙ sym (e.found d n) ∙ h in
            inr (old, e.kept d n o t c old)
      ]
    ]
