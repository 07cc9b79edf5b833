-- A change of a volume's entries: which are new, and of which objects they stay.
use Rattle.std.proofs.Common.{◌≡◌, ◌≢◌, inl, inr, ◌⊎◌, ℕ, T, not, List, Some}
use Rattle.std.specs.Bool.{⊤}
use Rattle.std.specs.FinMap.{is_sorted}
use Rattle.ec_volume.specs.Entries.{by_bytes}
use Rattle.ec_volume.specs.Image.{is_gone, is_dir, entries_of}
use Rattle.ec_volume.specs.Update.{root}
use Rattle.ec_volume.specs.Volume.{Images, Names, WellFormed}
use Rattle.ec_volume.specs.declared.image.Image.{Image}
use Rattle.ec_volume.specs.declared.update.Update.{Update}
use Rattle.ec_volume.specs.declared.update.Update.TheVariants.{Make, Drop, Move, Shift}

abbrev pub IsLive : Image → Type 0
IsLive i = T (not (is_gone i))

pub record Change (v w : Images) (New : ℕ → List ℕ → ℕ → Type 0) (Stay : ℕ → Type 0) : Type 0 where
  pub maps : (d : ℕ) → T (is_sorted by_bytes (entries_of (w d)))
  pub root_is_dir : T (is_dir (w root))
  pub split : (d : ℕ) (n : List ℕ) (o : ℕ) → Names w d n o → New d n o ⊎ (Names v d n o × Stay o)
  pub there : (d : ℕ) (n : List ℕ) (o : ℕ) → New d n o → Names w d n o
  pub stays : (d : ℕ) (n : List ℕ) (o : ℕ) → Names v d n o → Stay o → Names w d n o
  pub one : (d e : ℕ) (m n : List ℕ) (o p : ℕ) → New d m o → New e n p → (d ≡ e) × (m ≡ n)
  pub away : (d : ℕ) (n : List ℕ) (o : ℕ) → New d n o → Stay o → ⊥
  pub no_root : (d : ℕ) (n : List ℕ) → New d n root → ⊥
  pub new_live : (d : ℕ) (n : List ℕ) (o : ℕ) → New d n o → IsLive (w o)
  pub live_up : (o : ℕ) → IsLive (v o) → Stay o → IsLive (w o)
  pub live_down : (o : ℕ) → IsLive (w o) → ((d : ℕ) × (n : List ℕ) × New d n o) ⊎ (IsLive (v o) × Stay o)

pub change_formed : (v w : Images) (New : ℕ → List ℕ → ℕ → Type 0) (Stay : ℕ → Type 0) → Change v w New Stay → WellFormed v → WellFormed w
change_formed v w New Stay c f =
    record {
      maps = c.maps;
      root_is_dir = c.root_is_dir;
      root_unnamed = λ d n h. elim (c.split d n root h) [ inl e ↦ c.no_root d n e | inr e ↦ f.root_unnamed d n e.0 ];
      named = λ o l r. elim (c.live_down o l) [
        | inl e ↦ (e.0, e.1, c.there e.0 e.1 o e.2)
        | inr e ↦ let (d, n, h) = f.named o e.0 r in (d, n, c.stays d n o h e.1)
      ];
      once = λ o d e m n h k. elim (c.split d m o h) [
        | inl x ↦ elim (c.split e n o k) [ inl y ↦ c.one d e m n o o x y | inr y ↦ absurd (c.away d m o x y.1) ]
        | inr x ↦ elim (c.split e n o k) [ inl y ↦ absurd (c.away e n o y x.1) | inr y ↦ f.once o d e m n x.0 y.0 ]
      ];
      live = λ o d n h. elim (c.split d n o h) [ inl e ↦ c.new_live d n o e | inr e ↦ c.live_up o (f.live o d n e.0) e.1 ];
    }

-- What an update makes of the entries, where it is sound and fits.

abbrev pub New : Update → ℕ → List ℕ → ℕ → Type 0
New (Make dir name obj k) d n o = (d ≡ dir) × (n ≡ name) × (o ≡ obj)
New (Move dir from to obj k victim) d n o = (d ≡ dir) × (n ≡ to) × (o ≡ obj)
New (Shift dir from into to obj k victim up) d n o = (d ≡ into) × (n ≡ to) × (o ≡ obj)
New _ d n o = ⊥

abbrev pub Stay : Update → ℕ → Type 0
Stay (Make dir name obj k) o = o ≢ obj
Stay (Drop dir name obj k) o = o ≢ obj
Stay (Move dir from to obj k victim) o = (o ≢ obj) × (victim ≡ Some o → ⊥)
Stay (Shift dir from into to obj k victim up) o = (o ≢ obj) × (victim ≡ Some o → ⊥)
Stay _ o = ⊤
