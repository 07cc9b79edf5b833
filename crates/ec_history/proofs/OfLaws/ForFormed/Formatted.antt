-- The formatted volume.
use Rattle.std.proofs.Common.{◌≡◌, refl, sym, subst, inl, inr, ℕ, T, Bool, true, false, ◌==◌, ◌||◌, cond, List, [], eqb→eq}
use Rattle.std.proofs.lemmas.Bool.{cases_Bool}
use Rattle.std.specs.FinMap.{is_sorted}
use Rattle.ec_volume.specs.Entries.{by_bytes}
use Rattle.ec_volume.specs.Image.{is_gone, entries_of}
use Rattle.ec_volume.specs.Held.{is_held}
use Rattle.ec_volume.specs.Update.{root}
use Rattle.ec_volume.specs.Volume.{formatted, Names, WellFormed, AllReached}
use Rattle.ec_volume.specs.declared.image.Image.TheVariants.{Gone, Dir}
use Rattle.ec_history.proofs.OfLaws.ForFormed.Change.{IsLive}
use Rattle.ec_history.proofs.OfLaws.ForFormed.Led.{empty-unnamed, led-reached}
use Rattle.ec_base.proofs.Bools.{on as holds}

no-entries : (d : ℕ) → entries_of (formatted d) ≡ []
no-entries d = go (d == root)
  where
    go : (b : Bool) → entries_of (cond b (Dir 493 0 0 []) Gone) ≡ []
    go true = refl
    go false = refl

nothing-named : (d : ℕ) (n : List ℕ) (o : ℕ) → Names formatted d n o → ⊥
nothing-named d n o h = empty-unnamed (formatted d) n o (no-entries d) h

live-root : (o : ℕ) → IsLive (formatted o) → o ≡ root
live-root o l = elim (cases_Bool (o == root)) [
  | inl e ↦ eqb→eq o root (holds e)
  | inr e ↦ absurd (subst (λ b. IsLive (cond b (Dir 493 0 0 []) Gone)) e l)
]

pub formatted-formed : WellFormed formatted
formatted-formed = record {
  maps = λ d. subst (λ es. T (is_sorted by_bytes es)) (sym (no-entries d)) tt;
  root_is_dir = tt;
  root_unnamed = λ d n h. nothing-named d n root h;
  named = λ o l r. absurd (r (live-root o l));
  once = λ o d e m n h k. absurd (nothing-named d m o h);
  live = λ o d n h. absurd (nothing-named d n o h);
}

pub formatted-reached : AllReached formatted
formatted-reached o l = led-reached formatted [] o (live-root o l) l

pub formatted-held : (o : ℕ) → T (is_gone (formatted o) || is_held (formatted o))
formatted-held o = go (o == root)
  where
    go : (b : Bool) → T (is_gone (cond b (Dir 493 0 0 []) Gone) || is_held (cond b (Dir 493 0 0 []) Gone))
    go true = tt
    go false = tt
