-- The formatted volume and one with two files are bases.
use Rattle.std.proofs.Common.{◌≡◌, refl, sym, subst, arith, ◌+◌, ◌≤◌, ℕ, T, Bool, true, false, ◌||◌, cond, List, [], ◌∷◌, eqb}
use Rattle.std.specs.List.{list_all}
use Rattle.ec_volume.specs.Image.{is_gone, with_entries, new_object}
use Rattle.ec_volume.specs.Entries.{with_entry}
use Rattle.ec_volume.specs.Update.{is_sound}
use Rattle.ec_volume.specs.Volume.{formatted, after, Fits, WellFormed}
use Rattle.ec_volume.specs.declared.image.Image.TheVariants.{Gone, File, Dir}
use Rattle.ec_volume.specs.declared.image.Kind.TheVariants as kind
use Rattle.ec_volume.specs.declared.update.Update.{Update}
use Rattle.ec_volume.specs.declared.update.Update.TheVariants.{Make}
use Rattle.ec_history.specs.Legal.{from_formatted}
use Rattle.ec_history.proofs.OfLaws.ForPlacing.Objects.{fits-tried}
use Rattle.ec_history.specs.OfLaws.Example.{two_files}
use Rattle.ec_history.specs.OfLaws.Bases.{IsBase}
use Rattle.ec_history.proofs.OfLaws.ForFormed.Formatted.{formatted-formed}
use Rattle.ec_history.proofs.OfLaws.ForFormed.KeptFormed.{kept-formed}

pub base-formatted : IsBase from_formatted
base-formatted = record {
  formed = formatted-formed;
  gone = λ p l. subst (λ x. T (is_gone (cond x (Dir 493 0 0 []) Gone))) (sym (above p l)) tt;
  apart = λ p q e. omega (arith, e);
}
  where
    above : (p : ℕ) → 1 ≤ p → eqb (1 + p) 1 ≡ false
    above p l = grind arith

abbrev files : List Update
files = Make 1 (102 ∷ []) 2 kind.File ∷ Make 1 (103 ∷ []) 3 kind.File ∷ []

made-files : (o : ℕ) → after formatted files o ≡ two_files.volume o
made-files o = go (eqb o 1) (eqb o 2) (eqb o 3)
  where
    go : (x y z : Bool) → cond (x || (z || false)) (cond x (with_entries (λ es. with_entry es (103 ∷ []) 3) (cond (x || (y || false)) (cond x (with_entries (λ es. with_entry es (102 ∷ []) 2) (cond x (Dir 493 0 0 []) Gone)) (new_object kind.File)) (cond x (Dir 493 0 0 []) Gone))) (new_object kind.File))
        (cond (x || (y || false)) (cond x (with_entries (λ es. with_entry es (102 ∷ []) 2) (cond x (Dir 493 0 0 []) Gone)) (new_object kind.File)) (cond x (Dir 493 0 0 []) Gone))
        ≡ cond x (Dir 493 0 0 ((102 ∷ [], 2) ∷ (103 ∷ [], 3) ∷ [])) (cond y (File 420 0 0 []) (cond z (File 420 0 0 []) Gone))
    go true y z = refl
    go false true true = refl
    go false true false = refl
    go false false true = refl
    go false false false = refl

same-volume : after formatted files ≡ two_files.volume
same-volume = λ t o. made-files o t

files-sound : T (list_all is_sound files)
files-sound = tt

files-fit : Fits formatted files
files-fit = fits-tried formatted files tt

pub base-files : IsBase two_files
base-files = record {
  formed = subst WellFormed same-volume (kept-formed formatted files formatted-formed files-sound files-fit);
  gone = λ p l. go p (eqb (3 + p) 1) (eqb (3 + p) 2) (eqb (3 + p) 3) (above p 1 l (omega arith)) (above p 2 l (omega arith)) (above p 3 l (omega arith));
  apart = λ p q e. omega (arith, e);
}
  where
    above : (p n : ℕ) → 1 ≤ p → n ≤ 3 → eqb (3 + p) n ≡ false
    above p n l m = grind arith

    go : (p : ℕ) (x y z : Bool) → x ≡ false → y ≡ false → z ≡ false → T (is_gone (cond x (Dir 493 0 0 ((102 ∷ [], 2) ∷ (103 ∷ [], 3) ∷ [])) (cond y (File 420 0 0 []) (cond z (File 420 0 0 []) Gone))))
    go p x y z e f g = subst (λ w. T (is_gone (cond w (Dir 493 0 0 ((102 ∷ [], 2) ∷ (103 ∷ [], 3) ∷ [])) (cond y (File 420 0 0 []) (cond z (File 420 0 0 []) Gone))))) (sym e)
        (subst (λ w. T (is_gone (cond w (File 420 0 0 []) (cond z (File 420 0 0 []) Gone)))) (sym f) (subst (λ w. T (is_gone (cond w (File 420 0 0 []) Gone))) (sym g) tt))
