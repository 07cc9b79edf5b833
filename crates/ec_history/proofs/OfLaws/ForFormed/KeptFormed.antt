-- What sound updates that fit keep: volumes well formed, and images within the limits.
use Rattle.std.proofs.Common.{sym, subst, inl, inr, ℕ, T, Bool, true, false, not, ◌==◌, ◌||◌, cond, List, [], ◌∷◌}
use Rattle.std.specs.List.{list_all}
use Rattle.std.proofs.lemmas.Bool.{cases_Bool, or_right}
use Rattle.ec_volume.specs.Image.{is_gone}
use Rattle.ec_volume.specs.Held.{is_held}
use Rattle.ec_volume.specs.Update.{has_operand, is_sound, fits, effect}
use Rattle.ec_volume.specs.Volume.{Images, image_next, image_after, after, fits_in_turn, Fits, WellFormed}
use Rattle.ec_volume.specs.declared.image.Image.{Image}
use Rattle.ec_volume.specs.declared.image.Image.TheVariants.{Gone, File, Dir}
use Rattle.ec_volume.specs.declared.update.Update.{Update}
use Rattle.ec_volume.specs.declared.update.Update.TheVariants.{Make, Drop, Move, Put, Len, Mode, Stamp, Order, Shift, Owner}
use Rattle.ec_volume.proofs.Within.{effect_held}
use Rattle.ec_history.proofs.OfLaws.ForFormed.Change.{change_formed, New, Stay}
use Rattle.ec_history.proofs.OfLaws.ForFormed.Changed.{changed}
use Rattle.ec_volume.proofs.ImageLemmas.{IsWithin, within_new}
use Rattle.ec_base.proofs.Bools.{both, first as left, right, on as holds, is-true}

-- The first update of a list fits, and the rest fits what it leaves.
pub first-fits : (v : Images) (u : Update) (us : List Update) → Fits v (u ∷ us) → Fits v (u ∷ [])
first-fits v u us t o = both (not (has_operand o u) || fits u o (v o)) true (left (not (has_operand o u) || fits u o (v o)) (fits_in_turn o (image_next o (v o) u) us) (t o)) tt

pub rest-fits : (v : Images) (u : Update) (us : List Update) → Fits v (u ∷ us) → Fits (after v (u ∷ [])) us
rest-fits v u us t o = right (not (has_operand o u) || fits u o (v o)) (fits_in_turn o (image_next o (v o) u) us) (t o)

pub kept-formed : (v : Images) (us : List Update) → WellFormed v → T (list_all is_sound us) → Fits v us → WellFormed (after v us)
kept-formed v [] f s t = f
kept-formed v (u ∷ us) f s t =
    kept-formed (after v (u ∷ [])) us
    (change_formed v (after v (u ∷ [])) (New u) (Stay u) (changed v u f (left (is_sound u) (list_all is_sound us) s) (first-fits v u us t)) f)
    (right (is_sound u) (list_all is_sound us) s) (rest-fits v u us t)

gone-left : (b : Bool) (i j : Image) → IsWithin i → IsWithin j → IsWithin (cond b i j)
gone-left true i j x y = x
gone-left false i j x y = y

within-gone : (u : Update) (o : ℕ) → IsWithin (effect u o Gone)
within-gone (Make dir name obj k) o = within_new (o == dir) k
within-gone (Drop dir name obj k) o = gone-left (o == dir) Gone Gone tt tt
within-gone (Move dir from to obj k victim) o = gone-left (o == dir) Gone (cond (o == obj) Gone Gone) tt (gone-left (o == obj) Gone Gone tt tt)
within-gone (Put obj at bytes inside) o = tt
within-gone (Len obj len) o = tt
within-gone (Mode obj mode) o = tt
within-gone (Stamp obj stamp) o = tt
within-gone (Order objs) o = tt
within-gone (Shift dir from into to obj k victim up) o = gone-all (o == dir) (o == into) _
  where
    gone-all : (a b e : Bool) → IsWithin (cond a Gone (cond b Gone (cond e Gone Gone)))
    gone-all true b e = tt
    gone-all false true e = tt
    gone-all false false true = tt
    gone-all false false false = tt
within-gone (Owner obj owner) o = tt

live-within : (u : Update) (o : ℕ) (i : Image) → T (is_sound u) → T (fits u o i) → T (is_held i) → IsWithin (effect u o i)
live-within u o i s t h = elim (cases_Bool (is_gone (effect u o i))) [
  | inl e ↦ subst (λ b. T (b || is_held (effect u o i))) (sym e) tt
  | inr e ↦ holds (or_right (is_gone (effect u o i)) (is_held (effect u o i)) (effect_held u o i s (is-true (fits u o i) t) (is-true (is_held i) h) e))
]

within-effect : (u : Update) (o : ℕ) (i : Image) → T (is_sound u) → T (fits u o i) → IsWithin i → IsWithin (effect u o i)
within-effect u o Gone s t h = within-gone u o
within-effect u o (File m q w bs) s t h = live-within u o (File m q w bs) s t h
within-effect u o (Dir m q w es) s t h = live-within u o (Dir m q w es) s t h

pub kept-within : (us : List Update) (o : ℕ) (i : Image) → T (list_all is_sound us) → T (fits_in_turn o i us) → IsWithin i → IsWithin (image_after o i us)
kept-within [] o i s t h = h
kept-within (u ∷ us) o i s t h =
    kept-within us o (image_next o i u) (right (is_sound u) (list_all is_sound us) s) (right (not (has_operand o u) || fits u o i) (fits_in_turn o (image_next o i u) us) t)
    (next (has_operand o u) (left (not (has_operand o u) || fits u o i) (fits_in_turn o (image_next o i u) us) t))
  where
    next : (b : Bool) → T (not b || fits u o i) → IsWithin (cond b (effect u o i) i)
    next true x = within-effect u o i (left (is_sound u) (list_all is_sound us) s) x h
    next false x = h

pub kept-held : (v : Images) (us : List Update) → ((o : ℕ) → IsWithin (v o)) → T (list_all is_sound us) → Fits v us → (o : ℕ) → IsWithin (after v us o)
kept-held v us h s t o = kept-within us o (v o) s (t o) (h o)
