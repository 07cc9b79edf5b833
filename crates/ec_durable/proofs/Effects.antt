-- What updates make of an object that is gone, and that images stay within their limits.
use Rattle.std.proofs.Common.{◌≡◌, ◌==◌, ℕ, Bool, true, false, ◌||◌, cond, Option, None, Some, T, refl, sym, ap, subst, ◌∙◌, inl, inr}
use Rattle.std.proofs.lemmas.Bool.{cases_Bool, eqb-true}
use Rattle.ec_volume.specs.Image.{is_gone, is_id, new_object}
use Rattle.ec_volume.specs.Update.{has_operand, is_sound, fits, effect}
use Rattle.ec_volume.specs.Volume.{image_next}
use Rattle.ec_volume.specs.Held.{is_held}
use Rattle.ec_volume.specs.declared.image.Image.{Image}
use Rattle.ec_volume.specs.declared.image.Image.TheVariants.{Gone, File, Dir}
use Rattle.ec_volume.specs.declared.update.Update.{Update}
use Rattle.ec_volume.specs.declared.update.Update.TheVariants.{Make, Drop, Move, Put, Len, Mode, Stamp, Order, Shift, Owner}
use Rattle.ec_volume.proofs.Within.{effect_held}
use Rattle.ec_durable.specs.Durable.{made}
use Rattle.ec_base.proofs.Bools.{or-right as later, is-true as is_true, holds-true as told}
use Rattle.ec_volume.proofs.ImageLemmas.{IsWithin, within_new}
use Rattle.ec_volume.proofs.Changed.{gone_is}

-- none of the ways that leads to an object that is gone
two_gone : (b : Bool) → cond b Gone Gone ≡ Gone
two_gone true = refl
two_gone false = refl

three_gone : (a b : Bool) → cond a Gone (cond b Gone Gone) ≡ Gone
three_gone true b = refl
three_gone false b = two_gone b

four_gone : (a b d : Bool) → cond a Gone (cond b Gone (cond d Gone Gone)) ≡ Gone
four_gone true b d = refl
four_gone false b d = three_gone b d

-- what is gone stays so, where it isn't made
effect_gone : (u : Update) (o : ℕ) → made u ≡ None → effect u o Gone ≡ Gone
effect_gone (Make dir name obj k) o m = absurd (let e : Some obj ≡ None = m in cc)
effect_gone (Drop dir name obj k) o m = two_gone (o == dir)
effect_gone (Move dir from to obj k victim) o m = three_gone (o == dir) (o == obj)
effect_gone (Put obj at bytes inside) o m = refl
effect_gone (Len obj len) o m = refl
effect_gone (Mode obj mode) o m = refl
effect_gone (Stamp obj stamp) o m = refl
effect_gone (Order objs) o m = refl
effect_gone (Shift dir from into to obj k victim up) o m = four_gone (o == dir) (o == into) (is_id o victim)
effect_gone (Owner obj owner) o m = refl

made_within : (u : Update) (o p : ℕ) → made u ≡ Some p → IsWithin (effect u o Gone)
made_within (Make dir name obj k) o p e = within_new (o == dir) k
made_within (Drop dir name obj k) o p e = absurd (let t : None ≡ Some p = e in cc)
made_within (Move dir from to obj k victim) o p e = absurd (let t : None ≡ Some p = e in cc)
made_within (Put obj at bytes inside) o p e = absurd (let t : None ≡ Some p = e in cc)
made_within (Len obj len) o p e = absurd (let t : None ≡ Some p = e in cc)
made_within (Mode obj mode) o p e = absurd (let t : None ≡ Some p = e in cc)
made_within (Stamp obj stamp) o p e = absurd (let t : None ≡ Some p = e in cc)
made_within (Order objs) o p e = absurd (let t : None ≡ Some p = e in cc)
made_within (Shift dir from into to obj k victim up) o p e = absurd (let t : None ≡ Some p = e in cc)
made_within (Owner obj owner) o p e = absurd (let t : None ≡ Some p = e in cc)

gone_within : (m : Option ℕ) (u : Update) (o : ℕ) → made u ≡ m → IsWithin (effect u o Gone)
gone_within None u o e = subst IsWithin (sym (effect_gone u o e)) tt
gone_within (Some p) u o e = made_within u o p e

within_live : (u : Update) (o : ℕ) (i : Image) → T (is_sound u) → T (fits u o i) → T (is_held i) → IsWithin (effect u o i)
within_live u o i s t h =
    elim (cases_Bool (is_gone (effect u o i))) [
      | inl e ↦ subst (λ b. T (b || is_held (effect u o i))) (sym e) tt
      | inr e ↦ later _ _ (told _ (effect_held u o i s (is_true (fits u o i) t) (is_true (is_held i) h) e))
    ]

pub within_effect : (u : Update) (o : ℕ) (i : Image) → T (is_sound u) → T (fits u o i) → IsWithin i → IsWithin (effect u o i)
within_effect u o Gone s t h = gone_within (made u) u o refl
within_effect u o (File m q w bs) s t h = within_live u o (File m q w bs) s t h
within_effect u o (Dir m q w es) s t h = within_live u o (Dir m q w es) s t h

next_gone : (u : Update) (o : ℕ) → made u ≡ None → image_next o Gone u ≡ Gone
next_gone u o m = elim (has_operand o u) as (λ b. cond b (effect u o Gone) Gone ≡ Gone) [ true ↦ effect_gone u o m | false ↦ refl ]

next_made : (u : Update) (o p : ℕ) → made u ≡ Some p → (p ≡ o → ⊥) → image_next o Gone u ≡ Gone
next_made (Make dir name obj k) o p m n = go (o == dir) (o == obj) refl
  where
    go : (a b : Bool) → (o == obj) ≡ b → cond (a || (b || false)) (cond a Gone (new_object k)) Gone ≡ Gone
    go true b e = refl
    go false true e = absurd (n (let same : obj ≡ p = cc in sym same ∙ sym (eqb-true o obj e)))
    go false false e = refl
next_made (Drop dir name obj k) o p m n = absurd (let t : None ≡ Some p = m in cc)
next_made (Move dir from to obj k victim) o p m n = absurd (let t : None ≡ Some p = m in cc)
next_made (Put obj at bytes inside) o p m n = absurd (let t : None ≡ Some p = m in cc)
next_made (Len obj len) o p m n = absurd (let t : None ≡ Some p = m in cc)
next_made (Mode obj mode) o p m n = absurd (let t : None ≡ Some p = m in cc)
next_made (Stamp obj stamp) o p m n = absurd (let t : None ≡ Some p = m in cc)
next_made (Order objs) o p m n = absurd (let t : None ≡ Some p = m in cc)
next_made (Shift dir from into to obj k victim up) o p m n = absurd (let t : None ≡ Some p = m in cc)
next_made (Owner obj owner) o p m n = absurd (let t : None ≡ Some p = m in cc)

next_by : (m : Option ℕ) (u : Update) (o : ℕ) → made u ≡ m → (m ≡ Some o → ⊥) → image_next o Gone u ≡ Gone
next_by None u o m n = next_gone u o m
next_by (Some p) u o m n = next_made u o p m (λ e. n (ap Some e))

pub gone_stays : (u : Update) (o : ℕ) (i : Image) → (made u ≡ Some o → ⊥) → is_gone i ≡ true → is_gone (image_next o i u) ≡ true
gone_stays u o i n g = ap (λ j. is_gone (image_next o j u)) (gone_is i g) ∙ ap is_gone (next_by (made u) u o refl n)
