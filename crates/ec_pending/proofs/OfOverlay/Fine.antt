-- Images that may be laid over a volume.
use Rattle.std.proofs.Common.{Bor, ◌≡◌, refl, sym, subst, ℕ, T, Bool, true, false, cond, ◌==◌, ◌||◌, List, Option, Some, None}
use Rattle.std.specs.Prelude.{option_copied, IfSome, IfNone, OnSome, Result, Ok, Err, OnOk, OnErr}
use Rattle.std.proofs.lemmas.Bool.{true≢false}
use Rattle.ec_volume.specs.Image.{is_gone, is_id, new_object}
use Rattle.ec_volume.specs.Update.{is_sound, fits, effect}
use Rattle.ec_volume.specs.Held.{is_held}
use Rattle.ec_volume.specs.declared.image.Image.{Image}
use Rattle.ec_volume.specs.declared.image.Image.TheVariants.{Gone, File, Dir}
use Rattle.ec_volume.specs.declared.update.Update.{Update}
use Rattle.ec_volume.specs.declared.update.Update.TheVariants as update
use Rattle.ec_volume.proofs.Within.{effect_held, new_held}
use Rattle.ec_order.specs.OfObjtable.Slots.{held}
use Rattle.ec_pending.specs.OfOverlay.Fine.{is_fine, IsFine}

-- Images that are laid, if any.

abbrev Laid : Type 0
Laid = List ℕ × List (ℕ × Image)

pub looked-fine : (x : Option Image) (r : Option (Bor Image)) → IsFine x → option_copied r ≡ x → IfSome r (λ i. is_fine i.now ≡ true)
looked-fine x None f e = tt
looked-fine x (Some i) f e = subst IsFine (sym e) f

pub found-fine : (x r : Option Image) → IsFine x → r ≡ x → IfSome r (λ i. is_fine i ≡ true)
found-fine x None f e = tt
found-fine x (Some i) f e = subst IsFine (sym e) f

one-fine : (b : Bool) (x : Option Image) (i : Image) → is_fine i ≡ true → IsFine x → IsFine (cond b (Some i) x)
one-fine true x i f a = f
one-fine false x i f a = a

pub fine-put : {A E : Type 0} (r : Result A E) (k : ℕ) (i : Image) (old new : Laid) → OnOk r ((o : ℕ) → held o new ≡ cond (o == k) (Some i) (held o old)) → OnErr r ((o : ℕ) → held o new ≡ held o old) → is_fine i ≡ true
    → ((o : ℕ) → IsFine (held o old)) → (o : ℕ) → IsFine (held o new)
fine-put (Ok x) k i old new ok err f a o = subst IsFine (sym (ok o)) (one-fine (o == k) (held o old) i f (a o))
fine-put (Err x) k i old new ok err f a o = subst IsFine (sym (err o)) (a o)

pub fine-taken : (r : Option Image) (k : ℕ) (old new : Laid) → OnSome r ((o : ℕ) → held o new ≡ cond (o == k) (Some Gone) (held o old)) → IfNone r (new ≡ old) → ((o : ℕ) → IsFine (held o old)) → (o : ℕ) → IsFine (held o new)
fine-taken (Some x) k old new some none a o = subst IsFine (sym (some o)) (one-fine (o == k) (held o old) Gone refl (a o))
fine-taken None k old new some none a o = subst (λ t. IsFine (held o t)) (sym none) (a o)

pub none-fine : (t : Laid) → ((o : ℕ) → held o t ≡ None) → (o : ℕ) → IsFine (held o t)
none-fine t e o = subst IsFine (sym (e o)) tt

-- What an update makes of an image.

module _ (o : ℕ) where
  nothing : (b : Bool) → is_gone (cond b Gone Gone) ≡ false → is_held (cond b Gone Gone) ≡ true
  nothing true g = absurd (true≢false g)
  nothing false g = absurd (true≢false g)

  effect-gone : (u : Update) → is_gone (effect u o Gone) ≡ false → is_held (effect u o Gone) ≡ true
  effect-gone (update.Make dir name obj k) g = go (o == dir) g
    where
      go : (b : Bool) → is_gone (cond b Gone (new_object k)) ≡ false → is_held (cond b Gone (new_object k)) ≡ true
      go true g = absurd (true≢false g)
      go false g = new_held k
  effect-gone (update.Drop dir name obj k) g = nothing (o == dir) g
  effect-gone (update.Move dir from to obj k victim) g = go (o == dir) (o == obj) g
    where
      go : (a b : Bool) → is_gone (cond a Gone (cond b Gone Gone)) ≡ false → is_held (cond a Gone (cond b Gone Gone)) ≡ true
      go true b g = absurd (true≢false g)
      go false b g = nothing b g
  effect-gone (update.Put obj at bytes inside) g = absurd (true≢false g)
  effect-gone (update.Len obj len) g = absurd (true≢false g)
  effect-gone (update.Mode obj mode) g = absurd (true≢false g)
  effect-gone (update.Stamp obj stamp) g = absurd (true≢false g)
  effect-gone (update.Order objs) g = absurd (true≢false g)
  effect-gone (update.Shift dir from into to obj k victim up) g = go (o == dir) (o == into) (is_id o victim) g
    where
      go : (a b c : Bool) → is_gone (cond a Gone (cond b Gone (cond c Gone Gone))) ≡ false → is_held (cond a Gone (cond b Gone (cond c Gone Gone))) ≡ true
      go true b c g = absurd (true≢false g)
      go false true c g = absurd (true≢false g)
      go false false c g = nothing c g
  effect-gone (update.Owner obj owner) g = absurd (true≢false g)

  or-second : (a b : Bool) → (a ≡ false → b ≡ true) → (a || b) ≡ true
  or-second true b f = refl
  or-second false b f = f refl

  pub fine-after : (u : Update) (i : Image) → T (is_sound u) → fits u o i ≡ true → is_fine i ≡ true → is_fine (effect u o i) ≡ true
  fine-after u Gone s f h = or-second _ _ (effect-gone u)
  fine-after u (File m t w bs) s f h = or-second _ _ (effect_held u o (File m t w bs) s f h)
  fine-after u (Dir m t w es) s f h = or-second _ _ (effect_held u o (Dir m t w es) s f h)
