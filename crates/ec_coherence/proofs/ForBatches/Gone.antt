-- An object that isn't there stays so, where nothing makes it.
use Rattle.std.proofs.Common.{◌≡◌, refl, ap, ◌∙◌, inl, inr, ℕ, Bool, true, false, not, ◌||◌, cond, T, List, [], ◌∷◌}
use Rattle.std.specs.Prelude.{◌==◌}
use Rattle.ec_volume.specs.Image.{new_object, is_id}
use Rattle.ec_volume.specs.Update.{member, has_operand, effect, listed, operands}
use Rattle.ec_volume.specs.Volume.{image_next, image_after}
use Rattle.ec_volume.specs.declared.image.Image.{Image}
use Rattle.ec_volume.specs.declared.image.Image.TheVariants.{Gone}
use Rattle.ec_volume.specs.declared.update.Update.{Update}
use Rattle.ec_volume.specs.declared.update.Update.TheVariants.{Make, Drop, Move, Put, Len, Mode, Stamp, Order, Shift, Owner}
use Rattle.ec_durable.specs.Durable.{made}
use Rattle.ec_coherence.specs.Log.{made_by as makes}
use Rattle.ec_history.specs.History.{Each, Op, updates}
use Rattle.ec_coherence.proofs.ForBatches.Ids.{not-less, in-front, in-back, in-either}
use Rattle.ec_base.proofs.Bools.{or-right as or_next}

one-of : (b : Bool) → ◌≡◌ {A = Image} (cond b Gone Gone) Gone
one-of true = refl
one-of false = refl

three-of : (a b c : Bool) → ◌≡◌ {A = Image} (cond a Gone (cond b Gone (cond c Gone Gone))) Gone
three-of true b c = refl
three-of false true c = refl
three-of false false true = refl
three-of false false false = refl

no-effect : (x : ℕ) (u : Update) → T (has_operand x u) → T (not (member x (listed (made u)))) → effect u x Gone ≡ Gone
no-effect x (Make dir name obj k) h n = go (x == dir) (x == obj) h n
  where
    go : (a b : Bool) → T (a || (b || false)) → T (not (b || false)) → ◌≡◌ {A = Image} (cond a Gone (new_object k)) Gone
    go true b h n = refl
    go false true h n = absurd n
    go false false h n = absurd h
no-effect x (Drop dir name obj k) h n = one-of (x == dir)
no-effect x (Move dir from to obj k victim) h n = go (x == dir) (x == obj)
  where
    go : (a b : Bool) → ◌≡◌ {A = Image} (cond a Gone (cond b Gone Gone)) Gone
    go true b = refl
    go false true = refl
    go false false = refl
no-effect x (Put obj at bytes inside) h n = refl
no-effect x (Len obj len) h n = refl
no-effect x (Mode obj mode) h n = refl
no-effect x (Stamp obj stamp) h n = refl
no-effect x (Order objs) h n = refl
no-effect x (Shift dir from into to obj k victim up) h n = three-of (x == dir) (x == into) (is_id x victim)
no-effect x (Owner obj owner) h n = refl

pub next-gone : (x : ℕ) (u : Update) → T (not (member x (listed (made u)))) → image_next x Gone u ≡ Gone
next-gone x u n = go (has_operand x u) (λ h. no-effect x u h n)
  where
    go : (b : Bool) → (T b → effect u x Gone ≡ Gone) → cond b (effect u x Gone) Gone ≡ Gone
    go true f = f tt
    go false f = refl

pub after-gone : (x : ℕ) (us : List Update) → T (not (member x (makes us))) → image_after x Gone us ≡ Gone
after-gone x [] n = refl
after-gone x (u ∷ us) n =
    ap (λ i. image_after x i us) (next-gone x u (not-less (member x (listed (made u))) (member x (makes (u ∷ us))) (in-front x (listed (made u)) (makes us)) n))
    ∙ after-gone x us (not-less (member x (makes us)) (member x (makes (u ∷ us))) (in-back x (listed (made u)) (makes us)) n)

pub is-made : (x : ℕ) (u : Update) → T (member x (listed (made u))) → T (member x (operands u))
is-made x (Make dir name obj k) m = or_next (x == dir) (member x (obj ∷ [])) m
is-made x (Drop dir name obj k) m = absurd m
is-made x (Move dir from to obj k victim) m = absurd m
is-made x (Put obj at bytes inside) m = absurd m
is-made x (Len obj len) m = absurd m
is-made x (Mode obj mode) m = absurd m
is-made x (Stamp obj stamp) m = absurd m
is-made x (Order objs) m = absurd m
is-made x (Shift dir from into to obj k victim up) m = absurd m
is-made x (Owner obj owner) m = absurd m

-- of these operations one makes it
pub maker : (P : Op → Type 0) (x : ℕ) (os : List Op) → Each P os → T (member x (makes (updates os))) → (o : Op) × P o × T (member x (listed (made o.update)))
maker P x [] h m = absurd m
maker P x (o ∷ os) h m = elim (in-either x (listed (made o.update)) (makes (updates os)) m) [ inl a ↦ (o, h.0, a) | inr a ↦ maker P x os h.1 a ]
