-- What nobody writes is as the server has it.
use Rattle.std.proofs.Common.{◌≡◌, refl, sym, ap, subst, ◌∙◌, ℕ, Bool, true, false, not, cond, T, List, [], ◌∷◌, filter}
use Rattle.std.specs.Prelude.{◌==◌, ◌||◌}
use Rattle.ec_base.specs.Tables.{at}
use Rattle.ec_volume.specs.Update.{has_operand, operands, member, effect}
use Rattle.ec_volume.specs.Volume.{images, after, image_after, image_next}
use Rattle.ec_volume.specs.declared.image.Image.{Image}
use Rattle.ec_history.specs.History.{Op, Each, updates}
use Rattle.ec_coherence.specs.System.{System, is_open, seen, seen_ops}
use Rattle.ec_coherence.specs.Tokens.{IsWrite, side, side_in, view}
use Rattle.ec_coherence.specs.Log.{HasWrites}
use Rattle.ec_coherence.specs.Invariant.{Invariant}
use Rattle.ec_coherence.proofs.ForServer.Serve.{NoWriter}
use Rattle.ec_coherence.proofs.ForServer.Tables.{fails}
use Rattle.ec_base.proofs.Numbers.{equal}
use Rattle.ec_base.proofs.Bools.{holds-true as holds}

pub each-member : (P : ℕ → Type 0) (x : ℕ) (os : List ℕ) → Each P os → T (member x os) → P x
each-member P x [] f m = absurd m
each-member P x (o ∷ os) f m = go (x == o) refl m (each-member P x os f.1)
  where
    go : (b : Bool) → (x == o) ≡ b → T (b || member x os) → (T (member x os) → P x) → P x
    go true e m r = subst P (sym (equal x o e)) f.0
    go false e m r = r m

-- the image of an object whose operations all pass the test
pub passing : (x : ℕ) (p : Op → Bool) (ks : List Op) (i : Image) → Each (λ o. T (not (p o)) → T (has_operand x o.update) → ⊥) ks → image_after x i (updates (filter p ks)) ≡ image_after x i (updates ks)
passing x p [] i f = refl
passing x p (k ∷ ks) i f = go (p k) refl (λ j. passing x p ks j f.1)
  where
    off : p k ≡ false → has_operand x k.update ≡ false
    off e = by (has_operand x k.update) refl
      where
        by : (b : Bool) → has_operand x k.update ≡ b → b ≡ false
        by true q = absurd (f.0 (fails (p k) e) (holds (has_operand x k.update) q))
        by false q = refl

    same : p k ≡ false → image_next x i k.update ≡ i
    same e = ap (λ b. cond b (effect k.update x i) i) (off e)

    go : (b : Bool) → p k ≡ b → ((j : Image) → image_after x j (updates (filter p ks)) ≡ image_after x j (updates ks))
        → image_after x i (updates (cond b (k ∷ filter p ks) (filter p ks))) ≡ image_after x (image_next x i k.update) (updates ks)
    go true e r = r (image_next x i k.update)
    go false e r = r i ∙ ap (λ j. image_after x j (updates ks)) (sym (same e))

module _ (g : System) (i : Invariant g) (x : ℕ) (none : NoWriter (view g) x) where
  all-durable : Each (λ o. T (not (g.ghost.is_durable o)) → T (has_operand x o.update) → ⊥) g.ghost.kept
  all-durable = go g.ghost.kept i.logs.writes
    where
      refuted : (o : Op) → HasWrites g o → T (has_operand x o.update) → ⊥
      refuted o h m = none h.session h.is_open (side h.clerk) (ap side_in h.in_place) (each-member (λ y. IsWrite (at y h.clerk.cache.held)) x (operands o.update) h.writes m)

      go : (ks : List Op) → Each (λ o. T (not (g.ghost.is_durable o)) → HasWrites g o) ks → Each (λ o. T (not (g.ghost.is_durable o)) → T (has_operand x o.update) → ⊥) ks
      go [] f = tt
      go (o ∷ ks) f = ((λ d m. refuted o (f.0 d) m), go ks f.1)

  pub settled : (s : ℕ) → T (is_open g s) → images g.durable.volume x ≡ seen g s x
  settled s o = i.images.server x ∙ passing x g.ghost.is_durable g.ghost.kept (g.origin x) all-durable ∙ sym (ap (λ z. after g.origin (updates (seen_ops z g.ghost.kept)) x) (i.stops.open_sessions s o))
