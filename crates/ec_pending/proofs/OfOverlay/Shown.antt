-- What is shown behind an update.
use Rattle.std.proofs.Common.{◌≡◌, refl, sym, ap, subst, ◌∙◌, arith, ℕ, T, Bool, true, false, not, cond, ◌==◌, ◌||◌, List, [], ◌∷◌, Some, None}
use Rattle.std.specs.Prelude.{Result, Ok, Err, IfOk, MatchBool}
use Rattle.std.proofs.lemmas.Bool.{and_parts, eqb-true}
use Rattle.std.proofs.lemmas.Bool.Decides.{nat_tests}
use Rattle.ec_volume.specs.Update.{member, fits, effect, first_unfit, distinct}
use Rattle.ec_volume.specs.Volume.{Images, images}
use Rattle.ec_volume.specs.declared.image.Image.{Image}
use Rattle.ec_volume.specs.declared.update.Update.{Update}
use Rattle.ec_order.specs.OfObjtable.Slots.{held}
use Rattle.ec_pending.specs.OfOverlay.Shown.{laid_or}

abbrev Laid : Type 0
Laid = List ℕ × List (ℕ × Image)

abbrev pub laid : List (ℕ × Image) → Laid → Images
laid under t o = laid_or under o (held o t)

-- an object has this image laid over it, and the others have theirs
abbrev pub IsLaid : ℕ → Image → Laid → Laid → Type 0
IsLaid k x old new = (o : ℕ) → held o new ≡ cond (o == k) (Some x) (held o old)

laid-put : (under : List (ℕ × Image)) (old new : Laid) (k : ℕ) (x : Image) → IsLaid k x old new → (o : ℕ) → laid under new o ≡ cond (o == k) x (laid under old o)
laid-put under old new k x is o = ap (laid_or under o) (is o) ∙ go (o == k)
  where
    go : (b : Bool) → laid_or under o (cond b (Some x) (held o old)) ≡ cond b x (laid_or under o (held o old))
    go true = refl
    go false = refl

-- the others are shown as before
pub others-taken : (under : List (ℕ × Image)) (old new : Laid) (k : ℕ) (x : Image) → IsLaid k x old new → (o : ℕ) → (o == k) ≡ false → laid under new o ≡ laid under old o
others-taken under old new k x is o e = laid-put under old new k x is o ∙ ap (λ b. cond b x (laid under old o)) e

module _ (u : Update) where
  pub one-changed : (k : ℕ) (v : Images) (under : List (ℕ × Image)) (es new : Laid) (i j : Image) → i ≡ v k → j ≡ effect u k i → ((o : ℕ) → (o == k) ≡ false → laid under es o ≡ v o) → IsLaid k j es new
      → (o : ℕ) → laid under new o ≡ cond (o == k) (effect u k (v k)) (v o)
  one-changed k v under es new i j old next others is o = laid-put under es new k j is o ∙ go (o == k) refl
    where
      go : (b : Bool) → (o == k) ≡ b → cond b j (laid under es o) ≡ cond b (effect u k (v k)) (v o)
      go true e = next ∙ ap (effect u k) old
      go false e = others o e

  unfit-same : (v w : Images) (os : List ℕ) → ((o : ℕ) → T (member o os) → v o ≡ w o) → first_unfit u v os ≡ first_unfit u w os
  unfit-same v w [] h = refl
  unfit-same v w (o ∷ os) h =
      ap (λ i. cond (fits u o i) (first_unfit u v os) (Some o)) (h o (holds _ (own o)))
      ∙ ap (λ r. cond (fits u o (w o)) r (Some o)) (unfit-same v w os (λ p m. h p (more p (p == o) m)))
    where
      own : (p : ℕ) → (p == p || member p os) ≡ true
      own p = ap (λ b. b || member p os) (same p)
        where
          same : (m : ℕ) → (m == m) ≡ true
          same m = grind (arith, nat_tests)

      holds : (b : Bool) → b ≡ true → T b
      holds b e = subst T (sym e) tt

      more : (p : ℕ) (b : Bool) → T (member p os) → T (b || member p os)
      more p true m = tt
      more p false m = m

  -- the images of these operands, and no others
  abbrev pub Changes : Images → List ℕ → Images → Type 0
  Changes v os w = (first_unfit u v os ≡ None) × ((o : ℕ) → w o ≡ cond (member o os) (effect u o (v o)) (v o))

  abbrev pub Unfit : Images → List ℕ → Type 0
  Unfit v os = (o : ℕ) × (first_unfit u v os ≡ Some o)

  pub none-changed : (v : Images) (os : List ℕ) → os ≡ [] → Changes v os v
  none-changed v os e = (ap (first_unfit u v) e, λ o. ap (λ l. cond (member o l) (effect u o (v o)) (v o)) (sym e))

  module _ (k : ℕ) (os rest : List ℕ) (split : os ≡ k ∷ rest) (v : Images) where
    pub first-fails : fits u k (v k) ≡ false → Unfit v os
    first-fails f = (k, ap (first_unfit u v) split ∙ ap (λ b. cond b (first_unfit u v rest) (Some k)) f)

    module _ (w : Images) (apart : distinct os ≡ true) (fit : fits u k (v k) ≡ true) (one : (o : ℕ) → w o ≡ cond (o == k) (effect u k (v k)) (v o)) where
      absent : member k rest ≡ false
      absent = go (member k rest) (and_parts (not (member k rest)) (distinct rest) (ap distinct (sym split) ∙ apart)).0
        where
          go : (b : Bool) → not b ≡ true → b ≡ false
          go true e = sym e
          go false e = refl

      other : (o : ℕ) → T (member o rest) → (o == k) ≡ false
      other o m = go (o == k) refl
        where
          go : (b : Bool) → (o == k) ≡ b → b ≡ false
          go false e = refl
          go true e = absurd (subst T (ap (λ x. member x rest) (eqb-true o k e) ∙ absent) m)

      same : first_unfit u v os ≡ first_unfit u w rest
      same = ap (first_unfit u v) split ∙ ap (λ b. cond b (first_unfit u v rest) (Some k)) fit ∙ unfit-same v w rest (λ o m. sym (one o ∙ ap (λ b. cond b (effect u k (v k)) (v o)) (other o m)))

      changes : (x : Images) → Changes w rest x → Changes v os x
      changes x h = (
        same ∙ h.0,
        λ o. h.1 o ∙ go o (o == k) refl ∙ sym (ap (λ l. cond (member o l) (effect u o (v o)) (v o)) split),
      )
        where
          go : (o : ℕ) (b : Bool) → (o == k) ≡ b → cond (member o rest) (effect u o (w o)) (w o) ≡ cond (b || member o rest) (effect u o (v o)) (v o)
          go o true e =
              let is : o ≡ k = eqb-true o k e in
              ap (λ b. cond b (effect u o (w o)) (w o)) (ap (λ y. member y rest) is ∙ absent)
              ∙ one o ∙ ap (λ b. cond b (effect u k (v k)) (v o)) e ∙ ap (λ y. effect u y (v y)) (sym is)
          go o false e = ap (λ i. cond (member o rest) (effect u o i) i) (one o ∙ ap (λ b. cond b (effect u k (v k)) (v o)) e)

      pub all-changed : {E : Type 0} (r : Result Bool E) (x : Images) → IfOk r (λ b. MatchBool b (Changes w rest x) (Unfit w rest)) → IfOk r (λ b. MatchBool b (Changes v os x) (Unfit v os))
      all-changed (Ok true) x h = changes x h
      all-changed (Ok false) x h = (h.0, same ∙ h.1)
      all-changed (Err e) x h = tt
