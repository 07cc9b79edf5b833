-- Which calls touched each object, one more call.
use Rattle.std.proofs.Common.{◌≡◌, refl, sym, ap, subst, ◌∙◌, arith, ℕ, ◌<◌, ◌+◌, Bool, true, false, not, ◌==◌, ◌&&◌, ◌||◌, cond, List, [], ◌∷◌, Option, Some, None}
use Rattle.std.specs.Prelude.{nat_lt}
use Rattle.std.specs.List.{list_any}
use Rattle.std.proofs.lemmas.Bool.{eqb-true}
use Rattle.std.proofs.lemmas.Bool.Decides.{nat_tests}
use Rattle.ec_volume.specs.Update.{member}
use Rattle.ec_judge.specs.declared.carried.Touches.{Touches}
use Rattle.ec_judge.specs.Carried.{Known, touched_next, is_since, AreBelow}
use Rattle.ec_base.proofs.Bools.{or-none, and-false}
use Rattle.ec_base.proofs.Numbers.{flip_too}

or-all : (x : Bool) → true ≡ (x || true)
or-all true = refl
or-all false = refl

-- a call of the clerk c at the turn t touched these objects
module _ (c t : ℕ) (objs : List ℕ) (old new : Known) (is : (o : ℕ) → new o ≡ cond (member o objs) (Some (touched_next c t (old o))) (old o)) where
  one-since : (d u : ℕ) (x : Option Touches) → u < t → is_since d u (Some (touched_next c t x)) ≡ (is_since d u x || (not (d == c) && true))
  one-since d u None l = go (c == d) refl
    where
      none : nat_lt u 0 ≡ false
      none = grind (arith, nat_tests)

      some : nat_lt u t ≡ true
      some = grind (arith, nat_tests, l)

      go : (b : Bool) → (c == d) ≡ b → nat_lt u (cond (c == d) 0 t) ≡ (false || (not (d == c) && true))
      go true e = ap (λ z. nat_lt u (cond z 0 t)) e ∙ none ∙ sym (ap (λ z. false || (not z && true)) (flip_too d c ∙ e))
      go false e = ap (λ z. nat_lt u (cond z 0 t)) e ∙ some ∙ sym (ap (λ z. false || (not z && true)) (flip_too d c ∙ e))
  one-since d u (Some x) l = go (c == d) refl
    where
      some : nat_lt u t ≡ true
      some = grind (arith, nat_tests, l)

      go : (b : Bool) → (c == d) ≡ b → nat_lt u (cond (c == d) (cond (x.clerk == c) x.other x.last) t) ≡ (nat_lt u (cond (x.clerk == d) x.other x.last) || (not (d == c) && true))
      go true e =
          ap (λ z. nat_lt u (cond z (cond (x.clerk == c) x.other x.last) t)) e
          ∙ ap (λ z. nat_lt u (cond (x.clerk == z) x.other x.last)) (eqb-true c d e)
          ∙ or-none (nat_lt u (cond (x.clerk == d) x.other x.last))
          ∙ sym (ap (λ z. nat_lt u (cond (x.clerk == d) x.other x.last) || (not z && true)) (flip_too d c ∙ e))
      go false e =
          ap (λ z. nat_lt u (cond z (cond (x.clerk == c) x.other x.last) t)) e
          ∙ some
          ∙ or-all (nat_lt u (cond (x.clerk == d) x.other x.last))
          ∙ sym (ap (λ z. nat_lt u (cond (x.clerk == d) x.other x.last) || (not z && true)) (flip_too d c ∙ e))

  since-next : (d u o : ℕ) → u < t → is_since d u (new o) ≡ (is_since d u (old o) || (not (d == c) && member o objs))
  since-next d u o l = ap (is_since d u) (is o) ∙ go (member o objs)
    where
      go : (m : Bool) → is_since d u (cond m (Some (touched_next c t (old o))) (old o)) ≡ (is_since d u (old o) || (not (d == c) && m))
      go true = one-since d u (old o) l
      go false = or-none (is_since d u (old o)) ∙ ap (λ z. is_since d u (old o) || z) (and-false (not (d == c)))

  -- what was issued before the call
  pub any-since : (d u : ℕ) (os : List ℕ) → u < t → list_any (λ o. is_since d u (new o)) os ≡ (list_any (λ o. is_since d u (old o)) os || (not (d == c) && list_any (λ o. member o objs) os))
  any-since d u [] l = and-false (not (d == c))
  any-since d u (o ∷ os) l = ap (λ z. z || list_any (λ o. is_since d u (new o)) os) (since-next d u o l) ∙ ap (λ z. (is_since d u (old o) || (not (d == c) && member o objs)) || z) (any-since d u os l)
      ∙ mix (is_since d u (old o)) (not (d == c)) (member o objs) (list_any (λ o. is_since d u (old o)) os) (list_any (λ o. member o objs) os)
    where
      mix : (p z q r s : Bool) → ((p || (z && q)) || (r || (z && s))) ≡ ((p || r) || (z && (q || s)))
      mix true z q r s = refl
      mix false true true true s = refl
      mix false true true false s = refl
      mix false true false r s = refl
      mix false false q r s = refl

  -- the turns are below the next one
  pub below-next : (n o : ℕ) → t ≡ n → AreBelow n (old o) → AreBelow (n + 1) (new o)
  below-next n o e h = subst (AreBelow (n + 1)) (sym (is o)) (go (member o objs) (old o) h)
    where
      now : t < n + 1
      now = omega (arith, e)

      pick : (b : Bool) (x y : ℕ) → x < n → y < n → cond b x y < n + 1
      pick true x y l m = omega (arith, l)
      pick false x y l m = omega (arith, m)

      go : (m : Bool) (x : Option Touches) → AreBelow n x → AreBelow (n + 1) (cond m (Some (touched_next c t x)) x)
      go true None h = (now, omega arith)
      go true (Some x) h = (now, pick (x.clerk == c) x.other x.last h.1 h.0)
      go false None h = tt
      go false (Some x) h = (omega (arith, h.0), omega (arith, h.1))

-- no call touched the object behind the last turn
pub none-since : (d n : ℕ) (ts : Known) (os : List ℕ) → ((o : ℕ) → AreBelow (n + 1) (ts o)) → list_any (λ o. is_since d n (ts o)) os ≡ false
none-since d n ts [] h = refl
none-since d n ts (o ∷ os) h = ap (λ z. z || list_any (λ o. is_since d n (ts o)) os) (one (ts o) (h o)) ∙ none-since d n ts os h
  where
    late : (b : Bool) (x y : ℕ) → x < n + 1 → y < n + 1 → nat_lt n (cond b x y) ≡ false
    late true x y l m = grind (arith, nat_tests, l)
    late false x y l m = grind (arith, nat_tests, m)

    one : (x : Option Touches) → AreBelow (n + 1) x → is_since d n x ≡ false
    one None h = refl
    one (Some x) h = late (x.clerk == d) x.other x.last h.1 h.0
