-- What the verdicts on a call say.
use Rattle.std.proofs.Common.{◌≡◌, refl, sym, ap, ◌∙◌, subst, arith, ℕ, Bool, true, false, not, ◌&&◌, ◌||◌, List, [], ◌∷◌}
use Rattle.std.specs.Prelude.{Option, None, Some, ◌==◌}
use Rattle.std.specs.List.{list_any}
use Rattle.std.proofs.lemmas.Bool.{and_parts, eqb-true, ne_eqb}
use Rattle.ec_base.specs.Tables.{at_or, first}
use Rattle.ec_base.specs.Holds.{is_below, weaker}
use Rattle.ec_base.specs.declared.ids.Hold.{Hold}
use Rattle.ec_base.specs.declared.ids.Hold.TheVariants.{Free, Read, Write}
use Rattle.ec_history.specs.History.{Each}
use Rattle.ec_volume.specs.Image.{is_id}
use Rattle.ec_volume.specs.Update.{is_make, operands}
use Rattle.ec_volume.specs.declared.update.Update.{Update}
use Rattle.ec_plain.specs.declared.call.Call.{Call}
use Rattle.ec_plain.specs.declared.call.Outcome.{Outcome}
use Rattle.ec_cache.specs.Cache.{counted, holds, last, mode}
use Rattle.ec_cache.specs.declared.state.CacheState.{CacheState}
use Rattle.ec_cache.specs.OfResolve.Resolve.{asked, evaluate, first_unread, first_unwritten, lacking, lacks_id, outcome, seen}
use Rattle.ec_cache.specs.declared.resolve.verdict.Verdict.{Verdict}
use Rattle.ec_cache.specs.declared.resolve.verdict.Verdict.TheVariants.{Need, Lost, NeedIds, Done}
use Rattle.ec_protocol.specs.Clerk.{is_wanted, same_hold, wanted}
use Rattle.ec_protocol.specs.declared.clerk.Clerk.{Clerk}
use Rattle.ec_protocol.specs.declared.clerk.Wanted.{Wanted}
use Rattle.ec_quiet.specs.Facts.{WantIsAnswered}

pub first-passes : (p : ℕ → Bool) (xs : List ℕ) (x : ℕ) → first p xs ≡ Some x → p x ≡ true
first-passes p [] x e = absurd (grind (arith, e))
first-passes p (y ∷ ys) x e = go (p y) refl e (first-passes p ys x)
  where
    go : (b : Bool) → p y ≡ b → elim b as (λ z. Option ℕ) [ true ↦ Some y | false ↦ first p ys ] ≡ Some x → (first p ys ≡ Some x → p x ≡ true) → p x ≡ true
    go true q f r = subst (λ z. p z ≡ true) (cc) q
    go false q f r = r f

no-longer : (b : Bool) → not b ≡ true → b ≡ false
no-longer true e = absurd (grind (arith, e))
no-longer false e = refl

held-not : (b : Bool) → not b ≡ false → b ≡ true
held-not true e = refl
held-not false e = absurd (grind (arith, e))

-- Nothing is owed: the next thing that a call lacks is judged by what is held.
module _ (k : CacheState) (cl : Call) (fresh : Option ℕ) where
  unwritten-lacks : (idless : Bool) (u : Option Update) (y : ℕ) → first_unwritten k idless u ≡ Some y → holds y Write k ≡ false
  unwritten-lacks idless None y e = absurd (grind (arith, e))
  unwritten-lacks idless (Some u) y e = no-longer (holds y Write k) (first-passes (λ x. not (holds x Write k)) (asked idless (operands u)) y e)

  unread-lacks : (xs : List ℕ) (y : ℕ) → first_unread k fresh xs ≡ Some y → holds y Read k ≡ false
  unread-lacks xs y e = no-longer (holds y Read k) (and_parts (not (is_id y fresh)) (not (holds y Read k)) (first-passes (λ x. not (is_id x fresh) && not (holds x Read k)) xs y e)).1

  same-need : (x y : ℕ) (h g : Hold) → Need y g ≡ Need x h → holds y g k ≡ false → holds x h k ≡ false
  same-need x y h g e f = let same : y ≡ x = (cc) in let mode : g ≡ h = (cc) in sym (λ i. holds (same i) (mode i) k) ∙ f

  -- an object that is needed isn't held so
  pub need-lacks : (x : ℕ) (h : Hold) → evaluate k [] cl fresh ≡ Need x h → holds x h k ≡ false
  need-lacks x h e = let out = outcome k cl fresh in reads (lacks_id fresh out.update) out (first_unread k fresh (seen (lacks_id fresh out.update) out.touched)) refl e
    where
      writes : (idless : Bool) (out : Outcome) (o : Option ℕ) → first_unwritten k idless out.update ≡ o
          → elim o as (λ z. Verdict) [ Some x ↦ Need x Write | None ↦ elim idless [ true ↦ NeedIds (seen true out.touched) | false ↦ Done out ] ] ≡ Need x h → holds x h k ≡ false
      writes idless out (Some y) q e = same-need x y h Write e (unwritten-lacks idless out.update y q)
      writes true out None q e = absurd (grind (arith, e))
      writes false out None q e = absurd (grind (arith, e))

      reads : (idless : Bool) (out : Outcome) (o : Option ℕ) → first_unread k fresh (seen idless out.touched) ≡ o → elim o as (λ z. Verdict) [ Some x ↦ Need x Read | None ↦ lacking k idless out ] ≡ Need x h → holds x h k ≡ false
      reads idless out (Some y) q e = same-need x y h Read e (unread-lacks (seen idless out.touched) y q)
      reads idless out None q e = writes idless out (first_unwritten k idless out.update) refl e

  -- no loss is reported
  pub never-lost : (ns xs : List ℕ) → evaluate k [] cl fresh ≡ Lost ns xs → ⊥
  never-lost ns xs e = let out = outcome k cl fresh in reads (lacks_id fresh out.update) out (first_unread k fresh (seen (lacks_id fresh out.update) out.touched)) e
    where
      writes : (idless : Bool) (out : Outcome) (o : Option ℕ) → elim o as (λ z. Verdict) [ Some x ↦ Need x Write | None ↦ elim idless [ true ↦ NeedIds (seen true out.touched) | false ↦ Done out ] ] ≡ Lost ns xs → ⊥
      writes idless out (Some y) e = grind (arith, e)
      writes true out None e = grind (arith, e)
      writes false out None e = grind (arith, e)

      reads : (idless : Bool) (out : Outcome) (o : Option ℕ) → elim o as (λ z. Verdict) [ Some x ↦ Need x Read | None ↦ lacking k idless out ] ≡ Lost ns xs → ⊥
      reads idless out (Some y) e = grind (arith, e)
      reads idless out None e = writes idless out (first_unwritten k idless out.update) e

  -- where an id is lacked, there is none
  pub idless-none : (xs : List ℕ) → evaluate k [] cl fresh ≡ NeedIds xs → fresh ≡ None
  idless-none xs e = let out = outcome k cl fresh in reads (lacks_id fresh out.update) refl (first_unread k fresh (seen (lacks_id fresh out.update) out.touched)) e
    where
      out : Outcome
      out = outcome k cl fresh

      none : (f : Option ℕ) (u : Option Update) → lacks_id f u ≡ true → f ≡ None
      none None u e = refl
      none (Some x) None e = absurd (grind (arith, e))
      none (Some x) (Some u) e = absurd (true-false (is_make u) e)
        where
          true-false : (b : Bool) → (b && false) ≡ true → ⊥
          true-false true e = grind (arith, e)
          true-false false e = grind (arith, e)

      writes : (idless : Bool) → lacks_id fresh out.update ≡ idless → (o : Option ℕ) → elim o as (λ z. Verdict) [ Some x ↦ Need x Write | None ↦ elim idless [ true ↦ NeedIds (seen true out.touched) | false ↦ Done out ] ] ≡ NeedIds xs → fresh ≡ None
      writes idless i (Some y) e = absurd (grind (arith, e))
      writes true i None e = none fresh out.update i
      writes false i None e = absurd (grind (arith, e))

      reads : (idless : Bool) → lacks_id fresh out.update ≡ idless → (o : Option ℕ) → elim o as (λ z. Verdict) [ Some x ↦ Need x Read | None ↦ lacking k idless out ] ≡ NeedIds xs → fresh ≡ None
      reads idless i (Some y) e = absurd (grind (arith, e))
      reads idless i None e = writes idless i (first_unwritten k idless out.update) e

-- Without marks all of a token counts.
pub lacks-below : (x : ℕ) (h : Hold) (k : CacheState) → k.limits ≡ [] → holds x h k ≡ false → is_below (mode x k) h ≡ true
lacks-below x h k none e = ap (λ m. is_below m h) (whole (mode x k) ∙ ap (λ l. weaker (mode x k) (at_or Write x l)) (sym none)) ∙ held-not (is_below (counted x k) h) e
  where
    whole : (m : Hold) → m ≡ weaker m Write
    whole Free = refl
    whole Read = refl
    whole Write = refl

-- No want of this object was sent with this last number.

differs : (a b c : Bool) → (a ≡ true → c ≡ false) → (a && b && c) ≡ false
differs true true c f = f refl
differs true false c f = refl
differs false b c f = refl

neither : (a b : Bool) → a ≡ false → b ≡ false → (a || b) ≡ false
neither true b e f = absurd (grind (arith, e))
neither false b e f = f

pub wants-once : (x : ℕ) (h : Hold) (k : Clerk) (ws : List Wanted) → Each (WantIsAnswered k.cache) ws → list_any (is_wanted (wanted x h k)) ws ≡ false
wants-once x h k [] e = refl
wants-once x h k (w ∷ ws) e = neither (is_wanted (wanted x h k) w) (list_any (is_wanted (wanted x h k)) ws) (differs (x == w.obj) (same_hold h w.hold) (last x k.cache == w.last) later) (wants-once x h k ws e.1)
  where
    later : (x == w.obj) ≡ true → (last x k.cache == w.last) ≡ false
    later q = let same : last w.obj k.cache ≡ last x k.cache = ap (λ y. last y k.cache) (sym (eqb-true x w.obj q)) in ne_eqb (last x k.cache) w.last (λ z. absurd (omega (arith, z, e.0, same)))
