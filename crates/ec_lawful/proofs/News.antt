-- Fresh ids are new: of no object of the volume, and made by no operation that was issued before.
use Rattle.std.proofs.Common.{◌≡◌, refl, sym, ap, subst, ◌∙◌, ◌+◌, ◌==◌, ◌||◌, arith, ℕ, Bool, true, false, T, List, [], ◌∷◌, ◌++◌, Option, None, Some}
use Rattle.std.proofs.lemmas.Bool.{true≢false}
use Rattle.ec_volume.specs.Image.{is_gone}
use Rattle.ec_volume.specs.Update.{is_make, member}
use Rattle.ec_volume.specs.Volume.{Images, after}
use Rattle.ec_volume.specs.declared.update.Update.{Update}
use Rattle.ec_volume.specs.declared.update.Update.TheVariants.{Make, Drop, Move, Put, Len, Mode, Stamp, Order, Shift, Owner}
use Rattle.ec_plain.specs.Plain.{plain}
use Rattle.ec_plain.specs.declared.call.Call.{Call}
use Rattle.ec_plain.specs.declared.call.Call.TheVariants as call
use Rattle.ec_history.specs.History.{Base, Each, History, Op, Throughout, issued_by, issued_from, kept, kept_next, outcome, updates}
use Rattle.ec_history.specs.Legal.{is_making}
use Rattle.ec_history.specs.declared.entry.Entry.{Entry}
use Rattle.ec_history.specs.declared.entry.Entry.TheVariants as entry
use Rattle.ec_history.proofs.OfLaws.ForPlacing.Numbers.{each-append}
use Rattle.ec_history.proofs.OfLaws.ForFormed.Fresh.{plain-makes}
use Rattle.ec_history.specs.OfLaws.Placing.{made_ids}
use Rattle.ec_history.specs.OfLaws.NewIds.{IsNewId}
use Rattle.ec_coherence.specs.System.{System, base_of}
use Rattle.ec_history.specs.Placing.{place}
use Rattle.ec_history.specs.declared.shown.Shown.{Shown}
use Rattle.ec_lawful.specs.Fresh.{FreshAgrees}
use Rattle.ec_lawful.specs.Creates.{creates}
use Rattle.ec_lawful.specs.FreshIds.{IsFresh, IsGiven, MadeNone, OnCreate}

-- Calls that make an object make the one with the fresh id, and others make none.

none-made : (u : Update) → is_make u ≡ false → made_ids u ≡ []
none-made (Make dir name obj k) e = absurd (true≢false e)
none-made (Drop dir name obj k) e = refl
none-made (Move dir from to obj k victim) e = refl
none-made (Put obj at bytes inside) e = refl
none-made (Len obj len) e = refl
none-made (Mode obj mode) e = refl
none-made (Stamp obj stamp) e = refl
none-made (Order objs) e = refl
none-made (Shift dir from into to obj k victim up) e = refl
none-made (Owner obj owner) e = refl

pub same-plain : (v : Images) (cl : Call) (x y : ℕ) → creates cl ≡ false → plain v cl x ≡ plain v cl y
same-plain v (call.Mkdir path) x y n = absurd (true≢false n)
same-plain v (call.Create path) x y n = absurd (true≢false n)
same-plain v (call.Write path at bytes) x y n = refl
same-plain v (call.SetLen path len) x y n = refl
same-plain v (call.Read path at count) x y n = refl
same-plain v (call.Chmod path mode) x y n = refl
same-plain v (call.Touch path stamp) x y n = refl
same-plain v (call.Stat path) x y n = refl
same-plain v (call.List path) x y n = refl
same-plain v (call.Remove path) x y n = refl
same-plain v (call.Rmdir path) x y n = refl
same-plain v (call.Rename path target) x y n = refl
same-plain v (call.Fsync path) x y n = refl
same-plain v (call.Forder paths) x y n = refl
same-plain v call.Sync x y n = refl
same-plain v (call.Chown path owner) x y n = refl

module _ (v : Images) (cl : Call) (x : ℕ) where
  -- the object made is the fresh one
  fresh-made : (y : ℕ) → (y == x) ≡ false → (u : Update) → (plain v cl x).update ≡ Some u → member y (made_ids u) ≡ false
  fresh-made y n (Make dir name obj k) e = ap (λ z. (y == z) || false) (plain-makes x v cl (Make dir name obj k) e obj refl) ∙ ap (λ z. z || false) n
  fresh-made y n (Drop dir name obj k) e = refl
  fresh-made y n (Move dir from to obj k victim) e = refl
  fresh-made y n (Put obj at bytes inside) e = refl
  fresh-made y n (Len obj len) e = refl
  fresh-made y n (Mode obj mode) e = refl
  fresh-made y n (Stamp obj stamp) e = refl
  fresh-made y n (Order objs) e = refl
  fresh-made y n (Shift dir from into to obj k victim up) e = refl
  fresh-made y n (Owner obj owner) e = refl

  module _ (n : creates cl ≡ false) where
    no-make : (u : Update) → (plain v cl x).update ≡ Some u → is_make u ≡ true → ⊥
    no-make (Make dir name obj k) e m = apart (plain-makes x v cl (Make dir name obj k) e obj refl) (plain-makes (x + 1) v cl (Make dir name obj k) (ap (λ o. o.update) (same-plain v cl (x + 1) x n) ∙ e) obj refl)
      where
        apart : obj ≡ x → obj ≡ x + 1 → ⊥
        apart a b = absurd (omega (arith, a, b))
    no-make (Drop dir name obj k) e m = true≢false (sym m)
    no-make (Move dir from to obj k victim) e m = true≢false (sym m)
    no-make (Put obj at bytes inside) e m = true≢false (sym m)
    no-make (Len obj len) e m = true≢false (sym m)
    no-make (Mode obj mode) e m = true≢false (sym m)
    no-make (Stamp obj stamp) e m = true≢false (sym m)
    no-make (Order objs) e m = true≢false (sym m)
    no-make (Shift dir from into to obj k victim up) e m = true≢false (sym m)
    no-make (Owner obj owner) e m = true≢false (sym m)

    no-ids : (y : ℕ) (u : Update) → (plain v cl x).update ≡ Some u → member y (made_ids u) ≡ false
    no-ids y u e = go (is_make u) refl
      where
        go : (z : Bool) → is_make u ≡ z → member y (made_ids u) ≡ false
        go true m = absurd (no-make u e m)
        go false m = ap (member y) (none-made u m)

  -- where an object is made, the call is one of those
  makes-creates : is_making (plain v cl x).update ≡ true → creates cl ≡ true
  makes-creates m = go (creates cl) refl
    where
      by : creates cl ≡ false → (o : Option Update) → (plain v cl x).update ≡ o → is_making o ≡ true → ⊥
      by n None e k = true≢false (sym k)
      by n (Some u) e k = no-make n u e k

      go : (z : Bool) → creates cl ≡ z → creates cl ≡ true
      go true e = e
      go false e = absurd (by e (plain v cl x).update refl m)

-- Histories.

module _ (v : Images) (f : ℕ → ℕ) where
  abbrev base : Base
  base = record { volume = v; fresh = f }

  abbrev Unmade : ℕ → List Op → Type 0
  Unmade x os = Each (λ o. member x (made_ids o.update) ≡ false) os

  unlike : (x y : ℕ) → (y ≡ x → ⊥) → (x == y) ≡ false
  unlike x y n = go (x == y) refl
    where
      is : (x y : ℕ) → (x == y) ≡ true → y ≡ x
      is x y e = grind arith

      go : (z : Bool) → (x == y) ≡ z → z ≡ false
      go true e = absurd (n (is x y e))
      go false e = refl

  one-unmade : (ks : List Op) (x : ℕ) (e : ℕ × Entry) → OnCreate (λ p c b op. f p ≡ x → op ≡ None) e → Unmade x (issued_by base ks e)
  one-unmade ks x (p, entry.Call c b l begun cl a None) m = tt
  one-unmade ks x (p, entry.Call c b l begun cl a (Some n)) m = by (outcome base ks p cl).update refl
    where
      one : (u : Update) → (outcome base ks p cl).update ≡ Some u → (z : Bool) → creates cl ≡ z → member x (made_ids u) ≡ false
      one u e true cr = fresh-made (after v (updates ks)) cl (f p) x (unlike x (f p) (λ q. none (m cr q))) u e
        where
          none : Some n ≡ None → ⊥
          none q = cc
      one u e false cr = no-ids (after v (updates ks)) cl (f p) cr x u e

      by : (o : Option Update) → (outcome base ks p cl).update ≡ o → Unmade x (elim o as (λ z. List Op) [ None ↦ [] | Some u ↦ record { clerk = c; boot = b; number = n; place = p; update = u } ∷ [] ])
      by None e = tt
      by (Some u) e = (one u e (creates cl) refl, tt)
  one-unmade ks x (p, entry.Loss c b ns) m = tt

  unmade : (ks : List Op) (h : History) (x : ℕ) → MadeNone f x h → Unmade x (issued_from base ks h)
  unmade ks [] x m = tt
  unmade ks (e ∷ h) x m = each-append (λ o. member x (made_ids o.update) ≡ false) (issued_by base ks e) (issued_from base (kept_next base ks e) h) (one-unmade ks x e m.0) (unmade (kept_next base ks e) h x m.1)

  gone-so : (next : ℕ) (e : ℕ × Entry) (past : History) → IsGiven v f next e → IsFresh f past e → IsNewId v f past e
  gone-so next (p, entry.Call c b l begun cl a op) past g m w =
      let cr = makes-creates (after v (updates (kept base past))) cl (f p) w in
      (subst (λ i. T (is_gone i)) (sym (g cr).1) tt, unmade [] past (f p) (m cr))
  gone-so next (p, entry.Loss c b ns) past g m w = absurd w

  -- ids that were given out and are fresh are new
  pub fresh-new : (next : ℕ) (past h : History) → Each (IsGiven v f next) h → Throughout (IsFresh f) past h → Throughout (IsNewId v f) past h
  fresh-new next past [] g t = tt
  fresh-new next past (e ∷ h) g t = (gone-so next e past g.0 t.0, fresh-new next (past ++ e ∷ []) h g.1 t.1)

pub ids-new : (g : System) → FreshAgrees g → (front rest : List Shown) → front ++ rest ≡ g.ghost.shown → Throughout (IsNewId g.origin (base_of g).fresh) [] (place front)
ids-new g fa front rest e = let a = fa.fronts front rest e in fresh-new g.origin (base_of g).fresh g.durable.next_id [] (place front) a.0 a.1
