-- What a call's verdict says of the modes that it asks for and that are held.
use Rattle.std.proofs.Common.{◌≡◌, refl, ap, subst, ◌∙◌, arith, ℕ, zero, suc, Bool, true, false, not, ◌||◌, T, ◌<◌, List, [], ◌∷◌, length}
use Rattle.std.specs.Prelude.{◌==◌, Option, None, Some, Contains, slice_index_or, nat_lt}
use Rattle.ec_base.specs.Tables.{at, at_or, first, or_else}
use Rattle.ec_base.specs.declared.ids.Hold.{Hold}
use Rattle.ec_base.specs.declared.ids.Hold.TheVariants.{Free, Read, Write}
use Rattle.ec_volume.specs.Update.{member, operands, has_operand}
use Rattle.ec_volume.specs.declared.update.Update.{Update}
use Rattle.ec_plain.specs.declared.call.Call.{Call}
use Rattle.ec_plain.specs.declared.call.Outcome.{Outcome}
use Rattle.ec_history.specs.History.{Each}
use Rattle.ec_base.specs.Holds.{rank, is_write, weaker}
use Rattle.ec_wire.specs.Messages.{is_held_mode}
use Rattle.ec_cache.specs.Cache.{holds, mode, held_mode}
use Rattle.ec_cache.specs.declared.state.CacheState.{CacheState}
use Rattle.ec_cache.specs.declared.state.Held.{Held}
use Rattle.ec_cache.specs.OfReport.Report.{Owed, due}
use Rattle.ec_cache.specs.OfResolve.Resolve.{outcome, lacks_id, seen, first_unread, met, first_unwritten, lacking, reported, evaluate}
use Rattle.ec_cache.specs.declared.resolve.verdict.Verdict.{Verdict}
use Rattle.ec_cache.specs.declared.resolve.verdict.Verdict.TheVariants.{Need, NeedIds, Done}
use Rattle.ec_protocol.specs.Clerk.{need_of}
use Rattle.ec_coherence.specs.Tokens.{IsWrite}
use Rattle.ec_base.proofs.Numbers.{equal}

-- A message of the pool fits.

each-place : {A : Type 0} (P : A → Type 0) (xs : List A) (k : ℕ) (d : A) → Each P xs → k < length xs → P (slice_index_or xs k d)
each-place P [] k d h l = absurd (omega arith)
each-place P (x ∷ xs) zero d h l = h.0
each-place P (x ∷ xs) (suc k) d h l = each-place P xs k d h.1 (omega arith)

pub each-of : {A : Type 0} (P : A → Type 0) (xs : List A) (x : A) → Each P xs → Contains xs x → P x
each-of P xs x h c = subst P c.2 (each-place P xs c.0 x h c.1)

-- A call asks for Read or Write.

abbrev AsksHeld : Verdict → Type 0
AsksHeld v = Each (λ p. T (is_held_mode p.1)) (need_of v)

lacking-held : (k : CacheState) (idless : Bool) (out : Outcome) → AsksHeld (lacking k idless out)
lacking-held k idless out = go (first_unwritten k idless out.update) idless
  where
    go : (o : Option ℕ) (b : Bool) → AsksHeld (elim o as (λ z. Verdict) [ Some x ↦ Need x Write | None ↦ elim b as (λ z. Verdict) [ true ↦ NeedIds (seen true out.touched) | false ↦ Done out ] ])
    go (Some x) b = (tt, tt)
    go None true = tt
    go None false = tt

reported-held : (ns xs : List ℕ) (v : Verdict) → AsksHeld v → AsksHeld (or_else v (reported ns xs))
reported-held [] xs v h = h
reported-held (n ∷ ns) xs v h = tt

pub asks-held : (k : CacheState) (owed : Owed) (cl : Call) (fresh : Option ℕ) → Each (λ p. T (is_held_mode p.1)) (need_of (evaluate k owed cl fresh))
asks-held k owed cl fresh = go (first_unread k fresh xs)
  where
    out : Outcome
    out = outcome k cl fresh

    idless : Bool
    idless = lacks_id fresh out.update

    xs : List ℕ
    xs = seen idless out.touched

    go : (o : Option ℕ) → AsksHeld (elim o as (λ z. Verdict) [
      | Some x ↦ Need x Read
      | None ↦ or_else (lacking k idless out) (reported (due (met owed cl xs) owed) (met owed cl xs))
    ])
    go (Some x) = (tt, tt)
    go None = reported-held (due (met owed cl xs) owed) (met owed cl xs) (lacking k idless out) (lacking-held k idless out)

-- An update that is done has Write on its operands.

full-write : (a b : Hold) → not (nat_lt (rank (weaker a b)) 2) ≡ true → T (is_write a)
full-write Free Free e = absurd (cc)
full-write Free Read e = absurd (cc)
full-write Free Write e = absurd (cc)
full-write Read Free e = absurd (cc)
full-write Read Read e = absurd (cc)
full-write Read Write e = absurd (cc)
full-write Write b e = tt

pub holds-write : (x : ℕ) (k : CacheState) → holds x Write k ≡ true → IsWrite (at x k.held)
holds-write x k e = go (at x k.held) (full-write (mode x k) (at_or Write x k.limits) e)
  where
    go : (o : Option Held) → T (is_write (held_mode o)) → IsWrite o
    go None h = h
    go (Some d) h = h

none-first : (p : ℕ → Bool) (xs : List ℕ) (x : ℕ) → first p xs ≡ None → member x xs ≡ true → p x ≡ false
none-first p [] x e m = absurd (cc)
none-first p (y ∷ xs) x e m = go (p y) (x == y) refl refl e m (none-first p xs x)
  where
    go : (a b : Bool) → p y ≡ a → (x == y) ≡ b → (elim a as (λ z. Option ℕ) [ true ↦ Some y | false ↦ first p xs ]) ≡ None → (b || member x xs) ≡ true → (first p xs ≡ None → member x xs ≡ true → p x ≡ false) → p x ≡ false
    go true b q r e m f = absurd (cc)
    go false true q r e m f = ap p (equal x y r) ∙ q
    go false false q r e m f = f e m

-- where nothing is lacked
pub done-writes : (k : CacheState) (u : Update) → first_unwritten k false (Some u) ≡ None → (x : ℕ) → has_operand x u ≡ true → IsWrite (at x k.held)
done-writes k u e x m = holds-write x k (on (holds x Write k) (none-first (λ y. not (holds y Write k)) (operands u) x e m))
  where
    on : (b : Bool) → not b ≡ false → b ≡ true
    on true p = refl
    on false p = absurd (cc)
