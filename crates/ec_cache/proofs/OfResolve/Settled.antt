-- What is done where a cache shows a volume is what the call comes to on the volume.
use Rattle.std.proofs.Common.{◌≡◌, ◌∙◌, ℕ, T, Bool, true, false, not, ◌==◌, ◌&&◌, ◌||◌, List, [], ◌∷◌, Option, Some, None, refl, ap, arith, inl, inr, ◌⊎◌}
use Rattle.std.proofs.lemmas.Bool.Decides.{nat_tests}
use Rattle.ec_base.specs.Tables.{first, or_else}
use Rattle.ec_base.specs.declared.ids.Hold.TheVariants.{Read, Write}
use Rattle.ec_volume.specs.Image.{is_id}
use Rattle.ec_volume.specs.Update.{member}
use Rattle.ec_volume.specs.Volume.{Images}
use Rattle.ec_plain.specs.Plain.{plain}
use Rattle.ec_plain.specs.declared.call.Call.{Call}
use Rattle.ec_plain.specs.declared.call.Outcome.{Outcome}
use Rattle.ec_cache.specs.Cache.{holds, images_held}
use Rattle.ec_cache.specs.declared.state.CacheState.{CacheState}
use Rattle.ec_cache.specs.OfReport.Report.{Owed, due}
use Rattle.ec_cache.specs.OfResolve.Agreement.{Shows}
use Rattle.ec_cache.specs.OfResolve.Resolve.{outcome, lacks_id, seen, first_unread, first_unwritten, met, reported, evaluate}
use Rattle.ec_cache.specs.declared.resolve.verdict.Verdict.{Verdict}
use Rattle.ec_cache.specs.declared.resolve.verdict.Verdict.TheVariants.{Need, NeedIds, Done}
use Rattle.ec_cache.proofs.OfResolve.Agreeing.{plain-agrees}

-- none passes the test
pub first-none : (p : ℕ → Bool) (xs : List ℕ) → first p xs ≡ None → (x : ℕ) → T (member x xs) → p x ≡ false
first-none p [] e x m = absurd m
first-none p (y ∷ xs) e x m = go (p y) refl (x == y) refl e m (first-none p xs)
  where
    same : (x == y) ≡ true → x ≡ y
    same q = grind (arith, nat_tests, q)

    go : (b : Bool) → p y ≡ b → (c : Bool) → (x == y) ≡ c → elim b as (λ _. Option ℕ) [ true ↦ Some y | false ↦ first p xs ] ≡ None → T (c || member x xs) → (first p xs ≡ None → (z : ℕ) → T (member z xs) → p z ≡ false) → p x ≡ false
    go true q c i e m r = absurd (cc e)
    go false q true i e m r = ap p (same i) ∙ q
    go false q false i e m r = r e x m

-- a test in two parts that fails
pub either : (a b : Bool) → (not a && not b) ≡ false → T a ⊎ T b
either true b e = inl tt
either false true e = inr tt
either false false e = absurd (let t : true ≡ false = e in cc)

record IsSettled (k : CacheState) (fresh : Option ℕ) (out done : Outcome) : Type 0 where
  unread : first_unread k fresh out.touched ≡ None
  same : out ≡ done

settled : (k : CacheState) (fresh : Option ℕ) (out done : Outcome) (idless : Bool) (unread : Option ℕ) (ns : List ℕ) (xs : List ℕ) (unwritten : Option ℕ)
    → first_unread k fresh (seen idless out.touched) ≡ unread
    → elim unread as (λ _. Verdict) [ Some x ↦ Need x Read | None ↦ or_else (elim unwritten as (λ _. Verdict) [ Some x ↦ Need x Write | None ↦ elim idless as (λ _. Verdict) [ true ↦ NeedIds (seen true out.touched) | false ↦ Done out ] ]) (reported ns xs) ] ≡ Done done
    → IsSettled k fresh out done
settled k fresh out done idless (Some x) ns xs unwritten p e = absurd (cc e)
settled k fresh out done idless None (n ∷ ns) xs unwritten p e = absurd (cc e)
settled k fresh out done idless None [] xs (Some x) p e = absurd (cc e)
settled k fresh out done true None [] xs None p e = absurd (cc e)
settled k fresh out done false None [] xs None p e = record { unread = p; same = cc }

pub done-comes : (k : CacheState) (owed : Owed) (cl : Call) (fresh : Option ℕ) (done : Outcome) → evaluate k owed cl fresh ≡ Done done → (v : Images) → Shows k fresh v → plain v cl (or_else 0 fresh) ≡ done
done-comes k owed cl fresh done e v s =
    let out = outcome k cl fresh in
    let idless = lacks_id fresh out.update in
    let xs = seen idless out.touched in
    let is : IsSettled k fresh out done = settled k fresh out done idless (first_unread k fresh xs) (due (met owed cl xs) owed) (met owed cl xs) (first_unwritten k idless out.update) refl e in
    plain-agrees (images_held k) v cl (or_else 0 fresh)
    (λ x m. elim (either (is_id x fresh) (holds x Read k) (first-none (λ y. not (is_id y fresh) && not (holds y Read k)) out.touched is.unread x m)) [ inl t ↦ s.unmade x t | inr t ↦ s.images x t ])
    ∙ is.same
