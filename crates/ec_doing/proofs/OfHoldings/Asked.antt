-- What is asked for, and a batch that isn't under way.
use Rattle.std.proofs.Common.{◌≡◌, ◌≤◌, ◌-◌, arith, ◌∙◌, refl, sym, ap, ℕ, suc, List, [], ◌∷◌, length, get_or, true, false, Option, None, Some}
use Rattle.std.specs.Prelude.{is_some, filter}
use Rattle.ec_base.specs.Tables.{at}
use Rattle.ec_volume.specs.Update.{member}
use Rattle.ec_order.specs.Order.{Issued}
use Rattle.ec_log.specs.Log as logs
use Rattle.ec_log.specs.declared.state.LogState.{LogState}
use Rattle.ec_protocol.specs.Clerk as clerk

pub last_is : (xs : List ℕ) (d : ℕ) → 1 ≤ length xs → clerk.last_number xs ≡ Some (get_or xs (length xs - 1) d)
last_is [] d l = absurd (omega arith)
last_is (x ∷ []) d l = refl
last_is (x ∷ y ∷ xs) d l =
    let e : suc (length (y ∷ xs) - 1) ≡ length (x ∷ y ∷ xs) - 1 = omega arith in
    last_is (y ∷ xs) d (omega arith) ∙ ap (λ k. Some (get_or (x ∷ y ∷ xs) k d)) e

-- nothing is in a batch that isn't under way
pub none_in : (l : Issued) → filter (λ op. member op.0 []) l ≡ []
none_in [] = refl
none_in (op ∷ ops) = none_in ops

pub no_batch : (b : ℕ) (l : LogState) (ops : Issued) → is_some (at b l.batches) ≡ false → ops ≡ [] → ops ≡ logs.batch b l
no_batch b l ops absent e = e ∙ sym (none_in l.undurable) ∙ sym (ap (λ o. filter (λ op. member op.0 (or_nil o)) l.undurable) (is_none (at b l.batches) absent))
  where
    is_none : (o : Option (List ℕ)) → is_some o ≡ false → o ≡ None
    is_none None n = refl
    is_none (Some ns) n = absurd (let t : true ≡ false = n in cc)

    or_nil : Option (List ℕ) → List ℕ
    or_nil None = []
    or_nil (Some ns) = ns
