-- Only calls that create make an object.
use Rattle.std.proofs.Common.{◌≡◌, refl, sym, ap, ◌∙◌, arith, ◌+◌, ℕ, Bool, true, false, List}
use Rattle.std.specs.Prelude.{Some}
use Rattle.std.proofs.lemmas.Bool.{true≢false}
use Rattle.ec_base.specs.Tables.{or_else}
use Rattle.ec_volume.specs.Update.{is_make}
use Rattle.ec_volume.specs.Volume.{Images}
use Rattle.ec_volume.specs.declared.update.Update.{Update}
use Rattle.ec_volume.specs.declared.update.Update.TheVariants.{Make, Drop, Move, Put, Len, Mode, Stamp, Order, Shift, Owner}
use Rattle.ec_plain.specs.Plain.{plain}
use Rattle.ec_plain.specs.declared.call.Call.{Call}
use Rattle.ec_plain.specs.declared.call.Outcome.{Outcome}
use Rattle.ec_history.proofs.OfLaws.ForFormed.Fresh.{plain-makes}
use Rattle.ec_cache.specs.Cache.{images_held}
use Rattle.ec_cache.specs.OfResolve.Agreement.{IsFor, IsWithoutId, Shows}
use Rattle.ec_cache.specs.declared.resolve.verdict.Verdict.TheVariants.{Done, NeedIds}
use Rattle.ec_cache.proofs.OfResolve.Verdicts.{done-says, ids-says}
use Rattle.ec_protocol.specs.Clerk.{first_id, verdict}
use Rattle.ec_protocol.specs.declared.clerk.Clerk.{Clerk}
use Rattle.ec_lawful.specs.Creates.{creates}
use Rattle.ec_lawful.proofs.News.{same-plain}

module _ (v : Images) (cl : Call) (x : ℕ) where
  -- the object made would be two fresh ones
  none-made : creates cl ≡ false → (u : Update) → (plain v cl x).update ≡ Some u → is_make u ≡ true → ⊥
  none-made n (Make dir name obj k) e m = apart (plain-makes x v cl (Make dir name obj k) e obj refl) (plain-makes (x + 1) v cl (Make dir name obj k) (ap (λ o. o.update) (same-plain v cl (x + 1) x n) ∙ e) obj refl)
    where
      apart : obj ≡ x → obj ≡ x + 1 → ⊥
      apart a b = absurd (omega (arith, a, b))
  none-made n (Drop dir name obj k) e m = true≢false (sym m)
  none-made n (Move dir from to obj k victim) e m = true≢false (sym m)
  none-made n (Put obj at bytes inside) e m = true≢false (sym m)
  none-made n (Len obj len) e m = true≢false (sym m)
  none-made n (Mode obj mode) e m = true≢false (sym m)
  none-made n (Stamp obj stamp) e m = true≢false (sym m)
  none-made n (Order objs) e m = true≢false (sym m)
  none-made n (Shift dir from into to obj k victim up) e m = true≢false (sym m)
  none-made n (Owner obj owner) e m = true≢false (sym m)

  makes-create : (u : Update) → (plain v cl x).update ≡ Some u → is_make u ≡ true → creates cl ≡ true
  makes-create u e m = go (creates cl) refl
    where
      go : (z : Bool) → creates cl ≡ z → creates cl ≡ true
      go true n = n
      go false n = absurd (none-made n u e m)

-- Of a clerk, which has the images that it holds.
module _ (k : Clerk) (cl : Call) where
  abbrev id : ℕ
  id = or_else 0 (first_id k.ids)

  shown : Shows k.cache (first_id k.ids) (images_held k.cache)
  shown = record { images = λ x t. refl; unmade = λ x t. refl }

  its : IsFor (first_id k.ids) id
  its x q = ap (or_else 0) q

  -- so it is with an update that it comes to
  pub done-creates : (o : Outcome) → verdict cl k ≡ Done o → (u : Update) → o.update ≡ Some u → is_make u ≡ true → creates cl ≡ true
  done-creates o e u q m = makes-create (images_held k.cache) cl id u (ap (λ (z : Outcome). z.update) (done-says k.cache k.owed cl (first_id k.ids) o e (images_held k.cache) shown id its) ∙ q) m

  -- and where it lacks an id
  pub ids-create : (xs : List ℕ) → verdict cl k ≡ NeedIds xs → creates cl ≡ true
  ids-create xs e =
      let w : IsWithoutId k.cache k.owed (first_id k.ids) id (plain (images_held k.cache) cl id) xs = ids-says k.cache k.owed cl (first_id k.ids) xs e (images_held k.cache) shown id its in
      makes-create (images_held k.cache) cl id (Make w.dir w.name id w.kind) w.made refl
