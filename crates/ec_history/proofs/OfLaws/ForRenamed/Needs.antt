-- What an update needs doesn't depend on the ids.
use Rattle.std.proofs.Common.{◌≡◌, refl, ap₂, ◌∙◌, ℕ, true, false, not, ◌&&◌, ◌||◌, List, [], ◌∷◌, map, length}
use Rattle.std.specs.List.{list_any}
use Rattle.ec_volume.specs.Update.{operands, member}
use Rattle.ec_volume.specs.declared.update.Update.{Update}
use Rattle.ec_volume.specs.declared.update.Update.TheVariants.{Make, Drop, Move, Put, Len, Mode, Stamp, Order, Shift, Owner}
use Rattle.ec_order.specs.Order.{is_overwrite, share, before, meet, under, needs}
use Rattle.ec_history.specs.OfLaws.Renaming.{IsRenaming}
use Rattle.ec_history.specs.OfLaws.Renamed.{update_by}
use Rattle.ec_history.proofs.OfLaws.ForRenamed.Images.{member-by, operands-by}

pub overwrite-at : (r : ℕ → ℕ) (u : Update) → is_overwrite (update_by r u) ≡ is_overwrite u
overwrite-at r (Make d n o k) = refl
overwrite-at r (Drop d n o k) = refl
overwrite-at r (Move d m n o k v) = refl
overwrite-at r (Put o at bytes inside) = refl
overwrite-at r (Len o len) = refl
overwrite-at r (Mode o m) = refl
overwrite-at r (Stamp o s) = refl
overwrite-at r (Order os) = refl
overwrite-at r (Shift d m e n o k v up) = refl
overwrite-at r (Owner o w) = refl

module _ (r : ℕ → ℕ) (ren : IsRenaming r) where
  pub share-lists : (xs ys : List ℕ) → list_any (λ o. member o (map r ys)) (map r xs) ≡ list_any (λ o. member o ys) xs
  share-lists [] ys = refl
  share-lists (x ∷ xs) ys = ap₂ (λ a b. a || b) (member-by r ren x ys) (share-lists xs ys)

  pub share-at : (a b : Update) → share (update_by r a) (update_by r b) ≡ share a b
  share-at a b = ap₂ (λ xs ys. list_any (λ o. member o ys) xs) (operands-by r ren a) (operands-by r ren b) ∙ share-lists (operands a) (operands b)

  pub before-at : (a b : Update) → before (update_by r a) (update_by r b) ≡ before a b
  before-at a b = λ x. share-at a b x && not (overwrite-at r a x && overwrite-at r b x)

  pub under-at : (a b : Update) → under (update_by r a) (update_by r b) ≡ under a b
  under-at (Put o m xs true) (Put p n ys true) = λ x. ren.apart o p x && meet m (length xs) n (length ys)
  under-at (Put o m xs true) (Put p n ys false) = refl
  under-at (Put o m xs true) (Make d n p k) = refl
  under-at (Put o m xs true) (Drop d n p k) = refl
  under-at (Put o m xs true) (Move d l n p k v) = refl
  under-at (Put o m xs true) (Len p len) = refl
  under-at (Put o m xs true) (Mode p l) = refl
  under-at (Put o m xs true) (Stamp p s) = refl
  under-at (Put o m xs true) (Order os) = refl
  under-at (Put o m xs true) (Shift d l e n p k v up) = refl
  under-at (Put o m xs true) (Owner p w) = refl
  under-at (Put o m xs false) b = refl
  under-at (Make d n p k) b = refl
  under-at (Drop d n p k) b = refl
  under-at (Move d l n p k v) b = refl
  under-at (Len p len) b = refl
  under-at (Mode p l) b = refl
  under-at (Stamp p s) b = refl
  under-at (Order os) b = refl
  under-at (Shift d l e n p k v up) b = refl
  under-at (Owner p w) b = refl

  pub needs-at : (a b : Update) → needs (update_by r a) (update_by r b) ≡ needs a b
  needs-at a b = λ x. before-at a b x || under-at a b x
