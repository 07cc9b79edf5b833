-- Objects are read by the places of the calls that made them.
use Rattle.std.proofs.Common.{◌≡◌, refl, sym, ap, subst, ◌∙◌, ◌≤◌, ◌+◌, not, ℕ, Bool, true, false, cond, T, List, [], ◌∷◌, Option, Some, None}
use Rattle.ec_volume.specs.Image.{is_gone}
use Rattle.ec_volume.specs.Update.{is_make}
use Rattle.ec_volume.specs.Volume.{Images, WellFormed, after}
use Rattle.ec_volume.specs.declared.update.Update.{Update}
use Rattle.ec_volume.specs.declared.update.Update.TheVariants.{Make, Drop, Move, Put, Len, Mode, Stamp, Order, Shift, Owner}
use Rattle.ec_plain.specs.declared.call.Call.{Call}
use Rattle.ec_history.specs.History.{Base, Each, History, Op, Throughout, issued, issued_by, issued_from, kept, kept_next, outcome, updates}
use Rattle.ec_history.specs.Placing.{place}
use Rattle.ec_history.specs.declared.entry.Entry.{Entry}
use Rattle.ec_history.specs.declared.entry.Entry.TheVariants as entry
use Rattle.ec_history.specs.declared.shown.Shown.{Shown}
use Rattle.ec_history.proofs.OfLaws.ForFormed.Fresh.{plain-makes}
use Rattle.ec_history.proofs.OfLaws.ForPlacing.Numbers.{each-append}
use Rattle.ec_history.specs.OfLaws.Renaming.{image_by}
use Rattle.ec_history.proofs.OfLaws.ForRenamed.RenamedKept.{kept-at, updates-by}
use Rattle.ec_history.proofs.OfLaws.ForRenamed.Shapes.{after-by}
use Rattle.ec_history.specs.OfLaws.Placing.{IsReading, made_ids}
use Rattle.ec_history.specs.OfLaws.NewIds.{IsNewId}
use Rattle.ec_history.proofs.OfLaws.ForRenamed.Names.{Named}
use Rattle.ec_history.proofs.OfLaws.ForRenamed.Placed.{made_places, m, changed, ren, same}
use Rattle.ec_history.proofs.OfLaws.ForRenamed.IdleIds.{kept-so}
use Rattle.ec_base.proofs.Equalities.{not_false as true-false}

module _ (v : Images) (f : ℕ → ℕ) where
  abbrev base : Base
  base = record { volume = v; fresh = f }

  -- an operation that makes an object makes it with the id at its place
  record IsOwn (o : Op) : Type 0 where
    makes : is_make o.update ≡ true → made_ids o.update ≡ f o.place ∷ []
    none : is_make o.update ≡ false → made_ids o.update ≡ []

  one-own : (ks : List Op) (p c b n : ℕ) (cl : Call) (u : Update) → (outcome base ks p cl).update ≡ Some u → IsOwn (record { clerk = c; boot = b; number = n; place = p; update = u })
  one-own ks p c b n cl (Make d nm o k) e = record { makes = λ t. ap (λ z. z ∷ []) (plain-makes (f p) (after v (updates ks)) cl (Make d nm o k) e o refl); none = λ t. absurd (true-false t) }
  one-own ks p c b n cl (Drop d nm o k) e = record { makes = λ t. absurd (true-false (sym t)); none = λ t. refl }
  one-own ks p c b n cl (Move d x nm o k w) e = record { makes = λ t. absurd (true-false (sym t)); none = λ t. refl }
  one-own ks p c b n cl (Put o at bytes inside) e = record { makes = λ t. absurd (true-false (sym t)); none = λ t. refl }
  one-own ks p c b n cl (Len o len) e = record { makes = λ t. absurd (true-false (sym t)); none = λ t. refl }
  one-own ks p c b n cl (Mode o mode) e = record { makes = λ t. absurd (true-false (sym t)); none = λ t. refl }
  one-own ks p c b n cl (Stamp o st) e = record { makes = λ t. absurd (true-false (sym t)); none = λ t. refl }
  one-own ks p c b n cl (Order os) e = record { makes = λ t. absurd (true-false (sym t)); none = λ t. refl }
  one-own ks p c b n cl (Shift d x q nm o k w up) e = record { makes = λ t. absurd (true-false (sym t)); none = λ t. refl }
  one-own ks p c b n cl (Owner o w) e = record { makes = λ t. absurd (true-false (sym t)); none = λ t. refl }

  by-own : (ks : List Op) (e : ℕ × Entry) → Each IsOwn (issued_by base ks e)
  by-own ks (p, entry.Call c b l begun cl a None) = tt
  by-own ks (p, entry.Call c b l begun cl a (Some n)) = go (outcome base ks p cl).update refl
    where
      go : (o : Option Update) → (outcome base ks p cl).update ≡ o → Each IsOwn (elim o as (λ z. List Op) [ None ↦ [] | Some u ↦ record { clerk = c; boot = b; number = n; place = p; update = u } ∷ [] ])
      go None q = tt
      go (Some u) q = (one-own ks p c b n cl u q, tt)
  by-own ks (p, entry.Loss c b ns) = tt

  all-own : (ks : List Op) (h : History) → Each IsOwn (issued_from base ks h)
  all-own ks [] = tt
  all-own ks (e ∷ h) = each-append IsOwn (issued_by base ks e) (issued_from base (kept_next base ks e) h) (by-own ks e) (all-own (kept_next base ks e) h)

  -- what holds of the places of these operations holds of each
  at-places : (r : ℕ → ℕ) (n : ℕ) (os : List Op) → Each IsOwn os → Each (λ q. r (f q) ≡ n + q) (made_places os) → Each (λ o. Each (λ x. r x ≡ n + o.place) (made_ids o.update)) os
  at-places r n [] own made = tt
  at-places r n (o ∷ os) own made = go (is_make o.update) refl made (at-places r n os own.1)
    where
      go : (b : Bool) → is_make o.update ≡ b → Each (λ q. r (f q) ≡ n + q) (cond b (o.place ∷ made_places os) (made_places os)) → (Each (λ q. r (f q) ≡ n + q) (made_places os) → Each (λ o. Each (λ x. r x ≡ n + o.place) (made_ids o.update)) os)
          → Each (λ x. r x ≡ n + o.place) (made_ids o.update) × Each (λ o. Each (λ x. r x ≡ n + o.place) (made_ids o.update)) os
      go true q t more = (subst (Each (λ x. r x ≡ n + o.place)) (sym (own.0.makes q)) (t.0, tt), more t.1)
      go false q t more = (subst (Each (λ x. r x ≡ n + o.place)) (sym (own.0.none q)) tt, more t)

  module _ (n : ℕ) (ss : List Shown) (formed : WellFormed v) (top : (x : ℕ) → T (not (is_gone (v x))) → x ≤ n) (t : Throughout (IsNewId v f) [] (place ss)) where
    abbrev its : Named v f n (made_places (issued base (place ss)))
    its = m v f n ss formed top t

    abbrev target : Base
    target = record { volume = v; fresh = λ p. n + p }

    reads : IsReading v f n (place ss) its.r
    reads = record { renames = ren v f n ss formed top t; own = its.live; made = at-places its.r n (issued base (place ss)) (all-own [] (place ss)) its.made }

    read-there : (x : ℕ) → after v (updates (kept target (place ss))) (its.r x) ≡ image_by its.r (after v (updates (kept base (place ss))) x)
    read-there x =
        let re = same v f n ss formed top t in
        ap (λ us. after v us (its.r x)) (ap updates (kept-at its.r (ren v f n ss formed top t) (record { volume = v; fresh = λ p. its.i (n + p) }) target re (place ss)) ∙ updates-by its.r (kept (record { volume = v; fresh = λ p. its.i (n + p) }) (place ss)))
        ∙ after-by its.r (ren v f n ss formed top t) v v re.volume (updates (kept (record { volume = v; fresh = λ p. its.i (n + p) }) (place ss))) x
        ∙ ap (λ ks. image_by its.r (after v (updates ks) x)) (kept-so v f (λ p. its.i (n + p)) ss (changed v f n ss formed top t))

    pub read-by-places : (r : ℕ → ℕ) × IsReading v f n (place ss) r × ((x : ℕ) → after v (updates (kept target (place ss))) (r x) ≡ image_by r (after v (updates (kept base (place ss))) x))
    read-by-places = (its.r, reads, read-there)
