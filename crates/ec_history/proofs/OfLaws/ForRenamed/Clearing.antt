-- What no operation makes, and isn't in the volume, is an operand of none.
use Rattle.std.proofs.Common.{◌≡◌, refl, sym, ap, ap₂, subst, ◌∙◌, inl, inr, ◌==◌, not, ℕ, false, T, List, [], ◌∷◌, map, Option, Some, None}
use Rattle.ec_volume.specs.Image.{is_dir, is_gone}
use Rattle.ec_volume.specs.Update.{has_operand, member, operands, root}
use Rattle.ec_volume.specs.Volume.{Images, WellFormed, after}
use Rattle.ec_volume.specs.declared.image.Image.{Image}
use Rattle.ec_volume.specs.declared.image.Image.TheVariants.{Gone, File, Dir}
use Rattle.ec_volume.specs.declared.update.Update.{Update}
use Rattle.ec_plain.specs.Plain.{plain}
use Rattle.ec_plain.specs.declared.call.Call.{Call}
use Rattle.ec_plain.specs.declared.call.Outcome.{Outcome}
use Rattle.ec_history.specs.History.{Base, Each, History, Op, issued, issued_by, issued_from, kept_next, outcome, updates}
use Rattle.ec_history.specs.declared.entry.Entry.{Entry}
use Rattle.ec_history.specs.declared.entry.Entry.TheVariants as entry
use Rattle.ec_history.proofs.OfLaws.ForPlacing.Numbers.{each-append, each-back, each-front}
use Rattle.ec_history.specs.OfLaws.Renaming.{IsRenaming}
use Rattle.ec_history.specs.OfLaws.Renamed.{IsRenamed, outcome_by, update_by}
use Rattle.ec_history.proofs.OfLaws.ForRenamed.Calls.{plain-by}
use Rattle.ec_history.proofs.OfLaws.ForRenamed.Images.{operands-by}
use Rattle.ec_history.proofs.OfLaws.ForRenamed.Shapes.{after-by, kept-by}
use Rattle.ec_history.specs.OfLaws.Placing.{made_ids}
use Rattle.ec_history.specs.OfLaws.NewIds.{Clear}
use Rattle.ec_history.proofs.OfLaws.ForRenamed.CallsAlike.{plain-like}
use Rattle.ec_history.proofs.OfLaws.ForRenamed.OwedOperands.{next-clear, parts, turn}
use Rattle.ec_history.proofs.OfLaws.ForRenamed.Swap.{moved-none, stay-all, swap, swap-first, swap-other, swap-renames, unlike, update-stays}
use Rattle.ec_base.proofs.Bools.{clash}

abbrev pub Unmade : ℕ → List Op → Type 0
Unmade x os = Each (λ o. member x (made_ids o.update) ≡ false) os

not-both : (i : Image) → T (is_gone i) → T (is_dir i) → ⊥
not-both Gone g d = d
not-both (File m s w bs) g d = g
not-both (Dir m s w es) g d = g

module _ (v : Images) (f : ℕ → ℕ) (formed : WellFormed v) (x y : ℕ) (differ : x ≡ y → ⊥) (gone-x : T (is_gone (v x))) (gone-y : T (is_gone (v y))) where
  abbrev base : Base
  base = record { volume = v; fresh = f }

  abbrev r : ℕ → ℕ
  r = swap x y

  no-root : (z : ℕ) → T (is_gone (v z)) → (root == z) ≡ false
  no-root z g = unlike root z (λ e. not-both (v z) g (subst (λ w. T (is_dir (v w))) e formed.root_is_dir))

  ren : IsRenaming r
  ren = swap-renames x y (no-root x gone-x) (no-root y gone-y)

  off : (z o : ℕ) → T (is_gone (v z)) → T (not (is_gone (v o))) → (o == z) ≡ false
  off z o g l = unlike o z (λ e. clash (is_gone (v o)) l (subst (λ w. T (is_gone (v w))) (sym e) g))

  same : IsRenamed r v v
  same = kept-by r ren v formed (λ o l. swap-other x y o (off x o gone-x l) (off y o gone-y l))

  stay-updates : (ks : List Op) → Clear x ks → Clear y ks → map (update_by r) (updates ks) ≡ updates ks
  stay-updates [] a b = refl
  stay-updates (k ∷ ks) a b = ap₂ (λ u us. u ∷ us) (update-stays r k.update (stay-all x y (operands k.update) a.0 b.0)) (stay-updates ks a.1 b.1)

  after-same : (ks : List Op) → Clear x ks → Clear y ks → IsRenamed r (after v (updates ks)) (after v (updates ks))
  after-same ks a b = subst (λ us. IsRenamed r (after v (updates ks)) (after v us)) (stay-updates ks a b) (after-by r ren v v same (updates ks))

  module _ (ks : List Op) (a : Clear x ks) (b : Clear y ks) (p c d n : ℕ) (cl : Call) where
    abbrev o : Outcome
    o = outcome base ks p cl

    abbrev w : Images
    w = after v (updates ks)

    abbrev made : Option Update → List Op
    made u = elim u [ None ↦ [] | Some u ↦ record { clerk = c; boot = d; number = n; place = p; update = u } ∷ [] ]

    by-fresh : (z : ℕ) → r z ≡ z → plain w cl z ≡ outcome_by r (plain w cl z)
    by-fresh z e = ap (plain w cl) (sym e) ∙ plain-by r ren w w (after-same ks a b) cl z

    fixed : Unmade x (made o.update) → Unmade y (made o.update) → o ≡ outcome_by r o
    fixed mx my = elim (plain-like w cl (f p) root) [
      | inl e ↦ e ∙ by-fresh root ren.root_stays ∙ ap (outcome_by r) (sym e)
      | inr s ↦
          by-fresh (f p) (swap-other x y (f p) (turn x (f p) (parts (x == f p) false (subst (λ q. Unmade x (made q.update)) s.4 mx).0).0) (turn y (f p) (parts (y == f p) false (subst (λ q. Unmade y (made q.update)) s.4 my).0).0))
    ]

    clear-one : (u : Option Update) → o.update ≡ u → o ≡ outcome_by r o → Clear x (made u) × Clear y (made u)
    clear-one None e g = (tt, tt)
    clear-one (Some u) e g = ((moved-none r x moves-x (operands u) stays, tt), (moved-none r y moves-y (operands u) stays, tt))
      where
        moves-x : r x ≡ x → ⊥
        moves-x q = differ (sym q ∙ swap-first x y)

        moves-y : r y ≡ y → ⊥
        moves-y q = differ (sym (Rattle.ec_history.proofs.OfLaws.ForRenamed.Swap.swap-second x y) ∙ q)

        some-same : (s t : Update) → Some s ≡ Some t → s ≡ t
        some-same s t q = ap (λ z. elim z as (λ k. Update) [ None ↦ s | Some k ↦ k ]) q

        alike : u ≡ update_by r u
        alike = some-same u (update_by r u) (sym e ∙ ap (λ z. z.update) g ∙ ap (Rattle.ec_history.specs.OfLaws.Renamed.issued_update_by r) e)

        stays : operands u ≡ map r (operands u)
        stays = ap operands alike ∙ operands-by r ren u

    clear-new : Unmade x (made o.update) → Unmade y (made o.update) → Clear x (made o.update) × Clear y (made o.update)
    clear-new mx my = clear-one o.update refl (fixed mx my)

  clear-by : (ks : List Op) → Clear x ks → Clear y ks → (e : ℕ × Entry) → Unmade x (issued_by base ks e) → Unmade y (issued_by base ks e) → Clear x (issued_by base ks e) × Clear y (issued_by base ks e)
  clear-by ks a b (p, entry.Call c d l begun cl s None) mx my = (tt, tt)
  clear-by ks a b (p, entry.Call c d l begun cl s (Some n)) mx my = clear-new ks a b p c d n cl mx my
  clear-by ks a b (p, entry.Loss c d ns) mx my = (tt, tt)

  clear-from : (ks : List Op) (h : History) → Clear x ks → Clear y ks → Unmade x (issued_from base ks h) → Unmade y (issued_from base ks h) → Clear x (issued_from base ks h) × Clear y (issued_from base ks h)
  clear-from ks [] a b mx my = (tt, tt)
  clear-from ks (e ∷ h) a b mx my =
      let one : List Op = issued_by base ks e in
      let more : List Op = issued_from base (kept_next base ks e) h in
      let new = clear-by ks a b e (each-front (λ o. member x (made_ids o.update) ≡ false) one more mx) (each-front (λ o. member y (made_ids o.update) ≡ false) one more my) in
      let rest = clear-from (kept_next base ks e) h (next-clear base x 0 0 ks e a new.0) (next-clear base y 0 0 ks e b new.1) (each-back (λ o. member x (made_ids o.update) ≡ false) one more mx) (each-back (λ o. member y (made_ids o.update) ≡ false) one more my) in
      (each-append (λ o. has_operand x o.update ≡ false) one more new.0 rest.0, each-append (λ o. has_operand y o.update ≡ false) one more new.1 rest.1)

  pub clears : (h : History) → Unmade x (issued base h) → Unmade y (issued base h) → Clear x (issued base h) × Clear y (issued base h)
  clears h mx my = clear-from [] h tt tt mx my
