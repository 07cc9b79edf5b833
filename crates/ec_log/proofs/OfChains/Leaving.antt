-- Held operations with one more, and without some.
use Rattle.std.proofs.Common.{◌≡◌, ◌≤◌, ◌<◌, ◌+◌, ◌-◌, ◌∙◌, refl, sym, ap, subst, ℕ, T, Bool, true, false, cond, not, List, [], ◌∷◌, ◌++◌, length, take, drop, get_or}
use Rattle.std.specs.Prelude.{◌==◌, ◌||◌, Result, Ok, Err, OnOk, OnErr}
use Rattle.std.proofs.lemmas.List.{take_more, length-drop}
use Rattle.std.proofs.Math.Seq.{take-append_seam}
use Rattle.ec_base.specs.Tables.{Table, at_or}
use Rattle.ec_volume.specs.Update.{member, operands}
use Rattle.ec_volume.specs.declared.update.Update.{Update}
use Rattle.ec_order.specs.Order.{Issued}
use Rattle.ec_log.specs.OfChains.Chains.{AreLinked, AreKept}
use Rattle.ec_log.specs.OfChains.Front.{is_alone, Covers}
use Rattle.ec_log.specs.OfChains.Held.{is_behind, settle}
use Rattle.ec_log.proofs.OfChains.Fronts.{covers-more, covers-raised, covers-part}
use Rattle.ec_log.proofs.OfChains.Linked.{Stay, linked-raised, linked-more, linked-part}

-- One after the other leaves.

none-leaves : (xs : Issued) → xs ≡ settle [] xs
none-leaves [] = refl
none-leaves (x ∷ xs) = ap (λ l. x ∷ l) (none-leaves xs)

pub leaves-none : (ops : List ℕ) (xs : Issued) → xs ≡ settle (take 0 ops) xs
leaves-none ops xs = none-leaves xs

both-leave : (ops : List ℕ) (op : ℕ) (xs : Issued) → settle (op ∷ []) (settle ops xs) ≡ settle (ops ++ op ∷ []) xs
both-leave ops op [] = refl
both-leave ops op (x ∷ xs) = go (member x.0 ops) refl (x.0 == op) refl (both-leave ops op xs)
  where
    either : (ns : List ℕ) → member x.0 (ns ++ op ∷ []) ≡ (member x.0 ns || (x.0 == op))
    either [] = plain (x.0 == op)
      where
        plain : (b : Bool) → (b || false) ≡ b
        plain true = refl
        plain false = refl
    either (n ∷ ns) = ap (λ b. (x.0 == n) || b) (either ns) ∙ turned (x.0 == n) (member x.0 ns) (x.0 == op)
      where
        turned : (a b c : Bool) → (a || (b || c)) ≡ ((a || b) || c)
        turned true b c = refl
        turned false b c = refl

    step : Bool → Issued → Issued
    step t l = cond (not t) (x ∷ l) l

    go : (a : Bool) → member x.0 ops ≡ a → (b : Bool) → (x.0 == op) ≡ b → settle (op ∷ []) (settle ops xs) ≡ settle (ops ++ op ∷ []) xs
        → settle (op ∷ []) (step (member x.0 ops) (settle ops xs)) ≡ step (member x.0 (ops ++ op ∷ [])) (settle (ops ++ op ∷ []) xs)
    go true e b f r = ap (λ t. settle (op ∷ []) (step t (settle ops xs))) e ∙ r ∙ sym (ap (λ t. step t (settle (ops ++ op ∷ []) xs)) (either ops ∙ ap (λ t. t || (x.0 == op)) e))
    go false e b f r =
        ap (λ t. settle (op ∷ []) (step t (settle ops xs))) e
        ∙ ap (λ t. step (t || false) (settle (op ∷ []) (settle ops xs))) f
        ∙ by b
        ∙ ap (step b) r
        ∙ sym (ap (λ t. step t (settle (ops ++ op ∷ []) xs)) (either ops ∙ ap (λ t. t || (x.0 == op)) e ∙ f))
      where
        by : (t : Bool) → step (t || false) (settle (op ∷ []) (settle ops xs)) ≡ step t (settle (op ∷ []) (settle ops xs))
        by true = refl
        by false = refl

pub leaves-next : (ops : List ℕ) (i op : ℕ) (old middle new : Issued) → i < length ops → op ≡ get_or ops i op → middle ≡ settle (take i ops) old → new ≡ settle (op ∷ []) middle → new ≡ settle (take (i + 1) ops) old
leaves-next ops i op old middle new l is before e =
    e ∙ ap (settle (op ∷ [])) before ∙ both-leave (take i ops) op old ∙ ap (λ ns. settle ns old) (ap (λ n. take i ops ++ n ∷ []) is ∙ sym (take_more ops i op l))

-- The first ones go to the end, and are cut off.
pub cut-off : {X : Type 0} (k n : ℕ) (xs turned rest : List X) → k ≤ length xs → turned ≡ drop k xs ++ take k xs → n ≡ length xs - k → rest ≡ take n turned → rest ≡ drop k xs
cut-off k n xs turned rest l t m e =
    e ∙ ap (take n) t ∙ ap (λ i. take i (drop k xs ++ take k xs)) (m ∙ sym (length-drop k xs)) ∙ take-append_seam (drop k xs) (take k xs)

-- What the maps tell of them.

abbrev pub IsOrder : Table ℕ → Table (List ℕ) → Issued → Type 0
IsOrder shared chains held = Covers shared held × AreLinked chains held

module _ (held : Issued) (old new : Table ℕ) (chains linked : Table (List ℕ)) (op : ℕ) (inv : IsOrder old chains held) (b : is_behind op held ≡ true) where
  -- one more operation
  order-more : (u : Update) → ((o n : ℕ) → n ≤ at_or 0 o old → n ≤ op → n ≤ at_or 0 o new) → (is_alone u ≡ false → (o : ℕ) → T (member o (operands u)) → op ≤ at_or 0 o new)
      → Stay op chains linked → ((o : ℕ) → T (member o (operands u)) → T (member op (at_or [] o linked))) → IsOrder new linked (held ++ (op, u) ∷ [])
  order-more u raised its stay there = (covers-more old new held op u b inv.0 raised its, linked-more chains linked held op u b inv.1 stay there)

  -- the maps are ready for it
  pub order-raised : ((o n : ℕ) → n ≤ at_or 0 o old → n ≤ op → n ≤ at_or 0 o new) → Stay op chains linked → IsOrder new linked held
  order-raised raised stay = (covers-raised old new held op b inv.0 raised, linked-raised chains linked held op b inv.1 stay)

  pub order-linked : Stay op chains linked → IsOrder old linked held
  order-linked stay = (inv.0, linked-raised chains linked held op b inv.1 stay)

  pub order-pushed : {A E : Type 0} (r : Result A E) (after : Issued) (u : Update) → OnOk r (after ≡ held ++ (op, u) ∷ []) → OnErr r (after ≡ held)
      → ((o n : ℕ) → n ≤ at_or 0 o old → n ≤ op → n ≤ at_or 0 o new) → (is_alone u ≡ false → (o : ℕ) → T (member o (operands u)) → op ≤ at_or 0 o new)
      → Stay op chains linked → ((o : ℕ) → T (member o (operands u)) → T (member op (at_or [] o linked))) → IsOrder new linked after
  order-pushed (Ok a) after u ok err raised its stay there = subst (IsOrder new linked) (sym ok) (order-more u raised its stay there)
  order-pushed (Err e) after u ok err raised its stay there = subst (IsOrder new linked) (sym err) (order-raised raised stay)

pub order-left : (op : ℕ) (held after : Issued) (shared : Table ℕ) (chains linked : Table (List ℕ)) → IsOrder shared chains held → after ≡ settle (op ∷ []) held → AreKept after chains linked → IsOrder shared linked after
order-left op held after shared chains linked inv e kept = (
  subst (Covers shared) (sym e) (covers-part (λ x. not (member x.0 (op ∷ []))) shared held inv.0),
  linked-part (op ∷ []) chains linked held after e kept inv.1,
)
