-- No operation that a clerk issues has the object 0, and nothing is owed on it.
use Rattle.std.proofs.Common.{◌≡◌, refl, sym, ap, subst, ◌∙◌, inl, inr, ℕ, Bool, true, false, not, ◌==◌, ◌||◌, cond, map, T, List, [], ◌∷◌, Option, Some, None}
use Rattle.std.specs.List.{filter}
use Rattle.std.specs.Prelude.{drop}
use Rattle.ec_base.specs.Tables.{at}
use Rattle.ec_volume.specs.Update.{effect, fits, has_operand, is_make, listed, member}
use Rattle.ec_volume.specs.Volume.{image_after}
use Rattle.ec_volume.specs.declared.image.Image.{Image}
use Rattle.ec_volume.specs.declared.image.Image.TheVariants.{Gone}
use Rattle.ec_volume.specs.declared.update.Update.{Update}
use Rattle.ec_plain.specs.declared.call.Call.{Call}
use Rattle.ec_plain.specs.declared.call.Outcome.{Outcome}
use Rattle.ec_history.specs.History.{Op, updates}
use Rattle.ec_durable.specs.Durable.{made}
use Rattle.ec_cache.specs.OfReport.Report.{Owed}
use Rattle.ec_cache.specs.declared.resolve.verdict.Verdict.{Verdict}
use Rattle.ec_cache.specs.declared.resolve.verdict.Verdict.TheVariants.{Need, Lost, NeedIds, Done}
use Rattle.ec_cache.specs.declared.state.Held.{Held}
use Rattle.ec_protocol.specs.Clerk.{first_id, less_id, suits, verdict}
use Rattle.ec_protocol.specs.declared.clerk.Clerk.{Clerk}
use Rattle.ec_coherence.proofs.ForClerk.CacheChange.{suits-held}
use Rattle.ec_coherence.proofs.ForServer.Lists.{either_way}
use Rattle.ec_coherence.proofs.ForServer.Tables.{same_some}
use Rattle.ec_coherence.specs.Answers.{IsUnowed, op_given}
use Rattle.ec_lawful.specs.OfClerkSteps.Answering.{Suits, answered_clerk, done_clerk}
use Rattle.ec_lawful.specs.OfClerkSteps.Zeros.{HasNoZero, LeaveOut}
use Rattle.ec_lawful.proofs.OfClerkSteps.Turned.{makes-first, writes-all}
use Rattle.ec_lawful.proofs.OfClerkSteps.Unmade.{fits-gone}
use Rattle.ec_base.proofs.Numbers.{same-self as same, equal}
use Rattle.ec_base.proofs.Options.{none_some}
use Rattle.ec_base.proofs.Bools.{not-both as no_both, neither, not-left, not-right, no-longer as is-false, is-true}
use Rattle.ec_history.proofs.HistoryLemmas.{each-more as each-append}

-- An object that no operation has as an operand stays as it was.
pub left-out : (x : ℕ) (i : Image) (os : List Op) → LeaveOut x os → image_after x i (updates os) ≡ i
left-out x i [] h = refl
left-out x i (o ∷ os) h = ap (λ b. image_after x (cond b (effect o.update x i) i) (updates os)) (is-false (has_operand x o.update) h.0) ∙ left-out x i os h.1

in-rest : (x : ℕ) (xs : List ℕ) → T (not (member x xs)) → T (not (member x (drop 1 xs)))
in-rest x [] h = h
in-rest x (y ∷ ys) h = go (x == y) h
  where
    go : (b : Bool) → T (not (b || member x ys)) → T (not (member x ys))
    go true h = absurd h
    go false h = h

fewer-ids : (u : Update) (ids : List ℕ) → T (not (member 0 ids)) → T (not (member 0 (less_id u ids)))
fewer-ids u ids h = go (is_make u)
  where
    go : (b : Bool) → T (not (member 0 (elim b as (λ z. List ℕ) [ true ↦ drop 1 ids | false ↦ ids ])))
    go true = in-rest 0 ids h
    go false = h

part-unowed : (p : ℕ × ℕ → Bool) (qs : Owed) (x : ℕ) → IsUnowed qs x → IsUnowed (filter p qs) x
part-unowed p [] x h = h
part-unowed p (q ∷ qs) x h = go (p q) (part-unowed p qs x (not-right (x == q.1) (member x (map (λ q. q.1) qs)) h))
  where
    go : (b : Bool) → IsUnowed (filter p qs) x → IsUnowed (cond b (q ∷ filter p qs) (filter p qs)) x
    go true r = neither (x == q.1) (member x (map (λ q. q.1) (filter p qs))) (not-left (x == q.1) (member x (map (λ q. q.1) qs)) h) r
    go false r = r

first-in : (ids : List ℕ) (x : ℕ) → first_id ids ≡ Some x → T (member x ids)
first-in [] x e = absurd (none_some e)
first-in (y ∷ ys) x e = subst (λ z. T ((z == y) || member z ys)) (same_some e) (subst (λ b. T (b || member y ys)) (sym (same y)) tt)

-- What a verdict's clerk issues leaves it out, where it sees none there.
module _ (cl : Call) (k : Clerk) (zero : HasNoZero k) (seen : (h : Held) → at 0 k.cache.held ≡ Some h → h.image ≡ Gone) where
  -- the update has it for no operand
  no-operand : (o : Outcome) → verdict cl k ≡ Done o → (u : Update) → o.update ≡ Some u → T (suits u k.cache) → T (not (has_operand 0 u))
  no-operand o e u q fit = elim (either_way (has_operand 0 u)) [
    | inr n ↦ n
    | inl m ↦
        let h = suits-held u k.cache fit (writes-all cl k o e u q) 0 m in
        let its : T (member 0 (listed (made u))) = fits-gone u 0 m (subst (λ i. T (fits u 0 i)) (seen h.0 h.1) h.3) in
        absurd (no_both (member 0 k.ids) (first-in k.ids 0 (makes-first cl k o e u q 0 (made-is (made u) its))) zero.ids)
  ]
    where
      made-is : (o : Option ℕ) → T (member 0 (listed o)) → o ≡ Some 0
      made-is None m = absurd m
      made-is (Some y) m = ap Some (sym (equal 0 y (is-true (0 == y) (or-none (0 == y) m))))
        where
          or-none : (b : Bool) → T (b || false) → T b
          or-none true t = t
          or-none false t = t

  pub ops-left-out : (c b p : ℕ) (v : Verdict) → verdict cl k ≡ v → Suits v k → LeaveOut 0 (op_given c b p k v)
  ops-left-out c b p (Need x h) e f = tt
  ops-left-out c b p (Lost ns xs) e f = tt
  ops-left-out c b p (NeedIds xs) e f = tt
  ops-left-out c b p (Done o) e f = go o.update refl
    where
      go : (u : Option Update) → o.update ≡ u → LeaveOut 0 (elim u as (λ z. List Op) [ None ↦ [] | Some w ↦ record { clerk = c; boot = b; number = k.log.next; place = p; update = w } ∷ [] ])
      go None q = tt
      go (Some w) q = (no-operand o e w q (f w q), tt)

  pub still-no-zero : (v : Verdict) → verdict cl k ≡ v → Suits v k → HasNoZero (answered_clerk v k)
  still-no-zero (Need x h) e f = zero
  still-no-zero (Lost ns xs) e f = record { ids = zero.ids; undurable = zero.undurable; owed = part-unowed (λ q. not (member q.1 xs)) k.owed 0 zero.owed }
  still-no-zero (NeedIds xs) e f = record { ids = zero.ids; undurable = zero.undurable; owed = zero.owed }
  still-no-zero (Done o) e f = go o.update refl
    where
      go : (u : Option Update) → o.update ≡ u → HasNoZero (done_clerk o u k)
      go None q = record { ids = zero.ids; undurable = zero.undurable; owed = zero.owed }
      go (Some w) q = record {
        ids = fewer-ids w k.ids zero.ids;
        undurable = each-append {A = ℕ × Update} (λ y. T (not (has_operand 0 y.1))) k.log.undurable ((k.log.next, w) ∷ []) zero.undurable (no-operand o e w q (f w q), tt);
        owed = zero.owed;
      }
