-- Who linked again and who made the calls, at the same time.
use Rattle.std.specs.Prelude.{OnOk}
use Rattle.std.proofs.Common.{◌≡◌, ◌<◌, ◌≤◌, ℕ, zero, suc, List, [], ◌∷◌, ◌++◌, length, length-append, take, drop, Option, Some, None, Ok, slice_index_or, refl, sym, ap, ◌∙◌, subst, arith}
use Rattle.ec_plain.specs.declared.call.Call.{Call}
use Rattle.ec_lock.specs.PassViews.{first}
use Rattle.ec_lock.specs.declared.types.Pass.{Pass}
use Rattle.ec_lock.specs.declared.types.TracedLock.{TracedLock}
use Rattle.ec_link.specs.Links.{Heard}
use Rattle.ec_clerknode.specs.declared.state.Node.{Node}
use Rattle.ec_clerknode.specs.declared.step.Step.{Step}
use Rattle.ec_clerknode.specs.LaneRuns.{lists_of}
use Rattle.ec_mount.specs.Run.{NetSeen}
use Rattle.ec_mount.specs.Calls.{Called}
use Rattle.ec_mount.specs.Linking.{Linked, LinkedMore}
use Rattle.ec_mount.specs.Parts.{LinkerDid, CallerDid, PartRan}
use Rattle.ec_mount.specs.declared.calls.Replies.{Replies}
use Rattle.ec_mount.specs.declared.linked.Did.{Did}
use Rattle.ec_mount.specs.declared.linked.Did.TheVariants as did

module _ {S : Type 0} (one two a b : S) (qs : List S) where
  two_last : (x y : S) (qs : List S) → x ∷ y ∷ [] ≡ (qs ++ a ∷ []) ++ b ∷ [] → x ∷ y ∷ [] ≡ a ∷ b ∷ []
  two_last x y [] e = e
  two_last x y (q ∷ qs) e = absurd (omega (arith, ap length e, length-append (qs ++ a ∷ []) (b ∷ []), length-append qs (a ∷ [])))

  two_only : (news : List S) → length news ≡ 2 → take 2 (news ++ drop (length news) (one ∷ two ∷ [])) ≡ (qs ++ a ∷ []) ++ b ∷ [] → news ≡ a ∷ b ∷ []
  two_only [] l e = absurd (omega (arith, l))
  two_only (x ∷ []) l e = absurd (omega (arith, l))
  two_only (x ∷ y ∷ []) l e = two_last x y qs e
  two_only (x ∷ y ∷ z ∷ zs) l e = absurd (omega (arith, l))

  -- a list of two was lent and then emptied from its end
  pub emptied : (olds news ps : List S) (n : ℕ) → olds ≡ one ∷ two ∷ [] → n ≡ 2 → length news ≡ n → take n (news ++ drop (length news) olds) ≡ ps ++ b ∷ [] → ps ≡ qs ++ a ∷ [] → news ≡ a ∷ b ∷ []
  emptied olds news ps n are is len last next =
      two_only news (len ∙ is)
      (subst (λ k. take k (news ++ drop (length news) (one ∷ two ∷ [])) ≡ take n (news ++ drop (length news) olds)) is (subst (λ o. take n (news ++ drop (length news) o) ≡ take n (news ++ drop (length news) olds)) are refl)
      ∙ (last ∙ ap (λ l. l ++ b ∷ []) next))

-- the two of a list, each with what it became
module _ {S : Type 0} (P : S → S → Type 0) (one two a b : S) (olds news : List S) (are : olds ≡ one ∷ two ∷ []) (is : news ≡ a ∷ b ∷ [])
    (each : (i : ℕ) (d : S) → i < length olds → P (slice_index_or olds i d) (slice_index_or news i d)) where
  pub first_of : P one a
  first_of = subst (λ n. P one (slice_index_or n 0 one)) is (subst (λ o. P (slice_index_or o 0 one) (slice_index_or news 0 one)) are (each 0 one (subst (λ o. 0 < length o) (sym are) (omega arith))))

  pub second_of : P two b
  second_of = subst (λ n. P two (slice_index_or n 1 two)) is (subst (λ o. P (slice_index_or o 1 two) (slice_index_or news 1 two)) are (each 1 two (subst (λ o. 1 < length o) (sym are) (omega arith))))

-- what holds of one of two holds of each
pub each_of : {S : Type 0} (P : S → Type 0) (one two : S) (olds : List S) → olds ≡ one ∷ two ∷ [] → P one → P two → (k : ℕ) (d : S) → k < length olds → P (slice_index_or olds k d)
each_of P one two olds are p q k d l = subst (λ o. P (slice_index_or o k d)) (sym are) (go k (subst (λ o. k < length o) are l))
  where
    go : (k : ℕ) → k < 2 → P (slice_index_or (one ∷ two ∷ []) k d)
    go zero l = p
    go (suc zero) l = q
    go (suc (suc k)) l = absurd (omega (arith, l))

-- what was called with this value left that one
pub left_so : {S : Type 0} (P : S → S → Type 0) (a b x y : S) → a ≡ x → b ≡ y → P a b → P x y
left_so P a b x y e f p = subst (λ s. P s y) e (subst (P a) f p)

module _ {L M : Type 0} (lock : TracedLock (Node L) Step) (name : M → ℕ) (seen : M → NetSeen) (counts : L → ℕ) (given : L → Option (List Heard)) (got : L → Option (List (List ℕ))) where
  -- neither has run
  pub ran_none : (lent : Option M) (pass : Pass (Node L) Step) (lanes : List (List Call)) (d : Option Did) → d ≡ None → PartRan lock name seen counts given got lent pass lanes lent pass d
  ran_none (Some m) pass lanes d e = (refl, omega arith, subst (LinkerDid lock name seen counts given got m pass m pass) (sym e) tt)
  ran_none None pass lanes d e = subst (CallerDid lock pass lanes pass) (sym e) tt

  module _ (before : M) (old new : Pass (Node L) Step) (lanes : List (List Call)) (lent : Option M) (d : Option Did) (p : PartRan lock name seen counts given got (Some before) old lanes lent new d) where
    -- the net is there still
    pub not_lost : lent ≡ None → ⊥
    not_lost e = subst (λ o. PartRan lock name seen counts given got (Some before) old lanes o new d) e p

    module _ (after : M) (is : lent ≡ Some after) where
      ran_by : PartRan lock name seen counts given got (Some before) old lanes (Some after) new d
      ran_by = subst (λ o. PartRan lock name seen counts given got (Some before) old lanes o new d) is p

      pub same_name : name after ≡ name before
      same_name = ran_by.0

      pub no_fewer : (seen before).faults ≤ (seen after).faults
      no_fewer = ran_by.1

      pub linked_by : d ≡ Some (did.Linked (Ok tt)) → Linked lock old new × LinkedMore counts given got (first lock) old new (seen before) (seen after)
      linked_by e = subst (LinkerDid lock name seen counts given got before old after new) e ran_by.2

  -- who makes the calls has no net
  pub caller_did : (old new : Pass (Node L) Step) (lanes : List (List Call)) (lent : Option M) (d : Option Did) → PartRan lock name seen counts given got None old lanes lent new d → CallerDid lock old lanes new d
  caller_did old new lanes None d p = p
  caller_did old new lanes (Some m) d p = absurd p

-- the calls were made
pub called_by : {L : Type 0} (lock : TracedLock (Node L) Step) (old new : Pass (Node L) Step) (lanes : List (List Call)) (d : Option Did) (made : Replies) → d ≡ Some (did.Called made) → CallerDid lock old lanes new d → Called lock old lanes new (lists_of made.lanes) made.last
called_by lock old new lanes d made e p = subst (CallerDid lock old lanes new) e p
