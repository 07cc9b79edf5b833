-- The volumes behind a sync of all of them.
use Rattle.std.proofs.Common.{◌≡◌, ◌+◌, ◌<◌, ◌≤◌, ◌⊎◌, ℕ, suc, List, [], ◌∷◌, ◌++◌, length, drop, Option, Some, None, Result, Ok, Err, slice_index_or, refl, sym, ap, ◌∙◌, subst, inl, inr, ⊎_elim, arith}
use Rattle.std.specs.Prelude.{map, Vec}
use Rattle.std.specs.declared.alloc.Global.{Global}
use Rattle.std.proofs.lemmas.List.{append-nil, append_assoc, drop_all, drop_more}
use Rattle.ec_history.specs.declared.entry.Answer.{Answer}
use Rattle.ec_plain.specs.declared.call.Call.{Call}
use Rattle.ec_plain.specs.declared.call.Call.TheVariants.{Sync}
use Rattle.ec_lock.specs.declared.types.Pass.{Pass}
use Rattle.ec_outs.specs.Outs.{Reply}
use Rattle.ec_clerknode.specs.declared.fault.NodeFault.{NodeFault}
use Rattle.ec_clerknode.specs.declared.fault.NodeFault.TheVariants as fault
use Rattle.ec_clerknode.specs.declared.state.Node.{Node}
use Rattle.ec_clerknode.specs.declared.step.Step.{Step}
use Rattle.ec_mounts.specs.Mounts.{AllMade, AllSynced, Makes, SyncedAll, SyncFails}
use Rattle.ec_mounts.specs.Parts.{Answered, Gathers, MetAll, MetFirst}
use Rattle.ec_mounts.proofs.Seats.{some_is}

module _ {L : Type 0} where
  -- the next answer is that of the volume that was asked
  pub one_answered : (call : Call) (old new : Pass (Node L) Step) (met : Option (Result Reply NodeFault)) (mets : List (Option (Result Reply NodeFault))) (answers : List Answer) → Answered (Some call) old new met → MetAll (met ∷ mets) answers
      → (answer : Answer) × (rest : List Answer) × (answers ≡ answer ∷ rest) × ((op : Option ℕ) × Makes call old new (Ok (answer, op))) × MetAll mets rest
  one_answered call old new None mets answers did all = absurd all
  one_answered call old new (Some (Err f)) mets answers did all = absurd all
  one_answered call old new (Some (Ok reply)) mets [] did all = absurd all
  one_answered call old new (Some (Ok reply)) mets (answer ∷ rest) did all =
      (answer, rest, refl, (reply.1, subst (Makes call old new) (sym (some_is did.1) ∙ ap (λ a. Ok (a, reply.1)) (sym all.0)) did.2), all.1)

  -- the first fault is that of the volume that was asked, or it was answered
  pub one_failed : (call : Call) (old new : Pass (Node L) Step) (met : Option (Result Reply NodeFault)) (mets : List (Option (Result Reply NodeFault))) (f : NodeFault) → Answered (Some call) old new met → MetFirst (met ∷ mets) f
      → Makes call old new (Err f) ⊎ (((reply : Reply) × Makes call old new (Ok reply)) × MetFirst mets f)
  one_failed call old new None mets f did first = absurd first
  one_failed call old new (Some (Err g)) mets f did first = inl (subst (Makes call old new) (sym (some_is did.1) ∙ ap (λ h. Err h) first) did.2)
  one_failed call old new (Some (Ok reply)) mets f did first = inr ((reply, subst (Makes call old new) (sym (some_is did.1)) did.2), first)

module _ {S : Type 0} (met_of : S → Option (Result Reply NodeFault)) where
  -- these are the answers of the first so many parts, before which no fault stands
  abbrev pub AreFirst : List S → ℕ → List Answer → Type 0
  AreFirst parts i answers = ((rest : List Answer) → MetAll (map met_of (drop i parts)) rest → MetAll (map met_of parts) (answers ++ rest)) × ((f : NodeFault) → MetFirst (map met_of (drop i parts)) f → MetFirst (map met_of parts) f)

  pub first_none : (parts : List S) (answers : List Answer) → answers ≡ [] → AreFirst parts 0 answers
  first_none parts answers none = (λ rest all. subst (λ l. MetAll (map met_of parts) (l ++ rest)) (sym none) all, λ f first. first)

  all_step : (mets : List (Option (Result Reply NodeFault))) (met : Option (Result Reply NodeFault)) (reply : Reply) (answer : Answer) (rest : List Answer) → met ≡ Some (Ok reply) → answer ≡ reply.0 → MetAll mets rest → MetAll (met ∷ mets) (answer ∷ rest)
  all_step mets met reply answer rest is same all = subst (λ m. MetAll (m ∷ mets) (answer ∷ rest)) (sym is) (same, all)

  fault_step : (mets : List (Option (Result Reply NodeFault))) (met : Option (Result Reply NodeFault)) (reply : Reply) (f : NodeFault) → met ≡ Some (Ok reply) → MetFirst mets f → MetFirst (met ∷ mets) f
  fault_step mets met reply f is first = subst (λ m. MetFirst (m ∷ mets) f) (sym is) first

  -- one more part was answered
  pub first_more : (parts : List S) (i : ℕ) (d : S) (reply : Reply) (answers more : List Answer) (answer : Answer) → i < length parts → met_of (slice_index_or parts i d) ≡ Some (Ok reply) → answer ≡ reply.0 → more ≡ answers ++ answer ∷ [] → AreFirst parts i answers → AreFirst parts (i + 1) more
  first_more parts i d reply answers more answer l is same longer first =
      let at = drop_more parts i d l in
      let met = met_of (slice_index_or parts i d) in
      let later = map met_of (drop (i + 1) parts) in (
        (λ rest all. subst (MetAll (map met_of parts)) (sym (append_assoc answers (answer ∷ []) rest) ∙ ap (λ l. l ++ rest) (sym longer))
            (first.0 (answer ∷ rest) (subst (λ l. MetAll (map met_of l) (answer ∷ rest)) (sym at) (all_step later met reply answer rest is same all)))),
        (λ f fault. first.1 f (subst (λ l. MetFirst (map met_of l) f) (sym at) (fault_step later met reply f is fault))),
      )

  -- a part met the first fault
  pub first_fault : (parts : List S) (i : ℕ) (d : S) (answers : List Answer) (f : NodeFault) → i < length parts → met_of (slice_index_or parts i d) ≡ Some (Err f) → AreFirst parts i answers → MetFirst (map met_of parts) f
  first_fault parts i d answers f l is first =
      first.1 f (subst (λ l. MetFirst (map met_of l) f) (sym (drop_more parts i d l)) (subst (λ m. MetFirst (m ∷ map met_of (drop (i + 1) parts)) f) (sym is) refl))

  -- all were answered
  pub first_all : (parts : List S) (i : ℕ) (answers : List Answer) → length parts ≤ i → AreFirst parts i answers → MetAll (map met_of parts) answers
  first_all parts i answers l first =
      subst (MetAll (map met_of parts)) (append-nil answers) (first.0 [] (subst (λ l. MetAll (map met_of l) []) (sym (drop_all i parts l)) tt))

module _ {L S : Type 0} (pass_of : S → Pass (Node L) Step) (met_of : S → Option (Result Reply NodeFault)) where
  -- what each volume did that was to sync
  abbrev pub AllDid : List S → List S → Type 0
  AllDid [] [] = Unit {0}
  AllDid (old ∷ olds) (new ∷ news) = Answered (Some Sync) (pass_of old) (pass_of new) (met_of new) × AllDid olds news
  AllDid _ _ = ⊥

  pub all_did : (olds news : List S) → length news ≡ length olds → ((i : ℕ) (d : S) → i < length olds → Answered (Some Sync) (pass_of (slice_index_or olds i d)) (pass_of (slice_index_or news i d)) (met_of (slice_index_or news i d))) → AllDid olds news
  all_did [] [] many each = tt
  all_did [] (new ∷ news) many each = absurd (omega (arith, many))
  all_did (old ∷ olds) [] many each = absurd (omega (arith, many))
  all_did (old ∷ olds) (new ∷ news) many each = (each 0 old (omega arith), all_did olds news (omega (arith, many)) (λ i d l. each (suc i) d (omega (arith, l))))

  pub all_synced : (olds news : List S) (answers : List Answer) → AllDid olds news → MetAll (map met_of news) answers → AllSynced (map pass_of olds) (map pass_of news) answers
  all_synced [] [] [] did all = tt
  all_synced [] [] (answer ∷ answers) did all = absurd all
  all_synced [] (new ∷ news) answers did all = absurd did
  all_synced (old ∷ olds) [] answers did all = absurd did
  all_synced (old ∷ olds) (new ∷ news) answers did all =
      let one = one_answered Sync (pass_of old) (pass_of new) (met_of new) (map met_of news) answers did.0 all in
      subst (AllSynced (pass_of old ∷ map pass_of olds) (pass_of new ∷ map pass_of news)) (sym one.2) (one.3, all_synced olds news one.1 did.1 one.4)

  pub sync_fails : (olds news : List S) (f : NodeFault) → AllDid olds news → MetFirst (map met_of news) f → SyncFails (map pass_of olds) (map pass_of news) f
  sync_fails [] [] f did first = absurd first
  sync_fails [] (new ∷ news) f did first = absurd did
  sync_fails (old ∷ olds) [] f did first = absurd did
  sync_fails (old ∷ olds) (new ∷ news) f did first =
      ⊎_elim (λ (m : Makes Sync (pass_of old) (pass_of new) (Err f)). inl m)
      (λ (w : ((reply : Reply) × Makes Sync (pass_of old) (pass_of new) (Ok reply)) × MetFirst (map met_of news) f). inr (w.0, sync_fails olds news f did.1 w.1))
      (one_failed Sync (pass_of old) (pass_of new) (met_of new) (map met_of news) f did.0 first)

  all_made : (olds news : List S) → AllDid olds news → AllMade (map pass_of olds) (map pass_of news)
  all_made [] [] did = tt
  all_made [] (new ∷ news) did = absurd did
  all_made (old ∷ olds) [] did = absurd did
  all_made (old ∷ olds) (new ∷ news) did = ((did.0.0, did.0.2), all_made olds news did.1)

  pub synced : (olds news : List S) (result : Result (Vec Answer Global) NodeFault) → AllDid olds news → Gathers (map met_of news) result → SyncedAll (map pass_of olds) (map pass_of news) result
  synced olds news (Ok answers) did all = all_synced olds news answers.items did all
  synced olds news (Err f) did all = ⊎_elim (λ (first : MetFirst (map met_of news) f). inl (sync_fails olds news f did first)) (λ (e : f ≡ fault.NoMemory). inr (e, all_made olds news did)) all
