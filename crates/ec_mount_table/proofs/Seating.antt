-- The clerks of the volumes that were reached, and the passes that are to make their calls.
use Rattle.std.proofs.Common.{◌≡◌, ◌<◌, ℕ, List, [], length, Option, None, Result, Ok, Err, sym, ap, ◌∙◌, subst, arith}
use Rattle.std.specs.Prelude.{map}
use Rattle.std.proofs.lemmas.List.{length-map}
use Rattle.ec_plain.specs.Walk.{Path}
use Rattle.ec_lock.specs.PassViews.{first, front}
use Rattle.ec_lock.specs.declared.types.Pass.{Pass}
use Rattle.ec_lock.specs.declared.types.TracedLock.{TracedLock}
use Rattle.ec_link.specs.Links.{Heard}
use Rattle.ec_clerknode.specs.declared.fault.NodeFault.{NodeFault}
use Rattle.ec_clerknode.specs.declared.state.Node.{Node}
use Rattle.ec_clerknode.specs.declared.step.Step.{Step}
use Rattle.ec_mount.specs.Run.{NetSeen}
use Rattle.ec_mount_words.specs.Mounts.{mount_path}
use Rattle.ec_mounts.specs.Mounts.{AreSeated}
use Rattle.ec_mounts.proofs.Seats.{same_length}
use Rattle.ec_mount_table.specs.Runs.{Each}
use Rattle.ec_mount_table.specs.Going.{ReachedThese, ReachedUpTo, ReachFails}

-- What a table that was made of a list hands out.
module _ {L C S : Type 0} (lock_of : C → TracedLock (Node L) Step) (pass_of : S → Pass (Node L) Step) (list : List (Path × C × Pass (Node L) Step)) (made clerks : List C) (seats parts : List S) (clerks_are : clerks ≡ made) (parts_are : parts ≡ seats)
    (clerks_from : made ≡ map (λ (one : Path × C × Pass (Node L) Step). one.1) list) (passes_from : map pass_of seats ≡ map (λ (one : Path × C × Pass (Node L) Step). one.2) list) where
  pub locks_same : map lock_of clerks ≡ map lock_of (map (λ (one : Path × C × Pass (Node L) Step). one.1) list)
  locks_same = ap (map lock_of) (clerks_are ∙ clerks_from)

  pub parts_seated : AreSeated (map lock_of made) (map pass_of seats) → AreSeated (map lock_of clerks) (map pass_of parts)
  parts_seated are = subst (AreSeated (map lock_of clerks)) (sym (ap (map pass_of) parts_are)) (subst (λ l. AreSeated l (map pass_of seats)) (sym (ap (map lock_of) clerks_are)) are)

  pub parts_fresh : Each (map (λ (one : Path × C × Pass (Node L) Step). one.2) list) (λ place pass. (pass.number ≡ 0) × (front pass ≡ [])) → Each (map pass_of parts) (λ place pass. (pass.number ≡ 0) × (front pass ≡ []))
  parts_fresh each = subst (λ l. Each l (λ place pass. (pass.number ≡ 0) × (front pass ≡ []))) (sym (ap (map pass_of) parts_are ∙ passes_from)) each

  pub clerks_alone : Each (map (λ (one : Path × C × Pass (Node L) Step). one.1) list) (λ place clerk. (first (lock_of clerk)).linker ≡ None) → Each clerks (λ place clerk. (first (lock_of clerk)).linker ≡ None)
  clerks_alone each = subst (λ l. Each l (λ place clerk. (first (lock_of clerk)).linker ≡ None)) (sym (clerks_are ∙ clerks_from)) each

-- The volumes that were reached, beside those of the table.
module _ {L C A : Type 0} (lock_of : C → TracedLock (Node L) Step) (given : L → Option (List Heard)) (got : L → Option (List (List ℕ))) (id boot : ℕ) (words : List A) (bytes_of : A → List ℕ) (before now : NetSeen) (clerks : List C) (table : List Path) (is : table ≡ map mount_path (map bytes_of words))
    (result : Result (Unit {0}) NodeFault) (r : ReachedUpTo given got id boot (length words) before now (map lock_of clerks) result) where
  table_many : length table ≡ length words
  table_many = ap length is ∙ (length-map (map bytes_of words) mount_path ∙ length-map words bytes_of)

  all_reached : result ≡ Ok tt → ReachedUpTo given got id boot (length words) before now (map lock_of clerks) (Ok tt)
  all_reached done = subst (ReachedUpTo given got id boot (length words) before now (map lock_of clerks)) done r

  pub parts_many : {S : Type 0} (pass_of : S → Pass (Node L) Step) (parts : List S) → AreSeated (map lock_of clerks) (map pass_of parts) → result ≡ Ok tt → length parts ≡ length table
  parts_many pass_of parts seated done = same_length lock_of pass_of clerks parts seated ∙ (sym (length-map clerks lock_of) ∙ ((all_reached done).0 ∙ sym table_many))

  pub reached_table : result ≡ Ok tt → ReachedThese given got id boot (length table) before now (map lock_of clerks)
  reached_table done = subst (λ n. ReachedThese given got id boot n before now (map lock_of clerks)) ((all_reached done).0 ∙ sym table_many) (all_reached done).1

  pub fails_table : (f : NodeFault) → result ≡ Err f → (length clerks < length table) × ReachFails given got id boot before now (map lock_of clerks) f
  fails_table f failed =
      let not = subst (ReachedUpTo given got id boot (length words) before now (map lock_of clerks)) failed r in
      let few = not.0 in
      (omega (arith, few, table_many, length-map clerks lock_of), not.1)
