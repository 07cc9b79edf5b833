-- Volumes that are reached one after another.
use Rattle.std.proofs.Common.{◌≡◌, ◌+◌, ◌<◌, ◌≤◌, ◌++◌, ℕ, List, [], ◌∷◌, length, Option, None, Ok, Err, refl, sym, ap, ◌∙◌, subst, arith}
use Rattle.std.specs.Prelude.{map}
use Rattle.std.proofs.lemmas.List.{length-append}
use Rattle.ec_plain.specs.Walk.{Path}
use Rattle.ec_lock.specs.PassViews.{first, front, IsPassOf}
use Rattle.ec_lock.specs.declared.types.Pass.{Pass}
use Rattle.ec_lock.specs.declared.types.TracedLock.{TracedLock}
use Rattle.ec_link.specs.Links.{Heard}
use Rattle.ec_clerknode.specs.declared.fault.NodeFault.{NodeFault}
use Rattle.ec_clerknode.specs.declared.fault.NodeFault.TheVariants as fault
use Rattle.ec_clerknode.specs.declared.state.Node.{Node}
use Rattle.ec_clerknode.specs.declared.step.Step.{Step}
use Rattle.ec_mount.specs.Run.{NetSeen}
use Rattle.ec_mount_table.specs.Runs.{Each}
use Rattle.ec_mount_table.specs.Going.{Greeted, NotReached, ReachedThese, ReachedUpTo}
use Rattle.ec_mount_table.proofs.Places.{each_none, each_snoc}
use Rattle.ec_mount_table.proofs.Reaching.{reach_fails, reached_more, reached_none}
use Rattle.ec_mounts.proofs.Built.{map_push}

not_none : {A : Type 0} (xs : List A) (x : A) (P : Type 0) → xs ++ x ∷ [] ≡ [] → P
not_none xs x P e = absurd (omega (arith, ap length e, length-append xs (x ∷ [])))

module _ {L C : Type 0} (lock_of : C → TracedLock (Node L) Step) (given : L → Option (List Heard)) (got : L → Option (List (List ℕ))) (id boot : ℕ) where
  abbrev pub locks_of : List (Path × C × Pass (Node L) Step) → List (TracedLock (Node L) Step)
  locks_of list = map lock_of (map (λ one. one.1) list)

  -- so many volumes were reached, and none made a call
  abbrev pub Volumes : ℕ → NetSeen → NetSeen → List (Path × C × Pass (Node L) Step) → Type 0
  Volumes i before now list =
      Each list (λ place one. IsPassOf (lock_of one.1) one.2)
      × Each (map (λ one. one.2) list) (λ place pass. (pass.number ≡ 0) × (front pass ≡ []))
      × Each (map (λ one. one.1) list) (λ place clerk. (first (lock_of clerk)).linker ≡ None)
      × (length (locks_of list) ≡ i)
      × ReachedThese given got id boot (length (locks_of list)) before now (locks_of list)
      × (locks_of list ≡ [] → now ≡ before)

  pub volumes_none : (list : List (Path × C × Pass (Node L) Step)) (net : NetSeen) → list ≡ [] → Volumes 0 net net list
  volumes_none list net none = (
    each_none list _ none,
    each_none (map (λ (one : Path × C × Pass (Node L) Step). one.2) list) _ (ap (map (λ (one : Path × C × Pass (Node L) Step). one.2)) none),
    each_none (map (λ (one : Path × C × Pass (Node L) Step). one.1) list) _ (ap (map (λ (one : Path × C × Pass (Node L) Step). one.1)) none),
    ap (λ (l : List (Path × C × Pass (Node L) Step)). length (locks_of l)) none,
    reached_none given got id boot (locks_of list) (length (locks_of list)) net (ap locks_of none),
    λ e. refl,
  )

  pub volumes_more : (i : ℕ) (before now later : NetSeen) (old new : List (Path × C × Pass (Node L) Step)) (one : Path × C × Pass (Node L) Step) → new ≡ old ++ one ∷ [] → now.faults ≤ later.faults → Volumes i before now old
      → IsPassOf (lock_of one.1) one.2 × (front one.2 ≡ []) × (one.2.number ≡ 0) → Greeted given got id boot (first (lock_of one.1)) now later → Volumes (i + 1) before later new
  volumes_more i before now later old new one longer faults v pass greeted =
      let clerk_of = λ (x : Path × C × Pass (Node L) Step). x.1 in
      let pass_of = λ (x : Path × C × Pass (Node L) Step). x.2 in
      let clerks = map_push clerk_of old new one longer in
      let passes = map_push pass_of old new one longer in
      let locks = map_push lock_of (map clerk_of old) (map clerk_of new) one.1 clerks in
      let had = v.3 in (
        subst (λ l. Each l (λ place x. IsPassOf (lock_of x.1) x.2)) (sym longer) (each_snoc old one (λ place x. IsPassOf (lock_of x.1) x.2) v.0 pass.0),
        subst (λ l. Each l (λ place p. (p.number ≡ 0) × (front p ≡ []))) (sym passes) (each_snoc (map pass_of old) one.2 (λ place p. (p.number ≡ 0) × (front p ≡ [])) v.1 (pass.2, pass.1)),
        subst (λ l. Each l (λ place c. (first (lock_of c)).linker ≡ None)) (sym clerks) (each_snoc (map clerk_of old) one.1 (λ place c. (first (lock_of c)).linker ≡ None) v.2 greeted.alone),
        omega (arith, ap length locks, length-append (locks_of old) (lock_of one.1 ∷ []), had),
        reached_more given got id boot (locks_of old) (locks_of new) (lock_of one.1) before now later locks faults v.4 greeted,
        λ none. not_none (locks_of old) (lock_of one.1) (later ≡ before) (sym locks ∙ none),
      )

  module _ (i many : ℕ) (before now later : NetSeen) (list : List (Path × C × Pass (Node L) Step)) (v : Volumes i before now list) where
    pub volumes_done : i ≡ many → ReachedUpTo given got id boot many before now (locks_of list) (Ok tt)
    volumes_done all = (v.3 ∙ all, v.4)

    module _ (more : i < many) where
      few : length (locks_of list) < many
      few = let had = v.3 in omega (arith, had, more)

      pub volumes_want : ReachedUpTo given got id boot many before later (locks_of list) (Err fault.NoMemory)
      volumes_want = (few, tt)

      pub volumes_fail : (f : NodeFault) → now.faults ≤ later.faults → NotReached id boot now later f → ReachedUpTo given got id boot many before later (locks_of list) (Err f)
      volumes_fail f faults n = (few, reach_fails given got id boot (locks_of list) before now later faults v.4 v.5 f n)
