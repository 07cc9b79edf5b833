-- What the calls over a mount table do to its volumes. Of a volume a clause shows its clerk's lock and the pass that makes its calls.
use Rattle.std.specs.Prelude.{◌≡◌, ◌⊎◌, ◌+◌, ◌<◌, ◌≤◌, ℕ, List, [], ◌∷◌, ◌++◌, length, map, Option, Some, None, Result, Ok, Err, Vec, slice_get}
use Rattle.std.specs.declared.alloc.Global.{Global}
use mathlib.Core.List.{IsPrefix}
use Rattle.ec_history.specs.declared.entry.Answer.{Answer}
use Rattle.ec_plain.specs.Walk.{Path}
use Rattle.ec_plain.specs.declared.call.Call.{Call}
use Rattle.ec_plain.specs.declared.call.Call.TheVariants.{Sync}
use Rattle.ec_protocol.specs.declared.clerk.Clerk.{Clerk}
use Rattle.ec_lock.specs.PassViews.{first, front, numbers, IsPassOf}
use Rattle.ec_lock.specs.Steps.{Member, of}
use Rattle.ec_lock.specs.declared.types.Pass.{Pass}
use Rattle.ec_lock.specs.declared.types.TracedLock.{TracedLock}
use Rattle.ec_link.specs.Links.{Heard}
use Rattle.ec_outs.specs.Outs.{Reply}
use Rattle.ec_clerknode.specs.declared.fault.NodeFault.{NodeFault}
use Rattle.ec_clerknode.specs.declared.fault.NodeFault.TheVariants as fault
use Rattle.ec_clerknode.specs.declared.state.Node.{Node}
use Rattle.ec_clerknode.specs.declared.step.Step.{Step}
use Rattle.ec_clerknode.specs.Run.{told_by}
use Rattle.ec_clerknode.specs.Turns.{number_of, calls_by}
use Rattle.ec_clerknode.specs.PassTurns.{Called, Finished}
use Rattle.ec_mount_words.specs.OfRoute.Calls.{paths_of, call_below, raised}
use Rattle.ec_mount_words.specs.OfRoute.Routes.{path_at, IsRoute}
use Rattle.ec_mount_words.specs.declared.route.routes.Route.{Route}
use Rattle.ec_mount_words.specs.declared.route.routes.Route.TheVariants as route
use Rattle.ec_mounts.specs.declared.mounts.MountAnswer.{MountAnswer}
use Rattle.ec_mounts.specs.declared.mounts.MountAnswer.TheVariants as seen

-- what the caller sees of what a volume's clerk gave: the answer, with the places of its names in the whole path
abbrev pub raised_reply : ℕ → Result Reply NodeFault → Result (MountAnswer × Option ℕ) NodeFault
raised_reply names (Ok reply) = Ok (seen.Volume (raised names reply.0), reply.1)
raised_reply names (Err f) = Err f

module _ {L : Type 0} where
  -- each pass is of the lock beside it
  abbrev pub AreSeated : List (TracedLock (Node L) Step) → List (Pass (Node L) Step) → Type 0
  AreSeated [] [] = Unit {0}
  AreSeated (lock ∷ locks) (pass ∷ passes) = IsPassOf lock pass × AreSeated locks passes
  AreSeated [] (pass ∷ passes) = ⊥
  AreSeated (lock ∷ locks) [] = ⊥

  -- the pass had turns, or none, and began no call
  pub record Rests (old new : Pass (Node L) Step) : Type 0 where
    pub same : (new.number ≡ old.number) × (numbers new ≡ numbers old)
    pub later : IsPrefix (front old) (front new)
    pub others : (n : ℕ) → Member n (numbers old) → ¬ (n ≡ old.number) → of number_of n (front old) ≡ of number_of n (front new)
    pub begun : calls_by old.number (front new) ≡ calls_by old.number (front old)

  -- the pass made this call, and then had turns in which it began none
  pub record Makes (call : Call) (old new : Pass (Node L) Step) (met : Result Reply NodeFault) : Type 0 where
    pub same : (new.number ≡ old.number) × (numbers new ≡ numbers old)
    pub later : IsPrefix (front old) (front new)
    pub others : (n : ℕ) → Member n (numbers old) → ¬ (n ≡ old.number) → of number_of n (front old) ≡ of number_of n (front new)
    -- the list behind the call
    pub behind : List Step
    pub called : Called old.number call (front old) behind met
    pub going_on : IsPrefix behind (front new)
    pub begun : calls_by old.number (front new) ≡ calls_by old.number behind

  -- all volumes took turns at most
  abbrev pub AllRest : List (Pass (Node L) Step) → List (Pass (Node L) Step) → Type 0
  AllRest [] [] = Unit {0}
  AllRest (old ∷ olds) (new ∷ news) = Rests old new × AllRest olds news
  AllRest _ _ = ⊥

  -- The volume at this place made the call, and the others took turns at most.
  pub record MadeAt (place : ℕ) (call : Call) (olds news : List (Pass (Node L) Step)) (met : Result Reply NodeFault) : Type 0 where
    pub many : length news ≡ length olds
    pub inside : place < length olds
    pub here : (old new : Pass (Node L) Step) → slice_get olds place ≡ Some old → slice_get news place ≡ Some new → Makes call old new met
    pub others : (i : ℕ) (old new : Pass (Node L) Step) → ¬ (i ≡ place) → slice_get olds i ≡ Some old → slice_get news i ≡ Some new → Rests old new

  -- the call was made at the volume with this mount path, with the rest of its paths, or memory was wanting before it was begun
  abbrev pub WentTo : Path → ℕ → Call → List (Pass (Node L) Step) → List (Pass (Node L) Step) → Result (MountAnswer × Option ℕ) NodeFault → Type 0
  WentTo path place call olds news result =
      ((met : Result Reply NodeFault) × MadeAt place (call_below (length path) call) olds news met × (result ≡ raised_reply (length path) met))
      ⊎ ((result ≡ Err fault.NoMemory) × (news ≡ olds))

  -- where it goes nowhere, nothing is begun
  abbrev pub WentBy : List Path → Call → List (Pass (Node L) Step) → List (Pass (Node L) Step) → Result (MountAnswer × Option ℕ) NodeFault → Route → Type 0
  WentBy table call olds news result (route.To place) = WentTo (path_at table place) place call olds news result
  WentBy table call olds news result (route.NoVolume number) = (result ≡ Ok (seen.NoVolume number, None)) × (news ≡ olds)
  WentBy table call olds news result route.CrossVolume = (result ≡ Ok (seen.CrossVolume, None)) × (news ≡ olds)

  abbrev pub Went : List Path → Call → List (Pass (Node L) Step) → List (Pass (Node L) Step) → Result (MountAnswer × Option ℕ) NodeFault → Type 0
  Went table call olds news result = (to : Route) × IsRoute table (paths_of call) to × WentBy table call olds news result to

  -- each volume made a sync, with its answer
  abbrev pub AllSynced : List (Pass (Node L) Step) → List (Pass (Node L) Step) → List Answer → Type 0
  AllSynced [] [] [] = Unit {0}
  AllSynced (old ∷ olds) (new ∷ news) (answer ∷ answers) = ((op : Option ℕ) × Makes Sync old new (Ok (answer, op))) × AllSynced olds news answers
  AllSynced _ _ _ = ⊥

  -- the volumes made a sync, of which this is the first fault
  abbrev pub SyncFails : List (Pass (Node L) Step) → List (Pass (Node L) Step) → NodeFault → Type 0
  SyncFails (old ∷ olds) (new ∷ news) f = Makes Sync old new (Err f) ⊎ (((reply : Reply) × Makes Sync old new (Ok reply)) × SyncFails olds news f)
  SyncFails _ _ f = ⊥

  -- each volume made a sync, whatever it met
  abbrev pub AllMade : List (Pass (Node L) Step) → List (Pass (Node L) Step) → Type 0
  AllMade [] [] = Unit {0}
  AllMade (old ∷ olds) (new ∷ news) = ((met : Result Reply NodeFault) × Makes Sync old new met) × AllMade olds news
  AllMade _ _ = ⊥

  -- The answers are in order. Where memory was wanting for them, all were made.
  abbrev pub SyncedAll : List (Pass (Node L) Step) → List (Pass (Node L) Step) → Result (Vec Answer Global) NodeFault → Type 0
  SyncedAll olds news (Ok answers) = AllSynced olds news answers.items
  SyncedAll olds news (Err f) = SyncFails olds news f ⊎ ((f ≡ fault.NoMemory) × AllMade olds news)

  -- what each volume told lost, with its place from this one on
  abbrev pub told_from : ℕ → List (Pass (Node L) Step) → List (ℕ × List ℕ)
  told_from place [] = []
  told_from place (pass ∷ passes) = map (λ ops. (place, ops)) (told_by (front pass)) ++ told_from (place + 1) passes

  -- The last volume was taken out of the table, and its whole list ended so.
  pub record Ends (counts : L → ℕ) (given : L → Option (List Heard)) (got : L → Option (List (List ℕ))) (locks : List (TracedLock (Node L) Step)) (olds : List (Pass (Node L) Step)) (locks_left : List (TracedLock (Node L) Step)) (news : List (Pass (Node L) Step))
      (clerk : Option Clerk) (link : L) : Type 0 where
    pub lock : TracedLock (Node L) Step
    pub pass : Pass (Node L) Step
    pub locks_were : locks ≡ locks_left ++ lock ∷ []
    pub passes_were : olds ≡ news ++ pass ∷ []
    -- its whole list
    pub steps : List Step
    pub later : IsPrefix (front pass) steps
    pub finished : Finished counts given got (first lock) steps clerk link
