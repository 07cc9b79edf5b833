-- A moment of all that are served.
use Rattle.std.specs.Prelude.{◌≡◌, ◌⊎◌, ◌+◌, ◌<◌, ◌≤◌, ℕ, Bool, true, false, List, ◌++◌, map, length, Option, IfSome}
use mathlib.Core.List.{IsPrefix}
use Rattle.std.specs.declared.snapshot.Snapshot.{Snapshot}
use Rattle.slab.specs.Slab.{Slab, get}
use Rattle.ec_link.specs.Links.{Heard}
use Rattle.ec_link.specs.Happenings.{total}
use Rattle.ec_link.specs.Nets.{Ended as Bodies}
use Rattle.ec_link.specs.NetAnswers.{is_bad}
use Rattle.ec_lock.specs.PassViews.{front, numbers}
use Rattle.ec_lock.specs.Steps.{Member, Distinct, of}
use Rattle.ec_lock.specs.declared.types.Pass.{Pass}
use Rattle.ec_servernode.specs.declared.state.Node.{Node}
use Rattle.ec_servernode.specs.declared.step.Step.{Step}
use Rattle.ec_servernode.specs.Run.{number_of}
use Rattle.ec_serve.specs.declared.threads.connections.Tally.{Tally}
use Rattle.ec_serve.specs.OfThreads.Moments.{Back, AreServed}

module _ {L : Type 0} (faults closes : L → ℕ) (given : L → Option (List Heard)) where
  abbrev pub back_of : (L → Option (List (List ℕ))) → Snapshot L → Back
  back_of got link = ((given link.value, got link.value), is_bad (faults link.value) (closes link.value))

-- each link that is being served has what is known of its end from this server
abbrev pub AllServe : {T S : Type 0} → (T → S) → S → Slab T → Type 0
AllServe server_of server live = (key : ℕ) → IfSome (get live key) (λ one. server_of one ≡ server)

-- a server's links at one moment: the net, how many are still to come, how many came, those that came back, whether the net failed, whether memory was wanting or the server is down, the
-- numbers of the server's own pass, into which go those of the links that came back and the warden's, and the beginning of the list that it knows
pub record Moment (N L : Type 0) : Type 0 where
  pub net : N
  pub left : ℕ
  pub begun : ℕ
  pub back : List (Snapshot L)
  pub failed : Bool
  pub wants : Bool
  pub joined : List ℕ
  pub steps : List Step

abbrev pub moment : {N L K : Type 0} → N → Tally L → Pass (Node K) Step → Moment N L
moment net t pass = record { net = net; left = t.left; begun = length t.begun.items; back = t.back.items; failed = t.failed; wants = t.wants; joined = numbers pass; steps = front pass }

module _ {N L : Type 0} (faults_of bad_of : N → ℕ) (ended_of : N → List Bodies) (back_of : Snapshot L → Back) where
  -- these links came back between two moments, served by these passes
  pub record CameBack (a b : Moment N L) (more : List (Snapshot L)) (passes : List ℕ) : Type 0 where
    pub wants : a.wants ≡ false
    pub ended : ended_of b.net ≡ ended_of a.net ++ map (λ l. (back_of l).0) more
    pub bad : bad_of b.net ≡ bad_of a.net + total (λ l. (back_of l).1) more
    pub own : AreServed b.steps passes (map back_of more)

  -- what becomes of them
  pub record GoesOn (a b : Moment N L) : Type 0 where
    pub counts : faults_of a.net ≤ faults_of b.net
    pub number : b.left + b.begun ≡ a.left + a.begun
    pub fails : b.failed ≡ true → (a.failed ≡ true) ⊎ (faults_of a.net < faults_of b.net)
    pub more : List (Snapshot L)
    pub back : b.back ≡ a.back ++ more
    pub passes : List ℕ
    pub kept : (n : ℕ) → Member n a.joined → Member n b.joined
    pub joined : (n : ℕ) → Member n passes → Member n b.joined
    pub later : IsPrefix a.steps b.steps
    pub distinct : Distinct passes
    pub apart : (n : ℕ) → Member n a.joined → Member n passes → ⊥
    pub same : (n : ℕ) → Member n a.joined → of number_of n a.steps ≡ of number_of n b.steps
    pub links : b.wants ≡ false → CameBack a b more passes
