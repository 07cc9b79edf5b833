-- A call of a line's clerk that waits, in a system of which all facts hold, as contracts name it.
use Rattle.std.specs.Prelude.{◌≡◌, ◌≤◌, ◌⊎◌, ◌+◌, ℕ, T, false, List, [], ◌∷◌, ◌++◌, length, Some}
use Rattle.ec_volume.specs.Update.{member}
use Rattle.ec_volume.specs.Volume.{Images, after}
use Rattle.ec_history.specs.History.{updates}
use Rattle.ec_plain.specs.BoundedCalls.{is_bounded}
use Rattle.ec_plain.specs.Plain.{plain}
use Rattle.ec_plain.specs.declared.call.Call.{Call}
use Rattle.ec_durable.specs.WellFormed.{IsInOrder}
use Rattle.ec_log.specs.Log as log
use Rattle.ec_protocol.specs.Clerk.{first_id, max_tokens}
use Rattle.ec_protocol.specs.declared.clerk.Clerk.{Clerk}
use Rattle.ec_protocol.specs.declared.clerk.Waiting.{Waiting}
use Rattle.ec_coherence.specs.System.{System, is_open}
use Rattle.ec_coherence.specs.CommitLaws.{AllAgree}
use Rattle.ec_lawful.specs.OfClerkSteps.Calls.{CallsAgree}
use Rattle.ec_lawful.specs.OfClerkSteps.Orderly.{IsOrderly}
use Rattle.ec_lawful.specs.OfClerkSteps.Zeros.{ZerosAgree}
use Rattle.ec_lawful.specs.OfClerkSteps.Frees.{FreesAgree}
use Rattle.ec_quiet.specs.Phases.{IsAged}
use Rattle.ec_quiet.specs.Works.{Calls, Work}
use Rattle.ec_quiet.specs.Goes.{MayGo}
use Rattle.ec_quiet.specs.Tries.{HasCounters}

-- the volume that is kept, which a clerk in an open session sees
abbrev pub kept_volume : System → Images
kept_volume g = after g.origin (updates g.ghost.kept)

-- On this volume the call touches what the line is about, where its new object has one of those ids, or none.
abbrev pub IsAbout : Work → Images → Type 0
IsAbout j v = (cl : Call) → j.task ≡ Calls cl → (id : ℕ) → (id ≡ 0) ⊎ T (member id j.touched) → (x : ℕ) → T (member x (plain v cl id).touched) → T (member x j.touched)

-- a call touches at most so many objects, and one more is that of the clerk's next id
abbrev pub max_about : ℕ
max_about = 137

-- what a call touches on this volume while it has no id for its new object, and such an id
abbrev pub touched_by : Call → Images → ℕ → List ℕ
touched_by cl v id = (plain v cl 0).touched ++ id ∷ []

abbrev pub LinesAreAbout : Type 0
LinesAreAbout = (j : Work) (cl : Call) (v : Images) (id : ℕ) → j.task ≡ Calls cl → j.touched ≡ touched_by cl v id → T (is_bounded cl) → IsAbout j v × (length j.touched ≤ max_about)

-- All facts hold of the system, and the clerk runs in it, in an open session.
pub record IsAgreed (g : System) (c b s : ℕ) (k : Clerk) : Type 0 where
  pub all : AllAgree g
  pub calls : CallsAgree g
  pub zeros : ZerosAgree g
  pub frees : FreesAgree g
  pub order : IsInOrder g.durable
  pub orderly : IsOrderly k
  pub runs : g.running c ≡ Some b
  pub stands : g.clerks c b ≡ Some k
  pub session : k.session ≡ Some s
  pub is_open : T (is_open g s)

-- The clerk has one call, since whose beginning no operation was issued, and nothing is under way. The line is about what it touches on this volume.
pub record HasCall (j : Work) (w : Waiting) (k : Clerk) (v : Images) : Type 0 where
  pub is : j.task ≡ Calls w.call
  pub unowed : k.owed ≡ []
  pub waiting : k.waiting ≡ w ∷ []
  pub pushes : k.pushes ≡ []
  pub begun : w.begun + 1 ≡ k.log.next
  pub batches : k.log.batches ≡ []
  pub small : log.is_full k.log ≡ false
  pub counters : HasCounters k
  pub aged : IsAged j k
  pub capacity : k.cache.capacity ≡ max_tokens
  pub few : length j.touched ≤ max_about
  pub about : IsAbout j v
  pub id : (x : ℕ) → first_id k.ids ≡ Some x → T (member x j.touched)

abbrev pub AgreedCallsMayGo : Type 0
AgreedCallsMayGo = (g : System) (c b s : ℕ) (k : Clerk) (j : Work) (w : Waiting) → IsAgreed g c b s k → HasCall j w k (kept_volume g) → MayGo j k
