-- What is asked of a clerk before the try of its call, from a volume that its cache shows, as contracts name it.
use Rattle.std.specs.Prelude.{◌≡◌, ◌≤◌, ◌⊎◌, ◌+◌, ◌*◌, ℕ, T, true, false, List, [], ◌∷◌, length, Some}
use Rattle.ec_base.specs.Tables.{keys, or_else}
use Rattle.ec_base.specs.declared.ids.Hold.TheVariants.{Write}
use Rattle.ec_log.specs.OfChains.Held.{is_behind}
use Rattle.ec_volume.specs.Image.{is_gone}
use Rattle.ec_volume.specs.Update.{distinct, member}
use Rattle.ec_volume.specs.Volume.{Images, WellFormed}
use Rattle.ec_plain.specs.BoundedCalls.{is_bounded}
use Rattle.ec_plain.specs.Plain.{plain}
use Rattle.ec_cache.specs.Cache.{holds}
use Rattle.ec_log.specs.Log as log
use Rattle.ec_cache.specs.OfResolve.Agreement.{Shows}
use Rattle.ec_protocol.specs.Clerk.{first_id, max_tokens, on_objects}
use Rattle.ec_protocol.specs.declared.clerk.Clerk.{Clerk}
use Rattle.ec_protocol.specs.declared.clerk.Waiting.{Waiting}
use Rattle.ec_quiet.specs.Phases.{IsAged}
use Rattle.ec_quiet.specs.Works.{Calls, Work}
use Rattle.ec_complete.specs.OfAgreedLines.Room.{fresh_in}
use Rattle.ec_quiet.specs.Goes.{MayGo}
use Rattle.ec_quiet.specs.Tries.{HasCounters}

-- the id that a new object would have
abbrev pub next_id : Clerk → ℕ
next_id k = or_else 0 (first_id k.ids)

-- The cache shows this volume, on which the call touches what the line is about, and perhaps a new id, which the clerk holds for writing.
pub record IsShown (j : Work) (w : Waiting) (k : Clerk) (v : Images) : Type 0 where
  pub shows : Shows k.cache (first_id k.ids) v
  pub formed : WellFormed v
  pub gone : T (is_gone (v (next_id k)))
  pub bounded : T (is_bounded w.call)
  pub touched : (x : ℕ) → T (member x (plain v w.call (next_id k)).touched) → T (member x j.touched) ⊎ ((first_id k.ids ≡ Some x) × T (holds x Write k.cache))

-- One call waits, since whose beginning no operation was issued; the log isn't full, and no counter is at its limit. Few tokens have to stay.
pub record IsCalling (j : Work) (w : Waiting) (k : Clerk) : Type 0 where
  pub is : j.task ≡ Calls w.call
  pub unowed : k.owed ≡ []
  pub waiting : k.waiting ≡ w ∷ []
  pub pushes : k.pushes ≡ []
  pub begun : w.begun + 1 ≡ k.log.next
  pub behind : is_behind k.log.next k.log.undurable ≡ true
  pub small : log.is_full k.log ≡ false
  pub counters : HasCounters k
  pub aged : IsAged j k
  pub pinned : List ℕ
  pub stay : (x : ℕ) → T (member x (on_objects k.log.undurable)) → T (member x pinned)
  pub once : T (distinct (keys k.cache.held))
  pub capacity : k.cache.capacity ≡ max_tokens
  pub room : length pinned + 2 * length (fresh_in j k) ≤ max_tokens

abbrev pub CallsMayGo : Type 0
CallsMayGo = (j : Work) (w : Waiting) (k : Clerk) (v : Images) → IsCalling j w k → IsShown j w k v → MayGo j k
