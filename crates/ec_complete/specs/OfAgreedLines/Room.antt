-- Where the tokens that are too many are old ones, as contracts name it.
use Rattle.std.specs.Prelude.{◌≡◌, ◌≤◌, ◌+◌, ◌*◌, ℕ, T, List, [], ◌++◌, length, Some}
use Rattle.ec_base.specs.Tables.{Table, keys}
use Rattle.ec_volume.specs.Update.{distinct, member, operands}
use Rattle.ec_volume.specs.declared.update.Update.{Update}
use Rattle.ec_plain.specs.declared.call.Outcome.{Outcome}
use Rattle.ec_cache.specs.declared.resolve.verdict.Verdict.TheVariants.{Done}
use Rattle.ec_protocol.specs.Clerk.{doing, max_tokens, on_objects, try, verdict}
use Rattle.ec_protocol.specs.declared.clerk.Clerk.{Clerk}
use Rattle.ec_protocol.specs.declared.clerk.Waiting.{Waiting}
use Rattle.ec_quiet.specs.Phases.{IsAged}
use Rattle.ec_quiet.specs.Works.{Work}
use Rattle.ec_quiet.specs.Evictions.{Evicts}
use Rattle.ec_quiet.specs.Tries.{left_by}

-- the objects whose tokens the line is about: those that its call touches, and the clerk's ids
abbrev pub fresh_in : Work → Clerk → List ℕ
fresh_in j k = j.touched ++ k.ids

-- The objects with undurable operations stand in a list, which leaves room for the tokens of the line; each token is there once, and the call uses
-- and changes nothing else.
pub record IsRoomy (j : Work) (w : Waiting) (k : Clerk) : Type 0 where
  pub pinned : List ℕ
  pub stay : (x : ℕ) → T (member x (on_objects k.log.undurable)) → T (member x pinned)
  pub once : T (distinct (keys k.cache.held))
  pub capacity : k.cache.capacity ≡ max_tokens
  pub room : length pinned + 2 * length (fresh_in j k) ≤ max_tokens
  pub uses : (o : Outcome) → verdict w.call k ≡ Done o → (x : ℕ) → T (member x o.touched) → T (member x (fresh_in j k))
  pub changes : (o : Outcome) (u : Update) → verdict w.call k ≡ Done o → o.update ≡ Some u → (x : ℕ) → T (member x (operands u)) → T (member x (fresh_in j k))

abbrev pub CrowdedEvicts : Type 0
CrowdedEvicts = (j : Work) (w : Waiting) (k : Clerk) → IsAged j k → k.owed ≡ [] → IsRoomy j w k → Evicts j.number (left_by (try w (doing k)))
