-- What holds of a clerk by itself, in a session or not.
use Rattle.std.specs.Prelude.{◌≡◌, ◌≤◌, ℕ, suc, zero, T, List, [], length, Some, is_some}
use Rattle.ec_base.specs.Tables.{at}
use Rattle.ec_volume.specs.Update.{is_sound}
use Rattle.ec_history.specs.History.{Each}
use Rattle.ec_wire.specs.Messages.{is_lowered_mode}
use Rattle.ec_log.specs.Log.{batch}
use Rattle.ec_machine_laws.specs.Logs.{IsLog}
use Rattle.ec_protocol.specs.declared.clerk.Clerk.{Clerk}
use Rattle.ec_coherence.specs.Caches.{IsKeyed}
use Rattle.ec_coherence.specs.System.{System}

pub record IsOrderly (k : Clerk) : Type 0 where
  -- its cache has each object once
  pub keyed : IsKeyed k.cache
  -- what is recalled goes down, or back
  pub recalls : Each (λ r. T (is_lowered_mode r.to)) k.recalls
  -- while it asks for ids, it has none
  pub asking : T (is_some k.asking) → k.ids ≡ []
  -- its undurable operations are sound, and each batch under way has 1 to 64 of them
  pub log : IsLog k.log
  pub sound : Each (λ o. T (is_sound o.1)) k.log.undurable
  pub batches : (b : ℕ) (ns : List ℕ) → at b k.log.batches ≡ Some ns → (suc zero ≤ length (batch b k.log)) × (length (batch b k.log) ≤ 64)

-- all starts of all clerks are
pub record OrderlyAgree (g : System) : Type 0 where
  pub each : (c b : ℕ) (k : Clerk) → g.clerks c b ≡ Some k → IsOrderly k
