-- When a recall may be answered.
use Rattle.std.specs.Prelude.{Bool, not, ◌||◌, is_none}
use Rattle.ec_base.specs.Holds.{is_write}
use Rattle.ec_cache.specs.Cache as cache
use Rattle.ec_cache.specs.declared.state.CacheState.{CacheState}
use Rattle.ec_log.specs.Log as log
use Rattle.ec_log.specs.declared.state.Asked.TheVariants.{Object}
use Rattle.ec_log.specs.declared.state.LogState.{LogState}
use Rattle.ec_protocol.specs.declared.clerk.Recalled.{Recalled}

-- no Write token is held, or no undurable operation has the object
abbrev pub is_ready : Recalled → CacheState → LogState → Bool
is_ready r k l = not (is_write (cache.mode r.obj k)) || is_none (log.first (Object r.obj) l)
