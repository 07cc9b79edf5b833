-- Which tokens a clerk wants.
use Rattle.std.specs.Prelude.{◌≡◌, true, Some, ⊤}
use Rattle.ec_base.specs.Holds.{is_below}
use Rattle.ec_cache.specs.Cache.{mode}
use Rattle.ec_wire.specs.declared.msg.Msg.TheVariants.{Want}
use Rattle.ec_protocol.specs.declared.clerk.Clerk.{Clerk}
use Rattle.ec_protocol.specs.declared.clerk.Out.{Out}
use Rattle.ec_protocol.specs.declared.clerk.Out.TheVariants as out

-- a want is of the clerk's session and epoch, and of a mode above the one that it holds
abbrev pub WantsRightly : Clerk → Out → Type 0
WantsRightly k (out.Send (Want s e x h last)) = (k.session ≡ Some s) × (k.epoch ≡ e) × (is_below (mode x k.cache) h ≡ true)
WantsRightly k _ = ⊤
