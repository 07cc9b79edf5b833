use Rattle.std.proofs.Common.{◌≡◌, ℕ, None, cond, take}
use Rattle.ec_base.specs.Tables.{at}
use Rattle.ec_volume.specs.Update.{member}
use Rattle.ec_store.proofs.store.forget.Given as goal

abbrev pub invariant-ids : goal.invariant-ids
invariant-ids l = (o : ℕ) → at o l.kept ≡ cond (member o (take l.id-index l.ids)) None (at o l.fn.kept)
