-- Lemmas on the definitions of `Messages` that several proofs cite.
use Rattle.std.proofs.Common.{◌≡◌, refl, false, T}
use Rattle.ec_base.specs.declared.ids.Hold.{Hold}
use Rattle.ec_base.specs.declared.ids.Hold.TheVariants.{Free, Read, Write}
use Rattle.ec_base.specs.Holds.{is_free}
use Rattle.ec_wire.specs.Messages.{is_held_mode}

pub not-free : (h : Hold) → T (is_held_mode h) → is_free h ≡ false
not-free Free t = absurd t
not-free Read t = refl
not-free Write t = refl
