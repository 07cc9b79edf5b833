use Rattle.std.proofs.Common.{ℕ, sym, subst, map}
use Rattle.std.specs.String.{string_bytes}
use Rattle.ec_echo.specs.OfNamed.Forms.{Asks}
use Rattle.echofs.proofs.process_mirrored.Goals as goal

pub returns-clause-usage : goal.returns-clause-usage
returns-clause-usage g c = subst (λ (k : ℕ). Asks (map string_bytes c.args.words.now) k) (sym c.end.ensures) c.mirror_main.ensures.usage

pub returns-clause-diskless : goal.returns-clause-diskless
returns-clause-diskless g c none = rw (sym c.end.ensures) at (c.mirror_main.ensures.diskless none)

pub returns-clause-mirrored : goal.returns-clause-mirrored
returns-clause-mirrored g c uses = rw (sym c.end.ensures) at (c.mirror_main.ensures.mirrored uses)
