-- Claims are the machine's. No public clause cites this file.
use Rattle.std.proofs.Common.{◌≡◌, refl, ap, true, not, [], ◌∷◌, None, Some}
use Rattle.std.specs.Prelude.{◌&&◌, ◌||◌}
use Rattle.std.specs.List.{list_all}
use Rattle.ec_volume.specs.Update.{member}
use Rattle.ec_sessions.specs.Slots.{Slots}
use Rattle.ec_admission.specs.Claims.{is_claimed, all_claimed}
use Rattle.ec_protocol.specs.Server as machine
use Rattle.ec_protocol.specs.declared.server.Server.{Server}

claimed_in : (s : Server) (slots : Slots) → list_all (is_claimed s.claimed) slots ≡ list_all (machine.is_claimed s) slots
claimed_in s [] = refl
claimed_in s (None ∷ slots) = ap (λ b. true && b) (claimed_in s slots)
claimed_in s (Some sl ∷ slots) = ap (λ b. (not sl.is_open || member sl.session s.claimed) && b) (claimed_in s slots)

pub claims_are : (s : Server) → all_claimed s.claimed s.durable.sessions ≡ machine.all_claimed s
claims_are s = claimed_in s s.durable.sessions
