use Rattle.std.proofs.Common.{◌≡◌, drop}
use Rattle.std.specs.List.{list_all}
use Rattle.ec_wire.specs.Messages.{is_held_mode}
use Rattle.ec_wire.proofs.sound.tokens_held.Given as goal

abbrev pub invariant-loop-token : goal.invariant-loop-token
invariant-loop-token l = list_all (λ t. is_held_mode t.1) (drop l.token-index l.tokens) ≡ list_all (λ t. is_held_mode t.1) l.tokens
