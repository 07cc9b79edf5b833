use Rattle.std.proofs.Common.{◌≡◌, ◌++◌, take, true}
use Rattle.std.specs.List.{flat_map, list_all}
use Rattle.ec_codes.specs.Fields.{id}
use Rattle.ec_wire.specs.Codes.{token_spell}
use Rattle.ec_wire.proofs.fields_written.put_each_token.Given as goal

abbrev pub invariant-loop-token : goal.invariant-loop-token
invariant-loop-token l =
    (l.out.items ≡ l.fn.out.items ++ flat_map token_spell (take l.token-index l.tokens)) × (list_all (λ t. id.fits t.0) (take l.token-index l.tokens) ≡ true)
