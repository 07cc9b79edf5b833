use Rattle.std.proofs.Common.{◌≡◌, List, drop}
use Rattle.ec_protocol.specs.declared.clerk.Waiting.{Waiting}
use Rattle.ec_doing.specs.Seen.{doing_of, send_numbers}
use Rattle.ec_doing.proofs.doing.Doing.send_backs.Given as goal

abbrev pub invariant-gone : goal.invariant-gone
invariant-gone l = (ws : List Waiting) → send_numbers (drop l.obj-index l.gone) (doing_of ws l.self) ≡ send_numbers l.gone (doing_of ws l.fn.self)
