use Rattle.std.proofs.Common.{sym, ◌∙◌}
use Rattle.ec_doing.specs.Seen.{doing_of}
use Rattle.ec_doing.proofs.Steps.{one_refused}
use Rattle.ec_doing.proofs.doing.Doing.refuse_idless.Goals as goal

pub returns-in_ok-refuse_make-in-Some : goal.returns-in_ok-refuse_make-in-Some
returns-in_ok-refuse_make-in-Some c = λ ws. one_refused ws c.args.self.now c.args.live c.args.reserved c.args.call.now c.in-Some.touched (doing_of ws c.refuse_make.new.self) (sym c.in_ok-touched.ensures ∙ c.in-Some.is) (rw c.as_slice.ensures at (c.in_ok-refuse_make-in-Some.ensures ws))
