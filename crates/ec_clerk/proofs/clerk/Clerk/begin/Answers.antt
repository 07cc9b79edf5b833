use Rattle.std.proofs.Common.{◌≡◌, ap, Err}
use Rattle.ec_protocol.specs.declared.clerk.ClerkFault.TheVariants as fault
use Rattle.ec_clerk.proofs.clerk.Clerk.begin.Goals as goal

pub returns-in-Err-clause-spent : goal.returns-in-Err-clause-spent
returns-in-Err-clause-spent c = λ k e.
    let same : c.in-Err.fault ≡ fault.Spent k = (cc e) in
    c.in-Err.ensures.spent c.args.call k (ap Err same)
