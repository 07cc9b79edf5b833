use Rattle.std.proofs.Common.{◌≡◌, length, rules}
use Rattle.ec_plain.proofs.Listing.{one_more_name}
use Rattle.ec_plain.proofs.file.names_of.Goals as goal

pub names-preserved : goal.names-preserved
names-preserved c =
    let here : c.len-in-names.result ≡ length c.names.names.items = search rules in
    one_more_name c.args.entries.now c.names.names.items c.push.new.self.items (c.in-Some.name.now, c.in-Some.field-0-1) c.names.invariant (rw here at c.in-Some.ensures) (rw c.in_ok-duplicate.ensures at c.in_ok-push.ensures.items)
