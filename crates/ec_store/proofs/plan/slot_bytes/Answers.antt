use Rattle.std.proofs.Common.{rules, ◌≡◌, true}
use Rattle.ec_stands.specs.declared.table.table.Version.TheVariants.{Two}
use Rattle.ec_stands.specs.Stands.{slot_code}
use Rattle.ec_store.proofs.Placing.{bytes_short}
use Rattle.ec_store.proofs.plan.slot_bytes.Goals as goal

pub returns-clause-short : goal.returns-clause-short
returns-clause-short c =
    let spelled : c.put_image.new.out.items ≡ (slot_code Two).spell (c.args.object, c.args.image.now) = search rules in
    let fits : (slot_code Two).fits (c.args.object, c.args.image.now) ≡ true = search rules in
    bytes_short c.put_image.new.out.items c.args.object c.args.image.now spelled fits
