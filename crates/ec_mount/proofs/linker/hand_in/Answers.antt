use Rattle.std.proofs.Common.{◌+◌, refl, sym}
use Rattle.ec_lock.specs.PassViews.{first, front}
use Rattle.ec_mount.proofs.Linking.{linked_self, linked_turned, handed_later, handed_more}
use Rattle.ec_mount.proofs.linker.hand_in.Goals as goal

pub returns-in_default-clause-linked : goal.returns-in_default-clause-linked
returns-in_default-clause-linked g c = linked_self c.args.clerk.now.lock c.args.pass.now c.requires.pass

pub returns-in_default-clause-more : goal.returns-in_default-clause-more
returns-in_default-clause-more g c start h = h

pub returns-in_err-back-in-Ok-relink-clause-linked : goal.returns-in_err-back-in-Ok-relink-clause-linked
returns-in_err-back-in-Ok-relink-clause-linked g c = linked_turned c.args.clerk.now.lock c.args.pass.now c.relink.new.pass c.relink.ensures.turned

pub returns-in_ok-back-in-Ok-relink-clause-linked : goal.returns-in_ok-back-in-Ok-relink-clause-linked
returns-in_ok-back-in-Ok-relink-clause-linked g c = linked_turned c.args.clerk.now.lock c.args.pass.now c.relink.new.pass c.relink.ensures.turned

pub returns-in_ok-back-in-Ok-relink-clause-more : goal.returns-in_ok-back-in-Ok-relink-clause-more
returns-in_ok-back-in-Ok-relink-clause-more g c start h =
    let old = c.in-Ok-relink.old in
    handed_more (λ l. g.M.Link.Link.faults l + g.M.Link.Link.closes l) g.M.Link.Link.given g.M.Link.Link.got (first c.args.clerk.now.lock) c.args.pass.now.number start (record { faults = g.M.Lending.faults c.args.net.now; bad = g.M.Lending.bad c.args.net.now; ended = g.M.Lending.ended c.args.net.now }) (record { faults = g.M.Lending.faults c.back.new.self; bad = g.M.Lending.bad c.back.new.self; ended = g.M.Lending.ended c.back.new.self })
    (front c.args.pass.now) (front c.relink.new.pass) old (g.M.Link.Link.faults old) (g.M.Link.Link.closes old) h c.in-Ok-relink.ensures.ok refl c.in_ok-back-in-Ok-relink.ensures.bad c.in_ok-back-in-Ok-relink.ensures.ended

pub returns-in-Err-clause-linked : goal.returns-in-Err-clause-linked
returns-in-Err-clause-linked g c = linked_turned c.args.clerk.now.lock c.args.pass.now c.relink.new.pass c.relink.ensures.turned

pub returns-in-Err-clause-more : goal.returns-in-Err-clause-more
returns-in-Err-clause-more g c start h =
    handed_later (λ l. g.M.Link.Link.faults l + g.M.Link.Link.closes l) g.M.Link.Link.given g.M.Link.Link.got (first c.args.clerk.now.lock) c.args.pass.now.number start (record { faults = g.M.Lending.faults c.args.net.now; bad = g.M.Lending.bad c.args.net.now; ended = g.M.Lending.ended c.args.net.now }) (front c.args.pass.now) (front c.relink.new.pass) h c.relink.ensures.turned.goes.1
    (sym c.in-Err.ensures.err) (record { faults = g.M.Lending.faults c.args.net.now; bad = g.M.Lending.bad c.args.net.now; ended = g.M.Lending.ended c.args.net.now }) refl refl
