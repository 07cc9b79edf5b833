use Rattle.std.proofs.Common.{Bool, sym, ap, ◌∙◌}
use Rattle.ec_world.proofs.CutOff.{records_of, cut_off_is}
use Rattle.ec_world.proofs.world.World.cut_off.Goals as goal

pub returns-then-is_there-clause-ok : goal.returns-then-is_there-clause-ok
returns-then-is_there-clause-ok g c = λ told r d e sign more takes either.
    let before = c.args.self.now.records.items in
    let there = c.in_ok-store.is_there in
    cut_off_is there c.args.self.now c.in_ok-store.store c.args.records r d e c.requires (more ∙ ap (λ (b : Bool). records_of b r before) (sym c.if-is_there.true)) takes
    (c.in_ok-store.ensures.found told r d e sign takes either)

pub returns-else-is_there-clause-ok : goal.returns-else-is_there-clause-ok
returns-else-is_there-clause-ok g c = λ told r d e sign more takes either.
    let before = c.args.self.now.records.items in
    let there = c.in_ok-store.is_there in
    cut_off_is there c.args.self.now c.in_ok-store.store c.args.self.now.records r d e c.requires (ap (λ (b : Bool). records_of b r before) (sym c.if-is_there.false)) takes
    (c.in_ok-store.ensures.found told r d e sign takes either)

pub returns-then-is_there-clause-chosen : goal.returns-then-is_there-clause-chosen
returns-then-is_there-clause-chosen g c = c.in_ok-store.ensures.chosen

pub returns-else-is_there-clause-chosen : goal.returns-else-is_there-clause-chosen
returns-else-is_there-clause-chosen g c = c.in_ok-store.ensures.chosen
