use Rattle.std.proofs.Common.{rules, refl}
use Rattle.std.specs.Prelude.{IsErrOf}
use Rattle.ec_store.specs.declared.fault.StoreFault.TheVariants.{BadDisk}
use Rattle.ec_store.proofs.Resting.{rests_synced}
use Rattle.ec_store.proofs.Opens.{still_stands, is_held, same_leaves, renewed_opens, opened_there, is_older}
use Rattle.ec_store.proofs.store.Store.open_synced.Goals as goal

pub returns-in_err-opened-clause-unchanged : goal.returns-in_err-opened-clause-unchanged
returns-in_err-opened-clause-unchanged g c place is told =
    (c.read_back.ensures.rests told).gives

pub returns-in_err-opened-clause-any_moment : goal.returns-in_err-opened-clause-any_moment
returns-in_err-opened-clause-any_moment g c told =
    same_leaves (g.D.Disk.view c.args.disk.now) (g.D.Disk.view c.read_back.new.disk) (c.requires.synced told) (c.read_back.ensures.rests told) (λ image left. g.met.D.Disk.only_now told c.args.disk.now image left)

pub renewed-requires-clause-synced : goal.renewed-requires-clause-synced
renewed-requires-clause-synced g c told =
    rests_synced (g.D.Disk.view c.args.disk.now) (g.D.Disk.view c.read_back.new.disk) (c.read_back.ensures.rests told) (c.requires.synced told)

pub renewed-requires-clause-is : goal.renewed-requires-clause-is
renewed-requires-clause-is g c told =
    opened_there (g.D.Disk.view c.args.disk.now) (g.D.Disk.view c.read_back.new.disk) c.in_ok-opened.opened (c.read_back.ensures.rests told) (c.in_ok-opened.ensures.opened told)

pub returns-in_err-store-in-One-clause-any_moment : goal.returns-in_err-store-in-One-clause-any_moment
returns-in_err-store-in-One-clause-any_moment g c told =
    renewed_opens (g.D.Disk.view c.args.disk.now) (g.D.Disk.view c.read_back.new.disk) (g.D.Disk.view c.renewed.new.disk) c.in_ok-opened.opened (c.requires.synced told) (c.read_back.ensures.rests told)
    (λ image left. g.met.D.Disk.only_now told c.args.disk.now image left) (c.in_ok-opened.ensures.opened told) (c.renewed.ensures.any_moment told)

pub returns-in_ok-store-in-One-clause-any_moment : goal.returns-in_ok-store-in-One-clause-any_moment
returns-in_ok-store-in-One-clause-any_moment g c told =
    renewed_opens (g.D.Disk.view c.args.disk.now) (g.D.Disk.view c.read_back.new.disk) (g.D.Disk.view c.renewed.new.disk) c.in_ok-opened.opened (c.requires.synced told) (c.read_back.ensures.rests told)
    (λ image left. g.met.D.Disk.only_now told c.args.disk.now image left) (c.in_ok-opened.ensures.opened told) (c.renewed.ensures.any_moment told)

pub returns-in_ok-store-in-One-clause-stands : goal.returns-in_ok-store-in-One-clause-stands
returns-in_ok-store-in-One-clause-stands g c told =
    still_stands (g.D.Disk.view c.args.disk.now).gives (g.D.Disk.view c.args.disk.now).gives c.in_ok-opened.opened c.in_ok-store-in-One.store.state refl (c.in_ok-opened.ensures.opened told) c.in_ok-store-in-One.ensures.view

pub returns-in_err-store-in-Two-clause-any_moment : goal.returns-in_err-store-in-Two-clause-any_moment
returns-in_err-store-in-Two-clause-any_moment g c told =
    same_leaves (g.D.Disk.view c.args.disk.now) (g.D.Disk.view c.read_back.new.disk) (c.requires.synced told) (c.read_back.ensures.rests told) (λ image left. g.met.D.Disk.only_now told c.args.disk.now image left)

pub returns-in_ok-store-in-Two-clause-any_moment : goal.returns-in_ok-store-in-Two-clause-any_moment
returns-in_ok-store-in-Two-clause-any_moment g c told =
    same_leaves (g.D.Disk.view c.args.disk.now) (g.D.Disk.view c.read_back.new.disk) (c.requires.synced told) (c.read_back.ensures.rests told) (λ image left. g.met.D.Disk.only_now told c.args.disk.now image left)

pub returns-in_ok-store-in-Two-clause-stands : goal.returns-in_ok-store-in-Two-clause-stands
returns-in_ok-store-in-Two-clause-stands g c told =
    still_stands (g.D.Disk.view c.args.disk.now).gives (g.D.Disk.view c.args.disk.now).gives c.in_ok-opened.opened c.in_ok-store-in-Two.store.state refl (c.in_ok-opened.ensures.opened told) c.in_ok-store-in-Two.ensures.view

pub returns-in_ok-store-in-Two-clause-ok : goal.returns-in_ok-store-in-Two-clause-ok
returns-in_ok-store-in-Two-clause-ok g c told =
    let old = g.D.Disk.view c.args.disk.now in
    let new = g.D.Disk.view c.read_back.new.disk in
    is_held new old.gives c.in_ok-opened.opened c.in_ok-store-in-Two.store (rests_synced old new (c.read_back.ensures.rests told) (c.requires.synced told)) (c.read_back.ensures.rests told).gives (search rules)
    c.in_ok-opened.ensures.formed (c.in_ok-opened.ensures.opened told) c.in_ok-store-in-Two.ensures.view c.in_ok-store-in-Two.ensures.parts c.in_ok-store-in-Two.ensures.kept

pub returns-in_ok-store-in-Two-clause-synced : goal.returns-in_ok-store-in-Two-clause-synced
returns-in_ok-store-in-Two-clause-synced g c told =
    rests_synced (g.D.Disk.view c.args.disk.now) (g.D.Disk.view c.read_back.new.disk) (c.read_back.ensures.rests told) (c.requires.synced told)

pub returns-in_err-opened-clause-bad : goal.returns-in_err-opened-clause-bad
returns-in_err-opened-clause-bad g c place is told =
    let one : IsErrOf c.read_back.result (BadDisk place) = search rules in
    c.read_back.ensures.bad place one told

pub renewed-requires-clause-older : goal.renewed-requires-clause-older
renewed-requires-clause-older g c = c.in-One.is

pub returns-in_err-store-in-One-clause-quiet : goal.returns-in_err-store-in-One-clause-quiet
returns-in_err-store-in-One-clause-quiet g c told not_older = absurd (not_older (is_older (g.D.Disk.view c.args.disk.now).gives c.in_ok-opened.opened c.in-One.is (c.in_ok-opened.ensures.opened told)))

pub returns-in_ok-store-in-One-clause-quiet : goal.returns-in_ok-store-in-One-clause-quiet
returns-in_ok-store-in-One-clause-quiet g c told not_older = absurd (not_older (is_older (g.D.Disk.view c.args.disk.now).gives c.in_ok-opened.opened c.in-One.is (c.in_ok-opened.ensures.opened told)))
