use Rattle.std.proofs.Common.{rules, IsErrOf}
use Rattle.ec_journal.specs.declared.fault.JournalFault.TheVariants as fault
use Rattle.ec_journal.specs.OfLayout.Layout.{Layout, Lies}
use Rattle.ec_journal.specs.OfLayout.Selected.{IsOn}
use Rattle.ec_journal.proofs.OfLayout.Selecting.{body_leaves, body_keeps, body_stops, body_added}
use Rattle.ec_journal.proofs.layout.selected.Selected.append.Goals as goal

pub returns-in_err-append_staged-clause-any_moment : goal.returns-in_err-append_staged-clause-any_moment
returns-in_err-append_staged-clause-any_moment g c told l on =
    body_leaves (g.D.Disk.view c.args.disk.now) (g.D.Disk.view c.append_staged.new.disk) l c.args.self.now c.args.entry.now on (c.append_staged.ensures.ran told) (c.append_staged.ensures.any_moment told)

pub returns-clause-any_moment : goal.returns-clause-any_moment
returns-clause-any_moment g c told l on =
    body_leaves (g.D.Disk.view c.args.disk.now) (g.D.Disk.view c.append_staged.new.disk) l c.args.self.now c.args.entry.now on (c.append_staged.ensures.ran told) (c.append_staged.ensures.any_moment told)

pub returns-clause-ok : goal.returns-clause-ok
returns-clause-ok g c told l on =
    body_added (g.D.Disk.view c.args.disk.now) (g.D.Disk.view c.append_staged.new.disk) l c.args.self.now c.append_staged.new.self c.args.entry.now on (c.append_staged.ensures.ran told) (c.in_ok-append_staged.ensures.ok told)
    c.append_staged.ensures.place.0 c.append_staged.ensures.place.1

pub returns-in_err-append_staged-clause-old : goal.returns-in_err-append_staged-clause-old
returns-in_err-append_staged-clause-old g c =
    let new = g.D.Disk.view c.append_staged.new.disk in
    let keeps : g.D.Disk.tells → (l : Layout) → IsOn (g.D.Disk.view c.args.disk.now) c.args.self.now l → Lies new.synced l = λ told l on.
    body_keeps (g.D.Disk.view c.args.disk.now) new l c.args.self.now c.args.entry.now on (c.append_staged.ensures.ran told) (c.in_err-append_staged.ensures.old told) (g.met.D.Disk.given_synced told c.append_staged.new.disk) in
    search (rules, keeps)

pub returns-in_err-append_staged-clause-halves : goal.returns-in_err-append_staged-clause-halves
returns-in_err-append_staged-clause-halves g c is told turn armed l on =
    let stopped : IsErrOf c.append_staged.result fault.DiskStopped = search rules in
    body_stops (g.D.Disk.view c.args.disk.now) (g.D.Disk.view c.append_staged.new.disk) l c.args.self.now c.args.entry.now on (c.append_staged.ensures.ran told) turn (c.append_staged.ensures.halves stopped told turn armed) (g.met.D.Disk.given told c.append_staged.new.disk)
