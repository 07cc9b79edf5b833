use Rattle.std.proofs.Common.{rules, ◌+◌, ◌≤◌, ℕ, List, length, sym, subst}
use Rattle.std.specs.Prelude.{IsErrOf}
use Rattle.ec_journal.specs.Journal.{IsFound}
use Rattle.ec_journal.specs.OfLayout.Places.{journal_at}
use Rattle.ec_store.specs.declared.fault.StoreFault.TheVariants.{BadDisk}
use Rattle.ec_store.proofs.Resting.{rests_then}
use Rattle.ec_store.proofs.ReadBack.{journal_inside}
use Rattle.ec_store.proofs.opening.read_back.Goals as goal

pub read_journal-requires : goal.read_journal-requires
read_journal-requires g c = record {
  inside = λ told.
      let k = c.in_ok-checkpoint.checkpoint in
      subst (λ (image : List ℕ). journal_at c.in_ok-checkpoint.side + 2097152 ≤ length image) (sym (c.read_checkpoint.ensures.rests told).gives)
      (journal_inside (g.D.Disk.view c.args.disk.now).gives k.version k.places.items k.state c.in_ok-checkpoint.side (c.in_ok-checkpoint.ensures.side told) (c.in_ok-checkpoint.ensures.read told));
}

pub returns-in_err-checkpoint-clause-bad : goal.returns-in_err-checkpoint-clause-bad
returns-in_err-checkpoint-clause-bad g c p is told =
    let one : IsErrOf c.read_checkpoint.result (BadDisk p) = search rules in
    c.read_checkpoint.ensures.bad p one told

pub returns-in_err-found-clause-rests : goal.returns-in_err-found-clause-rests
returns-in_err-found-clause-rests g c told =
    rests_then (g.D.Disk.view c.args.disk.now) (g.D.Disk.view c.read_checkpoint.new.disk) (g.D.Disk.view c.read_journal.new.disk) (λ t image le left. g.met.D.Disk.counts_now told c.args.disk.now t image le left) (c.read_checkpoint.ensures.rests told) (c.read_journal.ensures.rests told)

pub returns-in_err-opened-clause-rests : goal.returns-in_err-opened-clause-rests
returns-in_err-opened-clause-rests g c told =
    rests_then (g.D.Disk.view c.args.disk.now) (g.D.Disk.view c.read_checkpoint.new.disk) (g.D.Disk.view c.read_journal.new.disk) (λ t image le left. g.met.D.Disk.counts_now told c.args.disk.now t image le left) (c.read_checkpoint.ensures.rests told) (c.read_journal.ensures.rests told)

pub returns-in_err-opened-clause-bad : goal.returns-in_err-opened-clause-bad
returns-in_err-opened-clause-bad g c p is told =
    let image = (g.D.Disk.view c.args.disk.now).gives in
    let one : IsErrOf c.behind_records.result (BadDisk p) = search rules in
    c.behind_records.ensures.bad p one image (c.in_ok-checkpoint.ensures.side told) (c.in_ok-checkpoint.ensures.read told)
    (subst (λ (i : List ℕ). IsFound i (journal_at c.in_ok-checkpoint.side) 2097152 c.in_ok-found.found) (c.read_checkpoint.ensures.rests told).gives (c.in_ok-found.ensures.found told))

pub returns-clause-opened : goal.returns-clause-opened
returns-clause-opened g c told =
    let image = (g.D.Disk.view c.args.disk.now).gives in
    c.in_ok-opened.ensures.opened image (c.in_ok-checkpoint.ensures.side told) (c.in_ok-checkpoint.ensures.read told)
    (subst (λ (i : List ℕ). IsFound i (journal_at c.in_ok-checkpoint.side) 2097152 c.in_ok-found.found) (c.read_checkpoint.ensures.rests told).gives (c.in_ok-found.ensures.found told))

pub returns-clause-rests : goal.returns-clause-rests
returns-clause-rests g c told =
    rests_then (g.D.Disk.view c.args.disk.now) (g.D.Disk.view c.read_checkpoint.new.disk) (g.D.Disk.view c.read_journal.new.disk) (λ t image le left. g.met.D.Disk.counts_now told c.args.disk.now t image le left) (c.read_checkpoint.ensures.rests told) (c.read_journal.ensures.rests told)
