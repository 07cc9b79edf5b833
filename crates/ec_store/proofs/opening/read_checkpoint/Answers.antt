use Rattle.std.proofs.Common.{rules, ◌≡◌, ℕ, List, length, ap, sym, subst, ◌∙◌}
use Rattle.std.specs.Prelude.{IsErrOf}
use Rattle.std.specs.Int.{w32, to_be_bytes}
use Rattle.ec_disk.specs.Disk.{part}
use Rattle.ec_stands.specs.Stands.{IsBadAt, HasGoodHead, side_in}
use Rattle.ec_store.specs.declared.fault.StoreFault.TheVariants.{BadDisk}
use Rattle.ec_store.specs.Opening.{IsReadIn}
use Rattle.ec_store.proofs.Resting.{rests_then}
use Rattle.ec_store.proofs.opening.read_checkpoint.Goals as goal

pub read_head-requires : goal.read_head-requires
read_head-requires g c = record { len = λ told. c.in_ok-len.ensures.len told ∙ ap (λ (l : List ℕ). length l) (sym (c.length_of.ensures.rests told).gives) }

pub returns-in_err-head-clause-bad : goal.returns-in_err-head-clause-bad
returns-in_err-head-clause-bad g c p is told =
    let one : IsErrOf c.read_head.result (BadDisk p) = search rules in
    subst (λ (i : List ℕ). IsBadAt i p) (c.length_of.ensures.rests told).gives (c.read_head.ensures.bad p one told)

pub returns-in_err-head-clause-rests : goal.returns-in_err-head-clause-rests
returns-in_err-head-clause-rests g c told =
    rests_then (g.D.Disk.view c.args.disk.now) (g.D.Disk.view c.length_of.new.disk) (g.D.Disk.view c.read_head.new.disk) (λ t image le left. g.met.D.Disk.counts_now told c.args.disk.now t image le left) (c.length_of.ensures.rests told) (c.read_head.ensures.rests told)

pub read_behind-requires-clause-len : goal.read_behind-requires-clause-len
read_behind-requires-clause-len g c told =
    c.in_ok-len.ensures.len told ∙ ap (λ (l : List ℕ). length l) (sym (c.length_of.ensures.rests told).gives ∙ sym (c.read_head.ensures.rests told).gives)

pub read_behind-requires-clause-good : goal.read_behind-requires-clause-good
read_behind-requires-clause-good g c told = subst (λ (i : List ℕ). HasGoodHead i c.in_ok-head.head.max_objects) (sym (c.read_head.ensures.rests told).gives) (c.in_ok-head.ensures.good told)

pub read_behind-requires-clause-side : goal.read_behind-requires-clause-side
read_behind-requires-clause-side g c told = subst (λ (i : List ℕ). c.in_ok-head.head.side ≡ side_in i) (sym (c.read_head.ensures.rests told).gives) (c.in_ok-head.ensures.side told)

pub read_behind-requires-clause-most : goal.read_behind-requires-clause-most
read_behind-requires-clause-most g c told = subst (λ (i : List ℕ). part i 8 4 ≡ to_be_bytes w32 c.in_ok-head.head.max_objects) (sym (c.read_head.ensures.rests told).gives) (c.in_ok-head.ensures.most told)

pub returns-in_err-checkpoint-clause-bad : goal.returns-in_err-checkpoint-clause-bad
returns-in_err-checkpoint-clause-bad g c p is told =
    let one : IsErrOf c.read_behind.result (BadDisk p) = search rules in
    subst (λ (i : List ℕ). IsBadAt i p) ((c.read_head.ensures.rests told).gives ∙ (c.length_of.ensures.rests told).gives) (c.read_behind.ensures.bad p one told)

pub returns-in_err-checkpoint-clause-rests : goal.returns-in_err-checkpoint-clause-rests
returns-in_err-checkpoint-clause-rests g c told =
    let old = g.D.Disk.view c.args.disk.now in
    let first = g.D.Disk.view c.length_of.new.disk in
    let second = g.D.Disk.view c.read_head.new.disk in
    rests_then old second (g.D.Disk.view c.read_behind.new.disk) (λ t image le left. g.met.D.Disk.counts_now told c.args.disk.now t image le left) (rests_then old first second (λ t image le left. g.met.D.Disk.counts_now told c.args.disk.now t image le left) (c.length_of.ensures.rests told) (c.read_head.ensures.rests told)) (c.read_behind.ensures.rests told)

pub returns-clause-read : goal.returns-clause-read
returns-clause-read g c told =
    subst (λ (i : List ℕ). IsReadIn i c.in_ok-checkpoint.checkpoint) ((c.read_head.ensures.rests told).gives ∙ (c.length_of.ensures.rests told).gives) (c.in_ok-checkpoint.ensures.read told)

pub returns-clause-side : goal.returns-clause-side
returns-clause-side g c told =
    subst (λ (i : List ℕ). c.in_ok-head.head.side ≡ side_in i) (c.length_of.ensures.rests told).gives (c.in_ok-head.ensures.side told)

pub returns-clause-rests : goal.returns-clause-rests
returns-clause-rests g c told =
    let old = g.D.Disk.view c.args.disk.now in
    let first = g.D.Disk.view c.length_of.new.disk in
    let second = g.D.Disk.view c.read_head.new.disk in
    rests_then old second (g.D.Disk.view c.read_behind.new.disk) (λ t image le left. g.met.D.Disk.counts_now told c.args.disk.now t image le left) (rests_then old first second (λ t image le left. g.met.D.Disk.counts_now told c.args.disk.now t image le left) (c.length_of.ensures.rests told) (c.read_head.ensures.rests told)) (c.read_behind.ensures.rests told)
