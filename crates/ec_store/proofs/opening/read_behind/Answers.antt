use Rattle.std.proofs.Common.{rules, ℕ, List, length, ap, sym, subst, ◌∙◌}
use Rattle.std.specs.Prelude.{IsErrOf}
use Rattle.ec_disk.specs.Disk.{part}
use Rattle.ec_codes.specs.Spelling.{StandsAt}
use Rattle.ec_stands.specs.OfTable.Codes.{table_code, ids_in}
use Rattle.ec_journal.specs.OfLayout.Places.{table_at}
use Rattle.ec_journal.specs.declared.layout.side.Side.{Side}
use Rattle.ec_stands.specs.Stands.{IsBadAt, HasBadImage}
use Rattle.ec_stands.specs.Checkpoints.{AreSpelled}
use Rattle.ec_store.specs.declared.fault.StoreFault.TheVariants.{BadDisk}
use Rattle.ec_store.proofs.Resting.{rests_then}
use Rattle.ec_store.proofs.ReadBack.{table_bad, slots_bad, state_bad, is_read}
use Rattle.ec_store.proofs.opening.read_behind.Goals as goal

pub returns-in_err-version-clause-bad : goal.returns-in_err-version-clause-bad
returns-in_err-version-clause-bad g c p is told =
    let one : IsErrOf c.read_table.result (BadDisk p) = search rules in
    table_bad (g.D.Disk.view c.args.disk.now).gives c.args.head.max_objects (c.requires.good told) c.args.head.side p (c.requires.side told) (c.read_table.ensures.bad p one told)

pub read_objects-requires : goal.read_objects-requires
read_objects-requires g c = record { len = λ told. c.requires.len told ∙ ap (λ (l : List ℕ). length l) (sym (c.read_table.ensures.rests told).gives) }

pub returns-in_err-images-clause-bad : goal.returns-in_err-images-clause-bad
returns-in_err-images-clause-bad g c p is told =
    let image = (g.D.Disk.view c.args.disk.now).gives in
    let v = c.in_ok-version.version in
    let t = c.in_ok-version.table in
    let stands = subst (λ (s : Side). StandsAt (part image (table_at s) 65536) 0 ((table_code c.args.head.max_objects).spell (v, t))) (c.requires.side told) (c.in_ok-version.ensures.stands told) in
    let one : IsErrOf c.read_objects.result (BadDisk p) = search rules in
    slots_bad image c.args.head.max_objects (c.requires.good told) v t c.in_ok-version.ensures.fits stands p
    (subst (λ (i : List ℕ). HasBadImage v i t.places p) (c.read_table.ensures.rests told).gives
    (subst (λ (ps : List (ℕ × ℕ)). HasBadImage v (g.D.Disk.view c.read_table.new.disk).gives ps p) c.as_slice.ensures (c.read_objects.ensures.bad p one told)))

pub returns-in_err-images-clause-rests : goal.returns-in_err-images-clause-rests
returns-in_err-images-clause-rests g c told =
    rests_then (g.D.Disk.view c.args.disk.now) (g.D.Disk.view c.read_table.new.disk) (g.D.Disk.view c.read_objects.new.disk) (λ t image le left. g.met.D.Disk.counts_now told c.args.disk.now t image le left) (c.read_table.ensures.rests told) (c.read_objects.ensures.rests told)

pub checkpoint_of-requires-clause-ids : goal.checkpoint_of-requires-clause-ids
checkpoint_of-requires-clause-ids g c = c.in_ok-images.ensures.ids ∙ ap (λ (ps : List (ℕ × ℕ)). ids_in ps) c.as_slice.ensures

pub returns-in_err-checkpoint-clause-bad : goal.returns-in_err-checkpoint-clause-bad
returns-in_err-checkpoint-clause-bad g c p is told =
    let image = (g.D.Disk.view c.args.disk.now).gives in
    let v = c.in_ok-version.version in
    let t = c.in_ok-version.table in
    let es = c.in_ok-images.images.items in
    let stands = subst (λ (s : Side). StandsAt (part image (table_at s) 65536) 0 ((table_code c.args.head.max_objects).spell (v, t))) (c.requires.side told) (c.in_ok-version.ensures.stands told) in
    let are = subst (λ (i : List ℕ). AreSpelled v i t.places es) (c.read_table.ensures.rests told).gives
    (subst (λ (ps : List (ℕ × ℕ)). AreSpelled v (g.D.Disk.view c.read_table.new.disk).gives ps es) c.as_slice.ensures (c.in_ok-images.ensures.spelled told)) in
    let one : IsErrOf c.checkpoint_of.result (BadDisk p) = search rules in
    let u = c.checkpoint_of.ensures.bad p one in
    subst (λ (n : ℕ). IsBadAt image n) (sym u.0) (state_bad image c.args.head.max_objects (c.requires.good told) v t c.in_ok-version.ensures.fits stands es c.args.head.side (c.requires.side told) are u.1)

pub returns-in_err-checkpoint-clause-rests : goal.returns-in_err-checkpoint-clause-rests
returns-in_err-checkpoint-clause-rests g c told =
    rests_then (g.D.Disk.view c.args.disk.now) (g.D.Disk.view c.read_table.new.disk) (g.D.Disk.view c.read_objects.new.disk) (λ t image le left. g.met.D.Disk.counts_now told c.args.disk.now t image le left) (c.read_table.ensures.rests told) (c.read_objects.ensures.rests told)

pub returns-clause-read : goal.returns-clause-read
returns-clause-read g c told =
    let image = (g.D.Disk.view c.args.disk.now).gives in
    let v = c.in_ok-version.version in
    let t = c.in_ok-version.table in
    let es = c.in_ok-images.images.items in
    let k = c.in_ok-checkpoint.checkpoint in
    let stands = subst (λ (s : Side). StandsAt (part image (table_at s) 65536) 0 ((table_code c.args.head.max_objects).spell (v, t))) (c.requires.side told) (c.in_ok-version.ensures.stands told) in
    let are = subst (λ (i : List ℕ). AreSpelled v i t.places es) (c.read_table.ensures.rests told).gives
    (subst (λ (ps : List (ℕ × ℕ)). AreSpelled v (g.D.Disk.view c.read_table.new.disk).gives ps es) c.as_slice.ensures (c.in_ok-images.ensures.spelled told)) in
    let st = c.in_ok-checkpoint.ensures.state in
    is_read image c.args.head.max_objects (c.requires.good told) v t c.in_ok-version.ensures.fits stands k.version k.places.items k.state es st.0 st.2 st.1 (c.requires.most told) are

pub returns-clause-rests : goal.returns-clause-rests
returns-clause-rests g c told =
    rests_then (g.D.Disk.view c.args.disk.now) (g.D.Disk.view c.read_table.new.disk) (g.D.Disk.view c.read_objects.new.disk) (λ t image le left. g.met.D.Disk.counts_now told c.args.disk.now t image le left) (c.read_table.ensures.rests told) (c.read_objects.ensures.rests told)
