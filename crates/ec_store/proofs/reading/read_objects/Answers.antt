use Rattle.std.proofs.Common.{rules, arith, ◌∙◌, ℕ, List, ap, subst}
use Rattle.std.proofs.lemmas.List.{take_all}
use Rattle.std.specs.Prelude.{IsErrOf}
use Rattle.ec_store.specs.declared.fault.StoreFault.TheVariants.{BadDisk}
use Rattle.ec_stands.specs.OfTable.Codes.{ids_in}
use Rattle.ec_stands.specs.Stands.{IsBadImage}
use Rattle.ec_stands.specs.Checkpoints.{AreSpelled, IsSpelled}
use Rattle.ec_store.proofs.Resting.{rests_then}
use Rattle.ec_store.proofs.Parts.{spelled_more, ids_more, sound_more, bad_at}
use Rattle.ec_store.proofs.reading.read_objects.Goals as goal

pub places-preserved : goal.places-preserved
places-preserved g c =
    let old = g.D.Disk.view c.args.disk.now in
    let mid = g.D.Disk.view c.places.disk in
    let inv = c.places.invariant in
    record {
      spelled = λ told. spelled_more c.args.version old.gives c.args.places.now c.places.named-index c.named-item.result c.places.objects.items c.push.new.self.items c.in_ok-object.object c.places-test.true c.named-item.is (search rules) (inv.spelled told)
          (subst (λ (image : List ℕ). IsSpelled c.args.version image c.named-item.result c.in_ok-object.object) (inv.rests told).gives (c.in_ok-object.ensures.spelled told));
      ids = ids_more c.args.places.now c.places.named-index c.named-item.result c.places.objects.items c.push.new.self.items c.in_ok-object.object c.places-test.true c.named-item.is (search rules) inv.ids c.in_ok-object.ensures.id;
      sound = sound_more c.places.objects.items c.push.new.self.items c.in_ok-object.object (search rules) inv.sound c.in_ok-object.ensures.sound;
      rests = λ told. rests_then old mid (g.D.Disk.view c.read_object.new.disk) (λ t image le left. g.met.D.Disk.counts_now told c.args.disk.now t image le left) (inv.rests told) (c.read_object.ensures.rests told);
      counts = search rules;
    }

pub returns-in_err-object-clause-bad : goal.returns-in_err-object-clause-bad
returns-in_err-object-clause-bad g c p is told =
    let old = g.D.Disk.view c.args.disk.now in
    let inv = c.places.invariant in
    let one : IsErrOf c.read_object.result (BadDisk p) = search rules in
    bad_at c.args.version old.gives c.args.places.now c.places.named-index c.named-item.result c.places.objects.items p c.places-test.true c.named-item.is (inv.spelled told)
    (subst (λ (image : List ℕ). IsBadImage c.args.version image c.named-item.result p) (inv.rests told).gives (c.read_object.ensures.bad p one told))

pub returns-in_err-object-clause-rests : goal.returns-in_err-object-clause-rests
returns-in_err-object-clause-rests g c told =
    rests_then (g.D.Disk.view c.args.disk.now) (g.D.Disk.view c.places.disk) (g.D.Disk.view c.read_object.new.disk) (λ t image le left. g.met.D.Disk.counts_now told c.args.disk.now t image le left) (c.places.invariant.rests told) (c.read_object.ensures.rests told)

pub returns-clause-spelled : goal.returns-clause-spelled
returns-clause-spelled g c told =
    subst (λ (ps : List (ℕ × ℕ)). AreSpelled c.args.version (g.D.Disk.view c.args.disk.now).gives ps c.places.objects.items) (take_all c.places.named-index c.args.places.now (omega (arith, c.places-test.false))) (c.places.invariant.spelled told)

pub returns-clause-ids : goal.returns-clause-ids
returns-clause-ids g c = c.places.invariant.ids ∙ ap (λ (ps : List (ℕ × ℕ)). ids_in ps) (take_all c.places.named-index c.args.places.now (omega (arith, c.places-test.false)))
