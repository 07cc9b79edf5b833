use Rattle.std.proofs.Common.{◌≡◌, true, refl, ⊎_elim}
use Rattle.ec_mirror.specs.Shown.{saved_by}
use Rattle.ec_mirror.proofs.Lives.{gives-first}
use Rattle.ec_mirror.proofs.Stands.{later-in, rose-in, one-of, second-gives, first-left, second-left}
use Rattle.ec_mirror.proofs.mirror.Mirror.is_over_its_disks.Goals as goal

pub returns : goal.returns
returns g c =
    let parts = c.args.self.now.parts in
    let pair = parts.present.pair in
    let frozen = parts.present.frozen.items in
    let view = g.A.Disk.view in
    let other = g.B.Disk.view in
    let saved = saved_by view other parts.present.saved.items in
    let first = λ (failed : pair.first.has_failed ≡ true). rose-in g.A.Disk.counts pair.first.from.items pair.first.disk.now c.requires.first (pair.first.failed failed) in
    let second = λ (failed : pair.second.has_failed ≡ true). rose-in g.B.Disk.counts pair.second.from.items pair.second.disk.now c.requires.second (pair.second.failed failed) in
    record {
      first_later = later-in g.A.Disk.counts pair.first.from.items pair.first.disk.now c.requires.first pair.first.later;
      second_later = later-in g.B.Disk.counts pair.second.from.items pair.second.disk.now c.requires.second pair.second.later;
      first_dropped = λ out. ⊎_elim (λ alone. first (parts.without_first alone)) (λ leaving. first (parts.leaving leaving)) out;
      second_dropped = λ alone. second (parts.without_second alone);
      both_failed = λ failed alone. (first (parts.both_failed failed alone).0, second (parts.both_failed failed alone).1);
      one_failed = λ failed. one-of pair.first.has_failed pair.second.has_failed _ _ first second (parts.one_failed failed);
      first_gives = λ told sound out. gives-first view other frozen pair saved (parts.thawed (parts.lives sound)) (parts.stands (parts.lives sound)) out;
      second_gives = λ told sound out. second-gives view other frozen pair saved (parts.thawed (parts.lives sound)) (parts.stands (parts.lives sound)) out ((parts.whole sound).alike told);
      first_left = λ told live out image may. first-left view other frozen pair saved _ (parts.thawed live) out (image, may, refl);
      second_left = λ told live out image may. second-left view other frozen pair saved _ (parts.thawed live) out (image, may, refl);
    }
