use Rattle.std.proofs.Common.{◌≡◌, true, take}
use Rattle.std.specs.List.{list_all}
use Rattle.ec_base.specs.Tables.{keys}
use Rattle.ec_codes.specs.SoundImages.{is_sound_image}
use Rattle.ec_disk.specs.Effects.{Rests, Counted}
use Rattle.ec_stands.specs.OfTable.Codes.{ids_in}
use Rattle.ec_stands.specs.Checkpoints.{AreSpelled}
use Rattle.ec_store.proofs.reading.read_objects.Given as goal

abbrev pub invariant-places : goal.invariant-places
invariant-places g l = record {
  spelled : g.D.Disk.tells → AreSpelled l.version (g.D.Disk.view l.fn.disk).gives (take l.named-index l.places) l.objects.items;
  ids : keys l.objects.items ≡ ids_in (take l.named-index l.places);
  sound : list_all (λ e. is_sound_image e.1) l.objects.items ≡ true;
  rests : g.D.Disk.tells → Rests (g.D.Disk.view l.fn.disk) (g.D.Disk.view l.disk);
  counts : Counted (g.D.Disk.counts l.fn.disk) (g.D.Disk.counts l.disk) ⊥ ⊥;
}
