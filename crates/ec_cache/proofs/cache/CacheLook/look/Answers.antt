use Rattle.std.proofs.Common.{◌≡◌, ◌∙◌, ap, sym, false}
use Rattle.std.specs.Prelude.{option_copied}
use Rattle.ec_base.specs.Tables.{at}
use Rattle.ec_volume.specs.Image.{is_gone}
use Rattle.ec_cache.proofs.Kept.{live, held-live, shown}
use Rattle.ec_cache.proofs.cache.CacheLook.look.Goals as goal

pub returns-in_default : goal.returns-in_default
returns-in_default c =
    let image = c.in_ok-image.image.now in
    let alive : is_gone image ≡ false = live image c.in_default.not-Gone in
    record {
      image = (shown (at c.args.id c.args.self.now.held) image (sym c.image.ensures.image ∙ ap option_copied c.in_ok-image.was), alive);
      limits = held-live image alive c.in_ok-image.ensures.within;
    }
