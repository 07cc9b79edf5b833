-- Before anything happened nothing was shown.
use Rattle.std.proofs.Common.{refl, sym, ap, ℕ, arith}
use Rattle.ec_coherence.specs.Opening.{opening}
use Rattle.ec_coherence.proofs.ForServer.Beginning.{none-in}
use Rattle.ec_coherence.specs.Watches.{FirstsAgree, WatchesAgree, still_in}
use Rattle.ec_base.proofs.Options.{none_some}

pub opening-watches : (most : ℕ) → WatchesAgree (opening most)
opening-watches most c = record {
  running = refl;
  early = refl;
  still = sym (ap (still_in (opening most).ghost) (none-in 16 c));
  unseen = λ q. refl;
  open_start = λ b q. absurd (none_some q);
  crashed = λ b l m r. absurd (omega (arith, l, m));
}

pub opening-firsts : (most : ℕ) → FirstsAgree (opening most).ghost
opening-firsts most s l = absurd (omega (arith, l))
