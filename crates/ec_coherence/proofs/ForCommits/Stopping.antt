-- A running server has its durable state behind each step, and no record is in doubt.
use Rattle.std.proofs.Common.{refl, sym, subst, inl, inr}
use Rattle.ec_protocol.specs.Server.{Serving}
use Rattle.ec_coherence.specs.System.{System, Ghost, is_open}
use Rattle.ec_coherence.specs.Images.{ImagesAgree}
use Rattle.ec_coherence.specs.Stops.{MayStep, StopsAgree}
use Rattle.ec_coherence.specs.Steps.{serving_in, Under}
use Rattle.ec_base.proofs.Bools.{not-both as no_both}

pub stops-behind : (g : System) (γ γ' : Ghost) (t f : Serving) → Under g t γ → ImagesAgree (serving_in f γ' g) → StopsAgree (serving_in f γ' g)
stops-behind g γ γ' t f u im = record {
  runs = (refl, (u.invariant.stops.runs).1);
  doubt = subst (λ r. MayStep (serving_in f γ' g) r) (sym (u.invariant.stops.runs).1) tt;
  open_sessions = im.unfrozen;
  ended = λ s o n. elim (im.cut_off s o) [
    | inl p ↦ absurd (no_both (is_open (serving_in f γ' g) s) p n)
    | inr q ↦ q
  ];
}
