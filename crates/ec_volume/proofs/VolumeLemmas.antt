-- Lemmas on the definitions of `Volume` that several proofs cite.
use Rattle.std.proofs.Common.{◌≡◌, ℕ}
use Rattle.ec_volume.specs.Volume.{Images}

pub all-same : (v w : Images) → ((o : ℕ) → v o ≡ w o) → v ≡ w
all-same v w h = λ k o. h o k
