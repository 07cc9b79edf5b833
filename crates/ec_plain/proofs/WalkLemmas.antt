-- Lemmas on the definitions of `Walk` that several proofs cite.
use Rattle.std.proofs.Common.{◌+◌, ℕ, Option, Some, None, List, ◌≡◌}
use Rattle.ec_volume.specs.Volume.{Images}
use Rattle.ec_plain.specs.Walk.{Path, Not, Walk, walk_from, stop, At}
use Rattle.ec_plain.specs.declared.call.Refusal.TheVariants as no
use Rattle.ec_volume.specs.Entries.{entry}
use Rattle.ec_volume.specs.declared.image.Image.{Image}
use Rattle.ec_volume.specs.declared.image.Image.TheVariants.{Gone, File, Dir}
use Rattle.ec_plain.specs.declared.call.Refusal.{Refusal}

abbrev pub entry-step : Images → ℕ → Path → Option ℕ → Walk
entry-step v i ns None = stop (Not (no.NotFound (i + 1)))
entry-step v i ns (Some p) = walk_from v (i + 1) p ns

abbrev pub image-step : Images → ℕ → List ℕ → Path → Image → Walk
image-step v i n ns Gone = stop (Not (no.NotFound i))
image-step v i n ns (File m s w bs) = stop (Not (no.NotDir i))
image-step v i n ns (Dir m s w es) = entry-step v i ns (entry es n)

pub not-at : {A : Type 0} (r : Refusal) (q : ℕ) → Not r ≡ At q → A
not-at r q e = absurd (apart e)
  where
    apart : Not r ≡ At q → ⊥
    apart e = cc

pub same-at : (p q : ℕ) → At p ≡ At q → p ≡ q
same-at p q e = cc
