-- The volume of a well-formed state has a greatest id.
use Rattle.std.proofs.Common.{◌≡◌, refl, sym, ap, subst, ◌∙◌, arith, ◌<◌, ◌≤◌, ℕ, zero, suc, Bool, true, false, not, T}
use Rattle.ec_volume.specs.Image.{is_dir, is_gone}
use Rattle.ec_volume.specs.Update.{root}
use Rattle.ec_volume.specs.Volume.{Images, images}
use Rattle.ec_volume.specs.declared.image.Image.{Image}
use Rattle.ec_volume.specs.declared.image.Image.TheVariants.{Gone, File, Dir}
use Rattle.ec_durable.specs.WellFormed.{WellFormed}
use Rattle.ec_durable.specs.declared.state.Durable.{Durable}
use Rattle.ec_lawful.proofs.ForWhole.Volumes.{known-id}
use Rattle.ec_lawful.specs.Headline.{IsGreatest}

-- of ids below this one
below : (v : Images) (n : ℕ) → ((x : ℕ) → T (not (is_gone (v x))) → x < n) → (x : ℕ) → T (not (is_gone (v x))) → (m : ℕ) × IsGreatest v m
below v zero bound x live = absurd (let l = bound x live in omega (arith, l))
below v (suc n) bound x live = go (is_gone (v n)) refl (λ more. below v n more x live)
  where
    up : (y m : ℕ) → y < suc m → y ≤ m
    up y m l = omega (arith, l)

    less : (y m : ℕ) → y < suc m → (y ≡ m → ⊥) → y < m
    less y m l d = omega (arith, l, d)

    not-it : is_gone (v n) ≡ true → (y : ℕ) → T (not (is_gone (v y))) → y ≡ n → ⊥
    not-it e y l q = subst (λ z. T (not z)) (ap (λ z. is_gone (v z)) q ∙ e) l

    go : (z : Bool) → is_gone (v n) ≡ z → (((y : ℕ) → T (not (is_gone (v y))) → y < n) → (m : ℕ) × IsGreatest v m) → (m : ℕ) × IsGreatest v m
    go false e more = (n, record { lives = subst (λ z. T (not z)) (sym e) tt; least = λ y l. up y n (bound y l) })
    go true e more = more (λ y l. less y n (bound y l) (not-it e y l))

pub greatest-id : (d : Durable) → WellFormed d → (n : ℕ) × IsGreatest (images d.volume) n
greatest-id d wf = below (images d.volume) d.next_id (known-id d wf) root (live (images d.volume root) wf.volume.root_is_dir)
  where
    live : (i : Image) → T (is_dir i) → T (not (is_gone i))
    live Gone h = absurd h
    live (File m s w bs) h = absurd h
    live (Dir m s w es) h = tt
