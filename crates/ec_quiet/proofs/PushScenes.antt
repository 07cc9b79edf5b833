-- A push, in the world and in its scene.
use Rattle.std.proofs.Common.{◌≡◌, refl, sym, ap, subst, ℕ, Bool, true, false, inl, inr, ◌⊎◌}
use Rattle.std.specs.Prelude.{None, Some}
use Rattle.ec_base.specs.Tables.{put}
use Rattle.ec_protocol.specs.Clerk as clerk
use Rattle.ec_protocol.specs.Clerk.{Doing, has_issued}
use Rattle.ec_protocol.specs.World.{Moving, clerk_does, come_out, fails, is_undurable, moving, nothing, push, with_world}
use Rattle.ec_protocol.specs.declared.clerk.Clerk.{Clerk}
use Rattle.ec_protocol.specs.declared.world.World.{World}
use Rattle.ec_protocol.specs.declared.world.WorldFault.TheVariants as fault
use Rattle.ec_quiet.specs.Scenes.{IsScene, Scene, done_by}
use Rattle.ec_quiet.proofs.Delivering.{comes-out, shown-alike, with-clerks}
use Rattle.ec_quiet.proofs.Stepping.{nothing-fails}

module _ (w : World) (sc : Scene) (i : IsScene w sc) (c n : ℕ) (k : Clerk) (unspent : (clerk.push n k).spent ≡ None) where
  abbrev d : Doing
  d = clerk.push n k

  abbrev then : Scene
  then = done_by c d sc.mail sc

  abbrev Carries : Moving → Type 0
  Carries m = (m.fault ≡ None) × (IsScene m.world then ⊎ IsScene m.world sc)

  abbrev behind : Moving
  behind = with_world (λ w. record w { clerks = put c d.clerk w.clerks }) (moving w)

  does : Carries (clerk_does c d (moving w))
  does = subst Carries (sym (ap (λ o. elim o as (λ z. Moving) [ Some s ↦ fails (fault.Spent s) w | None ↦ come_out c d.outs behind ]) unspent))
      (nothing-fails c d.outs behind, inl (comes-out c d.outs behind (record sc { clerks = put c d.clerk sc.clerks }) (with-clerks w sc c d.clerk i)))

  by-lines : (b : Bool) → Carries (elim b as (λ z. Moving) [ true ↦ clerk_does c d (moving w) | false ↦ nothing w ])
  by-lines true = does
  by-lines false = (refl, inr (shown-alike w sc _ i))

  pub pushed : has_issued n k ≡ true → Carries (push c n (Some k) w)
  pushed e = subst Carries (sym (ap (λ b. elim b as (λ z. Moving) [ false ↦ fails fault.NoSuchOp w | true ↦ elim (is_undurable c n w) as (λ z. Moving) [ true ↦ clerk_does c d (moving w) | false ↦ nothing w ] ]) e)) (by-lines (is_undurable c n w))
