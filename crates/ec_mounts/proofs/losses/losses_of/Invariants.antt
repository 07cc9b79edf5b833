use Rattle.std.proofs.Common.{◌≡◌, length, map, take}
use Rattle.ec_mounts.specs.Mounts.{AllRest, AreSeated, told_from}
use Rattle.ec_mounts.proofs.losses.losses_of.Given as goal

abbrev pub invariant-loop-place : goal.invariant-loop-place
invariant-loop-place g l =
    AreSeated (map (λ c. c.lock) l.clerks) (map (λ p. p.pass) l.parts)
    × AllRest (map (λ p. p.pass) l.fn.parts) (map (λ p. p.pass) l.parts)
    × (l.told.items ≡ told_from 0 (take l.place (map (λ p. p.pass) l.parts)))
    × (length l.parts ≡ length l.fn.parts)
