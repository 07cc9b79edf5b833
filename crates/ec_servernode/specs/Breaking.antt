-- The steps behind which a server isn't known.
use Rattle.std.specs.Prelude.{◌≡◌, ◌⊎◌, Bool, true, false, List, [], ◌∷◌}
use Rattle.ec_servernode.specs.declared.step.Halt.{Halt}
use Rattle.ec_servernode.specs.declared.step.Halt.TheVariants as halt
use Rattle.ec_servernode.specs.declared.step.Deed.{Deed}
use Rattle.ec_servernode.specs.declared.step.Deed.TheVariants.{Took, Halted, Ended, HaltedEnd, Broke}
use Rattle.ec_servernode.specs.declared.step.Step.{Step}

abbrev pub spends : Halt → Bool
spends halt.DiskFailed = false
spends halt.DiskStopped = false
spends (halt.Spent n) = true

-- behind this the server isn't known: the disk failed or stopped, or memory was wanting for it or for what it sends
abbrev pub Breaks : Deed → Bool → Type 0
Breaks (Took c bytes m served) lost = lost ≡ true
Breaks (Ended c served) lost = lost ≡ true
Breaks (Halted c bytes m h) lost = spends h ≡ false
Breaks (HaltedEnd c h) lost = spends h ≡ false
Breaks Broke lost = Unit {0}
Breaks _ lost = ⊥

-- one of these steps does so
abbrev pub Broken : List Step → Type 0
Broken [] = ⊥
Broken (s ∷ ss) = Breaks s.deed s.lost ⊎ Broken ss
