-- How a link ends that is served, and what it gave and got by the steps of its pass.
use Rattle.std.specs.Prelude.{◌≡◌, ℕ, List, ◌∷◌, [], ◌++◌, Option, Err}
use mathlib.Core.List.{IsPrefix}
use Rattle.ec_wire.specs.Codes.{said}
use Rattle.ec_wire.specs.declared.fault.WireFault.{WireFault}
use Rattle.ec_link.specs.Links.{Heard, body, long, added}
use Rattle.ec_servernode.specs.declared.step.Deed.{Deed}
use Rattle.ec_servernode.specs.declared.step.Deed.TheVariants.{Ended, HaltedEnd}
use Rattle.ec_servernode.specs.declared.step.Step.{Step}
use Rattle.ec_servernode.specs.Bodies.{heard_by, said_by}
use Rattle.ec_servernode.specs.Run.{caller_by}
use Rattle.ec_servernode.specs.Turns.{IsReplaced}
use Rattle.ec_base.specs.Lists.{Tells}

-- a body that is no message, or a length above the limit
abbrev pub IsRefused : Heard → Type 0
IsRefused (body bytes) = (why : WireFault) × (said bytes ≡ Err why)
IsRefused (long n) = Unit {0}

-- the last that the link gave was refused
abbrev pub Refuses : Option (List Heard) → Type 0
Refuses given = (before : Option (List Heard)) × (last : Heard) × (given ≡ added before (last ∷ [])) × IsRefused last

-- At some point of the run the link of this pass had greeted, and the outbox of its clerk was another pass's: its clerk had greeted with that one since.
pub record WasReplaced (pass : ℕ) (run : List Step) : Type 0 where
  pub before : List Step
  pub later : IsPrefix before run
  pub replaced : IsReplaced pass (caller_by pass before) before

-- What a link gave and got, by the steps of its own pass.

-- no session was ended by these steps but by what a link said
abbrev pub IsNoEnd : Deed → Type 0
IsNoEnd (Ended c served) = ⊥
IsNoEnd (HaltedEnd c h) = ⊥
IsNoEnd _ = Unit {0}

abbrev pub HasNoEnd : List Step → Type 0
HasNoEnd [] = Unit {0}
HasNoEnd (s ∷ ss) = IsNoEnd s.deed × HasNoEnd ss

-- nothing, or one body or length that was refused
abbrev pub IsRest : List Heard → Type 0
IsRest [] = Unit {0}
IsRest (x ∷ []) = IsRefused x
IsRest (x ∷ y ∷ more) = ⊥

-- The link gave the bodies that these steps took, in order, and perhaps one more that was refused and ended it. It got the bodies that they sent, in order. They did nothing else: it's not for a link to end sessions.
pub record Carries (own : List Step) (given : Option (List Heard)) (got : Option (List (List ℕ))) : Type 0 where
  pub rest : List Heard
  pub refused : IsRest rest
  pub heard : Tells given (heard_by own ++ rest)
  pub said : Tells got (said_by own)
  pub no_end : HasNoEnd own
