-- With which start a mounted clerk greets: it's told by what its first links got.
use Rattle.std.specs.Prelude.{◌≡◌, ◌≤◌, ◌+◌, ◌⊎◌, ℕ, List, [], ◌∷◌, ◌++◌, length, Option, None, Some, ⊤}
use Rattle.ec_wire.specs.Codes.{msg_code}
use Rattle.ec_wire.specs.declared.msg.Msg.TheVariants.{Hello}
use Rattle.ec_link.specs.Links.{Heard}
use Rattle.ec_link.specs.Nets.{Ended}
use Rattle.ec_base.specs.Lists.{Tells}
use Rattle.ec_mount.specs.Run.{NetSeen}
use Rattle.ec_mount.specs.declared.status.Status.{Status}
use Rattle.ec_mount.specs.declared.status.Status.TheVariants as status

-- the bytes of the greeting of a clerk's start with this boot, in its first round
abbrev pub greeting_of : ℕ → ℕ → List ℕ
greeting_of id boot = msg_code.spell (Hello id (record { boot = boot; round = 0 }))

-- where it's told, this is the first
abbrev pub IsFirstTold : List ℕ → Option (List (List ℕ)) → Type 0
IsFirstTold body None = ⊤
IsFirstTold body (Some bodies) = (rest : List (List ℕ)) × (bodies ≡ body ∷ rest)

-- each of these links gave nothing, and got nothing but this, where it's told
abbrev pub GotAtMost : List ℕ → List Ended → Type 0
GotAtMost body [] = ⊤
GotAtMost body (e ∷ es) = Tells e.0 [] × (Tells e.1 [] ⊎ Tells e.1 (body ∷ [])) × GotAtMost body es

-- Links came back to the net, and the first of them got that greeting first, behind those that failed or were closed before they took it.
pub record GotGreeting (id boot : ℕ) (before after : NetSeen) : Type 0 where
  pub failed : List Ended
  pub few : GotAtMost (greeting_of id boot) failed
  pub bad : before.bad + length failed ≤ after.bad
  pub given : Option (List Heard)
  pub got : Option (List (List ℕ))
  pub more : List Ended
  pub ended : after.ended ≡ before.ended ++ (failed ++ (given, got) ∷ more)
  pub first : IsFirstTold (greeting_of id boot) got

-- So it is where the mount ended well, and where it ended by what the server sent.
abbrev pub Greets : ℕ → ℕ → Status → NetSeen → NetSeen → Type 0
Greets id boot status.Done before after = GotGreeting id boot before after
Greets id boot status.OldBoot before after = GotGreeting id boot before after
Greets id boot status.PeerFault before after = GotGreeting id boot before after
Greets id boot _ before after = ⊤
