-- A link in memory.
use Rattle.std.specs.Prelude.{◌≡◌, ℕ, Bool, List, [], nat_eq, is_none}
use Rattle.std.specs.List.{list_any}
use Rattle.ec_base.specs.Outside.{one_more}
use Rattle.ec_link.specs.declared.memory.MemLink.{MemLink}
use Rattle.ec_link.specs.Happenings.{faults_in}
use Rattle.ec_link.specs.HappeningBodies.{closes_in, given_in, got_in}

-- the next send or receive is listed as one that fails
abbrev pub is_due : MemLink → Bool
is_due link = list_any (λ n. nat_eq n (one_more link.calls)) link.fails.items

-- it sends no more
abbrev pub is_shut : MemLink → Bool
is_shut link = is_none link.line.to

-- nothing has happened at this end, and it holds no bytes
pub record IsNewLink (link : MemLink) : Type 0 where
  pub faults : faults_in link.happened ≡ 0
  pub closes : closes_in link.happened ≡ 0
  pub given : given_in link.happened ≡ []
  pub got : got_in link.happened ≡ []
  pub held : link.frames.left ≡ []
  pub fails : link.fails.items ≡ []
