-- The phases in which a line may begin, and how many others may have what it needs.
use Rattle.std.specs.Prelude.{◌==◌, ℕ, not, filter, length, ⊤}
use Rattle.ec_sessions.specs.OfTokens.Tokens.{Tokens}
use Rattle.ec_quiet.specs.Phases.{Phase, Greets, Opens, Claims, Wants, Recalls, Flushes, Keeps, Grants, Asks, Gives, Refuses, Saves, Saved, Ends}

-- The line's own step was its clerk's: it greets, or asks for what it lacks, or is done.
abbrev pub IsFirstPhase : Phase → Type 0
IsFirstPhase (Greets age) = ⊤
IsFirstPhase (Wants x h n) = ⊤
IsFirstPhase (Asks again got ask) = ⊤
IsFirstPhase (Saves b ops rest) = ⊤
IsFirstPhase Ends = ⊤
IsFirstPhase (Opens age) = ⊥
IsFirstPhase (Claims o) = ⊥
IsFirstPhase (Recalls x h rs bs) = ⊥
IsFirstPhase (Flushes x h r b ops rest) = ⊥
IsFirstPhase (Keeps x h r b rest) = ⊥
IsFirstPhase (Grants x h n) = ⊥
IsFirstPhase (Gives got n first) = ⊥
IsFirstPhase (Refuses again ask live reserved) = ⊥
IsFirstPhase (Saved b rest) = ⊥

-- so many other sessions have tokens
abbrev pub other_rows : ℕ → Tokens → ℕ
other_rows s ts = length (filter (λ r. not (r.0 == s)) ts)
