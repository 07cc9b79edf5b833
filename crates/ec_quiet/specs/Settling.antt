-- How many messages are under way and were sent while a line settles, and what it shows, as contracts name it.
use Rattle.std.specs.Prelude.{⊤}
use Rattle.ec_history.specs.declared.shown.Shown.{Shown}
use Rattle.ec_history.specs.declared.shown.Shown.TheVariants as show

-- The line tells of calls, of durable or lost operations, or that nothing happened: it doesn't say that messages didn't settle, that a node crashed, stopped
-- or started, or why a run ended.
abbrev pub IsSettled : Shown → Type 0
IsSettled (show.Waits l c cl) = ⊤
IsSettled (show.Answered l c cl a op) = ⊤
IsSettled (show.Durable c ns) = ⊤
IsSettled (show.Ended c ns) = ⊤
IsSettled (show.Unseen c) = ⊤
IsSettled (show.Told c ns) = ⊤
IsSettled show.Nothing = ⊤
IsSettled _ = ⊥
