-- What lines name, behind the watches of their clerks.
use Rattle.std.specs.Prelude.{◌≡◌, ℕ, T, Bool, List, true, false, not, ◌||◌, Some, None, is_some, ⊤}
use Rattle.std.specs.List.{list_all}
use Rattle.ec_volume.specs.Update.{member}
use Rattle.ec_history.specs.Placing.{shows, may_show, begun, owner, to_lose, same_numbers}
use Rattle.ec_history.specs.declared.shown.Shown.{Shown}
use Rattle.ec_history.specs.declared.shown.Shown.TheVariants.{Answered, Durable, Ended, Unseen, Told}
use Rattle.ec_history.specs.declared.watch.Watch.{Watch}

-- these operations are lost, and were not told yet
abbrev pub is_told : Watch → List ℕ → Bool
is_told w ns = elim w.untold [ Some ms ↦ same_numbers ns ms | None ↦ false ]

-- Behind a watch of its clerk the line names what it may.
abbrev pub IsNamed : Watch → Shown → Type 0
IsNamed w (Answered l c cl a op) = T (not (shows cl a) || may_show (begun w))
IsNamed w (Durable c ns) = T (list_all (λ n. member n w.undurable) ns)
IsNamed w (Ended c ns) = T (is_some (owner w)) × T (same_numbers ns (to_lose w))
IsNamed w (Unseen c) = (w.crashed ≡ true) × (w.open_start ≡ None)
IsNamed w (Told c ns) = T (is_told w ns)
IsNamed w _ = ⊤
