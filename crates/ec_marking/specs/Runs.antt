-- What a step of a server makes of its disk.
use Rattle.std.specs.Prelude.{◌≡◌, ◌⊎◌, ◌≤◌, ℕ, Ok}
use Rattle.ec_durable.specs.declared.state.Durable.{Durable}
use Rattle.ec_durable.specs.Durable.{step as record_step}
use Rattle.ec_durable.specs.declared.record.Record.{Record}

-- The reads, writes and syncs of a step that runs: none where no record is committed, and four for one, or nine and more where the journal begins
-- anew for it.
abbrev pub Takes : ℕ → Durable → Durable → Type 0
Takes turns before after = ((turns ≡ 0) × (after ≡ before)) ⊎ ((r : Record) × (record_step r before ≡ Ok after) × ((turns ≡ 4) ⊎ (9 ≤ turns)))
