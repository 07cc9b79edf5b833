-- What durable lines promise: that they name all that an answered fsync or sync covers, and what a disk stores.
use Rattle.std.specs.Prelude.{◌==◌, ◌-◌, ℕ, T, ◌&&◌, if◌then◌else◌, List, [], ◌∷◌, ◌++◌, take, ⊤}
use Rattle.std.specs.List.{filter}
use Rattle.ec_volume.specs.Image.{is_id}
use Rattle.ec_volume.specs.Update.{member}
use Rattle.ec_volume.specs.Volume.{Images, HaveOneShape, after}
use Rattle.ec_history.specs.History.{Base, History, Op, updates, kept, Covers, Throughout}
use Rattle.ec_history.specs.Placing.{watch_next, unwatched, place}
use Rattle.ec_history.specs.declared.watch.Watch.{Watch}
use Rattle.ec_history.specs.declared.entry.Entry.{Entry}
use Rattle.ec_history.specs.declared.entry.Entry.TheVariants as entry
use Rattle.ec_history.specs.declared.shown.Shown.{Shown}
use Rattle.ec_history.specs.declared.shown.Shown.TheVariants.{Durable}

-- the operations of the start that this line makes durable: a durable line belongs to its clerk's open start
abbrev pub made_durable : ℕ → ℕ → Watch → Shown → List ℕ
made_durable c b w (Durable d ns) = if (c == d) && is_id b w.open_start then ns else []
made_durable c b w _ = []

abbrev pub durable_from : ℕ → ℕ → Watch → List Shown → List ℕ
durable_from c b w [] = []
durable_from c b w (s ∷ ss) = made_durable c b w s ++ durable_from c b (watch_next c w s) ss

-- The operations of the start that durable lines name.
abbrev pub durable : ℕ → ℕ → List Shown → List ℕ
durable c b ss = durable_from c b unwatched ss

-- Durable lines above the line of a call name each operation that it covers.
abbrev pub IsCovered : Base → List Shown → History → ℕ × Entry → Type 0
IsCovered base ss past (p, entry.Call c b l begun cl a op) =
    (n : ℕ) → Covers base past (p, entry.Call c b l begun cl a op) c b n → T (member n (durable c b (take (p - 1) ss)))
IsCovered base ss past (p, entry.Loss c b ns) = ⊤

abbrev pub AreCovered : Base → List Shown → Type 0
AreCovered base ss = Throughout (IsCovered base ss) [] (place ss)

-- The operations that durable lines name, in the order of the history, and a volume of the shape that they leave.

abbrev pub durable_ops : Base → List Shown → List Op
durable_ops base ss = filter (λ k. member k.number (durable k.clerk k.boot ss)) (kept base (place ss))

abbrev pub IsStored : Base → List Shown → Images → Type 0
IsStored base ss v = HaveOneShape v (after base.volume (updates (durable_ops base ss)))
