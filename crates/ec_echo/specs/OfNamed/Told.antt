-- The lines that a drill wrote, as each promise of them reads them.
use Rattle.std.specs.Prelude.{◌≡◌, ◌≤◌, ◌⊎◌, ℕ, List, [], ◌++◌, length, ⊤}
use Rattle.std.specs.Io.KnownBytes.{Appends}
use Rattle.ec_volume.specs.Volume.{Images, images}
use Rattle.ec_durable.specs.Durable.{formatted}
use Rattle.ec_history.specs.History.{Base}
use Rattle.ec_history.specs.Placing.{EachLine}
use Rattle.ec_history.specs.declared.shown.Shown.{Shown}
use Rattle.ec_history.specs.declared.shown.Shown.TheVariants.{Bad, DiskBad, Limit, Spent}
use Rattle.ec_words.specs.OfText.Lines.{shown_text, text_of}
use Rattle.ec_lawful.specs.Headline.{IsGreatest, placed_on}
use Rattle.ec_drill.specs.Cuts.{IsCutFront}
use Rattle.ec_drill.specs.Fates.{IsKnown}
use Rattle.ec_drill.specs.Seen.{Stream, Store}
use Rattle.ec_echo.specs.OfNamed.Seen.{IsNew}

-- the line says why a drill ended early
abbrev pub EndsEarly : Shown → Type 0
EndsEarly (Bad number column) = ⊤
EndsEarly (DiskBad place) = ⊤
EndsEarly (Limit name n) = ⊤
EndsEarly (Spent n) = ⊤
EndsEarly _ = ⊥

-- These lines were written, then at most one that says why the drill ended early, and then, with status 5 or 9 alone, perhaps a part of one.
pub record Wrote (result : ℕ) (sink : Stream) (told : List Shown) : Type 0 where
  pub why : List Shown
  pub at_most_one : length why ≤ 1
  pub says : EachLine EndsEarly why
  -- nothing, or a front of a line that wasn't written whole
  pub part : List ℕ
  pub in_part : (part ≡ []) ⊎ ((s : Shown) × IsCutFront (shown_text s) part)
  pub whole : (result ≡ 5 → ⊥) → (result ≡ 9 → ⊥) → part ≡ []
  pub bytes : Appends sink.bytes sink.bytes_after (text_of (told ++ why) ++ part)

-- the line says why no line of a script was carried out
abbrev pub BarsRun : Shown → Type 0
BarsRun (DiskBad place) = ⊤
BarsRun (Limit name n) = ⊤
BarsRun _ = ⊥

-- No line of a run was written.
pub record WroteNone (result : ℕ) (sink : Stream) : Type 0 where
  pub wrote : Wrote result sink []
  pub bars : EachLine BarsRun wrote.why

-- Whole lines were written, and with status 5 or 9 perhaps a part of one more.
abbrev pub WroteLines : ℕ → Stream → ℕ → Type 0
WroteLines result sink most = (told : List Shown) × Wrote result sink told

-- P holds of the volume with which the drill began, of at most so many objects, of the lines written, and of the line that says why it ended early.
pub record HoldsOfLines (most result : ℕ) (sink : Stream) (store : Store) (P : Base → ℕ → List Shown → List Shown → Type 0) : Type 0 where
  -- on a new disk it's the formatted one
  pub volume : Images
  pub limit : ℕ
  pub new : IsNew store → (volume ≡ images (formatted most).volume) × (limit ≡ most)
  -- a new object has the id that is the greatest one of the volume plus the place of its call's line
  pub top : ℕ
  pub greatest : IsGreatest volume top
  pub told : List Shown
  pub wrote : Wrote result sink told
  pub holds : P (placed_on volume top) limit told wrote.why

-- P holds of each front of the lines
abbrev pub OnFronts : (Base → ℕ → List Shown → Type 0) → Base → ℕ → List Shown → List Shown → Type 0
OnFronts P base limit told why = (front rest : List Shown) → front ++ rest ≡ told → P base limit front

-- So it is where the disk tells its content, or made no stop.
abbrev pub OfLines : (Base → ℕ → List Shown → Type 0) → ℕ → Stream → Store → ℕ → Type 0
OfLines P result sink store most = IsKnown store.tells store.counts.stops store.counts_after.stops → ∥ HoldsOfLines most result sink store (OnFronts P) ∥₁
