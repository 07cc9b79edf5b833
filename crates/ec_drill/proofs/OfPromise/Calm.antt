-- A script of comments, calls and pushes arms no disk, which so runs in each step.
use Rattle.std.proofs.Common.{◌≡◌, Bool, true, false, ◌||◌, List, [], ◌∷◌, refl, ap, ◌∙◌, inl, inr}
use Rattle.ec_history.specs.History.{Each}
use Rattle.ec_protocol.specs.Drill.{Fates, Read, reads, unfit}
use Rattle.ec_protocol.specs.declared.script.Line.{Line}
use Rattle.ec_protocol.specs.declared.script.Line.TheVariants as line
use Rattle.ec_quiet.specs.OfDeliveries.Runs.{AllRun}
use Rattle.ec_complete.specs.Complete.{IsFaultless, IsFaultlessRead}
use Rattle.ec_drill.specs.Arms.{any_arm, is_arm, is_arm_read}
use Rattle.ec_drill.specs.Drill.{AreStops, Outside}

one-calm : (l : Line) → IsFaultless l → is_arm l ≡ false
one-calm line.Comment f = refl
one-calm (line.Call c cl) f = refl
one-calm (line.Push c n) f = refl
one-calm (line.Cut c) f = absurd f
one-calm (line.Uncut c) f = absurd f
one-calm (line.Drop c k n) f = absurd f
one-calm (line.Repeat c k n) f = absurd f
one-calm (line.Deliver c k n) f = absurd f
one-calm (line.Resend c) f = absurd f
one-calm (line.Crash c) f = absurd f
one-calm (line.End c) f = absurd f
one-calm line.Stop f = absurd f
one-calm (line.Arm n ch) f = absurd f
one-calm line.Restart f = absurd f

none-arm : (rs : List Read) → Each IsFaultlessRead rs → any_arm rs ≡ false
none-arm [] a = refl
none-arm (unfit column ∷ rs) a = absurd a.0
none-arm (reads l column ∷ rs) a = ap (λ b. b || any_arm rs) (one-calm l a.0) ∙ none-arm rs a.1

pub all-run : (w : Outside) (rs : List Read) (fs : List Fates) → AreStops w rs fs → Each IsFaultlessRead rs → Each AllRun fs
all-run w rs fs (inl all) a = all
all-run w rs fs (inr rose) a = absurd (apart (any_arm rs) rose.0 (none-arm rs a))
  where
    apart : (b : Bool) → b ≡ true → b ≡ false → ⊥
    apart b t f = cc
