-- A drill over a script without faults writes behind.
use Rattle.std.proofs.Common.{◌≡◌, refl, sym, ap, ◌∙◌, subst, arith, ◌≤◌, ◌+◌, ℕ, T, Bool, true, false, not, ◌||◌, List, [], ◌∷◌, ◌++◌, length}
use Rattle.std.specs.Prelude.{Option, None, Some, Ok, is_some}
use Rattle.ec_base.specs.Tables.{once}
use Rattle.ec_volume.specs.Image.{is_gone}
use Rattle.ec_volume.specs.Update.{member}
use Rattle.ec_volume.specs.Volume.{Images, images}
use Rattle.ec_volume.specs.declared.image.Image.TheVariants.{Gone}
use Rattle.ec_history.specs.History.{Each}
use Rattle.ec_durable.specs.WellFormed as states
use Rattle.ec_durable.specs.declared.state.Durable.{Durable}
use Rattle.ec_protocol.specs.Drill.{Done, BadLine, TooMany, IsSpent, Ending, Fates, Ran, Read, bound, close, is_stopped, last_restart, named_in, run_from}
use Rattle.ec_protocol.specs.World.{open_world}
use Rattle.ec_protocol.specs.declared.server.Server.{Server}
use Rattle.ec_protocol.specs.declared.world.World.{World}
use Rattle.ec_coherence.proofs.ForBatches.Ids.{in-back}
use Rattle.ec_lawful.specs.Headline.{placed_on}
use Rattle.ec_lawful.specs.Drills.{lines_in}
use Rattle.ec_lawful.specs.DrillRuns.{AreFit}
use Rattle.ec_quiet.specs.OfDeliveries.Runs.{AllRun}
use Rattle.ec_complete.specs.Complete.{IsFaultlessRead}
use Rattle.ec_complete.specs.Goes.{LinesGoOn}
use Rattle.ec_complete.specs.Ready.{IsReady, OpeningsAreReady}
use Rattle.ec_complete.specs.Worlds.{outset_of}
use Rattle.ec_complete.proofs.ForFaultless.Going.{lines-go-on}
use Rattle.ec_complete.proofs.ForFaultless.Opening.{openings-ready}
use Rattle.ec_complete.specs.RunsBehind.{DrillsWriteBehind, WritesBehind}
use Rattle.ec_complete.proofs.RunsBehind.{runs-behind}
use Rattle.ec_base.proofs.Numbers.{same-self as same}

-- each of a list is a member of it
each-member : (before xs : List ℕ) → Each (λ c. T (member c (before ++ xs))) xs
each-member before [] = tt
each-member before (x ∷ xs) = (in-back x before (x ∷ xs) (subst (λ z. T (z || member x xs)) (sym (same x)) tt), subst (λ ys. Each (λ c. T (member c ys)) xs) (regroup before x xs) (each-member (before ++ x ∷ []) xs))
  where
    regroup : (ys : List ℕ) (x : ℕ) (zs : List ℕ) → (ys ++ x ∷ []) ++ zs ≡ ys ++ x ∷ zs
    regroup [] x zs = refl
    regroup (y ∷ ys) x zs = ap (λ l. y ∷ l) (regroup ys x zs)

-- a server that runs isn't restarted at the end
closes : (r : Ran) → T (is_some r.world.server) → close r.ending r ≡ r
closes r up = by r.ending
  where
    runs-on : is_stopped r ≡ false
    runs-on = go r.world.server up
      where
        go : (o : Option Server) → T (is_some o) → elim o as (λ z. Bool) [ None ↦ true | Some s ↦ false ] ≡ false
        go (Some s) t = refl
        go None t = absurd t

    by : (e : Ending) → close e r ≡ r
    by (IsSpent n) = refl
    by Done = ap (λ b. elim b as (λ z. Ran) [ true ↦ last_restart r | false ↦ r ]) runs-on
    by (BadLine number column) = ap (λ b. elim b as (λ z. Ran) [ true ↦ last_restart r | false ↦ r ]) runs-on
    by (TooMany n) = ap (λ b. elim b as (λ z. Ran) [ true ↦ last_restart r | false ↦ r ]) runs-on

module _ (go-on : LinesGoOn) (are-ready : OpeningsAreReady) (d : Durable) (formed : states.WellFormed d) (sixteen : length d.sessions ≡ 16) (zero : images d.volume 0 ≡ Gone) (w : World) (opened : open_world d ≡ Ok w) (top : ℕ)
    (above : (x : ℕ) → T (not (is_gone (images d.volume x))) → x ≤ top) (ls : List Read) (fs : List Fates) where
  abbrev v : Images
  v = images d.volume

  abbrev ran : Ran
  ran = run_from (bound ls) 1 ls fs w

  ready : IsReady (outset_of w) v d.max_objects (named_in ls) 1 w
  ready = are-ready d formed sixteen zero (named_in ls) w opened

  no-lines : w.shown ≡ []
  no-lines = Rattle.ec_lawful.proofs.Worlds.no-lines d formed sixteen zero w opened

  pub drill-behind : length ls ≤ 65536 → length (once (named_in ls)) ≤ 16 → AreFit ls → Each IsFaultlessRead ls → Each AllRun fs → WritesBehind (placed_on v top) (lines_in ls) [] ran × (close ran.ending ran ≡ ran)
  drill-behind few names fit a all =
      let b = runs-behind go-on (outset_of w) v d.max_objects (named_in ls) top formed.volume above names ls fs 1 w ready (omega arith) (omega (arith, few)) a fit (each-member [] (named_in ls)) all in
      (subst (λ z. WritesBehind (placed_on v top) (lines_in ls) z ran) no-lines b, closes ran b.up)

-- with what is proved of lines without faults
pub disks-behind : DrillsWriteBehind
disks-behind d formed sixteen zero w opened top above ls fs few names fit a all = drill-behind lines-go-on openings-ready d formed sixteen zero w opened top above ls fs few names fit a all
