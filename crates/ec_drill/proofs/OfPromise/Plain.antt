-- A plain script is complete, on a new disk.
use Rattle.std.proofs.Common.{◌≡◌, sym, ◌∙◌, subst, inl, arith, ◌≤◌, ℕ, List, length}
use Rattle.std.proofs.Math.Logic.{∥∥₁_map}
use Rattle.ec_history.specs.History.{Each}
use Rattle.ec_history.specs.declared.shown.Shown.{Shown}
use Rattle.ec_volume.specs.Volume.{images}
use Rattle.ec_durable.specs.Durable.{formatted}
use Rattle.ec_durable.specs.WellFormed.{WellFormed}
use Rattle.ec_durable.specs.declared.state.Durable.{Durable}
use Rattle.ec_protocol.specs.Drill.{Fates, drill}
use Rattle.ec_lawful.specs.Drills.{lines_in}
use Rattle.ec_lawful.specs.DrillRuns.{AreFit}
use Rattle.ec_quiet.specs.OfDeliveries.Runs as runs
use Rattle.ec_complete.specs.Complete.{IsComplete}
use Rattle.ec_complete.proofs.PlainScripts.{plain-scripts-complete}
use Rattle.ec_drill.specs.Drill.{Outside, IsToldAll, RanWhole}
use Rattle.ec_drill.specs.OfPromise.LawfulEnds.{PlainIsComplete}
use Rattle.ec_drill.proofs.OfPromise.Calm.{all-run}
use Rattle.ec_drill.proofs.OfPromise.Fit.{fit_script}
use Rattle.ec_drill.proofs.Given.{as_many}

pub plain-complete : (most number : ℕ) (w : Outside) (r : RanWhole most number w) → PlainIsComplete most number w r
plain-complete most number w r new script =
    ∥∥₁_map (r.opens).whole.formed (λ wf.
    let c : IsComplete (images (formatted most).volume) (lines_in r.reads) (drill r.reads r.fates (formatted most)).0 (drill r.reads r.fates (formatted most)).1 = plain-scripts-complete most r.reads r.fates (subst WellFormed state-is wf) few fit fates script in
    let on : IsComplete (images r.state.volume) (lines_in r.reads) (drill r.reads r.fates r.state).0 (drill r.reads r.fates r.state).1 =
    subst (λ (d : Durable). IsComplete (images d.volume) (lines_in r.reads) (drill r.reads r.fates d).0 (drill r.reads r.fates d).1) (sym state-is) c in
    (sym (r.status told) ∙ on.done, subst (λ (x : List Shown × ℕ). IsComplete (images r.state.volume) (lines_in r.reads) x.0 x.1) (λ z. (r.lines told z, r.status told z)) on))
  where
    told : IsToldAll w r.reads
    told = inl (inl new.tells)

    state-is : r.state ≡ formatted most
    state-is = (r.opens).empty new.tells new.empty

    fit : AreFit r.reads
    fit = fit_script _ r.reads (r.given).read

    few : length r.reads ≤ 65536
    few = omega (arith, as_many _ r.reads (r.given).read, (r.given).few_lines)

    fates : Each runs.AllRun r.fates
    fates = all-run w r.reads r.fates r.stopped script.faultless
