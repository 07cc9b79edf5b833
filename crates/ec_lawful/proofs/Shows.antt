-- Each run over a well-formed state shows what it should.
use Rattle.std.proofs.Common.{◌≡◌, refl, ℕ, List}
use Rattle.std.specs.Prelude.{length, Ok}
use Rattle.ec_volume.specs.Volume.{images}
use Rattle.ec_volume.specs.declared.image.Image.TheVariants.{Gone}
use Rattle.ec_durable.specs.WellFormed.{WellFormed}
use Rattle.ec_durable.specs.declared.state.Durable.{Durable}
use Rattle.ec_protocol.specs.Drill.{Fates, Read, bound, close, run_from}
use Rattle.ec_protocol.specs.World.{open_world}
use Rattle.ec_protocol.specs.declared.world.World.{World}
use Rattle.ec_lawful.specs.Olds.{opened_in}
use Rattle.ec_lawful.proofs.ForWhole.Opens.{world-stands}
use Rattle.ec_lawful.proofs.ForWhole.OpensWhole.{opened-whole}
use Rattle.ec_lawful.specs.Headline.{IsGreatest}
use Rattle.ec_lawful.specs.DrillRuns.{AreFit}
use Rattle.ec_lawful.specs.Runs.{OfRun, RunShows}
use Rattle.ec_lawful.proofs.Runs.{run-shows}
use Rattle.ec_lawful.proofs.Clerks.{clerks-keep-all}

module _ (d : Durable) (wf : WellFormed d) (sixteen : length d.sessions ≡ 16) (zero : images d.volume 0 ≡ Gone) (w : World) (opens : open_world d ≡ Ok w) (ls : List Read) (fs : List Fates) (fit : AreFit ls) where
  facts : OfRun (images d.volume) d.max_objects (opened_in d)
  facts = record { whole = opened-whole d wf sixteen zero; origin = refl; most_is = refl }

  pub runs-show : (top : ℕ) → IsGreatest (images d.volume) top → let ran = run_from (bound ls) 1 ls fs w in RunShows (images d.volume) top d.max_objects ls (close ran.ending ran)
  runs-show top greatest =
      let st = world-stands d sixteen w opens in
      run-shows clerks-keep-all (images d.volume) d.max_objects ls fs w (opened_in d, facts, st) (record { idle = λ c. refl; boots = λ c. refl; pool = refl; unshown = refl; shown = refl }) st.calls st.shown fit top wf.volume greatest.least
