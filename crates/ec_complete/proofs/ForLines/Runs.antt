-- A script without faults whose lines settle is answered plainly.
use Rattle.std.proofs.Common.{arith, ◌≡◌, refl, sym, ap, ◌∙◌, subst, ◌+◌, ℕ, zero, suc, Bool, true, false, List, [], ◌∷◌, ◌++◌, length, take}
use Rattle.std.specs.Prelude.{Option, None, Some, Ok}
use Rattle.ec_volume.specs.Volume.{images}
use Rattle.ec_volume.specs.declared.image.Image.TheVariants.{Gone}
use Rattle.ec_history.specs.History.{Base, Each}
use Rattle.ec_history.specs.Placing.{EachLine}
use Rattle.ec_history.specs.declared.shown.Shown.{Shown}
use Rattle.ec_durable.specs.WellFormed.{WellFormed}
use Rattle.ec_durable.specs.declared.state.Durable.{Durable}
use Rattle.ec_protocol.specs.Drill as drills
use Rattle.ec_protocol.specs.Drill.{Done, Ending, Fates, Ran, Read, bound, carry_out, close, drill, drill_in, is_stopped, last_line, last_restart, line_happens, reads, run_from, settle, status, unfit}
use Rattle.ec_protocol.specs.World.{Moving, forget, open_world, pending, runs}
use Rattle.ec_protocol.specs.declared.script.Line.{Line}
use Rattle.ec_protocol.specs.declared.server.Server.{Server}
use Rattle.ec_protocol.specs.declared.world.World.{World}
use Rattle.ec_lawful.proofs.ForWhole.Volumes.{volumes-have-greatest}
use Rattle.ec_lawful.proofs.ForWhole.Frames.{forgotten-stands}
use Rattle.ec_lawful.specs.Drills.{lines_in}
use Rattle.ec_lawful.specs.DrillRuns.{AreFit, IsFit}
use Rattle.ec_lawful.proofs.Drills.{drills-on}
use Rattle.ec_lawful.specs.Headline.{AreLawful, IsGreatest, joined, placed_on}
use Rattle.ec_lawful.specs.Runs.{RunShows}
use Rattle.ec_lawful.proofs.Shows.{runs-show}
use Rattle.ec_lawful.proofs.Worlds.{kept-by, no-calls, no-lines, opened-holds}
use Rattle.ec_quiet.proofs.Ending.{ends}
use Rattle.ec_quiet.specs.OfDeliveries.Runs.{AllRun, HasSettled}
use Rattle.ec_quiet.proofs.OfDeliveries.Running.{comes}
use Rattle.ec_quiet.specs.Quiet.{IsIdle}
use Rattle.ec_quiet.specs.Scenes.{IsScene, Scene}
use Rattle.ec_quiet.specs.Settling.{IsSettled}
use Rattle.ec_quiet.proofs.Showing.{both}
use Rattle.ec_machine_laws.specs.Answers.{Asking, answers_in, asked_from, asking_in, none_yet}
use Rattle.ec_machine_laws.specs.PlainLines.{asked_in, ids_from}
use Rattle.ec_machine_laws.proofs.Answering.{answers}
use Rattle.ec_complete.specs.Complete.{IsComplete, IsFaultless, IsFaultlessRead}
use Rattle.ec_complete.specs.SettledRuns.{EachSettles, HasRoom}
use Rattle.ec_complete.proofs.ForLines.Ends.{no-ends}
use Rattle.ec_complete.proofs.ForLines.Ids.{as-many, ids-rise}
use Rattle.ec_complete.proofs.ForLines.Lines as lines
use Rattle.ec_complete.proofs.ForLines.Numbers.{Below}
use Rattle.ec_complete.proofs.ForLines.Plainness.{are-plain}
use Rattle.ec_base.proofs.Lists.{regroup, no-more}
use Rattle.ec_complete.proofs.ForLines.Fronts.{faultless-lines}

asked-both : (ss ts : List Shown) → asked_in (ss ++ ts) ≡ asked_in ss ++ asked_in ts
asked-both [] ts = refl
asked-both (s ∷ ss) ts = ap (λ l. Rattle.ec_machine_laws.specs.PlainLines.answered_in s ++ l) (asked-both ss ts) ∙ sym (regroup (Rattle.ec_machine_laws.specs.PlainLines.answered_in s) (asked_in ss) (asked_in ts))

same-joined : (ps : List (List Shown)) → drills.joined ps ≡ joined ps
same-joined [] = refl
same-joined (p ∷ ps) = ap (λ l. p ++ l) (same-joined ps)

each-front : (n : ℕ) (ls : List Line) → Each IsFaultless ls → Each IsFaultless (take n ls)
each-front zero ls a = tt
each-front (suc n) [] a = tt
each-front (suc n) (l ∷ ls) a = (a.0, each-front n ls a.1)

module _ (d : Durable) (formed : WellFormed d) (sixteen : length d.sessions ≡ 16) (gone : images d.volume 0 ≡ Gone) (w : World) (sc : Scene) (opened : open_world d ≡ Ok w) (i : IsScene w sc) (idle : IsIdle sc)
    (ls : List Read) (fs : List Fates) (fit : AreFit ls) (faultless : Each IsFaultlessRead ls) (all-run : Each AllRun fs) (settles : EachSettles (bound ls) 1 ls w) where
  abbrev k : ℕ
  k = bound ls

  -- what is known before the line of this number, of which the rest of the script is known
  record Known (number : ℕ) (v : World) (rest : List Read) : Type 0 where
    before : lines.Before d formed sixteen gone number v
    asked : asked_in v.shown ++ asked_from number (lines_in rest) ≡ asked_from 1 (lines_in ls)
    settled : EachLine IsSettled v.shown
    to-settle : EachSettles k number rest v
    no-faults : Each IsFaultlessRead rest
    fits : AreFit rest

  fit-all : (number : ℕ) (v : World) (column : ℕ) (rest : List Read) → Known number v (unfit column ∷ rest) → ⊥
  fit-all number v column rest q = q.to-settle

  abbrev After : ℕ → List Read → Moving → Type 0
  After number rest m = (m.fault ≡ None) × (pending m.world ≡ 0) × Known (number + 1) (forget m.world) rest

  one : (number : ℕ) (v : World) (l : Line) (column : ℕ) (rest : List Read) → Known number v (reads l column ∷ rest) → After number rest (carry_out k [] number l v)
  one number v l column rest q = subst (After number rest) (sym (lines.carries d formed sixteen gone number v q.before l fine k hs column)) (hs.fault, over.0, next)
    where
      fine : (line_happens runs number l v).fault ≡ None
      fine = q.to-settle.0

      hs : HasSettled k (line_happens runs number l v) (settle k [] (line_happens runs number l v))
      hs = q.to-settle.1

      over : (pending (settle k [] (line_happens runs number l v)).world ≡ 0) × IsScene (forget (settle k [] (line_happens runs number l v)).world) hs.scene
      over = ends (settle k [] (line_happens runs number l v)).world hs.scene hs.stands hs.idle.mail

      along : lines.Along d formed sixteen gone number v (settle k [] (line_happens runs number l v))
      along = lines.behind d formed sixteen gone number v q.before l fine k hs column q.no-faults.0 q.fits.0

      asked-then : asked_in (settle k [] (line_happens runs number l v)).world.shown ≡ asked_in v.shown ++ asking_in number l
      asked-then = ap asked_in along.lines ∙ asked-both v.shown (settle k [] (line_happens runs number l v)).shown
          ∙ ap (λ l. asked_in v.shown ++ l) (lines.answered d formed sixteen gone number v q.before l fine k hs column q.no-faults.0 q.fits.0)

      next : Known (number + 1) (forget (settle k [] (line_happens runs number l v)).world) rest
      next = record {
        before = record {
          holds = (along.holds.0, along.holds.1, forgotten-stands (settle k [] (line_happens runs number l v)).world along.holds.0 along.holds.2);
          shown = along.of.shown;
          scene = hs.scene;
          stands = over.1;
          idle = hs.idle;
        };
        asked = ap (λ a. a ++ asked_from (number + 1) (lines_in rest)) asked-then ∙ regroup (asked_in v.shown) (asking_in number l) (asked_from (number + 1) (lines_in rest)) ∙ q.asked;
        settled = subst (EachLine IsSettled) (sym along.lines) (both v.shown (settle k [] (line_happens runs number l v)).shown q.settled hs.shown);
        to-settle = q.to-settle.2;
        no-faults = q.no-faults.1;
        fits = q.fits.1;
      }

  begins : Known 1 w ls
  begins = record {
    before = record {
      holds = opened-holds d formed sixteen gone w opened;
      shown = subst (EachLine (Rattle.ec_lawful.specs.Calls.IsOf (Below 1))) (sym (no-lines d formed sixteen gone w opened)) tt;
      scene = sc;
      stands = i;
      idle = idle;
    };
    asked = ap (λ ss. asked_in ss ++ asked_from 1 (lines_in ls)) (no-lines d formed sixteen gone w opened);
    settled = subst (EachLine IsSettled) (sym (no-lines d formed sixteen gone w opened)) tt;
    to-settle = settles;
    no-faults = faultless;
    fits = fit;
  }

  abbrev ran : Ran
  ran = run_from k 1 ls fs w

  ran-well : (ran.ending ≡ Done) × Known (1 + length ls) ran.world []
  ran-well = comes k Known fit-all one ls fs 1 w all-run begins

  -- The end.

  up : is_stopped ran ≡ false
  up = ap (λ (o : Option Server). elim o as (λ z. Bool) [ None ↦ true | Some s ↦ false ]) ran-well.1.before.stands.server

  closes : close ran.ending ran ≡ ran
  closes = ap (λ e. close e ran) ran-well.0 ∙ ap (λ b. elim b as (λ z. Ran) [ true ↦ last_restart ran | false ↦ ran ]) up

  abbrev ss : List Shown
  ss = joined ran.pieces

  drill-is : drill ls fs d ≡ (ss, 0)
  drill-is = ap (drill_in ls fs) opened ∙ ap (λ (r : Ran). (drills.joined r.pieces ++ last_line r.ending, status r.ending)) closes ∙ ap (λ e. (drills.joined ran.pieces ++ last_line e, status e)) ran-well.0
      ∙ ap (λ l. (l, 0)) (no-more (drills.joined ran.pieces) ∙ same-joined ran.pieces)

  closed : Rattle.ec_lawful.specs.DrillRuns.Closed (lines.G d formed sixteen gone) [] [] ls (close ran.ending ran)
  closed = drills-on (lines.G d formed sixteen gone) (kept-by d formed sixteen gone) ls fs w (opened-holds d formed sixteen gone w opened) (no-calls d formed sixteen gone w opened) (no-lines d formed sixteen gone w opened) fit

  world-shown : ran.world.shown ≡ ss
  world-shown = subst (λ (r : Ran). r.world.shown ≡ joined r.pieces) closes closed.sofar.shown

  abbrev top : ℕ
  top = (volumes-have-greatest d formed).0

  great : IsGreatest (images d.volume) top
  great = record { lives = (volumes-have-greatest d formed).1; least = (volumes-have-greatest d formed).2 }

  abbrev base : Base
  base = placed_on (images d.volume) top

  shows : RunShows (images d.volume) top d.max_objects ls ran
  shows = subst (RunShows (images d.volume) top d.max_objects ls) closes
      (runs-show d formed sixteen gone w opened ls fs fit top great)

  lawful : AreLawful base d.max_objects ss
  lawful = shows.fronts ss [] (no-more ss)

  all-settled : EachLine IsSettled ss
  all-settled = subst (EachLine IsSettled) world-shown ran-well.1.settled

  all-asked : asked_in ss ≡ asked_from 1 (lines_in ls)
  all-asked = ap asked_in (sym world-shown) ∙ sym (no-more (asked_in ran.world.shown)) ∙ ran-well.1.asked

  module _ (room : EachLine HasRoom (drill ls fs d).0) where
    plain : EachLine Rattle.ec_machine_laws.specs.PlainLines.IsPlain ss
    plain = are-plain base d.max_objects ss lawful.placed lawful.history all-settled (subst (λ (r : List Shown × ℕ). EachLine HasRoom r.0) drill-is room)
        (no-ends shows.lines ran.pieces (subst (Each IsFaultless) (sym shows.front) (each-front (length shows.lines) (lines_in ls) (faultless-lines ls faultless))) shows.ends)

    abbrev Completes : List Shown × ℕ → Type 0
    Completes r = IsComplete (images d.volume) (lines_in ls) r.0 r.1

    pub completes : Completes (drill ls fs d)
    completes = subst Completes (sym drill-is) (record {
      done = refl;
      settled = all-settled;
      top = top;
      greatest = great;
      ids = ids_from base 1 ss;
      rising = ids-rise (images d.volume) top ss 1 top (omega arith);
      one_each = as-many (images d.volume) top ss 1 ∙ ap length all-asked;
      answers = answers base d.max_objects ss lawful.history plain ∙ ap (λ qs. Rattle.ec_machine_laws.specs.Answers.answers_to (images d.volume) none_yet (ids_from base 1 ss) qs) all-asked;
    })
