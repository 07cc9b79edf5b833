-- A run so far: its lines are the first ones of the whole run, in which no session ends.
use Rattle.std.proofs.Common.{◌≡◌, refl, sym, ap, ◌∙◌, subst, ◌+◌, ℕ, Bool, true, false, List, [], ◌∷◌, ◌++◌, length, take}
use Rattle.std.specs.Prelude.{Option, None, Some, Ok, nat_lt}
use Rattle.ec_volume.specs.Volume.{images}
use Rattle.ec_volume.specs.declared.image.Image.TheVariants.{Gone}
use Rattle.ec_history.specs.History.{Each}
use Rattle.ec_history.specs.Placing.{EachLine}
use Rattle.ec_history.specs.declared.shown.Shown.{Shown}
use Rattle.ec_durable.specs.WellFormed.{WellFormed}
use Rattle.ec_durable.specs.declared.state.Durable.{Durable}
use Rattle.ec_protocol.specs.Drill as drills
use Rattle.ec_protocol.specs.Drill.{Ending, Done, BadLine, TooMany, IsSpent, Fates, Ran, Read, bound, carry_out, close, ending_of, ends, first_fates, is_stopped, last_restart, max_pending, piece_before, reads, rest_fates, run_from}
use Rattle.ec_protocol.specs.World.{Moving, forget, open_world, pending, restart, runs}
use Rattle.ec_protocol.specs.declared.script.Line.{Line}
use Rattle.ec_protocol.specs.declared.world.World.{World}
use Rattle.ec_protocol.specs.declared.world.WorldFault.{WorldFault}
use Rattle.ec_lawful.proofs.ForWhole.Volumes.{volumes-have-greatest}
use Rattle.ec_lawful.specs.Headline.{joined}
use Rattle.ec_lawful.specs.Drills.{lines_in}
use Rattle.ec_lawful.specs.DrillRuns.{AreFit}
use Rattle.ec_lawful.specs.Runs.{RunShows}
use Rattle.ec_lawful.proofs.Shows.{runs-show}
use Rattle.ec_quiet.specs.OfDeliveries.Runs.{AllRun}
use Rattle.ec_quiet.proofs.OfDeliveries.Running.{carries-alike}
use Rattle.ec_complete.specs.Complete.{IsFaultless, IsFaultlessRead}
use Rattle.ec_complete.proofs.ForLines.Ends.{no-ends}
use Rattle.ec_complete.proofs.ForLines.Plainness.{NoEnd}
use Rattle.ec_base.proofs.Lists.{regroup, no-more}

-- Pieces.

-- the pieces of a run behind these
abbrev pub ahead : List (List Shown) → Ran → Ran
ahead ps r = record r { pieces = ps ++ r.pieces }

pub joined-both : (ps qs : List (List Shown)) → joined (ps ++ qs) ≡ joined ps ++ joined qs
joined-both [] qs = refl
joined-both (p ∷ ps) qs = ap (λ l. p ++ l) (joined-both ps qs) ∙ sym (regroup p (joined ps) (joined qs))

-- what the end of a run adds
abbrev Adds : Ran → Ran → Type 0
Adds r s = (more : List Shown) × (joined s.pieces ≡ joined r.pieces ++ more)

adds-none : (r : Ran) → Adds r r
adds-none r = ([], sym (no-more (joined r.pieces)))

restarts-add : (r : Ran) → Adds r (last_restart r)
restarts-add r = go (restart runs r.world).fault
  where
    go : (o : Option WorldFault) → Adds r (elim o as (λ z. Ran) [ Some f ↦ record r { ending = ending_of 0 0 f } | None ↦ record r { world = (restart runs r.world).world; pieces = r.pieces ++ (restart runs r.world).shown ∷ [] } ])
    go (Some f) = ([], sym (no-more (joined r.pieces)))
    go None = (joined ((restart runs r.world).shown ∷ []), joined-both r.pieces ((restart runs r.world).shown ∷ []))

by-stop : (r : Ran) (b : Bool) → Adds r (elim b as (λ z. Ran) [ true ↦ last_restart r | false ↦ r ])
by-stop r true = restarts-add r
by-stop r false = adds-none r

closes-add : (e : Ending) (r : Ran) → Adds r (close e r)
closes-add Done r = by-stop r (is_stopped r)
closes-add (BadLine n c) r = by-stop r (is_stopped r)
closes-add (TooMany n) r = by-stop r (is_stopped r)
closes-add (IsSpent n) r = adds-none r

-- No end.

front-ends : (ss ts : List Shown) → EachLine NoEnd (ss ++ ts) → EachLine NoEnd ss
front-ends [] ts e = tt
front-ends (s ∷ ss) ts e = (e.0, front-ends ss ts e.1)

pub faultless-lines : (ls : List Read) → Each IsFaultlessRead ls → Each IsFaultless (lines_in ls)
faultless-lines [] a = tt
faultless-lines (reads l column ∷ ls) a = (a.0, faultless-lines ls a.1)
faultless-lines (drills.unfit column ∷ ls) a = absurd a.0

each-front : (n : ℕ) (ls : List Line) → Each IsFaultless ls → Each IsFaultless (take n ls)
each-front Rattle.std.proofs.Common.zero ls a = tt
each-front (Rattle.std.proofs.Common.suc n) [] a = tt
each-front (Rattle.std.proofs.Common.suc n) (l ∷ ls) a = (a.0, each-front n ls a.1)

module _ (d : Durable) (formed : WellFormed d) (sixteen : length d.sessions ≡ 16) (gone : images d.volume 0 ≡ Gone) (w : World) (opened : open_world d ≡ Ok w) (ls : List Read) (fs : List Fates) (fit : AreFit ls) (faultless : Each IsFaultlessRead ls) where
  abbrev ran : Ran
  ran = run_from (bound ls) 1 ls fs w

  abbrev top : ℕ
  top = (volumes-have-greatest d formed).0

  shows : RunShows (images d.volume) top d.max_objects ls (close ran.ending ran)
  shows = runs-show d formed sixteen gone w opened ls fs fit top (record { lives = (volumes-have-greatest d formed).1; least = (volumes-have-greatest d formed).2 })

  none-ends : EachLine NoEnd (joined (close ran.ending ran).pieces)
  none-ends = no-ends shows.lines (close ran.ending ran).pieces (subst (Each IsFaultless) (sym shows.front) (each-front (length shows.lines) (lines_in ls) (faultless-lines ls faultless))) shows.ends

  -- so it is with the lines of each part that the run begins with
  pub front-no-end : (ps : List (List Shown)) (r : Ran) → run_from (bound ls) 1 ls fs w ≡ ahead ps r → EachLine NoEnd (joined ps)
  front-no-end ps r e =
      let added = closes-add ran.ending ran in
      front-ends (joined ps) (joined r.pieces ++ added.0)
      (subst (EachLine NoEnd) (added.1 ∙ ap (λ l. l ++ added.0) (ap (λ (x : Ran). joined x.pieces) e ∙ joined-both ps r.pieces) ∙ regroup (joined ps) (joined r.pieces) added.0) none-ends)

-- One line more.

pub each-first : (fs : List Fates) → Each AllRun fs → AllRun (first_fates fs)
each-first [] a = tt
each-first (f ∷ fs) a = a.0

pub each-rest : (fs : List Fates) → Each AllRun fs → Each AllRun (rest_fates fs)
each-rest [] a = tt
each-rest (f ∷ fs) a = a.1

module _ (k number : ℕ) (l : Line) (column : ℕ) (ls : List Read) (fs : List Fates) (w : World) (all : Each AllRun fs) (m : Moving) (carries : carry_out k [] number l w ≡ m) (fine : m.fault ≡ None) (none : pending m.world ≡ 0) where
  abbrev rest : Moving → Ran
  rest x = piece_before x.shown (run_from k (number + 1) ls (rest_fates fs) (forget x.world))

  abbrev behind : Moving → Ran
  behind x = elim x.fault as (λ z. Ran) [
    | Some f ↦ ends x.world x.shown (ending_of number column f)
    | None ↦ elim (nat_lt max_pending (pending x.world)) as (λ z. Ran) [ true ↦ ends x.world x.shown (TooMany (pending x.world)) | false ↦ rest x ]
  ]

  few : nat_lt max_pending (pending m.world) ≡ false
  few = ap (nat_lt max_pending) none

  pub line-more : run_from k number (reads l column ∷ ls) fs w ≡ piece_before m.shown (run_from k (number + 1) ls (rest_fates fs) (forget m.world))
  line-more = ap behind (carries-alike k (first_fates fs) number l w (each-first fs all) ∙ carries)
      ∙ ap (λ o. elim o as (λ z. Ran) [ Some f ↦ ends m.world m.shown (ending_of number column f) | None ↦ elim (nat_lt max_pending (pending m.world)) as (λ z. Ran) [ true ↦ ends m.world m.shown (TooMany (pending m.world)) | false ↦ rest m ] ]) fine
      ∙ ap (λ b. elim b as (λ z. Ran) [ true ↦ ends m.world m.shown (TooMany (pending m.world)) | false ↦ rest m ]) few
