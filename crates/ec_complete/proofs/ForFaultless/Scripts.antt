-- The lines of a script without faults go on, one behind the other.
use Rattle.std.proofs.Common.{refl, sym, subst, arith, ◌≤◌, ◌+◌, ◌==◌, ◌||◌, ◌++◌, ℕ, T, Bool, true, false, List, [], ◌∷◌, length}
use Rattle.ec_base.specs.Tables.{once}
use Rattle.ec_volume.specs.Update.{member}
use Rattle.ec_volume.specs.Volume.{Images, images}
use Rattle.ec_history.specs.History.{Each}
use Rattle.ec_durable.specs.Durable.{formatted}
use Rattle.ec_protocol.specs.Drill.{Read, clerk_in, line_happens, named_in, reads, settle, unfit}
use Rattle.ec_protocol.specs.World.{forget, runs}
use Rattle.ec_protocol.specs.declared.world.World.{World}
use Rattle.ec_lawful.specs.DrillRuns.{AreFit}
use Rattle.ec_complete.specs.Begins.{EachBegins, bound_for}
use Rattle.ec_complete.specs.Complete.{IsFaultlessRead}
use Rattle.ec_complete.specs.SettledRuns.{EachSettles}
use Rattle.ec_complete.specs.Goes.{GoesThrough}
use Rattle.ec_complete.specs.Ready.{IsReady}
use Rattle.ec_complete.specs.Worlds.{new_outset}
use Rattle.ec_complete.specs.Scripts.{AreNamed, EachGoesOn, EachPushGoes, ScriptsArePlain, ScriptsGoOn, ScriptsSettle}
use Rattle.ec_complete.proofs.ForFaultless.Going.{lines-go-through}
use Rattle.ec_complete.proofs.ForFaultless.Laws.{runs-plain}
use Rattle.ec_complete.proofs.ForFaultless.Opening.{new-early, new-ready}

module _ (P : ℕ → Type 0) where
  front-each : (xs ys : List ℕ) → Each P (xs ++ ys) → Each P xs
  front-each [] ys h = tt
  front-each (x ∷ xs) ys h = (h.0, front-each xs ys h.1)

  back-each : (xs ys : List ℕ) → Each P (xs ++ ys) → Each P ys
  back-each [] ys h = h
  back-each (x ∷ xs) ys h = back-each xs ys h.1

module _ (v : Images) (most : ℕ) (names : List ℕ) where
  abbrev IsNamed : ℕ → Type 0
  IsNamed c = T (member c names)

  go-on : (sixteen : length (once names) ≤ 16) (number : ℕ) (ls : List Read) (w : World) → IsReady new_outset v most names number w → 1 ≤ number → number + length ls ≤ 65537 → Each IsFaultlessRead ls → AreFit ls → AreNamed names ls
      → EachPushGoes (bound_for (length (once names))) number ls w → EachGoesOn v most names number ls w
  go-on sixteen number [] w q first few a fit named push = q
  go-on sixteen number (unfit column ∷ ls) w q first few a fit named push = absurd a.0
  go-on sixteen number (reads l column ∷ ls) w q first few a fit named push =
      let g : GoesThrough new_outset v most names number l w q = lines-go-through new_outset v most names number l column w q new-early sixteen first (omega (arith, few)) a.0 fit.0 (front-each IsNamed (clerk_in l) (named_in ls) named) push.0 in
      (q, g, go-on sixteen (number + 1) ls (forget (settle (bound_for (length (once names))) [] (line_happens runs number l w)).world) g.next (omega arith) (omega (arith, few)) a.1 fit.1 (back-each IsNamed (clerk_in l) (named_in ls) named) push.1)

  settle-all : (number : ℕ) (ls : List Read) (w : World) → EachGoesOn v most names number ls w → EachBegins (length (once names)) number ls w × EachSettles (bound_for (length (once names))) number ls w
  settle-all number [] w g = (tt, tt)
  settle-all number (unfit column ∷ ls) w g = absurd g
  settle-all number (reads l column ∷ ls) w g =
      let r = settle-all (number + 1) ls (forget (settle (bound_for (length (once names))) [] (line_happens runs number l w)).world) g.2 in
      ((g.1.goes.fine, g.1.begun, r.0), (g.1.goes.fine, g.1.settled, r.1))

pub scripts-go-on : ScriptsGoOn
scripts-go-on v most names number ls w q sixteen first few a fit named push = go-on v most names sixteen number ls w q first few a fit named push

pub scripts-settle : ScriptsSettle
scripts-settle v most names number ls w g = settle-all v most names number ls w g

-- each stands in a list
each-in : (xs ns : List ℕ) → ((x : ℕ) → T (member x xs) → T (member x ns)) → Each (λ c. T (member c ns)) xs
each-in [] ns h = tt
each-in (x ∷ xs) ns h = (h x (subst (λ b. T (b || member x xs)) (sym (Rattle.ec_base.proofs.Numbers.same-self x)) tt), each-in xs ns (λ y m. h y (behind (y == x) (member y xs) m)))
  where
    behind : (a b : Bool) → T b → T (a || b)
    behind true b m = tt
    behind false b m = m

pub scripts-plain : ScriptsArePlain
scripts-plain most formed w opened ls fs few sixteen fit a all-run push room =
    let q : IsReady new_outset (images (formatted most).volume) most (named_in ls) 1 w = new-ready most formed (named_in ls) w opened in
    runs-plain (formatted most) formed refl refl w q.scene opened q.stands q.idle ls fs fit a all-run
    (settle-all (images (formatted most).volume) most (named_in ls) 1 ls w
    (go-on (images (formatted most).volume) most (named_in ls) sixteen 1 ls w q (omega arith) (omega (arith, few)) a fit (each-in (named_in ls) (named_in ls) (λ x m. m)) push)).1
    room
