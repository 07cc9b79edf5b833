-- One line of a script without faults, which settles: its lines are of write-behind.
use Rattle.std.proofs.Common.{◌≡◌, refl, sym, ap, ◌∙◌, subst, arith, ◌≤◌, ◌+◌, ℕ, T, not, List, [], ◌∷◌, ◌++◌, append_assoc, inl, inr, ◌⊎◌, length}
use Rattle.std.specs.Prelude.{None, Some}
use Rattle.ec_volume.specs.Image.{is_gone}
use Rattle.ec_volume.specs.Volume.{Images, WellFormed}
use Rattle.ec_history.specs.History.{Base}
use Rattle.ec_history.specs.declared.shown.Shown.{Shown}
use Rattle.ec_protocol.specs.Drill.{line_happens, settle}
use Rattle.ec_protocol.specs.World.{Moving, due, runs}
use Rattle.ec_protocol.specs.declared.script.Line.{Line}
use Rattle.ec_protocol.specs.declared.world.World.{World}
use Rattle.ec_protocol.specs.declared.world.WorldFault.{WorldFault}
use Rattle.ec_lawful.specs.Headline.{placed_on}
use Rattle.ec_quiet.specs.Quiet.{IsIdle}
use Rattle.ec_quiet.specs.Scenes.{IsScene, Scene}
use Rattle.ec_quiet.specs.Works.{Work}
use Rattle.ec_quiet.specs.SettlingScenes.{Reaches}
use Rattle.ec_quiet.proofs.Delivering as delivering
use Rattle.ec_quiet.specs.OfDeliveries.Runs.{HasEnded}
use Rattle.ec_complete.specs.Spare.{max_calls}
use Rattle.ec_complete.specs.Worlds.{Outset}
use Rattle.ec_complete.specs.Begins.{most_sent}
use Rattle.ec_complete.specs.Complete.{IsFaultless}
use Rattle.ec_quiet.specs.OfDeliveries.Scripts.{AreWriteBehind}
use Rattle.ec_complete.specs.OfAgreedLines.Placed as placed
use Rattle.ec_complete.specs.Following.{BeginsBehind}
use Rattle.ec_complete.proofs.ForFaultless.Following.{writes}
use Rattle.ec_complete.proofs.FirstShown.{both-behind, first-adds, first-behind}
use Rattle.ec_base.proofs.Options.{none_some}
use Rattle.ec_quiet.proofs.Settled.{stops}

-- The lines of a line stand behind those before it, and each durable one names what the line asks for.
pub record IsBehindIn (base : Base) (l : Line) (w : World) (r : Moving) : Type 0 where
  pub adds : r.world.shown ≡ w.shown ++ r.shown
  pub behind : AreWriteBehind base l w.shown r.shown

-- Behind its first step a line is at work, or all is idle.
abbrev pub IsAtWorkOrIdle : Outset → Line → Images → ℕ → Moving → Type 0
IsAtWorkOrIdle outset l origin number m = ((v : Images) × (j : Work) × BeginsBehind outset l origin v j number m) ⊎ ((sc : Scene) × IsScene m.world sc × IsIdle sc)

module _ (outset : Outset) (origin : Images) (top : ℕ) (formed : WellFormed origin) (bound : (x : ℕ) → T (not (is_gone (origin x))) → x ≤ top) (number : ℕ) (few : number ≤ max_calls) (l : Line) (faultless : IsFaultless l) (w : World) (fine : (line_happens runs number l w).fault ≡ None) where
  abbrev base : Base
  base = placed_on origin top

  abbrev m : Moving
  m = line_happens runs number l w

  adds : m.world.shown ≡ w.shown ++ m.shown
  adds = first-adds base number w l faultless fine

  first : AreWriteBehind base l w.shown m.shown
  first = first-behind base number w l faultless

  -- it did nothing
  idles : (k : ℕ) (sc : Scene) → IsScene m.world sc → IsIdle sc → IsBehindIn base l w (settle k [] m)
  idles k sc i idle = subst (IsBehindIn base l w) (sym (stops k m (delivering.none-due m.world sc i idle.mail))) (record { adds = adds; behind = first })

  -- it's at work
  works : (v : Images) (j : Work) → BeginsBehind outset l origin v j number m → (r : Moving) → Reaches m r → r.world.sent ≤ most_sent → IsBehindIn base l w r
  works v j b r reached sent = go (writes outset l origin v j number few m b.known top formed bound b.behind r reached sent)
    where
      go : placed.WritesBehind base l m r → IsBehindIn base l w r
      go q = record {
        adds = q.shown ∙ ap (λ z. z ++ q.lines) adds ∙ append_assoc w.shown m.shown q.lines ∙ ap (λ z. w.shown ++ z) (sym q.piece);
        behind = subst (AreWriteBehind base l w.shown) (sym q.piece) (both-behind base origin l w.shown m.shown q.lines first (subst (λ z. AreWriteBehind base l z q.lines) adds q.behind));
      }

  pub line-behind : IsAtWorkOrIdle outset l origin number m → (k : ℕ) → Reaches m (settle k [] m) → (settle k [] m).world.sent ≤ most_sent → IsBehindIn base l w (settle k [] m)
  line-behind (inl (v, j, b)) k reached sent = works v j b (settle k [] m) reached sent
  line-behind (inr (sc, i, idle)) k reached sent = idles k sc i idle

  -- and where it ended in a delivery
  pub line-ended : IsAtWorkOrIdle outset l origin number m → (k : ℕ) (f : WorldFault) → (settle k [] m).fault ≡ Some f → HasEnded most_sent m (settle k [] m) → IsBehindIn base l w (settle k [] m)
  line-ended (inl (v, j, b)) k f e h =
      let i = works v j b h.last h.reached h.few in
      record { adds = ap (λ (u : World). u.shown) h.world ∙ i.adds ∙ ap (λ z. w.shown ++ z) (sym h.shown); behind = subst (AreWriteBehind base l w.shown) (sym h.shown) i.behind }
  line-ended (inr (sc, i, idle)) k f e h = absurd (none_some (sym fine ∙ ap (λ (x : Moving). x.fault) (sym (stops k m (delivering.none-due m.world sc i idle.mail))) ∙ e))
