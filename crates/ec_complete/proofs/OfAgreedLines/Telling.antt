-- What the lines of a world leave is what is kept in its system.
use Rattle.std.proofs.Common.{◌≡◌, refl, sym, ap, ◌∙◌, subst, inl, inr, ℕ, T, List, [], ◌∷◌, map}
use Rattle.ec_volume.specs.Update.{member}
use Rattle.ec_volume.specs.Volume.{after}
use Rattle.ec_history.specs.History.{Op, kept, updates}
use Rattle.ec_history.specs.Placing.{place}
use Rattle.ec_plain.specs.Plain.{plain}
use Rattle.ec_protocol.specs.declared.script.Line.{Line}
use Rattle.ec_protocol.specs.declared.script.Line.TheVariants as line
use Rattle.ec_protocol.specs.declared.world.World.{World}
use Rattle.ec_coherence.specs.Events.{shown_op}
use Rattle.ec_coherence.specs.Invariant.{Invariant}
use Rattle.ec_coherence.specs.Steps.{Stands}
use Rattle.ec_coherence.specs.System.{System, base_of}
use Rattle.ec_quiet.specs.Works.{Work}
use Rattle.ec_quiet.specs.OfDeliveries.Scripts.{volume_behind}
use Rattle.ec_quiet.specs.OfDeliveries.ScriptWorks.{IsWorkOf, IsWorkOn, LeaveOut}

module _ (w : World) (g : System) (inv : Invariant g) (st : Stands w g) where
  kept-is : kept (base_of g) (place w.shown) ≡ map (shown_op g) g.ghost.kept
  kept-is = ap (λ ss. kept (base_of g) (place ss)) st.shown ∙ ap (kept (base_of g)) inv.events.placed ∙ inv.events.keeps

  same-updates : (ks : List Op) → updates (map (shown_op g) ks) ≡ updates ks
  same-updates [] = refl
  same-updates (k ∷ ks) = ap (λ us. k.update ∷ us) (same-updates ks)

  pub volume-told : volume_behind (base_of g) w.shown ≡ after g.origin (updates g.ghost.kept)
  volume-told = ap (λ ks. after g.origin (updates ks)) kept-is ∙ ap (after g.origin) (same-updates g.ghost.kept)

  shown-out : (x : ℕ) (ks : List Op) → LeaveOut x ks → LeaveOut x (map (shown_op g) ks)
  shown-out x [] e = tt
  shown-out x (k ∷ ks) e = (e.0, shown-out x ks e.1)

  as-shown : (l : Line) (j : Work) → IsWorkOn g.origin g.ghost.kept l j → IsWorkOn g.origin (map (shown_op g) g.ghost.kept) l j
  as-shown (line.Call d cl) j (clerk, task, touches) = (
    clerk,
    task,
    λ x t. elim (touches x t) [
      | inl all ↦ inl (λ id. subst (λ us. T (member x (plain (after g.origin us) cl id).touched)) (sym (same-updates g.ghost.kept)) (all id))
      | inr out ↦ inr (shown-out x g.ghost.kept out)
    ],
  )
  as-shown (line.Push d n) j w = w
  as-shown line.Comment j w = absurd w
  as-shown (line.Cut d) j w = absurd w
  as-shown (line.Uncut d) j w = absurd w
  as-shown (line.Drop d k n) j w = absurd w
  as-shown (line.Repeat d k n) j w = absurd w
  as-shown (line.Deliver d k n) j w = absurd w
  as-shown (line.Resend d) j w = absurd w
  as-shown (line.Crash d) j w = absurd w
  as-shown (line.End d) j w = absurd w
  as-shown line.Stop j w = absurd w
  as-shown (line.Arm n ch) j w = absurd w
  as-shown line.Restart j w = absurd w

  pub works-told : (l : Line) (j : Work) → IsWorkOn g.origin g.ghost.kept l j → IsWorkOf (base_of g) w.shown l j
  works-told l j on = subst (λ ks. IsWorkOn g.origin ks l j) (sym kept-is) (as-shown l j on)
