-- Any facts that are kept by a stop, by a record that is found, and by a start, hold behind each fate of the disk.
use Rattle.std.proofs.Common.{◌≡◌, refl, sym, ap, subst, ◌∙◌, inl, inr, ◌⊎◌, ℕ, T, Option, Some, None}
use Rattle.std.specs.Prelude.{Contains, is_some, Ok}
use Rattle.ec_history.specs.declared.shown.Shown.TheVariants.{Stopped}
use Rattle.ec_wire.specs.declared.msg.Msg.{Msg}
use Rattle.ec_durable.specs.Durable.{step}
use Rattle.ec_durable.specs.declared.state.Durable.{Durable}
use Rattle.ec_durable.specs.declared.record.Record.{Record}
use Rattle.ec_protocol.specs.Server.{Serving, end, start, take}
use Rattle.ec_protocol.specs.World.{Fate, committed, restart, runs, stops_with, stops_without}
use Rattle.ec_protocol.specs.declared.server.Server.{Server}
use Rattle.ec_protocol.specs.declared.world.World.{World}
use Rattle.ec_coherence.specs.System.{System, Ghost}
use Rattle.ec_coherence.specs.Steps.{Committed, Stands, found}
use Rattle.ec_coherence.specs.CommitLaws.{AllAgree}
use Rattle.ec_coherence.specs.CommitLaws as commits
use Rattle.ec_coherence.specs.StandLaws.{lined, stopped}
use Rattle.ec_coherence.proofs.TakesAny.{end-stands, takes-any}
use Rattle.ec_lawful.specs.Doubts.{ComesFrom, DoubtAgrees, doubted}
use Rattle.ec_lawful.specs.Founds.{Makes, bare, found_ghost, found_state, shown_in, started_in, with_found}
use Rattle.ec_lawful.proofs.ForWhole.Doubted.{doubted-all}
use Rattle.ec_lawful.proofs.ForWhole.Fates as fates
use Rattle.ec_lawful.proofs.ForWhole.Founds.{founds-make, founds-stand}
use Rattle.ec_lawful.proofs.ForWhole.From.{ends-from, takes-from}
use Rattle.ec_lawful.proofs.ForWhole.Restarts.{restart-stands}

-- the facts hold of the system in which the world stands
abbrev Holds : (System → Type 0) → World → Type 0
Holds F w = (g : System) × F g × Stands w g

-- a step of the running server, for a message that was sent or for the administrator
abbrev IsStep : System → Server → Serving → Type 0
IsStep g v t = ((c : ℕ) × (m : Msg) × Contains g.pool (c, m) × (t ≡ take c m v)) ⊎ ((c : ℕ) × (t ≡ end c v))

module _ (F : System → Type 0) (agrees : (g : System) → F g → AllAgree g × DoubtAgrees g) where
  -- Stops in steps.
  module _ (stops : (g : System) (v : Server) → F g → g.server ≡ Some v → F (stopped g))
      (doubts : (g : System) (v : Server) → F g → g.server ≡ Some v → (r : Record) → ComesFrom g r → AllAgree (doubted g r) → F (doubted g r)) where
    abbrev Steps : System → Serving → Record → Type 0
    Steps g t r = ComesFrom g r × (step r g.durable ≡ Ok t.server.durable)

    of-step : (g : System) (v : Server) → AllAgree g → g.server ≡ Some v → (t : Serving) → IsStep g v t → (r : Record) → t.rec ≡ Some r → t.spent ≡ None → Steps g t r
    of-step g v all up t (inl (c, m, p, e)) r q n = (takes-from g v c m p r (sym (ap (λ z. z.rec) e) ∙ q), by (takes-any g v all up c m p))
      where
        by : T (is_some (take c m v).spent) ⊎ ((γ : Ghost) × commits.StepStands g (take c m v) γ) → step r g.durable ≡ Ok t.server.durable
        by (inl s) = absurd (subst (λ o. T (is_some o)) (sym (ap (λ z. z.spent) e) ∙ n) s)
        by (inr (γ, s)) = subst (λ o. Committed g.durable o t.server.durable) q (subst (λ z. Committed g.durable z.rec z.server.durable) (sym e) (s.0).committed)
    of-step g v all up t (inr (c, e)) r q n = (ends-from g v c r (sym (ap (λ z. z.rec) e) ∙ q), by (end-stands g v all up c))
      where
        by : T (is_some (end c v).spent) ⊎ ((γ : Ghost) × commits.StepStands g (end c v) γ) → step r g.durable ≡ Ok t.server.durable
        by (inl s) = absurd (subst (λ o. T (is_some o)) (sym (ap (λ z. z.spent) e) ∙ n) s)
        by (inr (γ, s)) = subst (λ o. Committed g.durable o t.server.durable) q (subst (λ z. Committed g.durable z.rec z.server.durable) (sym e) (s.0).committed)

    pub doubts-hold : (w : World) (g : System) → F g → Stands w g → (v : Server) → g.server ≡ Some v → (t : Serving) → IsStep g v t → (r : Record) → t.rec ≡ Some r → t.spent ≡ None
        → Holds F (committed stops_without r t w).world × Holds F (committed stops_with r t w).world
    doubts-hold w g f st v up t is r q n =
        let of = of-step g v (agrees g f).0 up t is r q n in
        let server = st.server ∙ up in (
          (stopped g, stops g v f up, fates.without w g st v server r t),
          (doubted g r, doubts g v f up r of.0 (doubted-all g (agrees g f).0 v up r t.server.durable of.1), fates.with-it w g st v server r t),
        )

  -- Restarts.
  module _ (lines : (g : System) → F g → F (lined g Stopped))
      (finds : (g : System) → F g → g.server ≡ None → (r : Record) → g.unshown ≡ Some r → Makes (bare g) r (found_ghost g r) → AllAgree (with_found g r) → F (with_found g r))
      (starts : (g : System) → F g → g.server ≡ None → g.unshown ≡ None → (e : ℕ) → AllAgree (started_in g (start (record (g.durable) { epoch = e }))) → F (started_in g (start (record (g.durable) { epoch = e })))) where
    module _ (w : World) (g : System) (f : F g) (st : Stands w g) (stop : w.server ≡ None) (spare : (start w.durable).spent ≡ None) where
      abbrev e : ℕ
      e = w.durable.epoch

      down : g.server ≡ None
      down = sym st.server ∙ stop

      abbrev state : Durable
      state = found_state g e

      by-record : (o : Option Record) → g.unshown ≡ o → AllAgree (started_in (shown_in g o) (start (record (found o g.durable) { epoch = e }))) → F (started_in (shown_in g o) (start (record (found o g.durable) { epoch = e })))
      by-record None p all = starts g f down p e all
      by-record (Some r) p all =
          let both = agrees g f in
          starts (with_found g r) (finds g f down r p (founds-make g both.0 both.1 down r p) (founds-stand g both.0 both.1 down r p)) down refl e all

      comes-up : T (is_some (start state).spent) ⊎ AllAgree (started_in (shown_in g g.unshown) (start state)) → F (started_in (shown_in g g.unshown) (start state))
      comes-up (inl s) = absurd (subst (λ o. T (is_some o)) (ap (λ d. (start d).spent) (sym st.durable) ∙ spare) s)
      comes-up (inr all) = by-record g.unshown refl all

      pub restarts-hold : (fate : Fate) → Holds F (restart fate w).world
      restarts-hold runs =
          let both = agrees g f in
          (started_in (shown_in g g.unshown) (start state), comes-up (restart-stands g both.0 both.1 down e st.epoch), fates.up-stands w g st stop spare both.0)
      restarts-hold stops_without = (lined g Stopped, lines g f, fates.stopped-without w g st stop spare)
      restarts-hold stops_with = (lined g Stopped, lines g f, fates.stopped-with w g st stop spare)
