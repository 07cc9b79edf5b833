-- The line's clerk sees what is kept, also in the midst of its step.
use Rattle.std.proofs.Common.{◌≡◌, refl, sym, ap, subst, ◌∙◌, ℕ, T, Bool, [], ◌∷◌, Some}
use Rattle.std.specs.Prelude.{Contains}
use Rattle.ec_base.specs.Tables.{at}
use Rattle.ec_base.specs.declared.ids.Hold.{Hold}
use Rattle.ec_volume.specs.Volume.{Images, after, images}
use Rattle.ec_history.specs.History.{updates}
use Rattle.ec_sessions.specs.declared.slot.Slot.{Slot}
use Rattle.ec_wire.specs.declared.msg.Msg.TheVariants as msg
use Rattle.ec_durable.specs.Durable.{slot}
use Rattle.ec_durable.specs.WellFormed.{IsInOrder}
use Rattle.ec_cache.specs.OfResolve.Agreement.{Shows}
use Rattle.ec_protocol.specs.Clerk.{Doing, doing, first_id}
use Rattle.ec_protocol.specs.declared.clerk.Clerk.{Clerk}
use Rattle.ec_protocol.specs.declared.script.Line.{Line}
use Rattle.ec_protocol.specs.declared.world.World.{World}
use Rattle.ec_coherence.specs.ChangeLaws.{IsInIt}
use Rattle.ec_coherence.specs.Invariant.{Invariant}
use Rattle.ec_coherence.specs.Steps.{doing_in}
use Rattle.ec_coherence.specs.System.{System, is_open, seen_ops}
use Rattle.ec_coherence.proofs.ForBatches.OpenSlots.{at-open}
use Rattle.ec_coherence.proofs.ForServer.Tables.{same_some}
use Rattle.ec_coherence.specs.Answers.{IsLive, seen_by}
use Rattle.ec_coherence.specs.Answers as answers
use Rattle.ec_coherence.proofs.ForCommits.Answering.{fresh-gone}
use Rattle.ec_coherence.proofs.ForCommits.Judged.{shows-all}
use Rattle.ec_lawful.proofs.OfClerkSteps.Live as live
use Rattle.ec_lawful.specs.SettleLaws.{IsLined}
use Rattle.ec_lawful.proofs.Plain.{takes-grant-so, takes-kept-so}
use Rattle.ec_quiet.specs.Facts.{IsIn}
use Rattle.ec_quiet.specs.Phases.{Phase, Greets, Opens, Claims, Wants, Recalls, Flushes, Keeps, Grants, Asks, Gives, Refuses, Saves, Saved, Ends, InPhase, IsSaving, IsWanting}
use Rattle.ec_quiet.specs.Scenes.{IsScene, Scene}
use Rattle.ec_quiet.specs.Works.{HasTask, Work}
use Rattle.ec_quiet.specs.Takings.{taking}
use Rattle.ec_quiet.proofs.Begun as begun
use Rattle.ec_quiet.specs.OfDeliveries.Deliveries.{having_kept}
use Rattle.ec_complete.specs.OfAgreedLines.Worlds.{IsSeen}
use Rattle.ec_complete.proofs.OfAgreedLines.Seen.{scenes-seen}
use Rattle.ec_complete.specs.WaitingCalls.{IsAgreed, kept_volume}
use Rattle.ec_complete.specs.Lines.{IsOnLine}
use Rattle.ec_complete.proofs.ForLines.Taking.{agreed-midst, runs-in}
use Rattle.ec_quiet.specs.OfDeliveries.PhasesBehind.{MaySee, Sees}
use Rattle.ec_quiet.proofs.OfDeliveries.ForWriteBehind.Seen.{shown-seen}
use Rattle.ec_complete.specs.Following.{IsWorked}
use Rattle.ec_complete.proofs.ForFaultless.Sent.{messages-sent}
use Rattle.ec_complete.proofs.ForFaultless.Works.{at-work}

-- A clerk that runs in an open session sees what is kept.
module _ (g : System) (c b s : ℕ) (k : Clerk) (a : IsAgreed g c b s k) where
  inv : Invariant g
  inv = a.all.0

  in-it : IsInIt g c s k.age k
  in-it = record {
    start = record { owns = (inv.sessions.in_session c b s k a.stands a.session).0; stands = ap (g.clerks c) (inv.sessions.starts c b k a.stands).1 ∙ a.stands };
    session = a.session;
  }

  lives : IsLive g c k
  lives = live.live g a.all c s k.age k in-it a.zeros a.is_open

  sees : answers.Sees g k
  sees = live.sees g a.all c s k.age k in-it a.zeros a.is_open

  seen-is : seen_by g k ≡ kept_volume g
  seen-is = ap (λ z. after g.origin (updates (seen_ops z g.ghost.kept))) lives.sees_all

  pub shows : Shows k.cache (first_id k.ids) (kept_volume g)
  shows = subst (λ v. Shows k.cache (first_id k.ids) v) seen-is (shows-all k.cache (seen_by g k) sees.images (first_id k.ids) (fresh-gone g k sees))

module _ (l : Line) (origin v : Images) (j : Work) (w : World) (sc : Scene) (g : System) (on : IsOnLine j w sc g) (worked : IsWorked l origin v j sc g) (scene : IsScene w sc) where
  seen : IsSeen g sc
  seen = scenes-seen w g sc on.stands scene

  order : IsInOrder g.durable
  order = subst IsInOrder (sym seen.durable) on.order

  -- The line's clerk in its session.
  module _ (k : Clerk) (sl : Slot) (there : at j.clerk sc.clerks ≡ Some k) (inside : IsIn sc.server j.clerk sl k) (own : sl.session ≡ j.session) where
    start : (b : ℕ) × (g.running j.clerk ≡ Some b) × (g.clerks j.clerk b ≡ Some k)
    start = runs-in w g on.stands j.clerk k (ap (at j.clerk) scene.clerks ∙ there)

    within : k.session ≡ Some j.session
    within = inside.session ∙ ap Some own

    opened : T (is_open g j.session)
    opened = at-open j.session g.durable.sessions j.clerk sl (ap (λ d. slot d j.clerk) seen.durable ∙ inside.there, own, subst T (sym inside.is_open) tt)

    midst-sees : (d : Doing) → IsLined g j.clerk start.0 d g.ghost → d.clerk.session ≡ k.session → Sees (kept_volume g) j d.clerk
    midst-sees d line e =
        shown-seen (kept_volume g) j d.clerk (shows (doing_in j.clerk start.0 d g.ghost g) j.clerk start.0 j.session d.clerk (agreed-midst g j.clerk start.0 j.session d line.trying (e ∙ within) opened order))

    sees-it : HasTask j.task k → (d : Doing) → IsLined g j.clerk start.0 d g.ghost → d.clerk.session ≡ k.session → Sees v j d.clerk
    sees-it task d line e a asks = sym (worked.works k there (at-work j.task k task)).0 ∙ midst-sees d line e a asks

  -- A token comes.
  module _ (x : ℕ) (h : Hold) (n : ℕ) (ip : InPhase j sc (Grants x h n)) where
    abbrev wa : IsWanting (x ∷ []) j sc x h ip.facts.2
    wa = ip.facts.3

    abbrev k : Clerk
    k = wa.clerk

    abbrev st : (b : ℕ) × (g.running j.clerk ≡ Some b) × (g.clerks j.clerk b ≡ Some k)
    st = start k wa.slot wa.working.there wa.working.inside wa.working.session

    abbrev own : k.session ≡ Some j.session
    own = within k wa.slot wa.working.there wa.working.inside wa.working.session

    sent : Contains g.pool (j.clerk, msg.Grant j.session sc.server.durable.epoch x n h (images sc.server.durable.volume x))
    sent = (messages-sent w g on.stands sc scene j (Grants x h n) ip).0

    grant-line : IsLined g j.clerk st.0 (taking x h n sc k) g.ghost
    grant-line = subst (λ d. IsLined g j.clerk st.0 d g.ghost) (begun.grants j.session sc.server.durable.epoch k (own, wa.working.inside.epoch) x n h (images sc.server.durable.volume x))
        (takes-grant-so g on.whole j.clerk st.0 k st.1 st.2 j.session own j.session sc.server.durable.epoch x n h (images sc.server.durable.volume x) sent)

    pub grant-sees : (m : Clerk) → at j.clerk sc.clerks ≡ Some m → Sees v j (taking x h n sc m).clerk
    grant-sees m e = subst (λ z. Sees v j (taking x h n sc z).clerk) (same_some (sym wa.working.there ∙ e))
        (sees-it k wa.slot wa.working.there wa.working.inside wa.working.session wa.task (taking x h n sc k) grant-line refl)

  -- A batch of its own is durable.
  module _ (b : ℕ) (more : Bool) (ip : InPhase j sc (Saved b more)) where
    abbrev qs : IsSaving 0 j sc b more
    qs = ip.facts.1

    abbrev ks : Clerk
    ks = qs.clerk

    abbrev ss : (a : ℕ) × (g.running j.clerk ≡ Some a) × (g.clerks j.clerk a ≡ Some ks)
    ss = start ks qs.slot qs.working.there qs.working.inside qs.working.session

    abbrev in-own : ks.session ≡ Some j.session
    in-own = within ks qs.slot qs.working.there qs.working.inside qs.working.session

    kept-sent : Contains g.pool (j.clerk, msg.Kept j.session sc.server.durable.epoch b)
    kept-sent = (messages-sent w g on.stands sc scene j (Saved b more) ip).0

    saved-line : IsLined g j.clerk ss.0 (doing (having_kept b ks)) g.ghost
    saved-line = subst (λ d. IsLined g j.clerk ss.0 d g.ghost) (begun.keeps j.session sc.server.durable.epoch ks (in-own, qs.working.inside.epoch) b sc.server.durable.epoch)
        (takes-kept-so g on.whole j.clerk ss.0 ks ss.1 ss.2 j.session in-own j.session sc.server.durable.epoch b kept-sent)

    pub saved-sees : (m : Clerk) → at j.clerk sc.clerks ≡ Some m → Sees v j (having_kept b m)
    saved-sees m e = subst (λ z. Sees v j (having_kept b z)) (same_some (sym qs.working.there ∙ e))
        (sees-it ks qs.slot qs.working.there qs.working.inside qs.working.session qs.task (doing (having_kept b ks)) saved-line refl)

  pub may-see : (p : Phase) → InPhase j sc p → MaySee v j sc p
  may-see (Grants x h n) ip = grant-sees x h n ip
  may-see (Saved b more) ip = saved-sees b more ip
  may-see (Greets age) ip = tt
  may-see (Opens age) ip = tt
  may-see (Claims o) ip = tt
  may-see (Wants x h n) ip = tt
  may-see (Recalls x h rs bs) ip = tt
  may-see (Flushes x h r b ops more) ip = tt
  may-see (Keeps x h r b more) ip = tt
  may-see (Asks again got ask) ip = tt
  may-see (Gives got n first) ip = tt
  may-see (Refuses again ask live reserved) ip = tt
  may-see (Saves b ops more) ip = tt
  may-see Ends ip = tt

pub worked-lines-see : (l : Line) (origin v : Images) (j : Work) (w : World) (sc : Scene) (g : System) (p : Phase) → IsOnLine j w sc g → IsWorked l origin v j sc g → IsScene w sc → InPhase j sc p → MaySee v j sc p
worked-lines-see l origin v j w sc g p on worked scene ip = may-see l origin v j w sc g on worked scene p ip
