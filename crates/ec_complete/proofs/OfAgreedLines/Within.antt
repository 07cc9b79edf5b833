-- Durable lines of a world whose invariant holds lie in the closures that are asked for.
use Rattle.std.proofs.Common.{◌≡◌, refl, sym, ap, ◌∙◌, subst, ℕ, T, [], ◌∷◌, Option, Some, None, filter}
use Rattle.ec_base.specs.Tables.{at, keys}
use Rattle.ec_volume.specs.Update.{member}
use Rattle.ec_volume.specs.Volume.{Images}
use Rattle.ec_order.specs.Order.{Holds}
use Rattle.ec_history.specs.History.{Each, kept, of_issue, of_start}
use Rattle.ec_history.specs.Placing.{begun, watch}
use Rattle.ec_history.specs.declared.shown.Shown.{Shown}
use Rattle.ec_history.specs.declared.shown.Shown.TheVariants as show
use Rattle.ec_sessions.specs.declared.slot.Slot.{Slot}
use Rattle.ec_durable.specs.Durable.{slot}
use Rattle.ec_log.specs.Choice.{numbers_asked}
use Rattle.ec_log.specs.Log.{closure_of}
use Rattle.ec_log.specs.declared.state.Asked.{Asked}
use Rattle.ec_machine_laws.specs.Needs.{IsPart}
use Rattle.ec_machine_laws.proofs.Closing.{rest-within}
use Rattle.ec_protocol.specs.World.{deliver, due, runs}
use Rattle.ec_protocol.specs.declared.clerk.Clerk.{Clerk}
use Rattle.ec_protocol.specs.declared.world.Sent.{Sent}
use Rattle.ec_protocol.specs.declared.world.World.{World}
use Rattle.ec_coherence.specs.Events.{shown_boot}
use Rattle.ec_coherence.specs.Invariant.{Invariant}
use Rattle.ec_coherence.specs.Log.{LogAgrees, mine, numbered}
use Rattle.ec_coherence.specs.Steps.{Stands, running_clerk}
use Rattle.ec_coherence.specs.System.{System, base_of, clerk_in, is_of}
use Rattle.ec_quiet.specs.Facts.{IsIn}
use Rattle.ec_quiet.specs.Phases.{InPhase, Phase}
use Rattle.ec_quiet.specs.Scenes.{IsScene, Mail, Scene}
use Rattle.ec_quiet.specs.Works.{Work}
use Rattle.ec_quiet.proofs.Delivering as delivering
use Rattle.ec_quiet.proofs.Delivering.{due-is, none-due}
use Rattle.ec_complete.proofs.OfAgreedLines.Seen.{clerk-there, scenes-seen}
use Rattle.ec_quiet.specs.OfDeliveries.PhasesBehind.{IsBehind, IsLineBehind}
use Rattle.ec_quiet.proofs.OfDeliveries.ForWriteBehind.Shown.{lines-behind}
use Rattle.ec_quiet.specs.OfDeliveries.Closures.{IsInClosureOf}
use Rattle.ec_quiet.specs.OfDeliveries.WithinClosures.{IsWithin, kept_operations}
use Rattle.ec_complete.proofs.OfAgreedLines.Parts.{shown-part}
use Rattle.ec_quiet.proofs.OfDeliveries.ForWriteBehind.Parts.{asked-of, closure-grows}
use Rattle.ec_history.proofs.OfLaws.ForPlacing.BasesAlike.{each-map as each-turn}

-- The message that is due is the first one of the scene.
module _ (w : World) (sc : Scene) (scene : IsScene w sc) (i : ℕ) (d : due w ≡ Some i) where
  same-number : (n : ℕ) → ◌≡◌ {A = Option ℕ} (Some n) (Some i) → n ≡ i
  same-number n e = cc

  none-some : ◌≡◌ {A = Option ℕ} None (Some i) → ⊥
  none-some e = cc

  pub due-first : (x : Sent) × (rest : Mail) × (at i w.pool ≡ Some x) × (sc.mail ≡ (x.clerk, x.msg) ∷ rest)
  due-first = go sc.mail refl
    where
      go : (ms : Mail) → sc.mail ≡ ms → (x : Sent) × (rest : Mail) × (at i w.pool ≡ Some x) × (sc.mail ≡ (x.clerk, x.msg) ∷ rest)
      go [] e = absurd (none-some (sym (none-due w sc scene e) ∙ d))
      go (m ∷ rest) e =
          let f = delivering.first w sc scene m.0 m.1 rest e in
          let i-is : f.number ≡ i = same-number f.number (sym (due-is w sc scene m.0 m.1 rest e) ∙ d) in
          (f.sent, rest, subst (λ z. at z w.pool ≡ Some f.sent) i-is f.there, e ∙ ap (λ z. (z, m.1) ∷ rest) (sym f.clerk) ∙ ap (λ z. (f.sent.clerk, z) ∷ rest) (sym f.message))

module _ (w : World) (g : System) (sc : Scene) (inv : Invariant g) (st : Stands w g) (scene : IsScene w sc) where
  -- A clerk in its session: what its log has is part of what its start issued.
  module _ (c : ℕ) (k : Clerk) (sl : Slot) (there : at c sc.clerks ≡ Some k) (inside : IsIn sc.server c sl k) where
    abbrev s : ℕ
    s = sl.session

    start : (b : ℕ) × (g.running c ≡ Some b) × (g.clerks c b ≡ Some k)
    start = go (g.running c) refl (sym (st.clerks c) ∙ ap (at c) scene.clerks ∙ there)
      where
        none : ◌≡◌ {A = Option Clerk} None (Some k) → ⊥
        none e = cc

        go : (o : Option ℕ) → g.running c ≡ o → running_clerk g c ≡ Some k → (b : ℕ) × (g.running c ≡ Some b) × (g.clerks c b ≡ Some k)
        go None q e = absurd (none (sym (ap (λ o. elim o as (λ z. Option Clerk) [ None ↦ None | Some b ↦ g.clerks c b ]) q) ∙ e))
        go (Some b) q e = (b, q, sym (ap (λ o. elim o as (λ z. Option Clerk) [ None ↦ None | Some b ↦ g.clerks c b ]) q) ∙ e)

    abbrev b : ℕ
    b = start.0

    in-session : clerk_in g s ≡ Some k
    in-session = clerk-there g inv.sessions c b s k start.2 inside.session

    owner : g.ghost.owner s ≡ Some (c, k.age)
    owner = (inv.sessions.in_session c b s k start.2 inside.session).0

    boot-is : k.age.boot ≡ b
    boot-is = (inv.sessions.starts c b k start.2).1

    agrees : LogAgrees g s sl k
    agrees = inv.logs.logs s c sl (ap (λ d. slot d c) (scenes-seen w g sc st scene).durable ∙ inside.there) refl (subst T (sym inside.is_open) tt) k in-session

    mine-is : mine g.ghost s ≡ filter (of_start c b) g.ghost.kept
    mine-is = ap (λ o. filter (is_of o) g.ghost.kept) owner ∙ ap (λ z. filter (of_start c z) g.ghost.kept) boot-is

    operations-are : of_issue c (shown_boot g c b) (kept (base_of g) g.ghost.history) ≡ kept_operations (base_of g) c w.shown
    operations-are =
        ap (λ z. of_issue c z (kept (base_of g) g.ghost.history)) (sym (inv.events.starts c b start.1))
        ∙ ap (λ h. of_issue c (begun (watch c g.ghost.shown)).starts (kept (base_of g) h)) (sym inv.events.placed) ∙ ap (kept_operations (base_of g) c) (sym st.shown)

    part : IsPart (numbered (mine g.ghost s)) (kept_operations (base_of g) c w.shown)
    part = subst (λ ops. IsPart ops (kept_operations (base_of g) c w.shown)) (sym (ap numbered mine-is)) (subst (IsPart (numbered (filter (of_start c b) g.ghost.kept))) operations-are all)
      where
        all : IsPart (numbered (filter (of_start c b) g.ghost.kept)) (of_issue c (shown_boot g c b) (kept (base_of g) g.ghost.history))
        all n u h = subst (λ ks. Holds (of_issue c (shown_boot g c b) ks) n u) (sym inv.events.keeps) (shown-part g c b g.ghost.kept n u h)

    pub within : (a : Asked) (n : ℕ) → T (member n (keys (closure_of a k.log))) → IsInClosureOf a (kept_operations (base_of g) c w.shown) n
    within a n m = closure-grows a (numbered (mine g.ghost s)) (kept_operations (base_of g) c w.shown) part n
        (rest-within (numbered (mine g.ghost s)) agrees.knows.known k.log agrees.knows.rest a (λ m. member m (numbers_asked a (numbered (mine g.ghost s))))
        (asked-of a (numbered (mine g.ghost s)) (kept_operations (base_of g) c w.shown) part (numbered (mine g.ghost s))) n m)

  -- The lines of a delivery.
  module _ (v : Images) (j : Work) (p : Phase) (ip : InPhase j sc p) (fine : IsBehind v j sc) where
    line-within : (l : Shown) → IsLineBehind v j sc l → IsWithin (base_of g) v j w.shown l
    line-within (show.Durable c ns) (k, sl, there, inside, q) = (q.what, q.asks, λ n m. within c k sl there inside q.what n (q.inside n m))
    line-within (show.Waits l c cl) f = tt
    line-within (show.Answered l c cl a op) f = tt
    line-within (show.Ended c ns) f = tt
    line-within (show.Unseen c) f = tt
    line-within (show.Told c ns) f = tt
    line-within (show.Crashed c) f = tt
    line-within show.Stopped f = tt
    line-within show.Started f = tt
    line-within show.Nothing f = tt
    line-within show.Unsettled f = tt
    line-within (show.Bad l k) f = tt
    line-within (show.DiskBad k) f = tt
    line-within (show.Limit n k) f = tt
    line-within (show.Spent n) f = tt

    delivered-within : (i : ℕ) (x : Sent) (rest : Mail) → at i w.pool ≡ Some x → sc.mail ≡ (x.clerk, x.msg) ∷ rest → Each (IsWithin (base_of g) v j w.shown) (deliver runs i w).shown
    delivered-within i x rest there mail = each-turn (IsLineBehind v j sc) (IsWithin (base_of g) v j w.shown) line-within (deliver runs i w).shown (lines-behind v j sc fine p ip w i x rest there mail)

    pub shown-within : (i : ℕ) → due w ≡ Some i → Each (IsWithin (base_of g) v j w.shown) (deliver runs i w).shown
    shown-within i d = let f = due-first w sc scene i d in delivered-within i f.0 f.1 f.2 f.3

pub lines-within : (w : World) (g : System) (sc : Scene) → Invariant g → Stands w g → IsScene w sc → (v : Images) (j : Work) (p : Phase) → InPhase j sc p → IsBehind v j sc
    → (i : ℕ) → due w ≡ Some i → Each (IsWithin (base_of g) v j w.shown) (deliver runs i w).shown
lines-within w g sc inv st scene v j p ip fine i d = shown-within w g sc inv st scene v j p ip fine i d
