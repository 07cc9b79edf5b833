-- A line of a script settles: wherever deliveries come to, each durable line on the way is within what the line asks for.
use Rattle.std.proofs.Common.{◌≡◌, refl, sym, ap, ◌∙◌, subst, ℕ, List, [], ◌∷◌, ◌++◌, Option, Some, None, append-nil, append_assoc, arith, ◌+◌}
use Rattle.std.specs.Prelude.{◌≤◌, length}
use Rattle.ec_base.specs.Tables.{at_or}
use Rattle.ec_volume.specs.Update.{member}
use Rattle.ec_volume.specs.Volume.{Images}
use Rattle.ec_history.specs.History.{Base, Each, History, kept, of_issue}
use Rattle.ec_history.specs.Placing.{begun, place, watch}
use Rattle.ec_history.specs.declared.entry.Entry.{Entry}
use Rattle.ec_history.specs.declared.shown.Shown.{Shown}
use Rattle.ec_history.specs.declared.shown.Shown.TheVariants as show
use Rattle.ec_history.proofs.OfLaws.ForPlacing.Places.{places-within}
use Rattle.ec_order.specs.Order.{InClosure}
use Rattle.ec_wire.specs.declared.msg.Msg.{Msg}
use Rattle.ec_log.specs.Choice.{numbers_asked}
use Rattle.ec_protocol.specs.Drill.{onward}
use Rattle.ec_protocol.specs.World.{Moving, deliver, due, runs}
use Rattle.ec_coherence.specs.System.{System, base_of}
use Rattle.ec_coherence.proofs.ForCommits.Rebased.{Alike, kept-same}
use Rattle.ec_protocol.specs.declared.server.Server.{Server}
use Rattle.ec_protocol.specs.declared.world.World.{World}
use Rattle.ec_machine_laws.proofs.Sent.{deliveries-count}
use Rattle.ec_quiet.specs.Phases.{InPhase, Phase}
use Rattle.ec_quiet.specs.Scenes.{IsScene, Mail, Scene, delivered}
use Rattle.ec_quiet.specs.Works.{Work}
use Rattle.ec_quiet.specs.OfDeliveries.Coming.{HasNext}
use Rattle.ec_quiet.specs.OfDeliveries.Leading.{CanTake}
use Rattle.ec_quiet.proofs.OfDeliveries.Led.{deliveries-lead-on}
use Rattle.ec_quiet.proofs.OfDeliveries.Spending.{deliveries-have-next}
use Rattle.ec_quiet.specs.SettlingScenes.{Reaches, here, on}
use Rattle.ec_quiet.proofs.Delivering as delivering
use Rattle.ec_quiet.proofs.Delivering.{due-is, none-due, scene-then}
use Rattle.ec_quiet.specs.OfDeliveries.PhasesBehind.{IsBehind, MaySee}
use Rattle.ec_quiet.proofs.OfDeliveries.ForWriteBehind.StayingBehind.{stays-behind}
use Rattle.ec_complete.specs.OfAgreedLines.Closures.{IsBaseOf, WorldIsKnown, StaysWithin}
use Rattle.ec_quiet.specs.OfDeliveries.WithinClosures.{IsWithin, kept_operations}
use Rattle.ec_complete.proofs.OfAgreedLines.Lines.{Along, IsOther, along-within, both-along, delivery-step, other-within, step-along}
use Rattle.ec_complete.proofs.OfAgreedLines.Within.{lines-within}
use Rattle.ec_history.proofs.OfLaws.ForPlacing.BasesAlike.{each-map as each-turn}

-- Other ids for new objects at later places.
module _ (base : Base) (g : System) (ss : List Shown) (of : IsBaseOf base g ss) (v : Images) (j : Work) where
  places : (h : History) → Each (λ p. (1 ≤ p) × (p ≤ length ss)) (Rattle.std.proofs.Common.map (λ (e : ℕ × Entry). e.0) h) → Alike (λ p. at_or 0 p g.ghost.fresh) base.fresh h
  places [] a = tt
  places (e ∷ h) a = (sym (of.fresh e.0 a.0.1), places h a.1)

  same-kept : kept (base_of g) (place ss) ≡ kept base (place ss)
  same-kept = kept-same g.origin (λ p. at_or 0 p g.ghost.fresh) base.fresh (place ss) (places (place ss) (places-within ss)) ∙ ap (λ u. kept (record { volume = u; fresh = base.fresh }) (place ss)) (sym of.volume)

  same-operations : (c : ℕ) → kept_operations (base_of g) c ss ≡ kept_operations base c ss
  same-operations c = ap (of_issue c (begun (watch c ss)).starts) same-kept

  pub rebased : (l : Shown) → IsWithin (base_of g) v j ss l → IsWithin base v j ss l
  rebased (show.Durable c ns) (a, asks, inside) = (a, asks, λ n m. subst (λ ops. InClosure ops (λ m. member m (numbers_asked a ops)) n) (same-operations c) (inside n m))
  rebased (show.Waits l c cl) f = tt
  rebased (show.Answered l c cl a op) f = tt
  rebased (show.Ended c ns) f = tt
  rebased (show.Unseen c) f = tt
  rebased (show.Told c ns) f = tt
  rebased (show.Crashed c) f = tt
  rebased show.Stopped f = tt
  rebased show.Started f = tt
  rebased show.Nothing f = tt
  rebased show.Unsettled f = tt
  rebased (show.Bad l k) f = tt
  rebased (show.DiskBad k) f = tt
  rebased (show.Limit n k) f = tt
  rebased (show.Spent n) f = tt

-- Messages that were sent aren't taken back.
sent-rises : (w : World) (i : ℕ) → w.sent ≤ (deliver runs i w).world.sent
sent-rises w i = go w.server refl
  where
    none : (v : Server) → ◌≡◌ {A = Option Server} None (Some v) → ⊥
    none v e = cc

    some-same : (u v : Server) → ◌≡◌ {A = Option Server} (Some u) (Some v) → u ≡ v
    some-same u v e = cc

    go : (o : Option Server) → w.server ≡ o → w.sent ≤ (deliver runs i w).world.sent
    go None is = (deliveries-count 0 0 w i (λ v e. absurd (none v (sym is ∙ e)))).1
    go (Some u) is = (deliveries-count u.number u.durable.next_session w i
        (λ v e. subst (λ z. (z.number ≤ u.number + w.sent) × (z.durable.next_session ≤ u.durable.next_session + w.sent)) (some-same u v (sym is ∙ e)) (omega arith, omega arith))).1

no-fewer : (o : Moving) (n : ℕ) {most : ℕ} → (deliver runs n o.world).fault ≡ None → (onward o (deliver runs n o.world)).world.sent ≤ most → o.world.sent ≤ most
no-fewer o n ok bound = omega (arith, sent-rises o.world n, same-sent, bound)
  where
    same-sent : (onward o (deliver runs n o.world)).world.sent ≡ (deliver runs n o.world).world.sent
    same-sent = ap (λ f. (elim f as (λ z. Moving) [ Some e ↦ record o { fault = Some e } | None ↦ record { world = (deliver runs n o.world).world; shown = o.shown ++ (deliver runs n o.world).shown; fault = None } ]).world.sent) ok

-- Where deliveries have come to, with what holds of each line on the way.
pub record StaysAlong (P : List Shown → Shown → Type 0) (v : Images) (j : Work) (m r : Moving) : Type 0 where
  pub scene : Scene
  pub phase : Phase
  pub stands : IsScene r.world scene
  pub comes : InPhase j scene phase
  pub behind : IsBehind v j scene
  pub lines : List Shown
  pub shown : r.world.shown ≡ m.world.shown ++ lines
  pub piece : r.shown ≡ m.shown ++ lines
  pub along : Along P m.world.shown lines

-- Who takes a message has what it needs, and P holds of the lines of each delivery.
abbrev pub Takes : Images → Work → ℕ → Moving → Type 0
Takes v j most m = (r : Moving) (sc : Scene) (p : Phase) (x : ℕ × Msg) (rest : Mail) → Reaches m r → r.world.sent ≤ most → IsScene r.world sc → InPhase j sc p → sc.mail ≡ x ∷ rest → HasNext x.1 sc.server → CanTake j sc p x × MaySee v j sc p

abbrev pub Shows : (List Shown → Shown → Type 0) → Images → Work → ℕ → Moving → Type 0
Shows P v j most m = (r : Moving) (sc : Scene) (p : Phase) (n : ℕ) → Reaches m r → r.world.sent ≤ most → IsScene r.world sc → InPhase j sc p → IsBehind v j sc → due r.world ≡ Some n → Each (P r.world.shown) (deliver runs n r.world).shown

module _ (P : List Shown → Shown → Type 0) (other : (past : List Shown) (l : Shown) → IsOther l → P past l) (v : Images) (j : Work) (most : ℕ) (m : Moving) (takes : Takes v j most m) (shows : Shows P v j most m) where
  -- One more delivery.
  module _ (r : Moving) (way : Reaches m r) (bound : r.world.sent ≤ most) (q : StaysAlong P v j m r) (n : ℕ) (next : due r.world ≡ Some n) (ok : (deliver runs n r.world).fault ≡ None) where
    abbrev d : Moving
    d = deliver runs n r.world

    abbrev then : Moving
    then = record { world = d.world; shown = r.shown ++ d.shown; fault = None }

    onward-is : onward r d ≡ then
    onward-is = ap (λ o. elim o as (λ z. Moving) [ Some f ↦ record r { fault = Some f } | None ↦ then ]) ok

    here-along : Along P r.world.shown d.shown
    here-along = step-along P other r.world.shown d.shown (shows r q.scene q.phase n way bound q.stands q.comes q.behind next) (delivery-step r.world n).alone

    joined : (scene : Scene) (phase : Phase) → IsScene d.world scene → InPhase j scene phase → IsBehind v j scene → StaysAlong P v j m then
    joined scene phase stands comes behind = record {
      scene = scene;
      phase = phase;
      stands = stands;
      comes = comes;
      behind = behind;
      lines = q.lines ++ d.shown;
      shown = (delivery-step r.world n).adds ∙ ap (λ l. l ++ d.shown) q.shown ∙ append_assoc m.world.shown q.lines d.shown;
      piece = ap (λ l. l ++ d.shown) q.piece ∙ append_assoc m.shown q.lines d.shown;
      along = both-along P m.world.shown q.lines d.shown q.along (subst (λ l. Along P l d.shown) q.shown here-along);
    }

    goes : (ms : Mail) → q.scene.mail ≡ ms → StaysAlong P v j m then
    goes [] e = absurd (none (sym (none-due r.world q.scene q.stands e) ∙ next))
      where
        none : ◌≡◌ {A = Option ℕ} None (Some n) → ⊥
        none e = cc
    goes (x ∷ rest) e =
        let can = takes r q.scene q.phase x rest way bound q.stands q.comes e (deliveries-have-next j r.world q.scene q.phase x rest n q.stands q.comes e next ok) in
        let led = deliveries-lead-on j q.scene q.phase x rest q.comes can.0 e in
        let n-is : delivering.n r.world q.scene q.stands x.0 x.1 rest e ≡ n = same-number (delivering.n r.world q.scene q.stands x.0 x.1 rest e) (sym (due-is r.world q.scene q.stands x.0 x.1 rest e) ∙ next) in
        joined (delivered x.0 x.1 rest q.scene) led.0
        (subst (λ i. (deliver runs i r.world).fault ≡ None → IsScene (deliver runs i r.world).world (delivered x.0 x.1 rest q.scene)) n-is (scene-then r.world q.scene q.stands x.0 x.1 rest e) ok)
        led.1 (stays-behind v j q.scene x rest e q.behind q.phase q.comes can.0 can.1)
      where
        same-number : (i : ℕ) → ◌≡◌ {A = Option ℕ} (Some i) (Some n) → i ≡ n
        same-number i e = cc

    stays-on : StaysAlong P v j m (onward r d)
    stays-on = subst (StaysAlong P v j m) (sym onward-is) (goes q.scene.mail refl)

  module _ (sc : Scene) (p : Phase) (stands : IsScene m.world sc) (ip : InPhase j sc p) (fine : IsBehind v j sc) where
    pub stays : (r : Moving) → Reaches m r → r.world.sent ≤ most → StaysAlong P v j m r
    stays r here bound = record {
      scene = sc;
      phase = p;
      stands = stands;
      comes = ip;
      behind = fine;
      lines = [];
      shown = sym (append-nil m.world.shown);
      piece = sym (append-nil m.shown);
      along = tt;
    }
    stays r (on o n way next ok) bound = let less : o.world.sent ≤ most = no-fewer o n ok bound in stays-on o way less (stays o way less) n next ok

pub lines-settle : (base : Base) (v : Images) (j : Work) (most : ℕ) (m : Moving) (sc : Scene) (p : Phase) → WorldIsKnown base v j most m → IsScene m.world sc → InPhase j sc p → IsBehind v j sc → (r : Moving) → Reaches m r → r.world.sent ≤ most → StaysWithin base v j m r
lines-settle base v j most m sc p known stands ip fine r way bound =
    let q = stays (IsWithin base v j) (other-within base v j) v j most m (λ r sc p x rest reached le i ip head next. known.takes r sc p x rest reached le i ip head) shows sc p stands ip fine r way bound in
    record {
      scene = q.scene;
      phase = q.phase;
      stands = q.stands;
      comes = q.comes;
      behind = q.behind;
      lines = q.lines;
      shown = q.shown;
      piece = q.piece;
      within = along-within base v j m.world.shown q.lines q.along;
    }
  where
    shows : Shows (IsWithin base v j) v j most m
    shows r sc p n way bound stands comes behind next =
        let s = known.stands r way bound in
        each-turn (IsWithin (base_of s.0) v j r.world.shown) (IsWithin base v j r.world.shown) (rebased base s.0 r.world.shown s.3 v j) (deliver runs n r.world).shown
        (lines-within r.world s.0 sc s.1 s.2 stands v j p comes behind n next)
