-- All facts hold in each world that a line reaches, and so it can settle.
use Rattle.std.proofs.Common.{◌≡◌, refl, sym, ap, ◌∙◌, subst, arith, ◌≤◌, ℕ, [], ◌∷◌}
use Rattle.std.specs.Prelude.{Option, None, Some}
use Rattle.ec_wire.specs.declared.msg.Msg.{Msg}
use Rattle.ec_protocol.specs.Drill.{onward}
use Rattle.ec_protocol.specs.World.{Moving, deliver, due, runs}
use Rattle.ec_protocol.specs.declared.server.Server.{Server}
use Rattle.ec_protocol.specs.declared.world.World.{World}
use Rattle.ec_quiet.specs.Phases.{InPhase, Phase}
use Rattle.ec_quiet.specs.Scenes.{IsScene, Mail, Scene, delivered}
use Rattle.ec_quiet.specs.Works.{Work}
use Rattle.ec_quiet.proofs.Delivering as delivering
use Rattle.ec_quiet.proofs.Settled.{behind, onward-is}
use Rattle.ec_quiet.specs.SettlingScenes.{Reaches, here, on}
use Rattle.ec_machine_laws.specs.Counts.{DeliveriesCount}
use Rattle.ec_complete.specs.OfAgreedLines.Counting.{DeliveriesCountClerks}
use Rattle.ec_complete.specs.Lines.{CanTakeNext, IsOnLine, IsSpare}
use Rattle.ec_complete.specs.Staying.{LinesStayOn}
use Rattle.ec_complete.specs.Spare.{CountersAreSpare, IdsStayGiven, NextIsSpare, max_calls}
use Rattle.ec_quiet.specs.OfDeliveries.Coming.{HasNext}
use Rattle.ec_quiet.specs.OfDeliveries.Leading.{CanTake}
use Rattle.ec_quiet.proofs.OfDeliveries.Led.{deliveries-lead-on}
use Rattle.ec_quiet.proofs.OfDeliveries.Spending.{deliveries-have-next}
use Rattle.ec_quiet.specs.OfDeliveries.Runs.{CanGoOn, CanSettle}
use Rattle.ec_complete.specs.Begins.{most_sent}
use Rattle.ec_complete.specs.Worlds.{IsCounted, IsEarly, LineIsKnown, LinesCanGoOn, LinesCanSettle, LinesStayKnown, Outset}
use Rattle.ec_complete.proofs.ForFaultless.Spare as spares
use Rattle.ec_complete.proofs.ForFaultless.Following.{same-scene}

module _ (can-next : CanTakeNext) (stay-on : LinesStayOn) (are-spare : CountersAreSpare) (stay-given : IdsStayGiven) (count-server : DeliveriesCount) (count-clerks : DeliveriesCountClerks)
    (outset : Outset) (j : Work) (calls : ℕ) (few-calls : calls ≤ max_calls) where
  spare : (r : Moving) (known : LineIsKnown outset j calls r) → r.world.sent ≤ most_sent → (p : Phase) → InPhase j known.scene p → IsSpare j known.scene
  spare r known le p q = are-spare 0 outset.session outset.first calls j r.world known.scene known.system p (spares.below outset calls r.world known.scene known.stands known.counted few-calls le) known.facts known.stands q

  takes : (r : Moving) (known : LineIsKnown outset j calls r) → r.world.sent ≤ most_sent → (p : Phase) (t : ℕ × Msg) (rest : Mail) → InPhase j known.scene p → known.scene.mail ≡ t ∷ rest → HasNext t.1 known.scene.server → CanTake j known.scene p t
  takes r known le p t rest q head next = can-next j r.world known.scene known.system p t rest known.facts (spare r known le p q) known.stands q head next

  -- one delivery
  module _ (r : Moving) (known : LineIsKnown outset j calls r) (n : ℕ) (le : r.world.sent ≤ most_sent) (is-due : due r.world ≡ Some n) (fine : (deliver runs n r.world).fault ≡ None) where
    abbrev sc : Scene
    sc = known.scene

    module _ (t : ℕ × Msg) (rest : Mail) (head : sc.mail ≡ t ∷ rest) where
      same : delivering.n r.world sc known.stands t.0 t.1 rest head ≡ n
      same = some (delivering.n r.world sc known.stands t.0 t.1 rest head) n (sym (delivering.due-is r.world sc known.stands t.0 t.1 rest head) ∙ is-due)
        where
          some : (a b : ℕ) → ◌≡◌ {A = Option ℕ} (Some a) (Some b) → a ≡ b
          some a b e = cc

      stands : IsScene (deliver runs n r.world).world (delivered t.0 t.1 rest sc)
      stands = subst (λ z. IsScene (deliver runs z r.world).world (delivered t.0 t.1 rest sc)) same (delivering.scene-then r.world sc known.stands t.0 t.1 rest head (subst (λ z. (deliver runs z r.world).fault ≡ None) (sym same) fine))

      then : LineIsKnown outset j calls (behind r n fine)
      then =
          let led = deliveries-lead-on j sc known.phase t rest known.comes (takes r known le known.phase t rest known.comes head (deliveries-have-next j r.world sc known.phase t rest n known.stands known.comes head is-due fine)) head in
          let s = spare r known le known.phase known.comes in
          let kept = stay-on j r.world sc known.system known.phase led.0 t rest n known.facts s known.stands known.comes head is-due fine led.1 in
          record {
            scene = delivered t.0 t.1 rest sc;
            stands = stands;
            phase = led.0;
            comes = led.1;
            system = kept.0;
            facts = kept.1;
            counted = record {
              server = (count-server 0 outset.session r.world n known.counted.server).0;
              clerks = count-clerks calls r.world n known.counted.clerks;
              ids = stay-given outset.first j r.world sc known.system known.phase led.0 t rest n known.facts s known.stands known.comes head is-due fine led.1 known.counted.ids;
            };
          }

    goes-on : (ms : Mail) → sc.mail ≡ ms → LineIsKnown outset j calls (behind r n fine)
    goes-on (t ∷ rest) head = then t rest head
    goes-on [] head = absurd (bad (sym (delivering.none-due r.world sc known.stands head) ∙ is-due))
      where
        bad : ◌≡◌ {A = Option ℕ} None (Some n) → ⊥
        bad e = grind (arith, e)

    pub onward-known : LineIsKnown outset j calls (onward r (deliver runs n r.world))
    onward-known = subst (LineIsKnown outset j calls) (sym (onward-is r n fine)) (goes-on sc.mail refl)

  -- messages aren't taken back
  more : (w : World) (n : ℕ) → w.sent ≤ (deliver runs n w).world.sent
  more w n = go w.server refl
    where
      none-some : (v : Server) → ◌≡◌ {A = Option Server} None (Some v) → ⊥
      none-some v e = grind (arith, e)

      some : (x y : Server) → ◌≡◌ {A = Option Server} (Some x) (Some y) → x ≡ y
      some x y e = cc

      go : (o : Option Server) → w.server ≡ o → w.sent ≤ (deliver runs n w).world.sent
      go None e = (count-server 0 0 w n (λ v f. absurd (none-some v (sym e ∙ f)))).1
      go (Some u) e = (count-server u.number u.durable.next_session w n (λ v f. (omega (arith, ap (λ (x : Server). x.number) (some u v (sym e ∙ f))), omega (arith, ap (λ (x : Server). x.durable.next_session) (some u v (sym e ∙ f)))))).1

  stays : (m r : Moving) → LineIsKnown outset j calls m → Reaches m r → r.world.sent ≤ most_sent → LineIsKnown outset j calls r
  stays m r known here le = known
  stays m _ known (on r n reached is-due fine) le =
      let less : r.world.sent ≤ most_sent = at-most r n fine (more r.world n) le in
      onward-known r (stays m r known reached less) n less is-due fine
    where
      at-most : (r : Moving) (n : ℕ) → (deliver runs n r.world).fault ≡ None → r.world.sent ≤ (deliver runs n r.world).world.sent → (onward r (deliver runs n r.world)).world.sent ≤ most_sent → r.world.sent ≤ most_sent
      at-most r n f more l = let same = ap (λ (x : Moving). x.world.sent) (onward-is r n f) in omega (arith, more, l, same)

  can-go-on : (m : Moving) → LineIsKnown outset j calls m → CanGoOn j m most_sent
  can-go-on m known = record {
    takes = λ r sc p t rest reached le i q head next.
        (let here-known = stays m r known reached le in
        let same = same-scene r.world sc here-known.scene i here-known.stands in
        subst (λ z. CanTake j z p t) (sym same) (takes r here-known le p t rest (subst (λ z. InPhase j z p) same q) (ap (λ (z : Scene). z.mail) (sym same) ∙ head) (subst (λ (z : Scene). HasNext t.1 z.server) same next)));
  }

  can-settle : NextIsSpare → IsEarly outset → (m : Moving) → LineIsKnown outset j calls m → CanSettle j m most_sent
  can-settle next-spare early m known = record {
    takes = λ r sc p t rest reached le i q head.
        (let here-known = stays m r known reached le in
        let same = same-scene r.world sc here-known.scene i here-known.stands in
        (can-go-on m known).takes r sc p t rest reached le i q head (subst (λ (z : Scene). HasNext t.1 z.server) (sym same) (next r here-known le t.1)));
    far = λ r sc reached le i.
        (let here-known = stays m r known reached le in
        let same = same-scene r.world sc here-known.scene i here-known.stands in
        spares.far outset calls r.world sc i (subst (IsCounted outset calls r.world) (sym same) here-known.counted) few-calls le);
  }
    where
      next : (r : Moving) (known : LineIsKnown outset j calls r) → r.world.sent ≤ most_sent → (x : Msg) → HasNext x known.scene.server
      next r known le x = next-spare 0 outset.session outset.first calls j r.world known.scene known.system known.phase (spares.below outset calls r.world known.scene known.stands known.counted few-calls le)
          (spares.far-below outset calls r.world known.scene known.stands known.counted few-calls le early) known.facts known.stands known.comes x

pub all-stay : CanTakeNext → LinesStayOn → CountersAreSpare → IdsStayGiven → DeliveriesCount → DeliveriesCountClerks → LinesStayKnown
all-stay can-next stay-on are-spare stay-given count-server count-clerks outset j calls m r known few reached le = stays can-next stay-on are-spare stay-given count-server count-clerks outset j calls few m r known reached le

pub all-settle : CanTakeNext → LinesStayOn → CountersAreSpare → NextIsSpare → IdsStayGiven → DeliveriesCount → DeliveriesCountClerks → LinesCanSettle
all-settle can-next stay-on are-spare next-spare stay-given count-server count-clerks outset j calls m known few early = can-settle can-next stay-on are-spare stay-given count-server count-clerks outset j calls few next-spare early m known

pub all-go-on : CanTakeNext → LinesStayOn → CountersAreSpare → IdsStayGiven → DeliveriesCount → DeliveriesCountClerks → LinesCanGoOn
all-go-on can-next stay-on are-spare stay-given count-server count-clerks outset j calls m known few = can-go-on can-next stay-on are-spare stay-given count-server count-clerks outset j calls few m known
