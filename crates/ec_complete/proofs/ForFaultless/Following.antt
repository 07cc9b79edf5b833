-- A line is followed through all worlds that deliveries reach.
use Rattle.std.proofs.Common.{◌≡◌, refl, sym, ap, ◌∙◌, subst, arith, ◌≤◌, ◌+◌, ℕ, T, not, [], ◌∷◌, append-nil}
use Rattle.std.specs.Prelude.{Option, None, Some}
use Rattle.ec_base.specs.Tables.{at}
use Rattle.ec_volume.specs.Image.{is_gone}
use Rattle.ec_volume.specs.Volume.{Images, WellFormed}
use Rattle.ec_history.specs.History.{Throughout}
use Rattle.ec_history.specs.Placing.{place}
use Rattle.ec_wire.specs.declared.msg.Msg.{Msg}
use Rattle.ec_history.specs.OfLaws.NewIds.{IsNewId}
use Rattle.ec_lawful.proofs.News.{ids-new}
use Rattle.ec_protocol.specs.Drill.{onward}
use Rattle.ec_protocol.specs.World.{Moving, deliver, due, runs}
use Rattle.ec_protocol.specs.declared.clerk.Clerk.{Clerk}
use Rattle.ec_protocol.specs.declared.script.Line.{Line}
use Rattle.ec_protocol.specs.declared.server.Server.{Server}
use Rattle.ec_protocol.specs.declared.world.World.{World}
use Rattle.ec_coherence.specs.System.{System, base_of}
use Rattle.ec_quiet.specs.Phases.{InPhase, Phase}
use Rattle.ec_quiet.specs.Scenes.{IsScene, Mail, Scene, delivered}
use Rattle.ec_quiet.specs.Works.{HasTask, Work}
use Rattle.ec_quiet.proofs.Delivering as delivering
use Rattle.ec_quiet.proofs.Settled.{behind, onward-is}
use Rattle.ec_quiet.specs.SettlingScenes.{Reaches, here, on}
use Rattle.ec_lawful.specs.Headline.{placed_on}
use Rattle.ec_machine_laws.proofs.Sent.{deliveries-count}
use Rattle.ec_complete.specs.OfAgreedLines.Counting as counting
use Rattle.ec_complete.proofs.OfAgreedLines.Worlds as clerks
use Rattle.ec_complete.specs.Lines.{IsSpare}
use Rattle.ec_complete.proofs.ForLines.Taking.{can-take-next}
use Rattle.ec_complete.proofs.ForLines.Delivering.{lines-leave-kept}
use Rattle.ec_complete.specs.Spare.{IsBelow, max_calls}
use Rattle.ec_complete.proofs.ForLines.Below.{counters-spare}
use Rattle.ec_complete.proofs.ForLines.Given.{ids-stay-given}
use Rattle.ec_quiet.specs.OfDeliveries.Coming.{HasNext}
use Rattle.ec_quiet.specs.OfDeliveries.Leading.{CanTake}
use Rattle.ec_quiet.proofs.OfDeliveries.Led.{deliveries-lead-on}
use Rattle.ec_quiet.proofs.OfDeliveries.Spending.{deliveries-have-next}
use Rattle.ec_complete.specs.Begins.{most_sent}
use Rattle.ec_complete.specs.Worlds.{IsCounted, LineIsKnown, Outset}
use Rattle.ec_quiet.specs.OfDeliveries.PhasesBehind.{IsBehind, MaySee}
use Rattle.ec_complete.specs.OfAgreedLines.Placed.{IsFollowed, WorksOn, WritesBehind}
use Rattle.ec_complete.proofs.OfAgreedLines.Followed.{writes-behind}
use Rattle.ec_complete.specs.Following.{IsKnownOf}
use Rattle.ec_complete.proofs.ForFaultless.Seeing.{worked-lines-see}
use Rattle.ec_complete.proofs.ForFaultless.Staying.{still-worked}
use Rattle.ec_complete.proofs.ForFaultless.Works.{at-work}

-- A world has one scene.
pub same-scene : (w : World) (a b : Scene) → IsScene w a → IsScene w b → a ≡ b
same-scene w a b i k = (λ z. record { server = servers z; clerks = (sym i.clerks ∙ k.clerks) z; mail = (sym i.mail ∙ k.mail) z })
  where
    some : (x y : Server) → ◌≡◌ {A = Option Server} (Some x) (Some y) → x ≡ y
    some x y e = cc

    servers : a.server ≡ b.server
    servers = some a.server b.server (sym i.server ∙ k.server)

module _ (outset : Outset) (l : Line) (origin v : Images) (j : Work) (calls : ℕ) (few-calls : calls ≤ max_calls) where
  below : (w : World) (sc : Scene) → IsScene w sc → IsCounted outset calls w sc → w.sent ≤ most_sent → IsBelow 0 outset.session outset.first calls w sc
  below w sc i counted sent = record { server = counted.server; clerks = counted.clerks; ids = counted.ids; few = few-calls; numbers = omega (arith, sent) }

  spare : (r : Moving) (known : LineIsKnown outset j calls r) → r.world.sent ≤ most_sent → IsSpare j known.scene
  spare r known le = counters-spare 0 outset.session outset.first calls j r.world known.scene known.system known.phase (below r.world known.scene known.stands known.counted le) known.facts known.stands known.comes

  takes : (r : Moving) (known : LineIsKnown outset j calls r) → r.world.sent ≤ most_sent → (p : Phase) (t : ℕ × Msg) (rest : Mail) → InPhase j known.scene p → known.scene.mail ≡ t ∷ rest → HasNext t.1 known.scene.server → CanTake j known.scene p t
  takes r known le p t rest q head next = can-take-next j r.world known.scene known.system p t rest known.facts (spare r known le) known.stands q head next

  -- one delivery
  module _ (r : Moving) (q : IsKnownOf outset l origin v j calls r) (n : ℕ) (le : r.world.sent ≤ most_sent) (is-due : due r.world ≡ Some n) (fine : (deliver runs n r.world).fault ≡ None) where
    abbrev known : LineIsKnown outset j calls r
    known = q.known

    abbrev sc : Scene
    sc = known.scene

    module _ (t : ℕ × Msg) (rest : Mail) (head : sc.mail ≡ t ∷ rest) where
      same : delivering.n r.world sc known.stands t.0 t.1 rest head ≡ n
      same = some (delivering.n r.world sc known.stands t.0 t.1 rest head) n (sym (delivering.due-is r.world sc known.stands t.0 t.1 rest head) ∙ is-due)
        where
          some : (a b : ℕ) → ◌≡◌ {A = Option ℕ} (Some a) (Some b) → a ≡ b
          some a b e = cc

      stands : IsScene (deliver runs n r.world).world (delivered t.0 t.1 rest sc)
      stands = subst (λ z. IsScene (deliver runs z r.world).world (delivered t.0 t.1 rest sc)) same (delivering.scene-then r.world sc known.stands t.0 t.1 rest head (subst (λ z. (deliver runs z r.world).fault ≡ None) (sym same) fine))

      then : IsKnownOf outset l origin v j calls (behind r n fine)
      then =
          let led = deliveries-lead-on j sc known.phase t rest known.comes (takes r known le known.phase t rest known.comes head (deliveries-have-next j r.world sc known.phase t rest n known.stands known.comes head is-due fine)) head in
          let s = spare r known le in
          let kept = lines-leave-kept j r.world sc known.system known.phase led.0 t rest n known.facts s known.stands known.comes head is-due fine led.1 in
          record {
            known = record {
              scene = delivered t.0 t.1 rest sc;
              stands = stands;
              phase = led.0;
              comes = led.1;
              system = kept.0;
              facts = kept.1;
              counted = record {
                server = (deliveries-count 0 outset.session r.world n known.counted.server).0;
                clerks = clerks.deliveries-count calls r.world n known.counted.clerks;
                ids = ids-stay-given outset.first j r.world sc known.system known.phase led.0 t rest n known.facts s known.stands known.comes head is-due fine led.1 known.counted.ids;
              };
            };
            worked = still-worked l origin v j sc known.system kept.0 t.0 t.1 rest q.worked kept.2;
          }

    goes-on : (ms : Mail) → sc.mail ≡ ms → IsKnownOf outset l origin v j calls (behind r n fine)
    goes-on (t ∷ rest) head = then t rest head
    goes-on [] head = absurd (bad (sym (delivering.none-due r.world sc known.stands head) ∙ is-due))
      where
        bad : ◌≡◌ {A = Option ℕ} None (Some n) → ⊥
        bad e = grind (arith, e)

    pub onward-known : IsKnownOf outset l origin v j calls (onward r (deliver runs n r.world))
    onward-known = subst (IsKnownOf outset l origin v j calls) (sym (onward-is r n fine)) (goes-on sc.mail refl)

  -- messages aren't taken back
  at-most : (r : Moving) (n : ℕ) → (deliver runs n r.world).fault ≡ None → r.world.sent ≤ (deliver runs n r.world).world.sent → (onward r (deliver runs n r.world)).world.sent ≤ most_sent → r.world.sent ≤ most_sent
  at-most r n f more l = let same = ap (λ (x : Moving). x.world.sent) (onward-is r n f) in omega (arith, more, l, same)

  pub stays : (m r : Moving) → IsKnownOf outset l origin v j calls m → Reaches m r → r.world.sent ≤ most_sent → IsKnownOf outset l origin v j calls r
  stays m r q here le = q
  stays m _ q (on r n reached is-due fine) le =
      let less : r.world.sent ≤ most_sent = at-most r n fine (sent-more r n) le in
      onward-known r (stays m r q reached less) n less is-due fine
    where
      sent-more : (r : Moving) (n : ℕ) → r.world.sent ≤ (deliver runs n r.world).world.sent
      sent-more r n = go r.world.server refl
        where
          none-some : (u : Server) → ◌≡◌ {A = Option Server} None (Some u) → ⊥
          none-some u e = grind (arith, e)

          some : (x y : Server) → ◌≡◌ {A = Option Server} (Some x) (Some y) → x ≡ y
          some x y e = cc

          go : (o : Option Server) → r.world.server ≡ o → r.world.sent ≤ (deliver runs n r.world).world.sent
          go None e = (deliveries-count 0 0 r.world n (λ u f. absurd (none-some u (sym e ∙ f)))).1
          go (Some x) e =
              (deliveries-count x.number x.durable.next_session r.world n (λ u f. (omega (arith, ap (λ (z : Server). z.number) (some x u (sym e ∙ f))), omega (arith, ap (λ (z : Server). z.durable.next_session) (some x u (sym e ∙ f)))))).1

  module _ (m : Moving) (q : IsKnownOf outset l origin v j calls m) where
    works : (r : Moving) (k : IsKnownOf outset l origin v j calls r) → WorksOn l v j k.known.system r
    works r k c there task = k.worked.works c (ap (at j.clerk) (sym k.known.stands.clerks) ∙ there) (at-work j.task c task)

    pub followed : IsFollowed l origin v j most_sent m
    followed = record {
      stands = λ r reached le.
          (let k = stays m r q reached le in
          let g : System = k.known.system in (
            g,
            (k.known.facts.whole.all).0,
            k.known.facts.stands,
            k.worked.origin_is,
            subst (λ ss. Throughout (IsNewId g.origin (base_of g).fresh) [] (place ss)) (sym k.known.facts.stands.shown) (ids-new g k.known.facts.whole.shows.fresh g.ghost.shown [] (append-nil g.ghost.shown)),
            works r k,
          ));
      takes = λ r sc p x rest reached le i ip head next.
          (let k = stays m r q reached le in
          let same = same-scene r.world sc k.known.scene i k.known.stands in
          let here : InPhase j k.known.scene p = subst (λ z. InPhase j z p) same ip in (
            subst (λ z. CanTake j z p x) (sym same) (takes r k.known le p x rest here (ap (λ (z : Scene). z.mail) (sym same) ∙ head) (subst (λ (z : Scene). HasNext x.1 z.server) same next)),
            subst (λ z. MaySee v j z p) (sym same) (worked-lines-see l origin v j r.world k.known.scene k.known.system p k.known.facts k.worked k.known.stands here),
          ));
    }

    pub writes : (top : ℕ) → WellFormed origin → ((x : ℕ) → T (not (is_gone (origin x))) → x ≤ top) → IsBehind v j q.known.scene → (r : Moving) → Reaches m r → r.world.sent ≤ most_sent → WritesBehind (placed_on origin top) l m r
    writes top formed bound fine r reached le = writes-behind l origin top v j most_sent m formed bound followed q.known.scene q.known.phase q.known.stands q.known.comes fine r reached le
