-- A line refuses no call: in each world that deliveries reach, in a script for which there is room.
use Rattle.std.proofs.Common.{◌≡◌, refl, sym, ap, ◌∙◌, subst, arith, ◌≤◌, ℕ, true, false, List, [], ◌∷◌}
use Rattle.std.specs.Prelude.{Option, None, Some}
use Rattle.ec_base.specs.Tables.{at}
use Rattle.ec_history.specs.History.{Each}
use Rattle.ec_volume.specs.Volume.{Images}
use Rattle.ec_wire.specs.declared.msg.Msg.{Msg}
use Rattle.ec_wire.specs.declared.msg.Msg.TheVariants as msg
use Rattle.ec_durable.specs.Durable.{is_full}
use Rattle.ec_protocol.specs.Clerk as clerk
use Rattle.ec_protocol.specs.Drill.{onward}
use Rattle.ec_protocol.specs.World.{Moving, deliver, due, runs}
use Rattle.ec_protocol.specs.World as world
use Rattle.ec_protocol.specs.declared.clerk.Clerk.{Clerk}
use Rattle.ec_protocol.specs.declared.server.Server.{Server}
use Rattle.ec_protocol.specs.declared.world.Sent.{Sent}
use Rattle.ec_protocol.specs.declared.world.World.{World}
use Rattle.ec_coherence.proofs.ForServer.Tables.{same_some}
use Rattle.ec_lawful.specs.Steps.{HoldsIn}
use Rattle.ec_lawful.proofs.Events.{deliver-holds}
use Rattle.ec_lawful.specs.Runs.{OfRun}
use Rattle.ec_lawful.proofs.Runs.{keep}
use Rattle.ec_lawful.proofs.Clerks.{clerks-keep-all}
use Rattle.ec_quiet.specs.Phases.{InPhase, Phase, Asks, Gives, messages_in}
use Rattle.ec_quiet.specs.Scenes.{IsScene, Mail, Scene, delivered, is_for_server}
use Rattle.ec_quiet.specs.Works.{Work}
use Rattle.ec_quiet.proofs.Delivering as delivering
use Rattle.ec_quiet.proofs.Settled.{behind, onward-is}
use Rattle.ec_quiet.specs.SettlingScenes.{Reaches, here, on}
use Rattle.ec_complete.proofs.OfAgreedLines.Seen.{scenes-seen}
use Rattle.ec_machine_laws.proofs.Sent.{deliveries-count}
use Rattle.ec_complete.proofs.OfAgreedLines.Worlds as clerks
use Rattle.ec_complete.proofs.ForLines.Taking.{can-take-next}
use Rattle.ec_complete.proofs.ForLines.Delivering.{lines-stay-on}
use Rattle.ec_complete.specs.Spare.{max_calls}
use Rattle.ec_complete.proofs.ForLines.Below.{counters-spare}
use Rattle.ec_complete.proofs.ForLines.Given.{ids-stay-given}
use Rattle.ec_complete.specs.Begins.{most_sent}
use Rattle.ec_complete.specs.Worlds.{LineIsKnown, LinesStayKnown, new_outset}
use Rattle.ec_complete.proofs.ForFaultless.Settling.{all-stay}
use Rattle.ec_complete.specs.Rooms.{ComesWell, GrantsRoom, HasRoomIn, IsWellAsked}
use Rattle.ec_complete.specs.ScriptRooms.{HasStock, IsRoomFor, KeepsRoom, LinesKeepRoom}
use Rattle.ec_complete.proofs.Full.{askings-find-room}
use Rattle.ec_complete.proofs.Heads.{AreAsked, AreGiven, first-clerk, ids-given, is_ids, room-asked}
use Rattle.ec_complete.proofs.Showing.{both}
use Rattle.ec_complete.proofs.Showing as showing
use Rattle.ec_complete.proofs.Stocks.{outs-room, stock-then}
use Rattle.ec_base.proofs.Options.{none_some}
use Rattle.ec_quiet.proofs.OfDeliveries.Spending.{is_room}

-- A world has one scene.
pub same-scene : (w : World) (a b : Scene) → IsScene w a → IsScene w b → a ≡ b
same-scene w a b i k = (λ z. record { server = servers z; clerks = (sym i.clerks ∙ k.clerks) z; mail = (sym i.mail ∙ k.mail) z })
  where
    servers : a.server ≡ b.server
    servers = same_some (sym i.server ∙ k.server)

stay-known : LinesStayKnown
stay-known = all-stay can-take-next lines-stay-on counters-spare ids-stay-given deliveries-count clerks.deliveries-count

-- messages aren't taken back
more-sent : (w : World) (n : ℕ) → w.sent ≤ (deliver runs n w).world.sent
more-sent w n = go w.server refl
  where
    go : (o : Option Server) → w.server ≡ o → w.sent ≤ (deliver runs n w).world.sent
    go None e = (deliveries-count 0 0 w n (λ v f. absurd (none_some (sym e ∙ f)))).1
    go (Some u) e =
        (deliveries-count u.number u.durable.next_session w n (λ v f. (omega (arith, ap (λ (x : Server). x.number) (same_some (sym e ∙ f))), omega (arith, ap (λ (x : Server). x.durable.next_session) (same_some (sym e ∙ f)))))).1

well-asked : (m : Msg) (v : Server) → (is_room m ≡ true → is_full v.durable ≡ false) → IsWellAsked m v
well-asked (msg.Room s e got ask) v f = f refl
well-asked _ v f = tt

comes-well : (m : Msg) (k : Clerk) → GrantsRoom m → (is_ids m ≡ true → k.ids ≡ []) → ComesWell m k
comes-well (msg.Ids s e got n first) k g f = f refl
comes-well (msg.NoRoom s e ask live reserved) k g f = absurd g
comes-well (msg.Hello i x) k g f = g
comes-well (msg.Want s e x m n) k g f = g
comes-well (msg.Back s e x n m) k g f = g
comes-well (msg.Flush s e b ops) k g f = g
comes-well (msg.Room s e got ask) k g f = g
comes-well (msg.Claim s e l) k g f = g
comes-well (msg.Bye s e) k g f = g
comes-well (msg.Opened age s e) k g f = g
comes-well (msg.Grant s e x n m i) k g f = g
comes-well (msg.Recall s e x n to) k g f = g
comes-well (msg.Kept s e b) k g f = g
comes-well (msg.Ended s low mask) k g f = g
comes-well (msg.Restarted s e) k g f = g
comes-well (msg.OldBoot asked greatest) k g f = g

module _ (v : Images) (most : ℕ) (names callers : List ℕ) (makes : ℕ → ℕ) (j : Work) (calls : ℕ) (few : calls ≤ max_calls) (room : IsRoomFor names makes most) where
  abbrev G : World → Type 0
  G w = HoldsIn (OfRun v most) w

  -- one delivery
  module _ (r : Moving) (known : LineIsKnown new_outset j calls r) (holds : G r.world) (kept : KeepsRoom names callers makes r) (n : ℕ) (is-due : due r.world ≡ Some n) (fine : (deliver runs n r.world).fault ≡ None) where
    abbrev sc : Scene
    sc = known.scene

    stock : HasStock names callers makes sc
    stock = subst (HasStock names callers makes) (same-scene r.world kept.scene known.scene kept.stands known.stands) kept.stock

    limit : sc.server.durable.max_objects ≡ most
    limit = go holds
      where
        go : G r.world → sc.server.durable.max_objects ≡ most
        go (g, f, st) = ap (λ d. d.max_objects) (sym (scenes-seen r.world g sc st known.stands).durable) ∙ f.most_is

    not-full : (p : Phase) → InPhase j sc p → AreAsked p → is_full sc.server.durable ≡ false
    not-full (Asks again got ask) ip a = askings-find-room names callers makes j sc again got ask ip stock known.facts.order known.counted.ids (subst (IsRoomFor names makes) (sym limit) room)
    not-full _ ip a = absurd a

    none-left : (p : Phase) → InPhase j sc p → AreGiven p → (c : ℕ) → c ≡ first-clerk 0 (messages_in j sc sc.server.durable.epoch p) → (k : Clerk) → at c sc.clerks ≡ Some k → k.ids ≡ []
    none-left (Gives got n first) ip a c e k there =
        let f = ip.facts.3 in
        ap (λ (z : Clerk). z.ids) (same_some (sym there ∙ ap (λ d. at d sc.clerks) e ∙ f.working.there)) ∙ f.ids
    none-left _ ip a c e k there = absurd a

    module _ (t : ℕ × Msg) (rest : Mail) (head : sc.mail ≡ t ∷ rest) where
      same : delivering.n r.world sc known.stands t.0 t.1 rest head ≡ n
      same = same_some (sym (delivering.due-is r.world sc known.stands t.0 t.1 rest head) ∙ is-due)

      asked : IsWellAsked t.1 sc.server
      asked = well-asked t.1 sc.server (λ q. not-full known.phase known.comes (room-asked j sc known.phase known.comes t rest head q))

      grants : GrantsRoom t.1
      grants = (subst (Each {A = ℕ × Msg} (λ m. GrantsRoom m.1)) head stock.mail).0

      well : (k : Clerk) → is_for_server t.1 ≡ false → at t.0 sc.clerks ≡ Some k → ComesWell t.1 k
      well k f there = comes-well t.1 k grants (λ q. let d = ids-given j sc known.phase known.comes t rest head q in none-left known.phase known.comes d.0 t.0 d.1 k there)

      stands : IsScene (deliver runs n r.world).world (delivered t.0 t.1 rest sc)
      stands = subst (λ z. IsScene (deliver runs z r.world).world (delivered t.0 t.1 rest sc)) same (delivering.scene-then r.world sc known.stands t.0 t.1 rest head (subst (λ z. (deliver runs z r.world).fault ≡ None) (sym same) fine))

      -- the message that is delivered
      its : (s : Sent) → at n r.world.pool ≡ Some s → world.is_for_server s ≡ false → (k : Clerk) → at s.clerk r.world.clerks ≡ Some k → Each HasRoomIn (clerk.take s.msg k).outs
      its s e f k there =
          let first = delivering.first r.world sc known.stands t.0 t.1 rest head in
          let is : s ≡ first.sent = same_some (sym e ∙ ap (λ z. at z r.world.pool) (sym same) ∙ first.there) in
          let message : s.msg ≡ t.1 = ap (λ (x : Sent). x.msg) is ∙ first.message in
          let sender : s.clerk ≡ t.0 = ap (λ (x : Sent). x.clerk) is ∙ first.clerk in
          subst (λ m. Each HasRoomIn (clerk.take m k).outs) (sym message)
          (outs-room names callers makes sc stock t.0 t.1 rest head asked well (ap is_for_server (sym message) ∙ f) k (ap (λ c. at c sc.clerks) (sym sender) ∙ ap (at s.clerk) (sym known.stands.clerks) ∙ there))

      then : KeepsRoom names callers makes (behind r n fine)
      then = record {
        scene = delivered t.0 t.1 rest sc;
        stands = stands;
        stock = stock-then names callers makes sc stock t.0 t.1 rest head asked well;
        shown = both r.shown (deliver runs n r.world).shown kept.shown (showing.delivered r.world n its);
      }

    goes-on : (ms : Mail) → sc.mail ≡ ms → KeepsRoom names callers makes (behind r n fine)
    goes-on (t ∷ rest) head = then t rest head
    goes-on [] head = absurd (none_some (sym (delivering.none-due r.world sc known.stands head) ∙ is-due))

    onward-keeps : KeepsRoom names callers makes (onward r (deliver runs n r.world))
    onward-keeps = subst (KeepsRoom names callers makes) (sym (onward-is r n fine)) (goes-on sc.mail refl)

    onward-holds : G (onward r (deliver runs n r.world)).world
    onward-holds = subst (λ (x : Moving). G x.world) (sym (onward-is r n fine)) (deliver-holds (OfRun v most) (keep clerks-keep-all v most) runs n r.world holds fine)

  at-most : (r : Moving) (n : ℕ) → (deliver runs n r.world).fault ≡ None → (onward r (deliver runs n r.world)).world.sent ≤ most_sent → r.world.sent ≤ most_sent
  at-most r n f l = let same = ap (λ (x : Moving). x.world.sent) (onward-is r n f) in omega (arith, more-sent r.world n, l, same)

  pub keeps : (m r : Moving) → LineIsKnown new_outset j calls m → G m.world → KeepsRoom names callers makes m → Reaches m r → r.world.sent ≤ most_sent → G r.world × KeepsRoom names callers makes r
  keeps m r known holds kept here le = (holds, kept)
  keeps m _ known holds kept (on r n reached is-due fine) le =
      let less : r.world.sent ≤ most_sent = at-most r n fine le in
      let before = keeps m r known holds kept reached less in
      let known-here = stay-known new_outset j calls m r known few reached less in
      (onward-holds r known-here before.0 before.1 n is-due fine, onward-keeps r known-here before.0 before.1 n is-due fine)

pub lines-keep-room : LinesKeepRoom
lines-keep-room v most names callers makes j calls m r known few holds room kept reached le = (keeps v most names callers makes j calls few room m r known holds kept reached le).1
