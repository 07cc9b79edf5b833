-- A claim that is delivered changes nothing.
use Rattle.std.proofs.Common.{◌≡◌, refl, sym, ap, subst, ◌∙◌, arith, ◌≤◌, ◌+◌, ℕ, Bool, true, false, ◌==◌, ◌&&◌, List, [], ◌∷◌, ◌++◌, length, Option, Some, None, append-nil}
use Rattle.ec_base.specs.declared.ids.Hold.{Hold}
use Rattle.ec_sessions.specs.declared.slot.Slot.{Slot}
use Rattle.ec_wire.specs.declared.msg.Msg.{Msg}
use Rattle.ec_wire.specs.declared.msg.Msg.TheVariants as msg
use Rattle.ec_protocol.specs.Server.{Serving, serving, take, has_claimed}
use Rattle.ec_protocol.specs.declared.clerk.Clerk.{Clerk}
use Rattle.ec_protocol.specs.declared.server.Server.{Server}
use Rattle.ec_quiet.specs.Measure.{measure, if_more}
use Rattle.ec_quiet.specs.Phases.{Phase, Claims, Wants, Ends, InPhase, IsWorking, IsWanting, HasEnded, main, is_back, first_want}
use Rattle.ec_quiet.specs.Scenes.{Mail, Scene, delivered}
use Rattle.ec_quiet.specs.Works.{Work, is_saving}
use Rattle.ec_machine_laws.specs.Serving.{IsAtWork}
use Rattle.ec_machine_laws.proofs.Stepping.{claimed-twice}
use Rattle.ec_quiet.specs.OfDeliveries.Orderly.{IsLikeBut, KeepsBacks}
use Rattle.ec_quiet.proofs.OfDeliveries.Working.{working-stays, wanting-stays, keeps-backs, main-joins, main-front}
use Rattle.ec_base.proofs.Numbers.{same-self}

pub working-at : (xs : List ℕ) (j : Work) (sc : Scene) (sl : Slot) (k : Clerk) → IsWorking xs j sc sl k → IsAtWork j.clerk j.session sc.server.durable.epoch sl (serving sc.server)
working-at xs j sc sl k w = record {
  slot = w.inside.there;
  session = ap (λ z. z == j.session) w.session ∙ same-self j.session;
  is_open = w.inside.is_open;
  epoch = same-self sc.server.durable.epoch;
  claimed = sym (ap (λ z. has_claimed z sc.server) w.session) ∙ w.inside.claimed;
}

pub like-self : (xs : List ℕ) (v : Server) (c s : ℕ) → IsLikeBut xs v v c s
like-self xs v c s = record { slot = refl; epoch = refl; claimed = λ e. e; number = omega arith; tokens = λ x m. refl }

saves-less : (b : Bool) → if_more (b && false) 64 ≤ if_more (b && true) 64
saves-less true = omega arith
saves-less false = omega arith

abbrev pub behind : Scene → Mail → Serving → Scene
behind sc rest t = record sc { server = t.server; mail = rest ++ t.sent }

module _ (j : Work) (sc : Scene) (rest : Mail) (mail : sc.mail ≡ (j.clerk, msg.Claim j.session sc.server.durable.epoch []) ∷ rest) where
  abbrev claim : ℕ × Msg
  claim = (j.clerk, msg.Claim j.session sc.server.durable.epoch [])

  abbrev left : Scene
  left = record sc { mail = rest ++ [] }

  no-back : is_back j claim ≡ false
  no-back = off (j.clerk == j.clerk)
    where
      off : (b : Bool) → (b && false) ≡ false
      off true = refl
      off false = refl

  keeps : KeepsBacks j sc.mail (rest ++ [])
  keeps = subst (λ ms. KeepsBacks j ms (rest ++ [])) (sym mail) (keeps-backs j claim rest [] no-back refl)

  -- what else is under way
  else-there : (ms : Mail) → main j sc.mail ≡ claim ∷ ms → main j (rest ++ []) ≡ ms
  else-there ms e =
      let both : claim ∷ main j rest ≡ claim ∷ ms = sym (main-front j claim rest no-back) ∙ ap (main j) (sym mail) ∙ e in
      let same : main j rest ≡ ms = cc in
      main-joins j rest [] refl ∙ append-nil (main j rest) ∙ same

  ended-stays : HasEnded j sc → HasEnded j left
  ended-stays e = record {
    slot = e.slot;
    clerk = e.clerk;
    working = working-stays [] [] j sc sc.server (rest ++ []) (λ x m. m) (like-self [] sc.server j.clerk j.session) keeps e.slot e.clerk e.working;
    done = e.done;
    asking = e.asking;
    batches = e.batches;
    window = e.window;
    grants = e.grants;
    answered = e.answered;
  }

  ends : InPhase j sc (Claims None) → InPhase j left Ends
  ends ip = record {
    clerk = ip.clerk;
    number = ip.number;
    main_is = else-there [] ip.main_is;
    orderly = ip.orderly;
    others = λ c k other busy there. ip.others c k other refl there;
    facts = (ip.facts.0, ended-stays ip.facts.1);
  }

  goes-on : (p : ℕ × Hold) → InPhase j sc (Claims (Some p)) → InPhase j left (Wants p.0 p.1 0)
  goes-on p ip = record {
    clerk = ip.clerk;
    number = ip.number;
    main_is = else-there (first_want j sc.server.durable.epoch (Some p)) ip.main_is;
    orderly = ip.orderly;
    others = λ c k other busy there. ip.others c k other refl there;
    facts = (ip.facts.0, wanting-stays [] [] j sc sc.server (rest ++ []) (λ x m. m) (like-self [] sc.server j.clerk j.session) keeps p.0 p.1 0 ip.facts.1);
  }

  ends-less : measure j left Ends + 32 ≤ measure j sc (Claims None)
  ends-less = omega (arith, saves-less (is_saving j.task), ap length keeps.same)

  goes-less : (p : ℕ × Hold) → measure j left (Wants p.0 p.1 0) + 32 ≤ measure j sc (Claims (Some p))
  goes-less p = omega (arith, ap length keeps.same)

pub claims-delivered : (j : Work) (sc : Scene) (o : Option (ℕ × Hold)) (rest : Mail) → InPhase j sc (Claims o) → sc.mail ≡ (j.clerk, msg.Claim j.session sc.server.durable.epoch []) ∷ rest
    → (p : Phase) × InPhase j (delivered j.clerk (msg.Claim j.session sc.server.durable.epoch []) rest sc) p × (measure j (delivered j.clerk (msg.Claim j.session sc.server.durable.epoch []) rest sc) p + 32 ≤ measure j sc (Claims o))
claims-delivered j sc None rest ip mail =
    let e : HasEnded j sc = ip.facts.1 in
    let t : take j.clerk (msg.Claim j.session sc.server.durable.epoch []) sc.server ≡ serving sc.server
    = claimed-twice j.clerk j.session sc.server.durable.epoch [] e.slot sc.server (working-at [] j sc e.slot e.clerk e.working) ip.facts.0 in (
      Ends,
      subst (λ u. InPhase j (behind sc rest u) Ends) (sym t) (ends j sc rest mail ip),
      subst (λ u. measure j (behind sc rest u) Ends + 32 ≤ measure j sc (Claims None)) (sym t) (ends-less j sc rest mail),
    )
claims-delivered j sc (Some p) rest ip mail =
    let w : IsWanting [] j sc p.0 p.1 0 = ip.facts.1 in
    let t : take j.clerk (msg.Claim j.session sc.server.durable.epoch []) sc.server ≡ serving sc.server
    = claimed-twice j.clerk j.session sc.server.durable.epoch [] w.slot sc.server (working-at [] j sc w.slot w.clerk w.working) ip.facts.0 in (
      Wants p.0 p.1 0,
      subst (λ u. InPhase j (behind sc rest u) (Wants p.0 p.1 0)) (sym t) (goes-on j sc rest mail p ip),
      subst (λ u. measure j (behind sc rest u) (Wants p.0 p.1 0) + 32 ≤ measure j sc (Claims (Some p))) (sym t) (goes-less j sc rest mail p),
    )
