-- Steps of the server that run, as the code takes them: the store and the server first, then what is shown and sent.
use Rattle.std.proofs.Common.{◌≡◌, ◌+◌, ◌==◌, ℕ, Bool, true, false, List, [], ◌∷◌, ◌++◌, Option, None, Some, refl, sym, ap, ◌∙◌}
use Rattle.ec_base.specs.Tables.{at}
use Rattle.ec_wire.specs.declared.msg.Msg.{Msg}
use Rattle.ec_durable.specs.declared.state.Durable.{Durable}
use Rattle.ec_durable.specs.declared.record.Record.{Record}
use Rattle.ec_durable.specs.declared.record.Record.TheVariants as record_of
use Rattle.ec_protocol.specs.declared.server.Server.{Server}
use Rattle.ec_protocol.specs.declared.world.Noted.{Noted}
use Rattle.ec_protocol.specs.declared.world.Noted.TheVariants as noted_as
use Rattle.ec_protocol.specs.declared.world.Sent.{Sent}
use Rattle.ec_protocol.specs.declared.world.World.{World}
use Rattle.ec_protocol.specs.declared.world.WorldFault.TheVariants as fault
use Rattle.ec_protocol.specs.Server.{Serving}
use Rattle.ec_protocol.specs.World.{Fate, runs, Moving, moving, fails, with_world, show_noted, noted, send_all, committed, served, deliver, deliver_to, to_server, to_clerk, settled, is_for_server}
use Rattle.ec_protocol.specs.Server as machine
use Rattle.ec_marking.specs.Marks.{MarkOf, gone}
use Rattle.ec_world.specs.Serving.{serves}
use Rattle.ec_marking.specs.declared.marks.Mark.{Mark}

pub noted_serves : (x : Option Noted) (s : Option Server) (d : Durable) (u : World) → with_world (serves s d) (show_noted x (moving u)) ≡ show_noted x (moving (serves s d u))
noted_serves None s d u = refl
noted_serves (Some (noted_as.Durable c ns)) s d u = refl
noted_serves (Some (noted_as.Ended c b)) s d u = refl

abbrev pub done : Server → List (ℕ × Msg) → Option Record → Serving
done v sent rec = record { server = v; sent = sent; rec = rec; spent = None }

abbrev pub recorded : List Record → World → World
recorded rs w = record w { records = rs }

-- a record is committed: it's shown, and what the server sends goes out
pub committed_is : (r : Record) (v : Server) (sent : List (ℕ × Msg)) (u : World) → committed runs r (done v sent (Some r)) u ≡ with_world (send_all sent) (show_noted (noted u.durable r) (moving (serves (Some v) v.durable (recorded (u.records ++ r ∷ []) u))))
committed_is r v sent u = ap (with_world (send_all sent)) (noted_serves (noted u.durable r) (Some v) v.durable (recorded (u.records ++ r ∷ []) u))

pub served_is : (t : Serving) (v : Server) (sent : List (ℕ × Msg)) (r : Record) (u : World) → t ≡ done v sent (Some r) → served runs t u ≡ with_world (send_all sent) (show_noted (noted u.durable r) (moving (serves (Some v) v.durable (recorded (u.records ++ r ∷ []) u))))
served_is t v sent r u is = ap (λ (x : Serving). served runs x u) is ∙ committed_is r v sent u

pub served_none : (t : Serving) (v : Server) (sent : List (ℕ × Msg)) (u : World) → t ≡ done v sent None → served runs t u ≡ with_world (send_all sent) (moving (serves (Some v) v.durable u))
served_none t v sent u is = ap (λ (x : Serving). served runs x u) is

-- a message for the server
pub deliver_server : (fate : Fate) (n : ℕ) (s : Sent) (v : Option Server) (w : World) → at n w.pool ≡ Some s → is_for_server s ≡ true → w.server ≡ v → deliver fate n w ≡ to_server fate n s v w
deliver_server fate n s v w is whose runs_is =
    ap (λ (o : Option Sent). elim o [ None ↦ fails fault.NoSuchMsg w | Some s ↦ deliver_to fate n s w ]) is
    ∙ ap (λ (b : Bool). elim b [ true ↦ to_server fate n s w.server w | false ↦ to_clerk s.clerk s.msg (at s.clerk w.clerks) (settled n w) ]) whose
    ∙ ap (λ (x : Option Server). to_server fate n s x w) runs_is

pub goes_on : (t : Serving) (v : Server) (sent : List (ℕ × Msg)) (rec : Option Record) (mark : Option Mark) (u : World) → t ≡ done v sent rec → MarkOf mark rec u.durable u.records → served runs t u ≡ with_world (send_all sent) (gone mark (moving (serves (Some v) v.durable u)))
goes_on t v sent None mark u is none =
    served_none t v sent u is ∙ ap (λ (x : Option Mark). with_world (send_all sent) (gone x (moving (serves (Some v) v.durable u)))) (sym none)
goes_on t v sent (Some r) None u is h = absurd h
goes_on t v sent (Some r) (Some mark) u is h =
    let on : Option Noted → List Record → Moving = λ x rs. with_world (send_all sent) (show_noted x (moving (serves (Some v) v.durable (recorded rs u)))) in
    served_is t v sent r u is ∙ ap (λ x. on x (u.records ++ r ∷ [])) (sym h.noted_is) ∙ ap (on mark.noted) (sym h.records_are)
