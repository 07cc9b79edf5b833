-- A recall comes to a holder.
use Rattle.std.proofs.Common.{◌≡◌, refl, ap, ℕ, Bool, true, false, ◌&&◌, List, [], ◌∷◌, ◌++◌, inr}
use Rattle.std.specs.Prelude.{Some, ◌==◌, is_some, nat_lt}
use Rattle.ec_base.specs.Tables.{at}
use Rattle.ec_base.specs.declared.ids.Hold.{Hold}
use Rattle.ec_volume.specs.Volume.{Images}
use Rattle.ec_sessions.specs.OfTokens.Tokens.{Holder}
use Rattle.ec_sessions.specs.OfRecall.Due.{recall_to}
use Rattle.ec_cache.specs.Cache as cache
use Rattle.ec_protocol.specs.Clerk.{Doing, doing, is_session, keep_recall, mark_recall, settle, with_cache}
use Rattle.ec_protocol.specs.declared.clerk.Clerk.{Clerk}
use Rattle.ec_quiet.specs.Facts.{IsIdleBut, session_clerk}
use Rattle.ec_quiet.specs.Phases.{Recalls, InPhase, IsNoted, recall_of}
use Rattle.ec_quiet.specs.Scenes.{Mail, Scene, delivered}
use Rattle.ec_quiet.specs.Works.{Work}
use Rattle.ec_quiet.proofs.OfDeliveries.Recalling as recalling
use Rattle.ec_quiet.specs.OfDeliveries.PhasesBehind.{BatchesAreAsked, IsBehind}
use Rattle.ec_quiet.proofs.OfDeliveries.ForWriteBehind.Stepped.{nothing-steps, recall-steps}
use Rattle.ec_quiet.proofs.OfDeliveries.ForWriteBehind.Moved.{to-clerk}
use Rattle.ec_sessions.specs.declared.slot.Slot.{Slot}
use Rattle.ec_protocol.specs.declared.clerk.Recalled.{Recalled}
use Rattle.ec_quiet.specs.Phases.{excepted}

module _ (v : Images) (j : Work) (sc : Scene) (fine : IsBehind v j sc) where
  abbrev e : ℕ
  e = sc.server.durable.epoch

  module _ (x : ℕ) (h : Hold) (r : Holder) (rs bs : List Holder) (ip : InPhase j sc (Recalls x h (r ∷ rs) bs)) (k : Clerk) (there : at (session_clerk sc.server r.0) sc.clerks ≡ Some k) where
    abbrev c : ℕ
    c = session_clerk sc.server r.0

    abbrev noted : IsNoted j sc x h (bs ++ r ∷ rs)
    noted = ip.facts.0

    other : (c == j.clerk) ≡ false
    other = recalling.another j sc x h r bs rs ip.orderly noted

    idler : (sl : Slot) × IsIdleBut (excepted sc (Recalls x h (r ∷ rs) bs) c) sc.server c sl k
    idler = ip.others c k other refl there

    abbrev idle : IsIdleBut (excepted sc (Recalls x h (r ∷ rs) bs) c) sc.server c idler.0 k
    idle = idler.1

    abbrev its : Recalled
    its = record { obj = x; number = r.2; to = recall_to h }

    abbrev marked : Doing
    marked = keep_recall its (with_cache (mark_recall x (recall_to h)) (doing k))

    -- it's taken, unless it's late or of another session
    recalled : (z y : Bool) → BatchesAreAsked v j c (settle (elim z as (λ z. Doing) [ true ↦ elim y as (λ z. Doing) [ true ↦ doing k | false ↦ marked ] | false ↦ doing k ])).clerk.log
    recalled false y = nothing-steps v j c (doing k) idle.free.recalls idle.pushes idle.waiting (fine c k there)
    recalled true true = nothing-steps v j c (doing k) idle.free.recalls idle.pushes idle.waiting (fine c k there)
    recalled true false = recall-steps v j c marked (ap is_some idle.inside.session) idle.waiting its (ap (λ l. l ++ its ∷ []) idle.free.recalls) idle.pushes (inr (other, x, refl, noted.wanting.touched)) (fine c k there)

    pub recalls : (rest : Mail) → IsBehind v j (delivered c (recall_of sc x h r).1 rest sc)
    recalls rest = to-clerk v j sc fine c (recall_of sc x h r).1 rest refl k there (recalled (is_session r.0 k.session && (e == k.epoch)) (nat_lt r.2 (cache.last x k.cache)))
