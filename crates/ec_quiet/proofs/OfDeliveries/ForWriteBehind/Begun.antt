-- The first step of a line sends only what the line asks for.
use Rattle.std.proofs.Common.{◌≡◌, refl, ap, ℕ, Bool, true, false, [], ◌∷◌, ◌++◌, inl}
use Rattle.std.specs.Prelude.{Some, is_some, nat_le, nat_lt}
use Rattle.ec_base.specs.Limits.{last_counter}
use Rattle.ec_base.specs.Tables.{at}
use Rattle.ec_base.specs.declared.counter.Counter.TheVariants as counter
use Rattle.ec_volume.specs.Volume.{Images}
use Rattle.ec_plain.specs.declared.call.Call.{Call}
use Rattle.ec_protocol.specs.Clerk.{Doing, add_call, begin, doing, hello, keep_push, new_clerk, push, settle, spend, start}
use Rattle.ec_protocol.specs.declared.clerk.Clerk.{Clerk}
use Rattle.ec_quiet.specs.Facts.{IsIdleBut}
use Rattle.ec_quiet.specs.Quiet.{IsIdle}
use Rattle.ec_quiet.specs.Scenes.{Mail, Scene, done_by}
use Rattle.ec_quiet.specs.Works.{Pushes, Work}
use Rattle.ec_quiet.specs.Goes.{MayGo}
use Rattle.ec_quiet.specs.OfDeliveries.PhasesBehind.{BatchesAreAsked, IsBehind, Sees, saved}
use Rattle.ec_quiet.proofs.OfDeliveries.ForWriteBehind.Moved.{may-step, stepped}
use Rattle.ec_quiet.proofs.OfDeliveries.ForWriteBehind.Picked.{none-fine}
use Rattle.ec_quiet.proofs.OfDeliveries.ForWriteBehind.Stepped.{call-picks, nothing-steps, push-steps}

module _ (v : Images) (j : Work) (sc : Scene) (idle : IsIdle sc) where
  pub idle-behind : IsBehind v j sc
  idle-behind c k there = none-fine v j c k.log (idle.clerks c k there).1.free.batches

  -- a new clerk has nothing that could be picked
  pub starts-begin : (boot : ℕ) (cl : Call) (mail : Mail) → IsBehind v j (done_by j.clerk (begin cl (start j.clerk boot).clerk) mail sc)
  starts-begin boot cl mail = stepped v j sc idle-behind j.clerk (begin cl (start j.clerk boot).clerk) mail (go (nat_lt last_counter boot))
    where
      begins : (z : Bool) → BatchesAreAsked v j j.clerk (elim z as (λ z. Doing) [ true ↦ spend counter.CallNo (doing (new_clerk j.clerk boot)) | false ↦ settle (doing (add_call cl (new_clerk j.clerk boot))) ]).clerk.log
      begins true = tt
      begins false = call-picks v j j.clerk (doing (add_call cl (new_clerk j.clerk boot))) (record { no = 1; call = cl; begun = 0 }) refl refl refl refl (λ o u done is suit. refl) (λ a is. tt)

      go : (z : Bool) → BatchesAreAsked v j j.clerk (begin cl (elim z as (λ z. Doing) [ true ↦ spend counter.Boot (doing (new_clerk j.clerk boot)) | false ↦ hello (doing (new_clerk j.clerk boot)) ]).clerk).clerk.log
      go true = begins (nat_le last_counter (new_clerk j.clerk boot).calls)
      go false = begins (nat_le last_counter (new_clerk j.clerk boot).calls)

  module _ (k : Clerk) (there : at j.clerk sc.clerks ≡ Some k) (mail : Mail) where
    abbrev i : IsIdleBut [] sc.server j.clerk (idle.clerks j.clerk k there).0 k
    i = (idle.clerks j.clerk k there).1

    pub calls-begin : (cl : Call) → MayGo j (add_call cl k) → Sees v j (add_call cl k) → IsBehind v j (done_by j.clerk (begin cl k) mail sc)
    calls-begin cl may sees = stepped v j sc idle-behind j.clerk (begin cl k) mail (go (nat_le last_counter k.calls))
      where
        go : (z : Bool) → BatchesAreAsked v j j.clerk (elim z as (λ z. Doing) [ true ↦ spend counter.CallNo (doing k) | false ↦ settle (doing (add_call cl k)) ]).clerk.log
        go true = none-fine v j j.clerk k.log i.free.batches
        go false = may-step v j (doing (add_call cl k)) may sees i.free.recalls i.free.batches

    pub pushes-begin : (n : ℕ) → j.task ≡ Pushes n → IsBehind v j (done_by j.clerk (push n k) mail sc)
    pushes-begin n is = stepped v j sc idle-behind j.clerk (push n k) mail (go (nat_le k.log.first n))
      where
        go : (z : Bool) → BatchesAreAsked v j j.clerk (settle (elim z as (λ z. Doing) [ true ↦ keep_push n (doing k) | false ↦ doing k ])).clerk.log
        go true = push-steps v j j.clerk (keep_push n (doing k)) (ap is_some i.inside.session) i.waiting n i.free.recalls (ap (λ l. l ++ n ∷ []) i.pushes) (inl (refl, ap (saved v) is)) (none-fine v j j.clerk k.log i.free.batches)
        go false = nothing-steps v j j.clerk (doing k) i.free.recalls i.pushes i.waiting (none-fine v j j.clerk k.log i.free.batches)
