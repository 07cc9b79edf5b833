-- A call of a clerk that runs begins where all is idle.
use Rattle.std.proofs.Common.{◌≡◌, refl, sym, ap, ◌∙◌, subst, arith, ◌≤◌, ℕ, true, false, [], ◌∷◌, inl, length}
use Rattle.std.specs.Prelude.{Some, nat_le}
use Rattle.ec_base.specs.Limits.{last_counter}
use Rattle.ec_base.specs.Tables.{at}
use Rattle.ec_base.specs.declared.counter.Counter.TheVariants as counter
use Rattle.ec_history.specs.History.{Each}
use Rattle.ec_plain.specs.declared.call.Call.{Call}
use Rattle.ec_sessions.specs.declared.slot.Slot.{Slot}
use Rattle.ec_cache.specs.declared.state.Held.{Held}
use Rattle.ec_wire.specs.declared.msg.Msg.{Msg}
use Rattle.ec_protocol.specs.Clerk.{Doing, add_call, begin, doing, settle, spend}
use Rattle.ec_protocol.specs.declared.clerk.Clerk.{Clerk}
use Rattle.ec_protocol.specs.declared.server.Server.{Server}
use Rattle.ec_quiet.specs.Facts.{IsIdleBut, Same}
use Rattle.ec_quiet.specs.Phases.{Ends, HasEnded, InPhase, IsAged, IsGivenBack, backs, main}
use Rattle.ec_quiet.specs.Quiet.{IsIdle}
use Rattle.ec_quiet.specs.Scenes.{Mail, Scene, done_by}
use Rattle.ec_quiet.specs.Works.{HasTask, Work}
use Rattle.ec_quiet.specs.Goes.{Goes, MayGo}
use Rattle.ec_quiet.specs.Takings.{ClerkIsReady, with_clerk_at}
use Rattle.ec_quiet.proofs.Beside.{own-at}
use Rattle.ec_quiet.proofs.Going.{goes}
use Rattle.ec_quiet.proofs.Taking.{each-map}
use Rattle.ec_complete.specs.OfAgreedLines.Lines.{HasBegun, IsAt}
use Rattle.ec_quiet.proofs.OfDeliveries.Holding.{same-slot}
use Rattle.ec_base.proofs.Lists.{no-more}
use Rattle.ec_quiet.proofs.Once.{found-once}

no-length : (ms : Mail) → length ms ≡ 0 → ms ≡ []
no-length [] e = refl
no-length (m ∷ ms) e = absurd (omega (arith, e))

module _ (j : Work) (sc : Scene) (sl : Slot) (k : Clerk) (cl : Call) (idle : IsIdle sc) (is : IsAt j sc sl k) (counted : nat_le last_counter k.calls ≡ false) (may : MayGo j (add_call cl k)) where
  abbrev v : Server
  v = sc.server

  own : (t : Slot) × IsIdleBut [] v j.clerk t k
  own = idle.clerks j.clerk k is.there

  one-slot : own.0 ≡ sl
  one-slot = same-slot own.0 sl (sym own.1.inside.there ∙ is.slot)

  i : IsIdleBut [] v j.clerk sl k
  i = subst (λ t. IsIdleBut [] v j.clerk t k) one-slot own.1

  abbrev now : Clerk
  now = add_call cl k

  same : (x : ℕ) → Same v j.session k x
  same x = subst (λ s. Same v s k x) is.session (i.same x tt)

  none-back : backs j sc.mail ≡ []
  none-back = ap (backs j) idle.mail

  -- behind the line before

  ended : HasEnded j sc
  ended = record {
    slot = sl;
    clerk = k;
    working = record {
      there = is.there;
      inside = i.inside;
      session = is.session;
      recalls = i.free.recalls;
      limits = i.free.limits;
      same = λ x f. inl (same x);
      given_back = subst (Each {A = ℕ × Msg} (λ m. IsGivenBack j v.durable.epoch k m.1)) (sym none-back) tt;
    };
    done = (i.waiting, i.pushes);
    asking = i.asking;
    batches = i.free.batches;
    window = i.window;
    grants = i.grants;
    answered = i.answered;
  }

  in-ends : InPhase j sc Ends
  in-ends = record {
    clerk = is.clerk;
    number = omega (arith, is.number);
    main_is = ap (main j) idle.mail;
    orderly = idle.orderly;
    others = λ c a n busy e. idle.clerks c a e;
    facts = (idle.wants, ended);
  }

  -- each token is from before

  old-one : (e : ℕ × Held) → at e.0 k.cache.held ≡ Some e.1 → (e.1).number ≤ j.number
  old-one e f = omega (arith, i.inside.numbers e.0 e.1 f, i.inside.lasts e.0, is.number)

  aged : IsAged j now
  aged = record {
    olds = k.cache.held;
    news = [];
    whole = sym (no-more k.cache.held);
    old = each-map {A = ℕ × Held} (λ e. at e.0 k.cache.held ≡ Some e.1) (λ e. (e.1).number ≤ j.number) old-one k.cache.held (found-once k.cache.held is.once);
    fresh = tt;
  }

  ready : ClerkIsReady j (with_clerk_at j (doing now) [] sc) sl now
  ready = record {
    there = own-at j.clerk now sc.clerks;
    inside = record {
      there = i.inside.there;
      is_open = i.inside.is_open;
      session = i.inside.session;
      epoch = i.inside.epoch;
      claimed = i.inside.claimed;
      unowed = i.inside.unowed;
      numbers = i.inside.numbers;
      lasts = i.inside.lasts;
      capacity = i.inside.capacity;
    };
    session = is.session;
    recalls = i.free.recalls;
    limits = i.free.limits;
    same = λ x. inl (same x);
    given_back = tt;
    aged = aged;
    task = subst (λ t. HasTask t now) (sym may.is) (may.call, may.waits.waiting, refl, may.waits.begun, may.waits.pushes);
    asking = i.asking;
    batches = i.free.batches;
    window = i.window;
    grants = i.grants;
    answered = i.answered;
  }

  on : Goes j sc [] now (settle (doing now))
  on = goes j sc Ends in-ends tt idle.wants [] refl sl now ready may.call may.is may.waits may.counters may.touches may.evicts

  begin-is : begin cl k ≡ settle (doing now)
  begin-is = ap (λ b. elim b as (λ z. Doing) [ true ↦ spend counter.CallNo (doing k) | false ↦ settle (doing now) ]) counted

  pub begins : HasBegun j (done_by j.clerk (begin cl k) sc.mail sc)
  begins = subst (HasBegun j) (λ z. done_by j.clerk (back-is z) (mail-is z) sc) (record {
    phase = on.phase;
    asked = on.asked;
    comes = on.comes;
    none_back = no-length (backs j (done_by j.clerk (settle (doing now)) [] sc).mail) (omega (arith, on.count, on.few, i.inside.room));
  })
    where
      back-is : settle (doing now) ≡ begin cl k
      back-is = sym begin-is

      mail-is : [] ≡ sc.mail
      mail-is = sym idle.mail
