-- A clerk takes a message: without a session it answers nothing, and one that takes the end of its session is told first.
use Rattle.std.proofs.Common.{◌≡◌, refl, sym, ap, subst, ℕ, T, Bool, true, false, not, ◌==◌, ◌&&◌, List, [], Some, None}
use Rattle.std.specs.Prelude.{is_some, nat_le}
use Rattle.ec_base.specs.Tables.{keys}
use Rattle.ec_base.specs.declared.counter.Counter.TheVariants as counter
use Rattle.ec_base.specs.declared.ids.Age.{Age}
use Rattle.ec_history.specs.History.{Each}
use Rattle.ec_history.specs.declared.shown.Shown.{Shown}
use Rattle.ec_order.specs.Order.{Issued}
use Rattle.ec_log.specs.Log.{lost}
use Rattle.ec_sessions.specs.Limits.{last_round}
use Rattle.ec_sessions.specs.declared.window.Window.{Window}
use Rattle.ec_wire.specs.Messages.{kind, same_kind}
use Rattle.ec_wire.specs.declared.msg.Msg.{Msg}
use Rattle.ec_wire.specs.declared.msg.Msg.TheVariants as msg
use Rattle.ec_wire.specs.declared.msg.MsgKind.TheVariants as kind_of
use Rattle.ec_protocol.specs.Clerk.{Doing, doing, emit, epoch, has_session, hello, in_session, is_session, lose, or_hello, same_age, send, settle, spend, take, take_ended, take_ids, take_old_boot, take_opened, take_recall, take_restarted, taken, with_cache, with_clerk, with_log}
use Rattle.ec_protocol.specs.Clerk as clerk
use Rattle.ec_protocol.specs.declared.clerk.Clerk.{Clerk}
use Rattle.ec_protocol.specs.declared.clerk.Out.TheVariants as out
use Rattle.ec_cache.specs.Cache as cache
use Rattle.ec_log.specs.Log as log
use Rattle.ec_coherence.specs.ChangeLaws.{Calls}
use Rattle.ec_coherence.specs.Sessions.{HasNone}
use Rattle.ec_coherence.specs.Steps.{out_lines}
use Rattle.ec_coherence.specs.System.{System}
use Rattle.ec_lawful.specs.OfClerkSteps.CallLaws.{IsQuiet, IsStill}
use Rattle.ec_lawful.specs.OfClerkSteps.Waits.{HasLine, IsAtRest, NoneReady, does_wait}
use Rattle.ec_lawful.proofs.OfClerkSteps.ForCalls.Quiets.{quiet-sent}
use Rattle.ec_lawful.proofs.OfClerkSteps.ForCalls.Still.{none-still, quiet-then, still-same, still-sent, still-waits}
use Rattle.ec_lease_machine.proofs.OfLeaseLaws.Resting.{resting-quiet}
use Rattle.ec_history.specs.OfLaws.OfPrinted.Timely.{AreTimely}
use Rattle.ec_plain.specs.BoundedCalls.{is_bounded}
use Rattle.ec_lease_machine.proofs.OfTimely.Outside.{settles-bare}
use Rattle.ec_lease_machine.proofs.OfTimely.Lines.{ToldFirst, silent-timely, told-first, told-timely}
use Rattle.ec_history.proofs.OfLaws.ForPlacing.BasesAlike.{each-map}

-- What a message does to a clerk without a session: at most it's greeted, or the clerk is in a session, in which it holds nothing yet.

record IsLeft (d e : Doing) : Type 0 where
  still : IsStill d e
  recalls : e.clerk.recalls ≡ d.clerk.recalls

same-left : (d e : Doing) → e ≡ d → IsLeft d e
same-left d e q = subst (IsLeft d) (sym q) (record { still = still-same d; recalls = refl })

sent-left : (d e : Doing) (m : Msg) → e ≡ send m d → IsLeft d e
sent-left d e m q = subst (IsLeft d) (sym q) (record { still = still-sent m d; recalls = refl })

in-none : (s e : ℕ) (f : Doing → Doing) (d : Doing) → d.clerk.session ≡ None → in_session s e f d ≡ d
in-none s e f d q = ap (λ o. elim (is_session s o && (e == epoch d)) as (λ z. Doing) [ true ↦ f d | false ↦ d ]) q

or-greets : (s : ℕ) (f : Doing → Doing) (d : Doing) → d.clerk.session ≡ None → or_hello s f d ≡ hello d
or-greets s f d q = ap (λ o. elim (is_some o) as (λ z. Doing) [ false ↦ hello d | true ↦ elim (is_session s o) as (λ z. Doing) [ true ↦ f d | false ↦ d ] ]) q

opened-left : (age : Age) (s e : ℕ) (d : Doing) → IsLeft d (take_opened age s e d)
opened-left age s e d = by (not (has_session d.clerk) && same_age age d.clerk.age)
  where
    now : Doing
    now = with_clerk (λ k. record k { session = Some s; epoch = e }) d

    goes : IsQuiet d now
    goes = record { waiting = refl; calls = refl; next = refl; first = refl; own = λ n t. t; outs = λ c x. refl }

    by : (z : Bool) → IsLeft d (elim z as (λ y. Doing) [ true ↦ send (msg.Claim s e []) now | false ↦ d ])
    by true = record { still = record { quiet = quiet-then d now (send (msg.Claim s e []) now) goes (quiet-sent (msg.Claim s e []) now); cache = refl; owed = refl; ids = refl; undurable = refl }; recalls = refl }
    by false = same-left d d refl

old-left : (asked greatest : Age) (k : Clerk) → IsLeft (doing k) (take_old_boot asked greatest (doing k))
old-left asked greatest k = by (same_age asked k.age)
  where
    by : (z : Bool) → IsLeft (doing k) (elim z as (λ y. Doing) [ true ↦ emit (out.OldBoot greatest) (doing k) | false ↦ doing k ])
    by true = record {
      still = record { quiet = record { waiting = refl; calls = refl; next = refl; first = refl; own = λ n t. t; outs = λ c x. refl }; cache = refl; owed = refl; ids = refl; undurable = refl };
      recalls = refl;
    }
    by false = same-left (doing k) (doing k) refl

taken-left : (m : Msg) (k : Clerk) → HasNone k → k.session ≡ None → IsLeft (doing k) (taken m (doing k))
taken-left (msg.Opened age s e) k none q = opened-left age s e (doing k)
taken-left (msg.Grant s e x n h i) k none q = same-left (doing k) (taken (msg.Grant s e x n h i) (doing k)) (in-none s e (with_cache (cache.take x h n i)) (doing k) q)
taken-left (msg.Recall s e x n to) k none q = same-left (doing k) (taken (msg.Recall s e x n to) (doing k)) (in-none s e (take_recall x n to) (doing k) q)
taken-left (msg.Kept s e b) k none q = same-left (doing k) (taken (msg.Kept s e b) (doing k)) (ap (λ o. elim (is_session s o) as (λ z. Doing) [ true ↦ with_log (log.kept b) (doing k) | false ↦ doing k ]) q)
taken-left (msg.Ids s e got n first) k none q = same-left (doing k) (taken (msg.Ids s e got n first) (doing k)) (in-none s e (take_ids got n first) (doing k) q)
taken-left (msg.NoRoom s e ask live reserved) k none q = same-left (doing k) (taken (msg.NoRoom s e ask live reserved) (doing k))
    (ap (λ o. elim (is_session ask o) as (λ z. Doing) [
      | true ↦ clerk.refuse_makes live reserved k.waiting (with_clerk (λ j. record j { asking = None; waiting = [] }) (doing k))
      | false ↦ doing k
    ]) none.asking)
taken-left (msg.Ended s low mask) k none q =
    sent-left (doing k) (taken (msg.Ended s low mask) (doing k)) (msg.Hello k.id k.age) (or-greets s (take_ended (record { low = low; mask = mask })) (doing k) q)
taken-left (msg.Restarted s e) k none q = sent-left (doing k) (taken (msg.Restarted s e) (doing k)) (msg.Hello k.id k.age) (or-greets s (take_restarted e) (doing k) q)
taken-left (msg.OldBoot asked greatest) k none q = old-left asked greatest k
taken-left (msg.Hello c age) k none q = same-left (doing k) (doing k) refl
taken-left (msg.Want s e x h n) k none q = same-left (doing k) (doing k) refl
taken-left (msg.Back s e x n h) k none q = same-left (doing k) (doing k) refl
taken-left (msg.Flush s e b ops) k none q = same-left (doing k) (doing k) refl
taken-left (msg.Room s e got ask) k none q = same-left (doing k) (doing k) refl
taken-left (msg.Claim s e l) k none q = same-left (doing k) (doing k) refl
taken-left (msg.Bye s e) k none q = same-left (doing k) (doing k) refl

module _ (g : System) (c : ℕ) (k : Clerk) (rest : IsAtRest g c k) where
  -- behind what leaves it so, its step answers nothing
  left-quiet : (e : Doing) → IsLeft (doing k) e → IsQuiet (doing k) (settle e)
  left-quiet e l = quiet-then (doing k) e (settle e) (l.still).quiet (resting-quiet e none waits)
    where
      none : NoneReady e.clerk
      none = subst (Each (λ r. T (not (clerk.is_ready r e.clerk)))) (sym l.recalls) (none-still (doing k) e l.still k.recalls rest.recalls)

      waits : Each (λ w. T (does_wait w e.clerk)) e.clerk.waiting
      waits = subst (Each (λ w. T (does_wait w e.clerk))) (sym ((l.still).quiet).waiting)
          (each-map (λ w. T (does_wait w k) × HasLine g c w) (λ w. T (does_wait w e.clerk)) (λ w x. subst T (sym (still-waits (doing k) e l.still w)) x.0) k.waiting rest.calls)

  quiet-timely : (calls : Calls) (past : List Shown) (e : Doing) → IsQuiet (doing k) e → AreTimely past (out_lines c e.outs calls)
  quiet-timely calls past e q = silent-timely c e.outs calls past (q.outs c calls)

  -- a clerk without a session answers nothing
  pub outside-timely : HasNone k → k.session ≡ None → (calls : Calls) (past : List Shown) (m : Msg) → AreTimely past (out_lines c (take m k).outs calls)
  outside-timely none out calls past m = quiet-timely calls past (take m k) (left-quiet (taken m (doing k)) (taken-left m k none out))

  -- one that takes an Ended answers nothing, or is told first
  module _ (t : ℕ) (within : k.session ≡ Some t) (calls : Calls) (past : List Shown) (s low mask : ℕ) (bounded : Each (λ w. T (is_bounded w.call)) k.waiting) where
    abbrev w : Window
    w = record { low = low; mask = mask }

    abbrev ops : Issued
    ops = lost w k.log

    abbrev told : Doing
    told = hello (emit (out.Told (keys ops)) (with_clerk (lose ops) (doing k)))

    none : HasNone told.clerk
    none = record { epoch = refl; cache = refl; undurable = refl; batches = refl; next_batch = refl; first = refl; recalls = refl; ids = refl; got = refl; asking = refl }

    by-round : (z : Bool) → AreTimely past (out_lines c (settle (elim z as (λ y. Doing) [ true ↦ spend counter.Round (doing k) | false ↦ told ])).outs calls)
    by-round true = quiet-timely calls past (settle (spend counter.Round (doing k))) (left-quiet (spend counter.Round (doing k))
        (record { still = record { quiet = record { waiting = refl; calls = refl; next = refl; first = refl; own = λ n u. u; outs = λ c x. refl }; cache = refl; owed = refl; ids = refl; undurable = refl }; recalls = refl }))
    by-round false =
        let m = settles-bare (λ v. T (is_bounded v.call)) (λ v p. p) told.outs told none refl bounded refl in
        told-timely c (settle told).outs calls past (subst ToldFirst (sym m.1) (told-first told.outs m.0 tt))

    by-session : (z : Bool) → AreTimely past (out_lines c (settle (elim z as (λ y. Doing) [ true ↦ take_ended w (doing k) | false ↦ doing k ])).outs calls)
    by-session true = by-round (nat_le last_round k.age.round)
    by-session false = quiet-timely calls past (settle (doing k)) (left-quiet (doing k) (same-left (doing k) (doing k) refl))

    pub ended-timely : AreTimely past (out_lines c (take (msg.Ended s low mask) k).outs calls)
    ended-timely = subst (λ e. AreTimely past (out_lines c (settle e).outs calls)) (sym goes) (by-session (is_session s (Some t)))
      where
        goes : taken (msg.Ended s low mask) (doing k) ≡ elim (is_session s (Some t)) as (λ z. Doing) [ true ↦ take_ended w (doing k) | false ↦ doing k ]
        goes = ap (λ o. elim (is_some o) as (λ z. Doing) [
          | false ↦ hello (doing k)
          | true ↦ elim (is_session s o) as (λ z. Doing) [ true ↦ take_ended w (doing k) | false ↦ doing k ]
        ]) within

-- Only an Ended is one.
pub is-ended : {A : Type 0} (m : Msg) → ((s low mask : ℕ) → m ≡ msg.Ended s low mask → A) → (T (not (same_kind (kind m) kind_of.Ended)) → A) → A
is-ended (msg.Ended s low mask) f g = f s low mask refl
is-ended (msg.Hello c age) f g = g tt
is-ended (msg.Want s e x h n) f g = g tt
is-ended (msg.Back s e x n h) f g = g tt
is-ended (msg.Flush s e b us) f g = g tt
is-ended (msg.Room s e got ask) f g = g tt
is-ended (msg.Claim s e l) f g = g tt
is-ended (msg.Bye s e) f g = g tt
is-ended (msg.Opened age s e) f g = g tt
is-ended (msg.Grant s e x n h i) f g = g tt
is-ended (msg.Recall s e x n to) f g = g tt
is-ended (msg.Kept s e b) f g = g tt
is-ended (msg.Ids s e got n first) f g = g tt
is-ended (msg.NoRoom s e ask live reserved) f g = g tt
is-ended (msg.Restarted s e) f g = g tt
is-ended (msg.OldBoot asked greatest) f g = g tt
