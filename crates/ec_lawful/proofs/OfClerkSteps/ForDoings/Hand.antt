-- A step in hand stays so behind one message that it sends, behind what it asks for, and behind what it wants.
use Rattle.std.proofs.Common.{◌≡◌, refl, sym, ap, subst, ◌∙◌, arith, ◌+◌, ℕ, Bool, true, false, not, ◌&&◌, T, List, []}
use Rattle.std.specs.Prelude.{Option, None, Some, is_none, is_some, nat_le}
use Rattle.std.specs.List.{list_any}
use Rattle.ec_base.specs.Limits.{last_counter}
use Rattle.ec_base.specs.Tables.{at}
use Rattle.ec_base.specs.declared.counter.Counter.TheVariants as counter
use Rattle.ec_base.specs.declared.ids.Hold.{Hold}
use Rattle.ec_history.specs.History.{Each}
use Rattle.ec_wire.specs.Messages.{is_held_mode, is_sound}
use Rattle.ec_wire.specs.declared.msg.Msg.{Msg}
use Rattle.ec_wire.specs.declared.msg.Msg.TheVariants.{Bye, Claim, Flush, Room}
use Rattle.ec_cache.specs.Cache as cache
use Rattle.ec_log.specs.Log as log_of
use Rattle.ec_log.specs.declared.state.Asked.{Asked}
use Rattle.ec_log.specs.declared.state.LogState.{LogState}
use Rattle.ec_log.specs.declared.state.Pick.{Pick}
use Rattle.ec_log.specs.declared.state.Pick.TheVariants as pick_of
use Rattle.ec_protocol.specs.Clerk.{Doing, ask_anew, ask_for, ask_room, claim, epoch, has_session, is_need, is_wanted, may_want, resend_want, send, send_batch, send_picked, send_room, send_want, session, spend, want, wanted, with_clerk, with_log}
use Rattle.ec_protocol.specs.declared.clerk.Clerk.{Clerk}
use Rattle.ec_coherence.specs.Caches.{IsKeyed}
use Rattle.ec_coherence.specs.System.{System, Ghost, clerk_in}
use Rattle.ec_coherence.specs.Clerks.{acting}
use Rattle.ec_coherence.specs.Sessions as sessions
use Rattle.ec_coherence.specs.Tokens.{Names, TokensAgree, side, side_in, view}
use Rattle.ec_coherence.specs.Log as log
use Rattle.ec_coherence.specs.Steps.{doing_in}
use Rattle.ec_coherence.proofs.ForClerk.Acting.{view-is}
use Rattle.ec_coherence.proofs.ForClerk.Goes.{goes-batch, goes-send, names-act, passed-now}
use Rattle.ec_coherence.proofs.ForClerk.SendClaim.{goes-claim}
use Rattle.ec_coherence.proofs.ForClerk.SendWant.{goes-room}
use Rattle.ec_coherence.proofs.ForServer.Tables.{same_some}
use Rattle.ec_coherence.specs.Starts.{Greets}
use Rattle.ec_coherence.specs.StandLaws.{IsUnderWay}
use Rattle.ec_coherence.proofs.Steps.{asks-stand, rooms-stand, wants-again-stand, wants-stand}
use Rattle.ec_lawful.specs.OfClerkSteps.Orderly.{IsOrderly}
use Rattle.ec_lawful.specs.OfClerkSteps.DoingLaws.{IsInHand}
use Rattle.ec_lawful.proofs.OfClerkSteps.ForDoings.Moving as moving
use Rattle.ec_lawful.proofs.OfClerkSteps.ForDoings.Naming.{names-kept}
use Rattle.ec_lawful.proofs.OfClerkSteps.ForDoings.Order.{IsTrim, trim-ask, trim-room}
use Rattle.ec_lawful.proofs.OfClerkSteps.ForDoings.Sound.{claim-sound, flush-sound, picked-sound}

pub order-of : (k : Clerk) → IsKeyed k.cache → IsTrim k → IsOrderly k
order-of k keyed t = record { keyed = keyed; recalls = t.0; asking = t.1; log = (t.2).log; sound = (t.2).sound; batches = (t.2).few }

pub trim-of : (k : Clerk) → IsOrderly k → IsTrim k
trim-of k o = (o.recalls, o.asking, record { log = o.log; sound = o.sound; few = o.batches })

-- an asking changes the log alone
pub ask-clerk : (P : Clerk → Type 0) (e : Doing) (a : Asked) → ((l : LogState) → P (record (e.clerk) { log = l })) → P (ask_for a e).clerk
ask-clerk P e a f = by-pick (log_of.pick a e.clerk.log)
  where
    by-pick : (p : Pick) → P (send_picked p e).clerk
    by-pick (pick_of.Batch n ns) = go (log_of.batches_are_spent e.clerk.log)
      where
        go : (z : Bool) → P (elim z as (λ o. Doing) [ true ↦ spend counter.Batch e | false ↦ send_batch n (with_log (log_of.after_pick (pick_of.Batch n ns)) e) ]).clerk
        go true = f e.clerk.log
        go false = f (log_of.after_pick (pick_of.Batch n ns) e.clerk.log)
    by-pick (pick_of.Behind n) = f e.clerk.log
    by-pick (pick_of.Window n) = f e.clerk.log
    by-pick pick_of.Settled = f e.clerk.log

-- of one of two ways
pub either-clerk : (P : Clerk → Type 0) (z : Bool) (d e : Doing) → P d.clerk → P e.clerk → P (elim z as (λ o. Doing) [ true ↦ d | false ↦ e ]).clerk
either-clerk P true d e p q = p
either-clerk P false d e p q = q

-- wants leave all but the wants
pub want-clerk : (P : Clerk → Type 0) (x : ℕ) (m : Hold) (e : Doing) → P (send_want x m e).clerk → P e.clerk → P (want x m e).clerk
want-clerk P x m e p q = either-clerk P (may_want x m e.clerk && not (list_any (is_wanted (wanted x m e.clerk)) e.clerk.wanted)) (send_want x m e) e p q

pub again-clerk : (P : Clerk → Type 0) (x : ℕ) (m : Hold) (sent : List (ℕ × Hold)) (e : Doing) → P (send_want x m e).clerk → P e.clerk → P (resend_want x m sent e).clerk
again-clerk P x m sent e p q = either-clerk P (may_want x m e.clerk && not (list_any (is_need x m) sent)) (send_want x m e) e p q

-- an asking for ids leaves all but its number
pub room-clerk : (P : Clerk → Type 0) (e : Doing) → ((o : Option ℕ) (n : ℕ) → P (record (e.clerk) { asking = o; asks = n })) → P (ask_room e).clerk
room-clerk P e f = either-clerk P (has_session e.clerk && is_none e.clerk.asking) (ask_anew e) e
    (either-clerk P (nat_le (last_counter) e.clerk.asks) (spend counter.Ask e) (send_room (e.clerk.asks + 1) (with_clerk (λ k. record k { asking = Some (k.asks + 1); asks = k.asks + 1 }) e)) (f e.clerk.asking e.clerk.asks) (f (Some (e.clerk.asks + 1)) (e.clerk.asks + 1))) (f e.clerk.asking e.clerk.asks)

module _ (g : System) (c b s : ℕ) (d : Doing) (γ : Ghost) (h : IsInHand g c b s d γ) where
  abbrev u : IsUnderWay g c b s d γ
  u = h.under_way

  abbrev here : System
  here = doing_in c b d γ g

  pub keyed : IsKeyed d.clerk.cache
  keyed = (h.orderly).keyed

  pub trim : IsTrim d.clerk
  trim = trim-of d.clerk h.orderly

  -- it's in hand still
  pub still : (e : Doing) → IsUnderWay g c b s e γ → IsKeyed e.clerk.cache → IsTrim e.clerk → e.clerk.got ≡ d.clerk.got → (Each (Names (view here)) d.clerk.ids → Each (Names (view here)) e.clerk.ids) → IsInHand g c b s e γ
  still e v k t p q = record { under_way = v; orderly = order-of e.clerk k t; names = names-kept g c b s γ d e (moving.own g c b s d γ u) (moving.own g c b s e γ v) p q (moving.there g c b s d γ u) h.names }

  -- what was named before is named now
  pub name-on : (e : Doing) → IsInHand g c b s e γ → e.clerk.got ≡ d.clerk.got → (x : ℕ) → Names (view here) x → Names (view (doing_in c b e γ g)) x
  name-on e i p x f = subst (λ v. Names v x) (sym (view-is g c b s e γ (moving.own g c b s e γ i.under_way)))
      (names-act (view (record g { ghost = γ })) c s d e p x (subst (λ v. Names v x) (view-is g c b s d γ (moving.own g c b s d γ u)) f))

  -- and in the view of the step
  pub name-acting : (x : ℕ) → Names (view here) x → Names (acting (view (record g { ghost = γ })) c s d) x
  name-acting x f = subst (λ v. Names v x) (view-is g c b s d γ (moving.own g c b s d γ u)) f

  -- One message.

  pub sent : (m : Msg) → sessions.Fits here c m → T (is_sound m) → Greets here c m → TokensAgree (acting (view (record g { ghost = γ })) c s (send m d)) → log.Fits (doing_in c b (send m d) γ g) m → IsInHand g c b s (send m d) γ
  sent m fits sound greets agree logs = still (send m d) (moving.says g c b s d γ u m fits sound greets agree logs) keyed trim refl (λ i. i)

  pub claims : IsInHand g c b s (claim d) γ
  claims =
      let all = moving.all g c b s d γ u in
      sent (Claim (session d) (epoch d) (cache.tokens d.clerk.cache)) (moving.mine g c b s d γ u) (claim-sound d.clerk.cache keyed (λ x o p. (all.0).tokens.holds s x (side d.clerk) (ap side_in (moving.there g c b s d γ u)) o p) (session d) (epoch d)) tt
      (goes-claim (view (record g { ghost = γ })) c s d d (omega arith) (moving.goes g c b s d γ u)).agree tt

  pub byes : IsInHand g c b s (send (Bye (session d) (epoch d)) d) γ
  byes = let w = view (record g { ghost = γ }) in let f = moving.goes g c b s d γ u in
      sent (Bye (session d) (epoch d)) (moving.mine g c b s d γ u) tt tt (goes-send w c s d d f (Bye (session d) (epoch d)) (passed-now w c s d d f)).agree tt

  -- of the clerk in its session
  of-own : (P : Clerk → Type 0) → P d.clerk → (k : Clerk) → clerk_in here (session d) ≡ Some k → P k
  of-own P p k i = subst P (same_some (sym (moving.there g c b s d γ u) ∙ subst (λ z. clerk_in here z ≡ Some k) (moving.session-is g c b s d γ u) i)) p

  pub sends-batch : (n : ℕ) → T (is_some (at n d.clerk.log.batches)) → IsInHand g c b s (send_batch n d) γ
  sends-batch n t = sent (Flush (session d) (epoch d) n (log_of.batch n d.clerk.log)) (moving.mine g c b s d γ u) (go (at n d.clerk.log.batches) refl t) tt
      (goes-batch (view (record g { ghost = γ })) c s d n d (moving.goes g c b s d γ u)).agree
      (λ j sl p q r z k i. of-own (λ m. (log_of.batch n d.clerk.log ≡ log_of.batch n m.log) × T (is_some (at n m.log.batches))) (refl, t) k i)
    where
      go : (o : Option (List ℕ)) → at n d.clerk.log.batches ≡ o → T (is_some o) → T (is_sound (Flush (session d) (epoch d) n (log_of.batch n d.clerk.log)))
      go None e t = absurd t
      go (Some ns) e t = flush-sound d.clerk.log trim.2 (session d) (epoch d) n ns e

  pub sends-room : (n : ℕ) → d.clerk.ids ≡ [] → IsInHand g c b s (send_room n d) γ
  sends-room n none = sent (Room (session d) (epoch d) d.clerk.got n) (moving.mine g c b s d γ u) tt tt (goes-room (view (record g { ghost = γ })) c s d n d (moving.goes g c b s d γ u)).agree
      (λ j sl p q r e k i. of-own (λ m. m.ids ≡ []) none k i)

  -- Askings.

  pub asks : (a : Asked) → IsInHand g c b s (ask_for a d) γ
  asks a = still (ask_for a d)
      (moving.under g c b s d γ u (ask_for a d) (asks-stand g c b s d γ u.stands u.age u.owns u.boot u.session u.before a (λ n ns p. picked-sound d.clerk.log trim.2 a s (epoch d) n ns p)) (ask-clerk (λ k. k.session ≡ Some s) d a (λ l. u.session)))
      (ask-clerk (λ k. IsKeyed k.cache) d a (λ l. keyed)) (trim-ask a d trim) (ask-clerk (λ k. k.got ≡ d.clerk.got) d a (λ l. refl))
      (ask-clerk (λ k. Each (Names (view here)) d.clerk.ids → Each (Names (view here)) k.ids) d a (λ l i. i))

  pub rooms : d.clerk.ids ≡ [] → IsInHand g c b s (ask_room d) γ
  rooms none = still (ask_room d) (moving.under g c b s d γ u (ask_room d) (rooms-stand g c b s d γ u.stands u.age u.owns u.boot u.session u.before none) (room-clerk (λ k. k.session ≡ Some s) d (λ o n. u.session)))
      (room-clerk (λ k. IsKeyed k.cache) d (λ o n. keyed)) (trim-room d none trim) (room-clerk (λ k. k.got ≡ d.clerk.got) d (λ o n. refl))
      (room-clerk (λ k. Each (Names (view here)) d.clerk.ids → Each (Names (view here)) k.ids) d (λ o n i. i))

  -- Wants.

  module _ (x : ℕ) (m : Hold) (held : T (is_held_mode m)) (names : Names (view here) x) where
    pub wants : IsInHand g c b s (want x m d) γ
    wants = still (want x m d) (moving.under g c b s d γ u (want x m d) (wants-stand g c b s d γ u.stands u.age u.owns u.boot u.session u.before x m held names) (want-clerk (λ k. k.session ≡ Some s) x m d u.session u.session))
        (want-clerk (λ k. IsKeyed k.cache) x m d keyed keyed) (want-clerk IsTrim x m d trim trim) (want-clerk (λ k. k.got ≡ d.clerk.got) x m d refl refl)
        (want-clerk (λ k. Each (Names (view here)) d.clerk.ids → Each (Names (view here)) k.ids) x m d (λ i. i) (λ i. i))

    pub wants-again : (sent : List (ℕ × Hold)) → IsInHand g c b s (resend_want x m sent d) γ
    wants-again sent = still (resend_want x m sent d)
        (moving.under g c b s d γ u (resend_want x m sent d) (wants-again-stand g c b s d γ u.stands u.age u.owns u.boot u.session u.before x m held names sent) (again-clerk (λ k. k.session ≡ Some s) x m sent d u.session u.session))
        (again-clerk (λ k. IsKeyed k.cache) x m sent d keyed keyed) (again-clerk IsTrim x m sent d trim trim) (again-clerk (λ k. k.got ≡ d.clerk.got) x m sent d refl refl)
        (again-clerk (λ k. Each (Names (view here)) d.clerk.ids → Each (Names (view here)) k.ids) x m sent d (λ i. i) (λ i. i))
