-- A clerk in a session takes a message.
use Rattle.std.proofs.Common.{◌≡◌, refl, sym, ap, subst, ◌∙◌, ℕ, Bool, true, false, not, ◌&&◌, T, ◌≤◌, List, [], ◌∷◌, ◌++◌}
use Rattle.std.specs.Prelude.{Option, ◌==◌, None, Some, is_some, nat_lt, nat_le}
use Rattle.ec_base.specs.declared.counter.Counter.TheVariants as counter
use Rattle.ec_base.specs.declared.ids.Age.{Age}
use Rattle.ec_history.specs.declared.entry.Answer.TheVariants as answer
use Rattle.ec_base.specs.Tables.{keys}
use Rattle.ec_log.specs.Log as log
use Rattle.ec_sessions.specs.declared.window.Window.{Window}
use Rattle.ec_wire.specs.declared.msg.Msg.{Msg}
use Rattle.ec_wire.specs.declared.msg.Msg.TheVariants.{Hello, Want, Back, Flush, Room, Claim, Bye, Opened, Grant, Recall, Kept, Ids, NoRoom, Ended, Restarted, OldBoot}
use Rattle.ec_cache.specs.Cache as cache
use Rattle.ec_cache.specs.Cache.{last}
use Rattle.ec_order.specs.Order.{Issued}
use Rattle.ec_protocol.specs.declared.clerk.Waiting.{Waiting}
use Rattle.ec_protocol.specs.declared.clerk.Out.TheVariants as out
use Rattle.ec_protocol.specs.Clerk.{Doing, send, emit, spend, with_clerk, with_cache, with_log, session, epoch, has_session, is_session, in_session, hello, same_age, take_recall, mark_recall, keep_recall, take_ids, add_ids, idless, refuse_make, keep_call, verdict, refuse_makes, take_no_room, enter_epoch, take_restarted, lose, take_ended, take_old_boot, taken, claim, send_outstanding}
use Rattle.ec_coherence.specs.Clerks.{NeedsNamed, acting}
use Rattle.ec_coherence.specs.System.{System, Ghost}
use Rattle.ec_coherence.specs.Steps.{sends, doing_in}
use Rattle.ec_coherence.specs.Tokens.{View, view, Fits, TokensAgree}
use Rattle.ec_coherence.proofs.ForClerk.Acting.{IsIn, sends-more}
use Rattle.ec_coherence.proofs.ForClerk.Answer.{goes-used, goes-answer}
use Rattle.ec_coherence.proofs.ForClerk.Goes.{Goes, goes-send, goes-rest, goes-log, goes-show, passed-now}
use Rattle.ec_coherence.proofs.ForClerk.OnSystem.{leaves, greets}
use Rattle.ec_coherence.proofs.ForClerk.Restarted.{goes-restarted, goes-outstanding}
use Rattle.ec_coherence.proofs.ForClerk.SendClaim.{goes-claim}
use Rattle.ec_coherence.proofs.ForClerk.TakeGrant.{by-session, take-grant-agrees}
use Rattle.ec_coherence.proofs.ForClerk.TakeIds.{take-ids-agrees}
use Rattle.ec_coherence.proofs.ForClerk.TakeRecall.{take-recall-agrees}

-- the step as it is now stands in the session
abbrev pub Stays : View → ℕ → ℕ → Doing → Type 0
Stays w c s d = Goes w c s d d

session-kept : (d : Doing) (s t e : ℕ) (f : Doing → Doing) → d.clerk.session ≡ Some s → (f d).clerk.session ≡ d.clerk.session → (in_session t e f d).clerk.session ≡ Some s
session-kept d s t e f own same = by-session (λ z. z.clerk.session ≡ Some s) d s t e f own own (λ p q. same ∙ own)

recall-session : (x n : ℕ) (to : _) (d : Doing) → (take_recall x n to d).clerk.session ≡ d.clerk.session
recall-session x n to d = go (nat_lt n (last x d.clerk.cache))
  where
    go : (b : Bool) → (elim b as (λ z. Doing) [ true ↦ d | false ↦ keep_recall (record { obj = x; number = n; to = to }) (with_cache (mark_recall x to) d) ]).clerk.session ≡ d.clerk.session
    go true = refl
    go false = refl

ids-session : (got n first : ℕ) (d : Doing) → (take_ids got n first d).clerk.session ≡ d.clerk.session
ids-session got n first d = go (got == d.clerk.got)
  where
    room : (b : Bool) → (elim b as (λ z. Doing) [ true ↦ spend counter.Id d | false ↦ with_clerk (add_ids n first) d ]).clerk.session ≡ d.clerk.session
    room true = refl
    room false = refl

    go : (b : Bool) → (elim b as (λ z. Doing) [ false ↦ d | true ↦ elim (nat_le 4294967295 got) as (λ z. Doing) [ true ↦ spend counter.Id d | false ↦ with_clerk (add_ids n first) d ] ]).clerk.session ≡ d.clerk.session
    go false = refl
    go true = room (nat_le 4294967295 got)

module _ (w : View) (c s : ℕ) (d : Doing) where
  -- calls that wait for ids are refused
  goes-refuse : (live reserved : ℕ) (ws : List Waiting) (e : Doing) → Goes w c s d e → Goes w c s d (refuse_makes live reserved ws e)
  goes-refuse live reserved [] e g = g
  goes-refuse live reserved (p ∷ ws) e g = goes-refuse live reserved ws _ (go (idless (verdict p.call e.clerk)))
    where
      go : (o : Option (List ℕ)) → Goes w c s d (elim o as (λ z. Doing) [ Some xs ↦ refuse_make live reserved p.no xs e | None ↦ keep_call p e ])
      go (Some xs) = goes-answer w c s d _ (goes-used w c s d e g xs) p.no (answer.NoRoom live reserved) None
      go None = goes-rest w c s d e g (record (e.clerk) { waiting = e.clerk.waiting ++ p ∷ [] }) refl refl

  goes-no-room : (ask live reserved : ℕ) (e : Doing) → Goes w c s d e → Goes w c s d (take_no_room ask live reserved e)
  goes-no-room ask live reserved e g = go (is_session ask e.clerk.asking)
    where
      go : (b : Bool) → Goes w c s d (elim b [ true ↦ refuse_makes live reserved e.clerk.waiting (with_clerk (λ k. record k { asking = None; waiting = [] }) e) | false ↦ e ])
      go true = goes-refuse live reserved e.clerk.waiting _ (goes-rest w c s d e g (record (e.clerk) { asking = None; waiting = [] }) refl refl)
      go false = g

  goes-old-boot : (asked greatest : Age) (e : Doing) → Goes w c s d e → Goes w c s d (take_old_boot asked greatest e)
  goes-old-boot asked greatest e g = go (same_age asked e.clerk.age)
    where
      go : (b : Bool) → Goes w c s d (elim b [ true ↦ emit (out.OldBoot greatest) e | false ↦ e ])
      go true = goes-show w c s d e g (out.OldBoot greatest) refl
      go false = g

  stays : (e : Doing) → Goes w c s d e → Stays w c s e
  stays e g = record { session = g.session; got = refl; agree = g.agree }

module _ (w : View) (c s : ℕ) (d : Doing) (here : Stays w c s d) where
  has-one : has_session d.clerk ≡ true
  has-one = ap is_some here.session

  -- what the calls need is asked for again after a restart
  module _ (next : w.next_token ≤ w.next_id) (needed : NeedsNamed w c s d d.clerk) (needed-then : (a : ℕ) → NeedsNamed w c s d (enter_epoch a d.clerk)) where
    -- Any message but the one that the session has ended.
    pub taken-stays : (m : Msg) → Fits (acting w c s d) m → ((t l i : ℕ) → m ≡ Ended t l i → is_session t d.clerk.session ≡ false) → Stays w c s (taken m d)
    taken-stays (Opened age t e) f n = subst (λ z. Stays w c s (elim (not z && same_age age d.clerk.age) [ true ↦ send (Claim t e []) (with_clerk (λ k. record k { session = Some t; epoch = e }) d) | false ↦ d ])) (sym has-one) here
    taken-stays (Grant t e x m h i) f n = record { session = session-kept d s t e (with_cache (cache.take x h m i)) here.session refl; got = refl; agree = take-grant-agrees w c s t e x m h i d here.session here.agree f }
    taken-stays (Recall t e x m to) f n = record { session = session-kept d s t e (take_recall x m to) here.session (recall-session x m to d); got = refl; agree = take-recall-agrees w c s t e x m to d here.session here.agree f }
    taken-stays (Kept t e b) f n = go (is_session t d.clerk.session)
      where
        go : (z : Bool) → Stays w c s (elim z [ true ↦ with_log (log.kept b) d | false ↦ d ])
        go true = stays w c s d _ (goes-log w c s d (log.kept b) d here)
        go false = here
    taken-stays (Ids t e got m first) f n = record { session = session-kept d s t e (take_ids got m first) here.session (ids-session got m first d); got = refl; agree = take-ids-agrees w c s t e got m first d here.session here.agree f }
    taken-stays (NoRoom t e ask live reserved) f n = stays w c s d _ (goes-no-room w c s d ask live reserved d here)
    taken-stays (Ended t l i) f n = subst (λ z. Stays w c s (elim z [ false ↦ hello d | true ↦ elim (is_session t d.clerk.session) [ true ↦ take_ended (record { low = l; mask = i }) d | false ↦ d ] ])) (sym has-one)
        (subst (λ z. Stays w c s (elim z [ true ↦ take_ended (record { low = l; mask = i }) d | false ↦ d ])) (sym (n t l i refl)) here)
    taken-stays (Restarted t a) f n = subst (λ z. Stays w c s (elim z [ false ↦ hello d | true ↦ elim (is_session t d.clerk.session) [ true ↦ take_restarted a d | false ↦ d ] ])) (sym has-one) (go (is_session t d.clerk.session))
      where
        go : (z : Bool) → Stays w c s (elim z [ true ↦ take_restarted a d | false ↦ d ])
        go true = stays w c s d _ (goes-restarted w c s d next a d here f needed (needed-then a))
        go false = here
    taken-stays (OldBoot asked greatest) f n = stays w c s d _ (goes-old-boot w c s d asked greatest d here)
    taken-stays (Hello i a) f n = here
    taken-stays (Want t e x h m) f n = here
    taken-stays (Back t e x m h) f n = here
    taken-stays (Flush t e b ops) f n = here
    taken-stays (Room t e got ask) f n = here
    taken-stays (Claim t e l) f n = here
    taken-stays (Bye t e) f n = here

    -- all is sent again
    pub resends : Stays w c s (send_outstanding (claim d))
    resends = stays w c s d _ (goes-outstanding w c s d next (claim d) (goes-claim w c s d d next here) needed)

  -- it says that it goes
  pub byes : Stays w c s (send (Bye (session d) (epoch d)) d)
  byes = stays w c s d _ (goes-send w c s d d here (Bye (session d) (epoch d)) (passed-now w c s d d here))

-- The session has ended: the clerk loses it, tells the operations lost, and greets anew.
pub ended-agrees : (g : System) (c b s : ℕ) (d : Doing) (γ : Ghost) (v : Window) → IsIn g γ c b s d.clerk → T (not ((view (doing_in c b d γ g)).is_open s)) → TokensAgree (view (doing_in c b d γ g)) → TokensAgree (view (doing_in c b (take_ended v d) γ g))
ended-agrees g c b s d γ v own over agree = go (nat_le 4294967295 d.clerk.age.round)
  where
    ops : Issued
    ops = log.lost v d.clerk.log

    none : (xs : List (ℕ × Msg)) → xs ++ [] ≡ xs
    none [] = refl
    none (x ∷ xs) = ap (λ z. x ∷ z) (none xs)

    lost : TokensAgree (view (doing_in c b (with_clerk (lose (log.lost v d.clerk.log)) d) γ g))
    lost = leaves g c b s d γ own (lose (log.lost v d.clerk.log) d.clerk) refl over agree

    told : TokensAgree (view (doing_in c b (emit (out.Told (keys (log.lost v d.clerk.log))) (with_clerk (lose (log.lost v d.clerk.log)) d)) γ g))
    told = subst (λ p. TokensAgree (record (view (doing_in c b (with_clerk (lose (log.lost v d.clerk.log)) d) γ g)) { pool = g.pool ++ p })) (sym (sends-more c d.outs (out.Told (keys (log.lost v d.clerk.log)) ∷ []) ∙ none (sends c d.outs))) lost

    go : (z : Bool) → TokensAgree (view (doing_in c b (elim z [
      | true ↦ spend counter.Round d
      | false ↦ hello (emit (out.Told (keys (log.lost v d.clerk.log))) (with_clerk (lose (log.lost v d.clerk.log)) d))
    ]) γ g))
    go true = agree
    go false = greets g c b (emit (out.Told (keys (log.lost v d.clerk.log))) (with_clerk (lose (log.lost v d.clerk.log)) d)) γ told
