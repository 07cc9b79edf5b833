-- Whole functions of a clerk that is in a session: wants, askings for ids, and batches, with all facts.
use Rattle.std.proofs.Common.{◌≡◌, refl, sym, ap, subst, ◌∙◌, ◌+◌, ℕ, Bool, true, false, not, ◌==◌, ◌&&◌, map, T, List, [], ◌∷◌, Some, None}
use Rattle.std.specs.Prelude.{is_none, nat_le}
use Rattle.std.specs.List.{list_any}
use Rattle.ec_base.specs.Limits.{last_counter}
use Rattle.ec_base.specs.Tables.{or_else}
use Rattle.ec_base.specs.declared.counter.Counter.{Counter}
use Rattle.ec_base.specs.declared.counter.Counter.TheVariants as counter
use Rattle.ec_base.specs.declared.ids.Age.{Age}
use Rattle.ec_base.specs.declared.ids.Hold.{Hold}
use Rattle.ec_history.specs.History.{Each}
use Rattle.ec_wire.specs.Messages.{is_held_mode, is_sound}
use Rattle.ec_wire.specs.declared.msg.Msg.{Msg}
use Rattle.ec_wire.specs.declared.msg.Msg.TheVariants.{Flush, Room, Want}
use Rattle.ec_cache.specs.Cache.{last}
use Rattle.ec_log.specs.Log.{after_pick, batch, batches_are_spent, pick}
use Rattle.ec_log.specs.declared.state.Asked.{Asked}
use Rattle.ec_log.specs.declared.state.Pick.{Pick}
use Rattle.ec_log.specs.declared.state.Pick.TheVariants as pick_of
use Rattle.ec_protocol.specs.Clerk.{Doing, ask_for, ask_room, epoch, has_session, is_need, is_wanted, may_want, resend_want, send_picked, send_room, send_want, session, spend, want, wanted}
use Rattle.ec_protocol.specs.declared.clerk.Clerk.{Clerk}
use Rattle.ec_coherence.specs.System.{System, Ghost, clerk_in, clerk_of, if_in}
use Rattle.ec_coherence.specs.Clerks.{acting}
use Rattle.ec_coherence.specs.Sessions.{IsOf}
use Rattle.ec_coherence.specs.Tokens.{Names, TokensAgree, side, view}
use Rattle.ec_coherence.specs.Log as log
use Rattle.ec_coherence.specs.Steps.{doing_in}
use Rattle.ec_coherence.specs.ChangeLaws.{IsInIt, LogsAndImages, with_clerk}
use Rattle.ec_coherence.proofs.ForClerk.Acting.{IsIn, view-is}
use Rattle.ec_coherence.proofs.ForBatches.ClerkIn.{now-in}
use Rattle.ec_coherence.proofs.ForClerk.Goes.{goes-ask}
use Rattle.ec_coherence.proofs.ForBatches.LogChange.{pick-images, pick-logs}
use Rattle.ec_coherence.proofs.ForClerk.OnSystem.{kept}
use Rattle.ec_coherence.proofs.ForClerk.SendWant.{goes-ask-room, goes-want-again, goes-want-once}
use Rattle.ec_coherence.proofs.ForServer.Tables.{same_some}
use Rattle.ec_coherence.specs.CommitLaws.{AllAgree}
use Rattle.ec_coherence.specs.StandLaws.{AreSent, ClerkStands, SessionGoesOn as GoesOn, sending}
use Rattle.ec_coherence.proofs.Doings as going
use Rattle.ec_coherence.proofs.Doings.{goes-on-stand}
use Rattle.ec_coherence.proofs.Rests.{rests-both}

module _ (g : System) (c b s : ℕ) (d : Doing) (γ : Ghost) (st : ClerkStands g c b d γ) (age : Age) (owns : γ.owner s ≡ Some (c, age)) (boot : age.boot ≡ b) (in_it : d.clerk.session ≡ Some s)
    (before : (t : ℕ) → (t == s) ≡ false → if_in t (g.clerks c b) ≡ None) where
  abbrev here : System
  here = doing_in c b d γ g

  all : AllAgree here
  all = ((st.0).invariant, st.1, st.2, st.3)

  own : IsIn g γ c b s d.clerk
  own = record { session = in_it; age = age; owner = owns; boot = boot; before = before }

  its : IsInIt here c s age d.clerk
  its = going.in-it g c b s d γ st age owns boot in_it d.clerk (record { id = refl; age = refl; session = refl; owed = refl; next = refl }) []

  now-session : session d ≡ s
  now-session = ap (or_else 0) in_it

  mine : IsOf here c (session d)
  mine = subst (IsOf here c) (sym now-session) (age, owns)

  -- a counter is spent
  spends : (n : Counter) → ClerkStands g c b (spend n d) γ
  spends n = (record { runs = (st.0).runs; shown = (st.0).shown; invariant = (st.0).invariant }, st.1, st.2, st.3)

  abbrev said : List Msg → List (ℕ × Msg)
  said ms = map (λ m. (c, m)) ms

  -- a change of what no fact reads, with these messages
  rests : (now : Clerk) (on : GoesOn d.clerk now) → side now ≡ side d.clerk → now.ids ≡ d.clerk.ids → now.log ≡ d.clerk.log → (ms : List Msg) → AreSent here (said ms)
      → Each {A = ℕ × Msg} (λ m. log.Fits (doing_in c b (sending now ms d) γ g) m.1) (said ms) → TokensAgree (view (doing_in c b (sending now ms d) γ g)) → ClerkStands g c b (sending now ms d) γ
  rests now on same_side same_ids same_log ms sent fits tokens =
      let path = going.system-is g c b s d γ st age owns boot in_it now on ms in
      goes-on-stand g c b s d γ st age owns boot in_it now on ms sent tokens
      (subst LogsAndImages path (rests-both here all c s age d.clerk now its on same_side same_ids same_log here.calls (said ms) (subst (λ h. Each {A = ℕ × Msg} (λ m. log.Fits h m.1) (said ms)) (sym path) fits)))

  -- Wants.

  module _ (x : ℕ) (h : Hold) (held : T (is_held_mode h)) (names : Names (view here) x) where
    acting-names : Names (acting (view (record g { ghost = γ })) c s d) x
    acting-names = subst (λ v. Names v x) (view-is g c b s d γ own) names

    sends-want : TokensAgree (view (doing_in c b (send_want x h d) γ g)) → ClerkStands g c b (send_want x h d) γ
    sends-want tokens = rests (record (d.clerk) { wanted = wanted x h d.clerk ∷ d.clerk.wanted }) (record { id = refl; age = refl; session = refl; owed = refl; next = refl }) refl refl refl
        (Want (session d) (epoch d) x h (last x d.clerk.cache) ∷ []) ((mine, held, tt), tt) (tt, tt) tokens

    pub wants-stand : ClerkStands g c b (want x h d) γ
    wants-stand = go (may_want x h d.clerk && not (list_any (is_wanted (wanted x h d.clerk)) d.clerk.wanted))
        (kept g c b s d γ own (want x h) (λ z. goes-want-once (view (record g { ghost = γ })) c s d x h held acting-names d z) (all.0).tokens)
      where
        go : (z : Bool) → TokensAgree (view (doing_in c b (elim z as (λ y. Doing) [ true ↦ send_want x h d | false ↦ d ]) γ g)) → ClerkStands g c b (elim z as (λ y. Doing) [ true ↦ send_want x h d | false ↦ d ]) γ
        go true tokens = sends-want tokens
        go false tokens = st

    pub wants-again-stand : (sent : List (ℕ × Hold)) → ClerkStands g c b (resend_want x h sent d) γ
    wants-again-stand sent = go (may_want x h d.clerk && not (list_any (is_need x h) sent))
        (kept g c b s d γ own (resend_want x h sent) (λ z. goes-want-again (view (record g { ghost = γ })) c s d x h held acting-names sent d z) (all.0).tokens)
      where
        go : (z : Bool) → TokensAgree (view (doing_in c b (elim z as (λ y. Doing) [ true ↦ send_want x h d | false ↦ d ]) γ g)) → ClerkStands g c b (elim z as (λ y. Doing) [ true ↦ send_want x h d | false ↦ d ]) γ
        go true tokens = sends-want tokens
        go false tokens = st

  -- Ids are asked for where none is left.

  module _ (none : d.clerk.ids ≡ []) where
    abbrev asking : Clerk
    asking = record (d.clerk) { asking = Some (d.clerk.asks + 1); asks = d.clerk.asks + 1 }

    abbrev asks : Doing
    asks = send_room (d.clerk.asks + 1) (record d { clerk = asking })

    goes : GoesOn d.clerk asking
    goes = record { id = refl; age = refl; session = refl; owed = refl; next = refl }

    there-now : clerk_in (doing_in c b asks γ g) s ≡ Some asking
    there-now = subst (λ f. clerk_of s (γ.owner s) f ≡ Some asking) (going.same-clerks g c b s d γ st age owns boot in_it asking goes []) (now-in γ.owner here.clerks c s age d.clerk asking owns (its.start).stands in_it in_it)

    fits : log.Fits (doing_in c b asks γ g) (Room (session d) (epoch d) d.clerk.got (d.clerk.asks + 1))
    fits e sl p q o same k there =
        let now : clerk_in (doing_in c b asks γ g) (session d) ≡ Some asking = subst (λ z. clerk_in (doing_in c b asks γ g) z ≡ Some asking) (sym now-session) there-now in
        ap (λ z. z.ids) (same_some (sym there ∙ now)) ∙ none

    pub rooms-stand : ClerkStands g c b (ask_room d) γ
    rooms-stand = go (has_session d.clerk && is_none d.clerk.asking) (nat_le last_counter d.clerk.asks) (kept g c b s d γ own ask_room (λ z. goes-ask-room (view (record g { ghost = γ })) c s d d z) (all.0).tokens)
      where
        go : (z y : Bool) → TokensAgree (view (doing_in c b (elim z as (λ o. Doing) [ true ↦ elim y as (λ o. Doing) [ true ↦ spend counter.Ask d | false ↦ asks ] | false ↦ d ]) γ g))
            → ClerkStands g c b (elim z as (λ o. Doing) [ true ↦ elim y as (λ o. Doing) [ true ↦ spend counter.Ask d | false ↦ asks ] | false ↦ d ]) γ
        go false y tokens = st
        go true true tokens = spends counter.Ask
        go true false tokens = rests asking goes refl refl refl (Room (session d) (epoch d) d.clerk.got (d.clerk.asks + 1) ∷ []) ((mine, tt, tt), tt) (fits, tt) tokens

  -- Batches: one is picked and sent, where its Flush is within the ranges of messages.

  module _ (a : Asked) (n : ℕ) (ns : List ℕ) (picked : pick a d.clerk.log ≡ pick_of.Batch n ns) (unspent : batches_are_spent d.clerk.log ≡ false)
      (sound : T (is_sound (Flush s (epoch d) n (batch n (after_pick (pick_of.Batch n ns) d.clerk.log))))) where
    abbrev with_batch : Clerk
    with_batch = record (d.clerk) { log = after_pick (pick_of.Batch n ns) d.clerk.log }

    abbrev flush : ℕ → Msg
    flush z = Flush z (epoch d) n (batch n with_batch.log)

    sends-picked : TokensAgree (view (doing_in c b (sending with_batch (flush (session d) ∷ []) d) γ g)) → ClerkStands g c b (sending with_batch (flush (session d) ∷ []) d) γ
    sends-picked tokens =
        let on : GoesOn d.clerk with_batch = record { id = refl; age = refl; session = refl; owed = refl; next = refl } in
        goes-on-stand g c b s d γ st age owns boot in_it with_batch on (flush (session d) ∷ []) ((mine, subst (λ z. T (is_sound (flush z))) (sym now-session) sound, tt), tt) tokens
        (subst LogsAndImages (going.system-is g c b s d γ st age owns boot in_it with_batch on (flush (session d) ∷ []))
        (subst (λ z. LogsAndImages (with_clerk here c age.boot with_batch here.calls ((c, flush z) ∷ []))) (sym now-session)
        (pick-logs here (all.0).logs (all.0).images c s age d.clerk owns (its.start).stands in_it here.calls a n ns picked unspent (epoch d), pick-images here (all.0).logs (all.0).images c s age d.clerk owns (its.start).stands in_it here.calls a n ns picked unspent (epoch d))))

  pub asks-stand : (a : Asked) → ((n : ℕ) (ns : List ℕ) → pick a d.clerk.log ≡ pick_of.Batch n ns → T (is_sound (Flush s (epoch d) n (batch n (after_pick (pick_of.Batch n ns) d.clerk.log))))) → ClerkStands g c b (ask_for a d) γ
  asks-stand a sound = by-pick (pick a d.clerk.log) refl (kept g c b s d γ own (ask_for a) (λ z. goes-ask (view (record g { ghost = γ })) c s d a d z) (all.0).tokens)
    where
      by-pick : (p : Pick) → pick a d.clerk.log ≡ p → TokensAgree (view (doing_in c b (send_picked p d) γ g)) → ClerkStands g c b (send_picked p d) γ
      by-pick (pick_of.Batch n ns) e tokens = go (batches_are_spent d.clerk.log) refl tokens
        where
          go : (z : Bool) → batches_are_spent d.clerk.log ≡ z → TokensAgree (view (doing_in c b (elim z as (λ o. Doing) [ true ↦ spend counter.Batch d | false ↦ sending (record (d.clerk) { log = after_pick (pick_of.Batch n ns) d.clerk.log }) (Flush (session d) (epoch d) n (batch n (after_pick (pick_of.Batch n ns) d.clerk.log)) ∷ []) d ]) γ g))
              → ClerkStands g c b (elim z as (λ o. Doing) [ true ↦ spend counter.Batch d | false ↦ sending (record (d.clerk) { log = after_pick (pick_of.Batch n ns) d.clerk.log }) (Flush (session d) (epoch d) n (batch n (after_pick (pick_of.Batch n ns) d.clerk.log)) ∷ []) d ]) γ
          go true u tokens = spends counter.Batch
          go false u tokens = sends-picked a n ns e u (sound n ns e) tokens
      by-pick _ e tokens = st
