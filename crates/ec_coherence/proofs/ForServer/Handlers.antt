-- What the server's functions on one message keep: the whole invariant, for those that change only tables or say something.
use Rattle.std.proofs.Common.{◌≡◌, refl, sym, ap, subst, ◌∙◌, inl, inr, arith, ℕ, Bool, true, false, not, ◌&&◌, ◌||◌, ◌+◌, T, ◌≤◌, ◌<◌, [], ◌∷◌}
use Rattle.std.specs.Prelude.{◌==◌, Option, None, Some, is_some, nat_lt, nat_le}
use Rattle.std.specs.List.{list_all}
use Rattle.ec_base.specs.Tables.{Table, at, put, keys}
use Rattle.ec_base.specs.declared.counter.Counter.TheVariants as counter
use Rattle.ec_sessions.specs.Slots.{run}
use Rattle.ec_base.specs.declared.ids.Hold.{Hold}
use Rattle.ec_base.specs.declared.ids.Hold.TheVariants.{Free, Read, Write}
use Rattle.ec_volume.specs.Update.{member}
use Rattle.ec_volume.specs.Volume.{images}
use Rattle.ec_base.specs.Holds.{rank, is_write, is_free, clash}
use Rattle.ec_sessions.specs.OfTokens.Tokens as tokens
use Rattle.ec_sessions.specs.declared.tokens.token.Token.{Token}
use Rattle.ec_sessions.specs.OfRecall.Wants.{noted}
use Rattle.ec_wire.specs.Messages.{is_sound, is_held_mode, rises}
use Rattle.ec_wire.specs.declared.msg.Msg.TheVariants.{Want, Back, Grant, Claim, Ids}
use Rattle.ec_cache.specs.Cache.{last}
use Rattle.ec_cache.specs.declared.state.Held.{Held}
use Rattle.ec_protocol.specs.Server.{Serving, back, note, want, send_grant, tell, with_ids, record_ids, is_last_number, with_server, first_spent}
use Rattle.ec_coherence.specs.System.{System, Ghost, Eff, is_open, eff_from, recorded}
use Rattle.ec_coherence.specs.Sessions.{IsOf}
use Rattle.ec_coherence.specs.Tokens.{Tables, View, Side, InSession, Below, Apart, IsWrite, Names, Wanted, ClaimFits, IdsFit, Fits, eff, view, tables_of, TokensAgree}
use Rattle.ec_coherence.specs.Steps.{serving_in, Under}
use Rattle.ec_coherence.proofs.ForServer.Back.{back-agrees}
use Rattle.ec_coherence.proofs.ForServer.Claimed.{claimed-agrees}
use Rattle.ec_coherence.proofs.ForServer.RecordIds as ids
use Rattle.ec_coherence.proofs.ForServer.Frames.{retabled-keeps, tell-stands}
use Rattle.ec_coherence.proofs.ForServer.Noted.{note-agrees, want-noted}
use Rattle.ec_coherence.proofs.ForServer.Serve.{NoWriter}
use Rattle.ec_coherence.proofs.ForServer.ServerSound.{server-sound}
use Rattle.ec_coherence.proofs.ForServer.Settled.{settled}
use Rattle.ec_coherence.proofs.ForServer.Tables.{held-mode, same_some}
use Rattle.ec_coherence.proofs.ForServer.Was.{eff-is, was-below, was-apart}
use Rattle.ec_base.proofs.Options.{none_some}
use Rattle.ec_base.proofs.Numbers.{equal}
use Rattle.ec_base.proofs.Bools.{not-both as refutes, holds-true as holds}

module _ (g : System) (γ : Ghost) (t : Serving) (u : Under g t γ) where
  abbrev here : System
  here = serving_in t γ g

  abbrev w : View
  w = view here

  abbrev v : Tables
  v = tables_of t.server

  agree : TokensAgree w
  agree = u.invariant.tokens

  -- of a session that isn't open nothing recorded is effective
  old-eff : (s x : ℕ) → T (not (is_open here s)) → member s t.server.claimed ≡ false
  old-eff s x o = go (member s t.server.claimed) refl
    where
      go : (b : Bool) → member s t.server.claimed ≡ b → b ≡ false
      go true e = absurd (refutes (is_open here s) (agree.tables.are_open s (holds (member s t.server.claimed) e)) o)
      go false e = refl

  pub closed-eff : (ts : tokens.Tokens) (s x : ℕ) → T (not (is_open here s))
      → eff_from (member s t.server.claimed) (tokens.token ts s x) t.server.durable.epoch (γ.old s x) ≡ eff_from (member s t.server.claimed) (tokens.token t.server.tokens s x) t.server.durable.epoch (γ.old s x)
  closed-eff ts s x o = ap (λ b. eff_from b (tokens.token ts s x) t.server.durable.epoch (γ.old s x)) (old-eff s x o) ∙ sym (ap (λ b. eff_from b (tokens.token t.server.tokens s x) t.server.durable.epoch (γ.old s x)) (old-eff s x o))

  module _ (s x : ℕ) (claimed : T (member s t.server.claimed)) where
    pub back-stands : (e n : ℕ) (h : Hold) → Fits w (Back s e x n h) → e ≡ t.server.durable.epoch → Under g (back s x n h t) γ
    back-stands e n h f now = go (tokens.fits_back (tokens.token t.server.tokens s x) n h) refl
      where
        go : (b : Bool) → tokens.fits_back (tokens.token t.server.tokens s x) n h ≡ b → Under g (elim b as (λ z. Serving) [ true ↦ record t { server = record (t.server) { tokens = tokens.lowered s x h n t.server.tokens } } | false ↦ t ]) γ
        go true p = record {
          committed = u.committed;
          shown = u.shown;
          invariant = retabled-keeps g γ t (tokens.lowered s x h n t.server.tokens) t.server.recalls t.server.claimed t.server.number t.server.recorded u.invariant
              (back-agrees w v s e x n h agree claimed now f.1 f.2 p) (λ a y o. closed-eff (tokens.lowered s x h n t.server.tokens) a y o);
        }
        go false p = u

    pub note-stands : (h : Hold) → Wanted w v s x h → Under g (note s x h t) γ
    note-stands h f = record {
      committed = u.committed;
      shown = u.shown;
      invariant = retabled-keeps g γ t t.server.tokens (noted s x h t.server.recalls) t.server.claimed t.server.number t.server.recorded u.invariant (note-agrees w v s x h agree f) (λ a y o. refl);
    }

    -- a token that the clerk doesn't have yet keeps all others from writing, and the clerk too
    no-writer : (k : Token) → tokens.token t.server.tokens s x ≡ Some k → (l : ℕ) → InSession w s (λ z. last x z.cache < k.number) → NoWriter w x
    no-writer k p l fresh a o z i = go (a == s) refl
      where
        own : (z : Side) → w.clerk s ≡ Some z → ¬ (IsWrite (at x z.cache.held))
        own z i = by (at x z.cache.held) (subst (λ c. Below z.epoch (last x z.cache) (at x z.cache.held) (recorded c w.epoch)) p (was-below w v s agree claimed x z i)) (fresh z i)
          where
            by : (c : Option Held) → Below z.epoch (last x z.cache) c (Some (record { hold = k.hold; number = k.number; epoch = w.epoch })) → last x z.cache < k.number → ¬ (IsWrite c)
            by None b l q = q
            by (Some d) b l q = elim (b.2) [ inl r ↦ refutes (is_write d.hold) q (r.2 (let m = b.1 in omega arith)) | inr r ↦ absurd (let m = r.0 in let y = agree.tables.epochs s claimed z i in omega arith) ]

        clash-write : (b c d : Hold) → T (is_held_mode b) → T (not (clash b c)) → rank d ≤ rank c → T (is_write d) → ⊥
        clash-write Free c d h n l q = h
        clash-write Read Free Write h n l q = absurd (omega arith)
        clash-write Read Read Write h n l q = absurd (omega arith)
        clash-write Read Write d h n l q = n
        clash-write Write Free Write h n l q = absurd (omega arith)
        clash-write Write Read d h n l q = n
        clash-write Write Write d h n l q = n
        clash-write b c Read h n l q = q
        clash-write b c Free h n l q = q

        other : (a == s) ≡ false → ¬ (IsWrite (at x z.cache.held))
        other d = by (at x z.cache.held) (eff w a x) (agree.below a x z i) (subst (λ c. Apart (recorded c w.epoch) (eff w a x)) p (was-apart w v s agree claimed a x d o))
          where
            by : (c : Option Held) (f : Option Eff) → Below z.epoch (last x z.cache) c f → Apart (Some (record { hold = k.hold; number = k.number; epoch = w.epoch })) f → ¬ (IsWrite c)
            by None f b n q = q
            by (Some y) None b n q = b
            by (Some y) (Some f) b n q = clash-write k.hold f.hold y.hold (held-mode k.hold (agree.tables.sound.held s x k p)) n b.0 q

        go : (b : Bool) → (a == s) ≡ b → ¬ (IsWrite (at x z.cache.held))
        go true e = own z (subst (λ y. w.clerk y ≡ Some z) (equal a s e) i)
        go false e = other e

    -- the recorded token goes out again
    regrant-stands : (c : ℕ) (k : Token) → tokens.token t.server.tokens s x ≡ Some k → IsOf here c s → T (w.taken s) → Names w x → Under g (send_grant c s x k.hold k.number t) γ
    regrant-stands c k p of_clerk taken names = tell-stands g γ t c (Grant s t.server.durable.epoch x k.number k.hold (images t.server.durable.volume x)) u of_clerk (both _ _ mode (server-sound here u.invariant.logs u.invariant.images x)) (
      (taken, omega arith, λ z i. (let q = agree.tables.epochs s claimed z i in omega arith)),
      (λ a o. (claimed, agree.tables.numbers s x k p)),
      mode,
      names,
      λ z i a l. (
        eff-is w v s agree claimed x ∙ ap (λ o. recorded o w.epoch) p,
        settled here u.invariant x (no-writer k p 0 (only z i l)) s (agree.tables.are_open s claimed),
        no-writer k p 0 (only z i l) s (agree.tables.are_open s claimed) z i,
      ),
    )
        tt
      where
        mode : T (is_held_mode k.hold)
        mode = held-mode k.hold (agree.tables.sound.held s x k p)

        both : (a b : Bool) → T a → T b → T (a && b)
        both true b x y = y
        both false b x y = absurd x

        only : (z : Side) → w.clerk s ≡ Some z → last x z.cache < k.number → InSession w s (λ y. last x y.cache < k.number)
        only z i l y j = subst (λ q. last x q.cache < k.number) (same_some (sym i ∙ j)) l

    -- A want is answered by the recorded token, or noted.
    pub want-stands : (c e l : ℕ) (h : Hold) → IsOf here c s → Fits w (Want s e x h l) → e ≡ t.server.durable.epoch → Under g (want c s x h l t) γ
    want-stands c e l h of_clerk f now = go (tokens.token t.server.tokens s x) refl
      where
        low : (k : Token) → nat_lt l k.number ≡ false → k.number ≤ l
        low k p = low-numbers l k.number p
          where
            low-numbers : (a b : ℕ) → nat_lt a b ≡ false → b ≤ a
            low-numbers a b p = grind arith

        noted-so : ((k : Token) → tokens.token t.server.tokens s x ≡ Some k → k.number ≤ l) → Under g (note s x h t) γ
        noted-so q = note-stands h (want-noted w v s x h agree claimed f.0.0 f.1 f.2 e l now f.3 q)

        go : (o : Option Token) → tokens.token t.server.tokens s x ≡ o
            → Under g (elim o as (λ z. Serving) [ None ↦ note s x h t | Some k ↦ elim (nat_lt l k.number) as (λ z. Serving) [ true ↦ send_grant c s x k.hold k.number t | false ↦ note s x h t ] ]) γ
        go None p = noted-so (λ k q. absurd (none_some (sym p ∙ q)))
        go (Some k) p = by (nat_lt l k.number) refl
          where
            by : (b : Bool) → nat_lt l k.number ≡ b → Under g (elim b as (λ z. Serving) [ true ↦ send_grant c s x k.hold k.number t | false ↦ note s x h t ]) γ
            by true q = regrant-stands c k p of_clerk f.0.0 f.2
            by false q = noted-so (λ j r. subst (λ y. y.number ≤ l) (same_some (sym p ∙ r)) (low k q))

  -- A claim that doesn't clash is recorded.
  pub claim-stands : (s e : ℕ) (l : Table Hold) → Fits w (Claim s e l) → T (is_sound (Claim s e l)) → e ≡ t.server.durable.epoch → T (is_open here s) → T (not (member s t.server.claimed)) → tokens.first_clash t.server.tokens s l ≡ None
      → Under g (record t { server = record (t.server) { tokens = tokens.claimed s l t.server.tokens; claimed = s ∷ t.server.claimed } }) γ
  claim-stands s e l f sound now o fresh clear = record {
    committed = u.committed;
    shown = u.shown;
    invariant = retabled-keeps g γ t (tokens.claimed s l t.server.tokens) t.server.recalls (s ∷ t.server.claimed) t.server.number t.server.recorded u.invariant
        (claimed-agrees w v s l agree fresh o f.0.0 (subst (λ d. InSession w s (ClaimFits w s d l)) now (f.1 now o fresh)) f.2 (first (rises (keys l)) sound) (none-free l (second (rises (keys l)) sound)) clear) others;
  }
    where
      first : (a : Bool) → T (a && list_all (λ t. is_held_mode t.1) l) → T a
      first true x = tt
      first false x = absurd x

      second : (a : Bool) → T (a && list_all (λ t. is_held_mode t.1) l) → T (list_all (λ t. is_held_mode t.1) l)
      second true x = x
      second false x = absurd x

      none-free : (l : Table Hold) → T (list_all (λ t. is_held_mode t.1) l) → list_all (λ e. not (is_free e.1)) l ≡ true
      none-free [] x = refl
      none-free (c ∷ l) x = go c.1 x (none-free l)
        where
          go : (h : Hold) → T (is_held_mode h && list_all (λ t. is_held_mode t.1) l) → (T (list_all (λ t. is_held_mode t.1) l) → list_all (λ e. not (is_free e.1)) l ≡ true) → (not (is_free h) && list_all (λ e. not (is_free e.1)) l) ≡ true
          go Free x r = absurd x
          go Read x r = r x
          go Write x r = r x

      others : (a x : ℕ) → T (not (is_open here a)) → eff_from ((a == s) || member a t.server.claimed) (tokens.token (tokens.claimed s l t.server.tokens) a x) t.server.durable.epoch (γ.old a x)
          ≡ eff_from (member a t.server.claimed) (tokens.token t.server.tokens a x) t.server.durable.epoch (γ.old a x)
      others a x c = ap (λ b. eff_from (b || member a t.server.claimed) (tokens.token (tokens.claimed s l t.server.tokens) a x) t.server.durable.epoch (γ.old a x)) off ∙ closed-eff (tokens.claimed s l t.server.tokens) a x c
        where
          off : (a == s) ≡ false
          off = go (a == s) refl
            where
              go : (b : Bool) → (a == s) ≡ b → b ≡ false
              go true p = absurd (refutes (is_open here s) o (subst (λ y. T (not (is_open here y))) (equal a s p) c))
              go false p = refl

  -- The last ids go out again, recorded before or now.

  -- they are as they were recorded
  pub send-ids-stands : (c s got n first : ℕ) → IsOf here c s → at s t.server.recorded ≡ Some n → got + 1 ≡ γ.grants s → first ≡ γ.first s → T (w.taken s) → T (nat_le first 4294967279)
      → Under g (tell c (Ids s t.server.durable.epoch got n first) t) γ
  send-ids-stands c s got n first of_clerk p grants is_first taken sound = let r = agree.tables.recorded s n p in
      tell-stands g γ t c (Ids s t.server.durable.epoch got n first) u of_clerk sound (
        (taken, omega arith, λ z i. (let q = agree.tables.epochs s r.0 z i in omega arith)),
        (λ a o. (r.0, r.1)),
        (λ a o. subst (λ z. T (is_some z)) (sym p) tt),
        omega arith,
        (λ a. is_first),
        λ z i. subst (λ f. IdsFit w s t.server.durable.epoch got n f z) (sym is_first) (r.2 got grants z i),
      )
      tt

  -- they are recorded now
  pub record-ids-stands : (s : ℕ) (k0 : Side) → T (member s t.server.claimed) → w.clerk s ≡ Some k0 → k0.got + 1 ≡ γ.grants s → at s t.server.recorded ≡ None → is_last_number t ≡ false → Under g (record_ids s (γ.first s) t) γ
  record-ids-stands s k0 claimed place untaken unrecorded small = subst (λ z. Under g z γ) (sym (made small)) (record {
    committed = u.committed;
    shown = u.shown;
    invariant = retabled-keeps g γ t (with_ids s (t.server.number + 1) (run (γ.first s) 16) t.server.tokens) t.server.recalls t.server.claimed (t.server.number + 1) (put s (t.server.number + 1) t.server.recorded) u.invariant
        (ids.recorded-agrees w v s (γ.first s) agree (ids.untaken-sixteen w v s k0 agree claimed place untaken unrecorded)) (λ a x o. closed-eff (with_ids s (t.server.number + 1) (run (γ.first s) 16) t.server.tokens) a x o);
  })
    where
      made : is_last_number t ≡ false → record_ids s (γ.first s) t
          ≡ record t { server = record (t.server) { tokens = with_ids s (t.server.number + 1) (run (γ.first s) 16) t.server.tokens; number = t.server.number + 1; recorded = put s (t.server.number + 1) t.server.recorded } }
      made p = ap (λ b. with_server (λ z. record z { tokens = with_ids s z.number (run (γ.first s) 16) z.tokens; recorded = put s z.number z.recorded })
          (elim b as (λ z. Serving) [ true ↦ record t { spent = first_spent t.spent counter.Number } | false ↦ record t { server = record (t.server) { number = t.server.number + 1 } } ])) p
