-- Events of the world that change no node, and stops.
use Rattle.std.proofs.Common.{◌≡◌, refl, sym, ap, subst, ◌∙◌, inl, inr, ◌⊎◌, ◌≤◌, ◌+◌, ℕ, T, Bool, true, false, not, ◌==◌, ◌||◌, cond, List, [], ◌∷◌, ◌++◌, Option, Some, None}
use Rattle.std.specs.Prelude.{nat_lt}
use Rattle.std.proofs.lemmas.Bool.{true≢false}
use Rattle.ec_machine_laws.proofs.Batches.{same-key}
use Rattle.std.specs.List.{filter, list_any}
use Rattle.std.specs.Ordering.{nat_cmp, eq_by_cmp}
use Rattle.ec_base.specs.Tables.{Table, at, at_or, put, without}
use Rattle.ec_volume.specs.Update.{member}
use Rattle.ec_plain.specs.declared.call.Call.{Call}
use Rattle.ec_history.specs.declared.shown.Shown.{Shown}
use Rattle.ec_history.specs.declared.shown.Shown.TheVariants as show
use Rattle.ec_wire.specs.declared.msg.Msg.{Msg}
use Rattle.ec_protocol.specs.World.{Moving, add_call, crash, forget, is_answer_to, kept_messages, moving, nothing, settled, show_line, show_waits, stop_server}
use Rattle.ec_protocol.specs.declared.clerk.Clerk.{Clerk}
use Rattle.ec_protocol.specs.declared.clerk.Out.{Out}
use Rattle.ec_protocol.specs.declared.server.Server.{Server}
use Rattle.ec_protocol.specs.declared.world.Sent.{Sent}
use Rattle.ec_protocol.specs.declared.world.World.{World}
use Rattle.ec_coherence.specs.System.{System}
use Rattle.ec_coherence.specs.Steps.{Stands, running_clerk}
use Rattle.ec_coherence.proofs.ForServer.Tables.{at-without}
use Rattle.ec_coherence.specs.StandLaws.{crashed, lined, stopped}
use Rattle.ec_lawful.specs.Ties.{called, waiting}
use Rattle.ec_lawful.proofs.ForWhole.Standing.{same-durable}
use Rattle.ec_base.proofs.Options.{none_some}

-- What is found in a table of which some keys stay.
module _ {X : Type 0} (p : ℕ → Bool) (k : ℕ) where
  gone : (es : Table X) (x : X) → p k ≡ false → at k (filter (λ e. p e.0) es) ≡ Some x → ⊥
  gone [] x f q = none_some q
  gone (e ∷ es) x f q = go (p e.0) refl q (gone es x f)
    where
      go : (b : Bool) → p e.0 ≡ b → at k (cond b (e ∷ filter (λ y. p y.0) es) (filter (λ y. p y.0) es)) ≡ Some x → (at k (filter (λ y. p y.0) es) ≡ Some x → ⊥) → ⊥
      go false n q more = more q
      go true n q more = here (eq_by_cmp nat_cmp k e.0) refl q
        where
          here : (b : Bool) → eq_by_cmp nat_cmp k e.0 ≡ b → cond b (Some e.1) (at k (filter (λ y. p y.0) es)) ≡ Some x → ⊥
          here true m q = true≢false (sym n ∙ ap p (sym (same-key k e.0 m)) ∙ f)
          here false m q = more q

  pub still-at : (es : Table X) (x : X) → at k (filter (λ e. p e.0) es) ≡ Some x → at k es ≡ Some x
  still-at [] x q = q
  still-at (e ∷ es) x q = go (p e.0) refl q (still-at es x) (gone es x)
    where
      go : (b : Bool) → p e.0 ≡ b → at k (cond b (e ∷ filter (λ y. p y.0) es) (filter (λ y. p y.0) es)) ≡ Some x → (at k (filter (λ y. p y.0) es) ≡ Some x → at k es ≡ Some x)
          → (p k ≡ false → at k (filter (λ y. p y.0) es) ≡ Some x → ⊥) → cond (eq_by_cmp nat_cmp k e.0) (Some e.1) (at k es) ≡ Some x
      go true n q more none = both (eq_by_cmp nat_cmp k e.0) q
        where
          both : (b : Bool) → cond b (Some e.1) (at k (filter (λ y. p y.0) es)) ≡ Some x → cond b (Some e.1) (at k es) ≡ Some x
          both true q = q
          both false q = more q
      go false n q more none = one (eq_by_cmp nat_cmp k e.0) refl
        where
          one : (b : Bool) → eq_by_cmp nat_cmp k e.0 ≡ b → cond b (Some e.1) (at k es) ≡ Some x
          one true m = absurd (none (ap p (same-key k e.0 m) ∙ n) q)
          one false m = more q

-- a world that differs in no node, and keeps no other messages
module _ (w : World) (g : System) (st : Stands w g) where
  pub same-stands : (v : World) → v.server ≡ w.server → v.durable ≡ w.durable → v.unshown ≡ w.unshown → v.clerks ≡ w.clerks → v.boots ≡ w.boots → v.calls ≡ w.calls → v.shown ≡ w.shown
      → ((n : ℕ) (s : Sent) → at n v.pool ≡ Some s → at n w.pool ≡ Some s) → Stands v g
  same-stands v server durable unshown clerks boots calls shown pool = record {
    server = server ∙ st.server;
    durable = same-durable w v g g st durable refl refl;
    epoch = subst (λ d. g.durable.epoch ≤ d.epoch) (sym durable) st.epoch;
    up = λ t. durable ∙ st.up t;
    unshown = unshown ∙ st.unshown;
    clerks = λ c. ap (at c) clerks ∙ st.clerks c;
    boots = λ c. ap (at_or 0 c) boots ∙ st.boots c;
    calls = calls ∙ st.calls;
    pool = λ n c i m q. st.pool n c i m (pool n (record { clerk = c; nth = i; msg = m }) q);
    shown = shown ∙ st.shown;
  }

  pub settled-stands : (n : ℕ) → Stands (settled n w) g
  settled-stands n = same-stands (settled n w) refl refl refl refl refl refl refl (λ k s q. q)

  pub forgotten-stands : Stands (forget w) g
  forgotten-stands = same-stands (forget w) refl refl refl refl refl refl refl (λ k s q. still-at (λ n. nat_lt w.sent (n + kept_messages) || member n w.pending) k w.pool s q)

  -- a line more
  pub lined-stands : (s : Shown) → Stands (record w { shown = w.shown ++ s ∷ [] }) (lined g s)
  lined-stands s = record {
    server = st.server;
    durable = st.durable;
    epoch = st.epoch;
    up = st.up;
    unshown = st.unshown;
    clerks = st.clerks;
    boots = st.boots;
    calls = st.calls;
    pool = st.pool;
    shown = ap (λ x. x ++ s ∷ []) st.shown;
  }

  pub nothing-stands : Stands (nothing w).world (lined g show.Nothing)
  nothing-stands = lined-stands show.Nothing

  pub stopped-stands : (v : Server) → w.server ≡ Some v → Stands (stop_server (Some v) w).world (stopped g)
  stopped-stands v up = record {
    server = refl;
    durable = st.durable;
    epoch = st.epoch;
    up = λ t. absurd t;
    unshown = st.unshown;
    clerks = st.clerks;
    boots = st.boots;
    calls = st.calls;
    pool = st.pool;
    shown = ap (λ x. x ++ show.Stopped ∷ []) st.shown;
  }

  pub crashed-stands : (c : ℕ) (k : Clerk) → at c w.clerks ≡ Some k → Stands (crash c (Some k) w).world (crashed g c)
  crashed-stands c k q = record {
    server = st.server;
    durable = st.durable;
    epoch = st.epoch;
    up = st.up;
    unshown = st.unshown;
    clerks = λ e. at-without e c w.clerks ∙ gone-in e (e == c);
    boots = st.boots;
    calls = ap (without c) st.calls;
    pool = st.pool;
    shown = ap (λ x. x ++ show.Crashed c ∷ []) st.shown;
  }
    where
      gone-in : (e : ℕ) (b : Bool) → cond b None (at e w.clerks) ≡ elim (elim b as (λ z. Option ℕ) [ true ↦ None | false ↦ g.running e ]) as (λ z. Option Clerk) [ None ↦ None | Some a ↦ g.clerks e a ]
      gone-in e true = refl
      gone-in e false = st.clerks e

  -- a call is under way, and a line may show that it waits
  pub added-stands : (c n l : ℕ) (cl : Call) → Stands (add_call c n l cl w) (called c n l cl g)
  added-stands c n l cl = record {
    server = st.server;
    durable = st.durable;
    epoch = st.epoch;
    up = st.up;
    unshown = st.unshown;
    clerks = st.clerks;
    boots = st.boots;
    calls = ap (λ x. put c (put n (l, cl) (at_or [] c x)) x) st.calls;
    pool = st.pool;
    shown = st.shown;
  }

pub called-stands : (w : World) (g : System) → Stands w g → (c n l : ℕ) (cl : Call) (os : List Out)
    → Stands (show_waits c n l cl os (moving (add_call c n l cl w))).world (waiting c l cl (list_any (is_answer_to n) os) (called c n l cl g))
called-stands w g st c n l cl os = go (list_any (is_answer_to n) os)
  where
    go : (b : Bool) → Stands (elim b as (λ z. Moving) [ true ↦ moving (add_call c n l cl w) | false ↦ show_line (show.Waits l c cl) (moving (add_call c n l cl w)) ]).world (waiting c l cl b (called c n l cl g))
    go true = added-stands w g st c n l cl
    go false = lined-stands (add_call c n l cl w) (called c n l cl g) (added-stands w g st c n l cl) (show.Waits l c cl)
