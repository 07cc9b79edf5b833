-- The wants are served, and the whole invariant stands.
use Rattle.std.proofs.Common.{◌≡◌, refl, sym, ap, subst, ◌∙◌, inl, inr, arith, ℕ, suc, Bool, true, false, ◌&&◌, ◌||◌, ◌+◌, T, List, [], ◌∷◌, ◌++◌}
use Rattle.std.specs.Prelude.{◌==◌, ◌⊎◌, None, Some, is_some}
use Rattle.ec_base.specs.declared.ids.Hold.{Hold}
use Rattle.ec_base.specs.declared.ids.Hold.TheVariants.{Free, Read, Write}
use Rattle.ec_volume.specs.Update.{member}
use Rattle.ec_history.specs.History.{Each}
use Rattle.ec_sessions.specs.Slots.{Slots, slot_at}
use Rattle.ec_sessions.specs.declared.slot.Slot.{Slot}
use Rattle.ec_sessions.specs.OfRecall.Due.{recall_to}
use Rattle.ec_wire.specs.Messages.{is_held_mode, is_lowered_mode}
use Rattle.ec_wire.specs.declared.msg.Msg.{Msg}
use Rattle.ec_protocol.specs.Server.{Serving, serve, clerk_from}
use Rattle.ec_coherence.specs.System.{System, Ghost, open_in, is_open}
use Rattle.ec_coherence.specs.Sessions as sessions
use Rattle.ec_coherence.specs.Tokens as facts
use Rattle.ec_coherence.specs.Steps.{serving_in, Under, Stood}
use Rattle.ec_coherence.proofs.ForServer.Frames.{Heard, heard-of, served-keeps}
use Rattle.ec_coherence.proofs.ForServer.Rounds.{at_work, Served, serve-agrees}
use Rattle.ec_coherence.proofs.ForServer.ServerSound.{server-sound}
use Rattle.ec_coherence.proofs.ForServer.Settled.{settled}
use Rattle.ec_coherence.proofs.ForServer.Handlers.{closed-eff}
use Rattle.ec_base.proofs.Numbers.{equal}
use Rattle.ec_history.proofs.HistoryLemmas.{each-more as each-append}

-- The clerk that the server takes for a session's is one that has it in its slot.
found : (s c : ℕ) (slots : Slots) → T (open_in slots s) → (i : ℕ) × (clerk_from c s slots ≡ c + i) × (sl : Slot) × (slot_at slots i ≡ Some sl) × (sl.session ≡ s)
found s c [] o = absurd o
found s c (None ∷ slots) o = let r = found s (c + 1) slots o in (suc r.0, (let e = r.1 in omega arith), r.2, r.3, r.4)
found s c (Some sl ∷ slots) o = go (sl.session == s) refl (λ p. found s (c + 1) slots (rest (sl.session == s) p o))
  where
    rest : (b : Bool) → b ≡ false → T ((sl.is_open && b) || open_in slots s) → T (open_in slots s)
    rest true e o = absurd (subst T e tt)
    rest false e o = none sl.is_open o
      where
        none : (a : Bool) → T ((a && false) || open_in slots s) → T (open_in slots s)
        none true o = o
        none false o = o

    go : (b : Bool) → (sl.session == s) ≡ b → (b ≡ false → (i : ℕ) × (clerk_from (c + 1) s slots ≡ (c + 1) + i) × (sm : Slot) × (slot_at slots i ≡ Some sm) × (sm.session ≡ s))
        → (i : ℕ) × ((elim b as (λ z. ℕ) [ true ↦ c | false ↦ clerk_from (c + 1) s slots ]) ≡ c + i) × (sm : Slot) × (slot_at (Some sl ∷ slots) i ≡ Some sm) × (sm.session ≡ s)
    go true e f = (0, omega arith, sl, refl, equal sl.session s e)
    go false e f = let r = f refl in (suc r.0, (let e = r.1 in omega arith), r.2, r.3, r.4)

pub of-its-clerk : (g : System) → sessions.SessionsAgree g → (s : ℕ) → T (is_open g s) → sessions.IsOf g (clerk_from 0 s g.durable.sessions) s
of-its-clerk g a s o =
    let r = found s 0 g.durable.sessions o in
    let at_c : r.0 ≡ clerk_from 0 s g.durable.sessions = (let e = r.1 in omega arith) in
    ((r.2).age, sym (ap (λ z. g.ghost.owner z) r.4) ∙ (a.slots r.0 r.2 r.3).2 ∙ ap (λ z. Some (z, (r.2).age)) at_c)

each-back : {A : Type 0} (P : A → Type 0) (xs ys : List A) → Each P (xs ++ ys) → Each P xs × Each P ys
each-back P [] ys f = (tt, f)
each-back P (x ∷ xs) ys f = let r = each-back P xs ys f.1 in ((f.0, r.0), r.1)

recall-is-low : (h : Hold) → T (is_held_mode h) → T (is_lowered_mode (recall_to h))
recall-is-low Free t = absurd t
recall-is-low Read t = tt
recall-is-low Write t = tt

module _ (g : System) (γ : Ghost) (t : Serving) (u : Under g t γ) (unspent : t.spent ≡ None) where
  abbrev here : System
  here = serving_in t γ g

  abbrev P : ℕ × Msg → Type 0
  P m = Heard here m

  all-heard : Each P (g.pool ++ t.sent)
  all-heard = heard-of here (g.pool ++ t.sent) u.invariant.sessions.messages u.invariant.sessions.sound u.invariant.logs.messages

  may-grant : (s x n : ℕ) (h : Hold) → T (member s t.server.claimed) → T (is_held_mode h) → sessions.IsOf here (clerk_from 0 s t.server.durable.sessions) s × T (is_held_mode h)
  may-grant s x n h c k = (of-its-clerk here u.invariant.sessions s (u.invariant.tokens.tables.are_open s c), k)

  both : (a b : Bool) → T a → T b → T (a && b)
  both true b x y = y
  both false b x y = absurd x

  served : Served g γ t.rec P t.server (serve (at_work g γ t.rec P t.server t.sent))
  served = serve-agrees g γ t.rec P t.server t.sent u.invariant.tokens (λ s x o none. settled here u.invariant x none s o)
      ((λ s x n h c k. ((may-grant s x n h c k).0, both _ _ k (server-sound here u.invariant.logs u.invariant.images x), tt)), (λ s x n h c k. ((may-grant s x n h c k).0, recall-is-low h k, tt)))
      (each-back P g.pool t.sent all-heard).1

  as-it-is : at_work g γ t.rec P t.server t.sent ≡ t
  as-it-is = λ i. record t { spent = sym unspent i }

  -- the ghosts stay, and the durable state
  abbrev pub Serves : Serving → Type 0
  Serves f = T (is_some f.spent) ⊎ (Under g f γ × (f.server.durable ≡ t.server.durable))

  pub serve-serves : Serves (serve t)
  serve-serves = subst (λ z. Serves (serve z)) as-it-is (go served)
    where
      go : Served g γ t.rec P t.server (serve (at_work g γ t.rec P t.server t.sent)) → Serves (serve (at_work g γ t.rec P t.server t.sent))
      go (inl p) = inl p
      go (inr (v, ss, e, f, ps, d, c)) = inr (subst (λ z. Under g z γ) (sym e) whole, ap (λ z. z.server.durable) e ∙ d)
        where
          literal : record v { durable = t.server.durable; claimed = t.server.claimed } ≡ v
          literal = λ i. record v { durable = sym d i; claimed = sym c i }

          whole : Under g (at_work g γ t.rec P v ss) γ
          whole = subst (λ z. Under g (at_work g γ t.rec P z ss) γ) literal (record {
            committed = u.committed;
            shown = u.shown;
            invariant = served-keeps g γ t v.tokens v.recalls t.server.claimed v.number v.recorded ss u.invariant (each-append P g.pool ss (each-back P g.pool t.sent all-heard).0 ps)
                (subst (λ z. facts.TokensAgree (facts.view (serving_in (at_work g γ t.rec P z ss) γ g))) (sym literal) f) (λ s x o. closed-eff g γ t u v.tokens s x o);
          })

  pub serve-stands : Stood g (serve t)
  serve-stands = elim serve-serves [ inl p ↦ inl p | inr q ↦ inr (γ, q.0) ]
