-- The server serves the wants, round by round, where all open sessions have claimed.
use Rattle.std.proofs.Common.{◌≡◌, refl, sym, subst, ◌∙◌, ◌⊎◌, inl, inr, arith, ℕ, zero, suc, Bool, true, false, not, ◌||◌, T, List, [], ◌∷◌, length}
use Rattle.std.specs.Prelude.{◌==◌, Option, None, Some, is_some}
use Rattle.std.specs.List.{list_any, list_all}
use Rattle.std.proofs.lemmas.Bool.{and_parts}
use Rattle.ec_volume.specs.Update.{member}
use Rattle.ec_volume.specs.Volume.{images}
use Rattle.ec_history.specs.History.{Each}
use Rattle.ec_sessions.specs.Slots.{Slots}
use Rattle.ec_sessions.specs.declared.slot.Slot.{Slot}
use Rattle.ec_sessions.specs.OfTokens.Laws.{holder_has}
use Rattle.ec_sessions.specs.OfTokens.Tokens as tokens
use Rattle.ec_sessions.specs.declared.tokens.token.Token.{Token}
use Rattle.ec_base.specs.declared.ids.Hold.{Hold}
use Rattle.ec_sessions.specs.OfRecall.Due.{actions, wants_after, recall_to}
use Rattle.ec_wire.specs.Messages.{is_held_mode}
use Rattle.ec_wire.specs.declared.msg.Msg.TheVariants.{Grant, Recall}
use Rattle.ec_wire.specs.declared.msg.Msg.{Msg}
use Rattle.ec_durable.specs.declared.record.Record.{Record}
use Rattle.ec_protocol.specs.declared.server.Server.{Server}
use Rattle.ec_protocol.specs.Server.{Serving, act_all, is_grant, serve_rounds, serve, is_claimed, all_claimed, clerk_from}
use Rattle.ec_coherence.specs.System.{System, Ghost, open_in, is_open_slot}
use Rattle.ec_coherence.specs.Tokens.{Passed, view, tables_of, TokensAgree}
use Rattle.ec_coherence.specs.Steps.{serving_in}
use Rattle.ec_coherence.proofs.ForServer.Serve.{NoWriter, Acted, round-agrees, each-from, acts-spent}
use Rattle.ec_coherence.proofs.ForServer.Tables.{fails}
use Rattle.ec_coherence.proofs.ForServer.Was.{was-known}
use Rattle.ec_base.proofs.Options.{none_some}
use Rattle.ec_base.proofs.Numbers.{equal}
use Rattle.ec_base.proofs.Bools.{holds-true as holds}

rounds-spent : (k : ℕ) (t : Serving) → T (is_some t.spent) → T (is_some (serve_rounds k t).spent)
rounds-spent zero t p = p
rounds-spent (suc k) t p = go (list_any is_grant (actions t.server.tokens t.server.recalls)) (λ u q. rounds-spent k u q)
  where
    go : (b : Bool) → ((u : Serving) → T (is_some u.spent) → T (is_some (serve_rounds k u).spent))
        → T (is_some ((elim b as (λ z. Serving) [
          | true ↦ serve_rounds k (act_all (actions t.server.tokens t.server.recalls) (record t { server = record (t.server) { recalls = wants_after t.server.tokens t.server.recalls } }))
          | false ↦ act_all (actions t.server.tokens t.server.recalls) (record t { server = record (t.server) { recalls = wants_after t.server.tokens t.server.recalls } })
        ]).spent))
    go true ih = ih _ (acts-spent (actions t.server.tokens t.server.recalls) (record t { server = record (t.server) { recalls = wants_after t.server.tokens t.server.recalls } }) p)
    go false ih = acts-spent (actions t.server.tokens t.server.recalls) (record t { server = record (t.server) { recalls = wants_after t.server.tokens t.server.recalls } }) p

-- where every open session has claimed
claimed-all : (v : Server) (slots : Slots) (s : ℕ) → list_all (is_claimed v) slots ≡ true → T (open_in slots s) → T (member s v.claimed)
claimed-all v [] s a o = absurd o
claimed-all v (sl ∷ slots) s a o = go sl (is_open_slot s sl) refl (and_parts (is_claimed v sl) (list_all (is_claimed v) slots) a).0 o (claimed-all v slots s (and_parts (is_claimed v sl) (list_all (is_claimed v) slots) a).1)
  where
    go : (sl : Option Slot) (b : Bool) → is_open_slot s sl ≡ b → is_claimed v sl ≡ true → T (b || open_in slots s) → (T (open_in slots s) → T (member s v.claimed)) → T (member s v.claimed)
    go None true e a o f = absurd (subst (λ b. T (not b)) e tt)
    go None false e a o f = f o
    go (Some sl) false e a o f = f o
    go (Some sl) true e a o f = let p = and_parts sl.is_open (sl.session == s) e in subst (λ t. T (member t v.claimed)) (equal sl.session s p.1) (claimed sl.is_open (member sl.session v.claimed) p.0 a)
      where
        claimed : (a b : Bool) → a ≡ true → (not a || b) ≡ true → T b
        claimed true b e f = subst T (sym f) tt
        claimed false b e f = absurd (subst T (sym e) tt)

module _ (g : System) (γ : Ghost) (rc : Option Record) (P : ℕ × Msg → Type 0) where
  abbrev pub at_work : Server → List (ℕ × Msg) → Serving
  at_work v ss = record { server = v; sent = ss; rec = rc; spent = None }

  abbrev pub Agrees : Server → List (ℕ × Msg) → Type 0
  Agrees v ss = TokensAgree (view (serving_in (at_work v ss) γ g))

  -- what nobody writes is as the server has it
  abbrev pub Settled : Server → Type 0
  Settled v = (s x : ℕ) → T (open_in v.durable.sessions s) → NoWriter (view (serving_in (at_work v []) γ g)) x → images v.durable.volume x ≡ (view (serving_in (at_work v []) γ g)).seen s x

  -- the step stands: it is refused, or it goes on with the same durable state
  abbrev pub Served : Server → Serving → Type 0
  Served v t = T (is_some t.spent) ⊎ ((u : Server) × (ss : List (ℕ × Msg)) × (t ≡ at_work u ss) × Agrees u ss × Each P ss × (u.durable ≡ v.durable) × (u.claimed ≡ v.claimed))

  heard : (v : Server) (ss : List (ℕ × Msg)) → Agrees v ss → (x : ℕ) → Each (λ h. T (member h.0 v.claimed) × Passed (view (serving_in (at_work v ss) γ g)) h.0 v.durable.epoch) (tokens.holders v.tokens x)
  heard v ss f x = each-from _ (tokens.holders v.tokens x) (λ h c. passed h.0 _ (holder_has v.tokens x h f.tables.sound.rising c))
    where
      passed : (s : ℕ) (k : Token) → tokens.token v.tokens s x ≡ Some k → T (member s v.claimed) × Passed (view (serving_in (at_work v ss) γ g)) s v.durable.epoch
      passed s k p = go (member s v.claimed) refl
        where
          go : (b : Bool) → member s v.claimed ≡ b → T (member s v.claimed) × Passed (view (serving_in (at_work v ss) γ g)) s v.durable.epoch
          go true e = let c = holds (member s v.claimed) e in
              (c, ((was-known (view (serving_in (at_work v ss) γ g)) (tables_of v) s f c x k p).1, omega arith, λ z i. (let q = f.tables.epochs s c z i in omega arith)))
          go false e = absurd (none_some (sym (f.tables.others s x (fails (member s v.claimed) e)).0 ∙ p))

  -- what is sent may be sent
  abbrev pub MaySend : Server → Type 0
  MaySend v = ((s x n : ℕ) (h : Hold) → T (member s v.claimed) → T (is_held_mode h) → P (clerk_from 0 s v.durable.sessions, Grant s v.durable.epoch x n h (images v.durable.volume x)))
      × ((s x n : ℕ) (h : Hold) → T (member s v.claimed) → T (is_held_mode h) → P (clerk_from 0 s v.durable.sessions, Recall s v.durable.epoch x n (recall_to h)))

  pub rounds-agree : (k : ℕ) (v : Server) (ss : List (ℕ × Msg)) → Agrees v ss → ((t : ℕ) → T (open_in v.durable.sessions t) → T (member t v.claimed)) → Settled v → MaySend v → Each P ss → Served v (serve_rounds k (at_work v ss))
  rounds-agree zero v ss f all settled may ps = inr (v, ss, refl, f, ps, refl, refl)
  rounds-agree (suc k) v ss f all settled may ps = go (list_any is_grant (actions v.tokens v.recalls)) (λ u zs a b c d e. rounds-agree k u zs a b c d e)
      (round-agrees g γ (record v { recalls = wants_after v.tokens v.recalls }) rc P all settled v.tokens (heard v ss f) may.0 may.1 v.recalls [] [] v.tokens v.number ss f (λ t x. inl refl) ps)
    where
      go : (b : Bool) → ((u : Server) (zs : List (ℕ × Msg)) → Agrees u zs → ((t : ℕ) → T (open_in u.durable.sessions t) → T (member t u.claimed)) → Settled u → MaySend u → Each P zs → Served u (serve_rounds k (at_work u zs)))
          → Acted g γ (record v { recalls = wants_after v.tokens v.recalls }) rc P (wants_after v.tokens v.recalls) (act_all (actions v.tokens v.recalls) (at_work (record v { recalls = wants_after v.tokens v.recalls }) ss))
          → Served v (elim b as (λ z. Serving) [
            | true ↦ serve_rounds k (act_all (actions v.tokens v.recalls) (at_work (record v { recalls = wants_after v.tokens v.recalls }) ss))
            | false ↦ act_all (actions v.tokens v.recalls) (at_work (record v { recalls = wants_after v.tokens v.recalls }) ss)
          ])
      go true ih (inl p) = inl (rounds-spent k _ p)
      go false ih (inl p) = inl p
      go true ih (inr (ts, n, zs, e, a, qs)) = subst (λ u. Served v (serve_rounds k u)) (sym e) (ih (record v { recalls = wants_after v.tokens v.recalls; tokens = ts; number = n }) zs a all settled may qs)
      go false ih (inr (ts, n, zs, e, a, qs)) = inr (record v { recalls = wants_after v.tokens v.recalls; tokens = ts; number = n }, zs, e, a, qs, refl, refl)

  -- the end of each step of the server
  pub serve-agrees : (v : Server) (ss : List (ℕ × Msg)) → Agrees v ss → Settled v → MaySend v → Each P ss → Served v (serve (at_work v ss))
  serve-agrees v ss f settled may ps = go (all_claimed v) refl
    where
      go : (b : Bool) → all_claimed v ≡ b → Served v (elim b as (λ z. Serving) [ true ↦ serve_rounds (suc (length v.recalls)) (at_work v ss) | false ↦ at_work v ss ])
      go true e = rounds-agree (suc (length v.recalls)) v ss f (λ t o. claimed-all v v.durable.sessions t e o) settled may ps
      go false e = inr (v, ss, refl, f, ps, refl, refl)
