-- What is known of starts stays behind a server's step: it sends no greeting.
use Rattle.std.proofs.Common.{◌≡◌, refl, sym, ap, subst, ◌∙◌, ℕ, Bool, true, false, ◌==◌, ◌&&◌, ◌||◌, cond, zero, suc, List, [], ◌∷◌, ◌++◌, length, Option, Some, None, append-nil}
use Rattle.std.specs.Prelude.{◌+◌, ◌<◌, ⊤}
use Rattle.std.specs.List.{list_any}
use Rattle.std.proofs.lemmas.List.{append_assoc}
use Rattle.ec_base.specs.declared.counter.Counter.TheVariants as counter
use Rattle.ec_base.specs.declared.ids.Age.{Age}
use Rattle.ec_volume.specs.Update.{member}
use Rattle.ec_history.specs.History.{Each, Op, of_start}
use Rattle.ec_sessions.specs.OfRecall.Due.{actions, wants_after}
use Rattle.ec_sessions.specs.declared.recall.want.Action.{Action}
use Rattle.ec_sessions.specs.declared.recall.want.Action.TheVariants as action
use Rattle.ec_wire.specs.declared.msg.Msg.{Msg}
use Rattle.ec_protocol.specs.Server.{Serving, act, act_all, all_claimed, first_spent, is_grant, is_last_number, next_number, serve, serve_rounds, with_server}
use Rattle.ec_protocol.specs.declared.clerk.Clerk.{Clerk}
use Rattle.ec_coherence.specs.System.{System, Ghost, at_session}
use Rattle.ec_coherence.specs.Opening.{opening}
use Rattle.ec_coherence.specs.Steps.{keep_batch, open_session, serving_in}
use Rattle.ec_coherence.proofs.ForServer.Lists.{each-back, each-more}
use Rattle.ec_coherence.proofs.ForServer.Tables.{same_some}
use Rattle.ec_coherence.specs.Starts.{AreAlike, Greets, IsOfStart, StartsAgree}
use Rattle.ec_base.proofs.Options.{none_some}

-- nobody greeted these
abbrev pub AreQuiet : System → List (ℕ × Msg) → Type 0
AreQuiet g ms = Each (λ m. Greets g m.0 m.1) ms

module _ (g : System) where
  same-sent : (t : Serving) → (next_number t).sent ≡ t.sent
  same-sent t = go (is_last_number t)
    where
      go : (b : Bool) → (elim b as (λ z. Serving) [ true ↦ record t { spent = first_spent t.spent counter.Number } | false ↦ with_server (λ s. record s { number = s.number + 1 }) t ]).sent ≡ t.sent
      go true = refl
      go false = refl

  act-quiet : (a : Action) (t : Serving) → AreQuiet g t.sent → AreQuiet g (act a t).sent
  act-quiet (action.Grant s x h) t q = each-more (λ m. Greets g m.0 m.1) (next_number t).sent _ (subst (AreQuiet g) (sym (same-sent t)) q) (tt, tt)
  act-quiet (action.Recall s x n h) t q = each-more (λ m. Greets g m.0 m.1) t.sent _ q (tt, tt)

  all-quiet : (due : List Action) (t : Serving) → AreQuiet g t.sent → AreQuiet g (act_all due t).sent
  all-quiet [] t q = q
  all-quiet (a ∷ more) t q = all-quiet more (act a t) (act-quiet a t q)

  rounds-quiet : (k : ℕ) (t : Serving) → AreQuiet g t.sent → AreQuiet g (serve_rounds k t).sent
  rounds-quiet zero t q = q
  rounds-quiet (suc k) t q = go (list_any is_grant due) (all-quiet due (with_server (λ s. record s { recalls = wants_after s.tokens s.recalls }) t) q) (λ f j. rounds-quiet k f j)
    where
      due : List Action
      due = actions t.server.tokens t.server.recalls

      go : (b : Bool) → AreQuiet g (act_all due (with_server (λ s. record s { recalls = wants_after s.tokens s.recalls }) t)).sent → ((f : Serving) → AreQuiet g f.sent → AreQuiet g (serve_rounds k f).sent)
          → AreQuiet g (elim b as (λ z. Serving) [ true ↦ serve_rounds k (act_all due (with_server (λ s. record s { recalls = wants_after s.tokens s.recalls }) t)) | false ↦ act_all due (with_server (λ s. record s { recalls = wants_after s.tokens s.recalls }) t) ]).sent
      go true j r = r _ j
      go false j r = j

  pub serve-quiet : (t : Serving) → AreQuiet g t.sent → AreQuiet g (serve t).sent
  serve-quiet t q = go (all_claimed t.server)
    where
      go : (b : Bool) → AreQuiet g (elim b as (λ z. Serving) [ true ↦ serve_rounds (suc (length t.server.recalls)) t | false ↦ t ]).sent
      go true = rounds-quiet (suc (length t.server.recalls)) t q
      go false = q

-- A step that says these.
module _ (g : System) (γ : Ghost) (t : Serving) (st : StartsAgree (serving_in t γ g)) where
  -- with other ghosts
  pub starts-behind : (γ' : Ghost) (f : Serving) → AreQuiet g f.sent → ((s c : ℕ) (a : Age) → γ'.owner s ≡ Some (c, a) → IsOfStart g (γ'.frozen s) c a) → Each (λ o. g.first_boot o.clerk < o.boot) γ'.kept → AreAlike γ'
      → StartsAgree (serving_in f γ' g)
  starts-behind γ' f quiet owned above alike = record {
    owned = owned;
    started = st.started;
    greets = each-more (λ m. Greets g m.0 m.1) g.pool f.sent (each-front g.pool t.sent st.greets) quiet;
    above = above;
    alike = alike;
  }
    where
      each-front : (xs ys : List (ℕ × Msg)) → AreQuiet g (xs ++ ys) → AreQuiet g xs
      each-front [] ys q = tt
      each-front (x ∷ xs) ys q = (q.0, each-front xs ys q.1)

  -- what was said so far
  pub quiet-so-far : AreQuiet g t.sent
  quiet-so-far = each-back (λ m. Greets g m.0 m.1) g.pool t.sent st.greets

  pub quiet-with : (c : ℕ) (m : Msg) → Greets g c m → AreQuiet g (t.sent ++ (c, m) ∷ [])
  quiet-with c m q = each-more (λ m. Greets g m.0 m.1) t.sent ((c, m) ∷ []) quiet-so-far (q, tt)

  pub starts-on : (f : Serving) → AreQuiet g f.sent → StartsAgree (serving_in f γ g)
  starts-on f quiet = starts-behind γ f quiet st.owned st.above st.alike

  -- a session is opened
  pub owned-with : (c : ℕ) (age : Age) (s : ℕ) → ((f : Option (List Op)) → IsOfStart g f c age) → (r d : ℕ) (a : Age) → (open_session c age s γ).owner r ≡ Some (d, a) → IsOfStart g (γ.frozen r) d a
  owned-with c age s new r d a = go (r == s)
    where
      go : (b : Bool) → elim b as (λ z. Option (ℕ × Age)) [ true ↦ Some (c, age) | false ↦ γ.owner r ] ≡ Some (d, a) → IsOfStart g (γ.frozen r) d a
      go true e = let p = same_some e in subst (λ z. IsOfStart g (γ.frozen r) z.0 z.1) p (new (γ.frozen r))
      go false e = st.owned r d a e

  -- a batch is kept
  pub alike-with : (c b : ℕ) (ns : List ℕ) → AreAlike (keep_batch c b ns γ)
  alike-with c b ns i j e f n =
      ap (λ z. z || (of_start c b i && member i.number ns)) (st.alike i j e f n)
      ∙ ap (λ z. γ.is_durable j || (((c == z) && (b == i.boot)) && member i.number ns)) e
      ∙ ap (λ z. γ.is_durable j || (((c == j.clerk) && (b == z)) && member i.number ns)) f
      ∙ ap (λ z. γ.is_durable j || (((c == j.clerk) && (b == j.boot)) && member z ns)) n

pub starts-begin : (g : System) (d : Rattle.ec_durable.specs.declared.state.Durable.Durable) (v : Option Rattle.ec_protocol.specs.declared.server.Server.Server) → StartsAgree g → StartsAgree (record g { durable = d; server = v; pool = g.pool ++ [] })
starts-begin g d v st = record { owned = st.owned; started = st.started; greets = subst (AreQuiet g) (sym (append-nil g.pool)) st.greets; above = st.above; alike = st.alike }

pub opening-starts : (most : ℕ) → StartsAgree (opening most)
opening-starts most = record { owned = λ s c a e. absurd (none_some e); started = λ c b k e. absurd (none_some e); greets = tt; above = tt; alike = λ i j e f n. refl }
