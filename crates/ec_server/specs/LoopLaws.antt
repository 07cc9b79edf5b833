-- What one turn of a loop does. No public clause cites this file.
use Rattle.std.proofs.Common.{◌≡◌, ◌<◌, ◌≤◌, refl, sym, ap, subst, ◌∙◌, arith, ℕ, zero, suc, Bool, true, false, List, [], ◌∷◌, None, length, drop, drop-cons, add-one}
use Rattle.std.specs.Prelude.{◌+◌, ◌-◌}
use Rattle.std.specs.List.{list_any}
use Rattle.ec_sessions.specs.Slots as slots
use Rattle.ec_sessions.specs.OfTokens.Tokens.{Tokens}
use Rattle.ec_sessions.specs.declared.recall.want.Action.{Action}
use Rattle.ec_sessions.specs.declared.recall.want.Action.TheVariants as action
use Rattle.ec_sessions.specs.OfRecall.Rounds.{GrantsGoIn}
use Rattle.ec_protocol.specs.Server.{Serving, is_grant, serve_rounds, tell_start, tell_all}
use Rattle.ec_server.specs.Clerks.{HaveClerks}
use Rattle.ec_server.specs.ServeLaws.{due_actions, round, goes_round, ends_round, fewer, round_clerks}

-- Slots.

dropped : (table : slots.Slots) (k : ℕ) → k < length table → drop k table ≡ slots.slot_at table k ∷ drop (k + 1) table
dropped table k h = rw (add-one, drop-cons table k None) refl

none_left : (table : slots.Slots) (k : ℕ) → length table ≤ k → drop k table ≡ []
none_left [] zero h = refl
none_left [] (suc k) h = refl
none_left (o ∷ table) zero h = absurd (omega arith)
none_left (o ∷ table) (suc k) h = none_left table k (omega arith)

pub tells_next : (table : slots.Slots) (k c : ℕ) (t u : Serving) → length table ≡ 16 → k < 16 → c ≡ k → tell_start c t (slots.slot_at table c) ≡ u → tell_all k (drop k table) t ≡ tell_all (k + 1) (drop (k + 1) table) u
tells_next table k c t u whole h is told =
    let inside : k < length table = omega (arith, whole) in
    let news : tell_start k t (slots.slot_at table k) ≡ u = subst (λ (m : ℕ). tell_start m t (slots.slot_at table m) ≡ u) is told in
    ap (λ rest. tell_all k rest t) (dropped table k inside) ∙ ap (tell_all (k + 1) (drop (k + 1) table)) news

pub tells_end : (table : slots.Slots) (k : ℕ) (t : Serving) → length table ≡ 16 → 16 ≤ k → tell_all k (drop k table) t ≡ t
tells_end table k t whole h = let out : length table ≤ k = omega (arith, whole) in ap (λ rest. tell_all k rest t) (none_left table k out)

-- Actions.

pub goes_in_first : (ts : Tokens) (a : Action) (more : List Action) → GrantsGoIn ts (a ∷ more) → GrantsGoIn ts (a ∷ [])
goes_in_first ts (action.Grant s x h) more p = (p.0, p.1, λ n. tt)
goes_in_first ts (action.Recall s x n h) more p = tt

-- Rounds.

pub rounds_on : (t u : Serving) (b : Bool) → round t ≡ u → b ≡ list_any is_grant (due_actions t) → b ≡ true → serve_rounds (suc (length t.server.recalls)) t ≡ serve_rounds (suc (length u.server.recalls)) u
rounds_on t u b same is some = goes_round t (sym is ∙ some) ∙ ap (λ (v : Serving). serve_rounds (suc (length v.server.recalls)) v) same

pub rounds_end : (t u : Serving) (b : Bool) → round t ≡ u → b ≡ list_any is_grant (due_actions t) → b ≡ false → serve_rounds (suc (length t.server.recalls)) t ≡ u
rounds_end t u b same is none = ends_round t (sym is ∙ none) ∙ same

pub rounds_shorten : (t u : Serving) (b : Bool) → round t ≡ u → b ≡ list_any is_grant (due_actions t) → b ≡ true → length u.server.recalls < length t.server.recalls
rounds_shorten t u b same is some = subst (λ (v : Serving). length v.server.recalls < length t.server.recalls) same (fewer t (sym is ∙ some))

pub rounds_keep : (t u : Serving) → round t ≡ u → HaveClerks t.server → HaveClerks u.server
rounds_keep t u same h = subst (λ (v : Serving). HaveClerks v.server) same (round_clerks t h)
