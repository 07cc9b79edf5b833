-- A step that has numbers for its wants spends none. No public clause cites this file.
use Rattle.std.proofs.Common.{◌≡◌, ◌≤◌, refl, sym, subst, arith, ℕ, zero, suc, Bool, true, false, List, [], ◌∷◌, None, length, filter}
use Rattle.std.specs.Prelude.{◌+◌, nat_le}
use Rattle.std.specs.List.{list_any}
use Rattle.std.proofs.lemmas.Bool.Decides.{nat_tests}
use Rattle.ec_base.specs.Limits.{last_counter}
use Rattle.ec_base.specs.declared.counter.Counter.TheVariants as counter
use Rattle.ec_sessions.specs.declared.recall.want.Want.{Want}
use Rattle.ec_sessions.specs.declared.recall.want.Action.{Action}
use Rattle.ec_sessions.specs.declared.recall.want.Action.TheVariants as action
use Rattle.ec_sessions.specs.OfRecall.Due.{wants_after}
use Rattle.ec_sessions.specs.OfRecall.Rounds as rounds
use Rattle.ec_sessions.specs.OfRecall.Laws.{counted}
use Rattle.ec_protocol.specs.Server.{Serving, with_server, spend, next_number, act, act_all, is_grant, serve_rounds, serve, all_claimed}
use Rattle.ec_server.specs.Keepers.{HasNumbers}
use Rattle.ec_server.specs.ServeLaws.{due_actions, waits, round, round_recalls}

-- Numbers.

-- so many numbers are left
abbrev pub Lasts : ℕ → Serving → Type 0
Lasts n t = (t.spent ≡ None) × (t.server.number + n ≤ last_counter)

pub no_clash : (a b n : ℕ) → nat_le a b ≡ true → b + suc n ≤ a → ⊥
no_clash a b n p q = grind (arith, nat_tests, p, q)

one_less : (a b n : ℕ) → b + suc n ≤ a → (b + 1) + n ≤ a
one_less a b n p = omega arith

next_lasts : (n : ℕ) (t : Serving) → Lasts (suc n) t → Lasts n (next_number t)
next_lasts n t h = go (nat_le last_counter t.server.number) refl
  where
    go : (b : Bool) → nat_le last_counter t.server.number ≡ b → Lasts n (elim b as (λ z. Serving) [ true ↦ spend counter.Number t | false ↦ with_server (λ s. record s { number = s.number + 1 }) t ])
    go true e = absurd (no_clash last_counter t.server.number n e h.1)
    go false e = (h.0, one_less last_counter t.server.number n h.1)

more_left : (a b m k : ℕ) → m ≡ k → b + m ≤ a → b + k ≤ a
more_left a b m k p q = omega (arith, p, q)

all_last : (as' : List Action) (n : ℕ) (t : Serving) → Lasts (length (filter rounds.is_grant as') + n) t → Lasts n (act_all as' t)
all_last [] n t h = (h.0, more_left last_counter t.server.number (0 + n) n (omega arith) h.1)
all_last (action.Grant ss x h ∷ more) n t l =
    let left = length (filter rounds.is_grant more) + n in
    let m = next_lasts left t (l.0, more_left last_counter t.server.number (suc (length (filter rounds.is_grant more)) + n) (suc left) (omega arith) l.1) in
    all_last more n (act (action.Grant ss x h) t) (m.0, m.1)
all_last (action.Recall ss x k h ∷ more) n t l = all_last more n (act (action.Recall ss x k h) t) (l.0, l.1)

round_lasts : (t : Serving) → HasNumbers t → HasNumbers (round t)
round_lasts t h =
    let ts = t.server.tokens in
    let ws = t.server.recalls in
    let left : length ws ≡ length (filter rounds.is_grant (due_actions t)) + length (wants_after ts ws) = omega (arith, counted ts ws) in
    let all = all_last (due_actions t) (length (wants_after ts ws)) (waits t) (h.0, more_left last_counter t.server.number (length ws) _ left h.1) in
    (all.0, subst (λ (l : List Want). (round t).server.number + length l ≤ last_counter) (sym (round_recalls t)) all.1)

rounds_last : (k : ℕ) (t : Serving) → HasNumbers t → HasNumbers (serve_rounds k t)
rounds_last zero t h = h
rounds_last (suc k) t h = go (list_any is_grant (due_actions t)) (rounds_last k (round t) (round_lasts t h))
  where
    go : (b : Bool) → HasNumbers (serve_rounds k (round t)) → HasNumbers (elim b as (λ z. Serving) [ true ↦ serve_rounds k (round t) | false ↦ round t ])
    go true rest = rest
    go false rest = round_lasts t h

pub serve_lasts : (t : Serving) → HasNumbers t → HasNumbers (serve t)
serve_lasts t h = go (all_claimed t.server)
  where
    go : (b : Bool) → HasNumbers (elim b as (λ z. Serving) [ true ↦ serve_rounds (suc (length t.server.recalls)) t | false ↦ t ])
    go true = rounds_last (suc (length t.server.recalls)) t h
    go false = h
