-- What serving keeps, and how often it goes on. No public clause cites this file.
use Rattle.std.proofs.Common.{◌≡◌, ◌<◌, refl, sym, ap, subst, ◌∙◌, arith, ℕ, zero, suc, Bool, true, false, ◌&&◌, List, [], ◌∷◌, Option, None, Some, Result, Ok, Err, length}
use Rattle.std.specs.Prelude.{◌==◌, ◌+◌, ◌↔◌, nat_le}
use Rattle.std.specs.List.{list_any}
use Rattle.std.proofs.lemmas.Bool.{eq-eqb}
use Rattle.ec_base.specs.declared.counter.Counter.{Counter}
use Rattle.ec_base.specs.declared.counter.Counter.TheVariants as counter
use Rattle.ec_base.specs.Limits.{last_counter}
use Rattle.ec_sessions.specs.Slots as slots
use Rattle.ec_sessions.specs.declared.slot.Slot.{Slot}
use Rattle.ec_sessions.specs.OfTokens.Tokens.{granted}
use Rattle.ec_sessions.specs.declared.recall.want.Want.{Want}
use Rattle.ec_sessions.specs.declared.recall.want.Action.{Action}
use Rattle.ec_sessions.specs.declared.recall.want.Action.TheVariants as action
use Rattle.ec_sessions.specs.OfRecall.Due.{actions, wants_after}
use Rattle.ec_sessions.specs.OfRecall.Rounds as rounds
use Rattle.ec_sessions.specs.OfRecall.Laws.{shorter}
use Rattle.ec_wire.specs.declared.msg.Msg.{Msg}
use Rattle.ec_wire.specs.declared.msg.Msg.TheVariants.{Restarted}
use Rattle.ec_durable.specs.Durable.{step, slot, is_session, with_slot}
use Rattle.ec_durable.specs.declared.state.Durable.{Durable}
use Rattle.ec_durable.specs.declared.record.Record.{Record}
use Rattle.ec_durable.specs.declared.record.Record.TheVariants as record_of
use Rattle.ec_durable.specs.declared.record.RecordFault.{RecordFault}
use Rattle.ec_durable.specs.declared.record.RecordFault.TheVariants.{NoSession}
use Rattle.ec_protocol.specs.Server.{Serving, serving, commit, stay, tell, with_server, spend, finish, forget, tell_ended, is_last_number, next_number, taken, clerk_of, send_grant, act, act_all, is_grant, serve_rounds, serve, all_claimed, take, end, end_open, new_server, tell_start, tell_all, start}
use Rattle.ec_protocol.specs.declared.server.Server.{Server}
use Rattle.ec_admission.specs.Clerks.{IsOpenIn}
use Rattle.ec_server.specs.Clerks.{Each, HaveClerks, session_of, Records, Goes}
use Rattle.ec_server.specs.ClerkLaws.{each_put, each_action, each_stay, begins, goes_by, either, behind, taken_goes, finish_goes}

-- What serving leaves: the durable state and the record, and what was spent.
pub record Serves (t u : Serving) : Type 0 where
  pub durable : u.server.durable ≡ t.server.durable
  pub rec : u.rec ≡ t.rec
  pub spent : (n : Counter) → t.spent ≡ Some n → u.spent ≡ Some n

serves_same : (t : Serving) → Serves t t
serves_same t = record { durable = refl; rec = refl; spent = λ n p. p }

serves_then : (t u v : Serving) → Serves t u → Serves u v → Serves t v
serves_then t u v p q = record { durable = q.durable ∙ p.durable; rec = q.rec ∙ p.rec; spent = λ n s. q.spent n (p.spent n s) }

next_serves : (t : Serving) → Serves t (next_number t)
next_serves t = go (is_last_number t)
  where
    go : (b : Bool) → Serves t (elim b as (λ z. Serving) [ true ↦ spend counter.Number t | false ↦ with_server (λ s. record s { number = s.number + 1 }) t ])
    go true = record { durable = refl; rec = refl; spent = λ n p. ap (λ (o : Option Counter). first_of o) p }
      where
        first_of : Option Counter → Option Counter
        first_of o = (spend counter.Number (record t { spent = o })).spent
    go false = record { durable = refl; rec = refl; spent = λ n p. p }

act_serves : (a : Action) (t : Serving) → Serves t (act a t)
act_serves (action.Grant ss x h) t = let n = next_serves t in record { durable = n.durable; rec = n.rec; spent = n.spent }
act_serves (action.Recall ss x n h) t = record { durable = refl; rec = refl; spent = λ n p. p }

all_serves : (as' : List Action) (t : Serving) → Serves t (act_all as' t)
all_serves [] t = serves_same t
all_serves (a ∷ more) t = serves_then t (act a t) (act_all more (act a t)) (act_serves a t) (all_serves more (act a t))

-- Wants stay as they are while actions are carried out.

next_recalls : (t : Serving) → (next_number t).server.recalls ≡ t.server.recalls
next_recalls t = go (is_last_number t)
  where
    go : (b : Bool) → (elim b as (λ z. Serving) [ true ↦ spend counter.Number t | false ↦ with_server (λ s. record s { number = s.number + 1 }) t ]).server.recalls ≡ t.server.recalls
    go true = refl
    go false = refl

act_recalls : (a : Action) (t : Serving) → (act a t).server.recalls ≡ t.server.recalls
act_recalls (action.Grant ss x h) t = next_recalls t
act_recalls (action.Recall ss x n h) t = refl

all_recalls : (as' : List Action) (t : Serving) → (act_all as' t).server.recalls ≡ t.server.recalls
all_recalls [] t = refl
all_recalls (a ∷ more) t = all_recalls more (act a t) ∙ act_recalls a t

-- One round.

abbrev pub waits : Serving → Serving
waits t = with_server (λ s. record s { recalls = wants_after s.tokens s.recalls }) t

abbrev pub due_actions : Serving → List Action
due_actions t = actions t.server.tokens t.server.recalls

abbrev pub round : Serving → Serving
round t = act_all (due_actions t) (waits t)

pub round_recalls : (t : Serving) → (round t).server.recalls ≡ wants_after t.server.tokens t.server.recalls
round_recalls t = all_recalls (due_actions t) (waits t)

same_grants : (as' : List Action) → list_any is_grant as' ≡ list_any rounds.is_grant as'
same_grants [] = refl
same_grants (action.Grant ss x h ∷ more) = refl
same_grants (action.Recall ss x n h ∷ more) = same_grants more

pub fewer : (t : Serving) → list_any is_grant (due_actions t) ≡ true → length (round t).server.recalls < length t.server.recalls
fewer t some =
    let less : length (wants_after t.server.tokens t.server.recalls) < length t.server.recalls = shorter t.server.tokens t.server.recalls (sym (same_grants (due_actions t)) ∙ some) in
    subst (λ (ws : List Want). length ws < length t.server.recalls) (sym (round_recalls t)) less

go_on : ℕ → Serving → Bool → Serving
go_on k u b = elim b [ true ↦ serve_rounds k u | false ↦ u ]

-- more rounds than wants change nothing
enough : (j k : ℕ) (t : Serving) → length t.server.recalls < j → length t.server.recalls < k → serve_rounds j t ≡ serve_rounds k t
unfolding go_on
enough zero k t p q = absurd (omega arith)
enough (suc j) zero t p q = absurd (omega arith)
enough (suc j) (suc k) t p q = go (list_any is_grant (due_actions t)) refl (enough j k (round t))
  where
    go : (b : Bool) → list_any is_grant (due_actions t) ≡ b → (length (round t).server.recalls < j → length (round t).server.recalls < k → serve_rounds j (round t) ≡ serve_rounds k (round t))
        → go_on j (round t) (list_any is_grant (due_actions t)) ≡ go_on k (round t) (list_any is_grant (due_actions t))
    go true e rest = ap (go_on j (round t)) e ∙ rest (omega (arith, fewer t e, p)) (omega (arith, fewer t e, q)) ∙ sym (ap (go_on k (round t)) e)
    go false e rest = ap (go_on j (round t)) e ∙ sym (ap (go_on k (round t)) e)

pub goes_round : (t : Serving) → list_any is_grant (due_actions t) ≡ true → serve_rounds (suc (length t.server.recalls)) t ≡ serve_rounds (suc (length (round t).server.recalls)) (round t)
unfolding go_on
goes_round t e = ap (go_on (length t.server.recalls) (round t)) e ∙ enough (length t.server.recalls) (suc (length (round t).server.recalls)) (round t) (fewer t e) (omega arith)

pub ends_round : (t : Serving) → list_any is_grant (due_actions t) ≡ false → serve_rounds (suc (length t.server.recalls)) t ≡ round t
unfolding go_on
ends_round t e = ap (go_on (length t.server.recalls) (round t)) e

round_serves : (t : Serving) → Serves t (round t)
round_serves t = let a = all_serves (due_actions t) (waits t) in record { durable = a.durable; rec = a.rec; spent = a.spent }

rounds_serve : (k : ℕ) (t : Serving) → Serves t (serve_rounds k t)
rounds_serve zero t = serves_same t
rounds_serve (suc k) t = go (list_any is_grant (due_actions t)) (rounds_serve k (round t))
  where
    go : (b : Bool) → Serves (round t) (serve_rounds k (round t)) → Serves t (elim b as (λ z. Serving) [ true ↦ serve_rounds k (round t) | false ↦ round t ])
    go true rest = serves_then t (round t) (serve_rounds k (round t)) (round_serves t) rest
    go false rest = round_serves t

pub serve_serves : (t : Serving) → Serves t (serve t)
serve_serves t = go (all_claimed t.server)
  where
    go : (b : Bool) → Serves t (elim b as (λ z. Serving) [ true ↦ serve_rounds (suc (length t.server.recalls)) t | false ↦ t ])
    go true = rounds_serve (suc (length t.server.recalls)) t
    go false = serves_same t

-- Clerks.

next_clerks : (t : Serving) → HaveClerks t.server → HaveClerks (next_number t).server
next_clerks t h = go (is_last_number t)
  where
    go : (b : Bool) → HaveClerks (elim b as (λ z. Serving) [ true ↦ spend counter.Number t | false ↦ with_server (λ s. record s { number = s.number + 1 }) t ]).server
    go true = h
    go false = record { tokens = h.tokens; wants = h.wants }

act_clerks : (a : Action) (t : Serving) → IsOpenIn t.server.durable.sessions (session_of a) → HaveClerks t.server → HaveClerks (act a t).server
act_clerks (action.Recall ss x n h) t p k = k
act_clerks (action.Grant ss x h) t p k = go (next_number t) (subst (λ (d : Durable). IsOpenIn d.sessions ss) (sym (next_serves t).durable) p) (next_clerks t k)
  where
    go : (u : Serving) → IsOpenIn u.server.durable.sessions ss → HaveClerks u.server
        → HaveClerks (send_grant (clerk_of ss u) ss x h u.server.number (with_server (λ s. record s { tokens = granted ss x h u.server.number s.tokens }) u)).server
    go u p k = record { tokens = each_put (IsOpenIn u.server.durable.sessions) ss _ u.server.tokens p k.tokens; wants = k.wants }

all_clerks : (as' : List Action) (t : Serving) → Each (λ a. IsOpenIn t.server.durable.sessions (session_of a)) as' → HaveClerks t.server → HaveClerks (act_all as' t).server
all_clerks [] t p k = k
all_clerks (a ∷ more) t p k = all_clerks more (act a t) (subst (λ (d : Durable). Each (λ b. IsOpenIn d.sessions (session_of b)) more) (sym (act_serves a t).durable) p.1) (act_clerks a t p.0 k)

pub due_clerks : (t : Serving) → HaveClerks t.server → Each (λ a. IsOpenIn t.server.durable.sessions (session_of a)) (due_actions t)
due_clerks t k = each_action (IsOpenIn t.server.durable.sessions) t.server.tokens [] t.server.recalls k.tokens k.wants

pub round_clerks : (t : Serving) → HaveClerks t.server → HaveClerks (round t).server
round_clerks t k = all_clerks (due_actions t) (waits t) (due_clerks t k) (record { tokens = k.tokens; wants = each_stay (IsOpenIn t.server.durable.sessions) t.server.tokens [] t.server.recalls k.wants })

rounds_clerks : (k : ℕ) (t : Serving) → HaveClerks t.server → HaveClerks (serve_rounds k t).server
rounds_clerks zero t h = h
rounds_clerks (suc k) t h = go (list_any is_grant (due_actions t)) (rounds_clerks k (round t) (round_clerks t h))
  where
    go : (b : Bool) → HaveClerks (serve_rounds k (round t)).server → HaveClerks (elim b as (λ z. Serving) [ true ↦ serve_rounds k (round t) | false ↦ round t ]).server
    go true rest = rest
    go false rest = round_clerks t h

serve_clerks : (t : Serving) → HaveClerks t.server → HaveClerks (serve t).server
serve_clerks t h = go (all_claimed t.server)
  where
    go : (b : Bool) → HaveClerks (elim b as (λ z. Serving) [ true ↦ serve_rounds (suc (length t.server.recalls)) t | false ↦ t ]).server
    go true = rounds_clerks (suc (length t.server.recalls)) t h
    go false = h

-- Whole steps.

served_goes : (d : Durable) (t : Serving) → Goes d t → Goes d (serve t)
served_goes d t g =
    let s = serve_serves t in
    record { clerks = serve_clerks t g.clerks; record_of = subst (λ (o : Option Record). Records o d (serve t).server.durable) (sym s.rec) (subst (λ (e : Durable). Records t.rec d e) (sym s.durable) g.record_of) }

pub take_goes : (c : ℕ) (m : Msg) (s : Server) → HaveClerks s → Goes s.durable (take c m s)
take_goes c m s h = served_goes s.durable (taken c m (serving s)) (taken_goes c m (serving s) refl h)

pub ended_goes : (c : ℕ) (o : Option Slot) (t : Serving) → t.rec ≡ None → HaveClerks t.server → Goes t.server.durable (end_open c o t)
ended_goes c None t none h = begins t none h
ended_goes c (Some sl) t none h = go sl.is_open
  where
    go : (b : Bool) → Goes t.server.durable (elim b as (λ z. Serving) [ true ↦ finish c sl t | false ↦ t ])
    go true = finish_goes c sl t none h
    go false = begins t none h

pub end_goes : (c : ℕ) (s : Server) → HaveClerks s → Goes s.durable (end c s)
end_goes c s h = served_goes s.durable (end_open c (slot s.durable c) (serving s)) (ended_goes c (slot s.durable c) (serving s) refl h)

-- An administrator's end has a record exactly where a session of the clerk is open.

after_end : (c : ℕ) (sl : Slot) (t : Serving) → Result Durable RecordFault → Serving
after_end c sl t res = elim res [ Ok d ↦ tell_ended c sl (with_server (forget sl.session) (record t { server = record (t.server) { durable = d }; rec = Some (record_of.End c sl.session) })) | Err fault ↦ t ]

end_step : ℕ → Option Slot → Durable → Bool → Result Durable RecordFault
end_step c o d b = elim b [ false ↦ Err NoSession | true ↦ Ok (with_slot c (slots.ended o) d) ]

finish_rec : (c : ℕ) (sl : Slot) (t : Serving) → slot t.server.durable c ≡ Some sl → sl.is_open ≡ true → (finish c sl t).rec ≡ Some (record_of.End c sl.session)
unfolding after_end end_step
finish_rec c sl t at opened =
    let is : is_session sl.session (slot t.server.durable c) ≡ true = ap (is_session sl.session) at ∙ ap (λ b. b && (sl.session == sl.session)) opened ∙ eq-eqb sl.session sl.session refl in
    ap (λ res. (after_end c sl t res).rec) (ap (end_step c (slot t.server.durable c) t.server.durable) is)

end_open_rec : (c : ℕ) (t : Serving) (o : Option Slot) → slot t.server.durable c ≡ o → t.rec ≡ None → ((end_open c o t).rec ≡ None) ↔ (slots.is_open o ≡ false)
end_open_rec c t None at none = ((λ p. refl), (λ p. none))
end_open_rec c t (Some sl) at none = go sl.is_open refl
  where
    go : (b : Bool) → sl.is_open ≡ b → ((elim b as (λ z. Serving) [ true ↦ finish c sl t | false ↦ t ]).rec ≡ None) ↔ (b ≡ false)
    go true p = ((λ q. absurd (not_none (sym (finish_rec c sl t at p) ∙ q))), (λ q. absurd cc))
      where
        not_none : Some (record_of.End c sl.session) ≡ None → ⊥
        not_none q = absurd cc
    go false p = ((λ q. refl), (λ q. none))

pub end_rec : (c : ℕ) (s : Server) → ((end c s).rec ≡ None) ↔ (slots.is_open (slot s.durable c) ≡ false)
end_rec c s =
    let e = end_open_rec c (serving s) (slot s.durable c) refl refl in
    let v = serve_serves (end_open c (slot s.durable c) (serving s)) in
    ((λ p. e.0 (sym v.rec ∙ p)), (λ p. v.rec ∙ e.1 p))

-- A start.

told_one : (c : ℕ) (o : Option Slot) (t : Serving) → ((tell_start c t o).server ≡ t.server) × ((tell_start c t o).rec ≡ t.rec)
told_one c None t = (refl, refl)
told_one c (Some sl) t = go sl.is_open
  where
    told : Bool → Serving
    told b = elim b [ true ↦ tell c (Restarted sl.session t.server.durable.epoch) t | false ↦ tell_ended c sl t ]

    go : (b : Bool) → ((told b).server ≡ t.server) × ((told b).rec ≡ t.rec)
    go true = (refl, refl)
    go false = (refl, refl)

pub told_all : (c : ℕ) (list : slots.Slots) (t : Serving) → ((tell_all c list t).server ≡ t.server) × ((tell_all c list t).rec ≡ t.rec)
told_all c [] t = (refl, refl)
told_all c (o ∷ list) t =
    let one = told_one c o t in
    let rest = told_all (c + 1) list (tell_start c t o) in
    (rest.0 ∙ one.0, rest.1 ∙ one.1)

start_by : Durable → Bool → Serving
start_by d b = elim b [ true ↦ spend counter.Epoch (serving (new_server d)) | false ↦ commit (record_of.Epoch (d.epoch + 1)) (λ u. tell_all 0 u.server.durable.sessions u) stay (serving (new_server d)) ]

none_waits : (d : Durable) → HaveClerks (new_server d)
none_waits d = record { tokens = tt; wants = tt }

pub start_goes : (d : Durable) → Goes d (start d)
unfolding start_by
start_goes d = go (nat_le last_counter d.epoch)
  where
    go : (b : Bool) → Goes d (start_by d b)
    go true = goes_by d (serving (new_server d)) (spend counter.Epoch (serving (new_server d))) refl refl refl refl (begins (serving (new_server d)) refl (none_waits d))
    go false =
        either (Goes d) (record_of.Epoch (d.epoch + 1)) (λ u. tell_all 0 u.server.durable.sessions u) stay (serving (new_server d))
        (λ e is. told e is) (begins (serving (new_server d)) refl (none_waits d))
      where
        told : (e : Durable) → step (record_of.Epoch (d.epoch + 1)) d ≡ Ok e → Goes d (tell_all 0 e.sessions (behind (record_of.Epoch (d.epoch + 1)) e (serving (new_server d))))
        told e is =
            let t = behind (record_of.Epoch (d.epoch + 1)) e (serving (new_server d)) in
            let same = told_all 0 e.sessions t in
            let begun : Goes d t = record { clerks = record { tokens = tt; wants = tt }; record_of = is } in
            goes_by d t (tell_all 0 e.sessions t) (ap (λ (s : Server). s.durable) same.0) (ap (λ (s : Server). s.tokens) same.0) (ap (λ (s : Server). s.recalls) same.0) same.1 begun
