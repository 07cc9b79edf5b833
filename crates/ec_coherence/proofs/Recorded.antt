-- The record of a server's step: serving adds none, and a new session in the place of an open one has its own.
use Rattle.std.proofs.Common.{◌≡◌, refl, sym, ap, ◌∙◌, ◌+◌, ℕ, zero, suc, Bool, true, false, T, cond, ◌&&◌, List, [], ◌∷◌, Option, Some, None, length}
use Rattle.std.specs.Prelude.{nat_le, nat_lt, Result, Ok, Err}
use Rattle.std.specs.List.{list_any}
use Rattle.ec_base.specs.Ages.{is_older}
use Rattle.ec_base.specs.Limits.{last_counter}
use Rattle.ec_base.specs.declared.counter.Counter.TheVariants as counter
use Rattle.ec_base.specs.declared.ids.Age.{Age}
use Rattle.ec_sessions.specs.OfRecall.Due.{actions, wants_after}
use Rattle.ec_sessions.specs.declared.recall.want.Action.{Action}
use Rattle.ec_sessions.specs.declared.recall.want.Action.TheVariants as action
use Rattle.ec_sessions.specs.Slots.{is_greater, new_slot}
use Rattle.ec_sessions.specs.declared.slot.Slot.{Slot}
use Rattle.ec_durable.specs.Durable.{is_next_session, slot, step, with_slot}
use Rattle.ec_durable.specs.declared.state.Durable.{Durable}
use Rattle.ec_durable.specs.declared.record.Record.TheVariants as record_of
use Rattle.ec_durable.specs.declared.record.RecordFault.{RecordFault}
use Rattle.ec_durable.specs.declared.record.RecordFault.TheVariants.{BadAge, BadNumber}
use Rattle.ec_protocol.specs.Server.{Serving, act, act_all, all_claimed, first_spent, is_grant, is_last_number, open_new, serve, serve_rounds, serving, spend, tell_opened, with_server}
use Rattle.ec_protocol.specs.declared.server.Server.{Server}
use Rattle.ec_coherence.specs.System.{System}
use Rattle.ec_base.proofs.Numbers.{same-self as same, below}
use Rattle.ec_base.proofs.Bools.{is-true}

act-record : (a : Action) (t : Serving) → (act a t).rec ≡ t.rec
act-record (action.Grant s x h) t = go (is_last_number t)
  where
    go : (b : Bool) → (elim b as (λ z. Serving) [ true ↦ record t { spent = first_spent t.spent counter.Number } | false ↦ with_server (λ s. record s { number = s.number + 1 }) t ]).rec ≡ t.rec
    go true = refl
    go false = refl
act-record (action.Recall s x n h) t = refl

all-record : (due : List Action) (t : Serving) → (act_all due t).rec ≡ t.rec
all-record [] t = refl
all-record (a ∷ more) t = all-record more (act a t) ∙ act-record a t

rounds-record : (k : ℕ) (t : Serving) → (serve_rounds k t).rec ≡ t.rec
rounds-record zero t = refl
rounds-record (suc k) t = go (list_any is_grant due) (all-record due u) (λ f. rounds-record k f)
  where
    due : List Action
    due = actions t.server.tokens t.server.recalls

    u : Serving
    u = with_server (λ s. record s { recalls = wants_after s.tokens s.recalls }) t

    go : (b : Bool) → (act_all due u).rec ≡ t.rec → ((f : Serving) → (serve_rounds k f).rec ≡ f.rec) → (elim b as (λ z. Serving) [ true ↦ serve_rounds k (act_all due u) | false ↦ act_all due u ]).rec ≡ t.rec
    go true q r = r (act_all due u) ∙ q
    go false q r = q

pub serve-record : (t : Serving) → (serve t).rec ≡ t.rec
serve-record t = go (all_claimed t.server)
  where
    go : (b : Bool) → (elim b as (λ z. Serving) [ true ↦ serve_rounds (suc (length t.server.recalls)) t | false ↦ t ]).rec ≡ t.rec
    go true = rounds-record (suc (length t.server.recalls)) t
    go false = refl

-- a greater age opens a session in the place of an open one
module _ (v : Server) (c : ℕ) (age : Age) (sl : Slot) (in_slot : slot v.durable c ≡ Some sl) (greater : T (is_older sl.age age)) (small : nat_le last_counter v.durable.next_session ≡ false) where
  abbrev s : ℕ
  s = v.durable.next_session

  abbrev by_step : Result Durable RecordFault → Serving
  by_step r = elim r as (λ z. Serving) [ Ok e ↦ tell_opened c age s (Some sl.session) (record (serving v) { server = record v { durable = e }; rec = Some (record_of.Open c age s) }) | Err f ↦ serving v ]

  abbrev d : Durable
  d = with_slot c (Some (new_slot age s)) (record (v.durable) { next_session = s + 1 })

  steps : step (record_of.Open c age s) v.durable ≡ Ok d
  steps = ap (λ b. elim b as (λ z. Result Durable RecordFault) [
    | false ↦ Err BadAge
    | true ↦ elim (is_next_session s v.durable) as (λ z. Result Durable RecordFault) [ false ↦ Err BadNumber | true ↦ Ok d ]
  ]) (ap (λ o. is_greater o age) in_slot ∙ is-true (is_older sl.age age) greater) ∙ ap (λ b. elim b as (λ z. Result Durable RecordFault) [ false ↦ Err BadNumber | true ↦ Ok d ])
      (ap (λ z. z && nat_lt s last_counter) (same s) ∙ below last_counter s small)

  pub open-record : (open_new c age (Some sl.session) (serving v)).rec ≡ Some (record_of.Open c age s)
  open-record = ap (λ b. (elim b as (λ z. Serving) [ true ↦ spend counter.Session (serving v) | false ↦ by_step (step (record_of.Open c age s) v.durable) ]).rec) small ∙ ap (λ r. (by_step r).rec) steps
