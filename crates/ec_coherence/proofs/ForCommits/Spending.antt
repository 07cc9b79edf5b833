-- What is spent stays spent to the end of a server's step.
use Rattle.std.proofs.Common.{◌+◌, ℕ, zero, suc, Bool, true, false, T, List, [], ◌∷◌, length}
use Rattle.std.specs.Prelude.{is_some}
use Rattle.std.specs.List.{list_any}
use Rattle.ec_base.specs.declared.counter.Counter.TheVariants as counter
use Rattle.ec_sessions.specs.OfRecall.Due.{actions, wants_after}
use Rattle.ec_sessions.specs.declared.recall.want.Action.{Action}
use Rattle.ec_sessions.specs.declared.recall.want.Action.TheVariants as action
use Rattle.ec_protocol.specs.Server.{Serving, act, act_all, all_claimed, first_spent, is_grant, is_last_number, serve, serve_rounds, with_server}
use Rattle.ec_coherence.proofs.ForServer.Serve.{still-spent}

abbrev pub IsSpent : Serving → Type 0
IsSpent t = T (is_some t.spent)

act-kept : (a : Action) (t : Serving) → IsSpent t → IsSpent (act a t)
act-kept (action.Grant s x h) t i = go (is_last_number t)
  where
    go : (b : Bool) → T (is_some (elim b as (λ z. Serving) [ true ↦ record t { spent = first_spent t.spent counter.Number } | false ↦ with_server (λ s. record s { number = s.number + 1 }) t ]).spent)
    go true = still-spent t.spent counter.Number i
    go false = i
act-kept (action.Recall s x n h) t i = i

all-kept : (due : List Action) (t : Serving) → IsSpent t → IsSpent (act_all due t)
all-kept [] t i = i
all-kept (a ∷ more) t i = all-kept more (act a t) (act-kept a t i)

rounds-kept : (k : ℕ) (t : Serving) → IsSpent t → IsSpent (serve_rounds k t)
rounds-kept zero t i = i
rounds-kept (suc k) t i = go (list_any is_grant due) (all-kept due (with_server (λ s. record s { recalls = wants_after s.tokens s.recalls }) t) i) (λ f j. rounds-kept k f j)
  where
    due : List Action
    due = actions t.server.tokens t.server.recalls

    go : (b : Bool) → IsSpent (act_all due (with_server (λ s. record s { recalls = wants_after s.tokens s.recalls }) t)) → ((f : Serving) → IsSpent f → IsSpent (serve_rounds k f))
        → IsSpent (elim b as (λ z. Serving) [ true ↦ serve_rounds k (act_all due (with_server (λ s. record s { recalls = wants_after s.tokens s.recalls }) t)) | false ↦ act_all due (with_server (λ s. record s { recalls = wants_after s.tokens s.recalls }) t) ])
    go true j r = r _ j
    go false j r = j

pub serve-kept : (t : Serving) → IsSpent t → IsSpent (serve t)
serve-kept t i = go (all_claimed t.server)
  where
    go : (b : Bool) → IsSpent (elim b as (λ z. Serving) [ true ↦ serve_rounds (suc (length t.server.recalls)) t | false ↦ t ])
    go true = rounds-kept (suc (length t.server.recalls)) t i
    go false = i
