-- Serving wants changes no session and no claim, and where an open session hasn't claimed nothing is served.
use Rattle.std.proofs.Common.{◌≡◌, refl, sym, subst, ◌∙◌, ◌<◌, ◌&&◌, ◌||◌, ◌+◌, ℕ, zero, suc, T, Bool, true, false, not, List, [], ◌∷◌, length, Option, Some}
use Rattle.std.specs.List.{list_all, list_any}
use Rattle.ec_base.specs.declared.counter.Counter.TheVariants as counter
use Rattle.ec_volume.specs.Update.{member}
use Rattle.ec_sessions.specs.Slots.{Slots, slot_at}
use Rattle.ec_sessions.specs.declared.slot.Slot.{Slot}
use Rattle.ec_sessions.specs.OfRecall.Due.{actions, wants_after}
use Rattle.ec_sessions.specs.declared.recall.want.Action.{Action}
use Rattle.ec_sessions.specs.declared.recall.want.Action.TheVariants.{Grant, Recall}
use Rattle.ec_protocol.specs.Server.{Serving, act, act_all, all_claimed, is_claimed, is_grant, is_last_number, next_number, serve, serve_rounds, spend, with_server}
use Rattle.ec_protocol.specs.declared.server.Server.{Server}
use Rattle.ec_machine_laws.specs.OfNodeLaws.Claims.{IsOpen}
use Rattle.ec_machine_laws.proofs.OfNodeLaws.Unclaimed.{HasNot}
use Rattle.ec_base.proofs.Options.{none-some as none_some}

-- sessions and claims are the same
record SameIn (t u : Serving) : Type 0 where
  durable : u.server.durable ≡ t.server.durable
  claimed : u.server.claimed ≡ t.server.claimed

same : (t : Serving) → SameIn t t
same t = record { durable = refl; claimed = refl }

numbered : (t : Serving) → SameIn t (next_number t)
numbered t = go (is_last_number t)
  where
    go : (b : Bool) → SameIn t (elim b as (λ z. Serving) [ true ↦ spend counter.Number t | false ↦ with_server (λ v. record v { number = v.number + 1 }) t ])
    go true = record { durable = refl; claimed = refl }
    go false = record { durable = refl; claimed = refl }

acts : (t : Serving) (a : Action) → SameIn t (act a t)
acts t (Grant ss x h) = let k = numbered t in record { durable = k.durable; claimed = k.claimed }
acts t (Recall ss x n h) = record { durable = refl; claimed = refl }

acts-all : (as' : List Action) (t : Serving) → SameIn t (act_all as' t)
acts-all [] t = same t
acts-all (a ∷ more) t = let k = acts t a in let l = acts-all more (act a t) in record { durable = l.durable ∙ k.durable; claimed = l.claimed ∙ k.claimed }

rounds : (k : ℕ) (t : Serving) → SameIn t (serve_rounds k t)
rounds zero t = same t
rounds (suc k) t = go (list_any is_grant due) (rounds k u)
  where
    due : List Action
    due = actions t.server.tokens t.server.recalls

    u : Serving
    u = act_all due (with_server (λ v. record v { recalls = wants_after v.tokens v.recalls }) t)

    on : SameIn t u
    on = let l = acts-all due (with_server (λ v. record v { recalls = wants_after v.tokens v.recalls }) t) in record { durable = l.durable; claimed = l.claimed }

    go : (b : Bool) → SameIn u (serve_rounds k u) → SameIn t (elim b as (λ z. Serving) [ true ↦ serve_rounds k u | false ↦ u ])
    go true r = record { durable = r.durable ∙ on.durable; claimed = r.claimed ∙ on.claimed }
    go false r = on

serves : (t : Serving) → SameIn t (serve t)
serves t = go (all_claimed t.server)
  where
    go : (b : Bool) → SameIn t (elim b as (λ z. Serving) [ true ↦ serve_rounds (suc (length t.server.recalls)) t | false ↦ t ])
    go true = rounds (suc (length t.server.recalls)) t
    go false = same t

pub served-not : (s : ℕ) (t : Serving) → HasNot s t.server → HasNot s (serve t).server
served-not s t h =
    let k = serves t in
    record { unclaimed = λ m. h.unclaimed (subst (λ xs. T (member s xs)) k.claimed m); given = subst (λ d. s < d.next_session) (sym k.durable) h.given }

-- An open session that hasn't claimed.

all-at : (test : Option Slot → Bool) (xs : Slots) (c : ℕ) (sl : Slot) → slot_at xs c ≡ Some sl → T (list_all test xs) → T (test (Some sl))
all-at test [] c sl is all = none_some sl is
all-at test (x ∷ xs) zero sl is all = subst (λ o. T (test o)) is (left (test x) (list_all test xs) all)
  where
    left : (a b : Bool) → T (a && b) → T a
    left true b h = tt
    left false b h = h
all-at test (x ∷ xs) (suc c) sl is all = all-at test xs c sl is (right (test x) (list_all test xs) all)
  where
    right : (a b : Bool) → T (a && b) → T b
    right true b h = h
    right false b h = absurd h

none-claimed : (s : ℕ) (v : Server) → HasNot s v → IsOpen s v.durable → T (all_claimed v) → ⊥
none-claimed s v h o all = open-claimed o.slot.is_open (member s v.claimed) o.is_open h.unclaimed (subst (λ n. T (not o.slot.is_open || member n v.claimed)) o.session (all-at (is_claimed v) v.durable.sessions o.clerk o.slot o.at all))
  where
    open-claimed : (a b : Bool) → T a → (T b → ⊥) → T (not a || b) → ⊥
    open-claimed true b p f h = f h
    open-claimed false b p f h = absurd p

pub served-none : (s : ℕ) (t : Serving) → HasNot s t.server → IsOpen s (serve t).server.durable → serve t ≡ t
served-none s t h o = go (all_claimed t.server) (none-claimed s t.server h (subst (IsOpen s) (serves t).durable o))
  where
    go : (b : Bool) → (T b → ⊥) → elim b as (λ z. Serving) [ true ↦ serve_rounds (suc (length t.server.recalls)) t | false ↦ t ] ≡ t
    go true f = absurd (f tt)
    go false f = refl
