-- What a line names, behind the watch of its clerk.
use Rattle.std.proofs.Common.{◌≡◌, sym, subst, ◌∙◌, ℕ, T, Bool, List, Some, None}
use Rattle.std.specs.Prelude.{Decides}
use Rattle.std.proofs.lemmas.Float.{T_from_true}
use Rattle.ec_history.specs.Placing.{watch, MayFollow}
use Rattle.ec_history.specs.declared.watch.Watch.{Watch}
use Rattle.ec_history.specs.declared.shown.Shown.{Shown}
use Rattle.ec_history.specs.declared.shown.Shown.TheVariants.{Waits, Answered, Durable, Ended, Unseen, Told, Crashed}
use Rattle.ec_watch.specs.Watches.{clerk_of}
use Rattle.ec_lines.specs.Faults.{HasShape}
use Rattle.ec_lines.specs.Named.{IsNamed}
use Rattle.ec_base.proofs.Bools.{is-true}

pub tells : (r b : Bool) → r ≡ b → Decides r (T b)
tells r b e = (λ t. T_from_true b (sym e ∙ t), λ t. e ∙ is-true b t)

it_is : (e c : ℕ) (past : List Shown) (P : Watch → Type 0) → Some e ≡ Some c → P (watch c past) → P (watch e past)
it_is e c past P q h = subst (λ k. P (watch k past)) (let f : e ≡ c = cc in sym f) h

pub may : (past : List Shown) (s : Shown) (c : ℕ) → clerk_of s ≡ Some c → HasShape past s → IsNamed (watch c past) s → MayFollow past s
may past (Waits l e cl) c p h n = h
may past (Answered l e cl a op) c p h n = (h.0, h.1, it_is e c past (λ w. IsNamed w (Answered l e cl a op)) p n)
may past (Durable e ns) c p h n = it_is e c past (λ w. IsNamed w (Durable e ns)) p n
may past (Ended e ns) c p h n = it_is e c past (λ w. IsNamed w (Ended e ns)) p n
may past (Unseen e) c p h n = it_is e c past (λ w. IsNamed w (Unseen e)) p n
may past (Told e ns) c p h n = it_is e c past (λ w. IsNamed w (Told e ns)) p n
may past (Crashed e) c p h n = tt
may past s c p h n = absurd (cc)

pub must : (past : List Shown) (s : Shown) (c : ℕ) → clerk_of s ≡ Some c → MayFollow past s → IsNamed (watch c past) s
must past (Waits l e cl) c p h = tt
must past (Answered l e cl a op) c p h = it_is c e past (λ w. IsNamed w (Answered l e cl a op)) (sym p) h.2
must past (Durable e ns) c p h = it_is c e past (λ w. IsNamed w (Durable e ns)) (sym p) h
must past (Ended e ns) c p h = it_is c e past (λ w. IsNamed w (Ended e ns)) (sym p) h
must past (Unseen e) c p h = it_is c e past (λ w. IsNamed w (Unseen e)) (sym p) h
must past (Told e ns) c p h = it_is c e past (λ w. IsNamed w (Told e ns)) (sym p) h
must past (Crashed e) c p h = tt
must past s c p h = absurd (cc)

pub may-nobody : (past : List Shown) (s : Shown) → clerk_of s ≡ None → MayFollow past s
may-nobody past (Waits l e cl) p = absurd (cc)
may-nobody past (Answered l e cl a op) p = absurd (cc)
may-nobody past (Durable e ns) p = absurd (cc)
may-nobody past (Ended e ns) p = absurd (cc)
may-nobody past (Unseen e) p = absurd (cc)
may-nobody past (Told e ns) p = absurd (cc)
may-nobody past (Crashed e) p = absurd (cc)
may-nobody past s p = tt
