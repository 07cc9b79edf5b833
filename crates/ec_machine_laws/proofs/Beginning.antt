-- Logs and windows at the beginning of a session.
use Rattle.std.proofs.Common.{◌≡◌, refl, sym, ap, subst, ◌∙◌, inl, inr, arith, ℕ, Bool, []}
use Rattle.std.proofs.lemmas.Bool.{cases_lt, true≢false}
use Rattle.ec_base.specs.Tables.{at}
use Rattle.ec_order.specs.Order.{Holds}
use Rattle.ec_sessions.specs.Windows.{new_window}
use Rattle.ec_sessions.specs.WindowLaws.{new_has}
use Rattle.ec_sessions.specs.declared.window.Window.{Window}
use Rattle.ec_log.specs.Log.{empty}
use Rattle.ec_log.specs.declared.state.LogState.{LogState}
use Rattle.ec_machine_laws.specs.Logs.{WindowAgrees, TellsDurable}
use Rattle.ec_machine_laws.specs.Picks.{IsRest}
use Rattle.ec_machine_laws.proofs.Batches.{none-some}
use Rattle.ec_base.proofs.Bools.{is-true}

pub empty-rest : (done : ℕ → Bool) → IsRest [] done empty
empty-rest done = record { sorted = tt; rest = refl; closed = tt }

pub new-agrees : (l : LogState) → l.batches ≡ [] → l.next_batch ≡ 1 → WindowAgrees new_window l
new-agrees l e n = record {
  answered = λ b one lt none. absurd (omega (arith, one, lt, n));
  sent = λ b h. elim (cases_lt b 1) [
    | inl lt ↦ omega (arith, lt, n)
    | inr le ↦ absurd (true≢false (sym (is-true _ h) ∙ new_has b le))
  ];
}

pub new-tells : (w : Window) (l : LogState) (durable : ℕ → Bool) → l.undurable ≡ [] → l.batches ≡ [] → TellsDurable w l durable
new-tells w l durable u e = record {
  both = λ b ns x. none-some ns (sym (ap (at b) e) ∙ x);
  known = λ n v h. absurd (subst (λ xs. Holds xs n v) u h);
}
