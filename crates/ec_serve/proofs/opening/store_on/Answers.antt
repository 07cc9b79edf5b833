use Rattle.std.proofs.Common.{◌≡◌, ℕ, List, length, Ok, Err, Result, IfOk, ◌∙◌, subst}
use Rattle.ec_stands.specs.Stands.{IsBadAt, StandsFor}
use Rattle.ec_store.specs.Store.{view_of}
use Rattle.ec_store.specs.declared.store.Store.{Store}
use Rattle.ec_store.specs.declared.fault.StoreFault.{StoreFault}
use Rattle.ec_serve.specs.Serve.{Opens}
use Rattle.ec_serve.proofs.opening.store_on.Goals as goal

-- what was opened stood there before, on a disk that isn't empty
opened : (r : Result Store StoreFault) (Tells : Type 0) (here before : List ℕ) → (Tells → here ≡ before) → (Tells → length before ≡ 0 → ⊥)
    → IfOk r (λ store. Tells → StandsFor here (view_of store)) → IfOk r (λ store. Opens Tells before (view_of store))
opened (Ok store) Tells here before same full stands = record {
  empty = λ told none. absurd (full told none);
  stands = λ told more. subst (λ (image : List ℕ). StandsFor image (view_of store)) (same told) (stands told);
}
opened (Err e) Tells here before same full stands = tt

pub returns-else-bytes-eq0-clause-opens : goal.returns-else-bytes-eq0-clause-opens
returns-else-bytes-eq0-clause-opens g c = opened c.open.result g.D.Disk.tells _ _ (λ told. (c.len.ensures.rests told).gives)
    (λ told none. c.if-bytes-eq0.false (c.len.ensures.len told _ c.in-Len.is ∙ none)) c.open.ensures.stands

pub returns-else-bytes-eq0-clause-bad : goal.returns-else-bytes-eq0-clause-bad
returns-else-bytes-eq0-clause-bad g c = λ place is told. (
  (λ none. c.if-bytes-eq0.false (c.len.ensures.len told _ c.in-Len.is ∙ none)),
  subst (λ (xs : List ℕ). IsBadAt xs place) (c.len.ensures.rests told).gives (c.open.ensures.bad place is told),
  c.open.ensures.unchanged place is told ∙ (c.len.ensures.rests told).gives,
)
