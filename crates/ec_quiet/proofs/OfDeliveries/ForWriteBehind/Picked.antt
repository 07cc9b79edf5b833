-- Logs whose batches under way are what a line asks for.
use Rattle.std.proofs.Common.{◌≡◌, sym, subst, ℕ, T, Bool, true, false, List, [], ◌∷◌, take}
use Rattle.std.specs.Prelude.{Option, None, Some}
use Rattle.std.specs.Ordering.{nat_cmp}
use Rattle.std.specs.FinMap.Entries.{by_order}
use Rattle.std.specs.declared.cmp.Ordering.{Ordering}
use Rattle.std.specs.declared.cmp.Ordering.TheVariants.{Less, Equal, Greater}
use Rattle.ec_base.specs.Tables.{Table, first as first_that, keys, put}
use Rattle.ec_base.specs.declared.counter.Counter.TheVariants as counter
use Rattle.ec_volume.specs.Update.{member}
use Rattle.ec_volume.specs.Volume.{Images}
use Rattle.ec_history.specs.History.{Each}
use Rattle.ec_order.specs.Order.{Issued}
use Rattle.ec_machine_laws.proofs.Holding.{held-by, number-of, take-holds}
use Rattle.ec_log.specs.Log as log
use Rattle.ec_log.specs.declared.state.Asked.{Asked}
use Rattle.ec_log.specs.declared.state.LogState.{LogState}
use Rattle.ec_log.specs.declared.state.Pick.{Pick}
use Rattle.ec_log.specs.declared.state.Pick.TheVariants.{Batch, Behind, Window}
use Rattle.ec_protocol.specs.Clerk.{Doing, ask_for, send_picked, spend}
use Rattle.ec_quiet.specs.Works.{Work}
use Rattle.ec_quiet.specs.Tries.{batch_sent}
use Rattle.ec_quiet.specs.OfDeliveries.PhasesBehind.{AreAsked, AsksOf, BatchesAreAsked}
use Rattle.ec_history.proofs.OfLaws.ForPlacing.BasesAlike.{each-map}

put-each : {X : Type 0} (P : X → Type 0) (n : ℕ) (x : X) (es : Table X) → P x → Each {A = ℕ × X} (λ e. P e.1) es → Each {A = ℕ × X} (λ e. P e.1) (put n x es)
put-each P n x [] p h = (p, tt)
put-each {X} P n x (e ∷ es) p h = go (nat_cmp n e.0) (put-each P n x es p h.1)
  where
    go : (r : Ordering) → Each {A = ℕ × X} (λ e. P e.1) (put n x es) → Each {A = ℕ × X} (λ e. P e.1) (by_order r ((n, x) ∷ e ∷ es) ((e.0, x) ∷ es) (e ∷ put n x es))
    go Less q = (p, h)
    go Equal q = (p, h.1)
    go Greater q = (h.0, q)

-- the first ones of a list
in-front : (k : ℕ) (ops : Issued) (n : ℕ) → T (member n (keys (take k ops))) → T (member n (keys ops))
in-front k ops n m = let f = held-by (take k ops) n m in number-of ops n f.0 (take-holds k ops n f.0 f.1)

module _ (v : Images) (j : Work) (c : ℕ) where
  -- no batch is under way
  pub none-fine : (l : LogState) → l.batches ≡ [] → BatchesAreAsked v j c l
  none-fine l e = subst (Each {A = ℕ × List ℕ} (λ b. AreAsked v j c l b.1)) (sym e) tt

  module _ (a : Asked) (asks : AsksOf v j c a) (d : Doing) (fine : BatchesAreAsked v j c d.clerk.log) where
    abbrev l : LogState
    l = d.clerk.log

    abbrev sent : Issued → LogState
    sent xs = log.after_pick (Batch l.next_batch (keys (take 64 xs))) l

    again : (xs : Issued) (b : ℕ × List ℕ) → AreAsked v j c l b.1 → AreAsked v j c (sent xs) b.1
    again xs b q = record { what = q.what; asks = q.asks; inside = q.inside }

    batches : (xs : Issued) → ((n : ℕ) → T (member n (keys xs)) → T (member n (keys (log.closure_of a l)))) → (z : Bool)
        → BatchesAreAsked v j c (elim z as (λ z. Doing) [ true ↦ spend counter.Batch d | false ↦ batch_sent l.next_batch (keys (take 64 xs)) d ]).clerk.log
    batches xs inside true = fine
    batches xs inside false =
        put-each (AreAsked v j c (sent xs)) l.next_batch (keys (take 64 xs)) l.batches (record { what = a; asks = asks; inside = λ n m. inside n (in-front 64 xs n m) })
        (each-map {A = ℕ × List ℕ} (λ b. AreAsked v j c l b.1) (λ b. AreAsked v j c (sent xs) b.1) (again xs) l.batches fine)

    picked : (xs : Issued) → ((n : ℕ) → T (member n (keys xs)) → T (member n (keys (log.closure_of a l)))) → BatchesAreAsked v j c (send_picked (log.pick_from xs l) d).clerk.log
    picked [] inside = fine
    picked (x ∷ xs) inside = go (first_that (log.has_one_of (keys (x ∷ xs))) l.batches)
      where
        within : (z : Bool) → BatchesAreAsked v j c (send_picked (elim z as (λ z. Pick) [ true ↦ Batch l.next_batch (keys (take 64 (x ∷ xs))) | false ↦ Window (log.least l.batches) ]) d).clerk.log
        within true = batches (x ∷ xs) inside (log.batches_are_spent l)
        within false = fine

        go : (r : Option (ℕ × List ℕ)) → BatchesAreAsked v j c (send_picked (elim r as (λ z. Pick) [ Some b ↦ Behind b.0 | None ↦ log.new_batch (x ∷ xs) l ]) d).clerk.log
        go (Some b) = fine
        go None = within (log.in_window l l.batches)

    -- what is asked for goes out
    pub asked-fine : BatchesAreAsked v j c (ask_for a d).clerk.log
    asked-fine = picked (log.closure_of a l) (λ n m. m)
