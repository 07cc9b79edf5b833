-- Logs stay in order: their operations are sound, and each batch under way has 1 to 64 of them.
use Rattle.std.proofs.Common.{◌≡◌, refl, sym, subst, ◌∙◌, inl, inr, arith, ◌≤◌, ℕ, zero, suc, T, not, List, [], ◌∷◌, length, take}
use Rattle.std.specs.Prelude.{Some}
use Rattle.std.proofs.lemmas.Bool.{cases_eq}
use Rattle.ec_base.specs.Tables.{at, keys}
use Rattle.ec_volume.specs.Update.{member, is_sound}
use Rattle.ec_volume.specs.declared.update.Update.{Update}
use Rattle.ec_history.specs.History.{Each}
use Rattle.ec_order.specs.Order.{Issued}
use Rattle.ec_machine_laws.specs.Logs.{IsLog}
use Rattle.ec_machine_laws.specs.Picks.{IsPicked, Says}
use Rattle.ec_machine_laws.proofs.Batches.{at-put_other, none-some}
use Rattle.ec_machine_laws.proofs.Logging.{empty-log, end-log, issue-batch, issue-log, kept-batch, kept-log, pick-batch, pick-log, was-kept}
use Rattle.ec_machine_laws.proofs.Picking.{pick-says}
use Rattle.ec_machine_laws.proofs.Sending.{picked-sends}
use Rattle.ec_log.specs.Log.{after_pick, batch, closure_of, empty, end, issue, kept, ops_in, pick}
use Rattle.ec_log.specs.declared.state.Asked.{Asked}
use Rattle.ec_log.specs.declared.state.Pick.{Pick}
use Rattle.ec_log.specs.declared.state.Pick.TheVariants as pick_of
use Rattle.ec_log.specs.declared.state.LogState.{LogState}
use Rattle.ec_coherence.proofs.ForServer.Lists.{each-fewer, each-more}

abbrev pub AreFew : LogState → Type 0
AreFew l = (b : ℕ) (ns : List ℕ) → at b l.batches ≡ Some ns → (suc zero ≤ length (batch b l)) × (length (batch b l) ≤ 64)

pub record InOrder (l : LogState) : Type 0 where
  pub log : IsLog l
  pub sound : Each (λ o. T (is_sound o.1)) l.undurable
  pub few : AreFew l

pub empty-order : InOrder empty
empty-order = record { log = empty-log; sound = tt; few = λ b ns w. none-some ns w }

pub end-order : (l : LogState) → InOrder (end l)
end-order l = record { log = end-log l; sound = tt; few = λ b ns w. none-some ns w }

-- the first of a list are at most so many
take-length : {A : Type 0} (n : ℕ) (xs : List A) → length (take n xs) ≤ n
take-length zero xs = omega arith
take-length (suc n) [] = omega arith
take-length (suc n) (x ∷ xs) = let r = take-length n xs in omega arith

some-length : (xs : Issued) (n : ℕ) → T (member n (keys xs)) → suc zero ≤ length xs
some-length [] n m = absurd m
some-length (x ∷ xs) n m = omega arith

abbrev IsFew : ℕ → Type 0
IsFew n = (suc zero ≤ n) × (n ≤ 64)

module _ (l : LogState) (o : InOrder l) where
  -- a pick
  module _ (a : Asked) where
    new-few : (b : ℕ) (ns : List ℕ) → pick a l ≡ pick_of.Batch b ns → IsFew (length (batch b (after_pick (pick a l) l)))
    new-few b ns e =
        let p : IsPicked a l b ns = subst (Says a l) e (pick-says a l (o.log).sorted) in
        subst (λ xs. IsFew (length xs)) (sym (picked-sends a l b ns (o.log).sorted e)) (
          some-length (take 64 (closure_of a l)) (p.some).0 (subst (λ ms. T (member (p.some).0 ms)) p.members (p.some).1),
          take-length 64 (closure_of a l),
        )

    old-few : (c : ℕ) (ms : List ℕ) → at c l.batches ≡ Some ms → IsFew (length (batch c (after_pick (pick a l) l)))
    old-few c ms w = subst (λ xs. IsFew (length xs)) (sym (pick-batch l o.log a c ms w)) (o.few c ms w)

    few-picked : (p : Pick) → pick a l ≡ p → (c : ℕ) (ms : List ℕ) → at c (after_pick p l).batches ≡ Some ms → IsFew (length (batch c (after_pick p l)))
    few-picked (pick_of.Batch b ns) e c ms w = elim (cases_eq c b) [
      | inl q ↦ subst (λ z. IsFew (length (batch z (after_pick (pick_of.Batch b ns) l)))) (sym q) (subst (λ z. IsFew (length (batch b (after_pick z l)))) e (new-few b ns e))
      | inr n ↦ subst (λ z. IsFew (length (batch c (after_pick z l)))) e (old-few c ms (sym (at-put_other c b ns l.batches n) ∙ w))
    ]
    few-picked (pick_of.Behind b) e c ms w = o.few c ms w
    few-picked (pick_of.Window b) e c ms w = o.few c ms w
    few-picked pick_of.Settled e c ms w = o.few c ms w

    same-sound : (p : Pick) → Each (λ x. T (is_sound x.1)) (after_pick p l).undurable
    same-sound (pick_of.Batch b ns) = o.sound
    same-sound (pick_of.Behind b) = o.sound
    same-sound (pick_of.Window b) = o.sound
    same-sound pick_of.Settled = o.sound

    pub pick-order : InOrder (after_pick (pick a l) l)
    pick-order = record { log = pick-log l o.log a; sound = same-sound (pick a l); few = few-picked (pick a l) refl }

  -- a batch is durable
  pub kept-order : (b : ℕ) → InOrder (kept b l)
  kept-order b = record {
    log = kept-log l o.log b;
    sound = each-fewer (λ x. T (is_sound x.1)) (λ x. not (member x.0 (ops_in b l))) l.undurable o.sound;
    few = λ c ms w. let k = was-kept l o.log b c ms w in subst (λ xs. IsFew (length xs)) (sym (kept-batch l o.log b c ms k.0 k.1)) (o.few c ms k.1);
  }

  -- an operation is issued
  pub issue-order : (u : Update) → T (is_sound u) → InOrder (issue u l)
  issue-order u s = record {
    log = issue-log l o.log u;
    sound = each-more (λ x. T (is_sound x.1)) l.undurable ((l.next, u) ∷ []) o.sound (s, tt);
    few = λ c ms w. subst (λ xs. IsFew (length xs)) (sym (issue-batch l o.log u c ms w)) (o.few c ms w);
  }
