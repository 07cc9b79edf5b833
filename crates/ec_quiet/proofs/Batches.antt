-- Batches of what is asked for, where none is under way: how many operations go out, and what is left behind them.
use Rattle.std.proofs.Common.{◌≡◌, refl, sym, ap, ◌∙◌, subst, arith, ◌≤◌, ◌+◌, ℕ, zero, suc, T, Bool, true, false, not, ◌||◌, cond, List, [], ◌∷◌, inl, inr, ◌⊎◌, length, filter, take}
use Rattle.std.specs.Prelude.{None, Some, ◌==◌, is_none}
use Rattle.std.specs.List.{list_any}
use Rattle.std.specs.Cmp.{unsigned_ties}
use Rattle.std.proofs.lemmas.Bool.{eq-eqb}
use Rattle.ec_base.specs.Tables.{Table, at, keys, or_else, put}
use Rattle.ec_volume.specs.Update.{member}
use Rattle.ec_volume.specs.declared.update.Update.{Update}
use Rattle.ec_order.specs.Order.{Issued, Holds, closure, needs}
use Rattle.ec_machine_laws.proofs.Holding.{number-of}
use Rattle.ec_machine_laws.proofs.Closing.{asked-closed}
use Rattle.ec_log.specs.Log as log
use Rattle.ec_log.specs.declared.state.Asked.{Asked}
use Rattle.ec_log.specs.declared.state.LogState.{LogState}
use Rattle.ec_log.specs.declared.state.Pick.{Pick}
use Rattle.ec_log.specs.declared.state.Pick.TheVariants.{Batch, Behind, Settled, Window}
use Rattle.ec_quiet.specs.Facts.{is_last}
use Rattle.ec_quiet.specs.Measure.{is_under_way, unsent}

-- Operations that aren't under way.

none-under-way : (bs : Table (List ℕ)) (n : ℕ) → bs ≡ [] → list_any (λ (b : ℕ × List ℕ). member n b.1) bs ≡ false
none-under-way [] n e = refl
none-under-way (b ∷ bs) n e = absurd (grind (arith, e))

pub all-unsent : (l : LogState) → l.batches ≡ [] → unsent l ≡ length l.undurable
all-unsent l e = all l.undurable
  where
    all : (ops : Issued) → length (filter (λ op. not (is_under_way l op.0)) ops) ≡ length ops
    all [] = refl
    all (op ∷ ops) = go (is_under_way l op.0) (none-under-way l.batches op.0 e) (all ops)
      where
        go : (z : Bool) → z ≡ false → length (filter (λ op. not (is_under_way l op.0)) ops) ≡ length ops
            → length (cond (not z) (op ∷ filter (λ op. not (is_under_way l op.0)) ops) (filter (λ op. not (is_under_way l op.0)) ops)) ≡ suc (length ops)
        go true f r = absurd (grind (arith, f))
        go false f r = ap suc r

-- those of one batch are, and no others
of-one-batch : (bs : Table (List ℕ)) (b : ℕ) (ns : List ℕ) → bs ≡ (b, ns) ∷ [] → (n : ℕ) → list_any (λ (b : ℕ × List ℕ). member n b.1) bs ≡ member n ns
of-one-batch bs b ns e n = ap (λ z. list_any (λ (b : ℕ × List ℕ). member n b.1) z) e ∙ no-other (member n ns)
  where
    no-other : (z : Bool) → (z || false) ≡ z
    no-other true = refl
    no-other false = refl

both-parts : (p q : ℕ × Update → Bool) → ((op : ℕ × Update) → q op ≡ not (p op)) → (ops : Issued) → length (filter p ops) + length (filter q ops) ≡ length ops
both-parts p q e [] = refl
both-parts p q e (op ∷ ops) = go (p op) (q op) (e op) (both-parts p q e ops)
  where
    go : (y z : Bool) → z ≡ not y → length (filter p ops) + length (filter q ops) ≡ length ops
        → length (cond y (op ∷ filter p ops) (filter p ops)) + length (cond z (op ∷ filter q ops) (filter q ops)) ≡ suc (length ops)
    go true true f r = absurd (grind (arith, f))
    go true false f r = omega (arith, r)
    go false true f r = omega (arith, r)
    go false false f r = absurd (grind (arith, f))

pub batch-parts : (l : LogState) (b : ℕ) (ns : List ℕ) → l.batches ≡ (b, ns) ∷ [] → length (filter (λ op. member op.0 ns) l.undurable) + unsent l ≡ length l.undurable
batch-parts l b ns e = both-parts (λ op. member op.0 ns) (λ op. not (is_under_way l op.0)) (λ op. ap not (of-one-batch l.batches b ns e op.0)) l.undurable

-- A closure.

here : (n : ℕ) (ns : List ℕ) → member n (n ∷ ns) ≡ true
here n ns = ap (λ z. z || member n ns) (eq-eqb n n refl)

later : (n m : ℕ) (ns : List ℕ) → member n ns ≡ true → member n (m ∷ ns) ≡ true
later n m ns e = go (n == m)
  where
    go : (z : Bool) → (z || member n ns) ≡ true
    go true = refl
    go false = e

-- the first ones of a closure stand in the list that it's taken from
closure-count : (p : ℕ → Bool) (ns : List ℕ) (ops : Issued) (c : ℕ) → ((n : ℕ) → member n (keys (take c (closure p ops))) ≡ true → member n ns ≡ true)
    → length (take c (closure p ops)) ≤ length (filter (λ op. member op.0 ns) ops)
closure-count p ns [] zero f = omega arith
closure-count p ns [] (suc c) f = omega arith
closure-count p ns (op ∷ ops) c f = go (p op.0 || list_any (λ y. needs op.1 y.1) (closure p ops)) c f (closure-count p ns ops)
  where
    more : (z : Bool) (n : ℕ) → n ≤ length (filter (λ op. member op.0 ns) ops) → n ≤ length (cond z (op ∷ filter (λ op. member op.0 ns) ops) (filter (λ op. member op.0 ns) ops))
    more true n l = omega (arith, l)
    more false n l = l

    one : member op.0 ns ≡ true → length (cond (member op.0 ns) (op ∷ filter (λ op. member op.0 ns) ops) (filter (λ op. member op.0 ns) ops)) ≡ suc (length (filter (λ op. member op.0 ns) ops))
    one e = ap (λ z. length (cond z (op ∷ filter (λ op. member op.0 ns) ops) (filter (λ op. member op.0 ns) ops))) e

    go : (z : Bool) (c : ℕ) → ((n : ℕ) → member n (keys (take c (cond z (op ∷ closure p ops) (closure p ops)))) ≡ true → member n ns ≡ true)
        → ((c : ℕ) → ((n : ℕ) → member n (keys (take c (closure p ops))) ≡ true → member n ns ≡ true) → length (take c (closure p ops)) ≤ length (filter (λ op. member op.0 ns) ops))
        → length (take c (cond z (op ∷ closure p ops) (closure p ops))) ≤ length (cond (member op.0 ns) (op ∷ filter (λ op. member op.0 ns) ops) (filter (λ op. member op.0 ns) ops))
    go true zero f r = omega arith
    go true (suc c) f r = omega (arith, r c (λ n e. f n (later n op.0 (keys (take c (closure p ops))) e)), one (f op.0 (here op.0 (keys (take c (closure p ops))))))
    go false c f r = more (member op.0 ns) (length (take c (closure p ops))) (r c f)

keys-count : (ops : Issued) → length (keys ops) ≡ length ops
keys-count [] = refl
keys-count (op ∷ ops) = ap suc (keys-count ops)

-- what is asked for and stands in the list is left out
none-asked : (a : Asked) (ns : List ℕ) (ops : Issued) → ((n : ℕ) (u : Update) → Holds ops n u → log.is_asked a (n, u) ≡ true → member n ns ≡ true) → filter (log.is_asked a) (filter (λ op. not (member op.0 ns)) ops) ≡ []
none-asked a ns [] f = refl
none-asked a ns (op ∷ ops) f = go (member op.0 ns) refl (log.is_asked a op) refl (none-asked a ns ops (λ n u h. f n u (inr h)))
  where
    go : (z : Bool) → member op.0 ns ≡ z → (y : Bool) → log.is_asked a op ≡ y → filter (log.is_asked a) (filter (λ op. not (member op.0 ns)) ops) ≡ []
        → filter (log.is_asked a) (cond (not z) (op ∷ filter (λ op. not (member op.0 ns)) ops) (filter (λ op. not (member op.0 ns)) ops)) ≡ []
    go true q y t r = r
    go false q true t r = let bad : false ≡ true = sym q ∙ f op.0 op.1 (inl (refl, refl)) t in absurd (grind (arith, bad))
    go false q false t r = ap (λ z. cond z (op ∷ filter (log.is_asked a) (filter (λ op. not (member op.0 ns)) ops)) (filter (log.is_asked a) (filter (λ op. not (member op.0 ns)) ops))) t ∙ r

-- the numbers that a pick takes
pub numbers-are : (a : Asked) (l : LogState) (b : ℕ) (ns : List ℕ) → l.batches ≡ [] → log.pick a l ≡ Batch b ns → ns ≡ keys (take 64 (log.closure_of a l))
numbers-are a l b ns none e = go (log.closure_of a l) e
  where
    go : (ops : Issued) → log.pick_from ops l ≡ Batch b ns → ns ≡ keys (take 64 ops)
    go [] e = absurd (apart e)
      where
        apart : Settled ≡ Batch b ns → ⊥
        apart e = cc
    go (op ∷ ops) e = same (sym begins ∙ e)
      where
        begins : log.pick_from (op ∷ ops) l ≡ Batch l.next_batch (keys (take 64 (op ∷ ops)))
        begins =
            ap (λ bs. elim (Rattle.ec_base.specs.Tables.first (log.has_one_of (keys (op ∷ ops))) bs) as (λ z. Pick) [ Some c ↦ Behind c.0 | None ↦ log.new_batch (op ∷ ops) l ]) none
            ∙ ap (λ bs. elim (log.in_window l bs) as (λ z. Pick) [ true ↦ Batch l.next_batch (keys (take 64 (op ∷ ops))) | false ↦ Window (log.least bs) ]) none

        same : Batch l.next_batch (keys (take 64 (op ∷ ops))) ≡ Batch b ns → ns ≡ keys (take 64 (op ∷ ops))
        same e = cc

-- A batch begins.

module _ (a : Asked) (l : LogState) (b : ℕ) (ns : List ℕ) (none : l.batches ≡ []) (pick : log.pick a l ≡ Batch b ns) where
  abbrev now : LogState
  now = log.after_pick (Batch b ns) l

  pub alone : now.batches ≡ (b, ns) ∷ []
  alone = ap (put b ns) none

  -- its operations are under way
  pub goes-out : unsent now + length ns ≤ unsent l
  goes-out =
      let many : length (take 64 (log.closure_of a l)) ≤ length (filter (λ op. member op.0 ns) l.undurable)
      = closure-count (λ n. member n (keys (log.asked_for a l))) ns l.undurable 64 (λ n e. ap (member n) (numbers-are a l b ns none pick) ∙ e) in
      omega (arith, many, batch-parts now b ns alone, all-unsent l none, ap length (numbers-are a l b ns none pick), keys-count (take 64 (log.closure_of a l)))

  own-ops : log.ops_in b now ≡ ns
  own-ops = ap (λ bs. or_else [] (at b bs)) alone ∙ ap (λ z. or_else [] (cond z (Some ns) None)) (sym (unsigned_ties b b) ∙ eq-eqb b b refl)

  -- it's full, or has all that is asked for
  pub full-or-last : (length ns ≡ 64) ⊎ (is_last a b now ≡ true)
  full-or-last = elim (full-or-all 64 (log.closure_of a l)) [
    | inl e ↦ inl (ap length (numbers-are a l b ns none pick) ∙ e)
    | inr e ↦ inr (whole (numbers-are a l b ns none pick ∙ ap keys e))
  ]
    where
      full-or-all : (k : ℕ) (xs : Issued) → (length (keys (take k xs)) ≡ k) ⊎ (take k xs ≡ xs)
      full-or-all zero xs = inl refl
      full-or-all (suc k) [] = inr refl
      full-or-all (suc k) (x ∷ xs) = elim (full-or-all k xs) [ inl e ↦ inl (ap suc e) | inr e ↦ inr (ap (λ ys. x ∷ ys) e) ]

      whole : ns ≡ keys (log.closure_of a l) → is_last a b now ≡ true
      whole e =
          ap (λ ms. is_none (log.first_number (filter (log.is_asked a) (filter (λ op. not (member op.0 ms)) l.undurable)))) own-ops
          ∙ ap (λ ops. is_none (log.first_number ops)) (none-asked a ns l.undurable closed)
        where
          closed : (n : ℕ) (u : Update) → Holds l.undurable n u → log.is_asked a (n, u) ≡ true → member n ns ≡ true
          closed n u h t =
              let m : T (member n (keys (log.closure_of a l))) = number-of (log.closure_of a l) n u (asked-closed a l n u h (subst T (sym t) tt)) in
              ap (member n) e ∙ holds (member n (keys (log.closure_of a l))) m
            where
              holds : (z : Bool) → T z → z ≡ true
              holds true t = refl
              holds false t = absurd t
