-- Logs stay in order.
use Rattle.std.proofs.Common.{◌≡◌, refl, sym, ap, subst, ◌∙◌, inl, inr, arith, ◌+◌, ◌<◌, ◌≤◌, ◌⊎◌, ℕ, T, Bool, true, false, not, cond, List, [], ◌∷◌, ◌++◌, Option, Some, None, append-nil}
use Rattle.std.specs.Ordering.{nat_cmp, is_lt}
use Rattle.std.specs.Cmp.{nat_cmp_total}
use Rattle.std.specs.FinMap.{is_sorted}
use Rattle.std.specs.FinMap.Entries.{below_all, is_sorted-put, is_sorted-where_key}
use Rattle.std.specs.List.{filter}
use Rattle.std.proofs.lemmas.Bool.{cases_Bool, cases_eq, cases_lt, true≢false}
use Rattle.std.proofs.lemmas.List.Elements.{filter-append}
use Rattle.ec_base.specs.Tables.{Table, at, put, without, or_else}
use Rattle.ec_volume.specs.Update.{member}
use Rattle.ec_volume.specs.declared.update.Update.{Update}
use Rattle.ec_order.specs.Order.{Issued, Holds}
use Rattle.ec_sessions.specs.Windows.{has, after_mark}
use Rattle.ec_sessions.specs.WindowLaws.{has-after_other, kept_over}
use Rattle.ec_sessions.specs.declared.window.Window.{Window}
use Rattle.ec_log.specs.Log.{empty, issue, pick, after_pick, ops_in, batch, kept, end}
use Rattle.ec_log.specs.declared.state.Asked.{Asked}
use Rattle.ec_log.specs.declared.state.Pick.{Pick}
use Rattle.ec_log.specs.declared.state.Pick.TheVariants.{Batch, Settled, Behind, Window as AtWindow}
use Rattle.ec_log.specs.declared.state.LogState.{LogState}
use Rattle.ec_machine_laws.specs.Picks.{IsPicked, Says}
use Rattle.ec_machine_laws.specs.Logs.{IsUnderWay, IsLog, WindowAgrees}
use Rattle.ec_machine_laws.proofs.Holding.{holds-front, holds-kept, sorted-part}
use Rattle.ec_machine_laws.proofs.Picking.{pick-says}
use Rattle.ec_machine_laws.proofs.Batches.{none-some, at-put_same, at-put_other, at-without_same, at-without_other, least-found, all-found}
use Rattle.ec_base.proofs.Bools.{both, first as left, right, on as holds, is-true}
use Rattle.ec_base.proofs.Numbers.{less-tested as is-less}

-- One more operation.

pub holds-more : (xs ys : Issued) (n : ℕ) (u : Update) → Holds xs n u → Holds (xs ++ ys) n u
holds-more [] ys n u h = absurd h
holds-more (x ∷ xs) ys n u (inl e) = inl e
holds-more (x ∷ xs) ys n u (inr h) = inr (holds-more xs ys n u h)

pub holds-either : (xs : Issued) (y : ℕ × Update) (n : ℕ) (u : Update) → Holds (xs ++ y ∷ []) n u → Holds xs n u ⊎ (y.0 ≡ n)
holds-either [] y n u (inl e) = inr e.0
holds-either [] y n u (inr h) = absurd h
holds-either (x ∷ xs) y n u (inl e) = inl (inl e)
holds-either (x ∷ xs) y n u (inr h) = elim (holds-either xs y n u h) [ inl k ↦ inl (inr k) | inr e ↦ inr e ]

below-more : (m : ℕ) (xs : Issued) (y : ℕ × Update) → T (below_all nat_cmp m xs) → m < y.0 → T (below_all nat_cmp m (xs ++ y ∷ []))
below-more m [] y h l = both (is_lt (nat_cmp m y.0)) true (holds (is-less m y.0 l)) tt
below-more m (x ∷ xs) y h l =
    both (is_lt (nat_cmp m x.0)) (below_all nat_cmp m (xs ++ y ∷ [])) (left (is_lt (nat_cmp m x.0)) (below_all nat_cmp m xs) h)
    (below-more m xs y (right (is_lt (nat_cmp m x.0)) (below_all nat_cmp m xs) h) l)

pub sorted-more : (xs : Issued) (y : ℕ × Update) → T (is_sorted nat_cmp xs) → ((n : ℕ) (u : Update) → Holds xs n u → n < y.0) → T (is_sorted nat_cmp (xs ++ y ∷ []))
sorted-more [] y s h = tt
sorted-more (x ∷ xs) y s h =
    both (below_all nat_cmp x.0 (xs ++ y ∷ [])) (is_sorted nat_cmp (xs ++ y ∷ []))
    (below-more x.0 xs y (left (below_all nat_cmp x.0 xs) (is_sorted nat_cmp xs) s) (h x.0 x.1 (inl (refl, refl))))
    (sorted-more xs y (right (below_all nat_cmp x.0 xs) (is_sorted nat_cmp xs) s) (λ n u k. h n u (inr k)))

pub empty-log : IsLog empty
empty-log = record {
  sorted = tt;
  numbers = λ n u h. absurd h;
  first_batch = omega arith;
  batches = tt;
  below = λ b ns w. none-some ns w;
  near = λ b ns w. none-some ns w;
  held = λ b ns w. none-some ns w;
  apart = λ b c ns ms w x. none-some ns w;
  closed = λ b ns w. none-some ns w;
}

pub end-log : (l : LogState) → IsLog (end l)
end-log l = record {
  sorted = tt;
  numbers = λ n u h. absurd h;
  first_batch = omega arith;
  batches = tt;
  below = λ b ns w. none-some ns w;
  near = λ b ns w. none-some ns w;
  held = λ b ns w. none-some ns w;
  apart = λ b c ns ms w x. none-some ns w;
  closed = λ b ns w. none-some ns w;
}

module _ (l : LogState) (i : IsLog l) where
  -- the operations of a batch are below the next number
  batch-below : (b : ℕ) (ns : List ℕ) → IsUnderWay l b ns → (n : ℕ) → T (member n ns) → n < l.next
  batch-below b ns w n m = let f = i.held b ns w n m in i.numbers n f.0 f.1

  pub issue-log : (u : Update) → IsLog (issue u l)
  issue-log u = record {
    sorted = sorted-more l.undurable (l.next, u) i.sorted i.numbers;
    numbers = λ n v h. elim (holds-either l.undurable (l.next, u) n v h) [ inl k ↦ omega (arith, i.numbers n v k) | inr e ↦ omega (arith, e) ];
    first_batch = i.first_batch;
    batches = i.batches;
    below = i.below;
    near = i.near;
    held = λ b ns w n m. let f = i.held b ns w n m in (f.0, holds-more l.undurable ((l.next, u) ∷ []) n f.0 f.1);
    apart = i.apart;
    closed = λ b ns w m n x y hm hn lt nd k.
        let under : n < l.next = batch-below b ns w n k in
        elim (holds-either l.undurable (l.next, u) m x hm) [
          | inr e ↦ absurd (omega (arith, e, lt, under))
          | inl p ↦ elim (holds-either l.undurable (l.next, u) n y hn) [
            | inr e ↦ absurd (omega (arith, e, under))
            | inl q ↦ i.closed b ns w m n x y p q lt nd k
          ]
        ];
  }

  -- A new batch.

  module _ (a : Asked) (b : ℕ) (ns : List ℕ) (p : IsPicked a l b ns) where
    abbrev picked : LogState
    picked = after_pick (Batch b ns) l

    is-next : (c : ℕ) (ms : List ℕ) → IsUnderWay l c ms → c ≡ b → ⊥
    is-next c ms w e = absurd (omega (arith, e, p.next, i.below c ms w))

    -- what is under way is the new one or was before
    pub was : (c : ℕ) (ms : List ℕ) → IsUnderWay picked c ms → ((c ≡ b) × (ms ≡ ns)) ⊎ IsUnderWay l c ms
    was c ms w = elim (cases_eq c b) [
      | inl e ↦
          let found : ◌≡◌ {A = Option (List ℕ)} (Some ns) (Some ms) = sym (at-put_same b ns l.batches) ∙ ap (λ k. at k (put b ns l.batches)) (sym e) ∙ w in
          let same : ms ≡ ns = cc in
          inl (e, same)
      | inr n ↦ inr (sym (at-put_other c b ns l.batches n) ∙ w)
    ]

    strict : (c : ℕ) (ms : List ℕ) → IsUnderWay l c ms → b + 1 ≤ c + 8
    strict c ms w =
        let f = least-found c ms l.batches i.batches w in
        let near : l.next_batch ≤ f.key + 8 = i.near f.key f.value f.here in
        elim (cases_eq l.next_batch (f.key + 8)) [
          | inl e ↦ absurd (p.near f.key f.value f.rest f.whole e)
          | inr n ↦ strictly f.key near n f.below
        ]
      where
        strictly : (k : ℕ) → l.next_batch ≤ k + 8 → (l.next_batch ≡ k + 8 → ⊥) → k ≤ c → b + 1 ≤ c + 8
        strictly k near n le = omega (arith, p.next, near, le)

    free-in : (c : ℕ) (ms : List ℕ) → IsUnderWay l c ms → (n : ℕ) → T (member n ns) → T (member n ms) → ⊥
    free-in c ms w n m k = off (member n ms) (all-found (λ os. not (member n os)) c ms l.batches (p.free n m) w) k
      where
        off : (t : Bool) → T (not t) → T t → ⊥
        off true x y = absurd x
        off false x y = absurd y

    pub picked-log : IsLog picked
    picked-log = record {
      sorted = i.sorted;
      numbers = i.numbers;
      first_batch = omega arith;
      batches = is_sorted-put nat_cmp nat_cmp_total b ns l.batches i.batches;
      below = λ c ms w. elim (was c ms w) [ inl e ↦ omega (arith, e.0) | inr k ↦ omega (arith, p.next, i.below c ms k) ];
      near = λ c ms w. elim (was c ms w) [ inl e ↦ omega (arith, e.0) | inr k ↦ strict c ms k ];
      held = λ c ms w n m. elim (was c ms w) [ inl e ↦ p.held n (subst (λ os. T (member n os)) e.1 m) | inr k ↦ i.held c ms k n m ];
      apart = λ c d ms os w x n m k. elim (was c ms w) [
        | inl e ↦ elim (was d os x) [
          | inl f ↦ e.0 ∙ sym f.0
          | inr f ↦ absurd (free-in d os f n (subst (λ js. T (member n js)) e.1 m) k)
        ]
        | inr e ↦ elim (was d os x) [
          | inl f ↦ absurd (free-in c ms e n (subst (λ js. T (member n js)) f.1 k) m)
          | inr f ↦ i.apart c d ms os e f n m k
        ]
      ];
      closed = λ c ms w m n x y hm hn lt nd k. elim (was c ms w) [
        | inl e ↦ subst (λ js. T (member m js)) (sym e.1) (p.needs m n x y hm hn lt nd (subst (λ js. T (member n js)) e.1 k))
        | inr e ↦ i.closed c ms e m n x y hm hn lt nd k
      ];
    }

    pub picked-agrees : (w : Window) → WindowAgrees w l → WindowAgrees w picked
    picked-agrees w g = record {
      answered = λ c one lt none. elim (cases_eq c b) [
        | inl e ↦ none-some ns (sym none ∙ ap (λ k. at k (put b ns l.batches)) e ∙ at-put_same b ns l.batches)
        | inr n ↦ g.answered c one (still-below c lt n) (sym (at-put_other c b ns l.batches n) ∙ none)
      ];
      sent = λ c h. omega (arith, p.next, g.sent c h);
    }
      where
        still-below : (c : ℕ) → c < b + 1 → (c ≡ b → ⊥) → c < l.next_batch
        still-below c lt n = omega (arith, p.next, lt)

    pub picked-batch : (c : ℕ) (ms : List ℕ) → IsUnderWay l c ms → batch c picked ≡ batch c l
    picked-batch c ms w = ap (λ o. filter (λ op. member op.0 (or_else [] o)) l.undurable) (at-put_other c b ns l.batches (is-next c ms w))

  -- Each pick.

  pub pick-log : (a : Asked) → IsLog (after_pick (pick a l) l)
  pick-log a = go (pick a l) (pick-says a l i.sorted)
    where
      go : (p : Pick) → Says a l p → IsLog (after_pick p l)
      go (Batch b ns) q = picked-log a b ns q
      go Settled q = i
      go (Behind b) q = i
      go (AtWindow b) q = i

  pub pick-agrees : (a : Asked) (w : Window) → WindowAgrees w l → WindowAgrees w (after_pick (pick a l) l)
  pick-agrees a w g = go (pick a l) (pick-says a l i.sorted)
    where
      go : (p : Pick) → Says a l p → WindowAgrees w (after_pick p l)
      go (Batch b ns) q = picked-agrees a b ns q w g
      go Settled q = g
      go (Behind b) q = g
      go (AtWindow b) q = g

  pub pick-batch : (a : Asked) (c : ℕ) (ms : List ℕ) → IsUnderWay l c ms → batch c (after_pick (pick a l) l) ≡ batch c l
  pick-batch a c ms w = go (pick a l) (pick-says a l i.sorted)
    where
      go : (p : Pick) → Says a l p → batch c (after_pick p l) ≡ batch c l
      go (Batch b ns) q = picked-batch a b ns q c ms w
      go Settled q = refl
      go (Behind b) q = refl
      go (AtWindow b) q = refl

  -- A batch is durable.

  module _ (b : ℕ) where
    pub was-kept : (c : ℕ) (ms : List ℕ) → IsUnderWay (kept b l) c ms → (b ≡ c → ⊥) × IsUnderWay l c ms
    was-kept c ms w = elim (cases_eq b c) [
      | inl e ↦ none-some ms (sym (at-without_same b l.batches) ∙ ap (λ k. at k (without b l.batches)) e ∙ w)
      | inr n ↦ (n, sym (at-without_other c b l.batches n) ∙ w)
    ]

    -- no operation of another batch is in this one
    pub not-in : (c : ℕ) (ms : List ℕ) → (b ≡ c → ⊥) → IsUnderWay l c ms → (n : ℕ) → T (member n ms) → member n (ops_in b l) ≡ false
    not-in c ms e w n m = go (at b l.batches) refl
      where
        go : (o : Option (List ℕ)) → at b l.batches ≡ o → member n (or_else [] o) ≡ false
        go None q = refl
        go (Some os) q = elim (cases_Bool (member n os)) [
          | inl t ↦ absurd (e (i.apart b c os ms q w n (holds t) m))
          | inr f ↦ f
        ]

    pub kept-log : IsLog (kept b l)
    kept-log = record {
      sorted = sorted-part (λ op. not (member op.0 (ops_in b l))) l.undurable i.sorted;
      numbers = λ n u h. i.numbers n u (holds-front (λ op. not (member op.0 (ops_in b l))) l.undurable n u h);
      first_batch = i.first_batch;
      batches = is_sorted-where_key nat_cmp _ l.batches i.batches;
      below = λ c ms w. i.below c ms (was-kept c ms w).1;
      near = λ c ms w. i.near c ms (was-kept c ms w).1;
      held = λ c ms w n m.
          let k = was-kept c ms w in
          let f = i.held c ms k.1 n m in
          (f.0, holds-kept (λ op. not (member op.0 (ops_in b l))) l.undurable n f.0 f.1 (ap not (not-in c ms k.0 k.1 n m)));
      apart = λ c d ms os w x. i.apart c d ms os (was-kept c ms w).1 (was-kept d os x).1;
      closed = λ c ms w m n x y hm hn. i.closed c ms (was-kept c ms w).1 m n x y (holds-front (λ op. not (member op.0 (ops_in b l))) l.undurable m x hm) (holds-front (λ op. not (member op.0 (ops_in b l))) l.undurable n y hn);
    }

    pub kept-agrees : (w : Window) → WindowAgrees w l → T (has w b) → WindowAgrees w (kept b l)
    kept-agrees w g h = record {
      answered = λ c one lt none. elim (cases_eq b c) [
        | inl e ↦ subst (λ k. T (has w k)) e h
        | inr n ↦ g.answered c one lt (sym (at-without_other c b l.batches n) ∙ none)
      ];
      sent = g.sent;
    }

    pub kept-batch : (c : ℕ) (ms : List ℕ) → (b ≡ c → ⊥) → IsUnderWay l c ms → batch c (kept b l) ≡ batch c l
    kept-batch c ms e w =
        ap (λ o. filter (λ op. member op.0 (or_else [] o)) (filter (λ op. not (member op.0 (ops_in b l))) l.undurable)) (at-without_other c b l.batches e)
        ∙ go l.undurable
      where
        inside : (n : ℕ) → member n (ops_in c l) ≡ true → member n (ops_in b l) ≡ false
        inside n t = not-in c ms e w n (subst (λ o. T (member n (or_else [] o))) w (holds t))

        go : (xs : Issued) → filter (λ op. member op.0 (ops_in c l)) (filter (λ op. not (member op.0 (ops_in b l))) xs) ≡ filter (λ op. member op.0 (ops_in c l)) xs
        go [] = refl
        go (x ∷ xs) = elim (cases_Bool (member x.0 (ops_in c l))) [
          | inl t ↦
              ap (λ y. filter (λ op. member op.0 (ops_in c l)) (cond (not y) (x ∷ filter (λ op. not (member op.0 (ops_in b l))) xs) (filter (λ op. not (member op.0 (ops_in b l))) xs))) (inside x.0 t)
              ∙ ap (λ ys. cond (member x.0 (ops_in c l)) (x ∷ ys) ys) (go xs)
          | inr f ↦ drops (member x.0 (ops_in b l)) f ∙ go xs ∙ sym (ap (λ y. cond y (x ∷ filter (λ op. member op.0 (ops_in c l)) xs) (filter (λ op. member op.0 (ops_in c l)) xs)) f)
        ]
          where
            drops : (t : Bool) → member x.0 (ops_in c l) ≡ false
                → filter (λ op. member op.0 (ops_in c l)) (cond (not t) (x ∷ filter (λ op. not (member op.0 (ops_in b l))) xs) (filter (λ op. not (member op.0 (ops_in b l))) xs))
                ≡ filter (λ op. member op.0 (ops_in c l)) (filter (λ op. not (member op.0 (ops_in b l))) xs)
            drops true f = refl
            drops false f = ap (λ y. cond y (x ∷ filter (λ op. member op.0 (ops_in c l)) (filter (λ op. not (member op.0 (ops_in b l))) xs)) (filter (λ op. member op.0 (ops_in c l)) (filter (λ op. not (member op.0 (ops_in b l))) xs))) f

  -- One more operation is in no batch.
  pub issue-batch : (u : Update) (c : ℕ) (ms : List ℕ) → IsUnderWay l c ms → batch c (issue u l) ≡ batch c l
  issue-batch u c ms w =
      filter-append (λ op. member op.0 (ops_in c l)) l.undurable ((l.next, u) ∷ [])
      ∙ ap (λ t. filter (λ op. member op.0 (ops_in c l)) l.undurable ++ cond t ((l.next, u) ∷ []) []) outside
      ∙ append-nil (filter (λ op. member op.0 (ops_in c l)) l.undurable)
    where
      outside : member l.next (ops_in c l) ≡ false
      outside = elim (cases_Bool (member l.next (ops_in c l))) [
        | inl t ↦ absurd (self (batch-below c ms w l.next (subst (λ o. T (member l.next (or_else [] o))) w (holds t))))
        | inr f ↦ f
      ]
        where
          self : l.next < l.next → ⊥
          self h = absurd (omega (arith, h))

  -- The server's window reaches each batch under way.
  pub within-window : (w : Window) → WindowAgrees w l → has w (w.low + 1) ≡ false → (b : ℕ) (ns : List ℕ) → IsUnderWay l b ns → b ≤ w.low + 8
  within-window w g n b ns u =
      let f = least-found b ns l.batches i.batches u in
      let next : l.next_batch ≤ f.key + 8 = i.near f.key f.value f.here in
      let low : f.key ≤ w.low + 1 = elim (cases_lt (w.low + 1) f.key) [
        | inr le ↦ le
        | inl lt ↦ absurd (none f.key f.value f.rest f.whole f.here lt (at (w.low + 1) l.batches) refl)
      ] in
      omega (arith, i.below b ns u, next, low)
    where
      none : (k : ℕ) (ms : List ℕ) (es : Table (List ℕ)) → l.batches ≡ (k, ms) ∷ es → IsUnderWay l k ms → w.low + 1 < k → (o : Option (List ℕ)) → at (w.low + 1) l.batches ≡ o → ⊥
      none k ms es e h lt None q = true≢false (sym (is-true _ (g.answered (w.low + 1) (omega arith) (omega (arith, lt, i.below k ms h)) q)) ∙ n)
      none k ms es e h lt (Some os) q =
          let f = least-found (w.low + 1) os l.batches i.batches q in
          absurd (omega (arith, lt, f.below, head f.key k f.value ms f.rest es (sym f.whole ∙ e)))
        where
          head : (j k : ℕ) (js ks : List ℕ) (xs ys : Table (List ℕ)) → (j, js) ∷ xs ≡ (k, ks) ∷ ys → j ≡ k
          head j k js ks xs ys e = ap (λ zs. or_else k (map-head zs)) e
            where
              map-head : Table (List ℕ) → Option ℕ
              map-head [] = None
              map-head (z ∷ zs) = Some z.0

-- A batch that was sent is marked.
pub mark-agrees : (w : Window) (l : LogState) (b : ℕ) → WindowAgrees w l → b < l.next_batch → WindowAgrees (after_mark w b) l
mark-agrees w l b g lt = record {
  answered = λ c one below none. holds (kept_over w (b ∷ []) c (is-true _ (g.answered c one below none)));
  sent = λ c h. elim (cases_eq c b) [ inl e ↦ omega (arith, e, lt) | inr n ↦ g.sent c (subst T (has-after_other w b c n) h) ];
}
