-- What is left of a start's operations, and what is durable of them, step by step.
use Rattle.std.proofs.Common.{◌≡◌, refl, sym, ap, subst, ◌∙◌, inl, inr, arith, ◌<◌, ◌⊎◌, ℕ, T, Bool, true, false, not, ◌||◌, cond, List, [], ◌∷◌, ◌++◌, Option, Some, None}
use Rattle.std.specs.Ordering.{nat_cmp}
use Rattle.std.specs.FinMap.{is_sorted}
use Rattle.std.specs.List.{filter}
use Rattle.std.proofs.lemmas.Bool.{cases_Bool, cases_eq, or_cases, true≢false}
use Rattle.std.proofs.lemmas.List.Elements.{filter-append}
use Rattle.ec_base.specs.Tables.{at, or_else}
use Rattle.ec_volume.specs.Update.{member}
use Rattle.ec_volume.specs.declared.update.Update.{Update}
use Rattle.ec_order.specs.Order.{Issued, Holds, needs}
use Rattle.ec_sessions.specs.Windows.{has, mark_answer, is_marked, after_mark}
use Rattle.ec_sessions.specs.WindowLaws.{has-after_same, has-after_other}
use Rattle.ec_sessions.specs.declared.window.Window.{Window}
use Rattle.ec_history.specs.OfLaws.Needs.{holds_needed}
use Rattle.ec_history.proofs.OfLaws.ForPlacing.Least.{needed-by_number, needed-from_numbers}
use Rattle.ec_log.specs.Log.{issue, pick, after_pick, ops_in, kept, end}
use Rattle.ec_log.specs.declared.state.Asked.{Asked}
use Rattle.ec_log.specs.declared.state.Pick.{Pick}
use Rattle.ec_log.specs.declared.state.Pick.TheVariants.{Batch, Settled, Behind, Window as AtWindow}
use Rattle.ec_log.specs.declared.state.LogState.{LogState}
use Rattle.ec_machine_laws.specs.Picks.{IsPicked, Says, IsRest, HoldNeeds}
use Rattle.ec_machine_laws.specs.Logs.{IsUnderWay, IsLog, WindowAgrees, TellsDurable}
use Rattle.ec_machine_laws.proofs.Holding.{holds-front, holds-passed}
use Rattle.ec_machine_laws.proofs.Picking.{pick-says, needs-all}
use Rattle.ec_machine_laws.proofs.Batches.{at-put_other, at-without_other, all-found}
use Rattle.ec_machine_laws.proofs.Logging.{holds-either, sorted-more, was, was-kept}
use Rattle.ec_base.proofs.Bools.{or-right as or_r, or_first as or_l, on as holds, is-true}

off : {A : Type 0} (b : Bool) → T (not b) → T b → A
off true p q = absurd p
off false p q = absurd q

-- What is left.

pub issue-rest : (issued : Issued) (done : ℕ → Bool) (l : LogState) → IsRest issued done l → (u : Update) → ((n : ℕ) (x : Update) → Holds issued n x → n < l.next) → done l.next ≡ false → IsRest (issued ++ (l.next, u) ∷ []) done (issue u l)
issue-rest issued done l r u below new = record {
  sorted = sorted;
  rest =
      ap (λ xs. xs ++ (l.next, u) ∷ []) r.rest
      ∙ ap (λ b. filter (λ x. not (done x.0)) issued ++ cond (not b) ((l.next, u) ∷ []) []) (sym new)
      ∙ sym (filter-append (λ x. not (done x.0)) issued ((l.next, u) ∷ []));
  closed = needed-from_numbers (issued ++ (l.next, u) ∷ []) done sorted closed;
}
  where
    sorted : T (is_sorted nat_cmp (issued ++ (l.next, u) ∷ []))
    sorted = sorted-more issued (l.next, u) r.sorted below

    closed : (m n : ℕ) (x y : Update) → Holds (issued ++ (l.next, u) ∷ []) m x → Holds (issued ++ (l.next, u) ∷ []) n y → m < n → T (needs x y) → T (done n) → T (done m)
    closed m n x y hm hn lt nd d = elim (holds-either issued (l.next, u) n y hn) [
      | inr e ↦ absurd (true≢false (sym (is-true _ d) ∙ ap done (sym e) ∙ new))
      | inl k ↦ elim (holds-either issued (l.next, u) m x hm) [
        | inr e ↦ absurd (omega (arith, e, lt, below n y k))
        | inl j ↦ needed-by_number issued done r.sorted r.closed m n x y j k lt nd d
      ]
    ]

filter-both : (p q : ℕ × Update → Bool) (xs : Issued) → filter (λ x. not (q x)) (filter (λ x. not (p x)) xs) ≡ filter (λ x. not (p x || q x)) xs
filter-both p q [] = refl
filter-both p q (x ∷ xs) = go (p x) (filter-both p q xs)
  where
    go : (b : Bool) → filter (λ y. not (q y)) (filter (λ y. not (p y)) xs) ≡ filter (λ y. not (p y || q y)) xs
        → filter (λ y. not (q y)) (cond (not b) (x ∷ filter (λ y. not (p y)) xs) (filter (λ y. not (p y)) xs)) ≡ cond (not (b || q x)) (x ∷ filter (λ y. not (p y || q y)) xs) (filter (λ y. not (p y || q y)) xs)
    go true e = e
    go false e = ap (λ ys. cond (not (q x)) (x ∷ ys) ys) e

-- the operations of a batch under way hold what they need among all of the start
batch-needs : (issued : Issued) (done : ℕ → Bool) (l : LogState) → IsRest issued done l → IsLog l → (b : ℕ) (ns : List ℕ) → IsUnderWay l b ns → HoldNeeds issued done ns
batch-needs issued done l r i b ns w = needs-all issued done l r ns (i.held b ns w) (i.closed b ns w)

pub kept-rest : (issued : Issued) (done : ℕ → Bool) (l : LogState) → IsRest issued done l → IsLog l → (b : ℕ) → IsRest issued (λ n. done n || member n (ops_in b l)) (kept b l)
kept-rest issued done l r i b = record {
  sorted = r.sorted;
  rest = ap (filter (λ op. not (member op.0 (ops_in b l)))) r.rest ∙ filter-both (λ x. done x.0) (λ x. member x.0 (ops_in b l)) issued;
  closed = needed-from_numbers issued (λ n. done n || member n (ops_in b l)) r.sorted (closed (at b l.batches) refl);
}
  where
    closed : (o : Option (List ℕ)) → at b l.batches ≡ o → (m n : ℕ) (x y : Update) → Holds issued m x → Holds issued n y → m < n → T (needs x y) → T (done n || member n (or_else [] o)) → T (done m || member m (or_else [] o))
    closed o e m n x y hm hn lt nd d = elim (or_cases (done n) (member n (or_else [] o)) (is-true _ d)) [
      | inl k ↦ or_l (done m) (member m (or_else [] o)) (needed-by_number issued done r.sorted r.closed m n x y hm hn lt nd (holds k))
      | inr k ↦ under o e k
    ]
      where
        under : (o : Option (List ℕ)) → at b l.batches ≡ o → member n (or_else [] o) ≡ true → T (done m || member m (or_else [] o))
        under None e k = absurd (true≢false (sym k))
        under (Some ns) e k = batch-needs issued done l r i b ns e m n x y hm hn lt nd (holds k)

filter-out : (p : ℕ × Update → Bool) (xs : Issued) → ((n : ℕ) (u : Update) → Holds xs n u → T (p (n, u))) → filter (λ x. not (p x)) xs ≡ []
filter-out p [] h = refl
filter-out p (x ∷ xs) h =
    ap (λ b. cond (not b) (x ∷ filter (λ y. not (p y)) xs) (filter (λ y. not (p y)) xs)) (is-true _ (h x.0 x.1 (inl (refl, refl))))
    ∙ filter-out p xs (λ n u k. h n u (inr k))

pub end-rest : (issued : Issued) (done : ℕ → Bool) (l : LogState) → T (is_sorted nat_cmp issued) → ((n : ℕ) (u : Update) → Holds issued n u → T (done n)) → IsRest issued done (end l)
end-rest issued done l s h = record {
  sorted = s;
  rest = sym (filter-out (λ x. done x.0) issued h);
  closed = needed-from_numbers issued done s (λ m n x y hm hn lt nd d. h m x hm);
}

-- What is durable.

module _ (w : Window) (l : LogState) (durable : ℕ → Bool) (t : TellsDurable w l durable) where
  pub issue-tells : (u : Update) → durable l.next ≡ false → TellsDurable w (issue u l) durable
  issue-tells u new = record {
    both = t.both;
    known = λ n x h d. elim (holds-either l.undurable (l.next, u) n x h) [
      | inl k ↦ t.known n x k d
      | inr e ↦ absurd (true≢false (sym (is-true _ d) ∙ ap durable (sym e) ∙ new))
    ];
  }

  pub pick-tells : IsLog l → WindowAgrees w l → (a : Asked) → TellsDurable w (after_pick (pick a l) l) durable
  pick-tells i g a = go (pick a l) (pick-says a l i.sorted)
    where
      new : (b : ℕ) (ns : List ℕ) → IsPicked a l b ns → (n : ℕ) → T (member n ns) → durable n ≡ has w b
      new b ns p n m = undurable (cases_Bool (durable n)) ∙ sym (unsent (cases_Bool (has w b)))
        where
          undurable : (durable n ≡ true) ⊎ (durable n ≡ false) → durable n ≡ false
          undurable (inr e) = e
          undurable (inl e) =
              let h = p.held n m in
              let k = t.known n h.0 h.1 (holds e) in
              absurd (off (member n k.1) (all-found (λ os. not (member n os)) k.0 k.1 l.batches (p.free n m) k.2) k.3)

          unsent : (has w b ≡ true) ⊎ (has w b ≡ false) → has w b ≡ false
          unsent (inr e) = e
          unsent (inl e) = absurd (omega (arith, p.next, g.sent b (holds e)))

      go : (p : Pick) → Says a l p → TellsDurable w (after_pick p l) durable
      go (Batch b ns) p = record {
        both = λ c ms x n m. elim (was l i a b ns p c ms x) [
          | inl e ↦ new b ns p n (subst (λ os. T (member n os)) e.1 m) ∙ ap (has w) (sym e.0)
          | inr k ↦ t.both c ms k n m
        ];
        known = λ n u h d.
            let k = t.known n u h d in
            (k.0, k.1, at-put_other k.0 b ns l.batches (λ e. absurd (omega (arith, e, p.next, i.below k.0 k.1 k.2))) ∙ k.2, k.3);
      }
      go Settled p = t
      go (Behind b) p = t
      go (AtWindow b) p = t

  pub kept-tells : IsLog l → (b : ℕ) → TellsDurable w (kept b l) durable
  kept-tells i b = record {
    both = λ c ms x. t.both c ms (was-kept l i b c ms x).1;
    known = λ n u h d. go n (t.known n u (holds-front (λ op. not (member op.0 (ops_in b l))) l.undurable n u h) d) (holds-passed (λ op. not (member op.0 (ops_in b l))) l.undurable n u h);
  }
    where
      go : (n : ℕ) → (c : ℕ) × (ms : List ℕ) × IsUnderWay l c ms × T (member n ms) → not (member n (ops_in b l)) ≡ true → (c : ℕ) × (ms : List ℕ) × IsUnderWay (kept b l) c ms × T (member n ms)
      go n k e = elim (cases_eq b k.0) [
        | inl s ↦ absurd (off (member n (ops_in b l)) (holds e) (subst (λ o. T (member n (or_else [] o))) (sym (ap (λ c. at c l.batches) s ∙ k.2)) k.3))
        | inr d ↦ (k.0, k.1, at-without_other k.0 b l.batches d ∙ k.2, k.3)
      ]

  -- a batch becomes durable, and is marked
  module _ (i : IsLog l) (b : ℕ) (ns : List ℕ) (u : IsUnderWay l b ns) where
    pub commit-tells : is_marked (mark_answer w b) ≡ true → TellsDurable (after_mark w b) l (λ n. durable n || member n ns)
    commit-tells y = record {
      both = λ c ms x n m. elim (cases_eq c b) [
        | inl e ↦
            let found : ◌≡◌ {A = Option (List ℕ)} (Some ms) (Some ns) = sym x ∙ ap (λ k. at k l.batches) e ∙ u in
            let same : ms ≡ ns = cc in
            is-true _ (or_r (durable n) (member n ns) (subst (λ os. T (member n os)) same m)) ∙ sym (ap (has (after_mark w b)) e ∙ has-after_same w b y)
        | inr d ↦ other (durable n) (member n ns) (outside c ms x d n m) ∙ t.both c ms x n m ∙ sym (has-after_other w b c d)
      ];
      known = λ n v h d. elim (cases_Bool (durable n)) [
        | inl e ↦ t.known n v h (holds e)
        | inr e ↦ (b, ns, u, subst (λ z. T (z || member n ns)) e d)
      ];
    }
      where
        other : (x y : Bool) → y ≡ false → (x || y) ≡ x
        other true y e = refl
        other false y e = e

        outside : (c : ℕ) (ms : List ℕ) → IsUnderWay l c ms → (c ≡ b → ⊥) → (n : ℕ) → T (member n ms) → member n ns ≡ false
        outside c ms x d n m = elim (cases_Bool (member n ns)) [ inl e ↦ absurd (d (i.apart c b ms ns x u n m (holds e))) | inr e ↦ e ]

    -- the durable operations go on holding what they need
    pub commit-needs : (issued : Issued) (known : ℕ → Bool) → IsRest issued known l → ((n : ℕ) → T (known n) → T (durable n)) → T (holds_needed (λ x. x.1) (λ x. durable x.0) issued)
        → T (holds_needed (λ x. x.1) (λ x. durable x.0 || member x.0 ns) issued)
    commit-needs issued known r k c = needed-from_numbers issued (λ n. durable n || member n ns) r.sorted closed
      where
        closed : (m n : ℕ) (x y : Update) → Holds issued m x → Holds issued n y → m < n → T (needs x y) → T (durable n || member n ns) → T (durable m || member m ns)
        closed m n x y hm hn lt nd d = elim (or_cases (durable n) (member n ns) (is-true _ d)) [
          | inl e ↦ or_l (durable m) (member m ns) (needed-by_number issued durable r.sorted c m n x y hm hn lt nd (holds e))
          | inr e ↦ elim (or_cases (known m) (member m ns) (is-true _ (batch-needs issued known l r i b ns u m n x y hm hn lt nd (holds e)))) [
            | inl f ↦ or_l (durable m) (member m ns) (k m (holds f))
            | inr f ↦ or_r (durable m) (member m ns) (holds f)
          ]
        ]
