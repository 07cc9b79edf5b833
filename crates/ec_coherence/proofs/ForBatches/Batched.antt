-- A batch under way that isn't marked: its operations among all that are kept.
use Rattle.std.proofs.Common.{◌≡◌, refl, sym, ap, subst, ◌∙◌, inl, inr, ℕ, Bool, true, false, not, ◌&&◌, ◌||◌, T, ◌<◌, List, [], ◌∷◌}
use Rattle.std.specs.Prelude.{Some}
use Rattle.std.specs.List.{filter}
use Rattle.std.specs.Ordering.{nat_cmp}
use Rattle.std.specs.FinMap.{is_sorted}
use Rattle.ec_base.specs.Tables.{at, or_else as or_other, keys}
use Rattle.ec_volume.specs.Update.{member}
use Rattle.ec_volume.specs.declared.update.Update.{Update}
use Rattle.ec_order.specs.Order.{Issued, Holds, share}
use Rattle.ec_history.specs.History.{Each, Op, numbers, updates}
use Rattle.ec_history.specs.OfLaws.Needs.{holds_needed}
use Rattle.ec_machine_laws.proofs.Holding.{number-of, held-by, holds-front, holds-passed, holds-kept, above-holds}
use Rattle.ec_sessions.specs.Windows.{has}
use Rattle.ec_sessions.specs.declared.window.Window.{Window}
use Rattle.ec_log.specs.Log.{batch, ops_in}
use Rattle.ec_log.specs.declared.state.LogState.{LogState}
use Rattle.ec_coherence.specs.Log.{Knows, numbered}
use Rattle.ec_coherence.proofs.ForBatches.Carried.{updates_in}
use Rattle.ec_coherence.proofs.ForServer.Lists.{either_way, filter-alike, filter-two, filter-map, each-both, each-turn, each-whole, Pairs, pairs-turn, pairs-both, pairs-each, pairs-whole, Needed, needed-pairs, pairs-needed}
use Rattle.ec_coherence.proofs.ForBatches.OneSession.{needs-shares}
use Rattle.ec_base.proofs.Bools.{left as and_first, and-both as and_both, same_tests, or-right as or_next, right as and_next, or_first, is-true, holds-true as holds}
use Rattle.ec_base.proofs.Lists.{map_twice as map-two}

pub each-held : (os : List Op) → Each (λ o. Holds (numbered os) o.number o.update) os
each-held [] = tt
each-held (o ∷ os) = (inl (refl, refl), each-turn (λ p. Holds (numbered os) p.number p.update) (λ p. Holds (numbered (o ∷ os)) p.number p.update) os (λ p h. inr h) (each-held os))

pub rising : (os : List Op) → T (is_sorted nat_cmp (numbered os)) → Pairs (λ a b. a.number < b.number) os
rising [] h = tt
rising (o ∷ os) h = (each-turn (λ p. Holds (numbered os) p.number p.update) (λ p. o.number < p.number) os (λ p k. above-holds o.number (numbered os) (and_first _ (is_sorted nat_cmp (numbered os)) h) p.number p.update k) (each-held os), rising os (and_next _ (is_sorted nat_cmp (numbered os)) h))

module _ (ks : List Op) (own is_durable : Op → Bool) (l : LogState) (w : Window) (b : ℕ) (ns : List ℕ)
    (kn : Knows l w (filter own ks) is_durable) (under : at b l.batches ≡ Some ns) (unmarked : T (not (has w b))) where
  abbrev pub sent : Issued
  sent = batch b l

  abbrev pub next : Op → Bool
  next o = own o && member o.number (keys sent)

  abbrev issued : Issued
  issued = numbered (filter own ks)

  abbrev in_batch : ℕ × Update → Bool
  in_batch op = member op.0 (ops_in b l)

  abbrev unknown : ℕ × Update → Bool
  unknown op = not (kn.known op.0)

  ops-are : ops_in b l ≡ ns
  ops-are = ap (λ o. or_other [] o) under

  -- of an own kept operation
  abbrev Known : Op → Type 0
  Known o = T (own o) → (is_durable o ≡ kn.durable o.number) × Holds issued o.number o.update

  known : Each Known ks
  known = each-turn (λ o. (T (own o) → is_durable o ≡ kn.durable o.number) × (T (own o) → Holds issued o.number o.update)) Known ks (λ o f t. (f.0 t, f.1 t))
      (each-both (λ o. T (own o) → is_durable o ≡ kn.durable o.number) (λ o. T (own o) → Holds issued o.number o.update) ks
      (each-whole (λ o. is_durable o ≡ kn.durable o.number) own ks kn.agrees) (each-whole (λ o. Holds issued o.number o.update) own ks (each-held (filter own ks))))

  pub batch-undurable : (n : ℕ) → T (member n ns) → T (not (kn.durable n))
  batch-undurable n m = subst (λ c. T (not c)) (sym (kn.tells.both b ns under n m)) unmarked

  sent-in : (n : ℕ) → T (member n (keys sent)) → T (member n ns) × T (not (kn.known n))
  sent-in n m =
      let h = held-by sent n m in
      let u = holds-front in_batch l.undurable n h.0 h.1 in (
        subst (λ ms. T (member n ms)) ops-are (holds (member n (ops_in b l)) (holds-passed in_batch l.undurable n h.0 h.1)),
        holds (not (kn.known n)) (holds-passed unknown issued n h.0 (subst (λ xs. Holds xs n h.0) kn.rest.rest u)),
      )

  still-held : (n : ℕ) (u : Update) → Holds issued n u → T (not (kn.known n)) → Holds l.undurable n u
  still-held n u h k = subst (λ xs. Holds xs n u) (sym kn.rest.rest) (holds-kept unknown issued n u h (is-true (not (kn.known n)) k))

  in-sent : (n : ℕ) (u : Update) → Holds issued n u → T (not (kn.known n)) → T (member n ns) → T (member n (keys sent))
  in-sent n u h k m = number-of sent n u (holds-kept in_batch l.undurable n u (still-held n u h k) (is-true (member n (ops_in b l)) (subst (λ ms. T (member n ms)) (sym ops-are) m)))

  not-known : (n : ℕ) → T (not (kn.durable n)) → T (not (kn.known n))
  not-known n d = go (kn.known n) (kn.durable n) (kn.sure n) d
    where
      go : (a b : Bool) → (T a → T b) → T (not b) → T (not a)
      go true true f d = d
      go true false f d = f tt
      go false b f d = tt

  pub sent-undurable : (o : Op) → Known o → T (next o) → T (not (is_durable o))
  sent-undurable o f t = let q = f (and_first (own o) _ t) in subst (λ c. T (not c)) (sym q.0) (batch-undurable o.number (sent-in o.number (and_next (own o) _ t)).0)

  pub all-undurable : Each (λ o. T (next o) → T (not (is_durable o))) ks
  all-undurable = each-turn Known (λ o. T (next o) → T (not (is_durable o))) ks sent-undurable known

  -- they are those of the batch
  pub sent-members : Each (λ o. T (own o) → member o.number (keys sent) ≡ member o.number ns) ks
  sent-members = each-turn Known (λ o. T (own o) → member o.number (keys sent) ≡ member o.number ns) ks
      (λ o f t. same_tests (member o.number (keys sent)) (member o.number ns) (λ m. (sent-in o.number m).0) (λ m. in-sent o.number o.update (f t).1 (not-known o.number (batch-undurable o.number m)) m)) known

  pub sent-below : (n : ℕ) → T (member n (keys sent)) → n < l.next
  sent-below n m = let h = kn.log.held b ns under n (sent-in n m).0 in kn.log.numbers n h.0 h.1

  sent-is : sent ≡ numbered (filter (λ o. own o && (not (kn.known o.number) && member o.number (ops_in b l))) ks)
  sent-is =
      ap (filter in_batch) kn.rest.rest
      ∙ filter-two in_batch unknown issued
      ∙ filter-map (λ x. unknown x && in_batch x) (λ o. (o.number, o.update)) (filter own ks)
      ∙ ap numbered (filter-two (λ o. not (kn.known o.number) && member o.number (ops_in b l)) own ks)

  both-tests : Each (λ o. (own o && (not (kn.known o.number) && member o.number (ops_in b l))) ≡ (not (is_durable o) && next o)) ks
  both-tests = each-turn Known (λ o. (own o && (not (kn.known o.number) && member o.number (ops_in b l))) ≡ (not (is_durable o) && next o)) ks alike known
    where
      alike : (o : Op) → Known o → (own o && (not (kn.known o.number) && member o.number (ops_in b l))) ≡ (not (is_durable o) && next o)
      alike o f = same_tests (own o && (not (kn.known o.number) && member o.number (ops_in b l))) (not (is_durable o) && next o)
          (λ t.
          let mine = and_first (own o) _ t in
          let new = and_first (not (kn.known o.number)) _ (and_next (own o) _ t) in
          let here = in-sent o.number o.update (f mine).1 new (subst (λ ms. T (member o.number ms)) ops-are (and_next (not (kn.known o.number)) _ (and_next (own o) _ t))) in
          let both = and_both (own o) (member o.number (keys sent)) mine here in
          and_both (not (is_durable o)) (next o) (sent-undurable o f both) both)
          (λ t.
          let both = and_next (not (is_durable o)) (next o) t in
          let q = sent-in o.number (and_next (own o) _ both) in
          and_both (own o) _ (and_first (own o) _ both) (and_both (not (kn.known o.number)) _ q.1 (subst (λ ms. T (member o.number ms)) (sym ops-are) q.0)))

  sent-kept : sent ≡ numbered (filter (λ o. not (is_durable o) && next o) ks)
  sent-kept = sent-is ∙ ap numbered (filter-alike (λ o. own o && (not (kn.known o.number) && member o.number (ops_in b l))) (λ o. not (is_durable o) && next o) ks both-tests)

  pub sent-next : updates_in sent ≡ updates (filter (λ o. not (is_durable o) && next o) ks)
  sent-next = ap updates_in sent-kept ∙ map-two (λ op. op.1) (λ o. (o.number, o.update)) (filter (λ o. not (is_durable o) && next o) ks)

  pub sent-numbers : keys sent ≡ numbers (filter (λ o. not (is_durable o) && next o) ks)
  sent-numbers = ap keys sent-kept ∙ map-two (λ op. op.0) (λ o. (o.number, o.update)) (filter (λ o. not (is_durable o) && next o) ks)

  -- with the durable operations they hold what they need
  module _ (P : Op → Type 0) (each : Each P ks) (alone : (x y : Op) → P x → P y → T (not (is_durable x)) → T (not (is_durable y)) → T (share x.update y.update) → T (own y) → T (own x))
      (closed : T (holds_needed (λ o. o.update) is_durable ks)) where
    pub sent-needed : T (holds_needed (λ o. o.update) (λ o. is_durable o || next o) ks)
    sent-needed = pairs-needed (λ o. o.update) (λ o. is_durable o || next o) ks
        (pairs-turn (λ x y. Needed (λ o. o.update) is_durable x y × ((T (own x) → T (own y) → x.number < y.number) × ((P x × Known x) × (P y × Known y)))) (Needed (λ o. o.update) (λ o. is_durable o || next o)) ks one
        (pairs-both (Needed (λ o. o.update) is_durable) (λ x y. (T (own x) → T (own y) → x.number < y.number) × ((P x × Known x) × (P y × Known y))) ks (needed-pairs (λ o. o.update) is_durable ks closed)
        (pairs-both (λ x y. T (own x) → T (own y) → x.number < y.number) (λ x y. (P x × Known x) × (P y × Known y)) ks (pairs-whole (λ x y. x.number < y.number) own ks (rising (filter own ks) kn.rest.sorted))
        (pairs-each (λ o. P o × Known o) ks (each-both P Known ks each known)))))
      where
        one : (x y : Op) → Needed (λ o. o.update) is_durable x y × ((T (own x) → T (own y) → x.number < y.number) × ((P x × Known x) × (P y × Known y))) → Needed (λ o. o.update) (λ o. is_durable o || next o) x y
        one x y (r, (s, ((px, kx), (py, ky)))) t u = elim (either_way (is_durable x)) [
          | inl d ↦ or_first (is_durable x) (next x) d
          | inr d ↦ elim (either_way (is_durable y)) [
            | inl e ↦ or_first (is_durable x) (next x) (r e u)
            | inr e ↦ or_next (is_durable x) (next x) (new d e (after_or (is_durable y) (next y) t e))
          ]
        ]
          where
            after_or : (a c : Bool) → T (a || c) → T (not a) → T c
            after_or true c t n = absurd n
            after_or false c t n = t

            new : T (not (is_durable x)) → T (not (is_durable y)) → T (next y) → T (next x)
            new d e ny =
                let oy = and_first (own y) _ ny in
                let ox = alone x y px py d e (needs-shares x.update y.update u) oy in
                let qx = kx ox in
                let qy = ky oy in
                let sy = sent-in y.number (and_next (own y) _ ny) in
                let fx = not-known x.number (subst (λ c. T (not c)) qx.0 d) in
                let m = kn.log.closed b ns under x.number y.number x.update y.update (still-held x.number x.update qx.1 fx) (still-held y.number y.update qy.1 sy.1) (s ox oy) u sy.0 in
                and_both (own x) (member x.number (keys sent)) ox (in-sent x.number x.update qx.1 fx m)
