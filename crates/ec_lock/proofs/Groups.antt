-- How each group of the rule's facts survives the change of one view.
use Rattle.std.proofs.Common.{◌≡◌, ℕ, zero, suc, ◌+◌, ◌^◌, ◌<◌, ◌≤◌, ◌≢◌, ◌⊎◌, List, [], ◌∷◌, ◌++◌, set, Option, Some, None, sym, refl, ap, ◌∙◌, subst, inl, inr, arith, length-set}
use mathlib.Core.Logic.{dite}
use mathlib.Core.Option.{none, some, some-injective, some-ne-none, Option as Place}
use mathlib.Core.List.{IsPrefix}
use native.Mathlib.Decide.{ℕ_discrete}
use lib.ListN.{get_elem?}
use Rattle.ec_base.specs.Limits.{last_counter}
use Rattle.ec_lock.specs.declared.traced.Held.{Held}
use Rattle.ec_lock.specs.declared.view.Stage.{Stage}
use Rattle.ec_lock.specs.declared.view.Stage.TheVariants.{Idle, Waiting, Holding}
use Rattle.ec_lock.specs.declared.view.View.{View}
use Rattle.ec_lock.specs.Steps.{Member, Distinct, of}
use Rattle.ec_lock.specs.Rule.{ticket_of, waits, IsOut, StandsByStage as Stands, waiting, Tickets, Slot, Knows, Fronts, Numbers, Marks}
use Rattle.ec_lock.proofs.Seats.{there, elsewhere, each_set, each_more, alone_set, alone_more, alone_joined}
use Rattle.ec_base.proofs.Lists.{prefix_self, prefix_trans}

pub is_some : (a b : ℕ) → Some a ≡ Some b → a ≡ b
is_some a b e = cc e

no_ticket : (t : ℕ) (st : Stage) → st ≡ Idle → ticket_of st ≡ Some t → ⊥
no_ticket t st e h = let z : None ≡ Some t = ap ticket_of (sym e) ∙ h in cc z

pub not_out : (st : Stage) → st ≡ Idle → IsOut st → ⊥
not_out st e o = subst IsOut e o

pub not_out_yet : (st : Stage) (t : ℕ) → st ≡ Waiting t → IsOut st → ⊥
not_out_yet st t e o = subst IsOut e o

later_ticket : (ticket serving : ℕ) (st : Stage) → Stands ticket serving st → Stands (ticket + 1) serving st
later_ticket ticket serving Idle h = tt
later_ticket ticket serving (Waiting t) h = let a = h.0 in let b = h.1 in (a, omega arith)
later_ticket ticket serving (Holding t) h = let b = h.1 in (h.0, omega arith)

below_ticket : (ticket serving t : ℕ) (st : Stage) → Stands ticket serving st → ticket_of st ≡ Some t → t < ticket
below_ticket ticket serving t Idle h e = absurd (cc e)
below_ticket ticket serving t (Waiting u) h e = let b = h.1 in let is : u ≡ t = cc e in omega arith
below_ticket ticket serving t (Holding u) h e = let b = h.1 in let is : u ≡ t = cc e in omega arith

-- where another ticket is served, the next one is served after it
next_served : (ticket serving : ℕ) (st : Stage) → Stands ticket serving st → (ticket_of st ≡ Some serving → ⊥) → Stands ticket (serving + 1) st
next_served ticket serving Idle h n = tt
next_served ticket serving (Waiting t) h n = let a = h.0 in let b = h.1 in dite (ℕ_discrete t serving) (λ e. absurd (n (ap Some e))) (λ ne. (omega arith, b))
next_served ticket serving (Holding t) h n = absurd (n (ap Some h.0))

pub out_is_served : (ticket serving : ℕ) (st : Stage) → Stands ticket serving st → IsOut st → ticket_of st ≡ Some serving
out_is_served ticket serving Idle h o = absurd o
out_is_served ticket serving (Waiting t) h o = absurd o
out_is_served ticket serving (Holding t) h o = ap Some h.0

module _ {V S : Type 0} where
  waiting-set : (vs : List (View V S)) (id : ℕ) (v w : View V S) → get_elem? vs id ≡ some v → waiting (set vs id w) + waits v.stage ≡ waiting vs + waits w.stage
  waiting-set [] id v w e = absurd (some-ne-none v (sym e))
  waiting-set (x ∷ xs) zero v w e = let is : waits x.stage ≡ waits v.stage = ap (λ (u : View V S). waits u.stage) (some-injective x v e) in omega arith
  waiting-set (x ∷ xs) (suc id) v w e = omega (arith, waiting-set xs id v w e)

  waiting-more : (vs : List (View V S)) (w : View V S) → waiting (vs ++ w ∷ []) ≡ waiting vs + waits w.stage
  waiting-more [] w = omega arith
  waiting-more (x ∷ xs) w = omega (arith, waiting-more xs w)

  waits_there : (vs : List (View V S)) (id : ℕ) (v : View V S) → get_elem? vs id ≡ some v → waits v.stage ≤ waiting vs
  waits_there [] id v e = absurd (some-ne-none v (sym e))
  waits_there (x ∷ xs) zero v e = let is : waits x.stage ≡ waits v.stage = ap (λ (u : View V S). waits u.stage) (some-injective x v e) in omega arith
  waits_there (x ∷ xs) (suc id) v e = omega (arith, waits_there xs id v e)

  abbrev Has : ℕ → View V S → Type 0
  Has t v = ticket_of v.stage ≡ Some t

  pub tickets_same : (ticket serving : ℕ) (vs : List (View V S)) (id : ℕ) (v w : View V S) → Tickets ticket serving vs → get_elem? vs id ≡ some v → w.stage ≡ v.stage → Tickets ticket serving (set vs id w)
  tickets_same ticket serving vs id v w r at same = let c = r.counted in let is : waits w.stage ≡ waits v.stage = ap waits same in record {
    few = r.few;
    counted = omega (arith, waiting-set vs id v w at);
    stands = each_set (λ u. Stands ticket serving u.stage) vs id w (subst (Stands ticket serving) (sym same) (r.stands id v at)) (λ j u _ e. r.stands j u e);
    apart = λ t. alone_set (Has t) vs id v w at (r.apart t) (λ h. inl (sym (ap ticket_of same) ∙ h));
  }

  pub tickets_draw : (ticket serving : ℕ) (vs : List (View V S)) (id : ℕ) (v w : View V S) → Tickets ticket serving vs → get_elem? vs id ≡ some v → ticket < last_counter → v.stage ≡ Idle → w.stage ≡ Waiting ticket
      → Tickets (ticket + 1) serving (set vs id w)
  tickets_draw ticket serving vs id v w r at room idle has = let c = r.counted in let one : waits w.stage ≡ 1 = ap waits has in let none_yet : waits v.stage ≡ 0 = ap waits idle in record {
    few = omega arith;
    counted = omega (arith, waiting-set vs id v w at);
    stands = each_set (λ u. Stands (ticket + 1) serving u.stage) vs id w (subst (Stands (ticket + 1) serving) (sym has) (omega arith, omega arith)) (λ j u _ e. later_ticket ticket serving u.stage (r.stands j u e));
    apart = λ t. alone_set (Has t) vs id v w at (r.apart t) (λ h. let is : ticket ≡ t = is_some ticket t (sym (ap ticket_of has) ∙ h) in
        inr (λ j u _ e hu. let l = below_ticket ticket serving t u.stage (r.stands j u e) hu in omega arith));
  }

  pub tickets_look : (ticket serving : ℕ) (vs : List (View V S)) (id : ℕ) (v w : View V S) → Tickets ticket serving vs → get_elem? vs id ≡ some v → v.stage ≡ Waiting serving → w.stage ≡ Holding serving → Tickets ticket serving (set vs id w)
  tickets_look ticket serving vs id v w r at was has = let c = r.counted in let one : waits w.stage ≡ 1 = ap waits has in let one_before : waits v.stage ≡ 1 = ap waits was in
      let stood : Stands ticket serving (Waiting serving) = subst (Stands ticket serving) was (r.stands id v at) in let l = stood.1 in record {
        few = r.few;
        counted = omega (arith, waiting-set vs id v w at);
        stands = each_set (λ u. Stands ticket serving u.stage) vs id w (subst (Stands ticket serving) (sym has) (refl, l)) (λ j u _ e. r.stands j u e);
        apart = λ t. alone_set (Has t) vs id v w at (r.apart t) (λ h. inl (ap ticket_of was ∙ (sym (ap ticket_of has) ∙ h)));
      }

  pub tickets_next : (ticket serving t : ℕ) (vs : List (View V S)) (id : ℕ) (v w : View V S) → Tickets ticket serving vs → get_elem? vs id ≡ some v → v.stage ≡ Holding t → w.stage ≡ Idle → Tickets ticket (serving + 1) (set vs id w)
  tickets_next ticket serving t vs id v w r at was has = let c = r.counted in let none_left : waits w.stage ≡ 0 = ap waits has in let one_before : waits v.stage ≡ 1 = ap waits was in
      let stood : Stands ticket serving (Holding t) = subst (Stands ticket serving) was (r.stands id v at) in
      let mine : ticket_of v.stage ≡ Some serving = ap ticket_of was ∙ ap Some stood.0 in record {
        few = r.few;
        counted = omega (arith, waiting-set vs id v w at);
        stands = each_set (λ u. Stands ticket (serving + 1) u.stage) vs id w (subst (Stands ticket (serving + 1)) (sym has) tt)
            (λ j u n e. next_served ticket serving u.stage (r.stands j u e) (λ h. n (r.apart serving j id u v e at h mine)));
        apart = λ x. alone_set (Has x) vs id v w at (r.apart x) (λ h. absurd (no_ticket x w.stage has h));
      }

  pub tickets_more : (ticket serving : ℕ) (vs : List (View V S)) (w : View V S) → Tickets ticket serving vs → w.stage ≡ Idle → Tickets ticket serving (vs ++ w ∷ [])
  tickets_more ticket serving vs w r has = let c = r.counted in let none_new : waits w.stage ≡ 0 = ap waits has in record {
    few = r.few;
    counted = omega (arith, waiting-more vs w);
    stands = each_more (λ u. Stands ticket serving u.stage) vs w (subst (Stands ticket serving) (sym has) tt) r.stands;
    apart = λ t. alone_more (Has t) vs w (r.apart t) (λ h. absurd (no_ticket t w.stage has h));
  }

  -- who is out alone has the ticket that is served
  pub others_in : (ticket serving t : ℕ) (vs : List (View V S)) (id : ℕ) (v : View V S) → Tickets ticket serving vs → get_elem? vs id ≡ some v → ticket_of v.stage ≡ Some serving
      → (j : ℕ) (u : View V S) → j ≢ id → get_elem? vs j ≡ some u → IsOut u.stage → ⊥
  others_in ticket serving t vs id v r at mine j u n e o = n (r.apart serving j id u v e at (out_is_served ticket serving u.stage (r.stands j u e) o) mine)

  abbrev pub Nobody : List (View V S) → Type 0
  Nobody vs = (j : ℕ) (v : View V S) → get_elem? vs j ≡ some v → IsOut v.stage → ⊥

  nobody_before : (vs : List (View V S)) (id : ℕ) (v w : View V S) → get_elem? vs id ≡ some v → (IsOut v.stage → IsOut w.stage) → Nobody (set vs id w) → Nobody vs
  nobody_before vs id v w at stays f j u e o = dite (ℕ_discrete j id)
      (λ is. let same : u ≡ v = some-injective u v (sym e ∙ (ap (get_elem? vs) is ∙ at)) in f id w (there vs id v w at) (stays (subst (λ (x : View V S). IsOut x.stage) same o)))
      (λ n. f j u (elsewhere vs id j w n ∙ e) o)

  pub numbers_set : (next next' : ℕ) (vs : List (View V S)) (id : ℕ) (w : View V S) → Numbers next vs → next ≤ next' → Distinct w.numbers → w.next ≤ next' → Numbers next' (set vs id w)
  numbers_set next next' vs id w r more mine low = record {
    distinct = each_set (λ u. Distinct u.numbers) vs id w mine (λ j u _ e. r.distinct j u e);
    seen = each_set (λ u. u.next ≤ next') vs id w low (λ j u _ e. let l = r.seen j u e in omega arith);
  }

  pub numbers_more : (next : ℕ) (vs : List (View V S)) (w : View V S) → Numbers next vs → Distinct w.numbers → w.next ≤ next → Numbers next (vs ++ w ∷ [])
  numbers_more next vs w r mine low = record { distinct = each_more (λ u. Distinct u.numbers) vs w mine r.distinct; seen = each_more (λ u. u.next ≤ next) vs w low r.seen }

  module _ (list : V → List S) (since : V → V → Type 0) (first : V) where
    abbrev pub Homes : Type 0
    Homes = List (Place (Option (Held V)))

    pub slot_same : (homes : Homes) (master : List S) (next : ℕ) (vs : List (View V S)) (id : ℕ) (v w : View V S) → Slot list since first homes master next vs → get_elem? vs id ≡ some v
        → (IsOut v.stage → IsOut w.stage) → (IsOut w.stage → IsOut v.stage × (w.front ≡ v.front) × (w.next ≡ v.next)) → Slot list since first homes master next (set vs id w)
    slot_same homes master next vs id v w r at stays was = record {
      single = r.single;
      home = λ f. r.home (nobody_before vs id v w at stays f);
      out = each_set (λ u. IsOut u.stage → (get_elem? homes 0 ≡ some none) × (u.front ≡ master) × (u.next ≡ next)) vs id w
          (λ o. let b = was o in let r' = r.out id v at b.0 in (r'.0, b.1 ∙ r'.1, b.2 ∙ r'.2)) (λ j u _ e. r.out j u e);
    }

    pub slot_more : (homes : Homes) (master : List S) (next : ℕ) (vs : List (View V S)) (w : View V S) → Slot list since first homes master next vs → w.stage ≡ Idle → Slot list since first homes master next (vs ++ w ∷ [])
    slot_more homes master next vs w r idle = record {
      single = r.single;
      home = λ f. r.home (λ j u e o. f j u (longer vs j u e) o);
      out = each_more (λ u. IsOut u.stage → (get_elem? homes 0 ≡ some none) × (u.front ≡ master) × (u.next ≡ next)) vs w (λ o. absurd (not_out w.stage idle o)) r.out;
    } where
      longer : (us : List (View V S)) (j : ℕ) (u : View V S) → get_elem? us j ≡ some u → get_elem? (us ++ w ∷ []) j ≡ some u
      longer [] j u e = absurd (some-ne-none u (sym e))
      longer (x ∷ xs) zero u e = e
      longer (x ∷ xs) (suc j) u e = longer xs j u e

    first_place : (homes : Homes) (x y : Place (Option (Held V))) → get_elem? homes 0 ≡ some x → get_elem? (set homes 0 y) 0 ≡ some y
    first_place homes x y e = there homes 0 x y e

    -- the value is taken out
    pub slot_takes : (homes : Homes) (master : List S) (next : ℕ) (vs : List (View V S)) (id : ℕ) (v w : View V S) (held : Held V) → Slot list since first homes master next vs → get_elem? vs id ≡ some v
        → Nobody vs → get_elem? homes 0 ≡ some (some (Some held)) → IsOut w.stage → w.front ≡ master → w.next ≡ next → Slot list since first (set homes 0 none) master next (set vs id w)
    slot_takes homes master next vs id v w held r at nobody home out whole same = record {
      single = length-set homes 0 none ∙ r.single;
      home = λ f. absurd (f id w (there vs id v w at) out);
      out = each_set (λ u. IsOut u.stage → (get_elem? (set homes 0 none) 0 ≡ some none) × (u.front ≡ master) × (u.next ≡ next)) vs id w
          (λ _. (first_place homes (some (Some held)) none home, whole, same)) (λ j u _ e o. absurd (nobody j u e o));
    }

    -- the list that is out has grown, or a number is drawn
    pub slot_works : (homes : Homes) (master master' : List S) (next next' : ℕ) (vs : List (View V S)) (id : ℕ) (v w : View V S) → Slot list since first homes master next vs → get_elem? vs id ≡ some v
        → ((j : ℕ) (u : View V S) → j ≢ id → get_elem? vs j ≡ some u → IsOut u.stage → ⊥) → IsOut v.stage → IsOut w.stage → w.front ≡ master' → w.next ≡ next' → Slot list since first homes master' next' (set vs id w)
    slot_works homes master master' next next' vs id v w r at others out out' whole same = record {
      single = r.single;
      home = λ f. absurd (f id w (there vs id v w at) out');
      out = each_set (λ u. IsOut u.stage → (get_elem? homes 0 ≡ some none) × (u.front ≡ master') × (u.next ≡ next')) vs id w
          (λ _. ((r.out id v at out).0, whole, same)) (λ j u n e o. absurd (others j u n e o));
    }

    -- the value goes home
    pub slot_gives : (homes : Homes) (master : List S) (next : ℕ) (vs : List (View V S)) (id : ℕ) (v w : View V S) (held : Held V) → Slot list since first homes master next vs → get_elem? vs id ≡ some v
        → ((j : ℕ) (u : View V S) → j ≢ id → get_elem? vs j ≡ some u → IsOut u.stage → ⊥) → IsOut v.stage → w.stage ≡ Idle → list held.value ≡ master → held.next ≡ next → since first held.value
        → Slot list since first (set homes 0 (some (Some held))) master next (set vs id w)
    slot_gives homes master next vs id v w held r at others out idle whole same good = record {
      single = length-set homes 0 (some (Some held)) ∙ r.single;
      home = λ _. (held, first_place homes none (some (Some held)) (r.out id v at out).0, whole, same, good);
      out = each_set (λ u. IsOut u.stage → (get_elem? (set homes 0 (some (Some held))) 0 ≡ some none) × (u.front ≡ master) × (u.next ≡ next)) vs id w
          (λ o. absurd (not_out w.stage idle o)) (λ j u n e o. absurd (others j u n e o));
    }

  module _ (number : S → Option ℕ) where
    pub fronts_set : (master : List S) (next : ℕ) (vs : List (View V S)) (id : ℕ) (v w : View V S) → Fronts number master next vs → get_elem? vs id ≡ some v
        → Knows number master next w → ((n : ℕ) → Member n w.numbers → Member n v.numbers) → Fronts number master next (set vs id w)
    fronts_set master next vs id v w r at mine less = record {
      knows = each_set (Knows number master next) vs id w mine (λ j u _ e. r.knows j u e);
      unique = λ n. alone_set (λ u. Member n u.numbers) vs id v w at (r.unique n) (λ h. inl (less n h));
      fresh = r.fresh;
    }

    pub fronts_more : (master : List S) (next next' : ℕ) (vs : List (View V S)) (w : View V S) → Fronts number master next vs → next ≤ next' → Knows number master next' w → ((n : ℕ) → Member n w.numbers → next ≤ n)
        → Fronts number master next' (vs ++ w ∷ [])
    fronts_more master next next' vs w r more mine new = record {
      knows = each_more (Knows number master next') vs w mine (λ j u e. let k = r.knows j u e in (k.0, k.1, (λ n m. let a = k.2 n m in let l = a.0 in (omega arith, a.1)), k.3));
      unique = λ n. alone_more (λ u. Member n u.numbers) vs w (r.unique n) (λ h j u e m. let l = ((r.knows j u e).2 n m).0 in let g = new n h in omega arith);
      fresh = λ n l. r.fresh n (omega arith);
    }

    -- the list has grown by steps of the pass me and by steps without a number
    pub fronts_grow : (master master' : List S) (next me : ℕ) (vs : List (View V S)) (id : ℕ) (v w : View V S) → Fronts number master next vs → get_elem? vs id ≡ some v → IsPrefix master master'
        → ((n : ℕ) → ¬ (n ≡ me) → of number n master ≡ of number n master') → Member me v.numbers → w.front ≡ master' → w.other ≡ [] → w.others ≡ [] → w.numbers ≡ v.numbers → Fronts number master' next (set vs id w)
    fronts_grow master master' next me vs id v w r at grown kept mine whole none_other no_others same = record {
      knows = each_set (Knows number master' next) vs id w (
        subst (λ l. IsPrefix l master') (sym whole) (prefix_self master'),
        subst (λ l. IsPrefix l master') (sym none_other) (master', refl),
        (λ n m. (((r.knows id v at).2 n (subst (Member n) same m)).0, ap (of number n) whole)),
        λ n m. absurd (subst (Member n) no_others m),
      )
          (λ j u away e. let k = r.knows j u e in
          let differs : (n : ℕ) → Member n u.numbers → ¬ (n ≡ me) = λ n m is. away (r.unique me j id u v e at (subst (λ (x : ℕ). Member x u.numbers) is m) mine) in (
            prefix_trans u.front master master' k.0 grown,
            prefix_trans u.other master master' k.1 grown,
            (λ n m. let a = k.2 n m in (a.0, a.1 ∙ kept n (differs n m))),
            λ n m. let a = k.3 n m in (a.0, a.1 ∙ kept n (differs n a.0)),
          ));
      unique = λ n. alone_set (λ u. Member n u.numbers) vs id v w at (r.unique n) (λ h. inl (subst (Member n) same h));
      fresh = λ n l. let under = ((r.knows id v at).2 me mine).0 in sym (kept n (λ is. omega arith)) ∙ r.fresh n l;
    }

    pub fronts_joined : (master : List S) (next : ℕ) (vs : List (View V S)) (id other : ℕ) (v w b s : View V S) → Fronts number master next vs → get_elem? vs id ≡ some v → get_elem? vs other ≡ some w
        → Knows number master next b → Knows number master next s → ((n : ℕ) → Member n b.numbers → Member n v.numbers ⊎ Member n w.numbers) → ((n : ℕ) → Member n s.numbers → ⊥)
        → Fronts number master next (set (set vs id b) other s)
    fronts_joined master next vs id other v w b s r at there_too mine theirs from no_more = record {
      knows = each_set (Knows number master next) (set vs id b) other s theirs (λ j u _ e. each_set (Knows number master next) vs id b mine (λ i x _ f. r.knows i x f) j u e);
      unique = λ n. alone_joined (λ u. Member n u.numbers) vs id other v w b s at there_too (from n) (no_more n) (r.unique n);
      fresh = r.fresh;
    }

  module _ (floor : List S → ℕ) where
    pub marks_set : (mark mark' : ℕ) (master master' : List S) (vs : List (View V S)) (id : ℕ) (w : View V S) → Marks floor mark master vs → mark ≤ mark' → mark' ≤ floor master' → (w.raised ≤ mark') × (w.answered ≤ mark')
        → Marks floor mark' master' (set vs id w)
    marks_set mark mark' master master' vs id w r more low mine = record {
      low = low;
      marked = each_set (λ u. (u.raised ≤ mark') × (u.answered ≤ mark')) vs id w mine (λ j u _ e. let m = r.marked j u e in let a = m.0 in let b = m.1 in (omega arith, omega arith));
    }

    pub marks_more : (mark : ℕ) (master : List S) (vs : List (View V S)) (w : View V S) → Marks floor mark master vs → (w.raised ≤ mark) × (w.answered ≤ mark) → Marks floor mark master (vs ++ w ∷ [])
    marks_more mark master vs w r mine = record { low = r.low; marked = each_more (λ u. (u.raised ≤ mark) × (u.answered ≤ mark)) vs w mine r.marked }
