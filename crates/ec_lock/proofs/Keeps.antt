-- Each step of the lock keeps its rule.
use Rattle.std.proofs.Common.{◌≡◌, ℕ, zero, suc, ◌+◌, ◌%◌, ◌^◌, ◌<◌, ◌≤◌, ◌≢◌, Bool, true, false, cond, max, eqb, List, [], ◌∷◌, ◌++◌, length, get_or, set, nat_lt, Option, Some, MatchBool, sym, refl, ap, ◌∙◌, subst, inl, inr, ⊎_elim, arith, le_refl, length-set, get_or-set_other, get_or-set_same, eq-eqb, ne_eqb}
use Rattle.std.proofs.lemmas.Bool.Decides.{nat_tests}
use mathlib.Core.Logic.{dite}
use mathlib.Core.Option.{none, some, some-injective, some-ne-none}
use mathlib.Core.List.{IsPrefix}
use native.Mathlib.Decide.{ℕ_discrete}
use lib.ListN.{get_elem?}
use lib.Seq.{set-get_or}
use prog.Atomic.{either}
use Rattle.atomic_table.specs.Table.{State, Me, Act, step, keeps, takes, gives, rest, homes_after, opening, stepped, Allows, Splits, Joins}
use Rattle.atomic_table.proofs.Lists.{set_again}
use Rattle.ec_base.specs.Limits.{last_counter}
use Rattle.ec_lock.specs.declared.traced.Held.{Held}
use Rattle.ec_lock.specs.declared.view.Stage.TheVariants.{Idle, Waiting, Holding}
use Rattle.ec_lock.specs.declared.view.View.{View}
use Rattle.ec_lock.specs.Steps.{Member, Distinct, of}
use Rattle.ec_lock.specs.Rule.{ticket_of, waits, IsOut, StandsByStage as Stands, Tickets, Knows, Marks, Kept}
use Rattle.ec_lock.specs.Told.{opened_view, at_stage, holding, with_front, drawn, tells_note, Got, looked, tells_end, met, raises, tells_answer, kept, cut, copy, longer_view, spent}
use Rattle.ec_lock.proofs.Fronts.{prefix_shorter}
use Rattle.ec_lock.proofs.Seats.{elsewhere}
use Rattle.ec_lock.proofs.Numbers.{of_between, member_append, member_left, member_right, distinct_append}
use Rattle.ec_lock.proofs.Groups.{not_out, not_out_yet, Nobody, others_in, tickets_same, tickets_draw, tickets_look, tickets_next, tickets_more, slot_same, slot_more, slot_takes, slot_works, slot_gives, fronts_set, fronts_more, fronts_grow, fronts_joined, numbers_set, numbers_more, marks_set, marks_more}
use Rattle.ec_base.proofs.Lists.{prefix_self}
use Rattle.ec_base.proofs.Options.{some_same}

pub same_held : {A : Type 0} (a b : A) (c : List (ℕ × Option A)) → c ≡ (0, Some a) ∷ [] → c ≡ (0, Some b) ∷ [] → a ≡ b
same_held a b c e f =
    let x : ℕ × Option _ = (0, Some a) in
    let y : ℕ × Option _ = (0, Some b) in
    let pair : x ≡ y = cc (e, f) in
    some_same a b (ap (λ p. p.1) pair)

same_ticket : (a b : ℕ) → Waiting a ≡ Waiting b → a ≡ b
same_ticket a b e = cc e

module _ {V S : Type 0} (list : V → List S) (number : S → Option ℕ) (floor : List S → ℕ) (since : V → V → Type 0) (grows : (xs ys : List S) → IsPrefix xs ys → floor xs ≤ floor ys) (first : V) where
  abbrev St : Type 0
  St = State (Option (Held V)) (View V S)

  abbrev M : Type 0
  M = Me (Option (Held V)) (View V S)

  abbrev pub Rule : St → Type 0
  Rule = Kept list number floor since first

  abbrev word : St → ℕ → ℕ
  word s i = get_or s.words i 0

  same_words : (s : St) (i id : ℕ) (cs : List (ℕ × Option (Held V))) (w : View V S) (a : Act (Option (Held V))) → Rule record { words = s.words; homes = homes_after s.homes cs a; views = set s.views id w }
      → Rule (stepped s i (get_or s.words i 0) id cs w a)
  same_words s i id cs w a r = subst (λ (ws : List ℕ). Rule record { words = ws; homes = homes_after s.homes cs a; views = set s.views id w }) (sym (set-get_or s.words i 0)) r

  unchanged : (s : St) (i id : ℕ) (cs : List (ℕ × Option (Held V))) (v : View V S) → Rule s → get_elem? s.views id ≡ some v → Rule (stepped s i (get_or s.words i 0) id cs v keeps)
  unchanged s i id cs v r at = same_words s i id cs v keeps (subst (λ (vs : List (View V S)). Rule record { words = s.words; homes = s.homes; views = vs }) (sym (set_again s.views id v at)) r)

  at_home : (s : St) (r : Rule s) (id : ℕ) (v : View V S) (t : ℕ) → get_elem? s.views id ≡ some v → v.stage ≡ Waiting t → word s 1 ≡ t → Nobody s.views
  at_home s r id v t at waits served j u e o = dite (ℕ_discrete j id)
      (λ is. not_out_yet u.stage t (ap (λ (x : View V S). x.stage) (some-injective u v (sym e ∙ (ap (get_elem? s.views) is ∙ at))) ∙ waits) o)
      (λ n. others_in (word s 0) (word s 1) t s.views id v r.tickets at (ap ticket_of waits ∙ ap Some (sym served)) j u n e o)

  -- the tickets of all others, where this one is out
  others : (s : St) (r : Rule s) (id : ℕ) (v : View V S) (t : ℕ) → get_elem? s.views id ≡ some v → v.stage ≡ Holding t → (j : ℕ) (u : View V S) → j ≢ id → get_elem? s.views j ≡ some u → IsOut u.stage → ⊥
  others s r id v t at out = let stood : Stands (word s 0) (word s 1) (Holding t) = subst (Stands (word s 0) (word s 1)) out (r.tickets.stands id v at) in
      others_in (word s 0) (word s 1) t s.views id v r.tickets at (ap ticket_of out ∙ ap Some stood.0)

  is_out : (v : View V S) (t : ℕ) → v.stage ≡ Holding t → IsOut v.stage
  is_out v t out = subst IsOut (sym out) tt

  pub opens : (held : Held V) → list first ≡ [] → held.value ≡ first → held.next ≡ 1 → since first first → Rule (opening (0 ∷ 0 ∷ 0 ∷ 0 ∷ []) (Some held ∷ []) (opened_view first))
  opens held none_yet is one good = record {
    master = [];
    next = 1;
    wide = refl;
    tickets = record {
      few = omega arith;
      counted = refl;
      stands = λ j v e. subst (λ (u : View V S). Stands 0 0 u.stage) (only j v e) tt;
      apart = λ t j k v w e f _ _. alone j k v w e f;
    };
    long = refl;
    slot = record {
      single = refl;
      home = λ _. (held, refl, ap list is ∙ none_yet, one, subst (since first) (sym is) good);
      out = λ j v e o. absurd (subst (λ (u : View V S). IsOut u.stage) (sym (only j v e)) o);
    };
    fronts = record {
      knows = λ j v e. subst (Knows number [] 1) (only j v e) (([], refl), ([], refl), (λ n m. (⊎_elim (λ (h : 0 ≡ n). omega arith) (λ h. absurd h) m, refl)), λ n m. absurd m);
      unique = λ n j k v w e f _ _. alone j k v w e f;
      fresh = λ n l. refl;
    };
    numbers = record { distinct = λ j v e. subst (λ (u : View V S). Distinct u.numbers) (only j v e) ((λ m. m), tt); seen = λ j v e. subst (λ (u : View V S). u.next ≤ 1) (only j v e) (le_refl 1) };
    marks = record { low = omega arith; marked = λ j v e. subst (λ (u : View V S). (u.raised ≤ 0) × (u.answered ≤ 0)) (only j v e) (le_refl 0, le_refl 0) };
  } where
    only : (j : ℕ) (v : View V S) → get_elem? (opened_view {V = V} {S = S} first ∷ []) j ≡ some v → opened_view first ≡ v
    only zero v e = some-injective (opened_view first) v e
    only (suc j) v e = absurd (some-ne-none v (sym e))

    alone : (j k : ℕ) (v w : View V S) → get_elem? (opened_view {V = V} {S = S} first ∷ []) j ≡ some v → get_elem? (opened_view {V = V} {S = S} first ∷ []) k ≡ some w → j ≡ k
    alone zero zero v w e f = refl
    alone zero (suc k) v w e f = absurd (some-ne-none w (sym f))
    alone (suc j) k v w e f = absurd (some-ne-none v (sym e))

  pub draws : (slots id : ℕ) (me : M) (old new : ℕ) → me.0.stage ≡ Idle → old < last_counter → new ≡ old + 1 → Allows Rule slots id me 0 (λ n. either (eqb n old) new n) (drawn (step slots 0 old new none) me)
  draws slots id me old new idle room up s r _ at _ = let n : ℕ = word s 0 in let v : View V S = me.0 in dite (ℕ_discrete n old)
      (λ hit. let w : View V S = at_stage v (Waiting n) in let wide = r.wide in (
        w,
        keeps,
        tt,
        subst (λ b. Rule (stepped s 0 (either b new n) id me.1 w keeps)) (sym (eq-eqb n old hit)) record {
          master = r.master;
          next = r.next;
          wide = length-set s.words 0 new ∙ wide;
          tickets = subst (λ (x : ℕ). Tickets x (get_or (set s.words 0 new) 1 0) (set s.views id w)) (omega (arith, get_or-set_same s.words 0 new 0 (omega arith)))
              (subst (λ (x : ℕ). Tickets (n + 1) x (set s.views id w)) (sym (get_or-set_other s.words 0 1 new 0 (λ e. omega arith))) (tickets_draw n (word s 1) s.views id v w r.tickets at (omega arith) idle refl));
          long = get_or-set_other s.words 0 2 new 0 (λ e. omega arith) ∙ r.long;
          slot = slot_same list since first s.homes r.master r.next s.views id v w r.slot at (λ o. absurd (not_out v.stage idle o)) (λ o. absurd o);
          fronts = fronts_set number r.master r.next s.views id v w r.fronts at (r.fronts.knows id v at) (λ _ m. m);
          numbers = numbers_set r.next r.next s.views id w r.numbers (le_refl r.next) (r.numbers.distinct id v at) (r.numbers.seen id v at);
          marks = subst (λ (x : ℕ). Marks floor x r.master (set s.views id w)) (sym (get_or-set_other s.words 0 3 new 0 (λ e. omega arith)))
              (marks_set floor (word s 3) (word s 3) r.master r.master s.views id w r.marks (le_refl (word s 3)) r.marks.low (r.marks.marked id v at));
        },
        ap (λ b. (cond b (at_stage v (Waiting n)) v, me.1)) (sym (eq-eqb n old hit)),
      ))
      (λ miss. (
        v,
        keeps,
        tt,
        subst (λ b. Rule (stepped s 0 (either b new n) id me.1 v keeps)) (sym (ne_eqb n old miss)) (unchanged s 0 id me.1 v r at),
        ap (λ b. (cond b (at_stage v (Waiting n)) v, me.1)) (sym (ne_eqb n old miss)),
      ))

  pub looks : (slots id : ℕ) (me : M) (ticket : ℕ) → me.0.stage ≡ Waiting ticket → me.0.first ≡ Some first → Allows Rule slots id me 1 (λ n. n) (looked list number floor since (step slots 1 0 0 none) me)
  looks slots id me ticket waits ours s r _ at _ = let n : ℕ = word s 1 in let v : View V S = me.0 in dite (ℕ_discrete n ticket)
      (λ hit.
      let nobody = at_home s r id v ticket at waits hit in
      let h = r.slot.home nobody in
      let held : Held V = h.0 in
      let whole : list held.value ≡ r.master = h.2 in
      let w : View V S = holding v n (list held.value) held.next in
      let k = r.fronts.knows id v at in
      let marked = r.marks.marked id v at in
      let low = r.marks.low in
      let a = marked.0 in
      let b = marked.1 in
      let same_floor : floor (list held.value) ≡ floor r.master = ap floor whole in (
        w,
        takes 0 (Some held),
        h.1,
        same_words s 1 id me.1 w (takes 0 (Some held)) record {
          master = r.master;
          next = r.next;
          wide = r.wide;
          tickets = tickets_look (word s 0) n s.views id v w r.tickets at (waits ∙ ap Waiting (sym hit)) refl;
          long = r.long;
          slot = slot_takes list since first s.homes r.master r.next s.views id v w held r.slot at nobody h.1 tt whole h.3;
          fronts = fronts_set number r.master r.next s.views id v w r.fronts at
              (subst (λ l. IsPrefix l r.master) (sym whole) (prefix_self r.master), k.1, (λ i m. ((k.2 i m).0, ap (of number i) whole)), k.3) (λ _ m. m);
          numbers = numbers_set r.next r.next s.views id w r.numbers (le_refl r.next) (r.numbers.distinct id v at) (let same_next = h.3 in omega arith);
          marks = marks_set floor (word s 3) (word s 3) r.master r.master s.views id w r.marks (le_refl (word s 3)) low marked;
        },
        λ t is. let same : n ≡ t = hit ∙ same_ticket ticket t (sym waits ∙ is) in
            subst (λ c. MatchBool c (Got list number floor since t me (w, (0, Some held) ∷ me.1)) ((w, (0, Some held) ∷ me.1) ≡ me)) (sym (eq-eqb n t same)) (
              held,
              ap (λ (x : ℕ). (holding v x (list held.value) held.next, (0, Some held) ∷ me.1)) same,
              (λ f e. let is_first : first ≡ f = cc (ours, e) in subst (λ (x : V). since x held.value) is_first h.4),
              subst (IsPrefix v.front) (sym whole) k.0,
              (λ i m. (k.2 i m).1 ∙ ap (of number i) (sym whole)),
              omega arith,
              omega arith,
              (λ i l. ap (of number i) whole ∙ r.fronts.fresh i (let same_next = h.3 in omega arith)),
              (λ i m. let under = (k.2 i m).0 in let same_next = h.3 in omega arith),
              (let seen = r.numbers.seen id v at in let same_next = h.3 in omega arith),
            ),
      ))
      (λ miss. (
        v,
        keeps,
        tt,
        unchanged s 1 id me.1 v r at,
        λ t is. let other : n ≢ t = λ e. miss (e ∙ sym (same_ticket ticket t (sym waits ∙ is))) in
            subst (λ c. MatchBool c (Got list number floor since t me (v, me.1)) ((v, me.1) ≡ me)) (sym (ne_eqb n t other)) refl,
      ))

  pub notes : (slots id : ℕ) (me : M) (held : Held V) (x t mine : ℕ) → me.1 ≡ (0, Some held) ∷ [] → x ≡ length (list held.value) → me.0.stage ≡ Holding t → IsPrefix me.0.front (list held.value)
      → ((n : ℕ) → ¬ (n ≡ mine) → of number n me.0.front ≡ of number n (list held.value)) → Member mine me.0.numbers → Allows Rule slots id me 2 (λ _. x) (λ _. tells_note list (step slots 2 x 0 none) me x)
  notes slots id me held x t mine has long out grown own member s r _ at _ =
      let v : View V S = me.0 in
      let w : View V S = with_front v (list held.value) in
      let wide = r.wide in
      let now : v.front ≡ r.master = (r.slot.out id v at (is_out v t out)).1 in
      let longer : IsPrefix r.master (list held.value) = subst (λ l. IsPrefix l (list held.value)) now grown in
      let more = grows r.master (list held.value) longer in
      let low = r.marks.low in (
        w,
        keeps,
        tt,
        record {
          master = list held.value;
          next = r.next;
          wide = length-set s.words 2 x ∙ wide;
          tickets = subst (λ (y : ℕ). Tickets y (get_or (set s.words 2 x) 1 0) (set s.views id w)) (sym (get_or-set_other s.words 2 0 x 0 (λ e. omega arith)))
              (subst (λ (y : ℕ). Tickets (word s 0) y (set s.views id w)) (sym (get_or-set_other s.words 2 1 x 0 (λ e. omega arith))) (tickets_same (word s 0) (word s 1) s.views id v w r.tickets at refl));
          long = get_or-set_same s.words 2 x 0 (omega arith) ∙ long;
          slot = slot_works list since first s.homes r.master (list held.value) r.next r.next s.views id v w r.slot at (others s r id v t at out) (is_out v t out) (is_out v t out) refl (r.slot.out id v at (is_out v t out)).2;
          fronts = fronts_grow number r.master (list held.value) r.next mine s.views id v w r.fronts at longer (λ n ne. ap (of number n) (sym now) ∙ own n ne) member refl refl refl refl;
          numbers = numbers_set r.next r.next s.views id w r.numbers (le_refl r.next) (r.numbers.distinct id v at) (r.numbers.seen id v at);
          marks = subst (λ (y : ℕ). Marks floor y (list held.value) (set s.views id w)) (sym (get_or-set_other s.words 2 3 x 0 (λ e. omega arith)))
              (marks_set floor (word s 3) (word s 3) r.master (list held.value) s.views id w r.marks (le_refl (word s 3)) (omega arith) (r.marks.marked id v at));
        },
        λ h e. let same : held ≡ h = same_held held h me.1 has e in ap (λ (y : Held V). (with_front v (list y.value), me.1)) same,
      )

  pub ends : (slots id : ℕ) (me : M) (held : Held V) (t : ℕ) → me.1 ≡ (0, Some held) ∷ [] → me.0.stage ≡ Holding t → me.0.front ≡ list held.value → me.0.next ≡ held.next → since first held.value
      → Allows Rule slots id me 1 (λ n. (n + 1) % 2 ^ 64) (tells_end (step slots 1 1 0 none) me)
  ends slots id me held t has out whole same good s r _ at _ =
      let v : View V S = me.0 in
      let w : View V S = at_stage v Idle in
      let wide = r.wide in
      let n : ℕ = word s 1 in
      let few = r.tickets.few in
      let counted = r.tickets.counted in
      let up : (n + 1) % 2 ^ 64 ≡ n + 1 = omega arith in
      let x : ℕ = (n + 1) % 2 ^ 64 in
      let o = r.slot.out id v at (is_out v t out) in (
        w,
        gives,
        tt,
        subst (λ c. Rule (stepped s 1 x id c w gives)) (sym has) record {
          master = r.master;
          next = r.next;
          wide = length-set s.words 1 x ∙ wide;
          tickets = subst (λ (y : ℕ). Tickets y (get_or (set s.words 1 x) 1 0) (set s.views id w)) (sym (get_or-set_other s.words 1 0 x 0 (λ e. omega arith)))
              (subst (λ (y : ℕ). Tickets (word s 0) y (set s.views id w)) (sym (get_or-set_same s.words 1 x 0 (omega arith) ∙ up)) (tickets_next (word s 0) n t s.views id v w r.tickets at out refl));
          long = get_or-set_other s.words 1 2 x 0 (λ e. omega arith) ∙ r.long;
          slot = slot_gives list since first s.homes r.master r.next s.views id v w held r.slot at (others s r id v t at out) (is_out v t out) refl (sym whole ∙ o.1) (sym same ∙ o.2) good;
          fronts = fronts_set number r.master r.next s.views id v w r.fronts at (r.fronts.knows id v at) (λ _ m. m);
          numbers = numbers_set r.next r.next s.views id w r.numbers (le_refl r.next) (r.numbers.distinct id v at) (r.numbers.seen id v at);
          marks = subst (λ (y : ℕ). Marks floor y r.master (set s.views id w)) (sym (get_or-set_other s.words 1 3 x 0 (λ e. omega arith)))
              (marks_set floor (word s 3) (word s 3) r.master r.master s.views id w r.marks (le_refl (word s 3)) r.marks.low (r.marks.marked id v at));
        },
        ap (λ c. (w, rest c)) has,
      )

  pub cuts : (id : ℕ) (v : View V S) (t : ℕ) → v.stage ≡ Holding t → Splits Rule id v (kept v) (cut v)
  cuts id v t out s r at =
      let w : View V S = kept v in
      let vs : List (View V S) = set s.views id w in
      let o = r.slot.out id v at (is_out v t out) in
      let up = o.2 in
      let k = r.fronts.knows id v at in
      let tk = r.tickets in record {
        master = r.master;
        next = r.next + 1;
        wide = r.wide;
        tickets = tickets_more (word s 0) (word s 1) vs (cut v) (tickets_same (word s 0) (word s 1) s.views id v w tk at refl) refl;
        long = r.long;
        slot = slot_more list since first s.homes r.master (r.next + 1) vs (cut v)
            (slot_works list since first s.homes r.master r.master r.next (r.next + 1) s.views id v w r.slot at (others s r id v t at out) (is_out v t out) (is_out v t out) o.1 (omega arith)) refl;
        fronts = fronts_more number r.master r.next (r.next + 1) vs (cut v) (fronts_set number r.master r.next s.views id v w r.fronts at k (λ _ m. m)) (omega arith)
            (k.0, (r.master, refl), (λ n m. (⊎_elim (λ (e : v.next ≡ n). omega arith) (λ e. absurd e) m, ap (of number n) o.1)), λ n m. absurd m) (λ n m. ⊎_elim (λ (e : v.next ≡ n). omega arith) (λ e. absurd e) m);
        numbers = numbers_more (r.next + 1) vs (cut v) (numbers_set r.next (r.next + 1) s.views id w r.numbers (omega arith) (r.numbers.distinct id v at) (omega arith)) ((λ m. m), tt) (omega arith);
        marks = marks_more floor (word s 3) r.master vs (cut v) (marks_set floor (word s 3) (word s 3) r.master r.master s.views id w r.marks (le_refl (word s 3)) r.marks.low (r.marks.marked id v at)) (r.marks.marked id v at);
      }

  pub copies : (id : ℕ) (v : View V S) → Splits Rule id v v (copy v)
  copies id v s r at =
      let vs : List (View V S) = set s.views id v in
      let k = r.fronts.knows id v at in record {
        master = r.master;
        next = r.next;
        wide = r.wide;
        tickets = tickets_more (word s 0) (word s 1) vs (copy v) (tickets_same (word s 0) (word s 1) s.views id v v r.tickets at refl) refl;
        long = r.long;
        slot = slot_more list since first s.homes r.master r.next vs (copy v) (slot_same list since first s.homes r.master r.next s.views id v v r.slot at (λ o. o) (λ o. (o, refl, refl))) refl;
        fronts = fronts_more number r.master r.next r.next vs (copy v) (fronts_set number r.master r.next s.views id v v r.fronts at k (λ _ m. m)) (le_refl r.next)
            (k.0, (r.master, refl), (λ n m. absurd m), λ n m. absurd m) (λ n m. absurd m);
        numbers = numbers_more r.next vs (copy v) (numbers_set r.next r.next s.views id v r.numbers (le_refl r.next) (r.numbers.distinct id v at) (r.numbers.seen id v at)) tt (r.numbers.seen id v at);
        marks = marks_more floor (word s 3) r.master vs (copy v) (marks_set floor (word s 3) (word s 3) r.master r.master s.views id v r.marks (le_refl (word s 3)) r.marks.low (r.marks.marked id v at)) (r.marks.marked id v at);
      }

  abbrev chosen : Bool → View V S → View V S → View V S
  chosen b v w = record v { front = cond b w.front v.front; other = cond b v.front w.front; others = cond b v.numbers w.numbers; numbers = v.numbers ++ w.numbers; raised = max v.raised w.raised; answered = max v.answered w.answered }

  -- the longer front has the steps of the shorter one's numbers
  longer_has : (master : List S) (next : ℕ) (v w : View V S) → Knows number master next v → Knows number master next w → length v.front ≤ length w.front → (n : ℕ) → Member n v.numbers → of number n w.front ≡ of number n master
  longer_has master next v w kv kw le n m = of_between number n v.front w.front master (prefix_shorter v.front w.front master kv.0 kw.0 le) kw.0 (kv.2 n m).1

  knows_both : (master : List S) (next : ℕ) (v w : View V S) → Knows number master next v → Knows number master next w → (b : Bool) → nat_lt (length v.front) (length w.front) ≡ b → Knows number master next (chosen b v w)
  knows_both master next v w kv kw true is = let le : length v.front ≤ length w.front = grind (arith, nat_tests) in (
    kw.0,
    kv.0,
    (λ n m. ⊎_elim (λ (a : Member n v.numbers). ((kv.2 n a).0, longer_has master next v w kv kw le n a)) (λ (c : Member n w.numbers). kw.2 n c) (member_append n v.numbers w.numbers m)),
    λ n m. (member_left n v.numbers w.numbers m, (kv.2 n m).1),
  )
  knows_both master next v w kv kw false is = let le : length w.front ≤ length v.front = grind (arith, nat_tests) in (
    kv.0,
    kw.0,
    (λ n m. ⊎_elim (λ (a : Member n v.numbers). kv.2 n a) (λ (c : Member n w.numbers). ((kw.2 n c).0, longer_has master next w v kw kv le n c)) (member_append n v.numbers w.numbers m)),
    λ n m. (member_right n v.numbers w.numbers m, (kw.2 n m).1),
  )

  pub joins : (id : ℕ) (v : View V S) (other : ℕ) (w : View V S) → v.stage ≡ Idle → w.stage ≡ Idle → Joins Rule id v other w (longer_view v w) spent
  joins id v other w idle idle' s r at apart there_too =
      let b : View V S = longer_view v w in
      let vs : List (View V S) = set s.views id b in
      let at' : get_elem? s.views other ≡ some w = sym (elsewhere s.views id other b apart) ∙ there_too in
      let kv = r.fronts.knows id v at in
      let kw = r.fronts.knows other w at' in
      let mv = r.marks.marked id v at in
      let mw = r.marks.marked other w at' in
      let a0 = mv.0 in let a1 = mv.1 in let b0 = mw.0 in let b1 = mw.1 in record {
        master = r.master;
        next = r.next;
        wide = r.wide;
        tickets = tickets_same (word s 0) (word s 1) vs other w spent (tickets_same (word s 0) (word s 1) s.views id v b r.tickets at refl) there_too (sym idle');
        long = r.long;
        slot = slot_same list since first s.homes r.master r.next vs other w spent (slot_same list since first s.homes r.master r.next s.views id v b r.slot at (λ o. o) (λ o. absurd (not_out v.stage idle o))) there_too
            (λ o. absurd (not_out w.stage idle' o)) (λ o. absurd o);
        fronts = fronts_joined number r.master r.next s.views id other v w b spent r.fronts at at' (knows_both r.master r.next v w kv kw (nat_lt (length v.front) (length w.front)) refl)
            ((r.master, refl), (r.master, refl), (λ n m. absurd m), λ n m. absurd m) (λ n m. member_append n v.numbers w.numbers m) (λ n m. m);
        numbers = numbers_set r.next r.next vs other spent (numbers_set r.next r.next s.views id b r.numbers (le_refl r.next)
            (distinct_append v.numbers w.numbers (r.numbers.distinct id v at) (r.numbers.distinct other w at') (λ n m m'. apart (sym (r.fronts.unique n id other v w at at' m m')))) (r.numbers.seen id v at))
            (le_refl r.next) tt (omega arith);
        marks = marks_set floor (word s 3) (word s 3) r.master r.master vs other spent (marks_set floor (word s 3) (word s 3) r.master r.master s.views id b r.marks (le_refl (word s 3)) r.marks.low (omega arith, omega arith))
            (le_refl (word s 3)) r.marks.low (omega arith, omega arith);
      }

  -- a change of a view that leaves its stage, its front and its numbers, at a load
  quiet : (s : St) (i id : ℕ) (cs : List (ℕ × Option (Held V))) (v w : View V S) → Rule s → get_elem? s.views id ≡ some v → w.stage ≡ v.stage → w.front ≡ v.front → w.next ≡ v.next
      → ((master : List S) (next : ℕ) → Knows number master next v → Knows number master next w) → w.numbers ≡ v.numbers → (w.raised ≤ word s 3) × (w.answered ≤ word s 3)
      → Rule (stepped s i (get_or s.words i 0) id cs w keeps)
  quiet s i id cs v w r at stage front next knows same marked = same_words s i id cs w keeps record {
    master = r.master;
    next = r.next;
    wide = r.wide;
    tickets = tickets_same (word s 0) (word s 1) s.views id v w r.tickets at stage;
    long = r.long;
    slot = slot_same list since first s.homes r.master r.next s.views id v w r.slot at (λ o. subst IsOut (sym stage) o) (λ o. (subst IsOut stage o, front, next));
    fronts = fronts_set number r.master r.next s.views id v w r.fronts at (knows r.master r.next (r.fronts.knows id v at)) (λ n. subst (Member n) same);
    numbers = numbers_set r.next r.next s.views id w r.numbers (le_refl r.next) (subst Distinct (sym same) (r.numbers.distinct id v at)) (let l = r.numbers.seen id v at in omega arith);
    marks = marks_set floor (word s 3) (word s 3) r.master r.master s.views id w r.marks (le_refl (word s 3)) r.marks.low marked;
  }

  pub meets : (slots id : ℕ) (me : M) → length me.0.other ≤ length me.0.front → Allows Rule slots id me 2 (λ n. n) (met number (step slots 2 0 0 none) me)
  meets slots id me le s r _ at _ =
      let v : View V S = me.0 in
      let w : View V S = record v { other = []; others = [] } in
      let k = r.fronts.knows id v at in (
        w,
        keeps,
        tt,
        quiet s 2 id me.1 v w r at refl refl refl (λ master next k. (k.0, (master, refl), k.2, λ n m. absurd m)) refl (r.marks.marked id v at),
        (refl, prefix_shorter v.other v.front r.master k.1 k.0 le, (λ n m. let o = k.3 n m in (k.2 n o.0).1 ∙ sym o.1), r.numbers.distinct id v at),
      )

  pub answers_mark : (slots id : ℕ) (me : M) → Allows Rule slots id me 3 (λ n. n) (tells_answer (step slots 3 0 0 none) me)
  answers_mark slots id me s r _ at _ =
      let v : View V S = me.0 in
      let w : View V S = record v { answered = word s 3 } in
      let m = r.marks.marked id v at in (
        w,
        keeps,
        tt,
        quiet s 3 id me.1 v w r at refl refl refl (λ master next k. k) refl (m.0, le_refl (word s 3)),
        (refl, m.0, m.1),
      )

  pub raises_mark : (slots id : ℕ) (me : M) (to : ℕ) → to ≤ floor me.0.front → Allows Rule slots id me 3 (λ n. max n to) (raises (step slots 3 to 0 none) me)
  raises_mark slots id me to below s r _ at _ =
      let v : View V S = me.0 in
      let w : View V S = record v { raised = max v.raised to } in
      let m = r.marks.marked id v at in
      let m0 = m.0 in
      let m1 = m.1 in
      let low = r.marks.low in
      let more = grows v.front r.master (r.fronts.knows id v at).0 in
      let x : ℕ = max (word s 3) to in
      let wide = r.wide in (
        w,
        keeps,
        tt,
        record {
          master = r.master;
          next = r.next;
          wide = length-set s.words 3 x ∙ wide;
          tickets = subst (λ (y : ℕ). Tickets y (get_or (set s.words 3 x) 1 0) (set s.views id w)) (sym (get_or-set_other s.words 3 0 x 0 (λ e. omega arith)))
              (subst (λ (y : ℕ). Tickets (word s 0) y (set s.views id w)) (sym (get_or-set_other s.words 3 1 x 0 (λ e. omega arith))) (tickets_same (word s 0) (word s 1) s.views id v w r.tickets at refl));
          long = get_or-set_other s.words 3 2 x 0 (λ e. omega arith) ∙ r.long;
          slot = slot_same list since first s.homes r.master r.next s.views id v w r.slot at (λ o. o) (λ o. (o, refl, refl));
          fronts = fronts_set number r.master r.next s.views id v w r.fronts at (r.fronts.knows id v at) (λ _ m. m);
          numbers = numbers_set r.next r.next s.views id w r.numbers (le_refl r.next) (r.numbers.distinct id v at) (r.numbers.seen id v at);
          marks = subst (λ (y : ℕ). Marks floor y r.master (set s.views id w)) (sym (get_or-set_same s.words 3 x 0 (omega arith)))
              (marks_set floor (word s 3) x r.master r.master s.views id w r.marks (omega arith) (omega arith) (omega arith, omega arith));
        },
        refl,
      )
