-- The bare call moves behind an entry of another start, or an empty loss of its own.
use Rattle.std.proofs.Common.{◌≡◌, refl, sym, ap, subst, ◌∙◌, inl, inr, ◌⊎◌, arith, ℕ, T, Bool, true, false, not, ◌==◌, ◌&&◌, ◌||◌, cond, List, [], ◌∷◌, ◌++◌, length, Option, Some, None, append-nil, append_assoc}
use Rattle.std.proofs.lemmas.Bool.{true≢false}
use Rattle.std.specs.Prelude.{map, nat_le}
use Rattle.std.specs.List.{filter, list_all, list_any}
use Rattle.std.proofs.lemmas.List.Elements.{filter-append}
use Rattle.ec_volume.specs.Update.{member, operands}
use Rattle.ec_volume.specs.Volume.{after}
use Rattle.ec_volume.specs.declared.update.Update.{Update}
use Rattle.ec_plain.specs.declared.call.Call.{Call}
use Rattle.ec_plain.specs.declared.call.Call.TheVariants as call
use Rattle.ec_plain.specs.declared.call.Reply.TheVariants as reply
use Rattle.ec_order.specs.Order.{InClosure}
use Rattle.ec_history.specs.History.{Base, Each, History, Op, Owed, Throughout, updates, numbers, same_start, of_start, is_one_of, outcome, kept, kept_next, issued, issued_by, of_issue, asks, is_entry_of, is_lost, pairs_of, Covers, owed, owed_next, meets, distinct_numbers, due}
use Rattle.ec_history.specs.Legal.{IsCall, IsFull, IsLegalNext, IsReply, IsReported}
use Rattle.ec_history.specs.Placing.{shows}
use Rattle.ec_history.specs.declared.entry.Answer.{Answer}
use Rattle.ec_history.specs.declared.entry.Answer.TheVariants as answer
use Rattle.ec_history.specs.declared.entry.Entry.TheVariants as entry
use Rattle.ec_history.proofs.OfLaws.ForPlacing.Cuts.{throughout-append, throughout-back, throughout-front}
use Rattle.ec_history.proofs.OfLaws.ForPlacing.More.{kept-step, issued-step, owed-step, is_lost-append, count-step}
use Rattle.ec_history.proofs.OfLaws.ForPlacing.Numbers.{count}
use Rattle.ec_history.specs.OfLaws.OfPrinted.Timely.{IsBare}
use Rattle.ec_history.proofs.OfLaws.OfPrinted.Moved.{E, IsAlike, IsLevel, IsMoved, Uncovered, Untouched, cond-false, legal-moved, moved-all, moved-none, moved-on, one-start, uncovered-level, untouched-level}
use Rattle.ec_base.proofs.Bools.{or_false as or-false}

-- no operation is one of no numbers
none-of : (d f : ℕ) (ks : List Op) → filter (is_one_of d f []) ks ≡ []
none-of d f [] = refl
none-of d f (k ∷ ks) = go (of_start d f k) ∙ none-of d f ks
  where
    go : (z : Bool) → cond (z && false) (k ∷ filter (is_one_of d f []) ks) (filter (is_one_of d f []) ks) ≡ filter (is_one_of d f []) ks
    go true = refl
    go false = refl

-- an entry that touches nothing leaves all alone
leaves-all : (z : Bool) (ls : List Op) (ts : List ℕ) → ts ≡ [] → T (z || list_all (λ k. not (list_any (λ o. member o ts) (operands k.update))) ls)
leaves-all z ls ts q = subst (λ us. T (z || list_all (λ k. not (list_any (λ o. member o us) (operands k.update))) ls)) (sym q) (either z (all ls))
  where
    none : (os : List ℕ) → list_any (λ o. member o []) os ≡ false
    none [] = refl
    none (o ∷ os) = none os

    all : (ks : List Op) → T (list_all (λ k. not (list_any (λ o. member o []) (operands k.update))) ks)
    all [] = tt
    all (k ∷ ks) = subst (λ y. T (not y && list_all (λ j. not (list_any (λ o. member o []) (operands j.update))) ks)) (sym (none (operands k.update))) (all ks)

    either : (y : Bool) → T (list_all (λ k. not (list_any (λ o. member o []) (operands k.update))) ls) → T (y || list_all (λ k. not (list_any (λ o. member o []) (operands k.update))) ls)
    either true t = tt
    either false t = t

-- what a bare call asks is told by its start's operations alone
asks-bare : (base : Base) (h k : History) (p c b l g : ℕ) (cl : Call) (a : Answer) → shows cl a ≡ false
    → filter (λ o. of_start c b o && nat_le o.place g) (issued base k) ≡ filter (λ o. of_start c b o && nat_le o.place g) (issued base h)
    → asks base k (p, entry.Call c b l g cl a None) ≡ asks base h (p, entry.Call c b l g cl a None)
asks-bare base h k p c b l g (call.Fsync path) (answer.Reply reply.Ok) u q = absurd (true≢false u)
asks-bare base h k p c b l g call.Sync (answer.Reply reply.Ok) u q = ap numbers q
asks-bare base h k p c b l g cl a u q = refl

module _ (base : Base) (p c b l g : ℕ) (cl : Call) (a : Answer) (bare : IsBare cl a None) where
  abbrev e : E
  e = (p, entry.Call c b l g cl a None)

  -- it may move behind this one
  abbrev pub Passes : E → Type 0
  Passes x = (is_entry_of c b x.1 ≡ false) ⊎ ((q : ℕ) × (x ≡ (q, entry.Loss c b [])))

  out-same : (ks js : List Op) → outcome base ks p cl ≡ outcome base js p cl
  out-same ks js = bare.everywhere (after base.volume (updates ks)) (base.fresh p) ∙ sym (bare.everywhere (after base.volume (updates js)) (base.fresh p))

  touched-none : (ks : List Op) → (outcome base ks p cl).touched ≡ []
  touched-none ks = ap (λ o. o.touched) (bare.everywhere (after base.volume (updates ks)) (base.fresh p)) ∙ bare.touched

  -- it leaves what is kept, issued and lost
  level-behind : (h : History) → IsLevel base h (h ++ e ∷ [])
  level-behind h = record {
    keeps = kept-step base h e ∙ append-nil (kept base h);
    issues = issued-step base h e ∙ append-nil (issued base h);
    loses = λ d f n. is_lost-append d f n h (e ∷ []) ∙ or-false (is_lost d f n h);
  }

  level-back : (h : History) → IsLevel base (h ++ e ∷ []) h
  level-back h = let k = level-behind h in record { keeps = sym k.keeps; issues = sym k.issues; loses = λ d f n. sym (k.loses d f n) }

  owes-other : (h : History) (d f : ℕ) → same_start d f c b ≡ false → owed base (h ++ e ∷ []) d f ≡ owed base h d f
  owes-other h d f o = owed-step base h e d f ∙ cond-false (same_start d f c b) _ (owed base h d f) o

  no-op : (d f : ℕ) → length {A = E} (cond (same_start d f c b && false) (e ∷ []) []) ≡ 0
  no-op d f = go (same_start d f c b)
    where
      go : (z : Bool) → length {A = E} (cond (z && false) (e ∷ []) []) ≡ 0
      go true = refl
      go false = refl

  counts-behind : (h : History) (d f : ℕ) → count d f (h ++ e ∷ []) ≡ count d f h
  counts-behind h d f = omega (arith, count-step d f h e, no-op d f)

  -- An entry that it passes leaves what the start owes, lost, and issued.

  own-ops : (ks : List Op) (x : E) → Passes x → (r : Op → Bool) → ((k : Op) → of_start c b k ≡ false → r k ≡ false) → filter r (issued_by base ks x) ≡ []
  own-ops ks (q, entry.Loss d f ms) o r n = refl
  own-ops ks (q, entry.Call d f m s dl y None) o r n = refl
  own-ops ks (q, entry.Call d f m s dl y (Some i)) (inr z) r n = absurd (call-loss q d f m s dl y i z.0 z.1)
    where
      is-loss : E → Bool
      is-loss (j, entry.Loss x y zs) = true
      is-loss (j, entry.Call x y j1 j2 j3 j4 j5) = false

      call-loss : (q d f m s : ℕ) (dl : Call) (y : Answer) (i r : ℕ) → ◌≡◌ {A = E} (q, entry.Call d f m s dl y (Some i)) (r, entry.Loss c b []) → ⊥
      call-loss q d f m s dl y i r z = true≢false (sym (ap is-loss z))
  own-ops ks (q, entry.Call d f m s dl y (Some i)) (inl o) r n = go ((outcome base ks q dl).update)
    where
      go : (u : Option Update) → filter r (elim u as (λ z. List Op) [ None ↦ [] | Some v ↦ record { clerk = d; boot = f; number = i; place = q; update = v } ∷ [] ]) ≡ []
      go None = refl
      go (Some v) = cond-false (r (record { clerk = d; boot = f; number = i; place = q; update = v })) _ [] (n (record { clerk = d; boot = f; number = i; place = q; update = v }) o)

  issues-own : (h : History) (x : E) → Passes x → (r : Op → Bool) → ((k : Op) → of_start c b k ≡ false → r k ≡ false) → filter r (issued base (h ++ x ∷ [])) ≡ filter r (issued base h)
  issues-own h x o r n =
      ap (filter r) (issued-step base h x) ∙ filter-append r (issued base h) (issued_by base (kept base h) x) ∙ ap (λ z. filter r (issued base h) ++ z) (own-ops (kept base h) x o r n) ∙ append-nil (filter r (issued base h))

  loses-own : (h : History) (x : E) → Passes x → (n : ℕ) → is_lost c b n (h ++ x ∷ []) ≡ is_lost c b n h
  loses-own h x o n = is_lost-append c b n h (x ∷ []) ∙ ap (λ z. is_lost c b n h || z) (none x o) ∙ or-false (is_lost c b n h)
    where
      none : (y : E) → Passes y → is_lost c b n (y ∷ []) ≡ false
      none (q, entry.Call d f m s dl z op) w = refl
      none (q, entry.Loss d f ms) (inl w) = ap (λ z. (z && member n ms) || false) w
      none y (inr w) = subst (λ z. is_lost c b n (z ∷ []) ≡ false) (sym w.1) (go (same_start c b c b))
        where
          go : (z : Bool) → ((z && false) || false) ≡ false
          go true = refl
          go false = refl

  owes-own : (h : History) (x : E) → Passes x → (ks : List Op) (qs : Owed) → owed_next base c b ks qs x ≡ qs
  owes-own h (q, entry.Call d f m s dl z op) (inl w) ks qs = cond-false (same_start c b d f) _ qs w
  owes-own h (q, entry.Loss d f ms) (inl w) ks qs = cond-false (same_start c b d f) _ qs w
  owes-own h x (inr w) ks qs = subst (λ z. owed_next base c b ks qs z ≡ qs) (sym w.1) (go (same_start c b c b))
    where
      go : (z : Bool) → cond z (qs ++ pairs_of (filter (is_one_of c b []) ks)) qs ≡ qs
      go true = ap (λ os. qs ++ pairs_of os) (none-of c b ks) ∙ append-nil qs
      go false = refl

  -- What it covers behind such an entry it covers before it.
  covers-own : (h : History) (x : E) → Passes x → (d f n : ℕ) → Covers base (h ++ x ∷ []) e d f n → Covers base h e d f n
  covers-own h x o d f n v =
      let w = one-start c b d f (is-true (same_start d f c b) v.own) in
      subst (λ i. Covers base h e i f n) (sym w.0) (subst (λ i. Covers base h e c i n) (sym w.1)
      (at-own (subst (λ i. Covers base (h ++ x ∷ []) e c i n) w.1 (subst (λ i. Covers base (h ++ x ∷ []) e i f n) w.0 v))))
    where
      is-true : (z : Bool) → T z → z ≡ true
      is-true true t = refl
      is-true false t = absurd t

      rejects : (q : Op → Bool) (k : Op) → of_start c b k ≡ false → (of_start c b k && q k) ≡ false
      rejects q k y = ap (λ z. z && q k) y

      at-own : Covers base (h ++ x ∷ []) e c b n → Covers base h e c b n
      at-own k = record {
        own = k.own;
        closed_in =
            subst (λ ns. InClosure (of_issue c b (issued base h)) (λ m. member m ns) n) (asks-bare base h (h ++ x ∷ []) p c b l g cl a bare.unshown (issues-own h x o (λ j. of_start c b j && nat_le j.place g) (rejects (λ j. nat_le j.place g))))
            (subst (λ is. InClosure is (λ m. member m (asks base (h ++ x ∷ []) e)) n) (ap (map (λ j. (j.number, j.update))) (issues-own h x o (of_start c b) (λ j y. y))) k.closed_in);
        not_lost = subst (λ z. T (not z)) (loses-own h x o n) k.not_lost;
      }

  uncovered-own : (h : History) (x : E) → Passes x → (d f : ℕ) (ms : List ℕ) → Uncovered base d f ms h e → Uncovered base d f ms (h ++ x ∷ []) e
  uncovered-own h x o d f [] u = tt
  uncovered-own h x o d f (m ∷ ms) u = ((λ v. u.0 (covers-own h x o d f m v)), uncovered-own h x o d f ms u.1)

  -- One entry.
  module _ (h : History) (x : E) (o : Passes x) where
    abbrev before : History
    before = (h ++ e ∷ []) ++ x ∷ []

    abbrev behind : History
    behind = (h ++ x ∷ []) ++ e ∷ []

    keeps-first : kept base behind ≡ kept base before
    keeps-first =
        (level-behind (h ++ x ∷ [])).keeps ∙ kept-step base h x ∙ ap (λ ks. kept_next base ks x) (sym (level-behind h).keeps) ∙ sym (kept-step base (h ++ e ∷ []) x)

    issues-first : issued base behind ≡ issued base before
    issues-first =
        (level-behind (h ++ x ∷ [])).issues ∙ issued-step base h x ∙ ap (λ is. is ++ issued_by base (kept base h) x) (sym (level-behind h).issues)
        ∙ ap (λ ks. issued base (h ++ e ∷ []) ++ issued_by base ks x) (sym (level-behind h).keeps) ∙ sym (issued-step base (h ++ e ∷ []) x)

    loses-first : (d f n : ℕ) → is_lost d f n behind ≡ is_lost d f n before
    loses-first d f n =
        (level-behind (h ++ x ∷ [])).loses d f n ∙ is_lost-append d f n h (x ∷ []) ∙ ap (λ z. z || is_lost d f n (x ∷ [])) (sym ((level-behind h).loses d f n)) ∙ sym (is_lost-append d f n (h ++ e ∷ []) (x ∷ []))

    owes-first : (d f : ℕ) → owed base behind d f ≡ owed base before d f
    owes-first d f = go (same_start d f c b) refl
      where
        other : same_start d f c b ≡ false → owed base behind d f ≡ owed base before d f
        other q =
            owes-other (h ++ x ∷ []) d f q ∙ owed-step base h x d f ∙ ap (λ qs. owed_next base d f (kept base h) qs x) (sym (owes-other h d f q))
            ∙ ap (λ ks. owed_next base d f ks (owed base (h ++ e ∷ []) d f) x) (sym (level-behind h).keeps) ∙ sym (owed-step base (h ++ e ∷ []) x d f)

        -- what the call leaves of these debts
        left : List Op → Owed → Owed
        left ks qs = cond (same_start c b c b) (filter (λ q. not (meets (outcome base ks p cl) cl q)) qs) qs

        own : owed base behind c b ≡ owed base before c b
        own =
            owed-step base (h ++ x ∷ []) e c b
            ∙ ap (left (kept base (h ++ x ∷ []))) (owed-step base h x c b ∙ owes-own h x o (kept base h) (owed base h c b))
            ∙ ap (λ z. cond (same_start c b c b) (filter (λ q. not (meets z cl q)) (owed base h c b)) (owed base h c b)) (out-same (kept base (h ++ x ∷ [])) (kept base h))
            ∙ sym (owed-step base h e c b)
            ∙ sym (owes-own (h ++ e ∷ []) x o (kept base (h ++ e ∷ [])) (owed base (h ++ e ∷ []) c b))
            ∙ sym (owed-step base (h ++ e ∷ []) x c b)

        go : (z : Bool) → same_start d f c b ≡ z → owed base behind d f ≡ owed base before d f
        go false q = other q
        go true q =
            let w = one-start c b d f q in
            subst (λ i. owed base behind i f ≡ owed base before i f) (sym w.0) (subst (λ i. owed base behind c i ≡ owed base before c i) (sym w.1) own)

    counts-first : (d f : ℕ) → count d f behind ≡ count d f before
    counts-first d f = omega (arith, counts-behind (h ++ x ∷ []) d f, count-step d f h x, count-step d f (h ++ e ∷ []) x, counts-behind h d f)

    pub moved-first : IsMoved base before behind
    moved-first = record {
      alike = record { level = record { keeps = keeps-first; issues = issues-first; loses = loses-first }; owes = owes-first; counts = counts-first };
      uncovered = λ d f ms t.
          let front = throughout-front (Uncovered base d f ms) [] (h ++ e ∷ []) (x ∷ []) t in
          throughout-append (Uncovered base d f ms) [] (h ++ x ∷ []) (e ∷ [])
          (throughout-append (Uncovered base d f ms) [] h (x ∷ []) (throughout-front (Uncovered base d f ms) [] h (e ∷ []) front)
          (uncovered-level base (h ++ e ∷ []) h (level-back h) x d f ms (throughout-back (Uncovered base d f ms) [] (h ++ e ∷ []) (x ∷ []) t).0, tt))
          (uncovered-own h x o d f ms (throughout-back (Uncovered base d f ms) [] h (e ∷ []) front).0, tt);
      untouched = λ d f ms t.
          let front = throughout-front (Untouched base d f ms) [] (h ++ e ∷ []) (x ∷ []) t in
          throughout-append (Untouched base d f ms) [] (h ++ x ∷ []) (e ∷ [])
          (throughout-append (Untouched base d f ms) [] h (x ∷ []) (throughout-front (Untouched base d f ms) [] h (e ∷ []) front)
          (untouched-level base (h ++ e ∷ []) h (level-back h).keeps x d f ms (throughout-back (Untouched base d f ms) [] (h ++ e ∷ []) (x ∷ []) t).0, tt))
          (leaves-all (not (not (d == c))) (filter (is_one_of d f ms) (kept base (h ++ x ∷ []))) (outcome base (kept base (h ++ x ∷ [])) p cl).touched (touched-none (kept base (h ++ x ∷ []))), tt);
    }

    -- Each is legal in the other order.

    call-behind : (most : ℕ) → IsCall base most h c b p cl a None → IsCall base most (h ++ x ∷ []) c b p cl a None
    call-behind most t = record {
      number = tt;
      report = subst (λ ns. IsReported ns a) (sym same) t.report;
      room = subst (λ z. IsFull most z a) (out-same (kept base h) (kept base (h ++ x ∷ []))) t.room;
      reply = subst (λ z. IsReply z a None) (out-same (kept base h) (kept base (h ++ x ∷ []))) t.reply;
    }
      where
        same : due base (h ++ x ∷ []) c b p cl ≡ due base h c b p cl
        same =
            ap (λ z. distinct_numbers (filter (meets z cl) (owed base (h ++ x ∷ []) c b))) (out-same (kept base (h ++ x ∷ [])) (kept base h))
            ∙ ap (λ qs. distinct_numbers (filter (meets (outcome base (kept base h) p cl) cl) qs)) (owed-step base h x c b ∙ owes-own h x o (kept base h) (owed base h c b))

  -- Behind all of these.

  pub moved-behind : (h xs : History) → Each Passes xs → IsMoved base (h ++ e ∷ xs) ((h ++ xs) ++ e ∷ [])
  moved-behind h [] o = subst (λ z. IsMoved base (h ++ e ∷ []) (z ++ e ∷ [])) (sym (append-nil h)) (moved-none base (h ++ e ∷ []))
  moved-behind h (x ∷ xs) o =
      moved-on base (h ++ e ∷ x ∷ xs) (h ++ x ∷ e ∷ xs) ((h ++ x ∷ xs) ++ e ∷ []) swap
      (subst (λ z. IsMoved base z ((h ++ x ∷ xs) ++ e ∷ [])) (append_assoc h (x ∷ []) (e ∷ xs))
      (subst (λ z. IsMoved base ((h ++ x ∷ []) ++ e ∷ xs) (z ++ e ∷ [])) (append_assoc h (x ∷ []) xs) (moved-behind (h ++ x ∷ []) xs o.1)))
    where
      swap : IsMoved base (h ++ e ∷ x ∷ xs) (h ++ x ∷ e ∷ xs)
      swap =
          subst (λ z. IsMoved base z (h ++ x ∷ e ∷ xs)) (append_assoc (h ++ e ∷ []) (x ∷ []) xs ∙ append_assoc h (e ∷ []) (x ∷ xs))
          (subst (IsMoved base (((h ++ e ∷ []) ++ x ∷ []) ++ xs)) (append_assoc (h ++ x ∷ []) (e ∷ []) xs ∙ append_assoc h (x ∷ []) (e ∷ xs))
          (moved-all base ((h ++ e ∷ []) ++ x ∷ []) ((h ++ x ∷ []) ++ e ∷ []) xs (moved-first h x o.0)))

  -- so what is legal with the call before them is so with it behind them
  pub legal-behind : (most : ℕ) (h xs : History) → Each Passes xs → Throughout (IsLegalNext base most) h (e ∷ xs) → IsLegalNext base most (h ++ xs) e
  legal-behind most h [] o t = subst (λ z. IsLegalNext base most z e) (sym (append-nil h)) t.0
  legal-behind most h (x ∷ xs) o t =
      subst (λ z. IsLegalNext base most z e) (append_assoc h (x ∷ []) xs)
      (legal-behind most (h ++ x ∷ []) xs o.1 (call-behind h x o.0 most t.0, later ((h ++ e ∷ []) ++ x ∷ []) ((h ++ x ∷ []) ++ e ∷ []) (moved-first h x o.0) xs t.1.1))
    where
      later : (past now : History) → IsMoved base past now → (ys : History) → Throughout (IsLegalNext base most) past ys → Throughout (IsLegalNext base most) now ys
      later past now m [] u = tt
      later past now m (y ∷ ys) u = (legal-moved base most past now m y u.0, later (past ++ y ∷ []) (now ++ y ∷ []) (Rattle.ec_history.proofs.OfLaws.OfPrinted.Moved.moved-next base past now y m) ys u.1)
