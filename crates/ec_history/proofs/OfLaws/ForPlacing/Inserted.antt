-- A call of a start before the loss of that start: the history stays legal.
use Rattle.std.proofs.Common.{◌≡◌, refl, sym, ap, subst, ◌∙◌, arith, ℕ, T, Bool, true, false, ◌==◌, ◌&&◌, ◌||◌, cond, List, [], ◌∷◌, ◌++◌, length, Option, is_some, append-nil}
use Rattle.std.proofs.lemmas.Bool.{or_parts, and_parts, cond-false, eqb-true, true≢false}
use Rattle.std.specs.List.{filter, list_any, list_all}
use Rattle.std.proofs.lemmas.List.Elements.{filter-append}
use Rattle.ec_volume.specs.Update.{listed}
use Rattle.ec_volume.specs.Volume.{Fits}
use Rattle.ec_plain.specs.declared.call.Call.{Call}
use Rattle.ec_history.specs.History.{Base, History, Throughout, Each, updates, same_start, of_start, is_one_of, kept, issued, issued_by, is_entry_of, is_lost, Covers, owed, owed_next, without}
use Rattle.ec_history.specs.Legal.{IsLegal, IsLegalNext, IsCall, leaves, is_closed}
use Rattle.ec_history.specs.declared.entry.Answer.{Answer}
use Rattle.ec_history.specs.declared.entry.Entry.{Entry}
use Rattle.ec_history.specs.declared.entry.Entry.TheVariants as entry
use Rattle.ec_history.proofs.OfLaws.ForPlacing.More.{kept-step, issued-step, owed-step, is_lost-append, count-step}
use Rattle.ec_history.proofs.OfLaws.ForPlacing.Cuts.{throughout-append, throughout-front, throughout-back, legal-append, legal-step, legal-split}
use Rattle.ec_history.proofs.OfLaws.ForPlacing.Numbers.{count}
use Rattle.ec_history.proofs.OfLaws.ForPlacing.LateLoss.{filter-none, without-new, new-own, late-new, old-kept, late-lawful}
use Rattle.ec_history.proofs.OfLaws.ForPlacing.Beside.{Other, IsBeside, beside-next, covers-same, call-same}
use Rattle.ec_history.proofs.OfLaws.ForPlacing.BasesAlike.{each-map}

-- two starts that differ, either way round
other_way : (c b d f : ℕ) → same_start c b d f ≡ false → same_start d f c b ≡ false
other_way c b d f n = go (same_start d f c b) refl
  where
    go : (x : Bool) → same_start d f c b ≡ x → x ≡ false
    go false e = refl
    go true e =
        let p = and_parts (d == c) (f == b) e in
        absurd (true≢false (sym (subst (λ m. same_start m b d f ≡ true) (eqb-true d c p.0) (subst (λ m. same_start d m d f ≡ true) (eqb-true f b p.1) (both_same d f))) ∙ n))
      where
        both_same : (m n' : ℕ) → same_start m n' m n' ≡ true
        both_same m n' = grind arith

-- a loss of another start names nothing of this one
loss_of_other : (x y m n : Bool) → x ≡ false → ((y || false) || ((x && m) || false)) ≡ (y || ((x && n) || false))
loss_of_other x true m n e = refl
loss_of_other true false m n e = absurd (true≢false e)
loss_of_other false false m n e = refl

module _ (base : Base) (most c b p l g : ℕ) (cl : Call) (a : Answer) (op : Option ℕ) (q : ℕ) (ns : List ℕ) (h : History) (legal : IsLegal base most h) (call : IsCall base most h c b p cl a op) where
  abbrev pub late : ℕ × Entry
  late = (p, entry.Call c b l g cl a op)

  abbrev pub old : ℕ × Entry
  old = (q, entry.Loss c b ns)

  abbrev pub new : ℕ × Entry
  new = (q, entry.Loss c b (ns ++ listed op))

  abbrev Uncovered : ℕ → ℕ → List ℕ → History → ℕ × Entry → Type 0
  Uncovered d f ms past e = Each (λ n. ¬ (Covers base past e d f n)) ms

  abbrev Untouched : ℕ → ℕ → List ℕ → History → ℕ × Entry → Type 0
  Untouched d f ms past e = T (leaves base (kept base past) d (filter (is_one_of d f ms) (kept base past)) e)

  -- without the call, and with it
  pub record IsInserted (past later : History) : Type 0 where
    pub beside : IsBeside base c b past later
    pub uncovered : (d f : ℕ) (ms : List ℕ) → Other base c b d f → Throughout (Uncovered d f ms) [] past → Throughout (Uncovered d f ms) [] later
    pub untouched : (d f : ℕ) (ms : List ℕ) → Untouched d f ms h late → Throughout (Untouched d f ms) [] past → Throughout (Untouched d f ms) [] later

  pub kept-both : kept base ((h ++ late ∷ []) ++ new ∷ []) ≡ kept base (h ++ old ∷ [])
  kept-both =
      kept-step base (h ++ late ∷ []) new
      ∙ ap (λ ks. without c b (ns ++ listed op) ks) (kept-step base h late)
      ∙ without-new c b (count c b h) (issued_by base (kept base h) late) ns (listed op) (late-new base most c b p l g cl a op ns h legal call) (kept base h) (old-kept base most c b p l g cl a op ns h legal call)
      ∙ sym (kept-step base h old)

  pub beside-first : IsBeside base c b (h ++ old ∷ []) ((h ++ late ∷ []) ++ new ∷ [])
  beside-first = record {
    keeps = kept-both;
    issues = λ r n.
        ap (filter r) (issued-step base (h ++ late ∷ []) new ∙ append-nil (issued base (h ++ late ∷ [])) ∙ issued-step base h late)
        ∙ filter-append r (issued base h) (issued_by base (kept base h) late)
        ∙ ap (λ x. filter r (issued base h) ++ x) (filter-none r (issued_by base (kept base h) late) (each-map (λ k. of_start c b k ≡ true) (λ k. r k ≡ false) n (issued_by base (kept base h) late) own))
        ∙ append-nil (filter r (issued base h))
        ∙ sym (ap (filter r) (issued-step base h old ∙ append-nil (issued base h)));
    loses = λ d f n o.
        is_lost-append d f n (h ++ late ∷ []) (new ∷ [])
        ∙ ap (λ x. x || is_lost d f n (new ∷ [])) (is_lost-append d f n h (late ∷ []))
        ∙ tests d f n o
        ∙ sym (is_lost-append d f n h (old ∷ []));
    owes = λ d f o.
        owed-step base (h ++ late ∷ []) new d f
        ∙ unmet d f o (owed base (h ++ late ∷ []) d f)
        ∙ owed-step base h late d f
        ∙ cond-false (same_start d f c b) _ (owed base h d f) (other_way c b d f o)
        ∙ sym (cond-false (same_start d f c b) _ (owed base h d f) (other_way c b d f o))
        ∙ sym (owed-step base h old d f);
    counts = λ d f o. omega (arith, count-step d f (h ++ late ∷ []) new, count-step d f h late, no_op d f o, count-step d f h old);
  }
    where
      own : Each (λ k. of_start c b k ≡ true) (issued_by base (kept base h) late)
      own = new-own c b (count c b h) (issued_by base (kept base h) late) ns (listed op) (late-new base most c b p l g cl a op ns h legal call)

      tests : (d f n : ℕ) → Other base c b d f → ((is_lost d f n h || false) || is_lost d f n (new ∷ [])) ≡ (is_lost d f n h || is_lost d f n (old ∷ []))
      tests d f n o = loss_of_other (same_start d f c b) (is_lost d f n h) _ _ (other_way c b d f o)

      unmet : (d f : ℕ) → Other base c b d f → (qs : List (ℕ × ℕ)) → owed_next base d f (kept base (h ++ late ∷ [])) qs new ≡ qs
      unmet d f o qs = cond-false (same_start d f c b) _ qs (other_way c b d f o)

      no_op : (d f : ℕ) → Other base c b d f → length {A = ℕ × Entry} (cond (same_start d f c b && is_some op) (late ∷ []) []) ≡ 0
      no_op d f o = ap (λ x. length {A = ℕ × Entry} (cond (x && is_some op) (late ∷ []) [])) (other_way c b d f o)

  -- another start's loss is not covered by entries of this one, and untouched by its loss
  inserted-first : IsInserted (h ++ old ∷ []) ((h ++ late ∷ []) ++ new ∷ [])
  inserted-first = record {
    beside = beside-first;
    uncovered = λ d f ms o t.
        throughout-append (Uncovered d f ms) [] (h ++ late ∷ []) (new ∷ [])
        (throughout-append (Uncovered d f ms) [] h (late ∷ []) (throughout-front (Uncovered d f ms) [] h (old ∷ []) t) (not_own d f h late (other_way c b d f o) ms, tt))
        (not_own d f (h ++ late ∷ []) new (other_way c b d f o) ms, tt);
    untouched = λ d f ms u t.
        throughout-append (Untouched d f ms) [] (h ++ late ∷ []) (new ∷ [])
        (throughout-append (Untouched d f ms) [] h (late ∷ []) (throughout-front (Untouched d f ms) [] h (old ∷ []) t) (u, tt)) (tt, tt);
  }
    where
      not_own : (d f : ℕ) (past : History) (e : ℕ × Entry) → is_entry_of d f e.1 ≡ false → (ms : List ℕ) → Uncovered d f ms past e
      not_own d f past e n [] = tt
      not_own d f past e n (m ∷ ms) = ((λ v. subst T n v.own), not_own d f past e n ms)

  inserted-next : (past later : History) (e : ℕ × Entry) → is_entry_of c b e.1 ≡ false → IsInserted past later → IsInserted (past ++ e ∷ []) (later ++ e ∷ [])
  inserted-next past later e n i = record {
    beside = beside-next base c b past later e i.beside;
    uncovered = λ d f ms o t.
        throughout-append (Uncovered d f ms) [] later (e ∷ []) (i.uncovered d f ms o (throughout-front (Uncovered d f ms) [] past (e ∷ []) t))
        (each-map (λ m. ¬ (Covers base past e d f m)) (λ m. ¬ (Covers base later e d f m)) (λ m k v. k (covers-same base c b past later i.beside e d f m n o v)) ms (throughout-back (Uncovered d f ms) [] past (e ∷ []) t).0, tt);
    untouched = λ d f ms u t.
        throughout-append (Untouched d f ms) [] later (e ∷ []) (i.untouched d f ms u (throughout-front (Untouched d f ms) [] past (e ∷ []) t))
        (subst (λ ks. T (leaves base ks d (filter (is_one_of d f ms) ks) e)) (sym i.beside.keeps) (throughout-back (Untouched d f ms) [] past (e ∷ []) t).0, tt);
  }

  -- the call touches no operand of what this loss of another clerk names
  abbrev pub IsLeft : ℕ × Entry → Type 0
  IsLeft x = (r d f : ℕ) (ms : List ℕ) → x ≡ (r, entry.Loss d f ms) → T (leaves base (kept base h) d (filter (is_one_of d f ms) (kept base h)) late)

  legal-same : (past later : History) (e : ℕ × Entry) → IsInserted past later → is_entry_of c b e.1 ≡ false → IsLeft e → IsLegalNext base most past e → IsLegalNext base most later e
  legal-same past later (r, entry.Call d f k s dl x o) i n u t = call-same base c b past later i.beside most d f r dl x o n t
  legal-same past later (r, entry.Loss d f ms) i n u t = record {
    kept_so_far = subst (λ ks. T (list_all (λ m. list_any (is_one_of d f (m ∷ [])) ks) ms)) (sym i.beside.keeps) t.kept_so_far;
    uncovered = i.uncovered d f ms n t.uncovered;
    untouched = i.untouched d f ms (u r d f ms refl) t.untouched;
    closed = subst (λ ks. T (is_closed (is_one_of d f ms) (filter (of_start d f) ks))) (sym i.beside.keeps) t.closed;
    fits = subst (λ ks. Fits base.volume (updates (without d f ms ks))) (sym i.beside.keeps) t.fits;
  }

  legal-behind : (past later h' : History) → IsInserted past later → list_any (λ e. is_entry_of c b e.1) h' ≡ false → Each IsLeft h' → Throughout (IsLegalNext base most) past h' → Throughout (IsLegalNext base most) later h'
  legal-behind past later [] i n u t = tt
  legal-behind past later (e ∷ h') i n u t =
      let k = or_parts (is_entry_of c b e.1) (list_any (λ e. is_entry_of c b e.1) h') n in
      (legal-same past later e i k.0 u.0 t.0, legal-behind (past ++ e ∷ []) (later ++ e ∷ []) h' (inserted-next past later e k.0 i) k.1 u.1 t.1)

-- the law
pub insertion : (base : Base) (most c b p l g q : ℕ) (cl : Call) (a : Answer) (op : Option ℕ) (ns : List ℕ) (h h' : History)
    → IsLegal base most (h ++ (q, entry.Loss c b ns) ∷ h')
    → IsCall base most h c b p cl a op
    → list_any (λ e. is_entry_of c b e.1) h' ≡ false
    → Each (λ n. ¬ (Covers base h (p, entry.Call c b l g cl a op) c b n)) ns
    → Each (λ x. (r d f : ℕ) (ms : List ℕ) → x ≡ (r, entry.Loss d f ms) → T (leaves base (kept base h) d (filter (is_one_of d f ms) (kept base h)) (p, entry.Call c b l g cl a op))) h'
    → IsLegal base most (h ++ (p, entry.Call c b l g cl a op) ∷ [] ++ (q, entry.Loss c b (ns ++ listed op)) ∷ h')
insertion base most c b p l g q cl a op ns h h' t call n v u =
    let parts = legal-split base most h ((q, entry.Loss c b ns) ∷ h') t in
    let lawful = late-lawful base most c b p l g cl a op ns h parts.0 call parts.1.0 v in
    let behind = legal-behind base most c b p l g cl a op q ns h parts.0 call (h ++ (q, entry.Loss c b ns) ∷ []) ((h ++ (p, entry.Call c b l g cl a op) ∷ []) ++ (q, entry.Loss c b (ns ++ listed op)) ∷ []) h'
    (inserted-first base most c b p l g cl a op q ns h parts.0 call) n u parts.1.1 in
    legal-append base most (h ++ (p, entry.Call c b l g cl a op) ∷ []) ((q, entry.Loss c b (ns ++ listed op)) ∷ h') (legal-step base most h (p, entry.Call c b l g cl a op) parts.0 call) (lawful, behind)
