-- What is carried of the starts, behind one more entry.
use Rattle.std.proofs.Common.{◌≡◌, refl, sym, ap, subst, ◌∙◌, arith, ◌<◌, ◌≤◌, ◌+◌, ℕ, Bool, true, false, not, ◌==◌, ◌&&◌, cond, map, List, [], ◌∷◌, ◌++◌, length, get_or, drop, suc, Option, Some, None, append-nil, add-one, drop-cons}
use Rattle.std.specs.Prelude.{is_some}
use Rattle.std.specs.List.{filter, find, position_or_len}
use Rattle.std.proofs.Math.ListN.{set}
use Rattle.std.proofs.lemmas.Bool.{and_parts, eqb-true, cond-true, cond-false}
use Rattle.std.proofs.lemmas.Bool.Decides.{nat_tests}
use Rattle.std.proofs.lemmas.List.Elements.{filter-append}
use Rattle.std.specs.Prelude.{slice_get}
use Rattle.std.proofs.lemmas.Option.{slice_get_read}
use Rattle.std.proofs.lemmas.List.Folds.{find-set, find_past, find_at}
use Rattle.std.proofs.lemmas.List.Sums.{passes_at_first, position_or_len_is}
use Rattle.std.proofs.lemmas.List.Sums.{prefix_len-le-length}
use Rattle.ec_volume.specs.declared.update.Update.{Update}
use Rattle.ec_plain.specs.declared.call.Call.{Call}
use Rattle.ec_plain.specs.declared.call.Outcome.{Outcome}
use Rattle.ec_history.specs.declared.entry.Answer.{Answer}
use Rattle.ec_history.specs.History.{Base, History, Op, Owed, meets, pairs_of, is_one_of, same_start, of_start, kept, issued, issued_by, owed, owed_next, outcome}
use Rattle.ec_history.specs.Legal.{is_op_of}
use Rattle.ec_history.specs.declared.entry.Entry.{Entry}
use Rattle.ec_history.specs.declared.entry.Entry.TheVariants as entry
use Rattle.ec_history.proofs.OfLaws.ForPlacing.More.{issued-step, owed-step, count-next}
use Rattle.ec_judge.specs.declared.carried.Start.{Start}
use Rattle.ec_judge.specs.Carried.{IsStart, IsUpward, issue_of, issues_in, is_start, count_of, owed_of, pending_of}
use Rattle.ec_pending.specs.Pending.{issues_of, is_in}

-- the clerk and the start of an entry
abbrev pub clerk_of : Entry → ℕ
clerk_of (entry.Call c b l g cl a op) = c
clerk_of (entry.Loss c b ns) = c

abbrev pub boot_of : Entry → ℕ
boot_of (entry.Call c b l g cl a op) = b
boot_of (entry.Loss c b ns) = b

-- Another start is as before.

other-count : (d f : ℕ) (e : ℕ × Entry) → same_start d f (clerk_of e.1) (boot_of e.1) ≡ false → is_op_of d f e ≡ false
other-count d f (p, entry.Call c b l g cl a op) n = ap (λ x. x && is_some op) n
other-count d f (p, entry.Loss c b ns) n = refl

other-owed : (base : Base) (ks : List Op) (qs : Owed) (d f : ℕ) (e : ℕ × Entry) → same_start d f (clerk_of e.1) (boot_of e.1) ≡ false → owed_next base d f ks qs e ≡ qs
other-owed base ks qs d f (p, entry.Call c b l g cl a op) n = cond-false (same_start d f c b) _ qs n
other-owed base ks qs d f (p, entry.Loss c b ns) n = cond-false (same_start d f c b) _ qs n

other-issued : (base : Base) (ks : List Op) (d f : ℕ) (e : ℕ × Entry) → same_start d f (clerk_of e.1) (boot_of e.1) ≡ false → filter (of_start d f) (issued_by base ks e) ≡ []
other-issued base ks d f (p, entry.Call c b l g cl a None) n = refl
other-issued base ks d f (p, entry.Loss c b ns) n = refl
other-issued base ks d f (p, entry.Call c b l g cl a (Some m)) n = go ((outcome base ks p cl).update)
  where
    go : (u : Option Update) → filter (of_start d f) (elim u [ None ↦ [] | Some w ↦ record { clerk = c; boot = b; number = m; place = p; update = w } ∷ [] ]) ≡ []
    go None = refl
    go (Some w) = ap (λ x. cond x (record { clerk = c; boot = b; number = m; place = p; update = w } ∷ []) []) n

pub other-start : (base : Base) (past : History) (e : ℕ × Entry) (d f : ℕ) (s : Option Start) → same_start d f (clerk_of e.1) (boot_of e.1) ≡ false → IsStart base past d f s → IsStart base (past ++ e ∷ []) d f s
other-start base past e d f s n h = record {
  count = h.count ∙ sym (count-next d f past e ∙ cond-false (is_op_of d f e) _ (length (filter (is_op_of d f) past)) (other-count d f e n));
  owed = h.owed ∙ sym (owed-step base past e d f ∙ other-owed base (kept base past) (owed base past d f) d f e n);
  pending = subst (λ is. pending_of s ≡ filter (λ i. is_in (pending_of s) i.number) is) (sym same-issues) h.pending;
  upward = subst (IsUpward (is_in (pending_of s))) (sym same-issues) h.upward;
}
  where
    same-issues : issues_in d f (issued base (past ++ e ∷ [])) ≡ issues_in d f (issued base past)
    same-issues = ap (map issue_of) (ap (filter (of_start d f)) (issued-step base past e) ∙ filter-append (of_start d f) (issued base past) (issued_by base (kept base past) e) ∙ ap (λ l. filter (of_start d f) (issued base past) ++ l) (other-issued base (kept base past) d f e n) ∙ append-nil _)

-- The entry's own start.

own-start : (c b : ℕ) → same_start c b c b ≡ true
own-start c b = grind (arith, nat_tests)

pub own-issued : (base : Base) (past : History) (p c b l g : ℕ) (cl : _) (a : _) (op : Option ℕ) (out : Outcome) → out ≡ outcome base (kept base past) p cl
    → issues_in c b (issued base (past ++ (p, entry.Call c b l g cl a op) ∷ [])) ≡ issues_in c b (issued base past) ++ issues_of p op out.update
own-issued base past p c b l g cl a op out same =
    ap (issues_in c b) (issued-step base past e)
    ∙ ap (map issue_of) (filter-append (of_start c b) (issued base past) (issued_by base (kept base past) e))
    ∙ map-append (filter (of_start c b) (issued base past)) (filter (of_start c b) (issued_by base (kept base past) e))
    ∙ ap (λ js. issues_in c b (issued base past) ++ js) (own op ∙ ap (λ o. issues_of p op o.update) (sym same))
  where
    e : ℕ × Entry
    e = (p, entry.Call c b l g cl a op)

    map-append : (xs ys : List Op) → map issue_of (xs ++ ys) ≡ map issue_of xs ++ map issue_of ys
    map-append [] ys = refl
    map-append (x ∷ xs) ys = ap (λ z. issue_of x ∷ z) (map-append xs ys)

    own : (x : Option ℕ) → issues_in c b (issued_by base (kept base past) (p, entry.Call c b l g cl a x)) ≡ issues_of p x (outcome base (kept base past) p cl).update
    own None = refl
    own (Some n) = go ((outcome base (kept base past) p cl).update)
      where
        go : (u : Option Update) → issues_in c b (elim u [ None ↦ [] | Some w ↦ record { clerk = c; boot = b; number = n; place = p; update = w } ∷ [] ]) ≡ issues_of p (Some n) u
        go None = refl
        go (Some w) = ap (λ x. map issue_of (cond x (record { clerk = c; boot = b; number = n; place = p; update = w } ∷ []) [])) (own-start c b)

-- a loss issues nothing
pub lost-issued : (base : Base) (past : History) (p c b d f : ℕ) (ns : List ℕ) → issues_in d f (issued base (past ++ (p, entry.Loss c b ns) ∷ [])) ≡ issues_in d f (issued base past)
lost-issued base past p c b d f ns = ap (issues_in d f) (issued-step base past (p, entry.Loss c b ns) ∙ append-nil (issued base past))

pub own-count : (past : History) (p c b l g : ℕ) (cl : _) (a : _) (op : Option ℕ) → length (filter (is_op_of c b) (past ++ (p, entry.Call c b l g cl a op) ∷ [])) ≡ cond (is_some op) (length (filter (is_op_of c b) past) + 1) (length (filter (is_op_of c b) past))
own-count past p c b l g cl a op =
    count-next c b past (p, entry.Call c b l g cl a op) ∙ ap (λ x. cond (x && is_some op) (length (filter (is_op_of c b) past) + 1) (length (filter (is_op_of c b) past))) (own-start c b)

pub own-met : (base : Base) (past : History) (p c b l g : ℕ) (cl : Call) (a : Answer) (op : Option ℕ) → filter (λ q. not (meets (outcome base (kept base past) p cl) cl q)) (owed base past c b) ≡ owed base (past ++ (p, entry.Call c b l g cl a op) ∷ []) c b
own-met base past p c b l g cl a op = sym (owed-step base past (p, entry.Call c b l g cl a op) c b ∙ cond-true (same_start c b c b) _ (owed base past c b) (own-start c b))

pub own-lost : (base : Base) (past : History) (p c b : ℕ) (ns : List ℕ) → owed base past c b ++ pairs_of (filter (is_one_of c b ns) (kept base past)) ≡ owed base (past ++ (p, entry.Loss c b ns) ∷ []) c b
own-lost base past p c b ns = sym (owed-step base past (p, entry.Loss c b ns) c b ∙ cond-true (same_start c b c b) _ (owed base past c b) (own-start c b))

-- All starts.

pub starts-next : (base : Base) (past : History) (e : ℕ × Entry) (ss : List Start) (i : ℕ) (s : Start) → ((c b : ℕ) → IsStart base past c b (find (is_start c b) ss)) → i ≡ position_or_len (is_start (clerk_of e.1) (boot_of e.1)) ss → i < length ss
    → s.clerk ≡ clerk_of e.1 → s.boot ≡ boot_of e.1 → IsStart base (past ++ e ∷ []) (clerk_of e.1) (boot_of e.1) (Some s) → (c b : ℕ) → IsStart base (past ++ e ∷ []) c b (find (is_start c b) (set ss i s))
starts-next base past e ss i s h at within sc sb own c b = go (same_start c b (clerk_of e.1) (boot_of e.1)) refl
  where
    d : ℕ
    d = clerk_of e.1

    f : ℕ
    f = boot_of e.1

    mine : is_start d f s ≡ true
    mine = ap (λ x. (d == x) && (f == s.boot)) sc ∙ ap (λ x. (d == d) && (f == x)) sb ∙ own-start d f

    old : is_start d f (get_or ss i s) ≡ true
    old = ap (λ j. is_start d f (get_or ss j s)) at ∙ passes_at_first (is_start d f) ss s (subst (λ j. j < length ss) at within)

    go : (x : Bool) → same_start c b (clerk_of e.1) (boot_of e.1) ≡ x → IsStart base (past ++ e ∷ []) c b (find (is_start c b) (set ss i s))
    go true y =
        let parts = and_parts (c == d) (b == f) y in
        let here : IsStart base (past ++ e ∷ []) d f (find (is_start d f) (set ss i s)) = subst (IsStart base (past ++ e ∷ []) d f) (sym (find-set (is_start d f) ss i s at within mine)) own in
        subst (λ x. IsStart base (past ++ e ∷ []) x b (find (is_start x b) (set ss i s))) (sym (eqb-true c d parts.0)) (subst (λ x. IsStart base (past ++ e ∷ []) d x (find (is_start d x) (set ss i s))) (sym (eqb-true b f parts.1)) here)
    go false y =
        let apart : (t : Start) → is_start d f t ≡ true → is_start c b t ≡ false = λ t m.
        let parts = and_parts (d == t.clerk) (f == t.boot) m in
        ap (λ x. (c == x) && (b == t.boot)) (sym (eqb-true d t.clerk parts.0)) ∙ ap (λ x. (c == d) && (b == x)) (sym (eqb-true f t.boot parts.1)) ∙ y in
        subst (IsStart base (past ++ e ∷ []) c b) (sym (find_past (is_start c b) ss i s s (apart (get_or ss i s) old) (apart s mine))) (other-start base past e c b (find (is_start c b) ss) y (h c b))

-- Where none is found.
pub none-passes : (q : Start → Bool) (ss : List Start) → ((k : ℕ) (d : Start) → k < length ss → q (get_or ss k d) ≡ false) → position_or_len q ss ≡ length ss
none-passes q [] h = refl
none-passes q (s ∷ ss) h = position_or_len_is q (s ∷ ss) (length (s ∷ ss)) s (omega arith) (λ k l. h k s l) (λ l. absurd (omega (arith, l)))

-- what is found at the index
pub found-at : (q : Start → Bool) (ss : List Start) (i : ℕ) (s : Start) → i ≡ position_or_len q ss → i < length ss → s ≡ get_or ss i s → find q ss ≡ Some s
found-at q ss i s at within is = find_at q ss ∙ ap (slice_get ss) (sym at) ∙ slice_get_read ss (length ss) i s refl within is

pub start-same : (base : Base) (past : History) (c b : ℕ) (x y : Option Start) → IsStart base past c b x → count_of y ≡ count_of x → owed_of y ≡ owed_of x → pending_of y ≡ pending_of x → IsStart base past c b y
start-same base past c b x y h n o i = record { count = n ∙ h.count; owed = o ∙ h.owed; pending = subst (λ is. is ≡ filter (λ i. is_in is i.number) (issues_in c b (issued base past))) (sym i) h.pending; upward = subst (λ is. IsUpward (is_in is) (issues_in c b (issued base past))) (sym i) h.upward }

-- A start that has done nothing is as none.
pub found-more : {X : Type 0} (g : Option Start → X) (q : Start → Bool) (ss : List Start) (s : Start) → g (Some s) ≡ g None → g (find q (ss ++ s ∷ [])) ≡ g (find q ss)
found-more g q [] s e = go (q s)
  where
    go : (x : Bool) → g (cond x (Some s) None) ≡ g None
    go true = e
    go false = refl
found-more g q (t ∷ ss) s e = go (q t) (found-more g q ss s e)
  where
    go : (x : Bool) → g (find q (ss ++ s ∷ [])) ≡ g (find q ss) → g (cond x (Some t) (find q (ss ++ s ∷ []))) ≡ g (cond x (Some t) (find q ss))
    go true r = refl
    go false r = r

pub place-within : (q : Start → Bool) (ss : List Start) (i : ℕ) → i ≡ position_or_len q ss → (i ≡ length ss → ⊥) → i < length ss
place-within q ss i e n =
    let up : position_or_len q ss ≤ length ss = prefix_len-le-length (λ s. not (q s)) ss in
    omega (arith, up, e, n)

-- One start more is looked at.
module _ (q : Start → Bool) (ss : List Start) (i : ℕ) (s : Start) (within : i < length ss) (is : s ≡ get_or ss i s) where
  back-more : drop i ss ≡ s ∷ drop (i + 1) ss
  back-more = drop-cons ss i s within ∙ ap (λ x. x ∷ drop (suc i) ss) (sym is) ∙ ap (λ n. s ∷ drop n ss) (sym (add-one i))

  pub found-not : q s ≡ false → find q (drop i ss) ≡ find q (drop (i + 1) ss)
  found-not e = ap (find q) back-more ∙ cond-false (q s) (Some s) (find q (drop (i + 1) ss)) e

  pub found-here : q s ≡ true → find q (drop i ss) ≡ Some s
  found-here e = ap (find q) back-more ∙ cond-true (q s) (Some s) (find q (drop (i + 1) ss)) e

-- What is pending where one start is changed.
pub pending-set : (c b : ℕ) (ss : List Start) (i : ℕ) (s : Start) → i ≡ position_or_len (is_start c b) ss → i < length ss → s.clerk ≡ c → s.boot ≡ b
    → (d f : ℕ) → pending_of (find (is_start d f) (set ss i s)) ≡ cond (same_start c b d f) s.pending.1 (pending_of (find (is_start d f) ss))
pending-set c b ss i s at within sc sb d f = go (same_start c b d f) refl
  where
    mine : is_start c b s ≡ true
    mine = ap (λ x. (c == x) && (b == s.boot)) sc ∙ ap (λ x. (c == c) && (b == x)) sb ∙ own-start c b

    old : is_start c b (get_or ss i s) ≡ true
    old = ap (λ j. is_start c b (get_or ss j s)) at ∙ passes_at_first (is_start c b) ss s (subst (λ j. j < length ss) at within)

    flip : (x y : ℕ) → (x == y) ≡ (y == x)
    flip x y = grind (arith, nat_tests)

    go : (x : Bool) → same_start c b d f ≡ x → pending_of (find (is_start d f) (set ss i s)) ≡ cond x s.pending.1 (pending_of (find (is_start d f) ss))
    go true y =
        let parts = and_parts (c == d) (b == f) y in
        ap (λ x. pending_of (find (is_start x f) (set ss i s))) (sym (eqb-true c d parts.0)) ∙ ap (λ x. pending_of (find (is_start c x) (set ss i s))) (sym (eqb-true b f parts.1)) ∙ ap pending_of (find-set (is_start c b) ss i s at within mine)
    go false y =
        let apart : (t : Start) → is_start c b t ≡ true → is_start d f t ≡ false = λ t m.
        let parts = and_parts (c == t.clerk) (b == t.boot) m in
        ap (λ x. (d == x) && (f == t.boot)) (sym (eqb-true c t.clerk parts.0)) ∙ ap (λ x. (d == c) && (f == x)) (sym (eqb-true b t.boot parts.1)) ∙ ap (λ x. x && (f == b)) (flip d c) ∙ ap (λ x. (c == d) && x) (flip f b) ∙ y in
        ap pending_of (find_past (is_start d f) ss i s s (apart (get_or ss i s) old) (apart s mine))
