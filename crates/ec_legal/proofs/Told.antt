-- What lines give, by those up to a place where each loss is told.
use Rattle.std.proofs.Common.{◌≡◌, refl, sym, ap, subst, ◌∙◌, arith, inl, inr, ◌≤◌, ◌<◌, ◌+◌, ℕ, zero, suc, T, Bool, true, false, cond, List, [], ◌∷◌, ◌++◌, length, take, drop, get_or, Option, Some, None, append_assoc, append-nil}
use Rattle.std.specs.Prelude.{slice_get, is_some, is_none}
use Rattle.std.proofs.lemmas.Bool.{false≢true}
use Rattle.std.proofs.lemmas.List.{take-append-drop, take-append-le, take_all}
use Rattle.std.proofs.lemmas.Option.{get_or_from_slice_get, slice_get-get_or, slice_get_within}
use Rattle.ec_base.specs.Limits.{clerk_count}
use Rattle.ec_history.proofs.OfLaws.ForPlacing.More.{watch-step}
use Rattle.ec_history.proofs.OfLaws.ForPlacing.Watching as laws
use Rattle.ec_history.specs.declared.entry.Entry.TheVariants as entry
use Rattle.ec_history.specs.Placing.{watch, late, ops_in, owner, is_running, is_end_of, is_call_of, call_entry, line_entries}
use Rattle.ec_history.specs.declared.shown.Shown.{Shown}
use Rattle.ec_history.specs.declared.shown.Shown.TheVariants.{Answered, Ended}
use Rattle.ec_history.specs.declared.watch.Watch.{Watch}
use Rattle.ec_legal.specs.Ahead.{IsSettled, AreTold}
use Rattle.ec_legal.specs.Watches.{IsHeld}
use Rattle.ec_legal.proofs.Late.{to-laws, from-laws}
use Rattle.ec_base.specs.Options.{or_zero}
use Rattle.ec_lines.proofs.Indexed.{get-front}

untold-told : (u : Option (List ℕ)) → is_some u ≡ true → T (is_none u) → ⊥
untold-told (Some ns) e t = t
untold-told None e t = false≢true e

told-late : (c b : ℕ) (past a rest : List Shown) → IsHeld b (watch c past) → T (is_none (watch c (past ++ a)).untold) → late c past (a ++ rest) ≡ late c past a
told-late c b past [] rest h t = absurd (untold-told (watch c past).untold h.untold (subst (λ p. T (is_none (watch c p).untold)) (append-nil past) t))
told-late c b past (s ∷ a) rest h t =
    go (is_end_of c s) refl (λ held. told-late c b (past ++ s ∷ []) a rest held (subst (λ p. T (is_none (watch c p).untold)) (sym (append_assoc past (s ∷ []) a)) t))
  where
    go : (q : Bool) → is_end_of c s ≡ q
        → (IsHeld b (watch c (past ++ s ∷ [])) → late c (past ++ s ∷ []) (a ++ rest) ≡ late c (past ++ s ∷ []) a)
        → cond q [] (cond (is_call_of c s) (call_entry past s) [] ++ late c (past ++ s ∷ []) (a ++ rest)) ≡ cond q [] (cond (is_call_of c s) (call_entry past s) [] ++ late c (past ++ s ∷ []) a)
    go true e f = refl
    go false e f =
        ap (λ l. cond (is_call_of c s) (call_entry past s) [] ++ l) (f (subst (IsHeld b) (sym (watch-step c past s)) (from-laws b _ (laws.held-next c b (watch c past) s e (to-laws b _ h)))))

told-line : (past a rest : List Shown) (s : Shown) → ((c : ℕ) → c < clerk_count → T (is_none (watch c ((past ++ s ∷ []) ++ a)).untold)) → ((c : ℕ) (ns : List ℕ) → s ≡ Ended c ns → c < clerk_count)
    → line_entries past s (a ++ rest) ≡ line_entries past s a
told-line past a rest (Ended c ns) t l =
    ap (λ calls. calls ++ (length past + 1, entry.Loss c (or_zero (owner w)) (ns ++ ops_in calls)) ∷ []) (go (is_running w (owner w)) refl)
  where
    w : Watch
    w = watch c past

    go : (q : Bool) → is_running w (owner w) ≡ q → cond q (late c (past ++ Ended c ns ∷ []) (a ++ rest)) [] ≡ cond q (late c (past ++ Ended c ns ∷ []) a) []
    go true e =
        let held = subst (IsHeld w.starts) (sym (watch-step c past (Ended c ns))) (from-laws w.starts _ (laws.held-ended c w ns e)) in
        told-late c w.starts (past ++ Ended c ns ∷ []) a rest held (t c (l c ns refl))
    go false e = refl
told-line past a rest (Answered n c cl x op) t l = refl
told-line past a rest s t l = refl

-- Parts of a list up to a place.

pub front-of : (ss : List Shown) (i n : ℕ) → i ≤ n → take i (take n ss) ≡ take i ss
front-of ss zero n l = refl
front-of ss (suc i) zero l = absurd (omega (arith, l))
front-of [] (suc i) (suc n) l = refl
front-of (s ∷ ss) (suc i) (suc n) l = ap (λ ts. s ∷ ts) (front-of ss i n (omega (arith, l)))

rest-of : (ss : List Shown) (i n : ℕ) → i ≤ n → drop i (take n ss) ++ drop n ss ≡ drop i ss
rest-of ss zero n l = take-append-drop n ss
rest-of ss (suc i) zero l = absurd (omega (arith, l))
rest-of [] (suc i) (suc n) l = refl
rest-of (s ∷ ss) (suc i) (suc n) l = rest-of ss i n (omega (arith, l))

get-of : (ss : List Shown) (i n : ℕ) (d : Shown) → i < n → get_or (take n ss) i d ≡ get_or ss i d
get-of ss i zero d l = absurd (omega (arith, l))
get-of [] i (suc n) d l = refl
get-of (s ∷ ss) zero (suc n) d l = refl
get-of (s ∷ ss) (suc i) (suc n) d l = get-of ss i n d (omega (arith, l))

within-of : (ss : List Shown) (i n : ℕ) → i < n → i < length ss → i < length (take n ss)
within-of ss i zero l m = absurd (omega (arith, l))
within-of [] i (suc n) l m = absurd (omega (arith, m))
within-of (s ∷ ss) zero (suc n) l m = omega arith
within-of (s ∷ ss) (suc i) (suc n) l m = omega (arith, within-of ss i n (omega (arith, l)) (omega (arith, m)))

pub line-of : (ss : List Shown) (i n : ℕ) (s : Shown) → i < n → slice_get ss i ≡ Some s → slice_get (take n ss) i ≡ Some s
line-of ss i n s l g =
    slice_get-get_or (take n ss) i s (within-of ss i n l (slice_get_within ss i s g)) ∙ ap Some (get-of ss i n s l ∙ get_or_from_slice_get ss i s s g)

-- Lines with more behind them.

within-more : (ss more : List Shown) (i : ℕ) → i < length ss → i < length (ss ++ more)
within-more [] more i l = absurd (omega (arith, l))
within-more (s ∷ ss) more zero l = omega arith
within-more (s ∷ ss) more (suc i) l = omega (arith, within-more ss more i (omega (arith, l)))

pub line-more : (ss more : List Shown) (i : ℕ) (s : Shown) → slice_get ss i ≡ Some s → slice_get (ss ++ more) i ≡ Some s
line-more ss more i s g =
    let within = slice_get_within ss i s g in
    slice_get-get_or (ss ++ more) i s (within-more ss more i within) ∙ ap Some (get-front ss more i s within ∙ get_or_from_slice_get ss i s s g)

pub told-more : (ss more : List Shown) (n : ℕ) → n ≤ length ss → AreTold ss n → AreTold (ss ++ more) n
told-more ss more n l t c k = subst (λ p. T (is_none (watch c p).untold)) (sym (take-append-le n ss more l)) (t c k)

-- What a line gives, by those up to a place that is settled.
pub settled-line : (ss : List Shown) (i n : ℕ) (s : Shown) → IsSettled ss n → i < n → slice_get ss i ≡ Some s → ((c : ℕ) (ns : List ℕ) → s ≡ Ended c ns → c < clerk_count) → take (i + 1) ss ≡ take i ss ++ s ∷ []
    → line_entries (take i (take n ss)) s (drop (i + 1) (take n ss)) ≡ line_entries (take i ss) s (drop (i + 1) ss)
settled-line ss i n s (inl e) l g b f = ap (λ ts. line_entries (take i ts) s (drop (i + 1) ts)) (take_all n ss (omega (arith, e)))
settled-line ss i n s (inr t) l g b f =
    ap (λ p. line_entries p s a) (front-of ss i n (omega (arith, l))) ∙ sym (told-line (take i ss) a (drop n ss) s told b) ∙ ap (line_entries (take i ss) s) (rest-of ss (i + 1) n (omega (arith, l)))
  where
    a : List Shown
    a = drop (i + 1) (take n ss)

    whole : (take i ss ++ s ∷ []) ++ a ≡ take n ss
    whole = ap (λ p. p ++ a) (sym f ∙ sym (front-of ss (i + 1) n (omega (arith, l)))) ∙ take-append-drop (i + 1) (take n ss)

    told : (c : ℕ) → c < clerk_count → T (is_none (watch c ((take i ss ++ s ∷ []) ++ a)).untold)
    told c k = subst (λ p. T (is_none (watch c p).untold)) (sym whole) (t c k)

pub ended-clerk : (s : Shown) (a b : ℕ) (ns ms : List ℕ) → s ≡ Ended a ns → s ≡ Ended b ms → a ≡ b
ended-clerk s a b ns ms e f = same (sym e ∙ f)
  where
    same : Ended a ns ≡ Ended b ms → a ≡ b
    same p = cc
