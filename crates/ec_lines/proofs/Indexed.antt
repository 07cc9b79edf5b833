-- The call lines so far, by their numbers: what a look-up tells, and one more line.
use Rattle.std.proofs.Common.{◌≡◌, refl, sym, ap, subst, ◌∙◌, arith, inl, inr, ◌≤◌, ◌<◌, ◌+◌, ℕ, zero, suc, Bool, true, false, ◌==◌, cond, List, [], ◌∷◌, ◌++◌, length, get_or, Option, Some, None}
use Rattle.std.specs.Prelude.{slice_get, MatchBool, MatchOption}
use Rattle.std.specs.Bool.{OnTrue}
use Rattle.std.proofs.lemmas.Bool.{cond-true, cond-false, cases_eq, ne_eqb, true≢false}
use Rattle.std.proofs.lemmas.Option.{get_or_from_slice_get, slice_get-get_or, slice_get_within}
use Rattle.ec_plain.specs.declared.call.Call.{Call}
use Rattle.ec_history.specs.Placing.{Agrees, Unanswered, EachLine, unwatched, last_place, before_line, is_numbered}
use Rattle.ec_history.specs.declared.shown.Shown.{Shown}
use Rattle.ec_history.specs.declared.shown.Shown.TheVariants.{Waits, Answered}
use Rattle.ec_lines.specs.Faults.{HasShape}
use Rattle.ec_lines.specs.Index.{IsCallIndex, IsCalled, NumberIsNew, Renews, called_next, start_of, last_entry}
use Rattle.ec_lines.specs.declared.index.CallLines.{CallLines}
use Rattle.ec_lines.proofs.Starts.{start-rises, none-later}
use Rattle.ec_base.proofs.Numbers.{same-self}
use Rattle.ec_history.proofs.OfLaws.ForPlacing.Places.{one_longer}
use Rattle.ec_history.proofs.PlacingLemmas.{each-turn}

-- Each line.

pub each-push : (P : Shown → Type 0) (ss : List Shown) (s : Shown) → EachLine P ss → P s → EachLine P (ss ++ s ∷ [])
each-push P [] s h p = (p, tt)
each-push P (t ∷ ss) s h p = (h.0, each-push P ss s h.1 p)

each-front : (P : Shown → Type 0) (ss : List Shown) (s : Shown) → EachLine P (ss ++ s ∷ []) → EachLine P ss
each-front P [] s h = tt
each-front P (t ∷ ss) s h = (h.0, each-front P ss s h.1)

each-last : (P : Shown → Type 0) (ss : List Shown) (s : Shown) → EachLine P (ss ++ s ∷ []) → P s
each-last P [] s h = h.0
each-last P (t ∷ ss) s h = each-last P ss s h.1

each-get : (P : Shown → Type 0) (ss : List Shown) (i : ℕ) (d : Shown) → EachLine P ss → i < length ss → P (get_or ss i d)
each-get P [] i d h l = absurd (omega (arith, l))
each-get P (s ∷ ss) zero d h l = h.0
each-get P (s ∷ ss) (suc i) d h l = each-get P ss i d h.1 (omega (arith, l))

pub each-at : (P : Shown → Type 0) (ss : List Shown) (i : ℕ) (s : Shown) → EachLine P ss → slice_get ss i ≡ Some s → P s
each-at P ss i s h g = subst P (get_or_from_slice_get ss i s s g) (each-get P ss i s h (slice_get_within ss i s g))

-- Places.

pub get-front : (ss ts : List Shown) (i : ℕ) (d : Shown) → i < length ss → get_or (ss ++ ts) i d ≡ get_or ss i d
get-front [] ts i d l = absurd (omega (arith, l))
get-front (s ∷ ss) ts zero d l = refl
get-front (s ∷ ss) ts (suc i) d l = get-front ss ts i d (omega (arith, l))

get-last : (ss : List Shown) (s d : Shown) → get_or (ss ++ s ∷ []) (length ss) d ≡ s
get-last [] s d = refl
get-last (t ∷ ss) s d = get-last ss s d

at-front : (ss : List Shown) (s t : Shown) (i : ℕ) → slice_get ss i ≡ Some t → slice_get (ss ++ s ∷ []) i ≡ Some t
at-front ss s t i g =
    let within : i < length ss = slice_get_within ss i t g in
    let more : length (ss ++ s ∷ []) ≡ length ss + 1 = one_longer ss s in
    slice_get-get_or (ss ++ s ∷ []) i t (omega (arith, within, more)) ∙ ap Some (get-front ss (s ∷ []) i t within ∙ get_or_from_slice_get ss i t t g)

at-last : (ss : List Shown) (s : Shown) → slice_get (ss ++ s ∷ []) (length ss) ≡ Some s
at-last ss s = let more : length (ss ++ s ∷ []) ≡ length ss + 1 = one_longer ss s in slice_get-get_or (ss ++ s ∷ []) (length ss) s (omega (arith, more)) ∙ ap Some (get-last ss s s)

-- The lines before the first one of a number.

before-get : (n : ℕ) (ss ts : List Shown) (i : ℕ) (d : Shown) → i < length ss → is_numbered n (get_or ss i d) ≡ true → before_line n (ss ++ ts) ≡ before_line n ss
before-get n [] ts i d l e = absurd (omega (arith, l))
before-get n (s ∷ ss) ts zero d l e = cond-true (is_numbered n s) [] (s ∷ before_line n (ss ++ ts)) e ∙ sym (cond-true (is_numbered n s) [] (s ∷ before_line n ss) e)
before-get n (s ∷ ss) ts (suc i) d l e = ap (λ xs. cond (is_numbered n s) [] (s ∷ xs)) (before-get n ss ts i d (omega (arith, l)) e)

before-on : (n : ℕ) (ss ts : List Shown) (i : ℕ) (s : Shown) → slice_get ss i ≡ Some s → is_numbered n s ≡ true → before_line n (ss ++ ts) ≡ before_line n ss
before-on n ss ts i s g e = before-get n ss ts i s (slice_get_within ss i s g) (ap (is_numbered n) (get_or_from_slice_get ss i s s g) ∙ e)

before-new : (n : ℕ) (ss : List Shown) (s : Shown) → NumberIsNew n ss → is_numbered n s ≡ true → before_line n (ss ++ s ∷ []) ≡ ss
before-new n [] s h e = cond-true (is_numbered n s) [] (s ∷ []) e
before-new n (t ∷ ss) s h e = cond-false (is_numbered n t) [] (t ∷ before_line n (ss ++ s ∷ [])) h.0 ∙ ap (λ xs. t ∷ xs) (before-new n ss s h.1 e)

before-none : (n : ℕ) (ss : List Shown) → NumberIsNew n ss → before_line n ss ≡ ss
before-none n [] h = refl
before-none n (t ∷ ss) h = cond-false (is_numbered n t) [] (t ∷ before_line n ss) h.0 ∙ ap (λ xs. t ∷ xs) (before-none n ss h.1)

-- Lines of another number, and of this one.

off : (b : Bool) (X : Type 0) → b ≡ false → OnTrue b X
off b X e = subst (λ q. OnTrue q X) (sym e) tt

on : (b : Bool) (X : Type 0) → X → OnTrue b X
on true X x = x
on false X x = tt

agrees-off : (n c : ℕ) (cl : Call) (s : Shown) → is_numbered n s ≡ false → Agrees n c cl s
agrees-off n c cl (Waits k d dl) e = off (k == n) _ e
agrees-off n c cl (Answered k d dl a op) e = off (k == n) _ e
agrees-off n c cl s e = tt

unanswered-off : (n : ℕ) (s : Shown) → is_numbered n s ≡ false → Unanswered n s
unanswered-off n (Answered k d dl a op) e = e
unanswered-off n s e = tt

pub new-agrees : (n c : ℕ) (cl : Call) (ss : List Shown) → NumberIsNew n ss → EachLine (Agrees n c cl) ss
new-agrees n c cl ss h = each-turn (λ s. is_numbered n s ≡ false) (Agrees n c cl) (agrees-off n c cl) ss h

pub new-unanswered : (n : ℕ) (ss : List Shown) → NumberIsNew n ss → EachLine (Unanswered n) ss
new-unanswered n ss h = each-turn (λ s. is_numbered n s ≡ false) (Unanswered n) (unanswered-off n) ss h

-- a line of the number has one clerk and one call
one-call : (n c d : ℕ) (cl dl : Call) (s : Shown) → is_numbered n s ≡ true → Agrees n c cl s → Agrees n d dl s → (d ≡ c) × (dl ≡ cl)
one-call n c d cl dl (Waits k e el) own g h =
    let x = subst (λ b. OnTrue b ((e ≡ c) × (el ≡ cl))) own g in
    let y = subst (λ b. OnTrue b ((e ≡ d) × (el ≡ dl))) own h in (sym y.0 ∙ x.0, sym y.1 ∙ x.1)
one-call n c d cl dl (Answered k e el a op) own g h =
    let x = subst (λ b. OnTrue b ((e ≡ c) × (el ≡ cl))) own g in
    let y = subst (λ b. OnTrue b ((e ≡ d) × (el ≡ dl))) own h in (sym y.0 ∙ x.0, sym y.1 ∙ x.1)
one-call n c d cl dl s own g h = absurd (true≢false (sym own))

-- What a look-up tells.

own-agrees : (past : List Shown) (n : ℕ) (f : CallLines) → (h : IsCalled past n f) → Agrees n h.clerk h.call h.line
own-agrees past n f h = each-at (Agrees n h.clerk h.call) past f.first h.line h.agree h.at

pub called-agrees : (past : List Shown) (n c : ℕ) (cl : Call) (f : CallLines) (h : IsCalled past n f) → Agrees n c cl h.line → EachLine (Agrees n c cl) past
called-agrees past n c cl f h g =
    let same = one-call n c h.clerk cl h.call h.line h.own g (own-agrees past n f h) in
    subst (λ k. EachLine (Agrees n k cl) past) same.0 (subst (λ k. EachLine (Agrees n h.clerk k) past) same.1 h.agree)

-- the clerk of a call of this shape
same-clerk : (past : List Shown) (n c : ℕ) (cl : Call) (f : CallLines) (h : IsCalled past n f) → EachLine (Agrees n c cl) past → (h.clerk ≡ c) × (h.call ≡ cl)
same-clerk past n c cl f h g = one-call n c h.clerk cl h.call h.line h.own (each-at (Agrees n c cl) past f.first h.line g h.at) (own-agrees past n f h)

pub begun-known : (past : List Shown) (n c : ℕ) (cl : Call) (f : CallLines) (h : IsCalled past n f) → EachLine (Agrees n c cl) past
    → last_place c (start_of c past) unwatched 1 0 (before_line n past) ≡ cond (start_of c past == f.boot) f.begun 0
begun-known past n c cl f h g =
    let e = (same-clerk past n c cl f h g).0 in
    subst (λ k. last_place k (start_of k past) unwatched 1 0 (before_line n past) ≡ cond (start_of k past == f.boot) f.begun 0) e (h.begun (start_of h.clerk past) h.later)

pub begun-new : (past : List Shown) (n c : ℕ) → NumberIsNew n past → last_place c (start_of c past) unwatched 1 0 (before_line n past) ≡ last_entry c past
begun-new past n c h = ap (last_place c (start_of c past) unwatched 1 0) (before-none n past h)

-- One more line.

called-on : (past : List Shown) (n : ℕ) (f : CallLines) (s : Shown) (a : Bool) → (h : IsCalled past n f) → Agrees n h.clerk h.call s
    → MatchBool a (¬ (EachLine (Unanswered n) (past ++ s ∷ []))) (EachLine (Unanswered n) (past ++ s ∷ [])) → IsCalled (past ++ s ∷ []) n (record f { is_answered = a })
called-on past n f s a h g m = record {
  clerk = h.clerk;
  call = h.call;
  line = h.line;
  at = at-front past s h.line f.first h.at;
  own = h.own;
  agree = each-push (Agrees n h.clerk h.call) past s h.agree g;
  answered = m;
  later = let up : start_of h.clerk past ≤ start_of h.clerk (past ++ s ∷ []) = start-rises h.clerk past s in omega (arith, up, h.later);
  begun = λ b l. ap (last_place h.clerk b unwatched 1 0) (before-on n past (s ∷ []) f.first h.line h.at h.own) ∙ h.begun b l;
}

still-answered : (past : List Shown) (n : ℕ) (s : Shown) (a : Bool) → Unanswered n s → MatchBool a (¬ (EachLine (Unanswered n) past)) (EachLine (Unanswered n) past)
    → MatchBool a (¬ (EachLine (Unanswered n) (past ++ s ∷ []))) (EachLine (Unanswered n) (past ++ s ∷ []))
still-answered past n s true u m = λ e. m (each-front (Unanswered n) past s e)
still-answered past n s false u m = each-push (Unanswered n) past s m u

-- a line of another number
elsewhere : (past : List Shown) (n : ℕ) (s : Shown) (o : Option CallLines) → is_numbered n s ≡ false → MatchOption o (NumberIsNew n past) (IsCalled past n) → MatchOption o (NumberIsNew n (past ++ s ∷ [])) (IsCalled (past ++ s ∷ []) n)
elsewhere past n s None e m = each-push (λ t. is_numbered n t ≡ false) past s m e
elsewhere past n s (Some f) e m = called-on past n f s f.is_answered m (agrees-off n m.clerk m.call s e) (still-answered past n s f.is_answered (unanswered-off n s e) m.answered)

pub index-still : (g : ℕ → Option CallLines) (past : List Shown) (s : Shown) → ((n : ℕ) → is_numbered n s ≡ false) → IsCallIndex g past → IsCallIndex g (past ++ s ∷ [])
index-still g past s e h = λ n. elsewhere past n s (g n) (e n) (h n)

-- a line that is neither a call nor an answer
pub of-no-call : (s : Shown) → ((l c : ℕ) (cl : Call) → s ≡ Waits l c cl → ⊥) → ((l c : ℕ) (cl : Call) (a : _) (op : Option ℕ) → s ≡ Answered l c cl a op → ⊥) → (n : ℕ) → is_numbered n s ≡ false
of-no-call (Waits l c cl) f g n = absurd (f l c cl refl)
of-no-call (Answered l c cl a op) f g n = absurd (g l c cl a op refl)
of-no-call s f g n = refl

-- the first line of a number
called-first : (past : List Shown) (n c : ℕ) (cl : Call) (s : Shown) (a : Bool) → NumberIsNew n past → is_numbered n s ≡ true → Agrees n c cl s
    → MatchBool a (¬ (EachLine (Unanswered n) (past ++ s ∷ []))) (EachLine (Unanswered n) (past ++ s ∷ []))
    → IsCalled (past ++ s ∷ []) n (record { first = length past; boot = start_of c past; begun = last_entry c past; is_answered = a })
called-first past n c cl s a new own g m = record {
  clerk = c;
  call = cl;
  line = s;
  at = at-last past s;
  own = own;
  agree = each-push (Agrees n c cl) past s (new-agrees n c cl past new) g;
  answered = m;
  later = start-rises c past s;
  begun = λ b l. ap (last_place c b unwatched 1 0) (before-new n past s new own) ∙ at-start b l;
}
  where
    at-start : (b : ℕ) → start_of c past ≤ b → last_place c b unwatched 1 0 past ≡ cond (b == start_of c past) (last_entry c past) 0
    at-start b l = elim (cases_eq b (start_of c past)) [
      | inl e ↦ ap (λ k. last_place c k unwatched 1 0 past) e ∙ sym (cond-true (b == start_of c past) (last_entry c past) 0 (ap (λ k. k == start_of c past) e ∙ same-self (start_of c past)))
      | inr n ↦ none-later c b past (below b (start_of c past) l n) ∙ sym (cond-false (b == start_of c past) (last_entry c past) 0 (ne_eqb b (start_of c past) n))
    ]
      where
        below : (x y : ℕ) → y ≤ x → (x ≡ y → ⊥) → y < x
        below x y le n = grind (arith, le, n)

-- what is kept of the number, behind its first line or another
renewed : (past : List Shown) (n c : ℕ) (cl : Call) (s : Shown) (answers : Bool) (o : Option CallLines) → is_numbered n s ≡ true → Agrees n c cl s → EachLine (Agrees n c cl) past
    → ((a : Bool) → MatchBool a (¬ (EachLine (Unanswered n) past)) (EachLine (Unanswered n) past) → MatchBool (cond answers true a) (¬ (EachLine (Unanswered n) (past ++ s ∷ []))) (EachLine (Unanswered n) (past ++ s ∷ [])))
    → MatchOption o (NumberIsNew n past) (IsCalled past n) → IsCalled (past ++ s ∷ []) n (called_next o (length past) (start_of c past) (last_entry c past) answers)
renewed past n c cl s answers None own g each answered m = called-first past n c cl s answers m own g (subst (λ b. MatchBool b (¬ (EachLine (Unanswered n) (past ++ s ∷ []))) (EachLine (Unanswered n) (past ++ s ∷ []))) (or-false answers) (answered false (new-unanswered n past m)))
  where
    or-false : (b : Bool) → cond b true false ≡ b
    or-false true = refl
    or-false false = refl
renewed past n c cl s answers (Some f) own g each answered m =
    let same = same-clerk past n c cl f m each in
    called-on past n f s (cond answers true f.is_answered) m (subst (λ k. Agrees n k m.call s) (sym same.0) (subst (λ k. Agrees n c k s) (sym same.1) g)) (answered f.is_answered m.answered)

index-on : (g h : ℕ → Option CallLines) (past : List Shown) (n c : ℕ) (cl : Call) (s : Shown) (answers : Bool) → ((q : ℕ) → (n == q) ≡ false → is_numbered q s ≡ false) → is_numbered n s ≡ true → Agrees n c cl s → EachLine (Agrees n c cl) past
    → ((a : Bool) → MatchBool a (¬ (EachLine (Unanswered n) past)) (EachLine (Unanswered n) past) → MatchBool (cond answers true a) (¬ (EachLine (Unanswered n) (past ++ s ∷ []))) (EachLine (Unanswered n) (past ++ s ∷ [])))
    → Renews g h past n c answers → IsCallIndex g past → IsCallIndex h (past ++ s ∷ [])
index-on g h past n c cl s answers others own agrees each answered new i q = subst (λ o. MatchOption o (NumberIsNew q (past ++ s ∷ [])) (IsCalled (past ++ s ∷ []) q)) (sym (new q)) (elim (cases_eq n q) [
  | inl e ↦ subst (λ o. MatchOption o (NumberIsNew q (past ++ s ∷ [])) (IsCalled (past ++ s ∷ []) q)) (sym (cond-true (n == q) _ (g q) (ap (λ k. n == k) (sym e) ∙ same-self n)))
      (subst (λ k. IsCalled (past ++ s ∷ []) k (called_next (g n) (length past) (start_of c past) (last_entry c past) answers)) e (renewed past n c cl s answers (g n) own agrees each answered (i n)))
  | inr f ↦ subst (λ o. MatchOption o (NumberIsNew q (past ++ s ∷ [])) (IsCalled (past ++ s ∷ []) q)) (sym (cond-false (n == q) _ (g q) (ne_eqb n q f))) (elsewhere past q s (g q) (others q (ne_eqb n q f)) (i q))
])

pub index-waits : (g h : ℕ → Option CallLines) (past : List Shown) (n c : ℕ) (cl : Call) (s : Shown) → s ≡ Waits n c cl → HasShape past s → Renews g h past n c false → IsCallIndex g past → IsCallIndex h (past ++ s ∷ [])
index-waits g h past n c cl s e shape new i =
    subst (λ t. IsCallIndex h (past ++ t ∷ [])) (sym e)
    (index-on g h past n c cl (Waits n c cl) false (λ q f. f) (same-self n) (on (n == n) _ (refl, refl)) (subst (HasShape past) e shape) (λ a m. still-answered past n (Waits n c cl) a tt m) new i)

pub index-answered : (g h : ℕ → Option CallLines) (past : List Shown) (n c : ℕ) (cl : Call) (a : _) (op : Option ℕ) (s : Shown) → s ≡ Answered n c cl a op → HasShape past s → Renews g h past n c true → IsCallIndex g past → IsCallIndex h (past ++ s ∷ [])
index-answered g h past n c cl a op s e shape new i =
    subst (λ t. IsCallIndex h (past ++ t ∷ [])) (sym e)
    (index-on g h past n c cl (Answered n c cl a op) true (λ q f. f) (same-self n) (on (n == n) _ (refl, refl)) (subst (HasShape past) e shape).0
    (λ b m each. true≢false (sym (same-self n) ∙ each-last (Unanswered n) past (Answered n c cl a op) each)) new i)
