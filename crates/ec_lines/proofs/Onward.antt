-- One more line: of the last entries, of where calls began, and of what may follow.
use Rattle.std.proofs.Common.{◌≡◌, refl, sym, ap, subst, ◌∙◌, arith, inl, inr, ◌<◌, ◌+◌, ℕ, T, zero, suc, Bool, List, [], ◌∷◌, ◌++◌, length, take, drop, set, get_or, Some, None, append-nil, append_assoc, add-one, length-set, get_or-set_same, get_or-set_other}
use Rattle.std.specs.Prelude.{slice_get, is_none}
use Rattle.std.specs.List.{list_all}
use Rattle.ec_history.specs.declared.watch.Watch.{Watch}
use Rattle.std.proofs.lemmas.Bool.{cases_eq, ne_eqb}
use Rattle.std.proofs.lemmas.List.{take_more, take-append-drop}
use Rattle.std.proofs.lemmas.Option.{get_or_from_slice_get, slice_get-get_or, slice_get_within}
use Rattle.std.proofs.Math.Seq.{drop-cons}
use Rattle.ec_base.specs.Limits.{clerk_count}
use Rattle.ec_history.specs.Placing.{watch, gives_entry, MayFollow, ArePlaceable}
use Rattle.ec_history.specs.declared.rule.Rule.{Rule}
use Rattle.ec_history.specs.declared.shown.Shown.{Shown}
use Rattle.ec_history.specs.declared.shown.Shown.TheVariants.{Waits, Answered}
use Rattle.ec_watch.specs.Watches.{clerk_of, AreWatched}
use Rattle.ec_lines.specs.Faults.{HasShape, BreaksLine, IsFirstLine}
use Rattle.ec_lines.specs.Index.{AreLast, AreBegins, begins, last_entry, last_after, start_of}
use Rattle.ec_lines.proofs.Starts.{last-step, last-other, last-nobody}
use Rattle.ec_base.proofs.Bools.{first as left, right}
use Rattle.ec_base.proofs.Lists.{front-length}

pub front-at : (ss : List Shown) (i : ℕ) (s : Shown) → slice_get ss i ≡ Some s → take (i + 1) ss ≡ take i ss ++ s ∷ []
front-at ss i s g = take_more ss i s (slice_get_within ss i s g) ∙ ap (λ x. take i ss ++ x ∷ []) (get_or_from_slice_get ss i s s g)

pub rest-at : (ss : List Shown) (i : ℕ) (s : Shown) → slice_get ss i ≡ Some s → drop i ss ≡ s ∷ drop (i + 1) ss
rest-at ss i s g = drop-cons ss i s (slice_get_within ss i s g) ∙ ap (λ x. x ∷ drop (suc i) ss) (get_or_from_slice_get ss i s s g) ∙ ap (λ k. s ∷ drop k ss) (sym (add-one i))

-- The last entries.

pub last-at : (ls : List ℕ) (past : List Shown) (c v : ℕ) → AreLast ls past → c < clerk_count → slice_get ls c ≡ Some v → v ≡ last_entry c past
last-at ls past c v h l g = same v (last_entry c past) (sym g ∙ h.each c l)
  where
    same : (m n : ℕ) → Some m ≡ Some n → m ≡ n
    same m n p = cc

pub last-noted : (ls : List ℕ) (i c v : ℕ) (past : List Shown) (s : Shown) → i ≡ c → clerk_of s ≡ Some c → c < clerk_count
    → v ≡ last_after (start_of c past) (start_of c (past ++ s ∷ [])) (gives_entry c (start_of c past) (watch c past) s) (length past) (last_entry c past)
    → AreLast ls past → AreLast (set ls i v) (past ++ s ∷ [])
last-noted ls i c v past s e p l q h = subst (λ j. AreLast (set ls j v) (past ++ s ∷ [])) (sym e) record { count = longer; each = each }
  where
    here : c < length ls
    here = omega (arith, l, h.count)

    longer : length (set ls c v) ≡ clerk_count
    longer = length-set ls c v ∙ h.count

    each : (b : ℕ) → b < clerk_count → slice_get (set ls c v) b ≡ Some (last_entry b (past ++ s ∷ []))
    each b m =
        let within : b < length (set ls c v) = omega (arith, m, longer) in
        slice_get-get_or (set ls c v) b 0 within ∙ ap Some (elim (cases_eq b c) [
          | inl f ↦ subst (λ k. get_or (set ls c v) k 0 ≡ last_entry k (past ++ s ∷ [])) (sym f) (get_or-set_same ls c v 0 here ∙ q ∙ sym (last-step c past s))
          | inr f ↦ get_or-set_other ls c b v 0 f ∙ get_or_from_slice_get ls b (last_entry b past) 0 (h.each b m) ∙ sym (last-other b c past s p (ne_eqb b c f))
        ])

-- the value that is noted, by its parts
pub noted : (v b d a e n l m : ℕ) (g h : Bool) → v ≡ last_after b a g n l → b ≡ d → a ≡ e → g ≡ h → l ≡ m → v ≡ last_after d e h n m
noted v b d a e n l m g h q eb ea eg el =
    q ∙ ap (λ x. last_after x a g n l) eb ∙ ap (λ x. last_after d x g n l) ea ∙ ap (λ x. last_after d e x n l) eg ∙ ap (λ x. last_after d e h n x) el

pub last-unnoted : (ls : List ℕ) (past : List Shown) (s : Shown) → clerk_of s ≡ None → AreLast ls past → AreLast ls (past ++ s ∷ [])
last-unnoted ls past s p h = record { count = h.count; each = λ c l. h.each c l ∙ ap Some (sym (last-nobody c past s p)) }

-- Where calls began.

begins-end : (past ss : List Shown) (bs : List ℕ) (s : Shown) (b : ℕ) → AreBegins past ss bs → b ≡ begins (past ++ ss) s → AreBegins past (ss ++ s ∷ []) (bs ++ b ∷ [])
begins-end past [] bs s b h e = subst (λ xs. AreBegins past (s ∷ []) (xs ++ b ∷ [])) (sym h) (e ∙ ap (λ p. begins p s) (append-nil past), refl)
begins-end past (t ∷ ss) [] s b h e = absurd h
begins-end past (t ∷ ss) (x ∷ bs) s b h e = (h.0, begins-end (past ++ t ∷ []) ss bs s b h.1 (e ∙ ap (λ p. begins p s) (sym (append_assoc past (t ∷ []) ss))))

pub begins-step : (ss : List Shown) (bs : List ℕ) (i : ℕ) (s : Shown) (b : ℕ) → slice_get ss i ≡ Some s → AreBegins [] (take i ss) bs → b ≡ begins (take i ss) s → AreBegins [] (take (i + 1) ss) (bs ++ b ∷ [])
begins-step ss bs i s b g h e = subst (λ ts. AreBegins [] ts (bs ++ b ∷ [])) (sym (front-at ss i s g)) (begins-end [] (take i ss) bs s b h e)

begins-get : (past ss : List Shown) (bs : List ℕ) (i : ℕ) (d : Shown) → AreBegins past ss bs → i < length ss → (i < length bs) × (get_or bs i 0 ≡ begins (past ++ take i ss) (get_or ss i d))
begins-get past [] bs i d h l = absurd (omega (arith, l))
begins-get past (s ∷ ss) [] i d h l = absurd h
begins-get past (s ∷ ss) (b ∷ bs) zero d h l = (omega arith, h.0 ∙ ap (λ p. begins p s) (sym (append-nil past)))
begins-get past (s ∷ ss) (b ∷ bs) (suc i) d h l =
    let r = begins-get (past ++ s ∷ []) ss bs i d h.1 (omega (arith, l)) in
    (omega (arith, r.0), r.1 ∙ ap (λ p. begins p (get_or ss i d)) (append_assoc past (s ∷ []) (take i ss)))

-- of the line at a place
pub begins-at : (ss : List Shown) (bs : List ℕ) (i : ℕ) (s : Shown) → AreBegins [] ss bs → slice_get ss i ≡ Some s → slice_get bs i ≡ Some (begins (take i ss) s)
begins-at ss bs i s h g =
    let r = begins-get [] ss bs i s h (slice_get_within ss i s g) in
    slice_get-get_or bs i 0 r.0 ∙ ap Some (r.1 ∙ ap (begins (take i ss)) (get_or_from_slice_get ss i s s g))

pub as-many : (past ss : List Shown) (bs : List ℕ) → AreBegins past ss bs → length bs ≡ length ss
as-many past [] bs h = ap length h
as-many past (s ∷ ss) [] h = absurd h
as-many past (s ∷ ss) (b ∷ bs) h = ap suc (as-many (past ++ s ∷ []) ss bs h.1)

-- What may follow.

placeable-push : (past ss : List Shown) (s : Shown) → ArePlaceable past ss → MayFollow (past ++ ss) s → ArePlaceable past (ss ++ s ∷ [])
placeable-push past [] s h m = (subst (λ p. MayFollow p s) (append-nil past) m, tt)
placeable-push past (t ∷ ss) s h m = (h.0, placeable-push (past ++ t ∷ []) ss s h.1 (subst (λ p. MayFollow p s) (sym (append_assoc past (t ∷ []) ss)) m))

pub placeable-step : (ss : List Shown) (i : ℕ) (s : Shown) → slice_get ss i ≡ Some s → ArePlaceable [] (take i ss) → MayFollow (take i ss) s → ArePlaceable [] (take (i + 1) ss)
placeable-step ss i s g h m = subst (ArePlaceable []) (sym (front-at ss i s g)) (placeable-push [] (take i ss) s h m)

pub shape-of : (past : List Shown) (s : Shown) → MayFollow past s → HasShape past s
shape-of past (Waits l c cl) m = m
shape-of past (Answered l c cl a op) m = (m.0, m.1)
shape-of past s m = tt

-- the line at this place is the first that may not follow
pub first-fault : (ss : List Shown) (i : ℕ) (s : Shown) (r : Rule) → slice_get ss i ≡ Some s → ArePlaceable [] (take i ss) → BreaksLine (take i ss) s r → IsFirstLine ss (i + 1) r
first-fault ss i s r g h b =
    let within : i < length ss = slice_get_within ss i s g in
    record {
      above = take i ss;
      line = s;
      below = drop (i + 1) ss;
      parts = ap (λ ts. take i ss ++ ts) (sym (rest-at ss i s g)) ∙ take-append-drop i ss;
      place = ap (λ n. n + 1) (sym (front-length ss i (omega (arith, within))));
      placeable = h;
      broken = b;
    }

-- Where each loss is told.

all-get : (f : Watch → Bool) (ws : List Watch) (c : ℕ) (d : Watch) → T (list_all f ws) → c < length ws → T (f (get_or ws c d))
all-get f [] c d t l = absurd (omega (arith, l))
all-get f (w ∷ ws) zero d t l = left (f w) _ t
all-get f (w ∷ ws) (suc c) d t l = all-get f ws c d (right (f w) _ t) (omega (arith, l))

pub told-each : (ws : List Watch) (past : List Shown) → AreWatched ws past → T (list_all (λ w. is_none w.untold) ws) → (c : ℕ) → c < clerk_count → T (is_none (watch c past).untold)
told-each ws past h t c l =
    let w = watch c past in
    let within = slice_get_within ws c w (h.each c l) in
    subst (λ v. T (is_none v.untold)) (get_or_from_slice_get ws c w w (h.each c l)) (all-get (λ v. is_none v.untold) ws c w t within)
