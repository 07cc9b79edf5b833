-- Late answers, one by one.
use Rattle.std.proofs.Common.{◌≡◌, refl, sym, ap, subst, ◌∙◌, ◌<◌, ◌+◌, ℕ, suc, Bool, true, false, ◌==◌, cond, List, [], ◌∷◌, ◌++◌, length, take, drop, get_or, Option, append_assoc, add-one}
use Rattle.std.proofs.lemmas.Bool.{cond-true, cond-false, eqb-true, false≢true}
use Rattle.std.proofs.lemmas.List.{take_more}
use Rattle.std.proofs.Math.Seq.{drop-cons}
use Rattle.ec_history.proofs.OfLaws.ForPlacing.More.{watch-step}
use Rattle.ec_history.proofs.OfLaws.ForPlacing.Watching as laws
use Rattle.ec_history.specs.Placing.{watch, begun, late, call_entry, is_end_of, is_call_of}
use Rattle.ec_history.specs.declared.shown.Shown.{Shown}
use Rattle.ec_history.specs.declared.shown.Shown.TheVariants.{Answered}
use Rattle.ec_history.specs.declared.watch.Watch.{Watch}
use Rattle.ec_lines.specs.Index.{begins, begun_in}
use Rattle.ec_legal.specs.Watches.{IsHeld, call_of_start, own_call}

pub to-laws : (b : ℕ) (w : Watch) → IsHeld b w → laws.IsHeld b w
to-laws b w h = record { untold = h.untold; open_start = h.open_start; running = h.running; starts = h.starts }

pub from-laws : (b : ℕ) (w : Watch) → laws.IsHeld b w → IsHeld b w
from-laws b w h = record { untold = h.untold; open_start = h.open_start; running = h.running; starts = h.starts }

held-start : (b : ℕ) (w : Watch) → IsHeld b w → (begun w).starts ≡ b
held-start b w h = ap (λ v. v.starts) (cond-true w.running w _ h.running) ∙ h.starts

pub of-start : (b : ℕ) (past : List Shown) (l c : ℕ) (cl : _) (a : _) (op : Option ℕ) → (begun (watch c past)).starts ≡ b → call_entry past (Answered l c cl a op) ≡ call_of_start b past (Answered l c cl a op)
of-start b past l c cl a op e = ap (λ k. call_of_start k past (Answered l c cl a op)) e

own : (c b : ℕ) (past : List Shown) (s : Shown) → IsHeld b (watch c past) → cond (is_call_of c s) (call_entry past s) [] ≡ own_call c b past s
own c b past (Answered l d cl a op) h = go (c == d) refl
  where
    go : (q : Bool) → (c == d) ≡ q → cond q (call_entry past (Answered l d cl a op)) [] ≡ cond q (call_of_start b past (Answered l d cl a op)) []
    go true e = of-start b past l d cl a op (subst (λ k. (begun (watch k past)).starts ≡ b) (eqb-true c d e) (held-start b (watch c past) h))
    go false e = refl
own c b past s h = refl

pub line-at : (ss : List Shown) (i : ℕ) (s d : Shown) → i < length ss → s ≡ get_or ss i d → drop i ss ≡ s ∷ drop (i + 1) ss
line-at ss i s d l e = drop-cons ss i d l ∙ ap (λ x. x ∷ drop (suc i) ss) (sym e) ∙ ap (λ k. s ∷ drop k ss) (sym (add-one i))

pub above-at : (ss : List Shown) (i : ℕ) (s d : Shown) → i < length ss → s ≡ get_or ss i d → take (i + 1) ss ≡ take i ss ++ s ∷ []
above-at ss i s d l e = take_more ss i d l ∙ ap (λ x. take i ss ++ x ∷ []) (sym e)

pub late-step : (c b : ℕ) (ss : List Shown) (i : ℕ) (s d : Shown) → i < length ss → s ≡ get_or ss i d → is_end_of c s ≡ false → IsHeld b (watch c (take i ss))
    → late c (take i ss) (drop i ss) ≡ own_call c b (take i ss) s ++ late c (take (i + 1) ss) (drop (i + 1) ss)
late-step c b ss i s d l e n h =
    ap (late c (take i ss)) (line-at ss i s d l e)
    ∙ cond-false (is_end_of c s) [] _ n
    ∙ ap (λ g. g ++ late c (take i ss ++ s ∷ []) (drop (i + 1) ss)) (own c b (take i ss) s h)
    ∙ ap (λ p. own_call c b (take i ss) s ++ late c p (drop (i + 1) ss)) (sym (above-at ss i s d l e))

pub late-end : (c : ℕ) (ss : List Shown) (i : ℕ) (s d : Shown) → i < length ss → s ≡ get_or ss i d → is_end_of c s ≡ true → late c (take i ss) (drop i ss) ≡ []
late-end c ss i s d l e n = ap (late c (take i ss)) (line-at ss i s d l e) ∙ cond-true (is_end_of c s) [] _ n

pub held-step : (c b : ℕ) (ss : List Shown) (i : ℕ) (s d : Shown) → i < length ss → s ≡ get_or ss i d → is_end_of c s ≡ false → IsHeld b (watch c (take i ss)) → IsHeld b (watch c (take (i + 1) ss))
held-step c b ss i s d l e n h = subst (λ p. IsHeld b (watch c p)) (sym (above-at ss i s d l e)) (subst (IsHeld b) (sym (watch-step c (take i ss) s)) (from-laws b _ (laws.held-next c b (watch c (take i ss)) s n (to-laws b _ h))))

-- one more call, of the entries and of the operations
pub carry : {A : Type 0} (all xs ys zs one rest : List A) → all ≡ xs ++ zs → ys ≡ xs ++ one → zs ≡ one ++ rest → all ≡ ys ++ rest
carry all xs ys zs one rest a y z = a ∙ ap (λ q. xs ++ q) z ∙ sym (append_assoc xs one rest) ∙ ap (λ q. q ++ rest) (sym y)

-- Where the call of the clerk's own answer began, by the start that is held.

begun-own : (c b n : ℕ) (past : List Shown) (s : Shown) → is_call_of c s ≡ true → IsHeld b (watch c past) → n ≡ begins past s → n ≡ begun_in b past s
begun-own c b n past (Answered l d cl a op) o h e =
    e ∙ ap (λ k. begun_in k past (Answered l d cl a op)) (subst (λ k. (begun (watch k past)).starts ≡ b) (eqb-true c d o) (held-start b (watch c past) h))
begun-own c b n past s o h e = absurd (false≢true o)

pub begun-owns : (c b n : ℕ) (past : List Shown) (s : Shown) (q : Bool) → q ≡ is_call_of c s → q ≡ true → IsHeld b (watch c past) → n ≡ begins past s → n ≡ begun_in b past s
begun-owns c b n past s q e t h f = begun-own c b n past s (sym e ∙ t) h f

pub begun-answer : (w : Watch) (past : List Shown) (l c : ℕ) (cl : _) (a : _) (op : Option ℕ) (n : ℕ) (s : Shown) → s ≡ Answered l c cl a op → w ≡ watch c past → n ≡ begins past s → n ≡ begun_in (begun w).starts past s
begun-answer w past l c cl a op n s e v f =
    f ∙ ap (begins past) e ∙ ap (λ u. begun_in (begun u).starts past (Answered l c cl a op)) (sym v) ∙ ap (begun_in (begun w).starts past) (sym e)
