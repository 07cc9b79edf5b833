-- The entries of lines whose calls are within their bounds.
use Rattle.std.proofs.Common.{arith, ◌<◌, ◌≤◌, ℕ, T, Bool, true, false, cond, map, List, [], ◌∷◌, ◌++◌, length}
use Rattle.std.specs.Prelude.{is_some}
use Rattle.std.specs.List.{list_all}
use Rattle.ec_history.proofs.OfLaws.ForPlacing.Places.{places-within, places-distinct}
use Rattle.ec_history.specs.OfLaws.Bases.{is_bounded_entry}
use Rattle.ec_history.specs.History.{History, Each}
use Rattle.ec_history.specs.Placing.{watch, owner, is_running, is_end_of, is_call_of, call_entry, late, line_entries, place_from, place}
use Rattle.ec_history.specs.declared.shown.Shown.{Shown}
use Rattle.ec_history.specs.declared.shown.Shown.TheVariants.{Answered, Ended}
use Rattle.ec_legal.specs.Bounded.{is_bounded_line, AreEntries}
use Rattle.ec_base.proofs.Bools.{both, first as left, right}

abbrev are_bounded : History → Bool
are_bounded h = list_all (λ e. is_bounded_entry e.1) h

all-both : (h g : History) → T (are_bounded h) → T (are_bounded g) → T (are_bounded (h ++ g))
all-both [] g a b = b
all-both (e ∷ h) g a b = both (is_bounded_entry e.1) _ (left (is_bounded_entry e.1) _ a) (all-both h g (right (is_bounded_entry e.1) _ a) b)

call-bounded : (past : List Shown) (s : Shown) → T (is_bounded_line s) → T (are_bounded (call_entry past s))
call-bounded past (Answered l c cl a op) t = both _ true t tt
call-bounded past s t = tt

late-bounded : (c : ℕ) (past ss : List Shown) → T (list_all is_bounded_line ss) → T (are_bounded (late c past ss))
late-bounded c past [] t = tt
late-bounded c past (s ∷ ss) t = go (is_end_of c s) (is_call_of c s) (call-bounded past s (left (is_bounded_line s) _ t)) (late-bounded c (past ++ s ∷ []) ss (right (is_bounded_line s) _ t))
  where
    go : (x y : Bool) → T (are_bounded (call_entry past s)) → T (are_bounded (late c (past ++ s ∷ []) ss)) → T (are_bounded (cond x [] (cond y (call_entry past s) [] ++ late c (past ++ s ∷ []) ss)))
    go true y a b = tt
    go false true a b = all-both (call_entry past s) (late c (past ++ s ∷ []) ss) a b
    go false false a b = b

cond-bounded : (x : Bool) (h g : History) → T (are_bounded h) → T (are_bounded g) → T (are_bounded (cond x h g))
cond-bounded true h g a b = a
cond-bounded false h g a b = b

line-bounded : (past : List Shown) (s : Shown) (rest : List Shown) → T (is_bounded_line s) → T (list_all is_bounded_line rest) → T (are_bounded (line_entries past s rest))
line-bounded past (Answered l c cl a op) rest t u = cond-bounded (is_some (watch c past).untold) [] (call_entry past (Answered l c cl a op)) tt (call-bounded past (Answered l c cl a op) t)
line-bounded past (Ended c ns) rest t u =
    all-both (cond (is_running (watch c past) (owner (watch c past))) (late c (past ++ Ended c ns ∷ []) rest) []) _
    (cond-bounded (is_running (watch c past) (owner (watch c past))) (late c (past ++ Ended c ns ∷ []) rest) [] (late-bounded c (past ++ Ended c ns ∷ []) rest u) tt) tt
line-bounded past s rest t u = tt

place-bounded : (past ss : List Shown) → T (list_all is_bounded_line ss) → T (are_bounded (place_from past ss))
place-bounded past [] t = tt
place-bounded past (s ∷ rest) t = all-both (line_entries past s rest) (place_from (past ++ s ∷ []) rest) (line-bounded past s rest (left (is_bounded_line s) _ t) (right (is_bounded_line s) _ t)) (place-bounded (past ++ s ∷ []) rest (right (is_bounded_line s) _ t))

from-one : (n : ℕ) (h : History) → Each (λ p. (1 ≤ p) × (p ≤ n)) (map (λ e. e.0) h) → Each (λ p. 1 ≤ p) (map (λ e. e.0) h)
from-one n [] f = tt
from-one n (e ∷ h) f = (f.0.0, from-one n h f.1)

few : (n : ℕ) (h : History) → n < 2147483648 → Each (λ p. (1 ≤ p) × (p ≤ n)) (map (λ e. e.0) h) → Each (λ e. e.0 < 2147483648) h
few n [] l f = tt
few n (e ∷ h) l f =
    let up : e.0 ≤ n = f.0.1 in
    (omega (arith, up, l), few n h l f.1)

pub placed-entries : (ss : List Shown) → T (list_all is_bounded_line ss) → length ss < 2147483648 → AreEntries (place ss)
placed-entries ss t l = record {
  lines = record { from_one = from-one (length ss) (place ss) (places-within ss); apart = places-distinct ss; bounded = place-bounded [] ss t };
  few = few (length ss) (place ss) l (places-within ss);
}
