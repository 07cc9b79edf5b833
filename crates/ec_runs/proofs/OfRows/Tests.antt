-- A test of covering, which the check computes, and that it shows what it should.
use Rattle.std.proofs.Common.{subst, inl, inr, ℕ, T, Bool, true, false, not, ◌&&◌, ◌||◌, ◌-◌, List, [], ◌∷◌, ◌++◌, take}
use Rattle.std.specs.List.{list_all}
use Rattle.std.specs.Ordering.{nat_cmp}
use Rattle.std.specs.FinMap.{is_sorted}
use Rattle.ec_volume.specs.declared.update.Update.{Update}
use Rattle.ec_volume.specs.Update.{member}
use Rattle.ec_order.specs.Order.{Issued, Holds, closure}
use Rattle.ec_history.specs.declared.entry.Entry.{Entry}
use Rattle.ec_history.specs.declared.entry.Entry.TheVariants as entry
use Rattle.ec_history.specs.declared.shown.Shown.{Shown}
use Rattle.ec_history.specs.History.{Base, History, Throughout, Covers, issued, is_entry_of, of_issue, asks, is_lost}
use Rattle.ec_history.specs.Placing.{place}
use Rattle.ec_history.specs.Lines.{IsCovered, AreCovered, durable}
use Rattle.ec_history.proofs.OfLaws.ForPlacing.Least.{list-complete}
use Rattle.ec_base.proofs.Bools.{first as left, right, implied}

-- What an entry covers.

all-holds : (p : ℕ → Bool) (xs : Issued) (n : ℕ) (u : Update) → T (list_all (λ x. p x.0) xs) → Holds xs n u → T (p n)
all-holds p [] n u t h = absurd h
all-holds p (x ∷ xs) n u t (inl e) = subst (λ m. T (p m)) e.0 (left _ _ t)
all-holds p (x ∷ xs) n u t (inr h) = all-holds p xs n u (right _ _ t) h

-- each operation that the entry covers has the property
abbrev pub covered_all : Base → History → ℕ × Entry → ℕ → ℕ → (ℕ → Bool) → Bool
covered_all base past e c b p =
    not (is_entry_of c b e.1)
    || (is_sorted nat_cmp (of_issue c b (issued base past)) && list_all (λ x. is_lost c b x.0 past || p x.0) (closure (λ m. member m (asks base past e)) (of_issue c b (issued base past))))

instead : (p q : Bool) → T (p || q) → T (not p) → T q
instead true q h a = absurd a
instead false q h a = h

pub covered-all : (base : Base) (past : History) (e : ℕ × Entry) (c b : ℕ) (p : ℕ → Bool) → T (covered_all base past e c b p) → (n : ℕ) → Covers base past e c b n → T (p n)
covered-all base past e c b p t n k =
    let t' = implied (is_entry_of c b e.1) _ t k.own in
    let found = list-complete (of_issue c b (issued base past)) (λ m. member m (asks base past e)) n (left _ _ t') k.closed_in in
    instead (is_lost c b n past) (p n) (all-holds (λ m. is_lost c b m past || p m) _ n found.0 (right _ _ t') found.1) k.not_lost

-- Each entry of a history, with what stands before it.

abbrev pub throughout : (History → ℕ × Entry → Bool) → History → History → Bool
throughout p past [] = true
throughout p past (e ∷ h) = p past e && throughout p (past ++ e ∷ []) h

pub throughout_by_test : (P : History → ℕ × Entry → Type 0) (p : History → ℕ × Entry → Bool) → ((h : History) (e : ℕ × Entry) → T (p h e) → P h e) → (past h : History) → T (throughout p past h) → Throughout P past h
throughout_by_test P p f past [] t = tt
throughout_by_test P p f past (e ∷ h) t = (f past e (left _ _ t), throughout_by_test P p f (past ++ e ∷ []) h (right _ _ t))

-- Promises of durable lines.

abbrev pub is_covered : Base → List Shown → History → ℕ × Entry → Bool
is_covered base ss past (p, entry.Call c b l begun cl a op) = covered_all base past (p, entry.Call c b l begun cl a op) c b (λ n. member n (durable c b (take (p - 1) ss)))
is_covered base ss past (p, entry.Loss c b ns) = true

covered_entry : (base : Base) (ss : List Shown) (past : History) (e : ℕ × Entry) → T (is_covered base ss past e) → IsCovered base ss past e
covered_entry base ss past (p, entry.Call c b l begun cl a op) t = covered-all base past (p, entry.Call c b l begun cl a op) c b (λ n. member n (durable c b (take (p - 1) ss))) t
covered_entry base ss past (p, entry.Loss c b ns) t = tt

pub covered_by_test : (base : Base) (ss : List Shown) → T (throughout (is_covered base ss) [] (place ss)) → AreCovered base ss
covered_by_test base ss t = throughout_by_test (IsCovered base ss) (is_covered base ss) (covered_entry base ss) [] (place ss) t
