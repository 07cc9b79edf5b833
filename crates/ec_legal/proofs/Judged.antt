-- Entries that are judged block by block.
use Rattle.std.proofs.Common.{◌≡◌, refl, sym, ap, subst, ◌∙◌, arith, inl, inr, ◌≤◌, ◌<◌, ℕ, T, Bool, true, false, List, [], ◌∷◌, ◌++◌, length, take, append_assoc, append-nil}
use Rattle.std.specs.Prelude.{Result, Ok, OnOk}
use Rattle.std.specs.List.{list_all}
use Rattle.std.proofs.lemmas.List.{take_all, drop_all}
use Rattle.ec_history.proofs.OfLaws.ForPlacing.Numbers.{each-front, each-back}
use Rattle.ec_history.specs.OfLaws.Bases.{AreAtLines}
use Rattle.ec_history.specs.History.{Base, History, Each}
use Rattle.ec_history.specs.Legal.{from_formatted}
use Rattle.ec_history.specs.Placing.{place, place_from, ArePlaceable}
use Rattle.ec_history.specs.declared.rule.Rule.{Rule}
use Rattle.ec_history.specs.declared.shown.Shown.{Shown}
use Rattle.ec_judge.specs.Fault.{IsEntryFault}
use Rattle.ec_judge.specs.Faults.{IsFirstEntry}
use Rattle.ec_judge.specs.declared.fault.HistoryFault.{HistoryFault}
use Rattle.ec_judge.specs.declared.fault.HistoryFault.TheVariants as fault
use Rattle.ec_legal.specs.Ahead.{IsSettled, is_left, placed_from}
use Rattle.ec_legal.specs.declared.ahead.Ahead.{Ahead}
use Rattle.ec_legal.specs.Bounded.{is_bounded_line}
use Rattle.ec_legal.specs.Placed.{IsPlaceFault, IsJudgeFault}
use Rattle.ec_legal.proofs.Bounded.{placed-entries}
use Rattle.ec_judge.proofs.Checks.{lines-front}

-- The first entries of some that stand at lines.

-- What was judged, the entries that are next, and those of the lines from a place on.
pub record Judges (ss : List Shown) (past next : History) (n : ℕ) : Type 0 where
  pub whole : place ss ≡ past ++ (next ++ placed_from ss n)

pub first-block : (ss : List Shown) → Judges ss [] [] 0
first-block ss = record { whole = refl }

regroup : (ss : List Shown) (past next : History) (n : ℕ) → Judges ss past next n → place ss ≡ (past ++ next) ++ placed_from ss n
regroup ss past next n j = j.whole ∙ sym (append_assoc past next (placed_from ss n))

pub next-block : (ss : List Shown) (past next more : History) (n m : ℕ) → Judges ss past next n → placed_from ss n ≡ more ++ placed_from ss m → Judges ss (past ++ next) more m
next-block ss past next more n m j e = record { whole = regroup ss past next n j ∙ ap (λ h. (past ++ next) ++ h) e }

pub block-lines : (ss : List Shown) (past next : History) (n : ℕ) → T (list_all is_bounded_line ss) → length ss < 2147483648 → Judges ss past next n → AreAtLines (past ++ next)
block-lines ss past next n t l j = lines-front (past ++ next) (placed_from ss n) (subst AreAtLines (regroup ss past next n j) (placed-entries ss t l).lines)

pub block-few : (ss : List Shown) (past next : History) (n : ℕ) → T (list_all is_bounded_line ss) → length ss < 2147483648 → Judges ss past next n → Each (λ e. e.0 < 2147483648) next
block-few ss past next n t l j =
    let all = subst (Each (λ e. e.0 < 2147483648)) j.whole (placed-entries ss t l).few in
    each-front (λ e. e.0 < 2147483648) next (placed_from ss n) (each-back (λ e. e.0 < 2147483648) past (next ++ placed_from ss n) all)

pub placed-end : (ss : List Shown) (n : ℕ) → length ss ≤ n → placed_from ss n ≡ []
placed-end ss n l = ap (place_from (take n ss)) (drop_all n ss l)

pub last-block : (ss : List Shown) (past next : History) (n : ℕ) → length ss ≤ n → Judges ss past next n → past ++ next ≡ place ss
last-block ss past next n l j =
    sym (append-nil (past ++ next)) ∙ ap (λ h. (past ++ next) ++ h) (sym (placed-end ss n l)) ∙ sym (regroup ss past next n j)

pub all-placeable : (ss : List Shown) (n : ℕ) → length ss ≤ n → ArePlaceable [] (take n ss) → ArePlaceable [] ss
all-placeable ss n l p = subst (ArePlaceable []) (take_all n ss l) p

-- no line of the last ones is left
pub none-left : (a : Ahead) (ss : List Shown) (b : Bool) → b ≡ is_left a ss true → b ≡ false → length ss ≤ a.placed
none-left a ss b e f = grind (arith, sym e ∙ f)

-- Faults.

first-longer : (base : Base) (most : ℕ) (h g : History) (p : ℕ) (r : Rule) → IsFirstEntry base most h p r → IsFirstEntry base most (h ++ g) p r
first-longer base most h g p r f = record {
  before = f.before;
  its = f.its;
  after = f.after ++ g;
  parts = sym (append_assoc f.before ((p, f.its) ∷ f.after) g) ∙ ap (λ l. l ++ g) f.parts;
  legal = f.legal;
  broken = f.broken;
}

pub line-fault : (most : ℕ) (ss : List Shown) (f : HistoryFault) → IsPlaceFault ss f → IsJudgeFault most ss f
line-fault most ss (fault.At p r) k = inl k
line-fault most ss fault.NoMemory k = tt

pub block-fault : (most : ℕ) (ss : List Shown) (past next : History) (n : ℕ) (f : HistoryFault) → Judges ss past next n → ArePlaceable [] ss → IsEntryFault most (past ++ next) f → IsJudgeFault most ss f
block-fault most ss past next n (fault.At p r) j a k =
    inr (a, subst (λ h. IsFirstEntry from_formatted most h p r) (sym (regroup ss past next n j)) (first-longer from_formatted most (past ++ next) (placed_from ss n) p r k))
block-fault most ss past next n fault.NoMemory j a k = tt

-- the same, of a transcript that goes on in whatever way
pub entry-fault : (most : ℕ) (past next rest whole : History) (f : HistoryFault) → whole ≡ past ++ (next ++ rest) → IsEntryFault most (past ++ next) f → IsEntryFault most whole f
entry-fault most past next rest whole (fault.At p r) e k =
    subst (λ h. IsFirstEntry from_formatted most h p r) (sym (e ∙ sym (append_assoc past next rest))) (first-longer from_formatted most (past ++ next) rest p r k)
entry-fault most past next rest whole fault.NoMemory e k = tt

-- what was judged of lines, where nothing comes behind them
pub judges-now : (ss : List Shown) (past next : History) (n : ℕ) → ((more : List Shown) → place (ss ++ more) ≡ past ++ (next ++ placed_from (ss ++ more) n)) → Judges ss past next n
judges-now ss past next n f = record { whole = subst (λ ts. place ts ≡ past ++ (next ++ placed_from ts n)) (append-nil ss) (f []) }

-- what a block gives, where nothing comes behind the lines
pub placed-now : (ss : List Shown) (settled n m : ℕ) (next : History) → IsSettled ss settled → ((more : List Shown) → IsSettled (ss ++ more) settled → placed_from (ss ++ more) n ≡ next ++ placed_from (ss ++ more) m) → placed_from ss n ≡ next ++ placed_from ss m
placed-now ss settled n m next h f =
    let none = append-nil ss in
    subst (λ ts. placed_from ts n ≡ next ++ placed_from ts m) none (f [] (subst (λ ts. IsSettled ts settled) (sym none) h))

-- Answers, by what is known of a result.

pub on-ok : {A B X : Type 0} (r : Result A B) (x : A) → r ≡ Ok x → OnOk r X → X
on-ok {X = X} r x e h = subst (λ q. OnOk q X) e h
