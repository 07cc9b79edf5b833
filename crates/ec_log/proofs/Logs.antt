-- Walks over operations by rising place, and closures by what is asked for.
use Rattle.std.proofs.Common.{◌≡◌, ◌<◌, ◌≤◌, ◌+◌, refl, sym, ap, ◌∙◌, ℕ, Bool, true, false, cond, not, List, [], ◌∷◌, ◌++◌, length, drop, get_or, append-nil, arith, Option, None, Some}
use Rattle.std.specs.Prelude.{◌&&◌, filter, is_some, nat_lt, nat_le}
use Rattle.std.proofs.lemmas.Bool.{and_parts, and_from, lt-ltb, ltb-true, le-leb}
use Rattle.std.proofs.lemmas.List.{append_assoc, drop_all}
use Rattle.ec_base.specs.Tables.{Table, at, or_else, without, keys}
use Rattle.ec_volume.specs.Update.{member}
use Rattle.ec_volume.specs.declared.update.Update.{Update}
use Rattle.ec_order.specs.Order.{Issued}
use Rattle.ec_log.specs.OfChains.Held as held
use Rattle.ec_log.specs.OfChains.Held.{is_behind}
use Rattle.ec_log.specs.OfChains.SlotLaws.{live-next}
use Rattle.ec_log.specs.OfChains.Slots.{Slots, with_one, live}
use Rattle.ec_log.specs.OfChains.Walk.{passes}
use Rattle.ec_log.specs.declared.chains.closure.Ask.TheVariants.{All}
use Rattle.ec_log.specs.Chosen.{ask_of}
use Rattle.ec_log.specs.Log.{first_number, is_asked, kept}
use Rattle.ec_log.specs.LogOrder.{is_from}
use Rattle.ec_log.specs.declared.state.Asked.{Asked}
use Rattle.ec_log.specs.declared.state.Asked.TheVariants as asked_of
use Rattle.ec_log.specs.declared.state.LogState.{LogState}

-- Numbers above all that are held.

pub behind_more : (n : ℕ) (u : Update) (xs : Issued) → is_behind n xs ≡ true → is_behind (n + 1) (xs ++ (n, u) ∷ []) ≡ true
behind_more n u [] h = ap (λ b. b && true) (lt-ltb n (n + 1) (omega arith))
behind_more n u (x ∷ xs) h =
    let p = and_parts (nat_lt x.0 n) (is_behind n xs) h in
    let l : x.0 < n = ltb-true x.0 n p.0 in
    and_from (nat_lt x.0 (n + 1)) (is_behind (n + 1) (xs ++ (n, u) ∷ [])) (lt-ltb x.0 (n + 1) (omega (arith, l))) (behind_more n u xs p.1)

pub behind_part : (q : ℕ × Update → Bool) (n : ℕ) (xs : Issued) → is_behind n xs ≡ true → is_behind n (filter q xs) ≡ true
behind_part q n [] h = refl
behind_part q n (x ∷ xs) h =
    let p = and_parts (nat_lt x.0 n) (is_behind n xs) h in
    go (q x) p.0 (behind_part q n xs p.1)
  where
    go : (b : Bool) → nat_lt x.0 n ≡ true → is_behind n (filter q xs) ≡ true → is_behind n (cond b (x ∷ filter q xs) (filter q xs)) ≡ true
    go true e r = and_from (nat_lt x.0 n) (is_behind n (filter q xs)) e r
    go false e r = r

-- Numbers from the first one of the session on.

pub from_more : (f n : ℕ) (u : Update) (xs : Issued) → f ≤ n → is_from f xs ≡ true → is_from f (xs ++ (n, u) ∷ []) ≡ true
from_more f n u [] l h = ap (λ b. b && true) (le-leb f n l)
from_more f n u (x ∷ xs) l h =
    let p = and_parts (nat_le f x.0) (is_from f xs) h in
    and_from (nat_le f x.0) (is_from f (xs ++ (n, u) ∷ [])) p.0 (from_more f n u xs l p.1)

pub from_part : (q : ℕ × Update → Bool) (f : ℕ) (xs : Issued) → is_from f xs ≡ true → is_from f (filter q xs) ≡ true
from_part q f [] h = refl
from_part q f (x ∷ xs) h =
    let p = and_parts (nat_le f x.0) (is_from f xs) h in
    go (q x) p.0 (from_part q f xs p.1)
  where
    go : (b : Bool) → nat_le f x.0 ≡ true → is_from f (filter q xs) ≡ true → is_from f (cond b (x ∷ filter q xs) (filter q xs)) ≡ true
    go true e r = and_from (nat_le f x.0) (is_from f (filter q xs)) e r
    go false e r = r

-- no operation leaves
pub all_stay : (xs : Issued) → filter (λ op. not (member op.0 [])) xs ≡ xs
all_stay [] = refl
all_stay (x ∷ xs) = ap (λ l. x ∷ l) (all_stay xs)

-- a batch that isn't under way
pub kept_none : (l : LogState) (n : ℕ) (bs : Table (List ℕ)) → at n l.batches ≡ None → bs ≡ without n l.batches → record l { batches = bs } ≡ kept n l
kept_none l n bs none is =
    ap (λ b. record l { batches = b }) is
    ∙ ap (λ us. record l { undurable = us; batches = without n l.batches }) (sym (all_stay l.undurable))
    ∙ ap (λ o. record l { undurable = filter (λ op. not (member op.0 (or_else [] o))) l.undurable; batches = without n l.batches }) (sym none)

-- One more place.

module _ (slots : Slots) (i : ℕ) (x : ℕ × Option Update) (within : i < length slots) (is : x ≡ get_or slots i x) (q : ℕ → Bool) where
  abbrev p : ℕ × Update → Bool
  p op = q op.0

  abbrev rest : Issued
  rest = live (drop (i + 1) slots)

  by : (o : Option Update) (t : Bool) → q x.0 ≡ t → (before : List ℕ) → cond (is_some o && t) (before ++ x.0 ∷ []) before ++ keys (filter p rest) ≡ before ++ keys (filter p (with_one x.0 o rest))
  by None t g before = refl
  by (Some u) true g before = append_assoc before (x.0 ∷ []) (keys (filter p rest)) ∙ sym (ap (λ b. before ++ keys (cond b ((x.0, u) ∷ filter p rest) (filter p rest))) g)
  by (Some u) false g before = sym (ap (λ b. before ++ keys (cond b ((x.0, u) ∷ filter p rest) (filter p rest))) g)

  pub place_more : (b : Bool) → b ≡ (is_some x.1 && q x.0) → (before after all : List ℕ) → after ≡ cond b (before ++ x.0 ∷ []) before → before ++ keys (filter p (live (drop i slots))) ≡ all → after ++ keys (filter p rest) ≡ all
  place_more b e before after all more h =
      ap (λ l. l ++ keys (filter p rest)) (more ∙ ap (λ c. cond c (before ++ x.0 ∷ []) before) e) ∙ by x.1 (q x.0) refl before ∙ sym (ap (λ l. before ++ keys (filter p l)) (live-next slots i x within is)) ∙ h

-- The last place.

pub part_end : (p : ℕ × Update → Bool) (slots : Slots) (i : ℕ) (before all : List ℕ) → length slots ≤ i → before ++ keys (filter p (live (drop i slots))) ≡ all → before ≡ all
part_end p slots i before all l h = sym (append-nil before) ∙ ap (λ d. before ++ keys (filter p (live d))) (sym (drop_all i slots l)) ∙ h

-- All of them are asked for.

pub all_asked : (xs : Issued) → filter (is_asked asked_of.All) xs ≡ xs
all_asked [] = refl
all_asked (x ∷ xs) = ap (λ l. x ∷ l) (all_asked xs)

same_first : (xs : Issued) → held.first_number xs ≡ first_number xs
same_first [] = refl
same_first (x ∷ xs) = refl

pub asked_first : (a : Asked) (xs : Issued) → held.first_number (filter (passes (ask_of a)) xs) ≡ first_number (filter (is_asked a) xs)
asked_first (asked_of.Object o) xs = same_first (filter (is_asked (asked_of.Object o)) xs)
asked_first (asked_of.Op n) xs = same_first (filter (is_asked (asked_of.Op n)) xs)
asked_first asked_of.All xs = same_first (filter (is_asked asked_of.All) xs)

pub first_of_all : (xs : Issued) → held.first_number (filter (passes All) xs) ≡ first_number xs
first_of_all xs = asked_first asked_of.All xs ∙ ap first_number (all_asked xs)
