-- Links with the places of their volumes.
use Rattle.std.proofs.Common.{◌≡◌, ◌==◌, ◌+◌, ◌<◌, ◌≤◌, ℕ, zero, suc, Bool, true, false, if◌then◌else◌, List, [], ◌∷◌, ◌++◌, length, Some, refl, sym, ap, ◌∙◌, subst, arith}
use Rattle.std.specs.Prelude.{map, slice_get}
use Rattle.std.proofs.lemmas.Bool.{eqb-true, eqb-false}
use Rattle.std.proofs.lemmas.List.{map-append}
use Rattle.ec_link.specs.Nets.{Ended}
use Rattle.ec_mount_table.specs.Runs.{AreWithin, links_at}
use Rattle.ec_mount_table.specs.Going.{backwards}
use Rattle.ec_mounts.proofs.Seats.{IsNothing, some_is}

abbrev pub Link : Type 0
Link = ℕ × Ended

two_parts : (b : Bool) (x : Ended) (whole front rest : List Ended) → whole ≡ front ++ rest → (if b then x ∷ whole else whole) ≡ (if b then x ∷ front else front) ++ rest
two_parts true x whole front rest e = ap (λ l. x ∷ l) e
two_parts false x whole front rest e = e

pub links_append : (p : ℕ) (xs ys : List Link) → links_at p (xs ++ ys) ≡ links_at p xs ++ links_at p ys
links_append p [] ys = refl
links_append p (x ∷ xs) ys = two_parts (x.0 == p) x.1 (links_at p (xs ++ ys)) (links_at p xs) (links_at p ys) (links_append p xs ys)

own_step : (k : ℕ) (e : Ended) (l : List Ended) (b : Bool) → (k == k) ≡ b → (if b then e ∷ l else l) ≡ e ∷ l
own_step k e l true is = refl
own_step k e l false is = absurd (eqb-false k k is refl)

other_step : (k p : ℕ) (e : Ended) (l : List Ended) (b : Bool) → (k ≡ p → ⊥) → (k == p) ≡ b → (if b then e ∷ l else l) ≡ l
other_step k p e l true apart is = absurd (apart (eqb-true k p is))
other_step k p e l false apart is = refl

-- links of one volume
abbrev pub tag : ℕ → List Ended → List Link
tag k [] = []
tag k (e ∷ es) = (k, e) ∷ tag k es

pub links_own : (k : ℕ) (es : List Ended) → links_at k (tag k es) ≡ es
links_own k [] = refl
links_own k (e ∷ es) = own_step k e (links_at k (tag k es)) (k == k) refl ∙ ap (λ l. e ∷ l) (links_own k es)

pub links_other : (k p : ℕ) (es : List Ended) → (k ≡ p → ⊥) → links_at p (tag k es) ≡ []
links_other k p [] apart = refl
links_other k p (e ∷ es) apart = other_step k p e (links_at p (tag k es)) (k == p) apart refl ∙ links_other k p es apart

pub links_outside : (n p : ℕ) (links : List Link) → AreWithin n links → n ≤ p → links_at p links ≡ []
links_outside n p [] within le = refl
links_outside n p (x ∷ xs) within le =
    let low = within.0 in
    other_step x.0 p x.1 (links_at p xs) (x.0 == p) (λ (e : x.0 ≡ p). omega (arith, e, low, le)) refl ∙ links_outside n p xs within.1 le

pub within_append : (n : ℕ) (xs ys : List Link) → AreWithin n xs → AreWithin n ys → AreWithin n (xs ++ ys)
within_append n [] ys a b = b
within_append n (x ∷ xs) ys a b = (a.0, within_append n xs ys a.1 b)

pub within_more : (n m : ℕ) (xs : List Link) → n ≤ m → AreWithin n xs → AreWithin m xs
within_more n m [] le a = tt
within_more n m (x ∷ xs) le a = (omega (arith, a.0, le), within_more n m xs le a.1)

pub within_tag : (n k : ℕ) (es : List Ended) → k < n → AreWithin n (tag k es)
within_tag n k [] l = tt
within_tag n k (e ∷ es) l = (l, within_tag n k es l)

pub tagged : (k : ℕ) (es : List Ended) → map (λ (link : Link). link.1) (tag k es) ≡ es
tagged k [] = refl
tagged k (e ∷ es) = ap (λ l. e ∷ l) (tagged k es)

pub ended_append : (xs ys : List Link) → map (λ (link : Link). link.1) (xs ++ ys) ≡ map (λ (link : Link). link.1) xs ++ map (λ (link : Link). link.1) ys
ended_append xs ys = map-append (λ (link : Link). link.1) xs ys

-- one link of each volume from this place on, the last one first
abbrev pub tag_down : ℕ → List Ended → List Link
tag_down k [] = []
tag_down k (e ∷ es) = tag_down (suc k) es ++ (k, e) ∷ []

pub down_ended : (k : ℕ) (es : List Ended) → map (λ (link : Link). link.1) (tag_down k es) ≡ backwards es
down_ended k [] = refl
down_ended k (e ∷ es) = ended_append (tag_down (suc k) es) ((k, e) ∷ []) ∙ ap (λ l. l ++ e ∷ []) (down_ended (suc k) es)

down_before : (p k : ℕ) (es : List Ended) → p < k → links_at p (tag_down k es) ≡ []
down_before p k [] l = refl
down_before p k (e ∷ es) l =
    links_append p (tag_down (suc k) es) ((k, e) ∷ [])
    ∙ (ap (λ links. links ++ links_at p ((k, e) ∷ [])) (down_before p (suc k) es (omega (arith, l))) ∙ other_step k p e [] (k == p) (λ (same : k ≡ p). omega (arith, same, l)) refl)

down_at : (k i : ℕ) (es : List Ended) (e : Ended) → slice_get es i ≡ Some e → links_at (k + i) (tag_down k es) ≡ e ∷ []
down_at k i [] e at = absurd (subst IsNothing at tt)
down_at k zero (x ∷ es) e at =
    let same : k + 0 ≡ k = omega arith in
    subst (λ p. links_at p (tag_down (suc k) es ++ (k, x) ∷ []) ≡ e ∷ []) (sym same)
    (links_append k (tag_down (suc k) es) ((k, x) ∷ [])
    ∙ (ap (λ links. links ++ links_at k ((k, x) ∷ [])) (down_before k (suc k) es (omega arith)) ∙ (own_step k x [] (k == k) refl ∙ ap (λ y. y ∷ []) (some_is at))))
down_at k (suc i) (x ∷ es) e at =
    let same : k + suc i ≡ suc k + i = omega arith in
    subst (λ p. links_at p (tag_down (suc k) es ++ (k, x) ∷ []) ≡ e ∷ []) (sym same)
    (links_append (suc k + i) (tag_down (suc k) es) ((k, x) ∷ [])
    ∙ (ap (λ links. links ++ links_at (suc k + i) ((k, x) ∷ [])) (down_at (suc k) i es e at)
    ∙ ap (λ links. (e ∷ []) ++ links) (other_step k (suc k + i) x [] (k == (suc k + i)) (λ (p : k ≡ suc k + i). omega (arith, p)) refl)))

plus_none : (i : ℕ) → 0 + i ≡ i
plus_none i = omega arith

pub down_first : (i : ℕ) (es : List Ended) (e : Ended) → slice_get es i ≡ Some e → links_at i (tag_down 0 es) ≡ e ∷ []
down_first i es e at = subst (λ p. links_at p (tag_down 0 es) ≡ e ∷ []) (plus_none i) (down_at 0 i es e at)

pub within_down : (n k : ℕ) (es : List Ended) → k + length es ≤ n → AreWithin n (tag_down k es)
within_down n k [] l = tt
within_down n k (e ∷ es) l = within_append n (tag_down (suc k) es) ((k, e) ∷ []) (within_down n (suc k) es (omega (arith, l))) (omega (arith, l), tt)
