-- A front of lines that come in pieces comes in pieces.
use Rattle.std.proofs.Common.{◌≡◌, refl, sym, ap, ◌∙◌, subst, arith, ◌≤◌, ◌<◌, ◌+◌, ◌-◌, ℕ, zero, suc, Bool, true, false, cond, length, List, [], ◌∷◌, ◌++◌, drop, take, inl, inr, ◌⊎◌, append-nil, nat_lt}
use Rattle.std.specs.List.{filter}
use Rattle.std.proofs.lemmas.List.{take-append-drop, take-append-le, length-append}
use Rattle.std.proofs.lemmas.List.Elements.{filter-append}
use Rattle.std.proofs.Math.Seq.{take-append-add, take-append_seam}
use Rattle.ec_history.specs.History.{Base}
use Rattle.ec_history.specs.declared.shown.Shown.{Shown}
use Rattle.ec_protocol.specs.declared.script.Line.{Line}
use Rattle.ec_lawful.specs.Headline.{AreEndsAsked, ArePieces, IsPiece, Lines, Pieces, ends, joined, may_end}
use Rattle.ec_quiet.specs.OfDeliveries.Scripts.{AreWriteBehind}
use Rattle.ec_complete.specs.Pieces.{ArePiecesBehind}
use Rattle.ec_drill.specs.OfPromise.Pieces.{first_lines}
use Rattle.ec_base.proofs.Numbers.{above}

-- a front of lines and a last one is a front of the lines, or all of it
pub cut-front : (xs more told last : List Shown) → xs ++ more ≡ told ++ last → length last ≤ 1 → ((rest : List Shown) × (xs ++ rest ≡ told)) ⊎ (xs ≡ told ++ last)
cut-front [] more told last e le = inl (told, refl)
cut-front (x ∷ xs) more [] last e le = inr (alone xs more last e le)
  where
    alone : (ys zs ls : List Shown) → x ∷ ys ++ zs ≡ ls → length ls ≤ 1 → x ∷ ys ≡ ls
    alone [] [] ls e le = e
    alone [] (z ∷ zs) ls e le = absurd (omega (arith, le, ap length (sym e)))
    alone (y ∷ ys) zs ls e le = absurd (omega (arith, le, ap length (sym e)))
cut-front (x ∷ xs) more (t ∷ told) last e le = go (cut-front xs more told last (tail e) le)
  where
    tail : (x ∷ xs) ++ more ≡ (t ∷ told) ++ last → xs ++ more ≡ told ++ last
    tail h = ap (λ (ls : List Shown). drop 1 ls) h

    head : x ≡ t
    head = cc

    go : ((rest : List Shown) × (xs ++ rest ≡ told)) ⊎ (xs ≡ told ++ last) → ((rest : List Shown) × ((x ∷ xs) ++ rest ≡ t ∷ told)) ⊎ (x ∷ xs ≡ (t ∷ told) ++ last)
    go (inl (rest, q)) = inl (rest, ap (λ (y : Shown). y ∷ xs ++ rest) head ∙ ap (λ (ls : List Shown). t ∷ ls) q)
    go (inr q) = inr (ap (λ (y : Shown). y ∷ xs) head ∙ ap (λ (ls : List Shown). t ∷ ls) q)

-- The first lines, where this is what the first piece comes to.

less : (n m : ℕ) → nat_lt n m ≡ true → n ≤ m
less n m e = grind (arith, e)

by : (P : Pieces → Type 0) (n : ℕ) (p : List Shown) (ps : Pieces) → (n ≤ length p → P (take n p ∷ [])) → (length p ≤ n → P (p ∷ first_lines (n - length p) ps)) → P (first_lines n (p ∷ ps))
by P n p ps cut whole = go (nat_lt n (length p)) refl
  where
    go : (b : Bool) → nat_lt n (length p) ≡ b → P (cond b (take n p ∷ []) (p ∷ first_lines (n - length p) ps))
    go true e = cut (less n (length p) e)
    go false e = whole (above n (length p) e)

-- they are a front of all lines
pub first-joined : (n : ℕ) (ps : Pieces) → joined (first_lines n ps) ≡ take n (joined ps)
first-joined zero [] = refl
first-joined (suc n) [] = refl
first-joined n (p ∷ ps) = by (λ qs. joined qs ≡ take n (p ++ joined ps)) n p ps
    (λ le. append-nil (take n p) ∙ sym (take-append-le n p (joined ps) le))
    (λ le. ap (λ ls. p ++ ls) (first-joined (n - length p) ps) ∙ sym (take-append-add p (joined ps) (n - length p)) ∙ ap (λ m. take m (p ++ joined ps)) (back (length p) n le))
  where
    back : (a n : ℕ) → a ≤ n → a + (n - a) ≡ n
    back a n le = omega (arith, le)

pub first-are : (xs rest : List Shown) (ps : Pieces) → xs ++ rest ≡ joined ps → xs ≡ joined (first_lines (length xs) ps)
first-are xs rest ps e = sym (take-append_seam xs rest) ∙ ap (take (length xs)) e ∙ sym (first-joined (length xs) ps)

-- as many as there are, or more
pub first-all : (n : ℕ) (ps : Pieces) → length (joined ps) ≤ n → first_lines n ps ≡ ps
first-all n [] le = refl
first-all n (p ∷ ps) le = go (nat_lt n (length p)) refl (length-append p (joined ps)) (first-all (n - length p) ps)
  where
    never : (a b c n : ℕ) → c ≡ a + b → c ≤ n → nat_lt n a ≡ true → ⊥
    never a b c n is le e = absurd (grind (arith, is, le, e))

    rest : (a b c n : ℕ) → c ≡ a + b → c ≤ n → b ≤ n - a
    rest a b c n is le = omega (arith, is, le)

    go : (b : Bool) → nat_lt n (length p) ≡ b → length (p ++ joined ps) ≡ length p + length (joined ps) → (length (joined ps) ≤ n - length p → first_lines (n - length p) ps ≡ ps)
        → cond b (take n p ∷ []) (p ∷ first_lines (n - length p) ps) ≡ p ∷ ps
    go true e is more = absurd (never (length p) (length (joined ps)) (length (p ++ joined ps)) n is le e)
    go false e is more = ap (λ qs. p ∷ qs) (more (rest (length p) (length (joined ps)) (length (p ++ joined ps)) n is le))

pub first-fewer : (n : ℕ) (ps : Pieces) → length (first_lines n ps) ≤ length ps
first-fewer n [] = omega arith
first-fewer n (p ∷ ps) = let more = first-fewer (n - length p) ps in by (λ qs. length qs ≤ suc (length ps)) n p ps (λ le. omega arith) (λ le. omega (arith, more))

piece-front : (k : ℕ) (past xs r : List Shown) → IsPiece k past (xs ++ r) → IsPiece k past xs
piece-front k past [] r i = tt
piece-front k past (x ∷ xs) r i = (i.0, piece-front k (past ++ x ∷ []) xs r i.1)

pub first-numbered : (n k : ℕ) (past : List Shown) (ps : Pieces) → ArePieces k past ps → ArePieces k past (first_lines n ps)
first-numbered n k past [] a = tt
first-numbered n k past (p ∷ ps) a =
    let more = first-numbered (n - length p) (k + 1) (past ++ p) ps a.1 in
    by (ArePieces k past) n p ps (λ le. (piece-front k past (take n p) (drop n p) (subst (IsPiece k past) (sym (take-append-drop n p)) a.0), tt)) (λ le. (a.0, more))

module _ (base : Base) where
  behind-front : (l : Line) (past xs r : List Shown) → AreWriteBehind base l past (xs ++ r) → AreWriteBehind base l past xs
  behind-front l past [] r a = tt
  behind-front l past (x ∷ xs) r a = (a.0, behind-front l (past ++ x ∷ []) xs r a.1)

  pub first-behind : (n : ℕ) (lines : Lines) (past : List Shown) (ps : Pieces) → ArePiecesBehind base lines past ps → ArePiecesBehind base lines past (first_lines n ps)
  first-behind n lines past [] a = tt
  first-behind n [] past (p ∷ ps) a = absurd a
  first-behind n (l ∷ ls) past (p ∷ ps) a =
      let more = first-behind (n - length p) ls (past ++ p) ps a.1 in
      by (ArePiecesBehind base (l ∷ ls) past) n p ps (λ le. (behind-front l past (take n p) (drop n p) (subst (AreWriteBehind base l past) (sym (take-append-drop n p)) a.0), tt)) (λ le. (a.0, more))

-- In a front no more sessions end.

abbrev count : ℕ → List Shown → ℕ
count c ss = length (filter (ends c) ss)

count-two : (c : ℕ) (xs ys : List Shown) → count c (xs ++ ys) ≡ count c xs + count c ys
count-two c xs ys = ap length (filter-append (ends c) xs ys) ∙ length-append (filter (ends c) xs) (filter (ends c) ys)

none-taken : (k : ℕ) → joined (take k []) ≡ []
none-taken zero = refl
none-taken (suc k) = refl

fewer-end : (c n k : ℕ) (ps : Pieces) → count c (joined (take k (first_lines n ps))) ≤ count c (joined (take k ps))
fewer-end c n zero ps = omega arith
fewer-end c n (suc k) [] = omega arith
fewer-end c n (suc k) (p ∷ ps) =
    let more = fewer-end c (n - length p) k ps in
    by (λ qs. count c (joined (take (suc k) qs)) ≤ count c (p ++ joined (take k ps))) n p ps
    (λ le. cut (count c (take n p)) (count c (drop n p)) _ _ _ _ (ap (count c) (ap (λ ls. take n p ++ ls) (none-taken k) ∙ append-nil (take n p))) (ap (count c) (sym (take-append-drop n p)) ∙ count-two c (take n p) (drop n p)) (count-two c p (joined (take k ps))))
    (λ le. both _ _ _ _ _ (count-two c p (joined (take k (first_lines (n - length p) ps)))) (count-two c p (joined (take k ps))) more)
  where
    cut : (a b t p q r : ℕ) → p ≡ a → q ≡ a + b → r ≡ q + t → p ≤ r
    cut a b t p q r x y z = omega (arith, x, y, z)

    both : (p a b x y : ℕ) → x ≡ p + a → y ≡ p + b → a ≤ b → x ≤ y
    both p a b x y e f le = omega (arith, e, f, le)

pub first-ends : (n : ℕ) (lines : Lines) (ps : Pieces) → AreEndsAsked lines ps → AreEndsAsked lines (first_lines n ps)
first-ends n lines ps asked c k le = within _ _ _ (fewer-end c n k ps) (asked c k (few (length (first_lines n ps)) (length ps) k (first-fewer n ps) le))
  where
    within : (a b d : ℕ) → a ≤ b → b ≤ d → a ≤ d
    within a b d x y = omega (arith, x, y)

    few : (a b k : ℕ) → a ≤ b → k ≤ a → k ≤ b
    few a b k x y = omega (arith, x, y)
