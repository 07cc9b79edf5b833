-- The clerks that a script names are sixteen at most, and its lines are no more than they were read.
use Rattle.std.proofs.Common.{◌≡◌, refl, sym, ap, ◌∙◌, subst, arith, ◌≤◌, ◌<◌, ◌+◌, ◌==◌, ◌||◌, ℕ, zero, suc, T, Bool, true, false, not, cond, List, [], ◌∷◌, ◌++◌, length, inl, inr}
use Rattle.std.specs.Prelude.{filter}
use Rattle.std.proofs.lemmas.Bool.{eqb-true}
use Rattle.std.proofs.lemmas.Bool.Decides.{nat_tests}
use Rattle.ec_base.specs.Tables.{once}
use Rattle.ec_volume.specs.Update.{member}
use Rattle.ec_history.specs.History.{Each}
use Rattle.ec_words.specs.Words.{words_of}
use Rattle.ec_words.specs.Rows.{Word}
use Rattle.ec_words.specs.declared.name.Keyword.{Keyword}
use Rattle.ec_words.specs.declared.name.Keyword.TheVariants as keyword
use Rattle.ec_script.specs.Grammar.{IsLine, Spells, Says}
use Rattle.ec_script.specs.declared.line.Line.{Line}
use Rattle.ec_machine_laws.proofs.Once.{AreOnce, fewer}
use Rattle.ec_protocol.specs.Drill.{Read, clerk_in, named_in, reads, unfit}
use Rattle.ec_drill.specs.Script.{AreRead, IsRead, machine_line}
use Rattle.ec_history.proofs.HistoryLemmas.{each-more as each-append}
use Rattle.ec_quiet.proofs.OfDeliveries.Staying.{each-member}

-- Numbers below a bound, each once.

below : ℕ → List ℕ
below zero = []
below (suc n) = n ∷ below n

below-long : (n : ℕ) → length (below n) ≡ n
unfolding below
below-long zero = refl
below-long (suc n) = ap suc (below-long n)

in-below : (n x : ℕ) → x < n → T (member x (below n))
unfolding below
in-below zero x l = absurd (omega (arith, l))
in-below (suc n) x l = go (x == n) refl (λ m. in-below n x m)
  where
    less : (x n : ℕ) → (x == n) ≡ false → x < suc n → x < n
    less x n e l = grind (arith, nat_tests, e, l)

    go : (b : Bool) → (x == n) ≡ b → (x < n → T (member x (below n))) → T (b || member x (below n))
    go true e more = tt
    go false e more = more (less x n e l)

in-rest : (p : ℕ → Bool) (y : ℕ) (xs : List ℕ) → T (member y (filter p xs)) → T (member y xs)
in-rest p y [] m = m
in-rest p y (x ∷ xs) m = go (p x) m (in-rest p y xs)
  where
    later : (a b : Bool) → T b → T (a || b)
    later true b m = tt
    later false b m = m

    both : (a : Bool) → T (a || member y (filter p xs)) → (T (member y (filter p xs)) → T (member y xs)) → T (a || member y xs)
    both true m r = tt
    both false m r = r m

    go : (b : Bool) → T (member y (cond b (x ∷ filter p xs) (filter p xs))) → (T (member y (filter p xs)) → T (member y xs)) → T (member y (x ∷ xs))
    go true m r = both (y == x) m r
    go false m r = later (y == x) (member y xs) (r m)

passes : (p : ℕ → Bool) (y : ℕ) (xs : List ℕ) → T (member y (filter p xs)) → p y ≡ true
passes p y [] m = absurd m
passes p y (x ∷ xs) m = go (p x) refl m (passes p y xs)
  where
    first : (a : Bool) → (y == x) ≡ a → p x ≡ true → T (a || member y (filter p xs)) → (T (member y (filter p xs)) → p y ≡ true) → p y ≡ true
    first true e q m more = ap p (eqb-true y x e) ∙ q
    first false e q m more = more m

    go : (b : Bool) → p x ≡ b → T (member y (cond b (x ∷ filter p xs) (filter p xs))) → (T (member y (filter p xs)) → p y ≡ true) → p y ≡ true
    go true q m more = first (y == x) refl q m more
    go false q m more = more m

less-once : (p : ℕ → Bool) (xs : List ℕ) → AreOnce xs → AreOnce (filter p xs)
less-once p [] o = tt
less-once p (x ∷ xs) o = go (p x) (less-once p xs o.1)
  where
    go : (b : Bool) → AreOnce (filter p xs) → AreOnce (cond b (x ∷ filter p xs) (filter p xs))
    go true rest = (λ y m. o.0 y (in-rest p y xs m), rest)
    go false rest = rest

once-each : (xs : List ℕ) → AreOnce (once xs)
once-each [] = tt
once-each (x ∷ xs) = (λ y m. unlike (y == x) (passes (λ m. not (m == x)) y (once xs) m), less-once (λ m. not (m == x)) (once xs) (once-each xs))
  where
    unlike : (b : Bool) → not b ≡ true → b ≡ false
    unlike false e = refl
    unlike true e = absurd cc

in-once : (y : ℕ) (xs : List ℕ) → T (member y (once xs)) → T (member y xs)
in-once y [] m = m
in-once y (x ∷ xs) m = go (y == x) m (in-once y xs)
  where
    go : (b : Bool) → T (b || member y (filter (λ m. not (m == x)) (once xs))) → (T (member y (once xs)) → T (member y xs)) → T (b || member y xs)
    go true m more = tt
    go false m more = more (in-rest (λ m. not (m == x)) y (once xs) m)

pub few-once : (n : ℕ) (xs : List ℕ) → Each (λ x. x < n) xs → length (once xs) ≤ n
few-once n xs a = within (length (once xs)) (length (below n)) (below-long n) (fewer (once xs) (below n) (once-each xs) (λ y m. in-below n y (each-member (λ x. x < n) xs a y (in-once y xs m))))
  where
    within : (a b : ℕ) → b ≡ n → a ≤ b → a ≤ n
    within a b e l = omega (arith, e, l)

-- The clerk of a line is one of sixteen.

abbrev AreSmall : List ℕ → Type 0
AreSmall cs = Each (λ c. c < 16) cs

abbrev IsSmallOne : Line → Type 0
IsSmallOne l = AreSmall (clerk_in (machine_line l))

-- behind a keyword that a clerk follows
behind_keyword : (k : Keyword) (w : Word) (ws : List Word) (l : Line) → Says k (w ∷ ws) l → IsSmallOne l
behind_keyword keyword.Push w ws l is = subst IsSmallOne is.1.1 (is.1.0.0.1, tt)
behind_keyword keyword.Cut w ws l is = subst IsSmallOne is.1.1 (is.1.0.0.1, tt)
behind_keyword keyword.Uncut w ws l is = subst IsSmallOne is.1.1 (is.1.0.0.1, tt)
behind_keyword keyword.Drop w ws l is = subst IsSmallOne is.1.1 (is.1.0.0.1, tt)
behind_keyword keyword.Repeat w ws l is = subst IsSmallOne is.1.1 (is.1.0.0.1, tt)
behind_keyword keyword.Deliver w ws l is = subst IsSmallOne is.1.1 (is.1.0.0.1, tt)
behind_keyword keyword.Resend w ws l is = subst IsSmallOne is.1.1 (is.1.0.0.1, tt)
behind_keyword keyword.Crash w ws l is = subst IsSmallOne is.1.1 (is.1.0.0.1, tt)
behind_keyword keyword.End w ws l is = subst IsSmallOne is.1.1 (is.1.0.0.1, tt)
behind_keyword keyword.Stop w ws l is = subst IsSmallOne is.1.1 tt
behind_keyword keyword.Arm w ws l is = subst IsSmallOne is.1.1 tt
behind_keyword keyword.Restart w ws l is = subst IsSmallOne is.1.1 tt

-- a keyword alone
alone : (k : Keyword) (l : Line) → Says k [] l → IsSmallOne l
alone keyword.Push l is = absurd is.1.0
alone keyword.Cut l is = absurd is.1.0
alone keyword.Uncut l is = absurd is.1.0
alone keyword.Drop l is = absurd is.1.0
alone keyword.Repeat l is = absurd is.1.0
alone keyword.Deliver l is = absurd is.1.0
alone keyword.Resend l is = absurd is.1.0
alone keyword.Crash l is = absurd is.1.0
alone keyword.End l is = absurd is.1.0
alone keyword.Stop l is = subst IsSmallOne is.1.1 tt
alone keyword.Arm l is = absurd is.1.0
alone keyword.Restart l is = subst IsSmallOne is.1.1 tt

spelled : (ws : List Word) (l : Line) → Spells ws l → IsSmallOne l
spelled [] l is = absurd is
spelled (w ∷ ws) l (inl c, (head, begun)) = subst IsSmallOne begun.1.1 (head.1, tt)
spelled (w ∷ []) l (inr k, (head, says)) = alone k l says
spelled (w ∷ x ∷ ws) l (inr k, (head, says)) = behind_keyword k x ws l says

one_line : (bytes : List ℕ) (l : Line) → IsLine bytes l → IsSmallOne l
one_line bytes l (inl comment) = subst IsSmallOne (sym comment.1) tt
one_line bytes l (inr is) = spelled (words_of bytes) l is

named_small : (bs : List (List ℕ)) (rs : List Read) → AreRead bs rs → AreSmall (named_in rs)
named_small [] [] are = tt
named_small [] (r ∷ rs) are = absurd are
named_small (b ∷ bs) [] are = absurd are
named_small (b ∷ bs) (unfit column ∷ rs) are = named_small bs rs are.1
named_small (b ∷ bs) (reads l column ∷ rs) are = each-append (λ (c : ℕ). c < 16) (clerk_in l) (named_in rs) (subst (λ m. AreSmall (clerk_in m)) (sym are.0.2) (one_line b are.0.0 are.0.1)) (named_small bs rs are.1)

pub few-named : (bs : List (List ℕ)) (rs : List Read) → AreRead bs rs → length (once (named_in rs)) ≤ 16
few-named bs rs are = few-once 16 (named_in rs) (named_small bs rs are)
