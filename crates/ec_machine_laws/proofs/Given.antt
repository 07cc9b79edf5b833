-- The tokens of each session behind a change.
use Rattle.std.proofs.Common.{◌≡◌, refl, sym, ap, subst, ◌∙◌, arith, ℕ, suc, T, Bool, true, false, not, ◌==◌, ◌&&◌, ◌||◌, cond, List, [], ◌∷◌, length, filter, Option, Some, None, Contains}
use Rattle.std.specs.Prelude.{is_none}
use Rattle.std.specs.Ordering.{nat_cmp}
use Rattle.std.specs.FinMap.{find, put}
use Rattle.std.proofs.lemmas.Bool.{eqb-true}
use Rattle.ec_base.specs.Holds.{clash}
use Rattle.ec_base.specs.Sorted.{without}
use Rattle.ec_base.specs.declared.ids.Hold.{Hold}
use Rattle.ec_base.specs.declared.ids.Hold.TheVariants.{Write}
use Rattle.ec_volume.specs.Update.{member}
use Rattle.ec_sessions.specs.OfTokens.Laws.{holder_has, sound_granted, token-granted}
use Rattle.ec_sessions.specs.OfTokens.Tokens.{Row, Tokens, Holder, row_of, row, token, holders, first_holder, is_conflict, is_clear, granted, lowered_in, with_row, lowered}
use Rattle.ec_sessions.specs.OfTokens.SoundTokens.{IsSound}
use Rattle.ec_sessions.specs.declared.tokens.token.Token.{Token}
use Rattle.ec_protocol.specs.Server.{with_ids}
use Rattle.ec_machine_laws.specs.Holding.{left_at, AreOwn}
use Rattle.ec_machine_laws.proofs.Rows.{found-put, found-without, found-lowered, row-of-found}
use Rattle.ec_base.proofs.Numbers.{same-self}
use Rattle.ec_history.proofs.OfLaws.ForPlacing.Sets.{behind}

-- Tokens given back.

row-of-other : (s t : ℕ) → (t == s) ≡ false → (new : Row) (ts : Tokens) (y : ℕ) → token (with_row s new ts) t y ≡ token ts t y
row-of-other s t e new ts y = go (length new == 0)
  where
    go : (b : Bool) → find nat_cmp y (row_of (find nat_cmp t (cond b (without nat_cmp s ts) (put nat_cmp s new ts)))) ≡ token ts t y
    go true = ap (λ o. find nat_cmp y (row_of o)) (found-without t s ts ∙ ap (λ b. cond b None (find nat_cmp t ts)) e)
    go false = ap (λ o. find nat_cmp y (row_of o)) (found-put t s new ts ∙ ap (λ b. cond b (Some new) (find nat_cmp t ts)) e)

pub lowered-tokens : (ts : Tokens) (s x : ℕ) (to : Hold) (n t y : ℕ) → token (lowered s x to n ts) t y ≡ cond ((t == s) && (y == x)) (left_at to n) (token ts t y)
lowered-tokens ts s x to n t y = go (t == s) refl
  where
    go : (b : Bool) → (t == s) ≡ b → token (lowered s x to n ts) t y ≡ cond (b && (y == x)) (left_at to n) (token ts t y)
    go true e =
        ap (λ u. token (lowered s x to n ts) u y) (eqb-true t s e) ∙ row-of-found s (lowered_in x to n (row ts s)) ts y ∙ found-lowered x to n (row ts s) y
        ∙ ap (λ u. cond (y == x) (left_at to n) (token ts u y)) (sym (eqb-true t s e))
    go false e = row-of-other s t e (lowered_in x to n (row ts s)) ts y

-- Ids.

none-pass : (p : Holder → Bool) (gs : List Holder) → ((g : Holder) → Contains gs g → p g ≡ false) → filter p gs ≡ []
none-pass p [] f = refl
none-pass p (g ∷ gs) f = ap (λ b. cond b (g ∷ filter p gs) (filter p gs)) (f g (0, omega arith, refl)) ∙ none-pass p gs (λ h c. f h (suc c.0, omega (arith, c.1), c.2))

own-clear : (ts : Tokens) (s x : ℕ) → IsSound ts → ((t : ℕ) → (t == s) ≡ false → token ts t x ≡ None) → is_clear ts s x Write ≡ true
own-clear ts s x sound own = ap (λ gs. is_none (first_holder gs)) (none-pass (is_conflict s Write) (holders ts x) (λ g c. go g c (g.0 == s) refl))
  where
    go : (g : Holder) → Contains (holders ts x) g → (b : Bool) → (g.0 == s) ≡ b → is_conflict s Write g ≡ false
    go g c true e = ap (λ b. not b && clash g.1 Write) e
    go g c false e = absurd (apart (sym (own g.0 e) ∙ holder_has ts x g sound.rising c))
      where
        apart : ◌≡◌ {A = Option Token} None (Some (record { hold = g.1; number = g.2 })) → ⊥
        apart e = cc

pub or-left : (x : ℕ) (xs : List ℕ) → T (member x (x ∷ xs))
or-left x xs = subst (λ b. T (b || member x xs)) (sym (same-self x)) tt

-- a grant to the session leaves the others without tokens
still-own : (ts : Tokens) (s n x : ℕ) (xs : List ℕ) → AreOwn s (x ∷ xs) ts → AreOwn s xs (granted s x Write n ts)
still-own ts s n x xs own y m t e =
    token-granted ts s x Write n t y ∙ ap (λ b. cond {A = Option Token} (b && (y == x)) (Some (record { hold = Write; number = n })) (token ts t y)) e ∙ own y (behind y x xs m) t e

first-clear : (ts : Tokens) (s x : ℕ) (xs : List ℕ) → IsSound ts → AreOwn s (x ∷ xs) ts → is_clear ts s x Write ≡ true
first-clear ts s x xs sound own = own-clear ts s x sound (own x (or-left x xs))

ids-first : (ts : Tokens) (s n x : ℕ) (xs : List ℕ) → IsSound ts → AreOwn s (x ∷ xs) ts → with_ids s n (x ∷ xs) ts ≡ with_ids s n xs (granted s x Write n ts)
ids-first ts s n x xs sound own = ap (λ b. with_ids s n xs (elim b as (λ z. Tokens) [ true ↦ granted s x Write n ts | false ↦ ts ])) (first-clear ts s x xs sound own)

pub ids-tokens : (ts : Tokens) (s n : ℕ) (xs : List ℕ) → IsSound ts → AreOwn s xs ts → (t y : ℕ) → token (with_ids s n xs ts) t y ≡ cond ((t == s) && member y xs) (Some (record { hold = Write; number = n })) (token ts t y)
ids-tokens ts s n [] sound own t y = none (t == s)
  where
    none : (b : Bool) → token ts t y ≡ cond {A = Option Token} (b && false) (Some (record { hold = Write; number = n })) (token ts t y)
    none true = refl
    none false = refl
ids-tokens ts s n (x ∷ xs) sound own t y =
    ap (λ us. token us t y) (ids-first ts s n x xs sound own)
    ∙ ids-tokens (granted s x Write n ts) s n xs (sound_granted ts s sound x Write n refl (first-clear ts s x xs sound own)) (still-own ts s n x xs own) t y
    ∙ ap (λ o. cond {A = Option Token} ((t == s) && member y xs) (Some (record { hold = Write; number = n })) o) (token-granted ts s x Write n t y) ∙ joined (t == s) (y == x) (member y xs)
  where
    joined : (a b c : Bool) → cond {A = Option Token} (a && c) (Some (record { hold = Write; number = n })) (cond {A = Option Token} (a && b) (Some (record { hold = Write; number = n })) (token ts t y))
        ≡ cond {A = Option Token} (a && (b || c)) (Some (record { hold = Write; number = n })) (token ts t y)
    joined true true true = refl
    joined true true false = refl
    joined true false c = refl
    joined false b c = refl

pub ids-sound : (ts : Tokens) (s n : ℕ) (xs : List ℕ) → IsSound ts → AreOwn s xs ts → IsSound (with_ids s n xs ts)
ids-sound ts s n [] sound own = sound
ids-sound ts s n (x ∷ xs) sound own =
    subst IsSound (sym (ids-first ts s n x xs sound own))
    (ids-sound (granted s x Write n ts) s n xs (sound_granted ts s sound x Write n refl (first-clear ts s x xs sound own)) (still-own ts s n x xs own))
