-- A holder's token that was recalled comes back.
use Rattle.std.proofs.Common.{◌≡◌, refl, sym, ap, subst, ◌∙◌, arith, ◌<◌, ℕ, zero, suc, T, Bool, true, false, not, ◌==◌, ◌&&◌, cond, List, [], ◌∷◌, length, filter, Option, Some, None, Contains}
use Rattle.std.specs.Prelude.{slice_index_or, ⊤}
use Rattle.std.specs.Ordering.{nat_cmp, is_lt}
use Rattle.std.specs.FinMap.{find, is_sorted}
use Rattle.std.specs.FinMap.Entries.{below_all}
use Rattle.std.proofs.lemmas.Bool.{true≢false, and_parts}
use Rattle.std.proofs.lemmas.Bool.Decides.{nat_tests}
use Rattle.ec_base.specs.Holds.{is_below, clash}
use Rattle.ec_base.specs.SortedLaws.{first as one, second}
use Rattle.ec_base.specs.declared.ids.Hold.{Hold}
use Rattle.ec_base.specs.declared.ids.Hold.TheVariants.{Free, Read, Write}
use Rattle.ec_sessions.specs.OfTokens.Laws.{holder_has}
use Rattle.ec_sessions.specs.OfTokens.Tokens.{Tokens, Holder, token, holders, held_by, is_conflict, conflicts, fits_back, lowered}
use Rattle.ec_sessions.specs.OfTokens.SoundTokens.{IsSound}
use Rattle.ec_sessions.specs.declared.tokens.token.Token.{Token}
use Rattle.ec_sessions.specs.OfRecall.Due.{recall_to}
use Rattle.ec_machine_laws.proofs.Rows.{conflicts-lowered}
use Rattle.ec_base.proofs.Bools.{below}

-- Sessions of holders rise.

abbrev AreLater : ℕ → List Holder → Type 0
AreLater s [] = ⊤
AreLater s (g ∷ gs) = (s < g.0) × AreLater s gs

abbrev AreRising : List Holder → Type 0
AreRising [] = ⊤
AreRising (g ∷ gs) = AreLater g.0 gs × AreRising gs

later-holders : (s x : ℕ) (ts : Tokens) → T (below_all nat_cmp s ts) → AreLater s (holders ts x)
later-holders s x [] b = tt
later-holders s x (r ∷ ts) b = go (find nat_cmp x r.1) (later-holders s x ts (second (is_lt (nat_cmp s r.0)) (below_all nat_cmp s ts) b))
  where
    go : (o : Option Token) → AreLater s (holders ts x) → AreLater s (held_by r.0 o (holders ts x))
    go None l = l
    go (Some k) l = (below s r.0 (one (is_lt (nat_cmp s r.0)) (below_all nat_cmp s ts) b), l)

rising-holders : (x : ℕ) (ts : Tokens) → T (is_sorted nat_cmp ts) → AreRising (holders ts x)
rising-holders x [] s = tt
rising-holders x (r ∷ ts) s = go (find nat_cmp x r.1) (later-holders r.0 x ts (one (below_all nat_cmp r.0 ts) (is_sorted nat_cmp ts) s)) (rising-holders x ts (second (below_all nat_cmp r.0 ts) (is_sorted nat_cmp ts) s))
  where
    go : (o : Option Token) → AreLater r.0 (holders ts x) → AreRising (holders ts x) → AreRising (held_by r.0 o (holders ts x))
    go None l m = m
    go (Some k) l m = (l, m)

later-part : (p : Holder → Bool) (s : ℕ) (gs : List Holder) → AreLater s gs → AreLater s (filter p gs)
later-part p s [] l = tt
later-part p s (g ∷ gs) l = go (p g) (later-part p s gs l.1)
  where
    go : (b : Bool) → AreLater s (filter p gs) → AreLater s (cond b (g ∷ filter p gs) (filter p gs))
    go true m = (l.0, m)
    go false m = m

rising-part : (p : Holder → Bool) (gs : List Holder) → AreRising gs → AreRising (filter p gs)
rising-part p [] r = tt
rising-part p (g ∷ gs) r = go (p g) (rising-part p gs r.1)
  where
    go : (b : Bool) → AreRising (filter p gs) → AreRising (cond b (g ∷ filter p gs) (filter p gs))
    go true m = (later-part p g.0 gs r.0, m)
    go false m = m

-- without the first one
less-first : (s : ℕ) (gs : List Holder) → AreLater s gs → filter (λ g. not (g.0 == s)) gs ≡ gs
less-first s [] l = refl
less-first s (g ∷ gs) l = ap (λ b. cond (not b) (g ∷ filter (λ g. not (g.0 == s)) gs) (filter (λ g. not (g.0 == s)) gs)) (apart s g.0 l.0) ∙ ap (λ zs. g ∷ zs) (less-first s gs l.1)
  where
    apart : (s t : ℕ) → s < t → (t == s) ≡ false
    apart s t l = grind (arith, nat_tests)

-- The first of those that conflict: its token, what it may give back, and who is left.

pub first-token : (ts : Tokens) (s x : ℕ) (h : Hold) (g : Holder) (gs : List Holder) → IsSound ts → conflicts ts s x h ≡ g ∷ gs → token ts g.0 x ≡ Some (record { hold = g.1; number = g.2 })
first-token ts s x h g gs sound e = holder_has ts x g sound.rising (inside (is_conflict s h) (holders ts x) g (subst (λ zs. Contains zs g) (sym e) (0, omega arith, refl)))
  where
    inside : (p : Holder → Bool) (hs : List Holder) (g : Holder) → Contains (filter p hs) g → Contains hs g
    inside p [] g c = c
    inside p (k ∷ hs) g c = go (p k) c (inside p hs g)
      where
        shift : Contains hs g → Contains (k ∷ hs) g
        shift d = (suc d.0, omega (arith, d.1), d.2)

        head : (i : ℕ) → i < length (k ∷ filter p hs) → slice_index_or (k ∷ filter p hs) i g ≡ g → (Contains (filter p hs) g → Contains hs g) → Contains (k ∷ hs) g
        head zero l q r = (0, omega arith, q)
        head (suc i) l q r = shift (r (i, omega (arith, l), q))

        go : (b : Bool) → Contains (cond b (k ∷ filter p hs) (filter p hs)) g → (Contains (filter p hs) g → Contains hs g) → Contains (k ∷ hs) g
        go true d r = head d.0 d.1 d.2 r
        go false d r = shift (r d)

pub first-conflicts : (ts : Tokens) (s x : ℕ) (h : Hold) (g : Holder) (gs : List Holder) → conflicts ts s x h ≡ g ∷ gs → is_conflict s h g ≡ true
first-conflicts ts s x h g gs e = passes (is_conflict s h) (holders ts x) e
  where
    apart : (zs : List Holder) → ◌≡◌ {A = List Holder} [] (g ∷ zs) → ⊥
    apart zs e = cc

    passes : (p : Holder → Bool) (hs : List Holder) → filter p hs ≡ g ∷ gs → p g ≡ true
    passes p [] e = absurd (apart gs e)
    passes p (k ∷ hs) e = go (p k) refl e (passes p hs)
      where
        go : (b : Bool) → p k ≡ b → cond b (k ∷ filter p hs) (filter p hs) ≡ g ∷ gs → (filter p hs ≡ g ∷ gs → p g ≡ true) → p g ≡ true
        go true q d r =
            let same : k ≡ g = cc in
            ap p (sym same) ∙ q
        go false q d r = r d

pub others-left : (ts : Tokens) (s x : ℕ) (h : Hold) (g : Holder) (gs : List Holder) → IsSound ts → conflicts ts s x h ≡ g ∷ gs → filter (λ k. not (k.0 == g.0)) (conflicts ts s x h) ≡ gs
others-left ts s x h g gs sound e =
    let r : AreRising (g ∷ gs) = subst AreRising e (rising-part (is_conflict s h) (holders ts x) (rising-holders x ts sound.rising)) in
    ap (filter (λ k. not (k.0 == g.0))) e ∙ ap (λ b. cond (not b) (g ∷ filter (λ k. not (k.0 == g.0)) gs) (filter (λ k. not (k.0 == g.0)) gs)) (same-self g.0) ∙ less-first g.0 gs r.0
  where
    same-self : (n : ℕ) → (n == n) ≡ true
    same-self n = grind arith

pub gives-to : (g h : Hold) (n : ℕ) → clash g h ≡ true → fits_back (Some (record { hold = g; number = n })) n (recall_to h) ≡ true
gives-to g h n c = ap (λ b. b && not (is_below g (recall_to h))) (same-self n) ∙ high g h c
  where
    same-self : (n : ℕ) → (n == n) ≡ true
    same-self n = grind arith

    high : (g h : Hold) → clash g h ≡ true → not (is_below g (recall_to h)) ≡ true
    high Free Free c = absurd (true≢false (sym c))
    high Free Read c = absurd (true≢false (sym c))
    high Free Write c = absurd (true≢false (sym c))
    high Read Free c = absurd (true≢false (sym c))
    high Read Read c = absurd (true≢false (sym c))
    high Read Write c = refl
    high Write Free c = absurd (true≢false (sym c))
    high Write Read c = refl
    high Write Write c = refl

pub first-other : (ts : Tokens) (s x : ℕ) (h : Hold) (g : Holder) (gs : List Holder) → conflicts ts s x h ≡ g ∷ gs → (g.0 == s) ≡ false
first-other ts s x h g gs e = off (g.0 == s) (and_parts (not (g.0 == s)) (clash g.1 h) (first-conflicts ts s x h g gs e)).0
  where
    off : (b : Bool) → not b ≡ true → b ≡ false
    off true e = sym e
    off false e = refl

pub first-clashes : (ts : Tokens) (s x : ℕ) (h : Hold) (g : Holder) (gs : List Holder) → conflicts ts s x h ≡ g ∷ gs → clash g.1 h ≡ true
first-clashes ts s x h g gs e = (and_parts (not (g.0 == s)) (clash g.1 h) (first-conflicts ts s x h g gs e)).1

pub first-fits : (ts : Tokens) (s x : ℕ) (h : Hold) (g : Holder) (gs : List Holder) → IsSound ts → conflicts ts s x h ≡ g ∷ gs → fits_back (token ts g.0 x) g.2 (recall_to h) ≡ true
first-fits ts s x h g gs sound e = ap (λ o. fits_back o g.2 (recall_to h)) (first-token ts s x h g gs sound e) ∙ gives-to g.1 h g.2 (first-clashes ts s x h g gs e)

pub first-leaves : (ts : Tokens) (s x : ℕ) (h : Hold) (g : Holder) (gs : List Holder) → IsSound ts → conflicts ts s x h ≡ g ∷ gs → conflicts (lowered g.0 x (recall_to h) g.2 ts) s x h ≡ gs
first-leaves ts s x h g gs sound e = conflicts-lowered ts s g.0 x g.2 (recall_to h) h sound (first-fits ts s x h g gs sound e) (calm h) ∙ others-left ts s x h g gs sound e
  where
    calm : (h : Hold) → clash (recall_to h) h ≡ false
    calm Free = refl
    calm Read = refl
    calm Write = refl
