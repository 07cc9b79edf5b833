-- What a token that is wanted, granted or given back makes of what is left.
use Rattle.std.proofs.Common.{◌≡◌, refl, sym, ap, subst, ◌∙◌, inl, inr, ◌⊎◌, arith, ◌≤◌, ◌<◌, ◌+◌, ◌*◌, ◌-◌, ℕ, zero, suc, T, Bool, true, false, not, ◌==◌, ◌&&◌, ◌||◌, cond, List, [], ◌∷◌, length, filter, Option, Some, None}
use Rattle.std.specs.Prelude.{nat_lt}
use Rattle.std.specs.Ordering.{nat_cmp}
use Rattle.std.specs.FinMap.{find, put}
use Rattle.std.proofs.lemmas.Bool.{eqb-true, true≢false}
use Rattle.std.proofs.lemmas.Bool.Decides.{nat_tests}
use Rattle.ec_base.specs.Tables.{Table, at}
use Rattle.ec_base.specs.Holds.{rank, is_free, is_write, clash}
use Rattle.ec_base.specs.declared.ids.Hold.{Hold}
use Rattle.ec_base.specs.declared.ids.Hold.TheVariants.{Free, Read, Write}
use Rattle.ec_volume.specs.Update.{member}
use Rattle.ec_sessions.specs.OfTokens.Laws.{token-granted}
use Rattle.ec_sessions.specs.OfTokens.Tokens.{Tokens, Holder, Row, row, token, mode, holders, is_conflict, conflicts, granted, lowered_in, lowered}
use Rattle.ec_sessions.specs.OfTokens.SoundTokens.{IsSound}
use Rattle.ec_sessions.specs.declared.tokens.token.Token.{Token}
use Rattle.ec_sessions.specs.OfRecall.Due.{recall_to}
use Rattle.ec_protocol.specs.declared.clerk.Clerk.{Clerk}
use Rattle.ec_quiet.specs.Measure.{sum, Noted, noted_at, fresh_rank, own_rank, own_price, left_by, holder_price, others_price, unsent_by, asks_later_by, base}
use Rattle.ec_quiet.specs.Sums.{part_of}
use Rattle.ec_quiet.specs.Works.{Work}
use Rattle.ec_quiet.proofs.Terms.{sum-same, sum-le, sum-falls, put-part, row-part}
use Rattle.ec_machine_laws.specs.Holding.{left_at}
use Rattle.ec_machine_laws.proofs.Given.{lowered-tokens}
use Rattle.ec_machine_laws.proofs.Rows.{found-put, found-lowered, granted-elsewhere, lowered-elsewhere}
use Rattle.ec_base.proofs.Numbers.{same-self}
use Rattle.ec_base.proofs.HoldsLemmas.{rank-most}

-- The clerk's own tokens.

-- the own token counts nothing among the others
own-part : (s : ℕ) (w : Option Hold) (o : Option Token) → part_of (holder_price s w) s o ≡ 0
own-part s w None = refl
own-part s w (Some t) = ap (λ b. elim b as (λ z. ℕ) [ true ↦ 0 | false ↦ 128 * rank (left_by w t.hold) ]) (same-self s)

pub granted-others : (j : Work) (w : Noted) (ts : Tokens) (x n : ℕ) (h : Hold) → IsSound ts → (y : ℕ) → others_price j w (granted j.session x h n ts) y ≡ others_price j w ts y
granted-others j w ts x n h sound y =
    omega (
      arith,
      put-part (holder_price j.session (noted_at w y)) y j.session (put nat_cmp x (record { hold = h; number = n }) (row ts j.session)) ts sound.rising,
      own-part j.session (noted_at w y) (token ts j.session y),
      own-part j.session (noted_at w y) (find nat_cmp y (put nat_cmp x (record { hold = h; number = n }) (row ts j.session))),
    )

lowered-others : (j : Work) (w : Noted) (ts : Tokens) (x n : ℕ) (to : Hold) → IsSound ts → (y : ℕ) → others_price j w (lowered j.session x to n ts) y ≡ others_price j w ts y
lowered-others j w ts x n to sound y =
    omega (
      arith,
      row-part (holder_price j.session (noted_at w y)) y j.session (lowered_in x to n (row ts j.session)) ts sound.rising,
      own-part j.session (noted_at w y) (token ts j.session y),
      own-part j.session (noted_at w y) (find nat_cmp y (lowered_in x to n (row ts j.session))),
    )

fresh-new : (m n : ℕ) (h : Hold) → m < n → fresh_rank m (Some (record { hold = h; number = n })) ≡ rank h
fresh-new m n h l = ap (λ b. elim b as (λ z. ℕ) [ true ↦ rank h | false ↦ 0 ]) (later m n l)
  where
    later : (m n : ℕ) → m < n → nat_lt m n ≡ true
    later m n l = grind (arith, nat_tests, l)

granted-here : (ts : Tokens) (s x n : ℕ) (h : Hold) → token (granted s x h n ts) s x ≡ Some (record { hold = h; number = n })
granted-here ts s x n h =
    token-granted ts s x h n s x ∙ ap (λ b. cond {A = Option Token} (b && (x == x)) (Some (record { hold = h; number = n })) (token ts s x)) (same-self s)
    ∙ ap (λ b. cond {A = Option Token} b (Some (record { hold = h; number = n })) (token ts s x)) (same-self x)

granted-there : (ts : Tokens) (s x n : ℕ) (h : Hold) (y : ℕ) → (y == x) ≡ false → token (granted s x h n ts) s y ≡ token ts s y
granted-there ts s x n h y e =
    token-granted ts s x h n s y ∙ ap (λ b. cond {A = Option Token} ((s == s) && b) (Some (record { hold = h; number = n })) (token ts s y)) e
    ∙ off (s == s)
  where
    off : (a : Bool) → cond {A = Option Token} (a && false) (Some (record { hold = h; number = n })) (token ts s y) ≡ token ts s y
    off true = refl
    off false = refl

-- a rank that rises lowers the price by so much at least
rises : (a b : ℕ) → a < b → b ≤ 2 → 672 * (2 - b) + 672 ≤ 672 * (2 - a)
rises a b l m = omega (arith, l, m)

granted-own : (j : Work) (ts : Tokens) (x n : ℕ) (h : Hold) → fresh_rank j.number (token ts j.session x) < rank h → j.number < n → own_price j None (granted j.session x h n ts) x + 672 ≤ own_price j None ts x
granted-own j ts x n h less new =
    subst (λ r. 672 * (2 - r) + 672 ≤ 672 * (2 - fresh_rank j.number (token ts j.session x))) (sym (ap (fresh_rank j.number) (granted-here ts j.session x n h) ∙ fresh-new j.number n h new))
    (rises (fresh_rank j.number (token ts j.session x)) (rank h) less (rank-most h))

granted-each : (j : Work) (ts : Tokens) (x n : ℕ) (h : Hold) → fresh_rank j.number (token ts j.session x) < rank h → j.number < n → (y : ℕ) → own_price j None (granted j.session x h n ts) y ≤ own_price j None ts y
granted-each j ts x n h less new y = go (y == x) refl
  where
    go : (b : Bool) → (y == x) ≡ b → own_price j None (granted j.session x h n ts) y ≤ own_price j None ts y
    go true e = subst (λ z. own_price j None (granted j.session x h n ts) z ≤ own_price j None ts z) (sym (eqb-true y x e)) (omega (arith, granted-own j ts x n h less new))
    go false e = subst (λ o. 672 * (2 - fresh_rank j.number o) ≤ own_price j None ts y) (sym (granted-there ts j.session x n h y e)) (omega arith)

pub want-granted : (j : Work) (ts : Tokens) (clerks : Table Clerk) (x n : ℕ) (h : Hold) → IsSound ts → T (member x j.touched) → fresh_rank j.number (token ts j.session x) < rank h → j.number < n
    → base j None (granted j.session x h n ts) clerks + 672 ≤ base j None ts clerks
want-granted j ts clerks x n h sound m less new =
    omega (
      arith,
      sum-falls (own_price j None (granted j.session x h n ts)) (own_price j None ts) (granted-each j ts x n h less new) x 672 (granted-own j ts x n h less new) j.touched m,
      sum-same (others_price j None (granted j.session x h n ts)) (others_price j None ts) (granted-others j None ts x n h sound) j.touched,
    )

-- Noted wants.

noted-here : (x : ℕ) (h : Hold) → noted_at (Some (x, h)) x ≡ Some h
noted-here x h = ap (λ b. elim b as (λ z. Option Hold) [ true ↦ Some h | false ↦ None ]) (same-self x)

noted-there : (x : ℕ) (h : Hold) (y : ℕ) → (y == x) ≡ false → noted_at (Some (x, h)) y ≡ None
noted-there x h y e = ap (λ b. elim b as (λ z. Option Hold) [ true ↦ Some h | false ↦ None ]) (turned x y ∙ e)
  where
    turned : (a b : ℕ) → (a == b) ≡ (b == a)
    turned a b = grind (arith, nat_tests)

noted-own : (j : Work) (ts : Tokens) (x : ℕ) (h : Hold) → fresh_rank j.number (token ts j.session x) < rank h → own_price j (Some (x, h)) ts x + 672 ≤ own_price j None ts x
noted-own j ts x h less =
    subst (λ o. 672 * (2 - own_rank o j.number (token ts j.session x)) + 672 ≤ own_price j None ts x) (sym (noted-here x h))
    (rises (fresh_rank j.number (token ts j.session x)) (rank h) less (rank-most h))

noted-each : (j : Work) (ts : Tokens) (x : ℕ) (h : Hold) → fresh_rank j.number (token ts j.session x) < rank h → (y : ℕ) → own_price j (Some (x, h)) ts y ≤ own_price j None ts y
noted-each j ts x h less y = go (y == x) refl
  where
    go : (b : Bool) → (y == x) ≡ b → own_price j (Some (x, h)) ts y ≤ own_price j None ts y
    go true e = subst (λ z. own_price j (Some (x, h)) ts z ≤ own_price j None ts z) (sym (eqb-true y x e)) (omega (arith, noted-own j ts x h less))
    go false e = subst (λ o. 672 * (2 - own_rank o j.number (token ts j.session y)) ≤ own_price j None ts y) (sym (noted-there x h y e)) (omega arith)

-- a token that conflicts is worth more than what it's recalled to
recall-less : (g h : Hold) → clash g h ≡ true → rank (recall_to h) + 1 ≤ rank g
recall-less Free h e = absurd (true≢false (sym e ∙ quiet h))
  where
    quiet : (h : Hold) → clash Free h ≡ false
    quiet Free = refl
    quiet Read = refl
    quiet Write = refl
recall-less Read Free e = absurd (true≢false (sym e))
recall-less Read Read e = absurd (true≢false (sym e))
recall-less Read Write e = omega arith
recall-less Write Free e = absurd (true≢false (sym e))
recall-less Write Read e = omega arith
recall-less Write Write e = omega arith

-- each conflict falls by one rank at least
recalled-less : (s : ℕ) (h : Hold) (gs : List Holder) → sum (holder_price s (Some h)) gs + 128 * length (filter (is_conflict s h) gs) ≤ sum (holder_price s None) gs
recalled-less s h [] = omega arith
recalled-less s h (g ∷ gs) = go (g.0 == s) (clash g.1 h) refl (recalled-less s h gs)
  where
    go : (a b : Bool) → clash g.1 h ≡ b → sum (holder_price s (Some h)) gs + 128 * length (filter (is_conflict s h) gs) ≤ sum (holder_price s None) gs
        → (elim a as (λ z. ℕ) [ true ↦ 0 | false ↦ 128 * rank (elim b as (λ z. Hold) [ true ↦ recall_to h | false ↦ g.1 ]) ] + sum (holder_price s (Some h)) gs)
        + 128 * length (cond (not a && b) (g ∷ filter (is_conflict s h) gs) (filter (is_conflict s h) gs))
        ≤ elim a as (λ z. ℕ) [ true ↦ 0 | false ↦ 128 * rank g.1 ] + sum (holder_price s None) gs
    go true b e l = omega (arith, l)
    go false true e l = omega (arith, l, recall-less g.1 h e)
    go false false e l = omega (arith, l)

noted-others : (j : Work) (ts : Tokens) (x : ℕ) (h : Hold) → others_price j (Some (x, h)) ts x + 128 * length (conflicts ts j.session x h) ≤ others_price j None ts x
noted-others j ts x h =
    subst (λ o. sum (holder_price j.session o) (holders ts x) + 128 * length (conflicts ts j.session x h) ≤ others_price j None ts x) (sym (noted-here x h)) (recalled-less j.session h (holders ts x))

noted-others_each : (j : Work) (ts : Tokens) (x : ℕ) (h : Hold) (y : ℕ) → others_price j (Some (x, h)) ts y ≤ others_price j None ts y
noted-others_each j ts x h y = go (y == x) refl
  where
    go : (b : Bool) → (y == x) ≡ b → others_price j (Some (x, h)) ts y ≤ others_price j None ts y
    go true e = subst (λ z. others_price j (Some (x, h)) ts z ≤ others_price j None ts z) (sym (eqb-true y x e)) (omega (arith, noted-others j ts x h))
    go false e = subst (λ o. sum (holder_price j.session o) (holders ts y) ≤ others_price j None ts y) (sym (noted-there x h y e)) (omega arith)

pub want-noted : (j : Work) (ts : Tokens) (clerks : Table Clerk) (x : ℕ) (h : Hold) → T (member x j.touched) → fresh_rank j.number (token ts j.session x) < rank h
    → base j (Some (x, h)) ts clerks + (672 + 128 * length (conflicts ts j.session x h)) ≤ base j None ts clerks
want-noted j ts clerks x h m less =
    omega (
      arith,
      sum-falls (own_price j (Some (x, h)) ts) (own_price j None ts) (noted-each j ts x h less) x 672 (noted-own j ts x h less) j.touched m,
      sum-falls (others_price j (Some (x, h)) ts) (others_price j None ts) (noted-others_each j ts x h) x (128 * length (conflicts ts j.session x h)) (noted-others j ts x h) j.touched m,
    )

-- Tokens given back.

lowered-there : (ts : Tokens) (t x n : ℕ) (to : Hold) (s y : ℕ) → ((s == t) && (y == x)) ≡ false → token (lowered t x to n ts) s y ≡ token ts s y
lowered-there ts t x n to s y e = lowered-tokens ts t x to n s y ∙ ap (λ b. cond b (left_at to n) (token ts s y)) e

left-by-recalled : (g h : Hold) → clash g h ≡ true → left_by (Some h) g ≡ recall_to h
left-by-recalled g h e = ap (λ b. elim b as (λ z. Hold) [ true ↦ recall_to h | false ↦ g ]) e

recall-calm : (h : Hold) → clash (recall_to h) h ≡ false
recall-calm Free = refl
recall-calm Read = refl
recall-calm Write = refl

-- what the holder's token counts, before and behind
back-part : (s t n : ℕ) (h : Hold) (o : Option Token) → (t == s) ≡ false → clash (mode o) h ≡ true → part_of (holder_price s (Some h)) t o ≡ part_of (holder_price s (Some h)) t (left_at (recall_to h) n)
back-part s t n h None e c = absurd (true≢false (sym c ∙ quiet h))
  where
    quiet : (h : Hold) → clash Free h ≡ false
    quiet Free = refl
    quiet Read = refl
    quiet Write = refl
back-part s t n h (Some k) e c =
    ap (λ b. elim b as (λ z. ℕ) [ true ↦ 0 | false ↦ 128 * rank (left_by (Some h) k.hold) ]) e ∙ ap (λ g. 128 * rank g) (left-by-recalled k.hold h c) ∙ sym (after h)
  where
    after : (h : Hold) → part_of (holder_price s (Some h)) t (left_at (recall_to h) n) ≡ 128 * rank (recall_to h)
    after Free = ap (λ b. elim b as (λ z. ℕ) [ true ↦ 0 | false ↦ 128 ]) e
    after Read = ap (λ b. elim b as (λ z. ℕ) [ true ↦ 0 | false ↦ 128 ]) e
    after Write = refl

back-others : (j : Work) (ts : Tokens) (x t n : ℕ) (h : Hold) → IsSound ts → (t == j.session) ≡ false → clash (mode (token ts t x)) h ≡ true → (y : ℕ) → others_price j (Some (x, h)) (lowered t x (recall_to h) n ts) y ≡ others_price j (Some (x, h)) ts y
back-others j ts x t n h sound e c y = go (y == x) refl
  where
    here : sum (holder_price j.session (Some h)) (holders (lowered t x (recall_to h) n ts) x) ≡ sum (holder_price j.session (Some h)) (holders ts x)
    here =
        let found : find nat_cmp x (lowered_in x (recall_to h) n (row ts t)) ≡ left_at (recall_to h) n = found-lowered x (recall_to h) n (row ts t) x ∙ ap (λ b. cond b (left_at (recall_to h) n) (token ts t x)) (same-self x) in
        omega (
          arith,
          row-part (holder_price j.session (Some h)) x t (lowered_in x (recall_to h) n (row ts t)) ts sound.rising,
          back-part j.session t n h (token ts t x) e c,
          ap (part_of (holder_price j.session (Some h)) t) found,
        )

    go : (b : Bool) → (y == x) ≡ b → others_price j (Some (x, h)) (lowered t x (recall_to h) n ts) y ≡ others_price j (Some (x, h)) ts y
    go true q =
        subst (λ z. others_price j (Some (x, h)) (lowered t x (recall_to h) n ts) z ≡ others_price j (Some (x, h)) ts z) (sym (eqb-true y x q))
        (subst (λ o. sum (holder_price j.session o) (holders (lowered t x (recall_to h) n ts) x) ≡ sum (holder_price j.session o) (holders ts x)) (sym (noted-here x h)) here)
    go false q = ap (sum (holder_price j.session (noted_at (Some (x, h)) y))) (lowered-elsewhere ts t x (recall_to h) n y sound q)

back-own : (j : Work) (w : Noted) (ts : Tokens) (x t n : ℕ) (to : Hold) → (t == j.session) ≡ false → (y : ℕ) → own_price j w (lowered t x to n ts) y ≡ own_price j w ts y
back-own j w ts x t n to e y = ap (λ o. 672 * (2 - own_rank (noted_at w y) j.number o)) (lowered-there ts t x n to j.session y (ap (λ b. b && (y == x)) (turned j.session t ∙ e)))
  where
    turned : (a b : ℕ) → (a == b) ≡ (b == a)
    turned a b = grind (arith, nat_tests)

pub back-same : (j : Work) (ts : Tokens) (clerks : Table Clerk) (x t n : ℕ) (h : Hold) → IsSound ts → (t == j.session) ≡ false → clash (mode (token ts t x)) h ≡ true
    → base j (Some (x, h)) (lowered t x (recall_to h) n ts) clerks ≡ base j (Some (x, h)) ts clerks
back-same j ts clerks x t n h sound e c =
    omega (
      arith,
      sum-same (own_price j (Some (x, h)) (lowered t x (recall_to h) n ts)) (own_price j (Some (x, h)) ts) (back-own j (Some (x, h)) ts x t n (recall_to h) e) j.touched,
      sum-same (others_price j (Some (x, h)) (lowered t x (recall_to h) n ts)) (others_price j (Some (x, h)) ts) (back-others j ts x t n h sound e c) j.touched,
    )

-- The noted want is granted at last.

calm-same : (s : ℕ) (h : Hold) (gs : List Holder) → filter (is_conflict s h) gs ≡ [] → sum (holder_price s None) gs ≡ sum (holder_price s (Some h)) gs
calm-same s h [] e = refl
calm-same s h (g ∷ gs) e = go (g.0 == s) (clash g.1 h) refl e (calm-same s h gs)
  where
    none : (zs : List Holder) → ◌≡◌ {A = List Holder} (g ∷ zs) [] → ⊥
    none zs e = cc

    go : (a b : Bool) → clash g.1 h ≡ b → cond (not a && b) (g ∷ filter (is_conflict s h) gs) (filter (is_conflict s h) gs) ≡ [] → (filter (is_conflict s h) gs ≡ [] → sum (holder_price s None) gs ≡ sum (holder_price s (Some h)) gs)
        → elim a as (λ z. ℕ) [ true ↦ 0 | false ↦ 128 * rank g.1 ] + sum (holder_price s None) gs
        ≡ elim a as (λ z. ℕ) [ true ↦ 0 | false ↦ 128 * rank (elim b as (λ z. Hold) [ true ↦ recall_to h | false ↦ g.1 ]) ] + sum (holder_price s (Some h)) gs
    go true true q f r = ap (λ n. 0 + n) (r f)
    go true false q f r = ap (λ n. 0 + n) (r f)
    go false true q f r = absurd (none (filter (is_conflict s h) gs) f)
    go false false q f r = ap (λ n. 128 * rank g.1 + n) (r f)

last-others : (j : Work) (ts : Tokens) (x n : ℕ) (h : Hold) → IsSound ts → conflicts ts j.session x h ≡ [] → (y : ℕ) → others_price j None (granted j.session x h n ts) y ≡ others_price j (Some (x, h)) ts y
last-others j ts x n h sound calm y = granted-others j None ts x n h sound y ∙ go (y == x) refl
  where
    go : (b : Bool) → (y == x) ≡ b → others_price j None ts y ≡ others_price j (Some (x, h)) ts y
    go true e =
        subst (λ z. others_price j None ts z ≡ others_price j (Some (x, h)) ts z) (sym (eqb-true y x e))
        (subst (λ o. others_price j None ts x ≡ sum (holder_price j.session o) (holders ts x)) (sym (noted-here x h)) (calm-same j.session h (holders ts x) calm))
    go false e = ap (λ o. sum (holder_price j.session o) (holders ts y)) (sym (noted-there x h y e))

last-own : (j : Work) (ts : Tokens) (x n : ℕ) (h : Hold) → j.number < n → (y : ℕ) → own_price j None (granted j.session x h n ts) y ≡ own_price j (Some (x, h)) ts y
last-own j ts x n h new y = go (y == x) refl
  where
    go : (b : Bool) → (y == x) ≡ b → own_price j None (granted j.session x h n ts) y ≡ own_price j (Some (x, h)) ts y
    go true e =
        subst (λ z. own_price j None (granted j.session x h n ts) z ≡ own_price j (Some (x, h)) ts z) (sym (eqb-true y x e)) (
        ap (λ r. 672 * (2 - r)) (ap (fresh_rank j.number) (granted-here ts j.session x n h) ∙ fresh-new j.number n h new)
        ∙ ap (λ o. 672 * (2 - own_rank o j.number (token ts j.session x))) (sym (noted-here x h))
        )
    go false e =
        ap (λ o. 672 * (2 - fresh_rank j.number o)) (granted-there ts j.session x n h y e)
        ∙ ap (λ o. 672 * (2 - own_rank o j.number (token ts j.session y))) (sym (noted-there x h y e))

pub last-same : (j : Work) (ts : Tokens) (clerks : Table Clerk) (x n : ℕ) (h : Hold) → IsSound ts → conflicts ts j.session x h ≡ [] → j.number < n → base j None (granted j.session x h n ts) clerks ≡ base j (Some (x, h)) ts clerks
last-same j ts clerks x n h sound calm new =
    omega (
      arith,
      sum-same (own_price j None (granted j.session x h n ts)) (own_price j (Some (x, h)) ts) (last-own j ts x n h new) j.touched,
      sum-same (others_price j None (granted j.session x h n ts)) (others_price j (Some (x, h)) ts) (last-others j ts x n h sound calm) j.touched,
    )

-- Tokens of the clerk itself that go back.

sum-within : (f g : ℕ → ℕ) (xs : List ℕ) → ((y : ℕ) → T (member y xs) → f y ≡ g y) → sum f xs ≡ sum g xs
sum-within f g [] h = refl
sum-within f g (x ∷ xs) h = omega (arith, h x (or-left (x == x) (member x xs) (subst T (sym (same-self x)) tt)), sum-within f g xs (λ y m. h y (or-right (y == x) (member y xs) m)))
  where
    or-left : (a b : Bool) → T a → T (a || b)
    or-left true b h = tt
    or-left false b h = absurd h

    or-right : (a b : Bool) → T b → T (a || b)
    or-right true b h = tt
    or-right false b h = h

own-gone : (j : Work) (w : Noted) (ts : Tokens) (x n : ℕ) → (member x j.touched ≡ false) ⊎ (fresh_rank j.number (token ts j.session x) ≡ 0) → (y : ℕ) → T (member y j.touched) → own_price j w (lowered j.session x Free n ts) y ≡ own_price j w ts y
own-gone j w ts x n old y m = go (y == x) refl
  where
    none : token (lowered j.session x Free n ts) j.session x ≡ None
    none =
        lowered-tokens ts j.session x Free n j.session x ∙ ap (λ b. cond {A = Option Token} (b && (x == x)) None (token ts j.session x)) (same-self j.session)
        ∙ ap (λ b. cond {A = Option Token} b None (token ts j.session x)) (same-self x)

    nothing : fresh_rank j.number (token ts j.session x) ≡ 0 → (o : Option Hold) → own_rank o j.number None ≡ own_rank o j.number (token ts j.session x)
    nothing e None = sym e
    nothing e (Some h) = refl

    off : (a : Bool) → cond {A = Option Token} (a && false) None (token ts j.session y) ≡ token ts j.session y
    off true = refl
    off false = refl

    go : (b : Bool) → (y == x) ≡ b → own_price j w (lowered j.session x Free n ts) y ≡ own_price j w ts y
    go true e = elim old [
      | inl u ↦ absurd (subst T (ap (λ z. member z j.touched) (eqb-true y x e) ∙ u) m)
      | inr u ↦
          subst (λ z. own_price j w (lowered j.session x Free n ts) z ≡ own_price j w ts z) (sym (eqb-true y x e))
          (ap (λ o. 672 * (2 - own_rank (noted_at w x) j.number o)) none ∙ ap (λ r. 672 * (2 - r)) (nothing u (noted_at w x)))
    ]
    go false e =
        ap (λ o. 672 * (2 - own_rank (noted_at w y) j.number o))
        (lowered-tokens ts j.session x Free n j.session y ∙ ap (λ b. cond {A = Option Token} ((j.session == j.session) && b) None (token ts j.session y)) e ∙ off (j.session == j.session))

pub own-same : (j : Work) (w : Noted) (ts : Tokens) (clerks : Table Clerk) (x n : ℕ) → IsSound ts → (member x j.touched ≡ false) ⊎ (fresh_rank j.number (token ts j.session x) ≡ 0)
    → base j w (lowered j.session x Free n ts) clerks ≡ base j w ts clerks
own-same j w ts clerks x n sound old =
    omega (
      arith,
      sum-within (own_price j w (lowered j.session x Free n ts)) (own_price j w ts) j.touched (own-gone j w ts x n old),
      sum-same (others_price j w (lowered j.session x Free n ts)) (others_price j w ts) (lowered-others j w ts x n Free sound) j.touched,
    )
