-- The measure where a line begins.
use Rattle.std.proofs.Common.{◌≡◌, refl, sym, ap, subst, arith, ◌≤◌, ◌<◌, ◌+◌, ◌*◌, ◌-◌, ℕ, zero, suc, Bool, true, false, not, ◌==◌, ◌&&◌, cond, List, [], ◌∷◌, length, filter, Option, Some, None, suc-mul}
use Rattle.std.specs.Ordering.{nat_cmp}
use Rattle.std.specs.FinMap.{find}
use Rattle.ec_base.specs.Tables.{Table, at}
use Rattle.ec_base.specs.Holds.{rank}
use Rattle.ec_sessions.specs.OfTokens.Tokens.{Tokens, Holder, held_by, holders, token}
use Rattle.ec_sessions.specs.declared.tokens.token.Token.{Token}
use Rattle.ec_protocol.specs.declared.clerk.Clerk.{Clerk}
use Rattle.ec_protocol.specs.declared.clerk.Waiting.{Waiting}
use Rattle.ec_quiet.specs.Measure.{sum, own_price, own_rank, holder_price, others_price, unsent_by, asks_later, asks_later_by, if_more, weight, is_before_saving, noted_in, base, measure}
use Rattle.ec_quiet.specs.Phases.{Phase, Greets, Opens, Claims, Wants, Recalls, Flushes, Keeps, Grants, Asks, Gives, Refuses, Saves, Saved, Ends, backs}
use Rattle.ec_quiet.specs.Scenes.{Scene}
use Rattle.ec_quiet.specs.Works.{Work, is_saving}
use Rattle.ec_quiet.specs.Bounds.{IsFirstPhase, other_rows}
use Rattle.ec_base.proofs.HoldsLemmas.{rank-most}

-- what one holder costs
holder-most : (s : ℕ) (g : Holder) → holder_price s None g ≤ 256
holder-most s g = go (g.0 == s) (rank-most g.1)
  where
    go : (b : Bool) → rank g.1 ≤ 2 → elim b as (λ z. ℕ) [ true ↦ 0 | false ↦ 128 * rank g.1 ] ≤ 256
    go true l = omega arith
    go false l = omega (arith, l)

own-nothing : (s : ℕ) (g : Holder) → (g.0 == s) ≡ true → holder_price s None g ≡ 0
own-nothing s g e = ap (λ b. elim b as (λ z. ℕ) [ true ↦ 0 | false ↦ 128 * rank g.1 ]) e

-- each other session has one token on the object at most
others-most : (s x : ℕ) (ts : Tokens) → sum (holder_price s None) (holders ts x) ≤ 256 * other_rows s ts
others-most s x [] = omega arith
others-most s x (r ∷ ts) = go (r.0 == s) refl (find nat_cmp x r.1) (others-most s x ts)
  where
    go : (b : Bool) → (r.0 == s) ≡ b → (o : Option Token) → sum (holder_price s None) (holders ts x) ≤ 256 * other_rows s ts
        → sum (holder_price s None) (held_by r.0 o (holders ts x)) ≤ 256 * length (cond (not b) (r ∷ filter (λ q. not (q.0 == s)) ts) (filter (λ q. not (q.0 == s)) ts))
    go true e None l = l
    go true e (Some k) l = omega (arith, l, own-nothing s (r.0, k.hold, k.number) e)
    go false e None l = omega (arith, l)
    go false e (Some k) l = omega (arith, l, holder-most s (r.0, k.hold, k.number))

sum-most : (f : ℕ → ℕ) (m : ℕ) → ((x : ℕ) → f x ≤ m) → (xs : List ℕ) (k : ℕ) → length xs ≤ k → sum f xs ≤ k * m
sum-most f m h [] k l = omega arith
sum-most f m h (x ∷ xs) zero l = absurd (omega (arith, l))
sum-most f m h (x ∷ xs) (suc k) l = subst (λ z. f x + sum f xs ≤ z) (sym (suc-mul k m)) (more (k * m) (h x) (sum-most f m h xs k (omega (arith, l))))
  where
    more : (n : ℕ) → f x ≤ m → sum f xs ≤ n → f x + sum f xs ≤ n + m
    more n a b = omega (arith, a, b)

own-most : (j : Work) (ts : Tokens) (x : ℕ) → own_price j None ts x ≤ 1344
own-most j ts x = go (own_rank None j.number (token ts j.session x))
  where
    go : (n : ℕ) → 672 * (2 - n) ≤ 1344
    go n = omega arith

asks-most : (o : Option Clerk) → asks_later_by o ≤ 576
asks-most None = omega arith
asks-most (Some k) = go k.waiting k.ids k.asking
  where
    go : (ws : List Waiting) (ids : List ℕ) (asking : Option ℕ) → asks_later ws ids asking ≤ 576
    go [] ids asking = omega arith
    go (w ∷ ws) [] None = omega arith
    go (w ∷ ws) (x ∷ ids) asking = omega arith
    go (w ∷ ws) [] (Some n) = omega arith

more-most : (b : Bool) (n : ℕ) → if_more b n ≤ n
more-most true n = omega arith
more-most false n = omega arith

weighs : (p : Phase) → IsFirstPhase p → weight p ≤ 1152
weighs (Greets age) f = omega arith
weighs (Wants x h n) f = omega arith
weighs (Asks again got ask) f = omega (arith, more-most again 576)
weighs (Saves b ops rest) f = omega (arith, more-most rest 64)
weighs Ends f = omega arith
weighs (Opens age) f = absurd f
weighs (Claims o) f = absurd f
weighs (Recalls x h rs bs) f = absurd f
weighs (Flushes x h r b ops rest) f = absurd f
weighs (Keeps x h r b rest) f = absurd f
weighs (Grants x h n) f = absurd f
weighs (Gives got n first) f = absurd f
weighs (Refuses again ask live reserved) f = absurd f
weighs (Saved b rest) f = absurd f

-- no want is noted yet
unnoted : (p : Phase) → IsFirstPhase p → noted_in p ≡ None
unnoted (Greets age) f = refl
unnoted (Wants x h n) f = refl
unnoted (Asks again got ask) f = refl
unnoted (Saves b ops rest) f = refl
unnoted Ends f = refl
unnoted (Opens age) f = absurd f
unnoted (Claims o) f = absurd f
unnoted (Recalls x h rs bs) f = absurd f
unnoted (Flushes x h r b ops rest) f = absurd f
unnoted (Keeps x h r b rest) f = absurd f
unnoted (Grants x h n) f = absurd f
unnoted (Gives got n first) f = absurd f
unnoted (Refuses again ask live reserved) f = absurd f
unnoted (Saved b rest) f = absurd f

base-most : (j : Work) (ts : Tokens) (clerks : Table Clerk) (k : ℕ) → length j.touched ≤ 137 → other_rows j.session ts < k → sum (unsent_by j) clerks ≤ 65535 → base j None ts clerks + 35072 ≤ 250239 + 35072 * k
base-most j ts clerks k touched fewer unsent =
    let others : (x : ℕ) → others_price j None ts x ≤ 256 * other_rows j.session ts = λ x. others-most j.session x ts in
    go (other_rows j.session ts) fewer (sum-most (own_price j None ts) 1344 (own-most j ts) j.touched 137 touched) (sum-most (others_price j None ts) (256 * other_rows j.session ts) others j.touched 137 touched)
  where
    go : (m : ℕ) → m < k → sum (own_price j None ts) j.touched ≤ 137 * 1344 → sum (others_price j None ts) j.touched ≤ 137 * (256 * m) → base j None ts clerks + 35072 ≤ 250239 + 35072 * k
    go m l a b = omega (arith, l, a, b, unsent, asks-most (at j.clerk clerks))

pub measure-most : (j : Work) (sc : Scene) (p : Phase) (k : ℕ) → IsFirstPhase p → backs j sc.mail ≡ [] → length j.touched ≤ 137 → other_rows j.session sc.server.tokens < k
    → sum (unsent_by j) sc.clerks ≤ 65535 → measure j sc p ≤ 32 * (4096 * (k + 1))
measure-most j sc p k first none touched fewer unsent =
    let b : base j (noted_in p) sc.server.tokens sc.clerks + 35072 ≤ 250239 + 35072 * k = subst (λ w. base j w sc.server.tokens sc.clerks + 35072 ≤ 250239 + 35072 * k) (sym (unnoted p first)) (base-most j sc.server.tokens sc.clerks k touched fewer unsent) in
    let l : length (backs j sc.mail) ≡ 0 = ap length none in
    omega (arith, b, l, weighs p first, more-most (is_saving j.task && is_before_saving p) 64)
