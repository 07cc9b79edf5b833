-- A want is noted, or the list of wants gets shorter.
use Rattle.std.proofs.Common.{◌≡◌, refl, sym, subst, ◌∙◌, inl, inr, arith, ℕ, Bool, true, false, not, ◌&&◌, cond, T, ◌≤◌, ◌<◌, List, [], ◌∷◌}
use Rattle.std.specs.Prelude.{◌==◌, Option, None, Some}
use Rattle.ec_base.specs.Tables.{at}
use Rattle.ec_base.specs.declared.ids.Hold.{Hold}
use Rattle.ec_volume.specs.Update.{member}
use Rattle.ec_history.specs.History.{Each}
use Rattle.ec_base.specs.Holds.{rank, is_below, stronger}
use Rattle.ec_sessions.specs.OfTokens.Tokens as tokens
use Rattle.ec_sessions.specs.declared.tokens.token.Token.{Token}
use Rattle.std.proofs.lemmas.Bool.{and_parts}
use Rattle.ec_sessions.specs.OfRecall.Wants.{noted, is_of}
use Rattle.ec_sessions.specs.declared.recall.want.Want as want
use Rattle.ec_wire.specs.Messages.{is_held_mode}
use Rattle.ec_cache.specs.Cache.{last}
use Rattle.ec_cache.specs.declared.state.Held.{Held}
use Rattle.ec_coherence.specs.System.{recorded}
use Rattle.ec_coherence.specs.Tokens.{Tables, View, Side, InSession, Below, Names, WantFits, HeldBelow, LacksMode, NotedFits, Wanted, Noted, WantsAreDistinct, TokensAgree}
use Rattle.ec_coherence.proofs.ForServer.Changed.{over, changed, Own, changed-agrees}
use Rattle.ec_coherence.proofs.ForServer.Tables.{each-map, fails}
use Rattle.ec_coherence.proofs.ForServer.Was.{was-open, was-known, was-apart, was-below, was-live, was-alone}
use Rattle.ec_base.proofs.Numbers.{equal}

-- The wants become others, of which each may be granted; one of them, or the one that is noted, is of s.
module _ (w : View) (v : Tables) (s : ℕ) (qs : List want.Want) (agree : TokensAgree (over v w)) (claimed : T (member s v.claimed)) (taken : T (w.taken s))
    (wants : Each (Noted (over v w) v) qs) (distinct : WantsAreDistinct qs) where
  own : Own w v v.tokens qs v.claimed v.number v.recorded s
  own = record {
    claimed = claimed;
    stay = λ t d. refl;
    is_open = was-open w v s agree claimed;
    taken = taken;
    epoch = agree.tables.epochs s claimed;
    only = λ t x d. refl;
    sound = agree.tables.sound;
    apart = was-apart w v s agree claimed;
    known = was-known w v s agree claimed;
    below = was-below w v s agree claimed;
    live = λ x e m h k i a l p. was-live w v s agree claimed x e m h p;
    alone = was-alone w v s agree claimed;
    number = omega arith;
    grown = λ t g. g;
    wants = each-map (Noted (over v w) v) _ qs (λ q f. f) wants;
    distinct = distinct;
    recorded = λ t m p. inl p;
    unrecorded = λ x r h. agree.tables.unrecorded s x claimed r h;
  }

  pub wants-agree : TokensAgree (over (changed v.tokens qs v.claimed v.number v.recorded) w)
  wants-agree = changed-agrees w v v.tokens qs v.claimed v.number v.recorded s agree own

-- A Want that isn't answered at once may be noted.

stronger-held : (a b : Hold) → T (is_held_mode a) → T (is_held_mode b) → T (is_held_mode (stronger a b))
stronger-held a b p q = go (is_below a b)
  where
    go : (c : Bool) → T (is_held_mode (cond c b a))
    go true = q
    go false = p

below-stronger : (n a b : ℕ) (c d : Hold) → n < rank d → n < rank (stronger c d)
below-stronger n a b c d l = go (is_below c d) refl
  where
    go : (z : Bool) → is_below c d ≡ z → n < rank (cond z d c)
    go true e = l
    go false e = let k : rank d ≤ rank c = grind arith in omega arith

-- what lacks a mode lacks a stronger one
noted-stronger : (c d : Hold) (o : Option Token) (z : Option Held) (l : ℕ) → NotedFits d o z l → NotedFits (stronger c d) o z l
noted-stronger c d None z l f = f
noted-stronger c d (Some t) z l f = (f.0, go z f.1)
  where
    go : (z : Option Held) → LacksMode z t.number d → LacksMode z t.number (stronger c d)
    go None f = f
    go (Some k) f = (f.0, below-stronger (rank k.hold) 0 0 c d f.1)

module _ (w : View) (v : Tables) (s x : ℕ) (h : Hold) where
  is-it : (q : want.Want) → is_of s x q ≡ true → (s ≡ q.session) × (x ≡ q.obj)
  is-it q e = let p = and_parts (s == q.session) (x == q.obj) e in (equal s q.session p.0, equal x q.obj p.1)

  each-noted : (qs : List want.Want) → Each (Noted (over v w) v) qs → Wanted (over v w) v s x h → Each (Noted (over v w) v) (noted s x h qs)
  each-noted [] f g = (g, tt)
  each-noted (q ∷ qs) f g = go (is_of s x q) refl (each-noted qs f.1 g)
    where
      moved : (s ≡ q.session) → (x ≡ q.obj) → Wanted (over v w) v q.session q.obj h
      moved a b = subst (λ y. Wanted (over v w) v q.session y h) b (subst (λ t. Wanted (over v w) v t x h) a g)

      go : (b : Bool) → is_of s x q ≡ b → Each (Noted (over v w) v) (noted s x h qs) → Each (Noted (over v w) v) (cond b (record q { hold = stronger q.hold h; told = [] } ∷ qs) (q ∷ noted s x h qs))
      go true e r = let m = moved (is-it q e).0 (is-it q e).1 in
          ((f.0.0, f.0.1, stronger-held q.hold h f.0.2 g.2, f.0.3, λ k i. noted-stronger q.hold h (tokens.token v.tokens q.session q.obj) (at q.obj k.cache.held) (last q.obj k.cache) (m.4 k i)), f.1)
      go false e r = (f.0, r)

  -- A Want whose last number isn't below the recorded one lacks its mode.
  pub want-noted : (agree : TokensAgree (over v w)) → T (member s v.claimed) → T (w.taken s) → T (is_held_mode h) → Names w x → (e l : ℕ) → e ≡ w.epoch
      → InSession w s (λ k. WantFits k.epoch e h l (at x k.cache.held) (last x k.cache)) → ((t : Token) → tokens.token v.tokens s x ≡ Some t → t.number ≤ l) → Wanted (over v w) v s x h
  want-noted agree claimed taken held names e l epoch sent low = (claimed, taken, held, names, λ k i. fits k i (sent k i (epoch ∙ sym (agree.tables.epochs s claimed k i))))
    where
      fits : (k : Side) → w.clerk s ≡ Some k → (l ≤ last x k.cache) × HeldBelow (at x k.cache.held) l h → NotedFits h (tokens.token v.tokens s x) (at x k.cache.held) (last x k.cache)
      fits k i f = go (tokens.token v.tokens s x) refl (at x k.cache.held) f.1 (was-below w v s agree claimed x k i)
        where
          go : (o : Option Token) → tokens.token v.tokens s x ≡ o → (z : Option Held) → HeldBelow z l h → Below k.epoch (last x k.cache) z (recorded o w.epoch) → NotedFits h o z (last x k.cache)
          go None p None b c = refl
          go None p (Some d) b c = absurd c
          go (Some t) p None b c = ((let a = low t p in let g = f.0 in omega arith), tt)
          go (Some t) p (Some d) b c =
              let a = low t p in let g = f.0 in
              let number : d.number ≤ t.number = elim (c.2) [ inl q ↦ q.1 | inr q ↦ (let y = q.1 in omega arith) ] in
              let same = c.1 in
              (omega arith, (omega arith, b (omega arith)))

-- Keys stay distinct.
pub noted-apart : (s x : ℕ) (h : Hold) (qs : List want.Want) → WantsAreDistinct qs → WantsAreDistinct (noted s x h qs)
noted-apart s x h [] d = (tt, tt)
noted-apart s x h (q ∷ qs) d = go (is_of s x q) refl (noted-apart s x h qs d.1) (still qs d.0)
  where
    turn : is_of s x q ≡ false → (t : List (ℕ × ℕ)) → is_of q.session q.obj (record { session = s; obj = x; hold = h; told = t }) ≡ false
    turn e t = turned s q.session x q.obj e
      where
        turned : (a b c d : ℕ) → ((a == b) && (c == d)) ≡ false → ((b == a) && (d == c)) ≡ false
        turned a b c d e = grind arith

    still : (rs : List want.Want) → Each (λ r. T (not (is_of q.session q.obj r))) rs → is_of s x q ≡ false → Each (λ r. T (not (is_of q.session q.obj r))) (noted s x h rs)
    still [] f e = (fails (is_of q.session q.obj (record { session = s; obj = x; hold = h; told = [] })) (turn e []), tt)
    still (r ∷ rs) f e = by (is_of s x r) (still rs f.1 e)
      where
        by : (b : Bool) → Each (λ r. T (not (is_of q.session q.obj r))) (noted s x h rs) → Each (λ r. T (not (is_of q.session q.obj r))) (cond b (record r { hold = stronger r.hold h; told = [] } ∷ rs) (r ∷ noted s x h rs))
        by true g = f
        by false g = (f.0, g)

    go : (b : Bool) → is_of s x q ≡ b → WantsAreDistinct (noted s x h qs) → (is_of s x q ≡ false → Each (λ r. T (not (is_of q.session q.obj r))) (noted s x h qs))
        → WantsAreDistinct (cond b (record q { hold = stronger q.hold h; told = [] } ∷ qs) (q ∷ noted s x h qs))
    go true e r f = d
    go false e r f = (f e, r)

pub note-agrees : (w : View) (v : Tables) (s x : ℕ) (h : Hold) → TokensAgree (over v w) → Wanted (over v w) v s x h → TokensAgree (over (changed v.tokens (noted s x h v.recalls) v.claimed v.number v.recorded) w)
note-agrees w v s x h agree f = wants-agree w v s (noted s x h v.recalls) agree f.0 f.1 (each-noted w v s x h v.recalls agree.tables.wants f) (noted-apart s x h v.recalls agree.tables.apart)
