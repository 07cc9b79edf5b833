-- A claim that was sent in this epoch clashes with no token: what it names was the session's own, and effective tokens don't conflict.
use Rattle.std.proofs.Common.{◌≡◌, refl, sym, ap, subst, ◌∙◌, arith, ℕ, suc, Bool, true, false, not, ◌==◌, ◌&&◌, cond, T, ◌<◌, ◌≤◌, List, [], ◌∷◌, Some, None}
use Rattle.std.specs.Prelude.{Contains, nat_lt}
use Rattle.std.specs.Cmp.{unsigned_ties}
use Rattle.std.specs.List.{filter}
use Rattle.ec_base.specs.Tables.{Table, at, keys, or_else}
use Rattle.ec_base.specs.Holds.{rank, clash}
use Rattle.ec_base.specs.declared.ids.Hold.{Hold}
use Rattle.ec_base.specs.declared.ids.Hold.TheVariants.{Free}
use Rattle.ec_volume.specs.Update.{member}
use Rattle.ec_history.specs.History.{Each}
use Rattle.ec_sessions.specs.OfTokens.Laws.{holder_has}
use Rattle.ec_sessions.specs.OfTokens.Tokens as tokens
use Rattle.ec_wire.specs.Messages.{rises}
use Rattle.ec_coherence.specs.System.{eff_from, recorded}
use Rattle.ec_coherence.specs.Tokens.{ClaimFits, Side, Tables, TablesAgree, TokensAgree, View, eff, eff_hold, eff_of}
use Rattle.ec_coherence.proofs.ForServer.Tables.{clash-below, clash-turn, each-map, fails}
use Rattle.ec_base.proofs.Bools.{left as and_first, right as and_next, no-longer as is-false, is-true, holds-true as holds}
use Rattle.ec_base.proofs.Numbers.{same-self as same}
use Rattle.ec_base.proofs.Options.{none_some}

none-pass : (p : tokens.Holder → Bool) (hs : List tokens.Holder) → ((g : tokens.Holder) → Contains hs g → p g ≡ false) → tokens.first_holder (filter p hs) ≡ None
none-pass p [] f = refl
none-pass p (g ∷ gs) f = ap (λ b. tokens.first_holder (cond b (g ∷ filter p gs) (filter p gs))) (f g (0, omega arith, refl)) ∙ none-pass p gs (λ j c. f j (suc c.0, omega (arith, c.1), c.2))

at-cons : (j : ℕ) (e : ℕ × Hold) (es : Table Hold) → at j (e ∷ es) ≡ cond (j == e.0) (Some e.1) (at j es)
at-cons j e es = sym (ap (λ b. cond b (Some e.1) (at j es)) (unsigned_ties j e.0))

-- each entry of a table is found under its key
above : (n : ℕ) (ns : List ℕ) → T (rises (n ∷ ns)) → Each (λ m. n < m) ns
above n [] r = tt
above n (m ∷ ms) r =
    let less = lower n m (and_first (nat_lt n m) (rises (m ∷ ms)) r) in
    (less, each-map (λ k. m < k) (λ k. n < k) ms (λ k l. omega (arith, less, l)) (above m ms (and_next (nat_lt n m) (rises (m ∷ ms)) r)))
  where
    lower : (n m : ℕ) → T (nat_lt n m) → n < m
    lower n m t = from n m (is-true (nat_lt n m) t)
      where
        from : (n m : ℕ) → nat_lt n m ≡ true → n < m
        from n m e = grind arith

pub found-each : (l : Table Hold) → T (rises (keys l)) → Each (λ e. at e.0 l ≡ Some e.1) l
found-each [] r = tt
found-each (e ∷ es) r = (
  at-cons e.0 e es ∙ ap (λ b. cond b (Some e.1) (at e.0 es)) (same e.0),
  later es (above e.0 (keys es) r) (found-each es (tail es r)),
)
  where
    tail : (es : Table Hold) → T (rises (e.0 ∷ keys es)) → T (rises (keys es))
    tail [] r = tt
    tail (f ∷ fs) r = and_next (nat_lt e.0 f.0) (rises (f.0 ∷ keys fs)) r

    apart : (n m : ℕ) → n < m → (m == n) ≡ false
    apart n m l = grind arith

    later : (fs : Table Hold) → Each (λ m. e.0 < m) (keys fs) → Each (λ f. at f.0 es ≡ Some f.1) fs → Each (λ f. at f.0 (e ∷ es) ≡ Some f.1) fs
    later [] a h = tt
    later (f ∷ fs) a h = (at-cons f.0 e es ∙ ap (λ b. cond b (Some e.1) (at f.0 es)) (apart e.0 f.0 a.0) ∙ h.0, later fs a.1 h.1)

module _ (w : View) (v : Tables) (s : ℕ) (l : Table Hold) (up : w.tables ≡ Some v) (agree : TokensAgree w) (tables : TablesAgree w v) (is_open : T (w.is_open s))
    (k : Side) (fits : ClaimFits w s w.epoch l k) (rising : T (rises (keys l))) where
  holder-effective : (t x : ℕ) (h : Hold) (n : ℕ) → tokens.token v.tokens t x ≡ Some (record { hold = h; number = n }) → T (w.is_open t) × (eff_hold (eff w t x) ≡ h)
  holder-effective t x h n p = go (member t v.claimed) refl
    where
      go : (b : Bool) → member t v.claimed ≡ b → T (w.is_open t) × (eff_hold (eff w t x) ≡ h)
      go true e = (
        tables.are_open t (holds (member t v.claimed) e),
        ap (λ y. eff_hold (eff_of y w.epoch w.old t x)) up ∙ ap (λ b. eff_hold (eff_from b (tokens.token v.tokens t x) w.epoch (w.old t x))) e ∙ ap (λ o. eff_hold (recorded o w.epoch)) p,
      )
      go false e = absurd (none_some (sym (tables.others t x (fails (member t v.claimed) e)).0 ∙ p))

  quiet : (x : ℕ) (h : Hold) → at x l ≡ Some h → tokens.first_conflict v.tokens s x h ≡ None
  quiet x h p = none-pass (tokens.is_conflict s h) (tokens.holders v.tokens x) (λ g c. go g c (g.0 == s) refl)
    where
      most : rank h ≤ rank (eff_hold (eff w s x))
      most = subst (λ o. rank (or_else Free o) ≤ rank (eff_hold (eff w s x))) p ((fits.1 x).1)

      go : (g : tokens.Holder) → Contains (tokens.holders v.tokens x) g → (b : Bool) → (g.0 == s) ≡ b → (not b && clash g.1 h) ≡ false
      go g c true e = refl
      go g c false e =
          let its = holder-effective g.0 x g.1 g.2 (holder_has v.tokens x g tables.sound.rising c) in
          let apart : T (not (clash (eff_hold (eff w s x)) (eff_hold (eff w g.0 x)))) = agree.exclusive s g.0 x (λ q. absurd (differs g.0 s (sym q) e)) is_open its.0 in
          clash-turn g.1 h ∙ is-false (clash h g.1) (clash-below h (eff_hold (eff w s x)) g.1 most (subst (λ z. T (not (clash (eff_hold (eff w s x)) z))) its.1 apart))
        where
          differs : (n m : ℕ) → n ≡ m → (n == m) ≡ false → ⊥
          differs n m q f = grind arith

  pub claims-clear : tokens.first_clash v.tokens s l ≡ None
  claims-clear = go l (found-each l rising)
    where
      go : (es : Table Hold) → Each (λ e. at e.0 l ≡ Some e.1) es → tokens.first_clash v.tokens s es ≡ None
      go [] h = refl
      go (e ∷ es) h = ap (λ o. tokens.clash_at e.0 o (tokens.first_clash v.tokens s es)) (quiet e.0 e.1 h.0) ∙ go es h.1
