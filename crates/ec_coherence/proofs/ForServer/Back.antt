-- The server takes a token back, or lowers it.
use Rattle.std.proofs.Common.{◌≡◌, refl, sym, ap, subst, ◌∙◌, inl, inr, arith, ℕ, Bool, true, false, not, ◌&&◌, cond, T, ◌≤◌, ◌<◌}
use Rattle.std.specs.Prelude.{◌==◌, Option, None, Some}
use Rattle.ec_base.specs.Tables.{at}
use Rattle.ec_base.specs.declared.ids.Hold.{Hold}
use Rattle.ec_base.specs.declared.ids.Hold.TheVariants.{Free, Read, Write}
use Rattle.ec_volume.specs.Update.{member}
use Rattle.ec_base.specs.Holds.{rank, clash, is_free, is_below}
use Rattle.ec_sessions.specs.OfTokens.Laws.{sound_lowered}
use Rattle.ec_sessions.specs.OfTokens.Tokens as tokens
use Rattle.ec_sessions.specs.declared.tokens.token.Token.{Token}
use Rattle.ec_wire.specs.Messages.{is_held_mode}
use Rattle.ec_cache.specs.Cache.{last}
use Rattle.ec_cache.specs.declared.state.Held.{Held}
use Rattle.ec_coherence.specs.System.{recorded}
use Rattle.ec_coherence.specs.Tokens.{Tables, View, Side, InSession, eff, eff_hold, Apart, Below, Names, BackFits, HeldAtMost, LacksMode, NotedFits, Noted, TokensAgree}
use Rattle.ec_coherence.proofs.ForServer.Changed.{over, changed}
use Rattle.ec_coherence.proofs.ForServer.OneRow.{One, one-agrees}
use Rattle.ec_coherence.proofs.ForServer.Tables.{token-lowered, clash-below, each-map}
use Rattle.ec_coherence.proofs.ForServer.Was.{was-known, was-apart, was-below, some-recorded}

-- a token that can be given back so: its number, and its mode isn't below
fits-is : (o : Option Token) (n : ℕ) (h : Hold) → tokens.fits_back o n h ≡ true → (t : Token) × (o ≡ Some t) × (t.number ≡ n) × (rank h ≤ rank t.hold)
fits-is None n h e = absurd (cc)
fits-is (Some t) n h e = (t, refl, first t.number (is_below t.hold h) e, second (t.number == n) (rank t.hold) (rank h) e)
  where
    first : (a : ℕ) (b : Bool) → ((a == n) && not b) ≡ true → a ≡ n
    first a b e = grind arith

    second : (b : Bool) (i j : ℕ) → (b && not (Rattle.std.specs.Prelude.nat_lt i j)) ≡ true → j ≤ i
    second b i j e = grind arith

-- what is left of it
abbrev left : Hold → ℕ → Option Token
left h n = cond (is_free h) None (Some (record { hold = h; number = n }))

module _ (w : View) (v : Tables) (s e x n : ℕ) (h : Hold) (agree : TokensAgree (over v w)) (claimed : T (member s v.claimed)) (epoch : e ≡ w.epoch) (names : Names w x)
    (sent : InSession w s (λ k. BackFits k.epoch e n h (at x k.cache.held) (last x k.cache))) (fits : tokens.fits_back (tokens.token v.tokens s x) n h ≡ true) where
  abbrev ts : tokens.Tokens
  ts = tokens.lowered s x h n v.tokens

  before : (t : Token) × (tokens.token v.tokens s x ≡ Some t) × (t.number ≡ n) × (rank h ≤ rank t.hold)
  before = fits-is (tokens.token v.tokens s x) n h fits

  mode-left : eff_hold (recorded (left h n) w.epoch) ≡ h
  mode-left = go h
    where
      go : (h : Hold) → eff_hold (recorded (left h n) w.epoch) ≡ h
      go Free = refl
      go Read = refl
      go Write = refl

  said : (k : Side) → w.clerk s ≡ Some k → (n ≤ last x k.cache) × HeldAtMost (at x k.cache.held) n h
  said k i = sent k i (epoch ∙ sym (agree.tables.epochs s claimed k i))

  -- what is held has this number, and is at most what is left
  holds-less : (k : Side) → w.clerk s ≡ Some k → (d : Held) → at x k.cache.held ≡ Some d → (d.number ≡ n) × (d.number ≡ last x k.cache) × (rank d.hold ≤ rank h)
  holds-less k i d p = let m = at-most (at x k.cache.held) p (said k i).1 in let q = below-is (at x k.cache.held) p (subst (λ o. Below k.epoch (last x k.cache) (at x k.cache.held) (recorded o w.epoch)) before.1 (was-below w v s agree claimed x k i)) in
      let same : d.number ≡ n = let a = m.0 in let b = q.1 in let c = before.2 in omega arith in
      (same, q.0, m.1 (sym same))
    where
      at-most : (o : Option Held) → o ≡ Some d → HeldAtMost o n h → (n ≤ d.number) × (n ≡ d.number → rank d.hold ≤ rank h)
      at-most o p m = subst (λ z. HeldAtMost z n h) p m

      below-is : (o : Option Held) → o ≡ Some d → Below k.epoch (last x k.cache) o (Some (record { hold = (before.0).hold; number = (before.0).number; epoch = w.epoch })) → (d.number ≡ last x k.cache) × (d.number ≤ (before.0).number)
      below-is o p b = go (subst (λ z. Below k.epoch (last x k.cache) z (Some (record { hold = (before.0).hold; number = (before.0).number; epoch = w.epoch }))) p b)
        where
          go : Below k.epoch (last x k.cache) (Some d) (Some (record { hold = (before.0).hold; number = (before.0).number; epoch = w.epoch })) → (d.number ≡ last x k.cache) × (d.number ≤ (before.0).number)
          go b = (b.1, elim (b.2) [ inl q ↦ q.1 | inr q ↦ (let a = q.1 in omega arith) ])

  held-mode-of : (k : Side) → w.clerk s ≡ Some k → (d : Held) → at x k.cache.held ≡ Some d → T (is_held_mode d.hold)
  held-mode-of k i d p = agree.holds s x k i d p

  below-left : (k : Side) → w.clerk s ≡ Some k → Below k.epoch (last x k.cache) (at x k.cache.held) (recorded (left h n) w.epoch)
  below-left k i = go (at x k.cache.held) refl
    where
      go : (o : Option Held) → at x k.cache.held ≡ o → Below k.epoch (last x k.cache) o (recorded (left h n) w.epoch)
      go None p = tt
      go (Some d) p = let q = holds-less k i d p in by-mode h d.hold (held-mode-of k i d p) q.2
        where
          by-mode : (h a : Hold) → T (is_held_mode a) → rank a ≤ rank h → Below k.epoch (last x k.cache) (Some (record d { hold = a })) (recorded (left h n) w.epoch)
          by-mode Free Free t l = absurd t
          by-mode Free Read t l = absurd (omega arith)
          by-mode Free Write t l = absurd (omega arith)
          by-mode Read a t l = let q = holds-less k i d p in (l, q.1, inl (sym (agree.tables.epochs s claimed k i), (let b = q.0 in omega arith), λ c. absurd (let b = q.0 in omega arith)))
          by-mode Write a t l = let q = holds-less k i d p in (l, q.1, inl (sym (agree.tables.epochs s claimed k i), (let b = q.0 in omega arith), λ c. absurd (let b = q.0 in omega arith)))

  noted-left : (g : Hold) (k : Side) → w.clerk s ≡ Some k → NotedFits g (tokens.token v.tokens s x) (at x k.cache.held) (last x k.cache) → NotedFits g (left h n) (at x k.cache.held) (last x k.cache)
  noted-left g k i f = go (is_free h) refl (subst (λ o. NotedFits g o (at x k.cache.held) (last x k.cache)) before.1 f)
    where
      go : (b : Bool) → is_free h ≡ b → NotedFits g (Some before.0) (at x k.cache.held) (last x k.cache) → NotedFits g (cond b None (Some (record { hold = h; number = n }))) (at x k.cache.held) (last x k.cache)
      go true p q = none (at x k.cache.held) refl
        where
          none : (o : Option Held) → at x k.cache.held ≡ o → o ≡ None
          none None z = refl
          none (Some d) z = absurd (low h d.hold p (held-mode-of k i d z) (holds-less k i d z).2)
            where
              low : (h a : Hold) → is_free h ≡ true → T (is_held_mode a) → rank a ≤ rank h → ⊥
              low Free Free p t l = t
              low Free Read p t l = absurd (omega arith)
              low Free Write p t l = absurd (omega arith)
              low Read a p t l = absurd (cc)
              low Write a p t l = absurd (cc)
      go false p q = subst (λ m. (m ≤ last x k.cache) × LacksMode (at x k.cache.held) m g) before.2 q

  one : One w v ts v.recalls v.number s x (left h n)
  one = record {
    claimed = claimed;
    taken = (was-known w v s agree claimed x before.0 before.1).1;
    shape = token-lowered v.tokens s x h n;
    sound = sound_lowered v.tokens s agree.tables.sound x h n fits;
    apart = λ t d o. subst (λ m. T (not (clash m (eff_hold (eff (over v w) t x))))) (sym mode-left)
        (clash-below h (before.0).hold (eff_hold (eff (over v w) t x)) before.3 (subst (λ z. Apart (recorded z w.epoch) (eff (over v w) t x)) before.1 (was-apart w v s agree claimed t x d o)));
    known = λ t p. let q = was-known w v s agree claimed x before.0 before.1 in (q.0, subst (λ m. m ≤ v.number) (before.2 ∙ sym (number-left t p)) q.2);
    below = below-left;
    live = λ a m g k i p l f. absurd (dead a m g k i l f);
    names = names;
    number = omega arith;
    wants = each-map (Noted (over v w) v) _ v.recalls (λ q f. (
      f,
      λ a b k i. noted-left q.hold k i (subst (λ t. NotedFits q.hold (tokens.token v.tokens t x) (at x k.cache.held) (last x k.cache)) a
          (subst (λ y. NotedFits q.hold (tokens.token v.tokens q.session y) (at y k.cache.held) (last y k.cache)) b (f.4 k (subst (λ t. w.clerk t ≡ Some k) (sym a) i)))),
    )) agree.tables.wants;
    distinct = agree.tables.apart;
  }
    where
      number-left : (t : Token) → left h n ≡ Some t → t.number ≡ n
      number-left t p = go (is_free h) p
        where
          go : (b : Bool) → cond b None (Some (record { hold = h; number = n })) ≡ Some t → t.number ≡ n
          go true p = absurd (cc)
          go false p = cc

      dead : (a m : ℕ) (g : Hold) (k : Side) → w.clerk s ≡ Some k → last x k.cache < m → recorded (tokens.token v.tokens s x) w.epoch ≡ Some (record { hold = g; number = m; epoch = a }) → ⊥
      dead a m g k i l f = let q = some-recorded (tokens.token v.tokens s x) w.epoch _ f in
          let same : q.0 ≡ before.0 = (let c = sym q.1 ∙ before.1 in cc) in
          let b = (said k i).0 in let c = before.2 in let d = ap (λ t. t.number) same in let r = q.3 in absurd (omega arith)

  pub back-agrees : TokensAgree (over (changed ts v.recalls v.claimed v.number v.recorded) w)
  back-agrees = one-agrees w v ts v.recalls v.number s x (left h n) agree one
