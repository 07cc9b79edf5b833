-- A session is given sixteen new ids while the server is stopped (a record that a restart finds): the facts on tokens.
use Rattle.std.proofs.Common.{◌≡◌, ◌≢◌, sym, ap, subst, ◌∙◌, refl, arith, ℕ, suc, zero, Bool, true, false, not, ◌==◌, ◌&&◌, ◌+◌, T, ◌≤◌, ◌<◌, Option, None, Some}
use Rattle.std.specs.Prelude.{nat_le, nat_lt}
use Rattle.ec_base.specs.Tables.{at}
use Rattle.ec_volume.specs.declared.image.Image.TheVariants.{Gone}
use Rattle.ec_cache.specs.Cache.{last}
use Rattle.ec_cache.specs.declared.state.Held.{Held}
use Rattle.ec_wire.specs.declared.msg.Msg.{Msg}
use Rattle.ec_wire.specs.declared.msg.Msg.TheVariants.{Want, Back, Room, Claim, Grant, Recall, Ids, Flush, Bye, Opened, Restarted}
use Rattle.ec_coherence.specs.System.{Eff, at_session}
use Rattle.ec_coherence.specs.Tokens.{Below, Fits, InSession, Names, Side, TokensAgree, View, in_sixteen, is_hidden, is_untaken}
use Rattle.ec_coherence.proofs.ForServer.Restart.{down}
use Rattle.ec_coherence.proofs.ForServer.Tables.{by-session, each-map}
use Rattle.ec_base.proofs.Numbers.{same-self as same}
use Rattle.ec_base.proofs.Bools.{not-both as refutes, holds-true as holds}

module _ (w : View) (s : ℕ) (agree : TokensAgree (down w)) (taken : T (w.taken s)) (one_next : w.next_token ≡ w.next_id) (full : InSession w s (λ k. k.got ≡ w.grants s))
    (gone : (x : ℕ) → w.next_id ≤ x → w.seen s x ≡ Gone) where
  abbrev first : ℕ
  first = w.next_id

  abbrev pub given : View
  given = record (down w) { next_id = first + 16; next_token = first + 16; grants = at_session s (w.grants s + 1) w.grants; first = at_session s first w.first }

  from-first : (x : ℕ) → T (in_sixteen first x) → first ≤ x
  from-first x i = least x first i
    where
      least : (x f : ℕ) → T (nat_le f x && nat_lt x (f + 16)) → f ≤ x
      least x f i = grind arith

  -- nobody knows one of them
  nobody : (t x : ℕ) → first ≤ x → w.old t x ≡ None
  nobody t x l = go (w.old t x) refl
    where
      go : (o : Option Eff) → w.old t x ≡ o → o ≡ None
      go None p = refl
      go (Some f) p = absurd (let a = (agree.known t x f p).0 in omega (arith, a, l, one_next))

  nothing-held : (x : ℕ) → first ≤ x → InSession w s (λ k. (at x k.cache.held ≡ None) × (last x k.cache ≡ 0))
  nothing-held x l k i = (go (at x k.cache.held) refl (subst (Below k.epoch (last x k.cache) (at x k.cache.held)) (nobody s x l) (agree.below s x k i)), agree.lasts s x k i l)
    where
      go : (o : Option Held) → at x k.cache.held ≡ o → Below k.epoch (last x k.cache) o None → o ≡ None
      go None p b = refl
      go (Some h) p b = absurd b

  not-hidden : (t x : ℕ) → first ≤ x → T (not (is_hidden w t x))
  not-hidden t x l = go (w.clerk t) refl
    where
      go : (o : Option Side) → w.clerk t ≡ o → T (not (is_untaken (w.grants t) (w.first t) o x))
      go None p = tt
      go (Some k) p = by (w.first t) (k.got + 1 == w.grants t) (in_sixteen (w.first t) x) refl refl
        where
          by : (f : ℕ) (a b : Bool) → (k.got + 1 == w.grants t) ≡ a → in_sixteen (w.first t) x ≡ b → T (not (a && b))
          by f true true e i = let g = agree.given t (some-grants k.got (w.grants t) e) in absurd (let a = g.0 in let b = upper x (w.first t) i in omega arith)
            where
              some-grants : (a b : ℕ) → (a + 1 == b) ≡ true → 1 ≤ b
              some-grants a b e = grind arith

              upper : (x f : ℕ) → (nat_le f x && nat_lt x (f + 16)) ≡ true → x < f + 16
              upper x f e = grind arith
          by f true false e i = tt
          by f false b e i = tt

  outside : (x : ℕ) → x < first → T (not (in_sixteen first x))
  outside x l = less x first l
    where
      less : (x f : ℕ) → x < f → T (not (nat_le f x && nat_lt x (f + 16)))
      less x f l = grind arith

  grants-s : given.grants s ≡ w.grants s + 1
  grants-s = ap (λ b. elim b as (λ z. ℕ) [ true ↦ w.grants s + 1 | false ↦ w.grants s ]) (same s)

  first-s : given.first s ≡ first
  first-s = ap (λ b. elim b as (λ z. ℕ) [ true ↦ first | false ↦ w.first s ]) (same s)

  grants-other : (t : ℕ) → (t == s) ≡ false → given.grants t ≡ w.grants t
  grants-other t d = ap (λ b. elim b as (λ z. ℕ) [ true ↦ w.grants s + 1 | false ↦ w.grants t ]) d

  first-other : (t : ℕ) → (t == s) ≡ false → given.first t ≡ w.first t
  first-other t d = ap (λ b. elim b as (λ z. ℕ) [ true ↦ first | false ↦ w.first t ]) d

  hidden-other : (t x : ℕ) → (t == s) ≡ false → is_hidden given t x ≡ is_hidden w t x
  hidden-other t x d = ap (λ a. is_untaken a (given.first t) (w.clerk t) x) (grants-other t d) ∙ ap (λ f. is_untaken (w.grants t) f (w.clerk t) x) (first-other t d)

  hidden-own : (x : ℕ) → T (is_hidden given s x) → T (in_sixteen first x)
  hidden-own x h = go (w.clerk s) (subst (λ f. T (is_untaken (given.grants s) f (w.clerk s) x)) first-s h)
    where
      go : (o : Option Side) → T (is_untaken (given.grants s) first o x) → T (in_sixteen first x)
      go None h = absurd h
      go (Some k) h = right (k.got + 1 == given.grants s) h
        where
          right : (a : Bool) → T (a && in_sixteen first x) → T (in_sixteen first x)
          right true h = h
          right false h = absurd h

  hidden-new : (t x : ℕ) → x < first → T (not (is_hidden w t x)) → T (not (is_hidden given t x))
  hidden-new t x l = by-session s t (λ u. T (not (is_hidden w u x)) → T (not (is_hidden given u x))) (λ h. go (is_hidden given s x) refl)
      (λ d h. subst (λ b. T (not b)) (sym (hidden-other t x d)) h)
    where
      go : (b : Bool) → is_hidden given s x ≡ b → T (not b)
      go true e = refutes (in_sixteen first x) (hidden-own x (holds (is_hidden given s x) e)) (outside x l)
      go false e = tt

  named : (x : ℕ) → Names w x → Names given x
  named x q = ((let a = q.0 in omega arith), λ t. hidden-new t x q.0 (q.1 t))

  message-kept : (m : Msg) → Fits (down w) m → Fits given m
  message-kept (Want t e x h l) q = (q.0, q.1, named x q.2, q.3)
  message-kept (Back t e x m h) q = (q.0, named x q.1, q.2)
  message-kept (Room t e got ask) q = (q.0, λ k i. ((q.1 k i).0, λ a o. tt))
  message-kept (Claim t e l) q = (q.0, q.1, each-map (λ c. Names w c.0) (λ c. Names given c.0) l (λ c. named c.0) q.2)
  message-kept (Grant t e x m h i) q = (q.0, q.1, q.2, named x q.3, q.4)
  message-kept (Recall t e x m h) q = (q.0, named x q.1)
  message-kept (Ids t e got m f) q = (
    q.0,
    q.1,
    q.2,
    by-session s t (λ u. got < w.grants u → got < given.grants u) (λ l. subst (λ z. got < z) (sym grants-s) (omega (arith, l))) (λ d l. subst (λ z. got < z) (sym (grants-other t d)) l) q.3,
    by-session s t (λ u. got < w.grants u → (got + 1 ≡ w.grants u → f ≡ w.first u) → got + 1 ≡ given.grants u → f ≡ given.first u)
        (λ l g z. absurd (let a = grants-s in omega (arith, a, l, z))) (λ d l g z. g (z ∙ grants-other t d) ∙ sym (first-other t d)) q.3 q.4,
    q.5,
  )
  message-kept (Flush t e b ops) q = q
  message-kept (Bye t e) q = q
  message-kept (Opened age t e) q = q
  message-kept (Restarted t e) q = q
  message-kept _ q = q

  alone : (t x : ℕ) → T (is_hidden given t x) → ((u : ℕ) → u ≢ t → (w.old u x ≡ None) × T (not (is_hidden given u x))) × InSession w t (λ k. (at x k.cache.held ≡ None) × (last x k.cache ≡ 0)) × (w.seen t x ≡ Gone)
  alone t x = by-session s t (λ a. T (is_hidden given a x) → ((u : ℕ) → u ≢ a → (w.old u x ≡ None) × T (not (is_hidden given u x))) × InSession w a (λ k. (at x k.cache.held ≡ None) × (last x k.cache ≡ 0)) × (w.seen a x ≡ Gone))
      (λ h. let l = from-first x (hidden-own x h) in (λ u d. (nobody u x l, subst (λ b. T (not b)) (sym (hidden-other u x (away u s d))) (not-hidden u x l)), nothing-held x l, gone x l))
      (λ d h. let o = subst T (hidden-other t x d) h in let q = agree.alone t x o in (λ u e. let r = q.0 u e in (r.0, hidden-new u x (low o) r.1), q.1, q.2))
    where
      away : (u s : ℕ) → u ≢ s → (u == s) ≡ false
      away u s d = grind arith

      low : T (is_hidden w t x) → x < first
      low o = go (nat_lt x first) refl
        where
          below : (x f : ℕ) → nat_lt x f ≡ true → x < f
          below x f e = grind arith

          over-it : (x f : ℕ) → nat_lt x f ≡ false → f ≤ x
          over-it x f e = grind arith

          go : (b : Bool) → nat_lt x first ≡ b → x < first
          go true e = below x first e
          go false e = absurd (refutes (is_hidden w t x) o (not-hidden t x (over-it x first e)))

  pub given-agrees : TokensAgree given
  given-agrees = record {
    held = agree.held;
    holds = agree.holds;
    known = λ t x f p. let q = agree.known t x f p in ((let a = q.0 in omega (arith, a, one_next)), q.1, q.2);
    next = omega arith;
    exclusive = agree.exclusive;
    below = agree.below;
    got = λ t k i. let q = agree.got t k i in (
      q.0,
      q.1,
      by-session s t (λ u. w.clerk u ≡ Some k → k.got ≤ w.grants u → k.got ≤ given.grants u) (λ i l. let z = grants-s in omega (arith, z, l)) (λ d i l. let z = grants-other t d in omega (arith, z, l)) i q.2,
      by-session s t (λ u. w.clerk u ≡ Some k → w.grants u ≤ k.got + 1 → given.grants u ≤ k.got + 1) (λ i l. let z = grants-s in let y = full k i in omega (arith, z, y)) (λ d i l. let z = grants-other t d in omega (arith, z, l)) i q.3,
    );
    given = λ t. by-session s t (λ u. suc zero ≤ given.grants u → (given.first u + 16 ≤ first + 16) × T (w.taken u)) (λ l. ((let z = first-s in omega (arith, z)), taken))
        (λ d l. let q = agree.given t (let z = grants-other t d in omega (arith, z, l)) in ((let z = first-other t d in let y = q.0 in omega (arith, z, y)), q.1));
    alone = alone;
    lasts = λ t x k i l. agree.lasts t x k i (omega (arith, l));
    recalled = λ t k i. each-map (λ r. Names w r.obj) (λ r. Names given r.obj) k.recalls (λ r. named r.obj) (agree.recalled t k i);
    present = agree.present;
    messages = each-map (λ m. Fits (down w) m.1) (λ m. Fits given m.1) w.pool (λ m. message-kept m.1) agree.messages;
    tables = tt;
  }
