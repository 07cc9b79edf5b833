-- Sixteen new ids are given to a session, with their tokens.
use Rattle.std.proofs.Common.{◌≡◌, ◌≢◌, refl, sym, ap, subst, ◌∙◌, arith, ℕ, zero, suc, Bool, true, false, not, ◌&&◌, T, ◌≤◌, ◌<◌, ◌+◌, [], ◌∷◌, ◌++◌}
use Rattle.std.specs.Prelude.{◌==◌, Option, None, Some, is_some, nat_le, nat_lt}
use Rattle.ec_base.specs.Tables.{at, put}
use Rattle.ec_base.specs.declared.ids.Hold.TheVariants.{Write}
use Rattle.ec_volume.specs.Update.{member}
use Rattle.ec_volume.specs.declared.image.Image.TheVariants.{Gone}
use Rattle.ec_sessions.specs.OfTokens.Tokens as tokens
use Rattle.ec_wire.specs.declared.msg.Msg.{Msg}
use Rattle.ec_wire.specs.declared.msg.Msg.TheVariants.{Want, Back, Flush, Room, Claim, Bye, Opened, Grant, Recall, Ids, Restarted}
use Rattle.ec_cache.specs.Cache.{last}
use Rattle.ec_cache.specs.declared.state.Held.{Held}
use Rattle.ec_sessions.specs.Slots.{run}
use Rattle.ec_protocol.specs.Server.{with_ids}
use Rattle.ec_coherence.specs.System.{Eff, at_session}
use Rattle.ec_coherence.specs.Tokens.{Tables, View, Side, InSession, eff, Below, Names, IdsFit, RoomFits, Noted, in_sixteen, is_hidden, is_untaken, Fits, TablesAgree, TokensAgree}
use Rattle.ec_coherence.proofs.ForServer.Changed.{over, changed}
use Rattle.ec_coherence.proofs.ForServer.RecordIds as ids
use Rattle.ec_coherence.proofs.ForServer.Said.{with_pool, said-agrees}
use Rattle.ec_coherence.proofs.ForServer.Tables.{each-map, by-session}
use Rattle.ec_coherence.proofs.ForServer.Was.{eff-is, none-recorded}
use Rattle.ec_base.proofs.Numbers.{same-self as same}
use Rattle.ec_base.proofs.Options.{none_some}
use Rattle.ec_base.proofs.Bools.{not-both as refutes, holds-true as holds}

module _ (w : View) (v : Tables) (s : ℕ) (agree : TokensAgree (over v w)) (claimed : T (member s v.claimed)) (taken : T (w.taken s)) (one_next : w.next_token ≡ w.next_id)
    (full : InSession w s (λ k. k.got ≡ w.grants s)) (gone : (x : ℕ) → w.next_id ≤ x → w.seen s x ≡ Gone) where
  abbrev first : ℕ
  first = w.next_id

  -- tokens may be on the new ids
  abbrev raised : View
  raised = record w { next_token = first + 16 }

  raised-tables : TablesAgree (over v raised) v
  raised-tables = let a = agree.tables in record {
    sound = a.sound;
    are_open = a.are_open;
    epochs = a.epochs;
    others = a.others;
    wants = a.wants;
    apart = a.apart;
    numbers = a.numbers;
    recorded = a.recorded;
    unrecorded = a.unrecorded;
  }

  raised-agrees : TokensAgree (over v raised)
  raised-agrees = record {
    held = agree.held;
    holds = agree.holds;
    known = λ t x f p. let q = agree.known t x f p in ((let a = q.0 in omega arith), q.1, q.2);
    next = omega arith;
    exclusive = agree.exclusive;
    below = agree.below;
    got = agree.got;
    given = agree.given;
    alone = agree.alone;
    lasts = agree.lasts;
    recalled = agree.recalled;
    present = agree.present;
    messages = each-map (λ m. Fits (over v w) m.1) (λ m. Fits (over v raised) m.1) w.pool (λ m q. q) agree.messages;
    tables = raised-tables;
  }

  from-first : (x : ℕ) → T (in_sixteen first x) → first ≤ x
  from-first x i = least x first i
    where
      least : (x f : ℕ) → T (nat_le f x && nat_lt x (f + 16)) → f ≤ x
      least x f i = grind arith

  -- nobody knows one of them
  nobody : (t x : ℕ) → first ≤ x → eff (over v w) t x ≡ None
  nobody t x l = go (eff (over v w) t x) refl
    where
      go : (o : Option Eff) → eff (over v w) t x ≡ o → o ≡ None
      go None p = refl
      go (Some f) p = absurd (let a = (agree.known t x f p).0 in omega arith)

  nothing-held : (x : ℕ) → first ≤ x → InSession w s (λ k. (at x k.cache.held ≡ None) × (last x k.cache ≡ 0))
  nothing-held x l k i = (go (at x k.cache.held) refl (subst (Below k.epoch (last x k.cache) (at x k.cache.held)) (nobody s x l) (agree.below s x k i)), agree.lasts s x k i l)
    where
      go : (o : Option Held) → at x k.cache.held ≡ o → Below k.epoch (last x k.cache) o None → o ≡ None
      go None p b = refl
      go (Some h) p b = absurd b

  not-hidden : (t x : ℕ) → first ≤ x → T (not (is_hidden w t x))
  not-hidden t x l = go (w.clerk t) refl
    where
      go : (o : Option Side) → w.clerk t ≡ o → T (not (is_untaken (w.grants t) (w.first t) o x))
      go None p = tt
      go (Some k) p = by (w.first t) (k.got + 1 == w.grants t) (in_sixteen (w.first t) x) refl refl
        where
          by : (f : ℕ) (a b : Bool) → (k.got + 1 == w.grants t) ≡ a → in_sixteen (w.first t) x ≡ b → T (not (a && b))
          by f true true e i = let g = agree.given t (some-grants k.got (w.grants t) e) in absurd (let a = g.0 in let b = upper x (w.first t) i in omega arith)
            where
              some-grants : (a b : ℕ) → (a + 1 == b) ≡ true → 1 ≤ b
              some-grants a b e = grind arith

              upper : (x f : ℕ) → (nat_le f x && nat_lt x (f + 16)) ≡ true → x < f + 16
              upper x f e = grind arith
          by f true false e i = tt
          by f false b e i = tt

  outside : (x : ℕ) → x < first → T (not (in_sixteen first x))
  outside x l = less x first l
    where
      less : (x f : ℕ) → x < f → T (not (nat_le f x && nat_lt x (f + 16)))
      less x f l = grind arith

  sixteen : ids.Sixteen raised v s first
  sixteen = record {
    claimed = claimed;
    taken = taken;
    below = omega arith;
    nobody = λ x t i d. nobody t x (from-first x i);
    empty = λ x i. nothing-held x (from-first x i);
    unrecorded = λ x i. none-recorded (tokens.token v.tokens s x) w.epoch (sym (eff-is w v s agree claimed x) ∙ nobody s x (from-first x i));
    own = λ x t i d. not-hidden t x (from-first x i);
    wants = each-map (Noted (over v w) v) (λ q. T (not (in_sixteen first q.obj))) v.recalls (λ q f. outside q.obj f.3.0) agree.tables.wants;
    last_ones = λ got g k i b. absurd (let a = full k i in omega arith);
  }

  abbrev pub v' : Tables
  v' = changed (with_ids s (v.number + 1) (run first 16) v.tokens) v.recalls v.claimed (v.number + 1) (put s (v.number + 1) v.recorded)

  abbrev n : ℕ
  n = v.number + 1

  with-tokens : TokensAgree (over v' raised)
  with-tokens = ids.recorded-agrees raised v s first raised-agrees sixteen

  recorded-at : at s v'.recorded ≡ Some n
  recorded-at = ids.recorded-at raised v s first raised-agrees sixteen

  own-eff : (x : ℕ) → T (in_sixteen first x) → eff (over v' w) s x ≡ Some (record { hold = Write; number = n; epoch = w.epoch })
  own-eff x i = ids.ids-recorded raised v s first raised-agrees sixteen x i

  other-eff : (t x : ℕ) → (t == s) ≡ false → eff (over v' w) t x ≡ eff (over v w) t x
  other-eff t x d = ids.others-recorded raised v s first raised-agrees sixteen t x d

  -- and now they are given
  abbrev pub given : View
  given = record raised { next_id = first + 16; grants = at_session s (w.grants s + 1) w.grants; first = at_session s first w.first }

  grants-s : given.grants s ≡ w.grants s + 1
  grants-s = ap (λ b. elim b as (λ z. ℕ) [ true ↦ w.grants s + 1 | false ↦ w.grants s ]) (same s)

  first-s : given.first s ≡ first
  first-s = ap (λ b. elim b as (λ z. ℕ) [ true ↦ first | false ↦ w.first s ]) (same s)

  grants-other : (t : ℕ) → (t == s) ≡ false → given.grants t ≡ w.grants t
  grants-other t d = ap (λ b. elim b as (λ z. ℕ) [ true ↦ w.grants s + 1 | false ↦ w.grants t ]) d

  first-other : (t : ℕ) → (t == s) ≡ false → given.first t ≡ w.first t
  first-other t d = ap (λ b. elim b as (λ z. ℕ) [ true ↦ first | false ↦ w.first t ]) d

  hidden-other : (t x : ℕ) → (t == s) ≡ false → is_hidden given t x ≡ is_hidden w t x
  hidden-other t x d = ap (λ a. is_untaken a (given.first t) (w.clerk t) x) (grants-other t d) ∙ ap (λ f. is_untaken (w.grants t) f (w.clerk t) x) (first-other t d)

  hidden-own : (x : ℕ) → T (is_hidden given s x) → T (in_sixteen first x)
  hidden-own x h = go (w.clerk s) (subst (λ f. T (is_untaken (given.grants s) f (w.clerk s) x)) first-s h)
    where
      go : (o : Option Side) → T (is_untaken (given.grants s) first o x) → T (in_sixteen first x)
      go None h = absurd h
      go (Some k) h = right (k.got + 1 == given.grants s) h
        where
          right : (a : Bool) → T (a && in_sixteen first x) → T (in_sixteen first x)
          right true h = h
          right false h = absurd h

  hidden-new : (t x : ℕ) → x < first → T (not (is_hidden w t x)) → T (not (is_hidden given t x))
  hidden-new t x l = by-session s t (λ u. T (not (is_hidden w u x)) → T (not (is_hidden given u x))) (λ h. go (is_hidden given s x) refl)
      (λ d h. subst (λ b. T (not b)) (sym (hidden-other t x d)) h)
    where
      go : (b : Bool) → is_hidden given s x ≡ b → T (not b)
      go true e = refutes (in_sixteen first x) (hidden-own x (holds (is_hidden given s x) e)) (outside x l)
      go false e = tt

  named : (x : ℕ) → Names w x → Names given x
  named x q = ((let a = q.0 in omega arith), λ t. hidden-new t x q.0 (q.1 t))

  not-none : at s v'.recorded ≡ None → ⊥
  not-none p = none_some (sym p ∙ recorded-at)

  room-kept : (t e got : ℕ) (k : Side) → RoomFits (over v' raised) t e got k → RoomFits (over v' given) t e got k
  room-kept t e got k f = (
    f.0,
    λ a o. by-session s t (λ u. (at u v'.recorded ≡ None → got + 1 ≡ w.grants u → got ≡ k.got) → at u v'.recorded ≡ None → got + 1 ≡ given.grants u → got ≡ k.got)
        (λ g r z. absurd (not-none r)) (λ d g r z. g r (z ∙ grants-other t d)) (f.1 a o),
  )

  message-kept : (m : Msg) → Fits (over v' raised) m → Fits (over v' given) m
  message-kept (Want t e x h l) q = (q.0, q.1, named x q.2, q.3)
  message-kept (Back t e x m h) q = (q.0, named x q.1, q.2)
  message-kept (Room t e got ask) q = (q.0, λ k i. room-kept t e got k (q.1 k i))
  message-kept (Claim t e l) q = (q.0, q.1, each-map (λ c. Names w c.0) (λ c. Names given c.0) l (λ c. named c.0) q.2)
  message-kept (Grant t e x m h i) q = (q.0, q.1, q.2, named x q.3, q.4)
  message-kept (Recall t e x m h) q = (q.0, named x q.1)
  message-kept (Ids t e got m f) q = (
    q.0,
    q.1,
    q.2,
    by-session s t (λ u. got < w.grants u → got < given.grants u) (λ l. subst (λ z. got < z) (sym grants-s) (omega arith)) (λ d l. subst (λ z. got < z) (sym (grants-other t d)) l) q.3,
    by-session s t (λ u. got < w.grants u → (got + 1 ≡ w.grants u → f ≡ w.first u) → got + 1 ≡ given.grants u → f ≡ given.first u)
        (λ l g z. absurd (let a = grants-s in omega arith)) (λ d l g z. g (z ∙ grants-other t d) ∙ sym (first-other t d)) q.3 q.4,
    q.5,
  )
  message-kept (Flush t e b ops) q = q
  message-kept (Bye t e) q = q
  message-kept (Opened age t e) q = q
  message-kept (Restarted t e) q = q
  message-kept _ q = q

  new-ids : (e got : ℕ) → e ≡ w.epoch → InSession w s (IdsFit (over v' given) s e got n first)
  new-ids e got p k i a b x z = let l = from-first x z in let q = nothing-held x l k i in
      (own-eff x z ∙ ap (λ u. Some (record { hold = Write; number = n; epoch = u })) (sym p), q.0, (let r = q.1 in omega arith), gone x l)

  tables : TablesAgree (over v' given) v'
  tables = let a = with-tokens.tables in record {
    sound = a.sound;
    are_open = a.are_open;
    epochs = a.epochs;
    others = a.others;
    wants = each-map (Noted (over v' raised) v') (Noted (over v' given) v') v'.recalls (λ q f. (f.0, f.1, f.2, named q.obj f.3, f.4)) a.wants;
    apart = a.apart;
    numbers = a.numbers;
    recorded = λ t m p. let r = a.recorded t m p in (
      r.0,
      r.1,
      by-session s t (λ u. at u v'.recorded ≡ Some m → ((got : ℕ) → got + 1 ≡ w.grants u → InSession w u (IdsFit (over v' raised) u w.epoch got m (w.first u))) → (got : ℕ) → got + 1 ≡ given.grants u → InSession w u (IdsFit (over v' given) u w.epoch got m (given.first u)))
          (λ q f got g. subst (λ z. InSession w s (IdsFit (over v' given) s w.epoch got z (given.first s))) (number-is m q) (subst (λ z. InSession w s (IdsFit (over v' given) s w.epoch got n z)) (sym first-s) (new-ids w.epoch got refl)))
          (λ d q f got g. subst (λ z. InSession w t (IdsFit (over v' given) t w.epoch got m z)) (sym (first-other t d)) (f got (g ∙ grants-other t d))) p r.2,
    );
    unrecorded = λ t x c p. by-session s t (λ u. T (member u v'.claimed) → at u v'.recorded ≡ None → T (is_hidden given u x) → tokens.token v'.tokens u x ≡ None)
        (λ c p h. absurd (not-none p)) (λ d c p h. a.unrecorded t x c p (subst T (hidden-other t x d) h)) c p;
  }
    where
      number-is : (m : ℕ) → at s v'.recorded ≡ Some m → n ≡ m
      number-is m q = let r = sym recorded-at ∙ q in cc

  pub given-agrees : TokensAgree (over v' given)
  given-agrees = let a = with-tokens in record {
    held = a.held;
    holds = a.holds;
    known = a.known;
    next = omega arith;
    exclusive = a.exclusive;
    below = a.below;
    got = λ t k i. let q = agree.got t k i in (
      q.0,
      q.1,
      by-session s t (λ u. w.clerk u ≡ Some k → k.got ≤ w.grants u → k.got ≤ given.grants u) (λ i l. let z = grants-s in omega arith) (λ d i l. let z = grants-other t d in omega arith) i q.2,
      by-session s t (λ u. w.clerk u ≡ Some k → w.grants u ≤ k.got + 1 → given.grants u ≤ k.got + 1) (λ i l. let z = grants-s in let y = full k i in omega arith) (λ d i l. let z = grants-other t d in omega arith) i q.3,
    );
    given = λ t. by-session s t (λ u. suc zero ≤ given.grants u → (given.first u + 16 ≤ first + 16) × T (w.taken u)) (λ l. ((let z = first-s in omega arith), taken))
        (λ d l. let q = agree.given t (let z = grants-other t d in omega arith) in ((let z = first-other t d in let y = q.0 in omega arith), q.1));
    alone = alone;
    lasts = λ t x k i l. agree.lasts t x k i (omega arith);
    recalled = λ t k i. each-map (λ r. Names w r.obj) (λ r. Names given r.obj) k.recalls (λ r. named r.obj) (agree.recalled t k i);
    present = agree.present;
    messages = each-map (λ m. Fits (over v' raised) m.1) (λ m. Fits (over v' given) m.1) w.pool (λ m. message-kept m.1) a.messages;
    tables = tables;
  }
    where
      alone : (t x : ℕ) → T (is_hidden given t x) → ((u : ℕ) → u ≢ t → (eff (over v' w) u x ≡ None) × T (not (is_hidden given u x)))
          × InSession w t (λ k. (at x k.cache.held ≡ None) × (last x k.cache ≡ 0)) × (w.seen t x ≡ Gone)
      alone t x = by-session s t (λ a. T (is_hidden given a x) → ((u : ℕ) → u ≢ a → (eff (over v' w) u x ≡ None) × T (not (is_hidden given u x))) × InSession w a (λ k. (at x k.cache.held ≡ None) × (last x k.cache ≡ 0)) × (w.seen a x ≡ Gone))
          (λ h. let i = hidden-own x h in let l = from-first x i in
          (λ u d. (other-eff u x (away u s d) ∙ nobody u x l, subst (λ b. T (not b)) (sym (hidden-other u x (away u s d))) (not-hidden u x l)), nothing-held x l, gone x l))
          (λ d h. let o = subst T (hidden-other t x d) h in let q = with-tokens.alone t x o in
          (λ u e. let r = q.0 u e in (r.0, hidden-new u x (low o) r.1), q.1, q.2))
        where
          away : (u s : ℕ) → u ≢ s → (u == s) ≡ false
          away u s d = grind arith

          low : T (is_hidden w t x) → x < first
          low o = go (nat_lt x first) refl
            where
              go : (b : Bool) → nat_lt x first ≡ b → x < first
              go true e = below x first e
                where
                  below : (x f : ℕ) → nat_lt x f ≡ true → x < f
                  below x f e = grind arith
              go false e = absurd (refutes (is_hidden w t x) o (not-hidden t x (over-it x first e)))
                where
                  over-it : (x f : ℕ) → nat_lt x f ≡ false → f ≤ x
                  over-it x f e = grind arith

  -- and the message says so
  pub given-said : (c : ℕ) → TokensAgree (over v' (with_pool (w.pool ++ (c, Ids s w.epoch (w.grants s) n first) ∷ []) given))
  given-said c = said-agrees given v' c (Ids s w.epoch (w.grants s) n first) given-agrees (
    (taken, omega arith, λ k i. (let q = agree.tables.epochs s claimed k i in omega arith)),
    (λ e o. (claimed, omega arith)),
    (λ e o. subst (λ z. T (is_some z)) (sym recorded-at) tt),
    subst (λ z. w.grants s < z) (sym grants-s) (omega arith),
    (λ e. sym first-s),
    λ k i. new-ids w.epoch (w.grants s) refl k i,
  )
