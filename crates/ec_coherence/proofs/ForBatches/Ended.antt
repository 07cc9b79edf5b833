-- A session ends: its tokens are forgotten, and what was effective stays as it was.
use Rattle.std.proofs.Common.{◌≡◌, refl, sym, ap, subst, ◌∙◌, arith, ℕ, Bool, true, false, not, ◌&&◌, ◌||◌, cond, T, ◌≤◌, List, [], ◌∷◌, filter}
use Rattle.std.specs.Prelude.{◌==◌, Option, None, Some, is_some}
use Rattle.ec_base.specs.Tables.{at, at_or, without}
use Rattle.ec_base.specs.declared.ids.Hold.{Hold}
use Rattle.ec_base.specs.declared.ids.Hold.TheVariants.{Free, Read, Write}
use Rattle.ec_volume.specs.Update.{member}
use Rattle.ec_volume.specs.declared.image.Image.{Image}
use Rattle.ec_history.specs.History.{Each}
use Rattle.ec_base.specs.Holds.{clash, rank, is_write}
use Rattle.ec_sessions.specs.OfTokens.Laws.{sound_without}
use Rattle.ec_sessions.specs.OfTokens.Tokens as tokens
use Rattle.ec_sessions.specs.OfRecall.Wants.{is_of}
use Rattle.ec_sessions.specs.declared.recall.want.Want as want
use Rattle.ec_wire.specs.Messages.{is_held_mode}
use Rattle.ec_wire.specs.declared.msg.Msg.{Msg}
use Rattle.ec_wire.specs.declared.msg.Msg.TheVariants.{Want, Back, Flush, Room, Claim, Bye, Opened, Grant, Recall, Ids, Restarted}
use Rattle.ec_cache.specs.Cache.{last}
use Rattle.ec_coherence.specs.System.{Eff, eff_from}
use Rattle.ec_coherence.specs.Tokens.{Tables, View, Side, eff, eff_hold, Apart, Below, IdsFit, IsEarlier, OfNow, NotedFits, Noted, is_hidden, Fits, WantsAreDistinct, TablesAgree, TokensAgree}
use Rattle.ec_coherence.proofs.ForServer.Changed.{over}
use Rattle.ec_coherence.proofs.ForServer.Tables.{token-dropped, at-without, each-map, differs, fails, by-session}
use Rattle.ec_base.proofs.Numbers.{same-self as same, equal}
use Rattle.ec_base.proofs.Options.{none_some}
use Rattle.ec_base.proofs.Bools.{not-both as refutes, holds-true as holds}

-- who doesn't clash with a token that isn't Free isn't Write
not-write-beside : (a b : Hold) → T (is_held_mode b) → T (not (clash a b)) → T (not (is_write a))
not-write-beside Free b h c = tt
not-write-beside Read b h c = tt
not-write-beside Write Free h c = absurd h
not-write-beside Write Read h c = c
not-write-beside Write Write h c = c

abbrev pub forgotten : ℕ → Tables → Tables
forgotten s v =
    record {
      tokens = without s v.tokens;
      recalls = filter (λ q. not (q.session == s)) v.recalls;
      claimed = filter (λ t. not (t == s)) v.claimed;
      number = v.number;
      recorded = without s v.recorded;
    }

member-filter : (t s : ℕ) (us : List ℕ) → member t (filter (λ u. not (u == s)) us) ≡ (not (t == s) && member t us)
member-filter t s [] = none (t == s)
  where
    none : (b : Bool) → false ≡ (not b && false)
    none true = refl
    none false = refl
member-filter t s (u ∷ us) = go (u == s) (t == u) (t == s) refl refl refl (member-filter t s us)
  where
    go : (a b c : Bool) → (u == s) ≡ a → (t == u) ≡ b → (t == s) ≡ c → member t (filter (λ u. not (u == s)) us) ≡ (not c && member t us)
        → member t (cond (not a) (u ∷ filter (λ u. not (u == s)) us) (filter (λ u. not (u == s)) us)) ≡ (not c && (b || member t us))
    go true true true p q r h = h
    go true true false p q r h = absurd (no t u s p q r)
      where
        no : (t u s : ℕ) → (u == s) ≡ true → (t == u) ≡ true → (t == s) ≡ false → ⊥
        no t u s p q r = grind arith
    go true false c p q r h = h
    go false true true p q r h = absurd (no t u s p q r)
      where
        no : (t u s : ℕ) → (u == s) ≡ false → (t == u) ≡ true → (t == s) ≡ true → ⊥
        no t u s p q r = grind arith
    go false true false p q r h = ap (λ b. b || member t (filter (λ u. not (u == s)) us)) q
    go false false c p q r h = ap (λ b. b || member t (filter (λ u. not (u == s)) us)) q ∙ h

module _ (w : View) (v : Tables) (s : ℕ) (op : ℕ → Bool) (sn : ℕ → ℕ → Image) (agree : TokensAgree (over v w)) (open_s : T (w.is_open s)) (closed : T (not (op s)))
    (others_open : (t : ℕ) → (t == s) ≡ false → op t ≡ w.is_open t) (own_images : (x : ℕ) → sn s x ≡ w.seen s x) (frozen : (t x : ℕ) → T (w.taken t) → T (not (w.is_open t)) → sn t x ≡ w.seen t x)
    (images : (t x : ℕ) → (t == s) ≡ false → T (not (is_write (eff_hold (eff (over v w) s x)))) → sn t x ≡ w.seen t x) where
  abbrev pub v' : Tables
  v' = forgotten s v

  abbrev pub ended : View
  ended = record w { old = λ t x. elim (t == s) as (λ z. Option Eff) [ true ↦ eff (over v w) t x | false ↦ w.old t x ]; is_open = op; seen = sn }

  abbrev old : View
  old = over v w

  abbrev new : View
  new = over v' ended

  member-own : member s v'.claimed ≡ false
  member-own = member-filter s s v.claimed ∙ ap (λ b. not b && member s v.claimed) (same s)

  member-other : (t : ℕ) → (t == s) ≡ false → member t v'.claimed ≡ member t v.claimed
  member-other t d = member-filter t s v.claimed ∙ ap (λ b. not b && member t v.claimed) d

  other : (t : ℕ) → T (member t v'.claimed) → (t == s) ≡ false
  other t c = go (t == s) refl
    where
      go : (b : Bool) → (t == s) ≡ b → b ≡ false
      go true e = absurd (subst T (ap (λ u. member u v'.claimed) (equal t s e) ∙ member-own) c)
      go false e = refl

  is-other : (t : ℕ) → T (op t) → (t == s) ≡ false
  is-other t o = go (t == s) refl
    where
      go : (b : Bool) → (t == s) ≡ b → b ≡ false
      go true e = absurd (refutes (op s) (subst (λ u. T (op u)) (equal t s e) o) closed)
      go false e = refl

  was-open : (t : ℕ) → T (op t) → T (w.is_open t)
  was-open t o = subst T (others_open t (is-other t o)) o

  was-claimed : (t : ℕ) → T (member t v'.claimed) → T (member t v.claimed)
  was-claimed t c = subst T (member-other t (other t c)) c

  token-other : (t x : ℕ) → (t == s) ≡ false → tokens.token v'.tokens t x ≡ tokens.token v.tokens t x
  token-other t x d = token-dropped v.tokens s t x ∙ ap (λ b. cond b None (tokens.token v.tokens t x)) d

  token-own : (x : ℕ) → tokens.token v'.tokens s x ≡ None
  token-own x = token-dropped v.tokens s s x ∙ ap (λ b. cond b None (tokens.token v.tokens s x)) (same s)

  recorded-other : (t : ℕ) → (t == s) ≡ false → at t v'.recorded ≡ at t v.recorded
  recorded-other t d = at-without t s v.recorded ∙ ap (λ b. cond b None (at t v.recorded)) d

  eff-same : (t x : ℕ) → eff new t x ≡ eff old t x
  eff-same t x = by-session s t (λ u. eff new u x ≡ eff old u x)
      (ap (λ b. eff_from b (tokens.token v'.tokens s x) w.epoch (ended.old s x)) member-own ∙ ap (λ b. elim b as (λ z. Option Eff) [ true ↦ eff old s x | false ↦ w.old s x ]) (same s))
      (λ d. ap (λ b. eff_from b (tokens.token v'.tokens t x) w.epoch (ended.old t x)) (member-other t d) ∙ ap (λ o. eff_from (member t v.claimed) o w.epoch (ended.old t x)) (token-other t x d)
      ∙ ap (λ b. eff_from (member t v.claimed) (tokens.token v.tokens t x) w.epoch (elim b as (λ z. Option Eff) [ true ↦ eff old t x | false ↦ w.old t x ])) d)

  -- where a session has a token, its images stay
  seen-kept : (t x : ℕ) (f : Eff) → eff old t x ≡ Some f → sn t x ≡ w.seen t x
  seen-kept t x f = by-session s t (λ u. eff old u x ≡ Some f → sn u x ≡ w.seen u x) (λ p. own_images x) (λ d p. go (w.is_open t) refl d p)
    where
      go : (b : Bool) → w.is_open t ≡ b → (t == s) ≡ false → eff old t x ≡ Some f → sn t x ≡ w.seen t x
      go true o d p = images t x d (not-write-beside (eff_hold (eff old s x)) f.hold (agree.held t x f p)
          (subst (λ z. Apart (eff old s x) z) p (agree.exclusive s t x (λ q. differs t s d (sym q)) open_s (holds (w.is_open t) o))))
      go false o d p = frozen t x (agree.known t x f p).1 (fails (w.is_open t) o)

  seen-hidden : (t x : ℕ) → T (is_hidden w t x) → sn t x ≡ w.seen t x
  seen-hidden t x = by-session s t (λ u. T (is_hidden w u x) → sn u x ≡ w.seen u x) (λ h. own_images x)
      (λ d h. images t x d (subst (λ f. T (not (is_write (eff_hold f)))) (sym ((agree.alone t x h).0 s (λ q. differs t s d (sym q))).0) tt))

  now : (t e m : ℕ) → OfNow old t e m → OfNow new t e m
  now t e m f a o = let q = f a (was-open t o) in (subst T (sym (member-other t (is-other t o))) q.0, q.1)

  ids-kept : (t e got m first : ℕ) (k : Side) → IdsFit old t e got m first k → IdsFit new t e got m first k
  ids-kept t e got m first k f a b x z = let q = f a b x z in (eff-same t x ∙ q.0, q.1, q.2, seen-kept t x _ q.0 ∙ q.3)

  message-kept : (m : Msg) → Fits old m → Fits new m
  message-kept (Room t e got ask) q = (q.0, λ k i. let f = q.1 k i in (f.0, λ a o r. f.1 a (was-open t o) (sym (recorded-other t (is-other t o)) ∙ r)))
  message-kept (Claim t e l) q = (
    q.0,
    (λ a o u k i. let f = q.1 a (was-open t o) (subst (λ b. T (not b)) (member-other t (is-other t o)) u) k i in
        (f.0, λ x. ((f.1 x).0, subst (λ z. rank (at_or Free x l) ≤ rank (eff_hold z)) (sym (eff-same t x)) (f.1 x).1))),
    q.2,
  )
  message-kept (Opened age t e) q = (q.0, λ c u. q.1 (was-claimed t c) u)
  message-kept (Grant t e x m h i) q = (q.0, now t e m q.1, q.2, q.3, λ k j a l. let f = q.4 k j a l in (eff-same t x ∙ f.0, f.1 ∙ sym (seen-kept t x _ f.0), f.2))
  message-kept (Ids t e got m first) q = (q.0, now t e m q.1, (λ a o. subst (λ z. T (is_some z)) (sym (recorded-other t (is-other t o))) (q.2 a (was-open t o))), q.3, q.4, λ k i. ids-kept t e got m first k (q.5 k i))
  message-kept (Want t e x h l) q = q
  message-kept (Back t e x m h) q = q
  message-kept (Flush t e b ops) q = q
  message-kept (Bye t e) q = q
  message-kept (Recall t e x m h) q = q
  message-kept (Restarted t e) q = q
  message-kept _ q = q

  wants-left : (qs : List want.Want) → Each (Noted old v) qs → Each (Noted new v') (filter (λ q. not (q.session == s)) qs)
  wants-left [] f = tt
  wants-left (q ∷ qs) f = go (q.session == s) refl (wants-left qs f.1)
    where
      go : (b : Bool) → (q.session == s) ≡ b → Each (Noted new v') (filter (λ q. not (q.session == s)) qs) → Each (Noted new v') (cond (not b) (q ∷ filter (λ q. not (q.session == s)) qs) (filter (λ q. not (q.session == s)) qs))
      go true e r = r
      go false e r = (
        (
          subst T (sym (member-other q.session e)) f.0.0,
          f.0.1,
          f.0.2,
          f.0.3,
          λ k i. subst (λ o. NotedFits q.hold o (at q.obj k.cache.held) (last q.obj k.cache)) (sym (token-other q.session q.obj e)) (f.0.4 k i),
        ),
        r,
      )

  each-left : (p : want.Want → Bool) (P : want.Want → Type 0) (qs : List want.Want) → Each P qs → Each P (filter p qs)
  each-left p P [] f = tt
  each-left p P (q ∷ qs) f = go (p q) (each-left p P qs f.1)
    where
      go : (b : Bool) → Each P (filter p qs) → Each P (cond b (q ∷ filter p qs) (filter p qs))
      go true r = (f.0, r)
      go false r = r

  apart-left : (p : want.Want → Bool) (qs : List want.Want) → WantsAreDistinct qs → WantsAreDistinct (filter p qs)
  apart-left p [] d = tt
  apart-left p (q ∷ qs) d = go (p q) (apart-left p qs d.1)
    where
      go : (b : Bool) → WantsAreDistinct (filter p qs) → WantsAreDistinct (cond b (q ∷ filter p qs) (filter p qs))
      go true r = (each-left p (λ r. T (not (is_of q.session q.obj r))) qs d.0, r)
      go false r = r

  tables : TablesAgree new v'
  tables = let a = agree.tables in record {
    sound = sound_without v.tokens s a.sound;
    are_open = λ t c. subst T (sym (others_open t (other t c))) (a.are_open t (was-claimed t c));
    epochs = λ t c. a.epochs t (was-claimed t c);
    others = others;
    wants = wants-left v.recalls a.wants;
    apart = apart-left (λ q. not (q.session == s)) v.recalls a.apart;
    numbers = λ t x k. by-session s t (λ u. tokens.token v'.tokens u x ≡ Some k → k.number ≤ v.number) (λ p. absurd (none_some (sym (token-own x) ∙ p))) (λ d p. a.numbers t x k (sym (token-other t x d) ∙ p));
    recorded = λ t m p. let d = recorded-by t m p in let r = a.recorded t m (sym (recorded-other t d) ∙ p) in (subst T (sym (member-other t d)) r.0, r.1, λ got g k i. ids-kept t w.epoch got m (w.first t) k (r.2 got g k i));
    unrecorded = λ t x c p h. let d = other t c in token-other t x d ∙ a.unrecorded t x (was-claimed t c) (sym (recorded-other t d) ∙ p) h;
  }
    where
      others : (t x : ℕ) → T (not (member t v'.claimed)) → (tokens.token v'.tokens t x ≡ None) × (T (op t) → IsEarlier w.epoch (ended.old t x))
      others t x = by-session s t (λ u. T (not (member u v'.claimed)) → (tokens.token v'.tokens u x ≡ None) × (T (op u) → IsEarlier w.epoch (ended.old u x)))
          (λ c. (token-own x, λ o. absurd (refutes (op s) o closed)))
          (λ d c. let q = agree.tables.others t x (subst (λ b. T (not b)) (member-other t d) c) in
          (token-other t x d ∙ q.0, λ o. subst (λ b. IsEarlier w.epoch (elim b as (λ z. Option Eff) [ true ↦ eff old t x | false ↦ w.old t x ])) (sym d) (q.1 (was-open t o))))

      recorded-by : (t m : ℕ) → at t v'.recorded ≡ Some m → (t == s) ≡ false
      recorded-by t m p = go (t == s) refl
        where
          go : (b : Bool) → (t == s) ≡ b → b ≡ false
          go true e = absurd (none_some (sym (at-without t s v.recorded ∙ ap (λ b. cond b None (at t v.recorded)) e) ∙ p))
          go false e = refl

  pub ended-agrees : TokensAgree new
  ended-agrees = record {
    held = λ t x f p. agree.held t x f (sym (eff-same t x) ∙ p);
    holds = agree.holds;
    known = λ t x f p. agree.known t x f (sym (eff-same t x) ∙ p);
    next = agree.next;
    exclusive = λ t u x d p q. subst (λ f. Apart f (eff new u x)) (sym (eff-same t x)) (subst (λ f. Apart (eff old t x) f) (sym (eff-same u x)) (agree.exclusive t u x d (was-open t p) (was-open u q)));
    below = λ t x k i. subst (Below k.epoch (last x k.cache) (at x k.cache.held)) (sym (eff-same t x)) (agree.below t x k i);
    got = agree.got;
    given = agree.given;
    alone = λ t x h. let q = agree.alone t x h in ((λ u d. let r = q.0 u d in (eff-same u x ∙ r.0, r.1)), q.1, seen-hidden t x h ∙ q.2);
    lasts = agree.lasts;
    recalled = agree.recalled;
    present = λ t o. agree.present t (was-open t o);
    messages = each-map (λ m. Fits old m.1) (λ m. Fits new m.1) w.pool (λ m. message-kept m.1) agree.messages;
    tables = tables;
  }
