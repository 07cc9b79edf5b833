-- The tokens of sixteen ids are recorded, which their session's clerk hasn't taken.
use Rattle.std.proofs.Common.{◌≡◌, ◌≢◌, refl, sym, ap, subst, ◌∙◌, ◌⊎◌, inl, inr, arith, ℕ, zero, suc, Bool, true, false, not, ◌&&◌, ◌||◌, cond, T, ◌≤◌, ◌<◌, ◌+◌, List, [], ◌∷◌, filter}
use Rattle.std.specs.Prelude.{◌==◌, Option, None, Some, is_some, is_none, Contains, nat_le, nat_lt}
use Rattle.ec_base.specs.Tables.{Table, at, put}
use Rattle.ec_base.specs.declared.ids.Hold.{Hold}
use Rattle.ec_base.specs.declared.ids.Hold.TheVariants.{Write}
use Rattle.ec_volume.specs.Update.{member}
use Rattle.ec_volume.specs.declared.image.Image.TheVariants.{Gone}
use Rattle.ec_history.specs.History.{Each}
use Rattle.ec_sessions.specs.Slots.{run}
use Rattle.ec_base.specs.Holds.{clash}
use Rattle.ec_sessions.specs.OfTokens.Laws.{sound_granted, holder_has}
use Rattle.ec_sessions.specs.OfTokens.Tokens as tokens
use Rattle.ec_sessions.specs.OfTokens.SoundTokens as sound_tokens
use Rattle.ec_sessions.specs.declared.tokens.token.Token.{Token}
use Rattle.ec_sessions.specs.declared.recall.want.Want as want
use Rattle.ec_cache.specs.Cache.{last}
use Rattle.ec_protocol.specs.Server.{with_ids}
use Rattle.ec_coherence.specs.System.{recorded, eff_from}
use Rattle.ec_coherence.specs.Tokens.{Tables, View, Side, InSession, eff, Apart, Below, IdsFit, NotedFits, Noted, in_sixteen, is_hidden, is_untaken, TokensAgree}
use Rattle.ec_coherence.proofs.ForServer.Changed.{over, changed, Own, changed-agrees}
use Rattle.ec_coherence.proofs.ForServer.Tables.{token-granted, at-put, each-map, fails, differs, by-session}
use Rattle.ec_coherence.proofs.ForServer.Was.{was-open, was-known, was-below, was-apart, was-live, was-alone, none-recorded}
use Rattle.ec_base.proofs.Numbers.{same-self as same}
use Rattle.ec_base.proofs.Options.{none_some}
use Rattle.ec_base.proofs.Bools.{not-both as refutes, no-longer as is-false, is-true, holds-true as holds}

-- Where no other session has a token, nothing conflicts.

none-pass : (p : tokens.Holder → Bool) (hs : List tokens.Holder) → ((g : tokens.Holder) → Contains hs g → p g ≡ false) → is_none (tokens.first_holder (filter p hs)) ≡ true
none-pass p [] f = refl
none-pass p (g ∷ gs) f = go (p g) (f g (0, omega arith, refl)) (none-pass p gs (λ j c. f j (suc c.0, omega (arith, c.1), c.2)))
  where
    go : (b : Bool) → b ≡ false → is_none (tokens.first_holder (filter p gs)) ≡ true → is_none (tokens.first_holder (cond b (g ∷ filter p gs) (filter p gs))) ≡ true
    go true e r = absurd (cc)
    go false e r = r

pub clear-if : (ts : tokens.Tokens) (s x : ℕ) (h : Hold) → sound_tokens.IsSound ts → ((t : ℕ) → (t == s) ≡ false → tokens.token ts t x ≡ None) → tokens.is_clear ts s x h ≡ true
clear-if ts s x h sound none = none-pass (tokens.is_conflict s h) (tokens.holders ts x) (λ g c. go g c (g.0 == s) refl)
  where
    go : (g : tokens.Holder) → Contains (tokens.holders ts x) g → (b : Bool) → (g.0 == s) ≡ b → (not b && clash g.1 h) ≡ false
    go g c true e = refl
    go g c false e = let p = none g.0 e in let q = holder_has ts x g sound.rising c in absurd (cc)

member-run : (y f k : ℕ) → member y (run f k) ≡ (nat_le f y && nat_lt y (f + k))
member-run y f zero = none y f
  where
    none : (y f : ℕ) → false ≡ (nat_le f y && nat_lt y (f + 0))
    none y f = grind arith
member-run y f (suc k) = ap (λ b. (y == f) || b) (member-run y (f + 1) k) ∙ one-more y f k
  where
    one-more : (y f k : ℕ) → ((y == f) || (nat_le (f + 1) y && nat_lt y ((f + 1) + k))) ≡ (nat_le f y && nat_lt y (f + suc k))
    one-more y f k = grind arith

module _ (s n : ℕ) where
  abbrev write : Token
  write = record { hold = Write; number = n }

  pub with-ids : (xs : List ℕ) (ts : tokens.Tokens) → sound_tokens.IsSound ts → ((t x : ℕ) → (t == s) ≡ false → T (member x xs) → tokens.token ts t x ≡ None)
      → sound_tokens.IsSound (with_ids s n xs ts) × ((t y : ℕ) → tokens.token (with_ids s n xs ts) t y ≡ cond ((t == s) && member y xs) (Some write) (tokens.token ts t y))
  with-ids [] ts sound none = (sound, λ t y. pull (tokens.token ts t y) (t == s))
    where
      pull : (o : Option Token) (b : Bool) → o ≡ cond (b && false) (Some write) o
      pull o true = refl
      pull o false = refl
  with-ids (x ∷ xs) ts sound none = subst (λ b. sound_tokens.IsSound (with_ids s n xs (elim b as (λ z. tokens.Tokens) [ true ↦ tokens.granted s x Write n ts | false ↦ ts ])) × ((t y : ℕ) → tokens.token (with_ids s n xs (elim b as (λ z. tokens.Tokens) [ true ↦ tokens.granted s x Write n ts | false ↦ ts ])) t y ≡ cond ((t == s) && ((y == x) || member y xs)) (Some write) (tokens.token ts t y))) (sym clear)
      (let rest = with-ids xs (tokens.granted s x Write n ts) (sound_granted ts s sound x Write n refl clear) after in (rest.0, λ t y. rest.1 t y ∙ ap (λ o. cond ((t == s) && member y xs) (Some write) o) (token-granted ts s x Write n t y) ∙ join (tokens.token ts t y) (t == s) (y == x) (member y xs)))
    where
      clear : tokens.is_clear ts s x Write ≡ true
      clear = clear-if ts s x Write sound (λ t d. none t x d (first x))
        where
          first : (x : ℕ) → T ((x == x) || member x xs)
          first x = subst (λ b. T (b || member x xs)) (sym (same x)) tt

      after : (t y : ℕ) → (t == s) ≡ false → T (member y xs) → tokens.token (tokens.granted s x Write n ts) t y ≡ None
      after t y d m = token-granted ts s x Write n t y ∙ ap (λ b. cond (b && (y == x)) (Some write) (tokens.token ts t y)) d ∙ none t y d (later (y == x) m)
        where
          later : (b : Bool) → T (member y xs) → T (b || member y xs)
          later true m = tt
          later false m = m

      join : (o : Option Token) (a b c : Bool) → cond (a && c) (Some write) (cond (a && b) (Some write) o) ≡ cond (a && (b || c)) (Some write) o
      join o true true true = refl
      join o true true false = refl
      join o true false c = refl
      join o false b c = refl

-- What is to be seen of sixteen ids whose tokens are recorded.
pub record Sixteen (w : View) (v : Tables) (s first : ℕ) : Type 0 where
  pub claimed : T (member s v.claimed)
  pub taken : T (w.taken s)
  pub below : first + 16 ≤ w.next_token
  pub nobody : (x t : ℕ) → T (in_sixteen first x) → (t == s) ≡ false → eff (over v w) t x ≡ None
  pub empty : (x : ℕ) → T (in_sixteen first x) → InSession w s (λ k. (at x k.cache.held ≡ None) × (last x k.cache ≡ 0))
  pub unrecorded : (x : ℕ) → T (in_sixteen first x) → tokens.token v.tokens s x ≡ None
  pub own : (x t : ℕ) → T (in_sixteen first x) → s ≢ t → T (not (is_hidden w t x))
  pub wants : Each (λ q. T (not (in_sixteen first q.obj))) v.recalls
  pub last_ones : (got : ℕ) → got + 1 ≡ w.grants s → InSession w s (λ k. got ≡ k.got → (w.first s ≡ first) × ((x : ℕ) → T (in_sixteen first x) → w.seen s x ≡ Gone))

module _ (w : View) (v : Tables) (s first : ℕ) (agree : TokensAgree (over v w)) (ids : Sixteen w v s first) where
  abbrev n : ℕ
  n = v.number + 1

  abbrev ts : tokens.Tokens
  ts = with_ids s n (run first 16) v.tokens

  abbrev rs : Table ℕ
  rs = put s n v.recorded

  abbrev v' : Tables
  v' = changed ts v.recalls v.claimed n rs

  -- nobody else has a token of one
  nobody : (t x : ℕ) → (t == s) ≡ false → T (in_sixteen first x) → tokens.token v.tokens t x ≡ None
  nobody t x d h = go (member t v.claimed) refl
    where
      go : (b : Bool) → member t v.claimed ≡ b → tokens.token v.tokens t x ≡ None
      go true e = none-recorded (tokens.token v.tokens t x) w.epoch (sym (ap (λ b. eff_from b (tokens.token v.tokens t x) w.epoch (w.old t x)) e) ∙ ids.nobody x t h d)
      go false e = (agree.tables.others t x (fails (member t v.claimed) e)).0

  is-in : (x : ℕ) → member x (run first 16) ≡ in_sixteen first x
  is-in x = member-run x first 16

  made : sound_tokens.IsSound ts × ((t y : ℕ) → tokens.token ts t y ≡ cond ((t == s) && member y (run first 16)) (Some (write s n)) (tokens.token v.tokens t y))
  made = with-ids s n (run first 16) v.tokens agree.tables.sound (λ t x d m. nobody t x d (subst T (is-in x) m))

  token-is : (t y : ℕ) → tokens.token ts t y ≡ cond ((t == s) && in_sixteen first y) (Some (write s n)) (tokens.token v.tokens t y)
  token-is t y = made.1 t y ∙ ap (λ b. cond ((t == s) && b) (Some (write s n)) (tokens.token v.tokens t y)) (is-in y)

  only : (t y : ℕ) → (t == s) ≡ false → tokens.token ts t y ≡ tokens.token v.tokens t y
  only t y d = token-is t y ∙ ap (λ b. cond (b && in_sixteen first y) (Some (write s n)) (tokens.token v.tokens t y)) d

  shape-s : (y : ℕ) → tokens.token ts s y ≡ cond (in_sixteen first y) (Some (write s n)) (tokens.token v.tokens s y)
  shape-s y = token-is s y ∙ ap (λ b. cond (b && in_sixteen first y) (Some (write s n)) (tokens.token v.tokens s y)) (same s)

  own-at : (P : ℕ → Option Token → Type 0) → ((y : ℕ) → T (in_sixteen first y) → P y (Some (write s n))) → ((y : ℕ) → P y (tokens.token v.tokens s y)) → (y : ℕ) → P y (tokens.token ts s y)
  own-at P a b y = subst (P y) (sym (shape-s y)) (go (in_sixteen first y) refl)
    where
      go : (c : Bool) → in_sixteen first y ≡ c → P y (cond c (Some (write s n)) (tokens.token v.tokens s y))
      go true e = a y (holds (in_sixteen first y) e)
      go false e = b y

  -- each is effective as its number says
  pub ids-recorded : (x : ℕ) → T (in_sixteen first x) → eff (over v' w) s x ≡ Some (record { hold = Write; number = n; epoch = w.epoch })
  ids-recorded x z = ap (λ c. eff_from c (tokens.token ts s x) w.epoch (w.old s x)) (is-true (member s v.claimed) ids.claimed)
      ∙ ap (λ o. recorded o w.epoch) (shape-s x ∙ ap (λ c. cond c (Some (write s n)) (tokens.token v.tokens s x)) (is-true (in_sixteen first x) z))

  pub others-recorded : (t x : ℕ) → (t == s) ≡ false → eff (over v' w) t x ≡ eff (over v w) t x
  others-recorded t x d = ap (λ o. eff_from (member t v.claimed) o w.epoch (w.old t x)) (only t x d)

  ids-new : (got : ℕ) → got + 1 ≡ w.grants s → InSession w s (IdsFit (over v' w) s w.epoch got n (w.first s))
  ids-new got g k i a b x z = let r = ids.last_ones got g k i b in let h = subst (λ f. T (in_sixteen f x)) r.0 z in let q = ids.empty x h k i in
      (ids-recorded x h, q.0, (let l = q.1 in omega arith), r.1 x h)

  noted : (qs : List want.Want) → Each (Noted (over v w) v) qs → Each (λ q. T (not (in_sixteen first q.obj))) qs → Each (Noted (over v' w) v') qs
  noted [] f g = tt
  noted (q ∷ qs) f g = ((f.0.0, f.0.1, f.0.2, f.0.3, λ k i. subst (λ o. NotedFits q.hold o (at q.obj k.cache.held) (last q.obj k.cache)) (sym stays) (f.0.4 k i)), noted qs f.1 g.1)
    where
      stays : tokens.token ts q.session q.obj ≡ tokens.token v.tokens q.session q.obj
      stays = by-session s q.session (λ t. tokens.token ts t q.obj ≡ tokens.token v.tokens t q.obj)
          (shape-s q.obj ∙ ap (λ c. cond c (Some (write s n)) (tokens.token v.tokens s q.obj)) (is-false (in_sixteen first q.obj) g.0)) (λ d. only q.session q.obj d)

  own : Own w v ts v.recalls v.claimed n rs s
  own = record {
    claimed = ids.claimed;
    stay = λ t d. refl;
    is_open = was-open w v s agree ids.claimed;
    taken = ids.taken;
    epoch = agree.tables.epochs s ids.claimed;
    only = only;
    sound = made.0;
    apart = λ t y d p. own-at (λ y z. Apart (recorded z w.epoch) (eff (over v w) t y))
        (λ y i. subst (λ f. Apart (recorded (Some (write s n)) w.epoch) f) (sym (ids.nobody y t i d)) tt) (λ y. was-apart w v s agree ids.claimed t y d p) y;
    known = own-at (λ y z. (t : Token) → z ≡ Some t → (y < w.next_token) × T (w.taken s) × (t.number ≤ n))
        (λ y i t p. (below-next y i, ids.taken, (let q : write s n ≡ t = cc in let r = ap (λ u. u.number) q in omega arith)))
        (λ y t p. let q = was-known w v s agree ids.claimed y t p in (q.0, q.1, let a = q.2 in omega arith));
    below = own-at (λ y z. InSession w s (λ k. Below k.epoch (last y k.cache) (at y k.cache.held) (recorded z w.epoch)))
        (λ y i k j. subst (λ o. Below k.epoch (last y k.cache) o (recorded (Some (write s n)) w.epoch)) (sym (ids.empty y i k j).0) tt) (λ y. was-below w v s agree ids.claimed y);
    live = own-at (λ y z. (e m : ℕ) (h : Hold) → InSession w s (λ k. e ≡ k.epoch → last y k.cache < m → eff (over v w) s y ≡ Some (record { hold = h; number = m; epoch = e }) → recorded z w.epoch ≡ Some (record { hold = h; number = m; epoch = e })))
        (λ y i e m g k j a l p. absurd (no-token y i e m g (was-live w v s agree ids.claimed y e m g p))) (λ y e m h k i a l p. was-live w v s agree ids.claimed y e m h p);
    alone = λ t y d. own-at (λ y z. T (is_hidden w t y) → z ≡ None) (λ y i g. absurd (refutes (is_hidden w t y) g (ids.own y t i d))) (λ y h. was-alone w v s agree ids.claimed t y d h) y;
    number = omega arith;
    grown = λ t g. subst (λ o. T (is_some o)) (sym (at-put t s n v.recorded)) (still (t == s) (at t v.recorded) g);
    wants = noted v.recalls agree.tables.wants ids.wants;
    distinct = agree.tables.apart;
    recorded = λ t m p. by-session s t (λ u. at u rs ≡ Some m → (at u v.recorded ≡ Some m) ⊎ (T (member u v.claimed) × (m ≤ n) × ((got : ℕ) → got + 1 ≡ w.grants u → InSession w u (IdsFit (over v' w) u w.epoch got m (w.first u)))))
        (λ q. let r : n ≡ m = number-is m q in inr (ids.claimed, omega arith, λ got g. subst (λ z. InSession w s (IdsFit (over v' w) s w.epoch got z (w.first s))) r (ids-new got g)))
        (λ d q. inl (sym (at-put t s n v.recorded ∙ ap (λ b. cond b (Some n) (at t v.recorded)) d) ∙ q)) p;
    unrecorded = λ y r. absurd (never r);
  }
    where
      below-next : (y : ℕ) → T (in_sixteen first y) → y < w.next_token
      below-next y i = less y first w.next_token ids.below i
        where
          less : (y f m : ℕ) → f + 16 ≤ m → T (nat_le f y && nat_lt y (f + 16)) → y < m
          less y f m g i = grind arith

      no-token : (y : ℕ) → T (in_sixteen first y) → (e m : ℕ) (g : Hold) → recorded (tokens.token v.tokens s y) w.epoch ≡ Some (record { hold = g; number = m; epoch = e }) → ⊥
      no-token y h e m g p = absurd (none_some (sym (ap (λ o. recorded o w.epoch) (ids.unrecorded y h)) ∙ p))

      still : (b : Bool) (o : Option ℕ) → T (is_some o) → T (is_some (cond b (Some n) o))
      still true o g = tt
      still false o g = g

      own-at-s : at s rs ≡ Some n
      own-at-s = at-put s s n v.recorded ∙ ap (λ b. cond b (Some n) (at s v.recorded)) (same s)

      number-is : (m : ℕ) → at s rs ≡ Some m → n ≡ m
      number-is m q = let r = sym own-at-s ∙ q in cc

      never : at s rs ≡ None → ⊥
      never q = let r = sym own-at-s ∙ q in absurd (cc)

  pub recorded-at : at s rs ≡ Some n
  recorded-at = at-put s s n v.recorded ∙ ap (λ b. cond b (Some n) (at s v.recorded)) (same s)

  pub recorded-agrees : TokensAgree (over v' w)
  recorded-agrees = changed-agrees w v ts v.recalls v.claimed n rs s agree own

-- The last sixteen ids, which the clerk didn't take and which aren't recorded in this epoch.
module _ (w : View) (v : Tables) (s : ℕ) (k0 : Side) (agree : TokensAgree (over v w)) (claimed : T (member s v.claimed)) (here : w.clerk s ≡ Some k0) (untaken : k0.got + 1 ≡ w.grants s)
    (unrecorded : at s v.recorded ≡ None) where
  hidden : (x : ℕ) → T (in_sixteen (w.first s) x) → T (is_hidden w s x)
  hidden x i = subst (λ o. T (is_untaken (w.grants s) (w.first s) o x)) (sym here) (subst (λ b. T (b && in_sixteen (w.first s) x)) (sym (it k0.got (w.grants s) untaken)) i)
    where
      it : (a b : ℕ) → a + 1 ≡ b → (a + 1 == b) ≡ true
      it a b p = grind arith

  out : (q : want.Want) → Noted (over v w) v q → T (not (in_sixteen (w.first s) q.obj))
  out q f = go (in_sixteen (w.first s) q.obj) refl
    where
      go : (b : Bool) → in_sixteen (w.first s) q.obj ≡ b → T (not b)
      go true e = refutes (is_hidden w s q.obj) (hidden q.obj (holds (in_sixteen (w.first s) q.obj) e)) (f.3.1 s)
      go false e = tt

  pub untaken-sixteen : Sixteen w v s (w.first s)
  untaken-sixteen = let given = agree.given s (omega arith) in record {
    claimed = claimed;
    taken = given.1;
    below = (let a = given.0 in let b = agree.next in omega arith);
    nobody = λ x t i d. ((agree.alone s x (hidden x i)).0 t (λ p. differs t s d p)).0;
    empty = λ x i. (agree.alone s x (hidden x i)).1;
    unrecorded = λ x i. agree.tables.unrecorded s x claimed unrecorded (hidden x i);
    own = λ x t i d. ((agree.alone s x (hidden x i)).0 t (λ p. d (sym p))).1;
    wants = each-map (Noted (over v w) v) (λ q. T (not (in_sixteen (w.first s) q.obj))) v.recalls out agree.tables.wants;
    last_ones = λ got g k i b. (refl, λ x z. (agree.alone s x (hidden x z)).2);
  }
