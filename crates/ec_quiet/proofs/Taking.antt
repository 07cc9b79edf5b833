-- The line's clerk takes a token.
use Rattle.std.proofs.Common.{◌≡◌, refl, sym, ap, ◌∙◌, subst, arith, ◌≤◌, ◌<◌, ◌+◌, ℕ, zero, suc, Bool, true, false, not, ◌||◌, cond, T, List, [], ◌∷◌, ◌++◌, inl, inr, ◌⊎◌, length, length-append}
use Rattle.std.specs.Prelude.{None, Some, ◌==◌, filter, slice_index_or, Contains}
use Rattle.std.specs.Ordering.{nat_cmp, eq_by_cmp}
use Rattle.std.specs.Cmp.{nat_cmp_total, unsigned_ties}
use Rattle.std.specs.FinMap.Entries.{find-append, find-put}
use Rattle.std.proofs.lemmas.Bool.{eq-eqb, eqb-true}
use Rattle.ec_base.specs.SortedLaws.{find-without}
use Rattle.ec_base.specs.Tables.{Table, at, or_else, put, renewed, without}
use Rattle.ec_base.specs.declared.ids.Hold.{Hold}
use Rattle.ec_base.specs.declared.ids.Hold.TheVariants.{Free}
use Rattle.ec_volume.specs.Update.{member}
use Rattle.ec_volume.specs.Volume.{images}
use Rattle.ec_volume.specs.declared.image.Image.{Image}
use Rattle.ec_history.specs.History.{Each}
use Rattle.ec_cache.specs.Cache as cache
use Rattle.ec_cache.specs.Cache.{last}
use Rattle.ec_cache.specs.declared.state.CacheState.{CacheState}
use Rattle.ec_cache.specs.declared.state.Held.{Held}
use Rattle.ec_wire.specs.declared.msg.Msg.{Msg}
use Rattle.ec_wire.specs.declared.msg.Msg.TheVariants.{Back, Grant}
use Rattle.ec_protocol.specs.Clerk.{max_tokens, settle}
use Rattle.ec_protocol.specs.declared.clerk.Clerk.{Clerk}
use Rattle.ec_protocol.specs.declared.clerk.Wanted.{Wanted}
use Rattle.ec_quiet.specs.Facts.{WantIsAnswered, Same, token_of}
use Rattle.ec_quiet.specs.Phases.{Grants, InPhase, IsAged, IsGivenBack, IsLeaving, IsWanting, backs, is_back_message}
use Rattle.ec_quiet.specs.Scenes.{Mail, Scene, delivered, done_by, taken_by}
use Rattle.ec_quiet.specs.Works.{Calls, HasTask, Pushes, Task, Work}
use Rattle.ec_quiet.specs.Takings.{IsInside, ClerkIsReady, taking}
use Rattle.ec_quiet.proofs.Begun.{grants}
use Rattle.ec_quiet.proofs.Beside.{backs-more, filter-both, own-at}

-- Lists.

module _ {A : Type 0} where
  pub each-map : (P Q : A → Type 0) → ((x : A) → P x → Q x) → (xs : List A) → Each P xs → Each Q xs
  each-map P Q f [] e = tt
  each-map P Q f (x ∷ xs) e = (f x e.0, each-map P Q f xs e.1)

  pub few-left : (p : A → Bool) (xs : List A) → length (filter p xs) ≤ length xs
  few-left p [] = omega arith
  few-left p (x ∷ xs) = go (p x) (few-left p xs)
    where
      go : (z : Bool) → length (filter p xs) ≤ length xs → length (cond z (x ∷ filter p xs) (filter p xs)) ≤ suc (length xs)
      go true l = omega (arith, l)
      go false l = omega (arith, l)

  pub each-both : (P : A → Type 0) (xs ys : List A) → Each P xs → Each P ys → Each P (xs ++ ys)
  each-both P [] ys e f = f
  each-both P (x ∷ xs) ys e f = (e.0, each-both P xs ys e.1 f)

  pub each-of : (P : A → Type 0) (p : A → Bool) (xs : List A) → Each P xs → Each P (filter p xs)
  each-of P p [] e = tt
  each-of P p (x ∷ xs) e = go (p x) (each-of P p xs e.1)
    where
      go : (b : Bool) → Each P (filter p xs) → Each P (cond b (x ∷ filter p xs) (filter p xs))
      go true r = (e.0, r)
      go false r = r

  pub regroup : (xs ys zs : List A) → (xs ++ ys) ++ zs ≡ xs ++ (ys ++ zs)
  regroup [] ys zs = refl
  regroup (x ∷ xs) ys zs = ap (λ l. x ∷ l) (regroup xs ys zs)

-- the task is told by the waiting calls, the pushes and the next operation
pub same-task : (t : Task) (k m : Clerk) → m.waiting ≡ k.waiting → m.pushes ≡ k.pushes → m.log.next ≡ k.log.next → HasTask t k → HasTask t m
same-task (Calls cl) k m w p n (v, e, c, b, f) = (v, w ∙ e, c, b ∙ sym n, p ∙ f)
same-task (Pushes o) k m w p n (e, f) = (w ∙ e, p ∙ f)

-- a message that goes back isn't the first one
pub stays-sent : (m b : ℕ × Msg) (rest : Mail) → is_back_message m.1 ≡ false → is_back_message b.1 ≡ true → Contains (m ∷ rest) b → Contains rest b
stays-sent m b rest no-back back c = go c.0 c.1 c.2
  where
    go : (i : ℕ) → i < length (m ∷ rest) → slice_index_or (m ∷ rest) i b ≡ b → Contains rest b
    go zero l e = let same : false ≡ true = sym no-back ∙ ap (λ z. is_back_message z.1) e ∙ back in absurd (grind (arith, same))
    go (suc i) l e = (i, omega (arith, l), e)

-- A token of a new number.

module _ (x : ℕ) (v : Held) (es : Table Held) where
  pub at-renewed : (y : ℕ) → at y (renewed x v es) ≡ cond (y == x) (Some v) (at y es)
  at-renewed y = find-append nat_cmp nat_cmp_total (without x es) x v y none ∙ go (y == x) refl
    where
      none : at x (without x es) ≡ None
      none = find-without nat_cmp nat_cmp_total x x es ∙ ap (λ b. cond b None (at x es)) (sym (unsigned_ties x x) ∙ eq-eqb x x refl)

      turned : (y == x) ≡ false → (x == y) ≡ false
      turned e = grind (arith, e)

      go : (b : Bool) → (y == x) ≡ b → cond (eq_by_cmp nat_cmp y x) (Some v) (at y (without x es)) ≡ cond b (Some v) (at y es)
      go true e = ap (λ b. cond b (Some v) (at y (without x es))) (sym (unsigned_ties y x) ∙ e)
      go false e = ap (λ b. cond b (Some v) (at y (without x es))) (sym (unsigned_ties y x) ∙ e) ∙ find-without nat_cmp nat_cmp_total y x es ∙ ap (λ b. cond b None (at y es)) (sym (unsigned_ties x y) ∙ turned e)

module _ (x : ℕ) (h : Hold) (n : ℕ) (i : Image) (k : CacheState) (new : last x k < n) where
  abbrev pub token-taken : Held
  token-taken = record { hold = h; number = n; image = i }

  abbrev pub cache-taken : CacheState
  cache-taken = record k { held = renewed x token-taken k.held; lasts = put x n k.lasts; limits = without x k.limits }

  pub takes-new : cache.take x h n i k ≡ cache-taken
  takes-new = go (cache.is_new x n k) (grind (arith, new))
    where
      go : (b : Bool) → b ≡ true → elim b as (λ z. CacheState) [ false ↦ k | true ↦ cache-taken ] ≡ cache-taken
      go true e = refl
      go false e = absurd (grind (arith, e))

  pub last-is : (y : ℕ) → last y cache-taken ≡ or_else 0 (cond (y == x) (Some n) (at y k.lasts))
  last-is y = ap (or_else 0) (find-put nat_cmp nat_cmp_total y x n k.lasts ∙ ap (λ b. cond b (Some n) (at y k.lasts)) (sym (unsigned_ties y x)))

  pub last-own : last x cache-taken ≡ n
  last-own = last-is x ∙ ap (λ b. or_else 0 (cond b (Some n) (at x k.lasts))) (eq-eqb x x refl)

  pub last-rises : (y : ℕ) → last y k ≤ last y cache-taken
  last-rises y = go (y == x) refl (last-is y)
    where
      go : (b : Bool) → (y == x) ≡ b → last y cache-taken ≡ or_else 0 (cond b (Some n) (at y k.lasts)) → last y k ≤ last y cache-taken
      go true e f = omega (arith, new, f, ap (λ z. last z k) (eqb-true y x e))
      go false e f = omega (arith, f)

  -- each number held is the last one
  pub numbers-kept : ((y : ℕ) (t : Held) → at y k.held ≡ Some t → t.number ≡ last y k) → (y : ℕ) (t : Held) → at y cache-taken.held ≡ Some t → t.number ≡ last y cache-taken
  numbers-kept old y t f = go (y == x) refl (sym (at-renewed x token-taken k.held y) ∙ f) (last-is y)
    where
      go : (b : Bool) → (y == x) ≡ b → cond b (Some token-taken) (at y k.held) ≡ Some t → last y cache-taken ≡ or_else 0 (cond b (Some n) (at y k.lasts)) → t.number ≡ last y cache-taken
      go true e s l = let same : token-taken ≡ t = (cc) in sym (ap (λ z. z.number) same) ∙ sym l
      go false e s l = old y t s ∙ sym l

  -- no number is above this one
  pub lasts-kept : (m : ℕ) → n ≤ m → ((y : ℕ) → last y k ≤ m) → (y : ℕ) → last y cache-taken ≤ m
  lasts-kept m l old y = go (y == x) (last-is y)
    where
      go : (b : Bool) → last y cache-taken ≡ or_else 0 (cond b (Some n) (at y k.lasts)) → last y cache-taken ≤ m
      go true f = omega (arith, f, l)
      go false f = omega (arith, f, old y)

-- The grant is taken.

module _ (j : Work) (sc : Scene) (x : ℕ) (h : Hold) (n : ℕ) (rest : Mail) (q : InPhase j sc (Grants x h n))
    (head : sc.mail ≡ (j.clerk, Grant j.session sc.server.durable.epoch x n h (images sc.server.durable.volume x)) ∷ rest) (out : n ≤ sc.server.number) where
  abbrev e : ℕ
  e = sc.server.durable.epoch

  abbrev i : Image
  i = images sc.server.durable.volume x

  abbrev message : Msg
  message = Grant j.session e x n h i

  abbrev w : IsWanting (x ∷ []) j sc x h q.facts.2
  w = q.facts.3

  abbrev k : Clerk
  k = w.clerk

  new : last x k.cache < n
  new = omega (arith, w.number, q.facts.4)

  abbrev now-cache : CacheState
  now-cache = cache-taken x h n i k.cache new

  abbrev now-clerk : Clerk
  now-clerk = record k { cache = now-cache }

  abbrev now : Scene
  now = record sc { clerks = put j.clerk now-clerk sc.clerks; mail = rest }

  -- what is on its way back is so still

  given : (m : ℕ × Msg) → IsGivenBack j e k m.1 → IsGivenBack j e now-clerk m.1
  given m g = record {
    obj = g.obj;
    number = g.number;
    is = g.is;
    known = omega (arith, g.known, last-rises x h n i k.cache new g.obj);
    held = λ t f. later t (g.obj == x) refl (sym (at-renewed x (token-taken x h n i k.cache new) k.cache.held g.obj) ∙ f);
  }
    where
      later : (t : Held) (b : Bool) → (g.obj == x) ≡ b → cond b (Some (token-taken x h n i k.cache new)) (at g.obj k.cache.held) ≡ Some t → g.number < t.number
      later t true e f =
          let same : token-taken x h n i k.cache new ≡ t = (cc) in
          omega (arith, g.known, new, ap (λ z. z.number) same, ap (λ z. last z k.cache) (eqb-true g.obj x e))
      later t false e f = g.held t f

  given-back : Each {A = ℕ × Msg} (λ m. IsGivenBack j e now-clerk m.1) (backs j rest)
  given-back = each-map (λ m. IsGivenBack j e k m.1) (λ m. IsGivenBack j e now-clerk m.1) given (backs j rest)
      (subst (Each (λ m. IsGivenBack j e k m.1)) (ap (backs j) head ∙ backs-more j j.clerk message refl rest) w.working.given_back)

  -- the same tokens

  other-object : (y : ℕ) → (y == x) ≡ false → at y now-cache.held ≡ at y k.cache.held
  other-object y f = at-renewed x (token-taken x h n i k.cache new) k.cache.held y ∙ ap (λ b. cond b (Some (token-taken x h n i k.cache new)) (at y k.cache.held)) f

  own-object : at x now-cache.held ≡ Some (token-taken x h n i k.cache new)
  own-object = at-renewed x (token-taken x h n i k.cache new) k.cache.held x ∙ ap (λ b. cond b (Some (token-taken x h n i k.cache new)) (at x k.cache.held)) (eq-eqb x x refl)

  leaving : (y : ℕ) → (y == x) ≡ false → IsLeaving j sc k y → IsLeaving j now now-clerk y
  leaving y f l = record {
    number = l.number;
    hold = l.hold;
    sent = stays-sent (j.clerk, message) (j.clerk, Back j.session e y l.number Free) rest refl refl (subst (λ ms. Contains ms (j.clerk, Back j.session e y l.number Free)) head l.sent);
    recorded = l.recorded;
    gone = other-object y f ∙ l.gone;
    old = l.old;
  }

  same : (y : ℕ) → Same sc.server j.session now-clerk y ⊎ IsLeaving j now now-clerk y
  same y = go (y == x) refl
    where
      apart : (b : Bool) → b ≡ false → T (not (b || false))
      apart false f = tt
      apart true f = absurd (grind (arith, f))

      go : (b : Bool) → (y == x) ≡ b → Same sc.server j.session now-clerk y ⊎ IsLeaving j now now-clerk y
      go true f = inl (subst (Same sc.server j.session now-clerk) (sym (eqb-true y x f)) (q.facts.1 ∙ ap token_of (sym own-object)))
      go false f = elim (w.working.same y (apart (y == x) f)) [ inl s ↦ inl (s ∙ ap token_of (sym (other-object y f))) | inr l ↦ inr (leaving y f l) ]

  -- the order of use

  aged : IsAged j now-clerk
  aged =
      let a = w.aged in
      record {
        olds = without x a.olds;
        news = without x a.news ++ (x, token-taken x h n i k.cache new) ∷ [];
        whole = ap (λ es. without x es ++ (x, token-taken x h n i k.cache new) ∷ []) a.whole
            ∙ ap (λ es. es ++ (x, token-taken x h n i k.cache new) ∷ []) (filter-both (λ z. not (eq_by_cmp nat_cmp x z.0)) a.olds a.news) ∙ regroup (without x a.olds) (without x a.news) ((x, token-taken x h n i k.cache new) ∷ []);
        old = each-of {A = ℕ × Held} (λ z. (z.1).number ≤ j.number) (λ z. not (eq_by_cmp nat_cmp x z.0)) a.olds a.old;
        fresh = each-both {A = ℕ × Held} (λ z. T (member z.0 j.touched || member z.0 k.ids)) (without x a.news) ((x, token-taken x h n i k.cache new) ∷ [])
            (each-of {A = ℕ × Held} (λ z. T (member z.0 j.touched || member z.0 k.ids)) (λ z. not (eq_by_cmp nat_cmp x z.0)) a.news a.fresh) (first (member x j.touched) (member x k.ids) w.touched, tt);
      }
    where
      first : (a b : Bool) → T a → T (a || b)
      first true b t = tt
      first false b t = absurd t

  -- each want was answered

  answered-later : (v : Wanted) → WantIsAnswered k.cache v → WantIsAnswered now-cache v
  answered-later v a = omega (arith, a, last-rises x h n i k.cache new v.obj)

  answered : Each (WantIsAnswered now-cache) k.wanted
  answered = subst (Each (WantIsAnswered now-cache)) (sym w.wants) (omega (arith, new, last-own x h n i k.cache new), each-map (WantIsAnswered k.cache) (WantIsAnswered now-cache) answered-later w.earlier w.answered)

  abbrev Ready : CacheState → Type 0
  Ready c = ClerkIsReady j (record sc { clerks = put j.clerk (record k { cache = c }) sc.clerks; mail = rest }) w.slot (record k { cache = c })

  inside : IsInside sc.server j.clerk w.slot now-clerk
  inside = record {
    there = w.working.inside.there;
    is_open = w.working.inside.is_open;
    session = w.working.inside.session;
    epoch = w.working.inside.epoch;
    claimed = w.working.inside.claimed;
    unowed = w.working.inside.unowed;
    numbers = numbers-kept x h n i k.cache new w.working.inside.numbers;
    lasts = lasts-kept x h n i k.cache new sc.server.number out w.working.inside.lasts;
    capacity = w.working.inside.capacity;
  }

  ready-now : Ready now-cache
  ready-now = record {
    there = own-at j.clerk now-clerk sc.clerks;
    inside = inside;
    session = w.working.session;
    recalls = w.working.recalls;
    limits = ap (without x) w.working.limits;
    same = same;
    given_back = given-back;
    aged = aged;
    task = same-task j.task k now-clerk refl refl refl w.task;
    asking = w.asking;
    batches = w.batches;
    window = w.window;
    grants = w.grants;
    answered = answered;
  }

  few-now : length now-cache.held ≤ max_tokens + 1
  few-now = omega (arith, w.working.inside.room, length-append (without x k.cache.held) ((x, token-taken x h n i k.cache new) ∷ []), few-left {A = ℕ × Held} (λ z. not (eq_by_cmp nat_cmp x z.0)) k.cache.held)

  -- there is at most one more token
  pub few-taken : length (cache.take x h n i k.cache).held ≤ max_tokens + 1
  few-taken = subst (λ c. length c.held ≤ max_tokens + 1) (sym (takes-new x h n i k.cache new)) few-now

  pub ready : Ready (cache.take x h n i k.cache)
  ready = subst Ready (sym (takes-new x h n i k.cache new)) ready-now

  pub arrives : delivered j.clerk message rest sc ≡ done_by j.clerk (settle (taking x h n sc k)) rest sc
  arrives = ap (λ o. taken_by j.clerk message rest o sc) w.working.there
      ∙ ap (λ d. done_by j.clerk (settle d) rest sc) (grants j.session e k (w.working.inside.session ∙ ap Some w.working.session, w.working.inside.epoch) x n h i)
