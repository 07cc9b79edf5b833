-- A step of the line's clerk, at whose end old tokens may go back, leaves it in its session with the same tokens as the server.
use Rattle.std.proofs.Common.{◌≡◌, refl, sym, ap, ◌∙◌, subst, arith, ◌≤◌, ◌<◌, ◌+◌, ℕ, suc, Bool, true, false, not, ◌&&◌, ◌||◌, cond, T, List, [], ◌∷◌, ◌++◌, inl, inr, ◌⊎◌, length, map}
use Rattle.std.specs.Prelude.{Option, None, Some, ◌==◌, Contains}
use Rattle.std.proofs.lemmas.Bool.{eq-eqb, eqb-true}
use Rattle.std.proofs.lemmas.List.Elements.{Contains-append_left, Contains-append_right}
use Rattle.ec_base.specs.Tables.{Table, at, at_or, keys, put}
use Rattle.ec_base.specs.declared.ids.Hold.{Hold}
use Rattle.ec_base.specs.declared.ids.Hold.TheVariants.{Free}
use Rattle.ec_history.specs.History.{Each}
use Rattle.ec_volume.specs.Update.{member}
use Rattle.ec_sessions.specs.declared.slot.Slot.{Slot}
use Rattle.ec_sessions.specs.declared.tokens.token.Token.{Token}
use Rattle.ec_wire.specs.declared.msg.Msg.{Msg}
use Rattle.ec_wire.specs.declared.msg.Msg.TheVariants.{Back}
use Rattle.ec_cache.specs.Cache.{last, held_mode}
use Rattle.ec_cache.specs.Held.{unpinned}
use Rattle.ec_cache.specs.declared.state.Held.{Held}
use Rattle.ec_protocol.specs.Clerk as clerk
use Rattle.ec_protocol.specs.Clerk.{Doing, doing, max_tokens}
use Rattle.ec_protocol.specs.declared.clerk.Clerk.{Clerk}
use Rattle.ec_protocol.specs.declared.clerk.Wanted.{Wanted}
use Rattle.ec_quiet.specs.Facts.{WantIsAnswered, Same, token_of}
use Rattle.ec_quiet.specs.Phases.{IsAged, IsGivenBack, IsLeaving, IsWorking, backs, is_back, main}
use Rattle.ec_quiet.specs.Scenes.{Mail, Scene, sends}
use Rattle.ec_quiet.specs.Works.{Work}
use Rattle.ec_quiet.specs.Evictions.{IsOld, Leaves, back_mail, back_out}
use Rattle.ec_quiet.specs.Takings.{ClerkIsReady, with_clerk_at}
use Rattle.ec_quiet.proofs.Beside.{filter-both, own-at}
use Rattle.ec_quiet.proofs.Taking.{each-both, each-map, each-of}
use Rattle.ec_base.proofs.Lists.{no-more}

-- Tokens, as they're recorded.

pub none-held : (o : Option Held) → token_of o ≡ None → o ≡ None
none-held None e = refl
none-held (Some h) e = absurd (grind (arith, e))

pub some-held : (o : Option Held) (h : Held) → token_of o ≡ token_of (Some h) → (g : Held) × (o ≡ Some g) × (g.number ≡ h.number)
some-held None h e = absurd (grind (arith, e))
some-held (Some g) h e = (g, refl, number-of (token_of (Some g)) (token_of (Some h)) e)
  where
    number-in : Option Token → ℕ
    number-in None = 0
    number-in (Some t) = t.number

    number-of : (a b : Option Token) → a ≡ b → number-in a ≡ number-in b
    number-of a b p = ap number-in p

abbrev hold-in : Option Token → Hold
hold-in None = Free
hold-in (Some t) = t.hold

mode-of : (o : Option Held) → hold-in (token_of o) ≡ held_mode o
mode-of None = refl
mode-of (Some h) = refl

pub same-mode : (o p : Option Held) → token_of o ≡ token_of p → held_mode o ≡ held_mode p
same-mode o p e = sym (mode-of o) ∙ ap hold-in e ∙ mode-of p

-- Messages that go back.

pub sent-backs : (c : ℕ) (d : Doing) (es : Table Held) → sends c (map (back_out d) es) ≡ back_mail c (clerk.session d) (clerk.epoch d) es
sent-backs c d [] = refl
sent-backs c d (e ∷ es) = ap (λ ms. (c, Back (clerk.session d) (clerk.epoch d) e.0 (e.1).number Free) ∷ ms) (sent-backs c d es)

pub mail-length : (c s e : ℕ) (es : Table Held) → length (back_mail c s e es) ≡ length es
mail-length c s e [] = refl
mail-length c s e (x ∷ es) = ap suc (mail-length c s e es)

module _ (j : Work) (s e : ℕ) where
  own : (es : Table Held) (x : ℕ × Held) → is_back j (j.clerk, Back s e x.0 (x.1).number Free) ≡ true
  own es x = ap (λ b. b && true) (eq-eqb j.clerk j.clerk refl)

  pub all-backs : (es : Table Held) → backs j (back_mail j.clerk s e es) ≡ back_mail j.clerk s e es
  all-backs [] = refl
  all-backs (x ∷ es) =
      ap (λ b. cond b ((j.clerk, Back s e x.0 (x.1).number Free) ∷ backs j (back_mail j.clerk s e es)) (backs j (back_mail j.clerk s e es))) (own es x)
      ∙ ap (λ ms. (j.clerk, Back s e x.0 (x.1).number Free) ∷ ms) (all-backs es)

  pub none-main : (es : Table Held) → main j (back_mail j.clerk s e es) ≡ []
  none-main [] = refl
  none-main (x ∷ es) =
      ap (λ b. cond (not b) ((j.clerk, Back s e x.0 (x.1).number Free) ∷ main j (back_mail j.clerk s e es)) (main j (back_mail j.clerk s e es))) (own es x) ∙ none-main es

-- the message of a token that goes, and what is said of each of them
find-gone : (c s e : ℕ) (P : ℕ × Held → Type 0) (x : ℕ) (es : Table Held) → member x (keys es) ≡ true → Each P es → (v : Held) × P (x, v) × Contains (back_mail c s e es) (c, Back s e x v.number Free)
find-gone c s e P x [] f a = absurd (grind (arith, f))
find-gone c s e P x (t ∷ es) f a = go (x == t.0) refl f (find-gone c s e P x es)
  where
    go : (b : Bool) → (x == t.0) ≡ b → (b || member x (keys es)) ≡ true → (member x (keys es) ≡ true → Each P es → (v : Held) × P (x, v) × Contains (back_mail c s e es) (c, Back s e x v.number Free))
        → (v : Held) × P (x, v) × Contains (back_mail c s e (t ∷ es)) (c, Back s e x v.number Free)
    go true q f r = (t.1, subst (λ z. P (z, t.1)) (sym (eqb-true x t.0 q)) a.0, (0, omega arith, ap (λ z. (c, Back s e z (t.1).number Free)) (sym (eqb-true x t.0 q))))
    go false q f r = let g = r f a.1 in (g.0, g.1, (suc g.2.0, omega (arith, g.2.1), g.2.2))

-- of each token of a list it's known that it stands there
each-there : (P Q : ℕ × Held → Type 0) (es : Table Held) → ((t : ℕ × Held) → member t.0 (keys es) ≡ true → P t → Q t) → Each P es → Each Q es
each-there P Q [] f a = tt
each-there P Q (t ∷ es) f a = (f t (here (t.0 == t.0) (eq-eqb t.0 t.0 refl)) a.0, each-there P Q es (λ u m. f u (later (u.0 == t.0) m)) a.1)
  where
    here : (b : Bool) → b ≡ true → (b || member t.0 (keys es)) ≡ true
    here true e = refl
    here false e = absurd (grind (arith, e))

    later : (b : Bool) {c : Bool} → c ≡ true → (b || c) ≡ true
    later true e = refl
    later false e = e

each-mail : (c s e : ℕ) (P : ℕ × Msg → Type 0) (es : Table Held) → Each {A = ℕ × Held} (λ t. P (c, Back s e t.0 (t.1).number Free)) es → Each P (back_mail c s e es)
each-mail c s e P [] a = tt
each-mail c s e P (t ∷ es) a = (a.0, each-mail c s e P es a.1)

-- The clerk m behind the step, whose messages ms go out before those of the tokens es.

module _ (j : Work) (sc : Scene) (rest : Mail) (sl : Slot) (k : Clerk) (r : ClerkIsReady j (with_clerk_at j (doing k) rest sc) sl k)
    (m : Clerk) (session : m.session ≡ k.session) (epoch : m.epoch ≡ k.epoch) (owed : m.owed ≡ k.owed) (recalls : m.recalls ≡ k.recalls)
    (es : Table Held) (leaves : Leaves es k.cache m.cache) (old : Each (IsOld j.number) es) (room : length m.cache.held ≤ max_tokens)
    (ms : Mail) (none : backs j ms ≡ []) (mail : Mail) (mail-is : mail ≡ rest ++ (ms ++ back_mail j.clerk j.session sc.server.durable.epoch es)) where
  abbrev e : ℕ
  e = sc.server.durable.epoch

  abbrev gone-mail : Mail
  gone-mail = back_mail j.clerk j.session e es

  abbrev pub sent : Scene
  sent = record sc { clerks = put j.clerk m sc.clerks; mail = mail }

  backs-are : backs j mail ≡ backs j rest ++ gone-mail
  backs-are = ap (backs j) mail-is ∙ filter-both (is_back j) rest (ms ++ gone-mail)
      ∙ ap (λ l. backs j rest ++ l) (filter-both (is_back j) ms gone-mail ∙ ap (λ l. l ++ backs j gone-mail) none ∙ all-backs j j.session e es)

  pub back-count : length (backs j mail) ≡ length (backs j rest) + length es
  back-count = ap length backs-are ∙ Rattle.std.proofs.Common.length-append (backs j rest) gone-mail ∙ ap (λ n. length (backs j rest) + n) (mail-length j.clerk j.session e es)

  pub main-are : main j rest ≡ [] → main j mail ≡ main j ms
  main-are f = ap (main j) mail-is ∙ filter-both (λ z. not (is_back j z)) rest (ms ++ gone-mail) ∙ ap (λ l. l ++ main j (ms ++ gone-mail)) f
      ∙ filter-both (λ z. not (is_back j z)) ms gone-mail ∙ ap (λ l. main j ms ++ l) (none-main j j.session e es) ∙ no-more (main j ms)

  last-same : (x : ℕ) → last x m.cache ≡ last x k.cache
  last-same x = ap (at_or 0 x) leaves.lasts

  -- what is still held was held by the same number
  held-before : (x : ℕ) (h : Held) → at x m.cache.held ≡ Some h → (g : Held) × (at x k.cache.held ≡ Some g) × (g.number ≡ h.number)
  held-before x h f = go (member x (keys es)) refl
    where
      go : (b : Bool) → member x (keys es) ≡ b → (g : Held) × (at x k.cache.held ≡ Some g) × (g.number ≡ h.number)
      go true q = let bad : None ≡ Some h = sym (leaves.go x q) ∙ f in absurd (grind (arith, bad))
      go false q = some-held (at x k.cache.held) h (sym (leaves.stay x q) ∙ ap token_of f)

  leaving : (x : ℕ) → IsLeaving j (with_clerk_at j (doing k) rest sc) k x → IsLeaving j sent m x
  leaving x g = record {
    number = g.number;
    hold = g.hold;
    sent = subst (λ z. Contains z (j.clerk, Back j.session e x g.number Free)) (sym mail-is) (Contains-append_left rest (ms ++ gone-mail) (j.clerk, Back j.session e x g.number Free) g.sent);
    recorded = g.recorded;
    gone = go (member x (keys es)) refl;
    old = g.old;
  }
    where
      go : (b : Bool) → member x (keys es) ≡ b → at x m.cache.held ≡ None
      go true q = leaves.go x q
      go false q = none-held (at x m.cache.held) (leaves.stay x q ∙ ap token_of g.gone)

  abbrev WasHeld : ℕ × Held → Type 0
  WasHeld t = (token_of (at t.0 k.cache.held) ≡ token_of (Some t.1)) × IsOld j.number t

  both : (ts : Table Held) → Each {A = ℕ × Held} (λ t. token_of (at t.0 k.cache.held) ≡ token_of (Some t.1)) ts → Each (IsOld j.number) ts → Each WasHeld ts
  both [] a b = tt
  both (t ∷ ts) a b = ((a.0, b.0), both ts a.1 b.1)

  were : Each WasHeld es
  were = both es leaves.held old

  goes-back : (x : ℕ) → member x (keys es) ≡ true → Same sc.server j.session k x → IsLeaving j sent m x
  goes-back x q s =
      let g = find-gone j.clerk j.session e WasHeld x es q were in
      record {
        number = (g.0).number;
        hold = (g.0).hold;
        sent = subst (λ z. Contains z (j.clerk, Back j.session e x (g.0).number Free)) (sym mail-is)
            (Contains-append_right rest (ms ++ gone-mail) (j.clerk, Back j.session e x (g.0).number Free) (Contains-append_right ms gone-mail (j.clerk, Back j.session e x (g.0).number Free) g.2));
        recorded = s ∙ g.1.0;
        gone = leaves.go x q;
        old = inl g.1.1;
      }

  same : (x : ℕ) → Same sc.server j.session m x ⊎ IsLeaving j sent m x
  same x = go (member x (keys es)) refl (r.same x)
    where
      go : (b : Bool) → member x (keys es) ≡ b → Same sc.server j.session k x ⊎ IsLeaving j (with_clerk_at j (doing k) rest sc) k x → Same sc.server j.session m x ⊎ IsLeaving j sent m x
      go true q (inl s) = inr (goes-back x q s)
      go false q (inl s) = inl (s ∙ sym (leaves.stay x q))
      go b q (inr g) = inr (leaving x g)

  given : (t : ℕ × Msg) → IsGivenBack j e k t.1 → IsGivenBack j e m t.1
  given t g = record {
    obj = g.obj;
    number = g.number;
    is = g.is;
    known = omega (arith, g.known, last-same g.obj);
    held = λ h f. let b = held-before g.obj h f in omega (arith, g.held b.0 b.1, b.2);
  }

  gone-given : (t : ℕ × Held) → member t.0 (keys es) ≡ true → token_of (at t.0 k.cache.held) ≡ token_of (Some t.1) → IsGivenBack j e m (Back j.session e t.0 (t.1).number Free)
  gone-given t q w = record {
    obj = t.0;
    number = (t.1).number;
    is = refl;
    known = let g = some-held (at t.0 k.cache.held) t.1 w in omega (arith, r.inside.numbers t.0 g.0 g.1, g.2, last-same t.0);
    held = λ h f. let bad : None ≡ Some h = sym (leaves.go t.0 q) ∙ f in absurd (grind (arith, bad));
  }

  given-back : Each {A = ℕ × Msg} (λ t. IsGivenBack j e m t.1) (backs j mail)
  given-back = subst (Each {A = ℕ × Msg} (λ t. IsGivenBack j e m t.1)) (sym backs-are)
      (each-both {A = ℕ × Msg} (λ t. IsGivenBack j e m t.1) (backs j rest) gone-mail
      (each-map {A = ℕ × Msg} (λ t. IsGivenBack j e k t.1) (λ t. IsGivenBack j e m t.1) given (backs j rest) r.given_back)
      (each-mail j.clerk j.session e (λ t. IsGivenBack j e m t.1) es
      (each-there (λ t. token_of (at t.0 k.cache.held) ≡ token_of (Some t.1)) (λ t. IsGivenBack j e m (Back j.session e t.0 (t.1).number Free)) es gone-given leaves.held)))

  pub working : IsWorking [] j sent sl m
  working = record {
    there = own-at j.clerk m sc.clerks;
    inside = record {
      there = r.inside.there;
      is_open = r.inside.is_open;
      session = session ∙ r.inside.session;
      epoch = epoch ∙ r.inside.epoch;
      claimed = r.inside.claimed;
      unowed = owed ∙ r.inside.unowed;
      numbers = λ x h f. let b = held-before x h f in sym b.2 ∙ r.inside.numbers x b.0 b.1 ∙ sym (last-same x);
      lasts = λ x. subst (λ n. n ≤ sc.server.number) (sym (last-same x)) (r.inside.lasts x);
      capacity = leaves.capacity ∙ r.inside.capacity;
      room = room;
    };
    session = r.session;
    recalls = recalls ∙ r.recalls;
    limits = leaves.limits r.limits;
    same = λ x f. same x;
    given_back = given-back;
  }

  pub answered : (ws : List Wanted) → Each (WantIsAnswered k.cache) ws → Each (WantIsAnswered m.cache) ws
  answered ws a = each-map (WantIsAnswered k.cache) (WantIsAnswered m.cache) (λ w f. omega (arith, f, last-same w.obj)) ws a

  -- the tokens that stay stand in the order of use as before
  pub still-aged : m.ids ≡ k.ids → m.cache.held ≡ unpinned (keys es) k.cache.held → IsAged j m
  still-aged ids part =
      let a = r.aged in
      record {
        olds = unpinned (keys es) a.olds;
        news = unpinned (keys es) a.news;
        whole = part ∙ ap (unpinned (keys es)) a.whole ∙ filter-both (λ t. not (member t.0 (keys es))) a.olds a.news;
        old = each-of {A = ℕ × Held} (λ t. (t.1).number ≤ j.number) (λ t. not (member t.0 (keys es))) a.olds a.old;
        fresh = each-of {A = ℕ × Held} (λ t. T (member t.0 j.touched || member t.0 m.ids)) (λ t. not (member t.0 (keys es))) a.news
            (subst (λ is. Each {A = ℕ × Held} (λ t. T (member t.0 j.touched || member t.0 is)) a.news) (sym ids) a.fresh);
      }
