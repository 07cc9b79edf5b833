-- Tokens that the line's clerk had too much reach the server.
use Rattle.std.proofs.Common.{◌≡◌, ◌≢◌, refl, sym, ap, subst, ◌∙◌, inl, inr, ◌⊎◌, arith, ◌≤◌, ◌<◌, ℕ, zero, suc, T, Bool, true, false, not, ◌==◌, ◌&&◌, cond, List, ◌∷◌, length, Option, Some, None, Contains}
use Rattle.std.specs.Prelude.{slice_index_or}
use Rattle.std.proofs.lemmas.Bool.{eqb-true, true≢false}
use Rattle.ec_base.specs.Tables.{Table, at}
use Rattle.ec_base.specs.Holds.{rank, is_below}
use Rattle.ec_base.specs.declared.ids.Hold.{Hold}
use Rattle.ec_base.specs.declared.ids.Hold.TheVariants.{Free, Read, Write}
use Rattle.ec_volume.specs.Update.{member}
use Rattle.ec_history.specs.History.{Each}
use Rattle.ec_sessions.specs.declared.slot.Slot.{Slot}
use Rattle.ec_sessions.specs.OfTokens.Tokens.{Tokens, token, is_conflict, conflicts, fits_back, lowered}
use Rattle.ec_sessions.specs.declared.tokens.token.Token.{Token}
use Rattle.ec_wire.specs.declared.msg.Msg.{Msg}
use Rattle.ec_wire.specs.declared.msg.Msg.TheVariants as msg
use Rattle.ec_cache.specs.Cache.{last}
use Rattle.ec_cache.specs.declared.state.Held.{Held}
use Rattle.ec_protocol.specs.Server.{Serving, serving, serve, take, back, with_server}
use Rattle.ec_protocol.specs.declared.clerk.Clerk.{Clerk}
use Rattle.ec_protocol.specs.declared.server.Server.{Server}
use Rattle.ec_quiet.specs.Facts.{IsOrderly, Same, token_of}
use Rattle.ec_quiet.specs.Measure.{Noted, base, fresh_rank}
use Rattle.ec_quiet.specs.Phases.{IsWorking, IsLeaving, IsGivenBack, backs, main, is_back}
use Rattle.ec_quiet.specs.Scenes.{Mail, Scene}
use Rattle.ec_quiet.specs.Works.{Work}
use Rattle.ec_machine_laws.specs.Serving.{IsAtWork}
use Rattle.ec_machine_laws.proofs.Given.{lowered-tokens}
use Rattle.ec_machine_laws.proofs.Rows.{lowered-others, no-conflict}
use Rattle.ec_machine_laws.proofs.Stepping.{at-work}
use Rattle.ec_quiet.proofs.Falling.{own-same}
use Rattle.ec_quiet.proofs.OfDeliveries.Ordering.{back-orderly}
use Rattle.ec_quiet.proofs.OfDeliveries.Wanted.{no-more}
use Rattle.ec_base.proofs.Numbers.{same-self}

-- The tokens behind such a message: lowered, if it fits.

abbrev pub left_tokens : ℕ → ℕ → ℕ → Tokens → Bool → Tokens
left_tokens s x n ts b = elim b as (λ z. Tokens) [ true ↦ lowered s x Free n ts | false ↦ ts ]

abbrev pub left : ℕ → ℕ → ℕ → Tokens → Tokens
left s x n ts = left_tokens s x n ts (fits_back (token ts s x) n Free)

never-below : (h : Hold) → is_below h Free ≡ false
never-below Free = refl
never-below Read = refl
never-below Write = refl

and-not : (a b : Bool) → b ≡ false → (a && not b) ≡ a
and-not true b e = ap not e
and-not false b e = refl

-- a recorded token fits by its number
fits-number : (s x n : ℕ) (ts : Tokens) (t : Token) → token ts s x ≡ Some t → fits_back (token ts s x) n Free ≡ (t.number == n)
fits-number s x n ts t e = ap (λ o. fits_back o n Free) e ∙ and-not (t.number == n) (is_below t.hold Free) (never-below t.hold)

module _ (s x n : ℕ) (ts : Tokens) where
  -- tokens of other sessions or objects stay
  pub left-there : (t y : ℕ) → ((t == s) && (y == x)) ≡ false → token (left s x n ts) t y ≡ token ts t y
  left-there t y e = go (fits_back (token ts s x) n Free)
    where
      go : (b : Bool) → token (left_tokens s x n ts b) t y ≡ token ts t y
      go true = lowered-tokens ts s x Free n t y ∙ ap (λ b. cond {A = Option Token} b None (token ts t y)) e
      go false = refl

  pub left-conflicts : (y : ℕ) (h : Hold) → conflicts (left s x n ts) s y h ≡ conflicts ts s y h
  left-conflicts y h = go (fits_back (token ts s x) n Free)
    where
      go : (b : Bool) → conflicts (left_tokens s x n ts b) s y h ≡ conflicts ts s y h
      go true = lowered-others s (is_conflict s h) (no-conflict s h) ts x Free n y
      go false = refl

  left-none : fits_back (token ts s x) n Free ≡ true → token (left s x n ts) s x ≡ None
  left-none fits =
      ap (λ b. token (left_tokens s x n ts b) s x) fits ∙ lowered-tokens ts s x Free n s x ∙ ap (λ b. cond {A = Option Token} (b && (x == x)) None (token ts s x)) (same-self s)
      ∙ ap (λ b. cond {A = Option Token} b None (token ts s x)) (same-self x)

  left-same : (t y : ℕ) → fits_back (token ts s x) n Free ≡ false → token (left s x n ts) t y ≡ token ts t y
  left-same t y e = ap (λ b. token (left_tokens s x n ts b) t y) e

  -- and so does a token of a later number
  pub left-later : (t : Token) → token ts s x ≡ Some t → n < t.number → token (left s x n ts) s x ≡ Some t
  left-later t e l = left-same s x (fits-number s x n ts t e ∙ apart (t.number == n) refl) ∙ e
    where
      apart : (b : Bool) → (t.number == n) ≡ b → b ≡ false
      apart true q = absurd (omega (arith, l, eqb-true t.number n q))
      apart false q = refl

pub left-orderly : (v : Server) (clerks : Table Clerk) (s x n : ℕ) → IsOrderly v clerks → IsOrderly (record v { tokens = left s x n v.tokens }) clerks
left-orderly v clerks s x n o = go (fits_back (token v.tokens s x) n Free) refl
  where
    go : (b : Bool) → fits_back (token v.tokens s x) n Free ≡ b → IsOrderly (record v { tokens = left_tokens s x n v.tokens b }) clerks
    go true e = back-orderly v clerks s x n Free o e
    go false e = o

-- The server's step.

pub left-taken : (c s e x n : ℕ) (sl : Slot) (v : Server) → IsAtWork c s e sl (serving v) → take c (msg.Back s e x n Free) v ≡ serve (serving (record v { tokens = left s x n v.tokens }))
left-taken c s e x n sl v work = go (fits_back (token v.tokens s x) n Free) refl
  where
    fitting : Bool → Serving
    fitting b = elim b as (λ z. Serving) [ true ↦ with_server (λ w. record w { tokens = lowered s x Free n w.tokens }) (serving v) | false ↦ serving v ]

    comes : (b : Bool) → fits_back (token v.tokens s x) n Free ≡ b → take c (msg.Back s e x n Free) v ≡ serve (fitting b)
    comes b q = ap serve (at-work c s e false (λ sl. back s x n Free) (serving v) sl work ∙ ap fitting q)

    go : (b : Bool) → fits_back (token v.tokens s x) n Free ≡ b → take c (msg.Back s e x n Free) v ≡ serve (serving (record v { tokens = left_tokens s x n v.tokens b }))
    go true q = comes true q
    go false q = comes false q

-- What the clerk knows of it.

pub given-number : (j : Work) (e : ℕ) (k : Clerk) (x n : ℕ) → IsGivenBack j e k (msg.Back j.session e x n Free) → n ≤ last x k.cache
given-number j e k x n g =
    let q = g.is in
    let objs : x ≡ g.obj = cc in
    let numbers : n ≡ g.number = cc in
    omega (arith, g.known, numbers, ap (λ z. last z k.cache) objs)

given-held : (j : Work) (e : ℕ) (k : Clerk) (x n : ℕ) → IsGivenBack j e k (msg.Back j.session e x n Free) → (h : Held) → at x k.cache.held ≡ Some h → n < h.number
given-held j e k x n g h p =
    let q = g.is in
    let objs : x ≡ g.obj = cc in
    let numbers : n ≡ g.number = cc in
    omega (arith, g.held h (ap (λ z. at z k.cache.held) (sym objs) ∙ p), numbers)

-- another message stands behind the first one
past : (m n : ℕ × Msg) (ms : Mail) → m ≢ n → Contains (m ∷ ms) n → Contains ms n
past m n ms apart c = go c.0 c.1 c.2
  where
    go : (i : ℕ) → i < length (m ∷ ms) → slice_index_or (m ∷ ms) i n ≡ n → Contains ms n
    go zero l q = absurd (apart q)
    go (suc i) l q = (i, omega (arith, l), q)

module _ (j : Work) (sc : Scene) (x n : ℕ) (rest : Mail) (mail : sc.mail ≡ (j.clerk, msg.Back j.session sc.server.durable.epoch x n Free) ∷ rest) where
  abbrev pub left_server : Server
  left_server = record sc.server { tokens = left j.session x n sc.server.tokens }

  abbrev pub left_scene : Scene
  left_scene = record sc { server = left_server; mail = rest }

  abbrev gone : ℕ × Msg
  gone = (j.clerk, msg.Back j.session sc.server.durable.epoch x n Free)

  gone-back : is_back j gone ≡ true
  gone-back = ap (λ b. b && true) (same-self j.clerk)

  pub backs-are : backs j sc.mail ≡ gone ∷ backs j rest
  backs-are = ap (backs j) mail ∙ ap (λ b. cond b (gone ∷ backs j rest) (backs j rest)) gone-back

  pub main-same : main j rest ≡ main j sc.mail
  main-same = sym (ap (main j) mail ∙ ap (λ b. cond (not b) (gone ∷ main j rest) (main j rest)) gone-back)

  module _ (xs : List ℕ) (sl : Slot) (k : Clerk) (a : IsWorking xs j sc sl k) where
    all-given : Each {A = ℕ × Msg} (λ m. IsGivenBack j sc.server.durable.epoch k m.1) (gone ∷ backs j rest)
    all-given = subst (Each {A = ℕ × Msg} (λ m. IsGivenBack j sc.server.durable.epoch k m.1)) backs-are a.given_back

    pub first-given : IsGivenBack j sc.server.durable.epoch k (msg.Back j.session sc.server.durable.epoch x n Free)
    first-given = all-given.0

    -- where the message fits, the clerk holds nothing there
    none-held : Same sc.server j.session k x → fits_back (token sc.server.tokens j.session x) n Free ≡ true → ⊥
    none-held same fits = go (at x k.cache.held) refl (sym (ap (λ o. fits_back o n Free) same) ∙ fits)
      where
        go : (o : Option Held) → at x k.cache.held ≡ o → fits_back (token_of o) n Free ≡ true → ⊥
        go None e f = absurd (true≢false (sym f))
        go (Some h) e f =
            let number : (h.number == n) ≡ true = sym (and-not (h.number == n) (is_below h.hold Free) (never-below h.hold)) ∙ f in
            absurd (omega (arith, given-held j sc.server.durable.epoch k x n first-given h e, eqb-true h.number n number))

    leaving-on : (y : ℕ) → token left_server.tokens j.session y ≡ token sc.server.tokens j.session y → (l : IsLeaving j sc k y) → gone ≢ (j.clerk, msg.Back j.session sc.server.durable.epoch y l.number Free) → IsLeaving j left_scene k y
    leaving-on y same l apart = record {
      number = l.number;
      hold = l.hold;
      sent = past gone (j.clerk, msg.Back j.session sc.server.durable.epoch y l.number Free) rest apart (subst (λ ms. Contains ms (j.clerk, msg.Back j.session sc.server.durable.epoch y l.number Free)) mail l.sent);
      recorded = same ∙ l.recorded;
      gone = l.gone;
      old = l.old;
    }

    abbrev IsAgreed : ℕ → Type 0
    IsAgreed y = Same left_server j.session k y ⊎ IsLeaving j left_scene k y

    elsewhere : (y : ℕ) → (y == x) ≡ false → Same sc.server j.session k y ⊎ IsLeaving j sc k y → IsAgreed y
    elsewhere y e before = elim before [ inl s ↦ inl (stays ∙ s) | inr l ↦ inr (leaving-on y stays l (apart l.number)) ]
      where
        off : (b : Bool) → (b && false) ≡ false
        off true = refl
        off false = refl

        stays : token left_server.tokens j.session y ≡ token sc.server.tokens j.session y
        stays = left-there j.session x n sc.server.tokens j.session y (ap (λ b. (j.session == j.session) && b) e ∙ off (j.session == j.session))

        apart : (m : ℕ) → gone ≢ (j.clerk, msg.Back j.session sc.server.durable.epoch y m Free)
        apart m q =
            let messages : msg.Back j.session sc.server.durable.epoch x n Free ≡ msg.Back j.session sc.server.durable.epoch y m Free = ap (λ z. z.1) q in
            let objs : x ≡ y = cc in
            absurd (true≢false (sym (ap (λ z. z == x) (sym objs) ∙ same-self x) ∙ e))

    here : Same sc.server j.session k x ⊎ IsLeaving j sc k x → IsAgreed x
    here before = go (fits_back (token sc.server.tokens j.session x) n Free) refl before
      where
        go : (b : Bool) → fits_back (token sc.server.tokens j.session x) n Free ≡ b → Same sc.server j.session k x ⊎ IsLeaving j sc k x → IsAgreed x
        go true fits (inl s) = absurd (none-held s fits)
        go true fits (inr l) = inl (left-none j.session x n sc.server.tokens fits ∙ sym (ap token_of l.gone))
        go false fits (inl s) = inl (left-same j.session x n sc.server.tokens j.session x fits ∙ s)
        go false fits (inr l) = inr (leaving-on x (left-same j.session x n sc.server.tokens j.session x fits) l apart)
          where
            apart : gone ≢ (j.clerk, msg.Back j.session sc.server.durable.epoch x l.number Free)
            apart q =
                let messages : msg.Back j.session sc.server.durable.epoch x n Free ≡ msg.Back j.session sc.server.durable.epoch x l.number Free = ap (λ z. z.1) q in
                let numbers : n ≡ l.number = cc in
                absurd (true≢false (sym (fits-number j.session x n sc.server.tokens (record { hold = l.hold; number = l.number }) l.recorded ∙ ap (λ z. z == n) (sym numbers) ∙ same-self n) ∙ fits))

    -- The clerk stays at work.
    pub working-left : IsWorking xs j left_scene sl k
    working-left = record {
      there = a.there;
      inside = record {
        there = a.inside.there;
        is_open = a.inside.is_open;
        session = a.inside.session;
        epoch = a.inside.epoch;
        claimed = a.inside.claimed;
        unowed = a.inside.unowed;
        numbers = a.inside.numbers;
        lasts = a.inside.lasts;
        capacity = a.inside.capacity;
        room = a.inside.room;
      };
      session = a.session;
      recalls = a.recalls;
      limits = a.limits;
      same = λ y m. by y (y == x) refl (a.same y m);
      given_back = all-given.1;
    }
      where
        by : (y : ℕ) (b : Bool) → (y == x) ≡ b → Same sc.server j.session k y ⊎ IsLeaving j sc k y → IsAgreed y
        by y true e before = subst IsAgreed (sym (eqb-true y x e)) (here (subst (λ z. Same sc.server j.session k z ⊎ IsLeaving j sc k z) (eqb-true y x e) before))
        by y false e before = elsewhere y e before

    -- What the token counted: nothing.
    pub left-price : (w : Noted) → IsOrderly sc.server sc.clerks → ((t : Token) → T (member x xs) → token sc.server.tokens j.session x ≡ Some t → last x k.cache < t.number)
        → base j w left_server.tokens sc.clerks ≡ base j w sc.server.tokens sc.clerks
    left-price w o later = go (fits_back (token sc.server.tokens j.session x) n Free) refl
      where
        -- an exception has a later token
        not-later : (t : Option Token) → token sc.server.tokens j.session x ≡ t → fits_back t n Free ≡ true → T (member x xs) → ⊥
        not-later None e f m = absurd (true≢false (sym f))
        not-later (Some t) e f m =
            let number : (t.number == n) ≡ true = sym (and-not (t.number == n) (is_below t.hold Free) (never-below t.hold)) ∙ f in
            absurd (omega (arith, later t m e, given-number j sc.server.durable.epoch k x n first-given, eqb-true t.number n number))

        worthless : IsLeaving j sc k x → (member x j.touched ≡ false) ⊎ (fresh_rank j.number (token sc.server.tokens j.session x) ≡ 0)
        worthless l = elim l.old [
          | inl m ↦ inr (ap (fresh_rank j.number) l.recorded ∙ ap (λ b. elim b as (λ z. ℕ) [ true ↦ rank l.hold | false ↦ 0 ]) (no-more j.number l.number m))
          | inr u ↦ inl u
        ]

        old : (b : Bool) → member x xs ≡ b → fits_back (token sc.server.tokens j.session x) n Free ≡ true → (member x j.touched ≡ false) ⊎ (fresh_rank j.number (token sc.server.tokens j.session x) ≡ 0)
        old true e f = absurd (not-later (token sc.server.tokens j.session x) refl f (subst T (sym e) tt))
        old false e f = elim (a.same x (subst (λ b. T (not b)) (sym e) tt)) [ inl s ↦ absurd (none-held s f) | inr l ↦ worthless l ]

        go : (b : Bool) → fits_back (token sc.server.tokens j.session x) n Free ≡ b → base j w (left_tokens j.session x n sc.server.tokens b) sc.clerks ≡ base j w sc.server.tokens sc.clerks
        go true f = own-same j w sc.server.tokens sc.clerks x n o.sound (old (member x xs) refl f)
        go false f = refl
