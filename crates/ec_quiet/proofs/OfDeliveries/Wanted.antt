-- A want that is delivered is granted or noted.
use Rattle.std.proofs.Common.{◌≡◌, ◌≢◌, refl, sym, ap, subst, ◌∙◌, inl, inr, ◌⊎◌, arith, ◌≤◌, ◌<◌, ◌+◌, ℕ, zero, suc, T, Bool, true, false, not, ◌==◌, ◌&&◌, ◌||◌, cond, List, [], ◌∷◌, ◌++◌, length, filter, Option, Some, None, Contains, append-nil}
use Rattle.std.specs.Prelude.{nat_lt, is_none, slice_index_or}
use Rattle.std.proofs.lemmas.Bool.{eqb-true, true≢false}
use Rattle.std.proofs.lemmas.Bool.Decides.{nat_tests}
use Rattle.ec_base.specs.Tables.{at}
use Rattle.ec_base.specs.Holds.{rank, is_free, is_below}
use Rattle.ec_base.specs.declared.ids.Hold.{Hold}
use Rattle.ec_base.specs.declared.ids.Hold.TheVariants.{Free, Read, Write}
use Rattle.ec_volume.specs.Update.{member}
use Rattle.ec_volume.specs.Volume.{images}
use Rattle.ec_history.specs.History.{Each}
use Rattle.ec_sessions.specs.declared.slot.Slot.{Slot}
use Rattle.ec_sessions.specs.OfTokens.Laws.{token-granted}
use Rattle.ec_sessions.specs.OfTokens.Tokens.{Holder, token, first_holder, conflicts, is_clear, granted}
use Rattle.ec_sessions.specs.declared.tokens.token.Token.{Token}
use Rattle.ec_wire.specs.declared.msg.Msg.{Msg}
use Rattle.ec_wire.specs.declared.msg.Msg.TheVariants as msg
use Rattle.ec_durable.specs.Durable.{slot}
use Rattle.ec_cache.specs.Cache.{last, mode, held_mode}
use Rattle.ec_cache.specs.declared.state.Held.{Held}
use Rattle.ec_protocol.specs.Server.{serving, take, is_last_number, has_claimed}
use Rattle.ec_protocol.specs.declared.server.Server.{Server}
use Rattle.ec_quiet.specs.Facts.{token_of, session_clerk}
use Rattle.ec_quiet.specs.Measure.{fresh_rank, measure}
use Rattle.ec_quiet.specs.Phases.{Phase, Wants, Grants, Recalls, InPhase, IsWanting, IsLeaving, IsGivenBack, backs, main, is_back}
use Rattle.ec_quiet.specs.Scenes.{Mail, Scene, delivered}
use Rattle.ec_quiet.specs.Works.{Work}
use Rattle.ec_machine_laws.specs.Serving.{IsAtWork, IsKnown, new_want, telling, recalls_of, granting}
use Rattle.ec_machine_laws.proofs.Stepping.{want-granted, want-waits, grant-sent}
use Rattle.ec_quiet.proofs.Falling.{want-granted as granted-falls, want-noted as noted-falls}
use Rattle.ec_quiet.specs.OfDeliveries.Orderly.{IsLikeBut, KeepsBacks, are_no_backs}
use Rattle.ec_quiet.proofs.OfDeliveries.Idling.{idle-stays, like-grant, like-wants}
use Rattle.ec_quiet.proofs.OfDeliveries.Ordering.{grant-orderly, wants-orderly}
use Rattle.ec_quiet.proofs.OfDeliveries.Working.{wanting-stays, keeps-backs, main-joins, main-front}
use Rattle.ec_base.proofs.Numbers.{same-self}
use Rattle.ec_quiet.proofs.OfDeliveries.Claimed.{behind}

-- Lists.

pub each-at : {A : Type 0} (P : A → Type 0) (xs : List A) (x : A) → Each P xs → Contains xs x → P x
each-at {A} P [] x e c = absurd (omega (arith, c.1))
each-at {A} P (y ∷ xs) x e c = go c.0 c.1 c.2 (λ d. each-at P xs x e.1 d)
  where
    go : (i : ℕ) → i < length (y ∷ xs) → slice_index_or (y ∷ xs) i x ≡ x → (Contains xs x → P x) → P x
    go zero l q more = subst P q e.0
    go (suc i) l q more = more (i, omega (arith, l), q)

pub passes-in : {A : Type 0} (p : A → Bool) (xs : List A) (x : A) → p x ≡ true → Contains xs x → Contains (filter p xs) x
passes-in {A} p [] x t c = absurd (omega (arith, c.1))
passes-in {A} p (y ∷ xs) x t c = go c.0 c.1 c.2 (λ d. passes-in p xs x t d)
  where
    further : (b : Bool) → Contains (filter p xs) x → Contains (cond b (y ∷ filter p xs) (filter p xs)) x
    further true d = (suc d.0, omega (arith, d.1), d.2)
    further false d = d

    go : (i : ℕ) → i < length (y ∷ xs) → slice_index_or (y ∷ xs) i x ≡ x → (Contains xs x → Contains (filter p xs) x) → Contains (cond (p y) (y ∷ filter p xs) (filter p xs)) x
    go zero l q more = subst (λ b. Contains (cond b (y ∷ filter p xs) (filter p xs)) x) (sym (ap p q ∙ t)) (0, omega arith, q)
    go (suc i) l q more = further (p y) (more (i, omega (arith, l), q))

-- What the want tells of the clerk's token.

not-less : (m : ℕ) → nat_lt m m ≡ false
not-less m = grind (arith, nat_tests)

pub no-more : (m n : ℕ) → n ≤ m → nat_lt m n ≡ false
no-more m n l = grind (arith, nat_tests)

lower : (a b : Hold) → T (is_below a b) → rank a < rank b
lower a b h = grind (arith, nat_tests, h)

above-free : (h : Hold) → 0 < rank h → is_free h ≡ false
above-free Free l = absurd (omega (arith, l))
above-free Read l = refl
above-free Write l = refl

module _ (j : Work) (sc : Scene) (x : ℕ) (h : Hold) (n : ℕ) (w : IsWanting [] j sc x h n) where
  at-work : IsAtWork j.clerk j.session sc.server.durable.epoch w.slot (serving sc.server)
  at-work = record {
    slot = w.working.inside.there;
    session = ap (λ z. z == j.session) w.working.session ∙ same-self j.session;
    is_open = w.working.inside.is_open;
    epoch = same-self sc.server.durable.epoch;
    claimed = sym (ap (λ z. has_claimed z sc.server) w.working.session) ∙ w.working.inside.claimed;
  }

  higher : rank (mode x w.clerk.cache) < rank h
  higher = lower (mode x w.clerk.cache) h w.below

  held-free : is_free h ≡ false
  held-free = above-free h (omega (arith, higher))

  -- a token that leaves has a number that the clerk knows
  leaving-known : (l : IsLeaving j sc w.clerk x) → l.number ≤ n
  leaving-known l =
      let here : Contains (backs j sc.mail) (j.clerk, msg.Back j.session sc.server.durable.epoch x l.number Free)
      = passes-in (is_back j) sc.mail (j.clerk, msg.Back j.session sc.server.durable.epoch x l.number Free) (ap (λ b. b && true) (same-self j.clerk)) l.sent in
      let g : IsGivenBack j sc.server.durable.epoch w.clerk (msg.Back j.session sc.server.durable.epoch x l.number Free)
      = each-at (λ m. IsGivenBack j sc.server.durable.epoch w.clerk m.1) (backs j sc.mail) (j.clerk, msg.Back j.session sc.server.durable.epoch x l.number Free) w.working.given_back here in
      let q = g.is in
      let objs : x ≡ g.obj = cc in
      let numbers : l.number ≡ g.number = cc in
      omega (arith, g.known, numbers, ap (λ z. last z w.clerk.cache) objs, w.number)

  known : IsKnown (token sc.server.tokens j.session x) n
  known = elim (w.working.same x tt) [
    | inl s ↦ subst (λ o. IsKnown o n) (sym s) (held (at x w.clerk.cache.held) refl)
    | inr l ↦ subst (λ o. IsKnown o n) (sym l.recorded) (no-more n l.number (leaving-known l))
  ]
    where
      held : (o : Option Held) → at x w.clerk.cache.held ≡ o → IsKnown (token_of o) n
      held None e = tt
      held (Some g) e = ap (nat_lt n) (w.working.inside.numbers x g e ∙ w.number) ∙ not-less n

  pub fresh-below : fresh_rank j.number (token sc.server.tokens j.session x) < rank h
  fresh-below = elim (w.working.same x tt) [
    | inl s ↦ subst (λ o. fresh_rank j.number o < rank h) (sym s) (held (at x w.clerk.cache.held) higher)
    | inr l ↦ subst (λ o. fresh_rank j.number o < rank h) (sym l.recorded) (old l l.old)
  ]
    where
      at-most : (b : Bool) (m : ℕ) → m < rank h → elim b as (λ z. ℕ) [ true ↦ m | false ↦ 0 ] < rank h
      at-most true m l = l
      at-most false m l = omega (arith, l)

      held : (o : Option Held) → rank (held_mode o) < rank h → fresh_rank j.number (token_of o) < rank h
      held None l = l
      held (Some g) l = at-most (nat_lt j.number g.number) (rank g.hold) l

      old : (l : IsLeaving j sc w.clerk x) → (l.number ≤ j.number) ⊎ (member x j.touched ≡ false) → fresh_rank j.number (Some (record { hold = l.hold; number = l.number })) < rank h
      old l (inl m) = subst (λ b. elim b as (λ z. ℕ) [ true ↦ rank l.hold | false ↦ 0 ] < rank h) (sym (no-more j.number l.number m)) (omega (arith, higher))
      old l (inr u) = absurd (subst T u w.touched)

-- The other clerks.

pub other-session : (j : Work) (sc : Scene) (p : Phase) → InPhase j sc p → (a : Slot) → slot sc.server.durable j.clerk ≡ Some a → a.session ≡ j.session → (c : ℕ) (sl : Slot) → (c == j.clerk) ≡ false → slot sc.server.durable c ≡ Some sl → (sl.session == j.session) ≡ false
other-session j sc p ip a there own c sl other at = go (sl.session == j.session) refl
  where
    go : (b : Bool) → (sl.session == j.session) ≡ b → b ≡ false
    go true e =
        let same : c ≡ j.clerk = sym (ip.orderly.own c sl at) ∙ ap (session_clerk sc.server) (eqb-true sl.session j.session e ∙ sym own) ∙ ip.orderly.own j.clerk a there in
        absurd (true≢false (sym (ap (λ z. z == j.clerk) same ∙ same-self j.clerk) ∙ other))
    go false e = refl

-- Granted at once.

pub not-in-one : (x y : ℕ) → T (not (member y (x ∷ []))) → (y == x) ≡ false
not-in-one x y m = go (y == x) m
  where
    go : (b : Bool) → T (not (b || false)) → b ≡ false
    go true m = absurd m
    go false m = refl

module _ (j : Work) (sc : Scene) (x : ℕ) (h : Hold) (n : ℕ) (rest : Mail) (ip : InPhase j sc (Wants x h n)) (mail : sc.mail ≡ (j.clerk, msg.Want j.session sc.server.durable.epoch x h n) ∷ rest) where
  abbrev want : ℕ × Msg
  want = (j.clerk, msg.Want j.session sc.server.durable.epoch x h n)

  abbrev wanting : IsWanting [] j sc x h n
  wanting = ip.facts.1

  no-back : is_back j want ≡ false
  no-back = off (j.clerk == j.clerk)
    where
      off : (b : Bool) → (b && false) ≡ false
      off true = refl
      off false = refl

  nothing-else : main j rest ≡ []
  nothing-else =
      let both : want ∷ main j rest ≡ want ∷ [] = sym (main-front j want rest no-back) ∙ ap (main j) (sym mail) ∙ ip.main_is in
      cc

  keeps : (ns : Mail) → are_no_backs ns ≡ true → KeepsBacks j sc.mail (rest ++ ns)
  keeps ns none = subst (λ ms. KeepsBacks j ms (rest ++ ns)) (sym mail) (keeps-backs j want rest ns no-back none)

  abbrev now : Server
  now = record sc.server { number = sc.server.number + 1; tokens = granted j.session x h (sc.server.number + 1) sc.server.tokens }

  abbrev grant-of : ℕ × Msg
  grant-of = (session_clerk sc.server j.session, msg.Grant j.session sc.server.durable.epoch x (sc.server.number + 1) h (images sc.server.durable.volume x))

  abbrev granted-scene : Scene
  granted-scene = record sc { server = now; mail = rest ++ grant-of ∷ [] }

  own-clerk : session_clerk sc.server j.session ≡ j.clerk
  own-clerk = ap (session_clerk sc.server) (sym wanting.working.session) ∙ ip.orderly.own j.clerk wanting.slot wanting.working.inside.there

  like-own : IsLikeBut (x ∷ []) sc.server now j.clerk j.session
  like-own = record {
    slot = refl;
    epoch = refl;
    claimed = λ e. e;
    number = omega arith;
    tokens = λ y m. token-granted sc.server.tokens j.session x h (sc.server.number + 1) j.session y
        ∙ ap (λ b. cond {A = Option Token} ((j.session == j.session) && b) (Some (record { hold = h; number = sc.server.number + 1 })) (token sc.server.tokens j.session y)) (not-in-one x y m) ∙ off (j.session == j.session) y;
  }
    where
      off : (a : Bool) (y : ℕ) → cond {A = Option Token} (a && false) (Some (record { hold = h; number = sc.server.number + 1 })) (token sc.server.tokens j.session y) ≡ token sc.server.tokens j.session y
      off true y = refl
      off false y = refl

  pub granted-phase : is_clear sc.server.tokens j.session x h ≡ true → InPhase j granted-scene (Grants x h (sc.server.number + 1))
  granted-phase clear = record {
    clerk = ip.clerk;
    number = omega (arith, ip.number);
    main_is = main-joins j rest (grant-of ∷ []) refl ∙ ap (λ ms. ms ++ grant-of ∷ []) nothing-else ∙ ap (λ c. (c, msg.Grant j.session sc.server.durable.epoch x (sc.server.number + 1) h (images sc.server.durable.volume x)) ∷ []) own-clerk;
    orderly = grant-orderly sc.server sc.clerks j.clerk j.session x (sc.server.number + 1) h wanting.slot ip.orderly wanting.working.inside.there wanting.working.session wanting.working.inside.is_open (held-free j sc x h n wanting) clear;
    others = λ c k other busy there.
        let i = ip.others c k other refl there in
        (i.0, idle-stays [] sc.server now c i.0 k (like-grant sc.server j.session x h c (i.0).session (other-session j sc (Wants x h n) ip wanting.slot wanting.working.inside.there wanting.working.session c i.0 other (i.1).inside.there)) i.1);
    facts = (
      ip.facts.0,
      here,
      n,
      wanting-stays [] (x ∷ []) j sc now (rest ++ grant-of ∷ []) (λ y m. absurd m) like-own (keeps (grant-of ∷ []) refl) x h n wanting,
      omega (arith, wanting.number, wanting.working.inside.lasts x),
      omega (arith, ip.number),
    );
  }
    where
      here : token now.tokens j.session x ≡ Some (record { hold = h; number = sc.server.number + 1 })
      here =
          token-granted sc.server.tokens j.session x h (sc.server.number + 1) j.session x
          ∙ ap (λ b. cond {A = Option Token} (b && (x == x)) (Some (record { hold = h; number = sc.server.number + 1 })) (token sc.server.tokens j.session x)) (same-self j.session)
          ∙ ap (λ b. cond {A = Option Token} b (Some (record { hold = h; number = sc.server.number + 1 })) (token sc.server.tokens j.session x)) (same-self x)

  granted-less : measure j granted-scene (Grants x h (sc.server.number + 1)) + 32 ≤ measure j sc (Wants x h n)
  granted-less =
      omega (
        arith,
        granted-falls j sc.server.tokens sc.clerks x (sc.server.number + 1) h ip.orderly.sound wanting.touched (fresh-below j sc x h n wanting) (omega (arith, ip.number)),
        ap length ((keeps (grant-of ∷ []) refl).same),
      )

-- Noted.

module _ (j : Work) (sc : Scene) (x : ℕ) (h : Hold) (n : ℕ) (rest : Mail) (ip : InPhase j sc (Wants x h n)) (mail : sc.mail ≡ (j.clerk, msg.Want j.session sc.server.durable.epoch x h n) ∷ rest)
    (keeps : (ns : Mail) → are_no_backs ns ≡ true → KeepsBacks j sc.mail (rest ++ ns)) (nothing-else : main j rest ≡ []) where
  abbrev wants : IsWanting [] j sc x h n
  wants = ip.facts.1

  abbrev against : List Holder
  against = conflicts sc.server.tokens j.session x h

  abbrev noting : Server
  noting = record sc.server { recalls = telling (conflicts sc.server.tokens j.session x h) (new_want j.session x h) ∷ [] }

  abbrev recalls : Mail
  recalls = recalls_of (serving sc.server) (new_want j.session x h) (conflicts sc.server.tokens j.session x h)

  abbrev noted-scene : Scene
  noted-scene = record sc { server = noting; mail = rest ++ recalls }

  no-backs-in : (gs : List Holder) → are_no_backs (recalls_of (serving sc.server) (new_want j.session x h) gs) ≡ true
  no-backs-in [] = refl
  no-backs-in (g ∷ gs) = no-backs-in gs

  like-noted : IsLikeBut [] sc.server noting j.clerk j.session
  like-noted = record { slot = refl; epoch = refl; claimed = λ e. e; number = omega arith; tokens = λ y m. refl }

  some-conflict : is_clear sc.server.tokens j.session x h ≡ false → against ≢ []
  some-conflict clear e = absurd (true≢false (sym (ap (λ gs. is_none (first_holder gs)) e) ∙ clear))

  noted-phase : is_clear sc.server.tokens j.session x h ≡ false → InPhase j noted-scene (Recalls x h against [])
  noted-phase clear = record {
    clerk = ip.clerk;
    number = ip.number;
    main_is = main-joins j rest recalls (no-backs-in against) ∙ ap (λ ms. ms ++ recalls) nothing-else ∙ sym (append-nil recalls);
    orderly = wants-orderly sc.server sc.clerks (telling against (new_want j.session x h) ∷ []) ip.orderly;
    others = λ c k other busy there.
        let i = ip.others c k other refl there in
        (i.0, idle-stays [] sc.server noting c i.0 k (like-wants sc.server (telling against (new_want j.session x h) ∷ []) c (i.0).session) i.1);
    facts = (
      record {
        last = n;
        wanting = wanting-stays [] [] j sc noting (rest ++ recalls) (λ y m. m) like-noted (keeps recalls (no-backs-in against)) x h n wants;
        recalls = refl;
        conflicts = refl;
        some = some-conflict clear;
      },
      tt,
    );
  }

  noted-less : measure j noted-scene (Recalls x h against []) + 32 ≤ measure j sc (Wants x h n)
  noted-less =
      omega (
        arith,
        noted-falls j sc.server.tokens sc.clerks x h wants.touched (fresh-below j sc x h n wants),
        ap length ((keeps recalls (no-backs-in against)).same),
      )

-- The delivery.

pub wants-delivered : (j : Work) (sc : Scene) (x : ℕ) (h : Hold) (n : ℕ) (rest : Mail) → InPhase j sc (Wants x h n) → is_last_number (serving sc.server) ≡ false
    → sc.mail ≡ (j.clerk, msg.Want j.session sc.server.durable.epoch x h n) ∷ rest
    → (p : Phase) × InPhase j (delivered j.clerk (msg.Want j.session sc.server.durable.epoch x h n) rest sc) p × (measure j (delivered j.clerk (msg.Want j.session sc.server.durable.epoch x h n) rest sc) p + 32 ≤ measure j sc (Wants x h n))
wants-delivered j sc x h n rest ip counts mail = go (is_clear sc.server.tokens j.session x h) refl
  where
    w : IsWanting [] j sc x h n
    w = ip.facts.1

    go : (b : Bool) → is_clear sc.server.tokens j.session x h ≡ b
        → (p : Phase) × InPhase j (behind sc rest (take j.clerk (msg.Want j.session sc.server.durable.epoch x h n) sc.server)) p × (measure j (behind sc rest (take j.clerk (msg.Want j.session sc.server.durable.epoch x h n) sc.server)) p + 32 ≤ measure j sc (Wants x h n))
    go true e =
        let t : take j.clerk (msg.Want j.session sc.server.durable.epoch x h n) sc.server ≡ granting j.session x h (serving sc.server)
        = want-granted j.clerk j.session sc.server.durable.epoch x n h w.slot sc.server (at-work j sc x h n w) ip.facts.0 ip.orderly.claimed (known j sc x h n w) e ∙ grant-sent (serving sc.server) j.session x h counts in (
          Grants x h (sc.server.number + 1),
          subst (λ u. InPhase j (behind sc rest u) (Grants x h (sc.server.number + 1))) (sym t) (granted-phase j sc x h n rest ip mail e),
          subst (λ u. measure j (behind sc rest u) (Grants x h (sc.server.number + 1)) + 32 ≤ measure j sc (Wants x h n)) (sym t) (granted-less j sc x h n rest ip mail),
        )
    go false e =
        let t = want-waits j.clerk j.session sc.server.durable.epoch x n h w.slot sc.server (at-work j sc x h n w) ip.facts.0 ip.orderly.claimed (known j sc x h n w) e in
        let keep : (ns : Mail) → are_no_backs ns ≡ true → KeepsBacks j sc.mail (rest ++ ns) = keeps j sc x h n rest ip mail in (
          Recalls x h (conflicts sc.server.tokens j.session x h) [],
          subst (λ u. InPhase j (behind sc rest u) (Recalls x h (conflicts sc.server.tokens j.session x h) [])) (sym t) (noted-phase j sc x h n rest ip mail keep (nothing-else j sc x h n rest ip mail) e),
          subst (λ u. measure j (behind sc rest u) (Recalls x h (conflicts sc.server.tokens j.session x h) []) + 32 ≤ measure j sc (Wants x h n)) (sym t) (noted-less j sc x h n rest ip mail keep (nothing-else j sc x h n rest ip mail)),
        )
