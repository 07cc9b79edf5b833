-- Wants are served: each grant's test holds at the tokens of its turn, and all token facts stay.
use Rattle.std.proofs.Common.{◌≡◌, refl, sym, ap, subst, ◌∙◌, ◌⊎◌, inl, inr, arith, ℕ, suc, Bool, true, false, not, ◌&&◌, ◌+◌, ◌^◌, cond, T, ◌≤◌, List, [], ◌∷◌, ◌++◌, map, filter}
use Rattle.std.specs.Prelude.{◌==◌, Option, None, Some, is_some, is_none, Contains, nat_le}
use Rattle.std.proofs.lemmas.Bool.{and_parts}
use Rattle.std.proofs.lemmas.List.{append_assoc}
use Rattle.ec_base.specs.Tables.{at}
use Rattle.ec_base.specs.declared.counter.Counter.{Counter}
use Rattle.ec_base.specs.declared.counter.Counter.TheVariants as counter
use Rattle.ec_base.specs.declared.ids.Hold.{Hold}
use Rattle.ec_base.specs.declared.ids.Hold.TheVariants.{Free, Read, Write}
use Rattle.ec_volume.specs.Update.{member}
use Rattle.ec_volume.specs.Volume.{images}
use Rattle.ec_history.specs.History.{Each}
use Rattle.ec_base.specs.Holds.{clash, rank, is_free, is_write}
use Rattle.ec_sessions.specs.OfTokens.Laws.{holder_has, clear_of}
use Rattle.ec_sessions.specs.OfTokens.Tokens as tokens
use Rattle.ec_sessions.specs.OfTokens.SoundTokens as sound_tokens
use Rattle.ec_sessions.specs.declared.tokens.token.Token.{Token}
use Rattle.ec_sessions.specs.OfRecall.Due.{is_due, given_to, recall_to, news, recall_of, told_of, actions_from, wants_from}
use Rattle.ec_sessions.specs.OfRecall.Wants.{is_of}
use Rattle.ec_sessions.specs.declared.recall.want.Want as want
use Rattle.ec_sessions.specs.declared.recall.want.Action.{Action}
use Rattle.ec_sessions.specs.declared.recall.want.Action.TheVariants as action
use Rattle.ec_wire.specs.Messages.{is_held_mode}
use Rattle.ec_wire.specs.declared.msg.Msg.{Msg}
use Rattle.ec_wire.specs.declared.msg.Msg.TheVariants.{Grant, Recall}
use Rattle.ec_cache.specs.Cache.{last}
use Rattle.ec_cache.specs.declared.state.Held.{Held}
use Rattle.ec_durable.specs.declared.record.Record.{Record}
use Rattle.ec_protocol.specs.declared.server.Server.{Server}
use Rattle.ec_protocol.specs.Server.{Serving, first_spent, with_server, act, act_all, clerk_from, clerk_of, send_grant}
use Rattle.ec_coherence.specs.System.{System, Ghost, recorded}
use Rattle.ec_coherence.specs.Tokens.{Tables, View, Side, InSession, Below, IsWrite, Names, Passed, Wanted, Noted, WantsAreDistinct, view, TokensAgree}
use Rattle.ec_coherence.specs.Steps.{serving_in}
use Rattle.ec_coherence.proofs.ForServer.Changed.{over, changed}
use Rattle.ec_coherence.proofs.ForServer.Granted.{granted-said, not-held}
use Rattle.ec_coherence.proofs.ForServer.Noted.{wants-agree}
use Rattle.ec_coherence.proofs.ForServer.Said.{with_pool, said-agrees}
use Rattle.ec_coherence.proofs.ForServer.Tables.{token-granted}
use Rattle.ec_coherence.proofs.ForServer.Was.{was-below}
use Rattle.ec_base.proofs.Numbers.{equal}
use Rattle.ec_history.proofs.HistoryLemmas.{each-more as each-append}
use Rattle.ec_wire.proofs.MessagesLemmas.{not-free}

-- Lists.

pub each-from : {A : Type 0} (P : A → Type 0) (xs : List A) → ((y : A) → Contains xs y → P y) → Each P xs
each-from P [] f = tt
each-from P (x ∷ xs) f = (f x (0, omega arith, refl), each-from P xs (λ y c. f y (suc c.0, omega (arith, c.1), c.2)))

each-filter : {A : Type 0} (P : A → Type 0) (p : A → Bool) (xs : List A) → Each P xs → Each P (filter p xs)
each-filter P p [] f = tt
each-filter P p (x ∷ xs) f = go (p x) (each-filter P p xs f.1)
  where
    go : (b : Bool) → Each P (filter p xs) → Each P (cond b (x ∷ filter p xs) (filter p xs))
    go true r = (f.0, r)
    go false r = r

-- one of a list leaves
each-less : {A : Type 0} (P : A → Type 0) (xs : List A) (y : A) (ys : List A) → Each P (xs ++ y ∷ ys) → P y × Each P (xs ++ ys)
each-less P [] y ys f = (f.0, f.1)
each-less P (x ∷ xs) y ys f = let q = each-less P xs y ys f.1 in (q.0, (f.0, q.1))

is_of-turn : (q r : want.Want) → T (not (is_of q.session q.obj r)) → T (not (is_of r.session r.obj q))
is_of-turn q r n = subst (λ b. T (not b)) (turn q.session r.session q.obj r.obj) n
  where
    turn : (a b c d : ℕ) → ((a == b) && (c == d)) ≡ ((b == a) && (d == c))
    turn a b c d = grind arith

apart-less : (xs : List want.Want) (q : want.Want) (ys : List want.Want) → WantsAreDistinct (xs ++ q ∷ ys) → Each (λ r. T (not (is_of q.session q.obj r))) (xs ++ ys) × WantsAreDistinct (xs ++ ys)
apart-less [] q ys d = d
apart-less (x ∷ xs) q ys d = let e = each-less (λ r. T (not (is_of x.session x.obj r))) xs q ys d.0 in let r = apart-less xs q ys d.1 in ((is_of-turn x q e.0, r.0), (e.1, r.1))

-- one of a list is told more
module _ (w : View) (v : Tables) (q : want.Want) (told : List (ℕ × ℕ)) where
  noted-told : (xs ys : List want.Want) → Each (Noted w v) (xs ++ q ∷ ys) → Each (Noted w v) (xs ++ record q { told = told } ∷ ys)
  noted-told [] ys f = f
  noted-told (x ∷ xs) ys f = (f.0, noted-told xs ys f.1)

  away-told : (a b : ℕ) (xs ys : List want.Want) → Each (λ r. T (not (is_of a b r))) (xs ++ q ∷ ys) → Each (λ r. T (not (is_of a b r))) (xs ++ record q { told = told } ∷ ys)
  away-told a b [] ys f = f
  away-told a b (x ∷ xs) ys f = (f.0, away-told a b xs ys f.1)

  apart-told : (xs ys : List want.Want) → WantsAreDistinct (xs ++ q ∷ ys) → WantsAreDistinct (xs ++ record q { told = told } ∷ ys)
  apart-told [] ys d = d
  apart-told (x ∷ xs) ys d = (away-told x.session x.obj xs ys d.0, apart-told xs ys d.1)

-- Tests at the tokens of a turn.

-- What the tokens are: the first ones, or given since.
abbrev pub Turned : tokens.Tokens → tokens.Tokens → tokens.Tokens → Type 0
Turned first given now = (t x : ℕ) → (tokens.token now t x ≡ tokens.token first t x) ⊎ (tokens.mode (tokens.token now t x) ≡ tokens.mode (tokens.token given t x))

none-passing : (p : tokens.Holder → Bool) (hs : List tokens.Holder) → Each (λ g. p g ≡ false) hs → is_none (tokens.first_holder (filter p hs)) ≡ true
none-passing p [] f = refl
none-passing p (g ∷ gs) f = go (p g) f.0 (none-passing p gs f.1)
  where
    go : (b : Bool) → b ≡ false → is_none (tokens.first_holder (filter p gs)) ≡ true → is_none (tokens.first_holder (cond b (g ∷ filter p gs) (filter p gs))) ≡ true
    go true e r = absurd (cc)
    go false e r = r

-- who conflicts with the want
abbrev pub conflicts_of : tokens.Tokens → want.Want → List tokens.Holder
conflicts_of ts q = tokens.conflicts ts q.session q.obj q.hold

clear-now : (first given now : tokens.Tokens) (s x : ℕ) (h : Hold) → sound_tokens.IsSound now → Turned first given now → tokens.is_clear first s x h ≡ true → tokens.is_clear given s x h ≡ true → tokens.is_clear now s x h ≡ true
clear-now first given now s x h sound turned a b = none-passing (tokens.is_conflict s h) (tokens.holders now x) (each-from (λ g. tokens.is_conflict s h g ≡ false) (tokens.holders now x) (λ g c. go g c (g.0 == s) refl))
  where
    quiet : (t : ℕ) → (t == s) ≡ false → clash (tokens.mode (tokens.token now t x)) h ≡ false
    quiet t d = elim (turned t x) [
      | inl e ↦ ap (λ o. clash (tokens.mode o) h) e ∙ clear_of first s x h a t d
      | inr e ↦ ap (λ m. clash m h) e ∙ clear_of given s x h b t d
    ]

    go : (g : tokens.Holder) → Contains (tokens.holders now x) g → (c : Bool) → (g.0 == s) ≡ c → (not c && clash g.1 h) ≡ false
    go g c true e = refl
    go g c false e = sym (ap (λ o. clash (tokens.mode o) h) (holder_has now x g sound.rising c)) ∙ quiet g.0 e

turned-on : (first given now : tokens.Tokens) (s x : ℕ) (h : Hold) (n : ℕ) → is_free h ≡ false → Turned first given now → Turned first (given_to s x h given) (tokens.granted s x h n now)
turned-on first given now s x h n held turned t y = (subst (λ o. (o ≡ tokens.token first t y) ⊎ (tokens.mode o ≡ tokens.mode (tokens.token (tokens.granted s x h 0 given) t y))) (sym (token-granted now s x h n t y))
    (subst (λ o. (cond ((t == s) && (y == x)) (Some (record { hold = h; number = n })) (tokens.token now t y) ≡ tokens.token first t y) ⊎ (tokens.mode (cond ((t == s) && (y == x)) (Some (record { hold = h; number = n })) (tokens.token now t y)) ≡ tokens.mode o)) (sym (token-granted given s x h 0 t y)) (go ((t == s) && (y == x)))))
  where
    go : (b : Bool) → (cond b (Some (record { hold = h; number = n })) (tokens.token now t y) ≡ tokens.token first t y) ⊎ (tokens.mode (cond b (Some (record { hold = h; number = n })) (tokens.token now t y)) ≡ tokens.mode (cond b (Some (record { hold = h; number = 0 })) (tokens.token given t y)))
    go true = inr refl
    go false = turned t y

-- A spent counter stays spent.

pub still-spent : (o : Option Counter) (n : Counter) → T (is_some o) → T (is_some (first_spent o n))
still-spent None n t = absurd t
still-spent (Some m) n t = tt

pub act-spent : (a : Action) (t : Serving) → T (is_some t.spent) → T (is_some (act a t).spent)
act-spent (action.Recall s x n h) t p = p
act-spent (action.Grant s x h) t p = go (nat_le (2 ^ 62) t.server.number)
  where
    go : (b : Bool) → T (is_some ((elim b as (λ z. Serving) [ true ↦ record t { spent = first_spent t.spent counter.Number } | false ↦ record t { server = record (t.server) { number = t.server.number + 1 } } ]).spent))
    go true = still-spent t.spent counter.Number p
    go false = p

pub acts-spent : (xs : List Action) (t : Serving) → T (is_some t.spent) → T (is_some (act_all xs t).spent)
acts-spent [] t p = p
acts-spent (a ∷ xs) t p = acts-spent xs (act a t) (act-spent a t p)

-- no open session's clerk holds Write on the object
abbrev pub NoWriter : View → ℕ → Type 0
NoWriter w x = (t : ℕ) → T (w.is_open t) → InSession w t (λ k. ¬ (IsWrite (at x k.cache.held)))

module _ (g : System) (γ : Ghost) (v0 : Server) (rc : Option Record) (P : ℕ × Msg → Type 0) where
  -- the step under way, with these tokens and this last number, and what it said
  abbrev mk : tokens.Tokens → ℕ → List (ℕ × Msg) → Serving
  mk ts n ss = record { server = record v0 { tokens = ts; number = n }; sent = ss; rec = rc; spent = None }

  abbrev W : View
  W = view (serving_in (mk v0.tokens v0.number []) γ g)

  abbrev tab : tokens.Tokens → ℕ → List want.Want → Tables
  tab ts n qs = changed ts qs v0.claimed n v0.recorded

  -- the facts, where these wants are counted
  abbrev pub Facts : tokens.Tokens → ℕ → List (ℕ × Msg) → List want.Want → Type 0
  Facts ts n ss qs = TokensAgree (over (tab ts n qs) (with_pool (g.pool ++ ss) W))

  abbrev pub Acted : List want.Want → Serving → Type 0
  Acted qs t = T (is_some t.spent) ⊎ ((ts : tokens.Tokens) × (n : ℕ) × (ss : List (ℕ × Msg)) × (t ≡ mk ts n ss) × Facts ts n ss qs × Each P ss)

  tell-more : (ts : tokens.Tokens) (n : ℕ) (ss : List (ℕ × Msg)) (qs : List want.Want) (m : ℕ × Msg) → TokensAgree (over (tab ts n qs) (with_pool ((g.pool ++ ss) ++ m ∷ []) W)) → Facts ts n (ss ++ m ∷ []) qs
  tell-more ts n ss qs m f = subst (λ p. TokensAgree (over (tab ts n qs) (with_pool p W))) (append_assoc g.pool ss (m ∷ [])) f

  module _ (all : (t : ℕ) → T (W.is_open t) → T (member t v0.claimed)) (settled : (s x : ℕ) → T (W.is_open s) → NoWriter W x → images v0.durable.volume x ≡ W.seen s x)
      (first : tokens.Tokens) (heard : (x : ℕ) → Each (λ h. T (member h.0 v0.claimed) × Passed W h.0 W.epoch) (tokens.holders first x))
      (grants : (s x n : ℕ) (h : Hold) → T (member s v0.claimed) → T (is_held_mode h) → P (clerk_from 0 s v0.durable.sessions, Grant s v0.durable.epoch x n h (images v0.durable.volume x)))
      (recalls : (s x n : ℕ) (h : Hold) → T (member s v0.claimed) → T (is_held_mode h) → P (clerk_from 0 s v0.durable.sessions, Recall s v0.durable.epoch x n (recall_to h))) where
    -- recalls go out
    recalls-told : (q : want.Want) → Names W q.obj → T (is_held_mode q.hold) → (hs : List tokens.Holder) → Each (λ h. T (member h.0 v0.claimed) × Passed W h.0 W.epoch) hs → (ts : tokens.Tokens) (n : ℕ) (ss : List (ℕ × Msg)) (qs : List want.Want) → Facts ts n ss qs → Each P ss
        → (zs : List (ℕ × Msg)) × (act_all (map (recall_of q) hs) (mk ts n ss) ≡ mk ts n zs) × Facts ts n zs qs × Each P zs
    recalls-told q names held [] p ts n ss qs f ps = (ss, refl, f, ps)
    recalls-told q names held (h ∷ hs) p ts n ss qs f ps =
        let m : ℕ × Msg = (clerk_from 0 h.0 v0.durable.sessions, Recall h.0 W.epoch q.obj h.2 (recall_to q.hold)) in
        recalls-told q names held hs p.1 ts n (ss ++ m ∷ []) qs (tell-more ts n ss qs m (said-agrees (with_pool (g.pool ++ ss) W) (tab ts n qs) m.0 m.1 f (p.0.1, names))) (each-append P ss (m ∷ []) ps (recalls h.0 q.obj h.2 q.hold p.0.0 held, tt))

    acts-append : (xs ys : List Action) (t : Serving) → act_all (xs ++ ys) t ≡ act_all ys (act_all xs t)
    acts-append [] ys t = refl
    acts-append (a ∷ xs) ys t = acts-append xs ys (act a t)

    -- one want is granted
    granted-one : (ts : tokens.Tokens) (n : ℕ) (ss : List (ℕ × Msg)) (qs : List want.Want) (s x : ℕ) (h : Hold) → Facts ts n ss qs → Wanted (over (tab ts n qs) (with_pool (g.pool ++ ss) W)) (tab ts n qs) s x h
        → Each (λ q. T (not (is_of s x q))) qs → tokens.is_clear ts s x h ≡ true
        → Facts (tokens.granted s x h (n + 1) ts) (n + 1) (ss ++ (clerk_from 0 s v0.durable.sessions, Grant s W.epoch x (n + 1) h (images v0.durable.volume x)) ∷ []) qs
    granted-one ts n ss qs s x h f wanted others clear =
        tell-more _ _ ss qs _ (granted-said (with_pool (g.pool ++ ss) W) (tab ts n qs) s x h f wanted others all clear (clerk_from 0 s v0.durable.sessions) (images v0.durable.volume x)
        (settled s x (f.tables.are_open s wanted.0) no-writer))
      where
        below-write : (a b : Hold) → rank a ≤ rank b → T (is_write a) → T (is_write b)
        below-write Write Write l w = tt
        below-write Write Read l w = absurd (omega arith)
        below-write Write Free l w = absurd (omega arith)
        below-write Read b l w = absurd w
        below-write Free b l w = absurd w

        no-clash : (a b : Hold) → T (is_held_mode b) → clash a b ≡ false → T (is_write a) → ⊥
        no-clash Write Free h c w = h
        no-clash Write Read h c w = absurd (cc)
        no-clash Write Write h c w = absurd (cc)
        no-clash Read b h c w = w
        no-clash Free b h c w = w

        other : (t : ℕ) → (t == s) ≡ false → T (W.is_open t) → (k : Side) → W.clerk t ≡ Some k → ¬ (IsWrite (at x k.cache.held))
        other t d o k i = go (at x k.cache.held) (tokens.token ts t x) (was-below (with_pool (g.pool ++ ss) W) (tab ts n qs) t f (all t o) x k i) (clear_of ts s x h clear t d)
          where
            go : (z : Option Held) (c : Option Token) → Below k.epoch (last x k.cache) z (recorded c W.epoch) → clash (tokens.mode c) h ≡ false → ¬ (IsWrite z)
            go None c b e q = q
            go (Some y) None b e q = b
            go (Some y) (Some c) b e q = no-clash c.hold h wanted.2 e (below-write y.hold c.hold b.0 q)

        no-writer : NoWriter W x
        no-writer t o k i = go (t == s) refl
          where
            go : (b : Bool) → (t == s) ≡ b → ¬ (IsWrite (at x k.cache.held))
            go true e = not-held (with_pool (g.pool ++ ss) W) (tab ts n qs) s x h f wanted others all clear k (subst (λ u. W.clerk u ≡ Some k) (equal t s e) i)
            go false e = other t e o k i

    -- all that is due is done
    pub round-agrees : (ws : List want.Want) (given : tokens.Tokens) (done : List want.Want) (ts : tokens.Tokens) (n : ℕ) (ss : List (ℕ × Msg)) → Facts ts n ss (done ++ ws) → Turned first given ts → Each P ss
        → Acted (done ++ wants_from first given ws) (act_all (actions_from first given ws) (mk ts n ss))
    round-agrees [] given done ts n ss f turned ps = inr (ts, n, ss, refl, f, ps)
    round-agrees (q ∷ qs) given done ts n ss f turned ps = go (is_due first given q) refl
        (λ given' done' ts' n' ss' f' t' p'. round-agrees qs given' done' ts' n' ss' f' t' p')
      where
        wants : Noted (over (tab ts n (done ++ q ∷ qs)) (with_pool (g.pool ++ ss) W)) (tab ts n (done ++ q ∷ qs)) q × Each (Noted (over (tab ts n (done ++ q ∷ qs)) (with_pool (g.pool ++ ss) W)) (tab ts n (done ++ q ∷ qs))) (done ++ qs)
        wants = each-less (Noted (over (tab ts n (done ++ q ∷ qs)) (with_pool (g.pool ++ ss) W)) (tab ts n (done ++ q ∷ qs))) done q qs f.tables.wants

        keys : Each (λ r. T (not (is_of q.session q.obj r))) (done ++ qs) × WantsAreDistinct (done ++ qs)
        keys = apart-less done q qs f.tables.apart

        without-it : Facts ts n ss (done ++ qs)
        without-it = wants-agree (with_pool (g.pool ++ ss) W) (tab ts n (done ++ q ∷ qs)) q.session (done ++ qs) f (wants.0).0 (wants.0).1 wants.1 keys.1

        told-more : Facts ts n ss (done ++ record q { told = map told_of (conflicts_of first q) } ∷ qs)
        told-more = wants-agree (with_pool (g.pool ++ ss) W) (tab ts n (done ++ q ∷ qs)) q.session (done ++ record q { told = map told_of (conflicts_of first q) } ∷ qs) f (wants.0).0 (wants.0).1
            (noted-told (over (tab ts n (done ++ q ∷ qs)) (with_pool (g.pool ++ ss) W)) (tab ts n (done ++ q ∷ qs)) q (map told_of (conflicts_of first q)) done qs f.tables.wants)
            (apart-told W (tab ts n []) q (map told_of (conflicts_of first q)) done qs f.tables.apart)

        go : (b : Bool) → is_due first given q ≡ b → ((given' : tokens.Tokens) (done' : List want.Want) (ts' : tokens.Tokens) (n' : ℕ) (ss' : List (ℕ × Msg)) → Facts ts' n' ss' (done' ++ qs) → Turned first given' ts' → Each P ss' → Acted (done' ++ wants_from first given' qs) (act_all (actions_from first given' qs) (mk ts' n' ss')))
            → Acted (done ++ (cond b [] (record q { told = map told_of (conflicts_of first q) } ∷ []) ++ wants_from first (cond b (given_to q.session q.obj q.hold given) given) qs))
            (act_all (cond b (action.Grant q.session q.obj q.hold ∷ []) (map (recall_of q) (news first q)) ++ actions_from first (cond b (given_to q.session q.obj q.hold given) given) qs) (mk ts n ss))
        go true e ih = by (nat_le (2 ^ 62) n) refl
          where
            parts : (tokens.is_clear first q.session q.obj q.hold ≡ true) × (tokens.is_clear given q.session q.obj q.hold ≡ true)
            parts = and_parts (tokens.is_clear first q.session q.obj q.hold) (tokens.is_clear given q.session q.obj q.hold) e

            by : (b : Bool) → nat_le (2 ^ 62) n ≡ b → Acted (done ++ wants_from first (given_to q.session q.obj q.hold given) qs) (act_all (actions_from first (given_to q.session q.obj q.hold given) qs) (act (action.Grant q.session q.obj q.hold) (mk ts n ss)))
            by true p = inl (acts-spent (actions_from first (given_to q.session q.obj q.hold given) qs) (act (action.Grant q.session q.obj q.hold) (mk ts n ss)) (spent p))
              where
                spent : nat_le (2 ^ 62) n ≡ true → T (is_some (act (action.Grant q.session q.obj q.hold) (mk ts n ss)).spent)
                spent p = subst (λ b. T (is_some ((elim b as (λ z. Serving) [ true ↦ record (mk ts n ss) { spent = Some counter.Number } | false ↦ mk ts (n + 1) ss ]).spent))) (sym p) tt
            by false p = subst (λ u. Acted (done ++ wants_from first (given_to q.session q.obj q.hold given) qs) (act_all (actions_from first (given_to q.session q.obj q.hold given) qs) u)) (sym (next p))
                (ih (given_to q.session q.obj q.hold given) done (tokens.granted q.session q.obj q.hold (n + 1) ts) (n + 1) _
                (granted-one ts n ss (done ++ qs) q.session q.obj q.hold without-it wants.0 keys.0 (clear-now first given ts q.session q.obj q.hold without-it.tables.sound turned parts.0 parts.1))
                (turned-on first given ts q.session q.obj q.hold (n + 1) (not-free q.hold (wants.0).2) turned)
                (each-append P ss (_ ∷ []) ps (grants q.session q.obj (n + 1) q.hold (wants.0).0 (wants.0).2, tt)))
              where
                next : nat_le (2 ^ 62) n ≡ false → act (action.Grant q.session q.obj q.hold) (mk ts n ss)
                    ≡ mk (tokens.granted q.session q.obj q.hold (n + 1) ts) (n + 1) (ss ++ (clerk_from 0 q.session v0.durable.sessions, Grant q.session W.epoch q.obj (n + 1) q.hold (images v0.durable.volume q.obj)) ∷ [])
                next p = ap (λ b. send_grant
                    (clerk_of q.session (elim b as (λ z. Serving) [ true ↦ record (mk ts n ss) { spent = Some counter.Number } | false ↦ mk ts (n + 1) ss ])) q.session q.obj q.hold
                    ((elim b as (λ z. Serving) [ true ↦ record (mk ts n ss) { spent = Some counter.Number } | false ↦ mk ts (n + 1) ss ]).server.number)
                    (with_server (λ s. record s { tokens = tokens.granted q.session q.obj q.hold ((elim b as (λ z. Serving) [ true ↦ record (mk ts n ss) { spent = Some counter.Number } | false ↦ mk ts (n + 1) ss ]).server.number) s.tokens })
                    (elim b as (λ z. Serving) [ true ↦ record (mk ts n ss) { spent = Some counter.Number } | false ↦ mk ts (n + 1) ss ]))) p
        go false e ih =
            let r = recalls-told q (wants.0).3 (wants.0).2 (news first q) (each-filter _ _ _ (each-filter _ _ _ (heard q.obj))) ts n ss (done ++ record q { told = map told_of (conflicts_of first q) } ∷ qs) told-more ps in
            subst (λ l. Acted l (act_all (map (recall_of q) (news first q) ++ actions_from first given qs) (mk ts n ss))) (append_assoc done (record q { told = map told_of (conflicts_of first q) } ∷ []) (wants_from first given qs))
            (subst (λ u. Acted ((done ++ record q { told = map told_of (conflicts_of first q) } ∷ []) ++ wants_from first given qs) u) (sym (acts-append (map (recall_of q) (news first q)) (actions_from first given qs) (mk ts n ss)))
            (subst (λ u. Acted ((done ++ record q { told = map told_of (conflicts_of first q) } ∷ []) ++ wants_from first given qs) (act_all (actions_from first given qs) u)) (sym r.1)
            (ih given (done ++ record q { told = map told_of (conflicts_of first q) } ∷ []) ts n r.0 (subst (λ l. Facts ts n r.0 l) (sym (append_assoc done (record q { told = map told_of (conflicts_of first q) } ∷ []) qs)) r.2) turned r.3)))
