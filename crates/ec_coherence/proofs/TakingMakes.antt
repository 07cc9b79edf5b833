-- All facts behind each message that a server takes, with what the step made of the ghosts.
use Rattle.std.proofs.Common.{◌≡◌, refl, sym, ap, subst, ◌∙◌, inl, inr, ◌⊎◌, ℕ, Bool, true, false, not, ◌==◌, ◌&&◌, ◌||◌, T, List, [], ◌∷◌, ◌++◌, Option, Some, None, append-nil, cond, arith}
use Rattle.std.specs.Prelude.{◌+◌, ◌<◌, ◌≤◌, zero, suc, Contains, is_none, is_some, nat_le, nat_lt, Result, Ok, Err}
use Rattle.std.specs.List.{list_all}
use Rattle.std.proofs.lemmas.Bool.{and_parts, true≢false}
use Rattle.ec_base.specs.Tables.{Table, at, at_or, keys, or_else, put}
use Rattle.ec_base.specs.Ages.{is_older}
use Rattle.ec_base.specs.Limits.{last_counter}
use Rattle.ec_base.specs.declared.counter.Counter.TheVariants as counter
use Rattle.ec_base.specs.declared.ids.Age.{Age}
use Rattle.ec_base.specs.declared.ids.Hold.{Hold}
use Rattle.ec_volume.specs.Update.{member}
use Rattle.ec_volume.specs.declared.update.Update.{Update}
use Rattle.ec_sessions.specs.OfTokens.Tokens.{claimed, first_clash, fits_back, lowered, token}
use Rattle.ec_sessions.specs.declared.tokens.token.Token.{Token}
use Rattle.ec_sessions.specs.Slots.{greeting, run, session_if_open}
use Rattle.ec_sessions.specs.Windows.{has}
use Rattle.ec_sessions.specs.declared.slot.Greeting.TheVariants as greeted_of
use Rattle.ec_sessions.specs.declared.slot.Slot.{Slot}
use Rattle.ec_wire.specs.declared.msg.Msg.{Msg}
use Rattle.ec_wire.specs.Messages.{is_held_mode, is_sound, rises}
use Rattle.ec_wire.specs.declared.msg.Msg.TheVariants.{Hello, Want, Back, Flush, Room, Claim, Opened, Kept, Ids, NoRoom, Ended, Restarted, OldBoot}
use Rattle.ec_durable.specs.Durable.{is_full, live, reserved, slot, step}
use Rattle.ec_durable.specs.declared.record.RecordFault.{RecordFault}
use Rattle.ec_durable.specs.declared.state.Durable.{Durable}
use Rattle.ec_durable.specs.declared.record.Record.TheVariants as record_of
use Rattle.ec_log.specs.Log.{batch}
use Rattle.ec_protocol.specs.declared.server.Server.{Server}
use Rattle.ec_protocol.specs.declared.clerk.Clerk.{Clerk}
use Rattle.ec_protocol.specs.Server.{Serving, back, claim, commit, epoch, finish, flush, grant_ids, greet, has_claimed, ids_are_spent, in_session, is_last_number, may_write, note, open_new, record_ids, resend_ids, room, send_grant, send_ids, serve, serving, take, spend, stay, taken, tell, tell_ended, tell_opened, want, with_ids, with_server}
use Rattle.ec_coherence.specs.System.{System, Ghost, clerk_in, is_open}
use Rattle.ec_coherence.specs.Sessions as sessions
use Rattle.ec_coherence.specs.Tokens as tokens
use Rattle.ec_coherence.specs.Tokens.{ClaimFits, side, side_in, tables_of, view}
use Rattle.ec_coherence.specs.Log as log
use Rattle.ec_coherence.specs.Invariant.{Invariant}
use Rattle.ec_coherence.specs.Stops.{RunsOn}
use Rattle.ec_coherence.specs.Steps.{give_ids, open_session, serving_in, Under}
use Rattle.ec_coherence.proofs.ForServer.Frames.{tell-stands}
use Rattle.ec_coherence.proofs.ForServer.Handlers.{back-stands, claim-stands, record-ids-stands, send-ids-stands, want-stands}
use Rattle.ec_coherence.proofs.ForCommits.Needs.{each-of}
use Rattle.ec_coherence.proofs.ForBatches.OpenSlots.{at-open}
use Rattle.ec_coherence.proofs.ForServer.Replies.{old-boot-stands, opened-again-stands, restarted-stands, tell-ended-stands}
use Rattle.ec_coherence.proofs.ForServer.ServeStands.{serve-serves}
use Rattle.ec_coherence.proofs.ForServer.Tables.{at-put, fails, same_some}
use Rattle.ec_coherence.proofs.ForBatches.GiveAgrees.{grant-is}
use Rattle.ec_coherence.proofs.ForBatches.OpenAgrees.{open-is}
use Rattle.ec_coherence.specs.CommitLaws.{AllAgree, StepStands, show_batch}
use Rattle.ec_coherence.specs.Starts.{Greets}
use Rattle.ec_coherence.specs.Watches.{FirstsAgree, WatchesAgree}
use Rattle.ec_coherence.proofs.ForCommits.Claiming.{claims-clear}
use Rattle.ec_coherence.proofs.ForCommits.BatchCommits.{flush-is, flush-shows, flush-stands, flush-starts}
use Rattle.ec_coherence.proofs.ForCommits.Given.{give-firsts, give-stands, give-starts, give-watches, ids-in-range}
use Rattle.ec_coherence.proofs.ForCommits.SessionCommits.{open-stands, open-starts, open-watches}
use Rattle.ec_coherence.proofs.ForCommits.Spending.{serve-kept}
use Rattle.ec_coherence.proofs.ForCommits.Starting.{AreQuiet, quiet-so-far, quiet-with, serve-quiet, starts-begin, starts-on}
use Rattle.ec_coherence.proofs.ForCommits.Watched.{watches-read}
use Rattle.ec_coherence.proofs.ForCommits.Taking.{begins}
use Rattle.ec_coherence.specs.Makes.{Makes, IsMade}
use Rattle.ec_coherence.proofs.Recorded.{serve-record}
use Rattle.ec_base.proofs.Bools.{left as and_first, holds-true as holds}
use Rattle.ec_base.proofs.Numbers.{same-self as same, equal}
use Rattle.ec_base.proofs.Options.{none_some}

-- a counter is spent, or none is so far, and the step stands, with what it made of the ghosts
abbrev pub Going : System → Server → Serving → Type 0
Going g v f = T (is_some f.spent) ⊎ ((γ : Ghost) × StepStands g f γ × (f.spent ≡ None) × Makes g v f.rec γ)

pub served : (g : System) (v : Server) (f : Serving) → Going g v f → IsMade g v (serve f)
served g v f (inl p) = inl (serve-kept f p)
served g v f (inr (γ, s, n, m)) = elim (serve-serves g γ f s.0 n) [
  | inl p ↦ inl p
  | inr q ↦ inr (
    γ,
    (
      q.0,
      watches-read (serving_in f γ g) (serve f).server.durable (Some (serve f).server) (g.pool ++ (serve f).sent) (ap (λ d. d.sessions) q.1) s.1,
      s.2,
      starts-on g γ f s.3 (serve f) (serve-quiet g f (quiet-so-far g γ f s.3)),
    ),
    subst (λ r. Makes g v r γ) (sym (serve-record f)) m,
  )
]

-- A message by its session.
module _ (g : System) (v : Server) (γ : Ghost) (t : Serving) (st : StepStands g t γ) (unspent : t.spent ≡ None) (made : Makes g v t.rec γ) (c s e : ℕ) where
  said : (m : Msg) → Greets g c m → Under g (tell c m t) γ → Going g v (tell c m t)
  said m q u = inr (γ, (u, watches-read (serving_in t γ g) t.server.durable (Some t.server) (g.pool ++ (tell c m t).sent) refl st.1, st.2, starts-on g γ t st.3 (tell c m t) (quiet-with g γ t st.3 c m q)), unspent, made)

  pub as-it-is : Going g v t
  as-it-is = inr (γ, st, unspent, made)

  pub within : (needs_no_claim : Bool) (f : Slot → Serving → Serving)
      → ((sl : Slot) → slot t.server.durable c ≡ Some sl → sl.session ≡ s → T sl.is_open → e ≡ t.server.durable.epoch → T (needs_no_claim || has_claimed s t.server) → Going g v (f sl t)) → Going g v (in_session c s e needs_no_claim f t)
  within needs_no_claim f here = go (slot t.server.durable c) refl
    where
      current : (sl : Slot) → slot t.server.durable c ≡ Some sl → sl.session ≡ s → T sl.is_open → (b : Bool) → ((e == t.server.durable.epoch) && (needs_no_claim || has_claimed s t.server)) ≡ b
          → Going g v (elim b as (λ z. Serving) [ false ↦ tell c (Restarted s (epoch t)) t | true ↦ f sl t ])
      current sl p q o false x = said (Restarted s (epoch t)) tt (restarted-stands g γ t st.0 c s)
      current sl p q o true x =
          let both = and_parts (e == t.server.durable.epoch) (needs_no_claim || has_claimed s t.server) x in
          here sl p q o (equal e t.server.durable.epoch both.0) (holds (needs_no_claim || has_claimed s t.server) both.1)

      opened : (sl : Slot) → slot t.server.durable c ≡ Some sl → sl.session ≡ s → (b : Bool) → sl.is_open ≡ b
          → Going g v (elim b as (λ z. Serving) [
            | false ↦ tell_ended c sl t
            | true ↦ elim ((e == t.server.durable.epoch) && (needs_no_claim || has_claimed s t.server)) as (λ z. Serving) [ false ↦ tell c (Restarted s (epoch t)) t | true ↦ f sl t ]
          ])
      opened sl p q false o = said (Ended sl.session sl.window.low sl.window.mask) tt (tell-ended-stands g γ t st.0 c sl p (fails sl.is_open o))
      opened sl p q true o = current sl p q (holds sl.is_open o) ((e == t.server.durable.epoch) && (needs_no_claim || has_claimed s t.server)) refl

      its : (sl : Slot) → slot t.server.durable c ≡ Some sl → (b : Bool) → (sl.session == s) ≡ b
          → Going g v (elim b as (λ z. Serving) [
            | false ↦ t
            | true ↦ elim sl.is_open as (λ z. Serving) [
              | false ↦ tell_ended c sl t
              | true ↦ elim ((e == t.server.durable.epoch) && (needs_no_claim || has_claimed s t.server)) as (λ z. Serving) [ false ↦ tell c (Restarted s (epoch t)) t | true ↦ f sl t ]
            ]
          ])
      its sl p false q = as-it-is
      its sl p true q = opened sl p (equal sl.session s q) sl.is_open refl

      go : (o : Option Slot) → slot t.server.durable c ≡ o
          → Going g v (elim o as (λ z. Serving) [
            | None ↦ t
            | Some sl ↦ elim (sl.session == s) as (λ z. Serving) [
              | false ↦ t
              | true ↦ elim sl.is_open as (λ z. Serving) [
                | false ↦ tell_ended c sl t
                | true ↦ elim ((e == t.server.durable.epoch) && (needs_no_claim || has_claimed s t.server)) as (λ z. Serving) [ false ↦ tell c (Restarted s (epoch t)) t | true ↦ f sl t ]
              ]
            ]
          ])
      go None p = as-it-is
      go (Some sl) p = its sl p (sl.session == s) refl

-- Each message.
module _ (g : System) (v : Server) (whole : AllAgree g) (up : g.server ≡ Some v) (c : ℕ) where
  abbrev t : Serving
  t = serving v

  abbrev here : System
  here = serving_in t g.ghost g

  st : StepStands g t g.ghost
  st = begins g v whole up

  in-pool : (m : Msg) → Contains g.pool (c, m) → Contains here.pool (c, m)
  in-pool m p = subst (λ ms. Contains ms (c, m)) (sym (append-nil g.pool)) p

  of-tokens : (m : Msg) → Contains g.pool (c, m) → tokens.Fits (view here) m
  of-tokens m p = each-of (λ z. tokens.Fits (view here) z.1) here.pool (c, m) (st.0).invariant.tokens.messages (in-pool m p)

  of-sessions : (m : Msg) → Contains g.pool (c, m) → sessions.Fits here c m
  of-sessions m p = each-of (λ z. sessions.Fits here z.0 z.1) here.pool (c, m) (st.0).invariant.sessions.messages (in-pool m p)

  of-logs : (m : Msg) → Contains g.pool (c, m) → log.Fits here m
  of-logs m p = each-of (λ z. log.Fits here z.1) here.pool (c, m) (st.0).invariant.logs.messages (in-pool m p)

  ends : (m : Msg) → Going g v (taken c m t) → IsMade g v (take c m v)
  ends m w = served g v (taken c m t) w

  -- a step of the tables alone
  went : (f : Serving) → Under g f g.ghost → f.server.durable.sessions ≡ v.durable.sessions → AreQuiet g f.sent → f.spent ≡ None → f.rec ≡ None → Going g v f
  went f u same quiet unspent silent = inr (g.ghost, (u, watches-read here f.server.durable (Some f.server) (g.pool ++ f.sent) same st.1, st.2, starts-on g g.ghost t st.3 f quiet), unspent, subst (λ r. Makes g v r g.ghost) (sym silent) refl)

  abbrev lowering : ℕ → ℕ → ℕ → Hold → Bool → Serving
  lowering s x n h b = elim b as (λ z. Serving) [ true ↦ record t { server = record v { tokens = lowered s x h n v.tokens } } | false ↦ t ]

  abbrev granting : ℕ → ℕ → Hold → Token → Bool → Serving
  granting s x h k b = elim b as (λ z. Serving) [ true ↦ send_grant c s x k.hold k.number t | false ↦ note s x h t ]

  abbrev wanting : ℕ → ℕ → Hold → ℕ → Option Token → Serving
  wanting s x h l o = elim o as (λ z. Serving) [ None ↦ note s x h t | Some k ↦ granting s x h k (nat_lt l k.number) ]

  pub takes-back : (s e x n : ℕ) (h : Hold) → Contains g.pool (c, Back s e x n h) → IsMade g v (take c (Back s e x n h) v)
  takes-back s e x n h p = ends (Back s e x n h) (within g v g.ghost t st refl refl c s e false (λ sl. back s x n h)
      (λ sl q r o now claimed. went (back s x n h t) (back-stands g g.ghost t st.0 s x claimed e n h (of-tokens (Back s e x n h) p) now) (same (fits_back (token v.tokens s x) n h)) (quiet (fits_back (token v.tokens s x) n h)) (unspent (fits_back (token v.tokens s x) n h)) (silent (fits_back (token v.tokens s x) n h))))
    where
      same : (b : Bool) → (lowering s x n h b).server.durable.sessions ≡ v.durable.sessions
      same true = refl
      same false = refl

      quiet : (b : Bool) → AreQuiet g (lowering s x n h b).sent
      quiet true = tt
      quiet false = tt

      unspent : (b : Bool) → (lowering s x n h b).spent ≡ None
      unspent true = refl
      unspent false = refl

      silent : (b : Bool) → (lowering s x n h b).rec ≡ None
      silent true = refl
      silent false = refl

  pub takes-want : (s e x l : ℕ) (h : Hold) → Contains g.pool (c, Want s e x h l) → IsMade g v (take c (Want s e x h l) v)
  takes-want s e x l h p = ends (Want s e x h l) (within g v g.ghost t st refl refl c s e false (λ sl. want c s x h l)
      (λ sl q r o now claimed. went (want c s x h l t) (want-stands g g.ghost t st.0 s x claimed c e l h (of-sessions (Want s e x h l) p) (of-tokens (Want s e x h l) p) now)
      (same (token v.tokens s x)) (quiet (token v.tokens s x)) (unspent (token v.tokens s x)) (silent (token v.tokens s x))))
    where
      same : (o : Option Token) → (wanting s x h l o).server.durable.sessions ≡ v.durable.sessions
      same None = refl
      same (Some k) = go (nat_lt l k.number)
        where
          go : (b : Bool) → (granting s x h k b).server.durable.sessions ≡ v.durable.sessions
          go true = refl
          go false = refl

      quiet : (o : Option Token) → AreQuiet g (wanting s x h l o).sent
      quiet None = tt
      quiet (Some k) = go (nat_lt l k.number)
        where
          go : (b : Bool) → AreQuiet g (granting s x h k b).sent
          go true = (tt, tt)
          go false = tt

      unspent : (o : Option Token) → (wanting s x h l o).spent ≡ None
      unspent None = refl
      unspent (Some k) = go (nat_lt l k.number)
        where
          go : (b : Bool) → (granting s x h k b).spent ≡ None
          go true = refl
          go false = refl

      silent : (o : Option Token) → (wanting s x h l o).rec ≡ None
      silent None = refl
      silent (Some k) = go (nat_lt l k.number)
        where
          go : (b : Bool) → (granting s x h k b).rec ≡ None
          go true = refl
          go false = refl

  -- the clerk that took an open session
  its-clerk : (s : ℕ) → T (is_some ((view here).clerk s)) → (k : Clerk) × (clerk_in here s ≡ Some k)
  its-clerk s y = go (clerk_in here s) refl y
    where
      go : (o : Option Clerk) → clerk_in here s ≡ o → T (is_some (side_in o)) → (k : Clerk) × (clerk_in here s ≡ Some k)
      go None q y = absurd y
      go (Some k) q y = (k, q)

  some-at : (o : Option (List ℕ)) → T (is_some o) → (ns : List ℕ) × (o ≡ Some ns)
  some-at None y = absurd y
  some-at (Some ns) y = (ns, refl)

  pub takes-flush : (s e b : ℕ) (ops : List (ℕ × Update)) → Contains g.pool (c, Flush s e b ops) → IsMade g v (take c (Flush s e b ops) v)
  takes-flush s e b ops p = ends (Flush s e b ops) (within g v g.ghost t st refl refl c s e false (flush c s b ops) (λ sl q r o now claimed. comes sl q r o claimed (has sl.window b) refl))
    where
      passed : tokens.Passed (view here) s e
      passed = of-tokens (Flush s e b ops) p

      comes : (sl : Slot) → slot v.durable c ≡ Some sl → sl.session ≡ s → T sl.is_open → T (member s v.claimed) → (z : Bool) → has sl.window b ≡ z → Going g v (flush c s b ops sl t)
      comes sl q r o claimed true m =
          subst (λ z. Going g v (elim z as (λ y. Serving) [
            | true ↦ tell c (Kept s (epoch t) b) t
            | false ↦ elim (may_write v.tokens s ops) as (λ y. Serving) [ true ↦ commit (record_of.Batch c s b ops) (λ u. tell c (Kept s (epoch u) b) u) (finish c sl) t | false ↦ finish c sl t ]
          ])) (sym m) (said g v g.ghost t st refl refl c s e (Kept s (epoch t) b) tt (tell-stands g g.ghost t c (Kept s (epoch t) b) st.0
          (of-sessions (Flush s e b ops) p, λ so y w. subst (λ z. T (has z.window b)) (same_some (sym q ∙ y)) (holds (has sl.window b) m)) tt tt tt))
      comes sl q r o claimed false m =
          let unmarked : T (not (has sl.window b)) = fails (has sl.window b) m in
          let is-open : T (is_open here s) = at-open s v.durable.sessions c sl (q, r, o) in
          let k = its-clerk s ((st.0).invariant.tokens.present s is-open passed.0) in
          let its = of-logs (Flush s e b ops) p c sl q r o unmarked k.0 k.1 in
          let ns = some-at (at b (k.0).log.batches) its.1 in
          subst (λ x. Going g v (flush c x b ops sl t)) r (subst (λ x. Going g v (flush c sl.session b x sl t)) (sym its.0)
          (let its-in = ap (clerk_in here) r ∙ k.1 in
          let mine = subst (λ x. T (member x v.claimed)) (sym r) claimed in
          inr (
            show_batch c (sl.age).boot (keys (batch b (k.0).log)) g.ghost,
            (flush-stands g g.ghost t st.0 refl st.1 c sl k.0 q o its-in mine b ns.0 ns.1 unmarked, flush-shows g g.ghost t st.0 refl st.1 c sl k.0 q o its-in mine b ns.0 ns.1 unmarked, st.2, flush-starts g g.ghost t st.0 refl st.1 c sl k.0 q o its-in mine b ns.0 ns.1 unmarked st.3),
            ap (λ z. z.spent) (flush-is g g.ghost t st.0 refl st.1 c sl k.0 q o its-in mine b ns.0 ns.1 unmarked),
            subst (λ x. Makes g v x (show_batch c (sl.age).boot (keys (batch b (k.0).log)) g.ghost)) (sym (ap (λ z. z.rec) (flush-is g g.ghost t st.0 refl st.1 c sl k.0 q o its-in mine b ns.0 ns.1 unmarked))) (sl, q, o, refl, refl),
          )))

  -- what a claim names was the session's own
  pub takes-claim : (s e : ℕ) (l : Table Hold) → Contains g.pool (c, Claim s e l) → IsMade g v (take c (Claim s e l) v)
  takes-claim s e l p = ends (Claim s e l) (within g v g.ghost t st refl refl c s e true (claim c s l) (λ sl q r o now claimed. comes sl q r o now (member s v.claimed) refl))
    where
      sound : T (is_sound (Claim s e l))
      sound = each-of (λ z. T (is_sound z.1)) here.pool (c, Claim s e l) (st.0).invariant.sessions.sound (in-pool (Claim s e l) p)

      fits : tokens.Fits (view here) (Claim s e l)
      fits = of-tokens (Claim s e l) p

      comes : (sl : Slot) → slot v.durable c ≡ Some sl → sl.session ≡ s → T sl.is_open → e ≡ v.durable.epoch → (b : Bool) → member s v.claimed ≡ b → Going g v (claim c s l sl t)
      comes sl q r o now true m = subst (λ z. Going g v (elim z as (λ y. Serving) [
        | true ↦ t
        | false ↦ elim (is_none (first_clash v.tokens s l)) as (λ y. Serving) [ true ↦ record t { server = record v { tokens = claimed s l v.tokens; claimed = s ∷ v.claimed } } | false ↦ finish c sl t ]
      ])) (sym m) (as-it-is g v g.ghost t st refl refl c s e)
      comes sl q r o now false m =
          let is-open : T (is_open here s) = at-open s v.durable.sessions c sl (q, r, o) in
          let new : T (not (member s v.claimed)) = fails (member s v.claimed) m in
          let k = its-clerk s ((st.0).invariant.tokens.present s is-open (fits.0).0) in
          let of-clerk = fits.1 now is-open new (side k.0) (ap side_in k.1) in
          let clear = claims-clear (view here) (tables_of v) s l refl (st.0).invariant.tokens (st.0).invariant.tokens.tables is-open (side k.0) (subst (λ z. ClaimFits (view here) s z l (side k.0)) now of-clerk)
          (and_first (rises (keys l)) (list_all (λ z. is_held_mode z.1) l) sound) in
          subst (λ z. Going g v (elim z as (λ y. Serving) [
            | true ↦ t
            | false ↦ elim (is_none (first_clash v.tokens s l)) as (λ y. Serving) [ true ↦ record t { server = record v { tokens = claimed s l v.tokens; claimed = s ∷ v.claimed } } | false ↦ finish c sl t ]
          ])) (sym m) (subst (λ z. Going g v (elim (is_none z) as (λ y. Serving) [ true ↦ record t { server = record v { tokens = claimed s l v.tokens; claimed = s ∷ v.claimed } } | false ↦ finish c sl t ])) (sym clear)
          (went (record t { server = record v { tokens = claimed s l v.tokens; claimed = s ∷ v.claimed } }) (claim-stands g g.ghost t st.0 s e l fits sound now is-open new clear) refl tt refl refl))

  -- a clerk greets, and no session is open in whose place a new one would come
  pub takes-hello : (from : ℕ) (age : Age) → ((sl : Slot) → slot v.durable c ≡ Some sl → T sl.is_open → is_older sl.age age ≡ false) → Contains g.pool (c, Hello from age) → IsMade g v (take c (Hello from age) v)
  takes-hello from age alone p = ends (Hello from age) (own (c == from) refl)
    where
      fits : sessions.Fits here c (Hello from age)
      fits = of-sessions (Hello from age) p

      above : g.first_boot c < age.boot
      above = each-of (λ z. Greets g z.0 z.1) here.pool (c, Hello from age) (st.3).greets (in-pool (Hello from age) p)

      opens : ((sl : Slot) → slot v.durable c ≡ Some sl → T (not sl.is_open)) → ((sl : Slot) → slot v.durable c ≡ Some sl → T (is_older sl.age age)) → Going g v (open_new c age None t)
      opens idle greater = by (nat_le last_counter v.durable.next_session) refl
        where
          by : (b : Bool) → nat_le last_counter v.durable.next_session ≡ b → Going g v (open_new c age None t)
          by true m = subst (λ z. Going g v (elim z as (λ y. Serving) [ true ↦ spend counter.Session t | false ↦ commit (record_of.Open c age v.durable.next_session) (tell_opened c age v.durable.next_session None) stay t ])) (sym m) (inl tt)
          by false m = inr (
            open_session c age v.durable.next_session g.ghost,
            (open-stands g g.ghost t st.0 refl c age fits.1 idle greater fits.2 m, open-watches g g.ghost t st.0 refl c age fits.1 idle greater fits.2 m st.1, st.2, open-starts g g.ghost t st.0 refl c age fits.1 idle greater fits.2 m above st.3),
            ap (λ z. z.spent) (open-is g g.ghost t st.0 c age fits.1 idle greater fits.2 m),
            subst (λ x. Makes g v x (open_session c age v.durable.next_session g.ghost)) (sym (ap (λ z. z.rec) (open-is g g.ghost t st.0 c age fits.1 idle greater fits.2 m))) (inl (idle, refl)),
          )

      greeted : (o : Option Slot) → slot v.durable c ≡ o → Going g v (greet c age (greeting o age) t)
      greeted None q = opens (λ sl r. absurd (none_some (sym q ∙ r))) (λ sl r. absurd (none_some (sym q ∙ r)))
      greeted (Some sl) q = older (is_older sl.age age) refl
        where
          here-slot : (so : Slot) → slot v.durable c ≡ Some so → sl ≡ so
          here-slot so r = same_some (sym q ∙ r)

          again : (a : Bool) → sl.is_open ≡ a → is_older sl.age age ≡ false → is_older age sl.age ≡ false → Going g v (greet c age (cond a (greeted_of.Same sl.session) (greeted_of.Ended sl.session sl.window)) t)
          again true r m n = said g v g.ghost t st refl refl c 0 0 (Opened age sl.session (epoch t)) tt (opened-again-stands g g.ghost t st.0 c sl q age m n)
          again false r m n =
              let one = opened-again-stands g g.ghost t st.0 c sl q age m n in
              let two = tell-ended-stands g g.ghost (tell c (Opened age sl.session (epoch t)) t) one c sl q (fails sl.is_open r) in
              inr (g.ghost, (two, watches-read here v.durable (Some v) (g.pool ++ (tell_ended c sl (tell c (Opened age sl.session (epoch t)) t)).sent) refl st.1, st.2, starts-on g g.ghost t st.3 (tell_ended c sl (tell c (Opened age sl.session (epoch t)) t)) (tt, (tt, tt))), refl, refl)

          younger : (b : Bool) → is_older age sl.age ≡ b → is_older sl.age age ≡ false → Going g v (greet c age (cond b (greeted_of.OldBoot sl.age) (cond sl.is_open (greeted_of.Same sl.session) (greeted_of.Ended sl.session sl.window))) t)
          younger true n m = said g v g.ghost t st refl refl c 0 0 (OldBoot age sl.age) tt (old-boot-stands g g.ghost t st.0 c age sl.age)
          younger false n m = again sl.is_open refl m n

          idle : is_older sl.age age ≡ true → (b : Bool) → sl.is_open ≡ b → Going g v (greet c age (greeted_of.Greater (cond b (Some sl.session) None)) t)
          idle m true r = absurd (true≢false (sym m ∙ alone sl q (holds sl.is_open r)))
          idle m false r = opens (λ so w. subst (λ z. T (not z.is_open)) (here-slot so w) (fails sl.is_open r)) (λ so w. subst (λ z. T (is_older z.age age)) (here-slot so w) (holds (is_older sl.age age) m))

          older : (b : Bool) → is_older sl.age age ≡ b → Going g v (greet c age (cond b (greeted_of.Greater (session_if_open sl)) (cond (is_older age sl.age) (greeted_of.OldBoot sl.age) (cond sl.is_open (greeted_of.Same sl.session) (greeted_of.Ended sl.session sl.window)))) t)
          older true m = idle m sl.is_open refl
          older false m = younger (is_older age sl.age) refl m

      own : (b : Bool) → (c == from) ≡ b → Going g v (elim b as (λ z. Serving) [ true ↦ greet c age (greeting (slot v.durable c) age) t | false ↦ t ])
      own true m = greeted (slot v.durable c) refl
      own false m = as-it-is g v g.ghost t st refl refl c 0 0

  -- the next ids are asked for, or the last ones again
  pub takes-room : (s e got ask : ℕ) → Contains g.pool (c, Room s e got ask) → IsMade g v (take c (Room s e got ask) v)
  takes-room s e got ask p = ends (Room s e got ask) (within g v g.ghost t st refl refl c s e false (room c s got ask) (λ sl q r o now claimed. comes sl q r o now claimed (got == sl.grants) refl))
    where
      fits : tokens.Fits (view here) (Room s e got ask)
      fits = of-tokens (Room s e got ask) p

      as-many : (a b c d : ℕ) → a ≡ b → a ≤ c → c ≤ d → b ≡ d → c ≡ b
      as-many a b c d w x y z = omega arith

      gives : (sl : Slot) → slot v.durable c ≡ Some sl → sl.session ≡ s → T sl.is_open → T (member s v.claimed) → got ≡ sl.grants → is_full v.durable ≡ false → ids_are_spent sl.grants t ≡ false → is_last_number t ≡ false → Going g v (grant_ids c s got ask t)
      gives sl q r o claimed now room enough small =
          let is-open : T (is_open here s) = at-open s v.durable.sessions c sl (q, r, o) in
          let k = its-clerk s ((st.0).invariant.tokens.present s is-open (fits.0).0) in
          let granted = ((st.0).invariant.logs.logs s c sl q r o k.0 k.1).ids.granted in
          let of-clerk = fits.1 (side k.0) (ap side_in k.1) in
          let of-got = (st.0).invariant.tokens.got s (side k.0) (ap side_in k.1) in
          let current : (k.0).got ≡ sl.grants = as-many got sl.grants (k.0).got (g.ghost.grants s) now of-clerk.0 of-got.2 granted in
          let its = ap (clerk_in here) r ∙ k.1 in
          let mine = subst (λ x. T (member x v.claimed)) (sym r) claimed in
          let taken-now = subst (λ x. T (g.ghost.taken x)) (sym r) (fits.0).0 in
          subst (λ x. Going g v (grant_ids c x got ask t)) r (subst (λ n. Going g v (grant_ids c sl.session n ask t)) (sym now) (inr (
            give_ids sl.session v.durable.next_id g.ghost,
            (give-stands g g.ghost t st.0 refl c sl q o k.0 its mine taken-now current ask room enough small, give-watches g g.ghost t st.0 refl c sl q o k.0 its mine taken-now current ask room enough small st.1, give-firsts g.ghost sl.session v.durable.next_id (ids-in-range sl.grants t enough) st.2, give-starts g g.ghost t st.0 refl c sl q o k.0 its mine taken-now current ask room enough small st.3),
            ap (λ z. z.spent) (grant-is g g.ghost t st.0 c sl q o k.0 its mine taken-now current ask room enough small),
            subst (λ x. Makes g v x (give_ids sl.session v.durable.next_id g.ghost)) (sym (ap (λ z. z.rec) (grant-is g g.ghost t st.0 c sl q o k.0 its mine taken-now current ask room enough small))) refl,
          )))

      -- what the record comes to, where the numbers of tokens are spent
      recorded-or : (x : Result Durable RecordFault) → is_last_number t ≡ true → Going g v (elim x as (λ z. Serving) [
        | Ok d ↦ send_ids c s got v.durable.next_id (record_ids s v.durable.next_id (record t { server = record v { durable = d }; rec = Some (record_of.Ids c s got v.durable.next_id) }))
        | Err f ↦ t
      ])
      recorded-or (Ok d) m = inl (subst (λ b. T (is_some (elim b as (λ z. Serving) [
        | true ↦ spend counter.Number (record t { server = record v { durable = d }; rec = Some (record_of.Ids c s got v.durable.next_id) })
        | false ↦ record t { server = record v { durable = d; number = v.number + 1 }; rec = Some (record_of.Ids c s got v.durable.next_id) }
      ]).spent)) (sym m) tt)
      recorded-or (Err f) m = as-it-is g v g.ghost t st refl refl c s e

      grants : (sl : Slot) → slot v.durable c ≡ Some sl → sl.session ≡ s → T sl.is_open → T (member s v.claimed) → got ≡ sl.grants → (a b d : Bool) → is_full v.durable ≡ a → ids_are_spent got t ≡ b → is_last_number t ≡ d → Going g v (grant_ids c s got ask t)
      grants sl q r o claimed now true b d x y z = subst (λ w. Going g v (elim w as (λ y. Serving) [
        | true ↦ tell c (NoRoom s (epoch t) ask (live v.durable) (reserved v.durable)) t
        | false ↦ elim (ids_are_spent got t) as (λ y. Serving) [ true ↦ spend counter.Id t | false ↦ commit (record_of.Ids c s got v.durable.next_id) (λ u. send_ids c s got v.durable.next_id (record_ids s v.durable.next_id u)) stay t ]
      ])) (sym x) (said g v g.ghost t st refl refl c s e (NoRoom s (epoch t) ask (live v.durable) (reserved v.durable)) tt (tell-stands g g.ghost t c (NoRoom s (epoch t) ask (live v.durable) (reserved v.durable)) st.0 tt tt tt tt))
      grants sl q r o claimed now false true d x y z = subst (λ w. Going g v (elim w as (λ y. Serving) [
        | true ↦ tell c (NoRoom s (epoch t) ask (live v.durable) (reserved v.durable)) t
        | false ↦ elim (ids_are_spent got t) as (λ y. Serving) [ true ↦ spend counter.Id t | false ↦ commit (record_of.Ids c s got v.durable.next_id) (λ u. send_ids c s got v.durable.next_id (record_ids s v.durable.next_id u)) stay t ]
      ])) (sym x) (subst (λ w. Going g v (elim w as (λ y. Serving) [ true ↦ spend counter.Id t | false ↦ commit (record_of.Ids c s got v.durable.next_id) (λ u. send_ids c s got v.durable.next_id (record_ids s v.durable.next_id u)) stay t ])) (sym y) (inl tt))
      grants sl q r o claimed now false false true x y z = subst (λ w. Going g v (elim w as (λ y. Serving) [
        | true ↦ tell c (NoRoom s (epoch t) ask (live v.durable) (reserved v.durable)) t
        | false ↦ elim (ids_are_spent got t) as (λ y. Serving) [ true ↦ spend counter.Id t | false ↦ commit (record_of.Ids c s got v.durable.next_id) (λ u. send_ids c s got v.durable.next_id (record_ids s v.durable.next_id u)) stay t ]
      ])) (sym x) (subst (λ w. Going g v (elim w as (λ y. Serving) [ true ↦ spend counter.Id t | false ↦ commit (record_of.Ids c s got v.durable.next_id) (λ u. send_ids c s got v.durable.next_id (record_ids s v.durable.next_id u)) stay t ])) (sym y)
          (recorded-or (step (record_of.Ids c s got v.durable.next_id) v.durable) z))
      grants sl q r o claimed now false false false x y z = gives sl q r o claimed now x (ap (λ n. ids_are_spent n t) (sym now) ∙ y) z

      -- the last ids go out again

      recorded-is : is_last_number t ≡ false → record_ids s (g.ghost.first s) t
          ≡ record t { server = record v { tokens = with_ids s (v.number + 1) (run (g.ghost.first s) 16) v.tokens; number = v.number + 1; recorded = put s (v.number + 1) v.recorded } }
      recorded-is m = ap (λ b. with_server (λ z. record z { tokens = with_ids s z.number (run (g.ghost.first s) 16) z.tokens; recorded = put s z.number z.recorded })
          (elim b as (λ z. Serving) [ true ↦ spend counter.Number t | false ↦ record t { server = record v { number = v.number + 1 } } ])) m

      -- they are recorded, and told
      told : (f : Serving) → Under g f g.ghost → f.server.durable ≡ v.durable → f.sent ≡ [] → f.spent ≡ None → f.rec ≡ None → (n : ℕ) → at s f.server.recorded ≡ Some n → got + 1 ≡ g.ghost.grants s → Going g v (send_ids c s got (g.ghost.first s) f)
      told f u same silent unspent recless n z grants = inr (
        g.ghost,
        (
          subst (λ x. Under g (tell c (Ids s f.server.durable.epoch got x (g.ghost.first s)) f) g.ghost) (sym (ap (or_else 0) z))
              (send-ids-stands g g.ghost f u c s got n (g.ghost.first s) (of-sessions (Room s e got ask) p) z grants refl (fits.0).0 ((st.2) s (some-grants got (g.ghost.grants s) grants))),
          watches-read here f.server.durable (Some f.server) (g.pool ++ (send_ids c s got (g.ghost.first s) f).sent) (ap (λ d. d.sessions) same) st.1,
          st.2,
          starts-on g g.ghost t st.3 (send_ids c s got (g.ghost.first s) f) (subst (λ ms. AreQuiet g (ms ++ (c, Ids s (epoch f) got (at_or 0 s f.server.recorded) (g.ghost.first s)) ∷ [])) (sym silent) (tt, tt)),
        ),
        unspent,
        subst (λ r. Makes g v r g.ghost) (sym recless) refl,
      )
        where
          some-grants : (a b : ℕ) → a + 1 ≡ b → suc zero ≤ b
          some-grants a b q = omega arith

      again : (sl : Slot) → slot v.durable c ≡ Some sl → sl.session ≡ s → T sl.is_open → e ≡ v.durable.epoch → T (member s v.claimed) → got + 1 ≡ g.ghost.grants s → (o : Option ℕ) → at s v.recorded ≡ o → (b : Bool) → is_last_number t ≡ b
          → Going g v (send_ids c s got (g.ghost.first s) (elim (is_some o) as (λ z. Serving) [ true ↦ t | false ↦ record_ids s (g.ghost.first s) t ]))
      again sl q r o now claimed grants (Some n) z b m = told t st.0 refl refl refl refl n z grants
      again sl q r o now claimed grants None z true m = inl (subst (λ b. T (is_some (elim b as (λ z. Serving) [ true ↦ spend counter.Number t | false ↦ record t { server = record v { number = v.number + 1 } } ]).spent)) (sym m) tt)
      again sl q r o now claimed grants None z false m =
          let is-open : T (is_open here s) = at-open s v.durable.sessions c sl (q, r, o) in
          let k = its-clerk s ((st.0).invariant.tokens.present s is-open (fits.0).0) in
          let same-got : got ≡ (k.0).got = (fits.1 (side k.0) (ap side_in k.1)).1 now is-open z grants in
          let u = record-ids-stands g g.ghost t st.0 s (side k.0) claimed (ap side_in k.1) (ap (λ n. n + 1) (sym same-got) ∙ grants) z m in
          subst (λ f. Going g v (send_ids c s got (g.ghost.first s) f)) (sym (recorded-is m))
          (told _ (subst (λ f. Under g f g.ghost) (recorded-is m) u) refl refl refl refl (v.number + 1) (at-put s s (v.number + 1) v.recorded ∙ ap (λ b. cond b (Some (v.number + 1)) (at s v.recorded)) (same s)) grants)

      resends : (sl : Slot) → slot v.durable c ≡ Some sl → sl.session ≡ s → T sl.is_open → e ≡ v.durable.epoch → T (member s v.claimed) → got + 1 ≡ sl.grants → Going g v (resend_ids c s got sl.last_first t)
      resends sl q r o now claimed grants =
          let is-open : T (is_open here s) = at-open s v.durable.sessions c sl (q, r, o) in
          let k = its-clerk s ((st.0).invariant.tokens.present s is-open (fits.0).0) in
          let ids = ((st.0).invariant.logs.logs s c sl q r o k.0 k.1).ids in
          let given : got + 1 ≡ g.ghost.grants s = grants ∙ ids.granted in
          subst (λ z. Going g v (resend_ids c s got z t)) (sym (ids.last (one-more got (g.ghost.grants s) given))) (again sl q r o now claimed given (at s v.recorded) refl (is_last_number t) refl)
        where
          one-more : (a b : ℕ) → a + 1 ≡ b → suc zero ≤ b
          one-more a b q = omega arith

      comes : (sl : Slot) → slot v.durable c ≡ Some sl → sl.session ≡ s → T sl.is_open → e ≡ v.durable.epoch → T (member s v.claimed) → (b : Bool) → (got == sl.grants) ≡ b → Going g v (room c s got ask sl t)
      comes sl q r o now claimed true m = subst (λ w. Going g v (elim w as (λ y. Serving) [ true ↦ grant_ids c s got ask t | false ↦ elim (got + 1 == sl.grants) as (λ y. Serving) [ true ↦ resend_ids c s got sl.last_first t | false ↦ t ] ])) (sym m)
          (grants sl q r o claimed (equal got sl.grants m) (is_full v.durable) (ids_are_spent got t) (is_last_number t) refl refl refl)
      comes sl q r o now claimed false m = subst (λ w. Going g v (elim w as (λ y. Serving) [ true ↦ grant_ids c s got ask t | false ↦ elim (got + 1 == sl.grants) as (λ y. Serving) [ true ↦ resend_ids c s got sl.last_first t | false ↦ t ] ])) (sym m)
          (last (got + 1 == sl.grants) refl)
        where
          last : (b : Bool) → (got + 1 == sl.grants) ≡ b → Going g v (elim b as (λ y. Serving) [ true ↦ resend_ids c s got sl.last_first t | false ↦ t ])
          last true x = resends sl q r o now claimed (equal (got + 1) sl.grants x)
          last false x = as-it-is g v g.ghost t st refl refl c s e
