-- A clerk starts with its call, where all is idle.
use Rattle.std.proofs.Common.{◌≡◌, refl, sym, ap, ◌∙◌, subst, arith, ◌≤◌, ◌<◌, ℕ, Bool, true, false, ◌&&◌, ◌||◌, List, [], ◌∷◌, ◌++◌, inl, inr, ◌⊎◌, length}
use Rattle.std.specs.Prelude.{Option, None, Some, is_some, ◌==◌, nat_le, nat_lt, T}
use Rattle.ec_base.specs.Limits.{last_counter}
use Rattle.ec_base.specs.Tables.{at, put}
use Rattle.ec_base.specs.declared.counter.Counter.TheVariants as counter
use Rattle.ec_base.specs.declared.ids.Age.{Age}
use Rattle.ec_base.specs.declared.ids.Hold.{Hold}
use Rattle.ec_history.specs.declared.entry.Answer.TheVariants as answer
use Rattle.ec_plain.specs.declared.call.Call.{Call}
use Rattle.ec_plain.specs.declared.call.Outcome.{Outcome}
use Rattle.ec_sessions.specs.Slots.{is_greater, is_open}
use Rattle.ec_sessions.specs.declared.slot.Slot.{Slot}
use Rattle.ec_sessions.specs.OfTokens.Tokens.{token}
use Rattle.ec_sessions.specs.declared.tokens.token.Token.{Token}
use Rattle.ec_wire.specs.declared.msg.Msg.TheVariants.{Hello}
use Rattle.ec_durable.specs.Durable.{slot}
use Rattle.ec_cache.specs.Cache as cache
use Rattle.ec_log.specs.declared.state.Asked.{Asked}
use Rattle.ec_cache.specs.declared.resolve.verdict.Verdict.TheVariants.{Need, Done}
use Rattle.ec_protocol.specs.Clerk.{Doing, Tried, add_call, answer_with, await, awaited, begin, doing, evict, hello, max_tokens, new_clerk, settle, settle_outcome, spend, start, try, try_verdict, verdict}
use Rattle.ec_protocol.specs.declared.clerk.Clerk.{Clerk}
use Rattle.ec_protocol.specs.declared.clerk.Out.TheVariants as out
use Rattle.ec_protocol.specs.declared.clerk.Waiting.{Waiting}
use Rattle.ec_protocol.specs.declared.server.Server.{Server}
use Rattle.ec_quiet.specs.Facts.{IsIdleBut, StartIsNew}
use Rattle.ec_quiet.specs.Phases.{Greets, InPhase, IsStarting, Lacking, backs}
use Rattle.ec_quiet.specs.Quiet.{IsIdle}
use Rattle.ec_quiet.specs.Scenes.{Scene, done_by, sends}
use Rattle.ec_quiet.specs.Works.{HasTask, NothingWaits, Work}
use Rattle.ec_quiet.specs.Tries.{left_by}
use Rattle.ec_quiet.proofs.Beside.{backs-more, main-more, other-at, own-at, still-orderly}
use Rattle.ec_quiet.proofs.Steps.{few-stay, prepared, tries-one}
use Rattle.ec_quiet.specs.First.{HasFirst, IsStart, start_calling}
use Rattle.ec_quiet.proofs.Empty.{on-empty}

none-used : (c : ℕ) (xs : List ℕ) → cache.all_used xs (cache.empty c) ≡ cache.empty c
none-used c [] = refl
none-used c (x ∷ xs) = none-used c xs

module _ (j : Work) (sc : Scene) (boot : ℕ) (cl : Call) (idle : IsIdle sc) (is : IsStart j sc boot cl) where
  abbrev c : ℕ
  c = j.clerk

  abbrev v : Server
  v = sc.server

  abbrev new : Clerk
  new = new_clerk c boot

  abbrev age : Age
  age = record { boot = boot; round = 0 }

  abbrev now : Clerk
  now = add_call cl new

  abbrev w : Waiting
  w = record { no = 1; call = cl; begun = 0 }

  -- What the step of the call leaves: the clerk is new, and its call is answered or lacks a token.

  record IsBegun (d : Doing) : Type 0 where
    spent : d.spent ≡ None
    silent : sends c d.outs ≡ []
    new_is : StartIsNew d.clerk
    age_is : d.clerk.age ≡ age
    task : NothingWaits d.clerk ⊎ Lacking j d.clerk
    few : length d.clerk.cache.held ≤ d.clerk.cache.capacity

  -- the call lacks a token, and no want goes out without a session
  wants : (x : ℕ) (h : Hold) → verdict cl now ≡ Need x h → IsBegun (left_by (try w (doing now)))
  wants x h e = subst (λ z. IsBegun (left_by (try_verdict w z (doing now)))) (sym e) (record {
    spent = refl;
    silent = refl;
    new_is = record { session = refl; cache = refl; log = refl; owed = refl; recalls = refl; wanted = refl; ids = refl; got = refl; asking = refl };
    age_is = refl;
    task = inr (subst (λ t. HasTask t now) (sym is.task) (w, refl, refl, refl, refl), cl, x, h, is.task, e, is.touches x h e);
    few = omega arith;
  })

  abbrev reply-of : Outcome → Tried
  reply-of o = answer_with w (answer.Reply o.reply) None o.touched (doing now)

  -- nothing is undurable
  replies : (o : Outcome) → o.update ≡ None → settle_outcome w o o.update (doing now) ≡ reply-of o
  replies o e = ap (λ u. settle_outcome w o u (doing now)) e ∙ go (awaited cl o)
    where
      go : (a : Option Asked) → await w o a (doing now) ≡ reply-of o
      go None = refl
      go (Some a) = refl

  answers : (o : Outcome) → verdict cl now ≡ Done o → o.update ≡ None → IsBegun (left_by (try w (doing now)))
  answers o e none = subst (λ t. IsBegun (left_by t)) (sym (ap (λ z. try_verdict w z (doing now)) e ∙ replies o none)) (record {
    spent = refl;
    silent = refl;
    new_is = record { session = refl; cache = none-used max_tokens o.touched; log = refl; owed = refl; recalls = refl; wanted = refl; ids = refl; got = refl; asking = refl };
    age_is = refl;
    task = inl (refl, refl);
    few = subst (λ k. length k.held ≤ k.capacity) (sym (none-used max_tokens o.touched)) (omega arith);
  })

  tried : IsBegun (left_by (try w (doing now)))
  tried = elim (on-empty max_tokens cl is.bounded) [
    | inl n ↦ wants n.0 n.1 n.2
    | inr d ↦ answers d.0 d.1 d.2
  ]

  settles : settle (doing now) ≡ left_by (try w (doing now))
  settles = prepared (doing now) refl refl ∙ ap evict (tries-one (doing now) w refl) ∙ few-stay (left_by (try w (doing now))) tried.few

  -- The whole step.

  abbrev d : Doing
  d = left_by (try w (doing now))

  uncounted : nat_le last_counter 0 ≡ false
  uncounted = refl

  begin-is : begin cl new ≡ d
  begin-is = ap (λ b. elim b as (λ z. Doing) [ true ↦ spend counter.CallNo (doing new) | false ↦ settle (doing now) ]) uncounted ∙ settles

  abbrev greeted : Doing
  greeted = record { clerk = new; outs = out.Send (Hello c age) ∷ []; spent = None }

  start-is : start c boot ≡ greeted
  start-is = ap (λ b. elim b as (λ z. Doing) [ true ↦ spend counter.Boot (doing new) | false ↦ hello (doing new) ]) is.boot_is

  step-is : start_calling c boot cl ≡ record d { outs = out.Send (Hello c age) ∷ d.outs }
  step-is = ap (λ (s : Doing). record (begin cl s.clerk) { outs = s.outs ++ (begin cl s.clerk).outs }) start-is ∙ ap (λ (e : Doing). record e { outs = out.Send (Hello c age) ∷ e.outs }) begin-is

  abbrev then : Scene
  then = record sc { clerks = put c d.clerk sc.clerks; mail = (c, Hello c age) ∷ [] }

  scene-is : done_by c (start_calling c boot cl) sc.mail sc ≡ then
  scene-is = ap (λ e. done_by c e sc.mail sc) step-is ∙ ap (λ ms. record sc { clerks = put c d.clerk sc.clerks; mail = ms }) (ap (λ ms. ms ++ ((c, Hello c age) ∷ sends c d.outs)) idle.mail ∙ ap (λ ms. (c, Hello c age) ∷ ms) tried.silent)

  -- The phase.

  others : (e : ℕ) (k : Clerk) → (e == c) ≡ false → at e then.clerks ≡ Some k → (sl : Slot) × IsIdleBut [] v e sl k
  others e k n f = idle.clerks e k (sym (other-at c d.clerk sc.clerks e n) ∙ f)

  not-run : (sl : Slot) → slot v.durable c ≡ Some sl → sl.is_open ≡ true → ⊥
  not-run sl e f = subst (λ o. T (is_some o)) is.none (idle.orderly.run c sl e f)

  closed : is_open (slot v.durable c) ≡ false
  closed = go (slot v.durable c) refl
    where
      shut : (sl : Slot) → slot v.durable c ≡ Some sl → (b : Bool) → sl.is_open ≡ b → b ≡ false
      shut sl e true f = absurd (not-run sl e f)
      shut sl e false f = refl

      go : (o : Option Slot) → slot v.durable c ≡ o → is_open o ≡ false
      go None e = refl
      go (Some sl) e = shut sl e sl.is_open refl

  above : (a b : ℕ) → a < b → nat_lt a b ≡ true
  above a b l = grind (arith, l)

  greater : is_greater (slot v.durable c) age ≡ true
  greater = go (slot v.durable c) refl
    where
      go : (o : Option Slot) → slot v.durable c ≡ o → is_greater o age ≡ true
      go None e = refl
      go (Some sl) e = ap (λ b. b || (((sl.age).boot == boot) && nat_lt (sl.age).round 0)) (above (sl.age).boot boot (is.later sl e))

  -- each token is of an earlier session
  tokenless : (x : ℕ) → token v.tokens j.session x ≡ None
  tokenless x = go (token v.tokens j.session x) refl
    where
      go : (o : Option Token) → token v.tokens j.session x ≡ o → o ≡ None
      go None e = refl
      go (Some t) e =
          let h = idle.orderly.holders j.session x t e in
          absurd (omega (arith, idle.orderly.earlier h.0 h.1 h.2, h.3, is.session))

  none-back : backs j then.mail ≡ []
  none-back = backs-more j c (Hello c age) refl []

  starting : IsStarting j then age
  starting = record {
    clerk = d.clerk;
    there = own-at c d.clerk sc.clerks;
    new = tried.new_is;
    age_is = tried.age_is;
    task = tried.task;
    tokenless = tokenless;
    none_back = none-back;
    aged = sym is.number;
  }

  in-greets : InPhase j then (Greets age)
  in-greets = record {
    clerk = is.clerk;
    number = omega (arith, is.number);
    main_is = main-more j c (Hello c age) refl [];
    orderly = still-orderly c d.clerk sc.clerks v idle.orderly;
    others = λ e k n b f. others e k n f;
    facts = (idle.wants, starting, closed, greater, is.session);
  }

  pub greets : HasFirst j (done_by c (start_calling c boot cl) sc.mail sc) × ((start c boot).spent ≡ None) × ((begin cl (start c boot).clerk).spent ≡ None)
  greets = (
    subst (HasFirst j) (sym scene-is) (record { phase = Greets age; first = tt; comes = in-greets; none_back = none-back }),
    ap (λ (s : Doing). s.spent) start-is,
    ap (λ (s : Doing). (begin cl s.clerk).spent) start-is ∙ ap (λ (e : Doing). e.spent) begin-is ∙ tried.spent,
  )
