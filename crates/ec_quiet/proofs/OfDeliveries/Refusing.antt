-- There is no room: the call is answered, or lacks something else.
use Rattle.std.proofs.Common.{◌≡◌, refl, sym, ap, ◌∙◌, subst, arith, ◌≤◌, ◌+◌, ℕ, Bool, true, false, List, [], ◌∷◌, inl, inr, length}
use Rattle.std.specs.Prelude.{Option, None, Some, drop, Contains}
use Rattle.std.proofs.lemmas.Bool.{eq-eqb}
use Rattle.ec_base.specs.Tables.{put}
use Rattle.ec_base.specs.declared.ids.Hold.TheVariants.{Free}
use Rattle.ec_history.specs.History.{Each}
use Rattle.ec_history.specs.declared.entry.Answer.TheVariants as answer
use Rattle.ec_wire.specs.declared.msg.Msg.{Msg}
use Rattle.ec_wire.specs.declared.msg.Msg.TheVariants.{Back, NoRoom}
use Rattle.ec_cache.specs.Cache as cache
use Rattle.ec_cache.specs.declared.state.CacheState.{CacheState}
use Rattle.ec_protocol.specs.Clerk.{Doing, doing, evict, idless, is_session, keep_call, refuse_make, refuse_makes, settle, taken, verdict, with_clerk}
use Rattle.ec_protocol.specs.declared.clerk.Clerk.{Clerk}
use Rattle.ec_protocol.specs.declared.clerk.Waiting.{Waiting}
use Rattle.ec_quiet.specs.Measure.{asks_later, if_more, measure}
use Rattle.ec_quiet.specs.Phases.{Ends, InPhase, IsAsking, IsGivenBack, IsLeaving, Refuses, backs, main}
use Rattle.ec_quiet.specs.Scenes.{Mail, Scene, delivered, done_by, taken_by}
use Rattle.ec_quiet.specs.Works.{Work}
use Rattle.ec_quiet.specs.Evictions.{Evicts, Uses}
use Rattle.ec_quiet.specs.Frames.{own_part}
use Rattle.ec_quiet.specs.Goes.{Goes, GoesOn, MayGo}
use Rattle.ec_quiet.specs.Takings.{ClerkIsReady, with_clerk_at}
use Rattle.ec_quiet.proofs.Beside.{backs-more, main-more, own-at, own-measure}
use Rattle.ec_quiet.proofs.Going as going
use Rattle.ec_quiet.proofs.Going.{goes}
use Rattle.ec_quiet.proofs.Steps.{prepared, tries-none}
use Rattle.ec_quiet.proofs.Taking.{each-map, same-task, stays-sent}
use Rattle.ec_quiet.proofs.Used.{all-used-uses, roomy}
use Rattle.ec_quiet.specs.OfDeliveries.Deliveries.{unasking}

module _ (j : Work) (sc : Scene) (again : Bool) (ask live reserved : ℕ) (rest : Mail) (q : InPhase j sc (Refuses again ask live reserved))
    (head : sc.mail ≡ (j.clerk, NoRoom j.session sc.server.durable.epoch ask live reserved) ∷ rest) where
  abbrev e : ℕ
  e = sc.server.durable.epoch

  abbrev message : Msg
  message = NoRoom j.session e ask live reserved

  abbrev s : IsAsking [] j sc again ask
  s = q.facts.1

  abbrev k : Clerk
  k = s.clerk

  abbrev now : Clerk
  now = unasking k

  abbrev at-now : Scene
  at-now = with_clerk_at j (doing now) rest sc

  leaving : (y : ℕ) → IsLeaving j sc k y → IsLeaving j at-now now y
  leaving y l = record {
    number = l.number;
    hold = l.hold;
    sent = stays-sent (j.clerk, message) (j.clerk, Back j.session e y l.number Free) rest refl refl (subst (λ ms. Contains ms (j.clerk, Back j.session e y l.number Free)) head l.sent);
    recorded = l.recorded;
    gone = l.gone;
    old = l.old;
  }

  given : (m : ℕ × Msg) → IsGivenBack j e k m.1 → IsGivenBack j e now m.1
  given m g = record { obj = g.obj; number = g.number; is = g.is; known = g.known; held = g.held }

  ready : ClerkIsReady j at-now s.slot now
  ready = record {
    there = own-at j.clerk now sc.clerks;
    inside = record {
      there = s.working.inside.there;
      is_open = s.working.inside.is_open;
      session = s.working.inside.session;
      epoch = s.working.inside.epoch;
      claimed = s.working.inside.claimed;
      unowed = s.working.inside.unowed;
      numbers = s.working.inside.numbers;
      lasts = s.working.inside.lasts;
      capacity = s.working.inside.capacity;
    };
    session = s.working.session;
    recalls = s.working.recalls;
    limits = s.working.limits;
    same = λ y. elim (s.working.same y tt) [ inl t ↦ inl t | inr l ↦ inr (leaving y l) ];
    given_back = each-map {A = ℕ × Msg} (λ m. IsGivenBack j e k m.1) (λ m. IsGivenBack j e now m.1) given (backs j rest)
        (subst (Each {A = ℕ × Msg} (λ m. IsGivenBack j e k m.1)) (ap (backs j) head ∙ backs-more j j.clerk message refl rest) s.working.given_back);
    aged = let a = s.aged in record { olds = a.olds; news = a.news; whole = a.whole; old = a.old; fresh = a.fresh };
    task = same-task j.task k now refl refl refl s.task;
    asking = refl;
    batches = s.batches;
    window = s.window;
    grants = q.facts.2;
    answered = s.answered;
  }

  main-rest : main j rest ≡ []
  main-rest = ap (λ l. drop 1 l) (sym (main-more j j.clerk message refl rest) ∙ ap (main j) (sym head) ∙ q.main_is)

  same-backs : length (backs j sc.mail) ≡ length (backs j rest)
  same-backs = ap length (ap (backs j) head ∙ backs-more j j.clerk message refl rest)

  module _ (may : MayGo j now) where
    abbrev w : Waiting
    w = may.call

    waiting : k.waiting ≡ w ∷ []
    waiting = may.waits.waiting

    abbrev cleared : Doing
    cleared = with_clerk (λ k. record k { asking = None; waiting = [] }) (doing k)

    abbrev refused : Option (List ℕ) → Doing
    refused o = elim o as (λ z. Doing) [ Some xs ↦ refuse_make live reserved w.no xs cleared | None ↦ keep_call w cleared ]

    takes : taken message (doing k) ≡ refused (idless (verdict w.call k))
    takes = ap (λ o. elim (is_session ask o) as (λ z. Doing) [ true ↦ refuse_makes live reserved k.waiting cleared | false ↦ doing k ]) s.asking
        ∙ ap (λ b. elim b as (λ z. Doing) [ true ↦ refuse_makes live reserved k.waiting cleared | false ↦ doing k ]) (eq-eqb ask ask refl)
        ∙ ap (λ ws. refuse_makes live reserved ws cleared) waiting

    arrives : (o : Option (List ℕ)) → idless (verdict w.call k) ≡ o → delivered j.clerk message rest sc ≡ done_by j.clerk (settle (refused o)) rest sc
    arrives o f = ap (λ z. taken_by j.clerk message rest z sc) s.working.there ∙ ap (λ d. done_by j.clerk (settle d) rest sc) (takes ∙ ap refused f)

    asks-none : asks_later k.waiting k.ids k.asking ≡ 0
    asks-none = ap (λ ws. asks_later ws k.ids k.asking) waiting ∙ ap (λ is. asks_later (w ∷ []) is k.asking) s.ids ∙ ap (λ o. asks_later (w ∷ []) [] o) s.asking

    asks-more : asks_later k.waiting k.ids None ≡ 576
    asks-more = ap (λ ws. asks_later ws k.ids None) waiting ∙ ap (λ is. asks_later (w ∷ []) is None) s.ids

    moved : Rattle.ec_quiet.specs.Measure.base j None sc.server.tokens (put j.clerk now sc.clerks) + own_part j k ≡ Rattle.ec_quiet.specs.Measure.base j None sc.server.tokens sc.clerks + own_part j now
    moved = own-measure j None sc.server.tokens sc.clerks k now q.orderly.rising s.working.there

    -- it's answered
    module _ (xs : List ℕ) where
      abbrev used : CacheState
      used = cache.all_used xs k.cache

      uses : Uses k.cache used
      uses = all-used-uses xs k.cache

      abbrev answering : Doing
      answering = going.answering j sc (Refuses again ask live reserved) q tt q.facts.0 rest main-rest s.slot now ready w may.is may.waits used uses k.log refl refl 0 (omega arith) (omega arith) k.ids (answer.NoRoom live reserved) None

      evicts : Evicts j.number answering
      evicts = roomy j.number answering (uses.0.capacity ∙ s.working.inside.capacity) (omega (arith, uses.1, s.working.inside.room))

      settles : settle (refused (Some xs)) ≡ going.answer-done j sc (Refuses again ask live reserved) q tt q.facts.0 rest main-rest s.slot now ready w may.is may.waits used uses k.log refl refl 0 (omega arith) (omega arith) k.ids (answer.NoRoom live reserved) None evicts
      settles = prepared (refused (Some xs)) s.working.recalls may.waits.pushes ∙ ap evict (tries-none (refused (Some xs)) refl) ∙ evicts.is

      falls : measure j (done_by j.clerk (going.answer-done j sc (Refuses again ask live reserved) q tt q.facts.0 rest main-rest s.slot now ready w may.is may.waits used uses k.log refl refl 0 (omega arith) (omega arith) k.ids (answer.NoRoom live reserved) None evicts) rest sc) Ends
          + 32 ≤ measure j sc (Refuses again ask live reserved)
      falls = omega (
        arith,
        going.ends-small j sc (Refuses again ask live reserved) q tt q.facts.0 rest main-rest s.slot now ready w may.is may.waits used uses k.log refl refl 0 (omega arith) (omega arith) k.ids (answer.NoRoom live reserved) None evicts,
        evicts.few,
        uses.1,
        s.working.inside.room,
        moved,
        asks-none,
        asks-more,
        same-backs,
        ap (λ b. if_more b 0) s.makes,
      )

      answers : GoesOn j sc (Refuses again ask live reserved) (done_by j.clerk (settle (refused (Some xs))) rest sc)
      answers = subst (λ d. GoesOn j sc (Refuses again ask live reserved) (done_by j.clerk d rest sc)) (sym settles) (
        Ends,
        going.in-ends j sc (Refuses again ask live reserved) q tt q.facts.0 rest main-rest s.slot now ready w may.is may.waits used uses k.log refl refl 0 (omega arith) (omega arith) k.ids (answer.NoRoom live reserved) None evicts,
        falls,
      )

    -- it goes on
    goes-on : Goes j sc rest now (settle (doing now))
    goes-on = goes j sc (Refuses again ask live reserved) q tt q.facts.0 rest main-rest s.slot now ready may.call may.is may.waits may.counters may.touches may.evicts

    cheap-now : goes-on.price ≤ 0
    cheap-now = subst (λ b. goes-on.price ≤ if_more b 192) s.makes (goes-on.cheap (inl s.working.inside.room))

    goes-falls : again ≡ true → measure j (done_by j.clerk (settle (doing now)) rest sc) goes-on.phase + 32 ≤ measure j sc (Refuses again ask live reserved)
    goes-falls f = omega (arith, goes-on.small, cheap-now, goes-on.few, s.working.inside.room, moved, asks-none, asks-more, same-backs, ap (λ b. if_more b 576) f)

    kept : refused None ≡ doing now
    kept = ap (λ ws. doing (record k { asking = None; waiting = ws })) (sym waiting)

    waits-on : again ≡ true → GoesOn j sc (Refuses again ask live reserved) (done_by j.clerk (settle (refused None)) rest sc)
    waits-on f = subst (λ d. GoesOn j sc (Refuses again ask live reserved) (done_by j.clerk (settle d) rest sc)) (sym kept) (goes-on.phase, goes-on.comes, goes-falls f)

    -- where it may not go on it lacks ids
    lacks-ids : idless (verdict w.call k) ≡ None → again ≡ true
    lacks-ids f = go again refl
      where
        go : (z : Bool) → again ≡ z → z ≡ true
        go true t = refl
        go false t = let l = s.lacks w.call may.is t in let bad : Some l.0 ≡ None = ap idless (sym l.1) ∙ f in absurd (grind (arith, bad))

    pub refuses-go-on : GoesOn j sc (Refuses again ask live reserved) (delivered j.clerk message rest sc)
    refuses-go-on = go (idless (verdict w.call k)) refl
      where
        go : (o : Option (List ℕ)) → idless (verdict w.call k) ≡ o → GoesOn j sc (Refuses again ask live reserved) (delivered j.clerk message rest sc)
        go (Some xs) f = subst (GoesOn j sc (Refuses again ask live reserved)) (sym (arrives (Some xs) f)) (answers xs)
        go None f = subst (GoesOn j sc (Refuses again ask live reserved)) (sym (arrives None f)) (waits-on (lacks-ids f))
