-- Ids that come lead on.
use Rattle.std.proofs.Common.{◌≡◌, refl, sym, ap, ◌∙◌, subst, arith, ◌≤◌, ◌<◌, ◌+◌, ℕ, T, Bool, true, false, ◌||◌, List, [], ◌∷◌, ◌++◌, inl, inr, length}
use Rattle.std.specs.Prelude.{None, Some, drop, nat_le, Contains}
use Rattle.ec_base.specs.declared.ids.Hold.TheVariants.{Free, Write}
use Rattle.ec_volume.specs.Update.{member}
use Rattle.ec_history.specs.History.{Each}
use Rattle.ec_sessions.specs.Limits.{ids_per_grant, last_grants}
use Rattle.ec_sessions.specs.Slots.{run}
use Rattle.ec_sessions.specs.OfTokens.Tokens.{token}
use Rattle.ec_wire.specs.declared.msg.Msg.{Msg}
use Rattle.ec_wire.specs.declared.msg.Msg.TheVariants.{Back, Ids}
use Rattle.ec_cache.specs.Cache.{last}
use Rattle.ec_cache.specs.declared.state.CacheState.{CacheState}
use Rattle.ec_cache.specs.declared.state.Held.{Held}
use Rattle.ec_protocol.specs.Clerk.{add_ids, doing, settle, take_each, taken}
use Rattle.ec_protocol.specs.declared.clerk.Clerk.{Clerk}
use Rattle.ec_protocol.specs.declared.clerk.Waiting.{Waiting}
use Rattle.ec_quiet.specs.Facts.{WantIsAnswered}
use Rattle.ec_quiet.specs.Measure.{asks_later, if_more, measure}
use Rattle.ec_quiet.specs.Phases.{Gives, InPhase, IsAged, IsAsking, IsGivenBack, IsLeaving, backs, main}
use Rattle.ec_quiet.specs.Scenes.{Mail, Scene, delivered, done_by, taken_by}
use Rattle.ec_quiet.specs.Works.{Work}
use Rattle.ec_quiet.specs.Goes.{Goes, GoesOn, MayGo}
use Rattle.ec_quiet.specs.Takings.{ClerkIsReady}
use Rattle.ec_quiet.proofs.Beside.{backs-more, main-more, own-at, own-measure}
use Rattle.ec_quiet.proofs.Begun.{ids}
use Rattle.ec_quiet.proofs.Going.{goes}
use Rattle.ec_quiet.proofs.Taking.{each-map, same-task, stays-sent}
use Rattle.ec_quiet.proofs.OfDeliveries.Filling.{IsFilled, IsGiven, all-taken, filling, filling_at, in-run, of-run, run-length}
use Rattle.ec_base.proofs.Bools.{either-way}

member-left : (y : ℕ) (xs ys : List ℕ) → T (member y ys) → T (member y (xs ++ ys))
member-left y [] ys t = t
member-left y (x ∷ xs) ys t = go (Rattle.std.specs.Prelude.◌==◌ y x) (member-left y xs ys t)
  where
    go : (b : Bool) → T (member y (xs ++ ys)) → T (b || member y (xs ++ ys))
    go true t = tt
    go false t = t

member-front : (y : ℕ) (xs ys : List ℕ) → T (member y xs) → T (member y (xs ++ ys))
member-front y [] ys t = absurd t
member-front y (x ∷ xs) ys t = go (Rattle.std.specs.Prelude.◌==◌ y x) t (member-front y xs ys)
  where
    go : (b : Bool) → T (b || member y xs) → (T (member y xs) → T (member y (xs ++ ys))) → T (b || member y (xs ++ ys))
    go true t r = tt
    go false t r = r t

module _ (j : Work) (sc : Scene) (got n first : ℕ) (rest : Mail) (q : InPhase j sc (Gives got n first)) (head : sc.mail ≡ (j.clerk, Ids j.session sc.server.durable.epoch got n first) ∷ rest)
    (out : n ≤ sc.server.number) (countable : nat_le last_grants got ≡ false) where
  abbrev e : ℕ
  e = sc.server.durable.epoch

  abbrev message : Msg
  message = Ids j.session e got n first

  abbrev w : IsAsking (run first ids_per_grant) j sc q.facts.2 q.facts.1
  w = q.facts.3

  abbrev k : Clerk
  k = w.clerk

  abbrev before : Clerk
  before = filling first k k.cache

  -- what is on its way back is so still

  leaving : (y : ℕ) → IsLeaving j sc k y → IsLeaving j (filling_at j sc rest before) before y
  leaving y l = record {
    number = l.number;
    hold = l.hold;
    sent = stays-sent (j.clerk, message) (j.clerk, Back j.session e y l.number Free) rest refl refl (subst (λ ms. Contains ms (j.clerk, Back j.session e y l.number Free)) head l.sent);
    recorded = l.recorded;
    gone = l.gone;
    old = l.old;
  }

  given : (m : ℕ × Msg) → IsGivenBack j e k m.1 → IsGivenBack j e before m.1
  given m g = record { obj = g.obj; number = g.number; is = g.is; known = g.known; held = g.held }

  aged : IsAged j before
  aged =
      let a = w.aged in
      record {
        olds = a.olds;
        news = a.news;
        whole = a.whole;
        old = a.old;
        fresh = each-map {A = ℕ × Held} (λ z. T (member z.0 j.touched || member z.0 k.ids)) (λ z. T (member z.0 j.touched || member z.0 before.ids))
            (λ z t. either-way (member z.0 j.touched) (member z.0 k.ids) (member z.0 before.ids) (member-front z.0 k.ids (run first ids_per_grant)) t) a.news a.fresh;
      }

  starts : IsFilled j sc rest first k (run first ids_per_grant) k.cache
  starts = record {
    numbers = w.working.inside.numbers;
    lasts = w.working.inside.lasts;
    rises = λ y. omega arith;
    capacity = refl;
    limits = w.working.limits;
    same = λ y t. elim (w.working.same y t) [ inl s ↦ inl s | inr l ↦ inr (leaving y l) ];
    given = each-map {A = ℕ × Msg} (λ m. IsGivenBack j e k m.1) (λ m. IsGivenBack j e before m.1) given (backs j rest)
        (subst (Each {A = ℕ × Msg} (λ m. IsGivenBack j e k m.1)) (ap (backs j) head ∙ backs-more j j.clerk message refl rest) w.working.given_back);
    aged = aged;
    size = omega (arith, run-length ids_per_grant first);
  }

  tells : IsGiven j sc first k n first ids_per_grant k.cache
  tells = record {
    recorded = λ y l t. (of-run (λ x. (token sc.server.tokens j.session x ≡ Some (record { hold = Write; number = n })) × (last x k.cache < n)) ids_per_grant first q.facts.6 y l t).0;
    new = λ y l t. (of-run (λ x. (token sc.server.tokens j.session x ≡ Some (record { hold = Write; number = n })) × (last x k.cache < n)) ids_per_grant first q.facts.6 y l t).1;
    own = λ y l t. member-left y k.ids (run first ids_per_grant) (in-run ids_per_grant first y l t);
  }

  abbrev final : CacheState
  final = take_each n (run first ids_per_grant) k.cache

  abbrev now : Clerk
  now = add_ids n first k

  filled : IsFilled j sc rest first k [] final
  filled = all-taken j sc rest first k n out ids_per_grant first k.cache starts tells

  ready : ClerkIsReady j (filling_at j sc rest now) w.slot now
  ready = record {
    there = own-at j.clerk now sc.clerks;
    inside = record {
      there = w.working.inside.there;
      is_open = w.working.inside.is_open;
      session = w.working.inside.session;
      epoch = w.working.inside.epoch;
      claimed = w.working.inside.claimed;
      unowed = w.working.inside.unowed;
      numbers = filled.numbers;
      lasts = filled.lasts;
      capacity = filled.capacity ∙ w.working.inside.capacity;
    };
    session = w.working.session;
    recalls = w.working.recalls;
    limits = filled.limits;
    same = λ y. filled.same y tt;
    given_back = filled.given;
    aged = filled.aged;
    task = same-task j.task k now refl refl refl w.task;
    asking = refl;
    batches = w.batches;
    window = w.window;
    grants = q.facts.5 ∙ ap (λ z. z + 1) q.facts.4;
    answered = each-map (WantIsAnswered k.cache) (WantIsAnswered final) (λ v a. omega (arith, a, filled.rises v.obj)) k.wanted w.answered;
  }

  main-rest : main j rest ≡ []
  main-rest = ap (λ l. drop 1 l) (sym (main-more j j.clerk message refl rest) ∙ ap (main j) (sym head) ∙ q.main_is)

  same-backs : length (backs j sc.mail) ≡ length (backs j rest)
  same-backs = ap length (ap (backs j) head ∙ backs-more j j.clerk message refl rest)

  arrives : delivered j.clerk message rest sc ≡ done_by j.clerk (settle (doing now)) rest sc
  arrives = ap (λ o. taken_by j.clerk message rest o sc) w.working.there
      ∙ ap (λ d. done_by j.clerk (settle d) rest sc)
      (ap (λ g. taken (Ids j.session e g n first) (doing k)) q.facts.4 ∙ ids j.session e k (w.working.inside.session ∙ ap Some w.working.session, w.working.inside.epoch) n first (ap (nat_le last_grants) (sym q.facts.4) ∙ countable))

  -- it has ids now
  some-ids : now.ids ≡ [] → ⊥
  some-ids f = filled-list k.ids f
    where
      filled-list : (xs : List ℕ) → xs ++ run first ids_per_grant ≡ [] → ⊥
      filled-list [] f = absurd (grind (arith, f))
      filled-list (x ∷ xs) f = absurd (grind (arith, f))

  asks-none : (ws : List Waiting) (xs : List ℕ) → (xs ≡ [] → ⊥) → asks_later ws xs None ≡ 0
  asks-none [] xs f = refl
  asks-none (v ∷ ws) [] f = absurd (f refl)
  asks-none (v ∷ ws) (x ∷ xs) f = refl

  module _ (may : MayGo j now) where
    goes-on : Goes j sc rest now (settle (doing now))
    goes-on = goes j sc (Gives got n first) q tt q.facts.0 rest main-rest w.slot now ready may.call may.is may.waits may.counters may.touches may.evicts

    cheap-now : goes-on.price ≤ 0
    cheap-now = subst (λ b. goes-on.price ≤ if_more b 192) w.makes (goes-on.cheap (inr some-ids))

    falls : measure j (done_by j.clerk (settle (doing now)) rest sc) goes-on.phase + 32 ≤ measure j sc (Gives got n first)
    falls = omega (
      arith,
      goes-on.small,
      cheap-now,
      goes-on.few,
      filled.size,
      w.working.inside.room,
      own-measure j None sc.server.tokens sc.clerks k now q.orderly.rising w.working.there,
      asks-none k.waiting now.ids some-ids,
      same-backs,
    )

    pub gives-go-on : GoesOn j sc (Gives got n first) (delivered j.clerk message rest sc)
    gives-go-on = subst (GoesOn j sc (Gives got n first)) (sym arrives) (goes-on.phase, goes-on.comes, falls)
