-- A batch of the clerk's own call is durable.
use Rattle.std.proofs.Common.{◌≡◌, refl, sym, ap, ◌∙◌, subst, arith, ◌≤◌, ◌+◌, ℕ, Bool, true, false, not, ◌&&◌, ◌||◌, cond, List, [], ◌∷◌, inl, inr, ◌⊎◌, length, filter}
use Rattle.std.specs.Prelude.{Option, None, Some, drop, Contains, is_none, ◌==◌}
use Rattle.std.specs.Cmp.{unsigned_ties}
use Rattle.std.specs.List.{list_any}
use Rattle.std.proofs.lemmas.Bool.{eq-eqb}
use Rattle.ec_base.specs.Tables.{at, keys, or_else, put, without}
use Rattle.ec_base.specs.declared.ids.Hold.TheVariants.{Free, Write}
use Rattle.ec_volume.specs.Update.{member}
use Rattle.ec_volume.specs.Volume.{Images}
use Rattle.ec_volume.specs.declared.update.Update.{Update}
use Rattle.ec_history.specs.History.{Each}
use Rattle.ec_history.specs.declared.entry.Answer.TheVariants as answer
use Rattle.ec_order.specs.Order.{Issued, closure, needs}
use Rattle.ec_plain.specs.Plain.{plain, answers, refuses}
use Rattle.ec_plain.specs.Walk.{Reached, At, Not, walk}
use Rattle.ec_plain.specs.declared.call.Call.{Call}
use Rattle.ec_plain.specs.declared.call.Call.TheVariants as call
use Rattle.ec_plain.specs.declared.call.Outcome.{Outcome}
use Rattle.ec_plain.specs.declared.call.Reply.TheVariants as reply
use Rattle.ec_wire.specs.declared.msg.Msg.{Msg}
use Rattle.ec_wire.specs.declared.msg.Msg.TheVariants.{Back, Kept}
use Rattle.ec_cache.specs.Cache as cache
use Rattle.ec_cache.specs.declared.state.CacheState.{CacheState}
use Rattle.ec_log.specs.Log as log
use Rattle.ec_log.specs.declared.state.Asked.{Asked}
use Rattle.ec_log.specs.declared.state.LogState.{LogState}
use Rattle.ec_log.specs.declared.state.Pick.{Pick}
use Rattle.ec_log.specs.declared.state.Pick.TheVariants.{Batch, Settled}
use Rattle.ec_cache.specs.OfResolve.Resolve.{evaluate, first_unread, first_unwritten, lacking, lacks_id, outcome, seen}
use Rattle.ec_cache.specs.declared.resolve.verdict.Verdict.{Verdict}
use Rattle.ec_cache.specs.declared.resolve.verdict.Verdict.TheVariants.{Need, NeedIds, Done}
use Rattle.ec_protocol.specs.Clerk.{Doing, answer_with, doing, first_id, settle, try, verdict}
use Rattle.ec_protocol.specs.declared.clerk.Clerk.{Clerk}
use Rattle.ec_protocol.specs.declared.clerk.Waiting.{Waiting}
use Rattle.ec_quiet.specs.Facts.{is_last}
use Rattle.ec_quiet.specs.Measure.{asks_later, base, if_more, is_under_way, measure, unsent}
use Rattle.ec_quiet.specs.Phases.{Ends, InPhase, IsGivenBack, IsLeaving, IsSaving, Saved, backs, main}
use Rattle.ec_quiet.specs.Scenes.{Mail, Scene, delivered, done_by, taken_by}
use Rattle.ec_quiet.specs.Works.{Calls, Work, asked, asked_in, is_saving, saves}
use Rattle.ec_quiet.specs.Evictions.{Evicts, less_tokens}
use Rattle.ec_quiet.specs.Frames.{own_part}
use Rattle.ec_quiet.specs.Goes.{Goes, GoesOn, MayGo}
use Rattle.ec_quiet.specs.Takings.{ClerkIsReady as IsReady, with_clerk_at}
use Rattle.ec_quiet.specs.Tries.{IsAnswer, IsBatch, IsRoom, IsWant, issued, left_by, updated}
use Rattle.ec_quiet.proofs.Batches.{all-unsent}
use Rattle.ec_quiet.proofs.Beside.{backs-more, main-more, own-at, own-measure}
use Rattle.ec_quiet.proofs.Begun.{keeps}
use Rattle.ec_quiet.proofs.Going as going
use Rattle.ec_quiet.proofs.Going.{asked-saves, goes}
use Rattle.ec_quiet.proofs.Taking.{each-map, same-task, stays-sent}
use Rattle.ec_quiet.proofs.Tried.{comes}
use Rattle.ec_quiet.proofs.Used.{all-used-uses}
use Rattle.ec_quiet.specs.OfDeliveries.Deliveries.{having_kept}

-- A call that saves has no update.

reached-none : (r : Reached) (read : List ℕ) → (elim r as (λ z. Outcome) [ At obj ↦ answers reply.Ok read | Not f ↦ refuses f read ]).update ≡ None
reached-none (At obj) read = refl
reached-none (Not f) read = refl

saving-none : (v : Images) (cl : Call) (id : ℕ) → saves cl ≡ true → (plain v cl id).update ≡ None
saving-none v (call.Fsync p) id e = reached-none (walk v p).to (walk v p).read
saving-none v call.Sync id e = refl
saving-none v (call.Mkdir p) id e = absurd (grind (arith, e))
saving-none v (call.Create p) id e = absurd (grind (arith, e))
saving-none v (call.Write p n bs) id e = absurd (grind (arith, e))
saving-none v (call.SetLen p n) id e = absurd (grind (arith, e))
saving-none v (call.Read p n c) id e = absurd (grind (arith, e))
saving-none v (call.Chmod p n) id e = absurd (grind (arith, e))
saving-none v (call.Touch p n) id e = absurd (grind (arith, e))
saving-none v (call.Stat p) id e = absurd (grind (arith, e))
saving-none v (call.List p) id e = absurd (grind (arith, e))
saving-none v (call.Remove p) id e = absurd (grind (arith, e))
saving-none v (call.Rmdir p) id e = absurd (grind (arith, e))
saving-none v (call.Rename p q) id e = absurd (grind (arith, e))
saving-none v (call.Forder ps) id e = absurd (grind (arith, e))
saving-none v (call.Chown p n) id e = absurd (grind (arith, e))

-- where nothing is owed, a call that may be answered has the plain outcome
done-outcome : (k : CacheState) (cl : Call) (fresh : Option ℕ) (o : Outcome) → evaluate k [] cl fresh ≡ Done o → outcome k cl fresh ≡ o
done-outcome k cl fresh o e = reads (lacks_id fresh (outcome k cl fresh).update) (first_unread k fresh (seen (lacks_id fresh (outcome k cl fresh).update) (outcome k cl fresh).touched)) e
  where
    writes : (idless : Bool) (u : Option ℕ) → elim u as (λ z. Verdict) [ Some x ↦ Need x Write | None ↦ elim idless [ true ↦ NeedIds (seen true (outcome k cl fresh).touched) | false ↦ Done (outcome k cl fresh) ] ] ≡ Done o → outcome k cl fresh ≡ o
    writes idless (Some y) e = absurd (grind (arith, e))
    writes true None e = absurd (grind (arith, e))
    writes false None e = cc

    reads : (idless : Bool) (u : Option ℕ) → elim u as (λ z. Verdict) [ Some x ↦ Need x Rattle.ec_base.specs.declared.ids.Hold.TheVariants.Read | None ↦ lacking k idless (outcome k cl fresh) ] ≡ Done o → outcome k cl fresh ≡ o
    reads idless (Some y) e = absurd (grind (arith, e))
    reads idless None e = writes idless (first_unwritten k idless (outcome k cl fresh).update) e

-- Batches that are durable.

same-parts : (p q : ℕ × Update → Bool) → ((op : ℕ × Update) → p op ≡ q op) → (ops : Issued) → length (filter p ops) ≡ length (filter q ops)
same-parts p q e [] = refl
same-parts p q e (op ∷ ops) = go (p op) (q op) (e op) (same-parts p q e ops)
  where
    go : (y z : Bool) → y ≡ z → length (filter p ops) ≡ length (filter q ops) → length (cond y (op ∷ filter p ops) (filter p ops)) ≡ length (cond z (op ∷ filter q ops) (filter q ops))
    go true true f r = omega (arith, r)
    go true false f r = absurd (grind (arith, f))
    go false true f r = absurd (grind (arith, f))
    go false false f r = r

module _ (l : LogState) (b : ℕ) (ns : List ℕ) (alone : l.batches ≡ (b, ns) ∷ []) where
  ops-are : log.ops_in b l ≡ ns
  ops-are = ap (λ bs. or_else [] (at b bs)) alone ∙ ap (λ z. or_else [] (cond z (Some ns) None)) (sym (unsigned_ties b b) ∙ eq-eqb b b refl)

  pub none-left : (log.kept b l).batches ≡ []
  none-left = ap (without b) alone ∙ ap (λ z. cond (not z) ((b, ns) ∷ []) []) (sym (unsigned_ties b b) ∙ eq-eqb b b refl)

  no-other : (z : Bool) → (z || false) ≡ z
  no-other true = refl
  no-other false = refl

  -- what wasn't under way isn't still
  pub kept-unsent : unsent (log.kept b l) ≡ unsent l
  kept-unsent = all-unsent (log.kept b l) none-left
      ∙ same-parts (λ op. not (member op.0 (log.ops_in b l))) (λ op. not (is_under_way l op.0))
      (λ op. ap (λ ms. not (member op.0 ms)) ops-are ∙ ap not (sym (ap (λ z. list_any (λ (t : ℕ × List ℕ). member op.0 t.1) z) alone ∙ no-other (member op.0 ns)))) l.undurable

-- Nothing that's asked for is left.

no-first : (ops : Issued) → log.first_number ops ≡ None → ops ≡ []
no-first [] e = refl
no-first (op ∷ ops) e = absurd (grind (arith, e))

closure-none : (ops : Issued) → closure (λ n. member n []) ops ≡ []
closure-none [] = refl
closure-none (op ∷ ops) = ap (λ xs. cond (member op.0 [] || list_any (λ y. needs op.1 y.1) xs) (op ∷ xs) xs) (closure-none ops)

pub settled-pick : (a : Asked) (l : LogState) → log.first a l ≡ None → log.pick a l ≡ Settled
settled-pick a l e = ap (λ xs. log.pick_from (closure (λ n. member n (keys xs)) l.undurable) l) (no-first (log.asked_for a l) e) ∙ ap (λ ops. log.pick_from ops l) (closure-none l.undurable)

pub none-first : (o : Option ℕ) → is_none o ≡ true → o ≡ None
none-first None e = refl
none-first (Some n) e = absurd (grind (arith, e))

-- The batch is durable.

module _ (j : Work) (sc : Scene) (b : ℕ) (more : Bool) (rest : Mail) (q : InPhase j sc (Saved b more)) (head : sc.mail ≡ (j.clerk, Kept j.session sc.server.durable.epoch b) ∷ rest) where
  abbrev e : ℕ
  e = sc.server.durable.epoch

  abbrev message : Msg
  message = Kept j.session e b

  abbrev pub s : IsSaving 0 j sc b more
  s = q.facts.1

  abbrev pub k : Clerk
  k = s.clerk

  abbrev pub now : Clerk
  now = having_kept b k

  abbrev at-now : Scene
  at-now = with_clerk_at j (doing now) rest sc

  leaving : (y : ℕ) → IsLeaving j sc k y → IsLeaving j at-now now y
  leaving y l = record {
    number = l.number;
    hold = l.hold;
    sent = stays-sent (j.clerk, message) (j.clerk, Back j.session e y l.number Free) rest refl refl (subst (λ ms. Contains ms (j.clerk, Back j.session e y l.number Free)) head l.sent);
    recorded = l.recorded;
    gone = l.gone;
    old = l.old;
  }

  given : (m : ℕ × Msg) → IsGivenBack j e k m.1 → IsGivenBack j e now m.1
  given m g = record { obj = g.obj; number = g.number; is = g.is; known = g.known; held = g.held }

  pub ready : IsReady j at-now s.slot now
  ready = record {
    there = own-at j.clerk now sc.clerks;
    inside = record {
      there = s.working.inside.there;
      is_open = s.working.inside.is_open;
      session = s.working.inside.session;
      epoch = s.working.inside.epoch;
      claimed = s.working.inside.claimed;
      unowed = s.working.inside.unowed;
      numbers = s.working.inside.numbers;
      lasts = s.working.inside.lasts;
      capacity = s.working.inside.capacity;
    };
    session = s.working.session;
    recalls = s.working.recalls;
    limits = s.working.limits;
    same = λ y. elim (s.working.same y tt) [ inl t ↦ inl t | inr l ↦ inr (leaving y l) ];
    given_back = each-map {A = ℕ × Msg} (λ m. IsGivenBack j e k m.1) (λ m. IsGivenBack j e now m.1) given (backs j rest)
        (subst (Each {A = ℕ × Msg} (λ m. IsGivenBack j e k m.1)) (ap (backs j) head ∙ backs-more j j.clerk message refl rest) s.working.given_back);
    aged = let a = s.aged in record { olds = a.olds; news = a.news; whole = a.whole; old = a.old; fresh = a.fresh };
    task = same-task j.task k now refl refl refl s.task;
    asking = s.asking;
    batches = none-left k.log b s.sending.numbers s.sending.alone;
    window = s.window;
    grants = s.grants;
    answered = s.answered;
  }

  pub main-rest : main j rest ≡ []
  main-rest = ap (λ l. drop 1 l) (sym (main-more j j.clerk message refl rest) ∙ ap (main j) (sym head) ∙ q.main_is)

  pub same-backs : length (backs j sc.mail) ≡ length (backs j rest)
  same-backs = ap length (ap (backs j) head ∙ backs-more j j.clerk message refl rest)

  pub arrives : delivered j.clerk message rest sc ≡ done_by j.clerk (settle (doing now)) rest sc
  arrives = ap (λ z. taken_by j.clerk message rest z sc) s.working.there
      ∙ ap (λ d. done_by j.clerk (settle d) rest sc) (keeps j.session e k (s.working.inside.session ∙ ap Some s.working.session, s.working.inside.epoch) b e)

  pub moved : base j None sc.server.tokens (put j.clerk now sc.clerks) ≡ base j None sc.server.tokens sc.clerks
  moved = omega (arith, own-measure j None sc.server.tokens sc.clerks k now q.orderly.rising s.working.there, same-part)
    where
      same-part : own_part j now ≡ own_part j k
      same-part = go ((j.clerk == j.clerk) && not (is_saving j.task))
        where
          go : (z : Bool) → elim z as (λ z. ℕ) [ true ↦ 0 | false ↦ unsent now.log ] + asks_later k.waiting k.ids k.asking ≡ elim z as (λ z. ℕ) [ true ↦ 0 | false ↦ unsent k.log ] + asks_later k.waiting k.ids k.asking
          go true = refl
          go false = ap (λ n. n + asks_later k.waiting k.ids k.asking) (kept-unsent k.log b s.sending.numbers s.sending.alone)

  module _ (may : MayGo j now) where
    abbrev w : Waiting
    w = may.call

    -- a further batch may go out
    goes-on : Goes j sc rest now (settle (doing now))
    goes-on = goes j sc (Saved b more) q tt q.facts.0 rest main-rest s.slot now ready w may.is may.waits may.counters may.touches may.evicts

    at-most : goes-on.price ≤ 64
    at-most = go (is_saving j.task) (goes-on.tight s.working.inside.room)
      where
        go : (z : Bool) → goes-on.price ≤ if_more z 64 → goes-on.price ≤ 64
        go true l = l
        go false l = omega (arith, l)

    more-follow : more ≡ true → GoesOn j sc (Saved b more) (done_by j.clerk (settle (doing now)) rest sc)
    more-follow f = (goes-on.phase, goes-on.comes, omega (arith, goes-on.small, at-most, goes-on.few, s.working.inside.room, moved, same-backs, ap (λ z. if_more z 64) f))

    -- All that's asked for is durable.

    module _ (a : Asked) (asks : asked j.task k ≡ Some a) (last : is_last a b k.log ≡ true) where
      asks-call : asked_in w.call (verdict w.call k) ≡ Some a
      asks-call = ap (λ t. asked t k) (sym may.is) ∙ asks

      none-asked : log.first a now.log ≡ None
      none-asked = none-first (log.first a (log.kept b k.log)) last

      no-update : (o : Outcome) → verdict w.call k ≡ Done o → o.update ≡ None
      no-update o d =
          sym (ap (λ z. z.update) (done-outcome k.cache w.call (first_id k.ids) o (ap (λ z. evaluate k.cache z w.call (first_id k.ids)) (sym s.working.inside.unowed) ∙ d)))
          ∙ saving-none (cache.images_held k.cache) w.call (or_else 0 (first_id k.ids)) (asked-saves w.call (verdict w.call k) a asks-call)

      -- the call is answered
      module _ (o : Outcome) (t : try w (doing now) ≡ answer_with w (answer.Reply o.reply) None o.touched (doing now)) where
        abbrev used : CacheState
        used = cache.all_used o.touched k.cache

        evicts : Evicts j.number (left_by (answer_with w (answer.Reply o.reply) None o.touched (doing now)))
        evicts = subst (λ z. Evicts j.number (left_by z)) t may.evicts

        abbrev done : Doing
        done = less_tokens evicts.cache evicts.gone (left_by (answer_with w (answer.Reply o.reply) None o.touched (doing now)))

        settles : settle (doing now) ≡ done
        settles = going.settled j sc (Saved b more) q tt q.facts.0 rest main-rest s.slot now ready w may.is may.waits (answer_with w (answer.Reply o.reply) None o.touched (doing now)) t evicts

        falls : measure j (done_by j.clerk done rest sc) Ends + 32 ≤ measure j sc (Saved b more)
        falls = omega (
          arith,
          going.ends-small j sc (Saved b more) q tt q.facts.0 rest main-rest s.slot now ready w may.is may.waits used (all-used-uses o.touched k.cache) now.log refl refl 0 (omega arith) (omega arith) now.ids (answer.Reply o.reply) None evicts,
          evicts.few,
          (all-used-uses o.touched k.cache).1,
          s.working.inside.room,
          moved,
          same-backs,
          going.under-price (is_saving j.task) 0 0 (omega arith),
        )

        pub ends : GoesOn j sc (Saved b more) (done_by j.clerk (settle (doing now)) rest sc)
        ends = subst (λ d. GoesOn j sc (Saved b more) (done_by j.clerk d rest sc)) (sym settles) (
          Ends,
          going.in-ends j sc (Saved b more) q tt q.facts.0 rest main-rest s.slot now ready w may.is may.waits used (all-used-uses o.touched k.cache) now.log refl refl 0 (omega arith) (omega arith) now.ids (answer.Reply o.reply) None evicts,
          falls,
        )

      no-need : (v : Verdict) → verdict w.call k ≡ v → asked_in w.call v ≡ Some a
      no-need v f = ap (asked_in w.call) (sym f) ∙ asks-call

      same-asked : (c : Asked) → asked (Calls w.call) k ≡ Some c → c ≡ a
      same-asked c f = some-same c a (sym f ∙ asks-call)
        where
          some-same : (x y : Asked) → ◌≡◌ {A = Option Asked} (Some x) (Some y) → x ≡ y
          some-same x y p = cc

      pub last-one : GoesOn j sc (Saved b more) (done_by j.clerk (settle (doing now)) rest sc)
      last-one = go (comes w (doing now) (going.calm j sc (Saved b more) q tt q.facts.0 rest main-rest s.slot now ready w may.is may.waits) may.counters may.waits)
        where
          none-some : ◌≡◌ {A = Option Asked} None (Some a) → ⊥
          none-some f = grind (arith, f)

          apart : (p : Pick) (c : ℕ) (ns : List ℕ) → p ≡ Batch c ns → p ≡ Settled → ⊥
          apart p c ns f g = let bad : Batch c ns ≡ Settled = sym f ∙ g in cc

          go : IsWant w (doing now) (try w (doing now)) ⊎ IsRoom w (doing now) (try w (doing now)) ⊎ IsBatch w (doing now) (try w (doing now)) ⊎ IsAnswer w (doing now) (try w (doing now))
              → GoesOn j sc (Saved b more) (done_by j.clerk (settle (doing now)) rest sc)
          go (inl (x, h, lacks, below, t)) = absurd (none-some (no-need (Need x h) lacks))
          go (inr (inl (xs, lacks, ids, t))) = absurd (none-some (no-need (NeedIds xs) lacks))
          go (inr (inr (inl (c, ns, f, pick, t)))) = absurd (apart (log.pick c now.log) now.log.next_batch ns pick (ap (λ z. log.pick z now.log) (same-asked c f) ∙ settled-pick a now.log none-asked))
          go (inr (inr (inr (o, d, t)))) = ends o (t ∙ ap (λ u. answer_with w (answer.Reply o.reply) (issued u now.log) o.touched (updated u (doing now))) (no-update o d))

    pub saved-goes-on : GoesOn j sc (Saved b more) (delivered j.clerk message rest sc)
    saved-goes-on = subst (GoesOn j sc (Saved b more)) (sym arrives) (go more refl)
      where
        go : (z : Bool) → more ≡ z → GoesOn j sc (Saved b more) (done_by j.clerk (settle (doing now)) rest sc)
        go true f = more-follow f
        go false f = let l = s.last f in last-one l.0 l.1 l.2
