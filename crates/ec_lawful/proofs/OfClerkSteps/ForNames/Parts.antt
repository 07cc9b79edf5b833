-- The functions of a clerk's step that answer no call bring the id 0 nowhere.
use Rattle.std.proofs.Common.{◌≡◌, refl, sym, ap, subst, ◌∙◌, arith, ◌+◌, ◌≤◌, ◌<◌, ℕ, suc, zero, Bool, true, false, not, ◌==◌, ◌&&◌, ◌||◌, map, T, List, [], ◌∷◌, ◌++◌, Option, Some, None}
use Rattle.std.specs.Prelude.{is_none, nat_le, nat_lt}
use Rattle.std.specs.List.{filter, list_any}
use Rattle.ec_base.specs.Limits.{last_counter}
use Rattle.ec_base.specs.Tables.{keys}
use Rattle.ec_base.specs.declared.counter.Counter.TheVariants as counter
use Rattle.ec_base.specs.declared.ids.Age.{Age}
use Rattle.ec_base.specs.declared.ids.Hold.{Hold}
use Rattle.ec_volume.specs.Update.{has_operand, member, operands}
use Rattle.ec_volume.specs.declared.update.Update.{Update}
use Rattle.ec_order.specs.Order.{Issued}
use Rattle.ec_history.specs.History.{Each}
use Rattle.ec_cache.specs.Cache as cache
use Rattle.ec_cache.specs.declared.state.Held.{Held}
use Rattle.ec_sessions.specs.Limits.{last_grants, last_round}
use Rattle.ec_sessions.specs.Slots.{run}
use Rattle.ec_sessions.specs.declared.window.Window.{Window}
use Rattle.ec_wire.specs.declared.msg.Msg.TheVariants.{Claim, Ids}
use Rattle.ec_log.specs.Log as log
use Rattle.ec_log.specs.Log.{after_pick, batches_are_spent, kept, lost, pick}
use Rattle.ec_log.specs.declared.state.Asked.{Asked}
use Rattle.ec_log.specs.declared.state.Asked.TheVariants.{Object, Op}
use Rattle.ec_log.specs.declared.state.Pick.{Pick}
use Rattle.ec_log.specs.declared.state.Pick.TheVariants as pick_of
use Rattle.ec_cache.specs.OfReport.Report.{Owed, pairs_of}
use Rattle.ec_protocol.specs.Clerk.{Doing, add_call, add_ids, answer_recalls, ask_for, ask_pushes, ask_room, claim, emit, enter_epoch, epoch, evict, evict_unpinned, give_back, has_session, hello, in_session, is_need, is_ready, is_session, is_settled, is_wanted, keep_push, keep_recall, lose, mark_recall, may_want, needs, on_objects, resend_batches, resend_needs, resend_room, resend_want, same_age, send, send_backs, send_batch, send_outstanding, send_picked, send_room, send_want, spend, take_ended, take_ids, take_opened, take_recall, take_restarted, try_pushes, try_recalls, want, wanted, with_cache, with_clerk, with_log, with_operands}
use Rattle.ec_protocol.specs.declared.clerk.Out.TheVariants as out
use Rattle.ec_protocol.specs.declared.clerk.Recalled.{Recalled}
use Rattle.ec_coherence.specs.System.{System, Ghost}
use Rattle.ec_coherence.specs.Tokens.{Fits, side, side_in, view}
use Rattle.ec_coherence.specs.Steps.{doing_in}
use Rattle.ec_coherence.proofs.ForBatches.ClerkIn.{start-same, was-in}
use Rattle.ec_coherence.proofs.ForServer.Lists.{each-fewer}
use Rattle.ec_coherence.specs.Answers.{IsUnowed}
use Rattle.ec_coherence.specs.StandLaws.{IsUnderWay}
use Rattle.ec_lawful.specs.OfClerkSteps.Zeros.{HasNoZero, ZerosAgree}
use Rattle.ec_lawful.specs.OfClerkSteps.ZeroLaws.{HaveNoZero, SameParts}
use Rattle.ec_base.proofs.Numbers.{equal}
use Rattle.ec_base.proofs.Bools.{neither}

abbrev OutOf : ℕ × Update → Type 0
OutOf o = T (not (has_operand 0 o.1))

pub parts-same : (d e : Doing) → SameParts d e → HasNoZero d.clerk → HasNoZero e.clerk
parts-same d e p n = record {
  ids = subst (λ xs. T (not (member 0 xs))) (sym p.ids) n.ids;
  undurable = subst (Each OutOf) (sym p.undurable) n.undurable;
  owed = subst (λ qs. IsUnowed qs 0) (sym p.owed) n.owed;
}

pub parts-then : (d e f : Doing) → SameParts d e → SameParts e f → SameParts d f
parts-then d e f p q = record { ids = q.ids ∙ p.ids; undurable = q.undurable ∙ p.undurable; owed = q.owed ∙ p.owed }

parts : (d e : Doing) → e.clerk.ids ≡ d.clerk.ids → e.clerk.log.undurable ≡ d.clerk.log.undurable → e.clerk.owed ≡ d.clerk.owed → SameParts d e
parts d e p q r = record { ids = p; undurable = q; owed = r }

stays : (d : Doing) → SameParts d d
stays d = parts d d refl refl refl

asks : (a : Asked) (d : Doing) → SameParts d (ask_for a d)
asks a d = by-pick (pick a d.clerk.log)
  where
    by-pick : (p : Pick) → SameParts d (send_picked p d)
    by-pick (pick_of.Batch n ns) = go (batches_are_spent d.clerk.log)
      where
        go : (z : Bool) → SameParts d (elim z as (λ y. Doing) [ true ↦ spend counter.Batch d | false ↦ send_batch n (with_log (after_pick (pick_of.Batch n ns)) d) ])
        go true = parts d (spend counter.Batch d) refl refl refl
        go false = parts d (send_batch n (with_log (after_pick (pick_of.Batch n ns)) d)) refl refl refl
    by-pick _ = stays d

each-recall : (rs : List Recalled) (d : Doing) → SameParts d (try_recalls rs d)
each-recall [] d = stays d
each-recall (r ∷ rs) d = parts-then d (elim (is_ready r d.clerk) as (λ y. Doing) [ true ↦ give_back r d | false ↦ keep_recall r (ask_for (Object r.obj) d) ]) (try_recalls (r ∷ rs) d) (go (is_ready r d.clerk))
    (each-recall rs (elim (is_ready r d.clerk) as (λ y. Doing) [ true ↦ give_back r d | false ↦ keep_recall r (ask_for (Object r.obj) d) ]))
  where
    go : (z : Bool) → SameParts d (elim z as (λ y. Doing) [ true ↦ give_back r d | false ↦ keep_recall r (ask_for (Object r.obj) d) ])
    go true = parts d (give_back r d) refl refl refl
    go false = let q = asks (Object r.obj) d in parts d (keep_recall r (ask_for (Object r.obj) d)) q.ids q.undurable q.owed

recalls : (d : Doing) → SameParts d (answer_recalls d)
recalls d = let q = each-recall d.clerk.recalls (with_clerk (λ k. record k { recalls = [] }) d) in parts d (answer_recalls d) q.ids q.undurable q.owed

each-push : (ns : List ℕ) (d : Doing) → SameParts d (try_pushes ns d)
each-push [] d = stays d
each-push (n ∷ ns) d = parts-then d (elim (is_settled (Op n) d.clerk) as (λ y. Doing) [ true ↦ d | false ↦ ask_for (Op n) (keep_push n d) ]) (try_pushes (n ∷ ns) d) (go (is_settled (Op n) d.clerk))
    (each-push ns (elim (is_settled (Op n) d.clerk) as (λ y. Doing) [ true ↦ d | false ↦ ask_for (Op n) (keep_push n d) ]))
  where
    go : (z : Bool) → SameParts d (elim z as (λ y. Doing) [ true ↦ d | false ↦ ask_for (Op n) (keep_push n d) ])
    go true = stays d
    go false = let q = asks (Op n) (keep_push n d) in parts d (ask_for (Op n) (keep_push n d)) q.ids q.undurable q.owed

pushes : (d : Doing) → SameParts d (ask_pushes d)
pushes d = let q = each-push d.clerk.pushes (with_clerk (λ k. record k { pushes = [] }) d) in parts d (ask_pushes d) q.ids q.undurable q.owed

wants : (x : ℕ) (h : Hold) (d : Doing) → SameParts d (want x h d)
wants x h d = go (may_want x h d.clerk && not (list_any (is_wanted (wanted x h d.clerk)) d.clerk.wanted))
  where
    go : (z : Bool) → SameParts d (elim z as (λ y. Doing) [ true ↦ send_want x h d | false ↦ d ])
    go true = parts d (send_want x h d) refl refl refl
    go false = stays d

wants-again : (x : ℕ) (h : Hold) (sent : List (ℕ × Hold)) (d : Doing) → SameParts d (resend_want x h sent d)
wants-again x h sent d = go (may_want x h d.clerk && not (list_any (is_need x h) sent))
  where
    go : (z : Bool) → SameParts d (elim z as (λ y. Doing) [ true ↦ send_want x h d | false ↦ d ])
    go true = parts d (send_want x h d) refl refl refl
    go false = stays d

rooms : (d : Doing) → SameParts d (ask_room d)
rooms d = go (has_session d.clerk && is_none d.clerk.asking) (nat_le last_counter d.clerk.asks)
  where
    go : (z y : Bool) → SameParts d (elim z as (λ o. Doing) [ true ↦ elim y as (λ o. Doing) [ true ↦ spend counter.Ask d | false ↦ send_room (d.clerk.asks + 1) (with_clerk (λ k. record k { asking = Some (k.asks + 1); asks = k.asks + 1 }) d) ] | false ↦ d ])
    go false y = stays d
    go true true = parts d (spend counter.Ask d) refl refl refl
    go true false = parts d (send_room (d.clerk.asks + 1) (with_clerk (λ k. record k { asking = Some (k.asks + 1); asks = k.asks + 1 }) d)) refl refl refl

each-need : (sent ps : List (ℕ × Hold)) (d : Doing) → SameParts d (resend_needs sent ps d)
each-need sent [] d = stays d
each-need sent (p ∷ ps) d = parts-then d (resend_want p.0 p.1 sent d) (resend_needs sent (p ∷ ps) d) (wants-again p.0 p.1 sent d) (each-need (p ∷ sent) ps (resend_want p.0 p.1 sent d))

room-again : (o : Option ℕ) (d : Doing) → SameParts d (resend_room o d)
room-again None d = stays d
room-again (Some n) d = parts d (send_room n d) refl refl refl

each-batch : (bs : List ℕ) (d : Doing) → SameParts d (resend_batches bs d)
each-batch [] d = stays d
each-batch (b ∷ bs) d = let q = each-batch bs (send_batch b d) in parts d (resend_batches (b ∷ bs) d) q.ids q.undurable q.owed

outstanding : (d : Doing) → SameParts d (send_outstanding d)
outstanding d =
    let e = resend_needs [] (needs d.clerk.waiting d.clerk) d in
    let f = resend_room e.clerk.asking e in
    parts-then d e (send_outstanding d) (each-need [] (needs d.clerk.waiting d.clerk) d) (parts-then e f (send_outstanding d) (room-again e.clerk.asking e) (each-batch (keys e.clerk.log.batches) f))

each-back : (es : List (ℕ × Held)) (d : Doing) → SameParts d (send_backs es d)
each-back [] d = stays d
each-back (e ∷ es) d = let q = each-back es _ in parts d (send_backs (e ∷ es) d) q.ids q.undurable q.owed

evicts : (d : Doing) → SameParts d (evict d)
evicts d = go (nat_le (Rattle.std.specs.Prelude.length d.clerk.cache.held) d.clerk.cache.capacity)
  where
    unpinned : (pinned : List ℕ) → SameParts d (evict_unpinned pinned d)
    unpinned pinned = let q = each-back (cache.evicted pinned d.clerk.cache) (with_cache (cache.evict pinned) d) in parts d (evict_unpinned pinned d) q.ids q.undurable q.owed

    go : (z : Bool) → SameParts d (elim z as (λ y. Doing) [ true ↦ d | false ↦ evict_unpinned (on_objects d.clerk.log.undurable) d ])
    go true = stays d
    go false = unpinned (on_objects d.clerk.log.undurable)

takes-recall : (x n : ℕ) (h : Hold) (d : Doing) → SameParts d (take_recall x n h d)
takes-recall x n h d = go (nat_lt n (cache.last x d.clerk.cache))
  where
    go : (z : Bool) → SameParts d (elim z as (λ y. Doing) [ true ↦ d | false ↦ keep_recall (record { obj = x; number = n; to = h }) (with_cache (mark_recall x h) d) ])
    go true = stays d
    go false = parts d (keep_recall (record { obj = x; number = n; to = h }) (with_cache (mark_recall x h) d)) refl refl refl

restarts : (e : ℕ) (d : Doing) → SameParts d (take_restarted e d)
restarts e d = go (nat_lt e (epoch d)) (nat_lt (epoch d) e)
  where
    goes : (f : Doing) → SameParts d f → SameParts d (send_outstanding (claim f))
    goes f p = let q = outstanding (claim f) in parts-then d f (send_outstanding (claim f)) p (parts f (send_outstanding (claim f)) q.ids q.undurable q.owed)

    go : (z y : Bool) → SameParts d (elim z as (λ o. Doing) [ true ↦ d | false ↦ send_outstanding (claim (elim y as (λ o. Doing) [ true ↦ with_clerk (enter_epoch e) d | false ↦ d ])) ])
    go true y = stays d
    go false true = goes (with_clerk (enter_epoch e) d) (parts d (with_clerk (enter_epoch e) d) refl refl refl)
    go false false = goes d (stays d)

joins : (age : Age) (s e : ℕ) (d : Doing) → SameParts d (take_opened age s e d)
joins age s e d = go (not (has_session d.clerk) && same_age age d.clerk.age)
  where
    go : (z : Bool) → SameParts d (elim z as (λ y. Doing) [ true ↦ send (Claim s e []) (with_clerk (λ k. record k { session = Some s; epoch = e }) d) | false ↦ d ])
    go true = parts d (send (Claim s e []) (with_clerk (λ k. record k { session = Some s; epoch = e }) d)) refl refl refl
    go false = stays d

within : (s e : ℕ) (f : Doing → Doing) (d : Doing) → SameParts d (f d) → SameParts d (in_session s e f d)
within s e f d p = go (is_session s d.clerk.session && (e == epoch d))
  where
    go : (z : Bool) → SameParts d (elim z as (λ y. Doing) [ true ↦ f d | false ↦ d ])
    go true = p
    go false = stays d

-- Fewer undurable operations, and a debt of them.

kept-batch : (n : ℕ) (d : Doing) → HasNoZero d.clerk → HasNoZero (with_log (kept n) d).clerk
kept-batch n d z = record { ids = z.ids; undurable = each-fewer OutOf (λ op. not (member op.0 (log.ops_in n d.clerk.log))) d.clerk.log.undurable z.undurable; owed = z.owed }

unowed-more : (qs rs : Owed) (x : ℕ) → IsUnowed qs x → IsUnowed rs x → IsUnowed (qs ++ rs) x
unowed-more [] rs x h i = i
unowed-more (q ∷ qs) rs x h i = neither (x == q.1) (member x (map (λ q. q.1) (qs ++ rs))) (first (x == q.1) (member x (map (λ q. q.1) qs)) h) (unowed-more qs rs x (next (x == q.1) (member x (map (λ q. q.1) qs)) h) i)
  where
    first : (a b : Bool) → T (not (a || b)) → T (not a)
    first true b h = h
    first false b h = tt

    next : (a b : Bool) → T (not (a || b)) → T (not b)
    next true b h = absurd h
    next false b h = h

unowed-one : (n x : ℕ) (os : List ℕ) → T (not (member x os)) → IsUnowed (map (λ o. (n, o)) os) x
unowed-one n x [] h = tt
unowed-one n x (o ∷ os) h = go (x == o) h (unowed-one n x os)
  where
    go : (b : Bool) → T (not (b || member x os)) → (T (not (member x os)) → IsUnowed (map (λ o. (n, o)) os) x) → T (not (b || member x (map (λ (q : ℕ × ℕ). q.1) (map (λ o. (n, o)) os))))
    go true h r = h
    go false h r = r h

unowed-all : (os : Issued) → Each OutOf os → IsUnowed (pairs_of (with_operands os)) 0
unowed-all [] h = tt
unowed-all (o ∷ os) h = unowed-more (map (λ x. (o.0, x)) (operands o.1)) (pairs_of (with_operands os)) 0 (unowed-one o.0 0 (operands o.1) h.0) (unowed-all os h.1)

ended : (w : Window) (d : Doing) → HasNoZero d.clerk → HasNoZero (take_ended w d).clerk
ended w d z = go (nat_le last_round d.clerk.age.round)
  where
    ops : Issued
    ops = lost w d.clerk.log

    go : (y : Bool) → HasNoZero (elim y as (λ x. Doing) [ true ↦ spend counter.Round d | false ↦ hello (emit (out.Told (keys (lost w d.clerk.log))) (with_clerk (lose (lost w d.clerk.log)) d)) ]).clerk
    go true = z
    go false = record {
      ids = tt;
      undurable = tt;
      owed = unowed-more d.clerk.owed (pairs_of (with_operands (lost w d.clerk.log))) 0 z.owed (unowed-all (lost w d.clerk.log) (each-fewer OutOf (λ op. not (log.is_kept_by w d.clerk.log op.0)) d.clerk.log.undurable z.undurable));
    }

pub have-no-zero : HaveNoZero
have-no-zero = record {
  same = parts-same;
  then = parts-then;
  asks = asks;
  recalls = recalls;
  pushes = pushes;
  wants = wants;
  rooms = rooms;
  claims = λ d. parts d (claim d) refl refl refl;
  outstanding = outstanding;
  evicts = evicts;
  grants = λ x h n i d. parts d (with_cache (cache.take x h n i) d) refl refl refl;
  takes_recall = takes-recall;
  restarts = restarts;
  hellos = λ d. parts d (hello d) refl refl refl;
  joins = joins;
  within = within;
  calls = λ cl d. parts d (with_clerk (add_call cl) d) refl refl refl;
  pushed = λ n d. parts d (keep_push n d) refl refl refl;
  kept_batch = kept-batch;
  ended = ended;
  fresh = λ c b. record { ids = tt; undurable = tt; owed = tt };
}

-- Ids that are taken.

not-in : (x first : ℕ) (n : ℕ) → x < first → T (not (member x (run first n)))
not-in x first zero l = tt
not-in x first (suc n) l = neither (x == first) (member x (run (first + 1) n)) (other x first l) (not-in x (first + 1) n (omega (arith, l)))
  where
    other : (x y : ℕ) → x < y → T (not (x == y))
    other x y l = subst (λ b. T (not b)) (sym (differ x y l)) tt
      where
        differ : (x y : ℕ) → x < y → (x == y) ≡ false
        differ x y l = grind arith

not-more : (x : ℕ) (xs ys : List ℕ) → T (not (member x xs)) → T (not (member x ys)) → T (not (member x (xs ++ ys)))
not-more x [] ys h i = i
not-more x (y ∷ xs) ys h i = go (x == y) h (λ j. not-more x xs ys j i)
  where
    go : (b : Bool) → T (not (b || member x xs)) → (T (not (member x xs)) → T (not (member x (xs ++ ys)))) → T (not (b || member x (xs ++ ys)))
    go true h r = h
    go false h r = r h

module _ (g : System) (c b s : ℕ) (d : Doing) (γ : Ghost) (u : IsUnderWay g c b s d γ) (z : ZerosAgree (doing_in c b d γ g)) (e got n first : ℕ) (fits : Fits (view (doing_in c b d γ g)) (Ids s e got n first)) where
  abbrev here : System
  here = doing_in c b d γ g

  stands : here.clerks c u.age.boot ≡ Some d.clerk
  stands = ap (λ x. here.clerks c x) u.boot ∙ start-same c b d.clerk g.clerks

  there : (view here).clerk s ≡ Some (side d.clerk)
  there = ap side_in (was-in γ.owner here.clerks c s u.age d.clerk d.clerk u.owns stands u.session u.session)

  above : got ≡ d.clerk.got → suc zero ≤ first
  above now =
      let q = ((u.stands.0).invariant.tokens).got s (side d.clerk) there in
      let last : got + 1 ≡ γ.grants s = one-more got d.clerk.got (γ.grants s) now q.3 fits.3 in
      subst (λ x. suc zero ≤ x) (sym (fits.4 last)) (z.first s (some-given got (γ.grants s) last))
    where
      one-more : (a k m : ℕ) → a ≡ k → m ≤ k + 1 → a < m → a + 1 ≡ m
      one-more a k m e l f = omega (arith, e, l, f)

      some-given : (a m : ℕ) → a + 1 ≡ m → suc zero ≤ m
      some-given a m e = omega (arith, e)

  pub ids-have-none : HasNoZero (take_ids got n first d).clerk
  ids-have-none = go (got == d.clerk.got) (nat_le last_grants got) refl
    where
      mine : HasNoZero d.clerk
      mine = z.clerks c b d.clerk (start-same c b d.clerk g.clerks)

      go : (x y : Bool) → (got == d.clerk.got) ≡ x → HasNoZero (elim x as (λ o. Doing) [ false ↦ d | true ↦ elim y as (λ o. Doing) [ true ↦ spend counter.Id d | false ↦ with_clerk (add_ids n first) d ] ]).clerk
      go false y q = mine
      go true true q = mine
      go true false q = record { ids = not-more 0 d.clerk.ids (run first 16) mine.ids (not-in 0 first 16 (let l = above (equal got d.clerk.got q) in omega (arith, l))); undurable = mine.undurable; owed = mine.owed }
