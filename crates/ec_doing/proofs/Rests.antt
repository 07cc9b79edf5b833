-- Waiting calls of which a try comes to nothing: that stays so behind an answer without an operation, which changes the order of use alone.
use Rattle.std.proofs.Common.{◌≡◌, ◌<◌, ◌+◌, arith, refl, sym, ap, subst, ◌∙◌, ℕ, zero, suc, Bool, true, false, cond, not, List, [], ◌∷◌, ◌++◌, length, length-append, append-nil, append_assoc, take, drop, get_or, Option, None, Some}
use Rattle.std.specs.Prelude.{◌&&◌, nat_le, is_none, slice_get}
use Rattle.std.specs.List.{list_all, list_any}
use Rattle.ec_base.specs.Tables.{Table, at, at_or, first, or_else, renewed}
use Rattle.ec_base.specs.Limits.{last_counter}
use Rattle.ec_base.specs.Holds.{is_below, weaker}
use Rattle.ec_base.specs.declared.counter.Counter.{Counter}
use Rattle.ec_base.specs.declared.counter.Counter.TheVariants as counter
use Rattle.ec_base.specs.declared.ids.Hold.{Hold}
use Rattle.ec_base.specs.declared.ids.Hold.TheVariants.{Read, Write}
use Rattle.ec_volume.specs.Image.{is_id}
use Rattle.ec_volume.specs.Update.{operands, fits, is_sound}
use Rattle.ec_volume.specs.declared.update.Update.{Update}
use Rattle.ec_history.specs.declared.entry.Answer.TheVariants as answer
use Rattle.ec_plain.specs.Plain.{plain}
use Rattle.ec_plain.specs.declared.call.Call.{Call}
use Rattle.ec_plain.specs.declared.call.Outcome.{Outcome}
use Rattle.ec_cache.specs.Cache as cached
use Rattle.ec_cache.specs.declared.state.CacheState.{CacheState}
use Rattle.ec_cache.specs.declared.state.Held.{Held}
use Rattle.ec_cache.proofs.Kept.{same, key-same, at-renewed}
use Rattle.ec_log.specs.Log as logs
use Rattle.ec_log.specs.declared.state.Asked.{Asked}
use Rattle.ec_log.specs.declared.state.Asked.TheVariants.{All}
use Rattle.ec_log.specs.declared.state.Pick.{Pick}
use Rattle.ec_log.specs.declared.state.Pick.TheVariants as pick_of
use Rattle.ec_cache.specs.OfReport.Report.{Owed, due, clear}
use Rattle.ec_cache.specs.OfResolve.Resolve.{lacks_id, seen, asked, met, reported}
use Rattle.ec_cache.specs.declared.resolve.verdict.Verdict.{Verdict}
use Rattle.ec_cache.specs.declared.resolve.verdict.Verdict.TheVariants.{Need, Lost, NeedIds, Done}
use Rattle.ec_protocol.specs.Server.{first_spent}
use Rattle.ec_protocol.specs.declared.clerk.Clerk.{Clerk}
use Rattle.ec_protocol.specs.declared.clerk.Out.{Out}
use Rattle.ec_protocol.specs.declared.clerk.Out.TheVariants as out
use Rattle.ec_protocol.specs.declared.clerk.Waiting.{Waiting}
use Rattle.ec_protocol.specs.Clerk as clerk
use Rattle.ec_doing.specs.declared.doing.Doing.{Doing}
use Rattle.ec_doing.specs.Seen.{doing_of}
use Rattle.ec_doing.specs.Resting.{Rests, AllRest, is_plain_at}
use Rattle.ec_doing.proofs.Steps.{part_is}
use Rattle.ec_cache.proofs.CacheLemmas.{all-used-lasts}

-- What is used is held as before.

used_held : (x : ℕ) (k : CacheState) (y : ℕ) → at y (cached.used x k).held ≡ at y k.held
used_held x k y = go (at x k.held) refl
  where
    same_one : (h : Held) → at x k.held ≡ Some h → (b : Bool) → same y x ≡ b → cond b (Some h) (at y k.held) ≡ at y k.held
    same_one h p true q = sym (ap (λ z. at z k.held) (key-same y x q) ∙ p)
    same_one h p false q = refl

    go : (o : Option Held) → at x k.held ≡ o → at y (elim o as (λ z. CacheState) [ None ↦ k | Some h ↦ record k { held = renewed x h k.held } ]).held ≡ at y k.held
    go None p = refl
    go (Some h) p = at-renewed y x h k.held ∙ same_one h p (same y x) refl

used_limits : (x : ℕ) (k : CacheState) → (cached.used x k).limits ≡ k.limits
used_limits x k = go (at x k.held)
  where
    go : (o : Option Held) → (elim o as (λ z. CacheState) [ None ↦ k | Some h ↦ record k { held = renewed x h k.held } ]).limits ≡ k.limits
    go None = refl
    go (Some h) = refl

all_held : (xs : List ℕ) (k : CacheState) (y : ℕ) → at y (cached.all_used xs k).held ≡ at y k.held
all_held [] k y = refl
all_held (x ∷ xs) k y = all_held xs (cached.used x k) y ∙ used_held x k y

all_limits : (xs : List ℕ) (k : CacheState) → (cached.all_used xs k).limits ≡ k.limits
all_limits [] k = refl
all_limits (x ∷ xs) k = all_limits xs (cached.used x k) ∙ used_limits x k

-- The verdict by what is found of each object.

abbrev Finds : Type 0
Finds = ℕ → Option Held

abbrev holds_by : Finds → Table Hold → ℕ → Hold → Bool
holds_by find limits x h = not (is_below (weaker (cached.held_mode (find x)) (at_or Write x limits)) h)

abbrev unwritten_by : Finds → Table Hold → Bool → Option Update → Option ℕ
unwritten_by find limits idless None = None
unwritten_by find limits idless (Some u) = first (λ x. not (holds_by find limits x Write)) (asked idless (operands u))

abbrev lacking_by : Finds → Table Hold → Bool → Outcome → Verdict
lacking_by find limits idless o =
    elim (unwritten_by find limits idless o.update) [
      | Some x ↦ Need x Write
      | None ↦ elim idless [ true ↦ NeedIds (seen true o.touched) | false ↦ Done o ]
    ]

abbrev in_order_by : Finds → Table Hold → Owed → Call → Option ℕ → List ℕ → Verdict → Verdict
in_order_by find limits owed c fresh xs rest =
    elim (first (λ x. not (is_id x fresh) && not (holds_by find limits x Read)) xs) [
      | Some x ↦ Need x Read
      | None ↦ or_else rest (reported (due (met owed c xs) owed) (met owed c xs))
    ]

abbrev judged_by : Finds → Table Hold → Owed → Call → Option ℕ → Outcome → Verdict
judged_by find limits owed c fresh o =
    let idless = lacks_id fresh o.update in
    in_order_by find limits owed c fresh (seen idless o.touched) (lacking_by find limits idless o)

abbrev evaluated_by : Finds → Table Hold → Owed → Call → Option ℕ → Verdict
evaluated_by find limits owed c fresh = judged_by find limits owed c fresh (plain (λ x. cached.held_image (find x)) c (or_else 0 fresh))

verdict_used : (xs : List ℕ) (c : Call) (k : Clerk) → clerk.verdict c (record k { cache = cached.all_used xs k.cache }) ≡ clerk.verdict c k
verdict_used xs c k =
    ap (λ l. evaluated_by (λ y. at y (cached.all_used xs k.cache).held) l k.owed c (clerk.first_id k.ids)) (all_limits xs k.cache)
    ∙ ap (λ f. evaluated_by f k.cache.limits k.owed c (clerk.first_id k.ids)) (λ i y. all_held xs k.cache y i)

suits_used : (xs : List ℕ) (u : Update) (k : CacheState) → clerk.suits u (cached.all_used xs k) ≡ clerk.suits u k
suits_used xs u k =
    let suits_by : Finds → Bool = λ f. is_sound u && list_all (λ x. fits u x (cached.held_image (f x))) (operands u) in
    ap suits_by (λ i y. all_held xs k y i)

-- What a try comes to, and what it comes to behind an answer without an operation.

abbrev told : List ℕ → Out → clerk.Doing → clerk.Doing
told xs o d = clerk.emit o (clerk.with_cache (cached.all_used xs) d)

abbrev Later : Type 0
Later = List ℕ → Out → clerk.Tried

abbrev Goes : clerk.Doing → clerk.Tried → Later → Type 0
Goes d (clerk.Waits e) later = e.spent ≡ None → length e.outs ≡ length d.outs → (e ≡ d) × ((xs : List ℕ) (o : Out) → later xs o ≡ clerk.Waits (told xs o d))
Goes d (clerk.Answered e) later = is_plain_at (slice_get e.outs (length d.outs)) ≡ true → (xs : List ℕ) × (o : Out) × (e ≡ told xs o d)

goes_later : (d : clerk.Doing) (t : clerk.Tried) (l m : Later) → ((xs : List ℕ) (o : Out) → m xs o ≡ l xs o) → Goes d t l → Goes d t m
goes_later d (clerk.Waits e) l m p g = λ s n. let r = g s n in (r.0, λ xs o. p xs o ∙ r.1 xs o)
goes_later d (clerk.Answered e) l m p g = g

-- something was sent, or a counter was spent
abbrev IsNews : clerk.Doing → clerk.Doing → Type 0
IsNews d e = e.spent ≡ None → length e.outs ≡ length d.outs → ⊥

one_more : (os : List Out) (o : Out) → length (os ++ o ∷ []) ≡ length os → ⊥
one_more os o h = let a = length-append os (o ∷ []) in omega (arith, a, h)

sent : (d e : clerk.Doing) (o : Out) → e.outs ≡ d.outs ++ o ∷ [] → IsNews d e
sent d e o h = λ s n. one_more d.outs o (sym (ap length h) ∙ n)

spent : (s : Option Counter) (n : Counter) → first_spent s n ≡ None → ⊥
spent None n h = cc h
spent (Some m) n h = cc h

either_news : (d : clerk.Doing) (b : Bool) (x y : clerk.Doing) → IsNews d x → IsNews d y → IsNews d (elim b as (λ z. clerk.Doing) [ true ↦ x | false ↦ y ])
either_news d true x y p q = p
either_news d false x y p q = q

news_goes : (d e : clerk.Doing) (l : Later) → IsNews d e → Goes d (clerk.Waits e) l
news_goes d e l p = λ s n. absurd (p s n)

still_goes : (d : clerk.Doing) → Goes d (clerk.Waits d) (λ xs o. clerk.Waits (told xs o d))
still_goes d = λ s n. (refl, λ xs o. refl)

if_goes : (d e : clerk.Doing) (l : List ℕ → Out → clerk.Doing) → IsNews d e → (b : Bool)
    → Goes d (clerk.Waits (elim b as (λ z. clerk.Doing) [ true ↦ e | false ↦ d ])) (λ xs o. clerk.Waits (elim b as (λ z. clerk.Doing) [ true ↦ l xs o | false ↦ told xs o d ]))
if_goes d e l p true = news_goes d e (λ xs o. clerk.Waits (l xs o)) p
if_goes d e l p false = still_goes d

want_goes : (x : ℕ) (h : Hold) (d : clerk.Doing) → Goes d (clerk.Waits (clerk.want x h d)) (λ xs o. clerk.Waits (clerk.want x h (told xs o d)))
want_goes x h d =
    let test : Option Held → ℕ → Bool = λ p n. (clerk.has_session d.clerk && not (clerk.under_recall x d.clerk) && is_below (cached.held_mode p) h) && not (list_any (clerk.is_wanted (record { obj = x; hold = h; last = n })) d.clerk.wanted) in
    let wants = test (at x d.clerk.cache.held) (cached.last x d.clerk.cache) in
    let chosen : List ℕ → Out → Bool → clerk.Tried = λ xs o b. clerk.Waits (elim b as (λ z. clerk.Doing) [ true ↦ clerk.send_want x h (told xs o d) | false ↦ told xs o d ]) in
    let as_before : (xs : List ℕ) → test (at x (cached.all_used xs d.clerk.cache).held) (cached.last x (cached.all_used xs d.clerk.cache)) ≡ wants = λ xs.
    ap (λ p. test p (cached.last x (cached.all_used xs d.clerk.cache))) (all_held xs d.clerk.cache x)
    ∙ ap (λ t. test (at x d.clerk.cache.held) (at_or 0 x t)) (all-used-lasts xs d.clerk.cache) in
    goes_later d (clerk.Waits (clerk.want x h d)) (λ xs o. chosen xs o wants) (λ xs o. clerk.Waits (clerk.want x h (told xs o d))) (λ xs o. ap (chosen xs o) (as_before xs))
    (if_goes d (clerk.send_want x h d) (λ xs o. clerk.send_want x h (told xs o d)) (sent d (clerk.send_want x h d) _ refl) wants)

room_goes : (d : clerk.Doing) → Goes d (clerk.Waits (clerk.ask_room d)) (λ xs o. clerk.Waits (clerk.ask_room (told xs o d)))
room_goes d =
    let asked_for = clerk.send_room (d.clerk.asks + 1) (clerk.with_clerk (λ k. record k { asking = Some (k.asks + 1); asks = k.asks + 1 }) d) in
    let news = either_news d (nat_le last_counter d.clerk.asks) (clerk.spend counter.Ask d) asked_for (λ s n. spent d.spent counter.Ask s) (sent d asked_for _ refl) in
    if_goes d (clerk.ask_anew d) (λ xs o. clerk.ask_anew (told xs o d)) news (clerk.has_session d.clerk && is_none d.clerk.asking)

pick_goes : (p : Pick) (d : clerk.Doing) → Goes d (clerk.Waits (clerk.send_picked p d)) (λ xs o. clerk.Waits (clerk.send_picked p (told xs o d)))
pick_goes (pick_of.Batch b ns) d =
    let batch = clerk.send_batch b (clerk.with_log (logs.after_pick (pick_of.Batch b ns)) d) in
    let news = either_news d (logs.batches_are_spent d.clerk.log) (clerk.spend counter.Batch d) batch (λ s n. spent d.spent counter.Batch s) (sent d batch _ refl) in
    news_goes d (clerk.send_picked (pick_of.Batch b ns) d) (λ xs o. clerk.Waits (clerk.send_picked (pick_of.Batch b ns) (told xs o d))) news
pick_goes pick_of.Settled d = still_goes d
pick_goes (pick_of.Behind b) d = still_goes d
pick_goes (pick_of.Window b) d = still_goes d

got_last : (os : List Out) (o : Out) → slice_get (os ++ o ∷ []) (length os) ≡ Some o
got_last [] o = refl
got_last (p ∷ os) o = got_last os o

-- an answer that isn't plain
other_goes : (d e : clerk.Doing) (o : Out) (l : Later) → e.outs ≡ d.outs ++ o ∷ [] → is_plain_at (Some o) ≡ false → Goes d (clerk.Answered e) l
other_goes d e o l h p = λ plain_one.
    let no : false ≡ true = sym p ∙ sym (ap is_plain_at (got_last d.outs o)) ∙ sym (ap (λ os. is_plain_at (slice_get os (length d.outs))) h) ∙ plain_one in
    absurd (cc no)

module _ (w : Waiting) where
  plain_goes : (o : Outcome) (d : clerk.Doing) (l : Later) → Goes d (clerk.answer_with w (answer.Reply o.reply) None o.touched d) l
  plain_goes o d l = λ p. (o.touched, out.Answer w.no (answer.Reply o.reply) None, refl)

  await_goes : (o : Outcome) (a : Option Asked) (d : clerk.Doing) → Goes d (clerk.await w o a d) (λ xs p. clerk.await w o a (told xs p d))
  await_goes o None d = plain_goes o d (λ xs p. clerk.await w o None (told xs p d))
  await_goes o (Some a) d = go (clerk.is_owing w.begun (logs.first a d.clerk.log))
    where
      go : (b : Bool) → Goes d (elim b as (λ z. clerk.Tried) [ true ↦ clerk.Waits (clerk.ask_for a d) | false ↦ clerk.answer_with w (answer.Reply o.reply) None o.touched d ])
          (λ xs p. elim b as (λ z. clerk.Tried) [ true ↦ clerk.Waits (clerk.ask_for a (told xs p d)) | false ↦ clerk.answer_with w (answer.Reply o.reply) None o.touched (told xs p d) ])
      go true = pick_goes (logs.pick a d.clerk.log) d
      go false = plain_goes o d (λ xs p. clerk.answer_with w (answer.Reply o.reply) None o.touched (told xs p d))

  issue_goes : (o : Outcome) (u : Update) (d : clerk.Doing) (l : Later) → Goes d (clerk.issue w o u d) l
  issue_goes o u d l = go (logs.ops_are_spent d.clerk.log)
    where
      go : (b : Bool) → Goes d (elim b as (λ z. clerk.Tried) [ true ↦ clerk.Waits (clerk.spend counter.Op d) | false ↦ clerk.answer_with w (answer.Reply o.reply) (Some d.clerk.log.next) o.touched (clerk.with_clerk (clerk.with_update u) d) ]) l
      go true = λ s n. absurd (spent d.spent counter.Op s)
      go false = other_goes d (clerk.emit (out.Answer w.no (answer.Reply o.reply) (Some d.clerk.log.next)) (clerk.with_cache (cached.all_used o.touched) (clerk.with_clerk (clerk.with_update u) d))) (out.Answer w.no (answer.Reply o.reply) (Some d.clerk.log.next)) l refl refl

  abbrev roomed : Outcome → Update → Bool → clerk.Doing → clerk.Tried
  roomed o u b x =
      elim b [
        | false ↦ clerk.Waits x
        | true ↦ elim (logs.is_full x.clerk.log) [ true ↦ clerk.Waits (clerk.ask_for All x) | false ↦ clerk.issue w o u x ]
      ]

  full_goes : (o : Outcome) (u : Update) (d : clerk.Doing) (b : Bool)
      → Goes d (elim b as (λ z. clerk.Tried) [ true ↦ clerk.Waits (clerk.ask_for All d) | false ↦ clerk.issue w o u d ]) (λ xs p. elim b as (λ z. clerk.Tried) [ true ↦ clerk.Waits (clerk.ask_for All (told xs p d)) | false ↦ clerk.issue w o u (told xs p d) ])
  full_goes o u d true = pick_goes (logs.pick All d.clerk.log) d
  full_goes o u d false = issue_goes o u d (λ xs p. clerk.issue w o u (told xs p d))

  fitting_goes : (o : Outcome) (u : Update) (d : clerk.Doing) (b : Bool) → Goes d (roomed o u b d) (λ xs p. roomed o u b (told xs p d))
  fitting_goes o u d true = full_goes o u d (logs.is_full d.clerk.log)
  fitting_goes o u d false = still_goes d

  outcome_goes : (o : Outcome) (u : Option Update) (d : clerk.Doing) → Goes d (clerk.settle_outcome w o u d) (λ xs p. clerk.settle_outcome w o u (told xs p d))
  outcome_goes o None d = await_goes o (clerk.awaited w.call o) d
  outcome_goes o (Some u) d =
      goes_later d (clerk.issue_if_room w o u d) (λ xs p. roomed o u (clerk.suits u d.clerk.cache) (told xs p d)) (λ xs p. clerk.issue_if_room w o u (told xs p d)) (λ xs p. ap (λ b. roomed o u b (told xs p d)) (suits_used xs u d.clerk.cache))
      (fitting_goes o u d (clerk.suits u d.clerk.cache))

  verdict_goes : (v : Verdict) (d : clerk.Doing) → Goes d (clerk.try_verdict w v d) (λ xs p. clerk.try_verdict w v (told xs p d))
  verdict_goes (Need x h) d = want_goes x h d
  verdict_goes (NeedIds xs) d = room_goes d
  verdict_goes (Lost ns objs) d =
      other_goes d (clerk.emit (out.Answer w.no (answer.Lost ns) None) (clerk.with_cache (cached.all_used objs) (clerk.with_clerk (λ k. record k { owed = clear objs k.owed }) d))) (out.Answer w.no (answer.Lost ns) None) (λ xs p. clerk.try_verdict w (Lost ns objs) (told xs p d)) refl refl
  verdict_goes (Done o) d = outcome_goes o o.update d

  try_goes : (d : clerk.Doing) → Goes d (clerk.try w d) (λ xs p. clerk.try w (told xs p d))
  try_goes d =
      goes_later d (clerk.try w d) (λ xs p. clerk.try_verdict w (clerk.verdict w.call d.clerk) (told xs p d)) (λ xs p. clerk.try w (told xs p d)) (λ xs p. ap (λ v. clerk.try_verdict w v (told xs p d)) (verdict_used xs w.call d.clerk))
      (verdict_goes (clerk.verdict w.call d.clerk) d)

-- Calls that rest.

rests_at : (w : Waiting) (d e : Doing) → ((ws : List Waiting) → doing_of ws e ≡ doing_of ws d) → Rests w d → Rests w e
rests_at w d e is r = λ ws. subst (λ x. clerk.try w x ≡ clerk.Waits x) (sym (is ws)) (r ws)

all_at : (calls : List Waiting) (d e : Doing) → ((ws : List Waiting) → doing_of ws e ≡ doing_of ws d) → AllRest calls d → AllRest calls e
all_at [] d e is r = tt
all_at (w ∷ calls) d e is r = (rests_at w d e is r.0, all_at calls d e is r.1)

all_push : (calls : List Waiting) (w : Waiting) (d : Doing) → AllRest calls d → Rests w d → AllRest (calls ++ w ∷ []) d
all_push [] w d r s = (s, tt)
all_push (v ∷ calls) w d r s = (r.0, all_push calls w d r.1 s)

-- a try after which nothing has come out changes nothing
pub rest_more : (calls : List Waiting) (i : ℕ) (w : Waiting) (d e : Doing) → i < length calls → w ≡ get_or calls i w → ((ws : List Waiting) → clerk.try w (doing_of ws d) ≡ clerk.Waits (doing_of ws e))
    → length e.outs.items ≡ length d.outs.items → AllRest (take i calls) d → AllRest (take (i + 1) calls) e
rest_more calls i w d e within is went none r =
    let same_doing : (ws : List Waiting) → doing_of ws e ≡ doing_of ws d = λ ws.
    let g = subst (λ t. Goes (doing_of ws d) t (λ xs o. clerk.try w (told xs o (doing_of ws d)))) (went ws) (try_goes w (doing_of ws d)) in
    (g refl none).0 in
    let own : Rests w e = λ ws. ap (clerk.try w) (same_doing ws) ∙ went ws in
    subst (λ cs. AllRest cs e) (part_is calls i w within is) (all_push (take i calls) w e (all_at (take i calls) d e same_doing r) own)

rests_told : (w v : Waiting) (d e : Doing) → ((ws : List Waiting) → clerk.try w (doing_of ws d) ≡ clerk.Answered (doing_of ws e)) → is_plain_at (slice_get e.outs.items (length d.outs.items)) ≡ true → Rests v d → Rests v e
rests_told w v d e went plain_one r = λ ws.
    let x = doing_of ws d in
    let g = subst (λ t. Goes x t (λ xs o. clerk.try w (told xs o x))) (went ws) (try_goes w x) plain_one in
    let s = subst (λ t. Goes x t (λ xs o. clerk.try v (told xs o x))) (r ws) (try_goes v x) refl refl in
    subst (λ y. clerk.try v y ≡ clerk.Waits y) (sym g.2) (s.1 g.0 g.1)

-- an answer without an operation lets those rest that did
pub rest_told : (calls : List Waiting) (w : Waiting) (d e : Doing) → ((ws : List Waiting) → clerk.try w (doing_of ws d) ≡ clerk.Answered (doing_of ws e)) → is_plain_at (slice_get e.outs.items (length d.outs.items)) ≡ true → AllRest calls d → AllRest calls e
rest_told [] w d e went plain_one r = tt
rest_told (v ∷ calls) w d e went plain_one r = (rests_told w v d e went plain_one r.0, rest_told calls w d e went plain_one r.1)

-- those that rest needn't be tried
pub skipped : (ws before calls : List Waiting) (n : ℕ) (d : Doing) → AllRest (take n calls) d → clerk.try_each before calls (doing_of ws d) ≡ clerk.try_each (before ++ take n calls) (drop n calls) (doing_of ws d)
skipped ws before [] zero d r = ap (λ b. clerk.try_each b [] (doing_of ws d)) (sym (append-nil before))
skipped ws before [] (suc n) d r = ap (λ b. clerk.try_each b [] (doing_of ws d)) (sym (append-nil before))
skipped ws before (w ∷ calls) zero d r = ap (λ b. clerk.try_each b (w ∷ calls) (doing_of ws d)) (sym (append-nil before))
skipped ws before (w ∷ calls) (suc n) d r =
    let x = doing_of ws d in
    let chosen : clerk.Tried → clerk.Tried = λ t. elim t [ clerk.Waits e ↦ clerk.try_each (before ++ w ∷ []) calls e | clerk.Answered e ↦ clerk.Answered (clerk.with_clerk (λ k. record k { waiting = before ++ calls }) e) ] in
    ap chosen (r.0 ws) ∙ skipped ws (before ++ w ∷ []) calls n d r.1 ∙ ap (λ b. clerk.try_each b (drop n calls) x) (append_assoc before (w ∷ []) (take n calls))
