-- To which phase the try of a call leads.
use Rattle.std.proofs.Common.{◌≡◌, refl, sym, ap, ◌∙◌, subst, arith, ◌≤◌, ◌+◌, ◌-◌, ◌*◌, ℕ, Bool, true, false, not, ◌&&◌, ◌||◌, T, List, [], ◌∷◌, ◌++◌, inl, inr, ◌⊎◌, length, length-append}
use Rattle.std.specs.Prelude.{Option, None, Some, ◌==◌, filter, is_some, nat_le}
use Rattle.std.specs.Ordering.{nat_cmp}
use Rattle.std.specs.Cmp.{nat_cmp_total}
use Rattle.std.specs.FinMap.Entries.{is_sorted-put}
use Rattle.std.proofs.lemmas.Bool.{eq-eqb}
use Rattle.ec_base.specs.SortedLaws.{put-put}
use Rattle.ec_base.specs.Tables.{Table, at_or, or_else, put}
use Rattle.ec_base.specs.Holds.{is_below}
use Rattle.ec_base.specs.declared.ids.Hold.{Hold}
use Rattle.ec_base.specs.declared.ids.Hold.TheVariants.{Free, Read, Write}
use Rattle.ec_volume.specs.Update.{member, operands}
use Rattle.ec_volume.specs.declared.update.Update.{Update}
use Rattle.ec_history.specs.History.{Each}
use Rattle.ec_history.specs.declared.entry.Answer.{Answer}
use Rattle.ec_history.specs.declared.entry.Answer.TheVariants as answer
use Rattle.ec_plain.specs.declared.call.Call.{Call}
use Rattle.ec_plain.specs.declared.call.Call.TheVariants as call
use Rattle.ec_plain.specs.declared.call.Outcome.{Outcome}
use Rattle.ec_sessions.specs.declared.slot.Slot.{Slot}
use Rattle.ec_cache.specs.Cache as cache
use Rattle.ec_cache.specs.Cache.{last, mode}
use Rattle.ec_cache.specs.declared.state.CacheState.{CacheState}
use Rattle.ec_log.specs.Log as log
use Rattle.ec_log.specs.declared.state.Asked.{Asked}
use Rattle.ec_log.specs.declared.state.LogState.{LogState}
use Rattle.ec_wire.specs.declared.msg.Msg.{Msg}
use Rattle.ec_wire.specs.declared.msg.Msg.TheVariants as msg
use Rattle.ec_cache.specs.OfResolve.Resolve.{evaluate}
use Rattle.ec_cache.specs.declared.resolve.verdict.Verdict.{Verdict}
use Rattle.ec_cache.specs.declared.resolve.verdict.Verdict.TheVariants.{Need, NeedIds, Lost, Done}
use Rattle.ec_machine_laws.specs.Needs.{IsCreate}
use Rattle.ec_machine_laws.proofs.Needing.{ids-creates}
use Rattle.ec_protocol.specs.Clerk.{Doing, Tried, Waits, awaited, answer_with, doing, evict, first_id, less_id, max_tokens, send_want, settle, try, verdict, wanted}
use Rattle.ec_protocol.specs.declared.clerk.Clerk.{Clerk}
use Rattle.ec_protocol.specs.declared.clerk.Out.TheVariants as out
use Rattle.ec_protocol.specs.declared.clerk.Waiting.{Waiting}
use Rattle.ec_protocol.specs.declared.clerk.Wanted.{Wanted}
use Rattle.ec_quiet.specs.Facts.{WantIsAnswered, is_last}
use Rattle.ec_quiet.specs.Measure.{asks_later, base, if_more, is_under_way, measure, unsent, unsent_by}
use Rattle.ec_quiet.specs.Phases.{Phase, Asks, Ends, Wants, InPhase, IsAged, IsWorking, NoneNoted, Saves, backs, is_back_message, main}
use Rattle.ec_quiet.specs.Scenes.{Mail, Scene, done_by}
use Rattle.ec_quiet.specs.Works.{Calls, Work, asked, asked_in, is_saving, saves}
use Rattle.ec_quiet.specs.Evictions.{Evicts, Leaves, Uses, back_mail, less_tokens}
use Rattle.ec_quiet.specs.Frames.{IsAlone, own_part}
use Rattle.ec_quiet.specs.Goes.{Goes}
use Rattle.ec_quiet.specs.Takings.{ClerkIsReady, with_clerk_at}
use Rattle.ec_quiet.specs.Tries.{HasCounters, IsAnswer, IsBatch, IsCalm, IsRoom, IsWaiting, IsWant, batch_sent, issued, left_by, room_asked, updated}
use Rattle.ec_quiet.proofs.Batches.{full-or-last, goes-out}
use Rattle.ec_quiet.proofs.Beside.{backs-more, filter-both, main-more, own-at, own-comes, own-measure}
use Rattle.ec_quiet.proofs.Leaving as leaving
use Rattle.ec_quiet.proofs.Steps.{prepared, tries-one}
use Rattle.ec_quiet.proofs.Taking.{few-left, same-task}
use Rattle.ec_quiet.proofs.Tried.{comes}
use Rattle.ec_quiet.proofs.Used.{all-used-uses, change-uses, leaves-on, uses-on}

-- Operations.

-- an operation that's issued is one more
one-unsent : (u : Update) (l : LogState) → unsent (log.issue u l) ≤ unsent l + 1
one-unsent u l =
    let p : ℕ × Update → Bool = λ op. not (is_under_way l op.0) in
    omega (arith, ap length (filter-both p l.undurable ((l.next, u) ∷ [])), length-append (filter p l.undurable) (filter p ((l.next, u) ∷ [])), few-left p ((l.next, u) ∷ []))

-- Which calls save, and which ask for ids.

awaited-saves : (cl : Call) (o : Outcome) (a : Asked) → awaited cl o ≡ Some a → saves cl ≡ true
awaited-saves (call.Fsync p) o a e = refl
awaited-saves call.Sync o a e = refl
awaited-saves (call.Mkdir p) o a e = absurd (grind (arith, e))
awaited-saves (call.Create p) o a e = absurd (grind (arith, e))
awaited-saves (call.Write p n bs) o a e = absurd (grind (arith, e))
awaited-saves (call.SetLen p n) o a e = absurd (grind (arith, e))
awaited-saves (call.Read p n c) o a e = absurd (grind (arith, e))
awaited-saves (call.Chmod p n) o a e = absurd (grind (arith, e))
awaited-saves (call.Touch p n) o a e = absurd (grind (arith, e))
awaited-saves (call.Stat p) o a e = absurd (grind (arith, e))
awaited-saves (call.List p) o a e = absurd (grind (arith, e))
awaited-saves (call.Remove p) o a e = absurd (grind (arith, e))
awaited-saves (call.Rmdir p) o a e = absurd (grind (arith, e))
awaited-saves (call.Rename p q) o a e = absurd (grind (arith, e))
awaited-saves (call.Forder ps) o a e = absurd (grind (arith, e))
awaited-saves (call.Chown p n) o a e = absurd (grind (arith, e))

pub asked-saves : (cl : Call) (v : Verdict) (a : Asked) → asked_in cl v ≡ Some a → saves cl ≡ true
asked-saves cl (Done o) a e = awaited-saves cl o a e
asked-saves cl (Need x h) a e = absurd (grind (arith, e))
asked-saves cl (NeedIds xs) a e = absurd (grind (arith, e))
asked-saves cl (Lost ns xs) a e = absurd (grind (arith, e))

creates-never-save : (cl : Call) → IsCreate cl → saves cl ≡ false
creates-never-save cl (p, inl e) = ap saves e
creates-never-save cl (p, inr e) = ap saves e

-- a mode below which something is has more than none
below-free : (g h : Hold) → is_below g h ≡ true → is_below Free h ≡ true
below-free g Free e = nothing-less g e
  where
    nothing-less : (g : Hold) → is_below g Free ≡ true → is_below Free Free ≡ true
    nothing-less Free e = absurd (grind (arith, e))
    nothing-less Read e = absurd (grind (arith, e))
    nothing-less Write e = absurd (grind (arith, e))
below-free g Read e = refl
below-free g Write e = refl

within : (a b : ℕ) → a ≤ b → nat_le a b ≡ true
within a b l = grind (arith, l)

-- Prices.

less-price : (b : Bool) (n m : ℕ) → n ≤ m → if_more b n ≤ if_more b m
less-price true n m l = l
less-price false n m l = omega arith

both-price : (b : Bool) (n m : ℕ) → n ≤ m → if_more (b && true) n ≤ if_more b m
both-price true n m l = l
both-price false n m l = omega arith

no-price : (b : Bool) (n : ℕ) → if_more (b && false) n ≡ 0
no-price true n = refl
no-price false n = refl

pub under-price : (b : Bool) (n m : ℕ) → n ≤ m → if_more b n ≤ m
under-price true n m l = l
under-price false n m l = omega arith

-- The try of the call.

module _ (j : Work) (sc : Scene) (p : Phase) (q : InPhase j sc p) (alone : IsAlone p) (noted : NoneNoted sc) (rest : Mail) (main-rest : main j rest ≡ [])
    (sl : Slot) (k : Clerk) (r : ClerkIsReady j (with_clerk_at j (doing k) rest sc) sl k) (w : Waiting) (calls : j.task ≡ Calls w.call) (waits : IsWaiting w k) where
  pub calm : IsCalm k
  calm = record {
    session = ap is_some r.inside.session;
    free = record { recalls = r.recalls; limits = r.limits; batches = r.batches };
    unowed = r.inside.unowed;
    asking = r.asking;
    answered = r.answered;
  }

  pub settled : (t : Tried) → try w (doing k) ≡ t → (v : Evicts j.number (left_by t)) → settle (doing k) ≡ less_tokens v.cache v.gone (left_by t)
  settled t e v = prepared (doing k) r.recalls waits.pushes ∙ ap evict (tries-one (doing k) w waits.waiting ∙ ap left_by e) ∙ v.is

  own-session : or_else 0 k.session ≡ j.session
  own-session = ap (or_else 0) r.inside.session ∙ r.session

  -- the clerk has more tokens than it keeps
  abbrev crowded : Bool
  crowded = not (nat_le (length k.cache.held) max_tokens)

  roomy : crowded ≡ false → length k.cache.held ≤ max_tokens
  roomy e = grind (arith, e)

  -- what it leaves of the measure
  moves : (m : Clerk) → base j None sc.server.tokens (put j.clerk m sc.clerks) + own_part j k ≡ base j None sc.server.tokens (put j.clerk k sc.clerks) + own_part j m
  moves m = ap (λ es. base j None sc.server.tokens es + own_part j k) (sym (put-put nat_cmp nat_cmp_total j.clerk k m sc.clerks))
      ∙ own-measure j None sc.server.tokens (put j.clerk k sc.clerks) k m (is_sorted-put nat_cmp nat_cmp_total j.clerk k sc.clerks q.orderly.rising) (own-at j.clerk k sc.clerks)

  own-call : (cl : Call) → j.task ≡ Calls cl → cl ≡ w.call
  own-call cl is = same-call cl w.call (sym is ∙ calls)
    where
      same-call : (a b : Call) → Calls a ≡ Calls b → a ≡ b
      same-call a b f = cc

  -- One message of this clerk goes out, and then those of tokens that go.

  module _ (ws : List Wanted) (l : LogState) (o : Option ℕ) (a : ℕ) (m : Msg) (front : is_back_message m ≡ false) where
    abbrev sending : Doing
    sending = record { clerk = record k { wanted = ws; log = l; asking = o; asks = a }; outs = out.Send m ∷ []; spent = None }

    module _ (v : Evicts j.number sending) where
      abbrev final : Doing
      final = less_tokens v.cache v.gone sending

      abbrev next : Scene
      next = done_by j.clerk final rest sc

      abbrev one : Mail
      one = (j.clerk, m) ∷ []

      none-back : backs j one ≡ []
      none-back = backs-more j j.clerk m front []

      mail-is : next.mail ≡ rest ++ (one ++ back_mail j.clerk j.session sc.server.durable.epoch v.gone)
      mail-is = ap (λ z. rest ++ ((j.clerk, m) ∷ z)) (leaving.sent-backs j.clerk sending v.gone ∙ (λ i. back_mail j.clerk (own-session i) (r.inside.epoch i) v.gone))

      main-is : main j next.mail ≡ one
      main-is = leaving.main-are j sc rest sl k r final.clerk refl refl refl refl v.gone v.leaves v.old v.room one none-back next.mail mail-is main-rest ∙ main-more j j.clerk m front []

      counts : length (backs j next.mail) ≡ length (backs j rest) + length v.gone
      counts = leaving.back-count j sc rest sl k r final.clerk refl refl refl refl v.gone v.leaves v.old v.room one none-back next.mail mail-is

      working : IsWorking [] j next sl final.clerk
      working = leaving.working j sc rest sl k r final.clerk refl refl refl refl v.gone v.leaves v.old v.room one none-back next.mail mail-is

      answered : (vs : List Wanted) → Each (WantIsAnswered k.cache) vs → Each (WantIsAnswered v.cache) vs
      answered = leaving.answered j sc rest sl k r final.clerk refl refl refl refl v.gone v.leaves v.old v.room one none-back next.mail mail-is

      aged : IsAged j final.clerk
      aged = leaving.still-aged j sc rest sl k r final.clerk refl refl refl refl v.gone v.leaves v.old v.room one none-back next.mail mail-is refl v.part

      -- where no token goes the verdict is the same
      same-verdict : crowded ≡ false → (cl : Call) → verdict cl final.clerk ≡ verdict cl k
      same-verdict f cl = ap (λ c. evaluate c k.owed cl (first_id k.ids)) (v.none (roomy f))

  -- a token is wanted
  module _ (x : ℕ) (h : Hold) (touched : T (member x j.touched)) (below : is_below (mode x k.cache) h ≡ true) where
    abbrev want : Msg
    want = msg.Want (or_else 0 k.session) k.epoch x h (last x k.cache)

    abbrev wants : List Wanted
    wants = wanted x h k ∷ k.wanted

    module _ (v : Evicts j.number (send_want x h (doing k))) where
      abbrev want-next : Scene
      want-next = next wants k.log k.asking k.asks want refl v

      last-same : last x v.cache ≡ last x k.cache
      last-same = ap (at_or 0 x) v.leaves.lasts

      still-below : is_below (mode x v.cache) h ≡ true
      still-below = go (member x (Rattle.ec_base.specs.Tables.keys v.gone)) refl
        where
          go : (b : Bool) → member x (Rattle.ec_base.specs.Tables.keys v.gone) ≡ b → is_below (mode x v.cache) h ≡ true
          go true e = ap (λ o. is_below (cache.held_mode o) h) (v.leaves.go x e) ∙ below-free (mode x k.cache) h below
          go false e = ap (λ g. is_below g h) (leaving.same-mode _ _ (v.leaves.stay x e)) ∙ below

      in-want : InPhase j want-next (Wants x h (last x k.cache))
      in-want = own-comes j sc p (Wants x h (last x k.cache)) q alone tt (final wants k.log k.asking k.asks want refl v) rest
          (main-is wants k.log k.asking k.asks want refl v ∙ (λ i. (j.clerk, msg.Want (own-session i) (r.inside.epoch i) x h (last x k.cache)) ∷ [])) (
            noted,
            record {
              slot = sl;
              clerk = (final wants k.log k.asking k.asks want refl v).clerk;
              working = working wants k.log k.asking k.asks want refl v;
              task = same-task j.task k (final wants k.log k.asking k.asks want refl v).clerk refl refl refl r.task;
              asking = r.asking;
              batches = r.batches;
              window = r.window;
              grants = r.grants;
              aged = aged wants k.log k.asking k.asks want refl v;
              touched = touched;
              number = last-same;
              below = subst T (sym still-below) tt;
              earlier = k.wanted;
              wants = ap (λ n. (record { obj = x; hold = h; last = n }) ∷ k.wanted) (sym last-same);
              answered = answered wants k.log k.asking k.asks want refl v k.wanted r.answered;
            },
          )

      goes-want : Goes j sc rest k (final wants k.log k.asking k.asks want refl v)
      goes-want = record {
        phase = Wants x h (last x k.cache);
        alone = tt;
        asked = tt;
        comes = in-want;
        price = if_more (is_saving j.task && true) 64;
        gone = length v.gone;
        small = omega (arith, moves (final wants k.log k.asking k.asks want refl v).clerk, counts wants k.log k.asking k.asks want refl v);
        count = counts wants k.log k.asking k.asks want refl v;
        few = v.few;
        most = under-price (is_saving j.task && true) 64 576 (omega arith);
        cheap = λ z. both-price (is_saving j.task) 64 192 (omega arith);
        tight = λ z. both-price (is_saving j.task) 64 64 (omega arith);
      }

  -- ids are asked for
  module _ (ids : k.ids ≡ []) (xs : List ℕ) (lacks : verdict w.call k ≡ NeedIds xs) where
    abbrev room : Msg
    room = msg.Room (or_else 0 k.session) k.epoch k.got (k.asks + 1)

    never-saves : is_saving j.task ≡ false
    never-saves = ap is_saving calls ∙ creates-never-save w.call (ids-creates k.cache k.owed w.call (first_id k.ids) xs lacks)

    module _ (v : Evicts j.number (room_asked (doing k))) where
      abbrev room-done : Doing
      room-done = final k.wanted k.log (Some (k.asks + 1)) (k.asks + 1) room refl v

      in-asks : InPhase j (done_by j.clerk room-done rest sc) (Asks crowded k.got (k.asks + 1))
      in-asks = own-comes j sc p (Asks crowded k.got (k.asks + 1)) q alone tt room-done rest
          (main-is k.wanted k.log (Some (k.asks + 1)) (k.asks + 1) room refl v ∙ (λ i. (j.clerk, msg.Room (own-session i) (r.inside.epoch i) k.got (k.asks + 1)) ∷ [])) (
            noted,
            record {
              slot = sl;
              clerk = room-done.clerk;
              working = working k.wanted k.log (Some (k.asks + 1)) (k.asks + 1) room refl v;
              task = same-task j.task k room-done.clerk refl refl refl r.task;
              asking = refl;
              ids = ids;
              makes = never-saves;
              batches = r.batches;
              window = r.window;
              answered = answered k.wanted k.log (Some (k.asks + 1)) (k.asks + 1) room refl v k.wanted r.answered;
              aged = aged k.wanted k.log (Some (k.asks + 1)) (k.asks + 1) room refl v;
              lacks = λ cl is f. (
                xs,
                ap (λ c. verdict c room-done.clerk) (own-call cl is) ∙ same-verdict k.wanted k.log (Some (k.asks + 1)) (k.asks + 1) room refl v f w.call ∙ lacks,
              );
            },
            refl,
            r.grants,
          )

      asked-now : asks_later k.waiting k.ids (Some (k.asks + 1)) ≡ 0
      asked-now = ap (λ vs. asks_later vs k.ids (Some (k.asks + 1))) waits.waiting ∙ ap (λ is. asks_later (w ∷ []) is (Some (k.asks + 1))) ids

      asked-before : asks_later k.waiting k.ids k.asking ≡ 576
      asked-before = ap (λ vs. asks_later vs k.ids k.asking) waits.waiting ∙ ap (λ is. asks_later (w ∷ []) is k.asking) ids ∙ ap (λ o. asks_later (w ∷ []) [] o) r.asking

      dear : if_more (is_saving j.task && true) 64 ≡ 0
      dear = ap (λ b. if_more (b && true) 64) never-saves

      where-roomy : (n : ℕ) → length k.cache.held ≤ max_tokens → if_more crowded 576 ≤ n
      where-roomy n few = go (nat_le (length k.cache.held) max_tokens) (within (length k.cache.held) max_tokens few)
        where
          go : (b : Bool) → b ≡ true → if_more (not b) 576 ≤ n
          go true e = omega arith
          go false e = absurd (grind (arith, e))

      cheap-where : (length k.cache.held ≤ max_tokens) ⊎ (k.ids ≡ [] → ⊥) → if_more crowded 576 ≤ if_more (is_saving j.task) 192
      cheap-where (inl few) = where-roomy (if_more (is_saving j.task) 192) few
      cheap-where (inr some) = absurd (some ids)

      goes-asks : Goes j sc rest k room-done
      goes-asks = record {
        phase = Asks crowded k.got (k.asks + 1);
        alone = tt;
        asked = tt;
        comes = in-asks;
        price = if_more crowded 576;
        gone = length v.gone;
        small = omega (arith, moves room-done.clerk, counts k.wanted k.log (Some (k.asks + 1)) (k.asks + 1) room refl v, asked-now, asked-before, dear);
        count = counts k.wanted k.log (Some (k.asks + 1)) (k.asks + 1) room refl v;
        few = v.few;
        most = under-price crowded 576 576 (omega arith);
        cheap = cheap-where;
        tight = where-roomy (if_more (is_saving j.task) 64);
      }

  -- a batch goes out
  module _ (a : Asked) (ns : List ℕ) (asks : asked (Calls w.call) k ≡ Some a) (pick : log.pick a k.log ≡ Rattle.ec_log.specs.declared.state.Pick.TheVariants.Batch k.log.next_batch ns) where
    abbrev b : ℕ
    b = k.log.next_batch

    abbrev now-log : LogState
    now-log = log.after_pick (Rattle.ec_log.specs.declared.state.Pick.TheVariants.Batch b ns) k.log

    abbrev flush : Msg
    flush = msg.Flush (or_else 0 k.session) k.epoch b (log.batch b now-log)

    abbrev more : Bool
    more = crowded || not (is_last a b now-log)

    saving : is_saving j.task ≡ true
    saving = ap is_saving calls ∙ asked-saves w.call (verdict w.call k) a asks

    module _ (v : Evicts j.number (batch_sent b ns (doing k))) where
      abbrev flush-done : Doing
      flush-done = final k.wanted now-log k.asking k.asks flush refl v

      neither : (x y : Bool) → (x || not y) ≡ false → (x ≡ false) × (y ≡ true)
      neither true y e = absurd (grind (arith, e))
      neither false true e = (refl, refl)
      neither false false e = absurd (grind (arith, e))

      in-saves : InPhase j (done_by j.clerk flush-done rest sc) (Saves b (log.batch b now-log) more)
      in-saves = own-comes j sc p (Saves b (log.batch b now-log) more) q alone tt flush-done rest
          (main-is k.wanted now-log k.asking k.asks flush refl v ∙ (λ i. (j.clerk, msg.Flush (own-session i) (r.inside.epoch i) b (log.batch b now-log)) ∷ [])) (
            noted,
            record {
              slot = sl;
              clerk = flush-done.clerk;
              working = working k.wanted now-log k.asking k.asks flush refl v;
              task = same-task j.task k flush-done.clerk refl refl refl r.task;
              asking = r.asking;
              sending = record { numbers = ns; alone = ap (put b ns) r.batches; next = refl };
              window = (omega (arith, r.window.0), r.window.1);
              grants = r.grants;
              answered = answered k.wanted now-log k.asking k.asks flush refl v k.wanted r.answered;
              aged = aged k.wanted now-log k.asking k.asks flush refl v;
              last = λ z.
                  let f = neither crowded (is_last a b now-log) z in
                  (a, ap (λ u. asked u flush-done.clerk) calls ∙ ap (asked_in w.call) (same-verdict k.wanted now-log k.asking k.asks flush refl v f.0 w.call) ∙ asks, f.1);
            },
            refl,
          )

      fewer : unsent_by j (j.clerk, flush-done.clerk) + length ns ≤ unsent_by j (j.clerk, k)
      fewer = go (j.clerk == j.clerk) (is_saving j.task) saving
        where
          go : (y z : Bool) → z ≡ true → elim (y && not z) as (λ z. ℕ) [ true ↦ 0 | false ↦ unsent now-log ] + length ns ≤ elim (y && not z) as (λ z. ℕ) [ true ↦ 0 | false ↦ unsent k.log ]
          go true true e = goes-out a k.log b ns r.batches pick
          go false true e = goes-out a k.log b ns r.batches pick
          go y false e = absurd (grind (arith, e))

      tighter : length k.cache.held ≤ max_tokens → (64 + if_more more 64) - length ns ≤ 64
      tighter few = elim (full-or-last a k.log b ns r.batches pick) [
        | inl full ↦ omega (arith, full, under-price more 64 64 (omega arith))
        | inr final-one ↦ none-more crowded (is_last a b now-log) (ap not (within (length k.cache.held) max_tokens few)) final-one
      ]
        where
          none-more : (y z : Bool) → y ≡ false → z ≡ true → (64 + if_more (y || not z) 64) - length ns ≤ 64
          none-more true z e f = absurd (grind (arith, e))
          none-more false true e f = omega arith
          none-more false false e f = absurd (grind (arith, f))

      goes-saves : Goes j sc rest k flush-done
      goes-saves = record {
        phase = Saves b (log.batch b now-log) more;
        alone = tt;
        asked = tt;
        comes = in-saves;
        price = (64 + if_more more 64) - length ns;
        gone = length v.gone;
        small = omega (arith, moves flush-done.clerk, counts k.wanted now-log k.asking k.asks flush refl v, fewer, no-price (is_saving j.task) 64);
        count = counts k.wanted now-log k.asking k.asks flush refl v;
        few = v.few;
        most = omega (arith, under-price more 64 64 (omega arith));
        cheap = λ z. subst (λ y. (64 + if_more more 64) - length ns ≤ if_more y 192) (sym saving) (omega (arith, under-price more 64 64 (omega arith)));
        tight = λ few. subst (λ y. (64 + if_more more 64) - length ns ≤ if_more y 64) (sym saving) (tighter few);
      }

  -- The call is answered.

  module _ (c : CacheState) (uses : Uses k.cache c) (l : LogState) (batches : l.batches ≡ k.log.batches) (next-batch : l.next_batch ≡ k.log.next_batch) (extra : ℕ) (at-most : extra ≤ 1) (more-ops : unsent l ≤ unsent k.log + extra) (is : List ℕ)
      (an : Answer) (op : Option ℕ) where
    abbrev pub answering : Doing
    answering = record { clerk = record k { cache = c; log = l; ids = is; waiting = [] }; outs = out.Answer w.no an op ∷ []; spent = None }

    module _ (v : Evicts j.number answering) where
      abbrev pub answer-done : Doing
      answer-done = less_tokens v.cache v.gone answering

      abbrev pub ended : Scene
      ended = done_by j.clerk answer-done rest sc

      leaves : Leaves v.gone k.cache v.cache
      leaves = leaves-on v.gone k.cache c v.cache uses.0 v.leaves

      end-mail : ended.mail ≡ rest ++ ([] ++ back_mail j.clerk j.session sc.server.durable.epoch v.gone)
      end-mail = ap (λ z. rest ++ z) (leaving.sent-backs j.clerk answering v.gone ∙ (λ i. back_mail j.clerk (own-session i) (r.inside.epoch i) v.gone))

      pub in-ends : InPhase j ended Ends
      in-ends = own-comes j sc p Ends q alone tt answer-done rest
          (leaving.main-are j sc rest sl k r answer-done.clerk refl refl refl refl v.gone leaves v.old v.room [] refl ended.mail end-mail main-rest) (
            noted,
            record {
              slot = sl;
              clerk = answer-done.clerk;
              working = leaving.working j sc rest sl k r answer-done.clerk refl refl refl refl v.gone leaves v.old v.room [] refl ended.mail end-mail;
              done = (refl, waits.pushes);
              asking = r.asking;
              batches = batches ∙ r.batches;
              window = (r.window.0 ∙ sym next-batch, r.window.1);
              grants = r.grants;
              answered = leaving.answered j sc rest sl k r answer-done.clerk refl refl refl refl v.gone leaves v.old v.room [] refl ended.mail end-mail k.wanted r.answered;
            },
          )

      one-op : unsent_by j (j.clerk, answer-done.clerk) ≤ unsent_by j (j.clerk, k) + if_more (is_saving j.task) extra
      one-op = go (j.clerk == j.clerk) (eq-eqb j.clerk j.clerk refl) (is_saving j.task)
        where
          go : (y : Bool) → y ≡ true → (z : Bool) → elim (y && not z) as (λ z. ℕ) [ true ↦ 0 | false ↦ unsent l ] ≤ elim (y && not z) as (λ z. ℕ) [ true ↦ 0 | false ↦ unsent k.log ] + if_more z extra
          go true e true = more-ops
          go true e false = omega arith
          go false e z = absurd (grind (arith, e))

      -- it asks for no ids any more
      pub ends-small : measure j ended Ends + asks_later k.waiting k.ids k.asking ≤ base j None sc.server.tokens (put j.clerk k sc.clerks) + if_more (is_saving j.task) extra + 32 * (length (backs j rest) + length v.gone)
      ends-small = omega (arith, moves answer-done.clerk, leaving.back-count j sc rest sl k r answer-done.clerk refl refl refl refl v.gone leaves v.old v.room [] refl ended.mail end-mail, one-op, no-price (is_saving j.task) 64)

      pub goes-ends : Goes j sc rest k answer-done
      goes-ends = record {
        phase = Ends;
        alone = tt;
        asked = tt;
        comes = in-ends;
        price = if_more (is_saving j.task) extra;
        gone = length v.gone;
        small = omega (arith, ends-small);
        count = leaving.back-count j sc rest sl k r answer-done.clerk refl refl refl refl v.gone leaves v.old v.room [] refl ended.mail end-mail;
        few = omega (arith, v.few, uses.1);
        most = under-price (is_saving j.task) extra 576 (omega (arith, at-most));
        cheap = λ z. less-price (is_saving j.task) extra 192 (omega (arith, at-most));
        tight = λ z. less-price (is_saving j.task) extra 64 (omega (arith, at-most));
      }

  ends-by : (o : Outcome) (u : Option Update) → try w (doing k) ≡ answer_with w (answer.Reply o.reply) (issued u k.log) o.touched (updated u (doing k)) → Evicts j.number (left_by (try w (doing k))) → Goes j sc rest k (settle (doing k))
  ends-by o None t v =
      let f = subst (λ z. Evicts j.number (left_by z)) t v in
      subst (Goes j sc rest k) (sym (settled _ t f)) (goes-ends (cache.all_used o.touched k.cache) (all-used-uses o.touched k.cache) k.log refl refl 0 (omega arith) (omega arith) k.ids (answer.Reply o.reply) None f)
  ends-by o (Some u) t v =
      let f = subst (λ z. Evicts j.number (left_by z)) t v in
      let changed : CacheState = cache.change u (operands u) k.cache in
      subst (Goes j sc rest k) (sym (settled _ t f))
      (goes-ends (cache.all_used o.touched changed) (uses-on k.cache changed (cache.all_used o.touched changed) (change-uses u (operands u) k.cache) (all-used-uses o.touched changed)) (log.issue u k.log) refl refl 1 (omega arith) (one-unsent u k.log) (less_id u k.ids) (answer.Reply o.reply) (Some k.log.next) f)

  pub goes : HasCounters k → ((x : ℕ) (h : Hold) → verdict w.call k ≡ Need x h → T (member x j.touched)) → Evicts j.number (left_by (try w (doing k))) → Goes j sc rest k (settle (doing k))
  goes counters touches v = go (comes w (doing k) calm counters waits)
    where
      by : (d : Doing) → try w (doing k) ≡ Waits d → ((f : Evicts j.number d) → Goes j sc rest k (less_tokens f.cache f.gone d)) → Goes j sc rest k (settle (doing k))
      by d t f = let e = subst (λ z. Evicts j.number (left_by z)) t v in subst (Goes j sc rest k) (sym (settled (Waits d) t e)) (f e)

      go : IsWant w (doing k) (try w (doing k)) ⊎ IsRoom w (doing k) (try w (doing k)) ⊎ IsBatch w (doing k) (try w (doing k)) ⊎ IsAnswer w (doing k) (try w (doing k)) → Goes j sc rest k (settle (doing k))
      go (inl (x, h, lacks, below, t)) = by (send_want x h (doing k)) t (goes-want x h (touches x h lacks) below)
      go (inr (inl (xs, lacks, ids, t))) = by (room_asked (doing k)) t (goes-asks ids xs lacks)
      go (inr (inr (inl (a, ns, asks, pick, t)))) = by (batch_sent k.log.next_batch ns (doing k)) t (goes-saves a ns asks pick)
      go (inr (inr (inr (o, done, t)))) = ends-by o o.update t v
