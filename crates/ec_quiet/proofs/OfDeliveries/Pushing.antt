-- A batch of an operation that's pushed is durable.
use Rattle.std.proofs.Common.{◌≡◌, refl, sym, ap, ◌∙◌, subst, arith, ◌≤◌, ◌+◌, ℕ, Bool, true, false, not, ◌&&◌, List, [], ◌∷◌, inl, inr, length}
use Rattle.std.specs.Prelude.{Option, None, Some, ◌==◌, is_none, is_some}
use Rattle.ec_base.specs.Tables.{or_else}
use Rattle.ec_wire.specs.declared.msg.Msg.{Msg}
use Rattle.ec_wire.specs.declared.msg.Msg.TheVariants.{Flush, Kept}
use Rattle.ec_log.specs.Log as log
use Rattle.ec_log.specs.declared.state.Asked.{Asked}
use Rattle.ec_log.specs.declared.state.Asked.TheVariants.{Op}
use Rattle.ec_log.specs.declared.state.LogState.{LogState}
use Rattle.ec_log.specs.declared.state.Pick.TheVariants.{Batch}
use Rattle.ec_protocol.specs.Clerk.{Doing, ask_for, doing, evict, is_settled, keep_push, settle}
use Rattle.ec_protocol.specs.declared.clerk.Clerk.{Clerk}
use Rattle.ec_protocol.specs.declared.clerk.Out.TheVariants as out
use Rattle.ec_quiet.specs.Facts.{is_last}
use Rattle.ec_quiet.specs.Measure.{asks_later, if_more, measure, unsent, unsent_by}
use Rattle.ec_quiet.specs.Phases.{Ends, InPhase, IsSaving, Saved, Saves, backs}
use Rattle.ec_quiet.specs.Scenes.{Mail, Scene, delivered, done_by}
use Rattle.ec_quiet.specs.Works.{HasTask, Pushes, Work, asked, is_saving}
use Rattle.ec_quiet.specs.Goes.{GoesOn}
use Rattle.ec_quiet.specs.Tries.{push_tried, without_pushes}
use Rattle.ec_quiet.proofs.Batches.{alone, full-or-last, goes-out}
use Rattle.ec_quiet.proofs.Beside.{backs-more, main-more, own-comes, own-measure}
use Rattle.ec_quiet.proofs.Leaving as leaving
use Rattle.ec_quiet.proofs.Steps.{few-stay, push-alone}
use Rattle.ec_quiet.proofs.Taking.{same-task}
use Rattle.ec_quiet.proofs.Tried.{asks-for, numbers, picks}
use Rattle.ec_quiet.proofs.Used.{same-leaves}
use Rattle.ec_quiet.proofs.OfDeliveries.Saving as saving
use Rattle.ec_quiet.proofs.OfDeliveries.Saving.{kept-unsent, none-first}

module _ (j : Work) (sc : Scene) (b : ℕ) (more : Bool) (rest : Mail) (q : InPhase j sc (Saved b more)) (head : sc.mail ≡ (j.clerk, Kept j.session sc.server.durable.epoch b) ∷ rest) (n : ℕ) (pushes : j.task ≡ Pushes n) where
  abbrev s : IsSaving 0 j sc b more
  s = q.facts.1

  abbrev k : Clerk
  k = s.clerk

  abbrev now : Clerk
  now = saving.now j sc b more rest q head

  abbrev e : ℕ
  e = sc.server.durable.epoch

  task : HasTask (Pushes n) k
  task = subst (λ t. HasTask t k) pushes s.task

  abbrev d0 : Doing
  d0 = without_pushes (doing now)

  steps : settle (doing now) ≡ evict (push_tried n d0)
  steps = push-alone (doing now) (ap is_some s.working.inside.session) task.0 n s.working.recalls task.1

  never-asks : asks_later k.waiting k.ids k.asking ≡ 0
  never-asks = ap (λ ws. asks_later ws k.ids k.asking) task.0

  saves : is_saving j.task ≡ true
  saves = ap is_saving pushes

  -- what the clerk's operations add, where its log has at most so many
  counted : (l : LogState) (i : ℕ) → unsent l + i ≤ unsent k.log → unsent_by j (j.clerk, record now { log = l }) + i ≤ unsent_by j (j.clerk, k)
  counted l i f = go (j.clerk == j.clerk) (is_saving j.task) saves
    where
      go : (y z : Bool) → z ≡ true → elim (y && not z) as (λ z. ℕ) [ true ↦ 0 | false ↦ unsent l ] + i ≤ elim (y && not z) as (λ z. ℕ) [ true ↦ 0 | false ↦ unsent k.log ]
      go true true p = f
      go false true p = f
      go y false p = absurd (grind (arith, p))

  kept-same : unsent now.log ≡ unsent k.log
  kept-same = kept-unsent k.log b s.sending.numbers s.sending.alone

  no-price : (z : Bool) → if_more (z && false) 64 ≡ 0
  no-price true = refl
  no-price false = refl

  -- It's durable.

  abbrev pushed : Clerk
  pushed = record now { pushes = [] }

  abbrev ended : Scene
  ended = done_by j.clerk d0 rest sc

  in-ends : InPhase j ended Ends
  in-ends = own-comes j sc (Saved b more) Ends q tt tt d0 rest
      (leaving.main-are j sc rest s.slot now (saving.ready j sc b more rest q head) pushed refl refl refl refl [] (same-leaves k.cache) tt s.working.inside.room [] refl ended.mail refl (saving.main-rest j sc b more rest q head)) (
        q.facts.0,
        record {
          slot = s.slot;
          clerk = pushed;
          working = leaving.working j sc rest s.slot now (saving.ready j sc b more rest q head) pushed refl refl refl refl [] (same-leaves k.cache) tt s.working.inside.room [] refl ended.mail refl;
          done = (task.0, refl);
          asking = s.asking;
          batches = (saving.ready j sc b more rest q head).batches;
          window = s.window;
          grants = s.grants;
          answered = s.answered;
        },
      )

  falls-end : measure j ended Ends + 32 ≤ measure j sc (Saved b more)
  falls-end = omega (
    arith,
    own-measure j None sc.server.tokens sc.clerks k pushed q.orderly.rising s.working.there,
    counted now.log 0 (omega (arith, kept-same)),
    never-asks,
    leaving.back-count j sc rest s.slot now (saving.ready j sc b more rest q head) pushed refl refl refl refl [] (same-leaves k.cache) tt s.working.inside.room [] refl ended.mail refl,
    saving.same-backs j sc b more rest q head,
    no-price (is_saving j.task),
  )

  -- A further batch goes out.

  module _ (m : ℕ) (first : log.first (Op n) now.log ≡ Some m) (unspent : log.batches_are_spent k.log ≡ false) where
    abbrev next : ℕ
    next = k.log.next_batch

    abbrev ns : List ℕ
    ns = numbers (keep_push n d0) (saving.ready j sc b more rest q head).batches unspent (Op n) m first

    picked : log.pick (Op n) now.log ≡ Batch next ns
    picked = picks (keep_push n d0) (saving.ready j sc b more rest q head).batches unspent (Op n) m first

    abbrev sent-log : LogState
    sent-log = log.after_pick (Batch next ns) now.log

    abbrev further : Bool
    further = not (is_last (Op n) next sent-log)

    abbrev flushing : Clerk
    flushing = record now { pushes = n ∷ []; log = sent-log }

    abbrev flush : Msg
    flush = Flush j.session e next (log.batch next sent-log)

    abbrev flush-done : Doing
    flush-done = record { clerk = flushing; outs = out.Send flush ∷ []; spent = None }

    own-session : or_else 0 k.session ≡ j.session
    own-session = ap (or_else 0) s.working.inside.session ∙ s.working.session

    flushes : is_settled (Op n) d0.clerk ≡ false → settle (doing now) ≡ flush-done
    flushes f = steps ∙ ap evict (
        ap (λ z. elim z as (λ z. Doing) [ true ↦ d0 | false ↦ ask_for (Op n) (keep_push n d0) ]) f ∙ asks-for (keep_push n d0) (saving.ready j sc b more rest q head).batches unspent (Op n) m first
        ∙ (λ z. record { clerk = flushing; outs = out.Send (Flush (own-session z) (s.working.inside.epoch z) next (log.batch next sent-log)) ∷ []; spent = None })
        ) ∙ few-stay flush-done (omega (arith, s.working.inside.room, s.working.inside.capacity))

    abbrev one : Mail
    one = (j.clerk, flush) ∷ []

    none-back : backs j one ≡ []
    none-back = backs-more j j.clerk flush refl []

    abbrev flushed : Scene
    flushed = done_by j.clerk flush-done rest sc

    -- some operation of it was to follow
    was-more : more ≡ true
    was-more = go more refl
      where
        some-same : (x y : Asked) → ◌≡◌ {A = Option Asked} (Some x) (Some y) → x ≡ y
        some-same x y p = cc

        go : (z : Bool) → more ≡ z → z ≡ true
        go true p = refl
        go false p =
            let l = s.last p in
            let own : Op n ≡ l.0 = some-same (Op n) l.0 (ap (λ t. asked t k) (sym pushes) ∙ l.1) in
            let bad : None ≡ Some m = sym (ap (λ a. log.first a now.log) own ∙ none-first (log.first l.0 (log.kept b k.log)) l.2) ∙ first in
            absurd (grind (arith, bad))

    turned : (z : Bool) → not z ≡ false → z ≡ true
    turned true z = refl
    turned false z = absurd (grind (arith, z))

    in-saves : InPhase j flushed (Saves next (log.batch next sent-log) further)
    in-saves = own-comes j sc (Saved b more) (Saves next (log.batch next sent-log) further) q tt tt flush-done rest
        (leaving.main-are j sc rest s.slot now (saving.ready j sc b more rest q head) flushing refl refl refl refl [] (same-leaves k.cache) tt s.working.inside.room one none-back flushed.mail refl (saving.main-rest j sc b more rest q head) ∙ main-more j j.clerk flush refl []) (
          q.facts.0,
          record {
            slot = s.slot;
            clerk = flushing;
            working = leaving.working j sc rest s.slot now (saving.ready j sc b more rest q head) flushing refl refl refl refl [] (same-leaves k.cache) tt s.working.inside.room one none-back flushed.mail refl;
            task = same-task j.task k flushing refl (sym task.1) refl s.task;
            asking = s.asking;
            sending = record { numbers = ns; alone = alone (Op n) now.log next ns (saving.ready j sc b more rest q head).batches picked; next = refl };
            window = (omega (arith, s.window.0), s.window.1);
            grants = s.grants;
            answered = s.answered;
            aged = let a = s.aged in record { olds = a.olds; news = a.news; whole = a.whole; old = a.old; fresh = a.fresh };
            last = λ z. (Op n, ap (λ t. asked t flushing) pushes, turned (is_last (Op n) next sent-log) z);
          },
          refl,
        )

    enough : if_more further 64 ≤ length ns
    enough = elim (full-or-last (Op n) now.log next ns (saving.ready j sc b more rest q head).batches picked) [
      | inl full ↦ omega (arith, full, at-most further)
      | inr last-one ↦ subst (λ z. if_more (not z) 64 ≤ length ns) (sym last-one) (omega arith)
    ]
      where
        at-most : (z : Bool) → if_more z 64 ≤ 64
        at-most true = omega arith
        at-most false = omega arith

    falls-flush : measure j flushed (Saves next (log.batch next sent-log) further) + 32 ≤ measure j sc (Saved b more)
    falls-flush = omega (
      arith,
      own-measure j None sc.server.tokens sc.clerks k flushing q.orderly.rising s.working.there,
      counted sent-log (length ns) (omega (arith, kept-same, goes-out (Op n) now.log next ns (saving.ready j sc b more rest q head).batches picked)),
      never-asks,
      leaving.back-count j sc rest s.slot now (saving.ready j sc b more rest q head) flushing refl refl refl refl [] (same-leaves k.cache) tt s.working.inside.room one none-back flushed.mail refl,
      saving.same-backs j sc b more rest q head,
      no-price (is_saving j.task),
      enough,
      ap (λ z. if_more z 64) was-more,
    )

  pub pushed-goes-on : log.batches_are_spent k.log ≡ false → GoesOn j sc (Saved b more) (delivered j.clerk (Kept j.session e b) rest sc)
  pushed-goes-on unspent = subst (GoesOn j sc (Saved b more)) (sym (saving.arrives j sc b more rest q head)) (go (log.first (Op n) now.log) refl)
    where
      go : (o : Option ℕ) → log.first (Op n) now.log ≡ o → GoesOn j sc (Saved b more) (done_by j.clerk (settle (doing now)) rest sc)
      go None f = subst (λ d. GoesOn j sc (Saved b more) (done_by j.clerk d rest sc))
          (sym (steps ∙ ap evict (ap (λ o. elim (is_none o) as (λ z. Doing) [ true ↦ d0 | false ↦ ask_for (Op n) (keep_push n d0) ]) f) ∙ few-stay d0 (omega (arith, s.working.inside.room, s.working.inside.capacity)))) (Ends, in-ends, falls-end)
      go (Some m) f = subst (λ d. GoesOn j sc (Saved b more) (done_by j.clerk d rest sc)) (sym (flushes m f unspent (ap is_none f))) (Saves k.log.next_batch (log.batch k.log.next_batch (sent-log m f unspent)) (further m f unspent), in-saves m f unspent, falls-flush m f unspent)
