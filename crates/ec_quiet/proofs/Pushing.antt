-- A push of a clerk that runs, where all is idle.
use Rattle.std.proofs.Common.{◌≡◌, refl, sym, ap, ◌∙◌, subst, arith, ◌≤◌, ℕ, Bool, true, false, not, List, [], ◌∷◌, inl, length}
use Rattle.std.specs.Prelude.{Option, None, Some, ◌==◌, is_none, is_some, nat_le}
use Rattle.ec_base.specs.Tables.{at, or_else}
use Rattle.ec_history.specs.History.{Each}
use Rattle.ec_sessions.specs.declared.slot.Slot.{Slot}
use Rattle.ec_cache.specs.declared.state.Held.{Held}
use Rattle.ec_wire.specs.declared.msg.Msg.{Msg}
use Rattle.ec_wire.specs.declared.msg.Msg.TheVariants.{Flush}
use Rattle.ec_log.specs.Log as log
use Rattle.ec_log.specs.declared.state.Asked.TheVariants.{Op}
use Rattle.ec_log.specs.declared.state.LogState.{LogState}
use Rattle.ec_log.specs.declared.state.Pick.TheVariants.{Batch}
use Rattle.ec_protocol.specs.Clerk.{Doing, ask_for, doing, evict, keep_push, push, settle}
use Rattle.ec_protocol.specs.declared.clerk.Clerk.{Clerk}
use Rattle.ec_protocol.specs.declared.clerk.Out.TheVariants as out
use Rattle.ec_protocol.specs.declared.server.Server.{Server}
use Rattle.ec_quiet.specs.Facts.{IsIdleBut, IsIn, Same, is_last}
use Rattle.ec_quiet.specs.Phases.{Ends, HasEnded, InPhase, IsAged, IsSaving, IsWorking, Saves, backs, main}
use Rattle.ec_quiet.specs.Quiet.{IsIdle}
use Rattle.ec_quiet.specs.Scenes.{Scene, done_by}
use Rattle.ec_quiet.specs.Works.{HasTask, Work, asked}
use Rattle.ec_quiet.specs.Tries.{push_tried, without_pushes}
use Rattle.ec_quiet.proofs.Batches.{alone}
use Rattle.ec_quiet.proofs.Beside.{backs-more, main-more, other-at, own-at, still-orderly}
use Rattle.ec_quiet.proofs.Steps.{few-stay, prepared, push-alone, tries-none}
use Rattle.ec_quiet.proofs.Taking.{each-map}
use Rattle.ec_quiet.proofs.Tried.{asks-for, numbers, picks}
use Rattle.ec_quiet.proofs.Once.{found-once}
use Rattle.ec_quiet.specs.First.{HasFirst, IsPush}
use Rattle.ec_base.proofs.Lists.{no-more}

same-slot : (a b : Slot) → ◌≡◌ {A = Option Slot} (Some a) (Some b) → a ≡ b
same-slot a b e = cc

module _ (j : Work) (sc : Scene) (sl : Slot) (k : Clerk) (n : ℕ) (idle : IsIdle sc) (is : IsPush j sc sl k n) where
  abbrev c : ℕ
  c = j.clerk

  abbrev v : Server
  v = sc.server

  own : (t : Slot) × IsIdleBut [] v c t k
  own = idle.clerks c k is.there

  one-slot : own.0 ≡ sl
  one-slot = same-slot own.0 sl (sym own.1.inside.there ∙ is.slot)

  i : IsIdleBut [] v c sl k
  i = subst (λ t. IsIdleBut [] v c t k) one-slot own.1

  same : (x : ℕ) → Same v j.session k x
  same x = subst (λ s. Same v s k x) is.session (i.same x tt)

  -- the clerk with other pushes and another log is in its session as before
  inside : (ns : List ℕ) (l : LogState) → IsIn v c sl (record k { pushes = ns; log = l })
  inside ns l = record {
    there = i.inside.there;
    is_open = i.inside.is_open;
    session = i.inside.session;
    epoch = i.inside.epoch;
    claimed = i.inside.claimed;
    unowed = i.inside.unowed;
    numbers = i.inside.numbers;
    lasts = i.inside.lasts;
    capacity = i.inside.capacity;
    room = i.inside.room;
  }

  -- the step d left only the pushes and the log another, and no token goes back
  module _ (d : Doing) (ns : List ℕ) (l : LogState) (clerk-is : d.clerk ≡ record k { pushes = ns; log = l }) (none : backs j (done_by c d [] sc).mail ≡ []) where
    abbrev m : Clerk
    m = record k { pushes = ns; log = l }

    abbrev then : Scene
    then = done_by c d [] sc

    there : at c then.clerks ≡ Some m
    there = own-at c d.clerk sc.clerks ∙ ap Some clerk-is

    working : IsWorking [] j then sl m
    working = record {
      there = there;
      inside = inside ns l;
      session = is.session;
      recalls = i.free.recalls;
      limits = i.free.limits;
      same = λ x f. inl (same x);
      given_back = subst (Each {A = ℕ × Msg} (λ t. Rattle.ec_quiet.specs.Phases.IsGivenBack j v.durable.epoch m t.1)) (sym none) tt;
    }

    others : (e : ℕ) (q : Clerk) → (e == c) ≡ false → at e then.clerks ≡ Some q → (t : Slot) × IsIdleBut [] v e t q
    others e q f g = idle.clerks e q (sym (other-at c d.clerk sc.clerks e f) ∙ g)

  old-one : (e : ℕ × Held) → at e.0 k.cache.held ≡ Some e.1 → (e.1).number ≤ j.number
  old-one e f = omega (arith, i.inside.numbers e.0 e.1 f, i.inside.lasts e.0, is.number)

  aged : (ns : List ℕ) (l : LogState) → IsAged j (record k { pushes = ns; log = l })
  aged ns l = record {
    olds = k.cache.held;
    news = [];
    whole = sym (no-more k.cache.held);
    old = each-map {A = ℕ × Held} (λ e. at e.0 k.cache.held ≡ Some e.1) (λ e. (e.1).number ≤ j.number) old-one k.cache.held (found-once k.cache.held is.once);
    fresh = tt;
  }

  -- Nothing is left to do.

  abbrev quiet : Clerk
  quiet = record k { pushes = [] }

  abbrev ended : Scene
  ended = done_by c (doing quiet) [] sc

  has-ended : HasEnded j ended
  has-ended = record {
    slot = sl;
    clerk = quiet;
    working = working (doing quiet) [] k.log refl refl;
    done = (i.waiting, refl);
    asking = i.asking;
    batches = i.free.batches;
    window = i.window;
    grants = i.grants;
    answered = i.answered;
  }

  ends : HasFirst j ended
  ends = record {
    phase = Ends;
    first = tt;
    comes = record {
      clerk = is.clerk;
      number = omega (arith, is.number);
      main_is = refl;
      orderly = still-orderly c quiet sc.clerks v idle.orderly;
      others = λ e q f b g. others (doing quiet) [] k.log refl refl e q f g;
      facts = (idle.wants, has-ended);
    };
    none_back = refl;
  }

  few : length k.cache.held ≤ k.cache.capacity
  few = omega (arith, i.inside.room, i.inside.capacity)

  -- A batch goes out.

  module _ (first-one : ℕ) (first : log.first (Op n) k.log ≡ Some first-one) where
    abbrev e : ℕ
    e = v.durable.epoch

    abbrev next : ℕ
    next = k.log.next_batch

    abbrev d0 : Doing
    d0 = doing (record k { pushes = n ∷ [] })

    abbrev ns : List ℕ
    ns = numbers d0 i.free.batches is.batches (Op n) first-one first

    picked : log.pick (Op n) k.log ≡ Batch next ns
    picked = picks d0 i.free.batches is.batches (Op n) first-one first

    abbrev sent-log : LogState
    sent-log = log.after_pick (Batch next ns) k.log

    abbrev further : Bool
    further = not (is_last (Op n) next sent-log)

    abbrev flushing : Clerk
    flushing = record k { pushes = n ∷ []; log = sent-log }

    abbrev flush : Msg
    flush = Flush j.session e next (log.batch next sent-log)

    abbrev flush-done : Doing
    flush-done = record { clerk = flushing; outs = out.Send flush ∷ []; spent = None }

    own-session : or_else 0 k.session ≡ j.session
    own-session = ap (or_else 0) i.inside.session ∙ is.session

    asks : ask_for (Op n) d0 ≡ flush-done
    asks = asks-for d0 i.free.batches is.batches (Op n) first-one first
        ∙ (λ z. record { clerk = flushing; outs = out.Send (Flush (own-session z) (i.inside.epoch z) next (log.batch next sent-log)) ∷ []; spent = None })

    abbrev flushed : Scene
    flushed = done_by c flush-done [] sc

    none-back : backs j flushed.mail ≡ []
    none-back = backs-more j c flush refl []

    turned : (z : Bool) → not z ≡ false → z ≡ true
    turned true z = refl
    turned false z = absurd (grind (arith, z))

    saving : IsSaving 1 j flushed next further
    saving = record {
      slot = sl;
      clerk = flushing;
      working = working flush-done (n ∷ []) sent-log refl none-back;
      task = subst (λ t. HasTask t flushing) (sym is.task) (i.waiting, refl);
      asking = i.asking;
      sending = record { numbers = ns; alone = alone (Op n) k.log next ns i.free.batches picked; next = refl };
      window = (omega (arith, i.window.0), i.window.1);
      grants = i.grants;
      answered = i.answered;
      aged = aged (n ∷ []) sent-log;
      last = λ z. (Op n, ap (λ t. asked t flushing) is.task, turned (is_last (Op n) next sent-log) z);
    }

    saves : HasFirst j flushed
    unfolding saving
    saves = record {
      phase = Saves next (log.batch next sent-log) further;
      first = tt;
      comes = record {
        clerk = is.clerk;
        number = omega (arith, is.number);
        main_is = main-more j c flush refl [];
        orderly = still-orderly c flushing sc.clerks v idle.orderly;
        others = λ y q f b g. others flush-done (n ∷ []) sent-log refl none-back y q f g;
        facts = (idle.wants, saving, refl);
      };
      none_back = none-back;
    }

  -- The step.

  abbrev Begins : Doing → Type 0
  Begins d = HasFirst j (done_by c d [] sc) × (d.spent ≡ None)

  abbrev kept : Doing
  kept = keep_push n (doing k)

  pushes-are : kept ≡ doing (record k { pushes = n ∷ [] })
  pushes-are = ap (λ ms. doing (record k { pushes = Rattle.std.specs.Prelude.◌++◌ ms (n ∷ []) })) i.pushes

  no-pushes : doing quiet ≡ doing k
  no-pushes = ap (λ ms. doing (record k { pushes = ms })) (sym i.pushes)

  kept-begins : Begins (settle (doing (record k { pushes = n ∷ [] })))
  kept-begins = subst Begins (sym (push-alone (doing (record k { pushes = n ∷ [] })) (ap is_some i.inside.session) i.waiting n i.free.recalls refl)) (go (log.first (Op n) k.log) refl)
    where
      go : (o : Option ℕ) → log.first (Op n) k.log ≡ o → Begins (evict (push_tried n (without_pushes (doing (record k { pushes = n ∷ [] })))))
      go None f = subst Begins (sym (ap (λ o. evict (elim (is_none o) as (λ z. Doing) [ true ↦ doing quiet | false ↦ ask_for (Op n) (keep_push n (doing quiet)) ])) f ∙ few-stay (doing quiet) few)) (ends, refl)
      go (Some m) f = subst Begins (sym (ap (λ o. evict (elim (is_none o) as (λ z. Doing) [ true ↦ doing quiet | false ↦ ask_for (Op n) (keep_push n (doing quiet)) ])) f ∙ ap evict (asks m f) ∙ few-stay (flush-done m f) few)) (saves m f, refl)

  idles : Begins (settle (doing k))
  idles = subst Begins (sym (prepared (doing k) i.free.recalls i.pushes ∙ ap evict (tries-none (doing k) i.waiting) ∙ few-stay (doing k) few ∙ sym no-pushes)) (ends, refl)

  begins-first : Begins (push n k)
  begins-first = go (nat_le k.log.first n)
    where
      go : (b : Bool) → Begins (settle (elim b as (λ z. Doing) [ true ↦ kept | false ↦ doing k ]))
      go true = subst (λ d. Begins (settle d)) (sym pushes-are) kept-begins
      go false = idles

  pub begins : HasFirst j (done_by c (push n k) sc.mail sc) × ((push n k).spent ≡ None)
  begins = (subst (λ ms. HasFirst j (done_by c (push n k) ms sc)) (sym idle.mail) begins-first.0, begins-first.1)
