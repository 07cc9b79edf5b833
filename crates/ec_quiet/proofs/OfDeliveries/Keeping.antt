-- A holder's batch is durable: it gives its token back, or makes a further batch durable first.
use Rattle.std.proofs.Common.{◌≡◌, refl, sym, ap, ◌∙◌, subst, arith, ◌≤◌, ◌+◌, ℕ, Bool, true, false, not, ◌&&◌, ◌||◌, List, [], ◌∷◌, ◌++◌, length}
use Rattle.std.specs.Prelude.{Option, None, Some, ◌==◌}
use Rattle.std.proofs.lemmas.Bool.{eq-eqb, eqb-true}
use Rattle.ec_base.specs.Tables.{at}
use Rattle.ec_base.specs.declared.ids.Hold.{Hold}
use Rattle.ec_sessions.specs.declared.slot.Slot.{Slot}
use Rattle.ec_sessions.specs.OfTokens.Tokens.{Holder}
use Rattle.ec_sessions.specs.OfRecall.Due.{recall_to}
use Rattle.ec_wire.specs.declared.msg.Msg.{Msg}
use Rattle.ec_wire.specs.declared.msg.Msg.TheVariants.{Back, Flush, Kept}
use Rattle.ec_log.specs.Log as log
use Rattle.ec_log.specs.declared.state.Asked.TheVariants.{Object}
use Rattle.ec_protocol.specs.Clerk.{Doing, doing, is_ready, settle}
use Rattle.ec_protocol.specs.declared.clerk.Clerk.{Clerk}
use Rattle.ec_protocol.specs.declared.server.Server.{Server}
use Rattle.ec_quiet.specs.Facts.{IsIdleBut, session_clerk, is_last}
use Rattle.ec_quiet.specs.Measure.{if_more, measure, unsent, unsent_by}
use Rattle.ec_quiet.specs.Phases.{Flushes, InPhase, IsNoted, IsRecalled, Keeps, Phase, Recalls, back_of, excepted, is_busy, main}
use Rattle.ec_quiet.specs.Scenes.{Mail, Scene, delivered, done_by, taken_by}
use Rattle.ec_quiet.specs.Works.{Work, is_saving}
use Rattle.ec_quiet.specs.Goes.{GoesOn}
use Rattle.ec_quiet.proofs.Batches.{alone}
use Rattle.ec_quiet.proofs.Begun.{keeps}
use Rattle.ec_quiet.proofs.Beside.{other-at, other-measure, own-at, still-orderly}
use Rattle.ec_quiet.specs.OfDeliveries.Deliveries.{having_kept}
use Rattle.ec_quiet.proofs.OfDeliveries.Calling as calling
use Rattle.ec_quiet.proofs.OfDeliveries.Calling.{IsCalled}
use Rattle.ec_quiet.proofs.OfDeliveries.Holding.{IsConflict}
use Rattle.ec_quiet.proofs.OfDeliveries.Recalling as recalling
use Rattle.ec_quiet.proofs.OfDeliveries.Saving.{kept-unsent, none-first, none-left}
use Rattle.ec_quiet.proofs.OfDeliveries.Standing as standing

module _ (j : Work) (sc : Scene) (x : ℕ) (h : Hold) (r : Holder) (b : ℕ) (more : Bool) (rest : Mail) (q : InPhase j sc (Keeps x h r b more)) (head : sc.mail ≡ (session_clerk sc.server r.0, Kept r.0 sc.server.durable.epoch b) ∷ rest) where
  abbrev v : Server
  v = sc.server

  abbrev e : ℕ
  e = v.durable.epoch

  abbrev cl : ℕ
  cl = session_clerk v r.0

  abbrev noted : IsNoted j sc x h (r ∷ [])
  noted = q.facts.0

  abbrev s : IsRecalled 0 sc x h r b more
  s = q.facts.1

  abbrev k : Clerk
  k = s.clerk

  abbrev m : Clerk
  m = having_kept b k

  cf : IsConflict v.tokens j.session x h r []
  cf = recalling.conf j sc x h r [] [] q.orderly noted

  other : (cl == j.clerk) ≡ false
  other = recalling.another j sc x h r [] [] q.orderly noted

  is-called : IsCalled v cl s.slot m r x h
  is-called = record {
    inside = record {
      there = s.inside.there;
      is_open = s.inside.is_open;
      session = s.inside.session;
      epoch = s.inside.epoch;
      claimed = s.inside.claimed;
      unowed = s.inside.unowed;
      numbers = s.inside.numbers;
      lasts = s.inside.lasts;
      capacity = s.inside.capacity;
      room = s.inside.room;
    };
    own = s.session;
    waiting = s.waiting;
    pushes = s.pushes;
    asking = s.asking;
    recalls = s.recalls;
    limits = s.limits;
    batches = none-left k.log b s.sending.numbers s.sending.alone;
    window = s.window;
    grants = s.grants;
    answered = s.answered;
    same = s.same;
    recorded = cf.token_is;
    clashes = cf.clashes;
  }

  abbrev message : Msg
  message = Kept r.0 e b

  arrives : (d : Doing) → settle (doing m) ≡ d → delivered cl message rest sc ≡ done_by cl d rest sc
  arrives d f = ap (λ o. taken_by cl message rest o sc) s.there
      ∙ ap (λ g. done_by cl (settle g) rest sc) (keeps r.0 e k (s.inside.session ∙ ap Some s.session, s.inside.epoch) b e) ∙ ap (λ g. done_by cl g rest sc) f

  main-rest : main j rest ≡ []
  main-rest = standing.main-rest j sc cl other message refl rest head k message [] q.main_is

  turned : (y z : ℕ) → (y == z) ≡ false → (z == y) ≡ false
  turned y z p = grind (arith, p)

  kept-same : unsent m.log ≡ unsent k.log
  kept-same = kept-unsent k.log b s.sending.numbers s.sending.alone

  -- what the clerk's operations add, where its log has at most so many
  part : (a : Clerk) (n : ℕ) → unsent a.log + n ≤ unsent k.log → unsent_by j (cl, a) + n ≤ unsent_by j (cl, k)
  part a n l = go (cl == j.clerk) other
    where
      go : (z : Bool) → z ≡ false → elim (z && not (is_saving j.task)) as (λ z. ℕ) [ true ↦ 0 | false ↦ unsent a.log ] + n ≤ elim (z && not (is_saving j.task)) as (λ z. ℕ) [ true ↦ 0 | false ↦ unsent k.log ]
      go true p = absurd (grind (arith, p))
      go false p = l

  -- It gives back.

  abbrev given : Clerk
  given = calling.given v cl s.slot m r x h is-called

  abbrev gave : Scene
  gave = standing.now j sc cl other message refl rest head given (Back r.0 e x r.2 (recall_to h))

  abbrev after : Phase
  after = Recalls x h [] (r ∷ [])

  others-then : (d : ℕ) (a : Clerk) → (d == j.clerk) ≡ false → is_busy gave after d ≡ false → at d gave.clerks ≡ Some a → (t : Slot) × IsIdleBut (excepted gave after d) v d t a
  others-then d a n y f = go (d == cl) refl
    where
      some-same : (y z : Clerk) → ◌≡◌ {A = Option Clerk} (Some y) (Some z) → y ≡ z
      some-same y z p = cc

      marks : (z : Bool) → (cl == d) ≡ z → excepted gave after d ≡ elim (z || false) as (λ z. List ℕ) [ true ↦ x ∷ [] | false ↦ [] ]
      marks z p = ap (λ w. elim (w || false) as (λ z. List ℕ) [ true ↦ x ∷ [] | false ↦ [] ]) p

      go : (z : Bool) → (d == cl) ≡ z → (t : Slot) × IsIdleBut (excepted gave after d) v d t a
      go true p =
          let d-is : d ≡ cl = eqb-true d cl p in
          let a-is : given ≡ a = some-same given a (sym (own-at cl given sc.clerks) ∙ ap (λ z. at z gave.clerks) (sym d-is) ∙ f) in (
            s.slot,
            subst (λ xs. IsIdleBut xs v d s.slot a) (sym (marks true (eq-eqb cl d (sym d-is))))
                (subst (λ z. IsIdleBut (x ∷ []) v z s.slot a) (sym d-is) (subst (IsIdleBut (x ∷ []) v cl s.slot) a-is (calling.idle-but v cl s.slot m r x h is-called))),
          )
      go false p =
          let old = q.others d a n (turned d cl p) (sym (other-at cl given sc.clerks d p) ∙ f) in
          (old.0, subst (λ xs. IsIdleBut xs v d old.0 a) (sym (marks false (turned d cl p))) old.1)

  in-recalls : InPhase j gave after
  in-recalls = record {
    clerk = q.clerk;
    number = q.number;
    main_is = standing.main-now j sc cl other message refl rest head given (Back r.0 e x r.2 (recall_to h)) ∙ ap (λ l. l ++ back_of sc x h r ∷ []) main-rest;
    orderly = still-orderly cl given sc.clerks v q.orderly;
    others = others-then;
    facts = (
      standing.noted-stays j sc cl other message refl rest head given (Back r.0 e x r.2 (recall_to h)) x h (r ∷ []) (r ∷ []) refl noted,
      ((given, own-at cl given sc.clerks, calling.left-over v cl s.slot m r x h is-called, calling.number-known v cl s.slot m r x h is-called), tt),
    );
  }

  falls-back : measure j gave after + 32 ≤ measure j sc (Keeps x h r b more)
  falls-back = omega (
    arith,
    other-measure j (Some (x, h)) v.tokens sc.clerks cl k given other q.orderly.rising s.there,
    part given 0 (omega (arith, kept-same)),
    ap length (standing.backs-same j sc cl other message refl rest head given (Back r.0 e x r.2 (recall_to h))),
  )

  -- A further batch goes out.

  module _ (f : is_ready (record { obj = x; number = r.2; to = recall_to h }) (record m { recalls = [] }) ≡ false) (unspent : log.batches_are_spent k.log ≡ false) where
    abbrev flushing : Clerk
    flushing = calling.calling v cl s.slot m r x h is-called f unspent

    abbrev next : ℕ
    next = k.log.next_batch

    abbrev further : Bool
    further = calling.more v cl s.slot m r x h is-called f unspent

    abbrev flush : Msg
    flush = Flush r.0 e next (log.batch next flushing.log)

    abbrev flushed : Scene
    flushed = standing.now j sc cl other message refl rest head flushing flush

    abbrev then : Phase
    then = Flushes x h r next (log.batch next flushing.log) further

    -- some operation of it was to follow
    was-more : more ≡ true
    was-more = go more refl
      where
        go : (z : Bool) → more ≡ z → z ≡ true
        go true p = refl
        go false p =
            let l = calling.not-ready v cl s.slot m r x h is-called f in
            let bad : None ≡ Some l.1 = sym (none-first (log.first (Object x) (log.kept b k.log)) (s.last p)) ∙ l.2 in
            absurd (grind (arith, bad))

    others-flush : (d : ℕ) (a : Clerk) → (d == j.clerk) ≡ false → is_busy flushed then d ≡ false → at d flushed.clerks ≡ Some a → (t : Slot) × IsIdleBut [] v d t a
    others-flush d a n y t = q.others d a n y (sym (other-at cl flushing sc.clerks d (turned cl d y)) ∙ t)

    flipped : (z : Bool) → not z ≡ false → z ≡ true
    flipped true z = refl
    flipped false z = absurd (grind (arith, z))

    in-flushes : InPhase j flushed then
    in-flushes = record {
      clerk = q.clerk;
      number = q.number;
      main_is = standing.main-now j sc cl other message refl rest head flushing flush ∙ ap (λ l. l ++ (cl, flush) ∷ []) main-rest;
      orderly = still-orderly cl flushing sc.clerks v q.orderly;
      others = others-flush;
      facts = (
        standing.noted-stays j sc cl other message refl rest head flushing flush x h (r ∷ []) (r ∷ []) refl noted,
        record {
          slot = s.slot;
          clerk = flushing;
          there = own-at cl flushing sc.clerks;
          inside = record {
            there = s.inside.there;
            is_open = s.inside.is_open;
            session = s.inside.session;
            epoch = s.inside.epoch;
            claimed = s.inside.claimed;
            unowed = s.inside.unowed;
            numbers = s.inside.numbers;
            lasts = s.inside.lasts;
            capacity = s.inside.capacity;
            room = s.inside.room;
          };
          session = s.session;
          waiting = s.waiting;
          pushes = s.pushes;
          asking = s.asking;
          recalls = refl;
          limits = s.limits;
          sending = record {
            numbers = calling.ns v cl s.slot m r x h is-called f unspent;
            alone = alone (Object x) m.log next (calling.ns v cl s.slot m r x h is-called f unspent) is-called.batches (calling.picked v cl s.slot m r x h is-called f unspent);
            next = refl;
          };
          window = (omega (arith, s.window.0), s.window.1);
          grants = s.grants;
          answered = s.answered;
          same = s.same;
          writes = s.writes;
          last = λ z. flipped (is_last (Object x) next flushing.log) z;
        },
        refl,
      );
    }

    falls-flush : measure j flushed then + 32 ≤ measure j sc (Keeps x h r b more)
    falls-flush = omega (
      arith,
      other-measure j (Some (x, h)) v.tokens sc.clerks cl k flushing other q.orderly.rising s.there,
      part flushing (length (calling.ns v cl s.slot m r x h is-called f unspent)) (omega (arith, kept-same, calling.sends v cl s.slot m r x h is-called f unspent)),
      calling.enough v cl s.slot m r x h is-called f unspent,
      ap (λ z. if_more z 64) was-more,
      ap length (standing.backs-same j sc cl other message refl rest head flushing flush),
    )

  pub keeps-go-on : log.batches_are_spent k.log ≡ false → GoesOn j sc (Keeps x h r b more) (delivered cl message rest sc)
  keeps-go-on unspent = go (is_ready (record { obj = x; number = r.2; to = recall_to h }) (record m { recalls = [] })) refl
    where
      go : (z : Bool) → is_ready (record { obj = x; number = r.2; to = recall_to h }) (record m { recalls = [] }) ≡ z → GoesOn j sc (Keeps x h r b more) (delivered cl message rest sc)
      go true f = subst (GoesOn j sc (Keeps x h r b more)) (sym (arrives (calling.back_done v cl s.slot m r x h is-called) (calling.gives-back v cl s.slot m r x h is-called f))) (after, in-recalls, falls-back)
      go false f = subst (GoesOn j sc (Keeps x h r b more)) (sym (arrives (calling.flush_done v cl s.slot m r x h is-called f unspent) (calling.flushes v cl s.slot m r x h is-called f unspent)))
          (then f unspent, in-flushes f unspent, falls-flush f unspent)
