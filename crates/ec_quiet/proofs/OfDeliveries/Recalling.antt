-- A recall comes to a holder: it gives its token back, or makes a batch durable first.
use Rattle.std.proofs.Common.{◌≡◌, refl, sym, ap, ◌∙◌, subst, arith, ◌≤◌, ◌+◌, ℕ, T, Bool, true, false, not, ◌&&◌, ◌||◌, List, [], ◌∷◌, ◌++◌, inl, inr, length, length-append, map}
use Rattle.std.specs.Prelude.{Option, None, Some, ◌==◌, is_some}
use Rattle.std.specs.List.{list_any}
use Rattle.std.proofs.lemmas.Bool.{eq-eqb, eqb-true}
use Rattle.ec_base.specs.Tables.{at, at_or, put}
use Rattle.ec_base.specs.Holds.{clash, weaker}
use Rattle.ec_base.specs.declared.ids.Hold.{Hold}
use Rattle.ec_base.specs.declared.ids.Hold.TheVariants.{Free, Read, Write}
use Rattle.ec_history.specs.History.{Each}
use Rattle.ec_sessions.specs.declared.slot.Slot.{Slot}
use Rattle.ec_sessions.specs.OfTokens.Tokens.{Holder, conflicts, token}
use Rattle.ec_sessions.specs.OfTokens.SoundTokens.{IsSound}
use Rattle.ec_sessions.specs.OfRecall.Due.{recall_to}
use Rattle.ec_wire.specs.declared.msg.Msg.{Msg}
use Rattle.ec_wire.specs.declared.msg.Msg.TheVariants.{Back, Flush, Recall}
use Rattle.ec_durable.specs.Durable.{slot}
use Rattle.ec_cache.specs.Cache as cache
use Rattle.ec_cache.specs.Cache.{last}
use Rattle.ec_cache.specs.declared.state.CacheState.{CacheState}
use Rattle.ec_cache.specs.declared.state.Held.{Held}
use Rattle.ec_log.specs.Log as log
use Rattle.ec_protocol.specs.Clerk.{Doing, doing, is_ready, mark_recall, settle, taken}
use Rattle.ec_protocol.specs.declared.clerk.Clerk.{Clerk}
use Rattle.ec_protocol.specs.declared.server.Server.{Server}
use Rattle.ec_quiet.specs.Facts.{IsIdleBut, IsIn, session_clerk as clerk_of, token_of}
use Rattle.ec_quiet.specs.Measure.{measure, unsent, unsent_by}
use Rattle.ec_quiet.specs.Phases.{Flushes, HasGivenBack, InPhase, IsNoted, Phase, Recalls, back_of, excepted, is_busy, main, recall_of}
use Rattle.ec_quiet.specs.Scenes.{Mail, Scene, delivered, done_by, taken_by}
use Rattle.ec_quiet.specs.Works.{Work, is_saving}
use Rattle.ec_machine_laws.specs.Holding.{AreReaders}
use Rattle.ec_machine_laws.proofs.Calm.{reader-conflicts, writer-conflicts}
use Rattle.ec_quiet.specs.Goes.{GoesOn}
use Rattle.ec_quiet.proofs.Begun.{recalls}
use Rattle.ec_quiet.proofs.Beside.{other-at, other-measure, own-at, still-orderly}
use Rattle.ec_quiet.proofs.Taking.{each-both, each-map, regroup}
use Rattle.ec_quiet.proofs.OfDeliveries.Calling as calling
use Rattle.ec_quiet.proofs.OfDeliveries.Calling.{IsCalled, held-so}
use Rattle.ec_quiet.proofs.OfDeliveries.Holding.{IsConflict, IsHolderOf, clerks-differ, conflict-is, holder-of, same-slot}
use Rattle.ec_quiet.proofs.OfDeliveries.Standing as standing
use Rattle.ec_base.proofs.Options.{some-at}
use Rattle.ec_base.proofs.Lists.{map-more}

-- Lists.

any-both : (p : Holder → Bool) (xs : List Holder) (y : Holder) → list_any p (xs ++ y ∷ []) ≡ (list_any p xs || p y)
any-both p [] y = no-other (p y)
  where
    no-other : (z : Bool) → (z || false) ≡ z
    no-other true = refl
    no-other false = refl
any-both p (x ∷ xs) y = go (p x) (any-both p xs y)
  where
    go : (z : Bool) → list_any p (xs ++ y ∷ []) ≡ (list_any p xs || p y) → (z || list_any p (xs ++ y ∷ [])) ≡ ((z || list_any p xs) || p y)
    go true e = refl
    go false e = e

none-any : (p : Holder → Bool) (xs : List Holder) → Each (λ x. p x ≡ false) xs → list_any p xs ≡ false
none-any p [] e = refl
none-any p (x ∷ xs) e = ap (λ z. z || list_any p xs) e.0 ∙ none-any p xs e.1

-- A Write token that conflicts is the only one.

only-one : (r g : Holder) (bs rs : List Holder) → bs ++ r ∷ rs ≡ g ∷ [] → (bs ≡ []) × (rs ≡ [])
only-one r g [] [] e = (refl, refl)
only-one r g [] (f ∷ rs) e = absurd (too-long e)
  where
    too-long : r ∷ f ∷ rs ≡ g ∷ [] → ⊥
    too-long e = grind (arith, ap length e)
only-one r g (b ∷ []) rs e = absurd (too-long e)
  where
    too-long : b ∷ r ∷ rs ≡ g ∷ [] → ⊥
    too-long e = grind (arith, ap length e)
only-one r g (b ∷ d ∷ bs) rs e = absurd (too-long e)
  where
    too-long : b ∷ d ∷ (bs ++ r ∷ rs) ≡ g ∷ [] → ⊥
    too-long e = grind (arith, ap length e)

not-read : (bs : List Holder) (r : Holder) (rs : List Holder) → r.1 ≡ Write → AreReaders (bs ++ r ∷ rs) → ⊥
not-read [] r rs w a = let bad : Read ≡ Write = sym a.0 ∙ w in grind (arith, bad)
not-read (b ∷ bs) r rs w a = not-read bs r rs w a.1

some-amid : (bs : List Holder) (r : Holder) (rs : List Holder) → bs ++ r ∷ rs ≡ [] → ⊥
some-amid [] r rs e = grind (arith, e)
some-amid (b ∷ bs) r rs e = grind (arith, e)

alone : (ts : Rattle.ec_sessions.specs.OfTokens.Tokens.Tokens) (s x : ℕ) (h : Hold) (r : Holder) (bs rs : List Holder) → IsSound ts → conflicts ts s x h ≡ bs ++ r ∷ rs → clash r.1 h ≡ true → r.1 ≡ Write → (bs ≡ []) × (rs ≡ [])
alone ts s x Free r bs rs sound e c w = absurd (none r.1 c)
  where
    none : (g : Hold) → clash g Free ≡ true → ⊥
    none Free f = grind (arith, f)
    none Read f = grind (arith, f)
    none Write f = grind (arith, f)
alone ts s x Read r bs rs sound e c w = elim (reader-conflicts ts s x sound) [
  | inl none ↦ absurd (some-amid bs r rs (sym e ∙ none))
  | inr one ↦ only-one r (one.0, Write, one.1) bs rs (sym e ∙ one.2)
]
alone ts s x Write r bs rs sound e c w = elim (writer-conflicts ts s x sound) [
  | inl reads ↦ absurd (not-read bs r rs w (subst AreReaders e reads))
  | inr one ↦ only-one r (one.0, Write, one.1) bs rs (sym e ∙ one.2)
]

-- The holder.

module _ (j : Work) (sc : Scene) (x : ℕ) (h : Hold) (r : Holder) (bs rs : List Holder) (orderly : Rattle.ec_quiet.specs.Facts.IsOrderly sc.server sc.clerks) (noted : IsNoted j sc x h (bs ++ r ∷ rs)) where
  abbrev pub c : ℕ
  c = clerk_of sc.server r.0

  pub conf : IsConflict sc.server.tokens j.session x h r bs
  conf = conflict-is sc.server.tokens j.session x h r bs rs orderly.sound noted.conflicts

  pub holder : IsHolderOf sc.server r.0
  holder = holder-of sc.server sc.clerks r.0 x (record { hold = r.1; number = r.2 }) orderly conf.token_is

  pub another : (c == j.clerk) ≡ false
  another = go (c == j.clerk) refl
    where
      go : (z : Bool) → (c == j.clerk) ≡ z → z ≡ false
      go false e = refl
      go true e =
          let alike : holder.slot_is ≡ noted.wanting.slot = same-slot holder.slot_is noted.wanting.slot (sym holder.there ∙ ap (slot sc.server.durable) (eqb-true c j.clerk e) ∙ noted.wanting.working.inside.there) in
          let one : r.0 ≡ j.session = sym holder.session ∙ ap (λ (z : Slot). z.session) alike ∙ noted.wanting.working.session in
          let bad : true ≡ false = sym (eq-eqb r.0 j.session one) ∙ conf.other in
          absurd (grind (arith, bad))

  pub runs : T (is_some (at c sc.clerks))
  runs = orderly.run c holder.slot_is holder.there holder.is_open

  -- the holders before it are other clerks
  pub none-before : list_any (λ (b : Holder). clerk_of sc.server b.0 == c) bs ≡ false
  none-before = none-any (λ (b : Holder). clerk_of sc.server b.0 == c) bs
      (each-map (λ (b : Holder). ((b.0 == r.0) ≡ false) × (token sc.server.tokens b.0 x ≡ Some (record { hold = b.1; number = b.2 }))) (λ (b : Holder). (clerk_of sc.server b.0 == c) ≡ false)
      (λ b f. clerks-differ sc.server b.0 r.0 (holder-of sc.server sc.clerks b.0 x (record { hold = b.1; number = b.2 }) orderly f.1) holder f.0) bs conf.before)

-- The recall is kept, and marks the token.

module _ (v : Server) (c : ℕ) (sl : Slot) (k : Clerk) (r : Holder) (x : ℕ) (h : Hold) (idle : IsIdleBut [] v c sl k) (own : sl.session ≡ r.0) (recorded : token v.tokens r.0 x ≡ Some (record { hold = r.1; number = r.2 })) (clashes : clash r.1 h ≡ true) where
  abbrev marked-cache : CacheState
  marked-cache = record (k.cache) { limits = (x, recall_to h) ∷ [] }

  abbrev pub marked : Clerk
  marked = record k { cache = marked-cache; recalls = record { obj = x; number = r.2; to = recall_to h } ∷ [] }

  held : (g : Held) × (at x k.cache.held ≡ Some g) × (g.hold ≡ r.1) × (g.number ≡ r.2)
  held = held-so (at x k.cache.held) (record { hold = r.1; number = r.2 }) (sym recorded ∙ ap (λ z. token v.tokens z x) (sym own) ∙ idle.same x tt)

  known : last x k.cache ≤ r.2
  known = omega (arith, idle.inside.numbers x held.0 held.1, held.3)

  no-weaker : (to : Hold) → weaker to Write ≡ to
  no-weaker Free = refl
  no-weaker Read = refl
  no-weaker Write = refl

  marks : mark_recall x (recall_to h) k.cache ≡ marked-cache
  marks = ap (λ o. elim o as (λ z. CacheState) [ None ↦ k.cache | Some g ↦ cache.limit x (recall_to h) k.cache ]) held.1
      ∙ ap (λ ls. record (k.cache) { limits = put x (weaker (recall_to h) (at_or Write x ls)) ls }) idle.free.limits ∙ ap (λ t. record (k.cache) { limits = (x, t) ∷ [] }) (no-weaker (recall_to h))

  pub takes : taken (Recall r.0 v.durable.epoch x r.2 (recall_to h)) (doing k) ≡ doing marked
  takes = recalls r.0 v.durable.epoch k (idle.inside.session ∙ ap Some own, idle.inside.epoch) x r.2 (recall_to h) known
      ∙ ap (λ z. doing (record k { cache = z; recalls = k.recalls ++ record { obj = x; number = r.2; to = recall_to h } ∷ [] })) marks
      ∙ ap (λ rs. doing (record k { cache = marked-cache; recalls = rs ++ record { obj = x; number = r.2; to = recall_to h } ∷ [] })) idle.free.recalls

  pub called : IsCalled v c sl marked r x h
  called = record {
    inside = record {
      there = idle.inside.there;
      is_open = idle.inside.is_open;
      session = idle.inside.session;
      epoch = idle.inside.epoch;
      claimed = idle.inside.claimed;
      unowed = idle.inside.unowed;
      numbers = idle.inside.numbers;
      lasts = idle.inside.lasts;
      capacity = idle.inside.capacity;
      room = idle.inside.room;
    };
    own = own;
    waiting = idle.waiting;
    pushes = idle.pushes;
    asking = idle.asking;
    recalls = refl;
    limits = refl;
    batches = idle.free.batches;
    window = idle.window;
    grants = idle.grants;
    answered = idle.answered;
    same = λ y t. ap (λ z. token v.tokens z y) (sym own) ∙ idle.same y t;
    recorded = recorded;
    clashes = clashes;
  }

-- The delivery.

module _ (j : Work) (sc : Scene) (x : ℕ) (h : Hold) (r : Holder) (rs bs : List Holder) (rest : Mail) (q : InPhase j sc (Recalls x h (r ∷ rs) bs)) (head : sc.mail ≡ recall_of sc x h r ∷ rest) where
  abbrev v : Server
  v = sc.server

  abbrev e : ℕ
  e = v.durable.epoch

  abbrev cl : ℕ
  cl = clerk_of v r.0

  abbrev noted : IsNoted j sc x h (bs ++ r ∷ rs)
  noted = q.facts.0

  cf : IsConflict v.tokens j.session x h r bs
  cf = conf j sc x h r bs rs q.orderly noted

  other : (cl == j.clerk) ≡ false
  other = another j sc x h r bs rs q.orderly noted

  pub running : (k : Clerk) × (at cl sc.clerks ≡ Some k)
  running = some-at (at cl sc.clerks) (runs j sc x h r bs rs q.orderly noted)

  abbrev k : Clerk
  k = running.0

  idler : (sl : Slot) × IsIdleBut (excepted sc (Recalls x h (r ∷ rs) bs) cl) v cl sl k
  idler = q.others cl k other refl running.1

  abbrev sl : Slot
  sl = idler.0

  idle : IsIdleBut [] v cl sl k
  idle = subst (λ xs. IsIdleBut xs v cl sl k) (ap (λ b. elim b as (λ z. List ℕ) [ true ↦ x ∷ [] | false ↦ [] ]) (none-before j sc x h r bs rs q.orderly noted)) idler.1

  own : sl.session ≡ r.0
  own =
      let o : IsHolderOf v r.0 = holder j sc x h r bs rs q.orderly noted in
      ap (λ (z : Slot). z.session) (same-slot sl o.slot_is (sym idle.inside.there ∙ o.there)) ∙ o.session

  abbrev m : Clerk
  m = marked v cl sl k r x h idle own cf.token_is cf.clashes

  is-called : IsCalled v cl sl m r x h
  is-called = called v cl sl k r x h idle own cf.token_is cf.clashes

  abbrev message : Msg
  message = Recall r.0 e x r.2 (recall_to h)

  arrives : (d : Doing) → settle (doing m) ≡ d → delivered cl message rest sc ≡ done_by cl d rest sc
  arrives d f = ap (λ o. taken_by cl message rest o sc) running.1 ∙ ap (λ g. done_by cl (settle g) rest sc) (takes v cl sl k r x h idle own cf.token_is cf.clashes) ∙ ap (λ g. done_by cl g rest sc) f

  main-rest : main j rest ≡ map (recall_of sc x h) rs ++ map (back_of sc x h) bs
  main-rest = standing.main-rest j sc cl other message refl rest head k message (map (recall_of sc x h) rs ++ map (back_of sc x h) bs) q.main_is

  -- It gives back.

  abbrev given : Clerk
  given = calling.given v cl sl m r x h is-called

  abbrev gave : Scene
  gave = standing.now j sc cl other message refl rest head given (Back r.0 e x r.2 (recall_to h))

  abbrev after : Phase
  after = Recalls x h rs (bs ++ r ∷ [])

  still-there : (b : Holder) → (clerk_of v b.0 == cl) ≡ false → HasGivenBack sc x h b → HasGivenBack gave x h b
  still-there b n g = (g.0, other-at cl given sc.clerks (clerk_of v b.0) n ∙ g.1, g.2, g.3)

  given-back : (ds : List Holder) → list_any (λ (b : Holder). clerk_of v b.0 == cl) ds ≡ false → Each (HasGivenBack sc x h) ds → Each (HasGivenBack gave x h) ds
  given-back [] n g = tt
  given-back (d ∷ ds) n g = (still-there d (neither (clerk_of v d.0 == cl) _ n).0 g.0, given-back ds (neither (clerk_of v d.0 == cl) _ n).1 g.1)
    where
      neither : (a b : Bool) → (a || b) ≡ false → (a ≡ false) × (b ≡ false)
      neither true b f = absurd (grind (arith, f))
      neither false b f = (refl, f)

  others-then : (d : ℕ) (a : Clerk) → (d == j.clerk) ≡ false → is_busy gave after d ≡ false → at d gave.clerks ≡ Some a → (s : Slot) × IsIdleBut (excepted gave after d) v d s a
  others-then d a n b f = go (d == cl) refl
    where
      go : (z : Bool) → (d == cl) ≡ z → (s : Slot) × IsIdleBut (excepted gave after d) v d s a
      go true p =
          let d-is : d ≡ cl = eqb-true d cl p in
          let a-is : given ≡ a = some-same given a (sym (own-at cl given sc.clerks) ∙ ap (λ z. at z gave.clerks) (sym d-is) ∙ f) in
          let marked : (list_any (λ (g : Holder). clerk_of v g.0 == d) (bs ++ r ∷ []) ≡ true) = any-both (λ (g : Holder). clerk_of v g.0 == d) bs r ∙ last-true (list_any (λ (g : Holder). clerk_of v g.0 == d) bs) (clerk_of v r.0 == d) (eq-eqb cl d (sym d-is)) in (
            sl,
            subst (λ xs. IsIdleBut xs v d sl a) (sym (ap (λ z. elim z as (λ z. List ℕ) [ true ↦ x ∷ [] | false ↦ [] ]) marked))
                (subst (λ z. IsIdleBut (x ∷ []) v z sl a) (sym d-is) (subst (IsIdleBut (x ∷ []) v cl sl) a-is (calling.idle-but v cl sl m r x h is-called))),
          )
        where
          some-same : (y z : Clerk) → ◌≡◌ {A = Option Clerk} (Some y) (Some z) → y ≡ z
          some-same y z p = cc

          last-true : (y z : Bool) → z ≡ true → (y || z) ≡ true
          last-true true z p = refl
          last-true false z p = p
      go false p =
          let old = q.others d a n refl (sym (other-at cl given sc.clerks d p) ∙ f) in
          let unmarked : (list_any (λ (g : Holder). clerk_of v g.0 == d) (bs ++ r ∷ []) ≡ list_any (λ (g : Holder). clerk_of v g.0 == d) bs) = any-both (λ (g : Holder). clerk_of v g.0 == d) bs r ∙ last-false (list_any (λ (g : Holder). clerk_of v g.0 == d) bs) (clerk_of v r.0 == d) (turned d cl p) in
          (old.0, subst (λ z. IsIdleBut (elim z as (λ z. List ℕ) [ true ↦ x ∷ [] | false ↦ [] ]) v d old.0 a) (sym unmarked) old.1)
        where
          last-false : (y z : Bool) → z ≡ false → (y || z) ≡ y
          last-false true z p = refl
          last-false false z p = p

          turned : (y z : ℕ) → (y == z) ≡ false → (z == y) ≡ false
          turned y z p = grind (arith, p)

  in-recalls : InPhase j gave after
  in-recalls = record {
    clerk = q.clerk;
    number = q.number;
    main_is = standing.main-now j sc cl other message refl rest head given (Back r.0 e x r.2 (recall_to h)) ∙ ap (λ l. l ++ back_of sc x h r ∷ []) main-rest
        ∙ regroup (map (recall_of sc x h) rs) (map (back_of sc x h) bs) (back_of sc x h r ∷ []) ∙ ap (λ l. map (recall_of sc x h) rs ++ l) (sym (map-more (back_of sc x h) bs (r ∷ [])));
    orderly = still-orderly cl given sc.clerks v q.orderly;
    others = others-then;
    facts = (
      standing.noted-stays j sc cl other message refl rest head given (Back r.0 e x r.2 (recall_to h)) x h (bs ++ r ∷ rs) ((bs ++ r ∷ []) ++ rs) (sym (regroup bs (r ∷ []) rs)) noted,
      each-both (HasGivenBack gave x h) bs (r ∷ []) (given-back bs (none-before j sc x h r bs rs q.orderly noted) q.facts.1)
          ((given, own-at cl given sc.clerks, calling.left-over v cl sl m r x h is-called, calling.number-known v cl sl m r x h is-called), tt),
    );
  }

  falls-back : measure j gave after + 32 ≤ measure j sc (Recalls x h (r ∷ rs) bs)
  falls-back = omega (
    arith,
    other-measure j (Some (x, h)) v.tokens sc.clerks cl k given other q.orderly.rising running.1,
    length-append bs (r ∷ []),
    ap length (standing.backs-same j sc cl other message refl rest head given (Back r.0 e x r.2 (recall_to h))),
  )

  -- A batch goes out first.

  module _ (f : is_ready (record { obj = x; number = r.2; to = recall_to h }) (record m { recalls = [] }) ≡ false) (unspent : log.batches_are_spent k.log ≡ false) where
    abbrev flushing : Clerk
    flushing = calling.calling v cl sl m r x h is-called f unspent

    abbrev b : ℕ
    b = k.log.next_batch

    abbrev more : Bool
    more = calling.more v cl sl m r x h is-called f unspent

    abbrev flush : Msg
    flush = Flush r.0 e b (log.batch b flushing.log)

    abbrev flushed : Scene
    flushed = standing.now j sc cl other message refl rest head flushing flush

    only : (bs ≡ []) × (rs ≡ [])
    only = alone v.tokens j.session x h r bs rs q.orderly.sound noted.conflicts cf.clashes (calling.writes v cl sl m r x h is-called f unspent)

    abbrev then : Phase
    then = Flushes x h r b (log.batch b flushing.log) more

    others-flush : (d : ℕ) (a : Clerk) → (d == j.clerk) ≡ false → is_busy flushed then d ≡ false → at d flushed.clerks ≡ Some a → (s : Slot) × IsIdleBut [] v d s a
    others-flush d a n y t =
        let p : (d == cl) ≡ false = turned cl d y in
        let old = q.others d a n refl (sym (other-at cl flushing sc.clerks d p) ∙ t) in
        (old.0, subst (λ xs. IsIdleBut xs v d old.0 a) (ap (λ ds. elim (list_any (λ (g : Holder). clerk_of v g.0 == d) ds) as (λ z. List ℕ) [ true ↦ x ∷ [] | false ↦ [] ]) only.0) old.1)
      where
        turned : (y z : ℕ) → (y == z) ≡ false → (z == y) ≡ false
        turned y z p = grind (arith, p)

    in-flushes : InPhase j flushed then
    in-flushes = record {
      clerk = q.clerk;
      number = q.number;
      main_is = standing.main-now j sc cl other message refl rest head flushing flush ∙ ap (λ l. l ++ (cl, flush) ∷ []) (main-rest ∙ (λ i. map (recall_of sc x h) (only.1 i) ++ map (back_of sc x h) (only.0 i)));
      orderly = still-orderly cl flushing sc.clerks v q.orderly;
      others = others-flush;
      facts = (
        standing.noted-stays j sc cl other message refl rest head flushing flush x h (bs ++ r ∷ rs) (r ∷ []) (λ i. only.0 i ++ r ∷ only.1 i) noted,
        record {
          slot = sl;
          clerk = flushing;
          there = own-at cl flushing sc.clerks;
          inside = record {
            there = idle.inside.there;
            is_open = idle.inside.is_open;
            session = idle.inside.session;
            epoch = idle.inside.epoch;
            claimed = idle.inside.claimed;
            unowed = idle.inside.unowed;
            numbers = idle.inside.numbers;
            lasts = idle.inside.lasts;
            capacity = idle.inside.capacity;
            room = idle.inside.room;
          };
          session = own;
          waiting = idle.waiting;
          pushes = idle.pushes;
          asking = idle.asking;
          recalls = refl;
          limits = refl;
          sending = record { numbers = calling.ns v cl sl m r x h is-called f unspent; alone = Rattle.ec_quiet.proofs.Batches.alone (Rattle.ec_log.specs.declared.state.Asked.TheVariants.Object x) m.log b (calling.ns v cl sl m r x h is-called f unspent) idle.free.batches (calling.picked v cl sl m r x h is-called f unspent); next = refl };
          window = (omega (arith, idle.window.0), idle.window.1);
          grants = idle.grants;
          answered = idle.answered;
          same = is-called.same;
          writes = calling.writes v cl sl m r x h is-called f unspent;
          last = λ z. turned (Rattle.ec_quiet.specs.Facts.is_last (Rattle.ec_log.specs.declared.state.Asked.TheVariants.Object x) b flushing.log) z;
        },
        refl,
      );
    }
      where
        turned : (z : Bool) → not z ≡ false → z ≡ true
        turned true z = refl
        turned false z = absurd (grind (arith, z))

    counted : unsent_by j (cl, flushing) + length (calling.ns v cl sl m r x h is-called f unspent) ≤ unsent_by j (cl, k)
    counted = go (cl == j.clerk) other
      where
        go : (z : Bool) → z ≡ false → elim (z && not (is_saving j.task)) as (λ z. ℕ) [ true ↦ 0 | false ↦ unsent flushing.log ] + length (calling.ns v cl sl m r x h is-called f unspent) ≤ elim (z && not (is_saving j.task)) as (λ z. ℕ) [ true ↦ 0 | false ↦ unsent k.log ]
        go true p = absurd (grind (arith, p))
        go false p = calling.sends v cl sl m r x h is-called f unspent

    falls-flush : measure j flushed then + 32 ≤ measure j sc (Recalls x h (r ∷ rs) bs)
    falls-flush = omega (
      arith,
      other-measure j (Some (x, h)) v.tokens sc.clerks cl k flushing other q.orderly.rising running.1,
      counted,
      calling.enough v cl sl m r x h is-called f unspent,
      ap length (standing.backs-same j sc cl other message refl rest head flushing flush),
    )

  pub recalls-go-on : log.batches_are_spent k.log ≡ false → GoesOn j sc (Recalls x h (r ∷ rs) bs) (delivered cl message rest sc)
  recalls-go-on unspent = go (is_ready (record { obj = x; number = r.2; to = recall_to h }) (record m { recalls = [] })) refl
    where
      go : (z : Bool) → is_ready (record { obj = x; number = r.2; to = recall_to h }) (record m { recalls = [] }) ≡ z → GoesOn j sc (Recalls x h (r ∷ rs) bs) (delivered cl message rest sc)
      go true f = subst (GoesOn j sc (Recalls x h (r ∷ rs) bs)) (sym (arrives (calling.back_done v cl sl m r x h is-called) (calling.gives-back v cl sl m r x h is-called f))) (after, in-recalls, falls-back)
      go false f = subst (GoesOn j sc (Recalls x h (r ∷ rs) bs)) (sym (arrives (calling.flush_done v cl sl m r x h is-called f unspent) (calling.flushes v cl sl m r x h is-called f unspent)))
          (then f unspent, in-flushes f unspent, falls-flush f unspent)
