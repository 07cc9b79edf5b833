-- What a line's clerk needs of the next message is there.
use Rattle.std.proofs.Common.{◌≡◌, refl, sym, ap, subst, ◌∙◌, arith, ◌≤◌, ◌<◌, ◌+◌, ℕ, Bool, true, false, not, ◌||◌, T, length, List, [], ◌∷◌, ◌++◌, Option, Some, None}
use Rattle.std.specs.Prelude.{nat_le, nat_lt, Contains, ◌==◌, ◌&&◌, is_some}
use Rattle.std.proofs.lemmas.Bool.Decides.{nat_tests}
use Rattle.ec_base.specs.Tables.{at, or_else}
use Rattle.ec_base.specs.declared.ids.Hold.{Hold}
use Rattle.ec_base.specs.declared.ids.Hold.TheVariants.{Write}
use Rattle.ec_volume.specs.Update.{member}
use Rattle.ec_volume.specs.Volume.{images}
use Rattle.ec_volume.specs.declared.image.Image.{Image}
use Rattle.ec_history.specs.History.{Each}
use Rattle.ec_plain.specs.declared.call.Call.{Call}
use Rattle.ec_sessions.specs.Limits.{ids_per_grant, last_grants}
use Rattle.ec_sessions.specs.Slots.{run}
use Rattle.ec_sessions.specs.declared.slot.Slot.{Slot}
use Rattle.ec_wire.specs.declared.msg.Msg.{Msg}
use Rattle.ec_wire.specs.declared.msg.Msg.TheVariants as msg
use Rattle.ec_durable.specs.Durable.{slot}
use Rattle.ec_cache.specs.Cache as cache
use Rattle.ec_cache.specs.Cache.{last}
use Rattle.ec_cache.specs.declared.state.CacheState.{CacheState}
use Rattle.ec_log.specs.Log as log
use Rattle.ec_log.specs.declared.state.LogState.{LogState}
use Rattle.ec_protocol.specs.Clerk.{Doing, add_ids, doing, first_id, taken, wanted}
use Rattle.ec_protocol.specs.declared.clerk.Clerk.{Clerk}
use Rattle.ec_protocol.specs.declared.world.World.{World}
use Rattle.ec_coherence.specs.Invariant.{Invariant}
use Rattle.ec_coherence.specs.Steps.{Stands, doing_in}
use Rattle.ec_coherence.specs.System.{System, clerk_in, is_open, undurable}
use Rattle.ec_coherence.specs.Log.{IdsAgree}
use Rattle.ec_coherence.specs.Tokens as tokens
use Rattle.ec_coherence.proofs.ForBatches.ClerkIn.{start-same}
use Rattle.ec_coherence.proofs.ForCommits.Needs.{each-of}
use Rattle.ec_coherence.proofs.ForBatches.OpenSlots.{at-open}
use Rattle.ec_coherence.proofs.ForServer.Tables.{same_some}
use Rattle.ec_lawful.specs.OfClerkSteps.Trying.{IsTrying}
use Rattle.ec_lawful.specs.SettleLaws.{IsLined}
use Rattle.ec_lawful.proofs.ForBegins.Beginning.{begins}
use Rattle.ec_lawful.specs.Rooms.{unasked}
use Rattle.ec_lawful.proofs.Forgets.{forgets}
use Rattle.ec_lawful.proofs.Plain.{takes-grant-so, takes-ids-so, takes-kept-so}
use Rattle.ec_quiet.specs.Facts.{WantIsAnswered, IsIn, session_clerk}
use Rattle.ec_quiet.specs.Phases.{Phase, Greets, Opens, Claims, Wants, Recalls, Flushes, Keeps, Grants, Asks, Gives, Refuses, Saves, Saved, Ends, InPhase, IsAged, IsAsking, IsSaving, IsWanting, main, messages, is_back, is_back_message}
use Rattle.ec_quiet.specs.Scenes.{IsScene, Mail, Scene, is_for_server}
use Rattle.ec_quiet.specs.Works.{Calls, HasTask, Pushes, Task, Work, is_saving}
use Rattle.ec_quiet.proofs.Sending.{IsFirst, first-is}
use Rattle.ec_quiet.proofs.OfDeliveries.Working.{main-front}
use Rattle.ec_quiet.proofs.OfDeliveries.ServerDelivered.{head-same}
use Rattle.ec_quiet.specs.Goes.{MayGo}
use Rattle.ec_quiet.specs.Takings.{taking}
use Rattle.ec_quiet.specs.Tries.{HasCounters}
use Rattle.ec_quiet.proofs.Begun as begun
use Rattle.ec_quiet.specs.OfDeliveries.Deliveries.{MaySave, MayTake, having_kept, unasking}
use Rattle.ec_quiet.proofs.OfDeliveries.Filling.{in-run}
use Rattle.ec_quiet.proofs.OfDeliveries.Saving.{none-left}
use Rattle.ec_complete.specs.OfAgreedLines.Worlds.{IsSeen}
use Rattle.ec_complete.proofs.OfAgreedLines.Seen.{clerk-there, scenes-seen, tables}
use Rattle.ec_complete.proofs.OfAgreedLines.Suited.{numbers-given}
use Rattle.ec_quiet.specs.OfDeliveries.Coming.{HasNext}
use Rattle.ec_quiet.specs.OfDeliveries.Leading.{CanTake}
use Rattle.ec_complete.specs.WaitingCalls.{IsAgreed}
use Rattle.ec_complete.proofs.ForLines.Shown.{agreed-may-go}
use Rattle.ec_complete.specs.Lines.{IsOnLine, IsSpare, next_given}
use Rattle.ec_complete.proofs.ForLines.Aging.{all-aged, more-aged, take-aged}
use Rattle.ec_complete.proofs.ForLines.Suiting.{next-suits}
use Rattle.ec_base.proofs.Numbers.{same-self as same}
use Rattle.ec_base.proofs.Options.{none_some}
use Rattle.ec_base.proofs.Filters.{fewer}

-- The start that runs, of a clerk of the world.
pub runs-in : (w : World) (g : System) → Stands w g → (c : ℕ) (k : Clerk) → at c w.clerks ≡ Some k → (b : ℕ) × (g.running c ≡ Some b) × (g.clerks c b ≡ Some k)
runs-in w g st c k q = go (g.running c) refl (sym (st.clerks c) ∙ q)
  where
    go : (o : Option ℕ) → g.running c ≡ o → elim o as (λ z. Option Clerk) [ None ↦ None | Some b ↦ g.clerks c b ] ≡ Some k → (b : ℕ) × (g.running c ≡ Some b) × (g.clerks c b ≡ Some k)
    go None e p = absurd (none_some p)
    go (Some b) e p = (b, e, p)

-- The next message was sent.
pub next-sent : (w : World) (g : System) (sc : Scene) → Stands w g → IsScene w sc → (m : ℕ × Msg) (rest : Mail) → sc.mail ≡ m ∷ rest → Contains g.pool m
next-sent w g sc st i m rest head =
    let f : IsFirst w m.0 m.1 rest = first-is w sc i m.0 m.1 rest head in
    subst (Contains g.pool) (ap (λ c. (c, f.sent.msg)) f.clerk ∙ ap (λ x. (m.0, x)) f.message) (st.pool f.number f.sent.clerk f.sent.nth f.sent.msg f.there)

-- In the midst of a step, with the same ghosts, all facts hold of the system.
pub agreed-midst : (g : System) (c b s : ℕ) (d : Doing) → IsTrying g c b d g.ghost → d.clerk.session ≡ Some s → T (is_open g s) → Rattle.ec_durable.specs.WellFormed.IsInOrder g.durable → IsAgreed (doing_in c b d g.ghost g) c b s d.clerk
agreed-midst g c b s d t within opened order = record {
  all = (((t.stands).0).invariant, (t.stands).1, (t.stands).2, (t.stands).3);
  calls = t.calls;
  zeros = t.zeros;
  frees = t.frees;
  order = order;
  orderly = t.orderly;
  runs = ((t.stands).0).runs;
  stands = start-same c b d.clerk g.clerks;
  session = within;
  is_open = opened;
}

still-small : (most m n : ℕ) → m ≤ n → nat_le most n ≡ false → nat_le most m ≡ false
still-small most m n l f = grind (arith, nat_tests, l, f)

pub kept-small : (b : ℕ) (l : LogState) → log.is_full l ≡ false → log.is_full (log.kept b l) ≡ false
kept-small b l f = still-small log.max_undurable (length (log.kept b l).undurable) (length l.undurable) (fewer (λ op. not (member op.0 (log.ops_in b l))) l.undurable) f

some-waits : {A : Type 0} (x : A) (xs : List A) → x ∷ xs ≡ [] → ⊥
some-waits x xs e = cc

module _ (j : Work) (w : World) (sc : Scene) (g : System) (on : IsOnLine j w sc g) (spare : IsSpare j sc) (scene : IsScene w sc) where
  seen : IsSeen g sc
  seen = scenes-seen w g sc on.stands scene

  inv : Invariant g
  inv = on.whole.all.0

  order : Rattle.ec_durable.specs.WellFormed.IsInOrder g.durable
  order = subst Rattle.ec_durable.specs.WellFormed.IsInOrder (sym seen.durable) on.order

  in-world : (c : ℕ) (k : Clerk) → at c sc.clerks ≡ Some k → at c w.clerks ≡ Some k
  in-world c k e = ap (at c) scene.clerks ∙ e

  -- The line's clerk in its session.
  module _ (k : Clerk) (sl : Slot) (there : at j.clerk sc.clerks ≡ Some k) (inside : IsIn sc.server j.clerk sl k) (own : sl.session ≡ j.session) where
    pub start : (b : ℕ) × (g.running j.clerk ≡ Some b) × (g.clerks j.clerk b ≡ Some k)
    start = runs-in w g on.stands j.clerk k (in-world j.clerk k there)

    within : k.session ≡ Some j.session
    within = inside.session ∙ ap Some own

    in-slot : slot g.durable j.clerk ≡ Some sl
    in-slot = ap (λ d. slot d j.clerk) seen.durable ∙ inside.there

    opened : T (is_open g j.session)
    opened = at-open j.session g.durable.sessions j.clerk sl (in-slot, own, subst T (sym inside.is_open) tt)

    its : clerk_in g j.session ≡ Some k
    its = clerk-there g inv.sessions j.clerk start.0 j.session k start.2 within

    -- A clerk in the midst of its step, with the same call, may go on.
    module _ (cl : Call) (is : j.task ≡ Calls cl) (task : HasTask (Calls cl) k) (d : Doing) (line : IsLined g j.clerk start.0 d g.ghost) where
      waits : k.waiting ≡ [] → ⊥
      waits e = some-waits task.0 [] (sym task.1 ∙ e)

      pub goes-midst : d.clerk.session ≡ k.session → d.clerk.waiting ≡ k.waiting → d.clerk.pushes ≡ k.pushes → d.clerk.log.next ≡ k.log.next → d.clerk.owed ≡ k.owed → d.clerk.log.batches ≡ [] → log.is_full d.clerk.log ≡ false
          → HasCounters d.clerk → IsAged j d.clerk → d.clerk.cache.capacity ≡ k.cache.capacity → ((x : ℕ) → first_id d.clerk.ids ≡ Some x → T (member x j.touched)) → MayGo j d.clerk
      goes-midst session waiting pushes next owed batches small counters aged capacity id =
          agreed-may-go (doing_in j.clerk start.0 d g.ghost g) j.clerk start.0 j.session d.clerk j task.0 (agreed-midst g j.clerk start.0 j.session d line.trying (session ∙ within) opened order)
          (record {
            is = is ∙ ap Calls (sym task.2);
            unowed = owed ∙ inside.unowed;
            waiting = waiting ∙ task.1;
            pushes = pushes ∙ task.4;
            begun = task.3 ∙ sym next;
            batches = batches;
            small = small;
            counters = counters;
            aged = aged;
            capacity = capacity ∙ inside.capacity;
            few = on.few;
            about = on.about k there waits;
            id = id;
          })

      -- where it has the ids that it had
      pub same-id : (x : ℕ) → first_id k.ids ≡ Some x → T (member x j.touched)
      same-id x e = subst (λ z. T (member z j.touched)) (ap (or_else (next_given sc.server.durable.next_id k (slot sc.server.durable j.clerk))) e) (on.id k there waits)

  counts-same : (k m : Clerk) → m.asks ≡ k.asks → m.log.next ≡ k.log.next → m.log.next_batch ≡ k.log.next_batch → HasCounters k → HasCounters m
  counts-same k m a n b h = record { asks = ap (nat_le Rattle.ec_base.specs.Limits.last_counter) a ∙ h.asks; ops = ap (nat_lt Rattle.ec_base.specs.Limits.last_counter) n ∙ h.ops; batches = ap (nat_lt Rattle.ec_base.specs.Limits.last_counter) b ∙ h.batches }

  -- a pushed operation wants nothing
  pub unanswered : (x : ℕ) (h : Hold) (k : Clerk) (n : ℕ) → j.task ≡ Pushes n → at j.clerk sc.clerks ≡ Some k → (earlier : List Rattle.ec_protocol.specs.declared.clerk.Wanted.Wanted) → k.wanted ≡ wanted x h k ∷ earlier → ⊥
  unanswered x h k n e there earlier q = above (last x k.cache) (subst (Each (WantIsAnswered k.cache)) q (on.answered n e k there)).0
    where
      above : (a : ℕ) → a < a → ⊥
      above a l = omega (arith, l)

  take-capacity : (x : ℕ) (h : Hold) (n : ℕ) (i : Image) (c : CacheState) → (cache.take x h n i c).capacity ≡ c.capacity
  take-capacity x h n i c = go (cache.is_new x n c)
    where
      go : (b : Bool) → (elim b as (λ z. CacheState) [
        | false ↦ c
        | true ↦ record c { held = Rattle.ec_base.specs.Tables.renewed x (record { hold = h; number = n; image = i }) c.held; lasts = Rattle.ec_base.specs.Tables.put x n c.lasts; limits = Rattle.ec_base.specs.Tables.without x c.limits }
      ]).capacity ≡ c.capacity
      go true = refl
      go false = refl

  takes-capacity : (n : ℕ) (xs : List ℕ) (c : CacheState) → (Rattle.ec_protocol.specs.Clerk.take_each n xs c).capacity ≡ c.capacity
  takes-capacity n [] c = refl
  takes-capacity n (x ∷ xs) c = takes-capacity n xs (cache.take x Write n Rattle.ec_volume.specs.declared.image.Image.TheVariants.Gone c) ∙ take-capacity x Write n Rattle.ec_volume.specs.declared.image.Image.TheVariants.Gone c

  -- A token that comes.
  module _ (x : ℕ) (h : Hold) (n : ℕ) (ip : InPhase j sc (Grants x h n)) (sent : Contains g.pool (j.clerk, msg.Grant j.session sc.server.durable.epoch x n h (images sc.server.durable.volume x))) where
    abbrev wa : IsWanting (x ∷ []) j sc x h ip.facts.2
    wa = ip.facts.3

    abbrev k : Clerk
    k = wa.clerk

    abbrev st : (b : ℕ) × (g.running j.clerk ≡ Some b) × (g.clerks j.clerk b ≡ Some k)
    st = start k wa.slot wa.working.there wa.working.inside wa.working.session

    abbrev own : k.session ≡ Some j.session
    own = within k wa.slot wa.working.there wa.working.inside wa.working.session

    grant-line : IsLined g j.clerk st.0 (taking x h n sc k) g.ghost
    grant-line = subst (λ d. IsLined g j.clerk st.0 d g.ghost) (begun.grants j.session sc.server.durable.epoch k (own, wa.working.inside.epoch) x n h (images sc.server.durable.volume x))
        (takes-grant-so g on.whole j.clerk st.0 k st.1 st.2 j.session own j.session sc.server.durable.epoch x n h (images sc.server.durable.volume x) sent)

    grant-goes : (t : Task) → j.task ≡ t → HasTask t k → MayGo j (taking x h n sc k).clerk
    grant-goes (Calls cl) e task =
        goes-midst k wa.slot wa.working.there wa.working.inside wa.working.session cl e task (taking x h n sc k) grant-line refl refl refl refl refl wa.batches
        (spare.small k wa.working.there (waits k wa.slot wa.working.there wa.working.inside wa.working.session cl e task (taking x h n sc k) grant-line))
        (counts-same k (taking x h n sc k).clerk refl refl refl (spare.clerks j.clerk k wa.working.there))
        (take-aged j k x h n (images sc.server.durable.volume x) (touches (member x j.touched) (member x k.ids) wa.touched) wa.aged) (take-capacity x h n (images sc.server.durable.volume x) k.cache)
        (same-id k wa.slot wa.working.there wa.working.inside wa.working.session cl e task (taking x h n sc k) grant-line)
      where
        touches : (a b : Bool) → T a → T (a || b)
        touches true b t = tt
        touches false b t = absurd t
    grant-goes (Pushes m) e task = absurd (unanswered x h k m e wa.working.there wa.earlier wa.wants)

    pub grant-may : (m : Clerk) → at j.clerk sc.clerks ≡ Some m → MayGo j (taking x h n sc m).clerk
    grant-may m e = subst (λ z. MayGo j (taking x h n sc z).clerk) (same_some (sym wa.working.there ∙ e)) (grant-goes j.task refl wa.task)

  -- There is no room for ids.
  module _ (again : Bool) (ask live reserved : ℕ) (ip : InPhase j sc (Refuses again ask live reserved)) where
    abbrev qa : IsAsking [] j sc again ask
    qa = ip.facts.1

    abbrev kr : Clerk
    kr = qa.clerk

    abbrev sr : (b : ℕ) × (g.running j.clerk ≡ Some b) × (g.clerks j.clerk b ≡ Some kr)
    sr = start kr qa.slot qa.working.there qa.working.inside qa.working.session

    refuse-line : IsLined g j.clerk sr.0 (unasked (doing kr)) g.ghost
    refuse-line =
        let l : IsLined g j.clerk sr.0 (doing kr) g.ghost = begins g on.whole j.clerk sr.0 kr sr.1 sr.2 in
        let f = forgets g j.clerk sr.0 j.session (doing kr) g.ghost l.trying (within kr qa.slot qa.working.there qa.working.inside qa.working.session) l.lines in
        let st = (f.0).stands in
        record {
          trying = f.0;
          lines = f.1;
          shows = Rattle.ec_lawful.proofs.ForBegins.Carrying.same-shows g j.clerk sr.0 (doing kr) (unasked (doing kr)) g.ghost l.trying ((st.0).invariant, st.1, st.2, st.3) (refl, refl, refl) l.shows;
        }

    refuse-goes : (t : Task) → j.task ≡ t → HasTask t kr → MayGo j (unasking kr)
    refuse-goes (Calls cl) e task =
        goes-midst kr qa.slot qa.working.there qa.working.inside qa.working.session cl e task (unasked (doing kr)) refuse-line refl refl refl refl refl qa.batches
        (spare.small kr qa.working.there (waits kr qa.slot qa.working.there qa.working.inside qa.working.session cl e task (unasked (doing kr)) refuse-line))
        (counts-same kr (unasking kr) refl refl refl (spare.clerks j.clerk kr qa.working.there)) (more-aged j kr (unasking kr) refl (λ x m. m) qa.aged) refl
        (same-id kr qa.slot qa.working.there qa.working.inside qa.working.session cl e task (unasked (doing kr)) refuse-line)
    refuse-goes (Pushes m) e task = absurd (saves (sym (ap is_saving e) ∙ qa.makes))
      where
        saves : true ≡ false → ⊥
        saves q = cc

    pub refuse-may : (m : Clerk) → at j.clerk sc.clerks ≡ Some m → MayGo j (unasking m)
    refuse-may m e = subst (λ z. MayGo j (unasking z)) (same_some (sym qa.working.there ∙ e)) (refuse-goes j.task refl qa.task)

  -- A batch of the clerk's own is durable.
  module _ (b : ℕ) (more : Bool) (ip : InPhase j sc (Saved b more)) (sent : Contains g.pool (j.clerk, msg.Kept j.session sc.server.durable.epoch b)) where
    abbrev qs : IsSaving 0 j sc b more
    qs = ip.facts.1

    abbrev ks : Clerk
    ks = qs.clerk

    abbrev ss : (a : ℕ) × (g.running j.clerk ≡ Some a) × (g.clerks j.clerk a ≡ Some ks)
    ss = start ks qs.slot qs.working.there qs.working.inside qs.working.session

    abbrev kept_doing : Doing
    kept_doing = doing (having_kept b ks)

    saved-line : IsLined g j.clerk ss.0 kept_doing g.ghost
    saved-line = subst (λ d. IsLined g j.clerk ss.0 d g.ghost) (begun.keeps j.session sc.server.durable.epoch ks (within ks qs.slot qs.working.there qs.working.inside qs.working.session, qs.working.inside.epoch) b sc.server.durable.epoch)
        (takes-kept-so g on.whole j.clerk ss.0 ks ss.1 ss.2 j.session (within ks qs.slot qs.working.there qs.working.inside qs.working.session) j.session sc.server.durable.epoch b sent)

    saved-goes : (t : Task) → j.task ≡ t → HasTask t ks → MaySave t j b ks
    saved-goes (Calls cl) e task =
        goes-midst ks qs.slot qs.working.there qs.working.inside qs.working.session cl e task kept_doing saved-line refl refl refl refl refl (none-left ks.log b qs.sending.numbers qs.sending.alone)
        (kept-small b ks.log (spare.small ks qs.working.there (waits ks qs.slot qs.working.there qs.working.inside qs.working.session cl e task kept_doing saved-line)))
        (counts-same ks (having_kept b ks) refl refl refl (spare.clerks j.clerk ks qs.working.there)) (more-aged j ks (having_kept b ks) refl (λ x m. m) qs.aged) refl
        (same-id ks qs.slot qs.working.there qs.working.inside qs.working.session cl e task kept_doing saved-line)
    saved-goes (Pushes m) e task = (spare.clerks j.clerk ks qs.working.there).batches

    pub saved-may : (m : Clerk) → at j.clerk sc.clerks ≡ Some m → MaySave j.task j b m
    saved-may m e = subst (λ z. MaySave j.task j b z) (same_some (sym qs.working.there ∙ e)) (saved-goes j.task refl qs.task)

  -- Ids that come.
  module _ (got n first : ℕ) (ip : InPhase j sc (Gives got n first)) (sent : Contains g.pool (j.clerk, msg.Ids j.session sc.server.durable.epoch got n first)) where
    abbrev pub qi : IsAsking (run first ids_per_grant) j sc ip.facts.2 ip.facts.1
    qi = ip.facts.3

    abbrev pub ki : Clerk
    ki = qi.clerk

    abbrev si : (b : ℕ) × (g.running j.clerk ≡ Some b) × (g.clerks j.clerk b ≡ Some ki)
    si = start ki qi.slot qi.working.there qi.working.inside qi.working.session

    earlier : (most got grants : ℕ) → grants ≡ got + 1 → nat_le most grants ≡ false → nat_le most got ≡ false
    earlier most got grants e f = grind (arith, nat_tests, e, f)

    pub countable : nat_le last_grants got ≡ false
    countable = earlier last_grants got qi.slot.grants ip.facts.5 (spare.grants ki qi.slot qi.working.there qi.working.inside.there qi.working.inside.session)

    abbrev given : Doing
    given = doing (add_ids n first ki)

    ids-line : IsLined g j.clerk si.0 given g.ghost
    ids-line = subst (λ d. IsLined g j.clerk si.0 d g.ghost)
        (ap (λ z. taken (msg.Ids j.session sc.server.durable.epoch z n first) (doing ki)) ip.facts.4
        ∙ begun.ids j.session sc.server.durable.epoch ki (within ki qi.slot qi.working.there qi.working.inside qi.working.session, qi.working.inside.epoch) n first (ap (nat_le last_grants) (sym ip.facts.4) ∙ countable))
        (takes-ids-so g on.whole j.clerk si.0 ki si.1 si.2 j.session (within ki qi.slot qi.working.there qi.working.inside qi.working.session) j.session sc.server.durable.epoch got n first sent)

    -- the first of them is the one that the line is about
    pub first-given : next_given sc.server.durable.next_id ki (Some qi.slot) ≡ first
    first-given = go (is_some ki.session) (qi.slot.grants == ki.got + 1) (ap is_some (within ki qi.slot qi.working.there qi.working.inside qi.working.session)) (ap (λ z. z == ki.got + 1) (ip.facts.5 ∙ ap (λ z. z + 1) ip.facts.4) ∙ same (ki.got + 1))
      where
        ids : IdsAgree ki qi.slot (g.ghost.grants j.session) (g.ghost.first j.session) (undurable g.ghost j.session)
        ids = (inv.logs.logs j.session j.clerk qi.slot (in-slot ki qi.slot qi.working.there qi.working.inside qi.working.session) qi.working.session (subst T (sym qi.working.inside.is_open) tt) ki (its ki qi.slot qi.working.there qi.working.inside qi.working.session)).ids

        some : 1 ≤ g.ghost.grants j.session
        some = positive (g.ghost.grants j.session) got (sym ids.granted ∙ ip.facts.5)
          where
            positive : (a b : ℕ) → a ≡ b + 1 → 1 ≤ a
            positive a b e = omega (arith, e)

        is-first : first ≡ g.ghost.first j.session
        is-first = (each-of (λ m. tokens.Fits (tokens.view g) m.1) g.pool (j.clerk, msg.Ids j.session sc.server.durable.epoch got n first) inv.tokens.messages sent).4 (sym ip.facts.5 ∙ ids.granted)

        go : (a b : Bool) → a ≡ true → b ≡ true → elim (a && b) as (λ z. ℕ) [ true ↦ or_else 0 qi.slot.last_first | false ↦ sc.server.durable.next_id ] ≡ first
        go true true p q = ap (or_else 0) (ids.last some) ∙ sym is-first
        go true false p q = absurd (cc)
        go false b p q = absurd (cc)

    ids-goes : (t : Task) → j.task ≡ t → HasTask t ki → MayGo j (add_ids n first ki)
    ids-goes (Calls cl) e task =
        goes-midst ki qi.slot qi.working.there qi.working.inside qi.working.session cl e task given ids-line refl refl refl refl refl qi.batches
        (spare.small ki qi.working.there waiting) (counts-same ki (add_ids n first ki) refl refl refl (spare.clerks j.clerk ki qi.working.there))
        (all-aged j n ids_per_grant first with-ids (λ y l t. member-left y ki.ids (run first ids_per_grant) (in-run ids_per_grant first y l t)) (more-aged j ki with-ids refl (λ x m. member-front x ki.ids (run first ids_per_grant) m) qi.aged))
        (takes-capacity n (run first ids_per_grant) ki.cache) (λ x q. subst (λ z. T (member z j.touched)) (same_some (sym first-now ∙ q)) about-first)
      where
        waiting : ki.waiting ≡ [] → ⊥
        waiting = waits ki qi.slot qi.working.there qi.working.inside qi.working.session cl e task given ids-line

        with-ids : Clerk
        with-ids = record ki { got = ki.got + 1; asking = None; ids = ki.ids ++ run first ids_per_grant }

        first-now : first_id (ki.ids ++ run first ids_per_grant) ≡ Some first
        first-now = ap (λ z. first_id (z ++ run first ids_per_grant)) qi.ids

        about-first : T (member first j.touched)
        about-first = subst (λ z. T (member z j.touched))
            (ap (λ o. or_else (next_given sc.server.durable.next_id ki o) (first_id ki.ids)) qi.working.inside.there ∙ ap (λ z. or_else (next_given sc.server.durable.next_id ki (Some qi.slot)) (first_id z)) qi.ids ∙ first-given)
            (on.id ki qi.working.there waiting)

        member-left : (y : ℕ) (xs ys : List ℕ) → T (member y ys) → T (member y (xs ++ ys))
        member-left = Rattle.ec_coherence.proofs.ForBatches.Ids.in-back

        member-front : (y : ℕ) (xs ys : List ℕ) → T (member y xs) → T (member y (xs ++ ys))
        member-front = Rattle.ec_coherence.proofs.ForBatches.Ids.in-front
    ids-goes (Pushes m) e task = absurd (saves (sym (ap is_saving e) ∙ qi.makes))
      where
        saves : true ≡ false → ⊥
        saves q = cc

    pub ids-may : (m : Clerk) → at j.clerk sc.clerks ≡ Some m → MayGo j (add_ids n first m)
    ids-may m e = subst (λ z. MayGo j (add_ids n first z)) (same_some (sym qi.working.there ∙ e)) (ids-goes j.task refl qi.task)

  -- The next message, for a clerk.
  module _ (m : ℕ × Msg) (others : Mail) (sent : Contains g.pool m) where
    its-head : (a : ℕ × Msg) (more : Mail) → a ∷ more ≡ m ∷ others → Contains g.pool a
    its-head a more e = subst (Contains g.pool) (sym (head-same a m more others e)) sent

    may-take : (p : Phase) → InPhase j sc p → messages j sc p ≡ m ∷ others → MayTake j sc p
    may-take (Recalls x h (r ∷ rs) bs) ip e = λ k there. (spare.clerks (session_clerk sc.server r.0) k there).batches
    may-take (Recalls x h [] bs) ip e = tt
    may-take (Keeps x h r b more) ip e = λ k there. (spare.clerks (session_clerk sc.server r.0) k there).batches
    may-take (Grants x h n) ip e = (numbers-given g sc inv seen j x n h ip, grant-may x h n ip (its-head _ _ e))
    may-take (Gives got n first) ip e = (
      (tables g sc.server inv seen.server seen.durable).numbers j.session first (record { hold = Write; number = n }) ip.facts.6.0.0,
      countable got n first ip (its-head _ _ e),
      ids-may got n first ip (its-head _ _ e),
    )
    may-take (Refuses again ask live reserved) ip e = refuse-may again ask live reserved ip
    may-take (Saved b more) ip e = saved-may b more ip (its-head _ _ e)
    may-take (Greets age) ip e = tt
    may-take (Opens age) ip e = tt
    may-take (Claims o) ip e = tt
    may-take (Wants x h n) ip e = tt
    may-take (Flushes x h r b ops more) ip e = tt
    may-take (Asks again got ask) ip e = tt
    may-take (Saves b ops more) ip e = tt
    may-take Ends ip e = tt

-- A message for a clerk is none that goes back.
pub for-clerk : (j : Work) (m : ℕ × Msg) → is_for_server m.1 ≡ false → is_back j m ≡ false
for-clerk j m e = off (m.0 == j.clerk) (is_back_message m.1) (go m.1 e)
  where
    off : (a b : Bool) → b ≡ false → (a && b) ≡ false
    off true b q = q
    off false b q = refl

    go : (x : Msg) → is_for_server x ≡ false → is_back_message x ≡ false
    go (msg.Back s e x n h) q = absurd (cc)
    go (msg.Hello i a) q = refl
    go (msg.Want s e x h n) q = refl
    go (msg.Flush s e b ops) q = refl
    go (msg.Room s e got ask) q = refl
    go (msg.Claim s e l) q = refl
    go (msg.Bye s e) q = refl
    go (msg.Opened a s e) q = refl
    go (msg.Grant s e x n h i) q = refl
    go (msg.Recall s e x n h) q = refl
    go (msg.Kept s e b) q = refl
    go (msg.Ids s e got n x) q = refl
    go (msg.NoRoom s e ask live reserved) q = refl
    go (msg.Ended s low mask) q = refl
    go (msg.Restarted s e) q = refl
    go (msg.OldBoot a x) q = refl

pub can-take-next : (j : Work) (w : World) (sc : Scene) (g : System) (p : Phase) (m : ℕ × Msg) (rest : Mail) → IsOnLine j w sc g → IsSpare j sc → IsScene w sc → InPhase j sc p → sc.mail ≡ m ∷ rest → HasNext m.1 sc.server → CanTake j sc p m
can-take-next j w sc g p m rest on spare scene ip mail next = record {
  number = λ s. spare.number;
  suits = λ s. next-suits g sc (on.whole.all.0) (scenes-seen w g sc on.stands scene) j spare p m rest ip mail next;
  may = λ s. may-take j w sc g on spare scene m (main j rest) (next-sent w g sc on.stands scene m rest mail) p ip (sym ip.main_is ∙ ap (main j) mail ∙ main-front j m rest (for-clerk j m s));
}
