-- The line's clerk takes the next message: the id of its next object stays, and so does what it wanted where an operation is pushed.
use Rattle.std.proofs.Common.{◌≡◌, refl, sym, ap, subst, ◌∙◌, inl, inr, ◌⊎◌, arith, ◌<◌, ◌+◌, ℕ, Bool, true, false, not, ◌==◌, ◌&&◌, List, [], ◌∷◌, ◌++◌, Option, Some, None}
use Rattle.std.specs.Prelude.{is_some, nat_le, Contains}
use Rattle.ec_base.specs.Tables.{at, at_or, or_else}
use Rattle.ec_volume.specs.Volume.{images}
use Rattle.ec_history.specs.History.{Each}
use Rattle.ec_sessions.specs.Limits.{ids_per_grant, last_grants}
use Rattle.ec_sessions.specs.Slots.{run}
use Rattle.ec_sessions.specs.declared.slot.Slot.{Slot}
use Rattle.ec_wire.specs.declared.msg.Msg.{Msg}
use Rattle.ec_wire.specs.declared.msg.Msg.TheVariants as msg
use Rattle.ec_durable.specs.Durable.{slot}
use Rattle.ec_protocol.specs.Clerk.{Doing, doing, first_id, has_session, is_session, refuse_makes, same_age, take, taken, with_clerk, with_log}
use Rattle.ec_log.specs.Log as log
use Rattle.ec_protocol.specs.declared.clerk.Clerk.{Clerk}
use Rattle.ec_protocol.specs.declared.clerk.Waiting.{Waiting}
use Rattle.ec_protocol.specs.declared.clerk.Wanted.{Wanted}
use Rattle.ec_protocol.specs.declared.world.World.{World}
use Rattle.ec_coherence.specs.System.{System}
use Rattle.ec_coherence.proofs.ForServer.Tables.{differ, same_some}
use Rattle.ec_lawful.specs.OfClerkSteps.Moves.{IsStill}
use Rattle.ec_lawful.proofs.OfClerkSteps.ForNames.Stilling.{are-still}
use Rattle.ec_lawful.specs.Taking.{AnswersNone}
use Rattle.ec_quiet.specs.Facts.{WantIsAnswered}
use Rattle.ec_quiet.specs.Phases.{Phase, Greets, Opens, Claims, Wants, Recalls, Flushes, Keeps, Grants, Asks, Gives, Refuses, Saves, Saved, Ends, InPhase, IsStarting, main, messages, recall_of}
use Rattle.ec_sessions.specs.OfRecall.Due.{recall_to}
use Rattle.ec_quiet.specs.Facts.{session_clerk}
use Rattle.ec_quiet.specs.Scenes.{IsScene, Mail, Scene, is_for_server}
use Rattle.ec_quiet.specs.Works.{Calls, HasTask, Pushes, Task, Work, is_saving}
use Rattle.ec_quiet.proofs.OfDeliveries.Working.{main-front}
use Rattle.ec_quiet.proofs.OfDeliveries.ServerDelivered.{head-same, none-first}
use Rattle.ec_quiet.proofs.Begun as begun
use Rattle.ec_complete.specs.Lines.{IsOnLine, IsSpare, next_given}
use Rattle.ec_complete.proofs.ForLines.Taking.{first-given, for-clerk, unanswered}
use Rattle.ec_complete.proofs.ForLines.Stepping.{LeavesOrAnswers, answers-steps, idle-empty, idle-same, one-leaves, room-leaves, settle-still, waits-on}

-- A message answers no call, or refuses the ids that the clerk asked for.
pub record IsRefusal (k : Clerk) (m : Msg) : Type 0 where
  pub session : ℕ
  pub epoch : ℕ
  pub ask : ℕ
  pub live : ℕ
  pub reserved : ℕ
  pub is : m ≡ msg.NoRoom session epoch ask live reserved
  pub asked : is_session ask k.asking ≡ true

pub refuses-or-not : (k : Clerk) (m : Msg) → AnswersNone k m ⊎ IsRefusal k m
refuses-or-not k (msg.NoRoom s e ask live reserved) = go (is_session ask k.asking) refl
  where
    go : (b : Bool) → is_session ask k.asking ≡ b → (is_session ask k.asking ≡ false) ⊎ IsRefusal k (msg.NoRoom s e ask live reserved)
    go false q = inl q
    go true q = inr (record { session = s; epoch = e; ask = ask; live = live; reserved = reserved; is = refl; asked = q })
refuses-or-not k (msg.Ended s low mask) = inl tt
refuses-or-not k (msg.Opened age s e) = inl tt
refuses-or-not k (msg.Grant s e x n h i) = inl tt
refuses-or-not k (msg.Recall s e x n h) = inl tt
refuses-or-not k (msg.Kept s e b) = inl tt
refuses-or-not k (msg.Ids s e got n x) = inl tt
refuses-or-not k (msg.Restarted s e) = inl tt
refuses-or-not k (msg.OldBoot x y) = inl tt
refuses-or-not k (msg.Hello i x) = inl tt
refuses-or-not k (msg.Want s e x h n) = inl tt
refuses-or-not k (msg.Back s e x n h) = inl tt
refuses-or-not k (msg.Flush s e b ops) = inl tt
refuses-or-not k (msg.Room s e got ask) = inl tt
refuses-or-not k (msg.Claim s e l) = inl tt
refuses-or-not k (msg.Bye s e) = inl tt

-- a refusal, before the tries: the call is answered, or waits as it did
refused-as : (k : Clerk) (m : Msg) → IsRefusal k m → (ws : List Waiting) → k.waiting ≡ ws → (r : IsRefusal k m) → taken m (doing k) ≡ refuse_makes r.live r.reserved ws (record { clerk = record k { asking = None; waiting = [] }; outs = []; spent = None })
refused-as k m i ws q r =
    ap (λ z. taken z (doing k)) r.is ∙ ap (λ z. elim z as (λ o. Doing) [ true ↦ refuse_makes r.live r.reserved k.waiting (with_clerk (λ k. record k { asking = None; waiting = [] }) (doing k)) | false ↦ doing k ]) r.asked
    ∙ ap (λ z. refuse_makes r.live r.reserved z (record { clerk = record k { asking = None; waiting = [] }; outs = []; spent = None })) q

-- no call comes about
pub empties : (k : Clerk) (m : Msg) → k.waiting ≡ [] → (take m k).clerk.waiting ≡ []
empties k m none = elim (refuses-or-not k m) [
  | inl a ↦ idle-empty (taken m (doing k)) (waits-on m k a ∙ none)
  | inr r ↦ idle-empty (taken m (doing k)) (ap (λ z. z.clerk.waiting) (refused-as k m r [] none r))
]

-- before the tries a call that goes on waiting is the clerk's one, and it has its session and ids
abbrev GoesOnOrNot : Waiting → Clerk → Msg → Type 0
GoesOnOrNot w k m = ((taken m (doing k)).clerk.waiting ≡ w ∷ []) ⊎ ((taken m (doing k)).clerk.waiting ≡ [])

pub waits-or-not : (w : Waiting) (k : Clerk) (m : Msg) → k.waiting ≡ w ∷ [] → GoesOnOrNot w k m
waits-or-not w k m q = elim (refuses-or-not k m) [ inl a ↦ inl (waits-on m k a ∙ q) | inr r ↦ by r (Rattle.ec_protocol.specs.Clerk.idless (Rattle.ec_protocol.specs.Clerk.verdict w.call (record k { asking = None; waiting = [] }))) refl ]
  where
    chosen : Option (List ℕ) → IsRefusal k m → Doing
    chosen o r = elim o as (λ z. Doing) [
      | Some xs ↦ Rattle.ec_protocol.specs.Clerk.refuse_make r.live r.reserved w.no xs (record { clerk = record k { asking = None; waiting = [] }; outs = []; spent = None })
      | None ↦ Rattle.ec_protocol.specs.Clerk.keep_call w (record { clerk = record k { asking = None; waiting = [] }; outs = []; spent = None })
    ]

    by : (r : IsRefusal k m) (o : Option (List ℕ)) → Rattle.ec_protocol.specs.Clerk.idless (Rattle.ec_protocol.specs.Clerk.verdict w.call (record k { asking = None; waiting = [] })) ≡ o → GoesOnOrNot w k m
    by r (Some xs) f = inr (ap (λ z. z.clerk.waiting) (refused-as k m r (w ∷ []) q r ∙ ap (λ o. chosen o r) f))
    by r None f = inl (ap (λ z. z.clerk.waiting) (refused-as k m r (w ∷ []) q r ∙ ap (λ o. chosen o r) f))

-- a refusal leaves the session and the ids
refusal-still : (w : Waiting) (k : Clerk) (m : Msg) → k.waiting ≡ w ∷ [] → (r : IsRefusal k m) → IsStill k (taken m (doing k)).clerk
refusal-still w k m q r = by (Rattle.ec_protocol.specs.Clerk.idless (Rattle.ec_protocol.specs.Clerk.verdict w.call (record k { asking = None; waiting = [] }))) refl
  where
    chosen : Option (List ℕ) → Doing
    chosen o = elim o as (λ z. Doing) [
      | Some xs ↦ Rattle.ec_protocol.specs.Clerk.refuse_make r.live r.reserved w.no xs (record { clerk = record k { asking = None; waiting = [] }; outs = []; spent = None })
      | None ↦ Rattle.ec_protocol.specs.Clerk.keep_call w (record { clerk = record k { asking = None; waiting = [] }; outs = []; spent = None })
    ]

    by : (o : Option (List ℕ)) → Rattle.ec_protocol.specs.Clerk.idless (Rattle.ec_protocol.specs.Clerk.verdict w.call (record k { asking = None; waiting = [] })) ≡ o → IsStill k (taken m (doing k)).clerk
    by (Some xs) f = subst (λ z. IsStill k z.clerk) (sym (refused-as k m r (w ∷ []) q r ∙ ap chosen f)) (refl, refl, refl)
    by None f = subst (λ z. IsStill k z.clerk) (sym (refused-as k m r (w ∷ []) q r ∙ ap chosen f)) (refl, refl, refl)

unasked-still : (k : Clerk) (s e ask live reserved : ℕ) → is_session ask k.asking ≡ false → IsStill k (taken (msg.NoRoom s e ask live reserved) (doing k)).clerk
unasked-still k s e ask live reserved q = subst (λ b. IsStill k (elim b as (λ o. Doing) [ true ↦ refuse_makes live reserved k.waiting (with_clerk (λ k. record k { asking = None; waiting = [] }) (doing k)) | false ↦ doing k ]).clerk) (sym q) (refl, refl, refl)

-- The first id that a clerk gets next depends on its session and on how often it took some.
still-given : (next : ℕ) (k now : Clerk) (o : Option Slot) → IsStill k now → next_given next now o ≡ next_given next k o
still-given next k now None s = refl
still-given next k now (Some sl) s =
    ap (λ z. elim (is_some z && (sl.grants == now.got + 1)) as (λ y. ℕ) [ true ↦ or_else 0 sl.last_first | false ↦ next ]) s.0
    ∙ ap (λ z. elim (is_some k.session && (sl.grants == z + 1)) as (λ y. ℕ) [ true ↦ or_else 0 sl.last_first | false ↦ next ]) s.1

abbrev pub object_from : ℕ → Option Slot → Clerk → ℕ
object_from next o k = or_else (next_given next k o) (first_id k.ids)

still-object : (next : ℕ) (k now : Clerk) (o : Option Slot) → IsStill k now → object_from next o now ≡ object_from next o k
still-object next k now o s = ap (λ z. or_else z (first_id now.ids)) (still-given next k now o s) ∙ ap (λ z. or_else (next_given next k o) (first_id z)) s.2

module _ (j : Work) (w : World) (sc : Scene) (g : System) (on : IsOnLine j w sc g) (spare : IsSpare j sc) (scene : IsScene w sc) (m : Msg) (rest : Mail) (mail : sc.mail ≡ (j.clerk, m) ∷ rest) (clerk : is_for_server m ≡ false) (k : Clerk) (there : at j.clerk sc.clerks ≡ Some k) where
  abbrev Head : Phase → Type 0
  Head p = messages j sc p ≡ (j.clerk, m) ∷ main j rest

  pub head : (p : Phase) → InPhase j sc p → Head p
  head p ip = sym ip.main_is ∙ ap (main j) mail ∙ main-front j (j.clerk, m) rest (for-clerk j (j.clerk, m) clerk)

  is-msg : (a : ℕ × Msg) (more : Mail) → a ∷ more ≡ (j.clerk, m) ∷ main j rest → a.1 ≡ m
  is-msg a more e = ap (λ z. z.1) (head-same a (j.clerk, m) more (main j rest) e)

  -- one for the server is none for a clerk
  not-server : {A : Type 0} (a : ℕ × Msg) (more : Mail) → is_for_server a.1 ≡ true → a ∷ more ≡ (j.clerk, m) ∷ main j rest → A
  not-server {A} a more s e = absurd (apart (sym s ∙ ap is_for_server (is-msg a more e) ∙ clerk))
    where
      apart : true ≡ false → ⊥
      apart q = cc

  its : (a : Clerk) → at j.clerk sc.clerks ≡ Some a → a ≡ k
  its a e = same_some (sym e ∙ there)

  -- Which call waits.

  abbrev pub WaitsFor : Type 0
  WaitsFor = (k.waiting ≡ []) ⊎ ((v : Waiting) × (k.waiting ≡ v ∷ []))

  by-task : (t : Task) (a : Clerk) → a ≡ k → HasTask t a → WaitsFor
  by-task (Calls cl) a e h = inr (h.0, ap (λ z. z.waiting) (sym e) ∙ h.1)
  by-task (Pushes n) a e h = inl (ap (λ z. z.waiting) (sym e) ∙ h.0)

  starting : (age : _) → IsStarting j sc age → WaitsFor
  starting age s = elim s.task [
    | inl d ↦ inl (ap (λ z. z.waiting) (sym (its s.clerk s.there)) ∙ d.0)
    | inr l ↦ by-task j.task s.clerk (its s.clerk s.there) l.0
  ]

  pub waits-for : (p : Phase) → InPhase j sc p → WaitsFor
  waits-for (Greets age) ip = starting age ip.facts.1
  waits-for (Opens age) ip = starting age ip.facts.1
  waits-for (Claims None) ip = let f = ip.facts.1 in inl (ap (λ z. z.waiting) (sym (its f.clerk f.working.there)) ∙ f.done.0)
  waits-for (Claims (Some q)) ip = let f = ip.facts.1 in by-task j.task f.clerk (its f.clerk f.working.there) f.task
  waits-for (Wants x h n) ip = let f = ip.facts.1 in by-task j.task f.clerk (its f.clerk f.working.there) f.task
  waits-for (Recalls x h rs bs) ip = let f = (ip.facts.0).wanting in by-task j.task f.clerk (its f.clerk f.working.there) f.task
  waits-for (Flushes x h r b ops more) ip = let f = (ip.facts.0).wanting in by-task j.task f.clerk (its f.clerk f.working.there) f.task
  waits-for (Keeps x h r b more) ip = let f = (ip.facts.0).wanting in by-task j.task f.clerk (its f.clerk f.working.there) f.task
  waits-for (Grants x h n) ip = let f = ip.facts.3 in by-task j.task f.clerk (its f.clerk f.working.there) f.task
  waits-for (Asks again got ask) ip = let f = ip.facts.1 in by-task j.task f.clerk (its f.clerk f.working.there) f.task
  waits-for (Gives got n first) ip = let f = ip.facts.3 in by-task j.task f.clerk (its f.clerk f.working.there) f.task
  waits-for (Refuses again ask live reserved) ip = let f = ip.facts.1 in by-task j.task f.clerk (its f.clerk f.working.there) f.task
  waits-for (Saves b ops more) ip = let f = ip.facts.1 in by-task j.task f.clerk (its f.clerk f.working.there) f.task
  waits-for (Saved b more) ip = let f = ip.facts.1 in by-task j.task f.clerk (its f.clerk f.working.there) f.task
  waits-for Ends ip = let f = ip.facts.1 in inl (ap (λ z. z.waiting) (sym (its f.clerk f.working.there)) ∙ f.done.0)

  -- What the step leaves.
  pub own-leaves : (b : ℕ) (runs : g.running j.clerk ≡ Some b) (stands : g.clerks j.clerk b ≡ Some k) (sent : Contains g.pool (j.clerk, m)) → WaitsFor → LeavesOrAnswers g on.whole j.clerk b k runs stands m sent
  own-leaves b runs stands sent (inl none) = answers-steps g on.whole j.clerk b k runs stands m sent (empties k m none)
  own-leaves b runs stands sent (inr v) = elim (refuses-or-not k m) [
    | inl a ↦ one-leaves g on.whole j.clerk b k runs stands m sent a v.0 v.1
    | inr r ↦ by-session r k.session refl
  ]
    where
      by-session : (r : IsRefusal k m) (o : Option ℕ) → k.session ≡ o → LeavesOrAnswers g on.whole j.clerk b k runs stands m sent
      by-session r (Some s) e = room-leaves g on.whole j.clerk b k runs stands m sent s e v.0 v.1 r.session r.epoch r.ask r.live r.reserved r.is r.asked
      by-session r None e = absurd (apart (sym (ap (is_session r.ask) ((on.whole.all.0).sessions.without j.clerk b k stands e).asking) ∙ r.asked))
        where
          apart : false ≡ true → ⊥
          apart q = cc

  -- The id of its next object.

  abbrev next : ℕ
  next = sc.server.durable.next_id

  abbrev mine : Option Slot
  mine = slot sc.server.durable j.clerk

  abbrev KeepsObject : Type 0
  KeepsObject = object_from next mine (take m k).clerk ≡ object_from next mine k

  -- behind a message that leaves the session and the ids
  by-still : (v : Waiting) → k.waiting ≡ v ∷ [] → ((take m k).clerk.waiting ≡ [] → ⊥) → IsStill k (taken m (doing k)).clerk → KeepsObject
  by-still v q waits s = elim (waits-or-not v k m q) [
    | inr none ↦ absurd (waits (idle-empty (taken m (doing k)) none))
    | inl some ↦ elim (settle-still v (taken m (doing k)) some) [
      | inr none ↦ absurd (waits none)
      | inl t ↦ still-object next (taken m (doing k)).clerk (take m k).clerk mine t ∙ still-object next k (taken m (doing k)).clerk mine s
    ]
  ]

  opened-ids : (age : _) (s e : ℕ) → ((taken (msg.Opened age s e) (doing k)).clerk.ids ≡ k.ids) × ((taken (msg.Opened age s e) (doing k)).clerk.got ≡ k.got)
  opened-ids age s e = go (not (has_session k) && same_age age k.age)
    where
      go : (b : Bool) → let d = elim b as (λ z. Doing) [ true ↦ Rattle.ec_protocol.specs.Clerk.send (msg.Claim s e []) (with_clerk (λ k. record k { session = Some s; epoch = e }) (doing k)) | false ↦ doing k ] in (d.clerk.ids ≡ k.ids) × (d.clerk.got ≡ k.got)
      go true = (refl, refl)
      go false = (refl, refl)

  by-opened : (age : _) (ip : InPhase j sc (Opens age)) (v : Waiting) → k.waiting ≡ v ∷ [] → ((take m k).clerk.waiting ≡ [] → ⊥) → msg.Opened age j.session sc.server.durable.epoch ≡ m → KeepsObject
  by-opened age ip v q waits is = elim (waits-or-not v k m q) [
    | inr none ↦ absurd (waits (idle-empty (taken m (doing k)) none))
    | inl some ↦ elim (settle-still v (taken m (doing k)) some) [
      | inr none ↦ absurd (waits none)
      | inl t ↦ now t ∙ sym was
    ]
  ]
    where
      st : IsStarting j sc age
      st = ip.facts.1

      new : st.clerk ≡ k
      new = its st.clerk st.there

      before : ((taken m (doing k)).clerk.ids ≡ k.ids) × ((taken m (doing k)).clerk.got ≡ k.got)
      before = subst (λ z. ((taken z (doing k)).clerk.ids ≡ k.ids) × ((taken z (doing k)).clerk.got ≡ k.got)) is (opened-ids age j.session sc.server.durable.epoch)

      no-ids : k.ids ≡ []
      no-ids = ap (λ z. z.ids) (sym new) ∙ st.new.ids

      none-got : k.got ≡ 0
      none-got = ap (λ z. z.got) (sym new) ∙ st.new.got

      none-given : (b : Bool) (grants got first : ℕ) → grants ≡ 0 → got ≡ 0 → elim (b && (grants == got + 1)) as (λ y. ℕ) [ true ↦ first | false ↦ next ] ≡ next
      none-given b grants got first x y = ap (λ z. elim z as (λ y. ℕ) [ true ↦ first | false ↦ next ]) (off b (grants == got + 1) (differs grants got x y))
        where
          off : (a b : Bool) → b ≡ false → (a && b) ≡ false
          off true b e = e
          off false b e = refl

          differs : (grants got : ℕ) → grants ≡ 0 → got ≡ 0 → (grants == got + 1) ≡ false
          differs grants got x y = differ grants (got + 1) (λ e. omega (arith, x, y, e))

      was : object_from next mine k ≡ next
      was = ap (λ z. or_else (next_given next k mine) (first_id z)) no-ids ∙ ap (next_given next k) ip.facts.3 ∙ none-given (is_some k.session) (ip.facts.2).grants k.got (or_else 0 (ip.facts.2).last_first) ip.facts.6 none-got

      now : IsStill (taken m (doing k)).clerk (take m k).clerk → object_from next mine (take m k).clerk ≡ next
      now t =
          ap (λ z. or_else (next_given next (take m k).clerk mine) (first_id z)) (t.2 ∙ before.0 ∙ no-ids) ∙ ap (next_given next (take m k).clerk) ip.facts.3
          ∙ none-given (is_some (take m k).clerk.session) (ip.facts.2).grants (take m k).clerk.got (or_else 0 (ip.facts.2).last_first) ip.facts.6 (t.1 ∙ before.1 ∙ none-got)

  by-ids : (got n first : ℕ) (ip : InPhase j sc (Gives got n first)) (v : Waiting) → k.waiting ≡ v ∷ [] → ((take m k).clerk.waiting ≡ [] → ⊥) → msg.Ids j.session sc.server.durable.epoch got n first ≡ m → Contains g.pool (j.clerk, m) → KeepsObject
  by-ids got n first ip v q waits is sent = elim (waits-or-not v k m q) [
    | inr none ↦ absurd (waits (idle-empty (taken m (doing k)) none))
    | inl some ↦ elim (settle-still v (taken m (doing k)) some) [
      | inr none ↦ absurd (waits none)
      | inl t ↦ ap (λ z. or_else (next_given next (take m k).clerk mine) (first_id z)) (t.2 ∙ with-ids) ∙ ap (λ z. or_else (next_given next (take m k).clerk mine) (first_id (z ++ run first ids_per_grant))) no-ids ∙ sym was
    ]
  ]
    where
      new : (ip.facts.3).clerk ≡ k
      new = its (ip.facts.3).clerk (ip.facts.3).working.there

      no-ids : k.ids ≡ []
      no-ids = ap (λ z. z.ids) (sym new) ∙ (ip.facts.3).ids

      in-session : k.session ≡ Some j.session
      in-session = ap (λ z. z.session) (sym new) ∙ (ip.facts.3).working.inside.session ∙ ap Some (ip.facts.3).working.session

      in-epoch : k.epoch ≡ sc.server.durable.epoch
      in-epoch = ap (λ z. z.epoch) (sym new) ∙ (ip.facts.3).working.inside.epoch

      got-is : got ≡ k.got
      got-is = ip.facts.4 ∙ ap (λ z. z.got) new

      with-ids : (taken m (doing k)).clerk.ids ≡ k.ids ++ run first ids_per_grant
      with-ids = ap (λ z. (taken z (doing k)).clerk.ids) (sym is) ∙ ap (λ z. (taken (msg.Ids j.session sc.server.durable.epoch z n first) (doing k)).clerk.ids) got-is
          ∙ ap (λ z. z.clerk.ids) (begun.ids j.session sc.server.durable.epoch k (in-session, in-epoch) n first (ap (nat_le last_grants) (sym got-is) ∙ Rattle.ec_complete.proofs.ForLines.Taking.countable j w sc g on spare scene got n first ip (subst (λ z. Contains g.pool (j.clerk, z)) (sym is) sent)))

      was : object_from next mine k ≡ first
      was = ap (λ z. or_else (next_given next k mine) (first_id z)) no-ids ∙ ap (next_given next k) ((ip.facts.3).working.inside.there) ∙ ap (λ z. next_given next z (Some (ip.facts.3).slot)) (sym new)
          ∙ first-given j w sc g on spare scene got n first ip (subst (λ z. Contains g.pool (j.clerk, z)) (sym is) sent)

  pub keeps-object : (p : Phase) → InPhase j sc p → Contains g.pool (j.clerk, m) → (v : Waiting) → k.waiting ≡ v ∷ [] → ((take m k).clerk.waiting ≡ [] → ⊥) → KeepsObject
  keeps-object p ip sent v q waits = by p ip (head p ip)
    where
      by : (p : Phase) → InPhase j sc p → Head p → KeepsObject
      by (Greets age) ip e = not-server _ _ refl e
      by (Opens age) ip e = by-opened age ip v q waits (is-msg _ _ e)
      by (Claims o) ip e = not-server _ _ refl e
      by (Wants x h n) ip e = not-server _ _ refl e
      by (Recalls x h (r ∷ rs) bs) ip e = by-still v q waits (subst (λ z. IsStill k (taken z (doing k)).clerk) (is-msg (recall_of sc x h r) _ e) (are-still.takes_recall (msg.Recall r.0 sc.server.durable.epoch x r.2 (recall_to h)) tt (doing k)))
      by (Recalls x h [] []) ip e = absurd (none-first (j.clerk, m) (main j rest) e)
      by (Recalls x h [] (b ∷ bs)) ip e = not-server _ _ refl e
      by (Flushes x h r b ops more) ip e = not-server _ _ refl e
      by (Keeps x h r b more) ip e = by-still v q waits (subst (λ z. IsStill k (taken z (doing k)).clerk) (is-msg (session_clerk sc.server r.0, msg.Kept r.0 sc.server.durable.epoch b) [] e) (are-still.kept (msg.Kept r.0 sc.server.durable.epoch b) tt (doing k)))
      by (Grants x h n) ip e = by-still v q waits (subst (λ z. IsStill k (taken z (doing k)).clerk) (is-msg (j.clerk, msg.Grant j.session sc.server.durable.epoch x n h (images sc.server.durable.volume x)) [] e) (are-still.grants (msg.Grant j.session sc.server.durable.epoch x n h (images sc.server.durable.volume x)) tt (doing k)))
      by (Asks again got ask) ip e = not-server _ _ refl e
      by (Gives got n first) ip e = by-ids got n first ip v q waits (is-msg _ _ e) sent
      by (Refuses again ask live reserved) ip e = elim (refuses-or-not k m) [
        | inr r ↦ by-still v q waits (refusal-still v k m q r)
        | inl a ↦ by-still v q waits (subst (λ z. IsStill k (taken z (doing k)).clerk) (is-msg _ _ e)
            (unasked-still k j.session sc.server.durable.epoch ask live reserved (subst (AnswersNone k) (sym (is-msg _ _ e)) a)))
      ]
      by (Saves b ops more) ip e = not-server _ _ refl e
      by (Saved b more) ip e = by-still v q waits (subst (λ z. IsStill k (taken z (doing k)).clerk) (is-msg (j.clerk, msg.Kept j.session sc.server.durable.epoch b) [] e) (are-still.kept (msg.Kept j.session sc.server.durable.epoch b) tt (doing k)))
      by Ends ip e = absurd (none-first (j.clerk, m) (main j rest) e)

  -- Where an operation is pushed each want stays answered.

  still-answered : (now : Clerk) → now.wanted ≡ k.wanted → now.cache.lasts ≡ k.cache.lasts → Each (WantIsAnswered k.cache) k.wanted → Each (WantIsAnswered now.cache) now.wanted
  still-answered now a b e = subst (Each (WantIsAnswered now.cache)) (sym a) (each k.wanted e)
    where
      each : (ws : List Wanted) → Each (WantIsAnswered k.cache) ws → Each (WantIsAnswered now.cache) ws
      each [] e = tt
      each (v ∷ ws) e = (subst (λ z. v.last < at_or 0 v.obj z) (sym b) e.0, each ws e.1)

  idle-answered : (z : Msg) → z ≡ m → (taken z (doing k)).clerk.recalls ≡ [] → k.waiting ≡ [] → (taken z (doing k)).clerk.waiting ≡ k.waiting → (taken z (doing k)).clerk.wanted ≡ k.wanted → (taken z (doing k)).clerk.cache.lasts ≡ k.cache.lasts
      → Each (WantIsAnswered k.cache) k.wanted → Each (WantIsAnswered (take m k).clerk.cache) (take m k).clerk.wanted
  idle-answered z is r none w a b e =
      subst (λ y. Each (WantIsAnswered (take y k).clerk.cache) (take y k).clerk.wanted) is
      (let s = idle-same (taken z (doing k)) r (w ∙ none) in still-answered (take z k).clerk (s.0 ∙ a) (s.1 ∙ b) e)

  opened-same : (age : _) (s e : ℕ) → let d = taken (msg.Opened age s e) (doing k) in (d.clerk.recalls ≡ k.recalls) × (d.clerk.waiting ≡ k.waiting) × (d.clerk.wanted ≡ k.wanted) × (d.clerk.cache.lasts ≡ k.cache.lasts)
  opened-same age s e = go (not (has_session k) && same_age age k.age)
    where
      go : (b : Bool) → let d = elim b as (λ z. Doing) [ true ↦ Rattle.ec_protocol.specs.Clerk.send (msg.Claim s e []) (with_clerk (λ k. record k { session = Some s; epoch = e }) (doing k)) | false ↦ doing k ] in (d.clerk.recalls ≡ k.recalls) × (d.clerk.waiting ≡ k.waiting) × (d.clerk.wanted ≡ k.wanted) × (d.clerk.cache.lasts ≡ k.cache.lasts)
      go true = (refl, refl, refl, refl)
      go false = (refl, refl, refl, refl)

  kept-same : (s e b : ℕ) → let d = taken (msg.Kept s e b) (doing k) in (d.clerk.recalls ≡ k.recalls) × (d.clerk.waiting ≡ k.waiting) × (d.clerk.wanted ≡ k.wanted) × (d.clerk.cache.lasts ≡ k.cache.lasts)
  kept-same s e b = go (is_session s k.session)
    where
      go : (z : Bool) → let d = elim z as (λ y. Doing) [ true ↦ with_log (log.kept b) (doing k) | false ↦ doing k ] in (d.clerk.recalls ≡ k.recalls) × (d.clerk.waiting ≡ k.waiting) × (d.clerk.wanted ≡ k.wanted) × (d.clerk.cache.lasts ≡ k.cache.lasts)
      go true = (refl, refl, refl, refl)
      go false = (refl, refl, refl, refl)

  none-saves : {A : Type 0} (n : ℕ) → j.task ≡ Pushes n → is_saving j.task ≡ false → A
  none-saves {A} n e f = absurd (apart (sym (ap is_saving e) ∙ f))
    where
      apart : true ≡ false → ⊥
      apart q = cc

  push-waits : (n : ℕ) (t : Task) → t ≡ Pushes n → (a : Clerk) → HasTask t a → a.waiting ≡ []
  push-waits n (Pushes o) e a h = h.0
  push-waits n (Calls cl) e a h = absurd (apart e)
    where
      apart : Calls cl ≡ Pushes n → ⊥
      apart q = cc

  pub stays-answered : (p : Phase) → InPhase j sc p → (n : ℕ) → j.task ≡ Pushes n → Each (WantIsAnswered (take m k).clerk.cache) (take m k).clerk.wanted
  stays-answered p ip n task = by p ip (head p ip)
    where
      abbrev-answered : Each (WantIsAnswered k.cache) k.wanted
      abbrev-answered = on.answered n task k there

      by : (p : Phase) → InPhase j sc p → Head p → Each (WantIsAnswered (take m k).clerk.cache) (take m k).clerk.wanted
      by (Greets age) ip e = not-server _ _ refl e
      by (Opens age) ip e =
          let st = ip.facts.1 in
          let same = opened-same age j.session sc.server.durable.epoch in
          idle-answered (msg.Opened age j.session sc.server.durable.epoch) (is-msg _ _ e) (same.0 ∙ ap (λ z. z.recalls) (sym (its st.clerk st.there)) ∙ st.new.recalls) (none st) same.1 same.2 same.3 abbrev-answered
        where
          none : IsStarting j sc age → k.waiting ≡ []
          none st = elim st.task [
            | inl d ↦ ap (λ z. z.waiting) (sym (its st.clerk st.there)) ∙ d.0
            | inr l ↦ ap (λ z. z.waiting) (sym (its st.clerk st.there)) ∙ push-waits n j.task task st.clerk l.0
          ]
      by (Claims o) ip e = not-server _ _ refl e
      by (Wants x h v) ip e = not-server _ _ refl e
      by (Recalls x h rs bs) ip e = let f = (ip.facts.0).wanting in absurd (unanswered j w sc g on spare scene x h f.clerk n task f.working.there f.earlier f.wants)
      by (Flushes x h r b ops more) ip e = not-server _ _ refl e
      by (Keeps x h r b more) ip e = let f = (ip.facts.0).wanting in absurd (unanswered j w sc g on spare scene x h f.clerk n task f.working.there f.earlier f.wants)
      by (Grants x h v) ip e = let f = ip.facts.3 in absurd (unanswered j w sc g on spare scene x h f.clerk n task f.working.there f.earlier f.wants)
      by (Asks again got ask) ip e = not-server _ _ refl e
      by (Gives got v first) ip e = none-saves n task (ip.facts.3).makes
      by (Refuses again ask live reserved) ip e = none-saves n task (ip.facts.1).makes
      by (Saves b ops more) ip e = not-server _ _ refl e
      by (Saved b more) ip e =
          let f = ip.facts.1 in
          let same = kept-same j.session sc.server.durable.epoch b in
          let is = its f.clerk f.working.there in
          idle-answered (msg.Kept j.session sc.server.durable.epoch b) (is-msg _ _ e) (same.0 ∙ ap (λ z. z.recalls) (sym is) ∙ f.working.recalls) (ap (λ z. z.waiting) (sym is) ∙ push-waits n j.task task f.clerk f.task) same.1 same.2 same.3 abbrev-answered
      by Ends ip e = absurd (none-first (j.clerk, m) (main j rest) e)
