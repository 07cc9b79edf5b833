-- The server takes the next message of a line: what is kept stays, and so does the id that the clerk's next object gets.
use Rattle.std.proofs.Common.{◌≡◌, refl, sym, ap, subst, ◌∙◌, inl, inr, arith, ◌≤◌, ◌+◌, ℕ, Bool, true, false, ◌==◌, ◌&&◌, cond, length, T, List, [], ◌∷◌, Option, Some, None}
use Rattle.std.specs.Prelude.{is_some, nat_le, Contains}
use Rattle.std.specs.List.{list_all}
use Rattle.ec_base.specs.Tables.{at, keys, or_else}
use Rattle.ec_volume.specs.Update.{is_sound}
use Rattle.ec_volume.specs.declared.update.Update.{Update}
use Rattle.ec_sessions.specs.declared.slot.Slot.{Slot}
use Rattle.ec_wire.specs.Messages as messages
use Rattle.ec_wire.specs.declared.msg.Msg.{Msg}
use Rattle.ec_wire.specs.declared.msg.Msg.TheVariants as msg
use Rattle.ec_durable.specs.Durable.{is_session, slot}
use Rattle.ec_durable.specs.Steps.{AreSound, AreSoundOps}
use Rattle.ec_durable.specs.WellFormed.{IsInOrder}
use Rattle.ec_durable.specs.declared.record.Record.{Record}
use Rattle.ec_durable.specs.declared.record.Record.TheVariants.{Batch, Open, End, Ids, Epoch}
use Rattle.ec_durable.proofs.Kept.{step_kept}
use Rattle.ec_protocol.specs.Server as server
use Rattle.ec_protocol.specs.Server.{Serving}
use Rattle.ec_protocol.specs.declared.clerk.Clerk.{Clerk}
use Rattle.ec_protocol.specs.declared.world.World.{World}
use Rattle.ec_coherence.specs.Invariant.{Invariant}
use Rattle.ec_coherence.specs.Log.{IdsAgree}
use Rattle.ec_coherence.specs.Steps.{Committed, serving_in}
use Rattle.ec_coherence.specs.System.{Ghost, System}
use Rattle.ec_coherence.proofs.ForCommits.Needs.{each-of}
use Rattle.ec_coherence.proofs.ForBatches.OpenSlots.{at-open}
use Rattle.ec_coherence.proofs.ForServer.Tables.{differ, same_some}
use Rattle.ec_coherence.specs.CommitLaws as commits
use Rattle.ec_lawful.proofs.OfClerkSteps.ForJoins.Steps.{batch-field, ids-are, ids-open, open-is}
use Rattle.ec_coherence.specs.Makes.{IsMade, Makes}
use Rattle.ec_coherence.proofs.TakesMaking.{takes-any}
use Rattle.ec_machine_laws.proofs.Taken.{batches-flushed}
use Rattle.ec_quiet.specs.Phases.{Phase, Greets, Opens, Claims, Wants, Recalls, Flushes, Keeps, Grants, Asks, Gives, Refuses, Saves, Saved, Ends, InPhase, backs, is_back, main, messages}
use Rattle.ec_quiet.specs.Scenes.{IsScene, Mail, Scene, is_for_server, served}
use Rattle.ec_quiet.specs.Works.{Work}
use Rattle.ec_quiet.proofs.OfDeliveries.Working.{main-front}
use Rattle.ec_quiet.proofs.OfDeliveries.ServerDelivered.{head-same}
use Rattle.ec_complete.specs.OfAgreedLines.Worlds.{IsSeen}
use Rattle.ec_complete.proofs.OfAgreedLines.Seen.{clerk-there, scenes-seen}
use Rattle.ec_complete.specs.Lines.{IsOnLine, next_given, next_object}
use Rattle.ec_complete.proofs.ForLines.Taking.{next-sent}
use Rattle.ec_complete.proofs.ForLines.Standing.{InSlot, in-slot, other, own}
use Rattle.ec_base.proofs.Bools.{left as and_first, right as and_next, is-true, holds-true as holds}
use Rattle.ec_base.proofs.Numbers.{same-self as same, equal}
use Rattle.ec_base.proofs.Options.{none_some}

-- A phase whose next message is for the server isn't that of a session that was opened.
not-opens : (j : Work) (sc : Scene) (age : _) (m : ℕ × Msg) (rest : Mail) → InPhase j sc (Opens age) → sc.mail ≡ m ∷ rest → is_for_server m.1 ≡ true → ⊥
not-opens j sc age m rest ip mail server = go (is_back j m) refl
  where
    some : (x : ℕ × Msg) (xs : Mail) → x ∷ xs ≡ [] → ⊥
    some x xs e = cc

    fails : false ≡ true → ⊥
    fails e = cc

    go : (b : Bool) → is_back j m ≡ b → ⊥
    go true e = some m (backs j rest) (sym (ap (λ b. cond b (m ∷ backs j rest) (backs j rest)) e) ∙ ap (backs j) (sym mail) ∙ (ip.facts.1).none_back)
    go false e = fails (ap (λ z. is_for_server z.1) (head-same (j.clerk, msg.Opened age j.session sc.server.durable.epoch) m [] (main j rest) (sym ip.main_is ∙ ap (main j) mail ∙ main-front j m rest e)) ∙ server)

-- What is sound of a message is sound of the record.
ops-sound : (ops : List (ℕ × Update)) → T (list_all (λ op. is_sound op.1) ops) → AreSoundOps ops
ops-sound [] t = tt
ops-sound (op ∷ ops) t = (and_first (is_sound op.1) _ t, ops-sound ops (and_next (is_sound op.1) _ t))

module _ (j : Work) (w : World) (sc : Scene) (g : System) (p q : Phase) (c : ℕ) (m : Msg) (rest : Mail) (on : IsOnLine j w sc g) (scene : IsScene w sc) (ip : InPhase j sc p) (mail : sc.mail ≡ (c, m) ∷ rest)
    (for-server : is_for_server m ≡ true) (iq : InPhase j (served c m rest sc) q) where
  abbrev pub t : Serving
  t = server.take c m sc.server

  abbrev after : Scene
  after = served c m rest sc

  seen : IsSeen g sc
  seen = scenes-seen w g sc on.stands scene

  inv : Invariant g
  inv = on.whole.all.0

  sent : Contains g.pool (c, m)
  sent = next-sent w g sc on.stands scene (c, m) rest mail

  pub made : IsMade g sc.server t
  made = takes-any g sc.server on.whole.all seen.server c m sent

  -- An open session is that of a clerk that runs, and stays open.

  pub record Runs (a s : ℕ) : Type 0 where
    pub clerk : Clerk
    pub there : at a sc.clerks ≡ Some clerk
    pub inside : clerk.session ≡ Some s

  pub runs : (a : ℕ) (sl : Slot) → slot sc.server.durable a ≡ Some sl → T sl.is_open → Runs a sl.session
  runs a sl here opened = by (at a sc.clerks) refl (ip.orderly.run a sl here (is-true sl.is_open opened))
    where
      of-slot : (k : Clerk) (s : ℕ) → at a sc.clerks ≡ Some k → k.session ≡ Some s → Runs a sl.session
      of-slot k s e f =
          let i = in-slot j sc p ip a k s e f in
          let same_slot : sl ≡ i.slot_of = same_some (sym here ∙ i.here) in
          record { clerk = k; there = e; inside = f ∙ ap Some (sym i.session ∙ ap (λ z. z.session) (sym same_slot)) }

      no-session : (k : Clerk) → at a sc.clerks ≡ Some k → k.session ≡ None → ⊥
      no-session k e f = go (a == j.clerk) refl
        where
          apart : (s : ℕ) → ◌≡◌ {A = Option ℕ} None (Some s) → ⊥
          apart s r = cc

          closed : false ≡ true → ⊥
          closed r = cc

          at-own : (a == j.clerk) ≡ true → slot sc.server.durable j.clerk ≡ Some sl
          at-own r = ap (slot sc.server.durable) (sym (equal a j.clerk r)) ∙ here

          by-phase : (p : Phase) → InPhase j sc p → (a == j.clerk) ≡ true → ((xs : List ℕ) (z : Slot) (k : Clerk) → Rattle.ec_quiet.specs.Phases.IsWorking xs j sc z k → ⊥) → ⊥
          by-phase (Greets age) ip r n = closed (sym ip.facts.2 ∙ ap Rattle.ec_sessions.specs.Slots.is_open (at-own r) ∙ is-true sl.is_open opened)
          by-phase (Opens age) ip r n = not-opens j sc age (c, m) rest ip mail for-server
          by-phase (Claims o) ip r n = by-own (own j sc (Claims o) ip) n
            where
              by-own : Rattle.ec_complete.proofs.ForLines.Standing.IsNewOrWorks j sc → ((xs : List ℕ) (z : Slot) (k : Clerk) → Rattle.ec_quiet.specs.Phases.IsWorking xs j sc z k → ⊥) → ⊥
              by-own (inr f) n = n f.0 f.1 f.2 f.3
              by-own (inl f) n = by-claim o ip n
                where
                  by-claim : (o : Option (ℕ × _)) → InPhase j sc (Claims o) → ((xs : List ℕ) (z : Slot) (k : Clerk) → Rattle.ec_quiet.specs.Phases.IsWorking xs j sc z k → ⊥) → ⊥
                  by-claim None ip n = n _ _ _ (ip.facts.1).working
                  by-claim (Some x) ip n = n _ _ _ (ip.facts.1).working
          by-phase (Wants x h k) ip r n = n _ _ _ (ip.facts.1).working
          by-phase (Recalls x h rs bs) ip r n = n _ _ _ (ip.facts.0).wanting.working
          by-phase (Flushes x h z b ops more) ip r n = n _ _ _ (ip.facts.0).wanting.working
          by-phase (Keeps x h z b more) ip r n = n _ _ _ (ip.facts.0).wanting.working
          by-phase (Grants x h k) ip r n = n _ _ _ (ip.facts.3).working
          by-phase (Asks again got ask) ip r n = n _ _ _ (ip.facts.1).working
          by-phase (Gives got k first) ip r n = n _ _ _ (ip.facts.3).working
          by-phase (Refuses again ask live reserved) ip r n = n _ _ _ (ip.facts.1).working
          by-phase (Saves b ops more) ip r n = n _ _ _ (ip.facts.1).working
          by-phase (Saved b more) ip r n = n _ _ _ (ip.facts.1).working
          by-phase Ends ip r n = n _ _ _ (ip.facts.1).working

          go : (b : Bool) → (a == j.clerk) ≡ b → ⊥
          go false r = let o = other j sc p ip a k r e in apart o.slot_of.session (sym f ∙ o.session)
          go true r = by-phase p ip r (λ xs z x i. apart z.session (sym f ∙ ap (λ y. y.session) (same_some (sym e ∙ ap (λ y. at y sc.clerks) (equal a j.clerk r) ∙ i.there)) ∙ i.inside.session))

      by-session : (k : Clerk) → at a sc.clerks ≡ Some k → (o : Option ℕ) → k.session ≡ o → Runs a sl.session
      by-session k e None f = absurd (no-session k e f)
      by-session k e (Some s) f = of-slot k s e f

      by : (o : Option Clerk) → at a sc.clerks ≡ o → T (is_some o) → Runs a sl.session
      by None e u = absurd u
      by (Some k) e u = by-session k e k.session refl

  pub stays-open : (a : ℕ) (sl : Slot) → slot sc.server.durable a ≡ Some sl → T sl.is_open → InSlot t.server a sl.session
  stays-open a sl here opened = let r = runs a sl here opened in in-slot j after q iq a r.clerk sl.session r.there r.inside

  module _ (γ : Ghost) (st : commits.StepStands g t γ) (mk : Makes g sc.server t.rec γ) where
    abbrev h : System
    h = serving_in t γ g

    -- no session ends
    not-ended : (a : ℕ) (sl : Slot) → slot sc.server.durable a ≡ Some sl → T sl.is_open → γ.frozen sl.session ≡ Some g.ghost.kept → ⊥
    not-ended a sl here opened frozen =
        let i = stays-open a sl here opened in
        none_some (sym ((st.0).invariant.images.unfrozen sl.session (at-open sl.session t.server.durable.sessions a i.slot_of (i.here, i.session, holds i.slot_of.is_open i.opened))) ∙ frozen)

    froze : (s : ℕ) (ks : List Rattle.ec_history.specs.History.Op) (f : Option (List Rattle.ec_history.specs.History.Op)) → elim (s == s) as (λ z. Option (List Rattle.ec_history.specs.History.Op)) [ true ↦ Some ks | false ↦ f ] ≡ Some ks
    froze s ks f = ap (λ b. elim b as (λ z. Option (List Rattle.ec_history.specs.History.Op)) [ true ↦ Some ks | false ↦ f ]) (same s)

    pub kept-same : γ.kept ≡ g.ghost.kept
    kept-same = go t.rec mk
      where
        go : (r : Option Record) → Makes g sc.server r γ → γ.kept ≡ g.ghost.kept
        go None e = ap (λ z. z.kept) e
        go (Some (Batch a s b ops)) e = ap (λ z. z.kept) e.4
        go (Some (Open a age s)) (inl e) = ap (λ z. z.kept) e.1
        go (Some (Open a age s)) (inr e) = absurd (not-ended a e.0 e.1 e.2 (ap (λ z. z.frozen (e.0).session) e.3 ∙ froze (e.0).session g.ghost.kept _))
        go (Some (End a s)) e = absurd (not-ended a e.0 e.1 e.2 (ap (λ z. z.frozen (e.0).session) e.4 ∙ froze (e.0).session g.ghost.kept _))
        go (Some (Ids a s got first)) e = ap (λ z. z.kept) e
        go (Some (Epoch e)) f = absurd f

    -- the state stays in order
    pub order-kept : IsInOrder t.server.durable
    order-kept = go t.rec refl (st.0).committed
      where
        before : IsInOrder g.durable
        before = subst IsInOrder (sym seen.durable) on.order

        record-sound : (r : Record) → t.rec ≡ Some r → AreSound r
        record-sound (Batch a s b ops) e =
            let f = batches-flushed c m sc.server a s b ops e in
            let good : T (messages.is_sound (msg.Flush s f.1 b ops)) = subst (λ z. T (messages.is_sound z)) f.2 (each-of (λ x. T (messages.is_sound x.1)) g.pool (c, m) inv.sessions.sound sent) in
            ops-sound ops (last-part (nat_le 1 (length ops)) (nat_le (length ops) Rattle.ec_sessions.specs.Limits.max_batch_ops) (messages.rises (keys ops)) (list_all (λ op. is_sound op.1) ops) good)
          where
            last-part : (a b c d : Bool) → T (a && b && c && d) → T d
            last-part true true true d t = t
            last-part true true false d t = absurd t
            last-part true false c d t = absurd t
            last-part false b c d t = absurd t
        record-sound (Open a age s) e = tt
        record-sound (End a s) e = tt
        record-sound (Ids a s got first) e = tt
        record-sound (Epoch e) f = tt

        go : (r : Option Record) → t.rec ≡ r → Committed g.durable r t.server.durable → IsInOrder t.server.durable
        go None e d = subst IsInOrder (sym d) before
        go (Some r) e d = step_kept r g.durable t.server.durable before (record-sound r e) d

    -- Ids.

    -- the next ids of the server
    pub next-same : (r : Option Record) → Committed g.durable r t.server.durable → ((a s got first : ℕ) → r ≡ Some (Ids a s got first) → ⊥) → Makes g sc.server r γ → t.server.durable.next_id ≡ g.durable.next_id
    next-same None d n e = ap (λ z. z.next_id) d
    next-same (Some (Batch a s b ops)) d n e = batch-field (λ z. z.next_id) (λ c u d. refl) (λ c o d. refl) a s b ops g.durable t.server.durable d
    next-same (Some (Open a age s)) d n e = ap (λ z. z.next_id) (open-is a age s g.durable t.server.durable d)
    next-same (Some (End a s)) d n e = absurd (not-ended a e.0 e.1 e.2 (ap (λ z. z.frozen (e.0).session) e.4 ∙ froze (e.0).session g.ghost.kept _))
    next-same (Some (Ids a s got first)) d n e = absurd (n a s got first refl)
    next-same (Some (Epoch e)) d n f = absurd f

    -- the ghosts of ids, where none were given
    pub given-same : (r : Option Record) → ((a s got first : ℕ) → r ≡ Some (Ids a s got first) → ⊥) → Makes g sc.server r γ → (γ.grants ≡ g.ghost.grants) × (γ.first ≡ g.ghost.first)
    given-same None n e = (ap (λ z. z.grants) e, ap (λ z. z.first) e)
    given-same (Some (Batch a s b ops)) n e = (ap (λ z. z.grants) e.4, ap (λ z. z.first) e.4)
    given-same (Some (Open a age s)) n (inl e) = (ap (λ z. z.grants) e.1, ap (λ z. z.first) e.1)
    given-same (Some (Open a age s)) n (inr e) = absurd (not-ended a e.0 e.1 e.2 (ap (λ z. z.frozen (e.0).session) e.3 ∙ froze (e.0).session g.ghost.kept _))
    given-same (Some (End a s)) n e = absurd (not-ended a e.0 e.1 e.2 (ap (λ z. z.frozen (e.0).session) e.4 ∙ froze (e.0).session g.ghost.kept _))
    given-same (Some (Ids a s got first)) n e = absurd (n a s got first refl)
    given-same (Some (Epoch e)) n f = absurd f

    -- The first id that a clerk in its session gets next, as the ghosts tell it.
    abbrev by_ghosts : ℕ → ℕ → ℕ → ℕ → ℕ
    by_ghosts grants first next got = elim (grants == got + 1) as (λ z. ℕ) [ true ↦ first | false ↦ next ]

    told : (f : System) → Invariant f → (a b s : ℕ) (sl : Slot) (k : Clerk) → slot f.durable a ≡ Some sl → sl.session ≡ s → T sl.is_open → f.clerks a b ≡ Some k → k.session ≡ Some s → (next : ℕ)
        → next_given next k (Some sl) ≡ by_ghosts (f.ghost.grants s) (f.ghost.first s) next k.got
    told f inv a b s sl k here of opened there inside next = go (is_some k.session) (ap is_some inside) (sl.grants == k.got + 1) refl
      where
        ids : IdsAgree k sl (f.ghost.grants s) (f.ghost.first s) (Rattle.ec_coherence.specs.System.undurable f.ghost s)
        ids = (inv.logs.logs s a sl here of opened k (clerk-there f inv.sessions a b s k there inside)).ids

        some : (x y : ℕ) → (x == y + 1) ≡ true → 1 ≤ x
        some x y e = omega (arith, equal x (y + 1) e)

        go : (u : Bool) → u ≡ true → (z : Bool) → (sl.grants == k.got + 1) ≡ z → elim (u && z) as (λ z. ℕ) [ true ↦ or_else 0 sl.last_first | false ↦ next ] ≡ by_ghosts (f.ghost.grants s) (f.ghost.first s) next k.got
        go false e z r = absurd (cc)
        go true e true r = ap (or_else 0) (ids.last (subst (λ x. 1 ≤ x) ids.granted (some sl.grants k.got r))) ∙ sym (ap (λ b. elim b as (λ z. ℕ) [ true ↦ f.ghost.first s | false ↦ next ]) (ap (λ x. x == k.got + 1) (sym ids.granted) ∙ r))
        go true e false r = sym (ap (λ b. elim b as (λ z. ℕ) [ true ↦ f.ghost.first s | false ↦ next ]) (ap (λ x. x == k.got + 1) (sym ids.granted) ∙ r))

    outside : (next : ℕ) (k : Clerk) (o : Option Slot) → k.session ≡ None → next_given next k o ≡ next
    outside next k None e = refl
    outside next k (Some sl) e = ap (λ z. elim (is_some z && (sl.grants == k.got + 1)) as (λ y. ℕ) [ true ↦ or_else 0 sl.last_first | false ↦ next ]) e

    -- ids are given to the line's clerk alone
    ids-own : (a s got first : ℕ) → Makes g sc.server (Some (Ids a s got first)) γ → Committed g.durable (Some (Ids a s got first)) t.server.durable → (a == j.clerk) ≡ true
    ids-own a s got first e d = go (a == j.clerk) refl
      where
        of-open : (o : Option Slot) → is_session s o ≡ true → (sl : Slot) × (o ≡ Some sl) × T sl.is_open × (sl.session ≡ s)
        of-open None r = absurd (cc)
        of-open (Some sl) r = (sl, refl, and_first sl.is_open (sl.session == s) (holds (sl.is_open && (sl.session == s)) r), equal sl.session s (is-true (sl.session == s) (and_next sl.is_open (sl.session == s) (holds (sl.is_open && (sl.session == s)) r))))

        it : (sl : Slot) × (slot g.durable a ≡ Some sl) × T sl.is_open × (sl.session ≡ s)
        it = of-open (slot g.durable a) (ids-open a s got first g.durable t.server.durable d)

        more : (n : ℕ) → n + 1 ≡ n → ⊥
        more n r = omega (arith, r)

        go : (b : Bool) → (a == j.clerk) ≡ b → b ≡ true
        go true r = refl
        go false r =
            let here : slot sc.server.durable a ≡ Some it.0 = ap (λ d. slot d a) (sym seen.durable) ∙ it.1 in
            let run = runs a it.0 here it.2 in
            let was = other j sc p ip a run.clerk r run.there in
            let now = other j after q iq a run.clerk r run.there in
            let start = seen.clerks a run.clerk run.there in
            let inside : run.clerk.session ≡ Some s = run.inside ∙ ap Some it.3 in
            let now-of : now.slot_of.session ≡ s = same_some (sym now.session ∙ inside) in
            let before : (it.0).grants ≡ g.ghost.grants s = ((inv.logs.logs s a it.0 it.1 it.3 it.2) run.clerk (clerk-there g inv.sessions a start.0 s run.clerk start.1 inside)).ids.granted in
            let behind : now.slot_of.grants ≡ γ.grants s = ((((st.0).invariant).logs.logs s a now.slot_of now.here now-of (holds now.slot_of.is_open now.opened)) run.clerk (clerk-there h ((st.0).invariant).sessions a start.0 s run.clerk start.1 inside)).ids.granted in
            let raised : γ.grants s ≡ g.ghost.grants s + 1 = ap (λ z. z.grants s) e ∙ ap (λ b. elim b as (λ z. ℕ) [ true ↦ g.ghost.grants s + 1 | false ↦ g.ghost.grants s ]) (same s) in
            absurd (more (g.ghost.grants s) (sym raised ∙ sym behind ∙ now.grants ∙ sym was.grants ∙ ap (λ z. z.grants) (same_some (sym was.here ∙ here)) ∙ before))

    module _ (k : Clerk) (there : at j.clerk sc.clerks ≡ Some k) where
      start : (b : ℕ) × (g.clerks j.clerk b ≡ Some k)
      start = seen.clerks j.clerk k there

      next-is : g.durable.next_id ≡ sc.server.durable.next_id
      next-is = ap (λ d. d.next_id) seen.durable

      abbrev now : ℕ
      now = next_given t.server.durable.next_id k (slot t.server.durable j.clerk)

      abbrev was : ℕ
      was = next_given sc.server.durable.next_id k (slot sc.server.durable j.clerk)

      not-given : (r : Option Record) → ((a s got first : ℕ) → r ≡ Some (Ids a s got first) → ⊥) → Makes g sc.server r γ → Committed g.durable r t.server.durable → now ≡ was
      not-given r n e d = by k.session refl
        where
          next : t.server.durable.next_id ≡ sc.server.durable.next_id
          next = next-same r d n e ∙ next-is

          by : (o : Option ℕ) → k.session ≡ o → now ≡ was
          by None f = outside t.server.durable.next_id k (slot t.server.durable j.clerk) f ∙ next ∙ sym (outside sc.server.durable.next_id k (slot sc.server.durable j.clerk) f)
          by (Some s) f =
              let i = in-slot j sc p ip j.clerk k s there f in
              let i2 = in-slot j after q iq j.clerk k s there f in
              let same_given = given-same r n e in
              ap (next_given t.server.durable.next_id k) i2.here ∙ told h (st.0).invariant j.clerk start.0 s i2.slot_of k i2.here i2.session (holds i2.slot_of.is_open i2.opened) start.1 f t.server.durable.next_id
              ∙ ap (λ z. by_ghosts (z s) (γ.first s) t.server.durable.next_id k.got) same_given.0 ∙ ap (λ z. by_ghosts (g.ghost.grants s) (z s) t.server.durable.next_id k.got) same_given.1 ∙ ap (λ z. by_ghosts (g.ghost.grants s) (g.ghost.first s) z k.got) next
              ∙ sym (ap (next_given sc.server.durable.next_id k) i.here ∙ told g inv j.clerk start.0 s i.slot_of k (ap (λ d. slot d j.clerk) seen.durable ∙ i.here) i.session (holds i.slot_of.is_open i.opened) start.1 f sc.server.durable.next_id)

      given : (a s got first : ℕ) → Makes g sc.server (Some (Ids a s got first)) γ → Committed g.durable (Some (Ids a s got first)) t.server.durable → now ≡ was
      given a s got first e d = by k.session refl
        where
          is-own : a ≡ j.clerk
          is-own = equal a j.clerk (ids-own a s got first e d)

          in-open : (o : Option Slot) → is_session s o ≡ true → (sl : Slot) × (o ≡ Some sl) × T sl.is_open × (sl.session ≡ s)
          in-open None r = absurd (cc)
          in-open (Some sl) r = (sl, refl, and_first sl.is_open (sl.session == s) (holds (sl.is_open && (sl.session == s)) r), equal sl.session s (is-true (sl.session == s) (and_next sl.is_open (sl.session == s) (holds (sl.is_open && (sl.session == s)) r))))

          it : (sl : Slot) × (slot g.durable a ≡ Some sl) × T sl.is_open × (sl.session ≡ s)
          it = in-open (slot g.durable a) (ids-open a s got first g.durable t.server.durable d)

          here : slot sc.server.durable j.clerk ≡ Some it.0
          here = ap (slot sc.server.durable) (sym is-own) ∙ ap (λ d. slot d a) (sym seen.durable) ∙ it.1

          run : Runs j.clerk (it.0).session
          run = runs j.clerk it.0 here it.2

          inside : k.session ≡ Some s
          inside = ap (λ z. z.session) (same_some (sym there ∙ run.there)) ∙ run.inside ∙ ap Some it.3

          raised : γ.grants s ≡ g.ghost.grants s + 1
          raised = ap (λ z. z.grants s) e ∙ ap (λ b. elim b as (λ z. ℕ) [ true ↦ g.ghost.grants s + 1 | false ↦ g.ghost.grants s ]) (same s)

          now-first : γ.first s ≡ first
          now-first = ap (λ z. z.first s) e ∙ ap (λ b. elim b as (λ z. ℕ) [ true ↦ first | false ↦ g.ghost.first s ]) (same s)

          -- the clerk took all that it was given before
          took : g.ghost.grants s ≡ k.got
          took = between (g.ghost.grants s) k.got (subst (λ z. z ≤ k.got + 1) raised (agree-now.3)) agree.2
            where
              agree : (k.epoch ≤ g.durable.epoch) × T (g.ghost.taken s) × (k.got ≤ g.ghost.grants s) × (g.ghost.grants s ≤ k.got + 1)
              agree = inv.tokens.got s (Rattle.ec_coherence.specs.Tokens.side k) (ap Rattle.ec_coherence.specs.Tokens.side_in (clerk-there g inv.sessions j.clerk start.0 s k start.1 inside))

              agree-now : (k.epoch ≤ t.server.durable.epoch) × T (γ.taken s) × (k.got ≤ γ.grants s) × (γ.grants s ≤ k.got + 1)
              agree-now = (st.0).invariant.tokens.got s (Rattle.ec_coherence.specs.Tokens.side k) (ap Rattle.ec_coherence.specs.Tokens.side_in (clerk-there h ((st.0).invariant).sessions j.clerk start.0 s k start.1 inside))

              between : (x y : ℕ) → x + 1 ≤ y + 1 → y ≤ x → x ≡ y
              between x y a b = omega (arith, a, b)

          by-number : (x y first next : ℕ) → x ≡ y → by_ghosts x first next y ≡ next
          by-number x y first next e = ap (λ b. elim b as (λ z. ℕ) [ true ↦ first | false ↦ next ]) (off x y e)
            where
              off : (x y : ℕ) → x ≡ y → (x == y + 1) ≡ false
              off x y e = differ x (y + 1) (λ f. omega (arith, e, f))

          by-next : (x y first next : ℕ) → x ≡ y + 1 → by_ghosts x first next y ≡ first
          by-next x y first next e = ap (λ b. elim b as (λ z. ℕ) [ true ↦ first | false ↦ next ]) (ap (λ z. z == y + 1) e ∙ same (y + 1))

          by : (o : Option ℕ) → k.session ≡ o → now ≡ was
          by None f = absurd (none_some (sym f ∙ inside))
          by (Some u) f =
              let i = in-slot j sc p ip j.clerk k s there inside in
              let i2 = in-slot j after q iq j.clerk k s there inside in
              ap (next_given t.server.durable.next_id k) i2.here ∙ told h (st.0).invariant j.clerk start.0 s i2.slot_of k i2.here i2.session (holds i2.slot_of.is_open i2.opened) start.1 inside t.server.durable.next_id
              ∙ by-next (γ.grants s) k.got (γ.first s) t.server.durable.next_id (raised ∙ ap (λ z. z + 1) took) ∙ now-first ∙ (ids-are a s got first g.durable t.server.durable d).0 ∙ next-is
              ∙ sym (by-number (g.ghost.grants s) k.got (g.ghost.first s) sc.server.durable.next_id took)
              ∙ sym (ap (next_given sc.server.durable.next_id k) i.here ∙ told g inv j.clerk start.0 s i.slot_of k (ap (λ d. slot d j.clerk) seen.durable ∙ i.here) i.session (holds i.slot_of.is_open i.opened) start.1 inside sc.server.durable.next_id)

      pub object-same : next_object after j.clerk k ≡ next_object sc j.clerk k
      object-same = ap (λ z. or_else z (Rattle.ec_protocol.specs.Clerk.first_id k.ids)) (by t.rec mk (st.0).committed)
        where
          by : (r : Option Record) → Makes g sc.server r γ → Committed g.durable r t.server.durable → now ≡ was
          by (Some (Ids a s got first)) e d = given a s got first e d
          by None e d = not-given None (λ a s got first q. none_some q) e d
          by (Some (Batch a s b ops)) e d = not-given (Some (Batch a s b ops)) (λ a s got first q. cc) e d
          by (Some (Open a age s)) e d = not-given (Some (Open a age s)) (λ a s got first q. cc) e d
          by (Some (End a s)) e d = not-given (Some (End a s)) (λ a s got first q. cc) e d
          by (Some (Epoch x)) e d = absurd e
