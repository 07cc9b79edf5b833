-- Ids are given to the sessions that are open, and those stay open.
use Rattle.std.proofs.Common.{◌≡◌, refl, sym, ap, subst, ◌∙◌, inl, inr, arith, ◌≤◌, ◌<◌, ◌+◌, ◌*◌, ℕ, suc, zero, Bool, true, false, ◌==◌, T, length, [], ◌∷◌, Option, Some, None}
use Rattle.std.specs.Prelude.{is_some}
use Rattle.ec_base.specs.Tables.{at}
use Rattle.ec_sessions.specs.Slots.{Slots, slot_at}
use Rattle.ec_sessions.specs.declared.slot.Slot.{Slot}
use Rattle.ec_wire.specs.declared.msg.Msg.{Msg}
use Rattle.ec_durable.specs.Durable.{is_session, slot}
use Rattle.ec_durable.specs.declared.record.Record.{Record}
use Rattle.ec_durable.specs.declared.record.Record.TheVariants.{Batch, Open, End, Ids, Epoch}
use Rattle.ec_durable.specs.declared.state.Durable.{Durable}
use Rattle.ec_protocol.specs.World.{deliver, due, runs}
use Rattle.ec_protocol.specs.declared.clerk.Clerk.{Clerk}
use Rattle.ec_protocol.specs.declared.world.World.{World}
use Rattle.ec_coherence.specs.Invariant.{Invariant}
use Rattle.ec_coherence.specs.Steps.{Committed, serving_in}
use Rattle.ec_coherence.specs.System.{Ghost, System}
use Rattle.ec_coherence.specs.CommitLaws as commits
use Rattle.ec_lawful.proofs.OfClerkSteps.ForJoins.Steps.{ids-are, ids-open}
use Rattle.ec_coherence.specs.Makes.{IsMade, Makes}
use Rattle.ec_quiet.specs.Phases.{InPhase, Phase}
use Rattle.ec_quiet.specs.Scenes.{IsScene, Mail, Scene, delivered, is_for_server, served, taken_by}
use Rattle.ec_quiet.specs.Works.{Work}
use Rattle.ec_complete.specs.OfAgreedLines.Worlds.{IsSeen}
use Rattle.ec_complete.proofs.OfAgreedLines.Seen.{clerk-there, scenes-seen}
use Rattle.ec_complete.specs.Lines.{IsOnLine, IsSpare}
use Rattle.ec_complete.proofs.ForLines.Serving as serving
use Rattle.ec_complete.proofs.ForLines.Delivering.{server-unspent}
use Rattle.ec_complete.specs.Spare.{AreGiven, granted_below, open_grants}
use Rattle.ec_base.proofs.Bools.{left as and_first, right as and_next, is-true, holds-true as holds}
use Rattle.ec_base.proofs.Numbers.{same-self as same, equal}
use Rattle.ec_base.proofs.Options.{none_some}

-- Sums over the slots.

below-mono : (d e : Durable) → ((c : ℕ) → open_grants (slot d c) ≤ open_grants (slot e c)) → (n : ℕ) → granted_below n d ≤ granted_below n e
below-mono d e f zero = omega arith
below-mono d e f (suc n) = omega (arith, f n, below-mono d e f n)

below-more : (d e : Durable) → ((c : ℕ) → open_grants (slot d c) ≤ open_grants (slot e c)) → (a : ℕ) → open_grants (slot d a) + 1 ≤ open_grants (slot e a) → (n : ℕ) → a < n → granted_below n d + 1 ≤ granted_below n e
below-more d e f a one zero l = absurd (omega (arith, l))
below-more d e f a one (suc n) l = go (a == n) refl (below-more d e f a one n)
  where
    later : (a n : ℕ) → a < suc n → (a == n) ≡ false → a < n
    later a n l q = grind (arith, l, q)

    go : (b : Bool) → (a == n) ≡ b → (a < n → granted_below n d + 1 ≤ granted_below n e) → granted_below (suc n) d + 1 ≤ granted_below (suc n) e
    go true q r = let here : open_grants (slot d n) + 1 ≤ open_grants (slot e n) = subst (λ z. open_grants (slot d z) + 1 ≤ open_grants (slot e z)) (equal a n q) one in omega (arith, here, below-mono d e f n)
    go false q r = omega (arith, f n, r (later a n l q))

is-slot : (c : ℕ) (slots : Slots) (sl : Slot) → slot_at slots c ≡ Some sl → c < length slots
is-slot c [] sl e = absurd (none_some e)
is-slot zero (o ∷ slots) sl e = omega arith
is-slot (suc c) (o ∷ slots) sl e = omega (arith, is-slot c slots sl e)

module _ (first : ℕ) (j : Work) (w : World) (sc : Scene) (g : System) (p q : Phase) (c : ℕ) (m : Msg) (rest : Mail) (on : IsOnLine j w sc g) (scene : IsScene w sc) (ip : InPhase j sc p) (mail : sc.mail ≡ (c, m) ∷ rest)
    (for-server : is_for_server m ≡ true) (iq : InPhase j (served c m rest sc) q) where
  seen : IsSeen g sc
  seen = scenes-seen w g sc on.stands scene

  inv : Invariant g
  inv = on.whole.all.0

  abbrev now : Durable
  now = (serving.t j w sc g p q c m rest on scene ip mail for-server iq).server.durable

  module _ (γ : Ghost) (st : commits.StepStands g (serving.t j w sc g p q c m rest on scene ip mail for-server iq) γ) (mk : Makes g sc.server (serving.t j w sc g p q c m rest on scene ip mail for-server iq).rec γ) where
    abbrev h : System
    h = serving_in (serving.t j w sc g p q c m rest on scene ip mail for-server iq) γ g

    -- an open session has as many grants as the ghosts say, before and behind the step
    was-granted : (a : ℕ) (sl : Slot) → slot sc.server.durable a ≡ Some sl → T sl.is_open → sl.grants ≡ g.ghost.grants sl.session
    was-granted a sl here opened =
        let r = serving.runs j w sc g p q c m rest on scene ip mail for-server iq a sl here opened in
        let start = seen.clerks a r.clerk r.there in
        ((inv.logs.logs sl.session a sl (ap (λ d. slot d a) seen.durable ∙ here) refl opened) r.clerk (clerk-there g inv.sessions a start.0 sl.session r.clerk start.1 r.inside)).ids.granted

    now-granted : (a : ℕ) (sl : Slot) → slot sc.server.durable a ≡ Some sl → T sl.is_open → open_grants (slot now a) ≡ γ.grants sl.session
    now-granted a sl here opened =
        let r = serving.runs j w sc g p q c m rest on scene ip mail for-server iq a sl here opened in
        let start = seen.clerks a r.clerk r.there in
        let i = serving.stays-open j w sc g p q c m rest on scene ip mail for-server iq a sl here opened in
        ap open_grants i.here ∙ ap (λ z. elim z as (λ y. ℕ) [ true ↦ (i.slot_of).grants | false ↦ 0 ]) i.opened
        ∙ ((((st.0).invariant).logs.logs sl.session a i.slot_of i.here i.session (holds i.slot_of.is_open i.opened)) r.clerk (clerk-there h ((st.0).invariant).sessions a start.0 sl.session r.clerk start.1 r.inside)).ids.granted

    -- ghosts that only rise
    rises : ((s : ℕ) → g.ghost.grants s ≤ γ.grants s) → (a : ℕ) → open_grants (slot sc.server.durable a) ≤ open_grants (slot now a)
    rises f a = by (slot sc.server.durable a) refl
      where
        by-open : (sl : Slot) → slot sc.server.durable a ≡ Some sl → (z : Bool) → sl.is_open ≡ z → elim z as (λ y. ℕ) [ true ↦ sl.grants | false ↦ 0 ] ≤ open_grants (slot now a)
        by-open sl e true o = through sl.grants (g.ghost.grants sl.session) (γ.grants sl.session) (open_grants (slot now a)) (was-granted a sl e (holds sl.is_open o)) (f sl.session) (now-granted a sl e (holds sl.is_open o))
          where
            through : (x y z u : ℕ) → x ≡ y → y ≤ z → u ≡ z → x ≤ u
            through x y z u a b c = omega (arith, a, b, c)
        by-open sl e false o = omega arith

        by : (o : Option Slot) → slot sc.server.durable a ≡ o → open_grants o ≤ open_grants (slot now a)
        by None e = omega arith
        by (Some sl) e = by-open sl e sl.is_open refl

    next-is : g.durable.next_id ≡ sc.server.durable.next_id
    next-is = ap (λ d. d.next_id) seen.durable

    stays : (r : Option Record) → ((a s got x : ℕ) → r ≡ Some (Ids a s got x) → ⊥) → Makes g sc.server r γ → Committed g.durable r now → AreGiven first sc.server.durable → AreGiven first now
    stays r n e d given = within now.next_id sc.server.durable.next_id (granted_below 16 sc.server.durable) (granted_below 16 now) (serving.next-same j w sc g p q c m rest on scene ip mail for-server iq γ st mk r d n e ∙ next-is) given
        (below-mono sc.server.durable now (rises (λ s. same-rise (ap (λ f. f s) (serving.given-same j w sc g p q c m rest on scene ip mail for-server iq γ st mk r n e).0))) 16)
      where
        same-rise : {a b : ℕ} → a ≡ b → b ≤ a
        same-rise {a} {b} e = omega (arith, e)

        within : (next was all more : ℕ) → next ≡ was → was ≤ first + 16 * all → all ≤ more → next ≤ first + 16 * more
        within next was all more a b c = omega (arith, a, b, c)

    grows : (a s got x : ℕ) → Makes g sc.server (Some (Ids a s got x)) γ → Committed g.durable (Some (Ids a s got x)) now → AreGiven first sc.server.durable → AreGiven first now
    grows a s got x e d given = within now.next_id sc.server.durable.next_id (granted_below 16 sc.server.durable) (granted_below 16 now) next given (below-more sc.server.durable now (rises rise) a one 16 low)
      where
        of-open : (o : Option Slot) → is_session s o ≡ true → (sl : Slot) × (o ≡ Some sl) × T sl.is_open × (sl.session ≡ s)
        of-open None r = absurd (cc)
        of-open (Some sl) r = (sl, refl, and_first sl.is_open (sl.session == s) (holds _ r), equal sl.session s (is-true (sl.session == s) (and_next sl.is_open (sl.session == s) (holds _ r))))

        it : (sl : Slot) × (slot g.durable a ≡ Some sl) × T sl.is_open × (sl.session ≡ s)
        it = of-open (slot g.durable a) (ids-open a s got x g.durable now d)

        here : slot sc.server.durable a ≡ Some it.0
        here = ap (λ d. slot d a) (sym seen.durable) ∙ it.1

        low : a < 16
        low = subst (λ n. a < n) ip.orderly.sixteen (is-slot a sc.server.durable.sessions it.0 here)

        next : now.next_id ≡ sc.server.durable.next_id + 16
        next = ap (λ z. z.next_id) (ids-are a s got x g.durable now d).1 ∙ ap (λ z. z + 16) ((ids-are a s got x g.durable now d).0 ∙ next-is)

        rise : (u : ℕ) → g.ghost.grants u ≤ γ.grants u
        rise u = subst (λ z. g.ghost.grants u ≤ z) (sym (ap (λ z. z.grants u) e)) (go (u == s) refl)
          where
            go : (b : Bool) → (u == s) ≡ b → g.ghost.grants u ≤ elim b as (λ z. ℕ) [ true ↦ g.ghost.grants s + 1 | false ↦ g.ghost.grants u ]
            go true r = subst (λ z. g.ghost.grants z ≤ g.ghost.grants s + 1) (sym (equal u s r)) (omega arith)
            go false r = omega arith

        raised : γ.grants s ≡ g.ghost.grants s + 1
        raised = ap (λ z. z.grants s) e ∙ ap (λ b. elim b as (λ z. ℕ) [ true ↦ g.ghost.grants s + 1 | false ↦ g.ghost.grants s ]) (same s)

        one : open_grants (slot sc.server.durable a) + 1 ≤ open_grants (slot now a)
        one = through (open_grants (slot sc.server.durable a)) (g.ghost.grants s) (γ.grants s) (open_grants (slot now a))
            (ap open_grants here ∙ ap (λ z. elim z as (λ y. ℕ) [ true ↦ (it.0).grants | false ↦ 0 ]) (is-true (it.0).is_open it.2) ∙ was-granted a it.0 here it.2 ∙ ap g.ghost.grants it.3) raised
            (now-granted a it.0 here it.2 ∙ ap γ.grants it.3)
          where
            through : (x y z u : ℕ) → x ≡ y → z ≡ y + 1 → u ≡ z → x + 1 ≤ u
            through x y z u a b c = omega (arith, a, b, c)

        within : (next was all more : ℕ) → next ≡ was + 16 → was ≤ first + 16 * all → all + 1 ≤ more → next ≤ first + 16 * more
        within next was all more a b c = omega (arith, a, b, c)

    by-record : (r : Option Record) → Makes g sc.server r γ → Committed g.durable r now → AreGiven first sc.server.durable → AreGiven first now
    by-record (Some (Ids a s got x)) e d given = grows a s got x e d given
    by-record None e d given = stays None (λ a s got x q. none_some q) e d given
    by-record (Some (Batch a s b ops)) e d given = stays (Some (Batch a s b ops)) (λ a s got x q. cc) e d given
    by-record (Some (Open a age s)) e d given = stays (Some (Open a age s)) (λ a s got x q. cc) e d given
    by-record (Some (End a s)) e d given = stays (Some (End a s)) (λ a s got x q. cc) e d given
    by-record (Some (Epoch x)) e d given = absurd e

    pub server-given : AreGiven first sc.server.durable → AreGiven first now
    server-given given = by-record (serving.t j w sc g p q c m rest on scene ip mail for-server iq).rec mk (st.0).committed given

pub ids-stay-given : (first : ℕ) (j : Work) (w : World) (sc : Scene) (g : System) (p q : Phase) (m : ℕ × Msg) (rest : Mail) (n : ℕ) → IsOnLine j w sc g → IsSpare j sc → IsScene w sc → InPhase j sc p → sc.mail ≡ m ∷ rest
    → due w ≡ Some n → (deliver runs n w).fault ≡ None → InPhase j (delivered m.0 m.1 rest sc) q → AreGiven first sc.server.durable → AreGiven first (delivered m.0 m.1 rest sc).server.durable
ids-stay-given first j w sc g p q m rest n on spare scene ip mail e f iq given = go (is_for_server m.1) refl iq
  where
    at-clerk : (o : Option Clerk) → AreGiven first (taken_by m.0 m.1 rest o sc).server.durable
    at-clerk None = given
    at-clerk (Some k) = given

    of-made : (s : is_for_server m.1 ≡ true) (iq : InPhase j (served m.0 m.1 rest sc) q) → IsMade g sc.server (serving.t j w sc g p q m.0 m.1 rest on scene ip mail s iq) → AreGiven first (served m.0 m.1 rest sc).server.durable
    of-made s iq (inl x) = absurd (subst (λ o. T (is_some o)) (server-unspent j w sc g p q m.0 m.1 rest on spare scene ip mail s iq n e f) x)
    of-made s iq (inr (γ, st, mk)) = server-given first j w sc g p q m.0 m.1 rest on scene ip mail s iq γ st mk given

    go : (b : Bool) → is_for_server m.1 ≡ b → InPhase j (elim b as (λ z. Scene) [ true ↦ served m.0 m.1 rest sc | false ↦ taken_by m.0 m.1 rest (at m.0 sc.clerks) sc ]) q
        → AreGiven first (elim b as (λ z. Scene) [ true ↦ served m.0 m.1 rest sc | false ↦ taken_by m.0 m.1 rest (at m.0 sc.clerks) sc ]).server.durable
    go true s iq = of-made s iq (serving.made j w sc g p q m.0 m.1 rest on scene ip mail s iq)
    go false s iq = at-clerk (at m.0 sc.clerks)
