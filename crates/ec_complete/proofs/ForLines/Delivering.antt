-- A line's world behind a delivery.
use Rattle.std.proofs.Common.{◌≡◌, refl, sym, ap, subst, ◌∙◌, inl, inr, ◌⊎◌, ℕ, Bool, true, false, ◌==◌, T, [], ◌∷◌, ◌++◌, Option, Some, None}
use Rattle.std.specs.Prelude.{is_some, Contains}
use Rattle.ec_base.specs.Tables.{at, put}
use Rattle.ec_base.specs.declared.counter.Counter.{Counter}
use Rattle.ec_volume.specs.Update.{member}
use Rattle.ec_volume.specs.Volume.{after}
use Rattle.ec_history.specs.History.{Each, updates}
use Rattle.ec_wire.specs.declared.msg.Msg.{Msg}
use Rattle.ec_protocol.specs.Clerk as clerk
use Rattle.ec_protocol.specs.Clerk.{Doing}
use Rattle.ec_protocol.specs.Server as server
use Rattle.ec_protocol.specs.Server.{Serving}
use Rattle.ec_protocol.specs.World.{Moving, come_out, deliver, deliver_to, due, fails, moving, runs, settled, to_clerk, to_server, with_world}
use Rattle.ec_protocol.specs.World as world
use Rattle.ec_protocol.specs.declared.clerk.Clerk.{Clerk}
use Rattle.ec_protocol.specs.declared.world.Sent.{Sent}
use Rattle.ec_protocol.specs.declared.world.World.{World}
use Rattle.ec_protocol.specs.declared.world.WorldFault.TheVariants as fault
use Rattle.ec_coherence.specs.System.{Ghost, System}
use Rattle.ec_coherence.specs.Steps.{Stands, doing_in, serving_in}
use Rattle.ec_coherence.proofs.ForServer.Lists.{each-more}
use Rattle.ec_coherence.proofs.ForServer.Tables.{differ, differs, same_some}
use Rattle.ec_coherence.specs.CommitLaws as commits
use Rattle.ec_coherence.specs.Makes.{IsMade, Makes}
use Rattle.ec_lawful.proofs.ForWhole.Frames.{settled-stands}
use Rattle.ec_lawful.proofs.ForWhole.Serving.{served-stands}
use Rattle.ec_lawful.proofs.ForWhole.Standing.{done-stands}
use Rattle.ec_lawful.specs.OfClerkSteps.Frees.{FullsAgree}
use Rattle.ec_lawful.specs.OfClerkSteps.Fulls.{AreFullAt, IsFullAt}
use Rattle.ec_lawful.proofs.OfClerkSteps.ForNames.Served.{take-right}
use Rattle.ec_lawful.proofs.ForWhole.Server.{whole-served}
use Rattle.ec_lawful.specs.Taking.{AnswersNone}
use Rattle.ec_quiet.specs.Facts.{WantIsAnswered}
use Rattle.ec_quiet.specs.Phases.{InPhase, Phase}
use Rattle.ec_quiet.specs.Scenes.{IsScene, Mail, Scene, delivered, done_by, is_for_server, served, taken_by}
use Rattle.ec_quiet.specs.Works.{Work}
use Rattle.ec_quiet.proofs.Sending.{IsFirst}
use Rattle.ec_quiet.proofs.Delivering as delivering
use Rattle.ec_quiet.proofs.Delivering.{due-is}
use Rattle.ec_quiet.proofs.Beside.{other-at, own-at}
use Rattle.ec_complete.specs.OfAgreedLines.Worlds.{IsSeen}
use Rattle.ec_complete.proofs.OfAgreedLines.Seen.{scenes-seen}
use Rattle.ec_complete.specs.WaitingCalls.{IsAbout, kept_volume}
use Rattle.ec_complete.specs.Lines.{IsOnLine, IsSpare, next_object}
use Rattle.ec_complete.proofs.ForLines.Taking.{next-sent, runs-in}
use Rattle.ec_complete.specs.Staying.{LeavesKept}
use Rattle.ec_complete.proofs.ForLines.Standing.{Other, other}
use Rattle.ec_complete.proofs.ForLines.Serving as serving
use Rattle.ec_complete.proofs.ForLines.Stepping.{Leaves, LeavesOrAnswers, Steps, idle-leaves}
use Rattle.ec_complete.proofs.ForLines.Owning.{empties, keeps-object, own-leaves, refuses-or-not, stays-answered, waits-for}
use Rattle.ec_base.proofs.Numbers.{equal}

some-fault : {A B : Type 0} (x : B) → ◌≡◌ {A = Option B} (Some x) None → A
some-fault {A} {B} x e = absurd (apart e)
  where
    apart : ◌≡◌ {A = Option B} (Some x) None → ⊥
    apart q = cc

module _ (j : Work) (w : World) (sc : Scene) (g : System) (p q : Phase) (c : ℕ) (m : Msg) (rest : Mail) (on : IsOnLine j w sc g) (spare : IsSpare j sc) (scene : IsScene w sc) (ip : InPhase j sc p) (mail : sc.mail ≡ (c, m) ∷ rest) where
  seen : IsSeen g sc
  seen = scenes-seen w g sc on.stands scene

  sent : Contains g.pool (c, m)
  sent = next-sent w g sc on.stands scene (c, m) rest mail

  abbrev pub first : IsFirst w c m rest
  first = delivering.first w sc scene c m rest mail

  abbrev pub n : ℕ
  n = first.number

  abbrev letter : Sent
  letter = record { clerk = c; nth = first.sent.nth; msg = m }

  at-pool : at n w.pool ≡ Some letter
  at-pool = first.there ∙ ap (λ z. Some (record { clerk = z; nth = first.sent.nth; msg = first.sent.msg })) first.clerk ∙ ap (λ z. Some (record { clerk = c; nth = first.sent.nth; msg = z })) first.message

  delivers : deliver runs n w ≡ deliver_to runs n letter w
  delivers = ap (λ o. elim o as (λ z. Moving) [ None ↦ fails fault.NoSuchMsg w | Some s ↦ deliver_to runs n s w ]) at-pool

  abbrev Goes : Moving → Scene → Type 0
  Goes r after = r.fault ≡ None → (h : System) × IsOnLine j r.world after h × LeavesKept j after g h

  -- The server takes it.
  module _ (for-server : is_for_server m ≡ true) (iq : InPhase j (served c m rest sc) q) where
    abbrev pub t : Serving
    t = server.take c m sc.server

    to-server-is : deliver runs n w ≡ world.served runs t (settled n w)
    to-server-is = delivers ∙ ap (λ b. elim b as (λ z. Moving) [ true ↦ to_server runs n letter w.server w | false ↦ to_clerk c m (at c w.clerks) (settled n w) ]) for-server ∙ ap (λ o. to_server runs n letter o w) scene.server

    unspent : (o : Option Counter) → t.spent ≡ o → (world.served runs t (settled n w)).fault ≡ None → t.spent ≡ None
    unspent None e f = e
    unspent (Some x) e f = some-fault (fault.Spent x) (sym (ap (λ o. (elim o as (λ z. Moving) [ Some k ↦ fails (fault.Spent k) (settled n w) | None ↦ world.served_record runs t.rec t (settled n w) ]).fault) e) ∙ f)

    -- no counter was spent, where the world's delivery met no fault
    pub server-unspent : (i : ℕ) → due w ≡ Some i → (deliver runs i w).fault ≡ None → t.spent ≡ None
    server-unspent i e f =
        let same : n ≡ i = same_some (sym (due-is w sc scene c m rest mail) ∙ e) in
        unspent t.spent refl (sym (ap (λ r. r.fault) to-server-is) ∙ subst (λ z. (deliver runs z w).fault ≡ None) (sym same) f)

    full : (γ : Ghost) → FullsAgree (serving_in t γ g)
    full γ =
        let r = take-right g.durable.max_objects c m sc.server (ap (λ d. d.max_objects) (sym seen.durable)) in
        subst (λ k. AreFullAt k (g.pool ++ t.sent)) (sym r.0) (each-more (λ x. IsFullAt g.durable.max_objects x.1) g.pool t.sent on.whole.fulls r.1)

    behind : (γ : Ghost) → commits.StepStands g t γ → Makes g sc.server t.rec γ → t.spent ≡ None → IsOnLine j (world.served runs t (settled n w)).world (served c m rest sc) (serving_in t γ g)
    behind γ st mk none =
        let kept : kept_volume g ≡ kept_volume (serving_in t γ g) = ap (λ ks. after g.origin (updates ks)) (sym (serving.kept-same j w sc g p q c m rest on scene ip mail for-server iq γ st mk)) in
        record {
          whole = whole-served g sc.server on.whole seen.server t γ st mk (full γ);
          stands = served-stands (settled n w) g (settled-stands w g on.stands n) on.whole.all sc.server seen.server t γ st.0 none;
          order = serving.order-kept j w sc g p q c m rest on scene ip mail for-server iq γ st mk;
          few = on.few;
          about = λ k there waits. subst (IsAbout j) kept (on.about k there waits);
          id = λ k there waits. subst (λ z. T (member z j.touched)) (sym (serving.object-same j w sc g p q c m rest on scene ip mail for-server iq γ st mk k there)) (on.id k there waits);
          answered = on.answered;
        }

    server-goes : Goes (world.served runs t (settled n w)) (served c m rest sc)
    server-goes f = by (serving.made j w sc g p q c m rest on scene ip mail for-server iq)
      where
        none : t.spent ≡ None
        none = unspent t.spent refl f

        by : IsMade g sc.server t → (h : System) × IsOnLine j (world.served runs t (settled n w)).world (served c m rest sc) h × LeavesKept j (served c m rest sc) g h
        by (inl s) = absurd (subst (λ o. T (is_some o)) none s)
        by (inr (γ, st, mk)) = (serving_in t γ g, behind γ st mk none, record { origin = refl; kept = λ a here waits. serving.kept-same j w sc g p q c m rest on scene ip mail for-server iq γ st mk })

  -- A clerk takes it.
  module _ (for-clerk : is_for_server m ≡ false) where
    to-clerk-is : deliver runs n w ≡ to_clerk c m (at c sc.clerks) (settled n w)
    to-clerk-is = delivers ∙ ap (λ b. elim b as (λ z. Moving) [ true ↦ to_server runs n letter w.server w | false ↦ to_clerk c m (at c w.clerks) (settled n w) ]) for-clerk ∙ ap (λ cs. to_clerk c m (at c cs) (settled n w)) scene.clerks

    vanishes : at c sc.clerks ≡ None → Goes (moving (settled n w)) (record sc { mail = rest })
    vanishes e f = (
      g,
      record { whole = on.whole; stands = settled-stands w g on.stands n; order = on.order; few = on.few; about = on.about; id = on.id; answered = on.answered },
      record { origin = refl; kept = λ a here waits. refl },
    )

    module _ (k : Clerk) (there : at c sc.clerks ≡ Some k) where
      abbrev d : Doing
      d = clerk.take m k

      abbrev now : Scene
      now = done_by c d rest sc

      abbrev then : Moving
      then = world.clerk_does c d (moving (settled n w))

      start : (b : ℕ) × (g.running c ≡ Some b) × (g.clerks c b ≡ Some k)
      start = runs-in w g on.stands c k (ap (at c) scene.clerks ∙ there)

      refused : T (is_some d.spent) → then.fault ≡ None → ⊥
      refused s f = by d.spent refl s
        where
          by : (o : Option Counter) → d.spent ≡ o → T (is_some o) → ⊥
          by None e x = x
          by (Some x) e y = some-fault (fault.Spent x) (sym (ap (λ o. (elim o as (λ z. Moving) [ Some k ↦ fails (fault.Spent k) (settled n w) | None ↦ come_out c d.outs (with_world (λ w. record w { clerks = put c d.clerk w.clerks }) (moving (settled n w))) ]).fault) e) ∙ f)

      none-spent : then.fault ≡ None → d.spent ≡ None
      none-spent f = by d.spent refl
        where
          by : (o : Option Counter) → d.spent ≡ o → d.spent ≡ None
          by None e = e
          by (Some x) e = absurd (refused (subst (λ o. T (is_some o)) (sym e) tt) f)

      stands : (γ : Ghost) → Steps g on.whole c start.0 k start.1 start.2 m sent γ → then.fault ≡ None → Stands then.world (doing_in c start.0 d γ g)
      stands γ s f = done-stands (moving (settled n w)) g (settled-stands w g on.stands n) c start.0 start.1 d γ (none-spent f) s.0

      kept-then : (γ : Ghost) → γ.kept ≡ g.ghost.kept → kept_volume g ≡ kept_volume (doing_in c start.0 d γ g)
      kept-then γ e = ap (λ ks. after g.origin (updates ks)) (sym e)

      -- another clerk than the line's
      module _ (apart : (c == j.clerk) ≡ false) where
        turned : (j.clerk == c) ≡ false
        turned = differ j.clerk c (λ e. differs c j.clerk apart (sym e))

        as-before : at j.clerk now.clerks ≡ at j.clerk sc.clerks
        as-before = other-at c d.clerk sc.clerks j.clerk turned

        its : Other sc.server c k
        its = other j sc p ip c k apart there

        none-refused : AnswersNone k m
        none-refused = elim (refuses-or-not k m) [ inl a ↦ a | inr r ↦ absurd (not-asked (sym (ap (clerk.is_session r.ask) its.asking) ∙ r.asked)) ]
          where
            not-asked : false ≡ true → ⊥
            not-asked e = cc

        other-goes : Goes then now
        other-goes f = by (idle-leaves g on.whole c start.0 k start.1 start.2 m sent none-refused its.waiting)
          where
            by : Leaves g on.whole c start.0 k start.1 start.2 m sent → (h : System) × IsOnLine j then.world now h × LeavesKept j now g h
            by (inl s) = absurd (refused s f)
            by (inr (γ, s, e)) = (
              doing_in c start.0 d γ g,
              record {
                whole = s.1;
                stands = stands γ s f;
                order = on.order;
                few = on.few;
                about = λ a here waits. subst (IsAbout j) (kept-then γ e) (on.about a (sym as-before ∙ here) waits);
                id = λ a here waits. on.id a (sym as-before ∙ here) waits;
                answered = λ o task a here. on.answered o task a (sym as-before ∙ here);
              },
              record { origin = refl; kept = λ a here waits. e },
            )

      -- the line's own
      module _ (own : c ≡ j.clerk) where
        here-own : at j.clerk sc.clerks ≡ Some k
        here-own = ap (λ z. at z sc.clerks) (sym own) ∙ there

        mail-own : sc.mail ≡ (j.clerk, m) ∷ rest
        mail-own = mail ∙ ap (λ z. (z, m) ∷ rest) own

        sent-own : Contains g.pool (j.clerk, m)
        sent-own = subst (λ z. Contains g.pool (z, m)) own sent

        its-clerk : at j.clerk now.clerks ≡ Some d.clerk
        its-clerk = ap (λ z. at z now.clerks) (sym own) ∙ own-at c d.clerk sc.clerks

        is-it : (a : Clerk) → at j.clerk now.clerks ≡ Some a → d.clerk ≡ a
        is-it a e = same_some (sym its-clerk ∙ e)

        waited : (d.clerk.waiting ≡ [] → ⊥) → k.waiting ≡ [] → ⊥
        waited f e = f (empties k m e)

        leaves : LeavesOrAnswers g on.whole c start.0 k start.1 start.2 m sent
        leaves = turn c own start.0 start.1 start.2 sent
          where
            turn : (a : ℕ) → a ≡ j.clerk → (b : ℕ) (run : g.running a ≡ Some b) (at-start : g.clerks a b ≡ Some k) (s : Contains g.pool (a, m)) → LeavesOrAnswers g on.whole a b k run at-start m s
            turn a e = subst (λ z. (b : ℕ) (run : g.running z ≡ Some b) (at-start : g.clerks z b ≡ Some k) (s : Contains g.pool (z, m)) → LeavesOrAnswers g on.whole z b k run at-start m s) (sym e)
                (λ b run at-start s. own-leaves j w sc g on spare scene m rest mail-own for-clerk k here-own b run at-start s (waits-for j w sc g on spare scene m rest mail-own for-clerk k here-own p ip))

        same-object : (d.clerk.waiting ≡ [] → ⊥) → next_object now j.clerk d.clerk ≡ next_object sc j.clerk k
        same-object f = elim (waits-for j w sc g on spare scene m rest mail-own for-clerk k here-own p ip) [
          | inl none ↦ absurd (waited f none)
          | inr v ↦ keeps-object j w sc g on spare scene m rest mail-own for-clerk k here-own p ip sent-own v.0 v.1 f
        ]

        own-goes : Goes then now
        own-goes f = by leaves
          where
            about-now : (γ : Ghost) → (γ.kept ≡ g.ghost.kept) ⊎ (d.clerk.waiting ≡ []) → (a : Clerk) → at j.clerk now.clerks ≡ Some a → (a.waiting ≡ [] → ⊥) → IsAbout j (kept_volume (doing_in c start.0 d γ g))
            about-now γ (inl e) a here waits = subst (IsAbout j) (kept-then γ e) (on.about k here-own (waited (subst (λ z. z.waiting ≡ [] → ⊥) (sym (is-it a here)) waits)))
            about-now γ (inr e) a here waits = absurd (waits (ap (λ z. z.waiting) (sym (is-it a here)) ∙ e))

            id-now : (a : Clerk) → at j.clerk now.clerks ≡ Some a → (a.waiting ≡ [] → ⊥) → T (member (next_object now j.clerk a) j.touched)
            id-now a here waits =
                let f : d.clerk.waiting ≡ [] → ⊥ = subst (λ z. z.waiting ≡ [] → ⊥) (sym (is-it a here)) waits in
                subst (λ z. T (member (next_object now j.clerk z) j.touched)) (is-it a here) (subst (λ z. T (member z j.touched)) (sym (same-object f)) (on.id k here-own (waited f)))

            kept-now : (γ : Ghost) → (γ.kept ≡ g.ghost.kept) ⊎ (d.clerk.waiting ≡ []) → (a : Clerk) → at j.clerk now.clerks ≡ Some a → (a.waiting ≡ [] → ⊥) → γ.kept ≡ g.ghost.kept
            kept-now γ (inl e) a here waits = e
            kept-now γ (inr e) a here waits = absurd (waits (ap (λ z. z.waiting) (sym (is-it a here)) ∙ e))

            by : LeavesOrAnswers g on.whole c start.0 k start.1 start.2 m sent → (h : System) × IsOnLine j then.world now h × LeavesKept j now g h
            by (inl s) = absurd (refused s f)
            by (inr (γ, s, e)) = (
              doing_in c start.0 d γ g,
              record {
                whole = s.1;
                stands = stands γ s f;
                order = on.order;
                few = on.few;
                about = about-now γ e;
                id = id-now;
                answered = λ o task a here. subst (λ z. Each (WantIsAnswered z.cache) z.wanted) (is-it a here) (stays-answered j w sc g on spare scene m rest mail-own for-clerk k here-own p ip o task);
              },
              record { origin = refl; kept = kept-now γ e },
            )

      pub runs-on : Goes then now
      runs-on = by (c == j.clerk) refl
        where
          by : (b : Bool) → (c == j.clerk) ≡ b → Goes then now
          by false e = other-goes e
          by true e = own-goes (equal c j.clerk e)

    clerk-goes : Goes (to_clerk c m (at c sc.clerks) (settled n w)) (taken_by c m rest (at c sc.clerks) sc)
    clerk-goes = by (at c sc.clerks) refl
      where
        by : (o : Option Clerk) → at c sc.clerks ≡ o → Goes (to_clerk c m o (settled n w)) (taken_by c m rest o sc)
        by None e = vanishes e
        by (Some k) e = runs-on k e

  goes : (b : Bool) → is_for_server m ≡ b → InPhase j (elim b as (λ z. Scene) [ true ↦ served c m rest sc | false ↦ taken_by c m rest (at c sc.clerks) sc ]) q
      → Goes (deliver runs n w) (elim b as (λ z. Scene) [ true ↦ served c m rest sc | false ↦ taken_by c m rest (at c sc.clerks) sc ])
  goes true e iq = subst (λ r. Goes r (served c m rest sc)) (sym (to-server-is e iq)) (server-goes e iq)
  goes false e iq = subst (λ r. Goes r (taken_by c m rest (at c sc.clerks) sc)) (sym (to-clerk-is e)) (clerk-goes e)

  pub stays-on : (i : ℕ) → due w ≡ Some i → (deliver runs i w).fault ≡ None → InPhase j (delivered c m rest sc) q
      → (h : System) × IsOnLine j (deliver runs i w).world (delivered c m rest sc) h × LeavesKept j (delivered c m rest sc) g h
  stays-on i e f iq =
      let same : n ≡ i = same_some (sym (due-is w sc scene c m rest mail) ∙ e) in
      subst (λ z. (h : System) × IsOnLine j (deliver runs z w).world (delivered c m rest sc) h × LeavesKept j (delivered c m rest sc) g h) same (goes (is_for_server m) refl iq (subst (λ z. (deliver runs z w).fault ≡ None) (sym same) f))

pub lines-leave-kept : (j : Work) (w : World) (sc : Scene) (g : System) (p q : Phase) (m : ℕ × Msg) (rest : Mail) (n : ℕ) → IsOnLine j w sc g → IsSpare j sc → IsScene w sc → InPhase j sc p → sc.mail ≡ m ∷ rest
    → due w ≡ Some n → (deliver runs n w).fault ≡ None → InPhase j (delivered m.0 m.1 rest sc) q
    → (h : System) × IsOnLine j (deliver runs n w).world (delivered m.0 m.1 rest sc) h × LeavesKept j (delivered m.0 m.1 rest sc) g h
lines-leave-kept j w sc g p q m rest n on spare scene ip mail e f iq = stays-on j w sc g p q m.0 m.1 rest on spare scene ip mail n e f iq

pub lines-stay-on : (j : Work) (w : World) (sc : Scene) (g : System) (p q : Phase) (m : ℕ × Msg) (rest : Mail) (n : ℕ) → IsOnLine j w sc g → IsSpare j sc → IsScene w sc → InPhase j sc p → sc.mail ≡ m ∷ rest
    → due w ≡ Some n → (deliver runs n w).fault ≡ None → InPhase j (delivered m.0 m.1 rest sc) q → (h : System) × IsOnLine j (deliver runs n w).world (delivered m.0 m.1 rest sc) h
lines-stay-on j w sc g p q m rest n on spare scene ip mail e f iq =
    let then = lines-leave-kept j w sc g p q m rest n on spare scene ip mail e f iq in
    (then.0, then.1)
