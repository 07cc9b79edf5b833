-- What is kept is told by the server's volume and by what clerks hold: so it's the same where these are.
use Rattle.std.proofs.Common.{◌≡◌, refl, sym, ap, subst, ◌∙◌, inl, inr, ◌⊎◌, ℕ, Bool, true, false, not, ◌==◌, cond, T, List, [], ◌∷◌, Option, Some, None}
use Rattle.std.specs.Prelude.{filter, is_some}
use Rattle.ec_base.specs.Tables.{at}
use Rattle.ec_volume.specs.Update.{has_operand, member, operands}
use Rattle.ec_volume.specs.Volume.{after, images}
use Rattle.ec_volume.specs.declared.update.Update.{Update}
use Rattle.ec_history.specs.History.{Each, Op, updates}
use Rattle.ec_order.specs.Order.{Holds, Issued}
use Rattle.ec_machine_laws.proofs.Holding.{holds-kept}
use Rattle.ec_sessions.specs.Limits.{ids_per_grant}
use Rattle.ec_sessions.specs.Slots as slots
use Rattle.ec_sessions.specs.declared.slot.Slot.{Slot}
use Rattle.ec_durable.specs.Durable.{slot}
use Rattle.ec_cache.specs.declared.state.Held.{Held}
use Rattle.ec_protocol.specs.Clerk.{on_objects}
use Rattle.ec_protocol.specs.declared.clerk.Clerk.{Clerk}
use Rattle.ec_protocol.specs.declared.world.World.{World}
use Rattle.ec_coherence.specs.Invariant.{Invariant}
use Rattle.ec_coherence.specs.Log.{HasWrites, LogAgrees, mine, numbered}
use Rattle.ec_coherence.specs.Steps.{Stands}
use Rattle.ec_coherence.specs.System.{System, clerk_in, is_of, is_open, open_in, seen_ops}
use Rattle.ec_coherence.specs.Tokens.{IsWrite}
use Rattle.ec_coherence.proofs.ForBatches.Ending.{untouched-after}
use Rattle.ec_coherence.proofs.ForBatches.Ids.{in-back, in-front}
use Rattle.ec_coherence.proofs.ForServer.Lists.{each-at, each-whole}
use Rattle.ec_coherence.proofs.ForBatches.OpenSlots.{owner-slot}
use Rattle.ec_coherence.proofs.ForServer.Tables.{same_some}
use Rattle.ec_lawful.specs.Whole.{Whole}
use Rattle.ec_quiet.specs.Phases.{Phase, Greets, Opens, Claims, Wants, Recalls, Flushes, Keeps, Grants, Asks, Gives, Refuses, Saves, Saved, Ends, InPhase, IsWorking}
use Rattle.ec_quiet.specs.Quiet.{IsIdle}
use Rattle.ec_quiet.specs.Scenes.{IsScene, Scene}
use Rattle.ec_quiet.specs.Works.{Work}
use Rattle.ec_complete.specs.OfAgreedLines.Worlds.{IsSeen}
use Rattle.ec_complete.proofs.OfAgreedLines.Seen.{clerk-there, scenes-seen}
use Rattle.ec_complete.specs.WaitingCalls.{kept_volume}
use Rattle.ec_complete.proofs.ForLines.Standing.{other}
use Rattle.ec_complete.specs.FirstSteps.{IsStepOf, IsTold}
use Rattle.ec_base.proofs.Options.{none_some}
use Rattle.ec_base.proofs.Numbers.{equal}
use Rattle.ec_base.proofs.Bools.{not-both as no_both, is-true}
use Rattle.ec_lawful.proofs.OfClerkSteps.Issue.{held-of}

-- An operation that is there is what each of them is.
abbrev IsAmong : Op → List Op → Type 0
IsAmong o [] = ⊥
IsAmong o (x ∷ xs) = (x ≡ o) ⊎ IsAmong o xs

of-each : (P : Op → Type 0) (o : Op) (xs : List Op) → IsAmong o xs → Each P xs → P o
of-each P o [] m e = absurd m
of-each P o (x ∷ xs) (inl q) e = subst P q e.0
of-each P o (x ∷ xs) (inr m) e = of-each P o xs m e.1

-- An object with an operation that isn't durable.
record IsPending (f : System) (x : ℕ) : Type 0 where
  op : Op
  pending : T (not (f.ghost.is_durable op))
  operand : T (has_operand x op.update)
  among : IsAmong op f.ghost.kept

abbrev Leaves : System → ℕ → Op → Type 0
Leaves f x o = T (not (f.ghost.is_durable o)) → T (not (has_operand x o.update))

pending-or-not : (f : System) (x : ℕ) → IsPending f x ⊎ Each (Leaves f x) f.ghost.kept
pending-or-not f x = go f.ghost.kept (λ o m. m)
  where
    go : (os : List Op) → ((o : Op) → IsAmong o os → IsAmong o f.ghost.kept) → IsPending f x ⊎ Each (Leaves f x) os
    go [] part = inr tt
    go (o ∷ os) part = by (f.ghost.is_durable o) refl (has_operand x o.update) refl (go os (λ y m. part y (inr m)))
      where
        by : (a : Bool) → f.ghost.is_durable o ≡ a → (b : Bool) → has_operand x o.update ≡ b → IsPending f x ⊎ Each (Leaves f x) os → IsPending f x ⊎ Each (Leaves f x) (o ∷ os)
        by a e b q (inl p) = inl p
        by true e b q (inr l) = inr ((λ t. absurd (subst (λ z. T (not z)) e t)), l)
        by false e false q (inr l) = inr ((λ t. subst (λ z. T (not z)) (sym q) tt), l)
        by false e true q (inr l) = inl (record { op = o; pending = subst (λ z. T (not z)) (sym e) tt; operand = subst T (sym q) tt; among = part o (inl refl) })

-- without one the server has what is kept
as-stored : (f : System) → Invariant f → (x : ℕ) → Each (Leaves f x) f.ghost.kept → kept_volume f x ≡ images f.durable.volume x
as-stored f inv x l = sym (inv.images.server x ∙ untouched-after f.ghost.is_durable x (f.origin x) f.ghost.kept l)

-- A clerk that holds the object under an open session.
record HoldsIt (f : System) (z : Scene) (x : ℕ) : Type 0 where
  number : ℕ
  session : ℕ
  clerk : Clerk
  held : Held
  there : at number z.clerks ≡ Some clerk
  inside : clerk.session ≡ Some session
  opened : T (is_open f session)
  has : at x clerk.cache.held ≡ Some held

-- it has the image that is kept
holds-kept-image : (f : System) (z : Scene) → IsSeen f z → Invariant f → (x : ℕ) (h : HoldsIt f z x) → (h.held).image ≡ kept_volume f x
holds-kept-image f z seen inv x h =
    let start = seen.clerks h.number h.clerk h.there in
    inv.images.licences h.session x h.clerk (clerk-there f inv.sessions h.number start.0 h.session h.clerk start.1 h.inside) h.held h.has
    ∙ ap (λ ks. after f.origin (updates (seen_ops ks f.ghost.kept)) x) (inv.images.unfrozen h.session h.opened)

-- An operation that isn't durable is of a clerk that holds its operands, where the clerk of each open session is there.
abbrev RunsEach : Scene → Type 0
RunsEach z = (c : ℕ) (sl : Slot) → slot z.server.durable c ≡ Some sl → T sl.is_open → (k : Clerk) × (at c z.clerks ≡ Some k) × (k.session ≡ Some sl.session)

record IsOfHolder (f : System) (z : Scene) (x : ℕ) : Type 0 where
  holder : HoldsIt f z x
  op : Op
  pending : T (not (f.ghost.is_durable op))
  operand : T (has_operand x op.update)
  own : T (is_of (f.ghost.owner holder.session) op)
  among : IsAmong op f.ghost.kept

of-holder : (f : System) (z : Scene) → IsSeen f z → Invariant f → RunsEach z → (x : ℕ) → IsPending f x → IsOfHolder f z x
of-holder f z seen inv runs x p =
    let w = of-each (λ o. T (not (f.ghost.is_durable o)) → HasWrites f o) p.op f.ghost.kept p.among inv.logs.writes p.pending in
    let q = owner-slot f inv.sessions w.session w.is_open in
    let here : slot z.server.durable q.0 ≡ Some q.1 = ap (λ d. slot d q.0) (sym seen.durable) ∙ (q.2).0 in
    let r = runs q.0 q.1 here (q.2).2 in
    let start = seen.clerks q.0 r.0 r.1 in
    let inside : (r.0).session ≡ Some w.session = r.2 ∙ ap Some (q.2).1 in
    let same : w.clerk ≡ r.0 = same_some (sym w.in_place ∙ clerk-there f inv.sessions q.0 start.0 w.session r.0 start.1 inside) in
    let t = held-of (at x w.clerk.cache.held) (each-at (λ y. IsWrite (at y w.clerk.cache.held)) x (operands p.op.update) w.writes p.operand) in
    record {
      holder = record { number = q.0; session = w.session; clerk = r.0; held = t.0; there = r.1; inside = inside; opened = w.is_open; has = ap (λ k. at x k.cache.held) (sym same) ∙ t.1 };
      op = p.op;
      pending = p.pending;
      operand = p.operand;
      own = w.own;
      among = p.among;
    }

-- In an idle scene such an operation is in its clerk's log.

on-many : (x n : ℕ) (u : Update) (ops : Issued) → Holds ops n u → T (member x (operands u)) → T (member x (on_objects ops))
on-many x n u [] h m = absurd h
on-many x n u (op ∷ ops) (inl e) m = in-front x (operands op.1) (on_objects ops) (subst (λ z. T (member x (operands z))) (sym e.1) m)
on-many x n u (op ∷ ops) (inr h) m = in-back x (operands op.1) (on_objects ops) (on-many x n u ops h m)

-- those that pass a test, by their numbers
module _ (p : Op → Bool) where
  abbrev IsThere : List Op → Op → Type 0
  IsThere ys z = T (p z) → Holds (numbered (filter p ys)) z.number z.update

  one-more : (y : Op) (ys zs : List Op) → Each (IsThere ys) zs → Each (IsThere (y ∷ ys)) zs
  one-more y ys [] e = tt
  one-more y ys (z ∷ zs) e = ((λ t. later (p y) (e.0 t)), one-more y ys zs e.1)
    where
      later : (a : Bool) → Holds (numbered (filter p ys)) z.number z.update → Holds (numbered (cond a (y ∷ filter p ys) (filter p ys))) z.number z.update
      later true h = inr h
      later false h = h

  all-there : (ys : List Op) → Each (IsThere ys) ys
  all-there [] = tt
  all-there (y ∷ ys) = (first (p y) refl, one-more y ys ys (all-there ys))
    where
      first : (a : Bool) → p y ≡ a → T (p y) → Holds (numbered (cond a (y ∷ filter p ys) (filter p ys))) y.number y.update
      first true e t = inl (refl, refl)
      first false e t = absurd (subst T e t)

in-log : (f : System) (z : Scene) → IsSeen f z → Invariant f → (x : ℕ) (h : IsOfHolder f z x) → T (member x (on_objects h.holder.clerk.log.undurable))
in-log f z seen inv x h =
    let q = owner-slot f inv.sessions h.holder.session h.holder.opened in
    let start = seen.clerks h.holder.number h.holder.clerk h.holder.there in
    let there : clerk_in f h.holder.session ≡ Some h.holder.clerk = clerk-there f inv.sessions h.holder.number start.0 h.holder.session h.holder.clerk start.1 h.holder.inside in
    let ag : LogAgrees f h.holder.session q.1 h.holder.clerk = inv.logs.logs h.holder.session q.0 q.1 (q.2).0 (q.2).1 (q.2).2 h.holder.clerk there in
    let o = h.op in
    let mine-holds : Holds (numbered (mine f.ghost h.holder.session)) o.number o.update = of-each (IsThere (is_of (f.ghost.owner h.holder.session)) f.ghost.kept) o f.ghost.kept h.among (all-there (is_of (f.ghost.owner h.holder.session)) f.ghost.kept) h.own in
    on-many x o.number o.update h.holder.clerk.log.undurable
    (subst (λ ops. Holds ops o.number o.update) (sym ag.knows.rest.rest) (holds-kept (λ y. not (ag.knows.known y.0)) (numbered (mine f.ghost h.holder.session)) o.number o.update mine-holds (unknown ag (ag.knows.known o.number) refl))) h.operand
  where
    unknown : {q : Slot} (ag : LogAgrees f h.holder.session q h.holder.clerk) (b : Bool) → ag.knows.known h.op.number ≡ b → not (ag.knows.known h.op.number) ≡ true
    unknown ag false e = ap not e
    unknown ag true e =
        let durable : T (ag.knows.durable h.op.number) = ag.knows.sure h.op.number (subst T (sym e) tt) in
        let agrees : f.ghost.is_durable h.op ≡ ag.knows.durable h.op.number = of-each (λ o. T (is_of (f.ghost.owner h.holder.session) o) → f.ghost.is_durable o ≡ ag.knows.durable o.number) h.op f.ghost.kept h.among (each-whole (λ o. f.ghost.is_durable o ≡ ag.knows.durable o.number) (is_of (f.ghost.owner h.holder.session)) f.ghost.kept ag.knows.agrees) h.own in
        absurd (no_both (ag.knows.durable h.op.number) durable (subst (λ b. T (not b)) agrees h.pending))

-- The first step of a line.

module _ (j : Work) (w u : World) (sc now : Scene) (g h : System) (q : Phase) (wg : Whole g) (sg : Stands w g) (scene : IsScene w sc) (idle : IsIdle sc) (wh : Whole h) (sh : Stands u h) (then : IsScene u now)
    (origin : h.origin ≡ g.origin) (server : now.server ≡ sc.server) (step : IsStepOf j.clerk sc.clerks now.clerks) (iq : InPhase j now q) (told : IsTold q) where
  seen-g : IsSeen g sc
  seen-g = scenes-seen w g sc sg scene

  seen-h : IsSeen h now
  seen-h = scenes-seen u h now sh then

  inv-g : Invariant g
  inv-g = wg.all.0

  inv-h : Invariant h
  inv-h = wh.all.0

  durable : h.durable ≡ g.durable
  durable = seen-h.durable ∙ ap (λ v. v.durable) server ∙ sym seen-g.durable

  -- the clerk of each open session is there

  idle-runs : RunsEach sc
  idle-runs c sl here opened = by (at c sc.clerks) refl (idle.orderly.run c sl here (is-true sl.is_open opened))
    where
      by : (o : Option Clerk) → at c sc.clerks ≡ o → T (is_some o) → (k : Clerk) × (at c sc.clerks ≡ Some k) × (k.session ≡ Some sl.session)
      by None e t = absurd t
      by (Some k) e t = let i = idle.clerks c k e in (k, e, i.1.inside.session ∙ ap (λ z. Some z.session) (same_some (sym i.1.inside.there ∙ here)))

  abbrev Works : Type 0
  Works = (xs : List ℕ) × (a : Slot) × (k : Clerk) × IsWorking xs j now a k

  works : (q : Phase) → IsTold q → InPhase j now q → (sl : Slot) → slot now.server.durable j.clerk ≡ Some sl → T sl.is_open → Works
  works (Greets age) t ip sl here opened = absurd (closed (sym ip.facts.2 ∙ ap slots.is_open here ∙ is-true sl.is_open opened))
    where
      closed : false ≡ true → ⊥
      closed e = cc
  works (Opens age) t ip sl here opened = absurd t
  works (Claims None) t ip sl here opened = let f = ip.facts.1 in ([], f.slot, f.clerk, f.working)
  works (Claims (Some q)) t ip sl here opened = let f = ip.facts.1 in ([], f.slot, f.clerk, f.working)
  works (Wants x m n) t ip sl here opened = let f = ip.facts.1 in ([], f.slot, f.clerk, f.working)
  works (Recalls x m rs bs) t ip sl here opened = let f = (ip.facts.0).wanting in ([], f.slot, f.clerk, f.working)
  works (Flushes x m r b ops more) t ip sl here opened = let f = (ip.facts.0).wanting in ([], f.slot, f.clerk, f.working)
  works (Keeps x m r b more) t ip sl here opened = let f = (ip.facts.0).wanting in ([], f.slot, f.clerk, f.working)
  works (Grants x m n) t ip sl here opened = let f = ip.facts.3 in (x ∷ [], f.slot, f.clerk, f.working)
  works (Asks again got ask) t ip sl here opened = let f = ip.facts.1 in ([], f.slot, f.clerk, f.working)
  works (Gives got n first) t ip sl here opened = let f = ip.facts.3 in (slots.run first ids_per_grant, f.slot, f.clerk, f.working)
  works (Refuses again ask live reserved) t ip sl here opened = let f = ip.facts.1 in ([], f.slot, f.clerk, f.working)
  works (Saves b ops more) t ip sl here opened = let f = ip.facts.1 in ([], f.slot, f.clerk, f.working)
  works (Saved b more) t ip sl here opened = let f = ip.facts.1 in ([], f.slot, f.clerk, f.working)
  works Ends t ip sl here opened = let f = ip.facts.1 in ([], f.slot, f.clerk, f.working)

  now-runs : RunsEach now
  now-runs c sl here opened = by-own (c == j.clerk) refl
    where
      by-other : (c == j.clerk) ≡ false → (o : Option Clerk) → at c now.clerks ≡ o → T (is_some o) → (k : Clerk) × (at c now.clerks ≡ Some k) × (k.session ≡ Some sl.session)
      by-other e None f t = absurd t
      by-other e (Some k) f t = let o = other j now q iq c k e f in (k, f, o.session ∙ ap (λ z. Some z.session) (same_some (sym o.here ∙ here)))

      by-own : (b : Bool) → (c == j.clerk) ≡ b → (k : Clerk) × (at c now.clerks ≡ Some k) × (k.session ≡ Some sl.session)
      by-own false e = by-other e (at c now.clerks) refl (iq.orderly.run c sl here (is-true sl.is_open opened))
      by-own true e =
          let own : slot now.server.durable j.clerk ≡ Some sl = ap (slot now.server.durable) (sym (equal c j.clerk e)) ∙ here in
          let f = works q told iq sl own opened in
          (f.2, ap (λ z. at z now.clerks) (equal c j.clerk e) ∙ f.3.there, f.3.inside.session ∙ ap (λ z. Some z.session) (same_some (sym f.3.inside.there ∙ own)))

  -- who holds an image behind the step held it before
  before : (x : ℕ) (a : HoldsIt h now x) → (b : HoldsIt g sc x) × ((b.held).image ≡ (a.held).image)
  before x a = by-own (a.number == j.clerk) refl
    where
      opened : T (is_open g a.session)
      opened = subst (λ d. T (open_in d.sessions a.session)) durable a.opened

      by-own : (b : Bool) → (a.number == j.clerk) ≡ b → (b : HoldsIt g sc x) × ((b.held).image ≡ (a.held).image)
      by-own false e = (record { number = a.number; session = a.session; clerk = a.clerk; held = a.held; there = sym (step.others a.number e) ∙ a.there; inside = a.inside; opened = opened; has = a.has }, refl)
      by-own true e = elim step.own [
        | inl s ↦ absurd (none_some (ap (at x) (sym s.3) ∙ ap (λ k. at x k.cache.held) (same_some (sym s.2 ∙ ap (λ z. at z now.clerks) (sym (equal a.number j.clerk e)) ∙ a.there)) ∙ a.has))
        | inr s ↦
            let is : s.1 ≡ a.clerk = same_some (sym s.3 ∙ ap (λ z. at z now.clerks) (sym (equal a.number j.clerk e)) ∙ a.there) in (
              record {
                number = a.number;
                session = a.session;
                clerk = s.0;
                held = a.held;
                there = ap (λ z. at z sc.clerks) (equal a.number j.clerk e) ∙ s.2;
                inside = sym s.4.session ∙ ap (λ z. z.session) is ∙ a.inside;
                opened = opened;
                has = s.4.less x a.held (ap (λ k. at x k.cache.held) is ∙ a.has);
              },
              refl,
            )
      ]

  -- and who has an operation on it holds it still
  behind : (x : ℕ) (o : IsOfHolder g sc x) → (a : HoldsIt h now x) × ((a.held).image ≡ (o.holder.held).image)
  behind x o = by-own (o.holder.number == j.clerk) refl
    where
      opened : T (is_open h o.holder.session)
      opened = subst (λ d. T (open_in d.sessions o.holder.session)) (sym durable) o.holder.opened

      by-own : (b : Bool) → (o.holder.number == j.clerk) ≡ b → (a : HoldsIt h now x) × ((a.held).image ≡ (o.holder.held).image)
      by-own false e =
          (record { number = o.holder.number; session = o.holder.session; clerk = o.holder.clerk; held = o.holder.held; there = step.others o.holder.number e ∙ o.holder.there; inside = o.holder.inside; opened = opened; has = o.holder.has }, refl)
      by-own true e = elim step.own [
        | inl s ↦ absurd (none_some (sym s.0 ∙ ap (λ z. at z sc.clerks) (sym (equal o.holder.number j.clerk e)) ∙ o.holder.there))
        | inr s ↦
            let is : s.0 ≡ o.holder.clerk = same_some (sym s.2 ∙ ap (λ z. at z sc.clerks) (sym (equal o.holder.number j.clerk e)) ∙ o.holder.there) in (
              record {
                number = o.holder.number;
                session = o.holder.session;
                clerk = s.1;
                held = o.holder.held;
                there = ap (λ z. at z now.clerks) (equal o.holder.number j.clerk e) ∙ s.3;
                inside = s.4.session ∙ ap (λ z. z.session) is ∙ o.holder.inside;
                opened = opened;
                has = s.4.pinned x (subst (λ k. T (member x (on_objects k.log.undurable))) (sym is) (in-log g sc seen-g inv-g x o)) ∙ ap (λ k. at x k.cache.held) is ∙ o.holder.has;
              },
              refl,
            )
      ]

  kept-at : (x : ℕ) → kept_volume h x ≡ kept_volume g x
  kept-at x = elim (pending-or-not h x) [ inl p ↦ by-holder (of-holder h now seen-h inv-h now-runs x p) | inr l ↦ by-store l (pending-or-not g x) ]
    where
      by-holder : IsOfHolder h now x → kept_volume h x ≡ kept_volume g x
      by-holder o = let b = before x o.holder in sym (holds-kept-image h now seen-h inv-h x o.holder) ∙ sym b.1 ∙ holds-kept-image g sc seen-g inv-g x b.0

      by-store : Each (Leaves h x) h.ghost.kept → IsPending g x ⊎ Each (Leaves g x) g.ghost.kept → kept_volume h x ≡ kept_volume g x
      by-store l (inr m) = as-stored h inv-h x l ∙ ap (λ d. images d.volume x) durable ∙ sym (as-stored g inv-g x m)
      by-store l (inl p) =
          let o = of-holder g sc seen-g inv-g idle-runs x p in
          let a = behind x o in
          sym (holds-kept-image h now seen-h inv-h x a.0) ∙ a.1 ∙ holds-kept-image g sc seen-g inv-g x o.holder

  pub first-steps-leave : kept_volume h ≡ kept_volume g
  first-steps-leave = λ i x. kept-at x i
