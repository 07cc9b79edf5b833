-- The objects with undurable operations of a clerk are live on the server, or ids that clerks have in store: so they're few.
use Rattle.std.proofs.Common.{◌≡◌, refl, sym, ap, subst, ◌∙◌, inl, inr, arith, ◌≤◌, ◌<◌, ◌+◌, ℕ, zero, suc, Bool, true, false, not, ◌==◌, ◌&&◌, T, length, length-append, List, [], ◌∷◌, ◌++◌, Some}
use Rattle.std.specs.Prelude.{nat_le, nat_lt}
use Rattle.std.specs.List.{filter, list_all}
use Rattle.std.proofs.lemmas.Bool.{eqb-true}
use Rattle.std.proofs.lemmas.Bool.Decides.{nat_tests}
use Rattle.ec_base.specs.Tables.{at, keys}
use Rattle.ec_volume.specs.Image.{is_gone}
use Rattle.ec_volume.specs.Update.{distinct, has_operand, listed, member, operands}
use Rattle.ec_volume.specs.Volume.{images}
use Rattle.ec_volume.specs.declared.update.Update.{Update}
use Rattle.ec_log.specs.OfChains.Held.{is_behind}
use Rattle.ec_order.specs.Order.{Holds, Issued}
use Rattle.ec_history.specs.History.{Each, Op, updates}
use Rattle.ec_sessions.specs.Slots.{Slots, all_unspent, slot_at, unspent_of}
use Rattle.ec_sessions.specs.declared.slot.Slot.{Slot}
use Rattle.ec_durable.specs.Durable.{made, slot}
use Rattle.ec_durable.specs.WellFormed.{IsInOrder}
use Rattle.ec_durable.specs.declared.state.Durable.{Durable}
use Rattle.ec_lawful.proofs.ForWhole.Volumes.{live-key}
use Rattle.ec_machine_laws.proofs.Once.{AreOnce, keys-length}
use Rattle.ec_protocol.specs.Clerk.{on_objects}
use Rattle.ec_protocol.specs.declared.clerk.Clerk.{Clerk}
use Rattle.ec_coherence.specs.System.{System, clerk_in, is_of, undurable}
use Rattle.ec_coherence.specs.Images.{ImagesAgree}
use Rattle.ec_coherence.specs.Log.{HasWrites, IdsAgree, LogAgrees, LogsAgree, made_by as makes, mine, numbered}
use Rattle.ec_coherence.specs.Sessions.{SessionsAgree}
use Rattle.ec_coherence.proofs.ForBatches.Carried.{gone-is}
use Rattle.ec_coherence.proofs.ForBatches.Ids.{in-back, in-either, in-front}
use Rattle.ec_coherence.proofs.ForServer.Lists.{each-at, each-fewer, filter-no, filter-yes}
use Rattle.ec_coherence.proofs.ForBatches.OpenSlots.{owner-slot}
use Rattle.ec_machine_laws.proofs.Holding.{holds-front}
use Rattle.ec_lawful.proofs.OfClerkSteps.Unmade.{IsMadeIn, Leaves, unmade}
use Rattle.ec_base.proofs.Bools.{left as and_first, not-both as no_both, and-both as and_both, right as and_next, is-true, holds-true as holds}
use Rattle.ec_base.proofs.Options.{none_some}

-- Lists.

-- an object on which there are operations is an operand of one of them
on-one : (x : ℕ) (ops : Issued) → T (member x (on_objects ops)) → (n : ℕ) × (u : Update) × Holds ops n u × T (member x (operands u))
on-one x [] m = absurd m
on-one x (op ∷ ops) m = elim (in-either x (operands op.1) (on_objects ops) m) [
  | inl t ↦ (op.0, op.1, inl (refl, refl), t)
  | inr t ↦ let r = on-one x ops t in (r.0, r.1, inr r.2, r.3)
]

-- an operation that is held under its number is one of the list's
held-op : (os : List Op) (n : ℕ) (u : Update) → Holds (numbered os) n u → (P : Op → Type 0) → Each P os → (o : Op) × (o.number ≡ n) × (o.update ≡ u) × P o
held-op [] n u h P e = absurd h
held-op (o ∷ os) n u (inl q) P e = (o, q.0, q.1, e.0)
held-op (o ∷ os) n u (inr h) P e = held-op os n u h P e.1

-- what one of these operations makes, which passes the test
in-makes : (test : Op → Bool) (x : ℕ) (front back : List Op) (o : Op) → T (test o) → T (member x (listed (made o.update))) → T (member x (makes (updates (filter test (front ++ o ∷ back)))))
in-makes test x [] back o t m = subst (λ z. T (member x (makes (updates z)))) (sym (filter-yes test o back (is-true (test o) t))) (in-front x (listed (made o.update)) (makes (updates (filter test back))) m)
in-makes test x (f ∷ fs) back o t m = go (test f) refl (in-makes test x fs back o t m)
  where
    go : (b : Bool) → test f ≡ b → T (member x (makes (updates (filter test (fs ++ o ∷ back))))) → T (member x (makes (updates (filter test (f ∷ fs ++ o ∷ back)))))
    go true e r = subst (λ z. T (member x (makes (updates z)))) (sym (filter-yes test f (fs ++ o ∷ back) e)) (in-back x (listed (made f.update)) (makes (updates (filter test (fs ++ o ∷ back)))) r)
    go false e r = subst (λ z. T (member x (makes (updates z)))) (sym (filter-no test f (fs ++ o ∷ back) e)) r

-- the ids of one slot are among those of all
pub in-store : (x c : ℕ) (sl : Slot) (slots : Slots) → slot_at slots c ≡ Some sl → T (member x sl.unspent) → T (member x (all_unspent slots))
in-store x c sl [] e m = absurd (none_some e)
in-store x zero sl (o ∷ slots) e m = in-front x (unspent_of o) (all_unspent slots) (subst (λ z. T (member x (unspent_of z))) (sym e) m)
in-store x (suc c) sl (o ∷ slots) e m = in-back x (unspent_of o) (all_unspent slots) (in-store x c sl slots e m)

pub once-each : (xs : List ℕ) → T (distinct xs) → AreOnce xs
once-each [] d = tt
once-each (x ∷ xs) d = (
  λ y m. apart y m (y == x) refl,
  once-each xs (and_next (not (member x xs)) (distinct xs) d),
)
  where
    apart : (y : ℕ) → T (member y xs) → (b : Bool) → (y == x) ≡ b → b ≡ false
    apart y m false e = refl
    apart y m true e = absurd (no_both (member x xs) (subst (λ z. T (member z xs)) (eqb-true y x e) m) (and_first (not (member x xs)) (distinct xs) d))

-- What is few on the server.

abbrev pub stored_ids : Durable → List ℕ
stored_ids d = keys d.volume ++ all_unspent d.sessions

pub stored-few : (d : Durable) → IsInOrder d → length (stored_ids d) ≤ 1024
stored-few d w = within (length (keys d.volume)) (length d.volume) (length (all_unspent d.sessions)) (length (stored_ids d)) d.max_objects (keys-length d.volume) (length-append (keys d.volume) (all_unspent d.sessions)) w.few
    (and_next (nat_le 32 d.max_objects) (nat_le d.max_objects 1024) w.most)
  where
    below : (a b : ℕ) → T (nat_le a b) → a ≤ b
    below a b t = grind (arith, nat_tests, is-true (nat_le a b) t)

    within : (ks vs us all most : ℕ) → ks ≡ vs → all ≡ ks + us → T (nat_le (vs + us) most) → T (nat_le most 1024) → all ≤ 1024
    within ks vs us all most p q r s = omega (arith, p, q, below (vs + us) most r, below most 1024 s)

-- An operation of the log that isn't durable is kept.

module _ (g : System) (sa : SessionsAgree g) (lo : LogsAgree g) (im : ImagesAgree g) (c s : ℕ) (sl : Slot) (k : Clerk) (here : slot g.durable c ≡ Some sl) (of : sl.session ≡ s) (opened : T sl.is_open) (there : clerk_in g s ≡ Some k)
    (settled : k.log.batches ≡ []) where
  abbrev dur : Op → Bool
  dur = g.ghost.is_durable

  abbrev Writes : Op → Type 0
  Writes o = T (not (dur o)) → HasWrites g o

  ag : LogAgrees g s sl k
  ag = lo.logs s c sl here of opened k there

  not-durable : (n : ℕ) (u : Update) → Holds k.log.undurable n u → (z : Bool) → ag.knows.durable n ≡ z → z ≡ false
  not-durable n u h false e = refl
  not-durable n u h true e =
      let t = ag.knows.tells.known n u h (holds (ag.knows.durable n) e) in
      absurd (none_some (sym (ap (at t.0) settled) ∙ t.2))

  -- each operation that the log still has is a kept one that isn't durable
  undurable-op : (n : ℕ) (u : Update) → Holds k.log.undurable n u → (o : Op) × (o.update ≡ u) × T (not (dur o)) × ((P : Op → Type 0) → Each P g.ghost.kept → P o)
  undurable-op n u h = find (mine g.ghost s) (holds-front (λ x. not (ag.knows.known x.0)) (numbered (mine g.ghost s)) n u (subst (λ ops. Holds ops n u) ag.knows.rest.rest h)) ag.knows.agrees (λ P e. each-fewer P (is_of (g.ghost.owner s)) g.ghost.kept e)
    where
      find : (os : List Op) → Holds (numbered os) n u → Each (λ o. dur o ≡ ag.knows.durable o.number) os → ((P : Op → Type 0) → Each P g.ghost.kept → Each P os)
          → (o : Op) × (o.update ≡ u) × T (not (dur o)) × ((P : Op → Type 0) → Each P g.ghost.kept → P o)
      find [] q e f = absurd q
      find (o ∷ os) (inl q) e f = (o, q.1, subst (λ b. T (not b)) (sym (e.0 ∙ ap ag.knows.durable q.0 ∙ not-durable n u h (ag.knows.durable n) refl)) tt, (λ P p. (f P p).0))
      find (o ∷ os) (inr q) e f = find os q e.1 (λ P p. (f P p).1)

  -- what is made by an undurable operation is in store
  made-stored : (x : ℕ) → IsMadeIn dur x Writes g.ghost.kept → T (member x (all_unspent g.durable.sessions))
  made-stored x m =
      let w = m.fact m.pending in
      let o = owner-slot g sa w.session w.is_open in
      let at-slot = o.2 in
      let ids : IdsAgree w.clerk o.1 (g.ghost.grants w.session) (g.ghost.first w.session) (undurable g.ghost w.session) = (lo.logs w.session o.0 o.1 at-slot.0 at-slot.1 at-slot.2 w.clerk w.in_place).ids in
      let own : T (member x (makes (updates (undurable g.ghost w.session)))) =
      subst (λ z. T (member x (makes (updates (filter (λ q. is_of (g.ghost.owner w.session) q && not (dur q)) z))))) (sym m.whole)
      (in-makes (λ q. is_of (g.ghost.owner w.session) q && not (dur q)) x m.front m.back m.op (and_both (is_of (g.ghost.owner w.session) m.op) (not (dur m.op)) w.own m.pending) m.makes) in
      in-store x o.0 o.1 g.durable.sessions at-slot.0
      (each-at (λ y. T (member y o.1.unspent)) x (w.clerk.ids ++ makes (updates (undurable g.ghost w.session))) ids.free (in-back x w.clerk.ids (makes (updates (undurable g.ghost w.session))) own))

  pub pinned-stored : (x : ℕ) → T (member x (on_objects k.log.undurable)) → T (member x (stored_ids g.durable))
  pinned-stored x m = go (is_gone (images g.durable.volume x)) refl
    where
      go : (b : Bool) → is_gone (images g.durable.volume x) ≡ b → T (member x (stored_ids g.durable))
      go false e = in-front x (keys g.durable.volume) (all_unspent g.durable.sessions) (live-key g.durable.volume x (subst (λ b. T (not b)) (sym e) tt))
      go true e =
          let op = on-one x k.log.undurable m in
          let o = undurable-op op.0 op.1 op.2 in
          let there : T (has_operand x o.0.update) = subst (λ u. T (member x (operands u))) (sym o.1) op.3 in
          in-back x (keys g.durable.volume) (all_unspent g.durable.sessions)
          (elim (unmade dur x Writes g.ghost.kept (g.origin x) lo.writes lo.closed (im.fits x) (sym (im.server x) ∙ gone-is (images g.durable.volume x) e)) [
            | inl l ↦ absurd (no_both (has_operand x o.0.update) there (o.3 (Leaves dur x) l o.2))
            | inr i ↦ made-stored x i
          ])

  -- so are the clerk's own ids
  pub ids-stored : (x : ℕ) → T (member x k.ids) → T (member x (stored_ids g.durable))
  ids-stored x m =
      in-back x (keys g.durable.volume) (all_unspent g.durable.sessions)
      (in-store x c sl g.durable.sessions here
      (each-at (λ y. T (member y sl.unspent)) x (k.ids ++ makes (updates (undurable g.ghost s))) ag.ids.free (in-front x k.ids (makes (updates (undurable g.ghost s))) m)))

-- A log's operations stand before its next one.
pub log-behind : (n : ℕ) (ops : Issued) → ((m : ℕ) (u : Update) → Holds ops m u → m < n) → is_behind n ops ≡ true
log-behind n [] f = refl
log-behind n (op ∷ ops) f = both (nat_lt op.0 n) (list_all (λ x. nat_lt x.0 n) ops) (less op.0 n (f op.0 op.1 (inl (refl, refl)))) (log-behind n ops (λ m u h. f m u (inr h)))
  where
    less : (a b : ℕ) → a < b → nat_lt a b ≡ true
    less a b l = grind (arith, nat_tests, l)

    both : (a b : Bool) → a ≡ true → b ≡ true → (a && b) ≡ true
    both true b e f = f
    both false b e f = e
