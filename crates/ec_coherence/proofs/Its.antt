-- What is known of a session that is open, and of its start.
use Rattle.std.proofs.Common.{◌≡◌, refl, sym, ap, ◌∙◌, inl, inr, arith, ◌<◌, ◌≤◌, ◌+◌, ℕ, Bool, true, false, not, ◌==◌, ◌&&◌, ◌||◌, cond, T, List, [], Option, Some, None}
use Rattle.std.specs.Prelude.{is_none, is_some, nat_lt}
use Rattle.std.proofs.lemmas.Bool.{true≢false}
use Rattle.ec_base.specs.Ages.{is_older}
use Rattle.ec_base.specs.declared.ids.Age.{Age}
use Rattle.ec_history.specs.History.{numbers}
use Rattle.ec_history.specs.Placing.{watch, owner}
use Rattle.ec_history.specs.declared.watch.Watch.{Watch}
use Rattle.ec_sessions.specs.declared.slot.Slot.{Slot}
use Rattle.ec_durable.specs.Durable.{slot}
use Rattle.ec_protocol.specs.declared.clerk.Clerk.{Clerk}
use Rattle.ec_coherence.specs.System.{System, clerk_in, is_open, undurable}
use Rattle.ec_coherence.specs.Tokens.{side_in}
use Rattle.ec_coherence.specs.Events.{IsUncut, shown_boot}
use Rattle.ec_coherence.specs.Invariant.{Invariant}
use Rattle.ec_coherence.specs.Steps.{runs}
use Rattle.ec_coherence.proofs.ForBatches.Committed.{session-there, start-there}
use Rattle.ec_coherence.proofs.ForServer.Lists.{either_way}
use Rattle.ec_coherence.proofs.ForBatches.OpenSlots.{at-open}
use Rattle.ec_coherence.proofs.ForServer.Tables.{same_some}
use Rattle.ec_coherence.specs.Starts.{StartsAgree}
use Rattle.ec_coherence.specs.Watches.{WatchesAgree, still_in}
use Rattle.ec_base.proofs.Numbers.{same-self as same, equal}
use Rattle.ec_base.proofs.Options.{some-at}
use Rattle.ec_base.proofs.Bools.{no-longer as is-false, is-true}

-- an age of the same boot that is neither older nor at a greater round is the same
same-age : (a b : Age) → a.boot ≡ b.boot → T (not (is_older a b)) → a.round ≤ b.round → a ≡ b
same-age a b e n l = λ i. record { boot = e i; round = rounds i }
  where
    off : (x y : Bool) → (x || (true && y)) ≡ false → y ≡ false
    off true y p = absurd (true≢false p)
    off false y p = p

    equal-rounds : (m n : ℕ) → nat_lt m n ≡ false → m ≤ n → m ≡ n
    equal-rounds m n p q = grind arith

    rounds : a.round ≡ b.round
    rounds = equal-rounds a.round b.round
        (off (nat_lt a.boot b.boot) (nat_lt a.round b.round) (ap (λ z. nat_lt a.boot b.boot || (z && nat_lt a.round b.round)) (sym (ap (λ z. z == b.boot) e ∙ same b.boot)) ∙ is-false (is_older a b) n)) l

module _ (g : System) (i : Invariant g) (wa : WatchesAgree g) (st : StartsAgree g) (c : ℕ) (sl : Slot) (in_slot : slot g.durable c ≡ Some sl) (opened : T sl.is_open) where
  abbrev s : ℕ
  s = sl.session

  abbrev b : ℕ
  b = (sl.age).boot

  abbrev w : Watch
  w = watch c g.ghost.shown

  pub owner-is : g.ghost.owner s ≡ Some (c, sl.age)
  owner-is = (i.sessions.slots c sl in_slot).2

  pub open-now : T (is_open g s)
  open-now = at-open s (g.durable).sessions c sl (in_slot, refl, opened)

  pub above : g.first_boot c < b
  above = (st.owned s c sl.age owner-is).0 (i.images.unfrozen s open-now)

  -- its start is at the age with which it was opened
  pub its-age : (k : Clerk) → g.clerks c b ≡ Some k → k.age ≡ sl.age
  its-age k p = elim (either_way (g.ghost.taken s)) [ inl t ↦ taken t | inr n ↦ untaken n ]
    where
      taken : T (g.ghost.taken s) → k.age ≡ sl.age
      taken t =
          let m = clerk-of (clerk_in g s) refl (i.tokens.present s open-now t) in
          let at-start = start-there s (g.ghost.owner s) c sl.age g.clerks m.0 owner-is m.1 in
          let in-it = session-there s (g.ghost.owner s) g.clerks m.0 m.1 in
          let mine = (i.sessions.in_session c b s m.0 at-start in-it).0 in
          ap (λ z. z.age) (same_some (sym p ∙ at-start)) ∙ ap (λ o. o.1) (same_some (sym mine ∙ owner-is))
        where
          clerk-of : (o : Option Clerk) → clerk_in g s ≡ o → T (is_some (side_in o)) → (m : Clerk) × (clerk_in g s ≡ Some m)
          clerk-of None e t = absurd t
          clerk-of (Some m) e t = (m, e)

      untaken : T (not (g.ghost.taken s)) → k.age ≡ sl.age
      untaken n =
          let f = (i.sessions.told s (c, sl.age) k owner-is p).1 n in
          sym (same-age sl.age k.age (sym (i.sessions.starts c b k p).1) f.1 ((st.owned s c sl.age owner-is).1 k p))

  -- no session of it has ended
  pub live : (k : Clerk) → g.clerks c b ≡ Some k → IsUncut g c k
  live k p r q =
      let same-session : r ≡ s = i.sessions.once r s (c, sl.age) (q ∙ ap (λ a. Some (c, a)) (its-age k p)) owner-is in
      ap g.ghost.frozen same-session ∙ i.images.unfrozen s open-now

  -- the start that runs, and that of the session

  pub runs-now : runs g c b ≡ true → g.running c ≡ Some b
  runs-now e = go (g.running c) refl e
    where
      go : (o : Option ℕ) → g.running c ≡ o → (is_some o && (b == g.boots c)) ≡ true → g.running c ≡ Some b
      go None p e = absurd (true≢false (sym e))
      go (Some r) p e = p ∙ ap Some ((i.sessions.running c r p).0 ∙ sym (equal b (g.boots c) e))

  pub runs-then : g.running c ≡ Some b → runs g c b ≡ true
  runs-then p = ap (λ o. is_some o && (b == g.boots c)) p ∙ ap (λ n. b == n) (sym (i.sessions.running c b p).0) ∙ same b

  pub running-watch : (r : ℕ) → g.running c ≡ Some r → w.running ≡ true
  running-watch r p = (wa c).running ∙ ap is_some p

  pub starts-now : (r : ℕ) → g.running c ≡ Some r → w.starts ≡ shown_boot g c r
  starts-now r p = sym (ap (λ z. (cond z w (record w { starts = w.starts + 1; running = true })).starts) (running-watch r p)) ∙ i.events.starts c r p

  pub untold-now : g.running c ≡ Some b → w.untold ≡ None
  untold-now p = let k = some-at (g.clerks c b) (i.sessions.running c b p).1 in i.events.untold c b k.0 p k.1 (live k.0 k.1)

  -- the line of its end belongs to it
  pub owner-shown : (is_some w.open_start || runs g c b) ≡ true → owner w ≡ Some (shown_boot g c b)
  owner-shown e = go w.open_start refl e
    where
      go : (o : Option ℕ) → w.open_start ≡ o → (is_some o || runs g c b) ≡ true → owner w ≡ Some (shown_boot g c b)
      go (Some d) p e =
          let z = (wa c).open_start d p in
          ap (λ o. elim o as (λ y. Option ℕ) [ Some x ↦ Some x | None ↦ cond (w.running && is_none w.untold) (Some w.starts) None ]) p ∙ ap Some (z.3 ∙ ap (λ a. shown_boot g c (a.age).boot) (same_some (sym z.1 ∙ in_slot)))
      go None p e =
          let r = runs-now e in
          ap (λ o. elim o as (λ y. Option ℕ) [ Some x ↦ Some x | None ↦ cond (w.running && is_none w.untold) (Some w.starts) None ]) p
          ∙ ap (λ z. cond (z && is_none w.untold) (Some w.starts) None) (running-watch b r)
          ∙ ap (λ z. cond (is_none z) (Some w.starts) None) (untold-now r)
          ∙ ap Some (starts-now b r)

  -- what it may still lose
  pub still-now : w.undurable ≡ numbers (undurable g.ghost s)
  still-now = (wa c).still ∙ ap (still_in g.ghost) in_slot ∙ ap (λ z. elim z as (λ y. List ℕ) [ true ↦ numbers (undurable g.ghost s) | false ↦ [] ]) (is-true sl.is_open opened)
