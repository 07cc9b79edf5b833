-- The system behind the end of a session, whatever its line: what stays there.
use Rattle.std.proofs.Common.{◌≡◌, ◌≢◌, sym, ap, subst, ◌∙◌, inl, inr, arith, ◌≤◌, ℕ, Bool, true, false, not, ◌==◌, ◌&&◌, T, List, [], Option, Some, None}
use Rattle.std.specs.List.{filter}
use Rattle.ec_base.specs.Holds.{clash, is_free, rank}
use Rattle.ec_base.specs.Tables.{at}
use Rattle.ec_base.specs.declared.ids.Age.{Age}
use Rattle.ec_base.specs.declared.ids.Hold.{Hold}
use Rattle.ec_base.specs.declared.ids.Hold.TheVariants.{Free, Read, Write}
use Rattle.ec_volume.specs.Update.{operands}
use Rattle.ec_history.specs.History.{Op, Each, Throughout, kept, numbers, is_one_of}
use Rattle.ec_history.specs.Legal.{leaves}
use Rattle.ec_history.specs.declared.shown.Shown.{Shown}
use Rattle.ec_sessions.specs.declared.slot.Slot.{Slot}
use Rattle.ec_wire.specs.declared.msg.Msg.{Msg}
use Rattle.ec_durable.specs.Durable.{slot}
use Rattle.ec_durable.specs.declared.state.Durable.{Durable}
use Rattle.ec_protocol.specs.declared.clerk.Clerk.{Clerk}
use Rattle.ec_protocol.specs.declared.server.Server.{Server}
use Rattle.ec_coherence.specs.System.{System, base_of, is_of, is_open, undurable}
use Rattle.ec_coherence.specs.Tokens.{IsWrite, eff, eff_hold, view}
use Rattle.ec_coherence.specs.Log.{HasWrites}
use Rattle.ec_coherence.specs.Events.{Frees, IsUncut, Untouched, shown_boot}
use Rattle.ec_coherence.specs.Invariant.{Invariant}
use Rattle.ec_coherence.specs.Steps.{end_session}
use Rattle.ec_coherence.proofs.ForServer.Lists.{each-always, each-part, each-turn, either_way, filter-alike, filter-two}
use Rattle.ec_coherence.proofs.ForBatches.OneSession.{write-eff}
use Rattle.ec_coherence.proofs.ForBatches.OpenSlots.{one-owner, open-at, at-open}
use Rattle.ec_coherence.proofs.ForServer.Tables.{same_some}
use Rattle.std.proofs.lemmas.Bool.{cases_eq}
use Rattle.ec_coherence.specs.Starts.{StartsAgree}
use Rattle.ec_coherence.specs.Watches.{WatchesAgree}
use Rattle.ec_coherence.specs.Ends.{show_line}
use Rattle.ec_coherence.proofs.Its as its
use Rattle.ec_base.proofs.Bools.{left as and_first, and-both as and_both, same_tests, right as and_next}
use Rattle.ec_base.proofs.Numbers.{same-self as same}
use Rattle.ec_base.proofs.Options.{none_some}

-- beside a Write token there's no other one
free-beside : (a b : Hold) → 2 ≤ rank b → T (not (clash a b)) → T (is_free a)
free-beside Free b l n = tt
free-beside a Free l n = absurd (omega (arith, l))
free-beside a Read l n = absurd (omega (arith, l))
free-beside Read Write l n = absurd n
free-beside Write Write l n = absurd n

module _ (g : System) (i : Invariant g) (wa : WatchesAgree g) (st : StartsAgree g) (c : ℕ) (sl : Slot) (in_slot : slot g.durable c ≡ Some sl) (opened : T sl.is_open)
    -- the durable state behind it, where the slot isn't open and the others stay; and tokens of this session and of ended ones stay
    (d : Durable) (v : Option Server) (p : List (ℕ × Msg)) (others : (j : ℕ) → j ≢ c → slot d j ≡ slot g.durable j) (closed : (so : Slot) → slot d c ≡ Some so → T so.is_open → ⊥)
    (own-tokens : (x : ℕ) → eff (view (record g { durable = d; server = v; pool = p; ghost = end_session g sl.session g.ghost })) sl.session x ≡ eff (view g) sl.session x)
    (cut-tokens : (r : ℕ) (ks : List Op) → g.ghost.frozen r ≡ Some ks → (x : ℕ) → eff (view (record g { durable = d; server = v; pool = p; ghost = end_session g sl.session g.ghost })) r x ≡ eff (view g) r x) where
  abbrev s : ℕ
  s = sl.session

  abbrev pub behind : Shown → System
  behind l = record g { durable = d; server = v; pool = p; ghost = show_line l (end_session g s g.ghost) }

  owner-is : g.ghost.owner s ≡ Some (c, sl.age)
  owner-is = its.owner-is g i wa st c sl in_slot opened

  open-now : T (is_open g s)
  open-now = its.open-now g i wa st c sl in_slot opened

  abbrev left : Op → Bool
  left k = not (is_of (g.ghost.owner s) k && not (g.ghost.is_durable k))

  abbrev theirs : ℕ → Op → Bool
  theirs r k = is_of (g.ghost.owner r) k && not (g.ghost.is_durable k)

  -- sessions that are open then
  pub was-open : (l : Shown) (r : ℕ) → T (is_open (behind l) r) → T (is_open g r) × (r ≢ s)
  was-open l r o =
      let q = open-at r d.sessions o in
      elim (cases_eq q.0 c) [
        | inl e ↦ absurd (closed q.1 (ap (slot d) (sym e) ∙ (q.2).0) (q.2).2)
        | inr n ↦
            let before : slot g.durable q.0 ≡ Some q.1 = sym (others q.0 n) ∙ (q.2).0 in (
              at-open r (g.durable).sessions q.0 q.1 (before, (q.2).1, (q.2).2),
              λ e. absurd (n (ap (λ z. z.0) (same_some (sym (i.sessions.slots q.0 q.1 before).2 ∙ ap g.ghost.owner ((q.2).1 ∙ e) ∙ owner-is)))),
            )
      ]

  -- of them nothing is lost
  pub undurable-stays : (l : Shown) (r : ℕ) → T (is_open g r) → r ≢ s → undurable (behind l).ghost r ≡ undurable g.ghost r
  undurable-stays l r o n = filter-two (theirs r) left g.ghost.kept ∙ filter-alike (λ k. left k && theirs r k) (theirs r) g.ghost.kept (each-always (λ k. (left k && theirs r k) ≡ theirs r k) g.ghost.kept
      (λ k. same_tests (left k && theirs r k) (theirs r k) (λ t. and_next (left k) (theirs r k) t) (λ t. and_both (left k) (theirs r k) (stays k t) t)))
    where
      stays : (k : Op) → T (theirs r k) → T (left k)
      stays k t = elim (either_way (is_of (g.ghost.owner s) k && not (g.ghost.is_durable k))) [
        | inr z ↦ z
        | inl z ↦ absurd (n (one-owner g i.sessions r s k o open-now (and_first (is_of (g.ghost.owner r) k) _ t) (and_first (is_of (g.ghost.owner s) k) _ z)))
      ]

  pub frozen-own : (l : Shown) → (behind l).ghost.frozen s ≡ Some g.ghost.kept
  frozen-own l = ap (λ b. elim b as (λ z. Option (List Op)) [ true ↦ Some g.ghost.kept | false ↦ g.ghost.frozen s ]) (same s)

  pub frozen-other : (l : Shown) (r : ℕ) → (r == s) ≡ false → (behind l).ghost.frozen r ≡ g.ghost.frozen r
  frozen-other l r n = ap (λ b. elim b as (λ z. Option (List Op)) [ true ↦ Some g.ghost.kept | false ↦ g.ghost.frozen r ]) n

  -- who isn't cut off then wasn't before, and has another session
  pub uncut-before : (l : Shown) (f : ℕ) (k : Clerk) → IsUncut (behind l) f k → IsUncut g f k
  uncut-before l f k n r q = go (r == s) (n r q)
    where
      go : (b : Bool) → elim b as (λ z. Option (List Op)) [ true ↦ Some g.ghost.kept | false ↦ g.ghost.frozen r ] ≡ None → g.ghost.frozen r ≡ None
      go true e = absurd (none_some (sym e))
      go false e = e

  pub not-its : (l : Shown) (b : ℕ) (k : Clerk) → g.clerks c b ≡ Some k → IsUncut (behind l) c k → b ≢ (sl.age).boot
  not-its l b k q n = λ e.
      let age = its.its-age g i wa st c sl in_slot opened k (sym (ap (g.clerks c) e) ∙ q) in
      absurd (none_some (sym (sym (frozen-own l) ∙ n s (owner-is ∙ ap (λ a. Some (c, a)) (sym age)))))

  -- nor is a start of an ended session that of this one
  pub not-cut : (b r : ℕ) (k : Clerk) → g.clerks c b ≡ Some k → g.ghost.owner r ≡ Some (c, k.age) → r ≢ s → b ≢ (sl.age).boot
  not-cut b r k q w n = λ e.
      let age = its.its-age g i wa st c sl in_slot opened k (sym (ap (g.clerks c) e) ∙ q) in
      absurd (n (i.sessions.once r s (c, sl.age) (w ∙ ap (λ a. Some (c, a)) age) owner-is))

  -- Tokens.

  pub frees-stay : (l : Shown) (r : ℕ) (ks : List Op) → g.ghost.frozen r ≡ Some ks → (o : Op) → Frees g r o → Frees (behind l) r o
  frees-stay l r ks f o q = each-turn (λ x. T (is_free (eff_hold (eff (view g) r x)))) (λ x. T (is_free (eff_hold (eff (view (behind l)) r x)))) (operands o.update)
      (λ x z. subst (λ e. T (is_free (eff_hold e))) (sym (cut-tokens r ks f x)) z) q

  -- the session has no token on what another one may still lose
  pub frees-own : (l : Shown) (r : ℕ) → T (is_open (behind l) r) → Each (λ o. Frees (behind l) s o) (undurable (behind l).ghost r)
  frees-own l r o = let before = was-open l r o in
      subst (Each (λ y. Frees (behind l) s y)) (sym (undurable-stays l r before.0 before.1))
      (each-part (λ y. Frees (behind l) s y) (λ y. is_of (g.ghost.owner r) y && not (g.ghost.is_durable y)) g.ghost.kept
      (each-turn (λ y. T (not (g.ghost.is_durable y)) → HasWrites g y) (λ y. T (is_of (g.ghost.owner r) y && not (g.ghost.is_durable y)) → Frees (behind l) s y) g.ghost.kept (λ y f t. one before.0 before.1 y f t) i.logs.writes))
    where
      one : T (is_open g r) → r ≢ s → (y : Op) → (T (not (g.ghost.is_durable y)) → HasWrites g y) → T (is_of (g.ghost.owner r) y && not (g.ghost.is_durable y)) → Frees (behind l) s y
      one now n y f t =
          let w = f (and_next (is_of (g.ghost.owner r) y) _ t) in
          let there : w.session ≡ r = one-owner g i.sessions w.session r y w.is_open now w.own (and_first (is_of (g.ghost.owner r) y) _ t) in
          each-turn (λ x. IsWrite (at x (w.clerk).cache.held)) (λ x. T (is_free (eff_hold (eff (view (behind l)) s x)))) (operands y.update)
          (λ x z. subst (λ e. T (is_free (eff_hold e))) (sym (own-tokens x)) (free-beside (eff_hold (eff (view g) s x)) (eff_hold (eff (view g) w.session x)) (write-eff g i.tokens w.session x w.clerk w.in_place z)
          (i.tokens.exclusive s w.session x (λ e. absurd (n (sym there ∙ sym e))) open-now w.is_open))) w.writes

  -- Entries that left what it may lose alone still do.
  pub untouched-stays : (l : Shown) (r : ℕ) (o : ℕ × Age) → g.ghost.owner r ≡ Some o → T (is_open (behind l) r) → Throughout (Untouched (behind l) r o) [] g.ghost.history
  untouched-stays l r o w q = let before = was-open l r q in
      subst (λ us. Throughout (λ h e. T (leaves (base_of g) (kept (base_of g) h) o.0 (filter (is_one_of o.0 (shown_boot g o.0 (o.1).boot) (numbers us)) (kept (base_of g) h)) e)) [] g.ghost.history)
      (sym (undurable-stays l r before.0 before.1)) (i.events.untouched r o w before.0)
