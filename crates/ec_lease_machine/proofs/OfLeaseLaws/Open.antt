-- A session of a running clerk's age stays as open as it is, and while it's open nothing is untold.
use Rattle.std.proofs.Common.{◌≡◌, ◌≢◌, refl, sym, ap, subst, ◌∙◌, arith, ◌≤◌, ◌+◌, ℕ, T, Bool, true, false, ◌==◌, ◌&&◌, ◌||◌, List, Option, Some, None}
use Rattle.std.specs.Prelude.{Contains, nat_lt, Result, Ok, Err}
use Rattle.std.proofs.lemmas.List.{get_or-set_other}
use Rattle.ec_base.specs.Ages.{is_older}
use Rattle.ec_base.specs.declared.ids.Age.{Age}
use Rattle.ec_volume.specs.declared.update.Update.{Update}
use Rattle.ec_history.specs.Placing.{watch}
use Rattle.ec_sessions.specs.Slots as slots
use Rattle.ec_sessions.specs.declared.slot.Slot.{Slot}
use Rattle.ec_wire.specs.declared.msg.Msg.TheVariants.{Hello}
use Rattle.ec_durable.specs.Durable.{batch_step, has_batch, is_beyond, is_next_session, is_session, low, slot, step, with_slot}
use Rattle.ec_durable.specs.declared.state.Durable.{Durable}
use Rattle.ec_durable.specs.declared.record.Record.{Record}
use Rattle.ec_durable.specs.declared.record.Record.TheVariants.{Batch, Open, End, Ids, Epoch}
use Rattle.ec_durable.specs.declared.record.RecordFault.{RecordFault}
use Rattle.ec_durable.specs.declared.record.RecordFault.TheVariants as fault
use Rattle.ec_machine_laws.proofs.Recording.{batch-own, batch-rest, ids-own, ids-rest, open-rest}
use Rattle.ec_protocol.specs.declared.clerk.Clerk.{Clerk}
use Rattle.ec_coherence.specs.System.{System}
use Rattle.ec_coherence.specs.Sessions as sessions
use Rattle.ec_coherence.specs.CommitLaws.{AllAgree}
use Rattle.ec_coherence.proofs.ForCommits.Needs.{each-of}
use Rattle.ec_coherence.proofs.ForBatches.OpenSlots.{at-open}
use Rattle.ec_lawful.specs.Doubts.{ComesFrom}
use Rattle.ec_lease_machine.specs.OfLeaseLaws.Timely.{EndsNot, HasSession}
use Rattle.ec_base.proofs.Numbers.{equal}

-- a step that is refused isn't taken
abbrev pub is-ok : Result Durable RecordFault → Bool
is-ok (Ok d) = true
is-ok (Err f) = false

pub refused : {A : Type 0} (x : Result Durable RecordFault) (d : Durable) → is-ok x ≡ false → x ≡ Ok d → A
refused x d n q = absurd (no (sym n ∙ ap is-ok q))
  where
    no : false ≡ true → ⊥
    no e = cc

-- no age that a start reached is greater than its clerk's
not-older : (a b : Age) → b.boot ≤ a.boot → (b.boot ≡ a.boot → b.round ≤ a.round) → is_older a b ≡ false
not-older a b p q = ap (λ x. x || ((a.boot == b.boot) && nat_lt a.round b.round)) (least a.boot b.boot p) ∙ go (a.boot == b.boot) refl
  where
    least : (n m : ℕ) → m ≤ n → nat_lt n m ≡ false
    least n m p = grind (arith, p)

    same : (n m : ℕ) → (n == m) ≡ true → m ≡ n
    same n m e = grind arith

    go : (z : Bool) → (a.boot == b.boot) ≡ z → (z && nat_lt a.round b.round) ≡ false
    go false e = refl
    go true e = least a.round b.round (q (same a.boot b.boot e))

module _ (g : System) (all : AllAgree g) (c b s : ℕ) (k : Clerk) (run : g.running c ≡ Some b) (there : g.clerks c b ≡ Some k) (still : Bool) (o : HasSession g.durable c s k.age still) where
  agree : sessions.SessionsAgree g
  agree = (all.0).sessions

  boot-is : k.age.boot ≡ b
  boot-is = (agree.starts c b k there).1

  greets-not : (age : Age) → Contains g.pool (c, Hello c age) → is_older k.age age ≡ false
  greets-not age p =
      let f = (each-of (λ z. sessions.Fits g z.0 z.1) g.pool (c, Hello c age) agree.messages p).2 in
      not-older k.age age (below age.boot (g.boots c) k.age.boot f.0 (boot-is ∙ (agree.running c b run).0))
      (λ q. f.1 k (ap (g.clerks c) (q ∙ boot-is) ∙ there))
    where
      below : (n m j : ℕ) → n ≤ m → j ≡ m → n ≤ j
      below n m j p q = omega (arith, p, q)

  -- another clerk's slot changes
  other : (d : Durable) → slot d c ≡ slot g.durable c → HasSession d c s k.age still
  other d q = record { slot_of = o.slot_of; in_slot = q ∙ o.in_slot; is_open = o.is_open; session = o.session; age_is = o.age_is }

  -- the clerk's own does, and stays open
  own : (d : Durable) (sl : Slot) → slot d c ≡ Some sl → sl.is_open ≡ o.slot_of.is_open → sl.session ≡ o.slot_of.session → sl.age ≡ o.slot_of.age → HasSession d c s k.age still
  own d sl q i j a = record { slot_of = sl; in_slot = q; is_open = i ∙ o.is_open; session = j ∙ o.session; age_is = a ∙ o.age_is }

  batch : (d t n : ℕ) (ops : List (ℕ × Update)) (e : Durable) → step (Batch d t n ops) g.durable ≡ Ok e → HasSession e c s k.age still
  batch d t n ops e q = by (c == d) refl
    where
      some : (x : Option Slot) → slot g.durable d ≡ x → (c == d) ≡ false → HasSession e c s k.age still
      some None z f = refused (step (Batch d t n ops) g.durable) e (ap (λ y. is-ok (elim (is_session t y) as (λ w. Result Durable RecordFault) [
        | false ↦ Err fault.NoSession
        | true ↦ elim (has_batch n (slot g.durable d)) as (λ w. Result Durable RecordFault) [
          | true ↦ Err (fault.Done n)
          | false ↦ elim (is_beyond n (slot g.durable d)) as (λ w. Result Durable RecordFault) [ true ↦ Err (fault.Beyond (low (slot g.durable d))) | false ↦ batch_step d n ops g.durable ]
        ]
      ])) z) q
      some (Some sl) z f = other e ((batch-rest d t n ops g.durable e sl z q).others c f)

      by : (z : Bool) → (c == d) ≡ z → HasSession e c s k.age still
      by false f = some (slot g.durable d) refl f
      by true f =
          let w = batch-own d t n ops g.durable e o.slot_of (ap (slot g.durable) (sym (equal c d f)) ∙ o.in_slot) q in
          own e _ (ap (slot e) (equal c d f) ∙ w.1) refl refl refl

  ids : (d t got first : ℕ) (e : Durable) → step (Ids d t got first) g.durable ≡ Ok e → HasSession e c s k.age still
  ids d t got first e q = by (c == d) refl
    where
      by : (z : Bool) → (c == d) ≡ z → HasSession e c s k.age still
      by false f = other e ((ids-rest d t got first g.durable e q).others c f)
      by true f = own e _ (ap (slot e) (equal c d f) ∙ ids-own d t got first g.durable e o.slot_of (ap (slot g.durable) (sym (equal c d f)) ∙ o.in_slot) q) refl refl refl

  opens : (d t : ℕ) (age : Age) (e : Durable) → Contains g.pool (d, Hello d age) → step (Open d age t) g.durable ≡ Ok e → HasSession e c s k.age still
  opens d t age e p q = by (c == d) refl
    where
      at-own : c ≡ d → is-ok (step (Open d age t) g.durable) ≡ false
      at-own z =
          let slot-is : slot g.durable d ≡ Some o.slot_of = ap (slot g.durable) (sym z) ∙ o.in_slot in
          let not : is_older o.slot_of.age age ≡ false = ap (λ a. is_older a age) o.age_is ∙ greets-not age (subst (λ i. Contains g.pool (i, Hello i age)) (sym z) p) in
          ap (λ y. is-ok (elim y as (λ w. Result Durable RecordFault) [
            | false ↦ Err fault.BadAge
            | true ↦ elim (is_next_session t g.durable) as (λ w. Result Durable RecordFault) [
              | false ↦ Err fault.BadNumber
              | true ↦ Ok (with_slot d (Some (slots.new_slot age t)) (record (g.durable) { next_session = t + 1 }))
            ]
          ])) (ap (λ x. slots.is_greater x age) slot-is ∙ not)

      by : (z : Bool) → (c == d) ≡ z → HasSession e c s k.age still
      by false f = other e ((open-rest d t age g.durable e q).others c f)
      by true f = refused (step (Open d age t) g.durable) e (at-own (equal c d f)) q

  -- a session of another clerk ends
  ends : (d t : ℕ) (e : Durable) → (c == d) ≡ false → step (End d t) g.durable ≡ Ok e → HasSession e c s k.age still
  ends d t e f q = by (is_session t (slot g.durable d)) q
    where
      away : c ≢ d
      away p = absurd (no (sym (ap (λ z. c == z) (sym p) ∙ same c) ∙ f))
        where
          same : (n : ℕ) → (n == n) ≡ true
          same n = grind arith

          no : true ≡ false → ⊥
          no e = cc

      by : (z : Bool) → elim z as (λ w. Result Durable RecordFault) [ false ↦ Err fault.NoSession | true ↦ Ok (with_slot d (slots.ended (slot g.durable d)) g.durable) ] ≡ Ok e → HasSession e c s k.age still
      by false h = refused (Err fault.NoSession) e refl h
      by true h = other e (ap (λ x. slot x c) (sym (state h)) ∙ get_or-set_other g.durable.sessions d c (slots.ended (slot g.durable d)) None away)
        where
          state : {x y : Durable} → ◌≡◌ {A = Result Durable RecordFault} (Ok x) (Ok y) → x ≡ y
          state {x} {y} q = ap (λ r. elim r as (λ w. Durable) [ Ok v ↦ v | Err i ↦ x ]) q

  -- the clerk's own session ends where it's open, and one that ended doesn't end again
  ended : (d t : ℕ) (e : Durable) → (still ≡ true → (c == d) ≡ false) → step (End d t) g.durable ≡ Ok e → HasSession e c s k.age still
  ended d t e f q = by (c == d) refl
    where
      closed : (z : Bool) → still ≡ z → (c == d) ≡ true → HasSession e c s k.age still
      closed true p h = absurd (apart (sym h ∙ f p))
        where
          apart : true ≡ false → ⊥
          apart e = cc
      closed false p h = refused (step (End d t) g.durable) e (ap (λ y. is-ok (elim (is_session t y) as (λ w. Result Durable RecordFault) [
        | false ↦ Err fault.NoSession
        | true ↦ Ok (with_slot d (slots.ended (slot g.durable d)) g.durable)
      ])) (ap (slot g.durable) (sym (equal c d h)) ∙ o.in_slot) ∙ ap (λ z. is-ok (elim (z && (o.slot_of.session == t)) as (λ w. Result Durable RecordFault) [
        | false ↦ Err fault.NoSession
        | true ↦ Ok (with_slot d (slots.ended (slot g.durable d)) g.durable)
      ])) (o.is_open ∙ p)) q

      by : (z : Bool) → (c == d) ≡ z → HasSession e c s k.age still
      by false h = ends d t e h q
      by true h = closed still refl h

  pub stays : (r : Record) (d : Durable) → ComesFrom g r → (still ≡ true → EndsNot c r) → step r g.durable ≡ Ok d → HasSession d c s k.age still
  stays (Batch d t n ops) e p f q = batch d t n ops e q
  stays (Open d age t) e p f q = opens d t age e p q
  stays (End d t) e p f q = ended d t e f q
  stays (Ids d t got first) e p f q = ids d t got first e q
  stays (Epoch n) e p f q = absurd p

  pub told : still ≡ true → (watch c g.ghost.shown).untold ≡ None
  told now = (all.0).events.untold c b k run there uncut
    where
      its : g.ghost.owner s ≡ Some (c, k.age)
      its = subst (λ t. g.ghost.owner t ≡ Some (c, k.age)) o.session ((agree.slots c o.slot_of o.in_slot).2 ∙ ap (λ a. Some (c, a)) o.age_is)

      uncut : (t : ℕ) → g.ghost.owner t ≡ Some (c, k.age) → g.ghost.frozen t ≡ None
      uncut t p = subst (λ z. g.ghost.frozen z ≡ None) (agree.once s t (c, k.age) its p) ((all.0).images.unfrozen s (at-open s g.durable.sessions c o.slot_of (o.in_slot, o.session, subst T (sym (o.is_open ∙ now)) tt)))
