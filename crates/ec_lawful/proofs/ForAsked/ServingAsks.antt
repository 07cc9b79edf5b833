-- Ends of sessions behind a server's step, for each fate of the disk, and behind a restart.
use Rattle.std.proofs.Common.{◌≡◌, refl, sym, ap, subst, ◌∙◌, arith, ◌≤◌, ◌+◌, ◌-◌, ℕ, Bool, true, false, [], ◌∷◌, ◌++◌, Option, Some, None}
use Rattle.std.specs.Prelude.{nat_le, Result, Ok, Err}
use Rattle.ec_base.specs.Limits.{last_counter}
use Rattle.ec_base.specs.declared.counter.Counter.{Counter}
use Rattle.ec_base.specs.declared.counter.Counter.TheVariants as counter
use Rattle.ec_history.specs.declared.shown.Shown.TheVariants as show
use Rattle.ec_sessions.specs.Slots.{Slots}
use Rattle.ec_sessions.specs.declared.slot.Slot.{Slot}
use Rattle.ec_durable.specs.Durable.{step}
use Rattle.ec_durable.specs.declared.record.Record.{Record}
use Rattle.ec_durable.specs.declared.record.Record.TheVariants as record_of
use Rattle.ec_durable.specs.declared.record.RecordFault.{RecordFault}
use Rattle.ec_durable.specs.declared.state.Durable.{Durable}
use Rattle.ec_protocol.specs.Server.{Serving, commit, epoch, new_server, serving, spend, start, stay, tell, tell_all, tell_ended, tell_start}
use Rattle.ec_wire.specs.declared.msg.Msg.TheVariants.{Restarted}
use Rattle.ec_protocol.specs.World as world
use Rattle.ec_protocol.specs.World.{Fate, runs, stops_with, stops_without, Moving, moving, noted, stepped}
use Rattle.ec_protocol.specs.declared.world.World.{World}
use Rattle.ec_protocol.specs.declared.world.WorldFault.TheVariants as fault
use Rattle.ec_lawful.proofs.ForWhole.Pool.{Sends, sends-all}
use Rattle.ec_lawful.proofs.OfClerkSteps.ForJoins.Steps.{epoch-own}
use Rattle.ec_lawful.specs.Asked.{EndsAsked, ended_by, passed, seat, spare, to_end, top}
use Rattle.ec_lawful.proofs.ForAsked.Pays.{MayOpen, Pays, asks_for, pays}
use Rattle.ec_lawful.proofs.ForAsked.Reading.{Alike, Notes, alike-asks, ended-line, notes, same-tops}
use Rattle.ec_base.proofs.Options.{none_some}

pub weaken : (first asked more : ℕ → ℕ) (w : World) → ((c : ℕ) → asked c ≤ more c) → EndsAsked first asked w → EndsAsked first more w
weaken first asked more w l a = record { within = λ c. further (ended_by c w.shown + to_end c w.unshown + spare (first c) c w) (asked c) (more c) (a.within c) (l c) }
  where
    further : (a b d : ℕ) → a ≤ b → b ≤ d → a ≤ d
    further a b d p q = omega (arith, p, q)

-- a line that ends nothing
pub line-alike : (w v : World) → v.unshown ≡ w.unshown → v.clerks ≡ w.clerks → v.boots ≡ w.boots → v.durable ≡ w.durable → ((c : ℕ) → ended_by c v.shown ≡ ended_by c w.shown + 0) → Alike w v
line-alike w v q r s d e = record { ended = λ c. e c ∙ none (ended_by c w.shown); unshown = q; tops = same-tops w v r s; seats = λ c. ap (seat c) d }
  where
    none : (n : ℕ) → n + 0 ≡ n
    none n = omega arith

-- the end that is shown, or to be shown, is paid
shown-paid : (n x u now was ask a k e : ℕ) → e ≡ n + x → n + u + was ≤ a → x + now ≤ was + ask → ask ≤ k → e + u + now ≤ a + k
shown-paid n x u now was ask a k e p q r l = omega (arith, p, q, r, l)

kept-paid : (n x u now was ask a k e : ℕ) → e ≡ n + 0 → n + u + was ≤ a → x + now ≤ was + ask → ask ≤ k → e + x + now ≤ a + k
kept-paid n x u now was ask a k e p q r l = omega (arith, p, q, r, l)

module _ (first asked k : ℕ → ℕ) (w : World) (a : EndsAsked first asked w) (t : Serving) where
  abbrev more : ℕ → ℕ
  more c = asked c + k c

  some-more : (c : ℕ) → asked c ≤ more c
  some-more c = less (asked c) (k c)
    where
      less : (a b : ℕ) → a ≤ a + b
      less a b = omega arith

  gone : (x : World) → Sends (record x { server = Some t.server; durable = t.server.durable }) (world.go_on t x) t.sent
  gone x = sends-all t.sent (record x { server = Some t.server; durable = t.server.durable })

  -- without a record
  pub quiet-serves : ((c : ℕ) → seat c t.server.durable ≡ seat c w.durable) → EndsAsked first more (world.go_on t w)
  quiet-serves q =
      let s = gone w in
      weaken first asked more (world.go_on t w) some-more
      (alike-asks first asked w (world.go_on t w) (record { ended = λ c. ap (ended_by c) s.shown; unshown = s.unshown; tops = same-tops w (world.go_on t w) s.clerks s.boots; seats = λ c. ap (seat c) s.durable ∙ q c }) a)

  -- with one
  module _ (r : Record) (steps : step r w.durable ≡ Ok t.server.durable) (may : MayOpen first (λ c. top c w) w.durable r) (asks : (c : ℕ) → asks_for r c ≤ k c) where
    paid : (c : ℕ) → Pays (first c) (top c w) c w.durable t.server.durable r
    paid c = pays first (λ e. top e w) w.durable t.server.durable c r steps may

    shown : EndsAsked first more (world.committed runs r t w).world
    shown = record { within = λ c. its c }
      where
        m : Moving
        m = moving (record w { records = w.records ++ r ∷ [] })

        n : Moving
        n = world.show_noted (noted w.durable r) m

        o : Notes m n (noted w.durable r)
        o = notes (noted w.durable r) m

        v : World
        v = world.go_on t n.world

        s : Sends (record (n.world) { server = Some t.server; durable = t.server.durable }) v t.sent
        s = gone n.world

        here : (c : ℕ) → spare (first c) c v ≡ top c w - passed (first c) (seat c t.server.durable)
        here c = ap (λ x. x - passed (first c) (seat c v.durable)) (same-tops w v (s.clerks ∙ o.clerks) (s.boots ∙ o.boots) c) ∙ ap (λ d. top c w - passed (first c) (seat c d)) s.durable

        its : (c : ℕ) → ended_by c v.shown + to_end c v.unshown + spare (first c) c v ≤ more c
        its c = subst (λ x. ended_by c v.shown + x + spare (first c) c v ≤ more c) (sym (ap (to_end c) (s.unshown ∙ o.unshown)))
            (subst (λ x. ended_by c v.shown + to_end c w.unshown + x ≤ more c) (sym (here c))
            (shown-paid (ended_by c w.shown) (to_end c (noted w.durable r)) (to_end c w.unshown) (top c w - passed (first c) (seat c t.server.durable)) (spare (first c) c w) (asks_for r c) (asked c) (k c) (ended_by c v.shown)
            (ap (ended_by c) s.shown ∙ o.ended c) (a.within c) (paid c) (asks c)))

    in-doubt : EndsAsked first more (world.committed stops_with r t w).world
    in-doubt = record { within = λ c. its c }
      where
        v : World
        v = (world.committed stops_with r t w).world

        now : stepped r w.durable ≡ t.server.durable
        now = ap (λ x. elim x as (λ z. Durable) [ Ok e ↦ e | Err f ↦ w.durable ]) steps

        its : (c : ℕ) → ended_by c v.shown + to_end c (noted w.durable r) + (top c w - passed (first c) (seat c (stepped r w.durable))) ≤ more c
        its c = subst (λ d. ended_by c v.shown + to_end c (noted w.durable r) + (top c w - passed (first c) (seat c d)) ≤ more c) (sym now)
            (kept-paid (ended_by c w.shown) (to_end c (noted w.durable r)) (to_end c w.unshown) (top c w - passed (first c) (seat c t.server.durable)) (spare (first c) c w) (asks_for r c) (asked c) (k c) (ended_by c v.shown)
            (ended-line c w.shown show.Stopped) (a.within c) (paid c) (asks c))

    pub committed-asks : (fate : Fate) → EndsAsked first more (world.committed fate r t w).world
    committed-asks runs = shown
    committed-asks stops_with = in-doubt
    committed-asks stops_without = weaken first asked more (world.committed stops_without r t w).world some-more
        (alike-asks first asked w (world.committed stops_without r t w).world (line-alike w (world.committed stops_without r t w).world refl refl refl refl (λ c. ended-line c w.shown show.Stopped)) a)

-- A restart.

pub tells-one : (c : ℕ) (t : Serving) (o : Option Slot) → (tell_start c t o).server ≡ t.server
tells-one c t None = refl
tells-one c t (Some sl) = go sl.is_open
  where
    go : (z : Bool) → (elim z as (λ y. Serving) [ true ↦ tell c (Restarted sl.session (epoch t)) t | false ↦ tell_ended c sl t ]).server ≡ t.server
    go true = refl
    go false = refl

pub tells-all : (c : ℕ) (slots : Slots) (t : Serving) → (tell_all c slots t).server ≡ t.server
tells-all c [] t = refl
tells-all c (o ∷ slots) t = tells-all (c + 1) slots (tell_start c t o) ∙ tells-one c t o

start-seat : (c : ℕ) (d : Durable) → seat c (start d).server.durable ≡ seat c d
start-seat c d = go (nat_le last_counter d.epoch)
  where
    told : (x : Result Durable RecordFault) → step (record_of.Epoch (d.epoch + 1)) d ≡ x → seat c (elim x as (λ z. Serving) [
      | Ok e ↦ (let u : Serving = record (serving (new_server d)) { server = record (new_server d) { durable = e }; rec = Some (record_of.Epoch (d.epoch + 1)) } in tell_all 0 u.server.durable.sessions u)
      | Err f ↦ stay (serving (new_server d))
    ]).server.durable ≡ seat c d
    told (Ok e) q = ap (λ v. seat c v.durable) (tells-all 0 e.sessions (record (serving (new_server d)) { server = record (new_server d) { durable = e }; rec = Some (record_of.Epoch (d.epoch + 1)) })) ∙ ap (seat c) (epoch-own (d.epoch + 1) d e q)
    told (Err f) q = refl

    go : (z : Bool) → seat c (elim z as (λ y. Serving) [
      | true ↦ spend counter.Epoch (serving (new_server d))
      | false ↦ commit (record_of.Epoch (d.epoch + 1)) (λ u. tell_all 0 u.server.durable.sessions u) stay (serving (new_server d))
    ]).server.durable ≡ seat c d
    go true = refl
    go false = told (step (record_of.Epoch (d.epoch + 1)) d) refl

epoch-seat : (c n : ℕ) (d : Durable) → seat c (stepped (record_of.Epoch n) d) ≡ seat c d
epoch-seat c n d = go (step (record_of.Epoch n) d) refl
  where
    go : (x : Result Durable RecordFault) → step (record_of.Epoch n) d ≡ x → seat c (elim x as (λ z. Durable) [ Ok e ↦ e | Err f ↦ d ]) ≡ seat c d
    go (Ok e) q = ap (seat c) (epoch-own n d e q)
    go (Err f) q = refl

module _ (first asked : ℕ → ℕ) (w : World) (a : EndsAsked first asked w) where
  -- what was in doubt is shown
  comes-up : (t : Serving) → ((c : ℕ) → seat c t.server.durable ≡ seat c w.durable) → EndsAsked first asked (world.restarted runs t w).world
  comes-up t q = record { within = λ c. its c }
    where
      n : Moving
      n = world.show_noted w.unshown (moving w)

      o : Notes (moving w) n w.unshown
      o = notes w.unshown (moving w)

      m : Moving
      m = world.show_line show.Started n

      x : World
      x = record (m.world) { unshown = None; records = m.world.records ++ record_of.Epoch t.server.durable.epoch ∷ [] }

      v : World
      v = world.go_on t x

      s : Sends (record x { server = Some t.server; durable = t.server.durable }) v t.sent
      s = sends-all t.sent (record x { server = Some t.server; durable = t.server.durable })

      same-sum : (e n u s t a y : ℕ) → e ≡ y + 0 → y ≡ n + u → s ≡ t → n + u + t ≤ a → e + 0 + s ≤ a
      same-sum e n u s t a y p q r l = omega (arith, p, q, r, l)

      its : (c : ℕ) → ended_by c v.shown + to_end c v.unshown + spare (first c) c v ≤ asked c
      its c = subst (λ z. ended_by c v.shown + z + spare (first c) c v ≤ asked c) (sym (ap (to_end c) s.unshown))
          (same-sum (ended_by c v.shown) (ended_by c w.shown) (to_end c w.unshown) (spare (first c) c v) (spare (first c) c w) (asked c) (ended_by c n.world.shown)
          (ap (ended_by c) s.shown ∙ ended-line c n.world.shown show.Started) (o.ended c)
          (ap (λ z. z - passed (first c) (seat c v.durable)) (same-tops w v (s.clerks ∙ o.clerks) (s.boots ∙ o.boots) c) ∙ ap (λ z. top c w - passed (first c) z) (ap (seat c) s.durable ∙ q c)) (a.within c))

  pub restart-asks : (fate : Fate) → (world.restart fate w).fault ≡ None → EndsAsked first asked (world.restart fate w).world
  restart-asks fate f = go (start w.durable).spent f
    where
      by : (φ : Fate) → EndsAsked first asked (world.restarted φ (start w.durable) w).world
      by runs = comes-up (start w.durable) (λ c. start-seat c w.durable)
      by stops_without = alike-asks first asked w (world.restarted stops_without (start w.durable) w).world (line-alike w (world.restarted stops_without (start w.durable) w).world refl refl refl refl (λ c. ended-line c w.shown show.Stopped)) a
      by stops_with =
          let v = (world.restarted stops_with (start w.durable) w).world in
          alike-asks first asked w v (record { ended = λ c. ended-line c w.shown show.Stopped ∙ none (ended_by c w.shown); unshown = refl; tops = same-tops w v refl refl; seats = λ c. epoch-seat c (start w.durable).server.durable.epoch w.durable }) a
        where
          none : (n : ℕ) → n + 0 ≡ n
          none n = omega arith

      go : (o : Option Counter) → (elim o as (λ z. Moving) [ Some n ↦ world.fails (fault.Spent n) w | None ↦ world.restarted fate (start w.durable) w ]).fault ≡ None
          → EndsAsked first asked (elim o as (λ z. Moving) [ Some n ↦ world.fails (fault.Spent n) w | None ↦ world.restarted fate (start w.durable) w ]).world
      go (Some n) f = absurd (none_some (sym f))
      go None f = by fate
