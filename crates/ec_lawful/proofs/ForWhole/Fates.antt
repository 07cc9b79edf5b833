-- The world behind stops in steps and restarts.
use Rattle.std.proofs.Common.{◌≡◌, refl, sym, ap, subst, ◌∙◌, inl, inr, ◌⊎◌, arith, ℕ, Bool, true, false, T, ◌==◌, ◌&&◌, ◌||◌, ◌+◌, ◌≤◌, cond, List, [], ◌∷◌, ◌++◌, Option, Some, None, append-nil}
use Rattle.std.proofs.lemmas.List.Elements.{Contains-append_left, Contains-append_right}
use Rattle.std.specs.Prelude.{Contains, is_some, Result, Ok, Err}
use Rattle.std.specs.Ordering.{eq_by_cmp, nat_cmp}
use Rattle.ec_base.specs.Tables.{Table, at}
use Rattle.ec_history.specs.Placing.{watch}
use Rattle.ec_history.specs.declared.shown.Shown.{Shown}
use Rattle.ec_history.specs.declared.shown.Shown.TheVariants as show
use Rattle.ec_sessions.specs.declared.slot.Slot.{Slot}
use Rattle.ec_wire.specs.Messages.{kind}
use Rattle.ec_wire.specs.declared.msg.Msg.{Msg}
use Rattle.ec_durable.specs.Durable.{slot}
use Rattle.ec_durable.specs.declared.state.Durable.{Durable}
use Rattle.ec_durable.specs.declared.record.Record.{Record}
use Rattle.ec_durable.specs.declared.record.Record.TheVariants as record_of
use Rattle.ec_durable.specs.declared.record.RecordFault.{RecordFault}
use Rattle.ec_durable.specs.declared.record.RecordFault.TheVariants.{BadNumber}
use Rattle.ec_protocol.specs.Server.{Serving, start}
use Rattle.ec_protocol.specs.World.{Moving, boot, come_up, committed, count_of, ended_in, fails, is_running, moving, noted, one_more, restart, restarted, runs, send, send_all, show_ended, show_line, show_noted, stepped, stops_with, stops_without, with_world}
use Rattle.ec_protocol.specs.World as world
use Rattle.ec_protocol.specs.declared.clerk.Clerk.{Clerk}
use Rattle.ec_protocol.specs.declared.server.Server.{Server}
use Rattle.ec_protocol.specs.declared.world.Noted.{Noted}
use Rattle.ec_protocol.specs.declared.world.Noted.TheVariants as noted_of
use Rattle.ec_protocol.specs.declared.world.Sent.{Sent}
use Rattle.ec_protocol.specs.declared.world.World.{World}
use Rattle.ec_protocol.specs.declared.world.WorldFault.TheVariants as fault
use Rattle.ec_coherence.specs.System.{System}
use Rattle.ec_coherence.specs.Steps as steps
use Rattle.ec_coherence.specs.Steps.{Stands, end_lines, ended_line, found, record_lines, running_clerk, to_show}
use Rattle.ec_coherence.proofs.ForServer.Tables.{same_some}
use Rattle.ec_coherence.specs.CommitLaws.{AllAgree}
use Rattle.ec_coherence.specs.StandLaws.{lined, stopped}
use Rattle.ec_lawful.specs.Doubts.{doubted}
use Rattle.ec_lawful.specs.Founds.{found_state, shown_in, started_in, with_found}
use Rattle.ec_lawful.proofs.ForWhole.Founds.{found-shown}
use Rattle.ec_lawful.proofs.ForWhole.Restarts.{epoch-rises}
use Rattle.ec_base.proofs.Options.{none_some}

-- Messages that are sent.

at-last : (n k : ℕ) (s x : Sent) (xs : Table Sent) → at n (xs ++ (k, s) ∷ []) ≡ Some x → (at n xs ≡ Some x) ⊎ (s ≡ x)
at-last n k s x [] p = go (eq_by_cmp nat_cmp n k) p
  where
    go : (b : Bool) → cond b (Some s) None ≡ Some x → (None ≡ Some x) ⊎ (s ≡ x)
    go true q = inr (same_some q)
    go false q = absurd (none_some q)
at-last n k s x (e ∷ xs) p = go (eq_by_cmp nat_cmp n e.0) p (at-last n k s x xs)
  where
    go : (b : Bool) → cond b (Some e.1) (at n (xs ++ (k, s) ∷ [])) ≡ Some x → (at n (xs ++ (k, s) ∷ []) ≡ Some x → (at n xs ≡ Some x) ⊎ (s ≡ x)) → (cond b (Some e.1) (at n xs) ≡ Some x) ⊎ (s ≡ x)
    go true q h = inl q
    go false q h = h q

module _ (g : System) where
  sent-stands : (c : ℕ) (m : Msg) (w : World) → Contains g.pool (c, m) → Stands w g → Stands (send c m w) g
  sent-stands c m w k st = record {
    server = st.server;
    durable = st.durable;
    epoch = st.epoch;
    up = st.up;
    unshown = st.unshown;
    clerks = st.clerks;
    boots = st.boots;
    calls = st.calls;
    pool = λ n d i x p. elim (at-last n (w.sent + 1) (record { clerk = c; nth = count_of c (kind m) w.counts + 1; msg = m }) (record { clerk = d; nth = i; msg = x }) w.pool p) [
      | inl q ↦ st.pool n d i x q
      | inr e ↦ subst (λ z. Contains g.pool z) (ap (λ z. (z.clerk, z.msg)) e) k
    ];
    shown = st.shown;
  }

  all-sent-stand : (ms : List (ℕ × Msg)) (w : World) → ((m : ℕ × Msg) → Contains ms m → Contains g.pool m) → Stands w g → Stands (send_all ms w) g
  all-sent-stand [] w k st = st
  all-sent-stand (m ∷ ms) w k st = all-sent-stand ms (send m.0 m.1 w) (λ x c. k x (Contains-append_right (m ∷ []) ms x c)) (sent-stands m.0 m.1 w (k m (Contains-append_left (m ∷ []) ms m (0, omega arith, refl))) st)

-- A stop in a step.

module _ (w : World) (g : System) (st : Stands w g) where
  module _ (v : Server) (up : w.server ≡ Some v) (r : Record) (t : Serving) where
    runs-now : T (is_some g.server)
    runs-now = subst (λ o. T (is_some o)) (sym up ∙ st.server) tt

    same-state : w.durable ≡ g.durable
    same-state = st.up runs-now

    pub without : Stands (committed stops_without r t w).world (stopped g)
    without = record {
      server = refl;
      durable = st.durable;
      epoch = st.epoch;
      up = λ z. absurd z;
      unshown = st.unshown;
      clerks = st.clerks;
      boots = st.boots;
      calls = st.calls;
      pool = st.pool;
      shown = ap (λ ss. ss ++ show.Stopped ∷ []) st.shown;
    }

    pub with-it : Stands (committed stops_with r t w).world (doubted g r)
    with-it = record {
      server = refl;
      durable = subst (λ d. stepped r d ≡ record (stepped r g.durable) { epoch = (stepped r d).epoch }) (sym same-state) refl;
      epoch = subst (λ d. g.durable.epoch ≤ (stepped r d).epoch) (sym same-state) (epoch-rises r g.durable);
      up = λ z. absurd z;
      unshown = ap (λ d. noted d r) same-state;
      clerks = st.clerks;
      boots = st.boots;
      calls = st.calls;
      pool = st.pool;
      shown = ap (λ ss. ss ++ show.Stopped ∷ []) st.shown;
    }

  -- A restart.
  module _ (down : w.server ≡ None) (spare : (start w.durable).spent ≡ None) where
    abbrev t : Serving
    t = start w.durable

    restart-is : (fate : world.Fate) → restart fate w ≡ restarted fate t w
    restart-is fate = ap (λ o. elim o as (λ z. Moving) [ Some n ↦ fails (fault.Spent n) w | None ↦ restarted fate t w ]) spare

    abbrev line_after : World → World
    line_after x = record x { shown = x.shown ++ show.Stopped ∷ [] }

    abbrev epoch_record : Record
    epoch_record = record_of.Epoch t.server.durable.epoch

    only-epoch : (n : ℕ) (d : Durable) → stepped (record_of.Epoch n) d ≡ record d { epoch = (stepped (record_of.Epoch n) d).epoch }
    only-epoch n d = go (n == d.epoch + 1)
      where
        go : (b : Bool) → (elim (elim b as (λ z. Result Durable RecordFault) [ false ↦ Err BadNumber | true ↦ Ok (record d { epoch = n }) ]) as (λ z. Durable) [ Ok e ↦ e | Err f ↦ d ])
            ≡ record d { epoch = (elim (elim b as (λ z. Result Durable RecordFault) [ false ↦ Err BadNumber | true ↦ Ok (record d { epoch = n }) ]) as (λ z. Durable) [ Ok e ↦ e | Err f ↦ d ]).epoch }
        go true = refl
        go false = refl

    stays-down : {A : Type 0} → T (is_some g.server) → A
    stays-down z = absurd (subst (λ o. T (is_some o)) (sym st.server ∙ down) z)

    pub stopped-without : Stands (restart stops_without w).world (lined g show.Stopped)
    stopped-without = subst (λ m. Stands m.world (lined g show.Stopped)) (sym (restart-is stops_without)) (record {
      server = st.server;
      durable = st.durable;
      epoch = st.epoch;
      up = st.up;
      unshown = st.unshown;
      clerks = st.clerks;
      boots = st.boots;
      calls = st.calls;
      pool = st.pool;
      shown = ap (λ ss. ss ++ show.Stopped ∷ []) st.shown;
    })

    pub stopped-with : Stands (restart stops_with w).world (lined g show.Stopped)
    stopped-with = subst (λ m. Stands m.world (lined g show.Stopped)) (sym (restart-is stops_with)) (record {
      server = st.server;
      durable = only-epoch t.server.durable.epoch w.durable ∙ ap (λ (d : Durable). record d { epoch = (stepped epoch_record w.durable).epoch }) st.durable;
      epoch = (let a = st.epoch in let b = epoch-rises epoch_record w.durable in omega (arith, a, b));
      up = λ z. stays-down z;
      unshown = st.unshown;
      clerks = st.clerks;
      boots = st.boots;
      calls = st.calls;
      pool = st.pool;
      shown = ap (λ ss. ss ++ show.Stopped ∷ []) st.shown;
    })

    -- One that comes up.
    module _ (all : AllAgree g) where
      same-runs : (c b : ℕ) → is_running c b w ≡ steps.runs g c b
      same-runs c b = ap (λ o. is_some o && (b == boot c w)) (st.clerks c) ∙ ap (λ n. is_some (running_clerk g c) && (b == n)) (st.boots c) ∙ go (g.running c) refl
        where
          there : (o : Option Clerk) → T (is_some o) → is_some o ≡ true
          there None z = absurd z
          there (Some k) z = refl

          go : (o : Option ℕ) → g.running c ≡ o → (is_some (elim o as (λ z. Option Clerk) [ None ↦ None | Some a ↦ g.clerks c a ]) && (b == g.boots c)) ≡ (is_some o && (b == g.boots c))
          go None p = refl
          go (Some a) p = ap (λ z. z && (b == g.boots c)) (there (g.clerks c a) ((all.0).sessions.running c a p).1)

      line-is : (c b : ℕ) → show_ended c b w ≡ ended_line g c b
      line-is c b = ap (λ z. elim (is_some ((watch c w.shown).open_start) || z) as (λ y. Shown) [ true ↦ show.Ended c ((watch c w.shown).undurable) | false ↦ show.Unseen c ]) (same-runs c b)
          ∙ ap (λ ss. elim (is_some ((watch c ss).open_start) || steps.runs g c b) as (λ y. Shown) [ true ↦ show.Ended c ((watch c ss).undurable) | false ↦ show.Unseen c ]) st.shown

      abbrev showing : List Shown → World
      showing ls = record w { shown = w.shown ++ ls }

      none-shown : w ≡ showing []
      none-shown = ap (λ ss. record w { shown = ss }) (sym (append-nil w.shown))

      end-noted : (c : ℕ) (o : Option Slot) → (show_noted (ended_in c o) (moving w)).world ≡ showing (end_lines g c o)
      end-noted c None = none-shown
      end-noted c (Some sl) = go sl.is_open
        where
          go : (b : Bool) → (show_noted (elim b as (λ z. Option Noted) [ true ↦ Some (noted_of.Ended c (sl.age).boot) | false ↦ None ]) (moving w)).world ≡ showing (elim b as (λ z. List Shown) [ true ↦ ended_line g c (sl.age).boot ∷ [] | false ↦ [] ])
          go true = ap (λ l. showing (l ∷ [])) (line-is c (sl.age).boot)
          go false = none-shown

      noted-is : (r : Record) → (show_noted (noted g.durable r) (moving w)).world ≡ showing (record_lines g (Some r))
      noted-is (record_of.Batch c s b ops) = refl
      noted-is (record_of.Open c age s) = end-noted c (slot g.durable c)
      noted-is (record_of.End c s) = end-noted c (slot g.durable c)
      noted-is (record_of.Ids c s got first) = none-shown
      noted-is (record_of.Epoch e) = none-shown

      any-noted : (o : Option Record) → (show_noted (to_show g.durable o) (moving w)).world ≡ showing (record_lines g o)
      any-noted None = none-shown
      any-noted (Some r) = noted-is r

      -- the server comes up behind what the world shows so far
      abbrev up_in : Serving → World → World
      up_in f x = come_up f (record x { shown = x.shown ++ show.Started ∷ [] })

      abbrev state : Durable
      state = found_state g w.durable.epoch

      pub state-is : w.durable ≡ state
      state-is = st.durable

      -- of what was found the system has the nodes, and shows its line
      module _ (h : System) (clerks : h.clerks ≡ g.clerks) (running : h.running ≡ g.running) (boots : h.boots ≡ g.boots) (calls : h.calls ≡ g.calls) (pool : h.pool ≡ g.pool) (sure : h.unshown ≡ None)
          (ls : List Shown) (lines : h.ghost.shown ≡ g.ghost.shown ++ ls) (f : Serving) where
        abbrev done : System
        done = started_in h f

        abbrev base : World
        base = record w {
          shown = (w.shown ++ ls) ++ show.Started ∷ [];
          unshown = None;
          records = w.records ++ record_of.Epoch f.server.durable.epoch ∷ [];
          server = Some f.server;
          durable = f.server.durable;
        }

        base-stands : Stands base done
        base-stands = record {
          server = refl;
          durable = subst (λ u. f.server.durable ≡ record (found u f.server.durable) { epoch = f.server.durable.epoch }) (sym sure) refl;
          epoch = omega arith;
          up = λ z. refl;
          unshown = subst (λ u. None ≡ to_show f.server.durable u) (sym sure) refl;
          clerks = λ c. st.clerks c ∙ ap (λ (k : ℕ → ℕ → Option Clerk). elim (g.running c) as (λ z. Option Clerk) [ None ↦ None | Some b ↦ k c b ]) (sym clerks) ∙ ap (λ (k : ℕ → Option ℕ). elim (k c) as (λ z. Option Clerk) [ None ↦ None | Some b ↦ h.clerks c b ]) (sym running);
          boots = λ c. st.boots c ∙ ap (λ (k : ℕ → ℕ). k c) (sym boots);
          calls = st.calls ∙ sym calls;
          pool = λ n c i m p. Contains-append_left h.pool f.sent (c, m) (subst (λ ms. Contains ms (c, m)) (sym pool) (st.pool n c i m p));
          shown = ap (λ ss. (ss ++ ls) ++ show.Started ∷ []) st.shown ∙ ap (λ ss. ss ++ show.Started ∷ []) (sym lines);
        }

        comes-up : Stands (up_in f (showing ls)) done
        comes-up = all-sent-stand done f.sent base (λ m c. Contains-append_right h.pool f.sent m c) base-stands

      by-record : (o : Option Record) → g.unshown ≡ o → Stands (up_in (start state) (showing (record_lines g o))) (started_in (shown_in g o) (start state))
      by-record None p = comes-up g refl refl refl refl refl p [] (sym (append-nil g.ghost.shown)) (start state)
      by-record (Some r) p = comes-up (with_found g r) refl refl refl refl refl refl (record_lines g (Some r)) (found-shown g r) (start state)

      pub up-stands : Stands (restart runs w).world (started_in (shown_in g g.unshown) (start state))
      up-stands = subst (λ m. Stands m.world (started_in (shown_in g g.unshown) (start state))) (sym (restart-is runs))
          (subst (λ x. Stands (up_in t x) (started_in (shown_in g g.unshown) (start state))) (sym (ap (λ o. (show_noted o (moving w)).world) st.unshown ∙ any-noted g.unshown))
          (subst (λ f. Stands (up_in f (showing (record_lines g g.unshown))) (started_in (shown_in g g.unshown) (start state))) (sym (ap start state-is)) (by-record g.unshown refl)))
