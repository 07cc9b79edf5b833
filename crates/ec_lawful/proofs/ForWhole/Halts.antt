-- All facts behind stops, crashes and lines, and behind a restart.
use Rattle.std.proofs.Common.{◌≡◌, refl, sym, ap, subst, ◌∙◌, inl, arith, ◌≤◌, ◌+◌, ℕ, T, Bool, true, false, [], ◌∷◌, ◌++◌, Option, Some, None}
use Rattle.std.specs.Prelude.{◌==◌, nat_le, Ok, Err, Result}
use Rattle.ec_base.specs.Limits.{last_counter}
use Rattle.ec_base.specs.declared.counter.Counter.TheVariants as counter
use Rattle.ec_sessions.specs.Slots.{Slots}
use Rattle.ec_sessions.specs.declared.slot.Slot.{Slot}
use Rattle.ec_wire.specs.declared.msg.Msg.TheVariants.{Restarted}
use Rattle.ec_durable.specs.declared.state.Durable.{Durable}
use Rattle.ec_durable.specs.declared.record.Record.TheVariants as record_of
use Rattle.ec_durable.specs.declared.record.Record.TheVariants.{Batch, Open, End, Ids, Epoch}
use Rattle.ec_durable.specs.declared.record.RecordFault.{RecordFault}
use Rattle.ec_durable.specs.declared.record.RecordFault.TheVariants.{BadNumber}
use Rattle.ec_lawful.specs.OfClerkSteps.Names.{NamesAgree}
use Rattle.ec_lawful.specs.Founds.{Makes, bare, found_ghost, started_in, with_found}
use Rattle.ec_lawful.proofs.ForWhole.Founds.{found-shown, founds-make, steps-so}
use Rattle.ec_lawful.proofs.ForWhole.Ups.{bare-all}
use Rattle.ec_lawful.specs.OfClerkSteps.Frames.{RecordMakes}
use Rattle.ec_lawful.proofs.OfClerkSteps.ForJoins.Records.{records-counts, records-cuts}
use Rattle.ec_lawful.proofs.OfClerkSteps.ForJoins.Steps.{step-most}
use Rattle.ec_lawful.proofs.OfClerkSteps.ForNames.Serving.{states-keep}
use Rattle.ec_lawful.specs.OfClerkSteps.Fulls.{AreFullAt, IsFullAt}
use Rattle.ec_lawful.proofs.OfClerkSteps.ForNames.Served.{start-right}
use Rattle.ec_coherence.proofs.ForServer.Lists.{each-more}
use Rattle.ec_lawful.proofs.ForWhole.Follows.{Moves, next-grows, record-moves}
use Rattle.ec_lawful.proofs.ForWhole.Server.{few-lines, quiet-lines, tells-on}
use Rattle.ec_lawful.proofs.ForWhole.Stores.{frees-behind, names-behind}
use Rattle.std.specs.List.{list_all}
use Rattle.ec_lawful.specs.OfClerkSteps.CallLaws.{is_quiet}
use Rattle.ec_base.specs.Tables.{at_or}
use Rattle.ec_history.specs.Placing.{watch, watch_next}
use Rattle.ec_history.specs.declared.watch.Watch.{Watch}
use Rattle.ec_history.specs.declared.shown.Shown.{Shown}
use Rattle.ec_history.specs.declared.shown.Shown.TheVariants as show
use Rattle.ec_history.proofs.OfLaws.ForPlacing.More.{watch-step}
use Rattle.ec_durable.specs.Durable.{slot, step}
use Rattle.ec_durable.specs.declared.record.Record.{Record}
use Rattle.ec_protocol.specs.Server.{Serving, commit, epoch, new_server, serving, spend, start, stay, tell, tell_all, tell_ended, tell_start}
use Rattle.ec_protocol.specs.World.{stepped}
use Rattle.ec_protocol.specs.declared.server.Server.{Server}
use Rattle.ec_coherence.specs.System.{System, Ghost}
use Rattle.ec_coherence.specs.Steps.{record_lines}
use Rattle.ec_coherence.specs.CommitLaws.{AllAgree}
use Rattle.ec_coherence.specs.StandLaws.{crashed, lined, stopped}
use Rattle.ec_coherence.proofs.Crashes.{crashes-stand}
use Rattle.ec_coherence.proofs.Halts.{halts-stand}
use Rattle.ec_coherence.proofs.Lines.{lines-stand, nothing-stands, started-stands, stopped-line-stands}
use Rattle.ec_lawful.proofs.OfClerkSteps.ForCalls.CallFrames.{calls-kept, record-quiet, rest-kept}
use Rattle.ec_lawful.proofs.OfClerkSteps.ForCalls.Told.{crashed-calls, crashed-rest}
use Rattle.ec_lawful.proofs.OfClerkSteps.ForJoins.CutFrames.{crash-counts, crash-cuts, lines-keep-counts, same-cuts}
use Rattle.ec_lawful.proofs.OfClerkSteps.ForNames.NameFrames.{names-read}
use Rattle.ec_lawful.proofs.OfClerkSteps.ForNames.ZerosBehind.{records-keep, same-keeps}
use Rattle.ec_lawful.specs.Doubts.{ComesFrom, ComesFromAny, DoubtAgrees, doubted}
use Rattle.ec_lawful.specs.HeadlineLaws.{GoesBy}
use Rattle.ec_lawful.proofs.ForWhole.LinesTell.{line-tells}
use Rattle.ec_lawful.specs.FreshIds.{IsQuiet}
use Rattle.ec_lawful.specs.Fresh.{FreshAgrees}
use Rattle.ec_lawful.proofs.ForWhole.FreshSteps.{record-fresh}
use Rattle.ec_lawful.specs.Whole.{Whole}

-- a line that says nothing of clerks
abbrev pub IsPlain : Shown → Type 0
IsPlain l = (d : ℕ) (w : Watch) → watch_next d w l ≡ w

module _ (g : System) (w : Whole g) where
  goes-line : (h : System) (l : Shown) → h.origin ≡ g.origin → h.durable ≡ g.durable → h.ghost.shown ≡ g.ghost.shown ++ l ∷ [] → h.ghost.fresh ≡ g.ghost.fresh → GoesBy g h (l ∷ [])
  goes-line h l origin durable shown fresh = record { origin = origin; most = ap (λ d. d.max_objects) durable; shown = shown; fresh = λ p le. ap (at_or 0 p) fresh }

  -- no ids are given, and a line is shown that is no answer
  fresh-line : (h : System) (l : Shown) → AllAgree h → IsQuiet l → h.origin ≡ g.origin → h.first_boot ≡ g.first_boot → g.durable.next_id ≤ h.durable.next_id → h.ghost.shown ≡ g.ghost.shown ++ l ∷ [] → h.ghost.fresh ≡ g.ghost.fresh → h.clerks ≡ g.clerks
      → h.ghost.grants ≡ g.ghost.grants → h.ghost.first ≡ g.ghost.first → FreshAgrees h
  fresh-line h l now quiet origin first_boot next shown fresh clerks grants first = record-fresh g h w.all now w.names (l ∷ []) (record { quiet = quiet; origin = origin; first_boot = first_boot; next = next; shown = shown; fresh = fresh }) clerks
      (λ s. inl (ap (λ f. f s) grants, ap (λ f. f s) first)) w.shows.fresh

  -- a line more
  lined-whole : (l : Shown) → IsQuiet l → IsPlain l → T (list_all is_quiet (l ∷ [])) → AllAgree (lined g l) → Whole (lined g l)
  lined-whole l none plain quiet now = record {
    all = now;
    calls = calls-kept g g.durable g.server g.unshown g.pool (lined g l).ghost (w.all.0).events (now.0).events (l ∷ []) refl quiet w.calls;
    rest = rest-kept g g.durable g.server g.unshown g.pool (lined g l).ghost (w.all.0).events (now.0).events (l ∷ []) refl quiet w.rest;
    orderly = record { each = w.orderly.each };
    names = names-read g (lined g l) w.names refl refl (omega arith) refl refl refl refl refl;
    zeros = same-keeps g (lined g l) record { origin = refl; kept = refl; frozen = refl; next_id = refl; grants = refl; first = refl } refl w.zeros;
    frees = record { unused = w.frees.unused; once = w.frees.once };
    cuts = same-cuts g (lined g l) record { slots = λ c. refl; running = refl; clerks = refl; owner = refl; frozen = refl; is_durable = refl; untold = λ c. ap (λ x. x.untold) (same c) } w.cuts;
    counts = lines-keep-counts g w.counts l (λ c q. ap (λ x. x.starts) (same c));
    fulls = w.fulls;
    doubts = w.doubts;
    shows = record { tells = line-tells g (lined g l) w.all now l (goes-line (lined g l) l refl refl refl refl) w.shows.tells; fresh = fresh-line (lined g l) l now none refl refl (omega arith) refl refl refl refl refl };
  }
    where
      same : (c : ℕ) → watch c (g.ghost.shown ++ l ∷ []) ≡ watch c g.ghost.shown
      same c = watch-step c g.ghost.shown l ∙ plain c (watch c g.ghost.shown)

  pub nothing-whole : Whole (lined g show.Nothing)
  nothing-whole = lined-whole show.Nothing tt (λ d x. refl) tt (nothing-stands g w.all)

  pub unsettled-whole : Whole (lined g show.Unsettled)
  unsettled-whole = lined-whole show.Unsettled tt (λ d x. refl) tt (lines-stand g w.all show.Unsettled (λ d. refl) (λ past rest. refl) (λ d x. refl) (λ past. tt))

  pub started-whole : Whole (lined g show.Started)
  started-whole = lined-whole show.Started tt (λ d x. refl) tt (started-stands g w.all)

  pub stopped-line-whole : Whole (lined g show.Stopped)
  stopped-line-whole = lined-whole show.Stopped tt (λ d x. refl) tt (stopped-line-stands g w.all)

  -- the server stops, perhaps with a record in doubt
  module _ (v : Server) (up : g.server ≡ Some v) where
    same-watch : (c : ℕ) → watch c (g.ghost.shown ++ show.Stopped ∷ []) ≡ watch c g.ghost.shown
    same-watch c = watch-step c g.ghost.shown show.Stopped

    halted : (r : Option Record) → AllAgree (record (stopped g) { unshown = r }) → DoubtAgrees (record (stopped g) { unshown = r }) → Whole (record (stopped g) { unshown = r })
    halted r now from =
        let h = record (stopped g) { unshown = r } in
        record {
          all = now;
          calls = calls-kept g g.durable None r g.pool (stopped g).ghost (w.all.0).events (now.0).events (show.Stopped ∷ []) refl tt w.calls;
          rest = rest-kept g g.durable None r g.pool (stopped g).ghost (w.all.0).events (now.0).events (show.Stopped ∷ []) refl tt w.rest;
          orderly = record { each = w.orderly.each };
          names = names-read g h w.names refl refl (omega arith) refl refl refl refl refl;
          zeros = same-keeps g h record { origin = refl; kept = refl; frozen = refl; next_id = refl; grants = refl; first = refl } refl w.zeros;
          frees = record { unused = w.frees.unused; once = w.frees.once };
          cuts = same-cuts g h record { slots = λ c. refl; running = refl; clerks = refl; owner = refl; frozen = refl; is_durable = refl; untold = λ c. ap (λ x. x.untold) (same-watch c) } w.cuts;
          counts = record { counted = λ c q. ap (λ x. x.starts) (same-watch c) ∙ w.counts.counted c q; above = w.counts.above };
          fulls = w.fulls;
          doubts = from;
          shows = record { tells = line-tells g h w.all now show.Stopped (goes-line h show.Stopped refl refl refl refl) w.shows.tells; fresh = fresh-line h show.Stopped now tt refl refl (omega arith) refl refl refl refl refl };
        }

    pub stopped-whole : g.unshown ≡ None → Whole (stopped g)
    stopped-whole q = subst (λ r. Whole (record (stopped g) { unshown = r })) (sym q) (halted None (subst (λ r. AllAgree (record (stopped g) { unshown = r })) q (halts-stand g w.all v up)) tt)

    pub doubted-whole : (r : Record) → ComesFrom g r → AllAgree (doubted g r) → Whole (doubted g r)
    doubted-whole r from now = halted (Some r) now from

  -- a start crashes
  pub crashed-whole : (c : ℕ) → Whole (crashed g c)
  crashed-whole c =
      let h = crashed g c in
      let now = crashes-stand g w.all c in
      record {
        all = now;
        calls = crashed-calls g c w.calls;
        rest = crashed-rest g c w.rest;
        orderly = record { each = w.orderly.each };
        names = names-read g h w.names refl refl (omega arith) refl refl refl refl refl;
        zeros = same-keeps g h record { origin = refl; kept = refl; frozen = refl; next_id = refl; grants = refl; first = refl } refl w.zeros;
        frees = record { unused = w.frees.unused; once = w.frees.once };
        cuts = crash-cuts g w.all c w.cuts;
        counts = crash-counts g w.all c w.counts;
        fulls = w.fulls;
        doubts = w.doubts;
        shows = record { tells = line-tells g h w.all now (show.Crashed c) (goes-line h (show.Crashed c) refl refl refl refl) w.shows.tells; fresh = fresh-line h (show.Crashed c) now tt refl refl (omega arith) refl refl refl refl refl };
      }

-- A restart.

-- a start leaves the durable state but for its epoch
pub start-leaves : (d : Durable) → (start d).server.durable ≡ record d { epoch = (start d).server.durable.epoch }
start-leaves d = go (nat_le last_counter d.epoch)
  where
    told : (c : ℕ) (xs : Slots) (t : Serving) → (tell_all c xs t).server ≡ t.server
    told c [] t = refl
    told c (o ∷ xs) t = told (c + 1) xs (tell_start c t o) ∙ one o
      where
        one : (o : Option Slot) → (tell_start c t o).server ≡ t.server
        one None = refl
        one (Some sl) = by sl.is_open
          where
            by : (b : Bool) → (elim b as (λ z. Serving) [ true ↦ tell c (Restarted sl.session (epoch t)) t | false ↦ tell_ended c sl t ]).server ≡ t.server
            by true = refl
            by false = refl

    by-step : (x : Result Durable RecordFault) → (f : Durable → Serving) → ((e : Durable) → (f e).server.durable ≡ e) → ((e : Durable) → x ≡ Ok e → e ≡ record d { epoch = e.epoch })
        → (elim x as (λ z. Serving) [ Ok e ↦ f e | Err n ↦ serving (new_server d) ]).server.durable ≡ record d { epoch = (elim x as (λ z. Serving) [ Ok e ↦ f e | Err n ↦ serving (new_server d) ]).server.durable.epoch }
    by-step (Ok e) f own same = own e ∙ same e refl ∙ ap (λ y. record d { epoch = y.epoch }) (sym (own e))
    by-step (Err n) f own same = refl

    stepped-so : (b : Bool) (e : Durable) → elim b as (λ z. Result Durable RecordFault) [ false ↦ Err BadNumber | true ↦ Ok (record d { epoch = d.epoch + 1 }) ] ≡ Ok e → e ≡ record d { epoch = e.epoch }
    stepped-so true e q = sym (took q) ∙ ap (λ y. record d { epoch = y.epoch }) (took q)
      where
        took : {x y : Durable} → ◌≡◌ {A = Result Durable RecordFault} (Ok x) (Ok y) → x ≡ y
        took q = cc
    stepped-so false e q = absurd (cc)

    go : (b : Bool) → (elim b as (λ z. Serving) [ true ↦ spend counter.Epoch (serving (new_server d)) | false ↦ commit (record_of.Epoch (d.epoch + 1)) (λ u. tell_all 0 u.server.durable.sessions u) stay (serving (new_server d)) ]).server.durable
        ≡ record d { epoch = (elim b as (λ z. Serving) [ true ↦ spend counter.Epoch (serving (new_server d)) | false ↦ commit (record_of.Epoch (d.epoch + 1)) (λ u. tell_all 0 u.server.durable.sessions u) stay (serving (new_server d)) ]).server.durable.epoch }
    go true = refl
    go false = by-step (step (record_of.Epoch (d.epoch + 1)) d) (λ e. tell_all 0 e.sessions (record (serving (new_server d)) { server = record (new_server d) { durable = e }; rec = Some (record_of.Epoch (d.epoch + 1)) }))
        (λ e. ap (λ s. s.durable) (told 0 e.sessions (record (serving (new_server d)) { server = record (new_server d) { durable = e }; rec = Some (record_of.Epoch (d.epoch + 1)) }))) (stepped-so ((d.epoch + 1) == (d.epoch + 1)))

module _ (g : System) (w : Whole g) (down : g.server ≡ None) where
  -- the record that was found
  module _ (r : Record) (doubt : g.unshown ≡ Some r) (now : AllAgree (with_found g r)) where
    abbrev d : Durable
    d = stepped r g.durable

    abbrev γ : Ghost
    γ = found_ghost g r

    abbrev none : System
    none = bare g

    abbrev h : System
    h = record g { durable = d; server = None; unshown = None; ghost = γ }

    none-all : AllAgree none
    none-all = bare-all g w.all down

    steps : step r g.durable ≡ Ok d
    steps = steps-so g w.all w.doubts down r doubt

    to-record : (x : Record) → Makes none x γ → RecordMakes none (Some x) γ
    to-record (Batch c s b ops) m = m
    to-record (End c s) m = m
    to-record (Open c age s) m = m
    to-record (Ids c s got x) m = m
    to-record (Epoch e) m = m

    makes : RecordMakes none (Some r) γ
    makes = to-record r (founds-make g w.all w.doubts down r doubt)

    moves : Moves none γ
    moves = record-moves none none-all (Some r) d γ steps makes

    here : AllAgree h
    here = subst (λ v. AllAgree (record g { durable = d; server = v; unshown = None; ghost = γ })) down now

    lines : γ.shown ≡ g.ghost.shown ++ record_lines g (Some r)
    lines = found-shown g r

    names-none : NamesAgree none
    names-none = names-read g none w.names refl refl (omega arith) refl refl refl refl refl

    found-in : Whole h
    found-in = record {
      all = here;
      calls = calls-kept g d None None g.pool γ (w.all.0).events (here.0).events (record_lines g (Some r)) lines (record-quiet g (Some r)) w.calls;
      rest = rest-kept g d None None g.pool γ (w.all.0).events (here.0).events (record_lines g (Some r)) lines (record-quiet g (Some r)) w.rest;
      orderly = record { each = w.orderly.each };
      names = states-keep none (none-all.0).sessions names-none d None g.pool γ (next-grows none none-all (Some r) d steps) (names-behind none none-all d None g.pool γ (next-grows none none-all (Some r) d steps) moves names-none);
      zeros = records-keep none (same-keeps g none record { origin = refl; kept = refl; frozen = refl; next_id = refl; grants = refl; first = refl } refl w.zeros) d None g.pool (Some r) γ steps makes;
      frees = frees-behind none none-all d None g.pool γ (next-grows none none-all (Some r) d steps) moves names-none (record { unused = w.frees.unused; once = w.frees.once });
      cuts = records-cuts none none-all d None g.pool
          (same-cuts g none record { slots = λ c. refl; running = refl; clerks = refl; owner = refl; frozen = refl; is_durable = refl; untold = λ c. refl } w.cuts) (Some r) γ steps makes here;
      counts = records-counts none none-all d None g.pool (Some r) γ makes (record { counted = w.counts.counted; above = w.counts.above });
      fulls = subst (λ n. AreFullAt n g.pool) (sym (step-most r g.durable d steps)) w.fulls;
      doubts = tt;
      shows = record {
        tells = tells-on g h w.all here (record_lines g (Some r)) (few-lines g (Some r)) (record { origin = refl; most = step-most r g.durable d steps; shown = lines; fresh = λ p le. ap (at_or 0 p) moves.fresh }) w.shows.tells;
        fresh = record-fresh g h w.all here w.names (record_lines g (Some r)) (record { quiet = quiet-lines g (Some r); origin = refl; first_boot = refl; next = next-grows none none-all (Some r) d steps; shown = lines; fresh = moves.fresh }) refl moves.given w.shows.fresh;
      };
    }

    pub found-whole : Whole (with_found g r)
    found-whole = subst (λ v. Whole (record g { durable = d; server = v; unshown = None; ghost = γ })) (sym down) found-in

  -- the server starts
  module _ (sure : g.unshown ≡ None) (e : ℕ) where
    abbrev t : Serving
    t = start (record (g.durable) { epoch = e })

    abbrev up : System
    up = started_in g t

    same : t.server.durable ≡ record (g.durable) { epoch = t.server.durable.epoch }
    same = start-leaves (record (g.durable) { epoch = e })

    pub up-whole : AllAgree up → Whole up
    up-whole now = record {
      all = now;
      calls = calls-kept g t.server.durable (Some t.server) g.unshown (g.pool ++ t.sent) (lined g show.Started).ghost (w.all.0).events (now.0).events (show.Started ∷ []) refl tt w.calls;
      rest = rest-kept g t.server.durable (Some t.server) g.unshown (g.pool ++ t.sent) (lined g show.Started).ghost (w.all.0).events (now.0).events (show.Started ∷ []) refl tt w.rest;
      orderly = record { each = w.orderly.each };
      names = names-read g up w.names refl refl (subst (λ d. g.durable.next_id ≤ d.next_id) (sym same) (omega arith)) refl refl refl refl refl;
      zeros = same-keeps g up record { origin = refl; kept = refl; frozen = refl; next_id = ap (λ d. d.next_id) same; grants = refl; first = refl } refl w.zeros;
      frees = record { unused = w.frees.unused; once = w.frees.once };
      cuts = same-cuts g up record { slots = λ c. ap (λ d. slot d c) same; running = refl; clerks = refl; owner = refl; frozen = refl; is_durable = refl; untold = λ c. ap (λ x. x.untold) (same-watch c) } w.cuts;
      counts = record { counted = λ c q. ap (λ x. x.starts) (same-watch c) ∙ w.counts.counted c q; above = w.counts.above };
      fulls = let q = start-right g.durable.max_objects (record (g.durable) { epoch = e }) refl in
          subst (λ n. AreFullAt n (g.pool ++ t.sent)) (sym q.0) (each-more (λ x. IsFullAt g.durable.max_objects x.1) g.pool t.sent w.fulls q.1);
      doubts = subst (ComesFromAny up) (sym sure) tt;
      shows = record {
        tells = line-tells g up w.all now show.Started (record { origin = refl; most = ap (λ d. d.max_objects) same; shown = refl; fresh = λ p le. refl }) w.shows.tells;
        fresh = fresh-line g w up show.Started now tt refl refl (subst (λ d. g.durable.next_id ≤ d.next_id) (sym same) (omega arith)) refl refl refl refl refl;
      };
    }
      where
        same-watch : (c : ℕ) → watch c (g.ghost.shown ++ show.Started ∷ []) ≡ watch c g.ghost.shown
        same-watch c = watch-step c g.ghost.shown show.Started
