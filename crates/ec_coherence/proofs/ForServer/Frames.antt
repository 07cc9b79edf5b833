-- The whole invariant behind the small functions of the server that change its tables alone, or only say something.
use Rattle.std.proofs.Common.{◌≡◌, refl, sym, subst, ◌∙◌, ℕ, Bool, true, false, not, T, List, [], ◌∷◌, ◌++◌}
use Rattle.std.specs.Prelude.{Some}
use Rattle.std.specs.List.{filter, list_any}
use Rattle.std.proofs.lemmas.List.{append_assoc}
use Rattle.ec_base.specs.Tables.{Table}
use Rattle.ec_volume.specs.Update.{operands}
use Rattle.ec_history.specs.History.{Op, Each, kept, is_one_of}
use Rattle.ec_history.specs.declared.entry.Entry.TheVariants as entry
use Rattle.ec_base.specs.Holds.{is_free}
use Rattle.ec_sessions.specs.OfTokens.Tokens as tokens
use Rattle.ec_sessions.specs.declared.recall.want.Want as want
use Rattle.ec_wire.specs.Messages.{is_sound}
use Rattle.ec_wire.specs.declared.msg.Msg.{Msg}
use Rattle.ec_protocol.specs.Server.{Serving, tell}
use Rattle.ec_protocol.specs.declared.clerk.Clerk.{Clerk}
use Rattle.ec_coherence.specs.System.{System, Ghost, base_of, is_open, undurable}
use Rattle.ec_coherence.specs.Sessions as sessions
use Rattle.ec_coherence.specs.Tokens as facts
use Rattle.ec_coherence.specs.Log as log
use Rattle.ec_coherence.specs.Images.{ImagesAgree}
use Rattle.ec_coherence.specs.Events.{EventsAgree, CutAgrees, Frees, same_op}
use Rattle.ec_coherence.specs.Stops.{StopsAgree}
use Rattle.ec_coherence.specs.Invariant.{Invariant}
use Rattle.ec_coherence.specs.Steps.{serving_in, Under}
use Rattle.ec_coherence.proofs.ForServer.Said.{said-agrees}
use Rattle.ec_coherence.proofs.ForServer.Tables.{each-map}
use Rattle.ec_base.proofs.Options.{none_some}
use Rattle.ec_history.proofs.HistoryLemmas.{each-more as each-append}
use Rattle.ec_base.proofs.Bools.{holds-true as holds}

-- what the facts but those of tokens say of a message
abbrev pub Heard : System → ℕ × Msg → Type 0
Heard g m = sessions.Fits g m.0 m.1 × T (is_sound m.1) × log.Fits g m.1

-- Other tables.
module _ (g : System) (γ : Ghost) (t : Serving) (ts : tokens.Tokens) (qs : List want.Want) (cl : List ℕ) (n : ℕ) (rs : Table ℕ) where
  abbrev pub retabled : Serving
  retabled = record t { server = record (t.server) { tokens = ts; recalls = qs; claimed = cl; number = n; recorded = rs } }

  abbrev before : System
  before = serving_in t γ g

  -- and these messages
  module _ (ss : List (ℕ × Msg)) where
    abbrev after : System
    after = serving_in (record retabled { sent = ss }) γ g

    module _ (i : Invariant before) (heard : Each (Heard before) (g.pool ++ ss)) (tokens_agree : facts.TokensAgree (facts.view after)) (closed : (s x : ℕ) → T (not (is_open before s)) → facts.eff (facts.view after) s x ≡ facts.eff (facts.view before) s x) where
      sessions-stay : sessions.SessionsAgree after
      sessions-stay = let a = i.sessions in record {
        sixteen = a.sixteen;
        next = a.next;
        slots = a.slots;
        owned = a.owned;
        once = a.once;
        taken = a.taken;
        told = a.told;
        starts = a.starts;
        rounds = a.rounds;
        running = a.running;
        in_session = a.in_session;
        without = a.without;
        current = a.current;
        sound = each-map (Heard before) (λ m. T (is_sound m.1)) (g.pool ++ ss) (λ m q. q.1) heard;
        messages = each-map (Heard before) (λ m. sessions.Fits after m.0 m.1) (g.pool ++ ss) (λ m q. q.0) heard;
      }

      writes-stay : (o : Op) → log.HasWrites before o → log.HasWrites after o
      writes-stay o h = record { session = h.session; clerk = h.clerk; in_place = h.in_place; is_open = h.is_open; own = h.own; writes = h.writes }

      logs-stay : log.LogsAgree after
      logs-stay = let a = i.logs in record {
        writes = each-map (λ o. T (not (γ.is_durable o)) → log.HasWrites before o) (λ o. T (not (γ.is_durable o)) → log.HasWrites after o) γ.kept (λ o f d. writes-stay o (f d)) a.writes;
        logs = λ s c sl p q o k j. let l = a.logs s c sl p q o k j in record { knows = l.knows; ids = l.ids };
        starts = a.starts;
        closed = a.closed;
        unopened = a.unopened;
        untaken = a.untaken;
        messages = each-map (Heard before) (λ m. log.Fits after m.1) (g.pool ++ ss) (λ m q. q.2) heard;
        unspent = a.unspent;
        once = a.once;
        apart = a.apart;
        whole = a.whole;
      }

      images-stay : ImagesAgree after
      images-stay = let a = i.images in record {
        server = a.server;
        fits = a.fits;
        sound = a.sound;
        origin = a.origin;
        origin_held = a.origin_held;
        licences = a.licences;
        unfrozen = a.unfrozen;
        unopened = a.unopened;
        cut_off = a.cut_off;
        known = a.known;
        operands = a.operands;
      }

      frees-stay : (s : ℕ) (op : Op) → T (not (is_open before s)) → Frees before s op → Frees after s op
      frees-stay s op o r = each-map (λ x. T (is_free (facts.eff_hold (facts.eff (facts.view before) s x)))) (λ x. T (is_free (facts.eff_hold (facts.eff (facts.view after) s x)))) (operands op.update)
          (λ x z. subst (λ e. T (is_free (facts.eff_hold e))) (sym (closed s x o)) z) r

      cut-stays : (c b s : ℕ) (k : Clerk) (ks : List Op) → T (not (is_open before s)) → CutAgrees before c b s k ks → CutAgrees after c b s k ks
      cut-stays c b s k ks o q = record {
        before = q.before;
        at = q.at;
        lost = q.lost;
        behind = q.behind;
        was = q.was;
        keeps = q.keeps;
        alone = q.alone;
        untold = q.untold;
        owes = q.owes;
        frozen = λ u p. each-map (λ op. T (list_any (λ k. same_op k op) ks) → Frees before s op) (λ op. T (list_any (λ k. same_op k op) ks) → Frees after s op) (undurable γ u) (λ op f z. frees-stay s op o (f z)) (q.frozen u p);
        later = each-map (λ e. (r d f : ℕ) (ms : List ℕ) → e ≡ (r, entry.Loss d f ms) → Each (Frees before s) (filter (is_one_of d f ms) (kept (base_of before) q.before)))
            (λ e. (r d f : ℕ) (ms : List ℕ) → e ≡ (r, entry.Loss d f ms) → Each (Frees after s) (filter (is_one_of d f ms) (kept (base_of before) q.before))) q.behind
            (λ e h r d f ms z. each-map (Frees before s) (Frees after s) (filter (is_one_of d f ms) (kept (base_of before) q.before)) (λ op w. frees-stay s op o w) (h r d f ms z)) q.later;
      }

      -- a frozen session isn't open
      has-ended : (s : ℕ) (ks : List Op) → γ.frozen s ≡ Some ks → T (not (is_open before s))
      has-ended s ks p = go (is_open before s) refl
        where
          go : (b : Bool) → is_open before s ≡ b → T (not b)
          go true e = none_some (sym (i.stops.open_sessions s (holds (is_open before s) e)) ∙ p)
          go false e = tt

      events-stay : EventsAgree after
      events-stay = let a = i.events in record {
        placeable = a.placeable;
        starts = a.starts;
        untold = a.untold;
        placed = a.placed;
        keeps = a.keeps;
        legal = a.legal;
        owes = a.owes;
        counts = a.counts;
        covered = a.covered;
        untouched = a.untouched;
        cuts = λ c b s k ks r p q f. cut-stays c b s k ks (has-ended s ks f) (a.cuts c b s k ks r p q f);
      }

      stops-stay : StopsAgree after
      stops-stay = let a = i.stops in record { runs = (refl, a.runs.1); doubt = a.doubt; open_sessions = a.open_sessions; ended = a.ended }

      pub served-keeps : Invariant after
      served-keeps = record { sessions = sessions-stay; tokens = tokens_agree; logs = logs-stay; images = images-stay; events = events-stay; stops = stops-stay }

-- what was heard of the messages so far
pub heard-of : (g : System) (ms : List (ℕ × Msg)) → Each (λ m. sessions.Fits g m.0 m.1) ms → Each (λ m. T (is_sound m.1)) ms → Each (λ m. log.Fits g m.1) ms → Each (Heard g) ms
heard-of g [] a b c = tt
heard-of g (m ∷ ms) a b c = ((a.0, b.0, c.0), heard-of g ms a.1 b.1 c.1)

pub retabled-keeps : (g : System) (γ : Ghost) (t : Serving) (ts : tokens.Tokens) (qs : List want.Want) (cl : List ℕ) (n : ℕ) (rs : Table ℕ) → Invariant (serving_in t γ g)
    → facts.TokensAgree (facts.view (serving_in (retabled g γ t ts qs cl n rs) γ g))
    → ((s x : ℕ) → T (not (is_open (serving_in t γ g) s)) → facts.eff (facts.view (serving_in (retabled g γ t ts qs cl n rs) γ g)) s x ≡ facts.eff (facts.view (serving_in t γ g)) s x)
    → Invariant (serving_in (retabled g γ t ts qs cl n rs) γ g)
retabled-keeps g γ t ts qs cl n rs i f closed = served-keeps g γ t ts qs cl n rs t.sent i (heard-of (serving_in t γ g) (g.pool ++ t.sent) i.sessions.messages i.sessions.sound i.logs.messages) f closed

-- One more message.
module _ (g : System) (γ : Ghost) (t : Serving) (c : ℕ) (m : Msg) where
  abbrev here : System
  here = serving_in t γ g

  abbrev more : System
  more = record here { pool = here.pool ++ (c, m) ∷ [] }

  module _ (i : Invariant here) (of_sessions : sessions.Fits here c m) (sound : T (is_sound m)) (of_tokens : facts.Fits (facts.view here) m) (of_logs : log.Fits here m) where
    told : Invariant more
    told = record {
      sessions = (let a = i.sessions in record {
        sixteen = a.sixteen;
        next = a.next;
        slots = a.slots;
        owned = a.owned;
        once = a.once;
        taken = a.taken;
        told = a.told;
        starts = a.starts;
        rounds = a.rounds;
        running = a.running;
        in_session = a.in_session;
        without = a.without;
        current = a.current;
        sound = each-append (λ m. T (is_sound m.1)) here.pool ((c, m) ∷ []) a.sound (sound, tt);
        messages = each-append (λ m. sessions.Fits more m.0 m.1) here.pool ((c, m) ∷ []) (each-map (λ m. sessions.Fits here m.0 m.1) (λ m. sessions.Fits more m.0 m.1) here.pool (λ m q. q) a.messages) (of_sessions, tt);
      });
      tokens = said-agrees (facts.view here) (facts.tables_of t.server) c m i.tokens of_tokens;
      logs = (let a = i.logs in record {
        writes = each-map (λ o. T (not (γ.is_durable o)) → log.HasWrites here o) (λ o. T (not (γ.is_durable o)) → log.HasWrites more o) γ.kept
            (λ o f d. let h = f d in record { session = h.session; clerk = h.clerk; in_place = h.in_place; is_open = h.is_open; own = h.own; writes = h.writes }) a.writes;
        logs = λ s c sl p q o k j. (let l = a.logs s c sl p q o k j in record { knows = l.knows; ids = l.ids });
        starts = a.starts;
        closed = a.closed;
        unopened = a.unopened;
        untaken = a.untaken;
        messages = each-append (λ m. log.Fits more m.1) here.pool ((c, m) ∷ []) (each-map (λ m. log.Fits here m.1) (λ m. log.Fits more m.1) here.pool (λ m q. q) a.messages) (of_logs, tt);
        unspent = a.unspent;
        once = a.once;
        apart = a.apart;
        whole = a.whole;
      });
      images = (let a = i.images in record { server = a.server; fits = a.fits; sound = a.sound; origin = a.origin; origin_held = a.origin_held; licences = a.licences; unfrozen = a.unfrozen; unopened = a.unopened; cut_off = a.cut_off; known = a.known; operands = a.operands });
      events = (let a = i.events in record {
        placeable = a.placeable;
        starts = a.starts;
        untold = a.untold;
        placed = a.placed;
        keeps = a.keeps;
        legal = a.legal;
        owes = a.owes;
        counts = a.counts;
        covered = a.covered;
        untouched = a.untouched;
        cuts = λ c b s k ks r p q f. (let z = a.cuts c b s k ks r p q f in record { before = z.before; at = z.at; lost = z.lost; behind = z.behind; was = z.was; keeps = z.keeps; alone = z.alone; untold = z.untold; owes = z.owes; frozen = z.frozen; later = z.later });
      });
      stops = (let a = i.stops in record { runs = a.runs; doubt = a.doubt; open_sessions = a.open_sessions; ended = a.ended });
    }

    pub tell-keeps : Invariant (serving_in (tell c m t) γ g)
    tell-keeps = subst (λ p. Invariant (record here { pool = p })) (append_assoc g.pool t.sent ((c, m) ∷ [])) told

  -- what the server says lets a step stand
  pub tell-stands : Under g t γ → sessions.Fits here c m → T (is_sound m) → facts.Fits (facts.view here) m → log.Fits here m → Under g (tell c m t) γ
  tell-stands u a s b l = record { committed = u.committed; shown = u.shown; invariant = tell-keeps u.invariant a s b l }
