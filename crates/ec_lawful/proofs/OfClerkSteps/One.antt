-- One answer of a clerk in its open session leaves all facts standing.
use Rattle.std.proofs.Common.{◌≡◌, refl, sym, ap, subst, ◌∙◌, ◌<◌, ◌+◌, ℕ, Bool, true, false, ◌==◌, T, List, [], ◌∷◌, ◌++◌, length, Option, Some, None}
use Rattle.ec_base.specs.Tables.{Table, at, put}
use Rattle.ec_base.specs.declared.ids.Age.{Age}
use Rattle.ec_volume.specs.Volume.{after}
use Rattle.ec_volume.specs.declared.image.Image.TheVariants.{Gone}
use Rattle.ec_volume.specs.declared.update.Update.{Update}
use Rattle.ec_plain.specs.declared.call.Call.{Call}
use Rattle.ec_plain.specs.declared.call.Outcome.{Outcome}
use Rattle.ec_cache.specs.declared.state.Held.{Held}
use Rattle.ec_history.specs.History.{Each, History, Op}
use Rattle.ec_history.specs.Placing.{MayFollow, place}
use Rattle.ec_history.specs.declared.entry.Answer.{Answer}
use Rattle.ec_history.specs.declared.shown.Shown.{Shown}
use Rattle.ec_history.specs.declared.shown.Shown.TheVariants.{Answered}
use Rattle.ec_cache.specs.OfReport.Report.{clear}
use Rattle.ec_cache.specs.declared.resolve.verdict.Verdict.{Verdict}
use Rattle.ec_cache.specs.declared.resolve.verdict.Verdict.TheVariants.{Need, Lost, NeedIds, Done}
use Rattle.ec_protocol.specs.Clerk.{verdict}
use Rattle.ec_protocol.specs.declared.clerk.Clerk.{Clerk}
use Rattle.ec_coherence.specs.System.{System, is_open, with_start}
use Rattle.ec_coherence.specs.Sessions.{HasNone}
use Rattle.ec_coherence.specs.Log.{IsNumbered, next_of}
use Rattle.ec_coherence.specs.Steps.{calls_after}
use Rattle.ec_coherence.specs.ChangeLaws.{Calls, IsInIt}
use Rattle.ec_coherence.specs.CommitLaws.{AllAgree}
use Rattle.ec_coherence.specs.Answers.{Gives, fresh_of, op_given}
use Rattle.ec_coherence.specs.Comes.{after_answer}
use Rattle.ec_coherence.proofs.ForCommits.Touching.{leaves-others}
use Rattle.ec_lawful.specs.OfClerkSteps.Answering.{Suits, answered_clerk, answering, done_clerk}
use Rattle.ec_lawful.specs.OfClerkSteps.AnswerLaws.{IsSettled}
use Rattle.ec_lawful.specs.OfClerkSteps.Zeros.{ZerosAgree}
use Rattle.ec_lawful.proofs.OfClerkSteps.NodesAnswered as changing
use Rattle.ec_lawful.proofs.OfClerkSteps.NodesAnswered.{NodesAgree}
use Rattle.ec_lawful.proofs.OfClerkSteps.Framed as framed
use Rattle.ec_lawful.proofs.OfClerkSteps.Live.{IsSlot, its-slot, live, marked, owns, sees, stands, there}
use Rattle.ec_lawful.proofs.OfClerkSteps.Turned.{makes-first, named-is, next-is, quiet-is, same-age, same-id, same-session, writes-all}
use Rattle.ec_lawful.proofs.OfClerkSteps.Unseen.{answer-keeps-all}
use Rattle.ec_lawful.proofs.OfClerkSteps.Watched as watched
use Rattle.ec_lawful.proofs.OfClerkSteps.Watched.{IsPending}
use Rattle.ec_lawful.proofs.OfClerkSteps.Zeroless.{left-out, ops-left-out, still-no-zero}
use Rattle.ec_base.proofs.Numbers.{same-self as same}
use Rattle.ec_base.proofs.Options.{none_some}
use Rattle.ec_base.proofs.Bools.{and-both as and_both}
use Rattle.ec_history.proofs.HistoryLemmas.{each-more as each-append}

module _ (g : System) (all : AllAgree g) (zeros : ZerosAgree g) (c s : ℕ) (age : Age) (k : Clerk) (in-it : IsInIt g c s age k) (r : g.running c ≡ Some age.boot) (o : T (is_open g s))
    (n l : ℕ) (cl : Call) (a : Answer) (op : Option ℕ) (gives : Gives g.durable.max_objects k (verdict cl k) a op (answered_clerk (verdict cl k) k).owed) (suit : Suits (verdict cl k) k)
    (line : MayFollow g.ghost.shown (Answered l c cl a op)) (settled : IsSettled g c age.boot k l cl a op) where
  abbrev b : ℕ
  b = age.boot

  abbrev v : Verdict
  v = verdict cl k

  abbrev now : Clerk
  now = answered_clerk v k

  abbrev p : ℕ
  p = length g.ghost.shown + 1

  abbrev os : List Op
  os = op_given c b p k v

  abbrev shown : List Shown
  shown = g.ghost.shown ++ Answered l c cl a op ∷ []

  abbrev fresh : Table ℕ
  fresh = put p (fresh_of k) g.ghost.fresh

  abbrev calls : Calls
  calls = calls_after c (answering now n a op).outs g.calls

  abbrev h : System
  h = after_answer g c b k (answering now n a op) l cl a op

  at-start : g.clerks c b ≡ Some k
  at-start = stands g all c s age k in-it

  slot-of : IsSlot g c s age
  slot-of = its-slot g all c s age k in-it o

  events-stay : Rattle.ec_coherence.specs.Events.EventsAgree h
  events-stay = answer-keeps-all g (all.0).events c b k r at-start (live g all c s age k in-it zeros o) (sees g all c s age k in-it zeros o) (answering now n a op) l cl a op (record {
    gives = gives;
    age = same-age k v;
    next = next-is g.durable.max_objects k a op now.owed v gives;
    line = line;
    settled = settled;
    leaves_others = leaves-others g (all.0).events (all.0).tokens ((all.0).logs).writes c b s age k (marked g all c s age k in-it zeros o) (there g all c s age k in-it) o (owns g all c s age k in-it) r at-start
        (live g all c s age k in-it zeros o) (sees g all c s age k in-it zeros o) g.durable.max_objects l cl a op now.owed gives;
  })

  -- Tokens, logs and images.

  abbrev behind : Clerk → List Op → System
  behind m ks = changing.behind g all c s age k in-it r n a op shown (place shown) fresh calls m ks

  done-nodes : (w : Outcome) → v ≡ Done w → Suits (Done w) k → (u : Option Update) → w.update ≡ u
      → NodesAgree (behind (done_clerk w u k) (g.ghost.kept ++ elim u as (λ z. List Op) [ None ↦ [] | Some x ↦ record { clerk = c; boot = b; number = k.log.next; place = p; update = x } ∷ [] ]))
  done-nodes w e f None q = changing.used-nodes g all c s age k in-it r n a op shown (place shown) fresh calls k.owed w.touched
  done-nodes w e f (Some u) q = changing.issued-nodes g all c s age k in-it r n a op shown (place shown) fresh calls slot-of.slot_of slot-of.here slot-of.of slot-of.opened o u w.touched p (f u q)
      (writes-all cl k w e u q) (makes-first cl k w e u q)

  nodes-by : (x : Verdict) → v ≡ x → Gives g.durable.max_objects k x a op (answered_clerk x k).owed → Suits x k → NodesAgree (behind (answered_clerk x k) (g.ghost.kept ++ op_given c b p k x))
  nodes-by (Need x y) e f i = absurd f
  nodes-by (Lost ns xs) e f i = changing.used-nodes g all c s age k in-it r n a op shown (place shown) fresh calls (clear xs k.owed) xs
  nodes-by (NeedIds xs) e f i = changing.used-nodes g all c s age k in-it r n a op shown (place shown) fresh calls k.owed xs
  nodes-by (Done w) e f i = done-nodes w e i w.update refl

  nodes-stay : NodesAgree h
  nodes-stay = nodes-by v refl gives suit

  -- The new operations.

  abbrev IsNew : Op → Type 0
  IsNew j = IsPending g.ghost c b j

  pending-by : (x : Verdict) → Each IsNew (op_given c b p k x)
  pending-by (Need x y) = tt
  pending-by (Lost ns xs) = tt
  pending-by (NeedIds xs) = tt
  pending-by (Done w) = go w.update
    where
      numbered : IsNumbered g.ghost c b k.log.next
      numbered = subst (λ z. IsNumbered g.ghost c b (next_of z)) at-start (((all.0).logs).starts c b)

      go : (u : Option Update) → Each IsNew (elim u as (λ z. List Op) [ None ↦ [] | Some x ↦ record { clerk = c; boot = b; number = k.log.next; place = p; update = x } ∷ [] ])
      go None = tt
      go (Some x) = (
        record {
          clerk = refl;
          boot = refl;
          pending = numbered.none_later (record { clerk = c; boot = b; number = k.log.next; place = p; update = x }) (and_both (c == c) (b == b) (subst T (sym (same c)) tt) (subst T (sym (same b)) tt)) (least k.log.next);
        },
        tt,
      )
        where
          least : (m : ℕ) → Rattle.std.specs.Prelude.◌≤◌ m m
          least m = omega Rattle.std.proofs.Common.arith

  above-now : Each (λ j. g.first_boot j.clerk < j.boot) (g.ghost.kept ++ os)
  above-now = each-append (λ j. g.first_boot j.clerk < j.boot) g.ghost.kept os (all.3).above (Rattle.ec_coherence.proofs.ForServer.Tables.each-map IsNew (λ j. g.first_boot j.clerk < j.boot) os
      (λ j f. subst (λ z. g.first_boot z < j.boot) (sym f.clerk) (subst (λ z. g.first_boot c < z) (sym f.boot) ((all.3).started c b k at-start))) (pending-by v))

  no-session : k.session ≡ None → HasNone k → HasNone now
  no-session e f = absurd (none_some (sym e ∙ in-it.session))

  seen-none : (x : Held) → at 0 k.cache.held ≡ Some x → x.image ≡ Gone
  seen-none x e = ((all.0).images).licences s 0 k (there g all c s age k in-it) x e ∙ ap (λ z. after g.origin (Rattle.ec_history.specs.History.updates (Rattle.ec_coherence.specs.System.seen_ops z g.ghost.kept)) 0) (((all.0).images).unfrozen s o)
      ∙ left-out 0 (g.origin 0) g.ghost.kept zeros.kept ∙ zeros.origin

  pub live-answers : AllAgree h × ZerosAgree h
  live-answers = (
    (
      record {
        sessions = framed.sessions-stay g c b k now at-start (same-id k v) (same-age k v) (same-session k v) calls (g.ghost.kept ++ os) g.ghost.frozen shown (place shown) fresh no-session (all.0).sessions;
        tokens = nodes-stay.0;
        logs = nodes-stay.1;
        images = nodes-stay.2;
        events = events-stay;
        stops = framed.stops-stay g c b k now at-start (same-id k v) (same-age k v) (same-session k v) calls (g.ghost.kept ++ os) g.ghost.frozen shown (place shown) fresh ((all.0).stops).open_sessions (λ t z. z) (all.0).stops;
      },
      watched.watches-stay g (all.0).sessions all.1 c s age (owns g all c s age k in-it) slot-of.slot_of slot-of.here slot-of.of slot-of.opened slot-of.aged r (((all.0).events).starts c b r)
          (((all.0).events).untold c b k r at-start (live g all c s age k in-it zeros o).uncut) os (pending-by v) l cl a op (named-is g.durable.max_objects k a op now.owed c b p v gives) (quiet-is g.durable.max_objects k a op now.owed cl gives)
          (with_start c b now g.clerks) calls (g.pool ++ []) (place shown) fresh,
      all.2,
      framed.starts-stay g c b k now at-start (same-id k v) (same-age k v) (same-session k v) calls (g.ghost.kept ++ os) g.ghost.frozen shown (place shown) fresh above-now (λ t z. z) all.3,
    ),
    framed.zeros-stay g c b k now at-start (same-id k v) (same-age k v) (same-session k v) calls (g.ghost.kept ++ os) g.ghost.frozen shown (place shown) fresh
        (each-append (λ j. T (Rattle.std.specs.Prelude.not (Rattle.ec_volume.specs.Update.has_operand 0 j.update))) g.ghost.kept os zeros.kept (ops-left-out cl k (zeros.clerks c b k at-start) seen-none c b p v refl suit))
        zeros.frozen (λ z. still-no-zero cl k z seen-none v refl suit) zeros,
  )
