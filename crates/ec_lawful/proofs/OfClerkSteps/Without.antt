-- The answer of a clerk without a session, which isn't cut off, leaves all facts standing.
use Rattle.std.proofs.Common.{◌≡◌, refl, sym, ap, subst, ◌∙◌, inl, inr, ◌<◌, ◌+◌, ℕ, Bool, true, not, map, T, List, [], ◌∷◌, ◌++◌, length, Option, Some, None, append-nil}
use Rattle.std.specs.List.{filter, list_any}
use Rattle.std.proofs.lemmas.Bool.{cases_eq}
use Rattle.ec_base.specs.Tables.{Table, put}
use Rattle.ec_volume.specs.Update.{has_operand, member, operands}
use Rattle.ec_plain.specs.declared.call.Call.{Call}
use Rattle.ec_history.specs.History.{Each, Op, is_one_of, kept, numbers, touched}
use Rattle.ec_history.specs.Legal.{is_call_of_other, leaves}
use Rattle.ec_history.specs.Placing.{MayFollow, place}
use Rattle.ec_history.specs.declared.entry.Answer.{Answer}
use Rattle.ec_history.specs.declared.shown.Shown.{Shown}
use Rattle.ec_history.specs.declared.shown.Shown.TheVariants.{Answered}
use Rattle.ec_cache.specs.declared.resolve.verdict.Verdict.{Verdict}
use Rattle.ec_protocol.specs.Clerk.{verdict}
use Rattle.ec_protocol.specs.declared.clerk.Clerk.{Clerk}
use Rattle.ec_coherence.specs.System.{System, undurable, with_start}
use Rattle.ec_coherence.specs.Sessions.{HasNone}
use Rattle.ec_coherence.specs.Events.{EventsAgree, IsUncut, cut_in, shown_boot, shown_op}
use Rattle.ec_coherence.specs.Steps.{calls_after}
use Rattle.ec_coherence.specs.Invariant.{Invariant}
use Rattle.ec_coherence.specs.ChangeLaws.{Calls}
use Rattle.ec_coherence.specs.CommitLaws.{AllAgree}
use Rattle.ec_coherence.specs.Starts.{StartsAgree}
use Rattle.ec_coherence.specs.Watches.{FirstsAgree}
use Rattle.ec_coherence.specs.Answers.{Gives, IsLive, Sees, based, fresh_of, op_given}
use Rattle.ec_coherence.specs.Comes.{after_answer, entry_next}
use Rattle.ec_coherence.proofs.ForCommits.Answering.{fresh-here, is-at, kept-now}
use Rattle.ec_coherence.proofs.ForCommits.Touching.{each-holds, each-passing, none-such, touched-held}
use Rattle.ec_lawful.specs.OfClerkSteps.Answering.{Suits, answered_clerk, answering}
use Rattle.ec_lawful.specs.OfClerkSteps.AnswerLaws.{IsBegun, IsSettled}
use Rattle.ec_lawful.specs.OfClerkSteps.Zeros.{LeaveOut, ZerosAgree}
use Rattle.ec_lawful.proofs.OfClerkSteps.Alone as alone
use Rattle.ec_lawful.proofs.OfClerkSteps.Alone.{shows-none}
use Rattle.ec_lawful.proofs.OfClerkSteps.Framed as framed
use Rattle.ec_lawful.proofs.OfClerkSteps.OutsideAnswers as outside
use Rattle.ec_lawful.proofs.OfClerkSteps.OutsideAnswers.{IsQuiet, holds-none, no-number, no-ops, quiet-now, reads-none}
use Rattle.ec_lawful.proofs.OfClerkSteps.Turned.{next-is, same-age, same-id, same-session}
use Rattle.ec_lawful.proofs.OfClerkSteps.Unseen.{answer-keeps-all}
use Rattle.ec_lawful.proofs.OfClerkSteps.Zeroless.{still-no-zero}
use Rattle.ec_base.proofs.Options.{none_some}
use Rattle.ec_base.proofs.Bools.{not-both as no_both, or-right}

-- All facts but those on the history, of any answer outside a session.
module _ (g : System) (inv : Invariant g) (firsts : FirstsAgree g.ghost) (starts : StartsAgree g) (zeros : ZerosAgree g) (c b : ℕ) (k : Clerk) (ws : IsBegun g c) (at-start : g.clerks c b ≡ Some k) (out : k.session ≡ None)
    (n l : ℕ) (cl : Call) (a : Answer) (op : Option ℕ) (gives : Gives g.durable.max_objects k (verdict cl k) a op (answered_clerk (verdict cl k) k).owed) (suit : Suits (verdict cl k) k) where
  abbrev v : Verdict
  v = verdict cl k

  abbrev now : Clerk
  now = answered_clerk v k

  abbrev p : ℕ
  p = length g.ghost.shown + 1

  abbrev os : List Op
  os = op_given c b p k v

  abbrev shown : List Shown
  shown = g.ghost.shown ++ Answered l c cl a op ∷ []

  abbrev fresh : Table ℕ
  fresh = put p (fresh_of k) g.ghost.fresh

  abbrev calls : Calls
  calls = calls_after c (answering now n a op).outs g.calls

  abbrev pub h : System
  h = after_answer g c b k (answering now n a op) l cl a op

  pub none : HasNone k
  none = (inv.sessions).without c b k at-start out

  quiet : IsQuiet k none out now
  quiet = quiet-now k none out cl v refl suit

  nothing : os ≡ []
  nothing = no-ops k none out cl c b p v refl suit

  no-op : op ≡ None
  no-op = no-number k none out g.durable.max_objects cl a op now.owed v refl suit gives

  kept-same : g.ghost.kept ++ os ≡ g.ghost.kept
  kept-same = ap (λ z. g.ghost.kept ++ z) nothing ∙ append-nil g.ghost.kept

  pub outside-all : EventsAgree h → AllAgree h × ZerosAgree h
  outside-all events =
      let nodes = outside.outside-nodes g inv c b k now at-start out quiet.outside quiet.same_log calls shown (place shown) fresh os nothing in (
        (
          record {
            sessions = framed.sessions-stay g c b k now at-start (same-id k v) (same-age k v) (same-session k v) calls (g.ghost.kept ++ os) g.ghost.frozen shown (place shown) fresh (λ e f. quiet.has_none) inv.sessions;
            tokens = nodes.0;
            logs = nodes.1;
            images = nodes.2;
            events = events;
            stops = framed.stops-stay g c b k now at-start (same-id k v) (same-age k v) (same-session k v) calls (g.ghost.kept ++ os) g.ghost.frozen shown (place shown) fresh (inv.stops).open_sessions (λ t z. z) inv.stops;
          },
          alone.quiet-watches g c ws l cl a op no-op (shows-none k none cl g.durable.max_objects a op now.owed v refl suit gives) (with_start c b now g.clerks) calls (g.pool ++ []) (g.ghost.kept ++ os) kept-same (place shown) fresh,
          firsts,
          framed.starts-stay g c b k now at-start (same-id k v) (same-age k v) (same-session k v) calls (g.ghost.kept ++ os) g.ghost.frozen shown (place shown) fresh (subst (Each (λ j. g.first_boot j.clerk < j.boot)) (sym kept-same) starts.above) (λ t z. z) starts,
        ),
        framed.zeros-stay g c b k now at-start (same-id k v) (same-age k v) (same-session k v) calls (g.ghost.kept ++ os) g.ghost.frozen shown (place shown) fresh (subst (LeaveOut 0) (sym kept-same) zeros.kept) zeros.frozen
            (λ z. still-no-zero cl k z (λ x e. absurd (none_some (sym (holds-none k none 0) ∙ e))) v refl suit) zeros,
      )

  -- Where it isn't cut off, the history grows at its end.
  module _ (r : g.running c ≡ Some b) (uncut : IsUncut g c k) (line : MayFollow g.ghost.shown (Answered l c cl a op)) (settled : IsSettled g c b k l cl a op) where
    live : IsLive g c k
    live = record { uncut = uncut; sees_all = ap (cut_in g) out }

    sees : Sees g k
    sees = record {
      images = λ x h e. absurd (none_some (sym (holds-none k none x) ∙ e));
      free = λ x m. absurd (subst (λ z. T (member x z)) none.ids m);
      no_zero = (zeros.clerks c b k at-start).owed;
    }

    -- it touches nothing but what 0 stands for
    passes : (y : Op) → T (not (has_operand 0 y.update)) → T (not (list_any (λ z. member z (touched (based g (fresh_of k)) (kept (based g (fresh_of k)) g.ghost.history) (entry_next g c b l cl a op))) (operands y.update)))
    passes y f = none-such (λ z. member z (touched (based g (fresh_of k)) (kept (based g (fresh_of k)) g.ghost.history) (entry_next g c b l cl a op))) (operands y.update) (λ x m t. elim (cases_eq x (fresh_of k)) [
      | inl d ↦ no_both (has_operand 0 y.update) (subst (λ z. T (member z (operands y.update))) (d ∙ zero) m) f
      | inr d ↦ reads-none k none x (touched-held (based g (fresh_of k)) g.durable.max_objects g.ghost.history c (shown_boot g c b) (length g.ghost.shown + 1) cl k
          (is-at g (fresh_of k) inv.events c b k r at-start live sees) (fresh-here g (fresh_of k)) v a op now.owed refl gives x t d)
    ])
      where
        zero : fresh_of k ≡ 0
        zero = ap (λ z. Rattle.ec_coherence.specs.Answers.id_of (Rattle.ec_protocol.specs.Clerk.first_id z)) none.ids

    leaves-all : (d : ℕ) (test : Op → Bool) → T (leaves (based g (fresh_of k)) (kept (based g (fresh_of k)) g.ghost.history) d (filter test (kept (based g (fresh_of k)) g.ghost.history)) (entry_next g c b l cl a op))
    leaves-all d test =
        let t = touched (based g (fresh_of k)) (kept (based g (fresh_of k)) g.ghost.history) (entry_next g c b l cl a op) in
        let pass = λ (y : Op). not (list_any (λ z. member z t) (operands y.update)) in
        or-right (not (is_call_of_other d (entry_next g c b l cl a op).1)) _ (each-holds pass (filter test (kept (based g (fresh_of k)) g.ghost.history))
        (each-passing test (λ y. T (pass y)) (kept (based g (fresh_of k)) g.ghost.history) (subst (Each (λ y. test y ≡ true → T (pass y))) (sym (kept-now g (fresh_of k) inv.events)) (all g.ghost.kept zeros.kept))))
      where
        all : (ys : List Op) → LeaveOut 0 ys
            → Each (λ y. test y ≡ true → T (not (list_any (λ z. member z (touched (based g (fresh_of k)) (kept (based g (fresh_of k)) g.ghost.history) (entry_next g c b l cl a op))) (operands y.update)))) (map (shown_op g) ys)
        all [] h = tt
        all (y ∷ ys) h = ((λ e. passes y h.0), all ys h.1)

    pub without-answers : AllAgree h × ZerosAgree h
    without-answers = outside-all (answer-keeps-all g inv.events c b k r at-start live sees (answering now n a op) l cl a op (record {
      gives = gives;
      age = same-age k v;
      next = next-is g.durable.max_objects k a op now.owed v gives;
      line = line;
      settled = settled;
      leaves_others = λ s o w i e. leaves-all o.0 (is_one_of o.0 (shown_boot g o.0 (o.1).boot) (numbers (undurable g.ghost s)));
    }))
