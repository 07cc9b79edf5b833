-- An answer of a clerk that is cut off before it took its session, in a step under way.
use Rattle.std.proofs.Common.{◌≡◌, refl, sym, ap, subst, ◌∙◌, inl, inr, ◌+◌, ℕ, Bool, true, not, ◌&&◌, map, T, List, [], ◌∷◌, ◌++◌, length, Option, Some, None, append-nil, append_assoc}
use Rattle.std.specs.List.{filter, list_any}
use Rattle.std.proofs.lemmas.Bool.{cases_eq}
use Rattle.ec_volume.specs.Update.{has_operand, listed, member, operands}
use Rattle.ec_volume.specs.Volume.{Images, after}
use Rattle.ec_history.specs.History.{Base, Covers, Each, Op, is_one_of, kept, numbers, touched, updates}
use Rattle.ec_history.specs.Legal.{IsLegal, is_call_of_other, leaves}
use Rattle.ec_history.specs.Placing.{MayFollow}
use Rattle.ec_history.specs.declared.entry.Answer.{Answer}
use Rattle.ec_history.specs.declared.entry.Entry.{Entry}
use Rattle.ec_history.specs.declared.entry.Entry.TheVariants as entry
use Rattle.ec_history.specs.declared.shown.Shown.TheVariants.{Answered}
use Rattle.ec_history.proofs.OfLaws.ForPlacing.Inserted.{insertion}
use Rattle.ec_history.proofs.OfLaws.ForPlacing.Numbers.{each-front}
use Rattle.ec_cache.specs.OfResolve.Agreement.{Shows}
use Rattle.ec_cache.specs.declared.resolve.verdict.Verdict.{Verdict}
use Rattle.ec_protocol.specs.Clerk.{Doing, first_id, verdict}
use Rattle.ec_protocol.specs.declared.clerk.Clerk.{Clerk}
use Rattle.ec_protocol.specs.declared.clerk.Waiting.{Waiting}
use Rattle.ec_coherence.specs.System.{System, Ghost, at_session, is_of, seen_ops, undurable}
use Rattle.ec_coherence.specs.Sessions.{HasNone}
use Rattle.ec_coherence.specs.Steps.{doing_in}
use Rattle.ec_coherence.specs.Events.{CutAgrees, shown_boot, shown_op}
use Rattle.ec_coherence.specs.ChangeLaws.{with_clerk}
use Rattle.ec_coherence.proofs.ForBatches.ClerkIn.{start-same}
use Rattle.ec_coherence.proofs.ForServer.Tables.{same_some}
use Rattle.ec_coherence.specs.CommitLaws.{AllAgree}
use Rattle.ec_lawful.specs.OfClerkSteps.CallLaws.{Passes}
use Rattle.ec_lawful.specs.OfClerkSteps.Waits.{HasLine}
use Rattle.ec_lawful.proofs.OfClerkSteps.ForCalls.Follows.{follows}
use Rattle.ec_lawful.proofs.OfClerkSteps.ForCalls.Settled.{late-settled}
use Rattle.ec_lawful.specs.OfClerkSteps.Names.{NamesAgree}
use Rattle.ec_lawful.specs.OfClerkSteps.Cuts.{CutKnows, CutsAgree}
use Rattle.ec_lawful.proofs.OfClerkSteps.ForJoins.Going.{plain-keeps}
use Rattle.ec_lawful.proofs.OfClerkSteps.ForJoins.OutsideChanges.{outside-all}
use Rattle.ec_coherence.specs.Answers.{Gives, IsAt, based, fresh_of, op_given}
use Rattle.ec_coherence.specs.Comes.{begun_at, entry_next}
use Rattle.ec_coherence.proofs.ForCommits.Answering.{fresh-here, new_fresh, old_fresh}
use Rattle.ec_coherence.proofs.ForCommits.Judged.{shows-all}
use Rattle.ec_coherence.proofs.ForCommits.Rebased.{Alike, owed_from-same}
use Rattle.ec_coherence.proofs.ForCommits.Touching.{each-holds, each-passing, none-such, touched-held}
use Rattle.ec_lawful.specs.OfClerkSteps.Answering.{Suits, answered_clerk}
use Rattle.ec_lawful.specs.OfClerkSteps.Frees.{FreesAgree}
use Rattle.ec_lawful.specs.OfClerkSteps.Trying.{IsTrying, late_ghost}
use Rattle.ec_lawful.specs.OfClerkSteps.Zeros.{LeaveOut, ZerosAgree}
use Rattle.ec_lawful.proofs.OfClerkSteps.Alone.{shows-none}
use Rattle.ec_lawful.proofs.OfClerkSteps.NodesAnswered.{NodesAgree}
use Rattle.ec_lawful.proofs.OfClerkSteps.Framed as framed
use Rattle.ec_lawful.proofs.OfClerkSteps.Late.{IsLate, loss_in}
use Rattle.ec_lawful.proofs.OfClerkSteps.LateAll as whole
use Rattle.ec_lawful.proofs.OfClerkSteps.LateBase as base
use Rattle.ec_lawful.proofs.OfClerkSteps.LateBase.{frozen-same}
use Rattle.ec_lawful.proofs.OfClerkSteps.Later.{owed-same, suits-same, waiting-last}
use Rattle.ec_lawful.proofs.OfClerkSteps.Outer as outer
use Rattle.ec_lawful.proofs.OfClerkSteps.OutsideAnswers as outside
use Rattle.ec_lawful.proofs.OfClerkSteps.OutsideAnswers.{IsQuiet, holds-none, no-number, no-ops, quiet-now, reads-none}
use Rattle.ec_lawful.proofs.OfClerkSteps.Single as single
use Rattle.ec_lawful.proofs.OfClerkSteps.Single.{gives-same}
use Rattle.ec_lawful.proofs.OfClerkSteps.SameStores.{SameStore, frees-stay, names-stay}
use Rattle.ec_lawful.proofs.OfClerkSteps.Target as target
use Rattle.ec_lawful.proofs.OfClerkSteps.Turned.{same-age}
use Rattle.ec_base.proofs.Options.{none_some}
use Rattle.ec_base.proofs.Bools.{not-both as no_both, or-right}

each-any : {A : Type 0} (P : A → Type 0) (xs : List A) → ((x : A) → P x) → Each P xs
each-any P [] f = tt
each-any P (x ∷ xs) f = (f x, each-any P xs f)

module _ (g : System) (c b s : ℕ) (d : Doing) (γ : Ghost) (t : IsTrying g c b d γ) (out : d.clerk.session ≡ None) (own : γ.owner s ≡ Some (c, d.clerk.age)) (ks : List Op) (fz : γ.frozen s ≡ Some ks) (before rest : List Waiting) (w : Waiting) (split : d.clerk.waiting ≡ before ++ w ∷ rest)
    (a : Answer) (op : Option ℕ) (gives : Gives g.durable.max_objects (single.left g c b d γ t before rest w split) (single.v g c b d γ t before rest w split) a op (single.now g c b d γ t before rest w split).owed)
    (suit : Suits (single.v g c b d γ t before rest w split) (single.left g c b d γ t before rest w split)) (lines : Each (HasLine (doing_in c b d γ g) c) (before ++ rest)) (passes : Passes d.clerk w) where
  abbrev here : System
  here = single.here g c b d γ t before rest w split

  abbrev left : Clerk
  left = single.left g c b d γ t before rest w split

  abbrev now : Clerk
  now = single.now g c b d γ t before rest w split

  abbrev l : ℕ
  l = single.l g c b d γ t before rest w split

  abbrev k : Clerk
  k = d.clerk

  abbrev v : Verdict
  v = verdict w.call k

  all : AllAgree here
  all = single.all g c b d γ t before rest w split

  at-start : here.clerks c b ≡ Some k
  at-start = single.at-start g c b d γ t before rest w split

  running : here.running c ≡ Some b
  running = single.running g c b d γ t before rest w split

  abbrev most : ℕ
  most = g.durable.max_objects

  abbrev p : ℕ
  p = length γ.shown + 1

  abbrev os : List Op
  os = op_given c b p k v

  abbrev sb : ℕ
  sb = shown_boot here c b

  abbrev x0 : ℕ
  x0 = fresh_of k

  abbrev B : Base
  B = based here x0

  its-gives : Gives most k v a op (answered_clerk v k).owed
  its-gives = subst (Gives most k v a op) (owed-same k (before ++ rest) v) (gives-same most k (before ++ rest) v a op now.owed gives)

  its-suit : Suits v k
  its-suit = suits-same k (before ++ rest) v suit

  none : HasNone k
  none = ((all.0).sessions).without c b k at-start out

  abbrev alone : Clerk
  alone = answered_clerk v k

  quiet : IsQuiet k none out alone
  quiet = quiet-now k none out w.call v refl its-suit

  nothing : os ≡ []
  nothing = no-ops k none out w.call c b p v refl its-suit

  no-op : op ≡ None
  no-op = no-number k none out most w.call a op alone.owed v refl its-suit its-gives

  abbrev pub δ : Ghost
  δ = late_ghost s c ks l w.call a op (fresh_of k) os γ

  abbrev behind : System
  behind = single.behind g c b d γ t before rest w split a op gives suit lines δ

  same-saw : δ.frozen ≡ γ.frozen
  same-saw = ap (λ z. at_session s (Some (ks ++ z)) γ.frozen) nothing ∙ ap (λ z. at_session s (Some z) γ.frozen) (append-nil ks) ∙ frozen-same γ.frozen s ks fz

  line-follows : MayFollow γ.shown (Answered l c w.call a op)
  line-follows = follows here all t.calls c b w.no l w.call k running at-start (single.line g c b d γ t before rest w split) a op (λ n. shows-none k none w.call most a op alone.owed v refl its-suit its-gives)

  abbrev e : ℕ × Entry
  e = entry_next here c b l w.call a op

  abbrev cut : CutAgrees here c b s k ks
  cut = base.cut here all c b s k running at-start own ks fz l w.call a op its-gives line-follows

  -- What it lost, and that the answer covers nothing of it.

  cut-knows : CutKnows here c s k ks
  cut-knows = t.cuts c b s k ks running at-start own fz

  lost-is : cut.lost ≡ numbers (filter (λ o. is_of (γ.owner s) o && not (γ.is_durable o)) ks)
  lost-is = same_some (sym cut.untold ∙ cut-knows.untold)

  -- it holds nothing, and has no ids
  shows-any : (f : Images) → Shows k.cache (first_id k.ids) f
  shows-any f = shows-all k.cache f (λ x h q. absurd (none_some (sym (holds-none k none x) ∙ q))) (first_id k.ids) (λ x q. absurd (none_some (sym (ap first_id none.ids) ∙ q)))

  uncovered : Each (λ n. ¬ (Covers B cut.before e c sb n)) cut.lost
  uncovered =
      let q = ((all.0).sessions).owned s (c, k.age) own in
      late-settled here all.0 all.3 t.calls c b k w l (single.waits-at g c b d γ t before rest w split) s ks own (shows-any (after g.origin (updates ks))) (q.2).window (cut-knows.knows q.2 q.3) cut lost-is passes most a op alone.owed its-gives

  -- It may stand before the loss.

  abbrev front : Alike (old_fresh here x0) (new_fresh here x0) cut.before
  front = each-front (λ y. old_fresh here x0 y.0 ≡ new_fresh here x0 y.0) cut.before (loss_in here c b cut.at cut.lost ∷ cut.behind) (base.whole here all c b s k running at-start own ks fz l w.call a op its-gives line-follows)

  at-cut : IsAt B cut.before c sb k.cache k.owed (first_id k.ids)
  at-cut = record {
    shows = shows-any (after B.volume (updates (kept B cut.before)));
    owes = sym (owed_from-same g.origin (old_fresh here x0) (new_fresh here x0) c sb [] [] cut.before front) ∙ cut.owes;
    no_zero = ((t.zeros).clerks c b k at-start).owed;
  }

  -- it touches nothing but what 0 stands for
  misses : (y : Op) → T (not (has_operand 0 y.update)) → T (not (list_any (λ z. member z (touched B (kept B cut.before) e)) (operands y.update)))
  misses y f = none-such (λ z. member z (touched B (kept B cut.before) e)) (operands y.update) (λ x m h. elim (cases_eq x x0) [
    | inl q ↦ no_both (has_operand 0 y.update) (subst (λ z. T (member z (operands y.update))) (q ∙ zero) m) f
    | inr q ↦ reads-none k none x (touched-held B most cut.before c sb p w.call k at-cut (fresh-here here x0) v a op alone.owed refl its-gives x h q)
  ])
    where
      zero : x0 ≡ 0
      zero = ap (λ z. Rattle.ec_coherence.specs.Answers.id_of (first_id z)) none.ids

  leaves-all : (f : ℕ) (test : Op → Bool) → T (leaves B (kept B cut.before) f (filter test (kept B cut.before)) e)
  leaves-all f test =
      let pass = λ (y : Op). not (list_any (λ z. member z (touched B (kept B cut.before) e)) (operands y.update)) in
      or-right (not (is_call_of_other f e.1)) _ (each-holds pass (filter test (kept B cut.before)) (each-passing test (λ y. T (pass y)) (kept B cut.before)
      (subst (Each (λ y. test y ≡ true → T (pass y))) (sym (base.kept-before here all c b s k running at-start own ks fz l w.call a op its-gives line-follows)) (each ks ((t.zeros).frozen s ks fz)))))
    where
      each : (ys : List Op) → LeaveOut 0 ys → Each (λ y. test y ≡ true → T (not (list_any (λ z. member z (touched B (kept B cut.before) e)) (operands y.update)))) (map (shown_op here) ys)
      each [] h = tt
      each (y ∷ ys) h = ((λ q. misses y h.0), each ys h.1)

  legal : IsLegal B most (cut.before ++ e ∷ loss_in here c b cut.at (cut.lost ++ listed op) ∷ cut.behind)
  legal = subst (IsLegal B most) (append_assoc cut.before (e ∷ []) (loss_in here c b cut.at (cut.lost ++ listed op) ∷ cut.behind))
      (insertion B most c sb p l (begun_at here c b l) cut.at w.call a op cut.lost cut.before cut.behind (base.legal-whole here all c b s k running at-start own ks fz l w.call a op its-gives line-follows)
      (base.answered here all c b s k running at-start own ks fz l w.call a op its-gives line-follows uncovered lost-is at-cut).0 cut.alone uncovered
      (each-any (λ j. (m f n : ℕ) (ms : List ℕ) → j ≡ (m, entry.Loss f n ms) → T (leaves B (kept B cut.before) f (filter (is_one_of f n ms) (kept B cut.before)) e)) cut.behind (λ j m f n ms q. leaves-all f (is_one_of f n ms))))

  late : IsLate here c b k alone cut.before cut.at cut.lost cut.behind os l w.call a op
  late = base.late-by here all c b s k running at-start own ks fz l w.call a op its-gives line-follows uncovered lost-is at-cut legal (λ u o q z. leaves-all o.0 (is_one_of o.0 (shown_boot here o.0 (o.1).boot) (numbers (undurable γ u))))

  -- All facts.

  abbrev hh : System
  hh = whole.h here all t.zeros c b s k running at-start own ks fz w.no l w.call a op its-gives its-suit line-follows

  nodes : NodesAgree hh
  nodes = subst (λ z. NodesAgree (record hh { ghost = record δ { frozen = z } })) (sym same-saw) (subst (λ z. NodesAgree (record hh { ghost = record δ { kept = z; frozen = γ.frozen } })) (ap (λ z. γ.kept ++ z) nothing ∙ append-nil γ.kept)
      (outside.outside-nodes here (all.0) c b k alone at-start out quiet.outside quiet.same_log hh.calls δ.shown δ.history δ.fresh os nothing))

  both : AllAgree hh × ZerosAgree hh
  both = whole.late-all here all t.zeros c b s k running at-start own ks fz w.no l w.call a op its-gives its-suit line-follows (λ x q. absurd (none_some (sym (holds-none k none 0) ∙ q))) (λ q f. quiet.has_none) nodes late

  abbrev short : Clerk
  short = record alone { waiting = before ++ rest }

  last : short ≡ now
  last = waiting-last k (before ++ rest) v

  path : with_clerk hh c b short hh.calls [] ≡ behind
  path = target.plain-is g c b d γ w.no l w.call a op short δ (single.line g c b d γ t before rest w split) alone ∙ ap (λ z. target.target g c b d γ w.no l w.call a op z δ) last

  all-now : AllAgree behind
  all-now = subst AllAgree path (outside-all hh both.0 c b alone short (start-same c b alone here.clerks) quiet.outside (record { id = refl; age = refl; session = refl; owed = refl; next = refl }) refl refl refl refl hh.calls [] tt tt tt)

  zeros-now : ZerosAgree behind
  zeros-now = subst ZerosAgree path (framed.zeros-stay hh c b alone short (start-same c b alone here.clerks) refl refl refl hh.calls δ.kept δ.frozen δ.shown δ.history δ.fresh (both.1).kept (both.1).frozen (λ z. record { ids = z.ids; undurable = z.undurable; owed = z.owed }) both.1)

  store : SameStore here behind
  store = outer.outer-store g c b d γ t out before rest w split a op gives suit lines passes δ refl refl refl

  names-now : NamesAgree behind
  names-now = names-stay here behind store t.names (t.names).kept (λ u is q. (t.names).frozen u is (sym (ap (λ f. f u) same-saw) ∙ q))

  frees-now : FreesAgree behind
  frees-now = frees-stay here behind store t.frees (λ u x m q i f. subst (λ z. LeaveOut x (seen_ops (z u) γ.kept)) (sym same-saw) f)

  cuts-now : CutsAgree behind
  cuts-now = plain-keeps here behind c b k now l w.call a op (record {
    runs = running;
    stands = at-start;
    age = same-age left (verdict w.call left);
    slots = λ f. refl;
    running = refl;
    clerks = refl;
    owner = refl;
    is_durable = refl;
    shown = refl;
  }) same-saw (inr (no-op, ap (λ z. z.log) (sym last) ∙ quiet.same_log)) t.cuts

  pub outer-late : IsTrying g c b (single.next g c b d γ t before rest w split a op gives suit lines δ) δ
  outer-late = single.tries-on g c b d γ t before rest w split a op gives suit lines δ refl refl all-now zeros-now frees-now names-now cuts-now
