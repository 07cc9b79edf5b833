-- One more entry, judged and carried.
use Rattle.std.proofs.Common.{◌≡◌, refl, sym, ap, subst, ◌∙◌, arith, ◌<◌, ◌≤◌, ◌+◌, ℕ, zero, suc, T, Bool, true, false, not, ◌==◌, ◌&&◌, ◌||◌, cond, map, List, [], ◌∷◌, ◌++◌, length, get_or, Option, Some, None}
use Rattle.std.specs.Prelude.{MatchBool, is_some}
use Rattle.std.specs.Ordering.{nat_cmp}
use Rattle.std.specs.FinMap.{is_sorted}
use Rattle.std.specs.List.{filter, list_all, list_any, find, position_or_len}
use Rattle.std.proofs.Math.ListN.{set}
use Rattle.std.proofs.lemmas.Bool.{true≢false, and_parts, eqb-true}
use Rattle.std.proofs.lemmas.Bool.Decides.{nat_tests}
use Rattle.ec_volume.specs.Image.{is_gone}
use Rattle.ec_volume.specs.Update.{operands, has_operand, member, fits}
use Rattle.ec_volume.specs.Volume.{Images, images, after, Fits, WellFormed, formatted}
use Rattle.ec_volume.specs.declared.update.Update.{Update}
use Rattle.ec_pending.specs.OfOverlay.Shown.{shown}
use Rattle.ec_plain.specs.Plain.{plain}
use Rattle.ec_plain.specs.BoundedCalls.{is_bounded}
use Rattle.ec_plain.specs.declared.call.Call.{Call}
use Rattle.ec_plain.specs.declared.call.Outcome.{Outcome}
use Rattle.ec_order.specs.Order.{Issued, InClosure, ask, need, closure}
use Rattle.ec_history.specs.History.{Base, History, Op, Owed, Each, Covers, updates, same_start, of_start, of_issue, is_one_of, outcome, kept, issued, issued_by, without, owed, meets, due, asks, pairs_of}
use Rattle.ec_history.specs.Legal.{IsNext, IsReported, IsFull, IsReply, IsCall, IsLawful, IsLegal, leaves, is_op_of, is_closed, from_formatted}
use Rattle.ec_history.specs.declared.entry.Answer.{Answer}
use Rattle.ec_history.specs.declared.entry.Entry.{Entry}
use Rattle.ec_history.specs.declared.entry.Entry.TheVariants as entry
use Rattle.ec_history.specs.declared.rule.Rule.{Rule}
use Rattle.ec_history.specs.declared.rule.Rule.TheVariants as rule
use Rattle.ec_history.proofs.OfLaws.ForFormed.Laws.{call-sound, call-fits}
use Rattle.ec_history.proofs.OfLaws.ForPlacing.More.{kept-step, count-next}
use Rattle.ec_history.proofs.OfLaws.ForPlacing.Numbers.{count, IsUpTo, issued-up_to, kept-up_to, each-append}
use Rattle.ec_judge.specs.declared.carried.Kept.{Kept}
use Rattle.ec_judge.specs.declared.carried.Issuer.{Issuer}
use Rattle.ec_judge.specs.declared.carried.Start.{Start}
use Rattle.ec_judge.specs.declared.carried.Touches.{Touches}
use Rattle.ec_judge.specs.declared.carried.Judge.{Judge}
use Rattle.ec_judge.proofs.Touched.{any-since, below-next, none-since}
use Rattle.ec_judge.specs.Faults.{BreaksCall, BreaksLoss, AreKept, AreClosed, LeaveFitting}
use Rattle.ec_pending.specs.declared.issue.Issue.{Issue}
use Rattle.ec_pending.specs.declared.asked.Asked.{Asked}
use Rattle.ec_pending.specs.OfOwes.Rules.{IsNumbered, KeepsRules, BreaksRule, due_of}
use Rattle.ec_judge.specs.Asks.{asked_on, asked_by_call}
use Rattle.ec_judge.specs.Carried as Carried
use Rattle.ec_judge.specs.Carried.{op_of, ops_of, issue_of, issues_in, is_among, is_start, count_of, owed_of, pending_of, is_covered, IsUpward, IsStart, IsFlagged, IsUncovered, IsUntouched, IsFirm, AreLaid, Carries, Known, touches_in, touched_next, is_touched, AreBelow, count_next, keeps_of, IsFitting, are_kept, are_uncovered, are_closed, BreaksMarks, KeepsMarks}
use Rattle.ec_pending.specs.Pending.{numbers_in, is_in, is_asked, picked_out, rest, numbered, issues_of}
use Rattle.ec_history.proofs.OfLaws.Issues.{issue-sorted}
use Rattle.ec_judge.proofs.Numbers.{each-kept, only, unlost, kept-only, kept-unlost, new-uncovered, new-untouched}
use Rattle.ec_judge.proofs.Flags.{flag-step, through-more, through-front, through-last, touched-one, covered-one}
use Rattle.ec_judge.proofs.Asked.{asks-same, asked-same, issue-same}
use Rattle.ec_judge.proofs.Pending.{Rising, rising-from, pending-own, upward-own, pending-next, taken-closure, in-append}
use Rattle.std.specs.Prelude.{Result, Ok, Err, IfOk, OnOk}
use Rattle.std.proofs.lemmas.List.Sums.{passes_at_first}
use Rattle.ec_judge.proofs.AllStarts.{found-at, start-same, own-issued, lost-issued, pending-set, own-count, own-met, own-lost, starts-next}
use Rattle.ec_judge.proofs.Volumes.{first-fits}
use Rattle.ec_judge.proofs.Prefixes.{firm-more}
use Rattle.ec_judge.proofs.Lost.{kept-same, uncovered-yes, uncovered-no, untouched-yes, untouched-no}
use Rattle.ec_base.proofs.Bools.{first as left, or-none, on as holds, is-true}
use Rattle.ec_judge.proofs.Restored.{ops-append}
use Rattle.ec_history.proofs.HistoryLemmas.{updates-append}
use Rattle.ec_volume.proofs.VolumeLemmas.{all-same}
use Rattle.ec_volume.proofs.Fitting.{image_joined as after-append}

abbrev F : Base
F = from_formatted

-- Outcomes.

pub out-same : (past : History) (p : ℕ) (cl : Call) (v : Images) (f : ℕ) (out : Outcome) → ((o : ℕ) → v o ≡ after F.volume (updates (kept F past)) o) → f ≡ p + 1 → out ≡ plain v cl f → out ≡ outcome F (kept F past) p cl
out-same past p cl v f out h n e =
    let at : f ≡ 1 + p = omega (arith, n) in
    e ∙ ap (λ w. plain w cl f) (all-same v (after F.volume (updates (kept F past))) h) ∙ ap (plain (after F.volume (updates (kept F past))) cl) at

pub out-fits : (v : Images) (cl : Call) (f p : ℕ) (out : Outcome) → f ≡ p + 1 → out ≡ plain v cl f → WellFormed v → T (is_gone (v (1 + p))) → T (is_bounded cl) → IsFitting out.update v
out-fits v cl f p out n e formed gone bounded =
    let at : 1 + p ≡ f = omega (arith, n) in
    go out.update (subst (λ k. T (is_gone (v k))) at gone) (ap (λ o. o.update) (sym e))
  where
    go : (x : Option Update) → T (is_gone (v f)) → (plain v cl f).update ≡ x → IsFitting x v
    go None g q = tt
    go (Some u) g q = (call-sound v cl f u formed g bounded q, first-fits v u (λ o. left (not (has_operand o u) || fits u o (v o)) true (call-fits v cl f u formed g q o)))

-- The rules of a call.

module _ (most : ℕ) (past : History) (p c b : ℕ) (cl : Call) (a : Answer) where
  to-next : (op : Option ℕ) → IsNumbered (length (filter (is_op_of c b) past)) op → IsNext c b past op
  to-next None n = tt
  to-next (Some m) n = n

  from-next : (op : Option ℕ) → IsNext c b past op → IsNumbered (length (filter (is_op_of c b) past)) op
  from-next None n = tt
  from-next (Some m) n = n

  module _ (op : Option ℕ) where
    breaks : (r : Rule) → BreaksRule (length (filter (is_op_of c b) past)) (due F past c b p cl) most (outcome F (kept F past) p cl) a op r → BreaksCall F most past c b p cl a op r
    breaks rule.Number k = λ n. k (from-next op n)
    breaks rule.Report k = (to-next op k.0, k.1)
    breaks rule.Room k = (to-next op k.0, k.1, k.2)
    breaks rule.Reply k = (to-next op k.0, k.1, k.2, k.3)
    breaks rule.Shape k = k
    breaks rule.Named k = k
    breaks rule.Covered k = k
    breaks rule.Touched k = k
    breaks rule.Closed k = k
    breaks rule.Fits k = k

    module _ (n : ℕ) (qs : Owed) (out : Outcome) (count-is : n ≡ length (filter (is_op_of c b) past)) (owed-is : qs ≡ owed F past c b) (out-is : out ≡ outcome F (kept F past) p cl) where
      dues-is : due_of qs out cl ≡ due F past c b p cl
      dues-is = ap (λ q. due_of q out cl) owed-is ∙ ap (λ o. due_of (owed F past c b) o cl) out-is

      pub call-broken : (r : Rule) → BreaksRule n (due_of qs out cl) most out a op r → BreaksCall F most past c b p cl a op r
      call-broken r k =
          breaks r (subst (λ o. BreaksRule (length (filter (is_op_of c b) past)) (due F past c b p cl) most o a op r) out-is
          (subst (λ d. BreaksRule (length (filter (is_op_of c b) past)) d most out a op r) dues-is (subst (λ m. BreaksRule m (due_of qs out cl) most out a op r) count-is k)))

      pub call-legal : KeepsRules n (due_of qs out cl) most out a op → IsCall F most past c b p cl a op
      call-legal k = record {
        number = to-next op (subst (λ m. IsNumbered m op) count-is k.number);
        report = subst (λ d. IsReported d a) dues-is k.report;
        room = subst (λ o. IsFull most o a) out-is k.room;
        reply = subst (λ o. IsReply o a op) out-is k.reply;
      }

-- What a call adds.

keeps-issued : (ks : List Op) (by : Issuer) (l g : ℕ) (cl : Call) (a : Answer) (op : Option ℕ) (out : Outcome) → out ≡ outcome F ks by.place cl → ops_of (keeps_of by op out.update) ≡ issued_by F ks (by.place, entry.Call by.clerk by.boot l g cl a op)
keeps-issued ks by l g cl a None out e = refl
keeps-issued ks by l g cl a (Some n) out e = ap (λ o. ops_of (keeps_of by (Some n) o.update)) e ∙ go ((outcome F ks by.place cl).update)
  where
    go : (u : Option Update) → ops_of (keeps_of by (Some n) u) ≡ elim u [ None ↦ [] | Some w ↦ record { clerk = by.clerk; boot = by.boot; number = n; place = by.place; update = w } ∷ [] ]
    go None = refl
    go (Some w) = refl

-- turns and numbers of one entry more

turns-more : (n : ℕ) (ks : List Kept) → Each (λ k. k.turn < n) ks → Each (λ k. k.turn < n + 1) ks
turns-more n [] h = tt
turns-more n (k ∷ ks) h = (omega (arith, h.0), turns-more n ks h.1)

turns-new : (n : ℕ) (by : Issuer) (op : Option ℕ) (u : Option Update) → by.turn ≡ n → Each (λ k. k.turn < n + 1) (keeps_of by op u)
turns-new n by None u e = tt
turns-new n by (Some m) None e = tt
turns-new n by (Some m) (Some w) e = (omega (arith, e), tt)

below-more : (n : ℕ) (x : Option Touches) → AreBelow n x → AreBelow (n + 1) x
below-more n None h = tt
below-more n (Some x) h = (omega (arith, h.0), omega (arith, h.1))

length-more : (past : History) (e : ℕ × Entry) → length past + 1 ≡ length (past ++ e ∷ [])
length-more [] e = refl
length-more (x ∷ past) e =
    let more = length-more past e in
    omega (arith, more)

-- the new operation's number is above the others'

far-new : (c b p n : ℕ) (past : History) (op : Option ℕ) (u : Option Update) → IsNext c b past op → n ≤ count c b past → is_in (issues_of p op u) n ≡ false
far-new c b p n past None u k l = refl
far-new c b p n past (Some m) None k l = refl
far-new c b p n past (Some m) (Some w) k l = ap (λ x. x || false) (apart (omega (arith, k, l)))
  where
    apart : n < m → (n == m) ≡ false
    apart l = grind (arith, nat_tests, l)

own-new : (p : ℕ) (op : Option ℕ) (u : Option Update) → Each (λ i. is_in (issues_of p op u) i.number ≡ true) (issues_of p op u)
own-new p None u = tt
own-new p (Some m) None = tt
own-new p (Some m) (Some w) = (ap (λ x. x || false) (same m), tt)
  where
    same : (m : ℕ) → (m == m) ≡ true
    same m = grind (arith, nat_tests)

far-issues : (c b p : ℕ) (past : History) (op : Option ℕ) (u : Option Update) (ks : List Op) → IsNext c b past op → Each (IsUpTo c b (count c b past)) ks → Each (λ i. is_in (issues_of p op u) i.number ≡ false) (issues_in c b ks)
far-issues c b p past op u [] k h = tt
far-issues c b p past op u (j ∷ ks) k h = go (of_start c b j) refl (far-issues c b p past op u ks k h.1)
  where
    go : (x : Bool) → of_start c b j ≡ x → Each (λ i. is_in (issues_of p op u) i.number ≡ false) (issues_in c b ks) → Each (λ i. is_in (issues_of p op u) i.number ≡ false) (map issue_of (cond x (j ∷ filter (of_start c b) ks) (filter (of_start c b) ks)))
    go true e r = (far-new c b p j.number past op u k (h.0 e), r)
    go false e r = r

each-ops : (Q : Op → Type 0) (ks : List Kept) → Each Q (ops_of ks) → Each (λ k. Q (op_of k)) ks
each-ops Q [] h = tt
each-ops Q (k ∷ ks) h = (h.0, each-ops Q ks h.1)

-- One more call.
module _ (most : ℕ) (past : History) (by : Issuer) (l g : ℕ) (cl : Call) (a : Answer) (op : Option ℕ) (j : Judge) (h : Carries F past j) (legal : IsLegal F most past) where
  abbrev e : ℕ × Entry
  e = (by.place, entry.Call by.clerk by.boot l g cl a op)

  abbrev out : Outcome
  out = outcome F (kept F past) by.place cl

  -- the start's operations, those that were pending, and what the call asks
  abbrev all : List Issue
  all = issues_in by.clerk by.boot (issued F past)

  abbrev was : List Issue
  was = pending_of (find (is_start by.clerk by.boot) j.starts)

  abbrev wants : Issue → Bool
  wants = is_asked (asked_on (after F.volume (updates (kept F past))) g cl a)

  abbrev new : List Issue
  new = issues_of by.place op out.update

  rise : Rising all
  rise = rising-from all (subst (λ xs. T (is_sorted nat_cmp xs)) (issue-same by.clerk by.boot (issued F past)) (issue-sorted F most by.clerk by.boot past legal))

  taken-is : numbers_in (picked_out wants all) ≡ map (λ x. x.0) (closure (λ n. member n (asks F past e)) (of_issue by.clerk by.boot (issued F past)))
  taken-is =
      taken-closure wants all rise
      ∙ ap (λ ms. map (λ x. x.0) (closure (λ n. member n ms) (numbered all))) (sym (asks-same by.clerk by.boot F past by.place l g cl a op))
      ∙ ap (λ xs. map (λ x. x.0) (closure (λ n. member n (asks F past e)) xs)) (sym (issue-same by.clerk by.boot (issued F past)))

  far-all : IsNext by.clerk by.boot past op → Each (λ i. is_in new i.number ≡ false) all
  far-all n = far-issues by.clerk by.boot by.place past op out.update (issued F past) n (issued-up_to F most by.clerk by.boot past legal)

  -- the flags of an operation, by what is now pending and known of each object
  module _ (next : IsNext by.clerk by.boot past op) (ss : List Start)
      (pending-are : (c b : ℕ) → pending_of (find (is_start c b) ss) ≡ cond (same_start by.clerk by.boot c b) (rest wants was ++ new) (pending_of (find (is_start c b) j.starts)))
      (ts : Known) (ts-is : (o : ℕ) → ts o ≡ cond (member o out.touched) (Some (touched_next by.clerk by.turn (touches_in j.touches o))) (touches_in j.touches o)) where
    covered-next : (k : Kept) → IsUpTo by.clerk by.boot (count by.clerk by.boot past) (op_of k) → is_covered ss k ≡ (is_covered j.starts k || is_one_of by.clerk by.boot (numbers_in (picked_out wants all)) (op_of k))
    covered-next k up = ap (λ l. not (is_in l k.number)) (pending-are k.clerk k.boot) ∙ go (of_start by.clerk by.boot (op_of k)) refl
      where
        mix : (x y : Bool) → not (x && not y) ≡ (not x || (true && y))
        mix true true = refl
        mix true false = refl
        mix false y = refl

        go : (x : Bool) → of_start by.clerk by.boot (op_of k) ≡ x
            → not (is_in (cond (of_start by.clerk by.boot (op_of k)) (rest wants was ++ new) (pending_of (find (is_start k.clerk k.boot) j.starts))) k.number) ≡ (not (is_in (pending_of (find (is_start k.clerk k.boot) j.starts)) k.number) || (of_start by.clerk by.boot (op_of k) && is_in (picked_out wants all) k.number))
        go true e =
            let parts = and_parts (by.clerk == k.clerk) (by.boot == k.boot) e in
            let own : was ≡ pending_of (find (is_start k.clerk k.boot) j.starts) = ap (λ x. pending_of (find (is_start x by.boot) j.starts)) (eqb-true by.clerk k.clerk parts.0) ∙ ap (λ x. pending_of (find (is_start k.clerk x) j.starts)) (eqb-true by.boot k.boot parts.1) in
            ap (λ x. not (is_in (cond x (rest wants was ++ new) (pending_of (find (is_start k.clerk k.boot) j.starts))) k.number)) e
            ∙ ap not (pending-next wants was all ((h.starts by.clerk by.boot).pending) ((h.starts by.clerk by.boot).upward) rise new (far-all next) (own-new by.place op out.update) k.number (far-new by.clerk by.boot by.place k.number past op out.update next (up e)))
            ∙ mix (is_in was k.number) (is_in (picked_out wants all) k.number)
            ∙ ap (λ l. not (is_in l k.number) || (true && is_in (picked_out wants all) k.number)) own
            ∙ sym (ap (λ x. not (is_in (pending_of (find (is_start k.clerk k.boot) j.starts)) k.number) || (x && is_in (picked_out wants all) k.number)) e)
        go false e =
            ap (λ x. not (is_in (cond x (rest wants was ++ new) (pending_of (find (is_start k.clerk k.boot) j.starts))) k.number)) e
            ∙ or-none (not (is_in (pending_of (find (is_start k.clerk k.boot) j.starts)) k.number))
            ∙ sym (ap (λ x. not (is_in (pending_of (find (is_start k.clerk k.boot) j.starts)) k.number) || (x && is_in (picked_out wants all) k.number)) e)

    flag-next : (k : Kept) → IsFlagged F past j.starts (touches_in j.touches) k → k.turn < by.turn → only (kept F past) (op_of k) → unlost F most past (op_of k) → IsUpTo by.clerk by.boot (count by.clerk by.boot past) (op_of k)
        → IsFlagged F (past ++ e ∷ []) ss ts k
    flag-next k f late o u up = record {
      covered = subst (λ x. MatchBool x (¬ (IsUncovered F (past ++ e ∷ []) (op_of k))) (IsUncovered F (past ++ e ∷ []) (op_of k))) (sym (covered-next k up))
          (flag-step (IsUncovered F past (op_of k)) (¬ (Covers F past e k.clerk k.boot k.number)) (IsUncovered F (past ++ e ∷ []) (op_of k)) (is_covered j.starts k) (is_one_of by.clerk by.boot (numbers_in (picked_out wants all)) (op_of k)) f.covered
          (covered-one F past by.place by.clerk by.boot l g cl a op (numbers_in (picked_out wants all)) (op_of k) (issue-sorted F most by.clerk by.boot past legal) taken-is u)
          (λ v w. through-more _ past e v w) (λ w. through-front _ past e w) (λ w. through-last _ past e w));
      touched = subst (λ x. MatchBool x (¬ (IsUntouched F (past ++ e ∷ []) (op_of k))) (IsUntouched F (past ++ e ∷ []) (op_of k))) (sym (any-since by.clerk by.turn out.touched (touches_in j.touches) ts ts-is k.clerk k.turn (operands k.update) late))
          (flag-step (IsUntouched F past (op_of k)) (T (leaves F (kept F past) k.clerk (filter (is_one_of k.clerk k.boot (k.number ∷ [])) (kept F past)) e)) (IsUntouched F (past ++ e ∷ []) (op_of k)) (is_touched (touches_in j.touches) k)
          (not (k.clerk == by.clerk) && list_any (λ o. member o out.touched) (operands k.update)) f.touched
          (touched-one F past by.place by.clerk by.boot l g cl a op (op_of k) o)
          (λ v w. through-more _ past e v w) (λ w. through-front _ past e w) (λ w. through-last _ past e w));
    }

    flags-next : (ks : List Kept) → Each (IsFlagged F past j.starts (touches_in j.touches)) ks → Each (λ k. k.turn < by.turn) ks → Each (λ k. only (kept F past) (op_of k)) ks → Each (λ k. unlost F most past (op_of k)) ks → Each (λ k. IsUpTo by.clerk by.boot (count by.clerk by.boot past) (op_of k)) ks
        → Each (IsFlagged F (past ++ e ∷ []) ss ts) ks
    flags-next [] f late o u up = tt
    flags-next (k ∷ ks) f late o u up = (flag-next k f.0 late.0 o.0 u.0 up.0, flags-next ks f.1 late.1 o.1 u.1 up.1)

    same-self : (n : ℕ) → (n == n) ≡ true
    same-self n = grind (arith, nat_tests)

    new-covered : (m : ℕ) → is_in new m ≡ true → not (is_in (pending_of (find (is_start by.clerk by.boot) ss)) m) ≡ false
    new-covered m e =
        ap (λ l. not (is_in l m)) (pending-are by.clerk by.boot ∙ ap (λ x. cond (x && (by.boot == by.boot)) (rest wants was ++ new) (pending_of (find (is_start by.clerk by.boot) j.starts))) (same-self by.clerk) ∙ ap (λ x. cond x (rest wants was ++ new) (pending_of (find (is_start by.clerk by.boot) j.starts))) (same-self by.boot))
        ∙ ap not (in-append (rest wants was) new m ∙ ap (λ z. is_in (rest wants was) m || z) e ∙ sure (is_in (rest wants was) m))
      where
        sure : (x : Bool) → (x || true) ≡ true
        sure true = refl
        sure false = refl

    new-flags : (x : Option ℕ) (w : Option Update) → issues_of by.place x w ≡ new → by.turn ≡ length past → IsNext by.clerk by.boot past x → Each (IsFlagged F (past ++ e ∷ []) ss ts) (keeps_of by x w)
    new-flags None w is turn n = tt
    new-flags (Some m) None is turn n = tt
    new-flags (Some m) (Some w) is turn n =
        let k : Op = record { clerk = by.clerk; boot = by.boot; number = m; place = by.place; update = w } in
        let above : count by.clerk by.boot past < m = omega (arith, n) in
        let there : is_in new m ≡ true = ap (λ l. is_in l m) (sym is) ∙ ap (λ x. x || false) (same-self m) in
        let below : (o : ℕ) → AreBelow (by.turn + 1) (ts o) = λ o. below-next by.clerk by.turn out.touched (touches_in j.touches) ts ts-is by.turn o refl (subst (λ z. AreBelow z (touches_in j.touches o)) (sym turn) (h.touches o)) in (
          record {
            covered = subst (λ x. MatchBool x (¬ (IsUncovered F (past ++ e ∷ []) k)) (IsUncovered F (past ++ e ∷ []) k)) (sym (new-covered m there)) (new-uncovered F most past e k legal above);
            touched = subst (λ x. MatchBool x (¬ (IsUntouched F (past ++ e ∷ []) k)) (IsUntouched F (past ++ e ∷ []) k)) (sym (none-since by.clerk by.turn ts (operands w) below)) (new-untouched F most past e k legal above);
          },
          tt,
        )

  count-is : (x : Option ℕ) (n : ℕ) → n ≡ length (filter (is_op_of by.clerk by.boot) past) → IsNext by.clerk by.boot past x → count_next n x ≡ cond (is_some x) (length (filter (is_op_of by.clerk by.boot) past) + 1) (length (filter (is_op_of by.clerk by.boot) past))
  count-is None n q k = q
  count-is (Some m) n q k = k

  -- the start's state, its new one, and the starts with it
  pub call-carried : (j' : Judge) (ss : List Start) (at : ℕ) (s s' : Start) (w : Asked) (o : Outcome)
      → by.turn ≡ length past → o ≡ out → IsCall F most past by.clerk by.boot by.place cl a op
      → ((c b : ℕ) → IsStart F past c b (find (is_start c b) ss)) → at ≡ position_or_len (is_start by.clerk by.boot) ss → at < length ss → IsStart F past by.clerk by.boot (Some s)
      → ((c b : ℕ) → pending_of (find (is_start c b) ss) ≡ pending_of (find (is_start c b) j.starts)) → find (is_start by.clerk by.boot) ss ≡ Some s → w ≡ asked_by_call o.touched g cl a
      → s'.clerk ≡ by.clerk → s'.boot ≡ by.boot → s'.pending.0 ≡ count_next s.pending.0 op → s'.owed ≡ filter (λ q. not (meets o cl q)) s.owed → s'.pending.1 ≡ rest (is_asked w) s.pending.1 ++ issues_of by.place op o.update
      → j'.starts ≡ set ss at s' → j'.kept.items ≡ j.kept.items ++ keeps_of by op o.update
      → ((x : ℕ) → touches_in j'.touches x ≡ cond (member x o.touched) (Some (touched_next by.clerk by.turn (touches_in j.touches x))) (touches_in j.touches x))
      → ((x : ℕ) → shown j'.firm.volume x ≡ after (shown j.firm.volume) (updates (ops_of (keeps_of by op o.update))) x) → j'.firm.count ≡ j.firm.count → j'.firm.volume.under ≡ j.firm.volume.under → AreLaid j'.kept.items j'.firm.count j'.firm.volume
      → Carries F (past ++ e ∷ []) j'
  call-carried j' ss at s s' w o turn same legal-call starts at-is within own pending-same found w-is sc sb count-of owed-of pending-is starts-are kept-are touches-are volume-is count-same under-same laid =
      let seen : (x : ℕ) → touches_in j'.touches x ≡ cond (member x out.touched) (Some (touched_next by.clerk by.turn (touches_in j.touches x))) (touches_in j.touches x) =
      λ x. touches-are x ∙ ap (λ z. cond (member x z.touched) (Some (touched_next by.clerk by.turn (touches_in j.touches x))) (touches_in j.touches x)) same in
      let step : kept F (past ++ e ∷ []) ≡ kept F past ++ issued_by F (kept F past) e = kept-step F past e in
      let news : ops_of (keeps_of by op o.update) ≡ issued_by F (kept F past) e = keeps-issued (kept F past) by l g cl a op o same in
      let before : s.pending.1 ≡ was = ap (λ x. pending_of x) (sym found) ∙ pending-same by.clerk by.boot in
      let asks-are : w ≡ asked_on (after F.volume (updates (kept F past))) g cl a = w-is ∙ ap (λ z. asked_by_call z.touched g cl a) same ∙ asked-same (after F.volume (updates (kept F past))) (F.fresh by.place) out g cl a op refl legal-call.reply in
      let pending : s'.pending.1 ≡ rest wants was ++ new =
      pending-is ∙ ap (λ z. rest (is_asked z) s.pending.1 ++ issues_of by.place op o.update) asks-are ∙ ap (λ is. rest wants is ++ issues_of by.place op o.update) before ∙ ap (λ z. rest wants was ++ issues_of by.place op z.update) same in
      let mine : IsStart F past by.clerk by.boot (find (is_start by.clerk by.boot) j.starts) = h.starts by.clerk by.boot in
      let whole : issues_in by.clerk by.boot (issued F (past ++ e ∷ [])) ≡ all ++ new = own-issued F past by.place by.clerk by.boot l g cl a op out refl in
      let pending-are : (c b : ℕ) → Carried.pending_of (find (is_start c b) j'.starts) ≡ cond (same_start by.clerk by.boot c b) (rest wants was ++ new) (Carried.pending_of (find (is_start c b) j.starts)) =
      λ c b. ap (λ ts. Carried.pending_of (find (is_start c b) ts)) starts-are ∙ pending-set by.clerk by.boot ss at s' at-is within sc sb c b
      ∙ ap (λ is. cond (same_start by.clerk by.boot c b) is (Carried.pending_of (find (is_start c b) ss))) pending ∙ ap (λ is. cond (same_start by.clerk by.boot c b) (rest wants was ++ new) is) (pending-same c b) in
      record {
        volume = λ x.
            volume-is x
            ∙ ap (λ v. after v (updates (ops_of (keeps_of by op o.update))) x) (all-same (shown j.firm.volume) (after F.volume (updates (kept F past))) h.volume)
            ∙ sym (after-append x (F.volume x) (updates (kept F past)) (updates (ops_of (keeps_of by op o.update))))
            ∙ ap (λ us. after F.volume us x) (ap (λ ks. updates (kept F past) ++ updates ks) news ∙ sym (updates-append (kept F past) (issued_by F (kept F past) e)) ∙ ap updates (sym step));
        kept =
            ap ops_of kept-are
            ∙ ops-append j.kept.items (keeps_of by op o.update)
            ∙ ap (λ ks. ks ++ ops_of (keeps_of by op o.update)) h.kept
            ∙ ap (λ ks. kept F past ++ ks) news
            ∙ sym step;
        starts = λ c b. subst (λ ts. IsStart F (past ++ e ∷ []) c b (find (is_start c b) ts)) (sym starts-are) (starts-next F past e ss at s' starts at-is within sc sb (record {
          count = count-of ∙ count-is op s.pending.0 own.count legal-call.number ∙ sym (own-count past by.place by.clerk by.boot l g cl a op);
          owed = owed-of ∙ ap (λ x. filter (λ q. not (meets x cl q)) s.owed) same ∙ ap (filter (λ q. not (meets out cl q))) own.owed ∙ own-met F past by.place by.clerk by.boot l g cl a op;
          pending = subst (λ is. is ≡ filter (λ i. is_in is i.number) (issues_in by.clerk by.boot (issued F (past ++ e ∷ [])))) (sym pending) (pending-own wants was all mine.pending mine.upward rise new (far-all legal-call.number) (own-new by.place op out.update) ∙ ap (filter (λ i. is_in (rest wants was ++ new) i.number)) (sym whole));
          upward = subst (λ is. IsUpward (is_in is) (issues_in by.clerk by.boot (issued F (past ++ e ∷ [])))) (sym pending) (subst (IsUpward (is_in (rest wants was ++ new))) (sym whole) (upward-own wants was all mine.pending mine.upward rise new (far-all legal-call.number) (own-new by.place op out.update)));
        }) c b);
        flags = subst (Each (IsFlagged F (past ++ e ∷ []) j'.starts (touches_in j'.touches))) (sym kept-are) (each-append (IsFlagged F (past ++ e ∷ []) j'.starts (touches_in j'.touches)) j.kept.items (keeps_of by op o.update)
            (flags-next legal-call.number j'.starts pending-are (touches_in j'.touches) seen j.kept.items h.flags (subst (λ n. Each (λ k. k.turn < n) j.kept.items) (sym turn) h.turns) (each-ops (only (kept F past)) j.kept.items (subst (Each (only (kept F past))) (sym h.kept) (kept-only F most past legal)))
            (each-ops (unlost F most past) j.kept.items (subst (Each (unlost F most past)) (sym h.kept) (kept-unlost F most past legal)))
            (each-ops (IsUpTo by.clerk by.boot (count by.clerk by.boot past)) j.kept.items (subst (Each (IsUpTo by.clerk by.boot (count by.clerk by.boot past))) (sym h.kept) (kept-up_to F most by.clerk by.boot past legal))))
            (new-flags legal-call.number j'.starts pending-are (touches_in j'.touches) seen op o.update (ap (λ z. issues_of by.place op z.update) same) turn legal-call.number));
        turns = subst (λ n. Each (λ k. k.turn < n) j'.kept.items) (length-more past e) (subst (Each (λ k. k.turn < length past + 1)) (sym kept-are) (each-append (λ k. k.turn < length past + 1) j.kept.items (keeps_of by op o.update)
            (turns-more (length past) j.kept.items h.turns) (turns-new (length past) by op o.update turn)));
        touches = λ x. subst (λ n. AreBelow n (touches_in j'.touches x)) (length-more past e) (below-next by.clerk by.turn out.touched (touches_in j.touches) (touches_in j'.touches) seen (length past) x turn (h.touches x));
        firm = subst (λ n. IsFirm j'.kept.items n (images j'.firm.volume.under)) (sym count-same) (subst (λ u. IsFirm j'.kept.items j.firm.count (images u)) (sym under-same)
            (subst (λ ks. IsFirm ks j.firm.count (images j.firm.volume.under)) (sym kept-are) (firm-more j.kept.items (keeps_of by op o.update) j.firm.count (images j.firm.volume.under) h.firm)));
        laid = laid;
      }

-- The rules of a loss.

pub none-closed : (is : Issued) (n : ℕ) → InClosure is (λ m. member m []) n → ⊥
none-closed is n (ask m u k t) = t
none-closed is n (need m k a b x y z t r) = none-closed is k r

loss-covers : (past : History) (p d f c b n : ℕ) (ns : List ℕ) → Covers F past (p, entry.Loss d f ns) c b n → ⊥
loss-covers past p d f c b n ns v = none-closed _ n v.closed_in

mark-same : (U W : Type 0) (a : Bool) → MatchBool a (¬ U) U → (U → W) → (W → U) → MatchBool a (¬ W) W
mark-same U W true m f g = λ w. m (g w)
mark-same U W false m f g = f m

ops-without : (c b : ℕ) (ns : List ℕ) (ks : List Kept) → ops_of (filter (λ k. not (is_among c b ns k)) ks) ≡ without c b ns (ops_of ks)
ops-without c b ns [] = refl
ops-without c b ns (k ∷ ks) = go (is_among c b ns k) (ops-without c b ns ks)
  where
    go : (x : Bool) → ops_of (filter (λ k. not (is_among c b ns k)) ks) ≡ without c b ns (ops_of ks) → ops_of (cond (not x) (k ∷ filter (λ k. not (is_among c b ns k)) ks) (filter (λ k. not (is_among c b ns k)) ks)) ≡ cond (not x) (op_of k ∷ without c b ns (ops_of ks)) (without c b ns (ops_of ks))
    go true r = r
    go false r = ap (λ l. op_of k ∷ l) r

-- a start whose pending operations stay
unchanged : (c b d f : ℕ) (ss : List Start) (s s' : Start) → find (is_start c b) ss ≡ Some s → s'.pending.1 ≡ s.pending.1 → cond (same_start c b d f) s'.pending.1 (pending_of (find (is_start d f) ss)) ≡ pending_of (find (is_start d f) ss)
unchanged c b d f ss s s' found is = go (same_start c b d f) refl
  where
    go : (x : Bool) → same_start c b d f ≡ x → cond x s'.pending.1 (pending_of (find (is_start d f) ss)) ≡ pending_of (find (is_start d f) ss)
    go true e =
        let parts = and_parts (c == d) (b == f) e in
        is ∙ ap pending_of (sym found) ∙ ap (λ x. pending_of (find (is_start x b) ss)) (eqb-true c d parts.0) ∙ ap (λ x. pending_of (find (is_start d x) ss)) (eqb-true b f parts.1)
    go false e = refl

-- the marks of a start's operations, by what is pending of it
uncovered-same : (c b : ℕ) (ns : List ℕ) (ss : List Start) (is : List ℕ) (ks : List Kept) → is ≡ numbers_in (pending_of (find (is_start c b) ss)) → are_uncovered c b ns is ks ≡ list_all (λ k. not (is_covered ss k && is_among c b ns k)) ks
uncovered-same c b ns ss is [] e = refl
uncovered-same c b ns ss is (k ∷ ks) e = ap (λ z. (not (is_among c b ns k) || member k.number is) && z) (uncovered-same c b ns ss is ks e) ∙ ap (λ z. z && list_all (λ k. not (is_covered ss k && is_among c b ns k)) ks) (go (is_among c b ns k) refl)
  where
    off : (x : Bool) → true ≡ not (x && false)
    off true = refl
    off false = refl

    on : (x : Bool) → x ≡ not (not x && true)
    on true = refl
    on false = refl

    go : (x : Bool) → is_among c b ns k ≡ x → (not x || member k.number is) ≡ not (is_covered ss k && x)
    go true d =
        let parts = and_parts (of_start c b (op_of k)) (member k.number ns) d in
        let start = and_parts (c == k.clerk) (b == k.boot) parts.0 in
        ap (member k.number) (e ∙ ap (λ x. numbers_in (pending_of (find (is_start x b) ss))) (eqb-true c k.clerk start.0) ∙ ap (λ x. numbers_in (pending_of (find (is_start k.clerk x) ss))) (eqb-true b k.boot start.1))
        ∙ on (is_in (pending_of (find (is_start k.clerk k.boot) ss)) k.number)
    go false d = off (is_covered ss k)

module _ (most : ℕ) (past : History) (p c b : ℕ) (ns : List ℕ) (j : Judge) (h : Carries F past j) (is : List ℕ) (is-are : is ≡ numbers_in (pending_of (find (is_start c b) j.starts))) where
  abbrev lost : ℕ × Entry
  lost = (p, entry.Loss c b ns)

  kept-yes : are_kept c b ns j.kept.items ≡ true → AreKept F past c b ns
  kept-yes k = subst (λ ks. T (list_all (λ n. list_any (is_one_of c b (n ∷ [])) ks) ns)) h.kept (holds (sym (kept-same c b j.kept.items ns) ∙ k))

  kept-no : are_kept c b ns j.kept.items ≡ false → ¬ (AreKept F past c b ns)
  kept-no k t = true≢false (sym (is-true _ (subst T (sym (kept-same c b j.kept.items ns)) (subst (λ ks. T (list_all (λ n. list_any (is_one_of c b (n ∷ [])) ks) ns)) (sym h.kept) t))) ∙ k)

  closed-yes : are_closed c b ns j.kept.items ≡ true → AreClosed F past c b ns
  closed-yes k = holds (ap (λ ks. is_closed (is_one_of c b ns) (filter (of_start c b) ks)) (sym h.kept) ∙ k)

  closed-no : are_closed c b ns j.kept.items ≡ false → ¬ (AreClosed F past c b ns)
  closed-no k t = true≢false (sym (is-true _ t) ∙ ap (λ ks. is_closed (is_one_of c b ns) (filter (of_start c b) ks)) (sym h.kept) ∙ k)

  marks : are_uncovered c b ns is j.kept.items ≡ list_all (λ k. not (is_covered j.starts k && is_among c b ns k)) j.kept.items
  marks = uncovered-same c b ns j.starts is j.kept.items is-are

  pub loss-broken : (r : Rule) → BreaksMarks c b ns is (touches_in j.touches) j.kept.items r → BreaksLoss F past c b ns r
  loss-broken rule.Named k = kept-no k
  loss-broken rule.Covered k = (kept-yes k.0, uncovered-no F past c b ns j.starts (touches_in j.touches) j.kept.items h.flags (sym marks ∙ k.1))
  loss-broken rule.Touched k = (kept-yes k.0, uncovered-yes F past c b ns j.starts (touches_in j.touches) j.kept.items h.flags (holds k.0) (sym marks ∙ k.1), untouched-no F past c b ns j.starts (touches_in j.touches) j.kept.items h.flags k.2)
  loss-broken rule.Closed k = (kept-yes k.0, uncovered-yes F past c b ns j.starts (touches_in j.touches) j.kept.items h.flags (holds k.0) (sym marks ∙ k.1), untouched-yes F past c b ns j.starts (touches_in j.touches) j.kept.items h.flags (holds k.0) k.2, closed-no k.3)
  loss-broken rule.Shape k = k
  loss-broken rule.Number k = k
  loss-broken rule.Report k = k
  loss-broken rule.Room k = k
  loss-broken rule.Reply k = k
  loss-broken rule.Fits k = absurd k

  left-fits : Fits formatted (updates (without c b ns (ops_of j.kept.items))) → LeaveFitting F past c b ns
  left-fits f = subst (λ ks. Fits formatted (updates (without c b ns ks))) h.kept f

  pub loss-unfit : KeepsMarks c b ns is (touches_in j.touches) j.kept.items → ¬ (Fits formatted (updates (without c b ns (ops_of j.kept.items)))) → BreaksLoss F past c b ns rule.Fits
  loss-unfit k n = (
    kept-yes k.kept,
    uncovered-yes F past c b ns j.starts (touches_in j.touches) j.kept.items h.flags (holds k.kept) (sym marks ∙ k.uncovered),
    untouched-yes F past c b ns j.starts (touches_in j.touches) j.kept.items h.flags (holds k.kept) k.untouched,
    closed-yes k.closed,
    λ f. n (subst (λ ks. Fits formatted (updates (without c b ns ks))) (sym h.kept) f),
  )

  pub loss-lawful : KeepsMarks c b ns is (touches_in j.touches) j.kept.items → Fits formatted (updates (without c b ns (ops_of j.kept.items))) → IsLawful F past c b ns
  loss-lawful k f = record {
    kept_so_far = kept-yes k.kept;
    uncovered = uncovered-yes F past c b ns j.starts (touches_in j.touches) j.kept.items h.flags (holds k.kept) (sym marks ∙ k.uncovered);
    untouched = untouched-yes F past c b ns j.starts (touches_in j.touches) j.kept.items h.flags (holds k.kept) k.untouched;
    closed = closed-yes k.closed;
    fits = left-fits f;
  }

  loss-flag : (ss : List Start) → ((d f : ℕ) → pending_of (find (is_start d f) ss) ≡ pending_of (find (is_start d f) j.starts)) → (k : Kept) → IsFlagged F past j.starts (touches_in j.touches) k → IsFlagged F (past ++ lost ∷ []) ss (touches_in j.touches) k
  loss-flag ss same k f = record {
    covered = subst (λ x. MatchBool x (¬ (IsUncovered F (past ++ lost ∷ []) (op_of k))) (IsUncovered F (past ++ lost ∷ []) (op_of k))) (ap (λ l. not (is_in l k.number)) (sym (same k.clerk k.boot)))
        (mark-same (IsUncovered F past (op_of k)) (IsUncovered F (past ++ lost ∷ []) (op_of k)) (is_covered j.starts k) f.covered (λ u. through-more _ past lost u (λ v. loss-covers past p c b k.clerk k.boot k.number ns v)) (λ w. through-front _ past lost w));
    touched = mark-same (IsUntouched F past (op_of k)) (IsUntouched F (past ++ lost ∷ []) (op_of k)) (is_touched (touches_in j.touches) k) f.touched (λ u. through-more _ past lost u tt) (λ w. through-front _ past lost w);
  }

  pub loss-carried : (j' : Judge) (ss : List Start) (at : ℕ) (s s' : Start)
      → ((c b : ℕ) → IsStart F past c b (find (is_start c b) ss)) → at ≡ position_or_len (is_start c b) ss → at < length ss → IsStart F past c b (Some s)
      → ((c b : ℕ) → pending_of (find (is_start c b) ss) ≡ pending_of (find (is_start c b) j.starts)) → find (is_start c b) ss ≡ Some s
      → s'.clerk ≡ c → s'.boot ≡ b → s'.pending.0 ≡ s.pending.0 → s'.owed ≡ s.owed ++ pairs_of (filter (is_one_of c b ns) (ops_of j.kept.items)) → s'.pending.1 ≡ s.pending.1
      → j'.starts ≡ set ss at s' → j'.kept.items ≡ filter (λ k. not (is_among c b ns k)) j.kept.items → j'.touches ≡ j.touches
      → ((x : ℕ) → shown j'.firm.volume x ≡ after formatted (updates (without c b ns (ops_of j.kept.items))) x) → IsFirm (filter (λ k. not (is_among c b ns k)) j.kept.items) j'.firm.count (images j'.firm.volume.under)
      → AreLaid (filter (λ k. not (is_among c b ns k)) j.kept.items) j'.firm.count j'.firm.volume → Carries F (past ++ lost ∷ []) j'
  loss-carried j' ss at s s' starts at-is within own pending-same found sc sb count-of owed-of pending-is starts-are kept-are touches-are volume-is firm-is laid-is =
      let step : kept F (past ++ lost ∷ []) ≡ without c b ns (kept F past) = kept-step F past lost in
      let as-before : (d f : ℕ) → pending_of (find (is_start d f) j'.starts) ≡ pending_of (find (is_start d f) j.starts) =
      λ d f. ap (λ ts. pending_of (find (is_start d f) ts)) starts-are ∙ pending-set c b ss at s' at-is within sc sb d f ∙ unchanged c b d f ss s s' found pending-is ∙ pending-same d f in
      record {
        volume = λ x. volume-is x ∙ ap (λ ks. after F.volume (updates ks) x) (ap (without c b ns) h.kept ∙ sym step);
        kept = ap ops_of kept-are ∙ ops-without c b ns j.kept.items ∙ ap (without c b ns) h.kept ∙ sym step;
        starts = λ d f. subst (λ ts. IsStart F (past ++ lost ∷ []) d f (find (is_start d f) ts)) (sym starts-are) (starts-next F past lost ss at s' starts at-is within sc sb (record {
          count = count-of ∙ own.count ∙ sym (count-next c b past lost);
          owed = owed-of ∙ ap (λ qs. qs ++ pairs_of (filter (is_one_of c b ns) (ops_of j.kept.items))) own.owed ∙ ap (λ ks. owed F past c b ++ pairs_of (filter (is_one_of c b ns) ks)) h.kept ∙ own-lost F past p c b ns;
          pending = subst (λ l. l ≡ filter (λ i. is_in l i.number) (issues_in c b (issued F (past ++ lost ∷ [])))) (sym pending-is) (own.pending ∙ ap (filter (λ i. is_in s.pending.1 i.number)) (sym (lost-issued F past p c b c b ns)));
          upward = subst (λ l. IsUpward (is_in l) (issues_in c b (issued F (past ++ lost ∷ [])))) (sym pending-is) (subst (IsUpward (is_in s.pending.1)) (sym (lost-issued F past p c b c b ns)) own.upward);
        }) d f);
        flags = subst (λ ts. Each (IsFlagged F (past ++ lost ∷ []) j'.starts (touches_in ts)) j'.kept.items) (sym touches-are)
            (subst (Each (IsFlagged F (past ++ lost ∷ []) j'.starts (touches_in j.touches))) (sym kept-are) (each-kept (IsFlagged F past j.starts (touches_in j.touches)) (IsFlagged F (past ++ lost ∷ []) j'.starts (touches_in j.touches)) (λ k. not (is_among c b ns k)) (λ k e f. loss-flag j'.starts as-before k f) j.kept.items h.flags));
        turns = subst (λ n. Each (λ k. k.turn < n) j'.kept.items) (length-more past lost) (subst (Each (λ k. k.turn < length past + 1)) (sym kept-are) (each-kept (λ k. k.turn < length past + 1) (λ k. k.turn < length past + 1) (λ k. not (is_among c b ns k)) (λ k e f. f) j.kept.items (turns-more (length past) j.kept.items h.turns)));
        touches = λ x. subst (λ n. AreBelow n (touches_in j'.touches x)) (length-more past lost) (subst (λ ts. AreBelow (length past + 1) (touches_in ts x)) (sym touches-are) (below-more (length past) (touches_in j.touches x) (h.touches x)));
        firm = subst (λ ks. IsFirm ks j'.firm.count (images j'.firm.volume.under)) (sym kept-are) firm-is;
        laid = subst (λ ks. AreLaid ks j'.firm.count j'.firm.volume) (sym kept-are) laid-is;
      }

-- What is known of the start at an index.

pub same-at : (ss : List Start) (i : ℕ) (s t : Start) → i < length ss → get_or ss i s ≡ get_or ss i t
same-at [] i s t l = absurd (omega (arith, l))
same-at (x ∷ ss) zero s t l = refl
same-at (x ∷ ss) (suc i) s t l = same-at ss i s t (omega (arith, l))

pub is-own : (c b : ℕ) (ss : List Start) (i : ℕ) (s : Start) → i ≡ position_or_len (is_start c b) ss → i < length ss → s ≡ get_or ss i s → (s.clerk ≡ c) × (s.boot ≡ b)
is-own c b ss i s at within is =
    let yes : is_start c b s ≡ true = ap (is_start c b) is ∙ ap (λ k. is_start c b (get_or ss k s)) at ∙ passes_at_first (is_start c b) ss s (subst (λ k. k < length ss) at within) in
    let parts = and_parts (c == s.clerk) (b == s.boot) yes in
    (sym (eqb-true c s.clerk parts.0), sym (eqb-true b s.boot parts.1))

module _ (past : History) (j : Judge) (h : Carries F past j) (ss : List Start)
    (counts : (c b : ℕ) → count_of (find (is_start c b) ss) ≡ count_of (find (is_start c b) j.starts))
    (owes : (c b : ℕ) → owed_of (find (is_start c b) ss) ≡ owed_of (find (is_start c b) j.starts))
    (pends : (c b : ℕ) → pending_of (find (is_start c b) ss) ≡ pending_of (find (is_start c b) j.starts)) where
  pub starts-now : (c b : ℕ) → IsStart F past c b (find (is_start c b) ss)
  starts-now c b = start-same F past c b (find (is_start c b) j.starts) (find (is_start c b) ss) (h.starts c b) (counts c b) (owes c b) (pends c b)

  pub own-at : (c b i : ℕ) (s : Start) → i ≡ position_or_len (is_start c b) ss → i < length ss → s ≡ get_or ss i s → IsStart F past c b (Some s)
  own-at c b i s at within is = subst (IsStart F past c b) (found-at (is_start c b) ss i s at within is) (starts-now c b)

pub if-ok : {A E : Type 0} (P Q : A → Type 0) (r : Result A E) → ((x : A) → P x → Q x) → IfOk r P → IfOk r Q
if-ok P Q (Ok x) f h = f x h
if-ok P Q (Err e) f h = tt

pub on-ok : {A E : Type 0} (P Q : Type 0) (r : Result A E) → (P → Q) → OnOk r P → OnOk r Q
on-ok P Q (Ok x) f h = f h
on-ok P Q (Err e) f h = tt

pub on-ok-all : {A E : Type 0} (P Q R S : Type 0) (r : Result A E) → (P → Q → R → S) → OnOk r P → OnOk r Q → OnOk r R → OnOk r S
on-ok-all P Q R S (Ok x) f p q s = f p q s
on-ok-all P Q R S (Err e) f p q s = tt
