-- One step more keeps what the value says of its list.
use Rattle.std.proofs.Common.{max, ◌≡◌, ℕ, Bool, zero, suc, ◌+◌, ◌≤◌, true, false, List, [], ◌∷◌, ◌++◌, length, map, take, drop, Option, Some, None, Result, Ok, Err, append-nil, IfSome, IfNone, slice_get, sym, refl, ap, ◌∙◌, subst, inl, inr, ⊎_elim, arith, length-append}
use Rattle.std.specs.List.{All}
use Rattle.std.proofs.lemmas.List.Elements.{All-append, All-nil}
use Rattle.ec_base.specs.declared.ids.Age.{Age}
use Rattle.ec_plain.specs.declared.call.Call.{Call}
use Rattle.ec_protocol.specs.declared.clerk.Clerk.{Clerk}
use Rattle.ec_protocol.specs.declared.clerk.Out.{Out}
use Rattle.ec_link.specs.declared.link.Sent.TheVariants as sent
use Rattle.ec_link.specs.declared.link.Got.{Got}
use Rattle.ec_link.specs.declared.link.Got.TheVariants as gave
use Rattle.ec_link.specs.Links.{Heard, added}
use Rattle.ec_link.specs.LinkAnswers.{heard, failed}
use Rattle.ec_link.specs.NetAnswers.{IsEmpty}
use Rattle.ec_outs.specs.Outs.{Reply, told, sends, encoded, old_boots, answers}
use Rattle.ec_outs.specs.KeptAnswers.{kept_at, first_known}
use Rattle.ec_clerknode.specs.declared.act.Act.{Act}
use Rattle.ec_clerknode.specs.declared.fault.NodeFault.{NodeFault}
use Rattle.ec_clerknode.specs.declared.step.Deed.{Deed}
use Rattle.ec_clerknode.specs.declared.step.Deed.TheVariants.{Linked}
use Rattle.ec_clerknode.specs.declared.step.Step.{Step}
use Rattle.ec_outs.specs.declared.kept.Kept.{Kept}
use Rattle.ec_clerknode.specs.declared.state.Node.{Node}
use Rattle.ec_clerknode.specs.declared.waiting.Waiting.{Waiting}
use Rattle.ec_clerknode.specs.Folded.{floor_of, linked}
use Rattle.ec_clerknode.specs.FoldedAnswers.{ComesOut}
use Rattle.ec_clerknode.specs.Run.{after, outs_of, IsDeed, IsStep, IsRun, heard_of, IsSaid, AreSaid, said_in, told_in, told_by, old_boots_in, old_boot, Among}
use Rattle.ec_clerknode.specs.RunEnds.{highest, leads, Wanted, Came, net_of}
use Rattle.ec_clerknode.specs.Parts.{is_linked}
use Rattle.ec_clerknode.specs.PresentLink.{Over, CameOver, Counted, IsLinker, LinksBy}
use Rattle.ec_clerknode.specs.Node.{AnsweredAt}
use Rattle.ec_clerknode.specs.NodeSteps.{AnsweredFrom, Since, Keeps}
use Rattle.ec_clerknode.specs.Closed.{Acts, IsOwn, Closed, Moved, Fell, Begun, Works, Waited}
use Rattle.ec_clerknode.proofs.Lists.{get_longer, get_last}
use Rattle.ec_clerknode.proofs.Parts.{over_push, over_new, came_over, came_push, counted_push, counted_new, links_push, no_links}
use Rattle.ec_outs.proofs.Told.{added-nil}
use Rattle.ec_link.specs.Happenings.{each}
use Rattle.ec_base.specs.Lists.{first_of}
use Rattle.ec_base.proofs.Equalities.{true_false}
use Rattle.ec_link.proofs.HappeningsLemmas.{each-push}

pub leads-push : (c : Clerk) (xs : List Step) (s : Step) → leads c (xs ++ s ∷ []) ≡ after (leads c xs) s.deed
leads-push c [] s = refl
leads-push c (x ∷ xs) s = leads-push (after c x.deed) xs s

pub run-push : (c : Clerk) (xs : List Step) (s : Step) → IsRun c xs → IsStep (leads c xs) s → IsRun c (xs ++ s ∷ [])
run-push c [] s r h = (h, tt)
run-push c (x ∷ xs) s r h = (r.0, run-push (after c x.deed) xs s r.1 h)

pub said-push : (xs : List Step) (s : Step) → AreSaid xs → IsSaid s.end → AreSaid (xs ++ s ∷ [])
said-push [] s r h = (h, tt)
said-push (x ∷ xs) s r h = (r.0, said-push xs s r.1 h)

-- memory was wanting in the last step
wanted_last : (xs : List Step) (s : Step) → s.end ≡ sent.NoMemory → Wanted (xs ++ s ∷ [])
wanted_last [] s e = inl e
wanted_last (x ∷ xs) s e = inr (wanted_last xs s e)

pub heard_short : (got : Got) → length (heard got) ≤ 1
heard_short (gave.Body bytes) = omega arith
heard_short gave.Nothing = omega arith
heard_short (gave.Long n) = omega arith
heard_short gave.Closed = omega arith
heard_short gave.Failed = omega arith
heard_short gave.NoMemory = omega arith

pub highest-push : (xs : List Step) (s : Step) → highest (xs ++ s ∷ []) ≡ max (highest xs) s.floor
highest-push [] s = omega arith
highest-push (x ∷ xs) s = omega (arith, highest-push xs s)

first_known-push : (xs ys : List Age) → first_known (first_of xs) ys ≡ first_of (xs ++ ys)
first_known-push [] ys = refl
first_known-push (x ∷ xs) ys = refl

all_head : {A : Type 0} (P : A → Type 0) (x : A) (xs : List A) → All P (x ∷ xs) → P x
all_head P x xs h = h 0 x (omega arith)

all_tail : {A : Type 0} (P : A → Type 0) (x : A) (xs : List A) → All P (x ∷ xs) → All P xs
all_tail P x xs h k d l = h (suc k) d (omega arith)

all_more : {A : Type 0} (P : A → Type 0) (x : A) (xs : List A) → P x → All P xs → All P (x ∷ xs)
all_more P x xs p h zero d l = p
all_more P x xs p h (suc k) d l = h k d (omega arith)

all_map : {A B : Type 0} (P : B → Type 0) (f : A → B) (xs : List A) → ((x : A) → Among x xs → P (f x)) → All P (map f xs)
all_map P f [] h = All-nil P
all_map P f (x ∷ xs) h = all_more P (f x) (map f xs) (h x (inl refl)) (all_map P f xs (λ y m. h y (inr m)))

all_each : {A : Type 0} (P Q : A → Type 0) (xs : List A) → ((x : A) → P x → Q x) → All P xs → All Q xs
all_each P Q xs f h k d l = f _ (h k d l)

pub all_get : {A : Type 0} (P : A → Type 0) (xs : List A) (i : ℕ) (x : A) → All P xs → slice_get xs i ≡ Some x → P x
all_get P [] i x h e = absurd cc
all_get P (y ∷ xs) zero x h e = let same : y ≡ x = cc e in subst P same (all_head P y xs h)
all_get P (y ∷ xs) (suc i) x h e = all_get P xs i x (all_tail P y xs h) e

pub all_without : {A : Type 0} (P : A → Type 0) (xs : List A) (i : ℕ) → All P xs → All P (take i xs ++ drop (suc i) xs)
all_without P [] zero h = h
all_without P [] (suc i) h = h
all_without P (x ∷ xs) zero h = all_tail P x xs h
all_without P (x ∷ xs) (suc i) h = all_more P x (take i xs ++ drop (suc i) xs) (all_head P x xs h) (all_without P xs i (all_tail P x xs h))

pub answered_longer : (xs ys : List Step) (at number : ℕ) (answer : Reply) → AnsweredAt xs at number answer → AnsweredAt (xs ++ ys) at number answer
answered_longer xs ys at number answer a = (a.0, get_longer xs ys at a.0 a.1, a.2)

module _ {L : Type 0} (counts : L → ℕ) (given : L → Option (List Heard)) (got : L → Option (List (List ℕ))) where
  -- A step was added: what is known of the list, where this is known of the link.
  grows : (pass : ℕ) (deed : Deed) (outs : List Out) (step : Step) (old mid new : Node L) (first : Node L) → Moved deed outs old mid → Closed counts given got pass deed outs step mid new → Since counts given got first old
      → Counted (counts first.link) (old.trace.items ++ step ∷ []) (counts new.link) → Over (λ s. heard_of s.deed) (given first.link) (old.trace.items ++ step ∷ []) (given new.link) → Over said_in (got first.link) (old.trace.items ++ step ∷ []) (got new.link)
      → LinksBy first.linker (old.trace.items ++ step ∷ []) → Since counts given got first new
  grows pass deed outs step old mid new first m c s net gave took links =
      let xs = old.trace.items in
      let grown : new.trace.items ≡ xs ++ step ∷ [] = c.list ∙ ap (λ l. l ++ step ∷ []) m.list in
      let lead : leads first.clerk xs ≡ old.clerk = s.leads_to m.up in
      let is_step : IsStep old.clerk step = inr (
        subst (IsDeed old.clerk) (sym c.deed_is) m.is,
        c.outs_are ∙ (m.outs_are ∙ ap (outs_of old.clerk) (sym c.deed_is)),
        c.floor ∙ ap floor_of (m.clerk ∙ ap (after old.clerk) (sym c.deed_is)),
        (λ e. c.whole e ∙ ap (λ l. length (sends l)) (sym c.outs_are)),
      ) in
      let now_there : slice_get new.trace.items (length xs) ≡ Some step = ap (λ l. slice_get l (length xs)) grown ∙ get_last xs step in
      let counted = s.counted in
      let place : mid.steps ≡ length xs = m.steps ∙ counted in
      let heard_all = subst (λ l. Over (λ s. heard_of s.deed) (given first.link) l (given new.link)) (sym grown) gave in
      record {
        run = subst (IsRun first.clerk) (sym grown) (run-push first.clerk xs step s.run (subst (λ x. IsStep x step) (sym lead) is_step));
        counted = c.steps ∙ (ap (λ n. n + 1) place ∙ sym (ap length grown ∙ length-append xs (step ∷ [])));
        leads_to = λ _. ap (leads first.clerk) grown ∙ (leads-push first.clerk xs step ∙ (ap (λ x. after x step.deed) lead ∙ (ap (after old.clerk) c.deed_is ∙ (sym m.clerk ∙ sym c.clerk))));
        kept =
            let old_kept = all_each (λ (a : Kept). AnsweredAt xs a.at a.number a.reply) (λ a. AnsweredAt new.trace.items a.at a.number a.reply) old.kept.items
            (λ a h. subst (λ l. AnsweredAt l a.at a.number a.reply) (sym grown) (answered_longer xs (step ∷ []) a.at a.number a.reply h)) s.kept in
            ⊎_elim (λ (e : new.kept.items ≡ mid.kept.items ++ map (kept_at mid.steps) (answers outs)).
            subst (All (λ a. AnsweredAt new.trace.items a.at a.number a.reply)) (sym (e ∙ ap (λ l. l ++ map (kept_at mid.steps) (answers outs)) m.kept))
            (All-append (λ a. AnsweredAt new.trace.items a.at a.number a.reply) old.kept.items (map (kept_at mid.steps) (answers outs)) old_kept
            (all_map (λ a. AnsweredAt new.trace.items a.at a.number a.reply) (kept_at mid.steps) (answers outs)
            (λ x among. (step, ap (slice_get new.trace.items) place ∙ now_there, subst (λ l. Among x (answers l)) (sym c.outs_are) among)))))
            (λ (e : new.kept.items ≡ []). subst (All (λ a. AnsweredAt new.trace.items a.at a.number a.reply)) (sym e) (All-nil (λ a. AnsweredAt new.trace.items a.at a.number a.reply)))
            c.kept;
        told = λ up. c.told_more up ∙ (ap (λ l. l ++ told outs) (m.told_same ∙ s.told m.up) ∙ (ap (λ l. told_by xs ++ told l) (sym c.outs_are) ∙ sym (ap told_by grown ∙ each-push told_in xs step)));
        old = c.old_boot ∙ (ap (λ o. first_known o (old_boots outs)) (m.boot ∙ s.old) ∙ (first_known-push (each old_boots_in xs) (old_boots outs)
            ∙ (ap (λ l. first_of (each old_boots_in xs ++ old_boots l)) (sym c.outs_are) ∙ sym (ap old_boot grown ∙ ap first_of (each-push old_boots_in xs step)))));
        top = c.top ∙ (ap (λ (n : ℕ). max n step.floor) (m.top ∙ s.top) ∙ sym (ap highest grown ∙ highest-push xs step));
        net = subst (λ l. Counted (counts first.link) l (counts new.link)) (sym grown) net;
        heard = λ up. heard_all;
        said = λ up. subst AreSaid (sym grown) (said-push xs step (s.said m.up) (c.said up));
        wanted = λ down. subst Wanted (sym grown) (wanted_last xs step
            (⊎_elim (λ (e : mid.broken ≡ true). absurd (true_false (sym e ∙ m.still_up))) (λ (e : step.end ≡ sent.NoMemory). e) (c.wanted down)));
        came = came_over (given first.link) (given new.link) new.trace.items heard_all;
        sent = subst (λ l. Over said_in (got first.link) l (got new.link)) (sym grown) took;
        linker = c.linker ∙ (m.linker ∙ s.linker);
        links = subst (LinksBy first.linker) (sym grown) links;
      }

  -- a step over the link that was there
  pub closes : (pass : ℕ) (deed : Deed) (outs : List Out) (step : Step) (old mid new : Node L) → Moved deed outs old mid → is_linked deed ≡ false → given mid.link ≡ added (given old.link) (heard_of deed) → got mid.link ≡ got old.link → net_of deed + counts old.link ≤ counts mid.link
      → Closed counts given got pass deed outs step mid new → Keeps counts given got old new
  closes pass deed outs step old mid new m own heard sent net c first s =
      let xs = old.trace.items in
      let still : is_linked step.deed ≡ false = ap is_linked c.deed_is ∙ own in
      let low = c.counted in
      let same : net_of step.deed ≡ net_of deed = ap net_of c.deed_is in
      grows pass deed outs step old mid new first m c s (counted_push (counts first.link) (counts old.link) (counts new.link) xs step still s.net (omega arith))
      (over_push (λ s. heard_of s.deed) (given first.link) (given old.link) (given new.link) xs step still (s.heard m.up) (c.given_same ∙ (heard ∙ ap (λ d. added (given old.link) (heard_of d)) (sym c.deed_is))))
      (over_push said_in (got first.link) (got old.link) (got new.link) xs step still s.sent (c.got_more ∙ ap (λ o. added o (said_in step)) sent))
      (links_push first.linker xs step s.links (no_links first.linker step still))

  -- a step over a new link, by which the clerk greets
  pub exchanges : (pass : ℕ) (outs : List Out) (step : Step) (old mid new : Node L) → Moved Linked outs old mid → IsEmpty (given mid.link) → IsEmpty (got mid.link) → old.linker ≡ Some pass → Closed counts given got pass Linked outs step mid new → Keeps counts given got old new
  exchanges pass outs step old mid new m none_given none_got linker c first s =
      let xs = old.trace.items in
      let is : is_linked step.deed ≡ true = ap is_linked c.deed_is in
      let low = c.counted in
      let same : net_of step.deed ≡ 0 = ap net_of c.deed_is in
      let by : first.linker ≡ Some pass = sym s.linker ∙ linker in
      grows pass Linked outs step old mid new first m c s (counted_new (counts first.link) (counts new.link) xs step is (omega arith))
      (over_new (λ s. heard_of s.deed) (given first.link) (given mid.link) (given new.link) xs step is none_given (c.given_same ∙ (sym (added-nil (given mid.link)) ∙ ap (λ d. added (given mid.link) (heard_of d)) (sym c.deed_is))))
      (over_new said_in (got first.link) (got mid.link) (got new.link) xs step is none_got c.got_more)
      (links_push first.linker xs step s.links (λ linked. subst (λ o. IsLinker o step.pass) (sym by) c.pass_is))

  -- the same, by what the clerk's greeting comes to
  pub greets : (pass : ℕ) (outs : List Out) (step : Step) (old new : Node L) (link : L) → old.broken ≡ false → old.linker ≡ Some pass → IsEmpty (given link) → IsEmpty (got link) → ComesOut (linked old.clerk) old.clerk outs
      → Closed counts given got pass Linked outs step (record old { link = link; is_down = false; owes = true }) new → Keeps counts given got old new
  greets pass outs step old new link up linker none_given none_got came closed = exchanges pass outs step old (record old { link = link; is_down = false; owes = true }) new
      (record { up = up; still_up = up; is = came.2; outs_are = sym came.1; clerk = sym came.0; kept = refl; told_same = refl; boot = refl; steps = refl; top = refl; list = refl; linker = refl }) none_given none_got linker closed

  pub kept_of : (P : Kept → Type 0) (r : Option Reply) (old new : List Kept) (number place : ℕ)
      → IfSome r (λ answer. (a : Kept) × (i : ℕ) × (slice_get old i ≡ Some a) × (a.number ≡ number) × (place ≤ a.at) × (a.reply ≡ answer) × (new ≡ take i old ++ drop (i + 1) old)) → IfNone r (new ≡ old)
      → All P old → All P new
  kept_of P (Some answer) old new number place some none h = let i = some.1 in let up : i + 1 ≡ suc i = omega arith in subst (All P) (sym (some.6 ∙ ap (λ k. take i old ++ drop k old) up)) (all_without P old i h)
  kept_of P None old new number place some none h = subst (All P) (sym none) h

  pub answer_kept : (steps : List Step) (r : Option Reply) (old new : List Kept) (number place : ℕ)
      → IfSome r (λ answer. (a : Kept) × (i : ℕ) × (slice_get old i ≡ Some a) × (a.number ≡ number) × (place ≤ a.at) × (a.reply ≡ answer) × (new ≡ take i old ++ drop (i + 1) old))
      → All (λ a. AnsweredAt steps a.at a.number a.reply) old → IfSome r (λ answer. AnsweredFrom steps place number answer)
  answer_kept steps (Some answer) old new number place some h =
      let a = some.0 in
      let there = all_get (λ a. AnsweredAt steps a.at a.number a.reply) old some.1 a h some.2 in
      (a.at, some.4, (there.0, there.1, subst (λ (n : ℕ). Among (n, answer) (answers there.0.outs.value.items)) some.3 (subst (λ x. Among (a.number, x) (answers there.0.outs.value.items)) some.5 there.2)))
  answer_kept steps None old new number place some h = tt

  pub nothing_came : (link : L) → Came (given link) [] (given link)
  nothing_came link = ([], omega arith, sym (added-nil (given link)))

  -- The mark that memory was wanting was added, and the clerk is not followed any more. Its link gave at most one thing for it.
  pub falls : (pass : ℕ) (old new : Node L) (c : Clerk) (link : L) → old.broken ≡ false → Came (given old.link) [] (given link) → got link ≡ got old.link → counts old.link ≤ counts link
      → Fell pass (record old { clerk = c; link = link }) new → Keeps counts given got old new
  falls pass old new c link up came sent more f first s =
      let xs = old.trace.items in
      let step = f.step in
      let down : new.broken ≡ true = ap (λ (n : Node L). n.broken) f.same in
      let back : new.link ≡ link = ap (λ (n : Node L). n.link) f.same in
      let net = s.net in
      let links : counts new.link ≡ counts link = ap counts back in
      let still_net : net_of step.deed ≡ 0 = ap net_of f.is.0 in
      let none_failed : failed step.end ≡ 0 = ap failed f.is.3 in
      let low : step.floor ≡ 0 = f.is.4 in
      let still : is_linked step.deed ≡ false = ap is_linked f.is.0 in
      let said_none : said_in step ≡ [] = ap (λ (n : ℕ). map encoded (take n (sends step.outs.value.items))) f.is.2 in
      record {
        run = subst (IsRun first.clerk) (sym f.list) (run-push first.clerk xs step s.run (inl f.is));
        counted = ap (λ (n : Node L). n.steps) f.same ∙ (ap (λ n. n + 1) s.counted ∙ sym (ap length f.list ∙ length-append xs (step ∷ [])));
        leads_to = λ up. absurd (true_false (sym down ∙ up));
        kept = subst (All (λ a. AnsweredAt new.trace.items a.at a.number a.reply)) (sym (ap (λ (n : Node L). n.kept.items) f.same))
            (all_each (λ (a : Kept). AnsweredAt xs a.at a.number a.reply) (λ a. AnsweredAt new.trace.items a.at a.number a.reply) old.kept.items
            (λ a h. subst (λ l. AnsweredAt l a.at a.number a.reply) (sym f.list) (answered_longer xs (step ∷ []) a.at a.number a.reply h)) s.kept);
        told = λ up. absurd (true_false (sym down ∙ up));
        old = ap (λ (n : Node L). n.boot) f.same ∙ (s.old ∙ (ap first_of (sym (append-nil (each old_boots_in xs)) ∙ ap (λ l. each old_boots_in xs ++ old_boots l) (sym f.is.1))
            ∙ sym (ap old_boot f.list ∙ ap first_of (each-push old_boots_in xs step))));
        top = ap (λ (n : Node L). n.top) f.same ∙ (s.top ∙ sym (ap highest f.list ∙ (highest-push xs step ∙ omega (arith, low))));
        net = subst (λ l. Counted (counts first.link) l (counts new.link)) (sym f.list) (counted_push (counts first.link) (counts old.link) (counts new.link) xs step still net (omega arith));
        heard = λ up. absurd (true_false (sym down ∙ up));
        sent = subst (λ l. Over said_in (got first.link) l (got new.link)) (sym f.list) (over_push said_in (got first.link) (got old.link) (got new.link) xs step still s.sent
            (ap got back ∙ (sent ∙ (sym (added-nil (got old.link)) ∙ ap (added (got old.link)) (sym said_none)))));
        said = λ up. absurd (true_false (sym down ∙ up));
        wanted = λ down. subst Wanted (sym f.list) (wanted_last xs step f.is.3);
        came = subst (λ l. CameOver (given first.link) l (given new.link)) (sym f.list) (came_push (given first.link) (given old.link) (given new.link) xs step still (ap heard_of f.is.0) (s.heard up)
            (subst (Came (given old.link) []) (sym (ap given back)) came));
        linker = ap (λ (n : Node L). n.linker) f.same ∙ s.linker;
        links = subst (LinksBy first.linker) (sym f.list) (links_push first.linker xs step s.links (no_links first.linker step still));
      }

  pub keeps_both : (old mid new : Node L) → Keeps counts given got old mid → Keeps counts given got mid new → Keeps counts given got old new
  keeps_both old mid new a b first s = b first (a first s)

  pub keeps_same : (old new : Node L) → new ≡ old → Keeps counts given got old new
  keeps_same old new e first s = subst (Since counts given got first) (sym e) s

  -- what the link gave was done, and its step was added
  pub follows : (pass : ℕ) (act : Act) (step : Step) (old new : Node L) (c : Clerk) (link : L) → old.broken ≡ false → Acts old.clerk act c → given link ≡ added (given old.link) (heard_of act.deed) → got link ≡ got old.link
      → net_of act.deed + counts old.link ≤ counts link → Closed counts given got pass act.deed act.outs.items step (record old { clerk = c; link = link }) new → Keeps counts given got old new
  follows pass act step old new c link up acts heard sent net closed = closes pass act.deed act.outs.items step old (record old { clerk = c; link = link }) new
      (record { up = up; still_up = up; is = acts.0; outs_are = acts.1; clerk = acts.2; kept = refl; told_same = refl; boot = refl; steps = refl; top = refl; list = refl; linker = refl }) acts.4 heard sent net closed

  -- a call of the clerk without the link
  pub follows_alone : (pass : ℕ) (act : Act) (step : Step) (old new : Node L) (c : Clerk) → old.broken ≡ false → Acts old.clerk act c → IsOwn act.deed
      → Closed counts given got pass act.deed act.outs.items step (record old { clerk = c }) new → Keeps counts given got old new
  follows_alone pass act step old new c up acts own closed = let net = own.1 in follows pass act step old new c old.link up acts
      (sym (added-nil (given old.link)) ∙ ap (added (given old.link)) (sym own.0)) refl (omega arith) closed

  -- the link gave nothing
  pub read_none : (old : Node L) (c : Clerk) (link : L) → c ≡ old.clerk → given link ≡ added (given old.link) [] → got link ≡ got old.link → counts old.link ≤ counts link → Keeps counts given got old (record old { clerk = c; link = link })
  read_none old c link same heard sent more first s =
      let net = s.net in
      let still : given link ≡ given old.link = heard ∙ added-nil (given old.link) in
      record {
        run = s.run;
        counted = s.counted;
        leads_to = λ up. s.leads_to up ∙ sym same;
        kept = s.kept;
        told = s.told;
        old = s.old;
        top = s.top;
        net = omega arith;
        heard = λ up. subst (Over (λ s. heard_of s.deed) (given first.link) old.trace.items) (sym still) (s.heard up);
        sent = subst (Over said_in (got first.link) old.trace.items) (sym sent) s.sent;
        said = s.said;
        wanted = s.wanted;
        came = subst (CameOver (given first.link) old.trace.items) (sym still) s.came;
        linker = s.linker;
        links = s.links;
      }

  -- only what is known of waiting and of the link's being up changed
  pub keeps_flags : (old : Node L) (w : Waiting) (lasts is_down owes : Bool) → Keeps counts given got old (record old { waiting = w; lasts = lasts; is_down = is_down; owes = owes })
  keeps_flags old w lasts is_down owes first s = record {
    run = s.run;
    counted = s.counted;
    leads_to = s.leads_to;
    kept = s.kept;
    told = s.told;
    old = s.old;
    top = s.top;
    net = s.net;
    heard = s.heard;
    sent = s.sent;
    said = s.said;
    wanted = s.wanted;
    came = s.came;
    linker = s.linker;
    links = s.links;
  }

  pub keeps_waiting : (old new : Node L) (w : Waiting) → new ≡ record old { waiting = w } → Keeps counts given got old new
  keeps_waiting old new w e first s = subst (Since counts given got first) (sym e) (keeps_flags old w old.lasts old.is_down old.owes first s)

  pub keeps_lasting : (old new : Node L) (lasts : Bool) → new ≡ record old { lasts = lasts } → Keeps counts given got old new
  keeps_lasting old new lasts e first s = subst (Since counts given got first) (sym e) (keeps_flags old old.waiting lasts old.is_down old.owes first s)

  pub keeps_owing : (old new : Node L) (owes : Bool) → new ≡ record old { owes = owes } → Keeps counts given got old new
  keeps_owing old new owes e first s = subst (Since counts given got first) (sym e) (keeps_flags old old.waiting old.lasts old.is_down owes first s)

pub begun_same : {L : Type 0} (pass : ℕ) (call : Call) (old mid new : Node L) (number : ℕ) → new.trace.items ≡ mid.trace.items → new.boot ≡ mid.boot → Begun pass call old mid (Ok number) → Begun pass call old new (Ok number)
begun_same pass call old mid new number list boot b = let r = b.1 in (boot ∙ b.0, (r.0, r.1, r.2, r.3, (list ∙ r.4.0, r.4.1)))

-- the counts of a link behind a read
pub counts_up : (f g c d a b : ℕ) → f + a ≤ g → c + b ≤ d → f + c ≤ g + d
counts_up f g c d a b e h = omega (arith, e, h)

pub counts_more : (f g c d a b n : ℕ) → f + a ≤ g → c + b ≤ d → n ≤ a + b → n + (f + c) ≤ g + d
counts_more f g c d a b n e h l = omega (arith, e, h, l)

module _ {L : Type 0} (counts : L → ℕ) (given : L → Option (List Heard)) (got : L → Option (List (List ℕ))) where
  -- the answer is looked for behind a turn
  pub answer_then : (old mid new : Node L) (number place : ℕ) (answer : Option Reply) → Keeps counts given got old mid → new.trace.items ≡ mid.trace.items
      → ((first : Node L) → Since counts given got first mid → IfSome answer (λ a. AnsweredFrom mid.trace.items place number a)) → (first : Node L) → Since counts given got first old → IfSome answer (λ a. AnsweredFrom new.trace.items place number a)
  answer_then old mid new number place answer keeps list answered first s = subst (λ l. IfSome answer (λ a. AnsweredFrom l place number a)) (sym list) (answered first (keeps first s))

  -- it's the same behind a turn that keeps all
  pub waited_behind : {A : Type 0} (number place : ℕ) (old mid new : Node L) (r : Result (A × Option Reply) NodeFault) → Keeps counts given got old mid → Waited counts given got number place mid new r → Waited counts given got number place old new r
  waited_behind number place old mid new (Ok r) keeps w = λ first s. w first (keeps first s)
  waited_behind number place old mid new (Err f) keeps w = tt

-- a turn that added nothing goes before
pub works_behind : {L A : Type 0} (pass : ℕ) (old mid new : Node L) (r : Result A NodeFault) → mid.trace.items ≡ old.trace.items → Works pass mid new r → Works pass old new r
works_behind pass old mid new (Ok x) list w = (w.0, (w.1.0, (w.1.1.0 ∙ ap (λ l. l ++ w.1.0) list, w.1.1.1), w.1.2))
works_behind pass old mid new (Err f) list w = (w.0, (w.1.0 ∙ ap (λ l. l ++ w.0) list, w.1.1), w.2, w.3)

-- and one behind
pub works_then : {L A B : Type 0} (pass : ℕ) (old mid new : Node L) (x : A) (y : B) → new.trace.items ≡ mid.trace.items → new.boot ≡ mid.boot → Works pass old mid (Ok x) → Works pass old new (Ok y)
works_then pass old mid new x y list boot w = (boot ∙ w.0, (w.1.0, (list ∙ w.1.1.0, w.1.1.1), w.1.2))

-- nothing was added
pub works_none : {L A : Type 0} (pass : ℕ) (old new : Node L) (x : A) → new.trace.items ≡ old.trace.items → new.boot ≡ None → Works pass old new (Ok x)
works_none pass old new x list boot = (boot, ([], (list ∙ sym (append-nil old.trace.items), tt), refl))
