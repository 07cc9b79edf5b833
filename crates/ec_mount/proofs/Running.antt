-- From the shared clerk to what the net has of its run.
use Rattle.std.proofs.Common.{◌≡◌, ◌<◌, ◌+◌, ℕ, false, List, [], ◌∷◌, ◌++◌, length, map, take, Option, Some, None, Result, Ok, Err, IfSome, refl, sym, ap, ◌∙◌, subst, inl, inr, ⊎_elim, arith, append_assoc}
use Rattle.std.proofs.lemmas.List.{append_cancel_left}
use mathlib.Core.List.{IsPrefix}
use Rattle.ec_base.specs.declared.ids.Age.{Age}
use Rattle.ec_plain.specs.declared.call.Call.{Call}
use Rattle.ec_protocol.specs.Clerk.{start}
use Rattle.ec_protocol.specs.declared.clerk.Clerk.{Clerk}
use Rattle.ec_protocol.specs.declared.clerk.Out.{Out}
use Rattle.ec_lock.specs.PassViews.{front, numbers}
use Rattle.ec_lock.specs.Steps.{Member, of}
use Rattle.ec_lock.specs.declared.types.Pass.{Pass}
use Rattle.ec_lock.specs.declared.types.TracedLock.{TracedLock}
use Rattle.ec_link.specs.Links.{Heard, added}
use Rattle.ec_link.specs.Nets.{Ended}
use Rattle.ec_link.specs.NetAnswers.{is_bad, IsEmpty}
use Rattle.ec_outs.specs.Outs.{Reply, encoded, sends}
use Rattle.ec_clerknode.specs.declared.fault.NodeFault.{NodeFault}
use Rattle.ec_clerknode.specs.declared.fault.NodeFault.TheVariants as fault
use Rattle.ec_clerknode.specs.declared.state.Node.{Node}
use Rattle.ec_clerknode.specs.declared.step.Step.{Step}
use Rattle.ec_clerknode.specs.Parts.{parts}
use Rattle.ec_clerknode.specs.PresentLink.{has_link, part, LinksBy}
use Rattle.ec_clerknode.specs.Run.{IsRun, AreSaid, calls, heard_by, said_by, told_by, old_boot}
use Rattle.ec_clerknode.specs.RunEnds.{nets}
use Rattle.ec_clerknode.specs.Turns.{number_of}
use Rattle.ec_clerknode.specs.PassTurns.{Finished}
use Rattle.ec_clerknode.proofs.Lists.{prefix_get}
use Rattle.ec_clerknode.proofs.Parts.{part_whole, parts_more, some_parts, has_two, has_parts}
use Rattle.ec_outs.proofs.Told.{added-nil}
use Rattle.ec_mount.specs.Run.{NetSeen, AreTold, CameUnsent, LostUnsent, Ran, Holds, HoldsFronts, Has, Met, Lost}
use Rattle.ec_mount.specs.RunsAlone.{RanAlone}
use Rattle.ec_mount.specs.Run as run
use Rattle.ec_mount.specs.Calls.{HoldsAll, FrontsStand, IfSaid, CallsEnd, Called}
use Rattle.ec_mount.specs.Work.{Given, LinkSeen, RanOver, Cut, TellsAnswer, UnlessWanting, Concludes, last_answer, RunsOver, Took, NotGreeted, CameBack, WorksOver, Works, WorksTo}
use Rattle.ec_mount.specs.Linking.{AreToldFrom, HasLinked, nets_in}
use Rattle.ec_mount.proofs.Causes.{has_longer, net_counted}
use Rattle.ec_mount.proofs.Linking.{whole_now, told_now, told_behind, told_all, told_from, nets_parts, nets_last, some_of, bad_of}
use Rattle.ec_base.specs.Lists.{Tells as run_Tells}
use Rattle.ec_base.proofs.Lists.{all-taken, prefix_trans}

-- a link, by what is told of it
abbrev pub seen_of : {L : Type 0} → (L → ℕ) → (L → Option (List Heard)) → (L → Option (List (List ℕ))) → L → LinkSeen
seen_of counts given got l = record { counts = counts l; given = given l; got = got l }

-- The shared clerk is closed.

module _ {L : Type 0} (lock : TracedLock (Node L) Step) (old called closed : Pass (Node L) Step) (lanes : List (List Call)) (all : List (List Reply)) (made : Result Reply NodeFault) (c : Called lock old lanes called all made)
    (zero : old.number ≡ 0) (later : IsPrefix (front called) (front closed)) (own : (n : ℕ) → Member n (numbers called) → of number_of n (front called) ≡ of number_of n (front closed))
    (mine : Member called.number (numbers called)) where
  is_zero : called.number ≡ 0
  is_zero = c.number ∙ zero

  module _ (last : Reply) (h : HoldsAll lock called lanes all last) where
    holds_closed : Holds called.number lanes (front closed) all last
    holds_closed = let k = h.holds in record {
      passes = k.passes;
      distinct = k.distinct;
      other = k.other;
      before = k.before;
      ran = k.ran;
      idle = k.idle;
      synced = k.synced;
      lanes_done = k.lanes_done;
      first_then = k.first_then;
      sync = k.sync;
      later = prefix_trans k.synced (front called) (front closed) k.later later;
      lanes_once = λ n m. k.lanes_once n m ∙ own n (h.within n m);
      sync_once = sym (ap calls (own called.number mine)) ∙ k.sync_once;
      goodbye = let g = k.goodbye in (g.0, g.1, g.2, prefix_get (front called) (front closed) g.0 g.1 later g.3, g.4, g.5);
    }

    pub holds_all : Holds 0 lanes (front closed) all last
    holds_all = subst (λ n. Holds n lanes (front closed) all last) is_zero holds_closed

  fronts_closed : FrontsStand lock called lanes all → HoldsFronts called.number lanes (front closed) all
  fronts_closed h = record {
    passes = h.passes;
    distinct = h.distinct;
    other = h.other;
    before = h.before;
    ran = h.ran;
    fronts = h.fronts;
    later = prefix_trans h.ran (front called) (front closed) h.later later;
    once = λ n m. h.once n m ∙ own n (h.within n m);
  }

  holds_fronts : FrontsStand lock called lanes all → HoldsFronts 0 lanes (front closed) all
  holds_fronts h = subst (λ n. HoldsFronts n lanes (front closed) all) is_zero (fronts_closed h)

  module _ (told : List (List ℕ)) (told_is : told ≡ told_by (front closed)) (boot : Option Age) (boot_is : boot ≡ old_boot (front closed)) where
    cut : (none : boot ≡ None) (f : NodeFault) → Has f (front called) → FrontsStand lock called lanes all → Cut lanes (front closed) all told f
    cut none f h s = record { old_boot = sym boot_is ∙ none; has = has_longer (front called) (front closed) later f h; came = holds_fronts s; told_is = told_is }

    told_more : (none : boot ≡ None) (f : NodeFault) → Has f (front called) → IfSaid f (FrontsStand lock called lanes all) → TellsAnswer lanes (front closed) all told (Err f)
    told_more none fault.Net h s = cut none fault.Net h s
    told_more none (fault.Peer why) h s = cut none (fault.Peer why) h s
    told_more none (fault.Long n) h s = cut none (fault.Long n) h s
    told_more none (fault.OldBoot age) h s = has_longer (front called) (front closed) later (fault.OldBoot age) h
    told_more none (fault.Spent k) h s = cut none (fault.Spent k) h s
    told_more none fault.NoMemory h s = tt

    told_so : (none : boot ≡ None) (r : Result Reply NodeFault) → CallsEnd lock called lanes all r → TellsAnswer lanes (front closed) all told r
    told_so none (Ok last) d = (sym boot_is ∙ none, holds_all last d, told_is)
    told_so none (Err f) d = told_more none f d.0 d.1

    tells : (b : Option Age) → boot ≡ b → TellsAnswer lanes (front closed) all told (last_answer b made)
    tells None e = told_so e made c.done
    tells (Some age) e = sym boot_is ∙ e

  unless : {A : Type 0} (r : Result A NodeFault) (P : Type 0) → P → UnlessWanting r P
  unless (Ok x) P p = p
  unless (Err fault.Net) P p = p
  unless (Err (fault.Peer why)) P p = p
  unless (Err (fault.Long n)) P p = p
  unless (Err (fault.OldBoot age)) P p = p
  unless (Err (fault.Spent k)) P p = p
  unless (Err fault.NoMemory) P p = tt

  module _ (counts : L → ℕ) (given : L → Option (List Heard)) (got : L → Option (List (List ℕ))) (first : Node L) (clerk : Clerk) (link back : L) (is_clerk : first.clerk ≡ clerk) (is_link : first.link ≡ link)
      (before after : NetSeen) (by : LinksBy (Some 1) (front closed)) where
    ran_over : (k : Clerk) → HasLinked counts given got first called before after → Finished counts given got first (front closed) (Some k) back → AreSaid (front closed) → RanOver clerk (seen_of counts given got link) (seen_of counts given got back) before after (front closed)
    ran_over k l f said =
        let zs = front closed in
        let h = l.handed in
        let one = own 1 l.within in
        let whole = whole_now counts given got first 1 before after (front called) zs h later one by in
        let told = told_now counts given got first 1 before after (front called) zs h later one by back f.3.1 f.2 in
        let low = h.handed.low in
        let few = f.1 in
        let all = nets_parts zs in
        record {
          run = subst (λ x. IsRun x zs) is_clerk f.0;
          whole = said;
          links = h.handed.links;
          ended = h.handed.ended;
          told = subst (λ x. AreToldFrom (given x) (got x) [] (h.handed.links ++ (given back, got back) ∷ []) (parts zs)) is_link
              (subst (λ l. AreToldFrom (given first.link) (got first.link) [] (h.handed.links ++ (given back, got back) ∷ []) l) (sym whole) told);
          low = low;
          counted = λ some.
              ⊎_elim (λ (m : 0 < nets_in h.handed.over). inl (h.handed.rose m)) (λ (n : 0 < nets (part zs)). inr (omega (arith, n, few)))
              (some_of (nets_in h.handed.over) (nets (part zs)) (omega (arith, some, all, ap nets_in whole, nets_last h.handed.over (part zs))));
        }

    pub runs_over : (k : Option Clerk) (told : List (List ℕ)) (boot : Option Age) (given_all : Given) → HasLinked counts given got first called before after → Finished counts given got first (front closed) k back → IfSome k (λ _. AreSaid (front closed)) → IfSome k (λ _. told ≡ told_by (front closed))
        → boot ≡ old_boot (front closed) → Concludes k told boot all made given_all → RunsOver clerk lanes (seen_of counts given got link) (seen_of counts given got back) before after given_all
    runs_over None told boot r l f said t b h =
        subst (λ x. UnlessWanting x ((steps : List Step) × RanOver clerk (seen_of counts given got link) (seen_of counts given got back) before after steps × TellsAnswer lanes steps r.0 r.1 x)) (sym h) tt
    runs_over (Some k) told boot r l f said t b h = subst (λ x. RunsOver clerk lanes (seen_of counts given got link) (seen_of counts given got back) before after x) (sym h)
        (unless (last_answer boot made) _ (front closed, ran_over k l f said, tells told t boot b boot refl))

-- The link is left, which changes nothing that is told of it.

abbrev link_seen : ℕ → Option (List Heard) → Option (List (List ℕ)) → LinkSeen
link_seen counts given got = record { counts = counts; given = given; got = got }

seen_same : (a b : ℕ) (g h : Option (List Heard)) (s t : Option (List (List ℕ))) → a ≡ b → g ≡ h → s ≡ t → link_seen a g s ≡ link_seen b h t
seen_same a b g h s t e f k = subst (λ n. link_seen a g s ≡ link_seen n h t) e (subst (λ x. link_seen a g s ≡ link_seen a x t) f (subst (λ x. link_seen a g s ≡ link_seen a g x) k refl))

pub runs_left : {L : Type 0} (faults closes : L → ℕ) (given : L → Option (List Heard)) (got : L → Option (List (List ℕ))) (clerk : Clerk) (lanes : List (List Call)) (old : LinkSeen) (before after : NetSeen) (back link left : L) (r : Given) → link ≡ back → (faults left ≡ faults link) × (closes left ≡ closes link)
    → (given left ≡ given link) × (got left ≡ got link) → RunsOver clerk lanes old (seen_of (λ l. faults l + closes l) given got back) before after r → RunsOver clerk lanes old (seen_of (λ l. faults l + closes l) given got left) before after r
runs_left faults closes given got clerk lanes old before after back link left r is counts bodies h =
    let same : seen_of (λ l. faults l + closes l) given got back ≡ seen_of (λ l. faults l + closes l) given got left =
    sym (ap (seen_of (λ l. faults l + closes l) given got) is) ∙ seen_same (faults link + closes link) (faults left + closes left) (given link) (given left) (got link) (got left) (omega (arith, counts.0, counts.1)) (sym bodies.0) (sym bodies.1) in
    subst (λ s. RunsOver clerk lanes old s before after r) same h

-- Over a link that took the greeting, which comes back too.

unless_so : {A : Type 0} (r : Result A NodeFault) (P Q : Type 0) → (P → Q) → UnlessWanting r P → UnlessWanting r Q
unless_so (Ok x) P Q f p = f p
unless_so (Err fault.Net) P Q f p = f p
unless_so (Err (fault.Peer why)) P Q f p = f p
unless_so (Err (fault.Long n)) P Q f p = f p
unless_so (Err (fault.OldBoot age)) P Q f p = f p
unless_so (Err (fault.Spent k)) P Q f p = f p
unless_so (Err fault.NoMemory) P Q f p = tt

module _ (clerk : Clerk) (outs : List Out) (lanes : List (List Call)) (before greeted ran after : NetSeen) (faults closes : ℕ) (old new : LinkSeen) (came : CameUnsent outs before greeted) (took : Took outs old.given old.got)
    (counts : new.counts ≡ faults + closes) (bad : after.bad ≡ ran.bad + is_bad faults closes) (ended : after.ended ≡ ran.ended ++ (new.given, new.got) ∷ []) where
  module _ (steps : List Step) (r : RanOver clerk old new greeted ran steps) where
    all_ended : after.ended ≡ before.ended ++ (came.links ++ (r.links ++ (new.given, new.got) ∷ []))
    all_ended =
        let last = (new.given, new.got) ∷ [] in
        ended ∙ (ap (λ l. l ++ last) (r.ended ∙ ap (λ l. l ++ r.links) came.ended) ∙ (append_assoc (before.ended ++ came.links) r.links last ∙ append_assoc before.ended came.links (r.links ++ last)))

    all_told : AreTold (map encoded (sends outs)) (r.links ++ (new.given, new.got) ∷ []) (parts steps)
    all_told =
        let links = r.links ++ (new.given, new.got) ∷ [] in
        let start = map encoded (sends outs) in
        told_all old.given took.0 start links (parts steps) took.1 took.2 (told_behind old.given old.given took.0 old.got start links (parts steps) refl took.3 r.told)

    -- a link was bad
    rose : 0 < nets steps → before.bad < after.bad
    rose some =
        let low = r.low in
        let few = came.bad in
        ⊎_elim (λ (m : greeted.bad < ran.bad). omega (arith, bad, few, m)) (λ (n : 0 < new.counts). omega (arith, bad, few, low, bad_of faults closes (omega (arith, n, counts)))) (r.counted some)

    came_back : CameBack clerk outs before after steps
    came_back =
        let low = r.low in
        let few = came.bad in
        record {
          run = r.run;
          whole = r.whole;
          unsent = came.links;
          mute = came.unsent;
          bad = omega (arith, few, low, bad);
          links = r.links ++ (new.given, new.got) ∷ [];
          ended = all_ended;
          told = all_told;
          counted = rose;
        }

  pub works_over : (given : Given) → RunsOver clerk lanes old new greeted ran given → WorksOver clerk outs lanes before after given
  works_over given r =
      inr (unless_so given.2 ((steps : List Step) × RanOver clerk old new greeted ran steps × TellsAnswer lanes steps given.0 given.1 given.2) ((steps : List Step) × CameBack clerk outs before after steps × TellsAnswer lanes steps given.0 given.1 given.2)
      (λ w. (w.0, came_back w.0 w.1, w.2)) r)

-- no link took the greeting
pub works_not : (clerk : Clerk) (outs : List Out) (lanes : List (List Call)) (before after : NetSeen) (f : NodeFault) → NotGreeted outs before after f → WorksOver clerk outs lanes before after ([], [], Err f)
works_not clerk outs lanes before after fault.Net l = inl (refl, l)
works_not clerk outs lanes before after (fault.Peer why) l = absurd l
works_not clerk outs lanes before after (fault.Long n) l = absurd l
works_not clerk outs lanes before after (fault.OldBoot age) l = absurd l
works_not clerk outs lanes before after (fault.Spent k) l = absurd l
works_not clerk outs lanes before after fault.NoMemory l = inr tt

-- Over the net.

module _ (id boot : ℕ) (clerk : Clerk) (outs : List Out) (lanes : List (List Call)) (before called after : NetSeen) (starts : start id boot ≡ record { clerk = clerk; outs = outs; spent = None })
    (same : (called.bad ≡ before.bad) × (called.ended ≡ before.ended)) where
  ran : (steps : List Step) → CameBack clerk outs called after steps → Ran id boot before after steps
  ran steps r =
      let few = r.bad in
      let low = same.0 in
      record {
        clerk = clerk;
        outs = outs;
        starts = starts;
        run = r.run;
        whole = r.whole;
        unsent = r.unsent;
        mute = r.mute;
        bad = omega (arith, few, low);
        links = r.links;
        ended = r.ended ∙ ap (λ l. l ++ (r.unsent ++ r.links)) same.1;
        told = r.told;
      }

  met : (steps : List Step) (f : NodeFault) (all : List (List Reply)) (told : List (List ℕ)) → CameBack clerk outs called after steps → Cut lanes steps all told f → Met id boot lanes before after f all told
  met steps f all told r c = record { steps = steps; ran = ran steps r; old_boot = c.old_boot; has = c.has; came = c.came; told_is = c.told_is }

  rises : (steps : List Step) → CameBack clerk outs called after steps → 0 < nets steps → before.bad < after.bad
  rises steps r some = let more = r.counted some in let low = same.0 in omega (arith, more, low)

  worked : (all : List (List Reply)) (told : List (List ℕ)) (last : Result Reply NodeFault) → UnlessWanting last ((steps : List Step) × CameBack clerk outs called after steps × TellsAnswer lanes steps all told last) → WorksTo id boot lanes before after all told last
  worked all told (Ok x) r = (r.0, ran r.0 r.1, r.2)
  worked all told (Err fault.Net) r = inr (rises r.0 r.1 (net_counted r.0 r.2.has), inr (met r.0 fault.Net all told r.1 r.2))
  worked all told (Err (fault.Peer why)) r = met r.0 (fault.Peer why) all told r.1 r.2
  worked all told (Err (fault.Long n)) r = met r.0 (fault.Long n) all told r.1 r.2
  worked all told (Err (fault.OldBoot age)) r = (r.0, ran r.0 r.1, r.2)
  worked all told (Err (fault.Spent k)) r = inr (met r.0 (fault.Spent k) all told r.1 r.2)
  worked all told (Err fault.NoMemory) r = tt

  lost : LostUnsent outs called after → Lost id boot lanes before after [] []
  lost l =
      let c = l.0 in
      let some = l.1 in
      let few = c.bad in
      let low = same.0 in
      inr (
        omega (arith, some, few, low),
        inl (
          (clerk, outs, starts, (record { links = c.links; unsent = c.unsent; ended = c.ended ∙ ap (λ l. l ++ c.links) same.1; bad = omega (arith, few, low) }, some)),
          (refl, refl),
        ),
      )

  pub works : (given : Given) → WorksOver clerk outs lanes called after given → Works id boot lanes before after given
  works given h =
      ⊎_elim (λ (a : (given ≡ ([], [], Err fault.Net)) × LostUnsent outs called after). subst (Works id boot lanes before after) (sym a.0) (lost a.1))
      (λ (b : UnlessWanting given.2 ((steps : List Step) × CameBack clerk outs called after steps × TellsAnswer lanes steps given.0 given.1 given.2)). worked given.0 given.1 given.2 b)
      h

-- Where one link came back, without an exchange, that is the one.

alone_of : (start : List (List ℕ)) (links : List Ended) (steps : List Step) → AreTold start links (steps ∷ []) → (given : Option (List Heard)) × (got : Option (List (List ℕ))) × (links ≡ (given, got) ∷ []) × run_Tells given (heard_by steps) × run_Tells got (start ++ said_by steps)
alone_of start [] steps a = absurd a
alone_of start (e ∷ []) steps a = (e.0, e.1, refl, a.0, a.1)
alone_of start (e ∷ f ∷ fs) steps a = absurd a.2

one_part : (steps : List Step) → has_link steps ≡ false → parts steps ≡ steps ∷ []
one_part steps none = parts_more [] steps [] none refl ∙ ap (λ p. p ∷ []) (part_whole steps none)

ran_alone : (id boot : ℕ) (before after : NetSeen) (steps : List Step) → has_link steps ≡ false → (r : Ran id boot before after steps) → r.unsent ≡ [] → RanAlone id boot before after steps
ran_alone id boot before after steps none r first =
    let one = alone_of (map encoded (sends r.outs)) r.links steps (subst (AreTold (map encoded (sends r.outs)) r.links) (one_part steps none) r.told) in
    record { clerk = r.clerk; outs = r.outs; starts = r.starts; run = r.run; whole = r.whole; given = one.0; got = one.1; ended = r.ended ∙ ap (λ l. before.ended ++ l) (ap (λ l. l ++ r.links) first ∙ one.2); heard = one.3; sent = one.4 }

two_none : (start : List (List ℕ)) (e : Ended) (ps : List (List Step)) → AreTold start (e ∷ []) ps → has_two ps ≡ false
two_none start e [] a = refl
two_none start e (p ∷ []) a = refl
two_none start e (p ∷ q ∷ qs) a = absurd a.2

one_of : (start : List (List ℕ)) (unsent links : List Ended) (ps : List (List Step)) (e : Ended) → unsent ++ links ≡ e ∷ [] → AreTold start links ps → (p : List Step) × (qs : List (List Step)) × (ps ≡ p ∷ qs) → (unsent ≡ []) × (links ≡ e ∷ [])
one_of start [] links ps e is a some = (refl, is)
one_of start (u ∷ us) [] [] e is a some = absurd (cc some.2)
one_of start (u ∷ us) [] (p ∷ qs) e is a some = absurd a
one_of start (u ∷ []) (l ∷ ls) ps e is a some = absurd (cc is)
one_of start (u ∷ v ∷ us) (l ∷ ls) ps e is a some = absurd (cc is)

-- where one link came back, it took the greeting and none was exchanged
pub ran_one : (id boot : ℕ) (before after : NetSeen) (steps : List Step) (e : Ended) → after.ended ≡ before.ended ++ e ∷ [] → Ran id boot before after steps → RanAlone id boot before after steps
ran_one id boot before after steps e one r =
    let start = map encoded (sends r.outs) in
    let all : r.unsent ++ r.links ≡ e ∷ [] = append_cancel_left before.ended (r.unsent ++ r.links) (e ∷ []) (sym r.ended ∙ one) in
    let found = one_of start r.unsent r.links (parts steps) e all r.told (some_parts steps) in
    ran_alone id boot before after steps (has_parts steps ∙ two_none start e (parts steps) (subst (λ l. AreTold start l (parts steps)) found.1 r.told)) r found.0
