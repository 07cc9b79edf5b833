-- From the volumes that were reached and ended to the runs of their clerks.
use Rattle.std.proofs.Common.{◌≡◌, ◌⊎◌, ◌+◌, ◌<◌, ◌≤◌, ℕ, zero, suc, Bool, true, false, List, [], ◌∷◌, ◌++◌, length, Option, Some, None, IfSome, Result, Ok, Err, refl, sym, ap, ◌∙◌, subst, inl, inr, ⊎_elim, arith, append_assoc, append-nil}
use Rattle.std.specs.Prelude.{is_ok, map, slice_get, Vec}
use Rattle.std.specs.declared.alloc.Global.{Global}
use mathlib.Core.List.{IsPrefix}
use Rattle.ec_base.specs.declared.ids.Age.{Age}
use Rattle.ec_base.specs.declared.counter.Counter.{Counter}
use Rattle.ec_plain.specs.Walk.{Path}
use Rattle.ec_plain.specs.declared.call.Call.{Call}
use Rattle.ec_plain.specs.declared.call.Call.TheVariants.{Sync}
use Rattle.ec_protocol.specs.Clerk.{start}
use Rattle.ec_lock.specs.PassViews.{first, front}
use Rattle.ec_lock.specs.declared.types.Pass.{Pass}
use Rattle.ec_lock.specs.declared.types.TracedLock.{TracedLock}
use Rattle.ec_link.specs.Links.{Heard, added}
use Rattle.ec_link.specs.Nets.{Ended}
use Rattle.ec_outs.specs.Outs.{Reply, encoded, sends}
use Rattle.ec_outs.proofs.Told.{added-added}
use Rattle.ec_clerknode.specs.declared.fault.NodeFault.{NodeFault}
use Rattle.ec_clerknode.specs.declared.fault.NodeFault.TheVariants as fault
use Rattle.ec_clerknode.specs.declared.state.Node.{Node}
use Rattle.ec_clerknode.specs.declared.step.Step.{Step}
use Rattle.ec_clerknode.specs.LaneRuns.{lists_of}
use Rattle.ec_clerknode.specs.Lanes.{IsFront}
use Rattle.ec_clerknode.specs.Run.{told_by, old_boot, heard_by, said_by}
use Rattle.ec_clerknode.specs.Turns.{calls_by, SaidBye}
use Rattle.ec_clerknode.proofs.LaneCalls.{are_longer}
use Rattle.ec_clerknode.proofs.Parts.{part_whole, parts_more}
use Rattle.ec_mount.specs.Run.{NetSeen, AreTold, Has, Ran, Unheard}
use Rattle.ec_mount.proofs.Causes.{has_longer, net_counted}
use Rattle.ec_mount.proofs.Linking.{told_from}
use Rattle.ec_mount_table.specs.Rows.{calls_at, next_at, replies_at, reply_in}
use Rattle.ec_mount_table.specs.Runs.{AreNew, AreWithin, CutOff, Each, HasOne, LostOne, MetOne, RanAll, SpendsOne, first_boot, links_at, or_boot, view}
use Rattle.ec_mount_table.specs.Table.{HoldsAll}
use Rattle.ec_mount_table.specs.Going.{AllClosed, ClosedOne, EndedAll, Greeted, Holding, MadeAll, PassHas, Parted, ReachedThese, ReachFails, Stopped, Unless, Works, Concludes, backwards, items_of, last_fault, last_of}
use Rattle.ec_mount_table.specs.declared.ending.Ends.{Ends}
use Rattle.ec_mount_table.specs.declared.script.Row.{Row}
use Rattle.ec_mount_table.specs.declared.seen.Seen.{Seen}
use Rattle.ec_mount_table.specs.declared.work.Answers.{Answers}
use Rattle.ec_mount_table.proofs.Links.{Link, down_first, down_ended, ended_append, links_append, links_outside, tag_down, within_append, within_down, within_more}
use Rattle.ec_mount_table.proofs.Reaching.{lost_still}
use Rattle.ec_mounts.proofs.Seats.{IsNothing, some_is}

-- whether calls that ended so are done
abbrev pub DoneAs : {A : Type 0} → Bool → Result A NodeFault → Type 0
DoneAs is_done (Ok x) = is_done ≡ true
DoneAs is_done (Err f) = is_done ≡ false

-- The greater age.

or_none : (a b : Option Age) → or_boot a b ≡ None → (a ≡ None) × (b ≡ None)
or_none None b e = (refl, e)
or_none (Some x) b e = absurd (cc e)

are_new : (runs : List (List Step)) → first_boot runs ≡ None → AreNew runs
are_new [] e i steps at = absurd (subst IsNothing at tt)
are_new (r ∷ runs) e zero steps at = subst (λ s. old_boot s ≡ None) (some_is at) (or_none (old_boot r) (first_boot runs) e).0
are_new (r ∷ runs) e (suc i) steps at = are_new runs (or_none (old_boot r) (first_boot runs) e).1 i steps at

module _ {L : Type 0} (given : L → Option (List Heard)) (got : L → Option (List (List ℕ))) where
  -- what stands at a place of the volumes that ended
  closed_at : (locks : List (TracedLock (Node L) Step)) (passes : List (Pass (Node L) Step)) (runs : List (List Step)) (links : List Ended) (i : ℕ) (steps : List Step) → AllClosed given got locks passes runs links → slice_get runs i ≡ Some steps
      → (lock : TracedLock (Node L) Step) × (pass : Pass (Node L) Step) × (link : Ended) × (slice_get locks i ≡ Some lock) × (slice_get passes i ≡ Some pass) × (slice_get links i ≡ Some link) × ClosedOne given got lock pass steps link
  closed_at [] [] [] [] i steps c at = absurd (subst IsNothing at tt)
  closed_at (l ∷ ls) (p ∷ ps) (r ∷ rs) (e ∷ es) zero steps c at = (l, p, e, refl, refl, refl, subst (λ s. ClosedOne given got l p s e) (some_is at) c.0)
  closed_at (l ∷ ls) (p ∷ ps) (r ∷ rs) (e ∷ es) (suc i) steps c at = closed_at ls ps rs es i steps c.1 at
  closed_at [] [] [] (e ∷ es) i steps c at = absurd c
  closed_at [] [] (r ∷ rs) es i steps c at = absurd c
  closed_at [] (p ∷ ps) rs es i steps c at = absurd c
  closed_at (l ∷ ls) [] rs es i steps c at = absurd c
  closed_at (l ∷ ls) (p ∷ ps) [] es i steps c at = absurd c
  closed_at (l ∷ ls) (p ∷ ps) (r ∷ rs) [] i steps c at = absurd c

  -- and of the volumes by their passes
  ended_at : (locks : List (TracedLock (Node L) Step)) (passes : List (Pass (Node L) Step)) (runs : List (List Step)) (links : List Ended) (i : ℕ) (pass : Pass (Node L) Step) → AllClosed given got locks passes runs links → slice_get passes i ≡ Some pass
      → (steps : List Step) × (slice_get runs i ≡ Some steps) × IsPrefix (front pass) steps
  ended_at [] [] [] [] i pass c at = absurd (subst IsNothing at tt)
  ended_at (l ∷ ls) (p ∷ ps) (r ∷ rs) (e ∷ es) zero pass c at = (r, refl, subst (λ q. IsPrefix (front q) r) (some_is at) c.0.later)
  ended_at (l ∷ ls) (p ∷ ps) (r ∷ rs) (e ∷ es) (suc i) pass c at = ended_at ls ps rs es i pass c.1 at
  ended_at [] [] [] (e ∷ es) i pass c at = absurd c
  ended_at [] [] (r ∷ rs) es i pass c at = absurd c
  ended_at [] (p ∷ ps) rs es i pass c at = absurd c
  ended_at (l ∷ ls) [] rs es i pass c at = absurd c
  ended_at (l ∷ ls) (p ∷ ps) [] es i pass c at = absurd c
  ended_at (l ∷ ls) (p ∷ ps) (r ∷ rs) [] i pass c at = absurd c

  all_many : (locks : List (TracedLock (Node L) Step)) (passes : List (Pass (Node L) Step)) (runs : List (List Step)) (links : List Ended) → AllClosed given got locks passes runs links → (length runs ≡ length locks) × (length links ≡ length locks)
  all_many [] [] [] [] c = (refl, refl)
  all_many (l ∷ ls) (p ∷ ps) (r ∷ rs) (e ∷ es) c = let h = all_many ls ps rs es c.1 in (ap suc h.0, ap suc h.1)
  all_many [] [] [] (e ∷ es) c = absurd c
  all_many [] [] (r ∷ rs) es c = absurd c
  all_many [] (p ∷ ps) rs es c = absurd c
  all_many (l ∷ ls) [] rs es c = absurd c
  all_many (l ∷ ls) (p ∷ ps) [] es c = absurd c
  all_many (l ∷ ls) (p ∷ ps) (r ∷ rs) [] c = absurd c

  -- the run of one volume, over its own links
  ran_at : (id boot p : ℕ) (lock : TracedLock (Node L) Step) (pass : Pass (Node L) Step) (steps : List Step) (link : Ended) (before now after : NetSeen) (links more : List Link) → Greeted given got id boot (first lock) (view p [] before) (view p links now) → ClosedOne given got lock pass steps link
      → links_at p more ≡ link ∷ [] → now.bad ≤ after.bad → Ran id boot (view p [] before) (view p (links ++ more) after) steps
  ran_at id boot p lock pass steps link before now after links more g c one low =
      let few = g.came.bad in
      let start = map encoded (sends g.outs) in
      let base = g.took.0 in
      let sent : link.1 ≡ added base (start ++ said_by steps) = c.sent ∙ (ap (λ o. added o (said_by steps)) g.took.3 ∙ added-added base start (said_by steps)) in
      record {
        clerk = (first lock).clerk;
        outs = g.outs;
        starts = g.starts;
        run = c.run;
        whole = c.whole;
        unsent = g.came.links;
        mute = g.came.unsent;
        bad = omega (arith, few, low);
        links = link ∷ [];
        ended = links_append p links more ∙ (ap (λ l. links_at p links ++ l) one ∙ ap (λ l. l ++ link ∷ []) g.came.ended);
        told = subst (AreTold start (link ∷ [])) (sym (parts_more [] steps [] c.alone refl ∙ ap (λ p. p ∷ []) (part_whole steps c.alone))) (told_from (given (first lock).link) link.0 (heard_by steps) g.took.1 c.heard, told_from base link.1 (start ++ said_by steps) g.took.2 sent, tt);
      }

  module _ (id boot many : ℕ) (before now after : NetSeen) (locks : List (TracedLock (Node L) Step)) (passes : List (Pass (Node L) Step)) (told : List (List (List ℕ))) (age : Option Age) (met : Option NodeFault) (is_done : Bool)
      (r : ReachedThese given got id boot many before now locks) (e : EndedAll given got is_done now after locks passes told age met) (within : length locks ≤ many) where
    runs_many : length e.runs ≡ length locks
    runs_many = (all_many locks passes e.runs e.links e.closed).0

    ran_all : RanAll id boot many before after e.runs
    ran_all =
        let had = map (λ (link : Link). link.1) r.links in
        let down = tag_down 0 e.links in
        record {
          links = r.links ++ down;
          ended = e.ended ∙ (ap (λ l. l ++ backwards e.links) r.ended ∙ (append_assoc before.ended had (backwards e.links)
              ∙ ap (λ l. before.ended ++ l) (ap (λ l. had ++ l) (sym (down_ended 0 e.links)) ∙ sym (ended_append r.links down))));
          inside = within_append many r.links down r.inside (within_down many 0 e.links (omega (arith, within, (all_many locks passes e.runs e.links e.closed).1)));
          each = λ i steps at.
              let c = closed_at locks passes e.runs e.links i steps e.closed at in
              ran_at id boot i c.0 c.1 steps c.2 before now after r.links down (r.each i c.0 c.3) c.6 (down_first i e.links c.2 c.5) e.low;
        }

    module _ (table : List Path) (rows : List Row) (fits : length locks ≡ length table) (many_is : many ≡ length table) where
      ran_table : RanAll id boot (length table) before after e.runs
      ran_table = subst (λ n. RanAll id boot n before after e.runs) many_is ran_all

      runs_table : length e.runs ≡ length table
      runs_table = runs_many ∙ fits

      pass_of : (i : ℕ) (steps : List Step) → slice_get e.runs i ≡ Some steps → (pass : Pass (Node L) Step) × (slice_get passes i ≡ Some pass) × IsPrefix (front pass) steps × (calls_by pass.number steps ≡ calls_by pass.number (front pass))
      pass_of i steps at =
          let c = closed_at locks passes e.runs e.links i steps e.closed at in (c.1, c.4, c.6.later, c.6.begun)

      front_longer : (calls : List Call) (replies : List Reply) (pass : Pass (Node L) Step) (steps : List Step) → pass.number ≡ 0 → IsPrefix (front pass) steps → calls_by pass.number steps ≡ calls_by pass.number (front pass) → IsFront 0 [] calls [] (front pass) replies → IsFront 0 [] calls [] steps replies
      front_longer calls replies pass steps none later begun f = record {
        answered = f.answered;
        last = f.last;
        rest = f.rest;
        whole = f.whole;
        few = f.few;
        begun = subst (λ n. calls_by n steps ≡ calls_by n (front pass)) none begun ∙ f.begun;
        replied = are_longer 0 (front pass) steps later 0 f.answered replies f.replied;
      }

      has_longer_one : (f : NodeFault) → PassHas f passes → HasOne f e.runs
      has_longer_one f h =
          let end = ended_at locks passes e.runs e.links h.0 h.1 e.closed h.2 in (h.0, end.0, end.1, has_longer (front h.1) end.0 end.2 f h.3)

      cut_longer : (mets : List Seen) (replies : List Reply) (f : NodeFault) → Stopped table rows mets replies f passes → CutOff table rows mets replies f e.runs
      cut_longer mets replies f s = record {
        done = s.done;
        rest = s.rest;
        whole = s.whole;
        seen = s.seen;
        to = s.to;
        next = s.next;
        shown = s.shown;
        has = has_longer_one f s.has;
        fronts = λ i steps at.
            let p = pass_of i steps at in
            let k = s.fronts i p.0 p.1 in
            front_longer (calls_at table i s.done mets ++ next_at table i s.rest s.to) (replies_at i mets ++ reply_in replies i) p.0 steps k.0 p.2 p.3 k.1;
      }

      met_one : (mets : List Seen) (replies : List Reply) (f : NodeFault) → age ≡ None → CutOff table rows mets replies f e.runs → MetOne id boot table rows before after f mets replies told
      met_one mets replies f none c = record { runs = e.runs; many = runs_table; ran = ran_table; new = are_new e.runs (sym e.boot_is ∙ none); cut = c; told_is = e.told_is }

      -- a link had failed or was closed
      rises : (f : NodeFault) → f ≡ fault.Net → HasOne f e.runs → before.bad < after.bad
      rises f is h =
          let net : Has fault.Net h.1 = subst (λ g. Has g h.1) is h.3 in
          let rose = e.rose h.0 h.1 h.2 (net_counted h.1 net) in
          let low = r.low in
          omega (arith, rose, low)

      fails : (mets : List Seen) (replies : List Reply) (f : NodeFault) → age ≡ None → Unless f (CutOff table rows mets replies f e.runs) → Works id boot table rows before after mets replies told (Err f)
      fails mets replies fault.Net none c = inr (rises fault.Net refl c.has, met_one mets replies fault.Net none c)
      fails mets replies (fault.Peer why) none c = met_one mets replies (fault.Peer why) none c
      fails mets replies (fault.Long n) none c = met_one mets replies (fault.Long n) none c
      fails mets replies (fault.OldBoot other) none c =
          let h = c.has in absurd (cc (sym (are_new e.runs (sym e.boot_is ∙ none) h.0 h.1 h.2) ∙ h.3))
      fails mets replies (fault.Spent k) none c = inr (met_one mets replies (fault.Spent k) none c)
      fails mets replies fault.NoMemory none c = tt

      unless_longer : (mets : List Seen) (replies : List Reply) (f : NodeFault) → Unless f (Stopped table rows mets replies f passes) → Unless f (CutOff table rows mets replies f e.runs)
      unless_longer mets replies fault.Net s = cut_longer mets replies fault.Net s
      unless_longer mets replies (fault.Peer why) s = cut_longer mets replies (fault.Peer why) s
      unless_longer mets replies (fault.Long n) s = cut_longer mets replies (fault.Long n) s
      unless_longer mets replies (fault.OldBoot other) s = cut_longer mets replies (fault.OldBoot other) s
      unless_longer mets replies (fault.Spent k) s = cut_longer mets replies (fault.Spent k) s
      unless_longer mets replies fault.NoMemory s = tt

      unless_cut : (mets : List Seen) (replies : List Reply) (f : NodeFault) → CutOff table rows mets replies f e.runs → Unless f (CutOff table rows mets replies f e.runs)
      unless_cut mets replies fault.Net c = c
      unless_cut mets replies (fault.Peer why) c = c
      unless_cut mets replies (fault.Long n) c = c
      unless_cut mets replies (fault.OldBoot other) c = c
      unless_cut mets replies (fault.Spent k) c = c
      unless_cut mets replies fault.NoMemory c = tt

      -- a goodbye met a fault
      bye_cut : (mets : List Seen) (replies lasts : List Reply) (f : NodeFault) → MadeAll table rows mets replies passes (Ok lasts) → HasOne f e.runs → CutOff table rows mets replies f e.runs
      bye_cut mets replies lasts f m has = record {
        done = rows;
        rest = [];
        whole = append-nil rows;
        seen = m.0;
        to = None;
        next = refl;
        shown = m.2;
        has = has;
        fronts = λ i steps at.
            let p = pass_of i steps at in
            let k = m.3 i p.0 p.1 in
            subst (λ l. IsFront 0 [] (calls_at table i rows mets ++ Sync ∷ []) [] steps (replies_at i mets ++ reply_in l i)) (sym m.2)
            (front_longer (calls_at table i rows mets ++ Sync ∷ []) (replies_at i mets ++ []) p.0 steps k.0 p.2 p.3 k.1);
      }

      holds_all : (mets : List Seen) (replies lasts : List Reply) → age ≡ None → Parted true passes e.runs None → MadeAll table rows mets replies passes (Ok lasts) → HoldsAll id boot table before after rows mets told lasts
      holds_all mets replies lasts none parted m = record {
        seen = m.0;
        runs = e.runs;
        many = runs_table;
        ran = ran_table;
        new = are_new e.runs (sym e.boot_is ∙ none);
        holds = λ i steps at.
            let p = pass_of i steps at in
            let k = m.1 i p.0 p.1 in
            record {
              begun = subst (λ n. calls_by n steps ≡ calls_by n (front p.0)) k.0 p.3 ∙ k.1.0;
              synced = front p.0;
              replied = k.1.1;
              later = p.2;
              goodbye = subst (λ n. SaidBye n (front p.0) steps) k.0 ((parted refl).1 i p.0 steps p.1 at);
            };
        told_is = e.told_is;
      }

      -- The calls were made, up to a fault.
      made_err : (mets : List Seen) (replies : List Reply) (f : NodeFault) → is_done ≡ false → Unless f (Stopped table rows mets replies f passes) → (a : Option Age) → age ≡ a → Works id boot table rows before after mets replies told (Err (last_fault f a))
      made_err mets replies fault.NoMemory not m a ea = tt
      made_err mets replies fault.Net not m None ea = fails mets replies fault.Net ea (unless_longer mets replies fault.Net m)
      made_err mets replies (fault.Peer why) not m None ea = fails mets replies (fault.Peer why) ea (unless_longer mets replies (fault.Peer why) m)
      made_err mets replies (fault.Long n) not m None ea = fails mets replies (fault.Long n) ea (unless_longer mets replies (fault.Long n) m)
      made_err mets replies (fault.OldBoot other) not m None ea = fails mets replies (fault.OldBoot other) ea (unless_longer mets replies (fault.OldBoot other) m)
      made_err mets replies (fault.Spent k) not m None ea = fails mets replies (fault.Spent k) ea (unless_longer mets replies (fault.Spent k) m)
      made_err mets replies fault.Net not m (Some x) ea = (e.runs, ran_table, sym e.boot_is ∙ ea)
      made_err mets replies (fault.Peer why) not m (Some x) ea = (e.runs, ran_table, sym e.boot_is ∙ ea)
      made_err mets replies (fault.Long n) not m (Some x) ea = (e.runs, ran_table, sym e.boot_is ∙ ea)
      made_err mets replies (fault.OldBoot other) not m (Some x) ea = (e.runs, ran_table, sym e.boot_is ∙ ea)
      made_err mets replies (fault.Spent k) not m (Some x) ea = (e.runs, ran_table, sym e.boot_is ∙ ea)

      made_ok : (mets : List Seen) (replies lasts : List Reply) → is_done ≡ true → MadeAll table rows mets replies passes (Ok lasts) → (a : Option Age) → age ≡ a → (g : Option NodeFault) → met ≡ g → Works id boot table rows before after mets replies told (last_of (Ok lasts) a g)
      made_ok mets replies lasts done m None ea None eg = holds_all mets replies lasts ea (subst (λ d. Parted d passes e.runs None) done (subst (Parted is_done passes e.runs) eg e.parted)) m
      made_ok mets replies lasts done m None ea (Some f) eg = fails mets replies f ea (unless_cut mets replies f (bye_cut mets replies lasts f m (subst (Parted is_done passes e.runs) eg e.parted).1))
      made_ok mets replies lasts done m (Some x) ea g eg = (e.runs, ran_table, sym e.boot_is ∙ ea)

      pub works_made : (mets : List Seen) (replies : List Reply) (last : Result (List Reply) NodeFault) → DoneAs is_done last → MadeAll table rows mets replies passes last → Works id boot table rows before after mets replies told (last_of last age met)
      works_made mets replies (Ok lasts) done m = made_ok mets replies lasts done m age refl met refl
      works_made mets replies (Err f) done m = made_err mets replies f done m age refl

    -- Not all volumes were reached, and those that were made no call.
    module _ (table : List Path) (rows : List Row) (few : length locks < length table) (fresh : Each passes (λ place pass. (pass.number ≡ 0) × (front pass ≡ []))) where
      ran_few : length locks + 1 ≡ many → RanAll id boot (length table) before after e.runs
      unfolding ran_all
      ran_few is = let w = ran_all in record { links = w.links; ended = w.ended; inside = within_more many (length table) w.links (omega (arith, is, few)) w.inside; each = w.each }

      idle : Each e.runs (λ place steps. calls_by 0 steps ≡ [])
      idle i steps at =
          let c = closed_at locks passes e.runs e.links i steps e.closed at in
          let p = c.1 in
          let was = fresh i p c.4 in
          subst (λ n. calls_by n steps ≡ []) was.0 (c.6.begun ∙ ap (calls_by p.number) was.1)

      -- the next volume wasn't reached
      lost_next : (is : length locks + 1 ≡ many) → (age ≡ None) → (((before.faults < now.faults) × (links_at (length locks) r.links ≡ [])) ⊎ ((before.bad < now.bad) × Unheard id boot (view (length locks) [] before) (view (length locks) r.links now))) → LostOne id boot table rows before after [] [] told
      unfolding ran_all all_many
      lost_next is none why =
          let k = length locks in
          let down = tag_down 0 e.links in
          let w = ran_all in
          let counts = all_many locks passes e.runs e.links e.closed in
          let runs_are : length e.runs ≡ k = counts.0 in
          let nothing : links_at k down ≡ [] = links_outside k k down (within_down k 0 e.links (omega (arith, counts.1))) (omega arith) in
          let faults = e.faults in
          let low = e.low in
          inl (
            (refl, refl),
            record {
              runs = e.runs;
              few = omega (arith, runs_are, few);
              idle = idle;
              new = are_new e.runs (sym e.boot_is ∙ none);
              ran = record { links = w.links; ended = w.ended; inside = subst (λ n. AreWithin n w.links) (sym is ∙ ap (λ n. n + 1) (sym runs_are)) w.inside; each = w.each };
              why = ⊎_elim
                  (λ (f : (before.faults < now.faults) × (links_at k r.links ≡ [])).
                  let more = f.0 in
                  inl (
                    omega (arith, more, faults),
                    subst (λ n. links_at n (r.links ++ down) ≡ []) (sym runs_are) (links_append k r.links down ∙ (ap (λ l. l ++ links_at k down) f.1 ∙ nothing)),
                  ))
                  (λ (u : (before.bad < now.bad) × Unheard id boot (view k [] before) (view k r.links now)).
                  let rose = u.0 in
                  let h = u.1 in
                  inr (
                    omega (arith, rose, low),
                    subst (λ n. Unheard id boot (view n [] before) (view n (r.links ++ down) after)) (sym runs_are) (h.0, h.1, h.2, lost_still h.1 k before now after r.links down nothing low h.3),
                  ))
                  why;
              told_is = e.told_is;
            },
          )

-- There were none.
no_runs : (runs : List (List Step)) → length runs ≡ 0 → runs ≡ []
no_runs [] e = refl
no_runs (r ∷ runs) e = absurd (omega (arith, e))

module _ {L : Type 0} (given : L → Option (List Heard)) (got : L → Option (List (List ℕ))) (id boot : ℕ) (before now after : NetSeen) (locks : List (TracedLock (Node L) Step)) (passes : List (Pass (Node L) Step)) (told : List (List (List ℕ))) (age : Option Age) (met : Option NodeFault)
    (e : EndedAll given got false now after locks passes told age met) (table : List Path) (rows : List Row) (few : length locks < length table) (fresh : Each passes (λ place pass. (pass.number ≡ 0) × (front pass ≡ []))) where
  spent_first : (c : Counter) → (start id boot).spent ≡ Some c → now ≡ before → locks ≡ [] → SpendsOne id boot table rows before after c [] [] told
  spent_first c spent same none =
      let counts = all_many given got locks passes e.runs e.links e.closed in
      let runs_none = no_runs e.runs (counts.0 ∙ ap length none) in
      inl (spent, e.none runs_none ∙ same, (refl, refl), e.told_is ∙ ap (map told_by) runs_none)

  none_boot : locks ≡ [] → age ≡ None
  none_boot none =
      let counts = all_many given got locks passes e.runs e.links e.closed in
      e.boot_is ∙ ap first_boot (no_runs e.runs (counts.0 ∙ ap length none))

  not_reached : (f : NodeFault) → ReachFails given got id boot before now locks f → (a : Option Age) → age ≡ a → Works id boot table rows before after [] [] told (Err (last_fault f a))
  not_reached fault.NoMemory n a ea = tt
  not_reached fault.Net n None ea = lost_next given got id boot (length locks + 1) before now after locks passes told age met false n.reached e (omega arith) table rows few fresh refl ea n.why
  not_reached fault.Net n (Some x) ea = (e.runs, ran_few given got id boot (length locks + 1) before now after locks passes told age met false n.reached e (omega arith) table rows few fresh refl, sym e.boot_is ∙ ea)
  not_reached (fault.Peer why) n a ea = absurd n
  not_reached (fault.Long k) n a ea = absurd n
  not_reached (fault.OldBoot other) n a ea = absurd n
  not_reached (fault.Spent c) n None ea = spent_first c n.0 n.1 n.2
  not_reached (fault.Spent c) n (Some x) ea = absurd (cc (sym (none_boot n.2) ∙ ea))

  pub works_not : (f : NodeFault) → ReachFails given got id boot before now locks f → Works id boot table rows before after [] [] told (last_of {A = List Reply} (Err f) age met)
  works_not f n = not_reached f n age refl

-- What was concluded.

items_last : (boot : Option Age) (met : Option NodeFault) (last : Result (Vec Reply Global) NodeFault) → items_of (last_of last boot met) ≡ last_of (items_of last) boot met
items_last boot met (Err f) = refl
items_last None None (Ok x) = refl
items_last None (Some f) (Ok x) = refl
items_last (Some age) met (Ok x) = refl

pub concluded : (id boot : ℕ) (table : List Path) (rows : List Row) (before after : NetSeen) (mets : List Seen) (replies : List Reply) (last : Result (Vec Reply Global) NodeFault) (ends : Option Ends) (answers : Answers) → Concludes ends mets replies last answers
    → IfSome ends (λ a. Works id boot table rows before after mets replies (lists_of a.told) (last_of (items_of last) a.boot a.fault)) → Works id boot table rows before after answers.mets.items answers.replies.items (lists_of answers.told) (items_of answers.last)
concluded id boot table rows before after mets replies last None answers c w = subst (λ l. Works id boot table rows before after answers.mets.items answers.replies.items (lists_of answers.told) (items_of l)) (sym c) tt
concluded id boot table rows before after mets replies last (Some a) answers c w =
    subst (λ m. Works id boot table rows before after m answers.replies.items (lists_of answers.told) (items_of answers.last)) (sym c.0)
    (subst (λ r. Works id boot table rows before after mets r (lists_of answers.told) (items_of answers.last)) (sym c.1)
    (subst (λ t. Works id boot table rows before after mets replies (lists_of t) (items_of answers.last)) (sym c.2)
    (subst (λ l. Works id boot table rows before after mets replies (lists_of a.told) l) (sym (ap items_of c.3 ∙ items_last a.boot a.fault last)) w)))

-- the same where nothing was answered
pub concluded_not : (id boot : ℕ) (table : List Path) (rows : List Row) (before after : NetSeen) (mets : List Seen) (replies : List Reply) (last : Result (Vec Reply Global) NodeFault) (f : NodeFault) (ends : Option Ends) (answers : Answers) → Concludes ends mets replies last answers → mets ≡ [] → replies ≡ [] → last ≡ Err f
    → IfSome ends (λ a. Works id boot table rows before after [] [] (lists_of a.told) (last_of {A = List Reply} (Err f) a.boot a.fault)) → Works id boot table rows before after answers.mets.items answers.replies.items (lists_of answers.told) (items_of answers.last)
concluded_not id boot table rows before after mets replies last f ends answers c m r l w =
    concluded id boot table rows before after [] [] (Err f) ends answers (subst (λ x. Concludes ends x [] (Err f) answers) m (subst (λ x. Concludes ends mets x (Err f) answers) r (subst (λ x. Concludes ends mets replies x answers) l c))) w

pub if_some : {A : Type 0} (P Q : A → Type 0) (o : Option A) → ((x : A) → P x → Q x) → IfSome o P → IfSome o Q
if_some P Q None f p = tt
if_some P Q (Some x) f p = f x p

pub done_as : (last : Result (Vec Reply Global) NodeFault) (is_done : Bool) → is_done ≡ is_ok last → DoneAs is_done (items_of last)
done_as (Ok x) is_done e = e
done_as (Err f) is_done e = e

pub hold_fresh : {L : Type 0} (passes : List (Pass (Node L) Step)) → Each passes (λ place pass. (pass.number ≡ 0) × (front pass ≡ [])) → Holding (λ place. []) (λ place. []) passes
hold_fresh passes each i pass e = let was = each i pass e in (was.0, (ap (calls_by 0) was.1, tt))
