-- One volume after another is reached.
use Rattle.std.proofs.Common.{◌≡◌, ◌+◌, ◌≤◌, ℕ, List, [], ◌∷◌, ◌++◌, length, Option, Some, None, refl, sym, ap, ◌∙◌, subst, inl, inr, arith, append_assoc, append-nil}
use Rattle.std.specs.Prelude.{map, slice_get}
use Rattle.std.proofs.lemmas.List.{length-append}
use Rattle.ec_base.specs.declared.counter.Counter.{Counter}
use Rattle.ec_protocol.specs.Clerk.{start}
use Rattle.ec_protocol.specs.declared.clerk.Out.{Out}
use Rattle.ec_lock.specs.PassViews.{first}
use Rattle.ec_lock.specs.declared.types.TracedLock.{TracedLock}
use Rattle.ec_link.specs.Links.{Heard}
use Rattle.ec_link.specs.Nets.{Ended}
use Rattle.ec_clerknode.specs.declared.fault.NodeFault.{NodeFault}
use Rattle.ec_clerknode.specs.declared.fault.NodeFault.TheVariants as fault
use Rattle.ec_clerknode.specs.declared.state.Node.{Node}
use Rattle.ec_clerknode.specs.declared.step.Step.{Step}
use Rattle.ec_mount.specs.Run.{NetSeen, CameUnsent, LostUnsent}
use Rattle.ec_mount_table.specs.Runs.{Each, links_at, view}
use Rattle.ec_mount_table.specs.Going.{Greeted, NotReached, ReachedThese, ReachedNot, ReachFails}
use Rattle.ec_mount_table.proofs.Links.{Link, ended_append, links_append, links_other, links_outside, links_own, tag, tagged, within_append, within_more, within_tag}
use Rattle.ec_mount_table.proofs.Places.{each_none, each_snoc}
use Rattle.ec_mounts.proofs.Seats.{get_inside}

-- no links came back for this volume since
came_still : (outs : List Out) (p : ℕ) (before now later : NetSeen) (links more : List Link) → links_at p more ≡ [] → now.bad ≤ later.bad → CameUnsent outs (view p [] before) (view p links now) → CameUnsent outs (view p [] before) (view p (links ++ more) later)
came_still outs p before now later links more none low c =
    let few = c.bad in
    record {
      links = c.links;
      unsent = c.unsent;
      ended = links_append p links more ∙ (ap (λ l. links_at p links ++ l) none ∙ (append-nil (links_at p links) ∙ c.ended));
      bad = omega (arith, few, low);
    }

pub lost_still : (outs : List Out) (p : ℕ) (before now later : NetSeen) (links more : List Link) → links_at p more ≡ [] → now.bad ≤ later.bad → LostUnsent outs (view p [] before) (view p links now) → LostUnsent outs (view p [] before) (view p (links ++ more) later)
unfolding came_still
lost_still outs p before now later links more none low l = (came_still outs p before now later links more none low l.0, l.1)

-- these came back for this volume, which had none before
came_new : (outs : List Out) (p : ℕ) (before now later : NetSeen) (links : List Link) → links_at p links ≡ [] → before.bad ≤ now.bad → (c : CameUnsent outs now later) → CameUnsent outs (view p [] before) (view p (links ++ tag p c.links) later)
came_new outs p before now later links none low c =
    let few = c.bad in
    record {
      links = c.links;
      unsent = c.unsent;
      ended = links_append p links (tag p c.links) ∙ (ap (λ l. l ++ links_at p (tag p c.links)) none ∙ links_own p c.links);
      bad = omega (arith, few, low);
    }

ended_more : (before now later : NetSeen) (links : List Link) (k : ℕ) (es : List Ended) → now.ended ≡ before.ended ++ map (λ (link : Link). link.1) links → later.ended ≡ now.ended ++ es → later.ended ≡ before.ended ++ map (λ (link : Link). link.1) (links ++ tag k es)
ended_more before now later links k es e f =
    let had = map (λ (link : Link). link.1) links in
    f ∙ (ap (λ l. l ++ es) e ∙ (append_assoc before.ended had es ∙ ap (λ l. before.ended ++ l) (ap (λ l. had ++ l) (sym (tagged k es)) ∙ sym (ended_append links (tag k es)))))

low_of : (outs : List Out) (now later : NetSeen) → CameUnsent outs now later → now.bad ≤ later.bad
low_of outs now later c = let few = c.bad in omega (arith, few)

no_spent : (s : Option Counter) (c : Counter) → s ≡ None → s ≡ Some c → ⊥
no_spent s c e f = absurd (cc (sym e ∙ f))

module _ {L : Type 0} (given : L → Option (List Heard)) (got : L → Option (List (List ℕ))) (id boot : ℕ) where
  greeted_still : (node : Node L) (p : ℕ) (before now later : NetSeen) (links more : List Link) → links_at p more ≡ [] → now.bad ≤ later.bad → Greeted given got id boot node (view p [] before) (view p links now) → Greeted given got id boot node (view p [] before) (view p (links ++ more) later)
  greeted_still node p before now later links more none low g = record { outs = g.outs; starts = g.starts; came = came_still g.outs p before now later links more none low g.came; took = g.took; alone = g.alone }

  each_still : (locks : List (TracedLock (Node L) Step)) (before now later : NetSeen) (links : List Link) (k : ℕ) (es : List Ended) → length locks ≤ k → now.bad ≤ later.bad
      → Each locks (λ place lock. Greeted given got id boot (first lock) (view place [] before) (view place links now)) → Each locks (λ place lock. Greeted given got id boot (first lock) (view place [] before) (view place (links ++ tag k es) later))
  each_still locks before now later links k es le low each p lock at =
      let inside = get_inside locks p lock at in
      greeted_still (first lock) p before now later links (tag k es) (links_other k p es (λ (e : k ≡ p). omega (arith, e, le, inside))) low (each p lock at)

  pub reached_none : (locks : List (TracedLock (Node L) Step)) (many : ℕ) (before : NetSeen) → locks ≡ [] → ReachedThese given got id boot many before before locks
  reached_none locks many before none = record { links = []; ended = sym (append-nil before.ended); inside = tt; low = omega arith; faults = omega arith; each = each_none locks _ none }

  pub reached_more : (locks longer : List (TracedLock (Node L) Step)) (lock : TracedLock (Node L) Step) (before now later : NetSeen) → longer ≡ locks ++ lock ∷ [] → now.faults ≤ later.faults → ReachedThese given got id boot (length locks) before now locks → Greeted given got id boot (first lock) now later
      → ReachedThese given got id boot (length longer) before later longer
  reached_more locks longer lock before now later e faults r g =
      let k = length locks in
      let es = g.came.links in
      let low = low_of g.outs now later g.came in
      let had = r.low in
      let had_faults = r.faults in
      let links = r.links ++ tag k es in
      let many : length longer ≡ k + 1 = ap length e ∙ length-append locks (lock ∷ []) in
      let P = λ (place : ℕ) (l : TracedLock (Node L) Step). Greeted given got id boot (first l) (view place [] before) (view place links later) in
      record {
        links = links;
        ended = ended_more before now later r.links k es r.ended g.came.ended;
        inside = within_append (length longer) r.links (tag k es) (within_more k (length longer) r.links (omega (arith, many)) r.inside) (within_tag (length longer) k es (omega (arith, many)));
        low = omega (arith, had, low);
        faults = omega (arith, had_faults, faults);
        each = subst (λ l. Each l P) (sym e)
            (each_snoc locks lock P (each_still locks before now later r.links k es (omega arith) low r.each)
            (record { outs = g.outs; starts = g.starts; came = came_new g.outs k before now later r.links (links_outside k k r.links r.inside (omega arith)) r.low g.came; took = g.took; alone = g.alone }));
      }

  module _ (locks : List (TracedLock (Node L) Step)) (before now later : NetSeen) (faults : now.faults ≤ later.faults) (r : ReachedThese given got id boot (length locks) before now locks) where
    reached_still : (es : List Ended) → later.ended ≡ now.ended ++ es → now.bad ≤ later.bad → ReachedThese given got id boot (length locks + 1) before later locks
    reached_still es e low =
        let k = length locks in
        let had = r.low in
        let had_faults = r.faults in
        record {
          links = r.links ++ tag k es;
          ended = ended_more before now later r.links k es r.ended e;
          inside = within_append (k + 1) r.links (tag k es) (within_more k (k + 1) r.links (omega arith) r.inside) (within_tag (k + 1) k es (omega arith));
          low = omega (arith, had, low);
          faults = omega (arith, had_faults, faults);
          each = each_still locks before now later r.links k es (omega arith) low r.each;
        }

    net_fails : NotReached id boot now later fault.Net → ReachedNot given got id boot before later locks
    unfolding reached_still came_new
    net_fails (inl u) =
        let k = length locks in
        let had_faults = r.faults in
        let more = u.0 in
        record {
          reached = reached_still [] (u.2 ∙ sym (append-nil now.ended)) (omega (arith, u.1));
          why = inl (omega (arith, had_faults, more), links_append k r.links [] ∙ (append-nil (links_at k r.links) ∙ links_outside k k r.links r.inside (omega arith)));
        }
    net_fails (inr u) =
        let had = r.low in
        let rose = u.0 in
        let h = u.1 in
        let c = h.3.0 in
        record {
          reached = reached_still c.links c.ended (omega (arith, rose));
          why = inr (omega (arith, had, rose), (h.0, h.1, h.2, (came_new h.1 (length locks) before now later r.links (links_outside (length locks) (length locks) r.links r.inside (omega arith)) r.low c, h.3.1)));
        }

    none_reached : (c : Counter) → (start id boot).spent ≡ Some c → locks ≡ []
    none_reached c spent = on locks refl where
      on : (l : List (TracedLock (Node L) Step)) → locks ≡ l → locks ≡ []
      on [] e = e
      on (lock ∷ more) e = absurd (no_spent (start id boot).spent c (ap (λ s. s.spent) (r.each 0 lock (ap (λ l. slice_get l 0) e)).starts) spent)

    pub reach_fails : (locks ≡ [] → now ≡ before) → (f : NodeFault) → NotReached id boot now later f → ReachFails given got id boot before later locks f
    reach_fails still fault.Net n = net_fails n
    reach_fails still (fault.Peer why) n = absurd n
    reach_fails still (fault.Long k) n = absurd n
    reach_fails still (fault.OldBoot age) n = absurd n
    reach_fails still (fault.Spent c) n = let none = none_reached c n.0 in (n.0, n.1 ∙ still none, none)
    reach_fails still fault.NoMemory n = tt
