-- The causes of faults, as the list goes on.
use Rattle.std.proofs.Common.{◌≡◌, ◌<◌, ◌⊎◌, ℕ, Bool, true, false, cond, List, [], ◌∷◌, ◌++◌, ap, subst, inl, inr, ⊎_elim, arith}
use mathlib.Core.List.{IsPrefix}
use Rattle.ec_base.specs.declared.counter.Counter.TheVariants as counter
use Rattle.ec_plain.specs.declared.call.Call.{Call}
use Rattle.ec_lock.specs.Steps.{is_number, of}
use Rattle.ec_link.specs.LinkAnswers.{failed}
use Rattle.ec_link.specs.declared.link.Sent.{Sent}
use Rattle.ec_link.specs.declared.link.Sent.TheVariants as sent
use Rattle.ec_clerknode.specs.declared.fault.NodeFault.{NodeFault}
use Rattle.ec_clerknode.specs.declared.fault.NodeFault.TheVariants as fault
use Rattle.ec_clerknode.specs.declared.step.Deed.{Deed}
use Rattle.ec_clerknode.specs.declared.step.Deed.TheVariants.{Began, Took, Picked, Parted, Resent, Linked, Net, Peer, Long, NotBegun, NotTaken, NotPicked, Broke}
use Rattle.ec_clerknode.specs.declared.step.Step.{Step}
use Rattle.ec_clerknode.specs.Closed.{Caused}
use Rattle.ec_clerknode.specs.LaneRuns.{IsMarked, LaneFault}
use Rattle.ec_clerknode.specs.Run.{Among, marks, mark_of_deed, mark_of_end, old_boot}
use Rattle.ec_clerknode.specs.RunEnds.{net_of, nets}
use Rattle.ec_clerknode.specs.Turns.{number_of}
use Rattle.ec_clerknode.specs.PassTurns.{Failed}
use Rattle.ec_clerknode.proofs.Turns.{among_right, marks-right}
use Rattle.ec_clerknode.proofs.LanePasses.{marks-left, old_boot_stays}
use Rattle.ec_mount.specs.Run.{Has}

module _ (xs ys : List Step) (p : IsPrefix xs ys) where
  mark_longer : (f : NodeFault) → Among f (marks xs) → Among f (marks ys)
  mark_longer f m = subst (λ l. Among f (marks l)) p.1 (marks-left f xs p.0 m)

  -- a cause stays as the list goes on
  pub has_longer : (f : NodeFault) → Has f xs → Has f ys
  has_longer fault.Net m = mark_longer fault.Net m
  has_longer (fault.Peer place) m = mark_longer (fault.Peer place) m
  has_longer (fault.Long n) m = mark_longer (fault.Long n) m
  has_longer (fault.OldBoot age) m = old_boot_stays xs ys age p m
  has_longer (fault.Spent c) m = mark_longer (fault.Spent c) m
  has_longer fault.NoMemory m = tt

-- Marks of one pass are marks of the list.

among_behind : {A : Type 0} (x : A) (us vs ws : List A) → (Among x vs → Among x ws) → Among x (us ++ vs) → Among x (us ++ ws)
among_behind x [] vs ws h m = h m
among_behind x (u ∷ us) vs ws h m = ⊎_elim (λ (e : u ≡ x). inl e) (λ (r : Among x (us ++ vs)). inr (among_behind x us vs ws h r)) m

own_mark : (f : NodeFault) (b : Bool) (s : Step) (xs ys : List Step) → (Among f (marks xs) → Among f (marks ys)) → Among f (marks (cond b (s ∷ xs) xs)) → Among f (marks (s ∷ ys))
own_mark f true s xs ys h m = among_behind f (mark_of_deed s.deed ++ mark_of_end s.end) (marks xs) (marks ys) h m
own_mark f false s xs ys h m = among_right f (mark_of_deed s.deed ++ mark_of_end s.end) (marks ys) (h m)

among_of : (f : NodeFault) (n : ℕ) (steps : List Step) → Among f (marks (of number_of n steps)) → Among f (marks steps)
among_of f n [] m = m
among_of f n (s ∷ ss) m = own_mark f (is_number n (number_of s)) s (of number_of n ss) ss (among_of f n ss) m

mark_in : (f : NodeFault) (n : ℕ) (before after more : List Step) → before ++ more ≡ after → Among f (marks (of number_of n more)) → Among f (marks after)
mark_in f n before after more e m = subst (λ l. Among f (marks l)) e (marks-right f before more (among_of f n more m))

caused_has : (f : NodeFault) (n : ℕ) (before after more : List Step) → before ++ more ≡ after → Caused (old_boot after) f (of number_of n more) → Has f after
caused_has fault.Net n before after more e c = mark_in fault.Net n before after more e c.1
caused_has (fault.Peer place) n before after more e c = mark_in (fault.Peer place) n before after more e c.1
caused_has (fault.Long k) n before after more e c = mark_in (fault.Long k) n before after more e c.1
caused_has (fault.OldBoot age) n before after more e c = c
caused_has (fault.Spent k) n before after more e c = mark_in (fault.Spent k) n before after more e c.1
caused_has fault.NoMemory n before after more e c = tt

-- a fault of a call
pub failed_has : (n : ℕ) (cs : List Call) (before after : List Step) (f : NodeFault) → Failed n cs before after f → Has f after
failed_has n cs before after f w = caused_has f n before after w.1.0 w.1.1 w.1.2

marked_has : (passes : List ℕ) (before after : List Step) (f : NodeFault) → IsMarked passes before after f → Among f (marks after)
marked_has passes before after f m = mark_in f m.0 before after m.2.0 m.2.1 m.2.2

-- a fault of lanes
pub lane_has : (passes : List ℕ) (before after : List Step) (f : NodeFault) → (f ≡ fault.Spent counter.Pass → ⊥) → LaneFault passes before after f → Has f after
lane_has passes before after fault.Net free m = marked_has passes before after fault.Net m
lane_has passes before after (fault.Peer place) free m = marked_has passes before after (fault.Peer place) m
lane_has passes before after (fault.Long k) free m = marked_has passes before after (fault.Long k) m
lane_has passes before after (fault.OldBoot age) free m = m
lane_has passes before after (fault.Spent c) free m = ⊎_elim (λ (e : c ≡ counter.Pass). absurd (free (ap fault.Spent e))) (λ (h : IsMarked passes before after (fault.Spent c)). marked_has passes before after (fault.Spent c) h) m
lane_has passes before after fault.NoMemory free m = tt

-- A mark of the link is counted.

among_append : {A : Type 0} (x : A) (us vs : List A) → Among x (us ++ vs) → Among x us ⊎ Among x vs
among_append x [] vs m = inr m
among_append x (u ∷ us) vs m = ⊎_elim (λ (e : u ≡ x). inl (inl e)) (λ (r : Among x (us ++ vs)). ⊎_elim (λ (a : Among x us). inl (inr a)) (λ (b : Among x vs). inr b) (among_append x us vs r)) m

deed_net : (d : Deed) → Among fault.Net (mark_of_deed d) → 0 < net_of d
deed_net (Began call number) m = absurd m
deed_net (Took bytes msg) m = absurd m
deed_net (Picked asked) m = absurd m
deed_net Parted m = absurd m
deed_net Resent m = absurd m
deed_net Linked m = absurd m
deed_net Net m = omega arith
deed_net (Peer bytes why) m = ⊎_elim (λ (e : fault.Peer why ≡ fault.Net). absurd (cc e)) (λ r. absurd r) m
deed_net (Long n) m = ⊎_elim (λ (e : fault.Long n ≡ fault.Net). absurd (cc e)) (λ r. absurd r) m
deed_net (NotBegun call c) m = ⊎_elim (λ (e : fault.Spent c ≡ fault.Net). absurd (cc e)) (λ r. absurd r) m
deed_net (NotTaken bytes msg c) m = ⊎_elim (λ (e : fault.Spent c ≡ fault.Net). absurd (cc e)) (λ r. absurd r) m
deed_net (NotPicked asked c) m = ⊎_elim (λ (e : fault.Spent c ≡ fault.Net). absurd (cc e)) (λ r. absurd r) m
deed_net Broke m = absurd m

end_net : (s : Sent) → Among fault.Net (mark_of_end s) → 0 < failed s
end_net sent.Done m = absurd m
end_net sent.Failed m = omega arith
end_net sent.NoMemory m = absurd m

pub net_counted : (steps : List Step) → Among fault.Net (marks steps) → 0 < nets steps
net_counted [] m = absurd m
net_counted (s ∷ ss) m =
    ⊎_elim
    (λ (h : Among fault.Net (mark_of_deed s.deed ++ mark_of_end s.end)).
    ⊎_elim (λ (a : Among fault.Net (mark_of_deed s.deed)). omega (arith, deed_net s.deed a)) (λ (b : Among fault.Net (mark_of_end s.end)). omega (arith, end_net s.end b)) (among_append fault.Net (mark_of_deed s.deed) (mark_of_end s.end) h))
    (λ (r : Among fault.Net (marks ss)). omega (arith, net_counted ss r))
    (among_append fault.Net (mark_of_deed s.deed ++ mark_of_end s.end) (marks ss) m)
