-- What is counted behind a line's first step: messages, and what clerks counted.
use Rattle.std.proofs.Common.{◌≡◌, refl, sym, ap, ◌∙◌, subst, arith, ◌≤◌, ◌+◌, ℕ, T, Bool, true, false, not, ◌==◌, ◌&&◌, cond, List, [], ◌∷◌, length, length-append}
use Rattle.std.specs.Prelude.{Some, None}
use Rattle.std.specs.Ordering.{nat_cmp}
use Rattle.std.specs.FinMap.{is_sorted}
use Rattle.ec_base.specs.Tables.{Table, at, put}
use Rattle.ec_log.specs.declared.state.LogState.{LogState}
use Rattle.ec_protocol.specs.Clerk.{Doing}
use Rattle.ec_protocol.specs.declared.clerk.Clerk.{Clerk}
use Rattle.ec_protocol.specs.declared.clerk.Out.{Out}
use Rattle.ec_protocol.specs.declared.clerk.Out.TheVariants as out
use Rattle.ec_protocol.specs.declared.world.World.{World}
use Rattle.ec_coherence.proofs.ForServer.Tables.{at-put, same_some}
use Rattle.ec_quiet.specs.Measure.{is_under_way, sum, unsent, unsent_by}
use Rattle.ec_quiet.specs.Phases.{Phase, Greets, Opens, Claims, Wants, Recalls, Flushes, Keeps, Grants, Asks, Gives, Refuses, Saves, Saved, Ends, InPhase, backs}
use Rattle.ec_quiet.specs.Scenes.{IsScene, Scene, done_by, sends}
use Rattle.ec_quiet.specs.Sums.{value_of}
use Rattle.ec_quiet.specs.Works.{Work, is_saving}
use Rattle.ec_quiet.proofs.Terms.{put-value}
use Rattle.ec_quiet.specs.Frames.{IsAsked}
use Rattle.ec_machine_laws.specs.Counts as server
use Rattle.ec_complete.specs.OfAgreedLines.Counting as clerks
use Rattle.ec_complete.specs.OfAgreedLines.Counting.{sent_in}
use Rattle.ec_quiet.specs.SettlingCounts as settling
use Rattle.ec_quiet.proofs.Mail.{pending-is, parts}
use Rattle.ec_machine_laws.specs.Unspent as unspent
use Rattle.ec_complete.specs.Worlds.{IsCounted, Outset}
use Rattle.ec_complete.specs.Ready.{calls_of}
use Rattle.ec_complete.proofs.ForFaultless.Tables.{sum-less, sum-most}
use Rattle.ec_base.proofs.Filters.{fewer}

-- Messages.

sends-in : (c : ℕ) (os : List Out) → length (sends c os) ≡ sent_in os
sends-in c [] = refl
sends-in c (out.Send m ∷ os) = omega (arith, sends-in c os)
sends-in c (out.Told ns ∷ os) = sends-in c os
sends-in c (out.Answer n a op ∷ os) = sends-in c os
sends-in c (out.OldBoot a ∷ os) = sends-in c os

pub sends-out : (c : ℕ) (os : List Out) → length (sends c os) ≡ unspent.sent os
sends-out c [] = refl
sends-out c (out.Send m ∷ os) = omega (arith, sends-out c os)
sends-out c (out.Told ns ∷ os) = sends-out c os
sends-out c (out.Answer n a op ∷ os) = sends-out c os
sends-out c (out.OldBoot a ∷ os) = sends-out c os

-- a clerk that asks for something has sent one message at most
pub one-asked : (j : Work) (sc : Scene) (p : Phase) → IsAsked p → InPhase j sc p → backs j sc.mail ≡ [] → length sc.mail ≤ 1
one-asked j sc (Wants x h n) a q none = omega (arith, parts j sc.mail, ap length q.main_is, ap length none)
one-asked j sc (Asks again got ask) a q none = omega (arith, parts j sc.mail, ap length q.main_is, ap length none)
one-asked j sc (Saves b ops rest) a q none = omega (arith, parts j sc.mail, ap length q.main_is, ap length none)
one-asked j sc Ends a q none = omega (arith, parts j sc.mail, ap length q.main_is, ap length none)
one-asked j sc (Greets age) a q none = absurd a
one-asked j sc (Opens age) a q none = absurd a
one-asked j sc (Claims o) a q none = absurd a
one-asked j sc (Recalls x h rs bs) a q none = absurd a
one-asked j sc (Flushes x h r b ops rest) a q none = absurd a
one-asked j sc (Keeps x h r b rest) a q none = absurd a
one-asked j sc (Grants x h n) a q none = absurd a
one-asked j sc (Gives got n first) a q none = absurd a
one-asked j sc (Refuses again ask live reserved) a q none = absurd a
one-asked j sc (Saved b rest) a q none = absurd a

-- What clerks count.

pub more-made : (calls more a b : ℕ) (k : Clerk) → calls ≤ more → a ≤ b → clerks.IsCounted calls a k → clerks.IsCounted more b k
more-made calls more a b k l s h = record { made = omega (arith, h.made, l); ops = h.ops; undurable = h.undurable; ids = h.ids; batch = h.batch; sends = omega (arith, h.sends, s) }

-- the clerk's own calls count
pub own-made : (calls sent : ℕ) (k : Clerk) → clerks.IsCounted calls sent k → clerks.IsCounted k.calls sent k
own-made calls sent k h = record { made = omega arith; ops = h.ops; undurable = h.undurable; ids = h.ids; batch = h.batch; sends = h.sends }

-- more calls, in the same world or one in which more was sent and the server and the clerks are the same
pub counted-more : (outset : Outset) (calls more : ℕ) (w u : World) (sc : Scene) → calls ≤ more → w.sent ≤ u.sent → u.server ≡ w.server → u.clerks ≡ w.clerks → IsCounted outset calls w sc → IsCounted outset more u sc
counted-more outset calls more w u sc l s servers same h = record {
  server = λ v e. (let b = h.server v (sym servers ∙ e) in (omega (arith, b.0, s), omega (arith, b.1, s)));
  clerks = λ c k e. more-made calls more w.sent u.sent k l s (h.clerks c k (ap (at c) (sym same) ∙ e));
  ids = h.ids;
}

-- Behind the step d of the clerk c, where nothing was under way.
module _ (w u : World) (sc : Scene) (i : IsScene w sc) (none : sc.mail ≡ []) (c : ℕ) (d : Doing) (then : IsScene u (done_by c d sc.mail sc)) (steady : settling.Counts 0 w u) where
  pub sent-then : u.sent ≡ w.sent + sent_in d.outs
  sent-then = omega (arith, steady, pending-is w sc i, ap length none, pending-is u (done_by c d sc.mail sc) then, length-append sc.mail (sends c d.outs), sends-in c d.outs)

  pub counted-then : (outset : Outset) (calls more : ℕ) → calls ≤ more → IsCounted outset calls w sc → clerks.IsCounted more (w.sent + sent_in d.outs) d.clerk → IsCounted outset more u (done_by c d sc.mail sc)
  counted-then outset calls more l h own = record { server = of-server; clerks = of-clerks; ids = h.ids }
    where
      of-server : server.AreCounted 0 outset.session u
      of-server v e = let b = h.server v (i.server ∙ sym then.server ∙ e) in (omega (arith, b.0, sent-then), omega (arith, b.1, sent-then))

      each : (a : ℕ) (b : Clerk) (z : Bool) → (a == c) ≡ z → cond z (Some d.clerk) (at a sc.clerks) ≡ Some b → clerks.IsCounted more u.sent b
      each a b true e q = subst (clerks.IsCounted more u.sent) (same_some q) (subst (λ s. clerks.IsCounted more s d.clerk) (sym sent-then) own)
      each a b false e q = more-made calls more w.sent u.sent b l (omega (arith, sent-then)) (h.clerks a b (ap (at a) i.clerks ∙ q))

      of-clerks : clerks.AreCounted more u
      of-clerks a b q = each a b (a == c) refl (sym (at-put a c d.clerk sc.clerks) ∙ ap (at a) (sym then.clerks) ∙ q)

-- Sums.

unsent-few : (l : LogState) → unsent l ≤ length l.undurable
unsent-few l = fewer (λ op. not (is_under_way l op.0)) l.undurable

-- a clerk has no more undurable operations than calls that it was answered
pub own-unsent : (j : Work) (a n s : ℕ) (x : Clerk) → clerks.IsCounted n s x → unsent_by j (a, x) + length x.waiting ≤ x.calls
own-unsent j a n s x h = go ((a == j.clerk) && not (is_saving j.task))
  where
    go : (b : Bool) → elim b as (λ z. ℕ) [ true ↦ 0 | false ↦ unsent x.log ] + length x.waiting ≤ x.calls
    go true = omega (arith, h.undurable, h.ops)
    go false = omega (arith, unsent-few x.log, h.undurable, h.ops)

module _ (c : ℕ) (x : Clerk) (es : Table Clerk) (rising : T (is_sorted nat_cmp es)) where
  pub calls-then : (k : Clerk) (d : ℕ) → at c es ≡ Some k → x.calls ≤ k.calls + d → sum calls_of (put c x es) ≤ sum calls_of es + d
  calls-then k d there l = omega (arith, put-value calls_of c x es rising, ap (value_of calls_of c) there, l)

  pub calls-first : at c es ≡ None → sum calls_of (put c x es) ≤ sum calls_of es + x.calls
  calls-first none = omega (arith, put-value calls_of c x es rising, ap (value_of calls_of c) none)

  pub unsent-first : (j : Work) → at c es ≡ None → unsent_by j (c, x) ≡ 0 → sum (unsent_by j) (put c x es) ≤ sum (unsent_by j) es
  unsent-first j none u = omega (arith, put-value (unsent_by j) c x es rising, ap (value_of (unsent_by j) c) none, u)

-- fewer operations are undurable than calls were made
pub unsent-most : (j : Work) (n s : ℕ) (es : Table Clerk) → T (is_sorted nat_cmp es) → ((a : ℕ) (x : Clerk) → at a es ≡ Some x → clerks.IsCounted n s x) → sum (unsent_by j) es ≤ sum calls_of es
unsent-most j n s es rising h = sum-most (unsent_by j) calls_of es rising (λ a x e. omega (arith, own-unsent j a n s x (h a x e)))

-- and by one fewer where one call waits
pub unsent-less : (j : Work) (n s c : ℕ) (k : Clerk) (es : Table Clerk) → T (is_sorted nat_cmp es) → at c es ≡ Some k → 1 ≤ length k.waiting → ((a : ℕ) (x : Clerk) → at a es ≡ Some x → clerks.IsCounted n s x) → sum (unsent_by j) es + 1 ≤ sum calls_of es
unsent-less j n s c k es rising there waits h =
    sum-less (unsent_by j) calls_of c k 1 (omega (arith, own-unsent j c n s k (h c k there), waits)) es rising there (λ a x e. omega (arith, own-unsent j a n s x (h a x e)))
