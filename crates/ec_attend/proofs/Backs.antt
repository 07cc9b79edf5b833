-- How a link ended.
use Rattle.std.proofs.Common.{◌≡◌, ◌≤◌, ◌+◌, ℕ, Bool, true, false, Option, List, sym, ap, ◌∙◌, subst, inl, inr, Result, Ok, Err, arith}
use Rattle.ec_link.specs.Links.{Heard}
use Rattle.ec_link.specs.NetAnswers.{is_bad}
use Rattle.ec_servernode.specs.declared.fault.ServeFault.{ServeFault}
use Rattle.ec_servernode.specs.declared.fault.ServeFault.TheVariants as fault
use Rattle.ec_lock.specs.declared.types.Pass.{Pass}
use Rattle.ec_lock.specs.PassViews.{front}
use Rattle.ec_servernode.specs.declared.state.Node.{Node}
use Rattle.ec_servernode.specs.declared.step.Step.{Step}
use Rattle.ec_attend.specs.declared.bells.telling.Gone.{Gone}
use Rattle.ec_attend.specs.declared.bells.telling.Gone.TheVariants as gone
use Rattle.ec_attend.specs.Links.{Refuses, WasReplaced}
use Rattle.ec_attend.specs.OverLinks.{IsOverBy, is_over, EndsSo}

bad_by : (faults closes : ℕ) → 1 ≤ faults + closes → is_bad faults closes ≡ 1
bad_by faults closes le = grind (arith, le)

module _ {K L : Type 0} (faults closes : L → ℕ) (given : L → Option (List Heard)) where
  -- why a link isn't served any more is what its counts, its bodies and the run tell
  pub ends_so : (end : Result Gone ServeFault) (pass : Pass (Node K) Step) (link : L) (b : Bool) → b ≡ is_over end → IsOverBy (faults link) (closes link) (given link) (WasReplaced pass.number (front pass)) end → EndsSo faults closes given b pass link
  ends_so end pass link b is why = subst (λ x. EndsSo faults closes given x pass link) (sym is) (by end why)
    where
      by : (end : Result Gone ServeFault) → IsOverBy (faults link) (closes link) (given link) (WasReplaced pass.number (front pass)) end → EndsSo faults closes given (is_over end) pass link
      by (Ok gone.Closed) le = inl (bad_by (faults link) (closes link) (omega (arith, le)))
      by (Ok gone.Replaced) r = inr (inr r)
      by (Err fault.Net) le = inl (bad_by (faults link) (closes link) (omega (arith, le)))
      by (Err (fault.Peer why)) r = inr (inl r)
      by (Err (fault.Long n)) r = inr (inl r)
      by (Err fault.DiskFailed) r = tt
      by (Err fault.DiskStopped) r = tt
      by (Err (fault.Spent n)) r = tt
      by (Err fault.Down) r = tt
      by (Err fault.NoMemory) r = tt

  -- hanging up changes nothing that is told
  pub still_so : (b : Bool) (pass : Pass (Node K) Step) (link later : L) → faults later ≡ faults link → closes later ≡ closes link → given later ≡ given link → EndsSo faults closes given b pass link → EndsSo faults closes given b pass later
  still_so true pass link later f c g (inl bad) = inl (ap (λ n. is_bad n (closes later)) f ∙ (ap (λ n. is_bad (faults link) n) c ∙ bad))
  still_so true pass link later f c g (inr (inl r)) = inr (inl (subst Refuses (sym g) r))
  still_so true pass link later f c g (inr (inr r)) = inr (inr r)
  still_so false pass link later f c g so = tt
