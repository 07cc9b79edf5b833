-- What a link gave and got, by the steps of its pass, behind one more turn.
use Rattle.std.proofs.Common.{◌≡◌, ℕ, Bool, true, List, [], ◌∷◌, ◌++◌, Option, Some, None, Result, Ok, Err, refl, sym, ap, ◌∙◌, subst, ⊎_elim, append-nil}
use Rattle.ec_wire.specs.Codes.{msg_code}
use Rattle.ec_wire.specs.declared.msg.Msg.{Msg}
use Rattle.ec_link.specs.Links.{Heard, added, body, long}
use Rattle.ec_link.specs.NetAnswers.{IsEmpty}
use Rattle.ec_lock.specs.PassViews.{front, Same}
use Rattle.ec_lock.specs.Steps.{of}
use Rattle.ec_lock.specs.declared.types.Pass.{Pass}
use Rattle.ec_servernode.specs.declared.fault.ServeFault.{ServeFault}
use Rattle.ec_servernode.specs.declared.fault.ServeFault.TheVariants as fault
use Rattle.ec_servernode.specs.declared.shared.Turned.{Turned}
use Rattle.ec_servernode.specs.declared.shared.Turned.TheVariants as turned
use Rattle.ec_servernode.specs.declared.state.Node.{Node}
use Rattle.ec_servernode.specs.declared.step.Deed.{Deed}
use Rattle.ec_servernode.specs.declared.step.Deed.TheVariants.{Took, Gave, Refused, Halted, Ended, HaltedEnd, Broke}
use Rattle.ec_servernode.specs.declared.step.Step.{Step}
use Rattle.ec_servernode.specs.Bodies.{heard_of, heard_by, said_of, said_by}
use Rattle.ec_servernode.specs.declared.caller.Caller.{Caller}
use Rattle.ec_durable.specs.declared.state.Durable.{Durable}
use Rattle.ec_lock.specs.declared.types.TracedLock.{TracedLock}
use Rattle.ec_servernode.specs.declared.passes.ServerPass.{ServerPass}
use Rattle.ec_servernode.specs.Callers.{nobody}
use Rattle.ec_servernode.specs.Run.{number_of, caller_from, caller_by}
use Rattle.ec_servernode.specs.Turns.{IsReplaced}
use Rattle.ec_servernode.specs.TurnSteps.{Adds, IsTaking, IsGiving, Serves, ServeFails, IsServerPass}
use Rattle.ec_servernode.proofs.Lists.{of_own}
use Rattle.ec_attend.specs.Links.{WasReplaced, IsNoEnd, HasNoEnd, IsRest, Carries}
use Rattle.ec_attend.specs.OverLinks.{is_over, IsSoFar, CarriesSo, own_steps, IsServed, WasServed}
use Rattle.ec_base.specs.Lists.{Tells}
use Rattle.ec_lock.proofs.StepsLemmas.{of-append}
use Rattle.ec_link.proofs.HappeningsLemmas.{each-append}

tells_added : {A : Type 0} (o p : Option (List A)) (xs ys : List A) → p ≡ added o ys → Tells o xs → Tells p (xs ++ ys)
tells_added {A} o p xs ys is t = subst (λ (q : Option (List A)). Tells q (xs ++ ys)) (sym is) (by o t)
  where
    by : (o : Option (List A)) → Tells o xs → Tells (added o ys) (xs ++ ys)
    by None t = tt
    by (Some zs) t = ap (λ l. l ++ ys) t

none_added : {A : Type 0} (o p : Option (List A)) → p ≡ o → p ≡ added o []
none_added {A} o p is = is ∙ by o
  where
    by : (o : Option (List A)) → o ≡ added o []
    by None = refl
    by (Some xs) = ap Some (sym (append-nil xs))

pub tells_nothing : {A : Type 0} (o : Option (List A)) → IsEmpty o → Tells o []
tells_nothing None e = tt
tells_nothing (Some xs) e = e

-- the steps of a pass, with those that a turn added
own_after : (pass : ℕ) (old new own : List Step) → Adds pass old new own → of number_of pass new ≡ of number_of pass old ++ own
own_after pass old new own a =
    sym (ap (of number_of pass) a.1) ∙ (of-append number_of pass old (a.0 ++ own)
    ∙ ap (λ l. of number_of pass old ++ l) (of-append number_of pass a.0 own ∙ (ap (λ l. l ++ of number_of pass own) a.2 ∙ of_own pass own a.3)))

no_end_append : (xs ys : List Step) → HasNoEnd xs → HasNoEnd ys → HasNoEnd (xs ++ ys)
no_end_append [] ys h k = k
no_end_append (x ∷ xs) ys h k = (h.0, no_end_append xs ys h.1 k)

-- the bodies of more steps
more_bodies : (own more : List Step) (given later : Option (List Heard)) (got after : Option (List (List ℕ))) → HasNoEnd more → later ≡ added given (heard_by more) → after ≡ added got (said_by more) → IsSoFar own given got → IsSoFar (own ++ more) later after
more_bodies own more given later got after no_end hears says so = (
  subst (Tells later) (sym (each-append (λ (s : Step). heard_of s.deed) own more)) (tells_added given later (heard_by own) (heard_by more) hears so.0),
  subst (Tells after) (sym (each-append (λ (s : Step). said_of s.deed) own more)) (tells_added got after (said_by own) (said_by more) says so.1),
  no_end_append own more so.2 no_end,
)

taking : (bytes : List ℕ) (d : Deed) → IsTaking bytes d → (heard_of d ≡ body bytes ∷ []) × (said_of d ≡ []) × IsNoEnd d
taking bytes (Took c b m served) is = (ap (λ l. body l ∷ []) is, refl, tt)
taking bytes (Gave c m) is = absurd is
taking bytes (Refused m) is = absurd is
taking bytes (Halted c b m h) is = absurd is
taking bytes (Ended c served) is = absurd is
taking bytes (HaltedEnd c h) is = absurd is
taking bytes Broke is = absurd is

giving : (caller : Caller) (m : Msg) (d : Deed) → IsGiving caller m d → (heard_of d ≡ []) × (said_of d ≡ msg_code.spell m ∷ []) × IsNoEnd d
giving caller m (Took c b n served) is = absurd is
giving caller m (Gave c n) is = (refl, ap (λ (x : Msg). msg_code.spell x ∷ []) is.2, tt)
giving caller m (Refused n) is = (refl, ap (λ (x : Msg). msg_code.spell x ∷ []) is.1, tt)
giving caller m (Halted c b n h) is = absurd is
giving caller m (Ended c served) is = absurd is
giving caller m (HaltedEnd c h) is = absurd is
giving caller m Broke is = absurd is

-- the link is at its end, and gave this last
ends_with : (own : List Step) (rest : List Heard) (given later : Option (List Heard)) (got after : Option (List (List ℕ))) → IsRest rest → later ≡ added given rest → after ≡ got → IsSoFar own given got → Carries own later after
ends_with own rest given later got after refused hears same so = record {
  rest = rest;
  refused = refused;
  heard = tells_added given later (heard_by own) rest hears so.0;
  said = subst (λ (o : Option (List (List ℕ))). Tells o (said_by own)) (sym same) so.1;
  no_end = so.2;
}

-- what is known behind a turn, by what it did
abbrev pub Behind : Result Turned ServeFault → List Step → Option (List Heard) → Option (List (List ℕ)) → Type 0
Behind (Ok (turned.Took told)) own given got = IsSoFar own given got
Behind (Ok turned.Gave) own given got = IsSoFar own given got
Behind (Ok turned.Idle) own given got = IsSoFar own given got
Behind (Ok turned.Replaced) own given got = Carries own given got
Behind (Ok turned.Busy) own given got = IsSoFar own given got
Behind (Ok turned.Closed) own given got = Carries own given got
Behind (Err f) own given got = CarriesSo (is_over (Err f)) own given got

module _ {L : Type 0} (faults closes : L → ℕ) (given : L → Option (List Heard)) (got : L → Option (List (List ℕ))) (held : L → List ℕ) (clear : L → Bool) (boxes : ℕ → List Msg) (pass : ℕ) (caller : Caller) (old new : List Step) (before after : L) where
  -- no step was added, and nothing was given or got
  nothing : Adds pass old new [] → given after ≡ added (given before) [] → got after ≡ got before → IsSoFar (of number_of pass old) (given before) (got before) → IsSoFar (of number_of pass new) (given after) (got after)
  nothing adds hears same so =
      subst (λ l. IsSoFar l (given after) (got after)) (sym (own_after pass old new [] adds)) (more_bodies (of number_of pass old) [] (given before) (given after) (got before) (got after) tt hears (none_added (got before) (got after) same) so)

  one : (x : Step) (heard : List Heard) (said : List (List ℕ)) → Adds pass old new (x ∷ []) → heard_of x.deed ≡ heard → said_of x.deed ≡ said → IsNoEnd x.deed → given after ≡ added (given before) heard → got after ≡ added (got before) said
      → IsSoFar (of number_of pass old) (given before) (got before) → IsSoFar (of number_of pass new) (given after) (got after)
  one x heard said adds hears_so says_so no_end hears says so =
      subst (λ l. IsSoFar l (given after) (got after)) (sym (own_after pass old new (x ∷ []) adds)) (more_bodies (of number_of pass old) (x ∷ []) (given before) (given after) (got before) (got after) (no_end, tt)
      (hears ∙ ap (added (given before)) (sym (append-nil (heard_of x.deed) ∙ hears_so))) (says ∙ ap (added (got before)) (sym (append-nil (said_of x.deed) ∙ says_so))) so)

  ends : (rest : List Heard) → IsRest rest → Adds pass old new [] → given after ≡ added (given before) rest → got after ≡ got before → IsSoFar (of number_of pass old) (given before) (got before) → Carries (of number_of pass new) (given after) (got after)
  ends rest refused adds hears same so =
      ends_with (of number_of pass new) rest (given before) (given after) (got before) (got after) refused hears same
      (subst (λ l. IsSoFar l (given before) (got before)) (sym (own_after pass old new [] adds ∙ append-nil (of number_of pass old))) so)

  failed : (f : ServeFault) → ServeFails faults closes given got held boxes pass caller old new before after f → IsSoFar (of number_of pass old) (given before) (got before) → CarriesSo (is_over (Err f)) (of number_of pass new) (given after) (got after)
  failed fault.Net h so = ends [] tt h.0 (⊎_elim (λ r. r.0) (λ r. r.0.0) h.3) h.2 so
  failed (fault.Peer why) h so = ends (body h.1.0 ∷ []) (why, h.1.2) h.0 h.1.1.0 h.1.1.1 so
  failed (fault.Long n) h so = ends (long n ∷ []) tt h.0 h.1 h.2 so
  failed fault.DiskFailed h so = tt
  failed fault.DiskStopped h so = tt
  failed (fault.Spent n) h so = tt
  failed fault.Down h so = tt
  failed fault.NoMemory h so = tt

  turned_so : (r : Result Turned ServeFault) → Serves faults closes given got held clear boxes pass caller old new before after r → IsSoFar (of number_of pass old) (given before) (got before) → Behind r (of number_of pass new) (given after) (got after)
  turned_so (Ok (turned.Took told)) h so =
      let is = taking h.0.1 h.0.0.deed h.0.3 in
      one h.0.0 (body h.0.1 ∷ []) [] h.0.2 is.0 is.1 is.2 h.0.5.0 (none_added (got before) (got after) h.0.5.1) so
  turned_so (Ok turned.Gave) h so =
      let is = giving caller h.0.1 h.0.0.deed h.0.3 in
      one h.0.0 [] (msg_code.spell h.0.1 ∷ []) h.0.2 is.0 is.1 is.2 h.1.0 h.0.4 so
  turned_so (Ok turned.Idle) h so = nothing h.0 h.2.0 h.4 so
  turned_so (Ok turned.Replaced) h so = ends [] tt h.0 h.2.0 h.4 so
  turned_so (Ok turned.Busy) h so = nothing h.0 h.2.0 h.3 so
  turned_so (Ok turned.Closed) h so = ends [] tt h.0 h.2 h.3 so
  turned_so (Err f) h so = failed f h so

-- where no further turn is taken, whatever the last one did
pub ends_anyhow : (t : Turned) (own : List Step) (given : Option (List Heard)) (got : Option (List (List ℕ))) → Behind (Ok t) own given got → Carries own given got
ends_anyhow (turned.Took told) own given got so = ends_with own [] given given got got tt (none_added given given refl) refl so
ends_anyhow turned.Gave own given got so = ends_with own [] given given got got tt (none_added given given refl) refl so
ends_anyhow turned.Idle own given got so = ends_with own [] given given got got tt (none_added given given refl) refl so
ends_anyhow turned.Busy own given got so = ends_with own [] given given got got tt (none_added given given refl) refl so
ends_anyhow turned.Replaced own given got so = so
ends_anyhow turned.Closed own given got so = so

-- a link that failed gave and got what the steps of its pass say
pub failed_so : {L : Type 0} (faults closes : L → ℕ) (given : L → Option (List Heard)) (got : L → Option (List (List ℕ))) (held : L → List ℕ) (boxes : ℕ → List Msg) (pass : ℕ) (caller : Caller) (old new : List Step) (before after : L)
    → ServeFails faults closes given got held boxes pass caller old new before after fault.Net → IsSoFar (of number_of pass old) (given before) (got before) → IsSoFar (of number_of pass new) (given after) (got after)
failed_so faults closes given got held boxes pass caller old new before after h so =
    subst (λ l. IsSoFar l (given after) (got after)) (sym (own_after pass old new [] h.0))
    (more_bodies (of number_of pass old) [] (given before) (given after) (got before) (got after) tt (⊎_elim (λ r. r.0) (λ r. r.0.0) h.3) (none_added (got before) (got after) h.2) so)

-- the other pass has greeted since
pub replaced_so : (pass : ℕ) (caller : Caller) (steps : List Step) → caller ≡ caller_by pass steps → IsReplaced pass caller steps → WasReplaced pass steps
replaced_so pass caller steps is r = record { before = steps; later = ([], append-nil steps); replaced = subst (λ (k : Caller). IsReplaced pass k steps) is r }

-- a link whose clerk has another one, by what its pass knows
pub replaced_pass : {K : Type 0} (kept : K → Durable) (lock : TracedLock (Node K) Step) (old : ServerPass K) (new : Pass (Node K) Step) → IsServerPass kept lock old → Same old.pass new → Adds old.pass.number (front old.pass) (front new) [] → IsReplaced old.pass.number old.caller (front new)
    → WasReplaced new.number (front new)
replaced_pass kept lock old new is same added r =
    let n = old.pass.number in
    let own = own_after n (front old.pass) (front new) [] added ∙ append-nil (of number_of n (front old.pass)) in
    subst (λ k. WasReplaced k (front new)) (sym same.0) (replaced_so n old.caller (front new) (is.caller_is ∙ ap (caller_from nobody) (sym own)) r)

-- the same, where what the turn did is told by its name
pub replaced_as : {K L : Type 0} (kept : K → Durable) (lock : TracedLock (Node K) Step) (faults closes : L → ℕ) (given : L → Option (List Heard)) (got : L → Option (List (List ℕ))) (held : L → List ℕ) (clear : L → Bool) (boxes : ℕ → List Msg) (old : ServerPass K) (new : Pass (Node K) Step) (before after : L)
    (did : Turned) → did ≡ turned.Replaced → IsServerPass kept lock old → Same old.pass new → Serves faults closes given got held clear boxes old.pass.number old.caller (front old.pass) (front new) before after (Ok did) → WasReplaced new.number (front new)
replaced_as kept lock faults closes given got held clear boxes old new before after did named is same h =
    by (subst (λ (t : Turned). Serves faults closes given got held clear boxes old.pass.number old.caller (front old.pass) (front new) before after (Ok t)) named h)
  where
    by : Serves faults closes given got held clear boxes old.pass.number old.caller (front old.pass) (front new) before after (Ok turned.Replaced) → WasReplaced new.number (front new)
    by h = replaced_pass kept lock old new is same h.0 h.1

module _ {K L : Type 0} (given : L → Option (List Heard)) (got : L → Option (List (List ℕ))) where
  -- a link that failed may go on to be read
  pub failed_pass : (faults closes : L → ℕ) (held : L → List ℕ) (boxes : ℕ → List Msg) (caller : Caller) (old new : Pass (Node K) Step) (before after : L) → Same old new
      → ServeFails faults closes given got held boxes old.number caller (front old) (front new) before after fault.Net → IsServed given got old before → IsServed given got new after
  failed_pass faults closes held boxes caller old new before after same h so =
      subst (λ n. IsSoFar (of number_of n (front new)) (given after) (got after)) (sym same.0) (failed_so faults closes given got held boxes old.number caller (front old) (front new) before after h so)

  -- the same, where the fault is told by its name
  pub failed_as : (faults closes : L → ℕ) (held : L → List ℕ) (boxes : ℕ → List Msg) (caller : Caller) (old new : Pass (Node K) Step) (before after : L) (f : ServeFault) → f ≡ fault.Net → Same old new
      → ServeFails faults closes given got held boxes old.number caller (front old) (front new) before after f → IsServed given got old before → IsServed given got new after
  failed_as faults closes held boxes caller old new before after f named same h so =
      failed_pass faults closes held boxes caller old new before after same (subst (λ (x : ServeFault). ServeFails faults closes given got held boxes old.number caller (front old) (front new) before after x) named h) so

  -- a link that ends before a turn
  pub ends_there : (pass : Pass (Node K) Step) (link later : L) → given later ≡ given link → got later ≡ got link → IsServed given got pass link → WasServed given got true pass later
  ends_there pass link later hears says so = ends_with (own_steps pass) [] (given link) (given later) (got link) (got later) tt (none_added (given link) (given later) hears) says so

  pub still_served : (pass : Pass (Node K) Step) (link later : L) → given later ≡ given link → got later ≡ got link → IsServed given got pass link → IsServed given got pass later
  still_served pass link later hears says so = (
    subst (λ (o : Option (List Heard)). Tells o (heard_by (own_steps pass))) (sym hears) so.0,
    subst (λ (o : Option (List (List ℕ))). Tells o (said_by (own_steps pass))) (sym says) so.1,
    so.2,
  )

  -- hanging up changes nothing that is told
  pub still_gone : (over b : Bool) (pass : Pass (Node K) Step) (link later : L) → b ≡ over → given later ≡ given link → got later ≡ got link → WasServed given got over pass link → WasServed given got b pass later
  still_gone over b pass link later is hears says was =
      subst (λ x. WasServed given got x pass later) (sym is)
      (subst (λ (o : Option (List Heard)). CarriesSo over (own_steps pass) o (got later)) (sym hears) (subst (λ (o : Option (List (List ℕ))). CarriesSo over (own_steps pass) (given link) o) (sym says) was))

  -- a turn of the pass
  pub turned_pass : (faults closes : L → ℕ) (held : L → List ℕ) (clear : L → Bool) (boxes : ℕ → List Msg) (caller : Caller) (old new : Pass (Node K) Step) (before after : L) (r : Result Turned ServeFault) → Same old new
      → Serves faults closes given got held clear boxes old.number caller (front old) (front new) before after r → IsServed given got old before → Behind r (own_steps new) (given after) (got after)
  turned_pass faults closes held clear boxes caller old new before after r same h so =
      subst (λ n. Behind r (of number_of n (front new)) (given after) (got after)) (sym same.0)
      (turned_so faults closes given got held clear boxes old.number caller (front old) (front new) before after r h so)

  -- the same, where what the turn did is told by its name
  pub turned_as : (faults closes : L → ℕ) (held : L → List ℕ) (clear : L → Bool) (boxes : ℕ → List Msg) (caller : Caller) (old new : Pass (Node K) Step) (before after : L) (did named : Turned) → did ≡ named → Same old new
      → Serves faults closes given got held clear boxes old.number caller (front old) (front new) before after (Ok did) → IsServed given got old before → Behind (Ok named) (own_steps new) (given after) (got after)
  turned_as faults closes held clear boxes caller old new before after did named is same h so =
      subst (λ (t : Turned). Behind (Ok t) (own_steps new) (given after) (got after)) is (turned_pass faults closes held clear boxes caller old new before after (Ok did) same h so)
