-- What queued calls keep: all facts, also of a run over a volume, and that nobody said goodbye.
use Rattle.std.proofs.Common.{◌≡◌, refl, inl, inr, ◌+◌, ℕ, Bool, true, false}
use Rattle.std.specs.List.{list_any}
use Rattle.ec_plain.specs.declared.call.Call.{Call}
use Rattle.ec_volume.specs.Volume.{Images}
use Rattle.ec_history.specs.declared.shown.Shown.TheVariants.{Waits}
use Rattle.ec_protocol.specs.Clerk.{Doing, begin}
use Rattle.ec_protocol.specs.World.{is_answer_to}
use Rattle.ec_protocol.specs.declared.clerk.Clerk.{Clerk}
use Rattle.ec_coherence.specs.System.{System, Ghost}
use Rattle.ec_coherence.specs.Steps.{doing_in}
use Rattle.ec_coherence.specs.StandLaws.{lined}
use Rattle.ec_lawful.specs.Asked.{AsksAgree}
use Rattle.ec_lawful.specs.Runs.{OfRun}
use Rattle.ec_lawful.specs.Steps.{StepIsDone}
use Rattle.ec_lawful.specs.Ties.{called, waiting}
use Rattle.ec_lawful.specs.Whole.{Whole}
use Rattle.ec_lawful.proofs.ForAsked.Agreeing.{steps-stay}
use Rattle.ec_lawful.proofs.Tries.{tries-show}
use Rattle.ec_lease_machine.specs.OfQueues.Queued.{QueuesKeep}
use Rattle.ec_lease_machine.proofs.OfQueues.Resumes.{resumes-whole}
use Rattle.ec_lease_machine.proofs.OfQueues.WaitsFirst.{waits-whole}

pub queued-keep : QueuesKeep Whole
queued-keep = record {
  waits = λ g c b whole run l cl new. waits-whole g whole c b l cl run new;
  resumes = λ g c b k whole run there l cl may shown bounded. resumes-whole g whole c b k run there (λ h. tries-show h c b) l cl may shown bounded;
}

module _ (v : Images) (most : ℕ) where
  done-in : (h : System) (c b : ℕ) (d : Doing) → h.origin ≡ v → h.durable.max_objects ≡ most → StepIsDone Whole h c b d → StepIsDone (OfRun v most) h c b d
  done-in h c b d q r (inl s) = inl s
  done-in h c b d q r (inr (γ, shown, w)) = inr (γ, shown, record { whole = w; origin = q; most_is = r })

  pub queued-in-run : QueuesKeep (OfRun v most)
  queued-in-run = record {
    waits = λ g c b f run l cl new. record { whole = queued-keep.waits g c b f.whole run l cl new; origin = f.origin; most_is = f.most_is };
    resumes = λ g c b k f run there l cl may shown bounded.
        done-in (called c (k.calls + 1) l cl g) c b (begin cl k) f.origin f.most_is (queued-keep.resumes g c b k f.whole run there l cl may shown bounded);
  }

-- Beside other facts.
module _ (first : ℕ → ℕ) (F : System → Type 0) (queues : QueuesKeep F) where
  abbrev Both : System → Type 0
  Both g = F g × AsksAgree first g

  -- a call that begins leaves boots, starts and messages, shown or not
  resumed-agrees : (g : System) (c b : ℕ) (k : Clerk) (l : ℕ) (cl : Call) → AsksAgree first g → (γ : Ghost) → AsksAgree first (doing_in c b (begin cl k) γ (called c (k.calls + 1) l cl g))
  resumed-agrees g c b k l cl a γ = go (list_any (is_answer_to (k.calls + 1)) (begin cl k).outs) ((steps-stay first g a).calls c b l cl k γ)
    where
      go : (z : Bool) → AsksAgree first (doing_in c b (begin cl k) γ (waiting c l cl z (called c (k.calls + 1) l cl g))) → AsksAgree first (doing_in c b (begin cl k) γ (called c (k.calls + 1) l cl g))
      go true p = p
      go false p = (steps-stay first (doing_in c b (begin cl k) γ (waiting c l cl false (called c (k.calls + 1) l cl g))) p).others (doing_in c b (begin cl k) γ (called c (k.calls + 1) l cl g)) refl refl refl refl

  done : (h : System) (c b : ℕ) (d : Doing) → ((γ : Ghost) → AsksAgree first (doing_in c b d γ h)) → StepIsDone F h c b d → StepIsDone Both h c b d
  done h c b d a (inl x) = inl x
  done h c b d a (inr (γ, u, f)) = inr (γ, u, (f, a γ))

  pub asks-queue : QueuesKeep Both
  asks-queue = record {
    waits = λ g c b h run l cl new. (queues.waits g c b h.0 run l cl new, (steps-stay first g h.1).others (lined g (Waits l c cl)) refl refl refl refl);
    resumes = λ g c b k h run is l cl may shown bounded. done (called c (k.calls + 1) l cl g) c b (begin cl k) (resumed-agrees g c b k l cl h.1) (queues.resumes g c b k h.0 run is l cl may shown bounded);
  }
