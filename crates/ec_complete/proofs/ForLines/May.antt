-- A call that begins where all is idle may go on.
use Rattle.std.proofs.Common.{◌≡◌, refl, sym, ap, subst, ◌∙◌, inl, ◌≤◌, ◌+◌, ◌-◌, ◌++◌, ◌||◌, ℕ, T, true, false, List, [], ◌∷◌, Some, arith}
use Rattle.ec_base.specs.Tables.{at, or_else}
use Rattle.ec_volume.specs.Update.{member}
use Rattle.ec_plain.specs.Plain.{plain}
use Rattle.ec_plain.specs.declared.call.Call.{Call}
use Rattle.ec_sessions.specs.declared.slot.Slot.{Slot}
use Rattle.ec_durable.specs.Durable.{slot}
use Rattle.ec_durable.specs.WellFormed.{IsInOrder}
use Rattle.ec_cache.specs.declared.state.Held.{Held}
use Rattle.ec_protocol.specs.Clerk.{Doing, add_call, doing}
use Rattle.ec_protocol.specs.declared.clerk.Clerk.{Clerk}
use Rattle.ec_protocol.specs.declared.clerk.Waiting.{Waiting}
use Rattle.ec_protocol.specs.declared.world.World.{World}
use Rattle.ec_coherence.specs.Log.{next_of}
use Rattle.ec_coherence.specs.Steps.{doing_in}
use Rattle.ec_coherence.specs.System.{System, is_open}
use Rattle.ec_coherence.proofs.ForBatches.Ids.{in-back}
use Rattle.ec_coherence.proofs.ForBatches.OpenSlots.{at-open}
use Rattle.ec_coherence.proofs.ForBatches.ClerkIn.{start-same}
use Rattle.ec_lawful.specs.OfClerkSteps.Frees.{FreesAgree}
use Rattle.ec_lawful.specs.OfClerkSteps.Trying.{IsTrying}
use Rattle.ec_lawful.specs.OfClerkSteps.Zeros.{HasNoZero, ZerosAgree}
use Rattle.ec_lawful.proofs.OfClerkSteps.ForNames.ZerosBehind.{steps-keep}
use Rattle.ec_lawful.proofs.OfClerkSteps.ForDoings.FreesStored.{stills-keep}
use Rattle.ec_lawful.specs.BeginLaws.{HasBegun}
use Rattle.ec_lawful.proofs.ForBegins.Called.{has-begun}
use Rattle.ec_lawful.proofs.ForBegins.Beginning.{begins}
use Rattle.ec_lawful.proofs.ForBegins.Carrying.{no-zero}
use Rattle.ec_lawful.specs.Steps.{IsNewIn}
use Rattle.ec_lawful.specs.Ties.{called}
use Rattle.ec_quiet.specs.Facts.{IsIdleBut}
use Rattle.ec_quiet.specs.Phases.{IsAged}
use Rattle.ec_quiet.specs.Scenes.{Scene}
use Rattle.ec_quiet.specs.Works.{Work}
use Rattle.ec_quiet.specs.Goes.{MayGo}
use Rattle.ec_quiet.proofs.Taking.{each-map}
use Rattle.ec_complete.specs.OfAgreedLines.Worlds.{IsSeen}
use Rattle.ec_complete.proofs.OfAgreedLines.Seen.{scenes-seen}
use Rattle.ec_complete.specs.WaitingCalls.{HasCall, IsAgreed, kept_volume}
use Rattle.ec_complete.proofs.ForLines.About.{lines-about}
use Rattle.ec_complete.proofs.ForLines.Shown.{agreed-may-go}
use Rattle.ec_complete.specs.Lines.{next_given, next_object}
use Rattle.ec_complete.proofs.ForLines.Taking.{runs-in}
use Rattle.ec_complete.specs.LineCalls.{IsCalled}
use Rattle.ec_base.proofs.Numbers.{same-self as same}
use Rattle.ec_quiet.proofs.OfDeliveries.Holding.{same-slot}
use Rattle.ec_base.proofs.Lists.{no-more}
use Rattle.ec_lawful.proofs.StepsLemmas.{new-in}
use Rattle.ec_quiet.proofs.Once.{found-once}

-- the last of some
pub last-there : (x : ℕ) (xs : List ℕ) → T (member x (xs ++ x ∷ []))
last-there x xs = in-back x xs (x ∷ []) (subst T (sym (ap (λ z. z || false) (same x))) tt)

module _ (j : Work) (l : ℕ) (cl : Call) (w : World) (sc : Scene) (g : System) (sl : Slot) (k : Clerk) (is : IsCalled j cl w sc g sl k) where
  own : (t : Slot) × IsIdleBut [] sc.server j.clerk t k
  own = is.idle.clerks j.clerk k is.its.there

  pub idle-own : IsIdleBut [] sc.server j.clerk sl k
  idle-own = subst (λ t. IsIdleBut [] sc.server j.clerk t k) (same-slot own.0 sl (sym own.1.inside.there ∙ is.its.slot)) own.1

  abbrev i : IsIdleBut [] sc.server j.clerk sl k
  i = idle-own

  seen : IsSeen g sc
  seen = scenes-seen w g sc is.stands is.scene

  pub start : (b : ℕ) × (g.running j.clerk ≡ Some b) × (g.clerks j.clerk b ≡ Some k)
  start = runs-in w g is.stands j.clerk k (ap (at j.clerk) is.scene.clerks ∙ is.its.there)

  abbrev pub d : Doing
  d = doing (add_call cl k)

  abbrev wait : Waiting
  wait = record { no = k.calls + 1; call = cl; begun = k.log.next - 1 }

  abbrev pub S : System
  S = called j.clerk (k.calls + 1) l cl g

  t : IsTrying g j.clerk start.0 (doing k) g.ghost
  t = (begins g is.whole j.clerk start.0 k start.1 start.2).trying

  zero : HasNoZero d.clerk
  zero = let z = no-zero g j.clerk start.0 (doing k) g.ghost t in record { ids = z.ids; undurable = z.undurable; owed = z.owed }

  zeros : ZerosAgree (doing_in j.clerk start.0 d g.ghost g)
  zeros = steps-keep g j.clerk start.0 (doing k) d g.ghost g.ghost (record { origin = refl; kept = refl; frozen = refl; next_id = refl; grants = refl; first = refl }) zero t.zeros

  frees : FreesAgree (doing_in j.clerk start.0 d g.ghost g)
  frees = stills-keep g j.clerk start.0 (doing k) g.ghost t.frees d g.ghost refl refl refl refl refl (inl (refl, refl, refl))

  order : IsInOrder g.durable
  order = subst IsInOrder (sym seen.durable) is.order

  opened : T (is_open g j.session)
  opened = at-open j.session g.durable.sessions j.clerk sl (ap (λ d. slot d j.clerk) seen.durable ∙ is.its.slot, is.its.session, subst T (sym i.inside.is_open) tt)

  pub agreed : IsNewIn w l → IsAgreed (doing_in j.clerk start.0 d g.ghost S) j.clerk start.0 j.session d.clerk
  agreed new =
      let x : HasBegun S j.clerk start.0 d g.ghost = has-begun g is.whole.all is.whole.calls is.whole.rest j.clerk start.0 k start.1 start.2 l cl (new-in w g is.stands l new) is.bounded true in
      record {
        all = (((x.stands).0).invariant, (x.stands).1, (x.stands).2, (x.stands).3);
        calls = x.calls;
        zeros = record { origin = zeros.origin; kept = zeros.kept; frozen = zeros.frozen; next = zeros.next; first = zeros.first; clerks = zeros.clerks };
        frees = record { unused = frees.unused; once = frees.once };
        order = order;
        orderly = (let o = t.orderly in record { keyed = o.keyed; recalls = o.recalls; asking = o.asking; log = o.log; sound = o.sound; batches = o.batches });
        runs = start.1;
        stands = start-same j.clerk start.0 d.clerk g.clerks;
        session = i.inside.session ∙ ap Some is.its.session;
        is_open = opened;
      }

  -- each token is from before
  old-one : (e : ℕ × Held) → at e.0 k.cache.held ≡ Some e.1 → (e.1).number ≤ j.number
  old-one e f = omega (arith, i.inside.numbers e.0 e.1 f, i.inside.lasts e.0, is.its.number)

  aged : IsAged j d.clerk
  aged = record {
    olds = k.cache.held;
    news = [];
    whole = sym (no-more k.cache.held);
    old = each-map {A = ℕ × Held} (λ e. at e.0 k.cache.held ≡ Some e.1) (λ e. (e.1).number ≤ j.number) old-one k.cache.held (found-once k.cache.held is.its.once);
    fresh = tt;
  }

  from-one : 1 ≤ k.log.next
  from-one = subst (λ o. 1 ≤ next_of o) start.2 ((((is.whole.all).0).logs.starts j.clerk start.0).from_one)

  next-number : (k.log.next - 1) + 1 ≡ k.log.next
  next-number = omega (arith, from-one)

  pub object-there : T (member (next_object sc j.clerk k) j.touched)
  object-there = subst (λ z. T (member (next_object sc j.clerk k) z)) (sym is.touched) (last-there (next_object sc j.clerk k) (plain (kept_volume g) cl 0).touched)

  has : HasCall j wait d.clerk (kept_volume g)
  has = record {
    is = is.task;
    unowed = i.inside.unowed;
    waiting = ap (λ z. z ++ wait ∷ []) i.waiting;
    pushes = i.pushes;
    begun = next-number;
    batches = i.free.batches;
    small = is.small;
    counters = record { asks = is.counters.asks; ops = is.counters.ops; batches = is.counters.batches };
    aged = aged;
    capacity = i.inside.capacity;
    few = (lines-about j cl (kept_volume g) (next_object sc j.clerk k) is.task is.touched is.bounded).1;
    about = (lines-about j cl (kept_volume g) (next_object sc j.clerk k) is.task is.touched is.bounded).0;
    id = λ x e. subst (λ z. T (member z j.touched)) (ap (or_else (next_given sc.server.durable.next_id k (slot sc.server.durable j.clerk))) e) object-there;
  }

  pub may-begin : IsNewIn w l → MayGo j (add_call cl k)
  may-begin new = agreed-may-go (doing_in j.clerk start.0 d g.ghost S) j.clerk start.0 j.session d.clerk j wait (agreed new) has

pub calls-may-begin : (j : Work) (l : ℕ) (cl : Call) (w : World) (sc : Scene) (g : System) (sl : Slot) (k : Clerk) → IsCalled j cl w sc g sl k → IsNewIn w l → MayGo j (add_call cl k)
calls-may-begin j l cl w sc g sl k is new = may-begin j l cl w sc g sl k is new
