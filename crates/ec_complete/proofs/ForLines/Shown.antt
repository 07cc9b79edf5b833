-- A clerk that waits in its session sees what is kept, so its call may go on.
use Rattle.std.proofs.Common.{◌≡◌, refl, sym, ap, subst, ◌∙◌, inl, inr, arith, ◌⊎◌, ◌≤◌, ◌+◌, ◌*◌, ℕ, T, length, length-append, List, [], ◌∷◌, ◌++◌, Some}
use Rattle.ec_base.specs.Tables.{or_else}
use Rattle.ec_volume.specs.Image.{is_gone}
use Rattle.ec_volume.specs.Update.{member}
use Rattle.ec_volume.specs.Volume.{after}
use Rattle.ec_volume.specs.declared.image.Image.{Image}
use Rattle.ec_volume.specs.declared.image.Image.TheVariants.{Gone}
use Rattle.ec_history.specs.History.{Each, updates}
use Rattle.ec_plain.specs.BoundedCalls.{is_bounded}
use Rattle.ec_cache.specs.OfResolve.Agreement.{Shows}
use Rattle.ec_protocol.specs.Clerk.{first_id}
use Rattle.ec_protocol.specs.declared.clerk.Clerk.{Clerk}
use Rattle.ec_protocol.specs.declared.clerk.Waiting.{Waiting}
use Rattle.ec_coherence.specs.System.{System, clerk_in, seen_ops}
use Rattle.ec_coherence.specs.ChangeLaws.{IsInIt}
use Rattle.ec_coherence.specs.Invariant.{Invariant}
use Rattle.ec_coherence.specs.Steps.{call_of}
use Rattle.ec_coherence.proofs.ForServer.Formed.{volume-formed}
use Rattle.ec_lawful.specs.OfClerkSteps.Calls.{Began}
use Rattle.ec_coherence.specs.Answers.{IsLive, Sees, seen_by}
use Rattle.ec_coherence.proofs.ForCommits.Answering.{fresh-gone}
use Rattle.ec_coherence.proofs.ForCommits.Judged.{shows-all}
use Rattle.ec_lawful.proofs.OfClerkSteps.Live as live
use Rattle.ec_lawful.proofs.OfClerkSteps.ForNames.Storing.{same-image}
use Rattle.ec_machine_laws.proofs.Once.{fewer}
use Rattle.ec_quiet.specs.Works.{Work}
use Rattle.ec_quiet.specs.Goes.{MayGo}
use Rattle.ec_complete.specs.OfAgreedLines.Shown.{IsCalling, IsShown, next_id}
use Rattle.ec_complete.proofs.OfAgreedLines.CallsGo.{may-go}
use Rattle.ec_complete.specs.WaitingCalls.{HasCall, IsAgreed, kept_volume}
use Rattle.ec_complete.proofs.ForLines.Pinned.{ids-stored, log-behind, once-each, pinned-stored, stored-few, stored_ids}

module _ (g : System) (c b s : ℕ) (k : Clerk) (j : Work) (w : Waiting) (a : IsAgreed g c b s k) (h : HasCall j w k (kept_volume g)) where
  inv : Invariant g
  inv = a.all.0

  in-it : IsInIt g c s k.age k
  in-it = record {
    start = record { owns = (inv.sessions.in_session c b s k a.stands a.session).0; stands = ap (g.clerks c) (inv.sessions.starts c b k a.stands).1 ∙ a.stands };
    session = a.session;
  }

  lives : IsLive g c k
  lives = live.live g a.all c s k.age k in-it a.zeros a.is_open

  sees : Sees g k
  sees = live.sees g a.all c s k.age k in-it a.zeros a.is_open

  place : live.IsSlot g c s k.age
  place = live.its-slot g a.all c s k.age k in-it a.is_open

  there : clerk_in g s ≡ Some k
  there = live.there g a.all c s k.age k in-it

  seen-is : seen_by g k ≡ kept_volume g
  seen-is = ap (λ z. after g.origin (updates (seen_ops z g.ghost.kept))) lives.sees_all

  shows : Shows k.cache (first_id k.ids) (kept_volume g)
  shows = subst (λ v. Shows k.cache (first_id k.ids) v) seen-is (shows-all k.cache (seen_by g k) sees.images (first_id k.ids) (fresh-gone g k sees))

  is-gone : (i : Image) → i ≡ Gone → T (is_gone i)
  is-gone i e = subst (λ z. T (is_gone z)) (sym e) tt

  -- the next id is of no object, also where it's 0, since there is none
  next-gone : (xs : List ℕ) → k.ids ≡ xs → T (is_gone (kept_volume g (or_else 0 (first_id xs))))
  next-gone [] e = is-gone (kept_volume g 0) (same-image 0 (g.origin 0) g.ghost.kept a.zeros.kept ∙ a.zeros.origin)
  next-gone (x ∷ xs) e = is-gone (kept_volume g x) (sym (ap (λ v. v x) seen-is) ∙ fresh-gone g k sees x (ap first_id e))

  next-about : (xs : List ℕ) → k.ids ≡ xs → (or_else 0 (first_id xs) ≡ 0) ⊎ T (member (or_else 0 (first_id xs)) j.touched)
  next-about [] e = inl refl
  next-about (x ∷ xs) e = inr (h.id x (ap first_id e))

  -- the call that waits was made within its bounds
  bounded : T (is_bounded w.call)
  bounded =
      let start = a.calls.starts c b k a.runs a.stands in
      let line = (subst (Each (λ v. (l : ℕ) × (call_of c v.no g.calls ≡ Some (l, v.call)) × Began g c b k v l)) h.waiting start.lined).0 in
      (a.calls.calls c w.no line.0 w.call line.1).bounded

  is-shown : IsShown j w k (kept_volume g)
  is-shown = record {
    shows = shows;
    formed = volume-formed g inv.images;
    gone = next-gone k.ids refl;
    bounded = bounded;
    touched = λ x t. inl (h.about w.call h.is (next_id k) (next-about k.ids refl) x t);
  }

  -- Few tokens have to stay.

  ids-few : length k.ids ≤ 1024
  ids-few = through (length k.ids) (length (stored_ids g.durable))
      (fewer k.ids (stored_ids g.durable) (once-each k.ids (a.frees.once s k there)) (ids-stored g inv.sessions inv.logs inv.images c s place.slot_of k place.here place.of place.opened there h.batches)) (stored-few g.durable a.order)
    where
      through : (m n : ℕ) → m ≤ n → n ≤ 1024 → m ≤ 1024
      through m n p q = omega (arith, p, q)

  enough : (p t i both : ℕ) → both ≡ t + i → p ≤ 1024 → t ≤ 137 → i ≤ 1024 → p + 2 * both ≤ 4096
  enough p t i both e x y z = omega (arith, e, x, y, z)

  is-calling : IsCalling j w k
  is-calling = record {
    is = h.is;
    unowed = h.unowed;
    waiting = h.waiting;
    pushes = h.pushes;
    begun = h.begun;
    behind = log-behind k.log.next k.log.undurable a.orderly.log.numbers;
    small = h.small;
    counters = h.counters;
    aged = h.aged;
    pinned = stored_ids g.durable;
    stay = pinned-stored g inv.sessions inv.logs inv.images c s place.slot_of k place.here place.of place.opened there h.batches;
    once = a.orderly.keyed;
    capacity = h.capacity;
    room = enough (length (stored_ids g.durable)) (length j.touched) (length k.ids) (length (j.touched ++ k.ids)) (length-append j.touched k.ids) (stored-few g.durable a.order) h.few ids-few;
  }

  pub agreed-may-go : MayGo j k
  agreed-may-go = may-go j w k (kept_volume g) is-calling is-shown
