-- A clerk whose cache shows a volume waits for what a line is to make durable over that volume.
use Rattle.std.proofs.Common.{◌≡◌, refl, sym, ap, ◌∙◌, ℕ, Bool, true, false, ◌+◌, List, [], ◌∷◌}
use Rattle.std.specs.Prelude.{Option, None, Some}
use Rattle.ec_base.specs.Tables.{or_else}
use Rattle.ec_volume.specs.Entries.{entry}
use Rattle.ec_volume.specs.Image.{is_gone}
use Rattle.ec_volume.specs.Update.{root}
use Rattle.ec_volume.specs.Volume.{Images}
use Rattle.ec_volume.specs.declared.image.Image.{Image}
use Rattle.ec_volume.specs.declared.image.Image.TheVariants as image
use Rattle.ec_plain.specs.Plain.{answers, plain, refuses}
use Rattle.ec_plain.specs.Walk.{At, Not, Path, Reached, Walk, stop, walk, walk_from}
use Rattle.ec_plain.specs.declared.call.Call.{Call}
use Rattle.ec_plain.specs.declared.call.Call.TheVariants as call
use Rattle.ec_plain.specs.declared.call.Outcome.{Outcome}
use Rattle.ec_plain.specs.declared.call.Refusal.{Refusal}
use Rattle.ec_plain.specs.declared.call.Refusal.TheVariants as no
use Rattle.ec_plain.specs.declared.call.Reply.TheVariants as reply
use Rattle.ec_log.specs.declared.state.Asked.{Asked}
use Rattle.ec_log.specs.declared.state.Asked.TheVariants.{Object}
use Rattle.ec_cache.specs.OfResolve.Agreement.{Shows}
use Rattle.ec_cache.specs.declared.resolve.verdict.Verdict.{Verdict}
use Rattle.ec_cache.specs.declared.resolve.verdict.Verdict.TheVariants.{Need, NeedIds, Lost, Done}
use Rattle.ec_cache.proofs.OfResolve.Settled.{done-comes}
use Rattle.ec_protocol.specs.Clerk.{awaited, first_id, last_number, on_object, verdict}
use Rattle.ec_protocol.specs.declared.clerk.Clerk.{Clerk}
use Rattle.ec_quiet.specs.Works.{Task, Calls, Pushes, Work, asked, asked_in}
use Rattle.ec_quiet.specs.OfDeliveries.Behind.{saved_by}
use Rattle.ec_quiet.specs.OfDeliveries.PhasesBehind.{Sees, saved}

none-some : {A B : Type 0} (x : A) → ◌≡◌ {A = Option A} None (Some x) → B
none-some {A} x e = absurd (apart e)
  where
    apart : ◌≡◌ {A = Option A} None (Some x) → ⊥
    apart e = cc

-- The last object of a walk is the one that it comes to.

last-more : (o : ℕ) (os : List ℕ) (x : ℕ) → last_number os ≡ Some x → last_number (o ∷ os) ≡ Some x
last-more o [] x e = none-some x e
last-more o (p ∷ os) x e = e

ends-at : (v : Images) (i o : ℕ) (ns : Path) (x : ℕ) → (walk_from v i o ns).to ≡ At x → last_number (walk_from v i o ns).read ≡ Some x
ends-at v i o [] x e = go (is_gone (v o)) e
  where
    apart : Not (no.NotFound i) ≡ At x → ⊥
    apart e = cc

    go : (b : Bool) → Rattle.std.specs.Prelude.cond b (Not (no.NotFound i)) (At o) ≡ At x → last_number (o ∷ []) ≡ Some x
    go true e = absurd (apart e)
    go false e = ap Some cc
ends-at v i o (n ∷ ns) x e = next (λ q f. ends-at v (i + 1) q ns x f) (v o) e
  where
    stops : (r : Refusal) → (stop (Not r)).to ≡ At x → last_number (o ∷ []) ≡ Some x
    stops r e = absurd (apart e)
      where
        apart : Not r ≡ At x → ⊥
        apart e = cc

    found : ((q : ℕ) → (walk_from v (i + 1) q ns).to ≡ At x → last_number (walk_from v (i + 1) q ns).read ≡ Some x)
        → (p : Option ℕ) → (elim p as (λ z. Walk) [ None ↦ stop (Not (no.NotFound (i + 1))) | Some q ↦ walk_from v (i + 1) q ns ]).to ≡ At x
        → last_number (o ∷ (elim p as (λ z. Walk) [ None ↦ stop (Not (no.NotFound (i + 1))) | Some q ↦ walk_from v (i + 1) q ns ]).read) ≡ Some x
    found more None e = stops (no.NotFound (i + 1)) e
    found more (Some q) e = last-more o (walk_from v (i + 1) q ns).read x (more q e)

    next : ((q : ℕ) → (walk_from v (i + 1) q ns).to ≡ At x → last_number (walk_from v (i + 1) q ns).read ≡ Some x) → (y : Image)
        → (elim y as (λ z. Walk) [
          | image.Gone ↦ stop (Not (no.NotFound i))
          | image.File m s w bs ↦ stop (Not (no.NotDir i))
          | image.Dir m s w es ↦ elim (entry es n) as (λ z. Walk) [ None ↦ stop (Not (no.NotFound (i + 1))) | Some p ↦ walk_from v (i + 1) p ns ]
        ]).to ≡ At x
        → last_number (o ∷ (elim y as (λ z. Walk) [
          | image.Gone ↦ stop (Not (no.NotFound i))
          | image.File m s w bs ↦ stop (Not (no.NotDir i))
          | image.Dir m s w es ↦ elim (entry es n) as (λ z. Walk) [ None ↦ stop (Not (no.NotFound (i + 1))) | Some p ↦ walk_from v (i + 1) p ns ]
        ]).read) ≡ Some x
    next more image.Gone e = stops (no.NotFound i) e
    next more (image.File m s w bs) e = stops (no.NotDir i) e
    next more (image.Dir m s w es) e = found more (entry es n) e

-- What the call waits for.

module _ (v : Images) (id : ℕ) (a : Asked) where
  reached : (p : Path) (r : Reached) → (walk v p).to ≡ r → awaited (call.Fsync p) (elim r as (λ z. Outcome) [ At x ↦ answers reply.Ok (walk v p).read | Not f ↦ refuses f (walk v p).read ]) ≡ Some a
      → elim r as (λ z. Option Asked) [ At x ↦ Some (Object x) | Not f ↦ None ] ≡ Some a
  reached p (At x) t e = sym (ap on_object (ends-at v 0 root p x t)) ∙ e
  reached p (Not f) t e = e

  pub awaited-saved : (cl : Call) → awaited cl (plain v cl id) ≡ Some a → saved_by v cl ≡ Some a
  awaited-saved (call.Fsync p) e = reached p (walk v p).to refl e
  awaited-saved call.Sync e = e
  awaited-saved (call.Mkdir p) e = e
  awaited-saved (call.Create p) e = e
  awaited-saved (call.Write p n bs) e = e
  awaited-saved (call.SetLen p n) e = e
  awaited-saved (call.Read p n c) e = e
  awaited-saved (call.Chmod p n) e = e
  awaited-saved (call.Touch p n) e = e
  awaited-saved (call.Stat p) e = e
  awaited-saved (call.List p) e = e
  awaited-saved (call.Remove p) e = e
  awaited-saved (call.Rmdir p) e = e
  awaited-saved (call.Rename p q) e = e
  awaited-saved (call.Forder ps) e = e
  awaited-saved (call.Chown p n) e = e

pub shown-seen : (v : Images) (j : Work) (k : Clerk) → Shows k.cache (first_id k.ids) v → Sees v j k
shown-seen v j k s a e = go j.task e
  where
    by : (cl : Call) (y : Verdict) → verdict cl k ≡ y → asked_in cl y ≡ Some a → saved_by v cl ≡ Some a
    by cl (Done o) f e = awaited-saved v (or_else 0 (first_id k.ids)) a cl (ap (awaited cl) (done-comes k.cache k.owed cl (first_id k.ids) o f v s) ∙ e)
    by cl (Need x h) f e = none-some a e
    by cl (NeedIds xs) f e = none-some a e
    by cl (Lost ns xs) f e = none-some a e

    go : (t : Task) → asked t k ≡ Some a → saved v t ≡ Some a
    go (Calls cl) e = by cl (verdict cl k) refl e
    go (Pushes n) e = e
