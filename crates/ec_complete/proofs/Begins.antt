-- Behind its first step a line is at work, with nothing under way to be durable but what it asks for, or all is idle.
use Rattle.std.proofs.Common.{◌≡◌, sym, ap, ◌∙◌, subst, ℕ, T, List, [], inl, inr, ◌⊎◌}
use Rattle.std.specs.Prelude.{None, Some}
use Rattle.ec_base.specs.Tables.{at}
use Rattle.ec_volume.specs.Update.{member}
use Rattle.ec_volume.specs.Volume.{Images}
use Rattle.ec_plain.specs.declared.call.Call.{Call}
use Rattle.ec_sessions.specs.declared.slot.Slot.{Slot}
use Rattle.ec_protocol.specs.Drill.{line_happens}
use Rattle.ec_protocol.specs.World.{Moving, call, push, runs}
use Rattle.ec_protocol.specs.declared.clerk.Clerk.{Clerk}
use Rattle.ec_protocol.specs.declared.script.Line.{Line}
use Rattle.ec_protocol.specs.declared.script.Line.TheVariants as line
use Rattle.ec_protocol.specs.declared.world.World.{World}
use Rattle.ec_coherence.specs.System.{System}
use Rattle.ec_lawful.specs.Steps.{IsNewIn}
use Rattle.ec_quiet.specs.Scenes.{IsScene, Scene}
use Rattle.ec_quiet.specs.Works.{Work}
use Rattle.ec_quiet.specs.Bounds.{IsFirstPhase}
use Rattle.ec_complete.specs.WaitingCalls.{kept_volume}
use Rattle.ec_complete.specs.Lines.{next_object}
use Rattle.ec_complete.specs.LineCalls.{IsCalled, IsCalledFirst}
use Rattle.ec_complete.specs.Complete.{IsFaultless}
use Rattle.ec_complete.specs.Worlds.{LineIsKnown, Outset}
use Rattle.ec_complete.specs.Goes.{LineGoesOn, IsWorkOf}
use Rattle.ec_complete.specs.Ready.{IsReady}
use Rattle.ec_complete.specs.Following.{BeginsBehind, IsUncalled}
use Rattle.ec_complete.proofs.CallsFollowed.{call-begins}
use Rattle.ec_complete.proofs.Greeting.{start-begins}
use Rattle.ec_complete.proofs.PushesFollowed.{push-begins}
use Rattle.ec_complete.proofs.Line.{IsAtWorkOrIdle}

module _ (outset : Outset) (v : Images) (most : ℕ) (names : List ℕ) (number : ℕ) (w : World) (q : IsReady outset v most names number w) where
  abbrev sc : Scene
  sc = q.scene

  abbrev g : System
  g = q.system

  -- A call.
  module _ (cl : Call) (j : Work) (new : IsNewIn w number) where
    abbrev Called : Type 0
    Called = ((sl : Slot) × (k : Clerk) × IsCalled j cl w sc g sl k) ⊎ IsCalledFirst j cl w sc g

    abbrev Begins : ℕ → Type 0
    Begins c = (call c number cl w).fault ≡ None → (k : LineIsKnown outset j number (call c number cl w)) → IsFirstPhase k.phase → Called → BeginsBehind outset (line.Call c cl) v (kept_volume g) j number (call c number cl w)

    own : Begins j.clerk
    own fine k first called = subst (λ o. BeginsBehind outset (line.Call j.clerk cl) o (kept_volume g) j number (call j.clerk number cl w)) q.facts.origin (by called)
      where
        by : Called → BeginsBehind outset (line.Call j.clerk cl) g.origin (kept_volume g) j number (call j.clerk number cl w)
        by (inl (sl, a, is)) = call-begins outset j number cl w sc g sl a number is new fine (k.scene, k.stands, k.counted)
        by (inr is) = start-begins outset j number cl w sc g number is new fine k first

    call-goes : (c : ℕ) → j.clerk ≡ c → Begins c
    call-goes c e = subst Begins e own

  -- A push.
  module _ (n : ℕ) (j : Work) where
    abbrev Goes : ℕ → Type 0
    Goes c = (push c n (at c w.clerks) w).fault ≡ None → IsWorkOf (line.Push c n) w sc g j → LineIsKnown outset j number (push c n (at c w.clerks) w) → IsAtWorkOrIdle outset (line.Push c n) v number (push c n (at c w.clerks) w)

    own-push : Goes j.clerk
    own-push fine of k = by (push-begins outset j n w sc g of.2 of.3 (kept_volume g) number q.facts.whole q.in_system q.stands q.idle q.order of.4 of.1 fine k.scene k.stands k.counted uncalled)
      where
        uncalled : IsUncalled j.clerk k.scene
        uncalled a e = (λ f. subst (λ xs. T (member (next_object k.scene j.clerk a) xs)) of.1 (k.facts.id a e f), k.facts.answered n of.4.task a e)

        by : BeginsBehind outset (line.Push j.clerk n) g.origin (kept_volume g) j number (push j.clerk n (at j.clerk w.clerks) w) ⊎ IsScene (push j.clerk n (at j.clerk w.clerks) w).world sc → IsAtWorkOrIdle outset (line.Push j.clerk n) v number (push j.clerk n (at j.clerk w.clerks) w)
        by (inl b) = inl (kept_volume g, j, subst (λ o. BeginsBehind outset (line.Push j.clerk n) o (kept_volume g) j number (push j.clerk n (at j.clerk w.clerks) w)) q.facts.origin b)
        by (inr i) = inr (sc, i, q.idle)

    push-goes : (c : ℕ) → j.clerk ≡ c → Goes c
    push-goes c e = subst Goes e own-push

  pub goes-behind : (l : Line) → IsFaultless l → LineGoesOn outset v most names number l w q → IsAtWorkOrIdle outset l v number (line_happens runs number l w)
  goes-behind l a goes = by l a goes.fine goes.new goes.known
    where
      by : (l : Line) → IsFaultless l → (line_happens runs number l w).fault ≡ None → IsNewIn w number → ((j : Work) × IsWorkOf l w sc g j × (k : LineIsKnown outset j number (line_happens runs number l w)) × IsFirstPhase k.phase) ⊎ IsScene (line_happens runs number l w).world sc → IsAtWorkOrIdle outset l v number (line_happens runs number l w)
      by l a fine new (inr i) = inr (sc, i, q.idle)
      by (line.Call c cl) a fine new (inl (j, of, k, first)) = inl (kept_volume g, j, call-goes cl j new c of.0 fine k first of.1)
      by (line.Push c n) a fine new (inl (j, of, k, first)) = push-goes n j c of.0 fine of k
      by line.Comment a fine new (inl (j, of, k, first)) = absurd of
      by (line.Cut c) a fine new (inl k) = absurd a
      by (line.Uncut c) a fine new (inl k) = absurd a
      by (line.Drop c n i) a fine new (inl k) = absurd a
      by (line.Repeat c n i) a fine new (inl k) = absurd a
      by (line.Deliver c n i) a fine new (inl k) = absurd a
      by (line.Resend c) a fine new (inl k) = absurd a
      by (line.Crash c) a fine new (inl k) = absurd a
      by (line.End c) a fine new (inl k) = absurd a
      by line.Stop a fine new (inl k) = absurd a
      by (line.Arm n ch) a fine new (inl k) = absurd a
      by line.Restart a fine new (inl k) = absurd a
