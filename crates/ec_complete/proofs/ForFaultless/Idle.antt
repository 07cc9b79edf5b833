-- What is known of a world that is ready for a line: no call is under way, its line is new, and counters are low.
use Rattle.std.proofs.Common.{◌≡◌, sym, ap, ◌∙◌, arith, ◌≤◌, ◌<◌, ◌-◌, ℕ, zero, suc, T, false, List, [], ◌∷◌, length}
use Rattle.std.specs.Prelude.{Option, Some, None, nat_le}
use Rattle.ec_base.specs.Limits.{last_counter}
use Rattle.ec_base.specs.Tables.{at, keys}
use Rattle.ec_volume.specs.Update.{distinct}
use Rattle.ec_volume.specs.Volume.{Images}
use Rattle.ec_sessions.specs.Slots.{Slots, slot_at}
use Rattle.ec_sessions.specs.declared.slot.Slot.{Slot}
use Rattle.ec_log.specs.Log as log
use Rattle.ec_protocol.specs.World.{call_of, pending}
use Rattle.ec_protocol.specs.declared.clerk.Clerk.{Clerk}
use Rattle.ec_protocol.specs.declared.world.World.{World}
use Rattle.ec_coherence.specs.Steps.{Stands}
use Rattle.ec_coherence.specs.System.{System}
use Rattle.ec_lawful.specs.Steps as steps
use Rattle.ec_lawful.specs.Steps.{IsNewIn}
use Rattle.ec_lawful.specs.Runs.{OfRun}
use Rattle.ec_quiet.specs.Facts.{IsIdleBut}
use Rattle.ec_quiet.specs.Quiet.{IsQuiet}
use Rattle.ec_quiet.specs.Scenes.{Scene}
use Rattle.ec_quiet.specs.Tries.{HasCounters}
use Rattle.ec_complete.specs.OfAgreedLines.Counting as clerks
use Rattle.ec_quiet.proofs.Mail.{pending-is}
use Rattle.ec_complete.proofs.ForLines.Numbers.{unshown}
use Rattle.ec_complete.specs.Worlds.{Outset}
use Rattle.ec_complete.specs.Ready.{IsReady}
use Rattle.ec_complete.proofs.ForFaultless.Laws.{quiet-again}
use Rattle.ec_base.proofs.Options.{none_some}
use Rattle.ec_base.proofs.Numbers.{not-above, not-at}

-- the start that runs, of a clerk that runs
runs-in : (w : World) (g : System) → Stands w g → (c : ℕ) (k : Clerk) → at c w.clerks ≡ Some k → (b : ℕ) × (g.clerks c b ≡ Some k)
runs-in w g st c k q = go (g.running c) (sym (st.clerks c) ∙ q)
  where
    go : (o : Option ℕ) → elim o as (λ z. Option Clerk) [ None ↦ None | Some b ↦ g.clerks c b ] ≡ Some k → (b : ℕ) × (g.clerks c b ≡ Some k)
    go None p = absurd (none_some p)
    go (Some b) p = (b, p)

-- a slot is of a clerk below their number
slot-below : (slots : Slots) (c : ℕ) (sl : Slot) → slot_at slots c ≡ Some sl → c < length slots
slot-below [] c sl e = absurd (none_some e)
slot-below (o ∷ slots) zero sl e = omega arith
slot-below (o ∷ slots) (suc c) sl e = omega (arith, slot-below slots c sl e)

module _ (outset : Outset) (v : Images) (most : ℕ) (names : List ℕ) (number : ℕ) (w : World) (q : IsReady outset v most names number w) where
  abbrev sc : Scene
  sc = q.scene

  pub its-quiet : IsQuiet w × ((c n : ℕ) → call_of c n w ≡ None)
  its-quiet = quiet-again w q.system sc ((q.facts.whole.all).0).sessions (q.facts.whole).calls q.in_system q.stands q.idle

  pub is-new : IsNewIn w number
  is-new = record { unshown = unshown number w.shown q.shown; unused = λ c n k cl e. absurd (none_some (sym (its-quiet.1 c n) ∙ e)) }

  pub holds : steps.HoldsIn (OfRun v most) w
  holds = (q.system, q.facts, q.in_system)

  pub none-pending : pending w ≡ 0
  none-pending = pending-is w sc q.stands ∙ ap length q.idle.mail

  -- a clerk that runs
  module _ (few : number ≤ 65536) (first : 1 ≤ number) (c : ℕ) (k : Clerk) (there : at c sc.clerks ≡ Some k) where
    pub its-count : clerks.IsCounted (number - 1) w.sent k
    its-count = q.counted.clerks c k (ap (at c) q.stands.clerks ∙ there)

    abbrev pub slot-of : Slot
    slot-of = (q.idle.clerks c k there).0

    pub its-idle : IsIdleBut [] sc.server c slot-of k
    its-idle = (q.idle.clerks c k there).1

    pub its-number : c < 16
    its-number = omega (arith, slot-below sc.server.durable.sessions c slot-of its-idle.inside.there, q.idle.orderly.sixteen)

    made : k.calls ≤ number - 1
    made = its-count.made

    pub calls-left : nat_le last_counter k.calls ≡ false
    calls-left = not-at last_counter k.calls (omega (arith, made, few))

    pub its-counters : HasCounters k
    its-counters = record {
      asks = not-at last_counter k.asks (omega (arith, its-count.sends, its-count.batch, q.sent, few));
      ops = not-above last_counter k.log.next (omega (arith, its-count.ops, made, few));
      batches = not-above last_counter k.log.next_batch (omega (arith, its-count.sends, q.sent, few));
    }

    pub not-full : log.is_full k.log ≡ false
    not-full = not-at log.max_undurable (length k.log.undurable) (omega (arith, its-count.undurable, its-count.ops, made, few, first))

    -- each object stands once in its cache
    pub once-each : T (distinct (keys k.cache.held))
    once-each =
        let start = runs-in w q.system q.in_system c k (ap (at c) q.stands.clerks ∙ there) in
        ((q.facts.whole).orderly.each c start.0 k start.1).keyed
