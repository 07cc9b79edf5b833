-- What the first step of a line shows: nothing is durable yet.
use Rattle.std.proofs.Common.{◌≡◌, refl, sym, ap, ◌∙◌, subst, ℕ, T, List, [], ◌∷◌, ◌++◌, append-nil, append_assoc, inl, inr, ◌⊎◌}
use Rattle.std.specs.Prelude.{Option, None, Some, ◌==◌, false, ⊤}
use Rattle.ec_base.specs.Tables.{at}
use Rattle.ec_volume.specs.Update.{member}
use Rattle.ec_volume.specs.Volume.{Images}
use Rattle.ec_history.specs.History.{Base}
use Rattle.ec_history.specs.Placing.{EachLine}
use Rattle.ec_history.specs.declared.shown.Shown.{Shown}
use Rattle.ec_history.specs.declared.shown.Shown.TheVariants as show
use Rattle.ec_plain.specs.declared.call.Call.{Call}
use Rattle.ec_plain.specs.declared.call.Call.TheVariants as call
use Rattle.ec_log.specs.declared.state.Asked.{Asked}
use Rattle.ec_log.specs.declared.state.Asked.TheVariants.{Object}
use Rattle.ec_protocol.specs.Drill.{line_happens}
use Rattle.ec_protocol.specs.World.{Moving, moving, runs}
use Rattle.ec_protocol.specs.declared.script.Line.{Line}
use Rattle.ec_protocol.specs.declared.script.Line.TheVariants as line
use Rattle.ec_protocol.specs.declared.world.Event.TheVariants as event
use Rattle.ec_protocol.specs.declared.world.World.{World}
use Rattle.ec_lawful.specs.Calls.{AreOf, IsOf}
use Rattle.ec_lawful.proofs.CallsShown.{event-tells}
use Rattle.ec_quiet.specs.Works.{Calls, Work}
use Rattle.ec_complete.specs.Complete.{IsFaultless}
use Rattle.ec_quiet.specs.OfDeliveries.PhasesBehind.{AsksOf}
use Rattle.ec_quiet.specs.OfDeliveries.WithinClosures.{AreWithin, IsWithin}
use Rattle.ec_quiet.specs.OfDeliveries.Scripts.{AreWriteBehind, IsWriteBehind}
use Rattle.ec_complete.proofs.OfAgreedLines.Lines.{call-within, push-within}

-- A work that asks for nothing.
abbrev none : Work
none = record { clerk = 0; session = 0; task = Calls (call.Stat []); touched = []; number = 0 }

asks-none : (v : Images) (c : ℕ) (a : Asked) → AsksOf v none c a → ⊥
asks-none v c a (inl (own, e)) = apart e
  where
    apart : ◌≡◌ {A = Option Asked} None (Some a) → ⊥
    apart q = cc
asks-none v c a (inr (other, x, is, touched)) = touched

module _ (base : Base) (v : Images) (l : Line) where
  one : (past : List Shown) (s : Shown) → IsWithin base v none past s → IsWriteBehind base l past s
  one past (show.Durable c ns) (a, asks, inside) = absurd (asks-none v c a asks)
  one past (show.Waits i c cl) f = tt
  one past (show.Answered i c cl a op) f = tt
  one past (show.Ended c ns) f = tt
  one past (show.Unseen c) f = tt
  one past (show.Told c ns) f = tt
  one past (show.Crashed c) f = tt
  one past show.Stopped f = tt
  one past show.Started f = tt
  one past show.Nothing f = tt
  one past show.Unsettled f = tt
  one past (show.Bad i k) f = tt
  one past (show.DiskBad k) f = tt
  one past (show.Limit n k) f = tt
  one past (show.Spent n) f = tt

  none-durable : (past ss : List Shown) → AreWithin base v none past ss → AreWriteBehind base l past ss
  none-durable past [] a = tt
  none-durable past (s ∷ ss) a = (one past s a.0, none-durable (past ++ s ∷ []) ss a.1)

  -- lines behind lines
  pub both-behind : (past xs ys : List Shown) → AreWriteBehind base l past xs → AreWriteBehind base l (past ++ xs) ys → AreWriteBehind base l past (xs ++ ys)
  both-behind past [] ys p q = subst (λ z. AreWriteBehind base l z ys) (append-nil past) q
  both-behind past (x ∷ xs) ys p q = (p.0, both-behind (past ++ x ∷ []) xs ys p.1 (subst (λ z. AreWriteBehind base l z ys) (sym (append_assoc past (x ∷ []) xs)) q))

-- Any line is of calls of which nothing is asked.

abbrev Any : ℕ → ℕ → Call → Type 0
Any l c cl = ⊤

any-one : (s : Shown) → IsOf Any s
any-one (show.Waits i c cl) = tt
any-one (show.Answered i c cl a op) = tt
any-one (show.Durable c ns) = tt
any-one (show.Ended c ns) = tt
any-one (show.Unseen c) = tt
any-one (show.Told c ns) = tt
any-one (show.Crashed c) = tt
any-one show.Stopped = tt
any-one show.Started = tt
any-one show.Nothing = tt
any-one show.Unsettled = tt
any-one (show.Bad i k) = tt
any-one (show.DiskBad k) = tt
any-one (show.Limit n k) = tt
any-one (show.Spent n) = tt

any-each : (ss : List Shown) → EachLine (IsOf Any) ss
any-each [] = tt
any-each (s ∷ ss) = (any-one s, any-each ss)

any : (w : World) → AreOf Any w
any w = record { calls = λ c n l cl e. tt; shown = any-each w.shown }

-- The first step.
module _ (base : Base) (number : ℕ) (w : World) where
  abbrev v : Images
  v = base.volume

  -- its lines stand behind those before it
  pub first-adds : (l : Line) → IsFaultless l → (line_happens runs number l w).fault ≡ None → (line_happens runs number l w).world.shown ≡ w.shown ++ (line_happens runs number l w).shown
  first-adds line.Comment a f = sym (append-nil w.shown)
  first-adds (line.Call c cl) a f = (event-tells Any runs (event.Call c number cl) w (any w) tt f).lines
  first-adds (line.Push c n) a f = (event-tells Any runs (event.Push c n) w (any w) tt f).lines
  first-adds (line.Cut c) a f = absurd a
  first-adds (line.Uncut c) a f = absurd a
  first-adds (line.Drop c i j) a f = absurd a
  first-adds (line.Repeat c i j) a f = absurd a
  first-adds (line.Deliver c i j) a f = absurd a
  first-adds (line.Resend c) a f = absurd a
  first-adds (line.Crash c) a f = absurd a
  first-adds (line.End c) a f = absurd a
  first-adds line.Stop a f = absurd a
  first-adds (line.Arm i ch) a f = absurd a
  first-adds line.Restart a f = absurd a

  pub first-behind : (l : Line) → IsFaultless l → AreWriteBehind base l w.shown (line_happens runs number l w).shown
  first-behind line.Comment a = tt
  first-behind (line.Call c cl) a = none-durable base v (line.Call c cl) w.shown (line_happens runs number (line.Call c cl) w).shown (call-within base v none w w.shown c number cl)
  first-behind (line.Push c n) a = none-durable base v (line.Push c n) w.shown (line_happens runs number (line.Push c n) w).shown (push-within base v none w w.shown c n (at c w.clerks))
  first-behind (line.Cut c) a = absurd a
  first-behind (line.Uncut c) a = absurd a
  first-behind (line.Drop c i j) a = absurd a
  first-behind (line.Repeat c i j) a = absurd a
  first-behind (line.Deliver c i j) a = absurd a
  first-behind (line.Resend c) a = absurd a
  first-behind (line.Crash c) a = absurd a
  first-behind (line.End c) a = absurd a
  first-behind line.Stop a = absurd a
  first-behind (line.Arm i ch) a = absurd a
  first-behind line.Restart a = absurd a
