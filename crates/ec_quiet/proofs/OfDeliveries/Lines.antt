-- A line settles in time: what is known along it.
use Rattle.std.proofs.Common.{◌≡◌, sym, ap, ◌∙◌, subst, arith, ◌≤◌, ◌<◌, ◌+◌, ◌*◌, ℕ, suc, [], ◌∷◌, length}
use Rattle.std.specs.Prelude.{None, Some}
use Rattle.ec_history.specs.Placing.{EachLine}
use Rattle.ec_wire.specs.declared.msg.Msg.{Msg}
use Rattle.ec_protocol.specs.Drill.{settle}
use Rattle.ec_protocol.specs.World.{Moving, deliver, due, runs}
use Rattle.ec_quiet.specs.Measure.{measure, sum, unsent_by}
use Rattle.ec_quiet.specs.Phases.{InPhase, Phase}
use Rattle.ec_quiet.specs.Scenes.{IsScene, Mail, Scene, delivered}
use Rattle.ec_quiet.specs.Works.{Work}
use Rattle.ec_quiet.specs.Bounds.{other_rows}
use Rattle.ec_quiet.proofs.Bounded.{measure-most}
use Rattle.ec_quiet.proofs.Delivering as delivering
use Rattle.ec_quiet.proofs.Settled.{behind, onward-is}
use Rattle.ec_quiet.specs.SettlingScenes.{Reaches, here, on}
use Rattle.ec_quiet.specs.Settling.{IsSettled}
use Rattle.ec_quiet.proofs.Counting.{delivered-one}
use Rattle.ec_quiet.proofs.Mail.{few, pending-is}
use Rattle.ec_quiet.proofs.Showing.{both, settled-lines}
use Rattle.ec_quiet.specs.OfDeliveries.Leading.{CanTake}
use Rattle.ec_quiet.specs.First.{HasFirst}
use Rattle.ec_quiet.specs.OfDeliveries.Runs.{CanSettle, HasSettled, IsFar}
use Rattle.ec_quiet.proofs.OfDeliveries.Fine.{fine}
use Rattle.ec_quiet.proofs.OfDeliveries.Settled.{Rests, settles}

module _ (j : Work) (bound most : ℕ) (m : Moving) (can : CanSettle j m most) (room : m.world.sent + bound + 2 ≤ most) where
  -- With so many deliveries left, the world was reached, and each message that was sent is pending or was delivered.
  record Known (left : ℕ) (r : Moving) (sc : Scene) : Type 0 where
    reached : Reaches m r
    within : left ≤ bound
    counted : r.world.sent + left ≤ m.world.sent + bound + length sc.mail
    shown : EachLine IsSettled r.shown

  few-sent : (l : ℕ) (r : Moving) (sc : Scene) (p : Phase) → Known l r sc → InPhase j sc p → measure j sc p ≤ 32 * l → r.world.sent ≤ most
  few-sent l r sc p known q le = omega (arith, known.counted, few j sc p q, le, room)

  takes : (l : ℕ) (r : Moving) (sc : Scene) (p : Phase) (t : ℕ × Msg) (rest : Mail) → Known l r sc → IsScene r.world sc → InPhase j sc p → measure j sc p ≤ 32 * l → sc.mail ≡ t ∷ rest → CanTake j sc p t
  takes l r sc p t rest known i q le head = can.takes r sc p t rest known.reached (few-sent l r sc p known q le) i q head

  stays : (l : ℕ) (r : Moving) (sc : Scene) (p q : Phase) (t : ℕ × Msg) (rest : Mail) (n : ℕ) → Known (suc l) r sc → IsScene r.world sc → InPhase j sc p → measure j sc p ≤ 32 * suc l → sc.mail ≡ t ∷ rest → due r.world ≡ Some n
      → InPhase j (delivered t.0 t.1 rest sc) q → measure j (delivered t.0 t.1 rest sc) q ≤ 32 * l → (f : (deliver runs n r.world).fault ≡ None) × Known l (behind r n f) (delivered t.0 t.1 rest sc)
  stays l r sc p q t rest n known i ip le head is-due then less = (no-fault, next)
    where
      far : IsFar most sc
      far = can.far r sc known.reached (few-sent (suc l) r sc p known ip le) i

      few-now : length (delivered t.0 t.1 rest sc).mail ≤ most
      few-now = omega (arith, few j (delivered t.0 t.1 rest sc) q then, less, known.within, room)

      no-fault : (deliver runs n r.world).fault ≡ None
      no-fault = fine j r.world sc p t rest i ip (takes (suc l) r sc p t rest known i ip le head) head
          (record { number = omega (arith, far.number, few-now); sends = λ c k e. omega (arith, far.sends c k e, few-now); calls = far.calls }) n is-due

      stands : IsScene (deliver runs n r.world).world (delivered t.0 t.1 rest sc)
      stands = subst (λ z. IsScene (deliver runs z r.world).world (delivered t.0 t.1 rest sc)) same (delivering.scene-then r.world sc i t.0 t.1 rest head (subst (λ z. (deliver runs z r.world).fault ≡ None) (sym same) no-fault))
        where
          same : delivering.n r.world sc i t.0 t.1 rest head ≡ n
          same = some (delivering.n r.world sc i t.0 t.1 rest head) n (sym (delivering.due-is r.world sc i t.0 t.1 rest head) ∙ is-due)
            where
              some : (a b : ℕ) → ◌≡◌ {A = Rattle.std.specs.Prelude.Option ℕ} (Some a) (Some b) → a ≡ b
              some a b e = cc

      next : Known l (behind r n no-fault) (delivered t.0 t.1 rest sc)
      next = record {
        reached = subst (Reaches m) (onward-is r n no-fault) (on r n known.reached is-due no-fault);
        within = omega (arith, known.within);
        counted = omega (arith, known.counted, delivered-one r.world sc i t.0 t.1 rest head n is-due, pending-is r.world sc i, pending-is (deliver runs n r.world).world (delivered t.0 t.1 rest sc) stands);
        shown = both r.shown (deliver runs n r.world).shown known.shown ((settled-lines r.world).0 n);
      }

  ends : (r : Moving) → Rests Known r → HasSettled bound m r
  ends r q = record {
    reached = q.known.reached;
    none = q.none;
    fault = q.fault;
    sent = omega (arith, q.known.counted, ap length q.idle.mail);
    shown = q.known.shown;
    scene = q.scene;
    stands = q.stands;
    idle = q.idle;
  }

  pub settled : (sc : Scene) (p : Phase) → m.fault ≡ None → EachLine IsSettled m.shown → IsScene m.world sc → InPhase j sc p → measure j sc p ≤ 32 * bound → HasSettled bound m (settle bound [] m)
  settled sc p f shown i q le = ends (settle bound [] m) (settles j Known takes stays bound m sc p (record { reached = here; within = omega arith; counted = omega arith; shown = shown }) f i q le)

pub line-settles : (j : Work) (k most : ℕ) (m : Moving) (sc : Scene) → CanSettle j m most → m.fault ≡ None → EachLine IsSettled m.shown → IsScene m.world sc → HasFirst j sc
    → length j.touched ≤ 137 → other_rows j.session sc.server.tokens < k → sum (unsent_by j) sc.clerks ≤ 65535 → m.world.sent + 4096 * (k + 1) + 2 ≤ most
    → HasSettled (4096 * (k + 1)) m (settle (4096 * (k + 1)) [] m)
line-settles j k most m sc can f shown i first few rows unsent room =
    settled j (4096 * (k + 1)) most m can room sc first.phase f shown i first.comes (measure-most j sc first.phase k first.first first.none_back few rows unsent)
