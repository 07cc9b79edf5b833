-- A line whose messages can be taken as far as counters reach: it settles, if it ends without a fault, and else it ended in a delivery.
use Rattle.std.proofs.Common.{◌≡◌, refl, sym, ap, ◌∙◌, subst, arith, ◌≤◌, ◌<◌, ◌+◌, ◌*◌, ℕ, zero, suc, [], ◌∷◌, ◌++◌, length}
use Rattle.std.specs.Prelude.{Option, None, Some}
use Rattle.ec_history.specs.Placing.{EachLine}
use Rattle.ec_wire.specs.declared.msg.Msg.{Msg}
use Rattle.ec_protocol.specs.Drill.{onward, settle}
use Rattle.ec_protocol.specs.World.{Moving, deliver, due, runs}
use Rattle.ec_protocol.specs.declared.world.WorldFault.{WorldFault}
use Rattle.ec_quiet.specs.Measure.{measure, sum, unsent_by}
use Rattle.ec_quiet.specs.Phases.{InPhase, Phase}
use Rattle.ec_quiet.specs.Scenes.{IsScene, Mail, Scene, delivered}
use Rattle.ec_quiet.specs.Works.{Work}
use Rattle.ec_quiet.specs.Bounds.{other_rows}
use Rattle.ec_quiet.proofs.Bounded.{measure-most}
use Rattle.ec_quiet.proofs.Delivering as delivering
use Rattle.ec_quiet.proofs.Idle.{all-idle}
use Rattle.ec_quiet.proofs.Settled.{behind, onward-is, settle-is, stops}
use Rattle.ec_quiet.specs.SettlingScenes.{Reaches, here, on}
use Rattle.ec_quiet.specs.Settling.{IsSettled}
use Rattle.ec_quiet.proofs.Counting.{delivered-one}
use Rattle.ec_quiet.proofs.Mail.{few, pending-is}
use Rattle.ec_quiet.proofs.Showing.{both, settled-lines}
use Rattle.ec_quiet.specs.OfDeliveries.Coming.{HasNext}
use Rattle.ec_quiet.specs.First.{HasFirst}
use Rattle.ec_quiet.specs.OfDeliveries.Runs.{CanGoOn, HasEnded, HasSettled}
use Rattle.ec_quiet.proofs.OfDeliveries.Led.{deliveries-lead-on}
use Rattle.ec_quiet.proofs.OfDeliveries.Spending.{had-next, next-else-much}
use Rattle.ec_quiet.specs.Goes.{GoesOn}

none-some : {A : Type 0} (f : WorldFault) → ◌≡◌ {A = Option WorldFault} (Some f) None → A
none-some {A} f e = absurd (no f e)
  where
    no : (f : WorldFault) → ◌≡◌ {A = Option WorldFault} (Some f) None → ⊥
    no f e = cc

module _ (j : Work) (bound most : ℕ) (start : Moving) (can : CanGoOn j start most) (room : start.world.sent + bound + 2 ≤ most) where
  -- With so many deliveries left, the world was reached, and each message that was sent is pending or was delivered.
  record Known (left : ℕ) (r : Moving) (sc : Scene) : Type 0 where
    reached : Reaches start r
    within : left ≤ bound
    counted : r.world.sent + left ≤ start.world.sent + bound + length sc.mail
    shown : EachLine IsSettled r.shown

  few-sent : (l : ℕ) (r : Moving) (sc : Scene) (p : Phase) → Known l r sc → InPhase j sc p → measure j sc p ≤ 32 * l → r.world.sent ≤ most
  few-sent l r sc p known q le = omega (arith, known.counted, few j sc p q, le, room)

  abbrev Settles : Moving → Type 0
  Settles r = (r.fault ≡ None → HasSettled bound start r) × ((g : WorldFault) → r.fault ≡ Some g → HasEnded most start r)

  abbrev SettlesIn : ℕ → Type 0
  SettlesIn k = (m : Moving) (sc : Scene) (p : Phase) → Known k m sc → m.fault ≡ None → IsScene m.world sc → InPhase j sc p → measure j sc p ≤ 32 * k → Settles (settle k [] m)

  module _ (m : Moving) (sc : Scene) (p : Phase) (f : m.fault ≡ None) (i : IsScene m.world sc) (q : InPhase j sc p) where
    rests : (k : ℕ) → Known k m sc → sc.mail ≡ [] → Settles (settle k [] m)
    rests k known e =
        let none : due m.world ≡ None = delivering.none-due m.world sc i e in
        subst Settles (sym (stops k m none)) (
          λ z. record {
            reached = known.reached;
            none = none;
            fault = f;
            sent = omega (arith, known.counted, ap length e);
            shown = known.shown;
            scene = sc;
            stands = i;
            idle = all-idle j sc e p q;
          },
          λ g z. none-some g (sym z ∙ f),
        )

    module _ (k : ℕ) (known : Known k m sc) (le : measure j sc p ≤ 32 * k) (t : ℕ × Msg) (rest : Mail) (head : sc.mail ≡ t ∷ rest) where
      leads : HasNext t.1 sc.server → GoesOn j sc p (delivered t.0 t.1 rest sc)
      leads next = deliveries-lead-on j sc p t rest q (can.takes m sc p t rest known.reached (few-sent k m sc p known q le) i q head next) head

    none-left : Known 0 m sc → measure j sc p ≤ 32 * 0 → (t : ℕ × Msg) (rest : Mail) → sc.mail ≡ t ∷ rest → ⊥
    none-left known le t rest head = let then = leads 0 known le t rest head (next-else-much j sc p t rest q head (omega (arith, le))) in omega (arith, le, then.2)

    with-none : Known 0 m sc → measure j sc p ≤ 32 * 0 → (ms : Mail) → sc.mail ≡ ms → Settles (settle 0 [] m)
    with-none known le [] e = rests 0 known e
    with-none known le (t ∷ rest) e = absurd (none-left known le t rest e)

    module _ (k : ℕ) (more : SettlesIn k) (known : Known (suc k) m sc) (le : measure j sc p ≤ 32 * suc k) (c : ℕ) (x : Msg) (rest : Mail) (head : sc.mail ≡ (c, x) ∷ rest) where
      abbrev n : ℕ
      n = delivering.n m.world sc i c x rest head

      is-due : due m.world ≡ Some n
      is-due = delivering.due-is m.world sc i c x rest head

      module _ (fine : (deliver runs n m.world).fault ≡ None) where
        then : GoesOn j sc p (delivered c x rest sc)
        then = leads (suc k) known le (c, x) rest head (had-next j m.world sc p (c, x) rest i q head n is-due fine)

        stands : IsScene (deliver runs n m.world).world (delivered c x rest sc)
        stands = delivering.scene-then m.world sc i c x rest head fine

        known-then : Known k (behind m n fine) (delivered c x rest sc)
        known-then = record {
          reached = subst (Reaches start) (onward-is m n fine) (on m n known.reached is-due fine);
          within = omega (arith, known.within);
          counted = omega (arith, known.counted, delivered-one m.world sc i c x rest head n is-due, pending-is m.world sc i, pending-is (deliver runs n m.world).world (delivered c x rest sc) stands);
          shown = both m.shown (deliver runs n m.world).shown known.shown ((settled-lines m.world).0 n);
        }

        goes : Settles (settle (suc k) [] m)
        goes = subst Settles (sym (settle-is m n fine k is-due)) (more (behind m n fine) (delivered c x rest sc) then.0 known-then refl stands then.1 (omega (arith, le, then.2)))

      -- a fault stays
      faulty : (g : WorldFault) → (deliver runs n m.world).fault ≡ Some g → settle (suc k) [] m ≡ record m { fault = Some g }
      faulty g e =
          ap (λ o. elim o as (λ z. Moving) [ None ↦ m | Some n ↦ elim (onward m (deliver runs n m.world)).fault as (λ z. Moving) [ Some g ↦ onward m (deliver runs n m.world) | None ↦ settle k [] (onward m (deliver runs n m.world)) ] ]) is-due
          ∙ ap (λ (r : Moving). elim r.fault as (λ z. Moving) [ Some g ↦ r | None ↦ settle k [] r ])
          (ap (λ o. elim o as (λ z. Moving) [ Some g ↦ record m { fault = Some g } | None ↦ record { world = (deliver runs n m.world).world; shown = m.shown ++ (deliver runs n m.world).shown; fault = None } ]) e)

      ended : (g : WorldFault) → (deliver runs n m.world).fault ≡ Some g → HasEnded most start (settle (suc k) [] m)
      ended g e = record {
        last = m;
        reached = known.reached;
        few = few-sent (suc k) m sc p known q le;
        scene = sc;
        stands = i;
        world = ap (λ (r : Moving). r.world) (faulty g e);
        shown = ap (λ (r : Moving). r.shown) (faulty g e);
      }

      next : Settles (settle (suc k) [] m)
      next = go (deliver runs n m.world).fault refl
        where
          go : (o : Option WorldFault) → (deliver runs n m.world).fault ≡ o → Settles (settle (suc k) [] m)
          go None e = goes e
          go (Some g) e = (λ z. none-some g (sym (ap (λ (r : Moving). r.fault) (faulty g e)) ∙ z), λ h z. ended g e)

    with-more : (k : ℕ) → SettlesIn k → Known (suc k) m sc → measure j sc p ≤ 32 * suc k → (ms : Mail) → sc.mail ≡ ms → Settles (settle (suc k) [] m)
    with-more k more known le [] e = rests (suc k) known e
    with-more k more known le ((c, x) ∷ rest) e = next k more known le c x rest e

  settles : (k : ℕ) → SettlesIn k
  settles zero m sc p known f i q le = with-none m sc p f i q known le sc.mail refl
  settles (suc k) m sc p known f i q le = with-more m sc p f i q k (settles k) known le sc.mail refl

  pub settled : (sc : Scene) (p : Phase) → start.fault ≡ None → EachLine IsSettled start.shown → IsScene start.world sc → InPhase j sc p → measure j sc p ≤ 32 * bound → Settles (settle bound [] start)
  settled sc p f shown i q le = settles bound start sc p (record { reached = here; within = omega arith; counted = omega arith; shown = shown }) f i q le

pub line-settles-or-ends : (j : Work) (k most : ℕ) (m : Moving) (sc : Scene) → CanGoOn j m most → m.fault ≡ None → EachLine IsSettled m.shown → IsScene m.world sc → HasFirst j sc
    → length j.touched ≤ 137 → other_rows j.session sc.server.tokens < k → sum (unsent_by j) sc.clerks ≤ 65535 → m.world.sent + 4096 * (k + 1) + 2 ≤ most
    → ((settle (4096 * (k + 1)) [] m).fault ≡ None → HasSettled (4096 * (k + 1)) m (settle (4096 * (k + 1)) [] m))
    × ((g : WorldFault) → (settle (4096 * (k + 1)) [] m).fault ≡ Some g → HasEnded most m (settle (4096 * (k + 1)) [] m))
line-settles-or-ends j k most m sc can f shown i first few rows unsent room =
    settled j (4096 * (k + 1)) most m can room sc first.phase f shown i first.comes (measure-most j sc first.phase k first.first first.none_back few rows unsent)
