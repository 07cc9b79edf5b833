-- A line settles, where what is known of its worlds lets each message be taken, and stays so. What's known is of the deliveries that are left, too.
use Rattle.std.proofs.Common.{◌≡◌, refl, sym, subst, arith, ◌≤◌, ◌*◌, ℕ, zero, suc, [], ◌∷◌}
use Rattle.std.specs.Prelude.{None, Some}
use Rattle.ec_wire.specs.declared.msg.Msg.{Msg}
use Rattle.ec_protocol.specs.Drill.{settle}
use Rattle.ec_protocol.specs.World.{Moving, deliver, due, runs}
use Rattle.ec_quiet.specs.Measure.{measure}
use Rattle.ec_quiet.specs.Phases.{InPhase, Phase}
use Rattle.ec_quiet.specs.Quiet.{IsIdle}
use Rattle.ec_quiet.specs.Scenes.{IsScene, Mail, Scene, delivered}
use Rattle.ec_quiet.specs.Works.{Work}
use Rattle.ec_quiet.proofs.Delivering as delivering
use Rattle.ec_quiet.proofs.Idle.{all-idle}
use Rattle.ec_quiet.proofs.Settled.{behind, settle-is, stops}
use Rattle.ec_quiet.specs.OfDeliveries.Leading.{CanTake}
use Rattle.ec_quiet.proofs.OfDeliveries.Led.{deliveries-lead-on}

-- what holds where a line has settled
pub record Rests (K : ℕ → Moving → Scene → Type 0) (m : Moving) : Type 0 where
  pub none : due m.world ≡ None
  pub fault : m.fault ≡ None
  pub scene : Scene
  pub stands : IsScene m.world scene
  pub idle : IsIdle scene
  pub left : ℕ
  pub known : K left m scene

-- The next message can be taken, wherever K is known.
abbrev pub Takes : Work → (ℕ → Moving → Scene → Type 0) → Type 0
Takes j K = (k : ℕ) (m : Moving) (sc : Scene) (p : Phase) (t : ℕ × Msg) (rest : Mail) → K k m sc → IsScene m.world sc → InPhase j sc p → measure j sc p ≤ 32 * k → sc.mail ≡ t ∷ rest → CanTake j sc p t

-- In whichever phase that leads to, the delivery meets no fault, and K is known with one delivery less.
abbrev pub Stays : Work → (ℕ → Moving → Scene → Type 0) → Type 0
Stays j K = (k : ℕ) (m : Moving) (sc : Scene) (p q : Phase) (t : ℕ × Msg) (rest : Mail) (n : ℕ) → K (suc k) m sc → IsScene m.world sc → InPhase j sc p → measure j sc p ≤ 32 * suc k → sc.mail ≡ t ∷ rest → due m.world ≡ Some n
    → InPhase j (delivered t.0 t.1 rest sc) q → measure j (delivered t.0 t.1 rest sc) q ≤ 32 * k → (f : (deliver runs n m.world).fault ≡ None) × K k (behind m n f) (delivered t.0 t.1 rest sc)

module _ (j : Work) (K : ℕ → Moving → Scene → Type 0) (takes : Takes j K) (stays : Stays j K) where
  abbrev SettlesIn : ℕ → Type 0
  SettlesIn k = (m : Moving) (sc : Scene) (p : Phase) → K k m sc → m.fault ≡ None → IsScene m.world sc → InPhase j sc p → measure j sc p ≤ 32 * k → Rests K (settle k [] m)

  module _ (m : Moving) (sc : Scene) (p : Phase) (f : m.fault ≡ None) (i : IsScene m.world sc) (q : InPhase j sc p) where
    rests : (k : ℕ) → K k m sc → sc.mail ≡ [] → Rests K (settle k [] m)
    rests k known e =
        let none : due m.world ≡ None = delivering.none-due m.world sc i e in
        subst (Rests K) (sym (stops k m none)) (record { none = none; fault = f; scene = sc; stands = i; idle = all-idle j sc e p q; left = k; known = known })

    next : (k : ℕ) → SettlesIn k → K (suc k) m sc → measure j sc p ≤ 32 * suc k → (c : ℕ) (t : Msg) (rest : Mail) → sc.mail ≡ (c, t) ∷ rest → Rests K (settle (suc k) [] m)
    next k on-from known l c t rest e =
        let n : ℕ = delivering.n m.world sc i c t rest e in
        let is-due : due m.world ≡ Some n = delivering.due-is m.world sc i c t rest e in
        let then = deliveries-lead-on j sc p (c, t) rest q (takes (suc k) m sc p (c, t) rest known i q l e) e in
        let less : measure j (delivered c t rest sc) then.0 ≤ 32 * k = omega (arith, l, then.2) in
        let fine = stays k m sc p then.0 (c, t) rest n known i q l e is-due then.1 less in
        subst (Rests K) (sym (settle-is m n fine.0 k is-due)) (on-from (behind m n fine.0) (delivered c t rest sc) then.0 fine.1 refl (delivering.scene-then m.world sc i c t rest e fine.0) then.1 less)

    none-left : K 0 m sc → measure j sc p ≤ 32 * 0 → (t : ℕ × Msg) (rest : Mail) → sc.mail ≡ t ∷ rest → ⊥
    none-left known l t rest e = let then = deliveries-lead-on j sc p t rest q (takes 0 m sc p t rest known i q l e) e in omega (arith, l, then.2)

    with-none : K 0 m sc → measure j sc p ≤ 32 * 0 → (ms : Mail) → sc.mail ≡ ms → Rests K (settle 0 [] m)
    with-none known l [] e = rests 0 known e
    with-none known l (t ∷ rest) e = absurd (none-left known l t rest e)

    with-more : (k : ℕ) → SettlesIn k → K (suc k) m sc → measure j sc p ≤ 32 * suc k → (ms : Mail) → sc.mail ≡ ms → Rests K (settle (suc k) [] m)
    with-more k on-from known l [] e = rests (suc k) known e
    with-more k on-from known l ((c, t) ∷ rest) e = next k on-from known l c t rest e

  pub settles : (k : ℕ) → SettlesIn k
  settles zero m sc p known f i q l = with-none m sc p f i q known l sc.mail refl
  settles (suc k) m sc p known f i q l = with-more m sc p f i q k (settles k) known l sc.mail refl
