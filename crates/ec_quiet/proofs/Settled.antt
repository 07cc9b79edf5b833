-- A line whose deliveries lower the measure settles.
use Rattle.std.proofs.Common.{◌≡◌, refl, sym, ap, ◌∙◌, subst, arith, ◌≤◌, ◌*◌, ℕ, zero, suc, [], ◌∷◌, ◌++◌}
use Rattle.std.specs.Prelude.{None, Some}
use Rattle.ec_wire.specs.declared.msg.Msg.{Msg}
use Rattle.ec_protocol.specs.Drill.{onward, settle}
use Rattle.ec_history.specs.declared.shown.Shown.TheVariants.{Unsettled}
use Rattle.ec_protocol.specs.World.{Moving, deliver, due, runs, show_line}
use Rattle.ec_quiet.specs.Measure.{measure}
use Rattle.ec_quiet.specs.Phases.{InPhase, Phase}
use Rattle.ec_quiet.specs.Quiet.{IsIdle}
use Rattle.ec_quiet.specs.Scenes.{IsScene, Mail, Scene, delivered}
use Rattle.ec_quiet.specs.Works.{Work}
use Rattle.ec_quiet.specs.SettlingScenes.{GoesWell, Reaches, on}
use Rattle.ec_quiet.proofs.Delivering as delivering
use Rattle.ec_quiet.proofs.Idle.{all-idle}

-- where nothing is due
pub stops : (k : ℕ) (m : Moving) → due m.world ≡ None → settle k [] m ≡ m
stops zero m e = ap (λ o. elim o as (λ z. Moving) [ None ↦ m | Some n ↦ show_line Unsettled m ]) e
stops (suc k) m e =
    ap (λ o. elim o as (λ z. Moving) [ None ↦ m | Some n ↦ elim (onward m (deliver runs n m.world)).fault as (λ z. Moving) [ Some f ↦ onward m (deliver runs n m.world) | None ↦ settle k [] (onward m (deliver runs n m.world)) ] ]) e

-- a step that meets no fault
module _ (m : Moving) (n : ℕ) (fine : (deliver runs n m.world).fault ≡ None) where
  abbrev pub behind : Moving
  behind = record { world = (deliver runs n m.world).world; shown = m.shown ++ (deliver runs n m.world).shown; fault = None }

  pub onward-is : onward m (deliver runs n m.world) ≡ behind
  onward-is = ap (λ o. elim o as (λ z. Moving) [ Some f ↦ record m { fault = Some f } | None ↦ behind ]) fine

  pub settle-is : (k : ℕ) → due m.world ≡ Some n → settle (suc k) [] m ≡ settle k [] behind
  settle-is k e =
      ap (λ o. elim o as (λ z. Moving) [ None ↦ m | Some n ↦ elim (onward m (deliver runs n m.world)).fault as (λ z. Moving) [ Some f ↦ onward m (deliver runs n m.world) | None ↦ settle k [] (onward m (deliver runs n m.world)) ] ]) e
      ∙ ap (λ r. elim r.fault as (λ z. Moving) [ Some f ↦ r | None ↦ settle k [] r ]) onward-is

module _ (j : Work) (start : Moving) (well : GoesWell j start) where
  abbrev Ends : Moving → Type 0
  Ends r = Reaches start r × (due r.world ≡ None) × (r.fault ≡ None) × (then : Scene) × IsScene r.world then × IsIdle then

  -- the line settles from here within so many deliveries
  abbrev SettlesIn : ℕ → Type 0
  SettlesIn k = (m : Moving) (sc : Scene) (p : Phase) → Reaches start m → m.fault ≡ None → IsScene m.world sc → InPhase j sc p → measure j sc p ≤ 32 * k → Ends (settle k [] m)

  module _ (m : Moving) (sc : Scene) (p : Phase) (reached : Reaches start m) (f : m.fault ≡ None) (i : IsScene m.world sc) (q : InPhase j sc p) where
    idle-here : (k : ℕ) → sc.mail ≡ [] → Ends (settle k [] m)
    idle-here k e = let none : due m.world ≡ None = delivering.none-due m.world sc i e in subst Ends (sym (stops k m none)) (reached, none, f, sc, i, all-idle j sc e p q)

    next : (k : ℕ) → SettlesIn k → measure j sc p ≤ 32 * suc k → (c : ℕ) (t : Msg) (rest : Mail) → sc.mail ≡ (c, t) ∷ rest → Ends (settle (suc k) [] m)
    next k on-from l c t rest e =
        let n : ℕ = delivering.n m.world sc i c t rest e in
        let is-due : due m.world ≡ Some n = delivering.due-is m.world sc i c t rest e in
        let fine : (deliver runs n m.world).fault ≡ None = well.goes m n reached is-due in
        let then = well.falls m sc p c t rest reached i q e in
        let there : Reaches start (behind m n fine) = subst (Reaches start) (onward-is m n fine) (on m n reached is-due fine) in
        subst Ends (sym (settle-is m n fine k is-due)) (on-from (behind m n fine) (delivered c t rest sc) then.0 there refl (delivering.scene-then m.world sc i c t rest e fine) then.1 (omega (arith, l, then.2)))

    none-left : measure j sc p ≤ 32 * 0 → (c : ℕ) (t : Msg) (rest : Mail) → sc.mail ≡ (c, t) ∷ rest → ⊥
    none-left l c t rest e = let then = well.falls m sc p c t rest reached i q e in omega (arith, l, then.2)

    with-none : measure j sc p ≤ 32 * 0 → (ms : Mail) → sc.mail ≡ ms → Ends (settle 0 [] m)
    with-none l [] e = idle-here 0 e
    with-none l ((c, t) ∷ rest) e = absurd (none-left l c t rest e)

    with-more : (k : ℕ) → SettlesIn k → measure j sc p ≤ 32 * suc k → (ms : Mail) → sc.mail ≡ ms → Ends (settle (suc k) [] m)
    with-more k on-from l [] e = idle-here (suc k) e
    with-more k on-from l ((c, t) ∷ rest) e = next k on-from l c t rest e

  pub settles : (k : ℕ) → SettlesIn k
  settles zero m sc p reached f i q l = with-none m sc p reached f i q l sc.mail refl
  settles (suc k) m sc p reached f i q l = with-more m sc p reached f i q k (settles k) l sc.mail refl
