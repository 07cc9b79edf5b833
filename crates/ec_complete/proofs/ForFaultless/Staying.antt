-- A line stays worked behind a delivery.
use Rattle.std.proofs.Common.{◌≡◌, refl, sym, ap, ◌∙◌, subst, ℕ, Bool, true, false, ◌==◌, List, [], ◌∷◌}
use Rattle.std.specs.Prelude.{Option, None, Some}
use Rattle.ec_base.specs.Tables.{at}
use Rattle.ec_volume.specs.Volume.{Images, after}
use Rattle.ec_history.specs.History.{Op, updates}
use Rattle.ec_wire.specs.declared.msg.Msg.{Msg}
use Rattle.ec_protocol.specs.Clerk as clerk
use Rattle.ec_protocol.specs.declared.clerk.Clerk.{Clerk}
use Rattle.ec_protocol.specs.declared.script.Line.{Line}
use Rattle.ec_protocol.specs.declared.script.Line.TheVariants as line
use Rattle.ec_plain.specs.declared.call.Call.{Call}
use Rattle.ec_coherence.specs.System.{System}
use Rattle.ec_coherence.proofs.ForServer.Tables.{differ, differs, same_some}
use Rattle.ec_quiet.specs.Scenes.{Mail, Scene, delivered, done_by, is_for_server, served, taken_by}
use Rattle.ec_quiet.specs.Works.{Calls, Pushes, Task, Work}
use Rattle.ec_quiet.proofs.Beside.{other-at, own-at}
use Rattle.ec_complete.specs.WaitingCalls.{kept_volume}
use Rattle.ec_complete.specs.Staying.{LeavesKept}
use Rattle.ec_complete.proofs.ForLines.Owning.{empties}
use Rattle.ec_quiet.specs.OfDeliveries.PhasesBehind.{saved}
use Rattle.ec_quiet.specs.OfDeliveries.ScriptWorks.{IsWorkOn}
use Rattle.ec_complete.specs.Following.{IsAtWork, IsWorked}
use Rattle.ec_base.proofs.Options.{none_some}
use Rattle.ec_base.proofs.Numbers.{equal}

-- The line's clerk was there, and if its call waits it did before.
abbrev Was : Work → Scene → Clerk → Type 0
Was j sc now = (k : Clerk) × (at j.clerk sc.clerks ≡ Some k) × (k.waiting ≡ [] → now.waiting ≡ [])

was-here : (j : Work) (sc : Scene) (now : Clerk) → at j.clerk sc.clerks ≡ Some now → Was j sc now
was-here j sc now e = (now, e, λ none. none)

module _ (j : Work) (sc : Scene) (c : ℕ) (m : Msg) (rest : Mail) (now : Clerk) where
  done : (k : Clerk) → at c sc.clerks ≡ Some k → at j.clerk (done_by c (clerk.take m k) rest sc).clerks ≡ Some now → Was j sc now
  done k there e = by (c == j.clerk) refl
    where
      by : (b : Bool) → (c == j.clerk) ≡ b → Was j sc now
      by false a = was-here j sc now (sym (other-at c (clerk.take m k).clerk sc.clerks j.clerk (differ j.clerk c (λ q. differs c j.clerk a (sym q)))) ∙ e)
      by true a =
          let same : c ≡ j.clerk = equal c j.clerk a in
          let is : (clerk.take m k).clerk ≡ now = same_some (sym (own-at c (clerk.take m k).clerk sc.clerks) ∙ ap (λ z. at z (done_by c (clerk.take m k) rest sc).clerks) same ∙ e) in
          (k, ap (λ z. at z sc.clerks) (sym same) ∙ there, λ none. ap (λ z. z.waiting) (sym is) ∙ empties k m none)

  taken : (o : Option Clerk) → at c sc.clerks ≡ o → at j.clerk (taken_by c m rest o sc).clerks ≡ Some now → Was j sc now
  taken None there e = was-here j sc now e
  taken (Some k) there e = done k there e

  pub was : at j.clerk (delivered c m rest sc).clerks ≡ Some now → Was j sc now
  was = go (is_for_server m)
    where
      go : (b : Bool) → at j.clerk (elim b as (λ z. Scene) [ true ↦ served c m rest sc | false ↦ taken_by c m rest (at c sc.clerks) sc ]).clerks ≡ Some now → Was j sc now
      go true e = was-here j sc now e
      go false e = taken (at c sc.clerks) refl e

-- A push is the work of its line whatever is kept.
module _ (j : Work) (n : ℕ) (is : j.task ≡ Pushes n) where
  not-called : (cl : Call) → j.task ≡ Calls cl → ⊥
  not-called cl e = apart (sym is ∙ e)
    where
      apart : ◌≡◌ {A = Task} (Pushes n) (Calls cl) → ⊥
      apart q = cc

  works-anywhere : (l : Line) (o p : Images) (ks ms : List Op) → IsWorkOn o ks l j → IsWorkOn p ms l j
  works-anywhere (line.Call d cl) o p ks ms w = absurd (not-called cl w.1)
  works-anywhere (line.Push d k) o p ks ms w = w
  works-anywhere line.Comment o p ks ms w = absurd w
  works-anywhere (line.Cut d) o p ks ms w = absurd w
  works-anywhere (line.Uncut d) o p ks ms w = absurd w
  works-anywhere (line.Drop d k i) o p ks ms w = absurd w
  works-anywhere (line.Repeat d k i) o p ks ms w = absurd w
  works-anywhere (line.Deliver d k i) o p ks ms w = absurd w
  works-anywhere (line.Resend d) o p ks ms w = absurd w
  works-anywhere (line.Crash d) o p ks ms w = absurd w
  works-anywhere (line.End d) o p ks ms w = absurd w
  works-anywhere line.Stop o p ks ms w = absurd w
  works-anywhere (line.Arm i ch) o p ks ms w = absurd w
  works-anywhere line.Restart o p ks ms w = absurd w

module _ (l : Line) (origin v : Images) (j : Work) (sc : Scene) (g h : System) (c : ℕ) (m : Msg) (rest : Mail) (worked : IsWorked l origin v j sc g) (leaves : LeavesKept j (delivered c m rest sc) g h) where
  abbrev Serves : System → Type 0
  Serves s = (saved (kept_volume s) j.task ≡ saved v j.task) × IsWorkOn s.origin s.ghost.kept l j

  serves : (t : Task) → j.task ≡ t → (k : Clerk) → at j.clerk (delivered c m rest sc).clerks ≡ Some k → IsAtWork t k → Serves h
  serves (Calls cl) is k there waits =
      let b = was j sc c m rest k there in
      let old = worked.works b.0 b.1 (subst (λ t. IsAtWork t b.0) (sym is) (λ none. waits (b.2 none))) in
      let same : h.ghost.kept ≡ g.ghost.kept = leaves.kept k there waits in
      let volume : kept_volume h ≡ kept_volume g = ap (λ o. after o (updates h.ghost.kept)) leaves.origin ∙ ap (λ ks. after g.origin (updates ks)) same in
      (ap (λ u. saved u j.task) volume ∙ old.0, subst (λ o. IsWorkOn o h.ghost.kept l j) (sym leaves.origin) (subst (λ ks. IsWorkOn g.origin ks l j) (sym same) old.1))
  serves (Pushes n) is k there waits =
      let b = was j sc c m rest k there in
      let old = worked.works b.0 b.1 (subst (λ t. IsAtWork t b.0) (sym is) tt) in
      (ap (saved (kept_volume h)) is ∙ sym (ap (saved v) is), works-anywhere j n is l g.origin h.origin g.ghost.kept h.ghost.kept old.1)

  pub still-worked : IsWorked l origin v j (delivered c m rest sc) h
  still-worked = record { origin_is = leaves.origin ∙ worked.origin_is; works = λ k there busy. serves j.task refl k there busy }
