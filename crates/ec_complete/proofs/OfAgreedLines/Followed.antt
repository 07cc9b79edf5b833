-- A line of a script settles: each operation that a durable line names on the way lies in a closure that the line asks for.
use Rattle.std.proofs.Common.{◌≡◌, ap, ◌∙◌, subst, ◌≤◌, ◌+◌, ℕ, T, not, List, [], ◌∷◌, ◌++◌, Some}
use Rattle.ec_base.specs.Tables.{at}
use Rattle.ec_volume.specs.Image.{is_gone}
use Rattle.ec_volume.specs.Volume.{Images, WellFormed}
use Rattle.ec_history.specs.History.{Base, Each, Throughout}
use Rattle.ec_history.specs.Placing.{place}
use Rattle.ec_history.specs.declared.shown.Shown.{Shown}
use Rattle.ec_history.specs.declared.shown.Shown.TheVariants as show
use Rattle.ec_order.specs.Order.{Issued}
use Rattle.ec_history.specs.OfLaws.NewIds.{IsNewId}
use Rattle.ec_protocol.specs.World.{Moving, deliver, runs}
use Rattle.ec_protocol.specs.declared.clerk.Clerk.{Clerk}
use Rattle.ec_protocol.specs.declared.script.Line.{Line}
use Rattle.ec_coherence.specs.System.{System, base_of}
use Rattle.ec_quiet.specs.Phases.{InPhase, Phase, Greets, Opens, Claims, Wants, Recalls, Flushes, Keeps, Grants, Asks, Gives, Refuses, Saves, Saved, Ends}
use Rattle.ec_quiet.specs.Scenes.{IsScene, Scene}
use Rattle.ec_quiet.specs.Works.{HasTask, Work}
use Rattle.ec_quiet.specs.SettlingScenes.{Reaches}
use Rattle.ec_quiet.specs.OfDeliveries.Coming.{IsBatchOf, IsLineOf}
use Rattle.ec_quiet.proofs.OfDeliveries.Batched.{lines-of-phases}
use Rattle.ec_quiet.specs.OfDeliveries.PhasesBehind.{IsBehind, saved}
use Rattle.ec_quiet.specs.OfDeliveries.WithinClosures.{IsWithin}
use Rattle.ec_quiet.specs.OfDeliveries.Scripts.{AreWriteBehind, IsWriteBehind, volume_behind}
use Rattle.ec_quiet.specs.OfDeliveries.ScriptWorks.{IsWorkOf}
use Rattle.ec_quiet.proofs.OfDeliveries.ForWriteBehind.Worked.{works-behind}
use Rattle.ec_complete.proofs.OfAgreedLines.Lines.{Along, IsOther}
use Rattle.ec_complete.proofs.OfAgreedLines.Settled.{Shows, stays}
use Rattle.ec_complete.proofs.OfAgreedLines.Telling.{volume-told, works-told}
use Rattle.ec_complete.proofs.OfAgreedLines.Within.{due-first, lines-within}
use Rattle.ec_complete.specs.OfAgreedLines.Placed.{IsFollowed, WritesBehind}
use Rattle.ec_complete.proofs.OfAgreedLines.Placing.{placed-behind}

-- Where a batch is made durable, the line's clerk has its task.
has-task : (j : Work) (sc : Scene) (p : Phase) → InPhase j sc p → (c s b : ℕ) (ops : Issued) → IsBatchOf j sc p c s b ops → (k : Clerk) × (at j.clerk sc.clerks ≡ Some k) × HasTask j.task k
has-task j sc (Flushes x h r b ops more) ip c s n others o = let q = ip.facts.0.wanting in (q.clerk, q.working.there, q.task)
has-task j sc (Saves b ops more) ip c s n others o = let q = ip.facts.1 in (q.clerk, q.working.there, q.task)
has-task j sc (Greets age) ip c s n others o = absurd o
has-task j sc (Opens age) ip c s n others o = absurd o
has-task j sc (Claims w) ip c s n others o = absurd o
has-task j sc (Wants x h l) ip c s n others o = absurd o
has-task j sc (Recalls x h rs bs) ip c s n others o = absurd o
has-task j sc (Keeps x h r b more) ip c s n others o = absurd o
has-task j sc (Grants x h l) ip c s n others o = absurd o
has-task j sc (Asks again got ask) ip c s n others o = absurd o
has-task j sc (Gives got l first) ip c s n others o = absurd o
has-task j sc (Refuses again ask live reserved) ip c s n others o = absurd o
has-task j sc (Saved b more) ip c s n others o = absurd o
has-task j sc Ends ip c s n others o = absurd o

each-two : (P Q R : Shown → Type 0) → ((s : Shown) → P s → Q s → R s) → (ss : List Shown) → Each P ss → Each Q ss → Each R ss
each-two P Q R f [] p q = tt
each-two P Q R f (s ∷ ss) p q = (f s p.0 q.0, each-two P Q R f ss p.1 q.1)

module _ (base : Base) (l : Line) where
  other-behind : (past : List Shown) (s : Shown) → IsOther s → IsWriteBehind base l past s
  other-behind past (show.Durable c ns) o = absurd o
  other-behind past (show.Waits i c cl) o = tt
  other-behind past (show.Answered i c cl a op) o = tt
  other-behind past (show.Ended c ns) o = tt
  other-behind past (show.Unseen c) o = tt
  other-behind past (show.Told c ns) o = tt
  other-behind past (show.Crashed c) o = tt
  other-behind past show.Stopped o = tt
  other-behind past show.Started o = tt
  other-behind past show.Nothing o = tt
  other-behind past show.Unsettled o = tt
  other-behind past (show.Bad i k) o = tt
  other-behind past (show.DiskBad k) o = tt
  other-behind past (show.Limit n k) o = tt
  other-behind past (show.Spent n) o = tt

  along-behind : (past ss : List Shown) → Along (IsWriteBehind base l) past ss → AreWriteBehind base l past ss
  along-behind past [] a = tt
  along-behind past (s ∷ ss) a = (a.0, along-behind (past ++ s ∷ []) ss a.1)

module _ (l : Line) (origin : Images) (top : ℕ) (v : Images) (j : Work) (most : ℕ) (m : Moving) (formed : WellFormed origin) (bound : (x : ℕ) → T (not (is_gone (origin x))) → x ≤ top) (followed : IsFollowed l origin v j most m) where
  abbrev target : Base
  target = record { volume = origin; fresh = λ p. top + p }

  -- one line of a delivery
  module _ (r : Moving) (sc : Scene) (p : Phase) (way : Reaches m r) (bounded : r.world.sent ≤ most) (scene : IsScene r.world sc) (ip : InPhase j sc p) where
    abbrev ss : List Shown
    ss = r.world.shown

    abbrev f : ℕ → ℕ
    f = (base_of (followed.stands r way bounded).0).fresh

    abbrev its : Base
    its = record { volume = origin; fresh = f }

    its-are : base_of (followed.stands r way bounded).0 ≡ its
    its-are = ap (λ u. record { volume = u; fresh = f }) (followed.stands r way bounded).3

    new : Throughout (IsNewId origin f) [] (place ss)
    new = subst (λ u. Throughout (IsNewId u f) [] (place ss)) (followed.stands r way bounded).3 (followed.stands r way bounded).4

    abbrev g : System
    g = (followed.stands r way bounded).0

    works : (c s b : ℕ) (ops : Issued) → IsBatchOf j sc p c s b ops → (saved (volume_behind (base_of g) ss) j.task ≡ saved v j.task) × IsWorkOf (base_of g) ss l j
    works c s b ops o =
        let t = has-task j sc p ip c s b ops o in
        let f = followed.stands r way bounded in
        let q = f.5 t.0 (ap (at j.clerk) scene.clerks ∙ t.1) t.2 in
        (ap (λ u. saved u j.task) (volume-told r.world g f.1 f.2) ∙ q.0, works-told r.world g f.1 f.2 l j q.1)

    line-behind : (s : Shown) → IsLineOf j sc p s → IsWithin (base_of (followed.stands r way bounded).0) v j ss s → IsWriteBehind target l ss s
    line-behind (show.Durable c ns) o i =
        let w = works c o.0 o.1 o.2 o.3 in
        let here = works-behind (base_of (followed.stands r way bounded).0) ss j v l (show.Durable c ns) w.0 w.1 i in
        placed-behind origin f top ss formed bound new l (show.Durable c ns) (subst (λ b. IsWriteBehind b l ss (show.Durable c ns)) its-are here)
    line-behind (show.Waits n c cl) o i = tt
    line-behind (show.Answered n c cl a op) o i = tt
    line-behind (show.Ended c ns) o i = tt
    line-behind (show.Unseen c) o i = tt
    line-behind (show.Told c ns) o i = tt
    line-behind (show.Crashed c) o i = tt
    line-behind show.Stopped o i = tt
    line-behind show.Started o i = tt
    line-behind show.Nothing o i = tt
    line-behind show.Unsettled o i = tt
    line-behind (show.Bad n k) o i = tt
    line-behind (show.DiskBad k) o i = tt
    line-behind (show.Limit n k) o i = tt
    line-behind (show.Spent n) o i = tt

  shows : Shows (IsWriteBehind target l) v j most m
  shows r sc p n way bounded scene ip fine next =
      let s = followed.stands r way bounded in
      let x = due-first r.world sc scene n next in
      each-two (IsLineOf j sc p) (IsWithin (base_of s.0) v j r.world.shown) (IsWriteBehind target l r.world.shown) (line-behind r sc p way bounded scene ip) (deliver runs n r.world).shown
      (lines-of-phases j sc p r.world n x.0 x.1 ip x.2 x.3) (lines-within r.world s.0 sc s.1 s.2 scene v j p ip fine n next)

  pub writes-behind : (sc : Scene) (p : Phase) → IsScene m.world sc → InPhase j sc p → IsBehind v j sc → (r : Moving) → Reaches m r → r.world.sent ≤ most → WritesBehind target l m r
  writes-behind sc p scene ip fine r way bounded =
      let q = stays (IsWriteBehind target l) (other-behind target l) v j most m followed.takes shows sc p scene ip fine r way bounded in
      record { lines = q.lines; shown = q.shown; piece = q.piece; behind = along-behind target l m.world.shown q.lines q.along }
