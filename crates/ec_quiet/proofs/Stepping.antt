-- What comes out of a clerk's step meets no fault; a call of a clerk that runs is carried out.
use Rattle.std.proofs.Common.{◌≡◌, refl, sym, ap, ◌∙◌, subst, ◌+◌, ℕ, Bool, true, false, List, [], ◌∷◌, ◌++◌}
use Rattle.std.specs.Prelude.{Option, None, Some}
use Rattle.std.specs.List.{list_any}
use Rattle.ec_base.specs.Tables.{at, put}
use Rattle.ec_history.specs.declared.entry.Answer.{Answer}
use Rattle.ec_history.specs.declared.shown.Shown.TheVariants as show
use Rattle.ec_plain.specs.declared.call.Call.{Call}
use Rattle.ec_protocol.specs.Clerk.{Doing, begin}
use Rattle.ec_protocol.specs.World.{Moving, add_call, call, call_of, call_on, clerk_does, come_out, fails, is_answer_to, less_call, moving, send, show_answer, show_line, show_waits, start_and_call, with_world}
use Rattle.ec_protocol.specs.declared.clerk.Clerk.{Clerk}
use Rattle.ec_protocol.specs.declared.clerk.Out.{Out}
use Rattle.ec_protocol.specs.declared.clerk.Out.TheVariants as out
use Rattle.ec_protocol.specs.declared.world.World.{World}
use Rattle.ec_protocol.specs.declared.world.WorldFault.TheVariants as fault
use Rattle.ec_quiet.specs.Scenes.{IsScene, Scene, done_by, sends}
use Rattle.ec_quiet.proofs.Delivering.{comes-out, shown-alike, with-clerks}

no-answer-fails : (c n : ℕ) (a : Answer) (op : Option ℕ) (m : Moving) → (show_answer c n a op m).fault ≡ m.fault
no-answer-fails c n a op m = go (call_of c n m.world)
  where
    go : (o : Option (ℕ × Call)) → (elim o as (λ z. Moving) [ None ↦ m | Some l ↦ with_world (less_call c n) (show_line (show.Answered l.0 c l.1 a op) m) ]).fault ≡ m.fault
    go None = refl
    go (Some l) = refl

pub nothing-fails : (c : ℕ) (os : List Out) (m : Moving) → (come_out c os m).fault ≡ m.fault
nothing-fails c [] m = refl
nothing-fails c (out.Send x ∷ os) m = nothing-fails c os (with_world (send c x) m)
nothing-fails c (out.Told ns ∷ os) m = nothing-fails c os (show_line (show.Told c ns) m)
nothing-fails c (out.Answer n a op ∷ os) m = nothing-fails c os (show_answer c n a op m) ∙ no-answer-fails c n a op m
nothing-fails c (out.OldBoot a ∷ os) m = nothing-fails c os m

pub also-sent : (c : ℕ) (os ps : List Out) → sends c (os ++ ps) ≡ sends c os ++ sends c ps
also-sent c [] ps = refl
also-sent c (out.Send x ∷ os) ps = ap (λ l. (c, x) ∷ l) (also-sent c os ps)
also-sent c (out.Told ns ∷ os) ps = also-sent c os ps
also-sent c (out.Answer n a op ∷ os) ps = also-sent c os ps
also-sent c (out.OldBoot a ∷ os) ps = also-sent c os ps

-- a call behind what came out before in the same step
module _ (w : World) (sc : Scene) (i : IsScene w sc) (c line : ℕ) (cl : Call) (before : List Out) (k : Clerk) (unspent : (begin cl k).spent ≡ None) where
  abbrev n : ℕ
  n = k.calls + 1

  abbrev d : Doing
  d = begin cl k

  abbrev outs : List Out
  outs = before ++ d.outs

  abbrev began : World
  began = add_call c n line cl w

  began-scene : IsScene began sc
  began-scene = record { server = i.server; durable = i.durable; sure = i.sure; linked = i.linked; clerks = i.clerks; mail = i.mail; kept = i.kept; rising = i.rising; pending = i.pending; pool = i.pool }

  abbrev waits : Moving
  waits = show_waits c n line cl d.outs (moving began)

  waits-scene : IsScene waits.world sc
  waits-scene = go (list_any (is_answer_to n) d.outs)
    where
      go : (b : Bool) → IsScene (elim b as (λ z. Moving) [ true ↦ moving began | false ↦ show_line (show.Waits line c cl) (moving began) ]).world sc
      go true = began-scene
      go false = shown-alike began sc _ began-scene

  no-fault : waits.fault ≡ None
  no-fault = go (list_any (is_answer_to n) d.outs)
    where
      go : (b : Bool) → (elim b as (λ z. Moving) [ true ↦ moving began | false ↦ show_line (show.Waits line c cl) (moving began) ]).fault ≡ None
      go true = refl
      go false = refl

  abbrev behind : Moving
  behind = come_out c outs (with_world (λ w. record w { clerks = put c d.clerk w.clerks }) waits)

  pub steps : call_on c line cl before k w ≡ behind
  steps = ap (λ o. elim o as (λ z. Moving) [ Some s ↦ fails (fault.Spent s) w | None ↦ clerk_does c (record d { outs = outs }) waits ]) unspent
      ∙ ap (λ o. elim o as (λ z. Moving) [ Some s ↦ fails (fault.Spent s) waits.world | None ↦ behind ]) unspent

  abbrev then : Scene
  then = record sc { clerks = put c d.clerk sc.clerks; mail = sc.mail ++ sends c outs }

  pub carried : ((call_on c line cl before k w).fault ≡ None) × IsScene (call_on c line cl before k w).world then
  carried = (
    ap (λ m. m.fault) steps ∙ nothing-fails c outs (with_world (λ w. record w { clerks = put c d.clerk w.clerks }) waits) ∙ no-fault,
    subst (λ m. IsScene m.world then) (sym steps) (comes-out c outs (with_world (λ w. record w { clerks = put c d.clerk w.clerks }) waits) (record sc { clerks = put c d.clerk sc.clerks }) (with-clerks waits.world sc c d.clerk waits-scene)),
  )

pub called-on : (w : World) (sc : Scene) (c line : ℕ) (cl : Call) (k : Clerk) → IsScene w sc → at c w.clerks ≡ Some k → (begin cl k).spent ≡ None
    → ((call c line cl w).fault ≡ None) × IsScene (call c line cl w).world (done_by c (begin cl k) sc.mail sc)
called-on w sc c line cl k i there unspent =
    subst (λ (m : Moving). (m.fault ≡ None) × IsScene m.world (done_by c (begin cl k) sc.mail sc)) (sym (ap (λ o. elim o as (λ z. Moving) [ Some k ↦ call_on c line cl [] k w | None ↦ start_and_call c line cl w ]) there))
    (carried w sc i c line cl [] k unspent)
