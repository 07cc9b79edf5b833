-- The first step of a line refuses no call.
use Rattle.std.proofs.Common.{◌≡◌, refl, sym, ap, ◌∙◌, subst, arith, ◌≤◌, ◌+◌, ℕ, T, Bool, true, false, List, [], ◌∷◌, ◌++◌, inl, inr, ◌⊎◌}
use Rattle.std.specs.Prelude.{Option, None, Some, nat_lt}
use Rattle.ec_base.specs.Limits.{last_counter}
use Rattle.ec_base.specs.Tables.{at, put}
use Rattle.ec_base.specs.declared.counter.Counter.{Counter}
use Rattle.ec_base.specs.declared.counter.Counter.TheVariants as counter
use Rattle.ec_history.specs.History.{Each}
use Rattle.ec_plain.specs.declared.call.Call.{Call}
use Rattle.ec_volume.specs.Update.{member}
use Rattle.ec_protocol.specs.Clerk as clerk
use Rattle.ec_protocol.specs.Clerk.{Doing, begin, doing, has_issued, hello, new_clerk, spend, start}
use Rattle.ec_protocol.specs.World as world
use Rattle.ec_protocol.specs.World.{Moving, add_call, boot, call, call_on, clerk_does, come_out, fails, is_undurable, moving, nothing, show_waits, start_and_call, with_world}
use Rattle.ec_protocol.specs.declared.clerk.Clerk.{Clerk}
use Rattle.ec_protocol.specs.declared.world.World.{World}
use Rattle.ec_protocol.specs.declared.world.WorldFault.TheVariants as fault
use Rattle.ec_coherence.proofs.ForServer.Lists.{each-more}
use Rattle.ec_lawful.specs.Creates.{creates}
use Rattle.ec_quiet.specs.Quiet.{IsIdle}
use Rattle.ec_quiet.specs.Scenes.{IsScene, Scene, done_by}
use Rattle.ec_quiet.proofs.Calling.{called}
use Rattle.ec_quiet.proofs.Delivering.{shown-alike}
use Rattle.ec_quiet.specs.First.{start_calling}
use Rattle.ec_quiet.proofs.Stepping.{carried}
use Rattle.ec_complete.specs.Rooms.{HasRoomIn}
use Rattle.ec_complete.proofs.Steps.{calls-keep, pushes-keep, starts-have}
use Rattle.ec_complete.specs.ScriptRooms.{CallsKeepRoom, HasStock, KeepsRoom, PushesKeepRoom}
use Rattle.ec_complete.proofs.Pushed.{pushed-on}
use Rattle.ec_complete.proofs.Showing as showing
use Rattle.ec_complete.proofs.Stocks.{done, done-again, more-stock}
use Rattle.ec_base.specs.Bools.{one_if}
use Rattle.ec_base.proofs.Options.{none_some}

fails-no : (f : _) (w : World) → (fails f w).fault ≡ None → ⊥
fails-no f w e = none_some (sym e)

-- a start waits for nothing
start-idle : (c b : ℕ) → ((start c b).clerk.waiting ≡ []) × ((start c b).clerk.asking ≡ None)
start-idle c b = go (nat_lt last_counter b)
  where
    go : (z : Bool) → let d = elim z as (λ y. Doing) [ true ↦ spend counter.Boot (doing (new_clerk c b)) | false ↦ hello (doing (new_clerk c b)) ] in (d.clerk.waiting ≡ []) × (d.clerk.asking ≡ None)
    go true = (refl, refl)
    go false = (refl, refl)

module _ (names callers : List ℕ) (makes more : ℕ → ℕ) (w : World) (sc : Scene) (c line : ℕ) (cl : Call) (i : IsScene w sc) (idle : IsIdle sc) (s : HasStock names callers makes sc) (name : T (member c names)) (l : (d : ℕ) → makes d ≤ more d)
    (one : makes c + one_if (creates cl) ≤ more c) (fine : (call c line cl w).fault ≡ None) where
  abbrev Keeps : Type 0
  Keeps = KeepsRoom names (c ∷ callers) more (call c line cl w)

  -- of a clerk that runs
  runs-on : (k : Clerk) → at c w.clerks ≡ Some k → Keeps
  runs-on k e =
      let there : at c sc.clerks ≡ Some k = ap (at c) (sym i.clerks) ∙ e in
      let still = (idle.clerks c k there).1 in
      let kept = calls-keep (makes c) cl k still.waiting still.asking (s.clerks c k there) in
      record {
        scene = done_by c (begin cl k) sc.mail sc;
        stands = (called w sc i c line cl k e fine).1;
        stock = done names callers makes sc s more c (begin cl k) sc.mail l (more-stock (makes c + one_if (creates cl)) (more c) (begin cl k).clerk one kept.0) name kept.1 s.mail;
        shown = showing.called c line cl w k e kept.1;
      }

  -- of one that starts
  abbrev b : ℕ
  b = boot c w + 1

  abbrev d : Doing
  d = start c b

  abbrev booted : World
  booted = record w { boots = put c b w.boots }

  begin-fine : (o : Option Counter) → (begin cl d.clerk).spent ≡ o
      → (elim o as (λ z. Moving) [ Some s ↦ fails (fault.Spent s) booted | None ↦ clerk_does c (record (begin cl d.clerk) { outs = d.outs ++ (begin cl d.clerk).outs }) (show_waits c (d.clerk.calls + 1) line cl (begin cl d.clerk).outs (moving (add_call c (d.clerk.calls + 1) line cl booted))) ]).fault ≡ None
      → (begin cl d.clerk).spent ≡ None
  begin-fine None e f = e
  begin-fine (Some t) e f = absurd (fails-no (fault.Spent t) booted f)

  start-fine : (o : Option Counter) → d.spent ≡ o → (elim o as (λ z. Moving) [ Some n ↦ fails (fault.Spent n) w | None ↦ call_on c line cl d.outs d.clerk booted ]).fault ≡ None → (d.spent ≡ None) × ((begin cl d.clerk).spent ≡ None)
  start-fine None e f = (e, begin-fine (begin cl d.clerk).spent refl f)
  start-fine (Some t) e f = absurd (fails-no (fault.Spent t) w f)

  booted-scene : IsScene booted sc
  booted-scene = record { server = i.server; durable = i.durable; sure = i.sure; linked = i.linked; clerks = i.clerks; mail = i.mail; kept = i.kept; rising = i.rising; pending = i.pending; pool = i.pool }

  start-scene : at c w.clerks ≡ None → d.spent ≡ None → (begin cl d.clerk).spent ≡ None → IsScene (call c line cl w).world (done_by c (start_calling c b cl) sc.mail sc)
  start-scene e f g = subst (λ (m : Moving). IsScene m.world (done_by c (start_calling c b cl) sc.mail sc)) (sym is) (carried booted sc booted-scene c line cl d.outs d.clerk g).1
    where
      is : call c line cl w ≡ call_on c line cl d.outs d.clerk booted
      is = ap (λ o. elim o as (λ z. Moving) [ Some k ↦ call_on c line cl [] k w | None ↦ start_and_call c line cl w ]) e
          ∙ ap (λ (o : Option Counter). elim o as (λ z. Moving) [ Some n ↦ fails (fault.Spent n) w | None ↦ call_on c line cl d.outs d.clerk booted ]) f

  starts-on : at c w.clerks ≡ None → Keeps
  starts-on e =
      let f = start-fine d.spent refl (ap (λ o. (elim o as (λ z. Moving) [ Some k ↦ call_on c line cl [] k w | None ↦ start_and_call c line cl w ]).fault) (sym e) ∙ fine) in
      let first = starts-have c b in
      let quiet = start-idle c b in
      let kept = calls-keep (makes c) cl d.clerk quiet.0 quiet.1 (more-stock 0 (makes c) d.clerk (omega arith) first.0) in
      record {
        scene = done_by c (start_calling c b cl) sc.mail sc;
        stands = start-scene e f.0 f.1;
        stock = done names callers makes sc s more c (start_calling c b cl) sc.mail l (more-stock (makes c + one_if (creates cl)) (more c) (begin cl d.clerk).clerk one kept.0) name (each-more HasRoomIn d.outs (begin cl d.clerk).outs first.1 kept.1) s.mail;
        shown = showing.started c line cl w e first.1 kept.1;
      }

  pub call-keeps : Keeps
  call-keeps = go (at c w.clerks) refl
    where
      go : (o : Option Clerk) → at c w.clerks ≡ o → Keeps
      go (Some k) e = runs-on k e
      go None e = starts-on e

pub calls-keep-room : CallsKeepRoom
calls-keep-room names callers makes more w sc c line cl i idle s name l one fine = call-keeps names callers makes more w sc c line cl i idle s name l one fine

module _ (names callers : List ℕ) (makes : ℕ → ℕ) (w : World) (sc : Scene) (c n : ℕ) (i : IsScene w sc) (s : HasStock names callers makes sc) where
  abbrev Kept : Moving → Type 0
  Kept m = KeepsRoom names callers makes m

  -- the operation is pushed
  module _ (k : Clerk) (e : at c w.clerks ≡ Some k) where
    abbrev step : Doing
    step = clerk.push n k

    there : at c sc.clerks ≡ Some k
    there = ap (at c) (sym i.clerks) ∙ e

    outs-room : Each HasRoomIn step.outs
    outs-room = (pushes-keep (makes c) n k (s.clerks c k there)).1

    unspent : (clerk_does c step (moving w)).fault ≡ None → step.spent ≡ None
    unspent f = go step.spent refl f
      where
        go : (o : Option Counter) → step.spent ≡ o → (elim o as (λ z. Moving) [ Some t ↦ fails (fault.Spent t) w | None ↦ come_out c step.outs (with_world (λ w. record w { clerks = put c step.clerk w.clerks }) (moving w)) ]).fault ≡ None → step.spent ≡ None
        go None q f = q
        go (Some t) q f = absurd (fails-no (fault.Spent t) w f)

    by-scene : IsScene (world.push c n (Some k) w).world (done_by c step sc.mail sc) ⊎ IsScene (world.push c n (Some k) w).world sc → Kept (world.push c n (Some k) w)
    by-scene (inl q) = record { scene = done_by c step sc.mail sc; stands = q; stock = done-again names callers makes sc s c k step sc.mail there (pushes-keep (makes c) n k (s.clerks c k there)).0 outs-room s.mail; shown = showing.pushed w c n k outs-room }
    by-scene (inr q) = record { scene = sc; stands = q; stock = s; shown = showing.pushed w c n k outs-room }

    pushes-on : (a : Bool) → has_issued n k ≡ a → (z : Bool) → is_undurable c n w ≡ z
        → (elim a as (λ y. Moving) [ false ↦ fails fault.NoSuchOp w | true ↦ elim z as (λ y. Moving) [ true ↦ clerk_does c step (moving w) | false ↦ nothing w ] ]).fault ≡ None → Kept (world.push c n (Some k) w)
    pushes-on false p z q f = absurd (fails-no fault.NoSuchOp w f)
    pushes-on true p true q f = by-scene (pushed-on w sc i c n k (unspent f) p).1
    pushes-on true p false q f = by-scene (inr (subst (λ (m : Moving). IsScene m.world sc) (sym is) (shown-alike w sc _ i)))
      where
        is : world.push c n (Some k) w ≡ nothing w
        is = (λ x. elim (p x) as (λ y. Moving) [ false ↦ fails fault.NoSuchOp w | true ↦ elim (q x) as (λ y. Moving) [ true ↦ clerk_does c step (moving w) | false ↦ nothing w ] ])

  pub push-keeps : (world.push c n (at c w.clerks) w).fault ≡ None → KeepsRoom names callers makes (world.push c n (at c w.clerks) w)
  push-keeps = go (at c w.clerks) refl
    where
      go : (o : Option Clerk) → at c w.clerks ≡ o → (world.push c n o w).fault ≡ None → Kept (world.push c n o w)
      go None e f = absurd (fails-no fault.NoSuchOp w f)
      go (Some k) e f = pushes-on k e (has_issued n k) refl (is_undurable c n w) refl f

pub pushes-keep-room : PushesKeepRoom
pushes-keep-room names callers makes w sc c n i s fine = push-keeps names callers makes w sc c n i s fine
