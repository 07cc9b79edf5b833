-- What the server needs of the next message of a phase is there, where the invariant holds.
use Rattle.std.proofs.Common.{◌≡◌, refl, sym, ap, subst, ◌∙◌, arith, ◌≤◌, ◌+◌, ℕ, Bool, true, false, ◌||◌, [], ◌∷◌, Some}
use Rattle.std.specs.Prelude.{nat_le}
use Rattle.std.proofs.lemmas.Bool.Decides.{nat_tests}
use Rattle.ec_base.specs.Tables.{at}
use Rattle.ec_base.specs.declared.ids.Hold.{Hold}
use Rattle.ec_order.specs.Order.{Issued}
use Rattle.ec_base.specs.declared.ids.Hold.TheVariants.{Write}
use Rattle.ec_sessions.specs.Limits.{ids_per_grant, last_grants}
use Rattle.ec_sessions.specs.Slots.{run}
use Rattle.ec_sessions.specs.OfTokens.Tokens.{Holder}
use Rattle.ec_wire.specs.declared.msg.Msg.{Msg}
use Rattle.ec_protocol.specs.Server.{has_claimed}
use Rattle.ec_protocol.specs.declared.world.World.{World}
use Rattle.ec_coherence.specs.Invariant.{Invariant}
use Rattle.ec_coherence.specs.Steps.{Stands}
use Rattle.ec_coherence.specs.System.{System, clerk_in}
use Rattle.ec_quiet.specs.Facts.{session_clerk}
use Rattle.ec_quiet.specs.Phases.{Phase, Greets, Opens, Claims, Wants, Recalls, Flushes, Keeps, Grants, Asks, Gives, Refuses, Saves, Saved, Ends, InPhase, IsAsking, IsRecalled, IsSaving, main, messages, is_back}
use Rattle.ec_quiet.specs.Scenes.{IsScene, Mail, Scene, delivered, is_for_server}
use Rattle.ec_quiet.specs.Works.{Work}
use Rattle.ec_quiet.proofs.OfDeliveries.Working.{main-front}
use Rattle.ec_quiet.specs.OfDeliveries.Coming.{IsFreshFor, IsTaken, Suits}
use Rattle.ec_quiet.proofs.OfDeliveries.Committed.{batch-new}
use Rattle.ec_quiet.proofs.OfDeliveries.ServerDelivered.{comes, deliveries-go-on, head-same, none-first}
use Rattle.ec_quiet.proofs.OfDeliveries.Staying.{old-tokens-leave}
use Rattle.ec_complete.specs.OfAgreedLines.Worlds.{HasCounters, IsSeen}
use Rattle.ec_complete.proofs.OfAgreedLines.Seen.{at-only, batch-taken, clerk-there, ids-own, scenes-seen, tables}
use Rattle.ec_quiet.specs.Goes.{GoesOn}

module _ (g : System) (sc : Scene) (inv : Invariant g) (seen : IsSeen g sc) (counters : HasCounters sc.server) (j : Work) where
  -- A holder's batch.
  holder-taken : (x : ℕ) (h : Hold) (r : Holder) (b : ℕ) (ops : Issued) (more : Bool) → InPhase j sc (Flushes x h r b ops more) → IsTaken (session_clerk sc.server r.0) r.0 b ops sc.server
  holder-taken x h r b ops more ip =
      let q : IsRecalled 1 sc x h r b more = ip.facts.1 in
      let start = seen.clerks (session_clerk sc.server r.0) q.clerk q.there in
      let there : clerk_in g r.0 ≡ Some q.clerk = clerk-there g inv.sessions (session_clerk sc.server r.0) start.0 r.0 q.clerk start.1 (q.inside.session ∙ ap Some q.session) in
      batch-taken g sc.server inv seen.server seen.durable (session_clerk sc.server r.0) r.0 b ops q.slot q.clerk q.sending.numbers q.inside.there q.session q.inside.is_open
      (sym (ap (λ s. has_claimed s sc.server) q.session) ∙ q.inside.claimed) there (ap (at b) q.sending.alone ∙ at-only b q.sending.numbers) (batch-new q.slot q.clerk.log b q.window q.sending) ip.facts.2

  -- One of the line's clerk.
  own-taken : (b : ℕ) (ops : Issued) (more : Bool) → InPhase j sc (Saves b ops more) → IsTaken j.clerk j.session b ops sc.server
  own-taken b ops more ip =
      let q : IsSaving 1 j sc b more = ip.facts.1 in
      let a = q.working in
      let start = seen.clerks j.clerk q.clerk a.there in
      let there : clerk_in g j.session ≡ Some q.clerk = clerk-there g inv.sessions j.clerk start.0 j.session q.clerk start.1 (a.inside.session ∙ ap Some a.session) in
      batch-taken g sc.server inv seen.server seen.durable j.clerk j.session b ops q.slot q.clerk q.sending.numbers a.inside.there a.session a.inside.is_open
      (sym (ap (λ s. has_claimed s sc.server) a.session) ∙ a.inside.claimed) there (ap (at b) q.sending.alone ∙ at-only b q.sending.numbers) (batch-new q.slot q.clerk.log b q.window q.sending) ip.facts.2

  -- Ids.
  ids-fresh : (again : Bool) (got ask : ℕ) → InPhase j sc (Asks again got ask) → IsFreshFor j.session got sc.server
  ids-fresh again got ask ip =
      let q : IsAsking [] j sc again ask = ip.facts.1 in
      let few : nat_le last_grants got ≡ false = ap (nat_le last_grants) (sym ip.facts.3) ∙ counters.grants j.clerk q.slot q.working.inside.there in
      (λ full. ap (λ b. b || nat_le last_grants got) counters.first ∙ few, ids-own g sc.server inv seen.server seen.durable j.session)

  -- The first message of a phase.
  module _ (m : ℕ × Msg) (others : Mail) where
    suited : (a : ℕ × Msg) (more : Mail) → a ∷ more ≡ m ∷ others → Suits a.0 a.1 sc.server → Suits m.0 m.1 sc.server
    suited a more e s = subst (λ z. Suits z.0 z.1 sc.server) (head-same a m more others e) s

    first-suits : (p : Phase) → InPhase j sc p → messages j sc p ≡ m ∷ others → Suits m.0 m.1 sc.server
    first-suits (Greets age) ip e = suited _ _ e counters.session
    first-suits (Opens age) ip e = suited _ _ e tt
    first-suits (Claims o) ip e = suited _ _ e tt
    first-suits (Wants x h n) ip e = suited _ _ e tt
    first-suits (Recalls x h (r ∷ rs) bs) ip e = suited _ _ e tt
    first-suits (Recalls x h [] []) ip e = absurd (none-first m others e)
    first-suits (Recalls x h [] (b ∷ bs)) ip e = suited _ _ e tt
    first-suits (Flushes x h r b ops more) ip e = suited _ _ e (holder-taken x h r b ops more ip)
    first-suits (Keeps x h r b more) ip e = suited _ _ e tt
    first-suits (Grants x h n) ip e = suited _ _ e tt
    first-suits (Asks again got ask) ip e = suited _ _ e (ids-fresh again got ask ip)
    first-suits (Gives got n first) ip e = suited _ _ e tt
    first-suits (Refuses again ask live reserved) ip e = suited _ _ e tt
    first-suits (Saves b ops more) ip e = suited _ _ e (own-taken b ops more ip)
    first-suits (Saved b more) ip e = suited _ _ e tt
    first-suits Ends ip e = absurd (none-first m others e)

pub worlds-go-on : (w : World) (g : System) (sc : Scene) → Invariant g → Stands w g → IsScene w sc → (j : Work) (p : Phase) (m : ℕ × Msg) (rest : Mail)
    → InPhase j sc p → HasCounters sc.server → is_for_server m.1 ≡ true → sc.mail ≡ m ∷ rest → GoesOn j sc p (delivered m.0 m.1 rest sc)
worlds-go-on w g sc inv stands scene j p m rest ip counters server mail = go (is_back j m) refl
  where
    go : (b : Bool) → is_back j m ≡ b → GoesOn j sc p (delivered m.0 m.1 rest sc)
    go true own = comes j sc p _ p (old-tokens-leave j sc p m rest ip own mail)
    go false own =
        deliveries-go-on j sc p m rest ip server counters.number
        (first-suits g sc inv (scenes-seen w g sc stands scene) counters j m (main j rest) p ip (sym ip.main_is ∙ ap (main j) mail ∙ main-front j m rest own)) mail

-- Numbers of what was granted.

pub numbers-given : (g : System) (sc : Scene) → Invariant g → IsSeen g sc → (j : Work) (x n : ℕ) (h : Hold) → InPhase j sc (Grants x h n) → n ≤ sc.server.number
numbers-given g sc inv seen j x n h ip = (tables g sc.server inv seen.server seen.durable).numbers j.session x (record { hold = h; number = n }) ip.facts.1

pub ids-counted : (g : System) (sc : Scene) → Invariant g → IsSeen g sc → (j : Work) (got n first : ℕ) → InPhase j sc (Gives got n first) → HasCounters sc.server → (n ≤ sc.server.number) × (nat_le last_grants got ≡ false)
ids-counted g sc inv seen j got n first ip counters =
    let q : IsAsking (run first ids_per_grant) j sc ip.facts.2 ip.facts.1 = ip.facts.3 in (
      (tables g sc.server inv seen.server seen.durable).numbers j.session first (record { hold = Write; number = n }) ip.facts.6.0.0,
      earlier last_grants got q.slot.grants ip.facts.5 (counters.grants j.clerk q.slot q.working.inside.there),
    )
  where
    earlier : (most got grants : ℕ) → grants ≡ got + 1 → nat_le most grants ≡ false → nat_le most got ≡ false
    earlier most got grants e f = grind (arith, nat_tests, e, f)
