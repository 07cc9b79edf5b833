-- What the server needs of the next message of a line is there.
use Rattle.std.proofs.Common.{◌≡◌, refl, sym, ap, subst, ◌∙◌, ℕ, Bool, true, false, ◌||◌, [], ◌∷◌, Some}
use Rattle.std.specs.Prelude.{nat_le, nat_lt, ◌&&◌, ◌==◌}
use Rattle.ec_base.specs.Tables.{at}
use Rattle.ec_base.specs.declared.ids.Hold.{Hold}
use Rattle.ec_order.specs.Order.{Issued}
use Rattle.ec_sessions.specs.Limits.{last_first_id, last_grants}
use Rattle.ec_sessions.specs.OfTokens.Tokens.{Holder}
use Rattle.ec_wire.specs.declared.msg.Msg.{Msg}
use Rattle.ec_wire.specs.declared.msg.Msg.TheVariants as msg
use Rattle.ec_durable.specs.Durable.{is_full}
use Rattle.ec_protocol.specs.Server.{has_claimed}
use Rattle.ec_coherence.specs.Invariant.{Invariant}
use Rattle.ec_coherence.specs.System.{System, clerk_in}
use Rattle.ec_quiet.specs.Facts.{session_clerk}
use Rattle.ec_quiet.specs.Phases.{Phase, Greets, Opens, Claims, Wants, Recalls, Flushes, Keeps, Grants, Asks, Gives, Refuses, Saves, Saved, Ends, InPhase, IsAsking, IsRecalled, IsSaving, main, messages, is_back, is_back_message}
use Rattle.ec_quiet.specs.Scenes.{Mail, Scene}
use Rattle.ec_quiet.specs.Works.{Work}
use Rattle.ec_quiet.proofs.OfDeliveries.Working.{main-front}
use Rattle.ec_quiet.specs.OfDeliveries.Coming.{HasNext, IsFreshFor, IsTaken, Suits}
use Rattle.ec_quiet.proofs.OfDeliveries.Committed.{batch-new}
use Rattle.ec_quiet.proofs.OfDeliveries.ServerDelivered.{head-same, none-first}
use Rattle.ec_complete.specs.OfAgreedLines.Worlds.{IsSeen}
use Rattle.ec_complete.proofs.OfAgreedLines.Seen.{at-only, batch-taken, clerk-there, ids-own}
use Rattle.ec_complete.specs.Lines.{IsSpare}

-- a token on its way back needs nothing
back-suits : (j : Work) (sc : Scene) (m : ℕ × Msg) → is_back_message m.1 ≡ true → Suits m.0 m.1 sc.server
back-suits j sc m e = go m.1 e
  where
    go : (x : Msg) → is_back_message x ≡ true → Suits m.0 x sc.server
    go (msg.Back s e x n h) q = tt
    go (msg.Hello i a) q = absurd (cc)
    go (msg.Want s e x h n) q = tt
    go (msg.Flush s e b ops) q = absurd (cc)
    go (msg.Room s e got ask) q = absurd (cc)
    go (msg.Claim s e l) q = tt
    go (msg.Bye s e) q = tt
    go (msg.Opened a s e) q = tt
    go (msg.Grant s e x n h i) q = tt
    go (msg.Recall s e x n h) q = tt
    go (msg.Kept s e b) q = tt
    go (msg.Ids s e got n x) q = tt
    go (msg.NoRoom s e ask live reserved) q = tt
    go (msg.Ended s low mask) q = tt
    go (msg.Restarted s e) q = tt
    go (msg.OldBoot a x) q = tt

module _ (g : System) (sc : Scene) (inv : Invariant g) (seen : IsSeen g sc) (j : Work) (spare : IsSpare j sc) where
  holder-taken : (x : ℕ) (h : Hold) (r : Holder) (b : ℕ) (ops : Issued) (more : Bool) → InPhase j sc (Flushes x h r b ops more) → IsTaken (session_clerk sc.server r.0) r.0 b ops sc.server
  holder-taken x h r b ops more ip =
      let q : IsRecalled 1 sc x h r b more = ip.facts.1 in
      let start = seen.clerks (session_clerk sc.server r.0) q.clerk q.there in
      let there : clerk_in g r.0 ≡ Some q.clerk = clerk-there g inv.sessions (session_clerk sc.server r.0) start.0 r.0 q.clerk start.1 (q.inside.session ∙ ap Some q.session) in
      batch-taken g sc.server inv seen.server seen.durable (session_clerk sc.server r.0) r.0 b ops q.slot q.clerk q.sending.numbers q.inside.there q.session q.inside.is_open
      (sym (ap (λ s. has_claimed s sc.server) q.session) ∙ q.inside.claimed) there (ap (at b) q.sending.alone ∙ at-only b q.sending.numbers) (batch-new q.slot q.clerk.log b q.window q.sending) ip.facts.2

  own-taken : (b : ℕ) (ops : Issued) (more : Bool) → InPhase j sc (Saves b ops more) → IsTaken j.clerk j.session b ops sc.server
  own-taken b ops more ip =
      let q : IsSaving 1 j sc b more = ip.facts.1 in
      let a = q.working in
      let start = seen.clerks j.clerk q.clerk a.there in
      let there : clerk_in g j.session ≡ Some q.clerk = clerk-there g inv.sessions j.clerk start.0 j.session q.clerk start.1 (a.inside.session ∙ ap Some a.session) in
      batch-taken g sc.server inv seen.server seen.durable j.clerk j.session b ops q.slot q.clerk q.sending.numbers a.inside.there a.session a.inside.is_open
      (sym (ap (λ s. has_claimed s sc.server) a.session) ∙ a.inside.claimed) there (ap (at b) q.sending.alone ∙ at-only b q.sending.numbers) (batch-new q.slot q.clerk.log b q.window q.sending) ip.facts.2

  ids-fresh : (again : Bool) (got ask : ℕ) → InPhase j sc (Asks again got ask) → (is_full sc.server.durable ≡ false → nat_lt last_first_id sc.server.durable.next_id ≡ false) → IsFreshFor j.session got sc.server
  ids-fresh again got ask ip next =
      let q : IsAsking [] j sc again ask = ip.facts.1 in
      let few : nat_le last_grants got ≡ false = ap (nat_le last_grants) (sym ip.facts.3) ∙ spare.grants q.clerk q.slot q.working.there q.working.inside.there q.working.inside.session in
      (λ room. ap (λ b. b || nat_le last_grants got) (next room) ∙ few, ids-own g sc.server inv seen.server seen.durable j.session)

  module _ (m : ℕ × Msg) (others : Mail) (next : HasNext m.1 sc.server) where
    -- the server's next counters are those that the phase's message takes
    its-next : (a : ℕ × Msg) (more : Mail) → a ∷ more ≡ m ∷ others → HasNext a.1 sc.server
    its-next a more e = subst (λ (z : ℕ × Msg). HasNext z.1 sc.server) (sym (head-same a m more others e)) next

    suited : (a : ℕ × Msg) (more : Mail) → a ∷ more ≡ m ∷ others → Suits a.0 a.1 sc.server → Suits m.0 m.1 sc.server
    suited a more e s = subst (λ z. Suits z.0 z.1 sc.server) (head-same a m more others e) s

    first-suits : (p : Phase) → InPhase j sc p → messages j sc p ≡ m ∷ others → Suits m.0 m.1 sc.server
    first-suits (Greets age) ip e = suited _ _ e (its-next (j.clerk, msg.Hello j.clerk age) [] e)
    first-suits (Opens age) ip e = suited _ _ e tt
    first-suits (Claims o) ip e = suited _ _ e tt
    first-suits (Wants x h n) ip e = suited _ _ e tt
    first-suits (Recalls x h (r ∷ rs) bs) ip e = suited _ _ e tt
    first-suits (Recalls x h [] []) ip e = absurd (none-first m others e)
    first-suits (Recalls x h [] (b ∷ bs)) ip e = suited _ _ e tt
    first-suits (Flushes x h r b ops more) ip e = suited _ _ e (holder-taken x h r b ops more ip)
    first-suits (Keeps x h r b more) ip e = suited _ _ e tt
    first-suits (Grants x h n) ip e = suited _ _ e tt
    first-suits (Asks again got ask) ip e = suited _ _ e (ids-fresh again got ask ip (its-next (j.clerk, msg.Room j.session sc.server.durable.epoch got ask) [] e))
    first-suits (Gives got n first) ip e = suited _ _ e tt
    first-suits (Refuses again ask live reserved) ip e = suited _ _ e tt
    first-suits (Saves b ops more) ip e = suited _ _ e (own-taken b ops more ip)
    first-suits (Saved b more) ip e = suited _ _ e tt
    first-suits Ends ip e = absurd (none-first m others e)

  pub next-suits : (p : Phase) (m : ℕ × Msg) (rest : Mail) → InPhase j sc p → sc.mail ≡ m ∷ rest → HasNext m.1 sc.server → Suits m.0 m.1 sc.server
  next-suits p m rest ip mail next = go (is_back j m) refl
    where
      both : (a b : Bool) → (a && b) ≡ true → b ≡ true
      both true b e = e
      both false b e = absurd (cc)

      go : (b : Bool) → is_back j m ≡ b → Suits m.0 m.1 sc.server
      go true own = back-suits j sc m (both (m.0 == j.clerk) (is_back_message m.1) own)
      go false own = first-suits m (main j rest) next p ip (sym ip.main_is ∙ ap (main j) mail ∙ main-front j m rest own)
