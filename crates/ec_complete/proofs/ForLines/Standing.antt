-- In which sessions the clerks of a phase are.
use Rattle.std.proofs.Common.{◌≡◌, refl, sym, ap, subst, ◌∙◌, inl, inr, ◌⊎◌, ℕ, Bool, true, false, ◌==◌, List, [], ◌∷◌, Option, Some, None}
use Rattle.ec_base.specs.Tables.{at}
use Rattle.ec_sessions.specs.declared.slot.Slot.{Slot}
use Rattle.ec_durable.specs.Durable.{slot}
use Rattle.ec_protocol.specs.declared.clerk.Clerk.{Clerk}
use Rattle.ec_protocol.specs.declared.server.Server.{Server}
use Rattle.ec_coherence.proofs.ForServer.Tables.{same_some}
use Rattle.ec_quiet.specs.Facts.{IsIdleBut, session_clerk as clerk_of}
use Rattle.ec_quiet.specs.Phases.{Phase, Greets, Opens, Claims, Wants, Recalls, Flushes, Keeps, Grants, Asks, Gives, Refuses, Saves, Saved, Ends, InPhase, IsRecalled, IsStarting, IsWorking, excepted, is_busy}
use Rattle.ec_quiet.specs.Scenes.{Scene}
use Rattle.ec_quiet.specs.Works.{Work}
use Rattle.ec_base.proofs.Numbers.{equal}

-- Another clerk is in the session of its slot, and waits for nothing.
pub record Other (v : Server) (c : ℕ) (k : Clerk) : Type 0 where
  pub slot_of : Slot
  pub here : slot v.durable c ≡ Some slot_of
  pub opened : slot_of.is_open ≡ true
  pub session : k.session ≡ Some slot_of.session
  pub grants : slot_of.grants ≡ k.got
  pub waiting : k.waiting ≡ []
  pub asking : k.asking ≡ None

-- The line's clerk has no session yet, or works in its own.
abbrev pub IsNewOrWorks : Work → Scene → Type 0
IsNewOrWorks j sc = ((age : _) × IsStarting j sc age) ⊎ ((xs : List ℕ) × (sl : Slot) × (k : Clerk) × IsWorking xs j sc sl k)

module _ (j : Work) (sc : Scene) where
  pub own : (p : Phase) → InPhase j sc p → IsNewOrWorks j sc
  own (Greets age) ip = inl (age, ip.facts.1)
  own (Opens age) ip = inl (age, ip.facts.1)
  own (Claims None) ip = let f = ip.facts.1 in inr ([], f.slot, f.clerk, f.working)
  own (Claims (Some q)) ip = let f = ip.facts.1 in inr ([], f.slot, f.clerk, f.working)
  own (Wants x h n) ip = let f = ip.facts.1 in inr ([], f.slot, f.clerk, f.working)
  own (Recalls x h rs bs) ip = let f = (ip.facts.0).wanting in inr ([], f.slot, f.clerk, f.working)
  own (Flushes x h r b ops more) ip = let f = (ip.facts.0).wanting in inr ([], f.slot, f.clerk, f.working)
  own (Keeps x h r b more) ip = let f = (ip.facts.0).wanting in inr ([], f.slot, f.clerk, f.working)
  own (Grants x h n) ip = let f = ip.facts.3 in inr (x ∷ [], f.slot, f.clerk, f.working)
  own (Asks again got ask) ip = let f = ip.facts.1 in inr ([], f.slot, f.clerk, f.working)
  own (Gives got n first) ip = let f = ip.facts.3 in inr (_, f.slot, f.clerk, f.working)
  own (Refuses again ask live reserved) ip = let f = ip.facts.1 in inr ([], f.slot, f.clerk, f.working)
  own (Saves b ops more) ip = let f = ip.facts.1 in inr ([], f.slot, f.clerk, f.working)
  own (Saved b more) ip = let f = ip.facts.1 in inr ([], f.slot, f.clerk, f.working)
  own Ends ip = let f = ip.facts.1 in inr ([], f.slot, f.clerk, f.working)

  -- a holder that makes a batch durable
  called : (n : ℕ) (x : ℕ) (h : _) (r : _) (b : ℕ) (more : Bool) → IsRecalled n sc x h r b more → (c : ℕ) (k : Clerk) → (clerk_of sc.server r.0 == c) ≡ true → at c sc.clerks ≡ Some k → Other sc.server c k
  called n x h r b more q c k e there =
      let same : clerk_of sc.server r.0 ≡ c = equal (clerk_of sc.server r.0) c e in
      let is : q.clerk ≡ k = same_some (sym q.there ∙ ap (λ z. at z sc.clerks) same ∙ there) in
      record {
        slot_of = q.slot;
        here = subst (λ z. slot sc.server.durable z ≡ Some q.slot) same q.inside.there;
        opened = q.inside.is_open;
        session = ap (λ z. z.session) (sym is) ∙ q.inside.session;
        grants = q.grants ∙ ap (λ z. z.got) is;
        waiting = ap (λ z. z.waiting) (sym is) ∙ q.waiting;
        asking = ap (λ z. z.asking) (sym is) ∙ q.asking;
      }

  busy : (p : Phase) → InPhase j sc p → (c : ℕ) (k : Clerk) → is_busy sc p c ≡ true → at c sc.clerks ≡ Some k → Other sc.server c k
  busy (Flushes x h r b ops more) ip c k e there = called 1 x h r b more ip.facts.1 c k e there
  busy (Keeps x h r b more) ip c k e there = called 0 x h r b more ip.facts.1 c k e there
  busy (Greets age) ip c k e there = absurd (cc)
  busy (Opens age) ip c k e there = absurd (cc)
  busy (Claims o) ip c k e there = absurd (cc)
  busy (Wants x h n) ip c k e there = absurd (cc)
  busy (Recalls x h rs bs) ip c k e there = absurd (cc)
  busy (Grants x h n) ip c k e there = absurd (cc)
  busy (Asks again got ask) ip c k e there = absurd (cc)
  busy (Gives got n first) ip c k e there = absurd (cc)
  busy (Refuses again ask live reserved) ip c k e there = absurd (cc)
  busy (Saves b ops more) ip c k e there = absurd (cc)
  busy (Saved b more) ip c k e there = absurd (cc)
  busy Ends ip c k e there = absurd (cc)

  pub other : (p : Phase) → InPhase j sc p → (c : ℕ) (k : Clerk) → (c == j.clerk) ≡ false → at c sc.clerks ≡ Some k → Other sc.server c k
  other p ip c k e there = go (is_busy sc p c) refl
    where
      go : (b : Bool) → is_busy sc p c ≡ b → Other sc.server c k
      go true f = busy p ip c k f there
      go false f =
          let q = ip.others c k e f there in
          let i : IsIdleBut (excepted sc p c) sc.server c q.0 k = q.1 in
          record { slot_of = q.0; here = i.inside.there; opened = i.inside.is_open; session = i.inside.session; grants = i.grants; waiting = i.waiting; asking = i.asking }

-- A clerk in a session is in that of its slot.
pub record InSlot (v : Server) (c s : ℕ) : Type 0 where
  pub slot_of : Slot
  pub here : slot v.durable c ≡ Some slot_of
  pub opened : slot_of.is_open ≡ true
  pub session : slot_of.session ≡ s

none-in : {A : Type 0} (k m : Clerk) (s : ℕ) → k ≡ m → k.session ≡ None → m.session ≡ Some s → A
none-in k m s e n q = absurd (apart (sym n ∙ ap (λ z. z.session) e ∙ q))
  where
    apart : ◌≡◌ {A = Option ℕ} None (Some s) → ⊥
    apart f = cc

pub in-slot : (j : Work) (sc : Scene) (p : Phase) → InPhase j sc p → (c : ℕ) (k : Clerk) (s : ℕ) → at c sc.clerks ≡ Some k → k.session ≡ Some s → InSlot sc.server c s
in-slot j sc p ip c k s there inside = go (c == j.clerk) refl
  where
    its : (a : Clerk) → at j.clerk sc.clerks ≡ Some a → (c == j.clerk) ≡ true → a ≡ k
    its a q e = same_some (sym q ∙ ap (λ z. at z sc.clerks) (sym (equal c j.clerk e)) ∙ there)

    go : (b : Bool) → (c == j.clerk) ≡ b → InSlot sc.server c s
    go false e = let o = other j sc p ip c k e there in record { slot_of = o.slot_of; here = o.here; opened = o.opened; session = same_some (sym o.session ∙ inside) }
    go true e = elim (own j sc p ip) [
      | inl n ↦ none-in n.1.clerk k s (its n.1.clerk n.1.there e) n.1.new.session inside
      | inr f ↦
          let w = f.3 in
          record {
            slot_of = f.1;
            here = subst (λ z. slot sc.server.durable z ≡ Some f.1) (sym (equal c j.clerk e)) w.inside.there;
            opened = w.inside.is_open;
            session = same_some (sym w.inside.session ∙ ap (λ z. z.session) (its f.2 w.there e) ∙ inside);
          }
    ]
