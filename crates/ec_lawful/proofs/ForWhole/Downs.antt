-- The facts on tokens while the server is stopped: the epoch may be another one that lies above all that was recorded and said, and messages may go.
use Rattle.std.proofs.Common.{◌≡◌, subst, arith, ℕ, ◌≤◌, List, ◌++◌, Some}
use Rattle.std.specs.Prelude.{⊤}
use Rattle.ec_history.specs.History.{Each}
use Rattle.ec_wire.specs.declared.msg.Msg.{Msg}
use Rattle.ec_wire.specs.declared.msg.Msg.TheVariants.{Want, Back, Flush, Room, Claim, Bye, Opened, Grant, Recall, Ids, Restarted}
use Rattle.ec_coherence.specs.System.{Eff}
use Rattle.ec_coherence.specs.Tokens.{Fits, Passed, Side, TokensAgree, View}
use Rattle.ec_coherence.proofs.ForServer.Lists.{each-both, each-front, each-turn}
use Rattle.ec_coherence.proofs.ForServer.Restart.{down}

-- the message speaks of no later epoch
abbrev pub InEpoch : ℕ → Msg → Type 0
InEpoch e (Want s d x h l) = d ≤ e
InEpoch e (Back s d x n h) = d ≤ e
InEpoch e (Flush s d b ops) = d ≤ e
InEpoch e (Room s d got ask) = d ≤ e
InEpoch e (Claim s d l) = d ≤ e
InEpoch e (Bye s d) = d ≤ e
InEpoch e (Opened age s d) = d ≤ e
InEpoch e (Grant s d x n h i) = d ≤ e
InEpoch e (Recall s d x n h) = d ≤ e
InEpoch e (Ids s d got n first) = d ≤ e
InEpoch e (Restarted s d) = d ≤ e
InEpoch e _ = ⊤

pub in-epoch : (w : View) (e : ℕ) → w.epoch ≤ e → (m : Msg) → Fits w m → InEpoch e m
in-epoch w e l (Want s d x h n) q = let a = q.0.1 in omega (arith, a, l)
in-epoch w e l (Back s d x n h) q = let a = q.0.1 in omega (arith, a, l)
in-epoch w e l (Flush s d b ops) q = let a = q.1 in omega (arith, a, l)
in-epoch w e l (Room s d got ask) q = let a = q.0.1 in omega (arith, a, l)
in-epoch w e l (Claim s d c) q = let a = q.0.1 in omega (arith, a, l)
in-epoch w e l (Bye s d) q = let a = q.1 in omega (arith, a, l)
in-epoch w e l (Opened age s d) q = let a = q.0 in omega (arith, a, l)
in-epoch w e l (Grant s d x n h i) q = let a = q.0.1 in omega (arith, a, l)
in-epoch w e l (Recall s d x n h) q = let a = q.0.1 in omega (arith, a, l)
in-epoch w e l (Ids s d got n first) q = let a = q.0.1 in omega (arith, a, l)
in-epoch w e l (Restarted s d) q = omega (arith, q, l)
in-epoch w e l _ q = tt

module _ (w : View) (agree : TokensAgree (down w)) (e : ℕ) (p q : List (ℕ × Msg)) (split : w.pool ≡ p ++ q) (known : (s x : ℕ) (f : Eff) → w.old s x ≡ Some f → f.epoch ≤ e)
    (reached : (s : ℕ) (k : Side) → w.clerk s ≡ Some k → k.epoch ≤ e) (said : Each (λ m. InEpoch e m.1) p) where
  abbrev moved : View
  moved = record (down w) { epoch = e; pool = p }

  pass : (s d : ℕ) → d ≤ e → Passed (down w) s d → Passed moved s d
  pass s d l a = (a.0, l, a.2)

  kept : (m : Msg) → Fits (down w) m → InEpoch e m → Fits moved m
  kept (Want s d x h n) f l = (pass s d l f.0, f.1, f.2, f.3)
  kept (Back s d x n h) f l = (pass s d l f.0, f.1, f.2)
  kept (Flush s d b ops) f l = pass s d l f
  kept (Room s d got ask) f l = (pass s d l f.0, λ k i. ((f.1 k i).0, λ a o. tt))
  kept (Claim s d c) f l = (pass s d l f.0, (λ a o. tt), f.2)
  kept (Bye s d) f l = pass s d l f
  kept (Opened age s d) f l = (l, tt)
  kept (Grant s d x n h i) f l = (pass s d l f.0, (λ a o. tt), f.2, f.3, f.4)
  kept (Recall s d x n h) f l = (pass s d l f.0, f.1)
  kept (Ids s d got n first) f l = (pass s d l f.0, (λ a o. tt), (λ a o. tt), f.3, f.4, f.5)
  kept (Restarted s d) f l = l
  kept _ f l = f

  pub moved-agrees : TokensAgree moved
  moved-agrees = record {
    held = agree.held;
    holds = agree.holds;
    known = λ s x f i. let a = agree.known s x f i in (a.0, a.1, known s x f i);
    next = agree.next;
    exclusive = agree.exclusive;
    below = agree.below;
    got = λ s k i. let a = agree.got s k i in (reached s k i, a.1, a.2, a.3);
    given = agree.given;
    alone = agree.alone;
    lasts = agree.lasts;
    recalled = agree.recalled;
    present = agree.present;
    messages = each-turn (λ m. Fits (down w) m.1 × InEpoch e m.1) (λ m. Fits moved m.1) p (λ m f. kept m.1 f.0 f.1)
        (each-both (λ m. Fits (down w) m.1) (λ m. InEpoch e m.1) p (each-front (λ m. Fits (down w) m.1) p q (subst (λ z. Each (λ m. Fits (down w) m.1) z) split agree.messages)) said);
    tables = tt;
  }
