-- Calls under way behind a change of a clerk that answers nothing.
use Rattle.std.proofs.Common.{◌≡◌, refl, sym, ap, subst, ◌∙◌, ◌≤◌, ℕ, T, Bool, true, false, ◌==◌, ◌&&◌, [], ◌++◌, Option, Some, append-nil}
use Rattle.std.proofs.lemmas.Bool.{and_parts}
use Rattle.ec_plain.specs.declared.call.Call.{Call}
use Rattle.ec_history.specs.History.{Each}
use Rattle.ec_history.specs.Placing.{watch}
use Rattle.ec_log.specs.LogOrder.{is_from}
use Rattle.ec_protocol.specs.Clerk.{Doing, doing}
use Rattle.ec_protocol.specs.declared.clerk.Clerk.{Clerk}
use Rattle.ec_coherence.specs.System.{System, Ghost, with_start}
use Rattle.ec_coherence.specs.Events.{shown_boot}
use Rattle.ec_coherence.specs.Steps.{call_of, doing_in}
use Rattle.ec_coherence.proofs.ForBatches.ClerkIn.{start-same}
use Rattle.ec_coherence.proofs.ForServer.Tables.{same_some}
use Rattle.ec_lawful.specs.OfClerkSteps.Calls.{HaveDistinctNumbers, Began, CallsAgree, IsOpenCall, LosesBelow, StartCalls, has_number, told_to}
use Rattle.ec_lawful.specs.OfClerkSteps.Waits.{HasLine}
use Rattle.ec_lawful.specs.OfClerkSteps.CallLaws.{IsQuiet}
use Rattle.ec_base.proofs.Numbers.{equal}
use Rattle.ec_history.proofs.OfLaws.ForPlacing.BasesAlike.{each-map}

-- Of the starts of clerks, one is this now, and the others stay.

pub split-start : (c b f a : ℕ) (k now : Clerk) (clerks : ℕ → ℕ → Option Clerk) (P : ℕ → ℕ → Clerk → Type 0) → with_start c b now clerks f a ≡ Some k → P c b now
    → (((f == c) && (a == b)) ≡ false → clerks f a ≡ Some k → P f a k) → P f a k
split-start c b f a k now clerks P there own other = go ((f == c) && (a == b)) refl there
  where
    go : (x : Bool) → ((f == c) && (a == b)) ≡ x → elim x as (λ z. Option Clerk) [ true ↦ Some now | false ↦ clerks f a ] ≡ Some k → P f a k
    go true e q =
        let two = and_parts (f == c) (a == b) e in
        subst (P f a) (same_some q) (subst (λ z. P z a now) (sym (equal f c two.0)) (subst (λ z. P c z now) (sym (equal a b two.1)) own))
    go false e q = other e q

pub other-start : (c b f a : ℕ) (now : Clerk) (clerks : ℕ → ℕ → Option Clerk) → ((f == c) && (a == b)) ≡ false → with_start c b now clerks f a ≡ clerks f a
other-start c b f a now clerks e = ap (λ x. elim x as (λ z. Option Clerk) [ true ↦ Some now | false ↦ clerks f a ]) e

pub same-start : (c b : ℕ) (k : Clerk) (f : ℕ → ℕ → Option Clerk) → f c b ≡ Some k → with_start c b k f ≡ f
same-start c b k f p = λ j x y. point x y ((x == c) && (y == b)) refl j
  where
    point : (x y : ℕ) (z : Bool) → ((x == c) && (y == b)) ≡ z → elim z as (λ o. Option Clerk) [ true ↦ Some k | false ↦ f x y ] ≡ f x y
    point x y true e = let two = and_parts (x == c) (y == b) e in sym (ap (λ z. f z y) (equal x c two.0) ∙ ap (f c) (equal y b two.1) ∙ p)
    point x y false e = refl

-- A step begins.
pub begins-step : (g : System) (c b : ℕ) (k : Clerk) → g.clerks c b ≡ Some k → CallsAgree g → CallsAgree (doing_in c b (doing k) g.ghost g)
begins-step g c b k there q = subst (λ f. CallsAgree (record g { clerks = f; pool = g.pool ++ [] })) (sym (same-start c b k g.clerks there)) (subst (λ p. CallsAgree (record g { pool = p })) (sym (append-nil g.pool)) q)

module _ (g : System) (c b : ℕ) (d e : Doing) (γ : Ghost) (quiet : IsQuiet d e) where
  abbrev was : System
  was = doing_in c b d γ g

  abbrev now : System
  now = doing_in c b e γ g

  same-calls : now.calls ≡ was.calls
  same-calls = quiet.outs c g.calls

  same-call : (f n : ℕ) → call_of f n now.calls ≡ call_of f n was.calls
  same-call f n = ap (call_of f n) same-calls

  -- what stays of a start that the step leaves
  left : (f a : ℕ) (k : Clerk) → StartCalls was f a k → StartCalls now f a k
  left f a k q = record {
    lined = each-map (λ w. (l : ℕ) × (call_of f w.no was.calls ≡ Some (l, w.call)) × Began was f a k w l) (λ w. (l : ℕ) × (call_of f w.no now.calls ≡ Some (l, w.call)) × Began now f a k w l)
        (λ w x. (x.0, same-call f w.no ∙ x.1, record { now = (x.2).now; earlier = (x.2).earlier })) k.waiting q.lined;
    apart = q.apart;
    numbers = q.numbers;
    own = q.own;
    begun = q.begun;
    lost = q.lost;
  }

  own : StartCalls was c b d.clerk → StartCalls now c b e.clerk
  own q = record {
    lined = subst (λ ws. Each (λ w. (l : ℕ) × (call_of c w.no now.calls ≡ Some (l, w.call)) × Began now c b e.clerk w l) ws) (sym quiet.waiting)
        (each-map (λ w. (l : ℕ) × (call_of c w.no was.calls ≡ Some (l, w.call)) × Began was c b d.clerk w l) (λ w. (l : ℕ) × (call_of c w.no now.calls ≡ Some (l, w.call)) × Began now c b e.clerk w l)
        (λ w x. (x.0, same-call c w.no ∙ x.1, record { now = λ n. (x.2).now n ∙ sym quiet.next; earlier = (x.2).earlier })) d.clerk.waiting q.lined);
    apart = subst HaveDistinctNumbers (sym quiet.waiting) q.apart;
    numbers = subst (λ ws. Each (λ w. w.no ≤ e.clerk.calls) ws) (sym quiet.waiting) (subst (λ n. Each (λ w. w.no ≤ n) d.clerk.waiting) (sym quiet.calls) q.numbers);
    own = subst (λ n. T (is_from n e.clerk.log.undurable)) (sym quiet.first) (quiet.own d.clerk.log.first q.own);
    begun = subst (λ n. n ≤ e.clerk.log.next) (sym quiet.first) (subst (λ n. d.clerk.log.first ≤ n) (sym quiet.next) q.begun);
    lost = subst (λ n. Each (LosesBelow c (shown_boot g c b) n) (told_to c (shown_boot g c b) (watch c γ.shown).untold γ.history)) (sym quiet.first) q.lost;
  }

  starts : CallsAgree was → (f a : ℕ) (k : Clerk) → g.running f ≡ Some a → now.clerks f a ≡ Some k → StartCalls now f a k
  starts q f a k run there =
      split-start c b f a k e.clerk g.clerks (λ x y z. g.running x ≡ Some y → StartCalls now x y z) there
      (λ r. own (q.starts c b d.clerk r (start-same c b d.clerk g.clerks)))
      (λ n p r. left f a k (q.starts f a k r (other-start c b f a d.clerk g.clerks n ∙ p))) run

  -- a call under way waits at the start as it's now
  open-call : (f n l : ℕ) (cl : Call) → IsOpenCall was f n l cl → IsOpenCall now f n l cl
  open-call f n l cl q = split-start c b f q.boot q.clerk d.clerk g.clerks (λ x y z. x ≡ f → g.running x ≡ Some y → T (has_number n z.waiting) → IsOpenCall now f n l cl) q.stands
      (λ same run w. record {
        boot = b;
        clerk = e.clerk;
        running = subst (λ z. g.running z ≡ Some b) same run;
        stands = subst (λ z. now.clerks z b ≡ Some e.clerk) same (start-same c b e.clerk g.clerks);
        waits = subst (λ ws. T (has_number n ws)) (sym quiet.waiting) w;
        bounded = q.bounded;
        own = q.own;
        unanswered = q.unanswered;
      })
      (λ n' p same run w. record {
        boot = q.boot;
        clerk = q.clerk;
        running = run;
        stands = other-start c b f q.boot e.clerk g.clerks n' ∙ p;
        waits = w;
        bounded = q.bounded;
        own = q.own;
        unanswered = q.unanswered;
      }) refl q.running q.waits

  pub quiet-calls : CallsAgree was → CallsAgree now
  quiet-calls q = record {
    starts = starts q;
    calls = λ f n l cl x. open-call f n l cl (q.calls f n l cl (sym (same-call f n) ∙ x));
    lines = λ f o n m l cl dl x y. q.lines f o n m l cl dl (sym (same-call f n) ∙ x) (sym (same-call o m) ∙ y);
  }

  pub quiet-lines : Each (HasLine was c) d.clerk.waiting → Each (HasLine now c) e.clerk.waiting
  quiet-lines q = subst (Each (HasLine now c)) (sym quiet.waiting) (each-map (HasLine was c) (HasLine now c) (λ w x. (x.0, same-call c w.no ∙ x.1, x.2)) d.clerk.waiting q)
