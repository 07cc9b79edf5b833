-- The boots, the starts and the pool behind each step of a node: nobody says goodbye, and each start stands.
use Rattle.std.proofs.Common.{◌≡◌, refl, sym, ap, subst, ◌∙◌, inl, inr, arith, ◌<◌, ◌≤◌, ◌+◌, ℕ, T, Bool, true, false, ◌==◌, ◌&&◌, List, ◌++◌, Option, Some}
use Rattle.std.specs.Prelude.{is_some}
use Rattle.std.specs.List.{list_any}
use Rattle.ec_plain.specs.declared.call.Call.{Call}
use Rattle.ec_history.specs.History.{Each}
use Rattle.ec_history.specs.declared.shown.Shown.TheVariants.{Nothing, Stopped, Unsettled}
use Rattle.ec_wire.specs.declared.msg.Msg.{Msg}
use Rattle.ec_protocol.specs.Clerk.{Doing, begin, push, resend, start, take as take_message}
use Rattle.ec_protocol.specs.Server.{Serving, end, take}
use Rattle.ec_protocol.specs.Server as server
use Rattle.ec_protocol.specs.World.{is_answer_to}
use Rattle.ec_protocol.specs.declared.clerk.Clerk.{Clerk}
use Rattle.ec_protocol.specs.declared.server.Server.{Server}
use Rattle.ec_coherence.specs.System.{System, Ghost}
use Rattle.ec_coherence.specs.Steps.{doing_in, sends, serving_in}
use Rattle.ec_coherence.proofs.ForServer.Lists.{each-more}
use Rattle.ec_coherence.specs.CommitLaws.{AllAgree}
use Rattle.ec_coherence.specs.StandLaws.{crashed, lined, stopped}
use Rattle.ec_lawful.specs.Doubts.{DoubtAgrees, doubted}
use Rattle.ec_lawful.specs.Founds.{started_in, with_found}
use Rattle.ec_lawful.proofs.ForWhole.Keeps.{doubts-hold, restarts-hold}
use Rattle.ec_lawful.specs.Steps.{StepIsDone, IsServed, StepsKeep, clerk_begun, calling, in_call}
use Rattle.ec_lawful.specs.Ties.{called, waiting}
use Rattle.ec_lawful.specs.Asked.{AsksAgree, IsNoBye}
use Rattle.ec_lawful.specs.AskedLaws.{RestsKeep, StepsStay}
use Rattle.ec_lawful.proofs.ForAsked.Said.{IsOwn, begin-own, own-silent, push-own, resend-own, start-own, take-own}
use Rattle.ec_lawful.proofs.ForAsked.Told.{end-right, start-right, take-right}
use Rattle.ec_base.proofs.Numbers.{equal}

module _ (first : ℕ → ℕ) where
  abbrev Q : System → Type 0
  Q g = AsksAgree first g

  -- more messages, of which none is a goodbye
  pub sends-agree : (g h : System) → h.first_boot ≡ g.first_boot → h.boots ≡ g.boots → h.clerks ≡ g.clerks → (ms : List (ℕ × Msg)) → h.pool ≡ g.pool ++ ms → Each (λ m. IsNoBye m.1) ms → Q g → Q h
  sends-agree g h f b k ms p s a = record {
    began = λ c. ap (λ x. x c) f ∙ a.began c;
    stands = λ c n l m. subst (λ x. T (is_some (x c n))) (sym k) (a.stands c n (subst (λ x. x c < n) f l) (subst (λ x. n ≤ x c) b m));
    silent = subst (λ ns. Each (λ m. IsNoBye m.1) ns) (sym p) (each-more (λ m. IsNoBye m.1) g.pool ms a.silent s);
  }

  pub same-agree : (g h : System) → h.first_boot ≡ g.first_boot → h.boots ≡ g.boots → h.clerks ≡ g.clerks → h.pool ≡ g.pool → Q g → Q h
  same-agree g h f b k p a = record {
    began = λ c. ap (λ x. x c) f ∙ a.began c;
    stands = λ c n l m. subst (λ x. T (is_some (x c n))) (sym k) (a.stands c n (subst (λ x. x c < n) f l) (subst (λ x. n ≤ x c) b m));
    silent = subst (λ ns. Each (λ m. IsNoBye m.1) ns) (sym p) a.silent;
  }

  -- a clerk's step
  doing-agrees : (g : System) (c b : ℕ) (d : Doing) (γ : Ghost) → ((e : ℕ) → g.first_boot e ≡ first e) → Each (λ m. IsNoBye m.1) g.pool
      → ((e n : ℕ) → ((e == c) && (n == b)) ≡ false → g.first_boot e < n → n ≤ g.boots e → T (is_some (g.clerks e n))) → Each IsOwn d.outs → Q (doing_in c b d γ g)
  doing-agrees g c b d γ f p s o = record {
    began = f;
    stands = λ e n l m. go e n l m ((e == c) && (n == b)) refl;
    silent = each-more (λ m. IsNoBye m.1) g.pool (sends c d.outs) p (own-silent c d.outs o);
  }
    where
      go : (e n : ℕ) → g.first_boot e < n → n ≤ g.boots e → (z : Bool) → ((e == c) && (n == b)) ≡ z → T (is_some (elim z as (λ y. Option Clerk) [ true ↦ Some d.clerk | false ↦ g.clerks e n ]))
      go e n l m true q = tt
      go e n l m false q = s e n q l m

  step-agrees : (g : System) (c b : ℕ) (d : Doing) (γ : Ghost) → Each IsOwn d.outs → Q g → Q (doing_in c b d γ g)
  step-agrees g c b d γ o a = doing-agrees g c b d γ a.began a.silent (λ e n q l m. a.stands e n l m) o

  -- a start: it's the one that wasn't there
  start-agrees : (g h : System) (c : ℕ) (d : Doing) (γ : Ghost) → h.first_boot ≡ g.first_boot → h.boots ≡ (clerk_begun c g).boots → h.clerks ≡ g.clerks → h.pool ≡ g.pool → Each IsOwn d.outs → Q g → Q (doing_in c (g.boots c + 1) d γ h)
  start-agrees g h c d γ f b k p o a = doing-agrees h c (g.boots c + 1) d γ (λ e. ap (λ x. x e) f ∙ a.began e) (subst (λ ns. Each (λ m. IsNoBye m.1) ns) (sym p) a.silent)
      (λ e n q l m. subst (λ x. T (is_some (x e n))) (sym k) (a.stands e n (subst (λ x. x e < n) f l) (within e n (e == c) refl q (subst (λ x. n ≤ x e) b m)))) o
    where
      less : (n m : ℕ) → n ≤ m + 1 → (n == m + 1) ≡ false → n ≤ m
      less n m p q = grind arith

      within : (e n : ℕ) (z : Bool) → (e == c) ≡ z → ((e == c) && (n == g.boots c + 1)) ≡ false → n ≤ (clerk_begun c g).boots e → n ≤ g.boots e
      within e n false r q m = subst (λ z. n ≤ elim z as (λ y. ℕ) [ true ↦ g.boots c + 1 | false ↦ g.boots e ]) r m
      within e n true r q m = subst (λ x. n ≤ g.boots x) (sym (equal e c r)) (less n (g.boots c) (subst (λ z. n ≤ elim z as (λ y. ℕ) [ true ↦ g.boots c + 1 | false ↦ g.boots e ]) r m) (sym (ap (λ z. z && (n == g.boots c + 1)) r) ∙ q))

  -- a call that begins
  record SameStarts (g h : System) : Type 0 where
    first_boot : h.first_boot ≡ g.first_boot
    boots : h.boots ≡ g.boots
    clerks : h.clerks ≡ g.clerks
    pool : h.pool ≡ g.pool

  in-call-same : (g : System) (c l : ℕ) (cl : Call) (k : Clerk) → SameStarts g (in_call c l cl k g)
  in-call-same g c l cl k = go (list_any (is_answer_to (k.calls + 1)) (begin cl k).outs)
    where
      go : (z : Bool) → SameStarts g (waiting c l cl z (called c (k.calls + 1) l cl g))
      go true = record { first_boot = refl; boots = refl; clerks = refl; pool = refl }
      go false = record { first_boot = refl; boots = refl; clerks = refl; pool = refl }

  calls : (g : System) (c b : ℕ) (k : Clerk) (l : ℕ) (cl : Call) → Q g → (γ : Ghost) → Q (doing_in c b (begin cl k) γ (in_call c l cl k g))
  calls g c b k l cl a γ = let s = in-call-same g c l cl k in step-agrees (in_call c l cl k g) c b (begin cl k) γ (begin-own cl k) (same-agree g (in_call c l cl k g) s.first_boot s.boots s.clerks s.pool a)

  starts : (g : System) (c : ℕ) (l : ℕ) (cl : Call) → Q g → let d = start c (g.boots c + 1) in (γ : Ghost) → Q (doing_in c (g.boots c + 1) (calling cl d.outs d.clerk) γ (in_call c l cl d.clerk (clerk_begun c g)))
  starts g c l cl a γ =
      let d = start c (g.boots c + 1) in
      let s = in-call-same (clerk_begun c g) c l cl d.clerk in
      start-agrees g (in_call c l cl d.clerk (clerk_begun c g)) c (calling cl d.outs d.clerk) γ s.first_boot s.boots s.clerks s.pool
      (each-more IsOwn d.outs (begin cl d.clerk).outs (start-own c (g.boots c + 1)) (begin-own cl d.clerk)) a

  pub steps-stay : (g : System) → Q g → StepsStay first g
  steps-stay g a = record {
    takes = λ c m v γ. sends-agree g (serving_in (take c m v) γ g) refl refl refl (take c m v).sent refl (take-right c m v) a;
    ends = λ c v γ. sends-agree g (serving_in (end c v) γ g) refl refl refl (end c v).sent refl (end-right c v) a;
    messages = λ c b m k γ. step-agrees g c b (take_message m k) γ (take-own m k) a;
    pushes = λ c b n k γ. step-agrees g c b (push n k) γ (push-own n k) a;
    resends = λ c b k γ. step-agrees g c b (resend k) γ (resend-own k) a;
    calls = λ c b l cl k γ. calls g c b k l cl a γ;
    starts = λ c l cl γ. starts g c l cl a γ;
    others = λ h f b k p. same-agree g h f b k p a;
  }

  -- All steps, beside other facts.
  module _ (F : System → Type 0) (keep : StepsKeep F) (rest : RestsKeep F) where
    abbrev Both : System → Type 0
    Both g = F g × Q g

    served : (g : System) (t : Serving) → Each (λ m. IsNoBye m.1) t.sent → Q g → IsServed F g t → IsServed Both g t
    served g t s a (inl x) = inl x
    served g t s a (inr (γ, u, f)) = inr (γ, u, (f, sends-agree g (serving_in t γ g) refl refl refl t.sent refl s a))

    done : (g h : System) (c b : ℕ) (d : Doing) → ((γ : Ghost) → Q (doing_in c b d γ h)) → StepIsDone F h c b d → StepIsDone Both h c b d
    done g h c b d a (inl x) = inl x
    done g h c b d a (inr (γ, u, f)) = inr (γ, u, (f, a γ))

    agrees : (g : System) → Both g → AllAgree g × DoubtAgrees g
    agrees g h = (keep.agrees g h.0, rest.in_doubt g h.0)

    stops : (g : System) (v : Server) → Both g → g.server ≡ Some v → Both (stopped g)
    stops g v h up = (keep.stops g v h.0 up, same-agree g (stopped g) refl refl refl refl h.1)

    pub asks-keep : StepsKeep Both
    asks-keep = record {
      agrees = λ g h. keep.agrees g h.0;
      takes = λ g v h up c m p. served g (take c m v) (take-right c m v) h.1 (keep.takes g v h.0 up c m p);
      ends = λ g v h up c. served g (end c v) (end-right c v) h.1 (keep.ends g v h.0 up c);
      stops = stops;
      doubts = doubts-hold Both agrees stops (λ g v h up r f all. (rest.doubts g v h.0 up r f all, same-agree g (doubted g r) refl refl refl refl h.1));
      restarts = restarts-hold Both agrees (λ g h. (rest.lines g h.0, same-agree g (lined g Stopped) refl refl refl refl h.1))
          (λ g h down r q m all. (rest.finds g h.0 down r q m all, same-agree g (with_found g r) refl refl refl refl h.1))
          (λ g h down q e all. (
            rest.starts g h.0 down q e all,
            sends-agree g (started_in g (server.start (record (g.durable) { epoch = e }))) refl refl refl (server.start (record (g.durable) { epoch = e })).sent refl (start-right (record (g.durable) { epoch = e })) h.1,
          ));
      messages = λ g c b k h run is m p. done g g c b (take_message m k) (λ γ. step-agrees g c b (take_message m k) γ (take-own m k) h.1) (keep.messages g c b k h.0 run is m p);
      pushes = λ g c b k h run is n. done g g c b (push n k) (λ γ. step-agrees g c b (push n k) γ (push-own n k) h.1) (keep.pushes g c b k h.0 run is n);
      resends = λ g c b k h run is. done g g c b (resend k) (λ γ. step-agrees g c b (resend k) γ (resend-own k) h.1) (keep.resends g c b k h.0 run is);
      calls = λ g c b k h run is l cl new bounded. done g (in_call c l cl k g) c b (begin cl k) (calls g c b k l cl h.1) (keep.calls g c b k h.0 run is l cl new bounded);
      starts = λ g c h idle in_range l cl new bounded unspent. done g (in_call c l cl (start c (g.boots c + 1)).clerk (clerk_begun c g)) c (g.boots c + 1) (calling cl (start c (g.boots c + 1)).outs (start c (g.boots c + 1)).clerk)
          (starts g c l cl h.1) (keep.starts g c h.0 idle in_range l cl new bounded unspent);
      crashes = λ g h c. (keep.crashes g h.0 c, same-agree g (crashed g c) refl refl refl refl h.1);
      nothing = λ g h. (keep.nothing g h.0, same-agree g (lined g Nothing) refl refl refl refl h.1);
      unsettled = λ g h. (keep.unsettled g h.0, same-agree g (lined g Unsettled) refl refl refl refl h.1);
    }
