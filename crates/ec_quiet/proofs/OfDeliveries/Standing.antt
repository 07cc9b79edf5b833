-- A step of a holder, with one message, leaves the line's clerk and its mail.
use Rattle.std.proofs.Common.{◌≡◌, refl, sym, ap, ◌∙◌, subst, arith, ℕ, false, not, ◌&&◌, cond, List, [], ◌∷◌, ◌++◌, inl, inr}
use Rattle.std.specs.Prelude.{None, Some, ◌==◌, drop, Contains}
use Rattle.std.proofs.lemmas.List.Elements.{Contains-append_left}
use Rattle.ec_base.specs.Tables.{at, put}
use Rattle.ec_base.specs.declared.ids.Hold.{Hold}
use Rattle.ec_base.specs.declared.ids.Hold.TheVariants.{Free}
use Rattle.ec_history.specs.History.{Each}
use Rattle.ec_sessions.specs.declared.slot.Slot.{Slot}
use Rattle.ec_sessions.specs.OfTokens.Tokens.{Holder}
use Rattle.ec_sessions.specs.OfRecall.Due.{told_of}
use Rattle.ec_wire.specs.declared.msg.Msg.{Msg}
use Rattle.ec_wire.specs.declared.msg.Msg.TheVariants.{Back}
use Rattle.ec_protocol.specs.declared.clerk.Clerk.{Clerk}
use Rattle.ec_quiet.specs.Phases.{IsGivenBack, IsLeaving, IsNoted, IsWanting, IsWorking, backs, is_back, is_back_message, main}
use Rattle.ec_quiet.specs.Scenes.{Mail, Scene}
use Rattle.ec_quiet.specs.Works.{Work}
use Rattle.ec_quiet.proofs.Beside.{filter-both, other-at}
use Rattle.ec_quiet.proofs.Taking.{stays-sent}
use Rattle.ec_base.proofs.Lists.{no-more}

module _ (j : Work) (sc : Scene) (c : ℕ) (other : (c == j.clerk) ≡ false) (m : Msg) (front : is_back_message m ≡ false) (rest : Mail) (head : sc.mail ≡ (c, m) ∷ rest) (k : Clerk) (n : Msg) where
  abbrev pub now : Scene
  now = record sc { clerks = put c k sc.clerks; mail = rest ++ (c, n) ∷ [] }

  -- no message of another clerk is one of the line's clerk
  not-own : (o : Msg) → is_back j (c, o) ≡ false
  not-own o = ap (λ b. b && is_back_message o) other

  one-main : main j ((c, n) ∷ []) ≡ (c, n) ∷ []
  one-main = ap (λ b. cond (not b) ((c, n) ∷ []) []) (not-own n)

  no-backs : backs j ((c, n) ∷ []) ≡ []
  no-backs = ap (λ b. cond b ((c, n) ∷ []) []) (not-own n)

  pub main-now : main j now.mail ≡ main j rest ++ (c, n) ∷ []
  main-now = filter-both (λ z. not (is_back j z)) rest ((c, n) ∷ []) ∙ ap (λ l. main j rest ++ l) one-main

  pub main-before : main j sc.mail ≡ (c, m) ∷ main j rest
  main-before = ap (main j) head ∙ ap (λ b. cond (not b) ((c, m) ∷ main j rest) (main j rest)) (not-own m)

  pub main-rest : (ms : Mail) → main j sc.mail ≡ (c, m) ∷ ms → main j rest ≡ ms
  main-rest ms e = ap (λ l. drop 1 l) (sym main-before ∙ e)

  pub backs-same : backs j now.mail ≡ backs j sc.mail
  backs-same = filter-both (is_back j) rest ((c, n) ∷ []) ∙ ap (λ l. backs j rest ++ l) no-backs ∙ no-more (backs j rest) ∙ sym (ap (backs j) head ∙ ap (λ b. cond b ((c, m) ∷ backs j rest) (backs j rest)) (not-own m))

  turned : (j.clerk == c) ≡ false
  turned = grind (arith, other)

  pub own-there : (a : Clerk) → at j.clerk sc.clerks ≡ Some a → at j.clerk now.clerks ≡ Some a
  own-there a e = other-at c k sc.clerks j.clerk turned ∙ e

  leaving : (a : Clerk) (y : ℕ) → IsLeaving j sc a y → IsLeaving j now a y
  leaving a y l = record {
    number = l.number;
    hold = l.hold;
    sent = Contains-append_left rest ((c, n) ∷ []) (j.clerk, Back j.session sc.server.durable.epoch y l.number Free)
        (stays-sent (c, m) (j.clerk, Back j.session sc.server.durable.epoch y l.number Free) rest front refl (subst (λ ms. Contains ms (j.clerk, Back j.session sc.server.durable.epoch y l.number Free)) head l.sent));
    recorded = l.recorded;
    gone = l.gone;
    old = l.old;
  }

  pub working-stays : (sl : Slot) (a : Clerk) → IsWorking [] j sc sl a → IsWorking [] j now sl a
  working-stays sl a w = record {
    there = own-there a w.there;
    inside = w.inside;
    session = w.session;
    recalls = w.recalls;
    limits = w.limits;
    same = λ y t. elim (w.same y t) [ inl s ↦ inl s | inr l ↦ inr (leaving a y l) ];
    given_back = subst (Each {A = ℕ × Msg} (λ z. IsGivenBack j sc.server.durable.epoch a z.1)) (sym backs-same) w.given_back;
  }

  pub wanting-stays : (x : ℕ) (h : Hold) (l : ℕ) → IsWanting [] j sc x h l → IsWanting [] j now x h l
  wanting-stays x h l w = record {
    slot = w.slot;
    clerk = w.clerk;
    working = working-stays w.slot w.clerk w.working;
    task = w.task;
    asking = w.asking;
    batches = w.batches;
    window = w.window;
    grants = w.grants;
    aged = w.aged;
    touched = w.touched;
    number = w.number;
    below = w.below;
    earlier = w.earlier;
    wants = w.wants;
    answered = w.answered;
  }

  pub noted-stays : (x : ℕ) (h : Hold) (cs ds : List Holder) → cs ≡ ds → IsNoted j sc x h cs → IsNoted j now x h ds
  noted-stays x h cs ds e i = record {
    last = i.last;
    wanting = wanting-stays x h i.last i.wanting;
    recalls = i.recalls ∙ ap (λ gs. record { session = j.session; obj = x; hold = h; told = Rattle.std.specs.Prelude.map told_of gs } ∷ []) e;
    conflicts = i.conflicts ∙ e;
    some = λ f. i.some (e ∙ f);
  }
