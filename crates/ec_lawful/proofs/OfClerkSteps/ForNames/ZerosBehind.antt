-- The id 0 stays out behind records, changes of a start and steps of a clerk.
use Rattle.std.proofs.Common.{◌≡◌, refl, sym, ap, subst, ◌∙◌, inl, inr, arith, ◌≤◌, ◌+◌, ℕ, suc, zero, Bool, true, false, ◌==◌, ◌&&◌, T, List, [], Option, Some, None}
use Rattle.std.specs.Prelude.{not}
use Rattle.ec_volume.specs.Update.{has_operand}
use Rattle.ec_volume.specs.declared.image.Image.TheVariants.{Gone}
use Rattle.ec_history.specs.History.{Op}
use Rattle.ec_sessions.specs.declared.slot.Slot.{Slot}
use Rattle.ec_wire.specs.declared.msg.Msg.{Msg}
use Rattle.ec_durable.specs.declared.state.Durable.{Durable}
use Rattle.ec_durable.specs.declared.record.Record.{Record}
use Rattle.ec_durable.specs.declared.record.Record.TheVariants as record_of
use Rattle.ec_protocol.specs.Clerk.{Doing}
use Rattle.ec_protocol.specs.declared.clerk.Clerk.{Clerk}
use Rattle.ec_protocol.specs.declared.server.Server.{Server}
use Rattle.ec_coherence.specs.System.{System, Ghost, is_of, with_start}
use Rattle.ec_coherence.specs.Steps.{Committed, doing_in}
use Rattle.ec_coherence.proofs.ForServer.Lists.{each-fewer}
use Rattle.ec_coherence.proofs.ForServer.Tables.{by-session, same_some}
use Rattle.ec_coherence.specs.Ends.{show_end}
use Rattle.ec_lawful.specs.OfClerkSteps.Zeros.{HasNoZero, LeaveOut, ZerosAgree}
use Rattle.ec_lawful.specs.OfClerkSteps.Frames.{RecordMakes, system_behind}
use Rattle.ec_lawful.proofs.OfClerkSteps.ForJoins.Steps.{batch-field, end-own, epoch-own, ids-are, open-is}
use Rattle.ec_lawful.specs.OfClerkSteps.ZeroLaws.{SameZeros}
use Rattle.ec_base.proofs.Numbers.{same-self as same}
use Rattle.ec_base.proofs.Options.{none_some}

abbrev Out : Op → Type 0
Out o = T (not (has_operand 0 o.update))

module _ (g : System) (z : ZerosAgree g) (d : Durable) (v : Option Server) (p : List (ℕ × Msg)) where
  abbrev Keeps : Ghost → Type 0
  Keeps γ = ZerosAgree (system_behind g d v p γ)

  -- where the next id is no less, and the ghosts stay
  quiet : suc zero ≤ d.next_id → Keeps g.ghost
  quiet n = record { origin = z.origin; kept = z.kept; frozen = z.frozen; next = n; first = z.first; clerks = z.clerks }

  next-same : d.next_id ≡ g.durable.next_id → suc zero ≤ d.next_id
  next-same e = subst (λ n. suc zero ≤ n) (sym e) z.next

  -- a session ends
  ends : (c : ℕ) (sl : Slot) → suc zero ≤ d.next_id → Keeps (show_end g c sl)
  ends c sl n = record {
    origin = z.origin;
    kept = each-fewer Out (λ k. not (is_of (g.ghost.owner sl.session) k && not (g.ghost.is_durable k))) g.ghost.kept z.kept;
    frozen = λ s ks e. by-session sl.session s (λ s. (show_end g c sl).frozen s ≡ Some ks → LeaveOut 0 ks)
        (λ e. subst (LeaveOut 0) (same_some (sym (ap (λ y. elim y as (λ x. Option (List Op)) [ true ↦ Some g.ghost.kept | false ↦ g.ghost.frozen sl.session ]) (same sl.session)) ∙ e)) z.kept)
        (λ m e. z.frozen s ks (sym (ap (λ y. elim y as (λ x. Option (List Op)) [ true ↦ Some g.ghost.kept | false ↦ g.ghost.frozen s ]) m) ∙ e)) e;
    next = n;
    first = z.first;
    clerks = z.clerks;
  }

  -- ids are given, from the next one on
  gives : (s first : ℕ) → first ≡ g.durable.next_id → suc zero ≤ d.next_id → Keeps (Rattle.ec_coherence.specs.Steps.give_ids s first g.ghost)
  gives s first e n = record {
    origin = z.origin;
    kept = z.kept;
    frozen = z.frozen;
    next = n;
    first = λ t. by-session s t (λ t. suc zero ≤ (Rattle.ec_coherence.specs.Steps.give_ids s first g.ghost).grants t → suc zero ≤ (Rattle.ec_coherence.specs.Steps.give_ids s first g.ghost).first t)
        (λ m. subst (λ x. suc zero ≤ x) (sym (ap (λ y. elim y as (λ x. ℕ) [ true ↦ first | false ↦ g.ghost.first s ]) (same s) ∙ e)) z.next)
        (λ m q. subst (λ x. suc zero ≤ x) (sym (ap (λ y. elim y as (λ x. ℕ) [ true ↦ first | false ↦ g.ghost.first t ]) m))
        (z.first t (subst (λ x. suc zero ≤ x) (ap (λ y. elim y as (λ x. ℕ) [ true ↦ g.ghost.grants s + 1 | false ↦ g.ghost.grants t ]) m) q)));
    clerks = z.clerks;
  }

  pub records-keep : (r : Option Record) (γ : Ghost) → Committed g.durable r d → RecordMakes g r γ → Keeps γ
  records-keep None γ e m = subst Keeps (sym m) (quiet (next-same (ap (λ x. x.next_id) e)))
  records-keep (Some (record_of.Batch c s b ops)) γ steps m = subst Keeps (sym m.4)
      (let n = next-same (batch-field (λ x. x.next_id) (λ c u d. refl) (λ c o d. refl) c s b ops g.durable d steps) in record { origin = z.origin; kept = z.kept; frozen = z.frozen; next = n; first = z.first; clerks = z.clerks })
  records-keep (Some (record_of.Open c age s)) γ steps (inl m) = subst Keeps (sym m.1)
      (let n = next-same (ap (λ x. x.next_id) (open-is c age s g.durable d steps)) in record { origin = z.origin; kept = z.kept; frozen = z.frozen; next = n; first = z.first; clerks = z.clerks })
  records-keep (Some (record_of.Open c age s)) γ steps (inr m) = subst Keeps (sym m.3)
      (let q = ends c m.0 (next-same (ap (λ x. x.next_id) (open-is c age s g.durable d steps))) in record { origin = q.origin; kept = q.kept; frozen = q.frozen; next = q.next; first = q.first; clerks = q.clerks })
  records-keep (Some (record_of.End c s)) γ steps m = subst Keeps (sym m.4) (ends c m.0 (next-same (ap (λ x. x.next_id) (end-own c s g.durable d steps))))
  records-keep (Some (record_of.Ids c s got first)) γ steps m = subst Keeps (sym m) (let q = ids-are c s got first g.durable d steps in gives s first q.0 (subst (λ n. suc zero ≤ n) (sym (ap (λ x. x.next_id) q.1)) (omega arith)))
  records-keep (Some (record_of.Epoch n)) γ steps m = subst Keeps (sym m) (quiet (next-same (ap (λ x. x.next_id) (epoch-own n g.durable d steps))))

-- What it reads is the same.
module _ (g h : System) (e : SameZeros g h) where
  kept-still : ZerosAgree g → ((c b : ℕ) (k : Clerk) → h.clerks c b ≡ Some k → HasNoZero k) → ZerosAgree h
  kept-still z clerks = record {
    origin = ap (λ x. x 0) e.origin ∙ z.origin;
    kept = subst (LeaveOut 0) (sym e.kept) z.kept;
    frozen = λ s ks q. z.frozen s ks (ap (λ x. x s) (sym e.frozen) ∙ q);
    next = subst (λ n. suc zero ≤ n) (sym e.next_id) z.next;
    first = λ s q. subst (λ x. suc zero ≤ x s) (sym e.first) (z.first s (subst (λ x. suc zero ≤ x s) e.grants q));
    clerks = clerks;
  }

  pub same-keeps : h.clerks ≡ g.clerks → ZerosAgree g → ZerosAgree h
  same-keeps same z = kept-still z (λ c b k p. z.clerks c b k (ap (λ x. x c b) (sym same) ∙ p))

  pub changed-keeps : (c b : ℕ) (now : Clerk) → h.clerks ≡ with_start c b now g.clerks → HasNoZero now → ZerosAgree g → ZerosAgree h
  changed-keeps c b now change none z = kept-still z (λ f a k p. go f a k ((f == c) && (a == b)) (ap (λ x. x f a) (sym change) ∙ p))
    where
      go : (f a : ℕ) (k : Clerk) (y : Bool) → elim y as (λ x. Option Clerk) [ true ↦ Some now | false ↦ g.clerks f a ] ≡ Some k → HasNoZero k
      go f a k true p = subst HasNoZero (same_some p) none
      go f a k false p = z.clerks f a k p

-- A clerk's step.
pub steps-keep : (g : System) (c b : ℕ) (d e : Doing) (γ δ : Ghost) → SameZeros (doing_in c b d γ g) (doing_in c b e δ g) → HasNoZero e.clerk → ZerosAgree (doing_in c b d γ g) → ZerosAgree (doing_in c b e δ g)
steps-keep g c b d e γ δ same none z = kept-still (doing_in c b d γ g) (doing_in c b e δ g) same z (λ f a k p. go f a k ((f == c) && (a == b)) refl p)
  where
    go : (f a : ℕ) (k : Clerk) (y : Bool) → ((f == c) && (a == b)) ≡ y → elim y as (λ x. Option Clerk) [ true ↦ Some e.clerk | false ↦ g.clerks f a ] ≡ Some k → HasNoZero k
    go f a k true n p = subst HasNoZero (same_some p) none
    go f a k false n p = z.clerks f a k (ap (λ x. elim x as (λ x. Option Clerk) [ true ↦ Some d.clerk | false ↦ g.clerks f a ]) n ∙ p)

pub opening-keeps : (g : System) → g.origin 0 ≡ Gone → g.ghost.kept ≡ [] → ((s : ℕ) → (g.ghost.frozen s ≡ None)) → suc zero ≤ g.durable.next_id → ((s : ℕ) → g.ghost.grants s ≡ 0) → ((c b : ℕ) → g.clerks c b ≡ None) → ZerosAgree g
opening-keeps g origin kept frozen next grants clerks = record {
  origin = origin;
  kept = subst (LeaveOut 0) (sym kept) tt;
  frozen = λ s ks e. absurd (none_some (sym (frozen s) ∙ e));
  next = next;
  first = λ s q. absurd (no (g.ghost.grants s) (grants s) q);
  clerks = λ c b k e. absurd (none_some (sym (clerks c b) ∙ e));
}
  where
    no : (n : ℕ) → n ≡ 0 → suc zero ≤ n → ⊥
    no n e l = absurd (omega (arith, e, l))
