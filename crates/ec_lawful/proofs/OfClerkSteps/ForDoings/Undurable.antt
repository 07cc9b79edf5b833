-- What is kept of an open session and isn't durable stands in its clerk's log as undurable.
use Rattle.std.proofs.Common.{◌≡◌, refl, sym, ap, subst, ◌∙◌, inl, inr, ℕ, Bool, true, false, not, cond, T, List, [], ◌∷◌}
use Rattle.std.specs.Prelude.{None, Some, filter}
use Rattle.ec_volume.specs.Update.{has_operand, member, operands}
use Rattle.ec_volume.specs.declared.update.Update.{Update}
use Rattle.ec_history.specs.History.{Each, Op}
use Rattle.ec_order.specs.Order.{Holds, Issued}
use Rattle.ec_machine_laws.proofs.Holding.{holds-kept}
use Rattle.ec_log.specs.Log.{first, first_number, is_asked}
use Rattle.ec_log.specs.declared.state.Asked.TheVariants.{Object}
use Rattle.ec_log.specs.declared.state.LogState.{LogState}
use Rattle.ec_protocol.specs.Clerk.{on_objects}
use Rattle.ec_protocol.specs.declared.clerk.Clerk.{Clerk}
use Rattle.ec_sessions.specs.declared.window.Window.{Window}
use Rattle.ec_coherence.specs.System.{System, clerk_in, is_of, is_open}
use Rattle.ec_coherence.specs.Log.{Knows, LogsAgree, mine, numbered}
use Rattle.ec_coherence.specs.Sessions.{SessionsAgree}
use Rattle.ec_coherence.proofs.ForServer.Lists.{each-both, each-turn, each-whole}
use Rattle.ec_coherence.proofs.ForBatches.OpenSlots.{owner-slot}
use Rattle.ec_coherence.proofs.ForBatches.Ids.{in-back, in-front}
use Rattle.ec_base.proofs.Bools.{not-both as no_both}
use Rattle.ec_coherence.proofs.ForBatches.Batched.{each-held}

module _ (l : LogState) (w : Window) (os : List Op) (durable : Op → Bool) (kn : Knows l w os durable) where
  pub undurable-held : Each (λ o. T (not (durable o)) → Holds l.undurable o.number o.update) os
  undurable-held = each-turn (λ o. Holds (numbered os) o.number o.update × (durable o ≡ kn.durable o.number)) (λ o. T (not (durable o)) → Holds l.undurable o.number o.update) os
      (λ o f n. subst (λ z. Holds z o.number o.update) (sym (kn.rest).rest) (holds-kept (λ x. not (kn.known x.0)) (numbered os) o.number o.update f.0 (unknown o f.1 n)))
      (each-both (λ o. Holds (numbered os) o.number o.update) (λ o. durable o ≡ kn.durable o.number) os (each-held os) kn.agrees)
    where
      off : (b : Bool) → (T b → ⊥) → not b ≡ true
      off true f = absurd (f tt)
      off false f = refl

      unknown : (o : Op) → durable o ≡ kn.durable o.number → T (not (durable o)) → not (kn.known o.number) ≡ true
      unknown o e n = off (kn.known o.number) (λ t. no_both (durable o) (subst T (sym e) (kn.sure o.number t)) n)

module _ (g : System) (sa : SessionsAgree g) (lo : LogsAgree g) (s : ℕ) (k : Clerk) (there : clerk_in g s ≡ Some k) where
  -- an operation of the session that isn't durable
  abbrev pub IsLeft : Op → Type 0
  IsLeft o = T (not (g.ghost.is_durable o)) → T (is_of (g.ghost.owner s) o) → T (is_open g s) → Holds k.log.undurable o.number o.update

  pub left-held : T (is_open g s) → Each (λ o. T (is_of (g.ghost.owner s) o) → T (not (g.ghost.is_durable o)) → Holds k.log.undurable o.number o.update) g.ghost.kept
  left-held is-on =
      let sl = owner-slot g sa s is-on in
      let kn = (lo.logs s sl.0 sl.1 (sl.2).0 (sl.2).1 (sl.2).2 k there).knows in
      each-whole (λ o. T (not (g.ghost.is_durable o)) → Holds k.log.undurable o.number o.update) (is_of (g.ghost.owner s)) g.ghost.kept (undurable-held k.log (sl.1).window (mine g.ghost s) g.ghost.is_durable kn)

-- Where nothing undurable has the object, no such operation has it.

holds-asked : (x : ℕ) (xs : Issued) (n : ℕ) (u : Update) → Holds xs n u → first_number (filter (is_asked (Object x)) xs) ≡ None → has_operand x u ≡ false
holds-asked x [] n u h e = absurd h
holds-asked x (y ∷ xs) n u h e = go (has_operand x y.1) refl h e (λ k q. holds-asked x xs n u k q)
  where
    some : {A : Type 0} (z : A) → Some z ≡ None → ⊥
    some z p = absurd (cc)

    go : (b : Bool) → has_operand x y.1 ≡ b → Holds (y ∷ xs) n u → first_number (cond b (y ∷ filter (is_asked (Object x)) xs) (filter (is_asked (Object x)) xs)) ≡ None
        → (Holds xs n u → first_number (filter (is_asked (Object x)) xs) ≡ None → has_operand x u ≡ false) → has_operand x u ≡ false
    go true p k q f = absurd (some y.0 q)
    go false p (inl k) q f = ap (has_operand x) (sym k.1) ∙ p
    go false p (inr k) q f = f k q

pub settled-apart : (x : ℕ) (l : LogState) (n : ℕ) (u : Update) → Holds l.undurable n u → first (Object x) l ≡ None → has_operand x u ≡ false
settled-apart x l n u h e = holds-asked x l.undurable n u h e

-- the operands of what is undurable are on the objects of the log
pub held-pinned : (xs : Issued) (n : ℕ) (u : Update) → Holds xs n u → (x : ℕ) → T (member x (operands u)) → T (member x (on_objects xs))
held-pinned [] n u h x m = absurd h
held-pinned (y ∷ xs) n u (inl h) x m = in-front x (operands y.1) (on_objects xs) (subst (λ z. T (member x (operands z))) (sym h.1) m)
held-pinned (y ∷ xs) n u (inr h) x m = in-back x (operands y.1) (on_objects xs) (held-pinned xs n u h x m)
