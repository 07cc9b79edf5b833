-- The facts on ids behind a record, and wherever what they read is the same.
use Rattle.std.proofs.Common.{◌≡◌, refl, sym, ap, subst, inl, inr, ◌⊎◌, arith, ◌≤◌, ◌+◌, ℕ, zero, suc, T, Bool, true, false, not, ◌==◌, cond, List, [], ◌∷◌, Option, Some, None}
use Rattle.std.specs.Prelude.{nat_le, nat_lt}
use Rattle.ec_volume.specs.Update.{has_operand, member, operands, root}
use Rattle.ec_volume.specs.Image.{entries_of, is_gone}
use Rattle.ec_volume.specs.Entries.{entry}
use Rattle.ec_volume.specs.declared.image.Image.TheVariants.{Gone}
use Rattle.ec_history.specs.History.{Each, Op}
use Rattle.ec_wire.specs.declared.msg.Msg.{Msg}
use Rattle.ec_durable.specs.declared.state.Durable.{Durable}
use Rattle.ec_protocol.specs.declared.clerk.Clerk.{Clerk}
use Rattle.ec_protocol.specs.declared.server.Server.{Server}
use Rattle.ec_coherence.specs.System.{System, Ghost, clerk_in, seen_ops}
use Rattle.ec_coherence.specs.Tokens.{Names, in_sixteen, is_hidden, is_untaken, side, side_in, view}
use Rattle.ec_coherence.proofs.ForBatches.Carried.{gone-is}
use Rattle.ec_coherence.proofs.ForServer.Lists.{each-at}
use Rattle.ec_coherence.proofs.ForServer.Tables.{differs, same_some}
use Rattle.ec_coherence.specs.CommitLaws.{AllAgree}
use Rattle.ec_lawful.specs.OfClerkSteps.Frees.{FreesAgree}
use Rattle.ec_lawful.specs.OfClerkSteps.Zeros.{LeaveOut, ZerosAgree}
use Rattle.ec_lawful.specs.OfClerkSteps.Names.{AreOnNamed, NamesAgree}
use Rattle.ec_lawful.specs.OfClerkSteps.Frames.{system_behind}
use Rattle.ec_lawful.proofs.OfClerkSteps.ForNames.Serving.{still-in}
use Rattle.ec_lawful.specs.OfClerkSteps.Follows.{GhostsFollow}
use Rattle.ec_lawful.proofs.ForWhole.Follows.{Moves, kept-each}
use Rattle.ec_base.proofs.Bools.{left as and_first, right as and_next}
use Rattle.ec_base.proofs.Options.{none_some}
use Rattle.ec_base.proofs.Numbers.{equal}

leb-to : (a x : ℕ) → T (nat_le a x) → a ≤ x
leb-to a x t = grind arith

le-of : (a b x : ℕ) → a ≡ b → a ≤ x → b ≤ x
le-of a b x e p = omega (arith, e, p)

-- an entry that is found is one of them
found-each : (P : ℕ → Type 0) (es : List (List ℕ × ℕ)) (n : List ℕ) (x : ℕ) → Each (λ e. P e.1) es → entry es n ≡ Some x → P x
found-each P [] n x a q = absurd (none_some q)
found-each P (e ∷ es) n x a q = go _ q (found-each P es n x a.1)
  where
    go : (b : Bool) → cond b (Some e.1) (entry es n) ≡ Some x → (entry es n ≡ Some x → P x) → P x
    go true q more = subst P (same_some q) a.0
    go false q more = more q

module _ (g : System) (all : AllAgree g) (d : Durable) (v : Option Server) (p : List (ℕ × Msg)) (γ : Ghost) (next : g.durable.next_id ≤ d.next_id) (m : Moves g γ) where
  abbrev h : System
  h = system_behind g d v p γ

  -- no id is 0
  pub zeros-behind : ZerosAgree g → ZerosAgree h
  zeros-behind z = record {
    origin = z.origin;
    kept = kept-each g γ m (λ o. T (not (has_operand 0 o.update))) z.kept;
    frozen = λ s ks q. elim (m.frozen s ks q) [ inl f ↦ z.frozen s ks f | inr e ↦ subst (LeaveOut 0) (sym e.0) z.kept ];
    next = omega (arith, z.next, next);
    first = λ s q. elim (m.given s) [ inl e ↦ from-old s e.0 e.1 q | inr e ↦ from-next s e ];
    clerks = z.clerks;
  }
    where
      from-old : (s : ℕ) → γ.grants s ≡ g.ghost.grants s → γ.first s ≡ g.ghost.first s → suc zero ≤ γ.grants s → suc zero ≤ γ.first s
      from-old s e f q = omega (arith, z.first s (omega (arith, q, e)), f)

      from-next : (s : ℕ) → γ.first s ≡ g.durable.next_id → suc zero ≤ γ.first s
      from-next s e = omega (arith, z.next, e)

  -- what is named stays so
  pub names-behind : NamesAgree g → GhostsFollow g γ
  names-behind na = record {
    kept = kept-each g γ m (λ o. Each (Names (view g)) (operands o.update)) na.kept;
    frozen = λ s ks q. elim (m.frozen s ks q) [ inl f ↦ na.frozen s ks f | inr e ↦ subst (AreOnNamed g) (sym e.0) na.kept ];
    given = λ s. elim (m.given s) [ inl e ↦ inl e | inr e ↦ inr (omega (arith, e)) ];
  }

  -- ids at or above the next one are of no object and of no operation
  module _ (na : NamesAgree g) where
    new-leaves : (x : ℕ) → g.durable.next_id ≤ x → (ks : List Op) → AreOnNamed g ks → LeaveOut x ks
    new-leaves x le [] n = tt
    new-leaves x le (k ∷ ks) n = (off-from (has_operand x k.update) (λ t. above (operands k.update) n.0 t), new-leaves x le ks n.1)
      where
        off-from : (b : Bool) → (T b → ⊥) → T (not b)
        off-from true f = f tt
        off-from false f = tt

        above : (xs : List ℕ) → Each (Names (view g)) xs → T (member x xs) → ⊥
        above xs n t = omega (arith, le, (each-at (Names (view g)) x xs n t).0)

    new-gone : (x : ℕ) → g.durable.next_id ≤ x → g.origin x ≡ Gone
    new-gone x le = go (is_gone (g.origin x)) refl
      where
        live : T (not (is_gone (g.origin x))) → ⊥
        live t = by (x == root) refl
          where
            by : (b : Bool) → (x == root) ≡ b → ⊥
            by true q = omega (arith, le, na.root.0, equal x root q)
            by false q =
                let n = (all.0).images.origin.named x t (differs x root q) in
                omega (arith, le, (found-each (Names (view g)) (entries_of (g.origin n.0)) n.1 x (na.origin n.0) n.2).0)

        go : (b : Bool) → is_gone (g.origin x) ≡ b → g.origin x ≡ Gone
        go true q = gone-is (g.origin x) q
        go false q = absurd (live (subst (λ b. T (not b)) (sym q) tt))

    -- what a session sees is that, or was frozen
    seen-behind : (s : ℕ) (P : Op → Type 0) → Each P (seen_ops (g.ghost.frozen s) g.ghost.kept) → Each P (seen_ops (γ.frozen s) γ.kept)
    seen-behind s P e = go (γ.frozen s) refl
      where
        was : (o : Option (List Op)) → g.ghost.frozen s ≡ o → Each P (seen_ops o g.ghost.kept)
        was o q = subst (λ z. Each P (seen_ops z g.ghost.kept)) q e

        go : (o : Option (List Op)) → γ.frozen s ≡ o → Each P (seen_ops o γ.kept)
        go None q = kept-each g γ m P (was None (m.unfrozen s q))
        go (Some ks) q = elim (m.frozen s ks q) [ inl f ↦ was (Some ks) f | inr f ↦ subst (Each P) (sym f.0) (was None f.1) ]

    new-seen : (x : ℕ) → g.durable.next_id ≤ x → (s : ℕ) → LeaveOut x (seen_ops (γ.frozen s) γ.kept)
    new-seen x le s = seen-behind s (λ o. T (not (has_operand x o.update))) (old (g.ghost.frozen s) refl)
      where
        old : (o : Option (List Op)) → g.ghost.frozen s ≡ o → LeaveOut x (seen_ops o g.ghost.kept)
        old None q = new-leaves x le g.ghost.kept na.kept
        old (Some ks) q = new-leaves x le ks (na.frozen s ks q)

    -- the ids in store are of nothing that is seen
    pub frees-behind : FreesAgree g → FreesAgree h
    frees-behind f = record { unused = unused; once = λ s k q. f.once s k (still-in g (all.0).sessions (γ.owner s) s k q) }
      where
        both : (s x : ℕ) → LeaveOut x (seen_ops (g.ghost.frozen s) g.ghost.kept) × (g.origin x ≡ Gone) → LeaveOut x (seen_ops (γ.frozen s) γ.kept) × (g.origin x ≡ Gone)
        both s x p = (seen-behind s (λ o. T (not (has_operand x o.update))) p.0, p.1)

        unused : (s x : ℕ) (k : Clerk) → clerk_in h s ≡ Some k → T (member x k.ids) ⊎ T (is_hidden (view h) s x) → LeaveOut x (seen_ops (γ.frozen s) γ.kept) × (g.origin x ≡ Gone)
        unused s x k q (inl t) = both s x (f.unused s x k (still-in g (all.0).sessions (γ.owner s) s k q) (inl t))
        unused s x k q (inr t) = elim (m.given s) [
          | inl e ↦ both s x (f.unused s x k was (inr (subst T (sym (ap (λ z. is_untaken (g.ghost.grants s) (g.ghost.first s) (side_in z) x) was)) (subst (λ n. T (is_untaken n (g.ghost.first s) (Some (side k)) x)) e.0 (subst (λ n. T (is_untaken (γ.grants s) n (Some (side k)) x)) e.1 now)))))
          | inr e ↦ let le = from (γ.first s) g.durable.next_id e (and_next (k.got + 1 == γ.grants s) (in_sixteen (γ.first s) x) now) in (new-seen x le s, new-gone x le)
        ]
          where
            was : clerk_in g s ≡ Some k
            was = still-in g (all.0).sessions (γ.owner s) s k q

            now : T (is_untaken (γ.grants s) (γ.first s) (Some (side k)) x)
            now = subst (λ z. T (is_untaken (γ.grants s) (γ.first s) (side_in z) x)) q t

            from : (a b : ℕ) → a ≡ b → T (in_sixteen a x) → b ≤ x
            from a b e t = le-of a b x e (leb-to a x (and_first (nat_le a x) (nat_lt x (a + 16)) t))
