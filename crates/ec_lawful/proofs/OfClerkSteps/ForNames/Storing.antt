-- Ids in store stay apart from all operations, behind a server's steps and a clerk's.
use Rattle.std.proofs.Common.{◌≡◌, refl, sym, ap, subst, ◌∙◌, inl, inr, ◌⊎◌, arith, ◌≤◌, ◌+◌, ℕ, Bool, true, false, not, ◌&&◌, ◌==◌, cond, T, List, [], ◌∷◌}
use Rattle.std.specs.Prelude.{Option, None, Some, filter}
use Rattle.ec_volume.specs.Image.{is_gone}
use Rattle.ec_volume.specs.Update.{effect, has_operand, member, operands}
use Rattle.ec_volume.specs.Volume.{image_after}
use Rattle.ec_volume.specs.declared.image.Image.{Image}
use Rattle.ec_volume.specs.declared.image.Image.TheVariants.{Gone}
use Rattle.ec_history.specs.History.{Each, Op, updates}
use Rattle.ec_durable.specs.declared.state.Durable.{Durable}
use Rattle.ec_wire.specs.declared.msg.Msg.{Msg}
use Rattle.ec_protocol.specs.declared.clerk.Clerk.{Clerk}
use Rattle.ec_protocol.specs.declared.server.Server.{Server}
use Rattle.ec_coherence.specs.System.{System, Ghost, at_session, clerk_in, seen_ops}
use Rattle.ec_coherence.specs.Tokens.{Names, in_sixteen, is_hidden, is_untaken, side, side_in, view}
use Rattle.ec_coherence.specs.Images.{ImagesAgree}
use Rattle.ec_coherence.specs.Sessions.{SessionsAgree}
use Rattle.ec_coherence.proofs.ForBatches.Carried.{gone-is}
use Rattle.ec_coherence.proofs.ForServer.Lists.{each-at, each-fewer, each-turn}
use Rattle.ec_coherence.proofs.ForServer.Tables.{same_some}
use Rattle.ec_lawful.specs.OfClerkSteps.Names.{AreOnNamed, NamesAgree}
use Rattle.ec_lawful.specs.OfClerkSteps.Follows.{AreGiven, GhostsFollow}
use Rattle.ec_lawful.specs.OfClerkSteps.Moves.{AreSameOps, EndsOne, GhostsMove}
use Rattle.ec_lawful.specs.OfClerkSteps.Frees.{FreesAgree}
use Rattle.ec_lawful.specs.OfClerkSteps.Zeros.{LeaveOut}
use Rattle.ec_lawful.proofs.OfClerkSteps.ForNames.Serving.{still-in}
use Rattle.ec_base.proofs.Options.{none_some}
use Rattle.ec_base.proofs.Bools.{no-longer as is-false, is-true}

-- an object that no operation has stays as it was
pub same-image : (x : ℕ) (i : Image) (os : List Op) → LeaveOut x os → image_after x i (updates os) ≡ i
same-image x i [] l = refl
same-image x i (o ∷ os) l = ap (λ z. image_after x z (updates os)) (go (has_operand x o.update) l.0) ∙ same-image x i os l.1
  where
    go : (z : Bool) → T (not z) → cond z (effect o.update x i) i ≡ i
    go true t = absurd t
    go false t = refl

module _ (g : System) (im : ImagesAgree g) (na : NamesAgree g) where
  off : (b : Bool) → (T b → ⊥) → T (not b)
  off true f = absurd (f tt)
  off false f = tt

  -- ids that weren't given out are no operands
  later-out : (x : ℕ) → g.durable.next_id ≤ x → (os : List Op) → AreOnNamed g os → LeaveOut x os
  later-out x l os a = each-turn (λ o. Each (Names (view g)) (operands o.update)) (λ o. T (not (has_operand x o.update))) os (λ o i. off (has_operand x o.update) (λ m. let n = (each-at (Names (view g)) x (operands o.update) i m).0 in absurd (omega arith))) a

  -- and no objects at the beginning
  later-gone : (x : ℕ) → g.durable.next_id ≤ x → g.origin x ≡ Gone
  later-gone x l =
      gone-is (g.origin x) (is-gone (is_gone (g.origin x)) (λ t. let n = im.known x (subst (λ i. T (not (is_gone i))) (sym (same-image x (g.origin x) g.ghost.kept (later-out x l g.ghost.kept na.kept))) t) in absurd (omega arith)))
    where
      is-gone : (b : Bool) → (T (not b) → ⊥) → b ≡ true
      is-gone true f = refl
      is-gone false f = absurd (f tt)

  pub moves-follow : (γ : Ghost) → GhostsMove g γ → GhostsFollow g γ
  moves-follow γ m = record { kept = kept m.ops; frozen = λ s ks p. frozen m.ops s ks p; given = m.given }
    where
      kept : AreSameOps g γ ⊎ EndsOne g γ → AreOnNamed g γ.kept
      kept (inl e) = subst (AreOnNamed g) (sym e.0) na.kept
      kept (inr e) = subst (AreOnNamed g) (sym e.kept) (each-fewer (λ o. Each (Names (view g)) (operands o.update)) e.stays g.ghost.kept na.kept)

      by : (s r : ℕ) (ks : List Op) (z : Bool) → elim z as (λ y. Option (List Op)) [ true ↦ Some g.ghost.kept | false ↦ g.ghost.frozen s ] ≡ Some ks → AreOnNamed g ks
      by s r ks true p = subst (AreOnNamed g) (same_some p) na.kept
      by s r ks false p = na.frozen s ks p

      frozen : AreSameOps g γ ⊎ EndsOne g γ → (s : ℕ) (ks : List Op) → γ.frozen s ≡ Some ks → AreOnNamed g ks
      frozen (inl e) s ks p = na.frozen s ks (ap (λ f. f s) (sym e.1) ∙ p)
      frozen (inr e) s ks p = by s e.session ks (s == e.session) (ap (λ f. f s) (sym e.frozen) ∙ p)

  module _ (fa : FreesAgree g) (sa : SessionsAgree g) (d : Durable) (v : Option Server) (p : List (ℕ × Msg)) (γ : Ghost) (m : GhostsMove g γ) where
    abbrev h : System
    h = record g { durable = d; server = v; pool = p; ghost = γ }

    -- what leaves it out goes on to do so
    seen-out : (s x : ℕ) → LeaveOut x (seen_ops (g.ghost.frozen s) g.ghost.kept) → LeaveOut x (seen_ops (γ.frozen s) γ.kept)
    seen-out s x l = elim m.ops [
      | inl e ↦ subst (λ o. LeaveOut x (seen_ops o γ.kept)) (ap (λ f. f s) (sym e.1)) (subst (λ os. LeaveOut x (seen_ops (g.ghost.frozen s) os)) (sym e.0) l)
      | inr e ↦ subst (λ o. LeaveOut x (seen_ops o γ.kept)) (ap (λ f. f s) (sym e.frozen)) (subst (λ os. LeaveOut x (seen_ops (at_session e.session (Some g.ghost.kept) g.ghost.frozen s) os)) (sym e.kept) (go e (s == e.session) refl (g.ghost.frozen s) refl l))
    ]
      where
        go : (e : EndsOne g γ) (z : Bool) → (s == e.session) ≡ z → (o : Option (List Op)) → g.ghost.frozen s ≡ o → LeaveOut x (seen_ops o g.ghost.kept)
            → LeaveOut x (seen_ops (elim z as (λ y. Option (List Op)) [ true ↦ Some g.ghost.kept | false ↦ g.ghost.frozen s ]) (filter e.stays g.ghost.kept))
        go e true q None r l = l
        go e true q (Some ks) r l = absurd (none_some (sym e.unfrozen ∙ ap g.ghost.frozen (sym (Rattle.ec_base.proofs.Numbers.equal s e.session q)) ∙ r))
        go e false q None r l = subst (λ o. LeaveOut x (seen_ops o (filter e.stays g.ghost.kept))) (sym r) (each-fewer (λ o. T (not (has_operand x o.update))) e.stays g.ghost.kept l)
        go e false q (Some ks) r l = subst (λ o. LeaveOut x (seen_ops o (filter e.stays g.ghost.kept))) (sym r) l

    later-seen : (s x : ℕ) → g.durable.next_id ≤ x → LeaveOut x (seen_ops (γ.frozen s) γ.kept)
    later-seen s x l = go (γ.frozen s) refl
      where
        f : GhostsFollow g γ
        f = moves-follow γ m

        go : (o : Option (List Op)) → γ.frozen s ≡ o → LeaveOut x (seen_ops o γ.kept)
        go None e = later-out x l γ.kept f.kept
        go (Some ks) e = later-out x l ks (f.frozen s ks e)

    -- what is hidden was so, or came since
    hidden-was : (s x : ℕ) (k : Clerk) → clerk_in h s ≡ Some k → T (is_hidden (view h) s x) → T (is_hidden (view g) s x) ⊎ (g.durable.next_id ≤ x)
    hidden-was s x k e t = go (m.given s) (subst (λ o. T (is_untaken (γ.grants s) (γ.first s) (side_in o) x)) e t)
      where
        go : AreGiven g γ s → T (is_untaken (γ.grants s) (γ.first s) (Some (side k)) x) → T (is_hidden (view g) s x) ⊎ (g.durable.next_id ≤ x)
        go (inl q) r = inl (subst (λ o. T (is_untaken (g.ghost.grants s) (g.ghost.first s) (side_in o) x)) (sym (still-in g sa (γ.owner s) s k e)) (subst (λ z. T (is_untaken z (g.ghost.first s) (Some (side k)) x)) q.0 (subst (λ z. T (is_untaken (γ.grants s) z (Some (side k)) x)) q.1 r)))
        go (inr q) r = inr (let a = low (γ.first s) x (next (k.got + 1 == γ.grants s) (in_sixteen (γ.first s) x) r) in omega arith)
          where
            next : (a b : Bool) → T (a && b) → T b
            next true b t = t
            next false b t = absurd t

            low : (f x : ℕ) → T (in_sixteen f x) → f ≤ x
            low f x t = grind arith

    pub states-keep-frees : FreesAgree h
    states-keep-frees = record {
      unused = λ s x k e w. elim (was s x k e w) [
        | inl o ↦ let q = fa.unused s x k (still-in g sa (γ.owner s) s k e) o in (seen-out s x q.0, q.1)
        | inr l ↦ (later-seen s x l, later-gone x l)
      ];
      once = λ s k e. fa.once s k (still-in g sa (γ.owner s) s k e);
    }
      where
        was : (s x : ℕ) (k : Clerk) → clerk_in h s ≡ Some k → T (member x k.ids) ⊎ T (is_hidden (view h) s x) → (T (member x k.ids) ⊎ T (is_hidden (view g) s x)) ⊎ (g.durable.next_id ≤ x)
        was s x k e (inl t) = inl (inl t)
        was s x k e (inr t) = elim (hidden-was s x k e t) [ inl a ↦ inl (inr a) | inr l ↦ inr l ]
