-- A step of a clerk that is in a session, as the facts on tokens see it.
use Rattle.std.proofs.Common.{◌≡◌, refl, sym, ap, subst, ◌∙◌, arith, ℕ, Bool, true, false, ◌&&◌, List, [], ◌∷◌, ◌++◌}
use Rattle.std.specs.Prelude.{◌==◌, Option, None, Some}
use Rattle.ec_base.specs.Tables.{or_else}
use Rattle.ec_base.specs.declared.ids.Age.{Age}
use Rattle.ec_wire.specs.declared.msg.Msg.{Msg}
use Rattle.ec_protocol.specs.declared.clerk.Clerk.{Clerk}
use Rattle.ec_protocol.specs.declared.clerk.Out.{Out}
use Rattle.ec_protocol.specs.declared.clerk.Out.TheVariants as out
use Rattle.ec_protocol.specs.Clerk.{Doing, send, session}
use Rattle.ec_coherence.specs.Clerks.{acting}
use Rattle.ec_coherence.specs.System.{System, Ghost, at_session, with_start, clerk_of, if_in}
use Rattle.ec_coherence.specs.Steps.{sends, doing_in}
use Rattle.ec_coherence.specs.Tokens.{View, side, side_in, view, Fits, Passed, TokensAgree}
use Rattle.ec_coherence.proofs.ForServer.Said.{with_pool}
use Rattle.ec_coherence.proofs.ForClerk.Sends.{sent-agrees}
use Rattle.ec_coherence.proofs.ForClerk.Sides.{Moves, moved-agrees}
use Rattle.ec_coherence.proofs.ForServer.Tables.{same_some}
use Rattle.std.proofs.lemmas.Bool.{and_parts}
use Rattle.ec_base.proofs.Lists.{regroup}
use Rattle.ec_base.proofs.Numbers.{same-self as same, equal}

pub here : {A : Type 0} (s : ℕ) (o : A) (f : ℕ → A) → at_session s o f s ≡ o
here s o f = ap (λ b. elim b [ true ↦ o | false ↦ f s ]) (same s)

pub twice : {A : Type 0} (s : ℕ) (o p : A) (f : ℕ → A) → at_session s o (at_session s p f) ≡ at_session s o f
twice {A} s o p f = λ j t. go t (t == s) j
  where
    go : (t : ℕ) (b : Bool) → (elim b as (λ z. A) [ true ↦ o | false ↦ elim b as (λ z. A) [ true ↦ p | false ↦ f t ] ]) ≡ (elim b as (λ z. A) [ true ↦ o | false ↦ f t ])
    go t true = refl
    go t false = refl

pub sends-more : (c : ℕ) (os ps : List Out) → sends c (os ++ ps) ≡ sends c os ++ sends c ps
sends-more c [] ps = refl
sends-more c (out.Send m ∷ os) ps = ap (λ z. (c, m) ∷ z) (sends-more c os ps)
sends-more c (out.Told ns ∷ os) ps = sends-more c os ps
sends-more c (out.Answer n a op ∷ os) ps = sends-more c os ps
sends-more c (out.OldBoot a ∷ os) ps = sends-more c os ps

module _ (w : View) (c s : ℕ) (d : Doing) where
  pub is-in : (acting w c s d).clerk s ≡ Some (side d.clerk)
  is-in = here s (Some (side d.clerk)) w.clerk

  -- its side changes
  pub moves-act : (k : Clerk) → TokensAgree (acting w c s d) → Moves (acting w c s d) s (side d.clerk) (side k) → TokensAgree (acting w c s (record d { clerk = k }))
  moves-act k agree moves = subst TokensAgree (ap (λ f. record w { clerk = f; pool = w.pool ++ sends c d.outs }) (twice s (Some (side k)) (Some (side d.clerk)) w.clerk))
      (moved-agrees (acting w c s d) s (side d.clerk) (side k) agree moves)

  -- nothing that these facts read changes
  pub rests-act : (k : Clerk) → side k ≡ side d.clerk → TokensAgree (acting w c s d) → TokensAgree (acting w c s (record d { clerk = k }))
  rests-act k e agree = subst (λ z. TokensAgree (record w { clerk = at_session s (Some z) w.clerk; pool = w.pool ++ sends c d.outs })) (sym e) agree

  -- a message is sent
  pub sends-act : (m : Msg) → TokensAgree (acting w c s d) → Fits (acting w c s d) m → TokensAgree (acting w c s (send m d))
  sends-act m agree f = subst (λ p. TokensAgree (with_pool p (acting w c s d))) (regroup w.pool (sends c d.outs) ((c, m) ∷ []) ∙ ap (λ z. w.pool ++ z) (sym (sends-more c d.outs (out.Send m ∷ []))))
      (sent-agrees (acting w c s d) c m agree f)

  -- what comes out for the calls isn't sent
  pub shows-act : (o : Out) → sends c (o ∷ []) ≡ [] → TokensAgree (acting w c s d) → TokensAgree (acting w c s (record d { outs = d.outs ++ o ∷ [] }))
  shows-act o e agree = subst (λ p. TokensAgree (with_pool (w.pool ++ p) (acting w c s d))) (sym (sends-more c d.outs (o ∷ []) ∙ ap (λ z. sends c d.outs ++ z) e ∙ none (sends c d.outs))) agree
    where
      none : (xs : List (ℕ × Msg)) → xs ++ [] ≡ xs
      none [] = refl
      none (x ∷ xs) = ap (λ z. x ∷ z) (none xs)

  -- a message of the clerk's own epoch passes
  pub passes : TokensAgree (acting w c s d) → Passed (acting w c s d) s d.clerk.epoch
  passes agree = let q = agree.got s (side d.clerk) is-in in (q.1, q.0, λ k i. let e : d.clerk.epoch ≡ k.epoch = ap (λ z. z.epoch) (same_some (sym is-in ∙ i)) in omega arith)

  pub session-is : d.clerk.session ≡ Some s → session d ≡ s
  session-is e = ap (or_else 0) e

-- The system's view is this one.

-- the clerk's start is that of the session
pub record IsIn (g : System) (γ : Ghost) (c b s : ℕ) (k : Clerk) : Type 0 where
  pub session : k.session ≡ Some s
  pub age : Age
  pub owner : γ.owner s ≡ Some (c, age)
  pub boot : age.boot ≡ b
  -- when the step began it was in no other one
  pub before : (t : ℕ) → (t == s) ≡ false → if_in t (g.clerks c b) ≡ None

module _ (g : System) (c b s : ℕ) (d : Doing) (γ : Ghost) (own : IsIn g γ c b s d.clerk) where
  in-clerks : (t : ℕ) → side_in (clerk_of t (γ.owner t) (with_start c b d.clerk g.clerks)) ≡ at_session s (Some (side d.clerk)) (λ t. side_in (clerk_of t (γ.owner t) g.clerks)) t
  in-clerks t = go (t == s) refl
    where
      at-start : (k : Option Clerk) → elim ((c == c) && (own.age.boot == b)) [ true ↦ Some d.clerk | false ↦ k ] ≡ Some d.clerk
      at-start k = ap (λ z. elim z [ true ↦ Some d.clerk | false ↦ k ]) (both (c == c) (own.age.boot == b) (same c) (ap (λ z. z == b) own.boot ∙ same b))
        where
          both : (a e : Bool) → a ≡ true → e ≡ true → (a && e) ≡ true
          both a e p q = cc

      mine : side_in (clerk_of s (γ.owner s) (with_start c b d.clerk g.clerks)) ≡ Some (side d.clerk)
      mine = ap (λ o. side_in (clerk_of s o (with_start c b d.clerk g.clerks))) own.owner ∙ ap (λ k. side_in (if_in s k)) (at-start (g.clerks c own.age.boot))
          ∙ ap (λ o. side_in (elim (Rattle.ec_protocol.specs.Clerk.is_session s o) [ true ↦ Some d.clerk | false ↦ None ])) own.session ∙ ap (λ z. side_in (elim z [ true ↦ Some d.clerk | false ↦ None ])) (same s)

      other : (t == s) ≡ false → (o : Option (ℕ × Age)) → side_in (clerk_of t o (with_start c b d.clerk g.clerks)) ≡ side_in (clerk_of t o g.clerks)
      other e None = refl
      other e (Some o) = by-start ((o.0 == c) && (o.1.boot == b)) refl
        where
          by-start : (z : Bool) → ((o.0 == c) && (o.1.boot == b)) ≡ z → side_in (if_in t (elim z [ true ↦ Some d.clerk | false ↦ g.clerks o.0 o.1.boot ])) ≡ side_in (if_in t (g.clerks o.0 o.1.boot))
          by-start true p =
              let q = and_parts (o.0 == c) (o.1.boot == b) p in
              ap (λ z. side_in (elim (Rattle.ec_protocol.specs.Clerk.is_session t z) [ true ↦ Some d.clerk | false ↦ None ])) own.session ∙ ap (λ z. side_in (elim z [ true ↦ Some d.clerk | false ↦ None ])) e
              ∙ sym (ap side_in (ap (λ z. if_in t (g.clerks z o.1.boot)) (equal o.0 c q.0) ∙ ap (λ z. if_in t (g.clerks c z)) (equal o.1.boot b q.1) ∙ own.before t e))
          by-start false p = refl

      go : (z : Bool) → (t == s) ≡ z → side_in (clerk_of t (γ.owner t) (with_start c b d.clerk g.clerks)) ≡ elim z [ true ↦ Some (side d.clerk) | false ↦ side_in (clerk_of t (γ.owner t) g.clerks) ]
      go true e = ap (λ u. side_in (clerk_of u (γ.owner u) (with_start c b d.clerk g.clerks))) (equal t s e) ∙ mine
      go false e = other e (γ.owner t)

  pub view-is : view (doing_in c b d γ g) ≡ acting (view (record g { ghost = γ })) c s d
  view-is = ap (λ f. record (view (record g { ghost = γ })) { clerk = f; pool = g.pool ++ sends c d.outs }) (λ j t. in-clerks t j)
