-- One row of a clerk's cache moves within an epoch: it loses, or it gains the effective token. What is known of the messages about it stays.
use Rattle.std.proofs.Common.{◌≡◌, refl, sym, ap, subst, ◌∙◌, inl, inr, ◌⊎◌, arith, ℕ, T, ◌≤◌, ◌<◌}
use Rattle.std.specs.Prelude.{not, Option, None, Some, ⊤}
use Rattle.ec_base.specs.declared.ids.Hold.{Hold}
use Rattle.ec_base.specs.declared.ids.Hold.TheVariants.{Free, Read, Write}
use Rattle.ec_volume.specs.declared.image.Image.{Image}
use Rattle.ec_base.specs.Holds.{rank, is_write}
use Rattle.ec_sessions.specs.declared.tokens.token.Token.{Token}
use Rattle.ec_wire.specs.Messages.{is_held_mode}
use Rattle.ec_cache.specs.Cache.{held_mode}
use Rattle.ec_cache.specs.declared.state.Held.{Held}
use Rattle.ec_coherence.specs.System.{Eff, recorded}
use Rattle.ec_coherence.specs.Tokens.{Below, HeldAtMost, HeldBelow, GrantFits, NotedFits, LacksMode, IsWrite, IsEarlier}
use Rattle.ec_coherence.proofs.ForServer.Tables.{same_some}
use Rattle.ec_base.proofs.Options.{none_some}

-- What is held, with the last number l, becomes p, with the last number m: nothing, or no more than before at the same number.
abbrev pub Fewer : Option Held → Option Held → ℕ → ℕ → Type 0
Fewer o None l m = ⊤
Fewer None (Some d) l m = ⊥
Fewer (Some c) (Some d) l m = (d.number ≡ c.number) × (rank d.hold ≤ rank c.hold) × T (is_held_mode d.hold) × (m ≡ l)

-- The effective token of this epoch is taken, at a new number.
abbrev pub Gained : Option Held → ℕ → ℕ → ℕ → Option Eff → Type 0
Gained p e l m f = (d : Held) × (p ≡ Some d) × (d.number ≡ m) × (l < m) × (f ≡ Some (record { hold = d.hold; number = m; epoch = e }))

abbrev pub Moved : Option Held → Option Held → ℕ → ℕ → ℕ → Option Eff → Type 0
Moved o p l m e f = (l ≤ m) × (Fewer o p l m ⊎ Gained p e l m f)

not-higher : (a b : Hold) → rank a ≤ rank b → T (is_write a) → T (is_write b)
not-higher Free b l w = absurd w
not-higher Read b l w = absurd w
not-higher Write Free l w = absurd (omega arith)
not-higher Write Read l w = absurd (omega arith)
not-higher Write Write l w = tt

not-written : (a b : Hold) → rank a ≤ rank b → T (not (is_write b)) → T (not (is_write a))
not-written Free b l w = tt
not-written Read b l w = tt
not-written Write Free l w = absurd (omega arith)
not-written Write Read l w = absurd (omega arith)
not-written Write Write l w = w

module _ (l m e : ℕ) (f : Option Eff) where
  pub below-kept : (o p : Option Held) → Moved o p l m e f → Below e l o f → Below e m p f
  below-kept o p (r, inl a) b = fewer o p a f b
    where
      fewer : (o p : Option Held) → Fewer o p l m → (f : Option Eff) → Below e l o f → Below e m p f
      fewer o None a f b = tt
      fewer None (Some d) a f b = absurd a
      fewer (Some c) (Some d) a None b = b
      fewer (Some c) (Some d) a (Some g) b = (
        (let x = a.1 in let y = b.0 in omega arith),
        a.0 ∙ b.1 ∙ sym a.3,
        elim (b.2) [
          | inl q ↦ inl (q.0, subst (λ n. n ≤ g.number) (sym a.0) q.1, λ z. not-written d.hold c.hold a.1 (q.2 (subst (λ n. n < g.number) a.0 z)))
          | inr q ↦ inr (q.0, a.0 ∙ q.1)
        ],
      )
  below-kept o p (r, inr a) b = subst (λ z. Below e m z f) (sym a.1) (subst (λ z. Below e m (Some a.0) z) (sym a.4)
      (omega arith, a.2, inl (refl, (let x = a.2 in omega arith), λ z. absurd (let x = a.2 in omega arith))))

  pub want-kept : (o p : Option Held) (n : ℕ) (h : Hold) → Moved o p l m e f → (n ≤ l) × HeldBelow o n h → (n ≤ m) × HeldBelow p n h
  want-kept o p n h mv q = ((let a = mv.0 in let b = q.0 in omega arith), elim (mv.1) [ inl a ↦ fewer o p a q.1 | inr a ↦ gained a ])
    where
      fewer : (o p : Option Held) → Fewer o p l m → HeldBelow o n h → HeldBelow p n h
      fewer o None a b = tt
      fewer None (Some d) a b = absurd a
      fewer (Some c) (Some d) a b = λ z. let r = b (subst (λ i. i ≤ n) a.0 z) in let s = a.1 in omega arith

      gained : Gained p e l m f → HeldBelow p n h
      gained g = subst (λ z. HeldBelow z n h) (sym g.1) (λ z. absurd (let a = g.2 in let b = g.3 in let c = q.0 in omega arith))

  pub back-kept : (o p : Option Held) (n : ℕ) (h : Hold) → Moved o p l m e f → (n ≤ l) × HeldAtMost o n h → (n ≤ m) × HeldAtMost p n h
  back-kept o p n h mv q = ((let a = mv.0 in let b = q.0 in omega arith), elim (mv.1) [ inl a ↦ fewer o p a q.1 | inr a ↦ gained a ])
    where
      fewer : (o p : Option Held) → Fewer o p l m → HeldAtMost o n h → HeldAtMost p n h
      fewer o None a b = tt
      fewer None (Some d) a b = absurd a
      fewer (Some c) (Some d) a b = (subst (λ i. n ≤ i) (sym a.0) b.0, λ z. let r = b.1 (z ∙ a.0) in let s = a.1 in omega arith)

      gained : Gained p e l m f → HeldAtMost p n h
      gained g = subst (λ z. HeldAtMost z n h) (sym g.1) ((let a = g.2 in let b = g.3 in let c = q.0 in omega arith), λ z. absurd (let a = g.2 in let b = g.3 in let c = q.0 in omega arith))

  unwritten-kept : (o p : Option Held) → Fewer o p l m → ¬ (IsWrite o) → ¬ (IsWrite p)
  unwritten-kept o None a b = λ z. z
  unwritten-kept None (Some d) a b = absurd a
  unwritten-kept (Some c) (Some d) a b = λ z. b (not-higher d.hold c.hold a.1 z)

  pub grant-kept : (o p : Option Held) (d n : ℕ) (h : Hold) (i j : Image) → Moved o p l m e f → GrantFits e d n h i o f j l → GrantFits e d n h i p f j m
  grant-kept o p d n h i j mv g z a = let q = g z (let b = mv.0 in omega arith) in
      (q.0, q.1, elim (mv.1) [ inl b ↦ unwritten-kept o p b q.2 | inr b ↦ absurd (let c = ap (λ k. k.number) (same_some (sym q.0 ∙ b.4)) in omega arith) ])

  pub noted-kept : (o p : Option Held) (h : Hold) (t : Option Token) → f ≡ recorded t e → Moved o p l m e f → NotedFits h t o l → NotedFits h t p m
  noted-kept o p h None w mv q = elim (mv.1) [ inl a ↦ none p (subst (λ z. Fewer z p l m) q a) | inr a ↦ absurd (none_some (sym w ∙ a.4)) ]
    where
      none : (p : Option Held) → Fewer None p l m → p ≡ None
      none None a = refl
      none (Some d) a = absurd a
  noted-kept o p h (Some t) w mv q = (
    (let a = mv.0 in let b = q.0 in omega arith),
    elim (mv.1) [ inl a ↦ fewer o p a q.1 | inr a ↦ absurd (let b = ap (λ k. k.number) (same_some (sym w ∙ a.4)) in let c = q.0 in let r = a.3 in omega arith) ],
  )
    where
      fewer : (o p : Option Held) → Fewer o p l m → LacksMode o t.number h → LacksMode p t.number h
      fewer o None a b = tt
      fewer None (Some d) a b = absurd a
      fewer (Some c) (Some d) a b = (a.0 ∙ b.0, let r = b.1 in let s = a.1 in omega arith)

  -- before its epoch nothing is gained
  pub mode-kept : (o p : Option Held) (a : ℕ) → IsEarlier e f → rank (held_mode o) ≤ a → Moved o p l m e f → rank (held_mode p) ≤ a
  mode-kept o p a y q mv = elim (mv.1) [ inl b ↦ fewer o p b q | inr b ↦ absurd (early (subst (IsEarlier e) b.4 y)) ]
    where
      early : e < e → ⊥
      early z = absurd (omega arith)

      fewer : (o p : Option Held) → Fewer o p l m → rank (held_mode o) ≤ a → rank (held_mode p) ≤ a
      fewer o None b q = omega arith
      fewer None (Some d) b q = absurd b
      fewer (Some c) (Some d) b q = let s = b.1 in omega arith

  pub mode-held : (o p : Option Held) → Moved o p l m e f → ((g : Eff) → f ≡ Some g → T (is_held_mode g.hold)) → (d : Held) → p ≡ Some d → T (is_held_mode d.hold)
  mode-held o p mv k d q = elim (mv.1) [ inl a ↦ fewer o (subst (λ z. Fewer o z l m) q a) | inr a ↦ subst (λ z. T (is_held_mode z.hold)) (same_some (sym a.1 ∙ q)) (k _ a.4) ]
    where
      fewer : (o : Option Held) → Fewer o (Some d) l m → T (is_held_mode d.hold)
      fewer None a = absurd a
      fewer (Some c) a = a.2

-- What is held stays.
pub still : (o : Option Held) (l e : ℕ) (f : Option Eff) → ((d : Held) → o ≡ Some d → T (is_held_mode d.hold)) → Moved o o l l e f
still o l e f h = (omega arith, inl (go o refl))
  where
    go : (z : Option Held) → o ≡ z → Fewer z z l l
    go None p = tt
    go (Some d) p = (refl, omega arith, h d p, refl)
