-- In each world that a line reaches, its call is under way or was answered once.
use Rattle.std.proofs.Common.{◌≡◌, refl, sym, ap, ◌∙◌, subst, arith, ℕ, Bool, true, false, ◌&&◌, cond, List, [], ◌∷◌, ◌++◌, inl, inr, ◌⊎◌}
use Rattle.std.specs.Prelude.{Option, None, Some, ◌==◌}
use Rattle.std.proofs.lemmas.Bool.{and_parts, eqb-true}
use Rattle.ec_base.specs.Tables.{at, at_or, or_else, put, without}
use Rattle.ec_plain.specs.declared.call.Call.{Call}
use Rattle.ec_protocol.specs.World as world
use Rattle.ec_protocol.specs.World.{Moving, add_call, call, call_of, moving}
use Rattle.ec_protocol.specs.declared.clerk.Clerk.{Clerk}
use Rattle.ec_protocol.specs.declared.world.World.{World}
use Rattle.ec_coherence.proofs.ForServer.Tables.{at-put, at-without}
use Rattle.ec_quiet.specs.SettlingScenes.{Reaches}
use Rattle.ec_machine_laws.specs.Answers.{Asking}
use Rattle.ec_machine_laws.specs.PlainLines.{asked_in}
use Rattle.ec_complete.specs.OfAgreedLines.Answered.{LineIsAnswered, IsCalled, NoneCalls}
use Rattle.ec_complete.proofs.OfAgreedLines.Showing as showing
use Rattle.ec_complete.proofs.OfAgreedLines.Showing.{CallTable}

abbrev none-of : CallTable → Type 0
none-of calls = (c n : ℕ) → at n (at_or [] c calls) ≡ None

-- one clerk's calls become these
put-call : (d c n : ℕ) (t : Rattle.ec_base.specs.Tables.Table (ℕ × Call)) (calls : CallTable) → at n (at_or [] d (put c t calls)) ≡ cond (d == c) (at n t) (at n (at_or [] d calls))
put-call d c n t calls = ap (λ o. at n (or_else [] o)) (at-put d c t calls) ∙ go (d == c)
  where
    go : (b : Bool) → at n (or_else [] (cond b (Some t) (at d calls))) ≡ cond b (at n t) (at n (at_or [] d calls))
    go true = refl
    go false = refl

-- Where no call is, none is answered.
module _ (xs : List Asking) where
  abbrev Stays : CallTable → List Asking → Type 0
  Stays calls asked = none-of calls × (asked ≡ xs)

  stays-on : (calls : CallTable) (asked : List Asking) (c n : ℕ) (q : ℕ × Call) → Stays calls asked → at n (at_or [] c calls) ≡ Some q → Stays (put c (without n (at_or [] c calls)) calls) (asked ++ (q.0, c, q.1) ∷ [])
  stays-on calls asked c n q s e = let bad : None ≡ Some q = sym (s.0 c n) ∙ e in absurd (grind (arith, bad))

pub others-none : (w : World) (r : Moving) → NoneCalls w
    → ((c n : ℕ) (k : Clerk) → Reaches (world.push c n (Some k) w) r → NoneCalls r.world × (asked_in r.shown ≡ [])) × (Reaches (moving w) r → NoneCalls r.world × (asked_in r.shown ≡ []))
others-none w r none = (
  λ c n k reached. showing.reaches (Stays []) (stays-on []) (world.push c n (Some k) w) r (showing.pushes (Stays []) (stays-on []) c n k w (none, refl)) reached,
  λ reached. showing.reaches (Stays []) (stays-on []) (moving w) r (none, refl) reached,
)

module _ (l c : ℕ) (cl : Call) where
  -- just this call is under way
  abbrev one-of : ℕ → CallTable → Type 0
  one-of number calls = (d n : ℕ) → at n (at_or [] d calls) ≡ cond ((d == c) && (n == number)) (Some (l, cl)) None

  abbrev Known : CallTable → List Asking → Type 0
  Known calls asked = ((number : ℕ) × one-of number calls × (asked ≡ [])) ⊎ (none-of calls × (asked ≡ (l, c, cl) ∷ []))

  begins : (w : World) (number : ℕ) → NoneCalls w → one-of number (add_call c number l cl w).calls
  begins w number none d n = put-call d c n (put number (l, cl) (at_or [] c w.calls)) w.calls
      ∙ (λ z. cond {A = Option (ℕ × Call)} (d == c) ((at-put n number (l, cl) (at_or [] c w.calls) ∙ ap (λ o. cond {A = Option (ℕ × Call)} (n == number) (Some (l, cl)) o) (none c n)) z) (none d n z)) ∙ go (d == c) (n == number)
    where
      go : (x y : Bool) → cond {A = Option (ℕ × Call)} x (cond y (Some (l, cl)) None) None ≡ cond (x && y) (Some (l, cl)) None
      go true true = refl
      go true false = refl
      go false y = refl

  -- which call it is that is found
  found : (b : Bool) (q : ℕ × Call) → cond b (Some (l, cl)) None ≡ Some q → (b ≡ true) × ((l, cl) ≡ q)
  found true q e = (refl, same q e)
    where
      same : (q : ℕ × Call) → ◌≡◌ {A = Option (ℕ × Call)} (Some (l, cl)) (Some q) → (l, cl) ≡ q
      same q e = cc
  found false q e = absurd (grind (arith, e))

  leaves : (number : ℕ) (calls : CallTable) → one-of number calls → none-of (put c (without number (at_or [] c calls)) calls)
  leaves number calls one d n = put-call d c n (without number (at_or [] c calls)) calls
      ∙ (λ z. cond {A = Option (ℕ × Call)} (d == c) ((at-without n number (at_or [] c calls) ∙ ap (λ o. cond {A = Option (ℕ × Call)} (n == number) None o) (one c n)) z) (one d n z)) ∙ go (d == c) (c == c) (n == number)
    where
      go : (x y z : Bool) → cond {A = Option (ℕ × Call)} x (cond z None (cond (y && z) (Some (l, cl)) None)) (cond (x && z) (Some (l, cl)) None) ≡ None
      go true true true = refl
      go true true false = refl
      go true false true = refl
      go true false false = refl
      go false y z = refl

  answered : (calls : CallTable) (asked : List Asking) (d n : ℕ) (q : ℕ × Call) → Known calls asked → at n (at_or [] d calls) ≡ Some q → Known (put d (without n (at_or [] d calls)) calls) (asked ++ (q.0, d, q.1) ∷ [])
  answered calls asked d n q (inr s) e = let bad : None ≡ Some q = sym (s.0 d n) ∙ e in absurd (grind (arith, bad))
  answered calls asked d n q (inl s) e =
      let f = found ((d == c) && (n == s.0)) q (sym (s.1 d n) ∙ e) in
      let both = and_parts (d == c) (n == s.0) f.0 in
      let d-is : c ≡ d = sym (eqb-true d c both.0) in
      let n-is : s.0 ≡ n = sym (eqb-true n s.0 both.1) in
      inr (
        subst none-of (λ z. put (d-is z) (without (n-is z) (at_or [] (d-is z) calls)) calls) (leaves s.0 calls s.1),
        (λ z. s.2 z ++ ((sym f.1 z).0, sym d-is z, (sym f.1 z).1) ∷ []),
      )

  pub calls-once : (w : World) (r : Moving) → NoneCalls w → (call c l cl w).fault ≡ None → Reaches (call c l cl w) r → IsCalled l c cl r ⊎ LineIsAnswered l c cl r
  calls-once w r none fine reached =
      elim (showing.reaches Known answered (call c l cl w) r (showing.calls Known answered c l cl w (λ n. inl (n, begins w n none, refl)) fine) reached) [
        | inl s ↦ inl (record { number = s.0; calls = s.1; none = s.2 })
        | inr s ↦ inr s
      ]
