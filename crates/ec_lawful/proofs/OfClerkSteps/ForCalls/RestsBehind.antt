-- All starts are at rest behind a clerk's step, where its own is.
use Rattle.std.proofs.Common.{◌≡◌, refl, sym, ap, ◌∙◌, arith, ℕ, T, Bool, true, false, ◌==◌, ◌&&◌, ◌||◌, cond, List, [], ◌∷◌, ◌++◌, Option, Some, None}
use Rattle.std.specs.List.{list_any}
use Rattle.std.proofs.lemmas.List.Folds.{list_any-append}
use Rattle.ec_plain.specs.declared.call.Call.{Call}
use Rattle.ec_history.specs.Placing.{is_numbered}
use Rattle.ec_history.specs.declared.shown.Shown.{Shown}
use Rattle.ec_protocol.specs.Clerk.{Doing}
use Rattle.ec_protocol.specs.declared.clerk.Clerk.{Clerk}
use Rattle.ec_protocol.specs.declared.clerk.Out.{Out}
use Rattle.ec_protocol.specs.declared.clerk.Out.TheVariants as out
use Rattle.ec_coherence.specs.System.{System, Ghost}
use Rattle.ec_coherence.specs.ChangeLaws.{Calls}
use Rattle.ec_coherence.specs.Steps.{call_of, calls_after, doing_in, less_call}
use Rattle.ec_coherence.proofs.ForServer.Tables.{same_some}
use Rattle.ec_lawful.specs.OfClerkSteps.Calls.{is_shown}
use Rattle.ec_lawful.specs.OfClerkSteps.Waits.{AreAtRest, HasLine, IsAtRest, does_wait}
use Rattle.ec_lawful.proofs.OfClerkSteps.ForCalls.CallsLeft.{call-less}
use Rattle.ec_lawful.proofs.OfClerkSteps.ForCalls.Quiet.{split-start}
use Rattle.ec_base.proofs.Numbers.{equal}
use Rattle.ec_history.proofs.OfLaws.ForPlacing.BasesAlike.{each-map}

-- what comes out of a clerk takes no call of another
others-calls : (c f n : ℕ) → (f == c) ≡ false → (os : List Out) (calls : Calls) → call_of f n (calls_after c os calls) ≡ call_of f n calls
others-calls c f n d [] calls = refl
others-calls c f n d (out.Send m ∷ os) calls = others-calls c f n d os calls
others-calls c f n d (out.Told ns ∷ os) calls = others-calls c f n d os calls
others-calls c f n d (out.OldBoot a ∷ os) calls = others-calls c f n d os calls
others-calls c f n d (out.Answer j a op ∷ os) calls = others-calls c f n d os (elim (call_of c j calls) as (λ z. Calls) [ None ↦ calls | Some l ↦ less_call c j calls ]) ∙ go (call_of c j calls)
  where
    go : (o : Option (ℕ × Call)) → call_of f n (elim o as (λ z. Calls) [ None ↦ calls | Some l ↦ less_call c j calls ]) ≡ call_of f n calls
    go None = refl
    go (Some l) = call-less c j f n calls ∙ ap (λ z. cond (z && (n == j)) None (call_of f n calls)) d

module _ (g : System) (c b : ℕ) (e : Doing) (γ : Ghost) (ls : List Shown) (run : g.running c ≡ Some b) (shown : γ.shown ≡ g.ghost.shown ++ ls) where
  abbrev h : System
  h = doing_in c b e γ g

  still-shown : (l : ℕ) → is_shown g l ≡ true → is_shown h l ≡ true
  still-shown l p = ap (list_any (is_numbered l)) shown ∙ list_any-append (is_numbered l) g.ghost.shown ls ∙ ap (λ z. z || list_any (is_numbered l) ls) p

  rests-other : (f : ℕ) (k : Clerk) → (f == c) ≡ false → IsAtRest g f k → IsAtRest h f k
  rests-other f k d q = record {
    calls = each-map (λ w. T (does_wait w k) × HasLine g f w) (λ w. T (does_wait w k) × HasLine h f w) (λ w y. (y.0, ((y.1).0, others-calls c f w.no d e.outs g.calls ∙ (y.1).1, still-shown (y.1).0 (y.1).2))) k.waiting q.calls;
    recalls = q.recalls;
  }

  pub rests-behind : ((f a : ℕ) (k : Clerk) → (f == c) ≡ false → g.running f ≡ Some a → g.clerks f a ≡ Some k → IsAtRest g f k) → IsAtRest h c e.clerk → AreAtRest h
  rests-behind others own f a k r there =
      split-start c b f a k e.clerk g.clerks (λ x y z. g.running x ≡ Some y → IsAtRest h x z) there (λ i. own)
      (λ n p i. let d = apart i n in rests-other f k d (others f a k d i p)) r
    where
      two : false ≡ true → ⊥
      two p = cc

      same : (n : ℕ) → (n == n) ≡ true
      same n = grind arith

      apart : g.running f ≡ Some a → ((f == c) && (a == b)) ≡ false → (f == c) ≡ false
      apart i n = go (f == c) refl
        where
          go : (z : Bool) → (f == c) ≡ z → z ≡ false
          go false p = refl
          go true p =
              let one : a ≡ b = same_some (sym i ∙ ap g.running (equal f c p) ∙ run) in
              absurd (two (sym n ∙ ap (λ z. z && (a == b)) p ∙ ap (λ z. z == b) one ∙ same b))
