-- What comes out of a step behind what came out before.
use Rattle.std.proofs.Common.{◌≡◌, refl, sym, ap, ◌∙◌, ℕ, List, [], ◌∷◌, ◌++◌, ◌==◌, ◌&&◌, Bool, true, false, Option, Some, None}
use Rattle.ec_base.specs.Tables.{Table}
use Rattle.ec_plain.specs.declared.call.Call.{Call}
use Rattle.ec_history.specs.declared.shown.Shown.{Shown}
use Rattle.ec_history.specs.declared.shown.Shown.TheVariants as show
use Rattle.ec_protocol.specs.declared.clerk.Clerk.{Clerk}
use Rattle.ec_protocol.specs.declared.clerk.Out.{Out}
use Rattle.ec_protocol.specs.declared.clerk.Out.TheVariants as out
use Rattle.ec_wire.specs.declared.msg.Msg.{Msg}
use Rattle.ec_coherence.specs.System.{System, Ghost, with_start}
use Rattle.ec_coherence.specs.Steps.{call_of, calls_after, less_call, out_lines, sends}
use Rattle.ec_coherence.proofs.ForClerk.Acting.{sends-more}
use Rattle.ec_base.proofs.Lists.{regroup as grouped}

abbrev pub Calls : Type 0
Calls = Table (Table (ℕ × Call))

pub calls-on : (c : ℕ) (os ps : List Out) (calls : Calls) → calls_after c (os ++ ps) calls ≡ calls_after c ps (calls_after c os calls)
calls-on c [] ps calls = refl
calls-on c (out.Send m ∷ os) ps calls = calls-on c os ps calls
calls-on c (out.Told ns ∷ os) ps calls = calls-on c os ps calls
calls-on c (out.OldBoot a ∷ os) ps calls = calls-on c os ps calls
calls-on c (out.Answer n a op ∷ os) ps calls = calls-on c os ps (elim (call_of c n calls) as (λ z. Calls) [ None ↦ calls | Some l ↦ less_call c n calls ])

pub lines-on : (c : ℕ) (os ps : List Out) (calls : Calls) → out_lines c (os ++ ps) calls ≡ out_lines c os calls ++ out_lines c ps (calls_after c os calls)
lines-on c [] ps calls = refl
lines-on c (out.Send m ∷ os) ps calls = lines-on c os ps calls
lines-on c (out.Told ns ∷ os) ps calls = ap (λ z. show.Told c ns ∷ z) (lines-on c os ps calls)
lines-on c (out.OldBoot a ∷ os) ps calls = lines-on c os ps calls
lines-on c (out.Answer n a op ∷ os) ps calls = go (call_of c n calls) (λ x. lines-on c os ps x)
  where
    go : (o : Option (ℕ × Call)) → ((x : Calls) → out_lines c (os ++ ps) x ≡ out_lines c os x ++ out_lines c ps (calls_after c os x)) → elim o as (λ z. List Shown) [
      | None ↦ out_lines c (os ++ ps) calls
      | Some l ↦ show.Answered l.0 c l.1 a op ∷ out_lines c (os ++ ps) (less_call c n calls)
    ] ≡ elim o as (λ z. List Shown) [
      | None ↦ out_lines c os calls
      | Some l ↦ show.Answered l.0 c l.1 a op ∷ out_lines c os (less_call c n calls)
    ] ++ out_lines c ps (calls_after c os (elim o as (λ z. Calls) [ None ↦ calls | Some l ↦ less_call c n calls ]))
    go None r = r calls
    go (Some l) r = ap (λ z. show.Answered l.0 c l.1 a op ∷ z) (r (less_call c n calls))

-- This comes out, with these ghosts.
module _ (g : System) (c : ℕ) (os ps : List Out) (δ : Ghost) where
  abbrev behind : (ℕ → ℕ → Option Clerk) → Calls → List (ℕ × Msg) → System
  behind f calls pool = record g { clerks = f; calls = calls; pool = pool; ghost = δ }

  pub says-on : (f : ℕ → ℕ → Option Clerk) → behind f (calls_after c ps (calls_after c os g.calls)) ((g.pool ++ sends c os) ++ sends c ps) ≡ behind f (calls_after c (os ++ ps) g.calls) (g.pool ++ sends c (os ++ ps))
  says-on f = ap (λ z. behind f z ((g.pool ++ sends c os) ++ sends c ps)) (sym (calls-on c os ps g.calls))
      ∙ ap (behind f (calls_after c (os ++ ps) g.calls)) (grouped g.pool (sends c os) (sends c ps) ∙ ap (λ z. g.pool ++ z) (sym (sends-more c os ps)))

  -- and the clerk is this one
  module _ (b : ℕ) (k now : Clerk) where
    twice : with_start c b now (with_start c b k g.clerks) ≡ with_start c b now g.clerks
    twice = λ j x y. point ((x == c) && (y == b)) x y j
      where
        point : (z : Bool) (x y : ℕ) → elim z as (λ o. Option Clerk) [ true ↦ Some now | false ↦ elim z as (λ o. Option Clerk) [ true ↦ Some k | false ↦ g.clerks x y ] ] ≡ elim z as (λ o. Option Clerk) [ true ↦ Some now | false ↦ g.clerks x y ]
        point true x y = refl
        point false x y = refl

    pub goes-on : behind (with_start c b now (with_start c b k g.clerks)) (calls_after c ps (calls_after c os g.calls)) ((g.pool ++ sends c os) ++ sends c ps) ≡ behind (with_start c b now g.clerks) (calls_after c (os ++ ps) g.calls) (g.pool ++ sends c (os ++ ps))
    goes-on = ap (λ f. behind f (calls_after c ps (calls_after c os g.calls)) ((g.pool ++ sends c os) ++ sends c ps)) twice ∙ says-on (with_start c b now g.clerks)
