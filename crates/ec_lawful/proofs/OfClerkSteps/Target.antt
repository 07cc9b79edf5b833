-- The step under way behind an answer: its system, and its lines.
use Rattle.std.proofs.Common.{◌≡◌, refl, sym, ap, ◌∙◌, ℕ, Bool, true, false, ◌==◌, ◌&&◌, List, [], ◌∷◌, ◌++◌, Option, Some, None, append-nil}
use Rattle.ec_history.specs.declared.entry.Answer.{Answer}
use Rattle.ec_history.specs.declared.shown.Shown.{Shown}
use Rattle.ec_history.specs.declared.shown.Shown.TheVariants as show
use Rattle.ec_plain.specs.declared.call.Call.{Call}
use Rattle.ec_wire.specs.declared.msg.Msg.{Msg}
use Rattle.ec_protocol.specs.Clerk.{Doing}
use Rattle.ec_protocol.specs.declared.clerk.Clerk.{Clerk}
use Rattle.ec_protocol.specs.declared.clerk.Out.{Out}
use Rattle.ec_protocol.specs.declared.clerk.Out.TheVariants as out
use Rattle.ec_coherence.specs.System.{System, Ghost, with_start}
use Rattle.ec_coherence.specs.ChangeLaws.{Calls}
use Rattle.ec_coherence.specs.Steps.{call_of, calls_after, doing_in, less_call, out_lines, sends}
use Rattle.ec_coherence.proofs.ForClerk.Acting.{sends-more}
use Rattle.ec_lawful.specs.OfClerkSteps.CallLaws.{with_change}

-- What comes out joins.

calls-join : (c : ℕ) (os ps : List Out) (calls : Calls) → calls_after c (os ++ ps) calls ≡ calls_after c ps (calls_after c os calls)
calls-join c [] ps calls = refl
calls-join c (out.Send m ∷ os) ps calls = calls-join c os ps calls
calls-join c (out.Told ns ∷ os) ps calls = calls-join c os ps calls
calls-join c (out.OldBoot a ∷ os) ps calls = calls-join c os ps calls
calls-join c (out.Answer n a op ∷ os) ps calls = calls-join c os ps (elim (call_of c n calls) as (λ z. Calls) [ None ↦ calls | Some l ↦ less_call c n calls ])

lines-join : (c : ℕ) (os ps : List Out) (calls : Calls) → out_lines c (os ++ ps) calls ≡ out_lines c os calls ++ out_lines c ps (calls_after c os calls)
lines-join c [] ps calls = refl
lines-join c (out.Send m ∷ os) ps calls = lines-join c os ps calls
lines-join c (out.Told ns ∷ os) ps calls = ap (λ z. show.Told c ns ∷ z) (lines-join c os ps calls)
lines-join c (out.OldBoot a ∷ os) ps calls = lines-join c os ps calls
lines-join c (out.Answer n a op ∷ os) ps calls = go (call_of c n calls) (λ x. lines-join c os ps x)
  where
    go : (o : Option (ℕ × Call)) → ((x : Calls) → out_lines c (os ++ ps) x ≡ out_lines c os x ++ out_lines c ps (calls_after c os x)) → elim o as (λ z. List Shown) [
      | None ↦ out_lines c (os ++ ps) calls
      | Some l ↦ show.Answered l.0 c l.1 a op ∷ out_lines c (os ++ ps) (less_call c n calls)
    ] ≡ elim o as (λ z. List Shown) [
      | None ↦ out_lines c os calls
      | Some l ↦ show.Answered l.0 c l.1 a op ∷ out_lines c os (less_call c n calls)
    ] ++ out_lines c ps (calls_after c os (elim o as (λ z. Calls) [ None ↦ calls | Some l ↦ less_call c n calls ]))
    go None r = r calls
    go (Some l) r = ap (λ z. show.Answered l.0 c l.1 a op ∷ z) (r (less_call c n calls))

pub with-twice : (c b : ℕ) (k now : Clerk) (f : ℕ → ℕ → Option Clerk) → with_start c b now (with_start c b k f) ≡ with_start c b now f
with-twice c b k now f = λ j x y. point ((x == c) && (y == b)) x y j
  where
    point : (z : Bool) (x y : ℕ) → elim z as (λ o. Option Clerk) [ true ↦ Some now | false ↦ elim z as (λ o. Option Clerk) [ true ↦ Some k | false ↦ f x y ] ] ≡ elim z as (λ o. Option Clerk) [ true ↦ Some now | false ↦ f x y ]
    point true x y = refl
    point false x y = refl

module _ (g : System) (c b : ℕ) (d : Doing) (γ : Ghost) (n l : ℕ) (cl : Call) (a : Answer) (op : Option ℕ) (now : Clerk) (δ : Ghost) where
  abbrev pub here : System
  here = doing_in c b d γ g

  -- the step with this clerk, once the answer came out
  abbrev pub next : Doing
  next = record d { clerk = now; outs = d.outs ++ out.Answer n a op ∷ [] }

  abbrev pub target : System
  target = with_change here c b now (less_call c n here.calls) here.pool δ

  abbrev given : (ℕ → ℕ → Option Clerk) → Calls → List (ℕ × Msg) → System
  given f calls p = record g { clerks = f; calls = calls; pool = p; ghost = δ }

  module _ (line : call_of c n here.calls ≡ Some (l, cl)) where
    one-less : calls_after c (out.Answer n a op ∷ []) here.calls ≡ less_call c n here.calls
    one-less = ap (λ z. elim z as (λ v. Calls) [ None ↦ here.calls | Some x ↦ less_call c n here.calls ]) line

    pub target-is : target ≡ doing_in c b next δ g
    target-is = ap (λ f. given f (less_call c n here.calls) here.pool) (with-twice c b d.clerk now g.clerks)
        ∙ ap (λ z. given (with_start c b now g.clerks) z here.pool) (sym (calls-join c d.outs (out.Answer n a op ∷ []) g.calls ∙ one-less))
        ∙ ap (λ p. given (with_start c b now g.clerks) (calls_after c next.outs g.calls) (g.pool ++ p)) (sym (sends-more c d.outs (out.Answer n a op ∷ []) ∙ append-nil (sends c d.outs)))

    pub lines-are : out_lines c next.outs g.calls ≡ out_lines c d.outs g.calls ++ show.Answered l c cl a op ∷ []
    lines-are = lines-join c d.outs (out.Answer n a op ∷ []) g.calls ∙ ap (λ z. out_lines c d.outs g.calls ++ z) (ap (λ z. elim z as (λ v. List Shown) [ None ↦ [] | Some x ↦ show.Answered x.0 c x.1 a op ∷ [] ]) line)

    -- as the laws of one answer have it, of a clerk with other waiting calls
    pub plain-is : (k : Clerk)
        → record here { clerks = with_start c b now (with_start c b k here.clerks); calls = calls_after c (out.Answer n a op ∷ []) here.calls; pool = (here.pool ++ []) ++ []; ghost = δ } ≡ target
    plain-is k = ap (λ f. given f (calls_after c (out.Answer n a op ∷ []) here.calls) ((here.pool ++ []) ++ [])) (with-twice c b k now here.clerks)
        ∙ ap (λ z. given (with_start c b now here.clerks) z ((here.pool ++ []) ++ [])) one-less
        ∙ ap (given (with_start c b now here.clerks) (less_call c n here.calls)) (append-nil (here.pool ++ []) ∙ append-nil here.pool)
