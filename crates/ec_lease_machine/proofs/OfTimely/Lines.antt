-- Which lines of a clerk's step are timely.
use Rattle.std.proofs.Common.{◌≡◌, refl, sym, ap, subst, ◌∙◌, ℕ, Bool, true, false, ◌==◌, ◌&&◌, ◌||◌, cond, List, [], ◌∷◌, ◌++◌, Option, Some, None, append-nil, append_assoc}
use Rattle.std.proofs.lemmas.Bool.{cond_both}
use Rattle.std.specs.Prelude.{⊤}
use Rattle.std.specs.List.{list_any}
use Rattle.ec_volume.specs.Image.{is_id}
use Rattle.ec_volume.specs.Update.{listed}
use Rattle.ec_plain.specs.declared.call.Call.{Call}
use Rattle.ec_history.specs.History.{Each}
use Rattle.ec_history.specs.Placing.{answered, begun, or_else, shows, watch}
use Rattle.ec_history.specs.declared.entry.Answer.{Answer}
use Rattle.ec_history.specs.declared.shown.Shown.{Shown}
use Rattle.ec_history.specs.declared.shown.Shown.TheVariants as show
use Rattle.ec_history.specs.declared.watch.Watch.{Watch}
use Rattle.ec_history.proofs.OfLaws.ForPlacing.More.{watch-step}
use Rattle.ec_protocol.specs.World.{is_answer_to}
use Rattle.ec_protocol.specs.declared.clerk.Out.{Out}
use Rattle.ec_protocol.specs.declared.clerk.Out.TheVariants as out
use Rattle.ec_coherence.specs.ChangeLaws.{Calls}
use Rattle.ec_coherence.specs.Steps.{call_of, calls_after, less_call, out_lines}
use Rattle.ec_coherence.proofs.ForServer.Tables.{same_some}
use Rattle.ec_lawful.proofs.OfClerkSteps.ForCalls.CallsLeft.{call-less}
use Rattle.ec_lawful.proofs.LinesLeft.{answered-gone}
use Rattle.ec_history.specs.OfLaws.OfPrinted.Timely.{AreTimely, IsBare}
use Rattle.ec_base.proofs.Numbers.{same-self as same}
use Rattle.ec_base.proofs.Options.{none_some}
use Rattle.ec_history.proofs.OfLaws.ForPlacing.Late.{begun-untold}

-- Lines behind lines.

pub timely-append : (past xs ys : List Shown) → AreTimely past xs → AreTimely (past ++ xs) ys → AreTimely past (xs ++ ys)
timely-append past [] ys a b = subst (λ z. AreTimely z ys) (append-nil past) b
timely-append past (x ∷ xs) ys a b = (a.0, timely-append (past ++ x ∷ []) xs ys a.1 (subst (λ z. AreTimely z ys) (sym (append_assoc past (x ∷ []) xs)) b))

pub timely-front : (past xs ys : List Shown) → AreTimely past (xs ++ ys) → AreTimely past xs
timely-front past [] ys a = tt
timely-front past (x ∷ xs) ys a = (a.0, timely-front (past ++ x ∷ []) xs ys a.1)

-- What is untold behind a line.

pub waits-untold : (c d l : ℕ) (cl : Call) (ss : List Shown) → (watch c (ss ++ show.Waits l d cl ∷ [])).untold ≡ (watch c ss).untold
waits-untold c d l cl ss =
    ap (λ z. z.untold) (watch-step c ss (show.Waits l d cl)) ∙ cond_both (c == d) (begun (watch c ss)) (watch c ss) (λ z. z.untold ≡ (watch c ss).untold) (λ e. begun-untold (watch c ss)) (λ e. refl)

told-untold : (c : ℕ) (ns : List ℕ) (ss : List Shown) → (watch c (ss ++ show.Told c ns ∷ [])).untold ≡ None
told-untold c ns ss = ap (λ z. z.untold) (watch-step c ss (show.Told c ns)) ∙ ap (λ z. (cond z (record (watch c ss) { untold = None }) (watch c ss)).untold) (same c)

abbrev late_or : Watch → Bool → Option ℕ → Option (List ℕ) → Watch
late_or w shown op o =
    elim o [
      | Some ns ↦ record w { untold = Some (ns ++ listed op) }
      | None ↦
          cond shown (record w { open_start = or_else w.open_start w.starts; undurable = w.early ++ (w.undurable ++ listed op); early = [] })
          (cond (is_id w.starts w.open_start) (record w { undurable = w.undurable ++ listed op }) (record w { early = w.early ++ listed op }))
    ]

still-none : (w : Watch) (shown : Bool) (op : Option ℕ) → w.untold ≡ None → (answered w shown op).untold ≡ None
still-none w shown op u = ap (λ o. (late_or w shown op o).untold) u ∙ by shown (is_id w.starts w.open_start)
  where
    by : (s t : Bool)
        → (cond s (record w { open_start = or_else w.open_start w.starts; undurable = w.early ++ (w.undurable ++ listed op); early = [] })
        (cond t (record w { undurable = w.undurable ++ listed op }) (record w { early = w.early ++ listed op }))).untold
        ≡ None
    by true t = u
    by false true = u
    by false false = u

still-some : (w : Watch) (shown : Bool) (op : Option ℕ) (ns : List ℕ) → w.untold ≡ Some ns → (answered w shown op).untold ≡ Some (ns ++ listed op)
still-some w shown op ns u = ap (λ o. (late_or w shown op o).untold) u

answered-step : (c l : ℕ) (cl : Call) (a : Answer) (op : Option ℕ) (ss : List Shown) → watch c (ss ++ show.Answered l c cl a op ∷ []) ≡ answered (begun (watch c ss)) (shows cl a) op
answered-step c l cl a op ss = watch-step c ss (show.Answered l c cl a op) ∙ ap (λ z. cond z (answered (begun (watch c ss)) (shows cl a) op) (watch c ss)) (same c)

answered-none : (c l : ℕ) (cl : Call) (a : Answer) (op : Option ℕ) (ss : List Shown) → (watch c ss).untold ≡ None → (watch c (ss ++ show.Answered l c cl a op ∷ [])).untold ≡ None
answered-none c l cl a op ss u = ap (λ z. z.untold) (answered-step c l cl a op ss) ∙ still-none (begun (watch c ss)) (shows cl a) op (begun-untold (watch c ss) ∙ u)

answered-empty : (c l : ℕ) (cl : Call) (a : Answer) (op : Option ℕ) (ss : List Shown) → op ≡ None → (watch c ss).untold ≡ Some [] → (watch c (ss ++ show.Answered l c cl a op ∷ [])).untold ≡ Some []
answered-empty c l cl a op ss q u =
    ap (λ z. z.untold) (answered-step c l cl a op ss) ∙ still-some (begun (watch c ss)) (shows cl a) op [] (begun-untold (watch c ss) ∙ u) ∙ ap (λ o. Some (listed o)) q

-- Where nothing is untold, whatever comes out of a clerk's step is timely.
pub none-timely : (c : ℕ) (os : List Out) (calls : Calls) (past : List Shown) → (watch c past).untold ≡ None → AreTimely past (out_lines c os calls)
none-timely c [] calls past u = tt
none-timely c (out.Send m ∷ os) calls past u = none-timely c os calls past u
none-timely c (out.OldBoot a ∷ os) calls past u = none-timely c os calls past u
none-timely c (out.Told ns ∷ os) calls past u = (tt, none-timely c os calls (past ++ show.Told c ns ∷ []) (told-untold c ns past))
none-timely c (out.Answer n a op ∷ os) calls past u = by (call_of c n calls) (λ x p v. none-timely c os x p v)
  where
    by : (o : Option (ℕ × Call)) → ((x : Calls) (p : List Shown) → (watch c p).untold ≡ None → AreTimely p (out_lines c os x))
        → AreTimely past (elim o as (λ z. List Shown) [ None ↦ out_lines c os calls | Some l ↦ show.Answered l.0 c l.1 a op ∷ out_lines c os (less_call c n calls) ])
    by None more = more calls past u
    by (Some l) more = ((λ ns e. absurd (none_some (sym u ∙ e))), more (less_call c n calls) (past ++ show.Answered l.0 c l.1 a op ∷ []) (answered-none c l.0 l.1 a op past u))

-- What comes out of a step is told before anything is answered.
abbrev pub ToldFirst : List Out → Type 0
ToldFirst [] = ⊥
ToldFirst (out.Send m ∷ os) = ToldFirst os
ToldFirst (out.OldBoot a ∷ os) = ToldFirst os
ToldFirst (out.Told ns ∷ os) = ⊤
ToldFirst (out.Answer n a op ∷ os) = ⊥

pub told-first : (os more : List Out) → ToldFirst os → ToldFirst (os ++ more)
told-first [] more t = absurd t
told-first (out.Send m ∷ os) more t = told-first os more t
told-first (out.OldBoot a ∷ os) more t = told-first os more t
told-first (out.Told ns ∷ os) more t = tt
told-first (out.Answer n a op ∷ os) more t = absurd t

pub told-timely : (c : ℕ) (os : List Out) (calls : Calls) (past : List Shown) → ToldFirst os → AreTimely past (out_lines c os calls)
told-timely c [] calls past t = tt
told-timely c (out.Send m ∷ os) calls past t = told-timely c os calls past t
told-timely c (out.OldBoot a ∷ os) calls past t = told-timely c os calls past t
told-timely c (out.Told ns ∷ os) calls past t = (tt, none-timely c os calls (past ++ show.Told c ns ∷ []) (told-untold c ns past))
told-timely c (out.Answer n a op ∷ os) calls past t = absurd t

-- What answers no call under way shows no answer.
pub silent-timely : (c : ℕ) (os : List Out) (calls : Calls) (past : List Shown) → calls_after c os calls ≡ calls → AreTimely past (out_lines c os calls)
silent-timely c [] calls past s = tt
silent-timely c (out.Send m ∷ os) calls past s = silent-timely c os calls past s
silent-timely c (out.OldBoot a ∷ os) calls past s = silent-timely c os calls past s
silent-timely c (out.Told ns ∷ os) calls past s = (tt, silent-timely c os calls (past ++ show.Told c ns ∷ []) s)
silent-timely c (out.Answer n a op ∷ os) calls past s = by (call_of c n calls) refl (λ q. silent-timely c os calls past q) s
  where
    gone : call_of c n (calls_after c (out.Answer n a op ∷ os) calls) ≡ None
    gone = answered-gone c n (out.Answer n a op ∷ os) calls (ap (λ z. z || list_any (is_answer_to n) os) (same n))

    by : (o : Option (ℕ × Call)) → call_of c n calls ≡ o → (calls_after c os calls ≡ calls → AreTimely past (out_lines c os calls))
        → calls_after c os (elim o as (λ z. Calls) [ None ↦ calls | Some l ↦ less_call c n calls ]) ≡ calls
        → AreTimely past (elim o as (λ z. List Shown) [ None ↦ out_lines c os calls | Some l ↦ show.Answered l.0 c l.1 a op ∷ out_lines c os (less_call c n calls) ])
    by None q more e = more e
    by (Some l) q more e = absurd (none_some (sym gone ∙ ap (call_of c n) s ∙ q))

-- Where nothing was lost, answers that needed nothing are timely.
module _ (c : ℕ) (all : Calls) where
  -- the answer of a call under way needed nothing
  abbrev pub IsBareOut : Out → Type 0
  IsBareOut (out.Answer n a op) = (l : ℕ) (cl : Call) → call_of c n all ≡ Some (l, cl) → IsBare cl a op
  IsBareOut _ = ⊤

  abbrev Within : Calls → Type 0
  Within calls = (n l : ℕ) (cl : Call) → call_of c n calls ≡ Some (l, cl) → call_of c n all ≡ Some (l, cl)

  less-within : (n : ℕ) (calls : Calls) → Within calls → Within (less_call c n calls)
  less-within n calls w m l cl q = by ((c == c) && (m == n)) (sym (call-less c n c m calls) ∙ q)
    where
      by : (z : Bool) → cond z None (call_of c m calls) ≡ Some (l, cl) → call_of c m all ≡ Some (l, cl)
      by true e = absurd (none_some e)
      by false e = w m l cl e

  bare-within : (os : List Out) (calls : Calls) (past : List Shown) → Within calls → Each IsBareOut os → (watch c past).untold ≡ Some [] → AreTimely past (out_lines c os calls)
  bare-within [] calls past w b u = tt
  bare-within (out.Send m ∷ os) calls past w b u = bare-within os calls past w b.1 u
  bare-within (out.OldBoot a ∷ os) calls past w b u = bare-within os calls past w b.1 u
  bare-within (out.Told ns ∷ os) calls past w b u = (tt, none-timely c os calls (past ++ show.Told c ns ∷ []) (told-untold c ns past))
  bare-within (out.Answer n a op ∷ os) calls past w b u = by (call_of c n calls) refl (λ x p v e. bare-within os x p v b.1 e)
    where
      by : (o : Option (ℕ × Call)) → call_of c n calls ≡ o → ((x : Calls) (p : List Shown) → Within x → (watch c p).untold ≡ Some [] → AreTimely p (out_lines c os x))
          → AreTimely past (elim o as (λ z. List Shown) [ None ↦ out_lines c os calls | Some l ↦ show.Answered l.0 c l.1 a op ∷ out_lines c os (less_call c n calls) ])
      by None q more = more calls past w u
      by (Some l) q more =
          let k : IsBare l.1 a op = b.0 l.0 l.1 (w n l.0 l.1 q) in (
            (λ ns e. (k, sym (same_some (sym u ∙ e)))),
            more (less_call c n calls) (past ++ show.Answered l.0 c l.1 a op ∷ []) (less-within n calls w) (answered-empty c l.0 l.1 a op past k.issues u),
          )

  pub bare-timely : (os : List Out) (past : List Shown) → Each IsBareOut os → (watch c past).untold ≡ Some [] → AreTimely past (out_lines c os all)
  bare-timely os past b u = bare-within os all past (λ n l cl q. q) b u
