-- Lines that are no answers give no entries of calls.
use Rattle.std.proofs.Common.{◌≡◌, refl, sym, ap, subst, ◌∙◌, inl, inr, ◌⊎◌, arith, ◌≤◌, ◌+◌, ℕ, List, [], ◌∷◌, ◌++◌, drop, length, Option, append-nil}
use Rattle.std.specs.Prelude.{⊤}
use Rattle.ec_history.specs.History.{Each, History, Throughout}
use Rattle.ec_history.specs.Placing.{owner, place, watch}
use Rattle.ec_history.specs.declared.entry.Entry.{Entry}
use Rattle.ec_history.specs.declared.entry.Entry.TheVariants as entry
use Rattle.ec_history.specs.declared.shown.Shown.{Shown}
use Rattle.ec_history.specs.declared.shown.Shown.TheVariants as show
use Rattle.ec_history.proofs.OfLaws.ForPlacing.Cuts.{throughout-append}
use Rattle.ec_history.proofs.OfLaws.ForPlacing.Late.{place-ended, place-no_call}
use Rattle.ec_history.proofs.OfLaws.ForPlacing.Numbers.{each-append}
use Rattle.ec_lawful.specs.FreshIds.{IsFresh, OnCreate}
use Rattle.ec_lawful.specs.FreshIds.{AreQuiet}
use Rattle.ec_base.specs.Options.{or_zero}

-- no entry of a call
abbrev IsLoss : ℕ × Entry → Type 0
IsLoss (p, entry.Call c b l begun cl a op) = ⊥
IsLoss (p, entry.Loss c b ns) = ⊤

each-loss : (P : ℕ → ℕ → ℕ → Option ℕ → Type 0) (es : History) → Each IsLoss es → Each (OnCreate P) es
each-loss P [] k = tt
each-loss P ((p, entry.Call c b l begun cl a op) ∷ es) k = absurd k.0
each-loss P ((p, entry.Loss c b ns) ∷ es) k = (tt, each-loss P es k.1)

fresh-loss : (f : ℕ → ℕ) (past es : History) → Each IsLoss es → Throughout (IsFresh f) past es
fresh-loss f past [] k = tt
fresh-loss f past ((p, entry.Call c b l begun cl a op) ∷ es) k = absurd k.0
fresh-loss f past ((p, entry.Loss c b ns) ∷ es) k = (tt, fresh-loss f (past ++ (p, entry.Loss c b ns) ∷ []) es k.1)

-- what a line adds
abbrev Adds : List Shown → List Shown → Type 0
Adds ss ls = (es : History) × (place (ss ++ ls) ≡ place ss ++ es) × Each IsLoss es

none : (ss : List Shown) (s : Shown) → place (ss ++ s ∷ []) ≡ place ss ++ [] → Adds ss (s ∷ [])
none ss s e = ([], e, tt)

adds : (ss ls : List Shown) → AreQuiet ls → Adds ss ls
adds ss [] k = ([], ap place (append-nil ss) ∙ sym (append-nil (place ss)), tt)
adds ss (show.Waits l c cl ∷ []) k = none ss (show.Waits l c cl) (place-no_call ss (show.Waits l c cl) (λ d. refl))
adds ss (show.Answered l c cl a op ∷ []) k = absurd k
adds ss (show.Durable c ns ∷ []) k = none ss (show.Durable c ns) (place-no_call ss (show.Durable c ns) (λ d. refl))
adds ss (show.Ended c ns ∷ []) k = ((length ss + 1, entry.Loss c (or_zero (owner (watch c ss))) ns) ∷ [], place-ended ss c ns, (tt, tt))
adds ss (show.Unseen c ∷ []) k = none ss (show.Unseen c) (place-no_call ss (show.Unseen c) (λ d. refl))
adds ss (show.Told c ns ∷ []) k = none ss (show.Told c ns) (place-no_call ss (show.Told c ns) (λ d. refl))
adds ss (show.Crashed c ∷ []) k = none ss (show.Crashed c) (place-no_call ss (show.Crashed c) (λ d. refl))
adds ss (show.Stopped ∷ []) k = none ss show.Stopped (place-no_call ss show.Stopped (λ d. refl))
adds ss (show.Started ∷ []) k = none ss show.Started (place-no_call ss show.Started (λ d. refl))
adds ss (show.Nothing ∷ []) k = none ss show.Nothing (place-no_call ss show.Nothing (λ d. refl))
adds ss (show.Unsettled ∷ []) k = none ss show.Unsettled (place-no_call ss show.Unsettled (λ d. refl))
adds ss (show.Bad n m ∷ []) k = none ss (show.Bad n m) (place-no_call ss (show.Bad n m) (λ d. refl))
adds ss (show.DiskBad n ∷ []) k = none ss (show.DiskBad n) (place-no_call ss (show.DiskBad n) (λ d. refl))
adds ss (show.Limit n m ∷ []) k = none ss (show.Limit n m) (place-no_call ss (show.Limit n m) (λ d. refl))
adds ss (show.Spent n ∷ []) k = none ss (show.Spent n) (place-no_call ss (show.Spent n) (λ d. refl))
adds ss (s ∷ r ∷ ls) k = absurd k

pub quiet-each : (P : ℕ → ℕ → ℕ → Option ℕ → Type 0) (ss ls : List Shown) → AreQuiet ls → Each (OnCreate P) (place ss) → Each (OnCreate P) (place (ss ++ ls))
quiet-each P ss ls k e = let x = adds ss ls k in subst (Each (OnCreate P)) (sym x.1) (each-append (OnCreate P) (place ss) x.0 e (each-loss P x.0 x.2))

pub quiet-fresh : (f : ℕ → ℕ) (ss ls : List Shown) → AreQuiet ls → Throughout (IsFresh f) [] (place ss) → Throughout (IsFresh f) [] (place (ss ++ ls))
quiet-fresh f ss ls k t = let x = adds ss ls k in subst (Throughout (IsFresh f) []) (sym x.1) (throughout-append (IsFresh f) [] (place ss) x.0 t (fresh-loss f (place ss) x.0 x.2))

-- a front of lines and a last one is a front of the lines, or all of it
pub cut-front : (xs more told last : List Shown) → xs ++ more ≡ told ++ last → length last ≤ 1 → ((rest : List Shown) × (xs ++ rest ≡ told)) ⊎ (xs ≡ told ++ last)
cut-front [] more told last e le = inl (told, refl)
cut-front (x ∷ xs) more [] last e le = inr (alone xs more last e le)
  where
    alone : (ys zs ls : List Shown) → x ∷ ys ++ zs ≡ ls → length ls ≤ 1 → x ∷ ys ≡ ls
    alone [] [] ls e le = e
    alone [] (z ∷ zs) ls e le = absurd (omega (arith, le, ap length (sym e)))
    alone (y ∷ ys) zs ls e le = absurd (omega (arith, le, ap length (sym e)))
cut-front (x ∷ xs) more (t ∷ told) last e le = go (cut-front xs more told last (ap (λ (ls : List Shown). drop 1 ls) e) le)
  where
    head : x ≡ t
    head = cc

    go : ((rest : List Shown) × (xs ++ rest ≡ told)) ⊎ (xs ≡ told ++ last) → ((rest : List Shown) × ((x ∷ xs) ++ rest ≡ t ∷ told)) ⊎ (x ∷ xs ≡ (t ∷ told) ++ last)
    go (inl (rest, q)) = inl (rest, ap (λ (y : Shown). y ∷ xs ++ rest) head ∙ ap (λ (ls : List Shown). t ∷ ls) q)
    go (inr q) = inr (ap (λ (y : Shown). y ∷ xs) head ∙ ap (λ (ls : List Shown). t ∷ ls) q)

pub quiet-few : (ls : List Shown) → AreQuiet ls → length ls ≤ 1
quiet-few [] k = omega arith
quiet-few (s ∷ []) k = omega arith
quiet-few (s ∷ r ∷ ls) k = absurd k
